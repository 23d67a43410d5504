use Rattle.std.proofs.Common.{ℕ, ◌∙◌, ap, sym, arith}
use Rattle.net_theory.specs.declared.data.Sig.{Sig}
use Rattle.net_theory.specs.declared.data.Sig.TheVariants.{Zero, One}
use Rattle.net_core.specs.Marks.{nodes_of}
use Rattle.net_basis.proofs.Placements.{put_same, put_other}
use Rattle.net_basis.proofs.table.put_constants.Goals as goal

pub returns-clause-zero : goal.returns-clause-zero
returns-clause-zero c =
    ap (λ (f : ℕ → Sig). f 0) c.put-2.ensures.put
    ∙ put_other (nodes_of c.put.new.table) c.new-2.result One 0 (omega (arith, c.new-2.ensures))
    ∙ ap (λ (f : ℕ → Sig). f 0) c.put.ensures.put
    ∙ put_same (nodes_of c.args.table.now) c.new.result Zero 0 (sym c.new.ensures)

pub returns-clause-one : goal.returns-clause-one
returns-clause-one c =
    ap (λ (f : ℕ → Sig). f 15) c.put-2.ensures.put
    ∙ put_same (nodes_of c.put.new.table) c.new-2.result One 15 (sym c.new-2.ensures)
