use Rattle.std.proofs.Common.{◌≢◌, ◌≡◌, ℕ, ◌∙◌, ap, sym, arith}
use Rattle.net_theory.specs.declared.data.Sig.{Sig}
use Rattle.net_core.specs.Marks.{nodes_of}
use Rattle.net_basis.proofs.Placements.{put_same, put_other}
use Rattle.net_basis.proofs.table.put_operands.Goals as goal

pub returns-clause-operands : goal.returns-clause-operands
returns-clause-operands c =
    let other : (w : ℕ) → w ≢ 3 → w ≢ 5 → nodes_of c.put-2.new.table w ≡ nodes_of c.put_constants.new.table w =
    λ w three five. ap (λ (f : ℕ → Sig). f w) c.put-2.ensures.put
    ∙ put_other (nodes_of c.put.new.table) c.new-2.result c.args.b w (λ e. five (e ∙ c.new-2.ensures))
    ∙ ap (λ (f : ℕ → Sig). f w) c.put.ensures.put
    ∙ put_other (nodes_of c.put_constants.new.table) c.new.result c.args.a w (λ e. three (e ∙ c.new.ensures)) in
    record {
      first = ap (λ (f : ℕ → Sig). f 3) c.put-2.ensures.put
          ∙ put_other (nodes_of c.put.new.table) c.new-2.result c.args.b 3 (omega (arith, c.new-2.ensures))
          ∙ ap (λ (f : ℕ → Sig). f 3) c.put.ensures.put
          ∙ put_same (nodes_of c.put_constants.new.table) c.new.result c.args.a 3 (sym c.new.ensures);
      second = ap (λ (f : ℕ → Sig). f 5) c.put-2.ensures.put
          ∙ put_same (nodes_of c.put.new.table) c.new-2.result c.args.b 5 (sym c.new-2.ensures);
      zero = other 0 (omega arith) (omega arith) ∙ c.put_constants.ensures.zero;
      one = other 15 (omega arith) (omega arith) ∙ c.put_constants.ensures.one;
    }
