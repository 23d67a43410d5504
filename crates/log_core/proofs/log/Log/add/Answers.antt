use Rattle.std.proofs.Common.{List, ◌∷◌, [], ◌++◌, ap, ◌∙◌}
use Rattle.sat_theory.specs.Line as theory
use Rattle.log_core.proofs.ReadRows.{result_put}
use Rattle.log_core.proofs.log.Log.add.Goals as goal

pub invariant_of-self-2 : goal.invariant_of-self-2
invariant_of-self-2 c =
    rw c.in_ok-push_or_truncate.ensures.kept
    (result_put c.self.inside.heads.items c.push_or_truncate.new.heads.items c.self.inside.bytes.items
    c.pack_addition-packed.new.bytes.items (theory.Add c.args.id c.args.lits.now c.args.hints.now)
    c.pack_addition-packed.result
    c.self.invariant c.pack_addition-packed.ensures.packed c.in_ok-push_or_truncate.ensures.ok).0

pub returns-clause-ok : goal.returns-clause-ok
returns-clause-ok c =
    let line : theory.Line = theory.Add c.args.id c.args.lits.now c.args.hints.now in
    rw c.in_ok-push_or_truncate.ensures.kept
    (result_put c.self.inside.heads.items c.push_or_truncate.new.heads.items c.self.inside.bytes.items c.pack_addition-packed.new.bytes.items line c.pack_addition-packed.result
    c.self.invariant c.pack_addition-packed.ensures.packed c.in_ok-push_or_truncate.ensures.ok).1
    ∙ ap (λ (lines : List theory.Line). lines ++ line ∷ []) c.self.view_is
