use Rattle.std.proofs.Common.{List, ◌∷◌, [], ◌++◌, ap, ◌∙◌}
use Rattle.sat_theory.specs.Line as theory
use Rattle.log_core.proofs.ReadRows.{result_put}
use Rattle.log_core.proofs.log.Log.delete.Goals as goal

pub invariant_of-self-2 : goal.invariant_of-self-2
invariant_of-self-2 c =
    rw c.in_ok-push_or_truncate.ensures.kept
    (result_put c.self.inside.heads.items c.push_or_truncate.new.heads.items c.self.inside.bytes.items
    c.pack_deletion-packed.new.bytes.items (theory.Delete c.args.id c.args.ids.now) c.pack_deletion-packed.result
    c.self.invariant c.pack_deletion-packed.ensures.packed c.in_ok-push_or_truncate.ensures.ok).0

pub returns-clause-ok : goal.returns-clause-ok
returns-clause-ok c =
    let line : theory.Line = theory.Delete c.args.id c.args.ids.now in
    rw c.in_ok-push_or_truncate.ensures.kept
    (result_put c.self.inside.heads.items c.push_or_truncate.new.heads.items c.self.inside.bytes.items c.pack_deletion-packed.new.bytes.items line c.pack_deletion-packed.result
    c.self.invariant c.pack_deletion-packed.ensures.packed c.in_ok-push_or_truncate.ensures.ok).1
    ∙ ap (λ (lines : List theory.Line). lines ++ line ∷ []) c.self.view_is
