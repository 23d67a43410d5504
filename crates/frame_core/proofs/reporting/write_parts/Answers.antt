use Rattle.std.proofs.Common.{◌≡◌, ◌∷◌, rules}
use Rattle.std.proofs.lemmas.Grind.{common_steps}
use Rattle.frame_core.specs.Views.{texts_of}
use Rattle.frame_core.specs.PiecesLaws.{one_truncated}
use Rattle.frame_core.proofs.reporting.write_parts.Goals as goal

pub returns-in_err-write_all-clause-prefix : goal.returns-in_err-write_all-clause-prefix
returns-in_err-write_all-clause-prefix g c =
    let are : texts_of c.loop-part.left.now ≡ c.deref.result.now ∷ texts_of c.in-Some.rest.now = search (rules, common_steps) in
    one_truncated _ _ _ _ _ _ _ are c.loop-part.invariant.writing c.write_all.ensures.prefix
