use Rattle.std.proofs.Common.{◌≡◌, ◌∷◌, map, rules}
use Rattle.std.proofs.lemmas.Grind.{common_steps}
use Rattle.file_io.specs.FaultLine.{escaped_byte}
use Rattle.frame_core.specs.PiecesLaws.{one_truncated}
use Rattle.file_io.proofs.reporting.write_name.Goals as goal

pub returns-in_err-write_byte-clause-prefix : goal.returns-in_err-write_byte-clause-prefix
returns-in_err-write_byte-clause-prefix g c =
    let are : map escaped_byte c.loop-byte.left.now ≡ escaped_byte c.in-Some.byte.now ∷ map escaped_byte c.in-Some.rest.now = search (rules, common_steps) in
    one_truncated _ _ _ _ _ _ _ are c.loop-byte.invariant.writing c.write_byte.ensures.prefix
