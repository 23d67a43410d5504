use Rattle.std.specs.Prelude.{◌≡◌, ◌∷◌, map}
use Rattle.std.proofs.Common.{rules}
use Rattle.std.proofs.lemmas.Grind.{common_steps}
use Rattle.port_io.specs.CountLaws.{rose_earlier}
use Rattle.frame_core.specs.PiecesLaws.{one_truncated}
use Rattle.frame_tests.specs.Small.{line_of}
use Rattle.frame_tests.proofs.lines.write_lines.Goals as goal

pub returns-in-Err-WriteFault : goal.returns-in-Err-WriteFault
returns-in-Err-WriteFault g c =
    let are : map line_of c.loop-byte.left.now ≡ c.deref.result.now ∷ map line_of c.in-Some.rest.now = search (rules, common_steps) in
    (one_truncated _ _ _ _ _ _ _ are c.loop-byte.invariant.writing c.write_all.ensures.prefix, rose_earlier _ _ _ c.loop-byte.invariant.never_falls c.in-Err-WriteFault.ensures.only_if_rose)
