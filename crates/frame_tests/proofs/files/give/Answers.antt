use Rattle.std.specs.Prelude.{refl}
use Rattle.frame_tests.proofs.Holding.{given}
use Rattle.frame_tests.proofs.files.give.Goals as goal

pub returns-in-Ok-clause-given : goal.returns-in-Ok-clause-given
returns-in-Ok-clause-given c = given _ _ _ _ _ _ _ c.is_ok.ensures.value c.insert.ensures.items c.in-Ok.ensures.items refl
