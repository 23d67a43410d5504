-- One more section, and its result.
use Rattle.cmd_synth.proofs.synth.write_sections.Goals as goal

pub loop-next-preserved : goal.loop-next-preserved
loop-next-preserved g c = λ settings bytes first within out. c.in-On.ensures.comes settings bytes first within (c.loop-next.invariant settings bytes first within out)
