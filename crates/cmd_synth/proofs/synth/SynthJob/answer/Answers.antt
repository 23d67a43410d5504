-- A certificate is written, or there is none.
use Rattle.std.proofs.Common.{Err, refl}
use Rattle.settings.specs.declared.synth.SynthSettings.{SynthSettings}
use Rattle.frame_core.specs.PerformingLaws.{answered}
use Rattle.cmd_synth.proofs.Writing.{went_out}
use Rattle.cmd_synth.proofs.synth.SynthJob.answer.Goals as goal

pub returns-in-Ok : goal.returns-in-Ok
returns-in-Ok g c =
    let settings : SynthSettings = c.args.self.now.settings in
    went_out settings c.args.bytes.now c.write_certificate.result _ _ (c.write_certificate.ensures settings c.args.bytes.now c.requires.within c.in-Ok.ensures.begun) refl

pub returns-in-Err : goal.returns-in-Err
returns-in-Err g c =
    let settings : SynthSettings = c.args.self.now.settings in
    answered _ _ (Err c.stop_of.result) _ _ _ (c.stop_of.ensures settings c.args.bytes.now c.requires.within c.in-Err.ensures.refusal) c.finish.ensures
