-- No call of a sink failed.
use Rattle.std.specs.Prelude.{◌≡◌, ℕ, List}
use Rattle.std.proofs.Common.{arith, subst}
use Rattle.command_line.specs.CommandLine.{spelled}
use Rattle.frame_core.specs.Run.{run_of}
use Rattle.chain_app.specs.KeepsPromises.{KeepsPromises}
use Rattle.batsokemi_c.specs.Called.{holding}
use Rattle.batsokemi_c.specs.CallLaws.{seen, has_run}
use Rattle.batsokemi_c.proofs.calling.call.Goals as goal

pub returns : goal.returns
returns c =
    let words : List (List ℕ) = spelled c.in-Ok.words in
    let left : List ℕ = c.run-ended.new.source in
    let keeps : KeepsPromises (run_of words (holding c.args.input.now 0, holding left 0)
    (seen c.args.out.now, seen c.run-ended.new.out) (seen c.args.note.now, seen c.run-ended.new.note) c.run-ended.result) =
    subst (λ (i : List ℕ). KeepsPromises (run_of words (holding i 0, holding left 0)
    (seen c.args.out.now, seen c.run-ended.new.out) (seen c.args.note.now, seen c.run-ended.new.note) c.run-ended.result))
    c.new-source.ensures c.run-ended.ensures in
    let out_held : c.run-ended.new.out.schedule.faults ≡ 0 = omega (arith, c.faults.ensures, c.if-faults-gt0.false) in
    let note_held : c.run-ended.new.note.schedule.faults ≡ 0 = omega (arith, c.faults-2.ensures, c.if-faults-gt0-2.false) in
    has_run KeepsPromises c.args.command.now c.args.input.now words left c.args.out.now c.run-ended.new.out c.args.note.now
    c.run-ended.new.note c.run-ended.result c.in-Ok.ensures c.requires.out c.requires.note out_held note_held keeps
