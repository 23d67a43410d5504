-- No call of a sink failed.
use Rattle.std.specs.Prelude.{◌≡◌, ℕ, List}
use Rattle.std.proofs.Common.{arith, subst}
use Rattle.command_line.specs.CommandLine.{spelled}
use Rattle.frame_core.specs.Run.{run_of}
use Rattle.chain_app.specs.Pair.{KeepsPair}
use Rattle.batsokemi_c.specs.Called.{holding}
use Rattle.batsokemi_c.specs.CallLaws.{seen, has_run}
use Rattle.batsokemi_c.proofs.calling.call_pair.Goals as goal

pub returns : goal.returns
returns c =
    let words : List (List ℕ) = spelled c.in-Ok.words in
    let left : List ℕ = c.run_pair-ended.new.source in
    let keeps : KeepsPair c.args.first.now (run_of words (holding c.args.second.now 0, holding left 0)
    (seen c.args.out.now, seen c.run_pair-ended.new.out) (seen c.args.notes.now, seen c.run_pair-ended.new.note) c.run_pair-ended.result) =
    subst (λ (i : List ℕ). KeepsPair c.args.first.now (run_of words (holding i 0, holding left 0)
    (seen c.args.out.now, seen c.run_pair-ended.new.out) (seen c.args.notes.now, seen c.run_pair-ended.new.note) c.run_pair-ended.result))
    c.new-source.ensures c.run_pair-ended.ensures in
    let out_held : c.run_pair-ended.new.out.schedule.faults ≡ 0 = omega (arith, c.faults.ensures, c.if-faults-gt0.false) in
    let note_held : c.run_pair-ended.new.note.schedule.faults ≡ 0 = omega (arith, c.faults-2.ensures, c.if-faults-gt0-2.false) in
    has_run (KeepsPair c.args.first.now) c.args.command.now c.args.second.now words left c.args.out.now c.run_pair-ended.new.out c.args.notes.now
    c.run_pair-ended.new.note c.run_pair-ended.result c.in-Ok.ensures c.requires.out c.requires.notes out_held note_held keeps
