use Rattle.std.proofs.Common.{◌≡◌, List, ℕ, Option, Some, refl, sym, subst, ◌∙◌, rules}
use Rattle.std.proofs.lemmas.Grind.{common_steps}
use Rattle.port_io.specs.Faults.{Rose}
use Rattle.frame_core.specs.Task.{IsBeyond, IsWithin}
use Rattle.frame_core.specs.PerformingLaws.{performed, fault_read, long_read, want_read}
use Rattle.frame_core.proofs.Streams.{taken_whole, taken_to_end}
use Rattle.frame_core.proofs.performing.attempt.Goals as goal

pub returns-in-Err-ReadFault : goal.returns-in-Err-ReadFault
returns-in-Err-ReadFault g c =
    let rose : Rose (g.S.Source.faults c.args.source.now) (g.S.Source.faults c.read_pieces.new.source) = search (rules, common_steps) in
    fault_read (g.J.StreamJob.task c.args.job.now) c.in-Some.most _ _ _ (sym c.in-Some.is ∙ c.reads.ensures) rose refl refl

pub returns-in-Err-TooLong : goal.returns-in-Err-TooLong
returns-in-Err-TooLong g c =
    let long : (input : List ℕ) → g.S.Source.left c.args.source.now ≡ Some input → IsBeyond (Some c.in-Some.most) input = search (rules, common_steps) in
    let faultless : g.S.Source.faults c.read_pieces.new.source ≡ g.S.Source.faults c.args.source.now = search (rules, common_steps) in
    long_read (g.J.StreamJob.task c.args.job.now) c.in-Some.most _ _ _ (sym c.in-Some.is ∙ c.reads.ensures) long faultless refl refl

pub returns-in-Err-Memory : goal.returns-in-Err-Memory
returns-in-Err-Memory g c =
    let faultless : g.S.Source.faults c.read_pieces.new.source ≡ g.S.Source.faults c.args.source.now = search (rules, common_steps) in
    want_read (g.J.StreamJob.task c.args.job.now) c.in-Some.most _ _ _ (sym c.in-Some.is ∙ c.reads.ensures) faultless refl refl

pub returns : goal.returns
returns g c =
    let task = g.J.StreamJob.task c.args.job.now in
    let reads = sym c.in-Some.is ∙ c.reads.ensures in
    let taken = c.in-Ok.ensures.taken in
    let faultless : g.S.Source.faults c.read_pieces.new.source ≡ g.S.Source.faults c.args.source.now = search (rules, common_steps) in
    performed task (Some c.in-Some.most) taken.bytes c.answer-2.result _ _ _ reads
    (taken_whole c.in-Some.most _ _ _ taken) (record { end = taken_to_end c.in-Some.most _ _ _ taken; faultless = faultless })
    (c.answer-2.ensures taken.bytes taken.holds (subst (λ (r : Option ℕ). IsWithin r taken.bytes) reads taken.within))
