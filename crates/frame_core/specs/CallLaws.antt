-- What the outcome of a run says about its calls: which failed, and that the input was read to its end.
use Rattle.std.specs.Prelude.{◌≡◌, ◌≢◌, ℕ, ◌<◌, List, [], length, Option, Some, None}
use Rattle.std.proofs.Common.{refl, sym, ◌∙◌, ap, subst, arith}
use Rattle.frame_core.specs.declared.status.Status.TheVariants as statuses
use Rattle.frame_core.specs.Outside.{PortState, IsFaultless}
use Rattle.frame_core.specs.Task.{Task, IsBeyond}
use Rattle.frame_core.specs.Run.{Outcome, ReadFault, TooLong, Memory, Answered, Truncated, OutOfMemoryMidway}
use Rattle.frame_core.specs.Run.{ReportTruncated, NoAnswer, status_of, Run, IsRun, HasInput, SourceRead, SourceLeft}
use Rattle.frame_core.specs.Run.{SourceAfter, OutAfter}

-- ---- the source

-- a run that wrote had read to the end
unread_by : (o : Outcome) (task : Task) (bytes : List ℕ) (source source' out out' : PortState) (input : List ℕ) →
    SourceRead source source' o → OutAfter task bytes out out' o → source.bytes ≡ Some input →
    (source'.bytes ≡ Some [] → ⊥) → out' ≡ out
unread_by ReadFault task bytes source source' out out' input read after reported left = after
unread_by TooLong task bytes source source' out out' input read after reported left = after
unread_by Memory task bytes source source' out out' input read after reported left = after
unread_by (Answered reply) task bytes source source' out out' input read after reported left = absurd (left (read.end input reported))
unread_by Truncated task bytes source source' out out' input read after reported left = absurd (left (read.end input reported))
unread_by OutOfMemoryMidway task bytes source source' out out' input read after reported left = absurd (left (read.end input reported))
unread_by (ReportTruncated reply) task bytes source source' out out' input read after reported left = absurd (left (read.end input reported))
unread_by (NoAnswer refusal) task bytes source source' out out' input read after reported left = after

pub unread : (task : Task) (r : Run) (o : Outcome) (most : ℕ) (input : List ℕ) → IsRun task r o →
    task.reads ≡ Some most → r.source.bytes ≡ Some input → (r.source'.bytes ≡ Some [] → ⊥) → r.out' ≡ r.out
unread task r o most input run reads reported left =
    unread_by o task run.bytes r.source r.source' r.out r.out' input (subst (λ (m : Option ℕ). SourceAfter m r.source r.source' o) reads run.on_source) run.on_out reported left

-- an input that was judged was read to its end
read_by : (o : Outcome) (most : ℕ) (source source' : PortState) (input : List ℕ) → SourceRead source source' o →
    (o ≡ TooLong → most < length input) → source.bytes ≡ Some input →
    (status_of o ≡ statuses.Limit → most < length input → ⊥) → (status_of o ≡ statuses.ReadFault → ⊥) →
    (status_of o ≡ statuses.Memory → ⊥) → source'.bytes ≡ Some []
read_by ReadFault most source source' input read long reported a b c = absurd (b refl)
read_by TooLong most source source' input read long reported a b c = absurd (a refl (long refl))
read_by Memory most source source' input read long reported a b c = absurd (c refl)
read_by (Answered reply) most source source' input read long reported a b c = read.end input reported
read_by Truncated most source source' input read long reported a b c = read.end input reported
read_by OutOfMemoryMidway most source source' input read long reported a b c = read.end input reported
read_by (ReportTruncated reply) most source source' input read long reported a b c = read.end input reported
read_by (NoAnswer refusal) most source source' input read long reported a b c = read.end input reported

-- an input that is reported as too long is too long
too_long_is : (task : Task) (r : Run) (o : Outcome) (most : ℕ) (input : List ℕ) → IsRun task r o → task.reads ≡ Some most → r.source.bytes ≡ Some input → o ≡ TooLong → most < length input
too_long_is task r TooLong most input run reads reported is =
    subst (λ (m : Option ℕ). IsBeyond m input) reads (run.judged input (subst (λ (m : Option ℕ). HasInput m r.source.bytes input) (sym reads) reported))
too_long_is task r ReadFault most input run reads reported is = absurd cc
too_long_is task r Memory most input run reads reported is = absurd cc
too_long_is task r (Answered reply) most input run reads reported is = absurd cc
too_long_is task r Truncated most input run reads reported is = absurd cc
too_long_is task r OutOfMemoryMidway most input run reads reported is = absurd cc
too_long_is task r (ReportTruncated reply) most input run reads reported is = absurd cc
too_long_is task r (NoAnswer refusal) most input run reads reported is = absurd cc

pub read_to_end : (task : Task) (r : Run) (o : Outcome) (most : ℕ) (input : List ℕ) → IsRun task r o →
    task.reads ≡ Some most → r.source.bytes ≡ Some input → (r.status ≡ statuses.Limit → most < length input → ⊥) →
    r.status ≢ statuses.ReadFault → r.status ≢ statuses.Memory → r.source'.bytes ≡ Some []
read_to_end task r o most input run reads reported a b c =
    read_by o most r.source r.source' input (subst (λ (m : Option ℕ). SourceAfter m r.source r.source' o) reads
    run.on_source) (λ is. too_long_is task r o most input run reads reported is) reported (λ is. a (run.status_is
    ∙ is)) (λ is. b (run.status_is ∙ is)) (λ is. c (run.status_is ∙ is))

left_alone : (o : Outcome) (old new : PortState) → SourceLeft old new o → new ≡ old
left_alone ReadFault old new after = absurd after
left_alone TooLong old new after = absurd after
left_alone Memory old new after = after
left_alone (Answered reply) old new after = after
left_alone Truncated old new after = after
left_alone OutOfMemoryMidway old new after = after
left_alone (ReportTruncated reply) old new after = after
left_alone (NoAnswer refusal) old new after = after

pub untouched : (task : Task) (r : Run) (o : Outcome) → IsRun task r o → task.reads ≡ None → r.source' ≡ r.source
untouched task r o run reads = left_alone o r.source r.source' (subst (λ (m : Option ℕ). SourceAfter m r.source r.source' o) reads run.on_source)

-- ---- calls that failed

-- if a port is as before, no call on it failed
same_faultless : {A : Type 0} (old new : PortState) → new ≡ old → old.faults < new.faults → A
same_faultless old new same more =
    let counts : new.faults ≡ old.faults = ap (λ (s : PortState). s.faults) same in
    absurd (omega (arith, counts, more))

faultless_none : {A : Type 0} (old new : PortState) → IsFaultless old new → old.faults < new.faults → A
faultless_none old new faultless more = absurd (omega (arith, faultless, more))

-- a failed call of the source gives the status of a read fault
failed_read : (old new : PortState) (o : Outcome) → SourceRead old new o → old.faults < new.faults → status_of o ≡ statuses.ReadFault
failed_read old new ReadFault after more = refl
failed_read old new TooLong after more = faultless_none old new after more
failed_read old new Memory after more = faultless_none old new after more
failed_read old new (Answered reply) after more = faultless_none old new after.faultless more
failed_read old new Truncated after more = faultless_none old new after.faultless more
failed_read old new OutOfMemoryMidway after more = faultless_none old new after.faultless more
failed_read old new (ReportTruncated reply) after more = faultless_none old new after.faultless more
failed_read old new (NoAnswer refusal) after more = faultless_none old new after.faultless more

failed_source : (reads : Option ℕ) (old new : PortState) (o : Outcome) → SourceAfter reads old new o → old.faults < new.faults → status_of o ≡ statuses.ReadFault
failed_source None old new o after more = same_faultless old new (left_alone o old new after) more
failed_source (Some most) old new o after more = failed_read old new o after more

pub read_failed : (task : Task) (r : Run) (o : Outcome) → IsRun task r o → r.source.faults < r.source'.faults → r.status ≡ statuses.ReadFault
read_failed task r o run more = run.status_is ∙ failed_source task.reads r.source r.source' o run.on_source more

-- a failed call of the output gives the status of a write fault
failed_write : (task : Task) (bytes : List ℕ) (old new : PortState) (o : Outcome) → OutAfter task bytes old new o → old.faults < new.faults → status_of o ≡ statuses.WriteFault
failed_write task bytes old new ReadFault after more = same_faultless old new after more
failed_write task bytes old new TooLong after more = same_faultless old new after more
failed_write task bytes old new Memory after more = same_faultless old new after more
failed_write task bytes old new (Answered reply) after more = faultless_none old new after.1 more
failed_write task bytes old new Truncated after more = refl
failed_write task bytes old new OutOfMemoryMidway after more = faultless_none old new after.1 more
failed_write task bytes old new (ReportTruncated reply) after more = refl
failed_write task bytes old new (NoAnswer refusal) after more = same_faultless old new after more

pub write_failed : (task : Task) (r : Run) (o : Outcome) → IsRun task r o → r.out.faults < r.out'.faults → r.status ≡ statuses.WriteFault
write_failed task r o run more = run.status_is ∙ failed_write task run.bytes r.out r.out' o run.on_out more
