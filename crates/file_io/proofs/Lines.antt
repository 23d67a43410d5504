-- The line of a call that failed was written, as far as no call on the notes failed.
use Rattle.std.specs.Prelude.{ℕ, List, ◌++◌, Result, Ok, Err, OnOk, OnErr, codes}
use Rattle.port_io.specs.Bytes.{Appends, AppendsPrefix}
use Rattle.port_io.specs.Faults.{Rose}
use Rattle.port_io.specs.declared.writing.WriteFault.{WriteFault}
use Rattle.frame_core.specs.Outside.{PortState, Writes}
use Rattle.file_io.specs.FaultLine.{escaped, told_line}

written : (old new : PortState) (text : List ℕ) (result : Result Unit WriteFault) → AppendsPrefix old.bytes new.bytes text →
    OnOk result (Appends old.bytes new.bytes text) → OnErr result (Rose old.faults new.faults) → Writes old new text
written old new text (Ok u) prefix all cause = record { prefix = prefix; whole = λ steady. all }
written old new text (Err e) prefix all cause = record { prefix = prefix; whole = λ steady. absurd (steady cause) }

pub reported_fault : (old new : PortState) (what name reason : List ℕ) (result : Result Unit WriteFault) →
    AppendsPrefix old.bytes new.bytes (what ++ (escaped name ++ (codes ": " ++ (reason ++ codes "\n")))) →
    OnOk result (Appends old.bytes new.bytes (what ++ (escaped name ++ (codes ": " ++ (reason ++ codes "\n"))))) →
    OnErr result (Rose old.faults new.faults) → Writes old new (told_line what name reason)
unfolding told_line
reported_fault old new what name reason result prefix all cause = written old new (what ++ (escaped name ++ (codes ": " ++ (reason ++ codes "\n")))) result prefix all cause
