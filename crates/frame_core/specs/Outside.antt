-- The state of sources and sinks, and what a run writes.
use Rattle.std.specs.Prelude.{◌≡◌, ℕ, List, Option}
use Rattle.port_io.specs.Bytes.{Appends, AppendsPrefix}
use Rattle.port_io.specs.Faults.{Rose}

-- the state of a source or a sink: the bytes that are left in it or were written to it, if they are known, and its
-- count of faults
pub record PortState : Type 0 where
  pub bytes : Option (List ℕ)
  pub faults : ℕ

abbrev pub port_state : {T : Type 0} → (T → Option (List ℕ)) → (T → ℕ) → T → PortState
port_state bytes faults x = record { bytes = bytes x; faults = faults x }

-- No call on it failed: its count of faults is as before.
abbrev pub IsFaultless : PortState → PortState → Type 0
IsFaultless old new = new.faults ≡ old.faults

-- A text was written: a prefix of it, and all of it if no call failed.
pub record Writes (old new : PortState) (text : List ℕ) : Type 0 where
  pub prefix : AppendsPrefix old.bytes new.bytes text
  pub whole : (Rose old.faults new.faults → ⊥) → Appends old.bytes new.bytes text
