-- Sources and sinks in memory, whose calls can be made to fail.
use Rattle.std.specs.Prelude.{◌==◌, ℕ, List, Bool}
use Rattle.std.specs.List.{list_any}
use Rattle.port_io.specs.Faults.{next_count}

-- the numbers of the calls that have to fail, and how many calls were made and have failed
pub record Schedule : Type 0 where
  pub failing : List ℕ
  pub calls : ℕ
  pub faults : ℕ

-- no call has been made yet
abbrev pub first_schedule : List ℕ → Schedule
first_schedule failing = record { failing = failing; calls = 0; faults = 0 }

-- the number of the next call; the first is 1
abbrev pub next_call : Schedule → ℕ
next_call s = next_count s.calls

-- whether the next call has to fail
unfoldable pub is_to_fail : Schedule → Bool
is_to_fail s = list_any (λ number. number == next_call s) s.failing

-- One more call was made, and succeeded.
abbrev pub after_success : Schedule → Schedule
after_success s = record s { calls = next_call s }

-- One more call was made, and failed.
abbrev pub after_failure : Schedule → Schedule
after_failure s = record s { calls = next_call s; faults = next_count s.faults }

-- A source in memory: the bytes that are left, and the calls so far.
pub record Supply : Type 0 where
  pub left : List ℕ
  pub schedule : Schedule

-- A sink in memory: the bytes that were written, and the calls so far.
pub record Store : Type 0 where
  pub written : List ℕ
  pub schedule : Schedule
