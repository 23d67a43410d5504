-- Latch lines: `.latch d q re clk 2`.
use Rattle.std.specs.Prelude.{ℕ, ◌&&◌, ◌-◌, nat_le, if◌then◌else◌, List, [], ◌∷◌, Option, Some, None, Result, Ok, Err}
use Rattle.std.specs.Prelude.{codes}
use Rattle.net_theory.specs.declared.data.Trigger.{Trigger}
use Rattle.net_theory.specs.declared.data.Trigger.TheVariants.{Fe, Re, Ah, Al, As}
use Rattle.net_theory.specs.Document.{Name, is_name, is_same, LatchLine}
use Rattle.net_core.specs.declared.error.NetError.{NetError}
use Rattle.net_core.specs.declared.error.NetError.TheVariants.{Syntax}

-- the trigger that a word names
unfoldable pub trigger_in : List ℕ → Option Trigger
trigger_in word = if is_same word (codes "fe") then Some Fe else (if is_same word
    (codes "re") then Some Re else (if is_same word
    (codes "ah") then Some Ah else (if is_same word
    (codes "al") then Some Al else (if is_same word (codes "as") then Some As else None))))

-- an initial value, `0` to `3`
unfoldable pub init_in : List ℕ → Option ℕ
init_in (b ∷ []) = if nat_le 48 b && nat_le b 51 then Some (b - 48) else None
init_in other = None

-- the end of a latch line, after its two names
pub record LatchTail : Type 0 where
  pub control : Option (Trigger × Name)
  pub init : Option ℕ

abbrev pub tail_with : Option (Trigger × Name) → Option ℕ → Option LatchTail
tail_with control None = None
tail_with control (Some init) = Some (record { control = control; init = Some init })

abbrev pub with_control : Option Trigger → Name → Option (Trigger × Name)
with_control None name = None
with_control (Some trigger) name = if is_name name then Some (trigger, name) else None

abbrev pub tail_by : Option (Trigger × Name) → Option LatchTail
tail_by None = None
tail_by (Some control) = Some (record { control = Some control; init = None })

abbrev pub tail_by_both : Option (Trigger × Name) → Option ℕ → Option LatchTail
tail_by_both None init = None
tail_by_both (Some control) init = tail_with (Some control) init

-- a control, an initial value, both, or nothing
unfoldable pub tail_in : List (List ℕ) → Option LatchTail
tail_in [] = Some (record { control = None; init = None })
tail_in (init ∷ []) = tail_with None (init_in init)
tail_in (trigger ∷ control ∷ []) = tail_by (with_control (trigger_in trigger) control)
tail_in (trigger ∷ control ∷ init ∷ []) = tail_by_both (with_control (trigger_in trigger) control) (init_in init)
tail_in other = None

abbrev pub latch_with : ℕ → Name → Name → Option LatchTail → Result LatchLine NetError
latch_with line input output None = Err (Syntax line)
latch_with line input output (Some tail) = if is_name input &&
    is_name output then Ok (record {
      input = input;
      latch = record {
        output = output;
        control = tail.control;
        init = tail.init;
      };
    }) else Err (Syntax line)

unfoldable pub latch_of : ℕ → List (List ℕ) → Result LatchLine NetError
latch_of line (input ∷ output ∷ words) = latch_with line input output (tail_in words)
latch_of line other = Err (Syntax line)
