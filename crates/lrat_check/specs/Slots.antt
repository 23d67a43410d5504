-- Membership in a list of literals, by a table of 1024 entries.
use Rattle.std.specs.Prelude.{◌≡◌, ℕ, ◌+◌, ◌%◌, ◌⊎◌, ◌==◌, if◌then◌else◌, ℤ, List, length, Contains, slice_index_or, slice_set}
use Rattle.cnf_core.specs.Codes.{code_of}

-- the index of a literal's slot
abbrev pub slot_of : ℤ → ℕ
slot_of l = code_of l % 1024

abbrev pub slot_at : List ℕ → ℤ → ℕ
slot_at slots l = slice_index_or slots (slot_of l) 0

-- one more literal: a slot is 0 if no literal has it, 1 if several may have it, else 2 + the code of the only one
abbrev pub with_slot : List ℕ → ℤ → List ℕ
with_slot slots l = slice_set slots (slot_of l) (if slot_at slots l == 0 then code_of l + 2 else 1)

-- the table of the literals
pub record AreSlots (slots : List ℕ) (lits : List ℤ) : Type 0 where
  pub each : (l : ℤ) → Contains lits l → (slot_at slots l ≡ code_of l + 2) ⊎ (slot_at slots l ≡ 1)
  pub only : (l : ℤ) → slot_at slots l ≡ code_of l + 2 → Contains lits l
  pub room : length slots ≡ 1024
