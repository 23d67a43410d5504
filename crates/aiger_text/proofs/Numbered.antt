-- Numbered names, one after another, and places that are out of range.
use Rattle.std.proofs.Common.{◌≡◌, ℕ, zero, suc, ◌+◌, ◌-◌, ◌<◌, ◌≤◌, List, [], ◌∷◌, length, refl, ap, arith}
use Rattle.std.specs.Prelude.{if◌then◌else◌, slice_set}
use Rattle.std.proofs.lemmas.Grind.{common_steps}
use Rattle.aiger_text.specs.Naming.{numbered, numbered_from, gate_name, gate_names_from}
use Rattle.aiger_text.specs.Meaning.{Signals, needs_not, not_table, not_tables}

pub numbered-more : (prefix : List ℕ) (at count : ℕ) → at < count → numbered_from prefix at (count - at) ≡ numbered prefix at ∷ numbered_from prefix (at + 1) (count - (at + 1))
unfolding numbered_from
numbered-more prefix at count low = let size : count - at ≡ suc (count - (at + 1)) = omega (arith, low) in ap (numbered_from prefix at) size

pub numbered-end : (prefix : List ℕ) (at count : ℕ) → count ≤ at → numbered_from prefix at (count - at) ≡ []
unfolding numbered_from
numbered-end prefix at count high = let size : count - at ≡ 0 = omega (arith, high) in ap (numbered_from prefix at) size

pub numbered-all : (prefix : List ℕ) (count : ℕ) → numbered_from prefix 0 (count - 0) ≡ numbered_from prefix 0 count
numbered-all prefix count = let size : count - 0 ≡ count = omega arith in ap (numbered_from prefix 0) size

pub gates-more : (at count : ℕ) → at < count → gate_names_from at (count - at) ≡ gate_name at ∷ gate_names_from (at + 1) (count - (at + 1))
unfolding gate_names_from
gates-more at count low = let size : count - at ≡ suc (count - (at + 1)) = omega (arith, low) in ap (gate_names_from at) size

pub gates-end : (at count : ℕ) → count ≤ at → gate_names_from at (count - at) ≡ []
unfolding gate_names_from
gates-end at count high = let size : count - at ≡ 0 = omega (arith, high) in ap (gate_names_from at) size

pub gates-all : (count : ℕ) → gate_names_from 0 (count - 0) ≡ gate_names_from 0 count
gates-all count = let size : count - 0 ≡ count = omega arith in ap (gate_names_from 0) size

pub ruleset numbers = (common_steps, numbered-more, numbered-end, numbered-all, gates-more, gates-end, gates-all)

-- the complements of the variables from `at` to `last`
pub nots-more : (s : Signals) (at last : ℕ) → at ≤ last → not_tables s at (last + 1 - at) ≡
    (if needs_not s at then not_table s at ∷ not_tables s (at + 1) (last + 1 - (at + 1)) else not_tables s (at + 1) (last + 1 - (at + 1)))
unfolding not_tables
nots-more s at last low = let size : last + 1 - at ≡ suc (last + 1 - (at + 1)) = omega (arith, low) in ap (not_tables s at) size

pub nots-end : (s : Signals) (at last : ℕ) → last < at → not_tables s at (last + 1 - at) ≡ []
unfolding not_tables
nots-end s at last high = let size : last + 1 - at ≡ 0 = omega (arith, high) in ap (not_tables s at) size

pub nots-all : (s : Signals) (last : ℕ) → not_tables s 1 (last + 1 - 1) ≡ not_tables s 1 last
nots-all s last = let size : last + 1 - 1 ≡ last = omega arith in ap (not_tables s 1) size

pub ruleset complements = (common_steps, nots-more, nots-end, nots-all)

pub set-outside : {A : Type 0} (xs : List A) (place : ℕ) (x : A) → length xs ≤ place → slice_set xs place x ≡ xs
set-outside [] place x high = refl
set-outside (y ∷ ys) zero x high = absurd (omega arith)
set-outside {A} (y ∷ ys) (suc place) x high = ap (λ (zs : List A). y ∷ zs) (set-outside ys place x (omega arith))

pub ruleset sets = (common_steps, set-outside)
