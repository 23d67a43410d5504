-- Taken names, and the first outputs that nodes drive.
use Rattle.std.specs.Prelude.{◌≡◌, ℕ, ◌<◌, ◌^◌, if◌then◌else◌, List, [], ◌∷◌, ◌++◌, length, slice_get, slice_index_or, slice_set, Option, Some, None, option_and_then}
use Rattle.std.proofs.Common.{drop}
use Rattle.net_theory.specs.declared.data.Sig.{Sig}
use Rattle.net_theory.specs.declared.data.Sig.TheVariants.{Zero, One, Node}
use Rattle.net_theory.specs.Document.{Name, has}
use Rattle.net_theory.specs.Circuit.{Circuit}
use Rattle.net_theory.specs.Naming.{output_on, Naming, taken_set}

-- `seen` with `n` appended, unless it is in `seen`
abbrev pub with_name : List Name → Name → List Name
with_name seen n = if has seen n then seen else seen ++ n ∷ []

-- the output recorded for the node p
unfoldable pub first_name : List (Option ℕ) → List Name → ℕ → Option Name
first_name firsts outputs p = option_and_then (slice_get outputs) (slice_index_or firsts p None)

-- `firsts` records, for each node, the first output that it drives, of the outputs from index `at` on
pub record AreFirsts (firsts : List (Option ℕ)) (outputs : List Name) (at : ℕ) (sinks : List Sig) : Type 0 where
  pub each : (p : ℕ) → p < length firsts → first_name firsts outputs p ≡ output_on (drop at outputs) (drop at sinks) p

-- `firsts` with the output at index `at` recorded
abbrev pub noted : List (Option ℕ) → Sig → ℕ → List (Option ℕ)
noted firsts Zero at = firsts
noted firsts One at = firsts
noted firsts (Node p) at = slice_set firsts p (Some at)

abbrev pub naming : List Name → List Name → Naming
naming names free = record { names = names; free = free }

-- There are fewer than 2^63 names to avoid, as in every circuit that fits into memory.
abbrev pub HasRoomForNames : Circuit → Type 0
HasRoomForNames c = length (taken_set c) < 2 ^ 63
