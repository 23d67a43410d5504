-- The variables of listed literals are variables of the formula.
use Rattle.std.proofs.Common.{ℕ, ◌==◌, Bool, true, false, List, [], ◌∷◌, map, get_or, All, Contains, arith}
use Rattle.std.specs.Prelude.{if◌then◌else◌}
use Rattle.std.specs.List.{flat_map}
use Rattle.std.proofs.lemmas.List.Elements.{All-nil, All-cons, All-append, All-head, All-tail, All-map, All-filter, Contains-get_or}
use Rattle.clause_core.specs.declared.raw.RawLit.TheVariants.{Var}
use Rattle.enc_theory.specs.declared.data.Dimensions.{Dimensions}
use Rattle.enc_theory.specs.declared.data.Slot.{Slot}
use Rattle.enc_theory.specs.Numbering.{f_var, g_var, outputs}
use Rattle.enc_theory.specs.Pairs.{StepSlots}
use Rattle.enc_theory.specs.Families.{driver, chosen, operator_raw}
use Rattle.enc_theory.specs.Cuts.{drives, reads, reader, readers, equal_pair, reads_without, reader_without, readers_without, has_place, reading}
use Rattle.enc_laws.specs.Bounds.{f_positive, f_below, g_positive, g_below}
use Rattle.clause_core.specs.Holds.{range_inside}
use Rattle.enc_laws.specs.Layouts.{IsStepPlace}
use Rattle.clause_core.specs.Clauses.{IsWithin}
use Rattle.enc_base.specs.Room.{HasRoom, IsPlace, HasSlots}
use Rattle.clause_core.specs.WithinLaws.{within_var, four}
use Rattle.enc_base.specs.RoomLaws.{within_first}
use Rattle.enc_cuts.specs.Vars.{HasVar, HaveVars, step_has_vars}

-- what holds of the elements of each piece holds of all
pub pieces_each : {X Y : Type 0} (P : Y → Type 0) (Q : X → Type 0) (f : X → List Y) (xs : List X) → ((x : X) → Q x → All P (f x)) → All Q xs → All P (flat_map f xs)
pieces_each {X} {Y} P Q f [] each have = All-nil P
pieces_each {X} {Y} P Q f (x ∷ xs) each have = All-append P (f x) (flat_map f xs) (each x (All-head Q x xs have)) (pieces_each P Q f xs each (All-tail Q x xs have))

map_each : {X Y : Type 0} (P : Y → Type 0) (f : X → Y) (xs : List X) → ((x : X) → Contains xs x → P (f x)) → All P (map f xs)
map_each {X} {Y} P f xs each = All-map P f xs (λ k d low. each (get_or xs k d) (Contains-get_or xs k d low))

step_place : (z : Dimensions) (i : ℕ) → IsPlace z i → IsStepPlace z i
step_place z i is = record { from = is.from; to = is.below }

-- ---- a step's operator and its outputs

pub operator_within : (z : Dimensions) (vars i op : ℕ) → HasRoom z vars → IsPlace z i → All (IsWithin vars) (operator_raw z i op)
unfolding operator_raw
operator_within z vars i op room place =
    let at = step_place z i place in
    four (IsWithin vars) (Var (f_var z i false false) _) (Var (f_var z i false true) _) (Var (f_var z i true false) _) (Var (f_var z i true true) _)
    (within_first z vars (f_var z i false false) _ room (f_positive z i false false, f_below z i false false at))
    (within_first z vars (f_var z i false true) _ room (f_positive z i false true, f_below z i false true at))
    (within_first z vars (f_var z i true false) _ room (f_positive z i true false, f_below z i true false at))
    (within_first z vars (f_var z i true true) _ room (f_positive z i true true, f_below z i true true at))

pub drivers_within : (z : Dimensions) (vars i : ℕ) → HasRoom z vars → IsPlace z i → All (IsWithin vars) (map (drives z i) (outputs z))
unfolding drives driver
drivers_within z vars i room place = map_each (IsWithin vars) (drives z i) (outputs z) (λ h c.
    let (some, low) = range_inside 1 z.m h c in
    let at = step_place z i place in
    within_first z vars (g_var z h i) true room (g_positive z h i at, g_below z h i some (omega arith) at))

-- ---- pairs

one_if : (vars : ℕ) (test : Bool) (u : Slot) → HasVar vars u → All (IsWithin vars) (if test then Var u.var true ∷ [] else [])
one_if vars true u has = All-cons (IsWithin vars) (Var u.var true) [] (within_var vars u.var true has.from has.within) (All-nil (IsWithin vars))
one_if vars false u has = All-nil (IsWithin vars)

readers_within : (vars p : ℕ) (s : StepSlots) → HaveVars vars s → All (IsWithin vars) (readers p s)
unfolding readers reader chosen
readers_within vars p s have = pieces_each (IsWithin vars) (HasVar vars) (reader p) s.slots (λ u has. one_if vars (reads u p) u has) have.each

pub all_readers_within : (z : Dimensions) (vars p : ℕ) (steps : List StepSlots) → All (HasSlots z vars) steps → All (IsWithin vars) (flat_map (readers p) steps)
all_readers_within z vars p steps have = pieces_each (IsWithin vars) (HasSlots z vars) (readers p) steps (λ s has. readers_within vars p s (step_has_vars z vars s has)) have

pub equal_pairs_within : (vars : ℕ) (s : StepSlots) → HaveVars vars s → All (IsWithin vars) (flat_map equal_pair s.slots)
unfolding equal_pair chosen
equal_pairs_within vars s have = pieces_each (IsWithin vars) (HasVar vars) equal_pair s.slots (λ u has. one_if vars (u.j == u.k) u has) have.each

pub without_within : (vars p q : ℕ) (s : StepSlots) → HaveVars vars s → All (IsWithin vars) (readers_without p q s)
unfolding readers_without reader_without chosen
without_within vars p q s have = pieces_each (IsWithin vars) (HasVar vars) (reader_without p q) s.slots (λ u has. one_if vars (reads_without p q u) u has) have.each

pub reading_have : (vars p : ℕ) (slots : List Slot) → All (HasVar vars) slots → All (HasVar vars) (reading p slots)
reading_have vars p slots have = All-filter (has_place p) (HasVar vars) slots have
