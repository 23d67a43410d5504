-- The variables of listed literals are variables of the formula.
use Rattle.std.proofs.Common.{ℕ, ◌+◌, ◌-◌, ◌<◌, ◌≤◌, Bool, true, List, [], ◌∷◌, map, get_or, All, Contains, arith}
use Rattle.std.specs.List.{flat_map}
use Rattle.std.proofs.lemmas.List.Elements.{All-nil, All-append, All-map, Contains-get_or}
use Rattle.clause_core.specs.declared.raw.RawLit.TheVariants.{Var}
use Rattle.enc_theory.specs.declared.data.Side.{Side}
use Rattle.enc_theory.specs.declared.data.Side.TheVariants.{First, Second}
use Rattle.enc_theory.specs.declared.data.Dimensions.{Dimensions}
use Rattle.enc_theory.specs.Select.{choice_var, below, above, chooses, not_these, choosers}
use Rattle.clause_core.specs.Holds.{contains_tail, range_inside}
use Rattle.enc_laws.specs.SelectVars.{choice_positive}
use Rattle.enc_laws.specs.Chooses.{there_below}
use Rattle.clause_core.specs.Clauses.{IsWithin}
use Rattle.enc_base.specs.Room.{IsPlace}
use Rattle.clause_core.specs.WithinLaws.{within_var, two}
use Rattle.enc_select.specs.Room.{HasChoices}
use Rattle.enc_select.proofs.Numbers.{choice_low}

-- a selection literal
pub choice_within : (z : Dimensions) (vars : ℕ) (side : Side) (i j : ℕ) (bit : Bool) → HasChoices z vars → IsPlace z i → 1 ≤ j → j < i → IsWithin vars (Var (choice_var z side i j) bit)
choice_within z vars side i j bit room place from to = within_var vars (choice_var z side i j) bit (choice_positive z side i j) (omega (arith, room.all, choice_low z side i j place from to))

pub these_within : (z : Dimensions) (vars i j k : ℕ) → HasChoices z vars → IsPlace z i → 1 ≤ j → j < i → 1 ≤ k → k < i → All (IsWithin vars) (not_these z i j k)
these_within z vars i j k room place j_from j_to k_from k_to =
    two (IsWithin vars) (Var (choice_var z First i j) _) (Var (choice_var z Second i k) _)
    (choice_within z vars First i j _ room place j_from j_to)
    (choice_within z vars Second i k _ room place k_from k_to)

map_each : {X Y : Type 0} (P : Y → Type 0) (f : X → Y) (xs : List X) → ((x : X) → Contains xs x → P (f x)) → All P (map f xs)
map_each {X} {Y} P f xs each = All-map P f xs (λ k d low. each (get_or xs k d) (Contains-get_or xs k d low))

-- all places below a step
pub choices_within : (z : Dimensions) (vars : ℕ) (side : Side) (i : ℕ) → HasChoices z vars → IsPlace z i → All (IsWithin vars) (map (chooses z side i) (below i))
unfolding chooses
choices_within z vars side i room place = map_each (IsWithin vars) (chooses z side i) (below i) (λ j c.
    let (from, to) = there_below i j c in
    choice_within z vars side i j true room place from to)

pieces_each : {Y : Type 0} (P : Y → Type 0) (f : ℕ → List Y) (xs : List ℕ) → ((x : ℕ) → Contains xs x → All P (f x)) → All P (flat_map f xs)
pieces_each {Y} P f [] each = All-nil P
pieces_each {Y} P f (x ∷ xs) each = All-append P (f x) (flat_map f xs) (each x (Contains-get_or (x ∷ xs) 0 x (omega arith))) (pieces_each P f xs (λ y c. each y (contains_tail x y xs c)))

-- all steps above one that may read it
pub choosers_within : (z : Dimensions) (vars i : ℕ) → HasChoices z vars → IsPlace z i → All (IsWithin vars) (flat_map (choosers z i) (above z i))
unfolding choosers chooses
choosers_within z vars i room place =
    let from = place.from in
    let below_ = place.below in
    pieces_each (IsWithin vars) (choosers z i) (above z i) (λ l c.
    let (l_from, l_to) = range_inside (i + 1) (z.n + z.r - i) l c in
    let at : IsPlace z l = record { from = omega arith; below = omega arith } in
    two (IsWithin vars) (Var (choice_var z First l i) _) (Var (choice_var z Second l i) _)
    (choice_within z vars First l i _ room at (omega arith) (omega arith))
    (choice_within z vars Second l i _ room at (omega arith) (omega arith)))
