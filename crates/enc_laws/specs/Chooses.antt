-- What the clauses of MSV mean for an assignment: they are equivalent to properties.
use Rattle.std.proofs.Common.{◌≡◌, ℕ, ◌-◌, ◌^◌, ◌<◌, ◌≤◌, Bool, true, false, not, ◌||◌, map, Contains, refl, sym, ◌∙◌, arith}
use Rattle.std.specs.List.{list_any}
use Rattle.sat_theory.specs.Formula.{Assignment}
use Rattle.tt_core.specs.Words.{Words}
use Rattle.enc_theory.specs.declared.data.Side.{Side}
use Rattle.enc_theory.specs.declared.data.Side.TheVariants.{First, Second}
use Rattle.enc_theory.specs.declared.data.Dimensions.{Dimensions}
use Rattle.clause_core.specs.Clauses.{written}
use Rattle.enc_theory.specs.Numbering.{places, rows, f_var}
use Rattle.enc_theory.specs.Families.{out_exists, out_values, operators}
use Rattle.enc_theory.specs.Select.{choice_var, value_var, below, chooses, choice_exists, choices_exist, operands_exist}
use Rattle.enc_theory.specs.Select.{copy_raw, copy_row, copy_place, copy_step, copies, result_raw, result_clause}
use Rattle.enc_theory.specs.Select.{result_bit, result_row, result_step, results, chosen_chain}
use Rattle.clause_core.specs.Holds.{holds, holds_both, both_hold, holds_each, each_holds, same, raw_value, raws_bit}
use Rattle.clause_core.specs.Holds.{raws_bit-map, holds-written, positive-map, any_get, any_make, range_contains}
use Rattle.clause_core.specs.Holds.{range_inside}
use Rattle.enc_laws.specs.Bounds.{f_positive}
use Rattle.enc_laws.specs.Layouts.{IsStepPlace}
use Rattle.enc_laws.specs.Solves.{x_bit, MeetsTables, place_there, there_place, row_there, there_row, x_is_positive}
use Rattle.enc_laws.specs.Solves.{x_is_value, clause_of, clause_gives, gives_clause, meets_from, drivers_hold}
use Rattle.enc_laws.specs.Solves.{outs_hold, operators_hold}
use Rattle.enc_laws.specs.SelectVars.{IsBelow, choice_positive, value_positive}

-- The assignment gives each step a lower place for each operand, the operand the value of that place, and the
-- step its operator's value of its operands' values; and drivers have the values of their outputs' cells.
pub record Chooses (w : Words) (basis : ℕ) (z : Dimensions) (v : Assignment) : Type 0 where
  pub tables : MeetsTables w basis z v
  pub choice : (side : Side) (i : ℕ) → IsStepPlace z i → (j : ℕ) × (1 ≤ j) × (j < i) × (v (choice_var z side i j) ≡ true)
  pub copy : (side : Side) (i j t : ℕ) → IsBelow z i j → t < 2 ^ z.n → v (choice_var z side i j) ≡ true → v (value_var z side i t) ≡ x_bit z v j t
  pub result : (i t : ℕ) → IsStepPlace z i → t < 2 ^ z.n → x_bit z v i t ≡ v (f_var z i (v (value_var z First i t)) (v (value_var z Second i t)))

-- ---- places below

pub below_there : (i j : ℕ) → 1 ≤ j → j < i → Contains (below i) j
below_there i j from to = range_contains 1 (i - 1) j from (omega arith)

pub there_below : (i j : ℕ) → Contains (below i) j → (1 ≤ j) × (j < i)
there_below i j c = let (from, to) = range_inside 1 (i - 1) j c in (from, omega arith)

pub is_below : (z : Dimensions) (i j : ℕ) → IsStepPlace z i → Contains (below i) j → IsBelow z i j
is_below z i j place c = let (from, to) = there_below i j c in record { place = place; from = from; to = to }

-- ---- each step has operands

choice_bits : (z : Dimensions) (v : Assignment) (side : Side) (i : ℕ) → holds v (choice_exists z i side) ≡ list_any (λ j. v (choice_var z side i j)) (below i)
unfolding choice_exists chooses raw_value same
choice_bits z v side i = holds-written v (map (chooses z side i) (below i))
    (positive-map (chooses z side i) (below i) (λ j c. choice_positive z side i j))
    ∙ raws_bit-map v (chooses z side i) (below i)

choice_of_side : (z : Dimensions) (v : Assignment) (side : Side) (i : ℕ) → holds v (choices_exist z i) ≡ true → holds v (choice_exists z i side) ≡ true
unfolding choices_exist
choice_of_side z v First i all = (holds_both v (choice_exists z i First) (choice_exists z i Second) all).0
choice_of_side z v Second i all = (holds_both v (choice_exists z i First) (choice_exists z i Second) all).1

choice_get : (z : Dimensions) (v : Assignment) (side : Side) (i : ℕ) → holds v (operands_exist z) ≡ true → IsStepPlace z i → (j : ℕ) × (1 ≤ j) × (j < i) × (v (choice_var z side i j) ≡ true)
unfolding operands_exist
choice_get z v side i all is =
    let at_i = choice_of_side z v side i (holds_each v (choices_exist z) (places z) i all (place_there z i is)) in
    let found = any_get (λ j. v (choice_var z side i j)) (below i) (sym (choice_bits z v side i) ∙ at_i) in
    let (from, to) = there_below i found.element found.inside in
    (found.element, from, to, found.passes)

choice_make : (z : Dimensions) (v : Assignment) → ((side : Side) (i : ℕ) → IsStepPlace z i → (j : ℕ) × (1 ≤ j) × (j < i) × (v (choice_var z side i j) ≡ true)) → holds v (operands_exist z) ≡ true
unfolding operands_exist choices_exist
choice_make z v each = each_holds v (choices_exist z) (places z) (λ i c.
    let one : (side : Side) → holds v (choice_exists z i side) ≡ true = λ side.
    let (j, from, to, true_) = each side i (there_place z i c) in
    choice_bits z v side i ∙ any_make (λ j. v (choice_var z side i j)) (below i) j (below_there i j from to) true_ in
    both_hold v (choice_exists z i First) (choice_exists z i Second) (one First) (one Second))

-- ---- an operand has the value of its place

copy_bits : (z : Dimensions) (v : Assignment) (side : Side) (i j t : ℕ) (e : Bool) →
    holds v (written (copy_raw z side i j t e)) ≡ (not (v (choice_var z side i j)) ||
    (same (v (value_var z side i t)) e || (same (x_bit z v j t) (not e) || false)))
unfolding copy_raw raws_bit raw_value same
copy_bits z v side i j t e =
    holds-written v (copy_raw z side i j t e) (choice_positive z side i j, (value_positive z side i t, (x_is_positive z j t (not e), tt)))
    ∙ rw (x_is_value z v j t (not e)) refl

-- the clause of the place's bit gives the operand that bit
copied : (a u x : Bool) → a ≡ true → (not a || (same u x || (same x (not x) || false))) ≡ true → u ≡ x
unfolding same
copied false u x true_ e = absurd cc
copied true true true true_ e = refl
copied true true false true_ e = absurd cc
copied true false true true_ e = absurd cc
copied true false false true_ e = refl

copy_true : (a u x e : Bool) → (a ≡ true → u ≡ x) → (not a || (same u e || (same x (not e) || false))) ≡ true
unfolding same
copy_true false u x e is = refl
copy_true true u true true is = rw (is refl) refl
copy_true true u true false is = rw (is refl) refl
copy_true true u false true is = rw (is refl) refl
copy_true true u false false is = rw (is refl) refl

copy_row_get : (z : Dimensions) (v : Assignment) (side : Side) (i j t : ℕ) (e : Bool) → holds v (copy_row z side i j t) ≡ true → holds v (written (copy_raw z side i j t e)) ≡ true
unfolding copy_row
copy_row_get z v side i j t true all = (holds_both v (written (copy_raw z side i j t false)) (written (copy_raw z side i j t true)) all).1
copy_row_get z v side i j t false all = (holds_both v (written (copy_raw z side i j t false)) (written (copy_raw z side i j t true)) all).0

copy_get : (z : Dimensions) (v : Assignment) (side : Side) (i j t : ℕ) → holds v (copies z side) ≡ true → IsBelow z i j →
    t < 2 ^ z.n → v (choice_var z side i j) ≡ true → v (value_var z side i t) ≡ x_bit z v j t
unfolding copies copy_step copy_place
copy_get z v side i j t all is row true_ =
    let at_i = holds_each v (copy_step z side) (places z) i all (place_there z i is.place) in
    let at_j = holds_each v (copy_place z side i) (below i) j at_i (below_there i j is.from is.to) in
    let at_t = holds_each v (copy_row z side i j) (rows z) t at_j (row_there z t row) in
    copied (v (choice_var z side i j)) (v (value_var z side i t)) (x_bit z v j t) true_ (sym (copy_bits z v side i j t (x_bit z v j t)) ∙ copy_row_get z v side i j t (x_bit z v j t) at_t)

copy_make : (z : Dimensions) (v : Assignment) (side : Side) →
    ((i j t : ℕ) → IsBelow z i j → t < 2 ^ z.n → v (choice_var z side i j) ≡ true →
    v (value_var z side i t) ≡ x_bit z v j t) → holds v (copies z side) ≡ true
unfolding copies copy_step copy_place copy_row
copy_make z v side each =
    each_holds v (copy_step z side) (places z) (λ i in_places. each_holds v (copy_place z side i) (below i) (λ j in_below. each_holds v (copy_row z side i j) (rows z) (λ t in_rows.
    let one : (e : Bool) → holds v (written (copy_raw z side i j t e)) ≡ true = λ e. copy_bits z v side i j t e
    ∙ copy_true (v (choice_var z side i j)) (v (value_var z side i t)) (x_bit z v j t) e (each i j t (is_below z i j (there_place z i in_places) in_below) (there_row z t in_rows)) in
    both_hold v (written (copy_raw z side i j t false)) (written (copy_raw z side i j t true)) (one false) (one true))))

-- ---- a step has its operator's value

result_bits : (z : Dimensions) (v : Assignment) (i t : ℕ) (a b c : Bool)
    → holds v (result_clause z i t a b c) ≡ clause_of true (x_bit z v i t) (v (value_var z First i t)) (v (value_var z Second i t)) (v (f_var z i b c)) a b c
unfolding result_clause result_raw raws_bit raw_value same
result_bits z v i t a b c =
    holds-written v (result_raw z i t a b c) (x_is_positive z i t (not a), (value_positive z First i t, (value_positive z Second i t, (f_positive z i b c, tt))))
    ∙ rw (x_is_value z v i t (not a)) refl

four_get : (z : Dimensions) (v : Assignment) (i t : ℕ) (a b c : Bool) → holds v (result_bit z i t a) ≡ true → holds v (result_clause z i t a b c) ≡ true
unfolding result_bit
four_get z v i t a b c all =
    let (three, last) = holds_both v _ (result_clause z i t a true true) all in
    let (two, third) = holds_both v _ (result_clause z i t a true false) three in
    let (first, second) = holds_both v (result_clause z i t a false false) (result_clause z i t a false true) two in
    (elim b as (λ b. (c : Bool) → holds v (result_clause z i t a b c) ≡ true) [
      | true ↦ elim [ true ↦ last | false ↦ third ]
      | false ↦ elim [ true ↦ second | false ↦ first ]
    ]) c

result_row_get : (z : Dimensions) (v : Assignment) (i t : ℕ) (a b c : Bool) → holds v (result_row z i t) ≡ true → holds v (result_clause z i t a b c) ≡ true
unfolding result_row
result_row_get z v i t a b c all =
    let (low, high) = holds_both v (result_bit z i t false) (result_bit z i t true) all in
    four_get z v i t a b c ((elim a as (λ a. holds v (result_bit z i t a) ≡ true) [ true ↦ high | false ↦ low ]))

four_make : (z : Dimensions) (v : Assignment) (i t : ℕ) (a : Bool) → ((b c : Bool) → holds v (result_clause z i t a b c) ≡ true) → holds v (result_bit z i t a) ≡ true
unfolding result_bit
four_make z v i t a each =
    both_hold v _ (result_clause z i t a true true)
    (both_hold v _ (result_clause z i t a true false)
    (both_hold v (result_clause z i t a false false) (result_clause z i t a false true) (each false false) (each false true))
    (each true false))
    (each true true)

result_get : (z : Dimensions) (v : Assignment) (i t : ℕ) → holds v (results z) ≡ true → IsStepPlace z i → t < 2 ^ z.n →
    x_bit z v i t ≡ v (f_var z i (v (value_var z First i t)) (v (value_var z Second i t)))
unfolding results result_step
result_get z v i t all is row =
    let at_i = holds_each v (result_step z) (places z) i all (place_there z i is) in
    let at_t = holds_each v (result_row z i) (rows z) t at_i (row_there z t row) in
    let x : Bool = x_bit z v i t in
    let j : Bool = v (value_var z First i t) in
    let k : Bool = v (value_var z Second i t) in
    clause_gives true x j k (v (f_var z i j k)) refl (sym (result_bits z v i t x j k) ∙ result_row_get z v i t x j k at_t)

result_make : (z : Dimensions) (v : Assignment) → ((i t : ℕ) → IsStepPlace z i → t < 2 ^ z.n →
    x_bit z v i t ≡ v (f_var z i (v (value_var z First i t)) (v (value_var z Second i t)))) → holds v (results z) ≡ true
unfolding results result_step result_row
result_make z v each =
    each_holds v (result_step z) (places z) (λ i in_places. each_holds v (result_row z i) (rows z) (λ t in_rows.
    let one : (a b c : Bool) → holds v (result_clause z i t a b c) ≡ true = λ a b c. result_bits z v i t a b c
    ∙ gives_clause true (x_bit z v i t) (v (value_var z First i t)) (v (value_var z Second i t)) (λ b c. v (f_var z i b c)) a b c (λ e. each i t (there_place z i in_places) (there_row z t in_rows)) in
    both_hold v (result_bit z i t false) (result_bit z i t true) (four_make z v i t false (one false)) (four_make z v i t true (one true))))

-- ---- all families

-- An assignment that satisfies the clauses has the properties,
pub chooses_from : (w : Words) (basis : ℕ) (z : Dimensions) (v : Assignment) → holds v (chosen_chain w basis z) ≡ true → Chooses w basis z v
unfolding chosen_chain
chooses_from w basis z v all =
    let (six, seventh) = holds_both v _ (operators basis z) all in
    let (five, sixth) = holds_both v _ (results z) six in
    let (four, fifth) = holds_both v _ (copies z Second) five in
    let (three, fourth) = holds_both v _ (copies z First) four in
    let (two, third) = holds_both v _ (operands_exist z) three in
    let (first, second) = holds_both v (out_exists z) (out_values w z) two in
    let copied_side : (side : Side) → holds v (copies z side) ≡ true = elim [ First ↦ fourth | Second ↦ fifth ] in
    record {
      tables = meets_from w basis z v first second seventh;
      choice = λ side i is. choice_get z v side i third is;
      copy = λ side i j t is row true_. copy_get z v side i j t (copied_side side) is row true_;
      result = λ i t is row. result_get z v i t sixth is row;
    }

-- and an assignment with the properties satisfies the clauses.
pub chooses_to : (w : Words) (basis : ℕ) (z : Dimensions) (v : Assignment) → Chooses w basis z v → holds v (chosen_chain w basis z) ≡ true
unfolding chosen_chain
chooses_to w basis z v is =
    both_hold v _ (operators basis z)
    (both_hold v _ (results z)
    (both_hold v _ (copies z Second)
    (both_hold v _ (copies z First)
    (both_hold v _ (operands_exist z)
    (both_hold v (out_exists z) (out_values w z) (drivers_hold w basis z v is.tables) (outs_hold w basis z v is.tables))
    (choice_make z v is.choice))
    (copy_make z v First (is.copy First)))
    (copy_make z v Second (is.copy Second)))
    (result_make z v is.result))
    (operators_hold w basis z v is.tables)
