-- The assignment of a chain in MSV.
use Rattle.std.proofs.Common.{◌≡◌, ℕ, ◌+◌, ◌-◌, ◌*◌, ◌/◌, ◌%◌, ◌^◌, ◌<◌, ◌==◌, Bool, true, ◌||◌, length, refl, sym, ap, ◌∙◌, arith, ⊎_elim}
use Rattle.std.specs.Prelude.{if◌then◌else◌, nat_lt}
use Rattle.std.specs.List.{list_any}
use Rattle.std.proofs.lemmas.Bool.{lt-ltb, le-ltb, or_left, or_right, or_cases, eqb-true, eq-eqb}
use Rattle.std.proofs.lemmas.Nat.{div-mul-add, mod-mul-add}
use Rattle.chain_theory.specs.Chain.{Step, Chain}
use Rattle.chain_theory.specs.Value.{value}
use Rattle.sat_theory.specs.Formula.{Assignment}
use Rattle.tt_core.specs.Words.{Words}
use Rattle.enc_theory.specs.declared.data.Side.{Side}
use Rattle.enc_theory.specs.declared.data.Side.TheVariants.{First, Second}
use Rattle.enc_theory.specs.declared.data.Dimensions.{Dimensions}
use Rattle.enc_theory.specs.Numbering.{sizes_of, places}
use Rattle.enc_theory.specs.Select.{choice_var, value_first, value_var}
use Rattle.clause_core.specs.Holds.{any_get, any_make}
use Rattle.enc_laws.specs.Layouts.{IsStepPlace}
use Rattle.enc_laws.specs.Solves.{place_there, there_place}
use Rattle.enc_laws.specs.Decoded.{IsFor}
use Rattle.enc_laws.specs.Complete.{step_at, chain_bits, IsOfChain, bits_of_chain, bits_after_are, HasStepOuts, bits_are, chain_meets, step_below, step_has_value}
use Rattle.enc_laws.specs.SelectVars.{IsBelow, choice_from, choice_below, choice_once, row_low, value_after}
use Rattle.enc_laws.specs.Chooses.{Chooses}

abbrev pub operand : Side → Step → ℕ
operand First s = s.j
operand Second s = s.k

-- the number is that of a selection variable that is true of the chain
abbrev step_chooses : Dimensions → Chain → ℕ → ℕ → Bool
step_chooses z c x i = choice_var z First i (step_at c i).j == x || choice_var z Second i (step_at c i).k == x

unfoldable pub choice_bit : Dimensions → Chain → ℕ → Bool
choice_bit z c x = list_any (step_chooses z c x) (places z)

-- the value of an operand, by the number of its variable among those of its side
unfoldable pub operand_bit : Dimensions → Chain → Side → ℕ → Bool
operand_bit z c side x = value c (x % 2 ^ z.n) (operand side (step_at c (x / 2 ^ z.n + (z.n + 1))))

unfoldable pub select_rest : Dimensions → Chain → ℕ → Bool
select_rest z c x =
    if nat_lt x (value_first z First) then choice_bit z c x
    else (if nat_lt x (value_first z Second) then operand_bit z c First (x - value_first z First) else operand_bit z c Second (x - value_first z Second))

-- the values of selection variables and of the operands' values, by the chain
pub record IsOfChoices (w : Words) (r : ℕ) (c : Chain) (v : Assignment) : Type 0 where
  pub of : IsOfChain w r c v
  pub has : (side : Side) (i : ℕ) → IsStepPlace (sizes_of w r) i → v (choice_var (sizes_of w r) side i (operand side (step_at c i))) ≡ true
  pub only : (side : Side) (i j : ℕ) → IsBelow (sizes_of w r) i j → v (choice_var (sizes_of w r) side i j) ≡ true → operand side (step_at c i) ≡ j
  pub values : (side : Side) (i t : ℕ) → IsStepPlace (sizes_of w r) i → t < 2 ^ w.n → v (value_var (sizes_of w r) side i t) ≡ value c t (operand side (step_at c i))

-- ---- the parts of the variables

rest_choice : (z : Dimensions) (c : Chain) (side : Side) (i j : ℕ) → IsBelow z i j → select_rest z c (choice_var z side i j) ≡ choice_bit z c (choice_var z side i j)
unfolding select_rest
rest_choice z c side i j is = rw (lt-ltb (choice_var z side i j) (value_first z First) (choice_below z side i j is)) refl

rest_value : (z : Dimensions) (c : Chain) (side : Side) (i t : ℕ) → IsStepPlace z i → t < 2 ^ z.n → select_rest z c (value_var z side i t) ≡ operand_bit z c side ((i - (z.n + 1)) * 2 ^ z.n + t)
unfolding select_rest value_var value_first
rest_value z c First i t is row =
    let low = row_low z i t is row in
    let first : ℕ = value_first z First in
    let second : ℕ = value_first z Second in
    let x : ℕ = value_first z First + (i - (z.n + 1)) * 2 ^ z.n + t in
    let back : value_first z First + (i - (z.n + 1)) * 2 ^ z.n + t - value_first z First ≡ (i - (z.n + 1)) * 2 ^ z.n + t = omega arith in
    rw (le-ltb x first (omega arith), lt-ltb x second (omega arith), back) refl
rest_value z c Second i t is row =
    let first : ℕ = value_first z First in
    let second : ℕ = value_first z Second in
    let x : ℕ = value_first z Second + (i - (z.n + 1)) * 2 ^ z.n + t in
    let back : value_first z Second + (i - (z.n + 1)) * 2 ^ z.n + t - value_first z Second ≡ (i - (z.n + 1)) * 2 ^ z.n + t = omega arith in
    rw (le-ltb x first (omega arith), le-ltb x second (omega arith), back) refl

operand_bit_is : (z : Dimensions) (c : Chain) (side : Side) (i t : ℕ) → IsStepPlace z i → t < 2 ^ z.n → operand_bit z c side ((i - (z.n + 1)) * 2 ^ z.n + t) ≡ value c t (operand side (step_at c i))
unfolding operand_bit
operand_bit_is z c side i t is row =
    let from = is.from in
    let place : i - (z.n + 1) + (z.n + 1) ≡ i = omega arith in
    rw (div-mul-add (i - (z.n + 1)) (2 ^ z.n) t row, mod-mul-add (i - (z.n + 1)) (2 ^ z.n) t row, place) refl

side_chooses : (z : Dimensions) (c : Chain) (side : Side) (i : ℕ) → step_chooses z c (choice_var z side i (operand side (step_at c i))) i ≡ true
side_chooses z c First i = or_left (choice_var z First i (step_at c i).j == choice_var z First i (step_at c i).j)
    (choice_var z Second i (step_at c i).k == choice_var z First i (step_at c i).j)
    (eq-eqb (choice_var z First i (step_at c i).j) (choice_var z First i (step_at c i).j) refl)
side_chooses z c Second i = or_right (choice_var z First i (step_at c i).j == choice_var z Second i (step_at c i).k)
    (choice_var z Second i (step_at c i).k == choice_var z Second i (step_at c i).k)
    (eq-eqb (choice_var z Second i (step_at c i).k) (choice_var z Second i (step_at c i).k) refl)

pub operand_is_below : (w : Words) (basis r : ℕ) (c : Chain) (side : Side) (i : ℕ) → IsFor w basis r c → IsStepPlace (sizes_of w r) i → IsBelow (sizes_of w r) i (operand side (step_at c i))
operand_is_below w basis r c First i is place = let below = step_below w basis r c is i place in record { place = place; from = below.j_from; to = below.j_below }
operand_is_below w basis r c Second i is place = let below = step_below w basis r c is i place in record { place = place; from = below.k_from; to = below.k_below }

same_operand : (c : Chain) (own side : Side) (i l j : ℕ) → own ≡ side → i ≡ l → operand own (step_at c i) ≡ j → operand side (step_at c l) ≡ j
same_operand c own side i l j e e' is = ap (λ (s : Side). operand s (step_at c l)) (sym e) ∙ ap (λ (p : ℕ). operand own (step_at c p)) (sym e') ∙ is

only_its : (w : Words) (basis r : ℕ) (c : Chain) (side : Side) (l j : ℕ) → IsFor w basis r c →
    IsBelow (sizes_of w r) l j → choice_bit (sizes_of w r) c (choice_var (sizes_of w r) side l j) ≡ true →
    operand side (step_at c l) ≡ j
unfolding choice_bit
only_its w basis r c side l j is below true_ =
    let z : Dimensions = sizes_of w r in
    let x : ℕ = choice_var (sizes_of w r) side l j in
    let found = any_get (step_chooses z c x) (places z) true_ in
    let i : ℕ = found.element in
    let place = there_place z i found.inside in
    let by : (own : Side) → choice_var z own i (operand own (step_at c i)) ≡ x → operand side (step_at c l) ≡ j = λ own e.
    let same = choice_once z own side i l (operand own (step_at c i)) j (operand_is_below w basis r c own i is place) below e in
    same_operand c own side i l j same.sides same.places same.operands in
    ⊎_elim
    (λ (first : (choice_var z First i (step_at c i).j == x) ≡ true). by First (eqb-true (choice_var z First i (step_at c i).j) x first))
    (λ (second : (choice_var z Second i (step_at c i).k == x) ≡ true). by Second (eqb-true (choice_var z Second i (step_at c i).k) x second))
    (or_cases (choice_var z First i (step_at c i).j == x) (choice_var z Second i (step_at c i).k == x) found.passes)

-- The assignment of a chain is of that chain,
pub select_bits : (w : Words) (basis r : ℕ) (c : Chain) → IsFor w basis r c → IsOfChoices w r c (chain_bits (sizes_of w r) c (select_rest (sizes_of w r) c))
unfolding choice_bit
select_bits w basis r c is =
    let z : Dimensions = sizes_of w r in
    let rest : (side : Side) (i j : ℕ) → IsBelow (sizes_of w r) i j →
    chain_bits (sizes_of w r) c (select_rest (sizes_of w r) c) (choice_var (sizes_of w r) side i j) ≡
    choice_bit (sizes_of w r) c (choice_var (sizes_of w r) side i j) = λ side i j below.
    bits_after_are z c (select_rest z c) (choice_var z side i j) (choice_from z side i j) ∙ rest_choice z c side i j below in
    record {
      of = bits_of_chain w r c (select_rest (sizes_of w r) c);
      has = λ side i place.
          let x : ℕ = choice_var (sizes_of w r) side i (operand side (step_at c i)) in
          rest side i (operand side (step_at c i)) (operand_is_below w basis r c side i is place) ∙ any_make (step_chooses z c x) (places z) i (place_there z i place) (side_chooses z c side i);
      only = λ side i j below true_. only_its w basis r c side i j is below (sym (rest side i j below) ∙ true_);
      values = λ side i t place row. bits_after_are z c (select_rest z c) (value_var z side i t) (value_after z side i t) ∙ rest_value z c side i t place row ∙ operand_bit_is z c side i t place row;
    }

-- and has the properties.
pub chain_chooses : (w : Words) (basis r : ℕ) (c : Chain) (v : Assignment) → IsFor w basis r c → HasStepOuts c (length w.on) → IsOfChoices w r c v → Chooses w basis (sizes_of w r) v
chain_chooses w basis r c v is outs choices = record {
  tables = chain_meets w basis r c v choices.of is outs;
  choice = λ side i place.
      let below = operand_is_below w basis r c side i is place in
      (operand side (step_at c i), below.from, below.to, choices.has side i place);
  copy = λ side i j t below row true_.
      let place = below.place in
      let to = place.to in
      let j_to = below.to in
      choices.values side i t below.place row ∙ ap (value c t) (choices.only side i j below true_) ∙ sym (bits_are w basis r c v choices.of is j t (omega arith) row);
  result = λ i t place row.
      bits_are w basis r c v choices.of is i t place.to row
      ∙ step_has_value w basis r c is i t place
      ∙ sym (choices.of.operators i (value c t (step_at c i).j) (value c t (step_at c i).k) place)
      ∙ rw (choices.values First i t place row, choices.values Second i t place row) refl;
}
