-- An assignment of MSV spells a chain that implements the tables.
use Rattle.std.proofs.Common.{◌≡◌, ℕ, ◌+◌, ◌^◌, ◌<◌, Bool, true, false, ◌||◌, List, [], ◌∷◌, map, get_or, Some, Contains, refl, sym, ap, ◌∙◌, arith}
use Rattle.std.specs.Prelude.{if◌then◌else◌, slice_get}
use Rattle.std.specs.List.{list_any}
use Rattle.std.proofs.lemmas.Option.{slice_get-map, slice_get-get_or, slice_get_within, get_or_from_slice_get}
use Rattle.std.proofs.lemmas.List.{length-map}
use Rattle.std.proofs.lemmas.List.FromFn.{length-range_with_len, get_or-range_with_len}
use Rattle.chain_theory.specs.Operator.{apply}
use Rattle.chain_theory.specs.Chain.{Step}
use Rattle.chain_theory.specs.Agreement.{IsOver}
use Rattle.chain_theory.specs.declared.data.Out.{Out}
use Rattle.op_basis.specs.Basis.{members}
use Rattle.op_basis.specs.Laws.{operator_values, operator_low}
use Rattle.sat_theory.specs.Formula.{Assignment}
use Rattle.tt_core.specs.Words.{Words}
use Rattle.enc_theory.specs.declared.data.Side.{Side}
use Rattle.enc_theory.specs.declared.data.Side.TheVariants.{First, Second}
use Rattle.enc_theory.specs.declared.data.Dimensions.{Dimensions}
use Rattle.enc_theory.specs.Numbering.{places, f_var}
use Rattle.enc_theory.specs.Decode.{first_driver}
use Rattle.enc_theory.specs.Select.{choice_var, value_var, below, first_choice, chosen_step}
use Rattle.clause_core.specs.Holds.{contains_head, contains_tail, any_make}
use Rattle.enc_laws.specs.Layouts.{IsStepPlace}
use Rattle.enc_laws.specs.Solves.{x_bit}
use Rattle.enc_laws.specs.Sound.{IsSpelled, driver_place, driver_met, made_from}
use Rattle.enc_laws.specs.SelectVars.{IsBelow}
use Rattle.enc_laws.specs.Chooses.{Chooses, below_there, is_below}

-- the first place whose selection variable is true
pub record IsFirstChoice (z : Dimensions) (v : Assignment) (side : Side) (i : ℕ) (js : List ℕ) (j : ℕ) : Type 0 where
  pub inside : Contains js j
  pub true_ : v (choice_var z side i j) ≡ true

here_or_later : (z : Dimensions) (v : Assignment) (side : Side) (i j : ℕ) (js : List ℕ) (later : ℕ) (b : Bool) →
    v (choice_var z side i j) ≡ b → (b ≡ false → IsFirstChoice z v side i js later) →
    IsFirstChoice z v side i (j ∷ js) (if b then j else later)
here_or_later z v side i j js later true e found = record { inside = contains_head j js; true_ = e }
here_or_later z v side i j js later false e found = let more = found refl in record { inside = contains_tail j later js more.inside; true_ = more.true_ }

first_choice_is : (z : Dimensions) (v : Assignment) (side : Side) (i : ℕ) (js : List ℕ) → list_any (λ j. v (choice_var z side i j)) js ≡ true → IsFirstChoice z v side i js (first_choice z v side i js)
unfolding first_choice
first_choice_is z v side i [] any = absurd cc
first_choice_is z v side i (j ∷ js) any =
    here_or_later z v side i j js (first_choice z v side i js) (v (choice_var z side i j)) refl
    (λ e. first_choice_is z v side i js (sym (ap (λ (b : Bool). b || list_any (λ j. v (choice_var z side i j)) js) e)
    ∙ any))

-- the operand that the assignment spells
abbrev pub spelled_operand : Dimensions → Assignment → Side → ℕ → ℕ
spelled_operand z v side i = first_choice z v side i (below i)

module _ (w : Words) (basis : ℕ) (z : Dimensions) (v : Assignment) (is : Chooses w basis z v) where
  choice_is : (side : Side) (i : ℕ) → IsStepPlace z i → IsFirstChoice z v side i (below i) (spelled_operand z v side i)
  choice_is side i place =
      let (j, from, to, true_) = is.choice side i place in
      first_choice_is z v side i (below i) (any_make (λ j. v (choice_var z side i j)) (below i) j (below_there i j from to) true_)

  operand_below : (side : Side) (i : ℕ) → IsStepPlace z i → IsBelow z i (spelled_operand z v side i)
  operand_below side i place = is_below z i (spelled_operand z v side i) place (choice_is side i place).inside

  operand_value : (side : Side) (i t : ℕ) → IsStepPlace z i → t < 2 ^ z.n → v (value_var z side i t) ≡ x_bit z v (spelled_operand z v side i) t
  operand_value side i t place row = is.copy side i (spelled_operand z v side i) t (operand_below side i place) row (choice_is side i place).true_

  -- the step of an index
  pub record IsChosen (k : ℕ) (d : Step) : Type 0 where
    pub place : IsStepPlace z (z.n + 1 + k)
    pub is_step : d ≡ chosen_step z v (z.n + 1 + k)

  step_is : (k : ℕ) (d : Step) → slice_get (map (chosen_step z v) (places z)) k ≡ Some d → IsChosen k d
  step_is k d at =
      let made = made_from (chosen_step z v) (slice_get (places z) k) d (sym (slice_get-map (chosen_step z v) (places z) k) ∙ at) in
      let long = length-range_with_len (z.n + 1) z.r in
      let within = slice_get_within (places z) k made.from made.at in
      let low : k < z.r = omega arith in
      let here : z.n + 1 + k ≡ made.from = sym (get_or-range_with_len (z.n + 1) z.r k 0 low) ∙ get_or_from_slice_get (places z) k made.from 0 made.at in
      record { place = record { from = omega arith; to = omega arith }; is_step = made.is ∙ ap (chosen_step z v) (sym here) }

  -- An assignment with the properties spells steps, and a step for each output.
  pub chosen_spells : IsSpelled w z v (map (chosen_step z v) (places z)) (λ h. first_driver z v h (places z))
  unfolding chosen_step
  chosen_spells = record {
    count = length-map (places z) (chosen_step z v) ∙ length-range_with_len (z.n + 1) z.r;
    steps = record {
      each = λ k d at.
          let step = step_is k d at in
          let first = operand_below First (z.n + 1 + k) step.place in
          let second = operand_below Second (z.n + 1 + k) step.place in
          rw (step.is_step) record {
            j_from = first.from;
            j_below = first.to;
            k_from = second.from;
            k_below = second.to;
            op_below = operator_low (λ b c. v (f_var z (z.n + 1 + k) b c));
          };
    };
    follow = λ k d t at row.
        let step = step_is k d at in
        let i : ℕ = z.n + 1 + k in
        is.result i t step.place row
        ∙ rw (operand_value First i t step.place row, operand_value Second i t step.place row) refl
        ∙ sym (operator_values (λ b c. v (f_var z i b c)) (x_bit z v (spelled_operand z v First i) t) (x_bit z v (spelled_operand z v Second i) t))
        ∙ ap (λ (s : Step). apply s.op (x_bit z v s.j t) (x_bit z v s.k t)) (sym step.is_step);
    place = λ h some low. driver_place w basis z v h is.tables some low;
    met = λ h t some low row. driver_met w basis z v h t is.tables some low row;
  }

  -- each step that is spelled is over the basis
  pub chosen_is_over : (n : ℕ) (outs : List Out) → IsOver (members basis) (record { n = n; steps = map (chosen_step z v) (places z); outs = outs })
  unfolding chosen_step
  chosen_is_over n outs = λ k d low.
      let at : slice_get (map (chosen_step z v) (places z)) k ≡ Some (get_or (map (chosen_step z v) (places z)) k d) = slice_get-get_or (map (chosen_step z v) (places z)) k d low in
      let step = step_is k (get_or (map (chosen_step z v) (places z)) k d) at in
      ap (λ (s : Step). members basis s.op) step.is_step ∙ is.tables.operator (z.n + 1 + k) step.place
