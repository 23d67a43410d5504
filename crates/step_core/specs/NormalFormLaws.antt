-- Steps that no chain in normal form has.
use Rattle.std.proofs.Common.{◌≡◌, ℕ, zero, suc, ◌+◌, ◌-◌, ◌≤◌, ◌<◌, ◌⊎◌, true, false, Bool, ◌&&◌, ◌||◌, not, ◌==◌, List, [], ◌∷◌, ◌++◌, length, refl, sym, ap, ◌∙◌, arith, inl, inr}
use Rattle.std.specs.Prelude.{slice_get, slice_index_or, Some}
use Rattle.std.specs.List.{Contains}
use Rattle.std.proofs.lemmas.Bool.Decides.{nat_tests}
use Rattle.std.proofs.lemmas.Grind.{common_steps}
use Rattle.std.proofs.lemmas.List.{length_push}
use Rattle.chain_theory.specs.Operator.{Basis, digit, apply}
use Rattle.chain_theory.specs.Chain.{Step, AreSteps}
use Rattle.chain_theory.specs.Value.{out_value}
use Rattle.chain_theory.specs.Agreement.{is_met as is_met_by, Agrees}
use Rattle.chain_theory.specs.declared.data.Out.{Out}
use Rattle.chain_theory.specs.declared.data.Out.TheVariants as kinds
use Rattle.chain_laws.specs.Keys.{ComesBefore}
use Rattle.chain_laws.specs.Follow.{step_at, step_at_get, push_keeps}
use Rattle.op_basis.specs.Closed.{swap_closed, polarity_closed, const_closed}
use Rattle.op_basis.specs.WordOperator.{on_words}
use Rattle.tt_core.specs.Words.{Words, IsSpec, specification, cell_of}
use Rattle.tt_core.specs.RowLaws.{row_below}
use Rattle.bound_core.specs.CountLaws.{passes_some, true_false}
use Rattle.step_core.specs.Steps.{misses, word_in}
use Rattle.step_core.specs.Pruning.{meets, meets_some, depends_on_one, is_constant}
use Rattle.step_core.specs.Enumeration.{chain_on, NoneWith, HasPair, HasOperands, IsGivenStep}
use Rattle.step_core.specs.StackLaws.{word_prefix, word_last}
use Rattle.step_core.specs.OutcomeLaws.{append_one, get_middle}
use Rattle.step_core.specs.WordLaws.{word_row, never_missed}
use Rattle.step_core.specs.PruningLaws.{must_give}

-- ---- operands in increasing order

pub must_rise : (w : Words) (basis : Basis) (prefix : List Step) (left low high : ℕ) → swap_closed basis ≡ true → low < high → NoneWith w basis prefix left (HasOperands high low)
must_rise w basis prefix left low high closed less = record {
  none = λ s rest is count target.
      let orders_operands : s.j ≤ s.k = target.normal_form.operands_rise closed (length prefix) s (get_middle prefix s rest) in
      omega (arith, less, orders_operands, is.0, is.1);
}

-- ---- pairs in their order

pub out_of_order : (w : Words) (basis : Basis) (prefix : List Step) (left low high i : ℕ) (last : Step) →
    i + 1 ≡ length prefix → last ≡ step_at prefix i → ((s : Step) → HasPair low high s → ComesBefore s last) →
    NoneWith w basis prefix left (HasPair low high)
out_of_order w basis prefix left low high i last at is before = record {
  none = λ s rest has count target.
      let first : slice_get (prefix ++ s ∷ rest) i ≡ Some last = push_keeps prefix (s ∷ rest) i last (step_at_get prefix i (omega (arith, at)) ∙ ap Some (sym is)) in
      let next : slice_get (prefix ++ s ∷ rest) (i + 1) ≡ Some s = ap (slice_get (prefix ++ s ∷ rest)) at ∙ get_middle prefix s rest in
      target.normal_form.in_order i last s first next (before s has);
}

-- ---- operators

or_parts : (a b : Bool) → (a || b) ≡ true → (a ≡ true) ⊎ (b ≡ true)
or_parts true b e = inl refl
or_parts false b e = inr e

pub is_number : (x y : ℕ) → (x == y) ≡ true → x ≡ y
is_number x y e = grind (arith, nat_tests)

one_of_four : (op : ℕ) → depends_on_one op ≡ true → (op ≡ 3) ⊎ ((op ≡ 5) ⊎ ((op ≡ 12) ⊎ (op ≡ 10)))
unfolding depends_on_one
one_of_four op e = elim (or_parts (op == 3 || op == 5 || op == 12) (op == 10) e) [
  | inr d ↦ inr (inr (inr (is_number op 10 d)))
  | inl abc ↦ elim (or_parts (op == 3 || op == 5) (op == 12) abc) [
    | inr c ↦ inr (inr (inl (is_number op 12 c)))
    | inl ab ↦ elim (or_parts (op == 3) (op == 5) ab) [
      | inr b ↦ inr (inl (is_number op 5 b))
      | inl a ↦ inl (is_number op 3 a)
    ]
  ]
]

pub must_need_both : (w : Words) (basis : Basis) (prefix : List Step) (left j k op : ℕ) → (j ≡ k → ⊥) →
    depends_on_one op ≡ true → NoneWith w basis prefix left (IsGivenStep (record { j = j; k = k; op = op }))
must_need_both w basis prefix left j k op apart follows = record {
  none = λ s rest is count target.
      let at = get_middle prefix s rest in
      let same : s.op ≡ op = ap (λ (x : Step). x.op) is in
      let pair : s.j ≡ s.k → ⊥ = λ e. apart (sym (ap (λ (x : Step). x.j) is) ∙ e ∙ ap (λ (x : Step). x.k) is) in
      elim (one_of_four op follows) [
        | inl a ↦ target.normal_form.no_copy (length prefix) s at (inl (same ∙ a))
        | inr bcd ↦ elim bcd [
          | inl b ↦ target.normal_form.no_copy (length prefix) s at (inr (same ∙ b))
          | inr cd ↦ elim cd [
            | inl c ↦ pair (target.normal_form.negation_of_equal (length prefix) s at (inl (same ∙ c)))
            | inr d ↦ pair (target.normal_form.negation_of_equal (length prefix) s at (inr (same ∙ d)))
          ]
        ]
      ];
}

pub must_vary : (w : Words) (basis : Basis) (prefix : List Step) (left j k op : ℕ) → const_closed basis ≡ true →
    is_constant op ≡ true → NoneWith w basis prefix left (IsGivenStep (record { j = j; k = k; op = op }))
unfolding is_constant
must_vary w basis prefix left j k op closed constant = record {
  none = λ s rest is count target.
      let at = get_middle prefix s rest in
      let same : s.op ≡ op = ap (λ (x : Step). x.op) is in
      elim (or_parts (op == 0) (op == 15) constant) [
        | inl a ↦ target.normal_form.no_constant closed (length prefix) s at (inl (same ∙ is_number op 0 a))
        | inr b ↦ target.normal_form.no_constant closed (length prefix) s at (inr (same ∙ is_number op 15 b))
      ];
}

pub must_negate : (w : Words) (basis : Basis) (prefix : List Step) (left j k op : ℕ) → const_closed basis ≡ true →
    j ≡ k → (apply op false false && not (apply op true true)) ≡ false →
    NoneWith w basis prefix left (IsGivenStep (record { j = j; k = k; op = op }))
must_negate w basis prefix left j k op closed equal keeps = record {
  none = λ s rest is count target.
      let at = get_middle prefix s rest in
      let same : s.op ≡ op = ap (λ (x : Step). x.op) is in
      let negates = target.normal_form.equal_negate closed (length prefix) s at (ap (λ (x : Step). x.j) is ∙ equal ∙ sym (ap (λ (x : Step). x.k) is)) in
      true_false (sym (rw (sym (ap (λ (x : ℕ). apply x false false) same) ∙ negates.0, sym (ap (λ (x : ℕ). apply x true true) same) ∙ negates.1) refl) ∙ keeps);
}

-- ---- row 0

long : (prefix : List Step) (s : Step) (rest : List Step) → length prefix < length (prefix ++ s ∷ rest)
long [] s rest = omega arith
long (x ∷ prefix) s rest = omega (arith, long prefix s rest)

place_word : (n : ℕ) (prefix : List Step) (s : Step) (rest : List Step) (p : ℕ) → p ≡ n + 1 + length prefix →
    word_in n (prefix ++ s ∷ rest) p ≡ on_words s.op (word_in n prefix s.j) (word_in n prefix s.k)
place_word n prefix s rest p e =
    ap (λ (ss : List Step). word_in n ss p) (sym (append_one prefix s rest))
    ∙ word_prefix n (prefix ++ s ∷ []) rest p (omega (arith, e, length_push prefix s))
    ∙ word_last n prefix s p e

out_there : (outs : List Out) (i p : ℕ) → i < length outs → slice_index_or outs i (kinds.Place p) ≡ kinds.Place p → slice_index_or outs i kinds.Zero ≡ kinds.Place p
out_there [] i p low e = absurd (omega (arith, low))
out_there (x ∷ outs) zero p low e = e
out_there (x ∷ outs) (suc i) p low e = out_there outs i p (omega (arith, low)) e

abbrev out_value_on : Words → List Step → List Out → ℕ → Out → Bool
out_value_on w steps outs t out = out_value (chain_on w steps outs) t out

meets_is : (w : Words) (word i : ℕ) → misses w word i ≡ false → meets w word i ≡ true
unfolding meets
meets_is w word i none = ap not none

-- an out has the values of its output
pub out_meets : (w : Words) (steps : List Step) (outs : List Out) (p : ℕ) → IsSpec w → AreSteps w.n steps →
    Agrees (chain_on w steps outs) (specification w) → 1 ≤ p → p ≤ w.n + length steps → Contains outs (kinds.Place p) →
    meets_some w (word_in w.n steps p) ≡ true
unfolding meets_some
out_meets w steps outs p spec are agrees from to named =
    let i : ℕ = named.0 in
    let word : ℕ = word_in w.n steps p in
    let inside : i < length w.on = omega (arith, named.1, agrees.outputs) in
    let rows = row_below w.n spec.inputs in
    let own : i + 1 - 1 ≡ i = omega arith in
    let out : slice_index_or outs (i + 1 - 1) kinds.Zero ≡ kinds.Place p = ap (λ (x : ℕ). slice_index_or outs x kinds.Zero) own ∙ out_there outs i p named.1 named.2 in
    let none : misses w word i ≡ false = never_missed w word i spec
    (λ t low.
    ap (is_met_by (cell_of w (i + 1) t)) (word_row w.n t steps p spec.inputs are (omega (arith, low, rows)) from to)
    ∙ ap (is_met_by (cell_of w (i + 1) t)) (sym (ap (out_value_on w steps outs t) out))
    ∙ agrees.cells (i + 1) t (omega arith) (omega (arith, inside)) low) in
    passes_some (meets w word) (length w.on) i inside (meets_is w word i none)

pub must_be_normal : (w : Words) (basis : Basis) (prefix : List Step) (s : Step) (left word : ℕ) → IsSpec w →
    word ≡ on_words s.op (word_in w.n prefix s.j) (word_in w.n prefix s.k) → polarity_closed basis ≡ true →
    digit word 0 ≡ true → meets_some w word ≡ false → NoneWith w basis prefix left (IsGivenStep s)
must_be_normal w basis prefix s left word spec made closed one none = record {
  none = λ this rest is count target.
      let steps : List Step = prefix ++ this ∷ rest in
      let p : ℕ = w.n + 1 + length prefix in
      let inside : p ≤ w.n + length steps = omega (arith, long prefix this rest) in
      let seen : word_in w.n steps p ≡ word = ap (λ (x : Step). word_in w.n (prefix ++ x ∷ rest) p) is ∙ place_word w.n prefix s rest p refl ∙ sym made in
      elim (target.normal_form.zero_on_row_0 closed (length prefix) this (get_middle prefix this rest)) [
        | inl nought ↦ true_false (sym one ∙ ap (λ (x : ℕ). digit x 0) (sym seen) ∙ word_row w.n 0 steps p spec.inputs target.solution.are (omega arith) (omega arith) inside ∙ nought)
        | inr named ↦ true_false (sym (out_meets w steps target.outs p spec target.solution.are target.agrees (omega arith) inside named) ∙ ap (meets_some w) seen ∙ none)
      ];
}

pub ruleset coming = (common_steps, must_give, must_be_normal, out_of_order, must_need_both, must_vary, must_negate)
