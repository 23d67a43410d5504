-- Chains with permuted inputs.
use Rattle.std.proofs.Common.{◌≡◌, ℕ, zero, suc, ◌+◌, ◌-◌, ◌^◌, ◌≤◌, ◌<◌, Bool, true, List, [], ◌∷◌, length, map, Some, leb, refl, sym, ap, ◌∙◌, arith, subst, ⊎_elim}
use Rattle.std.specs.Prelude.{slice_get, slice_index_or, if◌then◌else◌, All, option_map}
use Rattle.std.proofs.lemmas.Bool.{cases_lt, cond-true, cond-false, le-leb, lt-leb}
use Rattle.std.proofs.lemmas.Grind.{common_steps}
use Rattle.std.proofs.lemmas.List.{get_or-map, length-map}
use Rattle.std.proofs.lemmas.List.Elements.{All-map, All-weaker, All-get_or}
use Rattle.std.proofs.lemmas.Option.{slice_get-map}
use Rattle.chain_theory.specs.Operator.{Basis}
use Rattle.chain_theory.specs.Rows.{row_digit, row_low}
use Rattle.chain_theory.specs.Specification.{Specification, input}
use Rattle.chain_theory.specs.Chain.{Step, Chain, IsStepAt, AreSteps, NamesPlace, IsChain}
use Rattle.chain_theory.specs.Value.{values_on, out_value}
use Rattle.chain_theory.specs.Agreement.{is_met, output_value, IsOver, Agrees, HasChain, NoneBelow}
use Rattle.chain_theory.specs.declared.data.Out.{Out}
use Rattle.chain_theory.specs.declared.data.Out.TheVariants.{Zero, One, Place}
use Rattle.chain_laws.specs.Follow.{input_value, step_is, values_are}
use Rattle.chain_laws.specs.Bodies.{out_bit, out_value_is, out_named}
use Rattle.chain_laws.specs.Shorter.{sent}
use Rattle.chain_laws.specs.Moved.{moved}
use Rattle.chain_laws.specs.Renamed.{moved_below}
use Rattle.chain_core.specs.Steps.{IsSmallChain}
use Rattle.spec_cache.specs.Order.{IsInput, IsOrder, number, permuted_row, IsPermuted}

-- ---- places

-- an input gets its new number, and each other place stays
abbrev pub permuted_place : ℕ → List ℕ → ℕ → ℕ
permuted_place n order p = if leb p n then number order p else p

pub permuted_input : (n : ℕ) (order : List ℕ) (p : ℕ) → p ≤ n → permuted_place n order p ≡ number order p
permuted_input n order p low = cond-true (leb p n) (number order p) p (le-leb p n low)

pub permuted_gate : (n : ℕ) (order : List ℕ) (p : ℕ) → n < p → permuted_place n order p ≡ p
permuted_gate n order p high = cond-false (leb p n) (number order p) p (lt-leb p n high)

pub order_at : (n : ℕ) (order : List ℕ) (p : ℕ) → IsOrder n order → 1 ≤ p → p ≤ n → IsInput n (number order p)
order_at n order p is from low = All-get_or (IsInput n) order (p - 1) 0 (omega (arith, is.size)) is.inputs

pub permuted_within : (n : ℕ) (order : List ℕ) (p last : ℕ) → IsOrder n order → 1 ≤ p → p ≤ last → n ≤ last → (1 ≤ permuted_place n order p) × (permuted_place n order p ≤ last)
permuted_within n order p last is from low inputs = ⊎_elim
    (λ (is_input : p < n + 1).
    let at = order_at n order p is from (omega arith) in
    let same = permuted_input n order p (omega arith) in
    (omega (arith, at.0, same), omega (arith, at.1, same)))
    (λ (is_step : n + 1 ≤ p). let same = permuted_gate n order p (omega arith) in (omega (arith, same), omega (arith, same)))
    (cases_lt p (n + 1))

-- ---- steps and outs

mapped_at : {X Y : Type 0} (g : X → Y) (xs : List X) (i : ℕ) (y : Y) → slice_get (map g xs) i ≡ Some y → (x : X) × (slice_get xs i ≡ Some x) × (g x ≡ y)
mapped_at g [] i y e = absurd cc
mapped_at g (x ∷ xs) zero y e = (x, refl, cc)
mapped_at g (x ∷ xs) (suc i) y e = mapped_at g xs i y e

abbrev pub permuted_steps : ℕ → List ℕ → List Step → List Step
permuted_steps n order steps = map (moved (permuted_place n order)) steps

abbrev pub permuted_out : ℕ → List ℕ → Out → Out
permuted_out n order = sent (λ p. Place (permuted_place n order p))

pub steps_stand : (n : ℕ) (order : List ℕ) (steps : List Step) → IsOrder n order → AreSteps n steps → AreSteps n (permuted_steps n order steps)
steps_stand n order steps is are = record {
  each = λ i s at.
      let old = mapped_at (moved (permuted_place n order)) steps i s at in
      let here : IsStepAt (n + 1 + i) (moved (permuted_place n order) old.0) = moved_below (permuted_place n order) (n + 1 + i) (n + 1 + i) old.0 (are.each i old.0 old.1)
      (λ x reads from below. let there = permuted_within n order x (n + i) is from (omega (arith, below)) (omega arith) in (there.0, omega (arith, there.1))) in
      subst (λ (x : Step). IsStepAt (n + 1 + i) x) old.2 here;
}

out_named_so : (n : ℕ) (order : List ℕ) (last : ℕ) → IsOrder n order → n ≤ last → (o : Out) → NamesPlace last o → NamesPlace last (permuted_out n order o)
out_named_so n order last is inputs Zero names = tt
out_named_so n order last is inputs One names = tt
out_named_so n order last is inputs (Place p) names = permuted_within n order p last is names.0 names.1 inputs

pub outs_stand : (n : ℕ) (order : List ℕ) (last : ℕ) (outs : List Out) → IsOrder n order → n ≤ last → All (NamesPlace last) outs → All (NamesPlace last) (map (permuted_out n order) outs)
outs_stand n order last outs is inputs all =
    All-map (NamesPlace last) (permuted_out n order) outs
    (All-weaker (NamesPlace last) (λ o. NamesPlace last (permuted_out n order o)) (out_named_so n order last is inputs) outs all)

-- ---- values

pub permuted_values : (n : ℕ) (order : List ℕ) (steps : List Step) → IsOrder n order → AreSteps n steps → (t p : ℕ) →
    1 ≤ p → p < n + 1 + length steps → values_on n (permuted_row n order t) steps p ≡
    values_on n t (permuted_steps n order steps) (permuted_place n order p)
permuted_values n order steps is are t p from low =
    let new : ℕ → Bool = values_on n t (permuted_steps n order steps) in
    values_are n (permuted_row n order t) (λ q. new (permuted_place n order q)) steps are
    (λ q q_from q_low.
    ap new (permuted_input n order q q_low)
    ∙ input_value n t (number order q) (permuted_steps n order steps) (omega (arith, (order_at n order q is q_from q_low).1))
    ∙ sym (row_digit (λ j. input n t (number order j)) n (n - q) q (omega arith) q_from))
    (λ i s at.
    ap new (permuted_gate n order (n + 1 + i) (omega arith))
    ∙ step_is n t (permuted_steps n order steps) (steps_stand n order steps is are) i
    (moved (permuted_place n order) s) (slice_get-map (moved (permuted_place n order)) steps i
    ∙ ap (option_map (moved (permuted_place n order))) at))
    p from low

out_same : (n : ℕ) (order : List ℕ) (last : ℕ) (bits old : ℕ → Bool) →
    ((p : ℕ) → 1 ≤ p → p ≤ last → bits (permuted_place n order p) ≡ old p) → (o : Out) → NamesPlace last o →
    out_bit bits (permuted_out n order o) ≡ out_bit old o
out_same n order last bits old same Zero names = refl
out_same n order last bits old same One names = refl
out_same n order last bits old same (Place p) names = same p names.0 names.1

-- ---- chains

abbrev pub permuted_chain : List ℕ → Chain → Chain
permuted_chain order c = record { n = c.n; steps = permuted_steps c.n order c.steps; outs = map (permuted_out c.n order) c.outs }

pub chain_stands : (order : List ℕ) (c : Chain) → IsOrder c.n order → IsChain c → IsChain (permuted_chain order c)
chain_stands order c is chain = record {
  steps = steps_stand c.n order c.steps is chain.steps;
  outs = subst (λ (k : ℕ). All (NamesPlace (c.n + k)) (map (permuted_out c.n order) c.outs))
      (sym (length-map c.steps (moved (permuted_place c.n order))))
      (outs_stand c.n order (c.n + length c.steps) c.outs is (omega arith) chain.outs);
}

pub small_stands : (order : List ℕ) (c : Chain) → IsOrder c.n order → IsSmallChain c → IsSmallChain (permuted_chain order c)
small_stands order c is small = record {
  chain = chain_stands order c is small.chain;
  inputs = small.inputs;
  steps = omega (arith, length-map c.steps (moved (permuted_place c.n order)), small.steps);
  outs = omega (arith, length-map c.outs (permuted_out c.n order), small.outs);
}

value_permuted : (order : List ℕ) (c : Chain) → IsOrder c.n order → IsChain c → (h t : ℕ) → 1 ≤ h → h ≤ length c.outs →
    output_value (permuted_chain order c) h t ≡ output_value c h (permuted_row c.n order t)
value_permuted order c is chain h t from low =
    let o : Out = slice_index_or c.outs (h - 1) Zero in
    let last : ℕ = c.n + length c.steps in
    let new : ℕ → Bool = values_on c.n t (permuted_steps c.n order c.steps) in
    let old : ℕ → Bool = values_on c.n (permuted_row c.n order t) c.steps in
    ap (out_value (permuted_chain order c) t) (get_or-map (permuted_out c.n order) c.outs (h - 1) Zero Zero (omega arith))
    ∙ out_value_is (permuted_chain order c) t (permuted_out c.n order o)
    ∙ out_same c.n order last new old (λ p p_from p_low.
    sym (permuted_values c.n order c.steps is chain.steps t p p_from (omega arith))) o
    (out_named last h (length c.outs) c.outs refl from low chain.outs)
    ∙ sym (out_value_is c (permuted_row c.n order t) o)

pub over_permuted : (order : List ℕ) (c : Chain) (basis : Basis) → IsOver basis c → IsOver basis (permuted_chain order c)
over_permuted order c basis over = All-map (λ (s : Step). basis s.op ≡ true) (moved (permuted_place c.n order)) c.steps over

pub size_permuted : (order : List ℕ) (c : Chain) → length (permuted_steps c.n order c.steps) ≡ length c.steps
size_permuted order c = length-map c.steps (moved (permuted_place c.n order))

pub agrees_permuted : (s r : Specification) (order : List ℕ) (c : Chain) → IsOrder c.n order → IsPermuted s r order → IsChain c → Agrees c s → Agrees (permuted_chain order c) r
agrees_permuted s r order c is permuted chain agrees = record {
  inputs = agrees.inputs ∙ sym permuted.inputs;
  outputs = length-map c.outs (permuted_out c.n order) ∙ agrees.outputs ∙ sym permuted.outputs;
  cells = λ h t from low row.
      let inside : h ≤ s.outputs = omega (arith, low, permuted.outputs) in
      let below : t < 2 ^ s.inputs = subst (λ (n : ℕ). t < 2 ^ n) permuted.inputs row in
      let there : permuted_row c.n order t < 2 ^ s.inputs = subst (λ (n : ℕ). permuted_row c.n order t < 2 ^ n) agrees.inputs (row_low (λ j. input c.n t (number order j)) c.n) in
      ap (λ (b : Bool). is_met (r.cell h t) b) (value_permuted order c is chain h t from (omega (arith, inside, agrees.outputs)))
      ∙ ap (λ k. is_met k (output_value c h (permuted_row c.n order t))) (permuted.cell h t from inside below ∙ sym (ap (λ (n : ℕ). s.cell h (permuted_row n order t)) agrees.inputs))
      ∙ agrees.cells h (permuted_row c.n order t) from inside there;
}

pub chain_permuted : (s r : Specification) (order : List ℕ) (basis : Basis) (q : ℕ) → IsOrder s.inputs order → IsPermuted s r order → HasChain s basis q → HasChain r basis q
chain_permuted s r order basis q is_order permuted has =
    let c : Chain = has.chain in
    let is : IsOrder c.n order = subst (λ (n : ℕ). IsOrder n order) (sym has.agrees.inputs) is_order in
    record {
      chain = permuted_chain order c;
      is_chain = chain_stands order c is has.is_chain;
      size = size_permuted order c ∙ has.size;
      is_over = over_permuted order c basis has.is_over;
      agrees = agrees_permuted s r order c is permuted has.is_chain has.agrees;
    }

pub none_permuted : (s r : Specification) (order : List ℕ) (basis : Basis) (k : ℕ) → IsOrder s.inputs order → IsPermuted s r order → NoneBelow r basis k → NoneBelow s basis k
none_permuted s r order basis k is permuted none = λ q low has. none q low (chain_permuted s r order basis q is permuted has)

pub ruleset permute = (common_steps, chain_permuted)
