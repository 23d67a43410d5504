-- A step is left out: if its value is that of a lower signal, a chain of fewer steps computes the same
-- outputs.
use Rattle.std.proofs.Common.{◌≡◌, ℕ, zero, suc, ◌+◌, ◌-◌, ◌≤◌, ◌<◌, Bool, true, List, [], ◌∷◌, ◌++◌, length, map, Some, refl, sym, ap, ◌∙◌, arith, inl, inr, ⊎_elim, subst, length-append}
use Rattle.std.specs.Prelude.{slice_get, slice_index_or}
use Rattle.std.proofs.lemmas.List.{get_or-map, length-map}
use Rattle.std.proofs.lemmas.List.Elements.{All-map, All-weaker}
use Rattle.std.proofs.lemmas.Option.{slice_get-get_or}
use Rattle.std.proofs.lemmas.Bool.{cases_eq}
use Rattle.chain_theory.specs.Operator.{apply, Basis}
use Rattle.chain_theory.specs.Specification.{Specification}
use Rattle.chain_theory.specs.Chain.{Step, Chain, IsStepAt, AreSteps, NamesPlace}
use Rattle.chain_theory.specs.Value.{step_value, values_on, out_value}
use Rattle.chain_theory.specs.Agreement.{is_met, HasChain}
use Rattle.chain_theory.specs.declared.data.Out.{Out}
use Rattle.chain_theory.specs.declared.data.Out.TheVariants.{Zero, One, Place}
use Rattle.chain_laws.specs.Follow.{with_own, own_has, other_has, step_is, push_are_steps, push_values, push_cases, push_last, rebuilt, rebuilt_length, rebuilt_at}
use Rattle.chain_laws.specs.Bodies.{Body, Fits, AreBelow, bits_of, out_bit, are_steps, step_bit, prefix_bits, out_value_is, out_named}
use Rattle.chain_laws.specs.Signals.{IsSignal, IsThere, IsOneStep, joined}
use Rattle.chain_laws.specs.NormalForm.{Reads}

-- ---- signals where steps are added

signal_more : (basis : Basis) (last more : ℕ) → last ≤ more → (o : Out) → IsSignal basis last o → IsSignal basis more o
signal_more basis last more le Zero is = is
signal_more basis last more le One is = is
signal_more basis last more le (Place p) is = (is.0, omega (arith, is.1))

signal_bit : (basis : Basis) (last : ℕ) (f g : ℕ → Bool) → ((p : ℕ) → 1 ≤ p → p ≤ last → f p ≡ g p) → (o : Out) → IsSignal basis last o → out_bit f o ≡ out_bit g o
signal_bit basis last f g same Zero is = refl
signal_bit basis last f g same One is = refl
signal_bit basis last f g same (Place p) is = same p is.0 is.1

signal_named : (basis : Basis) (last : ℕ) (o : Out) → IsSignal basis last o → NamesPlace last o
signal_named basis last Zero is = tt
signal_named basis last One is = tt
signal_named basis last (Place p) is = is

own_out : (f : ℕ → Out) (bits : ℕ → Bool) (place p : ℕ) (o : Out) → p ≡ place → out_bit bits (with_own f place o p) ≡ out_bit bits o
own_out f bits place p o e = ap (out_bit bits) (own_has f place p o e)

-- ---- the steps rebuilt, first to last

-- The first k steps of a chain, rebuilt with fewer steps: each place so far has a signal with the same
-- value.
pub record Mirrors (n : ℕ) (basis : Basis) (has : ℕ → ℕ → Bool) (k : ℕ) : Type 0 where
  pub new : List Step
  pub signal : ℕ → Out
  pub steps : AreSteps n new
  pub over : (i : ℕ) (a : Step) → slice_get new i ≡ Some a → basis a.op ≡ true
  pub fewer : length new < k
  pub signals : (p : ℕ) → 1 ≤ p → p < n + 1 + k → IsSignal basis (n + length new) (signal p)
  pub same : (t p : ℕ) → 1 ≤ p → p < n + 1 + k → out_bit (values_on n t new) (signal p) ≡ has t p

mirror_place : (n : ℕ) (basis : Basis) (has : ℕ → ℕ → Bool) (k : ℕ) (m : Mirrors n basis has k) → (o : Out) →
    IsSignal basis (n + length m.new) o → ((t : ℕ) → out_bit (values_on n t m.new) o ≡ has t (n + 1 + k)) →
    Mirrors n basis has (k + 1)
mirror_place n basis has k m o is same =
    let place : ℕ = n + 1 + k in
    record {
      new = m.new;
      signal = with_own m.signal place o;
      steps = m.steps;
      over = m.over;
      fewer = omega (arith, m.fewer);
      signals = λ p from low. ⊎_elim
          (λ (here : p ≡ place). subst (IsSignal basis (n + length m.new)) (sym (own_has m.signal place p o here)) is)
          (λ (other : p ≡ place → ⊥). subst (IsSignal basis (n + length m.new)) (sym (other_has m.signal place p o other)) (m.signals p from (omega arith)))
          (cases_eq p place);
      same = λ t p from low. ⊎_elim
          (λ (here : p ≡ place). own_out m.signal (values_on n t m.new) place p o here ∙ same t ∙ ap (has t) (sym here))
          (λ (other : p ≡ place → ⊥). ap (out_bit (values_on n t m.new)) (other_has m.signal place p o other) ∙ m.same t p from (omega arith))
          (cases_eq p place);
    }

mirror_step : (n : ℕ) (basis : Basis) (has : ℕ → ℕ → Bool) (k : ℕ) (m : Mirrors n basis has k) (u : Step) →
    IsStepAt (n + length m.new + 1) u → basis u.op ≡ true →
    ((t : ℕ) → step_value (values_on n t m.new) u ≡ has t (n + 1 + k)) → Mirrors n basis has (k + 1)
mirror_step n basis has k m u below over same =
    let place : ℕ = n + 1 + k in
    let count : ℕ = length m.new in
    let longer : List Step = m.new ++ u ∷ [] in
    let e : n + count + 1 ≡ n + 1 + count = omega arith in
    let here_is : IsStepAt (n + 1 + count) u = subst (λ (q : ℕ). IsStepAt q u) e below in
    let are : AreSteps n longer = push_are_steps n m.new u m.steps here_is in
    let one_more : length longer ≡ count + 1 = length-append m.new (u ∷ []) in
    let keeps : (t p : ℕ) → 1 ≤ p → p ≤ n + count → values_on n t longer p ≡ values_on n t m.new p = λ t p from low. sym (push_values n t m.new u m.steps here_is p from (omega arith)) in
    let own : (t : ℕ) → values_on n t longer (n + 1 + count) ≡ has t place = λ t.
    step_is n t longer are count u (push_last m.new u)
    ∙ ap (λ (b : Bool). apply u.op b (values_on n t longer u.k)) (keeps t u.j here_is.j_from (omega (arith, here_is.j_below)))
    ∙ ap (λ (b : Bool). apply u.op (values_on n t m.new u.j) b) (keeps t u.k here_is.k_from (omega (arith, here_is.k_below)))
    ∙ same t in
    record {
      new = longer;
      signal = with_own m.signal place (Place (n + 1 + count));
      steps = are;
      over = λ i a at. ⊎_elim
          (λ (inside : slice_get m.new i ≡ Some a). m.over i a inside)
          (λ (last : (i ≡ count) × (a ≡ u)). ap (λ (x : Step). basis x.op) last.1 ∙ over)
          (push_cases m.new u a i at);
      fewer = omega (arith, m.fewer);
      signals = λ p from low. ⊎_elim
          (λ (here : p ≡ place). subst (IsSignal basis (n + length longer)) (sym (own_has m.signal place p (Place (n + 1 + count)) here)) (omega arith, omega arith))
          (λ (other : p ≡ place → ⊥). subst (IsSignal basis (n + length longer))
          (sym (other_has m.signal place p (Place (n + 1 + count)) other))
          (signal_more basis (n + count) (n + length longer) (omega arith) (m.signal p)
          (m.signals p from (omega arith))))
          (cases_eq p place);
      same = λ t p from low. ⊎_elim
          (λ (here : p ≡ place). own_out m.signal (values_on n t longer) place p (Place (n + 1 + count)) here ∙ own t ∙ ap (has t) (sym here))
          (λ (other : p ≡ place → ⊥).
          let before : p < n + 1 + k = omega arith in
          ap (out_bit (values_on n t longer)) (other_has m.signal place p (Place (n + 1 + count)) other)
          ∙ signal_bit basis (n + count) (values_on n t longer) (values_on n t m.new) (keeps t) (m.signal p) (m.signals p from before)
          ∙ m.same t p from before)
          (cases_eq p place);
    }

-- One more step of the chain is rebuilt.
mirror_next : (n : ℕ) (basis : Basis) (has : ℕ → ℕ → Bool) (k : ℕ) → Mirrors n basis has k → (a : Step) →
    IsStepAt (n + 1 + k) a → basis a.op ≡ true → ((t : ℕ) → has t (n + 1 + k) ≡ step_value (has t) a) →
    Mirrors n basis has (k + 1)
mirror_next n basis has k m a below over follows =
    let value : (ℕ → Bool) → Bool = λ bits. apply a.op (out_bit bits (m.signal a.j)) (out_bit bits (m.signal a.k)) in
    let same : (t : ℕ) → value (values_on n t m.new) ≡ has t (n + 1 + k) = λ t.
    ap (λ (b : Bool). apply a.op b (out_bit (values_on n t m.new) (m.signal a.k))) (m.same t a.j below.j_from below.j_below)
    ∙ ap (λ (b : Bool). apply a.op (has t a.j) b) (m.same t a.k below.k_from below.k_below)
    ∙ sym (follows t) in
    ⊎_elim
    (λ (there : IsThere basis (n + length m.new) value). mirror_place n basis has k m there.out there.signal (λ t. there.same (values_on n t m.new) ∙ same t))
    (λ (one : IsOneStep basis (n + length m.new) value). mirror_step n basis has k m one.step one.below one.over (λ t. one.same (values_on n t m.new) ∙ same t))
    (joined basis (n + length m.new) a.op below.op_below over (m.signal a.j) (m.signal a.k) (m.signals a.j below.j_from below.j_below) (m.signals a.k below.k_from below.k_below))

-- ---- a step left out

-- the rest of the chain is rebuilt, from index k to r
mirror_rest : (n r : ℕ) (basis : Basis) (step : ℕ → Step) (has : ℕ → ℕ → Bool) → AreBelow n r step →
    ((i : ℕ) → i < r → basis (step i).op ≡ true) → (k more : ℕ) → k + more ≤ r →
    ((t i : ℕ) → k ≤ i → i < r → has t (n + 1 + i) ≡ step_value (has t) (step i)) → Mirrors n basis has k →
    Mirrors n basis has (k + more)
mirror_rest n r basis step has below over k zero low follows m = subst (Mirrors n basis has) (let e : k ≡ k + 0 = omega arith in e) m
mirror_rest n r basis step has below over k (suc more) low follows m =
    let before : Mirrors n basis has (k + more) = mirror_rest n r basis step has below over k more (omega arith) follows m in
    let inside : k + more < r = omega arith in
    subst (Mirrors n basis has) (let e : (k + more) + 1 ≡ k + suc more = omega arith in e)
    (mirror_next n basis has (k + more) before (step (k + more)) (below (k + more) inside) (over (k + more) inside) (λ t. follows t (k + more) (omega arith) inside))

mirror_first : (n r : ℕ) (basis : Basis) (step : ℕ → Step) (has : ℕ → ℕ → Bool) → AreBelow n r step →
    ((i : ℕ) → i < r → basis (step i).op ≡ true) → (i : ℕ) → i < r → (o : Out) → IsSignal basis (n + i) o →
    ((t p : ℕ) → 1 ≤ p → p < n + 1 + i → has t p ≡ bits_of n r step t p) →
    ((t : ℕ) → has t (n + 1 + i) ≡ out_bit (bits_of n r step t) o) → Mirrors n basis has (i + 1)
mirror_first n r basis step has below over i low o is prefix own =
    let place : ℕ = n + 1 + i in
    let new : List Step = rebuilt step i in
    let count : length new ≡ i = rebuilt_length step i in
    let same : (t p : ℕ) → 1 ≤ p → p < n + 1 + i → values_on n t new p ≡ bits_of n r step t p = prefix_bits n r step below i (omega arith) in
    record {
      new = new;
      signal = with_own Place place o;
      steps = are_steps n i step (λ k inside. below k (omega arith));
      over = λ k a at. let here = rebuilt_at step i k a at in ap (λ (x : Step). basis x.op) here.1 ∙ over k (omega (arith, here.0));
      fewer = omega arith;
      signals = λ p from p_low. ⊎_elim
          (λ (here : p ≡ place). subst (IsSignal basis (n + length new)) (sym (own_has Place place p o here)) (subst (λ (c : ℕ). IsSignal basis (n + c) o) (sym count) is))
          (λ (other : p ≡ place → ⊥). subst (IsSignal basis (n + length new)) (sym (other_has Place place p o other)) (from, omega arith))
          (cases_eq p place);
      same = λ t p from p_low. ⊎_elim
          (λ (here : p ≡ place).
          own_out Place (values_on n t new) place p o here
          ∙ signal_bit basis (n + i) (values_on n t new) (bits_of n r step t) (λ q q_from q_low. same t q q_from (omega arith)) o is
          ∙ sym (own t) ∙ ap (has t) (sym here))
          (λ (other : p ≡ place → ⊥).
          let before : p < n + 1 + i = omega arith in
          ap (out_bit (values_on n t new)) (other_has Place place p o other) ∙ same t p from before ∙ sym (prefix t p from before))
          (cases_eq p place);
    }

-- an out with its place replaced by a signal
abbrev pub sent : (ℕ → Out) → Out → Out
sent signal Zero = Zero
sent signal One = One
sent signal (Place p) = signal p

sent_named : (basis : Basis) (n r last : ℕ) (signal : ℕ → Out) → ((p : ℕ) → 1 ≤ p → p < n + 1 + r → IsSignal basis last (signal p)) → (o : Out) → NamesPlace (n + r) o → NamesPlace last (sent signal o)
sent_named basis n r last signal is Zero names = tt
sent_named basis n r last signal is One names = tt
sent_named basis n r last signal is (Place p) names = signal_named basis last (signal p) (is p names.0 (omega (arith, names.1)))

sent_bit : (n r : ℕ) (signal : ℕ → Out) (f g : ℕ → Bool) → ((p : ℕ) → 1 ≤ p → p < n + 1 + r → out_bit f (signal p) ≡ g p) → (o : Out) → NamesPlace (n + r) o → out_bit f (sent signal o) ≡ out_bit g o
sent_bit n r signal f g same Zero names = refl
sent_bit n r signal f g same One names = refl
sent_bit n r signal f g same (Place p) names = same p names.0 (omega (arith, names.1))

-- a chain of fewer than r steps agrees
pub record HasFewer (s : Specification) (basis : Basis) (r : ℕ) : Type 0 where
  pub count : ℕ
  pub fewer : count < r
  pub chain : HasChain s basis count

mirror_chain : (s : Specification) (basis : Basis) (r d : ℕ) (b : Body) → Fits s basis r d b → (has : ℕ → ℕ → Bool) →
    ((h t : ℕ) → 1 ≤ h → h ≤ s.outputs → out_bit (has t) (slice_index_or b.outs (h - 1) Zero) ≡
    out_bit (bits_of s.inputs r b.step t) (slice_index_or b.outs (h - 1) Zero)) → Mirrors s.inputs basis has r →
    HasFewer s basis r
mirror_chain s basis r d b fits has outs m =
    let c : Chain = record { n = s.inputs; steps = m.new; outs = map (sent m.signal) b.outs } in
    record {
      count = length m.new;
      fewer = m.fewer;
      chain = record {
        chain = c;
        is_chain = record {
          steps = m.steps;
          outs = All-map (NamesPlace (s.inputs + length m.new)) (sent m.signal) b.outs
              (All-weaker (NamesPlace (s.inputs + r)) (λ o. NamesPlace (s.inputs + length m.new) (sent m.signal o))
              (sent_named basis s.inputs r (s.inputs + length m.new) m.signal m.signals) b.outs fits.outs);
        };
        size = refl;
        is_over = λ i x low. m.over i (slice_index_or m.new i x) (slice_get-get_or m.new i x low);
        agrees = record {
          inputs = refl;
          outputs = length-map b.outs (sent m.signal) ∙ fits.count;
          cells = λ h t from low row.
              let o : Out = slice_index_or b.outs (h - 1) Zero in
              let inside : h - 1 < length b.outs = omega (arith, fits.count) in
              ap (is_met (s.cell h t))
              (ap (out_value c t) (get_or-map (sent m.signal) b.outs (h - 1) Zero Zero inside)
              ∙ out_value_is c t (sent m.signal o)
              ∙ sent_bit s.inputs r m.signal (values_on s.inputs t m.new) (has t) (m.same t) o (out_named (s.inputs + r) h s.outputs b.outs fits.count from low fits.outs)
              ∙ outs h t from low)
              ∙ fits.cells h t from low row;
        };
      };
    }

-- If the step of index i has the value of a lower signal, and the later steps and the outs compute the
-- same from the given bits of the places, then a chain of fewer steps agrees.
pub left_out : (s : Specification) (basis : Basis) (r d : ℕ) (b : Body) → Fits s basis r d b → (i : ℕ) → i < r →
    (o : Out) → IsSignal basis (s.inputs + i) o → (has : ℕ → ℕ → Bool) →
    ((t p : ℕ) → 1 ≤ p → p < s.inputs + 1 + i → has t p ≡ bits_of s.inputs r b.step t p) →
    ((t : ℕ) → has t (s.inputs + 1 + i) ≡ out_bit (bits_of s.inputs r b.step t) o) →
    ((t k : ℕ) → i < k → k < r → has t (s.inputs + 1 + k) ≡ step_value (has t) (b.step k)) →
    ((h t : ℕ) → 1 ≤ h → h ≤ s.outputs → out_bit (has t) (slice_index_or b.outs (h - 1) Zero) ≡
    out_bit (bits_of s.inputs r b.step t) (slice_index_or b.outs (h - 1) Zero)) → HasFewer s basis r
left_out s basis r d b fits i low o is has prefix own later outs =
    let whole : (i + 1) + (r - (i + 1)) ≡ r = omega arith in
    mirror_chain s basis r d b fits has outs
    (subst (Mirrors s.inputs basis has) whole
    (mirror_rest s.inputs r basis b.step has fits.below fits.over (i + 1) (r - (i + 1)) (omega arith) (λ t k above inside. later t k (omega arith) inside)
    (mirror_first s.inputs r basis b.step has fits.below fits.over i low o is prefix own)))

-- A step with the value of a lower signal can be left out.
pub redirected : (s : Specification) (basis : Basis) (r d : ℕ) (b : Body) → Fits s basis r d b → (i : ℕ) → i < r →
    (o : Out) → IsSignal basis (s.inputs + i) o →
    ((t : ℕ) → step_value (bits_of s.inputs r b.step t) (b.step i) ≡ out_bit (bits_of s.inputs r b.step t) o) →
    HasFewer s basis r
redirected s basis r d b fits i low o is same =
    left_out s basis r d b fits i low o is (bits_of s.inputs r b.step) (λ t p from p_low. refl)
    (λ t. step_bit s.inputs r b.step fits.below t i low ∙ same t)
    (λ t k above inside. step_bit s.inputs r b.step fits.below t k inside)
    (λ h t from h_low. refl)

unread_bit : (bits : ℕ → Bool) (place : ℕ) (own : Bool) (o : Out) → (o ≡ Place place → ⊥) → out_bit (with_own bits place own) o ≡ out_bit bits o
unread_bit bits place own Zero other = refl
unread_bit bits place own One other = refl
unread_bit bits place own (Place p) other = other_has bits place p own (λ (e : p ≡ place). other (ap Place e))

-- A step that isn't an out and that no step reads can be left out.
pub unused : (s : Specification) (basis : Basis) (r d : ℕ) (b : Body) → Fits s basis r d b → (i : ℕ) → i < r →
    ((k : ℕ) → k < r → Reads (b.step k) (s.inputs + 1 + i) → ⊥) →
    ((h : ℕ) → 1 ≤ h → h ≤ s.outputs → slice_index_or b.outs (h - 1) Zero ≡ Place (s.inputs + 1 + i) → ⊥) →
    HasFewer s basis r
unused s basis r d b fits i low unread no_out =
    let n : ℕ = s.inputs in
    let place : ℕ = n + 1 + i in
    let j : ℕ = (b.step i).j in
    let here : IsStepAt place (b.step i) = fits.below i low in
    let bits : ℕ → ℕ → Bool = bits_of n r b.step in
    let has : ℕ → ℕ → Bool = λ t. with_own (bits t) place (bits t j) in
    left_out s basis r d b fits i low (Place j) (here.j_from, omega (arith, here.j_below)) has
    (λ t p from p_low. other_has (bits t) place p (bits t j) (λ e. omega arith))
    (λ t. own_has (bits t) place place (bits t j) refl)
    (λ t k above inside.
    let a : Step = b.step k in
    other_has (bits t) place (n + 1 + k) (bits t j) (λ e. omega arith)
    ∙ step_bit n r b.step fits.below t k inside
    ∙ sym (ap (λ (x : Bool). apply a.op x (has t a.k)) (other_has (bits t) place a.j (bits t j) (λ e. unread k inside (inl e)))
    ∙ ap (λ (x : Bool). apply a.op (bits t a.j) x) (other_has (bits t) place a.k (bits t j) (λ e. unread k inside (inr e)))))
    (λ h t from h_low. unread_bit (bits t) place (bits t j) (slice_index_or b.outs (h - 1) Zero) (no_out h from h_low))
