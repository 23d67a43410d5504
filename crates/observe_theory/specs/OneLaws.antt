-- A window has one fanout cone, and one observed specification up to don't-cares that no chain distinguishes.
use Rattle.std.specs.Prelude.{◌≡◌, ℕ, ◌≤◌, ◌<◌, ◌^◌, Bool, true, false, List, [], ◌∷◌, ◌++◌, length, refl}
use Rattle.std.proofs.Common.{arith, sym, ◌∙◌, ap, subst, ⊎_elim}
use Rattle.std.proofs.lemmas.Bool.{cases_Bool, cases_eq, cases_lt, both_ways}
use Rattle.chain_theory.specs.Operator.{Basis}
use Rattle.chain_theory.specs.Specification.{Specification}
use Rattle.chain_theory.specs.Agreement.{output_value, is_met, HasChain}
use Rattle.chain_theory.specs.declared.data.Cell.{Cell}
use Rattle.net_theory.specs.Net.{Net}
use Rattle.window_theory.specs.Nodes.{among, AreJust}
use Rattle.window_theory.specs.NodeLaws.{just_same}
use Rattle.window_theory.specs.Window.{Window}
use Rattle.window_theory.specs.Care.{values_with, IsCareRow, IsSpecificationOf}
use Rattle.observe_theory.specs.FanoutCone.{IsFollower, IsLeastFollower, AreFollowing, AreFanoutCone, IsSideInput, IsConeOutput, IsDirectlyObservable, FanoutCone, IsFanoutCone}
use Rattle.observe_theory.specs.Unobservable.{IsUnobservable}
use Rattle.observe_theory.specs.Observed.{IsObservedOf}

-- ---- one fanout cone

least_one : (n : Net) (rest other : List ℕ) (p q : ℕ) → rest ≡ other → IsLeastFollower n rest p → IsLeastFollower n other q → p ≡ q
least_one n rest other p q same a b =
    let c : IsLeastFollower n rest q = subst (λ (xs : List ℕ). IsLeastFollower n xs q) (sym same) b in
    omega (arith, a.least q c.follower, c.least p a.follower)

following_one : (n : Net) (gates xs ys : List ℕ) → AreFollowing n gates xs → AreFollowing n gates ys → length xs ≡ length ys → xs ≡ ys
unfolding AreFollowing
following_one n gates [] [] a b size = refl
following_one n gates [] (q ∷ ys) a b size = absurd (omega (arith, size))
following_one n gates (p ∷ xs) [] a b size = absurd (omega (arith, size))
following_one n gates (p ∷ xs) (q ∷ ys) a b size =
    let rest : xs ≡ ys = following_one n gates xs ys a.1 b.1 (omega (arith, size)) in
    let first : p ≡ q = least_one n (xs ++ gates) (ys ++ gates) p q (ap (λ (zs : List ℕ). zs ++ gates) rest) a.0 b.0 in
    ap (λ (z : ℕ). z ∷ xs) first ∙ ap (λ (zs : List ℕ). q ∷ zs) rest

-- where no follower is left, no longer list can be taken
no_more : (n : Net) (gates xs ys : List ℕ) → AreFollowing n gates xs → ((p : ℕ) → IsFollower n (xs ++ gates) p → ⊥) → AreFollowing n gates ys → length xs < length ys → ⊥
unfolding AreFollowing
no_more n gates xs [] a none b more = omega (arith, more)
no_more n gates xs (q ∷ ys) a none b more =
    ⊎_elim
    (λ same.
    let rest : xs ≡ ys = following_one n gates xs ys a b.1 same in
    none q (subst (λ (zs : List ℕ). IsFollower n (zs ++ gates) q) (sym rest) b.0.follower))
    (λ other. no_more n gates xs ys a none b.1 (omega (arith, more, other)))
    (cases_eq (length xs) (length ys))

not_fewer : (n : Net) (gates fanout_cone other : List ℕ) → (a : AreFanoutCone n gates fanout_cone) → (b : AreFanoutCone n gates other) → length a.taken < length b.taken → ⊥
not_fewer n gates fanout_cone other a b less = no_more n gates a.taken b.taken a.following (a.all (omega (arith, less, b.few))) b.following less

gates_one : (n : Net) (gates fanout_cone other : List ℕ) → AreFanoutCone n gates fanout_cone → AreFanoutCone n gates other → fanout_cone ≡ other
gates_one n gates fanout_cone other a b =
    let size : length a.taken ≡ length b.taken = ⊎_elim
    (λ less. absurd (not_fewer n gates fanout_cone other a b less))
    (λ most. ⊎_elim
    (λ (less : length b.taken < length a.taken). absurd (not_fewer n gates other fanout_cone b a less))
    (λ least. omega (arith, most, least))
    (cases_lt (length b.taken) (length a.taken)))
    (cases_lt (length a.taken) (length b.taken)) in
    let same : a.taken ≡ b.taken = following_one n gates a.taken b.taken a.following b.following size in
    just_same (λ p. among a.taken p ≡ true) fanout_cone other a.just (subst (λ (zs : List ℕ). AreJust (λ p. among zs p ≡ true) other) (sym same) b.just)

bits_one : (a b : Bool) (P : Type 0) → (a ≡ true → P) → (a ≡ false → P → ⊥) → (b ≡ true → P) → (b ≡ false → P → ⊥) → a ≡ b
bits_one true true P on off there none = refl
bits_one false false P on off there none = refl
bits_one true false P on off there none = absurd (none refl (on refl))
bits_one false true P on off there none = absurd (off refl (there refl))

abbrev made : List ℕ → List ℕ → List ℕ → Bool → FanoutCone
made gates side_inputs cone_outputs directly_observable = record { gates = gates; side_inputs = side_inputs; cone_outputs = cone_outputs; directly_observable = directly_observable }

fanout_cone_fields : (t u : FanoutCone) → t.gates ≡ u.gates → t.side_inputs ≡ u.side_inputs → t.cone_outputs ≡ u.cone_outputs → t.directly_observable ≡ u.directly_observable → t ≡ u
fanout_cone_fields t u a b c d =
    ap (λ (xs : List ℕ). made xs t.side_inputs t.cone_outputs t.directly_observable) a
    ∙ ap (λ (xs : List ℕ). made u.gates xs t.cone_outputs t.directly_observable) b
    ∙ ap (λ (xs : List ℕ). made u.gates u.side_inputs xs t.directly_observable) c
    ∙ ap (λ (x : Bool). made u.gates u.side_inputs u.cone_outputs x) d

-- A window has one fanout cone.
pub fanout_cone_one : (n : Net) (w : Window) (t u : FanoutCone) → IsFanoutCone n w t → IsFanoutCone n w u → t ≡ u
fanout_cone_one n w t u a b =
    let gates : t.gates ≡ u.gates = gates_one n w.gates t.gates u.gates a.gates b.gates in
    fanout_cone_fields t u gates
    (just_same (IsSideInput n w.gates t.gates) t.side_inputs u.side_inputs a.side_inputs (subst (λ (gs : List ℕ). AreJust (IsSideInput n w.gates gs) u.side_inputs) (sym gates) b.side_inputs))
    (just_same (IsConeOutput n w.gates t.gates) t.cone_outputs u.cone_outputs a.cone_outputs (subst (λ (gs : List ℕ). AreJust (IsConeOutput n w.gates gs) u.cone_outputs) (sym gates) b.cone_outputs))
    (bits_one t.directly_observable u.directly_observable (IsDirectlyObservable n w.gates t.gates) a.directly_observable a.hidden
    (λ on. subst (IsDirectlyObservable n w.gates) (sym gates) (b.directly_observable on))
    (λ off is. b.hidden off (subst (IsDirectlyObservable n w.gates) gates is)))

-- ---- one observed specification

-- a bit that meets a cell of one specification of a window meets that of another
met_whole : (n : Net) (w : Window) (s z : Specification) (h row : ℕ) (bit : Bool) → IsSpecificationOf n w s →
    IsSpecificationOf n w z → 1 ≤ h → h ≤ length w.outputs → row < 2 ^ length w.inputs →
    is_met (s.cell h row) bit ≡ true → is_met (z.cell h row) bit ≡ true
met_whole n w s z h row bit a b low high below met =
    ⊎_elim
    (λ on. on)
    (λ off.
    let none : IsCareRow n w.inputs row → ⊥ = λ care.
    let given : ℕ → Bool = values_with n (among care.leaves) care.given in
    let same : s.cell h row ≡ z.cell h row = a.care h row given low high below care care.bits ∙ sym (b.care h row given low high below care care.bits) in
    both_ways (is_met (z.cell h row) bit) off (ap (λ (c : Cell). is_met c bit) (sym same) ∙ met) in
    ap (λ (c : Cell). is_met c bit) (b.free h row low high below none))
    (cases_Bool (is_met (z.cell h row) bit))

met_same : (n : Net) (w : Window) (s z : Specification) (a : IsObservedOf n w s) (b : IsObservedOf n w z) (h row : ℕ)
    (bit : Bool) → 1 ≤ h → h ≤ length w.outputs → row < 2 ^ length w.inputs → is_met (s.cell h row) bit ≡ true →
    is_met (z.cell h row) bit ≡ true
met_same n w s z a b h row bit low high below met =
    ⊎_elim
    (λ on. on)
    (λ off.
    let fanout_cones : a.fanout_cone ≡ b.fanout_cone = fanout_cone_one n w a.fanout_cone b.fanout_cone a.is_fanout_cone b.is_fanout_cone in
    let high_a : h ≤ a.whole.outputs = subst (λ (k : ℕ). h ≤ k) (sym a.is_whole.outputs) high in
    let high_b : h ≤ b.whole.outputs = subst (λ (k : ℕ). h ≤ k) (sym b.is_whole.outputs) high in
    let below_a : row < 2 ^ a.whole.inputs = subst (λ (k : ℕ). row < 2 ^ k) (sym a.is_whole.inputs) below in
    let below_b : row < 2 ^ b.whole.inputs = subst (λ (k : ℕ). row < 2 ^ k) (sym b.is_whole.inputs) below in
    let seen : IsUnobservable n w b.fanout_cone row → ⊥ = λ u. both_ways (is_met (z.cell h row) bit) off (ap (λ (c : Cell). is_met c bit) (b.relaxed.unobservable h row low high_b below_b u)) in
    let own_a : s.cell h row ≡ a.whole.cell h row = a.relaxed.seen h row low high_a below_a (λ u. seen (subst (λ (t : FanoutCone). IsUnobservable n w t row) fanout_cones u)) in
    let own_b : z.cell h row ≡ b.whole.cell h row = b.relaxed.seen h row low high_b below_b seen in
    ap (λ (c : Cell). is_met c bit) own_b ∙ met_whole n w a.whole b.whole h row bit a.is_whole b.is_whole low high below (ap (λ (c : Cell). is_met c bit) (sym own_a) ∙ met))
    (cases_Bool (is_met (z.cell h row) bit))

-- The same chains implement all observed specifications of a window.
pub observed_same : (n : Net) (w : Window) (s z : Specification) (basis : Basis) (r : ℕ) → IsObservedOf n w s → IsObservedOf n w z → HasChain s basis r → HasChain z basis r
observed_same n w s z basis r a b has =
    let inputs_a : s.inputs ≡ length w.inputs = a.relaxed.inputs ∙ a.is_whole.inputs in
    let inputs_b : z.inputs ≡ length w.inputs = b.relaxed.inputs ∙ b.is_whole.inputs in
    let outputs_a : s.outputs ≡ length w.outputs = a.relaxed.outputs ∙ a.is_whole.outputs in
    let outputs_b : z.outputs ≡ length w.outputs = b.relaxed.outputs ∙ b.is_whole.outputs in
    record {
      chain = has.chain;
      is_chain = has.is_chain;
      size = has.size;
      is_over = has.is_over;
      agrees = record {
        inputs = has.agrees.inputs ∙ inputs_a ∙ sym inputs_b;
        outputs = has.agrees.outputs ∙ outputs_a ∙ sym outputs_b;
        cells = λ h row low high below.
            let within : h ≤ length w.outputs = subst (λ (k : ℕ). h ≤ k) outputs_b high in
            let under : row < 2 ^ length w.inputs = subst (λ (k : ℕ). row < 2 ^ k) inputs_b below in
            met_same n w s z a b h row (output_value has.chain h row) low within under
            (has.agrees.cells h row low (subst (λ (k : ℕ). h ≤ k) (sym outputs_a) within) (subst (λ (k : ℕ). row < 2 ^ k) (sym inputs_a) under));
      };
    }
