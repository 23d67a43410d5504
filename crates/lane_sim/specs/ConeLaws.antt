-- The values of a cone's nodes, as equations.
use Rattle.std.proofs.Common.{◌≡◌, ◌∙◌, ℕ, zero, suc, ◌+◌, ◌-◌, ◌≢◌, Bool, List, [], ◌∷◌, ◌++◌, length, map, take, Some, refl, ap, sym, subst, arith, append_assoc, eq-eqb}
use Rattle.std.specs.Prelude.{slice_get, ◌==◌}
use Rattle.std.proofs.lemmas.Bool.{cond-true, cond-false, ne_eqb}
use Rattle.std.proofs.lemmas.Option.{slice_get_within}
use Rattle.chain_theory.specs.Operator.{digit, apply}
use Rattle.chain_theory.specs.Value.{extended}
use Rattle.net_theory.specs.declared.data.Sig.{Sig}
use Rattle.net_theory.specs.declared.data.Sig.TheVariants as sigs
use Rattle.net_theory.specs.declared.data.Gate.{Gate}
use Rattle.net_theory.specs.Net.{gate_value, sig_value}
use Rattle.lane_sim.specs.Cone.{Cone, IsCone, IsGateOver, IsSigAmong, AreApart, node_of, nodes, leaf_bits, gates_after, value_in}
use Rattle.lane_sim.specs.LaneLaws.{at_prefix, at_next}
use Rattle.lane_sim.specs.PatternLaws.{at_after}

-- a node without a gate keeps its bit
pub gates_keep : (bits : ℕ → Bool) (xs : List (ℕ × Gate)) (p : ℕ) → ((k q : ℕ) → slice_get (map node_of xs) k ≡ Some q → p ≢ q) → gates_after bits xs p ≡ bits p
unfolding gates_after
gates_keep bits [] p other = refl
gates_keep bits (x ∷ xs) p other =
    gates_keep (extended bits x.0 (gate_value bits x.1)) xs p (λ k q e. other (suc k) q e) ∙ cond-false (p == x.0) _ _ (ne_eqb p x.0 (other 0 x.0 refl))

leaf_at : (qs : List ℕ) (row i p : ℕ) → AreApart qs → slice_get qs i ≡ Some p → leaf_bits qs row p ≡ digit row (length qs - 1 - i)
unfolding leaf_bits
leaf_at [] row i p apart e = absurd cc
leaf_at (q ∷ qs) row zero p apart e =
    let same : q ≡ p = some_same q p e in
    let node : length qs ≡ suc (length qs) - 1 - 0 = omega arith in
    cond-true (p == q) _ _ (eq-eqb p q (sym same)) ∙ ap (digit row) node
  where
    some_same : (x y : ℕ) → Some x ≡ Some y → x ≡ y
    some_same x y f = cc
leaf_at (q ∷ qs) row (suc i) p apart e =
    let other : p ≢ q = λ same. first_only (apart 0 (suc i) q refl (e ∙ ap Some same)) in
    let node : length qs - 1 - i ≡ suc (length qs) - 1 - suc i = omega arith in
    cond-false (p == q) _ _ (ne_eqb p q other)
    ∙ leaf_at qs row i p (λ a b x ea eb. omega (arith, apart (suc a) (suc b) x ea eb)) e
    ∙ ap (digit row) node
  where
    first_only : {i : ℕ} → 0 ≡ suc i → ⊥
    first_only e = omega (arith, e)

-- The value of a leaf is its bit of the assignment, the first leaf's being the most significant.
pub cone_leaf : (c : Cone) (row i p : ℕ) → IsCone c → slice_get c.leaves i ≡ Some p → value_in c row p ≡ digit row (length c.leaves - 1 - i)
cone_leaf c row i p cone at =
    gates_keep (leaf_bits c.leaves row) c.gates p
    (λ k q e same.
    let here : slice_get (nodes c) i ≡ Some p = at_prefix c.leaves (map node_of c.gates) i p at in
    let there : slice_get (nodes c) (length c.leaves + k) ≡ Some p = at_after c.leaves (map node_of c.gates) k q e ∙ ap Some (sym same) in
    omega (arith, cone.apart i (length c.leaves + k) p here there, slice_get_within c.leaves i p at))
    ∙ leaf_at c.leaves row i p (λ a b x ea eb. cone.apart a b x (at_prefix c.leaves (map node_of c.gates) a x ea) (at_prefix c.leaves (map node_of c.gates) b x eb)) at

same_sig : (f g : ℕ → Bool) (ps : List ℕ) (s : Sig) → IsSigAmong ps s → ((k p : ℕ) → slice_get ps k ≡ Some p → f p ≡ g p) → sig_value f s ≡ sig_value g s
same_sig f g ps sigs.Zero among same = refl
same_sig f g ps sigs.One among same = refl
same_sig f g ps (sigs.Node p) among same = same among.0 p among.1

-- the gate at an index, where the nodes `ps` precede all gates
gate_holds : (bits : ℕ → Bool) (ps : List ℕ) (xs : List (ℕ × Gate)) (i : ℕ) (x : ℕ × Gate) →
    AreApart (ps ++ map node_of xs) → slice_get xs i ≡ Some x → IsGateOver (ps ++ map node_of (take i xs)) x.1 →
    gates_after bits xs x.0 ≡ gate_value (gates_after bits xs) x.1
unfolding gates_after
gate_holds bits ps [] i x apart e over = absurd cc
gate_holds bits ps (y ∷ xs) zero x apart e over =
    let same : y ≡ x = some_same y x e in
    subst (λ (z : ℕ × Gate). gates_after bits (y ∷ xs) z.0 ≡ gate_value (gates_after bits (y ∷ xs)) z.1) same
    (here (subst (λ (z : ℕ × Gate). IsGateOver ps z.1) (sym same) (subst (λ (qs : List ℕ). IsGateOver qs x.1) (nothing_more ps) over)))
  where
    some_same : (a b : ℕ × Gate) → Some a ≡ Some b → a ≡ b
    some_same a b f = cc

    nothing_more : (qs : List ℕ) → qs ++ [] ≡ qs
    nothing_more [] = refl
    nothing_more (q ∷ qs) = ap (λ (rs : List ℕ). q ∷ rs) (nothing_more qs)

    next : ℕ → Bool
    next = extended bits y.0 (gate_value bits y.1)

    own : gates_after next xs y.0 ≡ gate_value bits y.1
    own = gates_keep next xs y.0 (λ k q f same. after_first k q f same) ∙ cond-true (y.0 == y.0) _ _ (eq-eqb y.0 y.0 refl) where
      after_first : (k q : ℕ) → slice_get (map node_of xs) k ≡ Some q → y.0 ≡ q → ⊥
      after_first k q f same =
          let first : slice_get (ps ++ (y.0 ∷ map node_of xs)) (length ps) ≡ Some y.0 = at_next ps y.0 (map node_of xs) in
          let later : slice_get (ps ++ (y.0 ∷ map node_of xs)) (length ps + suc k) ≡ Some y.0 = at_after ps (y.0 ∷ map node_of xs) (suc k) q f ∙ ap Some (sym same) in
          omega (arith, apart (length ps) (length ps + suc k) y.0 first later)

    before : (k p : ℕ) → slice_get ps k ≡ Some p → bits p ≡ gates_after next xs p
    before k p f =
        sym (gates_keep bits (y ∷ xs) p (λ j q g same.
        let here_is : slice_get (ps ++ (y.0 ∷ map node_of xs)) k ≡ Some p = at_prefix ps (y.0 ∷ map node_of xs) k p f in
        let there_is : slice_get (ps ++ (y.0 ∷ map node_of xs)) (length ps + j) ≡ Some p = at_after ps (y.0 ∷ map node_of xs) j q g ∙ ap Some (sym same) in
        omega (arith, apart k (length ps + j) p here_is there_is, slice_get_within ps k p f)))

    here : IsGateOver ps y.1 → gates_after bits (y ∷ xs) y.0 ≡ gate_value (gates_after bits (y ∷ xs)) y.1
    here is =
        own
        ∙ ap (λ (b : Bool). apply y.1.op b (sig_value bits y.1.b)) (same_sig bits (gates_after next xs) ps y.1.a is.first before)
        ∙ ap (apply y.1.op (sig_value (gates_after next xs) y.1.a)) (same_sig bits (gates_after next xs) ps y.1.b is.second before)
gate_holds bits ps (y ∷ xs) (suc i) x apart e over =
    gate_holds (extended bits y.0 (gate_value bits y.1)) (ps ++ y.0 ∷ []) xs i x
    (subst AreApart (sym (append_assoc ps (y.0 ∷ []) (map node_of xs))) apart) e
    (subst (λ (qs : List ℕ). IsGateOver qs x.1) (sym (append_assoc ps (y.0 ∷ []) (map node_of (take i xs)))) over)

-- The value of a gate is its operator on the values of its operands.
pub cone_gate : (c : Cone) (row i : ℕ) (x : ℕ × Gate) → IsCone c → slice_get c.gates i ≡ Some x → value_in c row x.0 ≡ gate_value (value_in c row) x.1
cone_gate c row i x cone at = gate_holds (leaf_bits c.leaves row) c.leaves c.gates i x cone.apart at (cone.gates i x at)
