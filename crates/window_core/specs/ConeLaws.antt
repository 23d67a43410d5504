-- Cones of a net: the conditions for being one, and that they are parts of the net.
use Rattle.std.specs.Prelude.{◌≡◌, ℕ, zero, suc, ◌<◌, Bool, true, false, List, [], ◌∷◌, ◌++◌, take, slice_get, Some, refl}
use Rattle.std.proofs.Common.{arith, sym, ap, subst, inl, inr, ⊎_elim}
use Rattle.std.proofs.lemmas.Bool.{cases_Bool}
use Rattle.net_theory.specs.declared.data.Sig.{Sig}
use Rattle.net_theory.specs.declared.data.Sig.TheVariants as sigs
use Rattle.net_theory.specs.declared.data.Gate.{Gate}
use Rattle.net_theory.specs.Net.{Net, IsNet}
use Rattle.net_theory.specs.Reach.{ReadsNode}
use Rattle.lane_sim.specs.Cone.{Cone, IsCone, IsSigAmong, AreApart, node_of, nodes, value_in}
use Rattle.lane_sim.specs.ConeLaws.{cone_gate}
use Rattle.window_theory.specs.Nodes.{among, IsRising}
use Rattle.window_theory.specs.NodeLaws.{among_cases, among_first, among_later}
use Rattle.window_theory.specs.Care.{IsEvaluatedPart, IsComputed}
use Rattle.window_theory.specs.WindowLaws.{reads_low}
use Rattle.window_core.specs.Gates.{IsGateOf}
use Rattle.window_core.specs.Expanding.{gate_nodes, AreAbove}
use Rattle.window_core.specs.GrowingLaws.{of_reads, reads_of}
use Rattle.window_core.specs.ExpandingLaws.{among_left, among_right, among_join}

-- ---- nodes by index

pub among_get : (xs : List ℕ) (p : ℕ) → among xs p ≡ true → (k : ℕ) × (slice_get xs k ≡ Some p)
among_get [] p e = absurd (let f : false ≡ true = e in cc)
among_get (x ∷ xs) p e =
    ⊎_elim
    (λ (same : p ≡ x). (0, ap Some (sym same)))
    (λ later. let r = among_get xs p later in (suc r.0, r.1))
    (among_cases x p xs e)

pub get_among : (xs : List ℕ) (k p : ℕ) → slice_get xs k ≡ Some p → among xs p ≡ true
get_among [] k p e = absurd cc
get_among (x ∷ xs) zero p e = let same : x ≡ p = cc in subst (λ (z : ℕ). among (x ∷ xs) z ≡ true) same (among_first x xs)
get_among (x ∷ xs) (suc k) p e = among_later x p xs (get_among xs k p e)

pub rising_apart : (xs : List ℕ) → IsRising xs → AreApart xs
unfolding IsRising
rising_apart [] rising i j p a b = absurd cc
rising_apart (x ∷ xs) rising zero zero p a b = refl
rising_apart (x ∷ xs) rising zero (suc j) p a b = let same : x ≡ p = cc in let above : x < p = rising.0 p (get_among xs j p b) in absurd (omega (arith, same, above))
rising_apart (x ∷ xs) rising (suc i) zero p a b = let same : x ≡ p = cc in let above : x < p = rising.0 p (get_among xs i p a) in absurd (omega (arith, same, above))
rising_apart (x ∷ xs) rising (suc i) (suc j) p a b = ap suc (rising_apart xs rising.1 i j p a b)

pub apart_join : (xs ys : List ℕ) → AreApart xs → AreApart ys → ((p : ℕ) → among xs p ≡ true → among ys p ≡ true → ⊥) → AreApart (xs ++ ys)
apart_join [] ys first second none i j p a b = second i j p a b
apart_join (x ∷ xs) ys first second none zero zero p a b = refl
apart_join (x ∷ xs) ys first second none zero (suc j) p a b =
    let same : x ≡ p = cc in
    ⊎_elim
    (λ there. let r = among_get xs p there in let e : 0 ≡ suc r.0 = first 0 (suc r.0) p a r.1 in absurd (omega (arith, e)))
    (λ in_fanin. absurd (none p (subst (λ (z : ℕ). among (x ∷ xs) z ≡ true) same (among_first x xs)) in_fanin))
    (among_join xs ys p (get_among (xs ++ ys) j p b))
apart_join (x ∷ xs) ys first second none (suc i) zero p a b =
    let same : x ≡ p = cc in
    ⊎_elim
    (λ there. let r = among_get xs p there in let e : 0 ≡ suc r.0 = first 0 (suc r.0) p b r.1 in absurd (omega (arith, e)))
    (λ in_fanin. absurd (none p (subst (λ (z : ℕ). among (x ∷ xs) z ≡ true) same (among_first x xs)) in_fanin))
    (among_join xs ys p (get_among (xs ++ ys) i p a))
apart_join (x ∷ xs) ys first second none (suc i) (suc j) p a b =
    ap suc (apart_join xs ys (λ k l q c d. let e : suc k ≡ suc l = first (suc k) (suc l) q c d in omega (arith, e)) second (λ q c d. none q (among_later x q xs c) d) i j p a b)

-- ---- a cone

-- a node of the gates below one of them is that of an earlier gate
pub earlier_gate : (gates : List (ℕ × Gate)) (i q : ℕ) (x : ℕ × Gate) → IsRising (gate_nodes gates) →
    slice_get gates i ≡ Some x → among (gate_nodes gates) q ≡ true → q < x.0 →
    among (gate_nodes (take i gates)) q ≡ true
unfolding IsRising
earlier_gate [] i q x rising at e low = absurd cc
earlier_gate (y ∷ gates) zero q x rising at e low =
    let same : y ≡ x = some_same y x at in
    let node : y.0 ≡ x.0 = ap node_of same in
    ⊎_elim
    (λ (own : q ≡ y.0). absurd (omega (arith, own, node, low)))
    (λ later. let above : y.0 < q = rising.0 q later in absurd (omega (arith, above, node, low)))
    (among_cases y.0 q (gate_nodes gates) e)
  where
    some_same : (a b : ℕ × Gate) → Some a ≡ Some b → a ≡ b
    some_same a b f = cc
earlier_gate (y ∷ gates) (suc i) q x rising at e low =
    ⊎_elim
    (λ (own : q ≡ y.0). subst (λ (z : ℕ). among (z ∷ gate_nodes (take i gates)) q ≡ true) own (among_first q (gate_nodes (take i gates))))
    (λ later. among_later y.0 q (gate_nodes (take i gates)) (earlier_gate gates i q x rising.1 at later low))
    (among_cases y.0 q (gate_nodes gates) e)

pub sig_among : (ps : List ℕ) (s : Sig) → ((q : ℕ) → s ≡ sigs.Node q → among ps q ≡ true) → IsSigAmong ps s
sig_among ps sigs.Zero all = tt
sig_among ps sigs.One all = tt
sig_among ps (sigs.Node q) all = among_get ps q (all q refl)

pub above_cone : (n : Net) (leaves : List ℕ) (gates : List (ℕ × Gate)) → IsNet n → AreAbove n leaves gates → IsCone (record { leaves = leaves; gates = gates })
above_cone n leaves gates net are =
    record {
      few = are.few;
      apart = apart_join leaves (gate_nodes gates) (rising_apart leaves are.leaves_rising) (rising_apart (gate_nodes gates) are.gates_rising) are.apart;
      gates = λ i x at.
          let over : (q : ℕ) → ReadsNode x.1 q → among (leaves ++ gate_nodes (take i gates)) q ≡ true = λ q reads.
          let low : q < x.0 = (reads_low n x.0 q net (of_reads n x.0 q x.1 (are.own i x at) reads)).1 in
          ⊎_elim
          (λ leaf. among_left leaves (gate_nodes (take i gates)) q leaf)
          (λ inside. among_right leaves (gate_nodes (take i gates)) q (earlier_gate gates i q x are.gates_rising at inside low))
          (are.reads i q x at reads) in
          record {
            first = sig_among (leaves ++ gate_nodes (take i gates)) x.1.a (λ q e. over q (inl e));
            second = sig_among (leaves ++ gate_nodes (take i gates)) x.1.b (λ q e. over q (inr e));
          };
    }

-- ---- a part of the net

-- a node of the gates is that of one of them
pub gate_get : (gates : List (ℕ × Gate)) (p : ℕ) → among (gate_nodes gates) p ≡ true → (i : ℕ) × (x : ℕ × Gate) × (slice_get gates i ≡ Some x) × (x.0 ≡ p)
gate_get [] p e = absurd (let f : false ≡ true = e in cc)
gate_get (x ∷ gates) p e =
    ⊎_elim
    (λ (same : p ≡ x.0). (0, x, refl, sym same))
    (λ later. let r = gate_get gates p later in (suc r.0, r.1, r.2, r.3))
    (among_cases x.0 p (gate_nodes gates) e)

-- Under each assignment of its leaves a cone of a net is a part of it.
pub cone_part : (n : Net) (c : Cone) (row : ℕ) (given : ℕ → Bool) → IsNet n → IsCone c → AreAbove n c.leaves c.gates →
    ((q : ℕ) → among c.leaves q ≡ true → value_in c row q ≡ given q) →
    IsEvaluatedPart n (among c.leaves) given (among (nodes c)) (value_in c row)
cone_part n c row given net cone are same p e =
    ⊎_elim
    (λ leaf. inl (inl leaf, same p leaf))
    (λ inside. let r = gate_get c.gates p inside in inr (subst (IsComputed n (among c.leaves) (among (nodes c)) (value_in c row)) r.3 (computed r.0 r.1 r.2)))
    (among_join c.leaves (gate_nodes c.gates) p e)
  where
    computed : (i : ℕ) (x : ℕ × Gate) → slice_get c.gates i ≡ Some x → IsComputed n (among c.leaves) (among (nodes c)) (value_in c row) x.0
    computed i x at =
        let of : IsGateOf n x.0 x.1 = are.own i x at in
        record {
          free = ⊎_elim (λ leaf. absurd (are.apart x.0 leaf (numbered c.gates i x at))) (λ off. off) (cases_Bool (among c.leaves x.0));
          gate = record { index = of.index; gate = x.1; at = of.at; node = of.node };
          reads = λ q r. ⊎_elim
              (λ leaf. among_left c.leaves (gate_nodes c.gates) q leaf)
              (λ inside. among_right c.leaves (gate_nodes c.gates) q inside)
              (are.reads i q x at (reads_of n x.0 q x.1 of r));
          value = cone_gate c row i x cone at;
        }
      where
        numbered : (gs : List (ℕ × Gate)) (j : ℕ) (y : ℕ × Gate) → slice_get gs j ≡ Some y → among (gate_nodes gs) y.0 ≡ true
        numbered [] j y e = absurd cc
        numbered (g ∷ gs) zero y e = let f : g ≡ y = cc in subst (λ (z : ℕ × Gate). among (gate_nodes (g ∷ gs)) z.0 ≡ true) f (among_first g.0 (gate_nodes gs))
        numbered (g ∷ gs) (suc j) y e = among_later g.0 y.0 (gate_nodes gs) (numbered gs j y e)
