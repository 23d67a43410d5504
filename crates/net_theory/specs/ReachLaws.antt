-- The marks are the transitive fanin of the roots.
use Rattle.std.specs.Prelude.{◌≡◌, ℕ, zero, suc, ◌+◌, ◌≤◌, Bool, true, List, [], ◌∷◌, slice_get, Some, ◌⊎◌, refl}
use Rattle.std.specs.List.{list_any}
use Rattle.std.proofs.Common.{arith, sym, ◌∙◌, ap, subst, inl, inr, ⊎_elim, add-zero}
use Rattle.std.proofs.lemmas.Bool.{cond_both, cond-true, eqb-true, eq-eqb, or_cases, or_left, or_right, cases_eq}
use Rattle.chain_theory.specs.ValueLaws.{extended-same, extended-other}
use Rattle.net_theory.specs.declared.data.Sig.{Sig}
use Rattle.net_theory.specs.declared.data.Sig.TheVariants.{Zero, One, Node}
use Rattle.net_theory.specs.declared.data.Gate.{Gate}
use Rattle.net_theory.specs.Net.{Net, IsNet, IsSigBelow, IsGateAt}
use Rattle.net_theory.specs.Reach.{ReadsNode, IsClosedFrom, IsReachedFrom, is_node, is_sink, with_mark, gate_marked, marked, reach}

-- ---- sinks

node_is : (p : ℕ) (s : Sig) → is_node p s ≡ true → s ≡ Node p
node_is p Zero e = absurd cc
node_is p One e = absurd cc
node_is p (Node q) e = ap Node (eqb-true q p e)

is_node-itself : (p : ℕ) → is_node p (Node p) ≡ true
is_node-itself p = eq-eqb p p refl

node_in : (ss : List Sig) (i p : ℕ) → slice_get ss i ≡ Some (Node p) → list_any (is_node p) ss ≡ true
node_in [] i p e = absurd cc
node_in (s ∷ ss) zero p e =
    let same : s ≡ Node p = cc in
    or_left (is_node p s) (list_any (is_node p) ss) (subst (λ (x : Sig). is_node p x ≡ true) (sym same) (is_node-itself p))
node_in (s ∷ ss) (suc i) p e = or_right (is_node p s) (list_any (is_node p) ss) (node_in ss i p e)

in_node : (ss : List Sig) (p : ℕ) → list_any (is_node p) ss ≡ true → (i : ℕ) × (slice_get ss i ≡ Some (Node p))
in_node [] p e = absurd cc
in_node (s ∷ ss) p e =
    ⊎_elim
    (λ here. (0, ap Some (node_is p s here)))
    (λ later. let r = in_node ss p later in (suc r.0, r.1))
    (or_cases (is_node p s) (list_any (is_node p) ss) e)

-- `is_sink` holds of the nodes of the sinks.
pub sink_in : (n : Net) (i p : ℕ) → slice_get n.sinks i ≡ Some (Node p) → is_sink n p ≡ true
unfolding is_sink
sink_in n i p e = node_in n.sinks i p e

pub in_sinks : (n : Net) (p : ℕ) → is_sink n p ≡ true → (i : ℕ) × (slice_get n.sinks i ≡ Some (Node p))
unfolding is_sink
in_sinks n p e = in_node n.sinks p e

-- ---- marks

mark_here : (marks : ℕ → Bool) (p : ℕ) → with_mark marks (Node p) p ≡ true
mark_here marks p = extended-same marks p p true refl

mark_keeps : (marks : ℕ → Bool) (s : Sig) (p : ℕ) → marks p ≡ true → with_mark marks s p ≡ true
mark_keeps marks Zero p e = e
mark_keeps marks One p e = e
mark_keeps marks (Node q) p e =
    ⊎_elim (λ same. extended-same marks q p true same) (λ other. extended-other marks q p true other ∙ e) (cases_eq p q)

-- a mark was already there or is the node of the signal
mark_cases : (marks : ℕ → Bool) (s : Sig) (p : ℕ) → with_mark marks s p ≡ true → (marks p ≡ true) ⊎ (s ≡ Node p)
mark_cases marks Zero p e = inl e
mark_cases marks One p e = inl e
mark_cases marks (Node q) p e =
    ⊎_elim (λ same. inr (ap Node (sym same))) (λ other. inl (sym (extended-other marks q p true other) ∙ e)) (cases_eq p q)

-- marking a signal below `node` marks no node from `node` on
mark_low : (marks : ℕ → Bool) (s : Sig) (node p : ℕ) → IsSigBelow node s → node ≤ p → with_mark marks s p ≡ marks p
mark_low marks Zero node p below high = refl
mark_low marks One node p below high = refl
mark_low marks (Node q) node p below high = extended-other marks q p true (omega (arith, below.1))

gate_keeps : (marks : ℕ → Bool) (node : ℕ) (g : Gate) (p : ℕ) → marks p ≡ true → gate_marked marks node g p ≡ true
gate_keeps marks node g p e =
    cond_both (marks node) (with_mark (with_mark marks g.a) g.b) marks (λ (m : ℕ → Bool). m p ≡ true)
    (λ here. mark_keeps (with_mark marks g.a) g.b p (mark_keeps marks g.a p e))
    (λ other. e)

gate_reads : (marks : ℕ → Bool) (node : ℕ) (g : Gate) (p : ℕ) → marks node ≡ true → ReadsNode g p → gate_marked marks node g p ≡ true
gate_reads marks node g p here reads =
    ap (λ (m : ℕ → Bool). m p) (cond-true (marks node) (with_mark (with_mark marks g.a) g.b) marks here)
    ∙ ⊎_elim
    (λ first. mark_keeps (with_mark marks g.a) g.b p (subst (λ (s : Sig). with_mark marks s p ≡ true) (sym first) (mark_here marks p)))
    (λ second. subst (λ (s : Sig). with_mark (with_mark marks g.a) s p ≡ true) (sym second) (mark_here (with_mark marks g.a) p))
    reads

-- the gate `node` marks no node from `node` on
gate_low : (marks : ℕ → Bool) (node : ℕ) (g : Gate) (p : ℕ) → IsGateAt node g → node ≤ p → gate_marked marks node g p ≡ marks p
gate_low marks node g p is high =
    cond_both (marks node) (with_mark (with_mark marks g.a) g.b) marks (λ (m : ℕ → Bool). m p ≡ marks p)
    (λ here. mark_low (with_mark marks g.a) g.b node p is.second high ∙ mark_low marks g.a node p is.first high)
    (λ other. refl)

marked_keeps : (marks : ℕ → Bool) (node : ℕ) (gs : List Gate) (p : ℕ) → marks p ≡ true → marked marks node gs p ≡ true
unfolding marked
marked_keeps marks node [] p e = e
marked_keeps marks node (g ∷ gs) p e = gate_keeps (marked marks (node + 1) gs) node g p (marked_keeps marks (node + 1) gs p e)

pub tail_gates : (node : ℕ) (g : Gate) (gs : List Gate) → ((i : ℕ) (h : Gate) → slice_get (g ∷ gs) i ≡ Some h →
    IsGateAt (node + i) h) → (i : ℕ) (h : Gate) → slice_get gs i ≡ Some h → IsGateAt ((node + 1) + i) h
tail_gates node g gs are i h at =
    let e : node + suc i ≡ (node + 1) + i = omega arith in
    subst (λ (q : ℕ). IsGateAt q h) e (are (suc i) h at)

pub head_gate : (node : ℕ) (g : Gate) (gs : List Gate) → ((i : ℕ) (h : Gate) → slice_get (g ∷ gs) i ≡ Some h → IsGateAt (node + i) h) → IsGateAt node g
head_gate node g gs are = subst (λ (q : ℕ). IsGateAt q g) (add-zero node) (are 0 g refl)

-- The fanins of a marked gate are marked.
marked_closed : (marks : ℕ → Bool) (node : ℕ) (gs : List Gate) (i p : ℕ) (g : Gate) →
    ((j : ℕ) (h : Gate) → slice_get gs j ≡ Some h → IsGateAt (node + j) h) → slice_get gs i ≡ Some g → ReadsNode g p →
    marked marks node gs (node + i) ≡ true → marked marks node gs p ≡ true
unfolding marked
marked_closed marks node [] i p g are at reads e = absurd cc
marked_closed marks node (h ∷ gs) zero p g are at reads e =
    let same : h ≡ g = cc in
    let own : node + 0 ≡ node = add-zero node in
    let before : marked marks (node + 1) gs node ≡ true =
    sym (gate_low (marked marks (node + 1) gs) node h node (head_gate node h gs are) (omega arith))
    ∙ subst (λ (q : ℕ). gate_marked (marked marks (node + 1) gs) node h q ≡ true) own e in
    gate_reads (marked marks (node + 1) gs) node h p before (subst (λ (x : Gate). ReadsNode x p) (sym same) reads)
marked_closed marks node (h ∷ gs) (suc i) p g are at reads e =
    let next : node + suc i ≡ (node + 1) + i = omega arith in
    let there : gate_marked (marked marks (node + 1) gs) node h ((node + 1) + i) ≡ true = subst (λ (q : ℕ). gate_marked (marked marks (node + 1) gs) node h q ≡ true) next e in
    let before : marked marks (node + 1) gs ((node + 1) + i) ≡ true = sym (gate_low (marked marks (node + 1) gs) node h ((node + 1) + i) (head_gate node h gs are) (omega arith)) ∙ there in
    gate_keeps (marked marks (node + 1) gs) node h p (marked_closed marks (node + 1) gs i p g (tail_gates node h gs are) at reads before)

-- The marks are closed under fanins ..
pub reach_closed : (n : Net) (roots : ℕ → Bool) → IsNet n → IsClosedFrom n roots (reach n roots)
reach_closed n roots is =
    record {
      starts = λ p e. marked_keeps roots (n.sources + 1) n.gates p e;
      gates = λ i p g at reads e. marked_closed roots (n.sources + 1) n.gates i p g is.gates.each at reads e;
    }

-- .. and lie in every closed set.
gate_within : (marks set : ℕ → Bool) (node : ℕ) (g : Gate) → ((p : ℕ) → marks p ≡ true → set p ≡ true) →
    ((p : ℕ) → ReadsNode g p → set node ≡ true → set p ≡ true) → (p : ℕ) → gate_marked marks node g p ≡ true →
    set p ≡ true
gate_within marks set node g within reads p =
    cond_both (marks node) (with_mark (with_mark marks g.a) g.b) marks (λ (m : ℕ → Bool). m p ≡ true → set p ≡ true)
    (λ here e. ⊎_elim
    (λ first. ⊎_elim (λ before. within p before) (λ a. reads p (inl a) (within node here)) (mark_cases marks g.a p first))
    (λ b. reads p (inr b) (within node here))
    (mark_cases (with_mark marks g.a) g.b p e))
    (λ other e. within p e)

marked_within : (marks set : ℕ → Bool) (node : ℕ) (gs : List Gate) → ((p : ℕ) → marks p ≡ true → set p ≡ true) →
    ((i p : ℕ) (g : Gate) → slice_get gs i ≡ Some g → ReadsNode g p → set (node + i) ≡ true → set p ≡ true) → (p : ℕ) →
    marked marks node gs p ≡ true → set p ≡ true
unfolding marked
marked_within marks set node [] within reads p e = within p e
marked_within marks set node (g ∷ gs) within reads p e =
    gate_within (marked marks (node + 1) gs) set node g
    (marked_within marks set (node + 1) gs within (λ i q h at r s. reads (suc i) q h at r (let next : (node + 1) + i ≡ node + suc i = omega arith in subst (λ (x : ℕ). set x ≡ true) next s)))
    (λ q r s. reads 0 q g refl r (subst (λ (x : ℕ). set x ≡ true) (sym (add-zero node)) s))
    p e

-- So they are the transitive fanin.
pub marked_reached : (n : Net) (roots : ℕ → Bool) (p : ℕ) → reach n roots p ≡ true → IsReachedFrom n roots p
marked_reached n roots p e set closed =
    marked_within roots set (n.sources + 1) n.gates closed.starts closed.gates p e

pub reached_marked : (n : Net) (roots : ℕ → Bool) (p : ℕ) → IsNet n → IsReachedFrom n roots p → reach n roots p ≡ true
reached_marked n roots p is reached = reached (reach n roots) (reach_closed n roots is)
