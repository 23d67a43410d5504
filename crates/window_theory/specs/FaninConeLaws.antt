-- Each list of nodes has leaves, and they are unique.
use Rattle.std.specs.Prelude.{◌≡◌, ℕ, zero, suc, ◌+◌, ◌≤◌, ◌<◌, Bool, true, not, ◌&&◌, ◌||◌, ◌==◌, List, length, slice_get, Some, ◌⊎◌, refl}
use Rattle.std.proofs.Common.{arith, sym, ◌∙◌, ap, subst, inl, inr, ⊎_elim, ◌≢◌}
use Rattle.std.proofs.lemmas.Bool.{eqb-true, eq-eqb, ne_eqb, or_cases, or_left, or_right, and_parts, and_from, not-true, both_ways, cases_Bool, cases_lt, cases_eq}
use Rattle.net_theory.specs.declared.data.Sig.{Sig}
use Rattle.net_theory.specs.declared.data.Sig.TheVariants.{Zero, One, Node}
use Rattle.net_theory.specs.declared.data.Gate.{Gate}
use Rattle.net_theory.specs.Net.{Net, IsNet}
use Rattle.net_theory.specs.Reach.{ReadsNode, is_node}
use Rattle.window_theory.specs.Nodes.{among, AreJust}
use Rattle.window_theory.specs.NodeLaws.{listed, just_listed, just_same}
use Rattle.window_theory.specs.Paths.{IsGate}
use Rattle.window_theory.specs.WindowLaws.{reads_low, gate_high, gate_at}
use Rattle.window_theory.specs.FaninCone.{IsGreatestGate, IsExpandedLeaf, Expands, IsFullyExpanded, ExpandsTo, stays, goes_on}
use Rattle.net_theory.specs.Limits.{most_leaves}

-- ---- fanins, as a test

node_is : (p : ℕ) (s : Sig) → is_node p s ≡ true → s ≡ Node p
node_is p Zero e = absurd cc
node_is p One e = absurd cc
node_is p (Node q) e = ap Node (eqb-true q p e)

node_test : (p : ℕ) (s : Sig) → s ≡ Node p → is_node p s ≡ true
node_test p s e = ap (is_node p) e ∙ eq-eqb p p refl

abbrev reads_test : Gate → ℕ → Bool
reads_test g q = is_node q g.a || is_node q g.b

test_reads : (g : Gate) (q : ℕ) → reads_test g q ≡ true → ReadsNode g q
test_reads g q e = ⊎_elim (λ a. inl (node_is q g.a a)) (λ b. inr (node_is q g.b b)) (or_cases (is_node q g.a) (is_node q g.b) e)

reads_tested : (g : Gate) (q : ℕ) → ReadsNode g q → reads_test g q ≡ true
reads_tested g q reads =
    ⊎_elim (λ a. or_left (is_node q g.a) (is_node q g.b) (node_test q g.a a)) (λ b. or_right (is_node q g.a) (is_node q g.b) (node_test q g.b b)) reads

-- a node has only one gate
pub gate_one : (n : Net) (p : ℕ) (a b : IsGate n p) → a.gate ≡ b.gate
gate_one n p a b =
    let same : a.index ≡ b.index = omega (arith, a.node, b.node) in
    let e : Some a.gate ≡ Some b.gate = sym a.at ∙ ap (slice_get n.gates) same ∙ b.at in
    cc

-- ---- one step

abbrev after_test : List ℕ → ℕ → Gate → ℕ → Bool
after_test leaves p g q = (among leaves q && not (q == p)) || reads_test g q

differs : (q p : ℕ) → not (q == p) ≡ true → q ≢ p
differs q p e same = both_ways (q == p) (not-true (q == p) e) (eq-eqb q p same)

after_holds : (n : Net) (leaves : List ℕ) (p : ℕ) (is : IsGate n p) (q : ℕ) → after_test leaves p is.gate q ≡ true → IsExpandedLeaf n leaves p q
after_holds n leaves p is q e =
    ⊎_elim
    (λ leaf. let parts = and_parts (among leaves q) (not (q == p)) leaf in inl (parts.0, differs q p parts.1))
    (λ reads. inr (record { fanout = is; reads = test_reads is.gate q reads }))
    (or_cases (among leaves q && not (q == p)) (reads_test is.gate q) e)

after_tested : (n : Net) (leaves : List ℕ) (p : ℕ) (is : IsGate n p) (q : ℕ) → IsExpandedLeaf n leaves p q → after_test leaves p is.gate q ≡ true
after_tested n leaves p is q e =
    ⊎_elim
    (λ leaf. or_left (among leaves q && not (q == p)) (reads_test is.gate q) (and_from (among leaves q) (not (q == p)) leaf.0 (ap not (ne_eqb q p leaf.1))))
    (λ r. or_right (among leaves q && not (q == p)) (reads_test is.gate q) (reads_tested is.gate q (subst (λ (g : Gate). ReadsNode g q) (gate_one n p r.fanout is) r.reads)))
    e

-- the nodes are below a bound
abbrev pub AreBelow : ℕ → List ℕ → Type 0
AreBelow bound nodes = (p : ℕ) → among nodes p ≡ true → p < bound

after_below : (n : Net) (leaves : List ℕ) (bound p q : ℕ) → IsNet n → AreBelow bound leaves → p < bound → IsExpandedLeaf n leaves p q → q < bound
after_below n leaves bound p q net below low e =
    ⊎_elim (λ leaf. below q leaf.0) (λ r. omega (arith, low, (reads_low n p q net r).1)) e

expanded : (n : Net) (leaves : List ℕ) (bound p : ℕ) → IsNet n → AreBelow bound leaves → IsGreatestGate n leaves p → (after : List ℕ) × AreJust (IsExpandedLeaf n leaves p) after
expanded n leaves bound p net below greatest = (
  listed (after_test leaves p greatest.gate.gate) 0 bound,
  just_listed (IsExpandedLeaf n leaves p) (after_test leaves p greatest.gate.gate) bound (after_holds n leaves p greatest.gate)
      (λ q e. (after_tested n leaves p greatest.gate q e, after_below n leaves bound p q net below (below p greatest.leaf) e)),
)

-- an expansion has one result
pub expands_one : (n : Net) (leaves a b : List ℕ) → Expands n leaves a → Expands n leaves b → a ≡ b
expands_one n leaves a b first second =
    let high : first.node ≤ second.node = second.greatest.greatest first.node first.greatest.leaf first.greatest.gate in
    let low : second.node ≤ first.node = first.greatest.greatest second.node second.greatest.leaf second.greatest.gate in
    let same : first.node ≡ second.node = omega (arith, high, low) in
    just_same (IsExpandedLeaf n leaves second.node) a b (subst (λ (p : ℕ). AreJust (IsExpandedLeaf n leaves p) a) same first.just) second.just

-- ---- all steps

-- the gates among the leaves are among the first `count` gates
abbrev HasGatesBelow : Net → ℕ → List ℕ → Type 0
HasGatesBelow n count leaves = (p : ℕ) → among leaves p ≡ true → IsGate n p → p ≤ n.sources + count

no_gates : (n : Net) (leaves after : List ℕ) → HasGatesBelow n 0 leaves → Expands n leaves after → most_leaves < length after
no_gates n leaves after low expands =
    absurd (omega (arith, low expands.node expands.greatest.leaf expands.greatest.gate, (gate_high n expands.node expands.greatest.gate).0))

after_gates : (n : Net) (leaves after : List ℕ) (count p : ℕ) → IsNet n → HasGatesBelow n (suc count) leaves →
    p ≡ n.sources + suc count → AreJust (IsExpandedLeaf n leaves p) after → HasGatesBelow n count after
after_gates n leaves after count p net low own just q leaf gate =
    ⊎_elim
    (λ old. let most : q ≤ n.sources + suc count = low q old.0 gate in let other : q ≢ p = old.1 in omega (arith, most, other, own))
    (λ r. omega (arith, (reads_low n p q net r).1, own))
    (just.only q leaf)

fewer_gates : (n : Net) (leaves : List ℕ) (count : ℕ) → HasGatesBelow n (suc count) leaves → (IsGreatestGate n leaves (n.sources + suc count) → ⊥) → HasGatesBelow n count leaves
fewer_gates n leaves count low none p leaf gate =
    let most : p ≤ n.sources + suc count = low p leaf gate in
    ⊎_elim
    (λ (same : p ≡ n.sources + suc count). absurd (none (record {
      leaf = subst (λ (q : ℕ). among leaves q ≡ true) same leaf;
      gate = subst (λ (q : ℕ). IsGate n q) same gate;
      greatest = λ q l g. low q l g;
    })))
    (λ other. omega (arith, most, other))
    (cases_eq p (n.sources + suc count))

gate_or_not : (n : Net) (p : ℕ) → IsGate n p ⊎ (IsGate n p → ⊥)
gate_or_not n p =
    ⊎_elim
    (λ (low : p < n.sources + 1). inr (λ g. let h = gate_high n p g in omega (arith, h.0)))
    (λ (above : n.sources + 1 ≤ p). ⊎_elim
    (λ (within : p < n.sources + 1 + length n.gates). inl (gate_at n p above within))
    (λ (past : n.sources + 1 + length n.gates ≤ p). inr (λ g. let h = gate_high n p g in omega (arith, h.1)))
    (cases_lt p (n.sources + 1 + length n.gates)))
    (cases_lt p (n.sources + 1))

greatest_or_not : (n : Net) (leaves : List ℕ) (count : ℕ) → HasGatesBelow n (suc count) leaves → IsGreatestGate n leaves (n.sources + suc count) ⊎ (IsGreatestGate n leaves (n.sources + suc count) → ⊥)
greatest_or_not n leaves count low =
    ⊎_elim
    (λ leaf. ⊎_elim
    (λ gate. inl (record { leaf = leaf; gate = gate; greatest = λ q l g. low q l g }))
    (λ none. inr (λ is. none is.gate))
    (gate_or_not n (n.sources + suc count)))
    (λ out. inr (λ is. both_ways (among leaves (n.sources + suc count)) out is.leaf))
    (cases_Bool (among leaves (n.sources + suc count)))

expands_to : (n : Net) (count bound : ℕ) (leaves : List ℕ) → IsNet n → AreBelow bound leaves → HasGatesBelow n count leaves → (last : List ℕ) × ExpandsTo n leaves last
expands_to n zero bound leaves net below low = (leaves, stays leaves (λ after expands. no_gates n leaves after low expands))
expands_to n (suc count) bound leaves net below low =
    ⊎_elim
    (λ greatest.
    let p : ℕ = n.sources + suc count in
    let step = expanded n leaves bound p net below greatest in
    let expands : Expands n leaves step.0 = record { node = p; greatest = greatest; just = step.1 } in
    ⊎_elim
    (λ (many : most_leaves < length step.0). (leaves, stays leaves (λ after other. subst (λ (xs : List ℕ). most_leaves < length xs) (expands_one n leaves step.0 after expands other) many)))
    (λ (few : length step.0 ≤ most_leaves).
    let rest = expands_to n count bound step.0 net
    (λ q e. after_below n leaves bound p q net below (below p greatest.leaf) (step.1.only q e))
    (after_gates n leaves step.0 count p net low refl step.1) in
    (rest.0, goes_on leaves step.0 rest.0 expands few rest.1))
    (cases_lt 12 (length step.0)))
    (λ none. expands_to n count bound leaves net below (fewer_gates n leaves count low none))
    (greatest_or_not n leaves count low)

-- Nodes of a net have leaves,
pub has_leaves : (n : Net) (nodes : List ℕ) → IsNet n → AreBelow (n.sources + 1 + length n.gates) nodes → (leaves : List ℕ) × ExpandsTo n nodes leaves
has_leaves n nodes net below =
    expands_to n (length n.gates) (n.sources + 1 + length n.gates) nodes net below (λ p leaf gate. omega (arith, (gate_high n p gate).1))

-- and one list of them.
last_stays : (n : Net) (nodes last : List ℕ) → IsFullyExpanded n nodes → ExpandsTo n nodes last → nodes ≡ last
last_stays n _ _ ends (stays leaves e) = refl
last_stays n _ _ ends (goes_on leaves after last expands few rest) = absurd (omega (arith, ends after expands, few))

goes_further : (n : Net) (nodes after last : List ℕ) → Expands n nodes after → length after ≤ most_leaves → ExpandsTo n nodes last → ExpandsTo n after last
goes_further n _ after _ expands few (stays leaves ends) = absurd (omega (arith, ends after expands, few))
goes_further n _ after _ expands few (goes_on leaves other last also less further) = subst (λ (xs : List ℕ). ExpandsTo n xs last) (expands_one n leaves other after also expands) further

pub leaves_one : (n : Net) (nodes a b : List ℕ) → ExpandsTo n nodes a → ExpandsTo n nodes b → a ≡ b
leaves_one n _ _ b (stays leaves ends) second = last_stays n leaves b ends second
leaves_one n _ _ b (goes_on leaves after last expands few rest) second = leaves_one n after last b rest (goes_further n leaves after b expands few second)
