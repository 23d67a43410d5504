-- A whole net is a cone, and its nodes have their values in the net.
use Rattle.std.specs.Prelude.{◌≡◌, ℕ, zero, suc, ◌+◌, ◌-◌, ◌≤◌, ◌<◌, Bool, List, [], ◌∷◌, ◌++◌, length, map, take, slice_get, Some, refl}
use Rattle.std.proofs.Common.{arith, sym, ◌∙◌, ap, subst, ⊎_elim, append-nil, append_assoc}
use Rattle.std.proofs.lemmas.Bool.{cases_lt}
use Rattle.std.proofs.lemmas.Option.{slice_get_within}
use Rattle.chain_theory.specs.Operator.{digit, apply}
use Rattle.chain_theory.specs.Rows.{row_of, row_digit}
use Rattle.net_theory.specs.declared.data.Sig.{Sig}
use Rattle.net_theory.specs.declared.data.Sig.TheVariants.{Zero, One, Node}
use Rattle.net_theory.specs.declared.data.Gate.{Gate}
use Rattle.net_theory.specs.Net.{Net, IsNet, IsSigBelow, IsGateAt, end_of, sig_value, gate_value, value}
use Rattle.net_theory.specs.ValueLaws.{value-source, values_after-gate}
use Rattle.lane_sim.specs.Cone.{Cone, IsCone, IsGateOver, IsSigAmong, AreApart, node_of, nodes, value_in}
use Rattle.lane_sim.specs.ConeLaws.{cone_leaf, cone_gate}
use Rattle.merge_core.specs.Whole.{count_from, numbered_from, cone_of}
use Rattle.net_theory.specs.Limits.{most_leaves}

-- ---- numbers in order

pub count_length : (first count : ℕ) → length (count_from first count) ≡ count
unfolding count_from
count_length first zero = refl
count_length first (suc count) = ap suc (count_length (first + 1) count)

pub count_at : (first count k : ℕ) → k < count → slice_get (count_from first count) k ≡ Some (first + k)
unfolding count_from
count_at first zero k low = absurd (omega (arith, low))
count_at first (suc count) zero low =
    let same : first ≡ first + 0 = omega arith in
    ap Some same
count_at first (suc count) (suc k) low =
    let same : first + 1 + k ≡ first + suc k = omega arith in
    count_at (first + 1) count k (omega (arith, low)) ∙ ap Some same

pub count_join : (first a b : ℕ) → count_from first a ++ count_from (first + a) b ≡ count_from first (a + b)
unfolding count_from
count_join first zero b =
    let start : first + 0 ≡ first = omega arith in
    let all : b ≡ 0 + b = omega arith in
    ap (λ (f : ℕ). count_from f b) start ∙ ap (count_from first) all
count_join first (suc a) b =
    let start : first + suc a ≡ first + 1 + a = omega arith in
    let all : suc (a + b) ≡ suc a + b = omega arith in
    ap (λ (f : ℕ). first ∷ (count_from (first + 1) a ++ count_from f b)) start
    ∙ ap (λ (ps : List ℕ). first ∷ ps) (count_join (first + 1) a b)
    ∙ ap (count_from first) all

one_number : (p : ℕ) → count_from p 1 ≡ p ∷ []
unfolding count_from
one_number p = refl

-- one more number
pub count_more : (first count : ℕ) → count_from first count ++ (first + count) ∷ [] ≡ count_from first (count + 1)
count_more first count =
    ap (λ (ps : List ℕ). count_from first count ++ ps) (sym (one_number (first + count))) ∙ count_join first count 1

pub sources_start : (items : List ℕ) → items ≡ [] → items ≡ count_from 1 0
unfolding count_from
sources_start items none = none

pub sources_more : (items new : List ℕ) (before : ℕ) → items ≡ count_from 1 before → new ≡ items ++ (before + 1) ∷ [] → new ≡ count_from 1 (before + 1)
sources_more items new before are more =
    let next : before + 1 ≡ 1 + before = omega arith in
    more
    ∙ ap (λ (xs : List ℕ). xs ++ (before + 1) ∷ []) are
    ∙ ap (λ (p : ℕ). count_from 1 before ++ p ∷ []) next
    ∙ count_more 1 before

-- the numbers are distinct
count_apart : (first count : ℕ) → AreApart (count_from first count)
count_apart first count i j p at_i at_j =
    omega (arith, number i p at_i, number j p at_j)
  where
    some_same : (x y : ℕ) → Some x ≡ Some y → x ≡ y
    some_same x y e = cc

    number : (k q : ℕ) → slice_get (count_from first count) k ≡ Some q → first + k ≡ q
    number k q at =
        some_same (first + k) q (sym (count_at first count k (omega (arith, slice_get_within (count_from first count) k q at, count_length first count))) ∙ at)

-- ---- gates with their nodes

pub numbered_at : (node : ℕ) (gs : List Gate) (i : ℕ) (g : Gate) → slice_get gs i ≡ Some g → slice_get (numbered_from node gs) i ≡ Some (node + i, g)
unfolding numbered_from
numbered_at node [] i g at = absurd cc
numbered_at node (h ∷ gs) zero g at =
    let same : h ≡ g = first_same h g at in
    let here : node ≡ node + 0 = omega arith in
    ap (λ (x : Gate). Some (node, x)) same ∙ ap (λ (q : ℕ). Some (q, g)) here
  where
    first_same : (x y : Gate) → Some x ≡ Some y → x ≡ y
    first_same x y e = cc
numbered_at node (h ∷ gs) (suc i) g at =
    let here : node + 1 + i ≡ node + suc i = omega arith in
    numbered_at (node + 1) gs i g at ∙ ap (λ (q : ℕ). Some (q, g)) here

-- the gate at an index, with its node
record IsNumbered (node : ℕ) (gs : List Gate) (i : ℕ) (x : ℕ × Gate) : Type 0 where
  gate : Gate
  at : slice_get gs i ≡ Some gate
  is : x.1 ≡ gate

numbered_is : (node : ℕ) (gs : List Gate) (i : ℕ) (x : ℕ × Gate) → slice_get (numbered_from node gs) i ≡ Some x → IsNumbered node gs i x
unfolding numbered_from
numbered_is node [] i x at = absurd cc
numbered_is node (g ∷ gs) zero x at = record { gate = g; at = refl; is = ap (λ (y : ℕ × Gate). y.1) (sym (first_same (node, g) x at)) } where
  first_same : (y z : ℕ × Gate) → Some y ≡ Some z → y ≡ z
  first_same y z e = cc
numbered_is node (g ∷ gs) (suc i) x at =
    let rest : IsNumbered (node + 1) gs i x = numbered_is (node + 1) gs i x at in
    record { gate = rest.gate; at = rest.at; is = rest.is }

numbered_nodes : (node : ℕ) (gs : List Gate) → map node_of (numbered_from node gs) ≡ count_from node (length gs)
unfolding numbered_from count_from
numbered_nodes node [] = refl
numbered_nodes node (g ∷ gs) = ap (λ (ps : List ℕ). node ∷ ps) (numbered_nodes (node + 1) gs)

numbered_take : (node : ℕ) (gs : List Gate) (i : ℕ) → i ≤ length gs → map node_of (take i (numbered_from node gs)) ≡ count_from node i
unfolding numbered_from count_from
numbered_take node gs zero low = refl
numbered_take node [] (suc i) low = absurd (omega (arith, low))
numbered_take node (g ∷ gs) (suc i) low = ap (λ (ps : List ℕ). node ∷ ps) (numbered_take (node + 1) gs i (omega (arith, low)))

-- the loop that pairs gates with nodes: its start, its step and its end
pub numbered_start : (n : Net) (items : List (ℕ × Gate)) (node : ℕ) (left : List Gate) → items ≡ [] →
    node ≡ n.sources + 1 → left ≡ n.gates → items ++ numbered_from node left ≡ numbered_from (n.sources + 1) n.gates
numbered_start n items node left none first all =
    ap (λ (xs : List (ℕ × Gate)). xs ++ numbered_from node left) none ∙ ap (λ (q : ℕ). numbered_from q left) first ∙ ap (numbered_from (n.sources + 1)) all

pub numbered_more : (items new : List (ℕ × Gate)) (node : ℕ) (left rest : List Gate) (g : Gate)
    (all : List (ℕ × Gate)) → left ≡ g ∷ rest → new ≡ items ++ (node, g) ∷ [] → items ++
    numbered_from node left ≡ all → new ++ numbered_from (node + 1) rest ≡ all
unfolding numbered_from
numbered_more items new node left rest g all split more is =
    ap (λ (xs : List (ℕ × Gate)). xs ++ numbered_from (node + 1) rest) more
    ∙ append_assoc items ((node, g) ∷ []) (numbered_from (node + 1) rest)
    ∙ ap (λ (gs : List Gate). items ++ numbered_from node gs) (sym split)
    ∙ is

pub numbered_end : (items : List (ℕ × Gate)) (node : ℕ) (left : List Gate) (all : List (ℕ × Gate)) → length left ≡ 0 → items ++ numbered_from node left ≡ all → items ≡ all
unfolding numbered_from
numbered_end items node [] all none is = sym (append-nil items) ∙ is
numbered_end items node (g ∷ gs) all none is = absurd (omega (arith, none))

-- ---- the cone

pub whole_nodes : (n : Net) → nodes (cone_of n) ≡ count_from 1 (n.sources + length n.gates)
whole_nodes n =
    let next : n.sources + 1 ≡ 1 + n.sources = omega arith in
    ap (λ (ps : List ℕ). count_from 1 n.sources ++ ps) (numbered_nodes (n.sources + 1) n.gates)
    ∙ ap (λ (q : ℕ). count_from 1 n.sources ++ count_from q (length n.gates)) next
    ∙ count_join 1 n.sources (length n.gates)

-- the nodes before a gate
nodes_before : (n : Net) (i : ℕ) → i ≤ length n.gates → count_from 1 n.sources ++ map node_of (take i (numbered_from (n.sources + 1) n.gates)) ≡ count_from 1 (n.sources + i)
nodes_before n i low =
    let next : n.sources + 1 ≡ 1 + n.sources = omega arith in
    ap (λ (ps : List ℕ). count_from 1 n.sources ++ ps) (numbered_take (n.sources + 1) n.gates i low)
    ∙ ap (λ (q : ℕ). count_from 1 n.sources ++ count_from q i) next
    ∙ count_join 1 n.sources i

among : (count : ℕ) (s : Sig) → IsSigBelow (count + 1) s → IsSigAmong (count_from 1 count) s
among count Zero below = tt
among count One below = tt
among count (Node p) below =
    let here : 1 + (p - 1) ≡ p = omega (arith, below.0) in
    (p - 1, count_at 1 count (p - 1) (omega (arith, below.0, below.1)) ∙ ap Some here)

pub whole_cone : (n : Net) → IsNet n → n.sources ≤ most_leaves → IsCone (cone_of n)
whole_cone n net few = record {
  few = omega (arith, few, count_length 1 n.sources);
  apart = subst AreApart (sym (whole_nodes n)) (count_apart 1 (n.sources + length n.gates));
  gates = λ i x at.
      let was : IsNumbered (n.sources + 1) n.gates i x = numbered_is (n.sources + 1) n.gates i x at in
      let representatives : IsGateAt (n.sources + 1 + i) was.gate = net.gates.each i was.gate was.at in
      let next : n.sources + 1 + i ≡ n.sources + i + 1 = omega arith in
      subst (λ (g : Gate). IsGateOver (count_from 1 n.sources ++ map node_of (take i (numbered_from (n.sources + 1) n.gates))) g) (sym was.is)
      (subst (λ (ps : List ℕ). IsGateOver ps was.gate) (sym (nodes_before n i (omega (arith, slice_get_within n.gates i was.gate was.at))))
      (record {
        first = among (n.sources + i) was.gate.a (subst (λ (q : ℕ). IsSigBelow q was.gate.a) next representatives.first);
        second = among (n.sources + i) was.gate.b (subst (λ (q : ℕ). IsSigBelow q was.gate.b) next representatives.second);
      }));
}

abbrev cone_put : List ℕ → List (ℕ × Gate) → Cone
cone_put leaves gates = record { leaves = leaves; gates = gates }

pub cone_whole : (n : Net) (sources : ℕ) (leaves : List ℕ) (gates : List (ℕ × Gate)) → IsNet n → n.sources ≤ most_leaves →
    sources ≡ n.sources → leaves ≡ count_from 1 sources → gates ≡ numbered_from (n.sources + 1) n.gates →
    IsCone (record { leaves = leaves; gates = gates })
cone_whole n sources leaves gates net few same are numbered =
    let all : leaves ≡ count_from 1 n.sources = are ∙ ap (count_from 1) same in
    let whole : record { leaves = leaves; gates = gates } ≡ cone_of n = ap (λ (ps : List ℕ). cone_put ps gates) all ∙ ap (cone_put (count_from 1 n.sources)) numbered in
    subst IsCone (sym whole) (whole_cone n net few)

-- ---- values

some_gate : (gs : List Gate) (i : ℕ) → i < length gs → (g : Gate) × (slice_get gs i ≡ Some g)
some_gate [] i low = absurd (omega (arith, low))
some_gate (g ∷ gs) zero low = (g, refl)
some_gate (g ∷ gs) (suc i) low = some_gate gs i (omega (arith, low))

same_sig : (f h : ℕ → Bool) (node : ℕ) (s : Sig) → IsSigBelow node s → ((p : ℕ) → 1 ≤ p → p < node → f p ≡ h p) → sig_value f s ≡ sig_value h s
same_sig f h node Zero below same = refl
same_sig f h node One below same = refl
same_sig f h node (Node p) below same = same p below.0 below.1

same_gate : (f h : ℕ → Bool) (node : ℕ) (g : Gate) → IsGateAt node g → ((p : ℕ) → 1 ≤ p → p < node → f p ≡ h p) → gate_value f g ≡ gate_value h g
same_gate f h node g is same =
    ap (λ (b : Bool). apply g.op b (sig_value f g.b)) (same_sig f h node g.a is.first same)
    ∙ ap (apply g.op (sig_value h g.a)) (same_sig f h node g.b is.second same)

-- the assignment number `row` gives each source its bit
abbrev IsRowOf : Net → (ℕ → Bool) → ℕ → Type 0
IsRowOf n given row = (p : ℕ) → 1 ≤ p → p ≤ n.sources → digit row (n.sources - p) ≡ given p

source_value : (n : Net) (row p : ℕ) (given : ℕ → Bool) → IsCone (cone_of n) → IsRowOf n given row → 1 ≤ p → p ≤ n.sources → value_in (cone_of n) row p ≡ value n given p
source_value n row p given cone bits some low =
    let here : 1 + (p - 1) ≡ p = omega (arith, some) in
    let digit_is : length (count_from 1 n.sources) - 1 - (p - 1) ≡ n.sources - p = omega (arith, some, low, count_length 1 n.sources) in
    cone_leaf (cone_of n) row (p - 1) p cone (count_at 1 n.sources (p - 1) (omega (arith, some, low)) ∙ ap Some here)
    ∙ ap (digit row) digit_is
    ∙ bits p some low
    ∙ sym (value-source given n.sources p n.gates low)

values_below : (n : Net) (row : ℕ) (given : ℕ → Bool) (end p : ℕ) → IsNet n → IsCone (cone_of n) → IsRowOf n given row → p < end → 1 ≤ p → p < end_of n → value_in (cone_of n) row p ≡ value n given p
values_below n row given zero p net cone bits low some within = absurd (omega (arith, low))
values_below n row given (suc end) p net cone bits low some within =
    ⊎_elim
    (λ (source : p < n.sources + 1). source_value n row p given cone bits some (omega (arith, source)))
    (λ (above : n.sources + 1 ≤ p).
    let i : ℕ = p - (n.sources + 1) in
    let here : n.sources + 1 + i ≡ p = omega (arith, above) in
    let found : (g : Gate) × (slice_get n.gates i ≡ Some g) = some_gate n.gates i (omega (arith, above, within)) in
    let representatives : IsGateAt (n.sources + 1 + i) found.0 = net.gates.each i found.0 found.1 in
    cone_gate (cone_of n) row i (p, found.0) cone (numbered_at (n.sources + 1) n.gates i found.0 found.1 ∙ ap (λ (q : ℕ). Some (q, found.0)) here)
    ∙ same_gate (value_in (cone_of n) row) (value n given) (n.sources + 1 + i) found.0 representatives
    (λ q some_q low_q. values_below n row given end q net cone bits (omega (arith, low_q, here, low)) some_q (omega (arith, low_q, here, within)))
    ∙ sym (values_after-gate given (n.sources + 1) i n.gates found.0 found.1 representatives)
    ∙ ap (value n given) here)
    (cases_lt p (n.sources + 1))

-- Under each assignment, a node has in the cone the value that it has in the net.
pub whole_value : (n : Net) (given : ℕ → Bool) (p : ℕ) → IsNet n → n.sources ≤ most_leaves → 1 ≤ p → p < end_of n → value_in (cone_of n) (row_of n.sources given) p ≡ value n given p
whole_value n given p net few some within =
    values_below n (row_of n.sources given) given (suc p) p net (whole_cone n net few)
    (λ q some_q low_q. row_digit given n.sources (n.sources - q) q (omega (arith, low_q)) some_q)
    (omega arith) some within
