-- Mapping nodes to their representatives keeps all values.
use Rattle.std.specs.Prelude.{◌≡◌, ℕ, zero, suc, ◌+◌, ◌-◌, ◌≤◌, ◌<◌, ◌==◌, Bool, true, List, [], ◌∷◌, length, slice_get, slice_index_or, Option, None, Some, IfSome, ◌⊎◌, refl}
use Rattle.std.proofs.Common.{arith, sym, ◌∙◌, ◌≢◌, ap, subst, ⊎_elim, inl, inr, length-append}
use Rattle.std.proofs.lemmas.Bool.{cond-true, cond-false, eq-eqb, ne_eqb, cases_eq}
use Rattle.net_theory.specs.declared.data.Sig.{Sig}
use Rattle.net_theory.specs.declared.data.Sig.TheVariants.{Node}
use Rattle.net_theory.specs.declared.data.Gate.{Gate}
use Rattle.net_theory.specs.Net.{Net, IsNet, IsSigBelow, IsGateAt, end_of, sig_value, gate_value, values_of, value}
use Rattle.net_theory.specs.ValueLaws.{at_push, values_after-gate}
use Rattle.net_theory.specs.Reach.{ReadsNode}
use Rattle.net_theory.specs.Moving.{Kept, moved, moved_gate, put_sig, with_kept, kept_after}
use Rattle.net_theory.specs.MovingLaws.{Moves, AreMovable, IsMarked, moves_less, moved_below, moved_value, keep_all, reads_below}
use Rattle.merge_core.specs.Merging.{HaveOperatorsOf, IsNodeBelow, IsMerged, AreLeft}
use Rattle.merge_core.specs.Representatives.{IsRepresentative, AreRepresentatives}
use Rattle.merge_core.specs.Reduction.{reduced}

put_same : (nodes : ℕ → Sig) (node : ℕ) (s : Sig) (p : ℕ) → p ≡ node → put_sig nodes node s p ≡ s
put_same nodes node s p own = cond-true (p == node) s (nodes p) (eq-eqb p node own)

put_other : (nodes : ℕ → Sig) (node : ℕ) (s : Sig) (p : ℕ) → p ≢ node → put_sig nodes node s p ≡ nodes p
put_other nodes node s p other = cond-false (p == node) s (nodes p) (ne_eqb p node other)

-- a fanin is below its gate
below_known : (node : ℕ) (s : Sig) → IsSigBelow node s → (p : ℕ) → s ≡ Node p → IsNodeBelow node p
below_known node s below p e = subst (IsSigBelow node) e below

before : (node p : ℕ) → IsNodeBelow (node + 1) p → p ≢ node → IsNodeBelow node p
before node p below other = (below.0, omega (arith, below.1, other))

-- ---- a node with a representative

abbrev mapped : Kept → ℕ → Sig → Kept
mapped k node s = record { nodes = put_sig k.nodes node (moved k.nodes s); gates = k.gates }

mapped_moves : (n : Net) (node : ℕ) (k : Kept) (s : Sig) → IsMerged n node k → IsRepresentative n node s → Moves n.sources (value n) (IsNodeBelow (node + 1)) (mapped k node s)
mapped_moves n node k s is representatives =
    let new : Sig = moved k.nodes s in
    let end : ℕ = n.sources + 1 + length k.gates in
    let known : (p : ℕ) → s ≡ Node p → IsNodeBelow node p = below_known node s representatives.below in
    record {
      gates = is.moves.gates;
      below = λ p low. ⊎_elim
          (λ own. subst (IsSigBelow end) (sym (put_same k.nodes node new p own)) (moved_below n.sources (value n) (IsNodeBelow node) k s is.moves known))
          (λ other. subst (IsSigBelow end) (sym (put_other k.nodes node new p other)) (is.moves.below p (before node p low other)))
          (cases_eq p node);
      same = λ given p low. ⊎_elim
          (λ own.
          ap (sig_value (values_of given n.sources k.gates)) (put_same k.nodes node new p own)
          ∙ moved_value n.sources (value n) (IsNodeBelow node) k s given is.moves known
          ∙ representatives.same given
          ∙ ap (value n given) (sym own))
          (λ other.
          ap (sig_value (values_of given n.sources k.gates)) (put_other k.nodes node new p other)
          ∙ is.moves.same given p (before node p low other))
          (cases_eq p node);
    }

merged_mapped : (n : Net) (node : ℕ) (k : Kept) (s : Sig) → n.sources + 1 ≤ node → IsMerged n node k → IsRepresentative n node s → IsMerged n (node + 1) (mapped k node s)
merged_mapped n node k s high is representatives = record {
  moves = mapped_moves n node k s is representatives;
  stay = λ p low. put_other k.nodes node (moved k.nodes s) p (λ (same : p ≡ node). omega (arith, same, low, high)) ∙ is.stay p low;
  few = omega (arith, is.few);
  old = is.old;
}

-- ---- a gate that is kept

abbrev all_marked : ℕ → Bool
all_marked p = true

first_only : {A : Type 0} (x y : A) (i : ℕ) → slice_get (x ∷ []) i ≡ Some y → (i ≡ 0) × (x ≡ y)
first_only x y zero e = (refl, cc)
first_only x y (suc i) e = absurd cc

movable : (n : Net) (i : ℕ) (g : Gate) → IsNet n → slice_get n.gates i ≡ Some g → AreMovable (value n) (IsNodeBelow (n.sources + 1 + i)) all_marked (n.sources + 1 + i) (g ∷ [])
movable n i g net at =
    let node : ℕ = n.sources + 1 + i in
    let representatives : IsGateAt node g = net.gates.each i g at in
    record {
      operators = λ j h e on. subst (λ (x : Gate). x.op < 16) (first_only g h j e).1 representatives.operator;
      reads = λ j p h e on reads. inl (reads_below node p g representatives (subst (λ (x : Gate). ReadsNode x p) (sym (first_only g h j e).1) reads));
      values = λ given j h e on.
          let own = first_only g h j e in
          let here : node + j ≡ node = omega (arith, own.0) in
          ap (value n given) here
          ∙ values_after-gate given (n.sources + 1) i n.gates g at representatives
          ∙ ap (gate_value (value n given)) own.1;
    }

kept_one : (sources : ℕ) (k : Kept) (node : ℕ) (g : Gate) → kept_after all_marked sources k node (g ∷ []) ≡ with_kept sources k node g
unfolding kept_after
kept_one sources k node g = refl

kept_moves : (n : Net) (i : ℕ) (k : Kept) (g : Gate) → IsNet n → slice_get n.gates i ≡ Some g →
    IsMerged n (n.sources + 1 + i) k → Moves n.sources (value n) (IsNodeBelow (n.sources + 1 + i + 1))
    (with_kept n.sources k (n.sources + 1 + i) g)
kept_moves n i k g net at is =
    let node : ℕ = n.sources + 1 + i in
    let all = keep_all n.sources (value n) (IsNodeBelow node) all_marked k node (g ∷ []) is.moves (movable n i g net at) in
    subst (Moves n.sources (value n) (IsNodeBelow (node + 1))) (kept_one n.sources k node g)
    (moves_less n.sources (value n) (λ p. IsNodeBelow node p ⊎ IsMarked all_marked node 1 p) (IsNodeBelow (node + 1)) (kept_after all_marked n.sources k node (g ∷ []))
    (λ p low. ⊎_elim
    (λ (own : p ≡ node). inr (record { low = omega (arith, own); high = omega (arith, own); mark = refl }))
    (λ other. inl (before node p low other))
    (cases_eq p node))
    all.0)

kept_old : (n : Net) (i : ℕ) (k : Kept) (g : Gate) → slice_get n.gates i ≡ Some g → HaveOperatorsOf n k.gates → HaveOperatorsOf n (with_kept n.sources k (n.sources + 1 + i) g).gates
kept_old n i k g at old = record {
  each = λ j h e. ⊎_elim
      (λ was. old.each j h was)
      (λ new. record { index = i; gate = g; at = at; same = ap (λ (x : Gate). x.op) new.1 })
      (at_push k.gates (moved_gate k.nodes g) h j e);
}

merged_kept : (n : Net) (i : ℕ) (k : Kept) (g : Gate) → IsNet n → slice_get n.gates i ≡ Some g →
    IsMerged n (n.sources + 1 + i) k → IsMerged n (n.sources + 1 + i + 1) (with_kept n.sources k (n.sources + 1 + i) g)
merged_kept n i k g net at is = record {
  moves = kept_moves n i k g net at is;
  stay = λ p low. put_other k.nodes (n.sources + 1 + i) (Node (n.sources + 1 + length k.gates)) p (λ (same : p ≡ n.sources + 1 + i). omega (arith, same, low)) ∙ is.stay p low;
  few = omega (arith, is.few, length-append k.gates (moved_gate k.nodes g ∷ []));
  old = kept_old n i k g at is.old;
}

-- ---- one more gate

merged_more : (n : Net) (i : ℕ) (k : Kept) (g : Gate) (o : Option Sig) → IsNet n → slice_get n.gates i ≡ Some g →
    IsMerged n (n.sources + 1 + i) k → IfSome o (IsRepresentative n (n.sources + 1 + i)) →
    IsMerged n (n.sources + 1 + i + 1) (reduced n.sources k (n.sources + 1 + i) g o)
merged_more n i k g None net at is representatives = merged_kept n i k g net at is
merged_more n i k g (Some s) net at is representatives = merged_mapped n (n.sources + 1 + i) k s (omega arith) is representatives

pub merged_passed : (n : Net) (node : ℕ) (left rest : List Gate) (g : Gate) (o : Option Sig) (k m : Kept) → IsNet n →
    left ≡ g ∷ rest → AreLeft n node left → IsMerged n node k → IfSome o (IsRepresentative n node) →
    m ≡ reduced n.sources k node g o → IsMerged n (node + 1) m
merged_passed n node left rest g o k m net split are is representatives step =
    let i : ℕ = node - (n.sources + 1) in
    let at : slice_get n.gates i ≡ Some g = are.each 0 i g (ap (λ (gs : List Gate). slice_get gs 0) split) (omega (arith, are.past_sources)) in
    let here : n.sources + 1 + i ≡ node = omega (arith, are.past_sources) in
    subst (IsMerged n (node + 1)) (sym step)
    (subst (λ (q : ℕ). IsMerged n (q + 1) (reduced n.sources k q g o)) here
    (merged_more n i k g o net at (subst (λ (q : ℕ). IsMerged n q k) (sym here) is) (subst (λ (q : ℕ). IfSome o (IsRepresentative n q)) (sym here) representatives)))

-- ---- representatives

at_index : {A : Type 0} (xs : List A) (i : ℕ) (d : A) → i < length xs → slice_get xs i ≡ Some (slice_index_or xs i d)
at_index [] i d low = absurd (omega (arith, low))
at_index (x ∷ xs) zero d low = refl
at_index (x ∷ xs) (suc i) d low = at_index xs i d (omega (arith, low))

found_representatives : (n : Net) (representatives : List (Option Sig)) (p : ℕ) (o : Option Sig) →
    AreRepresentatives n representatives → slice_get representatives p ≡ Some o → IfSome o (IsRepresentative n p)
found_representatives n representatives p None are at = tt
found_representatives n representatives p (Some s) are at = are.each p s at

pub representatives_at : (n : Net) (representatives : List (Option Sig)) (p : ℕ) →
    AreRepresentatives n representatives → p < end_of n →
    IfSome (slice_index_or representatives p None) (IsRepresentative n p)
representatives_at n representatives p are low =
    found_representatives n representatives p (slice_index_or representatives p None) are (at_index representatives p None (omega (arith, low, are.count)))

pub representatives_below : (n : Net) (p : ℕ) (o : Option Sig) → IfSome o (IsRepresentative n p) → IfSome o (IsSigBelow p)
representatives_below n p None is = tt
representatives_below n p (Some s) is = is.below

-- the node of the next gate is in range
pub next_within : (n : Net) (node : ℕ) (left rest : List Gate) (g : Gate) → left ≡ g ∷ rest → AreLeft n node left → node < end_of n
next_within n node left rest g split are = omega (arith, are.all, ap (length {A = Gate}) split)
