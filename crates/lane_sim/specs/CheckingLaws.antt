-- The conditions of `Checking` hold exactly for cones.
use Rattle.std.specs.Prelude.{◌≡◌, ℕ, zero, suc, ◌+◌, ◌≤◌, ◌<◌, List, [], ◌∷◌, ◌++◌, length, map, take, slice_get, slice_index_or, Some, ◌⊎◌, refl}
use Rattle.std.proofs.Common.{arith, sym, ◌∙◌, ap, subst, inl, inr, ⊎_elim}
use Rattle.std.proofs.lemmas.Bool.{cases_lt}
use Rattle.std.proofs.lemmas.Option.{slice_get_within}
use Rattle.net_theory.specs.declared.data.Sig.TheVariants.{Node}
use Rattle.net_theory.specs.declared.data.Gate.{Gate}
use Rattle.net_theory.specs.NameLaws.{at_map, map_at}
use Rattle.lane_sim.specs.Cone.{Cone, IsCone, IsSigAmong, AreApart, node_of}
use Rattle.lane_sim.specs.LaneLaws.{at_prefix}
use Rattle.lane_sim.specs.PatternLaws.{at_after, gate_operand, no_operand}
use Rattle.lane_sim.specs.Checking.{numbered, MayComeNext, AreDistinctLeaves, AreNext}
use Rattle.net_theory.specs.Limits.{most_leaves}

-- ---- the index of a node

abbrev cone_of : List ℕ → List (ℕ × Gate) → Cone
cone_of leaves gates = record { leaves = leaves; gates = gates }

pub leaf_numbered : (leaves : List ℕ) (gates : List (ℕ × Gate)) (p k : ℕ) → slice_get leaves k ≡ Some p → IsSigAmong (numbered leaves gates) (Node p)
leaf_numbered leaves gates p k e = (k, at_prefix leaves (map node_of gates) k p e)

pub gate_numbered : (leaves : List ℕ) (gates : List (ℕ × Gate)) (p k : ℕ) → (k < length gates) × ((d : ℕ × Gate) → node_of (slice_index_or gates k d) ≡ p) → IsSigAmong (numbered leaves gates) (Node p)
gate_numbered leaves gates p k at = let r = gate_operand (cone_of leaves gates) p k 1 at.0 at.1 in (r.0, r.1)

pub none_numbered :
    (leaves : List ℕ) (gates : List (ℕ × Gate)) (p : ℕ) → ((i d : ℕ) → i < length leaves → slice_index_or leaves i d ≡ p → ⊥) →
    ((i : ℕ) (d : ℕ × Gate) → i < length gates → node_of (slice_index_or gates i d) ≡ p → ⊥) → IsSigAmong (numbered leaves gates) (Node p) → ⊥
none_numbered leaves gates p leaf gate known = no_operand (cone_of leaves gates) p known leaf gate

-- ---- prefixes of lists

-- an element before an index is in the prefix of that length
taken_at : {A : Type 0} (xs : List A) (i k : ℕ) (x : A) → k < i → slice_get xs k ≡ Some x → slice_get (take i xs) k ≡ Some x
taken_at [] i k x low e = absurd cc
taken_at (y ∷ xs) zero k x low e = absurd (omega (arith, low))
taken_at (y ∷ xs) (suc i) zero x low e = e
taken_at (y ∷ xs) (suc i) (suc k) x low e = taken_at xs i k x (omega (arith, low)) e

taken_back : {A : Type 0} (xs : List A) (i k : ℕ) (x : A) → slice_get (take i xs) k ≡ Some x → (k < i) × (slice_get xs k ≡ Some x)
taken_back [] zero k x e = absurd cc
taken_back [] (suc i) k x e = absurd cc
taken_back (y ∷ xs) zero k x e = absurd cc
taken_back (y ∷ xs) (suc i) zero x e = (omega arith, e)
taken_back (y ∷ xs) (suc i) (suc k) x e = let r = taken_back xs i k x e in (omega (arith, r.0), r.1)

-- an element of a concatenation is in one of its parts
in_parts : {A : Type 0} (xs ys : List A) (k : ℕ) (x : A) → slice_get (xs ++ ys) k ≡ Some x → (slice_get xs k ≡ Some x) ⊎ ((j : ℕ) × (k ≡ length xs + j) × (slice_get ys j ≡ Some x))
in_parts [] ys k x e = inr (k, omega arith, e)
in_parts (y ∷ xs) ys zero x e = inl e
in_parts (y ∷ xs) ys (suc k) x e = ⊎_elim (λ here. inl here) (λ r. inr (r.0, omega (arith, r.1), r.2)) (in_parts xs ys k x e)

map_taken : (gates : List (ℕ × Gate)) (i : ℕ) → map node_of (take i gates) ≡ take i (map node_of gates)
map_taken [] zero = refl
map_taken [] (suc i) = refl
map_taken (x ∷ gates) zero = refl
map_taken (x ∷ gates) (suc i) = ap (λ (ps : List ℕ). x.0 ∷ ps) (map_taken gates i)

-- ---- both ways

-- each node differs from all before it
abbrev AreFresh : List ℕ → Type 0
AreFresh ps = (i k p : ℕ) → slice_get ps i ≡ Some p → slice_get ps k ≡ Some p → k < i → ⊥

fresh_apart : (ps : List ℕ) → AreFresh ps → AreApart ps
fresh_apart ps fresh i j p a b =
    ⊎_elim
    (λ (low : i < j). absurd (fresh j i p b a low))
    (λ (high : j ≤ i). ⊎_elim (λ (less : j < i). absurd (fresh i j p a b less)) (λ (more : i ≤ j). omega (arith, high, more)) (cases_lt j i))
    (cases_lt i j)

-- a gate's node differs from the leaves and from the gates before it
gate_fresh : (leaves : List ℕ) (gates : List (ℕ × Gate)) (i k p : ℕ) → AreNext leaves gates →
    slice_get (map node_of gates) i ≡ Some p → slice_get (numbered leaves gates) k ≡ Some p → k < length leaves + i → ⊥
gate_fresh leaves gates i k p next at e low =
    let x = at_map node_of gates i p at in
    let none : IsSigAmong (numbered leaves (take i gates)) (Node p) → ⊥ = subst (λ (q : ℕ). IsSigAmong (numbered leaves (take i gates)) (Node q) → ⊥) x.2 (next.each i x.0 x.1).node in
    ⊎_elim
    (λ leaf. none (k, at_prefix leaves (map node_of (take i gates)) k p leaf))
    (λ r.
    let before : r.0 < i = omega (arith, low, r.1) in
    let there : slice_get (map node_of (take i gates)) r.0 ≡ Some p = ap (λ (qs : List ℕ). slice_get qs r.0) (map_taken gates i) ∙ taken_at (map node_of gates) i r.0 p before r.2 in
    none (length leaves + r.0, at_after leaves (map node_of (take i gates)) r.0 p there))
    (in_parts leaves (map node_of gates) k p e)

all_fresh : (leaves : List ℕ) (gates : List (ℕ × Gate)) → AreDistinctLeaves leaves → AreNext leaves gates → AreFresh (numbered leaves gates)
all_fresh leaves gates new next i k p a b low =
    ⊎_elim
    (λ leaf. ⊎_elim
    (λ other. new.each i p leaf (k, taken_at leaves i k p low other))
    (λ r. absurd (omega (arith, low, r.1, slice_get_within leaves i p leaf)))
    (in_parts leaves (map node_of gates) k p b))
    (λ r. gate_fresh leaves gates r.0 k p next r.2 b (omega (arith, low, r.1)))
    (in_parts leaves (map node_of gates) i p a)

pub checked_cone : (leaves : List ℕ) (gates : List (ℕ × Gate)) → length leaves ≤ most_leaves → AreDistinctLeaves leaves → AreNext leaves gates → IsCone (record { leaves = leaves; gates = gates })
checked_cone leaves gates few new next =
    record { few = few; apart = fresh_apart (numbered leaves gates) (all_fresh leaves gates new next); gates = λ i x at. (next.each i x at).gate }

pub cone_new : (leaves : List ℕ) (gates : List (ℕ × Gate)) → IsCone (record { leaves = leaves; gates = gates }) → AreDistinctLeaves leaves
cone_new leaves gates cone =
    record {
      each = λ i p at among.
          let back = taken_back leaves i among.0 p among.1 in
          let same : i ≡ among.0 = cone.apart i among.0 p (at_prefix leaves (map node_of gates) i p at) (at_prefix leaves (map node_of gates) among.0 p back.1) in
          omega (arith, back.0, same);
    }

-- a node among the leaves and the first gates is among all nodes, at a smaller index
first_at : (leaves : List ℕ) (gates : List (ℕ × Gate)) (i k p : ℕ) → slice_get (numbered leaves (take i gates)) k ≡ Some p → (k < length leaves + i) × (slice_get (numbered leaves gates) k ≡ Some p)
first_at leaves gates i k p e =
    ⊎_elim
    (λ leaf. (omega (arith, slice_get_within leaves k p leaf), at_prefix leaves (map node_of gates) k p leaf))
    (λ r.
    let there = taken_back (map node_of gates) i r.0 p (ap (λ (qs : List ℕ). slice_get qs r.0) (sym (map_taken gates i)) ∙ r.2) in
    (omega (arith, r.1, there.0), ap (slice_get (numbered leaves gates)) r.1 ∙ at_after leaves (map node_of gates) r.0 p there.1))
    (in_parts leaves (map node_of (take i gates)) k p e)

pub cone_next : (leaves : List ℕ) (gates : List (ℕ × Gate)) → IsCone (record { leaves = leaves; gates = gates }) → AreNext leaves gates
cone_next leaves gates cone =
    record {
      each = λ i x at. record {
        node = λ among.
            let back = first_at leaves gates i among.0 x.0 among.1 in
            let own : slice_get (numbered leaves gates) (length leaves + i) ≡ Some x.0 = at_after leaves (map node_of gates) i x.0 (map_at node_of gates i x at) in
            let same : length leaves + i ≡ among.0 = cone.apart (length leaves + i) among.0 x.0 own back.1 in
            omega (arith, back.0, same);
        gate = cone.gates i x at;
      };
    }

-- ---- the loops

-- the leaves before an index are distinct
abbrev pub AreNewTo : List ℕ → ℕ → Type 0
AreNewTo leaves i = (k p : ℕ) → k < i → slice_get leaves k ≡ Some p → IsSigAmong (take k leaves) (Node p) → ⊥

abbrev pub AreNextTo : List ℕ → List (ℕ × Gate) → ℕ → Type 0
AreNextTo leaves gates i = (k : ℕ) (x : ℕ × Gate) → k < i → slice_get gates k ≡ Some x → MayComeNext (numbered leaves (take k gates)) x

pub new_more : (leaves : List ℕ) (i : ℕ) → AreNewTo leaves i → ((q : ℕ) → slice_get leaves i ≡ Some q → IsSigAmong (take i leaves) (Node q) → ⊥) → AreNewTo leaves (i + 1)
new_more leaves i before own k p low at =
    ⊎_elim
    (λ (less : k < i). before k p less at)
    (λ (more : i ≤ k).
    let same : i ≡ k = omega (arith, low, more) in
    subst (λ (j : ℕ). slice_get leaves j ≡ Some p → IsSigAmong (take j leaves) (Node p) → ⊥) same (own p) at)
    (cases_lt k i)

pub all_new : (leaves : List ℕ) (i : ℕ) → AreNewTo leaves i → length leaves ≤ i → AreDistinctLeaves leaves
all_new leaves i to past = record { each = λ k p at. to k p (omega (arith, past, slice_get_within leaves k p at)) at }

pub next_more : (leaves : List ℕ) (gates : List (ℕ × Gate)) (i : ℕ) → AreNextTo leaves gates i →
    ((x : ℕ × Gate) → slice_get gates i ≡ Some x → MayComeNext (numbered leaves (take i gates)) x) →
    AreNextTo leaves gates (i + 1)
next_more leaves gates i before own k x low at =
    ⊎_elim
    (λ (less : k < i). before k x less at)
    (λ (more : i ≤ k).
    let same : i ≡ k = omega (arith, low, more) in
    subst (λ (j : ℕ). slice_get gates j ≡ Some x → MayComeNext (numbered leaves (take j gates)) x) same (own x) at)
    (cases_lt k i)

pub all_next : (leaves : List ℕ) (gates : List (ℕ × Gate)) (i : ℕ) → AreNextTo leaves gates i → length gates ≤ i → AreNext leaves gates
all_next leaves gates i to past = record { each = λ k x at. to k x (omega (arith, past, slice_get_within gates k x at)) at }
