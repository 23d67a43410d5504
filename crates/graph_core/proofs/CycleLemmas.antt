-- A node whose fanins all have smaller numbers is on no cycle.
use Rattle.std.proofs.Common.{◌≡◌, ℕ, zero, suc, ◌+◌, ◌≤◌, ◌<◌, true, List, [], ◌∷◌, ◌++◌, length, refl, ap, ◌∙◌, sym, subst, arith, ⊎_elim, eqb, inl, inr, get_or, length-append}
use Rattle.std.specs.Prelude.{slice_index, slice_get, Option, Some, unwrap_or, if◌then◌else◌, nat_eq, ◌⊎◌}
use Rattle.std.specs.List.{IsDistinct}
use Rattle.std.proofs.lemmas.Grind.{common_steps}
use Rattle.std.proofs.lemmas.Bool.{cond_both, or_cases, eqb-true, eq-eqb, or_left, or_right}
use Rattle.std.proofs.lemmas.Map.Steps.{length-le_from_distinct_below}
use Rattle.std.proofs.lemmas.Option.{slice_get-get_or, slice_get_within}
use Rattle.graph_core.specs.Visit.{Graph, fanins_of, has_ended}
use Rattle.graph_core.specs.VisitLaws.{HasPath, at_once, by_way_of, IsClosedGraph, ended_left, ended_last, ended_cases}
use Rattle.graph_core.specs.Cycles.{NeverRises, added, AreReached}

leads_fall : (g : Graph) (numbers : List ℕ) (t u : ℕ) → NeverRises g numbers → HasPath g t u → slice_index numbers u ≤ slice_index numbers t
leads_fall g numbers _ _ never_rises (at_once t u r) = never_rises.within t u r
leads_fall g numbers _ _ never_rises (by_way_of t u v r more) = omega (arith, leads_fall g numbers u v never_rises more, never_rises.within t u r)

-- an element of a list is at the same index of the list with more appended
at_prefix : {A : Type 0} (xs ys : List A) (i : ℕ) (x : A) → slice_get xs i ≡ Some x → slice_get (xs ++ ys) i ≡ Some x
at_prefix [] ys i x e = absurd cc
at_prefix (z ∷ xs) ys zero x e = e
at_prefix (z ∷ xs) ys (suc i) x e = at_prefix xs ys i x e

-- A node whose fanins all have smaller numbers reaches only nodes with smaller numbers.
leads_below : (g : Graph) (numbers : List ℕ) (t v : ℕ) → NeverRises g numbers →
    ((u : ℕ) → has_ended (fanins_of g t) u ≡ true → slice_index numbers u < slice_index numbers t) → HasPath g t v →
    slice_index numbers v < slice_index numbers t
leads_below g numbers _ _ never_rises below (at_once t u r) = below u r
leads_below g numbers _ _ never_rises below (by_way_of t u v r more) = omega (arith, leads_fall g numbers u v never_rises more, below u r)

pub apart : (g : Graph) (numbers : List ℕ) (t : ℕ) → NeverRises g numbers → ((u : ℕ) → has_ended (fanins_of g t) u ≡ true → slice_index numbers u < slice_index numbers t) → HasPath g t t → ⊥
apart g numbers t never_rises below leads = omega (arith, leads_below g numbers t t never_rises below leads)

-- ---- adding nodes

added_keeps : (seen ts : List ℕ) (u : ℕ) → has_ended seen u ≡ true → has_ended (added seen ts) u ≡ true
unfolding added
added_keeps seen [] u h = h
added_keeps seen (t ∷ ts) u h =
    cond_both (has_ended seen t) seen (seen ++ t ∷ []) (λ (s : List ℕ). has_ended (added s ts) u ≡ true)
    (λ was. added_keeps seen ts u h)
    (λ fresh. added_keeps (seen ++ t ∷ []) ts u (ended_left seen (t ∷ []) u h))

added_has : (seen ts : List ℕ) (u : ℕ) → has_ended ts u ≡ true → has_ended (added seen ts) u ≡ true
unfolding added
added_has seen [] u h = absurd cc
added_has seen (t ∷ ts) u h =
    ⊎_elim
    (λ here. subst (λ (x : ℕ). has_ended (added seen (t ∷ ts)) x ≡ true) (sym (eqb-true u t here))
    (cond_both (has_ended seen t) seen (seen ++ t ∷ []) (λ (s : List ℕ). has_ended (added s ts) t ≡ true)
    (λ was. added_keeps seen ts t was)
    (λ fresh. added_keeps (seen ++ t ∷ []) ts t (ended_last seen t))))
    (λ later. added_has (if has_ended seen t then seen else seen ++ t ∷ []) ts u later)
    (or_cases (nat_eq u t) (has_ended ts u) h)

added_from : (P : ℕ → Type 0) (seen ts : List ℕ) → ((u : ℕ) → has_ended seen u ≡ true → P u) → ((u : ℕ) → has_ended ts u ≡ true → P u) → (u : ℕ) → has_ended (added seen ts) u ≡ true → P u
unfolding added
added_from P seen [] old more = old
added_from P seen (t ∷ ts) old more =
    let here : P t = more t (or_left (nat_eq t t) (has_ended ts t) (eq-eqb t t refl)) in
    cond_both (has_ended seen t) seen (seen ++ t ∷ []) (λ (s : List ℕ). (u : ℕ) → has_ended (added s ts) u ≡ true → P u)
    (λ was. added_from P seen ts old (λ u h. more u (or_right (nat_eq u t) (has_ended ts u) h)))
    (λ fresh. added_from P (seen ++ t ∷ []) ts (λ u h. ⊎_elim (λ l. old u l) (λ r. subst P (sym r) here) (ended_cases seen t u h)) (λ u h. more u (or_right (nat_eq u t) (has_ended ts u) h)))

-- an element keeps its index
added_at : (seen ts : List ℕ) (k t : ℕ) → slice_get seen k ≡ Some t → slice_get (added seen ts) k ≡ Some t
unfolding added
added_at seen [] k t e = e
added_at seen (u ∷ ts) k t e =
    cond_both (has_ended seen u) seen (seen ++ u ∷ []) (λ (s : List ℕ). slice_get (added s ts) k ≡ Some t)
    (λ was. added_at seen ts k t e)
    (λ fresh. added_at (seen ++ u ∷ []) ts k t (at_prefix seen (u ∷ []) k t e))

-- ---- all nodes that a node reaches

-- The loop invariant: `set` has only nodes that `node` reaches, and all fanins of its first `at` elements.
pub record Reaches (g : Graph) (node at : ℕ) (set : List ℕ) : Type 0 where
  pub low : at ≤ length set
  pub leads : (u : ℕ) → has_ended set u ≡ true → HasPath g node u
  pub first : (u : ℕ) → has_ended (fanins_of g node) u ≡ true → has_ended set u ≡ true
  pub closed : (k t u : ℕ) → k < at → slice_get set k ≡ Some t → has_ended (fanins_of g t) u ≡ true → has_ended set u ≡ true

pub reaches_start : (g : Graph) (node : ℕ) → Reaches g node 0 (added [] (fanins_of g node))
reaches_start g node = record {
  low = omega arith;
  leads = added_from (HasPath g node) [] (fanins_of g node) (λ u h. absurd cc) (λ u h. at_once node u h);
  first = λ u h. added_has [] (fanins_of g node) u h;
  closed = λ k t u low at h. absurd (omega (arith, low));
}

longer : (seen ts : List ℕ) → length seen ≤ length (added seen ts)
unfolding added
longer seen [] = omega arith
longer seen (t ∷ ts) =
    let more : length (seen ++ t ∷ []) ≡ length seen + 1 = length-append seen (t ∷ []) in
    cond_both (has_ended seen t) seen (seen ++ t ∷ []) (λ (s : List ℕ). length seen ≤ length (added s ts))
    (λ was. longer seen ts)
    (λ fresh. omega (arith, more, longer (seen ++ t ∷ []) ts))

place_stays : (seen ts : List ℕ) (k t : ℕ) → k < length seen → slice_get (added seen ts) k ≡ Some t → slice_get seen k ≡ Some t
place_stays seen ts k t low e = let here : slice_get seen k ≡ Some (get_or seen k 0) = slice_get-get_or seen k 0 low in here ∙ sym (added_at seen ts k (get_or seen k 0) here) ∙ e

same_some : (x y : ℕ) → Some x ≡ Some y → x ≡ y
same_some x y e = ap (λ (o : Option ℕ). unwrap_or o 0) e

-- an element is in the set
among : (set : List ℕ) (k t : ℕ) → slice_get set k ≡ Some t → has_ended set t ≡ true
among [] k t e = absurd cc
among (x ∷ set) zero t e = or_left (nat_eq t x) (has_ended set t) (eq-eqb t x (sym (same_some x t e)))
among (x ∷ set) (suc k) t e = or_right (nat_eq t x) (has_ended set t) (among set k t e)

leads_on : (g : Graph) (t u v : ℕ) → HasPath g t u → has_ended (fanins_of g u) v ≡ true → HasPath g t v
leads_on g _ _ v (at_once t u r) h = by_way_of t u v r (at_once u v h)
leads_on g _ _ v (by_way_of t w u r more) h = by_way_of t w v r (leads_on g w u v more h)

below_cases : (k at : ℕ) → k < at + 1 → (k < at) ⊎ (k ≡ at)
below_cases zero zero low = inr refl
below_cases zero (suc at) low = inl (omega arith)
below_cases (suc k) zero low = absurd (omega (arith, low))
below_cases (suc k) (suc at) low = ⊎_elim (λ l. inl (omega (arith, l))) (λ e. inr (ap suc e)) (below_cases k at (omega (arith, low)))

pub reaches_next : (g : Graph) (node at t : ℕ) (set : List ℕ) → Reaches g node at set → slice_get set at ≡ Some t → Reaches g node (at + 1) (added set (fanins_of g t))
reaches_next g node at t set r here = record {
  low = omega (arith, longer set (fanins_of g t), slice_get_within set at t here);
  leads = added_from (HasPath g node) set (fanins_of g t) r.leads (λ u h. leads_on g node t u (r.leads t (among set at t here)) h);
  first = λ u h. added_keeps set (fanins_of g t) u (r.first u h);
  closed = λ k v u below e h.
      let was : slice_get set k ≡ Some v = place_stays set (fanins_of g t) k v (omega (arith, below, slice_get_within set at t here)) e in
      ⊎_elim
      (λ (l : k < at). added_keeps set (fanins_of g t) u (r.closed k v u l was h))
      (λ (same : k ≡ at). added_has set (fanins_of g t) u (subst (λ (x : ℕ). has_ended (fanins_of g x) u ≡ true) (same_some v t (sym was ∙ ap (slice_get set) same ∙ here)) h))
      (below_cases k at below);
}

-- the index of an element
place_of : (set : List ℕ) (t : ℕ) → has_ended set t ≡ true → (k : ℕ) × ((k < length set) × (slice_get set k ≡ Some t))
place_of [] t h = absurd cc
place_of (x ∷ set) t h =
    ⊎_elim
    (λ here. (0, (omega arith, ap Some (sym (eqb-true t x here)))))
    (λ later. let p : (k : ℕ) × ((k < length set) × (slice_get set k ≡ Some t)) = place_of set t later in (suc p.0, (omega (arith, p.1.0), p.1.1)))
    (or_cases (nat_eq t x) (has_ended set t) h)

keeps_in : (g : Graph) (set : List ℕ) (t u : ℕ) →
    ((v w : ℕ) → has_ended set v ≡ true → has_ended (fanins_of g v) w ≡ true → has_ended set w ≡ true) →
    ((w : ℕ) → has_ended (fanins_of g t) w ≡ true → has_ended set w ≡ true) → HasPath g t u → has_ended set u ≡ true
keeps_in g set _ _ closed first (at_once t u r) = first u r
keeps_in g set _ _ closed first (by_way_of t u v r more) = keeps_in g set u v closed (λ w h. closed u w (first u r) h) more

pub reaches_end : (g : Graph) (node at : ℕ) (set : List ℕ) → Reaches g node at set → length set ≤ at → AreReached g node set
reaches_end g node at set r high = record {
  leads = r.leads;
  all = λ u leads. keeps_in g set node u (λ v w h reads. let p : (k : ℕ) ×
      ((k < length set) × (slice_get set k ≡ Some v)) =
      place_of set v h in r.closed p.0 v w (omega (arith, p.1.0, high)) p.1.1 reads) r.first leads;
}

-- ---- the number of nodes

last_read : (g : Graph) (t u : ℕ) → HasPath g t u → (v : ℕ) × (has_ended (fanins_of g v) u ≡ true)
last_read g _ _ (at_once t u r) = (t, r)
last_read g _ _ (by_way_of t u v r more) = last_read g u v more

-- reached nodes are nodes of the graph
pub reached_few : (g : Graph) (node at : ℕ) (set : List ℕ) → IsClosedGraph g (length g) → IsDistinct eqb set → Reaches g node at set → length set ≤ length g
reached_few g node at set closed distinct r = length-le_from_distinct_below set (length g) distinct
    (λ q h. let last : (v : ℕ) × (has_ended (fanins_of g v) q ≡ true) = last_read g node q (r.leads q h) in
    closed last.0 q last.1)

pub ruleset searches = (common_steps, reaches_start, reaches_next, reaches_end)

-- ---- the first node on a cycle

-- no node below `node` is on a cycle
pub record AreApart (g : Graph) (node : ℕ) : Type 0 where
  pub apart : (u : ℕ) → u < node → HasPath g u u → ⊥

pub apart_start : (g : Graph) → AreApart g 0
apart_start g = record { apart = λ u low leads. omega (arith, low) }

pub apart_next : (g : Graph) (node : ℕ) → AreApart g node → (HasPath g node node → ⊥) → AreApart g (node + 1)
apart_next g node are not_here = record {
  apart = λ u low leads. ⊎_elim (λ l. are.apart u l leads) (λ e. not_here (subst (λ (x : ℕ). HasPath g x x) e leads)) (below_cases u node low);
}

pub apart_end : (g : Graph) (node : ℕ) → IsClosedGraph g (length g) → length g ≤ node → AreApart g node → (u : ℕ) → HasPath g u u → ⊥
apart_end g node closed high are u leads =
    let last : (v : ℕ) × (has_ended (fanins_of g v) u ≡ true) = last_read g u u leads in
    are.apart u (omega (arith, closed last.0 u last.1, high)) leads

pub ruleset firsts = (common_steps, apart_start, apart_next, apart_end)
