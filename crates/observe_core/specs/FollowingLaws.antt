-- How fanouts and followers are found.
use Rattle.std.specs.Prelude.{◌≡◌, ℕ, zero, suc, ◌+◌, ◌-◌, ◌≤◌, ◌<◌, true, false, List, [], ◌∷◌, length, ◌⊎◌, refl}
use Rattle.std.proofs.Common.{arith, sym, ◌∙◌, ap, subst, inl, inr, ⊎_elim}
use Rattle.std.proofs.lemmas.Bool.{cases_lt, both_ways}
use Rattle.net_theory.specs.Net.{Net, end_of}
use Rattle.window_theory.specs.Nodes.{among}
use Rattle.window_theory.specs.NodeLaws.{among_cases, among_first, among_later}
use Rattle.window_theory.specs.Paths.{Reads}
use Rattle.window_theory.specs.WindowLaws.{gate_high}
use Rattle.window_core.specs.Fanouts.{IsLater}
use Rattle.observe_theory.specs.FanoutCone.{IsFollower}
use Rattle.observe_core.specs.Following.{IsLeastFanout, IsFanoutSearch, way_from, IsLesser, IsNextFollower, IsFollowerSought}

-- ---- the least fanout

pub walk_start : (n : Net) (gates : List ℕ) (node next : ℕ) → IsLater n (n.sources + 1) node next → IsFanoutSearch n gates node next
walk_start n gates node next first =
    record {
      bound = n.sources + 1;
      later = first;
      inside = λ x reads below. absurd (omega (arith, below, (gate_high n x reads.fanout).0));
    }

-- the next fanout is a gate that reads the node
pub walk_reads : (n : Net) (gates : List ℕ) (node next : ℕ) → (next ≡ 0 → ⊥) → IsFanoutSearch n gates node next → Reads n next node
walk_reads n gates node next some walk = ⊎_elim (λ none. absurd (some none)) (λ r. r.0) walk.later.found

pub walk_more : (n : Net) (gates : List ℕ) (node next after : ℕ) → (next ≡ 0 → ⊥) → among gates next ≡ true →
    IsLater n (next + 1) node after → IsFanoutSearch n gates node next → IsFanoutSearch n gates node after
walk_more n gates node next after some on later walk =
    record {
      bound = next + 1;
      later = later;
      inside = λ x reads below. ⊎_elim
          (λ (low : x < walk.bound). walk.inside x reads low)
          (λ (high : walk.bound ≤ x).
          let least : next ≤ x = (walk.later.most x reads high).1 in
          let own : next ≡ x = omega (arith, least, below) in
          ap (among gates) (sym own) ∙ on)
          (cases_lt x walk.bound);
    }

pub walk_end : (n : Net) (gates : List ℕ) (node next : ℕ) → (next ≡ 0) ⊎ (among gates next ≡ false) → IsFanoutSearch n gates node next → IsLeastFanout n gates node next
walk_end n gates node next ends walk =
    record {
      found = ⊎_elim (λ none. inl none) (λ out. ⊎_elim (λ none. inl none) (λ r. inr (r.0, out)) walk.later.found) ends;
      most = λ x reads out. ⊎_elim
          (λ (low : x < walk.bound). absurd (both_ways (among gates x) out (walk.inside x reads low)))
          (λ (high : walk.bound ≤ x). walk.later.most x reads high)
          (cases_lt x walk.bound);
    }

-- the search comes nearer to the end
pub walk_rises : (n : Net) (gates : List ℕ) (node next after : ℕ) → (next ≡ 0 → ⊥) → IsLater n (next + 1) node after → IsFanoutSearch n gates node next → way_from n after < way_from n next
unfolding way_from
walk_rises n gates node zero after some later walk = absurd (some refl)
walk_rises n gates node (suc next) after some later walk =
    let own = gate_high n (suc next) (walk_reads n gates node (suc next) some walk).fanout in
    by after later own.1
  where
    by : (x : ℕ) → IsLater n (suc next + 1) node x → suc next < n.sources + 1 + length n.gates → way_from n x < end_of n - suc next
    by zero is low = omega (arith, low)
    by (suc x) is low = ⊎_elim
        (λ (none : suc x ≡ 0). absurd (omega (arith, none)))
        (λ r. let high = gate_high n (suc x) r.0.fanout in omega (arith, low, r.1, high.1))
        is.found

-- ---- the least follower

pub sought_start : (n : Net) (gates : List ℕ) → IsFollowerSought n gates gates 0
sought_start n gates = record { within = λ q e. e; found = inl refl; most = λ x q on reads out. inr on }

pub sought_more : (n : Net) (gates left : List ℕ) (y : ℕ) (rest : List ℕ) (best least new : ℕ) → left ≡ y ∷ rest →
    IsLeastFanout n gates y least → IsLesser best least new → IsFollowerSought n gates left best →
    IsFollowerSought n gates rest new
sought_more n gates left y rest best least new parts fanout is was =
    let at : (q : ℕ) → among (y ∷ rest) q ≡ true → among left q ≡ true = λ q e. ap (λ (xs : List ℕ). among xs q) parts ∙ e in
    let inside : among gates y ≡ true = was.within y (at y (among_first y rest)) in
    let follows : (least ≡ 0) ⊎ IsFollower n gates least = ⊎_elim (λ none. inl none) (λ r. inr (record { outside = r.1; node = y; inside = inside; reads = r.0 })) fanout.found in
    record {
      within = λ q e. was.within q (at q (among_later y q rest e));
      found = ⊎_elim
          (λ first. ⊎_elim (λ none. inl (first ∙ none)) (λ f. inr (subst (IsFollower n gates) (sym first) f)) was.found)
          (λ second. ⊎_elim (λ none. inl (second ∙ none)) (λ f. inr (subst (IsFollower n gates) (sym second) f)) follows)
          is.one;
      most = λ x q on reads out. ⊎_elim
          (λ b. let r = is.first b.0 in inl (r.0, omega (arith, r.1, b.1)))
          (λ here. ⊎_elim
          (λ (same : q ≡ y).
          let l = fanout.most x (subst (Reads n x) same reads) out in
          let r = is.second l.0 in
          inl (r.0, omega (arith, r.1, l.1)))
          (λ later. inr later)
          (among_cases y q rest (ap (λ (xs : List ℕ). among xs q) (sym parts) ∙ here)))
          (was.most x q on reads out);
    }

-- a gate that is looked at is one of the gates
pub sought_inside : (n : Net) (gates left : List ℕ) (y : ℕ) (rest : List ℕ) (best : ℕ) → left ≡ y ∷ rest → IsFollowerSought n gates left best → among gates y ≡ true
sought_inside n gates left y rest best parts was = was.within y (ap (λ (xs : List ℕ). among xs y) parts ∙ among_first y rest)

pub sought_end : (n : Net) (gates left : List ℕ) (best : ℕ) → length left ≡ 0 → IsFollowerSought n gates left best → IsNextFollower n gates best
sought_end n gates left best none was =
    record {
      found = was.found;
      most = λ x is. ⊎_elim
          (λ b. b)
          (λ here. absurd (let e : false ≡ true = ap (λ (xs : List ℕ). among xs is.node) (sym (empty left none)) ∙ here in cc))
          (was.most x is.node is.inside is.reads is.outside);
    }
  where
    empty : (xs : List ℕ) → length xs ≡ 0 → xs ≡ []
    empty [] e = refl
    empty (x ∷ xs) e = absurd (omega (arith, e))
