-- How the greatest candidate is found.
use Rattle.std.specs.Prelude.{◌≡◌, ℕ, ◌≤◌, ◌<◌, true, false, List, [], ◌∷◌, length, slice_get, Option, Some, ◌⊎◌, refl}
use Rattle.std.proofs.Common.{arith, sym, ◌∙◌, ap, subst, inl, inr, ⊎_elim}
use Rattle.std.proofs.lemmas.Bool.{cases_Bool}
use Rattle.net_theory.specs.declared.data.Sig.{Sig}
use Rattle.net_theory.specs.declared.data.Sig.TheVariants as sigs
use Rattle.net_theory.specs.declared.data.Gate.{Gate}
use Rattle.net_theory.specs.Net.{Net, IsNet, end_of}
use Rattle.net_theory.specs.Reach.{ReadsNode}
use Rattle.window_theory.specs.Nodes.{among, IsRising}
use Rattle.window_theory.specs.NodeLaws.{among_cases, among_first, among_later}
use Rattle.window_theory.specs.Paths.{IsGate, Reads}
use Rattle.window_theory.specs.Window.{Window, IsReadBy, IsGrowthCandidate, IsGreatestCandidate, AreTaken, IsWindow}
use Rattle.window_theory.specs.WindowLaws.{gate_high, gate_at, below_last, taken_rising, taken_gate}
use Rattle.window_theory.specs.FaninConeLaws.{gate_one}
use Rattle.window_theory.specs.GrowthLaws.{window_size}
use Rattle.window_core.specs.Gates.{IsGateOf, IsGreaterSig, IsWanted, IsSought, bound_of}

-- ---- gates

pub reads_of : (n : Net) (p q : ℕ) (g : Gate) → IsGateOf n p g → Reads n p q → ReadsNode g q
reads_of n p q g of r =
    let own : IsGate n p = record { index = of.index; gate = g; at = of.at; node = of.node } in
    subst (λ (x : Gate). ReadsNode x q) (gate_one n p r.fanout own) r.reads

-- a node has only one gate
pub of_one : (n : Net) (p : ℕ) (g h : Gate) → IsGateOf n p g → IsGateOf n p h → g ≡ h
of_one n p g h a b =
    let same : a.index ≡ b.index = omega (arith, a.node, b.node) in
    let e : Some g ≡ Some h = sym a.at ∙ ap (slice_get n.gates) same ∙ b.at in
    cc

pub of_gate : (n : Net) (p : ℕ) (g : Gate) → IsGateOf n p g → IsGate n p
of_gate n p g of = record { index = of.index; gate = g; at = of.at; node = of.node }

pub of_reads : (n : Net) (p q : ℕ) (g : Gate) → IsGateOf n p g → ReadsNode g q → Reads n p q
of_reads n p q g of reads = record { fanout = record { index = of.index; gate = g; at = of.at; node = of.node }; reads = reads }

-- ---- the greater of two

record IsNextTaken (bound best : ℕ) (s : Sig) (result : ℕ) : Type 0 where
  from : best ≤ result
  found : (result ≡ best) ⊎ ((s ≡ sigs.Node result) × (result < bound))
  most : (q : ℕ) → s ≡ sigs.Node q → q < bound → q ≤ result

next_sig : (bound best : ℕ) (s : Sig) (result : ℕ) → IsGreaterSig bound best s result → IsNextTaken bound best s result
next_sig bound best sigs.Zero result is = record { from = omega arith; found = inl is; most = λ q e low. absurd cc }
next_sig bound best sigs.One result is = record { from = omega arith; found = inl is; most = λ q e low. absurd cc }
next_sig bound best (sigs.Node p) result is =
    record {
      from = is.from;
      found = ⊎_elim (λ same. inl same) (λ r. inr (ap sigs.Node (sym r.0), subst (λ (x : ℕ). x < bound) (sym r.0) r.1)) is.found;
      most = λ q e low.
          let same : p ≡ q = cc in
          let below : p < bound = omega (arith, same, low) in
          omega (arith, is.most below, same);
    }

-- ---- the search

pub sought_more : (n : Net) (root : ℕ) (partner : Option ℕ) (taken : List ℕ) (bound : ℕ) (left : List ℕ) (x : ℕ)
    (rest : List ℕ) (g : Gate) (best first next : ℕ) → left ≡ x ∷ rest → IsGateOf n x g →
    IsGreaterSig bound best g.a first → IsGreaterSig bound first g.b next →
    IsSought n root partner taken bound left best → IsSought n root partner taken bound rest next
sought_more n root partner taken bound left x rest g best first next parts of by_a by_b was =
    let a : IsNextTaken bound best g.a first = next_sig bound best g.a first by_a in
    let b : IsNextTaken bound first g.b next = next_sig bound first g.b next by_b in
    let here : among taken x ≡ true = was.within x (ap (λ (xs : List ℕ). among xs x) parts ∙ among_first x rest) in
    let wanted : (q : ℕ) → ReadsNode g q → IsWanted n root partner taken q = λ q reads. inr (record { fanout = x; inside = here; reads = of_reads n x q g of reads }) in
    record {
      within = λ q e. was.within q (ap (λ (xs : List ℕ). among xs q) parts ∙ among_later x q rest e);
      from = omega (arith, was.from, a.from, b.from);
      found = ⊎_elim
          (λ (same : next ≡ first). ⊎_elim
          (λ (also : first ≡ best). ⊎_elim
          (λ (none : best ≡ n.sources). inl (omega (arith, same, also, none)))
          (λ r. let e : best ≡ next = omega (arith, same, also) in inr (subst (IsWanted n root partner taken) e r.0, omega (arith, e, r.1)))
          was.found)
          (λ r. let e : first ≡ next = sym same in inr (subst (IsWanted n root partner taken) e (wanted first (inl r.0)), omega (arith, e, r.1)))
          a.found)
          (λ r. inr (wanted next (inr r.0), r.1))
          b.found;
      most = λ q why above low.
          ⊎_elim
          (λ (no_more : q ≤ best). inl (omega (arith, no_more, a.from, b.from)))
          (λ read. ⊎_elim
          (λ (own : read.fanout ≡ x).
          let reads : ReadsNode g q = reads_of n x q g of (subst (λ (y : ℕ). Reads n y q) own read.reads) in
          ⊎_elim
          (λ first_is. inl (omega (arith, a.most q first_is low, b.from)))
          (λ second_is. inl (omega (arith, b.most q second_is low)))
          reads)
          (λ later. inr (record { fanout = read.fanout; inside = later; reads = read.reads }))
          (among_cases x read.fanout rest (ap (λ (xs : List ℕ). among xs read.fanout) (sym parts) ∙ read.inside)))
          (was.most q why above low);
    }

-- ---- candidates are below the bound

nothing_read : (n : Net) (p : ℕ) → IsReadBy n [] p → ⊥
nothing_read n p read = let e : false ≡ true = read.inside in cc

candidate_low : (n : Net) (root : ℕ) (partner : Option ℕ) (taken : List ℕ) (p : ℕ) → IsNet n → AreTaken n root partner taken → IsGrowthCandidate n root partner taken p → p < bound_of n taken
unfolding AreTaken
candidate_low n root partner [] p net are is = (gate_high n p is.gate).1
candidate_low n root partner (t ∷ before) p net are is = below_last n root partner t before p net are.0 is

below_bound : (n : Net) (root : ℕ) (partner : Option ℕ) (taken : List ℕ) (p : ℕ) → IsNet n → AreTaken n root partner taken → p < bound_of n taken → among taken p ≡ false
unfolding AreTaken IsRising
below_bound n root partner [] p net are low = refl
below_bound n root partner (t ∷ before) p net are low =
    let rising : IsRising (t ∷ before) = taken_rising n root partner (t ∷ before) net are in
    ⊎_elim
    (λ on. ⊎_elim
    (λ (same : p ≡ t). absurd (omega (arith, same, low)))
    (λ later. let above : t < p = rising.0 p later in absurd (omega (arith, above, low)))
    (among_cases t p before on))
    (λ off. off)
    (cases_Bool (among (t ∷ before) p))

bound_low : (n : Net) (root : ℕ) (partner : Option ℕ) (taken : List ℕ) → AreTaken n root partner taken → bound_of n taken ≤ end_of n
unfolding AreTaken
bound_low n root partner [] are = omega arith
bound_low n root partner (t ∷ before) are = let high = gate_high n t are.0.candidate.gate in omega (arith, high.1)

found_candidate : (n : Net) (root : ℕ) (partner : Option ℕ) (taken : List ℕ) (p : ℕ) → IsNet n →
    AreTaken n root partner taken → n.sources < p → p < bound_of n taken → IsWanted n root partner taken p →
    IsGrowthCandidate n root partner taken p
found_candidate n root partner taken p net are above low why =
    record {
      gate = gate_at n p (omega arith) (omega (arith, low, bound_low n root partner taken are));
      outside = below_bound n root partner taken p net are low;
      why = why;
    }

pub sought_none : (n : Net) (root : ℕ) (partner : Option ℕ) (taken : List ℕ) (bound best : ℕ) → IsNet n →
    AreTaken n root partner taken → bound ≡ bound_of n taken → IsSought n root partner taken bound [] best →
    best ≡ n.sources → (p : ℕ) → IsGrowthCandidate n root partner taken p → ⊥
sought_none n root partner taken bound best net are bound_is was none p is =
    let low : p < bound = omega (arith, candidate_low n root partner taken p net are is, bound_is) in
    let above : n.sources < p = (gate_high n p is.gate).0 in
    ⊎_elim
    (λ (no_more : p ≤ best). omega (arith, no_more, above, none))
    (λ read. nothing_read n p read)
    (was.most p is.why above low)

pub sought_some : (n : Net) (root : ℕ) (partner : Option ℕ) (taken : List ℕ) (bound best : ℕ) → IsNet n →
    AreTaken n root partner taken → bound ≡ bound_of n taken → IsSought n root partner taken bound [] best →
    (best ≡ n.sources → ⊥) → IsGreatestCandidate n root partner taken best
sought_some n root partner taken bound best net are bound_is was some =
    let above : n.sources < best = omega (arith, was.from, some) in
    let is : IsWanted n root partner taken best × (best < bound) = ⊎_elim (λ none. absurd (some none)) (λ r. r) was.found in
    record {
      candidate = found_candidate n root partner taken best net are above (omega (arith, is.1, bound_is)) is.0;
      greatest = λ q other.
          let low : q < bound = omega (arith, candidate_low n root partner taken q net are other, bound_is) in
          ⊎_elim (λ (no_more : q ≤ best). no_more) (λ read. absurd (nothing_read n q read)) (was.most q other.why (gate_high n q other.gate).0 low);
    }

-- ---- taking

pub taken_gates : (n : Net) (root : ℕ) (partner : Option ℕ) (taken : List ℕ) → AreTaken n root partner taken → (p : ℕ) → among taken p ≡ true → IsGate n p
taken_gates n root partner taken are p e = taken_gate n root partner taken p are e

pub none_taken : (n : Net) (root : ℕ) (partner : Option ℕ) → AreTaken n root partner []
unfolding AreTaken
none_taken n root partner = tt

pub one_more : (n : Net) (root : ℕ) (partner : Option ℕ) (taken new : List ℕ) (p : ℕ) → new ≡ p ∷ taken →
    AreTaken n root partner taken → IsGreatestCandidate n root partner taken p → AreTaken n root partner new
unfolding AreTaken
one_more n root partner taken new p e are is = subst (AreTaken n root partner) (sym e) (is, are)

pub no_window : (n : Net) (root : ℕ) (partner : Option ℕ) (count : ℕ) (taken : List ℕ) (w : Window) →
    AreTaken n root partner taken → length taken < count → ((p : ℕ) → IsGrowthCandidate n root partner taken p → ⊥) →
    IsWindow n root partner count w → ⊥
no_window n root partner count taken w are few none is = let most : count ≤ length taken = window_size n root partner count taken w are none is in omega (arith, most, few)
