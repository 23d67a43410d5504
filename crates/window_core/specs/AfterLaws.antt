-- How the index of a net gets the fanouts above each gate, from the last gate on.
use Rattle.std.specs.Prelude.{◌≡◌, ℕ, ◌+◌, ◌-◌, ◌≤◌, ◌<◌, true, false, if◌then◌else◌, List, [], ◌∷◌, ◌++◌, length, slice_get, slice_index_or, Some, ◌⊎◌, refl}
use Rattle.std.proofs.Common.{arith, sym, ◌∙◌, ap, subst, inl, inr, ⊎_elim}
use Rattle.std.proofs.lemmas.Bool.{cond-true, cond-false, eq-eqb, cases_Bool, cases_eq, both_ways}
use Rattle.std.proofs.lemmas.List.{length-append}
use Rattle.std.proofs.lemmas.Option.{slice_get-get_or}
use Rattle.net_theory.specs.declared.data.Gate.{Gate}
use Rattle.net_theory.specs.Net.{Net, IsNet}
use Rattle.net_theory.specs.Reach.{is_node, ReadsNode}
use Rattle.window_theory.specs.Paths.{IsGate, Reads}
use Rattle.window_theory.specs.FaninConeLaws.{gate_one}
use Rattle.window_theory.specs.WindowLaws.{gate_high}
use Rattle.window_core.specs.declared.fanouts.Nearest.{Nearest}
use Rattle.window_core.specs.Gates.{IsGateOf}
use Rattle.window_core.specs.Fanouts.{node_of, IsLater, IsLaterOf, AreLater}
use Rattle.window_core.specs.Noting.{IsOperandBelow, AreBefore, IsNotedFanout, HasFirst, AreAfter}
use Rattle.window_core.specs.NotingLaws.{node_is, named_low, at_last, some_same, gates_before, end_some}

reads_test : (p : ℕ) (g : Gate) → ReadsNode g p → (is_node p g.a ≡ true) ⊎ (is_node p g.b ≡ true)
reads_test p g reads = ⊎_elim (λ a. inl (ap (is_node p) a ∙ eq-eqb p p refl)) (λ b. inr (ap (is_node p) b ∙ eq-eqb p p refl)) reads

-- ---- one gate more

-- the new first fanout of a node: the gate if it reads the node, else the first one above the gate
before_both : (n : Net) (i : ℕ) (g : Gate) (p was mid now : ℕ) → slice_get n.gates i ≡ Some g →
    IsLater n (n.sources + 1 + (i + 1)) p was → mid ≡ (if is_node p g.a then n.sources + 1 + i else was) →
    now ≡ (if is_node p g.b then n.sources + 1 + i else mid) → IsLater n (n.sources + 1 + i) p now
before_both n i g p was mid now at above first second =
    let node : ℕ = n.sources + 1 + i in
    let own : IsGate n node = record { index = i; gate = g; at = at; node = refl } in
    let it_is : ReadsNode g p → now ≡ node → IsLater n node p now = λ reads e.
    subst (IsLater n node p) (sym e) (record {
      found = inr (record { fanout = own; reads = reads }, omega arith);
      most = λ x r low. (omega arith, low);
    }) in
    ⊎_elim
    (λ (b_is : is_node p g.b ≡ true). it_is (inr (node_is p g.b b_is)) (second ∙ cond-true (is_node p g.b) node mid b_is))
    (λ (b_off : is_node p g.b ≡ false). ⊎_elim
    (λ (a_is : is_node p g.a ≡ true). it_is (inl (node_is p g.a a_is)) (second ∙ cond-false (is_node p g.b) node mid b_off ∙ first ∙ cond-true (is_node p g.a) node was a_is))
    (λ (a_off : is_node p g.a ≡ false).
    let same : now ≡ was = second ∙ cond-false (is_node p g.b) node mid b_off ∙ first ∙ cond-false (is_node p g.a) node was a_off in
    subst (IsLater n node p) (sym same) (record {
      found = ⊎_elim (λ none. inl none) (λ r. inr (r.0, omega (arith, r.1))) above.found;
      most = λ x r low.
          ⊎_elim
          (λ (here : x ≡ node).
          let r_own : Reads n node p = subst (λ (y : ℕ). Reads n y p) here r in
          let reads : ReadsNode g p = subst (λ (y : Gate). ReadsNode y p) (gate_one n node r_own.fanout own) r_own.reads in
          absurd (⊎_elim (λ a. both_ways (is_node p g.a) a_off a) (λ b. both_ways (is_node p g.b) b_off b) (reads_test p g reads)))
          (λ other. above.most x r (omega (arith, low, other)))
          (cases_eq x node);
    }))
    (cases_Bool (is_node p g.a)))
    (cases_Bool (is_node p g.b))

first_more : (n : Net) (i : ℕ) (g : Gate) (node : ℕ) (first mid next : List ℕ) → slice_get n.gates i ≡ Some g →
    node ≡ n.sources + 1 + i → IsNotedFanout g.a node first mid → IsNotedFanout g.b node mid next →
    HasFirst n (i + 1) first → HasFirst n i next
first_more n i g node first mid next at node_at one two was =
    record {
      size = two.size ∙ one.size ∙ was.size;
      each = λ p low.
          before_both n i g p (slice_index_or first p 0) (slice_index_or mid p 0) (slice_index_or next p 0) at (was.each p low)
          (subst (λ (q : ℕ). slice_index_or mid p 0 ≡ (if is_node p g.a then q else slice_index_or first p 0)) node_at (one.each p (subst (λ (end : ℕ). p < end) (sym was.size) low)))
          (subst (λ (q : ℕ). slice_index_or next p 0 ≡ (if is_node p g.b then q else slice_index_or mid p 0)) node_at (two.each p (subst (λ (end : ℕ). p < end) (sym (one.size ∙ was.size)) low)));
    }

after_more : (n : Net) (taken i : ℕ) (g : Gate) (node : ℕ) (first mid next : List ℕ) (list new : List Nearest)
    (e : Nearest) → i + taken + 1 ≡ length n.gates → slice_get n.gates i ≡ Some g → node ≡ n.sources + 1 + i →
    IsOperandBelow (length first) g.a → IsOperandBelow (length first) g.b
    → e.first ≡ slice_index_or first (node_of g.a) 0 → e.second ≡ slice_index_or first (node_of g.b) 0 →
    IsNotedFanout g.a node first mid → IsNotedFanout g.b node mid next → new ≡ list ++ e ∷ [] →
    AreAfter n taken first list → AreAfter n (taken + 1) next new
after_more n taken i g node first mid next list new e sum at node_at low_a low_b one two noted_a noted_b is was =
    let left_is : was.left ≡ i + 1 = omega (arith, was.all, sum) in
    let noted : HasFirst n (i + 1) first = subst (λ (k : ℕ). HasFirst n k first) left_is was.noted in
    let some : 0 < length first = subst (λ (end : ℕ). 0 < end) (sym noted.size) (end_some n) in
    let above : n.sources + 1 + (i + 1) ≡ n.sources + 1 + i + 1 = omega arith in
    let own : IsLaterOf n (n.sources + 1 + i) g e = record {
      first = subst (IsLater n (n.sources + 1 + i + 1) (node_of g.a)) (sym one)
          (subst (λ (q : ℕ). IsLater n q (node_of g.a) (slice_index_or first (node_of g.a) 0)) above
          (noted.each (node_of g.a) (subst (λ (end : ℕ). node_of g.a < end) noted.size
          (named_low (length first) g.a some low_a))));
      second = subst (IsLater n (n.sources + 1 + i + 1) (node_of g.b)) (sym two)
          (subst (λ (q : ℕ). IsLater n q (node_of g.b) (slice_index_or first (node_of g.b) 0)) above
          (noted.each (node_of g.b) (subst (λ (end : ℕ). node_of g.b < end) noted.size
          (named_low (length first) g.b some low_b))));
    } in
    record {
      left = i;
      all = omega (arith, sum);
      noted = first_more n i g node first mid next at node_at noted_a noted_b noted;
      size = ap (length {A = Nearest}) is ∙ length-append list (e ∷ []) ∙ ap (λ (k : ℕ). k + 1) was.size;
      each = λ k j x y at_sum at_x at_y.
          ⊎_elim
          (λ there. was.each k j x y at_sum at_x there)
          (λ r.
          let same : k ≡ i = omega (arith, r.0, was.size, at_sum, sum) in
          let gate : g ≡ x = some_same g x (sym at ∙ ap (slice_get n.gates) (sym same) ∙ at_x) in
          subst (λ (m : ℕ). IsLaterOf n (n.sources + 1 + m) x y) (sym same) (subst (IsLaterOf n (n.sources + 1 + i) x) r.1 (subst (λ (z : Gate). IsLaterOf n (n.sources + 1 + i) z e) gate own)))
          (at_last list e j y (ap (λ (xs : List Nearest). slice_get xs j) (sym is) ∙ at_y));
    }

pub after_code : (n : Net) (gates : List Gate) (taken : ℕ) (g : Gate) (node sources : ℕ) (first mid next : List ℕ)
    (list new : List Nearest) (e : Nearest) → IsNet n → gates ≡ n.gates → taken < length gates →
    g ≡ slice_index_or gates (length gates - (taken + 1)) g → sources ≡ n.sources →
    node ≡ sources + 1 + (length gates - (taken + 1))
    → e.first ≡ slice_index_or first (node_of g.a) 0 → e.second ≡ slice_index_or first (node_of g.b) 0 →
    IsNotedFanout g.a node first mid → IsNotedFanout g.b node mid next → new ≡ list ++ e ∷ [] →
    AreAfter n taken first list → AreAfter n (taken + 1) next new
after_code n gates taken g node sources first mid next list new e net same low is sources_is node_at one two noted_a noted_b grown was =
    let i : ℕ = length gates - (taken + 1) in
    let inside : i < length gates = omega (arith, low) in
    let count : length gates ≡ length n.gates = ap (length {A = Gate}) same in
    let at : slice_get n.gates i ≡ Some g = ap (λ (xs : List Gate). slice_get xs i) (sym same) ∙ slice_get-get_or gates i g inside ∙ ap Some (sym is) in
    let before : AreBefore (length first) n.gates = gates_before n (length first) net was.noted.size in
    after_more n taken i g node first mid next list new e (omega (arith, low, count)) at (node_at
    ∙ ap (λ (k : ℕ). k + 1 + i) sources_is) (before.first i g at) (before.second i g at) one two noted_a noted_b
    grown was

pub after_all : (n : Net) (gates : List Gate) (taken : ℕ) (first : List ℕ) (list : List Nearest) → gates ≡ n.gates →
    length gates ≤ taken → AreAfter n taken first list → AreLater n list × HasFirst n 0 first
after_all n gates taken first list same high was =
    let count : length gates ≡ length n.gates = ap (length {A = Gate}) same in
    let done : was.left ≡ 0 = omega (arith, was.all, high, count) in
    (record { size = omega (arith, was.size, was.all, done); each = was.each }, subst (λ (k : ℕ). HasFirst n k first) done was.noted)

-- ---- what is looked up

-- from the first gate on
pub first_from : (n : Net) (p r : ℕ) → IsLater n (n.sources + 1 + 0) p r → IsLater n (n.sources + 1) p r
first_from n p r is = let same : n.sources + 1 + 0 ≡ n.sources + 1 = omega arith in subst (λ (q : ℕ). IsLater n q p r) same is

-- the entry of a gate
pub later_at : (n : Net) (list items : List Nearest) (node sources count : ℕ) (e : Nearest) → AreLater n list →
    items ≡ list → sources ≡ n.sources → count ≡ length n.gates → IsGate n node →
    e ≡ slice_index_or items (sources + count - node) e → (g : Gate) → IsGateOf n node g → IsLaterOf n node g e
later_at n list items node sources count e are same sources_is count_is gate is g of =
    let high = gate_high n node gate in
    let j : ℕ = sources + count - node in
    let low : j < length items = omega (arith, high.0, high.1, sources_is, count_is, are.size, ap (length {A = Nearest}) same) in
    let sum : of.index + j + 1 ≡ length n.gates = omega (arith, of.node, high.0, high.1, sources_is, count_is) in
    subst (λ (p : ℕ). IsLaterOf n p g e) of.node
    (are.each of.index j g e sum of.at (ap (λ (xs : List Nearest). slice_get xs j) (sym same) ∙ slice_get-get_or items j e low ∙ ap Some (sym is)))
