-- Either all references of a node are from the gates inside, or some are from outside.
use Rattle.std.specs.Prelude.{◌≡◌, ℕ, zero, suc, ◌+◌, ◌≤◌, ◌<◌, Bool, true, false, min, if◌then◌else◌, nat_eq, List, [], ◌∷◌, ◌++◌, length, slice_get, Some, refl}
use Rattle.std.specs.List.{list_any}
use Rattle.std.proofs.Common.{arith, sym, ◌∙◌, ap, subst, inl, inr, ⊎_elim, ◌≢◌}
use Rattle.std.proofs.lemmas.Bool.{cond-true, cond-false, eqb-true, eq-eqb, ne_eqb, or_left, or_right, or_cases, cases_Bool, cases_eq, both_ways}
use Rattle.std.proofs.lemmas.List.{length-append}
use Rattle.net_theory.specs.declared.data.Sig.{Sig}
use Rattle.net_theory.specs.declared.data.Sig.TheVariants as sigs
use Rattle.net_theory.specs.declared.data.Gate.{Gate}
use Rattle.net_theory.specs.Net.{Net}
use Rattle.net_theory.specs.Reach.{is_node, is_sink, ReadsNode}
use Rattle.window_theory.specs.Nodes.{among, IsRising, AreJust}
use Rattle.window_theory.specs.NodeLaws.{among_cases, among_first, among_later}
use Rattle.window_theory.specs.Paths.{IsGate}
use Rattle.window_theory.specs.Window.{IsReadOutside, IsOutput}
use Rattle.window_core.specs.Gates.{IsGateOf}
use Rattle.window_core.specs.Fanouts.{named_by, named_by_gate, named_by_sinks, sum_gates, uses_of}
use Rattle.window_core.specs.Seen.{inside_of, AreCounted, AreShown}
use Rattle.window_core.specs.GrowingLaws.{of_reads}
use Rattle.window_core.specs.PartnerSearchLaws.{among_end, end_among, prefix_among, rising_end}

-- ---- sums over gates

-- a sum of two is the sum of both
sum_both : (f g h : ℕ → Gate → ℕ) (node : ℕ) (gs : List Gate) → ((q : ℕ) (x : Gate) → h q x ≡ f q x + g q x) → sum_gates h node gs ≡ sum_gates f node gs + sum_gates g node gs
unfolding sum_gates
sum_both f g h node [] both = refl
sum_both f g h node (x ∷ gs) both = omega (arith, both node x, sum_both f g h (node + 1) gs both)

sum_zero : (f : ℕ → Gate → ℕ) (node : ℕ) (gs : List Gate) → ((q : ℕ) (x : Gate) → node ≤ q → f q x ≡ 0) → sum_gates f node gs ≡ 0
unfolding sum_gates
sum_zero f node [] none = refl
sum_zero f node (x ∷ gs) none = omega (arith, none node x (omega arith), sum_zero f (node + 1) gs (λ q y low. none q y (omega (arith, low))))

-- a sum that isn't 0 has an item that isn't
sum_found : (f : ℕ → Gate → ℕ) (node : ℕ) (gs : List Gate) → sum_gates f node gs ≢ 0 → (i : ℕ) × (x : Gate) × (slice_get gs i ≡ Some x) × (f (node + i) x ≢ 0)
unfolding sum_gates
sum_found f node [] some = absurd (some refl)
sum_found f node (x ∷ gs) some =
    ⊎_elim
    (λ (none : f node x ≡ 0).
    let rest = sum_found f (node + 1) gs (λ e. some (omega (arith, none, e))) in
    let e : (node + 1) + rest.0 ≡ node + suc rest.0 = omega arith in
    (suc rest.0, rest.1, rest.2, subst (λ (q : ℕ). f q rest.1 ≢ 0) e rest.3))
    (λ (here : f node x ≢ 0). let e : node ≡ node + 0 = omega arith in (0, x, refl, subst (λ (q : ℕ). f q x ≢ 0) e here))
    (cases_eq (f node x) 0)

-- an item is no more than the sum
sum_has : (f : ℕ → Gate → ℕ) (node : ℕ) (gs : List Gate) (i : ℕ) (x : Gate) → slice_get gs i ≡ Some x → f (node + i) x ≤ sum_gates f node gs
unfolding sum_gates
sum_has f node [] i x at = absurd cc
sum_has f node (y ∷ gs) zero x at =
    let same : y ≡ x = cc in
    let e : node + 0 ≡ node = omega arith in
    let here : f (node + 0) x ≡ f node y = ap (λ (q : ℕ). f q x) e ∙ ap (f node) (sym same) in
    omega (arith, here)
sum_has f node (y ∷ gs) (suc i) x at =
    let e : node + suc i ≡ (node + 1) + i = omega arith in
    let here : f (node + suc i) x ≡ f ((node + 1) + i) x = ap (λ (q : ℕ). f q x) e in
    omega (arith, here, sum_has f (node + 1) gs i x at)

-- the sum over one node is its gate's item
sum_one : (f : Gate → ℕ) (y node : ℕ) (gs : List Gate) (i : ℕ) (x : Gate) → slice_get gs i ≡ Some x → node + i ≡ y → sum_gates (λ q g. if nat_eq q y then f g else 0) node gs ≡ f x
unfolding sum_gates
sum_one f y node [] i x at is = absurd cc
sum_one f y node (z ∷ gs) zero x at is =
    let same : z ≡ x = cc in
    let here : (if nat_eq node y then f z else 0) ≡ f z = cond-true (nat_eq node y) (f z) 0 (eq-eqb node y (omega (arith, is))) in
    let rest : sum_gates (λ q g. if nat_eq q y then f g else 0) (node + 1) gs ≡ 0 =
    sum_zero (λ q g. if nat_eq q y then f g else 0) (node + 1) gs (λ q g low.
    cond-false (nat_eq q y) (f g) 0 (ne_eqb q y (omega (arith, is, low)))) in
    omega (arith, here, rest, ap f same)
sum_one f y node (z ∷ gs) (suc i) x at is =
    let here : (if nat_eq node y then f z else 0) ≡ 0 = cond-false (nat_eq node y) (f z) 0 (ne_eqb node y (omega (arith, is))) in
    omega (arith, here, sum_one f y (node + 1) gs i x at (omega (arith, is)))

-- ---- gates inside

off_list : (x : ℕ) (rest : List ℕ) → IsRising (x ∷ rest) → among rest x ≡ false
unfolding IsRising
off_list x rest rising = ⊎_elim (λ on. let above : x < x = rising.0 x on in absurd (omega (arith, above))) (λ off. off) (cases_Bool (among rest x))

-- at one node, a list with one more node has the node's item more
split_at : (x : ℕ) (rest : List ℕ) (q k : ℕ) → IsRising (x ∷ rest) → (if among (x ∷ rest) q then k else 0) ≡ (if nat_eq q x then k else 0) + (if among rest q then k else 0)
split_at x rest q k rising =
    ⊎_elim
    (λ (same : q ≡ x).
    let on : (if among (x ∷ rest) q then k else 0) ≡ k = cond-true (among (x ∷ rest) q) k 0 (or_left (nat_eq q x) (among rest q) (eq-eqb q x same)) in
    let here : (if nat_eq q x then k else 0) ≡ k = cond-true (nat_eq q x) k 0 (eq-eqb q x same) in
    let later : (if among rest q then k else 0) ≡ 0 = cond-false (among rest q) k 0 (ap (among rest) same ∙ off_list x rest rising) in
    omega (arith, on, here, later))
    (λ other.
    let here : (if nat_eq q x then k else 0) ≡ 0 = cond-false (nat_eq q x) k 0 (ne_eqb q x other) in
    ⊎_elim
    (λ (there : among rest q ≡ true).
    let on : (if among (x ∷ rest) q then k else 0) ≡ k = cond-true (among (x ∷ rest) q) k 0 (among_later x q rest there) in
    let later : (if among rest q then k else 0) ≡ k = cond-true (among rest q) k 0 there in
    omega (arith, on, here, later))
    (λ (off : among rest q ≡ false).
    let none : among (x ∷ rest) q ≡ false = ⊎_elim
    (λ on. absurd (⊎_elim (λ same. other same) (λ l. both_ways (among rest q) off l) (among_cases x q rest on)))
    (λ o. o) (cases_Bool (among (x ∷ rest) q)) in
    let on : (if among (x ∷ rest) q then k else 0) ≡ 0 = cond-false (among (x ∷ rest) q) k 0 none in
    let later : (if among rest q then k else 0) ≡ 0 = cond-false (among rest q) k 0 off in
    omega (arith, on, here, later))
    (cases_Bool (among rest q)))
    (cases_eq q x)

inside_none : (n : Net) (p : ℕ) → inside_of n [] p ≡ 0
unfolding inside_of
inside_none n p = sum_zero (λ q g. if among [] q then named_by_gate p g else 0) (n.sources + 1) n.gates (λ q x low. refl)

inside_first : (n : Net) (x : ℕ) (rest : List ℕ) (p : ℕ) (g : Gate) → IsRising (x ∷ rest) → IsGateOf n x g → inside_of n (x ∷ rest) p ≡ named_by_gate p g + inside_of n rest p
unfolding inside_of
inside_first n x rest p g rising of =
    let parts = sum_both (λ q y. if nat_eq q x then named_by_gate p y else 0)
    (λ q y. if among rest q then named_by_gate p y else 0)
    (λ q y. if among (x ∷ rest) q then named_by_gate p y else 0) (n.sources + 1) n.gates
    (λ q y. split_at x rest q (named_by_gate p y) rising) in
    let one = sum_one (named_by_gate p) x (n.sources + 1) n.gates of.index g of.at of.node in
    omega (arith, parts, one)

pub counted_more : (n : Net) (gates left : List ℕ) (x : ℕ) (rest : List ℕ) (p : ℕ) (g : Gate) (uses more : ℕ) →
    left ≡ x ∷ rest → IsGateOf n x g → more ≡ named_by_gate p g → more ≤ 2 → AreCounted n gates left p uses →
    AreCounted n gates rest p (uses + more)
unfolding IsRising
counted_more n gates left x rest p g uses more parts of is few was =
    let rising : IsRising (x ∷ rest) = subst IsRising parts was.rising in
    let size : length left ≡ length rest + 1 = ap (length {A = ℕ}) parts ∙ omega arith in
    record {
      within = λ q e. was.within q (ap (λ (xs : List ℕ). among xs q) parts ∙ among_later x q rest e);
      rising = rising.1;
      sum = omega (arith, is, inside_first n x rest p g rising of, ap (λ (xs : List ℕ). inside_of n xs p) parts, was.sum);
      few = omega (arith, few, size, was.few);
    }

no_length : (xs : List ℕ) → length xs ≡ 0 → xs ≡ []
no_length [] e = refl
no_length (x ∷ xs) e = absurd (omega (arith, e))

pub counted_end : (n : Net) (gates left : List ℕ) (p uses : ℕ) → length left ≡ 0 → AreCounted n gates left p uses → uses ≡ inside_of n gates p
counted_end n gates left p uses none was =
    omega (arith, was.sum, ap (λ (xs : List ℕ). inside_of n xs p) (no_length left none), inside_none n p)

-- ---- references from outside

node_is : (p : ℕ) (s : Sig) → is_node p s ≡ true → s ≡ sigs.Node p
node_is p sigs.Zero e = absurd cc
node_is p sigs.One e = absurd cc
node_is p (sigs.Node q) e = ap sigs.Node (eqb-true q p e)

node_test : (p : ℕ) (s : Sig) → s ≡ sigs.Node p → is_node p s ≡ true
node_test p s e = ap (is_node p) e ∙ eq-eqb p p refl

named_once : (p : ℕ) (s : Sig) → s ≡ sigs.Node p → named_by p s ≡ 1
named_once p s e = cond-true (is_node p s) 1 0 (node_test p s e)

-- a gate that names a node reads it
names_reads : (p : ℕ) (g : Gate) → named_by_gate p g ≢ 0 → ReadsNode g p
names_reads p g some =
    ⊎_elim
    (λ (a : is_node p g.a ≡ true). inl (node_is p g.a a))
    (λ (a_off : is_node p g.a ≡ false). ⊎_elim
    (λ (b : is_node p g.b ≡ true). inr (node_is p g.b b))
    (λ (b_off : is_node p g.b ≡ false).
    let none_a : named_by p g.a ≡ 0 = cond-false (is_node p g.a) 1 0 a_off in
    let none_b : named_by p g.b ≡ 0 = cond-false (is_node p g.b) 1 0 b_off in
    absurd (some (omega (arith, none_a, none_b))))
    (cases_Bool (is_node p g.b)))
    (cases_Bool (is_node p g.a))

reads_names : (p : ℕ) (g : Gate) → ReadsNode g p → 1 ≤ named_by_gate p g
reads_names p g reads = ⊎_elim (λ a. omega (arith, named_once p g.a a)) (λ b. omega (arith, named_once p g.b b)) reads

sinks_test : (p : ℕ) (ss : List Sig) → list_any (is_node p) ss ≡ true → 1 ≤ named_by_sinks p ss
unfolding named_by_sinks
sinks_test p [] e = absurd (let f : false ≡ true = e in cc)
sinks_test p (s ∷ ss) e =
    ⊎_elim
    (λ here. let one : named_by p s ≡ 1 = cond-true (is_node p s) 1 0 here in omega (arith, one))
    (λ later. omega (arith, sinks_test p ss later))
    (or_cases (is_node p s) (list_any (is_node p) ss) e)

tested_sinks : (p : ℕ) (ss : List Sig) → named_by_sinks p ss ≢ 0 → list_any (is_node p) ss ≡ true
unfolding named_by_sinks
tested_sinks p [] some = absurd (some refl)
tested_sinks p (s ∷ ss) some =
    ⊎_elim
    (λ here. or_left (is_node p s) (list_any (is_node p) ss) here)
    (λ off.
    let none : named_by p s ≡ 0 = cond-false (is_node p s) 1 0 off in
    or_right (is_node p s) (list_any (is_node p) ss) (tested_sinks p ss (λ e. some (omega (arith, none, e)))))
    (cases_Bool (is_node p s))

abbrev outside_of : Net → List ℕ → ℕ → ℕ
outside_of n gates p = sum_gates (λ q g. if among gates q then 0 else named_by_gate p g) (n.sources + 1) n.gates

-- all references by gates are those from inside and those from outside
both_sides : (n : Net) (gates : List ℕ) (p : ℕ) → sum_gates (λ q g. named_by_gate p g) (n.sources + 1) n.gates ≡ inside_of n gates p + outside_of n gates p
unfolding inside_of
both_sides n gates p =
    sum_both (λ q g. if among gates q then named_by_gate p g else 0) (λ q g. if among gates q then 0 else named_by_gate p g) (λ q g. named_by_gate p g) (n.sources + 1) n.gates
    (λ q g. one (among gates q) (named_by_gate p g)) where
      one : (t : Bool) (k : ℕ) → k ≡ (if t then k else 0) + (if t then 0 else k)
      one true k = omega arith
      one false k = omega arith

outside_reads : (n : Net) (gates : List ℕ) (p : ℕ) → outside_of n gates p ≢ 0 → IsReadOutside n gates p
outside_reads n gates p some =
    let found = sum_found (λ q g. if among gates q then 0 else named_by_gate p g) (n.sources + 1) n.gates some in
    let fanout : ℕ = n.sources + 1 + found.0 in
    let off : among gates fanout ≡ false = ⊎_elim (λ on. absurd (found.3 (cond-true (among gates fanout) 0 (named_by_gate p found.1) on))) (λ o. o) (cases_Bool (among gates fanout)) in
    let of : IsGateOf n fanout found.1 = record { index = found.0; at = found.2; node = refl } in
    record {
      fanout = fanout;
      outside = off;
      reads = of_reads n fanout p found.1 of (names_reads p found.1 (λ e. found.3 (cond-false (among gates fanout) 0 (named_by_gate p found.1) off ∙ e)));
    }

reads_outside : (n : Net) (gates : List ℕ) (p : ℕ) → IsReadOutside n gates p → 1 ≤ outside_of n gates p
reads_outside n gates p is =
    let gate : IsGate n is.fanout = is.reads.fanout in
    let has = sum_has (λ q g. if among gates q then 0 else named_by_gate p g) (n.sources + 1) n.gates gate.index gate.gate gate.at in
    let off : among gates (n.sources + 1 + gate.index) ≡ false = ap (among gates) gate.node ∙ is.outside in
    let here : (if among gates (n.sources + 1 + gate.index) then 0 else named_by_gate p gate.gate) ≡
    named_by_gate p gate.gate = cond-false (among gates (n.sources + 1 + gate.index)) 0
    (named_by_gate p gate.gate) off in
    omega (arith, has, here, reads_names p gate.gate is.reads.reads)

pub more_seen : (n : Net) (gates : List ℕ) (p inside all : ℕ) → inside ≡ inside_of n gates p → inside ≤ 48 → all ≡ min (uses_of n p) 255 → among gates p ≡ true → inside < all → IsOutput n gates p
unfolding is_sink
more_seen n gates p inside all inside_is few all_is on more =
    record {
      inside = on;
      seen = ⊎_elim
          (λ (none : outside_of n gates p ≡ 0).
          let some : named_by_sinks p n.sinks ≢ 0 = omega (arith, none, both_sides n gates p, inside_is, all_is, more) in
          inr (tested_sinks p n.sinks some))
          (λ some. inl (outside_reads n gates p some))
          (cases_eq (outside_of n gates p) 0);
    }

pub seen_more : (n : Net) (gates : List ℕ) (p inside all : ℕ) → inside ≡ inside_of n gates p → inside ≤ 48 → all ≡ min (uses_of n p) 255 → IsOutput n gates p → inside < all
unfolding is_sink
seen_more n gates p inside all inside_is few all_is is =
    ⊎_elim
    (λ read. let some : 1 ≤ outside_of n gates p = reads_outside n gates p read in omega (arith, some, both_sides n gates p, inside_is, all_is, few))
    (λ sink. let some : 1 ≤ named_by_sinks p n.sinks = sinks_test p n.sinks sink in omega (arith, some, both_sides n gates p, inside_is, all_is, few))
    is.seen

-- ---- all outputs

pub shown_start : (n : Net) (gates outputs : List ℕ) → IsRising gates → outputs ≡ [] → AreShown n gates gates outputs
unfolding IsRising
shown_start n gates outputs rising none = subst (AreShown n gates gates) (sym none) (record {
  within = λ q e. e;
  left_rising = rising;
  rising = tt;
  below = λ p q e f. absurd (let x : false ≡ true = e in cc);
  only = λ p e. absurd (let x : false ≡ true = e in cc);
  all = λ p is. inr is.inside;
  few = omega arith;
})

pub shown_on : (n : Net) (gates left : List ℕ) (x : ℕ) (rest outputs new : List ℕ) → left ≡ x ∷ rest →
    IsOutput n gates x → new ≡ outputs ++ x ∷ [] → AreShown n gates left outputs → AreShown n gates rest new
unfolding IsRising
shown_on n gates left x rest outputs new parts is new_is was =
    let rising : IsRising (x ∷ rest) = subst IsRising parts was.left_rising in
    let at : (q : ℕ) → among (x ∷ rest) q ≡ true → among left q ≡ true = λ q e. ap (λ (xs : List ℕ). among xs q) parts ∙ e in
    let size : length left ≡ length rest + 1 = ap (length {A = ℕ}) parts ∙ omega arith in
    let longer : length (outputs ++ x ∷ []) ≡ length outputs + 1 = length-append outputs (x ∷ []) in
    subst (AreShown n gates rest) (sym new_is) (record {
      within = λ q e. was.within q (at q (among_later x q rest e));
      left_rising = rising.1;
      rising = rising_end outputs x was.rising (λ q e. was.below q x e (at x (among_first x rest)));
      below = λ p q e f. ⊎_elim (λ there. was.below p q there (at q (among_later x q rest f))) (λ (same : p ≡ x).
          let above : x < q = rising.0 q f in omega (arith, same, above)) (among_end outputs x p e);
      only = λ p e. ⊎_elim (λ there. was.only p there) (λ same. subst (IsOutput n gates) (sym same) is) (among_end outputs x p e);
      all = λ p out. ⊎_elim
          (λ there. inl (prefix_among outputs x p there))
          (λ here. ⊎_elim
          (λ (same : p ≡ x). inl (subst (λ (z : ℕ). among (outputs ++ x ∷ []) z ≡ true) (sym same) (end_among outputs x)))
          (λ later. inr later)
          (among_cases x p rest (ap (λ (xs : List ℕ). among xs p) (sym parts) ∙ here)))
          (was.all p out);
      few = omega (arith, longer, size, was.few);
    })

pub shown_off : (n : Net) (gates left : List ℕ) (x : ℕ) (rest outputs : List ℕ) → left ≡ x ∷ rest → (IsOutput n gates x → ⊥) → AreShown n gates left outputs → AreShown n gates rest outputs
unfolding IsRising
shown_off n gates left x rest outputs parts none was =
    let rising : IsRising (x ∷ rest) = subst IsRising parts was.left_rising in
    let at : (q : ℕ) → among (x ∷ rest) q ≡ true → among left q ≡ true = λ q e. ap (λ (xs : List ℕ). among xs q) parts ∙ e in
    let size : length left ≡ length rest + 1 = ap (length {A = ℕ}) parts ∙ omega arith in
    record {
      within = λ q e. was.within q (at q (among_later x q rest e));
      left_rising = rising.1;
      rising = was.rising;
      below = λ p q e f. was.below p q e (at q (among_later x q rest f));
      only = was.only;
      all = λ p out. ⊎_elim
          (λ there. inl there)
          (λ here. ⊎_elim
          (λ (same : p ≡ x). absurd (none (subst (IsOutput n gates) same out)))
          (λ later. inr later)
          (among_cases x p rest (ap (λ (xs : List ℕ). among xs p) (sym parts) ∙ here)))
          (was.all p out);
      few = omega (arith, size, was.few);
    }

pub shown_end : (n : Net) (gates left outputs : List ℕ) → length left ≡ 0 → AreShown n gates left outputs → AreJust (IsOutput n gates) outputs
shown_end n gates left outputs none was =
    record {
      rising = was.rising;
      only = was.only;
      all = λ p out. ⊎_elim (λ there. there) (λ here. absurd (let e : false ≡ true = ap (λ (xs : List ℕ). among xs p) (sym (no_length left none)) ∙ here in cc)) (was.all p out);
    }

pub shown_inside : (n : Net) (gates left : List ℕ) (x : ℕ) (rest outputs : List ℕ) → left ≡ x ∷ rest → AreShown n gates left outputs → among gates x ≡ true
shown_inside n gates left x rest outputs parts was = was.within x (ap (λ (xs : List ℕ). among xs x) parts ∙ among_first x rest)
