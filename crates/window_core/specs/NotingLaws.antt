-- How the index of a net is filled.
use Rattle.std.specs.Prelude.{◌≡◌, ℕ, zero, suc, ◌+◌, ◌≤◌, ◌<◌, true, false, min, if◌then◌else◌, List, [], ◌∷◌, ◌++◌, length, take, slice_get, slice_index_or, Some, ◌⊎◌, refl}
use Rattle.std.proofs.Common.{arith, sym, ◌∙◌, ap, subst, inl, inr, ⊎_elim}
use Rattle.std.proofs.lemmas.Bool.{cond-true, cond-false, eqb-true, eq-eqb, cases_Bool, cases_eq, both_ways}
use Rattle.std.proofs.lemmas.List.{length-append}
use Rattle.std.proofs.lemmas.Option.{slice_get_within, slice_get-get_or}
use Rattle.net_theory.specs.declared.data.Sig.{Sig}
use Rattle.net_theory.specs.declared.data.Sig.TheVariants as sigs
use Rattle.net_theory.specs.declared.data.Gate.{Gate}
use Rattle.net_theory.specs.Net.{Net, IsNet, IsSigBelow, end_of}
use Rattle.net_theory.specs.Reach.{is_node, ReadsNode}
use Rattle.window_theory.specs.Paths.{IsGate, Reads}
use Rattle.window_theory.specs.FaninConeLaws.{gate_one}
use Rattle.window_core.specs.declared.fanouts.Nearest.{Nearest}
use Rattle.window_core.specs.Fanouts.{named_by, named_by_gate, named_by_sinks, sum_gates, uses_of, node_of, IsEarlier, IsEarlierOf}
use Rattle.window_core.specs.Noting.{IsOperandBelow, AreBefore, AreGrown, IsCounting, IsNotedFanout, HasNoted, AreNoted}

-- ---- counting

-- for numbers where 255 stands for all from 255 on
min_more : (x more rest : ℕ) → min (min (x + more) 255 + rest) 255 ≡ min (x + (more + rest)) 255
min_more x more rest = omega arith

min_small : (x : ℕ) → x < 256 → min (x + 0) 255 ≡ x
min_small x low = omega arith

pub counting_step : (all left rest more : ℕ → ℕ) (old now next : List ℕ) → ((p : ℕ) → left p ≡ more p + rest p) → AreGrown more now next → IsCounting all left old now → IsCounting all rest old next
counting_step all left rest more old now next parts grown was =
    record {
      size = grown.size ∙ was.size;
      each = λ p low.
          ap (λ (k : ℕ). min (k + rest p) 255) (grown.each p (subst (λ (end : ℕ). p < end) (sym was.size) low))
          ∙ min_more (slice_index_or now p 0) (more p) (rest p)
          ∙ ap (λ (k : ℕ). min (slice_index_or now p 0 + k) 255) (sym (parts p))
          ∙ was.each p low;
    }

pub counting_end : (all left : ℕ → ℕ) (old now : List ℕ) → ((p : ℕ) → left p ≡ 0) → ((p : ℕ) → slice_index_or now p 0 < 256) → IsCounting all left old now → AreGrown all old now
counting_end all left old now none small was =
    record {
      size = was.size;
      each = λ p low.
          sym (min_small (slice_index_or now p 0) (small p))
          ∙ ap (λ (k : ℕ). min (slice_index_or now p 0 + k) 255) (sym (none p))
          ∙ was.each p low;
    }

-- ---- by gates and sinks

pub sum_none : (count : ℕ → Gate → ℕ) (node : ℕ) (gs : List Gate) → length gs ≡ 0 → sum_gates count node gs ≡ 0
unfolding sum_gates
sum_none count node [] e = refl
sum_none count node (g ∷ gs) e = absurd (omega (arith, e))

-- where the node doesn't matter
pub sum_anywhere : (count : Gate → ℕ) (here there : ℕ) (gs : List Gate) → sum_gates (λ q g. count g) here gs ≡ sum_gates (λ q g. count g) there gs
unfolding sum_gates
sum_anywhere count here there [] = refl
sum_anywhere count here there (g ∷ gs) = ap (λ (k : ℕ). count g + k) (sum_anywhere count (here + 1) (there + 1) gs)

pub sum_first : (count : Gate → ℕ) (gs : List Gate) (g : Gate) (rest : List Gate) → gs ≡ g ∷ rest → sum_gates (λ q x. count x) 0 gs ≡ count g + sum_gates (λ q x. count x) 0 rest
unfolding sum_gates
sum_first count gs g rest parts = ap (sum_gates (λ q x. count x) 0) parts ∙ ap (λ (k : ℕ). count g + k) (sum_anywhere count (0 + 1) 0 rest)

pub sinks_none : (p : ℕ) (ss : List Sig) → length ss ≡ 0 → named_by_sinks p ss ≡ 0
unfolding named_by_sinks
sinks_none p [] e = refl
sinks_none p (s ∷ ss) e = absurd (omega (arith, e))

pub sinks_first : (p : ℕ) (ss : List Sig) (s : Sig) (rest : List Sig) → ss ≡ s ∷ rest → named_by_sinks p ss ≡ named_by p s + named_by_sinks p rest
unfolding named_by_sinks
sinks_first p ss s rest parts = ap (named_by_sinks p) parts

add_apart : (a b c : ℕ) → a + b + c ≡ a + (b + c)
add_apart a b c = omega arith

pub gates_step : (all : ℕ → ℕ) (gs : List Gate) (g : Gate) (rest : List Gate) (old now mid next : List ℕ) →
    gs ≡ g ∷ rest → AreGrown (λ p. named_by p g.a) now mid → AreGrown (λ p. named_by p g.b) mid next
    → IsCounting all (λ p. sum_gates (λ q x. named_by_gate p x) 0 gs) old now → IsCounting all (λ p. sum_gates (λ q x. named_by_gate p x) 0 rest) old next
gates_step all gs g rest old now mid next parts first second was =
    let left : ℕ → ℕ = λ p. sum_gates (λ q x. named_by_gate p x) 0 rest in
    counting_step all (λ p. named_by p g.b + left p) left (λ p. named_by p g.b) old mid next (λ p. refl) second
    (counting_step all (λ p. sum_gates (λ q x. named_by_gate p x) 0 gs) (λ p. named_by p g.b + left p) (λ p. named_by p g.a) old now mid
    (λ p. sum_first (named_by_gate p) gs g rest parts ∙ add_apart (named_by p g.a) (named_by p g.b) (left p)) first was)

pub before_first : (end : ℕ) (gs : List Gate) (g : Gate) (rest : List Gate) → gs ≡ g ∷ rest → AreBefore end gs → IsOperandBelow end g.a × IsOperandBelow end g.b
before_first end gs g rest parts all =
    let at : slice_get gs 0 ≡ Some g = ap (λ (xs : List Gate). slice_get xs 0) parts in (all.first 0 g at, all.second 0 g at)

pub before_rest : (end : ℕ) (gs : List Gate) (g : Gate) (rest : List Gate) → gs ≡ g ∷ rest → AreBefore end gs → AreBefore end rest
before_rest end gs g rest parts all =
    let at : (i : ℕ) (x : Gate) → slice_get rest i ≡ Some x → slice_get gs (suc i) ≡ Some x = λ i x e. ap (λ (xs : List Gate). slice_get xs (suc i)) parts ∙ e in
    record { first = λ i x e. all.first (suc i) x (at i x e); second = λ i x e. all.second (suc i) x (at i x e) }

-- ---- last fanouts

reads_test : (p : ℕ) (g : Gate) → ReadsNode g p → (is_node p g.a ≡ true) ⊎ (is_node p g.b ≡ true)
reads_test p g reads = ⊎_elim (λ a. inl (ap (is_node p) a ∙ eq-eqb p p refl)) (λ b. inr (ap (is_node p) b ∙ eq-eqb p p refl)) reads

pub node_is : (p : ℕ) (s : Sig) → is_node p s ≡ true → s ≡ sigs.Node p
node_is p sigs.Zero e = absurd cc
node_is p sigs.One e = absurd cc
node_is p (sigs.Node q) e = ap sigs.Node (eqb-true q p e)

-- the node after the first i gates, and the next one
next_above : (sources i : ℕ) → sources + 1 + i < sources + 1 + (i + 1)
next_above sources i = omega arith

next_most : (sources i x : ℕ) → x < sources + 1 + (i + 1) → x ≤ sources + 1 + i
next_most sources i x low = omega arith

next_more : (sources i x : ℕ) → x < sources + 1 + i → x < sources + 1 + (i + 1)
next_more sources i x low = omega arith

next_other : (sources i x : ℕ) → x < sources + 1 + (i + 1) → (x ≡ sources + 1 + i → ⊥) → x < sources + 1 + i
next_other sources i x low other = omega arith

-- the new last fanout of a node: the gate if it reads the node, else the last one before it
after_both : (n : Net) (i : ℕ) (g : Gate) (p was mid now : ℕ) → slice_get n.gates i ≡ Some g →
    IsEarlier n (n.sources + 1 + i) p was → mid ≡ (if is_node p g.a then n.sources + 1 + i else was) →
    now ≡ (if is_node p g.b then n.sources + 1 + i else mid) → IsEarlier n (n.sources + 1 + (i + 1)) p now
after_both n i g p was mid now at before first second =
    let node : ℕ = n.sources + 1 + i in
    let own : IsGate n node = record { index = i; gate = g; at = at; node = refl } in
    let it_is : ReadsNode g p → now ≡ node → IsEarlier n (n.sources + 1 + (i + 1)) p now = λ reads e.
    subst (IsEarlier n (n.sources + 1 + (i + 1)) p) (sym e) (record {
      found = inr (record { fanout = own; reads = reads }, next_above n.sources i);
      most = λ x r low. next_most n.sources i x low;
    }) in
    ⊎_elim
    (λ (b_is : is_node p g.b ≡ true). it_is (inr (node_is p g.b b_is)) (second ∙ cond-true (is_node p g.b) node mid b_is))
    (λ (b_off : is_node p g.b ≡ false). ⊎_elim
    (λ (a_is : is_node p g.a ≡ true). it_is (inl (node_is p g.a a_is)) (second ∙ cond-false (is_node p g.b) node mid b_off ∙ first ∙ cond-true (is_node p g.a) node was a_is))
    (λ (a_off : is_node p g.a ≡ false).
    let same : now ≡ was = second ∙ cond-false (is_node p g.b) node mid b_off ∙ first ∙ cond-false (is_node p g.a) node was a_off in
    subst (IsEarlier n (n.sources + 1 + (i + 1)) p) (sym same) (record {
      found = ⊎_elim (λ none. inl none) (λ r. inr (r.0, next_more n.sources i was r.1)) before.found;
      most = λ x r low.
          ⊎_elim
          (λ (here : x ≡ node).
          let r_own : Reads n node p = subst (λ (y : ℕ). Reads n y p) here r in
          let reads : ReadsNode g p = subst (λ (y : Gate). ReadsNode y p) (gate_one n node r_own.fanout own) r_own.reads in
          absurd (⊎_elim (λ a. both_ways (is_node p g.a) a_off a) (λ b. both_ways (is_node p g.b) b_off b) (reads_test p g reads)))
          (λ other. before.most x r (next_other n.sources i x low other))
          (cases_eq x node);
    }))
    (cases_Bool (is_node p g.a)))
    (cases_Bool (is_node p g.b))

pub noted_more : (n : Net) (i : ℕ) (g : Gate) (node : ℕ) (last mid next : List ℕ) → slice_get n.gates i ≡ Some g →
    node ≡ n.sources + 1 + i → IsNotedFanout g.a node last mid → IsNotedFanout g.b node mid next → HasNoted n i last →
    HasNoted n (i + 1) next
noted_more n i g node last mid next at node_is first second was =
    record {
      size = second.size ∙ first.size ∙ was.size;
      each = λ p low.
          after_both n i g p (slice_index_or last p 0) (slice_index_or mid p 0) (slice_index_or next p 0) at (was.each p low)
          (subst (λ (q : ℕ). slice_index_or mid p 0 ≡ (if is_node p g.a then q else slice_index_or last p 0)) node_is (first.each p (subst (λ (end : ℕ). p < end) (sym was.size) low)))
          (subst (λ (q : ℕ). slice_index_or next p 0 ≡ (if is_node p g.b then q else slice_index_or mid p 0)) node_is (second.each p (subst (λ (end : ℕ). p < end) (sym (first.size ∙ was.size)) low)));
    }

-- the nodes of a net begin below its end
pub end_some : (n : Net) → 0 < end_of n
end_some n = omega arith

-- a node that a signal names, or 0 for a constant, is an index of the table
pub named_low : (end : ℕ) (s : Sig) → 0 < end → IsOperandBelow end s → node_of s < end
named_low end sigs.Zero some low = some
named_low end sigs.One some low = some
named_low end (sigs.Node p) some low = low

pub at_last : {A : Type 0} (xs : List A) (x : A) (j : ℕ) (y : A) → slice_get (xs ++ x ∷ []) j ≡ Some y → (slice_get xs j ≡ Some y) ⊎ ((j ≡ length xs) × (x ≡ y))
at_last [] x zero y e = inr (refl, cc)
at_last [] x (suc j) y e = absurd cc
at_last (z ∷ xs) x zero y e = inl e
at_last (z ∷ xs) x (suc j) y e = ⊎_elim (λ there. inl there) (λ r. inr (omega (arith, r.0), r.1)) (at_last xs x j y e)

pub some_same : {A : Type 0} (x y : A) → Some x ≡ Some y → x ≡ y
some_same x y e = cc

pub list_more : (n : Net) (i : ℕ) (g : Gate) (node : ℕ) (last mid next : List ℕ) (list new : List Nearest)
    (e : Nearest) → slice_get n.gates i ≡ Some g → node ≡ n.sources + 1 + i → IsOperandBelow (length last) g.a →
    IsOperandBelow (length last) g.b
    → e.first ≡ slice_index_or last (node_of g.a) 0 → e.second ≡ slice_index_or last (node_of g.b) 0 →
    IsNotedFanout g.a node last mid → IsNotedFanout g.b node mid next → new ≡ list ++ e ∷ [] →
    AreNoted n i last list → AreNoted n (i + 1) next new
list_more n i g node last mid next list new e at node_is low_a low_b first second noted_a noted_b is was =
    let some : 0 < length last = subst (λ (end : ℕ). 0 < end) (sym was.noted.size) (end_some n) in
    let own : IsEarlierOf n (n.sources + 1 + i) g e = record {
      first = subst (IsEarlier n (n.sources + 1 + i) (node_of g.a)) (sym first)
          (was.noted.each (node_of g.a) (subst (λ (end : ℕ). node_of g.a < end) was.noted.size
          (named_low (length last) g.a some low_a)));
      second = subst (IsEarlier n (n.sources + 1 + i) (node_of g.b)) (sym second)
          (was.noted.each (node_of g.b) (subst (λ (end : ℕ). node_of g.b < end) was.noted.size
          (named_low (length last) g.b some low_b)));
    } in
    record {
      noted = noted_more n i g node last mid next at node_is noted_a noted_b was.noted;
      size = ap (length {A = Nearest}) is ∙ length-append list (e ∷ []) ∙ ap (λ (k : ℕ). k + 1) was.size;
      each = λ j x y at_x at_y.
          ⊎_elim
          (λ there. was.each j x y at_x there)
          (λ r.
          let same : j ≡ i = r.0 ∙ was.size in
          let gate : g ≡ x = some_same g x (sym at ∙ ap (slice_get n.gates) (sym same) ∙ at_x) in
          subst (λ (k : ℕ). IsEarlierOf n (n.sources + 1 + k) x y) (sym same) (subst (IsEarlierOf n (n.sources + 1 + i) x) r.1 (subst (λ (z : Gate). IsEarlierOf n (n.sources + 1 + i) z e) gate own)))
          (at_last list e j y (ap (λ (xs : List Nearest). slice_get xs j) (sym is) ∙ at_y));
    }

low_end : (p node end : ℕ) → p < node → node ≤ end → p < end
low_end p node end below low = omega arith

gate_end : (sources i count end : ℕ) → i < count → end ≡ sources + 1 + count → sources + 1 + i ≤ end
gate_end sources i count end low is = omega arith

pub sig_before : (end node : ℕ) (s : Sig) → node ≤ end → IsSigBelow node s → IsOperandBelow end s
sig_before end node sigs.Zero low below = tt
sig_before end node sigs.One low below = tt
sig_before end node (sigs.Node p) low below = low_end p node end below.1 low

pub gates_before : (n : Net) (end : ℕ) → IsNet n → end ≡ end_of n → AreBefore end n.gates
gates_before n end net is =
    record {
      first = λ i g at. sig_before end (n.sources + 1 + i) g.a (gate_end n.sources i (length n.gates) end (slice_get_within n.gates i g at) is) (net.gates.each i g at).first;
      second = λ i g at. sig_before end (n.sources + 1 + i) g.b (gate_end n.sources i (length n.gates) end (slice_get_within n.gates i g at) is) (net.gates.each i g at).second;
    }

-- ---- the table of uses

pub take_prefix : {A : Type 0} (xs ys : List A) (n : ℕ) → length xs ≡ n → take n (xs ++ ys) ≡ xs
take_prefix [] ys zero e = refl
take_prefix [] ys (suc n) e = absurd (omega (arith, e))
take_prefix (x ∷ xs) ys zero e = absurd (omega (arith, e))
take_prefix (x ∷ xs) ys (suc n) e = ap (λ (zs : List _). x ∷ zs) (take_prefix xs ys n (omega (arith, e)))

add-zero-left : (k : ℕ) → 0 + k ≡ k
add-zero-left k = omega arith

pub uses_code : (more : ℕ → ℕ) (old new rest : List ℕ) (n end : ℕ) → length old ≡ n → n ≡ end →
    ((p : ℕ) → p < n → slice_index_or old p 0 ≡ 0) → AreGrown more old new → (p : ℕ) → p < end →
    slice_index_or (take n (new ++ rest)) p 0 ≡ min (more p) 255
uses_code more old new rest n end size all zeros grown p low =
    ap (λ (xs : List ℕ). slice_index_or xs p 0) (take_prefix new rest n (grown.size ∙ size))
    ∙ grown.each p (subst (λ (k : ℕ). p < k) (sym (size ∙ all)) low)
    ∙ ap (λ (k : ℕ). min (k + more p) 255) (zeros p (subst (λ (k : ℕ). p < k) (sym all) low))
    ∙ ap (λ (k : ℕ). min k 255) (add-zero-left (more p))

-- all uses are those by gates and those by sinks
pub grown_both : (n : Net) (old mid new : List ℕ) →
    AreGrown (λ p. sum_gates (λ q g. named_by_gate p g) 0 n.gates) old mid →
    AreGrown (λ p. named_by_sinks p n.sinks) mid new → AreGrown (uses_of n) old new
grown_both n old mid new first second =
    record {
      size = second.size ∙ first.size;
      each = λ p low.
          second.each p (subst (λ (end : ℕ). p < end) (sym first.size) low)
          ∙ ap (λ (k : ℕ). min (k + named_by_sinks p n.sinks) 255) (first.each p low)
          ∙ min_more (slice_index_or old p 0) (sum_gates (λ q g. named_by_gate p g) 0 n.gates) (named_by_sinks p n.sinks)
          ∙ ap (λ (k : ℕ). min (slice_index_or old p 0 + (k + named_by_sinks p n.sinks)) 255) (sum_anywhere (named_by_gate p) 0 (n.sources + 1) n.gates);
    }

pub list_code : (n : Net) (gates : List Gate) (i : ℕ) (g : Gate) (node sources : ℕ) (last mid next : List ℕ)
    (list new : List Nearest) (e : Nearest) → IsNet n → gates ≡ n.gates → i < length gates →
    g ≡ slice_index_or gates i g → sources ≡ n.sources → node ≡ sources + 1 + i
    → e.first ≡ slice_index_or last (node_of g.a) 0 → e.second ≡ slice_index_or last (node_of g.b) 0 →
    IsNotedFanout g.a node last mid → IsNotedFanout g.b node mid next → new ≡ list ++ e ∷ [] →
    AreNoted n i last list → AreNoted n (i + 1) next new
list_code n gates i g node sources last mid next list new e net same low is sources_is node_is first second noted_a noted_b grown was =
    let at : slice_get n.gates i ≡ Some g = ap (λ (xs : List Gate). slice_get xs i) (sym same) ∙ slice_get-get_or gates i g low ∙ ap Some (sym is) in
    let before : AreBefore (length last) n.gates = gates_before n (length last) net was.noted.size in
    list_more n i g node last mid next list new e at (node_is ∙ ap (λ (k : ℕ). k + 1 + i) sources_is) (before.first i g at) (before.second i g at) first second noted_a noted_b grown was

-- the operands of the gate at an index of the list, and the lists after the last gate
pub operands_before : (n : Net) (gates : List Gate) (i : ℕ) (g : Gate) (last : List ℕ) → IsNet n → gates ≡ n.gates →
    i < length gates → g ≡ slice_index_or gates i g → length last ≡ end_of n → IsOperandBelow (length last) g.a ×
    IsOperandBelow (length last) g.b
operands_before n gates i g last net same low is size =
    let at : slice_get n.gates i ≡ Some g = ap (λ (xs : List Gate). slice_get xs i) (sym same) ∙ slice_get-get_or gates i g low ∙ ap Some (sym is) in
    let before : AreBefore (length last) n.gates = gates_before n (length last) net size in
    (before.first i g at, before.second i g at)

pub some_nodes : (n : Net) (last : List ℕ) → length last ≡ end_of n → 0 < length last
some_nodes n last size = subst (λ (end : ℕ). 0 < end) (sym size) (end_some n)

same_number : (i count : ℕ) → count ≤ i → i ≤ count → i ≡ count
same_number i count high low = omega arith

pub noted_all : (n : Net) (gates : List Gate) (i : ℕ) (last : List ℕ) (list : List Nearest) → gates ≡ n.gates →
    length gates ≤ i → i ≤ length gates → AreNoted n i last list → AreNoted n (length n.gates) last list
noted_all n gates i last list same high low was =
    subst (λ (k : ℕ). AreNoted n k last list) (same_number i (length gates) high low ∙ ap (length {A = Gate}) same) was
