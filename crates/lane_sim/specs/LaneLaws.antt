-- The rows appended by the simulation hold the values of the cone.
use Rattle.std.proofs.Common.{◌≡◌, ◌∙◌, ℕ, zero, suc, ◌+◌, ◌-◌, ◌*◌, ◌^◌, replicate, take_all, take_at, ◌≤◌, ◌<◌, ◌≢◌}
use Rattle.std.proofs.Common.{Bool, true, false, List, [], ◌∷◌, ◌++◌, length, map, take, Some, refl, ap, sym, subst}
use Rattle.std.proofs.Common.{arith, get_or, length-append, append_assoc, append-nil, ⊎_elim, inl, inr, add-mul}
use Rattle.std.proofs.Common.{one-mul, suc-mul, mul_comm, mul-le-mul_right, ◌⊎◌, ◌||◌, eq-eqb}
use Rattle.std.specs.Prelude.{slice_get, if◌then◌else◌, ◌==◌, nat_eq}
use Rattle.std.specs.List.{list_any}
use Rattle.std.proofs.lemmas.Bool.{cond-true, cond-false, ne_eqb}
use Rattle.std.proofs.lemmas.Nat.{mul-add-lt}
use Rattle.std.proofs.lemmas.List.{get_or_append_left, length-replicate}
use Rattle.std.proofs.lemmas.Option.{slice_get_within}
use Rattle.chain_theory.specs.Operator.{digit, apply}
use Rattle.chain_theory.specs.Value.{extended}
use Rattle.net_theory.specs.declared.data.Sig.{Sig}
use Rattle.net_theory.specs.declared.data.Sig.TheVariants as sigs
use Rattle.net_theory.specs.declared.data.Gate.{Gate}
use Rattle.net_theory.specs.Net.{gate_value, sig_value}
use Rattle.op_basis.specs.declared.words.Masks.{Masks}
use Rattle.lane_sim.specs.declared.rows.Operand.{Operand}
use Rattle.lane_sim.specs.declared.rows.Operand.TheVariants as operands
use Rattle.op_basis.specs.WordOperator.{masks_of, combined}
use Rattle.lane_sim.specs.Combining.{operand_word, EndsBefore}
use Rattle.lane_sim.specs.Cone.{Cone, IsCone, IsGateOver, AreApart, node_of, nodes, leaf_bits, gates_after, value_in}
use Rattle.lane_sim.specs.Rows.{IsGateRowWritten, IsRowWritten, IsRowAppended, AreLanes, IsOperandOf, IsCombinedPut, IsGatePut, AreLeaves, AreGatesOf}
use Rattle.lane_sim.specs.RowLaws.{row_put}
use Rattle.op_basis.specs.WordOperatorLaws.{combined_bit, digit_spread}
use Rattle.lane_sim.specs.Words.{Words, AreWords, width_of}

-- ---- nodes in lists

some_same : {A : Type 0} (x y : A) → Some x ≡ Some y → x ≡ y
some_same x y e = cc

-- an element of a list with one more appended is of the list or is the last
pub at_last : {A : Type 0} (xs : List A) (x y : A) (k : ℕ) → slice_get (xs ++ x ∷ []) k ≡ Some y → ((k < length xs) × (slice_get xs k ≡ Some y)) ⊎ ((k ≡ length xs) × (y ≡ x))
at_last [] x y zero e = inr (refl, sym (some_same x y e))
at_last [] x y (suc k) e = absurd cc
at_last (z ∷ xs) x y zero e = inl (omega arith, e)
at_last (z ∷ xs) x y (suc k) e =
    ⊎_elim
    (λ (l : (k < length xs) × (slice_get xs k ≡ Some y)). inl (omega (arith, l.0), l.1))
    (λ (r : (k ≡ length xs) × (y ≡ x)). inr (ap suc r.0, r.1))
    (at_last xs x y k e)

-- appending doesn't change the elements at earlier indices
pub at_prefix : {A : Type 0} (xs ys : List A) (k : ℕ) (x : A) → slice_get xs k ≡ Some x → slice_get (xs ++ ys) k ≡ Some x
at_prefix [] ys k x e = absurd cc
at_prefix (z ∷ xs) ys zero x e = e
at_prefix (z ∷ xs) ys (suc k) x e = at_prefix xs ys k x e

-- the first remaining element
pub at_next : {A : Type 0} (xs : List A) (x : A) (ys : List A) → slice_get (xs ++ x ∷ ys) (length xs) ≡ Some x
at_next [] x ys = refl
at_next (z ∷ xs) x ys = at_next xs x ys

-- the next node isn't among those before it
pub is_new : (xs : List ℕ) (p : ℕ) (ys : List ℕ) → AreApart (xs ++ p ∷ ys) → (k q : ℕ) → slice_get xs k ≡ Some q → q ≢ p
is_new xs p ys apart k q at same =
    let here : slice_get (xs ++ p ∷ ys) k ≡ Some p = at_prefix xs (p ∷ ys) k q at ∙ ap Some same in
    let node : k ≡ length xs = apart k (length xs) p here (at_next xs p ys) in
    omega (arith, node, slice_get_within xs k q at)

pub not_among : (xs : List ℕ) (p : ℕ) → ((k q : ℕ) → slice_get xs k ≡ Some q → q ≢ p) → list_any (nat_eq p) xs ≡ false
not_among [] p new = refl
not_among (x ∷ xs) p new =
    let other : nat_eq p x ≡ false = ne_eqb p x (λ e. new 0 x refl (sym e)) in
    ap (λ (b : Bool). b || list_any (nat_eq p) xs) other ∙ not_among xs p (λ k q e. new (suc k) q e)

-- ---- one more row

pub one_more : (ps : List ℕ) (p : ℕ) (bits bits' : ℕ → ℕ → Bool) (width rows : ℕ) (old new : List ℕ) → rows ≤ 64 * width → AreLanes ps bits width rows old → length new ≡ length old + width
    → ((j b : ℕ) → j < width → b < 64 → 64 * j + b < rows →
    digit (get_or new (length old + j) 0) b ≡ bits' (64 * j + b) p) →
    ((k : ℕ) → k < length old → get_or new k 0 ≡ get_or old k 0) →
    ((row k q : ℕ) → slice_get ps k ≡ Some q → bits' row q ≡ bits row q)
    → AreLanes (ps ++ p ∷ []) bits' width rows new
one_more ps p bits bits' width rows old new wide are size here before same =
    let count : length (ps ++ p ∷ []) ≡ length ps + 1 = length-append ps (p ∷ []) in
    record {
      size = size ∙ ap (λ (n : ℕ). n + width) are.size ∙ sym (more (length ps) width) ∙ ap (λ (n : ℕ). n * width) (sym count);
      values = λ k q j b at low within.
          let low_j : j < width = omega (arith, within, wide) in
          ⊎_elim
          (λ (l : (k < length ps) × (slice_get ps k ≡ Some q)).
          let room : k * width + j < length old = subst (λ (n : ℕ). k * width + j < n) (sym are.size) (inside k j (length ps) width l.0 low_j) in
          ap (λ (w : ℕ). digit w b) (before (k * width + j) room) ∙ are.values k q j b l.1 low within ∙ sym (same (64 * j + b) k q l.1))
          (λ (r : (k ≡ length ps) × (q ≡ p)).
          let node : k * width + j ≡ length old + j = ap (λ (n : ℕ). n * width + j) r.0 ∙ ap (λ (n : ℕ). n + j) (sym are.size) in
          ap (λ (i : ℕ). digit (get_or new i 0) b) node ∙ here j b low_j low within ∙ ap (bits' (64 * j + b)) (sym r.1))
          (at_last ps p q k at);
    }
  where
    more : (n w : ℕ) → (n + 1) * w ≡ n * w + w
    more n w = add-mul n 1 w ∙ ap (λ (x : ℕ). n * w + x) (one-mul w)

    inside : (k j n w : ℕ) → k < n → j < w → k * w + j < n * w
    inside k j n w lk lj = subst (λ (x : ℕ). k * w + j < x) (mul_comm w n) (mul-add-lt k w j n lk lj)

-- ---- leaves

leaf_next : (done : List ℕ) (p : ℕ) (rest : List ℕ) (row : ℕ) → ((k q : ℕ) → slice_get done k ≡ Some q → q ≢ p) → leaf_bits (done ++ p ∷ rest) row p ≡ digit row (length rest)
unfolding leaf_bits
leaf_next [] p rest row new = cond-true (p == p) _ _ (eq-eqb p p refl)
leaf_next (q ∷ done) p rest row new =
    cond-false (p == q) _ _ (ne_eqb p q (λ e. new 0 q refl (sym e))) ∙ leaf_next done p rest row (λ k x e. new (suc k) x e)

pub leaves_none : (c : Cone) (width : ℕ) (keys lanes : List ℕ) → keys ≡ [] → lanes ≡ [] → AreLeaves c width keys lanes c.leaves
leaves_none c width keys lanes no_keys no_lanes = record {
  parts = ap (λ (ks : List ℕ). ks ++ c.leaves) no_keys;
  lanes = record {
    size =
        let none : length keys ≡ 0 = ap length no_keys in
        ap length no_lanes ∙ sym (ap (λ (n : ℕ). n * width) none ∙ nothing_times width);
    values = λ k p j b at low within. absurd (omega (arith, slice_get_within keys k p at, ap length no_keys));
  };
}
  where
    nothing_times : (w : ℕ) → 0 * w ≡ length {A = ℕ} []
    nothing_times w = omega arith

pub prefix_apart : (xs ys : List ℕ) → AreApart (xs ++ ys) → AreApart xs
prefix_apart xs ys apart i j p a b = apart i j p (at_prefix xs ys i p a) (at_prefix xs ys j p b)

pub leaf_new : (c : Cone) (width : ℕ) (keys lanes : List ℕ) (p : ℕ) (rest : List ℕ) → IsCone c → AreLeaves c width keys lanes (p ∷ rest) → (k q : ℕ) → slice_get keys k ≡ Some q → q ≢ p
leaf_new c width keys lanes p rest cone are =
    is_new keys p rest (subst AreApart (sym are.parts) (prefix_apart c.leaves (map node_of c.gates) cone.apart))

pub leaves_more : (c : Cone) (width : ℕ) (keys lanes : List ℕ) (p : ℕ) (rest new_lanes : List ℕ) → IsCone c →
    AreLeaves c width keys lanes (p ∷ rest) → IsRowAppended (λ row. digit row (length rest)) width lanes new_lanes →
    AreLeaves c width (keys ++ p ∷ []) new_lanes rest
leaves_more c width keys lanes p rest new_lanes cone are put =
    let right : (row : ℕ) → leaf_bits c.leaves row p ≡ digit row (length rest) =
    λ row. ap (λ (qs : List ℕ). leaf_bits qs row p) (sym are.parts) ∙ leaf_next keys p rest row (leaf_new c width keys lanes p rest cone are) in
    record {
      parts = append_assoc keys (p ∷ []) rest ∙ are.parts;
      lanes = one_more keys p (leaf_bits c.leaves) (leaf_bits c.leaves) width (64 * width) lanes new_lanes (omega arith) are.lanes put.size
          (λ j b low_j low within. put.here j b low_j low ∙ sym (right (64 * j + b)))
          put.before
          (λ row k q at. refl);
    }

-- ---- gates

pub gates_push : (bits : ℕ → Bool) (xs : List (ℕ × Gate)) (x : ℕ × Gate) → gates_after bits (xs ++ x ∷ []) ≡ extended (gates_after bits xs) x.0 (gate_value (gates_after bits xs) x.1)
unfolding gates_after
gates_push bits [] x = refl
gates_push bits (y ∷ ys) x = gates_push (extended bits y.0 (gate_value bits y.1)) ys x

-- a word of an operand
pub operand_bit : (ps : List ℕ) (bits : ℕ → ℕ → Bool) (width rows : ℕ) (lanes : List ℕ) (s : Sig) (o : Operand)
    (j b : ℕ) → AreLanes ps bits width rows lanes → IsOperandOf ps width s o → b < 64 → 64 * j + b < rows →
    digit (operand_word lanes o j) b ≡ sig_value (bits (64 * j + b)) s
operand_bit ps bits width rows lanes sigs.Zero o j b are is low within = ap (λ (x : Operand). digit (operand_word lanes x j) b) is ∙ digit_spread false b low
operand_bit ps bits width rows lanes sigs.One o j b are is low within = ap (λ (x : Operand). digit (operand_word lanes x j) b) is ∙ digit_spread true b low
operand_bit ps bits width rows lanes (sigs.Node p) o j b are is low within = ap (λ (x : Operand). digit (operand_word lanes x j) b) is.2 ∙ are.values is.0 p j b is.1 low within

-- an operand's row lies within the rows
pub operand_ends : (ps : List ℕ) (width end : ℕ) (s : Sig) (o : Operand) → IsOperandOf ps width s o → length ps * width ≤ end → EndsBefore end width o
operand_ends ps width end sigs.Zero o is room = subst (EndsBefore end width) (sym is) tt
operand_ends ps width end sigs.One o is room = subst (EndsBefore end width) (sym is) tt
operand_ends ps width end (sigs.Node p) o is room =
    subst (EndsBefore end width) (sym is.2) (omega (arith, room, row_ends is.0 (length ps) width (slice_get_within ps is.0 p is.1)))
  where
    mul-le : (k n w : ℕ) → k ≤ n → k * w ≤ n * w
    mul-le k n w le = mul-le-mul_right w le

    row_ends : (k n w : ℕ) → k < n → k * w + w ≤ n * w
    row_ends k n w low = omega (arith, suc-mul k w, mul-le (suc k) n w low)

gate_bit : (op x y b : ℕ) (g : Gate) (bits : ℕ → Bool) → b < 64 → op ≡ g.op → digit x b ≡ sig_value bits g.a → digit y b ≡ sig_value bits g.b → digit (combined (masks_of op) x y) b ≡ gate_value bits g
gate_bit op x y b g bits low same first second =
    combined_bit op x y b low
    ∙ ap (λ (o : ℕ). apply o (digit x b) (digit y b)) same
    ∙ ap (λ (z : Bool). apply g.op z (digit y b)) first
    ∙ ap (apply g.op (sig_value bits g.a)) second

-- appending zeros doesn't change any operand
resized_word : (old : List ℕ) (more : List ℕ) (end count : ℕ) (o : Operand) (j : ℕ) → EndsBefore end count o → end ≡ length old → j < count → operand_word (old ++ more) o j ≡ operand_word old o j
resized_word old more end count operands.Zero j ends e low = refl
resized_word old more end count operands.One j ends e low = refl
resized_word old more end count (operands.Row s) j ends e low = get_or_append_left old more 0 (s + j) (omega (arith, ends, e))

-- writing into appended words is appending the written row
combined_put : (op width : ℕ) (old more new : List ℕ) (a b : Operand) → length more ≡ width →
    EndsBefore (length old) width a → EndsBefore (length old) width b →
    IsGateRowWritten (masks_of op) a b (length old) width (old ++ more) new → IsCombinedPut op a b width old new
combined_put op width old more new a b long ends_a ends_b is =
    record {
      size = is.size ∙ length-append old more ∙ ap (λ (n : ℕ). length old + n) long;
      here = λ j low_j.
          is.here j low_j
          ∙ ap (λ (w : ℕ). combined (masks_of op) w (operand_word (old ++ more) b j)) (resized_word old more (length old) width a j ends_a refl low_j)
          ∙ ap (combined (masks_of op) (operand_word old a j)) (resized_word old more (length old) width b j ends_b refl low_j);
      before = λ k low. is.before k low ∙ get_or_append_left old more 0 k low;
    }

-- the operator applied to the operands' rows gives the gate's row
pub gate_put : (ps : List ℕ) (g : Gate) (width : ℕ) (old new : List ℕ) (a b : Operand) → IsOperandOf ps width g.a a →
    IsOperandOf ps width g.b b → IsCombinedPut g.op a b width old new → IsGatePut ps g width old new
gate_put ps g width old new a b first second is =
    record {
      size = is.size;
      here = λ bits rows are j i low_j low within.
          ap (λ (w : ℕ). digit w i) (is.here j low_j)
          ∙ gate_bit g.op (operand_word old a j) (operand_word old b j) i g (bits (64 * j + i)) low refl
          (operand_bit ps bits width rows old g.a a j i are first low within)
          (operand_bit ps bits width rows old g.b b j i are second low within);
      before = is.before;
    }

-- after all leaves, the gates begin
pub gates_none : (c : Cone) (width : ℕ) (keys lanes : List ℕ) → AreLeaves c width keys lanes [] → AreGatesOf c width (64 * width) keys lanes c.gates
unfolding gates_after
gates_none c width keys lanes are =
    let all : keys ≡ c.leaves = sym (append-nil keys) ∙ are.parts in
    record { done = []; parts = refl; keys = all ∙ sym (append-nil c.leaves); lanes = are.lanes }

map_parts : (xs ys : List (ℕ × Gate)) → map node_of (xs ++ ys) ≡ map node_of xs ++ map node_of ys
map_parts [] ys = refl
map_parts (x ∷ xs) ys = ap (λ (ps : List ℕ). x.0 ∷ ps) (map_parts xs ys)

-- the nodes of a cone, split at the next gate
pub nodes_next : (c : Cone) (width rows : ℕ) (keys lanes : List ℕ) (x : ℕ × Gate) (rest : List (ℕ × Gate)) → AreGatesOf c width rows keys lanes (x ∷ rest) → nodes c ≡ keys ++ (x.0 ∷ map node_of rest)
nodes_next c width rows keys lanes x rest are =
    ap (λ (gs : List (ℕ × Gate)). c.leaves ++ map node_of gs) (sym are.parts)
    ∙ ap (λ (ps : List ℕ). c.leaves ++ ps) (map_parts are.done (x ∷ rest))
    ∙ sym (append_assoc c.leaves (map node_of are.done) (x.0 ∷ map node_of rest))
    ∙ ap (λ (ps : List ℕ). ps ++ (x.0 ∷ map node_of rest)) (sym are.keys)

pub gate_new : (c : Cone) (width rows : ℕ) (keys lanes : List ℕ) (x : ℕ × Gate) (rest : List (ℕ × Gate)) → IsCone c →
    AreGatesOf c width rows keys lanes (x ∷ rest) → (k q : ℕ) → slice_get keys k ≡ Some q → q ≢ x.0
gate_new c width rows keys lanes x rest cone are =
    is_new keys x.0 (map node_of rest) (subst AreApart (nodes_next c width rows keys lanes x rest are) cone.apart)

take_parts : {A : Type 0} (xs ys : List A) → take (length xs) (xs ++ ys) ≡ xs
take_parts [] ys = refl
take_parts (x ∷ xs) ys = ap (λ (zs : List _). x ∷ zs) (take_parts xs ys)

pub gate_over : (c : Cone) (width rows : ℕ) (keys lanes : List ℕ) (x : ℕ × Gate) (rest : List (ℕ × Gate)) → IsCone c → AreGatesOf c width rows keys lanes (x ∷ rest) → IsGateOver keys x.1
gate_over c width rows keys lanes x rest cone are =
    let at : slice_get c.gates (length are.done) ≡ Some x = ap (λ (gs : List (ℕ × Gate)). slice_get gs (length are.done)) (sym are.parts) ∙ at_next are.done x rest in
    let front : take (length are.done) c.gates ≡ are.done = ap (take (length are.done)) (sym are.parts) ∙ take_parts are.done (x ∷ rest) in
    subst (λ (ps : List ℕ). IsGateOver ps x.1) (ap (λ (gs : List (ℕ × Gate)). c.leaves ++ map node_of gs) front ∙ sym are.keys) (cone.gates (length are.done) x at)

pub gates_more : (c : Cone) (width rows : ℕ) (keys lanes : List ℕ) (x : ℕ ×
    Gate) (rest : List (ℕ × Gate)) (new_lanes : List ℕ) → rows ≤ 64 * width → IsCone c →
    AreGatesOf c width rows keys lanes (x ∷ rest) → IsGatePut keys x.1 width lanes new_lanes →
    AreGatesOf c width rows (keys ++ x.0 ∷ []) new_lanes rest
gates_more c width rows keys lanes x rest new_lanes wide cone are put =
    let bits : ℕ → ℕ → Bool = λ row. gates_after (leaf_bits c.leaves row) are.done in
    let bits' : ℕ → ℕ → Bool = λ row. gates_after (leaf_bits c.leaves row) (are.done ++ x ∷ []) in
    let push : (row : ℕ) → bits' row ≡ extended (bits row) x.0 (gate_value (bits row) x.1) = λ row. gates_push (leaf_bits c.leaves row) are.done x in
    record {
      done = are.done ++ x ∷ [];
      parts = append_assoc are.done (x ∷ []) rest ∙ are.parts;
      keys = ap (λ (ks : List ℕ). ks ++ x.0 ∷ []) are.keys ∙ append_assoc c.leaves (map node_of are.done) (x.0 ∷ []) ∙ ap (λ (ps : List ℕ). c.leaves ++ ps) (sym (map_parts are.done (x ∷ [])));
      lanes = one_more keys x.0 bits bits' width rows lanes new_lanes wide are.lanes put.size
          (λ j b low_j low within.
          put.here bits rows are.lanes j b low_j low within
          ∙ sym (ap (λ (f : ℕ → Bool). f x.0) (push (64 * j + b)) ∙ cond-true (x.0 == x.0) _ _ (eq-eqb x.0 x.0 refl)))
          put.before
          (λ row k q at. ap (λ (f : ℕ → Bool). f q) (push row) ∙ cond-false (q == x.0) _ _ (ne_eqb q x.0 (gate_new c width rows keys lanes x rest cone are k q at)));
    }

pub all_words : (c : Cone) (width rows : ℕ) (keys lanes : List ℕ) (w : Words) → AreGatesOf c width rows keys lanes [] →
    w.lanes ≡ lanes → w.rows ≡ 2 ^ length c.leaves → width ≡ width_of w.rows → w.rows ≤ rows → AreWords c w
all_words c width rows keys lanes w are lanes_are rows_are width_is enough =
    let done : are.done ≡ c.gates = sym (append-nil are.done) ∙ are.parts in
    let keys_are : keys ≡ nodes c = are.keys ∙ ap (λ (gs : List (ℕ × Gate)). c.leaves ++ map node_of gs) done in
    record {
      rows = rows_are;
      size = ap length lanes_are ∙ are.lanes.size ∙ ap (λ (ks : List ℕ). length ks * width) keys_are ∙ ap (λ (n : ℕ). length (nodes c) * n) width_is;
      values = λ k p j b at low within.
          ap (λ (ls : List ℕ). digit (get_or ls (k * width_of w.rows + j) 0) b) lanes_are
          ∙ ap (λ (n : ℕ). digit (get_or lanes (k * n + j) 0) b) (sym width_is)
          ∙ are.lanes.values k p j b (subst (λ (ks : List ℕ). slice_get ks k ≡ Some p) (sym keys_are) at) low (omega (arith, within, enough))
          ∙ ap (λ (gs : List (ℕ × Gate)). gates_after (leaf_bits c.leaves (64 * j + b)) gs p) done;
    }

-- the words are the lanes of all nodes
pub words_are_lanes : (c : Cone) (w : Words) → AreWords c w → AreLanes (nodes c) (value_in c) (width_of w.rows) w.rows w.lanes
words_are_lanes c w are = record { size = are.size; values = are.values }

-- inserting a new node into the index appends it
pub with_new : (xs : List ℕ) (p : ℕ) → ((k q : ℕ) → slice_get xs k ≡ Some q → q ≢ p) → (if list_any (nat_eq p) xs then xs else xs ++ p ∷ []) ≡ xs ++ p ∷ []
with_new xs p new = cond-false (list_any (nat_eq p) xs) xs (xs ++ p ∷ []) (not_among xs p new)

-- Writing a row into lanes that were extended by its width appends the row.
filled : (old slice : List ℕ) (start width total : ℕ) → start ≡ length old → total ≡ start + width →
    slice ≡ take (start + width) old ++ replicate (start + width - start) 0 → slice ≡ old ++ replicate width 0
filled old slice start width total at whole is =
    let room : start + width - start ≡ width = omega arith in
    is ∙ ap (λ (xs : List ℕ). xs ++ replicate (start + width - start) 0) (take_all (start + width) old (omega (arith, at))) ∙ ap (λ (n : ℕ). old ++ replicate n 0) room

viewed : (xs ys : List ℕ) (n : ℕ) → n ≡ length xs → take n (xs ++ ys) ≡ xs
viewed xs ys n e = take_at xs ys n (sym e)

pub row_code : (op : ℕ) (old slice new after : List ℕ) (start width total : ℕ) (m : Masks) (a b : Operand) →
    start ≡ length old → total ≡ start + width → slice ≡ take (start + width) old ++ replicate (start + width - start) 0
    → m ≡ masks_of op → EndsBefore (length old) width a → EndsBefore (length old) width b → IsGateRowWritten m a b start width slice new → IsCombinedPut op a b width old (take total (new ++ after))
row_code op old slice new after start width total m a b at whole is masks first second written =
    let full : slice ≡ old ++ replicate width 0 = filled old slice start width total at whole is in
    let long : length (replicate {A = ℕ} width 0) ≡ width = length-replicate {A = ℕ} width 0 in
    let moved : IsGateRowWritten (masks_of op) a b (length old) width (old ++ replicate width 0) new =
    subst (λ (x : Masks). IsGateRowWritten x a b (length old) width (old ++ replicate width 0) new) masks
    (subst (λ (k : ℕ). IsGateRowWritten m a b k width (old ++ replicate width 0) new) at
    (subst (λ (xs : List ℕ). IsGateRowWritten m a b start width xs new) full written)) in
    let count : total ≡ length new = omega (arith, whole, at, moved.size, length-append old (replicate width 0), long) in
    subst (λ (xs : List ℕ). IsCombinedPut op a b width old xs) (sym (viewed new after total count)) (combined_put op width old (replicate width 0) new a b long first second moved)

pub leaf_code : (right : ℕ → Bool) (old slice new after : List ℕ) (start width total : ℕ) → start ≡ length old →
    total ≡ start + width → slice ≡ take (start + width) old ++ replicate (start + width - start) 0
    → IsRowWritten right start width slice new → IsRowAppended right width old (take total (new ++ after))
leaf_code right old slice new after start width total at whole is written =
    let full : slice ≡ old ++ replicate width 0 = filled old slice start width total at whole is in
    let long : length (replicate {A = ℕ} width 0) ≡ width = length-replicate {A = ℕ} width 0 in
    let moved : IsRowWritten right (length old) width (old ++ replicate width 0) new =
    subst (λ (k : ℕ). IsRowWritten right k width (old ++ replicate width 0) new) at (subst (λ (xs : List ℕ). IsRowWritten right start width xs new) full written) in
    let count : total ≡ length new = omega (arith, whole, at, moved.size, length-append old (replicate width 0), long) in
    subst (λ (xs : List ℕ). IsRowAppended right width old xs) (sym (viewed new after total count)) (row_put right width old (replicate width 0) new long moved)
