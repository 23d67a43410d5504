-- From operands' rows to the patterns of signals.
use Rattle.std.proofs.Common.{◌≡◌, ◌∙◌, ℕ, zero, suc, ◌+◌, ◌-◌, ◌*◌, ◌%◌, ◌^◌, ◌≤◌, ◌<◌, Bool, true, false, List, []}
use Rattle.std.proofs.Common.{◌∷◌, ◌++◌, length, map, take, get_or, Some, refl, ap, sym, subst, arith, pow_mono}
use Rattle.std.proofs.Common.{pow-add, ⊎_elim, length-take-le, get_or-take, length-append, mul-le-mul_right}
use Rattle.std.specs.Prelude.{slice_get, if◌then◌else◌}
use Rattle.std.proofs.lemmas.Bool.{cases_lt, cases_Bool, cond-true, cond-false}
use Rattle.std.proofs.lemmas.List.{length-map}
use Rattle.std.proofs.lemmas.Nat.{one_shl}
use Rattle.std.proofs.lemmas.Option.{slice_get-get_or, slice_get_within}
use Rattle.chain_theory.specs.Operator.{digit}
use Rattle.net_theory.specs.declared.data.Sig.{Sig}
use Rattle.net_theory.specs.declared.data.Sig.TheVariants as sigs
use Rattle.net_theory.specs.declared.data.Gate.{Gate}
use Rattle.net_theory.specs.Net.{sig_value}
use Rattle.lane_sim.specs.declared.rows.Operand.{Operand}
use Rattle.lane_sim.specs.declared.rows.Operand.TheVariants as operands
use Rattle.lane_sim.specs.Combining.{operand_word, EndsBefore}
use Rattle.lane_sim.specs.Cone.{Cone, IsSigAmong, nodes, node_of, value_in}
use Rattle.lane_sim.specs.LaneLaws.{at_prefix, operand_bit, operand_ends, words_are_lanes}
use Rattle.lane_sim.specs.RowLaws.{ends_less}
use Rattle.lane_sim.specs.Rows.{IsOperandOf}
use Rattle.lane_sim.specs.Seen.{pattern_at, IsRowCount, AllEnd, AreOperands}
use Rattle.lane_sim.specs.SeenLaws.{above_zero, at_most_32}
use Rattle.lane_sim.specs.Words.{Words, AreWords, pattern, pattern_under, width_of}
use Rattle.net_theory.specs.Limits.{most_leaves}

-- ---- patterns

pub pattern_low : {A : Type 0} (f : A → Bool) (xs : List A) → pattern f xs < 2 ^ length xs
unfolding pattern
pattern_low f [] = omega arith
pattern_low f (x ∷ xs) =
    let rest : pattern f xs < 2 ^ length xs = pattern_low f xs in
    let twice : 2 ^ (length xs + 1) ≡ 2 ^ length xs + 2 ^ length xs = omega (arith, pow-add 2 (length xs) 1) in
    let more : suc (length xs) ≡ length xs + 1 = omega arith in
    subst (λ (n : ℕ). (if f x then 2 ^ length xs else 0) + pattern f xs < 2 ^ n) (sym more)
    (subst (λ (n : ℕ). (if f x then 2 ^ length xs else 0) + pattern f xs < n) (sym twice)
    (⊎_elim
    (λ (on : f x ≡ true). subst (λ (n : ℕ). n + pattern f xs < 2 ^ length xs + 2 ^ length xs) (sym (cond-true (f x) (2 ^ length xs) 0 on)) (omega (arith, rest)))
    (λ (off : f x ≡ false). subst (λ (n : ℕ). n + pattern f xs < 2 ^ length xs + 2 ^ length xs) (sym (cond-false (f x) (2 ^ length xs) 0 off)) (omega (arith, rest)))
    (cases_Bool (f x))))

some_same : {A : Type 0} (x y : A) → Some x ≡ Some y → x ≡ y
some_same x y e = cc

pattern_same : {A B : Type 0} (f : A → Bool) (g : B → Bool) (xs : List A) (ys : List B) → length xs ≡ length ys →
    ((i : ℕ) (x : A) (y : B) → slice_get xs i ≡ Some x → slice_get ys i ≡ Some y → f x ≡ g y) →
    pattern f xs ≡ pattern g ys
unfolding pattern
pattern_same f g [] [] long same = refl
pattern_same f g [] (y ∷ ys) long same = absurd (omega (arith, long))
pattern_same f g (x ∷ xs) [] long same = absurd (omega (arith, long))
pattern_same f g (x ∷ xs) (y ∷ ys) long same =
    let rest : length xs ≡ length ys = omega (arith, long) in
    ap (λ (b : Bool). (if b then 2 ^ length xs else 0) + pattern f xs) (same 0 x y refl refl)
    ∙ ap (λ (n : ℕ). (if g y then 2 ^ n else 0) + pattern f xs) rest
    ∙ ap (λ (n : ℕ). (if g y then 2 ^ length ys else 0) + n) (pattern_same f g xs ys rest (λ i a b ea eb. same (suc i) a b ea eb))

-- without signals the pattern is 0
pub at_nothing : (lanes : List ℕ) (os : List Operand) (j b : ℕ) → os ≡ [] → pattern_at lanes os j b ≡ 0
unfolding pattern
at_nothing lanes os j b none = ap (pattern (λ (o : Operand). digit (operand_word lanes o j) b)) none

pub at_one_more : (lanes : List ℕ) (os : List Operand) (o : Operand) (rest : List Operand) (j b : ℕ) → os ≡ o ∷ rest →
    pattern_at lanes os j b ≡ (if digit (operand_word lanes o j) b then 2 ^ length rest else 0) + pattern_at lanes rest
    j b
unfolding pattern
at_one_more lanes os o rest j b parts = ap (pattern (λ (x : Operand). digit (operand_word lanes x j) b)) parts

-- ---- rows

pub rows_are : (k rows : ℕ) → rows ≡ 2 ^ k → IsRowCount rows
rows_are k rows e = record {
  some = subst (λ (n : ℕ). 1 ≤ n) (sym e) (above_zero k);
  whole = λ many.
      ⊎_elim
      (λ (few : k < 6).
      let less : 2 ^ k ≤ 32 = at_most_32 k (omega (arith, few)) in
      absurd (omega (arith, less, many, e)))
      (λ (more : 6 ≤ k).
      let split : k ≡ 6 + (k - 6) = omega (arith, more) in
      let parts : 2 ^ k ≡ 64 * 2 ^ (k - 6) = ap (λ (n : ℕ). 2 ^ n) split ∙ pow-add 2 6 (k - 6) in
      omega (arith, parts, e))
      (cases_lt k 6);
}

-- ---- operands within the lanes

pub all_end_less : (end count count' : ℕ) (os : List Operand) → count' ≤ count → AllEnd end count os → AllEnd end count' os
unfolding AllEnd
all_end_less end count count' os less all = λ i o e. ends_less end count count' o less (all i o e)

pub all_end_first : (end count : ℕ) (os : List Operand) (o : Operand) (rest : List Operand) → os ≡ o ∷ rest → AllEnd end count os → EndsBefore end count o
unfolding AllEnd
all_end_first end count os o rest parts all = all 0 o (ap (λ (xs : List Operand). slice_get xs 0) parts)

pub all_end_rest : (end count : ℕ) (os : List Operand) (o : Operand) (rest : List Operand) → os ≡ o ∷ rest → AllEnd end count os → AllEnd end count rest
unfolding AllEnd
all_end_rest end count os o rest parts all = λ i x e. all (suc i) x (ap (λ (xs : List Operand). slice_get xs (suc i)) parts ∙ e)

-- ---- the rows of signals

slice_get_map : (xs : List (ℕ × Gate)) (k p : ℕ) → k < length xs → ((d : ℕ × Gate) → node_of (get_or xs k d) ≡ p) → slice_get (map node_of xs) k ≡ Some p
slice_get_map [] k p low same = absurd (omega (arith, low))
slice_get_map (x ∷ xs) zero p low same = ap Some (same x)
slice_get_map (x ∷ xs) (suc k) p low same = slice_get_map xs k p (omega (arith, low)) same

pub at_after : (xs ys : List ℕ) (k p : ℕ) → slice_get ys k ≡ Some p → slice_get (xs ++ ys) (length xs + k) ≡ Some p
at_after [] ys k p e =
    let node : 0 + k ≡ k = omega arith in
    ap (slice_get ys) node ∙ e
at_after (x ∷ xs) ys k p e =
    let node : suc (length xs) + k ≡ suc (length xs + k) = omega arith in
    ap (slice_get (x ∷ (xs ++ ys))) node ∙ at_after xs ys k p e

pub leaf_operand : (c : Cone) (p k width : ℕ) → slice_get c.leaves k ≡ Some p → IsOperandOf (nodes c) width (sigs.Node p) (operands.Row (k * width))
leaf_operand c p k width at = (k, at_prefix c.leaves (map node_of c.gates) k p at, refl)

pub gate_operand : (c : Cone) (p k width : ℕ) → k < length c.gates →
    ((d : ℕ × Gate) → node_of (get_or c.gates k d) ≡ p) →
    IsOperandOf (nodes c) width (sigs.Node p) (operands.Row ((length c.leaves + k) * width))
gate_operand c p k width low same = (length c.leaves + k, at_after c.leaves (map node_of c.gates) k p (slice_get_map c.gates k p low same), refl)

pub nodes_count : (c : Cone) → length (nodes c) ≡ length c.leaves + length c.gates
nodes_count c = length-append c.leaves (map node_of c.gates) ∙ ap (λ (n : ℕ). length c.leaves + n) (length-map c.gates node_of)

pub row_room : (c : Cone) (k width : ℕ) → k < length (nodes c) → length (nodes c) * width < 2 ^ 64 → k * width < 2 ^ 64
row_room c k width low room = omega (arith, room, mul-le k (length (nodes c)) width low) where
  mul-le : (k n w : ℕ) → k < n → k * w ≤ n * w
  mul-le k n w lt = mul-le-mul_right w (omega (arith, lt))

-- a node that is neither a leaf nor a gate isn't among the nodes
nowhere : (xs : List ℕ) (ys : List (ℕ × Gate)) (p k : ℕ) → ((i d : ℕ) → i < length xs → get_or xs i d ≡ p → ⊥) →
    ((i : ℕ) (d : ℕ × Gate) → i < length ys → node_of (get_or ys i d) ≡ p → ⊥) →
    slice_get (xs ++ map node_of ys) k ≡ Some p → ⊥
nowhere [] [] p k none_x none_y e = cc
nowhere [] (y ∷ ys) p zero none_x none_y e = none_y 0 y (omega arith) (some_same (node_of y) p e)
nowhere [] (y ∷ ys) p (suc k) none_x none_y e = nowhere [] ys p k none_x (λ i d low same. none_y (suc i) d (omega (arith, low)) same) e
nowhere (x ∷ xs) ys p zero none_x none_y e = none_x 0 x (omega arith) (some_same x p e)
nowhere (x ∷ xs) ys p (suc k) none_x none_y e = nowhere xs ys p k (λ i d low same. none_x (suc i) d (omega (arith, low)) same) none_y e

pub no_operand : (c : Cone) (p : ℕ) → IsSigAmong (nodes c) (sigs.Node p) →
    ((i d : ℕ) → i < length c.leaves → get_or c.leaves i d ≡ p → ⊥) →
    ((i : ℕ) (d : ℕ × Gate) → i < length c.gates → node_of (get_or c.gates i d) ≡ p → ⊥) → ⊥
no_operand c p known none_x none_y = nowhere c.leaves c.gates p known.0 none_x none_y known.1

-- ---- operands of all signals

-- the operand of each signal
used_at : (ps : List ℕ) (width : ℕ) (signals : List Sig) (os : List Operand) (i : ℕ) (o : Operand) (s : Sig) →
    AreOperands ps width signals (length signals) os → length signals ≤ length os →
    slice_get (take (length signals) os) i ≡ Some o → slice_get signals i ≡ Some s → IsOperandOf ps width s o
used_at ps width signals os i o s are room at_o at_s =
    let low : i < length signals = slice_get_within signals i s at_s in
    let long : length (take (length signals) os) ≡ length signals = length-take-le (length signals) os room in
    let is : get_or (take (length signals) os) i operands.Zero ≡ o = some_same _ _ (sym (slice_get-get_or (take (length signals) os) i operands.Zero (omega (arith, low, long))) ∙ at_o) in
    subst (IsOperandOf ps width s) (sym (get_or-take (length signals) os i operands.Zero low) ∙ is) (are.each i s low at_s)

pub used_end : (c : Cone) (w : Words) (signals : List Sig) (os : List Operand) → AreWords c w →
    AreOperands (nodes c) (width_of w.rows) signals (length signals) os → length signals ≤ length os →
    AllEnd (length w.lanes) (width_of w.rows) (take (length signals) os)
unfolding AllEnd
used_end c w signals os words are room = λ i o at.
    let long : length (take (length signals) os) ≡ length signals = length-take-le (length signals) os room in
    let low : i < length signals = omega (arith, slice_get_within (take (length signals) os) i o at, long) in
    let s : Sig = get_or signals i sigs.Zero in
    operand_ends (nodes c) (width_of w.rows) (length w.lanes) s o
    (used_at (nodes c) (width_of w.rows) signals os i o s are room at (slice_get-get_or signals i sigs.Zero low))
    (omega (arith, words.size))

pub same_pattern : (c : Cone) (w : Words) (signals : List Sig) (os : List Operand) (j b : ℕ) → AreWords c w →
    AreOperands (nodes c) (width_of w.rows) signals (length signals) os → length signals ≤ length os → b < 64 →
    64 * j + b < w.rows
    → pattern_at w.lanes (take (length signals) os) j b ≡ pattern_under c signals (64 * j + b)
same_pattern c w signals os j b words are room low within =
    pattern_same (λ (o : Operand). digit (operand_word w.lanes o j) b) (sig_value (value_in c (64 * j + b))) (take (length signals) os) signals (length-take-le (length signals) os room)
    (λ i o s at_o at_s. operand_bit (nodes c) (value_in c) (width_of w.rows) w.rows w.lanes s o j b
    (words_are_lanes c w words) (used_at (nodes c) (width_of w.rows) signals os i o s are room at_o at_s) low within)

-- ---- the number of words

pub cone_rows : (n : ℕ) → n ≤ most_leaves → 1 * 2 ^ n % 4294967296 ≡ 2 ^ n
cone_rows n few = one_shl n 32 (omega (arith, few))

pub cone_width : (n : ℕ) → n ≤ most_leaves → width_of (1 * 2 ^ n % 4294967296) ≤ 64
cone_width n few =
    let less : 2 ^ n ≤ 4096 = most n few in
    omega (arith, cone_rows n few, less)
  where
    most : (k : ℕ) → k ≤ most_leaves → 2 ^ k ≤ 2 ^ 12
    most k low = pow_mono low
