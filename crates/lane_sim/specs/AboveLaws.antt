-- Appending the rows of gates above a cone.
use Rattle.std.proofs.Common.{◌≡◌, ◌∙◌, ℕ, ◌+◌, ◌*◌, ◌^◌, ◌≤◌, ◌<◌, Bool, List, [], ◌∷◌, ◌++◌, length, map, take, Some}
use Rattle.std.proofs.Common.{refl, ap, sym, subst, arith, get_or, append_assoc, length-take-le, get_or-take}
use Rattle.std.proofs.Common.{length-append, mul-le-mul_right, pow_mono}
use Rattle.std.specs.Prelude.{slice_get, if◌then◌else◌, nat_eq}
use Rattle.std.specs.List.{list_any}
use Rattle.std.proofs.lemmas.Option.{slice_get_within}
use Rattle.chain_theory.specs.Operator.{digit}
use Rattle.chain_theory.specs.Value.{extended}
use Rattle.net_theory.specs.declared.data.Sig.{Sig}
use Rattle.net_theory.specs.declared.data.Gate.{Gate}
use Rattle.net_theory.specs.Net.{gate_value}
use Rattle.lane_sim.specs.declared.rows.Operand.{Operand}
use Rattle.lane_sim.specs.Above.{with_gates, BeginsWithWords, AreDone}
use Rattle.lane_sim.specs.Combining.{EndsBefore}
use Rattle.lane_sim.specs.Cone.{Cone, IsCone, IsSigAmong, AreApart, node_of, nodes, leaf_bits, gates_after, value_in}
use Rattle.lane_sim.specs.ConeLaws.{gates_keep}
use Rattle.lane_sim.specs.LaneLaws.{at_prefix, is_new, with_new, gate_put, gates_more, nodes_next, operand_ends, all_words}
use Rattle.lane_sim.specs.PatternLaws.{at_after, nodes_count}
use Rattle.lane_sim.specs.Rows.{IsOperandOf, IsCombinedPut, AreGatesOf}
use Rattle.lane_sim.specs.Words.{Words, AreWords, width_of}
use Rattle.net_theory.specs.Limits.{most_leaves}

-- ---- words that begin with a cone's

-- the words of a cone begin with the words of the cone
pub words_begin : (c : Cone) (w : Words) → AreWords c w → BeginsWithWords c w
words_begin c w are = record { rows = are.rows; room = omega (arith, are.size); values = are.values }

after_both : (bits : ℕ → Bool) (xs ys : List (ℕ × Gate)) → gates_after bits (xs ++ ys) ≡ gates_after (gates_after bits xs) ys
unfolding gates_after
after_both bits [] ys = refl
after_both bits (x ∷ xs) ys = after_both (extended bits x.0 (gate_value bits x.1)) xs ys

all_nodes : (c : Cone) (above : List (ℕ × Gate)) → nodes (with_gates c above) ≡ nodes c ++ map node_of above
all_nodes c above = ap (λ (ps : List ℕ). c.leaves ++ ps) (map_both c.gates) ∙ sym (append_assoc c.leaves (map node_of c.gates) (map node_of above)) where
  map_both : (xs : List (ℕ × Gate)) → map node_of (xs ++ above) ≡ map node_of xs ++ map node_of above
  map_both [] = refl
  map_both (x ∷ xs) = ap (λ (ps : List ℕ). x.0 ∷ ps) (map_both xs)

-- The words of a cone with further gates begin with the cone's.
pub words_below : (c : Cone) (above : List (ℕ × Gate)) (w : Words) → IsCone (with_gates c above) → AreWords (with_gates c above) w → BeginsWithWords c w
words_below c above w cone are =
    let all : nodes (with_gates c above) ≡ nodes c ++ map node_of above = all_nodes c above in
    let count : length (nodes (with_gates c above)) ≡ length (nodes c) + length (map node_of above) = ap (length {A = ℕ}) all ∙ length-append (nodes c) (map node_of above) in
    let less : length (nodes c) * width_of w.rows ≤ length (nodes (with_gates c above)) * width_of w.rows = mul-le-mul_right (width_of w.rows) (omega (arith, count)) in
    record {
      rows = are.rows;
      room = omega (arith, less, are.size);
      values = λ k p j b at low within.
          let there : slice_get (nodes (with_gates c above)) k ≡ Some p = ap (λ (ps : List ℕ). slice_get ps k) all ∙ at_prefix (nodes c) (map node_of above) k p at in
          are.values k p j b there low within
          ∙ ap (λ (f : ℕ → Bool). f p) (after_both (leaf_bits c.leaves (64 * j + b)) c.gates above)
          ∙ gates_keep (value_in c (64 * j + b)) above p
          (λ i q e same.
          let later : slice_get (nodes (with_gates c above)) (length (nodes c) + i) ≡ Some p =
          ap (λ (ps : List ℕ). slice_get ps (length (nodes c) + i)) all
          ∙ at_after (nodes c) (map node_of above) i q e ∙ ap Some (sym same) in
          omega (arith, cone.apart k (length (nodes c) + i) p there later, slice_get_within (nodes c) k p at));
    }

-- the cone's words after the rest is truncated
pub base_done : (c : Cone) (above : List (ℕ × Gate)) (w : Words) (width start : ℕ) (lanes : List ℕ) →
    BeginsWithWords c w → width ≡ width_of w.rows → start ≡ length (nodes c) * width → lanes ≡ take start w.lanes →
    AreDone (with_gates c above) width lanes above
base_done c above w width start lanes has width_is start_is lanes_is =
    let here : start ≡ length (nodes c) * width_of w.rows = start_is ∙ ap (λ (n : ℕ). length (nodes c) * n) width_is in
    let room : start ≤ length w.lanes = omega (arith, here, has.room) in (
      nodes c,
      record {
        done = c.gates;
        parts = refl;
        keys = refl;
        lanes = record {
          size = ap (length {A = ℕ}) lanes_is ∙ length-take-le start w.lanes room ∙ start_is;
          values = λ k p j b at low within.
              let wide : 64 * j + b < w.rows = omega (arith, within, has.rows) in
              let inside : k * width + j < start = cut k j p at low wide in
              ap (λ (ls : List ℕ). digit (get_or ls (k * width + j) 0) b) lanes_is
              ∙ ap (λ (x : ℕ). digit x b) (get_or-take start w.lanes (k * width + j) 0 inside)
              ∙ ap (λ (n : ℕ). digit (get_or w.lanes (k * n + j) 0) b) width_is
              ∙ has.values k p j b at low wide;
        };
      },
    )
  where
    cut : (k j p : ℕ) {b : ℕ} → slice_get (nodes c) k ≡ Some p → b < 64 → 64 * j + b < w.rows → k * width + j < start
    cut k j p at low within =
        let below : k < length (nodes c) = slice_get_within (nodes c) k p at in
        let rows_end : (k + 1) * width ≤ length (nodes c) * width = mul-le-mul_right width (omega (arith, below)) in
        let split : (k + 1) * width ≡ k * width + width = omega arith in
        omega (arith, rows_end, split, within, low, width_is, start_is)

-- the words that are kept, with their number as the code computes it
pub kept_code : (c : Cone) (width a b : ℕ) (items lanes : List ℕ) → a ≡ length c.leaves → b ≡ length c.gates →
    lanes ≡ take ((a + b) * width) items → lanes ≡ take (length (nodes c) * width) items
kept_code c width a b items lanes a_is b_is lanes_are =
    let count : a + b ≡ length (nodes c) = omega (arith, nodes_count c, a_is, b_is) in
    lanes_are ∙ ap (λ (n : ℕ). take (n * width) items) count

-- a row of at most 12 leaves has at most 64 words
pub few_words : (n rows width : ℕ) → n ≤ most_leaves → rows ≡ 2 ^ n → width ≡ width_of rows → width ≤ 64
few_words n rows width few rows_are width_is =
    let less : 2 ^ n ≤ 4096 = most n few in
    omega (arith, less, rows_are, width_is)
  where
    most : (k : ℕ) → k ≤ most_leaves → 2 ^ k ≤ 2 ^ 12
    most k low = pow_mono low

-- ---- gates

-- the row of an operand of the next gate is found
pub next_operand : (c : Cone) (width rows : ℕ) (ks ls keys : List ℕ) (x : ℕ × Gate) (rest : List (ℕ × Gate)) (s : Sig)
    (o : Operand) → AreGatesOf c width rows ks ls (x ∷ rest) → keys ≡ nodes c → length ls < 2 ^ 64 → IsSigAmong ks s
    → ((ps more : List ℕ) → keys ≡ ps ++ more → length ps * width < 2 ^ 64 → IsSigAmong ps s → IsOperandOf ps width s o) → IsOperandOf ks width s o
next_operand c width rows ks ls keys x rest s o are keys_are small known found =
    found ks (x.0 ∷ map node_of rest) (keys_are ∙ nodes_next c width rows ks ls x rest are) (omega (arith, small, are.lanes.size)) known

-- and it lies within the rows
pub next_ends : (c : Cone) (width rows : ℕ) (ks ls : List ℕ) (left : List (ℕ × Gate)) (s : Sig) (o : Operand) →
    AreGatesOf c width rows ks ls left → IsOperandOf ks width s o → EndsBefore (length ls) width o
next_ends c width rows ks ls left s o are is = operand_ends ks width (length ls) s o is (omega (arith, are.lanes.size))

-- one more gate is simulated
pub done_more : (c : Cone) (width rows : ℕ) (ks ls : List ℕ) (x : ℕ × Gate) (rest : List (ℕ × Gate)) (new : List ℕ)
    (a b : Operand) → rows ≤ 64 * width → IsCone c → AreGatesOf c width rows ks ls (x ∷ rest) →
    IsOperandOf ks width x.1.a a → IsOperandOf ks width x.1.b b → IsCombinedPut x.1.op a b width ls new →
    (ps : List ℕ) × AreGatesOf c width rows ps new rest
done_more c width rows ks ls x rest new a b wide cone are first second put =
    (ks ++ x.0 ∷ [], gates_more c width rows ks ls x rest new wide cone are (gate_put ks x.1 width ls new a b first second put))

-- all gates are simulated
pub done_all : (c : Cone) (width : ℕ) (lanes : List ℕ) (w : Words) → AreDone c width lanes [] → w.lanes ≡ lanes → w.rows ≡ 2 ^ length c.leaves → width ≡ width_of w.rows → AreWords c w
done_all c width lanes w done lanes_are rows_are width_is = all_words c width (2 ^ length c.leaves) done.0 lanes w done.1 lanes_are rows_are width_is (omega (arith, rows_are))

-- ---- the index

-- one more node is added
pub noted : (keys now new : List ℕ) (p : ℕ) (left rest more : List ℕ) → AreApart (keys ++ more) → left ≡ p ∷ rest →
    now ++ left ≡ keys ++ more → new ≡ (if list_any (nat_eq p) now then now else now ++ p ∷ []) → new ++ rest ≡ keys ++
    more
noted keys now new p left rest more apart parts was is =
    let whole : now ++ p ∷ rest ≡ keys ++ more = ap (λ (xs : List ℕ). now ++ xs) (sym parts) ∙ was in
    ap (λ (xs : List ℕ). xs ++ rest) (is ∙ with_new now p (is_new now p rest (subst AreApart (sym whole) apart)))
    ∙ append_assoc now (p ∷ []) rest ∙ whole
