-- Words with permuted rows.
use Rattle.std.proofs.Common.{◌≡◌, ℕ, ◌+◌, ◌-◌, ◌^◌, ◌≤◌, ◌<◌, ◌==◌, Bool, false, List, length, map, refl, sym, ap, ◌∙◌, arith, subst, ⊎_elim}
use Rattle.std.specs.Prelude.{slice_index, if◌then◌else◌}
use Rattle.std.proofs.lemmas.Bool.{cases_lt, both_ways}
use Rattle.std.proofs.lemmas.Grind.{common_steps}
use Rattle.std.proofs.lemmas.List.{get_or-map, length-map, get_or_past}
use Rattle.std.proofs.lemmas.Nat.Bits.{bit_at-zero, bit_at_above}
use Rattle.chain_theory.specs.Operator.{digit}
use Rattle.chain_theory.specs.Rows.{row_digit, row_low}
use Rattle.chain_theory.specs.declared.data.Cell.TheVariants.{Zero, One, Free}
use Rattle.tt_core.specs.Words.{Words, IsSpec, specification}
use Rattle.spec_cache.specs.Order.{permuted_row, permuted_word, IsPermuted}

zero_digit : (t : ℕ) → digit 0 t ≡ false
zero_digit t = ap (λ (x : ℕ). x == 1) (bit_at-zero t)

twice_less : (rows t : ℕ) → t < rows → rows - (rows - t) ≡ t
twice_less rows t low = omega (arith, low)

rest_of : (rows t : ℕ) → t < rows → (t + (rows - t) ≡ rows) × (1 ≤ rows - t)
rest_of rows t low = (omega (arith, low), omega (arith, low))

word_digit : (n : ℕ) (order : List ℕ) (word t : ℕ) → t < 2 ^ n → digit (permuted_word n order word) t ≡ digit word (permuted_row n order t)
word_digit n order word t low =
    let rest = rest_of (2 ^ n) t low in
    row_digit (λ i. digit word (permuted_row n order (2 ^ n - i))) (2 ^ n) t (2 ^ n - t) rest.0 rest.1
    ∙ ap (λ (u : ℕ). digit word (permuted_row n order u)) (twice_less (2 ^ n) t low)

word_past : (n : ℕ) (order : List ℕ) (word t : ℕ) → 2 ^ n ≤ t → digit (permuted_word n order word) t ≡ false
word_past n order word t past =
    ap (λ (x : ℕ). x == 1) (bit_at_above (permuted_word n order word) (2 ^ n) t (row_low (λ i. digit word (permuted_row n order (2 ^ n - i))) (2 ^ n)) past)

-- ---- words of a list

past_digit : (ws : List ℕ) (i t : ℕ) → length ws ≤ i → digit (slice_index ws i) t ≡ false
past_digit ws i t past = ap (λ (w : ℕ). digit w t) (get_or_past ws i 0 past) ∙ zero_digit t

list_digit : (n : ℕ) (order ws : List ℕ) (i t : ℕ) → t < 2 ^ n → digit (slice_index (map (permuted_word n order) ws) i) t ≡ digit (slice_index ws i) (permuted_row n order t)
list_digit n order ws i t low = ⊎_elim
    (λ (inside : i < length ws). ap (λ (w : ℕ). digit w t) (get_or-map (permuted_word n order) ws i 0 0 inside) ∙ word_digit n order (slice_index ws i) t low)
    (λ (past : length ws ≤ i). past_digit (map (permuted_word n order) ws) i t (omega (arith, past, length-map ws (permuted_word n order))) ∙ sym (past_digit ws i (permuted_row n order t) past))
    (cases_lt i (length ws))

list_past : (n : ℕ) (order ws : List ℕ) (i t : ℕ) → 2 ^ n ≤ t → digit (slice_index (map (permuted_word n order) ws) i) t ≡ false
list_past n order ws i t high = ⊎_elim
    (λ (inside : i < length ws). ap (λ (w : ℕ). digit w t) (get_or-map (permuted_word n order) ws i 0 0 inside) ∙ word_past n order (slice_index ws i) t high)
    (λ (past : length ws ≤ i). past_digit (map (permuted_word n order) ws) i t (omega (arith, past, length-map ws (permuted_word n order))))
    (cases_lt i (length ws))

-- ---- specifications

abbrev words : ℕ → List ℕ → List ℕ → Words
words n on care = record { n = n; on = on; care = care }

abbrev permuted_words : Words → List ℕ → Words
permuted_words w order = record { n = w.n; on = map (permuted_word w.n order) w.on; care = map (permuted_word w.n order) w.care }

words_stand : (w : Words) (order : List ℕ) → IsSpec w → IsSpec (permuted_words w order)
words_stand w order is = record {
  inputs = is.inputs;
  outputs = omega (arith, length-map w.on (permuted_word w.n order), is.outputs);
  together = length-map w.care (permuted_word w.n order) ∙ is.together ∙ sym (length-map w.on (permuted_word w.n order));
  inside = λ i t on. ⊎_elim
      (λ (low : t < 2 ^ w.n). list_digit w.n order w.care i t low ∙ is.inside i (permuted_row w.n order t) (sym (list_digit w.n order w.on i t low) ∙ on))
      (λ (high : 2 ^ w.n ≤ t). absurd (both_ways (digit (slice_index (map (permuted_word w.n order) w.on) i) t) (list_past w.n order w.on i t high) on))
      (cases_lt t (2 ^ w.n));
  rows = λ i t past. list_past w.n order w.care i t past;
}

pub spec_stands : (w : Words) (order on care : List ℕ) → IsSpec w → on ≡ map (permuted_word w.n order) w.on →
    care ≡ map (permuted_word w.n order) w.care → IsSpec (record { n = w.n; on = on; care = care })
spec_stands w order on care is on_is care_is =
    subst (λ (a : List ℕ). IsSpec (record { n = w.n; on = a; care = care })) (sym on_is)
    (subst (λ (b : List ℕ). IsSpec (record { n = w.n; on = map (permuted_word w.n order) w.on; care = b })) (sym care_is) (words_stand w order is))

words_permuted : (w : Words) (order : List ℕ) → IsPermuted (specification w) (specification (permuted_words w order)) order
words_permuted w order = record {
  inputs = refl;
  outputs = length-map w.on (permuted_word w.n order);
  cell = λ h t from low row.
      let new_on : Bool = digit (slice_index (map (permuted_word w.n order) w.on) (h - 1)) t in
      let old_care : Bool = digit (slice_index w.care (h - 1)) (permuted_row w.n order t) in
      ap (λ (b : Bool). if b then (if new_on then One else Zero) else Free) (list_digit w.n order w.care (h - 1) t row)
      ∙ ap (λ (b : Bool). if old_care then (if b then One else Zero) else Free) (list_digit w.n order w.on (h - 1) t row);
}

words_are : (w : Words) (order : List ℕ) (n : ℕ) (from on held care : List ℕ) → n ≡ w.n → from ≡ w.on → held ≡ w.care →
    on ≡ map (permuted_word n order) from → care ≡ map (permuted_word n order) held →
    words n on care ≡ permuted_words w order
words_are w order n from on held care n_is from_is held_is on_is care_is =
    ap (λ (a : List ℕ). words n a care) on_is
    ∙ ap (λ (a : List ℕ). words n (map (permuted_word n order) from) a) care_is
    ∙ ap (λ (m : ℕ). words m (map (permuted_word m order) from) (map (permuted_word m order) held)) n_is
    ∙ ap (λ (a : List ℕ). words w.n (map (permuted_word w.n order) a) (map (permuted_word w.n order) held)) from_is
    ∙ ap (λ (a : List ℕ). words w.n (map (permuted_word w.n order) w.on) (map (permuted_word w.n order) a)) held_is

pub spec_permuted : (w new : Words) (order : List ℕ) (n : ℕ) (from on held care : List ℕ) →
    new ≡ record { n = n; on = on; care = care } → n ≡ w.n → from ≡ w.on → held ≡ w.care →
    on ≡ map (permuted_word n order) from → care ≡ map (permuted_word n order) held →
    IsPermuted (specification w) (specification new) order
spec_permuted w new order n from on held care new_is n_is from_is held_is on_is care_is =
    subst (λ (x : Words). IsPermuted (specification w) (specification x) order) (sym (new_is ∙ words_are w order n from on held care n_is from_is held_is on_is care_is)) (words_permuted w order)

pub ruleset permute = (common_steps, spec_stands)
