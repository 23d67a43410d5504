-- The tests as those of the definition.
use Rattle.std.proofs.Common.{◌≡◌, ℕ, ◌^◌, ◌<◌, ◌||◌, Bool, true, false, refl, sym, ap, ◌∙◌, arith}
use Rattle.std.specs.List.{list_any, range_with_len}
use Rattle.std.proofs.lemmas.Grind.{common_steps}
use Rattle.std.proofs.lemmas.Bool.{false_from_ne_true, both_ways}
use Rattle.tt_core.specs.Words.{Words, specification}
use Rattle.clause_core.specs.Holds.{range_inside, range_contains, any_get, any_make}
use Rattle.npn_laws.specs.Exchange.{IsKept}
use Rattle.npn_strong.specs.Cut.{kept_outputs, kept_by, may_exchange_complemented}
use Rattle.npn_strong.specs.CutHolds.{outputs_kept, kept_outputs_are}

-- a test that decides whether the outputs are kept is that of the definition
kept_is : (w : Words) (p q k : ℕ) (b bit : Bool) → (bit ≡ true → IsKept (specification w) p q k b) →
    (bit ≡ false → IsKept (specification w) p q k b → ⊥) → bit ≡ kept_outputs w p q k b
kept_is w p q k b true yes_ no_ = sym (kept_outputs_are w p q k b (yes_ refl))
kept_is w p q k b false yes_ no_ = sym (false_from_ne_true (kept_outputs w p q k b) (λ e. no_ refl (outputs_kept w p q k b e)))

-- outputs are kept without complements, or the second test decides
pub kept_first : (w : Words) (p q k : ℕ) (plain : Bool) → plain ≡ true → (plain ≡ true → IsKept (specification w) p q k false) →
    plain ≡ kept_by w p q k
unfolding kept_by
kept_first w p q k plain e kept = e ∙ sym (ap (λ (x : Bool). x || kept_outputs w p q k true) (kept_outputs_are w p q k false (kept e)))

pub kept_second : (w : Words) (p q k : ℕ) (plain complemented : Bool) → plain ≡ false →
    (plain ≡ true → IsKept (specification w) p q k false) → (plain ≡ false → IsKept (specification w) p q k false → ⊥) →
    (complemented ≡ true → IsKept (specification w) p q k true) → (complemented ≡ false → IsKept (specification w) p q k true → ⊥) →
    complemented ≡ kept_by w p q k
unfolding kept_by
kept_second w p q k plain complemented e a b c d =
    kept_is w p q k true complemented c d
    ∙ sym (ap (λ (x : Bool). x || kept_outputs w p q k true) (sym (kept_is w p q k false plain a b) ∙ e))

-- a set of inputs was found
pub row_found : (w : Words) (p q k rows : ℕ) → rows ≡ 2 ^ w.n → k < rows → kept_by w p q k ≡ true → may_exchange_complemented w p q ≡ true
unfolding may_exchange_complemented
row_found w p q k rows count low kept = any_make (kept_by w p q) (range_with_len 0 (2 ^ w.n)) k (range_contains 0 (2 ^ w.n) k (omega arith) (omega arith)) kept

-- no row is one
pub no_row : (w : Words) (p q rows : ℕ) → rows ≡ 2 ^ w.n → ((k : ℕ) → k < rows → kept_by w p q k ≡ false) → may_exchange_complemented w p q ≡ false
unfolding may_exchange_complemented
no_row w p q rows count none = false_from_ne_true (list_any (kept_by w p q) (range_with_len 0 (2 ^ w.n))) (λ some.
    let found = any_get (kept_by w p q) (range_with_len 0 (2 ^ w.n)) some in
    let inside = range_inside 0 (2 ^ w.n) found.element found.inside in
    both_ways (kept_by w p q found.element) (none found.element (omega arith)) found.passes)

pub ruleset searching = (common_steps, row_found, no_row)
