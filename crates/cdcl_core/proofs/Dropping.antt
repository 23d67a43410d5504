-- Levels that are dropped.
use Rattle.std.proofs.Common.{◌≡◌, ℕ, ◌-◌, ◌<◌, ◌≤◌, List, length, take, slice_index_or, AllPairs, ap, arith}
use Rattle.std.proofs.Math.Logic.{⊎_elim}
use Rattle.std.proofs.lemmas.Bool.{cases_eq}
use Rattle.std.proofs.lemmas.List.{length-take-le, get_or-take}
use Rattle.cdcl_core.specs.Levels.{IsDropped}

-- the first `keep` starts stay; the last of them, if any, is below `back`
pub dropped_from : (back keep end : ℕ) (old new : List ℕ) → new ≡ take keep old → keep < length old →
    ((d : ℕ) → slice_index_or old keep d ≡ end) → back ≤ end → AllPairs (λ a b. a < b) old →
    (0 < keep → (d : ℕ) → slice_index_or old (keep - 1) d < back) → IsDropped back old new end
dropped_from back keep end old new is inside at high rising low = rw is (record {
  fewer = rw long inside;
  front = λ p d less. get_or-take keep old p d (here p less);
  at = λ d. rw long (at d);
  high = high;
  low = λ k d less. rw (get_or-take keep old k d (here k less)) (below k d (here k less));
})
  where
    long : length (take keep old) ≡ keep
    long = length-take-le keep old (omega arith)

    here : (p : ℕ) → p < length (take keep old) → p < keep
    here p less = omega (arith, less, long)

    below : (k d : ℕ) → k < keep → slice_index_or old k d < back
    below k d less =
        let last : slice_index_or old (keep - 1) d < back = low (omega arith) d in
        ⊎_elim
        (λ (e : k ≡ keep - 1). (let same : slice_index_or old k d ≡ slice_index_or old (keep - 1) d = ap (λ (i : ℕ). slice_index_or old i d) e in omega arith))
        (λ (apart : k ≡ keep - 1 → ⊥). (let less_still : slice_index_or old k d < slice_index_or old (keep - 1) d = rising k (keep - 1) d (omega arith) (omega arith) in omega arith))
        (cases_eq k (keep - 1))
