-- Words, two at a time.
use Rattle.std.proofs.Common.{◌≡◌, ℕ, List, ◌∷◌, map, sym, ap, ◌∙◌}
use Rattle.front_large.specs.LargeWords.{Given, taken, given_from}

-- one more option was taken
pub stepped : {T : Type 0} (view : T → List ℕ) (a b : Given) (name value : T) (after rest left : List T) →
    left ≡ name ∷ after → after ≡ value ∷ rest → b ≡ taken a (view name) (view value) →
    given_from b (map view rest) ≡ given_from a (map view left)
unfolding given_from
stepped view a b name value after rest left first second same =
    ap (λ (x : Given). given_from x (map view rest)) same
    ∙ ap (λ (xs : List _). given_from a (map view xs)) (sym (first ∙ ap (λ (xs : List _). name ∷ xs) second))
