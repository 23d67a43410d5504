-- Words, two at a time.
use Rattle.std.proofs.Common.{◌≡◌, ℕ, List, ◌∷◌, map, sym, ap, ◌∙◌}
use Rattle.front_formula.specs.MiterAsked.{Picked, taken, taken_all}

-- one more option was taken
pub stepped : {T : Type 0} (view : T → List ℕ) (a b : Picked) (name value : T) (after rest left : List T) →
    left ≡ name ∷ after → after ≡ value ∷ rest → b ≡ taken a (view name) (view value) →
    taken_all b (map view rest) ≡ taken_all a (map view left)
unfolding taken_all
stepped view a b name value after rest left first second same =
    ap (λ (x : Picked). taken_all x (map view rest)) same
    ∙ ap (λ (xs : List _). taken_all a (map view xs)) (sym (first ∙ ap (λ (xs : List _). name ∷ xs) second))
