-- Words, two at a time.
use Rattle.std.proofs.Common.{◌≡◌, ℕ, List, ◌∷◌, map, sym, ap, ◌∙◌}
use Rattle.cmd_formula.specs.Words.{Asked, taken, asked_from}

-- one more option was taken
pub stepped : {T : Type 0} (view : T → List ℕ) (a b : Asked) (name value : T) (after rest left : List T) → left ≡ name ∷ after → after ≡ value ∷ rest →
    b ≡ taken a (view name) (view value)
    → asked_from b (map view rest) ≡ asked_from a (map view left)
unfolding asked_from
stepped view a b name value after rest left first second same =
    ap (λ (x : Asked). asked_from x (map view rest)) same
    ∙ ap (λ (xs : List _). asked_from a (map view xs)) (sym (first ∙ ap (λ (xs : List _). name ∷ xs) second))
