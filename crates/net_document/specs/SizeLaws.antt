-- The content of a line is no longer than the line.
use Rattle.std.proofs.Common.{◌≡◌, ℕ, suc, ◌+◌, ◌≤◌, List, [], ◌∷◌, ◌++◌, length, Option, Some, None, refl, ap, subst, arith, length-append}
use Rattle.std.specs.Prelude.{◌==◌, ◌&&◌}
use Rattle.std.proofs.lemmas.Bool.{cond_both}
use Rattle.text_core.specs.Lines.{Line}
use Rattle.net_document.specs.Contents.{is_blank, is_nothing, before_from, before_comment, trimmed, after_first, without_last, or_whole, without_return, content_of}

before_short : (prefix text : List ℕ) → length (before_from prefix text) ≤ length prefix + length text
unfolding before_from
before_short prefix [] = omega arith
before_short prefix (b ∷ bs) =
    cond_both (b == 35) prefix (before_from (prefix ++ b ∷ []) bs) (λ (xs : List ℕ). length xs ≤ length prefix + suc (length bs))
    (λ e. omega arith)
    (λ e. omega (arith, before_short (prefix ++ b ∷ []) bs, length-append prefix (b ∷ [])))

trimmed_short : (text : List ℕ) → length (trimmed text) ≤ length text
unfolding trimmed
trimmed_short [] = omega arith
trimmed_short (b ∷ bs) =
    cond_both (is_blank b && is_nothing (trimmed bs)) [] (b ∷ trimmed bs) (λ (xs : List ℕ). length xs ≤ suc (length bs))
    (λ e. omega arith)
    (λ e. omega (arith, trimmed_short bs))

after_found : (b : ℕ) (r : Option (List ℕ)) (prefix : List ℕ) → after_first b r ≡ Some prefix → (f : List ℕ) × (r ≡ Some f) × (prefix ≡ b ∷ f)
after_found b None prefix e = absurd cc
after_found b (Some f) prefix e = (f, refl, cc)

pub without_found : (c : ℕ) (text prefix : List ℕ) → without_last c text ≡ Some prefix → length prefix + 1 ≡ length text
unfolding without_last
without_found c [] prefix e = absurd cc
without_found c (b ∷ []) prefix e =
    cond_both (b == c) (Some []) None (λ (r : Option (List ℕ)). r ≡ Some prefix → length prefix + 1 ≡ 1)
    (λ same f. let g : [] ≡ prefix = cc in subst (λ (xs : List ℕ). length xs + 1 ≡ 1) g refl)
    (λ other f. absurd cc)
    e
without_found c (b ∷ d ∷ bs) prefix e =
    let r = after_found b (without_last c (d ∷ bs)) prefix e in
    let l : length prefix ≡ suc (length r.0) = ap (length {A = ℕ}) r.2 in
    omega (arith, l, without_found c (d ∷ bs) r.0 r.1)

whole_short : (text : List ℕ) (r : Option (List ℕ)) → ((prefix : List ℕ) → r ≡ Some prefix → length prefix ≤ length text) → length (or_whole text r) ≤ length text
whole_short text None h = omega arith
whole_short text (Some prefix) h = h prefix refl

return_short : (l : Line) → length (without_return l) ≤ length l.text
return_short l =
    cond_both l.ended (or_whole l.text (without_last 13 l.text)) l.text (λ (xs : List ℕ). length xs ≤ length l.text)
    (λ e. whole_short l.text (without_last 13 l.text) (λ prefix f. omega (arith, without_found 13 l.text prefix f)))
    (λ e. omega arith)

pub content_short : (l : Line) → length (content_of l) ≤ length l.text
content_short l = omega (arith, trimmed_short (before_comment (without_return l)), before_short [] (without_return l), return_short l)
