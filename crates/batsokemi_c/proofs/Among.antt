-- Words, one of which isn't UTF-8.
use Rattle.std.proofs.Common.{◌≡◌, List, ℕ, [], ◌∷◌, ◌++◌, All, Option, Some, Err, IsErrOf, Bor, ap, subst, sym, ◌∙◌}
use Rattle.std.specs.Str.{IsUtf8}
use Rattle.std.proofs.lemmas.List.Elements.{All-head, All-tail}
use Rattle.text_core.specs.Items.{items_of, items_left}

-- what holds for all elements holds for one of them
pub of_each : {X : Type 0} (P : X → Type 0) (prefix : List X) (x : X) (rest : List X) → All P (prefix ++ x ∷ rest) → P x
of_each P [] x rest all = All-head P x rest all
of_each P (y ∷ prefix) x rest all = of_each P prefix x rest (All-tail P y (prefix ++ x ∷ rest) all)

-- an error of one result type as an error of another
pub same_fault : {S T E : Type 0} (fault named : E) → IsErrOf {T = S} (Err fault) named → IsErrOf {T = T} (Err fault) named
same_fault fault named is = let same : fault ≡ named = cc in ap (λ e. Err e) same

-- If the next item of a line isn't UTF-8, not all are.
pub not_all : (prefix rest all : List (List ℕ)) (item : List ℕ) (left : Option (Bor (List ℕ))) (text : Bor (List ℕ)) →
    prefix ++ items_left left ≡ all → left ≡ Some text → items_of text.now ≡ item ∷ rest → (IsUtf8 item → ⊥) →
    All IsUtf8 all → ⊥
not_all prefix rest all item left text known is items none every =
    let whole : prefix ++ item ∷ rest ≡ all = ap (λ xs. prefix ++ xs) (sym items) ∙ ap (λ o. prefix ++ items_left o) (sym is) ∙ known in
    none (of_each IsUtf8 prefix item rest (subst (All IsUtf8) (sym whole) every))
