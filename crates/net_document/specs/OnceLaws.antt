-- Lists without repetitions.
use Rattle.std.proofs.Common.{◌≡◌, Bool, true, false, List, [], ◌∷◌, ◌++◌, refl, ap, ◌∙◌, sym, subst, ⊎_elim}
use Rattle.std.specs.Prelude.{◌||◌, if◌then◌else◌}
use Rattle.std.proofs.lemmas.Bool.{cond_both}
use Rattle.net_theory.specs.Document.{Name, has}
use Rattle.net_theory.specs.NameLaws.{has_append, has_cases, has_none}
use Rattle.net_theory.specs.Naming.{each_once}

or_absorb : (a b : Bool) → (b ≡ true → a ≡ true) → a ≡ (a || b)
or_absorb true b h = refl
or_absorb false false h = refl
or_absorb false true h = h refl

or_assoc : (a b c : Bool) → ((a || b) || c) ≡ (a || (b || c))
or_assoc true b c = refl
or_assoc false b c = refl

-- a name is appended unless it is already there
has_more : (seen : List Name) (m n : Name) → has (if has seen m then seen else seen ++ m ∷ []) n ≡ (has seen n || has (m ∷ []) n)
has_more seen m n =
    cond_both (has seen m) seen (seen ++ m ∷ []) (λ (s : List Name). has s n ≡ (has seen n || has (m ∷ []) n))
    (λ there. or_absorb (has seen n) (has (m ∷ []) n) (λ e. ⊎_elim (λ same. subst (λ (x : Name). has seen x ≡ true) (sym same) there) (λ none. absurd (has_none n none)) (has_cases m [] n e)))
    (λ other. has_append seen (m ∷ []) n)

has_once : (seen ns : List Name) (n : Name) → has (each_once seen ns) n ≡ (has seen n || has ns n)
unfolding each_once
has_once seen [] n = or_absorb (has seen n) (has [] n) (λ e. absurd (has_none n e))
has_once seen (m ∷ ns) n =
    has_once (if has seen m then seen else seen ++ m ∷ []) ns n
    ∙ ap (λ b. b || has ns n) (has_more seen m n)
    ∙ or_assoc (has seen n) (has (m ∷ []) n) (has ns n)
    ∙ ap (λ b. has seen n || b) (sym (has_append (m ∷ []) ns n))

no_name : (n : Name) → has [] n ≡ false
unfolding has
no_name n = refl

-- `each_once` has the same names
pub has_all_once : (ns : List Name) (n : Name) → has (each_once [] ns) n ≡ has ns n
has_all_once ns n = has_once [] ns n ∙ ap (λ b. b || has ns n) (no_name n)
