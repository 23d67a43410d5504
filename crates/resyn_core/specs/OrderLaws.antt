-- Candidates are named in order, part after part.
use Rattle.std.specs.Prelude.{◌≡◌, zero, suc, List, [], ◌∷◌, ◌++◌, Contains, refl}
use Rattle.std.proofs.Common.{arith, sym, ◌∙◌, ap, subst, ⊎_elim, append_assoc, append-nil}
use Rattle.std.proofs.lemmas.List.{map-append}
use Rattle.std.proofs.lemmas.List.Elements.{Contains-get_or, Contains-append_cases}
use Rattle.improve_theory.specs.declared.candidate.WindowCandidate.{WindowCandidate}
use Rattle.improve_theory.specs.Undecided.{Undecided, candidate_of, candidates}
use Rattle.improve_theory.specs.Candidates.{IsAttemptedBefore, AreInOrder}
use Rattle.resyn_core.specs.Resynthesized.{AddsUndecided}

contains_head : (v : WindowCandidate) (vs : List WindowCandidate) → Contains (v ∷ vs) v
contains_head v vs = Contains-get_or (v ∷ vs) 0 v (omega arith)

contains_tail : (v w : WindowCandidate) (vs : List WindowCandidate) → Contains vs w → Contains (v ∷ vs) w
contains_tail v w vs (k, low, is) = (suc k, omega (arith, low), is)

contains_one : (v w : WindowCandidate) → Contains (v ∷ []) w → w ≡ v
contains_one v w (zero, low, is) = sym is
contains_one v w (suc k, low, is) = absurd (omega (arith, low))

contains_none : {A : Type 0} (w : WindowCandidate) → Contains [] w → A
contains_none w there = absurd (omega (arith, there.1))

rising_append : (vs ws : List WindowCandidate) → AreInOrder vs → AreInOrder ws → ((v w : WindowCandidate) → Contains vs v → Contains ws w → IsAttemptedBefore v w) → AreInOrder (vs ++ ws)
unfolding AreInOrder
rising_append [] ws first second apart = second
rising_append (v ∷ vs) ws first second apart = (
  λ w there. ⊎_elim (λ own. first.0 w own) (λ later. apart v w (contains_head v vs) later) (Contains-append_cases vs ws w there),
  rising_append vs ws first.1 second (λ x w own later. apart x w (contains_tail v x vs own) later),
)

rising_none : AreInOrder []
unfolding AreInOrder
rising_none = tt

rising_one : (v : WindowCandidate) → AreInOrder (v ∷ [])
unfolding AreInOrder
rising_one v = (λ w there. contains_none w there, tt)

-- nothing more
pub adds_none : (P : WindowCandidate → Type 0) (named : List Undecided) → AddsUndecided P named named
adds_none P named = record {
  more = [];
  is = sym (append-nil named);
  rising = rising_none;
  each = λ v there. contains_none v there;
}

-- one more
pub adds_one : (P : WindowCandidate → Type 0) (named : List Undecided) (u : Undecided) → P u.candidate → AddsUndecided P named (named ++ u ∷ [])
adds_one P named u is = record {
  more = u ∷ [];
  is = refl;
  rising = rising_one u.candidate;
  each = λ v there. subst P (sym (contains_one u.candidate v there)) is;
}

-- one part after another
pub adds_on : (P Q R : WindowCandidate → Type 0) (xs ys zs : List Undecided) → AddsUndecided P xs ys →
    AddsUndecided Q ys zs → ((v : WindowCandidate) → P v → R v) → ((v : WindowCandidate) → Q v → R v) →
    ((v w : WindowCandidate) → P v → Q w → IsAttemptedBefore v w) → AddsUndecided R xs zs
adds_on P Q R xs ys zs first second p q before =
    let both : candidates (first.more ++ second.more) ≡ candidates first.more ++ candidates second.more = map-append candidate_of first.more second.more in
    record {
      more = first.more ++ second.more;
      is = second.is ∙ ap (λ (us : List Undecided). us ++ second.more) first.is ∙ append_assoc xs first.more second.more;
      rising = subst AreInOrder (sym both) (rising_append (candidates first.more)
          (candidates second.more) first.rising second.rising (λ v w own later.
          before v w (first.each v own) (second.each w later)));
      each = λ v there. ⊎_elim
          (λ own. p v (first.each v own))
          (λ later. q v (second.each v later))
          (Contains-append_cases (candidates first.more) (candidates second.more) v (subst (λ (vs : List WindowCandidate). Contains vs v) both there));
    }

-- of a larger set of candidates
pub adds_as : (P R : WindowCandidate → Type 0) (xs ys : List Undecided) → AddsUndecided P xs ys → ((v : WindowCandidate) → P v → R v) → AddsUndecided R xs ys
adds_as P R xs ys adds p = record { more = adds.more; is = adds.is; rising = adds.rising; each = λ v there. p v (adds.each v there) }

-- from nothing on
pub adds_all : (P : WindowCandidate → Type 0) (xs ys : List Undecided) → xs ≡ [] → AddsUndecided P xs ys → AreInOrder (candidates ys)
adds_all P xs ys none adds = subst (λ (us : List Undecided). AreInOrder (candidates us)) (sym (adds.is ∙ ap (λ (us : List Undecided). us ++ adds.more) none)) adds.rising

pub none_rise : (named : List Undecided) → named ≡ [] → AreInOrder (candidates named)
none_rise named none = subst (λ (us : List Undecided). AreInOrder (candidates us)) (sym none) rising_none
