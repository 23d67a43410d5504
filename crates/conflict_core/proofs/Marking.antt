-- Setting and clearing marks.
use Rattle.std.proofs.Common.{◌≡◌, ◌≢◌, ℕ, ◌+◌, ◌*◌, ◌<◌, ℤ, Bool, true, false, List, [], ◌∷◌, ◌++◌, length, take, slice_index_or, replicate, Contains, subst, sym, ap, ◌∙◌, arith, inl, inr}
use Rattle.std.proofs.Math.Logic.{⊎_elim}
use Rattle.std.proofs.lemmas.Bool.{both_ways}
use Rattle.std.proofs.lemmas.Grind.{common_steps}
use Rattle.std.proofs.lemmas.List.{take_more, length-replicate}
use Rattle.std.proofs.lemmas.List.Elements.{All-push, All-weaker, Contains-push, Contains-push_cases, Contains-append_left}
use Rattle.std.proofs.lemmas.List.Quantifiers.{all_pairs_push}
use Rattle.cdcl_theory.specs.Codes.{marked_in, without_literal}
use Rattle.cdcl_theory.specs.CodeLaws.{code_of-room, cases_literal, marked_in-set, marked_in-unset, marked_in-none, without_literal-other, without_literal-same}
use Rattle.conflict_core.specs.Markings.{IsClear, AreGathered}

pub clear_none : (vars : ℕ) → IsClear vars (replicate (2 * vars + 2) false)
clear_none vars = record { none = marked_in-none (2 * vars + 2); room = length-replicate (2 * vars + 2) false }

-- one more literal wasn't marked,
pub taken_passed : (lits : List ℤ) (i : ℕ) (d l : ℤ) (a b : List Bool) (gathered : List ℤ) → i < length lits →
    slice_index_or lits i d ≡ l → AreGathered (take i lits) a b gathered → marked_in b l ≡ false →
    AreGathered (take (i + 1) lits) a b gathered
taken_passed lits i d l a b gathered within at before off = rw (take_more lits i d within, at) (record {
  was = before.was;
  gone = λ m is there. ⊎_elim (λ (older : Contains (take i lits) m). before.gone m is older) (λ (last : l ≡ m).
      both_ways (marked_in b m) (ap (marked_in b) (sym last) ∙ off) is) (Contains-push_cases (take i lits) l m there);
  inside = All-weaker (λ m. Contains (take i lits) m × (marked_in a m ≡ true)) (λ m. Contains (take i lits ++
      l ∷ []) m × (marked_in a m ≡ true)) (λ m h. (Contains-append_left (take i lits) (l ∷ []) m h.0, h.1)) gathered
      before.inside;
  all = before.all;
  differ = before.differ;
})

-- or one more was, and is gathered
pub taken_more : (lits : List ℤ) (i : ℕ) (d l : ℤ) (a b c : List Bool) (gathered more : List ℤ) → i < length lits →
    slice_index_or lits i d ≡ l → AreGathered (take i lits) a b gathered → marked_in b l ≡ true →
    marked_in c ≡ without_literal (marked_in b) l → more ≡ gathered ++ l ∷ [] → AreGathered (take (i + 1) lits) a c more
taken_more lits i d l a b c gathered more within at before on now is_more = rw (take_more lits i d within, at, is_more) (record {
  was = λ m is. before.was m (old m is);
  gone = λ m is there. ⊎_elim (λ (older : Contains (take i lits) m). before.gone m (old m is) older) (λ (last : l ≡ m). apart m is (sym last)) (Contains-push_cases (take i lits) l m there);
  inside = All-push (λ m. Contains (take i lits ++ l ∷ []) m × (marked_in a m ≡ true)) gathered l
      (All-weaker (λ m. Contains (take i lits) m × (marked_in a m ≡ true)) (λ m. Contains (take i lits ++ l ∷ []) m ×
      (marked_in a m ≡ true)) (λ m h. (Contains-append_left (take i lits) (l ∷ []) m h.0, h.1)) gathered before.inside)
      (Contains-push (take i lits) l, before.was l on);
  all = λ m was. ⊎_elim
      (λ (still : marked_in b m ≡ true). ⊎_elim (λ (same : m ≡ l).
      inr (subst (λ (x : ℤ). Contains (gathered ++ l ∷ []) x) (sym same) (Contains-push gathered l)))
      (λ (other : m ≡ l → ⊥). inl (ap (λ (f : ℤ → Bool). f m) now ∙ without_literal-other (marked_in b) l m other
      ∙ still)) (cases_literal m l))
      (λ (there : Contains gathered m). inr (Contains-append_left gathered (l ∷ []) m there))
      (before.all m was);
  differ = all_pairs_push (λ x y. x ≢ y) gathered l before.differ (λ k e low same. before.gone l on (subst (λ (x : ℤ). Contains (take i lits) x) same (before.inside k e low).0));
})
  where
    apart : (m : ℤ) → marked_in c m ≡ true → m ≡ l → ⊥
    apart m is same = (let off : marked_in c m ≡ false = ap (λ (f : ℤ → Bool). f m) now ∙ without_literal-same (marked_in b) l m same in both_ways (marked_in c m) off is)

    old : (m : ℤ) → marked_in c m ≡ true → marked_in b m ≡ true
    old m is = sym (ap (λ (f : ℤ → Bool). f m) now ∙ without_literal-other (marked_in b) l m (apart m is)) ∙ is

pub taken_none : (lits : List ℤ) (a : List Bool) (gathered : List ℤ) → gathered ≡ [] → AreGathered (take 0 lits) a a gathered
taken_none lits a gathered empty = rw empty (record {
  was = λ m is. is;
  gone = λ m is there. (let low : there.0 < 0 = there.1 in omega arith);
  inside = λ k d (low : k < 0). absurd (omega arith);
  all = λ m is. inl is;
  differ = λ i j d less (within : j < 0). absurd (omega arith);
})

pub ruleset marking = (common_steps, code_of-room, clear_none, marked_in-set, marked_in-unset)

pub ruleset taking = (common_steps, code_of-room, taken_none, taken_passed, taken_more)
