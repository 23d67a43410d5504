-- Marking the false literals of a clause, and gathering those that are marked.
use Rattle.std.proofs.Common.{◌≡◌, ◌↔◌, ℕ, ◌+◌, ◌<◌, ◌⊎◌, ℤ, Bool, true, Option, Some, IsSome, List, [], ◌∷◌, ◌++◌}
use Rattle.std.proofs.Common.{length, take, slice_index_or, All, Contains, subst, sym, ap, ◌∙◌, arith, inl, inr, refl}
use Rattle.std.proofs.Math.Logic.{⊎_elim}
use Rattle.std.proofs.lemmas.Bool.{both_ways, false_from_ne_true}
use Rattle.std.proofs.lemmas.Grind.{common_steps}
use Rattle.std.proofs.lemmas.List.{take_more}
use Rattle.std.proofs.lemmas.List.Elements.{All-append, All-contains, All-contains_itself, All-push, All-weaker, All-cons, All-nil, Contains-push, Contains-append_left, Contains-append_right}
use Rattle.sat_theory.specs.Holding.{with_literal}
use Rattle.cdcl_theory.specs.Codes.{code_of, marked_in, without_literal}
use Rattle.cdcl_theory.specs.CodeLaws.{cases_literal, code_of-room, with_literal-cases, with_literal-old, with_literal-new, without_literal-other, without_literal-same}
use Rattle.trail_core.specs.Values.{IsOver}
use Rattle.clause_db.specs.DeletingLaws.{some_live}
use Rattle.conflict_core.specs.Markings.{AreMarked, IsMarkedBy, AreGathered, AreOthers, IsListed, IsClear}

first_there : (l : ℤ) → Contains (l ∷ []) l
first_there l = (0, (let one : 0 < 1 = omega arith in one), refl)

-- nothing to mark: the literal isn't false, or it is marked already
pub marked_not_falsified : (positions : ℤ → ℕ) (l : ℤ) (marks : List Bool) → positions l ≡ 0 → AreMarked positions (l ∷ []) marks marks
marked_not_falsified positions l marks up = record {
  stay = λ m is. is;
  there = All-cons (λ m. 0 < positions m → marked_in marks m ≡ true) l [] (λ down. absurd (let h : 0 < positions l = down in omega arith)) (All-nil (λ m. 0 < positions m → marked_in marks m ≡ true));
  only = λ m is. inl is;
}

pub marked_already : (positions : ℤ → ℕ) (l : ℤ) (marks : List Bool) → marked_in marks l ≡ true → AreMarked positions (l ∷ []) marks marks
marked_already positions l marks here = record {
  stay = λ m is. is;
  there = All-cons (λ m. 0 < positions m → marked_in marks m ≡ true) l [] (λ down. here) (All-nil (λ m. 0 < positions m → marked_in marks m ≡ true));
  only = λ m is. inl is;
}

-- the literal is marked now
pub marked_now : (positions : ℤ → ℕ) (l : ℤ) (old new : List Bool) → 0 < positions l → marked_in new ≡ with_literal (marked_in old) l → AreMarked positions (l ∷ []) old new
marked_now positions l old new down now = record {
  stay = λ m is. ap (λ (f : ℤ → Bool). f m) now ∙ with_literal-old (marked_in old) l m is;
  there = All-cons (λ m. 0 < positions m → marked_in new m ≡ true) l [] (λ h. ap (λ (f : ℤ → Bool). f l) now
      ∙ with_literal-new (marked_in old) l l refl) (All-nil (λ m. 0 < positions m → marked_in new m ≡ true));
  only = λ m is. ⊎_elim (λ (same : m ≡ l). inr (
    subst (λ (x : ℤ). Contains (l ∷ []) x) (sym same) (first_there l),
    subst (λ (x : ℤ). 0 < positions x) (sym same) down,
  )) (λ (was : marked_in old m ≡ true). inl was)
      (with_literal-cases (marked_in old) l m (sym (ap (λ (f : ℤ → Bool). f m) now) ∙ is));
}

-- one list after another
pub marked_append : (positions : ℤ → ℕ) (xs ys : List ℤ) (a b c : List Bool) → AreMarked positions xs a b → AreMarked positions ys b c → AreMarked positions (xs ++ ys) a c
marked_append positions xs ys a b c first second = record {
  stay = λ m is. second.stay m (first.stay m is);
  there = All-append (λ m. 0 < positions m → marked_in c m ≡ true) xs ys (All-weaker (λ m. 0 < positions m →
      marked_in b m ≡ true) (λ m. 0 < positions m →
      marked_in c m ≡ true) (λ m is down. second.stay m (is down)) xs first.there) second.there;
  only = λ m is. ⊎_elim
      (λ (older : marked_in b m ≡ true). ⊎_elim (λ (old : marked_in a m ≡ true). inl old) (λ (in_xs : Contains xs m ×
      (0 < positions m)). inr (Contains-append_left xs ys m in_xs.0, in_xs.1)) (first.only m older))
      (λ (in_ys : Contains ys m × (0 < positions m)). inr (Contains-append_right xs ys m in_ys.0, in_ys.1))
      (second.only m is);
}

pub marked_more : (positions : ℤ → ℕ) (lits : List ℤ) (i : ℕ) (d l : ℤ) (a b c : List Bool) → i < length lits →
    slice_index_or lits i d ≡ l → AreMarked positions (take i lits) a b → AreMarked positions (l ∷ []) b c →
    AreMarked positions (take (i + 1) lits) a c
marked_more positions lits i d l a b c within at before now =
    rw (take_more lits i d within, at) (marked_append positions (take i lits) (l ∷ []) a b c before now)

pub marked_none : (positions : ℤ → ℕ) (lits : List ℤ) (a : List Bool) → AreMarked positions (take 0 lits) a a
marked_none positions lits a = record { stay = λ m is. is; there = λ k d (low : k < 0). absurd (omega arith); only = λ m is. inl is }

-- the list after a literal is marked and pushed,
pub listed_push : (vars : ℕ) (old new : List Bool) (touched more : List ℤ) (l : ℤ) → IsListed vars old touched →
    IsOver vars l → marked_in new ≡ with_literal (marked_in old) l → length new ≡ length old → more ≡ touched ++
    l ∷ [] → IsListed vars new more
listed_push vars old new touched more l before over now same is = rw is (record {
  room = same ∙ before.room;
  over = All-push (IsOver vars) touched l before.over over;
  all = λ m mark. ⊎_elim (λ (e : m ≡ l). subst (λ (x : ℤ). Contains (touched ++ l ∷ []) x) (sym e)
      (Contains-push touched l)) (λ (was : marked_in old m ≡ true).
      Contains-append_left touched (l ∷ []) m (before.all m was))
      (with_literal-cases (marked_in old) l m (sym (ap (λ (f : ℤ → Bool). f m) now) ∙ mark));
})

-- and after one is unmarked
pub listed_unset : (vars : ℕ) (old new : List Bool) (touched : List ℤ) (l : ℤ) → IsListed vars old touched →
    marked_in new ≡ without_literal (marked_in old) l → length new ≡ length old → IsListed vars new touched
listed_unset vars old new touched l before now same = record {
  room = same ∙ before.room;
  over = before.over;
  all = λ m mark. before.all m (was m mark (cases_literal m l));
}
  where
    was : (m : ℤ) → marked_in new m ≡ true → (m ≡ l) ⊎ (m ≡ l → ⊥) → marked_in old m ≡ true
    was m mark (inl e) = absurd (both_ways (marked_in new m) (ap (λ (f : ℤ → Bool). f m) now ∙ without_literal-same (marked_in old) l m e) mark)
    was m mark (inr apart) = sym (ap (λ (f : ℤ → Bool). f m) now ∙ without_literal-other (marked_in old) l m apart) ∙ mark

-- each literal of the list has an entry in the table
pub listed_inside : (vars : ℕ) (marks new : List Bool) (touched : List ℤ) → IsListed vars marks touched → length new ≡ length marks → All (λ l. code_of l < length new) touched
listed_inside vars marks new touched listed same = All-weaker (IsOver vars) (λ l. code_of l < length new) (λ l over. rw (same, listed.room) (code_of-room l vars over.1)) touched listed.over

-- If one literal is unmarked and the others of the list are moved out, nothing is marked, and the gathered
-- ones are the others.
pub others_taken : (vars : ℕ) (old off new : List Bool) (touched others : List ℤ) (first : ℤ) →
    IsListed vars old touched → marked_in off ≡ without_literal (marked_in old) first →
    AreGathered touched off new others → AreOthers vars old first others
others_taken vars old off new touched others first listed now gathered = record {
  over = λ k d low. All-contains (IsOver vars) touched (slice_index_or others k d) listed.over (gathered.inside k d low).0;
  inside = λ k d low. was (slice_index_or others k d) (gathered.inside k d low).1 (cases_literal (slice_index_or others k d) first);
  all = λ m mark. ⊎_elim (λ (e : m ≡ first). inl e) (λ (apart : m ≡ first → ⊥).
      inr (others_gathered m mark (gathered.all m (ap (λ (f : ℤ → Bool). f m) now
      ∙ without_literal-other (marked_in old) first m apart ∙ mark)))) (cases_literal m first);
  differ = gathered.differ;
}
  where
    was : (m : ℤ) → marked_in off m ≡ true → (m ≡ first) ⊎ (m ≡ first → ⊥) → (marked_in old m ≡ true) × (m ≡ first → ⊥)
    was m mark (inl e) = absurd (both_ways (marked_in off m) (ap (λ (f : ℤ → Bool). f m) now ∙ without_literal-same (marked_in old) first m e) mark)
    was m mark (inr apart) = (sym (ap (λ (f : ℤ → Bool). f m) now ∙ without_literal-other (marked_in old) first m apart) ∙ mark, apart)

    others_gathered : (m : ℤ) → marked_in old m ≡ true → (marked_in new m ≡ true) ⊎ Contains others m → Contains others m
    others_gathered m mark (inl still) = absurd (gathered.gone m still (listed.all m mark))
    others_gathered m mark (inr there) = there

pub clear_taken : (vars : ℕ) (old off new : List Bool) (touched others : List ℤ) (first : ℤ) →
    IsListed vars old touched → marked_in off ≡ without_literal (marked_in old) first → length off ≡ length old →
    AreGathered touched off new others → length new ≡ length off → IsClear vars new
clear_taken vars old off new touched others first listed now same gathered long = record {
  none = λ m. false_from_ne_true (marked_in new m) (λ is. gathered.gone m is ((listed_unset vars old off touched first listed now same).all m (gathered.was m is)));
  room = long ∙ same ∙ listed.room;
}

-- a clause with its literals in another order
pub marked_in_order : (positions : ℤ → ℕ) (lits clause : List ℤ) (old new : List Bool) →
    ((l : ℤ) → Contains lits l ↔ Contains clause l) → AreMarked positions lits old new →
    AreMarked positions clause old new
marked_in_order positions lits clause old new same before = record {
  stay = before.stay;
  there = All-weaker (Contains clause) (λ m. 0 < positions m →
      marked_in new m ≡ true) (λ m inside. All-contains (λ m. 0 < positions m →
      marked_in new m ≡ true) lits m before.there ((same m).1 inside)) clause (All-contains_itself clause);
  only = λ m is. ⊎_elim (λ (was : marked_in old m ≡ true). inl was) (λ (now : Contains lits m × (0 < positions m)). inr ((same m).0 now.0, now.1)) (before.only m is);
}

pub marked_by : (live : ℕ → Option (List ℤ)) (positions : ℤ → ℕ) (id : ℕ) (lits : List ℤ) (old new : List Bool) →
    IsSome (live id) → ((clause : List ℤ) → live id ≡ Some clause → (l : ℤ) → Contains lits l ↔ Contains clause l) →
    AreMarked positions lits old new → IsMarkedBy live positions id old new
marked_by live positions id lits old new some same before = record {
  clause = (some_live (live id) some).0;
  is_live = (some_live (live id) some).1;
  marked = marked_in_order positions lits (some_live (live id) some).0 old new (same (some_live (live id) some).0 (some_live (live id) some).1) before;
}

pub ruleset marking_one = (common_steps, marked_not_falsified, marked_already, marked_now, listed_push)

pub ruleset marking_all = (common_steps, marked_none, marked_more)

pub ruleset marking_clause = (common_steps, marked_by)
