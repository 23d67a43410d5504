-- The steps of the resolution.
use Rattle.std.proofs.Common.{◌≡◌, ℕ, ◌+◌, ◌<◌, ◌≤◌, ◌⊎◌, ℤ, Bool, true, false, List, [], ◌∷◌, ◌++◌, length, reverse, slice_index_or, Contains, All, Option, Some, subst, sym, ap, ◌∙◌, arith, inl, inr}
use Rattle.std.proofs.Math.Logic.{⊎_elim}
use Rattle.std.proofs.lemmas.Bool.{both_ways, cases_eq}
use Rattle.std.proofs.lemmas.Grind.{common_steps}
use Rattle.std.proofs.lemmas.List.{reverse-append}
use Rattle.std.proofs.lemmas.List.Elements.{All-contains, Contains-get_or}
use Rattle.sat_theory.specs.Formula.{opposite}
use Rattle.cdcl_theory.specs.Codes.{marked_in, without_literal}
use Rattle.cdcl_theory.specs.CodeLaws.{cases_literal, without_literal-other, without_literal-same}
use Rattle.cdcl_theory.specs.Propagation.{IsFalsifiedUpTo, Implies}
use Rattle.cdcl_theory.specs.Trails.{TrailState, falsified_at, reason_of, ArePositions, IsTrail, HasReason}
use Rattle.cdcl_theory.specs.TrailLaws.{place_at, true_not_falsified, falsified_at_index}
use Rattle.cdcl_theory.specs.Resolving.{IsDerived, IsResolvent}
use Rattle.cdcl_theory.specs.ResolvingLaws.{derived_step}
use Rattle.conflict_core.specs.Markings.{AreMarked, IsListed, IsReplaced, NoneMarked, StayBelow, OnlyBelow, IsResolution}

-- the reason of the literal at an index
pub reason_at : (live : ℕ → Option (List ℤ)) (t : TrailState) (p : ℕ) (l : ℤ) → HasReason live t p → slice_index_or t.lits p l ≡ l → Implies live (falsified_at t) p l (reason_of t l)
reason_at live t p l reason at = subst (λ (x : ℤ). Implies live (falsified_at t) p x (reason_of t x)) at (reason.implied l)

pub opposite_falsified : (t : TrailState) (p : ℕ) (l : ℤ) → IsTrail t → p < length t.lits → slice_index_or t.lits p l ≡ l → falsified_at t (opposite l) ≡ p + 1
opposite_falsified t p l trail within at = place_at t.lits (falsified_at t) p l l trail.positions within at

-- Resolution with the reason of any literal: it is removed, and the others of its reason are added.
resolved_below : (live : ℕ → Option (List ℤ)) (lits : List ℤ) (positions : ℤ →
    ℕ) (high p id : ℕ) (l : ℤ) (kept less : ℤ → Bool) (ids : List ℕ) → ArePositions lits positions → p < length lits →
    p ≤ high → slice_index_or lits p l ≡ l → IsResolvent live positions high kept ids →
    (implies : Implies live positions p l id) → ((m : ℤ) → kept m ≡ true → (m ≡ opposite l) ⊎ (less m ≡ true)) →
    All (λ m. (m ≡ l) ⊎ (less m ≡ true)) implies.clause →
    ((m : ℤ) → less m ≡ true → (kept m ≡ true) ⊎ (Contains implies.clause m × (m ≡ l → ⊥))) →
    IsResolvent live positions high less (ids ++ id ∷ [])
resolved_below live lits positions high p id l kept less ids are within low at before implies moved others only =
    let down : positions (opposite l) ≡ p + 1 = place_at lits positions p l l are within at in
    let up : positions l ≡ 0 = true_not_falsified lits positions p l l are within at in
    record {
      below = λ m is. ⊎_elim (λ (old : kept m ≡ true). before.below m old) (λ (new : Contains implies.clause m ×
          (m ≡ l → ⊥)). older m new.1 (All-contains (λ x. (x ≡ l) ⊎
          IsFalsifiedUpTo positions p x) implies.clause m implies.others new.0)) (only m is);
      derived = subst (λ (hs : List ℕ). IsDerived live positions less hs) (sym (reverse-append ids (id ∷ [])))
          (derived_step live positions kept less (reverse ids) id implies.clause l before.derived implies.is_live
          implies.there up (omega arith) others moved);
    }
  where
    older : (m : ℤ) → (m ≡ l → ⊥) → (m ≡ l) ⊎ IsFalsifiedUpTo positions p m → IsFalsifiedUpTo positions high m
    older m apart (inl same) = absurd (apart same)
    older m apart (inr falsified) = (let some : 0 < positions m = falsified.0 in let under : positions m ≤ p = falsified.1 in (some, omega arith))

-- One resolution step keeps the invariant.
pub resolution_resolved : (live : ℕ → Option (List ℤ)) (t : TrailState) (p id : ℕ) (l : ℤ) (lits : List ℤ)
    (old off new : List Bool) (touched more : List ℤ) (ids now : List ℕ) → IsTrail t → p < length t.lits →
    slice_index_or t.lits p l ≡ l → HasReason live t p → id ≡ reason_of t l → live id ≡ Some lits →
    IsResolution live t old touched ids → marked_in off ≡ without_literal (marked_in old) (opposite l) →
    AreMarked (falsified_at t) lits off new → IsListed t.vars new more → now ≡ ids ++ id ∷ [] →
    IsResolution live t new more now
resolution_resolved live t p id l lits old off new touched more ids now trail within at reason id_is is resolution unmarked marked listed ids_are =
    record {
      resolvent = rw ids_are (resolved_below live t.lits (falsified_at t) (length t.lits) p id l (marked_in old)
          (marked_in new) ids trail.positions within (omega arith) at resolution.resolvent implies moved others only);
      listed = listed;
    }
  where
    implies : Implies live (falsified_at t) p l id
    implies = rw id_is (reason_at live t p l reason at)

    same : implies.clause ≡ lits
    same = let here : live id ≡ Some implies.clause = implies.is_live in cc

    up : falsified_at t l ≡ 0
    up = true_not_falsified t.lits (falsified_at t) p l l trail.positions within at

    off_at : (m : ℤ) → marked_in off m ≡ without_literal (marked_in old) (opposite l) m
    off_at m = ap (λ (f : ℤ → Bool). f m) unmarked

    moved : (m : ℤ) → marked_in old m ≡ true → (m ≡ opposite l) ⊎ (marked_in new m ≡ true)
    moved m was = ⊎_elim (λ (e : m ≡ opposite l). inl e) (λ (apart : m ≡ opposite l → ⊥).
        inr (marked.stay m (off_at m ∙ without_literal-other (marked_in old) (opposite l) m apart ∙ was)))
        (cases_literal m (opposite l))

    others : All (λ m. (m ≡ l) ⊎ (marked_in new m ≡ true)) implies.clause
    others = λ k d low. ⊎_elim
        (λ (e : slice_index_or implies.clause k d ≡ l). inl e)
        (λ (falsified : IsFalsifiedUpTo (falsified_at t) p (slice_index_or implies.clause k d)).
        inr (All-contains (λ m. 0 < falsified_at t m →
        marked_in new m ≡ true) lits (slice_index_or implies.clause k d) marked.there
        (subst (λ (c : List ℤ). Contains c (slice_index_or implies.clause k d)) same
        (Contains-get_or implies.clause k d low)) falsified.0))
        (implies.others k d low)

    only : (m : ℤ) → marked_in new m ≡ true → (marked_in old m ≡ true) ⊎ (Contains implies.clause m × (m ≡ l → ⊥))
    only m is = ⊎_elim
        (λ (was : marked_in off m ≡ true).
        let apart : m ≡ opposite l → ⊥ = λ e. both_ways (marked_in off m) (off_at m ∙ without_literal-same (marked_in old) (opposite l) m e) was in
        inl (sym (off_at m ∙ without_literal-other (marked_in old) (opposite l) m apart) ∙ was))
        (λ (new_one : Contains lits m × (0 < falsified_at t m)).
        inr (
          subst (λ (c : List ℤ). Contains c m) (sym same) new_one.0,
          λ e.
              (let h : falsified_at t m ≡ 0 = ap (falsified_at t) e ∙ up in let some : 0 < falsified_at t m = new_one.1 in
              omega arith),
        ))
        (marked.only m is)

-- The change of the marks.
pub marks_replaced : (live : ℕ → Option (List ℤ)) (t : TrailState) (p id : ℕ) (l : ℤ) (lits : List ℤ)
    (old off new : List Bool) → IsTrail t → p < length t.lits → slice_index_or t.lits p l ≡ l → HasReason live t p →
    id ≡ reason_of t l → live id ≡ Some lits → marked_in off ≡ without_literal (marked_in old) (opposite l) →
    AreMarked (falsified_at t) lits off new → IsReplaced t p old new
marks_replaced live t p id l lits old off new trail within at reason id_is is unmarked marked = record {
  stay = λ m was. ⊎_elim (λ (e : m ≡ opposite l). inl (ap (falsified_at t) e ∙ down)) (λ (apart : m ≡ opposite l → ⊥).
      inr (marked.stay m (off_at m ∙ without_literal-other (marked_in old) (opposite l) m apart ∙ was)))
      (cases_literal m (opposite l));
  only = λ m mark. ⊎_elim
      (λ (was : marked_in off m ≡ true). inr (still m was (cases_literal m (opposite l))))
      (λ (new_one : Contains lits m × (0 < falsified_at t m)). inl (older m new_one.1 (All-contains (λ x. (x ≡ l) ⊎ IsFalsifiedUpTo (falsified_at t) p x) lits m others new_one.0)))
      (marked.only m mark);
}
  where
    down : falsified_at t (opposite l) ≡ p + 1
    down = opposite_falsified t p l trail within at

    up : falsified_at t l ≡ 0
    up = true_not_falsified t.lits (falsified_at t) p l l trail.positions within at

    off_at : (m : ℤ) → marked_in off m ≡ without_literal (marked_in old) (opposite l) m
    off_at m = ap (λ (f : ℤ → Bool). f m) unmarked

    implies : Implies live (falsified_at t) p l id
    implies = rw id_is (reason_at live t p l reason at)

    same : implies.clause ≡ lits
    same = let here : live id ≡ Some implies.clause = implies.is_live in cc

    others : All (λ x. (x ≡ l) ⊎ IsFalsifiedUpTo (falsified_at t) p x) lits
    others = subst (λ (c : List ℤ). All (λ x. (x ≡ l) ⊎ IsFalsifiedUpTo (falsified_at t) p x) c) same implies.others

    older : (m : ℤ) → 0 < falsified_at t m → (m ≡ l) ⊎ IsFalsifiedUpTo (falsified_at t) p m → falsified_at t m ≤ p
    older m some (inl e) = absurd (let h : falsified_at t m ≡ 0 = ap (falsified_at t) e ∙ up in omega arith)
    older m some (inr falsified) = falsified.1

    still : (m : ℤ) → marked_in off m ≡ true → (m ≡ opposite l) ⊎ (m ≡ opposite l → ⊥) → (marked_in old m ≡ true) × (falsified_at t m ≡ p + 1 → ⊥)
    still m was (inl e) = absurd (both_ways (marked_in off m) (off_at m ∙ without_literal-same (marked_in old) (opposite l) m e) was)
    still m was (inr apart) = (
      sym (off_at m ∙ without_literal-other (marked_in old) (opposite l) m apart)
          ∙ was,
      λ e. apart (falsified_at_index t.lits (falsified_at t) p l m trail.positions e ∙ ap opposite at),
    )

-- marked literals at lower positions stay marked
pub stay_replaced : (t : TrailState) (low p : ℕ) (a b c : List Bool) → low ≤ p → StayBelow t low a b → IsReplaced t p b c → StayBelow t low a c
stay_replaced t low p a b c order before replaced m is was =
    ⊎_elim (λ (e : falsified_at t m ≡ p + 1). absurd (omega arith)) (λ (still : marked_in c m ≡ true). still)
    (replaced.stay m (before m is was))

-- only literals at lower positions were newly marked
pub replaced_below : (t : TrailState) (start p : ℕ) (old new : List Bool) → p < start → IsReplaced t p old new → OnlyBelow t start old new
replaced_below t start p old new older replaced m is =
    ⊎_elim (λ (low : falsified_at t m ≤ p). inr (omega arith)) (λ (was : (marked_in old m ≡ true) ×
    (falsified_at t m ≡ p + 1 → ⊥)). inl was.0) (replaced.only m is)

-- after the step nothing is marked from its index on
pub none_replaced : (t : TrailState) (p : ℕ) (old new : List Bool) → IsTrail t → IsReplaced t p old new → NoneMarked t old (p + 1) (length t.lits) → NoneMarked t new p (length t.lits)
none_replaced t p old new trail replaced none q d low less is =
    ⊎_elim
    (λ (older : falsified_at t (opposite (slice_index_or t.lits q d)) ≤ p). omega arith)
    (λ (was : (marked_in old (opposite (slice_index_or t.lits q d)) ≡ true) × (falsified_at t (opposite (slice_index_or t.lits q d)) ≡ p + 1 → ⊥)).
    let apart : q ≡ p → ⊥ = λ e. was.1 (at ∙ ap (λ (k : ℕ). k + 1) e) in
    none q d (omega arith) less was.0)
    (replaced.only (opposite (slice_index_or t.lits q d)) is)
  where
    at : falsified_at t (opposite (slice_index_or t.lits q d)) ≡ q + 1
    at = trail.positions.placed q d less

pub none_more : (t : TrailState) (marks : List Bool) (p high : ℕ) (l : ℤ) → slice_index_or t.lits p l ≡ l →
    p < length t.lits → marked_in marks (opposite l) ≡ false → NoneMarked t marks (p + 1) high →
    NoneMarked t marks p high
none_more t marks p high l at within off none q d low less is =
    ⊎_elim
    (λ (e : q ≡ p).
    let here : slice_index_or t.lits q d ≡ l = ap (λ (k : ℕ). slice_index_or t.lits k d) e ∙ grind (arith, common_steps) in
    both_ways (marked_in marks (opposite (slice_index_or t.lits q d))) (ap (λ (x : ℤ). marked_in marks (opposite x)) here ∙ off) is)
    (λ (apart : q ≡ p → ⊥). none q d (omega arith) less is)
    (cases_eq q p)
