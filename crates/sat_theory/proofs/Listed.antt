-- The clauses of `plain`, as a map from ids.
use Rattle.std.proofs.Common.{◌≡◌, ℕ, ℤ, Bool, true, false, List, [], ◌∷◌, Option, None, ◌==◌, ◌<◌, ◌↔◌, IsSome, Any, get_or, arith, suc, ◌≢◌, if◌then◌else◌, refl, ap, ◌∙◌, sym}
use Rattle.std.proofs.lemmas.Bool.{eqb-true, eq-eqb}
use Rattle.std.proofs.lemmas.List.Folds.{Any-from_list_any, list_any_at}
use Rattle.sat_theory.specs.State.{by_id, is_listed, with_clause, without}
use Rattle.sat_theory.specs.Holding.{DeletionHolds}
use Rattle.std.proofs.lemmas.List.Elements.{All-cons, All-tail}
use Rattle.std.proofs.lemmas.List.Kept.{AllPairs-cons}
use Rattle.std.proofs.lemmas.Grind.{common_steps}
use Rattle.sat_theory.specs.Plain.{Numbered, live_in, not_listed}

same_either_way : {A : Type 0} (b : Bool) (x : A) → (if b then x else x) ≡ x
same_either_way true x = refl
same_either_way false x = refl

-- no clauses
pub live_in-none : live_in [] ≡ by_id []
unfolding live_in
live_in-none = λ i k. sym (same_either_way (k == 0) None) i

without_one : (ids : List ℕ) (c : Numbered) (cs : List Numbered) (k : ℕ) (t e : Bool) → is_listed ids c.id ≡ t →
    (k == c.id) ≡ e → live_in (not_listed ids cs) k ≡ without (live_in cs) ids k →
    live_in (not_listed ids (c ∷ cs)) k ≡ without (live_in (c ∷ cs)) ids k
unfolding live_in
without_one ids c cs k true true listed same rest =
    let e : k ≡ c.id = eqb-true k c.id same in
    let too : is_listed ids k ≡ true = ap (is_listed ids) e ∙ listed in
    rw listed (rest ∙ (rw too refl))
without_one ids c cs k true false listed other rest = rw (listed, other) rest
without_one ids c cs k false true listed same rest =
    let e : k ≡ c.id = eqb-true k c.id same in
    let too : is_listed ids k ≡ false = ap (is_listed ids) e ∙ listed in
    rw (listed, same, too) refl
without_one ids c cs k false false listed other rest = rw (listed, other) rest

-- After some clauses were removed, the others are found as before.
pub live_in-not_listed : (ids : List ℕ) (cs : List Numbered) (k : ℕ) → live_in (not_listed ids cs) k ≡ without (live_in cs) ids k
unfolding live_in
live_in-not_listed ids [] k = sym (same_either_way (is_listed ids k) None)
live_in-not_listed ids (c ∷ cs) k = without_one ids c cs k (is_listed ids c.id) (k == c.id) refl refl (live_in-not_listed ids cs k)

pub live_in-without : (ids : List ℕ) (cs : List Numbered) → live_in (not_listed ids cs) ≡ without (live_in cs) ids
live_in-without ids cs = λ i k. live_in-not_listed ids cs k i

-- one more clause at the head
pub live_in-more : (id : ℕ) (lits : List ℤ) (cs : List Numbered) → live_in (record { id = id; lits = lits } ∷ cs) ≡ with_clause (live_in cs) id lits
unfolding live_in
live_in-more id lits cs = refl

-- Whether all ids of a list are live and different, by cases: the list is empty; its first id is live and doesn't
-- occur again; or it isn't live or occurs again.
pub deletion_none : (live : ℕ → Option (List ℤ)) → DeletionHolds live []
deletion_none live = record { all_live = λ k d (within : k < 0). absurd (omega arith); differ = λ i j d (low : i < j) (within : j < 0). absurd (omega arith) }

deletion_tail : (live : ℕ → Option (List ℤ)) (id : ℕ) (ids : List ℕ) → DeletionHolds live (id ∷ ids) → DeletionHolds live ids
deletion_tail live id ids holds = record {
  all_live = All-tail (λ (k : ℕ). IsSome (live k)) id ids holds.all_live;
  differ = λ i j d low within. holds.differ (suc i) (suc j) d (omega (arith, low)) (omega (arith, within));
}

deletion_cons : (live : ℕ → Option (List ℤ)) (id : ℕ) (ids : List ℕ) → IsSome (live id) → is_listed ids id ≡ false → DeletionHolds live ids → DeletionHolds live (id ∷ ids)
deletion_cons live id ids there new holds = record {
  all_live = All-cons (λ (k : ℕ). IsSome (live k)) id ids there holds.all_live;
  differ = AllPairs-cons (λ (a b : ℕ). a ≢ b) id ids (λ k d within same. let again : is_listed ids id ≡ true =
      list_any_at (λ (j : ℕ). id == j) ids k d within (eq-eqb id (get_or ids k d) same) in
      not_both again new) holds.differ;
}
  where
    not_both : is_listed ids id ≡ true → is_listed ids id ≡ false → ⊥
    not_both yes_ no_ = cc

pub deletion_more : (live : ℕ → Option (List ℤ)) (id : ℕ) (ids : List ℕ) → IsSome (live id) → is_listed ids id ≡ false → DeletionHolds live (id ∷ ids) ↔ DeletionHolds live ids
deletion_more live id ids there new = (deletion_tail live id ids, deletion_cons live id ids there new)

pub deletion_dead : (live : ℕ → Option (List ℤ)) (id : ℕ) (ids : List ℕ) → live id ≡ None → DeletionHolds live (id ∷ ids) → ⊥
deletion_dead live id ids dead holds = let there : IsSome (live id) = holds.all_live 0 id (omega arith) in grind (arith, common_steps)

pub deletion_again : (live : ℕ → Option (List ℤ)) (id : ℕ) (ids : List ℕ) → is_listed ids id ≡ true → DeletionHolds live (id ∷ ids) → ⊥
deletion_again live id ids again holds =
    let found : Any (λ (k : ℕ). (id == k) ≡ true) ids = Any-from_list_any (λ (k : ℕ). id == k) ids again in
    holds.differ 0 (suc found.0) found.1 (omega arith) (omega (arith, found.2)) (eqb-true id found.1 found.4 ∙ sym found.3)

pub ruleset deletions = (common_steps, deletion_none, deletion_more, deletion_dead, deletion_again)

pub ruleset states = (common_steps, live_in-none, live_in-more, live_in-without)
