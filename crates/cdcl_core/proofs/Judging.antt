-- The status of a clause under the values of a trail.
use Rattle.std.proofs.Common.{◌≡◌, ℕ, ◌+◌, ◌<◌, ◌≤◌, ◌⊎◌, ℤ, List, length, slice_index_or, Contains, All, Option, Some, None, subst, sym, ap, ◌∙◌, arith, inl, inr, refl}
use Rattle.std.proofs.Math.Logic.{⊎_elim}
use Rattle.std.proofs.lemmas.Bool.{cases_eq}
use Rattle.std.proofs.lemmas.Grind.{common_steps}
use Rattle.std.proofs.lemmas.List.Elements.{All-contains}
use Rattle.sat_theory.specs.Formula.{variable, opposite, IsClause}
use Rattle.cdcl_theory.specs.Propagation.{IsFalsifiedUpTo, Implies, IsSettled, IsFalsified}
use Rattle.cdcl_theory.specs.Trails.{TrailState, falsified_at, IsTrail}
use Rattle.clause_db.specs.Members.{AreMembersOf, all_of_members}
use Rattle.cdcl_core.specs.ClauseStatuses.{IsUnit}

-- the literal at one of the first i indices has no value, and all others there are false
pub record IsOneLeft (positions : ℤ → ℕ) (lits : List ℤ) (i : ℕ) (l : ℤ) : Type 0 where
  pub index : ℕ
  pub early : index < i
  pub inside : index < length lits
  pub here : (d : ℤ) → slice_index_or lits index d ≡ l
  pub up : positions l ≡ 0
  pub free : positions (opposite l) ≡ 0
  pub others : (k : ℕ) (d : ℤ) → k < i → (slice_index_or lits k d ≡ l) ⊎ (0 < positions (slice_index_or lits k d))

pub record AllDown (positions : ℤ → ℕ) (lits : List ℤ) (i : ℕ) : Type 0 where
  pub each : (k : ℕ) (d : ℤ) → k < i → 0 < positions (slice_index_or lits k d)

-- the first i literals are false, except the one that was found
abbrev pub HasSeen : (ℤ → ℕ) → List ℤ → ℕ → Option ℤ → Type 0
HasSeen positions lits i None = AllDown positions lits i
HasSeen positions lits i (Some l) = IsOneLeft positions lits i l

pub seen_none : (positions : ℤ → ℕ) (lits : List ℤ) → HasSeen positions lits 0 None
seen_none positions lits = record { each = λ k d (low : k < 0). absurd (omega arith) }

at_index : (lits : List ℤ) (i k : ℕ) (d l : ℤ) → k ≡ i → i < length lits → slice_index_or lits i l ≡ l → slice_index_or lits k d ≡ l
at_index lits i k d l e within at = grind (arith, common_steps)

-- one more literal is false
pub seen_down : (positions : ℤ → ℕ) (lits : List ℤ) (i : ℕ) (l : ℤ) (found : Option ℤ) → i < length lits →
    slice_index_or lits i l ≡ l → 0 < positions l → HasSeen positions lits i found →
    HasSeen positions lits (i + 1) found
seen_down positions lits i l None within at down seen =
    record {
      each = λ k d low. ⊎_elim (λ (e : k ≡ i).
          subst (λ (x : ℤ). 0 < positions x) (sym (at_index lits i k d l e within at)) down) (λ (apart : k ≡ i → ⊥).
          seen.each k d (omega arith)) (cases_eq k i);
    }
seen_down positions lits i l (Some m) within at down seen = record {
  index = seen.index;
  early = (let h : seen.index < i = seen.early in omega arith);
  inside = seen.inside;
  here = seen.here;
  up = seen.up;
  free = seen.free;
  others = λ k d low. ⊎_elim (λ (e : k ≡ i). inr
      (subst (λ (x : ℤ). 0 < positions x) (sym (at_index lits i k d l e within at)) down)) (λ (apart : k ≡ i → ⊥).
      seen.others k d (omega arith)) (cases_eq k i);
}

-- the first literal without a value
pub seen_left : (positions : ℤ → ℕ) (lits : List ℤ) (i : ℕ) (l : ℤ) → i < length lits → slice_index_or lits i l ≡ l →
    positions l ≡ 0 → positions (opposite l) ≡ 0 → HasSeen positions lits i None →
    HasSeen positions lits (i + 1) (Some l)
seen_left positions lits i l within at up free seen = record {
  index = i;
  early = omega arith;
  inside = within;
  here = λ d. at_index lits i i d l refl within at;
  up = up;
  free = free;
  others = λ k d low. ⊎_elim (λ (e : k ≡ i). inl (at_index lits i k d l e within at)) (λ (apart : k ≡ i → ⊥). inr (seen.each k d (omega arith))) (cases_eq k i);
}

-- at the end
pub seen_all : (positions : ℤ → ℕ) (lits : List ℤ) (i : ℕ) → length lits ≤ i → HasSeen positions lits i None → All (λ m. 0 < positions m) lits
seen_all positions lits i done seen = λ k d low. seen.each k d (omega arith)

pub seen_one : (positions : ℤ → ℕ) (lits : List ℤ) (i : ℕ) (l : ℤ) → length lits ≤ i → HasSeen positions lits i (Some l) → IsUnit positions lits l
seen_one positions lits i l done seen = record {
  there = (seen.index, seen.inside, seen.here l);
  up = seen.up;
  down = seen.free;
  others = λ k d low. seen.others k d (omega arith);
}

-- a true literal settles a clause, since it is neither false nor free
pub settled_by_true : (positions : ℤ → ℕ) (lits : List ℤ) (l : ℤ) → Contains lits l → positions l ≡ 0 → 0 < positions (opposite l) → IsSettled positions lits
settled_by_true positions lits l there up true_now = record {
  not_false = λ all. (let down : 0 < positions l = All-contains (λ m. 0 < positions m) lits l all there in omega arith);
  not_unit = λ u none free all. ⊎_elim (λ (e : l ≡ u). (let h : positions (opposite l) ≡ positions (opposite u) =
      ap (λ (x : ℤ). positions (opposite x)) e in omega arith)) (λ (down : 0 < positions l). omega arith)
      (All-contains (λ m. (m ≡ u) ⊎ (0 < positions m)) lits l all there);
}

-- and so do two that aren't false
pub settled_by_two : (positions : ℤ → ℕ) (lits : List ℤ) (i : ℕ) (l m : ℤ) → IsClause lits → i < length lits →
    slice_index_or lits i l ≡ l → positions l ≡ 0 → HasSeen positions lits i (Some m) → IsSettled positions lits
settled_by_two positions lits i l m clause within at up seen = record {
  not_false = λ all_down. (let down : 0 < positions l = subst (λ (x : ℤ). 0 < positions x) at (all_down i l within) in omega arith);
  not_unit = λ u none free_u units.
      ⊎_elim
      (λ (l_is : l ≡ u). ⊎_elim (λ (m_is : m ≡ u). apart (m_is ∙ sym l_is)) (λ (down : 0 < positions m).
      (let e : positions m ≡ 0 = seen.up in omega arith)) (subst (λ (x : ℤ). (x ≡ u) ⊎
      (0 < positions x)) (seen.here m) (units seen.index m seen.inside)))
      (λ (down : 0 < positions l). omega arith)
      (subst (λ (x : ℤ). (x ≡ u) ⊎ (0 < positions x)) at (units i l within));
}
  where
    apart : m ≡ l → ⊥
    apart same = clause.differ seen.index i l seen.early within (ap variable (seen.here l ∙ same ∙ sym at))

pub ruleset judging = (common_steps, seen_none, seen_down, seen_left, seen_all, seen_one, settled_by_true, settled_by_two)

-- The unit clause is the reason of its literal.
pub left_implies : (live : ℕ → Option (List ℤ)) (t : TrailState) (id : ℕ) (row : List ℤ) (l : ℤ) → IsTrail t →
    AreMembersOf live id row → IsUnit (falsified_at t) row l → Implies live (falsified_at t) (length t.lits) l id
left_implies live t id row l trail read left = record {
  clause = read.clause;
  is_live = read.is_live;
  there = (read.same l).0 left.there;
  others = all_of_members (λ m. (m ≡ l) ⊎ IsFalsifiedUpTo (falsified_at t) (length t.lits) m) row read.clause read.same
      (λ k d low. ⊎_elim (λ (e : slice_index_or row k d ≡ l). inl e)
      (λ (down : 0 < falsified_at t (slice_index_or row k d)).
      inr (down, trail.positions.within (slice_index_or row k d))) (left.others k d low));
}

-- A clause all of whose literals are false is falsified.
pub row_falsified : (live : ℕ → Option (List ℤ)) (positions : ℤ → ℕ) (id : ℕ) (row : List ℤ) → AreMembersOf live id row → All (λ m. 0 < positions m) row → IsFalsified live positions id
row_falsified live positions id row read down = record {
  clause = read.clause;
  is_live = read.is_live;
  falsified = all_of_members (λ m. 0 < positions m) row read.clause read.same down;
}
