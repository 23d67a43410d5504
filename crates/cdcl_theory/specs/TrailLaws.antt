-- Laws of assigning literals and of backtracking.
use Rattle.std.specs.Prelude.{◌≡◌, ℕ, zero, suc, ◌+◌, ◌-◌, ◌*◌, ◌<◌, ◌≤◌, ◌==◌, ◌⊎◌, ℤ, true, false, List, [], ◌∷◌}
use Rattle.std.specs.Prelude.{◌++◌, length, count_by, slice_index_or, slice_set, replicate, Contains, All, Option, Some}
use Rattle.std.specs.Prelude.{IsSome, refl}
use Rattle.std.proofs.Common.{sym, ap, ◌∙◌, subst, arith, cond, inl, inr}
use Rattle.std.proofs.Math.Logic.{⊎_elim}
use Rattle.std.proofs.lemmas.Bool.{cases_lt, eq-eqb, ne_eqb}
use Rattle.std.proofs.lemmas.List.{get_or_append_left, get_or_push, length_push, length-set, length-replicate}
use Rattle.std.proofs.lemmas.List.Elements.{All-push, All-contains}
use Rattle.std.proofs.lemmas.List.Sums.{sum_by-set, sum_by-cons}
use Rattle.sat_theory.specs.Formula.{variable, opposite}
use Rattle.cdcl_theory.specs.Codes.{code_of, position_in, with_position}
use Rattle.cdcl_theory.specs.CodeLaws.{code_of-room, opposite-opposite, opposite-differs, variable-opposite, cases_literal, with_position-same, with_position-other, position_in-set, position_in-none}
use Rattle.cdcl_theory.specs.Propagation.{IsFalsifiedUpTo, Implies, SameFalsified}
use Rattle.cdcl_theory.specs.PropagationLaws.{same_trans, same_less}
use Rattle.cdcl_theory.specs.Trails.{TrailState, falsified_at, reason_of, ArePositions, IsTrail, HasReason, IsExplained, IsLayered, pushed, IsBacktracked}

-- the opposite of the literal at trail index p has the position p + 1
pub place_at : (lits : List ℤ) (positions : ℤ → ℕ) (p : ℕ) (d l : ℤ) → ArePositions lits positions → p < length lits → slice_index_or lits p d ≡ l → positions (opposite l) ≡ p + 1
place_at lits positions p d l are within is = subst (λ (m : ℤ). positions (opposite m) ≡ p + 1) is (are.placed p d within)

-- a literal on the trail isn't false
pub true_not_falsified : (lits : List ℤ) (positions : ℤ → ℕ) (p : ℕ) (d l : ℤ) → ArePositions lits positions → p < length lits → slice_index_or lits p d ≡ l → positions l ≡ 0
true_not_falsified lits positions p d l are within is =
    let at : positions (opposite l) ≡ p + 1 = place_at lits positions p d l are within is in
    let up : positions (opposite (opposite l)) ≡ 0 = are.one_side (opposite l) (omega arith) in
    rw opposite-opposite at up

-- the literal at position p + 1 is the opposite of the one at trail index p
pub falsified_at_index : (lits : List ℤ) (positions : ℤ → ℕ) (p : ℕ) (d m : ℤ) → ArePositions lits positions → positions m ≡ p + 1 → m ≡ opposite (slice_index_or lits p d)
falsified_at_index lits positions p d m are at =
    let found : slice_index_or lits (positions m - 1) d ≡ opposite m = are.found m d (omega arith) in
    let index : positions m - 1 ≡ p = omega arith in
    let found_at : slice_index_or lits p d ≡ opposite m = rw index at found in
    sym (ap opposite found_at ∙ opposite-opposite m)

-- A literal without a value is assigned.
pub positions_push : (lits : List ℤ) (positions : ℤ → ℕ) (t : ℤ) → ArePositions lits positions → 0 < variable t →
    positions t ≡ 0 → positions (opposite t) ≡ 0 →
    ArePositions (lits ++ t ∷ []) (with_position positions (opposite t) (length lits + 1))
positions_push lits positions t are some up down = record {
  placed = λ p d within. placed p d (let e : length (lits ++ t ∷ []) ≡ length lits + 1 = length_push lits t in omega arith);
  within = λ l. ⊎_elim
      (λ (same : l ≡ opposite t). rw (with_position-same positions (opposite t) l (length lits + 1) same, length_push lits t) (omega arith))
      (λ (apart : l ≡ opposite t → ⊥). rw (
        with_position-other positions (opposite t) l (length lits + 1) apart,
        length_push lits t,
      ) (let low : positions l ≤ length lits = are.within l in omega arith))
      (cases_literal l (opposite t));
  found = λ l d falsified. found l d falsified;
  one_side = λ l falsified. one_side l falsified;
}
  where
    new : ℤ → ℕ
    new = with_position positions (opposite t) (length lits + 1)

    placed : (p : ℕ) (d : ℤ) → p < length lits + 1 → new (opposite (slice_index_or (lits ++ t ∷ []) p d)) ≡ p + 1
    placed p d within =
        ⊎_elim
        (λ (low : p < length lits).
        let same : slice_index_or (lits ++ t ∷ []) p d ≡ slice_index_or lits p d = get_or_append_left lits (t ∷ []) d p low in
        let at : positions (opposite (slice_index_or lits p d)) ≡ p + 1 = are.placed p d low in
        let apart : opposite (slice_index_or lits p d) ≡ opposite t → ⊥ = λ e. (let h : positions (opposite (slice_index_or lits p d)) ≡ positions (opposite t) = ap positions e in omega arith) in
        rw (same, with_position-other positions (opposite t) (opposite (slice_index_or lits p d)) (length lits + 1) apart) at)
        (λ (high : length lits ≤ p).
        let last : length lits ≡ p = omega arith in
        let is : slice_index_or (lits ++ t ∷ []) p d ≡ t = get_or_push lits t d p last in
        with_position-same positions (opposite t) (opposite (slice_index_or (lits ++ t ∷ []) p d)) (length lits + 1) (ap opposite is) ∙ ap (λ (n : ℕ). n + 1) last)
        (cases_lt p (length lits))

    found : (l d : ℤ) → 0 < new l → slice_index_or (lits ++ t ∷ []) (new l - 1) d ≡ opposite l
    found l d falsified =
        ⊎_elim
        (λ (same : l ≡ opposite t).
        let e : new l ≡ length lits + 1 = with_position-same positions (opposite t) l (length lits + 1) same in
        let index : new l - 1 ≡ length lits = omega arith in
        rw index (get_or_push lits t d (length lits) refl ∙ sym (ap opposite same ∙ opposite-opposite t)))
        (λ (apart : l ≡ opposite t → ⊥).
        let e : new l ≡ positions l = with_position-other positions (opposite t) l (length lits + 1) apart in
        let low : positions l ≤ length lits = are.within l in
        let here : 0 < positions l = omega arith in
        rw e (get_or_append_left lits (t ∷ []) d (positions l - 1) (omega arith) ∙ are.found l d here))
        (cases_literal l (opposite t))

    one_side : (l : ℤ) → 0 < new l → new (opposite l) ≡ 0
    one_side l falsified =
        ⊎_elim
        (λ (same : l ≡ opposite t).
        let is_t : opposite l ≡ t = ap opposite same ∙ opposite-opposite t in
        let apart : opposite l ≡ opposite t → ⊥ = λ e. opposite-differs t some (sym e ∙ is_t) in
        with_position-other positions (opposite t) (opposite l) (length lits + 1) apart ∙ ap positions is_t ∙ up)
        (λ (apart : l ≡ opposite t → ⊥).
        let e : new l ≡ positions l = with_position-other positions (opposite t) l (length lits + 1) apart in
        let here : 0 < positions l = omega arith in
        let apart_too : opposite l ≡ opposite t → ⊥ =
        λ h. (let same : l ≡ t = sym (opposite-opposite l) ∙ ap opposite h ∙ opposite-opposite t in
        let g : positions l ≡ 0 = ap positions same ∙ up in omega arith) in
        with_position-other positions (opposite t) (opposite l) (length lits + 1) apart_too ∙ are.one_side l here)
        (cases_literal l (opposite t))

-- The last literal is unassigned.
pub positions_pop : (lits all : List ℤ) (positions : ℤ → ℕ) (t : ℤ) → all ≡ lits ++ t ∷ [] → ArePositions all positions → 0 < variable t → ArePositions lits (with_position positions (opposite t) 0)
positions_pop lits all positions t split are some = record {
  placed = λ p d low. rw (with_position-other positions (opposite t) (opposite (slice_index_or lits p d)) 0
      (λ e. (let h : positions (opposite (slice_index_or lits p d)) ≡ positions (opposite t) = ap positions e in
      let g : positions (opposite (slice_index_or lits p d)) ≡ p + 1 = old p d low in omega (arith, h, g, last))))
      (old p d low);
  within = λ l. ⊎_elim
      (λ (same : l ≡ opposite t). rw (with_position-same positions (opposite t) l 0 same) (omega arith))
      (λ (apart : l ≡ opposite t → ⊥). rw (with_position-other positions (opposite t) l 0 apart) (low_now l apart))
      (cases_literal l (opposite t));
  found = λ l d falsified. ⊎_elim
      (λ (same : l ≡ opposite t). absurd (let e : with_position positions (opposite t) 0 l ≡ 0 = with_position-same positions (opposite t) l 0 same in omega arith))
      (λ (apart : l ≡ opposite t → ⊥).
      let e : with_position positions (opposite t) 0 l ≡ positions l = with_position-other positions (opposite t) l 0 apart in
      let here : 0 < positions l = omega arith in
      let low : positions l ≤ length lits = low_now l apart in
      let index : positions l - 1 < length lits = omega arith in
      let was : slice_index_or (lits ++ t ∷ []) (positions l - 1) d ≡ opposite l = subst (λ (xs : List ℤ). slice_index_or xs (positions l - 1) d ≡ opposite l) split (are.found l d here) in
      rw e (sym (get_or_append_left lits (t ∷ []) d (positions l - 1) index) ∙ was))
      (cases_literal l (opposite t));
  one_side = λ l falsified. ⊎_elim
      (λ (same : l ≡ opposite t). absurd (let e : with_position positions (opposite t) 0 l ≡ 0 = with_position-same positions (opposite t) l 0 same in omega arith))
      (λ (apart : l ≡ opposite t → ⊥).
      let e : with_position positions (opposite t) 0 l ≡ positions l = with_position-other positions (opposite t) l 0 apart in
      let here : 0 < positions l = omega arith in
      let zero_ : positions (opposite l) ≡ 0 = are.one_side l here in
      let apart_too : opposite l ≡ opposite t → ⊥ = λ h. (let g : positions (opposite l) ≡ positions (opposite t) = ap positions h in omega (arith, g, zero_, last)) in
      with_position-other positions (opposite t) (opposite l) 0 apart_too ∙ zero_)
      (cases_literal l (opposite t));
}
  where
    long : length all ≡ length lits + 1
    long = ap length split ∙ length_push lits t

    at_last : (d : ℤ) → slice_index_or all (length lits) d ≡ t
    at_last d = ap (λ (xs : List ℤ). slice_index_or xs (length lits) d) split ∙ get_or_push lits t d (length lits) refl

    last : positions (opposite t) ≡ length lits + 1
    last = place_at all positions (length lits) t t are (omega (arith, long)) (at_last t)

    old : (p : ℕ) (d : ℤ) → p < length lits → positions (opposite (slice_index_or lits p d)) ≡ p + 1
    old p d low = place_at all positions p d (slice_index_or lits p d) are (omega (arith, long)) (ap (λ (xs : List ℤ). slice_index_or xs p d) split ∙ get_or_append_left lits (t ∷ []) d p low)

    low_now : (l : ℤ) → (l ≡ opposite t → ⊥) → positions l ≤ length lits
    low_now l apart =
        let high : positions l ≤ length all = are.within l in
        let not_last : positions l ≡ length lits + 1 → ⊥ = λ e. apart (falsified_at_index all positions (length lits) t l are e ∙ ap opposite (at_last t)) in
        omega (arith, long, high, not_last)

-- positions up to the length of the trail are unchanged
pub same_push : (lits : List ℤ) (positions : ℤ → ℕ) (t : ℤ) → positions (opposite t) ≡ 0 → SameFalsified (length lits) positions (with_position positions (opposite t) (length lits + 1))
same_push lits positions t down = record {
  there = λ p l low is. ⊎_elim
      (λ (same : l ≡ opposite t). absurd (let e : positions l ≡ 0 = ap positions same ∙ down in let h : 0 < positions l = is.0 in omega arith))
      (λ (apart : l ≡ opposite t → ⊥). rw (with_position-other positions (opposite t) l (length lits + 1) apart) is)
      (cases_literal l (opposite t));
  back = λ p l low is. ⊎_elim
      (λ (same : l ≡ opposite t). absurd (let e : with_position positions (opposite t) (length lits + 1) l ≡
      length lits + 1 = with_position-same positions (opposite t) l (length lits + 1) same in
      let h : with_position positions (opposite t) (length lits + 1) l ≤ p = is.1 in omega arith))
      (λ (apart : l ≡ opposite t → ⊥). rw (with_position-other positions (opposite t) l (length lits + 1) apart) at is)
      (cases_literal l (opposite t));
}

pub same_pop : (n : ℕ) (positions : ℤ → ℕ) (t : ℤ) → positions (opposite t) ≡ n + 1 → SameFalsified n positions (with_position positions (opposite t) 0)
same_pop n positions t last = record {
  there = λ p l low is. ⊎_elim
      (λ (same : l ≡ opposite t). absurd (let e : positions l ≡ n + 1 = ap positions same ∙ last in let h : positions l ≤ p = is.1 in omega arith))
      (λ (apart : l ≡ opposite t → ⊥). rw (with_position-other positions (opposite t) l 0 apart) is)
      (cases_literal l (opposite t));
  back = λ p l low is. ⊎_elim
      (λ (same : l ≡ opposite t). absurd (let e : with_position positions (opposite t) 0 l ≡ 0 =
      with_position-same positions (opposite t) l 0 same in let h : 0 < with_position positions (opposite t) 0 l =
      is.0 in omega arith))
      (λ (apart : l ≡ opposite t → ⊥). rw (with_position-other positions (opposite t) l 0 apart) at is)
      (cases_literal l (opposite t));
}

zeros_set : (table : List ℕ) (i y : ℕ) → i < length table → slice_index_or table i 0 ≡ 0 → 0 < y → count_by (λ x. x == 0) (slice_set table i y) + 1 ≡ count_by (λ x. x == 0) table
zeros_set table i y room was some =
    let moved : count_by (λ x. x == 0) (slice_set table i y) + cond {A = ℕ} (slice_index_or table i 0 == 0) 1 0 ≡
    count_by (λ x. x == 0) table + cond {A = ℕ} (y == 0) 1 0 =
    sum_by-set (λ (x : ℕ). cond (x == 0) 1 0) table i y 0 room in
    let now : (y == 0) ≡ false = ne_eqb y 0 (λ e. omega arith) in
    let before : (slice_index_or table i 0 == 0) ≡ true = eq-eqb (slice_index_or table i 0) 0 was in
    let e : cond {A = ℕ} (slice_index_or table i 0 == 0) 1 0 ≡ 1 = rw before refl in
    let z : cond {A = ℕ} (y == 0) 1 0 ≡ 0 = rw now refl in
    omega arith

zeros_unset : (table : List ℕ) (i : ℕ) → i < length table → 0 < slice_index_or table i 0 → count_by (λ x. x == 0) (slice_set table i 0) ≡ count_by (λ x. x == 0) table + 1
zeros_unset table i room was =
    let moved : count_by (λ x. x == 0) (slice_set table i 0) + cond {A = ℕ} (slice_index_or table i 0 == 0) 1 0 ≡
    count_by (λ x. x == 0) table + cond {A = ℕ} (0 == 0) 1 0 =
    sum_by-set (λ (x : ℕ). cond (x == 0) 1 0) table i 0 0 room in
    let before : (slice_index_or table i 0 == 0) ≡ false = ne_eqb (slice_index_or table i 0) 0 (λ e. omega arith) in
    let e : cond {A = ℕ} (slice_index_or table i 0 == 0) 1 0 ≡ 0 = rw before refl in
    omega arith

place_entry : (table : List ℕ) (l : ℤ) → position_in table l ≡ slice_index_or table (code_of l) 0
unfolding position_in
place_entry table l = refl

-- The invariant of trails holds after an assignment,
pub trail_push : (t : TrailState) (l : ℤ) (reason : ℕ) → IsTrail t → 0 < variable l → variable l ≤ t.vars → falsified_at t l ≡ 0 → falsified_at t (opposite l) ≡ 0 → IsTrail (pushed t l reason)
trail_push t l reason trail some small up down =
    let room : code_of (opposite l) < length t.table = rw trail.table_room (code_of-room (opposite l) t.vars (rw variable-opposite small)) in
    record {
      positions = rw (position_in-set t.table (opposite l) (length t.lits + 1) room) (positions_push t.lits (falsified_at t) l trail.positions some up down);
      variables = All-push (λ m. (0 < variable m) × (variable m ≤ t.vars)) t.lits l trail.variables (some, small);
      table_room = length-set t.table (code_of (opposite l)) (length t.lits + 1) ∙ trail.table_room;
      reasons_room = length-set t.reasons (variable l) reason ∙ trail.reasons_room;
      room =
          let zero_ : slice_index_or t.table (code_of (opposite l)) 0 ≡ 0 = sym (place_entry t.table (opposite l)) ∙ down in
          let less : count_by (λ x. x == 0) (slice_set t.table (code_of (opposite l)) (length t.lits + 1)) + 1 ≡
          count_by (λ x. x == 0) t.table = zeros_set t.table (code_of (opposite l)) (length t.lits + 1) room zero_
          (omega arith) in
          let same : length (slice_set t.table (code_of (opposite l)) (length t.lits + 1)) ≡ length t.table = length-set t.table (code_of (opposite l)) (length t.lits + 1) in
          let long : length (t.lits ++ l ∷ []) ≡ length t.lits + 1 = length_push t.lits l in
          let before : length t.lits + count_by (λ x. x == 0) t.table ≡ length t.table = trail.room in
          omega arith;
      few = trail.few;
    }

-- and after the last literal is unassigned.
pub trail_pop : (t : TrailState) (lits : List ℤ) (l : ℤ) → IsTrail t → t.lits ≡ lits ++ l ∷ [] →
    IsTrail (record {
      vars = t.vars;
      lits = lits;
      table = slice_set t.table (code_of (opposite l)) 0;
      reasons = t.reasons;
    })
trail_pop t lits l trail split =
    let long : length t.lits ≡ length lits + 1 = ap length split ∙ length_push lits l in
    let at_last : slice_index_or t.lits (length lits) l ≡ l = ap (λ (xs : List ℤ). slice_index_or xs (length lits) l) split ∙ get_or_push lits l l (length lits) refl in
    let here : (0 < variable l) × (variable l ≤ t.vars) = subst (λ (m : ℤ). (0 < variable m) × (variable m ≤ t.vars)) at_last (trail.variables (length lits) l (omega arith)) in
    let small : variable l ≤ t.vars = here.1 in
    let room : code_of (opposite l) < length t.table = rw trail.table_room (code_of-room (opposite l) t.vars (rw variable-opposite small)) in
    let last : falsified_at t (opposite l) ≡ length lits + 1 = place_at t.lits (falsified_at t) (length lits) l l trail.positions (omega arith) at_last in
    let entry : slice_index_or t.table (code_of (opposite l)) 0 ≡ length lits + 1 = sym (place_entry t.table (opposite l)) ∙ last in
    let more : count_by (λ x. x == 0) (slice_set t.table (code_of (opposite l)) 0) ≡ count_by (λ x. x == 0) t.table + 1 = zeros_unset t.table (code_of (opposite l)) room (omega arith) in
    let same : length (slice_set t.table (code_of (opposite l)) 0) ≡ length t.table = length-set t.table (code_of (opposite l)) 0 in
    let before : length t.lits + count_by (λ x. x == 0) t.table ≡ length t.table = trail.room in
    record {
      positions = rw (position_in-set t.table (opposite l) 0 room) (positions_pop lits t.lits (falsified_at t) l split trail.positions here.0);
      variables = λ k d low. subst (λ (m : ℤ). (0 < variable m) ×
          (variable m ≤ t.vars)) (ap (λ (xs : List ℤ). slice_index_or xs k d) split
          ∙ get_or_append_left lits (l ∷ []) d k low) (trail.variables k d (omega arith));
      table_room = same ∙ trail.table_room;
      reasons_room = trail.reasons_room;
      room = omega arith;
      few = trail.few;
    }

pub back_pop : (t : TrailState) (lits : List ℤ) (l : ℤ) → IsTrail t → t.lits ≡ lits ++ l ∷ [] →
    IsBacktracked (length lits) t (record {
      vars = t.vars;
      lits = lits;
      table = slice_set t.table (code_of (opposite l)) 0;
      reasons = t.reasons;
    })
back_pop t lits l trail split =
    let long : length t.lits ≡ length lits + 1 = ap length split ∙ length_push lits l in
    let at_last : slice_index_or t.lits (length lits) l ≡ l = ap (λ (xs : List ℤ). slice_index_or xs (length lits) l) split ∙ get_or_push lits l l (length lits) refl in
    let here : (0 < variable l) × (variable l ≤ t.vars) = subst (λ (m : ℤ). (0 < variable m) × (variable m ≤ t.vars)) at_last (trail.variables (length lits) l (omega arith)) in
    let small : variable l ≤ t.vars = here.1 in
    let room : code_of (opposite l) < length t.table = rw trail.table_room (code_of-room (opposite l) t.vars (rw variable-opposite small)) in
    let last : falsified_at t (opposite l) ≡ length lits + 1 = place_at t.lits (falsified_at t) (length lits) l l trail.positions (omega arith) at_last in
    record {
      vars = refl;
      reasons = refl;
      short = refl;
      lits = λ p d low. sym (ap (λ (xs : List ℤ). slice_index_or xs p d) split ∙ get_or_append_left lits (l ∷ []) d p low);
      same = rw (position_in-set t.table (opposite l) 0 room) (same_pop (length lits) (falsified_at t) l last);
    }

pub back_trans : (m n : ℕ) (a b c : TrailState) → n ≤ m → IsBacktracked m a b → IsBacktracked n b c → IsBacktracked n a c
back_trans m n a b c low first second = record {
  vars = second.vars ∙ first.vars;
  reasons = second.reasons ∙ first.reasons;
  short = second.short;
  lits = λ p d less. second.lits p d less ∙ first.lits p d (omega arith);
  same = same_trans n (falsified_at a) (falsified_at b) (falsified_at c) (same_less n m (falsified_at a) (falsified_at b) low first.same) second.same;
}

-- the empty trail
pub trail_none : (vars : ℕ) → vars < 1000000000 → IsTrail (record { vars = vars; lits = []; table = replicate (2 * vars + 2) 0; reasons = replicate (vars + 1) 0 })
trail_none vars few = record {
  positions = record {
    placed = λ p d (within : p < 0). absurd (omega arith);
    within = λ l. (let e : position_in (replicate (2 * vars + 2) 0) l ≡ 0 = position_in-none (2 * vars + 2) l in rw e (omega arith));
    found = λ l d falsified. absurd (let e : position_in (replicate (2 * vars + 2) 0) l ≡ 0 = position_in-none (2 * vars + 2) l in omega arith);
    one_side = λ l falsified. position_in-none (2 * vars + 2) (opposite l);
  };
  variables = λ k d (within : k < 0). absurd (omega arith);
  table_room = length-replicate (2 * vars + 2) 0;
  reasons_room = length-replicate (vars + 1) 0;
  room = all_zeros (2 * vars + 2);
  few = few;
}
  where
    all_zeros : (n : ℕ) → 0 + count_by (λ x. x == 0) (replicate {A = ℕ} n 0) ≡ length (replicate {A = ℕ} n 0)
    all_zeros zero = refl
    all_zeros (suc n) =
        let ih : 0 + count_by (λ x. x == 0) (replicate {A = ℕ} n 0) ≡ length (replicate {A = ℕ} n 0) = all_zeros n in
        let one : count_by (λ x. x == 0) (replicate {A = ℕ} (suc n) 0) ≡
        1 + count_by (λ x. x == 0) (replicate {A = ℕ} n 0) =
        sum_by-cons (λ (x : ℕ). cond {A = ℕ} (x == 0) 1 0) 0 (replicate {A = ℕ} n 0) in
        omega arith

-- A trail with levels is explained.
pub layered_explained : (live : ℕ → Option (List ℤ)) (t : TrailState) (starts : List ℕ) → IsLayered live t starts → IsExplained live t
layered_explained live t starts layered = record {
  whole = layered.whole;
  reasons = λ p d within. ⊎_elim (λ (start : Contains starts p). inl (layered.decisions p d start)) (λ (reason : HasReason live t p). inr reason) (layered.reasons p within);
}

-- A false literal other than the opposite of a decision is false by the reason of its opposite.
pub reason_falsified : (live : ℕ → Option (List ℤ)) (t : TrailState) (l : ℤ) → IsExplained live t → 0 < falsified_at t l → (reason_of t (opposite l) ≡ 0 → ⊥) → HasReason live t (falsified_at t l - 1)
reason_falsified live t l explained down some =
    ⊎_elim
    (λ (none : reason_of t (slice_index_or t.lits (falsified_at t l - 1) l) ≡ 0). absurd (some (sym (ap (reason_of t) at) ∙ none)))
    (λ (reason : HasReason live t (falsified_at t l - 1)). reason)
    (explained.reasons (falsified_at t l - 1) l (let high : falsified_at t l ≤ length t.lits = explained.whole.positions.within l in omega arith))
  where
    at : slice_index_or t.lits (falsified_at t l - 1) l ≡ opposite l
    at = explained.whole.positions.found l l down

pub implied_falsified : (live : ℕ → Option (List ℤ)) (t : TrailState) (l : ℤ) → IsExplained live t →
    0 < falsified_at t l → (reason_of t (opposite l) ≡ 0 → ⊥) →
    Implies live (falsified_at t) (falsified_at t l - 1) (opposite l) (reason_of t (opposite l))
implied_falsified live t l explained down some =
    subst (λ (m : ℤ). Implies live (falsified_at t) (falsified_at t l - 1) m (reason_of t m))
    (explained.whole.positions.found l l down) ((reason_falsified live t l explained down some).implied l)

-- That clause is live,
pub live_falsified : (live : ℕ → Option (List ℤ)) (t : TrailState) (l : ℤ) → IsExplained live t → 0 < falsified_at t l → (reason_of t (opposite l) ≡ 0 → ⊥) → IsSome (live (reason_of t (opposite l)))
live_falsified live t l explained down some = some_of (live (reason_of t (opposite l))) (implied_falsified live t l explained down some).clause (implied_falsified live t l explained down some).is_live
  where
    some_of : (o : Option (List ℤ)) (clause : List ℤ) → o ≡ Some clause → IsSome o
    some_of o clause is = rw is refl

-- and all its other literals are false.
pub others_falsified : (live : ℕ → Option (List ℤ)) (t : TrailState) (l m : ℤ) (clause : List ℤ) → IsExplained live t →
    0 < falsified_at t l → (reason_of t (opposite l) ≡ 0 → ⊥) → live (reason_of t (opposite l)) ≡ Some clause →
    Contains clause m → (m ≡ opposite l → ⊥) → 0 < falsified_at t m
others_falsified live t l m clause explained down some is there apart =
    ⊎_elim
    (λ (same : m ≡ opposite l). absurd (apart same))
    (λ (falsified : IsFalsifiedUpTo (falsified_at t) (falsified_at t l - 1) m). falsified.0)
    (All-contains (λ x. (x ≡ opposite l) ⊎ IsFalsifiedUpTo (falsified_at t) (falsified_at t l - 1) x) clause m all there)
  where
    implied : Implies live (falsified_at t) (falsified_at t l - 1) (opposite l) (reason_of t (opposite l))
    implied = implied_falsified live t l explained down some

    same_clause : implied.clause ≡ clause
    same_clause = let here : live (reason_of t (opposite l)) ≡ Some implied.clause = implied.is_live in cc

    all : All (λ x. (x ≡ opposite l) ⊎ IsFalsifiedUpTo (falsified_at t) (falsified_at t l - 1) x) clause
    all = subst (λ (c : List ℤ). All (λ x. (x ≡ opposite l) ⊎ IsFalsifiedUpTo (falsified_at t) (falsified_at t l - 1) x) c) same_clause implied.others
