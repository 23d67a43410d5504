-- Extension of the trail: by one literal with its reason, and step by step.
use Rattle.std.proofs.Common.{◌≡◌, ℕ, ◌+◌, ◌<◌, ◌≤◌, ℤ, List, [], ◌∷◌, ◌++◌, length, slice_index_or, Option, sym, ap, ◌∙◌, arith, refl}
use Rattle.std.proofs.Math.Logic.{⊎_elim}
use Rattle.std.proofs.lemmas.Bool.{cases_lt}
use Rattle.std.proofs.lemmas.List.{get_or_append_left, get_or_push, length_push, get_or-set_other, get_or-set_same}
use Rattle.sat_theory.specs.Formula.{variable, opposite}
use Rattle.cdcl_theory.specs.Codes.{code_of}
use Rattle.cdcl_theory.specs.CodeLaws.{code_of-room, variable-opposite, opposite-opposite, same_variable, position_in-set}
use Rattle.cdcl_theory.specs.Propagation.{Implies, SameFalsified}
use Rattle.cdcl_theory.specs.PropagationLaws.{same_self, same_trans, same_less, implies_kept}
use Rattle.cdcl_theory.specs.Trails.{TrailState, falsified_at, reason_of, IsTrail, pushed, HasReason, IsGrown}
use Rattle.cdcl_theory.specs.TrailLaws.{place_at, same_push}
use Rattle.trail_core.specs.Values.{IsFree}

pub same_pushed : (t : TrailState) (l : ℤ) (r : ℕ) → IsTrail t → variable l ≤ t.vars → falsified_at t (opposite l) ≡ 0 → SameFalsified (length t.lits) (falsified_at t) (falsified_at (pushed t l r))
same_pushed t l r trail small down =
    let room : code_of (opposite l) < length t.table = rw trail.table_room (code_of-room (opposite l) t.vars (rw variable-opposite small)) in
    rw (position_in-set t.table (opposite l) (length t.lits + 1) room) (same_push t.lits (falsified_at t) l down)

-- a trail literal has another variable than a free one
pub apart_free : (t : TrailState) (p : ℕ) (d l : ℤ) → IsTrail t → p < length t.lits → IsFree t l → variable (slice_index_or t.lits p d) ≡ variable l → ⊥
apart_free t p d l trail within free same =
    let down : falsified_at t (opposite (slice_index_or t.lits p d)) ≡ p + 1 = place_at t.lits (falsified_at t) p d (slice_index_or t.lits p d) trail.positions within refl in
    let none : falsified_at t l ≡ 0 = free.0 in
    let none_too : falsified_at t (opposite l) ≡ 0 = free.1 in
    ⊎_elim
    (λ (e : slice_index_or t.lits p d ≡ l). (let h : falsified_at t (opposite (slice_index_or t.lits p d)) ≡
    falsified_at t (opposite l) = ap (λ (x : ℤ). falsified_at t (opposite x)) e in omega arith))
    (λ (e : slice_index_or t.lits p d ≡ opposite l). (let h : falsified_at t (opposite (slice_index_or t.lits p d)) ≡
    falsified_at t l = ap (λ (x : ℤ). falsified_at t (opposite x)) e ∙ ap (falsified_at t) (opposite-opposite l) in
    omega arith))
    (same_variable (slice_index_or t.lits p d) l same)

pub reason_other : (t : TrailState) (p r : ℕ) (d l : ℤ) → IsTrail t → p < length t.lits → IsFree t l → reason_of (pushed t l r) (slice_index_or t.lits p d) ≡ reason_of t (slice_index_or t.lits p d)
reason_other t p r d l trail within free = get_or-set_other t.reasons (variable l) (variable (slice_index_or t.lits p d)) r 0 (λ same. apart_free t p d l trail within free same)

pub reason_new : (t : TrailState) (r : ℕ) (l : ℤ) → IsTrail t → variable l ≤ t.vars → reason_of (pushed t l r) l ≡ r
reason_new t r l trail small = get_or-set_same t.reasons (variable l) r 0 (let room : length t.reasons ≡ t.vars + 1 = trail.reasons_room in omega arith)

-- the old reasons are still reasons
pub reason_pushed : (live : ℕ → Option (List ℤ)) (t : TrailState) (l : ℤ) (r p : ℕ) → IsTrail t → variable l ≤ t.vars →
    IsFree t l → p < length t.lits → HasReason live t p → HasReason live (pushed t l r) p
reason_pushed live t l r p trail small free within reason = record {
  implied = λ d.
      rw (get_or_append_left t.lits (l ∷ []) d p within, reason_other t p r d l trail within free)
      (implies_kept live (length t.lits) p (falsified_at t) (falsified_at (pushed t l r)) (slice_index_or t.lits p d)
      (reason_of t (slice_index_or t.lits p d)) (same_pushed t l r trail small free.1) (omega arith)
      (reason.implied d));
}

-- and the new literal has its own
pub reason_last : (live : ℕ → Option (List ℤ)) (t : TrailState) (l : ℤ) (id : ℕ) → IsTrail t → variable l ≤ t.vars →
    IsFree t l → Implies live (falsified_at t) (length t.lits) l id → HasReason live (pushed t l id) (length t.lits)
reason_last live t l id trail small free implies = record {
  implied = λ d.
      rw (get_or_push t.lits l d (length t.lits) refl, reason_new t id l trail small)
      (implies_kept live (length t.lits) (length t.lits) (falsified_at t) (falsified_at (pushed t l id)) l id (same_pushed t l id trail small free.1) (omega arith) implies);
}

pub grown_self : (live : ℕ → Option (List ℤ)) (t : TrailState) → IsGrown live t t
grown_self live t = record {
  vars = refl;
  longer = omega arith;
  lits = λ p d within. refl;
  same = same_self (length t.lits) (falsified_at t);
  old_reasons = λ p d within. refl;
  new_reasons = λ p low within. absurd (omega arith);
}

pub grown_pushed : (live : ℕ → Option (List ℤ)) (t : TrailState) (l : ℤ) (id : ℕ) → IsTrail t → variable l ≤ t.vars →
    IsFree t l → Implies live (falsified_at t) (length t.lits) l id → IsGrown live t (pushed t l id)
grown_pushed live t l id trail small free implies = record {
  vars = refl;
  longer = rw length_push (omega arith);
  lits = λ p d within. get_or_append_left t.lits (l ∷ []) d p within;
  same = same_pushed t l id trail small free.1;
  old_reasons = λ p d within. reason_other t p id d l trail within free;
  new_reasons = λ p low within. (let long : length (t.lits ++ l ∷ []) ≡ length t.lits + 1 = length_push t.lits l in
      let here : p ≡ length t.lits = omega arith in rw here (reason_last live t l id trail small free implies));
}

pub grown_trans : (live : ℕ → Option (List ℤ)) (a b c : TrailState) → IsGrown live a b → IsGrown live b c → IsGrown live a c
grown_trans live a b c first second = record {
  vars = second.vars ∙ first.vars;
  longer = (let m : length a.lits ≤ length b.lits = first.longer in let n : length b.lits ≤ length c.lits = second.longer in omega arith);
  lits = λ p d within. second.lits p d (longer_first p within) ∙ first.lits p d within;
  same = same_trans (length a.lits) (falsified_at a) (falsified_at b) (falsified_at c) first.same
      (same_less (length a.lits) (length b.lits) (falsified_at b) (falsified_at c) first.longer second.same);
  old_reasons = λ p d within.
      ap (reason_of c) (sym (first.lits p d within)) ∙ second.old_reasons p d (longer_first p within) ∙ ap (reason_of b) (first.lits p d within) ∙ first.old_reasons p d within;
  new_reasons = λ p low within. ⊎_elim (λ (early : p < length b.lits). kept p low early) (λ (late : length b.lits ≤ p). second.new_reasons p late within) (cases_lt p (length b.lits));
}
  where
    longer_first : (p : ℕ) → p < length a.lits → p < length b.lits
    longer_first p within = (let m : length a.lits ≤ length b.lits = first.longer in omega arith)

    kept : (p : ℕ) → length a.lits ≤ p → p < length b.lits → HasReason live c p
    kept p low early =
        let reason : HasReason live b p = first.new_reasons p low early in
        record {
          implied = λ d.
              rw (second.lits p d early, second.old_reasons p d early)
              (implies_kept live (length b.lits) p (falsified_at b) (falsified_at c) (slice_index_or b.lits p d)
              (reason_of b (slice_index_or b.lits p d)) second.same (omega arith) (reason.implied d));
        }
