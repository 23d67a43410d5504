-- The heap holds all variables without a value, throughout a search.
use Rattle.std.proofs.Common.{◌≡◌, ◌≢◌, ℕ, ◌+◌, ◌-◌, ◌<◌, ◌≤◌, ℤ, Bool, true, false, List, Option, length, slice_index_or, slice_set, subst, sym, ap, ◌∙◌, arith, refl}
use Rattle.std.proofs.Math.Logic.{⊎_elim}
use Rattle.std.proofs.lemmas.Bool.{cases_lt, cases_eq}
use Rattle.std.proofs.lemmas.List.{length-set, get_or-set_other, get_or-set_same}
use Rattle.sat_theory.specs.Formula.{variable, opposite}
use Rattle.cdcl_theory.specs.CodeLaws.{same_variable, opposite-opposite, variable-opposite}
use Rattle.cdcl_theory.specs.Propagation.{IsFalsifiedUpTo, SameFalsified}
use Rattle.cdcl_theory.specs.Trails.{TrailState, falsified_at, IsTrail, IsBacktracked, IsGrown, pushed}
use Rattle.cdcl_theory.specs.TrailLaws.{back_trans}
use Rattle.trail_core.specs.Values.{IsOver, IsFree}
use Rattle.var_heap.specs.Held.{Held, IsHeld}
use Rattle.cdcl_core.specs.declared.deciding.DecisionHeap.{DecisionHeap}
use Rattle.cdcl_core.specs.Deciding.{IsDecisionHeap}
use Rattle.cdcl_core.proofs.Growing.{same_pushed}
use Rattle.cdcl_core.proofs.Backjumps.{pushed_on}

-- both literals of a variable have no value, or neither
free_same : (t : TrailState) (l m : ℤ) → variable l ≡ variable m → IsFree t l → IsFree t m
free_same t l m same free =
    ⊎_elim
    (λ (e : l ≡ m). subst (IsFree t) e free)
    (λ (e : l ≡ opposite m).
    let here : IsFree t (opposite m) = subst (IsFree t) e free in
    (ap (falsified_at t) (sym (opposite-opposite m)) ∙ here.1, here.0))
    (same_variable l m same)

-- what has no value after further assignments had none before
free_before : (t new : TrailState) (l : ℤ) → IsTrail t → SameFalsified (length t.lits) (falsified_at t) (falsified_at new) → IsFree new l → IsFree t l
free_before t new l trail same free = (up l free.0, up (opposite l) free.1)
  where
    up : (m : ℤ) → falsified_at new m ≡ 0 → falsified_at t m ≡ 0
    up m none =
        ⊎_elim
        (λ (some : 0 < falsified_at t m). (let now : IsFalsifiedUpTo (falsified_at new) (length t.lits) m =
        same.there (length t.lits) m (omega arith) (some, trail.positions.within m) in
        let h : 0 < falsified_at new m = now.0 in absurd (omega (arith, h, none))))
        (λ (low : falsified_at t m ≤ 0). omega (arith, low))
        (cases_lt 0 (falsified_at t m))

-- So assignments may leave the heap unchanged.
pub choosing_more : (t new : TrailState) (c : DecisionHeap) → IsTrail t → new.vars ≡ t.vars →
    SameFalsified (length t.lits) (falsified_at t) (falsified_at new) → IsDecisionHeap t c → IsDecisionHeap new c
choosing_more t new c trail vars same deciding = record {
  vars = deciding.vars ∙ sym vars;
  room = λ v some low. deciding.room v some (omega (arith, low, vars));
  phases = deciding.phases ∙ ap (λ (n : ℕ). n + 1) (sym vars);
  held = λ l over free. deciding.held l (subst (λ (n : ℕ). IsOver n l) vars over) (free_before t new l trail same free);
}

pub choosing_grown : (live : ℕ → Option (List ℤ)) (t new : TrailState) (c : DecisionHeap) → IsTrail t → IsGrown live t new → IsDecisionHeap t c → IsDecisionHeap new c
choosing_grown live t new c trail grown deciding = choosing_more t new c trail grown.vars grown.same deciding

pub choosing_pushed : (t : TrailState) (l : ℤ) (r : ℕ) (c : DecisionHeap) → IsTrail t → variable l ≤ t.vars → IsFree t l → IsDecisionHeap t c → IsDecisionHeap (pushed t l r) c
choosing_pushed t l r c trail small free deciding = choosing_more t (pushed t l r) c trail refl (same_pushed t l r trail small free.1) deciding

-- a heap with other marks
abbrev marked_heap : Held → ℕ → Bool → Held
marked_heap h v b = record { vars = h.vars; scores = h.scores; marks = slice_set h.marks v b }

held_still : (h : Held) (v w : ℕ) (b : Bool) → w ≢ v → IsHeld h w → IsHeld (marked_heap h v b) w
held_still h v w b apart held = get_or-set_other h.marks v w b false apart ∙ held

-- And a variable that gets a value may leave the heap.
pub choosing_decided : (t : TrailState) (c d : DecisionHeap) (x : ℤ) (v r : ℕ) → IsTrail t → IsDecisionHeap t c →
    variable x ≡ v → IsOver t.vars x → IsFree t x → d.heap ≡ marked_heap c.heap v false →
    length d.phases.items ≡ length c.phases.items → IsDecisionHeap (pushed t x r) d
choosing_decided t c d x v r trail deciding var over free_x heap phases = record {
  vars = ap (λ (h : Held). h.vars) heap ∙ deciding.vars;
  room = λ w some low. rw (heap, length-set) (deciding.room w some low);
  phases = phases ∙ deciding.phases;
  held = λ l over_l free. rw heap (held_still c.heap v (variable l) false (λ same. not_x l (same ∙ sym var) free)
      (deciding.held l over_l (free_before t (pushed t x r) l trail (same_pushed t x r trail over.1 free_x.1) free)));
}
  where
    on : (falsified_at (pushed t x r) (opposite x) ≡ length t.lits + 1) × (falsified_at (pushed t x r) x ≡ 0)
    on = pushed_on t x r trail over free_x

    not_x : (l : ℤ) → variable l ≡ variable x → IsFree (pushed t x r) l → ⊥
    not_x l same free = (let here : IsFree (pushed t x r) x = free_same (pushed t x r) l x same free in let none : falsified_at (pushed t x r) (opposite x) ≡ 0 = here.1 in omega (arith, none, on.0))

-- the variables of the literals at trail indices in a range are held
pub record AreReleased (t : TrailState) (from end : ℕ) (c : DecisionHeap) : Type 0 where
  pub held : (p : ℕ) (d : ℤ) → from ≤ p → p < end → p < length t.lits → IsHeld c.heap (variable (slice_index_or t.lits p d))

-- If all from an index on are held, the trail may be cut back to there.
pub choosing_back : (t back : TrailState) (from end : ℕ) (c : DecisionHeap) → IsTrail t → length t.lits ≤ end →
    IsDecisionHeap t c → AreReleased t from end c → IsBacktracked from t back → IsDecisionHeap back c
choosing_back t back from end c trail all deciding released is_back = record {
  vars = deciding.vars ∙ sym is_back.vars;
  room = λ v some low. deciding.room v some (omega (arith, low, is_back.vars));
  phases = deciding.phases ∙ ap (λ (n : ℕ). n + 1) (sym is_back.vars);
  held = λ l over free. held_now l (subst (λ (n : ℕ). IsOver n l) is_back.vars over) free;
}
  where
    -- what lost its value is held
    lost : (l m : ℤ) → variable m ≡ variable l → falsified_at back m ≡ 0 → 0 < falsified_at t m → IsHeld c.heap (variable l)
    lost l m same none down =
        let high : falsified_at t m ≤ length t.lits = trail.positions.within m in
        let late : from < falsified_at t m = ⊎_elim
        (λ (late : from < falsified_at t m). late)
        (λ (early : falsified_at t m ≤ from). (let still : IsFalsifiedUpTo (falsified_at back) from m =
        is_back.same.there from m (omega arith) (down, early) in let h : 0 < falsified_at back m =
        still.0 in absurd (omega (arith, h, none))))
        (cases_lt from (falsified_at t m)) in
        let at : slice_index_or t.lits (falsified_at t m - 1) m ≡ opposite m = trail.positions.found m m down in
        let held : IsHeld c.heap (variable (slice_index_or t.lits (falsified_at t m - 1) m)) =
        released.held (falsified_at t m - 1) m (omega (arith, late)) (omega (arith, high, down, all))
        (omega (arith, high, down)) in
        subst (IsHeld c.heap) (ap variable at ∙ variable-opposite m ∙ same) held

    held_now : (l : ℤ) → IsOver t.vars l → IsFree back l → IsHeld c.heap (variable l)
    held_now l over free =
        ⊎_elim
        (λ (down : 0 < falsified_at t l). lost l l refl free.0 down)
        (λ (up : falsified_at t l ≤ 0). ⊎_elim
        (λ (down : 0 < falsified_at t (opposite l)). lost l (opposite l) (variable-opposite l) free.1 down)
        (λ (up_too : falsified_at t (opposite l) ≤ 0). deciding.held l over (omega (arith, up), omega (arith, up_too)))
        (cases_lt 0 (falsified_at t (opposite l))))
        (cases_lt 0 (falsified_at t l))

-- other scores don't matter
pub choosing_scores : (c d : DecisionHeap) → d.heap.vars ≡ c.heap.vars → d.heap.marks ≡ c.heap.marks →
    length d.phases.items ≡ length c.phases.items → (t : TrailState) → IsDecisionHeap t c → IsDecisionHeap t d
choosing_scores c d vars marks phases t deciding = record {
  vars = vars ∙ deciding.vars;
  room = λ v some low. rw marks (deciding.room v some low);
  phases = phases ∙ deciding.phases;
  held = λ l over free. rw marks (deciding.held l over free);
}

-- one more step back
pub back_more : (n : ℕ) (a b c : TrailState) → IsBacktracked n a b → 0 < n → IsBacktracked (length b.lits - 1) b c → IsBacktracked (length c.lits) a c
back_more n a b c first some second =
    let low : length b.lits ≡ n = first.short in
    let short : length c.lits ≡ length b.lits - 1 = second.short in
    rw short (back_trans n (length b.lits - 1) a b c (omega arith) first second)

-- The last literal is unassigned.
pub last_released : (t : TrailState) (c : DecisionHeap) (l : ℤ) →
    ((d : ℤ) → l ≡ slice_index_or t.lits (length t.lits - 1) d) → IsHeld c.heap (variable l) →
    AreReleased t (length t.lits - 1) (length t.lits) c
last_released t c l is held = record {
  held = λ p d from low _. (let at : p ≡ length t.lits - 1 = omega (arith, from, low) in
      subst (λ (m : ℤ). IsHeld c.heap (variable m)) (is d ∙ ap (λ (q : ℕ). slice_index_or t.lits q d) (sym at)) held);
}

-- And a variable may be put back into the heap.
pub choosing_put : (t : TrailState) (c d : DecisionHeap) (v : ℕ) → v < length c.heap.marks → IsDecisionHeap t c →
    d.heap ≡ marked_heap c.heap v true → length d.phases.items ≡ length c.phases.items → IsDecisionHeap t d ×
    IsHeld d.heap v
choosing_put t c d v low deciding heap phases = (
  record {
    vars = ap (λ (h : Held). h.vars) heap ∙ deciding.vars;
    room = λ w some inside. rw (heap, length-set) (deciding.room w some inside);
    phases = phases ∙ deciding.phases;
    held = λ l over free. subst (λ (h : Held). IsHeld h (variable l)) (sym heap) (held_now (variable l) (deciding.held l over free));
  },
  subst (λ (h : Held). IsHeld h v) (sym heap) here,
)
  where
    here : IsHeld (marked_heap c.heap v true) v
    here = get_or-set_same c.heap.marks v true false low

    held_now : (w : ℕ) → IsHeld c.heap w → IsHeld (marked_heap c.heap v true) w
    held_now w held = ⊎_elim (λ (e : w ≡ v). subst (IsHeld (marked_heap c.heap v true)) (sym e) here) (λ (apart : w ≢ v). held_still c.heap v w true apart held) (cases_eq w v)
