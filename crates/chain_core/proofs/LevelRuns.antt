-- The level of one more step.
use Rattle.std.proofs.Common.{◌≡◌, ℕ, ◌+◌, ◌-◌, ◌<◌, ◌≤◌, List, [], ◌∷◌, length, replicate, map, ◌++◌, refl, sym, ap, ◌∙◌, arith, ⊎_elim}
use Rattle.std.specs.Prelude.{slice_index_or, slice_set}
use Rattle.std.proofs.lemmas.Grind.{common_steps}
use Rattle.std.proofs.lemmas.List.FromFn.{map-range_with_len_more}
use Rattle.std.proofs.lemmas.Bool.{cases_eq, cases_lt}
use Rattle.std.proofs.lemmas.List.{get_or-set_same, get_or-set_other, get_or-replicate, get_or_past, length-replicate}
use Rattle.std.specs.List.{range_with_len}
use Rattle.chain_theory.specs.Chain.{Step}
use Rattle.chain_core.specs.StepLaws.{first_step}
use Rattle.chain_theory.specs.Levels.{placed, step_level, levels_after, level_in}
use Rattle.chain_theory.specs.LevelLaws.{placed-same, placed-other}
use Rattle.chain_core.specs.SliceLevels.{slice_levels}

-- a level that is written to the slice is that of its place
height_at : (levels : List ℕ) (place own p : ℕ) → place < length levels → slice_levels (slice_set levels place own) p ≡ placed (slice_levels levels) place own p
unfolding slice_levels
height_at levels place own p inside = ⊎_elim
    (λ (same : p ≡ place). ap (λ (q : ℕ). slice_index_or (slice_set levels place own) q 0) same ∙ get_or-set_same levels place own 0 inside ∙ sym (placed-same (slice_levels levels) place p own same))
    (λ (other : p ≡ place → ⊥). get_or-set_other levels place p own 0 other ∙ sym (placed-other (slice_levels levels) place p own other))
    (cases_eq p place)

pub written_height : (levels : List ℕ) (place own : ℕ) → place < length levels → slice_levels (slice_set levels place own) ≡ placed (slice_levels levels) place own
written_height levels place own inside = λ i p. height_at levels place own p inside i

-- a level that is written keeps the bound on all levels
low_at : (levels : List ℕ) (place own bound p : ℕ) → place < length levels → slice_levels levels p ≤ bound → own ≤ bound + 1 → slice_levels (slice_set levels place own) p ≤ bound + 1
low_at levels place own bound p inside low few = ⊎_elim
    (λ (same : p ≡ place). omega (arith, few, height_at levels place own p inside, placed-same (slice_levels levels) place p own same))
    (λ (other : p ≡ place → ⊥). omega (arith, low, height_at levels place own p inside, placed-other (slice_levels levels) place p own other))
    (cases_eq p place)

pub low_written : (levels : List ℕ) (place own bound : ℕ) → place < length levels →
    ((p : ℕ) → slice_levels levels p ≤ bound) → own ≤ bound + 1 → (p : ℕ) →
    slice_levels (slice_set levels place own) p ≤ bound + 1
low_written levels place own bound inside low few p = low_at levels place own bound p inside (low p) few

-- one step of a run over a slice
pub run-set : (levels : List ℕ) (last : ℕ) (s : Step) (ss : List Step) (own : ℕ) → last + 1 < length levels →
    own ≡ step_level (slice_levels levels) s → levels_after (slice_levels (slice_set levels (last + 1) own))
    (last + 1 + 1) ss ≡ levels_after (slice_levels levels) (last + 1) (s ∷ ss)
unfolding levels_after
run-set levels last s ss own inside e = rw (written_height levels (last + 1) own inside, e) refl

-- a slice without levels
abbrev pub no_levels : List ℕ
no_levels = replicate 23 0

nothing_at : (p : ℕ) → slice_levels no_levels p ≡ 0
unfolding slice_levels
nothing_at p = ⊎_elim (λ (low : p < 23). get_or-replicate 23 p 0 0 low) (λ (high : 23 ≤ p). get_or_past no_levels p 0 (omega (arith, length-replicate {A = ℕ} 23 0))) (cases_lt p 23)

pub none_is_high : (n p : ℕ) → slice_levels no_levels p ≤ n
none_is_high n p = omega (arith, nothing_at p)

-- a run that starts without levels gives the levels of the places
pub levels_are : (written : List ℕ) (n : ℕ) (steps : List Step) → slice_levels written ≡ levels_after (slice_levels no_levels) (n + 1) steps → slice_levels written ≡ level_in n steps
levels_are written n steps e = e ∙ ap (λ (given : ℕ → ℕ). levels_after given (n + 1) steps) (λ i p. nothing_at p i)

-- one more place
pub next_place : (written levels : List ℕ) (first place own : ℕ) → first ≤ place → own ≡ slice_levels written place →
    levels ≡ map (slice_levels written) (range_with_len first (place - first)) → levels ++
    own ∷ [] ≡ map (slice_levels written) (range_with_len first (place + 1 - first))
next_place written levels first place own from e so_far =
    let one_more : place - first + 1 ≡ place + 1 - first = omega (arith, from) in
    let last : first + (place - first) ≡ place = omega (arith, from) in
    ap (λ (xs : List ℕ). xs ++ own ∷ []) so_far
    ∙ ap (λ (x : ℕ). map (slice_levels written) (range_with_len first (place - first)) ++ x ∷ []) e
    ∙ sym (map-range_with_len_more (slice_levels written) first (place - first) place last)
    ∙ ap (λ (k : ℕ). map (slice_levels written) (range_with_len first k)) one_more

pub ruleset standing = (common_steps, first_step)
