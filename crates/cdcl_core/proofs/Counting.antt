-- How many literals a trail can have.
use Rattle.std.proofs.Common.{◌≡◌, ◌≢◌, ℕ, ◌+◌, ◌<◌, ◌≤◌, ℤ, pos, map, length, slice_index_or, All, AllPairs, sym, ap, ◌∙◌, arith, refl}
use Rattle.std.proofs.Math.Logic.{⊎_elim}
use Rattle.std.proofs.lemmas.List.{length-map, get_or-map}
use Rattle.sat_theory.specs.Formula.{variable, opposite}
use Rattle.sat_theory.specs.Pigeonholes.{different_below}
use Rattle.cdcl_theory.specs.CodeLaws.{same_variable, opposite-opposite}
use Rattle.cdcl_theory.specs.Trails.{TrailState, falsified_at, IsTrail}
use Rattle.cdcl_theory.specs.TrailLaws.{place_at, true_not_falsified}

-- The literals of a trail are of different variables, so there are few.
pub trail_short : (t : TrailState) → IsTrail t → length t.lits ≤ t.vars + 1
trail_short t trail =
    let e : length (map variable t.lits) ≡ length t.lits = length-map t.lits variable in
    let bound : length (map variable t.lits) ≤ t.vars + 1 = different_below (t.vars + 1) (map variable t.lits) below differ in
    omega arith
  where
    below : All (λ x. x < t.vars + 1) (map variable t.lits)
    below = λ k d low.
        let inside : k < length t.lits = omega (arith, low, length-map t.lits variable) in
        let small : variable (slice_index_or t.lits k (pos 0)) ≤ t.vars = (trail.variables k (pos 0) inside).1 in
        rw (get_or-map variable t.lits k (pos 0) d inside) (omega arith)

    apart : (i j : ℕ) → i < j → j < length t.lits → variable (slice_index_or t.lits i (pos 0)) ≡ variable (slice_index_or t.lits j (pos 0)) → ⊥
    apart i j order within same =
        let a : ℤ = slice_index_or t.lits i (pos 0) in
        let b : ℤ = slice_index_or t.lits j (pos 0) in
        let at_a : falsified_at t (opposite a) ≡ i + 1 = place_at t.lits (falsified_at t) i (pos 0) a trail.positions (omega arith) refl in
        let at_b : falsified_at t (opposite b) ≡ j + 1 = place_at t.lits (falsified_at t) j (pos 0) b trail.positions within refl in
        let up_b : falsified_at t b ≡ 0 = true_not_falsified t.lits (falsified_at t) j (pos 0) b trail.positions within refl in
        ⊎_elim
        (λ (e : a ≡ b). (let h : falsified_at t (opposite a) ≡ falsified_at t (opposite b) = ap (λ (x : ℤ). falsified_at t (opposite x)) e in omega arith))
        (λ (e : a ≡ opposite b). (let h : falsified_at t (opposite a) ≡ falsified_at t b = ap (λ (x : ℤ). falsified_at t (opposite x)) e ∙ ap (falsified_at t) (opposite-opposite b) in omega arith))
        (same_variable a b same)

    differ : AllPairs (λ a b. a ≢ b) (map variable t.lits)
    differ = λ i j d order low same.
        let inside : j < length t.lits = omega (arith, low, length-map t.lits variable) in
        let low_i : i < length t.lits = omega arith in
        apart i j order inside (sym (get_or-map variable t.lits i (pos 0) d low_i) ∙ same ∙ get_or-map variable t.lits j (pos 0) d inside)
