-- Sets of names, and numbered names.
use Rattle.std.proofs.Common.{◌≡◌, ℕ, suc, ◌+◌, ◌-◌, ◌<◌, ◌≤◌, true, false, not, if◌then◌else◌, List, [], ◌∷◌, ◌++◌, refl, ap, ◌∙◌, sym, arith}
use Rattle.std.proofs.lemmas.Grind.{common_steps}
use Rattle.net_theory.specs.Document.{Name, has}
use Rattle.std.proofs.lemmas.Bool.{cond-true, cond-false, not_from_true, not_from_false}
use Rattle.net_theory.specs.Naming.{each_once, numbered, free_names}
use Rattle.net_core.specs.Names.{with_name}

pub each_once-append : (seen xs ys : List Name) → each_once seen (xs ++ ys) ≡ each_once (each_once seen xs) ys
unfolding each_once
each_once-append seen [] ys = refl
each_once-append seen (x ∷ xs) ys = each_once-append (with_name seen x) xs ys

pub ruleset sets = (common_steps, each_once-append)

-- ---- numbered names

shorter : (from end : ℕ) → from < end → end - from ≡ suc (end - (from + 1))
shorter from end low = omega arith

free_suc : (taken : List Name) (from count : ℕ) →
    free_names taken from (suc count) ≡ (if not (has taken (numbered from)) then numbered from ∷ free_names taken
    (from + 1) count else free_names taken (from + 1) count)
unfolding free_names
free_suc taken from count = refl

-- a taken name is skipped
pub free_names-taken : (taken : List Name) (from end : ℕ) → from < end → has taken (numbered from) ≡ true → free_names taken (from + 1) (end - (from + 1)) ≡ free_names taken from (end - from)
free_names-taken taken from end low e =
    sym (ap (free_names taken from) (shorter from end low) ∙ free_suc taken from (end - (from + 1)) ∙ cond-false (not (has taken (numbered from))) _ _ (not_from_true (has taken (numbered from)) e))

-- a free name is the next one
pub free_names-free : (taken : List Name) (from end : ℕ) → from < end → has taken (numbered from) ≡ false →
    free_names taken from (end - from) ≡ numbered from ∷ free_names taken (from + 1) (end - (from + 1))
free_names-free taken from end low e =
    ap (free_names taken from) (shorter from end low) ∙ free_suc taken from (end - (from + 1)) ∙ cond-true (not (has taken (numbered from))) _ _ (not_from_false (has taken (numbered from)) e)

pub free_names-none : (taken : List Name) (from end : ℕ) → end ≤ from → free_names taken from (end - from) ≡ []
unfolding free_names
free_names-none taken from end high = let none : end - from ≡ 0 = omega arith in rw none refl
