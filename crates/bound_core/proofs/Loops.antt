-- Loops that search for a number that passes a test, and loops that count those.
use Rattle.std.proofs.Common.{◌≡◌, ℕ, suc, ◌+◌, ◌*◌, ◌%◌, ◌<◌, ◌≤◌, ◌^◌, Bool, true, false, length, cond, refl, arith, add-one, sym}
use Rattle.std.specs.Prelude.{max}
use Rattle.std.proofs.lemmas.Grind.{common_steps}
use Rattle.std.proofs.Math.Pow.{pow_mono}
use Rattle.std.proofs.Math.Nat.{two-pow-succ}
use Rattle.chain_theory.specs.Levels as levels
use Rattle.tt_core.specs.RowLaws.{row_below}
use Rattle.tt_core.specs.Words.{Words, specification}
use Rattle.tt_core.specs.Live.{is_live}
use Rattle.bound_core.specs.Counts.{some_below, count_below, uses, live_uses, is_in_use, differ, live_compatible, is_new}
use Rattle.bound_core.specs.CountLaws.{passes_some}

-- no number below 0 passes
pub some_none : (test : ℕ → Bool) → some_below test 0 ≡ false
unfolding some_below
some_none test = refl

-- one more number that doesn't pass
pub some_more : (test : ℕ → Bool) (k : ℕ) → some_below test k ≡ false → test k ≡ false → some_below test (k + 1) ≡ false
unfolding some_below
some_more test k before here = rw (add-one, before, here) refl

-- a number that passes
pub some_at : (test : ℕ → Bool) (k bound : ℕ) → test k ≡ true → k < bound → some_below test bound ≡ true
some_at test k bound here low = passes_some test bound k low here

pub ruleset passing = (common_steps, some_none, some_more, some_at, row_below)

pub count_none : (test : ℕ → Bool) → count_below test 0 ≡ 0
unfolding count_below
count_none test = refl

pub count_more : (test : ℕ → Bool) (k : ℕ) → count_below test (k + 1) ≡ count_below test k + cond (test k) 1 0
unfolding count_below
count_more test k = rw add-one refl

pub ruleset counting = (common_steps, count_none, count_more)

pub greatest_none : (f : ℕ → ℕ) → levels.greatest f 0 ≡ 0
unfolding levels.greatest
greatest_none f = refl

pub greatest_more : (f : ℕ → ℕ) (k : ℕ) → levels.greatest f (k + 1) ≡ max (levels.greatest f k) (f k)
unfolding levels.greatest
greatest_more f k = rw add-one refl

pub ruleset greatest = (common_steps, greatest_none, greatest_more)

-- a shift by fewer than six places is a power below 64
pub power_small : (k : ℕ) → k < 6 → 1 * 2 ^ k % 4294967296 ≡ 2 ^ k
power_small k few = let wide : 2 ^ k ≤ 2 ^ 6 = pow_mono {i = k} {j = 6} (omega arith) in omega (arith, wide)

pub power_low : (k : ℕ) → k < 6 → 1 * 2 ^ k % 4294967296 < 64
power_low k few = let wide : 2 ^ suc k ≤ 2 ^ 6 = pow_mono {i = suc k} {j = 6} few in omega (arith, wide, two-pow-succ k, power_small k few)

pub ruleset shifting = (common_steps, power_small, power_low)

-- ---- what is found

pub in_use_at : (w : Words) (before output : ℕ) → uses (specification w) (output + 1) (before + 1) ≡ true →
    is_live (specification w) (output + 1) ≡ true → output < length w.on → true ≡ is_in_use (specification w) before
unfolding is_in_use live_uses
in_use_at w before output used live low =
    let both : live_uses (specification w) (before + 1) output ≡ true = rw (used, live) refl in
    sym (passes_some (live_uses (specification w) (before + 1)) (length w.on) output low both)

pub new_fails : (w : Words) (before earlier : ℕ) → differ (specification w) (earlier + 1) (before + 1) ≡ false →
    is_live (specification w) (earlier + 1) ≡ true → earlier < before → false ≡ is_new (specification w) before
unfolding is_new live_compatible
new_fails w before earlier same live low =
    let both : live_compatible (specification w) (before + 1) earlier ≡ true = rw (same, live) refl in
    let some : some_below (live_compatible (specification w) (before + 1)) before ≡ true = passes_some (live_compatible (specification w) (before + 1)) before earlier low both in
    rw some refl
