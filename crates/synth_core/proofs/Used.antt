-- The loops that count the inputs in use.
use Rattle.std.proofs.Common.{◌≡◌, ℕ, ◌+◌, ◌<◌, Bool, true, false, length, cond, refl, add-one, sym}
use Rattle.std.proofs.lemmas.Grind.{common_steps}
use Rattle.tt_core.specs.RowLaws.{row_below}
use Rattle.tt_core.specs.Words.{Words, specification}
use Rattle.bound_core.specs.Counts.{some_below, count_below, uses}
use Rattle.bound_core.specs.CountLaws.{passes_some}
use Rattle.synth_core.specs.UsedInputs.{output_uses, is_used}

-- no number below 0 passes
pub some_none : (test : ℕ → Bool) → some_below test 0 ≡ false
unfolding some_below
some_none test = refl

-- one more number that doesn't pass
pub some_more : (test : ℕ → Bool) (k : ℕ) → some_below test k ≡ false → test k ≡ false → some_below test (k + 1) ≡ false
unfolding some_below
some_more test k before here = rw (add-one, before, here) refl

pub count_none : (test : ℕ → Bool) → count_below test 0 ≡ 0
unfolding count_below
count_none test = refl

pub count_more : (test : ℕ → Bool) (k : ℕ) → count_below test (k + 1) ≡ count_below test k + cond (test k) 1 0
unfolding count_below
count_more test k = rw add-one refl

-- an output that uses it
pub used_at : (w : Words) (before output : ℕ) → uses (specification w) (output + 1) (before + 1) ≡ true → output < length w.on →
    true ≡ is_used (specification w) before
unfolding is_used output_uses
used_at w before output used low = sym (passes_some (output_uses (specification w) (before + 1)) (length w.on) output low used)

pub ruleset using_inputs = (common_steps, some_none, some_more, count_none, count_more, row_below)
