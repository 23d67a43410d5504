-- Numbered elements.
use Rattle.std.proofs.Common.{◌≡◌, ℕ, zero, suc, ◌-◌, ◌<◌, List, None, refl, ap, arith}
use Rattle.std.specs.Prelude.{slice_get}
use Rattle.std.proofs.lemmas.Grind.{common_steps}
use Rattle.cmd_formula.specs.Parts.{numbered}

pub numbered_none : {X : Type 0} (n : ℕ) (xs : List X) → n ≡ 0 → numbered n xs ≡ None
numbered_none zero xs e = refl
numbered_none (suc n) xs e = absurd (omega (arith, e))

pub numbered_get : {X : Type 0} (n : ℕ) (xs : List X) → 0 < n → numbered n xs ≡ slice_get xs (n - 1)
numbered_get zero xs low = absurd (omega arith)
numbered_get (suc n) xs low = let same : n ≡ suc n - 1 = omega arith in ap (slice_get xs) same

pub ruleset choosing = (common_steps, numbered_none, numbered_get)
