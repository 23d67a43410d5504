-- What contracts see of the heads and bytes of a log.
use Rattle.std.proofs.Common.{◌≡◌, ℕ, List, [], length, take, refl, ap, ◌∙◌}
use Rattle.std.proofs.lemmas.Grind.{common_steps}
use Rattle.log_core.specs.Rows.{IsSplit, sizes_of, BeginsAs}
use Rattle.log_core.proofs.ReadRows.{lines-length, lines-none, lines-first, first-size, split-first}

pub split-none : IsSplit [] []
unfolding sizes_of
split-none = refl

-- an array that is truncated to what it was
pub truncated_back : (old new back : List ℕ) (start : ℕ) → start ≡ length old → BeginsAs old new → back ≡ take start new → back ≡ old
truncated_back old new back start at begins is = is ∙ ap (λ (n : ℕ). take n new) at ∙ begins

pub ruleset shown = (common_steps, lines-length, lines-none, split-none, truncated_back)

pub ruleset left = (common_steps, lines-none, lines-first, first-size, split-first)
