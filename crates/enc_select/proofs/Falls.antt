-- Both constraints on the order of operands are those of the definition.
use Rattle.std.proofs.Common.{◌≡◌, ℕ, ◌+◌, refl, append_assoc}
use Rattle.clause_core.specs.RangeLaws as ranges
use Rattle.enc_theory.specs.declared.data.Side.TheVariants.{First, Second}
use Rattle.enc_theory.specs.declared.data.Dimensions.{Dimensions}
use Rattle.enc_theory.specs.Select.{rising_pair, rising_from, rising_step, falling_pair, falling_from, falling_step}
use Rattle.enc_select.specs.Descents.{descent, descents_from, descents}

pub rising_is : (z : Dimensions) (i : ℕ) → rising_step z i ≡ descents z First i Second i
unfolding rising_step rising_from rising_pair descents descents_from descent
rising_is z i = refl

pub falling_is : (z : Dimensions) (i : ℕ) → falling_step z i ≡ descents z Second i Second (i + 1)
unfolding falling_step falling_from falling_pair descents descents_from descent
falling_is z i = refl

pub ruleset falls = (ranges.loops, append_assoc, rising_is, falling_is)
