-- Sums that a header can say.
use Rattle.std.proofs.Common.{◌≡◌, ◌+◌, ◌^◌, ◌<◌, ◌≤◌, true, arith}
use Rattle.std.specs.Prelude.{nat_lt, nat_le}
use Rattle.std.proofs.lemmas.Bool.{and_parts, leb-true}
use Rattle.std.proofs.lemmas.Grind.{common_steps}
use Rattle.text_core.specs.Limits.{most_number}
use Rattle.aiger_sections.specs.declared.header.Sections.{Sections}
use Rattle.aiger_sections.specs.Header.{total, is_sectioned}

pub total_low : (s : Sections) → is_sectioned s ≡ true → total s ≤ most_number
unfolding is_sectioned
total_low s e = leb-true (total s) most_number (and_parts (nat_lt 0 (s.bads + s.constraints)) (nat_le (total s) most_number) e).1

pub total_narrow : (s : Sections) → is_sectioned s ≡ true → total s < 2 ^ 32
total_narrow s e = omega (arith, total_low s e)

pub ruleset totals = (common_steps, total_low, total_narrow)

pub two_narrow : (s : Sections) → total s ≤ most_number → s.outputs + s.bads < 2 ^ 32
two_narrow s low = omega (arith, low)

pub outputs_within : (s : Sections) → total s ≤ most_number → 0 + s.outputs ≤ most_number
outputs_within s low = omega (arith, low)

pub bads_within : (s : Sections) → total s ≤ most_number → s.outputs + s.bads ≤ most_number
bads_within s low = omega (arith, low)

pub constraints_within : (s : Sections) → total s ≤ most_number → s.outputs + s.bads + s.constraints ≤ most_number
constraints_within s low = low

pub ruleset sums = (common_steps, two_narrow, outputs_within, bads_within, constraints_within)
