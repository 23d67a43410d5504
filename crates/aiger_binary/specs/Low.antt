-- Counts within their limit; that of the outputs is the sum of three.
use Rattle.std.specs.Prelude.{◌≤◌, ◌*◌}
use Rattle.aiger_binary.specs.declared.header.Counts.{Counts}
use Rattle.aiger_binary.specs.Header.{most_count}

pub record AreLow (c : Counts) : Type 0 where
  pub variables : c.variables ≤ most_count
  pub inputs : c.inputs ≤ most_count
  pub latches : c.latches ≤ most_count
  pub outputs : c.outputs ≤ most_count * 3
  pub gates : c.gates ≤ most_count
