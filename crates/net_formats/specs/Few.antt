-- Documents with few sources and outputs, as each text of at most 32 MiB lists one.
use Rattle.std.specs.Prelude.{◌≤◌, length}
use Rattle.net_theory.specs.Limits.{most_of_two}
use Rattle.net_theory.specs.Document.{Document}
use Rattle.net_theory.specs.NetOf.{source_count}

pub record IsFew (d : Document) : Type 0 where
  pub sources : source_count d ≤ most_of_two
  pub outputs : length d.outputs ≤ most_of_two
