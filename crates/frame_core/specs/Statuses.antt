-- The numbers of the statuses.
use Rattle.std.specs.Prelude.{ℕ}
use Rattle.frame_core.specs.declared.status.Status.{Status}
use Rattle.frame_core.specs.declared.status.Status.TheVariants.{Done, Usage, Malformed, Limit, Undecided, ReadFault, WriteFault, Memory, Refused}

abbrev pub number_of : Status → ℕ
number_of Done = 0
number_of Usage = 1
number_of Malformed = 2
number_of Limit = 3
number_of Undecided = 4
number_of ReadFault = 5
number_of WriteFault = 6
number_of Memory = 7
number_of Refused = 8
