-- Counts of faults over several calls.
use Rattle.std.proofs.Common.{ℕ, ◌≤◌, arith}
use Rattle.port_io.specs.Faults.{Rose}

-- If a count rises and then doesn't fall, it has risen.
pub rose_later : (old mid new : ℕ) → old ≤ mid → Rose old mid → mid ≤ new → Rose old new
rose_later old mid new up rose on = grind (arith)

-- If a count doesn't fall and then rises, it has risen.
pub rose_earlier : (old mid new : ℕ) → old ≤ mid → Rose mid new → Rose old new
rose_earlier old mid new up rose = grind (arith)

-- lemmas on counts over several calls
pub ruleset counts = (rose_later, rose_earlier)
