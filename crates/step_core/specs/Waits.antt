-- Places that wait to be read. In a chain in normal form each step is an out or is read, and each input in the
-- support of an output is read.
use Rattle.std.specs.Prelude.{ℕ, ◌+◌, Bool, false, ◌==◌, ◌&&◌, ◌||◌, not, List, [], ◌∷◌, length, nat_lt, if◌then◌else◌}
use Rattle.chain_theory.specs.Chain.{Step}
use Rattle.chain_laws.specs.Follow.{step_at}
use Rattle.tt_core.specs.Words.{Words, specification}
use Rattle.bound_core.specs.Counts.{some_below, count_below, uses}
use Rattle.step_core.specs.Steps.{word_in}
use Rattle.step_core.specs.Pruning.{meets_some}

-- a place i + 1 is the given one
unfoldable pub is_at : ℕ → ℕ → Bool
is_at p i = i + 1 == p

-- the step reads the place i + 1
unfoldable pub has_read : Step → ℕ → Bool
has_read s i = is_at s.j i || is_at s.k i

-- some step of the list reads the place i + 1
unfoldable pub is_later : List Step → ℕ → Bool
is_later [] i = false
is_later (s ∷ ss) i = has_read s i || is_later ss i

-- the step of an index reads the place
unfoldable pub reads_at : List Step → ℕ → ℕ → Bool
reads_at steps p i = (step_at steps i).j == p || (step_at steps i).k == p

-- some step reads the place
unfoldable pub is_read : List Step → ℕ → Bool
is_read steps p = some_below (reads_at steps p) (length steps)

-- the input p is in the support of output i + 1
unfoldable pub has_in_support : Words → ℕ → ℕ → Bool
has_in_support w p i = uses (specification w) (i + 1) p

-- the input p is in the support of some output
unfoldable pub is_in_some_support : Words → ℕ → Bool
is_in_some_support w p = some_below (has_in_support w p) (length w.on)

-- The place has to be read: it is an input in the support of some output, or a step with the values of no output.
unfoldable pub is_needed : Words → List Step → ℕ → Bool
is_needed w steps p = if nat_lt w.n p then not (meets_some w (word_in w.n steps p)) else is_in_some_support w p

-- the place i + 1 waits: it has to be read, and no step reads it yet
unfoldable pub waits : Words → List Step → ℕ → Bool
waits w steps i = not (is_read steps (i + 1)) && is_needed w steps (i + 1)

-- how many places wait
-- Example: for the table 0110 both inputs wait before the first step, and none does after it.
abbrev pub waiting : Words → List Step → ℕ
waiting w steps = count_below (waits w steps) (w.n + length steps)
