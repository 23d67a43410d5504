-- The limits of formulas, logs and searches that are read, written or made. What logs show has none.
use Rattle.std.specs.Prelude.{ℕ}

-- the greatest id of a log's line: of 32 bits
abbrev pub most_id : ℕ
most_id = 4294967295

-- the greatest variable: a literal is a number of 32 bits with a sign
abbrev pub most_variable : ℕ
most_variable = 2147483647

-- the most conflicts that a search is limited to, so that the ids of all its lines fit in 32 bits
abbrev pub most_conflicts : ℕ
most_conflicts = 10000000

-- How many clauses a log may keep beside three quarters of its additions and one for each variable, so that a log of
-- at most four times as many additions needs to delete none.
abbrev pub slack : ℕ
slack = 2000
