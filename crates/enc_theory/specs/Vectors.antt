-- The definitions compared with an independent program.
use Rattle.std.specs.Prelude.{ℕ, ◌+◌, ◌-◌, ◌*◌, ◌%◌, ℤ, pos, negsuc, List, [], ◌∷◌, length}
use Rattle.sat_theory.specs.Formula.{Formula}
use Rattle.tt_core.specs.Words.{Words}

abbrev pub with_literal : ℕ → ℤ → ℕ
with_literal sum (pos v) = (31 * sum + v) % 4294967296
with_literal sum (negsuc v) = (31 * sum + 4294967295 - v) % 4294967296

unfoldable pub with_clause : ℕ → List ℤ → ℕ
with_clause sum [] = with_literal sum (pos 0)
with_clause sum (l ∷ ls) = with_clause (with_literal sum l) ls

-- the checksum of a clause list: over the literals in order, with a 0 after each clause, modulo 2 ^ 32, 31
-- times the sum so far plus the next number
unfoldable pub with_clauses : ℕ → List (List ℤ) → ℕ
with_clauses sum [] = sum
with_clauses sum (c ∷ cs) = with_clauses (with_clause sum c) cs

unfoldable pub literal_count : List (List ℤ) → ℕ
literal_count [] = 0
literal_count (c ∷ cs) = length c + literal_count cs

-- the outline of a formula: the numbers of variables, clauses and literals, and the checksum
pub record Outline : Type 0 where
  pub vars : ℕ
  pub clauses : ℕ
  pub literals : ℕ
  pub checksum : ℕ

unfoldable pub outline : Formula → Outline
outline f = record { vars = f.vars; clauses = length f.clauses; literals = literal_count f.clauses; checksum = with_clauses 0 f.clauses }

-- a vector: the tables, the set of operators, the number of steps, and the independent program's outline
pub record Vector : Type 0 where
  pub tables : Words
  pub basis : ℕ
  pub size : ℕ
  pub expected : Outline

abbrev pub vector : ℕ → List ℕ → List ℕ → ℕ → ℕ → ℕ → ℕ → ℕ → ℕ → Vector
vector n on care basis size vars clauses literals checksum = record {
  tables = record { n = n; on = on; care = care };
  basis = basis;
  size = size;
  expected = record { vars = vars; clauses = clauses; literals = literals; checksum = checksum };
}

abbrev pub outline_by : (Words → ℕ → ℕ → Formula) → Vector → Outline
outline_by formula v = outline (formula v.tables v.basis v.size)

abbrev pub expected : Vector → Outline
expected v = v.expected
