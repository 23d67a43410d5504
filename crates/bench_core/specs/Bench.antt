-- BENCH as a value of `Format`.
use Rattle.std.specs.Prelude.{ℕ, Bool, ◌==◌, ◌||◌}
use Rattle.net_theory.specs.Limits.{default_gates}
use Rattle.net_document.specs.Format.{Format}
use Rattle.bench_text.specs.Statements.{listed_of}
use Rattle.bench_core.specs.Gates.{bench_written}
use Rattle.bench_core.specs.Spelling.{circuit_text}

-- whether an operator is AND, XOR, OR or a complement of these
unfoldable pub is_gate_word : ℕ → Bool
is_gate_word op = op == 1 || op == 6 || op == 7 || op == 8 || op == 9 || op == 14

-- the parser, the writer's document and the text of a circuit, the operators that gates may have, and the default limit
-- of gates
abbrev pub bench_format : Format
bench_format = record { listed = listed_of; written = bench_written; text = circuit_text; operators = is_gate_word; most = default_gates }
