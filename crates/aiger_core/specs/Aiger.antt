-- AIGER in its ASCII form as a value of `Format`.
use Rattle.std.specs.Prelude.{ℕ, List, Result, Ok}
use Rattle.net_theory.specs.Limits.{default_gates}
use Rattle.net_core.specs.declared.error.NetError.{NetError}
use Rattle.net_document.specs.Listed.{Listed}
use Rattle.net_document.specs.Format.{Format}
use Rattle.aiger_text.specs.Reading.{◌>>=◌}
use Rattle.aiger_text.specs.Statements as statements
use Rattle.aiger_text.specs.Meaning.{document_of, listed}
use Rattle.aiger_text.specs.Spelling.{spelled}
use Rattle.aiger_core.specs.Written.{is_and_word, file_of}

-- what a text lists, or the first fault of its lines
abbrev pub listed_of : List ℕ → Result Listed NetError
listed_of bytes = statements.file_of bytes >>= λ f. Ok (listed f)

-- the parser, the file that the writer makes of a circuit, as a document and as a text, and the default limit of gates
abbrev pub aiger_format : Format
aiger_format = record {
  listed = listed_of;
  written = λ c. document_of (file_of c);
  text = λ c. spelled (file_of c);
  operators = is_and_word;
  most = default_gates;
}
