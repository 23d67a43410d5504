-- The grammar of the ASCII form of AIGER (the AIGER 1.9 report): the file that a text spells, or the first fault of its
-- lines. Each line is checked in the order of the tests below; an LF ends each line. A number has no leading 0.
use Rattle.std.specs.Prelude.{ℕ, ◌+◌, ◌*◌, ◌%◌, Bool, false, ◌&&◌, ◌==◌, nat_lt, nat_le, if◌then◌else◌, List, []}
use Rattle.std.specs.Prelude.{◌∷◌, ◌++◌, length, Option, Some, None, Result, Ok, Err, codes}
use Rattle.text_core.specs.Lines.{Line, lines_of}
use Rattle.text_core.specs.Items.{items_of}
use Rattle.net_theory.specs.Document.{is_name, is_same}
use Rattle.net_core.specs.declared.error.NetError.{NetError}
use Rattle.net_core.specs.declared.error.NetError.TheVariants.{Syntax, NotSupported, NameTooLong}
use Rattle.net_document.specs.Limits.{is_long_word}
use Rattle.aiger_text.specs.Reading.{◌>>=◌}
use Rattle.aiger_text.specs.declared.file.Counts.{Counts}
use Rattle.aiger_text.specs.declared.file.Reset.{Reset}
use Rattle.aiger_text.specs.declared.file.Reset.TheVariants.{Zero, One, Undefined}
use Rattle.aiger_text.specs.declared.file.AigLatch.{AigLatch}
use Rattle.aiger_text.specs.declared.file.AigGate.{AigGate}
use Rattle.aiger_text.specs.declared.file.PortKind.{PortKind}
use Rattle.aiger_text.specs.declared.file.PortKind.TheVariants.{Input, Latch, Output}
use Rattle.aiger_text.specs.declared.file.Symbol.{Symbol}
use Rattle.aiger_text.specs.File.{AigFile}
use Rattle.aiger_text.specs.Header.{or_syntax, number_in, numbers_of, header_of}
use Rattle.aiger_text.specs.Limits.{most_number}

-- ---- the file so far

abbrev pub nothing : Counts → AigFile
nothing c = record {
  variables = c.variables;
  inputs = [];
  latches = [];
  outputs = [];
  gates = [];
  symbols = [];
}

abbrev pub with_input : AigFile → ℕ → AigFile
with_input f lit = record f { inputs = f.inputs ++ lit ∷ [] }

abbrev pub with_latch : AigFile → AigLatch → AigFile
with_latch f l = record f { latches = f.latches ++ l ∷ [] }

abbrev pub with_output : AigFile → ℕ → AigFile
with_output f lit = record f { outputs = f.outputs ++ lit ∷ [] }

abbrev pub with_gate : AigFile → AigGate → AigFile
with_gate f g = record f { gates = f.gates ++ g ∷ [] }

abbrev pub with_symbol : AigFile → Symbol → AigFile
with_symbol f s = record f { symbols = f.symbols ++ s ∷ [] }

-- ---- inputs, latches, outputs and gates

-- the greatest literal
abbrev pub most_literal : Counts → ℕ
most_literal c = c.variables * 2 + 1

-- the literal of a variable: even, and not a constant
unfoldable pub is_variable : ℕ → Bool
is_variable lit = nat_le 2 lit && lit % 2 == 0

-- an input: the literal of a variable
unfoldable pub input_of : ℕ → List ℕ → Result ℕ NetError
input_of line (lit ∷ []) = if is_variable lit then Ok lit else Err (Syntax line)
input_of line other = Err (Syntax line)

-- a reset value: 0, 1, or the latch's own literal, which leaves it undefined
unfoldable pub reset_of : ℕ → ℕ → Option Reset
reset_of lit value = if value == 0 then Some Zero else (if value == 1 then Some One
    else (if value == lit then Some Undefined else None))

abbrev pub latch_by : ℕ → ℕ → ℕ → Option Reset → Result AigLatch NetError
latch_by line lit next None = Err (Syntax line)
latch_by line lit next (Some reset) = Ok (record { literal = lit; next = next; reset = reset })

unfoldable pub latch_with : ℕ → ℕ → ℕ → ℕ → Result AigLatch NetError
latch_with line lit next value = if is_variable lit then latch_by line lit next (reset_of lit value)
    else Err (Syntax line)

-- a latch: its literal, its next state, and its reset value, which is 0 if left out
unfoldable pub latch_of : ℕ → List ℕ → Result AigLatch NetError
latch_of line (lit ∷ next ∷ []) = latch_with line lit next 0
latch_of line (lit ∷ next ∷ value ∷ []) = latch_with line lit next value
latch_of line other = Err (Syntax line)

-- an output: any literal
unfoldable pub output_of : ℕ → List ℕ → Result ℕ NetError
output_of line (lit ∷ []) = Ok lit
output_of line other = Err (Syntax line)

-- a gate: its literal, and its two fanins
unfoldable pub gate_of : ℕ → List ℕ → Result AigGate NetError
gate_of line (lit ∷ first ∷ second ∷ []) = if is_variable lit
    then Ok (record { literal = lit; first = first; second = second }) else Err (Syntax line)
gate_of line other = Err (Syntax line)

-- ---- symbols

unfoldable pub kind_of : ℕ → Option PortKind
kind_of byte = if byte == 105 then Some Input else (if byte == 108 then Some Latch
    else (if byte == 111 then Some Output else None))

abbrev pub count_of : Counts → PortKind → ℕ
count_of c Input = c.inputs
count_of c Latch = c.latches
count_of c Output = c.outputs

-- whether a text begins with `&`, as the names of gates do
abbrev pub is_reserved : List ℕ → Bool
is_reserved [] = false
is_reserved (b ∷ bs) = b == 38

-- a name, which isn't reserved
unfoldable pub name_in : ℕ → List ℕ → Result (List ℕ) NetError
name_in line word = if is_long_word word then Err (NameTooLong line) else (if is_name word
    then (if is_reserved word then Err (NotSupported line word) else Ok word) else Err (Syntax line))

-- the symbol of an input, a latch or an output by its position, from 0 on
unfoldable pub symbol_at : ℕ → Counts → List ℕ → List ℕ → Result Symbol NetError
symbol_at line c [] word = Err (Syntax line)
symbol_at line c (b ∷ digits) word = or_syntax line (kind_of b) >>= λ kind.
    number_in line most_number digits >>= λ position.
    (if nat_lt position (count_of c kind) then (name_in line word >>= λ name.
    Ok (record { kind = kind; position = position; name = name })) else Err (Syntax line))

-- A symbol's name is the word after its position. Further words, which some programs write where a signal has several
-- names, are ignored.
-- Example: `i0 a[3]` names the first input `a[3]`.
unfoldable pub symbol_of : ℕ → Counts → List (List ℕ) → Result Symbol NetError
symbol_of line c (key ∷ word ∷ more) = symbol_at line c key word
symbol_of line c other = Err (Syntax line)

-- ---- lines

abbrev pub numbers : ℕ → Counts → List ℕ → Result (List ℕ) NetError
numbers line c text = numbers_of line (most_literal c) text

abbrev pub input_line : ℕ → Counts → AigFile → List ℕ → Result AigFile NetError
input_line line c f text = numbers line c text >>= λ ns. input_of line ns >>= λ lit. Ok (with_input f lit)

abbrev pub latch_line : ℕ → Counts → AigFile → List ℕ → Result AigFile NetError
latch_line line c f text = numbers line c text >>= λ ns. latch_of line ns >>= λ l. Ok (with_latch f l)

abbrev pub output_line : ℕ → Counts → AigFile → List ℕ → Result AigFile NetError
output_line line c f text = numbers line c text >>= λ ns. output_of line ns >>= λ lit. Ok (with_output f lit)

abbrev pub gate_line : ℕ → Counts → AigFile → List ℕ → Result AigFile NetError
gate_line line c f text = numbers line c text >>= λ ns. gate_of line ns >>= λ g. Ok (with_gate f g)

abbrev pub symbol_line : ℕ → Counts → AigFile → List ℕ → Result AigFile NetError
symbol_line line c f text = symbol_of line c (items_of text) >>= λ s. Ok (with_symbol f s)

-- the inputs come first, then the latches, the outputs, the gates and the symbols
unfoldable pub stated : ℕ → Counts → AigFile → List ℕ → Result AigFile NetError
stated line c f text = if nat_lt (length f.inputs) c.inputs then input_line line c f text
    else (if nat_lt (length f.latches) c.latches then latch_line line c f text
    else (if nat_lt (length f.outputs) c.outputs then output_line line c f text
    else (if nat_lt (length f.gates) c.gates then gate_line line c f text else symbol_line line c f text)))

unfoldable pub step : ℕ → Counts → AigFile → Line → Result AigFile NetError
step line c f l = if l.ended then stated line c f l.text else Err (Syntax line)

-- whether there are as many inputs, latches, outputs and gates as the header says
unfoldable pub is_full : Counts → AigFile → Bool
is_full c f = nat_le c.inputs (length f.inputs) && nat_le c.latches (length f.latches) &&
    nat_le c.outputs (length f.outputs) && nat_le c.gates (length f.gates)

abbrev pub is_mark : List ℕ → Bool
is_mark text = is_same text (codes "c")

-- whether a line begins the comment, which runs to the end of the text
unfoldable pub is_comment : Counts → AigFile → Line → Bool
is_comment c f l = is_full c f && l.ended && is_mark l.text

abbrev pub closed : ℕ → Counts → AigFile → Result AigFile NetError
closed line c f = if is_full c f then Ok f else Err (Syntax line)

-- the lines after the header; the first one has the given number
unfoldable pub steps : ℕ → Counts → AigFile → List Line → Result AigFile NetError
steps line c f [] = closed line c f
steps line c f (l ∷ ls) = if is_comment c f l then Ok f else (step line c f l >>= λ g. steps (line + 1) c g ls)

-- the header, with its LF
unfoldable pub begun : Line → Result Counts NetError
begun l = if l.ended then header_of (codes "aag ") l.text else Err (Syntax 1)

abbrev pub file_by : List Line → Result AigFile NetError
file_by [] = Err (Syntax 1)
file_by (l ∷ ls) = begun l >>= λ c. steps 2 c (nothing c) ls

-- the file that a text spells, or the first fault of its lines
unfoldable pub file_of : List ℕ → Result AigFile NetError
file_of bytes = file_by (lines_of bytes)
