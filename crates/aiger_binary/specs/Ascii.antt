-- The binary form of AIGER (the AIGER 1.9 report), by the ASCII text of the same file. The inputs are the variables from 1
-- on, then come the latches and the gates. So a binary text has no lines of inputs, and its latches have no literals. A gate
-- is two numbers: by how much its first fanin is below its literal, and its second fanin below the first. The lines of
-- outputs, bad states and constraints and the symbols are as in the ASCII form. A text that isn't of the binary form stands for one that
-- isn't of the ASCII form, and whose first fault is in the line of the same input, latch, output, gate or symbol.
use Rattle.std.specs.Prelude.{ℕ, zero, suc, ◌+◌, ◌-◌, ◌*◌, Bool, false, not, ◌&&◌, ◌==◌, if◌then◌else◌, List, [], ◌∷◌, ◌++◌, Option, Some, None, codes, decimal}
use Rattle.std.specs.Char.{is_ascii_digit}
use Rattle.std.specs.Option.{is_some}
use Rattle.std.proofs.Common.{drop}
use Rattle.text_core.specs.Lines.{Line, lines_of, line_bytes}
use Rattle.text_core.specs.Words.{after}
use Rattle.aiger_binary.specs.Options.{◌>>=◌}
use Rattle.aiger_binary.specs.declared.header.Counts.{Counts}
use Rattle.aiger_binary.specs.Codes.{number_between}
use Rattle.aiger_binary.specs.Cut.{Cut, cut_first}
use Rattle.aiger_binary.specs.Header.{counts_in, is_packed}

-- the ASCII text so far, and the bytes that aren't read yet
pub record Stage : Type 0 where
  pub text : List ℕ
  pub rest : List ℕ

abbrev pub stage : List ℕ → List ℕ → Stage
stage text rest = record { text = text; rest = rest }

-- ---- lines

abbrev pub with_cut : List ℕ → List ℕ → Cut → Stage
with_cut start text c = stage (text ++ start ++ line_bytes c.line) c.rest

-- the next line, after `start`; none if there are no bytes
unfoldable pub lined : List ℕ → List ℕ → List ℕ → Stage
lined start text [] = stage text []
lined start text (b ∷ bytes) = with_cut start text (cut_first (b ∷ bytes))

abbrev pub literal_line : ℕ → List ℕ
literal_line lit = decimal lit ++ 10 ∷ []

-- the lines of `n` inputs
unfoldable pub inputs_in : ℕ → ℕ → List ℕ → List ℕ
inputs_in variable zero text = text
inputs_in variable (suc n) text = inputs_in (variable + 1) n (text ++ literal_line (variable * 2))

-- the literal of a latch, which comes before its next state
abbrev pub latch_start : ℕ → List ℕ
latch_start variable = decimal (variable * 2) ++ 32 ∷ []

unfoldable pub latches_in : ℕ → ℕ → Stage → Stage
latches_in variable zero s = s
latches_in variable (suc n) s = latches_in (variable + 1) n (lined (latch_start variable) s.text s.rest)

unfoldable pub outputs_in : ℕ → Stage → Stage
outputs_in zero s = s
outputs_in (suc n) s = outputs_in n (lined [] s.text s.rest)

-- ---- gates

abbrev pub gate_line : ℕ → ℕ → ℕ → List ℕ
gate_line lit first second = decimal lit ++ 32 ∷ decimal first ++ 32 ∷ decimal second ++ 10 ∷ []

-- the fanins of a gate, and the bytes after it
pub record Fanins : Type 0 where
  pub first : ℕ
  pub second : ℕ
  pub rest : List ℕ

abbrev pub fanins : ℕ → ℕ → List ℕ → Fanins
fanins first second rest = record { first = first; second = second; rest = rest }

-- The first fanin is below the gate's literal, the second one not above the first.
-- Example: of the gate 6 the bytes 2 and 1 are the fanins 4 and 3.
abbrev pub fanins_in : ℕ → List ℕ → Option Fanins
fanins_in lit bytes = number_between 1 lit bytes >>= λ a. number_between 0 (lit - a.number) a.rest >>= λ b.
    Some (fanins (lit - a.number) (lit - a.number - b.number) b.rest)

-- the text ends before a gate that isn't one
abbrev pub with_fanins : ℕ → List ℕ → Option Fanins → Stage
with_fanins lit text None = stage text []
with_fanins lit text (Some f) = stage (text ++ gate_line lit f.first f.second) f.rest

abbrev pub gate_in : ℕ → Stage → Stage
gate_in lit s = with_fanins lit s.text (fanins_in lit s.rest)

unfoldable pub gates_in : ℕ → ℕ → Stage → Stage
gates_in variable zero s = s
gates_in variable (suc n) s = gates_in (variable + 1) n (gate_in (variable * 2) s)

-- ---- symbols

abbrev pub begins_digit : List ℕ → Bool
begins_digit [] = false
begins_digit (b ∷ bs) = is_ascii_digit b

-- whether a line begins the comment, as ABC also writes it, without an LF after the `c`; a digit after it makes the line
-- the symbol of a constraint
abbrev pub begins_comment : List ℕ → Bool
begins_comment [] = false
begins_comment (b ∷ bs) = b == 99 && not (begins_digit bs)

-- the lines after the gates: symbols, up to the comment, of which the line `c` is left
unfoldable pub tail_of : List Line → List ℕ
tail_of [] = []
tail_of (l ∷ ls) = if begins_comment l.text then codes "c" ++ 10 ∷ [] else line_bytes l ++ tail_of ls

-- ---- texts

-- the text with the first word of the ASCII form
abbrev pub renamed : List ℕ → List ℕ
renamed text = codes "aag" ++ drop 3 text

abbrev pub begun : Counts → Cut → Stage
begun c h = stage (inputs_in 1 c.inputs (renamed (line_bytes h.line))) h.rest

abbrev pub sections_in : Counts → Stage → Stage
sections_in c s = gates_in (1 + c.inputs + c.latches) c.gates (outputs_in c.outputs (latches_in (1 + c.inputs) c.latches s))

abbrev pub joined : Stage → List ℕ
joined s = s.text ++ tail_of (lines_of s.rest)

abbrev pub ascii_with : Counts → Cut → List ℕ
ascii_with c h = if is_packed c then joined (sections_in c (begun c h)) else []

abbrev pub ascii_by : List ℕ → Cut → Option Counts → List ℕ
ascii_by bytes h None = renamed bytes
ascii_by bytes h (Some c) = ascii_with c h

abbrev pub ascii_after : List ℕ → Cut → List ℕ
ascii_after bytes h = if h.line.ended then ascii_by bytes h (counts_in h.line.text) else renamed bytes

-- the ASCII text that a binary one stands for
unfoldable pub ascii_of : List ℕ → List ℕ
ascii_of bytes = ascii_after bytes (cut_first bytes)

-- ---- both forms

-- whether a text is in the binary form, by its first three bytes
abbrev pub is_binary : List ℕ → Bool
is_binary bytes = is_some (after (codes "aig") bytes)

-- the ASCII text of a text in either form
abbrev pub ascii_in : List ℕ → List ℕ
ascii_in bytes = if is_binary bytes then ascii_of bytes else bytes
