-- The state after all lines of a text.
use Rattle.std.specs.Prelude.{ℕ, List, [], Result, Ok, Err}
use Rattle.text_core.specs.Lines.{Line}
use Rattle.line_reader.specs.Splits.{IsPlace}
use Rattle.line_reader.specs.declared.reader.Closed.{Closed}

-- The stage represents all lines, with none left, or the text is refused.
abbrev pub HasClosed : {S F : Type 0} → (S → ℕ → List Line → List Line → Type 0) → (F → List Line → Type 0) → Result (Closed S) F → List Line → Type 0
HasClosed stands refuses (Ok closed) all = IsPlace closed.number [] all × stands closed.stage closed.number [] all
HasClosed stands refuses (Err e) all = refuses e all
