-- The text of the values of two netlists.
use Rattle.std.specs.Prelude.{ℕ, ◌+◌, Bool, List, [], ◌∷◌, ◌++◌, if◌then◌else◌, codes}
use Rattle.net_theory.specs.Document.{Name, Latch}
use Rattle.equiv_run.specs.Texts.{bits_text}
use Rattle.equiv_values.specs.Lines.{source_lines, sink_line}

-- Examples: `equal at 10`, `differ at -`.
unfoldable pub head_text : Bool → List Bool → List ℕ
head_text same bits = (if same then codes "equal at " else codes "differ at ") ++ (bits_text bits ++ codes "\n")

-- the sinks after the first `before`
unfoldable pub sink_lines : List Name → List Latch → ℕ → List Bool → List Bool → List ℕ
sink_lines outputs latches before [] others = []
sink_lines outputs latches before (one ∷ ones) [] = []
sink_lines outputs latches before (one ∷ ones) (other ∷ others) =
    sink_line outputs latches (before + 1) one other ++ sink_lines outputs latches (before + 1) ones others

-- Whether the values are the same; the sources; the sinks.
abbrev pub values_text : List Name → List Name → List Latch → Bool → List Bool → List Bool → List Bool → List ℕ
values_text sources outputs latches same bits ones others =
    head_text same bits ++ (source_lines sources bits ++ sink_lines outputs latches 0 ones others)
