-- The lines of the values of sources and sinks.
use Rattle.std.specs.Prelude.{ℕ, Bool, List, [], ◌∷◌, ◌++◌, codes}
use Rattle.net_theory.specs.Document.{Name, Latch}
use Rattle.equiv_run.specs.Texts.{character, sink_text}

-- A source and its bit. Example: `a=1`.
unfoldable pub source_line : Name → Bool → List ℕ
source_line name bit = name ++ (codes "=" ++ (character bit ∷ codes "\n"))

unfoldable pub source_lines : List Name → List Bool → List ℕ
source_lines [] bits = []
source_lines (n ∷ ns) [] = []
source_lines (n ∷ ns) (b ∷ bs) = source_line n b ++ source_lines ns bs

-- A sink, counted from 1, and its value in the first and in the second netlist. Example: `output y: 0 and 1`.
unfoldable pub sink_line : List Name → List Latch → ℕ → Bool → Bool → List ℕ
sink_line outputs latches sink one other = sink_text outputs latches sink ++
    (codes ": " ++ (character one ∷ (codes " and " ++ (character other ∷ codes "\n"))))
