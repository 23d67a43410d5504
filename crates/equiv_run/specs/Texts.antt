-- The texts of the three answers.
use Rattle.std.specs.Prelude.{ℕ, ◌-◌, nat_le, if◌then◌else◌, Bool, List, [], ◌∷◌, ◌++◌, length, map, slice_index_or}
use Rattle.std.specs.Prelude.{codes}
use Rattle.std.specs.List.{flat_map}
use Rattle.sat_theory.specs.Line.{Line}
use Rattle.lrat_text.specs.Spelling.{line_text}
use Rattle.net_theory.specs.Document.{Name, Latch, latch_output}

-- the lines of a log
unfoldable pub log_text : List Line → List ℕ
log_text lines = flat_map line_text lines

-- a keyword, the lines of a log, and `done`
abbrev pub logged_text : List ℕ → List Line → List ℕ
logged_text word lines = word ++ (log_text lines ++ codes "done\n")

unfoldable pub equal_text : List Line → List ℕ
equal_text lines = logged_text (codes "equal\n") lines

unfoldable pub undecided_text : List Line → List ℕ
undecided_text lines = logged_text (codes "undecided\n") lines

-- bits as characters, or `-` where there are none
abbrev pub character : Bool → ℕ
character bit = if bit then 49 else 48

unfoldable pub characters : List Bool → List ℕ
characters bits = map character bits

unfoldable pub bits_text : List Bool → List ℕ
bits_text [] = codes "-"
bits_text (b ∷ bs) = characters (b ∷ bs)

-- The name of a sink, counted from 1: that of an output or, after the outputs, of a latch's output.
unfoldable pub sink_text : List Name → List Latch → ℕ → List ℕ
sink_text outputs latches sink =
    if nat_le sink (length outputs) then codes "output " ++ slice_index_or outputs (sink - 1) []
    else codes "latch " ++ slice_index_or (map latch_output latches) (sink - 1 - length outputs) []

-- Example: `differ output y` and `at 11`.
unfoldable pub differ_text : List Name → List Latch → ℕ → List Bool → List ℕ
differ_text outputs latches sink bits = codes "differ " ++
    (sink_text outputs latches sink ++ (codes "\nat " ++ (bits_text bits ++ codes "\n")))
