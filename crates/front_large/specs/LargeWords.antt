-- The words of a line without files: options of the front alone, and those of a command.
use Rattle.std.specs.Prelude.{ℕ, ◌-◌, ◌≤◌, nat_lt, Bool, true, false, if◌then◌else◌, List, [], ◌∷◌}
use Rattle.std.specs.Prelude.{◌++◌, codes, Option, Some, None, is_some}
use Rattle.std.specs.Str.{bytes_eq}
use Rattle.text_core.specs.Limits.{most_number}
use Rattle.text_core.specs.Numbers.{number_up_to}
use Rattle.chain_theory.specs.Limits.{most_steps}
use Rattle.settings.specs.declared.synth.SynthSettings.{SynthSettings}
use Rattle.settings.specs.Synth.{IsInRange}
use Rattle.command_line.specs.declared.command.Command.{Command}
use Rattle.command_line.specs.declared.command.Command.TheVariants.{Synth, Recheck, RecheckDepth}
use Rattle.command_line.specs.CommandLine.{command_of}
use Rattle.front_large.specs.declared.large.Large.{Large}
use Rattle.front_large.specs.declared.large.Large.TheVariants.{Part, Steps, Levels}

abbrev pub is_same : List ℕ → List ℕ → Bool
is_same = bytes_eq

-- the most bytes of a certificate that may be asked for
abbrev pub most_of_long : ℕ
most_of_long = 1099511627776

abbrev pub size_in : List ℕ → Option ℕ
size_in value = number_up_to most_steps value

abbrev pub part_in : List ℕ → Option ℕ
part_in value = number_up_to most_number value

abbrev pub most_in : List ℕ → Option ℕ
most_in value = number_up_to most_of_long value

-- ---- the options

-- the words of a command so far, the values of the options of the front alone, and whether all can be read
pub record Given : Type 0 where
  pub words : List (List ℕ)
  pub size : Option ℕ
  pub part : Option ℕ
  pub most : Option ℕ
  pub good : Bool

abbrev pub first_given : List ℕ → Given
first_given name = record { words = name ∷ []; size = None; part = None; most = None; good = true }

abbrev pub bad : Given → Given
bad g = record { words = g.words; size = g.size; part = g.part; most = g.most; good = false }

abbrev pub sized : Given → Option ℕ → Given
sized g None = bad g
sized g (Some size) = if is_some g.size then bad g
    else record { words = g.words; size = Some size; part = g.part; most = g.most; good = g.good }

abbrev pub parted : Given → Option ℕ → Given
parted g None = bad g
parted g (Some part) = if is_some g.part then bad g
    else record { words = g.words; size = g.size; part = Some part; most = g.most; good = g.good }

abbrev pub bounded : Given → Option ℕ → Given
bounded g None = bad g
bounded g (Some most) = if is_some g.most then bad g
    else record { words = g.words; size = g.size; part = g.part; most = Some most; good = g.good }

-- an option of the command
abbrev pub kept : Given → List ℕ → List ℕ → Given
kept g name value =
    record { words = (g.words ++ name ∷ []) ++ value ∷ []; size = g.size; part = g.part; most = g.most; good = g.good }

-- with one more option
unfoldable pub taken : Given → List ℕ → List ℕ → Given
taken g name value =
    if is_same name (codes "--size") then sized g (size_in value)
    else (if is_same name (codes "--part") then parted g (part_in value)
    else (if is_same name (codes "--most-bytes") then bounded g (most_in value) else kept g name value))

unfoldable pub given_from : Given → List (List ℕ) → Given
given_from g [] = g
given_from g (name ∷ []) = bad g
given_from g (name ∷ value ∷ words) = given_from (taken g name value) words

-- ---- what they ask for

-- Parts are numbered from 1 on; without a number it is the first one.
abbrev pub part_or_first : Option ℕ → ℕ
part_or_first None = 1
part_or_first (Some part) = part

-- the part of this number, of a size that the settings allow
abbrev pub part_at : SynthSettings → ℕ → ℕ → Option Large
part_at settings size part =
    if nat_lt part 1 then None
    else (if nat_lt settings.max size then None
    else Some (Part (record { settings = settings; size = size; before = part - 1 })))

abbrev pub part_by : SynthSettings → Given → Option ℕ → Option Large
part_by settings g None = None
part_by settings g (Some size) = if is_some g.most then None else part_at settings size (part_or_first g.part)

-- `synth` with a size asks for a part.
abbrev pub part_for : SynthSettings → Given → Option Large
part_for settings g = part_by settings g g.size

abbrev pub most_by : Given → Option ℕ → Option ℕ
most_by g None = None
most_by g (Some most) =
    if is_some g.size then None
    else (if is_some g.part then None else Some most)

abbrev pub most_for : Given → Option ℕ
most_for g = most_by g g.most

abbrev pub steps_by : Option ℕ → Option Large
steps_by None = None
steps_by (Some most) = Some (Steps most)

abbrev pub levels_by : Option ℕ → Option Large
levels_by None = None
levels_by (Some most) = Some (Levels most)

-- `recheck` with a number of bytes asks for the verdict of a certificate that may have as many.
abbrev pub large_for : Option Command → Given → Option Large
large_for (Some (Synth settings)) g = part_for settings g
large_for (Some Recheck) g = steps_by (most_for g)
large_for (Some RecheckDepth) g = levels_by (most_for g)
large_for command g = None

abbrev pub large_of : Given → Option Large
large_of g = if g.good then large_for (command_of g.words) g else None

-- What the words of a line without files ask for: without the options of the front alone they are those of a command.
-- Example: `synth --size 7 --method fence --part 2` asks for the second part of size 7 of `synth --method fence`.
abbrev pub large_in : List (List ℕ) → Option Large
large_in [] = None
large_in (name ∷ options) = large_of (given_from (first_given name) options)

-- ---- ranges

-- settings and sizes are in their ranges
abbrev pub IsReady : Large → Type 0
IsReady (Part part) = IsInRange part.settings × (part.size ≤ part.settings.max)
IsReady (Steps most) = Unit {0}
IsReady (Levels most) = Unit {0}
