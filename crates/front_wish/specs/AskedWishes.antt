-- What words ask for that wish something of the netlist which `improve` writes.
use Rattle.std.specs.Prelude.{ℕ, List, Bool, true, false, Option, Some, None, if◌then◌else◌}
use Rattle.command_line.specs.declared.command.Command.{Command}
use Rattle.command_line.specs.declared.command.Command.TheVariants.{Improve}
use Rattle.command_line.specs.declared.command.Format as asked_format
use Rattle.command_line.specs.declared.command.Format.TheVariants as command_formats
use Rattle.command_line.specs.CommandLine.{command_of}
use Rattle.file_words.specs.Sorting.{Line, file_line}
use Rattle.file_words.specs.Lines.{line_value}
use Rattle.format_names.specs.declared.formats.NetFormat.{NetFormat}
use Rattle.format_names.specs.declared.formats.NetFormat.TheVariants.{Blif, Bench, Aiger}
use Rattle.net_formats.specs.Formats.{format_of}
use Rattle.settings.specs.declared.improve.ImproveSettings.{ImproveSettings}
use Rattle.settings.specs.Improve.{IsInRange}
use Rattle.wish_names.specs.declared.wishes.Wishes.{Wishes}
use Rattle.wish_words.specs.WishWords.{Wished, wished_in}
use Rattle.improve_windows.specs.Improving.{FitsFormat}
use Rattle.cmd_formats.specs.AigerReport.{has_and_gates}
use Rattle.front_core.specs.Asked.{fits}
use Rattle.front_wish.specs.declared.asking.NetAsked.{NetAsked}
use Rattle.front_wish.specs.declared.asking.WishLine.{WishLine}

-- a line without wishes, the format of its netlist, the settings, and the wishes
pub record Wish : Type 0 where
  pub line : Line
  pub format : NetFormat
  pub settings : ImproveSettings
  pub wishes : Wishes

-- ---- `improve` of a format

abbrev pub net_asked : NetFormat → ImproveSettings → NetAsked
net_asked format settings = record { format = format; settings = settings }

-- AIGER has the words of BLIF, over the operators of its gates.
abbrev pub format_asked : asked_format.Format → Bool → ImproveSettings → Option NetAsked
format_asked command_formats.Blif false settings = Some (net_asked Blif settings)
format_asked command_formats.Blif true settings =
    if has_and_gates settings.basis then Some (net_asked Aiger settings) else None
format_asked command_formats.Bench false settings = Some (net_asked Bench settings)
format_asked command_formats.Bench true settings = None

abbrev pub asked_in : Command → Bool → Option NetAsked
asked_in (Improve format settings) aiger = format_asked format aiger settings
asked_in command aiger = None

-- ---- words

abbrev pub wish_from : Line → Wishes → Option NetAsked → Option Wish
wish_from line wishes None = None
wish_from line wishes (Some asked) =
    Some (record { line = line; format = asked.format; settings = asked.settings; wishes = wishes })

abbrev pub wish_by : Line → Wishes → Bool → Option Command → Option Wish
wish_by line wishes aiger None = None
wish_by line wishes aiger (Some command) =
    if fits command line then wish_from line wishes (asked_in command aiger) else None

abbrev pub with_words : Line → List (List ℕ) → Line
with_words line words = record line { words = words }

abbrev pub wish_as : Line → Option Wished → Option Wish
wish_as line None = None
wish_as line (Some wished) = wish_by (with_words line wished.words) wished.wishes wished.aiger (command_of wished.words)

abbrev pub wish_on : Option Line → Option Wish
wish_on None = None
wish_on (Some line) = wish_as line (wished_in line)

-- What words wish; None if they wish nothing, or aren't words of `improve` with the values of their options.
-- Example: `improve --levels tell --cap 4 a.aag` wishes that the levels are told of the AIGER file `a.aag`.
unfoldable pub wish_of : List (List ℕ) → Option Wish
wish_of words = wish_on (file_line words)

-- ---- as the program has it

abbrev pub wish_value : WishLine → Wish
wish_value wish = record {
  line = line_value wish.line;
  format = wish.format;
  settings = wish.settings;
  wishes = wish.wishes;
}

-- The settings are in their ranges, and the basis has only operators that the format's gates have.
pub record IsReady (format : NetFormat) (settings : ImproveSettings) : Type 0 where
  pub range : IsInRange settings
  pub basis : FitsFormat (format_of format) settings
