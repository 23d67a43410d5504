-- How a run ends, by the formats and the wishes that its words ask for.
use Rattle.std.specs.Prelude.{◌⊎◌, ℕ, List, Option, Some, None}
use Rattle.command_line.specs.declared.command.Command.{Command}
use Rattle.command_line.specs.CommandLine.{command_of}
use Rattle.format_names.specs.declared.formats.FormatPair.{FormatPair}
use Rattle.format_words.specs.declared.asking.FormatsAsked.{FormatsAsked}
use Rattle.format_words.specs.declared.asking.FormatsAsked.TheVariants.{Own, ImproveAiger, Compare, Match}
use Rattle.format_words.specs.FormatsAsked.{asked_of, plain_words}
use Rattle.frame_core.specs.declared.status.Status.TheVariants.{Memory}
use Rattle.frame_core.specs.Reported.{memory}
use Rattle.front_core.specs.Front.{Promises, promised_by, FrontRun, front_run, Reports}
use Rattle.front_guide.specs.Guided.{IsGuided}
use Rattle.front_wish.specs.AskedWishes.{Wish, wish_of}
use Rattle.front_wish.specs.WishRuns.{IsWishServed}
use Rattle.chain_app.specs.KeepsPromises.{KeepsPromises}
use Rattle.front_app.specs.declared.formats.CompareBy.TheVariants.{Order, Names}
use Rattle.front_app.specs.Comparison.{blif_pair, KeepsComparison}
use Rattle.front_app.specs.Named.{KeepsNamed}
use Rattle.front_app.specs.Aiger.{KeepsAiger}

-- What is promised: of `improve` over AIGER, of a comparison of two files in their formats, by order or by names, and of
-- anything else.
abbrev pub promises_of : FormatsAsked → Promises
promises_of Own = promised_by KeepsPromises KeepsNamed (KeepsComparison Order blif_pair)
promises_of ImproveAiger = promised_by KeepsAiger KeepsAiger (KeepsComparison Order blif_pair)
promises_of (Compare formats) = promised_by KeepsPromises KeepsNamed (KeepsComparison Order formats)
promises_of (Match formats) = promised_by KeepsPromises KeepsNamed (KeepsComparison Names formats)

-- the formats of two netlists that are read
abbrev pub formats_of : FormatsAsked → FormatPair
formats_of Own = blif_pair
formats_of ImproveAiger = blif_pair
formats_of (Compare formats) = formats
formats_of (Match formats) = formats

-- a run with other words
abbrev pub with_words : List (List ℕ) → FrontRun → FrontRun
with_words words r = front_run words r.files r.source r.out r.note r.status

-- A run of words that may ask for formats: memory ran out before they were read; or the run is that of the words
-- without formats, with what is promised for the formats that they ask for.
abbrev pub IsFormatted : FrontRun → Type 0
IsFormatted r =
    Reports memory Memory r ⊎
    IsGuided (formats_of (asked_of r.words)) (promises_of (asked_of r.words)) (with_words (plain_words r.words) r)

-- By what the words wish of the netlist that `improve` writes, if they wish something.
abbrev pub IsWishedBy : Option Wish → FrontRun → Type 0
IsWishedBy (Some wish) r = IsWishServed wish r
IsWishedBy None r = IsFormatted r

-- A run of words that are no command line as they are: memory ran out before they were read, or it is by their wishes.
abbrev pub IsWishedOr : FrontRun → Type 0
IsWishedOr r = Reports memory Memory r ⊎ IsWishedBy (wish_of r.words) r

-- By the command that the words are to the program over streams, if they are one: such words ask for no format.
abbrev pub IsFrontedBy : Option Command → FrontRun → Type 0
IsFrontedBy (Some command) r = IsGuided (formats_of Own) (promises_of Own) r
IsFrontedBy None r = IsWishedOr r

abbrev pub IsFronted : FrontRun → Type 0
IsFronted r = IsFrontedBy (command_of r.words) r
