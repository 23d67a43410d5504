-- The spelling of a command line: a command's name, and pairs of an option's name and a value, in any order.
use Rattle.std.specs.Prelude.{◌≡◌, ℕ, List, [], ◌∷◌, Bool, true, false, Some, All, Contains}
use Rattle.std.specs.List.{IsDistinct, flat_map}
use Rattle.std.specs.Map.{keys_of}
use Rattle.settings.specs.declared.methods.Method.TheVariants.{Fence}
use Rattle.settings.specs.declared.methods.MethodChoice.TheVariants.{Named}
use Rattle.settings.specs.declared.synth.SynthSettings.{SynthSettings}
use Rattle.settings.specs.declared.improve.ImproveSettings.{ImproveSettings}
use Rattle.command_line.specs.declared.command.Command.{Command}
use Rattle.command_line.specs.declared.command.Command.TheVariants as commands
use Rattle.command_line.specs.declared.table.OptionKind.{OptionKind}
use Rattle.command_line.specs.declared.table.OptionKind.TheVariants as kinds
use Rattle.command_line.specs.declared.command.GenAction.{GenAction}
use Rattle.command_line.specs.declared.command.Format.{Format}
use Rattle.command_line.specs.Options.{OptionRow, is_word, is_among, basis_row, format_basis_row, method_row, max_row}
use Rattle.command_line.specs.Options.{choice_row}
use Rattle.command_line.specs.Options.{conflicts_row, cap_row, rounds_row, format_row, observe_row, effort_row}
use Rattle.command_line.specs.Options.{seed_row, synth_effort_row, blocks_row, run_row, least_depth_row, depth_row}
use Rattle.command_line.specs.Options.{kind_text, options_of}

-- a name and the word after it
abbrev pub OptionPair : Type 0
OptionPair = List ℕ × List ℕ

abbrev pub both : OptionPair → List (List ℕ)
both p = p.0 ∷ p.1 ∷ []

-- the words of pairs
abbrev pub flat : List OptionPair → List (List ℕ)
flat pairs = flat_map both pairs

-- Pairs give an option this value: what the word after its name spells, or its default if the name doesn't occur.
pub record Gives {A : Type 0} (row : OptionRow A) (pairs : List OptionPair) (x : A) : Type 0 where
  pub named : (word : List ℕ) → Contains pairs (row.name, word) → row.read word ≡ Some x
  pub unnamed : ((word : List ℕ) → Contains pairs (row.name, word) → ⊥) → row.default ≡ Some x

pub record GivesSynth (pairs : List OptionPair) (s : SynthSettings) (least_depth : Bool) : Type 0 where
  pub basis : Gives basis_row pairs s.basis
  pub method : Gives choice_row pairs s.method
  pub max : Gives max_row pairs s.max
  pub conflicts : Gives conflicts_row pairs s.conflicts
  pub effort : Gives synth_effort_row pairs s.effort
  pub flag : Gives least_depth_row pairs least_depth

-- the settings of `improve`; the possible bases depend on the format
pub record GivesImprove (pairs : List OptionPair) (format : Format) (s : ImproveSettings) : Type 0 where
  pub format_is : Gives format_row pairs format
  pub basis : Gives (format_basis_row format) pairs s.basis
  pub method : Gives method_row pairs s.method
  pub cap : Gives cap_row pairs s.cap
  pub rounds : Gives rounds_row pairs s.rounds
  pub conflicts : Gives conflicts_row pairs s.conflicts
  pub observe : Gives observe_row pairs s.observe
  pub effort : Gives effort_row pairs s.effort
  pub seed : Gives seed_row pairs s.seed

pub record GivesGen (pairs : List OptionPair) (count : ℕ) (action : GenAction) : Type 0 where
  pub blocks : Gives blocks_row pairs count
  pub run : Gives run_row pairs action

-- Pairs give the settings of a command. The method of the search for the fewest levels is always `fence`.
abbrev pub GivesAll : List OptionPair → Command → Type 0
GivesAll pairs commands.Agree = Unit {0}
GivesAll pairs commands.Recheck = Gives depth_row pairs false
GivesAll pairs commands.RecheckDepth = Gives depth_row pairs true
GivesAll pairs (commands.Synth settings) = GivesSynth pairs settings false
GivesAll pairs (commands.LeastDepth settings) = GivesSynth pairs settings true × (settings.method ≡ Named Fence)
GivesAll pairs (commands.Improve format settings) = GivesImprove pairs format settings
GivesAll pairs (commands.Equiv budget) = Gives conflicts_row pairs budget
GivesAll pairs (commands.Gen blocks action) = GivesGen pairs blocks action

abbrev pub kind_of : Command → OptionKind
kind_of commands.Agree = kinds.Agree
kind_of commands.Recheck = kinds.Recheck
kind_of commands.RecheckDepth = kinds.Recheck
kind_of (commands.Synth settings) = kinds.Synth
kind_of (commands.LeastDepth settings) = kinds.Synth
kind_of (commands.Improve format settings) = kinds.Improve
kind_of (commands.Equiv budget) = kinds.Equiv
kind_of (commands.Gen blocks action) = kinds.Gen

-- Words are a command's name and then pairs. The command takes each option that is named, no name occurs twice,
-- and the pairs give the settings of the command.
pub record SpellsOptions (words : List (List ℕ)) (command : Command) : Type 0 where
  pub pairs : List OptionPair
  pub are : words ≡ kind_text (kind_of command) ∷ flat pairs
  pub taken : All (λ (p : OptionPair). is_among p.0 (options_of (kind_of command)) ≡ true) pairs
  pub once : IsDistinct is_word (keys_of pairs)
  pub given : GivesAll pairs command
