-- The command lines that the program accepts.
use Rattle.std.specs.Prelude.{◌≡◌, ℕ, ◌≤◌, List, [], ◌∷◌, map, Bool, true, false, not, ◌&&◌, Option, Some, None}
use Rattle.std.specs.Prelude.{is_some, Result, Ok, Err, Vec, String, if◌then◌else◌}
use Rattle.std.specs.Global.{Global}
use Rattle.std.specs.String.{string_bytes}
use Rattle.settings.specs.declared.methods.Method.{Method}
use Rattle.settings.specs.declared.methods.Method.TheVariants.{Fence}
use Rattle.settings.specs.declared.methods.MethodChoice.{MethodChoice}
use Rattle.settings.specs.declared.methods.MethodChoice.TheVariants.{Named, Auto}
use Rattle.settings.specs.declared.synth.SynthSettings.{SynthSettings}
use Rattle.settings.specs.Synth.{IsInRange}
use Rattle.sat_theory.specs.Limits.{most_conflicts}
use Rattle.op_basis.specs.Text.{bench_set}
use Rattle.settings.specs.declared.improve.ImproveSettings.{ImproveSettings}
use Rattle.settings.specs.Improve as improver
use Rattle.command_line.specs.declared.command.Command.{Command}
use Rattle.command_line.specs.declared.command.Command.TheVariants as commands
use Rattle.command_line.specs.declared.command.WordsError.{WordsError}
use Rattle.command_line.specs.declared.command.WordsError.TheVariants.{Usage}
use Rattle.command_line.specs.declared.table.OptionKind.{OptionKind}
use Rattle.command_line.specs.declared.table.OptionKind.TheVariants as kinds
use Rattle.command_line.specs.declared.command.GenAction.{GenAction}
use Rattle.command_line.specs.declared.command.Format.{Format}
use Rattle.command_line.specs.declared.command.Format.TheVariants.{Blif, Bench}
use Rattle.command_line.specs.Options.{OptionRow, is_word, is_among, is_within, basis_row, format_basis_row, method_row}
use Rattle.command_line.specs.Options.{choice_row}
use Rattle.command_line.specs.Options.{max_row, conflicts_row, cap_row, rounds_row, format_row, observe_row, effort_row}
use Rattle.command_line.specs.Options.{seed_row, synth_effort_row, blocks_row, run_row, least_depth_row, depth_row}
use Rattle.command_line.specs.Options.{kind_named}
use Rattle.settings.specs.Limits.{most_blocks}
use Rattle.command_line.specs.Options.{options_of}

-- the bytes of each word
abbrev pub spelled : Vec (String Global) Global → List (List ℕ)
spelled words = map string_bytes words.items

-- ---- options: names and values alternate

-- the word after a name
unfoldable pub word_after : List ℕ → List (List ℕ) → Option (List ℕ)
word_after name [] = None
word_after name (found ∷ []) = None
word_after name (found ∷ word ∷ words) = if is_word name found then Some word else word_after name words

abbrev pub is_named : List ℕ → List (List ℕ) → Bool
is_named name words = is_some (word_after name words)

-- Each name is one of these, and none occurs twice.
unfoldable pub are_options : List (List ℕ) → List (List ℕ) → Bool
are_options names [] = true
are_options names (name ∷ []) = false
are_options names (name ∷ word ∷ words) = is_among name names && not (is_named name words) && are_options names words

-- the value of an option: what its word spells, or the default if the option isn't named
abbrev pub value_in : {A : Type 0} → OptionRow A → Option (List ℕ) → Option A
value_in row None = row.default
value_in row (Some word) = row.read word

abbrev pub value : {A : Type 0} → OptionRow A → List (List ℕ) → Option A
value row words = value_in row (word_after row.name words)

-- ---- commands

abbrev pub asked_from : Option ℕ → Option MethodChoice → Option ℕ → Option ℕ → Option ℕ → Option SynthSettings
asked_from (Some basis) (Some method) (Some max) (Some conflicts) (Some effort) =
    Some (record { basis = basis; method = method; max = max; conflicts = conflicts; effort = effort })
asked_from basis method max conflicts effort = None

-- the settings of `synth`
abbrev pub asked_in : List (List ℕ) → Option SynthSettings
asked_in words = asked_from (value basis_row words) (value choice_row words) (value max_row words)
    (value conflicts_row words) (value synth_effort_row words)

-- the method of the search for the fewest levels is always `fence`
abbrev pub least_depth_by : Method → SynthSettings → Option Command
least_depth_by Fence asked = Some (commands.LeastDepth asked)
least_depth_by method asked = None

abbrev pub least_depth_for : MethodChoice → SynthSettings → Option Command
least_depth_for (Named method) asked = least_depth_by method asked
least_depth_for Auto asked = None

abbrev pub synth_from : Option SynthSettings → Option Bool → Option Command
synth_from (Some asked) (Some false) = Some (commands.Synth asked)
synth_from (Some asked) (Some true) = least_depth_for asked.method asked
synth_from asked least_depth = None

abbrev pub synth_in : List (List ℕ) → Option Command
synth_in words = synth_from (asked_in words) (value least_depth_row words)

abbrev pub recheck_from : Option Bool → Option Command
recheck_from (Some false) = Some commands.Recheck
recheck_from (Some true) = Some commands.RecheckDepth
recheck_from None = None

abbrev pub recheck_in : List (List ℕ) → Option Command
recheck_in words = recheck_from (value depth_row words)

abbrev pub settings_from : Option ℕ → Option Method → Option ℕ → Option ℕ → Option ℕ → Option Bool → Option ℕ →
    Option ℕ → Option ImproveSettings
settings_from (Some basis) (Some method) (Some cap) (Some rounds) (Some conflicts) (Some observe) (Some effort)
    (Some seed) =
    Some (record {
      basis = basis;
      method = method;
      cap = cap;
      rounds = rounds;
      conflicts = conflicts;
      observe = observe;
      effort = effort;
      seed = seed;
    })
settings_from basis method cap rounds conflicts observe effort seed = None

-- the settings of `improve` for a format
abbrev pub settings_for : Format → List (List ℕ) → Option ImproveSettings
settings_for format words = settings_from (value (format_basis_row format) words) (value method_row words)
    (value cap_row words) (value rounds_row words) (value conflicts_row words) (value observe_row words)
    (value effort_row words) (value seed_row words)

abbrev pub improve_with : Format → Option ImproveSettings → Option Command
improve_with format None = None
improve_with format (Some settings) = Some (commands.Improve format settings)

abbrev pub improve_for : List (List ℕ) → Option Format → Option Command
improve_for words None = None
improve_for words (Some format) = improve_with format (settings_for format words)

abbrev pub improve_in : List (List ℕ) → Option Command
improve_in words = improve_for words (value format_row words)

abbrev pub equiv_from : Option ℕ → Option Command
equiv_from (Some conflicts) = Some (commands.Equiv conflicts)
equiv_from None = None

abbrev pub equiv_in : List (List ℕ) → Option Command
equiv_in words = equiv_from (value conflicts_row words)

abbrev pub gen_from : Option ℕ → Option GenAction → Option Command
gen_from (Some blocks) (Some action) = Some (commands.Gen blocks action)
gen_from blocks action = None

abbrev pub gen_in : List (List ℕ) → Option Command
gen_in words = gen_from (value blocks_row words) (value run_row words)

-- a command with the values of its options
abbrev pub command_with : OptionKind → List (List ℕ) → Option Command
command_with kinds.Agree words = Some commands.Agree
command_with kinds.Recheck words = recheck_in words
command_with kinds.Synth words = synth_in words
command_with kinds.Improve words = improve_in words
command_with kinds.Equiv words = equiv_in words
command_with kinds.Gen words = gen_in words

abbrev pub command_in : Option OptionKind → List (List ℕ) → Option Command
command_in None words = None
command_in (Some kind) words = if are_options (options_of kind) words then command_with kind words else None

-- The command that words ask for, if they ask for one.
-- Example: synth --max 3 --basis nand asks for NAND as the only operator, at most 3 steps, the method ssv, and a
-- budget of 100,000.
unfoldable pub command_of : List (List ℕ) → Option Command
command_of [] = None
command_of (name ∷ words) = command_in (kind_named name) words

abbrev pub or_usage : Option Command → Result Command WordsError
or_usage None = Err Usage
or_usage (Some command) = Ok command

abbrev pub read : List (List ℕ) → Result Command WordsError
read words = or_usage (command_of words)

-- These words ask for this command.
abbrev pub AsksFor : List (List ℕ) → Command → Type 0
AsksFor words command = command_of words ≡ Some command

-- a budget of learnt clauses
abbrev pub IsBudget : ℕ → Type 0
IsBudget conflicts = (1 ≤ conflicts) × (conflicts ≤ most_conflicts)

-- the defaults if only the format is named
abbrev pub defaults_for : Format → ImproveSettings
defaults_for Blif = improver.defaults
defaults_for Bench = record improver.defaults { basis = bench_set }

-- The basis has only operators of the format's gates. In BLIF a gate may have any operator.
abbrev pub HasGatesOf : Format → ℕ → Type 0
HasGatesOf Blif basis = Unit {0}
HasGatesOf Bench basis = is_within basis bench_set ≡ true

pub record IsAsked (format : Format) (settings : ImproveSettings) : Type 0 where
  pub range : improver.IsInRange settings
  pub basis : HasGatesOf format settings.basis

-- the settings of a command are in their ranges
abbrev pub IsAskable : Command → Type 0
IsAskable commands.Agree = Unit {0}
IsAskable commands.Recheck = Unit {0}
IsAskable commands.RecheckDepth = Unit {0}
IsAskable (commands.Synth settings) = IsInRange settings
IsAskable (commands.LeastDepth settings) = IsInRange settings × (settings.method ≡ Named Fence)
IsAskable (commands.Improve format settings) = IsAsked format settings
IsAskable (commands.Equiv conflicts) = IsBudget conflicts
IsAskable (commands.Gen blocks action) = (1 ≤ blocks) × (blocks ≤ most_blocks)
