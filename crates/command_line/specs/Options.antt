-- The table of options: the name of each, how its value is read, its default, and which commands take it.
use Rattle.std.specs.Prelude.{ℕ, List, [], ◌∷◌, codes, nat_eq, nat_lt, ◌==◌, bit_and, Bool, true, false, Option, Some}
use Rattle.std.specs.Prelude.{None, Result, Ok, Err, if◌then◌else◌}
use Rattle.std.specs.List.{list_any}
use Rattle.std.specs.Cmp.Lexicographic.{pointwise}
use Rattle.text_core.specs.Numbers.{number_up_to}
use Rattle.op_basis.specs.Text.{bench_set, basis_of}
use Rattle.op_basis.specs.declared.error.BasisError.{BasisError}
use Rattle.settings.specs.declared.methods.Method.{Method}
use Rattle.settings.specs.declared.methods.MethodChoice.{MethodChoice}
use Rattle.settings.specs.Methods.{method_named, choice_named}
use Rattle.settings.specs.Synth.{defaults}
use Rattle.sat_theory.specs.Limits.{most_conflicts}
use Rattle.chain_theory.specs.Limits.{most_steps}
use Rattle.settings.specs.Improve as improver
use Rattle.settings.specs.Limits.{most_gates_of_window, most_rounds, most_effort, most_seed, most_blocks}
use Rattle.command_line.specs.declared.table.OptionKind.{OptionKind}
use Rattle.command_line.specs.declared.table.OptionKind.TheVariants.{Agree, Recheck, Synth, Improve, Equiv, Gen}
use Rattle.command_line.specs.declared.command.GenAction.{GenAction}
use Rattle.command_line.specs.declared.command.GenAction.TheVariants as deeds
use Rattle.command_line.specs.declared.command.Format.{Format}
use Rattle.command_line.specs.declared.command.Format.TheVariants.{Blif, Bench}

abbrev pub is_word : List ℕ → List ℕ → Bool
is_word = pointwise nat_eq

abbrev pub is_among : List ℕ → List (List ℕ) → Bool
is_among name names = list_any (is_word name) names

-- An option: its name, how the word after it is read, and its default. An option without a default has to be
-- named.
pub record OptionRow (A : Type 0) : Type 0 where
  pub name : List ℕ
  pub read : List ℕ → Option A
  pub default : Option A

-- ---- how values are read

abbrev pub from_on : ℕ → Option ℕ → Option ℕ
from_on low None = None
from_on low (Some n) = if nat_lt n low then None else Some n

abbrev pub number_within : ℕ → ℕ → List ℕ → Option ℕ
number_within low high word = from_on low (number_up_to high word)

abbrev pub number_row : List ℕ → ℕ → ℕ → Option ℕ → OptionRow ℕ
number_row name low high default = record { name = name; read = number_within low high; default = default }

abbrev pub basis_or_none : Result ℕ BasisError → Option ℕ
basis_or_none (Ok basis) = Some basis
basis_or_none (Err e) = None

abbrev pub basis_in : List ℕ → Option ℕ
basis_in word = basis_or_none (basis_of word)

-- Each operator of the first set is one of the second.
abbrev pub is_within : ℕ → ℕ → Bool
is_within set all = bit_and set all == set

-- only operators of gates in BENCH: AND, XOR, OR and their complements
abbrev pub if_of_gates : Option ℕ → Option ℕ
if_of_gates None = None
if_of_gates (Some basis) = if is_within basis bench_set then Some basis else None

abbrev pub format_in : List ℕ → Option Format
format_in word = if is_word word (codes "blif") then Some Blif
    else (if is_word word (codes "bench") then Some Bench else None)

abbrev pub deed_in : List ℕ → Option GenAction
deed_in word = if is_word word (codes "write") then Some deeds.Write
    else (if is_word word (codes "improve") then Some deeds.Improve else None)

-- `yes` or `no`
abbrev pub flag_in : List ℕ → Option Bool
flag_in word = if is_word word (codes "yes") then Some true
    else (if is_word word (codes "no") then Some false else None)

-- a flag, with the default `no`
abbrev pub flag_row : List ℕ → OptionRow Bool
flag_row name = record { name = name; read = flag_in; default = Some false }

-- ---- the rows

abbrev pub basis_row : OptionRow ℕ
basis_row = record { name = codes "--basis"; read = basis_in; default = Some defaults.basis }

-- In BENCH the basis has only operators of gates, and the default is all of these.
abbrev pub gates_row : OptionRow ℕ
gates_row = record { name = codes "--basis"; read = λ word. if_of_gates (basis_in word); default = Some bench_set }

abbrev pub format_basis_row : Format → OptionRow ℕ
format_basis_row Blif = basis_row
format_basis_row Bench = gates_row

abbrev pub method_row : OptionRow Method
method_row = record { name = codes "--method"; read = method_named; default = Some improver.defaults.method }

-- the method of `synth`, which may be chosen by the tables
abbrev pub choice_row : OptionRow MethodChoice
choice_row = record { name = codes "--method"; read = choice_named; default = Some defaults.method }

-- the greatest number of steps that is tried
abbrev pub max_row : OptionRow ℕ
max_row = number_row (codes "--max") 0 most_steps (Some defaults.max)

-- the conflict budget of a formula
abbrev pub conflicts_row : OptionRow ℕ
conflicts_row = number_row (codes "--conflicts") 1 most_conflicts (Some defaults.conflicts)

-- the most gates of a window
abbrev pub cap_row : OptionRow ℕ
cap_row = number_row (codes "--cap") 0 most_gates_of_window (Some improver.defaults.cap)

-- the most rounds over all windows that may change the netlist
abbrev pub rounds_row : OptionRow ℕ
rounds_row = number_row (codes "--rounds") 1 most_rounds (Some improver.defaults.rounds)

abbrev pub format_row : OptionRow Format
format_row = record { name = codes "--format"; read = format_in; default = Some Blif }

-- whether observability don't-cares (ODC) of windows are used
abbrev pub observe_row : OptionRow Bool
observe_row = flag_row (codes "--observe")

-- how many rounds of moves that keep the size
-- how much work walks do before formulas are solved
abbrev pub synth_effort_row : OptionRow ℕ
synth_effort_row = number_row (codes "--effort") 0 most_effort (Some defaults.effort)

-- the seed of random choices
abbrev pub seed_row : OptionRow ℕ
seed_row = number_row (codes "--seed") 0 most_seed (Some improver.defaults.seed)

abbrev pub effort_row : OptionRow ℕ
effort_row = number_row (codes "--effort") 0 most_effort (Some improver.defaults.effort)

-- how many blocks are generated; this option has no default
abbrev pub blocks_row : OptionRow ℕ
blocks_row = number_row (codes "--blocks") 1 most_blocks None

-- what is done with the netlist
abbrev pub run_row : OptionRow GenAction
run_row = record { name = codes "--run"; read = deed_in; default = Some deeds.Write }

-- whether a chain of the fewest levels among those of the fewest steps is searched for
abbrev pub least_depth_row : OptionRow Bool
least_depth_row = flag_row (codes "--least-depth")

-- whether the certificate to check is one of the fewest levels
abbrev pub depth_row : OptionRow Bool
depth_row = flag_row (codes "--depth")

-- ---- which command takes which options

abbrev pub kind_text : OptionKind → List ℕ
kind_text Agree = codes "agree"
kind_text Recheck = codes "recheck"
kind_text Synth = codes "synth"
kind_text Improve = codes "improve"
kind_text Equiv = codes "equiv"
kind_text Gen = codes "gen"

-- the command with a name
abbrev pub kind_named : List ℕ → Option OptionKind
kind_named name =
    if is_word name (kind_text Agree) then Some Agree
    else (if is_word name (kind_text Recheck) then Some Recheck
    else (if is_word name (kind_text Synth) then Some Synth
    else (if is_word name (kind_text Improve) then Some Improve
    else (if is_word name (kind_text Equiv) then Some Equiv
    else (if is_word name (kind_text Gen) then Some Gen
    else None)))))

-- the names of the options that a command takes
abbrev pub options_of : OptionKind → List (List ℕ)
options_of Agree = []
options_of Recheck = depth_row.name ∷ []
options_of Synth = basis_row.name ∷ choice_row.name ∷ max_row.name ∷ conflicts_row.name ∷ least_depth_row.name ∷
    synth_effort_row.name ∷ []
options_of Improve = basis_row.name ∷ method_row.name ∷ cap_row.name ∷ rounds_row.name ∷ conflicts_row.name ∷
    format_row.name ∷ observe_row.name ∷ effort_row.name ∷ seed_row.name ∷ []
options_of Equiv = conflicts_row.name ∷ []
options_of Gen = blocks_row.name ∷ run_row.name ∷ []
