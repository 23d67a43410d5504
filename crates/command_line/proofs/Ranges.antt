-- The settings of a command are in their ranges.
use Rattle.std.specs.Prelude.{◌≡◌, ℕ, ◌<◌, ◌≤◌, ◌^◌, List, [], ◌∷◌, Bool, true, false, cond, nat_lt, Option, Some, None, Result, Ok, Err}
use Rattle.std.proofs.Common.{arith, sym, ◌∙◌, ap, subst, refl}
use Rattle.std.proofs.lemmas.Bool.Decides.{nat_tests}
use Rattle.std.proofs.lemmas.Grind.{common_steps}
use Rattle.text_core.specs.Numbers.{number_up_to}
use Rattle.text_core.specs.ReadBack.{number_spells}
use Rattle.op_basis.specs.Text.{bench_set, basis_of}
use Rattle.op_basis.specs.ListLaws.{basis_some}
use Rattle.op_basis.specs.declared.error.BasisError.{BasisError}
use Rattle.settings.specs.declared.methods.Method.{Method}
use Rattle.settings.specs.declared.methods.Method.TheVariants.{Plain, Ssv, Select, Fence, Strong, StrongFence}
use Rattle.settings.specs.declared.methods.MethodChoice.{MethodChoice}
use Rattle.settings.specs.declared.methods.MethodChoice.TheVariants.{Named, Auto}
use Rattle.settings.specs.declared.synth.SynthSettings.{SynthSettings}
use Rattle.settings.specs.declared.improve.ImproveSettings.{ImproveSettings}
use Rattle.settings.specs.Synth.{IsInRange}
use Rattle.sat_theory.specs.Limits.{most_conflicts}
use Rattle.chain_theory.specs.Limits.{most_steps}
use Rattle.settings.specs.Improve as improver
use Rattle.command_line.specs.declared.command.Command.{Command}
use Rattle.command_line.specs.declared.command.Command.TheVariants as commands
use Rattle.command_line.specs.declared.table.OptionKind.{OptionKind}
use Rattle.command_line.specs.declared.table.OptionKind.TheVariants.{Agree, Recheck, Synth, Improve, Equiv, Gen}
use Rattle.command_line.specs.declared.command.GenAction.{GenAction}
use Rattle.command_line.specs.declared.command.Format.{Format}
use Rattle.command_line.specs.declared.command.Format.TheVariants.{Blif, Bench}
use Rattle.command_line.specs.Options.{OptionRow, from_on, number_within, basis_or_none, basis_in, is_within}
use Rattle.command_line.specs.Options.{if_of_gates, basis_row, gates_row, format_basis_row, method_row, choice_row, max_row}
use Rattle.command_line.specs.Options.{conflicts_row, cap_row, rounds_row, format_row, observe_row, effort_row}
use Rattle.command_line.specs.Options.{seed_row, synth_effort_row, blocks_row, run_row, least_depth_row, depth_row, kind_named, options_of}
use Rattle.command_line.specs.CommandLine.{word_after, are_options, value_in, value, asked_from, asked_in}
use Rattle.command_line.specs.CommandLine.{least_depth_by, least_depth_for, synth_from, recheck_from, settings_from, settings_for}
use Rattle.command_line.specs.CommandLine.{improve_with, improve_for, equiv_from, gen_from, command_with, command_in}
use Rattle.command_line.specs.CommandLine.{command_of, HasGatesOf, IsAsked, IsAskable}
use Rattle.settings.specs.Limits.{most_gates_of_window, most_rounds, most_effort, most_seed, most_blocks, default_conflicts}

pub some_is : {A : Type 0} (a b : A) → Some a ≡ Some b → a ≡ b
some_is a b e = cc

-- what passes a test
pub passed : {A : Type 0} (t : Bool) (o : Option A) (x : A) → cond t o None ≡ Some x → (t ≡ true) × (o ≡ Some x)
passed true o x e = (refl, e)
passed false o x e = absurd cc

-- ---- what words spell

from_by : (t : Bool) (low m n : ℕ) → nat_lt m low ≡ t → cond t None (Some m) ≡ Some n → (m ≡ n) × (low ≤ n)
from_by true low m n is e = absurd cc
from_by false low m n is e = let same : m ≡ n = some_is m n e in (same, grind (arith, nat_tests))

from_is : (low n : ℕ) (o : Option ℕ) → from_on low o ≡ Some n → (o ≡ Some n) × (low ≤ n)
from_is low n None e = absurd cc
from_is low n (Some m) e = let by = from_by (nat_lt m low) low m n refl e in (ap (λ (k : ℕ). Some k) by.0, by.1)

-- a number that is read is in its range
pub number_range : (low high n : ℕ) (word : List ℕ) → high < 2 ^ 64 → number_within low high word ≡ Some n → (low ≤ n) × (n ≤ high)
number_range low high n word fits e =
    let by = from_is low n (number_up_to high word) e in
    (by.1, (number_spells high n word fits by.0).0)

basis_ok : (r : Result ℕ BasisError) (b : ℕ) → basis_or_none r ≡ Some b → r ≡ Ok b
basis_ok (Ok a) b e = ap (λ (n : ℕ). Ok n) (some_is a b e)
basis_ok (Err e') b e = absurd cc

basis_range : (word : List ℕ) (b : ℕ) → basis_in word ≡ Some b → 0 < b
basis_range word b e = basis_some word b (basis_ok (basis_of word) b e)

-- what holds for whatever a word spells and for the default holds for the value of the option
pub in_row : {A : Type 0} (row : OptionRow A) (P : A → Type 0) → ((word : List ℕ) (x : A) → row.read word ≡ Some x →
    P x) → ((x : A) → row.default ≡ Some x → P x) → (o : Option (List ℕ)) (x : A) → value_in row o ≡ Some x → P x
in_row row P reads default None x e = default x e
in_row row P reads default (Some word) x e = reads word x e

-- ---- commands

-- the settings of `synth` are the values of its options
pub record AreAsked (basis : Option ℕ) (method : Option MethodChoice) (max conflicts effort : Option ℕ) (s : SynthSettings) : Type 0 where
  pub basis_is : basis ≡ Some s.basis
  pub method_is : method ≡ Some s.method
  pub max_is : max ≡ Some s.max
  pub conflicts_is : conflicts ≡ Some s.conflicts
  pub effort_is : effort ≡ Some s.effort

asked_made : (basis : Option ℕ) (method : Option MethodChoice) (max conflicts effort : Option ℕ) (s : SynthSettings) →
    asked_from basis method max conflicts effort ≡ Some s → AreAsked basis method max conflicts effort s
asked_made (Some b) (Some m) (Some x) (Some n) (Some f) s e =
    let same = some_is _ s e in
    record {
      basis_is = ap (λ (t : SynthSettings). Some t.basis) same;
      method_is = ap (λ (t : SynthSettings). Some t.method) same;
      max_is = ap (λ (t : SynthSettings). Some t.max) same;
      conflicts_is = ap (λ (t : SynthSettings). Some t.conflicts) same;
      effort_is = ap (λ (t : SynthSettings). Some t.effort) same;
    }
asked_made (Some b) (Some m) (Some x) (Some n) None s e = absurd cc
asked_made (Some b) (Some m) (Some x) None effort s e = absurd cc
asked_made (Some b) (Some m) None conflicts effort s e = absurd cc
asked_made (Some b) None max conflicts effort s e = absurd cc
asked_made None method max conflicts effort s e = absurd cc

pub asked_back : (basis : Option ℕ) (method : Option MethodChoice) (max conflicts effort : Option ℕ) (s : SynthSettings) →
    AreAsked basis method max conflicts effort s → asked_from basis method max conflicts effort ≡ Some s
asked_back basis method max conflicts effort s are = rw (are.basis_is, are.method_is, are.max_is, are.conflicts_is, are.effort_is) refl

-- those of words
abbrev pub AreAskedIn : List (List ℕ) → SynthSettings → Type 0
AreAskedIn words s = AreAsked (value basis_row words) (value choice_row words) (value max_row words) (value conflicts_row words) (value synth_effort_row words) s

-- the command of `synth` with settings and the flag; the method for the fewest levels is always `fence`
abbrev pub IsSynth : SynthSettings → Bool → Command → Type 0
IsSynth s false c = commands.Synth s ≡ c
IsSynth s true c = (commands.LeastDepth s ≡ c) × (s.method ≡ Named Fence)

-- words ask for `synth` with settings and the flag
pub record IsSynthIn (words : List (List ℕ)) (c : Command) : Type 0 where
  pub s : SynthSettings
  pub flag : Bool
  pub is : IsSynth s flag c
  pub are : AreAskedIn words s
  pub flag_is : value least_depth_row words ≡ Some flag

depth_by : (m : Method) (s : SynthSettings) (c : Command) → s.method ≡ Named m → least_depth_by m s ≡ Some c → IsSynth s true c
depth_by Fence s c is e = (some_is _ c e, is)
depth_by Plain s c is e = absurd cc
depth_by Ssv s c is e = absurd cc
depth_by Select s c is e = absurd cc
depth_by Strong s c is e = absurd cc
depth_by StrongFence s c is e = absurd cc

depth_for : (m : MethodChoice) (s : SynthSettings) (c : Command) → s.method ≡ m → least_depth_for m s ≡ Some c → IsSynth s true c
depth_for (Named m) s c is e = depth_by m s c is e
depth_for Auto s c is e = absurd cc

flag_by : (s : SynthSettings) (flag : Bool) (c : Command) → synth_from (Some s) (Some flag) ≡ Some c → IsSynth s flag c
flag_by s false c e = some_is _ c e
flag_by s true c e = depth_for s.method s c refl e

synth_made : (words : List (List ℕ)) (o : Option SynthSettings) (flag : Option Bool) (c : Command) →
    asked_in words ≡ o → value least_depth_row words ≡ flag → synth_from o flag ≡ Some c → IsSynthIn words c
synth_made words (Some s) (Some flag) c is flag_is e = record { s = s; flag = flag; is = flag_by s flag c e; are = asked_made _ _ _ _ _ s is; flag_is = flag_is }
synth_made words (Some s) None c is flag_is e = absurd cc
synth_made words None flag c is flag_is e = absurd cc

pub synth_in_made : (words : List (List ℕ)) (c : Command) → command_with Synth words ≡ Some c → IsSynthIn words c
synth_in_made words c e = synth_made words (asked_in words) (value least_depth_row words) c refl refl e

-- the command of `recheck` with the flag
abbrev pub rechecks : Bool → Command
rechecks false = commands.Recheck
rechecks true = commands.RecheckDepth

recheck_by : (flag : Bool) (c : Command) → recheck_from (Some flag) ≡ Some c → rechecks flag ≡ c
recheck_by false c e = some_is _ c e
recheck_by true c e = some_is _ c e

pub recheck_made : (flag : Option Bool) (c : Command) → recheck_from flag ≡ Some c → (b : Bool) × (rechecks b ≡ c) × (flag ≡ Some b)
recheck_made (Some b) c e = (b, recheck_by b c e, refl)
recheck_made None c e = absurd cc

-- the settings of `improve` are the values of all its options
pub record AreSettingsOf (basis : Option ℕ) (method : Option Method) (cap rounds conflicts : Option ℕ) (observe : Option Bool) (effort seed : Option ℕ) (s : ImproveSettings) : Type 0 where
  pub basis_is : basis ≡ Some s.basis
  pub method_is : method ≡ Some s.method
  pub cap_is : cap ≡ Some s.cap
  pub rounds_is : rounds ≡ Some s.rounds
  pub conflicts_is : conflicts ≡ Some s.conflicts
  pub observe_is : observe ≡ Some s.observe
  pub effort_is : effort ≡ Some s.effort
  pub seed_is : seed ≡ Some s.seed

settings_made : (basis : Option ℕ) (method : Option Method) (cap rounds conflicts : Option ℕ) (observe : Option Bool)
    (effort seed : Option ℕ) (s : ImproveSettings) → settings_from basis method cap rounds conflicts observe effort seed ≡
    Some s → AreSettingsOf basis method cap rounds conflicts observe effort seed s
settings_made (Some b) (Some m) (Some n) (Some r) (Some x) (Some o) (Some f) (Some z) s e =
    let same = some_is _ s e in
    record {
      basis_is = ap (λ (t : ImproveSettings). Some t.basis) same;
      method_is = ap (λ (t : ImproveSettings). Some t.method) same;
      cap_is = ap (λ (t : ImproveSettings). Some t.cap) same;
      rounds_is = ap (λ (t : ImproveSettings). Some t.rounds) same;
      conflicts_is = ap (λ (t : ImproveSettings). Some t.conflicts) same;
      observe_is = ap (λ (t : ImproveSettings). Some t.observe) same;
      effort_is = ap (λ (t : ImproveSettings). Some t.effort) same;
      seed_is = ap (λ (t : ImproveSettings). Some t.seed) same;
    }
settings_made (Some b) (Some m) (Some n) (Some r) (Some x) (Some o) (Some f) None s e = absurd cc
settings_made (Some b) (Some m) (Some n) (Some r) (Some x) (Some o) None seed s e = absurd cc
settings_made (Some b) (Some m) (Some n) (Some r) (Some x) None effort seed s e = absurd cc
settings_made (Some b) (Some m) (Some n) (Some r) None observe effort seed s e = absurd cc
settings_made (Some b) (Some m) (Some n) None conflicts observe effort seed s e = absurd cc
settings_made (Some b) (Some m) None rounds conflicts observe effort seed s e = absurd cc
settings_made (Some b) None cap rounds conflicts observe effort seed s e = absurd cc
settings_made None method cap rounds conflicts observe effort seed s e = absurd cc

pub settings_back : (basis : Option ℕ) (method : Option Method) (cap rounds conflicts : Option ℕ)
    (observe : Option Bool) (effort seed : Option ℕ) (s : ImproveSettings) →
    AreSettingsOf basis method cap rounds conflicts observe effort seed s →
    settings_from basis method cap rounds conflicts observe effort seed ≡ Some s
settings_back basis method cap rounds conflicts observe effort seed s are =
    rw (are.basis_is, are.method_is, are.cap_is, are.rounds_is, are.conflicts_is, are.observe_is, are.effort_is, are.seed_is) refl

-- those of words, by a format
abbrev pub AreSettingsIn : List (List ℕ) → Format → ImproveSettings → Type 0
AreSettingsIn words f s = AreSettingsOf (value (format_basis_row f) words) (value method_row words)
    (value cap_row words) (value rounds_row words) (value conflicts_row words) (value observe_row words)
    (value effort_row words) (value seed_row words) s

-- words ask `improve` for a format, with settings
pub record IsImproveIn (words : List (List ℕ)) (c : Command) : Type 0 where
  pub f : Format
  pub s : ImproveSettings
  pub is : commands.Improve f s ≡ c
  pub format_is : value format_row words ≡ Some f
  pub are : AreSettingsIn words f s

with_made : (f : Format) (o : Option ImproveSettings) (c : Command) → improve_with f o ≡ Some c → (s : ImproveSettings) × (o ≡ Some s) × (commands.Improve f s ≡ c)
with_made f None c e = absurd cc
with_made f (Some s) c e = (s, refl, some_is _ c e)

improve_made : (words : List (List ℕ)) (o : Option Format) (c : Command) → value format_row words ≡ o → improve_for words o ≡ Some c → IsImproveIn words c
improve_made words None c is e = absurd cc
improve_made words (Some f) c is e =
    let made = with_made f (settings_for f words) c e in
    record { f = f; s = made.0; is = made.2; format_is = is; are = settings_made _ _ _ _ _ _ _ _ made.0 made.1 }

pub improve_in_made : (words : List (List ℕ)) (c : Command) → command_with Improve words ≡ Some c → IsImproveIn words c
improve_in_made words c e = improve_made words (value format_row words) c refl e

pub equiv_made : (conflicts : Option ℕ) (c : Command) → equiv_from conflicts ≡ Some c → (n : ℕ) × (commands.Equiv n ≡ c) × (conflicts ≡ Some n)
equiv_made (Some n) c e = (n, some_is _ c e, refl)
equiv_made None c e = absurd cc

pub gen_made : (blocks : Option ℕ) (action : Option GenAction) (c : Command) → gen_from blocks action ≡ Some c →
    (n : ℕ) × (d : GenAction) × (commands.Gen n d ≡ c) × (blocks ≡ Some n) × (action ≡ Some d)
gen_made (Some n) (Some d) c e = (n, d, some_is _ c e, refl, refl)
gen_made (Some n) None c e = absurd cc
gen_made None action c e = absurd cc

blocks_range : (words : List (List ℕ)) (n : ℕ) → value blocks_row words ≡ Some n → (1 ≤ n) × (n ≤ most_blocks)
blocks_range words n e =
    in_row blocks_row (λ (x : ℕ). (1 ≤ x) × (x ≤ most_blocks))
    (λ (word : List ℕ) (x : ℕ) at. number_range 1 most_blocks x word (omega arith) at)
    (λ (x : ℕ) at. absurd cc)
    (word_after blocks_row.name words) n e

-- a number that an option has is in the option's range, if its default is
row_range : (row : OptionRow ℕ) (low high default : ℕ) (words : List (List ℕ)) (n : ℕ) → high < 2 ^ 64 →
    ((word : List ℕ) → row.read word ≡ number_within low high word) → row.default ≡ Some default →
    (low ≤ default) × (default ≤ high) → value row words ≡ Some n → (low ≤ n) × (n ≤ high)
row_range row low high default words n fits reads is inside e =
    in_row row (λ (x : ℕ). (low ≤ x) × (x ≤ high))
    (λ (word : List ℕ) (x : ℕ) at. number_range low high x word fits (sym (reads word) ∙ at))
    (λ (x : ℕ) at. subst (λ (y : ℕ). (low ≤ y) × (y ≤ high)) (some_is default x (sym is ∙ at)) inside)
    (word_after row.name words) n e

max_range : (words : List (List ℕ)) (n : ℕ) → value max_row words ≡ Some n → n ≤ most_steps
max_range words n e = (row_range max_row 0 most_steps most_steps words n (omega arith) (λ word. refl) refl (omega arith, omega arith) e).1

cap_range : (words : List (List ℕ)) (n : ℕ) → value cap_row words ≡ Some n → n ≤ most_gates_of_window
cap_range words n e = (row_range cap_row 0 most_gates_of_window 5 words n (omega arith) (λ word. refl) refl (omega arith, omega arith) e).1

effort_range : (words : List (List ℕ)) (n : ℕ) → value effort_row words ≡ Some n → n ≤ most_effort
effort_range words n e = (row_range effort_row 0 most_effort 0 words n (omega arith) (λ word. refl) refl (omega arith, omega arith) e).1

synth_effort_range : (words : List (List ℕ)) (n : ℕ) → value synth_effort_row words ≡ Some n → n ≤ most_effort
synth_effort_range words n e = (row_range synth_effort_row 0 most_effort 1 words n (omega arith) (λ word. refl) refl (omega arith, omega arith) e).1

seed_range : (words : List (List ℕ)) (n : ℕ) → value seed_row words ≡ Some n → n ≤ most_seed
seed_range words n e = (row_range seed_row 0 most_seed 1 words n (omega arith) (λ word. refl) refl (omega arith, omega arith) e).1

rounds_range : (words : List (List ℕ)) (n : ℕ) → value rounds_row words ≡ Some n → (1 ≤ n) × (n ≤ most_rounds)
rounds_range words n e = row_range rounds_row 1 most_rounds 1000 words n (omega arith) (λ word. refl) refl (omega arith, omega arith) e

conflicts_range : (words : List (List ℕ)) (n : ℕ) → value conflicts_row words ≡ Some n → (1 ≤ n) × (n ≤ most_conflicts)
conflicts_range words n e = row_range conflicts_row 1 most_conflicts default_conflicts words n (omega arith) (λ word. refl) refl (omega arith, omega arith) e

bases_range : (words : List (List ℕ)) (n : ℕ) → value basis_row words ≡ Some n → 0 < n
bases_range words n e =
    in_row basis_row (λ (x : ℕ). 0 < x)
    basis_range
    (λ (x : ℕ) at. let same = some_is 65535 x at in omega (arith, same))
    (word_after basis_row.name words) n e

-- a basis of BENCH gates
gates_by : (o : Option ℕ) (x : ℕ) → if_of_gates o ≡ Some x → (o ≡ Some x) × (is_within x bench_set ≡ true)
gates_by None x e = absurd cc
gates_by (Some b) x e =
    let by = passed (is_within b bench_set) (Some b) x e in
    (by.1, ap (λ (n : ℕ). is_within n bench_set) (sym (some_is b x by.1)) ∙ by.0)

gates_range : (words : List (List ℕ)) (n : ℕ) → value gates_row words ≡ Some n → (0 < n) × (is_within n bench_set ≡ true)
gates_range words n e =
    in_row gates_row (λ (x : ℕ). (0 < x) × (is_within x bench_set ≡ true))
    (λ (word : List ℕ) (x : ℕ) at. let by = gates_by (basis_in word) x at in (basis_range word x by.0, by.1))
    (λ (x : ℕ) at. let same = some_is bench_set x at in (omega (arith, same), ap (λ (b : ℕ). is_within b bench_set) (sym same)))
    (word_after gates_row.name words) n e

format_range : (f : Format) (words : List (List ℕ)) (n : ℕ) → value (format_basis_row f) words ≡ Some n → (0 < n) × HasGatesOf f n
format_range Blif words n e = (bases_range words n e, tt)
format_range Bench words n e = gates_range words n e

askable : (c d : Command) → c ≡ d → IsAskable c → IsAskable d
askable c d e is = subst (λ (x : Command). IsAskable x) e is

asked_in_range : (words : List (List ℕ)) (s : SynthSettings) → AreAskedIn words s → IsInRange s
asked_in_range words s are =
    let within = conflicts_range words s.conflicts are.conflicts_is in
    record {
      basis_from = bases_range words s.basis are.basis_is;
      max_to = max_range words s.max are.max_is;
      conflicts_from = within.0;
      conflicts_to = within.1;
      effort_to = synth_effort_range words s.effort are.effort_is;
    }

synth_askable : (words : List (List ℕ)) (s : SynthSettings) (flag : Bool) (c : Command) → IsSynth s flag c → AreAskedIn words s → IsAskable c
synth_askable words s false c is are = askable (commands.Synth s) c is (asked_in_range words s are)
synth_askable words s true c is are = askable (commands.LeastDepth s) c is.0 (asked_in_range words s are, is.1)

synth_range : (words : List (List ℕ)) (c : Command) → command_with Synth words ≡ Some c → IsAskable c
synth_range words c e = let made = synth_in_made words c e in synth_askable words made.s made.flag c made.is made.are

recheck_askable : (flag : Bool) → IsAskable (rechecks flag)
recheck_askable false = tt
recheck_askable true = tt

recheck_range : (words : List (List ℕ)) (c : Command) → command_with Recheck words ≡ Some c → IsAskable c
recheck_range words c e = let made = recheck_made (value depth_row words) c e in askable (rechecks made.0) c made.1 (recheck_askable made.0)

improve_range : (words : List (List ℕ)) (c : Command) → command_with Improve words ≡ Some c → IsAskable c
improve_range words c e =
    let made = improve_in_made words c e in
    let basis = format_range made.f words made.s.basis made.are.basis_is in
    let rounds = rounds_range words made.s.rounds made.are.rounds_is in
    let conflicts = conflicts_range words made.s.conflicts made.are.conflicts_is in
    let range : improver.IsInRange made.s = record {
      basis_from = basis.0;
      cap_to = cap_range words made.s.cap made.are.cap_is;
      rounds_from = rounds.0;
      rounds_to =
          rounds.1;
      conflicts_from = conflicts.0;
      conflicts_to = conflicts.1;
      effort_to =
          effort_range words made.s.effort made.are.effort_is;
      seed_to = seed_range words made.s.seed made.are.seed_is;
    } in
    let is : IsAsked made.f made.s = record { range = range; basis = basis.1 } in
    askable (commands.Improve made.f made.s) c made.is is

kind_range : (kind : OptionKind) (words : List (List ℕ)) (c : Command) → command_with kind words ≡ Some c → IsAskable c
kind_range Agree words c e = askable commands.Agree c (some_is _ c e) tt
kind_range Recheck words c e = recheck_range words c e
kind_range Synth words c e = synth_range words c e
kind_range Improve words c e = improve_range words c e
kind_range Equiv words c e =
    let made = equiv_made (value conflicts_row words) c e in
    askable (commands.Equiv made.0) c made.1 (conflicts_range words made.0 made.2)
kind_range Gen words c e =
    let made = gen_made (value blocks_row words) (value run_row words) c e in
    askable (commands.Gen made.0 made.1) c made.2 (blocks_range words made.0 made.3)

in_range : (o : Option OptionKind) (words : List (List ℕ)) (c : Command) → command_in o words ≡ Some c → IsAskable c
in_range None words c e = absurd cc
in_range (Some kind) words c e = kind_range kind words c (passed (are_options (options_of kind) words) (command_with kind words) c e).1

pub command_range : (words : List (List ℕ)) (c : Command) → command_of words ≡ Some c → IsAskable c
unfolding command_of
command_range [] c e = absurd cc
command_range (name ∷ words) c e = in_range (kind_named name) words c e

pub asked_range : (words : List (List ℕ)) (o : Option Command) (c : Command) → o ≡ command_of words → o ≡ Some c → IsAskable c
asked_range words o c is e = command_range words c (sym is ∙ e)

pub ruleset reading = (common_steps, asked_range)
