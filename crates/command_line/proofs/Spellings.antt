-- Words ask for a command if and only if they are its name and pairs.
use Rattle.std.specs.Prelude.{◌≡◌, ℕ, List, [], ◌∷◌, Bool, true, false, not, ◌&&◌, ◌||◌, cond, Option, Some, None, is_some, All}
use Rattle.std.proofs.Common.{sym, ◌∙◌, ap, subst, refl}
use Rattle.std.specs.List.{IsDistinct, AllByRecursion, list_any}
use Rattle.std.specs.List.Sorted.{IsPermutation}
use Rattle.std.specs.Map.{lookup, keys_of}
use Rattle.std.proofs.lemmas.Slice.Eq.{bytes_eq-Decides}
use Rattle.std.proofs.lemmas.Cmp.{nat_list_eq_equiv}
use Rattle.std.proofs.lemmas.List.Concat.{flat_map-cons}
use Rattle.std.proofs.lemmas.List.Elements.{All-cons, All-head, All-nil, All-tail}
use Rattle.std.proofs.lemmas.List.Sorted.{All-permutation, Contains-permutation, IsPermutation-map, IsPermutation-sym}
use Rattle.std.proofs.lemmas.Map.Keys.{IsDistinct-cons, IsDistinct-head, IsDistinct-tail, IsDistinct-IsPermutation}
use Rattle.std.proofs.lemmas.Map.Made.{is_some-lookup}
use Rattle.std.proofs.lemmas.Map.Views.{lookup-from_Contains, Contains-from_lookup}
use Rattle.settings.specs.declared.methods.MethodChoice.{MethodChoice}
use Rattle.settings.specs.declared.synth.SynthSettings.{SynthSettings}
use Rattle.settings.specs.declared.improve.ImproveSettings.{ImproveSettings}
use Rattle.command_line.specs.declared.command.Command.{Command}
use Rattle.command_line.specs.declared.command.Command.TheVariants as commands
use Rattle.command_line.specs.declared.table.OptionKind.{OptionKind}
use Rattle.command_line.specs.declared.table.OptionKind.TheVariants.{Agree, Recheck, Synth, Improve, Equiv, Gen}
use Rattle.command_line.specs.declared.command.Format.{Format}
use Rattle.command_line.specs.Options.{OptionRow, is_word, is_among, basis_row, format_basis_row, method_row, choice_row, max_row}
use Rattle.command_line.specs.Options.{conflicts_row, cap_row, rounds_row, format_row, observe_row, effort_row}
use Rattle.command_line.specs.Options.{seed_row, synth_effort_row, blocks_row, run_row, least_depth_row, depth_row, kind_text, kind_named}
use Rattle.command_line.specs.Options.{options_of}
use Rattle.command_line.specs.CommandLine.{word_after, is_named, are_options, value_in, value, least_depth_for, synth_from, improve_with, improve_for, command_with, command_in, command_of, AsksFor}
use Rattle.command_line.specs.Spelling.{OptionPair, both, flat, Gives, GivesSynth, GivesImprove, GivesGen, GivesAll, kind_of, SpellsOptions}
use Rattle.command_line.proofs.Ranges.{some_is, passed, AreAskedIn, asked_back, IsSynth, synth_in_made, rechecks, recheck_made, AreSettingsIn, settings_back, improve_in_made, equiv_made, gen_made}

-- ---- tests

word_same : (x y : List ℕ) → is_word x y ≡ true → x ≡ y
word_same x y e = (bytes_eq-Decides x y).0 e

all_three : (a b c : Bool) → (a && b && c) ≡ true → (a ≡ true) × (b ≡ true) × (c ≡ true)
all_three true true true e = (refl, refl, refl)
all_three true true false e = absurd cc
all_three true false c e = absurd cc
all_three false b c e = absurd cc

three : (a b c : Bool) → a ≡ true → b ≡ true → c ≡ true → (a && b && c) ≡ true
three true true true p q r = refl
three true true false p q r = absurd cc
three true false c p q r = absurd cc
three false b c p q r = absurd cc

not_true : (b : Bool) → not b ≡ true → b ≡ false
not_true true e = absurd cc
not_true false e = refl

neither : (a b : Bool) → (a || b) ≡ false → (a ≡ false) × (b ≡ false)
neither true b e = absurd cc
neither false b e = (refl, e)

both_false : (a b : Bool) → a ≡ false → b ≡ false → (a || b) ≡ false
both_false true b p q = absurd cc
both_false false b p q = q

none_passes : (p : List ℕ → Bool) (xs : List (List ℕ)) → list_any p xs ≡ false → AllByRecursion (λ y. p y ≡ false) xs
none_passes p [] e = tt
none_passes p (x ∷ xs) e = let apart = neither (p x) (list_any p xs) e in (apart.0, none_passes p xs apart.1)

none_found : (p : List ℕ → Bool) (xs : List (List ℕ)) → AllByRecursion (λ y. p y ≡ false) xs → list_any p xs ≡ false
none_found p [] none = refl
none_found p (x ∷ xs) none = both_false (p x) (list_any p xs) none.0 (none_found p xs none.1)

-- ---- words of pairs

-- the word after a name is that of the first pair with it
after_is : (name : List ℕ) (pairs : List OptionPair) → word_after name (flat pairs) ≡ lookup (is_word name) pairs
unfolding word_after
after_is name [] = refl
after_is name (p ∷ pairs) = ap (word_after name) (flat_map-cons both p pairs) ∙ ap (λ (o : Option (List ℕ)). cond (is_word name p.0) (Some p.1) o) (after_is name pairs)

named_is : (name : List ℕ) (pairs : List OptionPair) → is_named name (flat pairs) ≡ list_any (is_word name) (keys_of pairs)
named_is name pairs = ap is_some (after_is name pairs) ∙ is_some-lookup (is_word name) pairs

-- the words of options are pairs
pub paired : (names : List (List ℕ)) (words : List (List ℕ)) → are_options names words ≡ true → (pairs : List OptionPair) × (words ≡ flat pairs)
unfolding are_options
paired names [] e = ([], refl)
paired names (n ∷ []) e = absurd cc
paired names (n ∷ word ∷ words) e =
    let parts = all_three (is_among n names) (not (is_named n words)) (are_options names words) e in
    let rest = paired names words parts.2 in
    let p : OptionPair = (n, word) in
    (p ∷ rest.0, ap (λ (w : List (List ℕ)). n ∷ word ∷ w) rest.1 ∙ sym (flat_map-cons both p rest.0))

none_distinct : IsDistinct is_word []
unfolding IsDistinct
none_distinct = tt

-- the pair's name is one of these
abbrev IsOf : List (List ℕ) → OptionPair → Type 0
IsOf names p = is_among p.0 names ≡ true

record Options (names : List (List ℕ)) (pairs : List OptionPair) : Type 0 where
  taken : All (IsOf names) pairs
  once : IsDistinct is_word (keys_of pairs)

options_back : (names : List (List ℕ)) (pairs : List OptionPair) → are_options names (flat pairs) ≡ true → Options names pairs
unfolding are_options
options_back names [] e = record { taken = All-nil (IsOf names); once = none_distinct }
options_back names (p ∷ pairs) e =
    let whole : are_options names (p.0 ∷ p.1 ∷ flat pairs) ≡ true = ap (are_options names) (sym (flat_map-cons both p pairs)) ∙ e in
    let parts = all_three (is_among p.0 names) (not (is_named p.0 (flat pairs))) (are_options names (flat pairs)) whole in
    let rest = options_back names pairs parts.2 in
    record {
      taken = All-cons (IsOf names) p pairs parts.0 rest.taken;
      once = IsDistinct-cons is_word p.0 (keys_of pairs) (none_passes (is_word p.0) (keys_of pairs) (sym (named_is p.0 pairs) ∙ not_true _ parts.1)) rest.once;
    }

options_are : (names : List (List ℕ)) (pairs : List OptionPair) → All (IsOf names) pairs → IsDistinct is_word (keys_of pairs) → are_options names (flat pairs) ≡ true
unfolding are_options
options_are names [] taken once = refl
options_are names (p ∷ pairs) taken once =
    let free : is_named p.0 (flat pairs) ≡ false = named_is p.0 pairs ∙ none_found (is_word p.0) (keys_of pairs) (IsDistinct-head is_word p.0 (keys_of pairs) once) in
    let rest = options_are names pairs (All-tail (IsOf names) p pairs taken) (IsDistinct-tail is_word p.0 (keys_of pairs) once) in
    ap (are_options names) (flat_map-cons both p pairs)
    ∙ three (is_among p.0 names) (not (is_named p.0 (flat pairs))) (are_options names (flat pairs)) (All-head (IsOf names) p pairs taken) (ap not free) rest

-- ---- values

gives_by : {A : Type 0} (row : OptionRow A) (pairs : List OptionPair) (x : A) (o : Option (List ℕ)) →
    IsDistinct is_word (keys_of pairs) → lookup (is_word row.name) pairs ≡ o → value_in row o ≡ Some x →
    Gives row pairs x
gives_by row pairs x None once is e = record {
  named = λ (word : List ℕ) there. let found = lookup-from_Contains nat_list_eq_equiv row.name word pairs once there in absurd cc;
  unnamed = λ none. e;
}
gives_by row pairs x (Some w) once is e = record {
  named = λ (word : List ℕ) there.
      let found = lookup-from_Contains nat_list_eq_equiv row.name word pairs once there in
      subst (λ (v : List ℕ). row.read v ≡ Some x) (some_is w word (sym is ∙ found)) e;
  unnamed = λ none. absurd (none w (Contains-from_lookup word_same row.name w pairs is));
}

gives : {A : Type 0} (row : OptionRow A) (pairs : List OptionPair) (x : A) → IsDistinct is_word (keys_of pairs) → value row (flat pairs) ≡ Some x → Gives row pairs x
gives row pairs x once e = gives_by row pairs x (lookup (is_word row.name) pairs) once refl (ap (value_in row) (sym (after_is row.name pairs)) ∙ e)

value_by : {A : Type 0} (row : OptionRow A) (pairs : List OptionPair) (x : A) (o : Option (List ℕ)) →
    IsDistinct is_word (keys_of pairs) → lookup (is_word row.name) pairs ≡ o → Gives row pairs x →
    value_in row o ≡ Some x
value_by row pairs x None once is g = g.unnamed (λ (word : List ℕ) there. let found = lookup-from_Contains nat_list_eq_equiv row.name word pairs once there in absurd cc)
value_by row pairs x (Some w) once is g = g.named w (Contains-from_lookup word_same row.name w pairs is)

value_is : {A : Type 0} (row : OptionRow A) (pairs : List OptionPair) (x : A) → IsDistinct is_word (keys_of pairs) → Gives row pairs x → value row (flat pairs) ≡ Some x
value_is row pairs x once g = ap (value_in row) (after_is row.name pairs) ∙ value_by row pairs x (lookup (is_word row.name) pairs) once refl g

gives_again : {A : Type 0} (row : OptionRow A) (pairs other : List OptionPair) (x : A) → IsPermutation pairs other → Gives row pairs x → Gives row other x
gives_again row pairs other x moved g = record {
  named = λ (word : List ℕ) there. g.named word (Contains-permutation other pairs _ (IsPermutation-sym pairs other moved) there);
  unnamed = λ none. g.unnamed (λ (word : List ℕ) there. none word (Contains-permutation pairs other _ moved there));
}

-- ---- commands

-- the command of this kind with these pairs
abbrev IsMade : OptionKind → List OptionPair → Command → Type 0
IsMade kind pairs c = (kind_of c ≡ kind) × GivesAll pairs c

recheck_gives : (pairs : List OptionPair) (flag : Bool) → Gives depth_row pairs flag → IsMade Recheck pairs (rechecks flag)
recheck_gives pairs false given = (refl, given)
recheck_gives pairs true given = (refl, given)

recheck_is : (pairs : List OptionPair) (c : Command) → IsDistinct is_word (keys_of pairs) → command_with Recheck (flat pairs) ≡ Some c → IsMade Recheck pairs c
recheck_is pairs c once e =
    let m = recheck_made (value depth_row (flat pairs)) c e in
    subst (λ (d : Command). IsMade Recheck pairs d) m.1 (recheck_gives pairs m.0 (gives depth_row pairs m.0 once m.2))

synth_gives : (pairs : List OptionPair) (s : SynthSettings) (flag : Bool) (c : Command) → IsSynth s flag c → GivesSynth pairs s flag → IsMade Synth pairs c
synth_gives pairs s false c is given = subst (λ (d : Command). IsMade Synth pairs d) is (refl, given)
synth_gives pairs s true c is given = subst (λ (d : Command). IsMade Synth pairs d) is.0 (refl, (given, is.1))

synth_is : (pairs : List OptionPair) (c : Command) → IsDistinct is_word (keys_of pairs) → command_with Synth (flat pairs) ≡ Some c → IsMade Synth pairs c
synth_is pairs c once e =
    let m = synth_in_made (flat pairs) c e in
    let all : GivesSynth pairs m.s m.flag = record {
      basis = gives basis_row pairs m.s.basis once m.are.basis_is;
      method = gives choice_row pairs m.s.method once m.are.method_is;
      max = gives max_row pairs m.s.max once m.are.max_is;
      conflicts = gives conflicts_row pairs m.s.conflicts once m.are.conflicts_is;
      effort = gives synth_effort_row pairs m.s.effort once m.are.effort_is;
      flag = gives least_depth_row pairs m.flag once m.flag_is;
    } in
    synth_gives pairs m.s m.flag c m.is all

made : (kind : OptionKind) (pairs : List OptionPair) (c : Command) → IsDistinct is_word (keys_of pairs) → command_with kind (flat pairs) ≡ Some c → IsMade kind pairs c
made Agree pairs c once e = subst (λ (d : Command). IsMade Agree pairs d) (some_is commands.Agree c e) (refl, tt)
made Recheck pairs c once e = recheck_is pairs c once e
made Synth pairs c once e = synth_is pairs c once e
made Improve pairs c once e =
    let m = improve_in_made (flat pairs) c e in
    let all : GivesImprove pairs m.f m.s = record {
      format_is = gives format_row pairs m.f once m.format_is;
      basis = gives (format_basis_row m.f) pairs m.s.basis once m.are.basis_is;
      method = gives method_row pairs m.s.method once m.are.method_is;
      cap = gives cap_row pairs m.s.cap once m.are.cap_is;
      rounds = gives rounds_row pairs m.s.rounds once m.are.rounds_is;
      conflicts = gives conflicts_row pairs m.s.conflicts once m.are.conflicts_is;
      observe = gives observe_row pairs m.s.observe once m.are.observe_is;
      effort = gives effort_row pairs m.s.effort once m.are.effort_is;
      seed = gives seed_row pairs m.s.seed once m.are.seed_is;
    } in
    subst (λ (d : Command). IsMade Improve pairs d) m.is (refl, all)
made Equiv pairs c once e =
    let m = equiv_made (value conflicts_row (flat pairs)) c e in
    subst (λ (d : Command). IsMade Equiv pairs d) m.1 (refl, gives conflicts_row pairs m.0 once m.2)
made Gen pairs c once e =
    let m = gen_made (value blocks_row (flat pairs)) (value run_row (flat pairs)) c e in
    let all : GivesGen pairs m.0 m.1 = record {
      blocks = gives blocks_row pairs m.0 once m.3;
      run = gives run_row pairs m.1 once m.4;
    } in
    subst (λ (d : Command). IsMade Gen pairs d) m.2 (refl, all)

settings_are : (f : Format) (pairs : List OptionPair) (s : ImproveSettings) → IsDistinct is_word (keys_of pairs) → GivesImprove pairs f s → AreSettingsIn (flat pairs) f s
settings_are f pairs s once all = record {
  basis_is = value_is (format_basis_row f) pairs s.basis once all.basis;
  method_is = value_is method_row pairs s.method once all.method;
  cap_is = value_is cap_row pairs s.cap once all.cap;
  rounds_is = value_is rounds_row pairs s.rounds once all.rounds;
  conflicts_is = value_is conflicts_row pairs s.conflicts once all.conflicts;
  observe_is = value_is observe_row pairs s.observe once all.observe;
  effort_is = value_is effort_row pairs s.effort once all.effort;
  seed_is = value_is seed_row pairs s.seed once all.seed;
}

improve_back : (f : Format) (pairs : List OptionPair) (s : ImproveSettings) → IsDistinct is_word (keys_of pairs) →
    GivesImprove pairs f s → command_with Improve (flat pairs) ≡ Some (commands.Improve f s)
improve_back f pairs s once all =
    ap (improve_for (flat pairs)) (value_is format_row pairs f once all.format_is)
    ∙ ap (improve_with f) (settings_back _ _ _ _ _ _ _ _ s (settings_are f pairs s once all))

asked_are : (pairs : List OptionPair) (s : SynthSettings) (flag : Bool) → IsDistinct is_word (keys_of pairs) → GivesSynth pairs s flag → AreAskedIn (flat pairs) s
asked_are pairs s flag once all = record {
  basis_is = value_is basis_row pairs s.basis once all.basis;
  method_is = value_is choice_row pairs s.method once all.method;
  max_is = value_is max_row pairs s.max once all.max;
  conflicts_is = value_is conflicts_row pairs s.conflicts once all.conflicts;
  effort_is = value_is synth_effort_row pairs s.effort once all.effort;
}

synth_back : (pairs : List OptionPair) (s : SynthSettings) (flag : Bool) → IsDistinct is_word (keys_of pairs) →
    GivesSynth pairs s flag → command_with Synth (flat pairs) ≡ synth_from (Some s) (Some flag)
synth_back pairs s flag once all =
    ap (λ (o : Option SynthSettings). synth_from o (value least_depth_row (flat pairs))) (asked_back _ _ _ _ _ s (asked_are pairs s flag once all))
    ∙ ap (λ (o : Option Bool). synth_from (Some s) o) (value_is least_depth_row pairs flag once all.flag)

made_back : (c : Command) (pairs : List OptionPair) → IsDistinct is_word (keys_of pairs) → GivesAll pairs c → command_with (kind_of c) (flat pairs) ≡ Some c
made_back commands.Agree pairs once all = refl
made_back commands.Recheck pairs once all = rw (value_is depth_row pairs false once all) refl
made_back commands.RecheckDepth pairs once all = rw (value_is depth_row pairs true once all) refl
made_back (commands.Synth s) pairs once all = synth_back pairs s false once all
made_back (commands.LeastDepth s) pairs once all =
    synth_back pairs s true once all.0 ∙ ap (λ (m : MethodChoice). least_depth_for m s) all.1
made_back (commands.Improve f s) pairs once all = improve_back f pairs s once all
made_back (commands.Equiv budget) pairs once all = rw (value_is conflicts_row pairs budget once all) refl
made_back (commands.Gen blocks action) pairs once all =
    rw (value_is blocks_row pairs blocks once all.blocks, value_is run_row pairs action once all.run) refl

synth_again : (pairs other : List OptionPair) (s : SynthSettings) (flag : Bool) → IsPermutation pairs other → GivesSynth pairs s flag → GivesSynth other s flag
synth_again pairs other s flag moved all = record {
  basis = gives_again basis_row pairs other s.basis moved all.basis;
  method = gives_again choice_row pairs other s.method moved all.method;
  max = gives_again max_row pairs other s.max moved all.max;
  conflicts = gives_again conflicts_row pairs other s.conflicts moved all.conflicts;
  effort = gives_again synth_effort_row pairs other s.effort moved all.effort;
  flag = gives_again least_depth_row pairs other flag moved all.flag;
}

given_again : (c : Command) (pairs other : List OptionPair) → IsPermutation pairs other → GivesAll pairs c → GivesAll other c
given_again commands.Agree pairs other moved all = tt
given_again commands.Recheck pairs other moved all = gives_again depth_row pairs other false moved all
given_again commands.RecheckDepth pairs other moved all = gives_again depth_row pairs other true moved all
given_again (commands.Synth s) pairs other moved all = synth_again pairs other s false moved all
given_again (commands.LeastDepth s) pairs other moved all = (synth_again pairs other s true moved all.0, all.1)
given_again (commands.Improve f s) pairs other moved all = record {
  format_is = gives_again format_row pairs other f moved all.format_is;
  basis = gives_again (format_basis_row f) pairs other s.basis moved all.basis;
  method = gives_again method_row pairs other s.method moved all.method;
  cap = gives_again cap_row pairs other s.cap moved all.cap;
  rounds = gives_again rounds_row pairs other s.rounds moved all.rounds;
  conflicts = gives_again conflicts_row pairs other s.conflicts moved all.conflicts;
  observe = gives_again observe_row pairs other s.observe moved all.observe;
  effort = gives_again effort_row pairs other s.effort moved all.effort;
  seed = gives_again seed_row pairs other s.seed moved all.seed;
}
given_again (commands.Equiv budget) pairs other moved all = gives_again conflicts_row pairs other budget moved all
given_again (commands.Gen blocks action) pairs other moved all = record {
  blocks = gives_again blocks_row pairs other blocks moved all.blocks;
  run = gives_again run_row pairs other action moved all.run;
}

-- ---- names of commands

kind_when : (name : List ℕ) (kind other : OptionKind) (t : Bool) (o : Option OptionKind) →
    is_word name (kind_text other) ≡ t → (o ≡ Some kind → name ≡ kind_text kind) → cond t (Some other) o ≡ Some kind →
    name ≡ kind_text kind
kind_when name kind other true o is next e = word_same name (kind_text other) is ∙ ap kind_text (some_is other kind e)
kind_when name kind other false o is next e = next e

kind_by : (name : List ℕ) (kind other : OptionKind) (o : Option OptionKind) → (o ≡ Some kind → name ≡ kind_text kind) →
    cond (is_word name (kind_text other)) (Some other) o ≡ Some kind → name ≡ kind_text kind
kind_by name kind other o next = kind_when name kind other (is_word name (kind_text other)) o refl next

kind_is : (name : List ℕ) (kind : OptionKind) → kind_named name ≡ Some kind → name ≡ kind_text kind
kind_is name kind =
    kind_by name kind Agree _
    (kind_by name kind Recheck _
    (kind_by name kind Synth _
    (kind_by name kind Improve _
    (kind_by name kind Equiv _
    (kind_by name kind Gen _
    (λ (e : None ≡ Some kind). absurd cc))))))

kind_back : (kind : OptionKind) → kind_named (kind_text kind) ≡ Some kind
kind_back Agree = refl
kind_back Recheck = refl
kind_back Synth = refl
kind_back Improve = refl
kind_back Equiv = refl
kind_back Gen = refl

-- ---- both directions

-- a name and these very pairs spell a command
record SpelledAs (name : List ℕ) (pairs : List OptionPair) (c : Command) : Type 0 where
  name_is : name ≡ kind_text (kind_of c)
  taken : All (IsOf (options_of (kind_of c))) pairs
  once : IsDistinct is_word (keys_of pairs)
  given : GivesAll pairs c

asks_by : (name : List ℕ) (pairs : List OptionPair) (c : Command) (o : Option OptionKind) → kind_named name ≡ o → command_in o (flat pairs) ≡ Some c → SpelledAs name pairs c
asks_by name pairs c None is e = absurd cc
asks_by name pairs c (Some kind) is e =
    let parts = passed (are_options (options_of kind) (flat pairs)) (command_with kind (flat pairs)) c e in
    let options = options_back (options_of kind) pairs parts.0 in
    let m = made kind pairs c options.once parts.1 in
    record {
      name_is = kind_is name kind is ∙ ap kind_text (sym m.0);
      taken = subst (λ (k : OptionKind). All (IsOf (options_of k)) pairs) (sym m.0) options.taken;
      once = options.once;
      given = m.1;
    }

spelled_as : (name : List ℕ) (pairs : List OptionPair) (c : Command) → AsksFor (name ∷ flat pairs) c → SpelledAs name pairs c
unfolding command_of
spelled_as name pairs c e = asks_by name pairs c (kind_named name) refl e

some_pairs : (o : Option OptionKind) (words : List (List ℕ)) (c : Command) → command_in o words ≡ Some c → (pairs : List OptionPair) × (words ≡ flat pairs)
some_pairs None words c e = absurd cc
some_pairs (Some kind) words c e = paired (options_of kind) words (passed (are_options (options_of kind) words) (command_with kind words) c e).0

pairs_there : (words : List (List ℕ)) (c : Command) → AsksFor words c → (name : List ℕ) × (pairs : List OptionPair) × (words ≡ name ∷ flat pairs)
unfolding command_of
pairs_there [] c e = absurd cc
pairs_there (name ∷ words) c e =
    let found = some_pairs (kind_named name) words c e in
    (name, found.0, ap (λ (w : List (List ℕ)). name ∷ w) found.1)

pub asks_are_spelled : (words : List (List ℕ)) (c : Command) → AsksFor words c → SpellsOptions words c
asks_are_spelled words c e =
    let there = pairs_there words c e in
    let said = spelled_as there.0 there.1 c (subst (λ (w : List (List ℕ)). AsksFor w c) there.2 e) in
    record {
      pairs = there.1;
      are = there.2 ∙ ap (λ (n : List ℕ). n ∷ flat there.1) said.name_is;
      taken = said.taken;
      once = said.once;
      given = said.given;
    }

asked_of : (c : Command) (pairs : List OptionPair) → All (IsOf (options_of (kind_of c))) pairs → IsDistinct is_word (keys_of pairs) → GivesAll pairs c → AsksFor (kind_text (kind_of c) ∷ flat pairs) c
unfolding command_of
asked_of c pairs taken once given =
    ap (λ (o : Option OptionKind). command_in o (flat pairs)) (kind_back (kind_of c))
    ∙ ap (λ (t : Bool). cond t (command_with (kind_of c) (flat pairs)) None) (options_are (options_of (kind_of c)) pairs taken once)
    ∙ made_back c pairs once given

pub spelled_are_asked : (words : List (List ℕ)) (c : Command) → SpellsOptions words c → AsksFor words c
spelled_are_asked words c s = subst (λ (w : List (List ℕ)). AsksFor w c) (sym s.are) (asked_of c s.pairs s.taken s.once s.given)

-- ---- the order of pairs

word_flips : (x y : List ℕ) → is_word x y ≡ is_word y x
word_flips = nat_list_eq_equiv.symm

again : (name : List ℕ) (pairs other : List OptionPair) (c : Command) → IsPermutation pairs other → SpelledAs name pairs c → SpellsOptions (name ∷ flat other) c
again name pairs other c moved s = record {
  pairs = other;
  are = ap (λ (n : List ℕ). n ∷ flat other) s.name_is;
  taken = All-permutation (IsOf (options_of (kind_of c))) pairs other moved s.taken;
  once = IsDistinct-IsPermutation is_word word_flips (keys_of pairs) (keys_of other) (IsPermutation-map (λ (p : OptionPair). p.0) pairs other moved) s.once;
  given = given_again c pairs other moved s.given;
}

pub order_is_free : (name : List ℕ) (pairs other : List OptionPair) (c : Command) → IsPermutation pairs other → AsksFor (name ∷ flat pairs) c → AsksFor (name ∷ flat other) c
order_is_free name pairs other c moved asks = spelled_are_asked (name ∷ flat other) c (again name pairs other c moved (spelled_as name pairs c asks))
