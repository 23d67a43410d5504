-- Each statement adds names, tables and latches within their limits.
use Rattle.std.proofs.Common.{◌≡◌, ℕ, suc, ◌+◌, ◌-◌, ◌*◌, ◌≤◌, ◌<◌, Bool, true, false, List, [], ◌∷◌, ◌++◌, length, Option, Some, None, refl, ap, sym, subst, arith, length-append}
use Rattle.std.specs.Prelude.{◌==◌, ◌&&◌, ◌||◌, not, if◌then◌else◌, nat_lt, nat_le, Result, Ok, Err, IfOk, All, option_to_list, codes}
use Rattle.std.specs.List.{list_all}
use Rattle.std.proofs.lemmas.Bool.{cond_both, eqb-true, ltb-false, leb-false}
use Rattle.std.proofs.lemmas.List.Elements.{All-nil, All-cons, All-head, All-tail, All-push}
use Rattle.std.proofs.lemmas.List.Sums.{sum_by-cons, sum_by-append, count_by-le-length}
use Rattle.std.proofs.lemmas.Grind.{common_steps}
use Rattle.net_theory.specs.declared.data.Trigger.{Trigger}
use Rattle.net_theory.specs.Cover.{is_cube}
use Rattle.net_theory.specs.Cost.{literal_count}
use Rattle.net_theory.specs.Document.{Name, IsName, is_name, is_same, Table, LatchLine}
use Rattle.net_theory.specs.WellFormed.{IsTable, IsLatchLine, IsControl, IsInit}
use Rattle.net_core.specs.declared.error.NetError.{NetError}
use Rattle.net_core.specs.declared.error.NetError.TheVariants.{Syntax, TooWide, MixedCover, TooManyRows, NotSupported, LineTooLong, NameTooLong}
use Rattle.blif_text.specs.declared.keywords.BlifKeyword.{BlifKeyword}
use Rattle.blif_text.specs.declared.keywords.BlifKeyword.TheVariants.{Model, Inputs, Outputs, Clock, Names, Latch as LatchWord, End, Unknown}
use Rattle.blif_text.specs.Logical.{Logical}
use Rattle.blif_text.specs.Words.{words_of, has_long}
use Rattle.net_document.specs.Contents.{is_nothing}
use Rattle.blif_text.specs.Rows.{CoverRow, bit_in, row_with, cover_line_in, agrees, with_row, row_of}
use Rattle.blif_text.specs.Latches.{LatchTail, trigger_in, init_in, tail_with, with_control, tail_by, tail_by_both, tail_in, latch_with, latch_of}
use Rattle.blif_text.specs.Statements.{Said, closed, are_names, with_model, prefix_of, last_of, empty_table, table_of}
use Rattle.blif_text.specs.Statements.{with_table, with_latch, directed, covered, after_end, begins_dot, keyword_of}
use Rattle.blif_text.specs.Statements.{stated, step, steps}
use Rattle.blif_text.specs.SizeLaws.{words_size, words_size-cons, words_fit, said_size, said_size-cons}
use Rattle.blif_text.specs.SaidLaws.{IsCubeTable, IsSaid, AreShort, short_cons, short_words, bind_fine, table_size}
use Rattle.blif_text.specs.SaidLaws.{closed_said, said_more, with_inputs_said, with_outputs_said, with_clocks_said}
use Rattle.blif_text.specs.SaidLaws.{with_model_said, with_flags_said, with_table_said, with_row_said, with_latch_said}
use Rattle.net_theory.specs.Limits.{most_table_inputs, most_cubes, most_name_bytes, most_line_bytes}

-- ---- names

names_cases : (w : List ℕ) (ws : List (List ℕ)) → are_names (w ∷ ws) ≡ true → (is_name w ≡ true) × (are_names ws ≡ true)
unfolding are_names
names_cases w ws e = both (is_name w) (list_all is_name ws) e where
  both : (a b : Bool) → (a && b) ≡ true → (a ≡ true) × (b ≡ true)
  both true b e = (refl, e)
  both false b e = absurd cc

names_all : (ws : List (List ℕ)) → are_names ws ≡ true → AreShort ws → All IsName ws
names_all [] e short = All-nil IsName
names_all (w ∷ ws) e short =
    let c = names_cases w ws e in
    let d = short_cons w ws short in
    All-cons IsName w ws (record { spelled = c.0; short = d.0 }) (names_all ws c.1 d.1)

name_long : (w : Name) → is_name w ≡ true → 1 ≤ length w
unfolding is_name
name_long [] e = absurd cc
name_long (b ∷ bs) e = omega arith

names_long : (ws : List Name) → All IsName ws → 2 * length ws ≤ words_size ws
names_long [] all = omega arith
names_long (w ∷ ws) all = omega (arith, words_size-cons w ws, name_long w (All-head IsName w ws all).spelled, names_long ws (All-tail IsName w ws all))

-- ---- tables

prefix_names : (w : Name) (ws : List Name) → All IsName (w ∷ ws) → All IsName (prefix_of w ws)
unfolding prefix_of
prefix_names w [] all = All-nil IsName
prefix_names w (v ∷ ws) all = All-cons IsName w (prefix_of v ws) (All-head IsName w (v ∷ ws) all) (prefix_names v ws (All-tail IsName w (v ∷ ws) all))

prefix_count : (w : Name) (ws : List Name) → length (prefix_of w ws) ≡ length ws
unfolding prefix_of
prefix_count w [] = refl
prefix_count w (v ∷ ws) = ap suc (prefix_count v ws)

last_name : (w : Name) (ws : List Name) → All IsName (w ∷ ws) → IsName (last_of w ws)
unfolding last_of
last_name w [] all = All-head IsName w [] all
last_name w (v ∷ ws) all = last_name v ws (All-tail IsName w (v ∷ ws) all)

abbrev IsNew : Table → Type 0
IsNew t = IsCubeTable t × (table_size t ≡ 1)

empty_new : (inputs : List Name) (output : Name) → All IsName inputs → IsName output → length inputs ≤ most_table_inputs → IsNew (empty_table inputs output)
unfolding table_size
empty_new inputs output ins out narrow =
    let table : IsTable (empty_table inputs output) = record {
      inputs = ins;
      output = out;
      width = refl;
      cover = record { cubes = All-nil (λ (cube : List ℕ). is_cube (length inputs) cube ≡ true); parity = λ e. absurd cc };
      narrow = narrow;
      few = omega arith;
    } in
    (record { table = table; parity = refl }, refl)

table_fine : (line : ℕ) (ws : List (List ℕ)) → AreShort ws → IfOk (table_of line ws) IsNew
unfolding table_of
table_fine line [] short = tt
table_fine line (w ∷ ws) short =
    cond_both (nat_lt most_table_inputs (length ws)) (Err (TooWide line))
    (if are_names (w ∷ ws) then Ok (empty_table (prefix_of w ws) (last_of w ws)) else Err (Syntax line))
    (λ (r : Result Table NetError). IfOk r IsNew)
    (λ wide. tt)
    (λ narrow. cond_both (are_names (w ∷ ws)) (Ok (empty_table (prefix_of w ws) (last_of w ws))) (Err (Syntax line)) (λ (r : Result Table NetError). IfOk r IsNew)
    (λ names.
    let all = names_all (w ∷ ws) names short in
    let few : length ws ≤ most_table_inputs = ltb-false most_table_inputs (length ws) narrow in
    empty_new (prefix_of w ws) (last_of w ws) (prefix_names w ws all) (last_name w ws all) (omega (arith, few, prefix_count w ws)))
    (λ none. tt))

-- ---- cover lines

abbrev FitsRow : ℕ → List (List ℕ) → CoverRow → Type 0
FitsRow width words row = (is_cube width row.cube ≡ true) × (length row.cube + 1 ≤ words_size words)

with_fits : (width : ℕ) (words : List (List ℕ)) (cube : List ℕ) (bit : Option Bool) (row : CoverRow) →
    is_cube width cube ≡ true → length cube + 1 ≤ words_size words → row_with cube bit ≡ Some row →
    FitsRow width words row
with_fits width words cube None row is size e = absurd cc
with_fits width words cube (Some on) row is size e =
    let same : cube ≡ row.cube = ap (λ (r : Option CoverRow). cube_in r) e in
    (subst (λ (xs : List ℕ). is_cube width xs ≡ true) same is, subst (λ (xs : List ℕ). length xs + 1 ≤ words_size words) same size) where
      cube_in : Option CoverRow → List ℕ
      cube_in None = []
      cube_in (Some r) = r.cube

row_fits : (width : ℕ) (words : List (List ℕ)) (row : CoverRow) → cover_line_in width words ≡ Some row → FitsRow width words row
unfolding cover_line_in
row_fits width [] row e = absurd cc
row_fits width (v ∷ []) row e =
    cond_both (width == 0) (row_with [] (bit_in v)) None (λ (r : Option CoverRow). r ≡ Some row → FitsRow width (v ∷ []) row)
    (λ zero f. with_fits width (v ∷ []) [] (bit_in v) row (no_inputs (eqb-true width 0 zero)) (omega (arith, words_size-cons v [])) f)
    (λ other f. absurd cc)
    e where
      no_inputs : width ≡ 0 → is_cube width [] ≡ true
      no_inputs none = subst (λ (n : ℕ). is_cube n [] ≡ true) (sym none) refl
row_fits width (c ∷ v ∷ []) row e =
    cond_both (is_cube width c) (row_with c (bit_in v)) None (λ (r : Option CoverRow). r ≡ Some row → FitsRow width (c ∷ v ∷ []) row)
    (λ is f. with_fits width (c ∷ v ∷ []) c (bit_in v) row is (omega (arith, words_size-cons c (v ∷ []))) f)
    (λ other f. absurd cc)
    e
row_fits width (c ∷ v ∷ w ∷ ws) row e = absurd cc

-- `u` is `t` with one more cover line
pub record IsMore (t : Table) (words : List (List ℕ)) (u : Table) : Type 0 where
  pub table : IsCubeTable u
  pub inputs : u.inputs ≡ t.inputs
  pub output : u.output ≡ t.output
  pub size : table_size u + 1 ≤ table_size t + words_size words

abbrev rowed : Table → CoverRow → Table
rowed t row = record { inputs = t.inputs; output = t.output; cover = record { width = t.cover.width; cubes = t.cover.cubes ++ row.cube ∷ []; on = row.on; parity = false } }

rowed_more : (t : Table) (words : List (List ℕ)) (row : CoverRow) → IsCubeTable t → FitsRow t.cover.width words row → nat_le most_cubes (length t.cover.cubes) ≡ false → IsMore t words (rowed t row)
unfolding table_size
rowed_more t words row is fits room =
    let few : length t.cover.cubes < most_cubes = leb-false most_cubes (length t.cover.cubes) room in
    record {
      table = record {
        table = record {
          inputs = is.table.inputs;
          output = is.table.output;
          width = is.table.width;
          cover = record { cubes = All-push (λ (cube : List ℕ). is_cube t.cover.width cube ≡ true) t.cover.cubes row.cube is.table.cover.cubes fits.0; parity = λ e. absurd cc };
          narrow = is.table.narrow;
          few = omega (arith, few, length-append t.cover.cubes (row.cube ∷ []));
        };
        parity = refl;
      };
      inputs = refl;
      output = refl;
      size = omega (arith, fits.1, count_by-le-length (λ (b : ℕ). b == 48 || b == 49) row.cube, sum_by-append literal_count t.cover.cubes (row.cube ∷ []), sum_by-cons literal_count row.cube []);
    }

with_row_fine : (line : ℕ) (t : Table) (words : List (List ℕ)) (r : Option CoverRow) → IsCubeTable t →
    ((row : CoverRow) → r ≡ Some row → FitsRow t.cover.width words row) → IfOk (with_row line t r) (IsMore t words)
with_row_fine line t words None is fits = tt
with_row_fine line t words (Some row) is fits =
    cond_both (nat_le most_cubes (length t.cover.cubes)) (Err (TooManyRows line)) (if is_nothing t.cover.cubes ||
    agrees row.on t.cover.on then Ok (rowed t row) else Err (MixedCover line)) (λ (r : Result Table NetError).
    IfOk r (IsMore t words))
    (λ full. tt)
    (λ room. cond_both (is_nothing t.cover.cubes || agrees row.on t.cover.on) (Ok (rowed t row)) (Err (MixedCover line)) (λ (r : Result Table NetError). IfOk r (IsMore t words))
    (λ one. rowed_more t words row is (fits row refl) room)
    (λ mixed. tt))

row_fine : (line : ℕ) (t : Table) (words : List (List ℕ)) → IsCubeTable t → IfOk (row_of line t words) (IsMore t words)
unfolding row_of
row_fine line t words is = with_row_fine line t words (cover_line_in t.cover.width words) is (λ row e. row_fits t.cover.width words row e)

-- ---- latches

abbrev IsTail : LatchTail → Type 0
IsTail tail = IsControl tail.control × IsInit tail.init

digit_low : (b : ℕ) → (nat_le 48 b && nat_le b 51) ≡ true → b - 48 ≤ 3
digit_low b is = grind (arith, common_steps, is)

init_fits : (word : List ℕ) (init : ℕ) → init_in word ≡ Some init → init ≤ 3
unfolding init_in
init_fits [] init e = absurd cc
init_fits (b ∷ []) init e =
    cond_both (nat_le 48 b && nat_le b 51) (Some (b - 48)) None (λ (r : Option ℕ). r ≡ Some init → init ≤ 3)
    (λ is f. let low : b - 48 ≤ 3 = digit_low b is in let same : b - 48 ≡ init = cc in omega (arith, low, same))
    (λ other f. absurd cc)
    e
init_fits (b ∷ c ∷ bs) init e = absurd cc

control_fits : (trigger : Option Trigger) (name : Name) (c : Trigger × Name) → length name ≤ most_name_bytes → with_control trigger name ≡ Some c → IsName c.1
control_fits None name c short e = absurd cc
control_fits (Some t) name c short e =
    cond_both (is_name name) (Some (t, name)) None (λ (r : Option (Trigger × Name)). r ≡ Some c → IsName c.1)
    (λ is f. let same : name ≡ c.1 = ap (λ (r : Option (Trigger × Name)). name_in r) f in subst IsName same (record { spelled = is; short = short }))
    (λ other f. absurd cc)
    e where
      name_in : Option (Trigger × Name) → Name
      name_in None = []
      name_in (Some x) = x.1

with_tail : (control : Option (Trigger × Name)) (init : Option ℕ) → IsControl control → ((i : ℕ) → init ≡ Some i → i ≤ 3) → (tail : LatchTail) → tail_with control init ≡ Some tail → IsTail tail
with_tail control None c i tail e = absurd cc
with_tail control (Some init) c i tail e = subst (λ (r : Option LatchTail). tails r) e (c, i init refl) where
  tails : Option LatchTail → Type 0
  tails None = Unit {0}
  tails (Some t) = IsTail t

by_tail : (control : Option (Trigger × Name)) → ((c : Trigger × Name) → control ≡ Some c → IsName c.1) → (tail : LatchTail) → tail_by control ≡ Some tail → IsTail tail
by_tail None c tail e = absurd cc
by_tail (Some control) c tail e = subst (λ (r : Option LatchTail). tails r) e (c control refl, tt) where
  tails : Option LatchTail → Type 0
  tails None = Unit {0}
  tails (Some t) = IsTail t

both_tail : (control : Option (Trigger × Name)) (init : Option ℕ) →
    ((c : Trigger × Name) → control ≡ Some c → IsName c.1) → ((i : ℕ) → init ≡ Some i → i ≤ 3) → (tail : LatchTail) →
    tail_by_both control init ≡ Some tail → IsTail tail
both_tail None init c i tail e = absurd cc
both_tail (Some control) init c i tail e = with_tail (Some control) init (c control refl) i tail e

nothing_tail : (tail : LatchTail) → Some (record { control = None; init = None }) ≡ Some tail → IsTail tail
nothing_tail tail e = subst (λ (r : Option LatchTail). tails r) e (tt, tt) where
  tails : Option LatchTail → Type 0
  tails None = Unit {0}
  tails (Some t) = IsTail t

tail_fits : (ws : List (List ℕ)) (tail : LatchTail) → AreShort ws → tail_in ws ≡ Some tail → IsTail tail
unfolding tail_in
tail_fits [] tail short e = nothing_tail tail e
tail_fits (i ∷ []) tail short e = with_tail None (init_in i) tt (λ init f. init_fits i init f) tail e
tail_fits (t ∷ c ∷ []) tail short e = by_tail (with_control (trigger_in t) c) (λ x f. control_fits (trigger_in t) c x (short_cons c [] (short_cons t (c ∷ []) short).1).0 f) tail e
tail_fits (t ∷ c ∷ i ∷ []) tail short e = both_tail (with_control (trigger_in t) c) (init_in i)
    (λ x f. control_fits (trigger_in t) c x (short_cons c (i ∷ []) (short_cons t (c ∷ i ∷ []) short).1).0 f) (λ init f.
    init_fits i init f) tail e
tail_fits (t ∷ c ∷ i ∷ w ∷ ws) tail short e = absurd cc

abbrev FitsLatch : List (List ℕ) → LatchLine → Type 0
FitsLatch words l = IsLatchLine l × (4 ≤ words_size words)

latch_with_fine : (line : ℕ) (i o : Name) (ws : List (List ℕ)) (r : Option LatchTail) → AreShort (i ∷ o ∷ ws) →
    ((tail : LatchTail) → r ≡ Some tail → IsTail tail) → IfOk (latch_with line i o r) (FitsLatch (i ∷ o ∷ ws))
latch_with_fine line i o ws None short fits = tt
latch_with_fine line i o ws (Some tail) short fits =
    cond_both (is_name i && is_name o) (Ok (record {
      input = i;
      latch = record {
        output = o;
        control = tail.control;
        init = tail.init;
      };
    })) (Err (Syntax line)) (λ (r : Result LatchLine NetError). IfOk r (FitsLatch (i ∷ o ∷ ws)))
    (λ are.
    let c = short_cons i (o ∷ ws) short in
    let d = short_cons o ws c.1 in
    let is_i : is_name i ≡ true = (both (is_name i) (is_name o) are).0 in
    let is_o : is_name o ≡ true = (both (is_name i) (is_name o) are).1 in
    let f = fits tail refl in (
      record { input = record { spelled = is_i; short = c.0 }; latch = record { output = record { spelled = is_o; short = d.0 }; control = f.0; init = f.1 } },
      omega (arith, words_size-cons i (o ∷ ws), words_size-cons o ws, name_long i is_i, name_long o is_o),
    ))
    (λ other. tt) where
      both : (a b : Bool) → (a && b) ≡ true → (a ≡ true) × (b ≡ true)
      both true b e = (refl, e)
      both false b e = absurd cc

latch_fine : (line : ℕ) (ws : List (List ℕ)) → AreShort ws → IfOk (latch_of line ws) (FitsLatch ws)
unfolding latch_of
latch_fine line [] short = tt
latch_fine line (i ∷ []) short = tt
latch_fine line (i ∷ o ∷ ws) short = latch_with_fine line i o ws (tail_in ws) short (λ tail e. tail_fits ws tail (short_cons o ws (short_cons i (o ∷ ws) short).1).1 e)

-- ---- statements

abbrev Fine : ℕ → Result Said NetError → Type 0
Fine size r = IfOk r (λ t. IsSaid t size)

model_fine : (line : ℕ) (s : Said) (ws : List (List ℕ)) (size : ℕ) → IsSaid s size → AreShort ws → Fine size (with_model line s ws)
unfolding with_model
model_fine line s [] size is short = with_flags_said s size true s.is_ended is
model_fine line s (w ∷ []) size is short =
    cond_both (is_name w) (Ok (record s { model = w; has_model = true })) (Err (Syntax line)) (Fine size)
    (λ name. with_model_said s size w is (record { spelled = name; short = (short_cons w [] short).0 }))
    (λ other. tt)
model_fine line s (w ∷ v ∷ ws) size is short = tt

directed_fine : (line : ℕ) (s : Said) (first : Bool) (word : List ℕ) (ws : List (List ℕ)) (k : BlifKeyword)
    (size more : ℕ) → IsSaid s size → s.current ≡ None → AreShort ws → size + words_size ws + 1 ≤ more →
    Fine more (directed line s first word ws k)
unfolding directed
directed_fine line s first word ws Model size more is none short h =
    cond_both s.has_model (Err (NotSupported line word)) (if first then with_model line s ws else Err (Syntax line)) (Fine more)
    (λ twice. tt)
    (λ once. cond_both first (with_model line s ws) (Err (Syntax line)) (Fine more)
    (λ e. model_fine line s ws more (said_more s size more (omega (arith, h)) is) short)
    (λ e. tt))
directed_fine line s first word ws Inputs size more is none short h =
    cond_both (are_names ws) (Ok (record s { inputs = s.inputs ++ ws; driven = s.driven ++ ws })) (Err (Syntax line)) (Fine more)
    (λ e. let all = names_all ws e short in with_inputs_said s size more ws is all (omega (arith, h, names_long ws all)))
    (λ e. tt)
directed_fine line s first word ws Outputs size more is none short h =
    cond_both (are_names ws) (Ok (record s { outputs = s.outputs ++ ws })) (Err (Syntax line)) (Fine more)
    (λ e. let all = names_all ws e short in with_outputs_said s size more ws is all (omega (arith, h, names_long ws all)))
    (λ e. tt)
directed_fine line s first word ws Clock size more is none short h =
    cond_both (are_names ws) (Ok (record s { clocks = s.clocks ++ ws })) (Err (Syntax line)) (Fine more)
    (λ e. let all = names_all ws e short in with_clocks_said s size more ws is all (omega (arith, h, names_long ws all)))
    (λ e. tt)
directed_fine line s first word ws Names size more is none short h =
    bind_fine (table_of line ws) (λ t. Ok (with_table s t)) IsNew (λ t. IsSaid t more) (table_fine line ws short)
    (λ t new. with_table_said s size more t is none new.0 new.1 (omega (arith, h)))
directed_fine line s first word ws LatchWord size more is none short h =
    bind_fine (latch_of line ws) (λ l. Ok (with_latch line s l)) (FitsLatch ws) (λ t. IsSaid t more) (latch_fine line ws short)
    (λ l fits. with_latch_said s size more line l is fits.0 (omega (arith, h, fits.1)))
directed_fine line s first word ws End size more is none short h =
    cond_both (is_nothing ws) (Ok (record s { is_ended = true })) (Err (Syntax line)) (Fine more)
    (λ e. with_flags_said s more s.has_model true (said_more s size more (omega (arith, h)) is))
    (λ e. tt)
directed_fine line s first word ws Unknown size more is none short h = tt

covered_fine : (line : ℕ) (s : Said) (c : Option Table) (words : List (List ℕ)) (size more : ℕ) → s.current ≡ c →
    IsSaid s size → size ≤ more → size + words_size words ≤ more + 1 → Fine more (covered line s c words)
covered_fine line s None words size more e is low h = tt
covered_fine line s (Some t) words size more e is low h =
    let table : IsCubeTable t = All-head IsCubeTable t [] (subst (λ (c : Option Table). All IsCubeTable (option_to_list c)) e is.current) in
    bind_fine (row_of line t words) (λ u. Ok (record s { current = Some u })) (IsMore t words) (λ x. IsSaid x more) (row_fine line t words table)
    (λ u m. with_row_said s size more t u is e m.table m.inputs m.output low (omega (arith, h, m.size)))

dot_long : (w : List ℕ) → begins_dot w ≡ true → 1 ≤ length w
dot_long [] e = absurd cc
dot_long (b ∷ bs) e = omega arith

after_fine : (line : ℕ) (s : Said) (w : List ℕ) (size : ℕ) → Fine size (after_end line s w)
after_fine line s w size = cond_both (is_same w (codes ".model") && s.has_model) (Err (NotSupported line w)) (Err (Syntax line)) (Fine size) (λ e. tt) (λ e. tt)

stated_fine : (line : ℕ) (s : Said) (ws : List (List ℕ)) (size more : ℕ) → IsSaid s size → AreShort ws → size ≤ more → size + words_size ws ≤ more + 1 → Fine more (stated line s ws)
stated_fine line s [] size more is short low h = said_more s size more low is
stated_fine line s (w ∷ ws) size more is short low h =
    cond_both s.is_ended (after_end line s w) (if begins_dot w then directed line (closed s) (not s.is_begun) w ws (keyword_of w) else covered line s s.current (w ∷ ws)) (Fine more)
    (λ ended. after_fine line s w more)
    (λ going. cond_both (begins_dot w) (directed line (closed s) (not s.is_begun) w ws (keyword_of w)) (covered line s s.current (w ∷ ws)) (Fine more)
    (λ dot. directed_fine line (closed s) (not s.is_begun) w ws (keyword_of w) size more (closed_said s size is) refl
    (short_cons w ws short).1 (omega (arith, h, words_size-cons w ws, dot_long w dot)))
    (λ row. covered_fine line s s.current (w ∷ ws) size more refl is low h))

step_fine : (s : Said) (l : Logical) (size : ℕ) → IsSaid s size → Fine (size + length l.text) (step s l)
unfolding step
step_fine s l size is =
    cond_both (nat_lt most_line_bytes l.size) (Err (LineTooLong l.first))
    (if has_long (words_of l.text) then Err (NameTooLong l.first) else stated l.first s (words_of l.text))
    (Fine (size + length l.text))
    (λ e. tt)
    (λ e. cond_both (has_long (words_of l.text)) (Err (NameTooLong l.first)) (stated l.first s (words_of l.text)) (Fine (size + length l.text))
    (λ f. tt)
    (λ f. stated_fine l.first s (words_of l.text) size (size + length l.text) is (short_words (words_of l.text) f) (omega arith) (omega (arith, words_fit l.text))))

-- the state is valid, and the current table is complete
pub record IsComplete (s : Said) (size : ℕ) : Type 0 where
  pub said : IsSaid s size
  pub whole : s.current ≡ None

pub steps_fine : (s : Said) (ls : List Logical) (size : ℕ) → IsSaid s size → IfOk (steps s ls) (λ t. IsComplete t (size + said_size ls))
unfolding steps
steps_fine s [] size is = record { said = said_more (closed s) size (size + 0) (omega arith) (closed_said s size is); whole = refl }
steps_fine s (l ∷ ls) size is =
    bind_fine (step s l) (λ t. steps t ls) (λ t. IsSaid t (size + length l.text)) (λ t. IsComplete t (size + said_size (l ∷ ls))) (step_fine s l size is)
    (λ t fine. let total : size + length l.text + said_size ls ≡ size + said_size (l ∷ ls) =
    omega (arith, said_size-cons l ls) in subst (λ (k : ℕ). IfOk (steps t ls) (λ u. IsComplete u k)) total
    (steps_fine t ls (size + length l.text) fine))
