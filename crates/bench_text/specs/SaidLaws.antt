-- Lines list names, latches without control and initial value, and gates.
use Rattle.std.proofs.Common.{◌≡◌, ℕ, suc, ◌+◌, ◌*◌, ◌≤◌, ◌<◌, Bool, true, false, List, [], ◌∷◌, ◌++◌, length, map, Option, Some, None, refl, ap, ◌∙◌, sym, subst, arith, length-append, append-nil}
use Rattle.std.specs.Prelude.{◌&&◌, nat_lt, if◌then◌else◌, Result, Ok, Err, IfOk, All, sum_by, codes}
use Rattle.std.specs.List.{list_any, list_all, flat_map}
use Rattle.std.proofs.lemmas.Bool.{cond_both}
use Rattle.std.proofs.lemmas.List.{map-append}
use Rattle.std.proofs.lemmas.List.Elements.{All-nil, All-cons, All-head, All-tail, All-push}
use Rattle.std.proofs.lemmas.List.Sums.{sum_by-cons, sum_by-append}
use Rattle.std.proofs.lemmas.Grind.{common_steps, flat_map-append}
use Rattle.net_theory.specs.Cover.{Cover, IsCover}
use Rattle.net_theory.specs.Document.{Name, IsName, is_name, is_same, Table, Latch, LatchLine, table_output, table_inputs, latch_of, latch_input, latch_output}
use Rattle.net_theory.specs.WellFormed.{IsTable}
use Rattle.net_core.specs.declared.joining.Connective.{Connective}
use Rattle.net_core.specs.Wholes.{joined_cover}
use Rattle.net_core.specs.declared.whole.Whole.{Whole}
use Rattle.net_core.specs.BodyLaws.{whole_is, whole_width, whole_few}
use Rattle.net_core.specs.declared.error.NetError.{NetError}
use Rattle.net_core.specs.declared.error.NetError.TheVariants.{Syntax, TooWide}
use Rattle.net_document.specs.Listed.{Listed, times}
use Rattle.net_document.specs.TimesLaws.{times-append}
use Rattle.blif_text.specs.SaidLaws.{bind_fine}
use Rattle.net_document.specs.Contents.{is_nothing}
use Rattle.bench_text.specs.declared.keywords.GateKey.{GateKey}
use Rattle.bench_text.specs.Items.{is_mark, is_mark_item}
use Rattle.bench_text.specs.Statements.{nothing, with_input, with_output, with_latch, with_table, operands_from}
use Rattle.bench_text.specs.Statements.{operands_of, names_by, names_of, alone, is_counted, gate_table, table_of}
use Rattle.bench_text.specs.Statements.{plain_latch, latch_of as latch_from, port_by, port_of}
use Rattle.net_theory.specs.Limits.{most_table_inputs, most_name_bytes}

-- ---- items, names, latches and gates

-- a word: within the limit of length and without marks
pub record IsWord (w : List ℕ) : Type 0 where
  pub short : length w ≤ most_name_bytes
  pub plain : list_any is_mark w ≡ false

-- an item that isn't a mark is a word
pub record IsItem (w : List ℕ) : Type 0 where
  pub short : length w ≤ most_name_bytes
  pub plain : is_mark_item w ≡ false → list_any is_mark w ≡ false

abbrev pub AreItems : List (List ℕ) → Type 0
AreItems [] = Unit {0}
AreItems (w ∷ ws) = IsItem w × AreItems ws

-- a name without marks
pub record IsPlainName (n : Name) : Type 0 where
  pub name : IsName n
  pub plain : list_any is_mark n ≡ false

-- a latch without a control and an initial value
pub record IsPlainLatch (l : LatchLine) : Type 0 where
  pub input : IsPlainName l.input
  pub output : IsPlainName l.latch.output
  pub control : l.latch.control ≡ None
  pub init : l.latch.init ≡ None

-- a table that joins its inputs, of which it has at least one
pub record IsGateTable (t : Table) : Type 0 where
  pub inputs : All IsPlainName t.inputs
  pub output : IsPlainName t.output
  pub some : 0 < length t.inputs
  pub narrow : length t.inputs ≤ most_table_inputs
  pub connective : Connective
  pub on : Bool
  pub cover : t.cover ≡ joined_cover connective (length t.inputs) on

names_plain : (ns : List Name) → All IsPlainName ns → All IsName ns
names_plain [] all = All-nil IsName
names_plain (n ∷ ns) all = All-cons IsName n ns (All-head IsPlainName n ns all).name (names_plain ns (All-tail IsPlainName n ns all))

pub gate_is_table : (t : Table) → IsGateTable t → IsTable t
gate_is_table t is =
    let whole : Whole = record { connective = is.connective; width = length t.inputs; on = is.on } in
    record {
      inputs = names_plain t.inputs is.inputs;
      output = is.output.name;
      width = ap (λ (c : Cover). c.width) is.cover ∙ whole_width whole;
      cover = subst IsCover (sym is.cover) (whole_is whole);
      narrow = is.narrow;
      few = omega (arith, is.narrow, whole_few whole is.some, ap (λ (c : Cover). length c.cubes) is.cover);
    }

-- ---- the document so far

unfoldable pub table_width : Table → ℕ
table_width t = length t.inputs

pub record IsFine (s : Listed) (size : ℕ) : Type 0 where
  pub model : s.document.model ≡ codes "top"
  pub inputs : All IsPlainName s.document.inputs
  pub outputs : All IsPlainName s.document.outputs
  pub clocks : s.document.clocks ≡ []
  pub latches : All IsPlainLatch s.document.latches
  pub tables : All IsGateTable s.document.tables
  pub driven : (n : Name) → times n s.driven ≡ times n s.document.inputs + times n (map latch_output (map latch_of s.document.latches)) + times n (map table_output s.document.tables)
  pub used : (n : Name) → times n s.used ≡ times n (flat_map table_inputs s.document.tables) + times n (map latch_input s.document.latches)
  pub small : 2 * (length s.document.inputs + length s.document.latches) + sum_by table_width s.document.tables ≤ size
  pub named : length s.document.outputs ≤ size

pub nothing_fine : IsFine nothing 0
unfolding times
nothing_fine = record {
  model = refl;
  inputs = All-nil IsPlainName;
  outputs = All-nil IsPlainName;
  clocks = refl;
  latches = All-nil IsPlainLatch;
  tables = All-nil IsGateTable;
  driven = λ n. refl;
  used = λ n. refl;
  small = omega arith;
  named = omega arith;
}

-- the document of a prefix is within the size of a longer text
pub fine_more : (s : Listed) (size more : ℕ) → size ≤ more → IsFine s size → IsFine s more
fine_more s size more h is = record {
  model = is.model;
  inputs = is.inputs;
  outputs = is.outputs;
  clocks = is.clocks;
  latches = is.latches;
  tables = is.tables;
  driven = is.driven;
  used = is.used;
  small =
      omega (arith, is.small, h);
  named = omega (arith, is.named, h);
}

pub input_fine : (s : Listed) (size more : ℕ) (n : Name) → IsFine s size → IsPlainName n → size + 2 ≤ more → IsFine (with_input s n) more
input_fine s size more n is name h = record {
  model = is.model;
  inputs = All-push IsPlainName s.document.inputs n is.inputs name;
  outputs = is.outputs;
  clocks = is.clocks;
  latches = is.latches;
  tables = is.tables;
  driven = λ m. omega (arith, times-append m s.driven (n ∷ []), times-append m s.document.inputs (n ∷ []), is.driven m);
  used = is.used;
  small = omega (arith, is.small, h, length-append s.document.inputs (n ∷ []));
  named = omega (arith, is.named, h);
}

pub output_fine : (s : Listed) (size more : ℕ) (n : Name) → IsFine s size → IsPlainName n → size + 2 ≤ more → IsFine (with_output s n) more
output_fine s size more n is name h = record {
  model = is.model;
  inputs = is.inputs;
  outputs = All-push IsPlainName s.document.outputs n is.outputs name;
  clocks = is.clocks;
  latches =
      is.latches;
  tables = is.tables;
  driven = is.driven;
  used = is.used;
  small = omega (arith, is.small, h);
  named =
      omega (arith, is.named, h, length-append s.document.outputs (n ∷ []));
}

pub latch_fine : (s : Listed) (size more : ℕ) (l : LatchLine) → IsFine s size → IsPlainLatch l → size + 2 ≤ more → IsFine (with_latch s l) more
latch_fine s size more l is latch h =
    let ls = s.document.latches in
    let latches : map latch_of (ls ++ l ∷ []) ≡ map latch_of ls ++ l.latch ∷ [] = map-append latch_of ls (l ∷ []) in
    record {
      model = is.model;
      inputs = is.inputs;
      outputs = is.outputs;
      clocks = is.clocks;
      latches = All-push IsPlainLatch ls l is.latches latch;
      tables = is.tables;
      driven = λ n.
          let outs : times n (map latch_output (map latch_of (ls ++ l ∷ []))) ≡
          times n (map latch_output (map latch_of ls)) + times n (l.latch.output ∷ []) =
          ap (λ (xs : List Latch). times n (map latch_output xs)) latches
          ∙ ap (times n) (map-append latch_output (map latch_of ls) (l.latch ∷ []))
          ∙ times-append n (map latch_output (map latch_of ls)) (l.latch.output ∷ []) in
          omega (arith, is.driven n, times-append n s.driven (l.latch.output ∷ []), outs);
      used = λ n.
          let ins : times n (map latch_input (ls ++ l ∷ [])) ≡ times n (map latch_input ls) + times n (l.input ∷ []) =
          ap (times n) (map-append latch_input ls (l ∷ [])) ∙ times-append n (map latch_input ls) (l.input ∷ []) in
          omega (arith, is.used n, times-append n s.used (l.input ∷ []), ins);
      small = omega (arith, is.small, h, length-append ls (l ∷ []));
      named = omega (arith, is.named, h);
    }

outputs_push : (n : Name) (ts : List Table) (t : Table) → times n (map table_output (ts ++ t ∷ [])) ≡ times n (map table_output ts) + times n (t.output ∷ [])
outputs_push n ts t = ap (times n) (map-append table_output ts (t ∷ [])) ∙ times-append n (map table_output ts) (t.output ∷ [])

inputs_push : (n : Name) (ts : List Table) (t : Table) → times n (flat_map table_inputs (ts ++ t ∷ [])) ≡ times n (flat_map table_inputs ts) + times n t.inputs
inputs_push n ts t =
    ap (times n) (flat_map-append table_inputs ts (t ∷ []) ∙ ap (λ (xs : List Name). flat_map table_inputs ts ++ xs) (append-nil t.inputs))
    ∙ times-append n (flat_map table_inputs ts) t.inputs

pub table_fine : (s : Listed) (size more : ℕ) (t : Table) → IsFine s size → IsGateTable t → size + length t.inputs ≤ more → IsFine (with_table s t) more
unfolding table_width
table_fine s size more t is gate h =
    let ts = s.document.tables in
    record {
      model = is.model;
      inputs = is.inputs;
      outputs = is.outputs;
      clocks = is.clocks;
      latches = is.latches;
      tables = All-push IsGateTable ts t is.tables gate;
      driven = λ n. omega (arith, times-append n s.driven (t.output ∷ []), is.driven n, outputs_push n ts t);
      used = λ n. omega (arith, times-append n s.used t.inputs, is.used n, inputs_push n ts t);
      small = omega (arith, is.small, h, sum_by-append table_width ts (t ∷ []), sum_by-cons table_width t []);
      named = omega (arith, is.named, h);
    }

-- ---- operands

-- words, at least one, and at most half as many as the items
pub record AreItemWords (ns : List Name) (room : ℕ) : Type 0 where
  pub words : All IsWord ns
  pub some : 0 < length ns
  pub few : 2 * length ns ≤ room

operands_fine : (names : List Name) (items : List (List ℕ)) (ns : List Name) → All IsWord names → AreItems items →
    operands_from names items ≡ Some ns → AreItemWords ns (2 * length names + length items)
unfolding operands_from
operands_fine names [] ns words is e = absurd cc
operands_fine names (w ∷ []) ns words is e = absurd cc
operands_fine names (w ∷ m ∷ rest) ns words is e =
    cond_both (is_mark_item w) None (if is_same m (codes ")") then (if is_nothing rest then Some (names ++
    w ∷ []) else None) else (if is_same m (codes ",") then operands_from (names ++ w ∷ []) rest else None))
    (λ (r : Option (List Name)). r ≡ Some ns → AreItemWords ns (2 * length names + suc (suc (length rest))))
    (λ mark f. absurd cc)
    (λ word f.
    let all = All-push IsWord names w words (record { short = is.0.short; plain = is.0.plain word }) in
    let long = length-append names (w ∷ []) in
    cond_both (is_same m (codes ")")) (if is_nothing rest then Some (names ++ w ∷ []) else None)
    (if is_same m (codes ",") then operands_from (names ++ w ∷ []) rest else None) (λ (r : Option (List Name)). r ≡
    Some ns → AreItemWords ns (2 * length names + suc (suc (length rest))))
    (λ closing g. cond_both (is_nothing rest) (Some (names ++ w ∷ [])) None (λ (r : Option (List Name)). r ≡ Some ns → AreItemWords ns (2 * length names + suc (suc (length rest))))
    (λ last h.
    let same : names ++ w ∷ [] ≡ ns = cc in
    subst (λ (xs : List Name). AreItemWords xs (2 * length names + suc (suc (length rest)))) same (record { words = all; some = omega (arith, long); few = omega (arith, long) }))
    (λ more h. absurd cc)
    g)
    (λ other g. cond_both (is_same m (codes ",")) (operands_from (names ++ w ∷ []) rest) None (λ (r : Option (List Name)). r ≡ Some ns → AreItemWords ns (2 * length names + suc (suc (length rest))))
    (λ comma h.
    let on = operands_fine (names ++ w ∷ []) rest ns all is.1.1 h in
    record { words = on.words; some = on.some; few = omega (arith, on.few, long) })
    (λ none h. absurd cc)
    g)
    f)
    e

bracket_fine : (items : List (List ℕ)) (ns : List Name) → AreItems items → operands_of items ≡ Some ns → AreItemWords ns (length items)
unfolding operands_of
bracket_fine [] ns is e = absurd cc
bracket_fine (m ∷ rest) ns is e =
    cond_both (is_same m (codes "(")) (operands_from [] rest) None (λ (r : Option (List Name)). r ≡ Some ns → AreItemWords ns (suc (length rest)))
    (λ begun f.
    let on = operands_fine [] rest ns (All-nil IsWord) is.1 f in
    record { words = on.words; some = on.some; few = omega (arith, on.few) })
    (λ other f. absurd cc)
    e

pub record AreOperandNames (ns : List Name) (room : ℕ) : Type 0 where
  pub names : All IsPlainName ns
  pub some : 0 < length ns
  pub narrow : length ns ≤ most_table_inputs
  pub few : length ns ≤ room

both_true : (a b : Bool) → (a && b) ≡ true → (a ≡ true) × (b ≡ true)
both_true true b e = (refl, e)
both_true false b e = absurd cc

pub plain_name : (w : List ℕ) → IsWord w → is_name w ≡ true → IsPlainName w
plain_name w is name = record { name = record { spelled = name; short = is.short }; plain = is.plain }

plain_names : (ws : List (List ℕ)) → All IsWord ws → list_all is_name ws ≡ true → All IsPlainName ws
plain_names [] all e = All-nil IsPlainName
plain_names (w ∷ ws) all e =
    let both = both_true (is_name w) (list_all is_name ws) e in
    All-cons IsPlainName w ws (plain_name w (All-head IsWord w ws all) both.0) (plain_names ws (All-tail IsWord w ws all) both.1)

names_by_fine : (line : ℕ) (r : Option (List Name)) (room : ℕ) → ((ns : List Name) → r ≡ Some ns → AreItemWords ns room) → IfOk (names_by line r) (λ ns. AreOperandNames ns room)
names_by_fine line None room h = tt
names_by_fine line (Some ns) room h =
    let is = h ns refl in
    cond_both (nat_lt most_table_inputs (length ns)) (Err (TooWide line))
    (if list_all is_name ns then Ok ns else Err (Syntax line)) (λ (r : Result (List Name) NetError).
    IfOk r (λ xs. AreOperandNames xs room))
    (λ wide. tt)
    (λ narrow. cond_both (list_all is_name ns) (Ok ns) (Err (Syntax line)) (λ (r : Result (List Name) NetError). IfOk r (λ xs. AreOperandNames xs room))
    (λ named.
    let few : length ns ≤ most_table_inputs = grind (arith, common_steps, narrow) in
    record { names = plain_names ns is.words named; some = is.some; narrow = few; few = omega (arith, is.few) })
    (λ none. tt))

pub names_fine : (line : ℕ) (items : List (List ℕ)) → AreItems items → IfOk (names_of line items) (λ ns. AreOperandNames ns (length items))
unfolding names_of
names_fine line items is = names_by_fine line (operands_of items) (length items) (λ ns e. bracket_fine items ns is e)

pub alone_fine : (line : ℕ) (ns : List Name) (P : Name → Type 0) → All P ns → IfOk (alone line ns) P
alone_fine line [] P all = tt
alone_fine line (n ∷ []) P all = All-head P n [] all
alone_fine line (n ∷ m ∷ ns) P all = tt

port_by_fine : (line : ℕ) (r : Option (List Name)) → ((ns : List Name) → r ≡ Some ns → All IsWord ns) → IfOk (port_by line r) IsPlainName
port_by_fine line None h = tt
port_by_fine line (Some ns) h =
    bind_fine (alone line ns) (λ n. if is_name n then Ok n else Err (Syntax line)) IsWord IsPlainName (alone_fine line ns IsWord (h ns refl))
    (λ n is. cond_both (is_name n) (Ok n) (Err (Syntax line)) (λ (r : Result Name NetError). IfOk r IsPlainName)
    (λ name. plain_name n is name)
    (λ none. tt))

pub port_fine : (line : ℕ) (items : List (List ℕ)) → AreItems items → IfOk (port_of line items) IsPlainName
unfolding port_of
port_fine line items is = port_by_fine line (operands_of items) (λ ns e. (bracket_fine items ns is e).words)

-- ---- gates and latches

pub gate_fine : (line : ℕ) (key : GateKey) (output : Name) (inputs : List Name) (room : ℕ) → IsWord output →
    AreOperandNames inputs room → IfOk (table_of line key output inputs) (λ t. IsGateTable t × (length t.inputs ≤ room))
unfolding table_of
gate_fine line key output inputs room word is =
    cond_both (is_name output && is_counted key inputs) (Ok (gate_table key output inputs)) (Err (Syntax line)) (λ (r : Result Table NetError). IfOk r (λ t. IsGateTable t × (length t.inputs ≤ room)))
    (λ e. (
      record {
        inputs = is.names;
        output = plain_name output word (both_true (is_name output) (is_counted key inputs) e).0;
        some = is.some;
        narrow = is.narrow;
        connective = key.connective;
        on = key.on;
        cover = refl;
      },
      is.few,
    ))
    (λ e. tt)

pub dff_fine : (line : ℕ) (output : Name) (inputs : List Name) (room : ℕ) → IsWord output → AreOperandNames inputs room → IfOk (latch_from line output inputs) IsPlainLatch
unfolding latch_from
dff_fine line output inputs room word is =
    bind_fine (alone line inputs) (λ n. if is_name output then Ok (plain_latch output n) else Err (Syntax line)) IsPlainName IsPlainLatch (alone_fine line inputs IsPlainName is.names)
    (λ n name. cond_both (is_name output) (Ok (plain_latch output n)) (Err (Syntax line)) (λ (r : Result LatchLine NetError). IfOk r IsPlainLatch)
    (λ e. record { input = name; output = plain_name output word e; control = refl; init = refl })
    (λ e. tt))
