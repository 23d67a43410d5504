-- A file lists a document within its limits, whose tables have at most two inputs.
use Rattle.std.proofs.Common.{◌≡◌, ℕ, zero, suc, ◌+◌, ◌*◌, ◌^◌, ◌≤◌, ◌<◌, Bool, true, false, List, [], ◌∷◌, ◌++◌, length, map, refl, ap, ◌∙◌, sym, subst, arith, length-append}
use Rattle.std.specs.Prelude.{◌&&◌, ◌==◌, All, codes, sum_by}
use Rattle.std.specs.List.{flat_map}
use Rattle.std.proofs.lemmas.Grind.{common_steps}
use Rattle.std.proofs.lemmas.Bool.{cond_both}
use Rattle.std.proofs.lemmas.List.{length-map}
use Rattle.std.proofs.lemmas.List.Elements.{All-nil, All-cons, All-head, All-tail, All-append}
use Rattle.std.proofs.lemmas.List.Sums.{sum_by-cons}
use Rattle.net_theory.specs.Cover.{is_cube, is_cube_byte, cover_value}
use Rattle.net_theory.specs.Cost.{unary_cost, binary_cost, unary_cover, merged, merged_table, cover_cost, table_cost, cost}
use Rattle.net_theory.specs.Expansion.{unary_word, binary_word}
use Rattle.net_theory.specs.Document.{Name, IsName, is_name, is_same, Table, LatchLine, Document, table_output, table_inputs, latch_of, latch_input, latch_output}
use Rattle.net_theory.specs.WellFormed.{IsTable, IsLatchLine, IsFreeOf}
use Rattle.net_theory.specs.NetOf.{source_count}
use Rattle.net_document.specs.Listed.{Listed, IsWellListed, AreControlsFree}
use Rattle.net_document.specs.TimesLaws.{times-append}
use Rattle.aiger_text.specs.declared.file.AigLatch.{AigLatch}
use Rattle.aiger_text.specs.declared.file.AigGate.{AigGate}
use Rattle.aiger_text.specs.declared.file.Reset.{Reset}
use Rattle.aiger_text.specs.declared.file.Reset.TheVariants.{Zero, One, Undefined}
use Rattle.aiger_text.specs.declared.file.Counts.{Counts}
use Rattle.aiger_text.specs.File.{AigFile}
use Rattle.aiger_text.specs.Statements.{most_literal}
use Rattle.aiger_text.specs.Valid.{counts_of, IsLiteral, IsLatchAt, IsAig}
use Rattle.aiger_text.specs.Naming.{numbered, name_at, variable_names, output_names}
use Rattle.aiger_text.specs.NamingLaws.{numbered_name, outputs_are_names, variables_are_names, name_at_is}
use Rattle.aiger_text.specs.Meaning.{Signals, signals_of, is_complement, zero_table, one_table, byte_of, gate_table, sink_name, needs_not, unary_table, not_table, not_tables, init_of, latch_line, is_driver, output_tables, tables_of, document_of, listed_with, listed}

-- ---- tables

-- a table of at most two inputs
pub record IsSmall (t : Table) : Type 0 where
  pub table : IsTable t
  pub narrow : length t.inputs ≤ 2

byte_is : (s : Signals) (lit : ℕ) → is_cube_byte (byte_of s lit) ≡ true
byte_is s lit = cond_both (is_complement s lit) 48 49 (λ (b : ℕ). is_cube_byte b ≡ true) (λ e. refl) (λ e. refl)

one_cube : (a : ℕ) → is_cube_byte a ≡ true → is_cube 1 (a ∷ []) ≡ true
one_cube a e = ap (λ (x : Bool). x && true) e

two_cube : (a b : ℕ) → is_cube_byte a ≡ true → is_cube_byte b ≡ true → is_cube 2 (a ∷ b ∷ []) ≡ true
two_cube a b e f = ap (λ (x : Bool). x && (is_cube_byte b && true)) e ∙ ap (λ (x : Bool). x && true) f

abbrev HasWidth : ℕ → List ℕ → Type 0
HasWidth width cube = is_cube width cube ≡ true

zero_small : IsSmall zero_table
unfolding is_name
zero_small = record {
  table = record {
    inputs = All-nil IsName;
    output = numbered_name (codes "&") 0 refl (omega arith) (omega arith);
    width = refl;
    cover = record { cubes = All-nil (HasWidth 0); parity = λ e. absurd cc };
    narrow = omega arith;
    few = omega arith;
  };
  narrow = omega arith;
}

one_small : IsSmall one_table
unfolding is_name
one_small = record {
  table = record {
    inputs = All-nil IsName;
    output = numbered_name (codes "&") 1 refl (omega arith) (omega arith);
    width = refl;
    cover = record { cubes = All-cons (HasWidth 0) [] [] refl (All-nil (HasWidth 0)); parity = λ e. absurd cc };
    narrow = omega arith;
    few = omega arith;
  };
  narrow = omega arith;
}

unary_small : (input : Name) (byte : ℕ) (output : Name) → is_cube_byte byte ≡ true → IsName input → IsName output → IsSmall (unary_table input byte output)
unary_small input byte output good is out = record {
  table = record {
    inputs = All-cons IsName input [] is (All-nil IsName);
    output = out;
    width = refl;
    cover = record {
      cubes = All-cons (HasWidth 1) (byte ∷ []) [] (one_cube byte good) (All-nil (HasWidth 1));
      parity = λ e. absurd cc;
    };
    narrow = omega arith;
    few = omega arith;
  };
  narrow = omega arith;
}

gate_small : (s : Signals) (g : AigGate) → All IsName s.names → IsSmall (gate_table s g)
gate_small s g all = record {
  table = record {
    inputs = All-cons IsName (name_at s.names g.first) (name_at s.names g.second ∷ []) (name_at_is s.names g.first all)
        (All-cons IsName (name_at s.names g.second) [] (name_at_is s.names g.second all) (All-nil IsName));
    output = name_at_is s.names g.literal all;
    width = refl;
    cover = record {
      cubes = All-cons (HasWidth 2) (byte_of s g.first ∷ byte_of s g.second ∷ []) []
          (two_cube (byte_of s g.first) (byte_of s g.second) (byte_is s g.first) (byte_is s g.second)) (All-nil (HasWidth 2));
      parity = λ e. absurd cc;
    };
    narrow = omega arith;
    few = omega arith;
  };
  narrow = omega arith;
}

gates_small : (s : Signals) (gs : List AigGate) → All IsName s.names → All IsSmall (map (gate_table s) gs)
gates_small s [] all = All-nil IsSmall
gates_small s (g ∷ gs) all = All-cons IsSmall (gate_table s g) (map (gate_table s) gs) (gate_small s g all) (gates_small s gs all)

literal_name : (lit : ℕ) → lit < 2 ^ 32 → IsName (numbered (codes "&") lit)
unfolding is_name
literal_name lit low = numbered_name (codes "&") lit refl (omega arith) (omega (arith, low))

sink_is : (s : Signals) (lit : ℕ) → All IsName s.names → lit < 2 ^ 32 → IsName (sink_name s lit)
sink_is s lit all low =
    cond_both (is_complement s lit) (numbered (codes "&") lit) (name_at s.names lit) IsName
    (λ e. literal_name lit low)
    (λ e. name_at_is s.names lit all)

not_small : (s : Signals) (v : ℕ) → All IsName s.names → v < 2 ^ 30 → IsSmall (not_table s v)
not_small s v all low =
    unary_small (name_at s.names (v * 2)) 48 (numbered (codes "&") (v * 2 + 1)) refl (name_at_is s.names (v * 2) all) (literal_name (v * 2 + 1) (omega (arith, low)))

nots_small : (s : Signals) (v n : ℕ) → All IsName s.names → v + n < 2 ^ 30 → All IsSmall (not_tables s v n)
unfolding not_tables
nots_small s v zero all low = All-nil IsSmall
nots_small s v (suc n) all low =
    let rest = nots_small s (v + 1) n all (omega (arith, low)) in
    cond_both (needs_not s v) (not_table s v ∷ not_tables s (v + 1) n) (not_tables s (v + 1) n) (All IsSmall)
    (λ e. All-cons IsSmall (not_table s v) (not_tables s (v + 1) n) (not_small s v all (omega (arith, low))) rest)
    (λ e. rest)

abbrev IsNarrow : ℕ → Type 0
IsNarrow lit = lit < 2 ^ 32

outputs_small : (s : Signals) (lits : List ℕ) (os : List Name) → All IsName s.names → All IsNarrow lits → All IsName os → All IsSmall (output_tables s lits os)
unfolding output_tables
outputs_small s [] os all low are = All-nil IsSmall
outputs_small s (lit ∷ lits) [] all low are = All-nil IsSmall
outputs_small s (lit ∷ lits) (o ∷ os) all low are =
    let rest = outputs_small s lits os all (All-tail IsNarrow lit lits low) (All-tail IsName o os are) in
    cond_both (is_driver s.names lit o) (output_tables s lits os) (unary_table (sink_name s lit) 49 o ∷ output_tables s lits os) (All IsSmall)
    (λ e. rest)
    (λ e. All-cons IsSmall (unary_table (sink_name s lit) 49 o) (output_tables s lits os)
    (unary_small (sink_name s lit) 49 o refl (sink_is s lit all (All-head IsNarrow lit lits low)) (All-head IsName o os are)) rest)

-- ---- numbers of tables

nots_count : (s : Signals) (v n : ℕ) → length (not_tables s v n) ≤ n
unfolding not_tables
nots_count s v zero = omega arith
nots_count s v (suc n) =
    cond_both (needs_not s v) (not_table s v ∷ not_tables s (v + 1) n) (not_tables s (v + 1) n) (λ (ts : List Table). length ts ≤ suc n)
    (λ e. omega (arith, nots_count s (v + 1) n))
    (λ e. omega (arith, nots_count s (v + 1) n))

outputs_count : (s : Signals) (lits : List ℕ) (os : List Name) → length (output_tables s lits os) ≤ length lits
unfolding output_tables
outputs_count s [] os = omega arith
outputs_count s (lit ∷ lits) [] = omega arith
outputs_count s (lit ∷ lits) (o ∷ os) =
    cond_both (is_driver s.names lit o) (output_tables s lits os) (unary_table (sink_name s lit) 49 o ∷ output_tables s lits os) (λ (ts : List Table). length ts ≤ suc (length lits))
    (λ e. omega (arith, outputs_count s lits os))
    (λ e. omega (arith, outputs_count s lits os))

abbrev gate_tables : Signals → AigFile → List Table
gate_tables s f = map (gate_table s) f.gates

abbrev constants : List Table
constants = zero_table ∷ one_table ∷ []

tables_count : (s : Signals) (os : List Name) (f : AigFile) → length (tables_of s os f) ≤ 2 + length f.gates + f.variables + length f.outputs
unfolding tables_of
tables_count s os f = omega (
  arith,
  length-append (constants ++ gate_tables s f ++ not_tables s 1 f.variables) (output_tables s f.outputs os),
  length-append (constants ++ gate_tables s f) (not_tables s 1 f.variables),
  length-append constants (gate_tables s f),
  length-map f.gates (gate_table s),
  nots_count s 1 f.variables,
  outputs_count s f.outputs os,
)

tables_small : (s : Signals) (os : List Name) (f : AigFile) → All IsName s.names → All IsNarrow f.outputs → All IsName os → f.variables < 2 ^ 29 → All IsSmall (tables_of s os f)
unfolding tables_of
tables_small s os f all low are few =
    All-append IsSmall (constants ++ gate_tables s f ++ not_tables s 1 f.variables) (output_tables s f.outputs os)
    (All-append IsSmall (constants ++ gate_tables s f) (not_tables s 1 f.variables)
    (All-append IsSmall constants (gate_tables s f)
    (All-cons IsSmall zero_table (one_table ∷ []) zero_small (All-cons IsSmall one_table [] one_small (All-nil IsSmall)))
    (gates_small s f.gates all))
    (nots_small s 1 f.variables all (omega (arith, few))))
    (outputs_small s f.outputs os all low are)

-- ---- costs

unary_few : (w : ℕ) → unary_cost w ≤ 1
unary_few w = cond_both (w == 2) 1 0 (λ (n : ℕ). n ≤ 1) (λ e. omega arith) (λ e. omega arith)

binary_few : (w : ℕ) → binary_cost w ≤ 1
binary_few w = cond_both _ 0 1 (λ (n : ℕ). n ≤ 1) (λ e. omega arith) (λ e. omega arith)

merged_few : (t : Table) (ns : List Name) → t.inputs ≡ ns → length ns ≤ 2 → cover_cost (merged t ns).cover (merged t ns).inputs ≤ 1
merged_few t [] same low = subst (λ (xs : List Name). cover_cost t.cover xs ≤ 1) (sym same) (omega arith)
merged_few t (a ∷ []) same low = subst (λ (xs : List Name). cover_cost t.cover xs ≤ 1) (sym same) (unary_few (unary_word t.cover))
merged_few t (a ∷ b ∷ []) same low =
    cond_both (is_same a b) _ t (λ (m : Table). cover_cost m.cover m.inputs ≤ 1)
    (λ one. unary_few (unary_word (unary_cover (cover_value t.cover (false ∷ false ∷ [])) (cover_value t.cover (true ∷ true ∷ [])))))
    (λ other. subst (λ (xs : List Name). cover_cost t.cover xs ≤ 1) (sym same) (binary_few (binary_word t.cover)))
merged_few t (a ∷ b ∷ c ∷ ns) same low = absurd (omega (arith, low))

table_few : (t : Table) → IsSmall t → table_cost t ≤ 1
unfolding table_cost merged_table
table_few t is = merged_few t t.inputs refl is.narrow

tables_few : (ts : List Table) → All IsSmall ts → sum_by table_cost ts ≤ length ts
tables_few [] all = omega arith
tables_few (t ∷ ts) all = omega (arith, sum_by-cons table_cost t ts, table_few t (All-head IsSmall t ts all), tables_few ts (All-tail IsSmall t ts all))

-- ---- latches

init_few : (r : Reset) → init_of r ≤ 3
init_few Zero = omega arith
init_few One = omega arith
init_few Undefined = omega arith

latch_is : (s : Signals) (l : AigLatch) → All IsName s.names → l.next < 2 ^ 32 → IsLatchLine (latch_line s l)
latch_is s l all low = record {
  input = sink_is s l.next all low;
  latch = record { output = name_at_is s.names l.literal all; control = tt; init = init_few l.reset };
}

latches_are : (s : Signals) (c : Counts) (ls : List AigLatch) → All IsName s.names → most_literal c < 2 ^ 32 → All (IsLatchAt c) ls → All IsLatchLine (map (latch_line s) ls)
latches_are s c [] all small are = All-nil IsLatchLine
latches_are s c (l ∷ ls) all small are =
    All-cons IsLatchLine (latch_line s l) (map (latch_line s) ls) (latch_is s l all (omega (arith, small, (All-head (IsLatchAt c) l ls are).next)))
    (latches_are s c ls all small (All-tail (IsLatchAt c) l ls are))

abbrev IsFree : List Name → LatchLine → Type 0
IsFree ns l = IsFreeOf ns l.latch.control

latches_free : (ns : List Name) (s : Signals) (ls : List AigLatch) → All (IsFree ns) (map (latch_line s) ls)
latches_free ns s [] = All-nil (IsFree ns)
latches_free ns s (l ∷ ls) = All-cons (IsFree ns) (latch_line s l) (map (latch_line s) ls) tt (latches_free ns s ls)

-- ---- documents

inputs_are : (names : List Name) (lits : List ℕ) → All IsName names → All IsName (map (name_at names) lits)
inputs_are names [] all = All-nil IsName
inputs_are names (lit ∷ lits) all = All-cons IsName (name_at names lit) (map (name_at names) lits) (name_at_is names lit all) (inputs_are names lits all)

literals_narrow : (c : Counts) (lits : List ℕ) → most_literal c < 2 ^ 32 → All (IsLiteral c) lits → All IsNarrow lits
literals_narrow c [] small all = All-nil IsNarrow
literals_narrow c (lit ∷ lits) small all =
    All-cons IsNarrow lit lits (omega (arith, small, All-head (IsLiteral c) lit lits all)) (literals_narrow c lits small (All-tail (IsLiteral c) lit lits all))

all_tables : (ts : List Table) → All IsSmall ts → All IsTable ts
all_tables [] all = All-nil IsTable
all_tables (t ∷ ts) all = All-cons IsTable t ts (All-head IsSmall t ts all).table (all_tables ts (All-tail IsSmall t ts all))

-- the names and tables of a document are within their limits
record IsWithin (d : Document) : Type 0 where
  model : IsName d.model
  inputs : All IsName d.inputs
  outputs : All IsName d.outputs
  clocks : All IsName d.clocks
  latches : All IsLatchLine d.latches
  tables : All IsSmall d.tables

document_within : (f : AigFile) → IsAig f → IsWithin (document_of f)
unfolding document_of is_name
document_within f is =
    let names = variables_are_names f is in
    let small : most_literal (counts_of f) < 2 ^ 32 = omega (arith, is.counts.variables) in
    record {
      model = record { spelled = refl; short = omega arith };
      inputs = inputs_are (variable_names f) f.inputs names;
      outputs = outputs_are_names f is;
      clocks = All-nil IsName;
      latches = latches_are (signals_of f) (counts_of f) f.latches names small is.latches;
      tables = tables_small (signals_of f) (output_names f) f names (literals_narrow (counts_of f) f.outputs small is.outputs) (outputs_are_names f is) (omega (arith, is.counts.variables));
    }

within_listed : (d : Document) → IsWithin d → IsWellListed (listed_with d)
unfolding listed_with
within_listed d is = record {
  model = is.model;
  inputs = is.inputs;
  outputs = is.outputs;
  clocks = is.clocks;
  latches = is.latches;
  tables = all_tables d.tables is.tables;
  driven = λ n. refl;
  used = λ n. omega (
    arith,
    times-append n (flat_map table_inputs d.tables ++ map latch_input d.latches) d.outputs,
    times-append n (flat_map table_inputs d.tables) (map latch_input d.latches),
    times-append n (flat_map table_inputs d.tables) (d.outputs ++ map latch_input d.latches),
    times-append n d.outputs (map latch_input d.latches),
  );
}

pub listed_is : (f : AigFile) → IsAig f → IsWellListed (listed f)
listed_is f is = within_listed (document_of f) (document_within f is)

pub listed_free : (f : AigFile) → AreControlsFree (listed f).document
unfolding document_of listed_with
listed_free f = latches_free (map table_output (tables_of (signals_of f) (output_names f) f)) (signals_of f) f.latches

tables_at_most : (f : AigFile) → IsAig f → length (document_of f).tables ≤ 5242882
unfolding document_of
tables_at_most f is = omega (arith, tables_count (signals_of f) (output_names f) f, is.counts.room, is.counts.variables, is.counts.outputs)

pub listed_few : (f : AigFile) → IsAig f → length (listed f).document.tables < 2 ^ 31
unfolding listed_with
listed_few f is = omega (arith, tables_at_most f is)

sources_few : (f : AigFile) → IsAig f → source_count (document_of f) ≤ 1048576
unfolding document_of
sources_few f is =
    let names = variable_names f in
    let ls = map (latch_line (signals_of f)) f.latches in
    omega (
      arith,
      length-append (map (name_at names) f.inputs) (map latch_output (map latch_of ls)),
      length-map f.inputs (name_at names),
      length-map (map latch_of ls) latch_output,
      length-map ls latch_of,
      length-map f.latches (latch_line (signals_of f)),
      is.counts.sources,
    )

pub listed_small : (f : AigFile) → IsAig f → 2 * source_count (listed f).document + cost (listed f).document < 2 ^ 31
unfolding listed_with cost
listed_small f is = omega (arith, sources_few f is, tables_few (document_of f).tables (document_within f is).tables, tables_at_most f is)

-- the same of a list that is known to be that of the file

pub listed_by : (f : AigFile) (l : Listed) → IsAig f → l ≡ listed f → IsWellListed l
listed_by f l is e = subst IsWellListed (sym e) (listed_is f is)

pub free_by : (f : AigFile) (l : Listed) → l ≡ listed f → AreControlsFree l.document
free_by f l e = subst (λ (x : Listed). AreControlsFree x.document) (sym e) (listed_free f)

pub few_by : (f : AigFile) (l : Listed) → IsAig f → l ≡ listed f → length l.document.tables < 2 ^ 31
few_by f l is e = subst (λ (x : Listed). length x.document.tables < 2 ^ 31) (sym e) (listed_few f is)

pub small_by : (f : AigFile) (l : Listed) → IsAig f → l ≡ listed f → 2 * source_count l.document + cost l.document < 2 ^ 31
small_by f l is e = subst (λ (x : Listed). 2 * source_count x.document + cost x.document < 2 ^ 31) (sym e) (listed_small f is)

pub ruleset listings = (common_steps, listed_by, free_by, few_by, small_by)
