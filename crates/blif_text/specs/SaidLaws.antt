-- The parser state has only valid names, tables and latches, and is no larger than the text.
use Rattle.std.proofs.Common.{◌≡◌, ℕ, suc, ◌+◌, ◌*◌, ◌≤◌, Bool, true, false, List, [], ◌∷◌, ◌++◌, length, map, Option, Some, None, refl, ap, ◌∙◌, sym, subst, arith, length-append, append-nil}
use Rattle.std.specs.Prelude.{nat_lt, ◌||◌, Result, Ok, Err, IfOk, All, option_to_list, sum_by}
use Rattle.std.specs.List.{list_any, flat_map, filter_map, cons_option}
use Rattle.std.specs.Option.{option_map}
use Rattle.std.proofs.lemmas.Bool.{ltb-false}
use Rattle.std.proofs.lemmas.List.{map-append}
use Rattle.std.proofs.lemmas.List.Elements.{All-nil, All-cons, All-append, All-push, filter_map-append}
use Rattle.std.proofs.lemmas.List.Sums.{sum_by-cons, sum_by-append}
use Rattle.std.proofs.lemmas.Grind.{flat_map-append}
use Rattle.net_theory.specs.declared.data.Trigger.{Trigger}
use Rattle.net_theory.specs.Cost.{literal_sum}
use Rattle.net_theory.specs.Document.{Name, IsName, is_name, Table, Latch, LatchLine, table_output, table_inputs, latch_of, latch_input, latch_output}
use Rattle.net_theory.specs.WellFormed.{IsTable, IsLatchLine}
use Rattle.net_theory.specs.Naming.{control_of, second_of}
use Rattle.net_core.specs.declared.error.NetError.{NetError}
use Rattle.net_document.specs.Listed.{times}
use Rattle.net_document.specs.TimesLaws.{times-append}
use Rattle.net_document.specs.Limits.{is_long_word}
use Rattle.blif_text.specs.Reading.{◌>>=◌}
use Rattle.blif_text.specs.Words.{has_long}
use Rattle.blif_text.specs.Statements.{Control, Said, nothing, closed, with_table, with_latch, control_at}
use Rattle.net_theory.specs.Limits.{most_name_bytes}

abbrev pub control_name : Control → Name
control_name c = c.name

-- the least number of bytes of a table's text
unfoldable pub table_size : Table → ℕ
table_size t = 1 + literal_sum t.cover.cubes

abbrev pub tables_of : Said → List Table
tables_of s = s.tables ++ option_to_list s.current

-- a table by cubes, the only kind in BLIF
pub record IsCubeTable (t : Table) : Type 0 where
  pub table : IsTable t
  pub parity : t.cover.parity ≡ false

pub record IsSaid (s : Said) (size : ℕ) : Type 0 where
  pub model : IsName s.model
  pub inputs : All IsName s.inputs
  pub outputs : All IsName s.outputs
  pub clocks : All IsName s.clocks
  pub latches : All IsLatchLine s.latches
  pub tables : All IsCubeTable s.tables
  pub current : All IsCubeTable (option_to_list s.current)
  pub driven : (n : Name) → times n s.driven ≡ times n s.inputs + times n (map latch_output (map latch_of s.latches)) + times n (map table_output (tables_of s))
  pub used : (n : Name) → times n s.used ≡ times n (flat_map table_inputs (tables_of s)) + times n (map latch_input s.latches)
  pub controls : map control_name s.controls ≡ filter_map control_of (map latch_of s.latches)
  pub small : 2 * (length s.inputs + length s.latches) + sum_by table_size (tables_of s) ≤ size
  pub named : length s.outputs + length s.clocks ≤ size

-- ---- results

pub bind_fine : {A B : Type 0} (r : Result A NetError) (f : A → Result B NetError) (P : A → Type 0) (Q : B → Type 0) → IfOk r P → ((x : A) → P x → IfOk (f x) Q) → IfOk (r >>= f) Q
bind_fine (Ok x) f P Q h next = next x h
bind_fine (Err e) f P Q h next = tt

-- ---- words

pub record AreShort (ws : List (List ℕ)) : Type 0 where
  pub each : All (λ (w : List ℕ). length w ≤ most_name_bytes) ws

pub short_cons : (w : List ℕ) (ws : List (List ℕ)) → AreShort (w ∷ ws) → (length w ≤ most_name_bytes) × AreShort ws
short_cons w ws h = (h.each 0 [] (omega arith), record { each = λ k d low. h.each (suc k) d (omega arith) })

either_false : (a b : Bool) → (a || b) ≡ false → (a ≡ false) × (b ≡ false)
either_false true b e = absurd cc
either_false false b e = (refl, e)

long_cases : (w : List ℕ) (ws : List (List ℕ)) → has_long (w ∷ ws) ≡ false → (length w ≤ most_name_bytes) × (has_long ws ≡ false)
unfolding has_long
long_cases w ws e = let c = either_false (nat_lt most_name_bytes (length w)) (list_any is_long_word ws) e in (ltb-false most_name_bytes (length w) c.0, c.1)

pub short_words : (ws : List (List ℕ)) → has_long ws ≡ false → AreShort ws
short_words [] e = record { each = All-nil (λ (w : List ℕ). length w ≤ most_name_bytes) }
short_words (w ∷ ws) e = let c = long_cases w ws e in record { each = All-cons (λ (w : List ℕ). length w ≤ most_name_bytes) w ws c.0 (short_words ws c.1).each }

-- ---- the state

pub nothing_said : IsSaid nothing 0
unfolding is_name times
nothing_said = record {
  model = record { spelled = refl; short = omega arith };
  inputs = All-nil IsName;
  outputs = All-nil IsName;
  clocks = All-nil IsName;
  latches = All-nil IsLatchLine;
  tables = All-nil IsCubeTable;
  current = All-nil IsCubeTable;
  driven = λ n. refl;
  used = λ n. refl;
  controls = refl;
  small = omega arith;
  named = omega arith;
}

pub closed_said : (s : Said) (size : ℕ) → IsSaid s size → IsSaid (closed s) size
closed_said s size is =
    let same : tables_of (closed s) ≡ tables_of s = append-nil (s.tables ++ option_to_list s.current) in
    record {
      model = is.model;
      inputs = is.inputs;
      outputs = is.outputs;
      clocks = is.clocks;
      latches = is.latches;
      tables = All-append IsCubeTable s.tables (option_to_list s.current) is.tables is.current;
      current = All-nil IsCubeTable;
      driven = λ n. is.driven n ∙ ap (λ (ts : List Table). times n s.inputs + times n (map latch_output (map latch_of s.latches)) + times n (map table_output ts)) (sym same);
      used = λ n. is.used n ∙ ap (λ (ts : List Table). times n (flat_map table_inputs ts) + times n (map latch_input s.latches)) (sym same);
      controls = is.controls;
      small = subst (λ (ts : List Table). 2 * (length s.inputs + length s.latches) + sum_by table_size ts ≤ size) (sym same) is.small;
      named = is.named;
    }

-- the state of a prefix is within the size of a longer text
pub said_more : (s : Said) (size more : ℕ) → size ≤ more → IsSaid s size → IsSaid s more
said_more s size more h is = record {
  model = is.model;
  inputs = is.inputs;
  outputs = is.outputs;
  clocks = is.clocks;
  latches = is.latches;
  tables = is.tables;
  current = is.current;
  driven = is.driven;
  used = is.used;
  controls =
      is.controls;
  small = omega (arith, is.small, h);
  named = omega (arith, is.named, h);
}

pub with_inputs_said : (s : Said) (size more : ℕ) (ws : List Name) → IsSaid s size → All IsName ws →
    size + 2 * length ws ≤ more → IsSaid (record s { inputs = s.inputs ++ ws; driven = s.driven ++ ws }) more
with_inputs_said s size more ws is names h = record {
  model = is.model;
  inputs = All-append IsName s.inputs ws is.inputs names;
  outputs = is.outputs;
  clocks = is.clocks;
  latches = is.latches;
  tables = is.tables;
  current = is.current;
  driven = λ n. omega (arith, times-append n s.driven ws, times-append n s.inputs ws, is.driven n);
  used = is.used;
  controls = is.controls;
  small = omega (arith, is.small, h, length-append s.inputs ws);
  named = omega (arith, is.named, h);
}

pub with_outputs_said : (s : Said) (size more : ℕ) (ws : List Name) → IsSaid s size → All IsName ws → size + length ws ≤ more → IsSaid (record s { outputs = s.outputs ++ ws }) more
with_outputs_said s size more ws is names h = record {
  model = is.model;
  inputs = is.inputs;
  outputs = All-append IsName s.outputs ws is.outputs names;
  clocks = is.clocks;
  latches = is.latches;
  tables =
      is.tables;
  current = is.current;
  driven = is.driven;
  used = is.used;
  controls = is.controls;
  small =
      omega (arith, is.small, h);
  named = omega (arith, is.named, h, length-append s.outputs ws);
}

pub with_clocks_said : (s : Said) (size more : ℕ) (ws : List Name) → IsSaid s size → All IsName ws → size + length ws ≤ more → IsSaid (record s { clocks = s.clocks ++ ws }) more
with_clocks_said s size more ws is names h = record {
  model = is.model;
  inputs = is.inputs;
  outputs = is.outputs;
  clocks = All-append IsName s.clocks ws is.clocks names;
  latches = is.latches;
  tables = is.tables;
  current =
      is.current;
  driven = is.driven;
  used = is.used;
  controls = is.controls;
  small = omega (arith, is.small, h);
  named =
      omega (arith, is.named, h, length-append s.clocks ws);
}

pub with_model_said : (s : Said) (size : ℕ) (w : Name) → IsSaid s size → IsName w → IsSaid (record s { model = w; has_model = true }) size
with_model_said s size w is name = record {
  model = name;
  inputs = is.inputs;
  outputs = is.outputs;
  clocks = is.clocks;
  latches = is.latches;
  tables = is.tables;
  current = is.current;
  driven = is.driven;
  used = is.used;
  controls =
      is.controls;
  small = is.small;
  named = is.named;
}

pub with_flags_said : (s : Said) (size : ℕ) (has ended : Bool) → IsSaid s size → IsSaid (record s { has_model = has; is_ended = ended }) size
with_flags_said s size has ended is = record {
  model = is.model;
  inputs = is.inputs;
  outputs = is.outputs;
  clocks = is.clocks;
  latches = is.latches;
  tables = is.tables;
  current = is.current;
  driven = is.driven;
  used =
      is.used;
  controls = is.controls;
  small = is.small;
  named = is.named;
}

outputs_push : (n : Name) (ts : List Table) (t : Table) → times n (map table_output (ts ++ t ∷ [])) ≡ times n (map table_output ts) + times n (t.output ∷ [])
outputs_push n ts t = ap (times n) (map-append table_output ts (t ∷ [])) ∙ times-append n (map table_output ts) (t.output ∷ [])

inputs_push : (n : Name) (ts : List Table) (t : Table) → times n (flat_map table_inputs (ts ++ t ∷ [])) ≡ times n (flat_map table_inputs ts) + times n t.inputs
inputs_push n ts t =
    ap (times n) (flat_map-append table_inputs ts (t ∷ []) ∙ ap (λ (xs : List Name). flat_map table_inputs ts ++ xs) (append-nil t.inputs))
    ∙ times-append n (flat_map table_inputs ts) t.inputs

sizes_push : (ts : List Table) (t : Table) → sum_by table_size (ts ++ t ∷ []) ≡ sum_by table_size ts + table_size t
sizes_push ts t = omega (arith, sum_by-append table_size ts (t ∷ []), sum_by-cons table_size t [])

pub tables_none : (s : Said) → s.current ≡ None → tables_of s ≡ s.tables
tables_none s none = ap (λ (c : Option Table). s.tables ++ option_to_list c) none ∙ append-nil s.tables

tables_some : (s : Said) (t : Table) → s.current ≡ Some t → tables_of s ≡ s.tables ++ t ∷ []
tables_some s t some = ap (λ (c : Option Table). s.tables ++ option_to_list c) some

pub with_table_said : (s : Said) (size more : ℕ) (t : Table) → IsSaid s size → s.current ≡ None → IsCubeTable t → table_size t ≡ 1 → size + 1 ≤ more → IsSaid (with_table s t) more
with_table_said s size more t is none table one h =
    let old : tables_of s ≡ s.tables = tables_none s none in
    record {
      model = is.model;
      inputs = is.inputs;
      outputs = is.outputs;
      clocks = is.clocks;
      latches = is.latches;
      tables = is.tables;
      current = All-cons IsCubeTable t [] table (All-nil IsCubeTable);
      driven = λ n. omega (arith, times-append n s.driven (t.output ∷ []), is.driven n, outputs_push n s.tables t, ap (λ (ts : List Table). times n (map table_output ts)) old);
      used = λ n. omega (arith, times-append n s.used t.inputs, is.used n, inputs_push n s.tables t, ap (λ (ts : List Table). times n (flat_map table_inputs ts)) old);
      controls = is.controls;
      small = omega (arith, is.small, h, one, sizes_push s.tables t, ap (λ (ts : List Table). sum_by table_size ts) old);
      named = omega (arith, is.named, h);
    }

pub with_row_said : (s : Said) (size more : ℕ) (t u : Table) → IsSaid s size → s.current ≡ Some t → IsCubeTable u →
    u.inputs ≡ t.inputs → u.output ≡ t.output → size ≤ more → size + table_size u ≤ more + table_size t →
    IsSaid (record s { current = Some u }) more
with_row_said s size more t u is some table inputs output low h =
    let old : tables_of s ≡ s.tables ++ t ∷ [] = tables_some s t some in
    record {
      model = is.model;
      inputs = is.inputs;
      outputs = is.outputs;
      clocks = is.clocks;
      latches = is.latches;
      tables = is.tables;
      current = All-cons IsCubeTable u [] table (All-nil IsCubeTable);
      driven = λ n. omega (
        arith,
        is.driven n,
        outputs_push n s.tables t,
        outputs_push n s.tables u,
        ap (λ (ts : List Table). times n (map table_output ts)) old,
        ap (λ (o : Name). times n (o ∷ [])) output,
      );
      used = λ n. omega (
        arith,
        is.used n,
        inputs_push n s.tables t,
        inputs_push n s.tables u,
        ap (λ (ts : List Table). times n (flat_map table_inputs ts)) old,
        ap (λ (is : List Name). times n is) inputs,
      );
      controls = is.controls;
      small = omega (arith, is.small, h, sizes_push s.tables t, sizes_push s.tables u, ap (λ (ts : List Table). sum_by table_size ts) old);
      named = omega (arith, is.named, low);
    }

control_push : (line : ℕ) (c : Option (Trigger × Name)) → map control_name (control_at line c) ≡ cons_option (option_map second_of c) []
control_push line None = refl
control_push line (Some c) = refl

pub with_latch_said : (s : Said) (size more line : ℕ) (l : LatchLine) → IsSaid s size → IsLatchLine l → size + 2 ≤ more → IsSaid (with_latch line s l) more
with_latch_said s size more line l is latch h =
    let latches : map latch_of (s.latches ++ l ∷ []) ≡ map latch_of s.latches ++ l.latch ∷ [] = map-append latch_of s.latches (l ∷ []) in
    record {
      model = is.model;
      inputs = is.inputs;
      outputs = is.outputs;
      clocks = is.clocks;
      latches = All-push IsLatchLine s.latches l is.latches latch;
      tables = is.tables;
      current = is.current;
      driven = λ n.
          let outs : times n (map latch_output (map latch_of (s.latches ++ l ∷ []))) ≡
          times n (map latch_output (map latch_of s.latches)) + times n (l.latch.output ∷ []) =
          ap (λ (ls : List Latch). times n (map latch_output ls)) latches
          ∙ ap (times n) (map-append latch_output (map latch_of s.latches) (l.latch ∷ []))
          ∙ times-append n (map latch_output (map latch_of s.latches)) (l.latch.output ∷ []) in
          omega (arith, is.driven n, times-append n s.driven (l.latch.output ∷ []), outs);
      used = λ n.
          let ins : times n (map latch_input (s.latches ++ l ∷ [])) ≡ times n (map latch_input s.latches) + times n
          (l.input ∷ []) = ap (times n) (map-append latch_input s.latches (l ∷ []))
          ∙ times-append n (map latch_input s.latches) (l.input ∷ []) in
          omega (arith, is.used n, times-append n s.used (l.input ∷ []), ins);
      controls =
          map-append control_name s.controls (control_at line l.latch.control)
          ∙ ap (λ (ns : List Name). ns ++ map control_name (control_at line l.latch.control)) is.controls
          ∙ ap (λ (ns : List Name). filter_map control_of (map latch_of s.latches) ++ ns) (control_push line l.latch.control)
          ∙ sym (filter_map-append control_of (map latch_of s.latches) (l.latch ∷ []))
          ∙ ap (filter_map control_of) (sym latches);
      small = omega (arith, is.small, h, length-append s.latches (l ∷ []));
      named = omega (arith, is.named, h);
    }
