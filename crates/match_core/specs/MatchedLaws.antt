-- A netlist in the order of another is well formed, if neither lacks a name of the other.
use Rattle.std.specs.Prelude.{◌≡◌, ℕ, suc, ◌+◌, Bool, true, false, ◌||◌, if◌then◌else◌, List, [], ◌∷◌, ◌++◌, map, All, slice_get, Option, Some, None, refl, ◌↔◌}
use Rattle.std.specs.List.{filter_map, cons_option, flat_map}
use Rattle.std.proofs.Common.{arith, sym, ◌∙◌, ap, subst, ⊎_elim}
use Rattle.std.proofs.lemmas.Bool.{cond-true, cond-false, cases_Bool, both_ways}
use Rattle.std.proofs.lemmas.List.Elements.{All-cons}
use Rattle.std.proofs.lemmas.Grind.{common_steps}
use Rattle.net_theory.specs.Document.{Name, is_same, has, are_distinct, Latch, LatchLine, Document, latch_of, latch_output, latch_input, table_output, table_inputs, source_names, sink_names, driven_names, used_names}
use Rattle.net_theory.specs.NameLaws.{same_name, name_same, has_first, has_later, has_cases, has_none, has_append, has_left, has_right, has_either, has_all, all_has, has_map_at, has_map_index, all_at, distinct_left, distinct_right, distinct_apart, append_distinct}
use Rattle.net_theory.specs.Naming.{each_once}
use Rattle.net_theory.specs.Cost.{cost}
use Rattle.net_theory.specs.Dependence.{DependsOn, at_once, by_way_of}
use Rattle.net_theory.specs.WellFormed.{IsLatchLine, IsFreeOf, IsWellFormed}
use Rattle.net_document.specs.Refusals.{missing}
use Rattle.net_document.specs.OnceLaws.{has_all_once}
use Rattle.net_document.specs.TimesLaws.{missing_driven}
use Rattle.match_core.specs.declared.lacking.NameKind.{NameKind}
use Rattle.match_core.specs.declared.lacking.NameKind.TheVariants as kinds
use Rattle.match_core.specs.declared.lacking.Lack.{Lack}
use Rattle.match_core.specs.Matched.{HaveSameNames, latch_names, ShareNames, line_named, matched}
use Rattle.match_core.specs.Lacks.{lacks, or_else, lack_among, lack_of}

-- ---- names that are missing

missing_none : (driven ns : List Name) → ((n : Name) → has ns n ≡ true → has driven n ≡ true) → missing driven ns ≡ None
unfolding missing
missing_none driven [] each = refl
missing_none driven (n ∷ ns) each =
    cond-true (has driven n) _ _ (each n (has_first n ns)) ∙ missing_none driven ns (λ m there. each m (has_later n ns m there))

missing_same : (xs ys ns : List Name) → ((n : Name) → has xs n ≡ has ys n) → missing xs ns ≡ missing ys ns
unfolding missing
missing_same xs ys [] same = refl
missing_same xs ys (n ∷ ns) same =
    ap (λ (b : Bool). if b then missing xs ns else Some n) (same n)
    ∙ ap (λ (r : Option Name). if has ys n then r else Some n) (missing_same xs ys ns same)

pub missing_once : (keys others ns : List Name) (r : Option Name) → keys ≡ each_once [] others → r ≡ missing keys ns →
    r ≡ missing others ns
missing_once keys others ns r e found =
    found ∙ missing_same keys others ns (λ n. ap (λ (ks : List Name). has ks n) e ∙ has_all_once others n)

pub ruleset lacking = (common_steps, missing_once)

bool_same : (a b : Bool) → (a ≡ true → b ≡ true) → (b ≡ true → a ≡ true) → a ≡ b
bool_same true b there back = sym (there refl)
bool_same false true there back = back refl
bool_same false false there back = refl

-- two lists have the same names exactly if nothing is missing
names_same : (kind : NameKind) (xs ys : List Name) → lack_among kind xs ys ≡ None → HaveSameNames xs ys
names_same kind xs ys none n = parted (missing ys xs) (missing xs ys) refl refl none where
  parted : (a b : Option Name) → missing ys xs ≡ a → missing xs ys ≡ b → or_else (lacks true kind a) (lacks false kind b) ≡ None →
      has xs n ≡ has ys n
  parted None None first second e =
      bool_same (has xs n) (has ys n) (λ there. missing_driven ys xs n first there) (λ there. missing_driven xs ys n second there)
  parted None (Some m) first second e = absurd cc
  parted (Some m) b first second e = absurd cc

none_among : (kind : NameKind) (xs ys : List Name) → HaveSameNames xs ys → lack_among kind xs ys ≡ None
none_among kind xs ys same =
    ap (λ (r : Option Name). or_else (lacks true kind r) (lacks false kind (missing xs ys)))
    (missing_none ys xs (λ n there. sym (same n) ∙ there))
    ∙ ap (λ (r : Option Name). lacks false kind r) (missing_none xs ys (λ n there. same n ∙ there))

-- each part of a search without a result has none
or_none : (a b : Option Lack) → or_else a b ≡ None → (a ≡ None) × (b ≡ None)
or_none None b e = (refl, e)
or_none (Some l) b e = absurd cc

none_or : (a b : Option Lack) → a ≡ None → b ≡ None → or_else a b ≡ None
none_or a b x y = ap (λ (r : Option Lack). or_else r b) x ∙ y

pub shared : (d e : Document) → lack_of d e ≡ None → ShareNames d e
shared d e none =
    let one = or_none (lack_among kinds.Input d.inputs e.inputs)
    (or_else (lack_among kinds.Output d.outputs e.outputs) (lack_among kinds.Latch (latch_names d) (latch_names e))) none in
    let two = or_none (lack_among kinds.Output d.outputs e.outputs) (lack_among kinds.Latch (latch_names d) (latch_names e)) one.1 in
    record {
      inputs = names_same kinds.Input d.inputs e.inputs one.0;
      outputs = names_same kinds.Output d.outputs e.outputs two.0;
      latches = names_same kinds.Latch (latch_names d) (latch_names e) two.1;
    }

pub none_lacks : (d e : Document) → (lack_of d e ≡ None) ↔ ShareNames d e
none_lacks d e = (
  shared d e,
  λ share.
      none_or (lack_among kinds.Input d.inputs e.inputs)
      (or_else (lack_among kinds.Output d.outputs e.outputs) (lack_among kinds.Latch (latch_names d) (latch_names e)))
      (none_among kinds.Input d.inputs e.inputs share.inputs)
      (none_or (lack_among kinds.Output d.outputs e.outputs) (lack_among kinds.Latch (latch_names d) (latch_names e))
      (none_among kinds.Output d.outputs e.outputs share.outputs)
      (none_among kinds.Latch (latch_names d) (latch_names e) share.latches)),
)

-- ---- latches by name

abbrev pub names_of : List LatchLine → List Name
names_of ls = map latch_output (map latch_of ls)

-- the latch of a name that is there
pub record IsFound (ls : List LatchLine) (n : Name) (l : LatchLine) : Type 0 where
  pub is : line_named ls n ≡ Some l
  pub output : l.latch.output ≡ n
  pub place : ℕ
  pub at : slice_get ls place ≡ Some l

pub line_found : (ls : List LatchLine) (n : Name) → has (names_of ls) n ≡ true → (l : LatchLine) × IsFound ls n l
unfolding line_named
line_found [] n there = absurd (has_none n there)
line_found (l ∷ ls) n there =
    ⊎_elim
    (λ (same : is_same l.latch.output n ≡ true). (
      l,
      record {
        is = cond-true (is_same l.latch.output n) (Some l) (line_named ls n) same;
        output = same_name l.latch.output n same;
        place = 0;
        at = refl;
      },
    ))
    (λ (other : is_same l.latch.output n ≡ false).
    let rest = line_found ls n (later l.latch.output (names_of ls) other there) in (
      rest.0,
      record {
        is = cond-false (is_same l.latch.output n) (Some l) (line_named ls n) other ∙ rest.1.is;
        output = rest.1.output;
        place = suc rest.1.place;
        at = rest.1.at;
      },
    ))
    (cases_Bool (is_same l.latch.output n)) where
      later : (m : Name) (ms : List Name) → is_same m n ≡ false → has (m ∷ ms) n ≡ true → has ms n ≡ true
      later m ms other there = ⊎_elim
          (λ (same : n ≡ m). absurd (both_ways (is_same m n) other (name_same m n (sym same))))
          (λ rest. rest) (has_cases m ms n there)

-- latches in the order of names that are there
abbrev pub picked : List LatchLine → List Name → List LatchLine
picked ls names = filter_map (line_named ls) names

picked_more : (ls : List LatchLine) (n : Name) (ns : List Name) (l : LatchLine) → line_named ls n ≡ Some l →
    picked ls (n ∷ ns) ≡ l ∷ picked ls ns
picked_more ls n ns l is = ap (λ (r : Option LatchLine). cons_option r (picked ls ns)) is

pub picked_names : (ls : List LatchLine) (names : List Name) → ((n : Name) → has names n ≡ true → has (names_of ls) n ≡ true) →
    names_of (picked ls names) ≡ names
picked_names ls [] each = refl
picked_names ls (n ∷ ns) each =
    let found = line_found ls n (each n (has_first n ns)) in
    ap names_of (picked_more ls n ns found.0 found.1.is)
    ∙ ap (λ (m : Name). m ∷ names_of (picked ls ns)) found.1.output
    ∙ ap (λ (ms : List Name). n ∷ ms) (picked_names ls ns (λ m there. each m (has_later n ns m there)))

-- what holds of all latches holds of those
pub picked_all : (P : LatchLine → Type 0) (ls : List LatchLine) (names : List Name) →
    ((n : Name) → has names n ≡ true → has (names_of ls) n ≡ true) → All P ls → All P (picked ls names)
picked_all P ls [] each all = λ k d low. absurd (omega (arith, low))
picked_all P ls (n ∷ ns) each all =
    let found = line_found ls n (each n (has_first n ns)) in
    subst (λ (xs : List LatchLine). All P xs) (sym (picked_more ls n ns found.0 found.1.is))
    (All-cons P found.0 (picked ls ns) (all_at P ls found.1.place found.0 all found.1.at)
    (picked_all P ls ns (λ m there. each m (has_later n ns m there)) all))

-- ---- the names of the document

there : (d e : Document) → ShareNames d e → (n : Name) → has (latch_names d) n ≡ true → has (names_of e.latches) n ≡ true
there d e share n is = sym (share.latches n) ∙ is

pub matched_names : (d e : Document) → ShareNames d e → latch_names (matched d e) ≡ latch_names d
matched_names d e share = picked_names e.latches (latch_names d) (there d e share)

pub matched_sources : (d e : Document) → ShareNames d e → source_names (matched d e) ≡ source_names d
matched_sources d e share = ap (λ (ns : List Name). d.inputs ++ ns) (matched_names d e share)

pub sources_same : (d e : Document) → ShareNames d e → (n : Name) → has (source_names d) n ≡ has (source_names e) n
sources_same d e share n =
    has_append d.inputs (latch_names d) n
    ∙ ap (λ (b : Bool). b || has (latch_names d) n) (share.inputs n)
    ∙ ap (λ (b : Bool). has e.inputs n || b) (share.latches n)
    ∙ sym (has_append e.inputs (latch_names e) n)

pub matched_same : (d e : Document) → ShareNames d e → (n : Name) → has (source_names (matched d e)) n ≡ has (source_names e) n
matched_same d e share n = ap (λ (ns : List Name). has ns n) (matched_sources d e share) ∙ sources_same d e share n

pub driven_same : (d e : Document) → ShareNames d e → (n : Name) → has (driven_names (matched d e)) n ≡ has (driven_names e) n
driven_same d e share n =
    has_append (source_names (matched d e)) (map table_output e.tables) n
    ∙ ap (λ (b : Bool). b || has (map table_output e.tables) n) (matched_same d e share n)
    ∙ sym (has_append (source_names e) (map table_output e.tables) n)

-- ---- it is well formed

driven_once : (d e : Document) → IsWellFormed d → IsWellFormed e → ShareNames d e → are_distinct (driven_names (matched d e)) ≡ true
driven_once d e one other share =
    append_distinct (source_names (matched d e)) (map table_output e.tables)
    (subst (λ (ns : List Name). are_distinct ns ≡ true) (sym (matched_sources d e share))
    (distinct_left (source_names d) (map table_output d.tables) one.driven_once))
    (distinct_right (source_names e) (map table_output e.tables) other.driven_once)
    (λ n is. distinct_apart (source_names e) (map table_output e.tables) n other.driven_once (sym (matched_same d e share n) ∙ is))

-- a used name of the netlist is driven in the other order
driven : (d e : Document) → IsWellFormed e → ShareNames d e → (n : Name) → has (used_names e) n ≡ true →
    has (driven_names (matched d e)) n ≡ true
driven d e other share n used =
    driven_same d e share n ∙ all_has (λ (m : Name). has (driven_names e) m ≡ true) (used_names e) n other.used_driven used

latch_used : (e : Document) (k : ℕ) (l : LatchLine) → slice_get e.latches k ≡ Some l → has (used_names e) l.input ≡ true
latch_used e k l at =
    has_right (flat_map table_inputs e.tables) (sink_names e) l.input
    (has_right e.outputs (map latch_input e.latches) l.input (has_map_at latch_input e.latches k l at))

inputs_driven : (d e : Document) → IsWellFormed e → ShareNames d e →
    All (λ (l : LatchLine). has (driven_names (matched d e)) l.input ≡ true) (matched d e).latches
inputs_driven d e other share =
    picked_all (λ (l : LatchLine). has (driven_names (matched d e)) l.input ≡ true) e.latches (latch_names d) (there d e share)
    (each e.latches (λ k l at. driven d e other share l.input (latch_used e k l at))) where
      each : (ls : List LatchLine) → ((k : ℕ) (l : LatchLine) → slice_get ls k ≡ Some l → has (driven_names (matched d e)) l.input ≡ true) →
          All (λ (l : LatchLine). has (driven_names (matched d e)) l.input ≡ true) ls
      each [] all = λ k x low. absurd (omega (arith, low))
      each (l ∷ ls) all = All-cons (λ (m : LatchLine). has (driven_names (matched d e)) m.input ≡ true) l ls (all 0 l refl)
          (each ls (λ k m at. all (suc k) m at))

used_driven : (d e : Document) → IsWellFormed e → ShareNames d e → (n : Name) → has (used_names (matched d e)) n ≡ true →
    has (driven_names (matched d e)) n ≡ true
used_driven d e other share n used =
    ⊎_elim
    (λ (read : has (flat_map table_inputs e.tables) n ≡ true). driven d e other share n
    (has_left (flat_map table_inputs e.tables) (sink_names e) n read))
    (λ (sink : has (sink_names (matched d e)) n ≡ true). ⊎_elim
    (λ (output : has d.outputs n ≡ true). driven d e other share n
    (has_right (flat_map table_inputs e.tables) (sink_names e) n
    (has_left e.outputs (map latch_input e.latches) n (sym (share.outputs n) ∙ output))))
    (λ (next : has (map latch_input (matched d e).latches) n ≡ true).
    let found = has_map_index latch_input (matched d e).latches n next in
    subst (λ (m : Name). has (driven_names (matched d e)) m ≡ true) found.3
    (all_at (λ (l : LatchLine). has (driven_names (matched d e)) l.input ≡ true) (matched d e).latches found.0 found.1
    (inputs_driven d e other share) found.2))
    (has_either d.outputs (map latch_input (matched d e).latches) n sink))
    (has_either (flat_map table_inputs e.tables) (sink_names (matched d e)) n used)

cost_same : (d e : Document) → cost (matched d e) ≡ cost e
unfolding cost
cost_same d e = refl

depends : (d e : Document) (i j : ℕ) → DependsOn (matched d e) i j → DependsOn e i j
depends d e _ _ (at_once i j r) = at_once i j (record {
  reader = r.reader;
  is_reader = r.is_reader;
  driver = r.driver;
  is_driver = r.is_driver;
  read = r.read;
})
depends d e _ _ (by_way_of i j k r more) = by_way_of i j k (record {
  reader = r.reader;
  is_reader = r.is_reader;
  driver = r.driver;
  is_driver = r.is_driver;
  read = r.read;
}) (depends d e j k more)

pub matched_well : (d e : Document) → IsWellFormed d → IsWellFormed e → ShareNames d e → IsWellFormed (matched d e)
matched_well d e one other share = record {
  model = other.model;
  inputs = one.inputs;
  outputs = one.outputs;
  clocks = other.clocks;
  latches = picked_all (λ (l : LatchLine). IsLatchLine l) e.latches (latch_names d) (there d e share) other.latches;
  tables = other.tables;
  controls = picked_all (λ (l : LatchLine). IsFreeOf (map table_output e.tables) l.latch.control) e.latches (latch_names d)
      (there d e share) other.controls;
  gates = omega (arith, cost_same d e, other.gates);
  driven_once = driven_once d e one other share;
  used_driven = has_all (λ (n : Name). has (driven_names (matched d e)) n ≡ true) (used_names (matched d e)) (used_driven d e other share);
  acyclic = λ i loop. other.acyclic i (depends d e i i loop);
}
