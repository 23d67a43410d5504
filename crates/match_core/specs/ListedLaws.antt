-- What a text lists, in the order of another netlist.
use Rattle.std.specs.Prelude.{◌≡◌, ℕ, ◌+◌, true, false, if◌then◌else◌, List, [], ◌∷◌, ◌++◌, map, Option, Some, None}
use Rattle.std.specs.List.{flat_map}
use Rattle.std.proofs.Common.{arith, sym, ◌∙◌, ap, subst, ⊎_elim}
use Rattle.std.proofs.lemmas.Bool.{cases_Bool}
use Rattle.net_theory.specs.Document.{Name, is_same, has, are_distinct, LatchLine, Document, latch_input, table_inputs, sink_names, driven_names, used_names}
use Rattle.net_theory.specs.WellFormed.{IsWellFormed}
use Rattle.net_document.specs.Listed.{Listed, IsWellListed, AreControlsFree, times}
use Rattle.net_document.specs.TimesLaws.{times-append, times_missing, has_times, distinct_times}
use Rattle.match_core.specs.Matched.{ShareNames, matched}
use Rattle.match_core.specs.MatchedLaws.{driven_same, matched_well}

-- ---- the places of latches

-- the place of the first latch with this name
unfoldable pub place_from : ℕ → List LatchLine → Name → Option ℕ
place_from place [] n = None
place_from place (l ∷ ls) n = if is_same l.latch.output n then Some place else place_from (place + 1) ls n

abbrev pub place_of : List LatchLine → Name → Option ℕ
place_of ls n = place_from 0 ls n

abbrev pub with_place : (Name → Option ℕ) → Name → ℕ → Name → Option ℕ
with_place places name place n = if is_same name n then Some place else places n

-- ---- names that are read

abbrev pub read_names : Document → List Name
read_names d = flat_map table_inputs d.tables ++ map latch_input d.latches

-- lists of different names with the same names have each name equally often
times_same : (xs ys : List Name) (n : Name) → are_distinct xs ≡ true → are_distinct ys ≡ true → has xs n ≡ has ys n →
    times n xs ≡ times n ys
times_same xs ys n one other same =
    ⊎_elim
    (λ (there : has xs n ≡ true). omega (
      arith,
      has_times xs n there,
      has_times ys n (sym same ∙ there),
      distinct_times xs n one,
      distinct_times ys n other,
    ))
    (λ (missing : has xs n ≡ false). times_missing xs n missing ∙ sym (times_missing ys n (sym same ∙ missing)))
    (cases_Bool (has xs n))

used_times : (d : Document) (n : Name) → times n (read_names d ++ d.outputs) ≡ times n (used_names d)
used_times d n =
    let one = times-append n (read_names d) d.outputs in
    let two = times-append n (flat_map table_inputs d.tables) (map latch_input d.latches) in
    let three = times-append n (flat_map table_inputs d.tables) (sink_names d) in
    let four = times-append n d.outputs (map latch_input d.latches) in
    omega (arith, one, two, three, four)

-- A listing of the second in the order of the first is well listed.
pub arranged_well : (d e : Document) (l m : Listed) → IsWellFormed d → IsWellFormed e → ShareNames d e → IsWellListed l →
    l.document ≡ e → m.document ≡ matched d e → m.driven ≡ l.driven → m.used ≡ read_names m.document → IsWellListed m
arranged_well d e l m one other share is from document driven used =
    let well : IsWellFormed m.document = subst (λ (x : Document). IsWellFormed x) (sym document) (matched_well d e one other share) in
    record {
      model = well.model;
      inputs = well.inputs;
      outputs = well.outputs;
      clocks = well.clocks;
      latches = well.latches;
      tables = well.tables;
      driven = λ n.
          ap (times n) driven
          ∙ is.driven n
          ∙ ap (λ (x : Document). times n (driven_names x)) from
          ∙ sym (times_same (driven_names (matched d e)) (driven_names e) n (matched_well d e one other share).driven_once
          other.driven_once (driven_same d e share n))
          ∙ ap (λ (x : Document). times n (driven_names x)) (sym document);
      used = λ n. ap (λ (ns : List Name). times n (ns ++ m.document.outputs)) used ∙ used_times m.document n;
    }

pub arranged_free : (d e : Document) (m : Listed) → IsWellFormed d → IsWellFormed e → ShareNames d e →
    m.document ≡ matched d e → AreControlsFree m.document
arranged_free d e m one other share document =
    subst (λ (x : Document). AreControlsFree x) (sym document) (matched_well d e one other share).controls
