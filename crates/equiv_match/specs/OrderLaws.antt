-- A netlist in the order of a circuit.
use Rattle.std.specs.Prelude.{◌≡◌, ℕ, ◌+◌, ◌*◌, ◌≤◌, ◌<◌, ◌^◌, List, length, map, Result, Ok}
use Rattle.std.proofs.Common.{arith, ap, sym, ◌∙◌, subst, refl, length-append}
use Rattle.std.proofs.lemmas.List.{length-map}
use Rattle.std.proofs.lemmas.Grind.{common_steps}
use Rattle.net_theory.specs.Limits.{most_of_two}
use Rattle.net_theory.specs.Document.{Name, Latch, Document, latches_of, latch_of, latch_output}
use Rattle.net_theory.specs.WellFormed.{IsWellFormed}
use Rattle.net_theory.specs.Cost.{cost}
use Rattle.net_theory.specs.NetOf.{source_count}
use Rattle.net_theory.specs.Circuit.{Circuit, Describes, IsCircuitOf}
use Rattle.net_core.specs.declared.error.NetError.{NetError}
use Rattle.net_document.specs.Listed.{Listed, IsWellListed, AreControlsFree}
use Rattle.net_document.specs.Format.{IsCircuitOfText}
use Rattle.net_formats.specs.Formats.{format_of}
use Rattle.net_formats.specs.FormatLaws.{texts_few}
use Rattle.format_names.specs.declared.formats.NetFormat.{NetFormat}
use Rattle.match_core.specs.Matched.{ShareNames, ordered, matched, latch_names}
use Rattle.match_core.specs.MatchedLaws.{matched_sources}
use Rattle.match_core.specs.ListedLaws.{read_names, arranged_well, arranged_free}

-- the netlist in the order of a circuit
abbrev pub ordered_in : Circuit → Document → Document
ordered_in c e = ordered c.inputs c.outputs (map latch_output c.latches) e

-- that of the circuit's document
pub ordered_is : (d e : Document) (c : Circuit) → Describes d c → ordered_in c e ≡ matched d e
ordered_is d e c is =
    ap (λ (ns : List Name). ordered ns c.outputs (map latch_output c.latches) e) (sym is.inputs)
    ∙ ap (λ (ns : List Name). ordered d.inputs ns (map latch_output c.latches) e) (sym is.outputs)
    ∙ ap (λ (ls : List Latch). ordered d.inputs d.outputs (map latch_output ls) e) (sym is.latches)

-- Each listing of the netlist in this order is well listed, and small enough to be elaborated.
pub record CanOrder (c : Circuit) (e : Document) : Type 0 where
  pub listed : (l m : Listed) → IsWellListed l → l.document ≡ e → m.document ≡ ordered_in c e → m.driven ≡ l.driven →
      m.used ≡ read_names m.document → IsWellListed m
  pub free : (m : Listed) → m.document ≡ ordered_in c e → AreControlsFree m.document
  pub small : 2 * source_count (ordered_in c e) + cost (ordered_in c e) < 2 ^ 31

latches_fit : (d : Document) → length d.latches ≤ source_count d
latches_fit d =
    let names = length-append d.inputs (latch_names d) in
    let one = length-map (latches_of d) latch_output in
    let two = length-map d.latches latch_of in
    omega (arith, names, one, two)

-- what the calls require
pub latches_few : (l : Listed) → 2 * source_count l.document + cost l.document < 2 ^ 31 → length l.document.latches < 2 ^ 31
latches_few l small = omega (arith, small, latches_fit l.document)

pub well_arranged : (c : Circuit) (r : Result Listed NetError) (l m : Listed) → r ≡ Ok l →
    ((k : Listed) → r ≡ Ok k → CanOrder c k.document) → IsWellListed l → m.document ≡ ordered_in c l.document →
    m.driven ≡ l.driven → m.used ≡ read_names m.document → IsWellListed m
well_arranged c r l m said ready is document driven used = (ready l said).listed l m is refl document driven used

pub free_arranged : (c : Circuit) (r : Result Listed NetError) (l m : Listed) → r ≡ Ok l →
    ((k : Listed) → r ≡ Ok k → CanOrder c k.document) → m.document ≡ ordered_in c l.document → AreControlsFree m.document
free_arranged c r l m said ready document = (ready l said).free m document

pub small_arranged : (c : Circuit) (r : Result Listed NetError) (l m : Listed) → r ≡ Ok l →
    ((k : Listed) → r ≡ Ok k → CanOrder c k.document) → m.document ≡ ordered_in c l.document →
    2 * source_count m.document + cost m.document < 2 ^ 31
small_arranged c r l m said ready document =
    subst (λ (d : Document). 2 * source_count d + cost d < 2 ^ 31) (sym document) (ready l said).small

pub few_arranged : (c : Circuit) (l m : Listed) → m.document ≡ ordered_in c l.document → length l.document.tables < 2 ^ 31 →
    length m.document.tables < 2 ^ 31
few_arranged c l m document few = subst (λ (d : Document). length d.tables < 2 ^ 31) (sym document) few

ok_one : (r : Result Listed NetError) (k l : Listed) → r ≡ Ok k → r ≡ Ok l → k ≡ l
ok_one r k l x y = cc

pub circuit_arranged : (c k : Circuit) (r : Result Listed NetError) (l m : Listed) → r ≡ Ok l → m.document ≡ ordered_in c l.document →
    IsCircuitOf m.document k → (n : Listed) → r ≡ Ok n → IsCircuitOf (ordered_in c n.document) k
circuit_arranged c k r l m said document is n other =
    subst (λ (x : Listed). IsCircuitOf (ordered_in c x.document) k) (ok_one r l n said other)
    (subst (λ (d : Document). IsCircuitOf d k) document is)

pub ruleset ordering = (common_steps, latches_few, well_arranged, free_arranged, small_arranged, few_arranged, circuit_arranged)

-- ---- where it can be ordered

same_cost : (d e : Document) → cost (matched d e) ≡ cost e
unfolding cost
same_cost d e = refl

matched_small : (format : NetFormat) (bytes : List ℕ) (l : Listed) (e : Document) → (format_of format).listed bytes ≡ Ok l →
    length bytes ≤ most_of_two → IsWellFormed e → ShareNames l.document e →
    2 * source_count (matched l.document e) + cost (matched l.document e) < 2 ^ 31
matched_small format bytes l e said short well share =
    let few = texts_few format bytes l said short in
    let sources : source_count (matched l.document e) ≡ source_count l.document = ap length (matched_sources l.document e share) in
    omega (arith, few.sources, sources, same_cost l.document e, well.gates)

pub can_order : (format : NetFormat) (bytes : List ℕ) (c : Circuit) (e : Document) → length bytes ≤ most_of_two →
    (of : IsCircuitOfText (format_of format) bytes c) → IsWellFormed e → ShareNames of.listed.document e → CanOrder c e
can_order format bytes c e short of well share =
    let d = of.listed.document in
    let is : ordered_in c e ≡ matched d e = ordered_is d e c of.circuit.describes in
    record {
      listed = λ l m good from document driven used.
          arranged_well d e l m of.well well share good from (document ∙ is) driven used;
      free = λ m document. arranged_free d e m of.well well share (document ∙ is);
      small = subst (λ (x : Document). 2 * source_count x + cost x < 2 ^ 31) (sym is)
          (matched_small format bytes of.listed e of.said short well share);
    }
