-- The text of a writable circuit lists a document that describes the circuit.
use Rattle.std.proofs.Common.{◌≡◌, ◌<◌, ◌≤◌, true, List, [], ◌∷◌, ◌++◌, length, map, ap, ◌∙◌, sym, subst, arith, ⊎_elim}
use Rattle.std.specs.Prelude.{slice_index_or, All}
use Rattle.std.proofs.lemmas.List.Elements.{All-nil, All-cons, All-head, All-tail, All-append}
use Rattle.net_theory.specs.Document.{Name, has, Table, Latch, Document, latch_output, latches_of, source_names}
use Rattle.net_theory.specs.NameLaws.{has_first, all_has}
use Rattle.net_theory.specs.WellFormed.{IsWellFormed}
use Rattle.net_theory.specs.Cost.{cost}
use Rattle.net_theory.specs.Circuit.{Circuit, sources_of, Describes}
use Rattle.net_document.specs.Format.{IsTextOf, IsFormat}
use Rattle.net_document.specs.FormatLaws.{fault_none}
use Rattle.blif_core.specs.Written.{written}
use Rattle.blif_core.specs.Blif as blif
use Rattle.bench_text.specs.SaidLaws.{IsPlainName}
use Rattle.bench_core.specs.Gates.{first_source, as_gates, line_of, line_table}
use Rattle.bench_core.specs.Spelling.{circuit_text}
use Rattle.bench_core.specs.Bench.{bench_format}
use Rattle.bench_core.specs.Writable.{IsPlainState}
use Rattle.bench_laws.specs.Spelled.{IsPlainLine, IsBenchSpelling, IsWritable}
use Rattle.bench_laws.proofs.GateDocuments.{gates_well, gates_describe, gates_cost}
use Rattle.bench_laws.proofs.ReadBack.{read_back}
use Rattle.bench_laws.proofs.WrittenGates.{written_model, lines_plain, written_spelled, written_spell, no_tables}

has_prefix : (ns : List Name) → 0 < length ns → has ns (slice_index_or ns 0 []) ≡ true
has_prefix [] some = absurd (omega arith)
has_prefix (n ∷ ns) some = has_first n ns

states_plain : (ls : List Latch) → All IsPlainState ls → All IsPlainName (map latch_output ls)
states_plain [] all = All-nil IsPlainName
states_plain (l ∷ ls) all = All-cons IsPlainName l.output (map latch_output ls) (All-head IsPlainState l ls all).output (states_plain ls (All-tail IsPlainState l ls all))

source_there : (c : Circuit) → IsWritable c → 0 < c.net.sources → has (sources_of c) (first_source c) ≡ true
source_there c can some = has_prefix (sources_of c) (omega (arith, some, can.fits.proper.source_count))

source_plain : (c : Circuit) → IsWritable c → 0 < c.net.sources → IsPlainName (first_source c)
source_plain c can some = all_has IsPlainName (sources_of c) (first_source c)
    (All-append IsPlainName c.inputs (map latch_output c.latches) can.fits.inputs
    (states_plain c.latches can.fits.latches)) (source_there c can some)

pub interface_sources : (d : Document) (c : Circuit) → Describes d c → source_names d ≡ sources_of c
interface_sources d c is = ap (λ (ns : List Name). ns ++ map latch_output (latches_of d)) is.inputs ∙ ap (λ (ls : List Latch). c.inputs ++ map latch_output ls) is.latches

-- what the document `e` of gates must satisfy
record IsGood (c : Circuit) (d e : Document) : Type 0 where
  well : IsWellFormed e
  describes : Describes e c
  cheap : cost e ≤ length c.net.gates

text_by : (c : Circuit) → IsWritable c → IsBenchSpelling (first_source c) (written c) → IsGood c (written c) (as_gates (first_source c) (written c)) → IsTextOf bench_format (circuit_text c) c
text_by c can spelled good =
    let back = read_back (first_source c) (written c) spelled in
    let well : IsWellFormed back.listed.document = subst IsWellFormed (sym back.document) good.well in
    let cheap : cost back.listed.document ≤ length c.net.gates =
    subst (λ (x : Document). cost x ≤ length c.net.gates) (sym back.document) good.cheap in
    record {
      listed = back.listed;
      said = back.said;
      document = back.document;
      good = fault_none (length c.net.gates) back.listed back.is well cheap;
      well = well;
      model = ap (λ (x : Document). x.model) back.document ∙ written_model c;
      describes = subst (λ (x : Document). Describes x c) (sym back.document) good.describes;
      cheap = cheap;
    }

same_gates : (source : Name) (d : Document) → d.tables ≡ [] → as_gates source d ≡ d
same_gates source d e = ap (λ (ts : List Table). record {
  model = d.model;
  inputs = d.inputs;
  outputs = d.outputs;
  clocks = d.clocks;
  latches = d.latches;
  tables = ts;
}) (ap (map (λ t. line_table (line_of source t))) e ∙ sym e)

pub text_is : (c : Circuit) → IsFormat blif.blif_format blif.CanWriteBlif → IsWritable c → IsTextOf bench_format (circuit_text c) c
text_is c format can =
    let old = format.read_back c (can.fits.proper, can.room) in
    let d = written c in
    let source = first_source c in
    let well : IsWellFormed d = subst IsWellFormed old.document old.well in
    let describes : Describes d c = subst (λ (x : Document). Describes x c) old.document old.describes in
    let cheap : cost d ≤ length c.net.gates = subst (λ (x : Document). cost x ≤ length c.net.gates) old.document old.cheap in
    ⊎_elim
    (λ some.
    let there : has (source_names d) source ≡ true = subst (λ (ns : List Name). has ns source ≡ true) (sym (interface_sources d c describes)) (source_there c can some) in
    let spell = written_spell c can in
    text_by c can (written_spelled c source can (lines_plain c source can (source_plain c can some) well) well) (record {
      well = gates_well source d well spell there;
      describes = gates_describe source d c well spell there describes;
      cheap = omega (arith, cheap, gates_cost source d well spell there);
    }))
    (λ none.
    let empty : d.tables ≡ [] = no_tables c none.0 none.1 in
    let same = same_gates source d empty in
    text_by c can (written_spelled c source can (subst (All (λ (t : Table). IsPlainLine (line_of source t))) (sym empty) (All-nil (λ (t : Table). IsPlainLine (line_of source t)))) well) (record {
      well = subst IsWellFormed (sym same) well;
      describes = subst (λ (x : Document). Describes x c) (sym same) describes;
      cheap = subst (λ (x : Document). cost x ≤ length c.net.gates) (sym same) cheap;
    }))
    can.fits.source

pub cost_is : (c : Circuit) → IsFormat blif.blif_format blif.CanWriteBlif → IsWritable c → cost (as_gates (first_source c) (written c)) ≡ cost (written c)
cost_is c format can =
    let old = format.read_back c (can.fits.proper, can.room) in
    let d = written c in
    let well : IsWellFormed d = subst IsWellFormed old.document old.well in
    let describes : Describes d c = subst (λ (x : Document). Describes x c) old.document old.describes in
    ⊎_elim
    (λ some. gates_cost (first_source c) d well (written_spell c can) (subst (λ (ns : List Name). has ns (first_source c) ≡ true) (sym (interface_sources d c describes)) (source_there c can some)))
    (λ none. ap cost (same_gates (first_source c) d (no_tables c none.0 none.1)))
    can.fits.source
