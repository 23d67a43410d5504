-- AIGER satisfies `IsFormat`.
use Rattle.std.proofs.Common.{◌≡◌, ℕ, ◌+◌, ◌≤◌, true, List, [], ◌∷◌, ◌++◌, length, length-append, map, refl, ap, ◌∙◌, sym, subst, arith, ⊎_elim}
use Rattle.std.specs.Prelude.{All, slice_get, Result, Ok, Err}
use Rattle.std.proofs.lemmas.List.{length-map}
use Rattle.std.proofs.lemmas.List.Elements.{All-nil, All-cons, All-append}
use Rattle.net_theory.specs.Net.{Net}
use Rattle.net_theory.specs.Document.{Name, has, Latch, Document, latch_of, latch_output, latches_of, source_names}
use Rattle.net_theory.specs.NameLaws.{all_at, at_all}
use Rattle.net_theory.specs.WellFormed.{IsWellFormed}
use Rattle.net_theory.specs.Circuit.{Circuit, sources_of, Describes, IsCircuitOf}
use Rattle.net_theory.specs.Implements.{Implements}
use Rattle.net_theory.specs.ExchangeLaws.{with_net, exchanged_proper}
use Rattle.net_core.specs.Names.{HasRoomForNames}
use Rattle.net_core.specs.declared.error.NetError.{NetError}
use Rattle.net_document.specs.Listed.{Listed, IsWellListed}
use Rattle.net_document.specs.Format.{IsCircuitOfText, ListsWell, CanOperate, IsFormat, up_to}
use Rattle.aiger_text.specs.declared.file.AigLatch.{AigLatch}
use Rattle.aiger_text.specs.declared.file.Reset.{Reset}
use Rattle.aiger_text.specs.declared.file.Reset.TheVariants.{Zero, One, Undefined}
use Rattle.aiger_text.specs.File.{AigFile}
use Rattle.aiger_text.specs.FileLaws.{file_is}
use Rattle.aiger_text.specs.ListingLaws.{listed_is}
use Rattle.aiger_text.specs.Valid.{IsAig}
use Rattle.aiger_text.specs.Naming.{output_names, variable_names, name_at}
use Rattle.aiger_text.specs.Meaning.{Signals, signals_of, init_of, latch_line, document_of, listed_with}
use Rattle.aiger_text.specs.Statements as statements
use Rattle.aiger_core.specs.Aiger.{aiger_format}
use Rattle.aiger_core.specs.Written.{is_and_word}
use Rattle.aiger_laws.specs.Writable.{IsFreeName, HasReset, IsAndGate, CanWriteAiger}
use Rattle.aiger_laws.proofs.AndWords.{tables_ands, net_ands}
use Rattle.aiger_laws.proofs.KeptNames.{file_sources, sources_free, outputs_free, outputs_size}
use Rattle.aiger_laws.proofs.KeptOutputs.{meant, outputs_apart}
use Rattle.aiger_laws.proofs.TextLaws.{listed_document, list_in, AreReadBack, text_is}

-- ---- what a text lists

list_is : (r : Result AigFile NetError) (l : Listed) → ((f : AigFile) → r ≡ Ok f → IsAig f) → list_in r ≡ Ok l → IsWellListed l
list_is (Ok f) l is e = let same : listed_with (document_of f) ≡ l = cc in subst IsWellListed same (listed_is f (is f refl))
list_is (Err x) l is e = absurd cc

lists_well : ListsWell aiger_format
lists_well bytes l e = list_is (statements.file_of bytes) l (file_is bytes) e

-- the file of a text
list_cases : (r : Result AigFile NetError) (l : Listed) → list_in r ≡ Ok l → (f : AigFile) × (r ≡ Ok f) × (listed_with (document_of f) ≡ l)
list_cases (Ok f) l e = let same : listed_with (document_of f) ≡ l = cc in (f, refl, same)
list_cases (Err x) l e = absurd cc

-- ---- the circuit of a text can be written

init_low : (r : Reset) → init_of r ≤ 2
init_low Zero = omega arith
init_low One = omega arith
init_low Undefined = omega arith

latches_reset : (s : Signals) (ls : List AigLatch) → All HasReset (map latch_of (map (latch_line s) ls))
latches_reset s [] = All-nil HasReset
latches_reset s (l ∷ ls) =
    All-cons HasReset (latch_line s l).latch (map latch_of (map (latch_line s) ls)) (record { control = refl; init = init_of l.reset; is = refl; low = init_low l.reset })
    (latches_reset s ls)

document_sources : (d : Document) (c : Circuit) → Describes d c → source_names d ≡ sources_of c
document_sources d c is = ap (λ (ns : List Name). ns ++ map latch_output (latches_of d)) is.inputs ∙ ap (λ (ls : List Latch). c.inputs ++ map latch_output ls) is.latches

sources_size : (f : AigFile) → length (file_sources f) ≡ length f.inputs + length f.latches
sources_size f =
    let ins = map (name_at (variable_names f)) f.inputs in
    let ls = map (latch_line (signals_of f)) f.latches in
    omega (
      arith,
      length-append ins (map latch_output (map latch_of ls)),
      length-map f.inputs (name_at (variable_names f)),
      length-map (map latch_of ls) latch_output,
      length-map ls latch_of,
      length-map f.latches (latch_line (signals_of f)),
    )

file_can : (f : AigFile) (c : Circuit) → IsAig f → IsWellFormed (meant f) → IsCircuitOf (meant f) c → CanWriteAiger c
file_can f c is well of_file =
    let same : file_sources f ≡ sources_of c = document_sources (meant f) c of_file.describes in
    let outs : output_names f ≡ c.outputs = of_file.describes.outputs in
    record {
      proper = of_file.proper;
      model = sym of_file.model;
      clocks = sym of_file.describes.clocks;
      latches = subst (All HasReset) of_file.describes.latches (latches_reset (signals_of f) f.latches);
      free = All-append IsFreeName (sources_of c) c.outputs (subst (All IsFreeName) same (sources_free f is)) (subst (All IsFreeName) outs (outputs_free f is));
      apart = λ i j n low at_i at_j. subst (λ (ns : List Name). has ns n ≡ true) same
          (outputs_apart f i j n is well low (ap (λ (os : List Name). slice_get os i) outs ∙ at_i) (ap (λ (os : List Name). slice_get os j) outs ∙ at_j));
      gates = net_ands (meant f) c.net (tables_ands (signals_of f) (output_names f) f) of_file.net;
      sources = omega (arith, ap (length {A = Name}) same, sources_size f, is.counts.sources);
      outputs = omega (arith, ap (length {A = Name}) outs, outputs_size f, is.counts.outputs);
    }

meant_is : (f : AigFile) → document_of f ≡ meant f
unfolding document_of
meant_is f = refl

kept_is : (gates : ℕ) (bytes : List ℕ) (c : Circuit) → IsCircuitOfText (up_to gates aiger_format) bytes c → HasRoomForNames c → CanWriteAiger c
kept_is gates bytes c is room =
    let read = list_cases (statements.file_of bytes) is.listed is.said in
    let f = read.0 in
    let same : is.listed.document ≡ meant f = ap (λ (l : Listed). l.document) (sym read.2) ∙ listed_document (document_of f) ∙ meant_is f in
    file_can f c (file_is bytes f read.1) (subst IsWellFormed same is.well) (subst (λ (d : Document). IsCircuitOf d c) same is.circuit)

-- ---- other nets

other_gates : (c : Circuit) (m : Net) → CanWriteAiger c → CanOperate aiger_format c.net m → All IsAndGate m.gates
other_gates c m can operate = at_all IsAndGate m.gates (λ j h at.
    ⊎_elim (λ new. new) (λ old. subst (λ (op : ℕ). is_and_word op ≡ true) old.same
    (all_at IsAndGate c.net.gates old.index old.gate can.gates old.at)) (operate.each j h at))

exchanged_is : (c : Circuit) (m : Net) → CanWriteAiger c → Implements c.net m → CanOperate aiger_format c.net m → CanWriteAiger (with_net c m)
exchanged_is c m can implements operate = record {
  proper = exchanged_proper c m can.proper implements;
  model = can.model;
  clocks = can.clocks;
  latches = can.latches;
  free = can.free;
  apart = can.apart;
  gates = other_gates c m can operate;
  sources = can.sources;
  outputs = can.outputs;
}

pub aiger_is_format : AreReadBack → IsFormat aiger_format CanWriteAiger
aiger_is_format back = record {
  lists = lists_well;
  proper = λ c can. can.proper;
  read_back = λ c can. text_is back c can;
  kept = kept_is;
  exchanged = exchanged_is;
}
