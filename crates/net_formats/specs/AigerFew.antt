-- An AIGER text has few sources and outputs by the limits of its header, and its names are within their limits.
use Rattle.std.proofs.Common.{◌≡◌, ℕ, zero, suc, ◌+◌, ◌≤◌, List, [], ◌∷◌, length, length-append, map, refl, ap, ◌∙◌, subst, arith}
use Rattle.std.specs.Prelude.{Result, Ok, Err, if◌then◌else◌, codes, slice_set}
use Rattle.std.proofs.lemmas.Bool.{cond_both}
use Rattle.std.proofs.lemmas.List.{length-map, length-set}
use Rattle.net_theory.specs.Document.{Name, latch_of, latch_output}
use Rattle.net_theory.specs.NetOf.{source_count}
use Rattle.net_core.specs.declared.error.NetError.{NetError}
use Rattle.net_document.specs.Listed.{Listed, IsWellListed}
use Rattle.net_document.specs.Format.{ListsWell}
use Rattle.aiger_text.specs.declared.file.PortKind.{PortKind}
use Rattle.aiger_text.specs.declared.file.PortKind.TheVariants.{Output}
use Rattle.aiger_text.specs.declared.file.Symbol.{Symbol}
use Rattle.aiger_text.specs.Reading.{◌>>=◌}
use Rattle.aiger_text.specs.File.{AigFile}
use Rattle.aiger_text.specs.FileLaws.{file_is}
use Rattle.aiger_text.specs.ListingLaws.{listed_is}
use Rattle.aiger_text.specs.Valid.{IsAig}
use Rattle.aiger_text.specs.Naming.{numbered_from, is_kind, with_symbols, output_names, variable_names, name_at}
use Rattle.aiger_text.specs.Meaning.{signals_of, latch_line, document_of, listed_with, listed}
use Rattle.aiger_text.specs.Statements.{file_of}
use Rattle.aiger_core.specs.Aiger.{listed_of}
use Rattle.aiger_sections.specs.Plain.{plain_in}
use Rattle.aiger_forms.specs.Forms.{aiger_forms}
use Rattle.net_formats.specs.Few.{IsFew}

abbrev list_in : Result AigFile NetError → Result Listed NetError
list_in r = r >>= λ f. Ok (listed f)

list_is : (P : Listed → Type 0) (r : Result AigFile NetError) (l : Listed) → ((f : AigFile) → r ≡ Ok f → P (listed f)) →
    list_in r ≡ Ok l → P l
list_is P (Ok f) l is e = let same : listed f ≡ l = cc in subst P same (is f refl)
list_is P (Err x) l is e = absurd cc

pub aiger_lists : ListsWell aiger_forms
aiger_lists bytes l e =
    list_is IsWellListed (file_of (plain_in bytes)) l (λ f is. listed_is f (file_is (plain_in bytes) f is)) e

-- ---- outputs

numbered_size : (prefix : List ℕ) (from n : ℕ) → length (numbered_from prefix from n) ≡ n
unfolding numbered_from
numbered_size prefix from zero = refl
numbered_size prefix from (suc n) = ap suc (numbered_size prefix (from + 1) n)

symbols_size : (kind : PortKind) (names : List Name) (ss : List Symbol) → length (with_symbols kind names ss) ≡ length names
unfolding with_symbols
symbols_size kind names [] = refl
symbols_size kind names (s ∷ ss) =
    symbols_size kind (if is_kind kind s.kind then slice_set names s.position s.name else names) ss
    ∙ cond_both (is_kind kind s.kind) (slice_set names s.position s.name) names (λ (ns : List Name). length ns ≡ length names)
    (λ e. length-set names s.position s.name)
    (λ e. refl)

outputs_size : (f : AigFile) → length (output_names f) ≡ length f.outputs
outputs_size f = symbols_size Output (numbered_from (codes "o") 0 (length f.outputs)) f.symbols ∙ numbered_size (codes "o") 0 (length f.outputs)

-- ---- files

outputs_few : (f : AigFile) → IsAig f → length (document_of f).outputs ≤ 1048576
unfolding document_of
outputs_few f is = omega (arith, outputs_size f, is.counts.outputs)

sources_few : (f : AigFile) → IsAig f → source_count (document_of f) ≤ 1048576
unfolding document_of
sources_few f is =
    let names = variable_names f in
    let ls = map (latch_line (signals_of f)) f.latches in
    omega (
      arith,
      length-append (map (name_at names) f.inputs) (map latch_output (map latch_of ls)),
      length-map f.inputs (name_at names),
      length-map (map latch_of ls) latch_output,
      length-map ls latch_of,
      length-map f.latches (latch_line (signals_of f)),
      is.counts.sources,
    )

file_few : (f : AigFile) → IsAig f → IsFew (listed f).document
unfolding listed_with
file_few f is = record { sources = omega (arith, sources_few f is); outputs = omega (arith, outputs_few f is) }

pub aiger_few : (bytes : List ℕ) (l : Listed) → listed_of (plain_in bytes) ≡ Ok l → IsFew l.document
aiger_few bytes l e =
    list_is (λ (x : Listed). IsFew x.document) (file_of (plain_in bytes)) l (λ f is. file_few f (file_is (plain_in bytes) f is)) e
