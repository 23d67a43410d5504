-- Texts of each format list names within their limits, and few sources and outputs.
use Rattle.std.specs.Prelude.{◌≡◌, ℕ, ◌≤◌, List, length, Ok}
use Rattle.std.proofs.Common.{arith}
use Rattle.net_theory.specs.Limits.{most_of_two}
use Rattle.net_document.specs.Listed.{Listed}
use Rattle.net_document.specs.Format.{ListsWell}
use Rattle.blif_text.specs.ListingLaws as tables
use Rattle.bench_text.specs.ListingLaws as gates
use Rattle.bench_text.specs.Statements.{listed_of}
use Rattle.format_names.specs.declared.formats.NetFormat.{NetFormat}
use Rattle.format_names.specs.declared.formats.NetFormat.TheVariants.{Blif, Bench, Aiger}
use Rattle.net_formats.specs.Formats.{format_of}
use Rattle.net_formats.specs.Few.{IsFew}
use Rattle.net_formats.specs.BlifFew.{blif_few}
use Rattle.net_formats.specs.AigerFew.{aiger_lists, aiger_few}

pub lists_well : (format : NetFormat) → ListsWell (format_of format)
lists_well Blif = tables.texts_list
lists_well Bench = gates.texts_list
lists_well Aiger = aiger_lists

bench_few : (bytes : List ℕ) (l : Listed) → listed_of bytes ≡ Ok l → length bytes ≤ most_of_two → IsFew l.document
bench_few bytes l e short = record {
  sources = omega (arith, gates.texts_are_small bytes l e, short);
  outputs = omega (arith, (gates.text_fine bytes l e).named, short);
}

pub texts_few : (format : NetFormat) (bytes : List ℕ) (l : Listed) → (format_of format).listed bytes ≡ Ok l →
    length bytes ≤ most_of_two → IsFew l.document
texts_few Blif bytes l e short = blif_few bytes l e short
texts_few Bench bytes l e short = bench_few bytes l e short
texts_few Aiger bytes l e short = aiger_few bytes l e
