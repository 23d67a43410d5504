-- What the names of the formats stand for.
use Rattle.net_document.specs.Format.{Format}
use Rattle.blif_core.specs.Blif.{blif_format}
use Rattle.bench_core.specs.Bench.{bench_format}
use Rattle.aiger_forms.specs.Forms.{aiger_forms}
use Rattle.format_names.specs.declared.formats.NetFormat.{NetFormat}
use Rattle.format_names.specs.declared.formats.NetFormat.TheVariants.{Blif, Bench, Aiger}

abbrev pub format_of : NetFormat → Format
format_of Blif = blif_format
format_of Bench = bench_format
format_of Aiger = aiger_forms
