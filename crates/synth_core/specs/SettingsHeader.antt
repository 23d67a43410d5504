-- The settings of a search, as the header of a certificate.
use Rattle.std.specs.Prelude.{length}
use Rattle.settings.specs.Methods.{method_for}
use Rattle.settings.specs.declared.synth.SynthSettings.{SynthSettings}
use Rattle.tt_core.specs.Words.{Words, specification}
use Rattle.synth_core.specs.UsedInputs.{used_inputs}
use Rattle.cert_theory.specs.declared.data.Header.{Header}

-- the header of a certificate for the tables `w` under the settings `s`: it names the method that is taken, which `auto`
-- chooses by the inputs that the tables use and by the number of outputs
abbrev pub header_of : Words → SynthSettings → Header
header_of w s = record {
  spec = w;
  basis = s.basis;
  method = method_for s.method (used_inputs (specification w)) (length w.on);
  conflicts = s.conflicts;
  max = s.max;
}
