-- The circuits of texts.
use Rattle.std.proofs.Common.{◌≡◌, ℕ, true, List}
use Rattle.std.specs.Prelude.{slice_get, Some}
use Rattle.net_theory.specs.declared.data.Gate.{Gate}
use Rattle.net_theory.specs.NameLaws.{all_at}
use Rattle.net_theory.specs.Circuit.{Circuit}
use Rattle.net_document.specs.Format.{IsCircuitOfText}
use Rattle.bench_text.specs.ListingLaws.{text_fine}
use Rattle.bench_core.specs.Bench.{bench_format, is_gate_word}
use Rattle.bench_laws.specs.Spelled.{IsGateWord}
use Rattle.bench_laws.proofs.Operators.{net_words}

pub text_operators : (bytes : List ℕ) (c : Circuit) (i : ℕ) (g : Gate) → IsCircuitOfText bench_format bytes c → slice_get c.net.gates i ≡ Some g → is_gate_word g.op ≡ true
text_operators bytes c i g is at = all_at IsGateWord c.net.gates i g (net_words is.listed.document c.net (text_fine bytes is.listed is.said).tables is.circuit.net) at
