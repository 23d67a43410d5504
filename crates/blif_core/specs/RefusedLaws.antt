-- The errors of parsing and of elaboration are errors of the text, in each format.
use Rattle.std.proofs.Common.{◌≡◌, ◌∙◌, ℕ, List, inl, inr}
use Rattle.std.proofs.lemmas.Grind.{common_steps}
use Rattle.std.specs.Prelude.{Result, Ok, Err, IfErr, None}
use Rattle.std.specs.Result.{IsErrAnd}
use Rattle.net_theory.specs.WellFormed.{IsWellFormed}
use Rattle.net_theory.specs.Circuit.{Circuit, IsCircuitOf}
use Rattle.net_core.specs.declared.error.NetError.{NetError}
use Rattle.net_core.specs.declared.error.NetError.TheVariants.{Memory}
use Rattle.net_document.specs.Listed.{Listed}
use Rattle.net_document.specs.Refusals.{fault_of, IsRefusedListing}
use Rattle.net_document.specs.Format.{Format, IsNetlist, IsCircuitOfText, IsRefusedText, ListsWell}
use Rattle.net_document.specs.FormatLaws.{refused_memory}
use Rattle.blif_text.specs.Reading.{Fails}

pub line_refused : (f : Format) (bytes : List ℕ) (e : NetError) → Fails e (f.listed bytes) → IsRefusedText f bytes e
line_refused f bytes Memory h = tt
line_refused f bytes e h = inl h

pub document_refused : (f : Format) (bytes : List ℕ) (l : Listed) (e : NetError) → f.listed bytes ≡ Ok l → IsRefusedListing f.most l e → IsRefusedText f bytes e
document_refused f bytes l Memory said h = tt
document_refused f bytes l e said h = inr (l, said, h)

pub text_circuit : (f : Format) (bytes : List ℕ) (l : Listed) (c : Circuit) → f.listed bytes ≡ Ok l → fault_of f.most l ≡ None → IsWellFormed l.document → IsCircuitOf l.document c → IsCircuitOfText f bytes c
text_circuit f bytes l c said good well circuit = record { listed = l; said = said; good = good; well = well; circuit = circuit }

-- so the only error of a netlist is out of memory, in both stages
pub line_memory : {A : Type 0} (f : Format) (bytes : List ℕ) (r : Result A NetError) (e : NetError) → ListsWell f →
    IsErrAnd r (λ d. d ≡ e) → Fails e (f.listed bytes) → IfErr r (λ d. IsNetlist f bytes → d ≡ Memory)
line_memory f bytes (Ok x) e lists is h = absurd is
line_memory f bytes (Err d) e lists is h = λ netlist. is ∙ refused_memory f bytes e lists netlist (line_refused f bytes e h)

pub document_memory : {A : Type 0} (f : Format) (bytes : List ℕ) (l : Listed) (r : Result A NetError) (e : NetError) →
    ListsWell f → IsErrAnd r (λ d. d ≡ e) → f.listed bytes ≡ Ok l → IsRefusedListing f.most l e →
    IfErr r (λ d. IsNetlist f bytes → d ≡ Memory)
document_memory f bytes l (Ok x) e lists is said h = absurd is
document_memory f bytes l (Err d) e lists is said h = λ netlist. is ∙ refused_memory f bytes e lists netlist (document_refused f bytes l e said h)

pub ruleset refusals = (common_steps, line_refused, document_refused, text_circuit)
