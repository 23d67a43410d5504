-- A text and its plain text.
use Rattle.std.proofs.Common.{◌≡◌, ℕ, List, sym, subst}
use Rattle.std.proofs.lemmas.Grind.{common_steps}
use Rattle.net_theory.specs.Circuit.{Circuit}
use Rattle.net_core.specs.declared.error.NetError.{NetError}
use Rattle.net_core.specs.declared.error.NetError.TheVariants.{Memory}
use Rattle.net_document.specs.Format.{up_to, IsNetlist, IsCircuitOfText, IsRefusedText}
use Rattle.aiger_core.specs.Aiger.{aiger_format}
use Rattle.aiger_sections.specs.Plain.{plain_in}
use Rattle.aiger_forms.specs.Forms.{aiger_forms}
use Rattle.aiger_forms.specs.FormLaws.{circuit_is, netlist_of, refused_is}

pub plain_circuit : (most : ℕ) (bytes text : List ℕ) (c : Circuit) → text ≡ plain_in bytes →
    IsCircuitOfText (up_to most aiger_format) text c → IsCircuitOfText (up_to most aiger_forms) bytes c
plain_circuit most bytes text c same of_text =
    circuit_is most bytes c (subst (λ (t : List ℕ). IsCircuitOfText (up_to most aiger_format) t c) same of_text)

pub plain_refused : (most : ℕ) (bytes text : List ℕ) (e : NetError) → text ≡ plain_in bytes →
    IsRefusedText (up_to most aiger_format) text e → IsRefusedText (up_to most aiger_forms) bytes e
plain_refused most bytes text e same refused =
    refused_is most bytes e (subst (λ (t : List ℕ). IsRefusedText (up_to most aiger_format) t e) same refused)

pub plain_complete : (most : ℕ) (bytes text : List ℕ) (e : NetError) → text ≡ plain_in bytes →
    (IsNetlist (up_to most aiger_format) text → e ≡ Memory) → IsNetlist (up_to most aiger_forms) bytes → e ≡ Memory
plain_complete most bytes text e same only netlist =
    only (subst (IsNetlist (up_to most aiger_format)) (sym same) (netlist_of most bytes netlist))

pub ruleset plains = (common_steps, plain_circuit, plain_refused, plain_complete)
