-- What a text lists, and the errors of parsing and of elaboration.
use Rattle.std.proofs.Common.{◌≡◌, ◌∙◌, ℕ, List, inl, inr, ap, sym, subst, refl}
use Rattle.std.proofs.lemmas.Grind.{common_steps}
use Rattle.std.specs.Prelude.{Result, Ok, Err, IfErr, None}
use Rattle.std.specs.Result.{IsErrAnd}
use Rattle.net_theory.specs.WellFormed.{IsWellFormed}
use Rattle.net_theory.specs.Circuit.{Circuit, IsCircuitOf}
use Rattle.net_core.specs.declared.error.NetError.{NetError}
use Rattle.net_core.specs.declared.error.NetError.TheVariants.{Memory}
use Rattle.net_document.specs.Listed.{Listed, IsWellListed}
use Rattle.net_document.specs.Refusals.{fault_of, IsRefusedListing}
use Rattle.net_document.specs.Format.{up_to, IsNetlist, IsCircuitOfText, IsRefusedText, ListsWell}
use Rattle.net_document.specs.FormatLaws.{refused_memory}
use Rattle.aiger_text.specs.File.{AigFile}
use Rattle.aiger_text.specs.Valid.{IsAig}
use Rattle.aiger_text.specs.FileLaws.{file_is}
use Rattle.aiger_text.specs.ListingLaws.{listed_is}
use Rattle.aiger_text.specs.Meaning.{listed}
use Rattle.aiger_text.specs.Reading.{◌>>=◌, Fails}
use Rattle.aiger_text.specs.Statements.{file_of}
use Rattle.aiger_core.specs.Aiger.{listed_of, aiger_format}

-- ---- what a text lists

abbrev list_in : Result AigFile NetError → Result Listed NetError
list_in r = r >>= λ f. Ok (listed f)

pub listed_ok : (bytes : List ℕ) (f : AigFile) (l : Listed) → file_of bytes ≡ Ok f → l ≡ listed f → listed_of bytes ≡ Ok l
listed_ok bytes f l e same = ap list_in e ∙ ap Ok (sym same)

pub listed_err : (bytes : List ℕ) (e : NetError) → Fails e (file_of bytes) → Fails e (listed_of bytes)
listed_err bytes Memory h = tt
listed_err bytes e h = ap list_in h

list_is : (r : Result AigFile NetError) (l : Listed) → ((f : AigFile) → r ≡ Ok f → IsAig f) → list_in r ≡ Ok l → IsWellListed l
list_is (Ok f) l is e = let same : listed f ≡ l = cc in subst IsWellListed same (listed_is f (is f refl))
list_is (Err x) l is e = absurd cc

pub lists_well : ListsWell aiger_format
lists_well bytes l e = list_is (file_of bytes) l (file_is bytes) e

pub ruleset listings = (common_steps, listed_ok, listed_err)

-- ---- errors

pub line_refused : (most : ℕ) (bytes : List ℕ) (e : NetError) → Fails e (listed_of bytes) → IsRefusedText (up_to most aiger_format) bytes e
line_refused most bytes Memory h = tt
line_refused most bytes e h = inl h

pub document_refused : (most : ℕ) (bytes : List ℕ) (l : Listed) (e : NetError) → listed_of bytes ≡ Ok l →
    IsRefusedListing most l e → IsRefusedText (up_to most aiger_format) bytes e
document_refused most bytes l Memory said h = tt
document_refused most bytes l e said h = inr (l, said, h)

pub text_circuit : (most : ℕ) (bytes : List ℕ) (l : Listed) (c : Circuit) → listed_of bytes ≡ Ok l → fault_of most l ≡ None →
    IsWellFormed l.document → IsCircuitOf l.document c → IsCircuitOfText (up_to most aiger_format) bytes c
text_circuit most bytes l c said good well circuit = record { listed = l; said = said; good = good; well = well; circuit = circuit }

-- so the only error of a netlist is out of memory, in both stages
pub line_memory : {A : Type 0} (most : ℕ) (bytes : List ℕ) (r : Result A NetError) (e : NetError) → IsErrAnd r (λ d. d ≡ e) →
    Fails e (listed_of bytes) → IfErr r (λ d. IsNetlist (up_to most aiger_format) bytes → d ≡ Memory)
line_memory most bytes (Ok x) e is h = absurd is
line_memory most bytes (Err d) e is h = λ netlist. is ∙ refused_memory (up_to most aiger_format) bytes e lists_well netlist (line_refused most bytes e h)

pub document_memory : {A : Type 0} (most : ℕ) (bytes : List ℕ) (l : Listed) (r : Result A NetError) (e : NetError) →
    IsErrAnd r (λ d. d ≡ e) → listed_of bytes ≡ Ok l → IsRefusedListing most l e →
    IfErr r (λ d. IsNetlist (up_to most aiger_format) bytes → d ≡ Memory)
document_memory most bytes l (Ok x) e is said h = absurd is
document_memory most bytes l (Err d) e is said h = λ netlist. is ∙ refused_memory (up_to most aiger_format) bytes e lists_well netlist (document_refused most bytes l e said h)

pub ruleset refusals = (common_steps, line_refused, document_refused, text_circuit)
