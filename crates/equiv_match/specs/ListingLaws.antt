-- What AIGER texts list.
use Rattle.std.specs.Prelude.{◌≡◌, ℕ, List, Result, Ok}
use Rattle.std.proofs.Common.{ap, sym, ◌∙◌}
use Rattle.std.proofs.lemmas.Grind.{common_steps}
use Rattle.net_core.specs.declared.error.NetError.{NetError}
use Rattle.net_document.specs.Listed.{Listed}
use Rattle.aiger_text.specs.File.{AigFile}
use Rattle.aiger_text.specs.Meaning.{listed}
use Rattle.aiger_text.specs.Reading.{◌>>=◌}
use Rattle.aiger_text.specs.Statements.{file_of}
use Rattle.aiger_core.specs.Aiger.{listed_of, aiger_format}
use Rattle.aiger_sections.specs.Plain.{plain_in}
use Rattle.aiger_forms.specs.Forms.{aiger_forms}

abbrev list_in : Result AigFile NetError → Result Listed NetError
list_in r = r >>= λ f. Ok (listed f)

pub listed_ok : (bytes : List ℕ) (f : AigFile) (l : Listed) → file_of bytes ≡ Ok f → l ≡ listed f → listed_of bytes ≡ Ok l
listed_ok bytes f l e same = ap list_in e ∙ ap Ok (sym same)

pub ruleset listings = (common_steps, listed_ok)

pub forms_listed : (bytes text : List ℕ) (l : Listed) → text ≡ plain_in bytes → aiger_format.listed text ≡ Ok l →
    aiger_forms.listed bytes ≡ Ok l
forms_listed bytes text l same said = ap listed_of (sym same) ∙ said

pub ruleset forms = (common_steps, forms_listed)
