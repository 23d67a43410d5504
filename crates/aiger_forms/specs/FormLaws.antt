-- What the ASCII form satisfies, both forms satisfy.
use Rattle.std.proofs.Common.{◌≡◌, ℕ, ◌∙◌, false, List, refl, ap}
use Rattle.std.specs.Prelude.{Result, Ok, Err}
use Rattle.std.proofs.lemmas.Bool.{cond-false}
use Rattle.std.proofs.lemmas.Grind.{common_steps}
use Rattle.net_theory.specs.Circuit.{Circuit}
use Rattle.net_core.specs.declared.error.NetError.{NetError}
use Rattle.net_core.specs.declared.error.NetError.TheVariants.{Memory}
use Rattle.net_document.specs.Listed.{Listed}
use Rattle.net_document.specs.Format.{up_to, IsNetlist, IsCircuitOfText, IsRefusedText, IsTextOf, ListsWell, IsFormat}
use Rattle.aiger_text.specs.File.{AigFile}
use Rattle.aiger_text.specs.Reading.{◌>>=◌}
use Rattle.aiger_text.specs.Meaning.{listed}
use Rattle.aiger_text.specs.Spelling.{spelled}
use Rattle.aiger_text.specs.Statements as statements
use Rattle.text_core.specs.Words.{after}
use Rattle.aiger_core.specs.Aiger.{aiger_format}
use Rattle.aiger_core.specs.Written.{file_of}
use Rattle.aiger_laws.specs.Writable.{CanWriteAiger}
use Rattle.aiger_binary.specs.Ascii.{is_binary, ascii_of, ascii_in}
use Rattle.aiger_sections.specs.Plain.{plain_of, plain_in}
use Rattle.aiger_forms.specs.Forms.{aiger_forms}
use Rattle.aiger_forms.specs.PlainLaws.{read_plain}

-- a text in the ASCII form is its own ASCII text
ascii_plain : (bytes : List ℕ) → is_binary bytes ≡ false → ascii_in bytes ≡ bytes
ascii_plain bytes other = cond-false (is_binary bytes) (ascii_of bytes) bytes other

spelled_plain : (f : AigFile) → is_binary (spelled f) ≡ false
unfolding spelled after
spelled_plain f = refl

read_by : (bytes : List ℕ) (l : Listed) (r : Result AigFile NetError) → ((f : AigFile) → r ≡ Ok f → plain_of bytes ≡ bytes) →
    (r >>= λ f. Ok (listed f)) ≡ Ok l → plain_of bytes ≡ bytes
read_by bytes l (Ok f) same e = same f refl
read_by bytes l (Err x) same e = absurd cc

listed_plain : (bytes : List ℕ) (l : Listed) → aiger_format.listed bytes ≡ Ok l → plain_of bytes ≡ bytes
listed_plain bytes l e = read_by bytes l (statements.file_of bytes) (λ f read. read_plain bytes f read) e

-- the text of a circuit is its own plain text
text_plain : (c : Circuit) → IsTextOf aiger_format (aiger_format.text c) c → plain_in (aiger_format.text c) ≡ aiger_format.text c
text_plain c is =
    ap plain_of (ascii_plain (spelled (file_of c)) (spelled_plain (file_of c)))
    ∙ listed_plain (aiger_format.text c) is.listed is.said

-- ---- texts that are read and refused

pub circuit_is : (most : ℕ) (bytes : List ℕ) (c : Circuit) → IsCircuitOfText (up_to most aiger_format) (plain_in bytes) c →
    IsCircuitOfText (up_to most aiger_forms) bytes c
circuit_is most bytes c is = record { listed = is.listed; said = is.said; good = is.good; well = is.well; circuit = is.circuit }

circuit_of : (most : ℕ) (bytes : List ℕ) (c : Circuit) → IsCircuitOfText (up_to most aiger_forms) bytes c →
    IsCircuitOfText (up_to most aiger_format) (plain_in bytes) c
circuit_of most bytes c is = record { listed = is.listed; said = is.said; good = is.good; well = is.well; circuit = is.circuit }

pub netlist_of : (most : ℕ) (bytes : List ℕ) → IsNetlist (up_to most aiger_forms) bytes →
    IsNetlist (up_to most aiger_format) (plain_in bytes)
netlist_of most bytes is = record { listed = is.listed; said = is.said; within = is.within; well = is.well }

pub refused_is : (most : ℕ) (bytes : List ℕ) (e : NetError) → IsRefusedText (up_to most aiger_format) (plain_in bytes) e →
    IsRefusedText (up_to most aiger_forms) bytes e
refused_is most bytes Memory is = tt
refused_is most bytes e is = is

-- ---- texts that are written

text_is : (c : Circuit) → IsTextOf aiger_format (aiger_format.text c) c → IsTextOf aiger_forms (aiger_forms.text c) c
text_is c is = record {
  listed = is.listed;
  said = ap aiger_format.listed (text_plain c is) ∙ is.said;
  document = is.document;
  good = is.good;
  well = is.well;
  model = is.model;
  describes = is.describes;
  cheap = is.cheap;
}

pub lists_well : ListsWell aiger_format → ListsWell aiger_forms
lists_well lists bytes l e = lists (plain_in bytes) l e

pub forms_are_format : IsFormat aiger_format CanWriteAiger → IsFormat aiger_forms CanWriteAiger
forms_are_format is = record {
  lists = lists_well is.lists;
  proper = is.proper;
  read_back = λ c can. text_is c (is.read_back c can);
  kept = λ gates bytes c of_text room. is.kept gates (plain_in bytes) c (circuit_of gates bytes c of_text) room;
  exchanged = is.exchanged;
}

pub ruleset formats = (common_steps, forms_are_format)
