-- Texts that are written one after the other.
use Rattle.std.proofs.Common.{◌≡◌, ℕ, List, [], ◌∷◌, ◌++◌, length, Option, Some, Result, Ok, Err, refl, sym, ap, subst, ◌∙◌, arith}
use Rattle.std.specs.Prelude.{OnOk, OnErr, codes, decimal}
use Rattle.port_io.specs.TextLaws.{appended-none, prefix_whole}
use Rattle.port_io.specs.Bytes.{appended, Appends, AppendsPrefix}
use Rattle.port_io.specs.Faults.{Rose}
use Rattle.port_io.specs.declared.writing.WriteFault.{WriteFault}
use Rattle.frame_core.specs.declared.replies.RunEnd.{RunEnd}
use Rattle.frame_core.specs.declared.replies.Field.{Field}
use Rattle.frame_core.specs.declared.replies.Field.TheVariants.{Nothing, Known, Count, Name}
use Rattle.frame_core.specs.Reported as reported
use Rattle.frame_core.specs.Reported.{fields_text, error_line}
use Rattle.frame_core.specs.Run.{LineAfter}
use Rattle.frame_core.specs.Views.{shown, parts_text, line_in}
use Rattle.frame_core.specs.Outside.{PortState, Writes}
use Rattle.frame_core.specs.PerformingLaws.{named_as}

-- Without fields the text is empty.
parts-none : (fields : List Field) → length fields ≡ 0 → parts_text fields ≡ []
unfolding parts_text
parts-none [] e = refl
parts-none (f ∷ fs) e = absurd (omega arith)

-- So nothing has to be written.
pub all_of_none : (old : Option (List ℕ)) (fields : List Field) → length fields ≡ 0 → Appends old old (parts_text fields)
all_of_none old fields e = sym (ap (λ (text : List ℕ). appended old text) (parts-none fields e) ∙ appended-none old)

pub prefix_of_none : (old : Option (List ℕ)) (fields : List Field) → length fields ≡ 0 → AppendsPrefix old old (parts_text fields)
prefix_of_none old fields e = prefix_whole old old (parts_text fields) (all_of_none old fields e)

-- An attempt to write a text wrote a prefix of it, and all of it if no call failed.
written : (old new : PortState) (text : List ℕ) (result : Result Unit WriteFault) →
    AppendsPrefix old.bytes new.bytes text → OnOk result (Appends old.bytes new.bytes text) →
    OnErr result (Rose old.faults new.faults) → Writes old new text
written old new text (Ok x) prefix all cause = record { prefix = prefix; whole = λ faultless. all }
written old new text (Err e) prefix all cause = record { prefix = prefix; whole = λ faultless. absurd (faultless cause) }

-- The parts of a line are the text of its fields.
parts_are : (fields : List Field) → parts_text fields ≡ fields_text (shown fields)
unfolding parts_text fields_text shown
parts_are [] = refl
parts_are (Nothing ∷ fs) = parts_are fs
parts_are (Known word ∷ fs) = ap (λ (xs : List ℕ). (32 ∷ word.now) ++ xs) (parts_are fs)
parts_are (Count number ∷ fs) = ap (λ (xs : List ℕ). (32 ∷ decimal number) ++ xs) (parts_are fs)
parts_are (Name name ∷ fs) = ap (λ (xs : List ℕ). (32 ∷ name.items) ++ xs) (parts_are fs)

line_is : (fields : List Field) → codes "error:" ++ (parts_text fields ++ codes "\n") ≡ error_line (shown fields)
unfolding error_line
line_is fields = ap (λ (xs : List ℕ). codes "error:" ++ (xs ++ codes "\n")) (parts_are fields)

-- The same for an error line.
pub reported_line : (old new : PortState) (fields : List Field) (result : Result Unit WriteFault) →
    AppendsPrefix old.bytes new.bytes (codes "error:" ++ (parts_text fields ++ codes "\n")) →
    OnOk result (Appends old.bytes new.bytes (codes "error:" ++ (parts_text fields ++ codes "\n"))) →
    OnErr result (Rose old.faults new.faults) → Writes old new (error_line (shown fields))
reported_line old new fields result prefix all cause =
    subst (λ (t : List ℕ). Writes old new t) (line_is fields) (written old new (codes "error:" ++ (parts_text fields ++ codes "\n")) result prefix all cause)

-- The error line of a run is determined by how the run ended.
pub reported_as : (old new : PortState) (e d : RunEnd) (a b : List reported.Field) → e ≡ d → line_in d ≡ Some b → a ≡ b → Writes old new (error_line a) → LineAfter old new (line_in e)
reported_as old new e d a b is line same writes =
    subst (λ (x : RunEnd). LineAfter old new (line_in x)) (sym is)
    (subst (λ (o : Option (List reported.Field)). LineAfter old new o) (sym line) (named_as old new a b same writes))
