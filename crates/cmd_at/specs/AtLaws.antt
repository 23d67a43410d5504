-- The task of the values is well formed; the bits of a counterexample are read back.
use Rattle.std.specs.Prelude.{◌≡◌, ℕ, List, [], ◌∷◌, Bool, true, false, length, map, if◌then◌else◌, Some, None}
use Rattle.std.proofs.Common.{sym, ◌∙◌, ap, refl, inl, inr}
use Rattle.std.proofs.lemmas.List.{length-map}
use Rattle.net_theory.specs.Limits.{most_of_netlist}
use Rattle.net_theory.specs.Document.{Document, source_names}
use Rattle.format_names.specs.declared.formats.FormatPair.{FormatPair}
use Rattle.equiv_run.specs.declared.answer.CompareError.{CompareError}
use Rattle.equiv_run.specs.declared.answer.CompareError.TheVariants.{NoSecond, First, Second, DifferentInterface, Memory}
use Rattle.equiv_run.specs.Texts.{characters, bits_text}
use Rattle.equiv_run.specs.Two.{is_bare}
use Rattle.equiv_formats.specs.Comparison.{first_format, HasFormatsFault}
use Rattle.equiv_formats.specs.ComparisonLaws.{lists_one, formats_sound, formats_one}
use Rattle.frame_core.specs.Task.{IsRefusalStatus, IsTask}
use Rattle.frame_core.specs.TaskLaws.{at_once_task}
use Rattle.cmd_lines.specs.NetLineLaws.{status_kind}
use Rattle.cmd_equiv.specs.EquivReport.{pair_status, equiv_refusal}
use Rattle.cmd_equiv.specs.WithReport.{empty_refusal}
use Rattle.equiv_values.specs.Spelled.{is_one}
use Rattle.equiv_values.specs.SpelledLaws.{spelled_ones}
use Rattle.cmd_at.specs.AtBits.{are_bits, bits_in}
use Rattle.cmd_at.specs.AtReport.{IsValuesText, IsOtherCount, IsAtAnswer, AtFault, FirstEmpty, SecondEmpty, Faulty, OtherCount, HasAtFault, MeetsAtFault, at_reply, count_refusal, at_refusal, at_task}

-- ---- statuses

fault_statuses : (p : FormatPair) (first second : List ℕ) (e : CompareError) → HasFormatsFault p first second e →
    IsRefusalStatus (pair_status e)
fault_statuses p first second NoSecond fault = absurd fault
fault_statuses p first second (First e) fault = status_kind e fault.1
fault_statuses p first second (Second e) fault = status_kind e fault.fault.1
fault_statuses p first second DifferentInterface fault = inr (inr refl)
fault_statuses p first second Memory fault = absurd fault

refusal_statuses : (p : FormatPair) (bits : List Bool) (first second : List ℕ) (fault : AtFault) →
    HasAtFault p bits first second fault → IsRefusalStatus (at_refusal fault).status
unfolding empty_refusal
refusal_statuses p bits first second FirstEmpty meets = inl refl
refusal_statuses p bits first second SecondEmpty meets = inl refl
refusal_statuses p bits first second (Faulty e) meets = fault_statuses p first second e meets.holds
refusal_statuses p bits first second (OtherCount count) meets = inl refl

-- ---- one answer or one fault

both : {A : Type 0} (b : Bool) → b ≡ true → b ≡ false → A
both b is isnt = let e : true ≡ false = sym is ∙ isnt in cc

-- a text has one document, so that it has one number of sources
counts_same : (p : FormatPair) (bits : List Bool) (first second : List ℕ) (m n : ℕ) →
    IsOtherCount p bits first second m → IsOtherCount p bits first second n → m ≡ n
counts_same p bits first second m n x y =
    sym x.counted
    ∙ ap (λ (d : Document). length (source_names d)) (lists_one (first_format p) first x.one y.one x.netlists.first_is y.netlists.first_is)
    ∙ y.counted

-- and an answer has a bit for each of them
counted : (p : FormatPair) (bits : List Bool) (first second text : List ℕ) (count : ℕ) →
    IsValuesText p bits first second text → IsOtherCount p bits first second count → ⊥
counted p bits first second text count is other =
    let long : length bits ≡ length (source_names is.one) =
    ap length (sym is.first_values.some.1) ∙ length-map (source_names is.one) is.first_values.some.0 in
    other.apart (long
    ∙ ap (λ (d : Document). length (source_names d)) (lists_one (first_format p) first is.one other.one is.netlists.first_is other.netlists.first_is)
    ∙ other.counted)

never : (p : FormatPair) (bits : List Bool) (first second : List ℕ) (count : ℕ) (e : CompareError) →
    IsOtherCount p bits first second count → HasFormatsFault p first second e → ⊥
never p bits first second count e is fault = formats_sound p first second is.one is.other e is.netlists is.interface is.sections fault

apart : (p : FormatPair) (bits : List Bool) (first second text : List ℕ) (fault : AtFault) →
    IsAtAnswer p bits first second text → HasAtFault p bits first second fault → ⊥
apart p bits first second text FirstEmpty is meets = both (is_bare first) meets is.said.one
apart p bits first second text SecondEmpty is meets = both (is_bare second) meets.other is.said.other
apart p bits first second text (Faulty e) is meets =
    formats_sound p first second is.answer.one is.answer.other e is.answer.netlists is.answer.interface is.answer.sections meets.holds
apart p bits first second text (OtherCount count) is meets = counted p bits first second text count is.answer meets.holds

one : (p : FormatPair) (bits : List Bool) (first second : List ℕ) (a b : AtFault) → HasAtFault p bits first second a →
    HasAtFault p bits first second b → at_refusal a ≡ at_refusal b
one p bits first second FirstEmpty FirstEmpty x y = refl
one p bits first second FirstEmpty SecondEmpty x y = both (is_bare first) x y.one
one p bits first second FirstEmpty (Faulty e) x y = both (is_bare first) x y.said.one
one p bits first second FirstEmpty (OtherCount n) x y = both (is_bare first) x y.said.one
one p bits first second SecondEmpty FirstEmpty x y = both (is_bare first) y x.one
one p bits first second SecondEmpty SecondEmpty x y = refl
one p bits first second SecondEmpty (Faulty e) x y = both (is_bare second) x.other y.said.other
one p bits first second SecondEmpty (OtherCount n) x y = both (is_bare second) x.other y.said.other
one p bits first second (Faulty e) FirstEmpty x y = both (is_bare first) y x.said.one
one p bits first second (Faulty e) SecondEmpty x y = both (is_bare second) y.other x.said.other
one p bits first second (Faulty e) (Faulty f) x y = ap equiv_refusal (formats_one p first second e f x.holds y.holds)
one p bits first second (Faulty e) (OtherCount n) x y = absurd (never p bits first second n e y.holds x.holds)
one p bits first second (OtherCount m) FirstEmpty x y = both (is_bare first) y x.said.one
one p bits first second (OtherCount m) SecondEmpty x y = both (is_bare second) y.other x.said.other
one p bits first second (OtherCount m) (Faulty f) x y = absurd (never p bits first second m f x.holds y.holds)
one p bits first second (OtherCount m) (OtherCount n) x y =
    ap count_refusal (counts_same p bits first second m n x.holds y.holds)

pub at_is_task : (p : FormatPair) (bits : List Bool) (first : List ℕ) → IsTask (at_task p bits first)
at_is_task p bits first =
    at_once_task most_of_netlist (List ℕ) (IsAtAnswer p bits first) at_reply AtFault (MeetsAtFault p bits first) at_refusal
    (λ text. inl refl)
    (λ bytes fault meets. inl (refusal_statuses p bits first bytes fault meets.met))
    (λ bytes text fault has meets. apart p bits first bytes text fault has meets.met)
    (λ bytes a b x y. one p bits first bytes a b x.met y.met)
    (λ bytes text has. has.within)
    (λ bytes fault meets. meets.within)

-- ---- bits as they are spelled

spelled_bits : (bits : List Bool) → are_bits (characters bits) ≡ true
unfolding are_bits characters
spelled_bits [] = refl
spelled_bits (true ∷ bs) = spelled_bits bs
spelled_bits (false ∷ bs) = spelled_bits bs

picked : (dash empty good : Bool) (xs ys : List Bool) → dash ≡ false → empty ≡ false → good ≡ true → xs ≡ ys →
    (if dash then Some [] else (if empty then None else (if good then Some xs else None))) ≡ Some ys
picked false false true xs ys a b c e = ap (λ (zs : List Bool). Some zs) e
picked false false false xs ys a b c e = absurd cc
picked false true good xs ys a b c e = absurd cc
picked true empty good xs ys a b c e = absurd cc

-- the word of these bits is read as them
pub read_back : (bits : List Bool) → bits_in (bits_text bits) ≡ Some bits
unfolding bits_text are_bits characters
read_back [] = refl
read_back (true ∷ bs) = picked false false (are_bits (characters (true ∷ bs))) (map is_one (characters (true ∷ bs)))
    (true ∷ bs) refl refl (spelled_bits (true ∷ bs)) (spelled_ones (true ∷ bs))
read_back (false ∷ bs) = picked false false (are_bits (characters (false ∷ bs))) (map is_one (characters (false ∷ bs)))
    (false ∷ bs) refl refl (spelled_bits (false ∷ bs)) (spelled_ones (false ∷ bs))
