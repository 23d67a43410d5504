-- The first item of a text as a number of a list.
use Rattle.std.proofs.Common.{◌≡◌, ℕ, ◌==◌, false, pos, List, [], ◌∷◌, Option, Some, None, refl, sym, ap, ◌∙◌}
use Rattle.std.proofs.Math.Logic.{⊎_elim}
use Rattle.std.proofs.lemmas.Bool.{cases_eq, ne_eqb}
use Rattle.std.proofs.lemmas.Grind.{common_steps}
use Rattle.text_core.specs.Numbers.{number_up_to}
use Rattle.sat_theory.specs.Formula.{opposite}
use Rattle.lrat_text.specs.Numerals.{or_end, id_in, positive, negative, literal_in, begins_minus, first_of, after_first}
use Rattle.lrat_text.proofs.Prefixes.{first_of-nil, first_of-blank, first_of-byte, after_first-byte}
use Rattle.sat_theory.specs.Limits.{most_id, most_variable}

pub id_none : (item : List ℕ) → number_up_to most_id item ≡ None → id_in item ≡ None
id_none item none = ap or_end none

pub id_zero : (item : List ℕ) (n : ℕ) → number_up_to most_id item ≡ Some n → n ≡ 0 → id_in item ≡ Some None
id_zero item n is zero_ = ap or_end (is ∙ ap Some zero_)

pub id_some : (item : List ℕ) (n : ℕ) → number_up_to most_id item ≡ Some n → (n ≡ 0 → ⊥) → id_in item ≡ Some (Some n)
id_some item n is some = ap or_end is ∙ rw (ne_eqb n 0 some) refl

pub literal_none : (item : List ℕ) (number : Option ℕ) → literal_in item ≡ positive number → number ≡ None → literal_in item ≡ None
literal_none item number is none = is ∙ ap positive none

pub literal_end : (item : List ℕ) (number : Option ℕ) (n : ℕ) → literal_in item ≡ positive number → number ≡ Some n → n ≡ 0 → literal_in item ≡ Some None
literal_end item number n is at zero_ = is ∙ ap positive (at ∙ ap Some zero_)

pub literal_positive : (item : List ℕ) (number : Option ℕ) (n : ℕ) → literal_in item ≡ positive number → number ≡ Some n → (n ≡ 0 → ⊥) → literal_in item ≡ Some (Some (pos n))
literal_positive item number n is at some = is ∙ ap positive at ∙ rw (ne_eqb n 0 some) refl

pub literal_unsigned : (item : List ℕ) (number : Option ℕ) → literal_in item ≡ negative number → number ≡ None → literal_in item ≡ None
literal_unsigned item number is none = is ∙ ap negative none

pub literal_minus_zero : (item : List ℕ) (number : Option ℕ) (n : ℕ) → literal_in item ≡ negative number → number ≡ Some n → n ≡ 0 → literal_in item ≡ None
literal_minus_zero item number n is at zero_ = is ∙ ap negative (at ∙ ap Some zero_)

pub literal_negative : (item : List ℕ) (number : Option ℕ) (n : ℕ) → literal_in item ≡ negative number → number ≡ Some n → (n ≡ 0 → ⊥) → literal_in item ≡ Some (Some (opposite (pos n)))
literal_negative item number n is at some = is ∙ ap negative at ∙ rw (ne_eqb n 0 some) refl

-- whether an item begins with a minus sign, by the first byte of its text
pub plain_empty : (text : List ℕ) → text ≡ [] → literal_in (first_of text) ≡ positive (number_up_to most_variable (first_of text))
plain_empty text none = ap literal_in whole ∙ ap (λ (item : List ℕ). positive (number_up_to most_variable item)) (sym whole)
  where
    whole : first_of text ≡ []
    whole = ap first_of none ∙ first_of-nil

pub plain_byte : (b : ℕ) (text bs : List ℕ) → text ≡ b ∷ bs → (b ≡ 45 → ⊥) → literal_in (first_of text) ≡ positive (number_up_to most_variable (first_of text))
plain_byte b text bs split isnt =
    ⊎_elim
    (λ (blank : b ≡ 32). let whole : first_of text ≡ [] = ap first_of split ∙ first_of-blank b bs blank in
    ap literal_in whole ∙ ap (λ (item : List ℕ). positive (number_up_to most_variable item)) (sym whole))
    (λ (other : b ≡ 32 → ⊥). let whole : first_of text ≡ b ∷ first_of bs = ap first_of split
    ∙ first_of-byte b bs other in ap literal_in whole ∙ other_sign b (first_of bs) isnt
    ∙ ap (λ (item : List ℕ). positive (number_up_to most_variable item)) (sym whole))
    (cases_eq b 32)
  where
    other_sign : (b : ℕ) (bs : List ℕ) → (b ≡ 45 → ⊥) → literal_in (b ∷ bs) ≡ positive (number_up_to most_variable (b ∷ bs))
    other_sign b bs isnt = rw (ne_eqb b 45 isnt) refl

at_minus : (b : ℕ) (text bs : List ℕ) → text ≡ b ∷ bs → b ≡ 45 → first_of text ≡ 45 ∷ first_of bs
at_minus b text bs split is = ap first_of split ∙ ap (λ (x : ℕ). first_of (x ∷ bs)) is ∙ first_of-byte 45 bs (λ e. cc)

pub minus_byte : (b : ℕ) (text bs : List ℕ) → text ≡ b ∷ bs → b ≡ 45 → literal_in (first_of text) ≡ negative (number_up_to most_variable (first_of bs))
minus_byte b text bs split is = ap literal_in (at_minus b text bs split is)

pub rest_of_minus : (b : ℕ) (text bs : List ℕ) → text ≡ b ∷ bs → b ≡ 45 → after_first text ≡ after_first bs
rest_of_minus b text bs split is = ap after_first split ∙ ap (λ (x : ℕ). after_first (x ∷ bs)) is ∙ after_first-byte 45 bs (λ e. cc)

pub begins_none : (text : List ℕ) → text ≡ [] → begins_minus (first_of text) ≡ false
begins_none text none = ap begins_minus (ap first_of none ∙ first_of-nil)

pub begins_byte : (b : ℕ) (text bs : List ℕ) → text ≡ b ∷ bs → (b == 45) ≡ begins_minus (first_of text)
begins_byte b text bs split =
    ⊎_elim
    (λ (blank : b ≡ 32). ap (λ (x : ℕ). x == 45) blank ∙ sym (ap begins_minus (ap first_of split ∙ first_of-blank b bs blank)))
    (λ (other : b ≡ 32 → ⊥). sym (ap begins_minus (ap first_of split ∙ first_of-byte b bs other)))
    (cases_eq b 32)

pub ruleset entries = (
  common_steps,
  id_none,
  id_zero,
  id_some,
  literal_none,
  literal_end,
  literal_positive,
  literal_unsigned,
  literal_minus_zero,
  literal_negative,
  plain_empty,
  plain_byte,
  minus_byte,
  rest_of_minus,
  begins_none,
  begins_byte,
)
