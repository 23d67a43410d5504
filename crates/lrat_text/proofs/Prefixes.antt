-- The first item of a text, byte by byte.
use Rattle.std.proofs.Common.{◌≡◌, ℕ, ◌<◌, ◌≤◌, ◌+◌, ◌-◌, ◌*◌, true, false, List, [], ◌∷◌, ◌++◌, Some, None, refl, sym, ap, ◌∙◌, arith}
use Rattle.std.specs.Char.{is_ascii_digit}
use Rattle.std.proofs.lemmas.Bool.{ne_eqb, le-ltb, lt-ltb}
use Rattle.std.proofs.lemmas.Grind.{common_steps}
use Rattle.text_core.specs.Items.{split_from, items_of}
use Rattle.text_core.specs.Numbers.{number_from, number_up_to}
use Rattle.lrat_text.specs.Numerals.{first_of, after_first}

-- what was already read is a prefix of the first item
first_prefix : (prefix bs : List ℕ) → (split_from prefix bs).first ≡ prefix ++ first_of bs
unfolding split_from
first_prefix prefix [] = grind (arith, common_steps)
first_prefix prefix (b ∷ bs) = grind (arith, common_steps, first_prefix (prefix ++ b ∷ []) bs, first_prefix (b ∷ []) bs)

more_prefix : (prefix bs : List ℕ) → (split_from prefix bs).more ≡ after_first bs
unfolding split_from
more_prefix prefix [] = refl
more_prefix prefix (b ∷ bs) = grind (arith, common_steps, more_prefix (prefix ++ b ∷ []) bs, more_prefix (b ∷ []) bs)

-- The empty text has one item, which is empty.
pub first_of-nil : first_of [] ≡ []
unfolding split_from
first_of-nil = refl

pub after_first-nil : after_first [] ≡ []
unfolding split_from
after_first-nil = refl

-- A blank ends the first item.
pub first_of-blank : (b : ℕ) (bs : List ℕ) → b ≡ 32 → first_of (b ∷ bs) ≡ []
unfolding split_from
first_of-blank b bs is = grind (arith, common_steps, is)

pub after_first-blank : (b : ℕ) (bs : List ℕ) → b ≡ 32 → after_first (b ∷ bs) ≡ items_of bs
unfolding split_from
after_first-blank b bs is = grind (arith, common_steps, is)

-- Any other byte is part of it.
pub first_of-byte : (b : ℕ) (bs : List ℕ) → (b ≡ 32 → ⊥) → first_of (b ∷ bs) ≡ b ∷ first_of bs
unfolding split_from
first_of-byte b bs isnt = grind (arith, common_steps, isnt, first_prefix (b ∷ []) bs)

pub after_first-byte : (b : ℕ) (bs : List ℕ) → (b ≡ 32 → ⊥) → after_first (b ∷ bs) ≡ after_first bs
unfolding split_from
after_first-byte b bs isnt = grind (arith, common_steps, isnt, more_prefix (b ∷ []) bs)

-- An item that doesn't begin with 0 is read as digits.
up_to_from : (limit b : ℕ) (bs : List ℕ) → (b ≡ 48 → ⊥) → number_up_to limit (b ∷ bs) ≡ number_from limit 0 (b ∷ bs)
up_to_from limit b [] isnt = refl
up_to_from limit b (c ∷ bs) isnt = rw (ne_eqb b 48 isnt) refl

pub number_of_digits : (limit b : ℕ) (text bs : List ℕ) → text ≡ b ∷ bs → (b ≡ 32 → ⊥) → (b ≡ 48 → ⊥) → number_up_to limit (first_of text) ≡ number_from limit 0 (first_of text)
number_of_digits limit b text bs split no_blank no_zero =
    let whole : first_of text ≡ b ∷ first_of bs = ap first_of split ∙ first_of-byte b bs no_blank in
    ap (number_up_to limit) whole ∙ up_to_from limit b (first_of bs) no_zero ∙ ap (number_from limit 0) (sym whole)

-- An item that begins with 0 is the number 0, or isn't a number.
zero_spelled : (limit : ℕ) → number_up_to limit (48 ∷ []) ≡ Some 0
unfolding number_from
zero_spelled limit = grind (arith, common_steps)

after_a_zero : (b : ℕ) (text bs : List ℕ) → text ≡ b ∷ bs → b ≡ 48 → first_of text ≡ 48 ∷ first_of bs
after_a_zero b text bs split is = ap first_of split ∙ ap (λ (x : ℕ). first_of (x ∷ bs)) is ∙ first_of-byte 48 bs (λ e. cc)

pub number_of_zero : (limit b : ℕ) (text bs : List ℕ) → text ≡ b ∷ bs → b ≡ 48 → first_of bs ≡ [] → number_up_to limit (first_of text) ≡ Some 0
number_of_zero limit b text bs split is none = ap (number_up_to limit) (after_a_zero b text bs split is ∙ ap (λ (ds : List ℕ). 48 ∷ ds) none) ∙ zero_spelled limit

pub number_of_long : (limit b : ℕ) (text bs : List ℕ) → text ≡ b ∷ bs → b ≡ 48 → number_up_to limit (48 ∷ first_of bs) ≡ None → number_up_to limit (first_of text) ≡ None
number_of_long limit b text bs split is none = ap (number_up_to limit) (after_a_zero b text bs split is) ∙ none

pub rest_of_zero : (b : ℕ) (text bs : List ℕ) → text ≡ b ∷ bs → b ≡ 48 → after_first text ≡ after_first bs
rest_of_zero b text bs split is = ap after_first split ∙ ap (λ (x : ℕ). after_first (x ∷ bs)) is ∙ after_first-byte 48 bs (λ e. cc)

pub long_zero : (limit b : ℕ) (text bs : List ℕ) → text ≡ b ∷ bs → (b ≡ 32 → ⊥) → number_up_to limit (48 ∷ first_of text) ≡ None
long_zero limit b text bs split isnt = ap (λ (ds : List ℕ). number_up_to limit (48 ∷ ds)) (ap first_of split ∙ first_of-byte b bs isnt)

-- An empty item isn't a number.
pub number_of_blank : (limit b : ℕ) (text bs : List ℕ) → text ≡ b ∷ bs → b ≡ 32 → number_up_to limit (first_of text) ≡ None
number_of_blank limit b text bs split is = ap (number_up_to limit) (ap first_of split ∙ first_of-blank b bs is)

-- Digits, after those before gave a number, with some text left.
pub digits_blank : (limit value b : ℕ) (text left bs : List ℕ) → left ≡ b ∷ bs → b ≡ 32 →
    number_from limit value (first_of left) ≡ number_from limit 0 (first_of text) →
    number_from limit 0 (first_of text) ≡ Some value
unfolding number_from
digits_blank limit value b text left bs split is so_far = sym so_far ∙ ap (number_from limit value) (ap first_of split ∙ first_of-blank b bs is)

pub digits_end : (limit value : ℕ) (text left : List ℕ) → left ≡ [] → number_from limit value (first_of left) ≡ number_from limit 0 (first_of text) → number_from limit 0 (first_of text) ≡ Some value
unfolding number_from
digits_end limit value text left none so_far = sym so_far ∙ ap (number_from limit value) (ap first_of none ∙ first_of-nil)

pub rest_blank : (b : ℕ) (text left bs : List ℕ) → left ≡ b ∷ bs → b ≡ 32 → after_first left ≡ after_first text → after_first text ≡ items_of bs
rest_blank b text left bs split is so_far = sym so_far ∙ ap after_first split ∙ after_first-blank b bs is

pub rest_end : (text left : List ℕ) → left ≡ [] → after_first left ≡ after_first text → after_first text ≡ []
rest_end text left none so_far = sym so_far ∙ ap after_first none ∙ after_first-nil

pub rest_byte : (b : ℕ) (text left bs : List ℕ) → left ≡ b ∷ bs → (b ≡ 32 → ⊥) → after_first left ≡ after_first text → after_first bs ≡ after_first text
rest_byte b text left bs split isnt so_far = sym (after_first-byte b bs isnt) ∙ ap after_first (sym split) ∙ so_far

one_more : (limit value b : ℕ) (text left bs : List ℕ) → left ≡ b ∷ bs → (b ≡ 32 → ⊥) →
    number_from limit value (first_of left) ≡ number_from limit 0 (first_of text) →
    number_from limit 0 (first_of text) ≡ number_from limit value (b ∷ first_of bs)
one_more limit value b text left bs split isnt so_far = sym so_far ∙ ap (number_from limit value) (ap first_of split ∙ first_of-byte b bs isnt)

pub digits_other : (limit value b : ℕ) (text left bs : List ℕ) → left ≡ b ∷ bs → (b ≡ 32 → ⊥) →
    is_ascii_digit b ≡ false → number_from limit value (first_of left) ≡ number_from limit 0 (first_of text) →
    number_from limit 0 (first_of text) ≡ None
unfolding number_from
digits_other limit value b text left bs split isnt other so_far = one_more limit value b text left bs split isnt so_far ∙ rw other refl

pub digits_above : (limit value b : ℕ) (text left bs : List ℕ) → left ≡ b ∷ bs → (b ≡ 32 → ⊥) →
    is_ascii_digit b ≡ true → limit < value * 10 + (b - 48) →
    number_from limit value (first_of left) ≡ number_from limit 0 (first_of text) →
    number_from limit 0 (first_of text) ≡ None
unfolding number_from
digits_above limit value b text left bs split isnt digit above so_far = one_more limit value b text left bs split isnt so_far ∙ rw (digit, lt-ltb limit (value * 10 + (b - 48)) above) refl

pub digits_more : (limit value b : ℕ) (text left bs : List ℕ) → left ≡ b ∷ bs → (b ≡ 32 → ⊥) →
    is_ascii_digit b ≡ true → value * 10 + (b - 48) ≤ limit →
    number_from limit value (first_of left) ≡ number_from limit 0 (first_of text) →
    number_from limit (value * 10 + (b - 48)) (first_of bs) ≡ number_from limit 0 (first_of text)
unfolding number_from
digits_more limit value b text left bs split isnt digit within so_far = sym (one_more limit value b text left bs split isnt so_far ∙ rw (digit, le-ltb limit (value * 10 + (b - 48)) within) refl)

pub ruleset prefixes = (
  common_steps,
  first_of-nil,
  after_first-nil,
  digits_blank,
  digits_end,
  rest_blank,
  rest_end,
  rest_byte,
  digits_other,
  digits_above,
  digits_more,
  number_of_digits,
  number_of_zero,
  number_of_long,
  number_of_blank,
  rest_of_zero,
  long_zero,
  first_of-blank,
  after_first-blank,
)
