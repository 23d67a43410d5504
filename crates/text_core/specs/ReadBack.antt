-- Round trips: what was written is read again, whatever follows it; and what is read was written that way.
use Rattle.std.specs.Prelude.{◌≡◌, ℕ, ◌+◌, ◌*◌, ◌/◌, ◌%◌, ◌^◌, ◌<◌, ◌≤◌, true, false, List, [], ◌∷◌, ◌++◌, length, Some, decimal, refl}
use Rattle.std.specs.List.{flat_map, join_with_byte}
use Rattle.std.proofs.Common.{◌-◌, ◌≢◌, ap, ◌∙◌, sym, subst, arith, get_or, ◌⊎◌, inl, inr}
use Rattle.std.proofs.lemmas.Fmt.{decimal_by_steps, decimal_digit, first_decimal, decimal-digits_value}
use Rattle.std.proofs.lemmas.Str.Parse.{IsNumeralModel, FoldsDigits, numerals_by_fold, tells_all_ascii_digits}
use Rattle.std.proofs.lemmas.Bool.{cases_lt}
use Rattle.std.specs.Str.{all_ascii_digits}
use Rattle.std.proofs.lemmas.Grind.{common_steps}
use Rattle.text_core.specs.Lines.{last_line, lines_from, lines_of, line_bytes}
use Rattle.text_core.specs.Items.{split_from, items_of}
use Rattle.text_core.specs.Words.{after, is_free}
use Rattle.text_core.specs.Numbers.{number_from, number_up_to}

-- ---- lines

line_from_back : (prefix text rest : List ℕ) → is_free 10 text ≡ true → lines_from prefix (text ++ 10 ∷ rest) ≡ record { text = prefix ++ text; ended = true } ∷ lines_of rest
unfolding lines_from is_free
line_from_back prefix [] rest free = grind (arith, common_steps)
line_from_back prefix (b ∷ text) rest free = grind (arith, common_steps, line_from_back (prefix ++ b ∷ []) text rest)

-- a line that an LF ends
pub line_back : (text rest : List ℕ) → is_free 10 text ≡ true → lines_of (text ++ 10 ∷ rest) ≡ record { text = text; ended = true } ∷ lines_of rest
line_back text rest free = line_from_back [] text rest free

last_from_back : (prefix text : List ℕ) → is_free 10 text ≡ true → lines_from prefix text ≡ last_line (prefix ++ text)
unfolding lines_from is_free
last_from_back prefix [] free = grind (arith, common_steps)
last_from_back prefix (b ∷ text) free = grind (arith, common_steps, last_from_back (prefix ++ b ∷ []) text)

-- a last line that no LF ends
pub last_line_back : (text : List ℕ) → is_free 10 text ≡ true → 0 < length text → lines_of text ≡ record { text = text; ended = false } ∷ []
last_line_back [] free some = absurd (omega arith)
last_line_back (b ∷ text) free some = last_from_back [] (b ∷ text) free

last_spells : (prefix : List ℕ) → flat_map line_bytes (last_line prefix) ≡ prefix
last_spells [] = refl
last_spells (b ∷ bs) = grind (arith, common_steps)

lines_from_spell : (prefix bytes : List ℕ) → flat_map line_bytes (lines_from prefix bytes) ≡ prefix ++ bytes
unfolding lines_from
lines_from_spell prefix [] = grind (arith, common_steps, last_spells prefix)
lines_from_spell prefix (b ∷ bytes) = grind (arith, common_steps, lines_from_spell [] bytes, lines_from_spell (prefix ++ b ∷ []) bytes)

-- the concatenation of the lines is the text
pub lines_spell : (bytes : List ℕ) → flat_map line_bytes (lines_of bytes) ≡ bytes
lines_spell bytes = lines_from_spell [] bytes

-- ---- items

item_from_back : (prefix item rest : List ℕ) → is_free 32 item ≡ true → split_from prefix (item ++ 32 ∷ rest) ≡ record { first = prefix ++ item; more = items_of rest }
unfolding split_from is_free
item_from_back prefix [] rest free = grind (arith, common_steps)
item_from_back prefix (b ∷ item) rest free = grind (arith, common_steps, item_from_back (prefix ++ b ∷ []) item rest)

-- an item that a blank follows
pub item_back : (item rest : List ℕ) → is_free 32 item ≡ true → items_of (item ++ 32 ∷ rest) ≡ item ∷ items_of rest
item_back item rest free = grind (arith, common_steps, item_from_back [] item rest)

last_item_from_back : (prefix item : List ℕ) → is_free 32 item ≡ true → split_from prefix item ≡ record { first = prefix ++ item; more = [] }
unfolding split_from is_free
last_item_from_back prefix [] free = grind (arith, common_steps)
last_item_from_back prefix (b ∷ item) free = grind (arith, common_steps, last_item_from_back (prefix ++ b ∷ []) item)

items_from_spell : (prefix text : List ℕ) → join_with_byte 32 ((split_from prefix text).first ∷ (split_from prefix text).more) ≡ prefix ++ text
unfolding split_from
items_from_spell prefix [] = grind (arith, common_steps)
items_from_spell prefix (b ∷ text) = grind (arith, common_steps, items_from_spell [] text, items_from_spell (prefix ++ b ∷ []) text)

-- the items, with a blank between each two, are the text
pub items_spell : (text : List ℕ) → join_with_byte 32 (items_of text) ≡ text
items_spell text = items_from_spell [] text

-- the last item
pub last_item_back : (item : List ℕ) → is_free 32 item ≡ true → items_of item ≡ item ∷ []
last_item_back item free = grind (arith, common_steps, last_item_from_back [] item)

-- ---- words

-- `after` returns the text written after the word
pub word_back : (word rest : List ℕ) → after word (word ++ rest) ≡ Some rest
unfolding after
word_back [] rest = refl
word_back (w ∷ word) rest = grind (arith, common_steps, word_back word rest)

-- if `after` finds a word, the text begins with it
pub word_spells : (word text rest : List ℕ) → after word text ≡ Some rest → text ≡ word ++ rest
unfolding after
word_spells [] text rest e = cc
word_spells (w ∷ word) [] rest e = absurd cc
word_spells (w ∷ word) (b ∷ text) rest e = grind (arith, common_steps, word_spells word text rest)

-- ---- numbers

-- one digit more
number_push : (limit v m d : ℕ) (ds : List ℕ) → number_from limit v ds ≡ Some m → d < 10 → m * 10 + d ≤ limit → number_from limit v (ds ++ (48 + d) ∷ []) ≡ Some (m * 10 + d)
unfolding number_from
number_push limit v m d [] e low fits = grind (arith, common_steps)
number_push limit v m d (b ∷ ds) e low fits = grind (arith, common_steps, number_push limit (v * 10 + (b - 48)) m d ds)

-- a number that was written is read, digit by digit
number_from_back : (limit n : ℕ) → n < 2 ^ 64 → n ≤ limit → number_from limit 0 (decimal n) ≡ Some n
unfolding number_from
number_from_back limit n narrow =
    decimal_by_steps
    (λ n ds. n ≤ limit → number_from limit 0 ds ≡ Some n)
    (λ n low fits. grind (arith, common_steps))
    (λ n ds high prefix fits. let whole : n / 10 * 10 + n % 10 ≡ n = omega arith in
    subst (λ (k : ℕ). number_from limit 0 (ds ++ (48 + n % 10) ∷ []) ≡ Some k) whole
    (number_push limit 0 (n / 10) (n % 10) ds (prefix (omega arith)) (omega arith) (omega arith)))
    n
    narrow

no_needless : (limit : ℕ) (ds : List ℕ) → 48 < get_or ds 0 0 → number_up_to limit ds ≡ number_from limit 0 ds
no_needless limit [] high = absurd (omega arith)
no_needless limit (b ∷ []) high = refl
no_needless limit (b ∷ c ∷ ds) high = grind (arith, common_steps)

number_back_by : (limit n : ℕ) → n < 2 ^ 64 → n ≤ limit → (0 ≡ n) ⊎ (0 < n) → number_up_to limit (decimal n) ≡ Some n
unfolding number_from
number_back_by limit n narrow fits (inl e) = rw (← e, decimal_digit 0 (omega arith)) (grind (arith, common_steps))
number_back_by limit n narrow fits (inr more) = no_needless limit (decimal n) (first_decimal n more narrow) ∙ number_from_back limit n narrow fits

-- a number that was written in decimal digits is read
pub number_back : (limit n : ℕ) → n < 2 ^ 64 → n ≤ limit → number_up_to limit (decimal n) ≡ Some n
number_back limit n narrow fits = number_back_by limit n narrow fits (elim (cases_lt 0 n) [ inl lt ↦ inr lt | inr le ↦ inl (omega arith) ])

abbrev read_on : ℕ → List ℕ → ℕ
read_on n [] = n
read_on n (c ∷ cs) = read_on (n * 10 + (c - 48)) cs

digits_fold : FoldsDigits read_on
digits_fold = record { empty = λ n. refl; more = λ n c cs d. refl }

digits_are : IsNumeralModel (λ ds. all_ascii_digits ds ≡ true) (read_on 0)
digits_are = numerals_by_fold _ tells_all_ascii_digits read_on digits_fold

-- the result of number_from: the value of the digits, within the limit
record Found (limit v n : ℕ) (ds : List ℕ) : Type 0 where
  digits : all_ascii_digits ds ≡ true
  value : read_on v ds ≡ n
  within : n ≤ limit

number_found : (limit v n : ℕ) (ds : List ℕ) → v ≤ limit → number_from limit v ds ≡ Some n → Found limit v n ds
unfolding number_from
number_found limit v n [] low e = record { digits = refl; value = cc; within = grind (arith, common_steps) }
number_found limit v n (b ∷ ds) low e =
    let onward : v * 10 + (b - 48) ≤ limit → number_from limit (v * 10 + (b - 48)) ds ≡ Some n → Found limit (v * 10 + (b - 48)) n ds = number_found limit (v * 10 + (b - 48)) n ds in
    record { digits = grind (arith, common_steps, onward); value = grind (arith, common_steps, onward); within = grind (arith, common_steps, onward) }

spells_by : (limit n : ℕ) (text : List ℕ) → limit < 2 ^ 64 → 0 < length text → (get_or text 0 0 ≡ 48 → length text ≡ 1) → number_from limit 0 text ≡ Some n → (n ≤ limit) × (text ≡ decimal n)
spells_by limit n text narrow some needed e =
    let found = number_found limit 0 n text (omega arith) e in
    let below : read_on 0 text < 2 ^ 64 = rw found.value (omega (arith, found.within)) in
    (found.within, sym (decimal-digits_value digits_are text found.digits some needed below) ∙ ap decimal found.value)

-- no digit follows a first 0
no_zero_first : (limit n b c : ℕ) (text : List ℕ) → number_up_to limit (b ∷ c ∷ text) ≡ Some n → (b ≢ 48) × (number_from limit 0 (b ∷ c ∷ text) ≡ Some n)
no_zero_first limit n b c text e = (λ zero. grind (arith, common_steps), grind (arith, common_steps))

-- what is read was written in decimal digits
pub number_spells : (limit n : ℕ) (text : List ℕ) → limit < 2 ^ 64 → number_up_to limit text ≡ Some n → (n ≤ limit) × (text ≡ decimal n)
number_spells limit n [] narrow e = absurd cc
number_spells limit n (b ∷ []) narrow e = spells_by limit n (b ∷ []) narrow (omega arith) (λ zero. refl) e
number_spells limit n (b ∷ c ∷ text) narrow e =
    let parts = no_zero_first limit n b c text e in
    spells_by limit n (b ∷ c ∷ text) narrow (omega arith) (λ zero. absurd (parts.0 zero)) parts.1

-- ---- bytes that aren't in a text

-- a byte that is in neither of two texts isn't in their concatenation
pub free_both : (byte : ℕ) (xs ys : List ℕ) → is_free byte xs ≡ true → is_free byte ys ≡ true → is_free byte (xs ++ ys) ≡ true
unfolding is_free
free_both byte [] ys one two = two
free_both byte (x ∷ xs) ys one two = grind (arith, common_steps, free_both byte xs ys)

free_digit : (byte d : ℕ) → byte < 48 → is_free byte ((48 + d) ∷ []) ≡ true
unfolding is_free
free_digit byte d low = grind (arith, common_steps)

-- no byte below the digits (blank and LF among them) is part of a number
pub free_decimal : (byte n : ℕ) → byte < 48 → n < 2 ^ 64 → is_free byte (decimal n) ≡ true
free_decimal byte n low narrow =
    decimal_by_steps
    (λ n ds. is_free byte ds ≡ true)
    (λ n digit. free_digit byte n low)
    (λ n ds high prefix. free_both byte ds ((48 + n % 10) ∷ []) prefix (free_digit byte (n % 10) low))
    n
    narrow
