-- Written lines are parsed back.
use Rattle.std.proofs.Common.{◌≡◌, ℕ, ◌+◌, ◌≤◌, Bool, true, false, List, [], ◌∷◌, ◌++◌, length, Option, refl, ap, ◌∙◌, sym, subst, append_assoc, append-nil}
use Rattle.std.specs.Prelude.{◌==◌, ◌||◌, not, nat_lt, Result, Ok}
use Rattle.std.specs.List.{list_any}
use Rattle.std.proofs.lemmas.Bool.{and_parts, cond-true, cond-false, or_from, false_from_ne_true, both_ways, eqb-true, le-ltb}
use Rattle.text_core.specs.Lines.{lines_of}
use Rattle.text_core.specs.Words.{is_free}
use Rattle.text_core.specs.ReadBack.{line_back}
use Rattle.net_theory.specs.Document.{Name, is_name, is_name_byte}
use Rattle.net_document.specs.Contents.{is_blank, before_from, before_comment, trimmed, or_whole, content_of}
use Rattle.net_document.specs.EndLaws.{trimmed-other, without_last-push}
use Rattle.blif_text.specs.Words.{word_then, has_long}
use Rattle.blif_text.specs.Reading.{◌>>=◌}
use Rattle.net_document.specs.Listed.{Listed}
use Rattle.bench_text.specs.Items.{is_mark, is_mark_item, items_from, items_of}
use Rattle.bench_text.specs.Statements.{stated, step, steps}
use Rattle.bench_text.specs.SaidLaws.{IsPlainName}
use Rattle.net_theory.specs.Limits.{most_line_bytes}

-- ---- bytes

-- a byte of a word
pub record IsWordByte (b : ℕ) : Type 0 where
  pub blank : is_blank b ≡ false
  pub mark : is_mark b ≡ false

abbrev pub AreWordBytes : List ℕ → Type 0
AreWordBytes [] = Unit {0}
AreWordBytes (b ∷ bs) = IsWordByte b × AreWordBytes bs

-- no `#` and no LF
abbrev pub AreClean : List ℕ → Type 0
AreClean [] = Unit {0}
AreClean (b ∷ bs) = ((b == 35) ≡ false) × ((b == 10) ≡ false) × AreClean bs

pub clean_both : (xs ys : List ℕ) → AreClean xs → AreClean ys → AreClean (xs ++ ys)
clean_both [] ys a b = b
clean_both (x ∷ xs) ys a b = (a.0, a.1, clean_both xs ys a.2 b)

other_byte : (byte b : ℕ) → is_name_byte byte ≡ false → is_name_byte b ≡ true → (b == byte) ≡ false
other_byte byte b never is = false_from_ne_true (b == byte) (λ same. both_ways (is_name_byte byte) never (subst (λ (x : ℕ). is_name_byte x ≡ true) (eqb-true b byte same) is))

name_byte : (b : ℕ) → is_name_byte b ≡ true → is_mark b ≡ false → IsWordByte b
name_byte b is plain = record { blank = or_from (b == 32) (b == 9) (other_byte 32 b refl is) (other_byte 9 b refl is); mark = plain }

or_head : (a b : Bool) → (a || b) ≡ false → a ≡ false
or_head false b e = refl
or_head true b e = absurd cc

or_tail : (a b : Bool) → (a || b) ≡ false → b ≡ false
or_tail false b e = e
or_tail true b e = absurd cc

name_bytes : (n : Name) → is_name n ≡ true → list_any is_mark n ≡ false → AreWordBytes n
unfolding is_name
name_bytes [] e plain = absurd cc
name_bytes (b ∷ []) e plain = (name_byte b (and_parts (is_name_byte b) (not (b == 92)) e).0 (or_head (is_mark b) false plain), tt)
name_bytes (b ∷ c ∷ bs) e plain =
    let p = and_parts (is_name_byte b) (is_name (c ∷ bs)) e in
    (name_byte b p.0 (or_head (is_mark b) (list_any is_mark (c ∷ bs)) plain), name_bytes (c ∷ bs) p.1 (or_tail (is_mark b) (list_any is_mark (c ∷ bs)) plain))

name_clean : (n : Name) → is_name n ≡ true → AreClean n
unfolding is_name
name_clean [] e = tt
name_clean (b ∷ []) e = let p = and_parts (is_name_byte b) (not (b == 92)) e in (other_byte 35 b refl p.0, other_byte 10 b refl p.0, tt)
name_clean (b ∷ c ∷ bs) e = let p = and_parts (is_name_byte b) (is_name (c ∷ bs)) e in (other_byte 35 b refl p.0, other_byte 10 b refl p.0, name_clean (c ∷ bs) p.1)

-- ---- words and marks

-- a word of a line: nonempty, without blanks and marks
pub record IsText (w : List ℕ) : Type 0 where
  pub first : ℕ
  pub rest : List ℕ
  pub is : w ≡ first ∷ rest
  pub bytes : AreWordBytes w

some_text : (w : List ℕ) → is_name w ≡ true → AreWordBytes w → IsText w
unfolding is_name
some_text [] e bytes = absurd cc
some_text (b ∷ bs) e bytes = record { first = b; rest = bs; is = refl; bytes = bytes }

pub name_text : (n : Name) → IsPlainName n → IsText n
name_text n is = some_text n is.name.spelled (name_bytes n is.name.spelled is.plain)

pub plain_clean : (n : Name) → IsPlainName n → AreClean n
plain_clean n is = name_clean n is.name.spelled

mark_item : (n : Name) → list_any is_mark n ≡ false → is_mark_item n ≡ false
mark_item [] e = refl
mark_item (b ∷ []) e = or_head (is_mark b) false e
mark_item (b ∷ c ∷ bs) e = refl

pub plain_item : (n : Name) → IsPlainName n → is_mark_item n ≡ false
plain_item n is = mark_item n is.plain

prefix_on : (prefix w rest : List ℕ) → AreWordBytes w → items_from prefix (w ++ rest) ≡ items_from (prefix ++ w) rest
unfolding items_from
prefix_on prefix [] rest is = ap (λ (xs : List ℕ). items_from xs rest) (sym (append-nil prefix))
prefix_on prefix (b ∷ w) rest is =
    cond-false (is_blank b) _ _ is.0.blank
    ∙ cond-false (is_mark b) _ _ is.0.mark
    ∙ prefix_on (prefix ++ b ∷ []) w rest is.1
    ∙ ap (λ (xs : List ℕ). items_from xs rest) (append_assoc prefix (b ∷ []) w)

mark_on : (prefix rest : List ℕ) (m : ℕ) → is_blank m ≡ false → is_mark m ≡ true → items_from prefix (m ∷ rest) ≡ word_then prefix ((m ∷ []) ∷ items_of rest)
unfolding items_from
mark_on prefix rest m blank mark = cond-false (is_blank m) _ _ blank ∙ cond-true (is_mark m) _ _ mark

blank_on : (prefix rest : List ℕ) → items_from prefix (32 ∷ rest) ≡ word_then prefix (items_of rest)
unfolding items_from
blank_on prefix rest = refl

then_text : (w : List ℕ) (ws : List (List ℕ)) → IsText w → word_then w ws ≡ w ∷ ws
then_text w ws is = subst (λ (xs : List ℕ). word_then xs ws ≡ xs ∷ ws) (sym is.is) refl

-- a word before a mark
pub word_mark : (w rest : List ℕ) (m : ℕ) → IsText w → is_blank m ≡ false → is_mark m ≡ true → items_of (w ++ m ∷ rest) ≡ w ∷ (m ∷ []) ∷ items_of rest
word_mark w rest m is blank mark = prefix_on [] w (m ∷ rest) is.bytes ∙ mark_on w rest m blank mark ∙ then_text w ((m ∷ []) ∷ items_of rest) is

-- a word before a blank
pub word_blank : (w rest : List ℕ) → IsText w → items_of (w ++ 32 ∷ rest) ≡ w ∷ items_of rest
word_blank w rest is = prefix_on [] w (32 ∷ rest) is.bytes ∙ blank_on w rest ∙ then_text w (items_of rest) is

pub mark_first : (rest : List ℕ) (m : ℕ) → is_blank m ≡ false → is_mark m ≡ true → items_of (m ∷ rest) ≡ (m ∷ []) ∷ items_of rest
mark_first rest m blank mark = mark_on [] rest m blank mark

pub blank_first : (rest : List ℕ) → items_of (32 ∷ rest) ≡ items_of rest
blank_first rest = blank_on [] rest

pub no_items : items_of [] ≡ []
unfolding items_from
no_items = refl

-- ---- lines

before_clean : (prefix text : List ℕ) → AreClean text → before_from prefix text ≡ prefix ++ text
unfolding before_from
before_clean prefix [] is = sym (append-nil prefix)
before_clean prefix (b ∷ bs) is = cond-false (b == 35) _ _ is.0 ∙ before_clean (prefix ++ b ∷ []) bs is.2 ∙ append_assoc prefix (b ∷ []) bs

clean_free : (text : List ℕ) → AreClean text → is_free 10 text ≡ true
unfolding is_free
clean_free [] is = refl
clean_free (b ∷ bs) is = cond-false (b == 10) _ _ is.1 ∙ clean_free bs is.2

-- a line that ends with a parenthesis is its own content
bracket_content : (prefix : List ℕ) → AreClean (prefix ++ 41 ∷ []) → content_of (record { text = prefix ++ 41 ∷ []; ended = true }) ≡ prefix ++ 41 ∷ []
bracket_content prefix is =
    ap (λ (r : Option (List ℕ)). trimmed (before_comment (or_whole (prefix ++ 41 ∷ []) r))) (without_last-push 13 prefix 41)
    ∙ ap trimmed (before_clean [] (prefix ++ 41 ∷ []) is)
    ∙ trimmed-other prefix 41 refl

step_on : (line : ℕ) (s t : Listed) (prefix : List ℕ) (items : List (List ℕ)) → AreClean (prefix ++ 41 ∷ []) →
    length (prefix ++ 41 ∷ []) ≤ most_line_bytes → items_of (prefix ++ 41 ∷ []) ≡ items → has_long items ≡ false →
    stated line s items ≡ Ok t → step line s (record { text = prefix ++ 41 ∷ []; ended = true }) ≡ Ok t
unfolding step
step_on line s t prefix items clean short is long said =
    let same : items_of (content_of (record { text = prefix ++ 41 ∷ []; ended = true })) ≡ items = ap items_of (bracket_content prefix clean) ∙ is in
    cond-false (nat_lt most_line_bytes (length (prefix ++ 41 ∷ []))) _ _ (le-ltb most_line_bytes (length (prefix ++ 41 ∷ [])) short)
    ∙ cond-false _ _ _ (ap has_long same ∙ long)
    ∙ ap (stated line s) same
    ∙ said

shape : (prefix rest : List ℕ) → (prefix ++ 41 ∷ 10 ∷ []) ++ rest ≡ (prefix ++ 41 ∷ []) ++ 10 ∷ rest
shape prefix rest = append_assoc prefix (41 ∷ 10 ∷ []) rest ∙ sym (append_assoc prefix (41 ∷ []) (10 ∷ rest))

-- one step of the parser, on a line that ends with a parenthesis
pub line_on : (line : ℕ) (s t : Listed) (prefix rest : List ℕ) (items : List (List ℕ)) → AreClean (prefix ++ 41 ∷ []) →
    length (prefix ++ 41 ∷ []) ≤ most_line_bytes → items_of (prefix ++ 41 ∷ []) ≡ items → has_long items ≡ false →
    stated line s items ≡ Ok t → steps line s (lines_of ((prefix ++ 41 ∷ 10 ∷ []) ++ rest)) ≡
    steps (line + 1) t (lines_of rest)
unfolding steps
line_on line s t prefix rest items clean short is long said =
    ap (λ (xs : List ℕ). steps line s (lines_of xs)) (shape prefix rest)
    ∙ ap (steps line s) (line_back (prefix ++ 41 ∷ []) rest (clean_free (prefix ++ 41 ∷ []) clean))
    ∙ ap (λ (r : Result Listed _). r >>= λ x. steps (line + 1) x (lines_of rest)) (step_on line s t prefix items clean short is long said)
