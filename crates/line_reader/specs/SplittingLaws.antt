-- Texts that are fed in pieces: lines that come in parts, and the text that a reader was fed.
use Rattle.std.proofs.Common.{◌≡◌, ℕ, ◌+◌, ◌<◌, true, false, List, [], ◌∷◌, ◌++◌, length, map, refl, sym, ap, subst, ◌∙◌, arith, append_assoc, append-nil, length-append}
use Rattle.std.specs.List.{flat_map, AllByRecursion}
use Rattle.std.proofs.lemmas.Grind.{common_steps, flat_map-append}
use Rattle.std.proofs.lemmas.List.{length-map}
use Rattle.std.proofs.lemmas.List.Elements.{All-push, recursion_from_All}
use Rattle.text_core.specs.Lines.{Line, lines_from, lines_of, last_line, line_bytes}
use Rattle.text_core.specs.Words.{is_free}
use Rattle.text_core.specs.ReadBack.{lines_spell, free_both}
use Rattle.line_reader.specs.Splits.{HasNoEnd, with_end, IsSplit, IsPlace}

-- ---- lines

-- a text without an LF joins the line that was begun before it
pub lines_on : (prefix text rest : List ℕ) → HasNoEnd text → lines_from prefix (text ++ rest) ≡ lines_from (prefix ++ text) rest
unfolding lines_from is_free
lines_on prefix [] rest free = grind (arith, common_steps)
lines_on prefix (b ∷ text) rest free = grind (arith, common_steps, lines_on (prefix ++ b ∷ []) text rest)

-- and an LF ends it
pub line_on : (prefix text rest : List ℕ) → HasNoEnd text → lines_from prefix (with_end text ++ rest) ≡ record { text = prefix ++ text; ended = true } ∷ lines_of rest
unfolding lines_from
line_on prefix text rest free = ap (lines_from prefix) (append_assoc text (10 ∷ []) rest) ∙ lines_on prefix text (10 ∷ rest) free

-- the text of a line has no LF
first_free : (prefix bytes : List ℕ) (l : Line) (ls : List Line) → HasNoEnd prefix → lines_from prefix bytes ≡ l ∷ ls → HasNoEnd l.text
unfolding lines_from is_free
first_free [] [] l ls free e = absurd cc
first_free (x ∷ xs) [] l ls free e = let same : record { text = x ∷ xs; ended = false } ≡ l = cc in subst (λ (y : Line). HasNoEnd y.text) same free
first_free prefix (b ∷ bytes) l ls free e = grind (arith, common_steps, free_both 10 prefix (b ∷ []), first_free (prefix ++ b ∷ []) bytes l ls)

pub line_free : (bytes : List ℕ) (l : Line) (ls : List Line) → lines_of bytes ≡ l ∷ ls → HasNoEnd l.text
unfolding is_free
line_free bytes l ls e = first_free [] bytes l ls refl e

-- a line, with its LF, is followed by the rest of the bytes
pub bytes_are : (bytes rest : List ℕ) (l : Line) → lines_of bytes ≡ l ∷ lines_of rest → bytes ≡ line_bytes l ++ rest
bytes_are bytes rest l e =
    sym (lines_spell bytes) ∙ ap (flat_map line_bytes) e ∙ ap (λ (xs : List ℕ). line_bytes l ++ xs) (lines_spell rest)

-- ---- splitting

pub split_none : IsSplit [] 1 []
unfolding is_free
split_none = record { lines = []; are_lines = λ k d inside. absurd (omega (arith, inside)); is_unfinished = refl; text_is = refl; number_is = refl }

pub split_part : (before text unfinished : List ℕ) (number : ℕ) → IsSplit before number unfinished → HasNoEnd text → IsSplit (before ++ text) number (unfinished ++ text)
split_part before text unfinished number split free = record {
  lines = split.lines;
  are_lines = split.are_lines;
  is_unfinished = free_both 10 unfinished text split.is_unfinished free;
  text_is = ap (λ (xs : List ℕ). xs ++ text) split.text_is ∙ append_assoc (flat_map with_end split.lines) unfinished text;
  number_is = split.number_is;
}

pub split_line : (before text unfinished : List ℕ) (number : ℕ) → IsSplit before number unfinished → HasNoEnd text → IsSplit (before ++ with_end text) (number + 1) []
unfolding is_free
split_line before text unfinished number split free =
    let line : List ℕ = unfinished ++ text in
    record {
      lines = split.lines ++ line ∷ [];
      are_lines = All-push HasNoEnd split.lines line split.are_lines (free_both 10 unfinished text split.is_unfinished free);
      is_unfinished = refl;
      text_is =
          ap (λ (xs : List ℕ). xs ++ with_end text) split.text_is
          ∙ append_assoc (flat_map with_end split.lines) unfinished (with_end text)
          ∙ ap (λ (xs : List ℕ). flat_map with_end split.lines ++ xs) (sym (append_assoc unfinished text (10 ∷ [])) ∙ sym (append-nil (with_end line)))
          ∙ sym (flat_map-append with_end split.lines (line ∷ []))
          ∙ sym (append-nil (flat_map with_end (split.lines ++ line ∷ [])));
      number_is = let count = length-append split.lines (line ∷ []) in omega (arith, count, split.number_is);
    }

-- ---- the number of a line is its position among all lines

abbrev whole_line : List ℕ → Line
whole_line text = record { text = text; ended = true }

split_lines : (lines : List (List ℕ)) (more : List ℕ) → AllByRecursion HasNoEnd lines → lines_of (flat_map with_end lines ++ more) ≡ map whole_line lines ++ lines_of more
split_lines [] more free = refl
split_lines (x ∷ xs) more free =
    ap lines_of (append_assoc (with_end x) (flat_map with_end xs) more)
    ∙ line_on [] x (flat_map with_end xs ++ more) free.0
    ∙ ap (λ (ls : List Line). whole_line x ∷ ls) (split_lines xs more free.1)

pub split_place : (text unfinished rest : List ℕ) (number : ℕ) → IsSplit text number unfinished → IsPlace number (lines_from unfinished rest) (lines_of (text ++ rest))
split_place text unfinished rest number split = record {
  prefix = map whole_line split.lines;
  all_is =
      ap lines_of (ap (λ (xs : List ℕ). xs ++ rest) split.text_is ∙ append_assoc (flat_map with_end split.lines) unfinished rest)
      ∙ split_lines split.lines (unfinished ++ rest) (recursion_from_All HasNoEnd split.lines split.are_lines)
      ∙ ap (λ (ls : List Line). map whole_line split.lines ++ ls) (lines_on [] unfinished rest split.is_unfinished);
  number_is = let count = length-map split.lines whole_line in omega (arith, count, split.number_is);
}

pub place_on : (number : ℕ) (ls : List Line) (l : Line) (all : List Line) → IsPlace number (l ∷ ls) all → IsPlace (number + 1) ls all
place_on number ls l all is = record {
  prefix = is.prefix ++ l ∷ [];
  all_is = is.all_is ∙ sym (append_assoc is.prefix (l ∷ []) ls);
  number_is = let count = length-append is.prefix (l ∷ []) in omega (arith, count, is.number_is);
}

-- ---- the end

pub last_none : (unfinished : List ℕ) → length unfinished ≡ 0 → last_line unfinished ≡ []
last_none [] none = refl
last_none (b ∷ bs) none = absurd (omega arith)

pub last_is : (unfinished : List ℕ) → 0 < length unfinished → last_line unfinished ≡ record { text = unfinished; ended = false } ∷ []
last_is [] some = absurd (omega arith)
last_is (b ∷ bs) some = refl

pub last_by : (unfinished text : List ℕ) → text ≡ unfinished → 0 < length unfinished → last_line unfinished ≡ record { text = text; ended = false } ∷ []
last_by unfinished text same some =
    subst (λ (xs : List ℕ). last_line unfinished ≡ record { text = xs; ended = false } ∷ []) (sym same) (last_is unfinished some)

pub none_of : (xs : List ℕ) → length xs ≡ 0 → xs ≡ []
none_of [] none = refl
none_of (x ∷ xs) none = absurd (omega arith)

pub nothing_before : (line unfinished text : List ℕ) → line ≡ text → unfinished ≡ [] → line ≡ unfinished ++ text
nothing_before line unfinished text same none = same ∙ ap (λ (xs : List ℕ). xs ++ text) (sym none)
