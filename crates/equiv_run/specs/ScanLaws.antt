-- The scan for `.end`, line by line.
use Rattle.std.proofs.Common.{◌≡◌, ℕ, ◌+◌, ◌-◌, ◌≤◌, ◌==◌, Bool, true, false, List, [], ◌∷◌, ◌++◌, length, All, Option}
use Rattle.std.proofs.Common.{Some, None, drop, refl, sym, ap, ◌∙◌, subst, arith, ⊎_elim, append_assoc, append-nil}
use Rattle.std.proofs.Common.{length-append}
use Rattle.std.specs.Prelude.{if◌then◌else◌}
use Rattle.std.specs.Borrow.{Bor}
use Rattle.std.specs.List.{flat_map}
use Rattle.std.proofs.lemmas.Bool.{cases_Bool, cond-true, cond-false, cond_both, eq-eqb, ne_eqb}
use Rattle.std.proofs.lemmas.Grind.{flat_map-append}
use Rattle.std.proofs.lemmas.List.Elements.{All-nil, All-cons, All-append, All-push}
use Rattle.text_core.specs.Lines.{Line, lines_from, lines_of, line_bytes}
use Rattle.text_core.specs.ReadBack.{lines_spell}
use Rattle.text_core.specs.Rest.{IsRest, whole_rest, rest_of_rest}
use Rattle.net_document.specs.Contents.{is_blank, without_last, content_of}
use Rattle.blif_text.specs.Words.{word_then, words_from, words_of}
use Rattle.blif_text.specs.Walks.{words_in}
use Rattle.blif_text.specs.Logical.{Logical, begun_at, going_on, ended_by, line_then, logical_from, logical_of}
use Rattle.equiv_run.specs.Split.{piece_then, first_ends, is_known_end, says_end, logical_lines, or_first, split_from, split_of, IsSplit, HasNoEnd}
use Rattle.equiv_run.specs.Scanning.{IsScanned}

-- ---- first words

pub first_word : (text : List ℕ) (x : Option (Bor (List ℕ) × Bor (List ℕ))) → words_of text ≡ words_in x → first_ends (words_of text) ≡ first_ends (words_in x)
first_word text x is = ap first_ends is

first_both : (ws vs : List (List ℕ)) → first_ends (ws ++ vs) ≡ or_first (first_ends ws) (first_ends vs)
first_both [] vs = refl
first_both (w ∷ ws) vs = refl

then_both : (front : List ℕ) (ws vs : List (List ℕ)) → word_then front (ws ++ vs) ≡ word_then front ws ++ vs
then_both [] ws vs = refl
then_both (b ∷ bs) ws vs = refl

-- a new word begins after a blank
words_both : (front text more : List ℕ) → words_from front (text ++ 32 ∷ more) ≡ words_from front text ++ words_of more
unfolding words_from
words_both front [] more = then_both front [] (words_of more)
words_both front (b ∷ bs) more =
    ⊎_elim
    (λ (e : is_blank b ≡ true). cond-true (is_blank b) _ _ e ∙ ap (word_then front) (words_both [] bs more)
    ∙ then_both front (words_from [] bs) (words_of more)
    ∙ ap (λ (ws : List (List ℕ)). ws ++ words_of more)
    (sym (cond-true (is_blank b) (word_then front (words_from [] bs)) (words_from (front ++ b ∷ []) bs) e)))
    (λ (e : is_blank b ≡ false). cond-false (is_blank b) _ _ e ∙ words_both (front ++ b ∷ []) bs more
    ∙ ap (λ (ws : List (List ℕ)). ws ++ words_of more)
    (sym (cond-false (is_blank b) (word_then front (words_from [] bs)) (words_from (front ++ b ∷ []) bs) e)))
    (cases_Bool (is_blank b))

pub first_parted : (text more : List ℕ) → first_ends (words_of (text ++ 32 ∷ more)) ≡ or_first (first_ends (words_of text)) (first_ends (words_of more))
first_parted text more = ap first_ends (words_both [] text more) ∙ first_both (words_of text) (words_of more)

first_none : first_ends (words_of []) ≡ None
unfolding words_from
first_none = refl

or_none : (x : Option Bool) → or_first x None ≡ x
or_none None = refl
or_none (Some b) = refl

or_both : (x y z : Option Bool) → or_first (or_first x y) z ≡ or_first x (or_first y z)
or_both None y z = refl
or_both (Some b) y z = refl

first_blank : (text : List ℕ) → first_ends (words_of (text ++ 32 ∷ [])) ≡ first_ends (words_of text)
first_blank text = first_parted text [] ∙ ap (or_first (first_ends (words_of text))) first_none ∙ or_none (first_ends (words_of text))

-- ---- lines

line_size : (l : Line) → length (line_bytes l) ≡ length l.text + (if l.ended then 1 else 0)
line_size l =
    ⊎_elim
    (λ (e : l.ended ≡ true). rw e (length-append l.text (10 ∷ [])))
    (λ (e : l.ended ≡ false). rw e (let z : length l.text ≡ length l.text + 0 = omega arith in z))
    (cases_Bool l.ended)

-- the next line, split off from the rest of the text
pub record IsNextLine (left rest : List ℕ) (l : Line) : Type 0 where
  pub lines : lines_of left ≡ l ∷ lines_of rest
  pub size : length left ≡ length l.text + (if l.ended then 1 else 0) + length rest
  pub rest_is : IsRest left rest

taken_size : (left rest : List ℕ) (l : Line) → IsNextLine left rest l → length left ≡ length (line_bytes l) + length rest
taken_size left rest l next_line_is = omega (arith, next_line_is.size, line_size l)

-- a continued line, and one that ends the current logical line
logical_on : (number : ℕ) (j : Logical) (l : Line) (ls : List Line) (front : List ℕ) →
    without_last 92 (content_of l) ≡ Some front →
    logical_from number j (l ∷ ls) ≡ logical_from (number + 1) (going_on j l front) ls
unfolding logical_from
logical_on number j l ls front e = ap (λ (r : Option (List ℕ)).
    line_then r (ended_by j l ∷ logical_from (number + 1) (begun_at (number + 1)) ls) (λ front'.
    logical_from (number + 1) (going_on j l front') ls)) e

logical_end : (number : ℕ) (j : Logical) (l : Line) (ls : List Line) → without_last 92 (content_of l) ≡ None → logical_from number j (l ∷ ls) ≡ ended_by j l ∷ logical_lines (number + 1) ls
unfolding logical_from
logical_end number j l ls e = ap (λ (r : Option (List ℕ)).
    line_then r (ended_by j l ∷ logical_from (number + 1) (begun_at (number + 1)) ls) (λ front'.
    logical_from (number + 1) (going_on j l front') ls)) e

logical_nothing : (number : ℕ) → logical_lines number [] ≡ []
unfolding logical_from
logical_nothing number = cond-true (number == number) _ _ (eq-eqb number number refl)

logical_begun : (number : ℕ) (j : Logical) → (number ≡ j.first → ⊥) → logical_from number j [] ≡ j ∷ []
unfolding logical_from
logical_begun number j other = cond-false (number == j.first) _ _ (ne_eqb number j.first other)

logical_last : (P : Logical → Type 0) (number : ℕ) (j : Logical) → P j → All P (logical_from number j [])
unfolding logical_from
logical_last P number j holds = cond_both (number == j.first) [] (j ∷ []) (λ (ls : List Logical). All P ls) (λ e. All-nil P) (λ e. All-cons P j [] holds (All-nil P))

no_lines : lines_of [] ≡ []
unfolding lines_from
no_lines = refl

-- ---- the scan

pub scanned_start : (bytes : List ℕ) → IsScanned bytes bytes None
scanned_start bytes = record {
  front = [];
  whole = refl;
  room = omega arith;
  place_is = (let z : length bytes - length bytes ≡ 0 = omega arith in z);
  left_is = (whole_rest bytes).place;
  others = [];
  number = 1;
  begun = begun_at 1;
  lines = λ ls. refl;
  none_before = All-nil (λ l. says_end l ≡ false);
  first_is = sym first_none;
  parted = λ more. refl;
  late = omega arith;
  nothing_yet = λ e. refl;
}

prefix_size : (front : List Line) (l : Line) → length (flat_map line_bytes (front ++ l ∷ [])) ≡ length (flat_map line_bytes front) + length (line_bytes l)
prefix_size front l = ap length (flat_map-append line_bytes front (l ∷ [])
    ∙ ap (λ (xs : List ℕ). flat_map line_bytes front ++ xs) (append-nil (line_bytes l)))
    ∙ length-append (flat_map line_bytes front) (line_bytes l)

-- after one more line: the offset, and the lines before it
record IsPassed (bytes rest : List ℕ) (front : List Line) : Type 0 where
  whole : lines_of bytes ≡ front ++ lines_of rest
  room : length rest ≤ length bytes
  place_is : length bytes - length rest ≡ length (flat_map line_bytes front)
  left_is : rest ≡ drop (length bytes - length rest) bytes

passed : (bytes left rest : List ℕ) (first : Option Bool) (l : Line) → IsNextLine left rest l → (w : IsScanned bytes left first) → IsPassed bytes rest (w.front ++ l ∷ [])
passed bytes left rest first l next_line_is w =
    let size : length left ≡ length (line_bytes l) + length rest = taken_size left rest l next_line_is in
    let before : IsRest bytes left = record { shorter = w.room; place = w.left_is } in
    record {
      whole = w.whole ∙ ap (λ (ls : List Line). w.front ++ ls) next_line_is.lines ∙ sym (append_assoc w.front (l ∷ []) (lines_of rest));
      room = omega (arith, size, w.room);
      place_is = omega (arith, size, w.room, w.place_is, prefix_size w.front l);
      left_is = (rest_of_rest bytes left rest before next_line_is.rest_is).place;
    }

pub scanned_on : (bytes left rest : List ℕ) (first : Option Bool) (l : Line) (front : List ℕ) →
    IsNextLine left rest l → without_last 92 (content_of l) ≡ Some front → IsScanned bytes left first →
    IsScanned bytes rest (or_first first (first_ends (words_of front)))
scanned_on bytes left rest first l front next_line_is e w =
    let p = passed bytes left rest first l next_line_is w in
    record {
      front = w.front ++ l ∷ [];
      whole = p.whole;
      room = p.room;
      place_is = p.place_is;
      left_is = p.left_is;
      others = w.others;
      number = w.number + 1;
      begun = going_on w.begun l front;
      lines = λ ls. ap (logical_lines 1) (append_assoc w.front (l ∷ []) ls) ∙ w.lines (l ∷ ls) ∙ ap (λ (xs : List Logical). w.others ++ xs) (logical_on w.number w.begun l ls front e);
      none_before = w.none_before;
      first_is = sym (w.parted (front ++ 32 ∷ []) ∙ ap (or_first first) (first_blank front));
      parted = λ more. ap (λ (text : List ℕ). first_ends (words_of text)) (append_assoc w.begun.text (front ++
          32 ∷ []) more ∙ ap (λ (text : List ℕ). w.begun.text ++ text) (append_assoc front (32 ∷ []) more))
          ∙ w.parted (front ++ 32 ∷ more)
          ∙ ap (or_first first) (first_parted front more)
          ∙ sym (or_both first (first_ends (words_of front)) (first_ends (words_of more)));
      late = omega (arith, w.late);
      nothing_yet = λ same. absurd (omega (arith, same, w.late));
    }

-- the first word of the line that ends the current logical line
known_end : (bytes left : List ℕ) (first : Option Bool) (l : Line) → (w : IsScanned bytes left first) →
    says_end (ended_by w.begun l) ≡ is_known_end (or_first first (first_ends (words_of (content_of l))))
known_end bytes left first l w = ap is_known_end (w.parted (content_of l))

pub scanned_past : (bytes left rest : List ℕ) (first : Option Bool) (l : Line) → IsNextLine left rest l →
    without_last 92 (content_of l) ≡ None → is_known_end (or_first first (first_ends (words_of (content_of l)))) ≡
    false → IsScanned bytes left first → IsScanned bytes rest None
scanned_past bytes left rest first l next_line_is e reported w =
    let p = passed bytes left rest first l next_line_is w in
    record {
      front = w.front ++ l ∷ [];
      whole = p.whole;
      room = p.room;
      place_is = p.place_is;
      left_is = p.left_is;
      others = w.others ++ ended_by w.begun l ∷ [];
      number = w.number + 1;
      begun = begun_at (w.number + 1);
      lines = λ ls. ap (logical_lines 1) (append_assoc w.front (l ∷ []) ls) ∙ w.lines (l ∷ ls)
          ∙ ap (λ (xs : List Logical). w.others ++ xs) (logical_end w.number w.begun l ls e)
          ∙ sym (append_assoc w.others (ended_by w.begun l ∷ []) (logical_lines (w.number + 1) ls));
      none_before = All-push (λ x. says_end x ≡ false) w.others (ended_by w.begun l) w.none_before (known_end bytes left first l w ∙ reported);
      first_is = sym first_none;
      parted = λ more. refl;
      late = omega arith;
      nothing_yet = λ same. refl;
    }

pub scanned_end : (bytes left rest : List ℕ) (first : Option Bool) (l : Line) → IsNextLine left rest l →
    without_last 92 (content_of l) ≡ None → is_known_end (or_first first (first_ends (words_of (content_of l)))) ≡
    true → IsScanned bytes left first → IsSplit bytes (length bytes - length rest)
scanned_end bytes left rest first l next_line_is e reported w =
    let p = passed bytes left rest first l next_line_is w in
    let last : Logical = ended_by w.begun l in
    let own : logical_lines 1 (w.front ++ l ∷ []) ≡ w.others ++ last ∷ [] =
    w.lines (l ∷ []) ∙ ap (λ (xs : List Logical). w.others ++ xs) (logical_end w.number w.begun l [] e
    ∙ ap (λ (xs : List Logical). last ∷ xs) (logical_nothing (w.number + 1))) in
    record {
      front = w.front ++ l ∷ [];
      after = lines_of rest;
      whole = p.whole;
      place_is = p.place_is;
      after_is = ap lines_of (sym p.left_is);
      others = w.others;
      last = last;
      lines = own;
      ends = known_end bytes left first l w ∙ reported;
      none_before = w.none_before;
      number = w.number + 1;
      parted = ap (logical_lines 1) (p.whole ∙ append_assoc w.front (l ∷ []) (lines_of rest))
          ∙ w.lines (l ∷ lines_of rest)
          ∙ ap (λ (xs : List Logical). w.others ++ xs) (logical_end w.number w.begun l (lines_of rest) e)
          ∙ sym (append_assoc w.others (last ∷ []) (logical_lines (w.number + 1) (lines_of rest)))
          ∙ ap (λ (xs : List Logical). xs ++ logical_lines (w.number + 1) (lines_of rest)) (sym own);
    }

no_bytes : (left : List ℕ) → length left ≡ 0 → lines_of left ≡ []
no_bytes [] none = no_lines
no_bytes (b ∷ bs) none = absurd (omega arith)

known_some : (first : Option Bool) → is_known_end first ≡ true → first ≡ None → ⊥
known_some None reported none = cc
known_some (Some b) reported none = cc

-- at the end of the text
pub scanned_whole : (bytes left : List ℕ) (first : Option Bool) → length left ≡ 0 → is_known_end first ≡ true → IsScanned bytes left first → IsSplit bytes (length bytes)
scanned_whole bytes left first none reported w =
    let all : lines_of bytes ≡ w.front = w.whole ∙ ap (λ (ls : List Line). w.front ++ ls) (no_bytes left none) ∙ append-nil w.front in
    let at : length bytes - length left ≡ length bytes = omega arith in
    let own : logical_lines 1 w.front ≡ w.others ++ w.begun ∷ [] = ap (logical_lines 1) (sym (append-nil w.front))
    ∙ w.lines [] ∙ ap (λ (xs : List Logical). w.others ++
    xs) (logical_begun w.number w.begun (λ same. known_some first reported (w.nothing_yet same))) in
    record {
      front = w.front;
      after = [];
      whole = all ∙ sym (append-nil w.front);
      place_is = sym at ∙ w.place_is;
      after_is = ap (λ (k : ℕ). lines_of (drop k bytes)) (sym at) ∙ ap lines_of (sym w.left_is) ∙ no_bytes left none;
      others = w.others;
      last = w.begun;
      lines = own;
      ends = ap is_known_end (sym w.first_is) ∙ reported;
      none_before = w.none_before;
      number = 1;
      parted = ap (logical_lines 1) all ∙ sym (append-nil (logical_lines 1 w.front)) ∙ ap (λ (xs : List Logical). logical_lines 1 w.front ++ xs) (sym (logical_nothing 1));
    }

pub scanned_none : (bytes left : List ℕ) (first : Option Bool) → length left ≡ 0 → is_known_end first ≡ false → IsScanned bytes left first → HasNoEnd bytes
scanned_none bytes left first none reported w =
    let all : logical_of 1 bytes ≡ w.others ++ logical_from w.number w.begun [] = ap (logical_lines 1) (w.whole ∙ ap (λ (ls : List Line). w.front ++ ls) (no_bytes left none)) ∙ w.lines [] in
    subst (λ (ls : List Logical). All (λ l. says_end l ≡ false) ls) (sym all)
    (All-append (λ l. says_end l ≡ false) w.others (logical_from w.number w.begun []) w.none_before
    (logical_last (λ l. says_end l ≡ false) w.number w.begun (ap is_known_end (sym w.first_is) ∙ reported)))

-- without lines no bytes are left
pub nothing_left : (left : List ℕ) → lines_of left ≡ [] → length left ≡ 0
nothing_left left none = ap length (sym (lines_spell left) ∙ ap (flat_map line_bytes) none)

-- the next line, as the reader splits it off
pub taken_line : (left rest text : List ℕ) (ended : Bool) →
    lines_of left ≡ record { text = text; ended = ended } ∷ lines_of rest →
    length left ≡ length text + (if ended then 1 else 0) + length rest → IsRest left rest →
    IsNextLine left rest (record { text = text; ended = ended })
taken_line left rest text ended lines size rest_is = record { lines = lines; size = size; rest_is = rest_is }

-- ---- the same, line by line

place_on : (bytes left rest : List ℕ) (l : Line) → IsNextLine left rest l → length left ≤ length bytes → length bytes - length left + length (line_bytes l) ≡ length bytes - length rest
place_on bytes left rest l next_line_is room = omega (arith, taken_size left rest l next_line_is, room)

split_piece : (place : ℕ) (first : Option Bool) (left rest : List ℕ) (l : Line) (r : Option (List ℕ)) →
    lines_of left ≡ l ∷ lines_of rest → without_last 92 (content_of l) ≡ r →
    split_from place first (lines_of left) ≡ piece_then r
    (if is_known_end (or_first first (first_ends (words_of (content_of l)))) then Some (place + length (line_bytes l)) else split_from (place + length (line_bytes l)) None (lines_of rest))
    (λ front. split_from (place + length (line_bytes l)) (or_first first (first_ends (words_of front))) (lines_of rest))
unfolding split_from
split_piece place first left rest l r lines e = ap (split_from place first) lines ∙ ap (λ (x : Option (List ℕ)). piece_then x
    (if is_known_end (or_first first (first_ends (words_of (content_of l)))) then Some (place + length (line_bytes l)) else split_from (place + length (line_bytes l)) None (lines_of rest))
    (λ front. split_from (place + length (line_bytes l)) (or_first first (first_ends (words_of front))) (lines_of rest))) e

pub split_on : (bytes left rest : List ℕ) (first : Option Bool) (l : Line) (front : List ℕ) → IsNextLine left rest l →
    length left ≤ length bytes → without_last 92 (content_of l) ≡ Some front →
    split_from (length bytes - length left) first (lines_of left) ≡ split_of bytes →
    split_from (length bytes - length rest) (or_first first (first_ends (words_of front))) (lines_of rest) ≡
    split_of bytes
split_on bytes left rest first l front next_line_is room e same =
    ap (λ (k : ℕ). split_from k (or_first first (first_ends (words_of front))) (lines_of rest)) (sym (place_on bytes left rest l next_line_is room))
    ∙ sym (split_piece (length bytes - length left) first left rest l (Some front) next_line_is.lines e) ∙ same

pub split_past : (bytes left rest : List ℕ) (first : Option Bool) (l : Line) → IsNextLine left rest l →
    length left ≤ length bytes → without_last 92 (content_of l) ≡ None →
    is_known_end (or_first first (first_ends (words_of (content_of l)))) ≡ false →
    split_from (length bytes - length left) first (lines_of left) ≡ split_of bytes →
    split_from (length bytes - length rest) None (lines_of rest) ≡ split_of bytes
split_past bytes left rest first l next_line_is room e reported same =
    ap (λ (k : ℕ). split_from k None (lines_of rest)) (sym (place_on bytes left rest l next_line_is room))
    ∙ sym (split_piece (length bytes - length left) first left rest l None next_line_is.lines e ∙ cond-false (is_known_end (or_first first (first_ends (words_of (content_of l))))) _ _ reported) ∙ same

pub split_end : (bytes left rest : List ℕ) (first : Option Bool) (l : Line) → IsNextLine left rest l →
    length left ≤ length bytes → without_last 92 (content_of l) ≡ None →
    is_known_end (or_first first (first_ends (words_of (content_of l)))) ≡ true →
    split_from (length bytes - length left) first (lines_of left) ≡ split_of bytes →
    Some (length bytes - length rest) ≡ split_of bytes
split_end bytes left rest first l next_line_is room e reported same =
    ap (λ (k : ℕ). Some k) (sym (place_on bytes left rest l next_line_is room))
    ∙ sym (split_piece (length bytes - length left) first left rest l None next_line_is.lines e ∙ cond-true (is_known_end (or_first first (first_ends (words_of (content_of l))))) _ _ reported) ∙ same

split_nothing : (place : ℕ) (first : Option Bool) (left : List ℕ) → lines_of left ≡ [] → split_from place first (lines_of left) ≡ (if is_known_end first then Some place else None)
unfolding split_from
split_nothing place first left none = ap (split_from place first) none

pub split_whole : (bytes left : List ℕ) (first : Option Bool) → lines_of left ≡ [] → is_known_end first ≡ true →
    split_from (length bytes - length left) first (lines_of left) ≡ split_of bytes →
    Some (length bytes) ≡ split_of bytes
split_whole bytes left first none reported same =
    ap (λ (k : ℕ). Some k) (let at : length bytes ≡ length bytes - length left = omega (arith, nothing_left left none) in at)
    ∙ sym (split_nothing (length bytes - length left) first left none ∙ cond-true (is_known_end first) _ _ reported) ∙ same

pub split_none : (bytes left : List ℕ) (first : Option Bool) → lines_of left ≡ [] → is_known_end first ≡ false →
    split_from (length bytes - length left) first (lines_of left) ≡ split_of bytes → None ≡ split_of bytes
split_none bytes left first none reported same = sym (split_nothing (length bytes - length left) first left none ∙ cond-false (is_known_end first) _ _ reported) ∙ same

pub split_start : (bytes : List ℕ) → split_from (length bytes - length bytes) None (lines_of bytes) ≡ split_of bytes
split_start bytes = ap (λ (k : ℕ). split_from k None (lines_of bytes)) (let z : length bytes - length bytes ≡ 0 = omega arith in z)
