-- A reader and the text that it represents, after one more piece.
use Rattle.std.proofs.Common.{◌≡◌, ℕ, ◌+◌, true, List, [], ◌∷◌, ◌++◌, Result, Ok, Err, sym, ap, subst, ◌∙◌, append_assoc, append-nil}
use Rattle.std.specs.Result.{IsErrAnd}
use Rattle.std.specs.List.{flat_map}
use Rattle.std.proofs.lemmas.Grind.{common_steps}
use Rattle.text_core.specs.Lines.{Line, lines_from, lines_of, last_line, line_bytes}
use Rattle.text_core.specs.ReadBack.{lines_spell, free_both}
use Rattle.line_reader.specs.Splits.{HasNoEnd, with_end, IsPlace}
use Rattle.line_reader.specs.SplittingLaws.{lines_on, line_on, line_free, bytes_are, split_none, split_part, split_line, split_place}
use Rattle.line_reader.specs.Reader.{Reader, StandsFor, IsRefused, HasRead, Judged}

-- what a stage says of the lines to come and of all lines
abbrev pub Standing : Type 0 → Type 1
Standing S = S → ℕ → List Line → List Line → Type 0

-- ---- readers

pub stands_new : {S : Type 0} (stands : Standing S) (stage : S) (unfinished : List ℕ) → unfinished ≡ [] →
    ((text : List ℕ) → stands stage 1 (lines_of text) (lines_of text)) →
    StandsFor stands (record { stage = stage; number = 1; unfinished = unfinished }) []
stands_new {S} stands stage unfinished none begins =
    subst (λ (xs : List ℕ). StandsFor stands (record { stage = stage; number = 1; unfinished = xs }) []) (sym none)
    (record { split = split_none; stands = begins })

-- a text without an LF joins the unfinished line
part_stands : {S : Type 0} (stands : Standing S) (stage : S) (number : ℕ) (unfinished before text : List ℕ) →
    HasNoEnd text → StandsFor stands (record { stage = stage; number = number; unfinished = unfinished }) before →
    StandsFor stands (record { stage = stage; number = number; unfinished = unfinished ++ text }) (before ++ text)
part_stands {S} stands stage number unfinished before text free is = record {
  split = split_part before text unfinished number is.split free;
  stands = λ rest.
      subst (λ (lines : List Line). stands stage number lines (lines_of ((before ++ text) ++ rest))) (lines_on unfinished text rest free)
      (subst (λ (whole : List ℕ). stands stage number (lines_from unfinished (text ++ rest)) (lines_of whole)) (sym (append_assoc before text rest)) (is.stands (text ++ rest)));
}

pub stands_part : {S : Type 0} (stands : Standing S) (stage : S) (number : ℕ)
    (unfinished longer before text : List ℕ) → HasNoEnd text → longer ≡ unfinished ++ text →
    StandsFor stands (record { stage = stage; number = number; unfinished = unfinished }) before →
    StandsFor stands (record { stage = stage; number = number; unfinished = longer }) (before ++ text)
stands_part {S} stands stage number unfinished longer before text free same is =
    subst (λ (xs : List ℕ). StandsFor stands (record { stage = stage; number = number; unfinished = xs }) (before ++ text)) (sym same)
    (part_stands stands stage number unfinished before text free is)

-- ---- a whole line

-- the stage after a whole line
abbrev pub WasTaken : {S F : Type 0} → Standing S → (F → List Line → Type 0) → S → ℕ → List ℕ → Result S F → Type 0
WasTaken stands refuses stage number line result = (lines ls all : List Line) → HasNoEnd line →
    IsPlace number lines all → stands stage number lines all → lines ≡ record { text = line; ended = true } ∷ ls →
    Judged stands refuses result (number + 1) ls all

judged_line : {S F : Type 0} (stands : Standing S) (refuses : F → List Line → Type 0) (stage : S) (number : ℕ)
    (unfinished before text line rest : List ℕ) (result : Result S F) → HasNoEnd text → line ≡ unfinished ++ text →
    WasTaken stands refuses stage number line result →
    StandsFor stands (record { stage = stage; number = number; unfinished = unfinished }) before →
    Judged stands refuses result (number + 1) (lines_of rest) (lines_of ((before ++ with_end text) ++ rest))
judged_line {S} {F} stands refuses stage number unfinished before text line rest result free same taken is =
    subst (λ (whole : List ℕ). Judged stands refuses result (number + 1) (lines_of rest) (lines_of whole)) (sym (append_assoc before (with_end text) rest))
    (taken (lines_from unfinished (with_end text ++ rest)) (lines_of rest) (lines_of (before ++ (with_end text ++ rest)))
    (subst HasNoEnd (sym same) (free_both 10 unfinished text is.split.is_unfinished free))
    (split_place before unfinished (with_end text ++ rest) number is.split)
    (is.stands (with_end text ++ rest))
    (line_on unfinished text rest free ∙ ap (λ (xs : List ℕ). let l : Line = record { text = xs; ended = true } in l ∷ lines_of rest) (sym same)))

pub stands_line : {S F : Type 0} (stands : Standing S) (refuses : F → List Line → Type 0) (stage : S) (number : ℕ)
    (unfinished before text line left : List ℕ) (next : S) → HasNoEnd text → line ≡ unfinished ++ text → left ≡ [] →
    WasTaken stands refuses stage number line (Ok next) →
    StandsFor stands (record { stage = stage; number = number; unfinished = unfinished }) before →
    StandsFor stands (record { stage = next; number = number + 1; unfinished = left })
    (before ++ with_end text)
stands_line {S} {F} stands refuses stage number unfinished before text line left next free same none taken is =
    subst (λ (xs : List ℕ). StandsFor stands (record { stage = next; number = number + 1; unfinished = xs }) (before ++ with_end text)) (sym none)
    (record {
      split = split_line before text unfinished number is.split free;
      stands = λ rest. judged_line stands refuses stage number unfinished before text line rest (Ok next) free same taken is;
    })

pub refused_line : {S F : Type 0} (stands : Standing S) (refuses : F → List Line → Type 0) (stage : S) (number : ℕ)
    (unfinished before text line : List ℕ) (e : F) → HasNoEnd text → line ≡ unfinished ++ text →
    WasTaken stands refuses stage number line (Err e) →
    StandsFor stands (record { stage = stage; number = number; unfinished = unfinished }) before →
    IsRefused refuses e (before ++ with_end text)
refused_line {S} {F} stands refuses stage number unfinished before text line e free same taken is = λ rest.
    judged_line stands refuses stage number unfinished before text line rest (Err e) free same taken is

-- a refusal that is passed on
pub has_err : {R S F : Type 0} (view : R → Reader S) (stands : Standing S) (refuses : F → List Line →
    Type 0) (r : Result R F) (e : F) (text : List ℕ) → IsErrAnd r (λ d. d ≡ e) → IsRefused refuses e text →
    HasRead view stands refuses r text
has_err {R} {S} {F} view stands refuses (Ok reader) e text is refused = absurd is
has_err {R} {S} {F} view stands refuses (Err d) e text is refused = subst (λ (x : F). IsRefused refuses x text) (sym is) refused

-- ---- pieces

-- The text that a reader represents, followed by what is left, is the whole text.
pub record IsBefore {S : Type 0} (are_lines : Standing S) (r : Reader S) (left all : List ℕ) : Type 0 where
  pub text : List ℕ
  pub stands : StandsFor are_lines r text
  pub is : text ++ left ≡ all

pub before_all : {S : Type 0} (stands : Standing S) (r : Reader S) (left all : List ℕ) → lines_of left ≡ [] → IsBefore stands r left all → StandsFor stands r all
before_all {S} stands r left all none before =
    let empty : left ≡ [] = sym (lines_spell left) ∙ ap (flat_map line_bytes) none in
    subst (λ (xs : List ℕ). StandsFor stands r xs) (sym (append-nil before.text) ∙ ap (λ (xs : List ℕ). before.text ++ xs) (sym empty) ∙ before.is) before.stands

regrouped : {S : Type 0} (stands : Standing S) (r : Reader S) (left rest all : List ℕ) (l : Line) →
    lines_of left ≡ l ∷ lines_of rest → (before : IsBefore stands r left all) → (before.text ++ line_bytes l) ++
    rest ≡ all
regrouped {S} stands r left rest all l split before = append_assoc before.text (line_bytes l) rest ∙ ap (λ (xs : List ℕ). before.text ++ xs) (sym (bytes_are left rest l split)) ∙ before.is

-- the state after one more line
abbrev pub Goes : {R S F : Type 0} → (R → Reader S) → Standing S → (F → List Line → Type 0) → Reader S → Line → Result R F → Type 0
Goes view stands refuses r l result = (before : List ℕ) → HasNoEnd l.text → StandsFor stands r before → HasRead view stands refuses result (before ++ line_bytes l)

pub before_more : {R S F : Type 0} (view : R → Reader S) (stands : Standing S) (refuses : F → List Line →
    Type 0) (r : Reader S) (next : R) (left rest all : List ℕ) (l : Line) → lines_of left ≡ l ∷ lines_of rest →
    Goes view stands refuses r l (Ok next) → IsBefore stands r left all → IsBefore stands (view next) rest all
before_more {R} {S} {F} view stands refuses r next left rest all l split goes before = record {
  text = before.text ++ line_bytes l;
  stands = goes before.text (line_free left l (lines_of rest) split) before.stands;
  is = regrouped stands r left rest all l split before;
}

pub before_refused : {R S F : Type 0} (view : R → Reader S) (stands : Standing S) (refuses : F → List Line →
    Type 0) (r : Reader S) (left rest all : List ℕ) (l : Line) (e : F) → lines_of left ≡ l ∷ lines_of rest →
    Goes view stands refuses r l (Err e) → IsBefore stands r left all → IsRefused refuses e all
before_refused {R} {S} {F} view stands refuses r left rest all l e split goes before = λ more.
    let whole = regrouped stands r left rest all l split before in
    subst (λ (xs : List ℕ). refuses e (lines_of xs)) (sym (append_assoc (before.text ++ line_bytes l) rest more) ∙ ap (λ (xs : List ℕ). xs ++ more) whole)
    (goes before.text (line_free left l (lines_of rest) split) before.stands (rest ++ more))

-- ---- the end

pub stands_end : {S : Type 0} (stands : Standing S) (r : Reader S) (text : List ℕ) → StandsFor stands r text → stands r.stage r.number (last_line r.unfinished) (lines_of text)
unfolding lines_from
stands_end {S} stands r text is = subst (λ (whole : List ℕ). stands r.stage r.number (last_line r.unfinished) (lines_of whole)) (append-nil text) (is.stands [])

pub place_end : {S : Type 0} (stands : Standing S) (r : Reader S) (text : List ℕ) → StandsFor stands r text → IsPlace r.number (last_line r.unfinished) (lines_of text)
unfolding lines_from
place_end {S} stands r text is = subst (λ (whole : List ℕ). IsPlace r.number (last_line r.unfinished) (lines_of whole)) (append-nil text) (split_place text r.unfinished [] r.number is.split)

pub ruleset readers = (common_steps)
