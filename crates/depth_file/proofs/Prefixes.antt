-- The lines of a text up to the first line `end`, as bytes.
use Rattle.std.proofs.Common.{◌≡◌, ℕ, suc, ◌<◌, ◌==◌, Bool, true, false, cond, List, [], ◌∷◌, ◌++◌, length, refl, sym, ap, ◌∙◌, subst, arith, append_assoc, append-nil}
use Rattle.text_core.specs.Lines.{Line, lines_of, lines_from, last_line}
use Rattle.text_core.specs.Words.{is_free}
use Rattle.text_core.specs.ReadBack.{line_back, last_line_back, free_both}
use Rattle.cert_theory.specs.Spelling.{end_text, text_of}
use Rattle.cert_theory.specs.SubproblemLines.{is_line}
use Rattle.depth_theory.specs.DepthJudging.{prefix_of, suffix_of}

-- ---- one line more

abbrev pub line : List ℕ → Bool → Line
line text ended = record { text = text; ended = ended }

pub end_here : (l : Line) (rest : List Line) → is_line end_text l ≡ true → (prefix_of (l ∷ rest) ≡ l ∷ []) × (suffix_of (l ∷ rest) ≡ rest)
unfolding prefix_of suffix_of
end_here l rest is = (ap (λ (t : Bool). cond t (l ∷ []) (l ∷ prefix_of rest)) is, ap (λ (t : Bool). cond t rest (suffix_of rest)) is)

pub no_end : (text : List ℕ) (ended : Bool) (rest : List Line) → is_line end_text (line text ended) ≡ false →
    (prefix_of (line text ended ∷ rest) ≡ line text ended ∷ prefix_of rest) ×
    (suffix_of (line text ended ∷ rest) ≡ suffix_of rest)
unfolding prefix_of suffix_of
no_end text ended rest is = (ap (λ (t : Bool). cond t (line text ended ∷ []) (line text ended ∷ prefix_of rest)) is, ap (λ (t : Bool). cond t rest (suffix_of rest)) is)

pub nothing_left : (prefix_of [] ≡ []) × (suffix_of [] ≡ [])
unfolding prefix_of suffix_of
nothing_left = (refl, refl)

-- ---- the bytes

abbrev again : List Line → Type 0
again ls = lines_of (text_of (prefix_of ls)) ≡ prefix_of ls

no_bytes : again []
unfolding prefix_of lines_from
no_bytes = refl

unended_by : (prefix : List ℕ) (b : ℕ) (bs : List ℕ) → is_free 10 (b ∷ bs) ≡ true → again (line (b ∷ bs) false ∷ [])
unfolding prefix_of
unended_by prefix b bs free = ap lines_of (append-nil (b ∷ bs)) ∙ last_line_back (b ∷ bs) free (let some : 0 < suc (length bs) = omega arith in some)

last_again : (prefix : List ℕ) → is_free 10 prefix ≡ true → again (last_line prefix)
last_again [] free = no_bytes
last_again (b ∷ bs) free = unended_by [] b bs free

ended_by : (prefix : List ℕ) (ls : List Line) (t : Bool) → is_line end_text (line prefix true) ≡ t → is_free 10 prefix ≡ true → again ls → again (line prefix true ∷ ls)
unfolding prefix_of lines_from
ended_by prefix ls true is free rest =
    let first : prefix_of (line prefix true ∷ ls) ≡ line prefix true ∷ [] = ap (λ (t : Bool). cond t (line prefix true ∷ []) (line prefix true ∷ prefix_of ls)) is in
    ap (λ (xs : List Line). lines_of (text_of xs)) first
    ∙ ap lines_of (append_assoc prefix (10 ∷ []) [])
    ∙ line_back prefix [] free
    ∙ sym first
ended_by prefix ls false is free rest =
    let first : prefix_of (line prefix true ∷ ls) ≡ line prefix true ∷ prefix_of ls = ap (λ (t : Bool). cond t (line prefix true ∷ []) (line prefix true ∷ prefix_of ls)) is in
    ap (λ (xs : List Line). lines_of (text_of xs)) first
    ∙ ap lines_of (append_assoc prefix (10 ∷ []) (text_of (prefix_of ls)))
    ∙ line_back prefix (text_of (prefix_of ls)) free
    ∙ ap (λ (xs : List Line). line prefix true ∷ xs) rest
    ∙ sym first

one_free : (c : ℕ) → (c == 10) ≡ false → is_free 10 (c ∷ []) ≡ true
unfolding is_free
one_free c is = ap (λ (t : Bool). cond t false true) is

free_push : (prefix : List ℕ) (b : ℕ) → is_free 10 prefix ≡ true → (b == 10) ≡ false → is_free 10 (prefix ++ b ∷ []) ≡ true
free_push prefix b free other = free_both 10 prefix (b ∷ []) free (one_free b other)

prefix_by : (prefix : List ℕ) (b : ℕ) (bs : List ℕ) (t : Bool) → (b == 10) ≡ t → is_free 10 prefix ≡ true →
    again (lines_of bs) → ((b == 10) ≡ false → again (lines_from (prefix ++ b ∷ []) bs)) →
    again (lines_from prefix (b ∷ bs))
unfolding lines_from
prefix_by prefix b bs true is free next more =
    let step : lines_from prefix (b ∷ bs) ≡ line prefix true ∷ lines_of bs = ap (λ (t : Bool). cond t (line prefix true ∷ lines_of bs) (lines_from (prefix ++ b ∷ []) bs)) is in
    subst again (sym step) (ended_by prefix (lines_of bs) (is_line end_text (line prefix true)) refl free next)
prefix_by prefix b bs false is free next more =
    let step : lines_from prefix (b ∷ bs) ≡ lines_from (prefix ++ b ∷ []) bs = ap (λ (t : Bool). cond t (line prefix true ∷ lines_of bs) (lines_from (prefix ++ b ∷ []) bs)) is in
    subst again (sym step) (more is)

nothing_from : (prefix : List ℕ) → is_free 10 prefix ≡ true → again (lines_from prefix [])
unfolding lines_from
nothing_from prefix free = last_again prefix free

nothing_free : is_free 10 [] ≡ true
unfolding is_free
nothing_free = refl

prefix_again : (bs prefix : List ℕ) → is_free 10 prefix ≡ true → again (lines_from prefix bs)
prefix_again [] prefix free = nothing_from prefix free
prefix_again (b ∷ bs) prefix free = prefix_by prefix b bs (b == 10) refl free (prefix_again bs [] nothing_free) (λ other. prefix_again bs (prefix ++ b ∷ []) (free_push prefix b free other))

pub prefix_again_of : (bytes : List ℕ) → lines_of (text_of (prefix_of (lines_of bytes))) ≡ prefix_of (lines_of bytes)
prefix_again_of bytes = prefix_again bytes [] nothing_free

-- the first line is at the head
head_by : (l : Line) (ls : List Line) (t : Bool) → is_line end_text l ≡ t → (rest : List Line) × (prefix_of (l ∷ ls) ≡ l ∷ rest)
unfolding prefix_of
head_by l ls true is = ([], ap (λ (t : Bool). cond t (l ∷ []) (l ∷ prefix_of ls)) is)
head_by l ls false is = (prefix_of ls, ap (λ (t : Bool). cond t (l ∷ []) (l ∷ prefix_of ls)) is)

pub prefix_head : (l : Line) (ls : List Line) → (rest : List Line) × (prefix_of (l ∷ ls) ≡ l ∷ rest)
prefix_head l ls = head_by l ls (is_line end_text l) refl
