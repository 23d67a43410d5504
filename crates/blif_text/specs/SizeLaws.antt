-- What a text lists is no larger than the text.
use Rattle.std.proofs.Common.{◌≡◌, ℕ, suc, ◌+◌, ◌≤◌, true, false, List, [], ◌∷◌, ◌++◌, length, Option, Some, None, refl, arith, length-append}
use Rattle.std.specs.Prelude.{◌==◌}
use Rattle.std.specs.List.{sum_by}
use Rattle.std.proofs.lemmas.Bool.{cond_both}
use Rattle.std.proofs.lemmas.List.Sums.{sum_by-cons}
use Rattle.text_core.specs.Lines.{Line, lines_from, lines_of}
use Rattle.net_document.specs.Contents.{is_blank, without_last, content_of}
use Rattle.net_document.specs.SizeLaws.{without_found, content_short}
use Rattle.blif_text.specs.Logical.{Logical, begun_at, going_on, ended_by, line_then, logical_from, logical_of}
use Rattle.blif_text.specs.Words.{word_then, words_from, words_of}

-- ---- all lines

abbrev lines_size : List Line → ℕ
lines_size ls = sum_by (λ (l : Line). length l.text) ls

lines_short : (prefix bytes : List ℕ) → lines_size (lines_from prefix bytes) ≤ length prefix + length bytes
unfolding lines_from
lines_short [] [] = omega arith
lines_short (c ∷ cs) [] = let e = sum_by-cons (λ (l : Line). length l.text) (record { text = c ∷ cs; ended = false }) [] in omega (arith, e)
lines_short prefix (b ∷ bs) =
    cond_both (b == 10) (record { text = prefix; ended = true } ∷ lines_from [] bs) (lines_from (prefix ++ b ∷ []) bs) (λ (ls : List Line). lines_size ls ≤ length prefix + suc (length bs))
    (λ e. let f = sum_by-cons (λ (l : Line). length l.text) (record { text = prefix; ended = true }) (lines_from [] bs) in omega (arith, f, lines_short [] bs))
    (λ e. omega (arith, lines_short (prefix ++ b ∷ []) bs, length-append prefix (b ∷ [])))

abbrev pub said_size : List Logical → ℕ
said_size ls = sum_by (λ (l : Logical). length l.text) ls

said_cons : (l : Logical) (ls : List Logical) → said_size (l ∷ ls) ≡ length l.text + said_size ls
said_cons l ls = sum_by-cons (λ (x : Logical). length x.text) l ls

logical_end : (number : ℕ) (j : Logical) (l : Line) (ls : List Line) (r : Option (List ℕ)) → without_last 92 (content_of l) ≡ r →
    (said_size (logical_from (number + 1) (begun_at (number + 1)) ls) ≤ 0 + lines_size ls) →
    ((prefix : List ℕ) → said_size (logical_from (number + 1) (going_on j l prefix) ls) ≤ length (j.text ++ (prefix ++ 32 ∷ [])) + lines_size ls) →
    said_size (line_then r (ended_by j l ∷ logical_from (number + 1) (begun_at (number + 1)) ls) (λ prefix. logical_from (number + 1) (going_on j l prefix) ls)) ≤ length j.text + lines_size (l ∷ ls)
logical_end number j l ls None e rest on =
    let size = sum_by-cons (λ (x : Line). length x.text) l ls in
    omega (arith, size, content_short l, said_cons (ended_by j l) (logical_from (number + 1) (begun_at (number + 1)) ls), length-append j.text (content_of l), rest)
logical_end number j l ls (Some prefix) e rest on =
    let size = sum_by-cons (λ (x : Line). length x.text) l ls in
    omega (arith, size, content_short l, without_found 92 (content_of l) prefix e, length-append j.text (prefix ++ 32 ∷ []), length-append prefix (32 ∷ []), on prefix)

logical_short : (number : ℕ) (j : Logical) (ls : List Line) → said_size (logical_from number j ls) ≤ length j.text + lines_size ls
unfolding logical_from
logical_short number j [] =
    cond_both (number == j.first) [] (j ∷ []) (λ (xs : List Logical). said_size xs ≤ length j.text + 0)
    (λ e. omega arith)
    (λ e. omega (arith, said_cons j []))
logical_short number j (l ∷ ls) =
    logical_end number j l ls (without_last 92 (content_of l)) refl
    (logical_short (number + 1) (begun_at (number + 1)) ls)
    (λ prefix. logical_short (number + 1) (going_on j l prefix) ls)

pub text_short : (number : ℕ) (bytes : List ℕ) → said_size (logical_of number bytes) ≤ length bytes
text_short number bytes = omega (arith, logical_short number (begun_at number) (lines_of bytes), lines_short [] bytes)

pub said_size-cons : (l : Logical) (ls : List Logical) → said_size (l ∷ ls) ≡ length l.text + said_size ls
said_size-cons l ls = said_cons l ls

-- ---- words

-- the number of bytes of words, with one blank for each
abbrev pub words_size : List (List ℕ) → ℕ
words_size ws = sum_by (λ (w : List ℕ). length w + 1) ws

pub words_size-cons : (w : List ℕ) (ws : List (List ℕ)) → words_size (w ∷ ws) ≡ length w + 1 + words_size ws
words_size-cons w ws = sum_by-cons (λ (x : List ℕ). length x + 1) w ws

then_short : (prefix : List ℕ) (ws : List (List ℕ)) (k : ℕ) → words_size ws ≤ k → words_size (word_then prefix ws) ≤ length prefix + 1 + k
then_short [] ws k h = omega (arith, h)
then_short (b ∷ bs) ws k h = omega (arith, h, words_size-cons (b ∷ bs) ws)

words_short : (prefix text : List ℕ) → words_size (words_from prefix text) ≤ length prefix + length text + 1
unfolding words_from
words_short prefix [] = omega (arith, then_short prefix [] 0 (omega arith))
words_short prefix (b ∷ bs) =
    cond_both (is_blank b) (word_then prefix (words_from [] bs)) (words_from (prefix ++ b ∷ []) bs) (λ (ws : List (List ℕ)). words_size ws ≤ length prefix + suc (length bs) + 1)
    (λ e. omega (arith, then_short prefix (words_from [] bs) (0 + length bs + 1) (words_short [] bs)))
    (λ e. omega (arith, words_short (prefix ++ b ∷ []) bs, length-append prefix (b ∷ [])))

pub words_fit : (text : List ℕ) → words_size (words_of text) ≤ length text + 1
words_fit text = omega (arith, words_short [] text)
