-- Lines of names are parsed as these names.
use Rattle.std.specs.Prelude.{◌≡◌, ℕ, ◌+◌, ◌*◌, ◌≤◌, true, false, not, ◌==◌, nat_lt, List, [], ◌∷◌, ◌++◌, length, All, Option, None, refl}
use Rattle.std.proofs.Common.{arith, sym, ◌∙◌, ap, subst, append_assoc, append-nil, length-append}
use Rattle.std.proofs.lemmas.Bool.{and_parts, not-true, cond-true, cond-false, or_from, false_from_ne_true, both_ways, eqb-true, le-ltb}
use Rattle.std.proofs.lemmas.List.Elements.{All-head, All-tail}
use Rattle.text_core.specs.Lines.{Line, lines_of}
use Rattle.text_core.specs.Words.{is_free}
use Rattle.text_core.specs.ReadBack.{line_back, free_both}
use Rattle.net_theory.specs.Document.{Name, IsName, is_name, is_name_byte}
use Rattle.net_document.specs.Contents.{is_blank, before_from, before_comment, trimmed, without_last, or_whole, content_of}
use Rattle.blif_text.specs.Logical.{Logical, begun_at, ended_by, going_on, line_then, logical_from, logical_of}
use Rattle.blif_text.specs.Words.{word_then, words_from, words_of, has_long}
use Rattle.blif_text.specs.Statements.{Said, stated, step}
use Rattle.net_document.specs.EndLaws.{trimmed-other, without_last-push}
use Rattle.blif_core.specs.Spelling.{words_text}
use Rattle.net_theory.specs.Limits.{most_name_bytes, most_line_bytes}

-- a line of words, separated by blanks
abbrev pub line_of : Name → List Name → List ℕ
line_of w ws = w ++ words_text ws

-- ---- bytes

-- the last byte isn't removed at the end of a line
record EndsWell (text : List ℕ) : Type 0 where
  prefix : List ℕ
  last : ℕ
  is : text ≡ prefix ++ last ∷ []
  good : is_name_byte last ≡ true
  other : (last == 92) ≡ false

end_more : (b : ℕ) (text : List ℕ) → EndsWell text → EndsWell (b ∷ text)
end_more b text e = record { prefix = b ∷ e.prefix; last = e.last; is = ap (λ (xs : List ℕ). b ∷ xs) e.is; good = e.good; other = e.other }

end_after : (xs ys : List ℕ) → EndsWell ys → EndsWell (xs ++ ys)
end_after [] ys e = e
end_after (x ∷ xs) ys e = end_more x (xs ++ ys) (end_after xs ys e)

name_end : (n : Name) → is_name n ≡ true → EndsWell n
unfolding is_name
name_end [] e = absurd cc
name_end (b ∷ []) e = let p = and_parts (is_name_byte b) (not (b == 92)) e in record { prefix = []; last = b; is = refl; good = p.0; other = not-true (b == 92) p.1 }
name_end (b ∷ c ∷ bs) e = let p = and_parts (is_name_byte b) (is_name (c ∷ bs)) e in end_more b (c ∷ bs) (name_end (c ∷ bs) p.1)

line_end : (w : Name) (ws : List Name) → All IsName (w ∷ ws) → EndsWell (line_of w ws)
line_end w [] all = subst EndsWell (sym (append-nil w)) (name_end w (All-head IsName w [] all).spelled)
line_end w (v ∷ ws) all = end_after w (words_text (v ∷ ws)) (end_more 32 (line_of v ws) (line_end v ws (All-tail IsName w (v ∷ ws) all)))

-- a byte that names can't contain is in no name
other_byte : (byte b : ℕ) → is_name_byte byte ≡ false → is_name_byte b ≡ true → (b == byte) ≡ false
other_byte byte b never is = false_from_ne_true (b == byte) (λ same. both_ways (is_name_byte byte) never (subst (λ (x : ℕ). is_name_byte x ≡ true) (eqb-true b byte same) is))

free_cons : (byte b : ℕ) (bs : List ℕ) → (b == byte) ≡ false → is_free byte bs ≡ true → is_free byte (b ∷ bs) ≡ true
unfolding is_free
free_cons byte b bs other free = cond-false (b == byte) _ _ other ∙ free

free_nil : (byte : ℕ) → is_free byte [] ≡ true
unfolding is_free
free_nil byte = refl

name_free : (byte : ℕ) (n : Name) → is_name_byte byte ≡ false → is_name n ≡ true → is_free byte n ≡ true
unfolding is_name
name_free byte [] never e = absurd cc
name_free byte (b ∷ []) never e = free_cons byte b [] (other_byte byte b never (and_parts (is_name_byte b) (not (b == 92)) e).0) (free_nil byte)
name_free byte (b ∷ c ∷ bs) never e =
    let p = and_parts (is_name_byte b) (is_name (c ∷ bs)) e in
    free_cons byte b (c ∷ bs) (other_byte byte b never p.0) (name_free byte (c ∷ bs) never p.1)

words_free : (byte : ℕ) (ws : List Name) → is_name_byte byte ≡ false → (32 == byte) ≡ false → All IsName ws → is_free byte (words_text ws) ≡ true
words_free byte [] never blank all = free_nil byte
words_free byte (w ∷ ws) never blank all =
    free_cons byte 32 (w ++ words_text ws) blank
    (free_both byte w (words_text ws) (name_free byte w never (All-head IsName w ws all).spelled) (words_free byte ws never blank (All-tail IsName w ws all)))

line_free : (byte : ℕ) (w : Name) (ws : List Name) → is_name_byte byte ≡ false → (32 == byte) ≡ false → All IsName (w ∷ ws) → is_free byte (line_of w ws) ≡ true
line_free byte w ws never blank all = free_both byte w (words_text ws) (name_free byte w never (All-head IsName w ws all).spelled) (words_free byte ws never blank (All-tail IsName w ws all))

-- ---- logical lines

before_free : (prefix text : List ℕ) → is_free 35 text ≡ true → before_from prefix text ≡ prefix ++ text
unfolding before_from is_free
before_free prefix [] free = sym (append-nil prefix)
before_free prefix (b ∷ bs) free =
    let other : (b == 35) ≡ false = false_from_ne_true (b == 35) (λ e. let f : false ≡ true = sym (cond-true (b == 35) _ _ e) ∙ free in cc) in
    cond-false (b == 35) _ _ other
    ∙ before_free (prefix ++ b ∷ []) bs (sym (cond-false (b == 35) _ _ other) ∙ free)
    ∙ append_assoc prefix (b ∷ []) bs

no_last : (c : ℕ) (text : List ℕ) (e : EndsWell text) → (e.last == c) ≡ false → without_last c text ≡ None
no_last c text e other = ap (without_last c) e.is ∙ without_last-push c e.prefix e.last ∙ cond-false (e.last == c) _ _ other

trimmed_end : (text : List ℕ) → EndsWell text → trimmed text ≡ text
trimmed_end text e =
    ap trimmed e.is
    ∙ trimmed-other e.prefix e.last (or_from (e.last == 32) (e.last == 9) (other_byte 32 e.last refl e.good) (other_byte 9 e.last refl e.good))
    ∙ sym e.is

content_same : (w : Name) (ws : List Name) → All IsName (w ∷ ws) → content_of (record { text = line_of w ws; ended = true }) ≡ line_of w ws
content_same w ws all =
    let e = line_end w ws all in
    ap (λ r. trimmed (before_comment (or_whole (line_of w ws) r))) (no_last 13 (line_of w ws) e (other_byte 13 e.last refl e.good))
    ∙ ap trimmed (before_free [] (line_of w ws) (line_free 35 w ws refl refl all))
    ∙ trimmed_end (line_of w ws) e

-- a written line is one logical line
pub logical_line : (n : ℕ) (w : Name) (ws : List Name) (rest : List ℕ) → All IsName (w ∷ ws) →
    logical_of n (line_of w ws ++ 10 ∷ rest) ≡ record { first = n; size = 0 + length (line_of w ws); text = line_of w ws } ∷ logical_of (n + 1) rest
unfolding logical_from
logical_line n w ws rest all =
    let e = line_end w ws all in
    let l : Line = record { text = line_of w ws; ended = true } in
    let content = content_same w ws all in
    let none : without_last 92 (content_of l) ≡ None = ap (without_last 92) content ∙ no_last 92 (line_of w ws) e e.other in
    ap (logical_from n (begun_at n)) (line_back (line_of w ws) rest (line_free 10 w ws refl refl all))
    ∙ ap (λ (r : Option (List ℕ)). line_then r (ended_by (begun_at n) l ∷ logical_of (n + 1) rest) (λ prefix. logical_from (n + 1) (going_on (begun_at n) l prefix) (lines_of rest))) none
    ∙ ap (λ (text : List ℕ). let j : Logical = record { first = n; size = 0 + length (line_of w ws); text = text } in j ∷ logical_of (n + 1) rest) content

-- ---- words

word_on : (prefix w rest : List ℕ) → is_free 32 w ≡ true → is_free 9 w ≡ true → words_from prefix (w ++ rest) ≡ words_from (prefix ++ w) rest
unfolding words_from is_free
word_on prefix [] rest no_blank no_tab = ap (λ (xs : List ℕ). words_from xs rest) (sym (append-nil prefix))
word_on prefix (b ∷ w) rest no_blank no_tab =
    let blank : (b == 32) ≡ false = false_from_ne_true (b == 32) (λ e. let f : false ≡ true = sym (cond-true (b == 32) _ _ e) ∙ no_blank in cc) in
    let tab : (b == 9) ≡ false = false_from_ne_true (b == 9) (λ e. let f : false ≡ true = sym (cond-true (b == 9) _ _ e) ∙ no_tab in cc) in
    cond-false (is_blank b) _ _ (or_from (b == 32) (b == 9) blank tab)
    ∙ word_on (prefix ++ b ∷ []) w rest (sym (cond-false (b == 32) _ _ blank) ∙ no_blank) (sym (cond-false (b == 9) _ _ tab) ∙ no_tab)
    ∙ ap (λ (xs : List ℕ). words_from xs rest) (append_assoc prefix (b ∷ []) w)

name_on : (w : Name) (rest : List ℕ) → is_name w ≡ true → words_from [] (w ++ rest) ≡ words_from w rest
name_on w rest e = word_on [] w rest (name_free 32 w refl e) (name_free 9 w refl e)

then_name : (w : Name) (ws : List (List ℕ)) → is_name w ≡ true → word_then w ws ≡ w ∷ ws
unfolding is_name
then_name [] ws e = absurd cc
then_name (b ∷ bs) ws e = refl

words_end : (w : Name) → is_name w ≡ true → words_from w [] ≡ w ∷ []
unfolding words_from
words_end w e = then_name w [] e

words_blank : (w : Name) (rest : List ℕ) → is_name w ≡ true → words_from w (32 ∷ rest) ≡ w ∷ words_of rest
unfolding words_from
words_blank w rest e = then_name w (words_of rest) e

-- the words of a written line
pub words_back : (w : Name) (ws : List Name) → All IsName (w ∷ ws) → words_of (line_of w ws) ≡ w ∷ ws
words_back w [] all =
    let e = (All-head IsName w [] all).spelled in
    name_on w [] e ∙ words_end w e
words_back w (v ∷ ws) all =
    let e = (All-head IsName w (v ∷ ws) all).spelled in
    name_on w (words_text (v ∷ ws)) e
    ∙ words_blank w (line_of v ws) e
    ∙ ap (λ (xs : List Name). w ∷ xs) (words_back v ws (All-tail IsName w (v ∷ ws) all))

none_long : (ws : List Name) → All IsName ws → has_long ws ≡ false
unfolding has_long
none_long [] all = refl
none_long (w ∷ ws) all =
    or_from (nat_lt most_name_bytes (length w)) (has_long ws) (le-ltb most_name_bytes (length w) (All-head IsName w ws all).short) (none_long ws (All-tail IsName w ws all))

words_size : (ws : List Name) → All IsName ws → length (words_text ws) ≤ 1025 * length ws
words_size [] all = omega arith
words_size (w ∷ ws) all =
    let short = (All-head IsName w ws all).short in
    let rest = words_size ws (All-tail IsName w ws all) in
    omega (arith, short, rest, length-append w (words_text ws))

line_size : (w : Name) (ws : List Name) → All IsName (w ∷ ws) → length (line_of w ws) ≤ 1024 + 1025 * length ws
line_size w ws all =
    let short = (All-head IsName w ws all).short in
    let rest = words_size ws (All-tail IsName w ws all) in
    omega (arith, short, rest, length-append w (words_text ws))

-- one step of the parser, on a written line
pub step_line : (s : Said) (n : ℕ) (w : Name) (ws : List Name) → All IsName (w ∷ ws) → length ws ≤ 1000 →
    step s (record { first = n; size = 0 + length (line_of w ws); text = line_of w ws }) ≡ stated n s (w ∷ ws)
unfolding step
step_line s n w ws all few =
    let short : nat_lt most_line_bytes (0 + length (line_of w ws)) ≡ false = le-ltb most_line_bytes (0 + length (line_of w ws)) (let size = line_size w ws all in omega (arith, size, few)) in
    let words = words_back w ws all in
    cond-false _ _ _ short
    ∙ cond-false _ _ _ (ap has_long words ∙ none_long (w ∷ ws) all)
    ∙ ap (stated n s) words
