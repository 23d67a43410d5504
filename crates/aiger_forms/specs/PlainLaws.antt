-- A text that is read as it is has neither bad states nor constraints, so it is its own plain text.
use Rattle.std.proofs.Common.{◌≡◌, ℕ, ◌+◌, ◌≤◌, Bool, true, false, List, [], ◌∷◌, ◌++◌, length, Option, Some, None, refl, ap, ◌∙◌, sym, arith}
use Rattle.std.specs.Prelude.{◌&&◌, ◌||◌, nat_lt, nat_le, Result, Ok, Err, codes}
use Rattle.std.proofs.lemmas.Bool.{cond_both, cond-true, cond-false, le-ltb, ltb-false}
use Rattle.text_core.specs.Items.{items_of}
use Rattle.text_core.specs.Lines.{Line, lines_of}
use Rattle.text_core.specs.Numbers.{number_up_to}
use Rattle.text_core.specs.Words.{after}
use Rattle.net_core.specs.declared.error.NetError.{NetError}
use Rattle.net_core.specs.declared.error.NetError.TheVariants.{Syntax}
use Rattle.aiger_text.specs.declared.file.Counts.{Counts}
use Rattle.aiger_text.specs.File.{AigFile}
use Rattle.aiger_text.specs.Reading.{◌>>=◌}
use Rattle.aiger_text.specs.Limits.{most_variables, most_sources, most_outputs, most_number}
use Rattle.aiger_text.specs.Header.{or_syntax, numbers_of, source_count, letter_if, unsupported_in, counts_by, counts_of, header_of}
use Rattle.aiger_text.specs.Header.{numbers_from as read_from, count_at as read_at}
use Rattle.aiger_text.specs.Statements.{nothing, steps, begun, file_by, file_of}
use Rattle.aiger_sections.specs.Header.{or_nothing, numbers_from, header_numbers, count_at, sections_by, total, is_sectioned}
use Rattle.aiger_sections.specs.Plain.{plain_with, plain_by, plain_of}

-- ---- the numbers of a header

next_number : (numbers ns : List ℕ) (items : List (List ℕ)) (r : Option ℕ) →
    (or_syntax 1 r >>= λ n. read_from 1 most_number (numbers ++ n ∷ []) items) ≡ Ok ns →
    ((n : ℕ) → read_from 1 most_number (numbers ++ n ∷ []) items ≡ Ok ns → numbers_from (numbers ++ n ∷ []) items ≡ ns) →
    or_nothing r (λ n. numbers_from (numbers ++ n ∷ []) items) ≡ ns
next_number numbers ns items None e next = absurd cc
next_number numbers ns items (Some n) e next = next n e

numbers_same : (numbers : List ℕ) (items : List (List ℕ)) (ns : List ℕ) →
    read_from 1 most_number numbers items ≡ Ok ns → numbers_from numbers items ≡ ns
unfolding read_from numbers_from
numbers_same numbers [] ns e = cc
numbers_same numbers (x ∷ xs) ns e =
    next_number numbers ns xs (number_up_to most_number x) e (λ n more. numbers_same (numbers ++ n ∷ []) xs ns more)

-- ---- the counts of bad states and constraints

letter_none : (b : Bool) (letter : List ℕ) (next : Option (List ℕ)) → letter_if b letter next ≡ None →
    (b ≡ false) × (next ≡ None)
letter_none true letter next e = absurd cc
letter_none false letter next e = (refl, e)

none_of_both : (ns : List ℕ) → unsupported_in ns ≡ None → is_sectioned (sections_by ns) ≡ false
unfolding unsupported_in is_sectioned
none_of_both ns e =
    let first = letter_none (nat_lt most_variables (read_at ns 0)) (codes "M") _ e in
    let second = letter_none (nat_lt most_sources (source_count ns)) (codes "I") _ first.1 in
    let third = letter_none (nat_lt most_outputs (read_at ns 3)) (codes "O") _ second.1 in
    let bads = letter_none (nat_lt 0 (read_at ns 5)) (codes "B") _ third.1 in
    let constraints = letter_none (nat_lt 0 (read_at ns 6)) (codes "C") _ bads.1 in
    let no_bad : count_at ns 5 ≤ 0 = ltb-false 0 (count_at ns 5) bads.0 in
    let no_constraint : count_at ns 6 ≤ 0 = ltb-false 0 (count_at ns 6) constraints.0 in
    ap (λ (b : Bool). b && nat_le (total (sections_by ns)) most_number)
    (le-ltb 0 (count_at ns 5 + count_at ns 6) (omega (arith, no_bad, no_constraint)))

counted_none : (ns : List ℕ) (c : Counts) (r : Option (List ℕ)) → counts_by 1 ns r ≡ Ok c → r ≡ None
counted_none ns c None e = refl
counted_none ns c (Some letter) e = absurd cc

counts_none : (ns : List ℕ) (c : Counts) → counts_of 1 ns ≡ Ok c → unsupported_in ns ≡ None
unfolding counts_of
counts_none ns c =
    cond_both (nat_lt (length ns) 5 || nat_lt 9 (length ns)) (Err (Syntax 1)) (counts_by 1 ns (unsupported_in ns))
    (λ (r : Result Counts NetError). r ≡ Ok c → unsupported_in ns ≡ None)
    (λ few e. absurd cc)
    (λ some e. counted_none ns c (unsupported_in ns) e)

read_counts : (items : List (List ℕ)) (c : Counts) (r : Result (List ℕ) NetError) →
    ((ns : List ℕ) → r ≡ Ok ns → numbers_from [] items ≡ ns) → (r >>= λ ns. counts_of 1 ns) ≡ Ok c →
    is_sectioned (sections_by (numbers_from [] items)) ≡ false
read_counts items c (Err x) same e = absurd cc
read_counts items c (Ok ns) same e =
    ap (λ (ms : List ℕ). is_sectioned (sections_by ms)) (same ns refl) ∙ none_of_both ns (counts_none ns c e)

header_by : (c : Counts) (r : Option (List ℕ)) →
    (or_syntax 1 r >>= λ rest. numbers_of 1 most_number rest >>= λ ns. counts_of 1 ns) ≡ Ok c →
    is_sectioned (sections_by (or_nothing r (λ rest. numbers_from [] (items_of rest)))) ≡ false
header_by c None e = absurd cc
header_by c (Some rest) e =
    read_counts (items_of rest) c (numbers_of 1 most_number rest) (λ ns read. numbers_same [] (items_of rest) ns read) e

-- a header that is read says no bad state and no constraint
header_plain : (text : List ℕ) (c : Counts) → header_of (codes "aag ") text ≡ Ok c →
    is_sectioned (sections_by (header_numbers text)) ≡ false
unfolding header_of header_numbers
header_plain text c e = header_by c (after (codes "aag ") text) e

-- ---- texts

plain_unless : (bytes : List ℕ) (ls : List Line) (numbers : List ℕ) → is_sectioned (sections_by numbers) ≡ false →
    plain_with bytes ls numbers ≡ bytes
plain_unless bytes ls numbers e = cond-false (is_sectioned (sections_by numbers)) _ _ e

begun_header : (l : Line) (c : Counts) → l.ended ≡ true → begun l ≡ Ok c → header_of (codes "aag ") l.text ≡ Ok c
unfolding begun
begun_header l c ended e = sym (cond-true l.ended (header_of (codes "aag ") l.text) (Err (Syntax 1)) ended) ∙ e

counts_read : (ls : List Line) (f : AigFile) (r : Result Counts NetError) → (r >>= λ c. steps 2 c (nothing c) ls) ≡ Ok f →
    (c : Counts) × (r ≡ Ok c)
counts_read ls f (Ok c) e = (c, refl)
counts_read ls f (Err x) e = absurd cc

lines_plain : (bytes : List ℕ) (ls : List Line) (f : AigFile) → file_by ls ≡ Ok f → plain_by bytes ls ≡ bytes
lines_plain bytes [] f e = refl
lines_plain bytes (l ∷ ls) f e =
    let read = counts_read ls f (begun l) e in
    cond_both l.ended (plain_with bytes ls (header_numbers l.text)) bytes (λ (text : List ℕ). text ≡ bytes)
    (λ ended. plain_unless bytes ls (header_numbers l.text)
    (header_plain l.text read.0 (begun_header l read.0 ended read.1)))
    (λ other. refl)

pub read_plain : (bytes : List ℕ) (f : AigFile) → file_of bytes ≡ Ok f → plain_of bytes ≡ bytes
unfolding plain_of file_of
read_plain bytes f e = lines_plain bytes (lines_of bytes) f e
