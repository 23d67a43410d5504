-- A file that is parsed is within its limits, and its symbols are names.
use Rattle.std.proofs.Common.{◌≡◌, ℕ, ◌+◌, ◌^◌, ◌≤◌, ◌<◌, Bool, true, false, List, [], ◌∷◌, ◌++◌, length, Option, Some, None, refl, ap, ◌∙◌, sym, subst, arith, length-append}
use Rattle.std.specs.Prelude.{◌&&◌, ◌||◌, nat_lt, nat_le, if◌then◌else◌, Result, Ok, Err, IfOk, All, codes}
use Rattle.std.proofs.lemmas.Grind.{common_steps}
use Rattle.std.proofs.lemmas.Bool.{cond_both, and_parts, ltb-true, ltb-false, leb-true}
use Rattle.std.proofs.lemmas.List.Elements.{All-nil, All-head, All-tail, All-push}
use Rattle.text_core.specs.Lines.{Line, lines_of}
use Rattle.text_core.specs.Items.{items_of}
use Rattle.text_core.specs.Words.{after}
use Rattle.text_core.specs.Numbers.{number_up_to}
use Rattle.text_core.specs.ReadBack.{number_spells}
use Rattle.net_theory.specs.Document.{IsName, is_name}
use Rattle.net_theory.specs.Limits.{most_name_bytes}
use Rattle.net_core.specs.declared.error.NetError.{NetError}
use Rattle.net_core.specs.declared.error.NetError.TheVariants.{Syntax, NotSupported, NameTooLong}
use Rattle.net_document.specs.Limits.{is_long_word}
use Rattle.aiger_text.specs.declared.file.Counts.{Counts}
use Rattle.aiger_text.specs.declared.file.AigLatch.{AigLatch}
use Rattle.aiger_text.specs.declared.file.AigGate.{AigGate}
use Rattle.aiger_text.specs.declared.file.PortKind.{PortKind}
use Rattle.aiger_text.specs.declared.file.Reset.{Reset}
use Rattle.aiger_text.specs.declared.file.Symbol.{Symbol}
use Rattle.aiger_text.specs.File.{AigFile}
use Rattle.aiger_text.specs.Reading.{◌>>=◌}
use Rattle.aiger_text.specs.Limits.{most_variables, most_sources, most_outputs, most_number}
use Rattle.aiger_text.specs.Header.{or_syntax, number_in, numbers_from, numbers_of, count_at, source_count, counts_in, has_room, letter_if, unsupported_in, counts_by, counts_of, header_of}
use Rattle.aiger_text.specs.Statements.{most_literal, is_variable, nothing, with_input, with_latch, with_output, with_gate, with_symbol, input_of, reset_of, latch_by, latch_with, latch_of, output_of, gate_of}
use Rattle.aiger_text.specs.Statements.{kind_of, count_of, is_reserved, name_in, symbol_at, symbol_of, numbers, stated, step, is_full, is_mark, is_comment, closed, steps, begun, file_by, file_of}
use Rattle.aiger_text.specs.Valid.{counts_of as counts_of_file, IsLiteral, IsVariable, IsLatchAt, IsGateAt, IsSymbolAt, AreCounts, IsAig}

pub bind_fine : {A B : Type 0} (r : Result A NetError) (f : A → Result B NetError) (P : A → Type 0) (Q : B → Type 0) → IfOk r P → ((x : A) → P x → IfOk (f x) Q) → IfOk (r >>= f) Q
bind_fine (Ok x) f P Q h next = next x h
bind_fine (Err e) f P Q h next = tt

abbrev Any : {A : Type 0} → A → Type 0
Any x = Unit {0}

any_fine : {A : Type 0} (r : Result A NetError) → IfOk r Any
any_fine (Ok x) = tt
any_fine (Err e) = tt

-- what follows an arbitrary value
then_fine : {A B : Type 0} (r : Result A NetError) (f : A → Result B NetError) (Q : B → Type 0) → ((x : A) → IfOk (f x) Q) → IfOk (r >>= f) Q
then_fine r f Q next = bind_fine r f Any Q (any_fine r) (λ x any. next x)

-- ---- the header

letter_none : (b : Bool) (letter : List ℕ) (next : Option (List ℕ)) → letter_if b letter next ≡ None → (b ≡ false) × (next ≡ None)
letter_none true letter next e = absurd cc
letter_none false letter next e = (refl, e)

-- the numbers of a header are within the limits
record AreFew (ns : List ℕ) : Type 0 where
  variables : count_at ns 0 ≤ most_variables
  sources : source_count ns ≤ most_sources
  outputs : count_at ns 3 ≤ most_outputs

few_counts : (ns : List ℕ) → unsupported_in ns ≡ None → AreFew ns
unfolding unsupported_in
few_counts ns e =
    let first = letter_none (nat_lt most_variables (count_at ns 0)) (codes "M") _ e in
    let second = letter_none (nat_lt most_sources (source_count ns)) (codes "I") _ first.1 in
    let third = letter_none (nat_lt most_outputs (count_at ns 3)) (codes "O") _ second.1 in
    record {
      variables = ltb-false most_variables (count_at ns 0) first.0;
      sources = ltb-false most_sources (source_count ns) second.0;
      outputs = ltb-false most_outputs (count_at ns 3) third.0;
    }

room_of : (c : Counts) → has_room c ≡ true → c.inputs + c.latches + c.gates ≤ c.variables
unfolding has_room
room_of c e = leb-true (c.inputs + c.latches + c.gates) c.variables e

counts_by_fine : (line : ℕ) (ns : List ℕ) (r : Option (List ℕ)) → (r ≡ None → AreFew ns) → IfOk (counts_by line ns r) AreCounts
counts_by_fine line ns (Some letter) few = tt
counts_by_fine line ns None few =
    cond_both (has_room (counts_in ns)) (Ok (counts_in ns)) (Err (Syntax line)) (λ (r : Result Counts NetError). IfOk r AreCounts)
    (λ room. record {
      variables = (few refl).variables;
      sources = (few refl).sources;
      outputs = (few refl).outputs;
      room = room_of (counts_in ns) room;
    })
    (λ none. tt)

counts_fine : (line : ℕ) (ns : List ℕ) → IfOk (counts_of line ns) AreCounts
unfolding counts_of
counts_fine line ns =
    cond_both (nat_lt (length ns) 5 || nat_lt 9 (length ns)) (Err (Syntax line)) (counts_by line ns (unsupported_in ns)) (λ (r : Result Counts NetError). IfOk r AreCounts)
    (λ e. tt)
    (λ e. counts_by_fine line ns (unsupported_in ns) (few_counts ns))

pub header_fine : (word text : List ℕ) → IfOk (header_of word text) AreCounts
unfolding header_of
header_fine word text =
    then_fine (or_syntax 1 (after word text)) (λ rest. numbers_of 1 most_number rest >>= λ ns. counts_of 1 ns) AreCounts
    (λ rest. then_fine (numbers_of 1 most_number rest) (λ ns. counts_of 1 ns) AreCounts (λ ns. counts_fine 1 ns))

-- ---- numbers

-- the numbers are at most `limit`
abbrev AreLow : ℕ → List ℕ → Type 0
AreLow limit ns = All (λ n. n ≤ limit) ns

found_low : (line limit : ℕ) (item : List ℕ) (r : Option ℕ) → limit < 2 ^ 64 → number_up_to limit item ≡ r → IfOk (or_syntax line r) (λ n. n ≤ limit)
found_low line limit item None small e = tt
found_low line limit item (Some n) small e = (number_spells limit n item small e).0

number_low : (line limit : ℕ) (item : List ℕ) → limit < 2 ^ 64 → IfOk (number_in line limit item) (λ n. n ≤ limit)
number_low line limit item small = found_low line limit item (number_up_to limit item) small refl

from_low : (line limit : ℕ) (numbers : List ℕ) (items : List (List ℕ)) → limit < 2 ^ 64 → AreLow limit numbers → IfOk (numbers_from line limit numbers items) (AreLow limit)
unfolding numbers_from
from_low line limit numbers [] small low = low
from_low line limit numbers (x ∷ xs) small low =
    bind_fine (number_in line limit x) (λ n. numbers_from line limit (numbers ++ n ∷ []) xs) (λ n. n ≤ limit) (AreLow limit) (number_low line limit x small)
    (λ n is. from_low line limit (numbers ++ n ∷ []) xs small (All-push (λ m. m ≤ limit) numbers n low is))

numbers_low : (line : ℕ) (c : Counts) (text : List ℕ) → AreCounts c → IfOk (numbers line c text) (AreLow (most_literal c))
numbers_low line c text are = from_low line (most_literal c) [] (items_of text) (omega (arith, are.variables)) (All-nil (λ n. n ≤ most_literal c))

-- ---- inputs, latches, outputs and gates

input_fine : (line : ℕ) (c : Counts) (ns : List ℕ) → AreLow (most_literal c) ns → IfOk (input_of line ns) (IsVariable c)
unfolding input_of
input_fine line c [] low = tt
input_fine line c (lit ∷ []) low =
    cond_both (is_variable lit) (Ok lit) (Err (Syntax line)) (λ (r : Result ℕ NetError). IfOk r (IsVariable c))
    (λ e. record { variable = e; within = All-head (λ n. n ≤ most_literal c) lit [] low })
    (λ e. tt)
input_fine line c (lit ∷ n ∷ ns) low = tt

latch_made : (line lit next : ℕ) (c : Counts) (r : Option Reset) → IsVariable c lit → IsLiteral c next → IfOk (latch_by line lit next r) (IsLatchAt c)
latch_made line lit next c None is low = tt
latch_made line lit next c (Some reset) is low = record { literal = is; next = low }

latch_with_fine : (line lit next value : ℕ) (c : Counts) → IsLiteral c lit → IsLiteral c next → IfOk (latch_with line lit next value) (IsLatchAt c)
unfolding latch_with
latch_with_fine line lit next value c low_lit low_next =
    cond_both (is_variable lit) (latch_by line lit next (reset_of lit value)) (Err (Syntax line)) (λ (r : Result AigLatch NetError). IfOk r (IsLatchAt c))
    (λ e. latch_made line lit next c (reset_of lit value) (record { variable = e; within = low_lit }) low_next)
    (λ e. tt)

latch_fine : (line : ℕ) (c : Counts) (ns : List ℕ) → AreLow (most_literal c) ns → IfOk (latch_of line ns) (IsLatchAt c)
unfolding latch_of
latch_fine line c [] low = tt
latch_fine line c (lit ∷ []) low = tt
latch_fine line c (lit ∷ next ∷ []) low =
    let P : ℕ → Type 0 = λ n. n ≤ most_literal c in
    latch_with_fine line lit next 0 c (All-head P lit (next ∷ []) low) (All-head P next [] (All-tail P lit (next ∷ []) low))
latch_fine line c (lit ∷ next ∷ value ∷ []) low =
    let P : ℕ → Type 0 = λ n. n ≤ most_literal c in
    latch_with_fine line lit next value c (All-head P lit (next ∷ value ∷ []) low) (All-head P next (value ∷ []) (All-tail P lit (next ∷ value ∷ []) low))
latch_fine line c (lit ∷ next ∷ value ∷ n ∷ ns) low = tt

output_fine : (line : ℕ) (c : Counts) (ns : List ℕ) → AreLow (most_literal c) ns → IfOk (output_of line ns) (IsLiteral c)
unfolding output_of
output_fine line c [] low = tt
output_fine line c (lit ∷ []) low = All-head (λ n. n ≤ most_literal c) lit [] low
output_fine line c (lit ∷ n ∷ ns) low = tt

gate_fine : (line : ℕ) (c : Counts) (ns : List ℕ) → AreLow (most_literal c) ns → IfOk (gate_of line ns) (IsGateAt c)
unfolding gate_of
gate_fine line c [] low = tt
gate_fine line c (lit ∷ []) low = tt
gate_fine line c (lit ∷ first ∷ []) low = tt
gate_fine line c (lit ∷ first ∷ second ∷ []) low =
    let P : ℕ → Type 0 = λ n. n ≤ most_literal c in
    let more = All-tail P lit (first ∷ second ∷ []) low in
    cond_both (is_variable lit) (Ok (record { literal = lit; first = first; second = second })) (Err (Syntax line)) (λ (r : Result AigGate NetError). IfOk r (IsGateAt c))
    (λ e. record {
      literal = record { variable = e; within = All-head P lit (first ∷ second ∷ []) low };
      first = All-head P first (second ∷ []) more;
      second = All-head P second [] (All-tail P first (second ∷ []) more);
    })
    (λ e. tt)
gate_fine line c (lit ∷ first ∷ second ∷ n ∷ ns) low = tt

-- ---- lines

-- the file so far is within the counts
record IsPart (c : Counts) (f : AigFile) : Type 0 where
  variables : f.variables ≡ c.variables
  inputs_few : length f.inputs ≤ c.inputs
  latches_few : length f.latches ≤ c.latches
  outputs_few : length f.outputs ≤ c.outputs
  gates_few : length f.gates ≤ c.gates
  inputs : All (IsVariable c) f.inputs
  latches : All (IsLatchAt c) f.latches
  outputs : All (IsLiteral c) f.outputs
  gates : All (IsGateAt c) f.gates
  symbols : All (IsSymbolAt c) f.symbols

nothing_part : (c : Counts) → IsPart c (nothing c)
nothing_part c = record {
  variables = refl;
  inputs_few = omega arith;
  latches_few = omega arith;
  outputs_few = omega arith;
  gates_few = omega arith;
  inputs = All-nil (IsVariable c);
  latches = All-nil (IsLatchAt c);
  outputs = All-nil (IsLiteral c);
  gates = All-nil (IsGateAt c);
  symbols = All-nil (IsSymbolAt c);
}

input_part : (c : Counts) (f : AigFile) (lit : ℕ) → IsPart c f → IsVariable c lit → length f.inputs < c.inputs → IsPart c (with_input f lit)
input_part c f lit is good low = record {
  variables = is.variables;
  inputs_few = omega (arith, low, length-append f.inputs (lit ∷ []));
  latches_few = is.latches_few;
  outputs_few = is.outputs_few;
  gates_few = is.gates_few;
  inputs = All-push (IsVariable c) f.inputs lit is.inputs good;
  latches = is.latches;
  outputs = is.outputs;
  gates = is.gates;
  symbols = is.symbols;
}

latch_part : (c : Counts) (f : AigFile) (l : AigLatch) → IsPart c f → IsLatchAt c l → length f.latches < c.latches → IsPart c (with_latch f l)
latch_part c f l is good low = record {
  variables = is.variables;
  inputs_few = is.inputs_few;
  latches_few = omega (arith, low, length-append f.latches (l ∷ []));
  outputs_few = is.outputs_few;
  gates_few = is.gates_few;
  inputs = is.inputs;
  latches = All-push (IsLatchAt c) f.latches l is.latches good;
  outputs = is.outputs;
  gates = is.gates;
  symbols = is.symbols;
}

output_part : (c : Counts) (f : AigFile) (lit : ℕ) → IsPart c f → IsLiteral c lit → length f.outputs < c.outputs → IsPart c (with_output f lit)
output_part c f lit is good low = record {
  variables = is.variables;
  inputs_few = is.inputs_few;
  latches_few = is.latches_few;
  outputs_few = omega (arith, low, length-append f.outputs (lit ∷ []));
  gates_few = is.gates_few;
  inputs = is.inputs;
  latches = is.latches;
  outputs = All-push (IsLiteral c) f.outputs lit is.outputs good;
  gates = is.gates;
  symbols = is.symbols;
}

gate_part : (c : Counts) (f : AigFile) (g : AigGate) → IsPart c f → IsGateAt c g → length f.gates < c.gates → IsPart c (with_gate f g)
gate_part c f g is good low = record {
  variables = is.variables;
  inputs_few = is.inputs_few;
  latches_few = is.latches_few;
  outputs_few = is.outputs_few;
  gates_few = omega (arith, low, length-append f.gates (g ∷ []));
  inputs = is.inputs;
  latches = is.latches;
  outputs = is.outputs;
  gates = All-push (IsGateAt c) f.gates g is.gates good;
  symbols = is.symbols;
}

symbol_part : (c : Counts) (f : AigFile) (s : Symbol) → IsPart c f → IsSymbolAt c s → IsPart c (with_symbol f s)
symbol_part c f s is good = record {
  variables = is.variables;
  inputs_few = is.inputs_few;
  latches_few = is.latches_few;
  outputs_few = is.outputs_few;
  gates_few = is.gates_few;
  inputs = is.inputs;
  latches = is.latches;
  outputs = is.outputs;
  gates = is.gates;
  symbols = All-push (IsSymbolAt c) f.symbols s is.symbols good;
}

-- a name that isn't reserved
record IsFreeName (w : List ℕ) : Type 0 where
  name : IsName w
  free : is_reserved w ≡ false

name_fine : (line : ℕ) (w : List ℕ) → IfOk (name_in line w) IsFreeName
unfolding name_in
name_fine line w =
    cond_both (is_long_word w) (Err (NameTooLong line)) (if is_name w then (if is_reserved w then Err (NotSupported line w) else Ok w) else Err (Syntax line)) (λ (r : Result (List ℕ) NetError). IfOk r IsFreeName)
    (λ long. tt)
    (λ short. cond_both (is_name w) (if is_reserved w then Err (NotSupported line w) else Ok w) (Err (Syntax line)) (λ (r : Result (List ℕ) NetError). IfOk r IsFreeName)
    (λ name. cond_both (is_reserved w) (Err (NotSupported line w)) (Ok w) (λ (r : Result (List ℕ) NetError). IfOk r IsFreeName)
    (λ reserved. tt)
    (λ free. record { name = record { spelled = name; short = ltb-false most_name_bytes (length w) short }; free = free }))
    (λ none. tt))

abbrev pub named_symbol : PortKind → ℕ → List ℕ → Symbol
named_symbol kind position name = record { kind = kind; position = position; name = name }

symbol_at_fine : (line : ℕ) (c : Counts) (key w : List ℕ) → IfOk (symbol_at line c key w) (IsSymbolAt c)
unfolding symbol_at
symbol_at_fine line c [] w = tt
symbol_at_fine line c (b ∷ digits) w =
    then_fine (or_syntax line (kind_of b)) (λ kind. number_in line most_number digits >>= λ position. (if nat_lt position (count_of c kind) then (name_in line w >>= λ name. Ok (named_symbol kind position name)) else Err (Syntax line))) (IsSymbolAt c)
    (λ kind. then_fine (number_in line most_number digits) (λ position. if nat_lt position (count_of c kind) then (name_in line w >>= λ name. Ok (named_symbol kind position name)) else Err (Syntax line)) (IsSymbolAt c)
    (λ position. cond_both (nat_lt position (count_of c kind)) (name_in line w >>= λ name. Ok (named_symbol kind position name)) (Err (Syntax line)) (λ (r : Result Symbol NetError). IfOk r (IsSymbolAt c))
    (λ low. bind_fine (name_in line w) (λ name. Ok (named_symbol kind position name)) IsFreeName (IsSymbolAt c) (name_fine line w)
    (λ name is. record { name = is.name; free = is.free; low = ltb-true position (count_of c kind) low }))
    (λ high. tt)))

symbol_fine : (line : ℕ) (c : Counts) (items : List (List ℕ)) → IfOk (symbol_of line c items) (IsSymbolAt c)
unfolding symbol_of
symbol_fine line c [] = tt
symbol_fine line c (key ∷ []) = tt
symbol_fine line c (key ∷ w ∷ more) = symbol_at_fine line c key w

stated_fine : (line : ℕ) (c : Counts) (f : AigFile) (text : List ℕ) → AreCounts c → IsPart c f → IfOk (stated line c f text) (IsPart c)
unfolding stated
stated_fine line c f text are is =
    cond_both (nat_lt (length f.inputs) c.inputs) _ _ (λ (r : Result AigFile NetError). IfOk r (IsPart c))
    (λ low. bind_fine (numbers line c text) (λ ns. input_of line ns >>= λ lit. Ok (with_input f lit)) (AreLow (most_literal c)) (IsPart c) (numbers_low line c text are)
    (λ ns lows. bind_fine (input_of line ns) (λ lit. Ok (with_input f lit)) (IsVariable c) (IsPart c) (input_fine line c ns lows)
    (λ lit good. input_part c f lit is good (ltb-true (length f.inputs) c.inputs low))))
    (λ e. cond_both (nat_lt (length f.latches) c.latches) _ _ (λ (r : Result AigFile NetError). IfOk r (IsPart c))
    (λ low. bind_fine (numbers line c text) (λ ns. latch_of line ns >>= λ l. Ok (with_latch f l)) (AreLow (most_literal c)) (IsPart c) (numbers_low line c text are)
    (λ ns lows. bind_fine (latch_of line ns) (λ l. Ok (with_latch f l)) (IsLatchAt c) (IsPart c) (latch_fine line c ns lows)
    (λ l good. latch_part c f l is good (ltb-true (length f.latches) c.latches low))))
    (λ e. cond_both (nat_lt (length f.outputs) c.outputs) _ _ (λ (r : Result AigFile NetError). IfOk r (IsPart c))
    (λ low. bind_fine (numbers line c text) (λ ns. output_of line ns >>= λ lit. Ok (with_output f lit)) (AreLow (most_literal c)) (IsPart c) (numbers_low line c text are)
    (λ ns lows. bind_fine (output_of line ns) (λ lit. Ok (with_output f lit)) (IsLiteral c) (IsPart c) (output_fine line c ns lows)
    (λ lit good. output_part c f lit is good (ltb-true (length f.outputs) c.outputs low))))
    (λ e. cond_both (nat_lt (length f.gates) c.gates) _ _ (λ (r : Result AigFile NetError). IfOk r (IsPart c))
    (λ low. bind_fine (numbers line c text) (λ ns. gate_of line ns >>= λ g. Ok (with_gate f g)) (AreLow (most_literal c)) (IsPart c) (numbers_low line c text are)
    (λ ns lows. bind_fine (gate_of line ns) (λ g. Ok (with_gate f g)) (IsGateAt c) (IsPart c) (gate_fine line c ns lows)
    (λ g good. gate_part c f g is good (ltb-true (length f.gates) c.gates low))))
    (λ e. bind_fine (symbol_of line c (items_of text)) (λ s. Ok (with_symbol f s)) (IsSymbolAt c) (IsPart c) (symbol_fine line c (items_of text)) (λ s good. symbol_part c f s is good)))))

step_fine : (line : ℕ) (c : Counts) (f : AigFile) (l : Line) → AreCounts c → IsPart c f → IfOk (step line c f l) (IsPart c)
unfolding step
step_fine line c f l are is =
    cond_both l.ended (stated line c f l.text) (Err (Syntax line)) (λ (r : Result AigFile NetError). IfOk r (IsPart c))
    (λ e. stated_fine line c f l.text are is)
    (λ e. tt)

-- the whole file: a part with as many inputs, latches, outputs and gates as the header says
record IsWholeFile (c : Counts) (f : AigFile) : Type 0 where
  part : IsPart c f
  full : is_full c f ≡ true

closed_fine : (line : ℕ) (c : Counts) (f : AigFile) → IsPart c f → IfOk (closed line c f) (IsWholeFile c)
closed_fine line c f is =
    cond_both (is_full c f) (Ok f) (Err (Syntax line)) (λ (r : Result AigFile NetError). IfOk r (IsWholeFile c))
    (λ e. record { part = is; full = e })
    (λ e. tt)

comment_full : (c : Counts) (f : AigFile) (l : Line) → is_comment c f l ≡ true → is_full c f ≡ true
unfolding is_comment
comment_full c f l e = (and_parts (is_full c f) l.ended (and_parts (is_full c f && l.ended) (is_mark l.text) e).0).0

steps_fine : (line : ℕ) (c : Counts) (f : AigFile) (ls : List Line) → AreCounts c → IsPart c f → IfOk (steps line c f ls) (IsWholeFile c)
unfolding steps
steps_fine line c f [] are is = closed_fine line c f is
steps_fine line c f (l ∷ ls) are is =
    cond_both (is_comment c f l) (Ok f) (step line c f l >>= λ g. steps (line + 1) c g ls) (λ (r : Result AigFile NetError). IfOk r (IsWholeFile c))
    (λ e. record { part = is; full = comment_full c f l e })
    (λ e. bind_fine (step line c f l) (λ g. steps (line + 1) c g ls) (IsPart c) (IsWholeFile c) (step_fine line c f l are is) (λ g part. steps_fine (line + 1) c g ls are part))

-- ---- texts

abbrev counts_from : ℕ → ℕ → ℕ → ℕ → ℕ → Counts
counts_from v i l o a = record { variables = v; inputs = i; latches = l; outputs = o; gates = a }

both_ways_le : (a b : ℕ) → a ≤ b → nat_le b a ≡ true → a ≡ b
both_ways_le a b low e = let high : b ≤ a = leb-true b a e in omega (arith, low, high)

-- the counts of the header are those of the file
whole_counts : (c : Counts) (f : AigFile) → IsWholeFile c f → c ≡ counts_of_file f
unfolding is_full
whole_counts c f is =
    let gates = and_parts (nat_le c.inputs (length f.inputs) && nat_le c.latches (length f.latches) && nat_le c.outputs (length f.outputs)) (nat_le c.gates (length f.gates)) is.full in
    let outputs = and_parts (nat_le c.inputs (length f.inputs) && nat_le c.latches (length f.latches)) (nat_le c.outputs (length f.outputs)) gates.0 in
    let latches = and_parts (nat_le c.inputs (length f.inputs)) (nat_le c.latches (length f.latches)) outputs.0 in
    ap (λ (n : ℕ). counts_from n c.inputs c.latches c.outputs c.gates) (sym is.part.variables)
    ∙ ap (λ (n : ℕ). counts_from f.variables n c.latches c.outputs c.gates) (sym (both_ways_le (length f.inputs) c.inputs is.part.inputs_few latches.0))
    ∙ ap (λ (n : ℕ). counts_from f.variables (length f.inputs) n c.outputs c.gates) (sym (both_ways_le (length f.latches) c.latches is.part.latches_few latches.1))
    ∙ ap (λ (n : ℕ). counts_from f.variables (length f.inputs) (length f.latches) n c.gates) (sym (both_ways_le (length f.outputs) c.outputs is.part.outputs_few outputs.1))
    ∙ ap (λ (n : ℕ). counts_from f.variables (length f.inputs) (length f.latches) (length f.outputs) n) (sym (both_ways_le (length f.gates) c.gates is.part.gates_few gates.1))

whole_is : (c : Counts) (f : AigFile) → AreCounts c → IsWholeFile c f → IsAig f
whole_is c f are is =
    let same = whole_counts c f is in
    record {
      counts = subst AreCounts same are;
      inputs = subst (λ (k : Counts). All (IsVariable k) f.inputs) same is.part.inputs;
      latches = subst (λ (k : Counts). All (IsLatchAt k) f.latches) same is.part.latches;
      outputs = subst (λ (k : Counts). All (IsLiteral k) f.outputs) same is.part.outputs;
      gates = subst (λ (k : Counts). All (IsGateAt k) f.gates) same is.part.gates;
      symbols = subst (λ (k : Counts). All (IsSymbolAt k) f.symbols) same is.part.symbols;
    }

more_fine : {A : Type 0} (r : Result A NetError) (P Q : A → Type 0) → ((x : A) → P x → Q x) → IfOk r P → IfOk r Q
more_fine (Ok x) P Q h is = h x is
more_fine (Err e) P Q h is = tt

begun_fine : (l : Line) → IfOk (begun l) AreCounts
unfolding begun
begun_fine l =
    cond_both l.ended (header_of (codes "aag ") l.text) (Err (Syntax 1)) (λ (r : Result Counts NetError). IfOk r AreCounts)
    (λ e. header_fine (codes "aag ") l.text)
    (λ e. tt)

file_by_fine : (ls : List Line) → IfOk (file_by ls) IsAig
file_by_fine [] = tt
file_by_fine (l ∷ ls) =
    bind_fine (begun l) (λ c. steps 2 c (nothing c) ls) AreCounts IsAig (begun_fine l)
    (λ c are. more_fine (steps 2 c (nothing c) ls) (IsWholeFile c) IsAig (λ f is. whole_is c f are is) (steps_fine 2 c (nothing c) ls are (nothing_part c)))

file_fine : (bytes : List ℕ) → IfOk (file_of bytes) IsAig
unfolding file_of
file_fine bytes = file_by_fine (lines_of bytes)

pub file_is : (bytes : List ℕ) (f : AigFile) → file_of bytes ≡ Ok f → IsAig f
file_is bytes f e = subst (λ (r : Result AigFile NetError). IfOk r IsAig) e (file_fine bytes)

pub header_is : (word text : List ℕ) (c : Counts) → header_of word text ≡ Ok c → AreCounts c
header_is word text c e = subst (λ (r : Result Counts NetError). IfOk r AreCounts) e (header_fine word text)

pub header_few : (word text : List ℕ) (c : Counts) → header_of word text ≡ Ok c → c.variables ≤ most_variables
header_few word text c e = (header_is word text c e).variables

pub ruleset headers = (common_steps, header_few)

pub ruleset files = (common_steps, file_is)

-- ---- limits

pub variables_low : (f : AigFile) → IsAig f → f.variables ≤ most_variables
variables_low f is = is.counts.variables

pub inputs_low : (f : AigFile) → IsAig f → length f.inputs < 2 ^ 31
inputs_low f is = omega (arith, is.counts.sources)

pub latches_low : (f : AigFile) → IsAig f → length f.latches < 2 ^ 31
latches_low f is = omega (arith, is.counts.sources)

pub outputs_low : (f : AigFile) → IsAig f → length f.outputs < 2 ^ 31
outputs_low f is = omega (arith, is.counts.outputs)

pub gates_low : (f : AigFile) → IsAig f → length f.gates < 2 ^ 31
gates_low f is = omega (arith, is.counts.room, is.counts.variables)

pub ruleset limits = (common_steps, variables_low, inputs_low, latches_low, outputs_low, gates_low)
