-- The errors that a line can have.
use Rattle.std.specs.Prelude.{ℕ, ◌+◌, ◌&&◌, nat_lt, if◌then◌else◌, List, [], ◌∷◌, length, Option, Some, None, Result, Ok, Err, IfErr, codes}
use Rattle.std.specs.List.{list_all}
use Rattle.std.proofs.lemmas.Bool.{cond_both}
use Rattle.text_core.specs.Lines.{Line, lines_of}
use Rattle.net_theory.specs.Document.{Name, is_name, is_same, Table, LatchLine}
use Rattle.net_document.specs.Contents.{is_nothing, content_of}
use Rattle.blif_text.specs.Words.{has_long}
use Rattle.blif_text.specs.Reading.{◌>>=◌}
use Rattle.net_core.specs.declared.error.NetError.{NetError}
use Rattle.net_core.specs.declared.error.NetError.TheVariants.{Syntax, NotSupported, TooWide, LineTooLong, NameTooLong}
use Rattle.net_document.specs.Listed.{Listed}
use Rattle.bench_text.specs.declared.keywords.GateKey.{GateKey}
use Rattle.bench_text.specs.declared.keywords.BenchKeyword.{BenchKeyword}
use Rattle.bench_text.specs.declared.keywords.BenchKeyword.TheVariants.{Input, Output, Gate, Dff, Lut, Constant, Unknown}
use Rattle.bench_text.specs.Items.{is_mark_item, items_of}
use Rattle.bench_text.specs.Statements.{nothing, with_input, with_output, with_latch, with_table, operands_of, names_by}
use Rattle.bench_text.specs.Statements.{names_of, alone, is_counted, gate_table, table_of, plain_latch}
use Rattle.bench_text.specs.Statements.{latch_of as latch_from, port_by, port_of, ported, driven, driven_by, keyword_of}
use Rattle.bench_text.specs.Statements.{stated, step, steps, listed_of}
use Rattle.bench_laws.specs.Spelled.{IsLineFault}
use Rattle.net_theory.specs.Limits.{most_table_inputs, most_line_bytes}

abbrev IsFaulty : {A : Type 0} → Result A NetError → Type 0
IsFaulty r = IfErr r IsLineFault

bind_faulty : {A B : Type 0} (r : Result A NetError) (f : A → Result B NetError) → IsFaulty r → ((x : A) → IsFaulty (f x)) → IsFaulty (r >>= f)
bind_faulty (Ok x) f is next = next x
bind_faulty (Err e) f is next = is

alone_faulty : (line : ℕ) (ns : List Name) → IsFaulty (alone line ns)
alone_faulty line [] = tt
alone_faulty line (n ∷ []) = tt
alone_faulty line (n ∷ m ∷ ns) = tt

names_faulty : (line : ℕ) (r : Option (List Name)) → IsFaulty (names_by line r)
names_faulty line None = tt
names_faulty line (Some ns) =
    cond_both (nat_lt most_table_inputs (length ns)) (Err (TooWide line)) (if list_all is_name ns then Ok ns else Err (Syntax line)) (λ (r : Result (List Name) NetError). IsFaulty r)
    (λ e. tt)
    (λ e. cond_both (list_all is_name ns) (Ok ns) (Err (Syntax line)) (λ (r : Result (List Name) NetError). IsFaulty r) (λ f. tt) (λ f. tt))

operands_faulty : (line : ℕ) (items : List (List ℕ)) → IsFaulty (names_of line items)
unfolding names_of
operands_faulty line items = names_faulty line (operands_of items)

table_faulty : (line : ℕ) (key : GateKey) (output : Name) (inputs : List Name) → IsFaulty (table_of line key output inputs)
unfolding table_of
table_faulty line key output inputs = cond_both (is_name output &&
    is_counted key inputs) (Ok (gate_table key output inputs)) (Err (Syntax line)) (λ (r : Result Table NetError).
    IsFaulty r) (λ f. tt) (λ f. tt)

latch_faulty : (line : ℕ) (output : Name) (inputs : List Name) → IsFaulty (latch_from line output inputs)
unfolding latch_from
latch_faulty line output inputs = bind_faulty (alone line inputs)
    (λ n. if is_name output then Ok (plain_latch output n) else Err (Syntax line)) (alone_faulty line inputs)
    (λ n. cond_both (is_name output) (Ok (plain_latch output n)) (Err (Syntax line))
    (λ (r : Result LatchLine NetError). IsFaulty r) (λ f. tt) (λ f. tt))

port_by_faulty : (line : ℕ) (r : Option (List Name)) → IsFaulty (port_by line r)
port_by_faulty line None = tt
port_by_faulty line (Some ns) = bind_faulty (alone line ns) (λ n. if is_name n then Ok n else Err (Syntax line))
    (alone_faulty line ns) (λ n. cond_both (is_name n) (Ok n) (Err (Syntax line)) (λ (r : Result Name NetError).
    IsFaulty r) (λ f. tt) (λ f. tt))

port_faulty : (line : ℕ) (items : List (List ℕ)) → IsFaulty (port_of line items)
unfolding port_of
port_faulty line items = port_by_faulty line (operands_of items)

ported_faulty : (line : ℕ) (s : Listed) (items : List (List ℕ)) (k : BenchKeyword) → IsFaulty (ported line s items k)
unfolding ported
ported_faulty line s items Input = bind_faulty (port_of line items) (λ n. Ok (with_input s n)) (port_faulty line items) (λ n. tt)
ported_faulty line s items Output = bind_faulty (port_of line items) (λ n. Ok (with_output s n)) (port_faulty line items) (λ n. tt)
ported_faulty line s items (Gate key) = tt
ported_faulty line s items Dff = tt
ported_faulty line s items Lut = tt
ported_faulty line s items Constant = tt
ported_faulty line s items Unknown = tt

driven_faulty : (line : ℕ) (s : Listed) (output word : Name) (items : List (List ℕ)) (k : BenchKeyword) → IsFaulty (driven line s output word items k)
unfolding driven
driven_faulty line s output word items (Gate key) =
    bind_faulty (names_of line items) (λ inputs. table_of line key output inputs >>= λ t. Ok (with_table s t))
    (operands_faulty line items) (λ inputs. bind_faulty (table_of line key output inputs) (λ t. Ok (with_table s t))
    (table_faulty line key output inputs) (λ t. tt))
driven_faulty line s output word items Dff = bind_faulty (names_of line items) (λ inputs.
    latch_from line output inputs >>= λ l. Ok (with_latch s l)) (operands_faulty line items) (λ inputs.
    bind_faulty (latch_from line output inputs) (λ l. Ok (with_latch s l)) (latch_faulty line output inputs) (λ l. tt))
driven_faulty line s output word items Lut = tt
driven_faulty line s output word items Constant = cond_both (is_nothing items) (Err (NotSupported line word)) (Err (Syntax line)) (λ (r : Result Listed NetError). IsFaulty r) (λ f. tt) (λ f. tt)
driven_faulty line s output word items Input = tt
driven_faulty line s output word items Output = tt
driven_faulty line s output word items Unknown = tt

by_faulty : (line : ℕ) (s : Listed) (output : Name) (items : List (List ℕ)) → IsFaulty (driven_by line s output items)
unfolding driven_by
by_faulty line s output [] = tt
by_faulty line s output (w ∷ items) = driven_faulty line s output w items (keyword_of w)

stated_faulty : (line : ℕ) (s : Listed) (items : List (List ℕ)) → IsFaulty (stated line s items)
unfolding stated
stated_faulty line s [] = tt
stated_faulty line s (w ∷ []) = tt
stated_faulty line s (w ∷ m ∷ items) =
    cond_both (is_mark_item w) (Err (Syntax line)) (if is_same m (codes "=") then driven_by line s w items else ported line s (m ∷ items) (keyword_of w)) (λ (r : Result Listed NetError). IsFaulty r)
    (λ e. tt)
    (λ e. cond_both (is_same m (codes "=")) (driven_by line s w items) (ported line s (m ∷ items) (keyword_of w))
    (λ (r : Result Listed NetError). IsFaulty r) (λ f. by_faulty line s w items)
    (λ f. ported_faulty line s (m ∷ items) (keyword_of w)))

step_faulty : (line : ℕ) (s : Listed) (l : Line) → IsFaulty (step line s l)
unfolding step
step_faulty line s l =
    cond_both (nat_lt most_line_bytes (length l.text)) (Err (LineTooLong line))
    (if has_long (items_of (content_of l)) then Err (NameTooLong line) else stated line s (items_of (content_of l)))
    (λ (r : Result Listed NetError). IsFaulty r)
    (λ e. tt)
    (λ e. cond_both (has_long (items_of (content_of l))) (Err (NameTooLong line))
    (stated line s (items_of (content_of l))) (λ (r : Result Listed NetError). IsFaulty r) (λ f. tt)
    (λ f. stated_faulty line s (items_of (content_of l))))

steps_faulty : (line : ℕ) (s : Listed) (ls : List Line) → IsFaulty (steps line s ls)
unfolding steps
steps_faulty line s [] = tt
steps_faulty line s (l ∷ ls) = bind_faulty (step line s l) (λ t. steps (line + 1) t ls) (step_faulty line s l) (λ t. steps_faulty (line + 1) t ls)

pub text_faulty : (bytes : List ℕ) → IfErr (listed_of bytes) IsLineFault
unfolding listed_of
text_faulty bytes = steps_faulty 1 nothing (lines_of bytes)
