-- A bound on the length of a generated netlist's text.
use Rattle.std.specs.Prelude.{◌≡◌, ℕ, ◌+◌, ◌*◌, ◌^◌, ◌≤◌, Bool, ◌==◌, List, [], ◌∷◌, ◌++◌, length, All, codes}
use Rattle.std.specs.List.{flat_map}
use Rattle.std.proofs.Common.{arith, ◌∙◌, ap, length-append}
use Rattle.std.proofs.lemmas.Bool.{cond_both}
use Rattle.std.proofs.lemmas.List.Elements.{All-head, All-tail}
use Rattle.std.proofs.lemmas.List.Concat.{flat_map-cons}
use Rattle.net_theory.specs.Document.{Name, Table}
use Rattle.blif_core.specs.Spelling.{word_text, words_text, rest_text, list_text, digit_text, row_text, table_text, model_text, spelled}
use Rattle.gen_core.specs.Generated.{block_inputs, block_outputs, block_tables, of_blocks, generated, generated_text}
use Rattle.gen_core.proofs.BlockLaws.{of_all, of_length}
use Rattle.gen_core.proofs.Inputs.{of_inputs}
use Rattle.gen_core.proofs.Tables.{IsShort, names_short, IsTiny, tables_tiny, block_few}
use Rattle.settings.specs.Limits.{most_blocks}
use Rattle.net_theory.specs.Limits.{most_of_netlist}

inputs_short : (n : ℕ) → n ≤ 2 ^ 64 → All IsShort (of_blocks block_inputs n)
inputs_short n low = of_all IsShort block_inputs n (λ k below. of_inputs (λ (ns : List Name). All IsShort ns) k
    (names_short k (codes "ab") (omega (arith, low, below))) (names_short k (codes "abc") (omega (arith, low, below))))

outputs_short : (n : ℕ) → n ≤ 2 ^ 64 → All IsShort (of_blocks block_outputs n)
outputs_short n low = of_all IsShort block_outputs n (λ k below. names_short k (codes "y") (omega (arith, low, below)))

inputs_few : (k : ℕ) → length (block_inputs k) ≤ 3
inputs_few k = of_inputs (λ (ns : List Name). length ns ≤ 3) k (omega arith) (omega arith)

outputs_few : (k : ℕ) → length (block_outputs k) ≤ 1
outputs_few k = omega arith

-- ---- lines of names

rest_more : (keyword : List ℕ) (count : ℕ) (n : Name) (ns : List Name) → length keyword ≤ 8 → IsShort n →
    ((c : ℕ) → length (rest_text keyword c ns) ≤ 1 + length ns * 31) →
    length (rest_text keyword count (n ∷ ns)) ≤ 1 + (length ns * 31 + 31)
unfolding rest_text
rest_more keyword count n ns word short rest =
    cond_both (count == 16) (10 ∷ (keyword ++ word_text n ++ rest_text keyword 1 ns)) (word_text n ++ rest_text keyword (count + 1) ns) (λ (text : List ℕ). length text ≤ 1 + (length ns * 31 + 31))
    (λ e. omega (arith, length-append (keyword ++ word_text n) (rest_text keyword 1 ns), length-append keyword (word_text n), word, short, rest 1))
    (λ e. omega (arith, length-append (word_text n) (rest_text keyword (count + 1) ns), short, rest (count + 1)))

rest_none : (keyword : List ℕ) (count : ℕ) → length (rest_text keyword count []) ≤ 1
unfolding rest_text
rest_none keyword count = omega arith

rest_short : (keyword : List ℕ) (count : ℕ) (ns : List Name) → length keyword ≤ 8 → All IsShort ns → length (rest_text keyword count ns) ≤ 1 + length ns * 31
rest_short keyword count [] word short = omega (arith, rest_none keyword count)
rest_short keyword count (n ∷ ns) word short =
    omega (arith, rest_more keyword count n ns word (All-head IsShort n ns short) (λ c. rest_short keyword c ns word (All-tail IsShort n ns short)))

list_short : (keyword : List ℕ) (ns : List Name) → length keyword ≤ 8 → All IsShort ns → length (list_text keyword ns) ≤ 9 + length ns * 31
list_short keyword ns word short = omega (arith, length-append keyword (rest_text keyword 0 ns), word, rest_short keyword 0 ns word short)

-- ---- their texts

-- the length of a concatenation of pieces of at most `most` bytes
pieces : {A : Type 0} (text : A → List ℕ) (most : ℕ) (P : A → Type 0) → ((x : A) → P x → length (text x) ≤ most) → (xs : List A) → All P xs → length (flat_map text xs) ≤ length xs * most
pieces text most P each [] all = omega arith
pieces text most P each (x ∷ xs) all =
    let parts : length (flat_map text (x ∷ xs)) ≡ length (text x) + length (flat_map text xs) = ap (length {A = ℕ}) (flat_map-cons text x xs) ∙ length-append (text x) (flat_map text xs) in
    omega (arith, parts, each x (All-head P x xs all), pieces text most P each xs (All-tail P x xs all))

row_short : (on : Bool) (cube : List ℕ) → length cube ≤ 2 → length (row_text on cube) ≤ 5
row_short on [] low = omega arith
row_short on (b ∷ bs) low = omega (arith, low, length-append (b ∷ bs) (32 ∷ []), length-append ((b ∷ bs) ++ 32 ∷ []) (digit_text on ∷ 10 ∷ []))

table_short : (t : Table) → IsTiny t → length (table_text t) ≤ 100
table_short t is =
    let names = pieces word_text 22 IsShort (λ n short. omega (arith, short)) t.inputs is.inputs in
    let rows = pieces (row_text t.cover.on) 5 (λ (cube : List ℕ). length cube ≤ 2) (row_short t.cover.on) t.cover.cubes is.cubes in
    let cubes = flat_map (row_text t.cover.on) t.cover.cubes in
    omega (
      arith,
      length-append (codes ".names" ++ words_text t.inputs ++ word_text t.output ++ 10 ∷ []) cubes,
      length-append (codes ".names" ++ words_text t.inputs ++ word_text t.output) (10 ∷ []),
      length-append (codes ".names" ++ words_text t.inputs) (word_text t.output),
      length-append (codes ".names") (words_text t.inputs),
      names,
      rows,
      is.narrow,
      is.few,
      is.output,
    )

-- ---- the whole text

short_text : (inputs outputs : List Name) (ts : List Table) (n : ℕ) → n ≤ most_blocks → length inputs ≤ n * 3 →
    length outputs ≤ n * 1 → length ts ≤ n * 4 → length (list_text (codes ".inputs") inputs) ≤ 9 + length inputs * 31 →
    length (list_text (codes ".outputs") outputs) ≤ 9 + length outputs * 31 →
    length (flat_map table_text ts) ≤ length ts * 100 →
    length (model_text (codes "gen") ++ list_text (codes ".inputs") inputs ++ list_text (codes ".outputs") outputs ++
    [] ++ [] ++ flat_map table_text ts ++ codes ".end\n") ≤ most_of_netlist
short_text inputs outputs ts n few i o t a b c =
    let first = model_text (codes "gen") in
    let second = list_text (codes ".inputs") inputs in
    let third = list_text (codes ".outputs") outputs in
    let last = flat_map table_text ts in
    omega (
      arith,
      length-append (first ++ second ++ third ++ [] ++ [] ++ last) (codes ".end\n"),
      length-append (first ++ second ++ third ++ [] ++ []) last,
      length-append (first ++ second ++ third ++ []) [],
      length-append (first ++ second ++ third) [],
      length-append (first ++ second) third,
      length-append first second,
      few,
      i,
      o,
      t,
      a,
      b,
      c,
    )

pub text_small : (n : ℕ) → n ≤ most_blocks → length (generated_text n) ≤ most_of_netlist
unfolding spelled generated
text_small n few =
    let low : n ≤ 2 ^ 64 = omega (arith, few) in
    short_text (of_blocks block_inputs n) (of_blocks block_outputs n) (of_blocks block_tables n) n few
    (of_length block_inputs 3 n inputs_few) (of_length block_outputs 1 n outputs_few) (of_length block_tables 4 n block_few)
    (list_short (codes ".inputs") (of_blocks block_inputs n) (omega arith) (inputs_short n low))
    (list_short (codes ".outputs") (of_blocks block_outputs n) (omega arith) (outputs_short n low))
    (pieces table_text 100 IsTiny table_short (of_blocks block_tables n) (tables_tiny n low))
