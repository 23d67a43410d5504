-- Round trips: a text that is read as a question is its spelling, and the spelling of a question is read as it.
use Rattle.std.proofs.Common.{◌≡◌, ℕ, ◌+◌, ◌*◌, ◌≤◌, Bool, true, false, cond, List, [], ◌∷◌, ◌++◌, length, Result, Ok, Err, refl, sym, ap, ◌∙◌, arith, subst}
use Rattle.std.specs.Prelude.{codes, ◌&&◌}
use Rattle.std.specs.Str.{bytes_eq}
use Rattle.std.proofs.lemmas.Slice.Eq.{bytes_eq-Decides}
use Rattle.text_core.specs.Lines.{Line, lines_of}
use Rattle.tt_core.specs.Words.{Words, IsSpec, specification}
use Rattle.tt_core.specs.Spelling.{SpellsTables}
use Rattle.tt_core.specs.Tables as tables
use Rattle.tt_core.specs.declared.error.SpecError.{SpecError}
use Rattle.tt_core.specs.SpelledLaws.{tables_spelled}
use Rattle.tt_core.specs.ReadBack.{tables_again}
use Rattle.chain_theory.specs.Specification.{Specification}
use Rattle.chain_theory.specs.Chain.{Chain, IsChain}
use Rattle.chain_core.specs.Block as block
use Rattle.chain_core.specs.Steps.{IsSmallChain}
use Rattle.chain_core.specs.Spelling.{chain_lines}
use Rattle.chain_core.specs.declared.error.ChainError.{ChainError}
use Rattle.chain_core.specs.WrittenBlockLaws.{lines_read, lines_spelled}
use Rattle.chain_core.specs.WrittenLineLaws.{both_true}
use Rattle.cmd_agree.specs.declared.agree.AgreeError.{AgreeError}
use Rattle.cmd_agree.specs.declared.agree.AgreeError.TheVariants.{BadEnd}
use Rattle.cmd_agree.specs.Agree.{AgreeInput, ◌>>=◌, tables_in, chain_in, nothing_in, end_in, chain_following, question_in, question_of}
use Rattle.cmd_agree.specs.Asked.{end_line, AsksQuestion}
use Rattle.cmd_agree.proofs.TablesRead.{tables_whole}

-- ---- parts that were read without a fault

-- what was read without a fault
abbrev done : {A : Type 0} → A → Result A AgreeError
done x = Ok x

-- two equal results without a fault have equal values
ok_is : {A : Type 0} (x y : A) → done x ≡ done y → x ≡ y
ok_is x y e = cc

-- if the whole was read without a fault, the test before it is true
test_ok : {A : Type 0} (b : Bool) (r : Result A AgreeError) (d : AgreeError) (y : A) → cond b r (Err d) ≡ Ok y → (b ≡ true) × (r ≡ Ok y)
test_ok true r d y e = (refl, e)
test_ok false r d y e = absurd cc

-- the first of two parts that were read without a fault was read without one
bind_ok : {A B : Type 0} (r : Result A AgreeError) (f : A → Result B AgreeError) (y : B) → (r >>= f) ≡ Ok y → (x : A) × (r ≡ Ok x) × (f x ≡ Ok y)
bind_ok (Ok x) f y e = (x, refl, e)
bind_ok (Err d) f y e = absurd cc

-- tables
tables_ok : (r : Result tables.Read SpecError) (x : tables.Read) → tables_in r ≡ Ok x → r ≡ Ok x
tables_ok (Ok y) x e = cc
tables_ok (Err d) x e = absurd cc

-- a chain block
chain_ok : (r : Result block.Read ChainError) (x : block.Read) → chain_in r ≡ Ok x → r ≡ Ok x
chain_ok (Ok y) x e = cc
chain_ok (Err d) x e = absurd cc

-- ---- the end

nothing_ok : (number : ℕ) (ls : List Line) (u : Unit) → nothing_in number ls ≡ Ok u → ls ≡ []
nothing_ok number [] u e = refl
nothing_ok number (l ∷ ls) u e = absurd cc

-- a line is its text, and whether it ended
line_is : (l : Line) (text : List ℕ) → l.ended ≡ true → l.text ≡ text → l ≡ record { text = text; ended = true }
line_is l text ended same = λ i. record { text = same i; ended = ended i }

-- an end that was read is the line `end` alone
end_spells : (number : ℕ) (ls : List Line) (u : Unit) → end_in number ls ≡ Ok u → ls ≡ end_line ∷ []
unfolding end_in
end_spells number [] u e = absurd cc
end_spells number (l ∷ ls) u e =
    let test = test_ok (l.ended && bytes_eq l.text (codes "end")) (nothing_in (number + 1) ls) (BadEnd number) u e in
    let parts = both_true l.ended (bytes_eq l.text (codes "end")) test.0 in
    let first : l ≡ end_line = line_is l (codes "end") parts.0 ((bytes_eq-Decides l.text (codes "end")).0 parts.1) in
    let rest : ls ≡ [] = nothing_ok (number + 1) ls u test.1 in
    λ i. first i ∷ rest i

-- the line `end` alone is an end
end_back : (number : ℕ) → end_in number (end_line ∷ []) ≡ Ok tt
unfolding end_in
end_back number = refl

-- ---- the chain and the end after it

-- a chain, spelled by lines with the end after it
record SpellsChain (n m : ℕ) (ls : List Line) (c : Chain) : Type 0 where
  chain : IsChain c
  inputs : c.n ≡ n
  outputs : length c.outs ≡ m
  steps : length c.steps ≤ 16
  lines : ls ≡ chain_lines c ++ end_line ∷ []

chain_spells : (read : tables.Read) (c : Chain) → chain_following read ≡ Ok c → SpellsChain read.words.n (length read.words.on) read.rest c
unfolding chain_following
chain_spells read c e =
    let found = bind_ok (chain_in (block.chain_of (2 + length read.words.on) read.words.n (length read.words.on) read.rest)) _ c e in
    let ended = bind_ok (end_in (3 + 2 * length read.words.on + length found.0.chain.steps) found.0.rest) _ c found.2 in
    let lines = lines_spelled (2 + length read.words.on) read.words.n (length read.words.on) read.rest found.0 (chain_ok _ found.0 found.1) in
    let following : found.0.rest ≡ end_line ∷ [] = end_spells _ found.0.rest ended.0 ended.1 in
    let same : found.0.chain ≡ c = ok_is found.0.chain c ended.2 in
    let here : SpellsChain read.words.n (length read.words.on) read.rest found.0.chain = record {
      chain = lines.chain;
      inputs = lines.inputs;
      outputs = lines.outputs;
      steps = lines.steps;
      lines = lines.lines ∙ ap (λ (ls : List Line). chain_lines found.0.chain ++ ls) following;
    } in
    subst (λ (x : Chain). SpellsChain read.words.n (length read.words.on) read.rest x) same here

-- the spelling of a chain and the end after it are read as that chain
chain_back : (w : Words) (c : Chain) (ls : List Line) → IsSpec w → SpellsChain w.n (length w.on) ls c → chain_following (record { words = w; rest = ls }) ≡ Ok c
unfolding chain_following
chain_back w c ls spec spells =
    let few_inputs = spec.inputs in
    let few_outputs = spec.outputs in
    let inputs = spells.inputs in
    let outputs = spells.outputs in
    let small : IsSmallChain c = record { chain = spells.chain; inputs = omega arith; steps = spells.steps; outs = omega arith } in
    let first = 2 + length w.on in
    let lines : block.chain_of first w.n (length w.on) ls ≡ block.chain_of first c.n (length c.outs) (chain_lines c ++
    end_line ∷ []) = λ i. block.chain_of first (sym inputs i) (sym outputs i) (spells.lines i) in
    let read = lines ∙ lines_read first c (end_line ∷ []) small in
    rw (read, end_back (3 + 2 * length w.on + length c.steps)) refl

-- ---- questions

abbrev question_as : Specification → Chain → AgreeInput
question_as tables chain = record { tables = tables; chain = chain }

-- A text that is read as a question is its spelling.
pub question_spelled : (bytes : List ℕ) (question : AgreeInput) → question_of bytes ≡ Ok question → AsksQuestion bytes question
unfolding question_in
question_spelled bytes question e =
    let ls = lines_of bytes in
    let read = bind_ok (tables_in (tables.tables_of ls)) _ question e in
    let chain = bind_ok (chain_following read.0) _ question read.2 in
    let spells = tables_spelled ls read.0 (tables_ok (tables.tables_of ls) read.0 read.1) in
    let block = chain_spells read.0 chain.0 chain.1 in
    let found : AgreeInput = record { tables = specification read.0.words; chain = chain.0 } in
    let same : found ≡ question = ok_is found question chain.2 in
    let here : AsksQuestion bytes found = record {
      words = read.0.words;
      are = tables_whole ls read.0 (tables_ok (tables.tables_of ls) read.0 read.1);
      specify = refl;
      following = read.0.rest;
      tables = spells;
      chain = block.chain;
      inputs = block.inputs;
      outputs = block.outputs;
      steps = block.steps;
      lines = block.lines;
    } in
    subst (λ (q : AgreeInput). AsksQuestion bytes q) same here

-- The spelling of a question is read as that question.
words_back : (bytes : List ℕ) (w : Words) (c : Chain) (following : List Line) → IsSpec w →
    SpellsTables (specification w) (lines_of bytes) following → SpellsChain w.n (length w.on) following c →
    question_of bytes ≡ Ok (record { tables = specification w; chain = c })
unfolding question_in
words_back bytes w c following spec tables chain =
    rw (tables_again w (lines_of bytes) following spec tables, chain_back w c following spec chain) refl

pub question_back : (bytes : List ℕ) (question : AgreeInput) → AsksQuestion bytes question → question_of bytes ≡ Ok question
question_back bytes question asks =
    let w = asks.words in
    let chain : SpellsChain w.n (length w.on) asks.following question.chain = record {
      chain = asks.chain;
      inputs = asks.inputs ∙ ap (λ (s : Specification). s.inputs) asks.specify;
      outputs = asks.outputs ∙ ap (λ (s : Specification). s.outputs) asks.specify;
      steps = asks.steps;
      lines = asks.lines;
    } in
    let spelled : SpellsTables (specification w) (lines_of bytes) asks.following = subst (λ (s : Specification). SpellsTables s (lines_of bytes) asks.following) asks.specify asks.tables in
    let back = words_back bytes w question.chain asks.following asks.are spelled chain in
    let same : done (question_as (specification w) question.chain) ≡ done question = λ i. done (question_as (sym asks.specify i) question.chain) in
    back ∙ same
