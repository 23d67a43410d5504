-- A spelled block is read, and a block that is read is the spelling of its chain, byte for byte.
use Rattle.std.proofs.Common.{◌≡◌, ℕ, ◌+◌, ◌≤◌, ◌<◌, true, List, [], ◌∷◌, ◌++◌, length, map, Option, Some, None, Ok, refl, sym, ap, ◌∙◌, arith, subst, append_assoc}
use Rattle.std.specs.Prelude.{option_and_then, codes}
use Rattle.std.specs.List.{flat_map, AllByRecursion}
use Rattle.std.proofs.lemmas.Grind.{common_steps, flat_map-append}
use Rattle.std.proofs.lemmas.List.Elements.{All-from_recursion, recursion_from_All}
use Rattle.text_core.specs.Lines.{Line, lines_of, line_bytes}
use Rattle.text_core.specs.Words.{after, is_free}
use Rattle.text_core.specs.ReadBack.{line_back, lines_spell}
use Rattle.chain_theory.specs.declared.data.Out.{Out}
use Rattle.chain_theory.specs.Chain.{Step, Chain, AreSteps, NamesPlace, IsChain}
use Rattle.chain_core.specs.declared.frame.Frame.{Frame}
use Rattle.chain_core.specs.Steps.{IsSmallChain}
use Rattle.chain_core.specs.Block.{number_in, counted, count_at, steps_from, outs_from, Read, body_from, chain_of}
use Rattle.chain_core.specs.declared.error.ChainError.TheVariants.{BadCount}
use Rattle.chain_core.specs.Spelling.{line, count_text, step_lines, out_line, chain_lines, chain_text, SpellsChain}
use Rattle.chain_core.specs.StepLaws.{first_step, other_steps}
use Rattle.chain_core.specs.WrittenLineLaws.{free_step, free_out, count_back, count_spells, free_count}
use Rattle.chain_core.specs.WrittenListLaws.{ok_is, test_ok, bind_ok, line_is, steps_back, steps_spell, outs_back, outs_spell}
use Rattle.chain_theory.specs.Limits.{most_steps}

-- ---- the first line

-- the first line is read
pub count_at_back : (first r : ℕ) → r ≤ most_steps → count_at first (line (count_text r)) ≡ Ok r
unfolding count_at
count_at_back first r few = rw (count_back r few) (grind (arith, common_steps))

-- a number of steps without an error is at most 16
counted_spells : (first : ℕ) (x : Option ℕ) (r : ℕ) → counted first x ≡ Ok r → (x ≡ Some r) × (r ≤ most_steps)
counted_spells first None r e = absurd cc
counted_spells first (Some s) r e = grind (arith, common_steps)

-- a first line that is read is the spelling of its number
count_at_spells : (first : ℕ) (l : Line) (r : ℕ) → count_at first l ≡ Ok r → (l ≡ line (count_text r)) × (r ≤ most_steps)
unfolding count_at
count_at_spells first l r e =
    let ended = test_ok l.ended (counted first (option_and_then number_in (after (codes "chain ") l.text))) (BadCount first) r e in
    let counted = counted_spells first (option_and_then number_in (after (codes "chain ") l.text)) r ended.1 in
    (line_is l (count_text r) ended.0 (count_spells l.text r counted.0), counted.1)

-- ---- the lines of a block

-- the frame of a chain's own block
abbrev frame : ℕ → Chain → Frame
frame first c = record { first_line = first; n = c.n; outputs = length c.outs; steps = length c.steps }

-- all lines but the first are read
body_back : (first : ℕ) (c : Chain) (rest : List Line) → IsSmallChain c →
    body_from (frame first c) ((step_lines (c.n + 1) c.steps ++ map out_line c.outs) ++ rest) ≡
    Ok (record { chain = c; rest = rest })
unfolding body_from
body_back first c rest small =
    let f = frame first c in
    let inputs = small.inputs in
    let few = small.steps in
    let steps = steps_back f c.n [] c.steps (map out_line c.outs ++ rest) (omega arith) small.chain.steps (omega arith) (omega arith) in
    let os = outs_back f [] c.outs rest (recursion_from_All _ c.outs small.chain.outs) (omega arith) (omega arith) in
    rw (append_assoc, steps, os) refl

-- the lines of a block are read
pub lines_read : (first : ℕ) (c : Chain) (rest : List Line) → IsSmallChain c → chain_of first c.n (length c.outs) (chain_lines c ++ rest) ≡ Ok (record { chain = c; rest = rest })
unfolding chain_of
lines_read first c rest small = rw (count_at_back first (length c.steps) small.steps) (body_back first c rest small)

-- the chain that the lines of a block are read as
pub record ReadLines (n m : ℕ) (ls : List Line) (x : Read) : Type 0 where
  pub chain : IsChain x.chain
  pub inputs : x.chain.n ≡ n
  pub outputs : length x.chain.outs ≡ m
  pub steps : length x.chain.steps ≤ most_steps
  pub lines : ls ≡ chain_lines x.chain ++ x.rest

-- lines that are read after the first line are the spelling of their chain
body_spells : (f : Frame) (l : Line) (ls : List Line) (x : Read) → l ≡ line (count_text f.steps) → f.steps ≤ most_steps → body_from f ls ≡ Ok x → ReadLines f.n f.outputs (l ∷ ls) x
unfolding body_from
body_spells f l ls x first few e =
    let steps = bind_ok (steps_from f [] ls) _ x e in
    let os = bind_ok (outs_from f [] steps.0.1) _ x steps.2 in
    let a = steps_spell f ls f.n [] steps.0 (omega arith) steps.1 in
    let b = outs_spell f steps.0.1 [] os.0 os.1 in
    let read : Read = record { chain = record { n = f.n; steps = a.steps; outs = b.outs }; rest = os.0.1 } in
    let same : x ≡ read = sym (ok_is _ x os.2) ∙ (λ i. record { chain = record { n = f.n; steps = a.all i; outs = b.all i }; rest = os.0.1 }) in
    let count : f.steps ≡ length a.steps = omega (arith, a.count) in
    let following : ls ≡ (step_lines (f.n + 1) a.steps ++ map out_line b.outs) ++ os.0.1 = rw append_assoc (a.lines ∙ ap (λ (rest : List Line). step_lines (f.n + 1) a.steps ++ rest) b.lines) in
    let here : ReadLines f.n f.outputs (l ∷ ls) read = record {
      chain = record { steps = a.are; outs = All-from_recursion _ b.outs (subst (λ (r : ℕ). AllByRecursion (NamesPlace (f.n + r)) b.outs) count b.named) };
      inputs = refl;
      outputs = omega (arith, b.count);
      steps = omega (arith, count);
      lines = λ i. (first ∙ ap (λ (r : ℕ). line (count_text r)) count) i ∷ following i;
    } in
    subst (λ (y : Read). ReadLines f.n f.outputs (l ∷ ls) y) (sym same) here

-- a block that is read is the spelling of its chain
pub lines_spelled : (first n m : ℕ) (ls : List Line) (x : Read) → chain_of first n m ls ≡ Ok x → ReadLines n m ls x
unfolding chain_of
lines_spelled first n m [] x e = absurd cc
lines_spelled first n m (l ∷ ls) x e =
    let counted = bind_ok (count_at first l) _ x e in
    let written = count_at_spells first l counted.0 counted.1 in
    body_spells (record { first_line = first; n = n; outputs = m; steps = counted.0 }) l ls x written.0 written.1 counted.2

-- ---- the bytes

-- a line that an LF ends, with no LF inside
pub record IsWritten (l : Line) : Type 0 where
  pub ended : l.ended ≡ true
  pub free : is_free 10 l.text ≡ true

-- written lines are the lines of their bytes
pub lines_back : (ls : List Line) (rest : List ℕ) → AllByRecursion IsWritten ls → lines_of (flat_map line_bytes ls ++ rest) ≡ ls ++ lines_of rest
lines_back [] rest written = refl
lines_back (l ∷ ls) rest written =
    let following = flat_map line_bytes ls ++ rest in
    let bytes : flat_map line_bytes (l ∷ ls) ++ rest ≡ l.text ++ 10 ∷ following = rw written.0.ended (simp append_assoc) in
    let whole : line l.text ≡ l = sym (line_is l l.text written.0.ended refl) in
    ap lines_of bytes ∙ line_back l.text following written.0.free ∙ (λ i. whole i ∷ lines_back ls rest written.1 i)

-- written lines followed by written lines
pub both_written : (ls more : List Line) → AllByRecursion IsWritten ls → AllByRecursion IsWritten more → AllByRecursion IsWritten (ls ++ more)
both_written [] more one two = two
both_written (l ∷ ls) more one two = (one.0, both_written ls more one.1 two)

-- the lines of steps are written lines
steps_written : (n : ℕ) (ss : List Step) → AreSteps n ss → n + length ss < 1000000000 → AllByRecursion IsWritten (step_lines (n + 1) ss)
unfolding step_lines
steps_written n [] are fits = tt
steps_written n (s ∷ ss) are fits = (record { ended = refl; free = free_step (n + 1) s (omega arith) (first_step n s ss are) }, steps_written (n + 1) ss (other_steps n s ss are) (omega arith))

-- the lines of outs are written lines
outs_written : (last : ℕ) (os : List Out) → AllByRecursion (NamesPlace last) os → last < 1000000000 → AllByRecursion IsWritten (map out_line os)
outs_written last [] named fits = tt
outs_written last (o ∷ os) named fits = (record { ended = refl; free = free_out o last fits named.0 }, outs_written last os named.1 fits)

-- the lines of a block are written lines
pub block_written : (c : Chain) → IsSmallChain c → AllByRecursion IsWritten (chain_lines c)
block_written c small =
    let inputs = small.inputs in
    let few = small.steps in
    let steps = steps_written c.n c.steps small.chain.steps (omega arith) in
    let os = outs_written (c.n + length c.steps) c.outs (recursion_from_All _ c.outs small.chain.outs) (omega arith) in
    (record { ended = refl; free = free_count (length c.steps) few }, both_written (step_lines (c.n + 1) c.steps) (map out_line c.outs) steps os)

-- A block that is written is read as its chain, whatever text follows.
pub block_back : (first : ℕ) (c : Chain) (rest : List ℕ) → IsSmallChain c → chain_of first c.n (length c.outs) (lines_of (chain_text c ++ rest)) ≡ Ok (record { chain = c; rest = lines_of rest })
block_back first c rest small = ap (λ (ls : List Line). chain_of first c.n (length c.outs) ls) (lines_back (chain_lines c) rest (block_written c small)) ∙ lines_read first c (lines_of rest) small

-- A block that is read is the spelling of its chain, byte for byte.
pub block_spells : (first n m : ℕ) (bytes : List ℕ) (x : Read) → chain_of first n m (lines_of bytes) ≡ Ok x → SpellsChain n m bytes x
block_spells first n m bytes x e =
    let read = lines_spelled first n m (lines_of bytes) x e in
    record {
      chain = read.chain;
      inputs = read.inputs;
      outputs = read.outputs;
      steps = read.steps;
      text = sym (lines_spell bytes) ∙ ap (λ (ls : List Line). flat_map line_bytes ls) read.lines ∙ flat_map-append line_bytes (chain_lines x.chain) x.rest;
    }
