-- Lists of lines: each spelling is read, and lines that are read are a spelling.
use Rattle.std.proofs.Common.{◌≡◌, ℕ, ◌+◌, ◌≤◌, ◌<◌, Bool, true, false, List, [], ◌∷◌, ◌++◌, length, map, Option, Some}
use Rattle.std.proofs.Common.{None, Result, Ok, Err, refl, sym, ap, ◌∙◌, arith, subst, append_assoc, length-append, ◌⊎◌}
use Rattle.std.proofs.Common.{inl, inr}
use Rattle.std.specs.Prelude.{◌&&◌, ◌==◌, nat_lt, nat_le, if◌then◌else◌}
use Rattle.std.specs.List.{AllByRecursion}
use Rattle.std.proofs.lemmas.Grind.{common_steps}
use Rattle.std.proofs.lemmas.Bool.{eqb-true, ltb-true, leb-true}
use Rattle.text_core.specs.Lines.{Line}
use Rattle.text_core.specs.Items.{items_of}
use Rattle.chain_theory.specs.declared.data.Out.{Out}
use Rattle.chain_theory.specs.declared.data.Out.TheVariants as outs
use Rattle.chain_theory.specs.Chain.{Step, IsStepAt, AreSteps, NamesPlace}
use Rattle.chain_core.specs.declared.frame.Frame.{Frame}
use Rattle.chain_core.specs.Block.{◌>>=◌, step_in, judged_step, step_at, steps_from, is_named, out_in, judged_out, out_at, outs_from}
use Rattle.chain_core.specs.declared.error.ChainError.{ChainError}
use Rattle.chain_core.specs.declared.error.ChainError.TheVariants.{BadStep, ForwardPlace, BadOut}
use Rattle.chain_core.specs.Spelling.{line, step_text, step_lines, out_text, out_line}
use Rattle.chain_core.specs.StepLaws.{first_step, other_steps, no_steps, more_in_prefix}
use Rattle.chain_core.specs.BlockLaws.{steps_done, outs_done}
use Rattle.chain_core.specs.WrittenLineLaws.{both_true, step_back, step_spells, out_back, out_spells}

-- ---- tests and steps that did not fail

-- what was read, and the lines after it
abbrev read_as : {A : Type 0} → A → List Line → Result (A × List Line) ChainError
read_as x ls = Ok (x, ls)

-- the value that was read, where there is no error
abbrev pub done : {A : Type 0} → A → Result A ChainError
done x = Ok x

-- equal results without an error have equal contents
pub ok_is : {A : Type 0} (x y : A) → done x ≡ done y → x ≡ y
ok_is x y e = cc

-- where there is no error, the test before it is true
pub test_ok : {A : Type 0} (b : Bool) (r : Result A ChainError) (d : ChainError) (y : A) → (if b then r else Err d) ≡ Ok y → (b ≡ true) × (r ≡ Ok y)
test_ok true r d y e = (refl, e)
test_ok false r d y e = absurd cc

-- where two parts are read without an error, the first one is
pub bind_ok : {A B : Type 0} (r : Result A ChainError) (f : A → Result B ChainError) (y : B) → (r >>= f) ≡ Ok y → (x : A) × (r ≡ Ok x) × (f x ≡ Ok y)
bind_ok (Ok x) f y e = (x, refl, e)
bind_ok (Err d) f y e = absurd cc

-- the two cases of a test
chosen : {A : Type 0} (b : Bool) (x y z : A) → (if b then x else y) ≡ z → ((b ≡ true) × (x ≡ z)) ⊎ ((b ≡ false) × (y ≡ z))
chosen true x y z e = inl (refl, e)
chosen false x y z e = inr (refl, e)

-- a line with an LF is determined by its text
pub line_is : (l : Line) (text : List ℕ) → l.ended ≡ true → l.text ≡ text → l ≡ line text
line_is l text ended same = λ i. record { text = same i; ended = ended i }

-- a smaller number isn't equal
not_yet : (m n : ℕ) → m < n → (m == n) ≡ false
not_yet m n less = grind (arith, common_steps)

-- ---- one step

-- a step at its place has no error
judged_back : (place number : ℕ) (s : Step) → IsStepAt place s → judged_step place number (Some (place, s)) ≡ Ok s
judged_back place number s at = grind (arith, common_steps)

-- a step that was checked without an error
record Judged (place : ℕ) (x : Option (ℕ × Step)) (s : Step) : Type 0 where
  found : x ≡ Some (place, s)
  j_from : 1 ≤ s.j
  j_below : s.j < place
  k_from : 1 ≤ s.k
  k_below : s.k < place

-- a step without an error names its own place and lower places
judged_spells : (place number : ℕ) (x : Option (ℕ × Step)) (s : Step) → judged_step place number x ≡ Ok s → Judged place x s
judged_spells place number None s e = absurd cc
judged_spells place number (Some x) s e =
    let form = test_ok (x.0 == place && nat_lt 0 x.1.j && nat_lt 0 x.1.k) _ (BadStep number) s e in
    let below = test_ok (nat_lt x.1.j place && nat_lt x.1.k place) (Ok x.1) (ForwardPlace number) s form.1 in
    let same : x.1 ≡ s = ok_is x.1 s below.1 in
    let nonzero = both_true (x.0 == place && nat_lt 0 x.1.j) (nat_lt 0 x.1.k) form.0 in
    let own = both_true (x.0 == place) (nat_lt 0 x.1.j) nonzero.0 in
    let less = both_true (nat_lt x.1.j place) (nat_lt x.1.k place) below.0 in
    record {
      found = λ i. Some (eqb-true x.0 place own.0 i, same i);
      j_from = rw same at (ltb-true 0 x.1.j own.1);
      j_below = rw same at (ltb-true x.1.j place less.0);
      k_from = rw same at (ltb-true 0 x.1.k nonzero.1);
      k_below = rw same at (ltb-true x.1.k place less.1);
    }

-- the line of a step is read
step_at_back : (f : Frame) (old : ℕ) (s : Step) → f.n + 1 + old < 1000000000 → IsStepAt (f.n + 1 + old) s → step_at f old (line (step_text (f.n + 1 + old) s)) ≡ Ok s
unfolding step_at
step_at_back f old s fits at = rw (step_back (f.n + 1 + old) s fits at) (judged_back (f.n + 1 + old) (f.first_line + 1 + old) s at)

-- a line that is read as a step's is its spelling
step_at_spells : (f : Frame) (old : ℕ) (l : Line) (s : Step) → step_at f old l ≡ Ok s → (l ≡ line (step_text (f.n + 1 + old) s)) × IsStepAt (f.n + 1 + old) s
unfolding step_at
step_at_spells f old l s e =
    let ended = test_ok l.ended (judged_step (f.n + 1 + old) (f.first_line + 1 + old) (step_in (items_of l.text))) (BadStep (f.first_line + 1 + old)) s e in
    let judged = judged_spells (f.n + 1 + old) (f.first_line + 1 + old) (step_in (items_of l.text)) s ended.1 in
    let written = step_spells l.text (f.n + 1 + old) s judged.found in
    (line_is l _ ended.0 written.1, record { j_from = judged.j_from; j_below = judged.j_below; k_from = judged.k_from; k_below = judged.k_below; op_below = written.0 })

-- ---- all steps

-- the lines of steps are read
pub steps_back : (f : Frame) (n : ℕ) (old ss : List Step) (rest : List Line) → n ≡ f.n + length old → AreSteps n ss →
    length old + length ss ≡ f.steps → f.n + 1 + f.steps < 1000000000 →
    steps_from f old (step_lines (n + 1) ss ++ rest) ≡ Ok (old ++ ss, rest)
unfolding step_lines steps_from
steps_back f n old [] rest place are count fits = steps_done f old rest (omega arith) ∙ ap (λ (ss : List Step). read_as ss rest) (grind (arith, common_steps))
steps_back f n old (s ∷ ss) rest place are count fits =
    let e : f.n + 1 + length old ≡ n + 1 = omega arith in
    let read : step_at f (length old) (line (step_text (n + 1) s)) ≡ Ok s = rw e at (step_at_back f (length old) s (omega arith) (rw e (first_step n s ss are))) in
    let onward = steps_back f (n + 1) (old ++ s ∷ []) ss rest (rw length-append (omega arith)) (other_steps n s ss are) (rw length-append (omega arith)) fits in
    rw (not_yet (length old) f.steps (omega arith), read) (onward ∙ ap (λ (xs : List Step). read_as xs rest) (append_assoc old (s ∷ []) ss))

-- the old steps followed by those that were read, the first of all at the place n + 1
pub record ReadSteps (f : Frame) (n : ℕ) (old : List Step) (ls : List Line) (y : List Step × List Line) : Type 0 where
  pub steps : List Step
  pub are : AreSteps n steps
  pub all : y.0 ≡ old ++ steps
  pub count : length old + length steps ≡ f.steps
  pub lines : ls ≡ step_lines (n + 1) steps ++ y.1

-- enough steps were read before
no_more_steps : (f : Frame) (n : ℕ) (old : List Step) (ls : List Line) (y : List Step × List Line) → (length old == f.steps) ≡ true → read_as old ls ≡ Ok y → ReadSteps f n old ls y
unfolding step_lines
no_more_steps f n old ls y enough e =
    let same : (old, ls) ≡ y = ok_is (old, ls) y e in
    record {
      steps = [];
      are = no_steps n;
      all = ap (λ (x : List Step × List Line). x.0) (sym same) ∙ grind (arith, common_steps);
      count = omega (arith, eqb-true (length old) f.steps enough);
      lines = ap (λ (x : List Step × List Line). x.1) same;
    }

-- one more step is read, and then the others
one_more_step : (f : Frame) (n : ℕ) (old : List Step) (s : Step) (l : Line) (ls : List Line) (y : List Step ×
    List Line) → IsStepAt (n + 1) s → l ≡ line (step_text (n + 1) s) → ReadSteps f (n + 1) (old ++ s ∷ []) ls y →
    ReadSteps f n old (l ∷ ls) y
unfolding step_lines
one_more_step f n old s l ls y at written more = record {
  steps = s ∷ more.steps;
  are = more_in_prefix n s more.steps at more.are;
  all = more.all ∙ append_assoc old (s ∷ []) more.steps;
  count = let sum = rw length-append at more.count in omega (arith, sum);
  lines = λ i. written i ∷ more.lines i;
}

-- lines that are read as steps are their spelling
pub steps_spell : (f : Frame) (ls : List Line) (n : ℕ) (old : List Step) (y : List Step × List Line) → n ≡ f.n + length old → steps_from f old ls ≡ Ok y → ReadSteps f n old ls y
unfolding steps_from
steps_spell f [] n old y place e =
    let test = test_ok (length old == f.steps) (read_as old []) (BadStep (f.first_line + 1 + length old)) y e in
    no_more_steps f n old [] y test.0 test.1
steps_spell f (l ∷ ls) n old y place e =
    elim (chosen (length old == f.steps) (read_as old (l ∷ ls)) (step_at f (length old) l >>= λ s. steps_from f (old ++ s ∷ []) ls) (done y) e) [
      | inl test ↦ no_more_steps f n old (l ∷ ls) y test.0 test.1
      | inr test ↦
          let found = bind_ok (step_at f (length old) l) (λ s. steps_from f (old ++ s ∷ []) ls) y test.1 in
          let read = step_at_spells f (length old) l found.0 found.1 in
          let here : f.n + 1 + length old ≡ n + 1 = omega arith in
          one_more_step f n old found.0 l ls y (rw here at read.1) (rw here at read.0) (steps_spell f ls (n + 1) (old ++ found.0 ∷ []) y (rw length-append (omega arith)) found.2)
    ]

-- ---- outs

-- an out that is a constant or a place of the chain has no error
judged_out_back : (last number : ℕ) (o : Out) → NamesPlace last o → judged_out last number (Some o) ≡ Ok o
judged_out_back last number outs.Zero named = refl
judged_out_back last number outs.One named = refl
judged_out_back last number (outs.Place p) named = grind (arith, common_steps, named.0, named.1)

-- an out that passes the test is a constant or a place of the chain
is_named_spells : (last : ℕ) (o : Out) → is_named last o ≡ true → NamesPlace last o
is_named_spells last outs.Zero e = tt
is_named_spells last outs.One e = tt
is_named_spells last (outs.Place p) e = let parts = both_true (nat_lt 0 p) (nat_le p last) e in (ltb-true 0 p parts.0, leb-true p last parts.1)

-- an out without an error was read, and is a constant or a place of the chain
judged_out_spells : (last number : ℕ) (x : Option Out) (o : Out) → judged_out last number x ≡ Ok o → (x ≡ Some o) × NamesPlace last o
judged_out_spells last number None o e = absurd cc
judged_out_spells last number (Some x) o e =
    let test = test_ok (is_named last x) (Ok x) (BadOut number) o e in
    let same : x ≡ o = ok_is x o test.1 in
    (ap (λ (y : Out). Some y) same, subst (λ (y : Out). NamesPlace last y) same (is_named_spells last x test.0))

-- the line of an out is read
out_at_back : (f : Frame) (old : ℕ) (o : Out) → f.n + f.steps < 1000000000 → NamesPlace (f.n + f.steps) o → out_at f old (out_line o) ≡ Ok o
unfolding out_at
out_at_back f old o fits named = rw (out_back o (f.n + f.steps) fits named) (judged_out_back (f.n + f.steps) (f.first_line + 1 + f.steps + old) o named)

-- a line that is read as an out's is its spelling
out_at_spells : (f : Frame) (old : ℕ) (l : Line) (o : Out) → out_at f old l ≡ Ok o → (l ≡ out_line o) × NamesPlace (f.n + f.steps) o
unfolding out_at
out_at_spells f old l o e =
    let ended = test_ok l.ended (judged_out (f.n + f.steps) (f.first_line + 1 + f.steps + old) (out_in l.text)) (BadOut (f.first_line + 1 + f.steps + old)) o e in
    let judged = judged_out_spells (f.n + f.steps) (f.first_line + 1 + f.steps + old) (out_in l.text) o ended.1 in
    (line_is l (out_text o) ended.0 (out_spells l.text o judged.0), judged.1)

-- the lines of outs are read
pub outs_back : (f : Frame) (old os : List Out) (rest : List Line) → AllByRecursion (NamesPlace (f.n + f.steps)) os →
    length old + length os ≡ f.outputs → f.n + f.steps < 1000000000 → outs_from f old (map out_line os ++ rest) ≡
    Ok (old ++ os, rest)
unfolding outs_from
outs_back f old [] rest named count fits = outs_done f old rest (omega arith) ∙ ap (λ (os : List Out). read_as os rest) (grind (arith, common_steps))
outs_back f old (o ∷ os) rest named count fits =
    let onward = outs_back f (old ++ o ∷ []) os rest named.1 (rw length-append (omega arith)) fits in
    rw (not_yet (length old) f.outputs (omega arith), out_at_back f (length old) o fits named.0) (onward ∙ ap (λ (xs : List Out). read_as xs rest) (append_assoc old (o ∷ []) os))

-- the old outs followed by those that were read
pub record ReadOuts (f : Frame) (old : List Out) (ls : List Line) (y : List Out × List Line) : Type 0 where
  pub outs : List Out
  pub named : AllByRecursion (NamesPlace (f.n + f.steps)) outs
  pub all : y.0 ≡ old ++ outs
  pub count : length old + length outs ≡ f.outputs
  pub lines : ls ≡ map out_line outs ++ y.1

-- enough outs were read before
no_more_outs : (f : Frame) (old : List Out) (ls : List Line) (y : List Out × List Line) → (length old == f.outputs) ≡ true → read_as old ls ≡ Ok y → ReadOuts f old ls y
no_more_outs f old ls y enough e =
    let same : (old, ls) ≡ y = ok_is (old, ls) y e in
    record {
      outs = [];
      named = tt;
      all = ap (λ (x : List Out × List Line). x.0) (sym same) ∙ grind (arith, common_steps);
      count = omega (arith, eqb-true (length old) f.outputs enough);
      lines = ap (λ (x : List Out × List Line). x.1) same;
    }

-- one more out is read, and then the others
one_more_out : (f : Frame) (old : List Out) (o : Out) (l : Line) (ls : List Line) (y : List Out × List Line) →
    NamesPlace (f.n + f.steps) o → l ≡ out_line o → ReadOuts f (old ++ o ∷ []) ls y → ReadOuts f old (l ∷ ls) y
one_more_out f old o l ls y named written more = record {
  outs = o ∷ more.outs;
  named = (named, more.named);
  all = more.all ∙ append_assoc old (o ∷ []) more.outs;
  count = let sum = rw length-append at more.count in omega (arith, sum);
  lines = λ i. written i ∷ more.lines i;
}

-- lines that are read as outs are their spelling
pub outs_spell : (f : Frame) (ls : List Line) (old : List Out) (y : List Out × List Line) → outs_from f old ls ≡ Ok y → ReadOuts f old ls y
unfolding outs_from
outs_spell f [] old y e =
    let test = test_ok (length old == f.outputs) (read_as old []) (BadOut (f.first_line + 1 + f.steps + length old)) y e in
    no_more_outs f old [] y test.0 test.1
outs_spell f (l ∷ ls) old y e =
    elim (chosen (length old == f.outputs) (read_as old (l ∷ ls)) (out_at f (length old) l >>= λ o. outs_from f (old ++ o ∷ []) ls) (done y) e) [
      | inl test ↦ no_more_outs f old (l ∷ ls) y test.0 test.1
      | inr test ↦
          let found = bind_ok (out_at f (length old) l) (λ o. outs_from f (old ++ o ∷ []) ls) y test.1 in
          let read = out_at_spells f (length old) l found.0 found.1 in
          one_more_out f old found.0 l ls y read.1 read.0 (outs_spell f ls (old ++ found.0 ∷ []) y found.2)
    ]
