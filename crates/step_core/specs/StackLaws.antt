-- The words of a stack after a push and after a pop.
use Rattle.std.proofs.Common.{◌≡◌, ℕ, suc, ◌+◌, ◌-◌, ◌≤◌, ◌<◌, List, [], ◌∷◌, ◌++◌, length, sym, ap, ◌∙◌, subst, arith, inl, inr}
use Rattle.std.specs.Prelude.{slice_index, slice_index_or, Some, take, drop}
use Rattle.std.proofs.lemmas.Grind.{common_steps}
use Rattle.std.proofs.lemmas.Bool.{cases_lt}
use Rattle.std.proofs.lemmas.List.{get_or_push, get_or_append_left, length_push, length-map, map-append, get_or-map, take-map, length-take-le, take-append-drop, get_or-take}
use Rattle.std.proofs.lemmas.Option.{slice_get_within, slice_get-get_or, get_or_from_slice_get}
use Rattle.chain_theory.specs.Chain.{Step, IsStepAt, AreSteps}
use Rattle.chain_core.specs.Steps.{step_of, steps_of}
use Rattle.chain_core.specs.declared.step.Step as held
use Rattle.chain_core.specs.StepLaws.{no_steps, more_after}
use Rattle.chain_laws.specs.Follow.{run, run_below, with_own, own_has, step_at}
use Rattle.op_basis.specs.WordOperator.{input_word, on_words}
use Rattle.step_core.specs.Steps.{step_word, word_in}
use Rattle.step_core.specs.StepStacks.{StackView, IsStepStack, HasStepWords}
use Rattle.chain_theory.specs.Limits.{most_inputs}
use Rattle.step_core.specs.Limits.{most_enumerated_steps}

-- ---- words of steps and of more steps

run_append : {V : Type 0} (f : (ℕ → V) → Step → V) (has : ℕ → V) (place : ℕ) (prefix rest : List Step) → run f has place (prefix ++ rest) ≡ run f (run f has place prefix) (place + length prefix) rest
unfolding run
run_append f has place [] rest = let e : place ≡ place + 0 = omega arith in ap (λ (p : ℕ). run f has p rest) e
run_append f has place (s ∷ prefix) rest =
    let e : place + 1 + length prefix ≡ place + suc (length prefix) = omega arith in
    run_append f (with_own has place (f has s)) (place + 1) prefix rest ∙ ap (λ (p : ℕ). run f (run f (with_own has place (f has s)) (place + 1) prefix) p rest) e

-- later steps change no word
pub word_prefix : (n : ℕ) (prefix rest : List Step) (p : ℕ) → p ≤ n + length prefix → word_in n (prefix ++ rest) p ≡ word_in n prefix p
unfolding word_in
word_prefix n prefix rest p low =
    ap (λ (f : ℕ → ℕ). f p) (run_append step_word (λ q. input_word (n - q)) (n + 1) prefix rest)
    ∙ run_below step_word (run step_word (λ q. input_word (n - q)) (n + 1) prefix) (n + 1 + length prefix) rest p (omega arith)

-- the word of the last step
pub word_last : (n : ℕ) (prefix : List Step) (s : Step) (p : ℕ) → p ≡ n + 1 + length prefix → word_in n (prefix ++ s ∷ []) p ≡ on_words s.op (word_in n prefix s.j) (word_in n prefix s.k)
unfolding word_in run
word_last n prefix s p e =
    ap (λ (f : ℕ → ℕ). f p) (run_append step_word (λ q. input_word (n - q)) (n + 1) prefix (s ∷ []))
    ∙ own_has (run step_word (λ q. input_word (n - q)) (n + 1) prefix) (n + 1 + length prefix) p (step_word (run step_word (λ q. input_word (n - q)) (n + 1) prefix) s) e

-- the word of an input
pub word_input : (n : ℕ) (steps : List Step) (p : ℕ) → p ≤ n → word_in n steps p ≡ input_word (n - p)
unfolding word_in
word_input n steps p low = run_below step_word (λ q. input_word (n - q)) (n + 1) steps p (omega arith)

-- ---- stacks

abbrev pub stack_of : ℕ → List held.Step → StackView
stack_of n steps = record { n = n; steps = steps_of steps }

pub whole_of : (n : ℕ) (steps : List held.Step) (words : List ℕ) → HasStepWords (stack_of n steps) words → IsStepStack (stack_of n steps)
whole_of n steps words is = is.stack

-- the words of inputs so far
pub record AreInputs (n before : ℕ) (words : List ℕ) : Type 0 where
  pub count : length words ≡ before
  pub each : (p : ℕ) → 1 ≤ p → p ≤ before → slice_index words (p - 1) ≡ input_word (n - p)

pub no_inputs : (n : ℕ) (words : List ℕ) → words ≡ [] → AreInputs n 0 words
no_inputs n words e = record { count = ap (λ (xs : List ℕ). length xs) e; each = λ p from to. omega (arith, from, to) }

pub more_inputs : (n before word : ℕ) (words longer : List ℕ) → AreInputs n before words → word ≡ input_word (n - (before + 1)) → longer ≡ words ++ word ∷ [] → AreInputs n (before + 1) longer
more_inputs n before word words longer are is e = subst (AreInputs n (before + 1)) (sym e) (record {
  count = length_push words word ∙ ap (λ (x : ℕ). x + 1) are.count;
  each = λ p from to. elim (cases_lt (p - 1) before) [
    | inl below ↦ get_or_append_left words (word ∷ []) 0 (p - 1) (omega (arith, below, are.count)) ∙ are.each p from (omega (arith, below, from))
    | inr past ↦
        let same : before + 1 ≡ p = omega (arith, past, from, to) in
        get_or_push words word 0 (p - 1) (omega (arith, past, from, to, are.count)) ∙ is ∙ ap (λ (x : ℕ). input_word (n - x)) same
  ];
})

pub inputs_whole : (n : ℕ) (words : List ℕ) (steps : List held.Step) → n ≤ most_inputs → steps ≡ [] → AreInputs n n words → HasStepWords (stack_of n steps) words
inputs_whole n words steps few none are = subst (λ (ss : List held.Step). HasStepWords (stack_of n ss) words) (sym none) (record {
  stack = record { inputs = few; few = omega arith; are = no_steps n };
  count = omega (arith, are.count);
  each = λ p from to. are.each p from (omega (arith, to)) ∙ sym (word_input n [] p (omega (arith, to)));
})

pub no_steps_of : (steps : List held.Step) → steps ≡ [] → steps_of steps ≡ []
no_steps_of steps e = ap steps_of e

-- ---- one step more

pub pushed_steps : (steps more : List held.Step) (step : held.Step) → more ≡ steps ++ step ∷ [] → steps_of more ≡ steps_of steps ++ step_of step ∷ []
pushed_steps steps more step e = ap steps_of e ∙ map-append step_of steps (step ∷ [])

pushed_words : (n word : ℕ) (steps : List Step) (step : Step) (words : List ℕ) →
    HasStepWords (record { n = n; steps = steps }) words → length steps < most_enumerated_steps → IsStepAt (n + 1 + length steps) step →
    word ≡ on_words step.op (word_in n steps step.j) (word_in n steps step.k) →
    HasStepWords (record { n = n; steps = steps ++ step ∷ [] }) (words ++ word ∷ [])
pushed_words n word steps step words is room at made =
    let count : length (steps ++ step ∷ []) ≡ length steps + 1 = length_push steps step in
    let longer : length (words ++ word ∷ []) ≡ length words + 1 = length_push words word in
    record {
      stack = record { inputs = is.stack.inputs; few = omega (arith, room, count); are = more_after n steps step is.stack.are at };
      count = omega (arith, is.count, count, longer);
      each = λ p from to. elim (cases_lt (p - 1) (length words)) [
        | inl below ↦
            get_or_append_left words (word ∷ []) 0 (p - 1) below
            ∙ is.each p from (omega (arith, below, from, is.count))
            ∙ sym (word_prefix n steps (step ∷ []) p (omega (arith, below, from, is.count)))
        | inr past ↦
            get_or_push words word 0 (p - 1) (omega (arith, past, from, to, count, is.count))
            ∙ made ∙ sym (word_last n steps step p (omega (arith, past, from, to, count, is.count)))
      ];
    }

pub push_whole : (n word : ℕ) (steps more : List held.Step) (step : held.Step) (words longer : List ℕ) →
    HasStepWords (stack_of n steps) words → more ≡ steps ++ step ∷ [] → longer ≡ words ++ word ∷ [] →
    length (steps_of steps) < most_enumerated_steps → IsStepAt (n + 1 + length (steps_of steps)) (step_of step) →
    word ≡ on_words step.op (word_in n (steps_of steps) step.j) (word_in n (steps_of steps) step.k) →
    HasStepWords (stack_of n more) longer
push_whole n word steps more step words longer is grown lengthened room at made =
    subst (HasStepWords (stack_of n more)) (sym lengthened)
    (subst (λ (ss : List Step). HasStepWords (record { n = n; steps = ss }) (words ++ word ∷ [])) (sym (pushed_steps steps more step grown))
    (pushed_words n word (steps_of steps) (step_of step) words is room at made))

-- the same in terms of the model of the stack
pub push_seen : (n word : ℕ) (steps more : List held.Step) (step : held.Step) (words longer : List ℕ)
    (now : StackView) → stack_of n steps ≡ now → HasStepWords (stack_of n steps) words → more ≡ steps ++ step ∷ [] →
    longer ≡ words ++ word ∷ [] → length now.steps < most_enumerated_steps → IsStepAt (now.n + 1 + length now.steps) (step_of step) →
    word ≡ on_words step.op (word_in now.n now.steps step.j) (word_in now.n now.steps step.k) →
    HasStepWords (stack_of n more) longer
push_seen n word steps more step words longer now seen is grown lengthened room at made =
    push_whole n word steps more step words longer is grown lengthened
    (subst (λ (x : StackView). length x.steps < most_enumerated_steps) (sym seen) room)
    (subst (λ (x : StackView). IsStepAt (x.n + 1 + length x.steps) (step_of step)) (sym seen) at)
    (subst (λ (x : StackView). word ≡ on_words step.op (word_in x.n x.steps step.j) (word_in x.n x.steps step.k)) (sym seen) made)

-- ---- one step less

take_are : (n k : ℕ) (steps : List Step) → AreSteps n steps → k ≤ length steps → AreSteps n (take k steps)
take_are n k steps are low = record {
  each = λ i s at.
      let inside : i < k = omega (arith, slice_get_within (take k steps) i s at, length-take-le k steps low) in
      are.each i s (slice_get-get_or steps i s (omega (arith, inside, low)) ∙ ap Some (sym (get_or-take k steps i s inside) ∙ get_or_from_slice_get (take k steps) i s s at));
}

popped_words : (n : ℕ) (steps : List Step) (words : List ℕ) → HasStepWords (record { n = n; steps = steps }) words →
    0 < length steps → HasStepWords (record { n = n; steps = take (length steps - 1) steps })
    (take (length words - 1) words)
popped_words n steps words is some =
    let k : ℕ = length steps - 1 in
    let count : length (take k steps) ≡ k = length-take-le k steps (omega arith) in
    let shorter : length (take (length words - 1) words) ≡ length words - 1 = length-take-le (length words - 1) words (omega arith) in
    record {
      stack = record { inputs = is.stack.inputs; few = omega (arith, is.stack.few, count); are = take_are n k steps is.stack.are (omega arith) };
      count = omega (arith, is.count, count, shorter, some);
      each = λ p from to.
          get_or-take (length words - 1) words (p - 1) 0 (omega (arith, from, to, count, is.count, some))
          ∙ is.each p from (omega (arith, to, count))
          ∙ ap (λ (ss : List Step). word_in n ss p) (sym (take-append-drop k steps))
          ∙ word_prefix n (take k steps) (drop k steps) p to;
    }

pub popped_steps : (steps less : List held.Step) → less ≡ take (length steps - 1) steps → steps_of less ≡ take (length (steps_of steps) - 1) (steps_of steps)
popped_steps steps less e =
    let count : length steps ≡ length (steps_of steps) = sym (length-map steps step_of) in
    ap steps_of e ∙ sym (take-map step_of (length steps - 1) steps) ∙ ap (λ (k : ℕ). take (k - 1) (steps_of steps)) count

pub pop_whole : (n : ℕ) (steps less : List held.Step) (words shorter : List ℕ) →
    HasStepWords (stack_of n steps) words → less ≡ take (length steps - 1) steps →
    shorter ≡ take (length words - 1) words → 0 < length (steps_of steps) → HasStepWords (stack_of n less) shorter
pop_whole n steps less words shorter is taken cut some =
    subst (HasStepWords (stack_of n less)) (sym cut)
    (subst (λ (ss : List Step). HasStepWords (record { n = n; steps = ss }) (take (length words - 1) words)) (sym (popped_steps steps less taken))
    (popped_words n (steps_of steps) words is some))

-- ---- a step by its index

pub held_at : (steps : List held.Step) (i : ℕ) (s : held.Step) → i < length (steps_of steps) → s ≡ slice_index_or steps i s → step_of s ≡ step_at (steps_of steps) i
unfolding step_at
held_at steps i s low is = ap step_of is ∙ sym (get_or-map step_of steps i s (record { j = 0; k = 0; op = 0 }) (omega (arith, low, length-map steps step_of)))

pub ruleset stacking = (common_steps, whole_of, no_inputs, more_inputs, inputs_whole, no_steps_of, pushed_steps, push_whole, popped_steps, pop_whole, held_at)
