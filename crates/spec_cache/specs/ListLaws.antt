-- Permutations of lists of steps, and chains with permuted lists.
use Rattle.std.proofs.Common.{◌≡◌, ℕ, List, [], ◌∷◌, map, refl, sym, ap, ◌∙◌, subst}
use Rattle.std.proofs.lemmas.Grind.{common_steps}
use Rattle.chain_theory.specs.Chain.{Step, Chain}
use Rattle.chain_theory.specs.declared.data.Out.{Out}
use Rattle.chain_laws.specs.Moved.{moved}
use Rattle.chain_core.specs.declared.step.Step as steps
use Rattle.chain_core.specs.Steps.{step_of, steps_of, IsSmallChain}
use Rattle.spec_cache.specs.Order.{IsOrder}
use Rattle.spec_cache.specs.OrderLaws.{permuted_place, permuted_input, permuted_gate, permuted_steps, permuted_out, permuted_chain, small_stands}

-- ---- steps as the program holds them

abbrev pub permuted_step : ℕ → List ℕ → steps.Step → steps.Step
permuted_step n order s = record { j = permuted_place n order s.j; k = permuted_place n order s.k; op = s.op }

each_permuted : (n : ℕ) (order : List ℕ) (xs : List steps.Step) → steps_of (map (permuted_step n order) xs) ≡ permuted_steps n order (steps_of xs)
each_permuted n order [] = refl
each_permuted n order (x ∷ xs) = ap (λ (ss : List Step). moved (permuted_place n order) (step_of x) ∷ ss) (each_permuted n order xs)

pub steps_permuted : (n : ℕ) (order : List ℕ) (xs ys : List steps.Step) → ys ≡ map (permuted_step n order) xs → steps_of ys ≡ permuted_steps n order (steps_of xs)
steps_permuted n order xs ys e = ap (λ (ss : List steps.Step). steps_of ss) e ∙ each_permuted n order xs

-- ---- chains

abbrev chain_by : ℕ → List Step → List Out → Chain
chain_by n steps outs = record { n = n; steps = steps; outs = outs }

pub chain_is : (order : List ℕ) (c : Chain) (n : ℕ) (old new : List Step) (from to : List Out) → n ≡ c.n →
    old ≡ c.steps → from ≡ c.outs → new ≡ permuted_steps n order old → to ≡ map (permuted_out n order) from →
    chain_by n new to ≡ permuted_chain order c
chain_is order c n old new from to n_is old_is from_is new_is to_is =
    ap (λ (ss : List Step). chain_by n ss to) new_is
    ∙ ap (λ (os : List Out). chain_by n (permuted_steps n order old) os) to_is
    ∙ ap (λ (m : ℕ). chain_by m (permuted_steps m order old) (map (permuted_out m order) from)) n_is
    ∙ ap (λ (ss : List Step). chain_by c.n (permuted_steps c.n order ss) (map (permuted_out c.n order) from)) old_is
    ∙ ap (λ (os : List Out). chain_by c.n (permuted_steps c.n order c.steps) (map (permuted_out c.n order) os)) from_is

pub chain_small : (order : List ℕ) (c : Chain) (n : ℕ) (old new : List Step) (from to : List Out) → n ≡ c.n →
    old ≡ c.steps → from ≡ c.outs → new ≡ permuted_steps n order old → to ≡ map (permuted_out n order) from →
    IsOrder c.n order → IsSmallChain c → IsSmallChain (chain_by n new to)
chain_small order c n old new from to n_is old_is from_is new_is to_is is small =
    subst IsSmallChain (sym (chain_is order c n old new from to n_is old_is from_is new_is to_is)) (small_stands order c is small)

pub ruleset placing = (common_steps, permuted_input, permuted_gate, steps_permuted)
