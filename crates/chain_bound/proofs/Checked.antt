-- A chain that passed the checks is one within the bound.
use Rattle.std.proofs.Common.{◌≡◌, ℕ, ◌≤◌, List, [], ◌∷◌, ◌++◌, length, All, Option, None, subst, sym}
use Rattle.std.proofs.lemmas.List.Elements.{All-nil, All-push}
use Rattle.std.proofs.lemmas.Grind.{common_steps}
use Rattle.chain_theory.specs.Chain.{Chain}
use Rattle.chain_theory.specs.Operator.{Basis}
use Rattle.chain_theory.specs.Specification.{Specification}
use Rattle.chain_theory.specs.Agreement.{IsOver, Agrees}
use Rattle.chain_theory.specs.Difference.{IsComparison}
use Rattle.chain_core.specs.Steps.{IsSmallChain}
use Rattle.chain_core.specs.Outside.{IsBasisCheck}
use Rattle.chain_theory.specs.declared.data.Out.{Out}
use Rattle.chain_theory.specs.Chain.{NamesPlace}
use Rattle.chain_core.specs.StepLaws.{no_steps}
use Rattle.step_core.specs.LeastChains.{IsChainWithin}

pub judged_over : (basis : Basis) (c : Chain) (o : Option ℕ) → IsBasisCheck basis c o → o ≡ None → IsOver basis c
judged_over basis c o is e = subst (λ (x : Option ℕ). IsBasisCheck basis c x) e is

pub compared_agrees : (c : Chain) (s : Specification) (o : Option (ℕ × ℕ)) → IsComparison c s o → o ≡ None → Agrees c s
compared_agrees c s o is e = subst (λ (x : Option (ℕ × ℕ)). IsComparison c s x) e is

pub checked_within : (s : Specification) (basis : Basis) (most : ℕ) (c : Chain) → IsSmallChain c → length c.steps ≤ most → IsOver basis c → Agrees c s → IsChainWithin s basis most c
checked_within s basis most c small few over agrees = record { small = small; few = few; over = over; agrees = agrees }

-- no outs
pub no_outs : (last : ℕ) → All (NamesPlace last) []
no_outs last = All-nil (NamesPlace last)

-- one out more
pub more_outs : (last : ℕ) (xs more : List Out) (x : Out) → more ≡ xs ++ x ∷ [] → All (NamesPlace last) xs → NamesPlace last x → All (NamesPlace last) more
more_outs last xs more x e all names = subst (λ (os : List Out). All (NamesPlace last) os) (sym e) (All-push (NamesPlace last) xs x all names)

pub ruleset building = (common_steps, no_steps, no_outs, more_outs)

pub ruleset checking = (common_steps, judged_over, compared_agrees, checked_within)
