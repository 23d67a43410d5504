-- What the enumeration looks for, and what it has ruled out.
use Rattle.std.specs.Prelude.{◌≡◌, ℕ, suc, ◌+◌, ◌≤◌, Bool, true, false, List, ◌∷◌, ◌++◌, length, min}
use Rattle.chain_theory.specs.Operator.{Basis}
use Rattle.chain_theory.specs.Chain.{Step, Chain}
use Rattle.chain_theory.specs.Agreement.{Agrees}
use Rattle.chain_theory.specs.declared.data.Out.{Out}
use Rattle.chain_laws.specs.NormalForm.{IsNormalForm}
use Rattle.chain_laws.specs.Keys.{larger}
use Rattle.tt_core.specs.Words.{Words, specification}
use Rattle.step_core.specs.Limits.{most_enumerated_steps}
use Rattle.step_core.specs.Steps.{IsSolution, AreOver}
use Rattle.step_core.specs.StepStacks.{StackView}

-- the chain with these steps and outs
abbrev pub chain_on : Words → List Step → List Out → Chain
chain_on w steps outs = record { n = w.n; steps = steps; outs = outs }

-- The steps that are looked for: those of a chain in normal form that implements the specification.
pub record IsNormalSolution (w : Words) (basis : Basis) (steps : List Step) : Type 0 where
  pub solution : IsSolution w basis steps
  pub outs : List Out
  pub agrees : Agrees (chain_on w steps outs) (specification w)
  pub normal_form : IsNormalForm basis (specification w) (chain_on w steps outs)

-- no such chain begins with the steps of `prefix` and has `left` more
pub record NoneFrom (w : Words) (basis : Basis) (prefix : List Step) (left : ℕ) : Type 0 where
  pub none : (rest : List Step) → length rest ≡ left → IsNormalSolution w basis (prefix ++ rest) → ⊥

-- no such chain begins with the steps of `prefix`, has `left` more, and has the property `P` at the first of these
pub record NoneWith (w : Words) (basis : Basis) (prefix : List Step) (left : ℕ) (P : Step → Type 0) : Type 0 where
  pub none : (s : Step) (rest : List Step) → P s → suc (length rest) ≡ left → IsNormalSolution w basis (prefix ++ s ∷ rest) → ⊥

-- the larger operand is the given place
abbrev pub HasLarger : ℕ → Step → Type 0
HasLarger place s = larger s ≡ place

-- the smaller and the larger operand are the given places
abbrev pub HasPair : ℕ → ℕ → Step → Type 0
HasPair low high s = (min s.j s.k ≡ low) × (larger s ≡ high)

-- the first and the second operand are the given places
abbrev pub HasOperands : ℕ → ℕ → Step → Type 0
HasOperands j k s = (s.j ≡ j) × (s.k ≡ k)

-- the step is the given one
abbrev pub IsGivenStep : Step → Step → Type 0
IsGivenStep this s = s ≡ this

-- the stack has steps over the basis, and room for `left` more
pub record IsEnumerating (w : Words) (basis : Basis) (t : StackView) (left : ℕ) : Type 0 where
  pub inputs : t.n ≡ w.n
  pub room : length t.steps + left ≤ most_enumerated_steps
  pub over : AreOver basis t.steps

-- The outcome of an enumeration from the stack `old`. Found: the stack `new` is a solution with `left` more
-- steps. Not found: the stack is unchanged, and if no solution was skipped (`whole`), `None` holds.
pub record IsEnumerationOutcome (w : Words) (basis : Basis) (whole : Bool) (left : ℕ) (old new : StackView) (None : Type 0) (found : Bool) : Type 0 where
  pub inputs : new.n ≡ old.n
  pub solution : found ≡ true → IsSolution w basis new.steps
  pub size : found ≡ true → length new.steps ≡ length old.steps + left
  pub same : found ≡ false → new ≡ old
  pub none : found ≡ false → whole ≡ true → None
