-- Chains of a fixed number of steps, given as a function of the step's index.
use Rattle.std.proofs.Common.{◌≡◌, ℕ, ◌+◌, ◌-◌, ◌≤◌, ◌<◌, ◌^◌, Bool, true, false, List, length, refl, sym, ap, ◌∙◌, arith, ⊎_elim, subst}
use Rattle.std.specs.Prelude.{slice_index_or}
use Rattle.std.specs.List.{All}
use Rattle.std.proofs.lemmas.List.Elements.{All-get_or}
use Rattle.chain_theory.specs.Operator.{Basis}
use Rattle.chain_theory.specs.Specification.{Specification, input}
use Rattle.chain_theory.specs.Chain.{Step, Chain, IsStepAt, AreSteps, NamesPlace, IsChain}
use Rattle.chain_theory.specs.Value.{step_value, values_on, out_value}
use Rattle.chain_theory.specs.Agreement.{is_met, IsOver, Agrees}
use Rattle.chain_theory.specs.declared.data.Out.{Out}
use Rattle.chain_theory.specs.declared.data.Out.TheVariants.{Zero, One, Place}
use Rattle.chain_laws.specs.Follow.{rebuilt, rebuilt_length, rebuilt_get, rebuilt_at, rebuilt_all, step_at, step_at_get, step_at_all, place_cases, values_are, step_is, input_value}
use Rattle.chain_theory.specs.Levels.{HasLevels, level_in}
use Rattle.chain_theory.specs.LevelLaws.{level_rises, input_level}
use Rattle.chain_laws.specs.Levels.{level_at_most}

-- steps by their index, and outs
pub record Body : Type 0 where
  pub step : ℕ → Step
  pub outs : List Out

-- the first r steps over n inputs, as a chain
abbrev pub chain_of : ℕ → ℕ → Body → Chain
chain_of n r b = record { n = n; steps = rebuilt b.step r; outs = b.outs }

-- the values of the places on row t
abbrev pub bits_of : ℕ → ℕ → (ℕ → Step) → ℕ → ℕ → Bool
bits_of n r step t = values_on n t (rebuilt step r)

-- the value of an out, where the places have the given bits
abbrev pub out_bit : (ℕ → Bool) → Out → Bool
out_bit bits Zero = false
out_bit bits One = true
out_bit bits (Place p) = bits p

-- the operands of each step are lower places
abbrev pub AreBelow : ℕ → ℕ → (ℕ → Step) → Type 0
AreBelow n r step = (i : ℕ) → i < r → IsStepAt (n + 1 + i) (step i)

-- A chain of r steps over the basis that agrees with the specification, with a number (height) for each
-- place: a step's height is above those of its operands, and at most d.
pub record Fits (s : Specification) (basis : Basis) (r d : ℕ) (b : Body) : Type 0 where
  pub below : AreBelow s.inputs r b.step
  pub over : (i : ℕ) → i < r → basis (b.step i).op ≡ true
  pub height : ℕ → ℕ
  pub rises : (i : ℕ) → i < r → (height (b.step i).j < height (s.inputs + 1 + i)) × (height (b.step i).k < height (s.inputs + 1 + i))
  pub low : (i : ℕ) → i < r → height (s.inputs + 1 + i) ≤ d
  pub outs : All (NamesPlace (s.inputs + r)) b.outs
  pub count : length b.outs ≡ s.outputs
  pub cells : (h t : ℕ) → 1 ≤ h → h ≤ s.outputs → t < 2 ^ s.inputs → is_met (s.cell h t) (out_bit (bits_of s.inputs r b.step t) (slice_index_or b.outs (h - 1) Zero)) ≡ true

-- ---- values

pub are_steps : (n r : ℕ) (step : ℕ → Step) → AreBelow n r step → AreSteps n (rebuilt step r)
are_steps n r step below = record {
  each = λ i a at. let here = rebuilt_at step r i a at in subst (λ (x : Step). IsStepAt (n + 1 + i) x) (sym here.1) (below i here.0);
}

pub input_bit : (n r : ℕ) (step : ℕ → Step) (t p : ℕ) → p ≤ n → bits_of n r step t p ≡ input n t p
input_bit n r step t p low = input_value n t p (rebuilt step r) (omega arith)

pub step_bit : (n r : ℕ) (step : ℕ → Step) → AreBelow n r step → (t i : ℕ) → i < r → bits_of n r step t (n + 1 + i) ≡ step_value (bits_of n r step t) (step i)
step_bit n r step below t i low = step_is n t (rebuilt step r) (are_steps n r step below) i (step i) (rebuilt_get step r i low)

-- Bits that agree with the inputs, and follow each step, are the values.
pub bits_are : (n r : ℕ) (step : ℕ → Step) → AreBelow n r step → (t : ℕ) (bits : ℕ → Bool) →
    ((p : ℕ) → 1 ≤ p → p ≤ n → bits p ≡ input n t p) →
    ((i : ℕ) → i < r → bits (n + 1 + i) ≡ step_value bits (step i)) → (p : ℕ) → 1 ≤ p → p < n + 1 + r →
    bits_of n r step t p ≡ bits p
bits_are n r step below t bits inputs follow p from low =
    values_are n t bits (rebuilt step r) (are_steps n r step below) inputs
    (λ i a at. let here = rebuilt_at step r i a at in follow i here.0 ∙ ap (step_value bits) (sym here.1))
    p from (omega (arith, rebuilt_length step r))

-- A prefix of the steps has the same values at its places.
pub prefix_bits : (n r : ℕ) (step : ℕ → Step) → AreBelow n r step → (k : ℕ) → k ≤ r → (t p : ℕ) → 1 ≤ p → p < n + 1 + k → bits_of n k step t p ≡ bits_of n r step t p
prefix_bits n r step below k less t p from low =
    bits_are n k step (λ i inside. below i (omega arith)) t (bits_of n r step t)
    (λ q q_from q_low. input_bit n r step t q q_low)
    (λ i inside. step_bit n r step below t i (omega arith))
    p from low

-- an out has the same value where the places have the same bits
pub same_out : (last : ℕ) (f g : ℕ → Bool) → ((p : ℕ) → 1 ≤ p → p ≤ last → f p ≡ g p) → (o : Out) → NamesPlace last o → out_bit f o ≡ out_bit g o
same_out last f g same Zero names = refl
same_out last f g same One names = refl
same_out last f g same (Place p) names = same p names.0 names.1

pub out_value_is : (c : Chain) (t : ℕ) (o : Out) → out_value c t o ≡ out_bit (values_on c.n t c.steps) o
out_value_is c t Zero = refl
out_value_is c t One = refl
out_value_is c t (Place p) = refl

-- the out of an output is a constant or a place up to the last
pub out_named : (last h m : ℕ) (outs : List Out) → length outs ≡ m → 1 ≤ h → h ≤ m → All (NamesPlace last) outs → NamesPlace last (slice_index_or outs (h - 1) Zero)
out_named last h m outs count from low all = All-get_or (NamesPlace last) outs (h - 1) Zero (omega arith) all

-- ---- from chains and back

fits_parts : (s : Specification) (basis : Basis) (r d : ℕ) (steps : List Step) (outs : List Out) →
    AreSteps s.inputs steps → length steps ≡ r → All (λ (a : Step). basis a.op ≡ true) steps →
    ((p : ℕ) → 1 ≤ p → p ≤ s.inputs + length steps → level_in s.inputs steps p ≤ d) →
    All (NamesPlace (s.inputs + r)) outs → length outs ≡ s.outputs →
    ((h t : ℕ) → 1 ≤ h → h ≤ s.outputs → t < 2 ^ s.inputs →
    is_met (s.cell h t) (out_bit (values_on s.inputs t steps) (slice_index_or outs (h - 1) Zero)) ≡ true) →
    Fits s basis r d (record { step = step_at steps; outs = outs })
fits_parts s basis r d steps outs are size over levels named count cells =
    let below : AreBelow s.inputs r (step_at steps) = λ i low. are.each i (step_at steps i) (step_at_get steps i (omega arith)) in
    record {
      below = below;
      over = λ i low. step_at_all (λ (a : Step). basis a.op ≡ true) steps over i (omega arith);
      height = level_in s.inputs steps;
      rises = λ i low. level_rises s.inputs steps are i (step_at steps i) (step_at_get steps i (omega arith));
      low = λ i low. levels (s.inputs + 1 + i) (omega arith) (omega arith);
      outs = named;
      count = count;
      cells = λ h t from low row.
          let o : Out = slice_index_or outs (h - 1) Zero in
          let same : (p : ℕ) → 1 ≤ p → p ≤ s.inputs + r → bits_of s.inputs r (step_at steps) t p ≡ values_on s.inputs t steps p = λ p p_from p_low.
          bits_are s.inputs r (step_at steps) below t (values_on s.inputs t steps)
          (λ q q_from q_low. input_value s.inputs t q steps (omega arith))
          (λ i inside. step_is s.inputs t steps are i (step_at steps i) (step_at_get steps i (omega arith)))
          p p_from (omega arith) in
          ap (is_met (s.cell h t)) (same_out (s.inputs + r) (bits_of s.inputs r (step_at steps) t) (values_on s.inputs t steps) same o (out_named (s.inputs + r) h s.outputs outs count from low named))
          ∙ cells h t from low row;
    }

pub fits_from : (s : Specification) (basis : Basis) (r d : ℕ) (c : Chain) → IsChain c → length c.steps ≡ r →
    IsOver basis c → Agrees c s → HasLevels d c → Fits s basis r d (record { step = step_at c.steps; outs = c.outs })
fits_from s basis r d c is size over agrees levels =
    let same : c.n ≡ s.inputs = agrees.inputs in
    fits_parts s basis r d c.steps c.outs
    (subst (λ (n : ℕ). AreSteps n c.steps) same is.steps)
    size
    over
    (subst (λ (n : ℕ). (p : ℕ) → 1 ≤ p → p ≤ n + length c.steps → level_in n c.steps p ≤ d) same levels)
    (subst (λ (last : ℕ). All (NamesPlace last) c.outs) (let e : c.n + length c.steps ≡ s.inputs + r = omega arith in e) is.outs)
    agrees.outputs
    (subst (λ (n : ℕ). (h t : ℕ) → 1 ≤ h → h ≤ s.outputs → t < 2 ^ s.inputs → is_met (s.cell h t) (out_bit (values_on n t c.steps) (slice_index_or c.outs (h - 1) Zero)) ≡ true) same
    (λ h t from low row. ap (is_met (s.cell h t)) (sym (out_value_is c t (slice_index_or c.outs (h - 1) Zero))) ∙ agrees.cells h t from low row))

pub is_chain : (s : Specification) (basis : Basis) (r d : ℕ) (b : Body) → Fits s basis r d b → IsChain (chain_of s.inputs r b)
is_chain s basis r d b fits = record {
  steps = are_steps s.inputs r b.step fits.below;
  outs = rw (rebuilt_length b.step r) fits.outs;
}

pub is_over : (s : Specification) (basis : Basis) (r d : ℕ) (b : Body) → Fits s basis r d b → IsOver basis (chain_of s.inputs r b)
is_over s basis r d b fits = rebuilt_all (λ (a : Step). basis a.op ≡ true) b.step r fits.over

pub agrees : (s : Specification) (basis : Basis) (r d : ℕ) (b : Body) → Fits s basis r d b → Agrees (chain_of s.inputs r b) s
agrees s basis r d b fits = record {
  inputs = refl;
  outputs = fits.count;
  cells = λ h t from low row. ap (is_met (s.cell h t)) (out_value_is (chain_of s.inputs r b) t (slice_index_or b.outs (h - 1) Zero)) ∙ fits.cells h t from low row;
}

pub has_levels : (s : Specification) (basis : Basis) (r d : ℕ) (b : Body) → Fits s basis r d b → HasLevels d (chain_of s.inputs r b)
has_levels s basis r d b fits = λ p from low.
    let are : AreSteps s.inputs (rebuilt b.step r) = are_steps s.inputs r b.step fits.below in
    let inside : p < s.inputs + 1 + r = omega (arith, rebuilt_length b.step r) in
    let under : level_in s.inputs (rebuilt b.step r) p ≤ fits.height p = level_at_most s.inputs (rebuilt b.step r) are fits.height
    (λ i a at.
    let here = rebuilt_at b.step r i a at in
    subst (λ (x : Step). (fits.height x.j < fits.height (s.inputs + 1 + i)) × (fits.height x.k < fits.height (s.inputs + 1 + i))) (sym here.1) (fits.rises i here.0))
    (p + 1) p (omega arith) from (omega (arith, rebuilt_length b.step r)) in
    ⊎_elim
    (λ (is_input : p ≤ s.inputs). omega (arith, input_level s.inputs p (rebuilt b.step r) is_input))
    (λ (is_step : (i : ℕ) × (i < r) × (p ≡ s.inputs + 1 + i)).
    let same : fits.height p ≡ fits.height (s.inputs + 1 + is_step.0) = ap fits.height is_step.2 in
    omega (arith, fits.low is_step.0 is_step.1))
    (place_cases s.inputs r p inside)
