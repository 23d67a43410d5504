-- A window has one specification up to don't-cares that no chain distinguishes.
use Rattle.std.specs.Prelude.{◌≡◌, ℕ, ◌≤◌, ◌<◌, ◌^◌, Bool, true, length}
use Rattle.std.proofs.Common.{sym, ◌∙◌, ap, subst, ⊎_elim}
use Rattle.std.proofs.lemmas.Bool.{cases_Bool, both_ways}
use Rattle.chain_theory.specs.Operator.{Basis}
use Rattle.chain_theory.specs.Specification.{Specification}
use Rattle.chain_theory.specs.Chain.{Chain}
use Rattle.chain_theory.specs.Agreement.{output_value, is_met, Agrees, HasChain}
use Rattle.chain_theory.specs.declared.data.Cell.{Cell}
use Rattle.net_theory.specs.Net.{Net}
use Rattle.window_theory.specs.Nodes.{among}
use Rattle.window_theory.specs.Window.{Window}
use Rattle.window_theory.specs.Care.{values_with, IsCareRow, IsSpecificationOf, HasNoFewer}

-- on a care row two specifications have the same cell
care_same : (n : Net) (w : Window) (s z : Specification) (h t : ℕ) → IsSpecificationOf n w s →
    IsSpecificationOf n w z → 1 ≤ h → h ≤ length w.outputs → t < 2 ^ length w.inputs → IsCareRow n w.inputs t →
    s.cell h t ≡ z.cell h t
care_same n w s z h t a b low high row care =
    let given : ℕ → Bool = values_with n (among care.leaves) care.given in
    a.care h t given low high row care care.bits ∙ sym (b.care h t given low high row care care.bits)

-- A bit that meets a cell of s meets the same cell of z: otherwise the row couldn't be a care row, and the
-- cell of z would be a don't-care.
met_same : (n : Net) (w : Window) (s z : Specification) (h t : ℕ) (bit : Bool) → IsSpecificationOf n w s →
    IsSpecificationOf n w z → 1 ≤ h → h ≤ length w.outputs → t < 2 ^ length w.inputs → is_met (s.cell h t) bit ≡ true →
    is_met (z.cell h t) bit ≡ true
met_same n w s z h t bit a b low high row met =
    ⊎_elim
    (λ on. on)
    (λ off.
    let none : IsCareRow n w.inputs t → ⊥ = λ care. both_ways (is_met (z.cell h t) bit) off (ap (λ (c : Cell). is_met c bit) (sym (care_same n w s z h t a b low high row care)) ∙ met) in
    ap (λ (c : Cell). is_met c bit) (b.free h t low high row none))
    (cases_Bool (is_met (z.cell h t) bit))

agrees_same : (n : Net) (w : Window) (s z : Specification) (c : Chain) → IsSpecificationOf n w s → IsSpecificationOf n w z → Agrees c s → Agrees c z
agrees_same n w s z c a b agrees =
    let inputs : s.inputs ≡ z.inputs = a.inputs ∙ sym b.inputs in
    let outputs : s.outputs ≡ z.outputs = a.outputs ∙ sym b.outputs in
    record {
      inputs = agrees.inputs ∙ inputs;
      outputs = agrees.outputs ∙ outputs;
      cells = λ h t low high row.
          let within : h ≤ length w.outputs = subst (λ (k : ℕ). h ≤ k) b.outputs high in
          let below : t < 2 ^ length w.inputs = subst (λ (k : ℕ). t < 2 ^ k) b.inputs row in
          met_same n w s z h t (output_value c h t) a b low within below
          (agrees.cells h t low (subst (λ (k : ℕ). h ≤ k) (sym outputs) high) (subst (λ (k : ℕ). t < 2 ^ k) (sym inputs) row));
    }

-- The same chains implement both specifications of a window.
pub chains_same : (n : Net) (w : Window) (s z : Specification) (basis : Basis) (r : ℕ) → IsSpecificationOf n w s → IsSpecificationOf n w z → HasChain s basis r → HasChain z basis r
chains_same n w s z basis r a b has =
    record { chain = has.chain; is_chain = has.is_chain; size = has.size; is_over = has.is_over; agrees = agrees_same n w s z has.chain a b has.agrees }

pub none_fewer : (n : Net) (w : Window) (s : Specification) (basis : Basis) (count q : ℕ) → HasNoFewer n basis w count → IsSpecificationOf n w s → q < count → HasChain s basis q → ⊥
none_fewer n w s basis count q least is low has = least.none q low (chains_same n w s least.specification basis q is least.is has)
