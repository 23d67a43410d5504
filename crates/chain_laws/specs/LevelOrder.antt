-- The steps of a chain in normal form are ordered by level.
use Rattle.std.proofs.Common.{◌≡◌, ℕ, zero, suc, ◌+◌, ◌-◌, ◌≤◌, ◌<◌, length, sym, ap, arith, inl, ⊎_elim, subst}
use Rattle.std.specs.Prelude.{max}
use Rattle.std.proofs.lemmas.Option.{slice_get_within}
use Rattle.std.proofs.lemmas.Bool.{cases_lt}
use Rattle.chain_theory.specs.Chain.{Step, Chain, IsStepAt, IsChain}
use Rattle.chain_laws.specs.Follow.{step_at, step_at_get}
use Rattle.chain_theory.specs.Levels.{level}
use Rattle.chain_theory.specs.LevelLaws.{input_level, level_step}
use Rattle.chain_laws.specs.Keys.{larger, ComesBefore}
use Rattle.chain_laws.specs.NormalForm.{IsStep}

-- no step's pair of operands comes before that of the preceding step
abbrev pub KeysRise : Chain → Type 0
KeysRise c = (i : ℕ) (a b : Step) → IsStep c i a → IsStep c (i + 1) b → ComesBefore b a → ⊥

-- levels don't decrease along the places below p
abbrev RiseBelow : Chain → ℕ → Type 0
RiseBelow c place = (p q : ℕ) → 1 ≤ p → p ≤ q → q < place → level c p ≤ level c q

by_larger : (c : Chain) → IsChain c → (i : ℕ) (a : Step) → IsStep c i a → RiseBelow c (c.n + 1 + i) → level c (c.n + 1 + i) ≡ 1 + level c (larger a)
by_larger c is i a at rise =
    let here : IsStepAt (c.n + 1 + i) a = is.steps.each i a at in
    let own : level c (c.n + 1 + i) ≡ 1 + max (level c a.j) (level c a.k) = level_step c.n c.steps is.steps i a at in
    ⊎_elim
    (λ (less : a.j < a.k).
    let top : larger a ≡ a.k = omega arith in
    omega (arith, own, ap (level c) top, rise a.j a.k here.j_from (omega arith) here.k_below))
    (λ (more : a.k ≤ a.j).
    let top : larger a ≡ a.j = omega arith in
    omega (arith, own, ap (level c) top, rise a.k a.j here.k_from more here.j_below))
    (cases_lt a.j a.k)

larger_rises : (c : Chain) → KeysRise c → (i : ℕ) (a b : Step) → IsStep c i a → IsStep c (i + 1) b → larger a ≤ larger b
larger_rises c keys i a b at_i at_next = ⊎_elim
    (λ (falls : larger b < larger a). absurd (keys i a b at_i at_next (inl falls)))
    (λ (rises : larger a ≤ larger b). rises)
    (cases_lt (larger b) (larger a))

rise_to : (c : Chain) → IsChain c → KeysRise c → (m : ℕ) → m ≤ length c.steps → RiseBelow c (c.n + 1 + m)
rise_to c is keys zero low p q from le q_low = omega (arith, input_level c.n p c.steps (omega arith))
rise_to c is keys (suc m) low p q from le q_low =
    let n : ℕ = c.n in
    let before : RiseBelow c (n + 1 + m) = rise_to c is keys m (omega arith) in
    ⊎_elim
    (λ (inside : q < n + 1 + m). before p q from le inside)
    (λ (past : n + 1 + m ≤ q). ⊎_elim
    (λ (less : p < q). ⊎_elim
    (λ (is_input : p < n + 1). omega (arith, input_level n p c.steps (omega arith)))
    (λ (is_step : n + 1 ≤ p).
    let i : ℕ = m - 1 in
    let next : i + 1 ≡ m = omega arith in
    let a : Step = step_at c.steps i in
    let b : Step = step_at c.steps m in
    let at_i : IsStep c i a = step_at_get c.steps i (omega arith) in
    let at_m : IsStep c m b = step_at_get c.steps m (omega arith) in
    let a_is : IsStepAt (n + 1 + i) a = is.steps.each i a at_i in
    let b_is : IsStepAt (n + 1 + m) b = is.steps.each m b at_m in
    let here : level c (n + 1 + m) ≡ 1 + level c (larger b) = by_larger c is m b at_m before in
    let under : level c (n + 1 + i) ≡ 1 + level c (larger a) = by_larger c is i a at_i (λ x y x_from x_le y_low. before x y x_from x_le (omega arith)) in
    let up : larger a ≤ larger b = larger_rises c keys i a b at_i (subst (λ (k : ℕ). IsStep c k b) (sym next) at_m) in
    let operands : level c (larger a) ≤ level c (larger b) = before (larger a) (larger b) (omega (arith, a_is.j_from)) up (omega (arith, b_is.j_below, b_is.k_below)) in
    let to_i : level c p ≤ level c (n + 1 + i) = before p (n + 1 + i) from (omega arith) (omega arith) in
    let same : level c q ≡ level c (n + 1 + m) = ap (level c) (let e : q ≡ n + 1 + m = omega arith in e) in
    omega arith)
    (cases_lt p (n + 1)))
    (λ (same : q ≤ p). let e : level c p ≡ level c q = ap (level c) (let e : p ≡ q = omega arith in e) in omega (arith, e))
    (cases_lt p q))
    (cases_lt q (n + 1 + m))

-- Where keys don't decrease, levels don't decrease along the places,
pub levels_rise : (c : Chain) → IsChain c → KeysRise c → (p q : ℕ) → 1 ≤ p → p ≤ q → q < c.n + 1 + length c.steps → level c p ≤ level c q
levels_rise c is keys = rise_to c is keys (length c.steps) (omega arith)

-- and each step's level is 1 + that of its larger operand.
pub level_of_larger : (c : Chain) → IsChain c → KeysRise c → (i : ℕ) (a : Step) → IsStep c i a → level c (c.n + 1 + i) ≡ 1 + level c (larger a)
level_of_larger c is keys i a at =
    let inside : i < length c.steps = slice_get_within c.steps i a at in
    by_larger c is i a at (λ p q from le low. levels_rise c is keys p q from le (omega arith))
