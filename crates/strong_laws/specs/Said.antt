-- What an assignment says of a chain; then it gives each step one pair.
use Rattle.std.proofs.Common.{◌≡◌, ℕ, ◌+◌, ◌^◌, ◌<◌, ◌≤◌, ◌==◌, ◌&&◌, true, false, List, [], ◌∷◌, Contains, sym, ◌∙◌, arith, ⊎_elim}
use Rattle.std.specs.Prelude.{nat_lt}
use Rattle.std.proofs.lemmas.Bool.{or_cases, and_parts, ltb-true}
use Rattle.chain_theory.specs.Chain.{Chain}
use Rattle.chain_theory.specs.Value.{value}
use Rattle.sat_theory.specs.Formula.{Assignment}
use Rattle.tt_core.specs.Words.{Words}
use Rattle.clause_core.specs.declared.raw.RawLit.TheVariants.{Var}
use Rattle.clause_core.specs.Holds.{holds, each_holds, same, raw_value, raws_bit, holds-written}
use Rattle.enc_theory.specs.declared.data.Slot.{Slot}
use Rattle.enc_theory.specs.Numbering.{sizes_of}
use Rattle.enc_theory.specs.Pairs.{StepSlots}
use Rattle.enc_theory.specs.Cuts.{not_both}
use Rattle.enc_laws.specs.Layouts.{IsSlotOf}
use Rattle.enc_laws.specs.Solves.{x_bit}
use Rattle.enc_laws.specs.Complete.{step_at}
use Rattle.enc_laws.specs.PairTests.{never_both, if_holds}
use Rattle.strong_theory.specs.Strong.{precedes, one_of, one_pair_slot, one_pair_step, one_pair}

-- the values of the chain's places, and of each step the pair that it has and no other
pub record Says (w : Words) (r : ℕ) (steps : List StepSlots) (c : Chain) (v : Assignment) : Type 0 where
  pub bits : (p t : ℕ) → p < w.n + 1 + r → t < 2 ^ w.n → x_bit (sizes_of w r) v p t ≡ value c t p
  pub pairs : (s : StepSlots) (u : Slot) → IsSlotOf steps s u → v u.var ≡ true → (u.j ≡ (step_at c s.place).j) × (u.k ≡ (step_at c s.place).k)
  pub has : (s : StepSlots) → Contains steps s → (u : Slot) × Contains s.slots u × (u.j ≡ (step_at c s.place).j) × (u.k ≡ (step_at c s.place).k) × (v u.var ≡ true)
  pub positive : (s : StepSlots) (u : Slot) → IsSlotOf steps s u → 1 ≤ u.var

-- two slots with one pair aren't in order
never_precedes : (u u' : Slot) → u.j ≡ u'.j → u.k ≡ u'.k → precedes u u' ≡ true → ⊥
unfolding precedes
never_precedes u u' j k e = ⊎_elim
    (λ (less : nat_lt u.j u'.j ≡ true). let low = ltb-true u.j u'.j less in omega arith)
    (λ (more : (u.j == u'.j && nat_lt u.k u'.k) ≡ true).
    let (first, second) = and_parts (u.j == u'.j) (nat_lt u.k u'.k) more in
    let low = ltb-true u.k u'.k second in omega arith)
    (or_cases (nat_lt u.j u'.j) (u.j == u'.j && nat_lt u.k u'.k) e)

module _ (w : Words) (r : ℕ) (steps : List StepSlots) (c : Chain) (v : Assignment) (says : Says w r steps c v) where
  not_both_holds : (s : StepSlots) (u u' : Slot) → IsSlotOf steps s u → IsSlotOf steps s u' → precedes u u' ≡ true → holds v (not_both u u') ≡ true
  unfolding not_both raws_bit raw_value same
  not_both_holds s u u' is is' before =
      holds-written v (Var u.var false ∷ Var u'.var false ∷ []) (says.positive s u is, (says.positive s u' is', tt))
      ∙ never_both (v u.var) (v u'.var) (λ one two.
      let (j, k) = says.pairs s u is one in
      let (j', k') = says.pairs s u' is' two in
      never_precedes u u' (j ∙ sym j') (k ∙ sym k') before)

  pub one_pair_holds : holds v (one_pair steps) ≡ true
  unfolding one_pair one_pair_step one_pair_slot one_of
  one_pair_holds =
      each_holds v one_pair_step steps (λ s in_steps. each_holds v (one_pair_slot s.slots) s.slots (λ u in_slots. each_holds v (one_of u) s.slots (λ u' in_slots'.
      if_holds v (precedes u u') (not_both u u') (λ before.
      not_both_holds s u u' (record { step = in_steps; slot = in_slots }) (record { step = in_steps; slot = in_slots' }) before))))
