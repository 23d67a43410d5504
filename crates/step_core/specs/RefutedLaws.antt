-- A size is refuted if each set of inputs is: each chain reads exactly some set.
use Rattle.std.proofs.Common.{◌≡◌, ℕ, zero, suc, ◌+◌, ◌*◌, ◌%◌, ◌^◌, ◌≤◌, ◌<◌, true, false, Bool, ◌==◌, List, [], length, refl, sym, ap, ◌∙◌, subst, arith, inl, inr}
use Rattle.std.specs.Prelude.{bit_or}
use Rattle.std.specs.Int.{bit_at}
use Rattle.std.proofs.lemmas.Bool.{cases_lt}
use Rattle.std.proofs.lemmas.Nat.{or_lt}
use Rattle.std.proofs.lemmas.Nat.Bits.{bit_at_or, bit_at-lt, bit_at-pow_same, bit_at-pow_other, bit_at_above}
use Rattle.std.proofs.Math.Pow.{pow-lt, pow_mono}
use Rattle.chain_theory.specs.Operator.{Basis, digit}
use Rattle.chain_theory.specs.Chain.{Step}
use Rattle.chain_theory.specs.Agreement.{NoneBelow}
use Rattle.tt_core.specs.Words.{Words, IsSpec, specification}
use Rattle.tt_core.specs.Live.{live_words}
use Rattle.step_core.specs.StepStacks.{StackView}
use Rattle.step_core.specs.Limits.{most_enumerated_steps}
use Rattle.step_core.specs.Pruning.{due}
use Rattle.step_core.specs.Waits.{is_later}
use Rattle.step_core.specs.Enumeration.{NoneFrom}
use Rattle.step_core.specs.Reads.{NoneReading, NoneOfSize, IsMissingMask, IsRefuting}
use Rattle.step_core.specs.NormalSolutionLaws.{live_are, none_more, none_live}
use Rattle.step_core.specs.RefutingLaws.{AllBelow}
use Rattle.step_core.specs.FreshLaws.{fresh_of}
use Rattle.step_core.specs.LiveChainLaws.{live_none}

-- ---- the mask of a set

pub record HasMask (test : ℕ → Bool) (bound : ℕ) : Type 0 where
  pub mask : ℕ
  pub low : mask < 2 ^ bound
  pub each : (i : ℕ) → i < bound → digit mask i ≡ test i

one_more : (test : ℕ → Bool) (k mask : ℕ) → mask < 2 ^ k → ((i : ℕ) → i < k → digit mask i ≡ test i) → (bit : Bool) → test k ≡ bit → HasMask test (suc k)
one_more test k mask low each false e =
    let wider : 2 ^ k ≤ 2 ^ suc k = pow_mono {i = k} {j = suc k} (omega arith) in
    record {
      mask = mask;
      low = omega (arith, low, wider);
      each = λ i below. elim (cases_lt i k) [
        | inl before ↦ each i before
        | inr past ↦
            let here : i ≡ k = omega (arith, past, below) in
            ap {B = Bool} (λ (x : ℕ). x == 1) (bit_at_above mask k i low past) ∙ sym e ∙ ap test (sym here)
      ];
    }
one_more test k mask low each true e =
    let wider : 2 ^ k ≤ 2 ^ suc k = pow_mono {i = k} {j = suc k} (omega arith) in
    let last : 2 ^ k < 2 ^ suc k = pow-lt {i = k} {j = suc k} (omega arith) in
    record {
      mask = bit_or mask (2 ^ k);
      low = or_lt (suc k) mask (2 ^ k) (omega (arith, low, wider)) last;
      each = λ i below. elim (cases_lt i k) [
        | inl before ↦
            let same : bit_at (bit_or mask (2 ^ k)) i ≡ bit_at mask i = omega (arith, bit_at_or mask (2 ^ k) i, bit_at-pow_other k i (λ x. omega (arith, x, before))) in
            ap {B = Bool} (λ (x : ℕ). x == 1) same ∙ each i before
        | inr past ↦
            let here : i ≡ k = omega (arith, past, below) in
            let one : bit_at (bit_or mask (2 ^ k)) k ≡ 1 = omega (arith, bit_at_or mask (2 ^ k) k, bit_at-pow_same k, bit_at-lt mask k) in
            ap (digit (bit_or mask (2 ^ k))) here ∙ ap {B = Bool} (λ (x : ℕ). x == 1) one ∙ sym e ∙ ap test (sym here)
      ];
    }

mask_of : (test : ℕ → Bool) (bound : ℕ) → HasMask test bound
mask_of test zero = record { mask = 0; low = omega arith; each = λ i low. absurd (omega (arith, low)) }
mask_of test (suc k) = let before = mask_of test k in one_more test k before.mask before.low before.each (test k) refl

-- ---- all sets of inputs

pub all_sets : (w : Words) (basis : Basis) (steps : List Step) (size bound : ℕ) → steps ≡ [] → bound ≡ 2 ^ w.n →
    AllBelow (λ reads. NoneReading w basis steps size (digit reads)) bound → NoneOfSize w basis size
all_sets w basis steps size bound empty e all = record {
  none = λ rest count target.
      let found = mask_of (is_later rest) w.n in
      let none : NoneReading w basis [] size (digit found.mask) = subst (λ (ss : List Step). NoneReading w basis ss size (digit found.mask)) empty (all.each found.mask (omega (arith, found.low, e))) in
      none.none rest count target (record { each = λ i low. sym (found.each i (omega (arith, low))) });
}

-- one size more has no chain
pub size_refuted : (w live : Words) (basis : Basis) (size : ℕ) → live ≡ live_words w → IsSpec live → NoneOfSize live basis size →
    NoneBelow (specification w) basis size → NoneBelow (specification w) basis (size + 1)
size_refuted w live basis size is spec none fewer =
    let below : NoneBelow (specification (live_words w)) basis size = live_none w basis size fewer in
    let spec_live : IsSpec (live_words w) = subst IsSpec is spec in
    let none_live_one : NoneOfSize (live_words w) basis size = subst (λ (x : Words). NoneOfSize x basis size) is none in
    let from : NoneFrom (live_words w) basis [] size = record {
      none = λ rest count target. none_live_one.none rest count
          (fresh_of (live_words w) basis rest spec_live (subst (NoneBelow (specification (live_words w)) basis) (sym count) below) target);
    } in
    none_live w basis (size + 1) (none_more (live_words w) basis size spec_live (live_are w) below from)

-- ---- the first state

pub first_state : (w : Words) (t : StackView) (size count mask : ℕ) → t.n ≡ w.n → t.steps ≡ [] → size ≤ most_enumerated_steps →
    count ≡ due w t.steps → IsMissingMask w t.steps mask → IsRefuting w t size count mask
first_state w t size count mask inputs empty few counted masked = record {
  inputs = inputs;
  room = omega (arith, few, ap (λ (ss : List Step). length ss) empty);
  due = counted;
  missing = masked;
}

pub rows_bound : (n : ℕ) → n ≤ 6 → 1 * 2 ^ n % 4294967296 ≡ 2 ^ n
rows_bound n few = let wide : 2 ^ n ≤ 2 ^ 6 = pow_mono {i = n} {j = 6} few in omega (arith, wide)
