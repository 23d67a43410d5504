-- Specifications of which some rows become free.
use Rattle.std.specs.Prelude.{◌≡◌, ℕ, zero, suc, ◌-◌, ◌≤◌, ◌<◌, ◌^◌, ◌==◌, Bool, true, false, ◌&&◌, if◌then◌else◌, List, [], ◌∷◌, length, map, slice_index, bit_and, refl}
use Rattle.std.proofs.Common.{arith, sym, ◌∙◌, ap, subst, ⊎_elim}
use Rattle.std.proofs.lemmas.Bool.{cases_Bool, and_parts, cond-false}
use Rattle.std.proofs.lemmas.List.{length-map}
use Rattle.std.proofs.lemmas.Nat.Bits.{bit_at-zero}
use Rattle.chain_theory.specs.Operator.{digit}
use Rattle.chain_theory.specs.declared.data.Cell.TheVariants.{Zero, One, Free}
use Rattle.net_theory.specs.Net.{Net}
use Rattle.tt_core.specs.Words.{Words, IsSpec, cell_of, specification}
use Rattle.lane_sim.specs.WordLaws.{digit_and}
use Rattle.window_theory.specs.Window.{Window}
use Rattle.window_theory.specs.Care.{IsSpecificationOf}
use Rattle.observe_theory.specs.FanoutCone.{FanoutCone, IsFanoutCone}
use Rattle.observe_theory.specs.Observed.{IsRelaxed, IsObservedOf}
use Rattle.observe_core.specs.Observing.{IsObservableMask, IsMasked}

no_digit_and : (mask t : ℕ) → digit 0 t ≡ (digit 0 t && digit mask t)
no_digit_and mask t = let z : digit 0 t ≡ false = ap (λ (x : ℕ). x == 1) (bit_at-zero t) in rw z refl

masked_digit : (xs : List ℕ) (mask i t : ℕ) → digit (slice_index (map (λ w. bit_and w mask) xs) i) t ≡ (digit (slice_index xs i) t && digit mask t)
masked_digit [] mask i t = no_digit_and mask t
masked_digit (x ∷ xs) mask zero t = digit_and x mask t
masked_digit (x ∷ xs) mask (suc i) t = masked_digit xs mask i t

pub masked_is : (mask : ℕ) (old new : Words) → new.n ≡ old.n → new.on ≡ map (λ w. bit_and w mask) old.on → new.care ≡ map (λ w. bit_and w mask) old.care → IsMasked mask old new
masked_is mask old new n on care =
    record {
      inputs = n;
      outputs = ap (length {A = ℕ}) on ∙ length-map old.on (λ w. bit_and w mask);
      on = λ i t. ap (λ (xs : List ℕ). digit (slice_index xs i) t) on ∙ masked_digit old.on mask i t;
      care = λ i t. ap (λ (xs : List ℕ). digit (slice_index xs i) t) care ∙ masked_digit old.care mask i t;
    }

both : (a b : Bool) → a ≡ true → b ≡ true → (a && b) ≡ true
both a b ea eb = rw (ea, eb) refl

-- the tables are a specification again
pub masked_spec : (mask : ℕ) (old new : Words) → IsSpec old → new.n ≡ old.n → new.on ≡ map (λ w. bit_and w mask) old.on → new.care ≡ map (λ w. bit_and w mask) old.care → IsSpec new
masked_spec mask old new spec n on care =
    let is : IsMasked mask old new = masked_is mask old new n on care in
    let size : length new.care ≡ length old.care = ap (length {A = ℕ}) care ∙ length-map old.care (λ w. bit_and w mask) in
    record {
      inputs = omega (arith, n, spec.inputs);
      outputs = omega (arith, is.outputs, spec.outputs);
      together = omega (arith, size, is.outputs, spec.together);
      inside = λ i t e.
          let parts = and_parts (digit (slice_index old.on i) t) (digit mask t) (sym (is.on i t) ∙ e) in
          is.care i t ∙ both (digit (slice_index old.care i) t) (digit mask t) (spec.inside i t parts.0) parts.1;
      rows = λ i t high.
          let off : digit (slice_index old.care i) t ≡ false = spec.rows i t (subst (λ (k : ℕ). 2 ^ k ≤ t) n high) in
          is.care i t ∙ ap (λ (b : Bool). b && digit mask t) off;
    }

-- ---- cells

cell_kept : (mask : ℕ) (old new : Words) (h t : ℕ) → IsMasked mask old new → digit mask t ≡ true → cell_of new h t ≡ cell_of old h t
cell_kept mask old new h t is on =
    let care : digit (slice_index new.care (h - 1)) t ≡ digit (slice_index old.care (h - 1)) t =
    is.care (h - 1) t ∙ ap (λ (b : Bool). digit (slice_index old.care (h - 1)) t && b) on
    ∙ and_true (digit (slice_index old.care (h - 1)) t) in
    let value : digit (slice_index new.on (h - 1)) t ≡ digit (slice_index old.on (h - 1)) t =
    is.on (h - 1) t ∙ ap (λ (b : Bool). digit (slice_index old.on (h - 1)) t && b) on
    ∙ and_true (digit (slice_index old.on (h - 1)) t) in
    rw (care, value) refl
  where
    and_true : (b : Bool) → (b && true) ≡ b
    and_true true = refl
    and_true false = refl

cell_free : (mask : ℕ) (old new : Words) (h t : ℕ) → IsMasked mask old new → digit mask t ≡ false → cell_of new h t ≡ Free
cell_free mask old new h t is off =
    let care : digit (slice_index new.care (h - 1)) t ≡ false =
    is.care (h - 1) t ∙ ap (λ (b : Bool). digit (slice_index old.care (h - 1)) t && b) off
    ∙ and_false (digit (slice_index old.care (h - 1)) t) in
    cond-false (digit (slice_index new.care (h - 1)) t) (if digit (slice_index new.on (h - 1)) t then One else Zero) Free care
  where
    and_false : (b : Bool) → (b && false) ≡ false
    and_false true = refl
    and_false false = refl

pub narrowed_is : (n : Net) (w : Window) (t : FanoutCone) (mask : ℕ) (old new : Words) →
    IsSpecificationOf n w (specification old) → IsObservableMask n w t mask → IsMasked mask old new →
    IsRelaxed n w t (specification old) (specification new)
narrowed_is n w t mask old new whole rows is =
    record {
      inputs = is.inputs;
      outputs = is.outputs;
      seen = λ h row low high below seen. ⊎_elim
          (λ on. cell_kept mask old new h row is on)
          (λ off. absurd (seen (rows.unobservable row (subst (λ (k : ℕ). row < 2 ^ k) whole.inputs below) off)))
          (cases_Bool (digit mask row));
      unobservable = λ h row low high below unobservable. ⊎_elim
          (λ on. absurd (rows.seen row (subst (λ (k : ℕ). row < 2 ^ k) whole.inputs below) on unobservable))
          (λ off. cell_free mask old new h row is off)
          (cases_Bool (digit mask row));
    }

pub observed_is : (n : Net) (w : Window) (t : FanoutCone) (mask : ℕ) (old new : Words) →
    IsSpecificationOf n w (specification old) → IsFanoutCone n w t → IsObservableMask n w t mask →
    IsMasked mask old new → IsObservedOf n w (specification new)
observed_is n w t mask old new whole fanout_cone rows is =
    record { fanout_cone = t; is_fanout_cone = fanout_cone; whole = specification old; is_whole = whole; relaxed = narrowed_is n w t mask old new whole rows is }
