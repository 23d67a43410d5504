-- The law of least chains: if a chain agrees and none of fewer steps does, one in normal form agrees.
use Rattle.std.proofs.Common.{◌≡◌, ℕ, ◌+◌, ◌-◌, ◌≤◌, ◌<◌, Bool, true, false, not, length, refl, sym, ap, ◌∙◌, arith, inl, inr, ⊎_elim, ◌⊎◌, subst}
use Rattle.std.specs.Prelude.{slice_get, slice_index_or, Some}
use Rattle.std.specs.List.{Contains}
use Rattle.std.proofs.lemmas.Bool.{cases_Bool, both_ways}
use Rattle.chain_theory.specs.Operator.{Basis}
use Rattle.chain_theory.specs.Specification.{Specification}
use Rattle.chain_theory.specs.Chain.{Step, Chain, IsStepAt, IsChain}
use Rattle.chain_theory.specs.Value.{value}
use Rattle.chain_theory.specs.Agreement.{HasChain, IsMinimum}
use Rattle.chain_theory.specs.declared.data.Out.TheVariants.{Zero, Place}
use Rattle.op_basis.specs.Closed.{swap_closed, polarity_closed}
use Rattle.chain_laws.specs.Follow.{rebuilt, rebuilt_length, rebuilt_at, rebuilt_get, step_at}
use Rattle.chain_laws.specs.Keys.{ComesBefore}
use Rattle.chain_theory.specs.Levels.{HasLevels, level}
use Rattle.chain_laws.specs.Levels.{level_at_most}
use Rattle.chain_theory.specs.Levels.{HasChainOfLevels}
use Rattle.chain_laws.specs.NormalForm.{HasNormalFormChain, IsNormalForm, IsOut, IsRead, IsNegation, Reads, ReadsWithout, IsReapplication, IsCopy, IsConstant, CopiesBoth, NegatesBoth}
use Rattle.chain_laws.specs.Bodies.{Body, Fits, chain_of, bits_of, fits_from, is_chain, is_over, agrees, has_levels}
use Rattle.chain_laws.specs.Decidable.{IsDecidable, decided_and, decided_not, decided_lt, decided_true}
use Rattle.chain_laws.specs.Shorter.{HasFewer}
use Rattle.chain_laws.specs.Trivial.{IsSomeOut, decided_named, named_contains, IsOutOrRead, unused_goes, copy_goes, constant_goes, equal_copy_goes, equal_goes}
use Rattle.chain_laws.specs.Settled.{IsKeyMinimal}
use Rattle.chain_laws.specs.Oriented.{oriented_rises, oriented_body, oriented_fits, oriented_settled}
use Rattle.chain_laws.specs.Complemented.{flip, complemented_body, complemented_bits, complemented_fits, complemented_settled}
use Rattle.chain_laws.specs.Settling.{settled}

-- ---- operands in increasing order

-- operands are in increasing order, if the basis is closed under exchanged operands
abbrev pub Rise : Basis → ℕ → (ℕ → Step) → Type 0
Rise basis r step = swap_closed basis ≡ true → (k : ℕ) → k < r → (step k).j ≤ (step k).k

record IsRisen (s : Specification) (basis : Basis) (r d : ℕ) : Type 0 where
  body : Body
  fits : Fits s basis r d body
  settled : IsKeyMinimal s basis r body.step
  rise : Rise basis r body.step

risen : (s : Specification) (basis : Basis) (r d : ℕ) (b : Body) → Fits s basis r d b → IsKeyMinimal s basis r b.step → IsRisen s basis r d
risen s basis r d b fits is = ⊎_elim
    (λ (closed : swap_closed basis ≡ true). record {
      body = oriented_body b;
      fits = oriented_fits s basis r d b fits closed;
      settled = oriented_settled s basis r d b fits is;
      rise = λ _ k low. oriented_rises (b.step k);
    })
    (λ (open_ : swap_closed basis ≡ false). record { body = b; fits = fits; settled = is; rise = λ closed k low. absurd (both_ways (swap_closed basis) open_ closed) })
    (cases_Bool (swap_closed basis))

-- ---- row 0

-- a decision as a bit
unfoldable pub flag : {P : Type 0} → IsDecidable P → Bool
flag (inl holds) = true
flag (inr fails) = false

pub flag_true : {P : Type 0} (d : IsDecidable P) → P → flag d ≡ true
unfolding flag
flag_true (inl holds) p = refl
flag_true (inr fails) p = absurd (fails p)

pub flag_false : {P : Type 0} (d : IsDecidable P) → (P → ⊥) → flag d ≡ false
unfolding flag
flag_false (inl holds) never = absurd (never holds)
flag_false (inr fails) never = refl

-- a step that isn't an out and is 1 on row 0
abbrev pub IsOne : ℕ → ℕ → Body → ℕ → Type 0
IsOne n r b p = (n < p) × ((bits_of n r b.step 0 p ≡ true) × (IsSomeOut b.outs p → ⊥))

pub decided_one : (n r : ℕ) (b : Body) (p : ℕ) → IsDecidable (IsOne n r b p)
decided_one n r b p = decided_and (n < p) ((bits_of n r b.step 0 p ≡ true) × (IsSomeOut b.outs p → ⊥)) (decided_lt n p)
    (decided_and (bits_of n r b.step 0 p ≡ true) (IsSomeOut b.outs p → ⊥) (decided_true (bits_of n r b.step 0 p)) (decided_not (IsSomeOut b.outs p) (decided_named b.outs p)))

-- steps are outs or 0 on row 0
abbrev pub AreZero : Specification → Basis → ℕ → Body → Type 0
AreZero s basis r b = polarity_closed basis ≡ true → (i : ℕ) → i < r → (bits_of s.inputs r b.step 0 (s.inputs + 1 + i) ≡ false) ⊎ Contains b.outs (Place (s.inputs + 1 + i))

pub record IsFinal (s : Specification) (basis : Basis) (r d : ℕ) : Type 0 where
  pub body : Body
  pub fits : Fits s basis r d body
  pub settled : IsKeyMinimal s basis r body.step
  pub rise : Rise basis r body.step
  pub zero : AreZero s basis r body

zeroed : (s : Specification) (basis : Basis) (r d : ℕ) → (HasFewer s basis r → ⊥) → polarity_closed basis ≡ true → IsRisen s basis r d → IsFinal s basis r d
zeroed s basis r d none closed is =
    let n : ℕ = s.inputs in
    let b : Body = is.body in
    let on : ℕ → Bool = λ p. flag (decided_one n r b p) in
    let inputs : (p : ℕ) → p ≤ n → on p ≡ false = λ p low. flag_false (decided_one n r b p) (λ one. omega (arith, one.0)) in
    let off : (h p : ℕ) → h < length b.outs → slice_index_or b.outs h Zero ≡ Place p → on p ≡ false = λ h p low named. flag_false (decided_one n r b p) (λ one. one.1.1 (h, low, named)) in
    record {
      body = complemented_body n on b;
      fits = complemented_fits s basis r d b is.fits closed on inputs off;
      settled = complemented_settled s basis r d b is.fits none closed on is.settled;
      rise = is.rise;
      zero = λ _ i low.
          let p : ℕ = n + 1 + i in
          let old : Bool = bits_of n r b.step 0 p in
          let new = complemented_bits s basis r d b is.fits closed on inputs 0 p (omega arith) (omega arith) in
          ⊎_elim
          (λ (named : IsSomeOut b.outs p). inr (named_contains b.outs p named))
          (λ (no_out : IsSomeOut b.outs p → ⊥). inl (new ∙ ⊎_elim
          (λ (one : old ≡ true). ap (λ (x : Bool). flip x old) (flag_true (decided_one n r b p) (omega arith, (one, no_out))) ∙ ap not one)
          (λ (nought : old ≡ false). ap (λ (x : Bool). flip x old) (flag_false (decided_one n r b p) (λ one. both_ways old nought one.1.0)) ∙ nought)
          (cases_Bool old)))
          (decided_named b.outs p);
    }

final : (s : Specification) (basis : Basis) (r d : ℕ) → (HasFewer s basis r → ⊥) → IsRisen s basis r d → IsFinal s basis r d
final s basis r d none is = ⊎_elim
    (λ (closed : polarity_closed basis ≡ true). zeroed s basis r d none closed is)
    (λ (open_ : polarity_closed basis ≡ false). record {
      body = is.body;
      fits = is.fits;
      settled = is.settled;
      rise = is.rise;
      zero = λ closed i low. absurd (both_ways (polarity_closed basis) open_ closed);
    })
    (cases_Bool (polarity_closed basis))

-- ---- the law

-- a property of each step by its index holds of the steps of the list
each_step : (r : ℕ) (step : ℕ → Step) (P : ℕ → Step → Type 0) → ((i : ℕ) → i < r → P i (step i)) → (i : ℕ) (a : Step) → slice_get (rebuilt step r) i ≡ Some a → P i a
each_step r step P each i a at = let here = rebuilt_at step r i a at in subst (P i) (sym here.1) (each i here.0)

pub normal_form : (s : Specification) (basis : Basis) (r d : ℕ) → (HasFewer s basis r → ⊥) → (f : IsFinal s basis r d) → IsNormalForm basis s (chain_of s.inputs r f.body)
normal_form s basis r d none f =
    let n : ℕ = s.inputs in
    let b : Body = f.body in
    let c : Chain = chain_of n r b in
    let fits : Fits s basis r d b = f.fits in
    record {
      operands_rise = λ closed. each_step r b.step (λ i a. a.j ≤ a.k) (f.rise closed);
      used = each_step r b.step (λ i a. IsOut c (n + 1 + i) ⊎ IsRead c (n + 1 + i)) (λ i low. ⊎_elim
          (λ (fewer : HasFewer s basis r). absurd (none fewer))
          (λ (used : IsOutOrRead n r b i). ⊎_elim
          (λ (is_out : Contains b.outs (Place (n + 1 + i))). inl is_out)
          (λ (read : (k : ℕ) × (k < r) × Reads (b.step k) (n + 1 + i)). inr (read.0, b.step read.0, rebuilt_get b.step r read.0 read.1, read.2))
          used)
          (unused_goes s basis r d b fits i low));
      no_copy = each_step r b.step (λ i a. IsCopy a.op → ⊥) (λ i low copy. none (copy_goes s basis r d b fits i low copy));
      no_constant = λ closed. each_step r b.step (λ i a. IsConstant a.op → ⊥) (λ i low constant. none (constant_goes s basis r d b fits closed i low constant));
      equal_no_copy = each_step r b.step (λ i a. a.j ≡ a.k → CopiesBoth a.op → ⊥) (λ i low equal copies. none (equal_copy_goes s basis r d b fits i low equal copies));
      equal_negate = λ closed. each_step r b.step (λ i a. a.j ≡ a.k → NegatesBoth a.op) (λ i low equal. ⊎_elim
          (λ (fewer : HasFewer s basis r). absurd (none fewer))
          (λ (negates : NegatesBoth (b.step i).op). negates)
          (equal_goes s basis r d b fits closed i low equal));
      negation_of_equal = each_step r b.step (λ i a. IsNegation a.op → a.j ≡ a.k) f.settled.negation_of_equal;
      in_order = λ i a e at_i at_next before.
          let first = rebuilt_at b.step r i a at_i in
          let second = rebuilt_at b.step r (i + 1) e at_next in
          f.settled.paired.in_order i second.0 (subst (λ (x : Step). ComesBefore x (b.step i)) second.1 (subst (ComesBefore e) first.1 before));
      not_again = λ closed i k a e less at_i at_k again.
          let first = rebuilt_at b.step r i a at_i in
          let second = rebuilt_at b.step r k e at_k in
          f.settled.paired.not_again closed i k less second.0 (subst (λ (x : Step). IsReapplication (n + 1 + i) x (b.step k)) first.1 (subst (IsReapplication (n + 1 + i) a) second.1 again));
      earlier_first = λ p q from less low symmetric k e at_k reads.
          let here = rebuilt_at b.step r k e at_k in
          let found = f.settled.paired.earlier_first p q from less low symmetric k here.0 (subst (λ (x : Step). ReadsWithout x q p) here.1 reads) in
          (found.0, b.step found.0, found.1, rebuilt_get b.step r found.0 (omega (arith, found.1, here.0)), found.2);
      zero_on_row_0 = λ closed. each_step r b.step (λ i a. (value c 0 (n + 1 + i) ≡ false) ⊎ IsOut c (n + 1 + i)) (f.zero closed);
    }

-- If a chain of r steps and at most d levels agrees, and no chain of fewer steps and any number of
-- levels does, then a chain in normal form of r steps and at most d levels agrees.
pub least : (s : Specification) (basis : Basis) (r d : ℕ) → HasChainOfLevels s basis r d → ((q : ℕ) → q < r → HasChain s basis q → ⊥) → HasNormalFormChain s basis r d
least s basis r d has none_fewer =
    let none : HasFewer s basis r → ⊥ = λ fewer. none_fewer fewer.count fewer.fewer fewer.chain in
    let first = fits_from s basis r d has.chain has.is_chain has.size has.is_over has.agrees has.levels in
    let low = settled s basis r d none (record { step = step_at has.chain.steps; outs = has.chain.outs }) first in
    let f : IsFinal s basis r d = final s basis r d none (risen s basis r d low.at low.kept low.reached) in
    record {
      has = record {
        chain = chain_of s.inputs r f.body;
        is_chain = is_chain s basis r d f.body f.fits;
        size = rebuilt_length f.body.step r;
        is_over = is_over s basis r d f.body f.fits;
        agrees = agrees s basis r d f.body f.fits;
        levels = has_levels s basis r d f.body f.fits;
      };
      normal_form = normal_form s basis r d none f;
    }

-- a chain has at most as many levels as steps
pub levels_at_most_steps : (c : Chain) → IsChain c → HasLevels (length c.steps) c
levels_at_most_steps c is = λ p from low.
    let under : level c p ≤ p - c.n = level_at_most c.n c.steps is.steps (λ q. q - c.n)
    (λ i a at. let here : IsStepAt (c.n + 1 + i) a = is.steps.each i a at in (omega (arith, here.j_below), omega (arith, here.k_below)))
    (p + 1) p (omega arith) from (omega arith) in
    omega arith

-- A chain in normal form reaches the minimum.
pub minimum_is_in_normal_form : (s : Specification) (basis : Basis) (r : ℕ) → IsMinimum s basis r → HasNormalFormChain s basis r r
minimum_is_in_normal_form s basis r minimum =
    let has = minimum.reached in
    least s basis r r (record {
      chain = has.chain;
      is_chain = has.is_chain;
      size = has.size;
      is_over = has.is_over;
      agrees = has.agrees;
      levels = subst (λ (d : ℕ). HasLevels d has.chain) has.size (levels_at_most_steps has.chain has.is_chain);
    }) minimum.none_fewer
