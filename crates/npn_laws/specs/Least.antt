-- The law: if a chain agrees and none of fewer steps does, one in normal form agrees that meets the exchange cut.
use Rattle.std.proofs.Common.{◌≡◌, ℕ, ◌+◌, ◌≤◌, ◌<◌, Bool, true, false, not, length, ap, ◌∙◌, arith, inl, inr, ⊎_elim, subst}
use Rattle.std.specs.Prelude.{slice_index_or}
use Rattle.std.proofs.lemmas.Bool.{cases_Bool, both_ways}
use Rattle.chain_theory.specs.Operator.{Basis}
use Rattle.chain_theory.specs.Specification.{Specification}
use Rattle.chain_theory.specs.Chain.{Step, Chain}
use Rattle.chain_theory.specs.Agreement.{HasChain, IsMinimum}
use Rattle.chain_theory.specs.Levels.{HasLevels, HasChainOfLevels}
use Rattle.chain_theory.specs.declared.data.Out.TheVariants.{Zero, Place}
use Rattle.op_basis.specs.Closed.{swap_closed, polarity_closed}
use Rattle.fence_core.specs.Fence.{IsListedFence}
use Rattle.chain_laws.specs.Follow.{rebuilt_length, rebuilt_at, rebuilt_get, step_at}
use Rattle.chain_laws.specs.NormalForm.{HasNormalFormChain, IsStep, ReadsWithout}
use Rattle.chain_laws.specs.Bodies.{Body, Fits, chain_of, bits_of, fits_from, is_chain, is_over, agrees, has_levels}
use Rattle.chain_laws.specs.Shorter.{HasFewer}
use Rattle.chain_laws.specs.Trivial.{IsSomeOut, decided_named, named_contains}
use Rattle.chain_laws.specs.Oriented.{oriented, oriented_rises, oriented_body, oriented_fits, oriented_settled, oriented_pair}
use Rattle.chain_laws.specs.Complemented.{flip, complemented_body, complemented_bits, complemented_fits, complemented_settled}
use Rattle.chain_laws.specs.Least.{IsFinal, Rise, decided_one, flag, flag_true, flag_false, normal_form, least, levels_at_most_steps}
use Rattle.chain_laws.specs.Fences.{HasFencedChain, fence_of, is_in_fence, fence_is_listed, fence_is_low}
use Rattle.npn_laws.specs.Exchange.{IsExchangeable}
use Rattle.npn_laws.specs.Descent.{MeetsExchanges, IsSettled, meets_same, settled_with_exchanges}

-- ---- the cut

-- No step reads q without p before some step has read p without q.
abbrev pub EarlierFirst : Chain → ℕ → ℕ → Type 0
EarlierFirst c p q = (k : ℕ) (b : Step) → IsStep c k b → ReadsWithout b q p → (i : ℕ) × (a : Step) × (i < k) × IsStep c i a ×
    ReadsWithout a p q

-- The exchange cut with complements: if the basis is closed under complements, then of two inputs that may be exchanged
-- the later one is read without the earlier one only after the earlier one was read without the later one. It asks
-- this of all such inputs at once.
-- Without the closure it would be wrong: over AND and XOR alone the table 00110000 of NOT x1 AND x2 needs two steps, and
-- each such chain reads x2 without x1.
abbrev pub IsExchangeCut : Basis → Specification → Chain → Type 0
IsExchangeCut basis s c = polarity_closed basis ≡ true → (p q : ℕ) → 1 ≤ p → p < q → q ≤ c.n → IsExchangeable s p q →
    EarlierFirst c p q

-- a chain in normal form of r steps and at most d levels over the basis implements the specification, and meets the cut
pub record HasExchangeCutChain (s : Specification) (basis : Basis) (r d : ℕ) : Type 0 where
  pub normal : HasNormalFormChain s basis r d
  pub cut : IsExchangeCut basis s normal.has.chain

-- ---- the last changes keep pairs

record IsRisen (s : Specification) (basis : Basis) (r d : ℕ) : Type 0 where
  body : Body
  fits : Fits s basis r d body
  settled : IsSettled s basis r body
  rise : Rise basis r body.step

risen : (s : Specification) (basis : Basis) (r d : ℕ) (b : Body) → Fits s basis r d b → IsSettled s basis r b → IsRisen s basis r d
risen s basis r d b fits is = ⊎_elim
    (λ (closed : swap_closed basis ≡ true). record {
      body = oriented_body b;
      fits = oriented_fits s basis r d b fits closed;
      settled = (oriented_settled s basis r d b fits is.0, meets_same s r b.step (λ k. oriented (b.step k)) (λ k. oriented_pair (b.step k)) is.1);
      rise = λ _ k low. oriented_rises (b.step k);
    })
    (λ (open_ : swap_closed basis ≡ false). record {
      body = b;
      fits = fits;
      settled = is;
      rise = λ closed k low. absurd (both_ways (swap_closed basis) open_ closed);
    })
    (cases_Bool (swap_closed basis))

record IsZeroed (s : Specification) (basis : Basis) (r d : ℕ) : Type 0 where
  final : IsFinal s basis r d
  meets : MeetsExchanges s r final.body.step

zeroed : (s : Specification) (basis : Basis) (r d : ℕ) → (HasFewer s basis r → ⊥) → polarity_closed basis ≡ true → IsRisen s basis r d → IsZeroed s basis r d
zeroed s basis r d none closed is =
    let n : ℕ = s.inputs in
    let b : Body = is.body in
    let on : ℕ → Bool = λ p. flag (decided_one n r b p) in
    let inputs : (p : ℕ) → p ≤ n → on p ≡ false = λ p low. flag_false (decided_one n r b p) (λ one. omega (arith, one.0)) in
    let off : (h p : ℕ) → h < length b.outs → slice_index_or b.outs h Zero ≡ Place p → on p ≡ false =
    λ h p low named. flag_false (decided_one n r b p) (λ one. one.1.1 (h, low, named)) in
    record {
      final = record {
        body = complemented_body n on b;
        fits = complemented_fits s basis r d b is.fits closed on inputs off;
        settled = complemented_settled s basis r d b is.fits none closed on is.settled.0;
        rise = is.rise;
        zero = λ _ i low.
            let p : ℕ = n + 1 + i in
            let old : Bool = bits_of n r b.step 0 p in
            let new = complemented_bits s basis r d b is.fits closed on inputs 0 p (omega arith) (omega arith) in
            ⊎_elim
            (λ (named : IsSomeOut b.outs p). inr (named_contains b.outs p named))
            (λ (no_out : IsSomeOut b.outs p → ⊥). inl (new ∙ ⊎_elim
            (λ (one : old ≡ true). ap (λ (x : Bool). flip x old) (flag_true (decided_one n r b p) (omega arith, (one, no_out))) ∙ ap not one)
            (λ (nought : old ≡ false). ap (λ (x : Bool). flip x old) (flag_false (decided_one n r b p) (λ one. both_ways old nought one.1.0)) ∙ nought)
            (cases_Bool old)))
            (decided_named b.outs p);
      };
      meets = is.settled.1;
    }

-- ---- the law

-- steps that meet the cut are those of a chain that does
cut_of : (s : Specification) (basis : Basis) (r : ℕ) (b : Body) → MeetsExchanges s r b.step → IsExchangeCut basis s (chain_of s.inputs r b)
cut_of s basis r b meets = λ closed p q from less low may k e at_k reads.
    let here = rebuilt_at b.step r k e at_k in
    let found = meets p q from less low may k here.0 (subst (λ (x : Step). ReadsWithout x q p) here.1 reads) in
    (found.0, b.step found.0, found.1, rebuilt_get b.step r found.0 (omega (arith, found.1, here.0)), found.2)

with_cut : (s : Specification) (basis : Basis) (r d : ℕ) → (HasFewer s basis r → ⊥) → IsZeroed s basis r d → HasExchangeCutChain s basis r d
with_cut s basis r d none is =
    let f : IsFinal s basis r d = is.final in
    record {
      normal = record {
        has = record {
          chain = chain_of s.inputs r f.body;
          is_chain = is_chain s basis r d f.body f.fits;
          size = rebuilt_length f.body.step r;
          is_over = is_over s basis r d f.body f.fits;
          agrees = agrees s basis r d f.body f.fits;
          levels = has_levels s basis r d f.body f.fits;
        };
        normal_form = normal_form s basis r d none f;
      };
      cut = cut_of s basis r f.body is.meets;
    }

-- If a chain of r steps and at most d levels agrees, and no chain of fewer steps and any number of levels does, then a
-- chain in normal form of r steps and at most d levels agrees that meets the cut.
pub least_with_cut : (s : Specification) (basis : Basis) (r d : ℕ) → HasChainOfLevels s basis r d → ((q : ℕ) → q < r → HasChain s basis q → ⊥) →
    HasExchangeCutChain s basis r d
least_with_cut s basis r d has none_fewer = ⊎_elim
    (λ (closed : polarity_closed basis ≡ true).
    let none : HasFewer s basis r → ⊥ = λ fewer. none_fewer fewer.count fewer.fewer fewer.chain in
    let first = fits_from s basis r d has.chain has.is_chain has.size has.is_over has.agrees has.levels in
    let low = settled_with_exchanges s basis r d none closed (record { step = step_at has.chain.steps; outs = has.chain.outs }) first in
    with_cut s basis r d none (zeroed s basis r d none closed (risen s basis r d low.at low.kept low.reached)))
    (λ (open_ : polarity_closed basis ≡ false). record {
      normal = least s basis r d has none_fewer;
      cut = λ closed p q from less low may. absurd (both_ways (polarity_closed basis) open_ closed);
    })
    (cases_Bool (polarity_closed basis))

-- ---- fences

-- such a chain with a listed fence of at most d levels
pub record HasExchangeCutFence (s : Specification) (basis : Basis) (r d : ℕ) : Type 0 where
  pub fenced : HasFencedChain s basis r d
  pub cut : IsExchangeCut basis s fenced.normal_form.has.chain

pub least_in_fence_with_cut : (s : Specification) (basis : Basis) (r d : ℕ) → HasChainOfLevels s basis r d → ((q : ℕ) → q < r → HasChain s basis q → ⊥) →
    HasExchangeCutFence s basis r d
least_in_fence_with_cut s basis r d has none_fewer =
    let found : HasExchangeCutChain s basis r d = least_with_cut s basis r d has none_fewer in
    let is : HasNormalFormChain s basis r d = found.normal in
    let c : Chain = is.has.chain in
    record {
      fenced = record {
        normal_form = is;
        fence = fence_of c;
        stands = is_in_fence c is.has.is_chain is.normal_form.in_order;
        listed = subst (λ (m : ℕ). IsListedFence m (fence_of c)) is.has.agrees.outputs
            (fence_is_listed c is.has.is_chain is.normal_form.in_order is.normal_form.used);
        low = fence_is_low c is.has.is_chain d is.has.levels;
      };
      cut = found.cut;
    }

-- A chain in normal form that meets the cut reaches the minimum.
pub minimum_meets_cut : (s : Specification) (basis : Basis) (r : ℕ) → IsMinimum s basis r → HasExchangeCutChain s basis r r
minimum_meets_cut s basis r minimum =
    let has = minimum.reached in
    least_with_cut s basis r r (record {
      chain = has.chain;
      is_chain = has.is_chain;
      size = has.size;
      is_over = has.is_over;
      agrees = has.agrees;
      levels = subst (λ (d : ℕ). HasLevels d has.chain) has.size (levels_at_most_steps has.chain has.is_chain);
    }) minimum.none_fewer
