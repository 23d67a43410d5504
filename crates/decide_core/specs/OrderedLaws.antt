-- What permuted tables prove about a header.
use Rattle.std.proofs.Common.{◌≡◌, ℕ, ◌+◌, ◌≤◌, List, length, sym, ◌∙◌, subst, arith}
use Rattle.chain_theory.specs.Chain.{Chain}
use Rattle.chain_theory.specs.Agreement.{IsOver, NoneBelow}
use Rattle.tt_core.specs.Words.{Words, IsSpec, specification}
use Rattle.op_basis.specs.Basis.{members}
use Rattle.cert_theory.specs.declared.data.Header.{Header}
use Rattle.cert_theory.specs.Certificate.{IsHeader}
use Rattle.spec_cache.specs.Order.{IsOrder, IsPermuting, IsInverse, IsPermuted}
use Rattle.spec_cache.specs.OrderLaws.{permuted_chain, none_permuted, chain_stands, size_permuted, over_permuted, agrees_permuted}
use Rattle.spec_cache.specs.InverseLaws.{permuted_back}
use Rattle.decide_core.specs.Decided.{Fewer, HasNone, IsShorter}
use Rattle.decide_core.specs.Ordered.{IsPermutedTo}
use Rattle.decide_core.specs.DecidedLaws.{deciding}

pub header_permuted : (h : Header) (spec : Words) (conflicts : ℕ) → IsHeader h → IsSpec spec → 1 ≤ conflicts →
    conflicts ≤ h.conflicts → IsHeader (record {
      spec = spec;
      basis = h.basis;
      method = h.method;
      conflicts = conflicts;
      max = h.max;
    })
header_permuted h spec conflicts header tables some few = record {
  tables = tables;
  basis_below = header.basis_below;
  settings = record {
    basis_from = header.settings.basis_from;
    max_to = header.settings.max_to;
    conflicts_from = some;
    conflicts_to = omega (arith, few, header.settings.conflicts_to);
    effort_to = header.settings.effort_to;
  };
}

-- a lower bound for the permuted tables holds for the original ones
pub fewer_permuted : (h k : Header) (order : List ℕ) (size : ℕ) → IsPermutedTo h k order → Fewer k size → Fewer h size
fewer_permuted h k order size t none =
    none_permuted (specification h.spec) (specification k.spec) order (members h.basis) size t.numbers t.permuted
    (subst (λ (b : ℕ). NoneBelow (specification k.spec) (members b) size) t.basis none)

pub least_permuted : (h k : Header) (order : List ℕ) → IsPermutedTo h k order → HasNone k → HasNone h
least_permuted h k order t none = fewer_permuted h k order (h.max + 1) t (subst (λ (m : ℕ). Fewer k (m + 1)) t.max none)

-- and the other way round
pub least_carried : (h k : Header) (order : List ℕ) → IsPermutedTo h k order → ((size : ℕ) → Fewer h size → Fewer k size) → HasNone h → HasNone k
least_carried h k order t carries none = carries (k.max + 1) (subst (λ (m : ℕ). Fewer h (m + 1)) (sym t.max) none)

pub permuted_to : (h k : Header) (order : List ℕ) → IsPermuting h.spec.n order →
    IsPermuted (specification h.spec) (specification k.spec) order → k.basis ≡ h.basis → k.max ≡ h.max →
    IsPermutedTo h k order
permuted_to h k order is permuted basis_is max_is = record { numbers = is.numbers; permuted = permuted; basis = basis_is; max = max_is }

-- the inverse order, by the clauses of `inverse`
pub permuted_from : (h k : Header) (order back : List ℕ) → IsPermuting h.spec.n order → IsOrder (length order) back →
    (IsPermuting (length order) order → IsInverse (length order) order back) →
    IsPermuted (specification h.spec) (specification k.spec) order → k.basis ≡ h.basis → k.max ≡ h.max →
    IsPermutedTo k h back
permuted_from h k order back is is_back goes permuted basis_is max_is =
    let size : length order ≡ h.spec.n = is.numbers.size in
    record {
      numbers = subst (λ (n : ℕ). IsOrder n back) (size ∙ sym permuted.inputs) is_back;
      permuted = permuted_back (specification h.spec) (specification k.spec) order back is.numbers permuted
          (subst (λ (n : ℕ). IsInverse n order back) size (goes (subst (λ (n : ℕ). IsPermuting n order) (sym size) is)));
      basis = sym basis_is;
      max = sym max_is;
    }

pub chain_ordered : (h k : Header) (order : List ℕ) (c : Chain) → IsPermutedTo h k order → IsShorter h c → IsOrder c.n order
chain_ordered h k order c t short = subst (λ (n : ℕ). IsOrder n order) (sym short.found.agrees.inputs) t.numbers

-- a solution for one header, with its inputs permuted, is a solution for the permuted header
pub shorter_permuted : (h k : Header) (order : List ℕ) (c : Chain) → IsPermutedTo h k order → IsShorter h c → IsShorter k (permuted_chain order c)
shorter_permuted h k order c t short =
    let is : IsOrder c.n order = chain_ordered h k order c t short in
    record {
      size = short.size;
      found = record {
        chain = chain_stands order c is short.found.chain;
        size_is = size_permuted order c ∙ short.found.size_is;
        size_to = omega (arith, short.found.size_to, t.max);
        over = over_permuted order c (members k.basis) (subst (λ (b : ℕ). IsOver (members b) c) (sym t.basis) short.found.over);
        agrees = agrees_permuted (specification h.spec) (specification k.spec) order c is t.permuted short.found.chain short.found.agrees;
      };
    }

pub ruleset ordering = (deciding, header_permuted)
