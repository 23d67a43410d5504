-- A chain with permuted inputs implements the permuted tables.
use Rattle.std.proofs.Common.{◌≡◌, sym, subst}
use Rattle.std.proofs.lemmas.Result.{IfOk-weaker}
use Rattle.chain_theory.specs.Chain.{Chain}
use Rattle.cert_theory.specs.declared.data.Header.{Header}
use Rattle.spec_cache.specs.OrderLaws.{permuted_chain}
use Rattle.decide_core.specs.Decided.{IsShorter}
use Rattle.decide_core.specs.Ordered.{IsPermutedTo}
use Rattle.decide_core.specs.OrderedLaws.{shorter_permuted}
use Rattle.decide_core.proofs.ordering.reordered.Goals as goal

pub returns : goal.returns
returns c =
    IfOk-weaker c.permuted_chain.result (λ (permuted : Chain). permuted ≡ permuted_chain c.args.order.now c.args.chain.now)
    (λ (permuted : Chain). (h k : Header) → IsPermutedTo h k c.args.order.now → IsShorter h c.args.chain.now → IsShorter k permuted)
    (λ permuted is h k t short. subst (IsShorter k) (sym is) (shorter_permuted h k c.args.order.now c.args.chain.now t short))
    c.permuted_chain.ensures
