-- The result is the specification with permuted inputs.
use Rattle.spec_cache.specs.WordLaws.{spec_permuted}
use Rattle.spec_cache.proofs.permute.permuted_spec.Goals as goal

pub returns-clause-permuted : goal.returns-clause-permuted
returns-clause-permuted c =
    spec_permuted c.args.spec.now c.new.result c.args.order.now c.n-n.result c.on.result.now c.in_ok-on.on.items c.care.result.now c.in_ok-care.care.items
    c.new.ensures c.n-n.ensures.value c.on.ensures c.care.ensures c.in_ok-on.ensures c.in_ok-care.ensures
