use Rattle.std.proofs.Common.{◌≡◌, ◌∙◌, ◌+◌, ℕ, List, drop, length, replicate, ap, arith}
use Rattle.std.specs.Prelude.{slice_index_or}
use Rattle.std.proofs.lemmas.List.{get_or-replicate}
use Rattle.net_theory.specs.Net.{end_of}
use Rattle.net_theory.specs.declared.data.Gate.{Gate}
use Rattle.window_core.specs.Fanouts.{uses_of}
use Rattle.window_core.specs.NotingLaws.{uses_code}
use Rattle.window_core.proofs.fanouts.all_uses.Goals as goal

pub returns-clause-each : goal.returns-clause-each
returns-clause-each c =
    let end : ℕ = c.sources.result + 1 + length c.gates.result.now in
    let is : c.deref_mut.result.now ≡ replicate end 0 = c.deref_mut.ensures.value ∙ c.in_ok-uses.ensures.items_if_clones_equal (λ y e. e) in
    let size : c.in_ok-uses.uses.len ≡ end = c.in_ok-uses.ensures.len in
    uses_code (uses_of c.args.net.now) c.deref_mut.result.now c.count_all.new.uses (drop (length c.count_all.new.uses) c.in_ok-uses.uses.items) c.in_ok-uses.uses.len (end_of c.args.net.now)
    (omega (arith, ap (length {A = ℕ}) c.deref_mut.ensures.value, c.in_ok-uses.uses.ok.0))
    (omega (arith, size, c.sources.ensures.sources, ap (length {A = Gate}) c.gates.ensures.gates))
    (λ p low. ap (λ (xs : List ℕ). slice_index_or xs p 0) is ∙ get_or-replicate end p 0 0 (omega (arith, low, size)))
    c.count_all.ensures
