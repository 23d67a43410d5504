use Rattle.std.proofs.Common.{◌≡◌, ◌∙◌, ◌∷◌, [], ℕ, length, ap, arith}
use Rattle.std.proofs.lemmas.List.{length-append}
use Rattle.net_theory.specs.declared.data.Gate.{Gate}
use Rattle.window_core.specs.Fanouts.{node_of}
use Rattle.window_core.specs.PartnerSearch.{IsPartnerSearch}
use Rattle.window_core.specs.GrowingLaws.{of_one}
use Rattle.window_core.specs.PartnerSearchLaws.{walk_start, walk_more, walk_none, walk_full, walk_next}
use Rattle.window_core.proofs.partner_list.partners_by.Goals as goal

pub loop-found-init : goal.loop-found-init
loop-found-init c = record {
  walk = walk_start c.args.net.now c.args.root c.gate_at-gate.result.now c.earlier_of-earlier.result
      c.in_ok-partners.partners.items c.gate_at-gate.ensures.gate
      (c.earlier_of-earlier.ensures c.gate_at-gate.result.now c.gate_at-gate.ensures.gate) c.in_ok-partners.ensures.items;
  count = ap (length {A = ℕ}) c.in_ok-partners.ensures.items;
}

pub returns-then-next-eq0 : goal.returns-then-next-eq0
returns-then-next-eq0 c =
    walk_none c.args.net.now c.args.root c.loop-found.a c.loop-found.b c.max-next.result c.loop-found._found
    c.loop-found.partners.items c.loop-found.invariant.walk c.max-next.ensures c.if-next-eq0.true
    c.loop-found.invariant.count (omega (arith, c.loop-found-test.true))

pub onward-a-requires-clause-found : goal.onward-a-requires-clause-found
onward-a-requires-clause-found c =
    (walk_next c.args.net.now c.args.root c.loop-found.a c.loop-found.b c.max-next.result c.loop-found.partners.items
    c.loop-found.invariant.walk c.gate_at-gate.ensures.net c.max-next.ensures c.if-next-eq0.false).0.second.fanout

pub onward-b-requires-clause-found : goal.onward-b-requires-clause-found
onward-b-requires-clause-found c =
    (walk_next c.args.net.now c.args.root c.loop-found.a c.loop-found.b c.max-next.result c.loop-found.partners.items
    c.loop-found.invariant.walk c.gate_at-gate.ensures.net c.max-next.ensures c.if-next-eq0.false).0.second.fanout

pub loop-found-preserved : goal.loop-found-preserved
loop-found-preserved c =
    let w : IsPartnerSearch c.args.net.now c.args.root c.loop-found.a c.loop-found.b c.loop-found.partners.items = c.loop-found.invariant.walk in
    let same : c.gate_at-gate.result.now ≡ w.gate = of_one c.args.net.now c.args.root c.gate_at-gate.result.now w.gate c.gate_at-gate.ensures.gate w.is in
    record {
      walk = walk_more c.args.net.now c.args.root c.loop-found.a c.loop-found.b c.max-next.result c.onward-a.result
          c.onward-b.result c.node_of-first.result c.node_of-second.result c.loop-found.partners.items
          c.push.new.self.items w
          c.gate_at-gate.ensures.net c.max-next.ensures c.if-next-eq0.false (c.node_of-first.ensures
          ∙ ap (λ (g : Gate). node_of g.a) same) (c.node_of-second.ensures
          ∙ ap (λ (g : Gate). node_of g.b) same) c.onward-a.ensures c.onward-b.ensures c.in_ok-push.ensures.items;
      count = ap (length {A = ℕ}) c.in_ok-push.ensures.items ∙ length-append c.loop-found.partners.items (c.max-next.result ∷ []) ∙ omega (arith, c.loop-found.invariant.count);
    }

pub returns : goal.returns
returns c = walk_full c.args.net.now c.args.root c.loop-found.a c.loop-found.b c.loop-found._found
    c.loop-found.partners.items c.loop-found.invariant.walk c.loop-found.invariant.count
    (omega (arith, c.loop-found-test.false, c.loop-found.auto._found-end))
