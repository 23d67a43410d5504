use Rattle.std.proofs.Common.{◌≡◌, ◌∙◌, map, ap, sym, length, vec_len, arith}
use Rattle.std.specs.List.{range_with_len}
use Rattle.std.proofs.lemmas.List.FromFn.{map-range_with_len_more, length-map-range_with_len}
use Rattle.net_theory.specs.Moving.{sources_stay}
use Rattle.net_core.specs.Marks.{nodes_of}
use Rattle.net_core.proofs.DanglingGates.{nodes_of-start}
use Rattle.net_core.proofs.keeping.start_nodes.Goals as goal

pub loop-node-preserved : goal.loop-node-preserved
loop-node-preserved c =
    rw (c.in_ok-push.ensures.items, c.loop-node.invariant, c.start_node.ensures) (sym (map-range_with_len_more (sources_stay c.args.sources) 0 c.loop-node.node c.loop-node.node (omega arith)))

pub returns-clause-nodes : goal.returns-clause-nodes
returns-clause-nodes c =
    let all : c.loop-node.node ≡ c.args.count = omega arith in
    ap nodes_of (c.loop-node.invariant ∙ ap (λ n. map (sources_stay c.args.sources) (range_with_len 0 n)) all) ∙ nodes_of-start c.args.sources c.args.count c.requires

pub returns-clause-count : goal.returns-clause-count
returns-clause-count c =
    let size : vec_len c.loop-node.nodes ≡ length c.loop-node.nodes.items = c.loop-node.nodes.ok.0 in
    omega (arith, size, ap length c.loop-node.invariant, length-map-range_with_len (sources_stay c.args.sources) 0 c.loop-node.node)
