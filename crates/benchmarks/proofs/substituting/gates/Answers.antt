use Rattle.std.proofs.Common.{◌≡◌, length, vec_len, sym, ◌∙◌, arith}
use Rattle.benchmarks.proofs.Nets.{push_gate, no_gates}
use Rattle.benchmarks.proofs.substituting.gates.Goals as goal

pub loop-index-init : goal.loop-index-init
loop-index-init c = record { gates = no_gates c.args.sources c.new-gates.result.items c.new-gates.ensures.items; count = c.new-gates.ensures.len }

pub loop-index-preserved : goal.loop-index-preserved
loop-index-preserved c =
    let old = c.loop-index.gates in
    let size : vec_len old ≡ length old.items = old.ok.0 in
    record {
      gates = push_gate c.args.sources c.loop-index.index old.items c.push.new.self.items _
          c.loop-index.invariant.gates (sym size ∙ c.loop-index.invariant.count) c.in_ok-push.ensures.items
          (record {
            operator = omega (arith, c.new.ensures);
            first = c.node_below.ensures;
            second = c.node_below-in-loop-index.ensures;
          });
      count = omega (arith, c.in_ok-push.ensures.len, c.loop-index.invariant.count);
    }
