use Rattle.std.proofs.Common.{◌≡◌, ◌+◌, ◌-◌, ◌*◌, ◌≤◌, ◌++◌, length}
use Rattle.enc_theory.specs.Numbering.{s_first}
use Rattle.enc_theory.specs.Pairs.{laid, layout, slot_count}
use Rattle.enc_base.proofs.layout.Layout.new.Given as goal

abbrev pub invariant-loop-place : goal.invariant-loop-place
invariant-loop-place g l = record {
  same : l.steps.items ++ laid (g.P.Pairs.pairs_of l.pairs) l.next l.place (l.fn.z.n + 1 + l.fn.z.r - l.place) ≡ layout (g.P.Pairs.pairs_of l.pairs) l.fn.z;
  next : l.next ≡ s_first l.fn.z + slot_count l.steps.items;
  count : length l.steps.items ≡ l.place - (l.fn.z.n + 1);
  few : l.next ≤ s_first l.fn.z + (l.place - (l.fn.z.n + 1)) * 1000;
}
