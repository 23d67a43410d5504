use Rattle.std.proofs.Common.{◌∙◌, ap, arith}
use Rattle.window_theory.specs.Nodes.{among}
use Rattle.window_theory.specs.PairLaws.{among_at}
use Rattle.improve_tests.proofs.windows.together.Goals as goal

pub window-requires-clause-partner : goal.window-requires-clause-partner
window-requires-clause-partner c = record {
  partners = c.in_ok-partners.partners.items;
  are = c.in_ok-partners.ensures;
  one = ap (among c.in_ok-partners.partners.items) c.index.ensures ∙ among_at c.in_ok-partners.partners.items c.args.index _ (omega (arith, c.len.ensures, c.in_ok-partners.partners.ok.0));
}
