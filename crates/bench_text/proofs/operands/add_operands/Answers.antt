use Rattle.std.proofs.Common.{◌++◌, [], ◌∷◌, ap, sym, ◌∙◌}
use Rattle.net_theory.specs.Document.{Name}
use Rattle.bench_text.specs.Items.{items_of}
use Rattle.bench_text.proofs.Closing.{going_on}
use Rattle.bench_text.proofs.operands.add_operands.Goals as goal

pub loop-word-preserved : goal.loop-word-preserved
loop-word-preserved c =
    going_on c.loop-word.names.items c.push.new.self.items (items_of c.loop-word.left.now)
    (items_of c.in-Some.rest.now) (items_of c.in-Some-next_item.rest.now) c.in-Some.word.now
    c.in-Some-next_item.mark.now c.in-Some.ensures.items c.in-Some-next_item.ensures.items
    (sym c.if-is_mark_item.ensures) (sym c.if-is_item.ensures) (sym c.if-is_item-2.ensures)
    (c.in_ok-push.ensures.items ∙ ap (λ (x : Name). c.loop-word.names.items ++ x ∷ []) c.in_ok-of.ensures)
    ∙ c.loop-word.invariant
