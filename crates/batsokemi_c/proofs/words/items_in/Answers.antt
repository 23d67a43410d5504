use Rattle.text_core.specs.Items.{items_of, items_left}
use Rattle.command_line.specs.CommandLine.{spelled}
use Rattle.batsokemi_c.proofs.Among.{not_all, same_fault}
use Rattle.batsokemi_c.proofs.words.items_in.Goals as goal

-- src/words.rt:54:27
pub returns-in-Err-clause-not_text : goal.returns-in-Err-clause-not_text
returns-in-Err-clause-not_text c = λ is every.
    not_all (spelled c.loop-left.words) (items_left c.next_item.result.1)
    (items_of c.args.command.now) c.next_item.result.0.now c.loop-left.left c.in-Some.text c.loop-left.invariant
    c.in-Some.is c.next_item.ensures.items (c.in-Err.ensures.not_text (same_fault _ _ is)) every
