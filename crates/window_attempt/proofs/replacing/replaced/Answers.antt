-- The window is replaced by its lists, and what is said of one is said of the other.
use Rattle.op_basis.specs.Basis.{members}
use Rattle.subst_core.specs.Lists.{window_of}
use Rattle.subst_core.specs.ListsLaws.{same_belongs, same_fits, same_keeps, same_room}
use Rattle.window_attempt.specs.LocalLaws.{asked_keeps, asked_fits}
use Rattle.window_attempt.specs.ReplacingLaws.{room_there, replaced_replaces, replaced_no_more, replaced_fewer}
use Rattle.window_attempt.proofs.replacing.replaced.Goals as goal

pub replace_keeping-requires-clause-belongs : goal.replace_keeping-requires-clause-belongs
replace_keeping-requires-clause-belongs c =
    same_belongs c.args.net.now c.args.window.now (window_of c.lists_of-lists.result) c.lists_of-lists.ensures c.requires.belongs

pub replace_keeping-requires-clause-fits : goal.replace_keeping-requires-clause-fits
replace_keeping-requires-clause-fits c =
    same_fits c.args.window.now (window_of c.lists_of-lists.result) c.args.chain.now c.lists_of-lists.ensures
    (asked_fits c.args.settings.observe c.args.net.now c.args.window.now c.args.chain.now c.requires.meets)

pub replace_keeping-requires-clause-keeps : goal.replace_keeping-requires-clause-keeps
replace_keeping-requires-clause-keeps c =
    same_keeps c.args.net.now c.args.window.now (window_of c.lists_of-lists.result) c.args.chain.now c.lists_of-lists.ensures
    (asked_keeps c.args.settings.observe c.args.net.now c.args.window.now c.args.chain.now c.gates-gates.ensures.net c.requires.belongs c.requires.meets)

pub replace_keeping-requires-clause-room : goal.replace_keeping-requires-clause-room
replace_keeping-requires-clause-room c =
    same_room c.args.net.now c.args.window.now (window_of c.lists_of-lists.result) c.args.chain.now c.lists_of-lists.ensures
    (room_there c.args.net.now c.args.window.now c.args.chain.now c.gates-gates.ensures.net c.requires.few)

pub returns-clause-replaces : goal.returns-clause-replaces
returns-clause-replaces c =
    replaced_replaces (members c.args.settings.basis) c.args.net.now c.in_ok-new.new c.args.chain.now c.args.window.now (window_of c.lists_of-lists.result) c.lists_of-lists.ensures
    c.in_ok-new.ensures.cleaned_up c.requires.few c.requires.over c.in_ok-new.ensures.operators

pub returns-clause-no_more : goal.returns-clause-no_more
returns-clause-no_more c =
    replaced_no_more c.args.net.now c.in_ok-new.new c.args.chain.now c.args.window.now (window_of c.lists_of-lists.result) c.lists_of-lists.ensures c.in_ok-new.ensures.fewer c.requires.few

pub returns-clause-fewer : goal.returns-clause-fewer
returns-clause-fewer c = λ less.
    replaced_fewer c.args.net.now c.in_ok-new.new c.args.chain.now c.args.window.now (window_of c.lists_of-lists.result) c.lists_of-lists.ensures c.in_ok-new.ensures.fewer less
