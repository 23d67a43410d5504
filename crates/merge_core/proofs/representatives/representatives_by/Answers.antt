use Rattle.merge_core.specs.RepresentativeLaws.{words_room, representatives_all}
use Rattle.merge_core.proofs.representatives.representatives_by.Goals as goal

pub all_representatives-requires-clause-room : goal.all_representatives-requires-clause-room
all_representatives-requires-clause-room c =
    words_room c.args.net.now c.args.words.now c.lanes_of.result.now c.args.end c.width_of-width.result
    c.sources.result c.requires.words c.requires.end c.sources.ensures.sources c.width_of-width.ensures
    c.lanes_of.ensures.value

pub returns : goal.returns
returns c =
    representatives_all c.args.net.now c.args.words.now c.lanes_of.result.now c.args.end c.width_of-width.result
    c.sources.result c.in_ok-representatives.representatives.items c.sources.ensures.net c.requires.few
    c.requires.words c.requires.end c.sources.ensures.sources c.width_of-width.ensures c.lanes_of.ensures.value
    c.in_ok-representatives.ensures
