use Rattle.text_core.specs.ReadBack.{item_back, last_item_back, items_spell}
use Rattle.text_core.proofs.laws.laws_of_items.Goals as goal

pub returns-clause-first : goal.returns-clause-first
returns-clause-first c = item_back

pub returns-clause-last : goal.returns-clause-last
returns-clause-last c = last_item_back

pub returns-clause-spelled : goal.returns-clause-spelled
returns-clause-spelled c = items_spell
