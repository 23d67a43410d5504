use Rattle.std.proofs.Common.{ℕ, List, length, ap, sym, ◌∙◌}
use Rattle.std.proofs.lemmas.List.{length-map}
use Rattle.clause_db.specs.declared.lists.Watch.{Watch}
use Rattle.clause_db.specs.ArenaRanges.{id_in}
use Rattle.clause_db.specs.Lists.{blockers_of}
use Rattle.clause_db.proofs.WatchEntries.{shown_list, shown_row}
use Rattle.clause_db.proofs.watches.Watches.list.Goals as goal

pub returns-clause-long : goal.returns-clause-long
returns-clause-long c =
    ap (λ (e : List Watch). length e) c.entries.ensures
    ∙ sym (length-map c.index.result.now (λ (w : Watch). id_in c.self.inside.arena.starts w.start))
    ∙ ap (λ (xs : List ℕ). length xs) (shown_list c.self.inside.arena c.self.inside.lists.items c.args.self.now
    c.args.lit c.code.result c.index.result.now c.self.view_is c.code.ensures.value c.requires c.index.ensures)

pub returns-clause-blockers : goal.returns-clause-blockers
returns-clause-blockers c = ap blockers_of c.entries.ensures
    ∙ shown_row c.self.inside.arena c.self.inside.lists.items c.args.self.now c.args.lit c.code.result
    c.index.result.now c.self.view_is c.code.ensures.value c.requires c.index.ensures
