use Rattle.std.proofs.Common.{◌≡◌, ◌∙◌, List, map, length, drop, ap}
use Rattle.std.proofs.lemmas.List.{take_at, length-map}
use Rattle.clause_db.specs.ArenaRanges.{ArenaState}
use Rattle.clause_db.specs.Lists.{WatchEntries, named, placed}
use Rattle.clause_db.proofs.Entries.{all_named, all_again}
use Rattle.clause_db.proofs.watches.Watches.compact.Goals as goal

pub all_starts_for_ids-requires : goal.all_starts_for_ids-requires
all_starts_for_ids-requires c =
    let b : ArenaState = c.self.inside.arena in
    let ids : List WatchEntries = c.all_ids_for_starts.new.lists in
    let first = take_at ids (drop (length ids) c.self.inside.lists.items) c.self.inside.lists.len
    (ap length c.all_ids_for_starts.ensures ∙ length-map c.deref_mut.result.now (map (named b.starts))
    ∙ c.deref_mut.ensures.len) in
    let names : c.deref_mut-2.result.now ≡ map (map (named b.starts)) c.self.inside.lists.items =
    c.deref_mut-2.ensures.value ∙ first ∙ c.all_ids_for_starts.ensures
    ∙ ap (map (map (named b.starts))) c.deref_mut.ensures.value in
    all_named b c.pack.new.self c.self.inside.lists.items c.deref_mut-2.result.now c.pack.ensures.lists c.self.invariant names

pub invariant_of-self : goal.invariant_of-self
invariant_of-self c =
    let b : ArenaState = c.self.inside.arena in
    let ids : List WatchEntries = c.all_ids_for_starts.new.lists in
    let first = take_at ids (drop (length ids) c.self.inside.lists.items) c.self.inside.lists.len
    (ap length c.all_ids_for_starts.ensures ∙ length-map c.deref_mut.result.now (map (named b.starts))
    ∙ c.deref_mut.ensures.len) in
    let names : c.deref_mut-2.result.now ≡ map (map (named b.starts)) c.self.inside.lists.items =
    c.deref_mut-2.ensures.value ∙ first ∙ c.all_ids_for_starts.ensures
    ∙ ap (map (map (named b.starts))) c.deref_mut.ensures.value in
    let starts : List WatchEntries = c.all_starts_for_ids.new.lists in
    let again = take_at starts (drop (length starts) _) c.self.inside.lists.len (ap length c.all_starts_for_ids.ensures
    ∙ length-map c.deref_mut-2.result.now (map (placed c.pack.new.self.starts)) ∙ c.deref_mut-2.ensures.len) in
    (all_again b c.pack.new.self c.self.inside.lists.items c.deref_mut-2.result.now _ c.args.self.now
    c.pack.ensures.lists c.pack.ensures.ids c.self.invariant names (again
    ∙ c.all_starts_for_ids.ensures) c.self.view_is).0

pub returns : goal.returns
returns c =
    let b : ArenaState = c.self.inside.arena in
    let ids : List WatchEntries = c.all_ids_for_starts.new.lists in
    let first = take_at ids (drop (length ids) c.self.inside.lists.items) c.self.inside.lists.len
    (ap length c.all_ids_for_starts.ensures ∙ length-map c.deref_mut.result.now (map (named b.starts))
    ∙ c.deref_mut.ensures.len) in
    let names : c.deref_mut-2.result.now ≡ map (map (named b.starts)) c.self.inside.lists.items =
    c.deref_mut-2.ensures.value ∙ first ∙ c.all_ids_for_starts.ensures
    ∙ ap (map (map (named b.starts))) c.deref_mut.ensures.value in
    let starts : List WatchEntries = c.all_starts_for_ids.new.lists in
    let again = take_at starts (drop (length starts) _) c.self.inside.lists.len (ap length c.all_starts_for_ids.ensures
    ∙ length-map c.deref_mut-2.result.now (map (placed c.pack.new.self.starts)) ∙ c.deref_mut-2.ensures.len) in
    (all_again b c.pack.new.self c.self.inside.lists.items c.deref_mut-2.result.now _ c.args.self.now
    c.pack.ensures.lists c.pack.ensures.ids c.self.invariant names (again
    ∙ c.all_starts_for_ids.ensures) c.self.view_is).1
