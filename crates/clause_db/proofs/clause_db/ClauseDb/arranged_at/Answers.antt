use Rattle.std.proofs.Common.{◌≡◌, ◌∙◌, ℕ, slice_index_or, ap, subst}
use Rattle.std.specs.List.Sorted.{IsPermutation}
use Rattle.std.proofs.lemmas.List.Sorted.{IsPermutation-sym, Contains-permutation}
use Rattle.clause_db.specs.Watching.{list_of}
use Rattle.clause_db.specs.Arranging.{block_at}
use Rattle.clause_db.specs.Stored.{Stored, IsStored}
use Rattle.clause_db.proofs.Databases.{block_order, block_front, block_clause, listed_long, listed_live}
use Rattle.clause_db.proofs.clause_db.ClauseDb.arranged_at.Goals as goal

pub returns-clause-same : goal.returns-clause-same
returns-clause-same c = λ clause is l.
    let id : ℕ = slice_index_or (list_of c.args.self.now.watches c.args.lit) c.args.index 0 in
    let read : c.entry_block.result.now ≡ block_at c.self.inside.watches.arena id =
    c.entry_block.ensures ∙ ap (λ (s : Stored).
    block_at c.self.inside.watches.arena (slice_index_or (list_of s.watches c.args.lit) c.args.index 0))
    c.self.view_is in
    let order : IsPermutation clause c.entry_block.result.now =
    block_order c.self.inside.vars c.self.inside.live.items c.self.inside.watches c.args.self.now id
    c.entry_block.result.now clause c.self.view_is c.self.invariant.2 read is in
    (Contains-permutation c.entry_block.result.now clause l (IsPermutation-sym clause c.entry_block.result.now order), Contains-permutation clause c.entry_block.result.now l order)

pub returns-clause-front : goal.returns-clause-front
returns-clause-front c =
    let id : ℕ = slice_index_or (list_of c.args.self.now.watches c.args.lit) c.args.index 0 in
    let read : c.entry_block.result.now ≡ block_at c.self.inside.watches.arena id =
    c.entry_block.ensures ∙ ap (λ (s : Stored).
    block_at c.self.inside.watches.arena (slice_index_or (list_of s.watches c.args.lit) c.args.index 0))
    c.self.view_is in
    block_front c.self.inside.vars c.self.inside.live.items c.self.inside.watches c.args.self.now id c.entry_block.result.now c.self.view_is c.self.invariant.2 read
    (listed_long c.args.self.now c.args.lit c.args.index (subst IsStored c.self.view_is c.self.invariant.0) c.requires.inside)

pub returns-clause-clause : goal.returns-clause-clause
returns-clause-clause c =
    let id : ℕ = slice_index_or (list_of c.args.self.now.watches c.args.lit) c.args.index 0 in
    let read : c.entry_block.result.now ≡ block_at c.self.inside.watches.arena id =
    c.entry_block.ensures ∙ ap (λ (s : Stored).
    block_at c.self.inside.watches.arena (slice_index_or (list_of s.watches c.args.lit) c.args.index 0))
    c.self.view_is in
    let stored : IsStored c.args.self.now = subst IsStored c.self.view_is c.self.invariant.0 in
    (block_clause c.self.inside.vars c.self.inside.live.items c.self.inside.watches c.args.self.now id c.entry_block.result.now c.self.view_is stored c.self.invariant.2 read
    (listed_live c.args.self.now c.args.lit c.args.index stored c.requires.inside)).0

pub returns-clause-over : goal.returns-clause-over
returns-clause-over c =
    let id : ℕ = slice_index_or (list_of c.args.self.now.watches c.args.lit) c.args.index 0 in
    let read : c.entry_block.result.now ≡ block_at c.self.inside.watches.arena id =
    c.entry_block.ensures ∙ ap (λ (s : Stored).
    block_at c.self.inside.watches.arena (slice_index_or (list_of s.watches c.args.lit) c.args.index 0))
    c.self.view_is in
    let stored : IsStored c.args.self.now = subst IsStored c.self.view_is c.self.invariant.0 in
    (block_clause c.self.inside.vars c.self.inside.live.items c.self.inside.watches c.args.self.now id c.entry_block.result.now c.self.view_is stored c.self.invariant.2 read
    (listed_live c.args.self.now c.args.lit c.args.index stored c.requires.inside)).1
