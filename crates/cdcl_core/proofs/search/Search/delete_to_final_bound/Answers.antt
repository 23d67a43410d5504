use Rattle.std.proofs.Common.{◌≡◌, ◌∙◌, ℕ, ◌+◌, ◌-◌, ◌<◌, ◌≤◌, Some, None, length, ap, arith}
use Rattle.std.proofs.lemmas.List.{length-set}
use Rattle.clause_db.specs.Stored.{live_in}
use Rattle.clause_db.specs.StoredLaws.{live_inside}
use Rattle.clause_db.specs.DeletingLaws.{still_live}
use Rattle.cdcl_core.specs.declared.search.Search.{Search}
use Rattle.cdcl_core.specs.Reduction.{HasDeletedOne}
use Rattle.cdcl_core.proofs.Writing.{thin_at_end}
use Rattle.cdcl_core.proofs.search.Search.delete_to_final_bound.Goals as goal

pub loop-index-preserved : goal.loop-index-preserved
loop-index-preserved c =
    let s : Search = c.loop-index.self in
    let n : ℕ = c.loop-index.index in
    let lost : HasDeletedOne (n + 1) s c.delete_one.new.self = c.in_ok-delete_one.ensures.lost in
    let given : c.delete_one.new.self.given ≡ s.given = ap (λ (x : Search). x.given) lost.rest in
    let some : 0 < n + 1 = omega arith in
    record {
      stored = c.in_ok-delete_one.ensures.stored;
      lines = ap (λ (x : Search). x.lines) lost.rest ∙ c.loop-index.invariant.lines;
      given = given ∙ c.loop-index.invariant.given;
      least = ap (λ (x : Search). x.least) lost.rest ∙ c.loop-index.invariant.least;
      long = ap length lost.deleted.clauses ∙ length-set s.clauses.clauses (n + 1 - 1) None ∙ c.loop-index.invariant.long;
      pending = λ f pending. c.in_ok-delete_one.ensures.pending f (c.loop-index.invariant.pending f pending);
      dead = λ k clause low high live.
          let before : (live_in s.clauses k ≡ Some clause) × (k ≡ n + 1 → ⊥) = still_live (n + 1) s.clauses c.delete_one.new.self.clauses k clause lost.deleted some live in
          let apart : k ≡ n + 1 → ⊥ = before.1 in
          c.loop-index.invariant.dead k clause (omega (arith, low, given)) (omega (arith, high, apart)) before.0;
    }

pub returns-clause-meet_final_bound : goal.returns-clause-meet_final_bound
returns-clause-meet_final_bound c = λ f pending. thin_at_end f c.loop-index.self c.loop-index.gone.items (c.loop-index.invariant.pending f pending) (λ id clause low live.
    let inside : (0 < id) × (id ≤ length c.loop-index.self.clauses.clauses) = live_inside c.loop-index.self.clauses id clause live in
    let high : id ≤ length c.loop-index.self.clauses.clauses = inside.1 in
    c.loop-index.invariant.dead id clause low (omega (arith, high, c.loop-index.invariant.long, c.last-index-end.ensures.value, c.loop-index-test.false)) live)
