use Rattle.std.proofs.Common.{◌≡◌, ℕ, ◌+◌, ◌++◌, [], ◌∷◌, length, length-append, ap, ◌∙◌, arith, rules, List, ℤ, Option}
use Rattle.sat_theory.specs.State.{with_clause}
use Rattle.lrat_check.specs.Live.{live_at}
use Rattle.lrat_check.proofs.Loaded.{IsLast, is_last, live_after, live_after-next}
use Rattle.lrat_check.proofs.clauses.Clauses.of.Goals as goal

-- the last of the clauses that are left goes in
pub loop-clause-preserved : goal.loop-clause-preserved
loop-clause-preserved c =
    let list : List (List ℤ) = c.args.list.items in
    let new : List (List ℤ) = c.pop.new.self.items in
    let clause : List ℤ = c.in-Some.clause in
    let popped : c.loop-clause.left.items ≡ new ++ clause ∷ [] = c.in-Some.ensures.items in
    let last : IsLast list new clause = is_last list c.loop-clause.left.items new clause c.loop-clause.invariant.prefix popped in
    let long : length c.loop-clause.left.items ≡ length new + 1 = ap length popped ∙ length-append new (clause ∷ []) in
    let id : c.len-in-Some.result ≡ length new = search rules in
    record {
      shorter = omega (arith, last.within);
      prefix = last.prefix;
      after = c.in_ok-insert.ensures.ok
          ∙ ap (λ (n : ℕ). with_clause (live_at c.loop-clause.clauses) (n + 1) clause) id
          ∙ ap (λ (f : ℕ → Option (List ℤ)). with_clause f (length new + 1) clause) (c.loop-clause.invariant.after ∙ ap (λ (n : ℕ). live_after n list) long)
          ∙ live_after-next (length new) list clause last.at;
    }
