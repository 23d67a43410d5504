use Rattle.std.proofs.Common.{◌≡◌, ℕ, ◌↔◌, ◌∷◌, IsSome, List, true, false, sym, subst, arith}
use Rattle.std.proofs.lemmas.Grind.{common_steps}
use Rattle.sat_theory.specs.Plain.{live_in}
use Rattle.sat_theory.specs.State.{is_listed}
use Rattle.sat_theory.specs.Holding.{DeletionHolds}
use Rattle.sat_theory.proofs.Listed.{deletion_more, deletion_again}
use Rattle.sat_theory.proofs.plain.are_live.Goals as goal

-- the id occurs again
pub returns-then-is_listed : goal.returns-then-is_listed
returns-then-is_listed c =
    let live = live_in c.args.clauses.now in
    let again : is_listed c.in-Some.more.now c.in-Some.id.now ≡ true = sym c.if-is_listed.ensures in (
      λ no_. absurd (cc),
      λ holds. absurd (deletion_again live c.in-Some.id.now c.in-Some.more.now again
          (subst (λ (ids : List ℕ). DeletionHolds live ids) c.in-Some.ensures.cases.0 (c.loop-id.invariant.1 holds))),
    )

-- the id is live and doesn't occur again, and the others decide
pub loop-id-preserved : goal.loop-id-preserved
loop-id-preserved c =
    let live = live_in c.args.clauses.now in
    let new : is_listed c.in-Some.more.now c.in-Some.id.now ≡ false = sym c.if-is_listed.ensures in
    let there : IsSome (live_in c.args.clauses.now c.in-Some.id.now) = grind (arith, common_steps) in
    let same : DeletionHolds live (c.in-Some.id.now ∷ c.in-Some.more.now) ↔ DeletionHolds live c.in-Some.more.now = deletion_more live c.in-Some.id.now c.in-Some.more.now there new in (
      λ rest. c.loop-id.invariant.0 (subst (λ (ids : List ℕ). DeletionHolds live ids) (sym c.in-Some.ensures.cases.0)
          (same.1 rest)),
      λ holds. same.0 (subst (λ (ids : List ℕ). DeletionHolds live ids) c.in-Some.ensures.cases.0
          (c.loop-id.invariant.1 holds)),
    )
