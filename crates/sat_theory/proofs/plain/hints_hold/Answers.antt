use Rattle.std.proofs.Common.{ap, ◌∙◌, ◌≡◌, List, ℕ, ℤ, ◌∷◌, ◌↔◌, subst, sym, rules, ◌++◌, [], length, ◌<◌, w32}
use mir.Val.{SFits}
use Rattle.std.proofs.Common.{arith}
use Rattle.std.proofs.lemmas.Bool.Decides.{nat_tests}
use Rattle.std.proofs.lemmas.Int.{to_z-of_z}
use Rattle.sat_theory.specs.Formula.{opposite}
use Rattle.sat_theory.specs.Holding.{among, HintsHold}
use Rattle.sat_theory.specs.Plain.{live_in}
use Rattle.sat_theory.specs.HoldingLaws.{among-push}
use Rattle.sat_theory.proofs.Units.{hint_taken}
use Rattle.sat_theory.proofs.plain.hints_hold.Goals as goal

-- the opposite of the one literal outside joins the set, and the other hints decide
pub loop-hint-preserved : goal.loop-hint-preserved
loop-hint-preserved c =
    let live = live_in c.args.clauses.now in
    let before : List ℤ = c.loop-hint.set.items in
    let lit : ℤ = c.in-Some-unit_outside.lit in
    let some : 0 < length c.in-Some.more.now = grind (arith, nat_tests) in
    let fits : SFits w32 c.opposite.result = search rules in
    let lit_fits : SFits w32 lit = search rules in
    let lit_is : c.opposite.result ≡ opposite lit = c.opposite.ensures ∙ ap opposite (to_z-of_z w32 lit lit_fits) in
    let pushed : c.push.new.self.items ≡ before ++ opposite lit ∷ [] =
    subst (λ (x : ℤ). c.push.new.self.items ≡ before ++ x ∷ []) (to_z-of_z w32 c.opposite.result fits
    ∙ lit_is) c.in_ok-push.ensures.items in
    let taken : HintsHold live (among c.push.new.self.items) c.in-Some.more.now ↔ HintsHold live (among before)
    (c.in-Some.hint.now ∷ c.in-Some.more.now) =
    hint_taken live (among before) (among c.push.new.self.items) c.in-Some.hint.now c.in-Some.more.now
    c.in-Some-find.clause.now.lits lit some (search rules) (search rules) (ap among pushed
    ∙ among-push before (opposite lit)) in (
      λ rest. c.loop-hint.invariant.0 (subst (λ (hs : List ℕ). HintsHold live (among before) hs)
          (sym c.in-Some.ensures.cases.0) (taken.0 rest)),
      λ holds.
          taken.1 (subst (λ (hs : List ℕ). HintsHold live (among before) hs) c.in-Some.ensures.cases.0
          (c.loop-hint.invariant.1 holds)),
    )
