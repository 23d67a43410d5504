use Rattle.std.proofs.Common.{◌≡◌, ◌<◌, ℕ, ℤ, true, List, [], ◌∷◌, ◌++◌, length, All, sym, ap, ◌∙◌, subst, arith}
use Rattle.std.proofs.lemmas.Bool.Decides.{nat_tests}
use Rattle.sat_theory.specs.Formula.{opposite}
use Rattle.sat_theory.specs.Holding.{among, with_literal, IsUnitOutside, HintsHold}
use Rattle.sat_theory.specs.HoldingLaws.{among-push}
use Rattle.clause_db.specs.Stored.{live_in}
use Rattle.clause_db.specs.Members.{AreMembersOf, members_read, all_of_members, unit_of_members}
use Rattle.subsume_core.proofs.Chains.{hint_ends, hint_goes}
use Rattle.subsume_core.proofs.holding.hold_from.Goals as goal

-- the last hint's clause is inside the set
pub returns-then-is_empty : goal.returns-then-is_empty
returns-then-is_empty c =
    let live = live_in c.args.clauses.now in
    let set : List ℤ = c.loop-hint.set.items in
    let lits : List ℤ = c.arranged-lits.result.now in
    let row : AreMembersOf live c.in-Some.hint.now lits = members_read live c.in-Some.hint.now lits (c.live.ensures.0 c.if-not-live.false) c.arranged-lits.ensures.same in
    let none : length c.in-Some.more.now ≡ 0 = grind (arith, nat_tests) in
    λ yes_.
    let inside : All (λ l. among set l ≡ true) lits = subst (λ (xs : List ℤ). All (λ l. among xs l ≡ true) lits) c.deref.ensures.value (c.all_among.ensures.0 yes_) in
    c.loop-hint.invariant (subst (λ (hs : List ℕ). HintsHold live (among set) hs) (sym c.in-Some.ensures.cases.0)
    (hint_ends live (among set) c.in-Some.hint.now c.in-Some.more.now row.clause none row.is_live
    (all_of_members (λ l. among set l ≡ true) lits row.clause row.same inside)))

-- the opposite of the one literal outside joins the set, and the other hints decide
pub loop-hint-preserved : goal.loop-hint-preserved
loop-hint-preserved c =
    let live = live_in c.args.clauses.now in
    let set : List ℤ = c.loop-hint.set.items in
    let lits : List ℤ = c.arranged-lits.result.now in
    let row : AreMembersOf live c.in-Some.hint.now lits = members_read live c.in-Some.hint.now lits (c.live.ensures.0 c.if-not-live.false) c.arranged-lits.ensures.same in
    let lit : ℤ = c.in-Some-unit_outside.lit in
    let some : 0 < length c.in-Some.more.now = grind (arith, nat_tests) in
    let unit : IsUnitOutside (among set) lits lit = subst (λ (xs : List ℤ). IsUnitOutside (among xs) lits lit) c.deref-in-Some.ensures.value c.in-Some-unit_outside.ensures in
    let pushed : c.push.new.self.items ≡ set ++ opposite lit ∷ [] = c.in_ok-push.ensures.items ∙ ap (λ (l : ℤ). set ++ l ∷ []) c.opposite.ensures.value in
    let grows : among c.push.new.self.items ≡ with_literal (among set) (opposite lit) = ap among pushed ∙ among-push set (opposite lit) in
    λ rest. c.loop-hint.invariant (subst (λ (hs : List ℕ). HintsHold live (among set) hs)
    (sym c.in-Some.ensures.cases.0) (hint_goes live (among set) (among c.push.new.self.items) c.in-Some.hint.now
    c.in-Some.more.now row.clause lit some row.is_live
    (unit_of_members (among set) lits row.clause lit row.same unit) grows rest))
