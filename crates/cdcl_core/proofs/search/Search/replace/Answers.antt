use Rattle.std.proofs.Common.{◌≡◌, ◌<◌, ℤ, List, length, subst, sym, ap, ◌∙◌, arith}
use Rattle.sat_theory.specs.Formula.{IsWithin}
use Rattle.sat_theory.specs.Log.{IsUnsubsumed}
use Rattle.clause_db.specs.Stored.{live_in, added}
use Rattle.subsume_core.specs.Units.{IsUnitsOf}
use Rattle.subsume_core.specs.UnitLaws.{within_contained}
use Rattle.std.specs.Vec.{vec_len}
use Rattle.cdcl_core.proofs.Replacing.{positive, strengthening_replaced}
use Rattle.cdcl_core.proofs.search.Search.replace.Goals as goal

pub is_unsubsumed-requires-clause-within : goal.is_unsubsumed-requires-clause-within
is_unsubsumed-requires-clause-within c = subst (λ (xs : List ℤ). IsWithin c.args.self.now.clauses.vars xs)
    (sym c.deref.ensures.value) (within_contained c.args.self.now.clauses.vars c.arranged.result.now
    c.keep_others.new.kept.items c.in_ok-keep_others.ensures.inside c.arranged.ensures.over)

pub add_shorter-requires-clause-within : goal.add_shorter-requires-clause-within
add_shorter-requires-clause-within c = subst (λ (xs : List ℤ). IsWithin c.args.self.now.clauses.vars xs)
    (sym c.deref-3.ensures.value) (within_contained c.args.self.now.clauses.vars c.arranged.result.now
    c.keep_others.new.kept.items c.in_ok-keep_others.ensures.inside c.arranged.ensures.over)

pub add_shorter-requires-clause-new : goal.add_shorter-requires-clause-new
add_shorter-requires-clause-new c =
    let new : IsUnsubsumed (live_in c.args.self.now.clauses) c.deref.result.now = c.is_unsubsumed.ensures c.if-not-is_unsubsumed.false in
    subst (λ (xs : List ℤ). IsUnsubsumed (live_in c.args.self.now.clauses) xs) (c.deref.ensures.value ∙ sym c.deref-3.ensures.value) new

pub returns-clause-strengthening : goal.returns-clause-strengthening
returns-clause-strengthening c =
    let s = c.args.self.now in
    let kept : List ℤ = c.keep_others.new.kept.items in
    let long : 0 < vec_len c.keep_others.new.kept = positive (vec_len c.keep_others.new.kept) (sym c.is_empty.ensures ∙ c.if-is_empty.false) in
    let some : 0 < length kept = subst (λ (xs : List ℤ). 0 < length xs) c.deref-3.ensures.value (omega (arith, long, c.deref-3.ensures.len)) in
    let clauses : c.add_shorter.new.self.clauses ≡ added s.clauses kept = c.in_ok-add_shorter.ensures.clauses ∙ ap (λ (xs : List ℤ). added s.clauses xs) c.deref-3.ensures.value in
    let within : IsWithin s.clauses.vars c.deref-4.result.now =
    subst (λ (xs : List ℤ). IsWithin s.clauses.vars xs) (sym c.deref-4.ensures.value)
    (within_contained s.clauses.vars c.arranged.result.now kept c.in_ok-keep_others.ensures.inside
    c.arranged.ensures.over) in
    let units : IsUnitsOf (added s.clauses kept) c.note.new.self =
    subst (λ (xs : List ℤ). IsUnitsOf (added s.clauses xs) c.note.new.self) c.deref-4.ensures.value
    (c.note.ensures s.clauses c.requires.strengthening.units within) in
    strengthening_replaced s c.add_shorter.new.self c.remove_subsumed.new.self kept c.args.work.now.units
    c.note.new.self c.requires.strengthening some clauses c.in_ok-add_shorter.ensures.added
    c.remove_subsumed.ensures.unassigned c.remove_subsumed.ensures.aside units
