use Rattle.std.proofs.Common.{List, ℤ, ◌<◌, length, All, subst, sym}
use Rattle.cdcl_theory.specs.Codes.{code_of}
use Rattle.conflict_core.specs.Markings.{AreGathered}
use Rattle.conflict_core.proofs.Gathering.{listed_inside, others_taken, clear_taken}
use Rattle.conflict_core.proofs.resolution.Resolution.gather_others.Goals as goal

pub take-requires-clause-inside : goal.take-requires-clause-inside
take-requires-clause-inside c =
    let inside = listed_inside c.args.trail.now.vars c.args.self.now.marks c.unset.new.self c.args.self.now.touched.items c.requires.listed c.unset.ensures.room in
    subst (λ (xs : List ℤ). All (λ l. code_of l < length c.unset.new.self) xs) (sym c.deref.ensures.value) inside

pub returns-clause-others : goal.returns-clause-others
returns-clause-others c =
    let gathered = subst (λ (xs : List ℤ). AreGathered xs c.unset.new.self c.take.new.self c.take.new.gathered.items) c.deref.ensures.value c.in_ok-take.ensures.gathered in
    others_taken c.args.trail.now.vars c.args.self.now.marks c.unset.new.self c.take.new.self
    c.args.self.now.touched.items c.take.new.gathered.items c.opposite-first.result c.requires.listed
    c.unset.ensures.set gathered

pub returns-clause-clear : goal.returns-clause-clear
returns-clause-clear c =
    let gathered = subst (λ (xs : List ℤ). AreGathered xs c.unset.new.self c.take.new.self c.take.new.gathered.items) c.deref.ensures.value c.in_ok-take.ensures.gathered in
    clear_taken c.args.trail.now.vars c.args.self.now.marks c.unset.new.self c.take.new.self
    c.args.self.now.touched.items c.take.new.gathered.items c.opposite-first.result c.requires.listed
    c.unset.ensures.set c.unset.ensures.room gathered c.take.ensures.room
