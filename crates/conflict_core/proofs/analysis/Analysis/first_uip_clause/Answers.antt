use Rattle.std.proofs.Common.{◌≡◌, ◌∙◌, ◌∷◌, ap, subst, sym, slice_index_or, reverse, length, All, List, ℕ, ℤ, ◌≤◌, ◌<◌}
use Rattle.std.specs.List.Sorted.{IsPermutation}
use Rattle.std.proofs.lemmas.List.Elements.{All-take}
use Rattle.std.proofs.lemmas.List.Sorted.{All-permutation, length_permutation}
use Rattle.sat_theory.specs.Formula.{variable, opposite, IsWithin}
use Rattle.cdcl_theory.specs.Trails.{falsified_at}
use Rattle.clause_db.specs.Stored.{live_in}
use Rattle.conflict_core.specs.Markings.{HasFalsifiedAt}
use Rattle.conflict_core.proofs.Conflicts.{conflict_in_level, alone_left, alone_less, resolution_learnt}
use Rattle.conflict_core.proofs.Raising.{falsified_permuted, others_permuted, fronted_all, fronted_falsified, fronted_others, fronted_head}
use Rattle.conflict_core.proofs.analysis.Analysis.first_uip_clause.Goals as goal

pub resolve_to_uip-requires-clause-some : goal.resolve_to_uip-requires-clause-some
resolve_to_uip-requires-clause-some c = conflict_in_level (live_in c.args.clauses.now) c.args.trail.now c.args.start
    c.args.conflict c.begin.new.self.marks c.requires.conflict.explained.whole c.requires.conflict.level
    c.requires.conflict.closed c.requires.conflict.is_falsified c.in_ok-begin.ensures.marked

pub returns-clause-learnt : goal.returns-clause-learnt
returns-clause-learnt c =
    let first = c.in_ok-first.first in
    let t = c.args.trail.now in
    let positions = falsified_at t in
    let reduced = c.resolve_to_uip.new.self in
    let minimised = c.minimise.new.self.resolution in
    let resolution = c.minimise_with_binaries.new.self in
    let marked_count = c.in_ok-minimise_with_binaries.ensures.resolution t c.requires.conflict.explained.whole c.in_ok-minimise.ensures.resolution in
    let back = c.last_falsified-back.result in
    let old = c.gather_others.new.others.items in
    let fronted = c.move_to_front.new.lits.items in
    let lower = c.put_older_half_first.new.lits.items in
    let order : IsPermutation fronted lower = c.put_older_half_first.ensures.order in
    let at : opposite (slice_index_or t.lits c.in_ok-top.top first) ≡ first = c.in_ok-first.ensures.first first in
    let low : All (λ m. positions m ≤ back) old = subst (λ (xs : List ℤ). All (λ m. positions m ≤ back) xs) c.deref.ensures.value c.last_falsified-back.ensures.all in
    let there : 0 < back → HasFalsifiedAt positions old back = subst (λ (xs : List ℤ). 0 < back → HasFalsifiedAt positions xs back) c.deref.ensures.value c.last_falsified-back.ensures.there in
    let others = fronted_others positions t.vars back resolution.marks first old fronted c.move_to_front.ensures c.in_ok-first.ensures.others in
    let falsified_all = λ (k : ℕ) (e : ℤ) (within : k < length fronted). (marked_count.resolvent.below (slice_index_or fronted k e) (others.inside k e within).0).0 in
    let alone = alone_less t c.args.start reduced.marks minimised.marks first
    (alone_left (live_in c.args.clauses.now) t c.args.start c.in_ok-top.top first reduced.marks reduced.touched.items
    reduced.hints.items c.requires.conflict.explained.whole at c.in_ok-top.ensures.resolution
    c.in_ok-top.ensures.last c.in_ok-top.ensures.alone)
    c.in_ok-minimise.ensures.below in
    resolution_learnt (live_in c.args.clauses.now) t c.args.start c.in_ok-top.top back first resolution.marks
    resolution.touched.items lower c.in_ok-lits.lits.items resolution.hints.items c.in_ok-hints.hints.items
    c.requires.conflict.explained.whole c.in_ok-top.ensures.last.after c.in_ok-top.ensures.last.before at
    c.in_ok-first.ensures.over marked_count (λ m is. alone m (c.in_ok-minimise_with_binaries.ensures.fewer m is))
    (others_permuted t.vars resolution.marks first fronted lower order others)
    (All-permutation (λ m. positions m ≤ back) fronted lower order (fronted_all positions back old fronted (λ m. positions m ≤ back) c.move_to_front.ensures low))
    (λ some. falsified_permuted positions fronted lower back order (fronted_falsified positions back old fronted c.move_to_front.ensures (there some)))
    (λ d some. ap positions (c.put_older_half_first.ensures.head d)
    ∙ fronted_head positions back old fronted d c.move_to_front.ensures falsified_all low there
    (subst (λ (n : ℕ). 0 < n) (length_permutation fronted lower order) some))
    (c.in_ok-lits.ensures ∙ ap (λ (xs : List ℤ). first ∷ xs) c.deref-2.ensures.value)
    (c.in_ok-hints.ensures ∙ ap (λ xs. reverse xs) (c.deref-3.ensures.value ∙ ap (λ h. h.items) c.gather_others.ensures.hints))

pub returns-clause-ready : goal.returns-clause-ready
returns-clause-ready c =
    let t = c.args.trail.now in
    let over = (c.in_ok-minimise_with_binaries.ensures.resolution t c.requires.conflict.explained.whole c.in_ok-minimise.ensures.resolution).listed.over in
    let within : IsWithin t.vars c.minimise_with_binaries.new.self.touched.items = λ k d low. (over k d low).1 in
    let left : IsWithin t.vars c.gather_others.new.self.touched.items = subst (λ h. IsWithin t.vars h.items) (sym c.gather_others.ensures.touched) within in
    record {
      clear = c.in_ok-first.ensures.clear;
      touched = subst (λ (xs : List ℤ). IsWithin t.vars xs) (sym c.truncate.ensures.items) (All-take (λ l. variable l ≤ t.vars) _ c.gather_others.new.self.touched.items left);
      verdicts = c.minimise.ensures.room ∙ c.requires.ready.verdicts;
    }

pub put_older_half_first-requires : goal.put_older_half_first-requires
put_older_half_first-requires c =
    let t = c.args.trail.now in
    fronted_all (falsified_at t) c.last_falsified-back.result c.gather_others.new.others.items
    c.move_to_front.new.lits.items (λ m. variable m ≤ t.vars) c.move_to_front.ensures (λ k d low.
    (c.in_ok-first.ensures.others.over k d low).1)
