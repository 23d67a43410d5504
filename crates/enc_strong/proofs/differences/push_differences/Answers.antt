use Rattle.std.proofs.Common.{◌≡◌, ℕ, ◌+◌, ◌*◌, ◌≤◌, List, ◌∷◌, All, length, refl, sym, ap, subst, ◌∙◌, arith}
use Rattle.sat_theory.specs.Formula.{Formula}
use Rattle.enc_base.specs.Room.{HasRoom, HasSlots}
use Rattle.strong_theory.specs.declared.data.Edge.{Edge}
use Rattle.enc_strong.specs.Room.{HasRows}
use Rattle.clause_core.specs.ListLaws.{all_first, all_rest}
use Rattle.enc_strong.proofs.Walks.{walked}
use Rattle.enc_strong.proofs.differences.push_differences.Goals as goal

pub push_edge_steps-requires-clause-edge : goal.push_edge_steps-requires-clause-edge
push_edge_steps-requires-clause-edge c =
    let left = c.loop-edge.left.now in
    let edge = c.in-Some.edge.now in
    let rest = c.in-Some.rest.now in
    let split = c.in-Some.ensures.cases.0 in
    let rows = all_first (HasRows c.args.z) left rest edge split c.loop-edge.invariant.rows in
    let own : c.loop-edge.next + length (edge ∷ rest) * c.args.z.r ≤ c.loop-edge.list.vars =
    subst (λ (xs : List Edge). c.loop-edge.next + length xs * c.args.z.r ≤ c.loop-edge.list.vars) split c.loop-edge.invariant.few in
    record { low = rows.low; high = rows.high; within = omega (arith, own) }

pub loop-edge-preserved : goal.loop-edge-preserved
loop-edge-preserved c =
    let z = c.args.z in
    let steps = c.args.steps.now in
    let old = c.loop-edge.list in
    let new = c.push_edge_steps.new.list in
    let left = c.loop-edge.left.now in
    let edge = c.in-Some.edge.now in
    let rest = c.in-Some.rest.now in
    let is = c.in_ok-push_edge_steps.ensures in
    let split = c.in-Some.ensures.cases.0 in
    let kept : new.vars ≡ old.vars = ap (λ (f : Formula). f.vars) is in
    let own : c.loop-edge.next + length (edge ∷ rest) * z.r ≤ old.vars =
    subst (λ (xs : List Edge). c.loop-edge.next + length xs * z.r ≤ old.vars) split c.loop-edge.invariant.few in
    record {
      vars = kept ∙ c.loop-edge.invariant.vars;
      clauses = walked z steps c.loop-edge.next _ old.clauses new.clauses _ left rest edge (ap (λ (f : Formula). f.clauses) is) split refl c.loop-edge.invariant.clauses;
      room = subst (λ (v : ℕ). HasRoom z v) (sym kept) c.loop-edge.invariant.room;
      slots = subst (λ (v : ℕ). All (HasSlots z v) steps) (sym kept) c.loop-edge.invariant.slots;
      rows = all_rest (HasRows z) left rest edge split c.loop-edge.invariant.rows;
      few = omega (arith, own, kept);
    }
