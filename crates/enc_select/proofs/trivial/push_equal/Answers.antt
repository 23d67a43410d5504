use Rattle.clause_core.specs.declared.raw.RawLit.TheVariants.{Var}
use Rattle.clause_core.specs.Clauses.{IsWithin}
use Rattle.std.proofs.Common.{◌≡◌, append_assoc, ap}
use Rattle.sat_theory.specs.Formula.{Formula}
use Rattle.enc_base.specs.RoomLaws.{within_first}
use Rattle.clause_core.specs.WithinLaws.{four, three}
use Rattle.enc_theory.specs.Select.{equal_choice}
use Rattle.enc_select.proofs.trivial.push_equal.Goals as goal

pub push-requires : goal.push-requires
push-requires c =
    let vars = c.args.list.now.vars in
    let room = c.requires.room in
    four (IsWithin vars) c.choice-first.result c.choice-second.result (Var c.f_var.result _) (Var c.f_var-2.result _)
    (c.choice-first.ensures.within vars room)
    (c.choice-second.ensures.within vars room)
    (within_first c.args.z vars c.f_var.result _ room.room c.f_var.ensures.within)
    (within_first c.args.z vars c.f_var-2.result _ room.room c.f_var-2.ensures.within)

pub push-requires-2 : goal.push-requires-2
push-requires-2 c =
    let vars = c.args.list.now.vars in
    let room = c.requires.room in
    three (IsWithin vars) c.choice-first.result c.choice-second.result (Var c.f_var.result _)
    (c.choice-first.ensures.within vars room)
    (c.choice-second.ensures.within vars room)
    (within_first c.args.z vars c.f_var.result _ room.room c.f_var.ensures.within)

pub push-requires-3 : goal.push-requires-3
push-requires-3 c =
    let vars = c.args.list.now.vars in
    let room = c.requires.room in
    let same : c.push-2.new.self.vars ≡ c.args.list.now.vars = ap (λ (f : Formula). f.vars) c.in_ok-push.ensures.written in
    rw same (three (IsWithin vars) c.choice-first.result c.choice-second.result (Var c.f_var-2.result _)
    (c.choice-first.ensures.within vars room)
    (c.choice-second.ensures.within vars room)
    (within_first c.args.z vars c.f_var-2.result _ room.room c.f_var-2.ensures.within))

pub returns-then-not-constants : goal.returns-then-not-constants
unfolding equal_choice
returns-then-not-constants c =
    rw c.if-not-constants.true
    (rw (c.choice-first.ensures.value, c.choice-second.ensures.value, c.f_var.ensures.value, c.f_var-2.ensures.value) at c.push.ensures.written)

pub returns : goal.returns
unfolding equal_choice
returns c =
    rw c.if-not-constants.false
    (rw (c.in_ok-push.ensures.written, c.choice-first.ensures.value, c.choice-second.ensures.value, c.f_var.ensures.value, c.f_var-2.ensures.value, append_assoc) at c.push-3.ensures.written)
