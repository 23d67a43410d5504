use Rattle.std.proofs.Common.{◌≡◌, map, refl, arith}
use Rattle.std.proofs.lemmas.List.Elements.{All-same}
use Rattle.clause_core.specs.RangeLaws.{map-turn_from}
use Rattle.enc_theory.specs.Select.{below, chooses}
use Rattle.clause_core.specs.Clauses.{IsWithin}
use Rattle.enc_select.proofs.Within.{choices_within}
use Rattle.enc_select.proofs.chain.push_choice_exists.Goals as goal

pub loop-j-preserved : goal.loop-j-preserved
unfolding chooses
loop-j-preserved c = rw (c.in_ok-push.ensures.items, c.loop-j.invariant, c.choice.ensures.value, map-turn_from (chooses c.args.z c.args.side c.args.i) 1 c.loop-j.j (omega arith)) refl

pub push-requires-2 : goal.push-requires-2
push-requires-2 c =
    let z = c.args.z in
    let vars = c.args.list.now.vars in
    let end : c.loop-j.j ≡ c.args.i = omega arith in
    let is : c.deref.result.now ≡ map (chooses z c.args.side c.args.i) (below c.args.i) = rw (c.deref.ensures.value, c.loop-j.invariant, end) refl in
    All-same (IsWithin vars) c.deref.result.now (map (chooses z c.args.side c.args.i) (below c.args.i)) is (choices_within z vars c.args.side c.args.i c.requires.room c.requires.place)
