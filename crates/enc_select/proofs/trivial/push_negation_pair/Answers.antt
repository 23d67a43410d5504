use Rattle.std.proofs.Common.{◌≡◌, ◌++◌, append_assoc, refl}
use Rattle.std.proofs.lemmas.List.Elements.{All-same, All-append}
use Rattle.clause_core.specs.Clauses.{IsWithin}
use Rattle.enc_theory.specs.Families.{operator_raw}
use Rattle.enc_theory.specs.Select.{not_these}
use Rattle.enc_cuts.specs.LiteralLaws.{operator_within}
use Rattle.enc_select.proofs.Within.{these_within}
use Rattle.enc_select.proofs.trivial.push_negation_pair.Goals as goal

pub push-requires-3 : goal.push-requires-3
push-requires-3 c =
    let z = c.args.z in
    let vars = c.args.list.now.vars in
    let i = c.args.i in
    let j = c.args.j in
    let k = c.args.k in
    let room = c.requires.room in
    let place = c.requires.place in
    let is : c.deref.result.now ≡ operator_raw z i c.args.op ++ not_these z i j k =
    rw (
      c.deref.ensures.value,
      c.in_ok-push-2.ensures.items,
      c.in_ok-push.ensures.items,
      c.in_ok-push_operator.ensures,
      c.new-raws.ensures.items,
      c.choice.ensures.value,
      c.choice-2.ensures.value,
      append_assoc,
    ) refl in
    All-same (IsWithin vars) c.deref.result.now (operator_raw z i c.args.op ++ not_these z i j k) is
    (All-append (IsWithin vars) (operator_raw z i c.args.op) (not_these z i j k)
    (operator_within z vars i c.args.op room.room place)
    (these_within z vars i j k room place c.requires.first.0 c.requires.first.1 c.requires.second.0 c.requires.second.1))
