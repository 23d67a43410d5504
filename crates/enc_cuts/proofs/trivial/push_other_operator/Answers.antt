use Rattle.std.proofs.Common.{◌≡◌, refl}
use Rattle.std.proofs.lemmas.List.Elements.{All-same}
use Rattle.clause_core.specs.Clauses.{IsWithin}
use Rattle.enc_theory.specs.Families.{operator_raw}
use Rattle.enc_cuts.specs.LiteralLaws.{operator_within}
use Rattle.enc_cuts.proofs.trivial.push_other_operator.Goals as goal

pub push-requires : goal.push-requires
push-requires c =
    let vars = c.args.list.now.vars in
    let is : c.deref.result.now ≡ operator_raw c.args.z c.args.i c.args.op = rw (c.deref.ensures.value, c.in_ok-push_operator.ensures, c.new-raws.ensures.items) refl in
    All-same (IsWithin vars) c.deref.result.now (operator_raw c.args.z c.args.i c.args.op) is (operator_within c.args.z vars c.args.i c.args.op c.requires.room c.requires.place)
