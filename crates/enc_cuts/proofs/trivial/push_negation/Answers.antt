use Rattle.std.proofs.Common.{◌≡◌, ◌++◌, arith}
use Rattle.std.proofs.lemmas.Grind.{common_steps}
use Rattle.std.proofs.lemmas.List.Elements.{All-same, All-append}
use Rattle.clause_core.specs.Clauses.{IsWithin}
use Rattle.std.specs.List.{flat_map}
use Rattle.enc_theory.specs.Families.{operator_raw}
use Rattle.enc_theory.specs.Cuts.{equal_pair}
use Rattle.enc_cuts.specs.Vars.{step_has_vars}
use Rattle.enc_cuts.specs.LiteralLaws.{operator_within, equal_pairs_within}
use Rattle.enc_cuts.proofs.trivial.push_negation.Goals as goal

pub push-requires : goal.push-requires
push-requires c =
    let z = c.args.z in
    let vars = c.args.list.now.vars in
    let step = c.args.step.now in
    let has = c.requires.step in
    let is : c.deref.result.now ≡ operator_raw z step.place c.args.op ++ flat_map equal_pair step.slots = grind (arith, common_steps) in
    All-same (IsWithin vars) c.deref.result.now (operator_raw z step.place c.args.op ++ flat_map equal_pair step.slots) is
    (All-append (IsWithin vars) (operator_raw z step.place c.args.op) (flat_map equal_pair step.slots)
    (operator_within z vars step.place c.args.op c.requires.room has.place)
    (equal_pairs_within vars step (step_has_vars z vars step has)))
