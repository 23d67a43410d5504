use Rattle.std.proofs.Common.{◌≡◌, arith}
use Rattle.std.proofs.lemmas.Grind.{common_steps}
use Rattle.std.proofs.lemmas.List.Elements.{All-same}
use Rattle.enc_theory.specs.Cuts.{reading}
use Rattle.enc_cuts.specs.Vars.{HasVar}
use Rattle.enc_cuts.specs.LiteralLaws.{reading_have}
use Rattle.enc_cuts.proofs.no_reapplication.push_no_reapplication_later.Goals as goal

pub push_no_reapplication_slots-requires-clause-reading : goal.push_no_reapplication_slots-requires-clause-reading
push_no_reapplication_slots-requires-clause-reading c =
    let vars = c.args.list.now.vars in
    let place = c.args.step.now.place in
    let slots = c.args.later.now.slots in
    let is : c.deref.result.now ≡ reading place slots = grind (arith, common_steps) in
    All-same (HasVar vars) c.deref.result.now (reading place slots) is (reading_have vars place slots c.requires.later.each)
