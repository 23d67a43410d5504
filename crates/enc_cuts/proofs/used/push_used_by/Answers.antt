use Rattle.std.proofs.Common.{◌≡◌, ◌++◌, map, arith}
use Rattle.std.proofs.lemmas.Grind.{common_steps}
use Rattle.std.proofs.lemmas.List.Elements.{All-same, All-append}
use Rattle.clause_core.specs.Clauses.{IsWithin}
use Rattle.std.specs.List.{flat_map}
use Rattle.enc_theory.specs.Numbering.{outputs}
use Rattle.enc_theory.specs.Cuts.{drives, readers}
use Rattle.enc_cuts.specs.LiteralLaws.{drivers_within, all_readers_within}
use Rattle.enc_cuts.proofs.used.push_used_by.Goals as goal

pub push-requires : goal.push-requires
push-requires c =
    let z = c.args.z in
    let vars = c.args.list.now.vars in
    let place = c.args.step.now.place in
    let later = c.args.later.now in
    let is : c.deref.result.now ≡ map (drives z place) (outputs z) ++ flat_map (readers place) later = grind (arith, common_steps) in
    All-same (IsWithin vars) c.deref.result.now (map (drives z place) (outputs z) ++ flat_map (readers place) later) is
    (All-append (IsWithin vars) (map (drives z place) (outputs z)) (flat_map (readers place) later)
    (drivers_within z vars place c.requires.room c.requires.step.place)
    (all_readers_within z vars place later c.requires.later))
