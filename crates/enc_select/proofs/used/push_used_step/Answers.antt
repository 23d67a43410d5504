use Rattle.std.proofs.Common.{◌≡◌, ◌++◌, map, arith}
use Rattle.std.proofs.lemmas.Grind.{common_steps}
use Rattle.std.proofs.lemmas.List.Elements.{All-same, All-append}
use Rattle.std.specs.List.{flat_map}
use Rattle.clause_core.specs.Clauses.{IsWithin}
use Rattle.enc_theory.specs.Numbering.{outputs}
use Rattle.enc_theory.specs.Cuts.{drives}
use Rattle.enc_theory.specs.Select.{above, choosers}
use Rattle.enc_cuts.specs.LiteralLaws.{drivers_within}
use Rattle.enc_select.proofs.Within.{choosers_within}
use Rattle.enc_select.proofs.used.push_used_step.Goals as goal

pub push-requires : goal.push-requires
push-requires c =
    let z = c.args.z in
    let vars = c.args.list.now.vars in
    let i = c.args.i in
    let room = c.requires.room in
    let is : c.deref.result.now ≡ map (drives z i) (outputs z) ++ flat_map (choosers z i) (above z i) = grind (arith, common_steps) in
    All-same (IsWithin vars) c.deref.result.now (map (drives z i) (outputs z) ++ flat_map (choosers z i) (above z i)) is
    (All-append (IsWithin vars) (map (drives z i) (outputs z)) (flat_map (choosers z i) (above z i))
    (drivers_within z vars i room.room c.requires.place)
    (choosers_within z vars i room c.requires.place))
