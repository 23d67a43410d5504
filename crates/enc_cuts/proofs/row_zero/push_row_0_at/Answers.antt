use Rattle.std.proofs.Common.{◌≡◌, ◌∷◌, map, arith}
use Rattle.std.proofs.lemmas.Grind.{common_steps}
use Rattle.std.proofs.lemmas.List.Elements.{All-same, All-cons}
use Rattle.clause_core.specs.Clauses.{IsWithin}
use Rattle.enc_theory.specs.Numbering.{outputs}
use Rattle.enc_theory.specs.Cuts.{drives}
use Rattle.enc_cuts.specs.LiteralLaws.{drivers_within}
use Rattle.enc_cuts.proofs.row_zero.push_row_0_at.Goals as goal

pub push-requires : goal.push-requires
push-requires c =
    let z = c.args.z in
    let vars = c.args.list.now.vars in
    let place = c.args.i in
    let is : c.deref.result.now ≡ c.x_is.result ∷ map (drives z place) (outputs z) = grind (arith, common_steps) in
    All-same (IsWithin vars) c.deref.result.now (c.x_is.result ∷ map (drives z place) (outputs z)) is
    (All-cons (IsWithin vars) c.x_is.result (map (drives z place) (outputs z)) (c.x_is.ensures.within vars c.requires.room) (drivers_within z vars place c.requires.room c.requires.place))
