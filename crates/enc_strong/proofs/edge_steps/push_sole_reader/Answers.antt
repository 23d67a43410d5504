use Rattle.std.proofs.Common.{◌≡◌, ◌∷◌, false, arith}
use Rattle.std.proofs.lemmas.Grind.{common_steps}
use Rattle.std.proofs.lemmas.List.Elements.{All-same, All-cons}
use Rattle.clause_core.specs.declared.raw.RawLit.TheVariants.{Var}
use Rattle.clause_core.specs.Clauses.{IsWithin}
use Rattle.clause_core.specs.WithinLaws.{within_var}
use Rattle.enc_strong.proofs.edge_steps.push_sole_reader.Goals as goal

pub push-requires : goal.push-requires
push-requires c =
    let vars = c.args.list.now.vars in
    let has = c.requires.slot in
    let is : c.deref.result.now ≡ Var c.args.slot.var false ∷ c.args.rest.now = grind (arith, common_steps) in
    All-same (IsWithin vars) c.deref.result.now (Var c.args.slot.var false ∷ c.args.rest.now) is
    (All-cons (IsWithin vars) (Var c.args.slot.var false) c.args.rest.now (within_var vars c.args.slot.var false has.from has.within) c.requires.rest)
