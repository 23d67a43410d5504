use Rattle.front_at.proofs.Runs.{performed_values}
use Rattle.front_at.proofs.values.ValuesOverText.over.Goals as goal

pub returns : goal.returns
returns g c =
    performed_values c.args.self.now.formats c.args.self.now.bits.now c.args.text.now _ _ _ _ c.perform.ensures
