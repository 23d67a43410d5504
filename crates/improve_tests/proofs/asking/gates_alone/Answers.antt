use Rattle.settings.specs.declared.improve.ImproveSettings.{ImproveSettings}
use Rattle.settings.specs.Improve.{defaults}
use Rattle.improve_windows.specs.FitsLaws.{all_fit}
use Rattle.improve_tests.proofs.asking.gates_alone.Goals as goal

pub returns-clause-fits : goal.returns-clause-fits
returns-clause-fits c =
    let s : ImproveSettings = record defaults { basis = c.new.result } in
    all_fit s c.new.ensures
