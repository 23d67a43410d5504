-- What is told of a comparison, as contracts see it.
use Rattle.std.specs.Prelude.{ℕ, List, Option, Vec}
use Rattle.std.specs.Global.{Global}
use Rattle.std.specs.Option.{option_map}
use Rattle.equiv_values.specs.declared.comparing.ComparedNamed.{ComparedNamed}

abbrev pub told_in : Option (Vec ℕ Global) → Option (List ℕ)
told_in told = option_map (λ (text : Vec ℕ Global). text.items) told

abbrev pub told_text : ComparedNamed → Option (List ℕ)
told_text c = told_in c.told
