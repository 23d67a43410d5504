-- The program's words of `equiv`, as contracts see them.
use Rattle.std.specs.Prelude.{map}
use Rattle.std.specs.Option.{option_map}
use Rattle.std.specs.String.{string_bytes}
use Rattle.front_formula.specs.declared.picking.MiterWords.{MiterWords}
use Rattle.front_formula.specs.MiterAsked.{Picked}

abbrev pub picked_value : MiterWords → Picked
picked_value w = record {
  own = map string_bytes w.own.items;
  formula = option_map string_bytes w.formula;
  log = option_map string_bytes w.log;
  good = w.good;
}
