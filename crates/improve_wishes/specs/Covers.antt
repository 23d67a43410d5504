-- BLIF with the covers that are wished for.
use Rattle.std.specs.Prelude.{◌≡◌, ℕ, List, refl}
use Rattle.net_theory.specs.Document.{Document}
use Rattle.net_theory.specs.Cost.{cost}
use Rattle.net_theory.specs.Circuit.{Circuit}
use Rattle.net_document.specs.Format.{Format, IsCircuitOfText, IsFormat}
use Rattle.blif_core.specs.Written.{written}
use Rattle.blif_core.specs.Spelling.{spelled}
use Rattle.blif_core.specs.Blif.{blif_format, CanWriteBlif}
use Rattle.blif_covers.specs.Least.{least, least_written, least_format}
use Rattle.wish_names.specs.declared.wishes.CoversAsked.{CoversAsked}
use Rattle.wish_names.specs.declared.wishes.CoversAsked.TheVariants.{Rows, Least}

-- each table by its rows with 1, or by those with 0 where these are fewer
abbrev pub covered : CoversAsked → Document → Document
covered Rows d = d
covered Least d = least d

abbrev pub blif_in : CoversAsked → Format
blif_in Rows = blif_format
blif_in Least = least_format

-- ---- the same for both covers

pub text_in : (covers : CoversAsked) (c : Circuit) (text : List ℕ) → text ≡ spelled (covered covers (written c)) →
    text ≡ (blif_in covers).text c
text_in Rows c text is = is
text_in Least c text is = is

pub cost_in : (covers : CoversAsked) (c : Circuit) →
    ((k : Circuit) → CanWriteBlif k → cost (least_written k) ≡ cost (written k)) → CanWriteBlif c →
    cost ((blif_in covers).written c) ≡ cost (blif_format.written c)
cost_in Rows c same can = refl
cost_in Least c same can = same c can

pub format_in : (covers : CoversAsked) → IsFormat blif_format CanWriteBlif → IsFormat least_format CanWriteBlif →
    IsFormat (blif_in covers) CanWriteBlif
format_in Rows rows least = rows
format_in Least rows least = least

-- texts are read in the same way
pub circuit_in : (covers : CoversAsked) (bytes : List ℕ) (c : Circuit) → IsCircuitOfText blif_format bytes c →
    IsCircuitOfText (blif_in covers) bytes c
circuit_in Rows bytes c is = is
circuit_in Least bytes c is =
    record { listed = is.listed; said = is.said; good = is.good; well = is.well; circuit = is.circuit }
