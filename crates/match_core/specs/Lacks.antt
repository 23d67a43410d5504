-- The first name that one of two netlists lacks.
use Rattle.std.specs.Prelude.{Bool, true, false, List, Option, Some, None}
use Rattle.net_theory.specs.Document.{Name, Document}
use Rattle.net_document.specs.Refusals.{missing}
use Rattle.match_core.specs.declared.lacking.NameKind.{NameKind}
use Rattle.match_core.specs.declared.lacking.NameKind.TheVariants.{Input, Output, Latch}
use Rattle.match_core.specs.declared.lacking.Lack.{Lack}
use Rattle.match_core.specs.Matched.{latch_names}

-- Whether it is the second that lacks the name, and of what.
abbrev pub lacks : Bool → NameKind → Option Name → Option Lack
lacks in_second kind None = None
lacks in_second kind (Some name) = Some (record { in_second = in_second; kind = kind; name = name })

abbrev pub or_else : Option Lack → Option Lack → Option Lack
or_else (Some lack) later = Some lack
or_else None later = later

-- the first of `ones` that isn't among `others`, or else the first of `others` that isn't among `ones`
abbrev pub lack_among : NameKind → List Name → List Name → Option Lack
lack_among kind ones others =
    or_else (lacks true kind (missing others ones)) (lacks false kind (missing ones others))

abbrev pub first_among : List Name → List Name → List Name → List Name → List Name → List Name → Option Lack
first_among inputs outputs latches inputs' outputs' latches' =
    or_else (lack_among Input inputs inputs')
    (or_else (lack_among Output outputs outputs') (lack_among Latch latches latches'))

-- The first name that one of the two lacks: of the inputs, then the outputs, then the latches.
abbrev pub lack_of : Document → Document → Option Lack
lack_of d e = first_among d.inputs d.outputs (latch_names d) e.inputs e.outputs (latch_names e)
