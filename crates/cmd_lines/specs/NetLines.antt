-- The statuses and error lines of faults of netlists.
use Rattle.std.specs.Prelude.{ℕ, List, [], ◌∷◌, codes}
use Rattle.net_core.specs.declared.error.NetError.{NetError}
use Rattle.net_core.specs.declared.error.NetError.TheVariants as nets
use Rattle.frame_core.specs.declared.status.Status.{Status}
use Rattle.frame_core.specs.declared.status.Status.TheVariants.{Malformed, Limit, Memory}
use Rattle.frame_core.specs.Reported.{Field, Word, Number, at, memory}

-- Faults of form have the status `Malformed`, and what exceeds a limit has the status `Limit`.
abbrev pub net_status : NetError → Status
net_status (nets.Syntax line) = Malformed
net_status (nets.NotSupported line name) = Malformed
net_status (nets.MixedCover line) = Malformed
net_status (nets.TooWide line) = Limit
net_status (nets.TooManyGates count) = Limit
net_status (nets.DrivenTwice name) = Malformed
net_status (nets.Undriven name) = Malformed
net_status (nets.Cycle name) = Malformed
net_status (nets.LineTooLong line) = Limit
net_status (nets.TooManyRows line) = Limit
net_status (nets.NameTooLong line) = Limit
net_status nets.Memory = Memory

-- a variant with a name from the netlist, and one with a line and a name
abbrev pub of_name : List ℕ → List ℕ → List Field
of_name variant name = Word variant ∷ Word name ∷ []

abbrev pub at_name : List ℕ → ℕ → List ℕ → List Field
at_name variant line name = Word variant ∷ Number line ∷ Word name ∷ []

-- the name of a fault, and its line, count or name if it has one
unfoldable pub named_net : NetError → List Field
named_net (nets.Syntax line) = at (codes "Syntax") line
named_net (nets.NotSupported line name) = at_name (codes "NotSupported") line name
named_net (nets.MixedCover line) = at (codes "MixedCover") line
named_net (nets.TooWide line) = at (codes "TooWide") line
named_net (nets.TooManyGates count) = at (codes "TooManyGates") count
named_net (nets.DrivenTwice name) = of_name (codes "DrivenTwice") name
named_net (nets.Undriven name) = of_name (codes "Undriven") name
named_net (nets.Cycle name) = of_name (codes "Cycle") name
named_net (nets.LineTooLong line) = at (codes "LineTooLong") line
named_net (nets.TooManyRows line) = at (codes "TooManyRows") line
named_net (nets.NameTooLong line) = at (codes "NameTooLong") line
named_net nets.Memory = memory
