-- The sources and the number of sinks stay the same, one kind after another.
use Rattle.std.proofs.Common.{◌≡◌, ◌∙◌, refl, subst, sym}
use Rattle.xag_core.specs.Xag.{Xag, HasEnds}

pub ends-itself : (x : Xag) → HasEnds x x
ends-itself x = record { sources = refl; sinks = refl }

-- a copy
pub ends-copy : (x y : Xag) → y ≡ x → HasEnds x y
ends-copy x y e = subst (HasEnds x) (sym e) (ends-itself x)

pub ends-more : (x y z : Xag) → HasEnds x y → HasEnds y z → HasEnds x z
ends-more x y z xy yz = record { sources = yz.sources ∙ xy.sources; sinks = yz.sinks ∙ xy.sinks }

pub ruleset ends = (ends-itself, ends-copy, ends-more)
