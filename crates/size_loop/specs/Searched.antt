-- The sections of a search so far.
use Rattle.std.specs.Prelude.{◌≡◌, ◌+◌, ◌≤◌, List, length}
use Rattle.cert_theory.specs.Certificate.{Section, AreSections, first_open}
use Rattle.cert_theory.specs.LiveBounds.{HaveLiveBounds}
use Rattle.size_loop.specs.State.{State}

-- the sections of all sizes below the next one, with the bounds on live additions of their logs
pub record HasSearched (s : State) (sections : List Section) : Type 0 where
  pub are_sections : AreSections s.header 0 sections
  pub next_is : s.next ≡ length sections
  pub next_to : s.next ≤ s.header.max + 1
  pub low_is : s.low ≡ first_open sections
  pub live_bounds : HaveLiveBounds s.header sections
