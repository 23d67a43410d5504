-- The state of a search.
use Rattle.std.specs.Prelude.{ℕ, ◌+◌, ◌≤◌, Option}
use Rattle.cert_theory.specs.declared.data.Header.{Header}
use Rattle.cert_theory.specs.Certificate.{IsHeader}

-- the header, the next size, and the first open size before it
pub record State : Type 0 where
  pub header : Header
  pub next : ℕ
  pub low : Option ℕ

-- the next size is at most one above the greatest one
pub record IsState (s : State) : Type 0 where
  pub header : IsHeader s.header
  pub next : s.next ≤ s.header.max + 1
