-- The result of one step of the search.
use Rattle.std.specs.Prelude.{ℕ, ◌+◌, if◌then◌else◌, Option, Some, None}
use Rattle.chain_theory.specs.Chain.{Chain}
use Rattle.cert_theory.specs.declared.data.Verdict.{Verdict}
use Rattle.cert_theory.specs.Certificate.{Section, is_open}
use Rattle.size_loop.specs.declared.advancing.Advance.{Advance}
use Rattle.size_loop.specs.declared.advancing.Advance.TheVariants as advances
use Rattle.size_loop.specs.State.{State}

-- the first open size, after one more section
abbrev pub open_with : Option ℕ → Section → Option ℕ
open_with (Some low) section = Some low
open_with None section = if is_open section then Some section.size else None

-- the search after a section of the next size
abbrev pub after_section : State → Section → State
after_section s section = record s { next = s.next + 1; low = open_with s.low section }

-- a property of the section and of the search that goes on after it
abbrev pub IfSection : Advance → (State → Section → Type 0) → Type 0
IfSection (advances.Section rest section) P = P rest section
IfSection (advances.Ended chain verdict) P = Unit {0}

-- a property of the end of the search
abbrev pub IfEnded : Advance → (Option Chain → Verdict → Type 0) → Type 0
IfEnded (advances.Section rest section) P = Unit {0}
IfEnded (advances.Ended chain verdict) P = P chain verdict
