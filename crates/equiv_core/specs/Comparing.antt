-- The answers to two circuits, by cases.
use Rattle.std.specs.Prelude.{ℕ, Bool, List}
use Rattle.sat_theory.specs.Line as theory
use Rattle.equiv_core.specs.declared.answer.EquivResult.{EquivResult}
use Rattle.equiv_core.specs.declared.answer.EquivResult.TheVariants.{Equal, Differ, Undecided}

-- a property of the lines of the log
abbrev pub IfEqual : EquivResult → (List theory.Line → Type 0) → Type 0
IfEqual (Equal log) P = P log
IfEqual (Differ sink at) P = Unit {0}
IfEqual (Undecided log) P = Unit {0}

-- a property of the sink, counted from 1, and the values of the sources
abbrev pub IfDiffer : EquivResult → (ℕ → List Bool → Type 0) → Type 0
IfDiffer (Equal log) P = Unit {0}
IfDiffer (Differ sink at) P = P sink at
IfDiffer (Undecided log) P = Unit {0}

abbrev pub IfUndecided : EquivResult → (List theory.Line → Type 0) → Type 0
IfUndecided (Equal log) P = Unit {0}
IfUndecided (Differ sink at) P = Unit {0}
IfUndecided (Undecided log) P = P log

-- a property of the lines of either log
abbrev pub IfLogged : EquivResult → (List theory.Line → Type 0) → Type 0
IfLogged (Equal log) P = P log
IfLogged (Differ sink at) P = Unit {0}
IfLogged (Undecided log) P = P log

abbrev pub IsDecided : EquivResult → Type 0
IsDecided (Equal log) = Unit {0}
IsDecided (Differ sink at) = Unit {0}
IsDecided (Undecided log) = ⊥
