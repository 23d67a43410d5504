-- The parts of a certificate: which sections it has, by its header and its chain, and which formulas and logs.
use Rattle.std.specs.Prelude.{ℕ, zero, suc, ◌+◌, ◌-◌, nat_lt, if◌then◌else◌, List, [], length, Option, Some, None, slice_get}
use Rattle.std.specs.Prelude.{option_and_then}
use Rattle.std.specs.Option.{option_map}
use Rattle.chain_theory.specs.Chain.{Chain}
use Rattle.sat_theory.specs.Formula.{Formula}
use Rattle.sat_theory.specs.Line.{Line}
use Rattle.enc_theory.specs.declared.subproblem.Subproblem.{Subproblem}
use Rattle.cert_theory.specs.declared.data.Header.{Header}
use Rattle.cert_theory.specs.Certificate.{Certificate, Section, SubproblemLog, formula_of, subproblems_of}

-- an element, numbered from 1 on
abbrev pub numbered : {X : Type 0} → ℕ → List X → Option X
numbered zero xs = None
numbered (suc i) xs = slice_get xs i

-- The size that is asked for, where there are sections of the sizes below `count`; if none is named, it is the last.
abbrev pub size_asked : ℕ → Option ℕ → ℕ
size_asked count (Some size) = size
size_asked count None = count - 1

abbrev pub size_in : ℕ → Option ℕ → Option ℕ
size_in count size = if nat_lt (size_asked count size) count then Some (size_asked count size) else None

-- ---- by the certificate

-- a formula, and a log over it
pub record Part : Type 0 where
  pub formula : Formula
  pub log : List Line

abbrev pub log_or_none : Option SubproblemLog → List Line
log_or_none None = []
log_or_none (Some p) = p.log

-- the log of a subproblem: none where the section ends before it, which then says nothing of its formula
abbrev pub log_in : ℕ → Section → List Line
log_in part s = log_or_none (numbered part s.subproblems)

abbrev pub part_by : Header → ℕ → Section → Subproblem → Part
part_by h part s subproblem = record { formula = formula_of h s.size subproblem; log = log_in part s }

abbrev pub part_in : Header → ℕ → Section → Option Part
part_in h part s = option_map (part_by h part s) (numbered part (subproblems_of h s.size))

-- the part of a size
abbrev pub part_of : Certificate → Option ℕ → ℕ → Option Part
part_of b size part = option_and_then (part_in b.header part)
    (slice_get b.sections (size_asked (length b.sections) size))

-- ---- by the header and the chain

-- how many sections there are: one for each size below that of the chain, or for each size that is searched
abbrev pub count_of : Header → Option Chain → ℕ
count_of h None = h.max + 1
count_of h (Some c) = length c.steps

abbrev pub formula_at : Header → ℕ → ℕ → Option Formula
formula_at h part size = option_map (formula_of h size) (numbered part (subproblems_of h size))

abbrev pub formula_in : Header → Option Chain → Option ℕ → ℕ → Option Formula
formula_in h chain size part = option_and_then (formula_at h part) (size_in (count_of h chain) size)
