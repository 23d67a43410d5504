-- Certificates, and when they are valid.
use Rattle.std.specs.Prelude.{◌≡◌, ℕ, ◌+◌, ◌≤◌, ◌<◌, Bool, true, false, List, [], ◌∷◌, length, map, All, Option, Some}
use Rattle.std.specs.Prelude.{None, if◌then◌else◌}
use Rattle.std.specs.List.{list_any, find}
use Rattle.std.specs.Option.{option_map}
use Rattle.chain_theory.specs.Chain.{Chain, IsChain}
use Rattle.chain_theory.specs.Agreement.{Agrees, IsOver}
use Rattle.sat_theory.specs.Formula.{Formula}
use Rattle.sat_theory.specs.Line.{Line}
use Rattle.sat_theory.specs.Log.{Refutes, ReachesBudget}
use Rattle.tt_core.specs.Words.{IsSpec, specification}
use Rattle.op_basis.specs.Basis.{members}
use Rattle.enc_theory.specs.declared.subproblem.Subproblem.{Subproblem}
use Rattle.settings.specs.declared.methods.MethodChoice.TheVariants.{Named}
use Rattle.settings.specs.declared.synth.SynthSettings.{SynthSettings}
use Rattle.settings.specs.Synth.{IsInRange}
use Rattle.cert_theory.specs.declared.data.Header.{Header}
use Rattle.cert_theory.specs.declared.data.LogEnd.{LogEnd}
use Rattle.cert_theory.specs.declared.data.LogEnd.TheVariants as ends
use Rattle.cert_theory.specs.declared.data.Verdict.{Verdict}
use Rattle.cert_theory.specs.declared.data.Verdict.TheVariants as verdicts
use Rattle.settings.specs.declared.methods.Method.{Method}
use Rattle.cert_theory.specs.Coding.{coding_of, stops_when_open}

-- ---- certificates as values

-- a log over the formula of a subproblem, and how it ends
pub record SubproblemLog : Type 0 where
  pub subproblem : Subproblem
  pub ended : LogEnd
  pub log : List Line

-- the logs of one size, one for each of its subproblems
pub record Section : Type 0 where
  pub size : ℕ
  pub subproblems : List SubproblemLog

pub record Certificate : Type 0 where
  pub header : Header
  pub sections : List Section
  pub chain : Option Chain
  pub verdict : Verdict

-- ---- the header

-- the settings, apart from the tables; a certificate doesn't name the effort of walks
abbrev pub settings_of : Header → SynthSettings
settings_of h =
    record { basis = h.basis; method = Named h.method; max = h.max; conflicts = h.conflicts; effort = 0 }

-- The tables are a specification, the basis is a set of the sixteen operators, and the settings are in their
-- ranges.
pub record IsHeader (h : Header) : Type 0 where
  pub tables : IsSpec h.spec
  pub basis_below : h.basis < 65536
  pub settings : IsInRange (settings_of h)

abbrev pub subproblems_of : Header → ℕ → List Subproblem
subproblems_of h size = (coding_of h.method).subproblems h.spec size

abbrev pub formula_of : Header → ℕ → Subproblem → Formula
formula_of h size subproblem = (coding_of h.method).formula h.spec h.basis size subproblem

-- ---- sections

-- A log that ends refuted refutes the subproblem's formula. A log that ends open holds over it, doesn't reach
-- the empty clause, and has at least `conflicts` additions, each subsumed by no clause that is live when it
-- is added.
abbrev pub EndsAs : Formula → ℕ → LogEnd → List Line → Type 0
EndsAs f conflicts ends.Refuted log = Refutes f log
EndsAs f conflicts ends.Open log = ReachesBudget f log conflicts

abbrev pub IsSubproblemLog : Header → ℕ → SubproblemLog → Type 0
IsSubproblemLog h size p = EndsAs (formula_of h size p.subproblem) h.conflicts p.ended p.log

abbrev pub subproblem_of : SubproblemLog → Subproblem
subproblem_of p = p.subproblem

-- whether a size isn't searched further after a log that ends so
abbrev pub stops_after : Method → LogEnd → Bool
stops_after method ends.Refuted = false
stops_after method ends.Open = stops_when_open method

-- the subproblems that are due after it, of those that follow
abbrev pub due_after : Method → LogEnd → List Subproblem → List Subproblem
due_after method ended later = if stops_after method ended then [] else later

-- of the subproblems of a size, those that a section has a log for: all, but by `strong-fence` none after an open one
-- Example: by `strong-fence`, where the first log is open, the first subproblem alone.
unfoldable pub tried : Method → List Subproblem → List SubproblemLog → List Subproblem
tried method due [] = due
tried method [] (p ∷ ps) = []
tried method (subproblem ∷ later) (p ∷ ps) = subproblem ∷ tried method (due_after method p.ended later) ps

-- the section of a size has a log for each subproblem of the size that is tried, in order
pub record IsSection (h : Header) (size : ℕ) (s : Section) : Type 0 where
  pub size_is : s.size ≡ size
  pub subproblems_are : map subproblem_of s.subproblems ≡ tried h.method (subproblems_of h size) s.subproblems
  pub logs : All (IsSubproblemLog h size) s.subproblems

-- sections of consecutive sizes, from `size` on
unfoldable pub AreSections : Header → ℕ → List Section → Type 0
AreSections h size [] = Unit {0}
AreSections h size (s ∷ ss) = IsSection h size s × AreSections h (size + 1) ss

abbrev pub is_open_end : LogEnd → Bool
is_open_end ends.Refuted = false
is_open_end ends.Open = true

-- a size is open if one of its subproblems is, and refuted otherwise
abbrev pub is_open : Section → Bool
is_open s = list_any (λ p. is_open_end p.ended) s.subproblems

abbrev pub size_of : Section → ℕ
size_of s = s.size

-- the first open size
abbrev pub first_open : List Section → Option ℕ
first_open sections = option_map size_of (find is_open sections)

-- ---- the trailer

-- the verdict with a chain of `size` steps, and without a chain; the option is the first open size
abbrev pub found : ℕ → Option ℕ → Verdict
found size None = verdicts.Minimum size
found size (Some low) = verdicts.Bounded low size

abbrev pub not_found : ℕ → Option ℕ → Verdict
not_found max None = verdicts.NoChain max
not_found max (Some low) = verdicts.Open low

-- a chain of `size` steps over the basis that implements the tables
pub record IsFound (h : Header) (size : ℕ) (c : Chain) : Type 0 where
  pub chain : IsChain c
  pub size_is : length c.steps ≡ size
  pub size_to : size ≤ h.max
  pub over : IsOver (members h.basis) c
  pub agrees : Agrees c (specification h.spec)

-- A chain has as many steps as there are sections. If there is no chain, all sizes up to the greatest have a
-- section. The verdict is the one that follows.
abbrev pub IsTrailer : Header → ℕ → Option ℕ → Option Chain → Verdict → Type 0
IsTrailer h count low None v = (count ≡ h.max + 1) × (v ≡ not_found h.max low)
IsTrailer h count low (Some c) v = IsFound h count c × (v ≡ found count low)

-- Example: for XOR over all operators, a section of size 0 whose log refutes its formula, the chain of the one
-- step j = 1, k = 2, op = 6, and the verdict Minimum 1.
pub record IsValid (b : Certificate) : Type 0 where
  pub header : IsHeader b.header
  pub sections : AreSections b.header 0 b.sections
  pub sizes_to : length b.sections ≤ b.header.max + 1
  pub trailer : IsTrailer b.header (length b.sections) (first_open b.sections) b.chain b.verdict

-- there is at least one output: the text format needs one
abbrev pub HasOutput : Certificate → Type 0
HasOutput b = 0 < length b.header.spec.on
