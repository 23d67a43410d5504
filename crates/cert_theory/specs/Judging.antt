-- The certificate that lines spell, and the first fault where they aren't a valid one. Lines are checked from
-- the top; `SubproblemLines` defines the lines of one subproblem. Each function takes the number that its first line
-- has in the whole text.
use Rattle.std.specs.Prelude.{ℕ, ◌+◌, Bool, true, false, not, ◌&&◌, ◌||◌, ◌==◌, nat_le, nat_lt, if◌then◌else◌, List, []}
use Rattle.std.specs.Prelude.{◌∷◌, ◌++◌, length, codes, Option, Some, None, is_some, Result, Ok, Err, option_and_then}
use Rattle.std.specs.Option.{option_map}
use Rattle.std.specs.Str.{bytes_eq}
use Rattle.chain_theory.specs.Chain.{Chain}
use Rattle.text_core.specs.Lines.{Line}
use Rattle.text_core.specs.Items.{items_of}
use Rattle.text_core.specs.Words.{after}
use Rattle.text_core.specs.Numbers.{number_up_to}
use Rattle.sat_theory.specs.Line as theory
use Rattle.tt_core.specs.Words.{Words, specification}
use Rattle.tt_core.specs.Tables as tables
use Rattle.tt_core.specs.declared.error.SpecError.{SpecError}
use Rattle.tt_core.specs.declared.error.SpecError.TheVariants as spec_errors
use Rattle.op_basis.specs.Basis.{members}
use Rattle.op_basis.specs.Text.{basis_of, basis_text}
use Rattle.op_basis.specs.declared.error.BasisError.{BasisError}
use Rattle.chain_core.specs.Block as block
use Rattle.chain_core.specs.Outside.{outside_from}
use Rattle.chain_core.specs.declared.frame.Frame.{Frame}
use Rattle.chain_core.specs.declared.error.ChainError.{ChainError}
use Rattle.chain_core.specs.declared.error.ChainError.TheVariants as chain_errors
use Rattle.enc_theory.specs.declared.subproblem.Subproblem.{Subproblem}
use Rattle.enc_theory.specs.declared.subproblem.Subproblem.TheVariants.{Whole, Levels}
use Rattle.settings.specs.declared.methods.Method.{Method}
use Rattle.settings.specs.Methods.{method_named}
use Rattle.sat_theory.specs.Limits.{most_conflicts}
use Rattle.chain_theory.specs.Limits.{most_steps}
use Rattle.cert_theory.specs.declared.data.Header.{Header}
use Rattle.cert_theory.specs.declared.data.LogEnd.{LogEnd}
use Rattle.cert_theory.specs.declared.data.LogEnd.TheVariants as ends
use Rattle.cert_theory.specs.declared.data.Verdict.{Verdict}
use Rattle.cert_theory.specs.declared.data.Verdict.TheVariants as verdicts
use Rattle.cert_theory.specs.declared.data.CertificateError.{CertificateError}
use Rattle.cert_theory.specs.declared.data.CertificateError.TheVariants.{Syntax, SizeOutOfOrder, StepRefused}
use Rattle.cert_theory.specs.declared.data.CertificateError.TheVariants.{NotRefuted, ChainDiffers, OperatorNotInBasis}
use Rattle.cert_theory.specs.declared.data.CertificateError.TheVariants.{OpenTooShort, NotNew, WrongVerdict, Memory}
use Rattle.cert_theory.specs.declared.data.SubproblemError.{SubproblemError}
use Rattle.cert_theory.specs.declared.data.SubproblemError.TheVariants as subproblem_errors
use Rattle.cert_theory.specs.Coding.{has_fence_names}
use Rattle.cert_theory.specs.Gives.{◌>>=◌, with_fault}
use Rattle.cert_theory.specs.SubproblemLines.{is_line, name_in, ended_in, subproblem_in}
use Rattle.cert_theory.specs.Certificate.{subproblems_of, formula_of, due_after, found, not_found}
use Rattle.cert_theory.specs.Difference.{difference_of}

-- ---- lines

-- the value that was read, or Syntax at this line
abbrev pub or_syntax : {A : Type 0} → ℕ → Option A → Result A CertificateError
or_syntax number None = Err (Syntax number)
or_syntax number (Some x) = Ok x

-- an error of another grammar becomes Syntax at its line
abbrev pub as_syntax : {A E : Type 0} → (E → ℕ) → Result A E → Result A CertificateError
as_syntax place (Ok x) = Ok x
as_syntax place (Err e) = Err (Syntax (place e))

-- whether a line begins with a word
abbrev pub begins : List ℕ → Line → Bool
begins word l = is_some (after word l.text)

-- the text between a word and the LF
abbrev pub value_of : List ℕ → Line → Option (List ℕ)
value_of word l = if l.ended then after word l.text else None

-- ---- the header

-- The tables begin at line 2, so the line numbers of their grammar grow by one.
abbrev pub table_place : SpecError → ℕ
table_place (spec_errors.BadHeader line) = line + 1
table_place (spec_errors.BadRow line) = line + 1
table_place (spec_errors.WrongLength line) = line + 1
table_place spec_errors.TooManyInputs = 2
table_place spec_errors.TooManyOutputs = 11
table_place spec_errors.NoOutput = 3
table_place spec_errors.Memory = 0

-- the basis must have its canonical spelling
abbrev pub spelled : List ℕ → Result ℕ BasisError → Option ℕ
spelled word (Ok basis) = if bytes_eq word (basis_text basis) then Some basis else None
spelled word (Err e) = None

unfoldable pub basis_in : Line → Option ℕ
basis_in l = option_and_then (λ word. spelled word (basis_of word)) (value_of (codes "basis ") l)

unfoldable pub method_in : Line → Option Method
method_in l = option_and_then method_named (value_of (codes "method ") l)

abbrev pub from_one : ℕ → Option ℕ
from_one n = if n == 0 then None else Some n

unfoldable pub conflicts_in : Line → Option ℕ
conflicts_in l = option_and_then from_one (option_and_then (number_up_to most_conflicts)
    (value_of (codes "conflicts ") l))

unfoldable pub max_in : Line → Option ℕ
max_in l = option_and_then (number_up_to most_steps) (value_of (codes "max ") l)

-- ---- subproblems

-- a fault of a subproblem as a fault of the certificate, at a line
abbrev pub fault_at : ℕ → SubproblemError → CertificateError
fault_at number subproblem_errors.Syntax = Syntax number
fault_at number (subproblem_errors.StepRefused e) = StepRefused number e
fault_at number subproblem_errors.NotNew = NotNew number
fault_at number subproblem_errors.NotRefuted = NotRefuted number
fault_at number subproblem_errors.TooShort = OpenTooShort number
fault_at number subproblem_errors.EmptyClauseDerived = WrongVerdict number
fault_at number subproblem_errors.Memory = Memory

-- the result for a subproblem, with its fault at this line
abbrev pub at_line : {A : Type 0} → ℕ → Result A SubproblemError → Result A CertificateError
at_line number read = with_fault (fault_at number) read

-- ---- verdicts

abbrev pub number_after : List ℕ → Line → Option ℕ
number_after word l = option_and_then block.number_in (value_of word l)

-- a verdict of two numbers
abbrev pub both : {V : Type 0} → (ℕ → ℕ → V) → Option ℕ → Option ℕ → Option V
both bounded (Some low) (Some r) = Some (bounded low r)
both bounded low r = None

abbrev pub bounded_in : {V : Type 0} → (ℕ → ℕ → V) → List (List ℕ) → Option V
bounded_in bounded (low ∷ r ∷ []) = both bounded (block.number_in low) (block.number_in r)
bounded_in bounded items = None

-- a verdict of one number after the first word, or of two after the second
abbrev pub numbered_in : {V : Type 0} → (ℕ → V) → (ℕ → ℕ → V) → List ℕ → List ℕ → Line → Option V
numbered_in one bounded first second l =
    if begins first l
    then option_map one (number_after first l)
    else option_and_then (λ pair. bounded_in bounded (items_of pair)) (value_of second l)

-- the verdict on a line that follows a chain
unfoldable pub found_in : Line → Option Verdict
found_in l = numbered_in (λ r. verdicts.Minimum r) (λ low r. verdicts.Bounded low r) (codes "minimum ")
    (codes "bounded ") l

-- the verdict on a line, where there is no chain
unfoldable pub not_found_in : Line → Option Verdict
not_found_in l =
    if begins (codes "none ") l
    then option_map (λ x. verdicts.NoChain x) (number_after (codes "none ") l)
    else option_map (λ low. verdicts.Open low) (number_after (codes "open ") l)

-- ---- sections

-- The state between lines of a section: no section has begun; the name of a fence is due; a subproblem is known
-- and its log is due; or its log has begun and has these lines. `later` are the subproblems that are due after it.
pub data SectionState : Type 0 where
  Between : SectionState
  Due : (sizes : List ℕ) (later : List Subproblem) → SectionState
  Begun : (subproblem : Subproblem) (later : List Subproblem) → SectionState
  Within : (subproblem : Subproblem) (later : List Subproblem) (ended : LogEnd) (log : List theory.Line) → SectionState

-- the current size (or the next), the first open size before it, and the state in its section
pub record Progress : Type 0 where
  pub size : ℕ
  pub low : Option ℕ
  pub place : SectionState

abbrev pub beginning : Progress
beginning = record { size = 0; low = None; place = Between }

-- the state before the next subproblem; if there is none, the section is complete
unfoldable pub before : ℕ → Option ℕ → List Subproblem → Progress
before size low [] = record { size = size + 1; low = low; place = Between }
before size low (Whole ∷ later) = record { size = size; low = low; place = Begun Whole later }
before size low (Levels sizes ∷ later) = record { size = size; low = low; place = Due sizes later }

-- the first open size, updated by the log of one more subproblem
abbrev pub low_with : Option ℕ → LogEnd → ℕ → Option ℕ
low_with (Some low) ended size = Some low
low_with None ends.Refuted size = None
low_with None ends.Open size = Some size

unfoldable pub size_at : Header → ℕ → ℕ → Line → Result Unit CertificateError
size_at h number size l = do
  stated ← or_syntax number (option_and_then block.number_in (value_of (codes "size ") l))
  (if stated == size && nat_le stated h.max then Ok tt else Err (SizeOutOfOrder number))

-- whether all words are numbers of at most nine digits
unfoldable pub are_numbers : List (List ℕ) → Bool
are_numbers [] = true
are_numbers (word ∷ words) = is_some (block.number_in word) && are_numbers words

abbrev pub is_list : List ℕ → Bool
is_list [] = true
is_list (c ∷ cs) = c == 32 && are_numbers (items_of cs)

abbrev pub is_list_in : Option (List ℕ) → Bool
is_list_in None = false
is_list_in (Some rest) = is_list rest

-- whether a line is the name of a fence, with any numbers
unfoldable pub is_fence_name : Line → Bool
is_fence_name l = is_list_in (value_of (codes "fence") l)

-- whether a chain block may have this many steps
abbrev pub is_count : Option ℕ → Bool
is_count None = false
is_count (Some r) = nat_le r most_steps

-- Whether a line could be right where a fence's name is due: the name of another fence, or a line that may
-- follow a section, which is a size, the first line of a chain, or a verdict. Then the fault is NotRefuted
-- instead of Syntax.
unfoldable pub may_follow : Line → Bool
may_follow l = is_fence_name l || is_some (number_after (codes "size ") l) ||
    is_count (number_after (codes "chain ") l) || is_some (not_found_in l)

-- the state after a line of a log, or after its end
abbrev pub after_line : ℕ → Option ℕ → Subproblem → List Subproblem → LogEnd → List theory.Line → Option theory.Line →
    Progress
after_line size low subproblem later ended log None = before size (low_with low ended size) later
after_line size low subproblem later ended log (Some line) =
    record { size = size; low = low; place = Within subproblem later ended (log ++ line ∷ []) }

-- the state after one more line of a section
abbrev pub section_at : Header → ℕ → ℕ → Option ℕ → SectionState → Line → Result Progress CertificateError
section_at h number size low Between l = size_at h number size l >>= λ begun.
    Ok (before size low (subproblems_of h size))
section_at h number size low (Due sizes later) l = at_line number (name_in (may_follow l) sizes l) >>= λ is_named.
    Ok (record { size = size; low = low; place = Begun (Levels sizes) later })
section_at h number size low (Begun subproblem later) l =
    or_syntax number (ended_in l) >>= λ ended. Ok (record {
      size = size;
      low = low;
      place = Within subproblem (due_after h.method ended later) ended [];
    })
section_at h number size low (Within subproblem later ended log) l =
    at_line number (subproblem_in (formula_of h size subproblem) h.conflicts ended log l) >>= λ step.
    Ok (after_line size low subproblem later ended log step)

-- whether the sections end before this line
abbrev pub ends_sections : SectionState → Line → Bool
ends_sections Between l = not (begins (codes "size ") l)
ends_sections (Due sizes later) l = false
ends_sections (Begun subproblem later) l = false
ends_sections (Within subproblem later ended log) l = false

-- ---- the trailer

abbrev pub is_same : Verdict → Verdict → Bool
is_same (verdicts.Minimum r) (verdicts.Minimum q) = r == q
is_same (verdicts.NoChain x) (verdicts.NoChain y) = x == y
is_same (verdicts.Bounded low r) (verdicts.Bounded least q) = low == least && r == q
is_same (verdicts.Open low) (verdicts.Open least) = low == least
is_same v w = false

-- the verdict must be the one that follows; `complete` says whether enough sizes have a section
abbrev pub follows : ℕ → Bool → Verdict → Verdict → Result Verdict CertificateError
follows number complete due v = if complete && is_same v due then Ok v else Err (WrongVerdict number)

abbrev pub nothing_after : ℕ → Verdict → List Line → Result Verdict CertificateError
nothing_after number v [] = Ok v
nothing_after number v (l ∷ ls) = Err (Syntax number)

-- the line `end`, and nothing after it
unfoldable pub end_of : ℕ → Verdict → List Line → Result Verdict CertificateError
end_of number v [] = Err (Syntax number)
end_of number v (l ∷ ls) = if is_line (codes "end") l then nothing_after (number + 1) v ls else Err (Syntax number)

-- the verdict after a chain
unfoldable pub after_chain : ℕ → ℕ → Option ℕ → List Line → Result Verdict CertificateError
after_chain number size low [] = Err (Syntax number)
after_chain number size low (l ∷ ls) = do
  read ← or_syntax number (found_in l)
  v ← follows number true (found size low) read
  end_of (number + 1) v ls

abbrev pub chain_place : ChainError → ℕ
chain_place (chain_errors.BadStep line) = line
chain_place (chain_errors.ForwardPlace line) = line
chain_place (chain_errors.BadOut line) = line
chain_place (chain_errors.TooManySteps line) = line
chain_place (chain_errors.BadCount line) = line
chain_place chain_errors.Memory = 0

-- the number of steps of a chain, which must be the number of sections
unfoldable pub steps_at : Header → ℕ → ℕ → Line → Result ℕ CertificateError
steps_at h number size l = do
  steps ← as_syntax chain_place (block.count_at number l)
  (if steps == size && nat_le steps h.max then Ok steps else Err (SizeOutOfOrder number))

abbrev pub frame_of : Header → ℕ → ℕ → Frame
frame_of h number steps = record { first_line = number; n = h.spec.n; outputs = length h.spec.on; steps = steps }

abbrev pub or_differs : Option (ℕ × ℕ) → Result Unit CertificateError
or_differs None = Ok tt
or_differs (Some at) = Err (ChainDiffers at.0 at.1)

abbrev pub or_outside : Option ℕ → Result Unit CertificateError → Result Unit CertificateError
or_outside None next = next
or_outside (Some place) next = Err (OperatorNotInBasis place)

-- checks of a chain: first its operators, then its values
unfoldable pub chain_judged : Header → Chain → Result Unit CertificateError
chain_judged h c = or_outside (outside_from (members h.basis) (c.n + 1) c.steps)
    (or_differs (difference_of c (specification h.spec)))

-- the rest of the trailer, after a chain block
unfoldable pub with_block : Header → Frame → Option ℕ → Result block.Read ChainError → Result Verdict CertificateError
with_block h f low read = do
  r ← as_syntax chain_place read
  good ← chain_judged h r.chain
  after_chain (f.first_line + 1 + f.steps + f.outputs) f.steps low r.rest

abbrev pub chain_at : Header → ℕ → ℕ → Option ℕ → Line → List Line → Result Verdict CertificateError
chain_at h number size low l ls = steps_at h number size l >>= λ steps.
    with_block h (frame_of h number steps) low (block.body_from (frame_of h number steps) ls)

-- With fences, a fence's name after the last subproblem of a section is reported as NotRefuted.
abbrev pub verdict_at : Bool → ℕ → Line → Result Verdict CertificateError
verdict_at is_named number l = if is_named && is_fence_name l then Err (NotRefuted number)
    else or_syntax number (not_found_in l)

-- the verdict without a chain: all sizes must have a section
abbrev pub no_chain_at : Header → ℕ → ℕ → Option ℕ → Line → List Line → Result Verdict CertificateError
no_chain_at h number size low l ls = do
  read ← verdict_at (has_fence_names h.method && nat_lt 0 size) number l
  v ← follows number (size == h.max + 1) (not_found h.max low) read
  end_of (number + 1) v ls

abbrev pub trailer_at : Header → ℕ → ℕ → Option ℕ → Line → List Line → Result Verdict CertificateError
trailer_at h number size low l ls = if begins (codes "chain ") l then chain_at h number size low l ls
    else no_chain_at h number size low l ls

-- ---- the whole

-- the sections from a state on, and the trailer
unfoldable pub sections_of : Header → ℕ → Progress → List Line → Result Verdict CertificateError
sections_of h number p [] = Err (Syntax number)
sections_of h number p (l ∷ ls) =
    if ends_sections p.place l
    then trailer_at h number p.size p.low l ls
    else (section_at h number p.size p.low p.place l >>= λ next. sections_of h (number + 1) next ls)

unfoldable pub after_conflicts : Words → ℕ → Method → ℕ → ℕ → List Line → Result Verdict CertificateError
after_conflicts w basis method conflicts number [] = Err (Syntax number)
after_conflicts w basis method conflicts number (l ∷ ls) =
    or_syntax number (max_in l) >>= λ max. sections_of (record {
      spec = w;
      basis = basis;
      method = method;
      conflicts = conflicts;
      max = max;
    }) (number + 1) beginning ls

unfoldable pub after_method : Words → ℕ → Method → ℕ → List Line → Result Verdict CertificateError
after_method w basis method number [] = Err (Syntax number)
after_method w basis method number (l ∷ ls) = or_syntax number (conflicts_in l) >>= λ conflicts.
    after_conflicts w basis method conflicts (number + 1) ls

unfoldable pub after_basis : Words → ℕ → ℕ → List Line → Result Verdict CertificateError
after_basis w basis number [] = Err (Syntax number)
after_basis w basis number (l ∷ ls) = or_syntax number (method_in l) >>= λ method.
    after_method w basis method (number + 1) ls

unfoldable pub after_tables : Words → ℕ → List Line → Result Verdict CertificateError
after_tables w number [] = Err (Syntax number)
after_tables w number (l ∷ ls) = or_syntax number (basis_in l) >>= λ basis. after_basis w basis (number + 1) ls

-- the rest of the text, after the tables
unfoldable pub with_tables : Result tables.Read SpecError → Result Verdict CertificateError
with_tables read = as_syntax table_place read >>= λ r. after_tables r.words (3 + length r.words.on) r.rest

-- The verdict of lines, or their first fault.
-- Example: if the last line of the example in `Spelling` is missing, the fault is Syntax 15.
unfoldable pub certificate_of : List Line → Result Verdict CertificateError
certificate_of [] = Err (Syntax 1)
certificate_of (l ∷ ls) = if is_line (codes "chains 1") l then with_tables (tables.tables_of ls) else Err (Syntax 1)
