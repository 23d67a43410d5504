-- What the search of a window's chain says about the candidate.
use Rattle.std.specs.Prelude.{◌≡◌, ℕ, ◌+◌, ◌≤◌, ◌<◌, List, length, Option, refl}
use Rattle.std.proofs.Common.{arith, sym, ◌∙◌, ap, subst, inl, inr}
use Rattle.std.proofs.lemmas.Grind.{common_steps}
use Rattle.std.proofs.lemmas.Bool.{cases_lt}
use Rattle.chain_theory.specs.Chain.{Chain}
use Rattle.chain_theory.specs.Agreement.{IsOver, NoneBelow}
use Rattle.tt_core.specs.Words.{Words, IsSpec, specification}
use Rattle.op_basis.specs.Basis.{members}
use Rattle.net_theory.specs.Net.{Net, IsNet}
use Rattle.window_theory.specs.NodeLaws.{rising_same}
use Rattle.window_theory.specs.Paths.{IsGate}
use Rattle.window_theory.specs.Window.{Window, IsPartnerOrNone, IsWindow, Belongs}
use Rattle.window_theory.specs.WindowLaws.{taken_rising, window_one, window_belongs}
use Rattle.settings.specs.declared.improve.ImproveSettings.{ImproveSettings}
use Rattle.settings.specs.Improve.{IsInRange}
use Rattle.cert_theory.specs.declared.data.Header.{Header}
use Rattle.cert_theory.specs.Certificate.{Certificate, IsHeader}
use Rattle.decide_core.specs.declared.deciding.Decided.{Decided}
use Rattle.decide_core.specs.declared.deciding.Decided.TheVariants as decisions
use Rattle.decide_core.specs.Decided.{HasNone, IsLeftOpen, IsDecided, IsClosed}
use Rattle.improve_theory.specs.declared.candidate.WindowCandidate.{WindowCandidate}
use Rattle.improve_theory.specs.LocalSpecification.{IsLocalSpecification, HasNoFewerLocal}
use Rattle.improve_theory.specs.Settled.{IsListedCandidate}
use Rattle.improve_theory.specs.Changes.{HasShorterChain}
use Rattle.improve_theory.specs.Undecided.{IsUndecided}
use Rattle.resyn_core.specs.Outcomes.{IsDone}
use Rattle.window_attempt.specs.LocalSpecification.{MeetsLocal}
use Rattle.window_attempt.specs.Attempting.{IsHeaderFor, IsDecidedFor}
use Rattle.window_attempt.specs.AskingLaws.{none_asked}

-- ---- headers

abbrev header_by : ImproveSettings → Words → ℕ → Header
header_by s spec max = record { spec = spec; basis = s.basis; method = s.method; conflicts = s.conflicts; max = max }

pub asked_well : (s : ImproveSettings) (spec : Words) (max : ℕ) → IsInRange s → IsSpec spec → s.basis < 65536 →
    max ≤ 16 → IsHeader (record { spec = spec; basis = s.basis; method = s.method; conflicts = s.conflicts; max = max })
asked_well s spec max range tables basis few =
    record {
      tables = tables;
      basis_below = basis;
      settings = record { basis_from = range.basis_from; max_to = few; conflicts_from = range.conflicts_from; conflicts_to = range.conflicts_to; effort_to = omega arith };
    }

pub decided_by : (s : ImproveSettings) (n : Net) (w : Window) (spec : Words) (max : ℕ) (d : Decided) →
    IsLocalSpecification s.observe n w (specification spec) → max + 1 ≡ length w.gates →
    IsDecided (record { spec = spec; basis = s.basis; method = s.method; conflicts = s.conflicts; max = max }) d →
    (max ≤ 4 → IsClosed d) → IsDecidedFor s n w d
decided_by s n w spec max d tables size is closed =
    record {
      header = header_by s spec max;
      asks = record { tables = tables; basis_is = refl; method_is = refl; conflicts_is = refl; max_is = size };
      decided = is;
      closed = closed;
    }

-- ---- windows

-- a window has as many gates as its count
pub window_size : (n : Net) (root : ℕ) (partner : Option ℕ) (count : ℕ) (w : Window) → IsNet n → IsWindow n root partner count w → length w.gates ≡ count
window_size n root partner count w net is =
    let taken : List ℕ = is.takes.taken in
    let same : w.gates ≡ taken = rising_same w.gates taken is.takes.gates_are.rising (taken_rising n root partner taken net is.takes.are) is.takes.gates_are.only is.takes.gates_are.all in
    ap (λ (ps : List ℕ). length ps) same ∙ is.takes.count_is

-- the window of a candidate
abbrev IsOf : Net → WindowCandidate → Window → Type 0
IsOf n v w = IsWindow n v.root v.partner v.count w

-- ---- no gain

least_of : (s : ImproveSettings) (n : Net) (v : WindowCandidate) (w : Window) → IsOf n v w → HasNoFewerLocal s.observe n (members s.basis) w v.count → IsDone s n v
least_of s n v w is least = record {
  done = λ gate partner. record {
    least = λ u other. subst (λ (x : Window). HasNoFewerLocal s.observe n (members s.basis) x v.count) (window_one n v.root v.partner v.count w u is other) least;
  };
}

none_of : (s : ImproveSettings) (n : Net) (v : WindowCandidate) (w : Window) (h : Header) → IsNet n → IsOf n v w → IsHeaderFor s n w h →
    HasNone h → HasNoFewerLocal s.observe n (members s.basis) w v.count
none_of s n v w h net is asks none =
    let size : h.max + 1 ≡ v.count = asks.max_is ∙ window_size n v.root v.partner v.count w net is in
    none_asked s.observe n (members s.basis) w v.count (specification h.spec) asks.tables
    (subst (λ (k : ℕ). NoneBelow (specification h.spec) (members s.basis) k) size (subst (λ (b : ℕ). NoneBelow (specification h.spec) (members b) (h.max + 1)) asks.basis_is none))

decided_as : (s : ImproveSettings) (n : Net) (w : Window) (d e : Decided) → d ≡ e → IsDecidedFor s n w d → IsDecidedFor s n w e
decided_as s n w d e same is = subst (λ (x : Decided). IsDecidedFor s n w x) same is

least_by : (s : ImproveSettings) (n : Net) (v : WindowCandidate) (w : Window) → IsNet n → IsOf n v w → IsDecidedFor s n w decisions.Least → IsDone s n v
least_by s n v w net is decided = least_of s n v w is (none_of s n v w decided.header net is decided.asks decided.decided)

pub attempts_least : (s : ImproveSettings) (n : Net) (v : WindowCandidate) (w : Window) (d : Decided) → IsNet n →
    IsWindow n v.root v.partner v.count w → IsDecidedFor s n w d → d ≡ decisions.Least → IsDone s n v
attempts_least s n v w d net is decided e = least_by s n v w net is (decided_as s n w d decisions.Least e decided)

-- no partner, or no window
pub attempts_apart : (s : ImproveSettings) (n : Net) (v : WindowCandidate) → (IsPartnerOrNone n v.root v.partner → ⊥) → IsDone s n v
attempts_apart s n v none = record { done = λ gate partner. absurd (none partner) }

pub attempts_none : (s : ImproveSettings) (n : Net) (v : WindowCandidate) → ((w : Window) → IsWindow n v.root v.partner v.count w → ⊥) → IsDone s n v
attempts_none s n v none = record { done = λ gate partner. record { least = λ w is. absurd (none w is) } }

shorter_meets : (s : ImproveSettings) (n : Net) (w : Window) (c : Chain) → IsDecidedFor s n w (decisions.Shorter c) → MeetsLocal s.observe n w c
shorter_meets s n w c is = record { chain = is.decided.found.chain; specification = specification is.header.spec; is = is.asks.tables; agrees = is.decided.found.agrees }

shorter_fewer : (s : ImproveSettings) (n : Net) (w : Window) (c : Chain) → IsDecidedFor s n w (decisions.Shorter c) → length c.steps < length w.gates
shorter_fewer s n w c is = omega (arith, is.decided.found.size_is, is.decided.found.size_to, is.asks.max_is)

shorter_over : (s : ImproveSettings) (n : Net) (w : Window) (c : Chain) → IsDecidedFor s n w (decisions.Shorter c) → IsOver (members s.basis) c
shorter_over s n w c is = subst (λ (b : ℕ). IsOver (members b) c) is.asks.basis_is is.decided.found.over

-- ---- undecided

-- an undecided search asks for at least five steps, so the window has at least six gates
large_by : (most count : ℕ) → most + 1 ≡ count → (most ≤ 4 → ⊥) → 6 ≤ count
large_by most count size many = elim (cases_lt 4 most) [
  | inl more ↦ omega (arith, size, more)
  | inr few ↦ absurd (many few)
]

open_by : (s : ImproveSettings) (n : Net) (v : WindowCandidate) (w : Window) (h : Header) (b : Certificate) → IsNet n →
    IsListedCandidate n s.cap v → IsOf n v w → IsHeaderFor s n w h → IsLeftOpen h b → (h.max ≤ 4 → ⊥) →
    IsUndecided n s (record { candidate = v; search = b })
open_by s n v w h b net listed is asks left many =
    record {
      listed = listed;
      large = large_by h.max v.count (asks.max_is ∙ window_size n v.root v.partner v.count w net is) many;
      window = w;
      is = is;
      tables = subst (λ (k : Header). IsLocalSpecification s.observe n w (specification k.spec)) (sym left.header) asks.tables;
      basis_is = ap (λ (k : Header). k.basis) left.header ∙ asks.basis_is;
      method_is = ap (λ (k : Header). k.method) left.header ∙ asks.method_is;
      conflicts_is = ap (λ (k : Header). k.conflicts) left.header ∙ asks.conflicts_is;
      max_is = ap (λ (k : Header). k.max + 1) left.header ∙ asks.max_is ∙ window_size n v.root v.partner v.count w net is;
      valid = left.valid;
      output = left.output;
      low = left.verdict.low;
      verdict_is = left.verdict.verdict_is;
      live_bounds = left.live_bounds;
    }

left_by : (s : ImproveSettings) (n : Net) (v : WindowCandidate) (w : Window) (b : Certificate) → IsNet n →
    IsListedCandidate n s.cap v → IsOf n v w → IsDecidedFor s n w (decisions.Open b) →
    IsUndecided n s (record { candidate = v; search = b })
left_by s n v w b net listed is decided = open_by s n v w decided.header b net listed is decided.asks decided.decided decided.closed

pub attempts_open : (s : ImproveSettings) (n : Net) (v : WindowCandidate) (w : Window) (d : Decided) (b : Certificate) →
    IsNet n → IsListedCandidate n s.cap v → IsWindow n v.root v.partner v.count w → IsDecidedFor s n w d →
    d ≡ decisions.Open b → IsUndecided n s (record { candidate = v; search = b })
attempts_open s n v w d b net listed is decided e = left_by s n v w b net listed is (decided_as s n w d (decisions.Open b) e decided)

-- ---- shorter chains

pub attempts_meets : (s : ImproveSettings) (n : Net) (w : Window) (d : Decided) (c : Chain) → IsDecidedFor s n w d → d ≡ decisions.Shorter c → MeetsLocal s.observe n w c
attempts_meets s n w d c decided e = shorter_meets s n w c (decided_as s n w d (decisions.Shorter c) e decided)

pub attempts_fewer : (s : ImproveSettings) (n : Net) (w : Window) (d : Decided) (c : Chain) → IsDecidedFor s n w d → d ≡ decisions.Shorter c → length c.steps < length w.gates
attempts_fewer s n w d c decided e = shorter_fewer s n w c (decided_as s n w d (decisions.Shorter c) e decided)

pub attempts_few : (s : ImproveSettings) (n : Net) (w : Window) (d : Decided) (c : Chain) → IsDecidedFor s n w d → d ≡ decisions.Shorter c → length c.steps ≤ length w.gates
attempts_few s n w d c decided e = omega (arith, attempts_fewer s n w d c decided e)

pub attempts_over : (s : ImproveSettings) (n : Net) (w : Window) (d : Decided) (c : Chain) → IsDecidedFor s n w d → d ≡ decisions.Shorter c → IsOver (members s.basis) c
attempts_over s n w d c decided e = shorter_over s n w c (decided_as s n w d (decisions.Shorter c) e decided)

shorter_chain : (s : ImproveSettings) (n : Net) (v : WindowCandidate) (w : Window) (c : Chain) → IsNet n →
    IsWindow n v.root v.partner v.count w → IsDecidedFor s n w (decisions.Shorter c) → HasShorterChain s n v
shorter_chain s n v w c net is decided = record {
  window = w;
  is = is;
  specification = specification decided.header.spec;
  tables = decided.asks.tables;
  chain = c;
  is_chain = decided.decided.found.chain;
  over = shorter_over s n w c decided;
  agrees = decided.decided.found.agrees;
  fewer = omega (arith, shorter_fewer s n w c decided, window_size n v.root v.partner v.count w net is);
}

pub attempts_shorter : (s : ImproveSettings) (n : Net) (v : WindowCandidate) (w : Window) (d : Decided) (c : Chain) →
    IsNet n → IsWindow n v.root v.partner v.count w → IsDecidedFor s n w d → d ≡ decisions.Shorter c → HasShorterChain s n v
attempts_shorter s n v w d c net is decided e = shorter_chain s n v w c net is (decided_as s n w d (decisions.Shorter c) e decided)

-- ---- candidates

pub candidate_belongs : (n : Net) (root : ℕ) (partner : Option ℕ) (count : ℕ) (w : Window) → IsNet n → IsWindow n root partner count w → Belongs n w
candidate_belongs n root partner count w net is = window_belongs n root partner count w net is

pub candidate_listed : (n : Net) (cap : ℕ) (v : WindowCandidate) → IsGate n v.root → IsPartnerOrNone n v.root v.partner → 1 ≤ v.count → v.count ≤ cap → IsListedCandidate n cap v
candidate_listed n cap v gate partner some most = record { root = gate; partner = partner; from = some; to = most }

pub ruleset attempting = (
  common_steps,
  asked_well,
  decided_by,
  attempts_least,
  attempts_apart,
  attempts_none,
  attempts_open,
  attempts_meets,
  attempts_few,
  attempts_over,
  candidate_belongs,
  candidate_listed,
)
