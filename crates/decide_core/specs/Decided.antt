-- What is known about the chains of at most `max` steps of a header.
use Rattle.std.specs.Prelude.{◌≡◌, ℕ, ◌+◌, Option, Some, None}
use Rattle.chain_theory.specs.Chain.{Chain}
use Rattle.chain_theory.specs.Agreement.{NoneBelow}
use Rattle.tt_core.specs.Words.{specification}
use Rattle.op_basis.specs.Basis.{members}
use Rattle.cert_theory.specs.declared.data.Header.{Header}
use Rattle.cert_theory.specs.declared.data.Verdict.{Verdict}
use Rattle.cert_theory.specs.declared.data.Verdict.TheVariants as verdicts
use Rattle.cert_theory.specs.Certificate.{Certificate, IsValid, IsFound, HasOutput}
use Rattle.cert_theory.specs.LiveBounds.{HaveLiveBounds}
use Rattle.decide_core.specs.declared.deciding.Decided.{Decided}
use Rattle.decide_core.specs.declared.deciding.Searched.{Searched}
use Rattle.decide_core.specs.declared.deciding.Searched.TheVariants as searches
use Rattle.decide_core.specs.declared.deciding.SizeResult.{SizeResult}
use Rattle.decide_core.specs.declared.deciding.SizeResult.TheVariants as sizes
use Rattle.decide_core.specs.declared.deciding.Decided.TheVariants.{Shorter, Least, Open}

-- no chain over the basis with fewer than `size` steps implements the tables
abbrev pub Fewer : Header → ℕ → Type 0
Fewer h size = NoneBelow (specification h.spec) (members h.basis) size

-- no chain of at most `max` steps implements the tables
abbrev pub HasNone : Header → Type 0
HasNone h = Fewer h (h.max + 1)

-- a chain over the basis that implements the tables, with at most `max` steps
pub record IsShorter (h : Header) (c : Chain) : Type 0 where
  pub size : ℕ
  pub found : IsFound h size c

-- no cached chain answers the header
abbrev pub IsUseless : Header → Option Chain → Type 0
IsUseless h None = Unit {0}
IsUseless h (Some c) = IsShorter h c → ⊥

pub record IsOpenVerdict (v : Verdict) : Type 0 where
  pub low : ℕ
  pub verdict_is : v ≡ verdicts.Open low

-- a valid certificate for the header that leaves a size open
pub record IsLeftOpen (h : Header) (b : Certificate) : Type 0 where
  pub header : b.header ≡ h
  pub valid : IsValid b
  pub output : HasOutput b
  pub live_bounds : HaveLiveBounds b.header b.sections
  pub verdict : IsOpenVerdict b.verdict

abbrev pub IsDecided : Header → Decided → Type 0
IsDecided h (Shorter c) = IsShorter h c
IsDecided h Least = HasNone h
IsDecided h (Open b) = IsLeftOpen h b

-- the question is decided
abbrev pub IsClosed : Decided → Type 0
IsClosed (Shorter c) = Unit {0}
IsClosed Least = Unit {0}
IsClosed (Open b) = ⊥

-- the result of a search with a certificate
abbrev pub IsSearched : Header → Searched → Type 0
IsSearched h (searches.Found c fewest) = IsShorter h c × Fewer h fewest
IsSearched h searches.Nothing = HasNone h
IsSearched h (searches.Open b) = IsLeftOpen h b

-- the result of a search without a certificate
abbrev pub IsSized : Header → SizeResult → Type 0
IsSized h (sizes.Found c low) = IsShorter h c × Fewer h low
IsSized h sizes.Nothing = HasNone h
IsSized h (sizes.Open low) = Fewer h low
