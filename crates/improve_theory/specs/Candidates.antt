-- Which candidates the parts of a round attempt, and the order of partners.
use Rattle.std.specs.Prelude.{◌≡◌, ℕ, ◌≤◌, ◌<◌, List, [], ◌∷◌, Contains, ◌⊎◌, Option, None, Some}
use Rattle.net_theory.specs.Net.{Net}
use Rattle.window_theory.specs.Paths.{IsGate}
use Rattle.window_theory.specs.Partner.{IsPartner}
use Rattle.improve_theory.specs.declared.candidate.WindowCandidate.{WindowCandidate}

-- ---- partners, from the greatest to the least

pub record HasNoPartner (n : Net) (root below : ℕ) : Type 0 where
  pub none : (h : ℕ) → IsGate n root → IsPartner n root h → h < below → ⊥

pub record IsGreatestPartner (n : Net) (root below partner : ℕ) : Type 0 where
  pub low : partner < below
  pub partner_is : IsPartner n root partner
  pub greatest : (h : ℕ) → IsPartner n root h → h < below → h ≤ partner

-- the greatest partner below a node, if there is one
abbrev pub IsNextPartner : Net → ℕ → ℕ → Option ℕ → Type 0
IsNextPartner n root below None = HasNoPartner n root below
IsNextPartner n root below (Some partner) = IsGreatestPartner n root below partner

-- ---- sets of candidates

-- none
abbrev pub IsNoCandidate : WindowCandidate → Type 0
IsNoCandidate v = ⊥

-- this candidate
abbrev pub IsThis : WindowCandidate → WindowCandidate → Type 0
IsThis this v = v ≡ this

-- a root with a partner or none, with the counts from `first` on and below `end`
pub record IsOfCounts (root : ℕ) (partner : Option ℕ) (first end : ℕ) (v : WindowCandidate) : Type 0 where
  pub root_is : v.root ≡ root
  pub partner_is : v.partner ≡ partner
  pub from : first ≤ v.count
  pub to : v.count < end

-- a root with any partner from `from` on
pub record IsOfPartners (root cap from : ℕ) (v : WindowCandidate) : Type 0 where
  pub root_is : v.root ≡ root
  pub partner : ℕ
  pub partner_is : v.partner ≡ Some partner
  pub high : from ≤ partner
  pub some : 1 ≤ v.count
  pub to : v.count ≤ cap

-- a root with any partner or none
pub record IsOfRoot (root cap : ℕ) (v : WindowCandidate) : Type 0 where
  pub root_is : v.root ≡ root
  pub some : 1 ≤ v.count
  pub to : v.count ≤ cap

-- any root below `end`
pub record IsOfRoots (cap end : ℕ) (v : WindowCandidate) : Type 0 where
  pub root_low : v.root < end
  pub some : 1 ≤ v.count
  pub to : v.count ≤ cap

-- ---- the order of candidates

-- The turns of a root: without a partner, and then with its partners from the greatest to the least.
abbrev pub TurnsBefore : Option ℕ → Option ℕ → Type 0
TurnsBefore None None = ⊥
TurnsBefore None (Some h) = Unit {0}
TurnsBefore (Some h) None = ⊥
TurnsBefore (Some h) (Some k) = k < h

-- The first is attempted before the second: it has a lower root, or the same root in an earlier turn, or in
-- the same turn a lower count.
abbrev pub IsAttemptedBefore : WindowCandidate → WindowCandidate → Type 0
IsAttemptedBefore v w = (v.root < w.root) ⊎ ((v.root ≡ w.root) ×
    (TurnsBefore v.partner w.partner ⊎ ((v.partner ≡ w.partner) × (v.count < w.count))))

-- Each candidate comes before all after it, so none is listed twice.
unfoldable pub AreInOrder : List WindowCandidate → Type 0
AreInOrder [] = Unit {0}
AreInOrder (v ∷ vs) = ((w : WindowCandidate) → Contains vs w → IsAttemptedBefore v w) × AreInOrder vs
