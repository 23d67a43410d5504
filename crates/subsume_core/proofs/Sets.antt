-- Lists as sets of literals.
use Rattle.std.proofs.Common.{◌≡◌, ◌≢◌, ◌<◌, ℤ, Bool, true, List, Contains, All, sym}
use Rattle.std.specs.List.{filter}
use Rattle.std.proofs.lemmas.Bool.Decides.{Decides-int_eq}
use Rattle.std.proofs.lemmas.List.Elements.{All-weaker, All-contains_itself, All-filter}
use Rattle.std.proofs.lemmas.List.Folds.{list_any_at}
use Rattle.std.proofs.lemmas.List.Kept.{AllPairs-filter}
use Rattle.std.proofs.lemmas.Map.Views.{Contains-from_any}
use Rattle.std.specs.Ordering.{int_eq}
use Rattle.std.proofs.Common.{get_or}
use Rattle.sat_theory.specs.Formula.{variable, IsClause}
use Rattle.sat_theory.specs.Holding.{among}
use Rattle.cdcl_theory.specs.CodeLaws.{int_eq-same}

-- A list has the literals of its set.
pub contains_among : (lits : List ℤ) (l : ℤ) → among lits l ≡ true → Contains lits l
contains_among lits l is = Contains-from_any {eq = int_eq} (λ x y e. (Decides-int_eq x y).0 e) l lits is

pub among_contains : (lits : List ℤ) (l : ℤ) → Contains lits l → among lits l ≡ true
among_contains lits l (k, low, is) = list_any_at (λ m. int_eq l m) lits k l low (int_eq-same l (get_or lits k l) (sym is))

pub all_contained : (lits inner : List ℤ) → All (λ l. among lits l ≡ true) inner → All (Contains lits) inner
all_contained lits inner all = All-weaker (λ l. among lits l ≡ true) (Contains lits) (λ l is. contains_among lits l is) inner all

pub all_among : (lits inner : List ℤ) → All (Contains lits) inner → All (λ l. among lits l ≡ true) inner
all_among lits inner all = All-weaker (Contains lits) (λ l. among lits l ≡ true) (λ l is. among_contains lits l is) inner all

-- The literals kept of a list are inside it, and are a clause if it is one.
pub filter_inside : (p : ℤ → Bool) (lits : List ℤ) → All (Contains lits) (filter p lits)
filter_inside p lits = All-filter p (Contains lits) lits (All-contains_itself lits)

pub filter_clause : (p : ℤ → Bool) (lits : List ℤ) → IsClause lits → IsClause (filter p lits)
filter_clause p lits clause = record {
  literals = All-filter p (λ l. 0 < variable l) lits clause.literals;
  differ = AllPairs-filter (λ l m. variable l ≢ variable m) p lits clause.differ;
}
