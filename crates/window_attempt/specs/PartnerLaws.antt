-- The partners of a root are descending, so the first one below a node is the greatest.
use Rattle.std.specs.Prelude.{◌≡◌, ℕ, ◌≤◌, ◌<◌, true, false, nat_lt, if◌then◌else◌, List, [], ◌∷◌, Option, None, Some}
use Rattle.std.proofs.Common.{arith, sym, subst, ⊎_elim}
use Rattle.std.proofs.lemmas.Bool.{cond-true, cond-false, both_ways, cases_lt}
use Rattle.std.proofs.lemmas.Grind.{common_steps}
use Rattle.net_theory.specs.Net.{Net}
use Rattle.window_theory.specs.Nodes.{among, IsFalling}
use Rattle.window_theory.specs.NodeLaws.{among_cases, among_first, among_later}
use Rattle.window_theory.specs.Partner.{ArePartners, IsPartner}
use Rattle.window_theory.specs.PartnerLaws.{partners_one}
use Rattle.improve_theory.specs.Candidates.{IsNextPartner}

-- the first of the nodes below another one
unfoldable pub first_below : List ℕ → ℕ → Option ℕ
first_below [] below = None
first_below (p ∷ nodes) below = if nat_lt p below then Some p else first_below nodes below

-- ---- descending nodes

-- None is below, or the first one that is: no other one below is greater.
abbrev IsFirst : List ℕ → ℕ → Option ℕ → Type 0
IsFirst nodes below None = (q : ℕ) → among nodes q ≡ true → q < below → ⊥
IsFirst nodes below (Some p) = (p < below) × (among nodes p ≡ true) × ((q : ℕ) → among nodes q ≡ true → q < below → q ≤ p)

lt_yes : (p q : ℕ) → p < q → nat_lt p q ≡ true
lt_yes p q low = grind (arith, common_steps, low)

lt_no : (p q : ℕ) → q ≤ p → nat_lt p q ≡ false
lt_no p q high = grind (arith, common_steps, high)

after_first : (p : ℕ) (nodes : List ℕ) (below : ℕ) (o : Option ℕ) → below ≤ p → IsFirst nodes below o → IsFirst (p ∷ nodes) below o
after_first p nodes below None high first = λ q on low. ⊎_elim (λ (own : q ≡ p). omega (arith, own, low, high)) (λ later. first q later low) (among_cases p q nodes on)
after_first p nodes below (Some r) high first =
    (first.0, among_later p r nodes first.1, λ q on low. ⊎_elim (λ (own : q ≡ p). absurd (omega (arith, own, low, high))) (λ later. first.2 q later low) (among_cases p q nodes on))

first_is : (nodes : List ℕ) (below : ℕ) → IsFalling nodes → IsFirst nodes below (first_below nodes below)
unfolding first_below IsFalling
first_is [] below falling = λ q on low. let e : false ≡ true = on in cc
first_is (p ∷ nodes) below falling =
    ⊎_elim
    (λ (low : p < below).
    subst (λ (o : Option ℕ). IsFirst (p ∷ nodes) below o) (sym (cond-true (nat_lt p below) (Some p) (first_below nodes below) (lt_yes p below low)))
    (low, among_first p nodes, λ q on small. ⊎_elim (λ (own : q ≡ p). omega (arith, own)) (λ later. let less : q < p = falling.0 q later in omega (arith, less)) (among_cases p q nodes on)))
    (λ (high : below ≤ p).
    subst (λ (o : Option ℕ). IsFirst (p ∷ nodes) below o) (sym (cond-false (nat_lt p below) (Some p) (first_below nodes below) (lt_no p below high)))
    (after_first p nodes below (first_below nodes below) high (first_is nodes below falling.1)))
    (cases_lt p below)

-- ---- partners

on_list : (n : Net) (root h : ℕ) (partners : List ℕ) → ArePartners n root partners → IsPartner n root h → among partners h ≡ true
on_list n root h partners are is = subst (λ (ps : List ℕ). among ps h ≡ true) (partners_one n root is.partners partners is.are are) is.one

one_of : (n : Net) (root h : ℕ) (partners : List ℕ) → ArePartners n root partners → among partners h ≡ true → IsPartner n root h
one_of n root h partners are on = record { partners = partners; are = are; one = on }

next_by : (n : Net) (root below : ℕ) (partners : List ℕ) (o : Option ℕ) → ArePartners n root partners → IsFirst partners below o → IsNextPartner n root below o
next_by n root below partners None are first = record { none = λ h gate is low. first h (on_list n root h partners are is) low }
next_by n root below partners (Some p) are first = record {
  low = first.0;
  partner_is = one_of n root p partners are first.1;
  greatest = λ h is low. first.2 h (on_list n root h partners are is) low;
}

pub next_is : (n : Net) (root below : ℕ) (partners : List ℕ) (o : Option ℕ) → ArePartners n root partners → o ≡ first_below partners below → IsNextPartner n root below o
next_is n root below partners o are e = subst (λ (x : Option ℕ). IsNextPartner n root below x) (sym e)
    (next_by n root below partners (first_below partners below) are (first_is partners below are.falling))

pub partner_there : (n : Net) (root h : ℕ) (partners : List ℕ) → ArePartners n root partners → among partners h ≡ true → IsPartner n root h
partner_there n root h partners are on = one_of n root h partners are on

pub partner_not : (n : Net) (root h : ℕ) (partners : List ℕ) → ArePartners n root partners → among partners h ≡ false → IsPartner n root h → ⊥
partner_not n root h partners are off is = both_ways (among partners h) off (on_list n root h partners are is)

pub ruleset choosing = (common_steps, next_is, partner_there, partner_not)
