-- Each step is an out or is read by a step of a higher level, and a step reads at most two places.
use Rattle.std.proofs.Common.{◌≡◌, ℕ, zero, suc, ◌+◌, ◌*◌, ◌≤◌, ◌<◌, ◌==◌, Bool, true, false, ◌||◌, List, [], ◌∷◌, length, ltb, leb, eqb-true, refl, sym, ap, ◌∙◌, arith, inl, inr, ⊎_elim, ◌⊎◌, subst}
use Rattle.std.specs.Prelude.{slice_index_or, if◌then◌else◌}
use Rattle.std.proofs.lemmas.Option.{slice_get_within}
use Rattle.std.proofs.lemmas.Bool.{cases_lt, cases_order, cases_Bool, or_left, or_right, eq-eqb, lt-ltb, le-leb, le-ltb, leb-true, ne_eqb}
use Rattle.chain_theory.specs.Chain.{Step, Chain, IsChain}
use Rattle.chain_theory.specs.declared.data.Out.{Out}
use Rattle.chain_theory.specs.declared.data.Out.TheVariants.{Zero, One, Place}
use Rattle.op_basis.specs.Closed.{number}
use Rattle.chain_laws.specs.Follow.{step_at, step_at_get, step_at_is}
use Rattle.chain_theory.specs.Levels.{level}
use Rattle.chain_theory.specs.LevelLaws.{level_rises}
use Rattle.chain_laws.specs.NormalForm.{IsStep, IsOut, IsRead, Reads}
use Rattle.chain_laws.specs.Tallies.{tally, number_or, tally_both, tally_none, tally_one, tally_apart, number_low, number_true, number_false}

-- how many steps have the level l
abbrev pub width : Chain → ℕ → ℕ
width c l = tally (λ i. level c (c.n + 1 + i) == l) (length c.steps)

-- how many steps have a level above l
abbrev pub above : Chain → ℕ → ℕ
above c l = tally (λ i. ltb l (level c (c.n + 1 + i))) (length c.steps)

-- each step is an out or is read
abbrev pub AreOutsOrRead : Chain → Type 0
AreOutsOrRead c = (i : ℕ) (a : Step) → IsStep c i a → IsOut c (c.n + 1 + i) ⊎ IsRead c (c.n + 1 + i)

-- ---- places that steps read

-- p is an operand of the step, and the step is counted
abbrev reads_bit : Bool → Step → ℕ → Bool
reads_bit counts a p = if counts then a.j == p || a.k == p else false

-- a step that is counted, with an index below k, reads the place n + 1 + i
unfoldable hit : (ℕ → Bool) → (ℕ → Step) → ℕ → ℕ → ℕ → Bool
hit counts step n zero i = false
hit counts step n (suc k) i = hit counts step n k i || reads_bit (counts k) (step k) (n + 1 + i)

one_place : (t n bound : ℕ) → tally (λ i. t == n + 1 + i) bound ≤ 1
one_place t n bound = tally_one (λ i. t == n + 1 + i) bound (λ i k at_i at_k. omega (arith, eqb-true t (n + 1 + i) at_i, eqb-true t (n + 1 + k) at_k))

two_places : (a : Step) (n bound : ℕ) → tally (λ i. a.j == n + 1 + i || a.k == n + 1 + i) bound ≤ 2
two_places a n bound = omega (
  arith,
  tally_both (λ i. a.j == n + 1 + i) (λ i. a.k == n + 1 + i) (λ i. a.j == n + 1 + i || a.k == n + 1 + i) bound (λ i low. number_or (a.j == n + 1 + i) (a.k == n + 1 + i)),
  one_place a.j n bound,
  one_place a.k n bound,
)

reads_few : (counts : Bool) (a : Step) (n bound : ℕ) → tally (λ i. reads_bit counts a (n + 1 + i)) bound ≤ 2 * number counts
reads_few true a n bound = two_places a n bound
reads_few false a n bound = omega (arith, tally_none (λ i. false) bound (λ i low. refl))

hits_few : (counts : ℕ → Bool) (step : ℕ → Step) (n bound k : ℕ) → tally (hit counts step n k) bound ≤ 2 * tally counts k
unfolding hit tally
hits_few counts step n bound zero = omega (arith, tally_none (λ i. false) bound (λ i low. refl))
hits_few counts step n bound (suc k) = omega (
  arith,
  hits_few counts step n bound k,
  reads_few (counts k) (step k) n bound,
  tally_both (hit counts step n k) (λ i. reads_bit (counts k) (step k) (n + 1 + i)) (hit counts step n (suc k)) bound
      (λ i low. number_or (hit counts step n k i) (reads_bit (counts k) (step k) (n + 1 + i))),
)

reads_true : (counts : Bool) (a : Step) (p : ℕ) → counts ≡ true → Reads a p → reads_bit counts a p ≡ true
reads_true true a p e reads = ⊎_elim (λ (at_j : a.j ≡ p). or_left (a.j == p) (a.k == p) (eq-eqb a.j p at_j)) (λ (at_k : a.k ≡ p). or_right (a.j == p) (a.k == p) (eq-eqb a.k p at_k)) reads
reads_true false a p e reads = absurd cc

hit_true : (counts : ℕ → Bool) (step : ℕ → Step) (n i k bound : ℕ) → k < bound → counts k ≡ true → Reads (step k) (n + 1 + i) → hit counts step n bound i ≡ true
unfolding hit
hit_true counts step n i k zero low on reads = absurd (omega arith)
hit_true counts step n i k (suc bound) low on reads = ⊎_elim
    (λ (below : k < bound). or_left (hit counts step n bound i) (reads_bit (counts bound) (step bound) (n + 1 + i)) (hit_true counts step n i k bound below on reads))
    (λ (past : bound ≤ k).
    let same : k ≡ bound = omega arith in
    or_right (hit counts step n bound i) (reads_bit (counts bound) (step bound) (n + 1 + i))
    (reads_true (counts bound) (step bound) (n + 1 + i) (ap counts (sym same)
    ∙ on) (subst (λ (x : ℕ). Reads (step x) (n + 1 + i)) same reads)))
    (cases_lt k bound)

-- ---- places that are outs

abbrev is_place : ℕ → Out → Bool
is_place p Zero = false
is_place p One = false
is_place p (Place q) = q == p

-- the out of some output is the place n + 1 + i
unfoldable is_some_out : List Out → ℕ → ℕ → Bool
is_some_out [] n i = false
is_some_out (o ∷ os) n i = is_place (n + 1 + i) o || is_some_out os n i

one_out : (o : Out) (n bound : ℕ) → tally (λ i. is_place (n + 1 + i) o) bound ≤ 1
one_out Zero n bound = omega (arith, tally_none (λ i. false) bound (λ i low. refl))
one_out One n bound = omega (arith, tally_none (λ i. false) bound (λ i low. refl))
one_out (Place q) n bound = one_place q n bound

outs_few : (outs : List Out) (n bound : ℕ) → tally (is_some_out outs n) bound ≤ length outs
unfolding is_some_out
outs_few [] n bound = omega (arith, tally_none (λ i. false) bound (λ i low. refl))
outs_few (o ∷ os) n bound = omega (
  arith,
  outs_few os n bound,
  one_out o n bound,
  tally_both (λ i. is_place (n + 1 + i) o) (is_some_out os n) (is_some_out (o ∷ os) n) bound (λ i low. number_or (is_place (n + 1 + i) o) (is_some_out os n i)),
)

out_true : (outs : List Out) (n i k : ℕ) → k < length outs → slice_index_or outs k (Place (n + 1 + i)) ≡ Place (n + 1 + i) → is_some_out outs n i ≡ true
unfolding is_some_out
out_true [] n i k low at = absurd (omega arith)
out_true (o ∷ os) n i zero low at = or_left (is_place (n + 1 + i) o) (is_some_out os n i) (ap (is_place (n + 1 + i)) at ∙ eq-eqb (n + 1 + i) (n + 1 + i) refl)
out_true (o ∷ os) n i (suc k) low at = or_right (is_place (n + 1 + i) o) (is_some_out os n i) (out_true os n i k (omega arith) at)

-- ---- the count

-- the numbers at a level and those above it
tally_split : (f : ℕ → ℕ) (l r : ℕ) → tally (λ i. f i == l) r + tally (λ i. ltb l (f i)) r ≤ tally (λ i. leb l (f i)) r
tally_split f l r = tally_apart (λ i. f i == l) (λ i. ltb l (f i)) (λ i. leb l (f i)) r
    (λ i low. elim (cases_order l (f i)) [
      | inl same ↦ omega (arith, number_true (leb l (f i)) (le-leb l (f i) (omega (arith, same))), number_false (ltb l (f i)) (le-ltb l (f i) (omega (arith, same))), number_low (f i == l))
      | inr (inl less) ↦ omega (
        arith,
        number_true (leb l (f i)) (le-leb l (f i) (omega (arith, less))),
        number_false (f i == l) (ne_eqb (f i) l (λ e. omega (arith, less, e))),
        number_low (ltb l (f i)),
      )
      | inr (inr more) ↦ omega (arith, number_false (ltb l (f i)) (le-ltb l (f i) (omega (arith, more))), number_false (f i == l) (ne_eqb (f i) l (λ e. omega (arith, more, e))))
    ])

covered : (c : Chain) → IsChain c → AreOutsOrRead c → (l i : ℕ) → i < length c.steps →
    number (leb l (level c (c.n + 1 + i))) ≤ number (hit (λ k. ltb l (level c (c.n + 1 + k))) (step_at c.steps) c.n
    (length c.steps) i) + number (is_some_out c.outs c.n i)
covered c is used l i low =
    let n : ℕ = c.n in
    let high : ℕ → Bool = λ k. ltb l (level c (n + 1 + k)) in
    let read : Bool = hit high (step_at c.steps) n (length c.steps) i in
    let named : Bool = is_some_out c.outs n i in
    ⊎_elim
    (λ (at_least : leb l (level c (n + 1 + i)) ≡ true). ⊎_elim
    (λ (out : IsOut c (n + 1 + i)). omega (arith, number_true named (out_true c.outs n i out.0 out.1 out.2), number_low (leb l (level c (n + 1 + i)))))
    (λ (reader : IsRead c (n + 1 + i)).
    let k : ℕ = reader.0 in
    let a : Step = reader.1 in
    let at_k : IsStep c k a = reader.2 in
    let k_low : k < length c.steps = slice_get_within c.steps k a at_k in
    let same : step_at c.steps k ≡ a = step_at_is c.steps k a at_k in
    let rises = level_rises n c.steps is.steps k a at_k in
    let l_low : l ≤ level c (n + 1 + i) = leb-true l (level c (n + 1 + i)) at_least in
    let higher : l < level c (n + 1 + k) = ⊎_elim
    (λ (at_j : a.j ≡ n + 1 + i). omega (arith, rises.0, l_low, ap (level c) at_j))
    (λ (at_k2 : a.k ≡ n + 1 + i). omega (arith, rises.1, l_low, ap (level c) at_k2))
    reader.3 in
    let hits : read ≡ true = hit_true high (step_at c.steps) n i k (length c.steps) k_low (lt-ltb l (level c (n + 1 + k)) higher) (subst (λ (x : Step). Reads x (n + 1 + i)) (sym same) reader.3) in
    omega (arith, number_true read hits, number_low (leb l (level c (n + 1 + i)))))
    (used i (step_at c.steps i) (step_at_get c.steps i low)))
    (λ (lower : leb l (level c (n + 1 + i)) ≡ false). omega (arith, number_false (leb l (level c (n + 1 + i))) lower))
    (cases_Bool (leb l (level c (n + 1 + i))))

-- A level has at most as many steps as all levels above it together have, plus the number of outs: each
-- step from this level on is an out or is read by a step above the level, and a step reads two places.
pub level_counts : (c : Chain) → IsChain c → AreOutsOrRead c → (l : ℕ) → width c l ≤ above c l + length c.outs
level_counts c is used l =
    let high : ℕ → Bool = λ k. ltb l (level c (c.n + 1 + k)) in
    let r : ℕ = length c.steps in
    let read : ℕ → Bool = hit high (step_at c.steps) c.n r in
    omega (
      arith,
      tally_split (λ i. level c (c.n + 1 + i)) l r,
      tally_both read (is_some_out c.outs c.n) (λ i. leb l (level c (c.n + 1 + i))) r (covered c is used l),
      hits_few high (step_at c.steps) c.n r r,
      outs_few c.outs c.n r,
    )
