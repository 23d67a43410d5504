-- Which literals are marked as outputs or next states, and which gates are listed as their complements.
use Rattle.std.proofs.Common.{◌≡◌, ℕ, zero, suc, ◌+◌, ◌*◌, ◌/◌, ◌≤◌, ◌<◌, Bool, true, false, List, [], ◌∷◌, length, refl, ap, ◌∙◌, sym, subst, arith, inl, inr, ⊎_elim, ◌⊎◌}
use Rattle.std.specs.Prelude.{not, ◌||◌, ◌==◌, replicate, slice_set, slice_get, Some}
use Rattle.std.specs.List.{list_any}
use Rattle.std.proofs.lemmas.Bool.{and_parts, eq-eqb}
use Rattle.std.proofs.lemmas.List.{get_or-set_same, get_or-set_other, length-set}
use Rattle.aiger_text.specs.declared.file.AigGate.{AigGate}
use Rattle.aiger_text.specs.Meaning.{bit_at, with_marks, is_turned, with_turns}
use Rattle.aiger_laws.proofs.MappedShape.{IsGateOf}
use Rattle.aiger_laws.proofs.Charges.{among}

-- ---- writes

set_true : (marks : List Bool) (place lit : ℕ) → bit_at marks lit ≡ true → bit_at (slice_set marks place true) lit ≡ true
set_true [] place lit e = e
set_true (m ∷ marks) zero zero e = refl
set_true (m ∷ marks) zero (suc lit) e = e
set_true (m ∷ marks) (suc place) zero e = e
set_true (m ∷ marks) (suc place) (suc lit) e = set_true marks place lit e

set_cases : (marks : List Bool) (place lit : ℕ) → bit_at (slice_set marks place true) lit ≡ true → (bit_at marks lit ≡ true) ⊎ (place ≡ lit)
set_cases [] place lit e = inl e
set_cases (m ∷ marks) zero zero e = inr refl
set_cases (m ∷ marks) zero (suc lit) e = inl e
set_cases (m ∷ marks) (suc place) zero e = inl e
set_cases (m ∷ marks) (suc place) (suc lit) e = ⊎_elim (λ old. inl old) (λ same. inr (ap suc same)) (set_cases marks place lit e)

-- ---- marks

pub marks_length : (marks : List Bool) (lits : List ℕ) → length (with_marks marks lits) ≡ length marks
unfolding with_marks
marks_length marks [] = refl
marks_length marks (lit ∷ lits) = marks_length (slice_set marks lit true) lits ∙ length-set marks lit true

pub marks_keep : (marks : List Bool) (lits : List ℕ) (lit : ℕ) → bit_at marks lit ≡ true → bit_at (with_marks marks lits) lit ≡ true
unfolding with_marks
marks_keep marks [] lit e = e
marks_keep marks (x ∷ lits) lit e = marks_keep (slice_set marks x true) lits lit (set_true marks x lit e)

pub marks_set : (marks : List Bool) (lits : List ℕ) (i lit : ℕ) → slice_get lits i ≡ Some lit → lit < length marks → bit_at (with_marks marks lits) lit ≡ true
unfolding with_marks
marks_set marks [] i lit at low = absurd cc
marks_set marks (x ∷ lits) zero lit at low =
    let same : x ≡ lit = cc in
    marks_keep (slice_set marks x true) lits lit (subst (λ (n : ℕ). bit_at (slice_set marks n true) lit ≡ true) (sym same) (get_or-set_same marks lit true false low))
marks_set marks (x ∷ lits) (suc i) lit at low = marks_set (slice_set marks x true) lits i lit at (omega (arith, low, length-set marks x true))

or_left : (a b : Bool) → a ≡ true → (a || b) ≡ true
or_left true b e = refl
or_left false b e = absurd cc

or_right : (a b : Bool) → b ≡ true → (a || b) ≡ true
or_right true b e = refl
or_right false b e = e

-- what is marked was marked, or is one of the literals
pub marks_cases : (marks : List Bool) (lits : List ℕ) (lit : ℕ) → bit_at (with_marks marks lits) lit ≡ true → (bit_at marks lit ≡ true) ⊎ (among lits lit ≡ true)
unfolding with_marks among
marks_cases marks [] lit e = inl e
marks_cases marks (x ∷ lits) lit e =
    ⊎_elim
    (λ before. ⊎_elim (λ old. inl old) (λ same. inr (or_left (x == lit) (list_any (λ (z : ℕ). z == lit) lits) (eq-eqb x lit same))) (set_cases marks x lit before))
    (λ later. inr (or_right (x == lit) (list_any (λ (z : ℕ). z == lit) lits) later))
    (marks_cases (slice_set marks x true) lits lit e)

pub none_marked : (n lit : ℕ) → bit_at (replicate n false) lit ≡ true → ⊥
none_marked zero lit e = absurd cc
none_marked (suc n) zero e = absurd cc
none_marked (suc n) (suc lit) e = none_marked n lit e

-- ---- turns

pub turns_length : (marks turns : List Bool) (gs : List AigGate) → length (with_turns marks turns gs) ≡ length turns
unfolding with_turns
turns_length marks turns [] = refl
turns_length marks turns (g ∷ gs) = turns_length marks (slice_set turns (g.literal / 2) (is_turned marks g.literal)) gs ∙ length-set turns (g.literal / 2) (is_turned marks g.literal)

-- the gates are those of the variables from v on
abbrev pub AreGatesFrom : ℕ → List AigGate → Type 0
AreGatesFrom v gs = (i : ℕ) (g : AigGate) → slice_get gs i ≡ Some g → IsGateOf (v + i) g

pub later_gates : (v : ℕ) (g : AigGate) (gs : List AigGate) → AreGatesFrom v (g ∷ gs) → AreGatesFrom (v + 1) gs
later_gates v g gs each i h at = let place : v + suc i ≡ v + 1 + i = omega arith in subst (λ (n : ℕ). IsGateOf n h) place (each (suc i) h at)

half_is : (v : ℕ) (g : AigGate) → IsGateOf v g → g.literal / 2 ≡ v
half_is v g is = omega (arith, is.literal)

-- variables before the gates aren't changed
pub turns_before : (marks turns : List Bool) (v w : ℕ) (gs : List AigGate) → AreGatesFrom v gs → w < v → bit_at (with_turns marks turns gs) w ≡ bit_at turns w
unfolding with_turns
turns_before marks turns v w [] each low = refl
turns_before marks turns v w (g ∷ gs) each low =
    turns_before marks (slice_set turns (g.literal / 2) (is_turned marks g.literal)) (v + 1) w gs (later_gates v g gs each) (omega (arith, low))
    ∙ get_or-set_other turns (g.literal / 2) w (is_turned marks g.literal) false (λ e. omega (arith, e, low, half_is (v + 0) g (each 0 g refl)))

-- that of a gate is whether it is listed as its complement
pub turns_at : (marks turns : List Bool) (v i : ℕ) (gs : List AigGate) → AreGatesFrom v gs → i < length gs → v + length gs ≤ length turns →
    bit_at (with_turns marks turns gs) (v + i) ≡ is_turned marks ((v + i) * 2)
unfolding with_turns
turns_at marks turns v i [] each low room = absurd (omega (arith, low))
turns_at marks turns v zero (g ∷ gs) each low room =
    let here = each 0 g refl in
    let half : g.literal / 2 ≡ v + 0 = half_is (v + 0) g here in
    let turned = slice_set turns (g.literal / 2) (is_turned marks g.literal) in
    turns_before marks turned (v + 1) (v + 0) gs (later_gates v g gs each) (omega arith)
    ∙ ap (λ (p : ℕ). bit_at (slice_set turns p (is_turned marks g.literal)) (v + 0)) half
    ∙ get_or-set_same turns (v + 0) (is_turned marks g.literal) false (omega (arith, room))
    ∙ ap (is_turned marks) here.literal
turns_at marks turns v (suc i) (g ∷ gs) each low room =
    let place : v + suc i ≡ v + 1 + i = omega arith in
    let turned = slice_set turns (g.literal / 2) (is_turned marks g.literal) in
    let size : length turned ≡ length turns = length-set turns (g.literal / 2) (is_turned marks g.literal) in
    ap (bit_at (with_turns marks turned gs)) place
    ∙ turns_at marks turned (v + 1) i gs (later_gates v g gs each) (omega (arith, low)) (omega (arith, room, size))
    ∙ ap (λ (n : ℕ). is_turned marks (n * 2)) (sym place)

turned_even : (marks : List Bool) (lit : ℕ) → is_turned marks lit ≡ true → bit_at marks lit ≡ false
turned_even marks lit e = not_true (bit_at marks lit) (and_parts (bit_at marks (lit + 1)) (not (bit_at marks lit)) e).1 where
  not_true : (b : Bool) → not b ≡ true → b ≡ false
  not_true true h = absurd cc
  not_true false h = refl

-- a gate that is listed as its complement is itself neither output nor next state
pub turned_unmarked : (marks turns : List Bool) (v w : ℕ) (gs : List AigGate) → AreGatesFrom v gs → ((w : ℕ) → bit_at turns w ≡ true → bit_at marks (w * 2) ≡ false) →
    bit_at (with_turns marks turns gs) w ≡ true → bit_at marks (w * 2) ≡ false
unfolding with_turns
turned_unmarked marks turns v w [] each before e = before w e
turned_unmarked marks turns v w (g ∷ gs) each before e =
    let here = each 0 g refl in
    let half : g.literal / 2 ≡ v + 0 = half_is (v + 0) g here in
    turned_unmarked marks (slice_set turns (g.literal / 2) (is_turned marks g.literal)) (v + 1) w gs (later_gates v g gs each)
    (λ p bit. ⊎_elim
    (λ old. before p old)
    (λ new. let literal : g.literal ≡ p * 2 = omega (arith, new.0, half, here.literal) in
    subst (λ (n : ℕ). bit_at marks n ≡ false) literal (turned_even marks g.literal new.1))
    (set_either turns (g.literal / 2) p (is_turned marks g.literal) bit)) e where
      set_either : (bits : List Bool) (place p : ℕ) (b : Bool) → bit_at (slice_set bits place b) p ≡ true → (bit_at bits p ≡ true) ⊎ ((place ≡ p) × (b ≡ true))
      set_either [] place p b e = inl e
      set_either (x ∷ bits) zero zero b e = inr (refl, e)
      set_either (x ∷ bits) zero (suc p) b e = inl e
      set_either (x ∷ bits) (suc place) zero b e = inl e
      set_either (x ∷ bits) (suc place) (suc p) b e = ⊎_elim (λ old. inl old) (λ new. inr (ap suc new.0, new.1)) (set_either bits place p b e)
