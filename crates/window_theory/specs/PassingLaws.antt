-- The number of gates that pass a test.
use Rattle.std.specs.Prelude.{◌≡◌, ℕ, ◌+◌, ◌≤◌, ◌<◌, Bool, true, false, ◌&&◌, if◌then◌else◌, List, [], ◌∷◌, ◌++◌, length, refl}
use Rattle.std.proofs.Common.{arith, sym, ◌∙◌, subst, ⊎_elim, ◌≢◌}
use Rattle.std.proofs.lemmas.Bool.{cond-true, cond-false, cases_eq, cases_Bool, both_ways}
use Rattle.net_theory.specs.declared.data.Gate.{Gate}
use Rattle.net_theory.specs.Moving.{Kept, moved_gate, with_kept, kept_after}
use Rattle.window_theory.specs.Nodes.{among, IsRising}
use Rattle.window_theory.specs.NodeLaws.{among_cases, among_first, among_later}
use Rattle.window_theory.specs.Substituted.{passing}

-- one gate more
passing_push : (test : ℕ → Bool) (node : ℕ) (gs : List Gate) (g : Gate) → passing (λ p op. test op) node (gs ++ g ∷ []) ≡ passing (λ p op. test op) node gs + (if test g.op then 1 else 0)
unfolding passing
passing_push test node [] g = omega arith
passing_push test node (h ∷ gs) g = omega (arith, passing_push test (node + 1) gs g)

-- Copied gates keep their operators.
pub passing_kept : (test marks : ℕ → Bool) (sources start : ℕ) (k : Kept) (node : ℕ) (gs : List Gate) →
    passing (λ p op. test op) start (kept_after marks sources k node gs).gates ≡
    passing (λ p op. test op) start k.gates + passing (λ p op. marks p && test op) node gs
unfolding kept_after passing
passing_kept test marks sources start k node [] = omega arith
passing_kept test marks sources start k node (g ∷ gs) =
    omega (arith, passing_kept test marks sources start (if marks node then with_kept sources k node g else k) (node + 1) gs, one (marks node)) where
      one : (t : Bool) → passing (λ p op. test op) start (if t then with_kept sources k node g else k).gates ≡ passing (λ p op. test op) start k.gates + (if t && test g.op then 1 else 0)
      one true = passing_push test start k.gates (moved_gate k.nodes g)
      one false = omega arith

-- Two tests that exclude each other, and the test that one of them holds.
pub passing_parts : (a b both : ℕ → ℕ → Bool) (node : ℕ) (gs : List Gate) →
    ((p op : ℕ) → (if a p op then 1 else 0) + (if b p op then 1 else 0) ≡ (if both p op then 1 else 0)) →
    passing a node gs + passing b node gs ≡ passing both node gs
unfolding passing
passing_parts a b both node [] one = refl
passing_parts a b both node (g ∷ gs) one = omega (arith, one node g.op, passing_parts a b both (node + 1) gs one)

-- Tests that agree from `node` on.
passing_same : (a b : ℕ → ℕ → Bool) (node : ℕ) (gs : List Gate) → ((p op : ℕ) → node ≤ p → a p op ≡ b p op) → passing a node gs ≡ passing b node gs
unfolding passing
passing_same a b node [] same = refl
passing_same a b node (g ∷ gs) same =
    rw (same node g.op (omega arith), passing_same a b (node + 1) gs (λ p op low. same p op (omega arith))) refl

-- every gate passes
pub passing_all : (node : ℕ) (gs : List Gate) → passing (λ p op. true) node gs ≡ length gs
unfolding passing
passing_all node [] = refl
passing_all node (g ∷ gs) = omega (arith, passing_all (node + 1) gs)

-- the nodes are those of gates of the list
abbrev pub AreWithin : ℕ → List Gate → List ℕ → Type 0
AreWithin node gs nodes = (p : ℕ) → among nodes p ≡ true → (node ≤ p) × (p < node + length gs)

not_among : (nodes : List ℕ) (p : ℕ) → (among nodes p ≡ true → ⊥) → among nodes p ≡ false
not_among nodes p none = ⊎_elim (λ on. absurd (none on)) (λ off. off) (cases_Bool (among nodes p))

among_same : (x q : ℕ) (nodes : List ℕ) → q ≢ x → among (x ∷ nodes) q ≡ among nodes q
among_same x q nodes other =
    ⊎_elim
    (λ on. among_later x q nodes on ∙ sym on)
    (λ off. not_among (x ∷ nodes) q (λ e. ⊎_elim (λ (same : q ≡ x). other same) (λ later. both_ways (among nodes q) off later) (among_cases x q nodes e)) ∙ sym off)
    (cases_Bool (among nodes q))

-- As many gates are at nodes of a list as the list has nodes.
pub passing_among : (node : ℕ) (gs : List Gate) (nodes : List ℕ) → IsRising nodes → AreWithin node gs nodes → passing (λ p op. among nodes p) node gs ≡ length nodes
unfolding passing IsRising
passing_among node [] [] rising within = refl
passing_among node [] (p ∷ nodes) rising within = absurd (let r = within p (among_first p nodes) in omega (arith, r.0, r.1))
passing_among node (g ∷ gs) [] rising within =
    let rest : passing (λ p op. among [] p) (node + 1) gs ≡ length {A = ℕ} [] = passing_among (node + 1) gs [] tt (λ p e. absurd (let x : false ≡ true = e in cc)) in
    omega (arith, rest)
passing_among node (g ∷ gs) (x ∷ nodes) rising within =
    ⊎_elim
    (λ (own : x ≡ node).
    let rest : passing (λ p op. among nodes p) (node + 1) gs ≡ length nodes =
    passing_among (node + 1) gs nodes rising.1 (λ p e. let above : x < p = rising.0 p e in
    let r = within p (among_later x p nodes e) in (omega (arith, above, own), omega (arith, r.1))) in
    let same : passing (λ p op. among (x ∷ nodes) p) (node + 1) gs ≡ passing (λ p op. among nodes p) (node + 1) gs =
    passing_same (λ p op. among (x ∷ nodes) p) (λ p op. among nodes p) (node + 1) gs (λ p op low.
    among_same x p nodes (omega (arith, low, own))) in
    let here : among (x ∷ nodes) node ≡ true = subst (λ (q : ℕ). among (x ∷ nodes) q ≡ true) own (among_first x nodes) in
    let head : ◌≡◌ {A = ℕ} (if among (x ∷ nodes) node then 1 else 0) 1 = cond-true (among (x ∷ nodes) node) 1 0 here in
    omega (arith, rest, same, head))
    (λ other.
    let low = within x (among_first x nodes) in
    let none : among (x ∷ nodes) node ≡ false = not_among (x ∷ nodes) node (λ e. ⊎_elim
    (λ (same : node ≡ x). other (sym same))
    (λ later. let above : x < node = rising.0 node later in omega (arith, above, low.0))
    (among_cases x node nodes e)) in
    let head : ◌≡◌ {A = ℕ} (if among (x ∷ nodes) node then 1 else 0) 0 = cond-false (among (x ∷ nodes) node) 1 0 none in
    let rest : passing (λ p op. among (x ∷ nodes) p) (node + 1) gs ≡ length (x ∷ nodes) = passing_among (node + 1) gs (x ∷ nodes) rising (λ p e. let r = within p e in (
      ⊎_elim
          (λ (same : p ≡ x). omega (arith, same, low.0, other))
          (λ later. let above : x < p = rising.0 p later in omega (arith, above, low.0))
          (among_cases x p nodes e),
      omega (arith, r.1),
    )) in
    omega (arith, rest, head))
    (cases_eq x node)
