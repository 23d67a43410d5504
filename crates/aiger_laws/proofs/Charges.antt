-- Each NOT of the document of a circuit's file is paid by a gate of the circuit that became no AND gate: a variable needs
-- one where both of its literals (of a source, its complement) are those of nodes, and each gate of the net adds one
-- literal, or one AND gate with a new variable.
use Rattle.std.proofs.Common.{◌≡◌, ℕ, zero, suc, ◌+◌, ◌*◌, ◌/◌, ◌≤◌, ◌<◌, Bool, true, false, List, [], ◌∷◌, ◌++◌, length, length-append, refl, ap, ◌∙◌, sym, subst, arith, inl, inr, ⊎_elim, ◌⊎◌}
use Rattle.std.specs.Prelude.{◌&&◌, ◌||◌, ◌==◌, nat_le, slice_index_or}
use Rattle.std.specs.List.{list_any}
use Rattle.std.proofs.lemmas.Bool.{both_ways, cond_both, eqb-true, eq-eqb, ne_eqb, false_from_ne_true, leb-true}
use Rattle.net_theory.specs.declared.data.Gate.{Gate}
use Rattle.aiger_text.specs.declared.file.AigGate.{AigGate}
use Rattle.aiger_core.specs.Written.{Anded, Mapped, mapped_by, with_node, mapped_from}
use Rattle.aiger_laws.proofs.MappedValues.{node_gate, here_and}
use Rattle.aiger_laws.proofs.MappedShape.{Grows, IsShaped, shaped_by, node_grown, AreAndsAt, later_ands}

-- whether a literal is among the literals
unfoldable pub among : List ℕ → ℕ → Bool
among literals lit = list_any (λ (x : ℕ). x == lit) literals

-- whether a variable needs a NOT
abbrev pub needs_by : Bool → Bool → Bool → Bool
needs_by true even odd = odd
needs_by false even odd = even && odd

abbrev pub needs : ℕ → List ℕ → ℕ → Bool
needs s literals v = needs_by (nat_le v s) (among literals (v * 2)) (among literals (v * 2 + 1))

abbrev pub digit_if : Bool → ℕ
digit_if true = 1
digit_if false = 0

-- how many of the `n` variables from v on need one
unfoldable pub need_count : ℕ → List ℕ → ℕ → ℕ → ℕ
need_count s literals v zero = 0
need_count s literals v (suc n) = digit_if (needs s literals v) + need_count s literals (v + 1) n

-- ---- one literal more

any_push : (literals : List ℕ) (x lit : ℕ) → among (literals ++ x ∷ []) lit ≡ (among literals lit || x == lit)
unfolding among
any_push [] x lit = or_false (x == lit) where
  or_false : (b : Bool) → (b || false) ≡ b
  or_false true = refl
  or_false false = refl
any_push (y ∷ literals) x lit = or_on (y == lit) (list_any (λ (z : ℕ). z == lit) (literals ++ x ∷ [])) (list_any (λ (z : ℕ). z == lit) literals) (x == lit) (any_push literals x lit) where
  or_on : (a b d e : Bool) → b ≡ (d || e) → (a || b) ≡ (a || d || e)
  or_on true b d e h = refl
  or_on false b d e h = h

or_none : (a b : Bool) → b ≡ false → (a || b) ≡ a
or_none true b e = refl
or_none false b e = e

push_other : (literals : List ℕ) (x lit : ℕ) → (x ≡ lit → ⊥) → among (literals ++ x ∷ []) lit ≡ among literals lit
push_other literals x lit other = any_push literals x lit ∙ or_none (among literals lit) (x == lit) (ne_eqb x lit other)

needs_other : (s : ℕ) (literals : List ℕ) (x v : ℕ) → (x / 2 ≡ v → ⊥) → needs s (literals ++ x ∷ []) v ≡ needs s literals v
needs_other s literals x v other =
    let even = push_other literals x (v * 2) (λ e. other (omega (arith, e))) in
    let odd = push_other literals x (v * 2 + 1) (λ e. other (omega (arith, e))) in
    ap (λ (b : Bool). needs_by (nat_le v s) b (among (literals ++ x ∷ []) (v * 2 + 1))) even
    ∙ ap (needs_by (nat_le v s) (among literals (v * 2))) odd

count_other : (s : ℕ) (literals : List ℕ) (x v n : ℕ) → x / 2 < v → need_count s (literals ++ x ∷ []) v n ≡ need_count s literals v n
unfolding need_count
count_other s literals x v zero low = refl
count_other s literals x v (suc n) low =
    ap (λ (b : Bool). digit_if b + need_count s (literals ++ x ∷ []) (v + 1) n) (needs_other s literals x v (λ e. omega (arith, e, low)))
    ∙ ap (λ (k : ℕ). digit_if (needs s literals v) + k) (count_other s literals x (v + 1) n (omega (arith, low)))

digit_few : (b : Bool) → digit_if b ≤ 1
digit_few true = omega arith
digit_few false = omega arith

count_more : (s : ℕ) (literals : List ℕ) (x v n : ℕ) → need_count s (literals ++ x ∷ []) v n ≤ need_count s literals v n + 1
unfolding need_count
count_more s literals x v zero = omega arith
count_more s literals x v (suc n) =
    cond_both (x / 2 == v) 0 0 (λ (z : ℕ).
    digit_if (needs s (literals ++ x ∷ []) v) + need_count s (literals ++ x ∷ []) (v + 1) n ≤ digit_if (needs s literals v) + need_count s literals (v + 1) n + 1)
    (λ e. let half : x / 2 ≡ v = eqb-true (x / 2) v e in
    omega (arith, digit_few (needs s (literals ++ x ∷ []) v), count_other s literals x (v + 1) n (omega (arith, half))))
    (λ e. let same : digit_if (needs s (literals ++ x ∷ []) v) ≡ digit_if (needs s literals v) = ap digit_if (needs_other s literals x v (λ half. both_ways (x / 2 == v) e (eq-eqb (x / 2) v half))) in
    omega (arith, same, count_more s literals x (v + 1) n))

-- ---- a literal of a new variable

among_below : (literals : List ℕ) (k lit : ℕ) → ((p : ℕ) → p < length literals → slice_index_or literals p 0 < k) → k ≤ lit → among literals lit ≡ false
unfolding among
among_below [] k lit low high = refl
among_below (x ∷ literals) k lit low high =
    let first : x < k = low 0 (omega arith) in
    or_both (x == lit) (list_any (λ (z : ℕ). z == lit) literals) (ne_eqb x lit (λ e. omega (arith, e, first, high)))
    (among_below literals k lit (λ p small. low (suc p) (omega (arith, small))) high) where
      or_both : (a b : Bool) → a ≡ false → b ≡ false → (a || b) ≡ false
      or_both false b e f = f
      or_both true b e f = absurd cc

needs_none : (high even odd : Bool) → high ≡ false → even ≡ false ⊎ odd ≡ false → needs_by high even odd ≡ false
needs_none false false odd e f = refl
needs_none false true odd e (inl f) = absurd cc
needs_none false true odd e (inr f) = f
needs_none true even odd e f = absurd cc

-- not both literals of a variable are x
only_one : (x v : ℕ) → (x ≡ v * 2 → ⊥) ⊎ (x ≡ v * 2 + 1 → ⊥)
only_one x v =
    cond_both (x == v * 2) 0 0 (λ (z : ℕ). (x ≡ v * 2 → ⊥) ⊎ (x ≡ v * 2 + 1 → ⊥))
    (λ e. let same : x ≡ v * 2 = eqb-true x (v * 2) e in inr (λ odd. omega (arith, same, odd)))
    (λ e. inl (λ same. both_ways (x == v * 2) e (eq-eqb x (v * 2) same)))

needs_fresh : (s k : ℕ) (literals : List ℕ) (x : ℕ) → s < k → ((p : ℕ) → p < length literals → slice_index_or literals p 0 < k * 2) → x / 2 ≡ k →
    needs s (literals ++ x ∷ []) k ≡ false
needs_fresh s k literals x high low half =
    needs_none (nat_le k s) (among (literals ++ x ∷ []) (k * 2)) (among (literals ++ x ∷ []) (k * 2 + 1)) (false_from_ne_true (nat_le k s) (λ e. omega (arith, high, leb-true k s e)))
    (⊎_elim
    (λ even. inl (push_other literals x (k * 2) even ∙ among_below literals (k * 2) (k * 2) low (omega arith)))
    (λ odd. inr (push_other literals x (k * 2 + 1) odd ∙ among_below literals (k * 2) (k * 2 + 1) low (omega arith)))
    (only_one x k))

count_fresh : (s k : ℕ) (literals : List ℕ) (x v n : ℕ) → s < k → ((p : ℕ) → p < length literals → slice_index_or literals p 0 < k * 2) → x / 2 ≡ k →
    need_count s (literals ++ x ∷ []) v n ≤ need_count s literals v n
unfolding need_count
count_fresh s k literals x v zero high low half = omega arith
count_fresh s k literals x v (suc n) high low half =
    let rest = count_fresh s k literals x (v + 1) n high low half in
    cond_both (k == v) 0 0 (λ (z : ℕ). digit_if (needs s (literals ++ x ∷ []) v) + need_count s (literals ++ x ∷ []) (v + 1) n ≤ digit_if (needs s literals v) + need_count s literals (v + 1) n)
    (λ e. let here : digit_if (needs s (literals ++ x ∷ []) v) ≡ 0 = ap digit_if (ap (needs s (literals ++ x ∷ [])) (sym (eqb-true k v e)) ∙ needs_fresh s k literals x high low half) in
    omega (arith, here, rest))
    (λ e. let same : digit_if (needs s (literals ++ x ∷ []) v) ≡ digit_if (needs s literals v) =
    ap digit_if (needs_other s literals x v (λ halved. both_ways (k == v) e (eq-eqb k v (sym half ∙ halved)))) in
    omega (arith, same, rest))

-- ---- nets

-- AND gates and NOTs so far are at most the gates of the net so far
abbrev Pays : ℕ → ℕ → ℕ → Mapped → Type 0
Pays s n spent m = length m.gates + need_count s m.literals 1 n ≤ spent

pays_by : (s node spent n : ℕ) (m : Mapped) (r : Anded) → IsShaped s node spent m → Grows s m.gates r → Pays s n spent m → Pays s n (spent + 1) (mapped_by m.literals r)
pays_by s node spent n m r is (inl same) pays =
    let size : length r.gates ≡ length m.gates = ap (λ (gs : List AigGate). length gs) same.0 in
    omega (arith, pays, size, count_more s m.literals r.literal 1 n)
pays_by s node spent n m r is (inr more) pays =
    let size : length r.gates ≡ length m.gates + 1 = ap (λ (gs : List AigGate). length gs) more.1 ∙ length-append m.gates (more.0 ∷ []) in
    let low : (p : ℕ) → p < length m.literals → slice_index_or m.literals p 0 < (s + 1 + length m.gates) * 2 = λ p small. is.literals p (omega (arith, small, is.count)) in
    omega (arith, pays, size, count_fresh s (s + 1 + length m.gates) m.literals r.literal 1 n (omega arith) low more.3)

pub mapped_pays : (s node spent n : ℕ) (m : Mapped) (gs : List Gate) → IsShaped s node spent m → AreAndsAt node gs → Pays s n spent m →
    Pays s n (spent + length gs) (mapped_from s m gs)
unfolding mapped_from
mapped_pays s node spent n m [] is good pays = let size : spent ≡ spent + 0 = omega arith in subst (λ (k : ℕ). Pays s n k m) size pays
mapped_pays s node spent n m (g ∷ gs) is good pays =
    let grown = node_grown s node spent m g is (here_and node g (good 0 g refl)) in
    let next : IsShaped s (node + 1) (spent + 1) (with_node s m g) = shaped_by s node spent m (node_gate s m g) is grown in
    let paid : Pays s n (spent + 1) (with_node s m g) = pays_by s node spent n m (node_gate s m g) is grown pays in
    let spents : spent + 1 + length gs ≡ spent + suc (length gs) = omega arith in
    subst (λ (k : ℕ). Pays s n k (mapped_from s (with_node s m g) gs)) spents
    (mapped_pays s (node + 1) (spent + 1) n (with_node s m g) gs next (later_ands node g gs good) paid)

-- at the start no variable needs a NOT
pub start_count : (s : ℕ) (literals : List ℕ) (v n : ℕ) → ((v : ℕ) → among literals (v * 2 + 1) ≡ false) → need_count s literals v n ≡ 0
unfolding need_count
start_count s literals v zero odd = refl
start_count s literals v (suc n) odd =
    let here : digit_if (needs s literals v) ≡ 0 = ap digit_if (none (nat_le v s) (among literals (v * 2)) (among literals (v * 2 + 1)) (odd v)) in
    omega (arith, here, start_count s literals (v + 1) n odd) where
      none : (low even bit : Bool) → bit ≡ false → needs_by low even bit ≡ false
      none true even bit e = e
      none false true bit e = e
      none false false bit e = refl
