-- Marks that are written one by one, and complemented.
use Rattle.std.proofs.Common.{◌≡◌, ℕ, zero, suc, ◌+◌, ◌<◌, Bool, true, false, not, ◌&&◌, ◌||◌, List, [], ◌∷◌, ◌++◌}
use Rattle.std.proofs.Common.{length, set, get_or, replicate, refl, ◌∙◌, ap, sym, subst, arith, ⊎_elim, ltb}
use Rattle.std.proofs.Common.{if◌then◌else◌}
use Rattle.std.specs.Prelude.{slice_get, slice_index_or, Some}
use Rattle.std.proofs.lemmas.Bool.{cases_eq, cases_lt, both_ways, lt-ltb, le-ltb, cond-true, cond-false, eq-eqb, ne_eqb}
use Rattle.std.proofs.lemmas.List.{get_or-set_same, get_or-set_other}
use Rattle.net_theory.specs.NameLaws.{all_at, at_all}
use Rattle.net_theory.specs.ValueLaws.{at_prefix, at_end}
use Rattle.net_core.specs.Marks.{set_of, no_marks}
use Rattle.window_theory.specs.Nodes.{among}
use Rattle.window_theory.specs.NodeLaws.{among_cases, among_first, among_later}
use Rattle.subst_core.specs.Lists.{AllBelow, AreUnmarked}
use Rattle.subst_core.specs.Placing.{with_nodes}

-- ---- nodes that are marked

or_true : (a : Bool) → (a || true) ≡ true
or_true true = refl
or_true false = refl

or_none : (a : Bool) → (a || false) ≡ a
or_none true = refl
or_none false = refl

next_at : (marks : List Bool) (rest : List ℕ) (q p : ℕ) → q < length marks → with_nodes (set_of (set marks q true)) rest p ≡ with_nodes (set_of marks) (q ∷ rest) p
unfolding set_of
next_at marks rest q p low =
    ⊎_elim
    (λ (here : p ≡ q).
    ap (λ (b : Bool). among rest p || b) (ap (λ (k : ℕ). get_or (set marks q true) k false) here ∙ get_or-set_same marks q true false low)
    ∙ or_true (among rest p)
    ∙ sym (ap (λ (b : Bool). (b || among rest p) || get_or marks p false) (eq-eqb p q here)))
    (λ other.
    ap (λ (b : Bool). among rest p || b) (get_or-set_other marks q p true false other)
    ∙ sym (ap (λ (b : Bool). (b || among rest p) || get_or marks p false) (ne_eqb p q other)))
    (cases_eq p q)

-- the first of the nodes is marked
pub mark_next : (marks : List Bool) (nodes rest : List ℕ) (q : ℕ) → nodes ≡ q ∷ rest → q < length marks → with_nodes (set_of (set marks q true)) rest ≡ with_nodes (set_of marks) nodes
mark_next marks nodes rest q e low = λ i p. (next_at marks rest q p low ∙ ap (λ (xs : List ℕ). with_nodes (set_of marks) xs p) (sym e)) i

pub mark_none : (marks : List Bool) (nodes : List ℕ) → length nodes ≡ 0 → set_of marks ≡ with_nodes (set_of marks) nodes
mark_none marks [] e = refl
mark_none marks (q ∷ nodes) e = absurd (omega arith)

-- where nothing was marked exactly the nodes are
pub nodes_alone : (nodes : List ℕ) → with_nodes no_marks nodes ≡ among nodes
nodes_alone nodes = λ i p. or_none (among nodes p) i

no_marks_at : (n p : ℕ) → set_of (replicate n false) p ≡ false
unfolding set_of
no_marks_at zero p = refl
no_marks_at (suc n) zero = refl
no_marks_at (suc n) (suc p) = no_marks_at n p

pub none_marked : (n : ℕ) → set_of (replicate n false) ≡ no_marks
none_marked n = λ i p. no_marks_at n p i

-- ---- marks that are complemented

-- the first of the marks are complemented
abbrev pub turned : List Bool → ℕ → ℕ → Bool
turned marks count p = if ltb p count then not (set_of marks p) else set_of marks p

pub turned_next : (old new : List Bool) (count : ℕ) (bit : Bool) → length new ≡ length old → count < length old →
    bit ≡ get_or new count false → ((p : ℕ) → p < length old → set_of new p ≡ turned old count p) → (p : ℕ) →
    p < length old → set_of (set new count (not bit)) p ≡ turned old (count + 1) p
unfolding set_of
turned_next old new count bit size low is same p within =
    ⊎_elim
    (λ (here : p ≡ count).
    ap (λ (k : ℕ). get_or (set new count (not bit)) k false) here
    ∙ get_or-set_same new count (not bit) false (omega (arith, size, low))
    ∙ ap not (is ∙ ap (λ (k : ℕ). get_or new k false) (sym here) ∙ same p within ∙ cond-false (ltb p count) (not (get_or old p false)) (get_or old p false) (le-ltb p count (omega arith)))
    ∙ sym (cond-true (ltb p (count + 1)) (not (get_or old p false)) (get_or old p false) (lt-ltb p (count + 1) (omega arith))))
    (λ other.
    get_or-set_other new count p (not bit) false other
    ∙ same p within
    ∙ ⊎_elim
    (λ (below : p < count).
    cond-true (ltb p count) (not (get_or old p false)) (get_or old p false) (lt-ltb p count below)
    ∙ sym (cond-true (ltb p (count + 1)) (not (get_or old p false)) (get_or old p false) (lt-ltb p (count + 1) (omega arith))))
    (λ above.
    cond-false (ltb p count) (not (get_or old p false)) (get_or old p false) (le-ltb p count above)
    ∙ sym (cond-false (ltb p (count + 1)) (not (get_or old p false)) (get_or old p false) (le-ltb p (count + 1) (omega (arith, above, other)))))
    (cases_lt p count))
    (cases_eq p count)

-- neither the one nor the other
pub not_or : (a b : Bool) → not (a || b) ≡ (not b && not a)
not_or true true = refl
not_or true false = refl
not_or false true = refl
not_or false false = refl

-- ---- nodes below a bound

pub first_below : (bound : ℕ) (nodes rest : List ℕ) (p : ℕ) → nodes ≡ p ∷ rest → AllBelow bound nodes → p < bound
first_below bound nodes rest p e are =
    let below : AllBelow bound (p ∷ rest) = subst (AllBelow bound) e are in
    below 0 0 (omega arith)

-- the nodes before the last, and the last
pub prefix_below : (bound : ℕ) (nodes rest : List ℕ) (p : ℕ) → nodes ≡ rest ++ p ∷ [] → AllBelow bound nodes → AllBelow bound rest
prefix_below bound nodes rest p e are =
    at_all (λ (q : ℕ). q < bound) rest (λ i q at. all_at (λ (q : ℕ). q < bound) nodes i q are (ap (λ (xs : List ℕ). slice_get xs i) e ∙ at_prefix rest (p ∷ []) i q at))

pub last_below : (bound : ℕ) (nodes rest : List ℕ) (p : ℕ) → nodes ≡ rest ++ p ∷ [] → AllBelow bound nodes → p < bound
last_below bound nodes rest p e are =
    all_at (λ (q : ℕ). q < bound) nodes (length rest) p are (ap (λ (xs : List ℕ). slice_get xs (length rest)) e ∙ at_end rest p)

-- a list whose nodes are below a bound
among_at : (nodes : List ℕ) (i p : ℕ) → slice_get nodes i ≡ Some p → among nodes p ≡ true
among_at [] i p at = absurd cc
among_at (q ∷ nodes) zero p at = let same : q ≡ p = cc in subst (λ (x : ℕ). among (q ∷ nodes) x ≡ true) same (among_first q nodes)
among_at (q ∷ nodes) (suc i) p at = among_later q p nodes (among_at nodes i p at)

pub list_below : (bound : ℕ) (nodes : List ℕ) → ((p : ℕ) → among nodes p ≡ true → p < bound) → AllBelow bound nodes
list_below bound nodes each = at_all (λ (q : ℕ). q < bound) nodes (λ i p at. each p (among_at nodes i p at))

-- ---- nodes that aren't marked

-- once the first isn't marked, the others decide
pub unmarked_next : (marks : List Bool) (nodes left rest : List ℕ) (q : ℕ) → left ≡ q ∷ rest →
    slice_index_or marks q false ≡ false → (AreUnmarked (set_of marks) left → AreUnmarked (set_of marks) nodes) →
    AreUnmarked (set_of marks) rest → AreUnmarked (set_of marks) nodes
unfolding set_of
unmarked_next marks nodes left rest q parts off was others =
    was (λ p e. ⊎_elim (λ (same : p ≡ q). ap (λ (k : ℕ). slice_index_or marks k false) same ∙ off) (λ later. others p later) (among_cases q p rest (ap (λ (xs : List ℕ). among xs p) (sym parts) ∙ e)))

pub marked_first : (marks : List Bool) (nodes left rest : List ℕ) (q : ℕ) → left ≡ q ∷ rest →
    slice_index_or marks q false ≡ true → ((p : ℕ) → among left p ≡ true → among nodes p ≡ true) →
    AreUnmarked (set_of marks) nodes → ⊥
unfolding set_of
marked_first marks nodes left rest q parts on within none =
    both_ways (slice_index_or marks q false) (none q (within q (ap (λ (xs : List ℕ). among xs q) parts ∙ among_first q rest))) on

pub rest_within : (nodes left rest : List ℕ) (q : ℕ) → left ≡ q ∷ rest → ((p : ℕ) → among left p ≡ true → among nodes p ≡ true) → (p : ℕ) → among rest p ≡ true → among nodes p ≡ true
rest_within nodes left rest q parts within p e = within p (ap (λ (xs : List ℕ). among xs p) parts ∙ among_later q p rest e)
