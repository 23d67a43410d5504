-- The computed values of sinks.
use Rattle.std.proofs.Common.{◌≡◌, ◌≢◌, ℕ, ◌+◌, ◌-◌, ◌≤◌, ◌<◌, Bool, false, List, [], ◌∷◌, ◌++◌, All, length, map, append_assoc, refl, sym, ap, ◌∙◌, subst, arith, ⊎_elim}
use Rattle.std.specs.Prelude.{slice_index_or, take, Option, None, Some, IfNone}
use Rattle.std.proofs.lemmas.Bool.{cases_eq, ne_eqb}
use Rattle.std.proofs.lemmas.List.{get_or-take, length-map}
use Rattle.std.proofs.lemmas.List.Elements.{All-head, All-tail}
use Rattle.sat_theory.specs.Formula.{bits_of, Satisfies}
use Rattle.net_theory.specs.declared.data.Sig.{Sig}
use Rattle.net_theory.specs.declared.data.Sig.TheVariants.{Zero, One, Node}
use Rattle.net_theory.specs.Net.{Net, IsNet, IsSigBelow, sig_value, value, bit_of, end_of, sink_values}
use Rattle.net_theory.specs.ValueLaws.{values_after-same}
use Rattle.equiv_theory.specs.Miter.{miter, variables}
use Rattle.equiv_theory.specs.Counterexample.{sink_bit, AreComparable, DifferAt, DifferFirstAt}
use Rattle.equiv_theory.specs.MiterLaws.{satisfied_differ}

pub sig_same : (f g : ℕ → Bool) (s : Sig) (bound : ℕ) → IsSigBelow bound s → ((p : ℕ) → 1 ≤ p → p < bound → f p ≡ g p) → sig_value f s ≡ sig_value g s
sig_same f g Zero bound below same = refl
sig_same f g One bound below same = refl
sig_same f g (Node p) bound below same = same p below.0 below.1

-- assignments that agree at the nodes give all signals the same values
pub signals_same : (f g : ℕ → Bool) (ss : List Sig) (bound : ℕ) → All (IsSigBelow bound) ss → ((p : ℕ) → 1 ≤ p → p < bound → f p ≡ g p) → map (sig_value f) ss ≡ map (sig_value g) ss
signals_same f g [] bound below same = refl
signals_same f g (s ∷ ss) bound below same =
    rw (sig_same f g s bound (All-head (IsSigBelow bound) s ss below) same) (ap (λ (bs : List Bool). sig_value g s ∷ bs) (signals_same f g ss bound (All-tail (IsSigBelow bound) s ss below) same))

-- the values of the sinks depend only on the values of the sources
pub sinks_same : (n : Net) (f g : ℕ → Bool) → IsNet n → ((p : ℕ) → p ≤ n.sources → f p ≡ g p) → sink_values n f ≡ sink_values n g
sinks_same n f g is same = signals_same (value n f) (value n g) n.sinks (end_of n) is.sinks (λ p some low.
    values_after-same f g (n.sources + 1) n.gates is.gates.each (λ q l. same q (omega arith)) p low)

-- the values of the sources come first
pub first_bits : (bits front : List Bool) (k p : ℕ) → front ≡ take k bits → p ≤ k → bit_of front p ≡ bits_of bits p
first_bits bits front k p is low =
    ⊎_elim
    (λ (none : p ≡ 0). subst (λ (q : ℕ). bit_of front q ≡ bits_of bits q) (sym none) refl)
    (λ (some : p ≢ 0). rw (ne_eqb p 0 some, is) (get_or-take k bits (p - 1) false (omega (arith, some, low))))
    (cases_eq p 0)

-- If an assignment satisfies the miter, the nets differ somewhere under its values of the sources.
pub prefix_differs : (first second : Net) (bits front : List Bool) → AreComparable first second →
    front ≡ take first.sources bits → Satisfies (bits_of bits) (miter first second) → (i : ℕ) ×
    DifferAt first second (bit_of front) i
prefix_differs first second bits front are is satisfied =
    let found = satisfied_differ first second (bits_of bits) are satisfied in
    let ones = sinks_same first (bit_of front) (bits_of bits) are.first_net (λ p low. first_bits bits front first.sources p is low) in
    let twos = sinks_same second (bit_of front) (bits_of bits) are.second_net (λ p low. first_bits bits front first.sources p is (omega (arith, low, are.sources))) in
    let one : sink_bit first (bit_of front) found.0 ≡ sink_bit first (bits_of bits) found.0 = ap (λ (xs : List Bool). slice_index_or xs found.0 false) ones in
    let two : sink_bit second (bit_of front) found.0 ≡ sink_bit second (bits_of bits) found.0 = ap (λ (xs : List Bool). slice_index_or xs found.0 false) twos in
    (found.0, record { below = found.1.below; differ = λ same. found.1.differ (sym one ∙ same ∙ two) })

-- ---- the first difference

pub sinks_long : (first second : Net) (f g : ℕ → Bool) (xs ys : List Bool) → AreComparable first second → xs ≡ sink_values first f → ys ≡ sink_values second g → length xs ≡ length ys
sinks_long first second f g xs ys are ex ey =
    ap length ex ∙ length-map first.sinks (sig_value (value first f)) ∙ are.sinks ∙ sym (length-map second.sinks (sig_value (value second g))) ∙ sym (ap length ey)

pub found_first : (first second : Net) (f : ℕ → Bool) (xs ys : List Bool) (i : ℕ) → xs ≡ sink_values first f →
    ys ≡ sink_values second f → i < length xs → slice_index_or xs i false ≢ slice_index_or ys i false →
    ((j : ℕ) → j < i → slice_index_or xs j false ≡ slice_index_or ys j false) → DifferFirstAt first second f i
found_first first second f xs ys i ex ey low other least = record {
  here = record {
    below = omega (arith, low, ap length ex ∙ length-map first.sinks (sig_value (value first f)));
    differ = λ same. other (ap (λ (zs : List Bool). slice_index_or zs i false) ex ∙ same ∙ ap (λ (zs : List Bool). slice_index_or zs i false) (sym ey));
  };
  least = λ j before. ap (λ (zs : List Bool). slice_index_or zs j false) (sym ex) ∙ least j before ∙ ap (λ (zs : List Bool). slice_index_or zs j false) ey;
}

pub found_none : (first second : Net) (f : ℕ → Bool) (xs ys : List Bool) (i : ℕ) → xs ≡ sink_values first f →
    ys ≡ sink_values second f → ((j : ℕ) → j < length xs → slice_index_or xs j false ≡ slice_index_or ys j false) →
    DifferAt first second f i → ⊥
found_none first second f xs ys i ex ey all at =
    at.differ (ap (λ (zs : List Bool). slice_index_or zs i false) (sym ex)
    ∙ all i (omega (arith, at.below, ap length ex ∙ length-map first.sinks (sig_value (value first f))))
    ∙ ap (λ (zs : List Bool). slice_index_or zs i false) ey)

-- the value of one signal moves from those left to those computed
pub one_more : (f : ℕ → Bool) (old new all : List Bool) (left rest : List Sig) (s : Sig) (bit : Bool) →
    left ≡ s ∷ rest → new ≡ old ++ bit ∷ [] → bit ≡ sig_value f s → old ++ map (sig_value f) left ≡ all → new ++
    map (sig_value f) rest ≡ all
one_more f old new all left rest s bit is pushed value before =
    rw (pushed, value) (append_assoc old (sig_value f s ∷ []) (map (sig_value f) rest)
    ∙ ap (λ (ss : List Sig). old ++ map (sig_value f) ss) (sym is) ∙ before)

-- ---- solutions

pub miter_variables : (first second : Net) → (miter first second).vars ≡ variables first second
unfolding miter
miter_variables first second = refl

-- So the simulation of an assignment that satisfies the miter finds a difference.
pub solution_differs : (first second : Net) (bits front : List Bool) (x : Option ℕ) → x ≡ None →
    IfNone x ((i : ℕ) → DifferAt first second (bit_of front) i → ⊥) → AreComparable first second →
    front ≡ take first.sources bits → Satisfies (bits_of bits) (miter first second) → ⊥
solution_differs first second bits front None none never are is satisfied = let found = prefix_differs first second bits front are is satisfied in never found.0 found.1
solution_differs first second bits front (Some i) none never are is satisfied = absurd cc
