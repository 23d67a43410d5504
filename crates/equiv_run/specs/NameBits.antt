-- Values of sources by their names: some assignment gives different names any values; and what a circuit computes
-- from values by name and by node.
use Rattle.std.specs.Prelude.{◌≡◌, ◌≢◌, ℕ, suc, ◌+◌, ◌-◌, ◌≤◌, ◌<◌, Bool, true, false, if◌then◌else◌, List, [], ◌∷◌, length, map, slice_get, Some, refl}
use Rattle.std.proofs.Common.{arith, ap, sym, ◌∙◌, subst, add-zero, ⊎_elim}
use Rattle.std.proofs.lemmas.Bool.{cases_eq, cond-true, cond-false, ne_eqb, false_from_ne_true, both_ways}
use Rattle.std.proofs.lemmas.List.{get_or-map}
use Rattle.chain_theory.specs.Value.{extended}
use Rattle.chain_theory.specs.ValueLaws.{extended-same, extended-other}
use Rattle.net_theory.specs.declared.data.Sig.{Sig}
use Rattle.net_theory.specs.declared.data.Sig.TheVariants.{Zero, One, Node}
use Rattle.net_theory.specs.declared.data.Gate.{Gate}
use Rattle.net_theory.specs.Document.{Name, is_same, has, are_distinct}
use Rattle.net_theory.specs.NameLaws.{name_same, same_name, has_first, has_later, distinct_cons}
use Rattle.net_theory.specs.Net.{Net, IsNet, IsSigBelow, IsGateAt, sig_value, gate_value, values_after, value, bit_of, end_of, sink_values}
use Rattle.net_theory.specs.Circuit.{Circuit, IsProper, sources_of, by_node, values_by_name}
use Rattle.equiv_core.specs.SinkLaws.{signals_same}

-- ---- an assignment with these bits

unfoldable look : List Name → List Bool → Name → Bool
look [] bits n = false
look (m ∷ ms) [] n = false
look (m ∷ ms) (b ∷ bs) n = if is_same n m then b else look ms bs n

map_same : (f g : Name → Bool) (ns : List Name) → ((n : Name) → has ns n ≡ true → f n ≡ g n) → map f ns ≡ map g ns
map_same f g [] same = refl
map_same f g (n ∷ ns) same = rw (same n (has_first n ns)) (ap (λ (bs : List Bool). g n ∷ bs) (map_same f g ns (λ m there. same m (has_later n ns m there))))

look_other : (m n : Name) (ms : List Name) (b : Bool) (bs : List Bool) → is_same n m ≡ false → look (m ∷ ms) (b ∷ bs) n ≡ look ms bs n
unfolding look
look_other m n ms b bs apart = cond-false (is_same n m) b (look ms bs n) apart

look_here : (m : Name) (ms : List Name) (b : Bool) (bs : List Bool) → look (m ∷ ms) (b ∷ bs) m ≡ b
unfolding look
look_here m ms b bs = cond-true (is_same m m) b (look ms bs m) (name_same m m refl)

looked : (names : List Name) (bits : List Bool) → are_distinct names ≡ true → length bits ≡ length names → map (look names bits) names ≡ bits
looked [] [] distinct long = refl
looked [] (b ∷ bs) distinct long = absurd (omega arith)
looked (m ∷ ms) [] distinct long = absurd (omega arith)
looked (m ∷ ms) (b ∷ bs) distinct long =
    let apart = distinct_cons m ms distinct in
    let rest : map (look (m ∷ ms) (b ∷ bs)) ms ≡ map (look ms bs) ms =
    map_same (look (m ∷ ms) (b ∷ bs)) (look ms bs) ms (λ n there.
    look_other m n ms b bs (false_from_ne_true (is_same n m) (λ (same : is_same n m ≡ true).
    both_ways (has ms m) apart.0 (subst (λ (x : Name). has ms x ≡ true) (same_name n m same) there)))) in
    rw (look_here m ms b bs, rest) (ap (λ (xs : List Bool). b ∷ xs) (looked ms bs apart.1 (omega arith)))

-- Different names can have any values.
pub has_assignment : (names : List Name) (bits : List Bool) → are_distinct names ≡ true → length bits ≡ length names → (given : Name → Bool) × (map given names ≡ bits)
has_assignment names bits distinct long = (look names bits, looked names bits distinct long)

-- ---- values if the bits agree from node 1 on

sig_agree : (f g : ℕ → Bool) (s : Sig) (place : ℕ) → IsSigBelow place s → ((p : ℕ) → 1 ≤ p → p < place → f p ≡ g p) → sig_value f s ≡ sig_value g s
sig_agree f g Zero place b same = refl
sig_agree f g One place b same = refl
sig_agree f g (Node p) place b same = same p b.0 b.1

gate_agree : (f g : ℕ → Bool) (place : ℕ) (gate : Gate) → IsGateAt place gate → ((p : ℕ) → 1 ≤ p → p < place → f p ≡ g p) → gate_value f gate ≡ gate_value g gate
gate_agree f g place gate is same = rw (sig_agree f g gate.a place is.first same, sig_agree f g gate.b place is.second same) refl

values_agree : (f g : ℕ → Bool) (place : ℕ) (gs : List Gate) →
    ((i : ℕ) (h : Gate) → slice_get gs i ≡ Some h → IsGateAt (place + i) h) →
    ((p : ℕ) → 1 ≤ p → p < place → f p ≡ g p) → (p : ℕ) → 1 ≤ p → p < place + length gs →
    values_after f place gs p ≡ values_after g place gs p
unfolding values_after
values_agree f g place [] are same p some low = same p some (omega arith)
values_agree f g place (h ∷ gs) are same p some low =
    let own : IsGateAt place h = subst (λ (q : ℕ). IsGateAt q h) (add-zero place) (are 0 h refl) in
    let later : (i : ℕ) (x : Gate) → slice_get gs i ≡ Some x → IsGateAt ((place + 1) + i) x = λ i x at. let e : place + suc i ≡ (place + 1) + i = omega arith in
    subst (λ (q : ℕ). IsGateAt q x) e (are (suc i) x at) in
    let agree : (q : ℕ) → 1 ≤ q → q < place + 1 → extended f place (gate_value f h) q ≡ extended g place (gate_value g h) q = λ q s l. ⊎_elim
    (λ here. extended-same f place q (gate_value f h) here ∙ gate_agree f g place h own same ∙ sym (extended-same g place q (gate_value g h) here))
    (λ other. extended-other f place q (gate_value f h) other ∙ same q s (omega (arith, l, other)) ∙ sym (extended-other g place q (gate_value g h) other))
    (cases_eq q place) in
    values_agree (extended f place (gate_value f h)) (extended g place (gate_value g h)) (place + 1) gs later agree p some (omega arith)

sinks_agree : (n : Net) (f g : ℕ → Bool) → IsNet n → ((p : ℕ) → 1 ≤ p → p ≤ n.sources → f p ≡ g p) → sink_values n f ≡ sink_values n g
sinks_agree n f g is same = signals_same (value n f) (value n g) n.sinks (end_of n) is.sinks (λ p some low.
    values_agree f g (n.sources + 1) n.gates is.gates.each (λ q s l. same q s (omega arith)) p some low)

-- ---- bits by names and by nodes

bit_at_node : (names : List Name) (given : Name → Bool) (p : ℕ) → 1 ≤ p → p ≤ length names → by_node names given p ≡ bit_of (map given names) p
bit_at_node names given p some low =
    let other : p ≢ 0 = omega arith in
    sym (cond-false _ _ _ (ne_eqb p 0 other) ∙ get_or-map given names (p - 1) [] false (omega (arith, some, low)))

-- a circuit under an assignment of its sources' names has the values of its net under theirs
pub values_are : (c : Circuit) (given : Name → Bool) (bits : List Bool) → IsProper c → map given (sources_of c) ≡ bits → values_by_name c given ≡ sink_values c.net (bit_of bits)
values_are c given bits of is =
    sinks_agree c.net (by_node (sources_of c) given) (bit_of bits) of.net
    (λ p some low. bit_at_node (sources_of c) given p some (omega (arith, low, of.source_count)) ∙ ap (λ (bs : List Bool). bit_of bs p) is)
