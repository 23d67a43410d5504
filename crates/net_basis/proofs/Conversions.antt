-- One more gate of a net over a basis, and the whole net.
use Rattle.std.specs.Prelude.{◌≡◌, ℕ, suc, ◌+◌, ◌-◌, ◌≤◌, ◌<◌, ◌^◌, zero, Bool, true, false, ◌&&◌, List, [], ◌∷◌, length, map, slice_get, Some, refl}
use Rattle.std.proofs.Common.{arith, sym, ◌∙◌, ◌≢◌, ap, subst, ⊎_elim}
use Rattle.std.proofs.lemmas.Bool.{cases_eq}
use Rattle.std.proofs.lemmas.List.{length-map}
use Rattle.chain_theory.specs.Operator.{apply, Basis}
use Rattle.net_theory.specs.declared.data.Sig.{Sig}
use Rattle.net_theory.specs.declared.data.Sig.TheVariants.{Zero, One, Node}
use Rattle.net_theory.specs.declared.data.Gate.{Gate}
use Rattle.net_theory.specs.Net.{Net, IsNet, IsSigBelow, IsGateAt, end_of, sig_value, values_of, value}
use Rattle.net_theory.specs.NameLaws.{all_at, at_all, map_at, at_map, index_map}
use Rattle.net_theory.specs.ValueLaws.{below_later, grown_sig, grown_below, values_after-gate}
use Rattle.net_theory.specs.Implements.{IsTrivialSink}
use Rattle.net_theory.specs.Moving.{Kept, moved, moved_gate, put_sig, sources_stay, nothing_kept}
use Rattle.net_theory.specs.MovingLaws.{Moves, IsSourceNode, moves_less, moves_start, moved_below, moved_value, source_stays}
use Rattle.net_core.specs.Marks.{nodes_of, kept}
use Rattle.net_theory.specs.Limits.{most_gates}
use Rattle.net_basis.specs.LocalWord.{local_word}
use Rattle.net_basis.specs.OverBasis.{HaveOperatorsIn, IsNetOver, IsInexpressible, IsInexpressibleAt, most_over}
use Rattle.net_basis.specs.Placing.{IsExpressed, IsNodeBelow, IsConverted, net_with, AreLeft}
use Rattle.net_basis.specs.Conversion.{are_in, IsPassed}
use Rattle.net_basis.proofs.Closures.{and_split}
use Rattle.net_basis.proofs.Placements.{put_same, put_other}

-- ---- one gate

operands_known : (node : ℕ) (s : Sig) → IsSigBelow node s → (p : ℕ) → s ≡ Node p → IsNodeBelow node p
operands_known node s below p e = subst (IsSigBelow node) e below

-- the gate with its operands mapped
pub moved_at : (basis : Basis) (n : Net) (node : ℕ) (k : Kept) (g : Gate) → IsConverted basis n node k → IsGateAt node g → IsGateAt (n.sources + 1 + length k.gates) (moved_gate k.nodes g)
moved_at basis n node k g is at = record {
  operator = at.operator;
  first = moved_below n.sources (value n) (IsNodeBelow node) k g.a is.moves (operands_known node g.a at.first);
  second = moved_below n.sources (value n) (IsNodeBelow node) k g.b is.moves (operands_known node g.b at.second);
}

-- operands that are below a node are below later ones
pub gate_later : (p q : ℕ) (g : Gate) → p ≤ q → IsGateAt p g → IsGateAt q g
gate_later p q g low at = record { operator = at.operator; first = below_later g.a p q low at.first; second = below_later g.b p q low at.second }

before : (node p : ℕ) → IsNodeBelow (node + 1) p → p ≢ node → IsNodeBelow node p
before node p below other = (below.0, omega (arith, below.1, other))

abbrev next : Kept → ℕ → List Gate → Sig → Kept
next k node new s = record { nodes = put_sig k.nodes node s; gates = new }

-- the signal of the gate has the value of its node
node_value : (basis : Basis) (n : Net) (i : ℕ) (k : Kept) (new : List Gate) (g : Gate) (s : Sig) (given : ℕ → Bool) →
    IsNet n → slice_get n.gates i ≡ Some g → IsConverted basis n (n.sources + 1 + i) k →
    IsExpressed basis n.sources k.gates new (moved k.nodes g.a) (moved k.nodes g.b) g.op s →
    sig_value (values_of given n.sources new) s ≡ value n given (n.sources + 1 + i)
node_value basis n i k new g s given net at is e =
    let node : ℕ = n.sources + 1 + i in
    let here : IsGateAt node g = net.gates.each i g at in
    let low : IsGateAt (n.sources + 1 + length k.gates) (moved_gate k.nodes g) = moved_at basis n node k g is here in
    let a : sig_value (values_of given n.sources new) (moved k.nodes g.a) ≡ sig_value (value n given) g.a =
    grown_sig n.sources k.gates new (moved k.nodes g.a) given e.grown low.first
    ∙ moved_value n.sources (value n) (IsNodeBelow node) k g.a given is.moves (operands_known node g.a here.first) in
    let b : sig_value (values_of given n.sources new) (moved k.nodes g.b) ≡ sig_value (value n given) g.b =
    grown_sig n.sources k.gates new (moved k.nodes g.b) given e.grown low.second
    ∙ moved_value n.sources (value n) (IsNodeBelow node) k g.b given is.moves (operands_known node g.b here.second) in
    e.value given
    ∙ ap (λ (t : Bool). apply g.op t (sig_value (values_of given n.sources new) (moved k.nodes g.b))) a
    ∙ ap (λ (t : Bool). apply g.op (sig_value (value n given) g.a) t) b
    ∙ sym (values_after-gate given (n.sources + 1) i n.gates g at here)

next_moves : (basis : Basis) (n : Net) (i : ℕ) (k : Kept) (new : List Gate) (g : Gate) (s : Sig) →
    IsNet n → slice_get n.gates i ≡ Some g → IsConverted basis n (n.sources + 1 + i) k →
    IsExpressed basis n.sources k.gates new (moved k.nodes g.a) (moved k.nodes g.b) g.op s →
    Moves n.sources (value n) (IsNodeBelow (n.sources + 1 + i + 1)) (next k (n.sources + 1 + i) new s)
next_moves basis n i k new g s net at is e =
    let node : ℕ = n.sources + 1 + i in
    let end : ℕ = n.sources + 1 + length new in
    record {
      gates = e.grown.gates;
      below = λ p known. ⊎_elim
          (λ own. subst (IsSigBelow end) (sym (put_same k.nodes node s p own)) e.below)
          (λ other. subst (IsSigBelow end) (sym (put_other k.nodes node s p other)) (grown_below n.sources k.gates new (k.nodes p) e.grown (is.moves.below p (before node p known other))))
          (cases_eq p node);
      same = λ given p known. ⊎_elim
          (λ own.
          ap (sig_value (values_of given n.sources new)) (put_same k.nodes node s p own)
          ∙ node_value basis n i k new g s given net at is e
          ∙ ap (value n given) (sym own))
          (λ other.
          ap (sig_value (values_of given n.sources new)) (put_other k.nodes node s p other)
          ∙ grown_sig n.sources k.gates new (k.nodes p) given e.grown (is.moves.below p (before node p known other))
          ∙ is.moves.same given p (before node p known other))
          (cases_eq p node);
    }

converted_more : (basis : Basis) (n : Net) (i : ℕ) (k : Kept) (new : List Gate) (g : Gate) (s : Sig) →
    IsNet n → slice_get n.gates i ≡ Some g → IsConverted basis n (n.sources + 1 + i) k →
    IsExpressed basis n.sources k.gates new (moved k.nodes g.a) (moved k.nodes g.b) g.op s →
    IsConverted basis n (n.sources + 1 + i + 1) (next k (n.sources + 1 + i) new s)
converted_more basis n i k new g s net at is e = record {
  moves = next_moves basis n i k new g s net at is e;
  stay = λ p low. put_other k.nodes (n.sources + 1 + i) s p (λ (same : p ≡ n.sources + 1 + i). omega (arith, same, low)) ∙ is.stay p low;
  operators = e.operators is.operators;
}

-- ---- all gates

converted_start : (basis : Basis) (n : Net) → IsConverted basis n (n.sources + 1) (nothing_kept n.sources)
converted_start basis n = record {
  moves = moves_less n.sources (value n) (IsSourceNode n.sources) (IsNodeBelow (n.sources + 1)) (nothing_kept n.sources) (λ p is. (is.0, omega (arith, is.1))) (moves_start n);
  stay = λ p low. source_stays n.sources p low;
  operators = record { each = λ j h at. absurd cc };
}

pub converted_first : (basis : Basis) (n : Net) (node : ℕ) (nodes : List Sig) (gates : List Gate) → node ≡ n.sources + 1 → nodes_of nodes ≡ sources_stay n.sources → gates ≡ [] → IsConverted basis n node (kept nodes gates)
converted_first basis n node nodes gates first start none =
    let same : kept nodes gates ≡ nothing_kept n.sources = ap (λ (f : ℕ → Sig). kept_at f gates) start ∙ ap (kept_at (sources_stay n.sources)) none in
    subst (λ (q : ℕ). IsConverted basis n q (kept nodes gates)) (sym first) (subst (IsConverted basis n (n.sources + 1)) (sym same) (converted_start basis n))
  where
    kept_at : (ℕ → Sig) → List Gate → Kept
    kept_at f gs = record { nodes = f; gates = gs }

-- ---- the remaining gates

pub left_start : (n : Net) (node : ℕ) (left : List Gate) → node ≡ n.sources + 1 → left ≡ n.gates → AreLeft n node left
left_start n node left first same = record {
  all = omega (arith, first, ap (length {A = Gate}) same);
  past_sources = omega (arith, first);
  each = λ i j g at e.
      let own : j ≡ i = omega (arith, first, e) in
      subst (λ (k : ℕ). slice_get n.gates k ≡ Some g) (sym own) (sym (ap (λ (gs : List Gate). slice_get gs i) same) ∙ at);
}

pub left_more : (n : Net) (node : ℕ) (left rest : List Gate) (g : Gate) → left ≡ g ∷ rest → AreLeft n node left → AreLeft n (node + 1) rest
left_more n node left rest g split are = record {
  all = omega (arith, are.all, ap (length {A = Gate}) split);
  past_sources = omega (arith, are.past_sources);
  each = λ i j h at e. are.each (suc i) j h (ap (λ (gs : List Gate). slice_get gs (suc i)) split ∙ at) (omega (arith, e));
}

next_at : (n : Net) (node : ℕ) (left rest : List Gate) (g : Gate) → left ≡ g ∷ rest → AreLeft n node left → slice_get n.gates (node - (n.sources + 1)) ≡ Some g
next_at n node left rest g split are = are.each 0 (node - (n.sources + 1)) g (ap (λ (gs : List Gate). slice_get gs 0) split) (omega (arith, are.past_sources))

next_node : (n : Net) (node : ℕ) (left : List Gate) → AreLeft n node left → n.sources + 1 + (node - (n.sources + 1)) ≡ node
next_node n node left are = omega (arith, are.past_sources)

pub next_stands : (n : Net) (node : ℕ) (left rest : List Gate) (g : Gate) → IsNet n → left ≡ g ∷ rest → AreLeft n node left → IsGateAt node g
next_stands n node left rest g net split are = subst (λ (q : ℕ). IsGateAt q g) (next_node n node left are) (net.gates.each (node - (n.sources + 1)) g (next_at n node left rest g split are))

-- the node of the next gate is in range
pub next_within : (n : Net) (node : ℕ) (left rest : List Gate) (g : Gate) → left ≡ g ∷ rest → AreLeft n node left → node < end_of n
next_within n node left rest g split are = omega (arith, are.all, ap (length {A = Gate}) split)

pub converted_next : (basis : Basis) (n : Net) (node : ℕ) (left rest : List Gate) (g : Gate) (k m : Kept) (s : Sig) →
    IsNet n → left ≡ g ∷ rest → AreLeft n node left → IsConverted basis n node k →
    IsExpressed basis n.sources k.gates m.gates (moved k.nodes g.a) (moved k.nodes g.b) g.op s →
    m.nodes ≡ put_sig k.nodes node s → IsConverted basis n (node + 1) m
converted_next basis n node left rest g k m s net split are is e nodes =
    let i : ℕ = node - (n.sources + 1) in
    let here : n.sources + 1 + i ≡ node = next_node n node left are in
    let same : m ≡ next k node m.gates s = ap (λ (f : ℕ → Sig). kept_at f m.gates) nodes in
    subst (IsConverted basis n (node + 1)) (sym same)
    (subst (λ (q : ℕ). IsConverted basis n (q + 1) (next k q m.gates s)) here
    (converted_more basis n i k m.gates g s net (next_at n node left rest g split are)
    (subst (λ (q : ℕ). IsConverted basis n q k) (sym here) is) e))
  where
    kept_at : (ℕ → Sig) → List Gate → Kept
    kept_at f gs = record { nodes = f; gates = gs }

-- a gate that can't be expressed
pub inexpressible_next : (basis : Basis) (n : Net) (node : ℕ) (left rest : List Gate) (g : Gate) → left ≡ g ∷ rest → AreLeft n node left → IsInexpressible basis (local_word g) → IsInexpressibleAt basis n node
inexpressible_next basis n node left rest g split are is = record {
  gate = g;
  from = are.past_sources;
  at = next_at n node left rest g split are;
  inexpressible = is;
}

-- ---- gates of the basis

-- each gate has an operator of the basis
pub all_in : (basis : Basis) (gs : List Gate) → HaveOperatorsIn basis gs → are_in basis gs ≡ true
unfolding are_in
all_in basis [] all = refl
all_in basis (g ∷ gs) all =
    rw (all.each 0 g refl) (all_in basis gs (record { each = λ i h at. all.each (suc i) h at }))

some_gate : (a b : Gate) → Some a ≡ Some b → a ≡ b
some_gate a b e = cc

one_more_in : (basis : Basis) (g : Gate) (gs : List Gate) → basis g.op ≡ true → HaveOperatorsIn basis gs → (i : ℕ) (h : Gate) →
    slice_get (g ∷ gs) i ≡ Some h → basis h.op ≡ true
one_more_in basis g gs own later zero h at = subst (λ (x : Gate). basis x.op ≡ true) (some_gate g h at) own
one_more_in basis g gs own later (suc i) h at = later.each i h at

pub in_all : (basis : Basis) (gs : List Gate) → are_in basis gs ≡ true → HaveOperatorsIn basis gs
unfolding are_in
in_all basis [] is = record { each = λ i h at. absurd cc }
in_all basis (g ∷ gs) is =
    let parts = and_split (basis g.op) (are_in basis gs) is in
    record { each = one_more_in basis g gs parts.0 (in_all basis gs parts.1) }

-- a net whose gates are of the basis is over it
pub itself_over : (basis : Basis) (n : Net) → IsNet n → are_in basis n.gates ≡ true → length n.gates ≤ most_gates →
    IsNetOver basis n n
itself_over basis n net is few = record {
  behaves = record {
    net = net;
    sources = refl;
    sink_count = refl;
    values = λ given. refl;
    still = λ i s at still. at;
    equal = λ i j d low_i low_j same. same;
  };
  operators = in_all basis n.gates is;
  itself = λ all. refl;
  fewer = λ some. absurd (some (in_all basis n.gates is));
  few = few;
}

-- one more gate of them
pub in_more : (basis : Basis) (left rest : List Gate) (g : Gate) → left ≡ g ∷ rest → basis g.op ≡ true →
    are_in basis rest ≡ are_in basis left
unfolding are_in
in_more basis left rest g split is =
    sym (ap (λ (b : Bool). b && are_in basis rest) is) ∙ sym (ap (are_in basis) split)

-- ---- the net

sink_known : (n : Net) (i : ℕ) (s : Sig) → IsNet n → slice_get n.sinks i ≡ Some s → (p : ℕ) → s ≡ Node p → IsNodeBelow (end_of n) p
sink_known n i s net at p e = operands_known (end_of n) s (all_at (IsSigBelow (end_of n)) n.sinks i s net.sinks at) p e

converted_net : (basis : Basis) (n : Net) (k : Kept) → IsNet n → IsConverted basis n (end_of n) k → n.sources + length k.gates < 2 ^ 31 → IsNet (net_with n k)
converted_net basis n k net is room = record {
  gates = is.moves.gates;
  sinks = at_all (IsSigBelow (n.sources + 1 + length k.gates)) (map (moved k.nodes) n.sinks) (λ i t e.
      let s = at_map (moved k.nodes) n.sinks i t e in
      subst (IsSigBelow (n.sources + 1 + length k.gates)) s.2 (moved_below n.sources (value n) (IsNodeBelow (end_of n)) k s.0 is.moves (sink_known n i s.0 net s.1)));
  nodes = room;
}

map_values : (f g : Sig → Bool) (move : Sig → Sig) (ss : List Sig) → ((i : ℕ) (s : Sig) → slice_get ss i ≡ Some s → f (move s) ≡ g s) → map f (map move ss) ≡ map g ss
map_values f g move [] same = refl
map_values f g move (s ∷ ss) same = rw (same 0 s refl, map_values f g move ss (λ i t e. same (suc i) t e)) refl

still_moved : (basis : Basis) (n : Net) (k : Kept) (s : Sig) → IsConverted basis n (end_of n) k → IsTrivialSink n.sources s → moved k.nodes s ≡ s
still_moved basis n k Zero is still = refl
still_moved basis n k One is still = refl
still_moved basis n k (Node p) is still = is.stay p still

differ : (b : Bool) → b ≡ true → b ≡ false → ⊥
differ b on off = cc

converted_over : (basis : Basis) (n : Net) (k : Kept) → IsNet n → IsPassed basis n k → are_in basis n.gates ≡ false →
    IsNetOver basis n (net_with n k)
converted_over basis n k net passed other = let is = passed.converted in record {
  behaves = record {
    net = converted_net basis n k net is passed.room;
    sources = refl;
    sink_count = length-map n.sinks (moved k.nodes);
    values = λ given. map_values (sig_value (values_of given n.sources k.gates)) (sig_value (value n given)) (moved k.nodes) n.sinks (λ i s at.
        moved_value n.sources (value n) (IsNodeBelow (end_of n)) k s given is.moves (sink_known n i s net at));
    still = λ i s at still. map_at (moved k.nodes) n.sinks i s at ∙ ap Some (still_moved basis n k s is still);
    equal = λ i j d low_i low_j same. index_map (moved k.nodes) n.sinks i d low_i ∙ ap (moved k.nodes) same ∙ sym (index_map (moved k.nodes) n.sinks j d low_j);
  };
  operators = is.operators;
  itself = λ all. absurd (differ (are_in basis n.gates) (all_in basis n.gates all) other);
  fewer = λ some. passed.fewer;
  few = omega (arith, passed.few);
}

abbrev net_put : ℕ → List Gate → List Sig → Net
net_put s gs ss = record { sources = s; gates = gs; sinks = ss }

-- The net of the new gates is the net over the basis.
pub whole_over : (basis : Basis) (n : Net) (sources : ℕ) (nodes : List Sig) (gates : List Gate) (sinks : List Sig) →
    IsNet n → IsPassed basis n (kept nodes gates) → are_in basis n.gates ≡ false → sources ≡ n.sources → sinks ≡ map (moved (nodes_of nodes)) n.sinks →
    IsNetOver basis n (record { sources = sources; gates = gates; sinks = sinks })
whole_over basis n sources nodes gates sinks net passed other same_sources same_sinks =
    let same : record { sources = sources; gates = gates; sinks = sinks } ≡ net_with n (kept nodes gates) =
    ap (λ (s : ℕ). net_put s gates sinks) same_sources
    ∙ ap (λ (ss : List Sig). net_put n.sources gates ss) same_sinks in
    subst (IsNetOver basis n) (sym same) (converted_over basis n (kept nodes gates) net passed other)

-- ---- how many gates

pub most_split : (lengths : ℕ → ℕ) (left rest : List Gate) (g : Gate) → left ≡ g ∷ rest →
    most_over lengths left ≡ lengths (local_word g) + most_over lengths rest
unfolding most_over
most_split lengths left rest g split = ap (most_over lengths) split

pub most_none : (lengths : ℕ → ℕ) (left : List Gate) → length left ≡ 0 → most_over lengths left ≡ 0
unfolding most_over
most_none lengths [] none = refl
most_none lengths (g ∷ gs) none = absurd (omega (arith, none))
