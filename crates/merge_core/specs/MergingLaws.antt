-- Merging gates with equal keys keeps the values of the sinks.
use Rattle.std.specs.Prelude.{◌≡◌, ℕ, suc, ◌+◌, ◌-◌, ◌≤◌, ◌<◌, ◌==◌, Bool, List, [], ◌∷◌, length, map, slice_get, slice_set, Some, refl}
use Rattle.std.proofs.Common.{arith, sym, ◌∙◌, ◌≢◌, ap, subst, ⊎_elim, get_or, set}
use Rattle.std.proofs.lemmas.Bool.{cond-true, cond-false, eq-eqb, ne_eqb, cases_eq}
use Rattle.std.proofs.lemmas.List.{length-map, length-append, get_or-set_same, get_or-set_other}
use Rattle.std.proofs.lemmas.Option.{slice_get_within}
use Rattle.net_theory.specs.declared.data.Sig.{Sig}
use Rattle.net_theory.specs.declared.data.Sig.TheVariants.{Zero, One, Node}
use Rattle.net_theory.specs.declared.data.Gate.{Gate}
use Rattle.net_theory.specs.Net.{Net, IsNet, IsSigBelow, IsGateAt, end_of, sig_value, values_of, value}
use Rattle.net_theory.specs.NameLaws.{all_at, at_all, map_at, at_map, index_map}
use Rattle.net_theory.specs.ValueLaws.{ExtendsGates, grown_none, grown_push, grown_sig, grown_below, at_push, values_after-gate}
use Rattle.net_theory.specs.Implements.{IsTrivialSink, Implements}
use Rattle.net_theory.specs.Operators.{HasOperator}
use Rattle.net_theory.specs.Moving.{Kept, moved, moved_gate, put_sig, sources_stay, nothing_kept}
use Rattle.net_theory.specs.MovingLaws.{Moves, IsSourceNode, moves_less, moves_start, moved_below, moved_value, source_stays}
use Rattle.net_core.specs.Marks.{nodes_of, kept}
use Rattle.merge_core.specs.KeyLaws.{key_values}
use Rattle.merge_core.specs.Merging.{HaveOperatorsOf, IsFoundOrAppended, IsStrashStep, IsNodeBelow, IsMerged, AreLeft, net_with}

put_same : (nodes : ℕ → Sig) (node : ℕ) (s : Sig) (p : ℕ) → p ≡ node → put_sig nodes node s p ≡ s
put_same nodes node s p own = cond-true (p == node) s (nodes p) (eq-eqb p node own)

put_other : (nodes : ℕ → Sig) (node : ℕ) (s : Sig) (p : ℕ) → p ≢ node → put_sig nodes node s p ≡ nodes p
put_other nodes node s p other = cond-false (p == node) s (nodes p) (ne_eqb p node other)

-- ---- one gate

-- an operand of a gate is a node below it
operands_known : (node : ℕ) (s : Sig) → IsSigBelow node s → (p : ℕ) → s ≡ Node p → IsNodeBelow node p
operands_known node s below p e = subst (IsSigBelow node) e below

moved_stands : (n : Net) (node : ℕ) (k : Kept) (g : Gate) → IsMerged n node k → IsGateAt node g → IsGateAt (n.sources + 1 + length k.gates) (moved_gate k.nodes g)
moved_stands n node k g is stands = record {
  operator = stands.operator;
  first = moved_below n.sources (value n) (IsNodeBelow node) k g.a is.moves (operands_known node g.a stands.first);
  second = moved_below n.sources (value n) (IsNodeBelow node) k g.b is.moves (operands_known node g.b stands.second);
}

grown_by : (n : Net) (node : ℕ) (k m : Kept) (g : Gate) (index : ℕ) → IsMerged n node k → IsGateAt node g →
    IsFoundOrAppended (moved_gate k.nodes g) k.gates m.gates index → ExtendsGates n.sources k.gates m.gates
grown_by n node k m g index is stands put =
    ⊎_elim
    (λ same. subst (ExtendsGates n.sources k.gates) (sym same) (grown_none n.sources k.gates is.moves.gates))
    (λ more. subst (ExtendsGates n.sources k.gates) (sym more) (grown_push n.sources k.gates (moved_gate k.nodes g) is.moves.gates (moved_stands n node k g is stands)))
    put.grown

-- the mapped operands have the old values
operand_value : (n : Net) (node : ℕ) (k m : Kept) (s : Sig) (given : ℕ → Bool) → IsMerged n node k →
    ExtendsGates n.sources k.gates m.gates → IsSigBelow node s →
    sig_value (values_of given n.sources m.gates) (moved k.nodes s) ≡ sig_value (value n given) s
operand_value n node k m s given is grown below =
    grown_sig n.sources k.gates m.gates (moved k.nodes s) given grown (moved_below n.sources (value n) (IsNodeBelow node) k s is.moves (operands_known node s below))
    ∙ moved_value n.sources (value n) (IsNodeBelow node) k s given is.moves (operands_known node s below)

-- and the new signal of the gate's node has its value
node_value : (n : Net) (i : ℕ) (k m : Kept) (g : Gate) (index : ℕ) (given : ℕ → Bool) → IsNet n →
    slice_get n.gates i ≡ Some g → IsMerged n (n.sources + 1 + i) k → ExtendsGates n.sources k.gates m.gates →
    IsFoundOrAppended (moved_gate k.nodes g) k.gates m.gates index →
    values_of given n.sources m.gates (n.sources + 1 + index) ≡ value n given (n.sources + 1 + i)
node_value n i k m g index given net at is grown put =
    let stands : IsGateAt (n.sources + 1 + i) g = net.gates.each i g at in
    let bits : ℕ → Bool = values_of given n.sources m.gates in
    values_after-gate given (n.sources + 1) index m.gates put.there put.at (grown.gates.each index put.there put.at)
    ∙ key_values bits put.there (moved_gate k.nodes g) put.same
    ∙ rw (operand_value n (n.sources + 1 + i) k m g.a given is grown stands.first, operand_value n (n.sources + 1 + i) k m g.b given is grown stands.second) refl
    ∙ sym (values_after-gate given (n.sources + 1) i n.gates g at stands)

before : (node p : ℕ) → IsNodeBelow (node + 1) p → p ≢ node → IsNodeBelow node p
before node p below other = (below.0, omega (arith, below.1, other))

merged_moves : (n : Net) (i : ℕ) (k m : Kept) (g : Gate) → IsNet n → slice_get n.gates i ≡ Some g →
    IsMerged n (n.sources + 1 + i) k → IsStrashStep n.sources (n.sources + 1 + i) g k m →
    Moves n.sources (value n) (IsNodeBelow (n.sources + 1 + i + 1)) m
merged_moves n i k m g net at is step =
    let node : ℕ = n.sources + 1 + i in
    let sig : Sig = Node (n.sources + 1 + step.index) in
    let grown : ExtendsGates n.sources k.gates m.gates = grown_by n node k m g step.index is (net.gates.each i g at) step.put in
    let low : step.index < length m.gates = slice_get_within m.gates step.index step.put.there step.put.at in
    let own : (p : ℕ) → p ≡ node → m.nodes p ≡ sig = λ p same. ap (λ (f : ℕ → Sig). f p) step.nodes ∙ put_same k.nodes node sig p same in
    let rest : (p : ℕ) → p ≢ node → m.nodes p ≡ k.nodes p = λ p other. ap (λ (f : ℕ → Sig). f p) step.nodes ∙ put_other k.nodes node sig p other in
    record {
      gates = grown.gates;
      below = λ p known. ⊎_elim
          (λ same. subst (IsSigBelow (n.sources + 1 + length m.gates)) (sym (own p same)) (omega arith, omega (arith, low)))
          (λ other. subst (IsSigBelow (n.sources + 1 + length m.gates)) (sym (rest p other)) (grown_below n.sources k.gates m.gates (k.nodes p) grown (is.moves.below p (before node p known other))))
          (cases_eq p node);
      same = λ given p known. ⊎_elim
          (λ same.
          ap (sig_value (values_of given n.sources m.gates)) (own p same)
          ∙ node_value n i k m g step.index given net at is grown step.put
          ∙ ap (value n given) (sym same))
          (λ other.
          ap (sig_value (values_of given n.sources m.gates)) (rest p other)
          ∙ grown_sig n.sources k.gates m.gates (k.nodes p) given grown (is.moves.below p (before node p known other))
          ∙ is.moves.same given p (before node p known other))
          (cases_eq p node);
    }

put_few : (gate : Gate) (xs ys : List Gate) (index : ℕ) → IsFoundOrAppended gate xs ys index → length ys ≤ length xs + 1
put_few gate xs ys index put =
    ⊎_elim (λ same. omega (arith, ap (length {A = Gate}) same)) (λ more. omega (arith, ap (length {A = Gate}) more, length-append xs (gate ∷ []))) put.grown

put_old : (n : Net) (gate : Gate) (xs ys : List Gate) (index : ℕ) → HaveOperatorsOf n xs → HasOperator n gate.op → IsFoundOrAppended gate xs ys index → HaveOperatorsOf n ys
put_old n gate xs ys index old own put =
    ⊎_elim
    (λ same. subst (HaveOperatorsOf n) (sym same) old)
    (λ more. subst (HaveOperatorsOf n) (sym more) (record {
      each = λ j h at. ⊎_elim (λ was. old.each j h was) (λ new. subst (λ (x : Gate). HasOperator n x.op) new.1 own) (at_push xs gate h j at);
    }))
    put.grown

-- one more gate
pub merged_more : (n : Net) (i : ℕ) (k m : Kept) (g : Gate) → IsNet n → slice_get n.gates i ≡ Some g →
    IsMerged n (n.sources + 1 + i) k → IsStrashStep n.sources (n.sources + 1 + i) g k m →
    IsMerged n (n.sources + 1 + i + 1) m
merged_more n i k m g net at is step =
    record {
      moves = merged_moves n i k m g net at is step;
      stay = λ p low.
          ap (λ (f : ℕ → Sig). f p) step.nodes
          ∙ put_other k.nodes (n.sources + 1 + i) (Node (n.sources + 1 + step.index)) p (λ (same : p ≡ n.sources + 1 + i). omega (arith, same, low))
          ∙ is.stay p low;
      few = omega (arith, is.few, put_few (moved_gate k.nodes g) k.gates m.gates step.index step.put);
      old = put_old n (moved_gate k.nodes g) k.gates m.gates step.index is.old (record { index = i; gate = g; at = at; same = refl }) step.put;
    }

-- ---- all gates

pub merged_start : (n : Net) → IsMerged n (n.sources + 1) (nothing_kept n.sources)
merged_start n =
    record {
      moves = moves_less n.sources (value n) (IsSourceNode n.sources) (IsNodeBelow (n.sources + 1)) (nothing_kept n.sources) (λ p is. (is.0, omega (arith, is.1))) (moves_start n);
      stay = λ p low. source_stays n.sources p low;
      few = omega arith;
      old = record { each = λ j h at. absurd cc };
    }

sink_known : (n : Net) (i : ℕ) (s : Sig) → IsNet n → slice_get n.sinks i ≡ Some s → (p : ℕ) → s ≡ Node p → IsNodeBelow (end_of n) p
sink_known n i s net at p e = operands_known (end_of n) s (all_at (IsSigBelow (end_of n)) n.sinks i s net.sinks at) p e

merged_net : (n : Net) (k : Kept) → IsNet n → IsMerged n (end_of n) k → IsNet (net_with n k)
merged_net n k net is =
    record {
      gates = is.moves.gates;
      sinks = at_all (IsSigBelow (n.sources + 1 + length k.gates)) (map (moved k.nodes) n.sinks) (λ i t e.
          let s = at_map (moved k.nodes) n.sinks i t e in
          subst (IsSigBelow (n.sources + 1 + length k.gates)) s.2 (moved_below n.sources (value n) (IsNodeBelow (end_of n)) k s.0 is.moves (sink_known n i s.0 net s.1)));
      nodes = omega (arith, net.nodes, is.few);
    }

map_values : (f g : Sig → Bool) (move : Sig → Sig) (ss : List Sig) → ((i : ℕ) (s : Sig) → slice_get ss i ≡ Some s → f (move s) ≡ g s) → map f (map move ss) ≡ map g ss
map_values f g move [] same = refl
map_values f g move (s ∷ ss) same =
    rw (same 0 s refl, map_values f g move ss (λ i t e. same (suc i) t e)) refl

still_moved : (n : Net) (k : Kept) (s : Sig) → IsMerged n (end_of n) k → IsTrivialSink n.sources s → moved k.nodes s ≡ s
still_moved n k Zero is still = refl
still_moved n k One is still = refl
still_moved n k (Node p) is still = is.stay p still

-- The merged net implements the net.
pub merged_implements : (n : Net) (k : Kept) → IsNet n → IsMerged n (end_of n) k → Implements n (net_with n k)
merged_implements n k net is =
    record {
      net = merged_net n k net is;
      sources = refl;
      sink_count = length-map n.sinks (moved k.nodes);
      values = λ given. map_values (sig_value (values_of given n.sources k.gates)) (sig_value (value n given)) (moved k.nodes) n.sinks (λ i s at.
          moved_value n.sources (value n) (IsNodeBelow (end_of n)) k s given is.moves (sink_known n i s net at));
      fewer = omega (arith, is.few);
      still = λ i s at still. map_at (moved k.nodes) n.sinks i s at ∙ ap Some (still_moved n k s is still);
      equal = λ i j d low_i low_j same. index_map (moved k.nodes) n.sinks i d low_i ∙ ap (moved k.nodes) same ∙ sym (index_map (moved k.nodes) n.sinks j d low_j);
    }

-- the resulting net
abbrev net_put : ℕ → List Gate → List Sig → Net
net_put s gs ss = record { sources = s; gates = gs; sinks = ss }

pub merged_whole : (n : Net) (sources : ℕ) (nodes : List Sig) (gates : List Gate) (sinks : List Sig) → IsNet n →
    IsMerged n (end_of n) (kept nodes gates) → sources ≡ n.sources → sinks ≡ map (moved (nodes_of nodes)) n.sinks →
    Implements n (record { sources = sources; gates = gates; sinks = sinks })
merged_whole n sources nodes gates sinks net is same_sources same_sinks =
    let same : record { sources = sources; gates = gates; sinks = sinks } ≡ net_with n (kept nodes gates) =
    ap (λ (s : ℕ). net_put s gates sinks) same_sources
    ∙ ap (λ (ss : List Sig). net_put n.sources gates ss) same_sinks in
    subst (Implements n) (sym same) (merged_implements n (kept nodes gates) net is)

-- ---- the remaining gates

pub left_start : (n : Net) (node : ℕ) (left : List Gate) → node ≡ n.sources + 1 → left ≡ n.gates → AreLeft n node left
left_start n node left first same = record {
  all = omega (arith, first, ap (length {A = Gate}) same);
  past_sources = omega (arith, first);
  each = λ i j g at e.
      let own : j ≡ i = omega (arith, first, e) in
      subst (λ (k : ℕ). slice_get n.gates k ≡ Some g) (sym own) (sym (ap (λ (gs : List Gate). slice_get gs i) same) ∙ at);
}

pub left_more : (n : Net) (node : ℕ) (left rest : List Gate) (g : Gate) → left ≡ g ∷ rest → AreLeft n node left → AreLeft n (node + 1) rest
left_more n node left rest g split are = record {
  all = omega (arith, are.all, ap (length {A = Gate}) split);
  past_sources = omega (arith, are.past_sources);
  each = λ i j h at e. are.each (suc i) j h (ap (λ (gs : List Gate). slice_get gs (suc i)) split ∙ at) (omega (arith, e));
}

-- the index of the next gate
next_at : (n : Net) (node : ℕ) (left rest : List Gate) (g : Gate) → left ≡ g ∷ rest → AreLeft n node left → slice_get n.gates (node - (n.sources + 1)) ≡ Some g
next_at n node left rest g split are = are.each 0 (node - (n.sources + 1)) g (ap (λ (gs : List Gate). slice_get gs 0) split) (omega (arith, are.past_sources))

next_node : (n : Net) (node : ℕ) (left : List Gate) → AreLeft n node left → n.sources + 1 + (node - (n.sources + 1)) ≡ node
next_node n node left are = omega (arith, are.past_sources)

pub next_stands : (n : Net) (node : ℕ) (left rest : List Gate) (g : Gate) → IsNet n → left ≡ g ∷ rest → AreLeft n node left → IsGateAt node g
next_stands n node left rest g net split are = subst (λ (q : ℕ). IsGateAt q g) (next_node n node left are) (net.gates.each (node - (n.sources + 1)) g (next_at n node left rest g split are))

pub merged_next : (n : Net) (node : ℕ) (left rest : List Gate) (g : Gate) (k m : Kept) → IsNet n → left ≡ g ∷ rest →
    AreLeft n node left → IsMerged n node k → IsStrashStep n.sources node g k m → IsMerged n (node + 1) m
merged_next n node left rest g k m net split are is step =
    let here : n.sources + 1 + (node - (n.sources + 1)) ≡ node = next_node n node left are in
    subst (λ (q : ℕ). IsMerged n (q + 1) m) here
    (merged_more n (node - (n.sources + 1)) k m g net (next_at n node left rest g split are)
    (subst (λ (q : ℕ). IsMerged n q k) (sym here) is)
    (subst (λ (q : ℕ). IsStrashStep n.sources q g k m) (sym here) step))

-- ---- the map as a list

pub nodes_put : (nodes : List Sig) (node : ℕ) (s : Sig) → node < length nodes → nodes_of (slice_set nodes node s) ≡ put_sig (nodes_of nodes) node s
unfolding nodes_of
nodes_put nodes node s low = λ i p. at p i where
  at : (p : ℕ) → nodes_of (slice_set nodes node s) p ≡ put_sig (nodes_of nodes) node s p
  at p = ⊎_elim
      (λ here. ap (λ (k : ℕ). get_or (set nodes node s) k Zero) here ∙ get_or-set_same nodes node s Zero low ∙ sym (put_same (nodes_of nodes) node s p here))
      (λ other. get_or-set_other nodes node p s Zero other ∙ sym (put_other (nodes_of nodes) node s p other))
      (cases_eq p node)

pub merged_first : (n : Net) (node : ℕ) (nodes : List Sig) (gates : List Gate) → node ≡ n.sources + 1 → nodes_of nodes ≡ sources_stay n.sources → gates ≡ [] → IsMerged n node (kept nodes gates)
merged_first n node nodes gates first start none =
    let same : kept nodes gates ≡ nothing_kept n.sources = ap (λ (f : ℕ → Sig). kept_at f gates) start ∙ ap (kept_at (sources_stay n.sources)) none in
    subst (λ (q : ℕ). IsMerged n q (kept nodes gates)) (sym first) (subst (IsMerged n (n.sources + 1)) (sym same) (merged_start n))
  where
    kept_at : (ℕ → Sig) → List Gate → Kept
    kept_at f gs = record { nodes = f; gates = gs }
