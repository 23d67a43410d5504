-- Removing dangling gates keeps the values of all sinks and leaves no dangling gate.
use Rattle.std.specs.Prelude.{◌≡◌, ℕ, zero, suc, ◌+◌, ◌≤◌, ◌<◌, Bool, true, ◌&&◌, List, [], ◌∷◌, length, slice_get, map, Some, ◌⊎◌, refl}
use Rattle.std.proofs.Common.{arith, sym, ◌∙◌, ap, subst, inl, inr, ⊎_elim}
use Rattle.std.proofs.lemmas.Bool.{and_parts, and_from, cases_lt}
use Rattle.std.proofs.lemmas.List.{length-map}
use Rattle.net_theory.specs.declared.data.Sig.{Sig}
use Rattle.net_theory.specs.declared.data.Sig.TheVariants.{Zero, One, Node}
use Rattle.net_theory.specs.declared.data.Gate.{Gate}
use Rattle.net_theory.specs.Net.{Net, IsNet, IsSigBelow, end_of, sig_value, values_of, sink_values, value}
use Rattle.net_theory.specs.NameLaws.{all_at, at_all, map_at, at_map, index_map}
use Rattle.net_theory.specs.Reach.{ReadsNode, IsClosedFrom, IsReached, is_sink, live}
use Rattle.net_theory.specs.ReachLaws.{sink_in, in_sinks, reach_closed, marked_reached}
use Rattle.net_theory.specs.Moving.{moved, moved_gate, nothing_kept}
use Rattle.net_theory.specs.MovingLaws.{Goes, IsCopiedGate, IsMarked, Moves, IsSourceNode, moves_less, moved_below}
use Rattle.net_theory.specs.MovingLaws.{moved_value, moves_start, net_movable, keep_all, count_kept, marked_few}
use Rattle.net_theory.specs.MovingLaws.{kept_goes, kept_made, nodes_low, source_stays}
use Rattle.net_theory.specs.Dangling.{kept_gates, cleanup}
use Rattle.net_theory.specs.Operators.{HasOperator}
use Rattle.net_theory.specs.Implements.{IsTrivialSink, Implements, IsCleanedUp}

-- ---- values after the removal

live_closed : (n : Net) → IsNet n → IsClosedFrom n (is_sink n) (live n)
live_closed n net = reach_closed n (is_sink n) net

-- the nodes that are live
abbrev IsLive : Net → ℕ → Type 0
IsLive n p = (1 ≤ p) × (p < end_of n) × (live n p ≡ true)

live_known : (n : Net) (p : ℕ) → IsLive n p → IsSourceNode n.sources p ⊎ IsMarked (live n) (n.sources + 1) (length n.gates) p
live_known n p is =
    ⊎_elim
    (λ (source : p < n.sources + 1). inl (is.0, omega arith))
    (λ (above : n.sources + 1 ≤ p). inr (record { low = above; high = is.1; mark = is.2 }))
    (cases_lt p (n.sources + 1))

all_moved : (n : Net) → IsNet n → Moves n.sources (value n) (IsLive n) (kept_gates n)
all_moved n net =
    let kept = keep_all n.sources (value n) (IsSourceNode n.sources) (live n) (nothing_kept n.sources) (n.sources + 1) n.gates (moves_start n)
    (net_movable n (IsSourceNode n.sources) (live n) net (λ p e. e) (λ i p g at reads on. inr ((live_closed n net).gates i p g at reads on))) in
    moves_less n.sources (value n) (λ p. IsSourceNode n.sources p ⊎ IsMarked (live n) (n.sources + 1) (length n.gates) p) (IsLive n) (kept_gates n) (live_known n) kept.0

goes_on : (n : Net) (i : ℕ) (g : Gate) → IsNet n → slice_get n.gates i ≡ Some g → live n (n.sources + 1 + i) ≡ true → Goes n.sources (kept_gates n) (n.sources + 1 + i) g
goes_on n i g net at on = kept_goes (live n) n.sources (nothing_kept n.sources) (n.sources + 1) n.gates i g at (net.gates.each i g at) on

made_by : (n : Net) (j : ℕ) (h : Gate) → IsNet n → slice_get (kept_gates n).gates j ≡ Some h → IsCopiedGate (live n) n.sources (n.sources + 1) n.gates (kept_gates n).nodes j h
made_by n j h net at =
    ⊎_elim (λ none. absurd cc) (λ made. made) (kept_made (live n) n.sources (nothing_kept n.sources) (n.sources + 1) n.gates j h (λ i g a on. net.gates.each i g a) at)

-- ---- the remaining net

size_gates : (n : Net) → length (kept_gates n).gates ≤ length n.gates
size_gates n = omega (arith, count_kept (live n) n.sources (nothing_kept n.sources) (n.sources + 1) n.gates, marked_few (live n) (n.sources + 1) n.gates)

sink_live : (n : Net) (i : ℕ) (s : Sig) → IsNet n → slice_get n.sinks i ≡ Some s → (p : ℕ) → s ≡ Node p → IsLive n p
sink_live n i s net at p e =
    let low : IsSigBelow (end_of n) (Node p) = subst (IsSigBelow (end_of n)) e (all_at (IsSigBelow (end_of n)) n.sinks i s net.sinks at) in
    (low.0, low.1, (live_closed n net).starts p (sink_in n i p (at ∙ ap Some e)))

cleanup_net : (n : Net) → IsNet n → IsNet (cleanup n)
unfolding cleanup
cleanup_net n net =
    let is : Moves n.sources (value n) (IsLive n) (kept_gates n) = all_moved n net in
    record {
      gates = is.gates;
      sinks = at_all (IsSigBelow (n.sources + 1 + length (kept_gates n).gates)) (map (moved (kept_gates n).nodes) n.sinks) (λ i t e.
          let s = at_map (moved (kept_gates n).nodes) n.sinks i t e in
          subst (IsSigBelow (n.sources + 1 + length (kept_gates n).gates)) s.2 (moved_below n.sources (value n) (IsLive n) (kept_gates n) s.0 is (sink_live n i s.0 net s.1)));
      nodes = omega (arith, net.nodes, size_gates n);
    }

map_values : (f g : Sig → Bool) (move : Sig → Sig) (ss : List Sig) → ((i : ℕ) (s : Sig) → slice_get ss i ≡ Some s → f (move s) ≡ g s) → map f (map move ss) ≡ map g ss
map_values f g move [] same = refl
map_values f g move (s ∷ ss) same =
    rw (same 0 s refl, map_values f g move ss (λ i t e. same (suc i) t e)) refl

cleanup_values : (n : Net) (given : ℕ → Bool) → IsNet n → sink_values (cleanup n) given ≡ sink_values n given
unfolding cleanup
cleanup_values n given net =
    map_values (sig_value (values_of given n.sources (kept_gates n).gates)) (sig_value (values_of given n.sources n.gates)) (moved (kept_gates n).nodes) n.sinks (λ i s e.
    moved_value n.sources (value n) (IsLive n) (kept_gates n) s given (all_moved n net) (sink_live n i s net e))

-- ---- the remaining gates aren't dangling

-- whether a set of new nodes contains the new signal of an old node
abbrev set_at : (ℕ → Bool) → Sig → Bool
set_at set Zero = true
set_at set One = true
set_at set (Node p) = set p

-- whether an old node is live and the set contains its new signal
abbrev went_into : Net → (ℕ → Bool) → ℕ → Bool
went_into n set p = live n p && set_at set ((kept_gates n).nodes p)

reads_moved : (nodes : ℕ → Sig) (g : Gate) (p q : ℕ) → ReadsNode g p → nodes p ≡ Node q → ReadsNode (moved_gate nodes g) q
reads_moved nodes g p q reads e =
    ⊎_elim (λ a. inl (ap (moved nodes) a ∙ e)) (λ b. inr (ap (moved nodes) b ∙ e)) reads

-- `set_at` holds of a signal that is a constant or a node of the set
into_set : (set : ℕ → Bool) (s : Sig) → ((q : ℕ) → s ≡ Node q → set q ≡ true) → set_at set s ≡ true
into_set set Zero each = refl
into_set set One each = refl
into_set set (Node q) each = each q refl

-- A closed set of the new net, taken back to the old one, is closed there.
went_closed : (n : Net) (set : ℕ → Bool) → IsNet n → IsClosedFrom (cleanup n) (is_sink (cleanup n)) set → IsClosedFrom n (is_sink n) (went_into n set)
unfolding cleanup
went_closed n set net closed =
    record {
      starts = λ p e.
          let s = in_sinks n p e in
          and_from (live n p) (set_at set ((kept_gates n).nodes p)) ((live_closed n net).starts p e)
          (into_set set ((kept_gates n).nodes p) (λ q went. closed.starts q (sink_in (cleanup n) s.0 q (map_at (moved (kept_gates n).nodes) n.sinks s.0 (Node p) s.1 ∙ ap Some went))));
      gates = λ i p g at reads e.
          let parts = and_parts (live n (n.sources + 1 + i)) (set_at set ((kept_gates n).nodes (n.sources + 1 + i))) e in
          let goes : Goes n.sources (kept_gates n) (n.sources + 1 + i) g = goes_on n i g net at parts.0 in
          let has_ : set (n.sources + 1 + goes.j) ≡ true = subst (λ (s : Sig). set_at set s ≡ true) goes.went parts.1 in
          and_from (live n p) (set_at set ((kept_gates n).nodes p)) ((live_closed n net).gates i p g at reads parts.0)
          (into_set set ((kept_gates n).nodes p) (λ q went. closed.gates goes.j q (moved_gate (kept_gates n).nodes g) goes.at (reads_moved (kept_gates n).nodes g p q reads went) has_));
    }

cleanup_reached : (n : Net) (j : ℕ) (h : Gate) → IsNet n → slice_get (kept_gates n).gates j ≡ Some h → IsReached (cleanup n) (n.sources + 1 + j)
cleanup_reached n j h net at set closed =
    let made = made_by n j h net at in
    let reached : went_into n set (n.sources + 1 + made.index) ≡ true = marked_reached n (is_sink n) (n.sources + 1 + made.index) made.mark (went_into n set) (went_closed n set net closed) in
    let parts = and_parts (live n (n.sources + 1 + made.index)) (set_at set ((kept_gates n).nodes (n.sources + 1 + made.index))) reached in
    subst (λ (s : Sig). set_at set s ≡ true) made.went parts.1

-- sources keep their nodes
source_kept : (n : Net) (p : ℕ) → p ≤ n.sources → (kept_gates n).nodes p ≡ Node p
source_kept n p low =
    nodes_low (live n) n.sources (nothing_kept n.sources) (n.sources + 1) n.gates p (omega arith) ∙ source_stays n.sources p low

still_moved : (n : Net) (s : Sig) → IsTrivialSink n.sources s → moved (kept_gates n).nodes s ≡ s
still_moved n Zero still = refl
still_moved n One still = refl
still_moved n (Node p) still = source_kept n p still

some_there : {A : Type 0} (xs : List A) (i : ℕ) → i < length xs → (x : A) × (slice_get xs i ≡ Some x)
some_there [] i low = absurd (omega arith)
some_there (x ∷ xs) zero low = (x, refl)
some_there (x ∷ xs) (suc i) low = some_there xs i (omega arith)

cleanup_implements : (n : Net) → IsNet n → Implements n (cleanup n)
unfolding cleanup
cleanup_implements n net =
    record {
      net = cleanup_net n net;
      sources = refl;
      sink_count = length-map n.sinks (moved (kept_gates n).nodes);
      values = λ given. cleanup_values n given net;
      fewer = size_gates n;
      still = λ i s e still. map_at (moved (kept_gates n).nodes) n.sinks i s e ∙ ap Some (still_moved n s still);
      equal = λ i j d low_i low_j same. index_map (moved (kept_gates n).nodes) n.sinks i d low_i
          ∙ ap (moved (kept_gates n).nodes) same ∙ sym (index_map (moved (kept_gates n).nodes) n.sinks j d low_j);
    }

-- The cleanup leaves a net without dangling gates whose sinks have the old values.
pub cleanup_is : (n : Net) → IsNet n → IsCleanedUp n (cleanup n)
unfolding cleanup
cleanup_is n net =
    record {
      implements = cleanup_implements n net;
      reached = λ j low. let h = some_there (kept_gates n).gates j low in cleanup_reached n j h.0 net h.1;
    }

-- Each remaining gate has the operator of an old gate.
pub cleanup_operators : (n : Net) (op : ℕ) → IsNet n → HasOperator (cleanup n) op → HasOperator n op
unfolding cleanup
cleanup_operators n op net has =
    let made = made_by n has.index has.gate net has.at in
    record { index = made.index; gate = made.gate; at = made.at; same = sym (ap (λ (x : Gate). x.op) made.is) ∙ has.same }
