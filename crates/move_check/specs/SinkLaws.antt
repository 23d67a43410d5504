-- Mapped sinks.
use Rattle.std.specs.Prelude.{◌≡◌, ℕ, ◌≤◌, ◌<◌, List, length, map, slice_get, slice_set, slice_index_or, Some, All, refl}
use Rattle.std.proofs.Common.{arith, sym, ◌∙◌, ◌≢◌, ap, subst, ⊎_elim, get_or, set}
use Rattle.std.proofs.lemmas.Bool.{cases_eq, cases_lt, le-leb, lt-leb}
use Rattle.std.proofs.lemmas.List.{length-map, get_or-set_same, get_or-set_other}
use Rattle.std.proofs.lemmas.Grind.{common_steps}
use Rattle.net_theory.specs.declared.data.Sig.{Sig}
use Rattle.net_theory.specs.declared.data.Sig.TheVariants.{Zero, One, Node}
use Rattle.net_theory.specs.Net.{Net, IsNet, IsSigBelow, end_of}
use Rattle.net_theory.specs.NameLaws.{all_at, at_all, map_at, at_map, index_map}
use Rattle.net_theory.specs.Implements.{IsTrivialSink}
use Rattle.net_theory.specs.Moving.{moved, sources_stay}
use Rattle.net_core.specs.Marks.{nodes_of}
use Rattle.move_check.specs.Sinks.{IsSinkMap, HasSinksOf}

-- ---- the map

start_stays : (sources p : ℕ) → p ≤ sources → sources_stay sources p ≡ Node p
start_stays sources p low = rw (le-leb p sources low) refl

start_below : (sources end p : ℕ) → sources < end → 1 ≤ p → IsSigBelow end (sources_stay sources p)
start_below sources end p room some =
    ⊎_elim
    (λ (high : sources < p). rw (lt-leb p sources high) tt)
    (λ (low : p ≤ sources). rw (le-leb p sources low) (some, omega (arith, room, low)))
    (cases_lt sources p)

pub map_start : (sources end : ℕ) (nodes : List Sig) → sources < end → nodes_of nodes ≡ sources_stay sources → IsSinkMap sources end (nodes_of nodes)
map_start sources end nodes room start = subst (IsSinkMap sources end) (sym start) (record {
  stay = start_stays sources;
  below = λ p some. start_below sources end p room some;
})

pub map_put : (sources end node : ℕ) (nodes : List Sig) (s : Sig) → sources < node → node < length nodes →
    IsSigBelow end s → IsSinkMap sources end (nodes_of nodes) →
    IsSinkMap sources end (nodes_of (slice_set nodes node s))
unfolding nodes_of
map_put sources end node nodes s high within below is = record {
  stay = λ p low. get_or-set_other nodes node p s Zero (λ e. omega (arith, e, low, high)) ∙ is.stay p low;
  below = λ p some. ⊎_elim
      (λ (here : p ≡ node). subst (IsSigBelow end) (sym (ap (λ (k : ℕ). get_or (set nodes node s) k Zero) here ∙ get_or-set_same nodes node s Zero within)) below)
      (λ (other : p ≢ node). subst (IsSigBelow end) (sym (get_or-set_other nodes node p s Zero other)) (is.below p some))
      (cases_eq p node);
}

-- ---- the sinks

moved_is_below : (n : Net) (end : ℕ) (nodes : ℕ → Sig) (s : Sig) → IsSinkMap n.sources end nodes → IsSigBelow (end_of n) s → IsSigBelow end (moved nodes s)
moved_is_below n end nodes Zero is below = tt
moved_is_below n end nodes One is below = tt
moved_is_below n end nodes (Node p) is below = is.below p below.0

pub sinks_below : (n : Net) (end : ℕ) (nodes : ℕ → Sig) → IsNet n → IsSinkMap n.sources end nodes → All (IsSigBelow end) (map (moved nodes) n.sinks)
sinks_below n end nodes net is = at_all (IsSigBelow end) (map (moved nodes) n.sinks) (λ k y at.
    let was = at_map (moved nodes) n.sinks k y at in
    subst (IsSigBelow end) was.2 (moved_is_below n end nodes was.0 is (all_at (IsSigBelow (end_of n)) n.sinks k was.0 net.sinks was.1)))

still_moved : (n : Net) (end : ℕ) (nodes : ℕ → Sig) (s : Sig) → IsSinkMap n.sources end nodes → IsTrivialSink n.sources s → moved nodes s ≡ s
still_moved n end nodes Zero is still = refl
still_moved n end nodes One is still = refl
still_moved n end nodes (Node p) is still = is.stay p still

pub has_sinks : (n m : Net) (end : ℕ) (nodes : ℕ → Sig) → m.sources ≡ n.sources → m.sinks ≡ map (moved nodes) n.sinks → IsSinkMap n.sources end nodes → HasSinksOf n m
has_sinks n m end nodes sources same is = record {
  sources = sources;
  sink_count = ap (length {A = Sig}) same ∙ length-map n.sinks (moved nodes);
  still = λ i s at still. ap (λ (ss : List Sig). slice_get ss i) same ∙ map_at (moved nodes) n.sinks i s at ∙ ap Some (still_moved n end nodes s is still);
  equal = λ i j d low_i low_j equal.
      ap (λ (ss : List Sig). slice_index_or ss i d) same ∙ index_map (moved nodes) n.sinks i d low_i ∙ ap (moved nodes) equal
      ∙ sym (index_map (moved nodes) n.sinks j d low_j) ∙ sym (ap (λ (ss : List Sig). slice_index_or ss j d) same);
}

pub sink_within : (n : Net) (i : ℕ) (d : Sig) → IsNet n → i < length n.sinks → IsSigBelow (end_of n) (slice_index_or n.sinks i d)
sink_within n i d net low = net.sinks i d low

pub ruleset mapping = (common_steps, map_start, map_put, sink_within, sinks_below, has_sinks)
