-- A chain that implements a window's specification with observability don't-cares can be
-- substituted for it.
use Rattle.std.specs.Prelude.{◌≡◌, ℕ, suc, ◌+◌, ◌-◌, ◌≤◌, ◌<◌, ◌^◌, Bool, true, false, List, [], ◌∷◌, length, map, slice_get, slice_index_or, Some, ◌⊎◌, refl}
use Rattle.std.proofs.Common.{arith, sym, ◌∙◌, ap, subst, inl, inr, ⊎_elim}
use Rattle.std.proofs.lemmas.Bool.{cases_Bool}
use Rattle.std.proofs.lemmas.Option.{slice_get_within, get_or_from_slice_get}
use Rattle.chain_theory.specs.Specification.{Specification}
use Rattle.chain_theory.specs.Chain.{Chain, IsChain, NamesPlace}
use Rattle.chain_theory.specs.Value.{out_value}
use Rattle.chain_theory.specs.Agreement.{output_value, is_met, Agrees}
use Rattle.chain_theory.specs.declared.data.Cell.{Cell}
use Rattle.chain_theory.specs.declared.data.Out.{Out}
use Rattle.chain_theory.specs.declared.data.Out.TheVariants as outs
use Rattle.net_theory.specs.declared.data.Sig.{Sig}
use Rattle.net_theory.specs.declared.data.Sig.TheVariants as sigs
use Rattle.net_theory.specs.Net.{Net, IsNet, IsSigBelow, end_of, sig_value, value, sink_values}
use Rattle.net_theory.specs.NameLaws.{all_at}
use Rattle.net_theory.specs.ValueLaws.{value-source}
use Rattle.window_theory.specs.Nodes.{among}
use Rattle.window_theory.specs.Window.{Window, Belongs}
use Rattle.window_theory.specs.Care.{IsGiven, HasRow, IsCareRow, cell_of, output_node}
use Rattle.window_theory.specs.CareLaws.{values_real, window_real}
use Rattle.window_theory.specs.FixedLaws.{with_same}
use Rattle.window_theory.specs.Substituted.{Fits, chain_bits, out_bit, substituted_bits, substituted_value}
use Rattle.window_theory.specs.PairLaws.{bits_other, IsSet, is_set}
use Rattle.window_theory.specs.SubstitutedLaws.{source_outside}
use Rattle.window_theory.specs.SubstitutionLaws.{out_row, met_cell}
use Rattle.observe_theory.specs.FanoutCone.{FanoutCone}
use Rattle.observe_theory.specs.Unobservable.{IsUnobservable}
use Rattle.observe_theory.specs.Observed.{IsObservedOf}
use Rattle.observe_theory.specs.ApartLaws.{ArePut, not_output}
use Rattle.observe_theory.specs.UnobservableLaws.{sink_same}

-- ---- on an observable row

-- the row isn't unobservable, and the assignment gives it
record IsSeenUnder (n : Net) (w : Window) (t : FanoutCone) (given : ℕ → Bool) (row : ℕ) : Type 0 where
  low : row < 2 ^ length w.inputs
  has : HasRow (value n given) w.inputs row
  care : IsCareRow n w.inputs row
  seen : IsUnobservable n w t row → ⊥

-- on it an output has its own value
output_seen : (n : Net) (w : Window) (c : Chain) (s : Specification) (o : IsObservedOf n w s) (given : ℕ →
    Bool) (row p i : ℕ) (x : Out) → IsNet n → Fits w c → Agrees c s → IsSeenUnder n w o.fanout_cone given row →
    slice_get w.outputs i ≡ Some p → slice_get c.outs i ≡ Some x → out_bit (chain_bits n w c given) x ≡ value n given p
output_seen n w c s o given row p i x net fits agrees is node at =
    let low : i < length w.outputs = slice_get_within w.outputs i p node in
    let high : i + 1 ≤ length w.outputs = omega (arith, low) in
    let index : (i + 1) - 1 ≡ i = omega arith in
    let whole_high : i + 1 ≤ o.whole.outputs = subst (λ (k : ℕ). i + 1 ≤ k) (sym o.is_whole.outputs) high in
    let whole_row : row < 2 ^ o.whole.inputs = subst (λ (k : ℕ). row < 2 ^ k) (sym o.is_whole.inputs) is.low in
    let own_node : output_node w (i + 1) ≡ p = ap (λ (k : ℕ). slice_index_or w.outputs k 0) index ∙ get_or_from_slice_get w.outputs i p 0 node in
    let cell : s.cell (i + 1) row ≡ cell_of (value n given p) =
    o.relaxed.seen (i + 1) row (omega arith) whole_high whole_row is.seen
    ∙ o.is_whole.care (i + 1) row (value n given) (omega arith) high is.low is.care is.has
    ∙ ap cell_of (values_real n (among w.inputs) given (output_node w (i + 1)) net)
    ∙ ap (λ (q : ℕ). cell_of (value n given q)) own_node in
    let met : is_met (s.cell (i + 1) row) (output_value c (i + 1) row) ≡ true =
    agrees.cells (i + 1) row (omega arith) (subst (λ (k : ℕ). i + 1 ≤ k) (sym o.relaxed.outputs) whole_high)
    (subst (λ (k : ℕ). row < 2 ^ k) (sym o.relaxed.inputs) whole_row) in
    let out : output_value c (i + 1) row ≡ out_value c row x =
    ap (λ (k : ℕ). out_value c row (slice_index_or c.outs k outs.Zero)) index
    ∙ ap (out_value c row) (get_or_from_slice_get c.outs i x outs.Zero at) in
    sym (out_row n w c given row x fits is.has (all_at (NamesPlace (c.n + length c.steps)) c.outs i x fits.chain.outs at))
    ∙ sym out
    ∙ met_cell (value n given p) (output_value c (i + 1) row) (ap (λ (k : Cell). is_met k (output_value c (i + 1) row)) (sym cell) ∙ met)

bits_seen : (n : Net) (w : Window) (c : Chain) (s : Specification) (o : IsObservedOf n w s) (given : ℕ →
    Bool) (row q : ℕ) → IsNet n → Fits w c → Agrees c s → IsSeenUnder n w o.fanout_cone given row →
    IsGiven n (among w.outputs) q → substituted_bits n w c given q ≡ value n given q
bits_seen n w c s o given row q net fits agrees is from =
    ⊎_elim
    (λ on.
    let set : IsSet (λ r. sigs.Zero) given w.outputs c.outs (λ x. sigs.Zero) (out_bit (chain_bits n w c given)) q =
    is_set (λ r. sigs.Zero) given w.outputs c.outs (λ x. sigs.Zero) (out_bit (chain_bits n w c given)) q fits.outs on
    in
    set.has_bit ∙ output_seen n w c s o given row q set.index set.out net fits agrees is set.node set.at)
    (λ off.
    let source : q ≤ n.sources = ⊎_elim (λ on. absurd (let e : true ≡ false = sym on ∙ off in cc)) (λ low. low) from in
    bits_other given w.outputs (map (out_bit (chain_bits n w c given)) c.outs) q off ∙ sym (value-source given n.sources q n.gates source))
    (cases_Bool (among w.outputs q))

-- and all values stay
value_seen : (n : Net) (w : Window) (c : Chain) (s : Specification) (o : IsObservedOf n w s) (given : ℕ →
    Bool) (row p : ℕ) → IsNet n → Fits w c → Agrees c s → IsSeenUnder n w o.fanout_cone given row → p < end_of n →
    substituted_value n w c given p ≡ value n given p
value_seen n w c s o given row p net fits agrees is within =
    with_same n (among w.outputs) (substituted_bits n w c given) (value n given) p net (λ q from. bits_seen n w c s o given row q net fits agrees is from) within
    ∙ values_real n (among w.outputs) given p net

sig_seen : (n : Net) (w : Window) (c : Chain) (s : Specification) (o : IsObservedOf n w s) (given : ℕ →
    Bool) (row : ℕ) (x : Sig) → IsNet n → Fits w c → Agrees c s → IsSeenUnder n w o.fanout_cone given row →
    IsSigBelow (end_of n) x → sig_value (substituted_value n w c given) x ≡ sig_value (value n given) x
sig_seen n w c s o given row sigs.Zero net fits agrees is low = refl
sig_seen n w c s o given row sigs.One net fits agrees is low = refl
sig_seen n w c s o given row (sigs.Node p) net fits agrees is low = value_seen n w c s o given row p net fits agrees is low.1

-- ---- on any row

two_bits : (a b : Bool) → (a ≡ b) ⊎ (a ≡ b → ⊥)
two_bits true true = inl refl
two_bits false false = inl refl
two_bits true false = inr (λ e. absurd cc)
two_bits false true = inr (λ e. absurd cc)

-- the chain's bits are forced on the outputs alone
substituted_put : (n : Net) (w : Window) (c : Chain) (given : ℕ → Bool) → Belongs n w → ArePut n given (substituted_bits n w c given)
substituted_put n w c given is p low =
    bits_other given w.outputs (map (out_bit (chain_bits n w c given)) c.outs) p (not_output n w p is (source_outside n w p is low))

sink_kept : (n : Net) (w : Window) (c : Chain) (s : Specification) (o : IsObservedOf n w s) (given : ℕ →
    Bool) (i : ℕ) (x : Sig) → IsNet n → Belongs n w → Fits w c → Agrees c s → slice_get n.sinks i ≡ Some x →
    sig_value (substituted_value n w c given) x ≡ sig_value (value n given) x
sink_kept n w c s o given i x net belongs fits agrees at =
    let row = window_real n w given net belongs in
    let low : IsSigBelow (end_of n) x = all_at (IsSigBelow (end_of n)) n.sinks i x net.sinks at in
    ⊎_elim
    (λ same. same)
    (λ differ.
    let seen : IsUnobservable n w o.fanout_cone row.0 → ⊥ =
    λ u. differ (sink_same n w o.fanout_cone row.0 i x given (substituted_bits n w c given) net belongs
    o.is_fanout_cone u row.2 (substituted_put n w c given belongs) at) in
    sig_seen n w c s o given row.0 x net fits agrees (record { low = row.1; has = row.2; care = row.3; seen = seen }) low)
    (two_bits (sig_value (substituted_value n w c given) x) (sig_value (value n given) x))

map_same : (f g : Sig → Bool) (xs : List Sig) → ((i : ℕ) (x : Sig) → slice_get xs i ≡ Some x → f x ≡ g x) → map f xs ≡ map g xs
map_same f g [] same = refl
map_same f g (x ∷ xs) same = rw (same 0 x refl, map_same f g xs (λ i y e. same (suc i) y e)) refl

-- a chain that implements the specification has the inputs and outputs of the window
pub observed_fits : (n : Net) (w : Window) (s : Specification) (c : Chain) → IsChain c → IsObservedOf n w s → Agrees c s → Fits w c
observed_fits n w s c chain o agrees =
    record {
      chain = chain;
      inputs = agrees.inputs ∙ o.relaxed.inputs ∙ o.is_whole.inputs;
      outs = agrees.outputs ∙ o.relaxed.outputs ∙ o.is_whole.outputs;
    }

-- All sinks keep their values.
pub sinks_kept : (n : Net) (w : Window) (s : Specification) (c : Chain) (given : ℕ → Bool) → IsNet n → Belongs n w →
    IsChain c → IsObservedOf n w s → Agrees c s → map (sig_value (substituted_value n w c given)) n.sinks ≡
    sink_values n given
sinks_kept n w s c given net is chain o agrees =
    map_same (sig_value (substituted_value n w c given)) (sig_value (value n given)) n.sinks (λ i x at.
    sink_kept n w c s o given i x net is (observed_fits n w s c chain o agrees) agrees at)
