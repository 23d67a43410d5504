-- Copied gates keep their values, for any map from old nodes to new signals.
use Rattle.std.specs.Prelude.{◌≡◌, ℕ, zero, suc, ◌+◌, ◌≤◌, ◌<◌, Bool, true, false, ◌==◌, nat_le, if◌then◌else◌, List, [], ◌∷◌, ◌++◌, length, slice_get, Some, ◌⊎◌, refl}
use Rattle.std.proofs.Common.{arith, sym, ◌∙◌, ap, subst, inl, inr, ⊎_elim, length-append, ◌≢◌, add-zero}
use Rattle.std.proofs.lemmas.Bool.{cond_both, cond-true, cond-false, eq-eqb, ne_eqb, le-leb, both_ways, cases_eq, cases_lt, cases_Bool}
use Rattle.net_theory.specs.declared.data.Sig.{Sig}
use Rattle.net_theory.specs.declared.data.Sig.TheVariants.{Zero, One, Node}
use Rattle.net_theory.specs.declared.data.Gate.{Gate}
use Rattle.net_theory.specs.Net.{Net, IsNet, IsSigBelow, IsGateAt, AreGates, sig_value, gate_value, values_of, value}
use Rattle.net_theory.specs.ValueLaws.{ExtendsGates, grown_none, grown_more, grown_push, below_later, sig_value-same}
use Rattle.net_theory.specs.ValueLaws.{value-source, value-last, values_after-gate, gates_push, at_push, at_prefix}
use Rattle.net_theory.specs.ValueLaws.{at_end}
use Rattle.net_theory.specs.Reach.{ReadsNode}
use Rattle.net_theory.specs.Moving.{Kept, moved, moved_gate, put_sig, with_kept, kept_after, marked_count, sources_stay, nothing_kept}

-- ---- the map

put_same : (nodes : ℕ → Sig) (node : ℕ) (s : Sig) → put_sig nodes node s node ≡ s
put_same nodes node s = cond-true (node == node) s (nodes node) (eq-eqb node node refl)

put_other : (nodes : ℕ → Sig) (node : ℕ) (s : Sig) (p : ℕ) → p ≢ node → put_sig nodes node s p ≡ nodes p
put_other nodes node s p other = cond-false (p == node) s (nodes p) (ne_eqb p node other)

-- maps that agree below a node agree on all signals below it
pub moved-same : (f g : ℕ → Sig) (node : ℕ) (s : Sig) → IsSigBelow node s → ((p : ℕ) → p < node → f p ≡ g p) → moved f s ≡ moved g s
moved-same f g node Zero below same = refl
moved-same f g node One below same = refl
moved-same f g node (Node p) below same = same p below.1

pub moved_gate-same : (f g : ℕ → Sig) (node : ℕ) (x : Gate) → IsGateAt node x → ((p : ℕ) → p < node → f p ≡ g p) → moved_gate f x ≡ moved_gate g x
moved_gate-same f g node x is same =
    rw (moved-same f g node x.a is.first same, moved-same f g node x.b is.second same) refl

-- ---- new signals of old nodes

-- One step of copying.
abbrev next_kept : (ℕ → Bool) → ℕ → Kept → ℕ → Gate → Kept
next_kept marks sources k node g = if marks node then with_kept sources k node g else k

next_other : (marks : ℕ → Bool) (sources : ℕ) (k : Kept) (node : ℕ) (g : Gate) (p : ℕ) → p ≢ node → (next_kept marks sources k node g).nodes p ≡ k.nodes p
next_other marks sources k node g p other =
    cond_both (marks node) (with_kept sources k node g) k (λ (x : Kept). x.nodes p ≡ k.nodes p) (λ on. put_other k.nodes node (Node (sources + 1 + length k.gates)) p other) (λ off. refl)

-- a node below the gates keeps its new signal
pub nodes_low : (marks : ℕ → Bool) (sources : ℕ) (k : Kept) (node : ℕ) (gs : List Gate) (p : ℕ) → p < node → (kept_after marks sources k node gs).nodes p ≡ k.nodes p
unfolding kept_after
nodes_low marks sources k node [] p low = refl
nodes_low marks sources k node (g ∷ gs) p low =
    nodes_low marks sources (next_kept marks sources k node g) (node + 1) gs p (omega arith) ∙ next_other marks sources k node g p (omega arith)

-- gates that are already there don't move
pub gates_stay : (marks : ℕ → Bool) (sources : ℕ) (k : Kept) (node : ℕ) (gs : List Gate) (j : ℕ) (h : Gate) →
    slice_get k.gates j ≡ Some h → slice_get (kept_after marks sources k node gs).gates j ≡ Some h
unfolding kept_after
gates_stay marks sources k node [] j h e = e
gates_stay marks sources k node (g ∷ gs) j h e =
    gates_stay marks sources (next_kept marks sources k node g) (node + 1) gs j h
    (cond_both (marks node) (with_kept sources k node g) k (λ (x : Kept). slice_get x.gates j ≡ Some h) (λ on. at_prefix k.gates (moved_gate k.nodes g ∷ []) j h e) (λ off. e))

-- each marked gate adds one gate
pub count_kept : (marks : ℕ → Bool) (sources : ℕ) (k : Kept) (node : ℕ) (gs : List Gate) → length (kept_after marks sources k node gs).gates ≡ length k.gates + marked_count marks node gs
unfolding kept_after marked_count
count_kept marks sources k node [] = omega arith
count_kept marks sources k node (g ∷ gs) =
    count_kept marks sources (next_kept marks sources k node g) (node + 1) gs ∙ one (marks node) where
      one : (t : Bool) → length (if t then with_kept sources k node g else k).gates + marked_count marks (node + 1) gs ≡ length k.gates + ((if t then 1 else 0) + marked_count marks (node + 1) gs)
      one true = omega (arith, length-append k.gates (moved_gate k.nodes g ∷ []))
      one false = omega arith

pub marked_few : (marks : ℕ → Bool) (node : ℕ) (gs : List Gate) → marked_count marks node gs ≤ length gs
unfolding marked_count
marked_few marks node [] = omega arith
marked_few marks node (g ∷ gs) =
    cond_both (marks node) 1 0 (λ (x : ℕ). x + marked_count marks (node + 1) gs ≤ suc (length gs))
    (λ on. omega (arith, marked_few marks (node + 1) gs)) (λ off. omega (arith, marked_few marks (node + 1) gs))

-- the copy of the gate `node`
pub record Goes (sources : ℕ) (k : Kept) (node : ℕ) (g : Gate) : Type 0 where
  pub j : ℕ
  pub went : k.nodes node ≡ Node (sources + 1 + j)
  pub at : slice_get k.gates j ≡ Some (moved_gate k.nodes g)

-- a marked gate has a copy
pub kept_goes : (marks : ℕ → Bool) (sources : ℕ) (k : Kept) (node : ℕ) (gs : List Gate) (i : ℕ) (g : Gate) →
    slice_get gs i ≡ Some g → IsGateAt (node + i) g → marks (node + i) ≡ true →
    Goes sources (kept_after marks sources k node gs) (node + i) g
unfolding kept_after
kept_goes marks sources k node [] i g at is on = absurd cc
kept_goes marks sources k node (h ∷ gs) zero g at is on =
    let same : h ≡ g = cc in
    let own : node + 0 ≡ node = add-zero node in
    let here : IsGateAt node g = subst (λ (q : ℕ). IsGateAt q g) own is in
    let next : Kept = next_kept marks sources k node h in
    let one : next ≡ with_kept sources k node g = cond-true (marks node) (with_kept sources k node h) k (subst (λ (q : ℕ). marks q ≡ true) own on) ∙ ap (with_kept sources k node) same in
    let last : Kept = kept_after marks sources next (node + 1) gs in
    let low : (p : ℕ) → p < node → k.nodes p ≡ last.nodes p = λ p l. sym (nodes_low marks sources next (node + 1) gs p (omega arith) ∙ next_other marks sources k node h p (omega arith)) in
    record {
      j = length k.gates;
      went =
          ap last.nodes own
          ∙ nodes_low marks sources next (node + 1) gs node (omega arith)
          ∙ ap (λ (x : Kept). x.nodes node) one
          ∙ put_same k.nodes node (Node (sources + 1 + length k.gates));
      at = gates_stay marks sources next (node + 1) gs (length k.gates) (moved_gate last.nodes g)
          (ap (λ (x : Kept). slice_get x.gates (length k.gates)) one ∙ at_end k.gates (moved_gate k.nodes g) ∙ ap Some (moved_gate-same k.nodes last.nodes node g here low));
    }
kept_goes marks sources k node (h ∷ gs) (suc i) g at is on =
    let e : node + suc i ≡ (node + 1) + i = omega arith in
    let last : Kept = kept_after marks sources (next_kept marks sources k node h) (node + 1) gs in
    subst (λ (q : ℕ). Goes sources last q g) (sym e)
    (kept_goes marks sources (next_kept marks sources k node h) (node + 1) gs i g at (subst (λ (q : ℕ). IsGateAt q g) e is) (subst (λ (q : ℕ). marks q ≡ true) e on))

-- `h` is the copy of a marked gate
pub record IsCopiedGate (marks : ℕ → Bool) (sources node : ℕ) (gs : List Gate) (nodes : ℕ → Sig) (j : ℕ) (h : Gate) : Type 0 where
  pub index : ℕ
  pub gate : Gate
  pub at : slice_get gs index ≡ Some gate
  pub mark : marks (node + index) ≡ true
  pub went : nodes (node + index) ≡ Node (sources + 1 + j)
  pub is : h ≡ moved_gate nodes gate

-- the operands of each marked gate are below it
abbrev pub AreMarkedAt : (ℕ → Bool) → ℕ → List Gate → Type 0
AreMarkedAt marks node gs = (i : ℕ) (g : Gate) → slice_get gs i ≡ Some g → marks (node + i) ≡ true → IsGateAt (node + i) g

pub tail_marked : (marks : ℕ → Bool) (node : ℕ) (g : Gate) (gs : List Gate) → AreMarkedAt marks node (g ∷ gs) → AreMarkedAt marks (node + 1) gs
tail_marked marks node g gs are i h at on =
    let e : node + suc i ≡ (node + 1) + i = omega arith in
    subst (λ (q : ℕ). IsGateAt q h) e (are (suc i) h at (subst (λ (q : ℕ). marks q ≡ true) (sym e) on))

pub head_marked : (marks : ℕ → Bool) (node : ℕ) (g : Gate) (gs : List Gate) → AreMarkedAt marks node (g ∷ gs) → marks node ≡ true → IsGateAt node g
head_marked marks node g gs are on =
    let e : node + 0 ≡ node = add-zero node in
    subst (λ (q : ℕ). IsGateAt q g) e (are 0 g refl (subst (λ (q : ℕ). marks q ≡ true) (sym e) on))

made_later : (marks : ℕ → Bool) (sources node : ℕ) (g : Gate) (gs : List Gate) (nodes : ℕ → Sig) (j : ℕ) (h : Gate) →
    IsCopiedGate marks sources (node + 1) gs nodes j h → IsCopiedGate marks sources node (g ∷ gs) nodes j h
made_later marks sources node g gs nodes j h m =
    let e : (node + 1) + m.index ≡ node + suc m.index = omega arith in
    record {
      index = suc m.index;
      gate = m.gate;
      at = m.at;
      mark = subst (λ (q : ℕ). marks q ≡ true) e m.mark;
      went = subst (λ (q : ℕ). nodes q ≡ Node (sources + 1 + j)) e m.went;
      is = m.is;
    }

-- Each gate of the result was already there or is the copy of a marked one.
pub kept_made : (marks : ℕ → Bool) (sources : ℕ) (k : Kept) (node : ℕ) (gs : List Gate) (j : ℕ) (h : Gate) →
    AreMarkedAt marks node gs → slice_get (kept_after marks sources k node gs).gates j ≡ Some h →
    (slice_get k.gates j ≡ Some h) ⊎ IsCopiedGate marks sources node gs (kept_after marks sources k node gs).nodes j h
unfolding kept_after
kept_made marks sources k node [] j h are e = inl e
kept_made marks sources k node (g ∷ gs) j h are e =
    let next : Kept = next_kept marks sources k node g in
    let last : Kept = kept_after marks sources next (node + 1) gs in
    ⊎_elim
    (λ before. ⊎_elim
    (λ on.
    let one : next ≡ with_kept sources k node g = cond-true (marks node) (with_kept sources k node g) k on in
    let low : (p : ℕ) → p < node → k.nodes p ≡ last.nodes p = λ p l. sym (nodes_low marks sources next (node + 1) gs p (omega arith) ∙ next_other marks sources k node g p (omega arith)) in
    let own : node + 0 ≡ node = add-zero node in
    ⊎_elim
    (λ was. inl was)
    (λ new. inr (record {
      index = 0;
      gate = g;
      at = refl;
      mark = ap marks own ∙ on;
      went =
          ap last.nodes own
          ∙ nodes_low marks sources next (node + 1) gs node (omega arith)
          ∙ ap (λ (x : Kept). x.nodes node) one
          ∙ put_same k.nodes node (Node (sources + 1 + length k.gates))
          ∙ ap (λ (x : ℕ). Node (sources + 1 + x)) (sym new.0);
      is = sym new.1 ∙ moved_gate-same k.nodes last.nodes node g (head_marked marks node g gs are on) low;
    }))
    (at_push k.gates (moved_gate k.nodes g) h j (sym (ap (λ (x : Kept). slice_get x.gates j) one) ∙ before)))
    (λ off. inl (sym (ap (λ (x : Kept). slice_get x.gates j) (cond-false (marks node) (with_kept sources k node g) k off)) ∙ before))
    (cases_Bool (marks node)))
    (λ made. inr (made_later marks sources node g gs last.nodes j h made))
    (kept_made marks sources next (node + 1) gs j h (tail_marked marks node g gs are) e)

-- ---- values

-- The copies are valid gates, and each node of `known` has a new signal with its old value.
pub record Moves (sources : ℕ) (old : (ℕ → Bool) → ℕ → Bool) (known : ℕ → Type 0) (k : Kept) : Type 0 where
  pub gates : AreGates sources k.gates
  pub below : (p : ℕ) → known p → IsSigBelow (sources + 1 + length k.gates) (k.nodes p)
  pub same : (given : ℕ → Bool) (p : ℕ) → known p → sig_value (values_of given sources k.gates) (k.nodes p) ≡ old given p

pub moves_less : (sources : ℕ) (old : (ℕ → Bool) → ℕ → Bool) (known fewer : ℕ → Type 0) (k : Kept) → ((p : ℕ) → fewer p → known p) → Moves sources old known k → Moves sources old fewer k
moves_less sources old known fewer k less is =
    record { gates = is.gates; below = λ p e. is.below p (less p e); same = λ given p e. is.same given p (less p e) }

-- the new signal of a known node is below the next gate
pub moved_below : (sources : ℕ) (old : (ℕ → Bool) → ℕ → Bool) (known : ℕ → Type 0) (k : Kept) (s : Sig) →
    Moves sources old known k → ((p : ℕ) → s ≡ Node p → known p) →
    IsSigBelow (sources + 1 + length k.gates) (moved k.nodes s)
moved_below sources old known k Zero is knows = tt
moved_below sources old known k One is knows = tt
moved_below sources old known k (Node p) is knows = is.below p (knows p refl)

pub moved_value : (sources : ℕ) (old : (ℕ → Bool) → ℕ → Bool) (known : ℕ → Type 0) (k : Kept) (s : Sig) (given : ℕ →
    Bool) → Moves sources old known k → ((p : ℕ) → s ≡ Node p → known p) →
    sig_value (values_of given sources k.gates) (moved k.nodes s) ≡ sig_value (old given) s
moved_value sources old known k Zero given is knows = refl
moved_value sources old known k One given is knows = refl
moved_value sources old known k (Node p) given is knows = is.same given p (knows p refl)

-- a gate whose operands are known is copied
keep_one : (sources : ℕ) (old : (ℕ → Bool) → ℕ → Bool) (known : ℕ → Type 0) (k : Kept) (node : ℕ) (g : Gate) →
    Moves sources old known k → g.op < 16 → ((p : ℕ) → ReadsNode g p → known p) →
    ((given : ℕ → Bool) → old given node ≡ gate_value (old given) g) →
    Moves sources old (λ p. known p ⊎ (p ≡ node)) (with_kept sources k node g) ×
    ExtendsGates sources k.gates (with_kept sources k node g).gates
keep_one sources old known k node g is low knows worth =
    let h : Gate = moved_gate k.nodes g in
    let end : ℕ = sources + 1 + length k.gates in
    let first : (p : ℕ) → g.a ≡ Node p → known p = λ p e. knows p (inl e) in
    let second : (p : ℕ) → g.b ≡ Node p → known p = λ p e. knows p (inr e) in
    let here : IsGateAt end h = record { operator = low; first = moved_below sources old known k g.a is first; second = moved_below sources old known k g.b is second } in
    let new : List Gate = k.gates ++ h ∷ [] in
    let size : length new ≡ length k.gates + 1 = length-append k.gates (h ∷ []) in
    let nodes : ℕ → Sig = put_sig k.nodes node (Node end) in
    let grown : ExtendsGates sources k.gates new = grown_push sources k.gates h is.gates here in
    let was : (p : ℕ) → known p ⊎ (p ≡ node) → p ≢ node → known p = λ p e other. ⊎_elim (λ k. k) (λ same. absurd (other same)) e in (
      record {
        gates = gates_push sources k.gates h is.gates here;
        below = λ p e. ⊎_elim
            (λ own. subst (IsSigBelow (sources + 1 + length new)) (sym (ap nodes own ∙ put_same k.nodes node (Node end))) (omega arith, omega (arith, size)))
            (λ other. subst (IsSigBelow (sources + 1 + length new)) (sym (put_other k.nodes node (Node end) p other))
            (below_later (k.nodes p) end (sources + 1 + length new) (omega (arith, size))
            (is.below p (was p e other))))
            (cases_eq p node);
        same = λ given p e. ⊎_elim
            (λ own.
            ap (sig_value (values_of given sources new)) (ap nodes own ∙ put_same k.nodes node (Node end))
            ∙ value-last given sources k.gates h
            ∙ rw (moved_value sources old known k g.a given is first, moved_value sources old known k g.b given is second) refl
            ∙ sym (worth given)
            ∙ ap (old given) (sym own))
            (λ other.
            ap (sig_value (values_of given sources new)) (put_other k.nodes node (Node end) p other)
            ∙ sig_value-same (values_of given sources new) (values_of given sources k.gates) (k.nodes p) end (is.below p (was p e other)) (grown.same given)
            ∙ is.same given p (was p e other))
            (cases_eq p node);
      },
      grown,
    )

-- p is marked, and one of the `count` nodes from `node` on
pub record IsMarked (marks : ℕ → Bool) (node count p : ℕ) : Type 0 where
  pub low : node ≤ p
  pub high : p < node + count
  pub mark : marks p ≡ true

-- Each operand of a marked gate is known or is an earlier marked gate, and the gate's old value is its
-- operator on the old values of its operands.
pub record AreMovable (old : (ℕ → Bool) → ℕ → Bool) (known : ℕ → Type 0) (marks : ℕ → Bool) (node : ℕ) (gs : List Gate) : Type 0 where
  pub operators : (i : ℕ) (g : Gate) → slice_get gs i ≡ Some g → marks (node + i) ≡ true → g.op < 16
  pub reads : (i p : ℕ) (g : Gate) → slice_get gs i ≡ Some g → marks (node + i) ≡ true → ReadsNode g p → known p ⊎ IsMarked marks node i p
  pub values : (given : ℕ → Bool) (i : ℕ) (g : Gate) → slice_get gs i ≡ Some g → marks (node + i) ≡ true → old given (node + i) ≡ gate_value (old given) g

-- known, or the node of the current gate
abbrev pub KnownNext : (ℕ → Type 0) → (ℕ → Bool) → ℕ → ℕ → Type 0
KnownNext known marks node p = known p ⊎ ((p ≡ node) × (marks node ≡ true))

marked_next : (known : ℕ → Type 0) (marks : ℕ → Bool) (node i p : ℕ) → known p ⊎ IsMarked marks node (suc i) p → KnownNext known marks node p ⊎ IsMarked marks (node + 1) i p
marked_next known marks node i p e =
    ⊎_elim
    (λ k. inl (inl k))
    (λ m. ⊎_elim
    (λ own. inl (inr (own, ap marks (sym own) ∙ m.mark)))
    (λ other. inr (record { low = omega (arith, m.low, other); high = omega (arith, m.high); mark = m.mark }))
    (cases_eq p node))
    e

tail_movable : (old : (ℕ → Bool) → ℕ → Bool) (known : ℕ → Type 0) (marks : ℕ →
    Bool) (node : ℕ) (g : Gate) (gs : List Gate) → AreMovable old known marks node (g ∷ gs) →
    AreMovable old (KnownNext known marks node) marks (node + 1) gs
tail_movable old known marks node g gs are =
    let e : (i : ℕ) → (node + 1) + i ≡ node + suc i = λ i. omega arith in
    record {
      operators = λ i h at on. are.operators (suc i) h at (subst (λ (q : ℕ). marks q ≡ true) (e i) on);
      reads = λ i p h at on reads. marked_next known marks node i p (are.reads (suc i) p h at (subst (λ (q : ℕ). marks q ≡ true) (e i) on) reads);
      values = λ given i h at on. ap (old given) (e i) ∙ are.values given (suc i) h at (subst (λ (q : ℕ). marks q ≡ true) (e i) on);
    }

no_mark : (marks : ℕ → Bool) (node p : ℕ) → IsMarked marks node 0 p → ⊥
no_mark marks node p m = omega (arith, m.low, m.high)

-- one step: the first gate
pass_one : (sources : ℕ) (old : (ℕ → Bool) → ℕ → Bool) (known : ℕ → Type 0) (marks : ℕ →
    Bool) (k : Kept) (node : ℕ) (g : Gate) (gs : List Gate) → Moves sources old known k →
    AreMovable old known marks node (g ∷ gs) → Moves sources old (KnownNext known marks node)
    (next_kept marks sources k node g) × ExtendsGates sources k.gates (next_kept marks sources k node g).gates
pass_one sources old known marks k node g gs is are =
    let e : node + 0 ≡ node = add-zero node in
    cond_both (marks node) (with_kept sources k node g) k (λ (x : Kept). Moves sources old (KnownNext known marks node) x × ExtendsGates sources k.gates x.gates)
    (λ on.
    let here : marks (node + 0) ≡ true = ap marks e ∙ on in
    let r = keep_one sources old known k node g is (are.operators 0 g refl here)
    (λ p reads. ⊎_elim (λ k. k) (λ m. absurd (no_mark marks node p m)) (are.reads 0 p g refl here reads))
    (λ given. ap (old given) (sym e) ∙ are.values given 0 g refl here) in
    (moves_less sources old (λ p. known p ⊎ (p ≡ node)) (KnownNext known marks node) (with_kept sources k node g) (λ p x. ⊎_elim (λ k. inl k) (λ own. inr own.0) x) r.0, r.1))
    (λ off. (moves_less sources old known (KnownNext known marks node) k (λ p x. ⊎_elim (λ k. k) (λ own. absurd (both_ways (marks node) off own.1)) x) is, grown_none sources k.gates is.gates))

-- After copying, all known nodes are still known and the marked nodes are known too; the gates that were
-- already there keep their values.
pub keep_all : (sources : ℕ) (old : (ℕ → Bool) → ℕ → Bool) (known : ℕ → Type 0) (marks : ℕ →
    Bool) (k : Kept) (node : ℕ) (gs : List Gate) → Moves sources old known k → AreMovable old known marks node gs →
    Moves sources old (λ p. known p ⊎ IsMarked marks node (length gs) p) (kept_after marks sources k node gs) ×
    ExtendsGates sources k.gates (kept_after marks sources k node gs).gates
unfolding kept_after
keep_all sources old known marks k node [] is are =
    (moves_less sources old known (λ p. known p ⊎ IsMarked marks node 0 p) k (λ p e. ⊎_elim (λ k. k) (λ m. absurd (no_mark marks node p m)) e) is, grown_none sources k.gates is.gates)
keep_all sources old known marks k node (g ∷ gs) is are =
    let next : Kept = next_kept marks sources k node g in
    let one = pass_one sources old known marks k node g gs is are in
    let rest = keep_all sources old (KnownNext known marks node) marks next (node + 1) gs one.0 (tail_movable old known marks node g gs are) in
    let last : Kept = kept_after marks sources next (node + 1) gs in (
      moves_less sources old (λ p. KnownNext known marks node p ⊎ IsMarked marks (node + 1) (length gs) p)
          (λ p. known p ⊎ IsMarked marks node (suc (length gs)) p) last
          (λ p e. marked_next known marks node (length gs) p e) rest.0,
      grown_more sources k.gates next.gates last.gates one.1 rest.1,
    )

-- ---- the gates of a net

abbrev pub IsSourceNode : ℕ → ℕ → Type 0
IsSourceNode sources p = (1 ≤ p) × (p ≤ sources)

pub source_stays : (sources p : ℕ) → p ≤ sources → sources_stay sources p ≡ Node p
source_stays sources p low = cond-true (nat_le p sources) (Node p) Zero (le-leb p sources low)

-- before any gate is copied the sources are known
pub moves_start : (n : Net) → Moves n.sources (value n) (IsSourceNode n.sources) (nothing_kept n.sources)
moves_start n =
    record {
      gates = record { each = λ i g e. absurd cc };
      below = λ p is. subst (IsSigBelow (n.sources + 1 + 0)) (sym (source_stays n.sources p is.1)) (is.0, omega (arith, is.1));
      same = λ given p is.
          ap (sig_value (values_of given n.sources [])) (source_stays n.sources p is.1)
          ∙ value-source given n.sources p [] is.1
          ∙ sym (value-source given n.sources p n.gates is.1);
    }

-- a fanin of a gate is a node below it
pub reads_below : (node p : ℕ) (g : Gate) → IsGateAt node g → ReadsNode g p → (1 ≤ p) × (p < node)
reads_below node p g is reads =
    ⊎_elim (λ a. subst (IsSigBelow node) a is.first) (λ b. subst (IsSigBelow node) b is.second) reads

-- The marked gates of a net can be copied if each of their operands is marked or known.
pub net_movable : (n : Net) (known : ℕ → Type 0) (marks : ℕ → Bool) → IsNet n →
    ((p : ℕ) → IsSourceNode n.sources p → known p) → ((i p : ℕ) (g : Gate) → slice_get n.gates i ≡ Some g →
    ReadsNode g p → marks (n.sources + 1 + i) ≡ true → known p ⊎ (marks p ≡ true)) →
    AreMovable (value n) known marks (n.sources + 1) n.gates
net_movable n known marks net sources closed =
    record {
      operators = λ i g at on. (net.gates.each i g at).operator;
      reads = λ i p g at on reads.
          let low = reads_below (n.sources + 1 + i) p g (net.gates.each i g at) reads in
          ⊎_elim
          (λ k. inl k)
          (λ m. ⊎_elim
          (λ (source : p < n.sources + 1). inl (sources p (low.0, omega arith)))
          (λ (above : n.sources + 1 ≤ p). inr (record { low = above; high = low.1; mark = m }))
          (cases_lt p (n.sources + 1)))
          (closed i p g at reads on);
      values = λ given i g at on. values_after-gate given (n.sources + 1) i n.gates g at (net.gates.each i g at);
    }
