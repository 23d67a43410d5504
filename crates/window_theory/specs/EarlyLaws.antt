-- The transitive fanin (TFI) of a window's inputs is outside the window, and its gates are convex.
use Rattle.std.specs.Prelude.{◌≡◌, ℕ, suc, ◌+◌, Bool, true, false, List, [], ◌∷◌, slice_get, Some, ◌⊎◌, refl}
use Rattle.std.proofs.Common.{arith, sym, ◌∙◌, ap, subst, inl, inr, ⊎_elim, add-zero}
use Rattle.std.proofs.lemmas.Bool.{cond_both, cases_eq, cases_Bool, both_ways}
use Rattle.chain_theory.specs.ValueLaws.{extended-other}
use Rattle.net_theory.specs.declared.data.Sig.{Sig}
use Rattle.net_theory.specs.declared.data.Sig.TheVariants.{Zero, One, Node}
use Rattle.net_theory.specs.declared.data.Gate.{Gate}
use Rattle.net_theory.specs.Net.{Net, IsNet}
use Rattle.net_theory.specs.Reach.{ReadsNode, with_mark, marked, reach}
use Rattle.net_theory.specs.ReachLaws.{reach_closed}
use Rattle.window_theory.specs.Nodes.{among}
use Rattle.window_theory.specs.Paths.{Reads, HasPath, at_once, by_way_of, IsConvex}
use Rattle.window_theory.specs.Window.{Window, IsOutsideFanout, Belongs}
use Rattle.window_theory.specs.Substituted.{is_early}

-- ---- paths

leads_on : (n : Net) (p q r : ℕ) → HasPath n p q → HasPath n q r → HasPath n p r
leads_on n p _ _ before (at_once q r reads) = by_way_of p q r before reads
leads_on n p _ _ before (by_way_of q m r rest reads) = by_way_of p m r (leads_on n p q m before rest) reads

-- a root, or in the transitive fanin of one
abbrev LeadsToRoot : Net → (ℕ → Bool) → ℕ → Type 0
LeadsToRoot n roots p = (q : ℕ) × (roots q ≡ true) × ((p ≡ q) ⊎ HasPath n p q)

root_on : (n : Net) (roots : ℕ → Bool) (p q : ℕ) → Reads n q p → LeadsToRoot n roots q → LeadsToRoot n roots p
root_on n roots p q reads r =
    (r.0, r.1, inr (⊎_elim (λ same. subst (HasPath n p) same (at_once p q reads)) (λ up. leads_on n p q r.0 (at_once p q reads) up) r.2))

marked_by : (marks : ℕ → Bool) (s : Sig) (p : ℕ) → with_mark marks s p ≡ true → (s ≡ Node p) ⊎ (marks p ≡ true)
marked_by marks Zero p e = inr e
marked_by marks One p e = inr e
marked_by marks (Node q) p e = ⊎_elim (λ own. inl (ap Node (sym own))) (λ other. inr (sym (extended-other marks q p true other) ∙ e)) (cases_eq p q)

marked_leads : (n : Net) (roots : ℕ → Bool) (node : ℕ) (gs : List Gate) (p : ℕ) →
    ((i x : ℕ) (g : Gate) → slice_get gs i ≡ Some g → ReadsNode g x → Reads n (node + i) x) →
    marked roots node gs p ≡ true → LeadsToRoot n roots p
unfolding marked
marked_leads n roots node [] p reads e = (p, e, inl refl)
marked_leads n roots node (g ∷ gs) p reads e =
    let before : ℕ → Bool = marked roots (node + 1) gs in
    let later : (i x : ℕ) (h : Gate) → slice_get gs i ≡ Some h → ReadsNode h x → Reads n ((node + 1) + i) x = λ i x h at r. let same : node + suc i ≡ (node + 1) + i = omega arith in
    subst (λ (q : ℕ). Reads n q x) same (reads (suc i) x h at r) in
    let was : (q : ℕ) → before q ≡ true → LeadsToRoot n roots q = λ q m. marked_leads n roots (node + 1) gs q later m in
    let own : ReadsNode g p → Reads n node p = λ r. subst (λ (q : ℕ). Reads n q p) (add-zero node) (reads 0 p g refl r) in
    cond_both (before node) (with_mark (with_mark before g.a) g.b) before (λ (marks : ℕ → Bool). marks p ≡ true → LeadsToRoot n roots p)
    (λ on m. ⊎_elim
    (λ b. root_on n roots p node (own (inr b)) (was node on))
    (λ rest. ⊎_elim
    (λ a. root_on n roots p node (own (inl a)) (was node on))
    (λ old. was p old)
    (marked_by before g.a p rest))
    (marked_by (with_mark before g.a) g.b p m))
    (λ off m. was p m)
    e

reach_leads : (n : Net) (roots : ℕ → Bool) (p : ℕ) → reach n roots p ≡ true → LeadsToRoot n roots p
reach_leads n roots p e =
    marked_leads n roots (n.sources + 1) n.gates p (λ i x g at reads. record { fanout = record { index = i; gate = g; at = at; node = refl }; reads = reads }) e

read_reached : (n : Net) (roots : ℕ → Bool) (p g : ℕ) → IsNet n → Reads n g p → reach n roots g ≡ true → reach n roots p ≡ true
read_reached n roots p g net r e =
    (reach_closed n roots net).gates r.fanout.index p r.fanout.gate r.fanout.at r.reads (subst (λ (x : ℕ). reach n roots x ≡ true) (sym r.fanout.node) e)

leads_reach : (n : Net) (roots : ℕ → Bool) (p g : ℕ) → IsNet n → HasPath n p g → reach n roots g ≡ true → reach n roots p ≡ true
leads_reach n roots _ _ net (at_once p g reads) e = read_reached n roots p g net reads e
leads_reach n roots _ _ net (by_way_of p q g before reads) e = leads_reach n roots p q net before (read_reached n roots q g net reads e)

-- ---- nodes that don't depend on gates

-- Their transitive fanin is outside the gates,
pub apart_outside : (n : Net) (gates nodes : List ℕ) (p : ℕ) → ((q : ℕ) → among nodes q ≡ true → IsOutsideFanout n gates q) → reach n (among nodes) p ≡ true → among gates p ≡ false
apart_outside n gates nodes p apart early =
    let r = reach_leads n (among nodes) p early in
    let own : IsOutsideFanout n gates r.0 = apart r.0 r.1 in
    ⊎_elim
    (λ inside. absurd (⊎_elim
    (λ (same : p ≡ r.0). both_ways (among gates r.0) own.outside (subst (λ (q : ℕ). among gates q ≡ true) same inside))
    (λ up. own.above p inside up)
    r.2))
    (λ off. off)
    (cases_Bool (among gates p))

-- and this characterizes them.
pub outside_apart : (n : Net) (gates nodes : List ℕ) (p : ℕ) → IsNet n → ((g : ℕ) → among gates g ≡ true → reach n (among nodes) g ≡ false) → among nodes p ≡ true → IsOutsideFanout n gates p
outside_apart n gates nodes p net off on =
    let there : reach n (among nodes) p ≡ true = (reach_closed n (among nodes) net).starts p on in
    record {
      outside = ⊎_elim (λ inside. absurd (both_ways (reach n (among nodes) p) (off p inside) there)) (λ out. out) (cases_Bool (among gates p));
      above = λ g inside up. both_ways (reach n (among nodes) g) (off g inside) (leads_reach n (among nodes) g p net up there);
    }

-- ---- windows

-- No gate of a window is early, that is, in the transitive fanin of its inputs.
pub early_outside : (n : Net) (w : Window) (p : ℕ) → Belongs n w → is_early n w p ≡ true → among w.gates p ≡ false
early_outside n w p is early = apart_outside n w.gates w.inputs p is.apart early

-- A path that leaves a window's gates would come back to them through an input.
comes_back : (n : Net) (w : Window) (p q r : ℕ) → Belongs n w → among w.gates p ≡ true → HasPath n p q → among w.gates q ≡ false → HasPath n q r → among w.gates r ≡ true → ⊥
comes_back n w p _ _ is inside up off (at_once q r reads) on =
    (is.apart q (is.read q (record { outside = off; read = record { fanout = r; inside = on; reads = reads } }))).above p inside up
comes_back n w p _ _ is inside up off (by_way_of q m r before reads) on =
    ⊎_elim
    (λ within. comes_back n w p q m is inside up off before within)
    (λ out. (is.apart m (is.read m (record { outside = out; read = record { fanout = r; inside = on; reads = reads } }))).above p inside (leads_on n p q m up before))
    (cases_Bool (among w.gates m))

-- So the gates of a window are a convex set.
pub window_convex : (n : Net) (w : Window) → Belongs n w → IsConvex n (among w.gates)
window_convex n w is p q r inside_p inside_r up_q up_r =
    ⊎_elim (λ on. on) (λ off. absurd (comes_back n w p q r is inside_p up_q off up_r inside_r)) (cases_Bool (among w.gates q))
