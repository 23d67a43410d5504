-- The cone of a fanin cone and the forced gates above it: that it is a cone, and which values it has.
use Rattle.std.specs.Prelude.{◌≡◌, ℕ, zero, suc, ◌+◌, ◌-◌, ◌<◌, ◌==◌, Bool, true, false, if◌then◌else◌, List, [], ◌∷◌, ◌++◌, length, take, slice_get, Some, ◌⊎◌, refl}
use Rattle.std.proofs.Common.{arith, sym, ◌∙◌, ap, subst, inl, inr, ⊎_elim, append_assoc}
use Rattle.std.proofs.lemmas.Bool.{cases_Bool, cases_eq, both_ways, cond-true, cond-false, eq-eqb, ne_eqb}
use Rattle.chain_theory.specs.Operator.{digit}
use Rattle.net_theory.specs.declared.data.Sig.{Sig}
use Rattle.net_theory.specs.declared.data.Sig.TheVariants as sigs
use Rattle.net_theory.specs.declared.data.Gate.{Gate}
use Rattle.net_theory.specs.Net.{Net, IsNet, sig_value, gate_value}
use Rattle.net_theory.specs.Reach.{ReadsNode}
use Rattle.lane_sim.specs.Cone.{Cone, IsCone, IsSigAmong, IsGateOver, AreApart, nodes, value_in}
use Rattle.lane_sim.specs.ConeLaws.{cone_gate}
use Rattle.window_theory.specs.Nodes.{among, IsRising}
use Rattle.window_theory.specs.NodeLaws.{among_cases, among_first, among_later}
use Rattle.window_theory.specs.Paths.{Reads}
use Rattle.window_theory.specs.WindowLaws.{reads_low}
use Rattle.window_theory.specs.Care.{values_with, IsEvaluatedPart, IsComputed, HasRow}
use Rattle.window_theory.specs.FixedLaws.{part_values, gate_same}
use Rattle.window_core.specs.Gates.{IsGateOf}
use Rattle.window_core.specs.Expanding.{gate_nodes, AreAbove}
use Rattle.window_core.specs.GrowingLaws.{of_reads, reads_of}
use Rattle.window_core.specs.ConeLaws.{among_get, rising_apart, apart_join, earlier_gate, gate_get}
use Rattle.window_core.specs.MaskingLaws.{nothing_after, leaf_value}
use Rattle.window_core.specs.NotingLaws.{at_last}
use Rattle.observe_theory.specs.JoinedLaws.{in_prefix, in_back, in_parts, is_off}
use Rattle.observe_core.specs.Putting.{put_node, put_sig, put_gate, ArePutGates, HasPut, IsAbove, IsPutCone}

-- ---- the signal for a node

pub put_same : (outputs : List ℕ) (bits p : ℕ) → among outputs p ≡ false → put_node outputs bits p ≡ sigs.Node p
unfolding put_node
put_same [] bits p off = refl
put_same (q ∷ outputs) bits p off =
    let other : p ≡ q → ⊥ = λ same. both_ways (among (q ∷ outputs) p) off (subst (λ (z : ℕ). among (q ∷ outputs) z ≡ true) (sym same) (among_first q outputs)) in
    cond-false (p == q) (if digit bits (length outputs) then sigs.One else sigs.Zero) (put_node outputs bits p) (ne_eqb p q other)
    ∙ put_same outputs bits p (is_off outputs p (λ on. both_ways (among (q ∷ outputs) p) off (among_later q p outputs on)))

one_bit : (b : Bool) → ((if b then sigs.One else sigs.Zero) ≡ sigs.One) ⊎ ((if b then sigs.One else sigs.Zero) ≡ sigs.Zero)
one_bit true = inl refl
one_bit false = inr refl

-- an output becomes a constant
pub put_constant : (outputs : List ℕ) (bits p : ℕ) → among outputs p ≡ true → (put_node outputs bits p ≡ sigs.One) ⊎ (put_node outputs bits p ≡ sigs.Zero)
unfolding put_node
put_constant [] bits p on = absurd (let e : false ≡ true = on in cc)
put_constant (q ∷ outputs) bits p on =
    let bit : Sig = if digit bits (length outputs) then sigs.One else sigs.Zero in
    ⊎_elim
    (λ (same : p ≡ q).
    let e : put_node (q ∷ outputs) bits p ≡ bit = cond-true (p == q) bit (put_node outputs bits p) (eq-eqb p q same) in
    ⊎_elim (λ one. inl (e ∙ one)) (λ none. inr (e ∙ none)) (one_bit (digit bits (length outputs))))
    (λ other.
    let e : put_node (q ∷ outputs) bits p ≡ put_node outputs bits p = cond-false (p == q) bit (put_node outputs bits p) (ne_eqb p q other) in
    let later : among outputs p ≡ true = ⊎_elim (λ same. absurd (other same)) (λ l. l) (among_cases q p outputs on) in
    ⊎_elim (λ one. inl (e ∙ one)) (λ none. inr (e ∙ none)) (put_constant outputs bits p later))
    (cases_eq p q)

bit_value : (v : ℕ → Bool) (b : Bool) → sig_value v (if b then sigs.One else sigs.Zero) ≡ b
bit_value v true = refl
bit_value v false = refl

-- where the outputs have the bits of a row, so have the constants
pub put_row : (v f : ℕ → Bool) (outputs : List ℕ) (bits p : ℕ) → HasRow f outputs bits → among outputs p ≡ true → sig_value v (put_node outputs bits p) ≡ f p
unfolding put_node
put_row v f [] bits p has on = absurd (let e : false ≡ true = on in cc)
put_row v f (q ∷ outputs) bits p has on =
    let bit : Sig = if digit bits (length outputs) then sigs.One else sigs.Zero in
    ⊎_elim
    (λ (same : p ≡ q).
    let node : suc (length outputs) - (0 + 1) ≡ length outputs = omega arith in
    ap (sig_value v) (cond-true (p == q) bit (put_node outputs bits p) (eq-eqb p q same))
    ∙ bit_value v (digit bits (length outputs))
    ∙ sym (has 0 (omega arith) ∙ ap (digit bits) node)
    ∙ ap f (sym same))
    (λ other.
    let later : among outputs p ≡ true = ⊎_elim (λ same. absurd (other same)) (λ l. l) (among_cases q p outputs on) in
    let rest : HasRow f outputs bits = λ i low. let node : suc (length outputs) - (suc i + 1) ≡ length outputs - (i + 1) = omega arith in has (suc i) (omega (arith, low)) ∙ ap (digit bits) node in
    ap (sig_value v) (cond-false (p == q) bit (put_node outputs bits p) (ne_eqb p q other)) ∙ put_row v f outputs bits p rest later)
    (cases_eq p q)

-- ---- gates with constants

pub put_start : (n : Net) (outputs : List ℕ) (bits : ℕ) (fanout_cone : List ℕ) (gates : List (ℕ × Gate)) → HasPut n outputs bits fanout_cone fanout_cone gates gates
put_start n outputs bits fanout_cone gates =
    record { done = []; parts = refl; put = []; new_is = sym (empty_after gates); put_are = record { nodes = refl; own = λ i x at. absurd cc } }
  where
    empty_after : (xs : List (ℕ × Gate)) → xs ++ [] ≡ xs
    empty_after [] = refl
    empty_after (x ∷ xs) = ap (λ (ys : List (ℕ × Gate)). x ∷ ys) (empty_after xs)

nodes_end : (gates : List (ℕ × Gate)) (x : ℕ × Gate) → gate_nodes (gates ++ x ∷ []) ≡ gate_nodes gates ++ (x.0 ∷ [])
nodes_end [] x = refl
nodes_end (g ∷ gates) x = ap (λ (ps : List ℕ). g.0 ∷ ps) (nodes_end gates x)

pub put_more : (n : Net) (outputs : List ℕ) (bits : ℕ) (fanout_cone left : List ℕ) (p : ℕ) (rest : List ℕ)
    (old now new : List (ℕ × Gate)) (h : Gate) → left ≡ p ∷ rest →
    ((g : Gate) × IsGateOf n p g × (h ≡ put_gate outputs bits g)) → new ≡ now ++ (p, h) ∷ [] →
    HasPut n outputs bits fanout_cone left old now → HasPut n outputs bits fanout_cone rest old new
put_more n outputs bits fanout_cone left p rest old now new h parts own new_is was =
    record {
      done = was.done ++ p ∷ [];
      parts = append_assoc was.done (p ∷ []) rest ∙ ap (λ (xs : List ℕ). was.done ++ xs) (sym parts) ∙ was.parts;
      put = was.put ++ (p, h) ∷ [];
      new_is = new_is ∙ ap (λ (xs : List (ℕ × Gate)). xs ++ (p, h) ∷ []) was.new_is ∙ append_assoc old was.put ((p, h) ∷ []);
      put_are = record {
        nodes = nodes_end was.put (p, h) ∙ ap (λ (xs : List ℕ). xs ++ p ∷ []) was.put_are.nodes;
        own = λ i x at. ⊎_elim
            (λ there. was.put_are.own i x there)
            (λ r. subst (λ (y : ℕ × Gate). (g : Gate) × IsGateOf n y.0 g × (y.1 ≡ put_gate outputs bits g)) r.1 own)
            (at_last was.put (p, h) i x at);
      };
    }

-- all gates of the fanout cone are appended
pub put_all : (n : Net) (outputs : List ℕ) (bits : ℕ) (fanout_cone : List ℕ) (old new : List (ℕ × Gate))
    (h : HasPut n outputs bits fanout_cone [] old new) → ArePutGates n outputs bits fanout_cone h.put
put_all n outputs bits fanout_cone old new h = subst (λ (ps : List ℕ). ArePutGates n outputs bits ps h.put) (sym (nothing_after h.done) ∙ h.parts) h.put_are

-- ---- a cone

nodes_joined : (xs ys : List (ℕ × Gate)) → gate_nodes (xs ++ ys) ≡ gate_nodes xs ++ gate_nodes ys
nodes_joined [] ys = refl
nodes_joined (x ∷ xs) ys = ap (λ (ps : List ℕ). x.0 ∷ ps) (nodes_joined xs ys)

-- the nodes of a fanin cone with gates after it
pub all_nodes : (s : Cone) (put : List (ℕ × Gate)) (fanout_cone : List ℕ) → gate_nodes put ≡ fanout_cone → s.leaves ++ gate_nodes (s.gates ++ put) ≡ nodes s ++ fanout_cone
all_nodes s put fanout_cone are =
    ap (λ (ps : List ℕ). s.leaves ++ ps) (nodes_joined s.gates put ∙ ap (λ (ps : List ℕ). gate_nodes s.gates ++ ps) are)
    ∙ sym (append_assoc s.leaves (gate_nodes s.gates) fanout_cone)

-- a gate of two lists is one of the first, or of the second
split_at : (xs ys : List (ℕ × Gate)) (i : ℕ) (x : ℕ × Gate) → slice_get (xs ++ ys) i ≡ Some x →
    ((slice_get xs i ≡ Some x) × (take i (xs ++ ys) ≡ take i xs)) ⊎
    ((k : ℕ) × (slice_get ys k ≡ Some x) × (take i (xs ++ ys) ≡ xs ++ take k ys))
split_at [] ys i x e = inr (i, e, refl)
split_at (y ∷ xs) ys zero x e = inl (e, refl)
split_at (y ∷ xs) ys (suc i) x e =
    ⊎_elim
    (λ a. inl (a.0, ap (λ (zs : List (ℕ × Gate)). y ∷ zs) a.1))
    (λ b. inr (b.0, b.1, ap (λ (zs : List (ℕ × Gate)). y ∷ zs) b.2))
    (split_at xs ys i x e)

numbered : (gs : List (ℕ × Gate)) (j : ℕ) (y : ℕ × Gate) → slice_get gs j ≡ Some y → among (gate_nodes gs) y.0 ≡ true
numbered [] j y e = absurd cc
numbered (g ∷ gs) zero y e = let f : g ≡ y = cc in subst (λ (z : ℕ × Gate). among (gate_nodes (g ∷ gs)) z.0 ≡ true) f (among_first g.0 (gate_nodes gs))
numbered (g ∷ gs) (suc j) y e = among_later g.0 y.0 (gate_nodes gs) (numbered gs j y e)

-- an operand is a constant, or one of the nodes
put_over : (outputs : List ℕ) (bits : ℕ) (ps : List ℕ) (s : Sig) → ((q : ℕ) → s ≡ sigs.Node q → (among outputs q ≡ true) ⊎ (among ps q ≡ true)) → IsSigAmong ps (put_sig outputs bits s)
put_over outputs bits ps sigs.Zero all = tt
put_over outputs bits ps sigs.One all = tt
put_over outputs bits ps (sigs.Node q) all =
    ⊎_elim
    (λ on. ⊎_elim
    (λ one. subst (IsSigAmong ps) (sym one) tt)
    (λ none. subst (IsSigAmong ps) (sym none) tt)
    (put_constant outputs bits q on))
    (λ off.
    let there : among ps q ≡ true = ⊎_elim (λ on. absurd (both_ways (among outputs q) off on)) (λ t. t) (all q refl) in
    subst (IsSigAmong ps) (sym (put_same outputs bits q off)) (among_get ps q there))
    (cases_Bool (among outputs q))

pub put_is_cone : (n : Net) (outputs : List ℕ) (bits : ℕ) (s : Cone) (fanout_cone : List ℕ) (put : List (ℕ × Gate)) →
    IsNet n → IsCone s → IsAbove n outputs s fanout_cone → ArePutGates n outputs bits fanout_cone put →
    IsCone (record { leaves = s.leaves; gates = s.gates ++ put })
put_is_cone n outputs bits s fanout_cone put net cone above are =
    record {
      few = cone.few;
      apart = subst AreApart (sym (all_nodes s put fanout_cone are.nodes)) (apart_join (nodes s) fanout_cone cone.apart (rising_apart fanout_cone above.rising) above.apart);
      gates = λ i x at. ⊎_elim
          (λ a. subst (λ (gs : List (ℕ × Gate)). IsGateOver (s.leaves ++ gate_nodes gs) x.1) (sym a.1) (cone.gates i x a.0))
          (λ b. subst (λ (gs : List (ℕ × Gate)). IsGateOver (s.leaves ++ gate_nodes gs) x.1) (sym b.2) (own_gate b.0 x b.1))
          (split_at s.gates put i x at);
    }
  where
    own_gate : (k : ℕ) (x : ℕ × Gate) → slice_get put k ≡ Some x → IsGateOver (s.leaves ++ gate_nodes (s.gates ++ take k put)) x.1
    own_gate k x at =
        let own = are.own k x at in
        let earlier : List ℕ = gate_nodes (take k put) in
        let inside : among fanout_cone x.0 ≡ true = ap (λ (ps : List ℕ). among ps x.0) (sym are.nodes) ∙ numbered put k x at in
        let rising : IsRising (gate_nodes put) = subst IsRising (sym are.nodes) above.rising in
        let over : (q : ℕ) → ReadsNode own.0 q → (among outputs q ≡ true) ⊎ (among (s.leaves ++ gate_nodes (s.gates ++ take k put)) q ≡ true) = λ q reads.
        let r : Reads n x.0 q = of_reads n x.0 q own.0 own.1 reads in
        let low : q < x.0 = (reads_low n x.0 q net r).1 in
        ⊎_elim
        (λ out. inl out)
        (λ rest. inr (ap (λ (ps : List ℕ). among ps q) (all_nodes s (take k put) earlier refl) ∙ ⊎_elim
        (λ there. in_prefix (nodes s) earlier q there)
        (λ within. in_back (nodes s) earlier q (earlier_gate put k q x rising at (ap (λ (ps : List ℕ). among ps q) are.nodes ∙ within) low))
        rest))
        (above.reads x.0 q inside r) in
        subst (IsGateOver (s.leaves ++ gate_nodes (s.gates ++ take k put))) (sym own.2)
        (record {
          first = put_over outputs bits (s.leaves ++ gate_nodes (s.gates ++ take k put)) own.0.a (λ q e. over q (inl e));
          second = put_over outputs bits (s.leaves ++ gate_nodes (s.gates ++ take k put)) own.0.b (λ q e. over q (inr e));
        })

-- ---- values

-- a replaced signal has the value of the signal where the outputs have the forced bits
put_value : (v : ℕ → Bool) (outputs : List ℕ) (bits : ℕ) (s : Sig) → sig_value v (put_sig outputs bits s) ≡ sig_value (λ p. sig_value v (put_node outputs bits p)) s
put_value v outputs bits sigs.Zero = refl
put_value v outputs bits sigs.One = refl
put_value v outputs bits (sigs.Node p) = refl

put_gate_value : (v : ℕ → Bool) (outputs : List ℕ) (bits : ℕ) (g : Gate) → gate_value v (put_gate outputs bits g) ≡ gate_value (λ p. sig_value v (put_node outputs bits p)) g
put_gate_value v outputs bits g = rw (put_value v outputs bits g.a, put_value v outputs bits g.b) refl

-- The cone has the values of the net where the leaves and the outputs have the bits.
pub put_values : (n : Net) (outputs : List ℕ) (bits : ℕ) (s c : Cone) (fanout_cone : List ℕ) (row : ℕ) (f : ℕ →
    Bool) (p : ℕ) → IsNet n → IsAbove n outputs s fanout_cone → IsPutCone n outputs bits s fanout_cone c
    → HasRow f s.leaves row → HasRow f outputs bits
    → among fanout_cone p ≡ true → value_in c row p ≡ values_with n (among (s.leaves ++ outputs)) f p
put_values n outputs bits s c fanout_cone row f p net above is leaf_row has inside =
    sym (ap (sig_value v) (put_same outputs bits p (free_fanout_cone p inside)))
    ∙ part_values n fixed f (among (outputs ++ (nodes s ++ fanout_cone))) bit p net part (in_back outputs (nodes s ++ fanout_cone) p (in_back (nodes s) fanout_cone p inside))
  where
    own : AreAbove n s.leaves s.gates
    own = above.own

    free : (q : ℕ) → among (nodes s) q ≡ true → among outputs q ≡ false
    free = above.beside

    free_fanout_cone : (q : ℕ) → among fanout_cone q ≡ true → among outputs q ≡ false
    free_fanout_cone = above.fanout_cone_beside

    same : (q : ℕ) → among s.leaves q ≡ true → value_in c row q ≡ f q
    same q leaf = leaf_value c row f q is.cone (subst (λ (ls : List ℕ). HasRow f ls row) (sym is.leaves) leaf_row) (ap (λ (ls : List ℕ). among ls q) is.leaves ∙ leaf)

    v : ℕ → Bool
    v = value_in c row

    bit : ℕ → Bool
    bit q = sig_value v (put_node outputs bits q)

    fixed : ℕ → Bool
    fixed = among (s.leaves ++ outputs)

    off : (q : ℕ) → among outputs q ≡ false → bit q ≡ v q
    off q none = ap (sig_value v) (put_same outputs bits q none)

    gate_there : (i : ℕ) (x : ℕ × Gate) → slice_get s.gates i ≡ Some x → slice_get c.gates i ≡ Some x
    gate_there i x at = ap (λ (gs : List (ℕ × Gate)). slice_get gs i) is.gates ∙ prefix s.gates i at where
      prefix : (xs : List (ℕ × Gate)) (j : ℕ) → slice_get xs j ≡ Some x → slice_get (xs ++ is.put) j ≡ Some x
      prefix [] j e = absurd cc
      prefix (y ∷ xs) zero e = e
      prefix (y ∷ xs) (suc j) e = prefix xs j e

    fanout_cone_there : (k : ℕ) (x : ℕ × Gate) → slice_get is.put k ≡ Some x → slice_get c.gates (length s.gates + k) ≡ Some x
    fanout_cone_there k x at = ap (λ (gs : List (ℕ × Gate)). slice_get gs (length s.gates + k)) is.gates ∙ in_fanin s.gates where
      in_fanin : (xs : List (ℕ × Gate)) → slice_get (xs ++ is.put) (length xs + k) ≡ Some x
      in_fanin [] = let e : 0 + k ≡ k = omega arith in ap (slice_get is.put) e ∙ at
      in_fanin (y ∷ xs) = let e : suc (length xs) + k ≡ suc (length xs + k) = omega arith in ap (slice_get (y ∷ (xs ++ is.put))) e ∙ in_fanin xs

    not_fixed : (q : ℕ) → (among s.leaves q ≡ true → ⊥) → among outputs q ≡ false → fixed q ≡ false
    not_fixed q leaf none = is_off (s.leaves ++ outputs) q (λ on. ⊎_elim (λ a. leaf a) (λ b. both_ways (among outputs q) none b) (in_parts s.leaves outputs q on))

    inner : (q : ℕ) (i : ℕ) (x : ℕ × Gate) → slice_get s.gates i ≡ Some x → x.0 ≡ q → IsComputed n fixed (among (outputs ++ (nodes s ++ fanout_cone))) bit q
    inner q i x at node =
        let of : IsGateOf n x.0 x.1 = own.own i x at in
        let there : among (gate_nodes s.gates) x.0 ≡ true = numbered s.gates i x at in
        let none : among outputs x.0 ≡ false = free x.0 (in_back s.leaves (gate_nodes s.gates) x.0 there) in
        subst (IsComputed n fixed (among (outputs ++ (nodes s ++ fanout_cone))) bit) node
        (record {
          free = not_fixed x.0 (λ leaf. own.apart x.0 leaf there) none;
          gate = record { index = of.index; gate = x.1; at = of.at; node = of.node };
          reads = λ r reads. in_back outputs (nodes s ++ fanout_cone) r (in_prefix (nodes s) fanout_cone r (of_fanin_cone i x at r (reads_of n x.0 r x.1 of reads)));
          value = off x.0 none ∙ cone_gate c row i x is.cone (gate_there i x at) ∙ gate_same v bit x.1 (λ r reads. sym (off r (free r (of_fanin_cone i x at r reads))));
        })
      where
        of_fanin_cone : (j : ℕ) (y : ℕ × Gate) → slice_get s.gates j ≡ Some y → (r : ℕ) → ReadsNode y.1 r → among (nodes s) r ≡ true
        of_fanin_cone j y e r reads = ⊎_elim (λ leaf. in_prefix s.leaves (gate_nodes s.gates) r leaf) (λ within. in_back s.leaves (gate_nodes s.gates) r within) (own.reads j r y e reads)

    outer : (q : ℕ) (k : ℕ) (x : ℕ × Gate) → slice_get is.put k ≡ Some x → x.0 ≡ q → IsComputed n fixed (among (outputs ++ (nodes s ++ fanout_cone))) bit q
    outer q k x at node =
        let r = is.put_are.own k x at in
        let of : IsGateOf n x.0 r.0 = r.1 in
        let there : among fanout_cone x.0 ≡ true = ap (λ (ps : List ℕ). among ps x.0) (sym is.put_are.nodes) ∙ numbered is.put k x at in
        let none : among outputs x.0 ≡ false = free_fanout_cone x.0 there in
        subst (IsComputed n fixed (among (outputs ++ (nodes s ++ fanout_cone))) bit) node
        (record {
          free = not_fixed x.0 (λ leaf. above.apart x.0 (in_prefix s.leaves (gate_nodes s.gates) x.0 leaf) there) none;
          gate = record { index = of.index; gate = r.0; at = of.at; node = of.node };
          reads = λ y reads. ⊎_elim
              (λ out. in_prefix outputs (nodes s ++ fanout_cone) y out)
              (λ rest. in_back outputs (nodes s ++ fanout_cone) y (⊎_elim (λ a. in_prefix (nodes s) fanout_cone y a) (λ b. in_back (nodes s) fanout_cone y b) rest))
              (above.reads x.0 y there reads);
          value = off x.0 none ∙ cone_gate c row (length s.gates + k) x is.cone (fanout_cone_there k x at) ∙ ap (gate_value v) r.2 ∙ put_gate_value v outputs bits r.0;
        })

    part : IsEvaluatedPart n fixed f (among (outputs ++ (nodes s ++ fanout_cone))) bit
    part q there =
        ⊎_elim
        (λ out. inl (inl (in_back s.leaves outputs q out), put_row v f outputs bits q has out))
        (λ rest. ⊎_elim
        (λ fanin_cone. ⊎_elim
        (λ leaf. inl (inl (in_prefix s.leaves outputs q leaf), off q (free q fanin_cone) ∙ same q leaf))
        (λ within. let g = gate_get s.gates q within in inr (inner q g.0 g.1 g.2 g.3))
        (in_parts s.leaves (gate_nodes s.gates) q fanin_cone))
        (λ within. let g = gate_get is.put q (ap (λ (ps : List ℕ). among ps q) is.put_are.nodes ∙ within) in inr (outer q g.0 g.1 g.2 g.3))
        (in_parts (nodes s) fanout_cone q rest))
        (in_parts outputs (nodes s ++ fanout_cone) q there)
