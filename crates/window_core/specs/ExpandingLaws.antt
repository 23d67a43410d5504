-- How the fanin cone of some nodes is expanded.
use Rattle.std.specs.Prelude.{◌≡◌, ℕ, zero, suc, ◌+◌, ◌-◌, ◌≤◌, ◌<◌, Bool, true, false, not, if◌then◌else◌, List, [], ◌∷◌, ◌++◌, length, reverse, take, slice_get, Some, ◌⊎◌, refl}
use Rattle.std.proofs.Common.{arith, sym, ◌∙◌, ap, subst, inl, inr, ⊎_elim}
use Rattle.std.proofs.lemmas.Bool.{eqb-true, eq-eqb, cases_Bool, both_ways}
use Rattle.std.proofs.lemmas.List.{length-append, reverse-append}
use Rattle.net_theory.specs.declared.data.Sig.{Sig}
use Rattle.net_theory.specs.declared.data.Sig.TheVariants as sigs
use Rattle.net_theory.specs.declared.data.Gate.{Gate}
use Rattle.net_theory.specs.Net.{Net, IsNet, end_of}
use Rattle.net_theory.specs.Reach.{ReadsNode}
use Rattle.window_theory.specs.Nodes.{among, IsRising}
use Rattle.window_theory.specs.NodeLaws.{among_cases, among_first, among_later}
use Rattle.window_theory.specs.Paths.{IsGate, Reads, HasPath, at_once, by_way_of}
use Rattle.window_theory.specs.WindowLaws.{reads_low, gate_high, gate_at}
use Rattle.window_theory.specs.FaninCone.{Expands, IsFullyExpanded, ExpandsTo, stays, goes_on}
use Rattle.window_theory.specs.FaninConeLaws.{expands_one}
use Rattle.window_core.specs.Gates.{IsGateOf}
use Rattle.window_core.specs.Rising.{put, put_sig}
use Rattle.window_core.specs.Expanding.{gate_nodes, IsInFanin, IsFaninCone, IsExpanded, leaves_after, top_of, same_node}
use Rattle.window_core.specs.GrowingLaws.{of_gate, of_reads, reads_of}
use Rattle.window_core.specs.RisingLaws.{put_rising, put_own, put_only, put_kept, put_new, put_old}
use Rattle.window_core.specs.PartnerSearchLaws.{among_end, end_among, prefix_among}
use Rattle.net_theory.specs.Limits.{most_leaves}

-- ---- putting the node that a signal names

pub sig_rising : (s : Sig) (xs : List ℕ) → IsRising xs → IsRising (put_sig s xs)
sig_rising sigs.Zero xs rising = rising
sig_rising sigs.One xs rising = rising
sig_rising (sigs.Node p) xs rising = put_rising p xs rising

sig_kept : (s : Sig) (xs : List ℕ) (q : ℕ) → among xs q ≡ true → among (put_sig s xs) q ≡ true
sig_kept sigs.Zero xs q e = e
sig_kept sigs.One xs q e = e
sig_kept (sigs.Node p) xs q e = put_kept p q xs e

sig_own : (s : Sig) (xs : List ℕ) (q : ℕ) → s ≡ sigs.Node q → among (put_sig s xs) q ≡ true
sig_own sigs.Zero xs q e = absurd cc
sig_own sigs.One xs q e = absurd cc
sig_own (sigs.Node p) xs q e = let same : p ≡ q = cc in ap (among (put p xs)) (sym same) ∙ put_own p xs

sig_only : (s : Sig) (xs : List ℕ) (q : ℕ) → among (put_sig s xs) q ≡ true → (among xs q ≡ true) ⊎ (s ≡ sigs.Node q)
sig_only sigs.Zero xs q e = inl e
sig_only sigs.One xs q e = inl e
sig_only (sigs.Node p) xs q e = ⊎_elim (λ (same : q ≡ p). inr (ap sigs.Node (sym same))) (λ there. inl there) (put_only p q xs e)

-- how much longer the list gets
sig_longer : (s : Sig) (xs : List ℕ) (new : Bool) → IsRising xs → length (put_sig s xs) ≡ length xs + (if new then 1 else 0) → new ≡ true → (q : ℕ) → s ≡ sigs.Node q → among xs q ≡ false
sig_longer s xs new rising size is q e =
    ⊎_elim
    (λ on.
    let same : put_sig s xs ≡ xs = ap (λ (x : Sig). put_sig x xs) e ∙ put_old q xs rising on in
    absurd (omega (arith, ap (length {A = ℕ}) same, size, ap {B = ℕ} (λ (b : Bool). if b then 1 else 0) is)))
    (λ off. off)
    (cases_Bool (among xs q))

-- ---- expanding

after_rising : (prefix : List ℕ) (g : Gate) → IsRising prefix → IsRising (leaves_after prefix g)
after_rising prefix g rising = sig_rising g.b (put_sig g.a prefix) (sig_rising g.a prefix rising)

after_front : (prefix : List ℕ) (g : Gate) (q : ℕ) → among prefix q ≡ true → among (leaves_after prefix g) q ≡ true
after_front prefix g q e = sig_kept g.b (put_sig g.a prefix) q (sig_kept g.a prefix q e)

after_reads : (prefix : List ℕ) (g : Gate) (q : ℕ) → ReadsNode g q → among (leaves_after prefix g) q ≡ true
after_reads prefix g q reads =
    ⊎_elim (λ a. sig_kept g.b (put_sig g.a prefix) q (sig_own g.a prefix q a)) (λ b. sig_own g.b (put_sig g.a prefix) q b) reads

after_only : (prefix : List ℕ) (g : Gate) (q : ℕ) → among (leaves_after prefix g) q ≡ true → (among prefix q ≡ true) ⊎ ReadsNode g q
after_only prefix g q e =
    ⊎_elim
    (λ first. ⊎_elim (λ there. inl there) (λ a. inr (inl a)) (sig_only g.a prefix q first))
    (λ b. inr (inr b))
    (sig_only g.b (put_sig g.a prefix) q e)

same_sigs : (a b : Sig) → same_node a b ≡ true → (q : ℕ) → b ≡ sigs.Node q → a ≡ sigs.Node q
same_sigs (sigs.Node p) (sigs.Node r) e q is = let same : r ≡ q = cc in ap sigs.Node (eqb-true p r e ∙ same)
same_sigs (sigs.Node p) sigs.Zero e q is = absurd cc
same_sigs (sigs.Node p) sigs.One e q is = absurd cc
same_sigs sigs.Zero b e q is = absurd cc
same_sigs sigs.One b e q is = absurd cc

sigs_same : (a b : Sig) (q : ℕ) → a ≡ sigs.Node q → b ≡ sigs.Node q → same_node a b ≡ true
sigs_same a b q ea eb = ap (λ (s : Sig). same_node s b) ea ∙ ap (same_node (sigs.Node q)) eb ∙ eq-eqb q q refl

-- the second operand is new where it is new to the others and isn't the first
both_new : (a b : Sig) (prefix : List ℕ) (first second : Bool) → IsRising prefix →
    length (put_sig a prefix) ≡ length prefix + (if first then 1 else 0) →
    length (put_sig b prefix) ≡ length prefix + (if second then 1 else 0)
    → length (put_sig b (put_sig a prefix)) ≡ length prefix + (if first then 1 else 0) + (if (if second then (if same_node a b then false else true) else false) then 1 else 0)
both_new a sigs.Zero prefix first second rising is_a is_b =
    let none : second ≡ false = ⊎_elim (λ (on : second ≡ true). absurd (omega (arith, is_b, ap {B = ℕ} (λ (x : Bool). if x then 1 else 0) on))) (λ off. off) (cases_Bool second) in
    omega (arith, is_a, ap {B = ℕ} (λ (x : Bool). if (if x then (if same_node a sigs.Zero then false else true) else false) then 1 else 0) none)
both_new a sigs.One prefix first second rising is_a is_b =
    let none : second ≡ false = ⊎_elim (λ (on : second ≡ true). absurd (omega (arith, is_b, ap {B = ℕ} (λ (x : Bool). if x then 1 else 0) on))) (λ off. off) (cases_Bool second) in
    omega (arith, is_a, ap {B = ℕ} (λ (x : Bool). if (if x then (if same_node a sigs.One then false else true) else false) then 1 else 0) none)
both_new a (sigs.Node q) prefix first second rising is_a is_b =
    let next : List ℕ = put_sig a prefix in
    let next_rising : IsRising next = sig_rising a prefix rising in
    ⊎_elim
    (λ (on : second ≡ true).
    let out : among prefix q ≡ false = sig_longer (sigs.Node q) prefix second rising is_b on q refl in
    ⊎_elim
    (λ (same : same_node a (sigs.Node q) ≡ true).
    let there : among next q ≡ true = sig_own a prefix q (same_sigs a (sigs.Node q) same q refl) in
    let e : length (put q next) ≡ length next = ap (length {A = ℕ}) (put_old q next next_rising there) in
    let none : ◌≡◌ {A = ℕ} (if (if second then (if same_node a (sigs.Node q) then false else true) else false) then 1 else 0) 0 =
    ap {B = ℕ} (λ (x : Bool). if (if x then (if same_node a (sigs.Node q) then false else true) else false) then 1
    else 0) on ∙ ap {B = ℕ} (λ (x : Bool). if (if x then false else true) then 1 else 0) same in
    omega (arith, e, is_a, none))
    (λ (other : same_node a (sigs.Node q) ≡ false).
    let off : among next q ≡ false = ⊎_elim
    (λ there. absurd (⊎_elim (λ f. both_ways (among prefix q) out f) (λ a_is. both_ways (same_node a (sigs.Node q)) other (sigs_same a (sigs.Node q) q a_is refl)) (sig_only a prefix q there)))
    (λ o. o)
    (cases_Bool (among next q)) in
    let e : length (put q next) ≡ length next + 1 = put_new q next off in
    let one : ◌≡◌ {A = ℕ} (if (if second then (if same_node a (sigs.Node q) then false else true) else false) then 1 else 0) 1 =
    ap {B = ℕ} (λ (x : Bool). if (if x then (if same_node a (sigs.Node q) then false else true) else false) then 1
    else 0) on ∙ ap {B = ℕ} (λ (x : Bool). if (if x then false else true) then 1 else 0) other in
    omega (arith, e, is_a, one))
    (cases_Bool (same_node a (sigs.Node q))))
    (λ (off : second ≡ false).
    let there : among prefix q ≡ true = ⊎_elim
    (λ t. t)
    (λ out. absurd (omega (arith, put_new q prefix out, is_b, ap {B = ℕ} (λ (x : Bool). if x then 1 else 0) off)))
    (cases_Bool (among prefix q)) in
    let e : length (put q next) ≡ length next = ap (length {A = ℕ}) (put_old q next next_rising (sig_kept a prefix q there)) in
    let none : ◌≡◌ {A = ℕ} (if (if second then (if same_node a (sigs.Node q) then false else true) else false) then 1 else 0) 0 =
    ap {B = ℕ} (λ (x : Bool). if (if x then (if same_node a (sigs.Node q) then false else true) else false) then 1 else 0) off in
    omega (arith, e, is_a, none))
    (cases_Bool second)

pub count_code : (g : Gate) (prefix : List ℕ) (first second : Bool) (count x y : ℕ) → IsRising prefix →
    length (put_sig g.a prefix) ≡ length prefix + (if first then 1 else 0) →
    length (put_sig g.b prefix) ≡ length prefix + (if second then 1 else 0)
    → x ≡ (if first then 1 else 0) → y ≡ (if (if second then (if same_node g.a g.b then false else true) else false)
    then 1 else 0) → count ≡ length prefix + x + y → count ≡ length (leaves_after prefix g)
count_code g prefix first second count x y rising is_a is_b x_is y_is count_is =
    omega (arith, both_new g.a g.b prefix first second rising is_a is_b, x_is, y_is, count_is)

pub new_put : (q : ℕ) (xs : List ℕ) → IsRising xs → length (put q xs) ≡ length xs + (if among xs q then 0 else 1)
new_put q xs rising =
    ⊎_elim
    (λ on. omega (arith, ap (length {A = ℕ}) (put_old q xs rising on), ap {B = ℕ} (λ (b : Bool). if b then 0 else 1) on))
    (λ off. omega (arith, put_new q xs off, ap {B = ℕ} (λ (b : Bool). if b then 0 else 1) off))
    (cases_Bool (among xs q))

-- ---- lists that are joined

pub among_left : (xs ys : List ℕ) (q : ℕ) → among xs q ≡ true → among (xs ++ ys) q ≡ true
among_left [] ys q e = absurd (let f : false ≡ true = e in cc)
among_left (x ∷ xs) ys q e =
    ⊎_elim (λ (same : q ≡ x). subst (λ (z : ℕ). among (z ∷ (xs ++ ys)) q ≡ true) same (among_first q (xs ++ ys)))
    (λ later. among_later x q (xs ++ ys) (among_left xs ys q later)) (among_cases x q xs e)

pub among_right : (xs ys : List ℕ) (q : ℕ) → among ys q ≡ true → among (xs ++ ys) q ≡ true
among_right [] ys q e = e
among_right (x ∷ xs) ys q e = among_later x q (xs ++ ys) (among_right xs ys q e)

pub among_join : (xs ys : List ℕ) (q : ℕ) → among (xs ++ ys) q ≡ true → (among xs q ≡ true) ⊎ (among ys q ≡ true)
among_join [] ys q e = inr e
among_join (x ∷ xs) ys q e =
    ⊎_elim
    (λ (same : q ≡ x). inl (subst (λ (z : ℕ). among (z ∷ xs) q ≡ true) same (among_first q xs)))
    (λ later. ⊎_elim (λ there. inl (among_later x q xs there)) (λ in_fanin. inr in_fanin) (among_join xs ys q later))
    (among_cases x q (xs ++ ys) e)

pub rising_prefix : (xs ys : List ℕ) → IsRising (xs ++ ys) → IsRising xs
unfolding IsRising
rising_prefix [] ys rising = tt
rising_prefix (x ∷ xs) ys rising = (λ q e. rising.0 q (among_left xs ys q e), rising_prefix xs ys rising.1)

-- the last of an ascending list is above the others
pub last_high : (prefix : List ℕ) (p : ℕ) → IsRising (prefix ++ p ∷ []) → (q : ℕ) → among prefix q ≡ true → q < p
unfolding IsRising
last_high [] p rising q e = absurd (let f : false ≡ true = e in cc)
last_high (x ∷ xs) p rising q e =
    ⊎_elim (λ (same : q ≡ x). let above : x < p = rising.0 p (end_among xs p) in omega (arith, same, above)) (λ later. last_high xs p rising.1 q later) (among_cases x q xs e)

-- ---- one step

-- the result of expanding the greatest leaf
pub expands_this : (n : Net) (leaves prefix : List ℕ) (p : ℕ) (g : Gate) → IsNet n → IsRising leaves → leaves ≡ prefix ++ p ∷ [] → IsGateOf n p g → Expands n leaves (leaves_after prefix g)
expands_this n leaves prefix p g net rising parts of =
    let joined : IsRising (prefix ++ p ∷ []) = subst IsRising parts rising in
    let at : (q : ℕ) → among (prefix ++ p ∷ []) q ≡ true → among leaves q ≡ true = λ q e. ap (λ (xs : List ℕ). among xs q) parts ∙ e in
    let back : (q : ℕ) → among leaves q ≡ true → among (prefix ++ p ∷ []) q ≡ true = λ q e. ap (λ (xs : List ℕ). among xs q) (sym parts) ∙ e in
    record {
      node = p;
      greatest = record {
        leaf = at p (end_among prefix p);
        gate = of_gate n p g of;
        greatest = λ q leaf gate. ⊎_elim (λ there. let low : q < p = last_high prefix p joined q there in
            omega (arith, low)) (λ (same : q ≡ p). omega (arith, same)) (among_end prefix p q (back q leaf));
      };
      just = record {
        rising = after_rising prefix g (rising_prefix prefix (p ∷ []) joined);
        only = λ q e. ⊎_elim
            (λ there. let low : q < p = last_high prefix p joined q there in inl (at q (prefix_among prefix p q there), λ same. omega (arith, same, low)))
            (λ reads. inr (of_reads n p q g of reads))
            (after_only prefix g q e);
        all = λ q is. ⊎_elim
            (λ leaf. ⊎_elim (λ there. after_front prefix g q there) (λ (same : q ≡ p). absurd (leaf.1 same)) (among_end prefix p q (back q leaf.0)))
            (λ r. after_reads prefix g q (reads_of n p q g of r))
            is;
      };
    }

pub too_many : (n : Net) (leaves prefix : List ℕ) (p : ℕ) (g : Gate) → IsNet n → IsRising leaves → leaves ≡ prefix ++
    p ∷ [] → IsGateOf n p g → most_leaves < length (leaves_after prefix g) → IsFullyExpanded n leaves
too_many n leaves prefix p g net rising parts of many in_fanin expands =
    subst (λ (xs : List ℕ). most_leaves < length xs) (expands_one n leaves (leaves_after prefix g) in_fanin (expands_this n leaves prefix p g net rising parts of) expands) many

pub no_gate : (n : Net) (leaves prefix : List ℕ) (p : ℕ) → IsRising leaves → leaves ≡ prefix ++ p ∷ [] → p ≤ n.sources → IsFullyExpanded n leaves
no_gate n leaves prefix p rising parts low in_fanin expands =
    let joined : IsRising (prefix ++ p ∷ []) = subst IsRising parts rising in
    let most : expands.node ≤ p = ⊎_elim
    (λ there. let below : expands.node < p = last_high prefix p joined expands.node there in omega (arith, below))
    (λ (same : expands.node ≡ p). omega (arith, same))
    (among_end prefix p expands.node (ap (λ (xs : List ℕ). among xs expands.node) (sym parts) ∙ expands.greatest.leaf)) in
    absurd (omega (arith, most, low, (gate_high n expands.node expands.greatest.gate).0))

pub no_leaf : (n : Net) (leaves : List ℕ) → length leaves ≡ 0 → IsFullyExpanded n leaves
no_leaf n [] none in_fanin expands = absurd (let e : false ≡ true = expands.greatest.leaf in cc)
no_leaf n (x ∷ xs) none in_fanin expands = absurd (omega (arith, none))

pub last_is_gate : (n : Net) (leaves prefix : List ℕ) (p : ℕ) → leaves ≡ prefix ++ p ∷ [] → ((q : ℕ) → among leaves q ≡ true → q < end_of n) → n.sources < p → IsGate n p
last_is_gate n leaves prefix p parts within above =
    gate_at n p (omega arith) (within p (ap (λ (xs : List ℕ). among xs p) parts ∙ end_among prefix p))

-- ---- all steps

some_same : {A : Type 0} (x y : A) → Some x ≡ Some y → x ≡ y
some_same x y e = cc

fanin_cone_of : (n : Net) (nodes : List ℕ) → IsRising nodes → length nodes ≤ most_leaves → ((p : ℕ) → among nodes p ≡ true → p < end_of n) → IsFaninCone n nodes nodes []
unfolding IsRising
fanin_cone_of n nodes rising few within =
    record {
      above = record {
        few = few;
        leaves_rising = rising;
        gates_rising = tt;
        apart = λ p e f. let x : false ≡ true = f in cc;
        own = λ i x at. absurd cc;
        reads = λ i q x at reads. absurd cc;
      };
      below = λ p q e f. absurd (let x : false ≡ true = f in cc);
      within = within;
      covered = λ p e. inl e;
      expands_to = λ last l. l;
      leaves_in_fanin = λ p e. record { node = p; inside = e; why = inl refl };
      gates_in_fanin = λ p e. absurd (let x : false ≡ true = e in cc);
    }

pub fanin_cone_start : (n : Net) (nodes leaves : List ℕ) (gates : List (ℕ × Gate)) → IsRising nodes →
    length nodes ≤ most_leaves → ((p : ℕ) → among nodes p ≡ true → p < end_of n) → leaves ≡ nodes → gates ≡ [] →
    IsFaninCone n nodes leaves (reverse gates)
fanin_cone_start n nodes leaves gates rising few within same none =
    subst (λ (xs : List (ℕ × Gate)). IsFaninCone n nodes leaves (reverse xs)) (sym none) (subst (λ (ls : List ℕ). IsFaninCone n nodes ls []) (sym same) (fanin_cone_of n nodes rising few within))

-- a fanin of a node in the cone of some nodes is in their cone too
up_first : (n : Net) (q p r : ℕ) → Reads n p q → HasPath n p r → HasPath n q r
up_first n q _ _ first (at_once p r reads) = by_way_of q p r (at_once q p first) reads
up_first n q _ _ first (by_way_of p m r before reads) = by_way_of q m r (up_first n q p m first before) reads

read_after : (n : Net) (nodes : List ℕ) (p q : ℕ) → Reads n p q → IsInFanin n nodes p → IsInFanin n nodes q
read_after n nodes p q reads is =
    record {
      node = is.node;
      inside = is.inside;
      why = inr (⊎_elim (λ same. subst (HasPath n q) same (at_once q p reads)) (λ up. up_first n q p is.node reads up) is.why);
    }

-- the gate that is expanded is below the others
fanin_cone_step : (n : Net) (nodes leaves prefix : List ℕ) (gates : List (ℕ × Gate)) (p : ℕ) (g : Gate) → IsNet n →
    leaves ≡ prefix ++ p ∷ [] → IsGateOf n p g → length (leaves_after prefix g) ≤ most_leaves →
    IsFaninCone n nodes leaves gates → IsFaninCone n nodes (leaves_after prefix g) ((p, g) ∷ gates)
unfolding IsRising
fanin_cone_step n nodes leaves prefix gates p g net parts of few was =
    let joined : IsRising (prefix ++ p ∷ []) = subst IsRising parts was.above.leaves_rising in
    let at : (q : ℕ) → among (prefix ++ p ∷ []) q ≡ true → among leaves q ≡ true = λ q e. ap (λ (xs : List ℕ). among xs q) parts ∙ e in
    let back : (q : ℕ) → among leaves q ≡ true → among (prefix ++ p ∷ []) q ≡ true = λ q e. ap (λ (xs : List ℕ). among xs q) (sym parts) ∙ e in
    let leaf : among leaves p ≡ true = at p (end_among prefix p) in
    let low : (q : ℕ) → among (leaves_after prefix g) q ≡ true → q < p =
    λ q e. ⊎_elim (λ there. last_high prefix p joined q there) (λ reads.
    (reads_low n p q net (of_reads n p q g of reads)).1) (after_only prefix g q e) in
    let high : (q : ℕ) → among (p ∷ gate_nodes gates) q ≡ true → p ≤ q =
    λ q e. ⊎_elim (λ (same : q ≡ p). omega (arith, same)) (λ later. let above : p < q = was.below p q leaf later in
    omega (arith, above)) (among_cases p q (gate_nodes gates) e) in
    let moved : (q : ℕ) → (among leaves q ≡ true) ⊎ (among (gate_nodes gates) q ≡ true) → (among (leaves_after prefix g) q ≡ true) ⊎ (among (p ∷ gate_nodes gates) q ≡ true) =
    λ q e. ⊎_elim
    (λ l. ⊎_elim
    (λ there. inl (after_front prefix g q there))
    (λ (same : q ≡ p). inr (subst (λ (z : ℕ). among (z ∷ gate_nodes gates) q ≡ true) same (among_first q (gate_nodes gates))))
    (among_end prefix p q (back q l)))
    (λ inside. inr (among_later p q (gate_nodes gates) inside))
    e in
    record {
      above = record {
        few = few;
        leaves_rising = after_rising prefix g (rising_prefix prefix (p ∷ []) joined);
        gates_rising = (λ q e. was.below p q leaf e, was.above.gates_rising);
        apart = λ q e f. omega (arith, low q e, high q f);
        own = λ i x e. own_at i x e;
        reads = λ i q x e reads. reads_at i q x e reads moved;
      };
      below = λ q r e f. omega (arith, low q e, high r f);
      within = λ q e. omega (arith, low q e, was.within p leaf);
      covered = λ q e. moved q (was.covered q e);
      expands_to = λ last l. was.expands_to last (goes_on leaves (leaves_after prefix g) last (expands_this n leaves prefix p g net was.above.leaves_rising parts of) few l);
      leaves_in_fanin = λ q e. ⊎_elim
          (λ there. was.leaves_in_fanin q (at q (prefix_among prefix p q there)))
          (λ reads. read_after n nodes p q (of_reads n p q g of reads) (was.leaves_in_fanin p leaf))
          (after_only prefix g q e);
      gates_in_fanin = λ q e. ⊎_elim
          (λ (same : q ≡ p). subst (IsInFanin n nodes) (sym same) (was.leaves_in_fanin p leaf))
          (λ later. was.gates_in_fanin q later)
          (among_cases p q (gate_nodes gates) e);
    }
  where
    own_at : (i : ℕ) (x : ℕ × Gate) → slice_get ((p, g) ∷ gates) i ≡ Some x → IsGateOf n x.0 x.1
    own_at zero x e = let f : Some (p, g) ≡ Some x = e in subst (λ (y : ℕ × Gate). IsGateOf n y.0 y.1) (some_same (p, g) x f) of
    own_at (suc i) x e = was.above.own i x e

    reads_at : (i q : ℕ) (x : ℕ × Gate) → slice_get ((p, g) ∷ gates) i ≡ Some x → ReadsNode x.1 q →
        ((r : ℕ) → (among leaves r ≡ true) ⊎ (among (gate_nodes gates) r ≡ true) →
        (among (leaves_after prefix g) r ≡ true) ⊎ (among (p ∷ gate_nodes gates) r ≡ true)) →
        (among (leaves_after prefix g) q ≡ true) ⊎ (among (p ∷ gate_nodes gates) q ≡ true)
    reads_at zero q x e reads moved = let f : Some (p, g) ≡ Some x = e in inl (after_reads prefix g q (subst (λ (y : ℕ × Gate). ReadsNode y.1 q) (sym (some_same (p, g) x f)) reads))
    reads_at (suc i) q x e reads moved = moved q (was.above.reads i q x e reads)

pub fanin_cone_more : (n : Net) (nodes old new : List ℕ) (before after : List (ℕ × Gate)) → IsNet n →
    IsExpanded n old new before after → IsFaninCone n nodes old (reverse before) →
    IsFaninCone n nodes new (reverse after)
fanin_cone_more n nodes old new before after net is was =
    let turned : reverse after ≡ (is.node, is.gate) ∷ reverse before = ap (reverse {A = ℕ × Gate}) is.gates ∙ reverse-append before ((is.node, is.gate) ∷ []) in
    subst (IsFaninCone n nodes new) (sym turned) (subst (λ (ls : List ℕ). IsFaninCone n nodes ls ((is.node, is.gate) ∷ reverse before)) (sym is.leaves)
    (fanin_cone_step n nodes old is.prefix (reverse before) is.node is.gate net is.parts is.of is.few was))

pub fanin_cone_last : (n : Net) (nodes leaves : List ℕ) (gates : List (ℕ × Gate)) → IsFaninCone n nodes leaves gates → IsFullyExpanded n leaves → ExpandsTo n nodes leaves
fanin_cone_last n nodes leaves gates was last = was.expands_to leaves (stays leaves last)

-- ---- the greatest leaf decreases

top_above : (xs : List ℕ) (p : ℕ) → among xs p ≡ true → p < top_of xs
unfolding top_of
top_above [] p e = absurd (let f : false ≡ true = e in cc)
top_above (x ∷ xs) p e = ⊎_elim (λ (same : p ≡ x). omega (arith, same)) (λ later. omega (arith, top_above xs p later)) (among_cases x p xs e)

top_low : (xs : List ℕ) (bound : ℕ) → ((p : ℕ) → among xs p ≡ true → p < bound) → top_of xs ≤ bound
unfolding top_of
top_low [] bound low = omega arith
top_low (x ∷ xs) bound low = omega (arith, low x (among_first x xs), top_low xs bound (λ p e. low p (among_later x p xs e)))

pub top_falls : (n : Net) (old new : List ℕ) (before after : List (ℕ × Gate)) → IsNet n → IsRising old → IsExpanded n old new before after → top_of new < top_of old
top_falls n old new before after net rising is =
    let joined : IsRising (is.prefix ++ is.node ∷ []) = subst IsRising is.parts rising in
    let low : (q : ℕ) → among new q ≡ true → q < is.node = λ q e. ⊎_elim
    (λ there. last_high is.prefix is.node joined q there)
    (λ reads. (reads_low n is.node q net (of_reads n is.node q is.gate is.of reads)).1)
    (after_only is.prefix is.gate q (ap (λ (xs : List ℕ). among xs q) (sym is.leaves) ∙ e)) in
    let leaf : among old is.node ≡ true = ap (λ (xs : List ℕ). among xs is.node) is.parts ∙ end_among is.prefix is.node in
    omega (arith, top_low new is.node low, top_above old is.node leaf)

-- ---- in the code's words

pub new_code : (s : Sig) (q : ℕ) (xs : List ℕ) (has : Bool) → s ≡ sigs.Node q → IsRising xs → has ≡ among xs q → length (put_sig s xs) ≡ length xs + (if not has then 1 else 0)
new_code s q xs has is rising has_is =
    let turned : ◌≡◌ {A = ℕ} (if not has then 1 else 0) (if among xs q then 0 else 1) = ap {B = ℕ} (λ (b : Bool). if not b then 1 else 0) has_is ∙ one (among xs q) in
    omega (arith, ap (λ (x : Sig). length (put_sig x xs)) is, new_put q xs rising, turned)
  where
    one : (b : Bool) → ◌≡◌ {A = ℕ} (if not b then 1 else 0) (if b then 0 else 1)
    one true = refl
    one false = refl

-- a list has only one last element
last_parts : (xs ys : List ℕ) (x y : ℕ) → xs ++ x ∷ [] ≡ ys ++ y ∷ [] → (xs ≡ ys) × (x ≡ y)
last_parts [] [] x y e = (refl, cc)
last_parts [] (z ∷ ys) x y e = absurd (omega (arith, ap (length {A = ℕ}) e, length-append ys (y ∷ [])))
last_parts (z ∷ xs) [] x y e = absurd (omega (arith, ap (length {A = ℕ}) e, length-append xs (x ∷ [])))
last_parts (z ∷ xs) (w ∷ ys) x y e =
    let first : z ≡ w = cc in
    let rest : xs ++ x ∷ [] ≡ ys ++ y ∷ [] = cc in
    let more = last_parts xs ys x y rest in
    (ap (λ (v : ℕ). v ∷ xs) first ∙ ap (λ (vs : List ℕ). w ∷ vs) more.0, more.1)

pub same_prefix : (leaves prefix other : List ℕ) (p q : ℕ) → leaves ≡ prefix ++ p ∷ [] → leaves ≡ other ++ q ∷ [] → (prefix ≡ other) × (p ≡ q)
same_prefix leaves prefix other p q a b = last_parts prefix other p q (sym a ∙ b)

take_prefix : {A : Type 0} (xs ys : List A) → take (length xs) (xs ++ ys) ≡ xs
take_prefix [] ys = refl
take_prefix (x ∷ xs) ys = ap (λ (zs : List _). x ∷ zs) (take_prefix xs ys)

pub pop_code : (old new prefix : List ℕ) (p len : ℕ) → new ≡ take (len - 1) old → len ≡ length old → old ≡ prefix ++ p ∷ [] → new ≡ prefix
pop_code old new prefix p len is size parts =
    let count : len - 1 ≡ length prefix = omega (arith, size, ap (length {A = ℕ}) parts, length-append prefix (p ∷ [])) in
    is ∙ ap (λ (k : ℕ). take k old) count ∙ ap (take (length prefix)) parts ∙ take_prefix prefix (p ∷ [])
