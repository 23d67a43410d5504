-- The AND gates of a circuit compute its values: in bits of literals in which the gates hold, the literal of each node
-- has the node's value.
use Rattle.std.proofs.Common.{◌≡◌, ℕ, suc, ◌+◌, ◌≤◌, ◌<◌, Bool, true, false, List, [], ◌∷◌, ◌++◌, length, refl, ap, ◌∙◌, sym, subst, arith, length-append, ⊎_elim}
use Rattle.std.specs.Prelude.{not, ◌&&◌, ◌||◌, ◌==◌, nat_le, if◌then◌else◌, All, slice_get, slice_index_or, Some}
use Rattle.std.proofs.lemmas.Bool.{both_ways, cond_both, eqb-true, eq-eqb, cases_lt}
use Rattle.std.proofs.lemmas.List.{get_or_append_left, get_or_push}
use Rattle.std.proofs.lemmas.List.Elements.{All-nil, All-cons, All-head, All-tail}
use Rattle.chain_theory.specs.Operator.{apply}
use Rattle.chain_theory.specs.Value.{extended}
use Rattle.net_theory.specs.declared.data.Sig.{Sig}
use Rattle.net_theory.specs.declared.data.Sig.TheVariants.{Zero, One, Node}
use Rattle.net_theory.specs.declared.data.Gate.{Gate}
use Rattle.net_theory.specs.Net.{IsSigBelow, IsGateAt, sig_value, gate_value, values_after}
use Rattle.aiger_text.specs.declared.file.AigGate.{AigGate}
use Rattle.aiger_core.specs.Written.{complement, flipped, sig_literal, Anded, next_literal, and_gate, with_and, without, anded, anded_with, is_and_word, operated, Mapped, with_node, mapped_from}

-- ---- bits

-- bits of literals: that of 0 is false, and a complement has the other bit
pub record AreBits (val : ℕ → Bool) : Type 0 where
  pub zero : val 0 ≡ false
  pub turn : (lit : ℕ) → val (complement lit) ≡ not (val lit)

abbrev pub Holds : (ℕ → Bool) → AigGate → Type 0
Holds val g = val g.literal ≡ (val g.first && val g.second)

pub either : (P : Type 0) (a b : Bool) → (a || b) ≡ true → (a ≡ true → P) → (b ≡ true → P) → P
either P true b e f g = f refl
either P false b e f g = g e

and_false : (a b : Bool) → b ≡ false → (a && b) ≡ false
and_false false b e = refl
and_false true b e = e

and_true : (a b : Bool) → b ≡ true → (a && b) ≡ a
and_true false b e = refl
and_true true b e = e

and_not : (a b : Bool) → a ≡ not b → (a && b) ≡ false
and_not a true e = ap (λ (x : Bool). x && true) e
and_not a false e = and_false a false refl

and_itself : (a b : Bool) → a ≡ b → (a && b) ≡ a
and_itself true b e = sym e
and_itself false b e = refl

abbrev pub flip : Bool → Bool → Bool
flip b x = if b then not x else x

flipped_value : (val : ℕ → Bool) (b : Bool) (lit : ℕ) → AreBits val → val (flipped b lit) ≡ flip b (val lit)
flipped_value val true lit bits = bits.turn lit
flipped_value val false lit bits = refl

one_value : (val : ℕ → Bool) → AreBits val → val 1 ≡ true
one_value val bits = bits.turn 0 ∙ ap not bits.zero

-- ---- gates

last_holds : (P : AigGate → Type 0) (gs : List AigGate) (g : AigGate) → All P (gs ++ g ∷ []) → P g
last_holds P [] g all = All-head P g [] all
last_holds P (h ∷ gs) g all = last_holds P gs g (All-tail P h (gs ++ g ∷ []) all)

and_turned : (x y : Bool) → (x && y) ≡ (y && x)
and_turned true true = refl
and_turned true false = refl
and_turned false true = refl
and_turned false false = refl

and_gate_value : (val : ℕ → Bool) (lit a b : ℕ) → Holds val (and_gate lit a b) → val lit ≡ (val a && val b)
and_gate_value val lit a b hold =
    cond_both (nat_le b a) (record { literal = lit; first = a; second = b }) (record { literal = lit; first = b; second = a })
    (λ (g : AigGate). Holds val g → val lit ≡ (val a && val b))
    (λ e h. h)
    (λ e h. h ∙ and_turned (val b) (val a))
    hold

anded_value : (val : ℕ → Bool) (s : ℕ) (gates : List AigGate) (a b : ℕ) → AreBits val →
    All (Holds val) (anded s gates a b).gates → val (anded s gates a b).literal ≡ (val a && val b)
unfolding anded
anded_value val s gates a b bits =
    let P : Anded → Type 0 = λ r. All (Holds val) r.gates → val r.literal ≡ (val a && val b) in
    cond_both (a == 0 || b == 0 || a == complement b) (without gates 0) (if a == 1 then without gates b else (if b == 1 || a == b then without gates a else with_and s gates a b)) P
    (λ e hold. bits.zero ∙ sym (either ((val a && val b) ≡ false) (a == 0 || b == 0) (a == complement b) e
    (λ e0. either ((val a && val b) ≡ false) (a == 0) (b == 0) e0
    (λ za. ap (λ (x : Bool). x && val b) (ap val (eqb-true a 0 za) ∙ bits.zero))
    (λ zb. and_false (val a) (val b) (ap val (eqb-true b 0 zb) ∙ bits.zero)))
    (λ turned. and_not (val a) (val b) (ap val (eqb-true a (complement b) turned) ∙ bits.turn b))))
    (λ e. cond_both (a == 1) (without gates b) (if b == 1 || a == b then without gates a else with_and s gates a b) P
    (λ one hold. sym (ap (λ (x : Bool). x && val b) (ap val (eqb-true a 1 one) ∙ one_value val bits)))
    (λ other. cond_both (b == 1 || a == b) (without gates a) (with_and s gates a b) P
    (λ e1 hold. sym (either ((val a && val b) ≡ val a) (b == 1) (a == b) e1
    (λ one. and_true (val a) (val b) (ap val (eqb-true b 1 one) ∙ one_value val bits))
    (λ same. and_itself (val a) (val b) (ap val (eqb-true a b same)))))
    (λ e1 hold. and_gate_value val (next_literal s gates) a b (last_holds (Holds val) gates (and_gate (next_literal s gates) a b) hold))))

anded_with_value : (val : ℕ → Bool) (s : ℕ) (gates : List AigGate) (a b : ℕ) (fa fb f : Bool) → AreBits val →
    All (Holds val) (anded_with s gates a b fa fb f).gates →
    val (anded_with s gates a b fa fb f).literal ≡ flip f (flip fa (val a) && flip fb (val b))
anded_with_value val s gates a b fa fb f bits hold =
    flipped_value val f (anded s gates (flipped fa a) (flipped fb b)).literal bits
    ∙ ap (flip f) (anded_value val s gates (flipped fa a) (flipped fb b) bits hold
    ∙ ap (λ (x : Bool). x && val (flipped fb b)) (flipped_value val fa a bits)
    ∙ ap (λ (x : Bool). flip fa (val a) && x) (flipped_value val fb b bits))

-- a function of two bits that is an operator on each row
by_rows : (op : ℕ) (f : Bool → Bool → Bool) → f false false ≡ apply op false false → f false true ≡ apply op false true →
    f true false ≡ apply op true false → f true true ≡ apply op true true → (x y : Bool) → f x y ≡ apply op x y
by_rows op f a b c d false false = a
by_rows op f a b c d false true = b
by_rows op f a b c d true false = c
by_rows op f a b c d true true = d

-- what holds of each operator that can be written
pub by_word : (P : ℕ → Type 0) → P 1 → P 2 → P 4 → P 8 → P 14 → P 13 → P 11 → P 7 → P 3 → P 5 → P 12 → P 10 → P 15 → P 0 → (op : ℕ) → is_and_word op ≡ true → P op
unfolding is_and_word
by_word P p1 p2 p4 p8 p14 p13 p11 p7 p3 p5 p12 p10 p15 p0 op e13 =
    either (P op) (op == 1 || op == 2 || op == 4 || op == 8 || op == 14 || op == 13 || op == 11 || op == 7 || op == 3 || op == 5 || op == 12 || op == 10 || op == 15) (op == 0) e13
    (λ e12. either (P op) (op == 1 || op == 2 || op == 4 || op == 8 || op == 14 || op == 13 || op == 11 || op == 7 || op == 3 || op == 5 || op == 12 || op == 10) (op == 15) e12
    (λ e11. either (P op) (op == 1 || op == 2 || op == 4 || op == 8 || op == 14 || op == 13 || op == 11 || op == 7 || op == 3 || op == 5 || op == 12) (op == 10) e11
    (λ e10. either (P op) (op == 1 || op == 2 || op == 4 || op == 8 || op == 14 || op == 13 || op == 11 || op == 7 || op == 3 || op == 5) (op == 12) e10
    (λ e9. either (P op) (op == 1 || op == 2 || op == 4 || op == 8 || op == 14 || op == 13 || op == 11 || op == 7 || op == 3) (op == 5) e9
    (λ e8. either (P op) (op == 1 || op == 2 || op == 4 || op == 8 || op == 14 || op == 13 || op == 11 || op == 7) (op == 3) e8
    (λ e7. either (P op) (op == 1 || op == 2 || op == 4 || op == 8 || op == 14 || op == 13 || op == 11) (op == 7) e7
    (λ e6. either (P op) (op == 1 || op == 2 || op == 4 || op == 8 || op == 14 || op == 13) (op == 11) e6
    (λ e5. either (P op) (op == 1 || op == 2 || op == 4 || op == 8 || op == 14) (op == 13) e5
    (λ e4. either (P op) (op == 1 || op == 2 || op == 4 || op == 8) (op == 14) e4
    (λ e3. either (P op) (op == 1 || op == 2 || op == 4) (op == 8) e3
    (λ e2. either (P op) (op == 1 || op == 2) (op == 4) e2
    (λ e1. either (P op) (op == 1) (op == 2) e1
    (λ h. subst P (sym (eqb-true op 1 h)) p1)
    (λ h. subst P (sym (eqb-true op 2 h)) p2))
    (λ h. subst P (sym (eqb-true op 4 h)) p4))
    (λ h. subst P (sym (eqb-true op 8 h)) p8))
    (λ h. subst P (sym (eqb-true op 14 h)) p14))
    (λ h. subst P (sym (eqb-true op 13 h)) p13))
    (λ h. subst P (sym (eqb-true op 11 h)) p11))
    (λ h. subst P (sym (eqb-true op 7 h)) p7))
    (λ h. subst P (sym (eqb-true op 3 h)) p3))
    (λ h. subst P (sym (eqb-true op 5 h)) p5))
    (λ h. subst P (sym (eqb-true op 12 h)) p12))
    (λ h. subst P (sym (eqb-true op 10 h)) p10))
    (λ h. subst P (sym (eqb-true op 15 h)) p15))
    (λ h. subst P (sym (eqb-true op 0 h)) p0)

abbrev HasValue : (ℕ → Bool) → ℕ → List AigGate → ℕ → ℕ → ℕ → Type 0
HasValue val s gates a b op = All (Holds val) (operated s gates op a b).gates → val (operated s gates op a b).literal ≡ apply op (val a) (val b)

operated_value : (val : ℕ → Bool) (s : ℕ) (gates : List AigGate) (a b op : ℕ) → AreBits val → is_and_word op ≡ true → HasValue val s gates a b op
unfolding operated
operated_value val s gates a b op bits word =
    by_word (HasValue val s gates a b)
    (λ hold. anded_with_value val s gates a b false false false bits hold ∙ by_rows 1 (λ x y. flip false (flip false x && flip false y)) refl refl refl refl (val a) (val b))
    (λ hold. anded_with_value val s gates a b false true false bits hold ∙ by_rows 2 (λ x y. flip false (flip false x && flip true y)) refl refl refl refl (val a) (val b))
    (λ hold. anded_with_value val s gates a b true false false bits hold ∙ by_rows 4 (λ x y. flip false (flip true x && flip false y)) refl refl refl refl (val a) (val b))
    (λ hold. anded_with_value val s gates a b true true false bits hold ∙ by_rows 8 (λ x y. flip false (flip true x && flip true y)) refl refl refl refl (val a) (val b))
    (λ hold. anded_with_value val s gates a b false false true bits hold ∙ by_rows 14 (λ x y. flip true (flip false x && flip false y)) refl refl refl refl (val a) (val b))
    (λ hold. anded_with_value val s gates a b false true true bits hold ∙ by_rows 13 (λ x y. flip true (flip false x && flip true y)) refl refl refl refl (val a) (val b))
    (λ hold. anded_with_value val s gates a b true false true bits hold ∙ by_rows 11 (λ x y. flip true (flip true x && flip false y)) refl refl refl refl (val a) (val b))
    (λ hold. anded_with_value val s gates a b true true true bits hold ∙ by_rows 7 (λ x y. flip true (flip true x && flip true y)) refl refl refl refl (val a) (val b))
    (λ hold. by_rows 3 (λ x y. x) refl refl refl refl (val a) (val b))
    (λ hold. by_rows 5 (λ x y. y) refl refl refl refl (val a) (val b))
    (λ hold. bits.turn a ∙ by_rows 12 (λ x y. not x) refl refl refl refl (val a) (val b))
    (λ hold. bits.turn b ∙ by_rows 10 (λ x y. not y) refl refl refl refl (val a) (val b))
    (λ hold. one_value val bits ∙ by_rows 15 (λ x y. true) refl refl refl refl (val a) (val b))
    (λ hold. bits.zero ∙ by_rows 0 (λ x y. false) refl refl refl refl (val a) (val b))
    op word

-- ---- nets

gates_left : (P : AigGate → Type 0) (xs ys : List AigGate) → All P (xs ++ ys) → All P xs
gates_left P [] ys all = All-nil P
gates_left P (x ∷ xs) ys all = All-cons P x xs (All-head P x (xs ++ ys) all) (gates_left P xs ys (All-tail P x (xs ++ ys) all))

anded_back : (P : AigGate → Type 0) (s : ℕ) (gates : List AigGate) (a b : ℕ) → All P (anded s gates a b).gates → All P gates
unfolding anded
anded_back P s gates a b =
    let Q : Anded → Type 0 = λ r. All P r.gates → All P gates in
    cond_both (a == 0 || b == 0 || a == complement b) (without gates 0) (if a == 1 then without gates b else (if b == 1 || a == b then without gates a else with_and s gates a b)) Q
    (λ e all. all)
    (λ e. cond_both (a == 1) (without gates b) (if b == 1 || a == b then without gates a else with_and s gates a b) Q
    (λ one all. all)
    (λ other. cond_both (b == 1 || a == b) (without gates a) (with_and s gates a b) Q
    (λ e1 all. all)
    (λ e1 all. gates_left P gates (and_gate (next_literal s gates) a b ∷ []) all)))

abbrev Keeps : (AigGate → Type 0) → ℕ → List AigGate → ℕ → ℕ → ℕ → Type 0
Keeps P s gates a b op = All P (operated s gates op a b).gates → All P gates

operated_back : (P : AigGate → Type 0) (s : ℕ) (gates : List AigGate) (a b op : ℕ) → is_and_word op ≡ true → Keeps P s gates a b op
unfolding operated
operated_back P s gates a b op word =
    by_word (Keeps P s gates a b)
    (λ all. anded_back P s gates (flipped false a) (flipped false b) all)
    (λ all. anded_back P s gates (flipped false a) (flipped true b) all)
    (λ all. anded_back P s gates (flipped true a) (flipped false b) all)
    (λ all. anded_back P s gates (flipped true a) (flipped true b) all)
    (λ all. anded_back P s gates (flipped false a) (flipped false b) all)
    (λ all. anded_back P s gates (flipped false a) (flipped true b) all)
    (λ all. anded_back P s gates (flipped true a) (flipped false b) all)
    (λ all. anded_back P s gates (flipped true a) (flipped true b) all)
    (λ all. all)
    (λ all. all)
    (λ all. all)
    (λ all. all)
    (λ all. all)
    (λ all. all)
    op word

-- a gate of a net that can be written
pub record IsAndAt (node : ℕ) (g : Gate) : Type 0 where
  pub gate : IsGateAt node g
  pub word : is_and_word g.op ≡ true

pub here_and : (node : ℕ) (g : Gate) → IsAndAt (node + 0) g → IsAndAt node g
here_and node g is = let place : node + 0 ≡ node = omega arith in subst (λ (n : ℕ). IsAndAt n g) place is

-- the gates of a state are those of each later one
from_keeps : (P : AigGate → Type 0) (s : ℕ) (m : Mapped) (node : ℕ) (gs : List Gate) →
    ((i : ℕ) (g : Gate) → slice_get gs i ≡ Some g → IsAndAt (node + i) g) → All P (mapped_from s m gs).gates → All P m.gates
unfolding mapped_from
from_keeps P s m node [] good all = all
from_keeps P s m node (g ∷ gs) good all =
    let later : (i : ℕ) (h : Gate) → slice_get gs i ≡ Some h → IsAndAt (node + 1 + i) h =
    λ i h at. let place : node + suc i ≡ node + 1 + i = omega arith in subst (λ (n : ℕ). IsAndAt n h) place (good (suc i) h at) in
    operated_back P s m.gates (sig_literal m.literals g.a) (sig_literal m.literals g.b) g.op (good 0 g refl).word
    (from_keeps P s (with_node s m g) (node + 1) gs later all)

-- the literals of the nodes below `node` have the nodes' bits
pub record AreValued (val bits : ℕ → Bool) (node : ℕ) (literals : List ℕ) : Type 0 where
  pub count : length literals ≡ node
  pub values : (p : ℕ) → 1 ≤ p → p < node → val (slice_index_or literals p 0) ≡ bits p

pub sig_valued : (val bits : ℕ → Bool) (node : ℕ) (literals : List ℕ) (s : Sig) → AreBits val → AreValued val bits node literals → IsSigBelow node s →
    val (sig_literal literals s) ≡ sig_value bits s
sig_valued val bits node literals Zero are is below = are.zero
sig_valued val bits node literals One are is below = one_value val are
sig_valued val bits node literals (Node p) are is below = is.values p below.0 below.1

abbrev pub node_gate : ℕ → Mapped → Gate → Anded
node_gate s m g = operated s m.gates g.op (sig_literal m.literals g.a) (sig_literal m.literals g.b)

gate_valued : (val bits : ℕ → Bool) (s node : ℕ) (m : Mapped) (g : Gate) → AreBits val → AreValued val bits node m.literals → IsAndAt node g →
    All (Holds val) (with_node s m g).gates → val (node_gate s m g).literal ≡ gate_value bits g
gate_valued val bits s node m g are is good hold =
    operated_value val s m.gates (sig_literal m.literals g.a) (sig_literal m.literals g.b) g.op are good.word hold
    ∙ ap (λ (x : Bool). apply g.op x (val (sig_literal m.literals g.b))) (sig_valued val bits node m.literals g.a are is good.gate.first)
    ∙ ap (λ (x : Bool). apply g.op (sig_value bits g.a) x) (sig_valued val bits node m.literals g.b are is good.gate.second)

node_valued : (val bits : ℕ → Bool) (s node : ℕ) (m : Mapped) (g : Gate) → AreBits val → AreValued val bits node m.literals → IsAndAt node g →
    All (Holds val) (with_node s m g).gates → AreValued val (extended bits node (gate_value bits g)) (node + 1) (with_node s m g).literals
node_valued val bits s node m g are is good hold =
    let lit = (node_gate s m g).literal in
    record {
      count = length-append m.literals (lit ∷ []) ∙ ap (λ (n : ℕ). n + 1) is.count;
      values = λ p low high.
          cond_both (p == node) (gate_value bits g) (bits p) (λ (x : Bool). val (slice_index_or (m.literals ++ lit ∷ []) p 0) ≡ x)
          (λ e. ap val (get_or_push m.literals lit 0 p (is.count ∙ sym (eqb-true p node e))) ∙ gate_valued val bits s node m g are is good hold)
          (λ e. let below : p < node = before p node e high in
          ap val (get_or_append_left m.literals (lit ∷ []) 0 p (omega (arith, below, is.count))) ∙ is.values p low below);
    } where
      before : (p node : ℕ) → (p == node) ≡ false → p < node + 1 → p < node
      before p node e high = ⊎_elim (λ lt. lt) (λ ge. absurd (let same : p ≡ node = omega (arith, ge, high) in both_ways (p == node) e (eq-eqb p node same))) (cases_lt p node)

pub mapped_values : (val bits : ℕ → Bool) (s node : ℕ) (m : Mapped) (gs : List Gate) → AreBits val → AreValued val bits node m.literals →
    ((i : ℕ) (g : Gate) → slice_get gs i ≡ Some g → IsAndAt (node + i) g) → All (Holds val) (mapped_from s m gs).gates →
    AreValued val (values_after bits node gs) (node + length gs) (mapped_from s m gs).literals
unfolding mapped_from values_after
mapped_values val bits s node m [] are is good hold = let size : node ≡ node + 0 = omega arith in subst (λ (n : ℕ). AreValued val bits n m.literals) size is
mapped_values val bits s node m (g ∷ gs) are is good hold =
    let here : IsAndAt node g = here_and node g (good 0 g refl) in
    let later : (i : ℕ) (h : Gate) → slice_get gs i ≡ Some h → IsAndAt (node + 1 + i) h =
    λ i h at. let place : node + suc i ≡ node + 1 + i = omega arith in subst (λ (n : ℕ). IsAndAt n h) place (good (suc i) h at) in
    let held : All (Holds val) (with_node s m g).gates = from_keeps (Holds val) s (with_node s m g) (node + 1) gs later hold in
    let size : node + 1 + length gs ≡ node + suc (length gs) = omega arith in
    subst (λ (n : ℕ). AreValued val (values_after (extended bits node (gate_value bits g)) (node + 1) gs) n (mapped_from s (with_node s m g) gs).literals) size
    (mapped_values val (extended bits node (gate_value bits g)) s (node + 1) (with_node s m g) gs are (node_valued val bits s node m g are is here held) later hold)
