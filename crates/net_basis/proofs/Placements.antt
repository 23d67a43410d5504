-- The gates of steps have the values of the functions that the steps make.
use Rattle.std.proofs.Common.{◌≡◌, ◌≢◌, ℕ, ◌+◌, ◌<◌, ◌==◌, ◌||◌, Bool, true, false, ◌&&◌, List, [], ◌∷◌, ◌++◌, length, set, get_or, ◌⊎◌, refl, sym, ap, ◌∙◌, subst, arith, ⊎_elim, inl, inr, eqb-true, length-append}
use Rattle.std.proofs.lemmas.Bool.{cases_eq, cond-true, cond-false, eq-eqb, ne_eqb}
use Rattle.std.proofs.lemmas.List.{get_or-set_same, get_or-set_other}
use Rattle.chain_theory.specs.Operator.{apply, Basis}
use Rattle.chain_theory.specs.Value.{extended}
use Rattle.chain_theory.specs.ValueLaws.{extended-other}
use Rattle.op_basis.specs.Laws.{operator_values}
use Rattle.net_theory.specs.declared.data.Sig.{Sig}
use Rattle.net_theory.specs.declared.data.Sig.TheVariants.{Zero, Node}
use Rattle.net_theory.specs.declared.data.Gate.{Gate}
use Rattle.net_theory.specs.Net.{IsSigBelow, IsGateAt, AreGates, sig_value, gate_value, values_of}
use Rattle.net_theory.specs.ValueLaws.{ExtendsGates, grown_none, grown_more, grown_push, grown_sig, grown_below, value-last, at_push}
use Rattle.net_theory.specs.Moving.{Kept, put_sig}
use Rattle.net_core.specs.Marks.{nodes_of, kept}
use Rattle.net_basis.specs.declared.join.Join.{Join}
use Rattle.net_basis.specs.Joins.{joined, function_of, operands, may_join, makes}
use Rattle.net_basis.specs.OverBasis.{HaveOperatorsIn}
use Rattle.net_basis.specs.Placing.{joining_gate, with_join, placed, HasOperands, IsExpressed, IsMemberFor}
use Rattle.net_basis.proofs.Closures.{and_split}

pub put_same : (nodes : ℕ → Sig) (node : ℕ) (s : Sig) (p : ℕ) → p ≡ node → put_sig nodes node s p ≡ s
put_same nodes node s p own = cond-true (p == node) s (nodes p) (eq-eqb p node own)

pub put_other : (nodes : ℕ → Sig) (node : ℕ) (s : Sig) (p : ℕ) → p ≢ node → put_sig nodes node s p ≡ nodes p
put_other nodes node s p other = cond-false (p == node) s (nodes p) (ne_eqb p node other)

-- writing one signal of a table
pub nodes_put : (nodes : List Sig) (node : ℕ) (s : Sig) → node < length nodes → nodes_of (set nodes node s) ≡ put_sig (nodes_of nodes) node s
unfolding nodes_of
nodes_put nodes node s low = λ i p. at p i where
  at : (p : ℕ) → nodes_of (set nodes node s) p ≡ put_sig (nodes_of nodes) node s p
  at p = ⊎_elim
      (λ here. ap (λ (k : ℕ). get_or (set nodes node s) k Zero) here ∙ get_or-set_same nodes node s Zero low ∙ sym (put_same (nodes_of nodes) node s p here))
      (λ other. get_or-set_other nodes node p s Zero other ∙ sym (put_other (nodes_of nodes) node s p other))
      (cases_eq p node)

-- ---- values of operators

pub joined_value : (p u v : ℕ) (x y : Bool) → apply (joined p u v) x y ≡ apply p (apply u x y) (apply v x y)
unfolding joined
joined_value p u v x y = operator_values (λ a b. apply p (apply u a b) (apply v a b)) x y

pub first_value : (x y : Bool) → apply 3 x y ≡ x
first_value true true = refl
first_value true false = refl
first_value false true = refl
first_value false false = refl

pub second_value : (x y : Bool) → apply 5 x y ≡ y
second_value true true = refl
second_value true false = refl
second_value false true = refl
second_value false false = refl

pub zero_value : (x y : Bool) → apply 0 x y ≡ false
zero_value true true = refl
zero_value true false = refl
zero_value false true = refl
zero_value false false = refl

pub one_value : (x y : Bool) → apply 15 x y ≡ true
one_value true true = refl
one_value true false = refl
one_value false true = refl
one_value false false = refl

or_cases : (a b : Bool) → (a || b) ≡ true → (a ≡ true) ⊎ (b ≡ true)
or_cases true b e = inl refl
or_cases false b e = inr e

-- what holds of the four functions that need no gate
operand_each : (P : ℕ → Type 0) → P 3 → P 5 → P 0 → P 15 → (w : ℕ) → operands w ≡ true → P w
operand_each P a b z o w is = ⊎_elim
    (λ some. ⊎_elim
    (λ three. ⊎_elim
    (λ first. subst P (sym (eqb-true w 3 first)) a)
    (λ second. subst P (sym (eqb-true w 5 second)) b)
    (or_cases (w == 3) (w == 5) three))
    (λ zero. subst P (sym (eqb-true w 0 zero)) z)
    (or_cases (w == 3 || w == 5) (w == 0) some))
    (λ one. subst P (sym (eqb-true w 15 one)) o)
    (or_cases (w == 3 || w == 5 || w == 0) (w == 15) is)

-- ---- the operators of more gates

pub operators_push : (basis : Basis) (gates : List Gate) (g : Gate) → basis g.op ≡ true → HaveOperatorsIn basis gates → HaveOperatorsIn basis (gates ++ g ∷ [])
operators_push basis gates g is old = record {
  each = λ i h at. ⊎_elim (λ was. old.each i h was) (λ new. ap (λ (x : Gate). basis x.op) (sym new.1) ∙ is) (at_push gates g h i at);
}

-- ---- the steps

-- the known functions have signals of their values
record IsPlacing (basis : Basis) (sources : ℕ) (old : List Gate) (a b : Sig) (known : ℕ → Bool) (k : Kept) : Type 0 where
  pub first : IsSigBelow (sources + 1 + length old) a
  pub second : IsSigBelow (sources + 1 + length old) b
  pub grown : ExtendsGates sources old k.gates
  pub operators : HaveOperatorsIn basis old → HaveOperatorsIn basis k.gates
  pub below : (w : ℕ) → known w ≡ true → IsSigBelow (sources + 1 + length k.gates) (k.nodes w)
  pub value : (given : ℕ → Bool) (w : ℕ) → known w ≡ true → sig_value (values_of given sources k.gates) (k.nodes w) ≡
      apply w (sig_value (values_of given sources k.gates) a) (sig_value (values_of given sources k.gates) b)

placing_first : (basis : Basis) (sources : ℕ) (a b : Sig) (k : Kept) → AreGates sources k.gates →
    IsSigBelow (sources + 1 + length k.gates) a → IsSigBelow (sources + 1 + length k.gates) b →
    HasOperands k.nodes a b → IsPlacing basis sources k.gates a b operands k
placing_first basis sources a b k are below_a below_b has =
    let end : ℕ = sources + 1 + length k.gates in
    record {
      first = below_a;
      second = below_b;
      grown = grown_none sources k.gates are;
      operators = λ old. old;
      below = λ w is. operand_each (λ (p : ℕ). IsSigBelow end (k.nodes p))
          (subst (IsSigBelow end) (sym has.first) below_a)
          (subst (IsSigBelow end) (sym has.second) below_b)
          (subst (IsSigBelow end) (sym has.zero) tt)
          (subst (IsSigBelow end) (sym has.one) tt)
          w is;
      value = λ given w is.
          let f : Sig → Bool = sig_value (values_of given sources k.gates) in
          operand_each (λ (p : ℕ). f (k.nodes p) ≡ apply p (f a) (f b))
          (ap f has.first ∙ sym (first_value (f a) (f b)))
          (ap f has.second ∙ sym (second_value (f a) (f b)))
          (ap f has.zero ∙ sym (zero_value (f a) (f b)))
          (ap f has.one ∙ sym (one_value (f a) (f b)))
          w is;
    }

-- one more step
placing_more : (basis : Basis) (sources : ℕ) (old : List Gate) (a b : Sig) (known : ℕ → Bool) (k : Kept) (j : Join) →
    IsPlacing basis sources old a b known k → basis j.op ≡ true → j.op < 16 → known j.first ≡ true →
    known j.second ≡ true →
    IsPlacing basis sources old a b (extended known (function_of j) true) (with_join sources k j)
placing_more basis sources old a b known k j is member low first second =
    let g : Gate = joining_gate k.nodes j in
    let new : List Gate = k.gates ++ g ∷ [] in
    let end : ℕ = sources + 1 + length k.gates in
    let f : ℕ = function_of j in
    let nodes : ℕ → Sig = put_sig k.nodes f (Node end) in
    let size : length new ≡ length k.gates + 1 = length-append k.gates (g ∷ []) in
    let here : IsGateAt end g = record { operator = low; first = is.below j.first first; second = is.below j.second second } in
    let grown : ExtendsGates sources k.gates new = grown_push sources k.gates g is.grown.gates here in
    let below_a : IsSigBelow end a = grown_below sources old k.gates a is.grown is.first in
    let below_b : IsSigBelow end b = grown_below sources old k.gates b is.grown is.second in
    record {
      first = is.first;
      second = is.second;
      grown = grown_more sources old k.gates new is.grown grown;
      operators = λ was. operators_push basis k.gates g member (is.operators was);
      below = λ w now. ⊎_elim
          (λ own. subst (IsSigBelow (sources + 1 + length new)) (sym (put_same k.nodes f (Node end) w own)) (omega arith, omega (arith, size)))
          (λ other. subst (IsSigBelow (sources + 1 + length new)) (sym (put_other k.nodes f (Node end) w other))
          (grown_below sources k.gates new (k.nodes w) grown (is.below w (sym (extended-other known f w true other) ∙ now))))
          (cases_eq w f);
      value = λ given w now.
          let v : Sig → Bool = sig_value (values_of given sources k.gates) in
          let x : Sig → Bool = sig_value (values_of given sources new) in
          let same_a : x a ≡ v a = grown_sig sources k.gates new a given grown below_a in
          let same_b : x b ≡ v b = grown_sig sources k.gates new b given grown below_b in
          let turn : apply w (v a) (v b) ≡ apply w (x a) (x b) =
          ap (λ (t : Bool). apply w t (v b)) (sym same_a) ∙ ap (λ (t : Bool). apply w (x a) t) (sym same_b) in
          ⊎_elim
          (λ own.
          ap x (put_same k.nodes f (Node end) w own)
          ∙ value-last given sources k.gates g
          ∙ ap (λ (t : Bool). apply j.op t (v (k.nodes j.second))) (is.value given j.first first)
          ∙ ap (λ (t : Bool). apply j.op (apply j.first (v a) (v b)) t) (is.value given j.second second)
          ∙ sym (joined_value j.op j.first j.second (v a) (v b))
          ∙ ap (λ (q : ℕ). apply q (v a) (v b)) (sym own)
          ∙ turn)
          (λ other.
          let was : known w ≡ true = sym (extended-other known f w true other) ∙ now in
          ap x (put_other k.nodes f (Node end) w other)
          ∙ grown_sig sources k.gates new (k.nodes w) given grown (is.below w was)
          ∙ is.value given w was
          ∙ turn)
          (cases_eq w f);
    }

placing_all : (basis : Basis) (sources : ℕ) (old : List Gate) (a b : Sig) (known : ℕ → Bool) (k : Kept) (js : List Join)
    (w : ℕ) → ((p : ℕ) → basis p ≡ true → p < 16) → IsPlacing basis sources old a b known k →
    makes basis known js w ≡ true →
    IsExpressed basis sources old (placed sources k js).gates a b w ((placed sources k js).nodes w)
unfolding makes placed
placing_all basis sources old a b known k [] w small is made = record {
  grown = is.grown;
  operators = is.operators;
  below = is.below w made;
  value = λ given. is.value given w made;
}
placing_all basis sources old a b known k (j ∷ js) w small is made =
    let next : ℕ → Bool = extended known (function_of j) true in
    let parts = and_split (may_join basis known j) (makes basis next js w) made in
    let ops = and_split (basis j.op && known j.first) (known j.second) parts.0 in
    let firsts = and_split (basis j.op) (known j.first) ops.0 in
    placing_all basis sources old a b next (with_join sources k j) js w small
    (placing_more basis sources old a b known k j is firsts.0 (small j.op firsts.0) firsts.1 ops.1) parts.1

-- The gates of steps that make an operator express it.
pub placed_expresses : (basis : Basis) (sources : ℕ) (a b : Sig) (k : Kept) (js : List Join) (w : ℕ) →
    ((p : ℕ) → basis p ≡ true → p < 16) → AreGates sources k.gates → IsSigBelow (sources + 1 + length k.gates) a →
    IsSigBelow (sources + 1 + length k.gates) b → HasOperands k.nodes a b → makes basis operands js w ≡ true →
    IsExpressed basis sources k.gates (placed sources k js).gates a b w ((placed sources k js).nodes w)
placed_expresses basis sources a b k js w small are below_a below_b has made =
    placing_all basis sources k.gates a b operands k js w small (placing_first basis sources a b k are below_a below_b has) made

-- the same for the tables and gates of the code
pub chain_expresses : (basis : Basis) (sources : ℕ) (a b s : Sig) (table after : List Sig) (old new : List Gate)
    (js : List Join) (w : ℕ) → ((p : ℕ) → basis p ≡ true → p < 16) → AreGates sources old →
    IsSigBelow (sources + 1 + length old) a → IsSigBelow (sources + 1 + length old) b →
    HasOperands (nodes_of table) a b → makes basis operands js w ≡ true → kept after new ≡ placed sources (kept table old) js →
    s ≡ nodes_of after w → IsExpressed basis sources old new a b w s
chain_expresses basis sources a b s table after old new js w small are below_a below_b has made same is =
    subst (IsExpressed basis sources old new a b w) (sym is)
    (subst (λ (k : Kept). IsExpressed basis sources old k.gates a b w (k.nodes w)) (sym same)
    (placed_expresses basis sources a b (kept table old) js w small are below_a below_b has made))

-- ---- other gates

-- a gate that is kept
pub kept_expresses : (basis : Basis) (sources : ℕ) (old : List Gate) (g : Gate) → AreGates sources old →
    IsGateAt (sources + 1 + length old) g → basis g.op ≡ true →
    IsExpressed basis sources old (old ++ g ∷ []) g.a g.b g.op (Node (sources + 1 + length old))
kept_expresses basis sources old g are at member =
    let new : List Gate = old ++ g ∷ [] in
    let grown : ExtendsGates sources old new = grown_push sources old g are at in
    record {
      grown = grown;
      operators = λ was. operators_push basis old g member was;
      below = (omega arith, omega (arith, length-append old (g ∷ [])));
      value = λ given.
          let v : Sig → Bool = sig_value (values_of given sources old) in
          let x : Sig → Bool = sig_value (values_of given sources new) in
          value-last given sources old g
          ∙ ap (λ (t : Bool). apply g.op t (v g.b)) (sym (grown_sig sources old new g.a given grown at.first))
          ∙ ap (λ (t : Bool). apply g.op (x g.a) t) (sym (grown_sig sources old new g.b given grown at.second));
    }

-- a signal that has the value of the operator, with no gate
pub signal_expresses : (basis : Basis) (sources : ℕ) (old : List Gate) (g : Gate) (s : Sig) → AreGates sources old →
    IsSigBelow (sources + 1 + length old) s → ((f : ℕ → Bool) → sig_value f s ≡ gate_value f g) →
    IsExpressed basis sources old old g.a g.b g.op s
signal_expresses basis sources old g s are below value = record {
  grown = grown_none sources old are;
  operators = λ was. was;
  below = below;
  value = λ given. value (values_of given sources old);
}

-- what expresses an operator with the gate's values expresses the gate
pub chosen_expresses : (basis : Basis) (sources : ℕ) (old new : List Gate) (g : Gate) (op : ℕ) (s : Sig) →
    ((f : ℕ → Bool) → apply op (sig_value f g.a) (sig_value f g.b) ≡ gate_value f g) →
    IsExpressed basis sources old new g.a g.b op s → IsExpressed basis sources old new g.a g.b g.op s
chosen_expresses basis sources old new g op s same is = record {
  grown = is.grown;
  operators = is.operators;
  below = is.below;
  value = λ given. is.value given ∙ same (values_of given sources new);
}

-- a gate of the basis that has the same operands and the same value
pub member_expresses : (basis : Basis) (sources : ℕ) (old : List Gate) (g h : Gate) → AreGates sources old →
    IsGateAt (sources + 1 + length old) g → IsMemberFor basis g h →
    IsExpressed basis sources old (old ++ h ∷ []) g.a g.b g.op (Node (sources + 1 + length old))
member_expresses basis sources old g h are at is =
    let end : ℕ = sources + 1 + length old in
    let new : List Gate = old ++ h ∷ [] in
    let s : Sig = Node end in
    let here : IsGateAt end h = record {
      operator = is.low;
      first = subst (IsSigBelow end) (sym is.first) at.first;
      second = subst (IsSigBelow end) (sym is.second) at.second;
    } in
    let own : IsExpressed basis sources old new h.a h.b h.op s = kept_expresses basis sources old h are here is.member in
    let of_g : IsExpressed basis sources old new g.a g.b h.op s =
    subst (λ (x : Sig). IsExpressed basis sources old new g.a x h.op s) is.second
    (subst (λ (x : Sig). IsExpressed basis sources old new x h.b h.op s) is.first own) in
    chosen_expresses basis sources old new g h.op s
    (λ f. ap (λ (x : Sig). apply h.op (sig_value f x) (sig_value f g.b)) (sym is.first)
    ∙ ap (λ (x : Sig). apply h.op (sig_value f h.a) (sig_value f x)) (sym is.second)
    ∙ is.value f)
    of_g

-- ---- the steps as a list that is read

pub placed_first : (sources : ℕ) (k : Kept) (js rest : List Join) (j : Join) → js ≡ j ∷ rest → placed sources (with_join sources k j) rest ≡ placed sources k js
unfolding placed
placed_first sources k js rest j e = ap (placed sources k) (sym e)

pub placed_none : (sources : ℕ) (k : Kept) (js : List Join) → length js ≡ 0 → k ≡ placed sources k js
unfolding placed
placed_none sources k [] e = refl
placed_none sources k (j ∷ js) e = absurd (omega (arith, e))
