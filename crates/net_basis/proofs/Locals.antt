-- The function of a gate's different signals has its values.
use Rattle.std.proofs.Common.{◌≡◌, ◌≢◌, ℕ, ◌<◌, ◌==◌, ◌||◌, Bool, true, false, if◌then◌else◌, refl, sym, ap, ◌∙◌, subst, eqb-true}
use Rattle.std.proofs.lemmas.Bool.{ne_eqb}
use Rattle.std.proofs.lemmas.Grind.{common_steps}
use Rattle.chain_theory.specs.Operator.{apply, Basis}
use Rattle.net_theory.specs.declared.data.Sig.{Sig}
use Rattle.net_theory.specs.declared.data.Sig.TheVariants.{Zero, One, Node}
use Rattle.net_theory.specs.declared.data.Gate.{Gate}
use Rattle.net_theory.specs.Net.{sig_value}
use Rattle.net_theory.specs.Moving.{moved, moved_gate}
use Rattle.net_basis.specs.Joins.{operands}
use Rattle.net_basis.specs.LocalWord.{first_word, is_node, second_word, local_word}
use Rattle.net_basis.specs.Placing.{IsSignalOf, IsMemberFor}
use Rattle.net_basis.specs.Conversion.{IsFunctionOf}
use Rattle.net_basis.proofs.Placements.{joined_value, first_value, second_value, zero_value, one_value}

-- ---- operands as functions of a and b

first_is : (v : Sig → Bool) (a : Sig) (y : Bool) → v Zero ≡ false → v One ≡ true → apply (first_word a) (v a) y ≡ v a
first_is v Zero y zero one = zero_value (v Zero) y ∙ sym zero
first_is v One y zero one = one_value (v One) y ∙ sym one
first_is v (Node p) y zero one = first_value (v (Node p)) y

node_same : (a : Sig) (q : ℕ) → is_node a q ≡ true → a ≡ Node q
node_same Zero q e = absurd cc
node_same One q e = absurd cc
node_same (Node p) q e = ap Node (eqb-true p q e)

second_node : (v : Sig → Bool) (a : Sig) (q : ℕ) (same : Bool) → is_node a q ≡ same →
    apply (if same then 3 else 5) (v a) (v (Node q)) ≡ v (Node q)
second_node v a q true e = first_value (v a) (v (Node q)) ∙ ap v (node_same a q e)
second_node v a q false e = second_value (v a) (v (Node q))

second_is : (v : Sig → Bool) (a b : Sig) → v Zero ≡ false → v One ≡ true →
    apply (second_word a b) (v a) (v b) ≡ v b
second_is v a Zero zero one = zero_value (v a) (v Zero) ∙ sym zero
second_is v a One zero one = one_value (v a) (v One) ∙ sym one
second_is v a (Node q) zero one = second_node v a q (is_node a q) refl

-- for any values of the signals
word_value : (v : Sig → Bool) (g : Gate) → v Zero ≡ false → v One ≡ true →
    apply (local_word g) (v g.a) (v g.b) ≡ apply g.op (v g.a) (v g.b)
word_value v g zero one =
    joined_value g.op (first_word g.a) (second_word g.a g.b) (v g.a) (v g.b)
    ∙ ap (λ (t : Bool). apply g.op t (apply (second_word g.a g.b) (v g.a) (v g.b))) (first_is v g.a (v g.b) zero one)
    ∙ ap (λ (t : Bool). apply g.op (v g.a) t) (second_is v g.a g.b zero one)

-- ---- of a gate, and of one with its operands mapped

pub own_word : (g : Gate) (word : ℕ) → word ≡ local_word g → IsFunctionOf word g
own_word g word is = λ f.
    ap (λ (w : ℕ). apply w (sig_value f g.a) (sig_value f g.b)) is ∙ word_value (sig_value f) g refl refl

pub moved_word : (nodes : ℕ → Sig) (g h : Gate) (word : ℕ) → word ≡ local_word g → h ≡ moved_gate nodes g →
    IsFunctionOf word h
moved_word nodes g h word is same = subst (λ (x : Gate). IsFunctionOf word x) (sym same) (λ f.
    ap (λ (w : ℕ). apply w (sig_value f (moved nodes g.a)) (sig_value f (moved nodes g.b))) is
    ∙ word_value (λ (s : Sig). sig_value f (moved nodes s)) g refl refl)

-- ---- gates that need none

pub signal_zero : (g : Gate) (word : ℕ) → IsFunctionOf word g → word ≡ 0 → IsSignalOf g Zero
signal_zero g word function is = record {
  below = λ end at. tt;
  value = λ f. sym (zero_value (sig_value f g.a) (sig_value f g.b))
      ∙ ap (λ (w : ℕ). apply w (sig_value f g.a) (sig_value f g.b)) (sym is) ∙ function f;
}

pub signal_one : (g : Gate) (word : ℕ) → IsFunctionOf word g → word ≡ 15 → IsSignalOf g One
signal_one g word function is = record {
  below = λ end at. tt;
  value = λ f. sym (one_value (sig_value f g.a) (sig_value f g.b))
      ∙ ap (λ (w : ℕ). apply w (sig_value f g.a) (sig_value f g.b)) (sym is) ∙ function f;
}

pub signal_first : (g : Gate) (word : ℕ) → IsFunctionOf word g → word ≡ 3 → IsSignalOf g g.a
signal_first g word function is = record {
  below = λ end at. at.first;
  value = λ f. sym (first_value (sig_value f g.a) (sig_value f g.b))
      ∙ ap (λ (w : ℕ). apply w (sig_value f g.a) (sig_value f g.b)) (sym is) ∙ function f;
}

pub signal_second : (g : Gate) (word : ℕ) → IsFunctionOf word g → word ≡ 5 → IsSignalOf g g.b
signal_second g word function is = record {
  below = λ end at. at.second;
  value = λ f. sym (second_value (sig_value f g.a) (sig_value f g.b))
      ∙ ap (λ (w : ℕ). apply w (sig_value f g.a) (sig_value f g.b)) (sym is) ∙ function f;
}

pub signal_none : (word : ℕ) → word ≢ 3 → word ≢ 5 → word ≢ 0 → word ≢ 15 → operands word ≡ false
signal_none word a b z o =
    ap (λ (t : Bool). t || word == 5 || word == 0 || word == 15) (ne_eqb word 3 a)
    ∙ ap (λ (t : Bool). t || word == 0 || word == 15) (ne_eqb word 5 b)
    ∙ ap (λ (t : Bool). t || word == 15) (ne_eqb word 0 z)
    ∙ ne_eqb word 15 o

-- ---- gates of the basis

pub member_itself : (basis : Basis) (g : Gate) → basis g.op ≡ true → g.op < 16 → IsMemberFor basis g g
member_itself basis g is low = record { member = is; low = low; first = refl; second = refl; value = λ f. refl }

pub member_word : (basis : Basis) (g : Gate) (word : ℕ) → basis word ≡ true → word < 16 → IsFunctionOf word g →
    IsMemberFor basis g (record { op = word; a = g.a; b = g.b })
member_word basis g word is low function = record {
  member = is;
  low = low;
  first = refl;
  second = refl;
  value = function;
}

pub ruleset locals = (common_steps, own_word, signal_zero, signal_one, signal_first, signal_second, signal_none, member_itself, member_word)
