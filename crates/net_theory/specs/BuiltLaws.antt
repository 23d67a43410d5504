-- What a table's gates compute, and tables of at most two inputs.
use Rattle.std.specs.Prelude.{◌≡◌, ℕ, ◌+◌, ◌*◌, ◌<◌, Bool, true, false, not, ◌==◌, if◌then◌else◌, List, [], ◌∷◌, length, refl}
use Rattle.std.proofs.Common.{arith, ◌∙◌, ◌≢◌, length-append}
use Rattle.std.proofs.lemmas.Bool.{eqb-true}
use Rattle.std.proofs.lemmas.Bool.Decides.{nat_tests}
use Rattle.chain_theory.specs.Operator.{apply, digit}
use Rattle.net_theory.specs.declared.data.Sig.{Sig}
use Rattle.net_theory.specs.declared.data.Gate.{Gate}
use Rattle.net_theory.specs.Net.{IsSigBelow, AreGates, sig_value, values_of}
use Rattle.net_theory.specs.Cover.{Cover, cover_value}
use Rattle.net_theory.specs.Expansion.{Built, gate_of, with_gate, with_not, constant_sig, digit_of, unary_word, binary_word, unary_built, binary_built}
use Rattle.net_theory.specs.Cost.{unary_cost, binary_cost}
use Rattle.net_theory.specs.ValueLaws.{ExtendsGates, grown_none, grown_push, value-last}

-- ---- choices

-- a property of both branches is a property of the conditional
pub by_test : {A : Type 0} (P : A → Type 0) (t : Bool) (x y : A) → (t ≡ true → P x) → (t ≡ false → P y) → P (if t then x else y)
by_test P true x y yes_ no_ = yes_ refl
by_test P false x y yes_ no_ = no_ refl

-- a failed test of equality shows that the numbers differ
pub differs : (a b : ℕ) → (a == b) ≡ false → a ≢ b
differs a b e same = grind (arith, nat_tests)

-- ---- decomposed tables

-- `b` extends the gates `old` by `more` gates, and its signal has the value `bit`.
pub record IsBuilt (sources : ℕ) (old : List Gate) (more : ℕ) (bit : (ℕ → Bool) → Bool) (b : Built) : Type 0 where
  pub grown : ExtendsGates sources old b.gates
  pub count : length b.gates ≡ length old + more
  pub below : IsSigBelow (sources + 1 + length b.gates) b.sig
  pub value : (given : ℕ → Bool) → sig_value (values_of given sources b.gates) b.sig ≡ bit given

-- with an equal `bit`
pub built_same : (sources : ℕ) (old : List Gate) (more : ℕ) (bit bit' : (ℕ → Bool) → Bool) (b : Built) →
    ((given : ℕ → Bool) → bit given ≡ bit' given) → IsBuilt sources old more bit b → IsBuilt sources old more bit' b
built_same sources old more bit bit' b same is =
    record { grown = is.grown; count = is.count; below = is.below; value = λ given. is.value given ∙ same given }

-- with an equal `more`
pub built_count : (sources : ℕ) (old : List Gate) (more more' : ℕ) (bit : (ℕ → Bool) → Bool) (b : Built) → more ≡ more' → IsBuilt sources old more bit b → IsBuilt sources old more' bit b
built_count sources old more more' bit b same is =
    record { grown = is.grown; count = omega (arith, is.count); below = is.below; value = is.value }

constant_below : (node : ℕ) (b : Bool) → IsSigBelow node (constant_sig b)
constant_below node true = tt
constant_below node false = tt

constant_value : (bits : ℕ → Bool) (b : Bool) → sig_value bits (constant_sig b) ≡ b
constant_value bits true = refl
constant_value bits false = refl

-- a constant
pub built_constant : (sources : ℕ) (old : List Gate) (b : Bool) → AreGates sources old → IsBuilt sources old 0 (λ given. b) (record { gates = old; sig = constant_sig b })
built_constant sources old b are =
    record {
      grown = grown_none sources old are;
      count = omega arith;
      below = constant_below (sources + 1 + length old) b;
      value = λ given. constant_value (values_of given sources old) b;
    }

-- a copy
pub built_copy : (sources : ℕ) (old : List Gate) (a : Sig) → AreGates sources old →
    IsSigBelow (sources + 1 + length old) a → IsBuilt sources old 0 (λ given.
    sig_value (values_of given sources old) a) (record { gates = old; sig = a })
built_copy sources old a are below =
    record { grown = grown_none sources old are; count = omega arith; below = below; value = λ given. refl }

-- one gate
pub built_gate : (sources : ℕ) (old : List Gate) (op : ℕ) (a b : Sig) → AreGates sources old → op < 16 →
    IsSigBelow (sources + 1 + length old) a → IsSigBelow (sources + 1 + length old) b →
    IsBuilt sources old 1 (λ given. apply op (sig_value (values_of given sources old) a)
    (sig_value (values_of given sources old) b)) (with_gate sources old (gate_of op a b))
built_gate sources old op a b are low first second =
    record {
      grown = grown_push sources old (gate_of op a b) are (record { operator = low; first = first; second = second });
      count = length-append old (gate_of op a b ∷ []);
      below = (omega arith, omega (arith, length-append old (gate_of op a b ∷ [])));
      value = λ given. value-last given sources old (gate_of op a b);
    }

nand_twice : (b : Bool) → apply 14 b b ≡ not b
nand_twice true = refl
nand_twice false = refl

-- NOT
pub built_not : (sources : ℕ) (old : List Gate) (a : Sig) → AreGates sources old →
    IsSigBelow (sources + 1 + length old) a → IsBuilt sources old 1 (λ given.
    not (sig_value (values_of given sources old) a)) (with_not sources old a)
built_not sources old a are below =
    built_same sources old 1
    (λ given. apply 14 (sig_value (values_of given sources old) a) (sig_value (values_of given sources old) a))
    (λ given. not (sig_value (values_of given sources old) a))
    (with_not sources old a)
    (λ given. nand_twice (sig_value (values_of given sources old) a))
    (built_gate sources old 14 a a are (omega arith) below below)

-- ---- one input

-- the value of a function of one bit, by its truth table (the values at 0 and 1)
abbrev pub apply_unary : ℕ → Bool → Bool
apply_unary word false = digit word 1
apply_unary word true = digit word 0

apply_zero : (b : Bool) → false ≡ apply_unary 0 b
apply_zero true = refl
apply_zero false = refl

apply_one : (b : Bool) → b ≡ apply_unary 1 b
apply_one true = refl
apply_one false = refl

apply_two : (b : Bool) → not b ≡ apply_unary 2 b
apply_two true = refl
apply_two false = refl

apply_three : (b : Bool) → true ≡ apply_unary 3 b
apply_three true = refl
apply_three false = refl

abbrev IsUnary : ℕ → List Gate → Sig → ℕ → Built → Type 0
IsUnary sources old a word b = IsBuilt sources old (unary_cost word) (λ given. apply_unary word (sig_value (values_of given sources old) a)) b

pub unary_is : (sources : ℕ) (old : List Gate) (word : ℕ) (a : Sig) → AreGates sources old →
    IsSigBelow (sources + 1 + length old) a → word < 4 → IsUnary sources old a word (unary_built sources old word a)
unfolding unary_built
unary_is sources old word a are below low =
    by_test (IsUnary sources old a word) (word == 0) _ _
    (λ e0. rw (eqb-true word 0 e0) (built_same sources old 0 _ _ _ (λ given. apply_zero _) (built_constant sources old false are)))
    (λ n0. by_test (IsUnary sources old a word) (word == 3) _ _
    (λ e3. rw (eqb-true word 3 e3) (built_same sources old 0 _ _ _ (λ given. apply_three _) (built_constant sources old true are)))
    (λ n3. by_test (IsUnary sources old a word) (word == 1) _ _
    (λ e1. rw (eqb-true word 1 e1) (built_same sources old 0 _ _ _ (λ given. apply_one _) (built_copy sources old a are below)))
    (λ n1. let two : word ≡ 2 = omega (arith, differs word 0 n0, differs word 3 n3, differs word 1 n1) in
    rw two (built_same sources old 1 _ _ _ (λ given. apply_two _) (built_not sources old a are below)))))

-- ---- two inputs

apply_0 : (a b : Bool) → false ≡ apply 0 a b
apply_0 true true = refl
apply_0 true false = refl
apply_0 false true = refl
apply_0 false false = refl

apply_15 : (a b : Bool) → true ≡ apply 15 a b
apply_15 true true = refl
apply_15 true false = refl
apply_15 false true = refl
apply_15 false false = refl

apply_3 : (a b : Bool) → a ≡ apply 3 a b
apply_3 true true = refl
apply_3 true false = refl
apply_3 false true = refl
apply_3 false false = refl

apply_5 : (a b : Bool) → b ≡ apply 5 a b
apply_5 true true = refl
apply_5 true false = refl
apply_5 false true = refl
apply_5 false false = refl

apply_12 : (a b : Bool) → not a ≡ apply 12 a b
apply_12 true true = refl
apply_12 true false = refl
apply_12 false true = refl
apply_12 false false = refl

apply_10 : (a b : Bool) → not b ≡ apply 10 a b
apply_10 true true = refl
apply_10 true false = refl
apply_10 false true = refl
apply_10 false false = refl

abbrev IsBinary : ℕ → List Gate → Sig → Sig → ℕ → Built → Type 0
IsBinary sources old a b word x = IsBuilt sources old (binary_cost word) (λ given. apply word (sig_value (values_of given sources old) a) (sig_value (values_of given sources old) b)) x

-- a truth table that is neither constant nor a copy costs one gate
costs_one : (word : ℕ) → word ≢ 0 → word ≢ 15 → word ≢ 3 → word ≢ 5 → 1 ≡ binary_cost word
costs_one word n0 n15 n3 n5 = grind (arith, nat_tests)

pub binary_is : (sources : ℕ) (old : List Gate) (word : ℕ) (a b : Sig) → AreGates sources old →
    IsSigBelow (sources + 1 + length old) a → IsSigBelow (sources + 1 + length old) b → word < 16 →
    IsBinary sources old a b word (binary_built sources old word a b)
unfolding binary_built
binary_is sources old word a b are first second low =
    by_test (IsBinary sources old a b word) (word == 0) _ _
    (λ e0. rw (eqb-true word 0 e0) (built_same sources old 0 _ _ _ (λ given. apply_0 _ _) (built_constant sources old false are)))
    (λ n0. by_test (IsBinary sources old a b word) (word == 15) _ _
    (λ e15. rw (eqb-true word 15 e15) (built_same sources old 0 _ _ _ (λ given. apply_15 _ _) (built_constant sources old true are)))
    (λ n15. by_test (IsBinary sources old a b word) (word == 3) _ _
    (λ e3. rw (eqb-true word 3 e3) (built_same sources old 0 _ _ _ (λ given. apply_3 _ _) (built_copy sources old a are first)))
    (λ n3. by_test (IsBinary sources old a b word) (word == 5) _ _
    (λ e5. rw (eqb-true word 5 e5) (built_same sources old 0 _ _ _ (λ given. apply_5 _ _) (built_copy sources old b are second)))
    (λ n5. by_test (IsBinary sources old a b word) (word == 12) _ _
    (λ e12. rw (eqb-true word 12 e12) (built_same sources old 1 _ _ _ (λ given. apply_12 _ _) (built_not sources old a are first)))
    (λ n12. by_test (IsBinary sources old a b word) (word == 10) _ _
    (λ e10. rw (eqb-true word 10 e10) (built_same sources old 1 _ _ _ (λ given. apply_10 _ _) (built_not sources old b are second)))
    (λ n10. built_count sources old 1 (binary_cost word) _ _ (costs_one word (differs word 0 n0) (differs word 15 n15)
    (differs word 3 n3) (differs word 5 n5)) (built_gate sources old word a b are low first second)))))))

-- ---- the truth tables of covers

-- one bit, case by case
both : (P : Bool → Type 0) → P false → P true → (b : Bool) → P b
both P f t false = f
both P f t true = t

pub unary_word_low : (c : Cover) → unary_word c < 4
unary_word_low c = low (cover_value c (false ∷ [])) (cover_value c (true ∷ [])) where
  low : (f t : Bool) → 2 * digit_of f + digit_of t < 4
  low false false = omega arith
  low false true = omega arith
  low true false = omega arith
  low true true = omega arith

pub unary_word_value : (c : Cover) (a : Bool) → apply_unary (unary_word c) a ≡ cover_value c (a ∷ [])
unary_word_value c false = digit_high (cover_value c (false ∷ [])) (cover_value c (true ∷ [])) where
  digit_high : (f t : Bool) → digit (2 * digit_of f + digit_of t) 1 ≡ f
  digit_high false false = refl
  digit_high false true = refl
  digit_high true false = refl
  digit_high true true = refl
unary_word_value c true = digit_low (cover_value c (false ∷ [])) (cover_value c (true ∷ [])) where
  digit_low : (f t : Bool) → digit (2 * digit_of f + digit_of t) 0 ≡ t
  digit_low false false = refl
  digit_low false true = refl
  digit_low true false = refl
  digit_low true true = refl

abbrev word4 : Bool → Bool → Bool → Bool → ℕ
word4 w x y z = 8 * digit_of w + 4 * digit_of x + 2 * digit_of y + digit_of z

-- a property of four bits
abbrev FourBits : Type 1
FourBits = Bool → Bool → Bool → Bool → Type 0

four : (P : FourBits) → P false false false false → P false false false true → P false false true false →
    P false false true true → P false true false false → P false true false true → P false true true false →
    P false true true true → P true false false false → P true false false true → P true false true false →
    P true false true true → P true true false false → P true true false true → P true true true false →
    P true true true true → (w x y z : Bool) → P w x y z
four P a b c d e f g h i j k l m n o p w x y z =
    both (λ w. P w x y z)
    (both (λ x. P false x y z) (both (λ y. P false false y z) (both (P false false false) a b z)
    (both (P false false true) c d z) y) (both (λ y. P false true y z) (both (P false true false) e f z)
    (both (P false true true) g h z) y) x)
    (both (λ x. P true x y z) (both (λ y. P true false y z) (both (P true false false) i j z)
    (both (P true false true) k l z) y) (both (λ y. P true true y z) (both (P true true false) m n z)
    (both (P true true true) o p z) y) x)
    w

abbrev pub pick : Bool → Bool → Bool → Bool → Bool → Bool → Bool
pick w x y z false false = w
pick w x y z false true = x
pick w x y z true false = y
pick w x y z true true = z

word4_low : (w x y z : Bool) → word4 w x y z < 16
word4_low = four (λ w x y z. word4 w x y z < 16) (omega arith) (omega arith) (omega arith) (omega arith) (omega arith)
    (omega arith) (omega arith) (omega arith) (omega arith) (omega arith) (omega arith) (omega arith) (omega arith)
    (omega arith) (omega arith) (omega arith)

abbrev digits_are : Bool → Bool → Bool → Bool → Type 0
digits_are w x y z = (digit (word4 w x y z) 3 ≡ w) × (digit (word4 w x y z) 2 ≡ x) × (digit (word4 w x y z) 1 ≡ y) × (digit (word4 w x y z) 0 ≡ z)

word4_digits : (w x y z : Bool) → digits_are w x y z
word4_digits = four digits_are (refl, refl, refl, refl) (refl, refl, refl, refl) (refl, refl, refl, refl) (
  refl,
  refl,
  refl,
  refl,
) (refl, refl, refl, refl) (refl, refl, refl, refl) (refl, refl, refl, refl) (refl, refl, refl, refl)
    (refl, refl, refl, refl) (refl, refl, refl, refl) (refl, refl, refl, refl) (refl, refl, refl, refl) (
      refl,
      refl,
      refl,
      refl,
    ) (refl, refl, refl, refl) (refl, refl, refl, refl) (refl, refl, refl, refl)

word4_value : (w x y z a b : Bool) → apply (word4 w x y z) a b ≡ pick w x y z a b
word4_value w x y z false false = (word4_digits w x y z).0
word4_value w x y z false true = (word4_digits w x y z).1
word4_value w x y z true false = (word4_digits w x y z).2
word4_value w x y z true true = (word4_digits w x y z).3

pub binary_word_low : (c : Cover) → binary_word c < 16
binary_word_low c = word4_low (cover_value c (false ∷ false ∷ [])) (cover_value c (false ∷ true ∷ [])) (cover_value c (true ∷ false ∷ [])) (cover_value c (true ∷ true ∷ []))

pick_value : (c : Cover) (a b : Bool) → pick (cover_value c (false ∷ false ∷ [])) (cover_value c (false ∷ true ∷ []))
    (cover_value c (true ∷ false ∷ [])) (cover_value c (true ∷ true ∷ [])) a b ≡ cover_value c (a ∷ b ∷ [])
pick_value c false false = refl
pick_value c false true = refl
pick_value c true false = refl
pick_value c true true = refl

pub binary_word_value : (c : Cover) (a b : Bool) → apply (binary_word c) a b ≡ cover_value c (a ∷ b ∷ [])
binary_word_value c a b =
    word4_value (cover_value c (false ∷ false ∷ [])) (cover_value c (false ∷ true ∷ [])) (cover_value c (true ∷ false ∷ [])) (cover_value c (true ∷ true ∷ [])) a b ∙ pick_value c a b
