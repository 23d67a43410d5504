-- The tables of gates and outputs: their inputs, costs and values.
use Rattle.std.specs.Prelude.{◌≡◌, ℕ, ◌≤◌, ◌<◌, Bool, true, false, ◌&&◌, ◌||◌, ◌==◌, if◌then◌else◌, List, [], ◌∷◌, ◌++◌, length, map, All, refl}
use Rattle.std.specs.List.{list_any}
use Rattle.std.proofs.Common.{arith, sym, ◌∙◌, ap, ⊎_elim, length-append}
use Rattle.std.proofs.lemmas.Bool.{cond_both, eqb-true}
use Rattle.std.proofs.Math.Bool.{or_assoc}
use Rattle.std.proofs.lemmas.Grind.{common_steps}
use Rattle.std.proofs.lemmas.List.Elements.{All-nil, All-cons, All-append}
use Rattle.chain_theory.specs.Operator.{apply}
use Rattle.net_theory.specs.declared.data.Sig.{Sig}
use Rattle.net_theory.specs.declared.data.Sig.TheVariants.{Zero, One, Node}
use Rattle.net_theory.specs.declared.data.Gate.{Gate}
use Rattle.net_theory.specs.Net.{IsSigBelow, IsGateAt, sig_value, gate_value}
use Rattle.net_theory.specs.Cover.{is_cube, matches, value_by, cover_value}
use Rattle.net_theory.specs.Document.{Name, IsName, is_same, has, Table}
use Rattle.net_theory.specs.NameLaws.{has_none, has_cases}
use Rattle.net_theory.specs.Expansion.{unary_word, binary_word}
use Rattle.net_theory.specs.Cost.{unary_cost, binary_cost, merged_table, cover_cost, table_cost}
use Rattle.blif_core.specs.Written.{row_if, constant_table, unary_table, binary_cubes, binary_table, with_node, with_bit, table_by, gate_table, output_table}
use Rattle.blif_laws.specs.Spelled.{IsSpelledTable}

-- ---- values

constant_value : (bit : Bool) (output : Name) → cover_value (constant_table bit output).cover [] ≡ bit
unfolding cover_value matches
constant_value true output = refl
constant_value false output = refl

unary_value : (at_zero at_one x : Bool) (input output : Name) → cover_value (unary_table at_zero at_one input output).cover (x ∷ []) ≡ (if x then at_one else at_zero)
unfolding cover_value matches
unary_value false false false input output = refl
unary_value false false true input output = refl
unary_value false true false input output = refl
unary_value false true true input output = refl
unary_value true false false input output = refl
unary_value true false true input output = refl
unary_value true true false input output = refl
unary_value true true true input output = refl

-- a cover of the on-set
value_any : (cubes : List (List ℕ)) (bits : List Bool) → value_by true cubes bits ≡ list_any (λ cube. matches cube bits) cubes
value_any [] bits = refl
value_any (c ∷ cs) bits = refl

any_append : (test : List ℕ → Bool) (xs ys : List (List ℕ)) → list_any test (xs ++ ys) ≡ (list_any test xs || list_any test ys)
any_append test [] ys = refl
any_append test (x ∷ xs) ys = ap (λ b. test x || b) (any_append test xs ys) ∙ sym (or_assoc (test x) (list_any test xs) (list_any test ys))

any_row : (test : List ℕ → Bool) (is : Bool) (row : List ℕ) → list_any test (row_if is row) ≡ (is && test row)
any_row test false row = refl
any_row test true row = or_none (test row) where
  or_none : (b : Bool) → (b || false) ≡ b
  or_none true = refl
  or_none false = refl

any_four : (test : List ℕ → Bool) (a b c d : Bool) (p q r s : List ℕ) →
    list_any test (row_if a p ++ row_if b q ++ row_if c r ++ row_if d s) ≡
    ((((a && test p) || (b && test q)) || (c && test r)) || (d && test s))
any_four test a b c d p q r s =
    any_append test (row_if a p ++ row_if b q ++ row_if c r) (row_if d s)
    ∙ ap (λ x. x || list_any test (row_if d s)) (any_append test (row_if a p ++ row_if b q) (row_if c r))
    ∙ ap (λ x. (x || list_any test (row_if c r)) || list_any test (row_if d s)) (any_append test (row_if a p) (row_if b q))
    ∙ ap (λ x. ((x || list_any test (row_if b q)) || list_any test (row_if c r)) || list_any test (row_if d s)) (any_row test a p)
    ∙ ap (λ x. (((a && test p) || x) || list_any test (row_if c r)) || list_any test (row_if d s)) (any_row test b q)
    ∙ ap (λ x. (((a && test p) || (b && test q)) || x) || list_any test (row_if d s)) (any_row test c r)
    ∙ ap (λ x. (((a && test p) || (b && test q)) || (c && test r)) || x) (any_row test d s)

-- one of four rows is covered
picked : (a b c d : Bool) (x y : Bool) →
    ((((a && matches (48 ∷ 48 ∷ []) (x ∷ y ∷ [])) || (b && matches (48 ∷ 49 ∷ []) (x ∷ y ∷ []))) ||
    (c && matches (49 ∷ 48 ∷ []) (x ∷ y ∷ []))) || (d && matches (49 ∷ 49 ∷ []) (x ∷ y ∷ []))) ≡
    (if x then (if y then d else c) else (if y then b else a))
unfolding matches
picked a b c d false false = first a b c d where
  first : (a b c d : Bool) → ((((a && true) || (b && false)) || (c && false)) || (d && false)) ≡ a
  first a b c d = grind (arith, common_steps)
picked a b c d false true = second a b c d where
  second : (a b c d : Bool) → ((((a && false) || (b && true)) || (c && false)) || (d && false)) ≡ b
  second a b c d = grind (arith, common_steps)
picked a b c d true false = third a b c d where
  third : (a b c d : Bool) → ((((a && false) || (b && false)) || (c && true)) || (d && false)) ≡ c
  third a b c d = grind (arith, common_steps)
picked a b c d true true = fourth a b c d where
  fourth : (a b c d : Bool) → ((((a && false) || (b && false)) || (c && false)) || (d && true)) ≡ d
  fourth a b c d = grind (arith, common_steps)

picks : (op : ℕ) (x y : Bool) → (if x then (if y then apply op true true else apply op true false) else (if y then apply op false true else apply op false false)) ≡ apply op x y
picks op false false = refl
picks op false true = refl
picks op true false = refl
picks op true true = refl

binary_value : (op : ℕ) (x y : Bool) (first second output : Name) → cover_value (binary_table op first second output).cover (x ∷ y ∷ []) ≡ apply op x y
unfolding cover_value binary_cubes
binary_value op x y first second output =
    value_any (binary_cubes op) (x ∷ y ∷ [])
    ∙ any_four (λ cube. matches cube (x ∷ y ∷ [])) (apply op false false) (apply op false true) (apply op true false) (apply op true true) (48 ∷ 48 ∷ []) (48 ∷ 49 ∷ []) (49 ∷ 48 ∷ []) (49 ∷ 49 ∷ [])
    ∙ picked (apply op false false) (apply op false true) (apply op true false) (apply op true true) x y
    ∙ picks op x y

-- ---- the cubes

cube_row : (width : ℕ) (is : Bool) (row : List ℕ) → is_cube width row ≡ true → All (λ cube. is_cube width cube ≡ true) (row_if is row)
cube_row width true row e = All-cons (λ (cube : List ℕ). is_cube width cube ≡ true) row [] e (All-nil (λ (cube : List ℕ). is_cube width cube ≡ true))
cube_row width false row e = All-nil (λ (cube : List ℕ). is_cube width cube ≡ true)

row_few : (is : Bool) (row : List ℕ) → length (row_if is row) ≤ 1
row_few true row = omega arith
row_few false row = omega arith

pub constant_is : (bit : Bool) (output : Name) → IsName output → IsSpelledTable (constant_table bit output)
constant_is bit output is = record {
  table = record {
    inputs = All-nil IsName;
    output = is;
    width = refl;
    cover = record { cubes = cube_row 0 bit [] refl; parity = λ e. absurd cc };
    narrow = omega arith;
    few = omega (arith, row_few bit []);
  };
  on = λ e. refl;
  cubes = refl;
}

pub unary_is : (at_zero at_one : Bool) (input output : Name) → IsName input → IsName output → IsSpelledTable (unary_table at_zero at_one input output)
unary_is at_zero at_one input output is_in is_out = record {
  table = record {
    inputs = All-cons IsName input [] is_in (All-nil IsName);
    output = is_out;
    width = refl;
    cover = record {
      cubes = All-append (λ (cube : List ℕ). is_cube 1 cube ≡ true) (row_if at_zero (48 ∷ []))
          (row_if at_one (49 ∷ [])) (cube_row 1 at_zero (48 ∷ []) refl) (cube_row 1 at_one (49 ∷ []) refl);
      parity =
          λ e. absurd cc;
    };
    narrow = omega arith;
    few = omega (arith, row_few at_zero (48 ∷ []), row_few at_one (49 ∷ []), length-append (row_if at_zero (48 ∷ [])) (row_if at_one (49 ∷ [])));
  };
  on = λ e. refl;
  cubes = refl;
}

binary_cubes_are : (op : ℕ) → All (λ cube. is_cube 2 cube ≡ true) (binary_cubes op) × (length (binary_cubes op) ≤ 4)
unfolding binary_cubes
binary_cubes_are op =
    let a = row_if (apply op false false) (48 ∷ 48 ∷ []) in
    let b = row_if (apply op false true) (48 ∷ 49 ∷ []) in
    let c = row_if (apply op true false) (49 ∷ 48 ∷ []) in
    let d = row_if (apply op true true) (49 ∷ 49 ∷ []) in (
      All-append (λ (cube : List ℕ). is_cube 2 cube ≡ true) (a ++ b ++ c) d
          (All-append (λ (cube : List ℕ). is_cube 2 cube ≡ true) (a ++ b) c
          (All-append (λ (cube : List ℕ). is_cube 2 cube ≡ true) a b (cube_row 2 (apply op false false) (48 ∷ 48 ∷ []) refl) (cube_row 2 (apply op false true) (48 ∷ 49 ∷ []) refl))
          (cube_row 2 (apply op true false) (49 ∷ 48 ∷ []) refl))
          (cube_row 2 (apply op true true) (49 ∷ 49 ∷ []) refl),
      omega (
        arith,
        length-append (a ++ b ++ c) d,
        length-append (a ++ b) c,
        length-append a b,
        row_few (apply op false false) (48 ∷ 48 ∷ []),
        row_few (apply op false true) (48 ∷ 49 ∷ []),
        row_few (apply op true false) (49 ∷ 48 ∷ []),
        row_few (apply op true true) (49 ∷ 49 ∷ []),
      ),
    )

binary_is : (op : ℕ) (first second output : Name) → IsName first → IsName second → IsName output → IsSpelledTable (binary_table op first second output)
binary_is op first second output is_first is_second is_out = record {
  table = record {
    inputs = All-cons IsName first (second ∷ []) is_first (All-cons IsName second [] is_second (All-nil IsName));
    output = is_out;
    width = refl;
    cover = record { cubes = (binary_cubes_are op).0; parity = λ e. absurd cc };
    narrow = omega arith;
    few = omega (arith, (binary_cubes_are op).1);
  };
  on = λ e. refl;
  cubes = refl;
}

-- ---- costs

unary_low : (word : ℕ) → unary_cost word ≤ 1
unary_low word = cond_both (word == 2) 1 0 (λ (n : ℕ). n ≤ 1) (λ e. omega arith) (λ e. omega arith)

binary_low : (word : ℕ) → binary_cost word ≤ 1
binary_low word = cond_both _ 0 1 (λ (n : ℕ). n ≤ 1) (λ e. omega arith) (λ e. omega arith)

pub constant_cost : (bit : Bool) (output : Name) → table_cost (constant_table bit output) ≡ 0
unfolding table_cost merged_table
constant_cost bit output = refl

unary_table_cost : (at_zero at_one : Bool) (input output : Name) → table_cost (unary_table at_zero at_one input output) ≤ 1
unfolding table_cost merged_table
unary_table_cost at_zero at_one input output = unary_low (unary_word (unary_table at_zero at_one input output).cover)

pub copy_cost : (input output : Name) → table_cost (unary_table false true input output) ≡ 0
unfolding table_cost merged_table cover_value matches
copy_cost input output = refl

binary_table_cost : (op : ℕ) (first second output : Name) → table_cost (binary_table op first second output) ≤ 1
unfolding table_cost merged_table
binary_table_cost op first second output =
    cond_both (is_same first second) _ (binary_table op first second output) (λ (t : Table). cover_cost t.cover t.inputs ≤ 1)
    (λ same. unary_low (unary_word _))
    (λ other. binary_low (binary_word (binary_table op first second output).cover))

-- ---- a gate

-- t has the value of the gate g, reads nodes below `node`, and costs at most one gate
pub record IsGateTable (name : ℕ → Name) (node : ℕ) (output : Name) (g : Gate) (t : Table) : Type 0 where
  pub drives : t.output ≡ output
  pub table : IsSpelledTable t
  pub cost : table_cost t ≤ 1
  pub inputs : (n : Name) → has t.inputs n ≡ true → (p : ℕ) × (1 ≤ p) × (p < node) × (n ≡ name p)
  pub value : (v : Name → Bool) → cover_value t.cover (map v t.inputs) ≡ gate_value (λ p. v (name p)) g

abbrev ReadsAt : ℕ → ℕ → Type 0
ReadsAt node p = (1 ≤ p) × (p < node)

constant_gate : (name : ℕ → Name) (node : ℕ) (output : Name) (g : Gate) (bit : Bool) → IsName output →
    ((bits : ℕ → Bool) → bit ≡ gate_value bits g) → IsGateTable name node output g (constant_table bit output)
constant_gate name node output g bit is value = record {
  drives = refl;
  table = constant_is bit output is;
  cost = omega (arith, constant_cost bit output);
  inputs = λ n read. absurd (has_none n read);
  value = λ v. constant_value bit output ∙ value (λ p. v (name p));
}

unary_gate : (name : ℕ → Name) (node : ℕ) (output : Name) (g : Gate) (at_zero at_one : Bool) (p : ℕ) → ReadsAt node p →
    IsName (name p) → IsName output → ((bits : ℕ → Bool) → (if bits p then at_one else at_zero) ≡ gate_value bits g) →
    IsGateTable name node output g (unary_table at_zero at_one (name p) output)
unary_gate name node output g at_zero at_one p reads is_in is_out value = record {
  drives = refl;
  table = unary_is at_zero at_one (name p) output is_in is_out;
  cost = unary_table_cost at_zero at_one (name p) output;
  inputs = λ n read. (p, reads.0, reads.1, ⊎_elim (λ same. same) (λ none. absurd (has_none n none)) (has_cases (name p) [] n read));
  value = λ v. unary_value at_zero at_one (v (name p)) (name p) output ∙ value (λ q. v (name q));
}

binary_gate : (name : ℕ → Name) (node : ℕ) (output : Name) (op p q : ℕ) → ReadsAt node p → ReadsAt node q →
    IsName (name p) → IsName (name q) → IsName output →
    IsGateTable name node output (record { op = op; a = Node p; b = Node q }) (binary_table op (name p) (name q) output)
binary_gate name node output op p q at_p at_q is_p is_q is_out = record {
  drives = refl;
  table = binary_is op (name p) (name q) output is_p is_q is_out;
  cost = binary_table_cost op (name p) (name q) output;
  inputs = λ n read.
      ⊎_elim
      (λ first. (p, at_p.0, at_p.1, first))
      (λ other. (q, at_q.0, at_q.1, ⊎_elim (λ same. same) (λ none. absurd (has_none n none)) (has_cases (name q) [] n other)))
      (has_cases (name p) (name q ∷ []) n read);
  value = λ v. binary_value op (v (name p)) (v (name q)) (name p) (name q) output;
}

pick_first : (op : ℕ) (x b : Bool) → (if x then apply op true b else apply op false b) ≡ apply op x b
pick_first op false b = refl
pick_first op true b = refl

pick_second : (op : ℕ) (a y : Bool) → (if y then apply op a true else apply op a false) ≡ apply op a y
pick_second op a false = refl
pick_second op a true = refl

pick_both : (op : ℕ) (x : Bool) → (if x then apply op true true else apply op false false) ≡ apply op x x
pick_both op false = refl
pick_both op true = refl

abbrev pub AreNamesBelow : (ℕ → Name) → ℕ → Type 0
AreNamesBelow name node = (p : ℕ) → 1 ≤ p → p < node → IsName (name p)

abbrev gate_with : ℕ → Sig → Sig → Gate
gate_with op a b = record { op = op; a = a; b = b }

node_first : (name : ℕ → Name) (node : ℕ) (output : Name) (op p : ℕ) (b : Sig) → AreNamesBelow name node →
    IsName output → ReadsAt node p → IsSigBelow node b →
    IsGateTable name node output (gate_with op (Node p) b) (with_node name output op p b)
node_first name node output op p Zero names is at_p below =
    unary_gate name node output (gate_with op (Node p) Zero) (apply op false false) (apply op true false) p at_p (names p at_p.0 at_p.1) is (λ bits. pick_first op (bits p) false)
node_first name node output op p One names is at_p below =
    unary_gate name node output (gate_with op (Node p) One) (apply op false true) (apply op true true) p at_p (names p at_p.0 at_p.1) is (λ bits. pick_first op (bits p) true)
node_first name node output op p (Node q) names is at_p below =
    cond_both (p == q) (unary_table (apply op false false) (apply op true true) (name p) output)
    (binary_table op (name p) (name q) output) (IsGateTable name node output (gate_with op (Node p) (Node q)))
    (λ same. unary_gate name node output (gate_with op (Node p) (Node q)) (apply op false false)
    (apply op true true) p at_p (names p at_p.0 at_p.1) is (λ bits. pick_both op (bits p)
    ∙ ap (λ (x : ℕ). apply op (bits p) (bits x)) (eqb-true p q same)))
    (λ other. binary_gate name node output op p q at_p below (names p at_p.0 at_p.1) (names q below.0 below.1) is)

bit_first : (name : ℕ → Name) (node : ℕ) (output : Name) (op : ℕ) (a : Sig) (x : Bool) (b : Sig) →
    ((bits : ℕ → Bool) → sig_value bits a ≡ x) → AreNamesBelow name node → IsName output → IsSigBelow node b →
    IsGateTable name node output (gate_with op a b) (with_bit name output op x b)
bit_first name node output op a x Zero known names is below =
    constant_gate name node output (gate_with op a Zero) (apply op x false) is (λ bits. ap (λ (y : Bool). apply op y false) (sym (known bits)))
bit_first name node output op a x One known names is below =
    constant_gate name node output (gate_with op a One) (apply op x true) is (λ bits. ap (λ (y : Bool). apply op y true) (sym (known bits)))
bit_first name node output op a x (Node q) known names is below =
    unary_gate name node output (gate_with op a (Node q)) (apply op x false) (apply op x true) q below (names q below.0 below.1) is
    (λ bits. pick_second op x (bits q) ∙ ap (λ (y : Bool). apply op y (bits q)) (sym (known bits)))

gate_by : (name : ℕ → Name) (node : ℕ) (output : Name) (op : ℕ) (a b : Sig) → AreNamesBelow name node → IsName output →
    IsSigBelow node a → IsSigBelow node b → IsGateTable name node output (gate_with op a b)
    (table_by name output op a b)
gate_by name node output op Zero b names is below_a below_b = bit_first name node output op Zero false b (λ bits. refl) names is below_b
gate_by name node output op One b names is below_a below_b = bit_first name node output op One true b (λ bits. refl) names is below_b
gate_by name node output op (Node p) b names is below_a below_b = node_first name node output op p b names is below_a below_b

pub gate_is : (name : ℕ → Name) (node : ℕ) (output : Name) (g : Gate) → AreNamesBelow name node → IsName output → IsGateAt node g → IsGateTable name node output g (gate_table name output g)
unfolding gate_table
gate_is name node output g names is at = gate_by name node output g.op g.a g.b names is at.first at.second

-- ---- an output

-- t has the value of the signal s, reads nodes below `node`, and costs nothing
pub record IsOutputTable (name : ℕ → Name) (node : ℕ) (output : Name) (s : Sig) (t : Table) : Type 0 where
  pub drives : t.output ≡ output
  pub table : IsSpelledTable t
  pub cost : table_cost t ≡ 0
  pub inputs : (n : Name) → has t.inputs n ≡ true → (p : ℕ) × (1 ≤ p) × (p < node) × (n ≡ name p)
  pub value : (v : Name → Bool) → cover_value t.cover (map v t.inputs) ≡ sig_value (λ p. v (name p)) s

constant_output : (name : ℕ → Name) (node : ℕ) (output : Name) (s : Sig) (bit : Bool) → IsName output →
    ((bits : ℕ → Bool) → bit ≡ sig_value bits s) → IsOutputTable name node output s (constant_table bit output)
constant_output name node output s bit is value = record {
  drives = refl;
  table = constant_is bit output is;
  cost = constant_cost bit output;
  inputs = λ n read. absurd (has_none n read);
  value = λ v. constant_value bit output ∙ value (λ p. v (name p));
}

pick_copy : (x : Bool) → (if x then true else false) ≡ x
pick_copy false = refl
pick_copy true = refl

pub output_is : (name : ℕ → Name) (node : ℕ) (output : Name) (s : Sig) → AreNamesBelow name node → IsName output → IsSigBelow node s → IsOutputTable name node output s (output_table name output s)
output_is name node output Zero names is below = constant_output name node output Zero false is (λ bits. refl)
output_is name node output One names is below = constant_output name node output One true is (λ bits. refl)
output_is name node output (Node p) names is below = record {
  drives = refl;
  table = unary_is false true (name p) output (names p below.0 below.1) is;
  cost = copy_cost (name p) output;
  inputs = λ n read. (p, below.0, below.1, ⊎_elim (λ same. same) (λ none. absurd (has_none n none)) (has_cases (name p) [] n read));
  value = λ v. unary_value false true (v (name p)) (name p) output ∙ pick_copy (v (name p));
}

-- a constant that a latch reads
pub constant_hold : (v : Name → Bool) (bit : Bool) (output : Name) → v output ≡ cover_value (constant_table bit output).cover (map v []) → v output ≡ bit
constant_hold v bit output holds = holds ∙ constant_value bit output
