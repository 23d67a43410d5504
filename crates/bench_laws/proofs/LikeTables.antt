-- The gate of a table can replace the table.
use Rattle.std.proofs.Common.{◌≡◌, ℕ, ◌+◌, ◌*◌, ◌<◌, ◌≤◌, Bool, true, false, List, [], ◌∷◌, length, map, refl, ap, ◌∙◌, sym, subst, arith, inl, inr, ⊎_elim}
use Rattle.std.specs.Prelude.{not, ◌==◌, ◌||◌, if◌then◌else◌, All}
use Rattle.std.proofs.lemmas.Bool.{cond-true, eqb-true}
use Rattle.std.proofs.lemmas.List.Elements.{All-nil, All-cons, All-head, All-tail}
use Rattle.chain_theory.specs.Operator.{apply}
use Rattle.net_theory.specs.Cover.{Cover, cover_value, matches}
use Rattle.net_theory.specs.Document.{Name, IsName, has, is_same, Table}
use Rattle.net_theory.specs.NameLaws.{has_cases, has_none, has_first, same_itself}
use Rattle.net_theory.specs.WellFormed.{IsTable}
use Rattle.net_theory.specs.Cost.{unary_cover, merged, merged_table, unary_cost, binary_cost, cover_cost, table_cost}
use Rattle.net_theory.specs.Expansion.{unary_word, binary_word, digit_of}
use Rattle.net_theory.specs.BuiltLaws.{binary_word_value}
use Rattle.net_core.specs.declared.joining.Connective.TheVariants.{And, Xor}
use Rattle.net_core.specs.declared.whole.Whole.{Whole}
use Rattle.net_core.specs.Wholes.{joined_cover}
use Rattle.net_core.specs.BodyLaws.{whole_is, whole_width, whole_few}
use Rattle.bench_text.specs.declared.keywords.GateKey.{GateKey}
use Rattle.bench_text.specs.Statements.{gate_table}
use Rattle.bench_core.specs.Gates.{key_by, constant_line, unary_line, binary_key, binary_line, line_by, line_of, line_table}
use Rattle.bench_core.specs.Bench.{is_gate_word}
use Rattle.bench_laws.specs.Spelled.{CanSpell, CanSpellBy}
use Rattle.bench_laws.proofs.Operators.{either}
use Rattle.bench_laws.proofs.AsGates.{DoesLike}

-- ---- gates are tables

gate_is : (key : GateKey) (output : Name) (inputs : List Name) → All IsName inputs → IsName output → 0 < length inputs → length inputs ≤ 2 → IsTable (gate_table key output inputs)
gate_is key output inputs names name some few =
    let whole : Whole = record { connective = key.connective; width = length inputs; on = key.on } in
    record {
      inputs = names;
      output = name;
      width = whole_width whole;
      cover = whole_is whole;
      narrow = omega (arith, few);
      few = omega (arith, few, whole_few whole some);
    }

one_name : (a : Name) → IsName a → All IsName (a ∷ [])
one_name a is = All-cons IsName a [] is (All-nil IsName)

two_names : (a b : Name) → IsName a → IsName b → All IsName (a ∷ b ∷ [])
two_names a b x y = All-cons IsName a (b ∷ []) x (one_name b y)

-- ---- constants

-- XOR of a bit with itself is 0, and XNOR is 1
twice : (bit b : Bool) → cover_value (joined_cover Xor 2 (not bit)) (b ∷ b ∷ []) ≡ bit
unfolding cover_value
twice true true = refl
twice true false = refl
twice false true = refl
twice false false = refl

twice_cost : (bit : Bool) → unary_cost (unary_word (unary_cover bit bit)) ≡ 0
unfolding cover_value matches
twice_cost true = refl
twice_cost false = refl

constant_cost : (a output : Name) (bit : Bool) → table_cost (line_table (constant_line output a bit)) ≡ 0
unfolding table_cost merged_table
constant_cost a output bit =
    let t = line_table (constant_line output a bit) in
    let m : merged t (a ∷ a ∷ []) ≡ record {
      inputs = a ∷ [];
      output = output;
      cover = unary_cover (cover_value t.cover (false ∷ false ∷ [])) (cover_value t.cover (true ∷ true ∷ []));
    } =
    cond-true (is_same a a) _ _ (same_itself a) in
    ap (λ (x : Table). cover_cost x.cover x.inputs) m
    ∙ ap (λ (b : Bool). unary_cost (unary_word (unary_cover b (cover_value t.cover (true ∷ true ∷ []))))) (twice bit false)
    ∙ ap (λ (b : Bool). unary_cost (unary_word (unary_cover bit b))) (twice bit true)
    ∙ twice_cost bit

twice_there : (a n : Name) → has (a ∷ a ∷ []) n ≡ true → n ≡ a
twice_there a n h = ⊎_elim (λ e. e) (λ later. ⊎_elim (λ e. e) (λ none. absurd (has_none n none)) (has_cases a [] n later)) (has_cases a (a ∷ []) n h)

one_there : (a n : Name) → has (a ∷ []) n ≡ true → n ≡ a
one_there a n h = ⊎_elim (λ e. e) (λ none. absurd (has_none n none)) (has_cases a [] n h)

-- ---- tables without inputs

none_cost : (t : Table) → t.inputs ≡ [] → table_cost t ≡ 0
unfolding table_cost merged_table
none_cost t e = subst (λ (ns : List Name). cover_cost (merged t ns).cover (merged t ns).inputs ≡ 0) (sym e) (ap (λ (ns : List Name). cover_cost t.cover ns) e)

like_none : (source : Name) (t : Table) → IsName source → IsTable t → t.inputs ≡ [] → DoesLike source t (line_table (line_by source t []))
like_none source t name is e = record {
  table = gate_is (key_by Xor (not (cover_value t.cover [])) false) t.output (source ∷ source ∷ []) (two_names source source name name) is.output (omega arith) (omega arith);
  output = refl;
  inputs = λ n h. inr (twice_there source n h);
  value = λ v. twice (cover_value t.cover []) (v source) ∙ ap (λ (ns : List Name). cover_value t.cover (map v ns)) (sym e);
  cost = constant_cost source t.output (cover_value t.cover []) ∙ sym (none_cost t e);
}

-- ---- tables of one input

one_cost : (t : Table) (a : Name) → t.inputs ≡ a ∷ [] → table_cost t ≡ unary_cost (2 * digit_of (cover_value t.cover (false ∷ [])) + digit_of (cover_value t.cover (true ∷ [])))
unfolding table_cost merged_table
one_cost t a e = ap (λ (ns : List Name). cover_cost (merged t ns).cover (merged t ns).inputs) e ∙ ap (λ (ns : List Name). cover_cost t.cover ns) e

copy_value : (on b : Bool) → cover_value (joined_cover And 1 on) (b ∷ []) ≡ (if on then b else not b)
unfolding cover_value matches
copy_value true true = refl
copy_value true false = refl
copy_value false true = refl
copy_value false false = refl

by_bits : (c : Cover) (z o b : Bool) → cover_value c (false ∷ []) ≡ z → cover_value c (true ∷ []) ≡ o → cover_value c (b ∷ []) ≡ (if b then o else z)
by_bits c z o true e f = f
by_bits c z o false e f = e

single_cost : (a output : Name) (on : Bool) → table_cost (gate_table (key_by And on true) output (a ∷ [])) ≡ (if on then 0 else 1)
unfolding table_cost merged_table cover_value matches
single_cost a output true = refl
single_cost a output false = refl

-- a table of one input, by its values at 0 and 1
one_by : (source : Name) (t : Table) (a : Name) (z o : Bool) → IsTable t → IsName a → t.inputs ≡ a ∷ [] →
    cover_value t.cover (false ∷ []) ≡ z → cover_value t.cover (true ∷ []) ≡ o →
    DoesLike source t (line_table (unary_line t.output a z o))
one_by source t a z o is name e f g = record {
  table = is_table z o;
  output = output z o;
  inputs = λ n h. inl (subst (λ (ns : List Name). has ns n ≡ true) (sym e) (subst (λ (m : Name). has (a ∷ []) m ≡ true) (sym (there z o n h)) (same_there)));
  value = λ v. values v z o f g ∙ ap (λ (ns : List Name). cover_value t.cover (map v ns)) (sym e);
  cost = costs z o ∙ sym (one_cost t a e ∙ ap (λ (b : Bool).
      unary_cost (2 * digit_of b + digit_of (cover_value t.cover (true ∷ [])))) f
      ∙ ap (λ (b : Bool). unary_cost (2 * digit_of z + digit_of b)) g);
} where
  same_there : has (a ∷ []) a ≡ true
  same_there = has_first a []

  is_table : (z o : Bool) → IsTable (line_table (unary_line t.output a z o))
  is_table false false = gate_is (key_by Xor true false) t.output (a ∷ a ∷ []) (two_names a a name name) is.output (omega arith) (omega arith)
  is_table true true = gate_is (key_by Xor false false) t.output (a ∷ a ∷ []) (two_names a a name name) is.output (omega arith) (omega arith)
  is_table false true = gate_is (key_by And true true) t.output (a ∷ []) (one_name a name) is.output (omega arith) (omega arith)
  is_table true false = gate_is (key_by And false true) t.output (a ∷ []) (one_name a name) is.output (omega arith) (omega arith)

  output : (z o : Bool) → (line_table (unary_line t.output a z o)).output ≡ t.output
  output false false = refl
  output true true = refl
  output false true = refl
  output true false = refl

  there : (z o : Bool) (n : Name) → has (line_table (unary_line t.output a z o)).inputs n ≡ true → n ≡ a
  there false false n h = twice_there a n h
  there true true n h = twice_there a n h
  there false true n h = one_there a n h
  there true false n h = one_there a n h

  if_same : (x b : Bool) → (if b then x else x) ≡ x
  if_same x true = refl
  if_same x false = refl

  if_itself : (b : Bool) → (if b then true else false) ≡ b
  if_itself true = refl
  if_itself false = refl

  if_turned : (b : Bool) → (if b then false else true) ≡ not b
  if_turned true = refl
  if_turned false = refl

  values : (v : Name → Bool) (z o : Bool) → cover_value t.cover (false ∷ []) ≡ z →
      cover_value t.cover (true ∷ []) ≡ o → cover_value (line_table (unary_line t.output a z o)).cover
      (map v (line_table (unary_line t.output a z o)).inputs) ≡ cover_value t.cover (v a ∷ [])
  values v false false e f = twice false (v a) ∙ sym (by_bits t.cover false false (v a) e f ∙ if_same false (v a))
  values v true true e f = twice true (v a) ∙ sym (by_bits t.cover true true (v a) e f ∙ if_same true (v a))
  values v false true e f = copy_value true (v a) ∙ sym (by_bits t.cover false true (v a) e f ∙ if_itself (v a))
  values v true false e f = copy_value false (v a) ∙ sym (by_bits t.cover true false (v a) e f ∙ if_turned (v a))

  costs : (z o : Bool) → table_cost (line_table (unary_line t.output a z o)) ≡ unary_cost (2 * digit_of z + digit_of o)
  costs false false = constant_cost a t.output false
  costs true true = constant_cost a t.output true
  costs false true = single_cost a t.output true
  costs true false = single_cost a t.output false

-- ---- tables of two inputs

abbrev HasWord : ℕ → Type 0
HasWord word = binary_word (joined_cover (binary_key word).connective 2 (binary_key word).on) ≡ word

word_1 : HasWord 1
unfolding binary_key cover_value matches
word_1 = refl

word_6 : HasWord 6
unfolding binary_key cover_value matches
word_6 = refl

word_7 : HasWord 7
unfolding binary_key cover_value matches
word_7 = refl

word_8 : HasWord 8
unfolding binary_key cover_value matches
word_8 = refl

word_9 : HasWord 9
unfolding binary_key cover_value matches
word_9 = refl

word_14 : HasWord 14
unfolding binary_key cover_value matches
word_14 = refl

word_at : (word k : ℕ) → HasWord k → (word == k) ≡ true → HasWord word
word_at word k h f = subst HasWord (sym (eqb-true word k f)) h

-- the truth table of a key
key_word : (word : ℕ) → is_gate_word word ≡ true → HasWord word
unfolding is_gate_word
key_word word e =
    either (HasWord word) (word == 1 || word == 6 || word == 7 || word == 8 || word == 9) (word == 14) e
    (λ e9. either (HasWord word) (word == 1 || word == 6 || word == 7 || word == 8) (word == 9) e9
    (λ e8. either (HasWord word) (word == 1 || word == 6 || word == 7) (word == 8) e8
    (λ e7. either (HasWord word) (word == 1 || word == 6) (word == 7) e7
    (λ e6. either (HasWord word) (word == 1) (word == 6) e6 (word_at word 1 word_1) (word_at word 6 word_6))
    (word_at word 7 word_7))
    (word_at word 8 word_8))
    (word_at word 9 word_9))
    (word_at word 14 word_14)

abbrev cost_of : Table → ℕ
cost_of x = cover_cost x.cover x.inputs

abbrev alone : Table → Name → Table
alone x a = record { inputs = a ∷ []; output = x.output; cover = unary_cover (cover_value x.cover (false ∷ false ∷ [])) (cover_value x.cover (true ∷ true ∷ [])) }

cost_by : (t u : Table) (a b : Name) (s : Bool) → t.inputs ≡ a ∷ b ∷ [] → u.inputs ≡ a ∷ b ∷ [] →
    ((x y : Bool) → cover_value u.cover (x ∷ y ∷ []) ≡ cover_value t.cover (x ∷ y ∷ [])) →
    binary_word u.cover ≡ binary_word t.cover → cost_of (if s then alone u a else u) ≡
    cost_of (if s then alone t a else t)
cost_by t u a b true e f same word = ap (λ (x : Bool).
    unary_cost (unary_word (unary_cover x (cover_value u.cover (true ∷ true ∷ []))))) (same false false)
    ∙ ap (λ (x : Bool). unary_cost (unary_word (unary_cover (cover_value t.cover (false ∷ false ∷ [])) x)))
    (same true true)
cost_by t u a b false e f same word = ap (λ (ns : List Name). cover_cost u.cover ns) f ∙ ap binary_cost word ∙ sym (ap (λ (ns : List Name). cover_cost t.cover ns) e)

two_cost : (t u : Table) (a b : Name) → t.inputs ≡ a ∷ b ∷ [] → u.inputs ≡ a ∷ b ∷ [] →
    ((x y : Bool) → cover_value u.cover (x ∷ y ∷ []) ≡ cover_value t.cover (x ∷ y ∷ [])) →
    binary_word u.cover ≡ binary_word t.cover → table_cost u ≡ table_cost t
unfolding table_cost merged_table
two_cost t u a b e f same word =
    ap (λ (ns : List Name). cost_of (merged u ns)) f
    ∙ cost_by t u a b (is_same a b) e f same word
    ∙ sym (ap (λ (ns : List Name). cost_of (merged t ns)) e)

-- covers with the same truth table have the same values
word_values : (c k : Cover) (x y : Bool) → binary_word c ≡ binary_word k → cover_value c (x ∷ y ∷ []) ≡ cover_value k (x ∷ y ∷ [])
word_values c k x y e = sym (binary_word_value c x y) ∙ ap (λ (w : ℕ). apply w x y) e ∙ binary_word_value k x y

like_two : (source : Name) (t : Table) (a b : Name) → IsTable t → IsName a → IsName b → t.inputs ≡ a ∷ b ∷ [] →
    is_gate_word (binary_word t.cover) ≡ true → DoesLike source t
    (line_table (binary_line t.output a b (binary_word t.cover)))
like_two source t a b is x y e can =
    let word = binary_word t.cover in
    let u = line_table (binary_line t.output a b word) in
    let same : binary_word u.cover ≡ binary_word t.cover = key_word word can in
    record {
      table = gate_is (binary_key word) t.output (a ∷ b ∷ []) (two_names a b x y) is.output (omega arith) (omega arith);
      output = refl;
      inputs = λ n h. inl (subst (λ (ns : List Name). has ns n ≡ true) (sym e) h);
      value = λ v. word_values u.cover t.cover (v a) (v b) same ∙ ap (λ (ns : List Name). cover_value t.cover (map v ns)) (sym e);
      cost = two_cost t u a b e refl (λ p q. word_values u.cover t.cover p q same) same;
    }

-- ---- all tables

like_by : (source : Name) (t : Table) (ns : List Name) → IsName source → IsTable t → t.inputs ≡ ns → CanSpellBy t ns → DoesLike source t (line_table (line_by source t ns))
like_by source t [] name is e can = like_none source t name is e
like_by source t (a ∷ []) name is e can = one_by source t a (cover_value t.cover (false ∷ [])) (cover_value t.cover (true ∷ [])) is (All-head IsName a [] (subst (All IsName) e is.inputs)) e refl refl
like_by source t (a ∷ b ∷ []) name is e can =
    let names = subst (All IsName) e is.inputs in
    like_two source t a b is (All-head IsName a (b ∷ []) names) (All-head IsName b [] (All-tail IsName a (b ∷ []) names)) e can
like_by source t (a ∷ b ∷ c ∷ ns) name is e can = absurd can

pub like_is : (source : Name) (t : Table) → IsName source → IsTable t → CanSpell t → DoesLike source t (line_table (line_of source t))
unfolding line_of
like_is source t name is can = like_by source t t.inputs name is refl can
