-- Lists of clauses that are all true, and what the clauses of a gate and of a sink mean for values.
use Rattle.std.proofs.Common.{◌≡◌, ◌≢◌, ◌⊎◌, ℕ, Bool, true, false, not, ◌&&◌, ◌||◌, if◌then◌else◌, List, [], ◌∷◌, ◌++◌, Contains, refl, sym, ap, ◌∙◌, inl, inr, ⊎_elim}
use Rattle.std.specs.List.{list_all, flat_map}
use Rattle.std.proofs.lemmas.Bool.{and_from, and_parts, or_left, or_right}
use Rattle.std.proofs.lemmas.List.Folds.{list_all-append}
use Rattle.sat_theory.specs.Formula.{Assignment}
use Rattle.clause_core.specs.declared.raw.RawLit.{RawLit}
use Rattle.clause_core.specs.declared.raw.RawLit.TheVariants.{Var}
use Rattle.clause_core.specs.Clauses.{written}
use Rattle.clause_core.specs.Holds.{holds, holds-append, holds-written, same, raw_value, raws_bit, ArePositive, contains_head, contains_tail}
use Rattle.chain_theory.specs.Operator.{apply}
use Rattle.net_theory.specs.declared.data.Sig.{Sig}
use Rattle.net_theory.specs.declared.data.Sig.TheVariants.{Zero, One, Node}
use Rattle.net_theory.specs.declared.data.Gate.{Gate}
use Rattle.net_theory.specs.Net.{sig_value, gate_value}
use Rattle.equiv_theory.specs.Miter.{signal_is, gate_row, gate_rows, sink_row, sink_rows}

-- ---- listed clauses

-- all listed clauses are true
unfoldable pub are_true : Assignment → List (List RawLit) → Bool
are_true v rows = list_all (raws_bit v) rows

-- the written clauses are true exactly if the listed ones are
pub written_true : (v : Assignment) (rows : List (List RawLit)) → ((row : List RawLit) → Contains rows row → ArePositive row) → holds v (flat_map written rows) ≡ are_true v rows
unfolding are_true holds
written_true v [] positive = refl
written_true v (row ∷ rows) positive =
    holds-append v (written row) (flat_map written rows)
    ∙ ap (λ (b : Bool). b && holds v (flat_map written rows)) (holds-written v row (positive row (contains_head row rows)))
    ∙ ap (λ (b : Bool). raws_bit v row && b) (written_true v rows (λ r c. positive r (contains_tail row r rows c)))

pub true_both : (v : Assignment) (xs ys : List (List RawLit)) → are_true v (xs ++ ys) ≡ true → (are_true v xs ≡ true) × (are_true v ys ≡ true)
unfolding are_true
true_both v xs ys all = and_parts (list_all (raws_bit v) xs) (list_all (raws_bit v) ys) (sym (list_all-append (raws_bit v) xs ys) ∙ all)

pub both_true : (v : Assignment) (xs ys : List (List RawLit)) → are_true v xs ≡ true → are_true v ys ≡ true → are_true v (xs ++ ys) ≡ true
unfolding are_true
both_true v xs ys one two = list_all-append (raws_bit v) xs ys ∙ and_from (list_all (raws_bit v) xs) (list_all (raws_bit v) ys) one two

pub none_true : (v : Assignment) → are_true v [] ≡ true
unfolding are_true
none_true v = refl

pub true_first : (v : Assignment) (row : List RawLit) (rows : List (List RawLit)) → are_true v (row ∷ rows) ≡ true → (raws_bit v row ≡ true) × (are_true v rows ≡ true)
unfolding are_true
true_first v row rows all = and_parts (raws_bit v row) (list_all (raws_bit v) rows) all

pub first_true : (v : Assignment) (row : List RawLit) (rows : List (List RawLit)) → raws_bit v row ≡ true → are_true v rows ≡ true → are_true v (row ∷ rows) ≡ true
unfolding are_true
first_true v row rows one two = and_from (raws_bit v row) (list_all (raws_bit v) rows) one two

-- ---- bits

same_opposite : (a : Bool) → same a (not a) ≡ false
unfolding same
same_opposite true = refl
same_opposite false = refl

same_self : (a : Bool) → same a a ≡ true
unfolding same
same_self true = refl
same_self false = refl

same_is : (x y : Bool) → (same x y || false) ≡ true → x ≡ y
unfolding same
same_is true true e = refl
same_is true false e = absurd cc
same_is false true e = absurd cc
same_is false false e = refl

same_or_opposite : (a b : Bool) → (a ≡ b) ⊎ (same a (not b) ≡ true)
unfolding same
same_or_opposite true true = inl refl
same_or_opposite true false = inr refl
same_or_opposite false true = inr refl
same_or_opposite false false = inl refl

-- the values of nodes in an assignment, through the variables of the nodes
abbrev pub seen_by : Assignment → (ℕ → ℕ) → ℕ → Bool
seen_by v var node = v (var node)

signal_bit : (v : Assignment) (var : ℕ → ℕ) (s : Sig) (bit : Bool) → raw_value v (signal_is var s bit) ≡ same (sig_value (seen_by v var) s) bit
unfolding raw_value same
signal_bit v var Zero true = refl
signal_bit v var Zero false = refl
signal_bit v var One true = refl
signal_bit v var One false = refl
signal_bit v var (Node p) bit = refl

variable_bit : (v : Assignment) (x : ℕ) (bit : Bool) → raw_value v (Var x bit) ≡ same (v x) bit
unfolding raw_value
variable_bit v x bit = refl

-- ---- the clauses of a gate

abbrev row_bit : ℕ → Bool → Bool → Bool → Bool → Bool → Bool
row_bit op x y value a b = same x (not a) || (same y (not b) || (same value (apply op a b) || false))

gate_row_bit : (v : Assignment) (var : ℕ → ℕ) (node : ℕ) (g : Gate) (a b : Bool) →
    raws_bit v (gate_row var node g a b) ≡ row_bit g.op (sig_value (seen_by v var) g.a) (sig_value (seen_by v var) g.b)
    (v (var node)) a b
unfolding raws_bit gate_row
gate_row_bit v var node g a b = rw (signal_bit v var g.a (not a), signal_bit v var g.b (not b), variable_bit v (var node) (apply g.op a b)) refl

row_gives : (op : ℕ) (x y value : Bool) → row_bit op x y value x y ≡ true → value ≡ apply op x y
row_gives op x y value e =
    same_is value (apply op x y) (sym (ap (λ (t : Bool). t || (same y (not y) || (same value (apply op x y) || false)))
    (same_opposite x) ∙ ap (λ (t : Bool). t || (same value (apply op x y) || false)) (same_opposite y)) ∙ e)

row_made : (op : ℕ) (x y value a b : Bool) → value ≡ apply op x y → row_bit op x y value a b ≡ true
row_made op x y value a b is =
    ⊎_elim
    (λ (p : x ≡ a). ⊎_elim
    (λ (q : y ≡ b). or_right (same x (not a)) _ (or_right (same y (not b)) _
    (or_left (same value (apply op a b)) false (ap (λ (t : Bool). same t (apply op a b)) (is
    ∙ ap (λ (t : Bool). apply op t y) p ∙ ap (λ (t : Bool). apply op a t) q) ∙ same_self (apply op a b)))))
    (λ (q : same y (not b) ≡ true). or_right (same x (not a)) _ (or_left (same y (not b)) _ q))
    (same_or_opposite y b))
    (λ (p : same x (not a) ≡ true). or_left (same x (not a)) _ p)
    (same_or_opposite x a)

-- all four clauses of a gate
four_rows : (v : Assignment) (var : ℕ → ℕ) (node : ℕ) (g : Gate) → are_true v (gate_rows var node g) ≡ true → (a b : Bool) → raws_bit v (gate_row var node g a b) ≡ true
four_rows v var node g all a b =
    let one = true_first v (gate_row var node g false false) (gate_row var node g false true ∷ gate_row var node g true false ∷ gate_row var node g true true ∷ []) all in
    let two = true_first v (gate_row var node g false true) (gate_row var node g true false ∷ gate_row var node g true true ∷ []) one.1 in
    let three = true_first v (gate_row var node g true false) (gate_row var node g true true ∷ []) two.1 in
    let four = true_first v (gate_row var node g true true) [] three.1 in
    choose a b one.0 two.0 three.0 four.0 where
      choose : (a b : Bool) → raws_bit v (gate_row var node g false false) ≡ true →
          raws_bit v (gate_row var node g false true) ≡ true → raws_bit v (gate_row var node g true false) ≡ true →
          raws_bit v (gate_row var node g true true) ≡ true → raws_bit v (gate_row var node g a b) ≡ true
      choose false false p q r s = p
      choose false true p q r s = q
      choose true false p q r s = r
      choose true true p q r s = s

-- The clauses of a gate are true exactly if its variable has its operator's value.
pub gate_true : (v : Assignment) (var : ℕ → ℕ) (node : ℕ) (g : Gate) → are_true v (gate_rows var node g) ≡ true → v (var node) ≡ gate_value (seen_by v var) g
gate_true v var node g all =
    let x : Bool = sig_value (seen_by v var) g.a in
    let y : Bool = sig_value (seen_by v var) g.b in
    row_gives g.op x y (v (var node)) (sym (gate_row_bit v var node g x y) ∙ four_rows v var node g all x y)

pub gate_made : (v : Assignment) (var : ℕ → ℕ) (node : ℕ) (g : Gate) → v (var node) ≡ gate_value (seen_by v var) g → are_true v (gate_rows var node g) ≡ true
gate_made v var node g is =
    first_true v (gate_row var node g false false) (gate_row var node g false true ∷ gate_row var node g true false ∷ gate_row var node g true true ∷ []) (row false false)
    (first_true v (gate_row var node g false true) (gate_row var node g true false ∷ gate_row var node g true true ∷ []) (row false true)
    (first_true v (gate_row var node g true false) (gate_row var node g true true ∷ []) (row true false)
    (first_true v (gate_row var node g true true) [] (row true true) (none_true v)))) where
      row : (a b : Bool) → raws_bit v (gate_row var node g a b) ≡ true
      row a b = gate_row_bit v var node g a b ∙ row_made g.op (sig_value (seen_by v var) g.a) (sig_value (seen_by v var) g.b) (v (var node)) a b is

-- ---- the clauses of a sink

abbrev pair_bit : Bool → Bool → Bool → Bool → Bool
pair_bit d x y bit = same d false || (same x bit || (same y bit || false))

sink_row_bit : (v : Assignment) (var other : ℕ → ℕ) (d : ℕ) (u w : Sig) (bit : Bool) →
    raws_bit v (sink_row var other d u w bit) ≡ pair_bit (v d) (sig_value (seen_by v var) u)
    (sig_value (seen_by v other) w) bit
unfolding raws_bit sink_row
sink_row_bit v var other d u w bit = rw (variable_bit v d false, signal_bit v var u bit, signal_bit v other w bit) refl

pair_gives : (d x y : Bool) → d ≡ true → pair_bit d x y false ≡ true → pair_bit d x y true ≡ true → x ≢ y
unfolding same
pair_gives true true true is p q = absurd cc
pair_gives true true false is p q = λ e. absurd cc
pair_gives true false true is p q = λ e. absurd cc
pair_gives true false false is p q = absurd cc
pair_gives false x y is p q = absurd cc

-- whether two bits differ
abbrev pub is_other : Bool → Bool → Bool
is_other x y = if x then not y else y

pair_made : (d x y bit : Bool) → d ≡ is_other x y → pair_bit d x y bit ≡ true
unfolding same
pair_made true true true bit is = absurd cc
pair_made true true false true is = refl
pair_made true true false false is = refl
pair_made true false true true is = refl
pair_made true false true false is = refl
pair_made true false false bit is = absurd cc
pair_made false x y bit is = refl

-- If the clauses and the variable of a sink are true, the two signals differ; and the clauses are true if the
-- variable is true exactly when they differ.
pub sink_true : (v : Assignment) (var other : ℕ → ℕ) (d : ℕ) (u w : Sig) → are_true v (sink_rows var other d u w) ≡ true → v d ≡ true → sig_value (seen_by v var) u ≢ sig_value (seen_by v other) w
sink_true v var other d u w all is =
    let one = true_first v (sink_row var other d u w false) (sink_row var other d u w true ∷ []) all in
    let two = true_first v (sink_row var other d u w true) [] one.1 in
    pair_gives (v d) (sig_value (seen_by v var) u) (sig_value (seen_by v other) w) is (sym (sink_row_bit v var other d u w false) ∙ one.0) (sym (sink_row_bit v var other d u w true) ∙ two.0)

pub sink_made : (v : Assignment) (var other : ℕ → ℕ) (d : ℕ) (u w : Sig) → v d ≡ is_other (sig_value (seen_by v var) u) (sig_value (seen_by v other) w) → are_true v (sink_rows var other d u w) ≡ true
sink_made v var other d u w is =
    first_true v (sink_row var other d u w false) (sink_row var other d u w true ∷ []) (row false) (first_true v (sink_row var other d u w true) [] (row true) (none_true v)) where
      row : (bit : Bool) → raws_bit v (sink_row var other d u w bit) ≡ true
      row bit = sink_row_bit v var other d u w bit ∙ pair_made (v d) (sig_value (seen_by v var) u) (sig_value (seen_by v other) w) bit is
