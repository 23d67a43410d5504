-- The tables that a writer makes of a circuit over a basis, also where each of them is replaced by another.
use Rattle.std.specs.Prelude.{◌≡◌, ℕ, suc, ◌<◌, Bool, true, false, not, ◌==◌, ◌&&◌, ◌||◌, if◌then◌else◌, refl}
use Rattle.std.specs.Prelude.{List, [], ◌∷◌, ◌++◌, map, slice_get, Some, All}
use Rattle.std.specs.List.{list_any}
use Rattle.std.proofs.Common.{sym, ◌∙◌, ap}
use Rattle.std.proofs.lemmas.List.Elements.{All-nil, All-cons, All-head, All-tail}
use Rattle.chain_theory.specs.Operator.{apply, Basis}
use Rattle.op_basis.specs.Closed.{implies, every, negates_both, negates_one}
use Rattle.op_basis.specs.Laws.{every_each}
use Rattle.net_theory.specs.declared.data.Sig.{Sig}
use Rattle.net_theory.specs.declared.data.Sig.TheVariants.{Zero, One, Node}
use Rattle.net_theory.specs.declared.data.Gate.{Gate}
use Rattle.net_theory.specs.BuiltLaws.{binary_word_value}
use Rattle.net_theory.specs.Circuit.{Circuit}
use Rattle.net_theory.specs.Cost.{unary_cover, merged, merged_table}
use Rattle.net_theory.specs.Cover.{Cover, cover_value, matches}
use Rattle.net_theory.specs.Document.{Name, has, is_same, Table}
use Rattle.net_theory.specs.Expansion.{unary_word, binary_word}
use Rattle.net_theory.specs.Naming.{gate_names, first_spare, node_name}
use Rattle.blif_core.specs.Written.{constant_table, unary_table, binary_table, table_by, gate_table}
use Rattle.blif_core.specs.Written.{gate_tables, table_if, constant_tables, is_zero, is_one, next_states, one_name}
use Rattle.blif_core.specs.Written.{output_table, output_tables, driven_before, written}
use Rattle.net_basis.specs.DocumentOver.{makes_not, has_no_not_at, has_not, is_unary_over, is_binary_over, is_cover_over}
use Rattle.net_basis.specs.DocumentOver.{is_table_over}

or_left : (a b : Bool) → a ≡ true → (a || b) ≡ true
or_left true b e = refl
or_left false b e = absurd cc

or_right : (a b : Bool) → b ≡ true → (a || b) ≡ true
or_right true b e = refl
or_right false b e = e

-- ---- NOT

refuse : (a b : Bool) → implies a (not b) ≡ true → a ≡ true → b ≡ true → ⊥
refuse true true e f g = cc
refuse true false e f g = cc
refuse false b e f g = cc

not_by : (basis : Basis) (op : ℕ) (all : Bool) → every (has_no_not_at basis) ≡ all → op < 16 → basis op ≡ true →
    makes_not op ≡ true → not all ≡ true
unfolding has_no_not_at
not_by basis op true e low member makes =
    absurd (refuse (basis op) (makes_not op) (every_each (has_no_not_at basis) e op low) member makes)
not_by basis op false e low member makes = refl

-- an operator of the basis that makes NOT
pub some_not : (basis : Basis) (op : ℕ) → op < 16 → basis op ≡ true → makes_not op ≡ true → has_not basis ≡ true
some_not basis op low member makes = not_by basis op (every (has_no_not_at basis)) refl low member makes

turned : (z o : Bool) → z ≡ true → o ≡ false → (z && not o) ≡ true
turned true false e f = refl
turned true true e f = absurd cc
turned false o e f = absurd cc

-- by the signal twice
not_both : (op : ℕ) → apply op false false ≡ true → apply op true true ≡ false → makes_not op ≡ true
unfolding negates_both
not_both op z o = or_left (negates_both op) (negates_one op) (turned (apply op false false) (apply op true true) z o)

-- by the signal and a constant
abbrev first_zero : ℕ → Bool
first_zero op = apply op false false && not (apply op false true)

abbrev first_one : ℕ → Bool
first_one op = apply op true false && not (apply op true true)

abbrev second_zero : ℕ → Bool
second_zero op = apply op false false && not (apply op true false)

abbrev second_one : ℕ → Bool
second_one op = apply op false true && not (apply op true true)

not_first_zero : (op : ℕ) → apply op false false ≡ true → apply op false true ≡ false → makes_not op ≡ true
unfolding negates_one
not_first_zero op z o =
    or_right (negates_both op) (negates_one op)
    (or_left (first_zero op || first_one op || second_zero op) (second_one op)
    (or_left (first_zero op || first_one op) (second_zero op)
    (or_left (first_zero op) (first_one op) (turned (apply op false false) (apply op false true) z o))))

not_first_one : (op : ℕ) → apply op true false ≡ true → apply op true true ≡ false → makes_not op ≡ true
unfolding negates_one
not_first_one op z o =
    or_right (negates_both op) (negates_one op)
    (or_left (first_zero op || first_one op || second_zero op) (second_one op)
    (or_left (first_zero op || first_one op) (second_zero op)
    (or_right (first_zero op) (first_one op) (turned (apply op true false) (apply op true true) z o))))

not_second_zero : (op : ℕ) → apply op false false ≡ true → apply op true false ≡ false → makes_not op ≡ true
unfolding negates_one
not_second_zero op z o =
    or_right (negates_both op) (negates_one op)
    (or_left (first_zero op || first_one op || second_zero op) (second_one op)
    (or_right (first_zero op || first_one op) (second_zero op)
    (turned (apply op false false) (apply op true false) z o)))

not_second_one : (op : ℕ) → apply op false true ≡ true → apply op true true ≡ false → makes_not op ≡ true
unfolding negates_one
not_second_one op z o =
    or_right (negates_both op) (negates_one op)
    (or_right (first_zero op || first_one op || second_zero op) (second_one op)
    (turned (apply op false true) (apply op true true) z o))

-- ---- tables of one input

abbrev pub NeedsNot : Basis → Bool → Bool → Type 0
NeedsNot basis z o = z ≡ true → o ≡ false → has_not basis ≡ true

unary_cover_over : (basis : Basis) (z o : Bool) → NeedsNot basis z o →
    is_unary_over basis (unary_word (unary_cover z o)) ≡ true
unfolding is_unary_over cover_value matches
unary_cover_over basis true true needs = refl
unary_cover_over basis true false needs = needs refl refl
unary_cover_over basis false true needs = refl
unary_cover_over basis false false needs = refl

-- ---- tables of two inputs

-- a function of two inputs, of which the names may be the same
abbrev pub merged_by : Bool → Table → Name → Table
merged_by same t a = if same then record {
  inputs = a ∷ [];
  output = t.output;
  cover = unary_cover (cover_value t.cover (false ∷ false ∷ [])) (cover_value t.cover (true ∷ true ∷ []));
} else t

binary_member : (basis : Basis) (word op : ℕ) → word ≡ op → basis op ≡ true → is_binary_over basis word ≡ true
unfolding is_binary_over
binary_member basis word op same member =
    or_right _ (basis word) (ap basis same ∙ member)

value_at : (c : Cover) (op : ℕ) (x y : Bool) → binary_word c ≡ op → cover_value c (x ∷ y ∷ []) ≡ apply op x y
value_at c op x y same = sym (binary_word_value c x y) ∙ ap (λ (w : ℕ). apply w x y) same

merged_over : (basis : Basis) (same : Bool) (t : Table) (a b : Name) (op : ℕ) → t.inputs ≡ a ∷ b ∷ [] → op < 16 →
    basis op ≡ true → binary_word t.cover ≡ op →
    is_cover_over basis (merged_by same t a).cover (merged_by same t a).inputs ≡ true
unfolding is_cover_over
merged_over basis true t a b op inputs low member word =
    unary_cover_over basis (cover_value t.cover (false ∷ false ∷ [])) (cover_value t.cover (true ∷ true ∷ []))
    (λ z o. some_not basis op low member
    (not_both op (sym (value_at t.cover op false false word) ∙ z) (sym (value_at t.cover op true true word) ∙ o)))
merged_over basis false t a b op inputs low member word =
    ap (is_cover_over basis t.cover) inputs ∙ binary_member basis (binary_word t.cover) op word member

-- a table whose truth table is an operator of the basis
pub pair_over : (basis : Basis) (t : Table) (a b : Name) (op : ℕ) → t.inputs ≡ a ∷ b ∷ [] → op < 16 → basis op ≡ true →
    binary_word t.cover ≡ op → is_table_over basis t ≡ true
unfolding merged_table
pair_over basis t a b op inputs low member word =
    ap (λ (ns : List Name). is_cover_over basis (merged t ns).cover (merged t ns).inputs) inputs
    ∙ merged_over basis (is_same a b) t a b op inputs low member word

-- ---- the writer's tables, changed by f

-- f keeps the tables of the writer over the basis
pub record KeepsOver (basis : Basis) (operators : ℕ → Bool) (f : Table → Table) : Type 0 where
  pub constant : (bit : Bool) (output : Name) → is_table_over basis (f (constant_table bit output)) ≡ true
  pub unary : (z o : Bool) (input output : Name) → NeedsNot basis z o →
      is_table_over basis (f (unary_table z o input output)) ≡ true
  pub binary : (op : ℕ) (a b output : Name) → op < 16 → basis op ≡ true → operators op ≡ true →
      is_table_over basis (f (binary_table op a b output)) ≡ true

-- the gate has an operator of the basis and of the format
pub record FitsGate (basis : Basis) (operators : ℕ → Bool) (op : ℕ) : Type 0 where
  pub low : op < 16
  pub member : basis op ≡ true
  pub word : operators op ≡ true

nodes_over : (basis : Basis) (operators : ℕ → Bool) (f : Table → Table) (name : ℕ → Name) (output : Name) (op p q : ℕ)
    (same : Bool) → KeepsOver basis operators f → FitsGate basis operators op →
    is_table_over basis (f (if same then unary_table (apply op false false) (apply op true true) (name p) output
    else binary_table op (name p) (name q) output)) ≡ true
nodes_over basis operators f name output op p q true keeps fits =
    keeps.unary (apply op false false) (apply op true true) (name p) output
    (λ z o. some_not basis op fits.low fits.member (not_both op z o))
nodes_over basis operators f name output op p q false keeps fits =
    keeps.binary op (name p) (name q) output fits.low fits.member fits.word

table_over : (basis : Basis) (operators : ℕ → Bool) (f : Table → Table) (name : ℕ → Name) (output : Name) (op : ℕ)
    (a b : Sig) → KeepsOver basis operators f → FitsGate basis operators op →
    is_table_over basis (f (table_by name output op a b)) ≡ true
table_over basis operators f name output op (Node p) (Node q) keeps fits =
    nodes_over basis operators f name output op p q (p == q) keeps fits
table_over basis operators f name output op (Node p) Zero keeps fits =
    keeps.unary (apply op false false) (apply op true false) (name p) output
    (λ z o. some_not basis op fits.low fits.member (not_second_zero op z o))
table_over basis operators f name output op (Node p) One keeps fits =
    keeps.unary (apply op false true) (apply op true true) (name p) output
    (λ z o. some_not basis op fits.low fits.member (not_second_one op z o))
table_over basis operators f name output op Zero (Node q) keeps fits =
    keeps.unary (apply op false false) (apply op false true) (name q) output
    (λ z o. some_not basis op fits.low fits.member (not_first_zero op z o))
table_over basis operators f name output op One (Node q) keeps fits =
    keeps.unary (apply op true false) (apply op true true) (name q) output
    (λ z o. some_not basis op fits.low fits.member (not_first_one op z o))
table_over basis operators f name output op Zero Zero keeps fits = keeps.constant (apply op false false) output
table_over basis operators f name output op Zero One keeps fits = keeps.constant (apply op false true) output
table_over basis operators f name output op One Zero keeps fits = keeps.constant (apply op true false) output
table_over basis operators f name output op One One keeps fits = keeps.constant (apply op true true) output

-- ---- all tables

abbrev pub AreOver : Basis → List Table → Type 0
AreOver basis ts = All (λ (t : Table). is_table_over basis t ≡ true) ts

none_over : (basis : Basis) → AreOver basis []
none_over basis = All-nil (λ (t : Table). is_table_over basis t ≡ true)

more_over : (basis : Basis) (t : Table) (ts : List Table) → is_table_over basis t ≡ true → AreOver basis ts →
    AreOver basis (t ∷ ts)
more_over basis t ts is are = All-cons (λ (u : Table). is_table_over basis u ≡ true) t ts is are

both_over : (basis : Basis) (f : Table → Table) (ts us : List Table) → AreOver basis (map f ts) →
    AreOver basis (map f us) → AreOver basis (map f (ts ++ us))
both_over basis f [] us first second = second
both_over basis f (t ∷ ts) us first second =
    more_over basis (f t) (map f (ts ++ us))
    (All-head (λ (u : Table). is_table_over basis u ≡ true) (f t) (map f ts) first)
    (both_over basis f ts us (All-tail (λ (u : Table). is_table_over basis u ≡ true) (f t) (map f ts) first) second)

gates_over : (basis : Basis) (operators : ℕ → Bool) (f : Table → Table) (name : ℕ → Name) (gs : List Gate)
    (ns : List Name) → KeepsOver basis operators f →
    ((i : ℕ) (g : Gate) → slice_get gs i ≡ Some g → FitsGate basis operators g.op) →
    AreOver basis (map f (gate_tables name gs ns))
unfolding gate_tables gate_table
gates_over basis operators f name [] ns keeps fits = none_over basis
gates_over basis operators f name (g ∷ gs) [] keeps fits = none_over basis
gates_over basis operators f name (g ∷ gs) (n ∷ ns) keeps fits =
    more_over basis (f (gate_table name n g)) (map f (gate_tables name gs ns))
    (table_over basis operators f name n g.op g.a g.b keeps (fits 0 g refl))
    (gates_over basis operators f name gs ns keeps (λ i h at. fits (suc i) h at))

constant_over : (basis : Basis) (operators : ℕ → Bool) (f : Table → Table) (there bit : Bool) (output : Name) →
    KeepsOver basis operators f → AreOver basis (map f (table_if there (constant_table bit output)))
constant_over basis operators f true bit output keeps =
    more_over basis (f (constant_table bit output)) [] (keeps.constant bit output) (none_over basis)
constant_over basis operators f false bit output keeps = none_over basis

no_not_needed : (basis : Basis) → NeedsNot basis false true
no_not_needed basis = λ z o. absurd cc

output_over : (basis : Basis) (operators : ℕ → Bool) (f : Table → Table) (name : ℕ → Name) (output : Name) (s : Sig) →
    KeepsOver basis operators f → is_table_over basis (f (output_table name output s)) ≡ true
output_over basis operators f name output Zero keeps = keeps.constant false output
output_over basis operators f name output One keeps = keeps.constant true output
output_over basis operators f name output (Node p) keeps =
    keeps.unary false true (name p) output (no_not_needed basis)

unless_there : (basis : Basis) (f : Table → Table) (there : Bool) (t : Table) (us ts : List Table) →
    AreOver basis (map f us) → is_table_over basis (f t) ≡ true → AreOver basis (map f ts) →
    AreOver basis (map f (if there then us else t ∷ ts))
unless_there basis f true t us ts first is second = first
unless_there basis f false t us ts first is second = more_over basis (f t) (map f ts) is second

outputs_over : (basis : Basis) (operators : ℕ → Bool) (f : Table → Table) (name : ℕ → Name) (before os : List Name)
    (ss : List Sig) → KeepsOver basis operators f → AreOver basis (map f (output_tables name before os ss))
unfolding output_tables
outputs_over basis operators f name before [] ss keeps = none_over basis
outputs_over basis operators f name before (o ∷ os) [] keeps = none_over basis
outputs_over basis operators f name before (o ∷ os) (s ∷ ss) keeps =
    unless_there basis f (has before o) (output_table name o s) (output_tables name before os ss)
    (output_tables name (before ++ o ∷ []) os ss)
    (outputs_over basis operators f name before os ss keeps)
    (output_over basis operators f name o s keeps)
    (outputs_over basis operators f name (before ++ o ∷ []) os ss keeps)

pub tables_over : (basis : Basis) (operators : ℕ → Bool) (f : Table → Table) (c : Circuit) → KeepsOver basis operators f →
    ((i : ℕ) (g : Gate) → slice_get c.net.gates i ≡ Some g → FitsGate basis operators g.op) →
    AreOver basis (map f (written c).tables)
unfolding written constant_tables
tables_over basis operators f c keeps fits =
    both_over basis f (gate_tables (node_name c) c.net.gates (gate_names c) ++ constant_tables c)
    (output_tables (node_name c) (driven_before c) c.outputs c.net.sinks)
    (both_over basis f (gate_tables (node_name c) c.net.gates (gate_names c)) (constant_tables c)
    (gates_over basis operators f (node_name c) c.net.gates (gate_names c) keeps fits)
    (both_over basis f (table_if (list_any is_zero (next_states c)) (constant_table false (first_spare c)))
    (table_if (list_any is_one (next_states c)) (constant_table true (one_name c)))
    (constant_over basis operators f (list_any is_zero (next_states c)) false (first_spare c) keeps)
    (constant_over basis operators f (list_any is_one (next_states c)) true (one_name c) keeps)))
    (outputs_over basis operators f (node_name c) (driven_before c) c.outputs c.net.sinks keeps)
