-- The net of a document over a basis has no gate that the basis can't express, nor has it without its dangling gates.
use Rattle.std.specs.Prelude.{◌≡◌, ℕ, ◌+◌, ◌<◌, ◌⊎◌, Bool, true, false, not, ◌==◌, ◌&&◌, ◌||◌, if◌then◌else◌, refl}
use Rattle.std.specs.Prelude.{List, [], ◌∷◌, map, slice_get, Option, Some, None, All}
use Rattle.std.specs.Option.{option_map}
use Rattle.std.proofs.Common.{arith, sym, ◌∙◌, ◌≢◌, ap, subst, inl, inr}
use Rattle.std.proofs.lemmas.Bool.{cond_both, eqb-true, eq-eqb}
use Rattle.std.proofs.lemmas.List.Elements.{All-nil, All-head, All-tail, All-push}
use Rattle.chain_theory.specs.Operator.{apply, Basis}
use Rattle.op_basis.specs.Closed.{implies, every, of_values, negates_both, negates_one}
use Rattle.op_basis.specs.Laws.{each_every}
use Rattle.net_theory.specs.declared.data.Sig.{Sig}
use Rattle.net_theory.specs.declared.data.Sig.TheVariants.{Zero, One, Node}
use Rattle.net_theory.specs.declared.data.Gate.{Gate}
use Rattle.net_theory.specs.BuiltLaws.{unary_word_low}
use Rattle.net_theory.specs.Cost.{merged_table}
use Rattle.net_theory.specs.Cover.{Cover}
use Rattle.net_theory.specs.Dangling.{cleanup}
use Rattle.net_theory.specs.Document.{Name, Table, Document}
use Rattle.net_theory.specs.Expansion.{Built, gate_of, unary_word, binary_word, with_not, unary_built, binary_built, expanded}
use Rattle.net_theory.specs.Moving.{Kept, moved, moved_gate, with_kept, kept_after, nothing_kept}
use Rattle.net_theory.specs.NameLaws.{all_at}
use Rattle.net_theory.specs.Net.{Net, IsNet}
use Rattle.net_theory.specs.NetOf.{Growth, signal_of, with_table, with_table_at, with_tables, sources_only, source_count}
use Rattle.net_theory.specs.NetOf.{net_in_order, graph_of, net_of}
use Rattle.net_theory.specs.Reach.{live}
use Rattle.graph_core.specs.Visit.{order_of}
use Rattle.net_basis.specs.DocumentOver.{makes_not, has_no_not_at, has_not, is_unary_over, is_binary_over, is_cover_over}
use Rattle.net_basis.specs.DocumentOver.{is_table_over, IsDocumentOver}
use Rattle.net_basis.specs.InexpressibleLaws.{closed_joined}
use Rattle.net_basis.specs.Joins.{joined, is_closed}
use Rattle.net_basis.specs.LocalWord.{first_word, second_word, local_word}
use Rattle.net_basis.specs.OverBasis.{IsInexpressible, IsInexpressibleAt}
use Rattle.basis_laws.specs.TablesOver.{some_not}

-- ---- gates

-- NOT as it is read, which the basis has
pub record IsNotOver (basis : Basis) (g : Gate) : Type 0 where
  pub operator : g.op ≡ 14
  pub twice : g.a ≡ g.b
  pub has : has_not basis ≡ true

-- The gate has an operator of the basis, or is NOT.
abbrev pub IsGateOver : Basis → Gate → Type 0
IsGateOver basis g = (basis g.op ≡ true) ⊎ IsNotOver basis g

abbrev AreGatesOver : Basis → List Gate → Type 0
AreGatesOver basis gates = All (IsGateOver basis) gates

abbrev HasGatesOver : Basis → Built → Type 0
HasGatesOver basis b = AreGatesOver basis b.gates

-- ---- the gates of tables

not_gates : (basis : Basis) (sources : ℕ) (gates : List Gate) (a : Sig) → has_not basis ≡ true →
    AreGatesOver basis gates → HasGatesOver basis (with_not sources gates a)
not_gates basis sources gates a has all =
    All-push (IsGateOver basis) gates (gate_of 14 a a) all (inr (record { operator = refl; twice = refl; has = has }))

differ : {A : Type 0} (b : Bool) → b ≡ true → b ≡ false → A
differ b on off = absurd cc

other : (a b : ℕ) → (a == b) ≡ false → a ≢ b
other a b e = λ same. differ (a == b) (eq-eqb a b same) e

unary_not : (basis : Basis) (word : ℕ) → is_unary_over basis word ≡ true → word ≡ 2 → has_not basis ≡ true
unfolding is_unary_over
unary_not basis word over is = subst (λ (w : ℕ). implies (w == 2) (has_not basis) ≡ true) is over

unary_gates : (basis : Basis) (sources : ℕ) (gates : List Gate) (word : ℕ) (a : Sig) → word < 4 →
    is_unary_over basis word ≡ true → AreGatesOver basis gates → HasGatesOver basis (unary_built sources gates word a)
unfolding unary_built
unary_gates basis sources gates word a low over all =
    cond_both (word == 0) _ _ (HasGatesOver basis) (λ e. all)
    (λ e. cond_both (word == 3) _ _ (HasGatesOver basis) (λ f. all)
    (λ f. cond_both (word == 1) _ _ (HasGatesOver basis) (λ g. all)
    (λ g. not_gates basis sources gates a
    (unary_not basis word over (omega (arith, low, other word 0 e, other word 3 f, other word 1 g))) all)))

not_or : (basis : Basis) (op : ℕ) → op < 16 → makes_not op ≡ true → (has_not basis || basis op) ≡ true →
    has_not basis ≡ true
not_or basis op low makes either = by_case (has_not basis) refl either
  where
    by_case : (has : Bool) → has_not basis ≡ has → (has || basis op) ≡ true → has_not basis ≡ true
    by_case true is e = is
    by_case false is e = some_not basis op low e makes

first_not : makes_not 12 ≡ true
unfolding negates_both
first_not = refl

second_not : makes_not 10 ≡ true
unfolding negates_both
second_not = refl

binary_first : (basis : Basis) (word : ℕ) → is_binary_over basis word ≡ true → word ≡ 12 → has_not basis ≡ true
unfolding is_binary_over
binary_first basis word over is =
    not_or basis 12 (omega arith) first_not (subst (λ (w : ℕ). is_binary_over basis w ≡ true) is over)

binary_second : (basis : Basis) (word : ℕ) → is_binary_over basis word ≡ true → word ≡ 10 → has_not basis ≡ true
unfolding is_binary_over
binary_second basis word over is =
    not_or basis 10 (omega arith) second_not (subst (λ (w : ℕ). is_binary_over basis w ≡ true) is over)

plain : (z o a b n m h w : Bool) → ((z || o || a || b) || ((n || m) && h) || w) ≡ true → z ≡ false → o ≡ false →
    a ≡ false → b ≡ false → n ≡ false → m ≡ false → w ≡ true
plain false false false false false false h w e fz fo fa fb fn fm = e
plain true o a b n m h w e fz fo fa fb fn fm = absurd cc
plain false true a b n m h w e fz fo fa fb fn fm = absurd cc
plain false false true b n m h w e fz fo fa fb fn fm = absurd cc
plain false false false true n m h w e fz fo fa fb fn fm = absurd cc
plain false false false false true m h w e fz fo fa fb fn fm = absurd cc
plain false false false false false true h w e fz fo fa fb fn fm = absurd cc

binary_plain : (basis : Basis) (word : ℕ) → is_binary_over basis word ≡ true → (word == 0) ≡ false →
    (word == 15) ≡ false → (word == 3) ≡ false → (word == 5) ≡ false → (word == 12) ≡ false → (word == 10) ≡ false →
    basis word ≡ true
unfolding is_binary_over
binary_plain basis word over z o a b n m =
    plain (word == 0) (word == 15) (word == 3) (word == 5) (word == 12) (word == 10) (has_not basis) (basis word)
    over z o a b n m

binary_gates : (basis : Basis) (sources : ℕ) (gates : List Gate) (word : ℕ) (a b : Sig) →
    is_binary_over basis word ≡ true → AreGatesOver basis gates →
    HasGatesOver basis (binary_built sources gates word a b)
unfolding binary_built
binary_gates basis sources gates word a b over all =
    cond_both (word == 0) _ _ (HasGatesOver basis) (λ e. all)
    (λ z. cond_both (word == 15) _ _ (HasGatesOver basis) (λ e. all)
    (λ o. cond_both (word == 3) _ _ (HasGatesOver basis) (λ e. all)
    (λ f. cond_both (word == 5) _ _ (HasGatesOver basis) (λ e. all)
    (λ s. cond_both (word == 12) _ _ (HasGatesOver basis)
    (λ e. not_gates basis sources gates a (binary_first basis word over (eqb-true word 12 e)) all)
    (λ n. cond_both (word == 10) _ _ (HasGatesOver basis)
    (λ e. not_gates basis sources gates b (binary_second basis word over (eqb-true word 10 e)) all)
    (λ m. All-push (IsGateOver basis) gates (gate_of word a b) all (inl (binary_plain basis word over z o f s n m))))))))

expanded_gates : (basis : Basis) (sources : ℕ) (gates : List Gate) (c : Cover) (ns : List Name) (f : Name → Sig) →
    is_cover_over basis c ns ≡ true → AreGatesOver basis gates →
    HasGatesOver basis (expanded sources gates c (map f ns))
unfolding is_cover_over
expanded_gates basis sources gates c [] f over all = all
expanded_gates basis sources gates c (a ∷ []) f over all =
    unary_gates basis sources gates (unary_word c) (f a) (unary_word_low c) over all
expanded_gates basis sources gates c (a ∷ b ∷ []) f over all =
    binary_gates basis sources gates (binary_word c) (f a) (f b) over all
expanded_gates basis sources gates c (a ∷ b ∷ d ∷ ns) f over all = absurd cc

-- ---- the net of a document

abbrev IsTableOver : Basis → Table → Type 0
IsTableOver basis t = is_table_over basis t ≡ true

with_gates : (basis : Basis) (sources : ℕ) (g : Growth) (t : Table) → IsTableOver basis t →
    AreGatesOver basis g.gates → AreGatesOver basis (with_table sources g t).gates
unfolding with_table
with_gates basis sources g t over all =
    expanded_gates basis sources g.gates (merged_table t).cover (merged_table t).inputs (signal_of g.signals) over all

at_gates : (basis : Basis) (sources : ℕ) (g : Growth) (r : Option Table) →
    ((t : Table) → r ≡ Some t → IsTableOver basis t) → AreGatesOver basis g.gates →
    AreGatesOver basis (with_table_at sources g r).gates
at_gates basis sources g None each all = all
at_gates basis sources g (Some t) each all = with_gates basis sources g t (each t refl) all

tables_gates : (basis : Basis) (sources : ℕ) (ts : List Table) (g : Growth) (order : List ℕ) →
    All (IsTableOver basis) ts → AreGatesOver basis g.gates → AreGatesOver basis (with_tables sources ts g order).gates
unfolding with_tables
tables_gates basis sources ts g [] are all = all
tables_gates basis sources ts g (k ∷ order) are all =
    tables_gates basis sources ts (with_table_at sources g (slice_get ts k)) order are
    (at_gates basis sources g (slice_get ts k) (λ t e. all_at (IsTableOver basis) ts k t are e) all)

order_gates : (basis : Basis) (d : Document) (order : List ℕ) → IsDocumentOver basis d →
    AreGatesOver basis (net_in_order d order).gates
unfolding net_in_order
order_gates basis d order are =
    tables_gates basis (source_count d) d.tables (sources_only d) order are (All-nil (IsGateOver basis))

net_by : (basis : Basis) (d : Document) (r : Option (List ℕ)) (n : Net) → IsDocumentOver basis d →
    option_map (net_in_order d) r ≡ Some n → AreGatesOver basis n.gates
net_by basis d None n are e = absurd cc
net_by basis d (Some order) n are e =
    let same : net_in_order d order ≡ n = cc in
    subst (λ (m : Net). AreGatesOver basis m.gates) same (order_gates basis d order are)

pub net_gates : (basis : Basis) (d : Document) (n : Net) → IsDocumentOver basis d → net_of d ≡ Some n →
    All (IsGateOver basis) n.gates
unfolding net_of
net_gates basis d n are e = net_by basis d (order_of (graph_of d.tables)) n are e

-- ---- without dangling gates

moved_over : (basis : Basis) (nodes : ℕ → Sig) (g : Gate) → IsGateOver basis g → IsGateOver basis (moved_gate nodes g)
moved_over basis nodes g (inl is) = inl is
moved_over basis nodes g (inr is) =
    inr (record { operator = is.operator; twice = ap (moved nodes) is.twice; has = is.has })

kept_over : (basis : Basis) (marks : ℕ → Bool) (sources : ℕ) (k : Kept) (node : ℕ) (gs : List Gate) →
    AreGatesOver basis k.gates → AreGatesOver basis gs → AreGatesOver basis (kept_after marks sources k node gs).gates
unfolding kept_after
kept_over basis marks sources k node [] old all = old
kept_over basis marks sources k node (g ∷ gs) old all =
    kept_over basis marks sources (if marks node then with_kept sources k node g else k) (node + 1) gs
    (cond_both (marks node) (with_kept sources k node g) k (λ (x : Kept). AreGatesOver basis x.gates)
    (λ e. All-push (IsGateOver basis) k.gates (moved_gate k.nodes g) old
    (moved_over basis k.nodes g (All-head (IsGateOver basis) g gs all)))
    (λ e. old))
    (All-tail (IsGateOver basis) g gs all)

pub left_gates : (basis : Basis) (n : Net) → All (IsGateOver basis) n.gates → All (IsGateOver basis) (cleanup n).gates
unfolding cleanup
left_gates basis n all =
    kept_over basis (live n) n.sources (nothing_kept n.sources) (n.sources + 1) n.gates (All-nil (IsGateOver basis)) all

-- ---- no such gate is inexpressible

turned_word : (z o : Bool) → z ≡ true → o ≡ false → of_values z z o o ≡ 12
turned_word true false e f = refl
turned_word true true e f = absurd cc
turned_word false o e f = absurd cc

either : (P : Type 0) (a b : Bool) → (a || b) ≡ true → (a ≡ true → P) → (b ≡ true → P) → P
either P true b e f g = f refl
either P false b e f g = g e

turned_each : (P : Type 0) (z o : Bool) → (z && not o) ≡ true → (z ≡ true → o ≡ false → P) → P
turned_each P true false e f = f refl refl
turned_each P true true e f = absurd cc
turned_each P false o e f = absurd cc

-- what a closed set of functions has
record Has (basis : Basis) (known : ℕ → Bool) : Type 0 where
  pub first : known 3 ≡ true
  pub zero : known 0 ≡ true
  pub one : known 15 ≡ true
  pub closed : is_closed basis known ≡ true

step_known : (basis : Basis) (known : ℕ → Bool) (op u v : ℕ) (z o : Bool) → Has basis known → op < 16 → u < 16 →
    v < 16 → basis op ≡ true → known u ≡ true → known v ≡ true → joined op u v ≡ of_values z z o o → z ≡ true →
    o ≡ false → known 12 ≡ true
step_known basis known op u v z o has low low_u low_v member first second is e f =
    subst (λ (w : ℕ). known w ≡ true) (is ∙ turned_word z o e f)
    (closed_joined basis known op u v has.closed low low_u low_v member first second)

twice_known : (basis : Basis) (known : ℕ → Bool) (op : ℕ) → Has basis known → op < 16 → basis op ≡ true →
    negates_both op ≡ true → known 12 ≡ true
unfolding negates_both joined
twice_known basis known op has low member makes =
    turned_each (known 12 ≡ true) (apply op false false) (apply op true true) makes
    (step_known basis known op 3 3 (apply op false false) (apply op true true) has low (omega arith) (omega arith) member
    has.first has.first refl)

once_known : (basis : Basis) (known : ℕ → Bool) (op : ℕ) → Has basis known → op < 16 → basis op ≡ true →
    negates_one op ≡ true → known 12 ≡ true
unfolding negates_one joined
once_known basis known op has low member makes =
    let P : Type 0 = known 12 ≡ true in
    either P _ _ makes
    (λ three. either P _ _ three
    (λ two. either P _ _ two
    (λ is. turned_each P (apply op false false) (apply op false true) is
    (step_known basis known op 0 3 (apply op false false) (apply op false true) has low (omega arith) (omega arith) member
    has.zero has.first refl))
    (λ is. turned_each P (apply op true false) (apply op true true) is
    (step_known basis known op 15 3 (apply op true false) (apply op true true) has low (omega arith) (omega arith) member
    has.one has.first refl)))
    (λ is. turned_each P (apply op false false) (apply op true false) is
    (step_known basis known op 3 0 (apply op false false) (apply op true false) has low (omega arith) (omega arith) member
    has.first has.zero refl)))
    (λ is. turned_each P (apply op false true) (apply op true true) is
    (step_known basis known op 3 15 (apply op false true) (apply op true true) has low (omega arith) (omega arith) member
    has.first has.one refl))

makes_known : (basis : Basis) (known : ℕ → Bool) (op : ℕ) → Has basis known → op < 16 → basis op ≡ true →
    makes_not op ≡ true → known 12 ≡ true
makes_known basis known op has low member makes =
    either (known 12 ≡ true) (negates_both op) (negates_one op) makes
    (twice_known basis known op has low member) (once_known basis known op has low member)

implied : (a b : Bool) → (a ≡ true → b ≡ true → ⊥) → implies a (not b) ≡ true
implied true true never = absurd (never refl refl)
implied true false never = refl
implied false b never = refl

turned_back : (b : Bool) → b ≡ true → not b ≡ true → ⊥
turned_back true e f = cc
turned_back false e f = cc

-- A closed set has NOT where the basis makes it.
not_by_case : (basis : Basis) (known : ℕ → Bool) (k : Bool) → known 12 ≡ k → Has basis known → has_not basis ≡ true →
    known 12 ≡ true
unfolding has_no_not_at
not_by_case basis known true e has is = e
not_by_case basis known false e has is =
    absurd (turned_back (every (has_no_not_at basis)) (each_every (has_no_not_at basis) (λ op low.
    implied (basis op) (makes_not op) (λ member makes.
    differ (known 12) (makes_known basis known op has low member makes) e))) is)

not_known : (basis : Basis) (known : ℕ → Bool) → Has basis known → has_not basis ≡ true → known 12 ≡ true
not_known basis known has is = not_by_case basis known (known 12) refl has is

first_low : (s : Sig) → first_word s < 16
first_low Zero = omega arith
first_low One = omega arith
first_low (Node p) = omega arith

first_known : (basis : Basis) (known : ℕ → Bool) (s : Sig) → Has basis known → known (first_word s) ≡ true
first_known basis known Zero has = has.zero
first_known basis known One has = has.one
first_known basis known (Node p) has = has.first

by_test : (P : ℕ → Type 0) (b : Bool) → P 3 → P 5 → P (if b then 3 else 5)
by_test P true x y = x
by_test P false x y = y

second_each : (P : ℕ → Type 0) (a b : Sig) → P 0 → P 15 → P 3 → P 5 → P (second_word a b)
second_each P a Zero z o f s = z
second_each P a One z o f s = o
second_each P Zero (Node q) z o f s = s
second_each P One (Node q) z o f s = s
second_each P (Node p) (Node q) z o f s = by_test P (p == q) f s

-- NAND of a signal twice, by the signal
nand_known : (basis : Basis) (known : ℕ → Bool) (s : Sig) → Has basis known → has_not basis ≡ true →
    known (joined 14 (first_word s) (second_word s s)) ≡ true
unfolding joined
nand_known basis known Zero has is = has.one
nand_known basis known One has is = has.zero
nand_known basis known (Node p) has is =
    subst (λ (b : Bool). known (joined 14 3 (if b then 3 else 5)) ≡ true) (sym (eq-eqb p p refl))
    (not_known basis known has is)

over_known : (basis : Basis) (known : ℕ → Bool) (g : Gate) → Has basis known → known 5 ≡ true → g.op < 16 →
    IsGateOver basis g → known (local_word g) ≡ true
over_known basis known g has second low (inl member) =
    closed_joined basis known g.op (first_word g.a) (second_word g.a g.b) has.closed low (first_low g.a)
    (second_each (λ (w : ℕ). w < 16) g.a g.b (omega arith) (omega arith) (omega arith) (omega arith)) member
    (first_known basis known g.a has)
    (second_each (λ (w : ℕ). known w ≡ true) g.a g.b has.zero has.one has.first second)
over_known basis known g has second low (inr is) =
    subst (λ (op : ℕ). known (joined op (first_word g.a) (second_word g.a g.b)) ≡ true) (sym is.operator)
    (subst (λ (b : Sig). known (joined 14 (first_word g.a) (second_word g.a b)) ≡ true) is.twice
    (nand_known basis known g.a has is.has))

-- No gate that is over the basis is inexpressible.
pub over_expressed : (basis : Basis) (n : Net) (node : ℕ) → IsNet n → All (IsGateOver basis) n.gates →
    IsInexpressibleAt basis n node → ⊥
over_expressed basis n node net all at =
    let cant : IsInexpressible basis (local_word at.gate) = at.inexpressible in
    differ (cant.known (local_word at.gate))
    (over_known basis cant.known at.gate
    (record { first = cant.first; zero = cant.zero; one = cant.one; closed = cant.closed }) cant.second
    (net.gates.each _ at.gate at.at).operator (all_at (IsGateOver basis) n.gates _ at.gate all at.at))
    cant.lacks

-- The net of a document over a basis, without its dangling gates, has no gate that the basis can't express.
pub document_expressed : (basis : Basis) (d : Document) (n : Net) (node : ℕ) → IsDocumentOver basis d →
    net_of d ≡ Some n → IsNet (cleanup n) → IsInexpressibleAt basis (cleanup n) node → ⊥
document_expressed basis d n node over is net at =
    over_expressed basis (cleanup n) node net (left_gates basis n (net_gates basis d n over is)) at
