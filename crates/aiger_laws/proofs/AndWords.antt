-- The gates of the net of an AIGER text are AND with complements.
use Rattle.std.proofs.Common.{◌≡◌, ℕ, zero, suc, ◌+◌, ◌/◌, Bool, true, false, List, [], ◌∷◌, ◌++◌, map, Option, Some, None, refl, subst}
use Rattle.std.specs.Prelude.{not, ◌==◌, if◌then◌else◌, All, slice_get}
use Rattle.std.specs.Option.{option_map}
use Rattle.std.proofs.lemmas.Bool.{cond_both}
use Rattle.std.proofs.lemmas.List.Elements.{All-nil, All-cons, All-append, All-push}
use Rattle.net_theory.specs.declared.data.Sig.{Sig}
use Rattle.net_theory.specs.declared.data.Gate.{Gate}
use Rattle.net_theory.specs.Net.{Net}
use Rattle.net_theory.specs.Cover.{Cover, cover_value, matches}
use Rattle.net_theory.specs.Document.{Name, is_same, Table, Document}
use Rattle.net_theory.specs.NameLaws.{all_at}
use Rattle.net_theory.specs.Cost.{unary_cover, merged, merged_table}
use Rattle.net_theory.specs.Expansion.{Built, gate_of, unary_word, binary_word, with_not, unary_built, binary_built, expanded}
use Rattle.net_theory.specs.NetOf.{Growth, signal_of, with_table, with_table_at, with_tables, sources_only, source_count, net_in_order, graph_of, net_of}
use Rattle.graph_core.specs.Visit.{order_of}
use Rattle.aiger_text.specs.declared.file.AigGate.{AigGate}
use Rattle.aiger_text.specs.File.{AigFile}
use Rattle.aiger_text.specs.Meaning.{Signals, bit_at, is_complement, zero_table, one_table, gate_table, needs_not, unary_table, not_table, not_tables, sink_name, is_driver, output_tables, tables_of}
use Rattle.aiger_core.specs.Written.{is_and_word}
use Rattle.aiger_laws.specs.Writable.{IsAndGate}

-- ---- the tables of a file

abbrev IsAndOn : Cover → List Name → Type 0
IsAndOn c [] = Unit {0}
IsAndOn c (a ∷ []) = Unit {0}
IsAndOn c (a ∷ b ∷ []) = is_and_word (binary_word c) ≡ true
IsAndOn c (a ∷ b ∷ d ∷ ns) = ⊥

-- a constant, a table of one input, or one of two inputs that is AND with complements
abbrev pub IsAndTable : Table → Type 0
IsAndTable t = IsAndOn t.cover t.inputs

-- the byte of a fanin, complemented or not
abbrev asked : Bool → ℕ
asked c = if c then 48 else 49

abbrev and_cover : Bool → Bool → Bool → Cover
and_cover a b turned = record { width = 2; cubes = (asked a ∷ asked b ∷ []) ∷ []; on = not turned; parity = false }

and_cover_word : (a b turned : Bool) → is_and_word (binary_word (and_cover a b turned)) ≡ true
unfolding is_and_word cover_value matches
and_cover_word true true true = refl
and_cover_word true true false = refl
and_cover_word true false true = refl
and_cover_word true false false = refl
and_cover_word false true true = refl
and_cover_word false true false = refl
and_cover_word false false true = refl
and_cover_word false false false = refl

gates_ands : (s : Signals) (gs : List AigGate) → All IsAndTable (map (gate_table s) gs)
gates_ands s [] = All-nil IsAndTable
gates_ands s (g ∷ gs) =
    All-cons IsAndTable (gate_table s g) (map (gate_table s) gs)
    (and_cover_word (is_complement s g.first) (is_complement s g.second) (bit_at s.turns (g.literal / 2))) (gates_ands s gs)

nots_ands : (s : Signals) (v n : ℕ) → All IsAndTable (not_tables s v n)
unfolding not_tables
nots_ands s v zero = All-nil IsAndTable
nots_ands s v (suc n) =
    let rest = nots_ands s (v + 1) n in
    cond_both (needs_not s v) (not_table s v ∷ not_tables s (v + 1) n) (not_tables s (v + 1) n) (All IsAndTable)
    (λ e. All-cons IsAndTable (not_table s v) (not_tables s (v + 1) n) tt rest)
    (λ e. rest)

outputs_ands : (s : Signals) (lits : List ℕ) (os : List Name) → All IsAndTable (output_tables s lits os)
unfolding output_tables
outputs_ands s [] os = All-nil IsAndTable
outputs_ands s (lit ∷ lits) [] = All-nil IsAndTable
outputs_ands s (lit ∷ lits) (o ∷ os) =
    let rest = outputs_ands s lits os in
    cond_both (is_driver s.names lit o) (output_tables s lits os) (unary_table (sink_name s lit) 49 o ∷ output_tables s lits os) (All IsAndTable)
    (λ e. rest)
    (λ e. All-cons IsAndTable (unary_table (sink_name s lit) 49 o) (output_tables s lits os) tt rest)

abbrev constants : List Table
constants = zero_table ∷ one_table ∷ []

pub tables_ands : (s : Signals) (os : List Name) (f : AigFile) → All IsAndTable (tables_of s os f)
unfolding tables_of
tables_ands s os f =
    let gates = map (gate_table s) f.gates in
    All-append IsAndTable (constants ++ gates ++ not_tables s 1 f.variables) (output_tables s f.outputs os)
    (All-append IsAndTable (constants ++ gates) (not_tables s 1 f.variables)
    (All-append IsAndTable constants gates
    (All-cons IsAndTable zero_table (one_table ∷ []) tt (All-cons IsAndTable one_table [] tt (All-nil IsAndTable)))
    (gates_ands s f.gates))
    (nots_ands s 1 f.variables))
    (outputs_ands s f.outputs os)

-- ---- the gates of a table

abbrev HasAnds : Built → Type 0
HasAnds b = All IsAndGate b.gates

not_ands : (sources : ℕ) (gates : List Gate) (a : Sig) → All IsAndGate gates → HasAnds (with_not sources gates a)
unfolding is_and_word
not_ands sources gates a all = All-push IsAndGate gates (gate_of 14 a a) all refl

unary_ands : (sources : ℕ) (gates : List Gate) (word : ℕ) (a : Sig) → All IsAndGate gates → HasAnds (unary_built sources gates word a)
unfolding unary_built
unary_ands sources gates word a all =
    cond_both (word == 0) _ _ HasAnds (λ e. all)
    (λ e. cond_both (word == 3) _ _ HasAnds (λ f. all)
    (λ f. cond_both (word == 1) _ _ HasAnds (λ g. all) (λ g. not_ands sources gates a all)))

binary_ands : (sources : ℕ) (gates : List Gate) (word : ℕ) (a b : Sig) → is_and_word word ≡ true → All IsAndGate gates → HasAnds (binary_built sources gates word a b)
unfolding binary_built
binary_ands sources gates word a b h all =
    cond_both (word == 0) _ _ HasAnds (λ e. all)
    (λ e. cond_both (word == 15) _ _ HasAnds (λ e. all)
    (λ e. cond_both (word == 3) _ _ HasAnds (λ e. all)
    (λ e. cond_both (word == 5) _ _ HasAnds (λ e. all)
    (λ e. cond_both (word == 12) _ _ HasAnds (λ e. not_ands sources gates a all)
    (λ e. cond_both (word == 10) _ _ HasAnds (λ e. not_ands sources gates b all)
    (λ e. All-push IsAndGate gates (gate_of word a b) all h))))))

expanded_ands : (c : Cover) (ns : List Name) (sources : ℕ) (gates : List Gate) (f : Name → Sig) → IsAndOn c ns → All IsAndGate gates → HasAnds (expanded sources gates c (map f ns))
expanded_ands c [] sources gates f is all = all
expanded_ands c (a ∷ []) sources gates f is all = unary_ands sources gates (unary_word c) (f a) all
expanded_ands c (a ∷ b ∷ []) sources gates f is all = binary_ands sources gates (binary_word c) (f a) (f b) is all
expanded_ands c (a ∷ b ∷ d ∷ ns) sources gates f is all = absurd is

merged_ands : (t : Table) (ns : List Name) (sources : ℕ) (gates : List Gate) (f : Name → Sig) → IsAndTable t →
    All IsAndGate gates → HasAnds (expanded sources gates (merged t ns).cover (map f (merged t ns).inputs))
merged_ands t [] sources gates f is all = expanded_ands t.cover t.inputs sources gates f is all
merged_ands t (a ∷ []) sources gates f is all = expanded_ands t.cover t.inputs sources gates f is all
merged_ands t (a ∷ b ∷ []) sources gates f is all =
    cond_both (is_same a b) (record {
      inputs = a ∷ [];
      output = t.output;
      cover = unary_cover (cover_value t.cover (false ∷ false ∷ [])) (cover_value t.cover (true ∷ true ∷ []));
    }) t
    (λ (m : Table). HasAnds (expanded sources gates m.cover (map f m.inputs)))
    (λ same. unary_ands sources gates (unary_word (unary_cover (cover_value t.cover (false ∷ false ∷ [])) (cover_value t.cover (true ∷ true ∷ [])))) (f a) all)
    (λ other. expanded_ands t.cover t.inputs sources gates f is all)
merged_ands t (a ∷ b ∷ d ∷ ns) sources gates f is all = expanded_ands t.cover t.inputs sources gates f is all

-- ---- nets

with_ands : (sources : ℕ) (g : Growth) (t : Table) → IsAndTable t → All IsAndGate g.gates → All IsAndGate (with_table sources g t).gates
unfolding with_table merged_table
with_ands sources g t is all = merged_ands t t.inputs sources g.gates (signal_of g.signals) is all

at_ands : (sources : ℕ) (g : Growth) (r : Option Table) → ((t : Table) → r ≡ Some t → IsAndTable t) → All IsAndGate g.gates → All IsAndGate (with_table_at sources g r).gates
at_ands sources g None h all = all
at_ands sources g (Some t) h all = with_ands sources g t (h t refl) all

order_ands : (sources : ℕ) (ts : List Table) (g : Growth) (order : List ℕ) → All IsAndTable ts → All IsAndGate g.gates → All IsAndGate (with_tables sources ts g order).gates
unfolding with_tables
order_ands sources ts g [] are all = all
order_ands sources ts g (k ∷ order) are all =
    order_ands sources ts (with_table_at sources g (slice_get ts k)) order are (at_ands sources g (slice_get ts k) (λ t e. all_at IsAndTable ts k t are e) all)

document_ands : (d : Document) (order : List ℕ) → All IsAndTable d.tables → All IsAndGate (net_in_order d order).gates
unfolding net_in_order
document_ands d order are = order_ands (source_count d) d.tables (sources_only d) order are (All-nil IsAndGate)

net_by : (d : Document) (r : Option (List ℕ)) (n : Net) → All IsAndTable d.tables → option_map (net_in_order d) r ≡ Some n → All IsAndGate n.gates
net_by d None n are e = absurd cc
net_by d (Some order) n are e = let same : net_in_order d order ≡ n = cc in subst (λ (m : Net). All IsAndGate m.gates) same (document_ands d order are)

pub net_ands : (d : Document) (n : Net) → All IsAndTable d.tables → net_of d ≡ Some n → All IsAndGate n.gates
unfolding net_of
net_ands d n are e = net_by d (order_of (graph_of d.tables)) n are e
