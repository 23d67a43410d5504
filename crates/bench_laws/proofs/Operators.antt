-- The gates of the net of a BENCH text have operators of the format.
use Rattle.std.proofs.Common.{◌≡◌, ℕ, ◌<◌, Bool, true, false, List, [], ◌∷◌, length, map, Option, Some, None, refl, ap, ◌∙◌, sym, subst, arith}
use Rattle.std.specs.Prelude.{◌-◌, ◌==◌, ◌||◌, not, if◌then◌else◌, All, slice_get}
use Rattle.std.specs.Option.{option_map}
use Rattle.std.proofs.lemmas.Bool.{cond_both, eqb-true}
use Rattle.std.proofs.lemmas.List.{length-map}
use Rattle.std.proofs.lemmas.List.Elements.{All-nil, All-cons, All-head, All-tail, All-push}
use Rattle.net_theory.specs.declared.data.Sig.{Sig}
use Rattle.net_theory.specs.declared.data.Gate.{Gate}
use Rattle.net_theory.specs.Net.{Net}
use Rattle.net_theory.specs.Cover.{Cover, cover_value, matches}
use Rattle.net_theory.specs.Document.{Name, is_same, Table, Document}
use Rattle.net_theory.specs.NameLaws.{all_at}
use Rattle.net_theory.specs.Cost.{unary_cover, merged, merged_table}
use Rattle.net_theory.specs.Expansion.{Built, Joined, gate_of, unary_word, binary_word, with_not, unary_built}
use Rattle.net_theory.specs.Expansion.{binary_built, and_word, or_word, xor_word, joined, join_from, signed, join_all}
use Rattle.net_theory.specs.Expansion.{unsigned, complemented, last_complemented, finished, wide_built, expanded}
use Rattle.net_theory.specs.WholeLaws.{and_built, or_built_wide, xor_built}
use Rattle.net_theory.specs.NetOf.{Growth, signal_of, with_table, with_table_at, with_tables, sources_only, source_count, net_in_order, graph_of, net_of}
use Rattle.graph_core.specs.Visit.{order_of}
use Rattle.net_core.specs.declared.joining.Connective.{Connective}
use Rattle.net_core.specs.declared.joining.Connective.TheVariants.{And, Or, Xor}
use Rattle.net_core.specs.Wholes.{joined_cover}
use Rattle.bench_text.specs.SaidLaws.{IsGateTable}
use Rattle.bench_core.specs.Bench.{is_gate_word}
use Rattle.bench_laws.specs.Spelled.{IsGateWord}

-- ---- truth tables

pub either : (P : Type 0) (a b : Bool) → (a || b) ≡ true → (a ≡ true → P) → (b ≡ true → P) → P
either P true b e f g = f refl
either P false b e f g = g e

complement_of : (op k : ℕ) → is_gate_word (15 - k) ≡ true → (op == k) ≡ true → is_gate_word (15 - op) ≡ true
complement_of op k h e = subst (λ (n : ℕ). is_gate_word (15 - n) ≡ true) (sym (eqb-true op k e)) h

pub complement_word : (op : ℕ) → is_gate_word op ≡ true → is_gate_word (15 - op) ≡ true
unfolding is_gate_word
complement_word op e =
    let P : Type 0 = is_gate_word (15 - op) ≡ true in
    either P (op == 1 || op == 6 || op == 7 || op == 8 || op == 9) (op == 14) e
    (λ e9. either P (op == 1 || op == 6 || op == 7 || op == 8) (op == 9) e9
    (λ e8. either P (op == 1 || op == 6 || op == 7) (op == 8) e8
    (λ e7. either P (op == 1 || op == 6) (op == 7) e7
    (λ e6. either P (op == 1) (op == 6) e6 (complement_of op 1 refl) (complement_of op 6 refl))
    (complement_of op 7 refl))
    (complement_of op 8 refl))
    (complement_of op 9 refl))
    (complement_of op 14 refl)

-- ---- joined gates

join_words : (word : Bool → Bool → ℕ) (sources : ℕ) (j : Joined) (inputs : List Sig) →
    is_gate_word (word false false) ≡ true → j.out.turned ≡ false → All IsGateWord j.gates →
    All IsGateWord (join_from word sources j (unsigned inputs)).gates
unfolding join_from unsigned
join_words word sources j [] h flat all = all
join_words word sources j (a ∷ inputs) h flat all =
    join_words word sources (joined word sources j (signed a false)) inputs h refl
    (All-push IsGateWord j.gates (gate_of (word j.out.turned false) j.out.sig a) all (subst (λ (t : Bool). is_gate_word (word t false) ≡ true) (sym flat) h))

all_words : (word : Bool → Bool → ℕ) (sources : ℕ) (gates : List Gate) (inputs : List Sig) →
    is_gate_word (word false false) ≡ true → All IsGateWord gates →
    All IsGateWord (join_all word sources gates (unsigned inputs)).gates
unfolding join_all unsigned
all_words word sources gates [] h all = all
all_words word sources gates (a ∷ inputs) h all = join_words word sources (record { gates = gates; out = signed a false }) inputs h refl all

last_words : (gates : List Gate) → All IsGateWord gates → All IsGateWord (last_complemented gates)
unfolding last_complemented
last_words [] all = all
last_words (g ∷ []) all = All-cons IsGateWord (complemented g) [] (complement_word g.op (All-head IsGateWord g [] all)) (All-nil IsGateWord)
last_words (g ∷ h ∷ gates) all = All-cons IsGateWord g (last_complemented (h ∷ gates)) (All-head IsGateWord g (h ∷ gates) all) (last_words (h ∷ gates) (All-tail IsGateWord g (h ∷ gates) all))

not_words : (sources : ℕ) (gates : List Gate) (a : Sig) → All IsGateWord gates → All IsGateWord (with_not sources gates a).gates
unfolding is_gate_word
not_words sources gates a all = All-push IsGateWord gates (gate_of 14 a a) all refl

finished_words : (sources before : ℕ) (gates : List Gate) (a : Sig) (turned : Bool) → All IsGateWord gates → All IsGateWord (finished sources before gates a turned).gates
unfolding finished
finished_words sources before gates a turned all =
    cond_both turned (if length gates == before then with_not sources gates a else record {
      gates =
          last_complemented gates;
      sig = a;
    }) (record { gates = gates; sig = a }) (λ (b : Built). All IsGateWord b.gates)
    (λ e. cond_both (length gates == before) (with_not sources gates a) (record { gates = last_complemented gates; sig = a }) (λ (b : Built). All IsGateWord b.gates)
    (λ f. not_words sources gates a all)
    (λ f. last_words gates all))
    (λ e. all)

abbrev HasWords : Built → Type 0
HasWords b = All IsGateWord b.gates

wide_words : (k : Connective) (on : Bool) (sources : ℕ) (gates : List Gate) (inputs : List Sig) → 0 < length inputs →
    All IsGateWord gates → HasWords (wide_built sources gates (joined_cover k (length inputs) on) inputs)
unfolding is_gate_word
wide_words And on sources gates inputs some all =
    let j = join_all and_word sources gates (unsigned inputs) in
    subst HasWords (sym (and_built sources gates on inputs some))
    (finished_words sources (length gates) j.gates j.out.sig (if on then j.out.turned else not j.out.turned)
    (all_words and_word sources gates inputs refl all))
wide_words Or on sources gates inputs some all =
    let j = join_all or_word sources gates (unsigned inputs) in
    subst HasWords (sym (or_built_wide sources gates on inputs some))
    (finished_words sources (length gates) j.gates j.out.sig (if on then j.out.turned else not j.out.turned)
    (all_words or_word sources gates inputs refl all))
wide_words Xor on sources gates inputs some all =
    let j = join_all xor_word sources gates (unsigned inputs) in
    subst HasWords (sym (xor_built sources gates on inputs)) (finished_words sources (length gates) j.gates j.out.sig
    (if on then j.out.turned else not j.out.turned) (all_words xor_word sources gates inputs refl all))

-- ---- tables

unary_words : (sources : ℕ) (gates : List Gate) (word : ℕ) (a : Sig) → All IsGateWord gates → HasWords (unary_built sources gates word a)
unfolding unary_built
unary_words sources gates word a all =
    cond_both (word == 0) _ _ HasWords (λ e. all)
    (λ e. cond_both (word == 3) _ _ HasWords (λ f. all)
    (λ f. cond_both (word == 1) _ _ HasWords (λ g. all) (λ g. not_words sources gates a all)))

binary_words : (sources : ℕ) (gates : List Gate) (word : ℕ) (a b : Sig) → is_gate_word word ≡ true → All IsGateWord gates → HasWords (binary_built sources gates word a b)
unfolding binary_built
binary_words sources gates word a b h all =
    cond_both (word == 0) _ _ HasWords (λ e. all)
    (λ e. cond_both (word == 15) _ _ HasWords (λ e. all)
    (λ e. cond_both (word == 3) _ _ HasWords (λ e. all)
    (λ e. cond_both (word == 5) _ _ HasWords (λ e. all)
    (λ e. cond_both (word == 12) _ _ HasWords (λ e. not_words sources gates a all)
    (λ e. cond_both (word == 10) _ _ HasWords (λ e. not_words sources gates b all)
    (λ e. All-push IsGateWord gates (gate_of word a b) all h))))))

pub pair_word : (k : Connective) (on : Bool) → is_gate_word (binary_word (joined_cover k 2 on)) ≡ true
unfolding is_gate_word cover_value matches
pair_word And true = refl
pair_word And false = refl
pair_word Or true = refl
pair_word Or false = refl
pair_word Xor true = refl
pair_word Xor false = refl

expanded_words : (k : Connective) (on : Bool) (c : Cover) (n sources : ℕ) (gates : List Gate) (inputs : List Sig) →
    c ≡ joined_cover k n on → n ≡ length inputs → All IsGateWord gates → HasWords (expanded sources gates c inputs)
expanded_words k on c n sources gates [] e wide all = all
expanded_words k on c n sources gates (a ∷ []) e wide all = unary_words sources gates (unary_word c) a all
expanded_words k on c n sources gates (a ∷ b ∷ []) e wide all =
    binary_words sources gates (binary_word c) a b (subst (λ (x : Cover). is_gate_word (binary_word x) ≡ true)
    (sym (e ∙ ap (λ (m : ℕ). joined_cover k m on) wide)) (pair_word k on)) all
expanded_words k on c n sources gates (a ∷ b ∷ d ∷ inputs) e wide all =
    subst (λ (x : Cover). HasWords (wide_built sources gates x (a ∷ b ∷ d ∷ inputs))) (sym (e ∙ ap (λ (m : ℕ). joined_cover k m on) wide))
    (wide_words k on sources gates (a ∷ b ∷ d ∷ inputs) (omega arith) all)

table_words : (t : Table) (sources : ℕ) (gates : List Gate) (f : Name → Sig) → IsGateTable t → All IsGateWord gates → HasWords (expanded sources gates t.cover (map f t.inputs))
table_words t sources gates f is all = expanded_words is.connective is.on t.cover (length t.inputs) sources gates (map f t.inputs) is.cover (sym (length-map t.inputs f)) all

merged_words : (t : Table) (ns : List Name) (sources : ℕ) (gates : List Gate) (f : Name → Sig) → IsGateTable t →
    All IsGateWord gates → HasWords (expanded sources gates (merged t ns).cover (map f (merged t ns).inputs))
merged_words t [] sources gates f is all = table_words t sources gates f is all
merged_words t (a ∷ []) sources gates f is all = table_words t sources gates f is all
merged_words t (a ∷ b ∷ []) sources gates f is all =
    cond_both (is_same a b) (record {
      inputs = a ∷ [];
      output = t.output;
      cover = unary_cover (cover_value t.cover (false ∷ false ∷ [])) (cover_value t.cover (true ∷ true ∷ []));
    }) t
    (λ (m : Table). HasWords (expanded sources gates m.cover (map f m.inputs)))
    (λ same. unary_words sources gates (unary_word (unary_cover (cover_value t.cover (false ∷ false ∷ [])) (cover_value t.cover (true ∷ true ∷ [])))) (f a) all)
    (λ other. table_words t sources gates f is all)
merged_words t (a ∷ b ∷ c ∷ ns) sources gates f is all = table_words t sources gates f is all

with_words : (sources : ℕ) (g : Growth) (t : Table) → IsGateTable t → All IsGateWord g.gates → All IsGateWord (with_table sources g t).gates
unfolding with_table merged_table
with_words sources g t is all = merged_words t t.inputs sources g.gates (signal_of g.signals) is all

at_words : (sources : ℕ) (g : Growth) (r : Option Table) → ((t : Table) → r ≡ Some t → IsGateTable t) → All IsGateWord g.gates → All IsGateWord (with_table_at sources g r).gates
at_words sources g None h all = all
at_words sources g (Some t) h all = with_words sources g t (h t refl) all

tables_words : (sources : ℕ) (ts : List Table) (g : Growth) (order : List ℕ) → All IsGateTable ts → All IsGateWord g.gates → All IsGateWord (with_tables sources ts g order).gates
unfolding with_tables
tables_words sources ts g [] are all = all
tables_words sources ts g (k ∷ order) are all = tables_words sources ts (with_table_at sources g (slice_get ts k))
    order are (at_words sources g (slice_get ts k) (λ t e. all_at IsGateTable ts k t are e) all)

order_words : (d : Document) (order : List ℕ) → All IsGateTable d.tables → All IsGateWord (net_in_order d order).gates
unfolding net_in_order
order_words d order are = tables_words (source_count d) d.tables (sources_only d) order are (All-nil IsGateWord)

net_by : (d : Document) (r : Option (List ℕ)) (n : Net) → All IsGateTable d.tables → option_map (net_in_order d) r ≡ Some n → All IsGateWord n.gates
net_by d None n are e = absurd cc
net_by d (Some order) n are e = let same : net_in_order d order ≡ n = cc in subst (λ (m : Net). All IsGateWord m.gates) same (order_words d order are)

pub net_words : (d : Document) (n : Net) → All IsGateTable d.tables → net_of d ≡ Some n → All IsGateWord n.gates
unfolding net_of
net_words d n are e = net_by d (order_of (graph_of d.tables)) n are e
