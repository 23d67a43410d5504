-- The file of a circuit that can be written is one that can be spelled.
use Rattle.std.proofs.Common.{◌≡◌, ℕ, zero, suc, ◌+◌, ◌*◌, ◌%◌, ◌≤◌, ◌<◌, List, [], ◌∷◌, ◌++◌, length, map, drop, take, refl, ap, ◌∙◌, sym, subst, arith, length-append}
use Rattle.std.specs.Prelude.{◌==◌, nat_le, All, Some, slice_get, slice_index_or}
use Rattle.std.proofs.lemmas.Bool.{and_from, cond_both, le-leb, eq-eqb}
use Rattle.std.proofs.lemmas.List.{length-map, length-drop}
use Rattle.std.proofs.lemmas.List.Elements.{All-nil, All-cons, All-head, All-tail, All-append}
use Rattle.net_theory.specs.declared.data.Sig.{Sig}
use Rattle.net_theory.specs.Net.{IsSigBelow, end_of}
use Rattle.net_theory.specs.NameLaws.{all_at, at_all}
use Rattle.net_theory.specs.Document.{Name, IsName, is_same, Latch, latch_output}
use Rattle.net_theory.specs.Circuit.{Circuit, sources_of}
use Rattle.net_theory.specs.WellFormed.{IsLatch}
use Rattle.aiger_text.specs.declared.file.Counts.{Counts}
use Rattle.aiger_text.specs.declared.file.AigGate.{AigGate}
use Rattle.aiger_text.specs.declared.file.PortKind.{PortKind}
use Rattle.aiger_text.specs.declared.file.PortKind.TheVariants as kinds
use Rattle.aiger_text.specs.declared.file.Symbol.{Symbol}
use Rattle.aiger_text.specs.Statements.{is_variable, count_of}
use Rattle.aiger_text.specs.Valid.{counts_of, IsLiteral, IsVariable, IsLatchAt, IsGateAt, IsSymbolAt, AreCounts, IsAig}
use Rattle.aiger_core.specs.Written.{sig_literal, Mapped, even_from, mapped, reset_of, latches_from, default_name, symbol_of, symbols_from, file_by, file_of}
use Rattle.aiger_laws.specs.Writable.{IsFreeName, IsAndGate, CanWriteAiger}
use Rattle.aiger_laws.proofs.MappedShape.{IsGateOf, IsShaped, sig_bounded, AreAndsAt, mapped_shaped}

-- ---- the AND gates

even_below : (k n p : ℕ) → p < n → slice_index_or (even_from k n) p 0 < (k + n) * 2
unfolding even_from
even_below k zero p low = absurd (omega (arith, low))
even_below k (suc n) zero low = omega arith
even_below k (suc n) (suc p) low = let e = even_below (k + 1) n p (omega (arith, low)) in omega (arith, e)

pub even_size : (k n : ℕ) → length (even_from k n) ≡ n
unfolding even_from
even_size k zero = refl
even_size k (suc n) = ap suc (even_size (k + 1) n)

abbrev pub start : ℕ → Mapped
start s = record { gates = []; literals = even_from 0 (s + 1) }

pub start_shaped : (s : ℕ) → IsShaped s (s + 1) 0 (start s)
start_shaped s = record {
  gates = λ i g at. absurd cc;
  count = even_size 0 (s + 1);
  literals = λ p low. let e = even_below 0 (s + 1) p low in omega (arith, e);
  few = omega arith;
}

pub circuit_ands : (c : Circuit) → CanWriteAiger c → AreAndsAt (c.net.sources + 1) c.net.gates
circuit_ands c is i g at = record { gate = is.proper.net.gates.each i g at; word = all_at IsAndGate c.net.gates i g is.gates at }

pub circuit_shaped : (c : Circuit) → CanWriteAiger c → IsShaped c.net.sources (end_of c.net) (length c.net.gates) (mapped c.net)
circuit_shaped c is =
    let size : 0 + length c.net.gates ≡ length c.net.gates = omega arith in
    subst (λ (k : ℕ). IsShaped c.net.sources (end_of c.net) k (mapped c.net)) size
    (mapped_shaped c.net.sources (c.net.sources + 1) 0 (start c.net.sources) c.net.gates (start_shaped c.net.sources) (circuit_ands c is))

-- ---- sinks

abbrev pub sink_literals : Circuit → List ℕ
sink_literals c = map (sig_literal (mapped c.net).literals) c.net.sinks

abbrev pub all_variables : Circuit → ℕ
all_variables c = c.net.sources + length (mapped c.net).gates

sinks_low : (c : Circuit) → CanWriteAiger c → (sinks : List Sig) → All (IsSigBelow (end_of c.net)) sinks →
    All (λ lit. lit ≤ all_variables c * 2 + 1) (map (sig_literal (mapped c.net).literals) sinks)
sinks_low c is [] all = All-nil (λ lit. lit ≤ all_variables c * 2 + 1)
sinks_low c is (s ∷ sinks) all =
    let low = sig_bounded c.net.sources (end_of c.net) (length c.net.gates) (mapped c.net) s (circuit_shaped c is) (All-head (IsSigBelow (end_of c.net)) s sinks all) in
    All-cons (λ lit. lit ≤ all_variables c * 2 + 1) (sig_literal (mapped c.net).literals s) (map (sig_literal (mapped c.net).literals) sinks)
    (omega (arith, low)) (sinks_low c is sinks (All-tail (IsSigBelow (end_of c.net)) s sinks all))

take_all : {A : Type 0} (P : A → Type 0) (k : ℕ) (xs : List A) → All P xs → All P (take k xs)
take_all P zero xs all = All-nil P
take_all P (suc k) [] all = All-nil P
take_all P (suc k) (x ∷ xs) all = All-cons P x (take k xs) (All-head P x xs all) (take_all P k xs (All-tail P x xs all))

drop_all : {A : Type 0} (P : A → Type 0) (k : ℕ) (xs : List A) → All P xs → All P (drop k xs)
drop_all P zero xs all = all
drop_all P (suc k) [] all = All-nil P
drop_all P (suc k) (x ∷ xs) all = drop_all P k xs (All-tail P x xs all)

-- ---- variables

variable_is : (c : Counts) (v : ℕ) → 1 ≤ v → v ≤ c.variables → IsVariable c (v * 2)
unfolding is_variable
variable_is c v low high =
    let whole : 2 ≤ v * 2 = omega (arith, low) in
    let even : v * 2 % 2 ≡ 0 = omega arith in
    record {
      variable = and_from (nat_le 2 (v * 2)) (v * 2 % 2 == 0) (le-leb 2 (v * 2) whole) (eq-eqb (v * 2 % 2) 0 even);
      within = omega (arith, high);
    }

evens_are : (c : Counts) (k n : ℕ) → 1 ≤ k → k + n ≤ c.variables + 1 → All (IsVariable c) (even_from k n)
unfolding even_from
evens_are c k zero low high = All-nil (IsVariable c)
evens_are c k (suc n) low high = All-cons (IsVariable c) (k * 2) (even_from (k + 1) n) (variable_is c k low (omega (arith, high))) (evens_are c (k + 1) n (omega arith) (omega (arith, high)))

latches_are : (c : Counts) (node : ℕ) (ls : List Latch) (nexts : List ℕ) → 1 ≤ node → node + length ls ≤ c.variables + 1 →
    All (IsLiteral c) nexts → All (IsLatchAt c) (latches_from node ls nexts)
unfolding latches_from
latches_are c node [] nexts low high all = All-nil (IsLatchAt c)
latches_are c node (l ∷ ls) [] low high all = All-nil (IsLatchAt c)
latches_are c node (l ∷ ls) (n ∷ ns) low high all =
    All-cons (IsLatchAt c) (record { literal = node * 2; next = n; reset = reset_of l.init }) (latches_from (node + 1) ls ns)
    (record { literal = variable_is c node low (omega (arith, high)); next = All-head (IsLiteral c) n ns all })
    (latches_are c (node + 1) ls ns (omega arith) (omega (arith, high)) (All-tail (IsLiteral c) n ns all))

pub latches_count : (node : ℕ) (ls : List Latch) (nexts : List ℕ) → length ls ≡ length nexts → length (latches_from node ls nexts) ≡ length ls
unfolding latches_from
latches_count node [] nexts e = refl
latches_count node (l ∷ ls) [] e = absurd (omega (arith, e))
latches_count node (l ∷ ls) (n ∷ ns) e = ap suc (latches_count (node + 1) ls ns (omega (arith, e)))

pub get_past : {A : Type 0} (xs : List A) (i : ℕ) (x : A) → slice_get xs i ≡ Some x → i < length xs
get_past [] i x e = absurd cc
get_past (y ∷ ys) zero x e = omega arith
get_past (y ∷ ys) (suc i) x e = let rest = get_past ys i x e in omega (arith, rest)

gates_are : (c : Counts) (s : ℕ) (gs : List AigGate) → s + length gs ≤ c.variables → ((i : ℕ) (g : AigGate) → slice_get gs i ≡ Some g → IsGateOf (s + 1 + i) g) →
    All (IsGateAt c) gs
gates_are c s gs high each = at_all (IsGateAt c) gs (λ i g at.
    let is = each i g at in
    let low : i < length gs = get_past gs i g at in
    record {
      literal = subst (IsVariable c) (sym is.literal) (variable_is c (s + 1 + i) (omega arith) (omega (arith, high, low)));
      first = omega (arith, is.first, high, low);
      second = omega (arith, is.second, high, low);
    })

-- ---- symbols

symbol_is : (c : Counts) (kind : PortKind) (k : ℕ) (n : Name) → k < count_of c kind → IsName n → IsFreeName n → All (IsSymbolAt c) (symbol_of kind k n)
unfolding symbol_of
symbol_is c kind k n low is free =
    let s : Symbol = record { kind = kind; position = k; name = n } in
    cond_both (is_same n (default_name kind k)) [] (s ∷ []) (All (IsSymbolAt c))
    (λ same. All-nil (IsSymbolAt c))
    (λ other. All-cons (IsSymbolAt c) s [] (record { name = is; free = free; low = low }) (All-nil (IsSymbolAt c)))

symbols_are : (c : Counts) (kind : PortKind) (k : ℕ) (ns : List Name) → k + length ns ≤ count_of c kind → All IsName ns → All IsFreeName ns →
    All (IsSymbolAt c) (symbols_from kind k ns)
unfolding symbols_from
symbols_are c kind k [] high all free = All-nil (IsSymbolAt c)
symbols_are c kind k (n ∷ ns) high all free =
    All-append (IsSymbolAt c) (symbol_of kind k n) (symbols_from kind (k + 1) ns)
    (symbol_is c kind k n (omega (arith, high)) (All-head IsName n ns all) (All-head IsFreeName n ns free))
    (symbols_are c kind (k + 1) ns (omega (arith, high)) (All-tail IsName n ns all) (All-tail IsFreeName n ns free))

latch_names_are : (ls : List Latch) → All IsLatch ls → All IsName (map latch_output ls)
latch_names_are [] all = All-nil IsName
latch_names_are (l ∷ ls) all = All-cons IsName l.output (map latch_output ls) (All-head IsLatch l ls all).output (latch_names_are ls (All-tail IsLatch l ls all))

-- ---- the file

literals_count : (c : Circuit) → CanWriteAiger c → length (sink_literals c) ≡ length c.outputs + length c.latches
literals_count c is = length-map c.net.sinks (sig_literal (mapped c.net).literals) ∙ is.proper.sink_count

pub nexts_count : (c : Circuit) → CanWriteAiger c → length c.latches ≡ length (drop (length c.outputs) (sink_literals c))
nexts_count c is = omega (arith, literals_count c is, length-drop (length c.outputs) (sink_literals c))

outputs_count : (c : Circuit) → CanWriteAiger c → length (take (length c.outputs) (sink_literals c)) ≡ length c.outputs
outputs_count c is = take_size (length c.outputs) (sink_literals c) (omega (arith, literals_count c is)) where
  take_size : (k : ℕ) (xs : List ℕ) → k ≤ length xs → length (take k xs) ≡ k
  take_size zero xs low = refl
  take_size (suc k) [] low = absurd (omega (arith, low))
  take_size (suc k) (x ∷ xs) low = ap suc (take_size k xs (omega (arith, low)))

-- the counts of the file
abbrev pub circuit_counts : Circuit → Counts
circuit_counts c = record {
  variables = all_variables c;
  inputs = length c.inputs;
  latches = length c.latches;
  outputs = length c.outputs;
  gates = length (mapped c.net).gates;
}

abbrev counts_from : ℕ → ℕ → ℕ → ℕ → ℕ → Counts
counts_from v i l o a = record { variables = v; inputs = i; latches = l; outputs = o; gates = a }

pub counts_are : (c : Circuit) → CanWriteAiger c → circuit_counts c ≡ counts_of (file_by c (mapped c.net) (sink_literals c))
counts_are c is =
    let g = length (mapped c.net).gates in
    let o = take (length c.outputs) (sink_literals c) in
    let l = latches_from (1 + length c.inputs) c.latches (drop (length c.outputs) (sink_literals c)) in
    ap (λ (n : ℕ). counts_from (all_variables c) n (length c.latches) (length c.outputs) g) (sym (even_size 1 (length c.inputs)))
    ∙ ap (λ (n : ℕ). counts_from (all_variables c) (length (even_from 1 (length c.inputs))) n (length c.outputs) g)
    (sym (latches_count (1 + length c.inputs) c.latches (drop (length c.outputs) (sink_literals c)) (nexts_count c is)))
    ∙ ap (λ (n : ℕ). counts_from (all_variables c) (length (even_from 1 (length c.inputs))) (length l) n g) (sym (outputs_count c is))

pub outputs_low : (c : Circuit) → CanWriteAiger c → All (λ lit. lit ≤ all_variables c * 2 + 1) (take (length c.outputs) (sink_literals c))
outputs_low c is = take_all (λ lit. lit ≤ all_variables c * 2 + 1) (length c.outputs) (sink_literals c) (sinks_low c is c.net.sinks is.proper.net.sinks)

pub nexts_low : (c : Circuit) → CanWriteAiger c → All (λ lit. lit ≤ all_variables c * 2 + 1) (drop (length c.outputs) (sink_literals c))
nexts_low c is = drop_all (λ lit. lit ≤ all_variables c * 2 + 1) (length c.outputs) (sink_literals c) (sinks_low c is c.net.sinks is.proper.net.sinks)

-- the sizes of the file's lists
pub record HasSizes (c : Circuit) : Type 0 where
  pub inputs : length (even_from 1 (length c.inputs)) ≡ length c.inputs
  pub latches : length (latches_from (1 + length c.inputs) c.latches (drop (length c.outputs) (sink_literals c))) ≡ length c.latches
  pub outputs : length (take (length c.outputs) (sink_literals c)) ≡ length c.outputs

pub literals_sizes : (c : Circuit) → CanWriteAiger c → HasSizes c
literals_sizes c is = record {
  inputs = even_size 1 (length c.inputs);
  latches = latches_count (1 + length c.inputs) c.latches (drop (length c.outputs) (sink_literals c)) (nexts_count c is);
  outputs = outputs_count c is;
}

pub sources_size : (c : Circuit) → CanWriteAiger c → c.net.sources ≡ length c.inputs + length c.latches
sources_size c is = is.proper.source_count ∙ length-append c.inputs (map latch_output c.latches) ∙ ap (λ (n : ℕ). length c.inputs + n) (length-map c.latches latch_output)

pub free_left : (xs ys : List Name) → All IsFreeName (xs ++ ys) → All IsFreeName xs
free_left [] ys all = All-nil IsFreeName
free_left (x ∷ xs) ys all = All-cons IsFreeName x xs (All-head IsFreeName x (xs ++ ys) all) (free_left xs ys (All-tail IsFreeName x (xs ++ ys) all))

pub free_right : (xs ys : List Name) → All IsFreeName (xs ++ ys) → All IsFreeName ys
free_right [] ys all = all
free_right (x ∷ xs) ys all = free_right xs ys (All-tail IsFreeName x (xs ++ ys) all)

pub written_aig : (c : Circuit) → CanWriteAiger c → IsAig (file_of c)
unfolding file_of
written_aig c is =
    let k = circuit_counts c in
    let f = file_by c (mapped c.net) (sink_literals c) in
    let same : k ≡ counts_of f = counts_are c is in
    let shape = circuit_shaped c is in
    let size = sources_size c is in
    let lows = sinks_low c is c.net.sinks is.proper.net.sinks in
    let sources = free_left (sources_of c) c.outputs is.free in
    record {
      counts = subst AreCounts same (record {
        variables = omega (arith, shape.few, is.proper.gates, is.sources, is.proper.source_count);
        sources = omega (arith, size, is.sources, is.proper.source_count);
        outputs = is.outputs;
        room = omega (arith, size);
      });
      inputs = subst (λ (n : Counts). All (IsVariable n) f.inputs) same (evens_are k 1 (length c.inputs) (omega arith) (omega (arith, size)));
      latches = subst (λ (n : Counts). All (IsLatchAt n) f.latches) same
          (latches_are k (1 + length c.inputs) c.latches (drop (length c.outputs) (sink_literals c)) (omega arith) (omega (arith, size))
          (drop_all (IsLiteral k) (length c.outputs) (sink_literals c) lows));
      outputs = subst (λ (n : Counts). All (IsLiteral n) f.outputs) same (take_all (IsLiteral k) (length c.outputs) (sink_literals c) lows);
      gates = subst (λ (n : Counts). All (IsGateAt n) f.gates) same (gates_are k c.net.sources (mapped c.net).gates (omega arith) shape.gates);
      symbols = subst (λ (n : Counts). All (IsSymbolAt n) f.symbols) same
          (All-append (IsSymbolAt k) (symbols_from kinds.Input 0 c.inputs ++ symbols_from kinds.Latch 0 (map latch_output c.latches)) (symbols_from kinds.Output 0 c.outputs)
          (All-append (IsSymbolAt k) (symbols_from kinds.Input 0 c.inputs) (symbols_from kinds.Latch 0 (map latch_output c.latches))
          (symbols_are k kinds.Input 0 c.inputs (omega arith) is.proper.inputs (free_left c.inputs (map latch_output c.latches) sources))
          (symbols_are k kinds.Latch 0 (map latch_output c.latches) (omega (arith, length-map c.latches latch_output)) (latch_names_are c.latches is.proper.latches)
          (free_right c.inputs (map latch_output c.latches) sources)))
          (symbols_are k kinds.Output 0 c.outputs (omega arith) is.proper.outputs (free_right (sources_of c) c.outputs is.free)));
    }
