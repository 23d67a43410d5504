-- The names of a file that is parsed: those of its inputs, latches and outputs aren't reserved for gates, and each
-- variable whose name isn't reserved is an input or a latch.
use Rattle.std.proofs.Common.{◌≡◌, ℕ, zero, suc, ◌+◌, ◌*◌, ◌/◌, ◌<◌, true, List, [], ◌∷◌, ◌++◌, length, map, refl, ap, ◌∙◌, sym, subst, arith}
use Rattle.std.specs.Prelude.{◌==◌, if◌then◌else◌, All, codes, slice_get, slice_index_or, slice_set, Some}
use Rattle.std.proofs.lemmas.Bool.{both_ways, cond_both, eqb-true, eq-eqb}
use Rattle.std.proofs.lemmas.List.{length-map, length-set, get_or-set_same, get_or-set_other}
use Rattle.std.proofs.lemmas.List.Elements.{All-nil, All-cons, All-head, All-tail, All-append}
use Rattle.net_theory.specs.Document.{Name, has, latch_of, latch_output}
use Rattle.net_theory.specs.NameLaws.{all_at, map_at, at_map, has_at, has_left, has_right}
use Rattle.aiger_text.specs.declared.file.Counts.{Counts}
use Rattle.aiger_text.specs.declared.file.AigLatch.{AigLatch}
use Rattle.aiger_text.specs.declared.file.PortKind.{PortKind}
use Rattle.aiger_text.specs.declared.file.PortKind.TheVariants.{Input, Latch, Output}
use Rattle.aiger_text.specs.declared.file.Symbol.{Symbol}
use Rattle.aiger_text.specs.File.{AigFile}
use Rattle.aiger_text.specs.Valid.{counts_of, IsVariable, IsLatchAt, IsSymbolAt, IsAig}
use Rattle.aiger_text.specs.Naming.{numbered, numbered_from, gate_names_from, is_kind, with_symbols, input_names}
use Rattle.aiger_text.specs.Naming.{latch_names, output_names, with_names, literal_of, gate_names, variable_names, name_at}
use Rattle.aiger_text.specs.Meaning.{Signals, signals_of, latch_line}
use Rattle.aiger_laws.specs.Writable.{IsFreeName}
use Rattle.aiger_laws.proofs.WrittenNames.{numbered_length, gates_length}
use Rattle.aiger_laws.proofs.WrittenLayers.{never_free}

-- ---- names by position

set_all : (names : List Name) (k : ℕ) (n : Name) → All IsFreeName names → IsFreeName n → All IsFreeName (slice_set names k n)
set_all [] k n all is = All-nil IsFreeName
set_all (m ∷ ms) zero n all is = All-cons IsFreeName n ms is (All-tail IsFreeName m ms all)
set_all (m ∷ ms) (suc k) n all is = All-cons IsFreeName m (slice_set ms k n) (All-head IsFreeName m ms all) (set_all ms k n (All-tail IsFreeName m ms all) is)

numbered_free : (prefix : List ℕ) (from n : ℕ) → ((k : ℕ) → IsFreeName (numbered prefix k)) → All IsFreeName (numbered_from prefix from n)
unfolding numbered_from
numbered_free prefix from zero each = All-nil IsFreeName
numbered_free prefix from (suc n) each = All-cons IsFreeName (numbered prefix from) (numbered_from prefix (from + 1) n) (each from) (numbered_free prefix (from + 1) n each)

symbols_free : (c : Counts) (kind : PortKind) (names : List Name) (ss : List Symbol) → All IsFreeName names → All (IsSymbolAt c) ss → All IsFreeName (with_symbols kind names ss)
unfolding with_symbols
symbols_free c kind names [] all are = all
symbols_free c kind names (s ∷ ss) all are =
    symbols_free c kind (if is_kind kind s.kind then slice_set names s.position s.name else names) ss
    (cond_both (is_kind kind s.kind) (slice_set names s.position s.name) names (All IsFreeName)
    (λ e. set_all names s.position s.name all (All-head (IsSymbolAt c) s ss are).free)
    (λ e. all))
    (All-tail (IsSymbolAt c) s ss are)

symbols_length : (kind : PortKind) (names : List Name) (ss : List Symbol) → length (with_symbols kind names ss) ≡ length names
unfolding with_symbols
symbols_length kind names [] = refl
symbols_length kind names (s ∷ ss) =
    symbols_length kind (if is_kind kind s.kind then slice_set names s.position s.name else names) ss
    ∙ cond_both (is_kind kind s.kind) (slice_set names s.position s.name) names (λ (ns : List Name). length ns ≡ length names)
    (λ e. length-set names s.position s.name)
    (λ e. refl)

inputs_free : (f : AigFile) → IsAig f → All IsFreeName (input_names f)
inputs_free f is = symbols_free (counts_of f) Input (numbered_from (codes "i") 0 (length f.inputs)) f.symbols (numbered_free (codes "i") 0 (length f.inputs) (λ k. refl)) is.symbols

latches_free : (f : AigFile) → IsAig f → All IsFreeName (latch_names f)
latches_free f is = symbols_free (counts_of f) Latch (numbered_from (codes "l") 0 (length f.latches)) f.symbols (numbered_free (codes "l") 0 (length f.latches) (λ k. refl)) is.symbols

pub outputs_free : (f : AigFile) → IsAig f → All IsFreeName (output_names f)
outputs_free f is = symbols_free (counts_of f) Output (numbered_from (codes "o") 0 (length f.outputs)) f.symbols (numbered_free (codes "o") 0 (length f.outputs) (λ k. refl)) is.symbols

pub outputs_size : (f : AigFile) → length (output_names f) ≡ length f.outputs
outputs_size f = symbols_length Output (numbered_from (codes "o") 0 (length f.outputs)) f.symbols ∙ numbered_length (codes "o") 0 (length f.outputs)

inputs_size : (f : AigFile) → length (input_names f) ≡ length f.inputs
inputs_size f = symbols_length Input (numbered_from (codes "i") 0 (length f.inputs)) f.symbols ∙ numbered_length (codes "i") 0 (length f.inputs)

latches_size : (f : AigFile) → length (latch_names f) ≡ length f.latches
latches_size f = symbols_length Latch (numbered_from (codes "l") 0 (length f.latches)) f.symbols ∙ numbered_length (codes "l") 0 (length f.latches)

-- ---- names by variable

abbrev pub name_of : List Name → ℕ → Name
name_of names v = slice_index_or names v (codes "&")

set_free : (names : List Name) (k : ℕ) (n : Name) (v : ℕ) → IsFreeName n → IsFreeName (name_of names v) → IsFreeName (name_of (slice_set names k n) v)
set_free [] k n v free is = is
set_free (m ∷ ms) zero n zero free is = free
set_free (m ∷ ms) zero n (suc v) free is = is
set_free (m ∷ ms) (suc k) n zero free is = is
set_free (m ∷ ms) (suc k) n (suc v) free is = set_free ms k n v free is

keeps_free : (names : List Name) (lits : List ℕ) (ns : List Name) (v : ℕ) → All IsFreeName ns → IsFreeName (name_of names v) → IsFreeName (name_of (with_names names lits ns) v)
unfolding with_names
keeps_free names [] ns v all is = is
keeps_free names (lit ∷ lits) [] v all is = is
keeps_free names (lit ∷ lits) (n ∷ ns) v all is =
    keeps_free (slice_set names (lit / 2) n) lits ns v (All-tail IsFreeName n ns all) (set_free names (lit / 2) n v (All-head IsFreeName n ns all) is)

-- the literals are of variables that the names have
abbrev AreWithin : List Name → List ℕ → Type 0
AreWithin names lits = (i lit : ℕ) → slice_get lits i ≡ Some lit → lit / 2 < length names

named_free : (names : List Name) (lits : List ℕ) (ns : List Name) → length lits ≡ length ns → All IsFreeName ns → AreWithin names lits →
    (i lit : ℕ) → slice_get lits i ≡ Some lit → IsFreeName (name_of (with_names names lits ns) (lit / 2))
unfolding with_names
named_free names [] ns size all low i lit at = absurd cc
named_free names (x ∷ lits) [] size all low i lit at = absurd (omega (arith, size))
named_free names (x ∷ lits) (n ∷ ns) size all low zero lit at =
    let same : x ≡ lit = cc in
    let set = slice_set names (x / 2) n in
    let here : name_of set (x / 2) ≡ n = get_or-set_same names (x / 2) n (codes "&") (low 0 x refl) in
    keeps_free set lits ns (lit / 2) (All-tail IsFreeName n ns all)
    (subst (λ (k : ℕ). IsFreeName (name_of set (k / 2))) same (subst IsFreeName (sym here) (All-head IsFreeName n ns all)))
named_free names (x ∷ lits) (n ∷ ns) size all low (suc i) lit at =
    named_free (slice_set names (x / 2) n) lits ns (omega (arith, size)) (All-tail IsFreeName n ns all)
    (λ j l at_j. omega (arith, low (suc j) l at_j, length-set names (x / 2) n)) i lit at

names_length : (names : List Name) (lits : List ℕ) (ns : List Name) → length (with_names names lits ns) ≡ length names
unfolding with_names
names_length names [] ns = refl
names_length names (lit ∷ lits) [] = refl
names_length names (lit ∷ lits) (n ∷ ns) = names_length (slice_set names (lit / 2) n) lits ns ∙ length-set names (lit / 2) n

-- the name of a variable is what it was before, unless one of the literals is that variable's
named_cases : (P : Type 0) (names : List Name) (lits : List ℕ) (ns : List Name) (v : ℕ) → (name_of (with_names names lits ns) v ≡ name_of names v → P) →
    ((i lit : ℕ) → slice_get lits i ≡ Some lit → lit / 2 ≡ v → P) → P
unfolding with_names
named_cases P names [] ns v same found = same refl
named_cases P names (lit ∷ lits) [] v same found = same refl
named_cases P names (lit ∷ lits) (n ∷ ns) v same found =
    named_cases P (slice_set names (lit / 2) n) lits ns v
    (λ e. cond_both (lit / 2 == v) 0 0 (λ (z : ℕ). P)
    (λ here. found 0 lit refl (eqb-true (lit / 2) v here))
    (λ other. same (e ∙ get_or-set_other names (lit / 2) v n (codes "&") (λ f. both_ways (lit / 2 == v) other (eq-eqb (lit / 2) v (sym f))))))
    (λ i x at half. found (suc i) x at half)

-- the names of gates and of the constant are reserved
gate_reserved : (from n v : ℕ) → IsFreeName (name_of (gate_names_from from n) v) → ⊥
unfolding gate_names_from
gate_reserved from zero v e = absurd cc
gate_reserved from (suc n) zero e = never_free (from * 2) e
gate_reserved from (suc n) (suc v) e = gate_reserved (from + 1) n v e

-- ---- the sources of a file

abbrev first_names : AigFile → List Name
first_names f = with_names (gate_names f) f.inputs (input_names f)

first_within : (f : AigFile) → IsAig f → AreWithin (gate_names f) f.inputs
first_within f is i lit at = omega (arith, (all_at (IsVariable (counts_of f)) f.inputs i lit is.inputs at).within, gates_length 0 (f.variables + 1))

latch_within : (f : AigFile) → IsAig f → AreWithin (first_names f) (map literal_of f.latches)
latch_within f is i lit at =
    let found = at_map literal_of f.latches i lit at in
    let low = (all_at (IsLatchAt (counts_of f)) f.latches i found.0 is.latches found.1).literal.within in
    omega (arith, low, found.2, gates_length 0 (f.variables + 1), names_length (gate_names f) f.inputs (input_names f))

input_is : (f : AigFile) (i lit : ℕ) → IsAig f → slice_get f.inputs i ≡ Some lit → IsFreeName (name_of (variable_names f) (lit / 2))
unfolding variable_names
input_is f i lit is at =
    keeps_free (first_names f) (map literal_of f.latches) (latch_names f) (lit / 2) (latches_free f is)
    (named_free (gate_names f) f.inputs (input_names f) (sym (inputs_size f)) (inputs_free f is) (first_within f is) i lit at)

latch_is : (f : AigFile) (i lit : ℕ) → IsAig f → slice_get (map literal_of f.latches) i ≡ Some lit → IsFreeName (name_of (variable_names f) (lit / 2))
unfolding variable_names
latch_is f i lit is at =
    named_free (first_names f) (map literal_of f.latches) (latch_names f) (length-map f.latches literal_of ∙ sym (latches_size f)) (latches_free f is) (latch_within f is) i lit at

names_all : (names : List Name) (lits : List ℕ) → ((i lit : ℕ) → slice_get lits i ≡ Some lit → IsFreeName (name_of names (lit / 2))) → All IsFreeName (map (name_at names) lits)
names_all names [] each = All-nil IsFreeName
names_all names (lit ∷ lits) each =
    All-cons IsFreeName (name_at names lit) (map (name_at names) lits) (each 0 lit refl) (names_all names lits (λ i x at. each (suc i) x at))

-- the names of the inputs, then those of the latches
abbrev pub file_sources : AigFile → List Name
file_sources f = map (name_at (variable_names f)) f.inputs ++ map latch_output (map latch_of (map (latch_line (signals_of f)) f.latches))

latch_outputs : (s : Signals) (ls : List AigLatch) → map latch_output (map latch_of (map (latch_line s) ls)) ≡ map (name_at s.names) (map literal_of ls)
latch_outputs s [] = refl
latch_outputs s (l ∷ ls) = ap (λ (ns : List Name). name_at s.names l.literal ∷ ns) (latch_outputs s ls)

pub sources_free : (f : AigFile) → IsAig f → All IsFreeName (file_sources f)
sources_free f is =
    let names = variable_names f in
    All-append IsFreeName (map (name_at names) f.inputs) (map latch_output (map latch_of (map (latch_line (signals_of f)) f.latches)))
    (names_all names f.inputs (λ i lit at. input_is f i lit is at))
    (subst (All IsFreeName) (sym (latch_outputs (signals_of f) f.latches)) (names_all names (map literal_of f.latches) (λ i lit at. latch_is f i lit is at)))

-- a variable whose name isn't reserved is that of an input or of a latch
free_by : (f : AigFile) (v : ℕ) → IsFreeName (name_of (variable_names f) v) → (P : Type 0) → ((i lit : ℕ) → slice_get f.inputs i ≡ Some lit → lit / 2 ≡ v → P) →
    ((i lit : ℕ) → slice_get (map literal_of f.latches) i ≡ Some lit → lit / 2 ≡ v → P) → P
unfolding variable_names
free_by f v free P input latch =
    named_cases P (first_names f) (map literal_of f.latches) (latch_names f) v
    (λ e. named_cases P (gate_names f) f.inputs (input_names f) v
    (λ g. absurd (gate_reserved 0 (f.variables + 1) v (subst IsFreeName (e ∙ g) free)))
    (λ i lit at half. input i lit at half))
    (λ i lit at half. latch i lit at half)

-- a variable whose name isn't reserved is a source
pub free_source : (f : AigFile) (v : ℕ) → IsFreeName (name_of (variable_names f) v) → has (file_sources f) (name_of (variable_names f) v) ≡ true
free_source f v free =
    let names = variable_names f in
    let n = name_of names v in
    let ins = map (name_at names) f.inputs in
    let outs = map latch_output (map latch_of (map (latch_line (signals_of f)) f.latches)) in
    let at_place : (lits : List ℕ) (i lit : ℕ) → slice_get lits i ≡ Some lit → lit / 2 ≡ v → has (map (name_at names) lits) n ≡ true =
    λ lits i lit at half. has_at (map (name_at names) lits) i n (map_at (name_at names) lits i lit at ∙ ap (λ (k : ℕ). Some (name_of names k)) half) in
    free_by f v free (has (ins ++ outs) n ≡ true)
    (λ i lit at half. has_left ins outs n (at_place f.inputs i lit at half))
    (λ i lit at half. has_right ins outs n
    (subst (λ (ns : List Name). has ns n ≡ true) (sym (latch_outputs (signals_of f) f.latches)) (at_place (map literal_of f.latches) i lit at half)))
