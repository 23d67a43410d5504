-- The names of a file whose symbols are names are names.
use Rattle.std.proofs.Common.{◌≡◌, ℕ, zero, suc, ◌+◌, ◌*◌, ◌%◌, ◌^◌, ◌≤◌, ◌<◌, true, false, List, [], ◌∷◌, ◌++◌, length, map, refl, subst, arith, append_assoc, length-append}
use Rattle.std.specs.Prelude.{not, ◌&&◌, ◌==◌, nat_le, if◌then◌else◌, All, decimal, codes, slice_index_or, slice_set, ◌/◌}
use Rattle.std.proofs.lemmas.Bool.{cond_both, and_parts, and_from, not_from_false, le-leb, ne_eqb}
use Rattle.std.proofs.lemmas.List.Elements.{All-nil, All-cons, All-head, All-tail}
use Rattle.std.proofs.lemmas.Fmt.{decimal_by_steps, length-decimal-le}
use Rattle.net_theory.specs.Document.{Name, IsName, is_name, is_name_byte}
use Rattle.aiger_text.specs.declared.file.PortKind.{PortKind}
use Rattle.aiger_text.specs.declared.file.PortKind.TheVariants.{Input, Latch, Output}
use Rattle.aiger_text.specs.declared.file.Symbol.{Symbol}
use Rattle.aiger_text.specs.File.{AigFile}
use Rattle.aiger_text.specs.declared.file.Counts.{Counts}
use Rattle.aiger_text.specs.Valid.{counts_of, IsSymbolAt, IsAig}
use Rattle.aiger_text.specs.Naming.{numbered, numbered_from, gate_name, gate_names_from, is_kind, with_symbols, input_names, latch_names, output_names, with_names, literal_of, gate_names, variable_names, name_at}

-- ---- numbered names

name_push : (n : Name) (b : ℕ) → is_name n ≡ true → is_name_byte b ≡ true → (b == 92) ≡ false → is_name (n ++ b ∷ []) ≡ true
unfolding is_name
name_push [] b e good other = absurd cc
name_push (c ∷ []) b e good other =
    and_from (is_name_byte c) (is_name (b ∷ [])) (and_parts (is_name_byte c) (not (c == 92)) e).0
    (and_from (is_name_byte b) (not (b == 92)) good (not_from_false (b == 92) other))
name_push (c ∷ d ∷ bs) b e good other =
    let p = and_parts (is_name_byte c) (is_name (d ∷ bs)) e in
    and_from (is_name_byte c) (is_name (d ∷ bs ++ b ∷ [])) p.0 (name_push (d ∷ bs) b p.1 good other)

digit_good : (d : ℕ) → d < 10 → is_name_byte (48 + d) ≡ true
digit_good d low =
    and_from (nat_le 33 (48 + d) && nat_le (48 + d) 126) (not ((48 + d) == 35))
    (and_from (nat_le 33 (48 + d)) (nat_le (48 + d) 126) (le-leb 33 (48 + d) (omega arith)) (le-leb (48 + d) 126 (omega (arith, low))))
    (not_from_false ((48 + d) == 35) (ne_eqb (48 + d) 35 (λ e. omega (arith, e))))

digit_other : (d : ℕ) → d < 10 → ((48 + d) == 92) ≡ false
digit_other d low = ne_eqb (48 + d) 92 (λ e. omega (arith, e, low))

numbered_spelled : (prefix : Name) (k : ℕ) → is_name prefix ≡ true → k < 2 ^ 64 → is_name (numbered prefix k) ≡ true
numbered_spelled prefix k name low =
    decimal_by_steps
    (λ n ds. is_name (prefix ++ ds) ≡ true)
    (λ n digit. name_push prefix (48 + n) name (digit_good n digit) (digit_other n digit))
    (λ n ds high before. let d : n % 10 < 10 = omega arith in
    subst (λ (x : Name). is_name x ≡ true) (append_assoc prefix ds ((48 + n % 10) ∷ [])) (name_push (prefix ++ ds) (48 + n % 10) before (digit_good (n % 10) d) (digit_other (n % 10) d)))
    k
    low

pub numbered_name : (prefix : Name) (k : ℕ) → is_name prefix ≡ true → length prefix ≤ 2 → k < 2 ^ 64 → IsName (numbered prefix k)
numbered_name prefix k name short low =
    let size = length-decimal-le 20 k (omega arith) (omega (arith, low)) low in
    record { spelled = numbered_spelled prefix k name low; short = omega (arith, size, short, length-append prefix (decimal k)) }

numbered_names : (prefix : Name) (from n : ℕ) → is_name prefix ≡ true → length prefix ≤ 2 → from + n < 2 ^ 32 → All IsName (numbered_from prefix from n)
unfolding numbered_from
numbered_names prefix from zero name short low = All-nil IsName
numbered_names prefix from (suc n) name short low =
    All-cons IsName (numbered prefix from) (numbered_from prefix (from + 1) n)
    (numbered_name prefix from name short (omega (arith, low)))
    (numbered_names prefix (from + 1) n name short (omega (arith, low)))

gates_named : (from n : ℕ) → from + n < 2 ^ 32 → All IsName (gate_names_from from n)
unfolding gate_names_from is_name
gates_named from zero low = All-nil IsName
gates_named from (suc n) low =
    All-cons IsName (gate_name from) (gate_names_from (from + 1) n)
    (numbered_name (codes "&") (from * 2) refl (omega arith) (omega (arith, low)))
    (gates_named (from + 1) n (omega (arith, low)))

-- ---- names that are set

set_names : (names : List Name) (k : ℕ) (n : Name) → All IsName names → IsName n → All IsName (slice_set names k n)
set_names [] k n all is = All-nil IsName
set_names (m ∷ ms) zero n all is = All-cons IsName n ms is (All-tail IsName m ms all)
set_names (m ∷ ms) (suc k) n all is = All-cons IsName m (slice_set ms k n) (All-head IsName m ms all) (set_names ms k n (All-tail IsName m ms all) is)

abbrev pub IsNamed : Symbol → Type 0
IsNamed s = IsName s.name

symbols_named : (c : Counts) (ss : List Symbol) → All (IsSymbolAt c) ss → All IsNamed ss
symbols_named c [] all = All-nil IsNamed
symbols_named c (s ∷ ss) all = All-cons IsNamed s ss (All-head (IsSymbolAt c) s ss all).name (symbols_named c ss (All-tail (IsSymbolAt c) s ss all))

symbols_names : (kind : PortKind) (names : List Name) (ss : List Symbol) → All IsName names → All IsNamed ss → All IsName (with_symbols kind names ss)
unfolding with_symbols
symbols_names kind names [] all named = all
symbols_names kind names (s ∷ ss) all named =
    symbols_names kind (if is_kind kind s.kind then slice_set names s.position s.name else names) ss
    (cond_both (is_kind kind s.kind) (slice_set names s.position s.name) names (All IsName)
    (λ e. set_names names s.position s.name all (All-head IsNamed s ss named))
    (λ e. all))
    (All-tail IsNamed s ss named)

with_names_names : (names : List Name) (lits : List ℕ) (ns : List Name) → All IsName names → All IsName ns → All IsName (with_names names lits ns)
unfolding with_names
with_names_names names [] ns all named = all
with_names_names names (lit ∷ lits) [] all named = all
with_names_names names (lit ∷ lits) (n ∷ ns) all named =
    with_names_names (slice_set names (lit / 2) n) lits ns (set_names names (lit / 2) n all (All-head IsName n ns named)) (All-tail IsName n ns named)

ports_names : (prefix : Name) (kind : PortKind) (n : ℕ) (ss : List Symbol) → is_name prefix ≡ true →
    length prefix ≤ 2 → n < 2 ^ 32 → All IsNamed ss → All IsName (with_symbols kind (numbered_from prefix 0 n) ss)
ports_names prefix kind n ss name short low named =
    symbols_names kind (numbered_from prefix 0 n) ss (numbered_names prefix 0 n name short (omega (arith, low))) named

pub outputs_are_names : (f : AigFile) → IsAig f → All IsName (output_names f)
unfolding is_name
outputs_are_names f is = ports_names (codes "o") Output (length f.outputs) f.symbols refl (omega arith) (omega (arith, is.counts.outputs)) (symbols_named (counts_of f) f.symbols is.symbols)

pub variables_are_names : (f : AigFile) → IsAig f → All IsName (variable_names f)
unfolding is_name variable_names
variables_are_names f is =
    let named = symbols_named (counts_of f) f.symbols is.symbols in
    with_names_names (with_names (gate_names f) f.inputs (input_names f)) (map literal_of f.latches) (latch_names f)
    (with_names_names (gate_names f) f.inputs (input_names f)
    (gates_named 0 (f.variables + 1) (omega (arith, is.counts.variables)))
    (ports_names (codes "i") Input (length f.inputs) f.symbols refl (omega arith) (omega (arith, is.counts.sources)) named))
    (ports_names (codes "l") Latch (length f.latches) f.symbols refl (omega arith) (omega (arith, is.counts.sources)) named)

index_name : (names : List Name) (k : ℕ) → All IsName names → IsName (slice_index_or names k (codes "&"))
unfolding is_name
index_name [] k all = record { spelled = refl; short = omega arith }
index_name (n ∷ ns) zero all = All-head IsName n ns all
index_name (n ∷ ns) (suc k) all = index_name ns k (All-tail IsName n ns all)

pub name_at_is : (names : List Name) (lit : ℕ) → All IsName names → IsName (name_at names lit)
name_at_is names lit all = index_name names (lit / 2) all
