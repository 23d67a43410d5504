-- The names of a written file are those of its circuit.
use Rattle.std.proofs.Common.{◌≡◌, ℕ, zero, suc, ◌+◌, ◌*◌, ◌/◌, true, false, List, [], ◌∷◌, ◌++◌, length, map, refl, ap, ◌∙◌, sym, subst, arith, append_assoc, append-nil, length-append}
use Rattle.std.specs.Prelude.{codes, slice_set, slice_index_or}
use Rattle.std.proofs.lemmas.Bool.{cond-true, cond-false, cond_both}
use Rattle.std.proofs.lemmas.List.{length-map}
use Rattle.net_theory.specs.Document.{Name, is_same, latch_output}
use Rattle.net_theory.specs.Document as documents
use Rattle.net_theory.specs.NameLaws.{same_name}
use Rattle.net_theory.specs.Circuit.{Circuit, sources_of}
use Rattle.aiger_text.specs.declared.file.PortKind.{PortKind}
use Rattle.aiger_text.specs.declared.file.PortKind.TheVariants.{Input, Latch, Output}
use Rattle.aiger_text.specs.declared.file.Symbol.{Symbol}
use Rattle.aiger_text.specs.Naming.{numbered_from, gate_name, gate_names_from, is_kind, with_symbols, with_names, literal_of, name_at}
use Rattle.aiger_text.specs.Spelling.{kind_byte}
use Rattle.aiger_core.specs.Written.{even_from, mapped, latches_from, default_name, symbol_of, symbols_from}

-- ---- lists

set_middle : {A : Type 0} (xs : List A) (y : A) (ys : List A) (k : ℕ) (z : A) → length xs ≡ k → slice_set (xs ++ y ∷ ys) k z ≡ xs ++ z ∷ ys
set_middle [] y ys k z e = subst (λ (n : ℕ). slice_set (y ∷ ys) n z ≡ z ∷ ys) e refl
set_middle {A} (x ∷ xs) y ys zero z e = absurd (omega (arith, e))
set_middle {A} (x ∷ xs) y ys (suc k) z e = ap (λ (zs : List A). x ∷ zs) (set_middle xs y ys k z (omega (arith, e)))

half_of : (k : ℕ) → k * 2 / 2 ≡ k
half_of k = omega arith

even_length : (k n : ℕ) → length (even_from k n) ≡ n
unfolding even_from
even_length k zero = refl
even_length k (suc n) = ap suc (even_length (k + 1) n)

-- ---- names of consecutive variables

pub names_set : (before olds ns rest : List Name) (k : ℕ) → length before ≡ k → length olds ≡ length ns →
    with_names (before ++ (olds ++ rest)) (even_from k (length ns)) ns ≡ before ++ (ns ++ rest)
unfolding with_names even_from
names_set before [] [] rest k e f = refl
names_set before (o ∷ olds) [] rest k e f = absurd (omega (arith, f))
names_set before [] (n ∷ ns) rest k e f = absurd (omega (arith, f))
names_set before (o ∷ olds) (n ∷ ns) rest k e f =
    ap (λ (names : List Name). with_names names (even_from (k + 1) (length ns)) ns)
    (ap (λ (p : ℕ). slice_set (before ++ o ∷ (olds ++ rest)) p n) (half_of k)
    ∙ set_middle before o (olds ++ rest) k n e
    ∙ sym (append_assoc before (n ∷ []) (olds ++ rest)))
    ∙ names_set (before ++ n ∷ []) olds ns rest (k + 1) (length-append before (n ∷ []) ∙ ap (λ (p : ℕ). p + 1) e) (omega (arith, f))
    ∙ append_assoc before (n ∷ []) (ns ++ rest)

index_middle : (before : List Name) (n : Name) (rest : List Name) (k : ℕ) (d : Name) → length before ≡ k → slice_index_or (before ++ n ∷ rest) k d ≡ n
index_middle [] n rest k d e = subst (λ (p : ℕ). slice_index_or (n ∷ rest) p d ≡ n) e refl
index_middle (b ∷ before) n rest zero d e = absurd (omega (arith, e))
index_middle (b ∷ before) n rest (suc k) d e = index_middle before n rest k d (omega (arith, e))

pub names_read : (before ns rest : List Name) (k : ℕ) → length before ≡ k → map (name_at (before ++ (ns ++ rest))) (even_from k (length ns)) ≡ ns
unfolding even_from
names_read before [] rest k e = refl
names_read before (n ∷ ns) rest k e =
    ap (λ (m : Name). m ∷ map (name_at (before ++ n ∷ (ns ++ rest))) (even_from (k + 1) (length ns)))
    (ap (λ (p : ℕ). slice_index_or (before ++ n ∷ (ns ++ rest)) p (codes "&")) (half_of k) ∙ index_middle before n (ns ++ rest) k (codes "&") e)
    ∙ ap (λ (ms : List Name). n ∷ ms)
    (ap (λ (xs : List Name). map (name_at xs) (even_from (k + 1) (length ns))) (sym (append_assoc before (n ∷ []) (ns ++ rest)))
    ∙ names_read (before ++ n ∷ []) ns rest (k + 1) (length-append before (n ∷ []) ∙ ap (λ (p : ℕ). p + 1) e))

-- ---- symbols

kind_itself : (kind : PortKind) → is_kind kind kind ≡ true
kind_itself Input = refl
kind_itself Latch = refl
kind_itself Output = refl

abbrev symbol_at : PortKind → ℕ → Name → Symbol
symbol_at kind k n = record { kind = kind; position = k; name = n }

-- a name that has no symbol is the one that was there
symbol_set : (kind : PortKind) (before : List Name) (n : Name) (rest : List Name) (more : List Symbol) (k : ℕ) → length before ≡ k →
    with_symbols kind (before ++ default_name kind k ∷ rest) (symbol_of kind k n ++ more) ≡ with_symbols kind (before ++ n ∷ rest) more
unfolding with_symbols symbol_of
symbol_set kind before n rest more k e =
    let d = default_name kind k in
    cond_both (is_same n d) [] (symbol_at kind k n ∷ [])
    (λ (ss : List Symbol). with_symbols kind (before ++ d ∷ rest) (ss ++ more) ≡ with_symbols kind (before ++ n ∷ rest) more)
    (λ same. ap (λ (m : Name). with_symbols kind (before ++ m ∷ rest) more) (sym (same_name n d same)))
    (λ other. ap (λ (names : List Name). with_symbols kind names more)
    (cond-true (is_kind kind kind) (slice_set (before ++ d ∷ rest) k n) (before ++ d ∷ rest) (kind_itself kind) ∙ set_middle before d rest k n e))

-- the symbols of a kind set all names
pub symbols_set : (kind : PortKind) (before ns : List Name) (more : List Symbol) (k : ℕ) → length before ≡ k →
    with_symbols kind (before ++ numbered_from (kind_byte kind ∷ []) k (length ns)) (symbols_from kind k ns ++ more) ≡ with_symbols kind (before ++ ns) more
unfolding with_symbols symbols_from numbered_from
symbols_set kind before [] more k e = refl
symbols_set kind before (n ∷ ns) more k e =
    let olds = numbered_from (kind_byte kind ∷ []) (k + 1) (length ns) in
    let later = symbols_from kind (k + 1) ns in
    ap (with_symbols kind (before ++ default_name kind k ∷ olds)) (append_assoc (symbol_of kind k n) later more)
    ∙ symbol_set kind before n olds (later ++ more) k e
    ∙ ap (λ (names : List Name). with_symbols kind names (later ++ more)) (sym (append_assoc before (n ∷ []) olds))
    ∙ symbols_set kind (before ++ n ∷ []) ns more (k + 1) (length-append before (n ∷ []) ∙ ap (λ (p : ℕ). p + 1) e)
    ∙ ap (λ (names : List Name). with_symbols kind names more) (append_assoc before (n ∷ []) ns)

symbol_other : (kind other : PortKind) (names : List Name) (n : Name) (more : List Symbol) (k : ℕ) → is_kind kind other ≡ false →
    with_symbols kind names (symbol_of other k n ++ more) ≡ with_symbols kind names more
unfolding with_symbols symbol_of
symbol_other kind other names n more k e =
    cond_both (is_same n (default_name other k)) [] (symbol_at other k n ∷ [])
    (λ (ss : List Symbol). with_symbols kind names (ss ++ more) ≡ with_symbols kind names more)
    (λ same. refl)
    (λ differs. ap (λ (xs : List Name). with_symbols kind xs more) (cond-false (is_kind kind other) (slice_set names k n) names e))

-- the symbols of another kind set none
pub symbols_other : (kind other : PortKind) (names ns : List Name) (more : List Symbol) (k : ℕ) → is_kind kind other ≡ false →
    with_symbols kind names (symbols_from other k ns ++ more) ≡ with_symbols kind names more
unfolding with_symbols symbols_from
symbols_other kind other names [] more k e = refl
symbols_other kind other names (n ∷ ns) more k e =
    ap (with_symbols kind names) (append_assoc (symbol_of other k n) (symbols_from other (k + 1) ns) more)
    ∙ symbol_other kind other names n (symbols_from other (k + 1) ns ++ more) k e
    ∙ symbols_other kind other names ns more (k + 1) e

pub numbered_length : (prefix : List ℕ) (from n : ℕ) → length (numbered_from prefix from n) ≡ n
unfolding numbered_from
numbered_length prefix from zero = refl
numbered_length prefix from (suc n) = ap suc (numbered_length prefix (from + 1) n)

pub gates_length : (from n : ℕ) → length (gate_names_from from n) ≡ n
unfolding gate_names_from
gates_length from zero = refl
gates_length from (suc n) = ap suc (gates_length (from + 1) n)

pub gates_split : (from k n : ℕ) → gate_names_from from (k + n) ≡ gate_names_from from k ++ gate_names_from (from + k) n
unfolding gate_names_from
gates_split from zero n = let size : zero + n ≡ n = omega arith in let start : from ≡ from + 0 = omega arith in
    ap (gate_names_from from) size ∙ ap (λ (p : ℕ). gate_names_from p n) start
gates_split from (suc k) n =
    let size : suc k + n ≡ suc (k + n) = omega arith in
    let start : from + 1 + k ≡ from + suc k = omega arith in
    ap (gate_names_from from) size
    ∙ ap (λ (ns : List Name). gate_name from ∷ ns) (gates_split (from + 1) k n)
    ∙ ap (λ (p : ℕ). gate_name from ∷ (gate_names_from (from + 1) k ++ gate_names_from p n)) start

-- ---- the names of a file

abbrev pub circuit_symbols : Circuit → List Symbol
circuit_symbols c = symbols_from Input 0 c.inputs ++ symbols_from Latch 0 (map latch_output c.latches) ++ symbols_from Output 0 c.outputs

pub input_names_are : (c : Circuit) (n : ℕ) → length c.inputs ≡ n → with_symbols Input (numbered_from (codes "i") 0 n) (circuit_symbols c) ≡ c.inputs
unfolding with_symbols
input_names_are c n e =
    let lines = symbols_from Latch 0 (map latch_output c.latches) in
    let outs = symbols_from Output 0 c.outputs in
    ap (λ (m : ℕ). with_symbols Input (numbered_from (codes "i") 0 m) (circuit_symbols c)) (sym e)
    ∙ ap (with_symbols Input (numbered_from (codes "i") 0 (length c.inputs))) (append_assoc (symbols_from Input 0 c.inputs) lines outs)
    ∙ symbols_set Input [] c.inputs (lines ++ outs) 0 refl
    ∙ symbols_other Input Latch c.inputs (map latch_output c.latches) outs 0 refl
    ∙ ap (with_symbols Input c.inputs) (sym (append-nil outs))
    ∙ symbols_other Input Output c.inputs c.outputs [] 0 refl

pub latch_names_are : (c : Circuit) (n : ℕ) → length c.latches ≡ n → with_symbols Latch (numbered_from (codes "l") 0 n) (circuit_symbols c) ≡ map latch_output c.latches
unfolding with_symbols
latch_names_are c n e =
    let ins = symbols_from Input 0 c.inputs in
    let outs = symbols_from Output 0 c.outputs in
    let lines = symbols_from Latch 0 (map latch_output c.latches) in
    let olds = numbered_from (codes "l") 0 n in
    ap (with_symbols Latch olds) (append_assoc ins lines outs)
    ∙ symbols_other Latch Input olds c.inputs (lines ++ outs) 0 refl
    ∙ ap (λ (m : ℕ). with_symbols Latch (numbered_from (codes "l") 0 m) (lines ++ outs)) (sym e ∙ sym (length-map c.latches latch_output))
    ∙ symbols_set Latch [] (map latch_output c.latches) outs 0 refl
    ∙ ap (with_symbols Latch (map latch_output c.latches)) (sym (append-nil outs))
    ∙ symbols_other Latch Output (map latch_output c.latches) c.outputs [] 0 refl

pub output_names_are : (c : Circuit) (n : ℕ) → length c.outputs ≡ n → with_symbols Output (numbered_from (codes "o") 0 n) (circuit_symbols c) ≡ c.outputs
unfolding with_symbols
output_names_are c n e =
    let ins = symbols_from Input 0 c.inputs in
    let lines = symbols_from Latch 0 (map latch_output c.latches) in
    let outs = symbols_from Output 0 c.outputs in
    let olds = numbered_from (codes "o") 0 n in
    ap (with_symbols Output olds) (append_assoc ins lines outs)
    ∙ symbols_other Output Input olds c.inputs (lines ++ outs) 0 refl
    ∙ symbols_other Output Latch olds (map latch_output c.latches) outs 0 refl
    ∙ ap (with_symbols Output olds) (sym (append-nil outs))
    ∙ ap (λ (m : ℕ). with_symbols Output (numbered_from (codes "o") 0 m) (outs ++ [])) (sym e)
    ∙ symbols_set Output [] c.outputs [] 0 refl

latch_literals : (node : ℕ) (ls : List documents.Latch) (nexts : List ℕ) → length ls ≡ length nexts → map literal_of (latches_from node ls nexts) ≡ even_from node (length ls)
unfolding latches_from even_from
latch_literals node [] nexts e = refl
latch_literals node (l ∷ ls) [] e = absurd (omega (arith, e))
latch_literals node (l ∷ ls) (n ∷ ns) e = ap (λ (xs : List ℕ). node * 2 ∷ xs) (latch_literals (node + 1) ls ns (omega (arith, e)))

-- the names by variable: the constant, the sources, the gates
abbrev pub circuit_names : Circuit → List Name
circuit_names c = gate_name 0 ∷ (sources_of c ++ gate_names_from (c.net.sources + 1) (length (mapped c.net).gates))

-- all names, before those of the sources are set
names_before : (i l g : ℕ) → gate_names_from 0 (i + l + g + 1) ≡ gate_name 0 ∷ (gate_names_from 1 i ++ (gate_names_from (1 + i) l ++ gate_names_from (1 + i + l) g))
unfolding gate_names_from
names_before i l g =
    let size : i + l + g + 1 ≡ suc (i + (l + g)) = omega arith in
    ap (gate_names_from 0) size
    ∙ ap (λ (ns : List Name). gate_name 0 ∷ ns) (gates_split 1 i (l + g))
    ∙ ap (λ (ns : List Name). gate_name 0 ∷ (gate_names_from 1 i ++ ns)) (gates_split (1 + i) l g)

pub names_are : (c : Circuit) (ins lines : List Name) (nexts : List ℕ) (g : ℕ) → ins ≡ c.inputs → lines ≡ map latch_output c.latches →
    length c.latches ≡ length nexts → c.net.sources ≡ length c.inputs + length c.latches →
    with_names (with_names (gate_names_from 0 (c.net.sources + g + 1)) (even_from 1 (length c.inputs)) ins)
    (map literal_of (latches_from (1 + length c.inputs) c.latches nexts)) lines
    ≡ gate_name 0 ∷ (sources_of c ++ gate_names_from (c.net.sources + 1) g)
names_are c ins lines nexts g same_ins same_lines count size =
    let i = length c.inputs in
    let l = length c.latches in
    let outs = map latch_output c.latches in
    let rest = gate_names_from (1 + i + l) g in
    let gates = gate_names_from (1 + i) l in
    let whole : c.net.sources + g + 1 ≡ i + l + g + 1 = omega (arith, size) in
    let first : 1 + i + l ≡ c.net.sources + 1 = omega (arith, size) in
    let after : length (gate_name 0 ∷ c.inputs) ≡ 1 + i = omega arith in
    ap (λ (n : ℕ). with_names (with_names (gate_names_from 0 n) (even_from 1 i) ins) (map literal_of (latches_from (1 + i) c.latches nexts)) lines) whole
    ∙ ap (λ (ns : List Name). with_names (with_names ns (even_from 1 i) ins) (map literal_of (latches_from (1 + i) c.latches nexts)) lines) (names_before i l g)
    ∙ ap (λ (ns : List Name). with_names (with_names (gate_name 0 ∷ (gate_names_from 1 i ++ (gates ++ rest))) (even_from 1 i) ns)
    (map literal_of (latches_from (1 + i) c.latches nexts)) lines) same_ins
    ∙ ap (λ (ns : List Name). with_names ns (map literal_of (latches_from (1 + i) c.latches nexts)) lines)
    (names_set (gate_name 0 ∷ []) (gate_names_from 1 i) c.inputs (gates ++ rest) 1 refl (gates_length 1 i))
    ∙ ap (λ (lits : List ℕ). with_names (gate_name 0 ∷ (c.inputs ++ (gates ++ rest))) lits lines) (latch_literals (1 + i) c.latches nexts count)
    ∙ ap (λ (ns : List Name). with_names (gate_name 0 ∷ (c.inputs ++ (gates ++ rest))) (even_from (1 + i) l) ns) same_lines
    ∙ ap (λ (n : ℕ). with_names (gate_name 0 ∷ (c.inputs ++ (gates ++ rest))) (even_from (1 + i) n) outs) (sym (length-map c.latches latch_output))
    ∙ names_set (gate_name 0 ∷ c.inputs) gates outs rest (1 + i) after (gates_length (1 + i) l ∙ sym (length-map c.latches latch_output))
    ∙ ap (λ (ns : List Name). gate_name 0 ∷ ns) (sym (append_assoc c.inputs outs rest))
    ∙ ap (λ (n : ℕ). gate_name 0 ∷ (sources_of c ++ gate_names_from n g)) first
