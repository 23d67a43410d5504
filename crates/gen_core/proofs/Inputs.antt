-- The inputs of blocks are valid, distinct names, with letters before those of tables.
use Rattle.std.specs.Prelude.{◌≡◌, ℕ, zero, suc, ◌%◌, ◌^◌, ◌≤◌, ◌<◌, Bool, true, false, ◌&&◌, ◌==◌, nat_le, List, [], ◌∷◌, All, codes, refl}
use Rattle.std.proofs.Common.{arith, sym, ◌∙◌, inl, ⊎_elim}
use Rattle.std.proofs.lemmas.Bool.{and_parts, cond_both, false_from_ne_true, leb-true}
use Rattle.std.proofs.lemmas.List.Elements.{All-nil, All-cons}
use Rattle.net_theory.specs.Document.{Name, IsName, has, are_distinct}
use Rattle.net_theory.specs.NameLaws.{has_none, has_cases, append_distinct}
use Rattle.blif_laws.specs.LetterNames.{letter_name, letters_same}
use Rattle.gen_core.specs.Generated.{name_of, names_of, block_inputs, of_blocks}
use Rattle.gen_core.proofs.BlockLaws.{of_all, of_found}
use Rattle.gen_core.proofs.Rows.{IsOlder}

-- letters up to `o`, which come before the letters that tables drive
abbrev pub are_letters : List ℕ → Bool
are_letters [] = true
are_letters (l ∷ ls) = (nat_le 97 l && nat_le l 122) && are_letters ls

abbrev are_low : List ℕ → Bool
are_low [] = true
are_low (l ∷ ls) = nat_le l 111 && are_low ls

pub names_are : (k : ℕ) (ls : List ℕ) → k < 2 ^ 64 → are_letters ls ≡ true → All IsName (names_of k ls)
names_are k [] low good = All-nil IsName
names_are k (l ∷ ls) low good =
    let p = and_parts (nat_le 97 l && nat_le l 122) (are_letters ls) good in
    let q = and_parts (nat_le 97 l) (nat_le l 122) p.0 in
    All-cons IsName (name_of k l) (names_of k ls) (letter_name l k (leb-true 97 l q.0) (leb-true l 122 q.1) low) (names_are k ls low p.1)

names_older : (k : ℕ) (ls : List ℕ) → k < 2 ^ 64 → are_low ls ≡ true → All (IsOlder 0 112) (names_of k ls)
names_older k [] low good = All-nil (IsOlder 0 112)
names_older k (l ∷ ls) low good =
    let p = and_parts (nat_le l 111) (are_low ls) good in
    let up : l ≤ 111 = leb-true l 111 p.0 in
    let first : IsOlder 0 112 (name_of k l) = record { block = k; letter = l; low = low; is = refl; before = inl (omega (arith, up)) } in
    All-cons (IsOlder 0 112) (name_of k l) (names_of k ls) first (names_older k ls low p.1)

-- a property of both lists of inputs holds of a block's inputs
pub of_inputs : (P : List Name → Type 0) (k : ℕ) → P (names_of k (codes "ab")) → P (names_of k (codes "abc")) → P (block_inputs k)
of_inputs P k two three = cond_both (k % 3 == 0) (names_of k (codes "ab")) (names_of k (codes "abc")) P (λ e. two) (λ e. three)

pub inputs_names : (n : ℕ) → n ≤ 2 ^ 64 → All IsName (of_blocks block_inputs n)
inputs_names n low =
    of_all IsName block_inputs n (λ k below. let k_low : k < 2 ^ 64 = omega (arith, low, below) in
    of_inputs (λ (ns : List Name). All IsName ns) k (names_are k (codes "ab") k_low refl) (names_are k (codes "abc") k_low refl))

pub inputs_older : (n : ℕ) → n ≤ 2 ^ 64 → All (IsOlder 0 112) (of_blocks block_inputs n)
inputs_older n low =
    of_all (IsOlder 0 112) block_inputs n (λ k below. let k_low : k < 2 ^ 64 = omega (arith, low, below) in
    of_inputs (λ (ns : List Name). All (IsOlder 0 112) ns) k (names_older k (codes "ab") k_low refl) (names_older k (codes "abc") k_low refl))

-- ---- they are distinct

named_found : (k : ℕ) (ls : List ℕ) (m : Name) → has (names_of k ls) m ≡ true → (l : ℕ) × (m ≡ name_of k l)
named_found k [] m there = absurd (has_none m there)
named_found k (l ∷ ls) m there =
    ⊎_elim
    (λ here. (l, here))
    (λ rest. named_found k ls m rest)
    (has_cases (name_of k l) (names_of k ls) m there)

input_found : (k : ℕ) (m : Name) → has (block_inputs k) m ≡ true → (l : ℕ) × (m ≡ name_of k l)
input_found k m = of_inputs (λ (ns : List Name). has ns m ≡ true → (l : ℕ) × (m ≡ name_of k l)) k (named_found k (codes "ab") m) (named_found k (codes "abc") m)

two_differ : (k : ℕ) → are_distinct (names_of k (codes "ab")) ≡ true
unfolding are_distinct has
two_differ k = refl

three_differ : (k : ℕ) → are_distinct (names_of k (codes "abc")) ≡ true
unfolding are_distinct has
three_differ k = refl

none_differ : are_distinct [] ≡ true
unfolding are_distinct
none_differ = refl

apart : (n : ℕ) (m : Name) → n < 2 ^ 64 → has (of_blocks block_inputs n) m ≡ true → has (block_inputs n) m ≡ false
apart n m low old =
    false_from_ne_true (has (block_inputs n) m) (λ new.
    let a = of_found block_inputs n m old in
    let b = input_found a.0 m a.2 in
    let c = input_found n m new in
    let same = letters_same b.0 c.0 a.0 n (omega (arith, a.1, low)) low (sym b.1 ∙ c.1) in
    omega (arith, a.1, same.1))

pub inputs_differ : (n : ℕ) → n ≤ 2 ^ 64 → are_distinct (of_blocks block_inputs n) ≡ true
unfolding of_blocks
inputs_differ zero low = none_differ
inputs_differ (suc n) low =
    append_distinct (of_blocks block_inputs n) (block_inputs n)
    (inputs_differ n (omega (arith, low)))
    (of_inputs (λ (ns : List Name). are_distinct ns ≡ true) n (two_differ n) (three_differ n))
    (λ m old. apart n m (omega (arith, low)) old)
