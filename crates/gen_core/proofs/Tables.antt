-- The tables of blocks are given by cubes, are in topological order after the inputs, and cost at most one gate
-- each.
use Rattle.std.specs.Prelude.{◌≡◌, ℕ, zero, suc, ◌%◌, ◌^◌, ◌≤◌, ◌<◌, Bool, true, false, ◌&&◌, ◌||◌, ◌==◌, nat_le, List}
use Rattle.std.specs.Prelude.{[], ◌∷◌, ◌++◌, length, map, All, Option, Some, None, option_to_list, codes, if◌then◌else◌}
use Rattle.std.specs.Prelude.{sum_by, refl}
use Rattle.std.proofs.Common.{arith, sym, ◌∙◌, ap, subst, append_assoc, append-nil}
use Rattle.std.proofs.lemmas.Bool.{cond_both, both_ways, and_parts, leb-true, eqb-true}
use Rattle.std.proofs.lemmas.List.{map-append}
use Rattle.std.proofs.lemmas.List.Elements.{All-nil, All-cons, All-head, All-tail}
use Rattle.std.proofs.lemmas.List.Sums.{sum_by-cons}
use Rattle.net_theory.specs.Cover.{Cover, is_cube}
use Rattle.net_theory.specs.Expansion.{unary_word, binary_word}
use Rattle.net_theory.specs.Document.{Name, IsName, is_same, has, Table, table_output}
use Rattle.net_theory.specs.NameLaws.{has_first, has_later, has_left}
use Rattle.net_theory.specs.Cost.{merged, merged_table, cover_cost, table_cost}
use Rattle.blif_laws.specs.LetterNames.{letter_short}
use Rattle.blif_laws.specs.Layers.{AreLayered, layered_append}
use Rattle.blif_laws.specs.Spelled.{IsSpelledTable}
use Rattle.gen_core.specs.Generated.{name_of, names_of, table_of, exclusive, conjunction, choice, block_inputs, block_tables, of_blocks}
use Rattle.gen_core.proofs.BlockLaws.{of_all, of_has_name}
use Rattle.gen_core.proofs.Rows.{is_known, Row, IsOlder, Knows, Layered, rows_layered}
use Rattle.gen_core.proofs.Inputs.{are_letters, names_are, inputs_older}

-- ---- the kinds of blocks, by letters

abbrev row : List ℕ → ℕ → List ℕ → Option (List ℕ) → Row
row inputs output first second = record { inputs = inputs; output = output; first = first; second = second }

abbrev exclusive_rows : List Row
exclusive_rows = row (codes "ab") 112 (codes "10") None ∷ row (codes "ab") 113 (codes "01") None ∷ row (codes "pq") 121 (codes "1-") (Some (codes "-1")) ∷ []

abbrev conjunction_rows : List Row
conjunction_rows = row (codes "ab") 112 (codes "11") None ∷ row (codes "ac") 113 (codes "11") None ∷ row (codes "pq") 121 (codes "11") None ∷ []

abbrev choice_rows : List Row
choice_rows = row (codes "a") 112 (codes "0") None ∷ row (codes "ab") 113 (codes "11") None ∷ row (codes "pc") 114 (codes "11") None ∷ row (codes "qr") 121 (codes "1-") (Some (codes "-1")) ∷ []

-- a property of each kind holds of every block
pub of_kind : (P : List Table → Type 0) (k : ℕ) → ((k % 3 == 0) ≡ true → P (exclusive k)) → ((k % 3 == 0) ≡ false → P (conjunction k)) → ((k % 3 == 0) ≡ false → P (choice k)) → P (block_tables k)
of_kind P k x c h =
    cond_both (k % 3 == 0) (exclusive k) (if k % 3 == 1 then conjunction k else choice k) P x
    (λ e. cond_both (k % 3 == 1) (conjunction k) (choice k) P (λ one. c e) (λ two. h e))

-- ---- layers

known_first : (k o : ℕ) (ls : List ℕ) (before : List Name) (l : ℕ) (b : Bool) → (l == o) ≡ b →
    has before (name_of k o) ≡ true → Knows k ls before → (l == o || is_known ls l) ≡ true →
    has before (name_of k l) ≡ true
known_first k o ls before l true is first rest e = subst (λ (m : ℕ). has before (name_of k m) ≡ true) (sym (eqb-true l o is)) first
known_first k o ls before l false is first rest e = rest l (sym (ap (λ (b : Bool). b || is_known ls l) is) ∙ e)

knows_names : (k : ℕ) (ls : List ℕ) (before : List Name) → ((m : Name) → has (names_of k ls) m ≡ true → has before m ≡ true) → Knows k ls before
knows_names k [] before here l e = absurd cc
knows_names k (o ∷ ls) before here l e = known_first k o ls before l (l == o) refl
    (here (name_of k o) (has_first (name_of k o) (names_of k ls)))
    (knows_names k ls before (λ m there. here m (has_later (name_of k o) (names_of k ls) m there))) e

two_inputs : (k : ℕ) (m : Name) → (k % 3 == 0) ≡ true → has (names_of k (codes "ab")) m ≡ true → has (block_inputs k) m ≡ true
two_inputs k m e there = cond_both (k % 3 == 0) (names_of k (codes "ab")) (names_of k (codes "abc")) (λ (ns : List Name). has ns m ≡ true) (λ is. there) (λ no. absurd (both_ways (k % 3 == 0) no e))

three_inputs : (k : ℕ) (m : Name) → (k % 3 == 0) ≡ false → has (names_of k (codes "abc")) m ≡ true → has (block_inputs k) m ≡ true
three_inputs k m e there = cond_both (k % 3 == 0) (names_of k (codes "ab")) (names_of k (codes "abc")) (λ (ns : List Name). has ns m ≡ true) (λ is. absurd (both_ways (k % 3 == 0) e is)) (λ no. there)

-- a block's tables, after names that include its inputs
kind_layered : (k : ℕ) (before : List Name) → k < 2 ^ 64 → All (IsOlder k 112) before → ((m : Name) → has (block_inputs k) m ≡ true → has before m ≡ true) → Layered k before (block_tables k)
kind_layered k before low older here =
    of_kind (λ (ts : List Table). Layered k before ts) k
    (λ e. rows_layered k before (codes "ab") 112 exclusive_rows low (omega arith) refl older (knows_names k (codes "ab") before (λ m there. here m (two_inputs k m e there))))
    (λ e. rows_layered k before (codes "abc") 112 conjunction_rows low (omega arith) refl older (knows_names k (codes "abc") before (λ m there. here m (three_inputs k m e there))))
    (λ e. rows_layered k before (codes "abc") 112 choice_rows low (omega arith) refl older (knows_names k (codes "abc") before (λ m there. here m (three_inputs k m e there))))

-- the tables of k blocks, after the inputs of n blocks
pub record AllLayered (n k : ℕ) : Type 0 where
  pub layers : AreLayered (of_blocks block_inputs n) (of_blocks block_tables k)
  pub older : All (IsOlder k 112) (of_blocks block_inputs n ++ map table_output (of_blocks block_tables k))

pub all_layered : (n k : ℕ) → n < 2 ^ 64 → k ≤ n → AllLayered n k
unfolding of_blocks
all_layered n zero low up = record {
  layers = tt;
  older = subst (λ (ns : List Name). All (IsOlder 0 112) ns) (sym (append-nil (of_blocks block_inputs n))) (inputs_older n (omega (arith, low)));
}
all_layered n (suc k) low up =
    let inputs = of_blocks block_inputs n in
    let prefix = of_blocks block_tables k in
    let rest = all_layered n k low (omega (arith, up)) in
    let before = inputs ++ map table_output prefix in
    let here = kind_layered k before (omega (arith, low, up)) rest.older (λ m there. has_left inputs (map table_output prefix) m (of_has_name block_inputs n k m (omega (arith, up)) there)) in
    record {
      layers = layered_append inputs prefix (block_tables k) rest.layers here.layers;
      older = subst (λ (ns : List Name). All (IsOlder (suc k) 112) ns)
          (append_assoc inputs (map table_output prefix) (map table_output (block_tables k))
          ∙ ap (λ (ns : List Name). inputs ++ ns) (sym (map-append table_output prefix (block_tables k)))) here.older;
    }

-- ---- tables

table_is : (k : ℕ) (ls : List ℕ) (o : ℕ) (first : List ℕ) (second : Option (List ℕ)) → k < 2 ^ 64 →
    are_letters ls ≡ true → are_letters (o ∷ []) ≡ true → length (names_of k ls) ≡ length ls → length ls ≤ 2 →
    length (first ∷ option_to_list second) ≤ 2 →
    All (λ (cube : List ℕ). is_cube (length ls) cube ≡ true) (first ∷ option_to_list second) →
    IsSpelledTable (table_of k ls o first second)
table_is k ls o first second low letters output width narrow few cubes = record {
  table = record {
    inputs = names_are k ls low letters;
    output = All-head IsName (name_of k o) [] (names_are k (o ∷ []) low output);
    width = sym width;
    cover = record { cubes = cubes; parity = λ e. absurd cc };
    narrow = omega (arith, width, narrow);
    few = omega (arith, few);
  };
  on = λ e. refl;
  cubes = refl;
}

abbrev AreCubes : ℕ → List (List ℕ) → Type 0
AreCubes width cubes = All (λ (cube : List ℕ). is_cube width cube ≡ true) cubes

one_cube : (width : ℕ) (a : List ℕ) → is_cube width a ≡ true → AreCubes width (a ∷ [])
one_cube width a e = All-cons (λ (cube : List ℕ). is_cube width cube ≡ true) a [] e (All-nil (λ (cube : List ℕ). is_cube width cube ≡ true))

two_cubes : (width : ℕ) (a b : List ℕ) → is_cube width a ≡ true → is_cube width b ≡ true → AreCubes width (a ∷ b ∷ [])
two_cubes width a b e f = All-cons (λ (cube : List ℕ). is_cube width cube ≡ true) a (b ∷ []) e (one_cube width b f)

one_row : (k : ℕ) (ls : List ℕ) (o : ℕ) (cube : List ℕ) → k < 2 ^ 64 → are_letters ls ≡ true →
    are_letters (o ∷ []) ≡ true → length (names_of k ls) ≡ length ls → nat_le (length ls) 2 ≡ true →
    is_cube (length ls) cube ≡ true → IsSpelledTable (table_of k ls o cube None)
one_row k ls o cube low letters output width narrow good = table_is k ls o cube None low letters output width (leb-true (length ls) 2 narrow) (omega arith) (one_cube (length ls) cube good)

both_rows : (k : ℕ) (ls : List ℕ) (o : ℕ) (cube other : List ℕ) → k < 2 ^ 64 → are_letters ls ≡ true →
    are_letters (o ∷ []) ≡ true → length (names_of k ls) ≡ length ls → nat_le (length ls) 2 ≡ true →
    is_cube (length ls) cube ≡ true → is_cube (length ls) other ≡ true →
    IsSpelledTable (table_of k ls o cube (Some other))
both_rows k ls o cube other low letters output width narrow good fine =
    table_is k ls o cube (Some other) low letters output width (leb-true (length ls) 2 narrow) (omega arith)
    (two_cubes (length ls) cube other good fine)

tables_three : (x y z : Table) → IsSpelledTable x → IsSpelledTable y → IsSpelledTable z → All IsSpelledTable (x ∷ y ∷ z ∷ [])
tables_three x y z a b c = All-cons IsSpelledTable x (y ∷ z ∷ []) a (All-cons IsSpelledTable y (z ∷ []) b (All-cons IsSpelledTable z [] c (All-nil IsSpelledTable)))

tables_four : (w x y z : Table) → IsSpelledTable w → IsSpelledTable x → IsSpelledTable y → IsSpelledTable z → All IsSpelledTable (w ∷ x ∷ y ∷ z ∷ [])
tables_four w x y z a b c d = All-cons IsSpelledTable w (x ∷ y ∷ z ∷ []) a (tables_three x y z b c d)

block_spelled : (k : ℕ) → k < 2 ^ 64 → All IsSpelledTable (block_tables k)
block_spelled k low =
    of_kind (λ (ts : List Table). All IsSpelledTable ts) k
    (λ e. tables_three _ _ _ (one_row k (codes "ab") 112 (codes "10") low refl refl refl refl refl)
    (one_row k (codes "ab") 113 (codes "01") low refl refl refl refl refl)
    (both_rows k (codes "pq") 121 (codes "1-") (codes "-1") low refl refl refl refl refl refl))
    (λ e. tables_three _ _ _ (one_row k (codes "ab") 112 (codes "11") low refl refl refl refl refl)
    (one_row k (codes "ac") 113 (codes "11") low refl refl refl refl refl)
    (one_row k (codes "pq") 121 (codes "11") low refl refl refl refl refl))
    (λ e. tables_four _ _ _ _ (one_row k (codes "a") 112 (codes "0") low refl refl refl refl refl)
    (one_row k (codes "ab") 113 (codes "11") low refl refl refl refl refl)
    (one_row k (codes "pc") 114 (codes "11") low refl refl refl refl refl)
    (both_rows k (codes "qr") 121 (codes "1-") (codes "-1") low refl refl refl refl refl refl))

pub all_spelled : (n : ℕ) → n ≤ 2 ^ 64 → All IsSpelledTable (of_blocks block_tables n)
all_spelled n low = of_all IsSpelledTable block_tables n (λ k below. block_spelled k (omega (arith, low, below)))

-- a block has at most four tables
pub block_few : (k : ℕ) → length (block_tables k) ≤ 4
block_few k = of_kind (λ (ts : List Table). length ts ≤ 4) k (λ e. omega arith) (λ e. omega arith) (λ e. omega arith)

-- ---- short names, few inputs and cubes

abbrev pub IsShort : List ℕ → Type 0
IsShort name = length name ≤ 21

pub names_short : (k : ℕ) (ls : List ℕ) → k < 2 ^ 64 → All IsShort (names_of k ls)
names_short k [] low = All-nil IsShort
names_short k (l ∷ ls) low = All-cons IsShort (name_of k l) (names_of k ls) (letter_short l k low) (names_short k ls low)

-- at most two inputs and two cubes of at most two bytes, and short names
pub record IsTiny (t : Table) : Type 0 where
  pub inputs : All IsShort t.inputs
  pub narrow : length t.inputs ≤ 2
  pub output : IsShort t.output
  pub few : length t.cover.cubes ≤ 2
  pub cubes : All (λ (cube : List ℕ). length cube ≤ 2) t.cover.cubes

abbrev all_tiny : List (List ℕ) → Bool
all_tiny [] = true
all_tiny (c ∷ cs) = nat_le (length c) 2 && all_tiny cs

cubes_tiny : (cs : List (List ℕ)) → all_tiny cs ≡ true → All (λ (cube : List ℕ). length cube ≤ 2) cs
cubes_tiny [] e = All-nil (λ (cube : List ℕ). length cube ≤ 2)
cubes_tiny (c ∷ cs) e =
    let p = and_parts (nat_le (length c) 2) (all_tiny cs) e in
    All-cons (λ (cube : List ℕ). length cube ≤ 2) c cs (leb-true (length c) 2 p.0) (cubes_tiny cs p.1)

tiny : (k : ℕ) (ls : List ℕ) (o : ℕ) (first : List ℕ) (second : Option (List ℕ)) → k < 2 ^ 64 →
    nat_le (length (names_of k ls)) 2 ≡ true → nat_le (length (first ∷ option_to_list second)) 2 ≡ true →
    all_tiny (first ∷ option_to_list second) ≡ true → IsTiny (table_of k ls o first second)
tiny k ls o first second low narrow few cubes = record {
  inputs = names_short k ls low;
  narrow = leb-true (length (names_of k ls)) 2 narrow;
  output = letter_short o k low;
  few = leb-true (length (first ∷ option_to_list second)) 2 few;
  cubes = cubes_tiny (first ∷ option_to_list second) cubes;
}

tiny_three : (x y z : Table) → IsTiny x → IsTiny y → IsTiny z → All IsTiny (x ∷ y ∷ z ∷ [])
tiny_three x y z a b c = All-cons IsTiny x (y ∷ z ∷ []) a (All-cons IsTiny y (z ∷ []) b (All-cons IsTiny z [] c (All-nil IsTiny)))

tiny_four : (w x y z : Table) → IsTiny w → IsTiny x → IsTiny y → IsTiny z → All IsTiny (w ∷ x ∷ y ∷ z ∷ [])
tiny_four w x y z a b c d = All-cons IsTiny w (x ∷ y ∷ z ∷ []) a (tiny_three x y z b c d)

block_tiny : (k : ℕ) → k < 2 ^ 64 → All IsTiny (block_tables k)
block_tiny k low =
    of_kind (λ (ts : List Table). All IsTiny ts) k
    (λ e. tiny_three _ _ _ (tiny k (codes "ab") 112 (codes "10") None low refl refl refl)
    (tiny k (codes "ab") 113 (codes "01") None low refl refl refl)
    (tiny k (codes "pq") 121 (codes "1-") (Some (codes "-1")) low refl refl refl))
    (λ e. tiny_three _ _ _ (tiny k (codes "ab") 112 (codes "11") None low refl refl refl)
    (tiny k (codes "ac") 113 (codes "11") None low refl refl refl)
    (tiny k (codes "pq") 121 (codes "11") None low refl refl refl))
    (λ e. tiny_four _ _ _ _ (tiny k (codes "a") 112 (codes "0") None low refl refl refl)
    (tiny k (codes "ab") 113 (codes "11") None low refl refl refl)
    (tiny k (codes "pc") 114 (codes "11") None low refl refl refl)
    (tiny k (codes "qr") 121 (codes "1-") (Some (codes "-1")) low refl refl refl))

pub tables_tiny : (n : ℕ) → n ≤ 2 ^ 64 → All IsTiny (of_blocks block_tables n)
tables_tiny n low = of_all IsTiny block_tables n (λ k below. block_tiny k (omega (arith, low, below)))

abbrev pub IsNarrow : Table → Type 0
IsNarrow t = length t.inputs ≤ 2

pub all_narrow : (n : ℕ) → n ≤ 2 ^ 64 → All IsNarrow (of_blocks block_tables n)
all_narrow n low = λ i d below. (tables_tiny n low i d below).narrow

-- ---- costs

one_or_none : (b : Bool) → (if b then 1 else 0) ≤ 1
one_or_none true = omega arith
one_or_none false = omega arith

none_or_one : (b : Bool) → (if b then 0 else 1) ≤ 1
none_or_one true = omega arith
none_or_one false = omega arith

small_cover : {A : Type 0} (c : Cover) (xs : List A) → length xs ≤ 2 → cover_cost c xs ≤ 1
small_cover c [] low = omega arith
small_cover c (a ∷ []) low = one_or_none (unary_word c == 2)
small_cover c (a ∷ b ∷ []) low = none_or_one (binary_word c == 0 || binary_word c == 15 || binary_word c == 3 || binary_word c == 5)
small_cover c (a ∷ b ∷ d ∷ xs) low = absurd (omega (arith, low))

merged_narrow : (t : Table) (ns : List Name) → IsNarrow t → IsNarrow (merged t ns)
merged_narrow t [] narrow = narrow
merged_narrow t (a ∷ []) narrow = narrow
merged_narrow t (a ∷ b ∷ []) narrow = cond_both (is_same a b) _ t IsNarrow (λ e. omega arith) (λ e. narrow)
merged_narrow t (a ∷ b ∷ c ∷ ns) narrow = narrow

pub table_cheap : (t : Table) → IsNarrow t → table_cost t ≤ 1
unfolding table_cost merged_table
table_cheap t narrow = small_cover (merged t t.inputs).cover (merged t t.inputs).inputs (merged_narrow t t.inputs narrow)

pub tables_cheap : (ts : List Table) → All IsNarrow ts → sum_by table_cost ts ≤ length ts
tables_cheap [] narrow = omega arith
tables_cheap (t ∷ ts) narrow = omega (arith, sum_by-cons table_cost t ts, table_cheap t (All-head IsNarrow t ts narrow), tables_cheap ts (All-tail IsNarrow t ts narrow))

-- ---- outputs

-- 121 is the letter y
pub output_driven : (k : ℕ) → has (map table_output (block_tables k)) (name_of k 121) ≡ true
output_driven k =
    of_kind (λ (ts : List Table). has (map table_output ts) (name_of k 121) ≡ true) k
    (λ e. has_later _ _ _ (has_later _ _ _ (has_first (name_of k 121) [])))
    (λ e. has_later _ _ _ (has_later _ _ _ (has_first (name_of k 121) [])))
    (λ e. has_later _ _ _ (has_later _ _ _ (has_later _ _ _ (has_first (name_of k 121) []))))
