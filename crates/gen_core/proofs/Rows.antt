-- The tables of a block, by letters: each reads known letters and drives a later letter.
use Rattle.std.specs.Prelude.{◌≡◌, ℕ, suc, ◌^◌, ◌≤◌, ◌<◌, ◌⊎◌, Bool, true, false, ◌&&◌, ◌||◌, ◌==◌, nat_le, List, [], ◌∷◌, ◌++◌, map, All, Option, refl}
use Rattle.std.proofs.Common.{arith, sym, ◌∙◌, ap, subst, inl, inr, ⊎_elim, append_assoc, append-nil}
use Rattle.std.proofs.lemmas.Bool.{and_parts, false_from_ne_true, leb-true, eqb-true}
use Rattle.std.proofs.lemmas.List.Elements.{All-nil, All-cons, All-append}
use Rattle.net_theory.specs.Document.{Name, has, Table, table_output}
use Rattle.net_theory.specs.NameLaws.{has_none, has_first, has_cases, has_left, has_right, all_has}
use Rattle.blif_laws.specs.LetterNames.{letters_same}
use Rattle.blif_laws.specs.Layers.{IsLayer, AreLayered}
use Rattle.gen_core.specs.Generated.{name_of, names_of, table_of}

-- ---- letters

abbrev pub is_known : List ℕ → ℕ → Bool
is_known [] l = false
is_known (m ∷ ms) l = l == m || is_known ms l

abbrev pub all_known : List ℕ → List ℕ → Bool
all_known known [] = true
all_known known (l ∷ ls) = is_known known l && all_known known ls

-- a table without its block
pub record Row : Type 0 where
  pub inputs : List ℕ
  pub output : ℕ
  pub first : List ℕ
  pub second : Option (List ℕ)

abbrev pub row_table : ℕ → Row → Table
row_table block r = table_of block r.inputs r.output r.first r.second

-- each table reads known letters and letters that are driven before, and drives a later letter, from `least` on
abbrev pub are_rows : List ℕ → ℕ → List Row → Bool
are_rows known least [] = true
are_rows known least (r ∷ rs) = (all_known known r.inputs && nat_le least r.output) && are_rows (r.output ∷ known) (suc r.output) rs

-- ---- names of earlier blocks, or of smaller letters

-- p is 112, the first letter of a table
pub record IsOlder (k least : ℕ) (m : Name) : Type 0 where
  pub block : ℕ
  pub letter : ℕ
  pub low : block < 2 ^ 64
  pub is : m ≡ name_of block letter
  pub before : (letter < 112) ⊎ ((block < k) ⊎ ((block ≡ k) × (letter < least)))

fresh_is : (k l : ℕ) (before : List Name) → k < 2 ^ 64 → 112 ≤ l → All (IsOlder k l) before → has before (name_of k l) ≡ false
fresh_is k l before low letter older =
    false_from_ne_true (has before (name_of k l)) (λ there.
    let o = all_has (IsOlder k l) before (name_of k l) older there in
    let same = letters_same l o.letter k o.block low o.low o.is in
    ⊎_elim (λ a. omega (arith, a, letter, same.0)) (λ rest. ⊎_elim (λ b. omega (arith, b, same.1)) (λ c. omega (arith, c.1, same.0)) rest) o.before)

later : (k least more : ℕ) → least ≤ more → (m : Name) → IsOlder k least m → IsOlder k more m
later k least more up m o = record {
  block = o.block;
  letter = o.letter;
  low = o.low;
  is = o.is;
  before = ⊎_elim (λ a. inl a) (λ rest. inr (⊎_elim (λ b. inl b) (λ c. inr (c.0, omega (arith, c.1, up))) rest)) o.before;
}

next : (k least : ℕ) (m : Name) → IsOlder k least m → IsOlder (suc k) 112 m
next k least m o = record {
  block = o.block;
  letter = o.letter;
  low = o.low;
  is = o.is;
  before = ⊎_elim (λ a. inl a) (λ rest. inr (inl (⊎_elim (λ b. omega (arith, b)) (λ c. omega (arith, c.0)) rest))) o.before;
}

all_later : (P Q : Name → Type 0) → ((m : Name) → P m → Q m) → (ns : List Name) → All P ns → All Q ns
all_later P Q f ns all = λ i d low. f _ (all i d low)

pushed : (k l least : ℕ) (before : List Name) → k < 2 ^ 64 → least ≤ l → All (IsOlder k least) before → All (IsOlder k (suc l)) (before ++ name_of k l ∷ [])
pushed k l least before low up older =
    let new : IsOlder k (suc l) (name_of k l) = record { block = k; letter = l; low = low; is = refl; before = inr (inr (refl, omega arith)) } in
    All-append (IsOlder k (suc l)) before (name_of k l ∷ [])
    (all_later (IsOlder k least) (IsOlder k (suc l)) (later k least (suc l) (omega (arith, up))) before older)
    (All-cons (IsOlder k (suc l)) (name_of k l) [] new (All-nil (IsOlder k (suc l))))

-- ---- known letters

-- `before` has the names of the letters `known`
abbrev pub Knows : ℕ → List ℕ → List Name → Type 0
Knows k known before = (l : ℕ) → is_known known l ≡ true → has before (name_of k l) ≡ true

names_in : (k : ℕ) (known ls : List ℕ) (before : List Name) → Knows k known before → all_known known ls ≡ true → (n : Name) → has (names_of k ls) n ≡ true → has before n ≡ true
names_in k known [] before knows all n there = absurd (has_none n there)
names_in k known (l ∷ ls) before knows all n there =
    let p = and_parts (is_known known l) (all_known known ls) all in
    ⊎_elim
    (λ here. subst (λ (m : Name). has before m ≡ true) (sym here) (knows l p.0))
    (λ rest. names_in k known ls before knows p.1 n rest)
    (has_cases (name_of k l) (names_of k ls) n there)

known_by : (k o : ℕ) (known : List ℕ) (before : List Name) (l : ℕ) (b : Bool) → (l == o) ≡ b → Knows k known before →
    (l == o || is_known known l) ≡ true → has (before ++ name_of k o ∷ []) (name_of k l) ≡ true
known_by k o known before l true is knows e =
    subst (λ (m : ℕ). has (before ++ name_of k o ∷ []) (name_of k m) ≡ true) (sym (eqb-true l o is)) (has_right before (name_of k o ∷ []) (name_of k o) (has_first (name_of k o) []))
known_by k o known before l false is knows e =
    has_left before (name_of k o ∷ []) (name_of k l) (knows l (sym (ap (λ (b : Bool). b || is_known known l) is) ∙ e))

knows_more : (k o : ℕ) (known : List ℕ) (before : List Name) → Knows k known before → Knows k (o ∷ known) (before ++ name_of k o ∷ [])
knows_more k o known before knows l e = known_by k o known before l (l == o) refl knows e

-- ---- layers

-- The tables are in topological order after the names `before`, and the next block may read the names that they
-- drive.
pub record Layered (k : ℕ) (before : List Name) (ts : List Table) : Type 0 where
  pub layers : AreLayered before ts
  pub older : All (IsOlder (suc k) 112) (before ++ map table_output ts)

pub rows_layered : (k : ℕ) (before : List Name) (known : List ℕ) (least : ℕ) (rs : List Row) → k < 2 ^ 64 →
    112 ≤ least → are_rows known least rs ≡ true → All (IsOlder k least) before → Knows k known before →
    Layered k before (map (row_table k) rs)
rows_layered k before known least [] low from are older knows = record {
  layers = tt;
  older = subst (λ (ns : List Name). All (IsOlder (suc k) 112) ns) (sym (append-nil before)) (all_later (IsOlder k least) (IsOlder (suc k) 112) (next k least) before older);
}
rows_layered k before known least (r ∷ rs) low from are older knows =
    let p = and_parts (all_known known r.inputs && nat_le least r.output) (are_rows (r.output ∷ known) (suc r.output) rs) are in
    let q = and_parts (all_known known r.inputs) (nat_le least r.output) p.0 in
    let up : least ≤ r.output = leb-true least r.output q.1 in
    let name = name_of k r.output in
    let rest = rows_layered k (before ++ name ∷ []) (r.output ∷ known) (suc r.output) rs low
    (omega (arith, from, up)) p.1 (pushed k r.output least before low up older)
    (knows_more k r.output known before knows) in
    let layer : IsLayer before (row_table k r) = record {
      fresh = fresh_is k r.output before low (omega (arith, from, up)) (all_later (IsOlder k least) (IsOlder k r.output) (later k least r.output up) before older);
      inputs = names_in k known r.inputs before knows q.0;
    } in
    record {
      layers = (layer, rest.layers);
      older = subst (λ (ns : List Name). All (IsOlder (suc k) 112) ns) (append_assoc before (name ∷ []) (map table_output (map (row_table k) rs))) rest.older;
    }
