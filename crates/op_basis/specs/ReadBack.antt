-- The text that is written for a basis is read as this basis.
use Rattle.std.proofs.Common.{if◌then◌else◌, ◌≡◌, ℕ, zero, suc, ◌+◌, ◌*◌, ◌%◌, ◌^◌, ◌<◌, ◌≤◌, ◌==◌, Bool, true, false}
use Rattle.std.proofs.Common.{cond, List, [], ◌∷◌, ◌++◌, length, bit_or, Option, Some, Result, Ok, Err, refl, sym, ap}
use Rattle.std.proofs.Common.{◌∙◌, arith, inl, inr, eqb-true}
use Rattle.std.specs.Prelude.{codes}
use Rattle.std.proofs.lemmas.Grind.{common_steps}
use Rattle.std.proofs.lemmas.List.Splits.{slice_split-cons_yes, slice_split-cons_no, length-slice_split}
use Rattle.std.proofs.lemmas.Bool.{cases_lt}
use Rattle.std.proofs.lemmas.Nat.{mod-pow-add, pow_pos}
use Rattle.std.proofs.Math.Nat.{mod-lt}
use Rattle.std.proofs.lemmas.Nat.Bits.{bit_at_above, bit_at-lt}
use Rattle.std.specs.Int.{bit_at}
use Rattle.std.specs.Int.Bits.{or_shifted_r}
use Rattle.std.specs.List.{slice_split, onto_first}
use Rattle.chain_theory.specs.Operator.{digit}
use Rattle.op_basis.specs.declared.error.BasisError.{BasisError}
use Rattle.op_basis.specs.Basis.{members}
use Rattle.op_basis.specs.Closed.{number, of_values}
use Rattle.op_basis.specs.Text.{◌>>=◌, all_set, u2_set, bench_set, nand_set, is_comma, items_of, with_word, text_with}
use Rattle.op_basis.specs.Text.{list_below, with_item, listed, begins_letter, named, name_of, basis_text, basis_of}
use Rattle.op_basis.specs.Word.{word_text, character, bit_in, operator_in}

-- ---- items

-- the text has no comma
unfoldable pub is_item : List ℕ → Bool
is_item [] = true
is_item (b ∷ bs) = if b == 44 then false else is_item bs

-- a comma ends an item
pub item_ends : (item rest : List ℕ) → is_item item ≡ true → items_of (item ++ 44 ∷ rest) ≡ item ∷ items_of rest
unfolding is_item items_of
item_ends [] rest free = refl
item_ends (b ∷ item) rest free = grind (arith, common_steps, item_ends item rest, slice_split-cons_no is_comma b (item ++ 44 ∷ rest))

-- the last item
pub item_last : (item : List ℕ) → is_item item ≡ true → items_of item ≡ item ∷ []
unfolding is_item items_of
item_last [] free = refl
item_last (b ∷ item) free = grind (arith, common_steps, item_last item, slice_split-cons_no is_comma b item)

-- an operator's word has no comma
four_free : (a b c d : Bool) → is_item (character a ∷ character b ∷ character c ∷ character d ∷ []) ≡ true
unfolding is_item
four_free a b c d = grind (arith, common_steps)

word_is_item : (op : ℕ) → is_item (word_text op) ≡ true
unfolding word_text
word_is_item op = four_free _ _ _ _

-- and four characters
pub word_length : (op : ℕ) → length (word_text op) ≡ 4
unfolding word_text
word_length op = refl

onto_push : (b : ℕ) (parts : List (List ℕ)) (item : List ℕ) → 0 < length parts → onto_first b (parts ++ item ∷ []) ≡ onto_first b parts ++ item ∷ []
onto_push b [] item some = absurd (omega arith)
onto_push b (part ∷ parts) item some = refl

pub has_item : (text : List ℕ) → 0 < length (items_of text)
unfolding items_of
has_item text = omega (arith, length-slice_split is_comma text)

item_push_by : (b : ℕ) (text item : List ℕ) (comma : Bool) → is_comma b ≡ comma →
    items_of (text ++ 44 ∷ item) ≡ items_of text ++ item ∷ [] →
    items_of ((b ∷ text) ++ 44 ∷ item) ≡ items_of (b ∷ text) ++ item ∷ []
unfolding items_of
item_push_by b text item true e more = rw (slice_split-cons_yes is_comma b (text ++ 44 ∷ item) e, slice_split-cons_yes is_comma b text e) (ap (λ (parts : List (List ℕ)). [] ∷ parts) more)
item_push_by b text item false e more = rw (
  slice_split-cons_no is_comma b (text ++ 44 ∷ item) e,
  slice_split-cons_no is_comma b text e,
) (ap (onto_first b) more
    ∙ onto_push b (slice_split is_comma text) item (has_item text))

-- one more item
item_push : (text item : List ℕ) → is_item item ≡ true → items_of (text ++ 44 ∷ item) ≡ items_of text ++ item ∷ []
unfolding items_of
item_push [] item free = ap (λ (parts : List (List ℕ)). [] ∷ parts) (item_last item free)
item_push (b ∷ text) item free = item_push_by b text item (is_comma b) refl (item_push text item free)

-- bind with `Ok` changes nothing
bind_ok : (r : Result ℕ BasisError) → (r >>= λ m. listed m []) ≡ r
unfolding listed
bind_ok (Ok m) = refl
bind_ok (Err e) = refl

bind_push : (r answer : Result ℕ BasisError) (more : ℕ) (items : List (List ℕ)) (item : List ℕ) →
    ((m : ℕ) → listed m items ≡ Ok more → listed m (items ++ item ∷ []) ≡ answer) →
    (r >>= λ m. listed m items) ≡ Ok more → (r >>= λ m. listed m (items ++ item ∷ [])) ≡ answer
bind_push (Ok m) answer more items item each e = each m e
bind_push (Err error) answer more items item each e = absurd cc

same_set : (a b : ℕ) → listed a [] ≡ Ok b → a ≡ b
unfolding listed
same_set a b e = cc

listed_push : (set more : ℕ) (items : List (List ℕ)) (item : List ℕ) (answer : Result ℕ BasisError) →
    listed set items ≡ Ok more → with_item more item ≡ answer → listed set (items ++ item ∷ []) ≡ answer
unfolding listed
listed_push set more [] item answer e last = bind_ok (with_item set item) ∙ ap (λ (s : ℕ). with_item s item) (same_set set more e) ∙ last
listed_push set more (x ∷ items) item answer e last = bind_push (with_item set x) answer more items item (λ m found. listed_push m more items item answer found last) e

-- ---- words of operators

number_bit : (b : ℕ) → b < 2 → number (b == 1) ≡ b
number_bit b low = grind (arith, common_steps)

-- an operator is the operator with its values
pub operator_is : (op : ℕ) → op < 16 → of_values (digit op 3) (digit op 2) (digit op 1) (digit op 0) ≡ op
operator_is op low =
    rw (number_bit (bit_at op 3) (bit_at-lt op 3), number_bit (bit_at op 2) (bit_at-lt op 2), number_bit (bit_at op 1) (bit_at-lt op 1), number_bit (bit_at op 0) (bit_at-lt op 0)) (omega arith)

bit_back : (b : Bool) → bit_in (character b) ≡ Some b
bit_back true = refl
bit_back false = refl

pub operator_back : (op : ℕ) → op < 16 → operator_in (word_text op) ≡ Some op
unfolding operator_in word_text
operator_back op low = rw (bit_back (digit op 3), bit_back (digit op 2), bit_back (digit op 1), bit_back (digit op 0)) (ap (λ (x : ℕ). Some x) (operator_is op low))

-- ---- sets by their members below k

low_below : (set k : ℕ) → set % 2 ^ k < 2 ^ k
low_below set k = mod-lt set (pow_pos k)

not_below : (set k : ℕ) → members (set % 2 ^ k) k ≡ false
not_below set k = ap (λ (x : ℕ). x == 1) (bit_at_above (set % 2 ^ k) k k (low_below set k) (omega arith))

low_more : (set k : ℕ) → members set k ≡ true → set % 2 ^ suc k ≡ bit_or (set % 2 ^ k) (2 ^ k)
low_more set k is =
    let one : bit_at set k ≡ 1 = eqb-true _ _ is in
    let e : suc k ≡ 1 + k = omega arith in
    let once : 1 * 2 ^ k ≡ 2 ^ k = omega arith in
    let joined : bit_or (set % 2 ^ k) (2 ^ k) ≡ 2 ^ k + set % 2 ^ k = rw once at (or_shifted_r 1 k (set % 2 ^ k) (low_below set k)) in
    rw e (mod-pow-add set 1 k ∙ ap (λ (x : ℕ). x * 2 ^ k + set % 2 ^ k) one ∙ omega (arith, joined))

low_same : (set k : ℕ) → members set k ≡ false → set % 2 ^ suc k ≡ set % 2 ^ k
low_same set k is =
    let none : bit_at set k ≡ 0 = grind (arith, common_steps, bit_at-lt set k) in
    let e : suc k ≡ 1 + k = omega arith in
    rw e (mod-pow-add set 1 k ∙ ap (λ (x : ℕ). x * 2 ^ k + set % 2 ^ k) none ∙ omega arith)

-- ---- lists of members

item_ok : (set k : ℕ) → k < 16 → with_item (set % 2 ^ k) (word_text k) ≡ Ok (bit_or (set % 2 ^ k) (2 ^ k))
unfolding with_item word_text
item_ok set k low = rw (operator_back k low, not_below set k) refl

-- the set that is read from the words of the members below k
pub record ReadsBelow (set k : ℕ) (text : List ℕ) : Type 0 where
  pub none : length text ≡ 0 → set % 2 ^ k ≡ 0
  pub some : 0 < length text → listed 0 (items_of text) ≡ Ok (set % 2 ^ k)
  pub digit_first : begins_letter text ≡ false

no_letter : (b : Bool) → begins_letter (character b ∷ []) ≡ false
no_letter true = refl
no_letter false = refl

read_word : (set k : ℕ) (text : List ℕ) → k < 16 → ReadsBelow set k text → listed 0 (items_of (with_word text (word_text k))) ≡ Ok (bit_or (set % 2 ^ k) (2 ^ k))
unfolding listed
read_word set k [] low reads =
    let empty : set % 2 ^ k ≡ 0 = reads.none refl in
    ap (listed 0) (item_last (word_text k) (word_is_item k)) ∙ listed_push 0 0 [] (word_text k) _ refl (ap (λ (s : ℕ). with_item s (word_text k)) (sym empty) ∙ item_ok set k low)
read_word set k (b ∷ bs) low reads = ap (listed 0) (item_push (b ∷ bs) (word_text k) (word_is_item k))
    ∙ listed_push 0 (set % 2 ^ k) (items_of (b ∷ bs)) (word_text k) _ (reads.some (omega arith)) (item_ok set k low)

with_word_some : (text word : List ℕ) → 0 < length word → length (with_word text word) ≡ 0 → ⊥
with_word_some [] word some none = omega arith
with_word_some (b ∷ bs) word some none = omega arith

with_word_digit : (text : List ℕ) (k : ℕ) → begins_letter text ≡ false → begins_letter (with_word text (word_text k)) ≡ false
unfolding word_text
with_word_digit [] k e = no_letter (digit k 3)
with_word_digit (b ∷ bs) k e = e

reads_more : (set k : ℕ) (text : List ℕ) → k < 16 → members set k ≡ true → ReadsBelow set k text → ReadsBelow set (suc k) (with_word text (word_text k))
reads_more set k text low is reads = record {
  none = λ empty. absurd (with_word_some text (word_text k) (omega (arith, word_length k)) empty);
  some = λ _. read_word set k text low reads ∙ ap (λ (s : ℕ). Ok s) (sym (low_more set k is));
  digit_first = with_word_digit text k reads.digit_first;
}

reads_same : (set k : ℕ) (text : List ℕ) → members set k ≡ false → ReadsBelow set k text → ReadsBelow set (suc k) text
reads_same set k text is reads = record {
  none = λ empty. low_same set k is ∙ reads.none empty;
  some = λ some. reads.some some ∙ ap (λ (s : ℕ). Ok s) (sym (low_same set k is));
  digit_first = reads.digit_first;
}

reads_next : (set k : ℕ) (text : List ℕ) (member : Bool) → k < 16 → members set k ≡ member → ReadsBelow set k text → ReadsBelow set (suc k) (cond member (with_word text (word_text k)) text)
reads_next set k text true low is reads = reads_more set k text low is reads
reads_next set k text false low is reads = reads_same set k text is reads

reads_below : (set k : ℕ) → k ≤ 16 → ReadsBelow set k (list_below set k)
unfolding list_below
reads_below set zero low = record { none = λ _. omega arith; some = λ some. absurd (omega arith); digit_first = refl }
reads_below set (suc k) low = reads_next set k (list_below set k) (members set k) (omega arith) refl (reads_below set k (omega arith))

list_back : (set : ℕ) → 0 < set → set < 65536 → basis_of (list_below set 16) ≡ Ok set
list_back set some low =
    let reads = reads_below set 16 (omega arith) in
    let whole : set % 2 ^ 16 ≡ set = omega arith in
    let has : 0 < length (list_below set 16) = elim (cases_lt 0 (length (list_below set 16))) [
      | inl has ↦ has
      | inr none ↦ absurd (omega (arith, whole, reads.none (omega arith)))
    ] in
    rw reads.digit_first (reads.some has ∙ ap (λ (s : ℕ). Ok s) whole)

-- ---- names

name_back : (is : Bool) (set other : ℕ) (name list : List ℕ) (rest : Option (List ℕ)) → (is ≡ true → set ≡ other) →
    basis_of name ≡ Ok other → basis_of (text_with rest list) ≡ Ok set →
    basis_of (text_with (cond is (Some name) rest) list) ≡ Ok set
name_back true set other name list rest same named_is else_is = named_is ∙ ap (λ (s : ℕ). Ok s) (sym (same refl))
name_back false set other name list rest same named_is else_is = else_is

-- The text that is written for a basis is read as this basis.
pub basis_back : (set : ℕ) → 0 < set → set < 65536 → basis_of (basis_text set) ≡ Ok set
unfolding named name_of
basis_back set some low =
    name_back (set == all_set) set all_set (codes "all") _ _ (eqb-true _ _) refl
    (name_back (set == u2_set) set u2_set (codes "u2") _ _ (eqb-true _ _) refl
    (name_back (set == bench_set) set bench_set (codes "bench") _ _ (eqb-true _ _) refl
    (name_back (set == nand_set) set nand_set (codes "nand") _ _ (eqb-true _ _) refl
    (list_back set some low))))
