-- Lists split at their commas, and lists that grow by a word.
use Rattle.std.proofs.Common.{◌≡◌, ◌≢◌, ℕ, zero, suc, ◌+◌, ◌*◌, ◌%◌, ◌^◌, ◌<◌, true, false, List, [], ◌∷◌, ◌++◌, take, drop, refl, ap, ◌∙◌, arith, add-one, append-nil}
use Rattle.std.proofs.lemmas.Grind.{common_steps}
use Rattle.std.proofs.lemmas.Nat.{one_shl}
use Rattle.op_basis.specs.Basis.{members}
use Rattle.op_basis.specs.ReadBack.{is_item, item_ends, item_last}
use Rattle.op_basis.specs.Text.{items_of, with_word, list_below}
use Rattle.op_basis.specs.Word.{word_text}

-- the item grows by one byte
item_step : (prefix left : List ℕ) (b : ℕ) → is_item prefix ≡ true → b ≢ 44 → is_item (prefix ++ b ∷ []) ≡ true
unfolding is_item
item_step [] left b free other = grind (arith, common_steps)
item_step (x ∷ prefix) left b free other = grind (arith, common_steps, item_step prefix left b)

take_step : (i : ℕ) (xs : List ℕ) (b : ℕ) (rest : List ℕ) → drop i xs ≡ b ∷ rest → take (i + 1) xs ≡ take i xs ++ b ∷ []
take_step zero [] b rest e = cc
take_step zero (x ∷ xs) b rest e = cc
take_step (suc i) [] b rest e = cc
take_step (suc i) (x ∷ xs) b rest e = rw (add-one (suc i)) (ap (λ (ys : List ℕ). x ∷ ys) (rw (add-one i) at (take_step i xs b rest e)))

pub drop_step : (i : ℕ) (xs : List ℕ) (b : ℕ) (rest : List ℕ) → drop i xs ≡ b ∷ rest → drop (i + 1) xs ≡ rest
drop_step zero [] b rest e = cc
drop_step zero (x ∷ xs) b rest e = cc
drop_step (suc i) [] b rest e = cc
drop_step (suc i) (x ∷ xs) b rest e = rw (add-one (suc i)) (rw (add-one i) at (drop_step i xs b rest e))

-- a text is its prefix and the rest
cut_at : (i : ℕ) (xs : List ℕ) → xs ≡ take i xs ++ drop i xs
cut_at zero xs = refl
cut_at (suc i) [] = refl
cut_at (suc i) (x ∷ xs) = ap (λ (ys : List ℕ). x ∷ ys) (cut_at i xs)

-- the prefix grows by a byte that is no comma
pub free_step : (i : ℕ) (xs : List ℕ) (b : ℕ) (rest : List ℕ) → drop i xs ≡ b ∷ rest → b ≢ 44 → is_item (take i xs) ≡ true → is_item (take (i + 1) xs) ≡ true
free_step i xs b rest e other free = rw (take_step i xs b rest e) (item_step (take i xs) [] b free other)

-- the prefix ends at a comma
pub comma_found : (i : ℕ) (xs : List ℕ) (b : ℕ) (rest : List ℕ) → drop i xs ≡ b ∷ rest → b ≡ 44 → is_item (take i xs) ≡ true → items_of xs ≡ take i xs ∷ items_of rest
comma_found i xs b rest e comma free = ap items_of (cut_at i xs ∙ ap (λ (ys : List ℕ). take i xs ++ ys) (e ∙ ap (λ (c : ℕ). c ∷ rest) comma)) ∙ item_ends (take i xs) rest free

-- or it is the whole text
pub no_comma : (i : ℕ) (xs : List ℕ) → drop i xs ≡ [] → is_item (take i xs) ≡ true → items_of xs ≡ xs ∷ []
no_comma i xs e free =
    let all : xs ≡ take i xs = cut_at i xs ∙ ap (λ (ys : List ℕ). take i xs ++ ys) e ∙ append-nil (take i xs) in
    let whole : is_item xs ≡ true = ap is_item all ∙ free in
    item_last xs whole

pub item_none : is_item [] ≡ true
unfolding is_item
item_none = refl

pub ruleset cutting = (common_steps, item_none, free_step, comma_found, no_comma, drop_step)

-- the bit of a member
pub one_bit : (op : ℕ) → op < 16 → 1 * 2 ^ op % 2 ^ 16 ≡ 2 ^ op
one_bit op low = one_shl op 16 low

pub ruleset shifting = (common_steps, one_bit)

-- no member yet
pub list_none : (set : ℕ) → list_below set 0 ≡ []
unfolding list_below
list_none set = refl

-- one more operator, a member or not
pub list_more : (set k : ℕ) → members set k ≡ true → list_below set (k + 1) ≡ with_word (list_below set k) (word_text k)
unfolding list_below
list_more set k is = rw (add-one, is) refl

pub list_same : (set k : ℕ) → members set k ≡ false → list_below set (k + 1) ≡ list_below set k
unfolding list_below
list_same set k is = rw (add-one, is) refl

pub ruleset listing = (common_steps, list_none, list_more, list_same)
