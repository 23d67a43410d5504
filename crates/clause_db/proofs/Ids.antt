-- The id of a list, by where lists begin.
use Rattle.std.proofs.Common.{◌≡◌, ℕ, zero, suc, ◌+◌, ◌-◌, ◌<◌, ◌≤◌, List, [], ◌∷◌, ◌++◌, length, take, slice_index_or, refl, sym, ap, ◌∙◌, arith}
use Rattle.std.proofs.Math.Logic.{⊎_elim}
use Rattle.std.proofs.lemmas.Bool.{cases_eq, ne_eqb}
use Rattle.std.proofs.lemmas.Bool.Decides.{eqb_tells}
use Rattle.clause_db.specs.ArenaRanges.{id_in}

-- the id of the first start, and those of the others
id_first : (x : ℕ) (xs : List ℕ) (s : ℕ) → x ≡ s → id_in (x ∷ xs) s ≡ 1
unfolding id_in
id_first x xs s e = ⊎_elim (λ same. rw same.0 refl) (λ differ. absurd (differ.1 e)) (eqb_tells x s)

id_after : (x : ℕ) (xs : List ℕ) (s : ℕ) → (x ≡ s → ⊥) → id_in (x ∷ xs) s ≡ id_in xs s + 1
unfolding id_in
id_after x xs s apart = rw (ne_eqb x s apart) (omega arith)

id_none : (s : ℕ) → id_in [] s ≡ 0
unfolding id_in
id_none s = refl

id_some : (x : ℕ) (xs : List ℕ) (s : ℕ) → 0 < id_in (x ∷ xs) s
id_some x xs s = ⊎_elim
    (λ (e : x ≡ s). omega (arith, id_first x xs s e))
    (λ (apart : x ≡ s → ⊥). omega (arith, id_after x xs s apart))
    (cases_eq x s)

-- More starts at the end change no id,
pub id_front : (xs ys : List ℕ) (s : ℕ) → 0 < id_in xs s → slice_index_or xs (id_in xs s - 1) 0 ≡ s → id_in (xs ++ ys) s ≡ id_in xs s
id_front [] ys s some is = absurd (omega (arith, some, id_none s))
id_front (x ∷ xs) ys s some is = ⊎_elim
    (λ (e : x ≡ s). id_first x (xs ++ ys) s e ∙ sym (id_first x xs s e))
    (λ (apart : x ≡ s → ⊥).
    let at : id_in (x ∷ xs) s ≡ id_in xs s + 1 = id_after x xs s apart in
    let index : id_in (x ∷ xs) s - 1 ≡ id_in xs s = omega (arith, at) in
    let here : slice_index_or (x ∷ xs) (id_in xs s) 0 ≡ s = ap (λ (n : ℕ). slice_index_or (x ∷ xs) n 0) (sym index) ∙ is in
    id_after x (xs ++ ys) s apart ∙ ap (λ (n : ℕ). n + 1) (rest (id_in xs s) refl here apart (id_front xs ys s)) ∙ sym at)
    (cases_eq x s)
  where
    rest : (n : ℕ) → n ≡ id_in xs s → slice_index_or (x ∷ xs) n 0 ≡ s → (x ≡ s → ⊥) →
        (0 < id_in xs s → slice_index_or xs (id_in xs s - 1) 0 ≡ s → id_in (xs ++ ys) s ≡ id_in xs s) →
        id_in (xs ++ ys) s ≡ id_in xs s
    rest zero same here apart more = absurd (apart here)
    rest (suc n) same here apart more = more (omega (arith, same)) (ap (λ (m : ℕ). slice_index_or xs m 0) (let before : id_in xs s - 1 ≡ n = omega (arith, same) in before) ∙ here)

-- nor do fewer, down to the id.
pub id_cut : (xs : List ℕ) (n s : ℕ) → id_in xs s ≤ n → id_in (take n xs) s ≡ id_in xs s
id_cut [] zero s low = refl
id_cut [] (suc n) s low = refl
id_cut (x ∷ xs) zero s low = absurd (omega (arith, low, id_some x xs s))
id_cut (x ∷ xs) (suc n) s low = ⊎_elim
    (λ (e : x ≡ s). id_first x (take n xs) s e ∙ sym (id_first x xs s e))
    (λ (apart : x ≡ s → ⊥).
    let at : id_in (x ∷ xs) s ≡ id_in xs s + 1 = id_after x xs s apart in
    id_after x (take n xs) s apart ∙ ap (λ (m : ℕ). m + 1) (id_cut xs n s (omega (arith, low, at))) ∙ sym at)
    (cases_eq x s)

-- The first index of a start determines its id.
pub id_found : (xs : List ℕ) (k s : ℕ) → k < length xs → slice_index_or xs k 0 ≡ s → ((i : ℕ) → i < k → slice_index_or xs i 0 ≡ s → ⊥) → id_in xs s ≡ k + 1
id_found [] k s low at first = absurd (omega (arith, low))
id_found (x ∷ xs) zero s low at first = id_first x xs s at
id_found (x ∷ xs) (suc k) s low at first =
    id_after x xs s (first 0 (omega arith)) ∙ ap (λ (n : ℕ). n + 1) (id_found xs k s (omega (arith, low)) at (λ i early. first (suc i) (omega (arith, early)))) ∙ omega arith
