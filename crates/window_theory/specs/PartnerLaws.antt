-- A gate has exactly one list of partners.
use Rattle.std.specs.Prelude.{◌≡◌, ℕ, ◌<◌, true, false, List, [], ◌∷◌, length, ◌⊎◌, refl}
use Rattle.std.proofs.Common.{arith, sym, ◌∙◌, ap, inl, inr, ⊎_elim}
use Rattle.net_theory.specs.Net.{Net}
use Rattle.window_theory.specs.Nodes.{among, IsFalling}
use Rattle.window_theory.specs.NodeLaws.{among_cases, among_first, among_later}
use Rattle.window_theory.specs.Partner.{ArePartners}

-- ---- descending lists

-- A descending list within another one with a greater head is within the rest of the other one.
after_head : (x y : ℕ) (xs ys : List ℕ) → IsFalling (x ∷ xs) → IsFalling (y ∷ ys) → x < y →
    ((p : ℕ) → among (x ∷ xs) p ≡ true → among (y ∷ ys) p ≡ true) → (p : ℕ) → among (x ∷ xs) p ≡ true →
    among ys p ≡ true
unfolding IsFalling
after_head x y xs ys falling_x falling_y low within p e =
    ⊎_elim
    (λ (own : p ≡ y). ⊎_elim
    (λ (same : p ≡ x). absurd (omega (arith, own, same, low)))
    (λ later. let below : p < x = falling_x.0 p later in absurd (omega (arith, own, below, low)))
    (among_cases x p xs e))
    (λ later. later)
    (among_cases y p ys (within p e))

after_both : (x y : ℕ) (xs ys : List ℕ) → IsFalling (x ∷ xs) → x ≡ y → ((p : ℕ) → among (x ∷ xs) p ≡ true → among (y ∷ ys) p ≡ true) → (p : ℕ) → among xs p ≡ true → among ys p ≡ true
unfolding IsFalling
after_both x y xs ys falling same within p e =
    ⊎_elim
    (λ (own : p ≡ y). let below : p < x = falling.0 p e in absurd (omega (arith, own, below, same)))
    (λ later. later)
    (among_cases y p ys (within p (among_later x p xs e)))

-- an element is the head, or below it
head_low : (x y : ℕ) (ys : List ℕ) → IsFalling (y ∷ ys) → among (y ∷ ys) x ≡ true → (x ≡ y) ⊎ (x < y)
unfolding IsFalling
head_low x y ys falling e = ⊎_elim (λ same. inl same) (λ later. inr (falling.0 x later)) (among_cases y x ys e)

-- A descending list with all elements of another, and a lower one, is longer.
falling_longer : (xs ys : List ℕ) (h : ℕ) → IsFalling xs → IsFalling ys →
    ((p : ℕ) → among xs p ≡ true → among ys p ≡ true) → among ys h ≡ true → ((p : ℕ) → among xs p ≡ true → h < p) →
    length xs < length ys
unfolding IsFalling
falling_longer xs [] h falling_x falling_y within on low = absurd (let e : false ≡ true = on in cc)
falling_longer [] (y ∷ ys) h falling_x falling_y within on low = omega arith
falling_longer (x ∷ xs) (y ∷ ys) h falling_x falling_y within on low =
    let below : h < x = low x (among_first x xs) in
    ⊎_elim
    (λ (same : x ≡ y).
    let later : among ys h ≡ true = ⊎_elim (λ (own : h ≡ y). absurd (omega (arith, own, below, same))) (λ l. l) (among_cases y h ys on) in
    let rest : length xs < length ys = falling_longer xs ys h falling_x.1 falling_y.1 (after_both x y xs ys falling_x same within) later (λ p e. low p (among_later x p xs e)) in
    omega (arith, rest))
    (λ (less : x < y).
    let later : among ys h ≡ true = ⊎_elim (λ (own : h ≡ y). absurd (omega (arith, own, below, less))) (λ l. l) (among_cases y h ys on) in
    let rest : length (x ∷ xs) < length ys = falling_longer (x ∷ xs) ys h falling_x falling_y.1 (after_head x y xs ys falling_x falling_y less within) later low in
    omega (arith, rest))
    (head_low x y ys falling_y (within x (among_first x xs)))

pub falling_same : (xs ys : List ℕ) → IsFalling xs → IsFalling ys → ((p : ℕ) → among xs p ≡ true → among ys p ≡ true) → ((p : ℕ) → among ys p ≡ true → among xs p ≡ true) → xs ≡ ys
unfolding IsFalling
falling_same [] [] falling_x falling_y there back = refl
falling_same [] (y ∷ ys) falling_x falling_y there back = absurd (let e : false ≡ true = back y (among_first y ys) in cc)
falling_same (x ∷ xs) [] falling_x falling_y there back = absurd (let e : false ≡ true = there x (among_first x xs) in cc)
falling_same (x ∷ xs) (y ∷ ys) falling_x falling_y there back =
    let same : x ≡ y = ⊎_elim
    (λ s. s)
    (λ (less : x < y). ⊎_elim (λ (s : y ≡ x). sym s) (λ (more : y < x). absurd (omega (arith, less, more))) (head_low y x xs falling_x (back y (among_first y ys))))
    (head_low x y ys falling_y (there x (among_first x xs))) in
    let rest : xs ≡ ys = falling_same xs ys falling_x.1 falling_y.1 (after_both x y xs ys falling_x same there) (after_both y x ys xs falling_y (sym same) back) in
    ap (λ (z : ℕ). z ∷ xs) same ∙ ap (λ (zs : List ℕ). y ∷ zs) rest

-- ---- partners

partners_within : (n : Net) (g : ℕ) (a b : List ℕ) → ArePartners n g a → ArePartners n g b → (h : ℕ) → among a h ≡ true → among b h ≡ true
partners_within n g a b first second h on =
    ⊎_elim
    (λ there. there)
    (λ full.
    let all : (q : ℕ) → among b q ≡ true → among a q ≡ true = λ q e. ⊎_elim
    (λ inside. inside)
    (λ other. let up : h < q = full.1 q e in let down : q < h = other.1 h on in absurd (omega (arith, up, down)))
    (first.others q (second.share q e)) in
    let longer : length b < length a = falling_longer b a h second.falling first.falling all on full.1 in
    absurd (omega (arith, longer, full.0, first.few)))
    (second.others h (first.share h on))

pub partners_one : (n : Net) (g : ℕ) (a b : List ℕ) → ArePartners n g a → ArePartners n g b → a ≡ b
partners_one n g a b first second = falling_same a b first.falling second.falling (partners_within n g a b first second) (partners_within n g b a second first)
