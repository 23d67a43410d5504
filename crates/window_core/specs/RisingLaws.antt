-- The effect of putting a node into an ascending list.
use Rattle.std.specs.Prelude.{◌≡◌, ℕ, zero, suc, ◌+◌, ◌-◌, ◌≤◌, ◌<◌, true, false, nat_eq, nat_lt, List, [], ◌∷◌, ◌++◌, length, take, drop, slice_index_or, ◌⊎◌, refl}
use Rattle.std.proofs.Common.{arith, sym, ◌∙◌, ap, subst, inl, inr, ⊎_elim}
use Rattle.std.proofs.lemmas.Bool.{cond-true, cond-false, eq-eqb, ne_eqb, lt-ltb, le-ltb, cases_eq, cases_lt, cases_Bool, both_ways}
use Rattle.window_theory.specs.Nodes.{among, IsRising}
use Rattle.window_theory.specs.NodeLaws.{among_cases, among_first, among_later}
use Rattle.window_core.specs.Rising.{put}

-- ---- the three cases

put_here : (p q : ℕ) (qs : List ℕ) → p ≡ q → put p (q ∷ qs) ≡ q ∷ qs
unfolding put
put_here p q qs same = cond-true (nat_eq p q) _ _ (eq-eqb p q same)

put_before : (p q : ℕ) (qs : List ℕ) → p < q → put p (q ∷ qs) ≡ p ∷ (q ∷ qs)
unfolding put
put_before p q qs low = cond-false (nat_eq p q) _ _ (ne_eqb p q (λ e. omega (arith, e, low))) ∙ cond-true (nat_lt p q) _ _ (lt-ltb p q low)

put_later : (p q : ℕ) (qs : List ℕ) → q < p → put p (q ∷ qs) ≡ q ∷ put p qs
unfolding put
put_later p q qs low = cond-false (nat_eq p q) _ _ (ne_eqb p q (λ e. omega (arith, e, low))) ∙ cond-false (nat_lt p q) _ _ (le-ltb p q (omega (arith, low)))

-- the cases of where p is
abbrev Where : ℕ → ℕ → Type 0
Where p q = (p ≡ q) ⊎ ((p < q) ⊎ (q < p))

where_is : (p q : ℕ) → Where p q
where_is p q = ⊎_elim (λ (low : p < q). inr (inl low)) (λ (high : q ≤ p). ⊎_elim (λ (same : p ≡ q). inl same) (λ other. inr (inr (omega (arith, high, other)))) (cases_eq p q)) (cases_lt p q)

-- ---- which nodes there are

pub put_own : (p : ℕ) (xs : List ℕ) → among (put p xs) p ≡ true
unfolding put
put_own p [] = among_first p []
put_own p (q ∷ qs) =
    ⊎_elim
    (λ (same : p ≡ q). ap (λ (ys : List ℕ). among ys p) (put_here p q qs same) ∙ subst (λ (x : ℕ). among (x ∷ qs) p ≡ true) same (among_first p qs))
    (λ (rest : (p < q) ⊎ (q < p)). ⊎_elim
    (λ (low : p < q). ap (λ (ys : List ℕ). among ys p) (put_before p q qs low) ∙ among_first p (q ∷ qs))
    (λ (high : q < p). ap (λ (ys : List ℕ). among ys p) (put_later p q qs high) ∙ among_later q p (put p qs) (put_own p qs))
    rest)
    (where_is p q)

pub put_kept : (p x : ℕ) (xs : List ℕ) → among xs x ≡ true → among (put p xs) x ≡ true
unfolding put
put_kept p x [] e = absurd (let f : false ≡ true = e in cc)
put_kept p x (q ∷ qs) e =
    ⊎_elim
    (λ (same : p ≡ q). ap (λ (ys : List ℕ). among ys x) (put_here p q qs same) ∙ e)
    (λ (rest : (p < q) ⊎ (q < p)). ⊎_elim
    (λ (low : p < q). ap (λ (ys : List ℕ). among ys x) (put_before p q qs low) ∙ among_later p x (q ∷ qs) e)
    (λ (high : q < p). ap (λ (ys : List ℕ). among ys x) (put_later p q qs high)
    ∙ ⊎_elim
    (λ (own : x ≡ q). subst (λ (y : ℕ). among (y ∷ put p qs) x ≡ true) own (among_first x (put p qs)))
    (λ later. among_later q x (put p qs) (put_kept p x qs later))
    (among_cases q x qs e))
    rest)
    (where_is p q)

pub put_only : (p x : ℕ) (xs : List ℕ) → among (put p xs) x ≡ true → (x ≡ p) ⊎ (among xs x ≡ true)
unfolding put
put_only p x [] e = ⊎_elim (λ (own : x ≡ p). inl own) (λ later. absurd (let f : false ≡ true = later in cc)) (among_cases p x [] e)
put_only p x (q ∷ qs) e =
    ⊎_elim
    (λ (same : p ≡ q). inr (ap (λ (ys : List ℕ). among ys x) (sym (put_here p q qs same)) ∙ e))
    (λ (rest : (p < q) ⊎ (q < p)). ⊎_elim
    (λ (low : p < q). among_cases p x (q ∷ qs) (ap (λ (ys : List ℕ). among ys x) (sym (put_before p q qs low)) ∙ e))
    (λ (high : q < p). ⊎_elim
    (λ (own : x ≡ q). inr (subst (λ (y : ℕ). among (y ∷ qs) x ≡ true) own (among_first x qs)))
    (λ later. ⊎_elim (λ (own : x ≡ p). inl own) (λ there. inr (among_later q x qs there)) (put_only p x qs later))
    (among_cases q x (put p qs) (ap (λ (ys : List ℕ). among ys x) (sym (put_later p q qs high)) ∙ e)))
    rest)
    (where_is p q)

pub put_rising : (p : ℕ) (xs : List ℕ) → IsRising xs → IsRising (put p xs)
unfolding put IsRising
put_rising p [] rising = (λ q e. absurd (let f : false ≡ true = e in cc), tt)
put_rising p (q ∷ qs) rising =
    ⊎_elim
    (λ (same : p ≡ q). subst IsRising (sym (put_here p q qs same)) rising)
    (λ (rest : (p < q) ⊎ (q < p)). ⊎_elim
    (λ (low : p < q). subst IsRising (sym (put_before p q qs low))
    (λ x e. ⊎_elim (λ (own : x ≡ q). omega (arith, own, low)) (λ later. let above : q < x = rising.0 x later in omega (arith, above, low)) (among_cases q x qs e), rising))
    (λ (high : q < p). subst IsRising (sym (put_later p q qs high))
    (λ x e. ⊎_elim (λ (own : x ≡ p). omega (arith, own, high)) (λ later. rising.0 x later) (put_only p x qs e), put_rising p qs rising.1))
    rest)
    (where_is p q)

-- ---- how long it is

pub put_new : (p : ℕ) (xs : List ℕ) → among xs p ≡ false → length (put p xs) ≡ length xs + 1
unfolding put
put_new p [] out = refl
put_new p (q ∷ qs) out =
    ⊎_elim
    (λ (same : p ≡ q). absurd (both_ways (among (q ∷ qs) p) out (subst (λ (y : ℕ). among (y ∷ qs) p ≡ true) same (among_first p qs))))
    (λ (rest : (p < q) ⊎ (q < p)). ⊎_elim
    (λ (low : p < q). ap (length {A = ℕ}) (put_before p q qs low) ∙ omega arith)
    (λ (high : q < p).
    let off : among qs p ≡ false = ⊎_elim (λ on. absurd (both_ways (among (q ∷ qs) p) out (among_later q p qs on))) (λ x. x) (cases_Bool (among qs p)) in
    ap (length {A = ℕ}) (put_later p q qs high) ∙ omega (arith, put_new p qs off))
    rest)
    (where_is p q)

pub put_old : (p : ℕ) (xs : List ℕ) → IsRising xs → among xs p ≡ true → put p xs ≡ xs
unfolding put IsRising
put_old p [] rising on = absurd (let f : false ≡ true = on in cc)
put_old p (q ∷ qs) rising on =
    ⊎_elim
    (λ (same : p ≡ q). put_here p q qs same)
    (λ later.
    let high : q < p = rising.0 p later in
    put_later p q qs high ∙ ap (λ (ys : List ℕ). q ∷ ys) (put_old p qs rising.1 later))
    (among_cases q p qs on)

pub put_longer : (p : ℕ) (xs : List ℕ) → IsRising xs → (length xs ≤ length (put p xs)) × (length (put p xs) ≤ length xs + 1)
put_longer p xs rising =
    ⊎_elim
    (λ on. let e : length (put p xs) ≡ length xs = ap (length {A = ℕ}) (put_old p xs rising on) in (omega (arith, e), omega (arith, e)))
    (λ off. let e : length (put p xs) ≡ length xs + 1 = put_new p xs off in (omega (arith, e), omega (arith, e)))
    (cases_Bool (among xs p))

-- ---- where the code inserts

pub put_at : (p i : ℕ) (xs : List ℕ) → IsRising xs → i ≤ length xs →
    ((k d : ℕ) → i ≤ k → k < length xs → p < slice_index_or xs k d) →
    ((d : ℕ) → 1 ≤ i → slice_index_or xs (i - 1) d < p) → take i xs ++ p ∷ drop i xs ≡ put p xs
unfolding put IsRising
put_at p zero [] rising within above below = refl
put_at p zero (q ∷ qs) rising within above below = sym (put_before p q qs (above 0 0 (omega arith) (omega arith)))
put_at p (suc i) [] rising within above below = absurd (omega (arith, within))
put_at p (suc i) (q ∷ qs) rising within above below =
    ap (λ (ys : List ℕ). q ∷ ys) (put_at p i qs rising.1 (omega (arith, within)) (λ k d low high. above (suc k) d (omega (arith, low)) (omega (arith, high))) (rest i qs within rising.0 below))
    ∙ sym (put_later p q qs (first i qs rising.0 within below))
  where
    first : (j : ℕ) (ys : List ℕ) → ((x : ℕ) → among ys x ≡ true → q < x) → suc j ≤ length (q ∷ ys) → ((d : ℕ) → 1 ≤ suc j → slice_index_or (q ∷ ys) (suc j - 1) d < p) → q < p
    first zero ys up low under = under 0 (omega arith)
    first (suc j) ys up low under =
        let e : suc (suc j) - 1 ≡ suc j = omega arith in
        let last : slice_index_or ys j 0 < p = subst (λ (n : ℕ). slice_index_or (q ∷ ys) n 0 < p) e (under 0 (omega arith)) in
        omega (arith, last, up (slice_index_or ys j 0) (at ys j (omega (arith, low)))) where
          at : (zs : List ℕ) (k : ℕ) → k < length zs → among zs (slice_index_or zs k 0) ≡ true
          at [] k l = absurd (omega (arith, l))
          at (z ∷ zs) zero l = among_first z zs
          at (z ∷ zs) (suc k) l = among_later z (slice_index_or zs k 0) zs (at zs k (omega (arith, l)))

    rest : (j : ℕ) (ys : List ℕ) → suc j ≤ length (q ∷ ys) → ((x : ℕ) → among ys x ≡ true → q < x) →
        ((d : ℕ) → 1 ≤ suc j → slice_index_or (q ∷ ys) (suc j - 1) d < p) → (d : ℕ) → 1 ≤ j →
        slice_index_or ys (j - 1) d < p
    rest zero ys low up under d some = absurd (omega (arith, some))
    rest (suc j) ys low up under d some =
        let e : suc (suc j) - 1 ≡ suc (suc j - 1) = omega arith in
        subst (λ (n : ℕ). slice_index_or (q ∷ ys) n d < p) e (under d (omega arith))

at_among : (zs : List ℕ) (k : ℕ) → k < length zs → among zs (slice_index_or zs k 0) ≡ true
at_among [] k l = absurd (omega (arith, l))
at_among (z ∷ zs) zero l = among_first z zs
at_among (z ∷ zs) (suc k) l = among_later z (slice_index_or zs k 0) zs (at_among zs k (omega (arith, l)))

pub put_found : (p i : ℕ) (xs : List ℕ) → IsRising xs → i ≤ length xs → 1 ≤ i → slice_index_or xs (i - 1) 0 ≡ p → xs ≡ put p xs
put_found p i xs rising within some e =
    sym (put_old p xs rising (ap (among xs) (sym e) ∙ at_among xs (i - 1) (omega (arith, within, some))))

pub put_code : (p i : ℕ) (xs first second new : List ℕ) → IsRising xs → first ≡ xs → second ≡ xs → i ≤ length first →
    ((k d : ℕ) → i ≤ k → k < length first → p < slice_index_or first k d) →
    (1 ≤ i → (d : ℕ) → slice_index_or first (i - 1) d ≤ p) → ((d : ℕ) → 1 ≤ i → slice_index_or second (i - 1) d ≡ p →
    ⊥) → new ≡ take i xs ++ p ∷ drop i xs → new ≡ put p xs
put_code p i xs first second new rising same also within above below other is =
    is
    ∙ put_at p i xs rising (subst (λ (ys : List ℕ). i ≤ length ys) same within)
    (subst (λ (ys : List ℕ). (k d : ℕ) → i ≤ k → k < length ys → p < slice_index_or ys k d) same above)
    (λ d some.
    let most : slice_index_or xs (i - 1) d ≤ p = subst (λ (ys : List ℕ). slice_index_or ys (i - 1) d ≤ p) same (below some d) in
    let differs : slice_index_or xs (i - 1) d ≡ p → ⊥ = subst (λ (ys : List ℕ). slice_index_or ys (i - 1) d ≡ p → ⊥) also (other d some) in
    omega (arith, most, differs))
