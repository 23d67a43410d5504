-- A number that was written is read again, whatever follows it.
use Rattle.std.proofs.Common.{◌≡◌, ℕ, ◌+◌, ◌*◌, ◌/◌, ◌%◌, ◌<◌, ◌≤◌, List, [], ◌∷◌, ◌++◌, refl, ap, ◌∙◌, arith, append_assoc, eq-eqb}
use Rattle.std.proofs.Math.Logic.{⊎_elim}
use Rattle.std.proofs.lemmas.Bool.{lt-ltb, le-ltb, ne_eqb, cases_eq}
use Rattle.log_core.specs.Numbers.{grown, numbers_from, leading, far, written}

pub numbers_from-last : (n b : ℕ) (bs : List ℕ) → b < 128 → numbers_from n (b ∷ bs) ≡ (n * 128 + b) ∷ numbers_from 0 bs
unfolding numbers_from
numbers_from-last n b bs low = rw (lt-ltb b 128 low) refl

pub numbers_from-more : (n b : ℕ) (bs : List ℕ) → 128 ≤ b → numbers_from n (b ∷ bs) ≡ numbers_from (grown n b) bs
unfolding numbers_from
numbers_from-more n b bs high = rw (le-ltb b 128 high) refl

pub numbers_from-none : (n : ℕ) → numbers_from n [] ≡ []
unfolding numbers_from
numbers_from-none n = refl

leading-none : (n : ℕ) → n ≡ 0 → leading n ≡ []
unfolding leading
leading-none n none = rw (eq-eqb n 0 none) refl

leading-some : (n : ℕ) → (n ≡ 0 → ⊥) → leading n ≡ (n % 128 + 128) ∷ []
unfolding leading
leading-some n some = rw (ne_eqb n 0 some) refl

grown_back : (n : ℕ) → n ≤ 17179869184 → grown (n / 128) (n % 128 + 128) ≡ n
unfolding grown
grown_back n low = omega arith

-- one more digit
leading-read : (m n : ℕ) (rest : List ℕ) → m ≡ n / 128 → n ≤ 17179869184 → numbers_from m (leading n ++ rest) ≡ numbers_from n rest
leading-read m n rest before low = ⊎_elim
    (λ (none : n ≡ 0). let zero_before : m ≡ n = omega arith in rw (leading-none n none) (ap (λ k. numbers_from k rest) zero_before))
    (λ (some : n ≡ 0 → ⊥). rw (leading-some n some, before) (numbers_from-more (n / 128) (n % 128 + 128) rest (omega arith) ∙ ap (λ k. numbers_from k rest) (grown_back n low)))
    (cases_eq n 0)

pub far-none : (n : ℕ) → n ≡ 0 → far n ≡ []
unfolding far
far-none n none =
    let third : n / 16384 ≡ 0 = omega arith in
    let second : n / 128 ≡ 0 = omega arith in
    rw (leading-none (n / 16384) third, leading-none (n / 128) second, leading-none n none) refl

-- three more digits
far-read : (n : ℕ) (rest : List ℕ) → n < 2097152 → numbers_from 0 (far n ++ rest) ≡ numbers_from n rest
unfolding far
far-read n rest low =
    ap (numbers_from 0) (pieces (leading (n / 16384)) (leading (n / 128)) (leading n) rest)
    ∙ leading-read 0 (n / 16384) (leading (n / 128) ++ (leading n ++ rest)) (omega arith) (omega arith)
    ∙ leading-read (n / 16384) (n / 128) (leading n ++ rest) (omega arith) (omega arith)
    ∙ leading-read (n / 128) n rest refl (omega arith)
  where
    pieces : (a b c rest : List ℕ) → (a ++ b ++ c) ++ rest ≡ a ++ (b ++ (c ++ rest))
    pieces a b c rest = simp append_assoc

-- the whole number
pub written-read : (n : ℕ) (rest : List ℕ) → n ≤ 17179869184 → numbers_from 0 (written n ++ rest) ≡ n ∷ numbers_from 0 rest
unfolding written
written-read n rest low =
    let last : List ℕ = (n % 128) ∷ rest in
    ap (numbers_from 0) (parts (far (n / 16384)) (leading (n / 128)) (n % 128) rest)
    ∙ far-read (n / 16384) (leading (n / 128) ++ last) (omega arith)
    ∙ leading-read (n / 16384) (n / 128) last (omega arith) (omega arith)
    ∙ numbers_from-last (n / 128) (n % 128) rest (omega arith)
    ∙ ap (λ k. k ∷ numbers_from 0 rest) (let whole : n / 128 * 128 + n % 128 ≡ n = omega arith in whole)
  where
    parts : (a b : List ℕ) (e : ℕ) (rest : List ℕ) → (a ++ b ++ e ∷ []) ++ rest ≡ a ++ (b ++ e ∷ rest)
    parts a b e rest = simp append_assoc

-- numbers of one digit, and of two
pub written-one : (n : ℕ) → n < 128 → written n ≡ n ∷ []
unfolding written
written-one n low =
    let high : n / 16384 ≡ 0 = omega arith in
    let middle : n / 128 ≡ 0 = omega arith in
    let whole : n % 128 ≡ n = omega arith in
    rw (far-none (n / 16384) high, leading-none (n / 128) middle, whole) refl

pub written-two : (n : ℕ) → 128 ≤ n → n < 16384 → written n ≡ (n / 128 + 128) ∷ n % 128 ∷ []
unfolding written
written-two n low top =
    let high : n / 16384 ≡ 0 = omega arith in
    let whole : n / 128 % 128 ≡ n / 128 = omega arith in
    rw (far-none (n / 16384) high, leading-some (n / 128) (λ none. absurd (omega (arith, none))), whole) refl

pub written-three : (n : ℕ) → 16384 ≤ n → n < 2097152 → written n ≡ (n / 16384 + 128) ∷ (n / 128 % 128 + 128) ∷ n % 128 ∷ []
unfolding written far
written-three n low top =
    let third : n / 16384 / 16384 ≡ 0 = omega arith in
    let fourth : n / 16384 / 128 ≡ 0 = omega arith in
    let whole : n / 16384 % 128 ≡ n / 16384 = omega arith in
    rw (
      leading-none (n / 16384 / 16384) third,
      leading-none (n / 16384 / 128) fourth,
      leading-some (n / 16384) (λ none. absurd (omega (arith, none))),
      leading-some (n / 128) (λ none. absurd (omega (arith, none))),
      whole,
    ) refl
