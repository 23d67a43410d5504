-- Literals of consecutive variables, one after another.
use Rattle.std.proofs.Common.{◌≡◌, ℕ, suc, ◌+◌, ◌-◌, ◌*◌, ◌≤◌, ◌<◌, [], ◌∷◌, ap, ◌∙◌, arith}
use Rattle.std.proofs.lemmas.Grind.{common_steps}
use Rattle.aiger_core.specs.Written.{even_from}

pub evens-more : (from done count : ℕ) → done < count →
    even_from (from + done) (count - done) ≡ (from + done) * 2 ∷ even_from (from + (done + 1)) (count - (done + 1))
unfolding even_from
evens-more from done count low =
    let size : count - done ≡ suc (count - (done + 1)) = omega (arith, low) in
    let place : from + done + 1 ≡ from + (done + 1) = omega arith in
    ap (even_from (from + done)) size ∙ ap (λ (k : ℕ). (from + done) * 2 ∷ even_from k (count - (done + 1))) place

pub evens-end : (from done count : ℕ) → count ≤ done → even_from (from + done) (count - done) ≡ []
unfolding even_from
evens-end from done count high = let size : count - done ≡ 0 = omega (arith, high) in ap (even_from (from + done)) size

pub evens-all : (from count : ℕ) → even_from (from + 0) (count - 0) ≡ even_from from count
evens-all from count =
    let place : from + 0 ≡ from = omega arith in
    let size : count - 0 ≡ count = omega arith in
    ap (λ (k : ℕ). even_from k (count - 0)) place ∙ ap (even_from from) size

pub ruleset evens = (common_steps, evens-more, evens-end, evens-all)
