-- Sections of consecutive sizes.
use Rattle.std.proofs.Common.{◌≡◌, ℕ, suc, ◌+◌, List, [], ◌∷◌, ◌++◌, length, subst, arith}
use Rattle.cert_theory.specs.declared.data.Header.{Header}
use Rattle.cert_theory.specs.Certificate.{Section, IsSection, AreSections}

-- appending a section of the next size
pub AreSections-push : (h : Header) (size : ℕ) (ss : List Section) (s : Section) → AreSections h size ss → IsSection h (size + length ss) s → AreSections h size (ss ++ s ∷ [])
unfolding AreSections
AreSections-push h size [] s each last = (let e : size + 0 ≡ size = omega arith in subst (λ (k : ℕ). IsSection h k s) e last, tt)
AreSections-push h size (x ∷ xs) s each last =
    let e : size + suc (length xs) ≡ (size + 1) + length xs = omega arith in
    (each.0, AreSections-push h (size + 1) xs s each.1 (subst (λ (k : ℕ). IsSection h k s) e last))

-- a prefix of the sections
pub AreSections-prefix : (h : Header) (size : ℕ) (ss more : List Section) → AreSections h size (ss ++ more) → AreSections h size ss
unfolding AreSections
AreSections-prefix h size [] more each = tt
AreSections-prefix h size (x ∷ xs) more each = (each.0, AreSections-prefix h (size + 1) xs more each.1)
