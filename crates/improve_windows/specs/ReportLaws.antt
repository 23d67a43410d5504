-- Texts that are appended piece by piece, and one more window in the report.
use Rattle.std.specs.Prelude.{◌≡◌, ℕ, suc, List, ◌∷◌, ◌++◌, All}
use Rattle.std.specs.List.{flat_map}
use Rattle.std.proofs.Common.{arith, subst}
use Rattle.std.proofs.lemmas.Grind.{common_steps}
use Rattle.cert_theory.specs.Certificate.{IsValid, HasOutput}
use Rattle.improve_theory.specs.Undecided.{Undecided}

-- the certificate is valid and has an output, so it can be written
pub record CanBeWritten (u : Undecided) : Type 0 where
  pub valid : IsValid u.search
  pub output : HasOutput u.search

-- ---- texts that grow

pub appended : (start now next a b : List ℕ) → now ≡ start ++ a → next ≡ now ++ b → next ≡ start ++ (a ++ b)
appended start now next a b first second = grind (arith, common_steps, first, second)

pub windows_more : (text : Undecided → List ℕ) (start now next : List ℕ) (u : Undecided)
    (left rest all : List Undecided) → now ++ flat_map text left ≡ start ++ flat_map text all → left ≡ u ∷ rest →
    next ≡ now ++ text u → next ++ flat_map text rest ≡ start ++ flat_map text all
windows_more text start now next u left rest all done split more = grind (arith, common_steps, done, split, more)

pub all_after : (P : Undecided → Type 0) (u : Undecided) (rest left : List Undecided) → left ≡ u ∷ rest → All P left → All P rest
all_after P u rest left split all =
    let both : All P (u ∷ rest) = subst (λ (us : List Undecided). All P us) split all in
    λ k d low. both (suc k) d (omega (arith, low))

pub ruleset writing = (common_steps, windows_more, all_after)
