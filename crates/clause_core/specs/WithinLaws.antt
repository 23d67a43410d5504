-- Raw literals whose variables are within the formula's.
use Rattle.std.proofs.Common.{◌≡◌, ℕ, ◌≤◌, Bool, List, [], ◌∷◌, ◌++◌, All}
use Rattle.std.proofs.lemmas.List.Elements.{All-nil, All-cons, All-push}
use Rattle.clause_core.specs.declared.raw.RawLit.TheVariants.{Var}
use Rattle.clause_core.specs.Clauses.{IsWithin}

pub within_var : (vars v : ℕ) (bit : Bool) → 1 ≤ v → v ≤ vars → IsWithin vars (Var v bit)
unfolding IsWithin
within_var vars v bit some few = (some, few)

pub two : {X : Type 0} (P : X → Type 0) (a b : X) → P a → P b → All P (a ∷ b ∷ [])
two {X} P a b pa pb = All-cons P a (b ∷ []) pa (All-cons P b [] pb (All-nil P))

pub three : {X : Type 0} (P : X → Type 0) (a b c : X) → P a → P b → P c → All P (a ∷ b ∷ c ∷ [])
three {X} P a b c pa pb pc = All-cons P a (b ∷ c ∷ []) pa (All-cons P b (c ∷ []) pb (All-cons P c [] pc (All-nil P)))

pub four : {X : Type 0} (P : X → Type 0) (a b c d : X) → P a → P b → P c → P d → All P (a ∷ b ∷ c ∷ d ∷ [])
four {X} P a b c d pa pb pc pd = All-cons P a (b ∷ c ∷ d ∷ []) pa (All-cons P b (c ∷ d ∷ []) pb (two P c d pc pd))

pub five : {X : Type 0} (P : X → Type 0) (a b c d e : X) → P a → P b → P c → P d → P e → All P (a ∷ b ∷ c ∷ d ∷ e ∷ [])
five {X} P a b c d e pa pb pc pd pe = All-cons P a (b ∷ c ∷ d ∷ e ∷ []) pa (four P b c d e pb pc pd pe)

pub all_pushed : {X : Type 0} (P : X → Type 0) (old new : List X) (x : X) → new ≡ old ++ x ∷ [] → All P old → P x → All P new
all_pushed {X} P old new x is before here = rw is (All-push P old x before here)
