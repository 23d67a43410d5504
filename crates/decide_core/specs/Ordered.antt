-- Headers with permuted tables.
use Rattle.std.specs.Prelude.{◌≡◌, ℕ, List}
use Rattle.tt_core.specs.Words.{specification}
use Rattle.cert_theory.specs.declared.data.Header.{Header}
use Rattle.spec_cache.specs.Order.{IsOrder, IsPermuted}

-- k has the tables of h with their inputs permuted, the same `max` and the same basis
pub record IsPermutedTo (h k : Header) (order : List ℕ) : Type 0 where
  pub numbers : IsOrder h.spec.n order
  pub permuted : IsPermuted (specification h.spec) (specification k.spec) order
  pub basis : k.basis ≡ h.basis
  pub max : k.max ≡ h.max
