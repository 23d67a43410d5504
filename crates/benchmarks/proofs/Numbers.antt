-- A parsed number is within its limit.
use Rattle.std.proofs.Common.{◌≡◌, ℕ, ◌<◌, List, Option, Some, None, IfSome, arith, sym}
use Rattle.text_core.specs.Numbers.{number_up_to}
use Rattle.text_core.specs.ReadBack.{number_spells}

pub small : (text : List ℕ) (found : Option ℕ) → found ≡ number_up_to 999999999 text → IfSome found (λ n. n < 1000000000)
small text None is = tt
small text (Some n) is = let fits = number_spells 999999999 n text (omega arith) (sym is) in omega (arith, fits.0)
