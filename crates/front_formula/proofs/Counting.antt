-- As many operands as words of them.
use Rattle.std.specs.Prelude.{◌≡◌, ℕ, nat_le, List, length, map, String}
use Rattle.std.specs.Global.{Global}
use Rattle.std.proofs.lemmas.Grind.{common_steps}
use Rattle.std.proofs.lemmas.List.{length-map}
use Rattle.std.proofs.Common.{sym, ap}

pub as_many : (f : String Global → List ℕ) (files : List (String Global)) (most : ℕ) →
    nat_le (length files) most ≡ nat_le (length (map f files)) most
as_many f files most = ap (λ (n : ℕ). nat_le n most) (sym (length-map files f))

pub ruleset counting = (common_steps, as_many)
