-- The rest of a text, after what was read of it.
use Rattle.std.specs.Prelude.{◌≡◌, ℕ, ◌+◌, ◌-◌, ◌≤◌, List, length, refl}
use Rattle.std.proofs.Common.{drop, ap, ◌∙◌, arith}
use Rattle.std.proofs.lemmas.List.{drop-drop}
use Rattle.std.proofs.lemmas.Grind.{common_steps}

-- `rest` is a suffix of `bytes`
pub record IsRest (bytes rest : List ℕ) : Type 0 where
  pub shorter : length rest ≤ length bytes
  pub place : rest ≡ drop (length bytes - length rest) bytes

-- a text is a suffix of itself
pub whole_rest : (bytes : List ℕ) → IsRest bytes bytes
whole_rest bytes = record { shorter = omega arith; place = grind (arith, common_steps) }

-- a suffix of a suffix is a suffix
pub rest_of_rest : (a b c : List ℕ) → IsRest a b → IsRest b c → IsRest a c
rest_of_rest a b c ab bc =
    let sum : (length a - length b) + (length b - length c) ≡ length a - length c = omega (arith, ab.shorter, bc.shorter) in
    let inner : drop (length b - length c) b ≡ drop (length b - length c) (drop (length a - length b) a) = ap (λ (xs : List ℕ). drop (length b - length c) xs) ab.place in
    record {
      shorter = omega (arith, ab.shorter, bc.shorter);
      place = bc.place ∙ inner ∙ rw (drop-drop, sum) refl;
    }
