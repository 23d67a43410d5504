-- Values of nodes, by recursion over the gates from the last one.
use Rattle.std.proofs.Common.{◌≡◌, ◌≢◌, ℕ, ◌+◌, Bool, List, [], ◌∷◌, ◌++◌, length, refl, ◌∙◌, ap, arith}
use Rattle.net_theory.specs.declared.data.Gate.{Gate}
use Rattle.net_theory.specs.Net.{gate_value, values_after, values_of}
use Rattle.net_theory.specs.ValueLaws.{value-last, value-before}

-- Without gates each node has its given bit.
pub values_of-none : (given : ℕ → Bool) (sources node : ℕ) (gates : List Gate) → length gates ≡ 0 → values_of given sources gates node ≡ given node
unfolding values_after
values_of-none given sources node [] e = refl
values_of-none given sources node (g ∷ gs) e = absurd (omega arith)

-- The node of the last gate has that gate's value.
pub values_of-last : (given : ℕ → Bool) (sources node : ℕ) (gates before : List Gate) (last : Gate) → gates ≡ before ++
    last ∷ [] → node ≡ sources + 1 + length before →
    values_of given sources gates node ≡ gate_value (values_of given sources before) last
values_of-last given sources node gates before last e own =
    ap (λ (gs : List Gate). values_of given sources gs node) e
    ∙ ap (values_of given sources (before ++ last ∷ [])) own
    ∙ value-last given sources before last

-- Any other node has the value that the earlier gates give it.
pub values_of-before : (given : ℕ → Bool) (sources node : ℕ) (gates before : List Gate) (last : Gate) →
    gates ≡ before ++ last ∷ [] → node ≢ sources + 1 + length before →
    values_of given sources gates node ≡ values_of given sources before node
values_of-before given sources node gates before last e other =
    ap (λ (gs : List Gate). values_of given sources gs node) e ∙ value-before given sources node before last other
