-- The variables of edges for a chain: which of its steps differ.
use Rattle.std.proofs.Common.{◌≡◌, ℕ, ◌+◌, ◌-◌, ◌*◌, ◌/◌, ◌%◌, ◌<◌, Bool, true, false, not, List, get_or, refl, arith}
use Rattle.std.specs.Prelude.{if◌then◌else◌}
use Rattle.std.proofs.lemmas.Nat.{div-mul-add, mod-mul-add}
use Rattle.chain_theory.specs.Chain.{Chain}
use Rattle.chain_theory.specs.Value.{value}
use Rattle.sat_theory.specs.Formula.{Assignment}
use Rattle.enc_theory.specs.declared.data.Dimensions.{Dimensions}
use Rattle.enc_laws.specs.Layouts.{IsStepPlace}
use Rattle.strong_theory.specs.declared.data.Edge.{Edge}
use Rattle.strong_theory.specs.Edges.{edge}
use Rattle.strong_theory.specs.Strong.{d_var}

-- the step has different values on the edge's rows
abbrev pub differs_on : Chain → Edge → ℕ → Bool
differs_on c e i = if value c e.low i then not (value c e.high i) else value c e.high i

pub same_on : (x y : Bool) → (if x then not y else y) ≡ false → x ≡ y
same_on true true e = refl
same_on true false e = absurd cc
same_on false true e = absurd cc
same_on false false e = refl

pub on_same : (x y : Bool) → x ≡ y → (if x then not y else y) ≡ false
on_same true true e = refl
on_same true false e = absurd cc
on_same false true e = absurd cc
on_same false false e = refl

-- edge k of a list
abbrev pub edge_of : List Edge → ℕ → Edge
edge_of es k = get_or es k (edge 0 0 0)

-- r variables for each edge, after `before`: division gives the edge and the step
unfoldable pub difference_bits : Dimensions → Chain → ℕ → List Edge → Assignment
difference_bits z c before es x = differs_on c (edge_of es ((x - (before + 1)) / z.r)) ((x - (before + 1)) % z.r + (z.n + 1))

pub difference_bit : (z : Dimensions) (c : Chain) (before : ℕ) (es : List Edge) (k i : ℕ) → IsStepPlace z i →
    difference_bits z c before es (d_var z (before + k * z.r) i) ≡ differs_on c (edge_of es k) i
unfolding difference_bits d_var
difference_bit z c before es k i is =
    let from = is.from in
    let to = is.to in
    let inside : i - (z.n + 1) < z.r = omega arith in
    let back : before + k * z.r + (i - z.n) - (before + 1) ≡ k * z.r + (i - (z.n + 1)) = omega arith in
    let place : i - (z.n + 1) + (z.n + 1) ≡ i = omega arith in
    rw (back, div-mul-add k z.r (i - (z.n + 1)) inside, mod-mul-add k z.r (i - (z.n + 1)) inside, place) refl
