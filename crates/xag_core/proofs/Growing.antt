-- Graphs that grow by one gate.
use Rattle.std.proofs.Common.{◌≡◌, ℕ, zero, suc, ◌+◌, ◌<◌, ◌^◌, List, [], ◌∷◌, ◌++◌, length, refl, ap, subst, sym, inl, inr, ⊎_elim, arith, length-append}
use Rattle.std.specs.Prelude.{slice_get, Some, ◌⊎◌}
use Rattle.xag_core.specs.declared.xag.XagGate.{XagGate}
use Rattle.xag_core.specs.Xag.{IsXagGateAt, AreXagGates, IsGrownXag}

-- the elements of a list with one more element
at_push : {A : Type 0} (xs : List A) (x y : A) (i : ℕ) → slice_get (xs ++ x ∷ []) i ≡ Some y → (slice_get xs i ≡ Some y) ⊎ ((i ≡ length xs) × (x ≡ y))
at_push [] x y zero e = inr (refl, cc)
at_push [] x y (suc i) e = absurd cc
at_push (z ∷ xs) x y zero e = inl e
at_push (z ∷ xs) x y (suc i) e = ⊎_elim (λ l. inl l) (λ r. inr (ap suc r.0, r.1)) (at_push xs x y i e)

gates_push : (sources : ℕ) (gates : List XagGate) (g : XagGate) → AreXagGates sources gates → IsXagGateAt (sources + 1 + length gates) g → AreXagGates sources (gates ++ g ∷ [])
gates_push sources gates g are is =
    record { each = λ i h at. ⊎_elim (λ l. are.each i h l) (λ r. rw (r.0, ← r.1) is) (at_push gates g h i at) }

-- a gate whose operands are below the end is appended
pub grown_push : (sources : ℕ) (gates new : List XagGate) (g : XagGate) →
    IsGrownXag (record { sources = sources; gates = gates }) → IsXagGateAt (sources + 1 + length gates) g →
    sources + 1 + length gates < 2 ^ 31 → new ≡ gates ++ g ∷ [] → IsGrownXag (record { sources = sources; gates = new })
grown_push sources gates new g grown is room e =
    let P : List XagGate → Type 0 = λ gs. IsGrownXag (record { sources = sources; gates = gs }) in
    subst P (sym e) (record {
      gates = gates_push sources gates g grown.gates is;
      nodes = omega (arith, room, length-append gates (g ∷ []));
    })
