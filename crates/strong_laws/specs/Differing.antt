-- Which steps of a chain differ on an edge: a step without an operand that differs doesn't, and if no step that reads
-- the edge's input does, no output does.
use Rattle.std.proofs.Common.{◌≡◌, ℕ, zero, suc, ◌+◌, ◌<◌, ◌≤◌, ◌==◌, Bool, true, false, length, sym, ap, ◌∙◌, subst, arith, inl, inr, ⊎_elim}
use Rattle.std.proofs.lemmas.Bool.{cases_Bool, cases_lt, eqb-true, false_from_ne_true}
use Rattle.chain_theory.specs.Operator.{apply}
use Rattle.chain_theory.specs.Specification.{input}
use Rattle.chain_theory.specs.Chain.{Chain}
use Rattle.chain_theory.specs.Value.{value, out_value}
use Rattle.chain_theory.specs.ValueLaws.{value-input}
use Rattle.chain_theory.specs.Agreement.{is_met}
use Rattle.chain_theory.specs.declared.data.Cell.{Cell}
use Rattle.chain_theory.specs.declared.data.Cell.TheVariants.{Zero, One, Free}
use Rattle.chain_laws.specs.NormalForm.{Reads}
use Rattle.tt_core.specs.Words.{Words, cell_of}
use Rattle.enc_theory.specs.Numbering.{sizes_of}
use Rattle.enc_laws.specs.Layouts.{IsStepPlace}
use Rattle.enc_laws.specs.Decoded.{IsFor}
use Rattle.enc_laws.specs.Complete.{step_at, HasStepOuts, step_below, step_has_value}
use Rattle.strong_theory.specs.declared.data.Edge.{Edge}
use Rattle.strong_theory.specs.Edges.{opposite}
use Rattle.strong_laws.specs.EdgeLaws.{IsEdge}

-- no bit meets two opposite cells
never_opposite : (x y : Cell) (b : Bool) → opposite x y ≡ true → is_met x b ≡ true → is_met y b ≡ true → ⊥
never_opposite Zero Zero b e x y = cc
never_opposite Zero One true e x y = cc
never_opposite Zero One false e x y = cc
never_opposite Zero Free b e x y = cc
never_opposite One Zero true e x y = cc
never_opposite One Zero false e x y = cc
never_opposite One One b e x y = cc
never_opposite One Free b e x y = cc
never_opposite Free Zero b e x y = cc
never_opposite Free One b e x y = cc
never_opposite Free Free b e x y = cc

module _ (w : Words) (basis r : ℕ) (c : Chain) (is : IsFor w basis r c) (e : Edge) (edge : IsEdge w e) where
  -- no input differs but the edge's
  pub input_same : (p : ℕ) → p ≤ w.n → 1 ≤ p → (p == e.input) ≡ false → value c e.low p ≡ value c e.high p
  input_same p low some other =
      let inputs = is.agrees.inputs in
      value-input c e.low p (omega arith)
      ∙ ap (λ (n : ℕ). input n e.low p) inputs
      ∙ edge.others p some low other
      ∙ sym (ap (λ (n : ℕ). input n e.high p) inputs)
      ∙ sym (value-input c e.high p (omega arith))

  pub step_same : (i : ℕ) → IsStepPlace (sizes_of w r) i → value c e.low (step_at c i).j ≡ value c e.high (step_at c i).j →
      value c e.low (step_at c i).k ≡ value c e.high (step_at c i).k → value c e.low i ≡ value c e.high i
  step_same i place j k =
      step_has_value w basis r c is i e.low place
      ∙ ap (λ (b : Bool). apply (step_at c i).op b (value c e.low (step_at c i).k)) j
      ∙ ap (λ (b : Bool). apply (step_at c i).op (value c e.high (step_at c i).j) b) k
      ∙ sym (step_has_value w basis r c is i e.high place)

  -- if no step that reads the edge's input differs, no other place does
  places_same : ((i : ℕ) → IsStepPlace (sizes_of w r) i → Reads (step_at c i) e.input → value c e.low i ≡ value c e.high i) →
      (bound p : ℕ) → p < bound → 1 ≤ p → p < w.n + 1 + r → (p == e.input) ≡ false → value c e.low p ≡ value c e.high p
  places_same readers zero p low some within other = absurd (omega arith)
  places_same readers (suc bound) p low some within other = ⊎_elim
      (λ (step : w.n < p).
      let place : IsStepPlace (sizes_of w r) p = record { from = omega arith; to = within } in
      let below = step_below w basis r c is p place in
      let j_from = below.j_from in
      let j_below = below.j_below in
      let k_from = below.k_from in
      let k_below = below.k_below in
      ⊎_elim
      (λ (j : ((step_at c p).j == e.input) ≡ true). readers p place (inl (eqb-true (step_at c p).j e.input j)))
      (λ (j : ((step_at c p).j == e.input) ≡ false). ⊎_elim
      (λ (k : ((step_at c p).k == e.input) ≡ true). readers p place (inr (eqb-true (step_at c p).k e.input k)))
      (λ (k : ((step_at c p).k == e.input) ≡ false). step_same p place
      (places_same readers bound (step_at c p).j (omega arith) j_from (omega arith) j)
      (places_same readers bound (step_at c p).k (omega arith) k_from (omega arith) k))
      (cases_Bool ((step_at c p).k == e.input)))
      (cases_Bool ((step_at c p).j == e.input)))
      (λ (inp : p ≤ w.n). input_same p inp some other)
      (cases_lt w.n p)

  -- but an output does
  pub some_reader_differs : HasStepOuts c (length w.on) →
      ((i : ℕ) → IsStepPlace (sizes_of w r) i → Reads (step_at c i) e.input → value c e.low i ≡ value c e.high i) → ⊥
  some_reader_differs outs readers =
      let inputs = is.agrees.inputs in
      let size = is.size in
      let out = outs.each edge.output edge.output_from edge.output_to in
      let above = out.above in
      let within = out.within in
      let input_to = edge.input_to in
      let other : (out.place == e.input) ≡ false = false_from_ne_true (out.place == e.input) (λ t. let s = eqb-true out.place e.input t in omega arith) in
      let same : value c e.low out.place ≡ value c e.high out.place = places_same readers (suc out.place) out.place (omega arith) (omega arith) (omega arith) other in
      never_opposite (cell_of w edge.output e.low) (cell_of w edge.output e.high) (value c e.high out.place) edge.differs
      (subst (λ (b : Bool). is_met (cell_of w edge.output e.low) b ≡ true) (ap (out_value c e.low) out.is ∙ same)
      (is.agrees.cells edge.output e.low edge.output_from edge.output_to edge.low))
      (subst (λ (b : Bool). is_met (cell_of w edge.output e.high) b ≡ true) (ap (out_value c e.high) out.is)
      (is.agrees.cells edge.output e.high edge.output_from edge.output_to edge.high))
