-- The subproblems of a size that are tried.
use Rattle.std.proofs.Common.{◌≡◌, zero, suc, ◌<◌, Bool, true, false, cond, List, [], ◌∷◌, length, Contains, refl, ap, ◌∙◌, arith, ◌||◌}
use Rattle.std.specs.List.{list_any}
use Rattle.enc_theory.specs.declared.subproblem.Subproblem.{Subproblem}
use Rattle.settings.specs.declared.methods.Method.{Method}
use Rattle.cert_theory.specs.declared.data.LogEnd.{LogEnd}
use Rattle.cert_theory.specs.declared.data.LogEnd.TheVariants as ends
use Rattle.cert_theory.specs.Certificate.{SubproblemLog, is_open_end, stops_after, due_after, tried}

neither : (a b : Bool) → (a || b) ≡ false → (a ≡ false) × (b ≡ false)
neither true b e = absurd cc
neither false b e = (refl, e)

refuted_goes_on : (method : Method) (ended : LogEnd) → is_open_end ended ≡ false → stops_after method ended ≡ false
refuted_goes_on method ends.Refuted e = refl
refuted_goes_on method ends.Open e = absurd cc

-- where no log is open, all are tried
pub tried_all : (method : Method) (due : List Subproblem) (ps : List SubproblemLog) → list_any (λ p. is_open_end p.ended) ps ≡ false → tried method due ps ≡ due
unfolding tried
tried_all method due [] none = refl
tried_all method [] (p ∷ ps) none = refl
tried_all method (subproblem ∷ later) (p ∷ ps) none =
    let both = neither (is_open_end p.ended) (list_any (λ p. is_open_end p.ended) ps) none in
    ap (λ (t : Bool). subproblem ∷ tried method (cond t [] later) ps) (refuted_goes_on method p.ended both.0)
    ∙ ap (λ (xs : List Subproblem). subproblem ∷ xs) (tried_all method later ps both.1)

due_among : (stops : Bool) (later : List Subproblem) (x : Subproblem) → Contains (cond stops [] later) x → Contains later x
due_among true later x there = absurd (let low : there.0 < 0 = there.1 in omega (arith, low))
due_among false later x there = there

-- what is tried is one of the size's subproblems
pub tried_among : (method : Method) (due : List Subproblem) (ps : List SubproblemLog) (x : Subproblem) → Contains (tried method due ps) x → Contains due x
unfolding tried
tried_among method due [] x there = there
tried_among method [] (p ∷ ps) x there = there
tried_among method (subproblem ∷ later) (p ∷ ps) x (zero, within, at) = (0, omega arith, at)
tried_among method (subproblem ∷ later) (p ∷ ps) x (suc k, within, at) =
    let more : suc k < suc (length (tried method (due_after method p.ended later) ps)) = within in
    let rest = due_among (stops_after method p.ended) later x (tried_among method (due_after method p.ended later) ps x (k, omega (arith, more), at)) in
    (suc rest.0, omega (arith, rest.1), rest.2)
