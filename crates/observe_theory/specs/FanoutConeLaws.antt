-- Fanout cones ascend, and their side inputs don't depend on the window.
use Rattle.std.specs.Prelude.{◌≡◌, ℕ, ◌≤◌, ◌<◌, true, false, List, [], ◌∷◌, ◌++◌, ◌⊎◌}
use Rattle.std.proofs.Common.{arith, sym, subst, inl, inr, ⊎_elim, ◌≢◌}
use Rattle.std.proofs.lemmas.Bool.{cases_Bool, both_ways}
use Rattle.net_theory.specs.Net.{Net, IsNet}
use Rattle.window_theory.specs.Nodes.{among}
use Rattle.window_theory.specs.NodeLaws.{among_cases, among_first, among_later}
use Rattle.window_theory.specs.Paths.{Reads, HasPath, at_once, by_way_of}
use Rattle.window_theory.specs.Window.{Window, IsOutsideFanout}
use Rattle.window_theory.specs.WindowLaws.{reads_low}
use Rattle.observe_theory.specs.FanoutCone.{IsFollower, AreFollowing, IsSideInput, FanoutCone, IsFanoutCone}
use Rattle.observe_theory.specs.JoinedLaws.{in_prefix, in_back, in_parts, is_off, out_back}

-- ---- fanout cones ascend

-- a follower after one more gate is a fanout of that gate, or was a follower before
follower_before : (n : Net) (rest : List ℕ) (p x : ℕ) → IsFollower n (p ∷ rest) x → Reads n x p ⊎ (IsFollower n rest x × (x ≢ p))
follower_before n rest p x is =
    let other : x ≢ p = λ same. both_ways (among (p ∷ rest) x) is.outside (subst (λ (q : ℕ). among (p ∷ rest) q ≡ true) (sym same) (among_first p rest)) in
    let out : among rest x ≡ false = is_off rest x (λ on. both_ways (among (p ∷ rest) x) is.outside (among_later p x rest on)) in
    ⊎_elim
    (λ same. inl (subst (λ (q : ℕ). Reads n x q) same is.reads))
    (λ later. inr (record { outside = out; node = is.node; inside = later; reads = is.reads }, other))
    (among_cases p is.node rest is.inside)

-- a follower is above all gates that were taken
pub follower_high : (n : Net) (gates taken : List ℕ) (x q : ℕ) → IsNet n → AreFollowing n gates taken → IsFollower n (taken ++ gates) x → among taken q ≡ true → q < x
unfolding AreFollowing
follower_high n gates [] x q net are is on = absurd cc
follower_high n gates (p ∷ before) x q net are is on =
    let above : p < x = ⊎_elim
    (λ reads. (reads_low n x p net reads).1)
    (λ was. let from : p ≤ x = are.0.least x was.0 in omega (arith, from, was.1))
    (follower_before n (before ++ gates) p x is) in
    ⊎_elim
    (λ (own : q ≡ p). omega (arith, above, own))
    (λ later. omega (arith, above, follower_high n gates before p q net are.1 are.0.follower later))
    (among_cases p q before on)

-- ---- side inputs

-- a path that leaves a set of gates for good passes a follower
crossing : (n : Net) (all : List ℕ) (g q : ℕ) → IsNet n → among all g ≡ true → HasPath n g q → among all q ≡ false → (x : ℕ) × (x ≤ q) × IsFollower n all x
crossing n all _ _ net on (at_once g q reads) off = (q, omega arith, record { outside = off; node = g; inside = on; reads = reads })
crossing n all _ _ net on (by_way_of g m q before reads) off =
    ⊎_elim
    (λ inside. (q, omega arith, record { outside = off; node = m; inside = inside; reads = reads }))
    (λ outside. let r = crossing n all g m net on before outside in (r.0, omega (arith, r.1, (reads_low n q m net reads).1), r.2))
    (cases_Bool (among all m))

-- the ascending list of the gates that were taken
same_taken : (gates taken fanout_cone : List ℕ) (p : ℕ) → ((q : ℕ) → among taken q ≡ true → among fanout_cone q ≡ true) → among (fanout_cone ++ gates) p ≡ false → among (taken ++ gates) p ≡ false
same_taken gates taken fanout_cone p within off =
    is_off (taken ++ gates) p (λ on. both_ways (among (fanout_cone ++ gates) p) off
    (⊎_elim (λ a. in_prefix fanout_cone gates p (within p a)) (λ b. in_back fanout_cone gates p b) (in_parts taken gates p on)))

-- No side input is in the transitive fanout of the window.
pub side_input_apart : (n : Net) (w : Window) (t : FanoutCone) (p : ℕ) → IsNet n → IsFanoutCone n w t → among t.side_inputs p ≡ true → IsOutsideFanout n w.gates p
side_input_apart n w t p net is on =
    let side_input : IsSideInput n w.gates t.gates p = is.side_inputs.only p on in
    record {
      outside = out_back t.gates w.gates p side_input.outside;
      above = λ g inside up.
          let taken : List ℕ = is.gates.taken in
          let off : among (taken ++ w.gates) p ≡ false = same_taken w.gates taken t.gates p is.gates.just.all side_input.outside in
          let x = crossing n (taken ++ w.gates) g p net (in_back taken w.gates g inside) up off in
          let high : side_input.read.fanout < x.0 =
          follower_high n w.gates taken x.0 side_input.read.fanout net is.gates.following x.2
          (is.gates.just.only side_input.read.fanout side_input.read.inside) in
          absurd (omega (arith, high, x.1, (reads_low n side_input.read.fanout p net side_input.read.reads).1));
    }
