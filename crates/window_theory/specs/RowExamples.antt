-- Worked examples of fanin cones, care rows and windows.
use Rattle.std.specs.Prelude.{◌≡◌, ℕ, zero, suc, ◌+◌, ◌≤◌, ◌<◌, Bool, true, false, List, [], ◌∷◌, slice_get, Some, ◌⊎◌, refl}
use Rattle.std.proofs.Common.{arith, sym, subst, inl, inr, ⊎_elim}
use Rattle.std.proofs.lemmas.Bool.{cases_eq}
use Rattle.chain_theory.specs.Operator.{apply}
use Rattle.net_theory.specs.declared.data.Sig.TheVariants.{Node}
use Rattle.net_theory.specs.declared.data.Gate.{Gate}
use Rattle.net_theory.specs.Net.{Net, IsNet, IsSigBelow, IsGateAt}
use Rattle.net_theory.specs.NameLaws.{at_all}
use Rattle.net_theory.specs.declared.data.Sig.{Sig}
use Rattle.net_theory.specs.Expansion.{gate_of}
use Rattle.window_theory.specs.Nodes.{among, IsRising}
use Rattle.window_theory.specs.NodeLaws.{among_cases}
use Rattle.window_theory.specs.Paths.{IsGate}
use Rattle.window_theory.specs.WindowLaws.{reads_low, gate_high}
use Rattle.window_theory.specs.FaninCone.{IsExpandedLeaf, Expands, IsFullyExpanded, ExpandsTo, stays, goes_on}
use Rattle.window_theory.specs.FaninConeLaws.{leaves_one}
use Rattle.window_theory.specs.Care.{fixed_after, values_with, IsCareRow, HasRow}

-- AND of the two sources at 3, OR of them at 4
abbrev pub and_or : Net
and_or = record { sources = 2; gates = gate_of 1 (Node 1) (Node 2) ∷ gate_of 7 (Node 1) (Node 2) ∷ []; sinks = Node 3 ∷ Node 4 ∷ [] }

abbrev and_gate : IsGate and_or 3
and_gate = record { index = 0; gate = gate_of 1 (Node 1) (Node 2); at = refl; node = refl }

abbrev or_gate : IsGate and_or 4
or_gate = record { index = 1; gate = gate_of 7 (Node 1) (Node 2); at = refl; node = refl }

each_gate : (i : ℕ) (g : Gate) → slice_get and_or.gates i ≡ Some g → IsGateAt (3 + i) g
each_gate zero g at =
    let same : gate_of 1 (Node 1) (Node 2) ≡ g = cc in
    subst (IsGateAt 3) same (record { operator = omega arith; first = (omega arith, omega arith); second = (omega arith, omega arith) })
each_gate (suc zero) g at =
    let same : gate_of 7 (Node 1) (Node 2) ≡ g = cc in
    subst (IsGateAt 4) same (record { operator = omega arith; first = (omega arith, omega arith); second = (omega arith, omega arith) })
each_gate (suc (suc i)) g at = absurd cc

each_sink : (i : ℕ) (s : Sig) → slice_get and_or.sinks i ≡ Some s → IsSigBelow 5 s
each_sink zero s e = let same : Node 3 ≡ s = cc in subst (IsSigBelow 5) same (omega arith, omega arith)
each_sink (suc zero) s e = let same : Node 4 ≡ s = cc in subst (IsSigBelow 5) same (omega arith, omega arith)
each_sink (suc (suc i)) s e = absurd cc

and_or_net : IsNet and_or
and_or_net =
    record {
      gates = record { each = each_gate };
      sinks = at_all (IsSigBelow 5) and_or.sinks (λ i s e. each_sink i s e);
      nodes = omega arith;
    }

-- ---- the leaves

pub none_among : (q : ℕ) → among [] q ≡ true → ⊥
none_among q e = let x : false ≡ true = e in absurd cc

-- an element of a list of two or three
pub two_cases : (a b q : ℕ) → among (a ∷ b ∷ []) q ≡ true → (q ≡ a) ⊎ (q ≡ b)
two_cases a b q e = ⊎_elim (λ one. inl one) (λ rest. ⊎_elim (λ two. inr two) (λ none. absurd (none_among q none)) (among_cases b q [] rest)) (among_cases a q (b ∷ []) e)

pub three_cases : (a b c q : ℕ) → among (a ∷ b ∷ c ∷ []) q ≡ true → (q ≡ a) ⊎ ((q ≡ b) ⊎ (q ≡ c))
three_cases a b c q e = ⊎_elim (λ one. inl one) (λ rest. inr (two_cases b c q rest)) (among_cases a q (b ∷ c ∷ []) e)

pub low_two : (q : ℕ) → 1 ≤ q → q < 3 → among (1 ∷ 2 ∷ []) q ≡ true
low_two q some low = ⊎_elim (λ (one : q ≡ 1). subst (λ (x : ℕ). among (1 ∷ 2 ∷ []) x ≡ true) (sym one) refl) (λ other.
    let two : 2 ≡ q = omega (arith, other, some, low) in subst (λ (x : ℕ). among (1 ∷ 2 ∷ []) x ≡ true) two refl)
    (cases_eq q 1)

pub low_three : (q : ℕ) → 1 ≤ q → q < 4 → among (1 ∷ 2 ∷ 3 ∷ []) q ≡ true
low_three q some low = ⊎_elim
    (λ (three : q ≡ 3). subst (λ (x : ℕ). among (1 ∷ 2 ∷ 3 ∷ []) x ≡ true) (sym three) refl)
    (λ other. ⊎_elim (λ (one : q ≡ 1). subst (λ (x : ℕ). among (1 ∷ 2 ∷ 3 ∷ []) x ≡ true) (sym one) refl) (λ more.
    let two : 2 ≡ q = omega (arith, other, more, some, low) in
    subst (λ (x : ℕ). among (1 ∷ 2 ∷ 3 ∷ []) x ≡ true) two refl) (cases_eq q 1))
    (cases_eq q 3)

pub rising_two : IsRising (1 ∷ 2 ∷ [])
unfolding IsRising
rising_two =
    let last : IsRising (2 ∷ []) = (λ q e. absurd (none_among q e), tt) in
    (λ q e. ⊎_elim (λ (two : q ≡ 2). omega arith) (λ none. absurd (none_among q none)) (among_cases 2 q [] e), last)

pub rising_three : IsRising (1 ∷ 2 ∷ 3 ∷ [])
unfolding IsRising
rising_three =
    let last : IsRising (3 ∷ []) = (λ q e. absurd (none_among q e), tt) in
    let rest : IsRising (2 ∷ 3 ∷ []) = (λ q e. ⊎_elim (λ (three : q ≡ 3). omega arith) (λ none. absurd (none_among q none)) (among_cases 3 q [] e), last) in
    (λ q e. ⊎_elim (λ (two : q ≡ 2). omega arith) (λ (three : q ≡ 3). omega arith) (two_cases 2 3 q e), rest)

first_step : Expands and_or (3 ∷ 4 ∷ []) (1 ∷ 2 ∷ 3 ∷ [])
first_step =
    record {
      node = 4;
      greatest = record { leaf = refl; gate = or_gate; greatest = λ q e gate. ⊎_elim (λ (three : q ≡ 3). omega arith) (λ (four : q ≡ 4). omega arith) (two_cases 3 4 q e) };
      just = record {
        rising = rising_three;
        only = λ q e. ⊎_elim
            (λ one. subst (IsExpandedLeaf and_or (3 ∷ 4 ∷ []) 4) (sym one) (inr (record { fanout = or_gate; reads = inl refl })))
            (λ more. ⊎_elim
            (λ two. subst (IsExpandedLeaf and_or (3 ∷ 4 ∷ []) 4) (sym two) (inr (record { fanout = or_gate; reads = inr refl })))
            (λ three. subst (IsExpandedLeaf and_or (3 ∷ 4 ∷ []) 4) (sym three) (inl (refl, λ same. omega (arith, same))))
            more)
            (three_cases 1 2 3 q e);
        all = λ q e. ⊎_elim
            (λ old. ⊎_elim (λ (three : q ≡ 3). low_three q (omega arith) (omega arith)) (λ four. absurd (old.1 four)) (two_cases 3 4 q old.0))
            (λ r. let low = reads_low and_or 4 q and_or_net r in low_three q low.0 low.1)
            e;
      };
    }

second_step : Expands and_or (1 ∷ 2 ∷ 3 ∷ []) (1 ∷ 2 ∷ [])
second_step =
    record {
      node = 3;
      greatest = record {
        leaf = refl;
        gate = and_gate;
        greatest = λ q e gate. ⊎_elim (λ (one : q ≡ 1). omega arith) (λ more.
            ⊎_elim (λ (two : q ≡ 2). omega arith) (λ (three : q ≡ 3). omega arith) more) (three_cases 1 2 3 q e);
      };
      just = record {
        rising = rising_two;
        only = λ q e. ⊎_elim
            (λ one. subst (IsExpandedLeaf and_or (1 ∷ 2 ∷ 3 ∷ []) 3) (sym one) (inr (record { fanout = and_gate; reads = inl refl })))
            (λ two. subst (IsExpandedLeaf and_or (1 ∷ 2 ∷ 3 ∷ []) 3) (sym two) (inr (record { fanout = and_gate; reads = inr refl })))
            (two_cases 1 2 q e);
        all = λ q e. ⊎_elim
            (λ old. ⊎_elim (λ (one : q ≡ 1). low_two q (omega arith) (omega arith)) (λ more.
            ⊎_elim (λ (two : q ≡ 2). low_two q (omega arith) (omega arith)) (λ three. absurd (old.1 three)) more)
            (three_cases 1 2 3 q old.0))
            (λ r. let low = reads_low and_or 3 q and_or_net r in low_two q low.0 low.1)
            e;
      };
    }

no_step : IsFullyExpanded and_or (1 ∷ 2 ∷ [])
no_step after expands =
    let high = gate_high and_or expands.node expands.greatest.gate in
    ⊎_elim (λ (one : expands.node ≡ 1). absurd (omega (arith, one, high.0))) (λ (two : expands.node ≡ 2). absurd (omega (arith, two, high.0))) (two_cases 1 2 expands.node expands.greatest.leaf)

-- the leaves of both gates are the sources
pub sources_are_leaves : ExpandsTo and_or (3 ∷ 4 ∷ []) (1 ∷ 2 ∷ [])
sources_are_leaves =
    goes_on (3 ∷ 4 ∷ []) (1 ∷ 2 ∷ 3 ∷ []) (1 ∷ 2 ∷ []) first_step (omega arith)
    (goes_on (1 ∷ 2 ∷ 3 ∷ []) (1 ∷ 2 ∷ []) (1 ∷ 2 ∷ []) second_step (omega arith) (stays (1 ∷ 2 ∷ []) no_step))

-- ---- rows

and_not_or : (a b : Bool) → apply 1 a b ≡ true → apply 7 a b ≡ false → ⊥
and_not_or true true x y = let e : true ≡ false = y in absurd cc
and_not_or true false x y = let e : false ≡ true = x in absurd cc
and_not_or false true x y = let e : false ≡ true = x in absurd cc
and_not_or false false x y = let e : false ≡ true = x in absurd cc

shown : (given : ℕ → Bool) → HasRow (values_with and_or (among (1 ∷ 2 ∷ [])) given) (3 ∷ 4 ∷ []) 2 → ⊥
unfolding fixed_after
shown given row = and_not_or (given 1) (given 2) (row 0 (omega arith)) (row 1 (omega arith))

-- Row 10 of both gates isn't a care row: no bits of the sources give AND 1 and OR 0.
pub ten_is_none : IsCareRow and_or (3 ∷ 4 ∷ []) 2 → ⊥
ten_is_none care =
    let same : care.leaves ≡ 1 ∷ 2 ∷ [] = leaves_one and_or (3 ∷ 4 ∷ []) care.leaves (1 ∷ 2 ∷ []) care.fanin_cone sources_are_leaves in
    shown care.given (subst (λ (ls : List ℕ). HasRow (values_with and_or (among ls) care.given) (3 ∷ 4 ∷ []) 2) same care.bits)
