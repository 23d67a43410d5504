-- After so many further steps at least so many components are left of the places that they read, and each has given a
-- missing output.
use Rattle.std.proofs.Common.{◌≡◌, ℕ, suc, ◌+◌, ◌-◌, ◌≤◌, ◌<◌, ◌⊎◌, true, false, Bool, not, List, [], ◌∷◌, ◌++◌, length, refl, sym, ap, ◌∙◌, subst, arith, inl, inr}
use Rattle.std.proofs.lemmas.Bool.{cases_eq, both_ways}
use Rattle.chain_theory.specs.Operator.{Basis}
use Rattle.chain_theory.specs.Chain.{Step}
use Rattle.tt_core.specs.Words.{Words}
use Rattle.bound_core.specs.Counts.{count_below}
use Rattle.step_core.specs.Steps.{meets_at, is_met, is_missing, word_in}
use Rattle.step_core.specs.Waits.{is_later}
use Rattle.step_core.specs.Reads.{IsFreshSolution, ReadExactly, NoneReading}
use Rattle.step_core.specs.Shares.{IsEssential, IsColouring, HasFewGroups}
use Rattle.step_core.specs.NormalSolutionLaws.{met_at}
use Rattle.step_core.specs.OutcomeLaws.{append_one, append_nil}
use Rattle.step_core.specs.WaitLaws.{met_place}
use Rattle.step_core.specs.DeterminedLaws.{SameBits, specified}
use Rattle.step_core.specs.ColourLaws.{HasColour, count_colours}
use Rattle.step_core.specs.ComponentLaws.{IsGivenIn, IsReadIn, IsOutIn, AreComponents, first_components, colours_after, outs_after, roots_after, roots_left, next_components}

-- So many components are left after the steps.
record HasComponents (w : Words) (base : List Step) (reads : ℕ → Bool) (steps : List Step) (count : ℕ) : Type 0 where
  colours : ℕ → ℕ
  outs : ℕ → ℕ
  roots : ℕ → Bool
  are : AreComponents w base reads steps [] colours outs roots
  many : count ≤ count_below roots (w.n + length base)

components_left : (w : Words) (basis : Basis) (base : List Step) (reads : ℕ → Bool) (rest prefix : List Step) (colours outs : ℕ → ℕ)
    (roots : ℕ → Bool) (count : ℕ) → IsFreshSolution w basis (prefix ++ rest) →
    AreComponents w base reads prefix rest colours outs roots → count ≤ count_below roots (w.n + length base) →
    HasComponents w base reads (prefix ++ rest) (count - length rest)
components_left w basis base reads [] prefix colours outs roots count target are many =
    subst (λ (steps : List Step). HasComponents w base reads steps (count - 0)) (sym (append_nil prefix)) (record {
      colours = colours;
      outs = outs;
      roots = roots;
      are = are;
      many = omega (arith, many);
    })
components_left w basis base reads (s ∷ rest) prefix colours outs roots count target are many =
    let longer : List Step = prefix ++ s ∷ [] in
    let whole : longer ++ rest ≡ prefix ++ s ∷ rest = append_one prefix s rest in
    let fewer : count - 1 - length rest ≡ count - suc (length rest) = omega arith in
    subst (λ (k : ℕ). HasComponents w base reads (prefix ++ s ∷ rest) k) fewer
    (subst (λ (steps : List Step). HasComponents w base reads steps (count - 1 - length rest)) whole
    (components_left w basis base reads rest longer (colours_after colours s.j s.k (w.n + length prefix))
    (outs_after w prefix colours s.j s.k outs) (roots_after colours (colours (s.j - 1)) (colours (s.k - 1)) roots) (count - 1)
    (subst (IsFreshSolution w basis) (sym whole) target)
    (next_components w basis base prefix rest s reads colours outs roots target are)
    (omega (arith, many, roots_left colours (colours (s.j - 1)) (colours (s.k - 1)) roots (w.n + length base) are.apart))))

met_by_all : (w : Words) (basis : Basis) (steps : List Step) (o : ℕ) → IsFreshSolution w basis steps → o < length w.on → is_met w steps o ≡ true
unfolding meets_at
met_by_all w basis steps o target low =
    let found = met_place w basis steps o target.normal.solution low in
    met_at w steps o found.0 found.1 (ap not found.2)

-- the components are a colouring: the value of an output depends on places of its colour alone
are_colouring : (w : Words) (basis : Basis) (base : List Step) (reads : ℕ → Bool) (steps : List Step) (colours outs : ℕ → ℕ)
    (roots : ℕ → Bool) → IsFreshSolution w basis steps → AreComponents w base reads steps [] colours outs roots →
    IsColouring w base reads colours outs
are_colouring w basis base reads steps colours outs roots target are = record {
  each = λ place o inside low read missed essential. elim (cases_eq (outs o) (colours place)) [
    | inl same ↦ same
    | inr apart ↦ absurd (fails place o low missed essential apart (are.givers o low missed (met_by_all w basis steps o target low)))
  ];
}
  where
    fails : (place o : ℕ) → o < length w.on → is_missing w base o ≡ true → IsEssential w base reads place o →
        (outs o ≡ colours place → ⊥) → IsGivenIn w base steps colours (outs o) o → ⊥
    fails place o low missed essential apart given =
        let word : ℕ = word_in w.n steps (w.n + 1 + given.index) in
        let at : w.n + given.index + 1 ≡ w.n + 1 + given.index = omega arith in
        let bits : SameBits essential.row essential.other (word_in w.n steps (w.n + given.index + 1)) =
        (are.depends (w.n + given.index) (omega (arith, given.to)) (λ below. absurd (omega (arith, below, given.from)))).each
        essential.row essential.other essential.below essential.other_below
        (λ x low_x read same. essential.alike x low_x read (λ e. apart (sym given.same ∙ sym same ∙ ap colours e))) in
        let a = specified w word o essential.row given.has essential.care in
        let b = specified w word o essential.other given.has essential.other_care in
        essential.differ (sym b ∙ subst (λ (p : ℕ). SameBits essential.row essential.other (word_in w.n steps p)) at bits ∙ a)

-- so each component has the colour of one of the starts
start_of : (w : Words) (basis : Basis) (base : List Step) (reads : ℕ → Bool) (bound : ℕ) (groups : HasFewGroups w base reads bound)
    (steps : List Step) (colours outs : ℕ → ℕ) (roots : ℕ → Bool) (i : ℕ) → IsFreshSolution w basis steps →
    AreComponents w base reads steps [] colours outs roots →
    IsReadIn (w.n + length steps) [] colours (colours i) ⊎ IsOutIn w base steps outs (colours i) →
    HasColour groups.starts outs (length w.on) (colours i)
unfolding is_later
start_of w basis base reads bound groups steps colours outs roots i target are (inl read) = absurd (both_ways false refl read.read)
start_of w basis base reads bound groups steps colours outs roots i target are (inr out) =
    let covered = groups.each out.output out.inside out.missed in
    (covered.start, covered.inside, covered.member, sym (covered.linked.same colours outs (are_colouring w basis base reads steps colours outs roots target are)) ∙ out.same)

-- the missing outputs fall into too few groups
pub too_few_groups : (w : Words) (basis : Basis) (prefix : List Step) (left bound : ℕ) (reads : ℕ → Bool) →
    HasFewGroups w prefix reads bound → left + bound ≤ count_below reads (w.n + length prefix) →
    NoneReading w basis prefix left reads
too_few_groups w basis prefix left bound reads groups many = record {
  none = λ rest count target read. fails rest count target read
      (components_left w basis prefix reads rest prefix (λ i. i) (λ o. o) reads (count_below reads (w.n + length prefix)) target
      (first_components w prefix rest reads read) (omega arith));
}
  where
    fails : (rest : List Step) → length rest ≡ left → IsFreshSolution w basis (prefix ++ rest) → ReadExactly rest (w.n + length prefix) reads →
        HasComponents w prefix reads (prefix ++ rest) (count_below reads (w.n + length prefix) - length rest) → ⊥
    fails rest count target read last = omega (
      arith,
      many,
      count,
      groups.few,
      last.many,
      count_colours last.colours last.outs last.roots groups.starts (w.n + length prefix) (length w.on)
          (λ i low root. start_of w basis prefix reads bound groups (prefix ++ rest) last.colours last.outs last.roots i target last.are (last.are.lives i low root))
          (λ i j low_i low_j root_i root_j e. last.are.apart i j low_i low_j root_i root_j e),
    )
