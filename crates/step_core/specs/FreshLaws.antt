-- In a least chain each step is read, or is the first with the values of some output: a chain without it would do.
use Rattle.std.proofs.Common.{◌≡◌, ℕ, zero, suc, ◌+◌, ◌-◌, ◌≤◌, ◌<◌, ◌⊎◌, true, false, Bool, ◌&&◌, not, List, [], ◌∷◌, ◌++◌, length, refl, sym, ap, ◌∙◌, subst, arith, inl, inr}
use Rattle.std.specs.Prelude.{slice_get, slice_index_or, Some}
use Rattle.std.proofs.lemmas.Bool.{cases_Bool, cases_lt, cases_eq, both_ways}
use Rattle.std.proofs.lemmas.Option.{get_or_from_slice_get}
use Rattle.chain_theory.specs.Operator.{Basis}
use Rattle.chain_theory.specs.Chain.{Step, Chain, IsStepAt, AreSteps, IsChain}
use Rattle.chain_theory.specs.Agreement.{is_met as is_met_by, Agrees, NoneBelow}
use Rattle.chain_theory.specs.declared.data.Out.{Out}
use Rattle.chain_theory.specs.declared.data.Out.TheVariants as kinds
use Rattle.chain_laws.specs.NormalForm.{Reads}
use Rattle.chain_laws.specs.Follow.{rebuilt, rebuilt_length, rebuilt_get, step_at, step_at_get}
use Rattle.chain_laws.specs.Bodies.{Body, Fits, fits_from, out_value_is}
use Rattle.chain_laws.specs.Shorter.{HasFewer, unused}
use Rattle.chain_laws.specs.Least.{levels_at_most_steps}
use Rattle.tt_core.specs.Words.{Words, IsSpec, specification, cell_of}
use Rattle.step_core.specs.Steps.{misses, meets_at, is_met, is_missing, word_in}
use Rattle.step_core.specs.Pruning.{meets, gives, gives_some}
use Rattle.step_core.specs.Outs.{IsOutFor, AreOuts}
use Rattle.step_core.specs.Waits.{is_later}
use Rattle.step_core.specs.Enumeration.{IsNormalSolution, chain_on}
use Rattle.step_core.specs.Reads.{IsFreshSolution}
use Rattle.step_core.specs.LoopLaws.{none_passes}
use Rattle.step_core.specs.StackLaws.{word_prefix}
use Rattle.step_core.specs.PruningLaws.{not_true, not_false, met_some}
use Rattle.step_core.specs.OutLaws.{step_out}
use Rattle.step_core.specs.OutcomeLaws.{get_middle, middle_low}
use Rattle.step_core.specs.LeastChainLaws.{made_outs}
use Rattle.step_core.specs.WaitLaws.{later_has, either_get, met_place}

-- ---- outs other than a given step

-- the place of a step that has the values of output i + 1, and isn't the step of index k
pub record IsOtherStep (w : Words) (steps : List Step) (k i : ℕ) : Type 0 where
  pub index : ℕ
  pub inside : index < length steps
  pub other : index ≡ k → ⊥
  pub has : misses w (word_in w.n steps (w.n + 1 + index)) i ≡ false

-- an out with the values of output i + 1 that isn't the step of index k
pub record IsOtherOut (w : Words) (steps : List Step) (k i : ℕ) (out : Out) : Type 0 where
  pub is : IsOutFor w steps (i + 1) out
  pub other : out ≡ kinds.Place (w.n + 1 + k) → ⊥

place_of : (a b : ℕ) → kinds.Place a ≡ kinds.Place b → a ≡ b
place_of a b e = cc

chosen : (w : Words) (steps : List Step) (k i : ℕ) → IsSpec w → AreSteps w.n steps →
    ((j : ℕ) → j < length w.on → IsOtherStep w steps k j) → (i < length w.on) ⊎ (length w.on ≤ i) →
    (out : Out) × (i < length w.on → IsOtherOut w steps k i out)
chosen w steps k i spec are each (inr past) = (kinds.Zero, λ low. absurd (omega (arith, past, low)))
chosen w steps k i spec are each (inl low) =
    let found = each i low in
    let own : i + 1 - 1 ≡ i = omega arith in (
      kinds.Place (w.n + 1 + found.index),
      λ inside. record {
        is = step_out w steps (i + 1) (w.n + 1 + found.index) spec are (omega arith) (record {
          from = omega arith;
          to = omega (arith, found.inside);
          has = ap (misses w (word_in w.n steps (w.n + 1 + found.index))) own ∙ found.has;
        });
        other = λ e. found.other (omega (arith, place_of (w.n + 1 + found.index) (w.n + 1 + k) e));
      },
    )

-- the outs of all outputs
pub record AreOtherOuts (w : Words) (steps : List Step) (k : ℕ) (outs : List Out) : Type 0 where
  pub count : length outs ≡ length w.on
  pub each : (i : ℕ) → i < length w.on → IsOtherOut w steps k i (slice_index_or outs i kinds.Zero)

other_outs : (w : Words) (steps : List Step) (k : ℕ) → IsSpec w → AreSteps w.n steps →
    ((j : ℕ) → j < length w.on → IsOtherStep w steps k j) → (outs : List Out) × AreOtherOuts w steps k outs
other_outs w steps k spec are each =
    let f : ℕ → Out = λ i. (chosen w steps k i spec are each (cases_lt i (length w.on))).0 in
    let m : ℕ = length w.on in (
      rebuilt f m,
      record {
        count = rebuilt_length f m;
        each = λ i low. subst (IsOtherOut w steps k i)
            (sym (get_or_from_slice_get (rebuilt f m) i (f i) kinds.Zero (rebuilt_get f m i low)))
            ((chosen w steps k i spec are each (cases_lt i (length w.on))).1 low);
      },
    )

-- ---- a chain without the step

outs_are : (w : Words) (steps : List Step) (k : ℕ) (outs : List Out) → AreOtherOuts w steps k outs → AreOuts w steps outs
outs_are w steps k outs are = record {
  each = λ h from to.
      let own : h - 1 + 1 ≡ h = omega (arith, from) in
      subst (λ (x : ℕ). IsOutFor w steps x (slice_index_or outs (h - 1) kinds.Zero)) own (are.each (h - 1) (omega (arith, from, to, are.count))).is;
}

pub agrees_by : (w : Words) (steps : List Step) (outs : List Out) → length outs ≡ length w.on → AreOuts w steps outs → Agrees (chain_on w steps outs) (specification w)
agrees_by w steps outs count are = record {
  inputs = refl;
  outputs = count;
  cells = λ h t from to low.
      ap (is_met_by (cell_of w h t)) (out_value_is (chain_on w steps outs) t (slice_index_or outs (h - 1) kinds.Zero))
      ∙ (are.each h from (omega (arith, to, count))).met t low;
}

left_out : (w : Words) (basis : Basis) (steps : List Step) (k : ℕ) (outs : List Out) → IsNormalSolution w basis steps →
    k < length steps → AreOtherOuts w steps k outs →
    ((q : ℕ) → q < length steps → Reads (step_at steps q) (w.n + 1 + k) → ⊥) →
    HasFewer (specification w) basis (length steps)
left_out w basis steps k outs target low are unread =
    let c : Chain = chain_on w steps outs in
    let each : AreOuts w steps outs = outs_are w steps k outs are in
    let chain : IsChain c = record { steps = target.solution.are; outs = made_outs w steps outs each } in
    let body : Body = record { step = step_at steps; outs = outs } in
    let fits : Fits (specification w) basis (length steps) (length steps) body = fits_from (specification w) basis (length steps) (length steps) c chain refl target.solution.over
    (agrees_by w steps outs are.count each) (levels_at_most_steps c chain) in
    unused (specification w) basis (length steps) (length steps) body fits k low unread
    (λ h from to named. (are.each (h - 1) (omega (arith, from, to))).other named)

-- ---- each step is fresh

below_all : (w : Words) (prefix rest : List Step) (s a : Step) (q : ℕ) → AreSteps w.n (prefix ++ s ∷ rest) →
    is_later rest (w.n + length prefix) ≡ false → slice_get (prefix ++ s ∷ rest) q ≡ Some a →
    Reads a (w.n + 1 + length prefix) → ⊥
below_all w prefix rest s a q are unread at reads = elim (either_get prefix (s ∷ rest) q a at) [
  | inl here ↦ apart a (w.n + 1 + q) (omega (arith, here.0)) (are.each q a at) reads
  | inr later ↦ after later.0 later.1
]
  where
    apart : (x : Step) (p : ℕ) → p ≤ w.n + 1 + length prefix → IsStepAt p x → Reads x (w.n + 1 + length prefix) → ⊥
    apart x p low is (inl e) = omega (arith, is.j_below, low, e)
    apart x p low is (inr e) = omega (arith, is.k_below, low, e)

    after : (k : ℕ) → slice_get (s ∷ rest) k ≡ Some a → ⊥
    after zero here =
        let same : s ≡ a = cc in
        apart a (w.n + 1 + length prefix) (omega arith) (subst (IsStepAt (w.n + 1 + length prefix)) same (are.each (length prefix) s (get_middle prefix s rest))) reads
    after (suc k) here = both_ways (is_later rest (w.n + length prefix)) unread
        (later_has rest (w.n + length prefix) (w.n + 1 + length prefix) k a (omega arith) here reads)

other_step : (w : Words) (basis : Basis) (prefix rest : List Step) (s : Step) (i : ℕ) →
    IsNormalSolution w basis (prefix ++ s ∷ rest) →
    gives_some w prefix (word_in w.n (prefix ++ s ∷ rest) (w.n + 1 + length prefix)) ≡ false → i < length w.on →
    IsOtherStep w (prefix ++ s ∷ rest) (length prefix) i
unfolding gives_some gives meets is_missing meets_at
other_step w basis prefix rest s i target none low =
    let steps : List Step = prefix ++ s ∷ rest in
    let word : ℕ = word_in w.n steps (w.n + 1 + length prefix) in
    let found = met_place w basis steps i target.solution low in
    elim (cases_eq found.0 (length prefix)) [
      | inr other ↦ record { index = found.0; inside = found.1; other = other; has = found.2 }
      | inl same ↦
          let has : misses w word i ≡ false = ap (λ (x : ℕ). misses w (word_in w.n steps (w.n + 1 + x)) i) (sym same) ∙ found.2 in
          let fails : (not (misses w word i) && not (is_met w prefix i)) ≡ false = none_passes (gives w prefix word) (length w.on) i none low in
          let met : is_met w prefix i ≡ true = not_false (is_met w prefix i) (sym (ap (λ (x : Bool). not x && not (is_met w prefix i)) has) ∙ fails) in
          let before = met_some w prefix i met in
          record {
            index = before.0;
            inside = omega (arith, before.1, longer prefix rest s);
            other = λ e. omega (arith, e, before.1);
            has = ap (λ (x : ℕ). misses w x i) (word_prefix w.n prefix (s ∷ rest) (w.n + 1 + before.0) (omega (arith, before.1))) ∙ not_true (misses w (word_in w.n prefix (w.n + 1 + before.0)) i) before.2;
          }
    ]
  where
    longer : (prefix rest : List Step) (s : Step) → length prefix < length (prefix ++ s ∷ rest)
    longer [] rest s = omega arith
    longer (x ∷ prefix) rest s = omega (arith, longer prefix rest s)

none_unused : (w : Words) (basis : Basis) (prefix rest : List Step) (s : Step) → IsSpec w →
    NoneBelow (specification w) basis (length (prefix ++ s ∷ rest)) → IsNormalSolution w basis (prefix ++ s ∷ rest) →
    is_later rest (w.n + length prefix) ≡ false →
    gives_some w prefix (word_in w.n (prefix ++ s ∷ rest) (w.n + 1 + length prefix)) ≡ false → ⊥
none_unused w basis prefix rest s spec least target unread none =
    let steps : List Step = prefix ++ s ∷ rest in
    let outs = other_outs w steps (length prefix) spec target.solution.are (λ i low. other_step w basis prefix rest s i target none low) in
    let fewer : HasFewer (specification w) basis (length steps) = left_out w basis steps (length prefix) outs.0 target (middle_low prefix s rest) outs.1
    (λ q low reads. below_all w prefix rest s (step_at steps q) q target.solution.are unread (step_at_get steps q low) reads) in
    least fewer.count fewer.fewer fewer.chain

-- a chain in normal form is fresh, if no chain of fewer steps implements the specification
pub fresh_of : (w : Words) (basis : Basis) (steps : List Step) → IsSpec w →
    NoneBelow (specification w) basis (length steps) → IsNormalSolution w basis steps → IsFreshSolution w basis steps
fresh_of w basis steps spec least target = record {
  normal = target;
  each = λ prefix rest s e. one prefix rest s e;
}
  where
    at : (prefix rest : List Step) (s : Step) → NoneBelow (specification w) basis (length (prefix ++ s ∷ rest)) →
        IsNormalSolution w basis (prefix ++ s ∷ rest) → (is_later rest (w.n + length prefix) ≡ true) ⊎
        (gives_some w prefix (word_in w.n (prefix ++ s ∷ rest) (w.n + 1 + length prefix)) ≡ true)
    at prefix rest s below is = elim (cases_Bool (is_later rest (w.n + length prefix))) [
      | inl later ↦ inl later
      | inr unread ↦ elim (cases_Bool (gives_some w prefix (word_in w.n (prefix ++ s ∷ rest) (w.n + 1 + length prefix)))) [
        | inl gives_it ↦ inr gives_it
        | inr none ↦ absurd (none_unused w basis prefix rest s spec below is unread none)
      ]
    ]

    one : (prefix rest : List Step) (s : Step) → steps ≡ prefix ++ s ∷ rest →
        (is_later rest (w.n + length prefix) ≡ true) ⊎
        (gives_some w prefix (word_in w.n steps (w.n + 1 + length prefix)) ≡ true)
    one prefix rest s e = subst (λ (x : List Step). (is_later rest (w.n + length prefix) ≡ true) ⊎ (gives_some w prefix (word_in w.n x (w.n + 1 + length prefix)) ≡ true)) (sym e)
        (at prefix rest s (subst (λ (x : List Step). NoneBelow (specification w) basis (length x)) e least) (subst (IsNormalSolution w basis) e target))
