-- Trivial outputs, which cost nothing, and live outputs, which need a step.
use Rattle.std.specs.Prelude.{◌≡◌, ℕ, zero, suc, ◌+◌, ◌-◌, ◌^◌, ◌<◌, ◌≤◌, ⊤, Bool, true, false, ◌&&◌, List, [], ◌∷◌}
use Rattle.std.specs.Prelude.{◌++◌, Option, Some, None, map, slice_index, if◌then◌else◌}
use Rattle.chain_theory.specs.Specification.{Specification, input}
use Rattle.chain_theory.specs.Agreement.{is_met}
use Rattle.chain_theory.specs.declared.data.Out.{Out}
use Rattle.chain_theory.specs.declared.data.Out.TheVariants.{Zero, One, Place}
use Rattle.tt_core.specs.Words.{Words, specification}

-- the value of a trivial out on row t: a constant, or one of n inputs
abbrev pub trivial_value : ℕ → ℕ → Out → Bool
trivial_value n t Zero = false
trivial_value n t One = true
trivial_value n t (Place j) = input n t j

-- the out meets the first cells of output h, as many as the number says
unfoldable pub fits_rows : Specification → ℕ → Out → ℕ → Bool
fits_rows s h out zero = true
fits_rows s h out (suc t) = fits_rows s h out t && is_met (s.cell h t) (trivial_value s.inputs t out)

-- the out meets all cells of output h
abbrev pub fits : Specification → ℕ → Out → Bool
fits s h out = fits_rows s h out (2 ^ s.inputs)

-- the k inputs j, j + 1, .. as outs
unfoldable pub inputs_from : ℕ → ℕ → List Out
inputs_from j zero = []
inputs_from j (suc k) = Place j ∷ inputs_from (j + 1) k

-- the trivial outs, which cost nothing: 0, 1, x1, .., xn
abbrev pub trivial_outs : ℕ → List Out
trivial_outs n = Zero ∷ One ∷ inputs_from 1 n

-- the first out of a list that meets all cells of output h
unfoldable pub first_fit : Specification → ℕ → List Out → Option Out
first_fit s h [] = None
first_fit s h (out ∷ outs) = if fits s h out then Some out else first_fit s h outs

-- The first of 0, 1, x1, .., xn that meets all cells of output h.
-- Example: the table 0--1 of two inputs is met by x1, and 0110 by none.
abbrev pub trivial_of : Specification → ℕ → Option Out
trivial_of s h = first_fit s h (trivial_outs s.inputs)

-- the out is trivial with n inputs: 0, 1 or one of x1, .., xn
abbrev pub IsTrivial : ℕ → Out → Type 0
IsTrivial n Zero = ⊤
IsTrivial n One = ⊤
IsTrivial n (Place j) = (1 ≤ j) × (j ≤ n)

-- the order in which outs are tried: 0, 1, x1, x2, ..
abbrev pub trial_order : Out → ℕ
trial_order Zero = 0
trial_order One = 1
trial_order (Place j) = 1 + j

-- The out is trivial and meets all cells of output h, and no out that is tried before it does.
-- Example: for the table ---- it is 0, and not x1, which meets the table too.
pub record IsFirstFit (s : Specification) (h : ℕ) (out : Out) : Type 0 where
  pub trivial : IsTrivial s.inputs out
  pub fitting : fits s h out ≡ true
  pub earlier : (other : Out) → IsTrivial s.inputs other → trial_order other < trial_order out → fits s h other ≡ false

-- an output is live where no trivial out meets all its cells
abbrev pub is_none : Option Out → Bool
is_none None = true
is_none (Some out) = false

unfoldable pub is_live : Specification → ℕ → Bool
is_live s h = is_none (trivial_of s h)

-- the numbers of the live outputs among the first k, in increasing order
unfoldable pub live_among : Specification → ℕ → List ℕ
live_among s zero = []
live_among s (suc k) = if is_live s (suc k) then live_among s k ++ suc k ∷ [] else live_among s k

-- The numbers of the live outputs, in increasing order.
-- Example: of the tables 0110, 0011 and 0001 of two inputs, the outputs 1 and 3 are live.
abbrev pub live_outputs : Specification → List ℕ
live_outputs s = live_among s s.outputs

-- the words of the outputs with these numbers
unfoldable pub words_of : List ℕ → List ℕ → List ℕ
words_of words outputs = map (λ h. slice_index words (h - 1)) outputs

-- the tables of the live outputs, in their order
abbrev pub live_words : Words → Words
live_words w = record {
  n = w.n;
  on = words_of w.on (live_outputs (specification w));
  care = words_of w.care (live_outputs (specification w));
}
