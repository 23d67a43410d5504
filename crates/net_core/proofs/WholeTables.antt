-- Tables that are AND, OR or XOR of all their inputs.
use Rattle.std.proofs.Common.{◌≡◌, ℕ, ◌<◌, Bool, true, false, not, if◌then◌else◌, List, [], ◌∷◌, length, refl, ◌∙◌, ap, sym, arith}
use Rattle.std.proofs.lemmas.Grind.{common_steps}
use Rattle.net_theory.specs.declared.data.Sig.{Sig}
use Rattle.net_theory.specs.declared.data.Gate.{Gate}
use Rattle.net_theory.specs.Cover.{is_odd, cover_value}
use Rattle.net_theory.specs.Expansion.{unsigned, join_all, finished_by, wide_built, expanded}
use Rattle.net_theory.specs.ExpansionLaws.{length-unsigned}
use Rattle.net_theory.specs.Whole.{value_where}
use Rattle.net_theory.specs.WholeLaws.{and_value, or_value, xor_value, and_built, or_built_wide, xor_built}
use Rattle.net_core.specs.declared.joining.Connective.{Connective}
use Rattle.net_core.specs.declared.joining.Connective.TheVariants.{And, Or, Xor}
use Rattle.net_core.specs.declared.whole.Whole.{Whole}
use Rattle.net_core.specs.Growing.{word_of}
use Rattle.net_core.specs.Wholes.{joined_cover, whole_cover, joined_bits}
use Rattle.net_core.specs.BodyLaws.{whole_cost-wide}
use Rattle.net_core.proofs.Prefixes.{prefix_itself, prefix_push, prefix_more}

-- ---- parity

-- the parity of all bits, by the parity of the first ones
abbrev pub odd_from : Bool → List Bool → Bool
odd_from odd bits = if odd then not (is_odd bits) else is_odd bits

pub odd_step : (odd : Bool) (bits rest : List Bool) → bits ≡ true ∷ rest → odd_from (not odd) rest ≡ odd_from odd bits
odd_step true bits rest e = twice (is_odd rest) ∙ ap (odd_from true) (sym e) where
  twice : (x : Bool) → x ≡ not (not x)
  twice true = refl
  twice false = refl
odd_step false bits rest e = ap (odd_from false) (sym e)

pub odd_pass : (odd : Bool) (bits rest : List Bool) → bits ≡ false ∷ rest → odd_from odd rest ≡ odd_from odd bits
odd_pass odd bits rest e = ap (odd_from odd) (sym e)

pub odd_none : (odd : Bool) (bits : List Bool) → length bits ≡ 0 → odd_from odd bits ≡ odd
odd_none true [] e = refl
odd_none false [] e = refl
odd_none odd (b ∷ bits) e = absurd (omega arith)

pub ruleset parities = (common_steps, odd_step, odd_pass, odd_none)

-- ---- values

joined_value : (c : Connective) (on : Bool) (bits : List Bool) → 0 < length bits → value_where on (joined_bits c bits) ≡ cover_value (joined_cover c (length bits) on) bits
joined_value And on bits some = sym (and_value on bits)
joined_value Or on bits some = sym (or_value on bits some)
joined_value Xor on bits some = sym (xor_value (length bits) on bits)

pub whole_value-is : (w : Whole) (bits : List Bool) → 0 < w.width → w.width ≡ length bits → value_where w.on (joined_bits w.connective bits) ≡ cover_value (whole_cover w) bits
whole_value-is w bits some wide =
    joined_value w.connective w.on bits (omega arith) ∙ ap (λ (n : ℕ). cover_value (joined_cover w.connective n w.on) bits) (sym wide)

-- ---- gates

joined_built : (c : Connective) (sources : ℕ) (gates : List Gate) (on : Bool) (inputs : List Sig) → 0 < length inputs →
    wide_built sources gates (joined_cover c (length inputs) on) inputs ≡
    finished_by sources (length gates) on (join_all (word_of c) sources gates (unsigned inputs))
joined_built And sources gates on inputs some = and_built sources gates on inputs some
joined_built Or sources gates on inputs some = or_built_wide sources gates on inputs some
joined_built Xor sources gates on inputs some = xor_built sources gates on inputs

pub whole_built : (w : Whole) (sources : ℕ) (gates : List Gate) (inputs : List Sig) → w.width ≡ length inputs →
    2 < length inputs → expanded sources gates (whole_cover w) inputs ≡
    finished_by sources (length gates) w.on (join_all (word_of w.connective) sources gates (unsigned inputs))
whole_built w sources gates [] wide many = absurd (omega arith)
whole_built w sources gates (a ∷ []) wide many = absurd (omega arith)
whole_built w sources gates (a ∷ b ∷ []) wide many = absurd (omega arith)
whole_built w sources gates (a ∷ b ∷ d ∷ inputs) wide many =
    ap (λ (n : ℕ). wide_built sources gates (joined_cover w.connective n w.on) (a ∷ b ∷ d ∷ inputs)) wide
    ∙ joined_built w.connective sources gates w.on (a ∷ b ∷ d ∷ inputs) (omega arith)

pub ruleset wholes = (common_steps, prefix_itself, prefix_push, prefix_more, whole_value-is, whole_cost-wide, whole_built, length-unsigned)
