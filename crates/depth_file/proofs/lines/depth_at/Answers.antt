use Rattle.std.proofs.Common.{◌≡◌, ℕ, Some, None, Ok, Err, refl, sym}
use Rattle.std.specs.Prelude.{codes}
use Rattle.std.proofs.lemmas.Bool.{eq-eqb, ne_eqb}
use Rattle.text_core.specs.Lines.{Line}
use Rattle.cert_theory.specs.Judging.{number_after}
use Rattle.depth_theory.specs.declared.data.DepthError.TheVariants.{Syntax, WrongDepth}
use Rattle.depth_theory.specs.DepthJudging.{depth_at}
use Rattle.depth_file.proofs.lines.depth_at.Goals as goal

-- A line without a number,
none_stated : (number depth : ℕ) (l : Line) → None ≡ number_after (codes "depth ") l → depth_at number depth l ≡ Err (Syntax number)
unfolding depth_at
none_stated number depth l none = rw (sym none) refl

-- with another one,
other_stated : (number depth stated : ℕ) (l : Line) → Some stated ≡ number_after (codes "depth ") l → (stated ≡ depth → ⊥) → depth_at number depth l ≡ Err (WrongDepth number)
unfolding depth_at
other_stated number depth stated l some other = rw (sym some, ne_eqb stated depth other) refl

-- and with this one.
same_stated : (number depth stated : ℕ) (l : Line) → Some stated ≡ number_after (codes "depth ") l → stated ≡ depth → depth_at number depth l ≡ Ok tt
unfolding depth_at
same_stated number depth stated l some same = rw (sym some, eq-eqb stated depth same) refl

pub returns-in_default : goal.returns-in_default
returns-in_default c = none_stated _ _ _ c.in_default.ensures

pub returns-then-stated-depth : goal.returns-then-stated-depth
returns-then-stated-depth c = other_stated _ _ _ _ c.in-Some.ensures c.if-stated-depth.true

pub returns : goal.returns
returns c = same_stated _ _ _ _ c.in-Some.ensures c.if-stated-depth.false
