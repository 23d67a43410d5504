-- The numbers as a verdict.
use Rattle.std.proofs.Common.{◌≡◌, codes, Option, Some, None, subst}
use Rattle.std.specs.Option.{option_map}
use Rattle.text_core.specs.Lines.{Line}
use Rattle.line_reader.specs.TextLines.{line_of}
use Rattle.cert_theory.specs.declared.data.Verdict.{Verdict}
use Rattle.cert_theory.specs.declared.data.Verdict.TheVariants.{Minimum, Bounded}
use Rattle.cert_theory.specs.Judging.{numbered_in}
use Rattle.cert_theory.specs.Judging.{found_in}
use Rattle.cert_file.specs.declared.lines.VerdictNumbers.{VerdictNumbers}
use Rattle.cert_file.specs.declared.lines.VerdictNumbers.TheVariants as numbers
use Rattle.cert_file.specs.NumberedLaws.{numbered_is}
use Rattle.cert_file.proofs.trailer.found_in.Goals as goal

as_verdict : VerdictNumbers → Verdict
as_verdict (numbers.One number) = Minimum number
as_verdict (numbers.Two low most) = Bounded low most

spelled : Line → Option VerdictNumbers
spelled l = numbered_in (λ number. numbers.One number) (λ low most. numbers.Two low most) (codes "minimum ") (codes "bounded ") l

in_line : (l : Line) (o : Option VerdictNumbers) → o ≡ spelled l → option_map as_verdict o ≡ found_in l
unfolding found_in spelled as_verdict
in_line l o is = numbered_is as_verdict (λ number. numbers.One number) (λ low most. numbers.Two low most) (codes "minimum ") (codes "bounded ") l o is

some_in_line : (l : Line) (n m : VerdictNumbers) → n ≡ m → Some n ≡ spelled l → Some (as_verdict m) ≡ found_in l
some_in_line l n m same is = in_line l (Some m) (subst (λ (x : VerdictNumbers). Some x ≡ spelled l) same is)

pub returns-in_default : goal.returns-in_default
unfolding spelled
returns-in_default c = in_line (line_of c.args.line.now) None c.in_default.ensures

pub returns-in-One : goal.returns-in-One
unfolding spelled as_verdict
returns-in-One c = some_in_line (line_of c.args.line.now) c.in-Some.numbers (numbers.One c.in-One.r) c.in-One.is c.in-Some.ensures

pub returns-in-Two : goal.returns-in-Two
unfolding spelled as_verdict
returns-in-Two c = some_in_line (line_of c.args.line.now) c.in-Some.numbers (numbers.Two c.in-Two.low c.in-Two.most) c.in-Two.is c.in-Some.ensures
