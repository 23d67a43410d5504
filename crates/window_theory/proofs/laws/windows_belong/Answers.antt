use Rattle.window_theory.specs.WindowLaws.{window_low, convex_belongs, window_belongs, window_one}
use Rattle.window_theory.specs.EarlyLaws.{window_convex}
use Rattle.window_theory.specs.PartnerLaws.{partners_one}
use Rattle.window_theory.proofs.laws.windows_belong.Goals as goal

pub returns-clause-low : goal.returns-clause-low
returns-clause-low c = window_low

pub returns-clause-belong : goal.returns-clause-belong
returns-clause-belong c = window_belongs

pub returns-clause-exact : goal.returns-clause-exact
returns-clause-exact c = convex_belongs

pub returns-clause-convex : goal.returns-clause-convex
returns-clause-convex c = window_convex

pub returns-clause-one : goal.returns-clause-one
returns-clause-one c = window_one

pub returns-clause-partners : goal.returns-clause-partners
returns-clause-partners c = partners_one
