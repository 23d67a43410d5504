use Rattle.std.proofs.Common.{◌≡◌, ◌∙◌, ap}
use Rattle.std.proofs.lemmas.Result.{IfOk-weaker}
use Rattle.net_theory.specs.Implements.{IsCleanedUp}
use Rattle.net_theory.specs.Dangling.{cleanup}
use Rattle.window_theory.specs.Substituted.{after_substitution}
use Rattle.subst_core.specs.Lists.{window_of}
use Rattle.subst_core.specs.Substitution.{HasOldOperators}
use Rattle.subst_core.specs.SubstitutionLaws.{cleaned_up_on, cleanup_old}
use Rattle.subst_core.proofs.replacing.replace_keeping.Goals as goal

pub returns-clause-exact : goal.returns-clause-exact
returns-clause-exact c =
    let m = c.in_ok-substituted.substituted in
    let all = after_substitution c.args.net.now (window_of c.args.window.now) c.args.chain.now in
    IfOk-weaker c.remove_dangling.result (λ left. left ≡ cleanup m) (λ left. left ≡ cleanup all) (λ left e. e ∙ ap cleanup c.in_ok-substituted.ensures.exact) c.remove_dangling.ensures.exact

pub returns-clause-cleaned_up : goal.returns-clause-cleaned_up
returns-clause-cleaned_up c first before few =
    IfOk-weaker c.remove_dangling.result (IsCleanedUp c.in_ok-substituted.substituted) (IsCleanedUp first)
    (λ left after. cleaned_up_on first c.args.net.now c.in_ok-substituted.substituted left
    (window_of c.args.window.now) c.args.chain.now before c.in_ok-substituted.ensures.substituted few after)
    c.remove_dangling.ensures.cleaned_up

pub returns-clause-operators : goal.returns-clause-operators
returns-clause-operators c =
    let m = c.in_ok-substituted.substituted in
    IfOk-weaker c.remove_dangling.result (λ left. left ≡ cleanup m) (HasOldOperators c.args.net.now c.args.chain.now)
    (λ left e. cleanup_old c.args.net.now m left (window_of c.args.window.now) c.args.chain.now
    c.in_ok-substituted.ensures.substituted e) c.remove_dangling.ensures.exact
