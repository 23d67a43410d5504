use Rattle.std.proofs.Common.{◌≡◌, ◌∙◌, sym, subst}
use Rattle.net_theory.specs.Net.{IsNet}
use Rattle.window_theory.specs.Substituted.{after_substitution, IsSubstitution}
use Rattle.window_theory.specs.ReplacementLaws.{substituted_is}
use Rattle.subst_core.specs.Lists.{window_of}
use Rattle.subst_core.proofs.Rebuilds.{made_is}
use Rattle.subst_core.proofs.rebuilding.rebuild_in.Goals as goal

pub new-requires : goal.new-requires
new-requires c =
    let n = c.args.net.now in
    let w = window_of c.args.window.now in
    let sinks = rw c.sinks.ensures.sinks at c.in_ok-sinks.ensures in
    subst IsNet (sym (made_is n w c.args.chain.now _ _ _ _ c.in_ok-gates.ensures c.sources.ensures.sources sinks))
    (substituted_is n w c.args.chain.now c.sinks.ensures.net c.requires.belongs c.requires.fits c.requires.room).net

pub returns-clause-exact : goal.returns-clause-exact
returns-clause-exact c =
    let n = c.args.net.now in
    let w = window_of c.args.window.now in
    let sinks = rw c.sinks.ensures.sinks at c.in_ok-sinks.ensures in
    c.new.ensures ∙ made_is n w c.args.chain.now _ _ _ _ c.in_ok-gates.ensures c.sources.ensures.sources sinks

pub returns-clause-after_substitution : goal.returns-clause-after_substitution
returns-clause-after_substitution c =
    let n = c.args.net.now in
    let w = window_of c.args.window.now in
    let sinks = rw c.sinks.ensures.sinks at c.in_ok-sinks.ensures in
    let exact : c.new.result ≡ after_substitution n w c.args.chain.now = c.new.ensures ∙ made_is n w c.args.chain.now _ _ _ _ c.in_ok-gates.ensures c.sources.ensures.sources sinks in
    subst (IsSubstitution n w c.args.chain.now) (sym exact) (substituted_is n w c.args.chain.now c.sinks.ensures.net c.requires.belongs c.requires.fits c.requires.room)
