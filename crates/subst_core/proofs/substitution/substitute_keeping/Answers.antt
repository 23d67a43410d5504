use Rattle.std.proofs.lemmas.Result.{IfOk-weaker}
use Rattle.net_theory.specs.Implements.{Implements}
use Rattle.window_theory.specs.Substituted.{IsSubstitution}
use Rattle.subst_core.specs.Lists.{window_of}
use Rattle.subst_core.specs.Substitution.{IsSubstituted}
use Rattle.subst_core.specs.SubstitutionLaws.{kept_substituted, substituted_stands}
use Rattle.subst_core.proofs.substitution.substitute_keeping.Goals as goal

pub returns-clause-substituted : goal.returns-clause-substituted
returns-clause-substituted c =
    let n = c.args.net.now in
    let w = window_of c.args.window.now in
    let chain = c.args.chain.now in
    IfOk-weaker c.rebuild_substituted.result (IsSubstitution n w chain) (IsSubstituted n w chain) (λ m is.
    kept_substituted n m w chain c.requires.keeps is) c.rebuild_substituted.ensures.after_substitution

pub returns-clause-implements : goal.returns-clause-implements
returns-clause-implements c few =
    let n = c.args.net.now in
    let w = window_of c.args.window.now in
    let chain = c.args.chain.now in
    IfOk-weaker c.rebuild_substituted.result (IsSubstitution n w chain) (Implements n) (λ m is.
    substituted_stands n m w chain (kept_substituted n m w chain c.requires.keeps is) few)
    c.rebuild_substituted.ensures.after_substitution
