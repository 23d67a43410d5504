use Rattle.std.proofs.Common.{◌≡◌, ◌∙◌, sym, subst}
use Rattle.net_theory.specs.Net.{IsNet}
use Rattle.net_theory.specs.Implements.{IsCleanedUp}
use Rattle.net_theory.specs.Dangling.{cleanup}
use Rattle.net_theory.specs.DanglingLaws.{cleanup_is}
use Rattle.net_core.proofs.DanglingGates.{left_is}
use Rattle.net_core.proofs.dangling.remove_dangling.Goals as goal

pub new-requires : goal.new-requires
new-requires c =
    let kept = rw c.deref.ensures.value at c.in_ok-nodes.ensures.kept in
    let sinks = rw (c.deref-2.ensures.value, c.sinks.ensures.sinks) at c.in_ok-sinks.ensures in
    subst IsNet (sym (left_is c.args.net.now _ _ _ _ _ c.in_ok-marks.ensures.marks kept c.sources.ensures.sources sinks)) (cleanup_is c.args.net.now c.sources.ensures.net).implements.net

pub returns-clause-exact : goal.returns-clause-exact
returns-clause-exact c =
    let kept = rw c.deref.ensures.value at c.in_ok-nodes.ensures.kept in
    let sinks = rw (c.deref-2.ensures.value, c.sinks.ensures.sinks) at c.in_ok-sinks.ensures in
    c.new.ensures ∙ left_is c.args.net.now _ _ _ _ _ c.in_ok-marks.ensures.marks kept c.sources.ensures.sources sinks

pub returns-clause-cleaned_up : goal.returns-clause-cleaned_up
returns-clause-cleaned_up c =
    let kept = rw c.deref.ensures.value at c.in_ok-nodes.ensures.kept in
    let sinks = rw (c.deref-2.ensures.value, c.sinks.ensures.sinks) at c.in_ok-sinks.ensures in
    let exact : c.new.result ≡ cleanup c.args.net.now = c.new.ensures ∙ left_is c.args.net.now _ _ _ _ _ c.in_ok-marks.ensures.marks kept c.sources.ensures.sources sinks in
    subst (IsCleanedUp c.args.net.now) (sym exact) (cleanup_is c.args.net.now c.sources.ensures.net)
