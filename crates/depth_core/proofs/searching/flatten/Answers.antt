-- A level has a chain, or its logs are appended.
use Rattle.std.proofs.Common.{◌≡◌, ℕ, ◌+◌, List, sym, ap, ◌∙◌, subst}
use Rattle.std.specs.List.{filter}
use Rattle.chain_theory.specs.Levels.{depth}
use Rattle.cert_theory.specs.Certificate.{SubproblemLog}
use Rattle.depth_theory.specs.Flatter.{flatter}
use Rattle.depth_core.specs.declared.levels.LevelOutcome.{LevelOutcome}
use Rattle.depth_core.specs.Flattened.{is_flatter, AreLogs, IsLevel, IsFlattest}
use Rattle.depth_core.proofs.LevelLogs.{flat_more, flat_found}
use Rattle.depth_core.proofs.searching.flatten.Goals as goal

pub returns-in-Found-clause-flattest : goal.returns-in-Found-clause-flattest
returns-in-Found-clause-flattest g c =
    let h = c.args.header.now in
    let k = c.loop-levels.levels in
    let chain = c.in-Found.chain in
    let logs = c.loop-levels.logs.items in
    let tried = subst (λ (level : LevelOutcome). IsLevel h c.args.size k level) c.in-Found.is c.in_ok-chain.ensures in
    let deep : c.in_ok-levels-in-Found.levels ≡ depth chain = c.in_ok-levels-in-Found.ensures in
    let kept : c.in_ok-kept-in-Found.kept.items ≡ filter (is_flatter (depth chain)) logs = c.in_ok-kept-in-Found.ensures ∙ ap (λ (d : ℕ). filter (is_flatter d) logs) deep in
    subst (λ (ps : List SubproblemLog). IsFlattest h c.args.size chain ps) (sym kept) (flat_found h c.args.size k logs chain c.loop-levels.invariant tried.0 tried.1)

pub loop-levels-preserved : goal.loop-levels-preserved
loop-levels-preserved g c =
    let h = c.args.header.now in
    let k = c.loop-levels.levels in
    let logged = subst (λ (level : LevelOutcome). IsLevel h c.args.size k level) c.in-Logged.is c.in_ok-chain.ensures in
    subst (λ (ps : List SubproblemLog). AreLogs h c.args.size (flatter h.spec c.args.size (k + 1)) ps)
    (sym c.in_ok-add_logs-in-Logged.ensures) (flat_more h c.args.size k c.loop-levels.logs.items
    c.in-Logged.more.items c.loop-levels.invariant logged)
