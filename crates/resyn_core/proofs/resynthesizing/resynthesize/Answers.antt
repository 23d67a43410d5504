-- A round that changed nothing settles; one that did counts.
use Rattle.std.specs.Prelude.{◌≡◌, true, false}
use Rattle.std.proofs.Common.{refl, sym, subst, ap, ◌≤◌, ◌∙◌}
use Rattle.settings.specs.declared.improve.ImproveSettings.{ImproveSettings}
use Rattle.resyn_core.specs.ResynthesizedLaws.{rounds_start, rounds_merged, rounds_lead, resynthesis_more, resynthesis_settles, resynthesis_names, resynthesis_rises}
use Rattle.resyn_core.proofs.resynthesizing.resynthesize.Goals as goal

pub returns-then-not-changed-clause-settled : goal.returns-then-not-changed-clause-settled
returns-then-not-changed-clause-settled g c = λ e.
    let off : c.round.inside.changed ≡ false = c.if-not-changed.true in
    resynthesis_settles c.loop-round._round (g.T.Attempts.settings_of c.args.attempts.now) (g.T.Attempts.settings_of c.strash.new.self) (g.T.Attempts.settings_of c.make_round.new.attempts)
    (g.T.Attempts.net_of c.args.attempts.now) (g.T.Attempts.net_of c.strash.new.self) (g.T.Attempts.net_of c.make_round.new.attempts)
    (record { changed = false; named = c.new.result.items }) c.make_round.new.round c.round.inside.changed
    c.round.inside.named.items (rounds_merged c.loop-round._round (g.T.Attempts.settings_of c.args.attempts.now) (g.T.Attempts.settings_of c.loop-round.attempts) (g.T.Attempts.settings_of c.strash.new.self)
    (g.T.Attempts.net_of c.args.attempts.now) (g.T.Attempts.net_of c.loop-round.attempts) (g.T.Attempts.net_of c.strash.new.self)
    c.loop-round.invariant.0 c.in_ok-strash.ensures.asked c.in_ok-strash.ensures.merged) c.in_ok-make_round.ensures c.round.view_is off

pub returns-then-not-changed-clause-undecided : goal.returns-then-not-changed-clause-undecided
returns-then-not-changed-clause-undecided g c =
    let off : c.round.inside.changed ≡ false = c.if-not-changed.true in
    resynthesis_names c.loop-round._round (g.T.Attempts.settings_of c.args.attempts.now) (g.T.Attempts.settings_of c.strash.new.self) (g.T.Attempts.settings_of c.make_round.new.attempts)
    (g.T.Attempts.net_of c.args.attempts.now) (g.T.Attempts.net_of c.strash.new.self) (g.T.Attempts.net_of c.make_round.new.attempts)
    (record { changed = false; named = c.new.result.items }) c.make_round.new.round c.round.inside.changed
    c.round.inside.named.items (rounds_merged c.loop-round._round (g.T.Attempts.settings_of c.args.attempts.now) (g.T.Attempts.settings_of c.loop-round.attempts) (g.T.Attempts.settings_of c.strash.new.self)
    (g.T.Attempts.net_of c.args.attempts.now) (g.T.Attempts.net_of c.loop-round.attempts) (g.T.Attempts.net_of c.strash.new.self)
    c.loop-round.invariant.0 c.in_ok-strash.ensures.asked c.in_ok-strash.ensures.merged) c.new.ensures.items c.in_ok-make_round.ensures
    c.round.view_is off

pub returns-then-not-changed-clause-rising : goal.returns-then-not-changed-clause-rising
returns-then-not-changed-clause-rising g c =
    let off : c.round.inside.changed ≡ false = c.if-not-changed.true in
    resynthesis_rises (g.T.Attempts.settings_of c.strash.new.self) (g.T.Attempts.settings_of c.make_round.new.attempts)
    (g.T.Attempts.net_of c.strash.new.self) (g.T.Attempts.net_of c.make_round.new.attempts)
    (record { changed = false; named = c.new.result.items }) c.make_round.new.round c.round.inside.changed c.round.inside.named.items c.new.ensures.items c.in_ok-make_round.ensures c.round.view_is off

pub loop-round-preserved : goal.loop-round-preserved
loop-round-preserved g c =
    let on : c.round.inside.changed ≡ true = c.if-not-changed.false in (
      resynthesis_more _ c.loop-round._round (g.T.Attempts.settings_of c.args.attempts.now) (g.T.Attempts.settings_of c.strash.new.self) (g.T.Attempts.settings_of c.make_round.new.attempts)
          (g.T.Attempts.net_of c.args.attempts.now) (g.T.Attempts.net_of c.strash.new.self) (g.T.Attempts.net_of c.make_round.new.attempts)
          (record { changed = false; named = c.new.result.items }) c.make_round.new.round c.round.inside.changed
          c.round.inside.named.items (rounds_merged c.loop-round._round (g.T.Attempts.settings_of c.args.attempts.now) (g.T.Attempts.settings_of c.loop-round.attempts) (g.T.Attempts.settings_of c.strash.new.self)
          (g.T.Attempts.net_of c.args.attempts.now) (g.T.Attempts.net_of c.loop-round.attempts) (g.T.Attempts.net_of c.strash.new.self)
          c.loop-round.invariant.0 c.in_ok-strash.ensures.asked c.in_ok-strash.ensures.merged) refl c.in_ok-make_round.ensures c.round.view_is on,
      ap (λ (s : ImproveSettings). s.rounds) c.settings-rounds.ensures.value,
    )

pub make_round-requires : goal.make_round-requires
make_round-requires g c = record {
  cap = subst (λ (s : ImproveSettings). 1 ≤ s.cap) (sym (c.in_ok-strash.ensures.asked ∙ c.loop-round.invariant.0.asked)) c.requires.cap;
}

pub loop-round-init : goal.loop-round-init
loop-round-init g c = (
  rounds_start (g.T.Attempts.settings_of c.args.attempts.now) (g.T.Attempts.net_of c.args.attempts.now),
  ap (λ (s : ImproveSettings). s.rounds) c.settings-rounds.ensures.value,
)

pub returns-then-not-changed-clause-replaces : goal.returns-then-not-changed-clause-replaces
returns-then-not-changed-clause-replaces g c =
    rounds_lead _ c.loop-round._round (g.T.Attempts.settings_of c.args.attempts.now) (g.T.Attempts.settings_of c.strash.new.self) (g.T.Attempts.settings_of c.make_round.new.attempts)
    (g.T.Attempts.net_of c.args.attempts.now) (g.T.Attempts.net_of c.strash.new.self) (g.T.Attempts.net_of c.make_round.new.attempts)
    (record { changed = false; named = c.new.result.items }) c.make_round.new.round
    (rounds_merged c.loop-round._round (g.T.Attempts.settings_of c.args.attempts.now) (g.T.Attempts.settings_of c.loop-round.attempts) (g.T.Attempts.settings_of c.strash.new.self)
    (g.T.Attempts.net_of c.args.attempts.now) (g.T.Attempts.net_of c.loop-round.attempts) (g.T.Attempts.net_of c.strash.new.self)
    c.loop-round.invariant.0 c.in_ok-strash.ensures.asked c.in_ok-strash.ensures.merged) c.in_ok-make_round.ensures
