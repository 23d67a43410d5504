use Rattle.std.proofs.Common.{[], ◌∷◌, ◌++◌, ap, sym, ◌∙◌, Some}
use Rattle.std.proofs.lemmas.Option.{slice_get-get_or}
use Rattle.indexmap.specs.IndexMap.{get}
use Rattle.net_theory.specs.Document.{is_same, LatchLine}
use Rattle.match_core.proofs.Places.{found_within, found_line, found_nowhere}
use Rattle.match_core.proofs.lines.push_line.Goals as goal

pub bounds-lines-place : goal.bounds-lines-place
bounds-lines-place c =
    found_within c.args.lines.now (get is_same c.args.places.now) c.args.name.now c.place_in.result c.in-Some.place
    c.requires c.place_in.ensures c.in-Some.is

pub returns-in_ok-push-in-Some : goal.returns-in_ok-push-in-Some
returns-in_ok-push-in-Some c =
    found_line c.args.lines.now (get is_same c.args.places.now) c.args.name.now c.place_in.result c.in-Some.place
    c.index-lines-place.result c.args.found.now.items c.push.new.self.items c.requires c.place_in.ensures c.in-Some.is
    (slice_get-get_or c.args.lines.now c.in-Some.place c.index-lines-place.result (found_within c.args.lines.now (get is_same c.args.places.now) c.args.name.now c.place_in.result c.in-Some.place
    c.requires c.place_in.ensures c.in-Some.is)
    ∙ ap (λ (l : LatchLine). Some l) (sym c.index-lines-place.is))
    (c.in_ok-push-in-Some.ensures.items
    ∙ ap (λ (l : LatchLine). c.args.found.now.items ++ l ∷ []) c.in_ok-copied_line-in-Some.ensures)

pub returns-in-None : goal.returns-in-None
returns-in-None c =
    found_nowhere c.args.lines.now (get is_same c.args.places.now) c.args.name.now c.place_in.result
    c.args.found.now.items c.requires c.place_in.ensures c.in-None.is
