use Rattle.bench_core.specs.Bench.{bench_format}
use Rattle.bench_laws.specs.Spelled.{CanWriteBench}
use Rattle.blif_core.specs.Blif.{blif_format}
use Rattle.improve_wishes.specs.WishedLaws.{writable, better_as, text_by}
use Rattle.improve_wishes.proofs.writing.bench_of.Goals as goal

pub bench_text_of-requires-clause-fits : goal.bench_text_of-requires-clause-fits
bench_text_of-requires-clause-fits g c =
    (writable bench_format blif_format CanWriteBench c.args.settings c.args.asked c.args.base
    c.in_ok-improved.field-0.improved.circuit _ _ _ _ c.bench_is_a_format.ensures c.requires.basis c.requires.can
    c.in_ok-improved.ensures.better c.in_ok-improved.ensures.room).writable.fits

pub returns : goal.returns
returns g c =
    let k = c.in_ok-improved.field-0.improved.circuit in
    let can = writable bench_format blif_format CanWriteBench c.args.settings c.args.asked c.args.base k _ _ _ _
    c.bench_is_a_format.ensures c.requires.basis c.requires.can c.in_ok-improved.ensures.better
    c.in_ok-improved.ensures.room in
    text_by bench_format CanWriteBench c.args.settings c.args.asked c.args.base k _ _ _ _ _ _ _
    (better_as blif_format bench_format c.args.settings c.args.asked c.args.base k _ _ _ _
    (c.circuits_cost_the_same.ensures k can.writable) c.in_ok-improved.ensures.better) can
    c.in_ok-text.ensures c.in_ok-base_levels.ensures c.in_ok-report.ensures
