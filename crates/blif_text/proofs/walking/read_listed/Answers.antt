use Rattle.std.proofs.Common.{◌+◌, ◌*◌, ◌≤◌, length, sym, subst}
use Rattle.net_theory.specs.Cost.{cost}
use Rattle.net_theory.specs.NetOf.{source_count}
use Rattle.net_document.specs.Listed.{Listed, IsWellListed, AreControlsFree}
use Rattle.blif_text.specs.ListingLaws.{text_listed, text_free, text_few, text_small}
use Rattle.blif_text.proofs.walking.read_listed.Goals as goal

pub returns-clause-listed : goal.returns-clause-listed
returns-clause-listed c = subst IsWellListed (sym c.listed_by.ensures) (text_listed c.args.bytes.now _ c.in_ok-reading.ensures)

pub returns-clause-free : goal.returns-clause-free
returns-clause-free c = subst (λ (l : Listed). AreControlsFree l.document) (sym c.listed_by.ensures) (text_free c.args.bytes.now _ c.in_ok-reading.ensures c.in_ok-check_controls.ensures.good)

pub returns-clause-few : goal.returns-clause-few
returns-clause-few c = subst (λ (l : Listed). length l.document.tables ≤ length c.args.bytes.now) (sym c.listed_by.ensures) (text_few c.args.bytes.now _ c.in_ok-reading.ensures)

pub returns-clause-small : goal.returns-clause-small
returns-clause-small c = subst (λ (l : Listed). 2 * source_count l.document + cost l.document ≤ length
    c.args.bytes.now) (sym c.listed_by.ensures) (text_small c.args.bytes.now _ c.in_ok-reading.ensures)
