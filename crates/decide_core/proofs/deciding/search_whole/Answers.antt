-- A valid certificate without an open size: what it proves with a chain and without one.
use Rattle.std.proofs.Common.{◌≡◌, sym, ◌∙◌, ap, subst}
use Rattle.cert_theory.specs.Certificate.{Certificate, IsValid}
use Rattle.decide_core.specs.DecidedLaws.{whole_none, whole_found, whole_fewer}
use Rattle.decide_core.proofs.deciding.search_whole.Goals as goal

pub returns : goal.returns
returns g c =
    whole_none c.args.question.header.now
    (record { header = c.certificate.inside.header; sections = c.certificate.inside.sections.items; chain = c.certificate.inside.chain; verdict = c.certificate.inside.verdict })
    (ap (λ (b : Certificate). b.header) c.certificate.view_is ∙ c.in_ok-certificate.ensures.header)
    (subst IsValid (sym c.certificate.view_is) c.in_ok-certificate.ensures.valid)
    (c.is_open.ensures.not c.if-is_open.false)
    c.in-None.is

pub returns-in-Some : goal.returns-in-Some
returns-in-Some g c =
    let whole : Certificate = record {
      header = c.certificate.inside.header;
      sections = c.certificate.inside.sections.items;
      chain = c.certificate.inside.chain;
      verdict =
          c.certificate.inside.verdict;
    } in
    let same : whole.header ≡ c.args.question.header.now = ap (λ (b : Certificate). b.header) c.certificate.view_is ∙ c.in_ok-certificate.ensures.header in
    let valid : IsValid whole = subst IsValid (sym c.certificate.view_is) c.in_ok-certificate.ensures.valid in (
      whole_found c.args.question.header.now whole c.in-Some.chain same valid c.in-Some.is,
      whole_fewer c.args.question.header.now whole c.fewest_of-fewest.result same valid c.fewest_of-fewest.ensures,
    )
