-- The pieces of a window's line, one after the other, and its certificate.
use Rattle.std.specs.Prelude.{◌≡◌, ◌++◌, decimal}
use Rattle.std.proofs.Common.{subst}
use Rattle.cert_theory.specs.Spelling.{cert_text}
use Rattle.improve_theory.specs.Undecided.{Undecided}
use Rattle.improve_windows.specs.Report.{name_at, partner_text, window_text}
use Rattle.improve_windows.specs.ReportLaws.{appended}
use Rattle.improve_windows.proofs.reporting.push_window.Goals as goal

pub returns : goal.returns
unfolding window_text
returns c =
    let start = c.args.report.now.items in
    let v = c.undecided.inside.candidate in
    let names = c.args.names.now in
    let sources = c.args.sources in
    subst (λ (u : Undecided). c.write_certificate.new.out.items ≡ start ++ window_text names sources u) c.undecided.view_is
    (appended start c.extend_from_slice-3.new.self.items c.write_certificate.new.out.items _ (cert_text c.undecided.inside.search)
    (appended start c.push_number.new.out.items c.extend_from_slice-3.new.self.items _ _
    (appended start c.extend_from_slice-2.new.self.items c.push_number.new.out.items _ (decimal v.count)
    (appended start c.push_partner.new.report.items c.extend_from_slice-2.new.self.items _ _
    (appended start c.push_name.new.report.items c.push_partner.new.report.items _ (partner_text names sources v.partner)
    (appended start c.extend_from_slice.new.self.items c.push_name.new.report.items _ (name_at names sources v.root) c.in_ok-extend_from_slice.ensures.items c.in_ok-push_name.ensures)
    c.in_ok-push_partner.ensures)
    c.in_ok-extend_from_slice-2.ensures.items)
    c.in_ok-push_number.ensures.ok)
    c.in_ok-extend_from_slice-3.ensures.items)
    c.in_ok-write_certificate.ensures.ok)
