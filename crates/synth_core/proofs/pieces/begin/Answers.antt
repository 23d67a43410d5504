-- Before the first size the header was written.
use Rattle.std.proofs.Common.{◌≡◌, ◌<◌, length, ap, subst, rules}
use Rattle.std.proofs.lemmas.Grind.{common_steps}
use Rattle.settings.specs.declared.methods.Method.{Method}
use Rattle.cert_theory.specs.declared.data.Header.{Header}
use Rattle.cert_theory.specs.Certificate.{IsHeader}
use Rattle.cert_theory.specs.Spelling.{header_lines, text_of}
use Rattle.synth_core.specs.SettingsHeader.{header_of}
use Rattle.synth_core.proofs.InProgress.{begun}
use Rattle.synth_core.proofs.pieces.begin.Goals as goal

pub returns-clause-begun : goal.returns-clause-begun
returns-clause-begun c =
    let w = c.in_ok-spec.spec in
    let s = c.args.settings.now in
    let h : Header = record { spec = w; basis = s.basis; method = c.method_of-method.result; conflicts = s.conflicts; max = s.max } in
    let taken : h ≡ header_of w s =
    ap (λ (m : Method). record { spec = w; basis = s.basis; method = m; conflicts = s.conflicts; max = s.max }) c.method_of-method.ensures in
    let output : 0 < length w.on = search (rules, common_steps) in
    let text : c.write_header.new.out.items ≡ text_of (header_lines h) = search (rules, common_steps) in
    let is_header : IsHeader h = subst (λ (x : Header). IsHeader x) c.new-search.ensures.header c.new-search.ensures.whole.header in
    begun c.args.bytes.now s h c.new-search.result c.write_header.new.out.items
    c.new-search.ensures.header c.new-search.ensures.next c.new-search.ensures.low taken is_header output c.in_ok-spec.ensures.spelled text
