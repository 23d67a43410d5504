use Rattle.std.proofs.Common.{◌≡◌, ◌<◌, List, Bool, true, length, slice_set, refl, sym, ap, arith}
use Rattle.cdcl_theory.specs.Codes.{code_of}
use Rattle.subsume_core.proofs.Flags.{flagged_set}
use Rattle.subsume_core.proofs.units.Units.flag.Goals as goal

pub returns : goal.returns
returns c =
    let flags : List Bool = c.args.self.now in
    let first = c.index-lits-0.result in
    let items : c.self.inside.flags.items ≡ flags = cc in
    let code : c.code-code.result ≡ code_of first = c.code-code.ensures.value in
    let low : code_of first < length flags = omega (arith, code, ap length items, c.if-code-len.false, c.len.ensures) in
    let now : slice_set c.self.inside.flags.items c.code-code.result true ≡ slice_set flags (code_of first) true = rw (items, code) refl in
    flagged_set c.args.lits.now flags (slice_set c.self.inside.flags.items c.code-code.result true) first (sym c.index-lits-0.is) low now
