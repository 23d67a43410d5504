use Rattle.std.proofs.Common.{◌+◌, length, subst, sym, arith}
use Rattle.xag_core.specs.Xag.{GrownXag, IsLiteralBelow}
use Rattle.xag_core.proofs.Growing.{grown_push}
use Rattle.xag_core.proofs.builder.Builder.append.Goals as goal

pub invariant_of-self-2 : goal.invariant_of-self-2
invariant_of-self-2 c =
    grown_push c.self.inside.sources c.self.inside.gates.items c.push.new.self.items _ c.self.invariant
    (record {
      first = subst (λ (v : GrownXag). IsLiteralBelow (v.sources + 1 + length v.gates) c.within-first.result) (sym c.self.view_is) c.within-first.ensures;
      second = subst (λ (v : GrownXag). IsLiteralBelow (v.sources + 1 + length v.gates) c.within-second.result) (sym c.self.view_is) c.within-second.ensures;
    })
    (omega (arith, c.if-node-ge2147483648.false, c.len.ensures))
    c.in_ok-push.ensures.items
