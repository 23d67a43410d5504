use Rattle.std.specs.Prelude.{ℕ, map, bit_and}
use Rattle.std.proofs.Common.{◌∙◌, ap, subst, sym}
use Rattle.observe_core.specs.Observing.{IsMasked}
use Rattle.observe_core.specs.NarrowingLaws.{masked_spec, masked_is}
use Rattle.observe_core.proofs.relaxing.relaxed.Goals as goal

pub new-requires : goal.new-requires
new-requires c =
    masked_spec c.args.mask c.args.spec.now (record { n = c.n-inputs.result; on = c.in_ok-on.on.items; care = c.in_ok-care.care.items }) c.n-inputs.ensures.whole c.n-inputs.ensures.value
    (c.in_ok-on.ensures ∙ ap (map (λ (word : ℕ). bit_and word c.args.mask)) c.on.ensures)
    (c.in_ok-care.ensures ∙ ap (map (λ (word : ℕ). bit_and word c.args.mask)) c.care.ensures)

pub returns : goal.returns
returns c =
    subst (IsMasked c.args.mask c.args.spec.now) (sym c.new.ensures)
    (masked_is c.args.mask c.args.spec.now (record { n = c.n-inputs.result; on = c.in_ok-on.on.items; care = c.in_ok-care.care.items }) c.n-inputs.ensures.value
    (c.in_ok-on.ensures ∙ ap (map (λ (word : ℕ). bit_and word c.args.mask)) c.on.ensures)
    (c.in_ok-care.ensures ∙ ap (map (λ (word : ℕ). bit_and word c.args.mask)) c.care.ensures))
