-- The verdict is the one that follows from the chain.
use Rattle.std.proofs.Common.{◌≡◌, ℕ, ◌+◌, ◌∙◌, List, length, ap, sym, arith}
use Rattle.std.proofs.lemmas.List.{length-map}
use Rattle.text_core.specs.Lines.{Line}
use Rattle.chain_theory.specs.Chain.{Chain, Step}
use Rattle.chain_core.specs.Steps.{step_of}
use Rattle.cert_theory.specs.declared.data.Header.{Header}
use Rattle.cert_theory.specs.Certificate.{found}
use Rattle.cert_laws.specs.TrailerSpellings.{same_is}
use Rattle.cert_file.specs.Claims.{IsHeld}
use Rattle.cert_file.proofs.trailer.at_found.Goals as goal

held_next : (h : Header) (c : Chain) (number : ℕ) (all : List Line) → IsHeld h c 0 number all → IsHeld h c 1 (number + 1) all
held_next h c number all is = record {
  prefix = is.prefix;
  lines = is.lines;
  all_is = is.all_is;
  read_is = is.read_is;
  inputs = is.inputs;
  outputs = is.outputs;
  number_is = omega (arith, is.number_is);
}

pub returns-clause-keeps_claim : goal.returns-clause-keeps_claim
returns-clause-keeps_claim c = λ ls all kept held.
    let count : length c.steps.result.now ≡ length c.args.chain.steps = sym (length-map c.steps.result.now step_of) ∙ ap (λ (ss : List Step). length ss) c.steps.ensures.steps in
    let same : c.in-Some.verdict ≡ c.found.result = same_is c.in-Some.verdict c.found.result (sym c.is_same.ensures ∙ c.if-not-is_same.false) in (
      kept,
      (
        held_next c.args.header c.args.chain c.args.line.now.number all held,
        (c.args.low, same ∙ c.found.ensures ∙ ap (λ (n : ℕ). found n c.args.low) count),
      ),
    )
