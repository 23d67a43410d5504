-- One piece after the other.
use Rattle.std.proofs.Common.{◌≡◌, ℕ, ◌++◌, subst}
use Rattle.text_core.specs.Lines.{line_bytes}
use Rattle.chain_core.specs.Spelling.{line}
use Rattle.depth_theory.specs.DepthSpelling.{depth_line}
use Rattle.depth_core.proofs.Written.{pushed}
use Rattle.depth_core.proofs.writing.push_all.Goals as goal

pub returns : goal.returns
returns c =
    let depth = subst (λ (n : ℕ). c.push_depth.new.text.items ≡ c.write_certificate.new.out.items ++ line_bytes (line (depth_line n))) c.levels_of.ensures c.in_ok-push_depth.ensures in
    pushed c.args.certificate.now c.args.subproblems.now c.args.verdict _ _ _ _ _ _
    c.in_ok-write_certificate.ensures.ok depth c.in_ok-write_subproblems.ensures.ok c.in_ok-push_levels.ensures
    c.in_ok-extend_from_slice.ensures.items
