-- The loops over blocks.
use Rattle.std.proofs.Common.{◌≡◌, ℕ, suc, ◌+◌, List, [], ◌++◌, refl, ap, sym, subst, arith}
use Rattle.std.specs.Prelude.{All}
use Rattle.std.proofs.lemmas.Grind.{common_steps}
use Rattle.std.proofs.lemmas.List.Elements.{All-nil}
use Rattle.net_theory.specs.Document.{Document}
use Rattle.blif_core.specs.Spelling.{HasInit}
use Rattle.gen_core.specs.Generated.{of_blocks, generated}

pub of_none : {A : Type 0} (f : ℕ → List A) → of_blocks f 0 ≡ []
unfolding of_blocks
of_none f = refl

pub of_one_more : {A : Type 0} (f : ℕ → List A) (n : ℕ) → of_blocks f (n + 1) ≡ of_blocks f n ++ f n
unfolding of_blocks
of_one_more f n = let e : n + 1 ≡ suc n = omega arith in ap (of_blocks f) e

pub generated_inits : (d : Document) (blocks : ℕ) → d ≡ generated blocks → All HasInit d.latches
unfolding generated
generated_inits d blocks e = subst (λ (x : Document). All HasInit x.latches) (sym e) (All-nil HasInit)

pub ruleset blocks = (common_steps, of_none, of_one_more)

pub ruleset texts = (common_steps, generated_inits)
