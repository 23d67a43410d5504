-- A word before the fields of a line.
use Rattle.std.specs.Prelude.{◌≡◌, List, [], ◌∷◌, ◌++◌}
use Rattle.std.proofs.Common.{refl}
use Rattle.std.proofs.lemmas.Grind.{common_steps}
use Rattle.frame_core.specs.declared.replies.Field.{Field}
use Rattle.frame_core.specs.declared.replies.Field.TheVariants.{Nothing, Known, Count, Name}
use Rattle.frame_core.specs.Views.{shown}

pub shown_after : (lead : Field) (fields : List Field) → shown (lead ∷ fields) ≡ shown (lead ∷ []) ++ shown fields
unfolding shown
shown_after Nothing fields = refl
shown_after (Known word) fields = refl
shown_after (Count number) fields = refl
shown_after (Name name) fields = refl

pub ruleset leading = (common_steps, shown_after)
