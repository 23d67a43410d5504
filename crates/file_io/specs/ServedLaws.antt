-- Work without files, and answers that were written to a draft.
use Rattle.std.specs.Prelude.{◌≡◌, ◌⊎◌, ℕ, ◌<◌, List, [], ◌∷◌, length, true, false, Some, refl}
use Rattle.std.proofs.Common.{inl, inr, sym, ◌∙◌, arith}
use Rattle.frame_core.specs.declared.status.Status.{Status}
use Rattle.frame_core.specs.Outside.{PortState}
use Rattle.file_io.specs.declared.calls.Call.TheVariants.{Keep}
use Rattle.file_io.specs.Names.{File, IsEmpty}
use Rattle.file_io.specs.Files.{FilesState, Files, IsUnchanged}
use Rattle.file_io.specs.Failing.{IsFailed}
use Rattle.file_io.specs.Settling.{is_answer_status, Settles}
use Rattle.file_io.specs.Served.{Pass, IsApart}

-- Nothing happens to the files.
pub still : (state : FilesState) → IsUnchanged state state
still state = record { same = λ name. refl; faultless = λ call. refl }

pub apart : (does : Pass → Pass → Pass → Status → Type 0) (state : FilesState) (source out note : Pass)
    (status : Status) → does source out note status → IsApart does (state, state) source out note status
apart does state source out note status work = record { work = work; unchanged = still state }

no_text : (text : List ℕ) → 0 < length text → IsEmpty (Some text) → ⊥
no_text [] some empty = let none : 0 < 0 = some in omega arith
no_text (b ∷ bs) some empty = let none : b ∷ bs ≡ [] = empty (b ∷ bs) refl in cc

not_left : (ended : Status) (text : List ℕ) → is_answer_status ended ≡ true → 0 < length text →
    (is_answer_status ended ≡ false) ⊎ IsEmpty (Some text) → ⊥
not_left ended text answer some (inl not) = let wrong : true ≡ false = sym answer ∙ not in cc
not_left ended text answer some (inr empty) = no_text text some empty

-- An answer with text stands in the place of its name at the end, if the call that puts it there didn't fail.
pub answers_are_kept : (name : List ℕ) (ended : Status) (text : List ℕ) (files : Files) (note : PortState × PortState)
    (status : Status) → is_answer_status ended ≡ true → 0 < length text →
    Settles name ended (Some text) files note status →
    (files.1.holds name ≡ File text) ⊎ IsFailed Keep name files note status
answers_are_kept name ended text files note status answer some (inl kept) = inl kept.kept.here
answers_are_kept name ended text files note status answer some (inr (inl gone)) =
    absurd (not_left ended text answer some gone.none)
answers_are_kept name ended text files note status answer some (inr (inr lost)) = inr lost.failed
