-- How the draft of a named output ends.
use Rattle.std.specs.Prelude.{◌≡◌, ℕ, List, [], ◌∷◌, Bool, true, false, Option, refl}
use Rattle.std.proofs.Common.{sym, ◌∙◌, subst, inl, inr}
use Rattle.std.proofs.lemmas.Grind.{common_steps}
use Rattle.frame_core.specs.declared.status.Status.{Status}
use Rattle.frame_core.specs.Outside.{PortState, Writes}
use Rattle.file_io.specs.declared.calls.Call.TheVariants.{Keep}
use Rattle.file_io.specs.FaultLine.{fault_line, fault_status}
use Rattle.file_io.specs.Names.{Begins, is_some_text}
use Rattle.file_io.specs.Files.{FilesState, IsUnchanged, Fails, IsReplaced}
use Rattle.file_io.specs.Settling.{is_answer_status, Settles}

pub no_answer : (name : List ℕ) (ended : Status) (written : Option (List ℕ)) (old new : FilesState) (note : PortState) →
    is_answer_status ended ≡ false → IsUnchanged old new → Settles name ended written (old, new) (note, note) ended
no_answer name ended written old new note not unchanged = inr (inl (record {
  none = inl not;
  unchanged = unchanged;
  on_note = refl;
  status_is = refl;
}))

no_text : (bytes : List ℕ) → false ≡ is_some_text bytes → bytes ≡ []
no_text [] is = refl
no_text (b ∷ bs) is = absurd cc

pub nothing_written : (name : List ℕ) (ended : Status) (written : Option (List ℕ)) (answer : Bool) (old new : FilesState)
    (note : PortState) → answer ≡ false → Begins written answer → IsUnchanged old new →
    Settles name ended written (old, new) (note, note) ended
nothing_written name ended written answer old new note not begins unchanged = inr (inl (record {
  none = inr (λ bytes is. no_text bytes (sym not ∙ begins bytes is));
  unchanged = unchanged;
  on_note = refl;
  status_is = refl;
}))

pub kept_draft : (name : List ℕ) (ended : Status) (written : Option (List ℕ)) (answer : Bool) (old new : FilesState)
    (note : PortState) → is_answer_status ended ≡ true → answer ≡ true → Begins written answer →
    IsReplaced name written old new → Settles name ended written (old, new) (note, note) ended
kept_draft name ended written answer old new note is begun begins replaced = inl (record {
  answer = is;
  begun = subst (λ (b : Bool). Begins written b) begun begins;
  kept = replaced;
  on_note = refl;
  status_is = refl;
})

pub lost_draft : (name : List ℕ) (ended : Status) (written : Option (List ℕ)) (old new : FilesState)
    (note note' : PortState) (reason : List ℕ) (status : Status) → is_answer_status ended ≡ true → Fails Keep old new →
    Writes note note' (fault_line Keep name reason) → status ≡ fault_status Keep →
    Settles name ended written (old, new) (note, note') status
lost_draft name ended written old new note note' reason status is fails writes status_is = inr (inr (record {
  answer = is;
  failed = record { fails = fails; reason = reason; on_note = writes; status_is = status_is };
}))

pub ruleset ends = (common_steps, no_answer, nothing_written, kept_draft, lost_draft)
