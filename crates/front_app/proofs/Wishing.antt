-- How a run ends, by the wishes of its words.
use Rattle.std.specs.Prelude.{◌≡◌, ℕ, List, Option, Some, None, IfSome, refl}
use Rattle.std.specs.Option.{option_map}
use Rattle.std.proofs.Common.{sym, ◌∙◌, ap, subst, inl, inr}
use Rattle.std.proofs.lemmas.Grind.{common_steps}
use Rattle.frame_core.specs.declared.status.Status.{Status}
use Rattle.frame_core.specs.declared.status.Status.TheVariants as statuses
use Rattle.frame_core.specs.Outside.{PortState, Writes}
use Rattle.frame_core.specs.Reported.{error_line, memory}
use Rattle.file_io.specs.Files.{FilesState, Files}
use Rattle.file_io.specs.Served.{Pass}
use Rattle.file_io.specs.ServedLaws.{still}
use Rattle.front_core.specs.Front.{front_run}
use Rattle.front_wish.specs.declared.asking.WishLine.{WishLine}
use Rattle.front_wish.specs.AskedWishes.{Wish, wish_of, wish_value, IsReady}
use Rattle.front_wish.specs.WishRuns.{IsWishServed}
use Rattle.front_app.specs.Fronted.{IsFormatted, IsWishedBy, IsWishedOr}

pub out_of_memory : (words : List (List ℕ)) (state : FilesState) (source out note note' : PortState) (status : Status) →
    Writes note note' (error_line memory) → status ≡ statuses.Memory →
    IsWishedOr (front_run words (state, state) (source, source) (out, out) (note, note') status)
out_of_memory words state source out note note' status writes is =
    inl (record { unchanged = still state; on_source = refl; on_out = refl; on_note = writes; status_is = is })

pub without_wish : (words : List (List ℕ)) (found : Option WishLine) (files : Files) (source out note : Pass) (status : Status) →
    option_map wish_value found ≡ wish_of words → found ≡ None →
    IsFormatted (front_run words files source out note status) → IsWishedOr (front_run words files source out note status)
without_wish words found files source out note status is none formatted =
    inr (subst (λ (w : Option Wish). IsWishedBy w (front_run words files source out note status))
    (sym (ap (option_map wish_value) none) ∙ is) formatted)

pub by_wish : (words : List (List ℕ)) (found : Option WishLine) (wish : WishLine) (files : Files) (source out note : Pass)
    (status : Status) → option_map wish_value found ≡ wish_of words → found ≡ Some wish →
    ((all : List (List ℕ)) → IsWishServed (wish_value wish) (front_run all files source out note status)) →
    IsWishedOr (front_run words files source out note status)
by_wish words found wish files source out note status is some served =
    inr (subst (λ (w : Option Wish). IsWishedBy w (front_run words files source out note status))
    (sym (ap (option_map wish_value) some) ∙ is) (served words))

pub ready_wish : (found : Option WishLine) (wish : WishLine) → IfSome found (λ w. IsReady w.format w.settings) →
    found ≡ Some wish → IsReady wish.format wish.settings
ready_wish found wish all is = subst (λ (o : Option WishLine). IfSome o (λ w. IsReady w.format w.settings)) is all

pub ruleset wishing = (common_steps, out_of_memory, without_wish, by_wish, ready_wish)
