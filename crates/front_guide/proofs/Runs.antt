-- How a run ends that helps people.
use Rattle.std.specs.Prelude.{◌≡◌, ◌≤◌, ℕ, List, Bool, true, false, refl}
use Rattle.std.proofs.Common.{inl, inr, sym, ◌∙◌}
use Rattle.std.proofs.lemmas.Grind.{common_steps}
use Rattle.format_names.specs.declared.formats.FormatPair.{FormatPair}
use Rattle.frame_core.specs.declared.status.Status.{Status}
use Rattle.frame_core.specs.Outside.{PortState, Writes}
use Rattle.file_io.specs.Files.{Files}
use Rattle.file_io.specs.Served.{Pass}
use Rattle.front_core.specs.Asked.{IsNotPlain}
use Rattle.front_core.specs.Front.{Promises, front_run}
use Rattle.front_at.specs.AtRuns.{IsServed}
use Rattle.front_guide.specs.Words.{asks_for_page}
use Rattle.front_guide.specs.Guided.{IsPageStatus, IsFollowed, IsGuided, is_found}

-- a page was written
pub paged : (formats : FormatPair) (promises : Promises) (words : List (List ℕ)) (files : Files) (source out out' note : PortState)
    (page : List ℕ) (status : Status) → files.1 ≡ files.0 → IsNotPlain words → asks_for_page words ≡ true →
    Writes out out' page → IsPageStatus (out, out') status →
    IsGuided formats promises (front_run words files (source, source) (out, out') (note, note) status)
paged formats promises words files source out out' note page status same other asks writes is = inl (record {
  other = other;
  asks = asks;
  page = page;
  on_out = writes;
  status_is = is;
  on_files = same;
  on_source = refl;
  on_note = refl;
})

-- the command had an answer, and nothing came after it
pub answered : (formats : FormatPair) (promises : Promises) (words : List (List ℕ)) (files : Files) (source out : Pass) (note note' : PortState)
    (status : Status) → IsServed formats promises (front_run words files source out (note, note') status) →
    IsGuided formats promises (front_run words files source out (note, note') status)
answered formats promises words files source out note note' status served = inr (record {
  between = note';
  served = served;
  hinted = inl refl;
})

-- a text for people came after it
pub hinted : (formats : FormatPair) (promises : Promises) (words : List (List ℕ)) (files : Files) (source out : Pass)
    (note between note' : PortState) (hint : List ℕ) (status : Status) →
    IsServed formats promises (front_run words files source out (note, between) status) →
    is_found status ≡ false → Writes between note' hint → between.faults ≤ note'.faults →
    IsGuided formats promises (front_run words files source out (note, note') status)
hinted formats promises words files source out note between note' hint status served unanswered writes rises = inr (record {
  between = between;
  served = served;
  hinted = inr (record { hint = hint; on_note = writes; rises = rises; unanswered = unanswered });
})

pub ruleset guided = (common_steps, paged, answered, hinted)

-- ---- after a run

pub nothing_more : (note : PortState) (status : Status) → IsFollowed note note status
nothing_more note status = inl refl

pub hint_more : (between after : PortState) (hint : List ℕ) (found : Bool) (status : Status) → found ≡ is_found status →
    found ≡ false → Writes between after hint → between.faults ≤ after.faults → IsFollowed between after status
hint_more between after hint found status same isnt writes rises =
    inr (record { hint = hint; on_note = writes; rises = rises; unanswered = sym same ∙ isnt })

pub ruleset following = (common_steps, nothing_more, hint_more)
