-- The states of the sinks after a run tell whether memory for them couldn't be had.
use Rattle.std.specs.Prelude.{◌≡◌, ℕ, ◌+◌, ◌<◌, List, [], refl}
use Rattle.std.proofs.Common.{sym, subst, inl, inr}
use Rattle.std.proofs.lemmas.Grind.{common_steps}
use Rattle.port_io.specs.Memory.{Store}
use Rattle.frame_core.specs.declared.status.Status.{Status}
use Rattle.frame_core.specs.declared.status.Status.TheVariants.{WriteFault, Memory}
use Rattle.frame_core.specs.Outside.{PortState}
use Rattle.frame_core.specs.Run.{Run, run_of}
use Rattle.batsokemi_c.specs.Called.{AreWords, holding, memory_run, empty_sink, IsCalled}

-- a sink as a run sees it
abbrev pub seen : Store → PortState
seen sink = holding sink.written sink.schedule.faults

keeps_from : (P : Run → Type 0) (words : List (List ℕ)) (input left : List ℕ) (o p n q : Store) (s : Status) → o ≡ empty_sink → n ≡ empty_sink
    → P (run_of words (holding input 0, holding left 0) (seen o, seen p) (seen n, seen q) s)
    → P (memory_run words input left p.written p.schedule.faults q.written q.schedule.faults s)
keeps_from P words input left o p n q s out note keeps =
    subst (λ (x : Store). P (run_of words (holding input 0, holding left 0) (seen x, seen p) (holding [] 0, seen q) s)) out
    (subst (λ (x : Store). P (run_of words (holding input 0, holding left 0) (seen o, seen p) (seen x, seen q) s)) note keeps)

pub has_run : (P : Run → Type 0) (command input : List ℕ) (words : List (List ℕ)) (left : List ℕ) (o p n q : Store) (s : Status) →
    AreWords command words → o ≡ empty_sink → n ≡ empty_sink → p.schedule.faults ≡ 0 → q.schedule.faults ≡ 0 →
    P (run_of words (holding input 0, holding left 0) (seen o, seen p) (seen n, seen q) s) →
    IsCalled P command input p.written q.written s
has_run P command input words left o p n q s are out note out_held note_held keeps = inl (record {
  words = words;
  are_words = are;
  left = left;
  keeps =
      subst (λ (k : ℕ). P (memory_run words input left p.written k q.written 0 s)) out_held
      (subst (λ (k : ℕ). P (memory_run words input left p.written p.schedule.faults q.written k s)) note_held
      (keeps_from P words input left o p n q s out note keeps));
})

pub has_lacked_room : (P : Run → Type 0) (command input : List ℕ) (words : List (List ℕ)) (left : List ℕ) (o p n q : Store) (s : Status) →
    AreWords command words → o ≡ empty_sink → n ≡ empty_sink → 0 < p.schedule.faults + q.schedule.faults →
    P (run_of words (holding input 0, holding left 0) (seen o, seen p) (seen n, seen q) s) →
    IsCalled P command input p.written q.written WriteFault
has_lacked_room P command input words left o p n q s are out note failed keeps = inr (inl (record {
  words = words;
  are_words = are;
  left = left;
  output_faults = p.schedule.faults;
  notes_faults = q.schedule.faults;
  failed = failed;
  ended = s;
  keeps = keeps_from P words input left o p n q s out note keeps;
  status_is = refl;
}))

pub has_not_run : (P : Run → Type 0) (command input : List ℕ) (o n : Store) → o ≡ empty_sink → n ≡ empty_sink → IsCalled P command input o.written n.written Memory
has_not_run P command input o n out note = inr (inr (record {
  status_is = refl;
  no_output = subst (λ (x : Store). x.written ≡ []) (sym out) refl;
  no_notes = subst (λ (x : Store). x.written ≡ []) (sym note) refl;
}))

pub ruleset calling = (common_steps, has_run, has_lacked_room, has_not_run)
