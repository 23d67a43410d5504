-- The specification of a command: its task.
use Rattle.std.specs.Prelude.{◌≡◌, ℕ, ◌<◌, ◌≤◌, ◌⊎◌, ◌++◌, Bool, true, false, List, [], length, Option, Some, None}
use Rattle.frame_core.specs.declared.status.Status.{Status}
use Rattle.frame_core.specs.declared.status.Status.TheVariants.{Done, Malformed, Limit, Undecided, Refused}
use Rattle.frame_core.specs.Reported.{Reply, Refusal, memory_refusal}

pub record Task : Type 1 where
  -- the most bytes that it reads; None if it never calls its source
  pub reads : Option ℕ
  -- its answers, which inputs have which answer, and the reply to each
  pub Answer : Type 0
  pub Has : List ℕ → Answer → Type 0
  pub reply : Answer → Reply
  -- its faults, which inputs have which fault, and the refusal of each
  pub Fault : Type 0
  pub Meets : List ℕ → Fault → Type 0
  pub refusal : Fault → Refusal
  -- whether the text is written in pieces, while the rest of it is still computed; if not, it is written at
  -- once, when no more memory is needed
  pub in_pieces : Bool
  -- the texts that may be written for an input before its answer is known
  pub Begins : List ℕ → List ℕ → Type 0

-- The first list is a prefix of `text`.
pub record IsPrefix (prefix text : List ℕ) : Type 0 where
  pub rest : List ℕ
  pub is : text ≡ prefix ++ rest

-- It is a prefix of the text of an answer that the input has.
pub record IsAnswerPrefix (task : Task) (bytes prefix : List ℕ) : Type 0 where
  pub answer : task.Answer
  pub has : task.Has bytes answer
  pub is_prefix : IsPrefix prefix (task.reply answer).text

-- It is a prefix of a text that may be written before the answer is known.
pub record IsBegunPrefix (task : Task) (bytes prefix : List ℕ) : Type 0 where
  pub text : List ℕ
  pub begins : task.Begins bytes text
  pub is_prefix : IsPrefix prefix text

-- The truncated texts that are allowed on the output.
abbrev pub MayBeLeft : Task → List ℕ → List ℕ → Type 0
MayBeLeft task bytes prefix = IsAnswerPrefix task bytes prefix ⊎ IsBegunPrefix task bytes prefix

-- no text is written before the answer is known
abbrev pub begins_none : List ℕ → List ℕ → Type 0
begins_none bytes text = ⊥

-- A command that reads, and whose text is written at once.
abbrev pub at_once : ℕ → (Answer : Type 0) → (List ℕ → Answer → Type 0) → (Answer → Reply) → (Fault : Type 0) →
    (List ℕ → Fault → Type 0) → (Fault → Refusal) → Task
at_once most Answer Has reply Fault Meets refusal = record {
  reads = Some most;
  Answer = Answer;
  Has = Has;
  reply = reply;
  Fault = Fault;
  Meets = Meets;
  refusal = refusal;
  in_pieces = false;
  Begins = begins_none;
}

-- A command whose text is written in pieces, maybe some before its answer is known.
abbrev pub in_pieces : Option ℕ → (Answer : Type 0) → (List ℕ → Answer → Type 0) → (Answer → Reply) →
    (Fault : Type 0) → (List ℕ → Fault → Type 0) → (Fault → Refusal) → (List ℕ → List ℕ → Type 0) → Task
in_pieces reads Answer Has reply Fault Meets refusal Begins = record {
  reads = reads;
  Answer = Answer;
  Has = Has;
  reply = reply;
  Fault = Fault;
  Meets = Meets;
  refusal = refusal;
  in_pieces = true;
  Begins = Begins;
}

-- A command that reads nothing, has no faults, and whose text is written at once.
abbrev pub from_nothing : (Answer : Type 0) → (Answer → Type 0) → (Answer → Reply) → Task
from_nothing Answer Is reply = record {
  reads = None;
  Answer = Answer;
  Has = λ (bytes : List ℕ) (answer : Answer). Is answer;
  reply = reply;
  Fault = ⊥;
  Meets = λ (bytes : List ℕ) (fault : ⊥). ⊥;
  refusal = λ (fault : ⊥). absurd fault;
  in_pieces = false;
  Begins = begins_none;
}

-- The input has an answer whose reply is this one.
pub record HasReply (task : Task) (bytes : List ℕ) (reply : Reply) : Type 0 where
  pub answer : task.Answer
  pub has : task.Has bytes answer
  pub is : reply ≡ task.reply answer

-- The input has a fault whose refusal is this one.
pub record Refuses (task : Task) (bytes : List ℕ) (refusal : Refusal) : Type 0 where
  pub fault : task.Fault
  pub meets : task.Meets bytes fault
  pub is : refusal ≡ task.refusal fault

-- more bytes than are read
abbrev pub IsBeyond : Option ℕ → List ℕ → Type 0
IsBeyond None bytes = ⊥
IsBeyond (Some most) bytes = most < length bytes

-- no more bytes than are read, and none if nothing is read
abbrev pub IsWithin : Option ℕ → List ℕ → Type 0
IsWithin None bytes = bytes ≡ []
IsWithin (Some most) bytes = length bytes ≤ most

-- no more bytes than are read, without a fault
pub record IsAnswerable (task : Task) (bytes : List ℕ) : Type 0 where
  pub within : IsBeyond task.reads bytes → ⊥
  pub sound : (fault : task.Fault) → task.Meets bytes fault → ⊥

-- No answer has a report.
abbrev pub HasNoReport : Task → Type 0
HasNoReport task = (answer : task.Answer) → (task.reply answer).report ≡ None

-- ---- well-formed tasks

abbrev pub IsAnswerStatus : Status → Type 0
IsAnswerStatus s = (s ≡ Done) ⊎ ((s ≡ Undecided) ⊎ (s ≡ Refused))

abbrev pub IsRefusalStatus : Status → Type 0
IsRefusalStatus s = (s ≡ Malformed) ⊎ ((s ≡ Limit) ⊎ (s ≡ Refused))

-- An input has answers or at most one refusal, never both, and neither if it is too long. A text that may be
-- written before the answer is known isn't that of an input with a fault, or of one that is too long.
pub record IsTask (task : Task) : Type 0 where
  pub replies : (answer : task.Answer) → IsAnswerStatus (task.reply answer).status
  pub refusals : (bytes : List ℕ) (fault : task.Fault)
      → task.Meets bytes fault
      → IsRefusalStatus (task.refusal fault).status ⊎ (task.refusal fault ≡ memory_refusal)
  pub apart : (bytes : List ℕ) (answer : task.Answer) (fault : task.Fault)
      → task.Has bytes answer
      → task.Meets bytes fault
      → ⊥
  pub one : (bytes : List ℕ) (a b : task.Fault)
      → task.Meets bytes a
      → task.Meets bytes b
      → task.refusal a ≡ task.refusal b
  pub answer_within : (bytes : List ℕ) (answer : task.Answer)
      → task.Has bytes answer
      → IsBeyond task.reads bytes
      → ⊥
  pub fault_within : (bytes : List ℕ) (fault : task.Fault)
      → task.Meets bytes fault
      → IsBeyond task.reads bytes
      → ⊥
  pub begins_apart : (bytes text : List ℕ) (fault : task.Fault)
      → task.Begins bytes text
      → task.Meets bytes fault
      → ⊥
  pub begins_within : (bytes text : List ℕ)
      → task.Begins bytes text
      → IsBeyond task.reads bytes
      → ⊥
