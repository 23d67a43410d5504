-- Lemmas that tasks are well formed.
use Rattle.std.specs.Prelude.{◌≡◌, ℕ, ◌<◌, ◌≤◌, ◌⊎◌, List, length, Option}
use Rattle.std.proofs.Common.{arith}
use Rattle.frame_core.specs.Reported.{Reply, Refusal, memory_refusal}
use Rattle.frame_core.specs.Task.{at_once, in_pieces, from_nothing, IsBeyond, IsAnswerStatus, IsRefusalStatus, IsTask}

not_beyond : (most : ℕ) (bytes : List ℕ) → length bytes ≤ most → most < length bytes → ⊥
not_beyond most bytes within long = omega arith

-- a task whose text is written at once
pub at_once_task : (most : ℕ) (Answer : Type 0) (Has : List ℕ → Answer → Type 0) (reply : Answer → Reply) (Fault : Type 0) (Meets : List ℕ → Fault → Type 0) (refusal : Fault → Refusal)
    → ((answer : Answer) → IsAnswerStatus (reply answer).status)
    → ((bytes : List ℕ) (fault : Fault) → Meets bytes fault → IsRefusalStatus (refusal fault).status ⊎ (refusal fault ≡ memory_refusal))
    → ((bytes : List ℕ) (answer : Answer) (fault : Fault) → Has bytes answer → Meets bytes fault → ⊥)
    → ((bytes : List ℕ) (a b : Fault) → Meets bytes a → Meets bytes b → refusal a ≡ refusal b)
    → ((bytes : List ℕ) (answer : Answer) → Has bytes answer → length bytes ≤ most)
    → ((bytes : List ℕ) (fault : Fault) → Meets bytes fault → length bytes ≤ most)
    → IsTask (at_once most Answer Has reply Fault Meets refusal)
at_once_task most Answer Has reply Fault Meets refusal replies refusals apart one answer_within fault_within = record {
  replies = replies;
  refusals = refusals;
  apart = apart;
  one = one;
  answer_within = λ bytes answer has long. not_beyond most bytes (answer_within bytes answer has) long;
  fault_within = λ bytes fault meets long. not_beyond most bytes (fault_within bytes fault meets) long;
  begins_apart = λ bytes text fault begins meets. begins;
  begins_within = λ bytes text begins long. begins;
}

-- a task whose text is written in pieces
pub in_pieces_task : (reads : Option ℕ) (Answer : Type 0) (Has : List ℕ → Answer → Type 0) (reply : Answer →
    Reply) (Fault : Type 0) (Meets : List ℕ → Fault → Type 0) (refusal : Fault → Refusal) (Begins : List ℕ → List ℕ →
    Type 0)
    → ((answer : Answer) → IsAnswerStatus (reply answer).status)
    → ((bytes : List ℕ) (fault : Fault) → Meets bytes fault → IsRefusalStatus (refusal fault).status ⊎ (refusal fault ≡ memory_refusal))
    → ((bytes : List ℕ) (answer : Answer) (fault : Fault) → Has bytes answer → Meets bytes fault → ⊥)
    → ((bytes : List ℕ) (a b : Fault) → Meets bytes a → Meets bytes b → refusal a ≡ refusal b)
    → ((bytes : List ℕ) (answer : Answer) → Has bytes answer → IsBeyond reads bytes → ⊥)
    → ((bytes : List ℕ) (fault : Fault) → Meets bytes fault → IsBeyond reads bytes → ⊥)
    → ((bytes text : List ℕ) (fault : Fault) → Begins bytes text → Meets bytes fault → ⊥)
    → ((bytes text : List ℕ) → Begins bytes text → IsBeyond reads bytes → ⊥)
    → IsTask (in_pieces reads Answer Has reply Fault Meets refusal Begins)
in_pieces_task reads Answer Has reply Fault Meets refusal Begins replies refusals apart one answer_within fault_within begins_apart begins_within = record {
  replies = replies;
  refusals = refusals;
  apart = apart;
  one = one;
  answer_within = answer_within;
  fault_within = fault_within;
  begins_apart = begins_apart;
  begins_within = begins_within;
}

-- a task that reads nothing
pub from_nothing_task : (Answer : Type 0) (Is : Answer → Type 0) (reply : Answer → Reply)
    → ((answer : Answer) → IsAnswerStatus (reply answer).status)
    → IsTask (from_nothing Answer Is reply)
from_nothing_task Answer Is reply replies = record {
  replies = replies;
  refusals = λ bytes fault meets. absurd fault;
  apart = λ bytes answer fault has meets. meets;
  one = λ bytes a b x y. absurd x;
  answer_within = λ bytes answer has long. long;
  fault_within = λ bytes fault meets long. meets;
  begins_apart = λ bytes text fault begins meets. begins;
  begins_within = λ bytes text begins long. begins;
}
