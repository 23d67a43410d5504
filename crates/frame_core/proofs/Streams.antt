-- An input that comes in pieces, after one more piece.
use Rattle.std.proofs.Common.{◌≡◌, ℕ, ◌+◌, ◌-◌, ◌≤◌, ◌<◌, List, [], ◌++◌, length, Option, Some, sym, ap, ◌∙◌, arith, length-append}
use Rattle.port_io.specs.Bytes.{Consumes, IsAtEnd, prepended}
use Rattle.port_io.specs.TextLaws.{prepended-none, prepended-twice, all_taken, none_left, length_taken}
use Rattle.frame_core.specs.Run.{IsWhole}
use Rattle.frame_core.specs.Streaming.{WereTaken}

-- `bytes` were consumed, `Holds` holds for them, and there is room for `room` more.
pub record IsTaking (most room : ℕ) (old now : Option (List ℕ)) (Holds : List ℕ → Type 0) : Type 0 where
  pub bytes : List ℕ
  pub consumes : Consumes old now bytes
  pub room_is : length bytes + room ≡ most
  pub holds : Holds bytes

pub taking_none : (most : ℕ) (old : Option (List ℕ)) (Holds : List ℕ → Type 0) → Holds [] → IsTaking most most old old Holds
taking_none most old Holds holds = record { bytes = []; consumes = sym (prepended-none old); room_is = omega arith; holds = holds }

joined : (old now new : Option (List ℕ)) (bytes piece : List ℕ) → Consumes old now bytes → Consumes now new piece → Consumes old new (bytes ++ piece)
joined old now new bytes piece first then = first ∙ ap (λ (left : Option (List ℕ)). prepended bytes left) then ∙ prepended-twice bytes piece new

pub taking_more : (most room count : ℕ) (old now new : Option (List ℕ)) (piece : List ℕ) (Holds Next : List ℕ →
    Type 0) → Consumes now new piece → length piece ≡ count → count ≤ room →
    ((bytes : List ℕ) → Holds bytes → Next (bytes ++ piece)) → IsTaking most room old now Holds →
    IsTaking most (room - count) old new Next
taking_more most room count old now new piece Holds Next then long fits more taking = record {
  bytes = taking.bytes ++ piece;
  consumes = joined old now new taking.bytes piece taking.consumes then;
  room_is = let both = length-append taking.bytes piece in omega (arith, both, long, taking.room_is, fits);
  holds = more taking.bytes taking.holds;
}

-- if nothing more is left, all was consumed
pub taking_all : (most room : ℕ) (old now new : Option (List ℕ)) (Holds : List ℕ → Type 0) → Consumes now new [] → IsAtEnd new → IsTaking most room old now Holds → WereTaken most old new Holds
taking_all most room old now new Holds then end taking = record {
  bytes = taking.bytes;
  consumes = taking.consumes ∙ ap (λ (left : Option (List ℕ)). prepended taking.bytes left) (then ∙ prepended-none new);
  end = end;
  within = omega (arith, taking.room_is);
  holds = taking.holds;
}

-- if there is more than there is room for, the input is too long
pub taking_long : (most room : ℕ) (old now new : Option (List ℕ)) (piece input : List ℕ) (Holds : List ℕ → Type 0) →
    Consumes now new piece → room < length piece → IsTaking most room old now Holds → old ≡ Some input →
    most < length input
taking_long most room old now new piece input Holds then beyond taking reported =
    let least = length_taken old new (taking.bytes ++ piece) input (joined old now new taking.bytes piece taking.consumes then) reported in
    let count = length-append taking.bytes piece in
    omega (arith, count, least, taking.room_is, beyond)

-- what was consumed is what the source held, and it was read to its end
pub taken_whole : (most : ℕ) (old new : Option (List ℕ)) (Holds : List ℕ → Type 0) → (taken : WereTaken most old new Holds) → IsWhole old taken.bytes
taken_whole most old new Holds taken = λ input reported. all_taken old new taken.bytes input taken.consumes taken.end reported

pub taken_to_end : (most : ℕ) (old new : Option (List ℕ)) (Holds : List ℕ → Type 0) → WereTaken most old new Holds → (input : List ℕ) → old ≡ Some input → new ≡ Some []
taken_to_end most old new Holds taken = λ input reported. none_left old new taken.bytes input taken.consumes taken.end reported
