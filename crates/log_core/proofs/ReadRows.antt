-- Byte arrays of lines: one line appended, and the first one taken off.
use Rattle.std.proofs.Common.{◌≡◌, ℕ, suc, ◌-◌, ◌≤◌, ℤ, List, [], ◌∷◌, ◌++◌, length, take, drop, refl, ap, sym, ◌∙◌, arith, append_assoc, length-append, length-drop}
use Rattle.std.specs.Prelude.{All, Result, Ok, Err, IfOk, IsOkAnd}
use Rattle.std.proofs.Math.Seq.{take-append_seam, drop-append_seam, take-length}
use Rattle.std.proofs.lemmas.List.{drop-append-le, take-append-le, length-take, take-take}
use Rattle.cnf_core.specs.Bounds.{IsLit}
use Rattle.sat_theory.specs.Line as theory
use Rattle.log_core.specs.declared.head.Head.{Head}
use Rattle.log_core.specs.declared.head.Head.TheVariants.{Add, Delete}
use Rattle.log_core.specs.Lists.{ids_written, literals_written}
use Rattle.log_core.specs.Rows.{size_of, line_in, lines_in, sizes_of, IsSplit, BeginsAs, IsPacked}
use Rattle.log_core.proofs.ReadLists.{AreIds, ids_read, literals_read}

-- an addition that was written is read again
pub addition_read : (id : ℕ) (lits : List ℤ) (hints : List ℕ) → All IsLit lits → AreIds hints →
    line_in (Add id (length (literals_written lits)) (length (ids_written 0 hints))) (literals_written lits ++
    ids_written 0 hints) ≡ theory.Add id lits hints
addition_read id lits hints are_lits are_ids =
    rw (
      take-append_seam (literals_written lits) (ids_written 0 hints),
      drop-append_seam (literals_written lits) (ids_written 0 hints),
      literals_read lits are_lits,
      ids_read 0 hints (omega arith) are_ids,
    ) refl

-- a deletion that was written is read again
pub deletion_read : (id : ℕ) (ids : List ℕ) → AreIds ids → line_in (Delete id (length (ids_written 0 ids))) (ids_written 0 ids) ≡ theory.Delete id ids
deletion_read id ids are = rw (ids_read 0 ids (omega arith) are) refl

empty : (bytes : List ℕ) → 0 ≡ length bytes → bytes ≡ []
empty [] none = refl
empty (b ∷ bs) none = absurd (omega (arith, none))

-- one more line
pub lines-push : (heads : List Head) (bytes : List ℕ) (h : Head) (new : List ℕ) → IsSplit heads bytes →
    size_of h ≡ length new → lines_in (heads ++ h ∷ []) (bytes ++ new) ≡ lines_in heads bytes ++ line_in h new ∷ []
unfolding lines_in sizes_of
lines-push [] bytes h new split size = rw (empty bytes split, size, take-length new) refl
lines-push (g ∷ heads) bytes h new split size =
    let first : size_of g ≤ length bytes = omega (arith, split) in
    let others : sizes_of heads ≡ length (drop (size_of g) bytes) = rw length-drop (omega (arith, split)) in
    rw (take-append-le (size_of g) bytes new first, drop-append-le (size_of g) bytes new first)
    (ap (λ (ls : List theory.Line). line_in g (take (size_of g) bytes) ∷ ls) (lines-push heads (drop (size_of g) bytes) h new others size))

pub split-push : (heads : List Head) (bytes : List ℕ) (h : Head) (new : List ℕ) → IsSplit heads bytes → size_of h ≡ length new → IsSplit (heads ++ h ∷ []) (bytes ++ new)
unfolding sizes_of
split-push [] bytes h new split size = rw (empty bytes split) (omega (arith, size))
split-push (g ∷ heads) bytes h new split size =
    let first : size_of g ≤ length bytes = omega (arith, split) in
    let others : sizes_of heads ≡ length (drop (size_of g) bytes) = rw length-drop (omega (arith, split)) in
    let more : sizes_of (heads ++ h ∷ []) ≡ length (drop (size_of g) bytes ++ new) = split-push heads (drop (size_of g) bytes) h new others size in
    omega (arith, more, split, length-append (drop (size_of g) bytes) new, length-append bytes new, length-drop (size_of g) bytes)

pub lines-length : (heads : List Head) (bytes : List ℕ) → length (lines_in heads bytes) ≡ length heads
unfolding lines_in
lines-length [] bytes = refl
lines-length (h ∷ heads) bytes = ap suc (lines-length heads (drop (size_of h) bytes))

pub lines-none : (bytes : List ℕ) → lines_in [] bytes ≡ []
unfolding lines_in
lines-none bytes = refl

-- the first line
pub lines-first : (h : Head) (heads : List Head) (bytes : List ℕ) → lines_in (h ∷ heads) bytes ≡ line_in h (take (size_of h) bytes) ∷ lines_in heads (drop (size_of h) bytes)
unfolding lines_in
lines-first h heads bytes = refl

pub first-size : (h : Head) (heads : List Head) (bytes : List ℕ) → IsSplit (h ∷ heads) bytes → size_of h ≤ length bytes
unfolding sizes_of
first-size h heads bytes split = omega (arith, split)

pub split-first : (h : Head) (heads : List Head) (bytes : List ℕ) → IsSplit (h ∷ heads) bytes → IsSplit heads (drop (size_of h) bytes)
unfolding sizes_of
split-first h heads bytes split = rw length-drop (omega (arith, split))

-- an array is a prefix of itself
pub begins-same : (old : List ℕ) → BeginsAs old old
begins-same old = take-length old

pub begins-more : (old more : List ℕ) → BeginsAs old (old ++ more)
begins-more old more = take-append_seam old more

pub begins-on : (old middle new : List ℕ) → BeginsAs old middle → BeginsAs middle new → BeginsAs old new
begins-on old middle new first second =
    let low : length old ≤ length middle = omega (arith, ap length first, length-take (length old) middle) in
    sym (take-take (length old) (length middle) new low) ∙ ap (take (length old)) second ∙ first

-- an addition that was packed, by the length of the array before it, between its lists and at its end
pub addition_packed : (old middle new : List ℕ) (id n m start between end : ℕ) (lits : List ℤ) (hints : List ℕ) →
    middle ≡ old ++ literals_written lits → new ≡ middle ++ ids_written 0 hints → start ≡ length old →
    between ≡ length middle → end ≡ length new → n ≡ between - start → m ≡ end - between → All IsLit lits →
    AreIds hints → IsPacked old new (theory.Add id lits hints) (Add id n m)
addition_packed old middle new id n m start between end lits hints first second at_start at_between at_end is_n is_m are_lits are_ids =
    let lit_bytes : List ℕ = literals_written lits in
    let hint_bytes : List ℕ = ids_written 0 hints in
    let size_n : n ≡ length lit_bytes = omega (arith, is_n, at_start, at_between, ap length first, length-append old lit_bytes) in
    let size_m : m ≡ length hint_bytes = omega (arith, is_m, at_between, at_end, ap length second, length-append middle hint_bytes) in
    record {
      more = lit_bytes ++ hint_bytes;
      row = second ∙ ap (λ (xs : List ℕ). xs ++ hint_bytes) first ∙ append_assoc old lit_bytes hint_bytes;
      size = omega (arith, size_n, size_m, length-append lit_bytes hint_bytes);
      spells = rw size_n (addition_read id lits hints are_lits are_ids);
    }

-- and a deletion
pub deletion_packed : (old new : List ℕ) (id n start end : ℕ) (ids : List ℕ) → new ≡ old ++ ids_written 0 ids →
    start ≡ length old → end ≡ length new → n ≡ end - start → AreIds ids →
    IsPacked old new (theory.Delete id ids) (Delete id n)
deletion_packed old new id n start end ids all at_start at_end is_n are =
    let id_bytes : List ℕ = ids_written 0 ids in
    let size_n : n ≡ length id_bytes = omega (arith, is_n, at_start, at_end, ap length all, length-append old id_bytes) in
    record { more = id_bytes; row = all; size = size_n; spells = deletion_read id ids are }

-- a packed line whose head was appended
pub line_put : (heads more : List Head) (old new : List ℕ) (line : theory.Line) (h : Head) → IsSplit heads old →
    IsPacked old new line h → more ≡ heads ++ h ∷ [] → IsSplit more new ×
    (lines_in more new ≡ lines_in heads old ++ line ∷ [])
line_put heads more old new line h split packed is = (
  rw (is, packed.row) (split-push heads old h packed.more split packed.size),
  rw (is, packed.row) (lines-push heads old h packed.more split packed.size ∙ ap (λ (l : theory.Line). lines_in heads old ++ l ∷ []) packed.spells),
)

pub result_put : {E : Type 0} (heads more : List Head) (old new : List ℕ) (line : theory.Line)
    (packed : Result Head E) → IsSplit heads old → IfOk packed (IsPacked old new line) →
    IsOkAnd packed (λ h. more ≡ heads ++ h ∷ []) → IsSplit more new ×
    (lines_in more new ≡ lines_in heads old ++ line ∷ [])
result_put heads more old new line (Ok h) split packed is = line_put heads more old new line h split packed is
result_put heads more old new line (Err e) split packed is = absurd is
