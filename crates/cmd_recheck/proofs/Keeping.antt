-- The state of reading a certificate, after more bytes and at its end.
use Rattle.std.specs.Prelude.{◌≡◌, ℕ, ◌≤◌, List, [], ◌++◌, length, Option, Some}
use Rattle.std.proofs.Common.{subst, append-nil}
use Rattle.text_core.specs.Lines.{Line}
use Rattle.frame_core.specs.declared.replies.Refusal.{Refusal}
use Rattle.frame_core.specs.Task.{Task, Refuses, IsWithin}
use Rattle.frame_core.specs.Views.{refusal_value}
use Rattle.cmd_recheck.specs.declared.job.Reading.{Reading}
use Rattle.cmd_recheck.specs.declared.job.Reading.TheVariants.{Refused}
use Rattle.cmd_recheck.specs.Keeping.{Keeps}

-- bytes, no more than are read, are refused with this
abbrev pub IsRefusedSo : Task → ℕ → Refusal → List ℕ → Type 0
IsRefusedSo task most refusal bytes = length bytes ≤ most → Refuses task bytes (refusal_value refusal)

-- a fault that was kept is that of every text that begins so
still : {S : Type 0} (task : Task) (most : ℕ) (stands : S → ℕ → List Line → List Line → Type 0) (kept : Reading S)
    (refusal : Refusal) (bytes : List ℕ) → kept ≡ Refused refusal → Keeps task most stands kept bytes →
    (rest : List ℕ) → IsRefusedSo task most refusal (bytes ++ rest)
still {S} task most stands kept refusal bytes same keeps = subst (λ (k : Reading S). Keeps task most stands k bytes) same keeps

-- At the end it is the fault of the bytes.
pub refused_at_last : {S : Type 0} (task : Task) (most : ℕ) (stands : S → ℕ → List Line → List Line → Type 0)
    (kept : Reading S) (refusal : Refusal) (bytes : List ℕ) → kept ≡ Refused refusal →
    Keeps task most stands kept bytes → IsRefusedSo task most refusal bytes
refused_at_last {S} task most stands kept refusal bytes same keeps =
    subst (IsRefusedSo task most refusal) (append-nil bytes) (still task most stands kept refusal bytes same keeps [])

pub is_within : (reads : Option ℕ) (most : ℕ) (bytes : List ℕ) → reads ≡ Some most → IsWithin reads bytes → length bytes ≤ most
is_within reads most bytes is within = subst (λ (r : Option ℕ). IsWithin r bytes) is within
