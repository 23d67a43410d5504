-- Lemmas on the statuses of faults of netlists.
use Rattle.std.specs.Prelude.{◌≡◌}
use Rattle.std.proofs.Common.{refl, inl, inr}
use Rattle.net_core.specs.declared.error.NetError.{NetError}
use Rattle.net_core.specs.declared.error.NetError.TheVariants as nets
use Rattle.frame_core.specs.declared.status.Status.TheVariants.{Refused}
use Rattle.cmd_lines.specs.NetLines.{net_status}
use Rattle.frame_core.specs.Task.{IsRefusalStatus}

-- every fault but running out of memory has the status of a refusal
pub status_kind : (e : NetError) → (e ≡ nets.Memory → ⊥) → IsRefusalStatus (net_status e)
status_kind (nets.Syntax line) other = inl refl
status_kind (nets.NotSupported line name) other = inl refl
status_kind (nets.MixedCover line) other = inl refl
status_kind (nets.TooWide line) other = inr (inl refl)
status_kind (nets.TooManyGates count) other = inr (inl refl)
status_kind (nets.DrivenTwice name) other = inl refl
status_kind (nets.Undriven name) other = inl refl
status_kind (nets.Cycle name) other = inl refl
status_kind (nets.LineTooLong line) other = inr (inl refl)
status_kind (nets.TooManyRows line) other = inr (inl refl)
status_kind (nets.NameTooLong line) other = inr (inl refl)
status_kind nets.Memory other = absurd (other refl)

pub not_refused : (e : NetError) → net_status e ≡ Refused → ⊥
not_refused (nets.Syntax line) is = cc
not_refused (nets.NotSupported line name) is = cc
not_refused (nets.MixedCover line) is = cc
not_refused (nets.TooWide line) is = cc
not_refused (nets.TooManyGates count) is = cc
not_refused (nets.DrivenTwice name) is = cc
not_refused (nets.Undriven name) is = cc
not_refused (nets.Cycle name) is = cc
not_refused (nets.LineTooLong line) is = cc
not_refused (nets.TooManyRows line) is = cc
not_refused (nets.NameTooLong line) is = cc
not_refused nets.Memory is = cc
