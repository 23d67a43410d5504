-- Changes of a net one after another.
use Rattle.std.specs.Prelude.{ℕ, zero, suc}
use Rattle.std.proofs.Common.{arith}
use Rattle.op_basis.specs.Basis.{members}
use Rattle.net_theory.specs.Net.{Net}
use Rattle.settings.specs.declared.improve.ImproveSettings.{ImproveSettings}
use Rattle.improve_theory.specs.LeadingLaws.{replaces_itself, replaces_on}
use Rattle.improve_theory.specs.Changes.{IsNoLarger, HasChanged, HasChangedTimes}

pub no_larger_itself : (s : ImproveSettings) (n : Net) → IsNoLarger s n n
no_larger_itself s n = record { replaces = replaces_itself (members s.basis) n; no_more = omega arith }

pub no_larger_on : (s : ImproveSettings) (a b c : Net) → IsNoLarger s a b → IsNoLarger s b c → IsNoLarger s a c
no_larger_on s a b c first second = record {
  replaces = replaces_on (members s.basis) a b c first.replaces second.replaces;
  no_more = omega (arith, first.no_more, second.no_more);
}

-- What changed a net changed it also where something happened before,
pub changed_from : (s : ImproveSettings) (a b c : Net) → IsNoLarger s a b → HasChanged s b c → HasChanged s a c
changed_from s a b c first changed = record {
  before = changed.before;
  first = no_larger_on s a b changed.before first changed.first;
  candidate = changed.candidate;
  after = changed.after;
  gain = changed.gain;
  last = changed.last;
}

-- or after it.
pub changed_then : (s : ImproveSettings) (a b c : Net) → HasChanged s a b → IsNoLarger s b c → HasChanged s a c
changed_then s a b c changed last = record {
  before = changed.before;
  first = changed.first;
  candidate = changed.candidate;
  after = changed.after;
  gain = changed.gain;
  last = no_larger_on s changed.after b c changed.last last;
}

pub times_none : (s : ImproveSettings) (n m : Net) → IsNoLarger s n m → HasChangedTimes 0 s n m
unfolding HasChangedTimes
times_none s n m is = is

pub times_more : (rounds : ℕ) (s : ImproveSettings) (n m k : Net) → HasChangedTimes rounds s n m → HasChanged s m k → HasChangedTimes (suc rounds) s n k
unfolding HasChangedTimes
times_more rounds s n m k times changed = (m, times, changed)

pub times_then : (rounds : ℕ) (s : ImproveSettings) (n m k : Net) → HasChangedTimes rounds s n m → IsNoLarger s m k → HasChangedTimes rounds s n k
unfolding HasChangedTimes
times_then zero s n m k times last = no_larger_on s n m k times last
times_then (suc rounds) s n m k times last = (times.0, times.1, changed_then s times.0 m k times.2 last)

pub times_from : (rounds : ℕ) (s : ImproveSettings) (n m k : Net) → IsNoLarger s n m → HasChangedTimes rounds s m k → HasChangedTimes rounds s n k
unfolding HasChangedTimes
times_from zero s n m k first times = no_larger_on s n m k first times
times_from (suc rounds) s n m k first times = (times.0, times_from rounds s n m times.0 first times.1, times.2)
