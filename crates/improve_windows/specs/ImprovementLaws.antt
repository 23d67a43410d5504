-- Resynthesis after cleanup, and after moves over the whole net, is an improvement.
use Rattle.std.specs.Prelude.{◌≡◌, ◌+◌, ◌≤◌, Bool, true, false, Option, None, Some, IfSome, unwrap_or, List, [], length, All, refl}
use Rattle.std.proofs.Common.{arith, sym, subst, inl, inr, ⊎_elim}
use Rattle.std.proofs.lemmas.Bool.{both_ways}
use Rattle.std.proofs.lemmas.Grind.{common_steps}
use Rattle.chain_theory.specs.Operator.{Basis}
use Rattle.op_basis.specs.Basis.{members}
use Rattle.net_theory.specs.Net.{Net, IsNet}
use Rattle.net_theory.specs.Implements.{IsCleanedUp}
use Rattle.net_theory.specs.ExchangeLaws.{implements_on}
use Rattle.net_theory.specs.Dangling.{cleanup}
use Rattle.net_theory.specs.DanglingLaws.{cleanup_is, cleanup_operators}
use Rattle.settings.specs.declared.improve.ImproveSettings.{ImproveSettings}
use Rattle.improve_theory.specs.Settled.{IsSettled}
use Rattle.improve_theory.specs.Undecided.{Undecided, candidates, IsUndecided}
use Rattle.improve_theory.specs.Candidates.{AreInOrder}
use Rattle.resyn_core.specs.OrderLaws.{none_rise}
use Rattle.net_theory.specs.Operators.{HasOperatorsWithin}
use Rattle.improve_theory.specs.Leading.{IsReplacement}
use Rattle.improve_theory.specs.LeadingLaws.{replaces_itself, replaces_on}
use Rattle.improve_theory.specs.Changes.{HasChangedTimes}
use Rattle.improve_theory.specs.ChangesLaws.{times_from}
use Rattle.improve_theory.specs.Improvement.{IsResynthesisOf, IsImprovementBy}

pub cleanup_within : (basis : Basis) (n : Net) → IsNet n → HasOperatorsWithin basis n (cleanup n)
cleanup_within basis n net = record { each = λ i g at. inr (cleanup_operators n g.op net (record { index = i; gate = g; at = at; same = refl })) }

none_listed : (s : ImproveSettings) (m : Net) (named : List Undecided) → s.cap ≡ 0 → IsSettled s m (candidates named)
none_listed s m named cap = record { each = λ v is. absurd (omega (arith, is.from, is.to, cap)) }

nothing_named : (m : Net) (s : ImproveSettings) (named : List Undecided) → named ≡ [] → All (IsUndecided m s) named
nothing_named m s named e = subst (λ (us : List Undecided). All (IsUndecided m s) us) (sym e) (λ k d low. absurd (omega (arith, low)))

idle : (s : ImproveSettings) (n : Net) (named : List Undecided) → IsNet n → s.cap ≡ 0 → named ≡ [] → IsImprovementBy s n (cleanup n) true named
idle s n named net cap none =
    record {
      cleaned_up = cleanup_is n net;
      operators = cleanup_within (members s.basis) n net;
      settled_is = λ e. none_listed s (cleanup n) named cap;
      undecided_are = nothing_named (cleanup n) s named none;
      rising = none_rise named none;
      stopped = λ e. absurd (both_ways true e refl);
      rounds_changed = λ e. absurd (both_ways true e refl);
      none_named = λ e. none;
      untouched = λ e. (refl, refl);
    }

pub leaves_idle : (s : ImproveSettings) (n m : Net) (named : List Undecided) → IsNet n → s.cap ≡ 0 → m ≡ cleanup n → named ≡ [] → IsImprovementBy s n m true named
leaves_idle s n m named net cap same none = subst (λ (x : Net). IsImprovementBy s n x true named) (sym same) (idle s n named net cap none)

pub within_on : (basis : Basis) (n m : Net) → IsNet n → HasOperatorsWithin basis (cleanup n) m → HasOperatorsWithin basis n m
within_on basis n m net within = record {
  each = λ i g at. ⊎_elim
      (λ on. inl on)
      (λ has. inr (cleanup_operators n g.op net has))
      (within.each i g at);
}

-- ---- moves over the whole net

pub moved_replaces : (basis : Basis) (n m : Net) → IsCleanedUp n m → HasOperatorsWithin basis n m → IsReplacement basis n m
moved_replaces basis n m is within = record {
  cleaned_up = λ first to_n. record { implements = implements_on first n m to_n.implements is.implements; reached = is.reached };
  operators = within;
}

pub left_replaces : (basis : Basis) (n : Net) → IsReplacement basis n n
left_replaces basis n = replaces_itself basis n

pub then_replaces : (basis : Basis) (n d m : Net) → IsReplacement basis n d → IsReplacement basis d m → IsReplacement basis n m
then_replaces basis n d m first second = replaces_on basis n d m first second

-- a net that may replace n, or else n itself
pub found_replaces : (basis : Basis) (n m : Net) (found : Option Net) → IfSome found (IsReplacement basis n) → m ≡ unwrap_or found n → IsReplacement basis n m
found_replaces basis n m None replaces same = subst (IsReplacement basis n) (sym same) (replaces_itself basis n)
found_replaces basis n m (Some d) replaces same = subst (IsReplacement basis n) (sym same) replaces

-- a net without dangling gates implements itself
pub cleaned_up_itself : (n m : Net) → IsCleanedUp n m → IsCleanedUp m m
cleaned_up_itself n m is = record {
  implements = record {
    net = is.implements.net;
    sources = refl;
    sink_count = refl;
    values = λ given. refl;
    fewer = omega arith;
    still = λ i s at still. at;
    equal = λ i j d low_i low_j same. same;
  };
  reached = is.reached;
}

replaces_to_fewer : (basis : Basis) (n m : Net) → IsCleanedUp n n → IsReplacement basis n m → length m.gates ≤ length n.gates
replaces_to_fewer basis n m itself replaces = (replaces.cleaned_up n itself).implements.fewer

-- ---- resynthesis

-- resynthesis of a net that may replace n
pub resynthesizes_on : (s : ImproveSettings) (n d m : Net) (settled : Bool) (named : List Undecided) →
    IsCleanedUp n n → IsReplacement (members s.basis) n d → IsResynthesisOf s d m settled named →
    IsResynthesisOf s n m settled named
resynthesizes_on s n d m settled named itself replaces resynthesized = record {
  replaces = replaces_on (members s.basis) n d m replaces resynthesized.replaces;
  settled_is = resynthesized.settled_is;
  undecided_are = resynthesized.undecided_are;
  rising = resynthesized.rising;
  stopped = λ e. let few = replaces_to_fewer (members s.basis) n d itself replaces in let gone = resynthesized.stopped e in omega (arith, few, gone);
  rounds_changed = λ e. times_from s.rounds s n d m (record { replaces = replaces; no_more = replaces_to_fewer (members s.basis) n d itself replaces }) (resynthesized.rounds_changed e);
  none_named = resynthesized.none_named;
}

-- and of a net that may replace the result of resynthesis
pub resynthesizes_again : (s : ImproveSettings) (n d e m : Net) (before settled : Bool)
    (first named : List Undecided) → IsCleanedUp n n → IsResynthesisOf s n d before first →
    IsReplacement (members s.basis) d e → IsResynthesisOf s e m settled named → IsResynthesisOf s n m settled named
resynthesizes_again s n d e m before settled first named itself resynthesized more last =
    resynthesizes_on s n e m settled named itself (replaces_on (members s.basis) n d e resynthesized.replaces more) last

pub attempts_resynthesizes : (s t : ImproveSettings) (d e m k : Net) (settled : Bool) (named : List Undecided) →
    t ≡ s → e ≡ d → k ≡ m → IsReplacement (members t.basis) e m → (settled ≡ true → IsSettled t m (candidates named)) →
    All (IsUndecided m t) named → AreInOrder (candidates named) →
    (settled ≡ false → length m.gates + t.rounds ≤ length e.gates) →
    (settled ≡ false → HasChangedTimes t.rounds t e m) → (settled ≡ false → named ≡ []) →
    IsResynthesisOf s d k settled named
attempts_resynthesizes s t d e m k settled named settings begun last replaces settles undecided rising stops changed none =
    subst (λ (x : Net). IsResynthesisOf s d x settled named) (sym last)
    (subst (λ (x : Net). IsResynthesisOf s x m settled named) begun
    (subst (λ (x : ImproveSettings). IsResynthesisOf x e m settled named) settings
    (record { replaces = replaces; settled_is = settles; undecided_are = undecided; rising = rising; stopped = stops; rounds_changed = changed; none_named = none })))

pub leaves_resynthesized : (s : ImproveSettings) (n d m : Net) (settled : Bool) (named : List Undecided) → IsNet n →
    1 ≤ s.cap → d ≡ cleanup n → IsResynthesisOf s d m settled named → IsImprovementBy s n m settled named
leaves_resynthesized s n d m settled named net cap same resynthesized =
    record {
      cleaned_up = resynthesized.replaces.cleaned_up n (subst (IsCleanedUp n) (sym same) (cleanup_is n net));
      operators = within_on (members s.basis) n m net (subst (λ (x : Net). HasOperatorsWithin (members s.basis) x m) same resynthesized.replaces.operators);
      settled_is = resynthesized.settled_is;
      undecided_are = resynthesized.undecided_are;
      rising = resynthesized.rising;
      stopped = λ e. subst (λ (x : Net). length m.gates + s.rounds ≤ length x.gates) same (resynthesized.stopped e);
      rounds_changed = λ e. subst (λ (x : Net). HasChangedTimes s.rounds s x m) same (resynthesized.rounds_changed e);
      none_named = resynthesized.none_named;
      untouched = λ e. absurd (omega (arith, e, cap));
    }

pub ruleset improving = (common_steps, leaves_idle, moved_replaces, left_replaces, then_replaces, cleaned_up_itself, resynthesizes_on, resynthesizes_again, leaves_resynthesized)
