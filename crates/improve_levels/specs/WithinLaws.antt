-- Nets of few levels that take each other's place, and circuits with such nets.
use Rattle.std.specs.Prelude.{◌≡◌, ℕ, ◌≤◌, max, Option, None, Some, IfSome, unwrap_or, length, refl}
use Rattle.std.proofs.Common.{arith, sym, ◌∙◌, ap, subst}
use Rattle.std.proofs.lemmas.Grind.{common_steps}
use Rattle.chain_theory.specs.Operator.{Basis}
use Rattle.op_basis.specs.Basis.{members}
use Rattle.net_theory.specs.Cost.{cost}
use Rattle.net_theory.specs.Net.{Net, IsNet}
use Rattle.net_theory.specs.Circuit.{Circuit, IsProper}
use Rattle.net_theory.specs.ExchangeLaws.{exchanged_proper}
use Rattle.net_theory.specs.Implements.{IsCleanedUp}
use Rattle.net_theory.specs.Dangling.{cleanup}
use Rattle.net_theory.specs.DanglingLaws.{cleanup_is}
use Rattle.net_theory.specs.Operators.{HasOperatorsWithin}
use Rattle.net_levels.specs.Levels.{levels_of}
use Rattle.net_levels.specs.CleanupLaws.{cleanup_levels}
use Rattle.net_document.specs.Format.{Format}
use Rattle.net_document.specs.EquivalenceLaws.{equivalent_exchanged}
use Rattle.settings.specs.declared.improve.ImproveSettings.{ImproveSettings}
use Rattle.improve_theory.specs.Leading.{IsReplacement}
use Rattle.improve_theory.specs.LeadingLaws.{replaces_itself, replaces_on}
use Rattle.improve_windows.specs.ImprovementLaws.{cleanup_within, within_on, moved_replaces}
use Rattle.improve_levels.specs.Within.{IsWithin, IsBetterWithin}

-- m may replace n, and has at most so many levels
pub record IsFlat (basis : Basis) (limit : ℕ) (n m : Net) : Type 0 where
  pub replaces : IsReplacement basis n m
  pub levels : levels_of m ≤ limit

pub flat_itself : (basis : Basis) (limit : ℕ) (n : Net) → levels_of n ≤ limit → IsFlat basis limit n n
flat_itself basis limit n few = record { replaces = replaces_itself basis n; levels = few }

pub flat_on : (basis : Basis) (limit : ℕ) (n d m : Net) → IsFlat basis limit n d → IsFlat basis limit d m → IsFlat basis limit n m
flat_on basis limit n d m first second = record {
  replaces = replaces_on basis n d m first.replaces second.replaces;
  levels = second.levels;
}

-- what was found, or else the net itself
pub flat_found : (basis : Basis) (limit : ℕ) (n m : Net) (found : Option Net) → levels_of n ≤ limit →
    IfSome found (IsCleanedUp n) → IfSome found (HasOperatorsWithin basis n) →
    IfSome found (λ d. levels_of d ≤ limit) → m ≡ unwrap_or found n → IsFlat basis limit n m
flat_found basis limit n m None few is within low same = subst (IsFlat basis limit n) (sym same) (flat_itself basis limit n few)
flat_found basis limit n m (Some d) few is within low same =
    subst (IsFlat basis limit n) (sym same) (record { replaces = moved_replaces basis n d is within; levels = low })

-- a copy of the net in which equal gates are one, where its levels were counted
pub flat_merged : (basis : Basis) (limit count : ℕ) (n d m : Net) → d ≡ n → IsReplacement basis d m → count ≡ levels_of m → count ≤ limit → IsFlat basis limit n m
flat_merged basis limit count n d m same replaces is few = record {
  replaces = subst (λ (x : Net). IsReplacement basis x m) same replaces;
  levels = omega (arith, is, few);
}

-- a net after cleanup
pub tidy_within : (s : ImproveSettings) (most : ℕ) (n m : Net) → IsNet n → m ≡ cleanup n → IsWithin s most n m
tidy_within s most n m net same = subst (IsWithin s most n) (sym same) (record {
  cleaned_up = cleanup_is n net;
  operators = cleanup_within (members s.basis) n net;
  levels = omega (arith, cleanup_levels n net);
  untouched = λ none. refl;
})

-- and one that may replace it
pub flat_within : (s : ImproveSettings) (most limit : ℕ) (n d m : Net) → IsNet n → d ≡ cleanup n →
    limit ≡ max most (levels_of n) → (s.cap ≡ 0 → ⊥) → IsFlat (members s.basis) limit d m → IsWithin s most n m
flat_within s most limit n d m net same is some flat = record {
  cleaned_up = flat.replaces.cleaned_up n (subst (IsCleanedUp n) (sym same) (cleanup_is n net));
  operators = within_on (members s.basis) n m net (subst (λ (x : Net). HasOperatorsWithin (members s.basis) x m) same flat.replaces.operators);
  levels = subst (λ (l : ℕ). levels_of m ≤ l) is flat.levels;
  untouched = λ none. absurd (some none);
}

pub tidy_flat : (most limit : ℕ) (n d : Net) → IsNet n → d ≡ cleanup n → limit ≡ max most (levels_of n) → levels_of d ≤ limit
tidy_flat most limit n d net same is = omega (arith, ap levels_of same, cleanup_levels n net, is)

-- ---- circuits

pub within_proper : (s : ImproveSettings) (most : ℕ) (c k : Circuit) → k ≡ record c { net = k.net } → IsProper c → IsWithin s most c.net k.net → IsProper k
within_proper s most c k same is within = subst IsProper (sym same) (exchanged_proper c k.net is within.cleaned_up.implements)

better_at : (f : Format) (s : ImproveSettings) (most : ℕ) (c : Circuit) (m : Net) (before after : ℕ) → IsProper c →
    IsWithin s most c.net m → before ≡ length c.net.gates → after ≡ cost (f.written (record c { net = m })) →
    after ≤ length m.gates → IsBetterWithin f s most c (record c { net = m }) before after
better_at f s most c m before after is within before_is after_is cheap = record {
  proper = exchanged_proper c m is within.cleaned_up.implements;
  model = refl;
  equivalent = equivalent_exchanged c m within.cleaned_up.implements;
  within = within;
  before_is = before_is;
  after_is = after_is;
  fewer = omega (arith, cheap, before_is, within.cleaned_up.implements.fewer);
}

pub better_within : (f : Format) (s : ImproveSettings) (most : ℕ) (c k : Circuit) (before after : ℕ) → IsProper c →
    k ≡ record c { net = k.net } → IsWithin s most c.net k.net → before ≡ length c.net.gates →
    after ≡ cost (f.written k) → after ≤ length k.net.gates → IsBetterWithin f s most c k before after
better_within f s most c k before after is same within before_is after_is cheap =
    subst (λ (x : Circuit). IsBetterWithin f s most c x before after) (sym same)
    (better_at f s most c k.net before after is within before_is (after_is ∙ ap (λ (x : Circuit). cost (f.written x)) same) cheap)

pub ruleset limiting = (common_steps, flat_itself, flat_on, flat_found, flat_merged, tidy_within, flat_within, tidy_flat)

pub ruleset bettering = (common_steps, within_proper, better_within)
