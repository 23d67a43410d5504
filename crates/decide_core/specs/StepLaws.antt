-- What the enumeration of few steps proves about a header.
use Rattle.std.specs.Prelude.{length, IfNone, IfSome}
use Rattle.std.proofs.Common.{◌≡◌, Option, Some, None, subst}
use Rattle.chain_theory.specs.Chain.{Chain}
use Rattle.tt_core.specs.Words.{specification}
use Rattle.op_basis.specs.Basis.{members}
use Rattle.step_core.specs.LeastChains.{IsLeastChain, IsLeastAnswer}
use Rattle.cert_theory.specs.declared.data.Header.{Header}
use Rattle.decide_core.specs.Decided.{Fewer, HasNone, IsShorter}
use Rattle.decide_core.specs.DecidedLaws.{deciding}
use Rattle.decide_core.specs.CacheLaws.{judged_shorter}

short_is : (h : Header) (c : Chain) → IsLeastChain (specification h.spec) (members h.basis) h.max c → IsShorter h c
short_is h c short = judged_shorter h c short.small short.few short.over short.agrees

pub step_found : (h : Header) (o : Option Chain) (c : Chain) → IsLeastAnswer (specification h.spec) (members h.basis) h.max o → o ≡ Some c → IsShorter h c
step_found h o c is e =
    let found : IsLeastAnswer (specification h.spec) (members h.basis) h.max (Some c) = subst (IsLeastAnswer (specification h.spec) (members h.basis) h.max) e is in
    short_is h c found

pub step_least : (h : Header) (o : Option Chain) (c : Chain) → IsLeastAnswer (specification h.spec) (members h.basis) h.max o → o ≡ Some c → Fewer h (length c.steps)
step_least h o c is e = let found : IsLeastAnswer (specification h.spec) (members h.basis) h.max (Some c) = subst (IsLeastAnswer (specification h.spec) (members h.basis) h.max) e is in found.least

pub step_none : (h : Header) (o : Option Chain) → IsLeastAnswer (specification h.spec) (members h.basis) h.max o → o ≡ None → HasNone h
step_none h o is e = let none : IsLeastAnswer (specification h.spec) (members h.basis) h.max None = subst (IsLeastAnswer (specification h.spec) (members h.basis) h.max) e is in none

pub none_known : (h k : Header) (o : Option Chain) → h ≡ k → o ≡ None → IfNone o (HasNone h) → HasNone k
none_known h k o same e is = subst HasNone same (subst (λ (x : Option Chain). IfNone x (HasNone h)) e is)

pub some_known : (h k : Header) (o : Option Chain) (c : Chain) → h ≡ k → o ≡ Some c → IfSome o (λ (x : Chain). IsShorter h x) → IsShorter k c
some_known h k o c same e is =
    let found : IfSome (Some c) (λ (x : Chain). IsShorter h x) = subst (λ (p : Option Chain). IfSome p (λ (x : Chain). IsShorter h x)) e is in
    subst (λ (g : Header). IsShorter g c) same found

pub ruleset stepping = (deciding, step_found, step_none)
