-- Two parts of a round one after another, and the attempt at one candidate: it has no shorter chain,
-- stays undecided, or changed the net.
use Rattle.std.specs.Prelude.{◌≡◌, ℕ, ◌+◌, ◌≤◌, ◌<◌, Bool, true, false, Option, Some, List, [], ◌∷◌, ◌++◌, length, Contains, ◌⊎◌, refl}
use Rattle.std.proofs.Common.{arith, sym, ◌∙◌, subst, inl, inr, ⊎_elim}
use Rattle.std.proofs.lemmas.Bool.{cases_Bool, both_ways}
use Rattle.std.proofs.lemmas.List.{map-append}
use Rattle.std.proofs.lemmas.List.Elements.{All-push, Contains-append_left, Contains-push}
use Rattle.net_theory.specs.Net.{Net, end_of}
use Rattle.op_basis.specs.Basis.{members}
use Rattle.settings.specs.declared.improve.ImproveSettings.{ImproveSettings}
use Rattle.window_theory.specs.Nodes.{among}
use Rattle.window_theory.specs.NodeLaws.{among_cases}
use Rattle.window_theory.specs.Paths.{IsGate}
use Rattle.window_theory.specs.Partner.{IsPartner}
use Rattle.window_theory.specs.Window.{Window, IsGreatestCandidate, AreTaken, IsPartnerOrNone, IsWindow}
use Rattle.window_theory.specs.WindowLaws as windows
use Rattle.improve_theory.specs.declared.candidate.WindowCandidate.{WindowCandidate}
use Rattle.resyn_core.specs.declared.attempts.Attempted.TheVariants.{NoGain, Accepted}
use Rattle.improve_theory.specs.Leading.{IsReplacement}
use Rattle.improve_theory.specs.LeadingLaws.{replaces_itself, replaces_on}
use Rattle.improve_theory.specs.Changes.{HasChanged}
use Rattle.improve_theory.specs.ChangesLaws.{no_larger_itself, changed_from, changed_then}
use Rattle.improve_theory.specs.Undecided.{Undecided, candidate_of, candidates, IsUndecided}
use Rattle.improve_theory.specs.Candidates.{IsThis, IsAttemptedBefore}
use Rattle.resyn_core.specs.Outcomes.{IsDone, IsAttempted}
use Rattle.resyn_core.specs.OrderLaws.{adds_none, adds_one, adds_on, adds_as}
use Rattle.resyn_core.specs.Resynthesized.{Round, LoopState, loop_state, basis_of, IsResynthesized}

-- ---- gates

pub gate_there : (n : Net) (p : ℕ) → n.sources + 1 ≤ p → p < end_of n → IsGate n p
gate_there n p low high = windows.gate_at n p low high

pub gate_low : (n : Net) (p : ℕ) → p < n.sources + 1 → IsGate n p → ⊥
gate_low n p low gate = omega (arith, low, (windows.gate_high n p gate).0)

pub gate_high : (n : Net) (p : ℕ) → end_of n ≤ p → IsGate n p → ⊥
gate_high n p high gate = omega (arith, high, (windows.gate_high n p gate).1)

-- ---- candidates without a shorter chain

done_same : (s : ImproveSettings) (n m : Net) (v : WindowCandidate) → m ≡ n → IsDone s n v → IsDone s m v
done_same s n m v same is = subst (λ (x : Net). IsDone s x v) (sym same) is

-- a root that is no gate
pub no_gate : (s : ImproveSettings) (n : Net) (v : WindowCandidate) → (IsGate n v.root → ⊥) → IsDone s n v
no_gate s n v none = record { done = λ gate partner. absurd (none gate) }

partner_of : (n : Net) (v : WindowCandidate) (h : ℕ) → v.partner ≡ Some h → IsPartnerOrNone n v.root v.partner → IsPartner n v.root h
partner_of n v h e is = subst (λ (o : Option ℕ). IsPartnerOrNone n v.root o) e is

-- a partner that is no partner
pub no_partner : (s : ImproveSettings) (n : Net) (v : WindowCandidate) (h : ℕ) → v.partner ≡ Some h → (IsGate n v.root → IsPartner n v.root h → ⊥) → IsDone s n v
no_partner s n v h e none = record { done = λ gate partner. absurd (none gate (partner_of n v h e partner)) }

pub partner_low : (n : Net) (g h : ℕ) → IsPartner n g h → h < g
partner_low n g h is = (is.are.share h is.one).below

-- A single gate can't be both root and partner.
one_taken : (n : Net) (root h t : ℕ) → h < root → IsGate n root → IsGreatestCandidate n root (Some h) [] t → among (t ∷ []) h ≡ true → ⊥
one_taken n root h t low gate greatest on =
    let top : root ≤ t = greatest.greatest root (record { gate = gate; outside = refl; why = inl (inl refl) }) in
    ⊎_elim
    (λ (same : h ≡ t). omega (arith, same, top, low))
    (λ (later : among [] h ≡ true). absurd (let e : false ≡ true = later in cc))
    (among_cases t h [] on)

taken_alone : (n : Net) (root h : ℕ) (taken : List ℕ) → h < root → IsGate n root → AreTaken n root (Some h) taken → length taken ≡ 1 → among taken h ≡ true → ⊥
unfolding AreTaken
taken_alone n root h [] low gate are one on = absurd (omega arith)
taken_alone n root h (t ∷ []) low gate are one on = one_taken n root h t low gate are.0 on
taken_alone n root h (t ∷ u ∷ rest) low gate are one on = absurd (omega arith)

window_alone : (n : Net) (root h : ℕ) (w : Window) → h < root → IsGate n root → IsWindow n root (Some h) 1 w → ⊥
window_alone n root h w low gate is = taken_alone n root h is.takes.taken low gate is.takes.are is.takes.count_is (is.takes.gates_are.only h is.has_partner)

abbrev IsWindowOf : Net → ℕ → Window → Option ℕ → ℕ → Type 0
IsWindowOf n root w partner count = IsWindow n root partner count w

pub one_alone : (s : ImproveSettings) (n : Net) (v : WindowCandidate) (h : ℕ) → v.partner ≡ Some h → v.count ≡ 1 → IsDone s n v
one_alone s n v h e one = record {
  done = λ gate partner. record {
    least = λ w is. absurd (window_alone n v.root h w (partner_low n v.root h (partner_of n v h e partner)) gate
        (subst (λ (o : Option ℕ). IsWindowOf n v.root w o 1) e
        (subst (λ (k : ℕ). IsWindowOf n v.root w v.partner k) one is)));
  };
}

-- ---- parts of a round

-- Without candidates nothing happens.
pub resynthesized_none : (P : WindowCandidate → Type 0) (a : LoopState) → ((v : WindowCandidate) → P v → IsDone a.settings a.net v) → IsResynthesized P a a
resynthesized_none P a none =
    record {
      asked = refl;
      replaces = replaces_itself (basis_of a) a.net;
      no_more = omega arith;
      was = λ e. e;
      same = λ e. refl;
      kept = λ e v has. has;
      done = λ e v is. inr (none v is);
      adds = λ e. adds_none P a.round.named;
      sound = λ e are. are;
      fewer_gates = λ off on. absurd (both_ways a.round.changed off on);
      changed = λ off on. absurd (both_ways a.round.changed off on);
    }

-- One part after another.
pub resynthesized_on : (P Q R : WindowCandidate → Type 0) (a b c : LoopState)
    → IsResynthesized P a b
    → IsResynthesized Q b c
    → (c.round.changed ≡ false → c.net ≡ b.net → (v : WindowCandidate) → R v → (P v ⊎ Q v) ⊎ IsDone c.settings c.net v)
    → ((v : WindowCandidate) → P v → R v)
    → ((v : WindowCandidate) → Q v → R v)
    → ((v w : WindowCandidate) → P v → Q w → IsAttemptedBefore v w)
    → IsResynthesized R a c
resynthesized_on P Q R a b c first second covers p_in q_in before =
    record {
      asked = second.asked ∙ first.asked;
      replaces = replaces_on (basis_of a) a.net b.net c.net first.replaces (subst (λ (s : ImproveSettings). IsReplacement (members s.basis) b.net c.net) first.asked second.replaces);
      no_more = omega (arith, first.no_more, second.no_more);
      was = λ off. first.was (second.was off);
      same = λ off. second.same off ∙ first.same (second.was off);
      kept = λ off v has. second.kept off v (first.kept (second.was off) v has);
      done = λ off v is. ⊎_elim
          (λ made. ⊎_elim
          (λ p. ⊎_elim
          (λ named. inl (second.kept off v named))
          (λ done. inr (done_same c.settings b.net c.net v (second.same off) (subst (λ (s : ImproveSettings). IsDone s b.net v) (sym second.asked) done)))
          (first.done (second.was off) v p))
          (λ q. second.done off v q)
          made)
          (λ done. inr done)
          (covers off (second.same off) v is);
      adds = λ off. adds_on P Q R a.round.named b.round.named c.round.named (first.adds (second.was off)) (second.adds off) p_in q_in before;
      sound = λ off are. second.sound off (first.sound (second.was off) are);
      fewer_gates = λ off on. ⊎_elim
          (λ (earlier : b.round.changed ≡ true). let less : length b.net.gates < length a.net.gates = first.fewer_gates off earlier in omega (arith, less, second.no_more))
          (λ (still : b.round.changed ≡ false). let less : length c.net.gates < length b.net.gates = second.fewer_gates still on in omega (arith, less, first.no_more))
          (cases_Bool b.round.changed);
      changed = λ off on. ⊎_elim
          (λ (earlier : b.round.changed ≡ true). changed_then a.settings a.net b.net c.net (first.changed off earlier)
          (record {
            replaces = subst (λ (s : ImproveSettings). IsReplacement (members s.basis) b.net c.net) first.asked second.replaces;
            no_more = second.no_more;
          }))
          (λ (still : b.round.changed ≡ false). changed_from a.settings a.net b.net c.net
          (record { replaces = first.replaces; no_more = first.no_more })
          (subst (λ (s : ImproveSettings). HasChanged s b.net c.net) first.asked (second.changed still on)))
          (cases_Bool b.round.changed);
    }

-- Fewer candidates, or more that have no shorter chain anyway.
pub resynthesized_as : (P R : WindowCandidate → Type 0) (a b : LoopState) → IsResynthesized P a b →
    ((v : WindowCandidate) → R v → P v ⊎ IsDone b.settings b.net v) → ((v : WindowCandidate) → P v → R v) → IsResynthesized R a b
resynthesized_as P R a b resynthesized covers p_in =
    record {
      asked = resynthesized.asked;
      replaces = resynthesized.replaces;
      no_more = resynthesized.no_more;
      was = resynthesized.was;
      same = resynthesized.same;
      kept = resynthesized.kept;
      done = λ off v is. ⊎_elim (λ p. resynthesized.done off v p) (λ done. inr done) (covers v is);
      adds = λ off. adds_as P R a.round.named b.round.named (resynthesized.adds off) p_in;
      sound = resynthesized.sound;
      fewer_gates = resynthesized.fewer_gates;
      changed = resynthesized.changed;
    }

-- ---- one candidate

this_done : (s : ImproveSettings) (n : Net) (v x : WindowCandidate) → IsDone s n v → IsThis v x → IsDone s n x
this_done s n v x is e = subst (λ (y : WindowCandidate). IsDone s n y) (sym e) is

pub resynthesized_gone : (s : ImproveSettings) (n : Net) (r : Round) (v : WindowCandidate) → (IsGate n v.root → ⊥) → IsResynthesized (IsThis v) (loop_state s n r) (loop_state s n r)
resynthesized_gone s n r v none = resynthesized_none (IsThis v) (loop_state s n r) (λ x is. this_done s n v x (no_gate s n v none) is)

pub resynthesized_no_gain : (s t : ImproveSettings) (n m : Net) (r : Round) (v : WindowCandidate) → t ≡ s →
    IsAttempted s n m v NoGain → IsResynthesized (IsThis v) (loop_state s n r) (loop_state t m r)
resynthesized_no_gain s t n m r v asked attempted =
    subst (λ (u : ImproveSettings). IsResynthesized (IsThis v) (loop_state s n r) (loop_state u m r)) (sym asked)
    (subst (λ (x : Net). IsResynthesized (IsThis v) (loop_state s n r) (loop_state s x r)) (sym attempted.0)
    (resynthesized_none (IsThis v) (loop_state s n r) (λ x is. this_done s n v x attempted.1 is)))

abbrev left_open : Round → Undecided → Round
left_open r u = record { changed = r.changed; named = r.named ++ u ∷ [] }

named_more : (named : List Undecided) (u : Undecided) (v : WindowCandidate) → Contains (candidates named) v → Contains (candidates (named ++ u ∷ [])) v
named_more named u v has = subst (λ (vs : List WindowCandidate). Contains vs v) (sym (map-append candidate_of named (u ∷ []))) (Contains-append_left (candidates named) (u.candidate ∷ []) v has)

named_last : (named : List Undecided) (u : Undecided) → Contains (candidates (named ++ u ∷ [])) u.candidate
named_last named u = subst (λ (vs : List WindowCandidate). Contains vs u.candidate) (sym (map-append candidate_of named (u ∷ []))) (Contains-push (candidates named) u.candidate)

resynthesized_named : (s : ImproveSettings) (n : Net) (r : Round) (u : Undecided) → IsUndecided n s u → IsResynthesized (IsThis u.candidate) (loop_state s n r) (loop_state s n (left_open r u))
resynthesized_named s n r u is =
    record {
      asked = refl;
      replaces = replaces_itself (members s.basis) n;
      no_more = omega arith;
      was = λ e. e;
      same = λ e. refl;
      kept = λ e v has. named_more r.named u v has;
      done = λ e v same. inl (subst (λ (x : WindowCandidate). Contains (candidates (r.named ++ u ∷ [])) x) (sym same) (named_last r.named u));
      adds = λ e. adds_one (IsThis u.candidate) r.named u refl;
      sound = λ e are. All-push (IsUndecided n s) r.named u are is;
      fewer_gates = λ off on. absurd (both_ways r.changed off on);
      changed = λ off on. absurd (both_ways r.changed off on);
    }

pub resynthesized_open : (s t : ImproveSettings) (n m : Net) (r : Round) (changed : Bool)
    (before after : List Undecided) (u : Undecided) → t ≡ s → m ≡ n → IsUndecided n s u →
    r ≡ record { changed = changed; named = before } → after ≡ before ++ u ∷ [] →
    IsResynthesized (IsThis u.candidate) (loop_state s n r)
    (loop_state t m (record { changed = changed; named = after }))
resynthesized_open s t n m r changed before after u asked same is e more =
    subst (λ (x : ImproveSettings). IsResynthesized (IsThis u.candidate) (loop_state s n r) (loop_state x m (record { changed = changed; named = after }))) (sym asked)
    (subst (λ (x : Net). IsResynthesized (IsThis u.candidate) (loop_state s n r) (loop_state s x (record { changed = changed; named = after }))) (sym same)
    (subst (λ (us : List Undecided). IsResynthesized (IsThis u.candidate) (loop_state s n r) (loop_state s n (record { changed = changed; named = us }))) (sym more)
    (subst (λ (x : Round). IsResynthesized (IsThis u.candidate) (loop_state s n x) (loop_state s n (left_open (record { changed = changed; named = before }) u))) (sym e)
    (resynthesized_named s n (record { changed = changed; named = before }) u is))))

never : (b : Bool) → b ≡ true → b ≡ false → ⊥
never b on off = both_ways b off on

-- If the round had changed the net before, nothing is named.
pub resynthesized_late : (P : WindowCandidate → Type 0) (s t : ImproveSettings) (n m : Net) (r : Round) → t ≡ s → m ≡ n → r.changed ≡ true → IsResynthesized P (loop_state s n r) (loop_state t m r)
resynthesized_late P s t n m r asked same on =
    record {
      asked = asked;
      replaces = subst (λ (x : Net). IsReplacement (members s.basis) n x) (sym same) (replaces_itself (members s.basis) n);
      no_more = subst (λ (x : Net). length x.gates ≤ length n.gates) (sym same) (omega arith);
      was = λ off. absurd (never r.changed on off);
      same = λ off. same;
      kept = λ off. absurd (never r.changed on off);
      done = λ off. absurd (never r.changed on off);
      adds = λ off. absurd (never r.changed on off);
      sound = λ off. absurd (never r.changed on off);
      fewer_gates = λ off. absurd (never r.changed on off);
      changed = λ off. absurd (never r.changed on off);
    }

pub resynthesized_accepted : (P : WindowCandidate → Type 0) (s t : ImproveSettings) (n m : Net) (r q : Round)
    (v : WindowCandidate) → t ≡ s → IsAttempted s n m v Accepted → q.changed ≡ true →
    IsResynthesized P (loop_state s n r) (loop_state t m q)
resynthesized_accepted P s t n m r q v asked gain on =
    record {
      asked = asked;
      replaces = gain.replaces;
      no_more = omega (arith, gain.fewer);
      was = λ off. absurd (never q.changed on off);
      same = λ off. absurd (never q.changed on off);
      kept = λ off. absurd (never q.changed on off);
      done = λ off. absurd (never q.changed on off);
      adds = λ off. absurd (never q.changed on off);
      sound = λ off. absurd (never q.changed on off);
      fewer_gates = λ was now. gain.fewer;
      changed = λ was now. record {
        before = n;
        first = no_larger_itself s n;
        candidate = v;
        after = m;
        gain = gain;
        last = no_larger_itself s m;
      };
    }
