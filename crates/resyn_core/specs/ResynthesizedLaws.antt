-- A round put together from its attempts: the sizes of a window, the partners of a root, the roots; and
-- rounds one after another.
use Rattle.std.specs.Prelude.{◌≡◌, ℕ, ◌+◌, ◌≤◌, ◌<◌, Bool, true, false, Option, None, Some, List, [], length, All, Contains, ◌⊎◌, refl}
use Rattle.std.proofs.Common.{arith, sym, ◌∙◌, ap, subst, inl, inr, ⊎_elim}
use Rattle.std.proofs.lemmas.Bool.{cases_lt}
use Rattle.std.proofs.lemmas.Grind.{common_steps}
use Rattle.net_theory.specs.Net.{Net, end_of}
use Rattle.op_basis.specs.Basis.{members}
use Rattle.settings.specs.declared.improve.ImproveSettings.{ImproveSettings}
use Rattle.window_theory.specs.Paths.{IsGate}
use Rattle.window_theory.specs.Partner.{IsPartner}
use Rattle.window_theory.specs.WindowLaws as windows
use Rattle.improve_theory.specs.declared.candidate.WindowCandidate.{WindowCandidate}
use Rattle.improve_theory.specs.Leading.{IsReplacement}
use Rattle.improve_theory.specs.LeadingLaws.{replaces_itself, replaces_on}
use Rattle.improve_theory.specs.Changes.{IsNoLarger, HasChanged, HasChangedTimes}
use Rattle.improve_theory.specs.ChangesLaws.{no_larger_itself, times_none, times_more, times_then}
use Rattle.improve_theory.specs.Settled.{HasNoShorterChain, IsListedCandidate, IsSettled}
use Rattle.improve_theory.specs.Undecided.{Undecided, candidates, IsUndecided}
use Rattle.improve_theory.specs.Candidates.{HasNoPartner, IsGreatestPartner, IsThis, IsOfCounts, IsOfPartners, IsOfRoot, IsOfRoots, TurnsBefore, AreInOrder}
use Rattle.resyn_core.specs.OrderLaws.{adds_all, none_rise}
use Rattle.resyn_core.specs.Resynthesized.{Round, LoopState, loop_state, IsResynthesized, HasRounds}
use Rattle.resyn_core.specs.AttemptLaws.{gate_there, gate_low, gate_high, no_gate, no_partner, partner_low, one_alone}
use Rattle.resyn_core.specs.AttemptLaws.{resynthesized_none, resynthesized_on, resynthesized_as, resynthesized_gone}
use Rattle.resyn_core.specs.AttemptLaws.{resynthesized_no_gain, resynthesized_open, resynthesized_accepted}

-- ---- counts

pub counts_start : (a : LoopState) (root : ℕ) (partner : Option ℕ) (first : ℕ) → IsResynthesized (IsOfCounts root partner first first) a a
counts_start a root partner first = resynthesized_none (IsOfCounts root partner first first) a (λ v is. absurd (omega (arith, is.from, is.to)))

abbrev made : ℕ → Option ℕ → ℕ → WindowCandidate
made root partner count = record { root = root; partner = partner; count = count }

candidate_made : (v : WindowCandidate) (root : ℕ) (partner : Option ℕ) (count : ℕ) → v.root ≡ root → v.partner ≡ partner → v.count ≡ count → v ≡ made root partner count
candidate_made v root partner count a b c = ap (λ (x : ℕ). made x v.partner v.count) a ∙ ap (λ (x : Option ℕ). made root x v.count) b ∙ ap (λ (x : ℕ). made root partner x) c

made_counts : (root : ℕ) (partner : Option ℕ) (first count : ℕ) (v : WindowCandidate) → first ≤ count → v ≡ made root partner count → IsOfCounts root partner first (count + 1) v
made_counts root partner first count v from this =
    let count_is : v.count ≡ count = ap (λ (x : WindowCandidate). x.count) this in
    record { root_is = ap (λ (x : WindowCandidate). x.root) this; partner_is = ap (λ (x : WindowCandidate). x.partner) this; from = omega (arith, from, count_is); to = omega (arith, count_is) }

pub counts_more : (a b c : LoopState) (root : ℕ) (partner : Option ℕ) (first count : ℕ) → first ≤ count →
    IsResynthesized (IsOfCounts root partner first count) a b →
    IsResynthesized (IsThis (record { root = root; partner = partner; count = count })) b c →
    IsResynthesized (IsOfCounts root partner first (count + 1)) a c
counts_more a b c root partner first count from before one =
    resynthesized_on (IsOfCounts root partner first count) (IsThis (made root partner count)) (IsOfCounts root partner first (count + 1)) a b c before one
    (λ off same v is. inl (⊎_elim
    (λ (low : v.count < count). inl (record { root_is = is.root_is; partner_is = is.partner_is; from = is.from; to = low }))
    (λ (high : count ≤ v.count). inr (candidate_made v root partner count is.root_is is.partner_is (omega (arith, high, is.to))))
    (cases_lt v.count count)))
    (λ v is. record { root_is = is.root_is; partner_is = is.partner_is; from = is.from; to = omega (arith, is.to) })
    (λ v is. made_counts root partner first count v from is)
    (λ v w is this. inr (
      is.root_is ∙ sym (ap (λ (x : WindowCandidate). x.root) this),
      inr (
        is.partner_is
            ∙ sym (ap (λ (x : WindowCandidate). x.partner) this),
        let count_is : w.count ≡ count =
            ap (λ (x : WindowCandidate). x.count) this in omega (arith, is.to, count_is),
      ),
    ))

-- ---- partners

pub partners_start : (a : LoopState) (root cap : ℕ) → IsResynthesized (IsOfPartners root cap root) a a
partners_start a root cap = resynthesized_none (IsOfPartners root cap root) a
    (λ v is. no_partner a.settings a.net v is.partner is.partner_is
    (λ gate partner. omega (arith, partner_low a.net v.root is.partner partner, is.high, is.root_is)))

low_partner : (n : Net) (root below : ℕ) (v : WindowCandidate) (h : ℕ) → IsGreatestPartner n root below h → v.root ≡ root → (p : ℕ) → IsPartner n v.root p → p < below → p ≤ h
low_partner n root below v h greatest root_is p is low = greatest.greatest p (subst (λ (g : ℕ). IsPartner n g p) root_is is) low

turns_fall : (v w : WindowCandidate) (h k : ℕ) → v.partner ≡ Some h → w.partner ≡ Some k → k < h → TurnsBefore v.partner w.partner
turns_fall v w h k own other low = subst (λ (o : Option ℕ). TurnsBefore o w.partner) (sym own) (subst (λ (o : Option ℕ). TurnsBefore (Some h) o) (sym other) low)

turns_first : (v w : WindowCandidate) (k : ℕ) → v.partner ≡ None → w.partner ≡ Some k → TurnsBefore v.partner w.partner
turns_first v w k own other = subst (λ (o : Option ℕ). TurnsBefore o w.partner) (sym own) (subst (λ (o : Option ℕ). TurnsBefore None o) (sym other) tt)

partners_on : (a b c : LoopState) (root cap below partner : ℕ) → IsGreatestPartner b.net root below partner →
    IsResynthesized (IsOfPartners root cap below) a b →
    IsResynthesized (IsOfCounts root (Some partner) 2 (cap + 1)) b c →
    IsResynthesized (IsOfPartners root cap partner) a c
partners_on a b c root cap below partner greatest before counts =
    resynthesized_on (IsOfPartners root cap below) (IsOfCounts root (Some partner) 2 (cap + 1)) (IsOfPartners root cap partner) a b c before counts
    (λ off same v is. ⊎_elim
    (λ (low : is.partner < below). ⊎_elim
    (λ (own : is.partner < partner + 1).
    let here : is.partner ≡ partner = omega (arith, own, is.high) in
    let partner_is : v.partner ≡ Some partner = is.partner_is ∙ ap Some here in
    ⊎_elim
    (λ (one : v.count < 2). inr (one_alone c.settings c.net v partner partner_is (omega (arith, one, is.some))))
    (λ (more : 2 ≤ v.count). inl (inr (record { root_is = is.root_is; partner_is = partner_is; from = more; to = omega (arith, is.to) })))
    (cases_lt v.count 2))
    (λ (above : partner + 1 ≤ is.partner). inr (no_partner c.settings c.net v is.partner is.partner_is
    (λ gate p. let most : is.partner ≤ partner = low_partner b.net root below v partner greatest is.root_is is.partner
    (subst (λ (n : Net). IsPartner n v.root is.partner) same p) low in omega (arith, most, above))))
    (cases_lt is.partner (partner + 1)))
    (λ (high : below ≤ is.partner). inl (inl (record { root_is = is.root_is; partner = is.partner; partner_is = is.partner_is; high = high; some = is.some; to = is.to })))
    (cases_lt is.partner below))
    (λ v is. record { root_is = is.root_is; partner = is.partner; partner_is = is.partner_is; high = omega (arith, is.high, greatest.low); some = is.some; to = is.to })
    (λ v is. record { root_is = is.root_is; partner = partner; partner_is = is.partner_is; high = omega arith; some = omega (arith, is.from); to = omega (arith, is.to) })
    (λ v w is other. inr (is.root_is ∙ sym other.root_is, inl (turns_fall v w is.partner partner is.partner_is other.partner_is (omega (arith, is.high, greatest.low)))))

pub partners_more : (a b c : LoopState) (root below partner : ℕ) → IsGreatestPartner b.net root below partner →
    IsResynthesized (IsOfPartners root a.settings.cap below) a b →
    IsResynthesized (IsOfCounts root (Some partner) 2 (b.settings.cap + 1)) b c →
    IsResynthesized (IsOfPartners root a.settings.cap partner) a c
partners_more a b c root below partner greatest before counts =
    partners_on a b c root a.settings.cap below partner greatest before (subst (λ (s : ImproveSettings). IsResynthesized (IsOfCounts root (Some partner) 2 (s.cap + 1)) b c) before.asked counts)

pub partners_end : (a b : LoopState) (root cap below : ℕ) → HasNoPartner b.net root below → IsResynthesized (IsOfPartners root cap below) a b → IsResynthesized (IsOfPartners root cap 0) a b
partners_end a b root cap below none before =
    resynthesized_as (IsOfPartners root cap below) (IsOfPartners root cap 0) a b before
    (λ v is. ⊎_elim
    (λ (low : is.partner < below). inr (no_partner b.settings b.net v is.partner is.partner_is
    (λ gate p. none.none is.partner (subst (λ (g : ℕ). IsGate b.net g) is.root_is gate) (subst (λ (g : ℕ). IsPartner b.net g is.partner) is.root_is p) low)))
    (λ (high : below ≤ is.partner). inl (record { root_is = is.root_is; partner = is.partner; partner_is = is.partner_is; high = high; some = is.some; to = is.to }))
    (cases_lt is.partner below))
    (λ v is. record { root_is = is.root_is; partner = is.partner; partner_is = is.partner_is; high = omega arith; some = is.some; to = is.to })

-- ---- roots

option_cases : (o : Option ℕ) → (o ≡ None) ⊎ ((h : ℕ) × (o ≡ Some h))
option_cases None = inl refl
option_cases (Some h) = inr (h, refl)

root_on : (a b c : LoopState) (root cap : ℕ) → IsResynthesized (IsOfCounts root None 1 (cap + 1)) a b → IsResynthesized (IsOfPartners root cap 0) b c → IsResynthesized (IsOfRoot root cap) a c
root_on a b c root cap first second =
    resynthesized_on (IsOfCounts root None 1 (cap + 1)) (IsOfPartners root cap 0) (IsOfRoot root cap) a b c first second
    (λ off same v is. inl (⊎_elim
    (λ alone. inl (record { root_is = is.root_is; partner_is = alone; from = is.some; to = omega (arith, is.to) }))
    (λ with_one. inr (record { root_is = is.root_is; partner = with_one.0; partner_is = with_one.1; high = omega arith; some = is.some; to = is.to }))
    (option_cases v.partner)))
    (λ v is. record { root_is = is.root_is; some = is.from; to = omega (arith, is.to) })
    (λ v is. record { root_is = is.root_is; some = is.some; to = is.to })
    (λ v w is other. inr (is.root_is ∙ sym other.root_is, inl (turns_first v w other.partner is.partner_is other.partner_is)))

pub root_made : (a b c : LoopState) (root : ℕ) → IsResynthesized (IsOfCounts root None 1 (a.settings.cap + 1)) a b →
    IsResynthesized (IsOfPartners root b.settings.cap 0) b c → IsResynthesized (IsOfRoot root a.settings.cap) a c
root_made a b c root first second = root_on a b c root a.settings.cap first (subst (λ (s : ImproveSettings). IsResynthesized (IsOfPartners root s.cap 0) b c) first.asked second)

pub roots_start : (a : LoopState) (cap first : ℕ) → first ≡ a.net.sources + 1 → IsResynthesized (IsOfRoots cap first) a a
roots_start a cap first e = resynthesized_none (IsOfRoots cap first) a (λ v is. no_gate a.settings a.net v (gate_low a.net v.root (omega (arith, is.root_low, e))))

roots_on : (a b c : LoopState) (cap root : ℕ) → IsResynthesized (IsOfRoots cap root) a b → IsResynthesized (IsOfRoot root cap) b c → IsResynthesized (IsOfRoots cap (root + 1)) a c
roots_on a b c cap root before one =
    resynthesized_on (IsOfRoots cap root) (IsOfRoot root cap) (IsOfRoots cap (root + 1)) a b c before one
    (λ off same v is. inl (⊎_elim
    (λ (low : v.root < root). inl (record { root_low = low; some = is.some; to = is.to }))
    (λ (high : root ≤ v.root). inr (record { root_is = omega (arith, high, is.root_low); some = is.some; to = is.to }))
    (cases_lt v.root root)))
    (λ v is. record { root_low = omega (arith, is.root_low); some = is.some; to = is.to })
    (λ v is. record { root_low = omega (arith, is.root_is); some = is.some; to = is.to })
    (λ v w is other. inl (omega (arith, is.root_low, other.root_is)))

pub roots_more : (a b c : LoopState) (root : ℕ) → IsResynthesized (IsOfRoots a.settings.cap root) a b →
    IsResynthesized (IsOfRoot root b.settings.cap) b c → IsResynthesized (IsOfRoots a.settings.cap (root + 1)) a c
roots_more a b c root before one = roots_on a b c a.settings.cap root before (subst (λ (s : ImproveSettings). IsResynthesized (IsOfRoot root s.cap) b c) before.asked one)

pub roots_end : (a b : LoopState) (cap root end : ℕ) → root ≡ end → IsResynthesized (IsOfRoots cap root) a b → IsResynthesized (IsOfRoots cap end) a b
roots_end a b cap root end same resynthesized = subst (λ (k : ℕ). IsResynthesized (IsOfRoots cap k) a b) same resynthesized

-- ---- rounds

pub rounds_start : (s : ImproveSettings) (n : Net) → HasRounds 0 s s n n
rounds_start s n = record {
  asked = refl;
  replaces = replaces_itself (members s.basis) n;
  fewer = omega arith;
  changes = times_none s n n (no_larger_itself s n);
}

-- merged gates between two rounds
pub rounds_merged : (rounds : ℕ) (s t u : ImproveSettings) (n m k : Net) → HasRounds rounds s t n m → u ≡ t →
    IsNoLarger t m k → HasRounds rounds s u n k
rounds_merged rounds s t u n m k has same merged =
    let last : IsNoLarger s m k = subst (λ (x : ImproveSettings). IsNoLarger x m k) has.asked merged in
    record {
      asked = same ∙ has.asked;
      replaces = replaces_on (members s.basis) n m k has.replaces last.replaces;
      fewer = omega (arith, has.fewer, last.no_more);
      changes = times_then rounds s n m k has.changes last;
    }

pub rounds_more : (P : WindowCandidate → Type 0) (rounds : ℕ) (s t u : ImproveSettings) (n m k : Net) (r q : Round) →
    HasRounds rounds s t n m → r.changed ≡ false → IsResynthesized P (loop_state t m r) (loop_state u k q) →
    q.changed ≡ true → HasRounds (rounds + 1) s u n k
rounds_more P rounds s t u n m k r q has off resynthesized on =
    let less : length k.gates < length m.gates = resynthesized.fewer_gates off on in
    record {
      asked = resynthesized.asked ∙ has.asked;
      replaces = replaces_on (members s.basis) n m k has.replaces (subst (λ (x : ImproveSettings). IsReplacement (members x.basis) m k) has.asked resynthesized.replaces);
      fewer = omega (arith, has.fewer, less);
      changes = subst (λ (x : ℕ). HasChangedTimes x s n k) (omega arith) (times_more rounds s n m k has.changes
          (subst (λ (x : ImproveSettings). HasChanged x m k) has.asked (resynthesized.changed off on)));
    }

-- the effect of a round that changed nothing
pub rounds_lead : (P : WindowCandidate → Type 0) (rounds : ℕ) (s t u : ImproveSettings) (n m k : Net) (r q : Round) →
    HasRounds rounds s t n m → IsResynthesized P (loop_state t m r) (loop_state u k q) →
    IsReplacement (members s.basis) n k
rounds_lead P rounds s t u n m k r q has resynthesized =
    replaces_on (members s.basis) n m k has.replaces
    (subst (λ (x : ImproveSettings). IsReplacement (members x.basis) m k) has.asked resynthesized.replaces)

settled_at : (t u : ImproveSettings) (m k : Net) (r q : Round) →
    IsResynthesized (IsOfRoots t.cap (end_of m)) (loop_state t m r) (loop_state u k q) → q.changed ≡ false →
    (v : WindowCandidate) → IsListedCandidate k t.cap v → Contains (candidates q.named) v ⊎ HasNoShorterChain t k v
settled_at t u m k r q resynthesized off v is =
    let root_low : v.root < end_of m = subst (λ (x : Net). v.root < end_of x) (resynthesized.same off) (windows.gate_high k v.root is.root).1 in
    ⊎_elim
    (λ named. inl named)
    (λ done. inr (subst (λ (x : ImproveSettings). HasNoShorterChain x k v) resynthesized.asked (done.done is.root is.partner)))
    (resynthesized.done off v (record { root_low = root_low; some = is.from; to = is.to }))

pub rounds_settle : (rounds : ℕ) (s t u : ImproveSettings) (n m k : Net) (r q : Round) → HasRounds rounds s t n m →
    IsResynthesized (IsOfRoots t.cap (end_of m)) (loop_state t m r) (loop_state u k q) → q.changed ≡ false →
    IsSettled s k (candidates q.named)
rounds_settle rounds s t u n m k r q has resynthesized off =
    subst (λ (x : ImproveSettings). IsSettled x k (candidates q.named)) has.asked (record { each = settled_at t u m k r q resynthesized off })

none_named : (n : Net) (s : ImproveSettings) (named : List Undecided) → named ≡ [] → All (IsUndecided n s) named
none_named n s named e = subst (λ (us : List Undecided). All (IsUndecided n s) us) (sym e) (λ k d low. absurd (omega (arith, low)))

pub rounds_name : (rounds : ℕ) (s t u : ImproveSettings) (n m k : Net) (r q : Round) → HasRounds rounds s t n m →
    r.named ≡ [] → IsResynthesized (IsOfRoots t.cap (end_of m)) (loop_state t m r) (loop_state u k q) →
    q.changed ≡ false → All (IsUndecided k s) q.named
rounds_name rounds s t u n m k r q has none resynthesized off =
    subst (λ (x : ImproveSettings). All (IsUndecided k x) q.named) (resynthesized.asked ∙ has.asked) (resynthesized.sound off (none_named m t r.named none))

-- the named candidates are in order
pub rounds_rise : (t u : ImproveSettings) (m k : Net) (r q : Round) → r.named ≡ [] →
    IsResynthesized (IsOfRoots t.cap (end_of m)) (loop_state t m r) (loop_state u k q) → q.changed ≡ false →
    AreInOrder (candidates q.named)
rounds_rise t u m k r q none resynthesized off = adds_all (IsOfRoots t.cap (end_of m)) r.named q.named none (resynthesized.adds off)

-- ---- rounds, by the fields of a round

parts_as : (P : WindowCandidate → Type 0) (a : LoopState) (u : ImproveSettings) (k : Net) (q : Round) (changed : Bool)
    (named : List Undecided) → record { changed = changed; named = named } ≡ q →
    IsResynthesized P a (loop_state u k q) → IsResynthesized P a
    (loop_state u k (record { changed = changed; named = named }))
parts_as P a u k q changed named e resynthesized = subst (λ (x : Round). IsResynthesized P a (loop_state u k x)) (sym e) resynthesized

pub resynthesis_more : (P : WindowCandidate → Type 0) (rounds : ℕ) (s t u : ImproveSettings) (n m k : Net) (r q : Round)
    (changed : Bool) (named : List Undecided) → HasRounds rounds s t n m → r.changed ≡ false →
    IsResynthesized P (loop_state t m r) (loop_state u k q) → record { changed = changed; named = named } ≡ q →
    changed ≡ true → HasRounds (rounds + 1) s u n k
resynthesis_more P rounds s t u n m k r q changed named has off resynthesized e on =
    rounds_more P rounds s t u n m k r (record { changed = changed; named = named }) has off
    (parts_as P (loop_state t m r) u k q changed named e resynthesized) on

pub resynthesis_settles : (rounds : ℕ) (s t u : ImproveSettings) (n m k : Net) (r q : Round) (changed : Bool)
    (named : List Undecided) → HasRounds rounds s t n m →
    IsResynthesized (IsOfRoots t.cap (end_of m)) (loop_state t m r) (loop_state u k q) →
    record { changed = changed; named = named } ≡ q → changed ≡ false → IsSettled s k (candidates named)
resynthesis_settles rounds s t u n m k r q changed named has resynthesized e off =
    rounds_settle rounds s t u n m k r (record { changed = changed; named = named }) has
    (parts_as (IsOfRoots t.cap (end_of m)) (loop_state t m r) u k q changed named e resynthesized) off

pub resynthesis_names : (rounds : ℕ) (s t u : ImproveSettings) (n m k : Net) (r q : Round) (changed : Bool)
    (named : List Undecided) → HasRounds rounds s t n m → r.named ≡ [] →
    IsResynthesized (IsOfRoots t.cap (end_of m)) (loop_state t m r) (loop_state u k q) →
    record { changed = changed; named = named } ≡ q → changed ≡ false → All (IsUndecided k s) named
resynthesis_names rounds s t u n m k r q changed named has none resynthesized e off =
    rounds_name rounds s t u n m k r (record { changed = changed; named = named }) has none
    (parts_as (IsOfRoots t.cap (end_of m)) (loop_state t m r) u k q changed named e resynthesized) off

pub resynthesis_rises : (t u : ImproveSettings) (m k : Net) (r q : Round) (changed : Bool) (named : List Undecided) →
    r.named ≡ [] → IsResynthesized (IsOfRoots t.cap (end_of m)) (loop_state t m r) (loop_state u k q) →
    record { changed = changed; named = named } ≡ q → changed ≡ false → AreInOrder (candidates named)
resynthesis_rises t u m k r q changed named none resynthesized e off =
    rounds_rise t u m k r (record { changed = changed; named = named }) none
    (parts_as (IsOfRoots t.cap (end_of m)) (loop_state t m r) u k q changed named e resynthesized) off

pub asked_cap : (s t : ImproveSettings) → t ≡ s → 1 ≤ s.cap → 1 ≤ t.cap
asked_cap s t same low = subst (λ (x : ImproveSettings). 1 ≤ x.cap) (sym same) low

pub ruleset gates = (common_steps, gate_there, gate_low, gate_high)

pub ruleset attempting = (
  common_steps,
  resynthesized_gone,
  resynthesized_no_gain,
  resynthesized_open,
  resynthesized_accepted,
  counts_start,
  counts_more,
  partners_start,
  partners_more,
  partners_end,
  root_made,
  roots_start,
  roots_more,
)

pub ruleset resynthesizing = (common_steps, rounds_start, rounds_merged, rounds_more, rounds_lead, resynthesis_more, resynthesis_settles, resynthesis_names, resynthesis_rises, none_rise, asked_cap)
