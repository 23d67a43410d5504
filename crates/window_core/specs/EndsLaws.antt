-- How the inputs of some gates are gathered.
use Rattle.std.specs.Prelude.{◌≡◌, ℕ, true, false, List, [], ◌∷◌, length, ◌⊎◌, refl}
use Rattle.std.proofs.Common.{arith, sym, ◌∙◌, ap, subst, inl, inr, ⊎_elim}
use Rattle.std.proofs.lemmas.Bool.{cond_both, both_ways}
use Rattle.net_theory.specs.declared.data.Sig.{Sig}
use Rattle.net_theory.specs.declared.data.Sig.TheVariants as sigs
use Rattle.net_theory.specs.declared.data.Gate.{Gate}
use Rattle.net_theory.specs.Net.{Net}
use Rattle.net_theory.specs.Reach.{ReadsNode}
use Rattle.window_theory.specs.Nodes.{among, IsRising, AreJust}
use Rattle.window_theory.specs.NodeLaws.{among_cases, among_first, among_later}
use Rattle.window_theory.specs.Paths.{Reads}
use Rattle.window_theory.specs.Window.{IsInput}
use Rattle.window_core.specs.Gates.{IsGateOf}
use Rattle.window_core.specs.Rising.{put, put_outside}
use Rattle.window_core.specs.Ends.{AreFound}
use Rattle.window_core.specs.GrowingLaws.{of_reads, reads_of}
use Rattle.window_core.specs.RisingLaws.{put_rising, put_own, put_only, put_kept}

-- ---- one signal

-- the effect of putting in a signal
record IsInputPut (gates : List ℕ) (s : Sig) (old new : List ℕ) : Type 0 where
  rising : IsRising old → IsRising new
  kept : (q : ℕ) → among old q ≡ true → among new q ≡ true
  only : (q : ℕ) → among new q ≡ true → (among old q ≡ true) ⊎ ((s ≡ sigs.Node q) × (among gates q ≡ false))
  own : (q : ℕ) → s ≡ sigs.Node q → among gates q ≡ false → among new q ≡ true

is_put : (gates : List ℕ) (s : Sig) (old : List ℕ) → IsInputPut gates s old (put_outside gates s old)
is_put gates sigs.Zero old = record { rising = λ r. r; kept = λ q e. e; only = λ q e. inl e; own = λ q e out. absurd cc }
is_put gates sigs.One old = record { rising = λ r. r; kept = λ q e. e; only = λ q e. inl e; own = λ q e out. absurd cc }
is_put gates (sigs.Node p) old =
    cond_both (among gates p) old (put p old) (IsInputPut gates (sigs.Node p) old)
    (λ inside. record {
      rising = λ r. r;
      kept = λ q e. e;
      only = λ q e. inl e;
      own = λ q e out. let same : p ≡ q = cc in absurd (both_ways (among gates q) out (ap (among gates) (sym same) ∙ inside));
    })
    (λ outside. record {
      rising = put_rising p old;
      kept = λ q e. put_kept p q old e;
      only = λ q e. ⊎_elim (λ (same : q ≡ p). inr (ap sigs.Node (sym same), ap (among gates) same ∙ outside)) (λ there. inl there) (put_only p q old e);
      own = λ q e out. let same : p ≡ q = cc in ap (among (put p old)) (sym same) ∙ put_own p old;
    })

pub put_outside_rising : (gates : List ℕ) (s : Sig) (old : List ℕ) → IsRising old → IsRising (put_outside gates s old)
put_outside_rising gates s old = (is_put gates s old).rising

-- ---- all gates

pub found_start : (n : Net) (gates inputs : List ℕ) → inputs ≡ [] → AreFound n gates gates inputs
unfolding IsRising
found_start n gates inputs none = subst (AreFound n gates gates) (sym none) (record {
  within = λ q e. e;
  rising = tt;
  only = λ p e. absurd (let f : false ≡ true = e in cc);
  all = λ p is. inr is.read;
})

pub found_more : (n : Net) (gates left : List ℕ) (x : ℕ) (rest : List ℕ) (g : Gate) (inputs first next : List ℕ) →
    left ≡ x ∷ rest → IsGateOf n x g → first ≡ put_outside gates g.a inputs → next ≡ put_outside gates g.b first →
    AreFound n gates left inputs → AreFound n gates rest next
found_more n gates left x rest g inputs first next parts of by_a by_b was =
    let a : IsInputPut gates g.a inputs first = subst (IsInputPut gates g.a inputs) (sym by_a) (is_put gates g.a inputs) in
    let b : IsInputPut gates g.b first next = subst (IsInputPut gates g.b first) (sym by_b) (is_put gates g.b first) in
    let here : among gates x ≡ true = was.within x (ap (λ (xs : List ℕ). among xs x) parts ∙ among_first x rest) in
    let new_input : (q : ℕ) → ReadsNode g q → among gates q ≡ false → IsInput n gates q =
    λ q reads out. record {
      outside = out;
      read = record {
        fanout = x;
        inside = here;
        reads = of_reads n x q g of reads;
      };
    } in
    record {
      within = λ q e. was.within q (ap (λ (xs : List ℕ). among xs q) parts ∙ among_later x q rest e);
      rising = b.rising (a.rising was.rising);
      only = λ p e.
          ⊎_elim
          (λ earlier. ⊎_elim (λ old. was.only p old) (λ r. new_input p (inl r.0) r.1) (a.only p earlier))
          (λ r. new_input p (inr r.0) r.1)
          (b.only p e);
      all = λ p is.
          ⊎_elim
          (λ old. inl (b.kept p (a.kept p old)))
          (λ read. ⊎_elim
          (λ (own : read.fanout ≡ x).
          let reads : ReadsNode g p = reads_of n x p g of (subst (λ (y : ℕ). Reads n y p) own read.reads) in
          ⊎_elim
          (λ first_is. inl (b.kept p (a.own p first_is is.outside)))
          (λ second_is. inl (b.own p second_is is.outside))
          reads)
          (λ later. inr (record { fanout = read.fanout; inside = later; reads = read.reads }))
          (among_cases x read.fanout rest (ap (λ (xs : List ℕ). among xs read.fanout) (sym parts) ∙ read.inside)))
          (was.all p is);
    }

no_length : (xs : List ℕ) → length xs ≡ 0 → xs ≡ []
no_length [] e = refl
no_length (x ∷ xs) e = absurd (omega (arith, e))

pub found_end : (n : Net) (gates left inputs : List ℕ) → length left ≡ 0 → AreFound n gates left inputs → AreJust (IsInput n gates) inputs
found_end n gates left inputs none was =
    record {
      rising = was.rising;
      only = was.only;
      all = λ p is. ⊎_elim (λ on. on) (λ read. absurd (let e : false ≡ true = ap (λ (xs : List ℕ). among xs read.fanout) (sym (no_length left none)) ∙ read.inside in cc)) (was.all p is);
    }
