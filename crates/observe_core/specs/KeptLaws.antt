-- Lists are filtered node by node.
use Rattle.std.specs.Prelude.{◌≡◌, ℕ, ◌<◌, true, false, List, [], ◌∷◌, ◌++◌, ◌⊎◌}
use Rattle.std.proofs.Common.{arith, sym, ◌∙◌, ap, subst, inl, inr, ⊎_elim}
use Rattle.std.proofs.lemmas.Bool.{eqb-true}
use Rattle.net_theory.specs.declared.data.Sig.{Sig}
use Rattle.net_theory.specs.declared.data.Sig.TheVariants as sigs
use Rattle.net_theory.specs.declared.data.Gate.{Gate}
use Rattle.net_theory.specs.Net.{Net}
use Rattle.net_theory.specs.Reach.{is_node}
use Rattle.window_theory.specs.Window.{IsReadBy}
use Rattle.window_core.specs.Gates.{IsGateOf}
use Rattle.window_core.specs.GrowingLaws.{of_reads}
use Rattle.window_theory.specs.Nodes.{among, IsRising}
use Rattle.window_theory.specs.NodeLaws.{among_cases, among_first, among_later}
use Rattle.window_core.specs.PartnerSearchLaws.{among_end, end_among, prefix_among, rising_end}
use Rattle.observe_core.specs.Kept.{AreFiltered, IsReadLeft}

pub kept_start : (P : ℕ → Type 0) (nodes kept : List ℕ) → IsRising nodes → kept ≡ [] → AreFiltered P nodes nodes kept
unfolding IsRising
kept_start P nodes kept rising none =
    subst (AreFiltered P nodes nodes) (sym none)
    (record {
      left_rising = rising;
      within = λ p e. e;
      rising = tt;
      below = λ p q e f. absurd (let x : false ≡ true = e in cc);
      only = λ p e. absurd (let x : false ≡ true = e in cc);
      all = λ p e is. inr e;
    })

pub kept_on : (P : ℕ → Type 0) (nodes left : List ℕ) (x : ℕ) (rest kept new : List ℕ) → left ≡ x ∷ rest → P x → new ≡ kept ++ x ∷ [] → AreFiltered P nodes left kept → AreFiltered P nodes rest new
unfolding IsRising
kept_on P nodes left x rest kept new parts is new_is was =
    let rising : IsRising (x ∷ rest) = subst IsRising parts was.left_rising in
    let at : (q : ℕ) → among (x ∷ rest) q ≡ true → among left q ≡ true = λ q e. ap (λ (xs : List ℕ). among xs q) parts ∙ e in
    subst (AreFiltered P nodes rest) (sym new_is)
    (record {
      left_rising = rising.1;
      within = λ q e. was.within q (at q (among_later x q rest e));
      rising = rising_end kept x was.rising (λ q e. was.below q x e (at x (among_first x rest)));
      below = λ p q e f. ⊎_elim (λ there. was.below p q there (at q (among_later x q rest f))) (λ (same : p ≡ x).
          let above : x < q = rising.0 q f in omega (arith, same, above)) (among_end kept x p e);
      only = λ p e. ⊎_elim (λ there. was.only p there) (λ same. (
        was.within p (at p (subst (λ (z : ℕ). among (x ∷ rest) z ≡ true) (sym same) (among_first x rest))),
        subst P (sym same) is,
      )) (among_end kept x p e);
      all = λ p there own. ⊎_elim
          (λ old. inl (prefix_among kept x p old))
          (λ here. ⊎_elim
          (λ (same : p ≡ x). inl (subst (λ (z : ℕ). among (kept ++ x ∷ []) z ≡ true) (sym same) (end_among kept x)))
          (λ later. inr later)
          (among_cases x p rest (ap (λ (xs : List ℕ). among xs p) (sym parts) ∙ here)))
          (was.all p there own);
    })

pub kept_off : (P : ℕ → Type 0) (nodes left : List ℕ) (x : ℕ) (rest kept : List ℕ) → left ≡ x ∷ rest → (P x → ⊥) → AreFiltered P nodes left kept → AreFiltered P nodes rest kept
unfolding IsRising
kept_off P nodes left x rest kept parts none was =
    let rising : IsRising (x ∷ rest) = subst IsRising parts was.left_rising in
    let at : (q : ℕ) → among (x ∷ rest) q ≡ true → among left q ≡ true = λ q e. ap (λ (xs : List ℕ). among xs q) parts ∙ e in
    record {
      left_rising = rising.1;
      within = λ q e. was.within q (at q (among_later x q rest e));
      rising = was.rising;
      below = λ p q e f. was.below p q e (at q (among_later x q rest f));
      only = was.only;
      all = λ p there own. ⊎_elim
          (λ old. inl old)
          (λ here. ⊎_elim
          (λ (same : p ≡ x). absurd (none (subst P same own)))
          (λ later. inr later)
          (among_cases x p rest (ap (λ (xs : List ℕ). among xs p) (sym parts) ∙ here)))
          (was.all p there own);
    }

-- ---- searches for one node

node_is : (p : ℕ) (s : Sig) → is_node p s ≡ true → s ≡ sigs.Node p
node_is p sigs.Zero e = absurd (let f : false ≡ true = e in cc)
node_is p sigs.One e = absurd (let f : false ≡ true = e in cc)
node_is p (sigs.Node q) e = ap sigs.Node (eqb-true q p e)

pub read_here : (n : Net) (gates left : List ℕ) (x : ℕ) (rest : List ℕ) (node : ℕ) (g : Gate) → left ≡ x ∷ rest →
    IsGateOf n x g → (is_node node g.a ≡ true) ⊎ (is_node node g.b ≡ true) → IsReadLeft n gates left node →
    IsReadBy n gates node
read_here n gates left x rest node g parts of names was =
    record {
      fanout = x;
      inside = was.within x (ap (λ (xs : List ℕ). among xs x) parts ∙ among_first x rest);
      reads = of_reads n x node g of (⊎_elim (λ a. inl (node_is node g.a a)) (λ b. inr (node_is node g.b b)) names);
    }
