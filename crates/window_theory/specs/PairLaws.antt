-- The signals and bits of nodes that a chain's outputs replace.
use Rattle.std.specs.Prelude.{◌≡◌, ℕ, zero, suc, ◌<◌, Bool, true, false, List, [], ◌∷◌, length, map, slice_get, slice_index_or, Some, nat_eq, ◌==◌, refl}
use Rattle.std.proofs.Common.{arith, sym, ◌∙◌, ap, ⊎_elim, ◌≢◌}
use Rattle.std.proofs.lemmas.Bool.{cond-true, cond-false, eq-eqb, ne_eqb, or_left, or_parts, cases_eq, both_ways}
use Rattle.chain_theory.specs.ValueLaws.{extended-same, extended-other}
use Rattle.chain_theory.specs.declared.data.Out.{Out}
use Rattle.net_theory.specs.declared.data.Sig.{Sig}
use Rattle.window_theory.specs.Nodes.{among}
use Rattle.window_theory.specs.NodeLaws.{among_cases, among_first, among_later}
use Rattle.window_theory.specs.Substituted.{with_bits, with_sigs}

-- a node at an index of a list is in the list
pub among_at : (nodes : List ℕ) (i d : ℕ) → i < length nodes → among nodes (slice_index_or nodes i d) ≡ true
among_at [] i d low = absurd (omega arith)
among_at (p ∷ nodes) zero d low = among_first p nodes
among_at (p ∷ nodes) (suc i) d low = among_later p (slice_index_or nodes i d) nodes (among_at nodes i d (omega arith))

-- other nodes stay
pub sigs_other : (sigs : ℕ → Sig) (nodes : List ℕ) (set : List Sig) (p : ℕ) → among nodes p ≡ false → with_sigs sigs nodes set p ≡ sigs p
unfolding with_sigs
sigs_other sigs [] set p out = refl
sigs_other sigs (q ∷ nodes) [] p out = refl
sigs_other sigs (q ∷ nodes) (s ∷ set) p out =
    let other : p ≢ q = λ same. both_ways (among (q ∷ nodes) p) out (or_left (nat_eq p q) (among nodes p) (eq-eqb p q same)) in
    cond-false (p == q) s (with_sigs sigs nodes set p) (ne_eqb p q other) ∙ sigs_other sigs nodes set p (or_parts (nat_eq p q) (among nodes p) out).1

pub bits_other : (bits : ℕ → Bool) (nodes : List ℕ) (set : List Bool) (p : ℕ) → among nodes p ≡ false → with_bits bits nodes set p ≡ bits p
unfolding with_bits
bits_other bits [] set p out = refl
bits_other bits (q ∷ nodes) [] p out = refl
bits_other bits (q ∷ nodes) (b ∷ set) p out =
    let other : p ≢ q = λ same. both_ways (among (q ∷ nodes) p) out (or_left (nat_eq p q) (among nodes p) (eq-eqb p q same)) in
    extended-other (with_bits bits nodes set) q p b other ∙ bits_other bits nodes set p (or_parts (nat_eq p q) (among nodes p) out).1

-- A node of `nodes` has the signal and the bit of the output at its index.
pub record IsSet (sigs : ℕ → Sig) (bits : ℕ → Bool) (nodes : List ℕ) (outs : List Out) (sig : Out → Sig) (bit : Out → Bool) (p : ℕ) : Type 0 where
  pub index : ℕ
  pub out : Out
  pub node : slice_get nodes index ≡ Some p
  pub at : slice_get outs index ≡ Some out
  pub has_sig : with_sigs sigs nodes (map sig outs) p ≡ sig out
  pub has_bit : with_bits bits nodes (map bit outs) p ≡ bit out

pub is_set : (sigs : ℕ → Sig) (bits : ℕ → Bool) (nodes : List ℕ) (outs : List Out) (sig : Out → Sig) (bit : Out →
    Bool) (p : ℕ) → length outs ≡ length nodes → among nodes p ≡ true → IsSet sigs bits nodes outs sig bit p
unfolding with_sigs with_bits
is_set sigs bits [] outs sig bit p size on = absurd (let e : false ≡ true = on in cc)
is_set sigs bits (q ∷ nodes) [] sig bit p size on = absurd (omega arith)
is_set sigs bits (q ∷ nodes) (x ∷ outs) sig bit p size on =
    ⊎_elim
    (λ (own : p ≡ q). record {
      index = 0;
      out = x;
      node = ap Some (sym own);
      at = refl;
      has_sig = cond-true (p == q) (sig x) (with_sigs sigs nodes (map sig outs) p) (eq-eqb p q own);
      has_bit = extended-same (with_bits bits nodes (map bit outs)) q p (bit x) own;
    })
    (λ other.
    let later : among nodes p ≡ true = ⊎_elim (λ same. absurd (other same)) (λ l. l) (among_cases q p nodes on) in
    let rest : IsSet sigs bits nodes outs sig bit p = is_set sigs bits nodes outs sig bit p (omega arith) later in
    record {
      index = suc rest.index;
      out = rest.out;
      node = rest.node;
      at = rest.at;
      has_sig = cond-false (p == q) (sig x) (with_sigs sigs nodes (map sig outs) p) (ne_eqb p q other) ∙ rest.has_sig;
      has_bit = extended-other (with_bits bits nodes (map bit outs)) q p (bit x) other ∙ rest.has_bit;
    })
    (cases_eq p q)
