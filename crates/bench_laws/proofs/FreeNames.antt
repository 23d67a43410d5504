-- The names of a writable circuit contain no marks.
use Rattle.std.proofs.Common.{◌≡◌, ℕ, zero, suc, ◌+◌, ◌<◌, ◌≤◌, ◌^◌, ◌%◌, Bool, true, false, List, [], ◌∷◌, ◌++◌, map, Option, Some, None, refl, subst, arith}
use Rattle.std.specs.Prelude.{◌==◌, ◌||◌, ◌-◌, not, nat_le, slice_index_or, All}
use Rattle.std.specs.List.{list_any, range_with_len}
use Rattle.std.proofs.lemmas.Bool.{cond_both, or_from, ne_eqb}
use Rattle.std.proofs.lemmas.Fmt.{decimal_by_steps}
use Rattle.std.proofs.lemmas.List.Elements.{All-nil, All-cons, All-head, All-tail, All-push, All-append, All-filter}
use Rattle.net_theory.specs.declared.data.Sig.{Sig}
use Rattle.net_theory.specs.declared.data.Gate.{Gate}
use Rattle.net_theory.specs.Document.{Name, has, Latch, latch_output}
use Rattle.net_theory.specs.Circuit.{Circuit, sources_of}
use Rattle.net_theory.specs.Naming.{numbered, free_names, is_at, output_on, Naming, first_free, rest_free, named}
use Rattle.net_theory.specs.Naming.{names_after, enough, names_in, taken_set, all_named, gate_names, first_spare}
use Rattle.net_theory.specs.Naming.{second_spare, node_name}
use Rattle.bench_text.specs.Items.{is_mark}
use Rattle.bench_text.specs.SaidLaws.{IsPlainName}
use Rattle.bench_core.specs.Writable.{IsPlainState}
use Rattle.bench_laws.specs.Spelled.{IsMarkFree, IsWritable}

-- ---- numbered names

free_push : (n : List ℕ) (b : ℕ) → IsMarkFree n → is_mark b ≡ false → IsMarkFree (n ++ b ∷ [])
free_push [] b e f = or_from (is_mark b) false f refl
free_push (c ∷ n) b e f = or_from (is_mark c) (list_any is_mark (n ++ b ∷ [])) (head (is_mark c) (list_any is_mark n) e) (free_push n b (tail (is_mark c) (list_any is_mark n) e) f) where
  head : (a b : Bool) → (a || b) ≡ false → a ≡ false
  head false b e = refl
  head true b e = absurd cc

  tail : (a b : Bool) → (a || b) ≡ false → b ≡ false
  tail false b e = e
  tail true b e = absurd cc

digit_free : (d : ℕ) → d < 10 → is_mark (48 + d) ≡ false
digit_free d low =
    or_from ((48 + d) == 40 || (48 + d) == 41 || (48 + d) == 44) ((48 + d) == 61)
    (or_from ((48 + d) == 40 || (48 + d) == 41) ((48 + d) == 44)
    (or_from ((48 + d) == 40) ((48 + d) == 41) (ne_eqb (48 + d) 40 (λ e. omega (arith, e))) (ne_eqb (48 + d) 41 (λ e. omega (arith, e))))
    (ne_eqb (48 + d) 44 (λ e. omega (arith, e))))
    (ne_eqb (48 + d) 61 (λ e. omega (arith, e, low)))

numbered_free : (k : ℕ) → k < 2 ^ 64 → IsMarkFree (numbered k)
numbered_free k low =
    decimal_by_steps
    (λ n ds. IsMarkFree (103 ∷ ds))
    (λ n digit. free_push (103 ∷ []) (48 + n) refl (digit_free n digit))
    (λ n ds high prefix. let d : n % 10 < 10 = omega arith in free_push (103 ∷ ds) (48 + n % 10) prefix (digit_free (n % 10) d))
    k
    low

range_free : (from count : ℕ) → from + count ≤ 2 ^ 64 → All IsMarkFree (map numbered (range_with_len from count))
range_free from zero low = All-nil IsMarkFree
range_free from (suc count) low = All-cons IsMarkFree (numbered from) (map numbered (range_with_len (from + 1) count))
    (numbered_free from (omega (arith, low))) (range_free (from + 1) count (omega (arith, low)))

numbers_free : (taken : List Name) (count : ℕ) → 1 + count ≤ 2 ^ 64 → All IsMarkFree (free_names taken 1 count)
unfolding free_names
numbers_free taken count low = All-filter (λ n. not (has taken n)) IsMarkFree (map numbered (range_with_len 1 count)) (range_free 1 count low)

-- ---- names of gates

output_free : (outs : List Name) (sinks : List Sig) (p : ℕ) (o : Name) → All IsMarkFree outs → output_on outs sinks p ≡ Some o → IsMarkFree o
unfolding output_on
output_free [] sinks p o all e = absurd cc
output_free (x ∷ outs) [] p o all e = absurd cc
output_free (x ∷ outs) (s ∷ sinks) p o all e =
    cond_both (is_at s p) (Some x) (output_on outs sinks p) (λ (r : Option Name). r ≡ Some o → IsMarkFree o)
    (λ at f. let same : x ≡ o = cc in subst IsMarkFree same (All-head IsMarkFree x outs all))
    (λ other f. output_free outs sinks p o (All-tail IsMarkFree x outs all) f)
    e

first_is_free : (ns : List Name) → All IsMarkFree ns → IsMarkFree (first_free ns)
first_is_free [] all = refl
first_is_free (n ∷ ns) all = All-head IsMarkFree n ns all

rest_are_free : (ns : List Name) → All IsMarkFree ns → All IsMarkFree (rest_free ns)
rest_are_free [] all = all
rest_are_free (n ∷ ns) all = All-tail IsMarkFree n ns all

pub record AreFreeNames (n : Naming) : Type 0 where
  pub names : All IsMarkFree n.names
  pub free : All IsMarkFree n.free

named_free : (n : Naming) (r : Option Name) → AreFreeNames n → ((o : Name) → r ≡ Some o → IsMarkFree o) → AreFreeNames (named n r)
named_free n None is h = record { names = All-push IsMarkFree n.names (first_free n.free) is.names (first_is_free n.free is.free); free = rest_are_free n.free is.free }
named_free n (Some o) is h = record { names = All-push IsMarkFree n.names o is.names (h o refl); free = is.free }

after_free : (f : ℕ → Option Name) (n : Naming) (node : ℕ) (gs : List Gate) → ((p : ℕ) (o : Name) → f p ≡ Some o → IsMarkFree o) → AreFreeNames n → AreFreeNames (names_after f n node gs)
unfolding names_after
after_free f n node [] h is = is
after_free f n node (g ∷ gs) h is = after_free f (named n (f node)) (node + 1) gs h (named_free n (f node) is (λ o e. h node o e))

plain_free : (ns : List Name) → All IsPlainName ns → All IsMarkFree ns
plain_free [] all = All-nil IsMarkFree
plain_free (n ∷ ns) all = All-cons IsMarkFree n ns (All-head IsPlainName n ns all).plain (plain_free ns (All-tail IsPlainName n ns all))

states_free : (ls : List Latch) → All IsPlainState ls → All IsMarkFree (map latch_output ls)
states_free [] all = All-nil IsMarkFree
states_free (l ∷ ls) all = All-cons IsMarkFree l.output (map latch_output ls) (All-head IsPlainState l ls all).output.plain (states_free ls (All-tail IsPlainState l ls all))

pub outputs_free : (c : Circuit) → IsWritable c → All IsMarkFree c.outputs
outputs_free c can = plain_free c.outputs can.fits.outputs

sources_free : (c : Circuit) → IsWritable c → All IsMarkFree (sources_of c)
sources_free c can = All-append IsMarkFree c.inputs (map latch_output c.latches) (plain_free c.inputs can.fits.inputs) (states_free c.latches can.fits.latches)

all_free : (c : Circuit) → IsWritable c → AreFreeNames (all_named c)
unfolding names_in
all_free c can =
    after_free (output_on c.outputs c.net.sinks) (record { names = []; free = free_names (taken_set c) 1 (enough (taken_set c) c.net) }) (c.net.sources + 1) c.net.gates
    (λ p o e. output_free c.outputs c.net.sinks p o (outputs_free c can) e)
    (record { names = All-nil IsMarkFree; free = numbers_free (taken_set c) (enough (taken_set c) c.net) (omega (arith, can.room, can.fits.proper.gates)) })

pub gates_free : (c : Circuit) → IsWritable c → All IsMarkFree (gate_names c)
gates_free c can = (all_free c can).names

pub first_spare_free : (c : Circuit) → IsWritable c → IsMarkFree (first_spare c)
first_spare_free c can = first_is_free (all_named c).free (all_free c can).free

pub second_spare_free : (c : Circuit) → IsWritable c → IsMarkFree (second_spare c)
second_spare_free c can = first_is_free (rest_free (all_named c).free) (rest_are_free (all_named c).free (all_free c can).free)

at_free : (ns : List Name) (i : ℕ) → All IsMarkFree ns → IsMarkFree (slice_index_or ns i [])
at_free [] zero all = refl
at_free [] (suc i) all = refl
at_free (n ∷ ns) zero all = All-head IsMarkFree n ns all
at_free (n ∷ ns) (suc i) all = at_free ns i (All-tail IsMarkFree n ns all)

pub node_free : (c : Circuit) (p : ℕ) → IsWritable c → IsMarkFree (node_name c p)
unfolding node_name
node_free c p can =
    cond_both (nat_le p c.net.sources) (slice_index_or (sources_of c) (p - 1) []) (slice_index_or (gate_names c) (p - c.net.sources - 1) []) IsMarkFree
    (λ e. at_free (sources_of c) (p - 1) (sources_free c can))
    (λ e. at_free (gate_names c) (p - c.net.sources - 1) (gates_free c can))
