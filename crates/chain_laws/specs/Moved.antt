-- A chain with its places renamed, and rows permuted accordingly.
use Rattle.std.proofs.Common.{◌≡◌, ℕ, ◌+◌, ◌-◌, ◌≤◌, ◌<◌, ◌^◌, Bool, map, length, refl, sym, ap, ◌∙◌, arith, ⊎_elim, leb}
use Rattle.std.specs.Prelude.{slice_index_or, if◌then◌else◌}
use Rattle.std.proofs.lemmas.List.{get_or-map, length-map}
use Rattle.std.proofs.lemmas.List.Elements.{All-map, All-weaker}
use Rattle.std.proofs.lemmas.Bool.{cases_lt, cond-true, cond-false, le-leb, lt-leb}
use Rattle.chain_theory.specs.Operator.{apply, Basis}
use Rattle.chain_theory.specs.Specification.{Specification, input}
use Rattle.chain_theory.specs.Agreement.{is_met}
use Rattle.chain_theory.specs.Chain.{Step, NamesPlace}
use Rattle.chain_theory.specs.declared.data.Out.{Out}
use Rattle.chain_theory.specs.declared.data.Out.TheVariants.{Zero, One, Place}
use Rattle.chain_laws.specs.Bodies.{Body, Fits, AreBelow, bits_of, bits_are, step_bit, input_bit, out_bit, out_named}
use Rattle.chain_laws.specs.Shorter.{sent}

-- a step with its operands renamed
abbrev pub moved : (ℕ → ℕ) → Step → Step
moved f a = record { j = f a.j; k = f a.k; op = a.op }

-- a chain with its steps in another order, and all places renamed
abbrev pub moved_body : (ℕ → ℕ) → (ℕ → ℕ) → Body → Body
moved_body f order b = record { step = λ k. moved f (b.step (order k)); outs = map (sent (λ p. Place (f p))) b.outs }

-- Places are renamed by f, an involution that maps inputs to inputs. The step of index k becomes that of
-- index `order k`. Each row is mapped to one that has the same cells and gives the renamed inputs the
-- same bits.
pub record IsMove (s : Specification) (r : ℕ) (step : ℕ → Step) (f order row : ℕ → ℕ) : Type 0 where
  pub back : (p : ℕ) → f (f p) ≡ p
  pub from : (p : ℕ) → 1 ≤ p → 1 ≤ f p
  pub within : (p : ℕ) → p ≤ s.inputs + r → f p ≤ s.inputs + r
  pub of_input : (p : ℕ) → 1 ≤ p → p ≤ s.inputs → f p ≤ s.inputs
  pub of_step : (k : ℕ) → k < r → f (s.inputs + 1 + k) ≡ s.inputs + 1 + order k
  pub inside : (k : ℕ) → k < r → order k < r
  pub bit : (t p : ℕ) → 1 ≤ p → p ≤ s.inputs → input s.inputs (row t) (f p) ≡ input s.inputs t p
  pub is_row : (t : ℕ) → t < 2 ^ s.inputs → row t < 2 ^ s.inputs
  pub cell : (h t : ℕ) → 1 ≤ h → h ≤ s.outputs → t < 2 ^ s.inputs → s.cell h (row t) ≡ s.cell h t
  pub below : AreBelow s.inputs r (λ k. moved f (step (order k)))

moved_named : (last : ℕ) (f : ℕ → ℕ) → ((p : ℕ) → 1 ≤ p → 1 ≤ f p) → ((p : ℕ) → p ≤ last → f p ≤ last) → (o : Out) → NamesPlace last o → NamesPlace last (sent (λ p. Place (f p)) o)
moved_named last f from within Zero names = tt
moved_named last f from within One names = tt
moved_named last f from within (Place p) names = (from p names.0, within p names.1)

moved_out : (last : ℕ) (f : ℕ → ℕ) (bits old : ℕ → Bool) → ((p : ℕ) → 1 ≤ p → p ≤ last → bits (f p) ≡ old p) → (o : Out) → NamesPlace last o → out_bit bits (sent (λ p. Place (f p)) o) ≡ out_bit old o
moved_out last f bits old same Zero names = refl
moved_out last f bits old same One names = refl
moved_out last f bits old same (Place p) names = same p names.0 names.1

-- values are renamed along with the places
pub moved_bits : (s : Specification) (basis : Basis) (r d : ℕ) (b : Body) → Fits s basis r d b →
    (f order row : ℕ → ℕ) → IsMove s r b.step f order row → (t p : ℕ) → 1 ≤ p → p < s.inputs + 1 + r →
    bits_of s.inputs r (λ k. moved f (b.step (order k))) t p ≡ bits_of s.inputs r b.step (row t) (f p)
moved_bits s basis r d b fits f order row is t =
    let n : ℕ = s.inputs in
    let old : ℕ → Bool = bits_of n r b.step (row t) in
    bits_are n r (λ k. moved f (b.step (order k))) is.below t (λ p. old (f p))
    (λ p from low. input_bit n r b.step (row t) (f p) (is.of_input p from low) ∙ is.bit t p from low)
    (λ k low.
    let a : Step = b.step (order k) in
    ap old (is.of_step k low)
    ∙ step_bit n r b.step fits.below (row t) (order k) (is.inside k low)
    ∙ sym (ap (λ (x : Bool). apply a.op x (old (f (f a.k)))) (ap old (is.back a.j)) ∙ ap (λ (x : Bool). apply a.op (old a.j) x) (ap old (is.back a.k))))

-- a height that is 0 at inputs, and unchanged elsewhere
abbrev lowered : ℕ → (ℕ → ℕ) → ℕ → ℕ
lowered n height p = if leb p n then 0 else height p

lowered_input : (n p : ℕ) (height : ℕ → ℕ) → p ≤ n → lowered n height p ≡ 0
lowered_input n p height low = cond-true (leb p n) 0 (height p) (le-leb p n low)

lowered_step : (n p : ℕ) (height : ℕ → ℕ) → n < p → lowered n height p ≡ height p
lowered_step n p height high = cond-false (leb p n) 0 (height p) (lt-leb p n high)

-- A chain with its places renamed agrees too.
pub moved_fits : (s : Specification) (basis : Basis) (r d : ℕ) (b : Body) → Fits s basis r d b → (f order row : ℕ → ℕ) → IsMove s r b.step f order row → Fits s basis r d (moved_body f order b)
moved_fits s basis r d b fits f order row is =
    let n : ℕ = s.inputs in
    let height : ℕ → ℕ = lowered n (λ p. fits.height (f p)) in
    let own : (k : ℕ) → k < r → height (n + 1 + k) ≡ fits.height (n + 1 + order k) = λ k low. lowered_step n (n + 1 + k) (λ p. fits.height (f p)) (omega arith) ∙ ap fits.height (is.of_step k low) in
    let operand : (k p : ℕ) → k < r → fits.height p < fits.height (n + 1 + order k) → height (f p) < height (n + 1 + k) = λ k p low less. ⊎_elim
    (λ (is_input : f p < n + 1). omega (arith, own k low, lowered_input n (f p) (λ q. fits.height (f q)) (omega arith)))
    (λ (is_step : n + 1 ≤ f p). let e : fits.height (f (f p)) ≡ fits.height p = ap fits.height (is.back p) in omega (arith, e, own k low, lowered_step n (f p) (λ q. fits.height (f q)) (omega arith)))
    (cases_lt (f p) (n + 1)) in
    record {
      below = is.below;
      over = λ k low. fits.over (order k) (is.inside k low);
      height = height;
      rises = λ k low. let old = fits.rises (order k) (is.inside k low) in (operand k (b.step (order k)).j low old.0, operand k (b.step (order k)).k low old.1);
      low = λ k low. omega (arith, own k low, fits.low (order k) (is.inside k low));
      outs = All-map (NamesPlace (n + r)) (sent (λ p. Place (f p))) b.outs
          (All-weaker (NamesPlace (n + r)) (λ o. NamesPlace (n + r) (sent (λ p. Place (f p)) o)) (moved_named (n + r) f is.from is.within) b.outs fits.outs);
      count = length-map b.outs (sent (λ p. Place (f p))) ∙ fits.count;
      cells = λ h t from low row_low.
          let o : Out = slice_index_or b.outs (h - 1) Zero in
          let inside : h - 1 < length b.outs = omega (arith, fits.count) in
          let new : ℕ → Bool = bits_of n r (λ k. moved f (b.step (order k))) t in
          let there : (p : ℕ) → 1 ≤ p → p ≤ n + r → new (f p) ≡ bits_of n r b.step (row t) p = λ p p_from p_low.
          moved_bits s basis r d b fits f order row is t (f p) (is.from p p_from) (omega (arith, is.within p p_low))
          ∙ ap (bits_of n r b.step (row t)) (is.back p) in
          ap (λ (x : Bool). is_met (s.cell h t) x)
          (ap (out_bit new) (get_or-map (sent (λ p. Place (f p))) b.outs (h - 1) Zero Zero inside)
          ∙ moved_out (n + r) f new (bits_of n r b.step (row t)) there o (out_named (n + r) h s.outputs b.outs fits.count from low fits.outs))
          ∙ ap (λ c. is_met c (out_bit (bits_of n r b.step (row t)) o)) (sym (is.cell h t from low row_low))
          ∙ fits.cells h (row t) from low (is.is_row t row_low);
    }
