-- The values of nodes as equations, and the values after gates are appended.
use Rattle.std.specs.Prelude.{◌≡◌, ℕ, zero, suc, ◌+◌, ◌≤◌, ◌<◌, Bool, List, [], ◌∷◌, ◌++◌, length, slice_get, Some, ◌⊎◌, refl}
use Rattle.std.proofs.Common.{add-zero, arith, sym, ◌∙◌, ap, subst, ◌≢◌, inl, inr, ⊎_elim, length-append}
use Rattle.std.proofs.lemmas.Bool.{cases_eq}
use Rattle.chain_theory.specs.Value.{extended}
use Rattle.chain_theory.specs.ValueLaws.{extended-same, extended-other}
use Rattle.net_theory.specs.declared.data.Sig.{Sig}
use Rattle.net_theory.specs.declared.data.Sig.TheVariants.{Zero, One, Node}
use Rattle.net_theory.specs.declared.data.Gate.{Gate}
use Rattle.net_theory.specs.Net.{IsSigBelow, IsGateAt, AreGates, sig_value, gate_value, values_after, values_of}

-- ---- signals

-- A signal that is below p is below q too.
pub below_later : (s : Sig) (p q : ℕ) → p ≤ q → IsSigBelow p s → IsSigBelow q s
below_later Zero p q low b = tt
below_later One p q low b = tt
below_later (Node x) p q low b = (b.0, omega (arith, b.1))

-- Valuations that agree below `node` give a signal below it the same value,
pub sig_value-same : (f g : ℕ → Bool) (s : Sig) (node : ℕ) → IsSigBelow node s → ((p : ℕ) → p < node → f p ≡ g p) → sig_value f s ≡ sig_value g s
sig_value-same f g Zero node b same = refl
sig_value-same f g One node b same = refl
sig_value-same f g (Node p) node b same = same p b.1

-- and likewise a gate whose operands are below it.
pub gate_value-same : (f g : ℕ → Bool) (node : ℕ) (gate : Gate) → IsGateAt node gate → ((p : ℕ) → p < node → f p ≡ g p) → gate_value f gate ≡ gate_value g gate
gate_value-same f g node gate is same =
    rw (sig_value-same f g gate.a node is.first same, sig_value-same f g gate.b node is.second same) refl

-- ---- values

-- A gate appended at the end sets the bit of its own node, from the bits after the others.
pub values_after-push : (bits : ℕ → Bool) (node : ℕ) (gs : List Gate) (g : Gate) →
    values_after bits node (gs ++ g ∷ []) ≡ extended (values_after bits node gs) (node + length gs)
    (gate_value (values_after bits node gs) g)
unfolding values_after
values_after-push bits node [] g = rw add-zero refl
values_after-push bits node (h ∷ gs) g =
    let e : (node + 1) + length gs ≡ node + suc (length gs) = omega arith in
    rw (← e) (values_after-push (extended bits node (gate_value bits h)) (node + 1) gs g)

-- Gates don't change the bits of the nodes below them.
pub values_after-below : (bits : ℕ → Bool) (node p : ℕ) (gs : List Gate) → p < node → values_after bits node gs p ≡ bits p
unfolding values_after
values_after-below bits node p [] low = refl
values_after-below bits node p (g ∷ gs) low =
    let next : p < node + 1 = omega arith in
    let other : p ≢ node = omega arith in
    values_after-below (extended bits node (gate_value bits g)) (node + 1) p gs next ∙ extended-other bits node p (gate_value bits g) other

-- a source has its given bit
pub value-source : (given : ℕ → Bool) (sources p : ℕ) (gs : List Gate) → p ≤ sources → values_of given sources gs p ≡ given p
value-source given sources p gs low = values_after-below given (sources + 1) p gs (omega arith)

-- the node of the last gate
pub value-last : (given : ℕ → Bool) (sources : ℕ) (gs : List Gate) (g : Gate) → values_of given sources (gs ++ g ∷ []) (sources + 1 + length gs) ≡ gate_value (values_of given sources gs) g
value-last given sources gs g =
    ap (λ (f : ℕ → Bool). f (sources + 1 + length gs)) (values_after-push given (sources + 1) gs g)
    ∙ extended-same (values_of given sources gs) (sources + 1 + length gs) (sources + 1 + length gs) (gate_value (values_of given sources gs) g) refl

-- any other node
pub value-before : (given : ℕ → Bool) (sources p : ℕ) (gs : List Gate) (g : Gate) → p ≢ sources + 1 + length gs → values_of given sources (gs ++ g ∷ []) p ≡ values_of given sources gs p
value-before given sources p gs g other =
    ap (λ (f : ℕ → Bool). f p) (values_after-push given (sources + 1) gs g)
    ∙ extended-other (values_of given sources gs) (sources + 1 + length gs) p (gate_value (values_of given sources gs) g) other

-- The value at a gate's node is its operator on the values of its operands.
pub values_after-gate : (bits : ℕ → Bool) (node i : ℕ) (gs : List Gate) (g : Gate) → slice_get gs i ≡ Some g →
    IsGateAt (node + i) g → values_after bits node gs (node + i) ≡ gate_value (values_after bits node gs) g
unfolding values_after
values_after-gate bits node i [] g at is = cc
values_after-gate bits node zero (h ∷ gs) g at is =
    let same : h ≡ g = cc in
    let own : node + 0 ≡ node = add-zero node in
    let first : ℕ → Bool = extended bits node (gate_value bits h) in
    let after : ℕ → Bool = values_after first (node + 1) gs in
    let here : IsGateAt node g = subst (λ (q : ℕ). IsGateAt q g) own is in
    ap after own
    ∙ values_after-below first (node + 1) node gs (omega arith)
    ∙ extended-same bits node node (gate_value bits h) refl
    ∙ ap (λ (x : Gate). gate_value bits x) same
    ∙ gate_value-same bits after node g here
    (λ p low. sym (values_after-below first (node + 1) p gs (omega arith) ∙ extended-other bits node p (gate_value bits h) (omega arith)))
values_after-gate bits node (suc i) (h ∷ gs) g at is =
    let e : (node + 1) + i ≡ node + suc i = omega arith in
    let first : ℕ → Bool = extended bits node (gate_value bits h) in
    let here : IsGateAt ((node + 1) + i) g = subst (λ (q : ℕ). IsGateAt q g) (sym e) is in
    subst (λ (q : ℕ). values_after first (node + 1) gs q ≡ gate_value (values_after first (node + 1) gs) g) e (values_after-gate first (node + 1) i gs g at here)

-- Valuations that agree below the gates give the gates the same values.
pub values_after-same : (f g : ℕ → Bool) (node : ℕ) (gs : List Gate) →
    ((i : ℕ) (h : Gate) → slice_get gs i ≡ Some h → IsGateAt (node + i) h) → ((p : ℕ) → p < node → f p ≡ g p) →
    (p : ℕ) → p < node + length gs → values_after f node gs p ≡ values_after g node gs p
unfolding values_after
values_after-same f g node [] are same p low = same p (omega arith)
values_after-same f g node (h ∷ gs) are same p low =
    let own : IsGateAt node h = subst (λ (q : ℕ). IsGateAt q h) (add-zero node) (are 0 h refl) in
    let later : (i : ℕ) (x : Gate) → slice_get gs i ≡ Some x → IsGateAt ((node + 1) + i) x = λ i x at. let e : node + suc i ≡ (node + 1) + i = omega arith in
    subst (λ (q : ℕ). IsGateAt q x) e (are (suc i) x at) in
    let agree : (q : ℕ) → q < node + 1 → extended f node (gate_value f h) q ≡ extended g node (gate_value g h) q = λ q l. ⊎_elim
    (λ here. extended-same f node q (gate_value f h) here ∙ gate_value-same f g node h own same ∙ sym (extended-same g node q (gate_value g h) here))
    (λ other. extended-other f node q (gate_value f h) other ∙ same q (omega (arith, other)) ∙ sym (extended-other g node q (gate_value g h) other))
    (cases_eq q node) in
    values_after-same (extended f node (gate_value f h)) (extended g node (gate_value g h)) (node + 1) gs later agree p (omega arith)

-- ---- appending gates

-- `new` extends the gates `old`, and the nodes of `old` keep their values.
pub record ExtendsGates (sources : ℕ) (old new : List Gate) : Type 0 where
  pub gates : AreGates sources new
  pub longer : length old ≤ length new
  pub same : (given : ℕ → Bool) (p : ℕ) → p < sources + 1 + length old → values_of given sources new p ≡ values_of given sources old p

pub grown_none : (sources : ℕ) (gates : List Gate) → AreGates sources gates → ExtendsGates sources gates gates
grown_none sources gates are = record { gates = are; longer = omega arith; same = λ given p low. refl }

pub grown_more : (sources : ℕ) (a b c : List Gate) → ExtendsGates sources a b → ExtendsGates sources b c → ExtendsGates sources a c
grown_more sources a b c ab bc =
    record {
      gates = bc.gates;
      longer = omega (arith, ab.longer, bc.longer);
      same = λ given p low. bc.same given p (omega (arith, ab.longer)) ∙ ab.same given p low;
    }

-- signals keep their values
pub grown_sig : (sources : ℕ) (old new : List Gate) (s : Sig) (given : ℕ → Bool) → ExtendsGates sources old new →
    IsSigBelow (sources + 1 + length old) s → sig_value (values_of given sources new) s ≡
    sig_value (values_of given sources old) s
grown_sig sources old new s given grown below =
    sig_value-same (values_of given sources new) (values_of given sources old) s (sources + 1 + length old) below (λ p low. grown.same given p low)

pub grown_below : (sources : ℕ) (old new : List Gate) (s : Sig) → ExtendsGates sources old new → IsSigBelow (sources + 1 + length old) s → IsSigBelow (sources + 1 + length new) s
grown_below sources old new s grown below = below_later s (sources + 1 + length old) (sources + 1 + length new) (omega (arith, grown.longer)) below

-- an element of a list with one more appended is of the list or is the new one
pub at_push : {A : Type 0} (xs : List A) (x y : A) (i : ℕ) → slice_get (xs ++ x ∷ []) i ≡ Some y → (slice_get xs i ≡ Some y) ⊎ ((i ≡ length xs) × (x ≡ y))
at_push [] x y zero e = inr (refl, cc)
at_push [] x y (suc i) e = absurd cc
at_push (z ∷ xs) x y zero e = inl e
at_push (z ∷ xs) x y (suc i) e = ⊎_elim (λ l. inl l) (λ r. inr (ap suc r.0, r.1)) (at_push xs x y i e)

pub at_prefix : {A : Type 0} (xs ys : List A) (i : ℕ) (x : A) → slice_get xs i ≡ Some x → slice_get (xs ++ ys) i ≡ Some x
at_prefix [] ys i x e = absurd cc
at_prefix (z ∷ xs) ys zero x e = e
at_prefix (z ∷ xs) ys (suc i) x e = at_prefix xs ys i x e

pub at_end : {A : Type 0} (xs : List A) (x : A) → slice_get (xs ++ x ∷ []) (length xs) ≡ Some x
at_end [] x = refl
at_end (y ∷ xs) x = at_end xs x

-- a gate appended to others
pub gates_push : (sources : ℕ) (gates : List Gate) (g : Gate) → AreGates sources gates → IsGateAt (sources + 1 + length gates) g → AreGates sources (gates ++ g ∷ [])
gates_push sources gates g are is =
    record { each = λ i h at. ⊎_elim (λ l. are.each i h l) (λ r. rw (r.0, ← r.1) is) (at_push gates g h i at) }

pub grown_push : (sources : ℕ) (gates : List Gate) (g : Gate) → AreGates sources gates → IsGateAt (sources + 1 + length gates) g → ExtendsGates sources gates (gates ++ g ∷ [])
grown_push sources gates g are is =
    record {
      gates = gates_push sources gates g are is;
      longer = omega (arith, length-append gates (g ∷ []));
      same = λ given p low. value-before given sources p gates g (omega arith);
    }
