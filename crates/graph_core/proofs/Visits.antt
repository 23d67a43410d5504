-- Steps of a depth-first search.
use Rattle.std.proofs.Common.{◌≡◌, ℕ, zero, suc, ◌+◌, ◌-◌, ◌≤◌, ◌<◌, ◌≢◌, true, false, List, [], ◌∷◌, ◌++◌, length, Option, Some, None, refl, ap, ◌∙◌, sym, subst, arith}
use Rattle.std.specs.Prelude.{sum_by}
use Rattle.std.specs.List.{range_with_len}
use Rattle.std.proofs.lemmas.Grind.{common_steps}
use Rattle.std.proofs.lemmas.Bool.{cond-true, cond-false}
use Rattle.std.proofs.lemmas.List.Sums.{sum_by-cons, sum_by-append}
use Rattle.graph_core.specs.Visit.{Graph, fanins_of, has_ended, each, put_last, visit, order_of}
use Rattle.graph_core.specs.Frames.{Entered, ended, all_ended, most_steps, frame_steps, all_steps}

-- ---- one node

-- a finished node
pub visit_seen : (g : Graph) (depth : ℕ) (order : List ℕ) (t : ℕ) → has_ended order t ≡ true → visit g depth order t ≡ Some order
unfolding visit
visit_seen g zero order t e = cond-true (has_ended order t) (Some order) None e
visit_seen g (suc depth) order t e = cond-true (has_ended order t) (Some order) _ e

-- a node that isn't entered, since the depth is used up
pub visit_deep : (g : Graph) (depth : ℕ) (order : List ℕ) (t : ℕ) → has_ended order t ≡ false → depth ≡ 0 → visit g depth order t ≡ None
unfolding visit
visit_deep g zero order t e none = cond-false (has_ended order t) (Some order) None e
visit_deep g (suc depth) order t e none = absurd (omega arith)

-- an entered node
pub visit_new : (g : Graph) (depth : ℕ) (order : List ℕ) (t : ℕ) → has_ended order t ≡ false → depth ≢ 0 →
    visit g depth order t ≡ ended g (record { node = t; left = fanins_of g t; depth = depth - 1 }) (Some order)
unfolding visit ended
visit_new g zero order t e some = absurd (some refl)
visit_new g (suc depth) order t e some =
    let same : depth ≡ suc depth - 1 = omega arith in
    cond-false (has_ended order t) (Some order) _ e ∙ ap (λ (d : ℕ). put_last t (each (visit g d) (Some order) (fanins_of g t))) same

-- ---- several

pub all_ended-push : (g : Graph) (fs : List Entered) (f : Entered) (order : Option (List ℕ)) → all_ended g (fs ++ f ∷ []) order ≡ all_ended g fs (ended g f order)
unfolding all_ended
all_ended-push g [] f order = refl
all_ended-push g (e ∷ fs) f order = ap (ended g e) (all_ended-push g fs f order)

pub all_ended-nothing : (g : Graph) (order : Option (List ℕ)) → all_ended g [] order ≡ order
unfolding all_ended
all_ended-nothing g order = refl

each-none : (step : List ℕ → ℕ → Option (List ℕ)) (ts : List ℕ) → each step None ts ≡ None
unfolding each
each-none step [] = refl
each-none step (t ∷ ts) = refl

ended-none : (g : Graph) (f : Entered) → ended g f None ≡ None
unfolding ended
ended-none g f = ap (put_last f.node) (each-none (visit g f.depth) f.left)

pub all_ended-none : (g : Graph) (fs : List Entered) → all_ended g fs None ≡ None
unfolding all_ended
all_ended-none g [] = refl
all_ended-none g (f ∷ fs) = ap (ended g f) (all_ended-none g fs) ∙ ended-none g f

-- after its last fanin, a node is finished
pub ended-last : (g : Graph) (node depth : ℕ) (left order : List ℕ) → length left ≡ 0 → ended g (record { node = node; left = left; depth = depth }) (Some order) ≡ put_last node (Some order)
unfolding ended each
ended-last g node depth [] order e = refl
ended-last g node depth (t ∷ left) order e = absurd (omega arith)

-- the next fanin
pub ended-next : (g : Graph) (node depth next : ℕ) (left rest order : List ℕ) → left ≡ next ∷ rest →
    ended g (record { node = node; left = left; depth = depth }) (Some order) ≡
    ended g (record { node = node; left = rest; depth = depth }) (visit g depth order next)
unfolding ended each
ended-next g node depth next left rest order e = ap (λ (xs : List ℕ). put_last node (each (visit g depth) (Some order) xs)) e

-- ---- counting steps

pub all_steps-push : (g : Graph) (fs : List Entered) (f : Entered) → all_steps g (fs ++ f ∷ []) ≡ all_steps g fs + frame_steps g f
unfolding all_steps
all_steps-push g fs f = omega (arith, sum_by-append (frame_steps g) fs (f ∷ []))

pub most_steps-some : (g : Graph) (depth t : ℕ) → 0 < most_steps g depth t
unfolding most_steps
most_steps-some g zero t = omega arith
most_steps-some g (suc depth) t = omega arith

pub most_steps-new : (g : Graph) (depth t : ℕ) → depth ≢ 0 → frame_steps g (record { node = t; left = fanins_of g t; depth = depth - 1 }) < most_steps g depth t
unfolding most_steps frame_steps
most_steps-new g zero t some = absurd (some refl)
most_steps-new g (suc depth) t some =
    let same : suc depth - 1 ≡ depth = omega arith in
    subst (λ (d : ℕ). 1 + sum_by (most_steps g d) (fanins_of g t) < 2 + sum_by (most_steps g depth) (fanins_of g t)) (sym same) (omega arith)

pub frame_steps-next : (g : Graph) (node depth next : ℕ) (left rest : List ℕ) → left ≡ next ∷ rest →
    frame_steps g (record { node = node; left = left; depth = depth }) ≡
    most_steps g depth next + frame_steps g (record { node = node; left = rest; depth = depth })
unfolding frame_steps
frame_steps-next g node depth next left rest e = omega (arith, ap (sum_by (most_steps g depth)) e, sum_by-cons (most_steps g depth) next rest)

pub frame_steps-some : (g : Graph) (f : Entered) → 0 < frame_steps g f
unfolding frame_steps
frame_steps-some g f = omega arith

-- ---- the frame on top of the stack

abbrev pub entered : ℕ → List ℕ → ℕ → Entered
entered node left depth = record { node = node; left = left; depth = depth }

-- its next fanin is visited
pub last_next : (g : Graph) (stack fs : List Entered) (node depth next : ℕ) (left rest order : List ℕ) → stack ≡ fs ++
    entered node left depth ∷ [] → left ≡ next ∷ rest → all_ended g stack (Some order) ≡ all_ended g (fs ++
    entered node rest depth ∷ []) (visit g depth order next)
last_next g stack fs node depth next left rest order e l =
    ap (λ (xs : List Entered). all_ended g xs (Some order)) e
    ∙ all_ended-push g fs (entered node left depth) (Some order)
    ∙ ap (all_ended g fs) (ended-next g node depth next left rest order l)
    ∙ sym (all_ended-push g fs (entered node rest depth) (visit g depth order next))

-- its next fanin is already finished
pub last_seen : (g : Graph) (stack fs : List Entered) (node depth next : ℕ) (left rest order : List ℕ) → stack ≡ fs ++
    entered node left depth ∷ [] → left ≡ next ∷ rest → has_ended order next ≡ true →
    all_ended g (fs ++ entered node rest depth ∷ []) (Some order) ≡ all_ended g stack (Some order)
last_seen g stack fs node depth next left rest order e l seen =
    sym (last_next g stack fs node depth next left rest order e l ∙ ap (all_ended g (fs ++ entered node rest depth ∷ [])) (visit_seen g depth order next seen))

-- its next fanin isn't entered, since the depth is used up
pub last_deep : (g : Graph) (stack fs : List Entered) (node depth next : ℕ) (left rest order : List ℕ) → stack ≡ fs ++
    entered node left depth ∷ [] → left ≡ next ∷ rest → has_ended order next ≡ false → depth ≡ 0 →
    None ≡ all_ended g stack (Some order)
last_deep g stack fs node depth next left rest order e l new none =
    sym (last_next g stack fs node depth next left rest order e l
    ∙ ap (all_ended g (fs ++ entered node rest depth ∷ [])) (visit_deep g depth order next new none)
    ∙ all_ended-none g (fs ++ entered node rest depth ∷ []))

-- its next fanin is entered
pub last_new : (g : Graph) (stack fs : List Entered) (node depth next : ℕ) (left rest order : List ℕ) → stack ≡ fs ++
    entered node left depth ∷ [] → left ≡ next ∷ rest → has_ended order next ≡ false → depth ≢ 0 →
    all_ended g ((fs ++ entered node rest depth ∷ []) ++ entered next (fanins_of g next) (depth - 1) ∷ [])
    (Some order) ≡ all_ended g stack (Some order)
last_new g stack fs node depth next left rest order e l new some =
    all_ended-push g (fs ++ entered node rest depth ∷ []) (entered next (fanins_of g next) (depth - 1)) (Some order)
    ∙ sym (last_next g stack fs node depth next left rest order e l ∙ ap (all_ended g (fs ++ entered node rest depth ∷ [])) (visit_new g depth order next new some))

-- the number of remaining steps decreases
pub last_steps : (g : Graph) (stack fs : List Entered) (node depth next : ℕ) (left rest : List ℕ) → stack ≡ fs ++
    entered node left depth ∷ [] → left ≡ next ∷ rest →
    all_steps g (fs ++ entered node rest depth ∷ []) < all_steps g stack
last_steps g stack fs node depth next left rest e l =
    omega (
      arith,
      ap (all_steps g) e,
      all_steps-push g fs (entered node left depth),
      all_steps-push g fs (entered node rest depth),
      frame_steps-next g node depth next left rest l,
      most_steps-some g depth next,
    )

pub ruleset visits = (
  common_steps,
  visit_seen,
  visit_deep,
  visit_new,
  all_ended-push,
  all_ended-nothing,
  all_ended-none,
  ended-last,
  ended-next,
  all_steps-push,
  most_steps-some,
  most_steps-new,
  frame_steps-next,
  frame_steps-some,
)

-- ---- all nodes

shorter : (node n : ℕ) → node < n → n - node ≡ suc (n - (node + 1))
shorter node n low = omega arith

each-next : (g : Graph) (n node : ℕ) (order : List ℕ) → node < n →
    each (visit g n) (Some order) (range_with_len node (n - node)) ≡
    each (visit g n) (visit g n order node) (range_with_len (node + 1) (n - (node + 1)))
unfolding each
each-next g n node order low = ap (λ k. each (visit g n) (Some order) (range_with_len node k)) (shorter node n low)

each-end : (g : Graph) (n node : ℕ) (order : List ℕ) → n ≤ node → each (visit g n) (Some order) (range_with_len node (n - node)) ≡ Some order
unfolding each
each-end g n node order high = let none : n - node ≡ 0 = omega arith in ap (λ k. each (visit g n) (Some order) (range_with_len node k)) none

-- the order of the nodes from an index on: the loop invariant
abbrev pub order_from : Graph → ℕ → List ℕ → Option (List ℕ)
order_from g node order = each (visit g (length g)) (Some order) (range_with_len node (length g - node))

pub order_start : (g : Graph) → order_from g 0 [] ≡ order_of g
unfolding order_of
order_start g = let whole : length g - 0 ≡ length g = omega arith in ap (λ k. each (visit g (length g)) (Some []) (range_with_len 0 k)) whole

-- one more node is visited
pub order_next : (g : Graph) (node : ℕ) (old new : List ℕ) → node < length g → Some new ≡ visit g (length g) old node → order_from g (node + 1) new ≡ order_from g node old
order_next g node old new low e = ap (λ o. each (visit g (length g)) o (range_with_len (node + 1) (length g - (node + 1)))) e ∙ sym (each-next g (length g) node old low)

-- a visit failed
pub order_fails : (g : Graph) (node : ℕ) (old : List ℕ) → node < length g → None ≡ visit g (length g) old node → None ≡ order_from g node old
order_fails g node old low e =
    sym (each-next g (length g) node old low ∙ ap (λ o.
    each (visit g (length g)) o (range_with_len (node + 1) (length g - (node + 1)))) (sym e)
    ∙ each-none (visit g (length g)) (range_with_len (node + 1) (length g - (node + 1))))

pub order_end : (g : Graph) (node : ℕ) (order : List ℕ) → length g ≤ node → Some order ≡ order_from g node order
order_end g node order high = sym (each-end g (length g) node order high)

pub ruleset orders = (common_steps, order_start, order_next, order_fails, order_end)
