-- How lines of words change the parser state, one after the other.
use Rattle.std.specs.Prelude.{◌≡◌, ℕ, zero, suc, ◌+◌, ◌≤◌, true, false, not, ◌&&◌, ◌==◌}
use Rattle.std.specs.Prelude.{if◌then◌else◌, List, [], ◌∷◌, ◌++◌, length, map, All, Option, Some, None, Result}
use Rattle.std.specs.Prelude.{Ok, Err, codes, refl}
use Rattle.std.specs.List.{flat_map, list_all}
use Rattle.std.proofs.Common.{arith, sym, ◌∙◌, ap, subst, append_assoc, append-nil}
use Rattle.std.proofs.lemmas.Bool.{and_from, cond-true, cond-false, cond_both, eq-eqb}
use Rattle.std.proofs.lemmas.List.Elements.{All-nil, All-cons, All-push, All-head, All-tail}
use Rattle.text_core.specs.Lines.{lines_from}
use Rattle.net_theory.specs.declared.data.Trigger.{Trigger}
use Rattle.net_theory.specs.declared.data.Trigger.TheVariants.{Fe, Re, Ah, Al, As}
use Rattle.net_theory.specs.Document.{Name, IsName, is_name, Table, LatchLine, Document}
use Rattle.net_theory.specs.WellFormed.{IsLatchLine, IsControl, IsInit}
use Rattle.net_core.specs.declared.error.NetError.{NetError}
use Rattle.blif_text.specs.Reading.{◌>>=◌}
use Rattle.blif_text.specs.Logical.{logical_from, logical_of}
use Rattle.blif_text.specs.Latches.{trigger_in, init_in, tail_with, with_control, tail_by, tail_by_both, tail_in, latch_with, latch_of}
use Rattle.blif_text.specs.Statements.{Said, nothing, closed, are_names, with_model}
use Rattle.blif_text.specs.Statements.{with_latch, directed, begins_dot, keyword_of, stated}
use Rattle.blif_text.specs.Statements.{steps, listed_by}
use Rattle.blif_core.specs.Spelling.{trigger_text}
use Rattle.blif_laws.proofs.WordLines.{line_of, logical_line, step_line}

-- ---- lines

-- the words of a line, of which there is at least one
pub record WordLine : Type 0 where
  pub first : Name
  pub rest : List Name

abbrev pub line : Name → List Name → WordLine
line first rest = record { first = first; rest = rest }

abbrev pub line_text : WordLine → List ℕ
line_text l = line_of l.first l.rest ++ 10 ∷ []

pub record IsLine (l : WordLine) : Type 0 where
  pub names : All IsName (l.first ∷ l.rest)
  pub few : length l.rest ≤ 1000

-- the state after lines, whose first one has the given number
unfoldable pub said_by : ℕ → Said → List WordLine → Result Said NetError
said_by n s [] = Ok (closed s)
said_by n s (l ∷ ls) = stated n s (l.first ∷ l.rest) >>= λ t. said_by (n + 1) t ls

bind_same : {A B : Type 0} (r : Result A NetError) (f g : A → Result B NetError) → ((x : A) → f x ≡ g x) → (r >>= f) ≡ (r >>= g)
bind_same (Ok x) f g same = same x
bind_same (Err e) f g same = refl

no_lines : (n : ℕ) → logical_of n [] ≡ []
unfolding logical_from lines_from
no_lines n = cond-true (n == n) _ _ (eq-eqb n n refl)

-- written lines are parsed as their words
pub lines_said : (n : ℕ) (s : Said) (ls : List WordLine) → All IsLine ls → steps s (logical_of n (flat_map line_text ls)) ≡ said_by n s ls
unfolding steps said_by
lines_said n s [] all = ap (steps s) (no_lines n)
lines_said n s (l ∷ ls) all =
    let is = All-head IsLine l ls all in
    ap (λ (bytes : List ℕ). steps s (logical_of n bytes)) (append_assoc (line_of l.first l.rest) (10 ∷ []) (flat_map line_text ls))
    ∙ ap (steps s) (logical_line n l.first l.rest (flat_map line_text ls) is.names)
    ∙ ap (λ (r : Result Said NetError). r >>= λ t. steps t (logical_of (n + 1) (flat_map line_text ls))) (step_line s n l.first l.rest is.names is.few)
    ∙ bind_same (stated n s (l.first ∷ l.rest)) (λ t. steps t (logical_of (n + 1) (flat_map line_text ls))) (λ t. said_by (n + 1) t ls) (λ t. lines_said (n + 1) t ls (All-tail IsLine l ls all))

-- parsing the lines leads from the state `s` to a state with the property P
pub record Says (n : ℕ) (lines : List WordLine) (s : Said) (P : Said → Type 0) : Type 0 where
  pub next : ℕ
  pub end : Said
  pub good : P end
  pub says : (rest : List WordLine) → said_by n s (lines ++ rest) ≡ said_by next end rest

pub says_none : (n : ℕ) (s : Said) (P : Said → Type 0) → P s → Says n [] s P
says_none n s P good = record { next = n; end = s; good = good; says = λ rest. refl }

pub says_one : (n : ℕ) (l : WordLine) (s t : Said) (P : Said → Type 0) → stated n s (l.first ∷ l.rest) ≡ Ok t → P t → Says n (l ∷ []) s P
unfolding said_by
says_one n l s t P e good = record { next = n + 1; end = t; good = good; says = λ rest. ap (λ (r : Result Said NetError). r >>= λ u. said_by (n + 1) u rest) e }

pub says_then : (n : ℕ) (first second : List WordLine) (s : Said) (P Q : Said → Type 0) → Says n first s P → ((m : ℕ) (t : Said) → P t → Says m second t Q) → Says n (first ++ second) s Q
says_then n first second s P Q a b =
    let c = b a.next a.end a.good in
    record {
      next = c.next;
      end = c.end;
      good = c.good;
      says = λ rest. ap (said_by n s) (append_assoc first second rest) ∙ a.says (second ++ rest) ∙ c.says rest;
    }

-- ---- states

-- The state `s`, with its current table completed, has the document `d`, and further lines may follow.
pub record Has (d : Document) (s : Said) : Type 0 where
  pub document : (listed_by (closed s)).document ≡ d
  pub begun : s.is_begun ≡ true
  pub going : s.is_ended ≡ false

pub names_are : (ws : List Name) → All IsName ws → are_names ws ≡ true
unfolding are_names
names_are [] all = refl
names_are (w ∷ ws) all = and_from (is_name w) (list_all is_name ws) (All-head IsName w ws all).spelled (names_are ws (All-tail IsName w ws all))

-- a statement after the first line
pub directs : (n : ℕ) (s : Said) (word : Name) (ws : List Name) → s.is_ended ≡ false → begins_dot word ≡ true →
    s.is_begun ≡ true → stated n s (word ∷ ws) ≡ directed n (closed s) false word ws (keyword_of word)
directs n s word ws going dot begun =
    cond-false s.is_ended _ _ going
    ∙ cond-true (begins_dot word) _ _ dot
    ∙ ap (λ b. directed n (closed s) (not b) word ws (keyword_of word)) begun

-- ---- the model

abbrev pub model_line : Name → WordLine
model_line model = line (codes ".model") (model ∷ [])

abbrev pub model_alone : Name → Document
model_alone model = record { model = model; inputs = []; outputs = []; clocks = []; latches = []; tables = [] }

pub model_said : (model : Name) → IsName model → Says 1 (model_line model ∷ []) nothing (Has (model_alone model))
unfolding directed with_model keyword_of
model_said model is =
    says_one 1 (model_line model) nothing (record (closed nothing) { model = model; has_model = true }) (Has (model_alone model))
    (cond-true (is_name model) _ _ is.spelled)
    (record { document = refl; begun = refl; going = refl })

-- ---- lists

-- names after a keyword, 16 on a line; the current line already has some
unfoldable pub rest_lines : Name → List Name → ℕ → List Name → List WordLine
rest_lines keyword names count [] = line keyword names ∷ []
rest_lines keyword names count (n ∷ ns) = if count == 16 then line keyword names ∷ rest_lines keyword (n ∷ []) 1 ns else rest_lines keyword (names ++ n ∷ []) (count + 1) ns

-- a line with the keyword adds names to a document
pub record Adds (keyword : Name) (add : List Name → Document → Document) : Type 0 where
  pub once : (n : ℕ) (ws : List Name) (d : Document) (s : Said) → All IsName ws → Has d s → Says n (line keyword ws ∷ []) s (Has (add ws d))
  pub twice : (xs ys : List Name) (d : Document) → add ys (add xs d) ≡ add (xs ++ ys) d

pub has_same : (d e : Document) → d ≡ e → (n : ℕ) (lines : List WordLine) (s : Said) → Says n lines s (Has d) → Says n lines s (Has e)
has_same d e same n lines s r = subst (λ (x : Document). Says n lines s (Has x)) same r

pub all_push : (xs : List Name) (n : Name) → All IsName xs → IsName n → All IsName (xs ++ n ∷ [])
all_push xs n all is = All-push IsName xs n all is

pub one_name : (n : Name) → IsName n → All IsName (n ∷ [])
one_name n is = All-cons IsName n [] is (All-nil IsName)

pub list_said : (keyword : Name) (add : List Name → Document → Document) → Adds keyword add →
    (n : ℕ) (names : List Name) (count : ℕ) (ns : List Name) (d : Document) (s : Said) → All IsName names →
    All IsName ns → Has d s → Says n (rest_lines keyword names count ns) s (Has (add (names ++ ns) d))
unfolding rest_lines
list_said keyword add adds n names count [] d s all more has =
    has_same (add names d) (add (names ++ []) d) (ap (λ (xs : List Name). add xs d) (sym (append-nil names))) n (line keyword names ∷ []) s (adds.once n names d s all has)
list_said keyword add adds n names count (m ∷ ns) d s all more has =
    cond_both (count == 16) (line keyword names ∷ rest_lines keyword (m ∷ []) 1 ns) (rest_lines keyword (names ++
    m ∷ []) (count + 1) ns) (λ (ls : List WordLine). Says n ls s (Has (add (names ++ m ∷ ns) d)))
    (λ full. has_same (add (m ∷ ns) (add names d)) (add (names ++ m ∷ ns) d) (adds.twice names (m ∷ ns) d) n (line keyword names ∷ rest_lines keyword (m ∷ []) 1 ns) s
    (says_then n (line keyword names ∷ []) (rest_lines keyword (m ∷ []) 1 ns) s (Has (add names d)) (Has (add (m ∷ ns) (add names d)))
    (adds.once n names d s all has)
    (λ k t h. list_said keyword add adds k (m ∷ []) 1 ns (add names d) t (one_name m (All-head IsName m ns more)) (All-tail IsName m ns more) h)))
    (λ room. has_same (add ((names ++ m ∷ []) ++ ns) d) (add (names ++ m ∷ ns) d)
    (ap (λ (xs : List Name). add xs d) (append_assoc names (m ∷ []) ns)) n (rest_lines keyword (names ++
    m ∷ []) (count + 1) ns) s
    (list_said keyword add adds n (names ++ m ∷ []) (count + 1) ns d s (all_push names m all (All-head IsName m ns more)) (All-tail IsName m ns more) has))

abbrev pub add_inputs : List Name → Document → Document
add_inputs ws d = record d { inputs = d.inputs ++ ws }

abbrev pub add_outputs : List Name → Document → Document
add_outputs ws d = record d { outputs = d.outputs ++ ws }

abbrev pub add_clocks : List Name → Document → Document
add_clocks ws d = record d { clocks = d.clocks ++ ws }

-- the document of a state whose current table is complete, with its tables as parsed back
abbrev after : Said → Document
after s = record (listed_by (closed s)).document { tables = (closed s).tables ++ [] }

after_is : (d : Document) (s : Said) → Has d s → after s ≡ d
after_is d s has = ap (λ (ts : List Table). let e : Document = record (listed_by (closed s)).document { tables = ts } in e) (append-nil (closed s).tables) ∙ has.document

pub adds_inputs : Adds (codes ".inputs") add_inputs
unfolding directed keyword_of
adds_inputs = record {
  once = λ n ws d s all has. says_one n (line (codes ".inputs") ws) s (record (closed s) { inputs = s.inputs ++ ws; driven = s.driven ++ ws }) (Has (add_inputs ws d))
      (directs n s (codes ".inputs") ws has.going refl has.begun ∙ cond-true (are_names ws) _ _ (names_are ws all))
      (record { document = ap (add_inputs ws) (after_is d s has); begun = refl; going = has.going });
  twice = λ xs ys d. ap (λ (zs : List Name). let e : Document = record d { inputs = zs } in e) (append_assoc d.inputs xs ys);
}

pub adds_outputs : Adds (codes ".outputs") add_outputs
unfolding directed keyword_of
adds_outputs = record {
  once = λ n ws d s all has. says_one n (line (codes ".outputs") ws) s (record (closed s) { outputs = s.outputs ++ ws }) (Has (add_outputs ws d))
      (directs n s (codes ".outputs") ws has.going refl has.begun ∙ cond-true (are_names ws) _ _ (names_are ws all))
      (record { document = ap (add_outputs ws) (after_is d s has); begun = refl; going = has.going });
  twice = λ xs ys d. ap (λ (zs : List Name). let e : Document = record d { outputs = zs } in e) (append_assoc d.outputs xs ys);
}

pub adds_clocks : Adds (codes ".clock") add_clocks
unfolding directed keyword_of
adds_clocks = record {
  once = λ n ws d s all has. says_one n (line (codes ".clock") ws) s (record (closed s) { clocks = s.clocks ++ ws }) (Has (add_clocks ws d))
      (directs n s (codes ".clock") ws has.going refl has.begun ∙ cond-true (are_names ws) _ _ (names_are ws all))
      (record { document = ap (add_clocks ws) (after_is d s has); begun = refl; going = has.going });
  twice = λ xs ys d. ap (λ (zs : List Name). let e : Document = record d { clocks = zs } in e) (append_assoc d.clocks xs ys);
}

-- ---- latches

abbrev pub control_words : Option (Trigger × Name) → List Name
control_words None = []
control_words (Some c) = trigger_text c.0 ∷ c.1 ∷ []

abbrev pub init_words : Option ℕ → List Name
init_words None = []
init_words (Some init) = ((48 + init) ∷ []) ∷ []

abbrev pub latch_words : LatchLine → List Name
latch_words l = l.input ∷ l.latch.output ∷ (control_words l.latch.control ++ init_words l.latch.init)

abbrev pub latch_line : LatchLine → WordLine
latch_line l = line (codes ".latch") (latch_words l)

trigger_back : (t : Trigger) → trigger_in (trigger_text t) ≡ Some t
unfolding trigger_in
trigger_back Fe = refl
trigger_back Re = refl
trigger_back Ah = refl
trigger_back Al = refl
trigger_back As = refl

init_back : (init : ℕ) → init ≤ 3 → init_in ((48 + init) ∷ []) ≡ Some init
unfolding init_in
init_back zero low = refl
init_back (suc zero) low = refl
init_back (suc (suc zero)) low = refl
init_back (suc (suc (suc zero))) low = refl
init_back (suc (suc (suc (suc n)))) low = absurd (omega arith)

control_back : (c : Trigger × Name) → IsName c.1 → with_control (trigger_in (trigger_text c.0)) c.1 ≡ Some c
control_back c is = ap (λ (t : Option Trigger). with_control t c.1) (trigger_back c.0) ∙ cond-true (is_name c.1) _ _ is.spelled

tail_back : (control : Option (Trigger × Name)) (init : Option ℕ) → IsControl control → IsInit init →
    tail_in (control_words control ++ init_words init) ≡ Some (record { control = control; init = init })
unfolding tail_in
tail_back None None c i = refl
tail_back None (Some init) c i = ap (tail_with None) (init_back init i)
tail_back (Some control) None c i = ap tail_by (control_back control c)
tail_back (Some control) (Some init) c i =
    ap (λ (x : Option (Trigger × Name)). tail_by_both x (init_in ((48 + init) ∷ []))) (control_back control c) ∙ ap (tail_with (Some control)) (init_back init i)

latch_back : (n : ℕ) (l : LatchLine) → IsLatchLine l → latch_of n (latch_words l) ≡ Ok l
unfolding latch_of
latch_back n l is =
    ap (latch_with n l.input l.latch.output) (tail_back l.latch.control l.latch.init is.latch.control is.latch.init)
    ∙ cond-true (is_name l.input && is_name l.latch.output) _ _ (and_from (is_name l.input) (is_name l.latch.output) is.input.spelled is.latch.output.spelled)

abbrev pub add_latches : List LatchLine → Document → Document
add_latches ls d = record d { latches = d.latches ++ ls }

latch_said : (n : ℕ) (l : LatchLine) (d : Document) (s : Said) → IsLatchLine l → Has d s → Says n (latch_line l ∷ []) s (Has (add_latches (l ∷ []) d))
unfolding directed keyword_of
latch_said n l d s is has =
    says_one n (latch_line l) s (with_latch n (closed s) l) (Has (add_latches (l ∷ []) d))
    (directs n s (codes ".latch") (latch_words l) has.going refl has.begun ∙ ap (λ (r : Result LatchLine NetError). r >>= λ m. Ok (with_latch n (closed s) m)) (latch_back n l is))
    (record { document = ap (add_latches (l ∷ [])) (after_is d s has); begun = refl; going = has.going })

pub latches_said : (n : ℕ) (ls : List LatchLine) (d : Document) (s : Said) → All IsLatchLine ls → Has d s → Says n (map latch_line ls) s (Has (add_latches ls d))
latches_said n [] d s all has =
    says_none n s (Has (add_latches [] d)) (subst (λ (e : Document). Has e s) (ap (λ (ls : List LatchLine). let e : Document = record d { latches = ls } in e) (sym (append-nil d.latches))) has)
latches_said n (l ∷ ls) d s all has =
    has_same (add_latches ls (add_latches (l ∷ []) d)) (add_latches (l ∷ ls) d)
    (ap (λ (xs : List LatchLine). let e : Document = record d { latches = xs } in
    e) (append_assoc d.latches (l ∷ []) ls)) n (map latch_line (l ∷ ls)) s
    (says_then n (latch_line l ∷ []) (map latch_line ls) s (Has (add_latches (l ∷ []) d)) (Has (add_latches ls (add_latches (l ∷ []) d)))
    (latch_said n l d s (All-head IsLatchLine l ls all) has)
    (λ m t h. latches_said m ls (add_latches (l ∷ []) d) t (All-tail IsLatchLine l ls all) h))

-- ---- the end

abbrev pub end_line : WordLine
end_line = line (codes ".end") []

pub end_said : (n : ℕ) (d : Document) (s : Said) → Has d s → (t : Said) × (said_by n s (end_line ∷ []) ≡ Ok t) × ((listed_by t).document ≡ d)
unfolding said_by directed keyword_of
end_said n d s has = (
  closed (record (closed s) { is_ended = true }),
  ap (λ (r : Result Said NetError). r >>= λ u. Ok (closed u)) (directs n s (codes ".end") [] has.going refl has.begun),
  after_is d s has,
)
