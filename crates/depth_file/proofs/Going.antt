-- From stage to stage.
use Rattle.std.proofs.Common.{◌≡◌, ℕ, zero, suc, ◌+◌, ◌≤◌, ◌<◌, List, [], ◌∷◌, length, map, drop, Contains, Option, Some, None, Result, Ok, Err, refl, sym, ap, ◌∙◌, subst, arith}
use Rattle.std.specs.Prelude.{IfOk}
use Rattle.std.specs.Result.{IsErrAnd}
use Rattle.std.proofs.lemmas.Grind.{common_steps}
use Rattle.sat_theory.specs.Formula.{Formula}
use Rattle.clause_core.specs.Holds.{contains_map, contains_head, contains_tail}
use Rattle.text_core.specs.Lines.{Line}
use Rattle.tt_core.specs.Words.{Words}
use Rattle.enc_theory.specs.Fence.{fence_formula}
use Rattle.enc_theory.specs.Subproblems.{subproblems_for, fence_in}
use Rattle.enc_theory.specs.declared.subproblem.Subproblem.{Subproblem}
use Rattle.enc_theory.specs.declared.subproblem.Subproblem.TheVariants.{Levels}
use Rattle.settings.specs.declared.methods.Method.{Method}
use Rattle.settings.specs.declared.methods.Method.TheVariants.{Fence}
use Rattle.cert_theory.specs.Coding.{coding_of}
use Rattle.sat_theory.specs.Line as theory
use Rattle.cert_theory.specs.declared.data.LogEnd.{LogEnd}
use Rattle.cert_theory.specs.declared.data.SubproblemError.{SubproblemError}
use Rattle.cert_theory.specs.declared.data.SubproblemError.TheVariants as subproblem_errors
use Rattle.cert_theory.specs.Gives.{◌>>=◌, SubproblemFails}
use Rattle.cert_theory.specs.Certificate.{formula_of}
use Rattle.cert_theory.specs.SubproblemLines.{name_in, ended_in, subproblem_in}
use Rattle.depth_theory.specs.declared.data.DepthError.{DepthError}
use Rattle.depth_theory.specs.declared.data.DepthError.TheVariants as errors
use Rattle.depth_theory.specs.declared.data.DepthVerdict.{DepthVerdict}
use Rattle.depth_theory.specs.DepthCertificate.{levels_found}
use Rattle.depth_theory.specs.DepthJudging.{Answer, or_syntax, fault_at, at_line, may_follow, verdict_at, end_of, Place, Due, Begun, Within, after_line, after_chain, flat_from}
use Rattle.depth_theory.specs.DepthGives.{Fails, Gives}
use Rattle.depth_theory.specs.Flatter.{fences_for, flatter}
use Rattle.depth_theory.specs.FlatterLaws.{flatter_is}
use Rattle.depth_file.specs.Stages.{IsFenceCursor, IsRunning, IsNext, IsBegun, due_of, later_of, IsAfterPrefix, AnswersLines, Judged, verdict_in}
use Rattle.depth_file.specs.declared.stage.Stage.{Stage}
use Rattle.depth_file.specs.declared.stage.Stage.TheVariants as stages
use Rattle.depth_file.specs.declared.stage.FenceCursor.{FenceCursor}

-- ---- fences and subproblems

head_subproblem : (p q : Subproblem) (xs ys : List Subproblem) → p ∷ xs ≡ q ∷ ys → q ≡ p
head_subproblem p q xs ys e = cc

-- the next subproblem, if they all are fences
next_by : (fs : List (List ℕ)) (at : ℕ) (subproblem : Subproblem) (later : List Subproblem) →
    drop at (map Levels fs) ≡ subproblem ∷ later → (fence : List ℕ) × (drop at fs ≡ fence ∷ drop (at + 1) fs) ×
    (subproblem ≡ Levels fence) × Contains fs fence
next_by [] zero subproblem later e = absurd cc
next_by [] (suc at) subproblem later e = absurd cc
next_by (f ∷ fs) zero subproblem later e = (f, refl, head_subproblem (Levels f) subproblem (map Levels fs) later e, contains_head f fs)
next_by (f ∷ fs) (suc at) subproblem later e =
    let rest = next_by fs at subproblem later e in
    let step : suc (at + 1) ≡ suc at + 1 = omega arith in
    (rest.0, rest.1 ∙ ap (λ (k : ℕ). rest.0 ∷ drop k (f ∷ fs)) step, rest.2, contains_tail f rest.0 fs rest.3)

pub record Next (f : FenceCursor) (subproblem : Subproblem) : Type 0 where
  pub fence : List ℕ
  pub is_next : IsNext f fence
  pub subproblem_is : subproblem ≡ Levels fence
  pub few : length fence < f.chain.levels
  pub listed : Contains (fences_for f.chain.header.spec f.chain.size) fence

pub next_is : (f : FenceCursor) (subproblem : Subproblem) → IsFenceCursor f → drop f.at f.fences.items ≡ subproblem ∷ drop (f.at + 1) f.fences.items → Next f subproblem
next_is f subproblem is at =
    let fs = flatter f.chain.header.spec f.chain.size f.chain.levels in
    let found = next_by fs f.at subproblem (drop (f.at + 1) f.fences.items) (ap (drop f.at) (sym is.fences) ∙ at) in
    let below = flatter_is (fences_for f.chain.header.spec f.chain.size) f.chain.levels found.0 found.3 in
    record { fence = found.0; is_next = found.1; subproblem_is = found.2; few = below.1; listed = below.0 }

head_is : (a b : List ℕ) (xs ys : List (List ℕ)) → a ∷ xs ≡ b ∷ ys → a ≡ b
head_is a b xs ys e = cc

pub one_next : (f : FenceCursor) (a b : List ℕ) → IsNext f a → IsNext f b → a ≡ b
one_next f a b one two = head_is a b (later_of f) (later_of f) (sym one ∙ two)

drop_all : (xs : List (List ℕ)) (k : ℕ) → length xs ≤ k → drop k xs ≡ []
drop_all xs k low = grind (arith, common_steps)

count_map : (fs : List (List ℕ)) → length (map Levels fs) ≡ length fs
count_map [] = refl
count_map (f ∷ fs) = ap (λ (n : ℕ). suc n) (count_map fs)

pub none_due : (f : FenceCursor) → IsFenceCursor f → length f.fences.items ≤ f.at → due_of f ≡ []
none_due f is low =
    let fs = flatter f.chain.header.spec f.chain.size f.chain.levels in
    drop_all fs f.at (omega (arith, low, count_map fs, ap (λ (ps : List Subproblem). length ps) is.fences))

pub subproblem_listed : (w : Words) (r : ℕ) (fence : List ℕ) → Contains (fences_for w r) fence → Contains (subproblems_for w r) (Levels fence)
unfolding subproblems_for
subproblem_listed w r fence there = contains_map Levels (fences_for w r) fence there

formula_by : (m : Method) (w : Words) (basis size : ℕ) (subproblem : Subproblem) → m ≡ Fence → fence_formula w basis size (fence_in subproblem) ≡ (coding_of m).formula w basis size subproblem
unfolding coding_of
formula_by m w basis size subproblem same = ap (λ (x : Method). (coding_of x).formula w basis size subproblem) (sym same)

pub formula_is : (f : FenceCursor) (subproblem : Subproblem) → IsFenceCursor f →
    fence_formula f.chain.header.spec f.chain.header.basis f.chain.size (fence_in subproblem) ≡
    (coding_of f.chain.header.method).formula f.chain.header.spec f.chain.header.basis f.chain.size subproblem
formula_is f subproblem is = formula_by f.chain.header.method f.chain.header.spec f.chain.header.basis f.chain.size subproblem is.chain.by_fences

-- the next subproblem is that of the next fence
pub fence_next : (f : FenceCursor) (subproblem : Subproblem) (fence : List ℕ) → IsRunning f →
    drop f.at f.fences.items ≡ subproblem ∷ drop (f.at + 1) f.fences.items →
    ((named : List ℕ) → subproblem ≡ Levels named → fence ≡ named) → IsNext f fence
fence_next f subproblem fence is at named =
    let next = next_is f subproblem is.flat at in
    subst (λ (x : List ℕ). IsNext f x) (sym (named next.fence next.subproblem_is)) next.is_next

pub fence_few : (f : FenceCursor) (subproblem : Subproblem) (fence : List ℕ) → IsRunning f →
    drop f.at f.fences.items ≡ subproblem ∷ drop (f.at + 1) f.fences.items →
    ((named : List ℕ) → subproblem ≡ Levels named → fence ≡ named) → length fence < f.chain.levels
fence_few f subproblem fence is at named =
    let next = next_is f subproblem is.flat at in
    subst (λ (x : List ℕ). length x < f.chain.levels) (sym (named next.fence next.subproblem_is)) next.few

pub subproblem_known : (f : FenceCursor) (subproblem : Subproblem) → IsRunning f →
    drop f.at f.fences.items ≡ subproblem ∷ drop (f.at + 1) f.fences.items →
    Contains (subproblems_for f.chain.header.spec f.chain.size) subproblem
subproblem_known f subproblem is at =
    let next = next_is f subproblem is.flat at in
    subst (λ (p : Subproblem). Contains (subproblems_for f.chain.header.spec f.chain.size) p) (sym next.subproblem_is) (subproblem_listed f.chain.header.spec f.chain.size next.fence next.listed)

pub formula_next : (f : FenceCursor) (subproblem : Subproblem) (fence : List ℕ) → IsRunning f →
    drop f.at f.fences.items ≡ subproblem ∷ drop (f.at + 1) f.fences.items → IsNext f fence →
    fence_formula f.chain.header.spec f.chain.header.basis f.chain.size (fence_in subproblem) ≡ formula_of f.chain.header f.chain.size (Levels fence)
formula_next f subproblem fence is at due =
    let next = next_is f subproblem is.flat at in
    let same : subproblem ≡ Levels fence = next.subproblem_is ∙ ap Levels (one_next f next.fence fence next.is_next due) in
    formula_is f subproblem is.flat ∙ ap (λ (p : Subproblem). formula_of f.chain.header f.chain.size p) same

pub formula_given : {E : Type 0} (f : FenceCursor) (subproblem : Subproblem) (r : Result Formula E) → IsRunning f →
    drop f.at f.fences.items ≡ subproblem ∷ drop (f.at + 1) f.fences.items →
    IfOk r (λ cnf. cnf ≡ fence_formula f.chain.header.spec f.chain.header.basis f.chain.size (fence_in subproblem)) → (fence : List ℕ) →
    IsNext f fence → IfOk r (λ cnf. cnf ≡ formula_of f.chain.header f.chain.size (Levels fence))
formula_given f subproblem (Ok cnf) is at own fence due = own ∙ formula_next f subproblem fence is at due
formula_given f subproblem (Err e) is at own fence due = tt

pub is_running : (f : FenceCursor) → IsFenceCursor f → f.at < length f.fences.items → IsRunning f
is_running f is below = record { flat = is; within = below }

-- ---- refusals

pub fails_bind : {A B : Type 0} (e : DepthError) (read : Result A DepthError) (next : A → Result B DepthError) → Fails e read → Fails e (read >>= next)
fails_bind {A = A} (errors.Certificate d) read next is = ap (λ (r : Result A DepthError). r >>= next) is
fails_bind {A = A} errors.NotLeastForm read next is = ap (λ (r : Result A DepthError). r >>= next) is
fails_bind {A = A} (errors.Syntax line) read next is = ap (λ (r : Result A DepthError). r >>= next) is
fails_bind {A = A} (errors.WrongDepth line) read next is = ap (λ (r : Result A DepthError). r >>= next) is
fails_bind {A = A} (errors.StepRefused line d) read next is = ap (λ (r : Result A DepthError). r >>= next) is
fails_bind {A = A} (errors.NotNew line) read next is = ap (λ (r : Result A DepthError). r >>= next) is
fails_bind {A = A} (errors.NotRefuted line) read next is = ap (λ (r : Result A DepthError). r >>= next) is
fails_bind {A = A} (errors.OpenTooShort line) read next is = ap (λ (r : Result A DepthError). r >>= next) is
fails_bind {A = A} (errors.WrongLevels line) read next is = ap (λ (r : Result A DepthError). r >>= next) is
fails_bind errors.Memory read next is = tt

pub fails_is : {A : Type 0} (e : DepthError) (read answer : Result A DepthError) → answer ≡ read → Fails e read → Fails e answer
fails_is (errors.Certificate d) read answer same is = same ∙ is
fails_is errors.NotLeastForm read answer same is = same ∙ is
fails_is (errors.Syntax line) read answer same is = same ∙ is
fails_is (errors.WrongDepth line) read answer same is = same ∙ is
fails_is (errors.StepRefused line d) read answer same is = same ∙ is
fails_is (errors.NotNew line) read answer same is = same ∙ is
fails_is (errors.NotRefuted line) read answer same is = same ∙ is
fails_is (errors.OpenTooShort line) read answer same is = same ∙ is
fails_is (errors.WrongLevels line) read answer same is = same ∙ is
fails_is errors.Memory read answer same is = tt

-- ---- the lines of a log

abbrev pub flat : FenceCursor → ℕ → Place → List Line → Answer
flat f number place ls = flat_from f.chain.header f.chain.size f.chain.levels number f.low place ls

-- the name of the next fence
pub due_reads : (f : FenceCursor) (fence : List ℕ) (number : ℕ) (l : Line) (ls : List Line) → IsNext f fence →
    flat f number (Due (due_of f)) (l ∷ ls) ≡ (at_line number (name_in (may_follow l) fence l) >>= λ is_named.
    flat f (number + 1) (Begun fence (later_of f)) ls)
unfolding flat_from
due_reads f fence number l ls next = ap (λ (fs : List (List ℕ)). flat f number (Due fs) (l ∷ ls)) next

pub due_goes : (f : FenceCursor) (fence : List ℕ) (number : ℕ) (l : Line) (ls : List Line) → IsNext f fence →
    Ok tt ≡ at_line number (name_in (may_follow l) fence l) →
    flat f number (Due (due_of f)) (l ∷ ls) ≡ flat f (number + 1) (Begun fence (later_of f)) ls
due_goes f fence number l ls next read = due_reads f fence number l ls next ∙ ap (λ (r : Result (Unit {0}) DepthError). r >>= λ is_named. flat f (number + 1) (Begun fence (later_of f)) ls) (sym read)

pub due_fails : (f : FenceCursor) (fence : List ℕ) (number : ℕ) (l : Line) (ls : List Line) (e : DepthError) →
    IsNext f fence → Fails e (at_line number (name_in (may_follow l) fence l)) →
    Fails e (flat f number (Due (due_of f)) (l ∷ ls))
due_fails f fence number l ls e next fails = fails_is e _ _ (due_reads f fence number l ls next)
    (fails_bind e (at_line number (name_in (may_follow l) fence l)) (λ is_named.
    flat f (number + 1) (Begun fence (later_of f)) ls) fails)

-- the verdict, if no fence is left
pub end_reads : (f : FenceCursor) (number : ℕ) (l : Line) (ls : List Line) → due_of f ≡ [] →
    flat f number (Due (due_of f)) (l ∷ ls) ≡ (verdict_at number (levels_found f.low f.chain.levels) l >>= λ v.
    end_of (number + 1) v ls)
unfolding flat_from
end_reads f number l ls none = ap (λ (fs : List (List ℕ)). flat f number (Due fs) (l ∷ ls)) none

pub end_goes : (f : FenceCursor) (number : ℕ) (l : Line) (ls : List Line) (v : DepthVerdict) → due_of f ≡ [] →
    verdict_at number (levels_found f.low f.chain.levels) l ≡ Ok v →
    flat f number (Due (due_of f)) (l ∷ ls) ≡ end_of (number + 1) v ls
end_goes f number l ls v none read = end_reads f number l ls none ∙ ap (λ (r : Answer). r >>= λ w. end_of (number + 1) w ls) read

pub end_fails : (f : FenceCursor) (number : ℕ) (l : Line) (ls : List Line) (e : DepthError) → due_of f ≡ [] →
    Fails e (verdict_at number (levels_found f.low f.chain.levels) l) → Fails e (flat f number (Due (due_of f)) (l ∷ ls))
end_fails f number l ls e none fails = fails_is e _ _ (end_reads f number l ls none) (fails_bind e (verdict_at number (levels_found f.low f.chain.levels) l) (λ w. end_of (number + 1) w ls) fails)

-- after the name, the log is due
pub due_begins : (f : FenceCursor) (fence : List ℕ) (number : ℕ) (l : Line) (is_named : Unit {0}) → IsNext f fence →
    at_line number (name_in (may_follow l) fence l) ≡ Ok is_named → (lines ls : List Line) (answer : Answer) →
    answer ≡ flat f number (Due (due_of f)) lines → lines ≡ l ∷ ls → IsBegun f (number + 1) ls answer
due_begins f fence number l is_named next read = λ lines ls answer is same.
    record {
      fence = fence;
      is_next = next;
      answer_is = is ∙ ap (flat f number (Due (due_of f))) same ∙ due_goes f fence number l ls next (sym read);
    }

-- the line that begins a log
pub begun_fails : (f : FenceCursor) (fence : List ℕ) (later : List (List ℕ)) (number : ℕ) (l : Line) (ls : List Line) →
    ended_in l ≡ None → flat f number (Begun fence later) (l ∷ ls) ≡ Err (errors.Syntax number)
unfolding flat_from
begun_fails f fence later number l ls none = ap (λ (o : Option LogEnd). or_syntax number o >>= λ ended. flat f (number + 1) (Within fence later ended []) ls) none

pub begun_goes : (f : FenceCursor) (fence : List ℕ) (later : List (List ℕ)) (number : ℕ) (l : Line) (ls : List Line)
    (ended : LogEnd) → ended_in l ≡ Some ended → flat f number (Begun fence later) (l ∷ ls) ≡
    flat f (number + 1) (Within fence later ended []) ls
unfolding flat_from
begun_goes f fence later number l ls ended e = ap (λ (o : Option LogEnd). or_syntax number o >>= λ x. flat f (number + 1) (Within fence later x []) ls) e

-- the lines of a log
abbrev pub stepping : FenceCursor → List ℕ → List (List ℕ) → ℕ → LogEnd → List theory.Line → List Line → Option theory.Line → Answer
stepping f fence later number ended log ls step =
    flat_from f.chain.header f.chain.size f.chain.levels (number + 1) (after_line f.low fence later ended log step).low
    (after_line f.low fence later ended log step).place ls

located_fails : {A : Type 0} (number : ℕ) (e : SubproblemError) (read : Result A SubproblemError) → SubproblemFails e read → Fails (fault_at number e) (at_line number read)
located_fails number subproblem_errors.Syntax read is = ap (at_line number) is
located_fails number (subproblem_errors.StepRefused fault) read is = ap (at_line number) is
located_fails number subproblem_errors.NotNew read is = ap (at_line number) is
located_fails number subproblem_errors.NotRefuted read is = ap (at_line number) is
located_fails number subproblem_errors.TooShort read is = ap (at_line number) is
located_fails number subproblem_errors.EmptyClauseDerived read is = ap (at_line number) is
located_fails number subproblem_errors.Memory read is = tt

pub subproblem_fails : (f : FenceCursor) (fence : List ℕ) (later : List (List ℕ)) (number : ℕ) (ended : LogEnd)
    (log : List theory.Line) (l : Line) (ls : List Line) (e : SubproblemError) →
    SubproblemFails e (subproblem_in (formula_of f.chain.header f.chain.size (Levels fence)) f.chain.header.conflicts ended log l) →
    Fails (fault_at number e) (flat f number (Within fence later ended log) (l ∷ ls))
unfolding flat_from
subproblem_fails f fence later number ended log l ls e fails =
    let read = subproblem_in (formula_of f.chain.header f.chain.size (Levels fence)) f.chain.header.conflicts ended log l in
    fails_bind (fault_at number e) (at_line number read) (stepping f fence later number ended log ls) (located_fails number e read fails)

pub subproblem_goes : (f : FenceCursor) (fence : List ℕ) (later : List (List ℕ)) (number : ℕ) (ended : LogEnd)
    (log : List theory.Line) (l : Line) (ls : List Line) (step : Option theory.Line) →
    subproblem_in (formula_of f.chain.header f.chain.size (Levels fence)) f.chain.header.conflicts ended log l ≡ Ok step →
    flat f number (Within fence later ended log) (l ∷ ls) ≡ stepping f fence later number ended log ls step
unfolding flat_from
subproblem_goes f fence later number ended log l ls step e = ap (λ (r : Result (Option theory.Line) SubproblemError). at_line number r >>= stepping f fence later number ended log ls) e

-- ---- refusals that are handed on

pub judged_err : (r : Result Stage DepthError) (e : DepthError) (number : ℕ) (ls : List Line) (answer : Answer) → IsErrAnd r (λ d. d ≡ e) → Fails e answer → Judged r number ls answer
judged_err (Ok stage) e number ls answer is fails = absurd is
judged_err (Err d) e number ls answer is fails = subst (λ (x : DepthError). Fails x answer) (sym is) fails

pub gives_err : (r : Answer) (e : DepthError) (answer : Answer) → IsErrAnd r (λ d. d ≡ e) → Fails e answer → Gives (λ (v : DepthVerdict). v) r answer
gives_err (Ok v) e answer is fails = absurd is
gives_err (Err d) e answer is fails = subst (λ (x : DepthError). Fails x answer) (sym is) fails

-- the answer if no line is left
abbrev pub closed_at : ℕ → Option DepthVerdict → Answer
closed_at number None = Err (errors.Syntax number)
closed_at number (Some verdict) = Ok verdict

pub ended_as : (stage : Stage) (number : ℕ) (answer : Answer) → IsAfterPrefix stage → AnswersLines stage number [] answer → answer ≡ closed_at number (verdict_in stage)
unfolding after_chain flat_from end_of
ended_as (stages.Prefix reader) number answer following stands = absurd following
ended_as (stages.Depth c) number answer following stands = stands
ended_as (stages.Due f) number answer following stands = stands
ended_as (stages.Begun f) number answer following stands = stands.answer_is
ended_as (stages.Within f reader) number answer following stands = stands.answer_is
ended_as (stages.End verdict) number answer following stands = stands
ended_as (stages.Done verdict) number answer following stands = stands

pub ruleset fences = (common_steps, fence_next, fence_few)

pub ruleset going = (common_steps, none_due, is_running)

pub ruleset formulas = (common_steps, subproblem_known, formula_given)
