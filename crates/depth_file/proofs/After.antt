-- The lines of the certificate at the head, and what its reader returns at its end.
use Rattle.std.proofs.Common.{◌≡◌, ℕ, ◌+◌, Bool, true, false, List, [], ◌∷◌, ◌++◌, length, Option, Some, None, Result}
use Rattle.std.proofs.Common.{Ok, Err, refl, sym, ap, ◌∙◌, subst, arith, append_assoc, append-nil, length-append}
use Rattle.std.proofs.lemmas.Grind.{common_steps, flat_map-append}
use Rattle.text_core.specs.Lines.{Line, lines_of, line_bytes}
use Rattle.chain_theory.specs.Chain.{Chain}
use Rattle.chain_theory.specs.Levels.{depth}
use Rattle.settings.specs.declared.methods.Method.{Method}
use Rattle.settings.specs.declared.methods.Method.TheVariants.{Plain, Ssv, Select, Fence, Strong, StrongFence}
use Rattle.cert_theory.specs.declared.data.CertificateError.{CertificateError}
use Rattle.cert_theory.specs.declared.data.CertificateError.TheVariants as certificate_errors
use Rattle.cert_theory.specs.declared.data.Verdict.{Verdict}
use Rattle.cert_theory.specs.declared.data.Verdict.TheVariants as verdicts
use Rattle.cert_theory.specs.Certificate.{Certificate, IsValid, HasOutput}
use Rattle.cert_theory.specs.Gives as cert
use Rattle.cert_theory.specs.Judging.{certificate_of}
use Rattle.cert_theory.specs.SubproblemLines.{is_line}
use Rattle.cert_theory.specs.Spelling.{certificate_lines, end_text, text_of, IsCertificateText}
use Rattle.cert_laws.specs.CertificatesAgain.{lines_again, text_again}
use Rattle.cert_file.specs.Reader as certificates
use Rattle.cert_file.specs.Reader.{CertificatePieces, seen}
use Rattle.cert_file.specs.Claims.{IsClaim}
use Rattle.cert_file.specs.declared.claim.Claim.{Claim}
use Rattle.depth_theory.specs.declared.data.DepthError.TheVariants as errors
use Rattle.depth_theory.specs.declared.data.DepthVerdict.{DepthVerdict}
use Rattle.depth_theory.specs.DepthGives.{Fails, Gives}
use Rattle.depth_theory.specs.DepthJudging as judging
use Rattle.depth_theory.specs.DepthJudging.{Answer, after_least, after_certificate, after_chain, least_of, prefix_of, suffix_of}
use Rattle.depth_file.specs.Prefixes.{as_whole, IsAnswer, InPrefix, After, IsInPrefix, IsAfter}
use Rattle.depth_file.specs.Stages.{IsAfterPrefix}
use Rattle.depth_file.specs.declared.stage.Stage.{Stage}
use Rattle.depth_file.specs.declared.stage.Stage.TheVariants as stages
use Rattle.depth_file.proofs.Prefixes.{prefix_again_of, end_here, no_end, nothing_left, prefix_head}

-- ---- answers

-- a property of each answer is how the lines are judged
pub judged_by : (r : Answer) (lines : List Line) → ((answer : Answer) → IsAnswer lines answer → Gives (λ (v : DepthVerdict). v) r answer) → judging.Judged (Gives (λ (v : DepthVerdict). v) r) lines
judged_by r lines given = record {
  refused = λ e is. given (Err (errors.Certificate e)) (InPrefix e is);
  following = λ b valid output same. given (after_certificate b (length (prefix_of lines) + 1) (suffix_of lines)) (After b valid output same);
}

err_same : (d e : CertificateError) (r : Result Verdict CertificateError) → r ≡ Err d → r ≡ Err e → d ≡ e
err_same d e r one two = cc

never_both : (v : Verdict) (e : CertificateError) (r : Result Verdict CertificateError) → r ≡ Ok v → r ≡ Err e → ⊥
never_both v e r one two = cc

is_certificate : (b : Certificate) (text : List ℕ) → IsValid b → HasOutput b → text ≡ text_of (certificate_lines b) → IsCertificateText text b
is_certificate b text valid output same = record { valid = valid; output = output; text = same }

certificate_read : (b : Certificate) → IsValid b → HasOutput b → certificate_of (certificate_lines b) ≡ Ok b.verdict
certificate_read b valid output = ap certificate_of (sym (lines_again b valid)) ∙ text_again (text_of (certificate_lines b)) b (is_certificate b (text_of (certificate_lines b)) valid output refl)

answer_read : (lines : List Line) (answer : Answer) (e : CertificateError) → IsAnswer lines answer → certificate_of (prefix_of lines) ≡ Err e → answer ≡ Err (errors.Certificate e)
answer_read lines answer e (InPrefix d is) read = ap (λ (x : CertificateError). let r : Answer = Err (errors.Certificate x) in r) (err_same d e (certificate_of (prefix_of lines)) is read)
answer_read lines answer e (After b valid output same) read = absurd (never_both b.verdict e (certificate_of (prefix_of lines)) (ap certificate_of same ∙ certificate_read b valid output) read)

answer_fails : (lines : List Line) (answer : Answer) (e : CertificateError) → IsAnswer lines answer → cert.Fails e (certificate_of (prefix_of lines)) → Fails (as_whole e) answer
answer_fails lines answer (certificate_errors.Syntax n) is fails = answer_read lines answer (certificate_errors.Syntax n) is fails
answer_fails lines answer (certificate_errors.SizeOutOfOrder n) is fails = answer_read lines answer (certificate_errors.SizeOutOfOrder n) is fails
answer_fails lines answer (certificate_errors.StepRefused n d) is fails = answer_read lines answer (certificate_errors.StepRefused n d) is fails
answer_fails lines answer (certificate_errors.NotRefuted n) is fails = answer_read lines answer (certificate_errors.NotRefuted n) is fails
answer_fails lines answer (certificate_errors.ChainDiffers n d) is fails = answer_read lines answer (certificate_errors.ChainDiffers n d) is fails
answer_fails lines answer (certificate_errors.OperatorNotInBasis n) is fails = answer_read lines answer (certificate_errors.OperatorNotInBasis n) is fails
answer_fails lines answer (certificate_errors.OpenTooShort n) is fails = answer_read lines answer (certificate_errors.OpenTooShort n) is fails
answer_fails lines answer (certificate_errors.NotNew n) is fails = answer_read lines answer (certificate_errors.NotNew n) is fails
answer_fails lines answer (certificate_errors.WrongVerdict n) is fails = answer_read lines answer (certificate_errors.WrongVerdict n) is fails
answer_fails lines answer certificate_errors.Memory is fails = tt

-- ---- a line of the certificate

text_on : (read : List Line) (l : Line) → text_of (read ++ l ∷ []) ≡ text_of read ++ line_bytes l
text_on read l = flat_map-append line_bytes read (l ∷ []) ∙ ap (λ (bs : List ℕ). text_of read ++ bs) (append-nil (line_bytes l))

pub prefix_begins : (reader : CertificatePieces) (bytes : List ℕ) (answer : Answer) →
    certificates.StandsFor (seen reader) [] → IsAnswer (lines_of bytes) answer →
    IsInPrefix reader 1 (lines_of bytes) answer
prefix_begins reader bytes answer stands answered = record {
  whole = lines_of bytes;
  read = [];
  prefix_is = refl;
  suffix_is = refl;
  again = prefix_again_of bytes;
  number_is = refl;
  stands = stands;
  answered = answered;
}

pub prefix_fails : (reader : CertificatePieces) (number : ℕ) (lines ls : List Line) (l : Line) (answer : Answer)
    (e : CertificateError) → (is : IsInPrefix reader number lines answer) → lines ≡ l ∷ ls →
    certificates.IsRefused e (text_of is.read ++ line_bytes l) → Fails (as_whole e) answer
prefix_fails reader number lines ls l answer e is same refused =
    let more = prefix_head l ls in
    let all : prefix_of is.whole ≡ is.read ++ l ∷ more.0 = is.prefix_is ∙ ap (λ (xs : List Line). is.read ++ prefix_of xs) same ∙ ap (λ (xs : List Line). is.read ++ xs) more.1 in
    let spelled : text_of (prefix_of is.whole) ≡ (text_of is.read ++ line_bytes l) ++ text_of more.0 =
    ap text_of all ∙ flat_map-append line_bytes is.read (l ∷ more.0)
    ∙ sym (append_assoc (text_of is.read) (line_bytes l) (text_of more.0)) in
    let read : lines_of ((text_of is.read ++ line_bytes l) ++ text_of more.0) ≡ prefix_of is.whole = ap lines_of (sym spelled) ∙ is.again in
    answer_fails is.whole answer e is.answered (subst (λ (xs : List Line). cert.Fails e (certificate_of xs)) read (refused (text_of more.0)))

pub prefix_goes : (reader next : CertificatePieces) (number : ℕ) (lines ls : List Line) (text : List ℕ) (ended : Bool)
    (answer : Answer) → (is : IsInPrefix reader number lines answer) →
    lines ≡ record { text = text; ended = ended } ∷ ls → is_line end_text (record { text = text; ended = ended }) ≡
    false → certificates.StandsFor (seen next) (text_of is.read ++
    line_bytes (record { text = text; ended = ended })) → IsInPrefix next (number + 1) ls answer
prefix_goes reader next number lines ls text ended answer is same other stands =
    let l : Line = record { text = text; ended = ended } in
    let on = no_end text ended ls other in
    record {
      whole = is.whole;
      read = is.read ++ l ∷ [];
      prefix_is = is.prefix_is ∙ ap (λ (xs : List Line). is.read ++ prefix_of xs) same ∙ ap (λ (xs : List Line). is.read ++ xs) on.0 ∙ sym (append_assoc is.read (l ∷ []) (prefix_of ls));
      suffix_is = is.suffix_is ∙ ap suffix_of same ∙ on.1;
      again = is.again;
      number_is = let count = length-append is.read (l ∷ []) in omega (arith, count, is.number_is);
      stands = subst (λ (bs : List ℕ). certificates.StandsFor (seen next) bs) (sym (text_on is.read l)) stands;
      answered = is.answered;
    }

pub prefix_ends : (reader next : CertificatePieces) (number : ℕ) (lines ls : List Line) (l : Line) (answer : Answer) →
    (is : IsInPrefix reader number lines answer) → lines ≡ l ∷ ls → is_line end_text l ≡ true →
    certificates.StandsFor (seen next) (text_of is.read ++ line_bytes l) → IsAfter next (number + 1) ls answer
prefix_ends reader next number lines ls l answer is same last stands =
    let on = end_here l ls last in
    let all : prefix_of is.whole ≡ is.read ++ l ∷ [] = is.prefix_is ∙ ap (λ (xs : List Line). is.read ++ prefix_of xs) same ∙ ap (λ (xs : List Line). is.read ++ xs) on.0 in
    record {
      whole = is.whole;
      suffix_is = is.suffix_is ∙ ap suffix_of same ∙ on.1;
      again = is.again;
      number_is =
          let count = length-append is.read (l ∷ []) in
          let whole = ap (λ (xs : List Line). length xs) all in
          omega (arith, count, whole, is.number_is);
      stands = subst (λ (bs : List ℕ). certificates.StandsFor (seen next) bs) (sym (ap text_of all ∙ text_on is.read l)) stands;
      answered = is.answered;
    }

-- no line was `end`, and no line is left
pub prefix_over : (reader : CertificatePieces) (number : ℕ) (answer : Answer) → IsInPrefix reader number [] answer → IsAfter reader number [] answer
prefix_over reader number answer is =
    let all : prefix_of is.whole ≡ is.read = is.prefix_is ∙ ap (λ (xs : List Line). is.read ++ xs) nothing_left.0 ∙ append-nil is.read in
    record {
      whole = is.whole;
      suffix_is = is.suffix_is ∙ nothing_left.1;
      again = is.again;
      number_is = let whole = ap (λ (xs : List Line). length xs) all in omega (arith, whole, is.number_is);
      stands = subst (λ (bs : List ℕ). certificates.StandsFor (seen reader) bs) (sym (ap text_of all)) is.stands;
      answered = is.answered;
    }

-- ---- after the certificate

pub after_fails : (reader : CertificatePieces) (number : ℕ) (ls : List Line) (answer : Answer) (e : CertificateError) →
    IsAfter reader number ls answer → ((text : List ℕ) → certificates.StandsFor (seen reader) text →
    cert.Fails e (certificate_of (lines_of text))) → Fails (as_whole e) answer
after_fails reader number ls answer e is exact =
    answer_fails is.whole answer e is.answered (subst (λ (xs : List Line). cert.Fails e (certificate_of xs)) is.again (exact (text_of (prefix_of is.whole)) is.stands))

-- what the reader returns, if it returns a certificate
pub record WasRead (reader : CertificatePieces) (t : Claim) : Type 0 where
  pub exact : (text : List ℕ) → certificates.StandsFor (seen reader) text → certificate_of (lines_of text) ≡ Ok t.verdict
  pub claim : (text : List ℕ) (b : Certificate) → certificates.StandsFor (seen reader) text → IsCertificateText text b → IsClaim b t

abbrev pub least_in : Claim → Option Chain
least_in t = least_of t.header.method t.verdict t.chain

answer_after : (t : Claim) (number : ℕ) (whole ls : List Line) (answer : Answer) → IsAnswer whole answer →
    suffix_of whole ≡ ls → number ≡ length (prefix_of whole) + 1 → certificate_of (prefix_of whole) ≡ Ok t.verdict →
    ((b : Certificate) → IsCertificateText (text_of (prefix_of whole)) b → IsClaim b t) →
    answer ≡ after_least t.header (least_in t) number ls
answer_after t number whole ls answer (InPrefix d is) following count read claim = absurd (never_both t.verdict d (certificate_of (prefix_of whole)) read is)
answer_after t number whole ls answer (After b valid output same) following count read claim =
    let own = claim b (is_certificate b (text_of (prefix_of whole)) valid output (ap text_of same)) in
    λ i. after_least (sym own.header i) (least_of (sym own.header i).method (sym own.verdict i) (sym own.chain i)) (sym count i) (following i)

pub after_read : (reader : CertificatePieces) (t : Claim) (number : ℕ) (ls : List Line) (answer : Answer) →
    IsAfter reader number ls answer → WasRead reader t → answer ≡ after_least t.header (least_in t) number ls
after_read reader t number ls answer is claim =
    let text = text_of (prefix_of is.whole) in
    answer_after t number is.whole ls answer is.answered is.suffix_is is.number_is (ap certificate_of (sym is.again) ∙ claim.exact text is.stands) (λ b own. claim.claim text b is.stands own)

pub not_least : (reader : CertificatePieces) (t : Claim) (number : ℕ) (ls : List Line) (answer : Answer) →
    WasRead reader t → least_in t ≡ None → IsAfter reader number ls answer → answer ≡ Err errors.NotLeastForm
not_least reader t number ls answer claim none is = after_read reader t number ls answer is claim ∙ ap (λ (o : Option Chain). after_least t.header o number ls) none

pub is_least : (reader : CertificatePieces) (t : Claim) (c : Chain) (number : ℕ) (ls : List Line) (answer : Answer) →
    WasRead reader t → least_in t ≡ Some c → IsAfter reader number ls answer →
    answer ≡ after_chain t.header (length c.steps) (depth c) number ls
is_least reader t c number ls answer claim some is = after_read reader t number ls answer is claim ∙ ap (λ (o : Option Chain). after_least t.header o number ls) some

pub least_none_by : (m : Method) (v : Verdict) (chain : Option Chain) → ((size : ℕ) → v ≡ verdicts.Minimum size → ⊥) → least_of m v chain ≡ None
least_none_by Fence (verdicts.Minimum r) chain other = absurd (other r refl)
least_none_by Fence (verdicts.NoChain x) chain other = refl
least_none_by Fence (verdicts.Bounded low r) chain other = refl
least_none_by Fence (verdicts.Open low) chain other = refl
least_none_by Plain v chain other = refl
least_none_by Ssv v chain other = refl
least_none_by Select v chain other = refl
least_none_by Strong v chain other = refl
least_none_by StrongFence v chain other = refl

pub least_other : (m : Method) (v : Verdict) (chain : Option Chain) → (m ≡ Fence → ⊥) → least_of m v chain ≡ None
least_other Fence v chain other = absurd (other refl)
least_other Plain v chain other = refl
least_other Ssv v chain other = refl
least_other Select v chain other = refl
least_other Strong v chain other = refl
least_other StrongFence v chain other = refl

pub least_nothing : (m : Method) (v : Verdict) (chain : Option Chain) → chain ≡ None → least_of m v chain ≡ None
least_nothing Fence (verdicts.Minimum r) chain none = none
least_nothing Fence (verdicts.NoChain x) chain none = refl
least_nothing Fence (verdicts.Bounded low r) chain none = refl
least_nothing Fence (verdicts.Open low) chain none = refl
least_nothing Plain v chain none = refl
least_nothing Ssv v chain none = refl
least_nothing Select v chain none = refl
least_nothing Strong v chain none = refl
least_nothing StrongFence v chain none = refl

pub least_some : (m : Method) (v : Verdict) (chain : Option Chain) (size : ℕ) (c : Chain) → m ≡ Fence → v ≡ verdicts.Minimum size → chain ≡ Some c → least_of m v chain ≡ Some c
least_some m v chain size c by_fences minimum is = ap (λ (x : Method). least_of x v chain) by_fences ∙ ap (λ (x : Verdict). least_of Fence x chain) minimum ∙ is

-- ---- exits

pub other_stage : (stage : Stage) → ((reader : CertificatePieces) → stage ≡ stages.Prefix reader → ⊥) → IsAfterPrefix stage
other_stage (stages.Prefix reader) other = other reader refl
other_stage (stages.Depth c) other = tt
other_stage (stages.Due f) other = tt
other_stage (stages.Begun f) other = tt
other_stage (stages.Within f reader) other = tt
other_stage (stages.End verdict) other = tt
other_stage (stages.Done verdict) other = tt

pub ruleset following = (common_steps)

pub ruleset closing = (common_steps, prefix_over, other_stage)
