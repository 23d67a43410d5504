-- The lines of a certificate are the lines of its text.
use Rattle.cert_laws.specs.CodingLaws.{HasShortName}
use Rattle.enc_theory.specs.declared.subproblem.Subproblem.{Subproblem}
use Rattle.enc_theory.specs.declared.subproblem.Subproblem.TheVariants.{Whole, Levels}
use Rattle.std.proofs.lemmas.List.Elements.{recursion_from_All}
use Rattle.std.proofs.Common.{◌≡◌, ℕ, zero, suc, ◌+◌, ◌^◌, ◌<◌, ◌==◌, Bool, true, false, cond, List, [], ◌∷◌, ◌++◌}
use Rattle.std.proofs.Common.{length, map, Option, Some, None, refl, sym, ap, ◌∙◌, arith, append_assoc, append-nil}
use Rattle.std.specs.Prelude.{codes, decimal}
use Rattle.std.specs.List.{range_with_len, AllByRecursion, flat_map}
use Rattle.std.proofs.lemmas.Grind.{common_steps, flat_map-append}
use Rattle.text_core.specs.Lines.{Line, lines_of, line_bytes}
use Rattle.text_core.specs.Words.{is_free}
use Rattle.text_core.specs.ReadBack.{line_back, free_both, free_decimal}
use Rattle.chain_theory.specs.declared.data.Cell.{Cell}
use Rattle.chain_theory.specs.declared.data.Cell.TheVariants.{Zero, One, Free}
use Rattle.chain_theory.specs.Chain.{Chain}
use Rattle.sat_theory.specs.Line as theory
use Rattle.sat_theory.specs.Line.{IsLine}
use Rattle.sat_theory.specs.State.{State, next}
use Rattle.sat_theory.specs.Log.{IsStep, EachLine}
use Rattle.lrat_text.specs.Spelling.{line_text}
use Rattle.lrat_text.specs.WholeLines.{text_back}
use Rattle.tt_core.specs.Words.{Words, cell_of}
use Rattle.tt_core.specs.Spelling.{character, inputs_line}
use Rattle.op_basis.specs.Basis.{members}
use Rattle.op_basis.specs.Text.{name_of, list_below, with_word, text_with, basis_text, all_set, u2_set, bench_set, nand_set}
use Rattle.op_basis.specs.Word.{word_text}
use Rattle.chain_core.specs.Steps.{IsSmallChain}
use Rattle.chain_core.specs.Spelling.{line, chain_lines}
use Rattle.chain_core.specs.WrittenBlockLaws.{lines_back, block_written}
use Rattle.settings.specs.declared.methods.Method.{Method}
use Rattle.settings.specs.declared.methods.Method.TheVariants.{Plain, Ssv, Select, Fence, Strong, StrongFence}
use Rattle.cert_theory.specs.declared.data.Header.{Header}
use Rattle.cert_theory.specs.declared.data.LogEnd.{LogEnd}
use Rattle.cert_theory.specs.declared.data.LogEnd.TheVariants as ends
use Rattle.cert_theory.specs.declared.data.Verdict.{Verdict}
use Rattle.cert_theory.specs.declared.data.Verdict.TheVariants as verdicts
use Rattle.settings.specs.Methods.{method_text}
use Rattle.cert_theory.specs.Spelling.{text_of, table_text, table_line, tables_lines, basis_line, method_line}
use Rattle.cert_theory.specs.Spelling.{conflicts_line, max_line, first_text, header_lines, size_line, ended_text}
use Rattle.cert_theory.specs.Spelling.{done_text, log_line, verdict_line, end_text, fence_text, name_lines}

-- lines that are split from their text, whatever follows
pub record IsWhole (ls : List Line) : Type 0 where
  pub back : (rest : List ℕ) → lines_of (text_of ls ++ rest) ≡ ls ++ lines_of rest

pub whole_none : IsWhole []
whole_none = record { back = λ rest. refl }

pub whole_both : (ls ms : List Line) → IsWhole ls → IsWhole ms → IsWhole (ls ++ ms)
whole_both ls ms one two = record {
  back = λ rest.
      ap (λ (xs : List ℕ). lines_of (xs ++ rest)) (flat_map-append line_bytes ls ms)
      ∙ ap lines_of (append_assoc (text_of ls) (text_of ms) rest)
      ∙ one.back (text_of ms ++ rest)
      ∙ ap (λ (xs : List Line). ls ++ xs) (two.back rest)
      ∙ sym (append_assoc ls ms (lines_of rest));
}

pub whole_line : (text : List ℕ) → is_free 10 text ≡ true → IsWhole (line text ∷ [])
whole_line text free = record {
  back = λ rest.
      let bytes : text_of (line text ∷ []) ++ rest ≡ text ++ 10 ∷ rest = ap (λ (xs : List ℕ). xs ++ rest) (append-nil (text ++ 10 ∷ [])) ∙ append_assoc text (10 ∷ []) rest in
      ap lines_of bytes ∙ line_back text rest free;
}

pub whole_log : (l : theory.Line) → IsLine l → IsWhole (log_line l ∷ [])
whole_log l is = record { back = λ rest. ap (λ (xs : List ℕ). lines_of (xs ++ rest)) (append-nil (line_text l)) ∙ text_back l rest is }

pub whole_block : (c : Chain) → IsSmallChain c → IsWhole (chain_lines c)
whole_block c small = record { back = λ rest. lines_back (chain_lines c) rest (block_written c small) }

pub whole_cons : (l : Line) (ls : List Line) → IsWhole (l ∷ []) → IsWhole ls → IsWhole (l ∷ ls)
whole_cons l ls one two = whole_both (l ∷ []) ls one two

-- ---- bytes other than LF

free_word : (word : List ℕ) (n : ℕ) → is_free 10 word ≡ true → n < 2 ^ 64 → is_free 10 (word ++ decimal n) ≡ true
free_word word n free narrow = free_both 10 word (decimal n) free (free_decimal 10 n (omega arith) narrow)

free_character : (c : Cell) → is_free 10 (character c ∷ []) ≡ true
unfolding is_free
free_character Zero = refl
free_character One = refl
free_character Free = refl

nothing_free : is_free 10 [] ≡ true
unfolding is_free
nothing_free = refl

free_cells : (w : Words) (h : ℕ) (ts : List ℕ) → is_free 10 (map (λ t. character (cell_of w h t)) ts) ≡ true
free_cells w h [] = nothing_free
free_cells w h (t ∷ ts) = free_both 10 (character (cell_of w h t) ∷ []) (map (λ t. character (cell_of w h t)) ts) (free_character (cell_of w h t)) (free_cells w h ts)

free_table : (w : Words) (h : ℕ) → is_free 10 (table_text w h) ≡ true
unfolding table_text
free_table w h = free_cells w h (range_with_len 0 (2 ^ w.n))

-- ---- a basis

free_operator : (op : ℕ) → is_free 10 (word_text op) ≡ true
unfolding is_free word_text
free_operator op = grind (arith, common_steps)

free_with : (list word : List ℕ) → is_free 10 list ≡ true → is_free 10 word ≡ true → is_free 10 (with_word list word) ≡ true
unfolding is_free
free_with [] word one two = two
free_with (b ∷ bs) word one two = free_both 10 (b ∷ bs) (44 ∷ word) one two

free_chosen : (b : Bool) (xs ys : List ℕ) → is_free 10 xs ≡ true → is_free 10 ys ≡ true → is_free 10 (cond b xs ys) ≡ true
free_chosen true xs ys one two = one
free_chosen false xs ys one two = two

free_list : (set k : ℕ) → is_free 10 (list_below set k) ≡ true
unfolding list_below is_free
free_list set zero = refl
free_list set (suc k) = free_chosen (members set k) (with_word (list_below set k) (word_text k)) (list_below set k)
    (free_with (list_below set k) (word_text k) (free_list set k) (free_operator k)) (free_list set k)

free_named : (b : Bool) (name : List ℕ) (o : Option (List ℕ)) (list : List ℕ) → is_free 10 name ≡ true →
    is_free 10 (text_with o list) ≡ true → is_free 10 (text_with (cond b (Some name) o) list) ≡ true
free_named true name o list one two = one
free_named false name o list one two = two

free_basis : (set : ℕ) → is_free 10 (basis_text set) ≡ true
unfolding name_of is_free
free_basis set =
    free_named (set == all_set) (codes "all") _ (list_below set 16) refl
    (free_named (set == u2_set) (codes "u2") _ (list_below set 16) refl
    (free_named (set == bench_set) (codes "bench") _ (list_below set 16) refl
    (free_named (set == nand_set) (codes "nand") None (list_below set 16) refl (free_list set 16))))

free_method : (m : Method) → is_free 10 (method_text m) ≡ true
unfolding is_free
free_method Plain = refl
free_method Ssv = refl
free_method Select = refl
free_method Fence = refl
free_method Strong = refl
free_method StrongFence = refl

-- ---- the header

whole_tables : (w : Words) (ks : List ℕ) → IsWhole (map (λ i. table_line w (i + 1)) ks)
whole_tables w [] = whole_none
whole_tables w (k ∷ ks) = whole_cons (table_line w (k + 1)) (map (λ i. table_line w (i + 1)) ks) (whole_line (table_text w (k + 1)) (free_table w (k + 1))) (whole_tables w ks)

free_basis_line : (b : ℕ) → is_free 10 (basis_line b) ≡ true
unfolding basis_line is_free
free_basis_line b = free_both 10 (codes "basis ") (basis_text b) refl (free_basis b)

free_method_line : (m : Method) → is_free 10 (method_line m) ≡ true
unfolding method_line is_free
free_method_line m = free_both 10 (codes "method ") (method_text m) refl (free_method m)

free_conflicts_line : (k : ℕ) → k < 2 ^ 64 → is_free 10 (conflicts_line k) ≡ true
unfolding conflicts_line is_free
free_conflicts_line k narrow = free_word (codes "conflicts ") k refl narrow

free_max_line : (x : ℕ) → x < 2 ^ 64 → is_free 10 (max_line x) ≡ true
unfolding max_line is_free
free_max_line x narrow = free_word (codes "max ") x refl narrow

free_size_line : (size : ℕ) → size < 2 ^ 64 → is_free 10 (size_line size) ≡ true
unfolding size_line is_free
free_size_line size narrow = free_word (codes "size ") size refl narrow

free_inputs : (n : ℕ) → n < 2 ^ 64 → is_free 10 (codes "inputs " ++ decimal n) ≡ true
unfolding is_free
free_inputs n narrow = free_word (codes "inputs ") n refl narrow

free_first : is_free 10 first_text ≡ true
unfolding is_free
free_first = refl

pub whole_header : (h : Header) → h.spec.n < 2 ^ 64 → h.conflicts < 2 ^ 64 → h.max < 2 ^ 64 → IsWhole (header_lines h)
whole_header h inputs conflicts max =
    let four = whole_cons _ _ (whole_line (basis_line h.basis) (free_basis_line h.basis))
    (whole_cons _ _ (whole_line (method_line h.method) (free_method_line h.method))
    (whole_cons _ _ (whole_line (conflicts_line h.conflicts) (free_conflicts_line h.conflicts conflicts))
    (whole_line (max_line h.max) (free_max_line h.max max)))) in
    let tables = whole_cons (inputs_line h.spec.n)
    (map (λ i. table_line h.spec (i + 1)) (range_with_len 0 (length h.spec.on))) (whole_line (codes "inputs " ++
    decimal h.spec.n) (free_inputs h.spec.n inputs)) (whole_tables h.spec (range_with_len 0 (length h.spec.on))) in
    whole_cons (line first_text) _ (whole_line first_text free_first) (whole_both (tables_lines h.spec) _ tables four)

-- ---- logs, and the trailer

pub whole_lines : (s : State) (log : List theory.Line) → EachLine IsStep s log → IsWhole (map log_line log)
unfolding EachLine
whole_lines s [] each = whole_none
whole_lines s (l ∷ ls) each = whole_cons (log_line l) (map log_line ls) (whole_log l each.0.is_line) (whole_lines (next s l) ls each.1)

free_ended : (ended : LogEnd) → is_free 10 (ended_text ended) ≡ true
unfolding is_free
free_ended ends.Refuted = refl
free_ended ends.Open = refl

free_done : is_free 10 done_text ≡ true
unfolding is_free
free_done = refl

free_end : is_free 10 end_text ≡ true
unfolding is_free
free_end = refl

pub whole_ended : (ended : LogEnd) → IsWhole (line (ended_text ended) ∷ [])
whole_ended ended = whole_line (ended_text ended) (free_ended ended)

free_sizes : (sizes : List ℕ) → AllByRecursion (λ size. size < 2 ^ 64) sizes → is_free 10 (flat_map (λ size. 32 ∷ decimal size) sizes) ≡ true
unfolding is_free
free_sizes [] low = refl
free_sizes (q ∷ qs) low = free_both 10 (32 ∷ decimal q) (flat_map (λ size. 32 ∷ decimal size) qs) (free_decimal 10 q (omega arith) low.0) (free_sizes qs low.1)

pub whole_name : (subproblem : Subproblem) → HasShortName subproblem → IsWhole (name_lines subproblem)
unfolding name_lines fence_text HasShortName is_free
whole_name Whole short = whole_none
whole_name (Levels sizes) short = whole_line (codes "fence" ++ flat_map (λ size. 32 ∷ decimal size) sizes)
    (free_both 10 (codes "fence") (flat_map (λ size. 32 ∷ decimal size) sizes) refl
    (free_sizes sizes (recursion_from_All (λ size. size < 2 ^ 64) sizes short)))

pub whole_done : IsWhole (line done_text ∷ [])
whole_done = whole_line done_text free_done

pub whole_end : IsWhole (line end_text ∷ [])
whole_end = whole_line end_text free_end

pub whole_size : (size : ℕ) → size < 2 ^ 64 → IsWhole (line (size_line size) ∷ [])
whole_size size narrow = whole_line (size_line size) (free_size_line size narrow)

-- the numbers of a verdict are short
abbrev pub IsShort : Verdict → Type 0
IsShort (verdicts.Minimum r) = r < 1000000000
IsShort (verdicts.NoChain x) = x < 1000000000
IsShort (verdicts.Bounded low r) = (low < 1000000000) × (r < 1000000000)
IsShort (verdicts.Open low) = low < 1000000000

free_verdict : (v : Verdict) → IsShort v → is_free 10 (verdict_line v) ≡ true
unfolding verdict_line is_free
free_verdict (verdicts.Minimum r) short = free_word (codes "minimum ") r refl (omega arith)
free_verdict (verdicts.NoChain x) short = free_word (codes "none ") x refl (omega arith)
free_verdict (verdicts.Bounded low r) short =
    let both = free_both 10 (decimal low) (32 ∷ decimal r) (free_decimal 10 low (omega arith) (omega (arith, short.0))) (free_decimal 10 r (omega arith) (omega (arith, short.1))) in
    free_both 10 (codes "bounded ") (decimal low ++ 32 ∷ decimal r) refl both
free_verdict (verdicts.Open low) short = free_word (codes "open ") low refl (omega arith)

pub whole_verdict : (v : Verdict) → IsShort v → IsWhole (line (verdict_line v) ∷ [])
whole_verdict v short = whole_line (verdict_line v) (free_verdict v short)
