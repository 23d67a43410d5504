-- The encoding by single operands (MSV) against the independent program.
use Rattle.std.specs.Prelude.{◌≡◌, List, [], ◌∷◌, map, refl}
use Rattle.op_basis.specs.Closed.{swapped, complement, first_complemented, second_complemented, every_below, swaps}
use Rattle.op_basis.specs.Closed.{negates_both, has_no_negation_at, negates_one, keeps_constants, has_complements}
use Rattle.op_basis.specs.Closed.{is_allowed, left_on_first, left_on_second, right_on_first, right_on_second, reapplies}
use Rattle.op_basis.specs.Closed.{reapplies_all}
use Rattle.chain_theory.specs.Rows.{row_of}
use Rattle.tt_core.specs.Live.{fits_rows, inputs_from, first_fit, is_live, live_among, words_of}
use Rattle.clause_core.specs.Clauses.{has, simplified, written}
use Rattle.enc_theory.specs.Numbering.{x_var, g_var, f_var, s_first, x_is}
use Rattle.enc_theory.specs.Families.{driver, out_exists_at, out_exists, out_value_is, out_value_at, out_value}
use Rattle.enc_theory.specs.Families.{out_values_of, out_values_at, out_values, operator_raw, operator_clause}
use Rattle.enc_theory.specs.Families.{operators_at, operators}
use Rattle.enc_theory.specs.Cuts.{drives, other_operator, not_idle, row_0_at, row_0}
use Rattle.enc_theory.specs.Select.{operand_count, choice_first, choice_var, value_first, value_var, select_vars}
use Rattle.enc_theory.specs.Select.{chooses, choice_exists, choices_exist, operands_exist, copy_raw, copy_row}
use Rattle.enc_theory.specs.Select.{copy_place, copy_step, copies, result_raw, result_clause, result_bit, result_row}
use Rattle.enc_theory.specs.Select.{result_step, results, chosen_chain, rising_pair, rising_from, rising_step, rising}
use Rattle.enc_theory.specs.Select.{choosers, used_step, used_steps, equal_choice, negation_pair, negation_from}
use Rattle.enc_theory.specs.Select.{negation_step, trivial_step, trivial_steps, falling_pair, falling_from}
use Rattle.enc_theory.specs.Select.{falling_step, not_falling, no_reapplication_operand, no_reapplication_operands}
use Rattle.enc_theory.specs.Select.{no_reapplication_from, no_reapplication_after, no_reapplication_step}
use Rattle.enc_theory.specs.Select.{no_reapplication_steps, chosen_cuts, select_live, select_formula}
use Rattle.enc_theory.specs.Vectors.{Vector, vector, with_clause, with_clauses, literal_count, outline, outline_by, expected}

-- tables, operators and size; then the numbers of variables, clauses and literals, and the checksum
abbrev pub select_vectors : List Vector
select_vectors =
    vector 1 (1 ∷ []) (3 ∷ []) 2 0 0 1 0 0
    ∷ vector 1 (1 ∷ []) (3 ∷ []) 2 1 13 43 146 69492997
    ∷ vector 1 (1 ∷ []) (3 ∷ []) 2 2 28 97 332 2667705980
    ∷ vector 1 (1 ∷ []) (3 ∷ []) 2 3 45 168 574 2099903795
    ∷ vector 2 (6 ∷ []) (15 ∷ []) 65535 0 0 1 0 0
    ∷ vector 2 (6 ∷ []) (15 ∷ []) 65535 1 21 70 230 1803758689
    ∷ vector 2 (6 ∷ []) (15 ∷ []) 65535 2 44 172 588 1574237976
    ∷ vector 2 (6 ∷ []) (15 ∷ []) 65535 3 69 318 1122 800886209
    ∷ vector 2 (6 ∷ 9 ∷ []) (15 ∷ 15 ∷ []) 65535 0 0 2 0 0
    ∷ vector 2 (6 ∷ 9 ∷ []) (15 ∷ 15 ∷ []) 65535 1 22 75 241 1679420875
    ∷ vector 2 (6 ∷ 9 ∷ []) (15 ∷ 15 ∷ []) 65535 2 46 181 610 2259639901
    ∷ vector 2 (6 ∷ 9 ∷ []) (15 ∷ 15 ∷ []) 65535 3 72 331 1155 1833121846
    ∷ vector 2 (8 ∷ []) (9 ∷ []) 4 0 0 0 0 0
    ∷ vector 2 (8 ∷ []) (9 ∷ []) 4 1 20 68 232 832875324
    ∷ vector 2 (8 ∷ []) (9 ∷ []) 4 2 42 153 520 2498412498
    ∷ vector 2 (8 ∷ []) (9 ∷ []) 4 3 66 255 864 596578324
    ∷ vector 2 (2 ∷ []) (15 ∷ []) 4 0 0 1 0 0
    ∷ vector 2 (2 ∷ []) (15 ∷ []) 4 1 21 73 242 2189309720
    ∷ vector 2 (2 ∷ []) (15 ∷ []) 4 2 44 162 540 1516535556
    ∷ vector 2 (2 ∷ []) (15 ∷ []) 4 3 69 268 894 1062616852
    ∷ vector 3 (128 ∷ []) (255 ∷ []) 65535 0 0 1 0 0
    ∷ vector 3 (128 ∷ []) (255 ∷ []) 65535 1 35 150 490 975738393
    ∷ vector 3 (128 ∷ []) (255 ∷ []) 65535 2 72 360 1206 3714193612
    ∷ vector 3 (128 ∷ []) (255 ∷ []) 65535 3 111 643 2202 4036333994
    ∷ vector 3 (232 ∷ []) (255 ∷ []) 65535 0 0 1 0 0
    ∷ vector 3 (232 ∷ []) (255 ∷ []) 65535 1 35 150 490 4090546963
    ∷ vector 3 (232 ∷ []) (255 ∷ []) 65535 2 72 360 1206 2457968488
    ∷ vector 3 (232 ∷ []) (255 ∷ []) 65535 3 111 643 2202 799182380
    ∷ vector 3 (150 ∷ 232 ∷ []) (255 ∷ 255 ∷ []) 65535 0 0 2 0 0
    ∷ vector 3 (150 ∷ 232 ∷ []) (255 ∷ 255 ∷ []) 65535 1 36 159 509 1825985693
    ∷ vector 3 (150 ∷ 232 ∷ []) (255 ∷ 255 ∷ []) 65535 2 74 377 1244 1060813307
    ∷ vector 3 (150 ∷ 232 ∷ []) (255 ∷ 255 ∷ []) 65535 3 114 668 2259 1593309913
    ∷ vector 3 (150 ∷ 232 ∷ []) (255 ∷ 255 ∷ []) 17346 0 0 2 0 0
    ∷ vector 3 (150 ∷ 232 ∷ []) (255 ∷ 255 ∷ []) 17346 1 36 152 458 792235127
    ∷ vector 3 (150 ∷ 232 ∷ []) (255 ∷ 255 ∷ []) 17346 2 74 342 1034 765430917
    ∷ vector 3 (150 ∷ 232 ∷ []) (255 ∷ 255 ∷ []) 17346 3 114 573 1730 311923031
    ∷ vector 2 (6 ∷ []) (15 ∷ []) 16384 0 0 1 0 0
    ∷ vector 2 (6 ∷ []) (15 ∷ []) 16384 1 21 76 248 311617753
    ∷ vector 2 (6 ∷ []) (15 ∷ []) 16384 2 44 172 560 3131613997
    ∷ vector 2 (6 ∷ []) (15 ∷ []) 16384 3 69 291 940 2652842122
    ∷ vector 1 (1 ∷ []) (3 ∷ []) 576 0 0 1 0 0
    ∷ vector 1 (1 ∷ []) (3 ∷ []) 576 1 13 42 142 3542827046
    ∷ vector 1 (1 ∷ []) (3 ∷ []) 576 2 28 93 318 3568913621
    ∷ vector 1 (1 ∷ []) (3 ∷ []) 576 3 45 156 532 3399799530
    ∷ vector 3 (196 ∷ 67 ∷ []) (213 ∷ 243 ∷ []) 27030 0 0 1 0 0
    ∷ vector 3 (196 ∷ 67 ∷ []) (213 ∷ 243 ∷ []) 27030 1 35 140 430 4023947858
    ∷ vector 3 (196 ∷ 67 ∷ []) (213 ∷ 243 ∷ []) 27030 2 72 328 1014 2611302386
    ∷ vector 3 (196 ∷ 67 ∷ []) (213 ∷ 243 ∷ []) 27030 3 111 573 1782 2482686455
    ∷ vector 4 (32488 ∷ []) (65535 ∷ []) 65535 0 0 1 0 0
    ∷ vector 4 (32488 ∷ []) (65535 ∷ []) 65535 1 61 319 1008 2445151120
    ∷ vector 4 (32488 ∷ []) (65535 ∷ []) 65535 2 124 745 2398 1331004002
    ∷ vector 4 (32488 ∷ []) (65535 ∷ []) 65535 3 189 1291 4228 4052912845
    ∷ vector 4 (27030 ∷ 32768 ∷ 0 ∷ []) (65535 ∷ 65535 ∷ 1 ∷ []) 322 0 0 2 0 0
    ∷ vector 4 (27030 ∷ 32768 ∷ 0 ∷ []) (65535 ∷ 65535 ∷ 1 ∷ []) 322 1 62 320 932 1586334348
    ∷ vector 4 (27030 ∷ 32768 ∷ 0 ∷ []) (65535 ∷ 65535 ∷ 1 ∷ []) 322 2 126 714 2086 263079167
    ∷ vector 4 (27030 ∷ 32768 ∷ 0 ∷ []) (65535 ∷ 65535 ∷ 1 ∷ []) 322 3 192 1183 3460 1098187935
    ∷ vector 0 (1 ∷ []) (1 ∷ []) 65535 0 0 0 0 0
    ∷ vector 0 (1 ∷ []) (1 ∷ []) 65535 1 7 16 49 2027124687
    ∷ vector 0 (1 ∷ []) (1 ∷ []) 65535 2 16 38 120 1859212344
    ∷ vector 0 (1 ∷ []) (1 ∷ []) 65535 3 27 72 243 2563879866
    ∷ vector 2 (2 ∷ 1 ∷ []) (11 ∷ 1 ∷ []) 2176 0 0 1 0 0
    ∷ vector 2 (2 ∷ 1 ∷ []) (11 ∷ 1 ∷ []) 2176 1 21 71 236 2902041460
    ∷ vector 2 (2 ∷ 1 ∷ []) (11 ∷ 1 ∷ []) 2176 2 44 158 528 2543072513
    ∷ vector 2 (2 ∷ 1 ∷ []) (11 ∷ 1 ∷ []) 2176 3 69 262 876 1233621383
    ∷ []

pub select_is_expected : map (outline_by select_formula) select_vectors ≡ map expected select_vectors
unfolding fits_rows inputs_from first_fit is_live live_among words_of has simplified written x_var g_var f_var s_first
    x_is driver out_exists_at out_exists out_value_is out_value_at out_value out_values_of out_values_at out_values
    operator_raw operator_clause operators_at operators swapped complement first_complemented second_complemented
    every_below swaps negates_both has_no_negation_at negates_one keeps_constants has_complements is_allowed
    left_on_first left_on_second right_on_first right_on_second reapplies reapplies_all row_of drives other_operator
    not_idle row_0_at row_0 with_clause with_clauses literal_count outline operand_count choice_first choice_var
    value_first value_var select_vars chooses choice_exists choices_exist operands_exist copy_raw copy_row copy_place
    copy_step copies result_raw result_clause result_bit result_row result_step results chosen_chain rising_pair
    rising_from rising_step rising choosers used_step used_steps equal_choice negation_pair negation_from negation_step
    trivial_step trivial_steps falling_pair falling_from falling_step not_falling no_reapplication_operand
    no_reapplication_operands no_reapplication_from no_reapplication_after no_reapplication_step no_reapplication_steps
    chosen_cuts select_live select_formula
select_is_expected = refl
