-- SSV with symmetry-breaking constraints against the independent program.
use Rattle.std.specs.Prelude.{◌≡◌, List, [], ◌∷◌, map, refl}
use Rattle.op_basis.specs.Closed.{swapped, complement, first_complemented, second_complemented, every_below, swaps}
use Rattle.op_basis.specs.Closed.{negates_both, has_no_negation_at, negates_one, keeps_constants, has_complements}
use Rattle.op_basis.specs.Closed.{is_allowed, left_on_first, left_on_second, right_on_first, right_on_second, reapplies}
use Rattle.op_basis.specs.Closed.{reapplies_all}
use Rattle.chain_theory.specs.Rows.{row_of}
use Rattle.tt_core.specs.Live.{fits_rows, inputs_from, first_fit, is_live, live_among, words_of}
use Rattle.clause_core.specs.Clauses.{has, simplified, written}
use Rattle.enc_theory.specs.Numbering.{x_var, g_var, f_var, s_first, x_is}
use Rattle.enc_theory.specs.Pairs.{pairs_of, pairs_with, pairs_below, numbered, laid, slot_count}
use Rattle.enc_theory.specs.Families.{driver, out_exists_at, out_exists, out_value_is, out_value_at, out_value}
use Rattle.enc_theory.specs.Families.{out_values_of, out_values_at, out_values, chosen, pair_exists_at, pair_exists}
use Rattle.enc_theory.specs.Families.{value_raw, value_clause, value_bit, value_row, value_slot, value_step, values}
use Rattle.enc_theory.specs.Families.{operator_raw, operator_clause, operators_at, operators, common}
use Rattle.enc_theory.specs.Cuts.{drives, reader, readers, used_by, used, other_operator, not_idle, equal_raw}
use Rattle.enc_theory.specs.Cuts.{equal_slot, equal_pair, negation_raw, negations, not_trivial_at, not_trivial}
use Rattle.enc_theory.specs.Cuts.{comes_before, not_both, order_pair, order_slot, order_with, order, is_reapplication}
use Rattle.enc_theory.specs.Cuts.{no_reapplication_pair, no_reapplication_slot, has_place, no_reapplication_later}
use Rattle.enc_theory.specs.Cuts.{no_reapplication_all, no_reapplication, same_at, same_output, may_exchange}
use Rattle.enc_theory.specs.Cuts.{reader_without, readers_without, exchange_slot, exchange_steps, exchange_pair}
use Rattle.enc_theory.specs.Cuts.{exchange_with, exchange, row_0_at, row_0, cuts}
use Rattle.enc_theory.specs.Ssv.{ssv_live, ssv_formula}
use Rattle.enc_theory.specs.Vectors.{Vector, vector, with_clause, with_clauses, literal_count, outline, outline_by, expected}

-- tables, operators and size; then the numbers of variables, clauses and literals, and the checksum
abbrev pub ssv_vectors : List Vector
ssv_vectors =
    vector 1 (1 ∷ []) (3 ∷ []) 2 0 0 1 0 0
    ∷ vector 1 (1 ∷ []) (3 ∷ []) 2 1 8 26 83 973023888
    ∷ vector 1 (1 ∷ []) (3 ∷ []) 2 2 18 70 240 306416807
    ∷ vector 1 (1 ∷ []) (3 ∷ []) 2 3 31 155 566 3939283964
    ∷ vector 2 (6 ∷ []) (15 ∷ []) 65535 0 0 1 0 0
    ∷ vector 2 (6 ∷ []) (15 ∷ []) 65535 1 12 43 124 4224581782
    ∷ vector 2 (6 ∷ []) (15 ∷ []) 65535 2 27 143 469 1990094967
    ∷ vector 2 (6 ∷ []) (15 ∷ []) 65535 3 46 347 1231 4072167063
    ∷ vector 2 (6 ∷ 9 ∷ []) (15 ∷ 15 ∷ []) 65535 0 0 2 0 0
    ∷ vector 2 (6 ∷ 9 ∷ []) (15 ∷ 15 ∷ []) 65535 1 13 48 135 473657096
    ∷ vector 2 (6 ∷ 9 ∷ []) (15 ∷ 15 ∷ []) 65535 2 29 152 491 1650127206
    ∷ vector 2 (6 ∷ 9 ∷ []) (15 ∷ 15 ∷ []) 65535 3 49 360 1264 2599429261
    ∷ vector 2 (8 ∷ []) (9 ∷ []) 4 0 0 0 0 0
    ∷ vector 2 (8 ∷ []) (9 ∷ []) 4 1 12 52 167 469790869
    ∷ vector 2 (8 ∷ []) (9 ∷ []) 4 2 29 192 682 1711680607
    ∷ vector 2 (8 ∷ []) (9 ∷ []) 4 3 53 507 1931 1608347412
    ∷ vector 2 (2 ∷ []) (15 ∷ []) 4 0 0 1 0 0
    ∷ vector 2 (2 ∷ []) (15 ∷ []) 4 1 13 56 176 303607155
    ∷ vector 2 (2 ∷ []) (15 ∷ []) 4 2 31 197 695 666911181
    ∷ vector 2 (2 ∷ []) (15 ∷ []) 4 3 56 511 1929 4216543021
    ∷ vector 3 (128 ∷ []) (255 ∷ []) 65535 0 0 1 0 0
    ∷ vector 3 (128 ∷ []) (255 ∷ []) 65535 1 19 126 362 3682830315
    ∷ vector 3 (128 ∷ []) (255 ∷ []) 65535 2 42 408 1319 394132761
    ∷ vector 3 (128 ∷ []) (255 ∷ []) 65535 3 70 933 3262 3201567088
    ∷ vector 3 (232 ∷ []) (255 ∷ []) 65535 0 0 1 0 0
    ∷ vector 3 (232 ∷ []) (255 ∷ []) 65535 1 19 126 362 1511008997
    ∷ vector 3 (232 ∷ []) (255 ∷ []) 65535 2 42 408 1319 1888516605
    ∷ vector 3 (232 ∷ []) (255 ∷ []) 65535 3 70 933 3262 2861550706
    ∷ vector 3 (150 ∷ 232 ∷ []) (255 ∷ 255 ∷ []) 65535 0 0 2 0 0
    ∷ vector 3 (150 ∷ 232 ∷ []) (255 ∷ 255 ∷ []) 65535 1 20 135 381 2371370249
    ∷ vector 3 (150 ∷ 232 ∷ []) (255 ∷ 255 ∷ []) 65535 2 44 425 1357 720163018
    ∷ vector 3 (150 ∷ 232 ∷ []) (255 ∷ 255 ∷ []) 65535 3 73 958 3319 1592001543
    ∷ vector 3 (150 ∷ 232 ∷ []) (255 ∷ 255 ∷ []) 17346 0 0 2 0 0
    ∷ vector 3 (150 ∷ 232 ∷ []) (255 ∷ 255 ∷ []) 17346 1 20 138 388 2376166963
    ∷ vector 3 (150 ∷ 232 ∷ []) (255 ∷ 255 ∷ []) 17346 2 44 422 1351 1098024828
    ∷ vector 3 (150 ∷ 232 ∷ []) (255 ∷ 255 ∷ []) 17346 3 73 933 3266 1822046813
    ∷ vector 2 (6 ∷ []) (15 ∷ []) 16384 0 0 1 0 0
    ∷ vector 2 (6 ∷ []) (15 ∷ []) 16384 1 12 51 154 190628396
    ∷ vector 2 (6 ∷ []) (15 ∷ []) 16384 2 27 155 519 1124254235
    ∷ vector 2 (6 ∷ []) (15 ∷ []) 16384 3 46 354 1281 1542372678
    ∷ vector 1 (1 ∷ []) (3 ∷ []) 576 0 0 1 0 0
    ∷ vector 1 (1 ∷ []) (3 ∷ []) 576 1 8 25 80 2542836596
    ∷ vector 1 (1 ∷ []) (3 ∷ []) 576 2 18 66 231 1548249281
    ∷ vector 1 (1 ∷ []) (3 ∷ []) 576 3 31 143 542 3216311868
    ∷ vector 3 (196 ∷ 67 ∷ []) (213 ∷ 243 ∷ []) 27030 0 0 1 0 0
    ∷ vector 3 (196 ∷ 67 ∷ []) (213 ∷ 243 ∷ []) 27030 1 19 120 354 577701139
    ∷ vector 3 (196 ∷ 67 ∷ []) (213 ∷ 243 ∷ []) 27030 2 42 393 1280 3726711831
    ∷ vector 3 (196 ∷ 67 ∷ []) (213 ∷ 243 ∷ []) 27030 3 70 906 3145 2608005461
    ∷ vector 4 (32488 ∷ []) (65535 ∷ []) 65535 0 0 1 0 0
    ∷ vector 4 (32488 ∷ []) (65535 ∷ []) 65535 1 31 372 1072 272495150
    ∷ vector 4 (32488 ∷ []) (65535 ∷ []) 65535 2 67 1132 3640 3566992461
    ∷ vector 4 (27030 ∷ 32768 ∷ 0 ∷ []) (65535 ∷ 65535 ∷ 1 ∷ []) 322 0 0 2 0 0
    ∷ vector 4 (27030 ∷ 32768 ∷ 0 ∷ []) (65535 ∷ 65535 ∷ 1 ∷ []) 322 1 32 395 1124 2575290610
    ∷ vector 4 (27030 ∷ 32768 ∷ 0 ∷ []) (65535 ∷ 65535 ∷ 1 ∷ []) 322 2 69 1161 3710 1691283114
    ∷ vector 0 (1 ∷ []) (1 ∷ []) 65535 0 0 0 0 0
    ∷ vector 0 (1 ∷ []) (1 ∷ []) 65535 1 5 9 25 1530202149
    ∷ vector 0 (1 ∷ []) (1 ∷ []) 65535 2 11 24 74 3828080416
    ∷ vector 0 (1 ∷ []) (1 ∷ []) 65535 3 19 54 192 597107871
    ∷ vector 2 (2 ∷ 1 ∷ []) (11 ∷ 1 ∷ []) 2176 0 0 1 0 0
    ∷ vector 2 (2 ∷ 1 ∷ []) (11 ∷ 1 ∷ []) 2176 1 13 54 170 684069283
    ∷ vector 2 (2 ∷ 1 ∷ []) (11 ∷ 1 ∷ []) 2176 2 31 193 683 2016547810
    ∷ vector 2 (2 ∷ 1 ∷ []) (11 ∷ 1 ∷ []) 2176 3 56 505 1911 2430321134
    ∷ []

pub ssv_is_expected : map (outline_by ssv_formula) ssv_vectors ≡ map expected ssv_vectors
unfolding fits_rows inputs_from first_fit is_live live_among words_of has simplified written x_var g_var f_var s_first
    x_is pairs_of pairs_with pairs_below numbered laid slot_count driver out_exists_at out_exists out_value_is
    out_value_at out_value out_values_of out_values_at out_values chosen pair_exists_at pair_exists value_raw
    value_clause value_bit value_row value_slot value_step values operator_raw operator_clause operators_at operators
    common swapped complement first_complemented second_complemented every_below swaps negates_both has_no_negation_at
    negates_one keeps_constants has_complements is_allowed left_on_first left_on_second right_on_first right_on_second
    reapplies reapplies_all row_of drives reader readers used_by used other_operator not_idle equal_raw equal_slot
    equal_pair negation_raw negations not_trivial_at not_trivial comes_before not_both order_pair order_slot order_with
    order is_reapplication no_reapplication_pair no_reapplication_slot has_place no_reapplication_later
    no_reapplication_all no_reapplication same_at same_output may_exchange reader_without readers_without exchange_slot
    exchange_steps exchange_pair exchange_with exchange row_0_at row_0 cuts ssv_live ssv_formula with_clause
    with_clauses literal_count outline
ssv_is_expected = refl
