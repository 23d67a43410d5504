-- The stronger formulas against an independent program.
use Rattle.op_basis.specs.Closed.{swapped, complement, first_complemented, second_complemented, every_below, swaps}
use Rattle.op_basis.specs.Closed.{negates_both, has_no_negation_at, negates_one, keeps_constants, has_complements}
use Rattle.op_basis.specs.Closed.{is_allowed, left_on_first, left_on_second, right_on_first, right_on_second, reapplies}
use Rattle.op_basis.specs.Closed.{reapplies_all}
use Rattle.chain_theory.specs.Rows.{row_of}
use Rattle.tt_core.specs.Live.{fits_rows, inputs_from, first_fit, is_live, live_among, words_of}
use Rattle.clause_core.specs.Clauses.{has, simplified, written}
use Rattle.enc_theory.specs.Numbering.{x_var, g_var, f_var, s_first, x_is}
use Rattle.enc_theory.specs.Pairs.{pairs_of, pairs_with, pairs_below, numbered, laid, slot_count}
use Rattle.enc_theory.specs.Families.{driver, out_exists_at, out_exists, out_value_is, out_value_at, out_value}
use Rattle.enc_theory.specs.Families.{out_values_of, out_values_at, out_values, chosen, pair_exists_at, pair_exists}
use Rattle.enc_theory.specs.Families.{value_raw, value_clause, value_bit, value_row, value_slot, value_step, values}
use Rattle.enc_theory.specs.Families.{operator_raw, operator_clause, operators_at, operators, common}
use Rattle.enc_theory.specs.Cuts.{drives, reader, readers, used_by, used, other_operator, not_idle, equal_raw}
use Rattle.enc_theory.specs.Cuts.{equal_slot, equal_pair, negation_raw, negations, not_trivial_at, not_trivial}
use Rattle.enc_theory.specs.Cuts.{comes_before, not_both, order_pair, order_slot, order_with, order, is_reapplication}
use Rattle.enc_theory.specs.Cuts.{no_reapplication_pair, no_reapplication_slot, has_place, no_reapplication_later}
use Rattle.enc_theory.specs.Cuts.{no_reapplication_all, no_reapplication, same_at, same_output, may_exchange}
use Rattle.enc_theory.specs.Cuts.{reader_without, readers_without, exchange_slot, exchange_steps, exchange_pair}
use Rattle.enc_theory.specs.Cuts.{exchange_with, exchange, row_0_at, row_0, cuts}
use Rattle.std.specs.Prelude.{◌≡◌, List, [], ◌∷◌, map, refl}
use Rattle.enc_theory.specs.Ssv.{ssv_live}
use Rattle.enc_theory.specs.Fence.{places_under, fence_pairs, fence_live}
use Rattle.enc_theory.specs.Vectors.{Outline, Vector, vector, with_clause, with_clauses, literal_count, outline, outline_by, expected}
use Rattle.enc_theory.specs.FenceVectors.{Fenced, fenced, expected_of}
use Rattle.strong_theory.specs.Edges.{same_at as same_input, agree_but, output_differs, some_output_differs, is_edge, edge_at, edges_along, edges}
use Rattle.strong_theory.specs.Strong.{precedes, one_of, one_pair_slot, one_pair_step, one_pair, d_var, differs, value_differs}
use Rattle.strong_theory.specs.Strong.{values_differ, operand_differs, other_readers, sole_reader, or_others, edge_step}
use Rattle.strong_theory.specs.Strong.{edge_steps, differences, strengthened, strong_live, strong_formula}
use Rattle.strong_theory.specs.Strong.{strong_fence_live, strong_fence_formula}

-- tables, operators and size; then the numbers of variables, clauses and literals, and the checksum
abbrev pub strong_vectors : List Vector
strong_vectors =
    vector 1 (1 ∷ []) (3 ∷ []) 2 0 0 1 0 0
    ∷ vector 1 (1 ∷ []) (3 ∷ []) 2 1 9 31 97 1387056767
    ∷ vector 1 (1 ∷ []) (3 ∷ []) 2 2 20 85 283 3515134369
    ∷ vector 2 (6 ∷ []) (15 ∷ []) 65535 0 0 1 0 0
    ∷ vector 2 (6 ∷ []) (15 ∷ []) 65535 1 16 74 202 3274615590
    ∷ vector 2 (6 ∷ []) (15 ∷ []) 65535 2 35 229 729 845969380
    ∷ vector 2 (6 ∷ 9 ∷ []) (15 ∷ 15 ∷ []) 65535 0 0 2 0 0
    ∷ vector 2 (6 ∷ 9 ∷ []) (15 ∷ 15 ∷ []) 65535 1 17 79 213 1481217556
    ∷ vector 2 (6 ∷ 9 ∷ []) (15 ∷ 15 ∷ []) 65535 2 37 238 751 2803934483
    ∷ vector 2 (8 ∷ []) (9 ∷ []) 4 0 0 0 0 0
    ∷ vector 2 (8 ∷ []) (9 ∷ []) 4 1 12 58 179 2898985423
    ∷ vector 2 (8 ∷ []) (9 ∷ []) 4 2 29 234 766 4258059557
    ∷ vector 2 (2 ∷ []) (15 ∷ []) 4 0 0 1 0 0
    ∷ vector 2 (2 ∷ []) (15 ∷ []) 4 1 15 78 228 4236839521
    ∷ vector 2 (2 ∷ []) (15 ∷ []) 4 2 35 281 945 2818999355
    ∷ vector 2 (6 ∷ []) (15 ∷ []) 16384 0 0 1 0 0
    ∷ vector 2 (6 ∷ []) (15 ∷ []) 16384 1 16 82 232 2781623632
    ∷ vector 2 (6 ∷ []) (15 ∷ []) 16384 2 35 241 779 1433969800
    ∷ vector 2 (2 ∷ 1 ∷ []) (11 ∷ 1 ∷ []) 2176 0 0 1 0 0
    ∷ vector 2 (2 ∷ 1 ∷ []) (11 ∷ 1 ∷ []) 2176 1 15 76 222 810644113
    ∷ vector 2 (2 ∷ 1 ∷ []) (11 ∷ 1 ∷ []) 2176 2 35 277 933 1247200656
    ∷ vector 2 (6 ∷ []) (15 ∷ []) 65535 3 58 534 1893 2491699199
    ∷ vector 3 (128 ∷ []) (255 ∷ []) 65535 1 22 171 464 2255818393
    ∷ vector 3 (128 ∷ []) (255 ∷ []) 65535 2 48 540 1688 766576840
    ∷ vector 3 (150 ∷ 232 ∷ []) (255 ∷ 255 ∷ []) 65535 2 68 773 2473 2048154888
    ∷ vector 3 (150 ∷ 232 ∷ []) (255 ∷ 255 ∷ []) 17346 1 32 273 706 557757520
    ∷ vector 3 (196 ∷ 67 ∷ []) (213 ∷ 243 ∷ []) 27030 2 50 549 1732 3629354468
    ∷ []

-- and with a fence after the size
abbrev pub strong_fence_vectors : List Fenced
strong_fence_vectors =
    fenced 1 (1 ∷ []) (3 ∷ []) 2 1 (1 ∷ []) 9 31 97 1387056767
    ∷ fenced 2 (6 ∷ []) (15 ∷ []) 65535 2 (1 ∷ 1 ∷ []) 32 173 554 1899432600
    ∷ fenced 2 (6 ∷ 9 ∷ []) (15 ∷ 15 ∷ []) 65535 2 (2 ∷ []) 34 159 465 1884463496
    ∷ fenced 2 (6 ∷ 9 ∷ []) (15 ∷ 15 ∷ []) 65535 3 (1 ∷ 2 ∷ []) 51 288 954 4254109719
    ∷ fenced 2 (2 ∷ 1 ∷ []) (11 ∷ 1 ∷ []) 2176 3 (2 ∷ 1 ∷ []) 53 499 1866 1891742494
    ∷ fenced 3 (128 ∷ []) (255 ∷ []) 65535 2 (1 ∷ 1 ∷ []) 42 360 1160 4267729958
    ∷ fenced 3 (232 ∷ []) (255 ∷ []) 65535 3 (2 ∷ 1 ∷ []) 78 895 3151 49884401
    ∷ fenced 3 (150 ∷ 232 ∷ []) (255 ∷ 255 ∷ []) 17346 2 (2 ∷ []) 64 559 1670 424077541
    ∷ fenced 3 (196 ∷ 67 ∷ []) (213 ∷ 243 ∷ []) 27030 2 (1 ∷ 1 ∷ []) 44 369 1198 3972872614
    ∷ []

abbrev pub strong_outline_of : Fenced → Outline
strong_outline_of v = outline (strong_fence_formula v.vector.tables v.vector.basis v.vector.size v.fence)

pub strong_is_expected : map (outline_by strong_formula) strong_vectors ≡ map expected strong_vectors
unfolding fits_rows inputs_from first_fit is_live live_among words_of has simplified written x_var g_var f_var s_first
    x_is pairs_of pairs_with pairs_below numbered laid slot_count driver out_exists_at out_exists out_value_is
    out_value_at out_value out_values_of out_values_at out_values chosen pair_exists_at pair_exists value_raw
    value_clause value_bit value_row value_slot value_step values operator_raw operator_clause operators_at operators
    common swapped complement first_complemented second_complemented every_below swaps negates_both has_no_negation_at
    negates_one keeps_constants has_complements is_allowed left_on_first left_on_second right_on_first right_on_second
    reapplies reapplies_all row_of drives reader readers used_by used other_operator not_idle equal_raw equal_slot
    equal_pair negation_raw negations not_trivial_at not_trivial comes_before not_both order_pair order_slot order_with
    order is_reapplication no_reapplication_pair no_reapplication_slot has_place no_reapplication_later
    no_reapplication_all no_reapplication same_at same_output may_exchange reader_without readers_without exchange_slot
    exchange_steps exchange_pair exchange_with exchange row_0_at row_0 cuts ssv_live with_clause
    with_clauses literal_count outline
    same_input agree_but output_differs some_output_differs is_edge edge_at edges_along edges precedes one_of one_pair_slot
    one_pair_step one_pair d_var differs value_differs values_differ operand_differs other_readers sole_reader or_others
    edge_step edge_steps differences strengthened strong_live strong_formula
strong_is_expected = refl

pub strong_fence_is_expected : map strong_outline_of strong_fence_vectors ≡ map expected_of strong_fence_vectors
unfolding fits_rows inputs_from first_fit is_live live_among words_of has simplified written x_var g_var f_var s_first
    x_is pairs_of pairs_with pairs_below numbered laid slot_count driver out_exists_at out_exists out_value_is
    out_value_at out_value out_values_of out_values_at out_values chosen pair_exists_at pair_exists value_raw
    value_clause value_bit value_row value_slot value_step values operator_raw operator_clause operators_at operators
    common swapped complement first_complemented second_complemented every_below swaps negates_both has_no_negation_at
    negates_one keeps_constants has_complements is_allowed left_on_first left_on_second right_on_first right_on_second
    reapplies reapplies_all row_of drives reader readers used_by used other_operator not_idle equal_raw equal_slot
    equal_pair negation_raw negations not_trivial_at not_trivial comes_before not_both order_pair order_slot order_with
    order is_reapplication no_reapplication_pair no_reapplication_slot has_place no_reapplication_later
    no_reapplication_all no_reapplication same_at same_output may_exchange reader_without readers_without exchange_slot
    exchange_steps exchange_pair exchange_with exchange row_0_at row_0 cuts with_clause
    with_clauses literal_count outline
    same_input agree_but output_differs some_output_differs is_edge edge_at edges_along edges precedes one_of one_pair_slot
    one_pair_step one_pair d_var differs value_differs values_differ operand_differs other_readers sole_reader or_others
    edge_step edge_steps differences strengthened places_under fence_pairs fence_live strong_fence_live
    strong_fence_formula
strong_fence_is_expected = refl
