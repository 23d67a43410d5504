-- The formulas with the exchange cut against an independent program.
use Rattle.op_basis.specs.Closed.{swapped, complement, first_complemented, second_complemented, every_below, swaps}
use Rattle.op_basis.specs.Closed.{negates_both, has_no_negation_at, negates_one, keeps_constants, has_complements}
use Rattle.op_basis.specs.Closed.{is_allowed, left_on_first, left_on_second, right_on_first, right_on_second, reapplies}
use Rattle.op_basis.specs.Closed.{reapplies_all}
use Rattle.chain_theory.specs.Rows.{row_of}
use Rattle.tt_core.specs.Live.{fits_rows, inputs_from, first_fit, is_live, live_among, words_of}
use Rattle.clause_core.specs.Clauses.{has, simplified, written}
use Rattle.enc_theory.specs.Numbering.{x_var, g_var, f_var, s_first, x_is}
use Rattle.enc_theory.specs.Pairs.{pairs_of, pairs_with, pairs_below, numbered, laid, slot_count}
use Rattle.enc_theory.specs.Families.{driver, out_exists_at, out_exists, out_value_is, out_value_at, out_value}
use Rattle.enc_theory.specs.Families.{out_values_of, out_values_at, out_values, chosen, pair_exists_at, pair_exists}
use Rattle.enc_theory.specs.Families.{value_raw, value_clause, value_bit, value_row, value_slot, value_step, values}
use Rattle.enc_theory.specs.Families.{operator_raw, operator_clause, operators_at, operators, common}
use Rattle.enc_theory.specs.Cuts.{drives, reader, readers, used_by, used, other_operator, not_idle, equal_raw}
use Rattle.enc_theory.specs.Cuts.{equal_slot, equal_pair, negation_raw, negations, not_trivial_at, not_trivial}
use Rattle.enc_theory.specs.Cuts.{comes_before, not_both, order_pair, order_slot, order_with, order, is_reapplication}
use Rattle.enc_theory.specs.Cuts.{no_reapplication_pair, no_reapplication_slot, has_place, no_reapplication_later}
use Rattle.enc_theory.specs.Cuts.{no_reapplication_all, no_reapplication, same_at, same_output, may_exchange}
use Rattle.enc_theory.specs.Cuts.{reader_without, readers_without, exchange_slot, exchange_steps, exchange_pair}
use Rattle.enc_theory.specs.Cuts.{exchange_with, exchange, row_0_at, row_0, cuts}
use Rattle.std.specs.Prelude.{◌≡◌, List, [], ◌∷◌, map, refl}
use Rattle.enc_theory.specs.Ssv.{ssv_live}
use Rattle.enc_theory.specs.Fence.{places_under, fence_pairs, fence_live}
use Rattle.enc_theory.specs.Vectors.{Outline, Vector, vector, with_clause, with_clauses, literal_count, outline, outline_by, expected}
use Rattle.enc_theory.specs.FenceVectors.{Fenced, fenced, expected_of}
use Rattle.strong_theory.specs.Edges.{same_at as same_input, agree_but, output_differs, some_output_differs, is_edge, edge_at, edges_along, edges}
use Rattle.strong_theory.specs.Strong.{precedes, one_of, one_pair_slot, one_pair_step, one_pair, d_var, differs, value_differs}
use Rattle.strong_theory.specs.Strong.{values_differ, operand_differs, other_readers, sole_reader, or_others, edge_step}
use Rattle.strong_theory.specs.Strong.{edge_steps, differences, strengthened}
use Rattle.npn_strong.specs.Cut.{kept_at, kept_output, kept_outputs, kept_by, may_exchange_complemented, npn_pair, npn_with}
use Rattle.npn_strong.specs.Cut.{npn_exchange, with_exchanges, npn_live, npn_formula, npn_fence_live, npn_fence_formula}

-- tables, operators and size; then the numbers of variables, clauses and literals, and the checksum
abbrev pub npn_vectors : List Vector
npn_vectors =
    vector 2 (4 ∷ []) (15 ∷ []) 65535 1 14 60 166 2399684437
    ∷ vector 2 (4 ∷ []) (15 ∷ []) 65535 2 31 195 617 4222428237
    ∷ vector 2 (4 ∷ []) (15 ∷ []) 64959 2 31 199 633 1028253789
    ∷ vector 2 (4 ∷ []) (15 ∷ []) 6 2 35 279 937 3055006707
    ∷ vector 2 (6 ∷ 9 ∷ []) (15 ∷ 15 ∷ []) 65535 2 37 238 751 2803934483
    ∷ vector 2 (4 ∷ 2 ∷ []) (15 ∷ 15 ∷ []) 65535 2 37 238 751 2538122375
    ∷ vector 2 (2 ∷ []) (11 ∷ []) 65535 2 31 193 613 2234260698
    ∷ vector 3 (32 ∷ []) (255 ∷ []) 65535 1 22 171 464 2113724395
    ∷ vector 3 (32 ∷ []) (255 ∷ []) 65535 2 48 540 1688 343439424
    ∷ vector 3 (77 ∷ []) (255 ∷ []) 65535 2 54 612 1937 430553745
    ∷ vector 3 (129 ∷ []) (195 ∷ []) 65535 2 46 498 1567 4220314032
    ∷ vector 3 (129 ∷ 16 ∷ []) (195 ∷ 48 ∷ []) 65535 1 23 164 457 2867944723
    ∷ vector 3 (150 ∷ 142 ∷ []) (255 ∷ 255 ∷ []) 65535 1 32 270 699 2459864122
    ∷ vector 3 (27 ∷ []) (255 ∷ []) 64959 2 54 606 1931 2739472460
    ∷ []

-- and with a fence after the size
abbrev pub npn_fence_vectors : List Fenced
npn_fence_vectors =
    fenced 2 (4 ∷ []) (15 ∷ []) 65535 2 (1 ∷ 1 ∷ []) 28 145 470 2383755681
    ∷ fenced 3 (32 ∷ []) (255 ∷ []) 65535 2 (1 ∷ 1 ∷ []) 42 360 1160 250127710
    ∷ fenced 3 (77 ∷ []) (255 ∷ []) 65535 3 (2 ∷ 1 ∷ []) 78 895 3151 4198320329
    ∷ fenced 3 (27 ∷ []) (255 ∷ []) 65535 3 (2 ∷ 1 ∷ []) 78 883 3115 3398194683
    ∷ fenced 3 (150 ∷ 142 ∷ []) (255 ∷ 255 ∷ []) 65535 2 (2 ∷ []) 64 553 1656 1290897587
    ∷ []

abbrev pub npn_outline_of : Fenced → Outline
npn_outline_of v = outline (npn_fence_formula v.vector.tables v.vector.basis v.vector.size v.fence)

pub npn_is_expected : map (outline_by npn_formula) npn_vectors ≡ map expected npn_vectors
unfolding fits_rows inputs_from first_fit is_live live_among words_of has simplified written x_var g_var f_var s_first
    x_is pairs_of pairs_with pairs_below numbered laid slot_count driver out_exists_at out_exists out_value_is
    out_value_at out_value out_values_of out_values_at out_values chosen pair_exists_at pair_exists value_raw
    value_clause value_bit value_row value_slot value_step values operator_raw operator_clause operators_at operators
    common swapped complement first_complemented second_complemented every_below swaps negates_both has_no_negation_at
    negates_one keeps_constants has_complements is_allowed left_on_first left_on_second right_on_first right_on_second
    reapplies reapplies_all row_of drives reader readers used_by used other_operator not_idle equal_raw equal_slot
    equal_pair negation_raw negations not_trivial_at not_trivial comes_before not_both order_pair order_slot order_with
    order is_reapplication no_reapplication_pair no_reapplication_slot has_place no_reapplication_later
    no_reapplication_all no_reapplication same_at same_output may_exchange reader_without readers_without exchange_slot
    exchange_steps exchange_pair exchange_with exchange row_0_at row_0 cuts ssv_live with_clause
    with_clauses literal_count outline
    same_input agree_but output_differs some_output_differs is_edge edge_at edges_along edges precedes one_of one_pair_slot
    one_pair_step one_pair d_var differs value_differs values_differ operand_differs other_readers sole_reader or_others
    edge_step edge_steps differences strengthened kept_at kept_output kept_outputs kept_by may_exchange_complemented
    npn_pair npn_with npn_exchange with_exchanges npn_live npn_formula
npn_is_expected = refl

pub npn_fence_is_expected : map npn_outline_of npn_fence_vectors ≡ map expected_of npn_fence_vectors
unfolding fits_rows inputs_from first_fit is_live live_among words_of has simplified written x_var g_var f_var s_first
    x_is pairs_of pairs_with pairs_below numbered laid slot_count driver out_exists_at out_exists out_value_is
    out_value_at out_value out_values_of out_values_at out_values chosen pair_exists_at pair_exists value_raw
    value_clause value_bit value_row value_slot value_step values operator_raw operator_clause operators_at operators
    common swapped complement first_complemented second_complemented every_below swaps negates_both has_no_negation_at
    negates_one keeps_constants has_complements is_allowed left_on_first left_on_second right_on_first right_on_second
    reapplies reapplies_all row_of drives reader readers used_by used other_operator not_idle equal_raw equal_slot
    equal_pair negation_raw negations not_trivial_at not_trivial comes_before not_both order_pair order_slot order_with
    order is_reapplication no_reapplication_pair no_reapplication_slot has_place no_reapplication_later
    no_reapplication_all no_reapplication same_at same_output may_exchange reader_without readers_without exchange_slot
    exchange_steps exchange_pair exchange_with exchange row_0_at row_0 cuts with_clause
    with_clauses literal_count outline
    same_input agree_but output_differs some_output_differs is_edge edge_at edges_along edges precedes one_of one_pair_slot
    one_pair_step one_pair d_var differs value_differs values_differ operand_differs other_readers sole_reader or_others
    edge_step edge_steps differences strengthened places_under fence_pairs fence_live kept_at kept_output kept_outputs kept_by
    may_exchange_complemented npn_pair npn_with npn_exchange with_exchanges npn_fence_live npn_fence_formula
npn_fence_is_expected = refl
