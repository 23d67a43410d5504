-- The encoding by fences against the independent program.
use Rattle.std.specs.Prelude.{◌≡◌, ℕ, List, [], ◌∷◌, map, refl}
use Rattle.op_basis.specs.Closed.{swapped, complement, first_complemented, second_complemented, every_below, swaps}
use Rattle.op_basis.specs.Closed.{negates_both, has_no_negation_at, negates_one, keeps_constants, has_complements}
use Rattle.op_basis.specs.Closed.{is_allowed, left_on_first, left_on_second, right_on_first, right_on_second, reapplies}
use Rattle.op_basis.specs.Closed.{reapplies_all}
use Rattle.chain_theory.specs.Rows.{row_of}
use Rattle.tt_core.specs.Live.{fits_rows, inputs_from, first_fit, is_live, live_among, words_of}
use Rattle.clause_core.specs.Clauses.{has, simplified, written}
use Rattle.enc_theory.specs.Numbering.{x_var, g_var, f_var, s_first, x_is}
use Rattle.enc_theory.specs.Pairs.{pairs_of, pairs_with, pairs_below, numbered, laid, slot_count}
use Rattle.enc_theory.specs.Families.{driver, out_exists_at, out_exists, out_value_is, out_value_at, out_value}
use Rattle.enc_theory.specs.Families.{out_values_of, out_values_at, out_values, chosen, pair_exists_at, pair_exists}
use Rattle.enc_theory.specs.Families.{value_raw, value_clause, value_bit, value_row, value_slot, value_step, values}
use Rattle.enc_theory.specs.Families.{operator_raw, operator_clause, operators_at, operators, common}
use Rattle.enc_theory.specs.Cuts.{drives, reader, readers, used_by, used, other_operator, not_idle, equal_raw}
use Rattle.enc_theory.specs.Cuts.{equal_slot, equal_pair, negation_raw, negations, not_trivial_at, not_trivial}
use Rattle.enc_theory.specs.Cuts.{comes_before, not_both, order_pair, order_slot, order_with, order, is_reapplication}
use Rattle.enc_theory.specs.Cuts.{no_reapplication_pair, no_reapplication_slot, has_place, no_reapplication_later}
use Rattle.enc_theory.specs.Cuts.{no_reapplication_all, no_reapplication, same_at, same_output, may_exchange}
use Rattle.enc_theory.specs.Cuts.{reader_without, readers_without, exchange_slot, exchange_steps, exchange_pair}
use Rattle.enc_theory.specs.Cuts.{exchange_with, exchange, row_0_at, row_0, cuts}
use Rattle.enc_theory.specs.Fence.{places_under, fence_pairs, fence_live, fence_formula}
use Rattle.enc_theory.specs.Vectors.{Outline, Vector, vector, with_clause, with_clauses, literal_count, outline, expected}

-- a vector, and its fence
pub record Fenced : Type 0 where
  pub vector : Vector
  pub fence : List ℕ

abbrev pub fenced : ℕ → List ℕ → List ℕ → ℕ → ℕ → List ℕ → ℕ → ℕ → ℕ → ℕ → Fenced
fenced n on care basis size fence vars clauses literals checksum = record { vector = vector n on care basis size vars clauses literals checksum; fence = fence }

abbrev pub outline_of : Fenced → Outline
outline_of v = outline (fence_formula v.vector.tables v.vector.basis v.vector.size v.fence)

abbrev pub expected_of : Fenced → Outline
expected_of v = expected v.vector

-- tables, operators, size and fence; then the numbers of variables, clauses and literals, and the
-- checksum
abbrev pub fence_vectors : List Fenced
fence_vectors =
    fenced 1 (1 ∷ []) (3 ∷ []) 2 0 [] 0 1 0 0
    ∷ fenced 1 (1 ∷ []) (3 ∷ []) 2 1 (1 ∷ []) 8 26 83 973023888
    ∷ fenced 1 (1 ∷ []) (3 ∷ []) 2 2 (1 ∷ 1 ∷ []) 17 64 223 2960643395
    ∷ fenced 1 (1 ∷ []) (3 ∷ []) 2 3 (1 ∷ 1 ∷ 1 ∷ []) 27 120 450 3792308638
    ∷ fenced 1 (1 ∷ []) (3 ∷ []) 2 3 (2 ∷ 1 ∷ []) 28 124 463 2391568127
    ∷ fenced 2 (6 ∷ []) (15 ∷ []) 65535 0 [] 0 1 0 0
    ∷ fenced 2 (6 ∷ []) (15 ∷ []) 65535 1 (1 ∷ []) 12 43 124 4224581782
    ∷ fenced 2 (6 ∷ []) (15 ∷ []) 65535 2 (1 ∷ 1 ∷ []) 24 111 374 3855834408
    ∷ fenced 2 (6 ∷ []) (15 ∷ []) 65535 3 (1 ∷ 1 ∷ 1 ∷ []) 37 212 790 62145389
    ∷ fenced 2 (6 ∷ []) (15 ∷ []) 65535 3 (2 ∷ 1 ∷ []) 40 243 884 3069002021
    ∷ fenced 2 (6 ∷ 9 ∷ []) (15 ∷ 15 ∷ []) 65535 0 [] 0 2 0 0
    ∷ fenced 2 (6 ∷ 9 ∷ []) (15 ∷ 15 ∷ []) 65535 1 (1 ∷ []) 13 48 135 473657096
    ∷ fenced 2 (6 ∷ 9 ∷ []) (15 ∷ 15 ∷ []) 65535 2 (1 ∷ 1 ∷ []) 26 120 396 3942747033
    ∷ fenced 2 (6 ∷ 9 ∷ []) (15 ∷ 15 ∷ []) 65535 2 (2 ∷ []) 26 97 277 1008806880
    ∷ fenced 2 (6 ∷ 9 ∷ []) (15 ∷ 15 ∷ []) 65535 3 (1 ∷ 1 ∷ 1 ∷ []) 40 225 823 124420706
    ∷ fenced 2 (6 ∷ 9 ∷ []) (15 ∷ 15 ∷ []) 65535 3 (1 ∷ 2 ∷ []) 39 195 664 3892565261
    ∷ fenced 2 (6 ∷ 9 ∷ []) (15 ∷ 15 ∷ []) 65535 3 (2 ∷ 1 ∷ []) 43 256 917 3800172520
    ∷ fenced 2 (8 ∷ []) (9 ∷ []) 4 0 [] 0 0 0 0
    ∷ fenced 2 (2 ∷ []) (15 ∷ []) 4 0 [] 0 1 0 0
    ∷ fenced 2 (2 ∷ []) (15 ∷ []) 4 1 (1 ∷ []) 13 56 176 303607155
    ∷ fenced 2 (2 ∷ []) (15 ∷ []) 4 2 (1 ∷ 1 ∷ []) 27 158 579 211525813
    ∷ fenced 2 (2 ∷ []) (15 ∷ []) 4 3 (1 ∷ 1 ∷ 1 ∷ []) 43 324 1308 2079271061
    ∷ fenced 2 (2 ∷ []) (15 ∷ []) 4 3 (2 ∷ 1 ∷ []) 47 363 1424 1636133631
    ∷ fenced 3 (128 ∷ []) (255 ∷ []) 65535 0 [] 0 1 0 0
    ∷ fenced 3 (128 ∷ []) (255 ∷ []) 65535 1 (1 ∷ []) 19 126 362 3682830315
    ∷ fenced 3 (128 ∷ []) (255 ∷ []) 65535 2 (1 ∷ 1 ∷ []) 36 285 959 2838500287
    ∷ fenced 3 (128 ∷ []) (255 ∷ []) 65535 3 (1 ∷ 1 ∷ 1 ∷ []) 54 506 1878 319408850
    ∷ fenced 3 (128 ∷ []) (255 ∷ []) 65535 3 (2 ∷ 1 ∷ []) 60 631 2251 2873924012
    ∷ fenced 3 (232 ∷ []) (255 ∷ []) 65535 0 [] 0 1 0 0
    ∷ fenced 3 (232 ∷ []) (255 ∷ []) 65535 1 (1 ∷ []) 19 126 362 1511008997
    ∷ fenced 3 (232 ∷ []) (255 ∷ []) 65535 2 (1 ∷ 1 ∷ []) 36 285 959 2686382427
    ∷ fenced 3 (232 ∷ []) (255 ∷ []) 65535 3 (1 ∷ 1 ∷ 1 ∷ []) 54 506 1878 360264464
    ∷ fenced 3 (232 ∷ []) (255 ∷ []) 65535 3 (2 ∷ 1 ∷ []) 60 631 2251 3789596266
    ∷ fenced 3 (150 ∷ 232 ∷ []) (255 ∷ 255 ∷ []) 65535 0 [] 0 2 0 0
    ∷ fenced 3 (150 ∷ 232 ∷ []) (255 ∷ 255 ∷ []) 65535 1 (1 ∷ []) 20 135 381 2371370249
    ∷ fenced 3 (150 ∷ 232 ∷ []) (255 ∷ 255 ∷ []) 65535 2 (1 ∷ 1 ∷ []) 38 302 997 3280609708
    ∷ fenced 3 (150 ∷ 232 ∷ []) (255 ∷ 255 ∷ []) 65535 2 (2 ∷ []) 40 283 804 81335747
    ∷ fenced 3 (150 ∷ 232 ∷ []) (255 ∷ 255 ∷ []) 65535 3 (1 ∷ 1 ∷ 1 ∷ []) 57 531 1935 2035182975
    ∷ fenced 3 (150 ∷ 232 ∷ []) (255 ∷ 255 ∷ []) 65535 3 (1 ∷ 2 ∷ []) 56 475 1628 2076644380
    ∷ fenced 3 (150 ∷ 232 ∷ []) (255 ∷ 255 ∷ []) 65535 3 (2 ∷ 1 ∷ []) 63 656 2308 628711260
    ∷ fenced 3 (150 ∷ 232 ∷ []) (255 ∷ 255 ∷ []) 17346 0 [] 0 2 0 0
    ∷ fenced 3 (150 ∷ 232 ∷ []) (255 ∷ 255 ∷ []) 17346 1 (1 ∷ []) 20 138 388 2376166963
    ∷ fenced 3 (150 ∷ 232 ∷ []) (255 ∷ 255 ∷ []) 17346 2 (1 ∷ 1 ∷ []) 38 299 997 2267898016
    ∷ fenced 3 (150 ∷ 232 ∷ []) (255 ∷ 255 ∷ []) 17346 2 (2 ∷ []) 40 289 818 62869621
    ∷ fenced 3 (150 ∷ 232 ∷ []) (255 ∷ 255 ∷ []) 17346 3 (1 ∷ 1 ∷ 1 ∷ []) 57 524 1932 2048360245
    ∷ fenced 3 (150 ∷ 232 ∷ []) (255 ∷ 255 ∷ []) 17346 3 (1 ∷ 2 ∷ []) 56 466 1621 620507312
    ∷ fenced 3 (150 ∷ 232 ∷ []) (255 ∷ 255 ∷ []) 17346 3 (2 ∷ 1 ∷ []) 63 647 2295 4038537940
    ∷ fenced 2 (6 ∷ []) (15 ∷ []) 16384 0 [] 0 1 0 0
    ∷ fenced 2 (6 ∷ []) (15 ∷ []) 16384 1 (1 ∷ []) 12 51 154 190628396
    ∷ fenced 2 (6 ∷ []) (15 ∷ []) 16384 2 (1 ∷ 1 ∷ []) 24 123 428 1607505458
    ∷ fenced 2 (6 ∷ []) (15 ∷ []) 16384 3 (1 ∷ 1 ∷ 1 ∷ []) 37 227 866 2363208600
    ∷ fenced 2 (6 ∷ []) (15 ∷ []) 16384 3 (2 ∷ 1 ∷ []) 40 259 958 2993533558
    ∷ fenced 1 (1 ∷ []) (3 ∷ []) 576 0 [] 0 1 0 0
    ∷ fenced 1 (1 ∷ []) (3 ∷ []) 576 1 (1 ∷ []) 8 25 80 2542836596
    ∷ fenced 1 (1 ∷ []) (3 ∷ []) 576 2 (1 ∷ 1 ∷ []) 17 61 215 43709651
    ∷ fenced 1 (1 ∷ []) (3 ∷ []) 576 3 (1 ∷ 1 ∷ 1 ∷ []) 27 113 433 4062954244
    ∷ fenced 1 (1 ∷ []) (3 ∷ []) 576 3 (2 ∷ 1 ∷ []) 28 118 449 3501418656
    ∷ fenced 3 (196 ∷ 67 ∷ []) (213 ∷ 243 ∷ []) 27030 0 [] 0 1 0 0
    ∷ fenced 3 (196 ∷ 67 ∷ []) (213 ∷ 243 ∷ []) 27030 1 (1 ∷ []) 19 120 354 577701139
    ∷ fenced 3 (196 ∷ 67 ∷ []) (213 ∷ 243 ∷ []) 27030 2 (1 ∷ 1 ∷ []) 36 276 944 2937906186
    ∷ fenced 3 (196 ∷ 67 ∷ []) (213 ∷ 243 ∷ []) 27030 3 (1 ∷ 1 ∷ 1 ∷ []) 54 494 1853 2067332322
    ∷ fenced 3 (196 ∷ 67 ∷ []) (213 ∷ 243 ∷ []) 27030 3 (2 ∷ 1 ∷ []) 60 613 2193 1852840429
    ∷ fenced 4 (32488 ∷ []) (65535 ∷ []) 65535 0 [] 0 1 0 0
    ∷ fenced 4 (32488 ∷ []) (65535 ∷ []) 65535 1 (1 ∷ []) 31 372 1072 272495150
    ∷ fenced 4 (32488 ∷ []) (65535 ∷ []) 65535 2 (1 ∷ 1 ∷ []) 57 741 2484 1786791957
    ∷ fenced 4 (27030 ∷ 32768 ∷ 0 ∷ []) (65535 ∷ 65535 ∷ 1 ∷ []) 322 0 [] 0 2 0 0
    ∷ fenced 4 (27030 ∷ 32768 ∷ 0 ∷ []) (65535 ∷ 65535 ∷ 1 ∷ []) 322 1 (1 ∷ []) 32 395 1124 2575290610
    ∷ fenced 4 (27030 ∷ 32768 ∷ 0 ∷ []) (65535 ∷ 65535 ∷ 1 ∷ []) 322 2 (1 ∷ 1 ∷ []) 59 770 2562 4098745674
    ∷ fenced 4 (27030 ∷ 32768 ∷ 0 ∷ []) (65535 ∷ 65535 ∷ 1 ∷ []) 322 2 (2 ∷ []) 64 833 2392 2512169000
    ∷ fenced 0 (1 ∷ []) (1 ∷ []) 65535 0 [] 0 0 0 0
    ∷ fenced 2 (2 ∷ 1 ∷ []) (11 ∷ 1 ∷ []) 2176 0 [] 0 1 0 0
    ∷ fenced 2 (2 ∷ 1 ∷ []) (11 ∷ 1 ∷ []) 2176 1 (1 ∷ []) 13 54 170 684069283
    ∷ fenced 2 (2 ∷ 1 ∷ []) (11 ∷ 1 ∷ []) 2176 2 (1 ∷ 1 ∷ []) 27 154 567 3603783488
    ∷ fenced 2 (2 ∷ 1 ∷ []) (11 ∷ 1 ∷ []) 2176 3 (1 ∷ 1 ∷ 1 ∷ []) 43 318 1290 1044332482
    ∷ fenced 2 (2 ∷ 1 ∷ []) (11 ∷ 1 ∷ []) 2176 3 (2 ∷ 1 ∷ []) 47 357 1406 3862527494
    ∷ []

pub fence_is_expected : map outline_of fence_vectors ≡ map expected_of fence_vectors
unfolding fits_rows inputs_from first_fit is_live live_among words_of has simplified written x_var g_var f_var s_first
    x_is pairs_of pairs_with pairs_below numbered laid slot_count driver out_exists_at out_exists out_value_is
    out_value_at out_value out_values_of out_values_at out_values chosen pair_exists_at pair_exists value_raw
    value_clause value_bit value_row value_slot value_step values operator_raw operator_clause operators_at operators
    common swapped complement first_complemented second_complemented every_below swaps negates_both has_no_negation_at
    negates_one keeps_constants has_complements is_allowed left_on_first left_on_second right_on_first right_on_second
    reapplies reapplies_all row_of drives reader readers used_by used other_operator not_idle equal_raw equal_slot
    equal_pair negation_raw negations not_trivial_at not_trivial comes_before not_both order_pair order_slot order_with
    order is_reapplication no_reapplication_pair no_reapplication_slot has_place no_reapplication_later
    no_reapplication_all no_reapplication same_at same_output may_exchange reader_without readers_without exchange_slot
    exchange_steps exchange_pair exchange_with exchange row_0_at row_0 cuts places_under fence_pairs fence_live
    fence_formula with_clause with_clauses literal_count outline
fence_is_expected = refl
