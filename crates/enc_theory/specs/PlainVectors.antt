-- The plain encoding against the independent program.
use Rattle.std.specs.Prelude.{◌≡◌, List, [], ◌∷◌, map, refl}
use Rattle.tt_core.specs.Live.{fits_rows, inputs_from, first_fit, is_live, live_among, words_of}
use Rattle.clause_core.specs.Clauses.{has, simplified, written}
use Rattle.enc_theory.specs.Numbering.{x_var, g_var, f_var, s_first, x_is}
use Rattle.enc_theory.specs.Pairs.{pairs_of, pairs_with, pairs_below, numbered, laid, slot_count}
use Rattle.enc_theory.specs.Families.{driver, out_exists_at, out_exists, out_value_is, out_value_at, out_value}
use Rattle.enc_theory.specs.Families.{out_values_of, out_values_at, out_values, chosen, pair_exists_at, pair_exists}
use Rattle.enc_theory.specs.Families.{value_raw, value_clause, value_bit, value_row, value_slot, value_step, values}
use Rattle.enc_theory.specs.Families.{operator_raw, operator_clause, operators_at, operators, common}
use Rattle.enc_theory.specs.Plain.{plain_live, plain_formula}
use Rattle.enc_theory.specs.Vectors.{Vector, vector, with_clause, with_clauses, literal_count, outline, outline_by, expected}

-- tables, operators and size; then the numbers of variables, clauses and literals, and the checksum
abbrev pub plain_vectors : List Vector
plain_vectors =
    vector 1 (1 ∷ []) (3 ∷ []) 2 0 0 1 0 0
    ∷ vector 1 (1 ∷ []) (3 ∷ []) 2 1 8 23 78 2572448200
    ∷ vector 1 (1 ∷ []) (3 ∷ []) 2 2 19 69 255 2861500820
    ∷ vector 1 (1 ∷ []) (3 ∷ []) 2 3 35 171 693 3055831216
    ∷ vector 2 (6 ∷ []) (15 ∷ []) 65535 0 0 1 0 0
    ∷ vector 2 (6 ∷ []) (15 ∷ []) 65535 1 13 38 109 2873861935
    ∷ vector 2 (6 ∷ []) (15 ∷ []) 65535 2 31 155 543 1311815668
    ∷ vector 2 (6 ∷ []) (15 ∷ []) 65535 3 56 416 1624 4291143508
    ∷ vector 2 (6 ∷ 9 ∷ []) (15 ∷ 15 ∷ []) 65535 0 0 2 0 0
    ∷ vector 2 (6 ∷ 9 ∷ []) (15 ∷ 15 ∷ []) 65535 1 14 43 118 1613546713
    ∷ vector 2 (6 ∷ 9 ∷ []) (15 ∷ 15 ∷ []) 65535 2 33 164 561 135257593
    ∷ vector 2 (6 ∷ 9 ∷ []) (15 ∷ 15 ∷ []) 65535 3 59 429 1651 3281848666
    ∷ vector 2 (8 ∷ []) (9 ∷ []) 4 0 0 0 0 0
    ∷ vector 2 (8 ∷ []) (9 ∷ []) 4 1 12 48 160 2888169282
    ∷ vector 2 (8 ∷ []) (9 ∷ []) 4 2 29 176 645 3506382789
    ∷ vector 2 (8 ∷ []) (9 ∷ []) 4 3 53 448 1777 1967318773
    ∷ vector 2 (2 ∷ []) (15 ∷ []) 4 0 0 1 0 0
    ∷ vector 2 (2 ∷ []) (15 ∷ []) 4 1 13 53 169 220348293
    ∷ vector 2 (2 ∷ []) (15 ∷ []) 4 2 31 185 663 2345892144
    ∷ vector 2 (2 ∷ []) (15 ∷ []) 4 3 56 461 1804 1706849276
    ∷ vector 3 (128 ∷ []) (255 ∷ []) 65535 0 0 1 0 0
    ∷ vector 3 (128 ∷ []) (255 ∷ []) 65535 1 22 154 458 1970161305
    ∷ vector 3 (128 ∷ []) (255 ∷ []) 65535 2 51 531 1819 3556949920
    ∷ vector 3 (128 ∷ []) (255 ∷ []) 65535 3 89 1260 4725 3906146613
    ∷ vector 3 (232 ∷ []) (255 ∷ []) 65535 0 0 1 0 0
    ∷ vector 3 (232 ∷ []) (255 ∷ []) 65535 1 22 154 458 1525536403
    ∷ vector 3 (232 ∷ []) (255 ∷ []) 65535 2 51 531 1819 1907822140
    ∷ vector 3 (232 ∷ []) (255 ∷ []) 65535 3 89 1260 4725 3038375095
    ∷ vector 3 (150 ∷ 232 ∷ []) (255 ∷ 255 ∷ []) 65535 0 0 2 0 0
    ∷ vector 3 (150 ∷ 232 ∷ []) (255 ∷ 255 ∷ []) 65535 1 23 163 475 1534677432
    ∷ vector 3 (150 ∷ 232 ∷ []) (255 ∷ 255 ∷ []) 65535 2 53 548 1853 1958343549
    ∷ vector 3 (150 ∷ 232 ∷ []) (255 ∷ 255 ∷ []) 65535 3 92 1285 4776 3748382116
    ∷ vector 3 (150 ∷ 232 ∷ []) (255 ∷ 255 ∷ []) 17346 0 0 2 0 0
    ∷ vector 3 (150 ∷ 232 ∷ []) (255 ∷ 255 ∷ []) 17346 1 23 173 515 1112247820
    ∷ vector 3 (150 ∷ 232 ∷ []) (255 ∷ 255 ∷ []) 17346 2 53 568 1933 2480405477
    ∷ vector 3 (150 ∷ 232 ∷ []) (255 ∷ 255 ∷ []) 17346 3 92 1315 4896 503793760
    ∷ vector 2 (6 ∷ []) (15 ∷ []) 16384 0 0 1 0 0
    ∷ vector 2 (6 ∷ []) (15 ∷ []) 16384 1 13 53 169 2110475317
    ∷ vector 2 (6 ∷ []) (15 ∷ []) 16384 2 31 185 663 1005480444
    ∷ vector 2 (6 ∷ []) (15 ∷ []) 16384 3 56 461 1804 770158892
    ∷ vector 1 (1 ∷ []) (3 ∷ []) 576 0 0 1 0 0
    ∷ vector 1 (1 ∷ []) (3 ∷ []) 576 1 8 22 74 494193944
    ∷ vector 1 (1 ∷ []) (3 ∷ []) 576 2 19 67 247 4292126316
    ∷ vector 1 (1 ∷ []) (3 ∷ []) 576 3 35 168 681 2864894252
    ∷ vector 3 (196 ∷ 67 ∷ []) (213 ∷ 243 ∷ []) 27030 0 0 1 0 0
    ∷ vector 3 (196 ∷ 67 ∷ []) (213 ∷ 243 ∷ []) 27030 1 22 160 486 42895860
    ∷ vector 3 (196 ∷ 67 ∷ []) (213 ∷ 243 ∷ []) 27030 2 51 543 1875 946540730
    ∷ vector 3 (196 ∷ 67 ∷ []) (213 ∷ 243 ∷ []) 27030 3 89 1278 4809 2133479988
    ∷ vector 4 (32488 ∷ []) (65535 ∷ []) 65535 0 0 1 0 0
    ∷ vector 4 (32488 ∷ []) (65535 ∷ []) 65535 1 37 530 1585 805641681
    ∷ vector 4 (32488 ∷ []) (65535 ∷ []) 65535 2 83 1635 5483 1611388514
    ∷ vector 4 (27030 ∷ 32768 ∷ 0 ∷ []) (65535 ∷ 65535 ∷ 1 ∷ []) 322 0 0 2 0 0
    ∷ vector 4 (27030 ∷ 32768 ∷ 0 ∷ []) (65535 ∷ 65535 ∷ 1 ∷ []) 322 1 38 560 1670 49259555
    ∷ vector 4 (27030 ∷ 32768 ∷ 0 ∷ []) (65535 ∷ 65535 ∷ 1 ∷ []) 322 2 85 1694 5653 2408937151
    ∷ vector 0 (1 ∷ []) (1 ∷ []) 65535 0 0 0 0 0
    ∷ vector 0 (1 ∷ []) (1 ∷ []) 65535 1 5 1 0 0
    ∷ vector 0 (1 ∷ []) (1 ∷ []) 65535 2 11 6 17 3704032273
    ∷ vector 0 (1 ∷ []) (1 ∷ []) 65535 3 20 31 133 3070221622
    ∷ vector 2 (2 ∷ 1 ∷ []) (11 ∷ 1 ∷ []) 2176 0 0 1 0 0
    ∷ vector 2 (2 ∷ 1 ∷ []) (11 ∷ 1 ∷ []) 2176 1 13 51 163 1816534965
    ∷ vector 2 (2 ∷ 1 ∷ []) (11 ∷ 1 ∷ []) 2176 2 31 181 651 2326501061
    ∷ vector 2 (2 ∷ 1 ∷ []) (11 ∷ 1 ∷ []) 2176 3 56 455 1786 2567973723
    ∷ []

pub plain_is_expected : map (outline_by plain_formula) plain_vectors ≡ map expected plain_vectors
unfolding fits_rows inputs_from first_fit is_live live_among words_of has simplified written x_var g_var f_var s_first
    x_is pairs_of pairs_with pairs_below numbered laid slot_count driver out_exists_at out_exists out_value_is
    out_value_at out_value out_values_of out_values_at out_values chosen pair_exists_at pair_exists value_raw
    value_clause value_bit value_row value_slot value_step values operator_raw operator_clause operators_at operators
    common plain_live plain_formula with_clause with_clauses literal_count outline
plain_is_expected = refl
