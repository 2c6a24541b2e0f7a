-- The rule of the lines `fact`: a multiplier, a sum, a sign, and another sum.
use Rattle.std.specs.Prelude.{ℕ, suc, ◌^◌, ◌&&◌, ◌||◌, List, [], ◌∷◌, Bool, true, false, codes, nat_lt, unsigned_abs, if◌then◌else◌}
use Rattle.report_words.specs.Words.{Word}
use Rattle.report_words.specs.Numbers.{is_signed, signed_of}
use Rattle.report_lines.specs.Sums.{is_compare, are_terms, are_terms_in_range}
use Rattle.report_rules.specs.Rules.{Rule}
use Rattle.report_rules.specs.WordTests.{same_word, are_none}

-- the word `0` alone
abbrev pub is_zero : List Word → Bool
is_zero [] = false
is_zero (w ∷ ws) = same_word w (codes "0") && are_none ws

abbrev pub is_sum : List Word → Bool
is_sum ws = is_zero ws || are_terms ws

abbrev pub is_sum_in_range : List Word → Bool
is_sum_in_range ws = is_zero ws || are_terms_in_range ws

-- the words up to the first sign, and those behind it

abbrev pub has_sign : List Word → Bool
has_sign [] = false
has_sign (w ∷ ws) = is_compare w || has_sign ws

abbrev pub left_words : List Word → List Word
left_words [] = []
left_words (w ∷ ws) = if is_compare w then [] else w ∷ left_words ws

abbrev pub right_words : List Word → List Word
right_words [] = []
right_words (w ∷ ws) = if is_compare w then ws else right_words ws

abbrev pub is_fact : List Word → Bool
is_fact [] = false
is_fact (w ∷ ws) = is_signed w && (has_sign ws && (is_sum (left_words ws) && is_sum (right_words ws)))

abbrev pub is_fact_in_range : List Word → Bool
is_fact_in_range [] = true
is_fact_in_range (w ∷ ws) = nat_lt (unsigned_abs (signed_of w)) (2 ^ 120) && (is_sum_in_range (left_words ws) && is_sum_in_range (right_words ws))

-- the state is the number of facts
abbrev pub fact_rule : Rule ℕ
fact_rule = record { tag = codes "fact"; stands = λ facts ws. is_fact ws; in_range = λ facts ws. is_fact_in_range ws; next = λ facts ws. suc facts }
