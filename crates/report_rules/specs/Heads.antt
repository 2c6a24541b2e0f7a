-- The rules of the lines `version`, `cycles`, `kind`, `copy` and `column`.
use Rattle.std.specs.Prelude.{ℕ, ◌==◌, ◌&&◌, List, [], ◌∷◌, Bool, true, false, codes, length, if◌then◌else◌}
use Rattle.report_words.specs.Words.{Word, is_name}
use Rattle.report_words.specs.Shapes.{fit, are_in_range}
use Rattle.report_lines.specs.LineShapes.{small, cycles_shapes}
use Rattle.report_lines.specs.LineLists.{are_addresses, are_integers, are_small}
use Rattle.code_flow_answer.specs.declared.bounded.Kind.{Kind}
use Rattle.code_flow_answer.specs.declared.bounded.Kind.TheVariants.{Greatest, Empty, Wide, Spent}
use Rattle.report_rules.specs.Rules.{Rule}
use Rattle.report_rules.specs.WordTests.{same_word, are_none, places_ascend}

-- the word `2`
abbrev pub are_two : List Word → Bool
are_two [] = false
are_two (w ∷ ws) = same_word w (codes "2") && are_none ws

-- the state is the version
abbrev pub version_rule : Rule ℕ
version_rule = record { tag = codes "version"; stands = λ v ws. are_two ws; in_range = λ v ws. true; next = λ v ws. 2 }

abbrev pub cycles_rule : Rule (Unit {0})
cycles_rule = record { tag = codes "cycles"; stands = λ s ws. fit cycles_shapes ws; in_range = λ s ws. are_in_range cycles_shapes ws; next = λ s ws. s }

abbrev pub is_greatest : List Word → Bool
is_greatest [] = false
is_greatest (w ∷ ws) = same_word w (codes "greatest")

abbrev pub is_greatest_kind : Kind → Bool
is_greatest_kind Greatest = true
is_greatest_kind Empty = false
is_greatest_kind (Wide pivot) = false
is_greatest_kind (Spent columns pivots) = false

-- `greatest` or `empty`, `wide` and a number, or `spent` and two
abbrev pub is_kind : List Word → Bool
is_kind [] = false
is_kind (w ∷ ws) =
    if same_word w (codes "greatest") then are_none ws
    else if same_word w (codes "empty") then are_none ws
    else if same_word w (codes "wide") then fit (small ∷ []) ws
    else if same_word w (codes "spent") then fit (small ∷ small ∷ []) ws
    else false

abbrev pub is_kind_in_range : List Word → Bool
is_kind_in_range [] = true
is_kind_in_range (w ∷ ws) = are_in_range (small ∷ small ∷ []) ws

-- the state is whether the kind is greatest
abbrev pub kind_rule : Rule Bool
kind_rule = record { tag = codes "kind"; stands = λ s ws. is_kind ws; in_range = λ s ws. is_kind_in_range ws; next = λ s ws. is_greatest ws }

-- a name, and ascending addresses, maybe none
abbrev pub is_copy : List Word → Bool
is_copy [] = false
is_copy (w ∷ ws) = is_name w && (are_addresses ws && places_ascend 0 ws)

abbrev pub copy_rule : Rule (Unit {0})
copy_rule = record { tag = codes "copy"; stands = λ s ws. is_copy ws; in_range = λ s ws. true; next = λ s ws. s }

-- a value, and a total for each fact
abbrev pub is_column : ℕ → List Word → Bool
is_column facts [] = false
is_column facts (w ∷ ws) = (length ws == facts) && are_integers (w ∷ ws)

-- the state is the number of facts
abbrev pub column_rule : Rule ℕ
column_rule = record { tag = codes "column"; stands = is_column; in_range = λ facts ws. are_small ws; next = λ facts ws. facts }

abbrev pub end_rule : Rule (Unit {0})
end_rule = record { tag = codes "end"; stands = λ s ws. are_none ws; in_range = λ s ws. true; next = λ s ws. s }
