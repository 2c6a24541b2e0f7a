-- The sides of a line `fact`.
use Rattle.std.specs.Prelude.{◌≡◌, ◌∷◌, ◌++◌, List, true}
use Rattle.wcc_base.specs.declared.compare.Compare.{Compare}
use Rattle.report_words.specs.Words.{Word}
use Rattle.report_text.specs.Lines.{compare_word}
use Rattle.report_rules.specs.FactRules.{has_sign, left_words, right_words}

-- words on both sides of the first sign
pub record AreSides (ws left : List Word) (op : Compare) (right : List Word) : Type 0 where
  pub signed : has_sign ws ≡ true
  pub left_is : left ≡ left_words ws
  pub right_is : right ≡ right_words ws
  pub same : ws ≡ left ++ compare_word op ∷ right

-- no sign stands among the words that were looked at
pub record IsSplitting (done left all : List Word) : Type 0 where
  pub signed : has_sign all ≡ has_sign left
  pub left_is : left_words all ≡ done ++ left_words left
  pub right_is : right_words all ≡ right_words left
