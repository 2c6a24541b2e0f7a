-- What the words behind `kind` say.
use Rattle.std.specs.Prelude.{◌≡◌, List, ◌∷◌, [], true, false, codes}
use Rattle.code_flow_answer.specs.declared.bounded.Kind.{Kind}
use Rattle.report_words.specs.Words.{Word}
use Rattle.report_words.specs.declared.shapes.Shape.{Shape}
use Rattle.report_words.specs.Shapes.{fit, are_in_range}
use Rattle.report_text.specs.Lines.{kind_line}
use Rattle.report_lines.specs.LineShapes.{small}
use Rattle.report_rules.specs.declared.flaw.Flaw.{Flaw}
use Rattle.report_rules.specs.declared.flaw.Flaw.TheVariants.{Form, Range, Memory}
use Rattle.report_rules.specs.Rules.{IsLine}
use Rattle.report_rules.specs.Heads.{kind_rule, is_greatest, is_greatest_kind}

-- numbers behind a word of the kind

pub record IsWide (ws : List Word) (k : Kind) : Type 0 where
  pub fits : fit (small ∷ []) ws ≡ true
  pub in_range : are_in_range (small ∷ []) ws ≡ true
  pub plain : is_greatest_kind k ≡ false
  pub same : kind_line k ≡ codes "kind" ∷ codes "wide" ∷ ws

pub record IsSpent (ws : List Word) (k : Kind) : Type 0 where
  pub fits : fit (small ∷ small ∷ []) ws ≡ true
  pub in_range : are_in_range (small ∷ small ∷ []) ws ≡ true
  pub plain : is_greatest_kind k ≡ false
  pub same : kind_line k ≡ codes "kind" ∷ codes "spent" ∷ ws

abbrev pub IsNumbersFlaw : List Shape → List Word → Flaw → Type 0
IsNumbersFlaw ss ws Form = fit ss ws ≡ false
IsNumbersFlaw ss ws Range = (fit ss ws ≡ true) × (are_in_range ss ws ≡ false)
IsNumbersFlaw ss ws Memory = ⊥

-- the line `kind` of a kind, and whether it is greatest
pub record IsKindLine (ws : List Word) (k : Kind) : Type 0 where
  pub line : IsLine kind_rule false ws (kind_line k)
  pub greatest : is_greatest_kind k ≡ is_greatest ws
