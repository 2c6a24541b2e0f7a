-- When a line of a kind may stand: what its words behind the first one have to be, in form and order and then in range.
use Rattle.std.specs.Prelude.{◌≡◌, ◌∷◌, List, Bool, true, false}
use Rattle.report_words.specs.Words.{Word, Line}
use Rattle.report_rules.specs.declared.flaw.Flaw.{Flaw}
use Rattle.report_rules.specs.declared.flaw.Flaw.TheVariants.{Form, Range, Memory}

-- a kind of lines: its first word, and the rule for the others, which knows of the lines before it what the state says
pub record Rule (S : Type 0) : Type 0 where
  pub tag : Word
  pub stands : S → List Word → Bool
  pub in_range : S → List Word → Bool
  pub next : S → List Word → S

-- the line may stand, and its numbers are in range
pub record Stands {S : Type 0} (r : Rule S) (s : S) (ws : List Word) : Type 0 where
  pub stands : r.stands s ws ≡ true
  pub in_range : r.in_range s ws ≡ true

-- a line of the kind that stands
pub record IsLine {S : Type 0} (r : Rule S) (s : S) (ws : List Word) (line : Line) : Type 0 where
  pub stands : Stands r s ws
  pub same : line ≡ r.tag ∷ ws

-- the same behind any lines
pub record IsLineAnywhere {S : Type 0} (r : Rule S) (ws : List Word) (line : Line) : Type 0 where
  pub each : (s : S) → IsLine r s ws line

-- why it may not
abbrev pub IsFlaw : {S : Type 0} → Rule S → S → List Word → Flaw → Type 0
IsFlaw r s ws Form = r.stands s ws ≡ false
IsFlaw r s ws Range = (r.stands s ws ≡ true) × (r.in_range s ws ≡ false)
IsFlaw r s ws Memory = Unit {0}

pub record IsFlawAnywhere {S : Type 0} (r : Rule S) (ws : List Word) (flaw : Flaw) : Type 0 where
  pub each : (s : S) → IsFlaw r s ws flaw
