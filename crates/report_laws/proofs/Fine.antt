-- Lines that are read, by the rule of their kind.
use Rattle.std.specs.Prelude.{◌≡◌, ◌∷◌, List, []}
use Rattle.report_words.specs.Words.{Line}
use Rattle.report_rules.specs.Rules.{Rule, Stands}
use Rattle.report_reading.specs.Plain.{ArePlain}
use Rattle.report_reading.specs.Sections.{later_words}

-- a line between two states
pub record IsFine {S : Type 0} (r : Rule S) (s : S) (l : Line) (next : S) : Type 0 where
  pub plain : ArePlain l
  pub tagged : l ≡ r.tag ∷ later_words l
  pub stands : Stands r s (later_words l)
  pub next_is : r.next s (later_words l) ≡ next

-- lines one behind the other
pub data AreFine {S : Type 0} (r : Rule S) : S → List Line → S → Type 0 where
  no_lines : (s : S) → AreFine r s [] s
  one_more : (s mid last : S) (l : Line) (ls : List Line) → IsFine r s l mid → AreFine r mid ls last → AreFine r s (l ∷ ls) last

pub record AreRead {S : Type 0} (r : Rule S) (s : S) (ls : List Line) : Type 0 where
  pub last : S
  pub fine : AreFine r s ls last
