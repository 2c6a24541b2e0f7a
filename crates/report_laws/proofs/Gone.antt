-- Lines that are read up to the rest.
use Rattle.std.specs.Prelude.{◌≡◌, ℕ, List, [], ◌∷◌}
use Rattle.report_words.specs.Words.{Line}
use Rattle.report_reading.specs.Sections.{Outcome, Goes}

pub record Gone {S : Type 0} (o : Outcome S) (s : S) (rest : List Line) : Type 0 where
  pub number : ℕ
  pub is : o ≡ Goes s number rest

-- what stands behind the last line end
abbrev pub ended : List Line
ended = ([] ∷ []) ∷ []
