-- Amounts that are handed on from place to place along chosen steps: how often each step is made.
use Rattle.std.specs.Prelude.{ℕ, ◌+◌, ◌==◌, List, [], ◌∷◌, Bool, true, false, slice_index_or, slice_set, if◌then◌else◌}
use Rattle.loop_walks.specs.declared.step.Step.{Step}

-- what is at a place
abbrev pub amount_at : List ℕ → ℕ → ℕ
amount_at us a = slice_index_or us a 0

-- how often a step is made: as often as what is at its place, if it is chosen
abbrev pub made : Bool → List ℕ → Step → ℕ
made true us m = amount_at us m.at
made false us m = 0

-- a chosen step takes on all that is at its place
abbrev pub handed : Bool → List ℕ → Step → List ℕ
handed true us m = slice_set (slice_set us m.at 0) m.on (amount_at us m.on + amount_at us m.at)
handed false us m = us

-- how often each step is made, in order; of those chosen at one place the first takes all
abbrev pub spread : (Step → Bool) → List ℕ → List Step → List ℕ
spread chosen us [] = []
spread chosen us (m ∷ ms) = made (chosen m) us m ∷ spread chosen (handed (chosen m) us m) ms

-- what is at the places in the end
abbrev pub remains : (Step → Bool) → List ℕ → List Step → List ℕ
remains chosen us [] = us
remains chosen us (m ∷ ms) = remains chosen (handed (chosen m) us m) ms

-- how often steps leave a place
abbrev pub departed : List Step → List ℕ → ℕ → ℕ
departed [] us a = 0
departed (m ∷ ms) [] a = 0
departed (m ∷ ms) (u ∷ us) a = (if m.at == a then u else 0) + departed ms us a

-- and how often they come to it
abbrev pub arrived : List Step → List ℕ → ℕ → ℕ
arrived [] us a = 0
arrived (m ∷ ms) [] a = 0
arrived (m ∷ ms) (u ∷ us) a = (if m.on == a then u else 0) + arrived ms us a
