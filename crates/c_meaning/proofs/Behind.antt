-- A list that is made element by element.
use Rattle.std.proofs.Common.{ℕ, List, ◌++◌}
use Rattle.meaning_semantics.specs.State.{Outcome, Fine, Stopped}

-- the words that are made already, and those of an outcome
abbrev pub behind : List ℕ → Outcome (List ℕ) → Outcome (List ℕ)
behind made (Fine words st) = Fine (made ++ words) st
behind made (Stopped stop) = Stopped stop
