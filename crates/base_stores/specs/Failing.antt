-- Calls that are numbered from 1, and fail where their number is listed.
use Rattle.std.specs.Prelude.{ℕ, List, Contains}
use Rattle.wcc_base.specs.Outside.{raised}

-- the call behind so many calls is one of those that fail
abbrev pub NextFails : ℕ → List ℕ → Type 0
NextFails calls failing = Contains failing (raised calls)
