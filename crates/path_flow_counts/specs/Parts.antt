-- A move that is made, as a part of a flow.
use Rattle.std.specs.Prelude.{ℕ, ◌==◌, pos, List, [], ◌∷◌, if◌then◌else◌}
use Rattle.code_flow_system.specs.declared.cert.Part.{Part}
use Rattle.code_flow_system.specs.declared.moves.Move.{Move}

abbrev pub part_of : Move → ℕ → Part
part_of m u = record { at = m.at; number = m.number; part = pos u }

-- none of a move that isn't made
abbrev pub part_if : Move → ℕ → List Part
part_if m u = if u == 0 then [] else part_of m u ∷ []
