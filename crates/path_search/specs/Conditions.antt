-- What it costs a search that no jump back may be the header of another loop.
use Rattle.std.specs.Prelude.{◌≡◌, ◌≢◌, List, false, Contains}
use Rattle.code_flow_system.specs.declared.shapes.LoopShape.{LoopShape}
use Rattle.code_flow_system.specs.Systems.{System, has_moves}

-- where a jump back is the header of another loop, that loop's own jump back is never reached
abbrev pub SharedHeadersNeverTurn : System → List LoopShape → Type 0
SharedHeadersNeverTurn s ls = (k l : LoopShape) → Contains ls k → Contains ls l → l.header ≡ k.back → l.back ≢ k.back → has_moves s.moves l.back ≡ false
