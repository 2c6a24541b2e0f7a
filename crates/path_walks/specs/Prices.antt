-- Prices of moves as a list beside that of the moves.
use Rattle.std.specs.Prelude.{◌==◌, ◌&&◌, ℤ, pos, List, [], ◌∷◌, if◌then◌else◌}
use Rattle.code_flow_system.specs.declared.moves.Move.{Move}
use Rattle.code_flow_system.specs.Systems.{System}
use Rattle.loop_walks.specs.Walks.{larger}
use Rattle.path_places.specs.Driver.{Prices}

abbrev pub price_in : List Move → List ℤ → Move → ℤ
price_in [] zs m = pos 0
price_in (k ∷ ks) [] m = pos 0
price_in (k ∷ ks) (z ∷ zs) m = if (k.at == m.at) && (k.number == m.number) then z else price_in ks zs m

-- these prices, and the worth of a block
abbrev pub prices_of : System → List ℤ → ℤ → Prices
prices_of s zs low = record { of = price_in s.moves zs; low = low }

-- the greatest of prices, or another number
abbrev pub greatest : ℤ → List ℤ → ℤ
greatest low [] = low
greatest low (z ∷ zs) = larger z (greatest low zs)
