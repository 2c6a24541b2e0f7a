-- Which addresses a walk goes through, and the lists that it searches by halving.
use Rattle.std.specs.Prelude.{◌≡◌, ℕ, ◌<◌, ◌==◌, ◌&&◌, ◌||◌, not, List, [], ◌∷◌, Bool, false, All}
use Rattle.code_flow_system.specs.declared.moves.Move.{Move}
use Rattle.code_flow_system.specs.declared.shapes.LoopShape.{LoopShape}
use Rattle.code_flow_system.specs.Claims.{Claims}
use Rattle.code_flow_system.specs.Moves.{destinations}
use Rattle.code_flow_system.specs.Systems.{System}
use Rattle.code_flow_system.specs.Shapes.{AreShapesOf, IsLoop, is_back}
use Rattle.path_places.specs.Places.{is_stop}

-- not an address that may not be visited, nor a loop's jump back
abbrev pub is_open : Claims → List LoopShape → ℕ → Bool
is_open c ls a = not (is_stop c a || is_back ls a)

abbrev pub AddressesRise : {X : Type 0} → (X → ℕ) → List X → Type 0
AddressesRise key [] = Unit {0}
AddressesRise key (x ∷ xs) = All (λ y. key x < key y) xs × AddressesRise key xs

-- an element has that key, and passes a test
abbrev pub any_at : {X : Type 0} → (X → ℕ) → (X → Bool) → List X → ℕ → Bool
any_at key test [] a = false
any_at key test (x ∷ xs) a = ((key x == a) && test x) || any_at key test xs a

-- where the move is that of a jump back, it goes to the loop's header alone
abbrev pub GoesBack : List LoopShape → Move → Type 0
GoesBack ls m = All (λ l. m.at ≡ l.back → destinations m ≡ l.header ∷ []) ls

-- the loops are those of the claims, and each is one of the system
pub record HasLoops (s : System) (ls : List LoopShape) : Type 0 where
  pub shapes : AreShapesOf s.claims.loops ls
  pub loops : All (IsLoop s) ls
