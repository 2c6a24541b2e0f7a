-- The first bad claim and the least address that is no code, as a pass finds them.
use Rattle.std.specs.Prelude.{ℕ, ◌+◌, ◌==◌, ◌&&◌, not, List, [], ◌∷◌, ◌++◌, Bool, true, false, Option, Some, None, min, slice_index_or, if◌then◌else◌}
use Rattle.code_flow_system.specs.declared.moves.Move.{Move}
use Rattle.code_flow_system.specs.declared.moves.Way.{Way}
use Rattle.code_flow_system.specs.declared.moves.Way.TheVariants.{Strays}
use Rattle.code_flow_system.specs.Claims.{Claims, is_listed, flaws}
use Rattle.code_flow_system.specs.Moves.{Code, moves_at}
use Rattle.code_flow_system.specs.Reach.{is_resolved, IsLeast}
use Rattle.code_flow_system.specs.Systems.{is_ecall}
use Rattle.code_flow.specs.declared.walk.Walk.{Walk}
use Rattle.code_flow.specs.Places.{place_of, address_at}
use Rattle.code_flow.specs.Walks.{way_at}

-- the number of the first test that holds, where they are numbered from n on
abbrev pub first_from : ℕ → List Bool → Option ℕ
first_from n [] = None
first_from n (b ∷ bs) = if b then Some n else first_from (n + 1) bs

abbrev pub or_else : Option ℕ → Option ℕ → Option ℕ
or_else (Some n) o = Some n
or_else None o = o

abbrev pub lesser : Option ℕ → Option ℕ → Option ℕ
lesser None o = o
lesser (Some a) None = Some a
lesser (Some a) (Some b) = Some (min a b)

-- the least number with the property, if there is one
abbrev pub IsLeastOf : (ℕ → Type 0) → Option ℕ → Type 0
IsLeastOf P None = (k : ℕ) → ¬ P k
IsLeastOf P (Some n) = IsLeast P n

-- a walk has seen an address
abbrev pub seen_at : Walk → ℕ → Option ℕ → Bool
seen_at w a (Some p) = slice_index_or w.marks.items p false
seen_at w a None = is_listed w.others.items a

abbrev pub seen : Walk → ℕ → Bool
seen w a = seen_at w a (place_of a)

-- whether each exit was seen and is no ECALL
abbrev pub false_exits : Code → Walk → List ℕ → List Bool
false_exits c w [] = []
false_exits c w (a ∷ rest) = (seen w a && not (is_ecall (c.fetch a))) ∷ false_exits c w rest

-- the moves of the marked places from p on
abbrev pub collected : Code → ℕ → List Bool → List Move
collected c p [] = []
collected c p (b ∷ bs) = if b then moves_at c (address_at p) ++ collected c (p + 1) bs else collected c (p + 1) bs

abbrev pub is_stray : Way → Bool
is_stray Strays = true
is_stray w = false

-- the first marked place from p on without moves
abbrev pub first_stray : Code → ℕ → List Bool → Option ℕ
first_stray c p [] = None
first_stray c p (b ∷ bs) = if b && is_stray (way_at c (address_at p)) then Some (address_at p) else first_stray c (p + 1) bs

-- a resolved JALR that is entered from elsewhere than the address before it
abbrev pub crossing_to : Code → ℕ → Option ℕ → Option ℕ
crossing_to c from None = None
crossing_to c from (Some to) = if is_resolved c to && not (from + 4 == to) then Some to else None

-- the least that a move enters so
abbrev pub crossing_of : Code → Move → Option ℕ
crossing_of c m = lesser (crossing_to c m.at m.to) (crossing_to c m.at m.behind)

abbrev pub crossing : Code → List Move → Option ℕ
crossing c [] = None
crossing c (m ∷ ms) = lesser (crossing_of c m) (crossing c ms)

-- the entry, where it is a resolved JALR
abbrev pub entry_crossing : Code → ℕ → Option ℕ
entry_crossing c entry = if is_resolved c entry then Some entry else None

abbrev pub first_of : List ℕ → Option ℕ
first_of [] = None
first_of (a ∷ rest) = Some a

-- the first bad claim, of the claims of an image whose walk this is
abbrev pub first_bad : Code → Walk → Claims → Option ℕ
first_bad c w claims = lesser (first_from 0 (flaws claims)) (first_from 0 (false_exits c w claims.exits))

-- the least address that is no code
abbrev pub least_no_code : Code → ℕ → Walk → List Move → Option ℕ
least_no_code c entry w moves = lesser (lesser (first_stray c 0 w.marks.items) (first_of w.others.items)) (lesser (entry_crossing c entry) (crossing c moves))
