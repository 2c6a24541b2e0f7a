-- Loops and functions that fit a system: reducible loops whose ranges nest, and spans that are left by calls and returns alone.
use Rattle.std.specs.Prelude.{◌≡◌, ◌⊎◌, ℕ, ◌<◌, ◌≤◌, ◌==◌, ◌||◌, List, [], ◌∷◌, Bool, false, Option, Some, None, All}
use Rattle.std.specs.Option.{option_to_list}
use Rattle.code_flow_system.specs.declared.claims.LoopClaim.{LoopClaim}
use Rattle.code_flow_system.specs.declared.moves.Move.{Move}
use Rattle.code_flow_system.specs.declared.shapes.LoopShape.{LoopShape}
use Rattle.code_flow_system.specs.declared.shapes.Span.{Span}
use Rattle.code_flow_system.specs.Moves.{destinations}
use Rattle.code_flow_system.specs.Systems.{System}

-- one shape for each loop claim, in order, with its header and back jump
abbrev pub AreShapesOf : List LoopClaim → List LoopShape → Type 0
AreShapesOf [] [] = Unit {0}
AreShapesOf [] (l ∷ ls) = ⊥
AreShapesOf (c ∷ cs) [] = ⊥
AreShapesOf (c ∷ cs) (l ∷ ls) = (l.header ≡ c.header) × (l.back ≡ c.back) × AreShapesOf cs ls

-- the address lies in the loop's range
pub record IsInLoop (l : LoopShape) (a : ℕ) : Type 0 where
  pub from : l.first ≤ a
  pub to : a ≤ l.last

-- two ranges have no address in common, or one lies in the other
abbrev pub AreNested : LoopShape → LoopShape → Type 0
AreNested k l = (k.last < l.first) ⊎ ((l.last < k.first) ⊎ (((l.first ≤ k.first) × (k.last ≤ l.last)) ⊎ ((k.first ≤ l.first) × (l.last ≤ k.last))))

abbrev pub AreAllNested : List LoopShape → Type 0
AreAllNested [] = Unit {0}
AreAllNested (l ∷ ls) = All (AreNested l) ls × AreAllNested ls

-- the moves that come into the range from outside go to the header
abbrev pub EntersAtHeader : LoopShape → Move → Type 0
EntersAtHeader l m = ¬ IsInLoop l m.at → All (λ a. IsInLoop l a → a ≡ l.header) (destinations m)

-- a loop of the system: it is entered at its header, and its back jump goes to its header alone
pub record IsLoop (s : System) (l : LoopShape) : Type 0 where
  pub header : IsInLoop l l.header
  pub back : IsInLoop l l.back
  pub entry : IsInLoop l s.entry → s.entry ≡ l.header
  pub goes_back : All (λ m. m.at ≡ l.back → destinations m ≡ l.header ∷ []) s.moves
  pub entered : All (EntersAtHeader l) s.moves

-- where a move goes on within its function: a call goes on behind itself
abbrev pub onward_by : Option ℕ → Option ℕ → List ℕ
onward_by to None = option_to_list to
onward_by to (Some behind) = behind ∷ []

abbrev pub onward : Move → List ℕ
onward m = onward_by m.to m.behind

abbrev pub is_back : List LoopShape → ℕ → Bool
is_back [] a = false
is_back (l ∷ ls) a = (l.back == a) || is_back ls a

-- the move is that of a back jump, or goes to higher addresses, but for a call's target
abbrev pub GoesUp : List LoopShape → Move → Type 0
GoesUp ls m = is_back ls m.at ≡ false → All (λ a. m.at < a) (onward m)

pub record IsInSpan (p : Span) (a : ℕ) : Type 0 where
  pub from : p.first ≤ a
  pub below : a < p.end

abbrev pub AreApart : Span → Span → Type 0
AreApart p q = (a : ℕ) → IsInSpan p a → ¬ IsInSpan q a

abbrev pub AreAllApart : List Span → Type 0
AreAllApart [] = Unit {0}
AreAllApart (p ∷ ps) = All (AreApart p) ps × AreAllApart ps

-- the address lies in one of the spans
abbrev pub IsInOne : List Span → ℕ → Type 0
IsInOne [] a = ⊥
IsInOne (p ∷ ps) a = IsInSpan p a ⊎ IsInOne ps a

-- the move stays in its span, but for a call's target
abbrev pub StaysIn : Move → Span → Type 0
StaysIn m p = IsInSpan p m.at → All (IsInSpan p) (onward m)

-- the target begins a span that stands earlier in the list than that of the address
abbrev pub BeginsEarlier : List Span → ℕ → ℕ → Type 0
BeginsEarlier [] target a = ⊥
BeginsEarlier (p ∷ ps) target a = ((p.first ≡ target) × IsInOne ps a) ⊎ BeginsEarlier ps target a

-- a call goes to an earlier span
abbrev pub CallsEarlier : List Span → Move → Type 0
CallsEarlier ps m = (target back : ℕ) → m.to ≡ Some target → m.behind ≡ Some back → BeginsEarlier ps target m.at

pub record Fits (s : System) (ls : List LoopShape) (ps : List Span) : Type 0 where
  pub shapes : AreShapesOf s.claims.loops ls
  pub nested : AreAllNested ls
  pub loops : All (IsLoop s) ls
  pub up : All (GoesUp ls) s.moves
  pub apart : AreAllApart ps
  pub covered : All (λ m. IsInOne ps m.at) s.moves
  pub stays : All (λ m. All (StaysIn m) ps) s.moves
  pub calls : All (CallsEarlier ps) s.moves
