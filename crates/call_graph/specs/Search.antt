-- What a search in depth knows of the functions that it has seen.
use Rattle.std.specs.Prelude.{◌≡◌, ◌⊎◌, ℕ, suc, ◌≤◌, ◌<◌, List, [], ◌∷◌, length, Result, Ok, Err, Bool, true, false}
use Rattle.std.proofs.Math.ListN.{get_or}
use Rattle.types_calls.specs.Chains.{Among, callees, IsRank, Reaches}
use Rattle.call_graph.specs.declared.graph.Mark.{Mark}
use Rattle.call_graph.specs.declared.graph.Mark.TheVariants.{New, Open, Done}
use Rattle.call_graph.specs.declared.graph.Stop.{Stop}
use Rattle.call_graph.specs.declared.graph.Stop.TheVariants.{Memory, Cycle}

abbrev pub mark_of : List Mark → ℕ → Mark
mark_of marks g = get_or marks g New

abbrev pub fresh : List Mark → ℕ
fresh [] = 0
fresh (New ∷ ms) = suc (fresh ms)
fresh (Open ∷ ms) = fresh ms
fresh (Done r ∷ ms) = fresh ms

-- what is said to be done is so
pub record IsSound (graph : List (List ℕ)) (marks : List Mark) : Type 0 where
  pub ranks : (g r : ℕ) → mark_of marks g ≡ Done r → IsRank graph g r

-- what is open reaches f
pub record IsPath (graph : List (List ℕ)) (marks : List Mark) (f : ℕ) : Type 0 where
  pub reach : (g : ℕ) → mark_of marks g ≡ Open → Reaches graph g f

-- what is open reaches f, or is f
pub record IsPathTo (graph : List (List ℕ)) (marks : List Mark) (f : ℕ) : Type 0 where
  pub reach : (g : ℕ) → mark_of marks g ≡ Open → (g ≡ f) ⊎ Reaches graph g f

-- a search leaves sound marks, opens nothing and makes nothing new
pub record Keeps (graph : List (List ℕ)) (before after : List Mark) : Type 0 where
  pub size : length after ≡ length before
  pub sound : IsSound graph after
  pub opens : (g : ℕ) → mark_of after g ≡ Open → mark_of before g ≡ Open
  pub fewer : fresh after ≤ fresh before

-- what a visit of f answers
abbrev pub Visits : Result ℕ Stop → List (List ℕ) → ℕ → (before after : List Mark) → Type 0
Visits (Ok r) graph f before after = IsRank graph f r × Keeps graph before after
Visits (Err Memory) graph f before after = Unit {0}
Visits (Err (Cycle g)) graph f before after = (g < length graph) × Reaches graph g g

pub record IsInRange (graph : List (List ℕ)) : Type 0 where
  pub within : (f g : ℕ) → Among g (callees graph f) → g < length graph

abbrev pub IsHigher : Result ℕ Stop → (rank below : ℕ) → Type 0
IsHigher (Ok r) rank below = ((below < rank) × (r ≡ rank)) ⊎ ((rank ≤ below) × (r ≡ suc below))
IsHigher (Err Memory) rank below = Unit {0}
IsHigher (Err (Cycle g)) rank below = ⊥

abbrev pub is_seen : List Bool → ℕ → Bool
is_seen seen g = get_or seen g false

abbrev pub unseen : List Bool → ℕ
unseen [] = 0
unseen (true ∷ bs) = unseen bs
unseen (false ∷ bs) = suc (unseen bs)

-- from before to after all was seen that is reached from g, but for what is left of its callees
pub record Spreads (graph : List (List ℕ)) (g : ℕ) (left : List ℕ) (before after : List Bool) : Type 0 where
  pub size : length after ≡ length before
  pub grows : (h : ℕ) → is_seen before h ≡ true → is_seen after h ≡ true
  pub has : is_seen after g ≡ true
  pub sound : (h : ℕ) → is_seen after h ≡ true → (is_seen before h ≡ true) ⊎ ((h ≡ g) ⊎ Reaches graph g h)
  pub closed : (h k : ℕ) → is_seen after h ≡ true → Among k (callees graph h) → (is_seen before h ≡ true) ⊎ ((is_seen after k ≡ true) ⊎ ((h ≡ g) × Among k left))
  pub fewer : unseen after ≤ unseen before

-- all that was seen is reached from f, and all that is reached was seen, but for what is left
pub record IsRoot (graph : List (List ℕ)) (f : ℕ) (left : List ℕ) (seen : List Bool) : Type 0 where
  pub size : length seen ≡ length graph
  pub sound : (h : ℕ) → is_seen seen h ≡ true → Reaches graph f h
  pub closed : (h k : ℕ) → is_seen seen h ≡ true → Among k (callees graph h) → is_seen seen k ≡ true
  pub covers : (k : ℕ) → Among k (callees graph f) → (is_seen seen k ≡ true) ⊎ Among k left

-- whether f reaches itself
pub record Tells (b : Bool) (graph : List (List ℕ)) (f : ℕ) : Type 0 where
  pub reaches : b ≡ true → Reaches graph f f
  pub not_missed : Reaches graph f f → b ≡ true

-- the functions before f have their ranks, and nothing is open
pub record IsRanking (graph : List (List ℕ)) (f : ℕ) (marks : List Mark) (ranks : List ℕ) : Type 0 where
  pub size : length marks ≡ length graph
  pub sound : IsSound graph marks
  pub closed : (g : ℕ) → mark_of marks g ≡ Open → ⊥
  pub count : length ranks ≡ f
  pub each : (g : ℕ) → g < f → IsRank graph g (get_or ranks g 0)
