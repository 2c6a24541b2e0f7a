-- What a report claims is what the annotations of a source say (Kirner 2003).
use Rattle.std.specs.Prelude.{◌≡◌, ◌≢◌, ℕ, suc, ◌<◌, ◌≤◌, List, [], ◌∷◌, ◌++◌, length, map, take, drop, Some, All, Contains, MatchOption, slice_get}
use Rattle.facts_definitions.specs.declared.facts.Facts.{Facts}
use Rattle.facts_definitions.specs.declared.facts.Restriction.{Restriction}
use Rattle.facts_loops.specs.Factors.{AreBy, StartsFewer}
use Rattle.facts_loops.specs.Loops.{SourceLoop, source_loops, starts_of}
use Rattle.c_tree.specs.Names.{name_of}
use Rattle.c_tree.specs.declared.expression.NameId.{NameId}
use Rattle.types_tree.specs.Tree.{Program}
use Rattle.flow_facts.specs.Translating.{sum_places}
use Rattle.flow_facts.specs.declared.places.Places.{Places}
use Rattle.code_flow_system.specs.declared.claims.FactClaim.{FactClaim}
use Rattle.code_flow_system.specs.declared.claims.LoopClaim.{LoopClaim}
use Rattle.code_flow_system.specs.declared.claims.Never.{Never}
use Rattle.frac128.specs.Terms.{coefficient}
use Rattle.report_text.specs.declared.entries.CopyLine.{CopyLine}
use Rattle.report_text.specs.declared.entries.Share.{Share}
use Rattle.report_text.specs.Reports.{Report}

-- the names that are counted: the functions, and then the markers, in source order
abbrev pub counted_names : (names : List (List ℕ)) → Facts → List (List ℕ)
counted_names names facts = map (λ (n : NameId). name_of names n.0) (facts.functions ++ facts.markers)

-- a line of a loop, which lines number from 1 on, has its starts, or, where several of its starts are one, those that they leave
pub record IsLoopLine (loops : List SourceLoop) (c : LoopClaim) : Type 0 where
  pub number : ℕ
  pub source : c.source ≡ suc number
  pub factor : 1 ≤ c.factor
  pub starts : AreBy (starts_of loops number) c.factor (record { least = c.min; most = c.max })

-- an address that no kept run visits stands behind more starts than its loop makes
pub record IsNeverLine (loops : List SourceLoop) (c : Never) : Type 0 where
  pub number : ℕ
  pub source : c.source ≡ suc number
  pub fewer : StartsFewer (starts_of loops number) c.factor

-- where functions and markers stand, as the copy lines tell
abbrev pub places_in : List CopyLine → List (List ℕ)
places_in cs = map (λ (c : CopyLine). c.places) cs

abbrev pub places_by : Facts → List CopyLine → Places
places_by facts lines = let n = length facts.functions in record { of_functions = places_in (take n lines); of_markers = places_in (drop n lines) }

abbrev pub places_told : Facts → Report → Places
places_told facts r = places_by facts r.names

-- a restriction, each name replaced by the sum of its addresses
pub record IsFactLine (facts : Facts) (places : Places) (r : Restriction) (c : FactClaim) : Type 0 where
  pub left : (a : ℕ) → coefficient c.left a ≡ coefficient (sum_places facts places r.left) a
  pub op : c.op ≡ r.op
  pub right : (a : ℕ) → coefficient c.right a ≡ coefficient (sum_places facts places r.right) a

-- each restriction, in source order
abbrev pub AreFactLines : Facts → Places → List Restriction → List FactClaim → Type 0
AreFactLines facts places [] [] = Unit {0}
AreFactLines facts places [] (c ∷ cs) = ⊥
AreFactLines facts places (r ∷ rs) [] = ⊥
AreFactLines facts places (r ∷ rs) (c ∷ cs) = IsFactLine facts places r c × AreFactLines facts places rs cs

-- the copy lines of the functions
abbrev pub function_lines : Facts → Report → List CopyLine
function_lines facts r = take (length facts.functions) r.names

-- a share begins at an address of the function of that name
pub record IsOfFunction (lines : List CopyLine) (s : Share) (name : List ℕ) : Type 0 where
  pub line : CopyLine
  pub there : Contains lines line
  pub name_is : line.name ≡ name
  pub begins : Contains line.places s.first

abbrev pub IsShareLine : List CopyLine → Share → Type 0
IsShareLine lines s = MatchOption s.name (Unit {0}) (IsOfFunction lines s)

-- no function has two shares, and at most one share has no function
abbrev pub AreNamedOnce : List Share → Type 0
AreNamedOnce shares = (i j : ℕ) (s t : Share) → i < j → slice_get shares i ≡ Some s → slice_get shares j ≡ Some t → s.name ≢ t.name

pub record TellsFacts (program : Program) (names : List (List ℕ)) (facts : Facts) (r : Report) : Type 0 where
  pub copies : map (λ (c : CopyLine). c.name) r.names ≡ counted_names names facts
  pub facts_told : AreFactLines facts (places_told facts r) facts.restrictions r.claims.facts
  pub loops : All (IsLoopLine (source_loops program facts)) r.claims.loops
  pub nevers : All (IsNeverLine (source_loops program facts)) r.claims.nevers
  pub shares : All (IsShareLine (function_lines facts r)) r.shares
  pub shares_apart : AreNamedOnce r.shares
