-- What is known of claims without addresses that are never visited is known of them with those, whatever their loops are called.
use Rattle.std.specs.Prelude.{◌≡◌, ℕ, ◌≤◌, ◌^◌, ◌≤ℤ◌, pos, false, List, [], length, None, All}
use Rattle.rv_core.specs.Images.{Image}
use Rattle.rv_core.specs.Runs.{Run}
use Rattle.rv_core.specs.Table.{Table}
use Rattle.code_flow_system.specs.declared.claims.FactClaim.{FactClaim}
use Rattle.code_flow_system.specs.declared.claims.Never.{Never}
use Rattle.code_flow_system.specs.declared.shapes.LoopShape.{LoopShape}
use Rattle.code_flow_system.specs.declared.shapes.Span.{Span}
use Rattle.code_flow_system.specs.Claims.{AreSound, Claims, fact_flaws, never_flaws}
use Rattle.code_flow_system.specs.Counts.{Amounts, KeepsFact, KeepsNever, count}
use Rattle.code_flow_system.specs.Loose.{IsLoose}
use Rattle.code_flow_system.specs.KeptRuns.{KeepsClaims, visit_count}
use Rattle.code_flow_system.specs.Systems.{IsBad, IsFalseExit, IsFirstNoCode, IsNoCode, IsSystemOf, System}
use Rattle.high_pass.specs.Listing.{LoopEntry}
use Rattle.path_conditions.specs.Natural.{IsNaturalFact, both_totals}
use Rattle.path_conditions.specs.Searching.{CanSearch}
use Rattle.path_conditions.specs.Bounding.{CanBound}
use Rattle.compile_claims.specs.Named.{named}

-- a system under other claims
abbrev pub under : Claims → System → System
under c s = record { entry = s.entry; claims = c; moves = s.moves }

-- the system of an image is the same
abbrev pub SystemsAreSame : Type 0
SystemsAreSame = (es : List LoopEntry) (ns : List Never) (fs : List FactClaim) (image : Image) (c : Claims) (s : System) → c.nevers ≡ [] → c.facts ≡ [] → IsSystemOf image (named es ns fs c) s → IsSystemOf image c (under c s)

-- no claim is bad where none was and the other addresses are aligned, and those of never marks ascend
abbrev pub NoneIsBad : Type 0
NoneIsBad =
    (es : List LoopEntry) (ns : List Never) (fs : List FactClaim) (image : Image) (c : Claims) → c.nevers ≡ [] → AreSound c → ((n : ℕ) → ¬ IsFalseExit image c n) → All (λ flaw. flaw ≡ false) (never_flaws None ns) → All (λ flaw. flaw ≡ false) (fact_flaws fs) → (n : ℕ) → ¬ IsBad image (named es ns fs c) n

-- and what is reached and no code is so without them
abbrev pub NoCodeIsSame : Type 0
NoCodeIsSame = (es : List LoopEntry) (ns : List Never) (fs : List FactClaim) (image : Image) (c : Claims) (a : ℕ) → IsFirstNoCode image (named es ns fs c) a → IsNoCode image c a

-- there are few restrictions, of numbers that aren't negative, and their sides come to little at the counts of loose flows
pub record AreLightFacts (s : System) (fs : List FactClaim) : Type 0 where
  pub few : length fs ≤ 32
  pub natural : All IsNaturalFact fs
  pub totals : (x : Amounts) → IsLoose s 1 x → All (λ f. both_totals f (count x s.moves) ≤ℤ pos (2 ^ 66)) fs

-- a search can be made as well, under restrictions
abbrev pub BoundsAreSame : Type 0
BoundsAreSame = (es : List LoopEntry) (ns : List Never) (fs : List FactClaim) (t : Table) (c : Claims) (s : System) (ls : List LoopShape) (ps : List Span) → s.claims ≡ named es ns fs c → CanBound t (under c s) ls ps → AreLightFacts (under c s) fs → CanSearch t s ls ps

-- a run keeps them as well where it visits none of the addresses and keeps the restrictions
abbrev pub RunsKeepSame : Type 0
RunsKeepSame = (es : List LoopEntry) (ns : List Never) (fs : List FactClaim) (c : Claims) (r : Run) → All (KeepsNever (visit_count r.visits)) ns → All (KeepsFact (visit_count r.visits)) fs → KeepsClaims c r → KeepsClaims (named es ns fs c) r
