-- Runs that keep the claims, as flows.
use Rattle.std.specs.Prelude.{◌≡◌, ℕ, ◌+◌, ◌≤◌, ◌==◌, ◌&&◌, ℤ, pos, ◌≤ℤ◌, List, [], ◌∷◌, Bool, true, false, Option, Some, None, All, if◌then◌else◌}
use Rattle.frac128.specs.Terms.{int_sum_by, when_same}
use Rattle.rv_core.specs.declared.regions.Region.{Region}
use Rattle.rv_core.specs.Images.{Image}
use Rattle.rv_core.specs.Table.{Table}
use Rattle.rv_core.specs.Regions.{region_of}
use Rattle.rv_core.specs.Machine.{Exited}
use Rattle.rv_core.specs.Runs.{Visit, Run, setup, mrun}
use Rattle.code_flow_system.specs.declared.claims.Within.{Within}
use Rattle.code_flow_system.specs.declared.cert.Cert.{Cert}
use Rattle.code_flow_system.specs.Claims.{Claims, is_listed}
use Rattle.code_flow_system.specs.Systems.{System}
use Rattle.code_flow_system.specs.Counts.{Amounts, KeepsCounts}
use Rattle.code_flow_system.specs.MoveCosts.{lies_within, names}
use Rattle.code_flow_system.specs.Flows.{IsFlow, value}

-- how often an address was visited
abbrev pub visit_count : List Visit → ℕ → ℤ
visit_count vs a = int_sum_by (λ v. when_same v.at a (pos 1)) vs

-- a region that a line names
abbrev pub names_region : Within → Option Region → Bool
names_region w None = false
names_region w (Some r) = names w r

-- an access, if there is one, touches a region that the line names
abbrev pub touches_named : Within → Option ℕ → Bool
touches_named w None = true
touches_named w (Some at) = names_region w (region_of at)

-- a visit within a line touches only its regions
abbrev pub KeepsLine : Visit → Within → Type 0
KeepsLine v w = lies_within w v.at ≡ true → touches_named w v.access ≡ true

-- the latest visit is at a listed exit, and no earlier one is
abbrev pub EndsAtExit : List ℕ → List Visit → Type 0
EndsAtExit exits [] = ⊥
EndsAtExit exits (v ∷ vs) = (is_listed exits v.at ≡ true) × All (λ w. is_listed exits w.at ≡ false) vs

-- a finished run that keeps the claims
pub record KeepsClaims (c : Claims) (r : Run) : Type 0 where
  pub value : ℤ
  pub finished : r.state.ending ≡ Exited value
  pub counts : KeepsCounts c (visit_count r.visits)
  pub accesses : All (λ v. All (KeepsLine v) c.regions) r.visits
  pub returns : r.astray ≡ false
  pub exit : EndsAtExit c.exits r.visits
  pub none_left : r.places ≡ []

-- how often each move was made
abbrev pub tally : List Visit → Amounts
tally [] a k = 0
tally (v ∷ vs) a k = (if (v.at == a) && (v.move == k) then 1 else 0) + tally vs a k

-- the moves of a run are a flow of unit 1, whose value is at least the run's cycles
pub record RunsAsFlow (t : Table) (s : System) (r : Run) : Type 0 where
  pub flow : IsFlow s 1 (tally r.visits)
  pub cycles : pos r.state.cycles ≤ℤ value t s (tally r.visits)

abbrev pub RunsAreFlows : Image → Table → System → Type 0
RunsAreFlows image t s = (input : List ℕ) (n : ℕ) → KeepsClaims s.claims (mrun (setup image t input) n) → RunsAsFlow t s (mrun (setup image t input) n)

-- each finished run that keeps the claims takes at most the certificate's cycles
abbrev pub BoundsRuns : Image → Table → System → Cert → Type 0
BoundsRuns image t s c = (input : List ℕ) (n : ℕ) → KeepsClaims s.claims (mrun (setup image t input) n) → (mrun (setup image t input) n).state.cycles ≤ c.cycles
