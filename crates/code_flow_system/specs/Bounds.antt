-- What an accepted certificate says of all flows, and when a flow reaches a bound (Schrijver 1986, weak duality and complementary slackness).
use Rattle.std.specs.Prelude.{◌≡◌, ℕ, ℤ, pos, ◌*ℤ◌, ◌≤ℤ◌, ◌+ℤ◌, List, All}
use Rattle.frac128.specs.Terms.{Terms, coefficient, applied}
use Rattle.rv_core.specs.Table.{Table}
use Rattle.code_flow_system.specs.declared.moves.Move.{Move}
use Rattle.code_flow_system.specs.declared.cert.Cert.{Cert}
use Rattle.code_flow_system.specs.declared.cert.Mark.TheVariants.{Greatest, Empty}
use Rattle.code_flow_system.specs.Systems.{System}
use Rattle.code_flow_system.specs.Counts.{Amounts, amount, count, IsConserved, total, Compares}
use Rattle.code_flow_system.specs.Flows.{IsFlow, value}
use Rattle.code_flow_system.specs.Certificates.{Limit, held, fall, IsSigned, IsCovered, listed, potential}

-- no flow has a value above the entry's potential over the scale
abbrev pub BoundsFlows : Table → System → Cert → Type 0
BoundsFlows t s c = (unit : ℕ) (x : Amounts) → IsFlow s unit x → (pos c.scale *ℤ value t s x) ≤ℤ (pos unit *ℤ potential c s.entry)

-- the listed flow is a flow of exactly that value
pub record ReachesBound (t : Table) (s : System) (c : Cert) : Type 0 where
  pub flow : IsFlow s c.flow.unit (listed c.flow.parts)
  pub value : (pos c.scale *ℤ value t s (listed c.flow.parts)) ≡ (pos c.flow.unit *ℤ potential c s.entry)

-- there is no flow
abbrev pub HasNoFlow : System → Type 0
HasNoFlow s = (unit : ℕ) (x : Amounts) → ¬ IsFlow s unit x

-- what the mark says is so
pub record KeepsPromise (t : Table) (s : System) (c : Cert) : Type 0 where
  pub greatest : c.mark ≡ Greatest → ReachesBound t s c
  pub empty : c.mark ≡ Empty → HasNoFlow s

-- the same for any prices of the moves, any potentials and any limits

pub record Dual : Type 0 where
  pub price : Move → ℤ
  pub potentials : Terms
  pub limits : List Limit

-- counts keep a limit
abbrev pub KeepsLimit : (ℕ → ℤ) → Limit → Type 0
KeepsLimit n l = Compares l.op (applied l.terms n) (pos 0)

-- what leaves the addresses is what arrives, and the limits are kept
pub record IsFeasible (s : System) (d : Dual) (unit : ℕ) (x : Amounts) : Type 0 where
  pub conserved : IsConserved s.entry unit x s.moves
  pub limits : All (KeepsLimit (count x s.moves)) d.limits

-- each multiplier has its limit's sign, and each move is covered
pub record IsDual (s : System) (d : Dual) : Type 0 where
  pub signs : All IsSigned d.limits
  pub rows : All (IsCovered d.price (coefficient d.potentials) d.limits) s.moves

-- no total is above the unit times the entry's potential
abbrev pub BoundsTotals : System → Dual → Type 0
BoundsTotals s d = (unit : ℕ) (x : Amounts) → IsFeasible s d unit x → total d.price x s.moves ≤ℤ (pos unit *ℤ coefficient d.potentials s.entry)

-- a move isn't made, or its price is all that the potential falls and the limits hold
abbrev pub IsTight : Dual → Amounts → Move → Type 0
IsTight d x m = (amount x m *ℤ d.price m) ≡ (amount x m *ℤ (fall (coefficient d.potentials) m +ℤ held d.limits m.at))

-- a limit has no multiplier, or is kept with equality
abbrev pub IsExact : (ℕ → ℤ) → Limit → Type 0
IsExact n l = (l.by *ℤ applied l.terms n) ≡ pos 0

pub record IsSlackless (s : System) (d : Dual) (unit : ℕ) (x : Amounts) : Type 0 where
  pub conserved : IsConserved s.entry unit x s.moves
  pub tight : All (IsTight d x) s.moves
  pub exact : All (IsExact (count x s.moves)) d.limits

-- a total without slack is the unit times the entry's potential
abbrev pub ReachesPotential : System → Dual → Type 0
ReachesPotential s d = (unit : ℕ) (x : Amounts) → IsSlackless s d unit x → total d.price x s.moves ≡ (pos unit *ℤ coefficient d.potentials s.entry)
