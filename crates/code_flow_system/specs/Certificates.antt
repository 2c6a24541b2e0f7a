-- Certificates of a bound: potentials of addresses and multipliers of claims, as dual values of a linear program (Schrijver 1986, linear programming duality).
use Rattle.std.specs.Prelude.{◌≡◌, ℕ, ◌+◌, ◌*◌, ◌/◌, ◌^◌, ◌<◌, ◌≤◌, ◌==◌, ◌&&◌, ◌⊎◌, ℤ, pos, negsuc, neg_ℤ, ◌+ℤ◌, ◌-ℤ◌, ◌*ℤ◌, ◌≤ℤ◌, ◌<ℤ◌, unsigned_abs, List, [], ◌∷◌, ◌++◌, length, Bool, true, false, All, if◌then◌else◌}
use Rattle.frac128.specs.Terms.{Terms, int_sum_by, coefficient}
use Rattle.wcc_base.specs.declared.compare.Compare.{Compare}
use Rattle.wcc_base.specs.declared.compare.Compare.TheVariants.{AtMost, AtLeast, Equal}
use Rattle.rv_core.specs.Table.{Table}
use Rattle.code_flow_system.specs.declared.claims.Never.{Never}
use Rattle.code_flow_system.specs.declared.claims.LoopClaim.{LoopClaim}
use Rattle.code_flow_system.specs.declared.claims.FactClaim.{FactClaim}
use Rattle.code_flow_system.specs.declared.moves.Move.{Move}
use Rattle.code_flow_system.specs.declared.cert.Part.{Part}
use Rattle.code_flow_system.specs.declared.cert.Cert.{Cert}
use Rattle.code_flow_system.specs.declared.cert.Mark.{Mark}
use Rattle.code_flow_system.specs.declared.cert.Mark.TheVariants.{Greatest, Empty, Neither}
use Rattle.code_flow_system.specs.Claims.{Claims}
use Rattle.code_flow_system.specs.Moves.{destinations}
use Rattle.code_flow_system.specs.Systems.{System, has_moves}
use Rattle.code_flow_system.specs.Counts.{Amounts, count, inflow, KeepsCounts}
use Rattle.code_flow_system.specs.MoveCosts.{move_cost}
use Rattle.code_flow_system.specs.Flows.{price, value}

-- a sum of coefficients, how it compares with 0, and its multiplier
pub record Limit : Type 0 where
  pub terms : Terms
  pub op : Compare
  pub by : ℤ

abbrev pub negated : Terms → Terms
negated [] = []
negated (t ∷ ts) = (t.0, neg_ℤ t.1) ∷ negated ts

-- the limits of claims: of a never claim its count; of a loop claim MIN*(H-J) - H and H - MAX*(H-J); of a fact its left less its right

abbrev pub never_limits : List Never → List ℤ → List Limit
never_limits [] ws = []
never_limits (c ∷ cs) [] = []
never_limits (c ∷ cs) (w ∷ ws) = record { terms = (c.at, pos 1) ∷ []; op = AtMost; by = w } ∷ never_limits cs ws

abbrev pub least_terms : LoopClaim → Terms
least_terms c = (c.header, pos c.min -ℤ pos 1) ∷ (c.back, neg_ℤ (pos c.min)) ∷ []

abbrev pub most_terms : LoopClaim → Terms
most_terms c = (c.header, pos 1 -ℤ pos c.max) ∷ (c.back, pos c.max) ∷ []

abbrev pub least_limit : LoopClaim → ℤ → Limit
least_limit c w = record { terms = least_terms c; op = AtMost; by = w }

abbrev pub most_limit : LoopClaim → ℤ → Limit
most_limit c w = record { terms = most_terms c; op = AtMost; by = w }

abbrev pub loop_limits : List LoopClaim → List (ℤ × ℤ) → List Limit
loop_limits [] ws = []
loop_limits (c ∷ cs) [] = []
loop_limits (c ∷ cs) (w ∷ ws) = least_limit c w.0 ∷ most_limit c w.1 ∷ loop_limits cs ws

abbrev pub fact_limits : List FactClaim → List ℤ → List Limit
fact_limits [] ws = []
fact_limits (c ∷ cs) [] = []
fact_limits (c ∷ cs) (w ∷ ws) = record { terms = c.left ++ negated c.right; op = c.op; by = w } ∷ fact_limits cs ws

-- all limits of the claims, with the certificate's multipliers
abbrev pub limits : Claims → Cert → List Limit
limits claims c = never_limits claims.nevers c.nevers ++ (loop_limits claims.loops c.loops ++ fact_limits claims.facts c.facts)

abbrev pub FitsSign : Compare → ℤ → Type 0
FitsSign AtMost w = pos 0 ≤ℤ w
FitsSign AtLeast w = w ≤ℤ pos 0
FitsSign Equal w = Unit {0}

abbrev pub IsSigned : Limit → Type 0
IsSigned l = FitsSign l.op l.by

-- each multiplier times its limit's coefficient at an address, added
abbrev pub held : List Limit → ℕ → ℤ
held ls a = int_sum_by (λ l. l.by *ℤ coefficient l.terms a) ls

-- by how much the potential falls from a move's address to where it arrives
abbrev pub fall : (ℕ → ℤ) → Move → ℤ
fall p m = p m.at -ℤ int_sum_by p (destinations m)

-- a move's price is at most the fall of the potential and what the limits hold
abbrev pub IsCovered : (Move → ℤ) → (ℕ → ℤ) → List Limit → Move → Type 0
IsCovered price p ls m = price m ≤ℤ (fall p m +ℤ held ls m.at)

-- the absolute values of numbers, added
abbrev pub size_by : {X : Type 0} → (X → ℤ) → List X → ℕ
size_by f [] = 0
size_by f (x ∷ xs) = unsigned_abs (f x) + size_by f xs

-- the absolute values of a row's terms: the price, the potentials, and each multiplier with its limit's coefficient
abbrev pub row_size : (Move → ℤ) → (ℕ → ℤ) → List Limit → Move → ℕ
row_size price p ls m = unsigned_abs (price m) + unsigned_abs (p m.at) + size_by p (destinations m) + size_by (λ l. l.by *ℤ coefficient l.terms m.at) ls

-- the sums that a checker adds up stay below 2^126
abbrev pub IsNarrow : ℕ → Type 0
IsNarrow n = n < 2 ^ 126

-- a potential is given for the address
abbrev pub is_given : Terms → ℕ → Bool
is_given [] a = false
is_given (t ∷ ts) a = if t.0 == a then true else is_given ts a

abbrev pub potential : Cert → ℕ → ℤ
potential c a = coefficient c.potentials a

-- the cost of a move over the certificate's scale
abbrev pub scaled_price : Table → System → Cert → Move → ℤ
scaled_price t s c m = pos (move_cost t s m * c.scale)

-- the whole part of a number over a scale, and 0 where it is negative
abbrev pub whole_part : ℤ → ℕ → ℕ
whole_part (pos n) d = n / d
whole_part (negsuc n) d = 0

-- the listed flow

abbrev pub whole : ℤ → ℕ
whole (pos n) = n
whole (negsuc n) = 0

-- how often a list says that each move is made
abbrev pub listed : List Part → Amounts
listed [] a k = 0
listed (p ∷ ps) a k = (if (p.at == a) && (p.number == k) then whole p.part else 0) + listed ps a k

-- the system has the move of that address and number
abbrev pub has_move : List Move → ℕ → ℕ → Bool
has_move [] a k = false
has_move (m ∷ ms) a k = if (m.at == a) && (m.number == k) then true else has_move ms a k

-- the count of an address is what arrives there, and both together are narrow
pub record IsBalanced (out arriving : ℤ) : Type 0 where
  pub equal : out ≡ arriving
  pub narrow : IsNarrow (unsigned_abs out + unsigned_abs arriving)

-- the listed flow is one, and its value over the unit is the entry's potential over the scale; what its moves cost is narrow together
pub record IsGreatest (t : Table) (s : System) (c : Cert) : Type 0 where
  pub in_system : All (λ p. has_move s.moves p.at p.number ≡ true) c.flow.parts
  pub balanced : (a : ℕ) → IsBalanced (count (listed c.flow.parts) s.moves a) (coefficient (inflow s.entry c.flow.unit (listed c.flow.parts) s.moves) a)
  pub claims : KeepsCounts s.claims (count (listed c.flow.parts) s.moves)
  pub claims_narrow : All (λ l. IsNarrow (size_by (λ t. t.1 *ℤ count (listed c.flow.parts) s.moves t.0) l.terms)) (limits s.claims c)
  pub reached : (pos c.scale *ℤ value t s (listed c.flow.parts)) ≡ (pos c.flow.unit *ℤ potential c s.entry)
  pub narrow : IsNarrow (unsigned_abs (value t s (listed c.flow.parts)))

abbrev pub KeepsMark : Mark → Table → System → Cert → Type 0
KeepsMark Greatest t s c = IsGreatest t s c
KeepsMark Empty t s c = potential c s.entry <ℤ pos 0
KeepsMark Neither t s c = Unit {0}

-- the certificate is accepted
pub record Accepts (t : Table) (s : System) (c : Cert) : Type 0 where
  pub present : (a : ℕ) → has_moves s.moves a ≡ is_given c.potentials a
  pub signs : All IsSigned (limits s.claims c)
  pub narrow : All (λ m. IsNarrow (row_size (scaled_price t s c) (potential c) (limits s.claims c) m)) s.moves
  pub rows : All (IsCovered (scaled_price t s c) (potential c) (limits s.claims c)) s.moves
  pub value : c.cycles ≡ whole_part (potential c s.entry) c.scale
  pub mark : KeepsMark c.mark t s c

-- the ranges and orders of a certificate's numbers

abbrev pub IsSmall : ℤ → Type 0
IsSmall z = unsigned_abs z < 2 ^ 120

abbrev pub AddressesAscend : Terms → Type 0
AddressesAscend [] = Unit {0}
AddressesAscend (t ∷ ts) = All (λ u. t.0 < u.0) ts × AddressesAscend ts

abbrev pub PartsAscend : List Part → Type 0
PartsAscend [] = Unit {0}
PartsAscend (p ∷ ps) = All (λ q. (p.at < q.at) ⊎ ((p.at ≡ q.at) × (p.number < q.number))) ps × PartsAscend ps

pub record IsPart (p : Part) : Type 0 where
  pub positive : pos 0 <ℤ p.part
  pub small : IsSmall p.part

-- the unit is 0 exactly where the mark isn't greatest, and then no move is listed
abbrev pub FitsMark : Mark → ℕ → List Part → Type 0
FitsMark Greatest unit parts = (0 < unit) × (unit ≤ 2 ^ 48)
FitsMark Empty unit parts = (unit ≡ 0) × (parts ≡ [])
FitsMark Neither unit parts = (unit ≡ 0) × (parts ≡ [])

-- the certificate has a multiplier for each claim, and keeps ranges and orders
pub record IsInForm (claims : Claims) (c : Cert) : Type 0 where
  pub nevers : length c.nevers ≡ length claims.nevers
  pub loops : length c.loops ≡ length claims.loops
  pub facts : length c.facts ≡ length claims.facts
  pub cycles : c.cycles < 2 ^ 63
  pub scale : (0 < c.scale) × (c.scale ≤ 2 ^ 48)
  pub ascending : AddressesAscend c.potentials
  pub potentials : All (λ t. IsSmall t.1) c.potentials
  pub small_nevers : All IsSmall c.nevers
  pub small_loops : All (λ w. IsSmall w.0 × IsSmall w.1) c.loops
  pub small_facts : All IsSmall c.facts
  pub parts : All IsPart c.flow.parts
  pub parts_ascend : PartsAscend c.flow.parts
  pub unit : FitsMark c.mark c.flow.unit c.flow.parts
