-- The rows of the checker, in their order: of each, what holds and where it fails (Schrijver 1986, dual feasibility and complementary slackness).
use Rattle.std.specs.Ordering.{int_eq}
use Rattle.std.specs.Prelude.{◌≡◌, ◌≢◌, ℕ, ◌+◌, ◌^◌, ◌||◌, not, ℤ, pos, ◌+ℤ◌, ◌*ℤ◌, ◌<ℤ◌, unsigned_abs, nat_le, int_lt, List, [], ◌∷◌, ◌++◌, length, Bool, true, false, Option, Some, None, All, if◌then◌else◌}
use Rattle.frac128.specs.Terms.{Terms, coefficient, applied}
use Rattle.wcc_base.specs.declared.compare.Compare.{Compare}
use Rattle.wcc_base.specs.declared.compare.Compare.TheVariants.{AtMost, AtLeast, Equal}
use Rattle.rv_core.specs.Table.{Table}
use Rattle.code_flow_system.specs.declared.claims.Never.{Never}
use Rattle.code_flow_system.specs.declared.claims.LoopClaim.{LoopClaim}
use Rattle.code_flow_system.specs.declared.claims.FactClaim.{FactClaim}
use Rattle.code_flow_system.specs.declared.moves.Move.{Move}
use Rattle.code_flow_system.specs.declared.cert.Cert.{Cert}
use Rattle.code_flow_system.specs.Claims.{Claims}
use Rattle.code_flow_system.specs.Systems.{System, has_moves}
use Rattle.code_flow_system.specs.Counts.{count, inflow, KeepsCounts}
use Rattle.code_flow_system.specs.Flows.{value}
use Rattle.code_flow_system.specs.Certificates.{Limit, limits, held, fall, negated, least_terms, most_terms, size_by, row_size, is_given, potential, scaled_price, whole_part, listed, has_move, IsBalanced, IsNarrow, IsSigned, IsCovered}
use Rattle.dual_check.specs.declared.row.Row.{Row}
use Rattle.dual_check.specs.declared.row.Row.TheVariants.{Wide, Move as MoveRow}

-- the first of two, if there is one
abbrev pub earlier : {X : Type 0} → Option X → Option X → Option X
earlier None y = y
earlier (Some x) y = Some x

-- the number of the first element that fails, where the numbers begin with n
abbrev pub first_failing : {X : Type 0} → (X → Bool) → ℕ → List X → Option ℕ
first_failing fails n [] = None
first_failing fails n (x ∷ xs) = if fails x then Some n else first_failing fails (n + 1) xs

-- claims are numbered over exits, nevers, regions, loops and facts

abbrev pub nevers_from : Claims → ℕ
nevers_from c = length c.exits

abbrev pub loops_from : Claims → ℕ
loops_from c = length c.exits + length c.nevers + length c.regions

abbrev pub facts_from : Claims → ℕ
facts_from c = length c.exits + length c.nevers + length c.regions + length c.loops

-- missing: the addresses with moves are those with a potential

abbrev pub AreGiven : System → Cert → Type 0
AreGiven s c = (a : ℕ) → has_moves s.moves a ≡ is_given c.potentials a

abbrev pub FailsMissing : System → Cert → ℕ → Type 0
FailsMissing s c a = has_moves s.moves a ≢ is_given c.potentials a

-- sign: no multiplier of a never or loop claim is negative, and that of a fact has the sign of its operator

abbrev pub AreSigned : System → Cert → Type 0
AreSigned s c = All IsSigned (limits s.claims c)

abbrev pub is_negative : ℤ → Bool
is_negative w = int_lt w (pos 0)

abbrev pub is_negative_pair : ℤ × ℤ → Bool
is_negative_pair w = is_negative w.0 || is_negative w.1

abbrev pub is_wrong_for : Compare → ℤ → Bool
is_wrong_for AtMost w = int_lt w (pos 0)
is_wrong_for AtLeast w = int_lt (pos 0) w
is_wrong_for Equal w = false

abbrev pub first_wrong_fact : ℕ → List FactClaim → List ℤ → Option ℕ
first_wrong_fact n [] ws = None
first_wrong_fact n (c ∷ cs) [] = None
first_wrong_fact n (c ∷ cs) (w ∷ ws) = if is_wrong_for c.op w then Some n else first_wrong_fact (n + 1) cs ws

-- the first claim with a multiplier of the wrong sign
abbrev pub first_wrong_sign : Claims → Cert → Option ℕ
first_wrong_sign claims c = earlier (first_failing is_negative (nevers_from claims) c.nevers) (earlier (first_failing is_negative_pair (loops_from claims) c.loops) (first_wrong_fact (facts_from claims) claims.facts c.facts))

-- wide and move: of each move, in order, the absolute values of its row come to less than 2^126, and its price is covered

pub record AreCovered (t : Table) (s : System) (c : Cert) : Type 0 where
  pub narrow : All (λ m. IsNarrow (row_size (scaled_price t s c) (potential c) (limits s.claims c) m)) s.moves
  pub rows : All (IsCovered (scaled_price t s c) (potential c) (limits s.claims c)) s.moves

abbrev pub move_fault : (Move → ℤ) → (ℕ → ℤ) → List Limit → Move → Option Row
move_fault price p ls m = if nat_le (2 ^ 126) (row_size price p ls m) then Some (Wide m.at) else if int_lt (fall p m +ℤ held ls m.at) (price m) then Some (MoveRow m.at m.number) else None

abbrev pub first_move_fault : (Move → ℤ) → (ℕ → ℤ) → List Limit → List Move → Option Row
first_move_fault price p ls [] = None
first_move_fault price p ls (m ∷ ms) = earlier (move_fault price p ls m) (first_move_fault price p ls ms)

-- value: the cycles are the whole part of the entry's potential over the scale

abbrev pub HasValue : System → Cert → Type 0
HasValue s c = c.cycles ≡ whole_part (potential c s.entry) c.scale

-- flow: each listed move is in the system, and what leaves an address is what arrives there

pub record IsFlowAt (s : System) (c : Cert) (a : ℕ) : Type 0 where
  pub in_system : All (λ p. p.at ≡ a → has_move s.moves p.at p.number ≡ true) c.flow.parts
  pub balanced : IsBalanced (count (listed c.flow.parts) s.moves a) (coefficient (inflow s.entry c.flow.unit (listed c.flow.parts) s.moves) a)

abbrev pub FailsFlow : System → Cert → ℕ → Type 0
FailsFlow s c a = ¬ IsFlowAt s c a

-- unmet: the listed flow's counts keep the claims, each a sum that is compared with 0

abbrev pub counts : System → Cert → ℕ → ℤ
counts s c a = count (listed c.flow.parts) s.moves a

abbrev pub breaks : Compare → ℤ → Bool
breaks AtMost v = int_lt (pos 0) v
breaks AtLeast v = int_lt v (pos 0)
breaks Equal v = not (int_eq v (pos 0))

-- the sum of a limit is wide, or is not as it should be
abbrev pub fails_limit : (ℕ → ℤ) → Compare → Terms → Bool
fails_limit n op terms = nat_le (2 ^ 126) (size_by (λ t. t.1 *ℤ n t.0) terms) || breaks op (applied terms n)

abbrev pub fails_never : (ℕ → ℤ) → Never → Bool
fails_never n c = fails_limit n AtMost ((c.at, pos 1) ∷ [])

abbrev pub fails_loop : (ℕ → ℤ) → LoopClaim → Bool
fails_loop n c = fails_limit n AtMost (least_terms c) || fails_limit n AtMost (most_terms c)

abbrev pub fails_fact : (ℕ → ℤ) → FactClaim → Bool
fails_fact n c = fails_limit n c.op (c.left ++ negated c.right)

-- the first claim that the counts don't keep
abbrev pub first_unmet : Claims → (ℕ → ℤ) → Option ℕ
first_unmet claims n = earlier (first_failing (fails_never n) (nevers_from claims) claims.nevers) (earlier (first_failing (fails_loop n) (loops_from claims) claims.loops) (first_failing (fails_fact n) (facts_from claims) claims.facts))

pub record AreMet (s : System) (c : Cert) : Type 0 where
  pub claims : KeepsCounts s.claims (counts s c)
  pub narrow : All (λ l. IsNarrow (size_by (λ t. t.1 *ℤ counts s c t.0) l.terms)) (limits s.claims c)

-- greatest: the listed flow's value over the unit is the entry's potential over the scale, as fractions; what its moves cost is narrow together

pub record IsReached (t : Table) (s : System) (c : Cert) : Type 0 where
  pub equal : (pos c.scale *ℤ value t s (listed c.flow.parts)) ≡ (pos c.flow.unit *ℤ potential c s.entry)
  pub narrow : IsNarrow (unsigned_abs (value t s (listed c.flow.parts)))

-- empty: the entry's potential is negative

abbrev pub IsBelowZero : System → Cert → Type 0
IsBelowZero s c = potential c s.entry <ℤ pos 0
