-- Claims on the runs of an image: where they exit, what they never visit, what their accesses touch, how often loops turn, and restrictions between counts (Li and Malik 1995, structural and functionality constraints).
use Rattle.std.specs.Prelude.{◌≡◌, ℕ, ◌+◌, ◌%◌, ◌^◌, ◌<◌, ◌==◌, ◌&&◌, ◌||◌, not, List, [], ◌∷◌, ◌++◌, length, Bool, true, false, Option, Some, None, All, nat_lt, nat_le}
use Rattle.frac128.specs.Terms.{Terms}
use Rattle.frac128.specs.Sum.{IsSum}
use Rattle.code_flow_system.specs.declared.claims.Never.{Never}
use Rattle.code_flow_system.specs.declared.claims.Within.{Within}
use Rattle.code_flow_system.specs.declared.claims.LoopClaim.{LoopClaim}
use Rattle.code_flow_system.specs.declared.claims.FactClaim.{FactClaim}

pub record Claims : Type 0 where
  pub exits : List ℕ
  pub nevers : List Never
  pub regions : List Within
  pub loops : List LoopClaim
  pub facts : List FactClaim

abbrev pub claims_of : List ℕ → List Never → List Within → List LoopClaim → List FactClaim → Claims
claims_of exits nevers regions loops facts = record { exits = exits; nevers = nevers; regions = regions; loops = loops; facts = facts }

-- the two sides of a fact are sums in their one form
pub record AreSums (c : FactClaim) : Type 0 where
  pub left : IsSum c.left
  pub right : IsSum c.right

abbrev pub claim_count : Claims → ℕ
claim_count c = length c.exits + length c.nevers + length c.regions + length c.loops + length c.facts

-- there are fewer than 2^32 claims
pub record AreClaims (c : Claims) : Type 0 where
  pub few : claim_count c < 2 ^ 32
  pub sums : All AreSums c.facts

-- the address is listed
abbrev pub is_listed : List ℕ → ℕ → Bool
is_listed [] a = false
is_listed (x ∷ xs) a = (x == a) || is_listed xs a

-- instructions stand at multiples of 4
abbrev pub is_aligned : ℕ → Bool
is_aligned a = a % 4 == 0

abbrev pub are_aligned : Terms → Bool
are_aligned [] = true
are_aligned (t ∷ ts) = is_aligned t.0 && are_aligned ts

-- above the address of the line before, if there is one
abbrev pub is_above : Option ℕ → ℕ → Bool
is_above None a = true
is_above (Some b) a = nat_lt b a

-- not below the end of the line before, if there is one
abbrev pub is_past : Option ℕ → ℕ → Bool
is_past None a = true
is_past (Some b) a = nat_le b a

-- a line of regions that holds an address and names a region
abbrev pub is_filled : Within → Bool
is_filled w = is_aligned w.first && (is_aligned w.end && (nat_lt w.first w.end && (w.flash || (w.spm || w.ram))))

-- whether each claim is bad by itself, behind a line with that address: an address isn't aligned, or the lines don't ascend

abbrev pub exit_flaws : Option ℕ → List ℕ → List Bool
exit_flaws before [] = []
exit_flaws before (a ∷ rest) = not (is_aligned a && is_above before a) ∷ exit_flaws (Some a) rest

abbrev pub never_flaws : Option ℕ → List Never → List Bool
never_flaws before [] = []
never_flaws before (c ∷ cs) = not (is_aligned c.at && is_above before c.at) ∷ never_flaws (Some c.at) cs

-- or a line of regions is empty, or shares an address with the line before
abbrev pub region_flaws : Option ℕ → List Within → List Bool
region_flaws before [] = []
region_flaws before (w ∷ ws) = not (is_filled w && is_past before w.first) ∷ region_flaws (Some w.end) ws

abbrev pub loop_flaws : Option ℕ → List LoopClaim → List Bool
loop_flaws before [] = []
loop_flaws before (c ∷ cs) = not (is_aligned c.header && (is_aligned c.back && is_above before c.header)) ∷ loop_flaws (Some c.header) cs

abbrev pub fact_flaws : List FactClaim → List Bool
fact_flaws [] = []
fact_flaws (c ∷ cs) = not (are_aligned c.left && are_aligned c.right) ∷ fact_flaws cs

-- whether each claim is bad by itself, in the order of their numbers
abbrev pub flaws : Claims → List Bool
flaws c = exit_flaws None c.exits ++ (never_flaws None c.nevers ++ (region_flaws None c.regions ++ (loop_flaws None c.loops ++ fact_flaws c.facts)))

-- no claim is bad by itself
abbrev pub AreSound : Claims → Type 0
AreSound c = All (λ flaw. flaw ≡ false) (flaws c)
