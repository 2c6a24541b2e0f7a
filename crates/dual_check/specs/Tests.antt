-- The rows on the listed flow, as tests.
use Rattle.std.specs.Ordering.{int_eq}
use Rattle.std.specs.Prelude.{ℕ, ◌+◌, ◌^◌, ◌&&◌, ℤ, unsigned_abs, nat_lt, Bool, true, Option, Some, None}
use Rattle.frac128.specs.Terms.{coefficient}
use Rattle.wcc_base.specs.declared.compare.Compare.{Compare}
use Rattle.code_flow_system.specs.declared.cert.Cert.{Cert}
use Rattle.code_flow_system.specs.Systems.{System}
use Rattle.code_flow_system.specs.Counts.{inflow}
use Rattle.code_flow_system.specs.Certificates.{listed}
use Rattle.dual_check.specs.declared.running.Running.{Running}
use Rattle.dual_check.specs.Rows.{counts, breaks}

-- two numbers are equal, and narrow together
abbrev pub balances : ℤ → ℤ → Bool
balances out arriving = nat_lt (unsigned_abs out + unsigned_abs arriving) (2 ^ 126) && int_eq out arriving

abbrev pub is_balanced_at : System → Cert → ℕ → Bool
is_balanced_at s c a = balances (counts s c a) (coefficient (inflow s.entry c.flow.unit (listed c.flow.parts) s.moves) a)

-- a sum is wide, or breaks its comparison with 0
abbrev pub breaks_sum : Compare → Option Running → Bool
breaks_sum op None = true
breaks_sum op (Some r) = breaks op r.total
