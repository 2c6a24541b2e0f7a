-- Restrictions over places, as claims.
use Rattle.code_flow_system.specs.declared.claims.FactClaim.{FactClaim}
use Rattle.flow_facts.specs.declared.places.AddressFact.{AddressFact}

-- where the restriction stands in the source is no part of its claim
abbrev pub as_claim : AddressFact → FactClaim
as_claim a = record { left = a.left; op = a.op; right = a.right }
