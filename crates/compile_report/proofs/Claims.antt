-- Restrictions over the places that lines tell are the claims on these restrictions.
use Rattle.std.proofs.Common.{◌≡◌, suc, List, [], ◌∷◌, length, map, refl, ap}
use Rattle.code_flow_system.specs.declared.claims.FactClaim.{FactClaim}
use Rattle.facts_definitions.specs.declared.facts.Facts.{Facts}
use Rattle.facts_definitions.specs.declared.facts.Restriction.{Restriction}
use Rattle.flow_facts.specs.Translating.{AreTranslated}
use Rattle.flow_facts.specs.declared.places.AddressFact.{AddressFact}
use Rattle.flow_facts.specs.declared.places.Places.{Places}
use Rattle.promise_report.specs.Facts.{AreFactLines}
use Rattle.compile_report.specs.Restricted.{as_claim}

pub claims_told : (facts : Facts) (places : Places) (rs : List Restriction) (ts : List AddressFact) → AreTranslated facts places rs ts → AreFactLines facts places rs (map as_claim ts)
claims_told facts places [] [] h = tt
claims_told facts places [] (a ∷ ts) h = absurd h
claims_told facts places (r ∷ rs) [] h = absurd h
claims_told facts places (r ∷ rs) (a ∷ ts) h = (record { left = h.0.left; op = h.0.op; right = h.0.right }, claims_told facts places rs ts h.1)

-- one for each restriction
pub claims_many : (facts : Facts) (places : Places) (rs : List Restriction) (cs : List FactClaim) → AreFactLines facts places rs cs → length cs ≡ length rs
claims_many facts places [] [] h = refl
claims_many facts places [] (c ∷ cs) h = absurd h
claims_many facts places (r ∷ rs) [] h = absurd h
claims_many facts places (r ∷ rs) (c ∷ cs) h = ap suc (claims_many facts places rs cs h.1)
