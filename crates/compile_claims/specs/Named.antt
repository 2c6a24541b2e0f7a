-- Claims that name the loops of the source, and those on marks that no kept run passes.
use Rattle.std.specs.Prelude.{◌≡◌, ℕ, suc, List, map, IsPermutation}
use Rattle.std.specs.List.{flat_map}
use Rattle.std.specs.List.Sorted.{IsNonDecreasingBy}
use Rattle.code_flow_system.specs.Claims.{Claims}
use Rattle.code_flow_system.specs.declared.claims.FactClaim.{FactClaim}
use Rattle.code_flow_system.specs.declared.claims.LoopClaim.{LoopClaim}
use Rattle.code_flow_system.specs.declared.claims.Never.{Never}
use Rattle.high_ir.specs.declared.copies.NeverMark.{NeverMark}
use Rattle.high_pass.specs.Composing.{no_origin, origin_among}
use Rattle.high_pass.specs.Listing.{Listing, LoopEntry}
use Rattle.high_pass.specs.declared.origin.Origin.{Origin}
use Rattle.compile_claims.specs.Places.{places_at}

-- reports number the loops of a source from 1 on
abbrev pub renamed : Origin → LoopClaim → LoopClaim
renamed o c = record { source = suc o.old; factor = o.factor; min = c.min; max = c.max; header = c.header; back = c.back }

-- by the loop of which the entries list it as a copy
abbrev pub by_entries : List LoopEntry → LoopClaim → LoopClaim
by_entries es c = renamed (origin_among es c.source no_origin) c

-- an address of a never mark, with its loop and factor
abbrev pub never_at : NeverMark → ℕ → Never
never_at v a = record { source = suc v.old; factor = v.factor; at = a }

abbrev pub nevers_at : List (List ℕ) → NeverMark → List Never
nevers_at places v = map (never_at v) (places_at places v.mark)

-- the claims on never marks: one for each address of each, in ascending order
pub record AreNevers (places : List (List ℕ)) (marks : List NeverMark) (ns : List Never) : Type 0 where
  pub all : IsPermutation (flat_map (nevers_at places) marks) ns
  pub ascending : IsNonDecreasingBy (λ (n : Never). n.at) ns

-- claims with other loops, other addresses that are never visited, and other restrictions
abbrev pub named : List LoopEntry → List Never → List FactClaim → Claims → Claims
named es ns fs c = record { exits = c.exits; nevers = ns; regions = c.regions; loops = map (by_entries es) c.loops; facts = fs }

-- the claims on the image of a program as they are handed on, by what became in it of the marks and loops of the source
pub record AreHanded (whole : Listing) (places : List (List ℕ)) (own made : Claims) : Type 0 where
  pub claims : made ≡ named whole.loops made.nevers made.facts own
  pub nevers : AreNevers places whole.nevers made.nevers
