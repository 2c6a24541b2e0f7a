-- What is made has few claims.
use Rattle.std.specs.Prelude.{ℕ, ◌+◌, ◌^◌, ◌<◌, List, length}
use Rattle.std.specs.List.{flat_map}
use Rattle.code_flow_system.specs.Claims.{claim_count}
use Rattle.facts_definitions.specs.declared.facts.Facts.{Facts}
use Rattle.types_tree.specs.Tree.{Program}
use Rattle.compile_claims.specs.Named.{nevers_at}
use Rattle.compile_stages.specs.declared.made.Made.{Made}
use Rattle.compile_stages.specs.Made.{IsMade, copies_of}

-- with those on never marks, and 32 on restrictions
abbrev pub ClaimsAreFew : Type 0
ClaimsAreFew =
    (names : List (List ℕ)) (program : Program) (facts : Facts) (m : Made) → IsMade names program facts m → claim_count m.laid.claimed.claims + length (flat_map (nevers_at m.laid.lists.places.items) (copies_of m).nevers) + 32 < 2 ^ 32
