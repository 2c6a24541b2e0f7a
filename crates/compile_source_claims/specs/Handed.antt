-- The claims on what is made of a source, as they are handed on to the search and the report.
use Rattle.std.specs.Prelude.{◌≡◌, ℕ, false, List, None, All}
use Rattle.code_flow_system.specs.Claims.{Claims, never_flaws}
use Rattle.facts_definitions.specs.declared.facts.Facts.{Facts}
use Rattle.types_tree.specs.Tree.{Program}
use Rattle.compile_claims.specs.Named.{AreHanded}
use Rattle.compile_stages.specs.declared.made.Made.{Made}
use Rattle.compile_stages.specs.Made.{IsMade, copies_of}

-- by what became of the marks and loops of the source
abbrev pub AreHandedOn : Made → Claims → Type 0
AreHandedOn m claims = AreHanded (copies_of m) m.laid.lists.places.items m.laid.claimed.claims claims

-- those on never marks are aligned, and ascend
abbrev pub NeversAreSound : Type 0
NeversAreSound = (names : List (List ℕ)) (program : Program) (facts : Facts) (m : Made) (claims : Claims) → IsMade names program facts m → AreHandedOn m claims → All (λ flaw. flaw ≡ false) (never_flaws None claims.nevers)
