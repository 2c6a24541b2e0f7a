-- No claim is bad.
use Rattle.std.proofs.Common.{◌≡◌, Bool, false, [], ◌++◌, None}
use Rattle.std.proofs.lemmas.List.Elements.{All-append, All-nil}
use Rattle.code_flow_system.specs.Claims.{AreSound, exit_flaws, loop_flaws, region_flaws}
use Rattle.asm_placed.specs.Exits.{exits_of}
use Rattle.claims_definition.specs.ClaimLaws.{IsSettled}
use Rattle.claims_definition.specs.Listed.{Laid, claims_of, functions_of, loops_of, regions_of}
use Rattle.claims_definition.proofs.Exits.{exits_sound}
use Rattle.claims_definition.proofs.Loops.{loops_sound}
use Rattle.claims_definition.proofs.Regions.{regions_hold}

abbrev Holds : Bool → Type 0
Holds flaw = flaw ≡ false

pub claims_sound : (l : Laid) → IsSettled l → AreSound (claims_of l)
claims_sound l is =
    let regions = regions_hold l is in
    let loops = loop_flaws None (loops_of l) in
    All-append Holds (exit_flaws None (exits_of l.rows (functions_of l))) (region_flaws None (regions_of l) ++ (loops ++ [])) (exits_sound l is)
    (All-append Holds (region_flaws None (regions_of l)) (loops ++ []) regions.sound (All-append Holds loops [] (loops_sound l is) (All-nil Holds)))
