-- What an access touches lies in a region that its item may touch.
use Rattle.std.proofs.Common.{◌≡◌, ℕ, ◌+◌, ◌<◌, ◌≤◌, Bool, true, false, List, [], length, Option, Some, None, Contains, refl, sym, ap, ◌∙◌, subst, arith}
use Rattle.std.specs.Prelude.{All, ◌&&◌, nat_le, nat_lt, if◌then◌else◌}
use Rattle.std.proofs.lemmas.Bool.Decides.{nat_tests}
use Rattle.std.proofs.lemmas.List.Elements.{All-head}
use Rattle.std.proofs.lemmas.List.Folds.{list_any_at}
use Rattle.rv_core.specs.declared.regions.Region.{Region}
use Rattle.rv_core.specs.declared.regions.Region.TheVariants.{Flash, Spm, Ram}
use Rattle.rv_core.specs.Regions.{region_start, region_size, lies_in, region_of}
use Rattle.code_flow_system.specs.MoveCosts.{names}
use Rattle.code_flow_system.specs.KeptRuns.{names_region}
use Rattle.claims_definition.specs.Lines.{Access, access_at, frame_letters, letters_of, line_of, same_region, touches_region}
use Rattle.claims_definition.specs.Touches.{Touch, Nothing, OfFrame, OfArrays}
use Rattle.simulation_relation.specs.Plans.{LiesIn}
use Rattle.simulation_relation.specs.Noted.{Noted}
use Rattle.simulation_relation.specs.Layouts.{Layout, Stands}
use Rattle.simulation_relation.specs.Positions.{IsTouched}

-- the region of an address by the bounds of the region
lies_inside : (r : Region) (a : ℕ) → region_start r ≤ a → a < region_start r + region_size r → lies_in r a ≡ true
lies_inside r a low high = grind (arith, nat_tests)

lies_above : (r : Region) (a : ℕ) → region_start r + region_size r ≤ a → lies_in r a ≡ false
lies_above r a h = second_false (nat_le (region_start r) a) (nat_lt a (region_start r + region_size r)) (grind (arith, nat_tests))
  where
    second_false : (b c : Bool) → c ≡ false → (b && c) ≡ false
    second_false true c e = e
    second_false false c e = refl

pub region_of-inside : (r : Region) (a : ℕ) → region_start r ≤ a → a < region_start r + region_size r → region_of a ≡ Some r
region_of-inside Flash a low high = ap (λ b. if b then Some Flash else (if lies_in Spm a then Some Spm else (if lies_in Ram a then Some Ram else None))) (lies_inside Flash a low high)
region_of-inside Spm a low high =
    let from : 0x1000_0000 ≤ a = low in
    ap (λ b. if b then Some Flash else (if lies_in Spm a then Some Spm else (if lies_in Ram a then Some Ram else None))) (lies_above Flash a (omega arith))
    ∙ ap (λ b. if b then Some Spm else (if lies_in Ram a then Some Ram else None)) (lies_inside Spm a low high)
region_of-inside Ram a low high =
    let from : 0x2000_0000 ≤ a = low in
    ap (λ b. if b then Some Flash else (if lies_in Spm a then Some Spm else (if lies_in Ram a then Some Ram else None))) (lies_above Flash a (omega arith))
    ∙ ap (λ b. if b then Some Spm else (if lies_in Ram a then Some Ram else None)) (lies_above Spm a (omega arith))
    ∙ ap (λ b. if b then Some Ram else None) (lies_inside Ram a low high)

-- of a part of what lies in it
pub region_of-part : (r : Region) (at size a : ℕ) → LiesIn r at size → at ≤ a → a < at + size → region_of a ≡ Some r
region_of-part r at size a lies low high =
    let from = lies.from in
    let to = lies.to in
    region_of-inside r a (omega arith) (omega arith)

-- an address that a touch allows
abbrev pub Allows : Layout → Touch → ℕ → Type 0
Allows l Nothing at = ⊥
Allows l OfFrame at = region_of at ≡ Some Ram
Allows l (OfArrays os) at = (o : ℕ) × Contains os o × (region_of at ≡ Some (l.regions o))

same_region-itself : (r : Region) → same_region r r ≡ true
same_region-itself Flash = refl
same_region-itself Spm = refl
same_region-itself Ram = refl

-- the letters of arrays name the region of each
names_letters : (regions : ℕ → Region) (os : List ℕ) (a : ℕ) (r : Region) → names (line_of (record { at = a; letters = letters_of regions os })) r ≡ touches_region regions r os
names_letters regions os a Flash = refl
names_letters regions os a Spm = refl
names_letters regions os a Ram = refl

touches_one : (regions : ℕ → Region) (os : List ℕ) (o : ℕ) → Contains os o → touches_region regions (regions o) os ≡ true
touches_one regions os o (k, less, e) = list_any_at (λ q. same_region (regions o) (regions q)) os k o less (ap (λ q. same_region (regions o) (regions q)) e ∙ same_region-itself (regions o))

by_touch : (l : Layout) (f a at : ℕ) (t : Touch) → f ≤ length l.program.functions → All (Contains (l.accesses f)) (access_at l.regions a t) → Allows l t at → IsTouched l a (Some at)
by_touch l f a at Nothing there listed h = absurd h
by_touch l f a at OfFrame there listed h =
    let x : Access = record { at = a; letters = frame_letters } in
    record { function = f; there = there; access = x; listed = All-head (Contains (l.accesses f)) x [] listed; here = refl; names = ap (names_region (line_of x)) h }
by_touch l f a at (OfArrays os) there listed (o, has, e) =
    let x : Access = record { at = a; letters = letters_of l.regions os } in
    record {
      function = f;
      there = there;
      access = x;
      listed = All-head (Contains (l.accesses f)) x [] listed;
      here = refl;
      names = ap (names_region (line_of x)) e ∙ names_letters l.regions os a (l.regions o) ∙ touches_one l.regions os o has;
    }

-- what an item that stands in code accesses is touched there
pub touched : (l : Layout) (f a to at : ℕ) (x : Noted) → Stands l f a x to → Allows l x.touch at → IsTouched l a (Some at)
touched l f a to at x stands h = by_touch l f a at x.touch stands.there stands.listed h

-- nothing is touched
pub touches_none : (l : Layout) (a : ℕ) (o : Option ℕ) → o ≡ None → IsTouched l a o
touches_none l a None e = tt
touches_none l a (Some at) e = absurd cc

-- what is touched, by its address
pub touches_at : (l : Layout) (a at : ℕ) (o : Option ℕ) → o ≡ Some at → IsTouched l a (Some at) → IsTouched l a o
touches_at l a at o e h = subst (IsTouched l a) (sym e) h
