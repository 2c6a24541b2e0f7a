-- The region of a segment is that of its first address, and of each address in it.
use Rattle.std.proofs.Common.{◌≡◌, ◌≢◌, ℕ, ◌+◌, ◌<◌, ◌≤◌, arith, Some, sym, ap, ◌∙◌, subst, ⊎_elim}
use Rattle.std.specs.Prelude.{IsTrue, unwrap_or}
use Rattle.std.proofs.lemmas.Bool.Decides.{nat_tests}
use Rattle.rv_core.specs.declared.image.Segment.{Segment}
use Rattle.rv_core.specs.declared.regions.Region.{Region}
use Rattle.rv_core.specs.declared.regions.Region.TheVariants.{Flash, Spm, Ram}
use Rattle.rv_core.specs.Regions.{region_of, region_start, region_size}
use Rattle.rv_core.specs.Images.{LiesIn, IsSegment}
use Rattle.rv_sim.specs.Blocks.{IsRegionOf}

-- an address of a region
pub region_of-within : (r : Region) (at : ℕ) → region_start r ≤ at → at < region_start r + region_size r → region_of at ≡ Some r
region_of-within Flash at low high = grind (arith, nat_tests)
region_of-within Spm at low high = grind (arith, nat_tests)
region_of-within Ram at low high = grind (arith, nat_tests)

lies-region : (r : Region) (s : Segment) → LiesIn r s → 0 < s.size → region_of s.at ≡ Some r
lies-region r s l some = region_of-within r s.at l.from (let f = l.to in omega arith)

chosen : (r : Region) (s : Segment) (q : Region) → LiesIn r s → (IsTrue s.exec → r ≢ Ram) → 0 < s.size → q ≡ unwrap_or (region_of s.at) Flash → IsRegionOf s q
chosen r s q l n some is =
    let e : r ≡ q = sym (is ∙ ap (λ o. unwrap_or o Flash) (lies-region r s l some)) in
    subst (λ x. IsRegionOf s x) e (record { lies = l; never_ram = n })

pub region-chosen : (s : Segment) (q : Region) → IsSegment s → 0 < s.size → q ≡ unwrap_or (region_of s.at) Flash → IsRegionOf s q
region-chosen s q h some is =
    let p = h.placed some in
    ⊎_elim
    (λ l. chosen Flash s q l (λ x e. cc) some is)
    (λ m. ⊎_elim
    (λ l. chosen Spm s q l (λ x e. cc) some is)
    (λ l. chosen Ram s q l (λ x e. p.exec x l) some is)
    m)
    p.region
