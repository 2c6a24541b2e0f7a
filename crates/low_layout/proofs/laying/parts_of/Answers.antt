use Rattle.std.proofs.Common.{ℕ, ◌≡◌, refl, sym, ap, subst}
use Rattle.std.specs.Prelude.{slice_index_or}
use Rattle.rv_core.specs.declared.regions.Region.TheVariants.{Ram}
use Rattle.low_ir.specs.Placings.{placed_of}
use Rattle.image_frames.specs.Memories.{Placement, regions_of}
use Rattle.claims_touches.specs.Named.{AreTouches}
use Rattle.claims_image.specs.Images.{laid_of}
use Rattle.low_layout.proofs.LaidLemmas.{roomy}
use Rattle.low_layout.proofs.laying.parts_of.Goals as goal

pub parts_in-requires : goal.parts_in-requires
parts_in-requires c = roomy c.args.placement.now (placed_of c.args.code.now) c.args.assembly.now.layout c.requires.formed c.requires.fit

pub returns-clause-claimed : goal.returns-clause-claimed
returns-clause-claimed c =
    let pl = c.args.placement.now in
    let p = placed_of c.args.code.now in
    let view = ap (λ (q : Placement). q.functions) c.placement.view_is in
    let slice = c.deref.ensures.value in
    c.in_ok-parts.ensures.claimed (laid_of pl p) (record {
      is = record { program = refl; placed = cc; laid = c.requires.formed.laid };
      regions = subst (λ rs. (o : ℕ) → regions_of pl p o ≡ slice_index_or rs o Ram) (sym c.as_slice-areas.ensures.value) c.in_ok-regions.ensures;
      touches = subst (λ ts. AreTouches c.args.code.now (laid_of pl p).memory ts) (sym c.as_slice-touched.ensures.value) (subst (λ m. AreTouches c.args.code.now m c.in_ok-touches.touches.items) c.requires.memory c.in_ok-touches.ensures);
    })

pub returns-clause-lists : goal.returns-clause-lists
returns-clause-lists c =
    let pl = c.args.placement.now in
    let p = placed_of c.args.code.now in
    let view = ap (λ (q : Placement). q.functions) c.placement.view_is in
    let slice = c.deref.ensures.value in
    c.in_ok-parts.ensures.lists (laid_of pl p) (record {
      is = record { program = refl; placed = cc; laid = c.requires.formed.laid };
      regions = subst (λ rs. (o : ℕ) → regions_of pl p o ≡ slice_index_or rs o Ram) (sym c.as_slice-areas.ensures.value) c.in_ok-regions.ensures;
      touches = subst (λ ts. AreTouches c.args.code.now (laid_of pl p).memory ts) (sym c.as_slice-touched.ensures.value) (subst (λ m. AreTouches c.args.code.now m c.in_ok-touches.touches.items) c.requires.memory c.in_ok-touches.ensures);
    }) (sym c.requires.memory)
