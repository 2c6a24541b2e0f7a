-- What a run touches lies in the regions that its lines name.
use Rattle.std.proofs.Common.{◌≡◌, ℕ, true, Contains, Option, Some, None, refl, ap, ◌∙◌, subst, arith}
use Rattle.std.specs.Prelude.{All, slice_get}
use Rattle.std.proofs.lemmas.List.Elements.{All-contains_itself, All-weaker}
use Rattle.std.proofs.lemmas.Option.{slice_get-get_or, slice_get_within, get_or_from_slice_get}
use Rattle.rv_core.specs.declared.regions.Region.{Region}
use Rattle.rv_core.specs.declared.regions.Region.TheVariants.{Flash, Spm, Ram}
use Rattle.rv_core.specs.Regions.{region_of}
use Rattle.rv_core.specs.Runs.{Setup, mrun}
use Rattle.code_flow_system.specs.declared.claims.Within.{Within}
use Rattle.code_flow_system.specs.MoveCosts.{lies_within}
use Rattle.code_flow_system.specs.KeptRuns.{KeepsLine, names_region, touches_named}
use Rattle.low_ir.specs.Effects.{World}
use Rattle.low_ir.specs.Places.{Placed}
use Rattle.claims_definition.specs.Lines.{Access, line_of}
use Rattle.claims_definition.specs.ClaimLaws.{IsSettled}
use Rattle.claims_definition.specs.Listed.{Laid, accesses_in, accesses_of, by_address, regions_of}
use Rattle.claims_definition.proofs.Blocks.{all_in_order}
use Rattle.claims_definition.proofs.Marks.{there_flat}
use Rattle.claims_definition.proofs.Regions.{regions_hold}
use Rattle.image_frames.specs.Memories.{Placement}
use Rattle.claims_image.specs.Images.{laid_of}
use Rattle.simulation_relation.specs.Positions.{IsTouched, Touches}
use Rattle.simulation_relation.specs.Following.{Ends}
use Rattle.simulation_loaded.specs.Layouts.{layout_of}
use Rattle.simulation_kept.proofs.Alone.{alone}

-- a line with the letters of an access names its regions
names_alike : (w : Within) (x : Access) → w.flash ≡ x.letters.flash → w.spm ≡ x.letters.spm → w.ram ≡ x.letters.ram → (o : Option Region) → names_region w o ≡ names_region (line_of x) o
names_alike w x flash spm ram None = refl
names_alike w x flash spm ram (Some Flash) = flash
names_alike w x flash spm ram (Some Spm) = spm
names_alike w x flash spm ram (Some Ram) = ram

-- each line that holds the address of an access names what the access touches
kept : (l : Laid) → IsSettled l → (x : Access) (at : ℕ) → Contains (accesses_of l) x → names_region (line_of x) (region_of at) ≡ true → All (λ w. lies_within w x.at ≡ true → names_region w (region_of at) ≡ true) (regions_of l)
kept l is x at has named =
    let lines = regions_hold l is in
    let there : slice_get (accesses_of l) has.0 ≡ Some x = slice_get-get_or (accesses_of l) has.0 x has.1 ∙ ap Some has.2 in
    let own = lines.each has.0 x there in
    let y = own.line in
    let names_it : names_region y (region_of at) ≡ true = names_alike y x own.flash own.spm own.ram (region_of at) ∙ named in
    All-weaker (λ w. lies_within w x.at ≡ true → w ≡ y) (λ w. lies_within w x.at ≡ true → names_region w (region_of at) ≡ true) (λ w same inside. ap (λ z. names_region z (region_of at)) (same inside) ∙ names_it) (regions_of l)
    (alone None (regions_of l) lines.sound own.number y (slice_get_within (regions_of l) own.number y own.there) (get_or_from_slice_get (regions_of l) own.number y y own.there) x.at own.first own.end)

-- what is touched at an address keeps the lines there
address_kept : (pl : Placement) (p : Placed) → IsSettled (laid_of pl p) → (a : ℕ) (o : Option ℕ) → IsTouched (layout_of pl p) a o → All (λ w. lies_within w a ≡ true → touches_named w o ≡ true) (regions_of (laid_of pl p))
address_kept pl p is a None h =
    let ws = regions_of (laid_of pl p) in
    All-weaker (Contains ws) (λ w. lies_within w a ≡ true → touches_named w None ≡ true) (λ w c inside. refl) ws (All-contains_itself ws)
address_kept pl p is a (Some at) h =
    let l = laid_of pl p in
    let there = h.there in
    let has = there_flat (accesses_in l) (by_address l) h.function h.access (all_in_order l is h.function (omega (arith, there))) h.listed in
    subst (λ b. All (λ w. lies_within w b ≡ true → names_region w (region_of at) ≡ true) (regions_of l)) h.here (kept l is h.access at has h.names)

pub keeps_regions : (pl : Placement) (p : Placed) → IsSettled (laid_of pl p) → (s : Setup) (v : ℕ) (u : World) (n : ℕ) → Ends (layout_of pl p) s v u n
    → All (λ x. All (KeepsLine x) (regions_of (laid_of pl p))) (mrun s n).visits
keeps_regions pl p is s v u n ends =
    All-weaker (Touches (layout_of pl p)) (λ x. All (KeepsLine x) (regions_of (laid_of pl p))) (λ x touched. address_kept pl p is x.at x.access touched) (mrun s n).visits ends.touches
