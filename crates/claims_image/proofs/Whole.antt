-- The claims on the image of a program.
use Rattle.std.proofs.Common.{◌≡◌, length, refl, sym, subst, arith}
use Rattle.rv_core.specs.Images.{Image}
use Rattle.code_flow_system.specs.Moves.{code_of}
use Rattle.code_flow_system.specs.Reach.{IsCode, IsReached}
use Rattle.asm_graphs.specs.Laid.{IsImageOf}
use Rattle.asm_graphs.proofs.ReachedLemmas.{all_code}
use Rattle.asm_placed.specs.Written.{RowsApart}
use Rattle.low_ir.specs.Places.{Placed}
use Rattle.asm_program.specs.Formed.{IsProgram}
use Rattle.asm_program.specs.Functions.{graph_of}
use Rattle.asm_program.specs.Numbers.{ram}
use Rattle.asm_program.specs.Ranges.{InProgram}
use Rattle.image_frames.specs.Memories.{Placement, memory_of}
use Rattle.image_frames.proofs.FrameLemmas.{frames_count}
use Rattle.image_definition.specs.Images.{FitsImage, image_in, items_in, rows_in}
use Rattle.image_definition.proofs.LaidLemmas.{image_is, placed_even}
use Rattle.claims_definition.specs.AccessLaws.{IsNamed}
use Rattle.claims_definition.specs.ClaimLaws.{IsSettled}
use Rattle.claims_definition.specs.Listed.{claims_of, placing}
use Rattle.claims_definition.proofs.Sound.{claims_sound}
use Rattle.claims_definition.proofs.Fitting.{claims_fit}
use Rattle.claims_image.specs.Images.{HasClaims, laid_of}

module _ (pl : Placement) (p : Placed) (fits : FitsImage pl p) where
  apart : RowsApart (rows_in pl p) (items_in pl p)
  apart =
      let code = fits.flash in
      record { flash = refl; scratchpad = placed_even pl p; before = omega arith; apart = omega (arith, code) }

  settled : IsProgram p → IsNamed p → IsSettled (laid_of pl p)
  settled formed named = let many = frames_count p ram 0 p.functions in record { program = formed; named = named; frames = omega (arith, many); rows = apart }

pub has_claims : (pl : Placement) (p : Placed) (image : Image) → IsProgram p → InProgram p → IsNamed p → FitsImage pl p → image ≡ image_in pl p → HasClaims (laid_of pl p) image
has_claims pl p image formed sound named fits is =
    let l = laid_of pl p in
    let code = code_of image (claims_of l) in
    let settles = settled pl p fits formed named in
    let here : IsImageOf (graph_of (memory_of pl p) p) (placing l) (length p.functions) image (claims_of l) = image_is pl p fits formed sound image (claims_of l) is refl (placed_even pl p) in
    record {
      settled = settles;
      laid = here;
      sound = claims_sound l settles;
      reached = λ a h.
          subst (λ e. IsCode code e a) (sym here.entry)
          (all_code (graph_of (memory_of pl p) p) (placing l) code here.shaped here.laid (length p.functions) here.there a (subst (λ e. IsReached code e a) here.entry h));
      fits = λ s ss sys h. claims_fit l settles (length p.functions) image s ss here sys h;
    }
