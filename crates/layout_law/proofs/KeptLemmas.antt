-- What the image of a program keeps is what each of its parts does.
use Rattle.std.proofs.Common.{ℕ, zero, suc, ◌*◌, ◌^◌, ◌<◌, ◌≤◌, List, [], ◌∷◌, length, All, refl, sym, ap, ◌∙◌, subst, arith}
use Rattle.std.specs.Prelude.{pos, slice_index_or}
use Rattle.rv_core.specs.Runs.{setup}
use Rattle.std.proofs.lemmas.List.Elements.{All-head, All-tail}
use Rattle.asm_forms.specs.Regions.{functions_size}
use Rattle.code_flow_system.specs.Systems.{System, IsSystemOf}
use Rattle.low_ir.specs.Code.{Low}
use Rattle.low_ir.specs.Formed.{IsLow}
use Rattle.low_ir.specs.Places.{Assignment, Placed, Placing, assignment, placed}
use Rattle.low_ir.specs.Spacing.{IsAssignment}
use Rattle.asm_program.specs.Frames.{Frame, frame_of, no_frame}
use Rattle.asm_program.specs.Formed.{IsProgram}
use Rattle.asm_program.proofs.FormedLemmas.{program}
use Rattle.asm_program.specs.Ranges.{IsSaving, InProgram}
use Rattle.register_places.proofs.Ways.{all_safe}
use Rattle.register_places.proofs.Follow.{carried}
use Rattle.asm_code.proofs.Registers.{placed_there}
use Rattle.simulation_loaded.proofs.PlacedLemmas.{placed_keeps}
use Rattle.image_frames.specs.Memories.{Placement, memory_of}
use Rattle.image_frames.proofs.SavingLemmas.{saving}
use Rattle.image_definition.specs.Images.{FitsImage, image_in, rows_in}
use Rattle.image_definition.proofs.LaidLemmas.{image_loadable}
use Rattle.image_definition.specs.Sizes.{HasSizes, HasWords}
use Rattle.image_definition.proofs.FitLemmas.{fits as has_room}
use Rattle.asm_sound.proofs.SizeLemmas.{chosen_has_room}
use Rattle.simulation_law.proofs.Simulated.{simulated}
use Rattle.claims_definition.proofs.Naming.{named}
use Rattle.claims_definition.specs.Listed.{Laid, claims_of, functions_of}
use Rattle.claims_definition.proofs.Claimed.{are_claims}
use Rattle.claims_definition.proofs.Listing.{accesses_listed}
use Rattle.claims_definition.proofs.Marks.{places_apart, places_hold}
use Rattle.claims_definition.proofs.Ranges.{ranges_hold}
use Rattle.claims_definition.proofs.Regions.{regions_hold}
use Rattle.claims_definition.proofs.Movables.{array_movable, function_movable}
use Rattle.claims_bounds.specs.Flows.{HasFlows}
use Rattle.claims_bounds.proofs.FlowLemmas.{flows_keep_bounds}
use Rattle.claims_bounds.specs.Bounds.{IsBounded}
use Rattle.claims_bounds.proofs.BoundLemmas.{laid_can_bound}
use Rattle.simulation_marks.proofs.Marks.{marks_counted}
use Rattle.simulation_marks.proofs.Places.{marks_kept, places_many}
use Rattle.simulation_kept.proofs.TotalLemmas.{placed_totals}
use Rattle.simulation_kept.proofs.KeptLemmas.{claims_kept}
use Rattle.layout_law.proofs.Counting.{claims_counted}
use Rattle.layout_law.proofs.Filled.{all_filled}
use Rattle.layout_law.proofs.Keeping.{sizes_stay}
use Rattle.layout_law.proofs.Lying.{all_lie}
use Rattle.layout_law.proofs.Taken.{all_small}
use Rattle.claims_image.specs.Images.{HasClaims, laid_of}
use Rattle.claims_image.proofs.Whole.{has_claims}
use Rattle.layout_relation.specs.Kept.{IsLight, KeepsLow, Simulates}
use Rattle.layout_law.proofs.RoomLemmas.{rooms_kept, turns_same}

saved_from : (fs : List Frame) (f : ℕ) → All IsSaving fs → length (slice_index_or fs f no_frame).saved ≤ 24
saved_from [] zero h = omega arith
saved_from [] (suc f) h = omega arith
saved_from (x ∷ fs) zero h = (All-head IsSaving x fs h).1
saved_from (x ∷ fs) (suc f) h = saved_from fs f (All-tail IsSaving x fs h)

module _ (pl : Placement) (ps : List Placing) (low : Low) (is : IsLow low) (fits : IsAssignment (assignment ps) low) (words : HasWords (placed (assignment ps) low)) (sizes : HasSizes pl (placed (assignment ps) low)) where
  abbrev a : Assignment
  a = assignment ps

  abbrev p : Placed
  p = placed a low

  abbrev l : Laid
  l = laid_of pl p

  formed : IsProgram p
  formed = program a low is

  sound : InProgram p
  sound = placed_there a low is fits

  room_in : FitsImage pl p
  room_in = has_room p pl formed words sizes

  claimed : HasClaims l (image_in pl p)
  claimed = has_claims pl p (image_in pl p) formed sound (named a low is) room_in refl

  saved : (f : ℕ) → length (frame_of (memory_of pl p) f).saved ≤ 24
  saved f = saved_from (memory_of pl p).frames f (saving pl p)

  flows : (s : System) → IsSystemOf (image_in pl p) (claims_of l) s → HasFlows l (image_in pl p) s
  flows s sys = record { settled = claimed.settled; words = words; saved = saved; laid = claimed.laid; system = sys }

  bounded : IsLight low → IsBounded p
  bounded h = record { turns = turns_same a 0 low.functions h.turns; light = subst (λ n. 4000 * n < 2 ^ 60) (sym (rooms_kept a low).weight) h.light }

  runs : Simulates pl ps low
  runs table input bytes i v u good =
      let found = simulated pl p formed sound (placed_keeps ps low) room_in table input bytes i v u (carried a low (all_safe a low fits) input i v u good).done in
      let n = found.0 in (
        found.0,
        record {
          ends = found.1;
          claims = λ s sys. claims_kept pl p s formed sound (named a low is) room_in sys table input n v u found.1 (placed_totals a low is input i v u good);
          passes = λ mark. marks_counted pl p (setup (image_in pl p) table input) v u n found.1 mark ∙ ap pos (marks_kept a low u.trace mark);
        },
      )

  pub keeps : KeepsLow pl ps low
  keeps = record {
    rooms = rooms_kept a low;
    loadable = image_loadable pl p room_in;
    runs = runs;
    claims = claimed;
    few = claims_counted pl p claimed.settled;
    loops = are_claims l claimed.settled;
    lines = regions_hold l claimed.settled;
    listed = λ f b j t x there less low e h. accesses_listed l claimed.settled f b j t x there less low e h;
    filled = λ moves elements. all_filled pl p claimed.settled room_in moves elements;
    standing = λ mark. places_many mark l;
    marks = λ mark. places_hold l mark claimed.settled;
    apart = λ m n at h k. places_apart l claimed.settled m n at h k;
    ranges = ranges_hold l claimed.settled;
    sizes = sizes_stay pl p;
    functions = λ f below. function_movable l claimed.settled f below;
    arrays = λ o x. array_movable l claimed.settled o x;
    room = subst (λ n. functions_size (functions_of l) ≤ 4 * n) (rooms_kept a low).room (chosen_has_room (memory_of pl p) p (rows_in pl p) (record { program = formed; words = words; saved = saved }));
    lie = all_lie pl p claimed.settled room_in;
    small = λ moves. all_small pl p claimed.settled words moves;
    flows = λ c s sys unit x loose. flows_keep_bounds c l (image_in pl p) s (flows s sys) unit x loose;
    bounded = λ c s ls sys shaped light. laid_can_bound c l (image_in pl p) s ls (flows s sys) shaped (bounded light);
  }
