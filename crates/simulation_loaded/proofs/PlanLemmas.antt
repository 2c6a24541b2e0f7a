-- The memory of a program is a plan for it.
use Rattle.std.proofs.Common.{◌≡◌, ◌≢◌, inl, inr, ℕ, ◌+◌, ◌%◌, ◌^◌, ◌<◌, ◌≤◌, Bool, true, false, List, ◌++◌, length, refl, sym, ap, ◌∙◌, subst, ⊎_elim, arith}
use Rattle.std.specs.Prelude.{Option, ◌&&◌, ◌||◌, not, nat_lt, if◌then◌else◌, Contains}
use Rattle.std.proofs.lemmas.Bool.{cases_lt, false≢true}
use Rattle.std.proofs.lemmas.List.{length-map}
use Rattle.rv_core.specs.declared.regions.Region.TheVariants.{Spm, Ram}
use Rattle.rv_core.specs.Regions.{region_start}
use Rattle.low_ir.specs.declared.places.Place.{Place}
use Rattle.low_ir.specs.Code.{Operand, Call}
use Rattle.low_ir.specs.Effects.{is_member}
use Rattle.low_ir.specs.Places.{Placed, machine_registers}
use Rattle.asm_program.specs.Numbers.{ram}
use Rattle.asm_program.specs.Frames.{frame_of}
use Rattle.asm_program.specs.Emission.{registers_among}
use Rattle.asm_program.specs.Functions.{PlacedBlock, function_in}
use Rattle.asm_program.specs.Formed.{IsProgram}
use Rattle.asm_program.specs.Ranges.{InProgram}
use Rattle.simulation_relation.specs.Plans.{AreApart, frame_size, IsFramePlaced, Saves, SavesAt, IsPlan, function_writes}
use Rattle.image_frames.specs.Registers.{holds, table_of}
use Rattle.image_frames.specs.Needs.{parameters_of, Site, sites_homes, Outline, outline_of, outlines_of, outline_at, written, housed, is_needed, needed_of, saved_of, homes_of}
use Rattle.image_frames.specs.Frames.{frames_end}
use Rattle.image_frames.proofs.TableLemmas.{member_of, table_holds, table_misses, in_chosen, from_chosen}
use Rattle.image_frames.proofs.NeedsLemmas.{HasSite, AreBelow, site_below, needing_asks}
use Rattle.image_segments.specs.Rows.{row_room}
use Rattle.image_segments.specs.Starts.{constants_start, ram_end}
use Rattle.image_frames.specs.Memories.{Placement, spots_of, memory_of, regions_of, FitsMemory}
use Rattle.simulation_loaded.specs.MemoryLaws.{KeepsRegisters}
use Rattle.image_frames.proofs.FrameLemmas.{IsFrame, is_frame, frames_ascend, ends, frames_end_even}
use Rattle.simulation_loaded.proofs.SiteLemmas.{sites_of, has_site, sites_below, outline_is, parameters_small, kept_registers, member_left, member_right, homes_hold}
use Rattle.simulation_loaded.proofs.ObjectLemmas.{objects_lie, objects_aligned, objects_apart, beside_frames, only_constants}

asks_kept : (k n a b : Bool) → k ≡ true → n ≡ false → (k && not n) || (a && not b) ≡ true
asks_kept true false a b e f = refl
asks_kept true true a b e f = absurd (false≢true (sym f))
asks_kept false n a b e f = absurd (false≢true e)

asks_needed : (k n a b : Bool) → a ≡ true → b ≡ false → (k && not n) || (a && not b) ≡ true
asks_needed true false true false e f = refl
asks_needed true true true false e f = refl
asks_needed false n true false e f = refl
asks_needed k n true true e f = absurd (false≢true (sym f))
asks_needed k n false b e f = absurd (false≢true e)

both_true : (a b : Bool) → a ≡ true → b ≡ true → (a && b) ≡ true
both_true true true e f = refl
both_true true false e f = absurd (false≢true f)
both_true false b e f = absurd (false≢true e)

right_true : (a b : Bool) → (a && b) ≡ true → b ≡ true
right_true true b e = e
right_true false b e = absurd (false≢true e)

-- the second base is in the scratchpad or in flash
second_small : (placed constant : Bool) → (if placed then region_start Spm + 2 ^ 11 else (if constant then constants_start + 2 ^ 11 else 0)) < 2 ^ 32
second_small true constant = omega arith
second_small false true = omega arith
second_small false false = omega arith

module _ (pl : Placement) (p : Placed) (formed : IsProgram p) (sound : InProgram p) (keeps : KeepsRegisters p) (fits : FitsMemory pl p) where
  frame : (f : ℕ) → f < length p.functions → IsFrame p ram 0 p.functions f
  frame f less = is_frame p ram 0 p.functions f less

  own : (n : ℕ) → 0 + n ≡ n
  own n = omega arith

  saved_is : (f : ℕ) → f < length p.functions → (frame_of (memory_of pl p) f).saved ≡ saved_of p f
  saved_is f less = (frame f less).saved ∙ ap (saved_of p) (own f)

  homes_is : (f : ℕ) → f < length p.functions → (frame_of (memory_of pl p) f).homes ≡ homes_of p f
  homes_is f less = (frame f less).homes ∙ ap (homes_of p) (own f)

  ram_low : frames_end p ≤ ram_end (frames_end p) (spots_of pl p)
  ram_low = omega arith

  frame_placed : (f : ℕ) → f < length p.functions → IsFramePlaced (frame_of (memory_of pl p) f)
  frame_placed f less =
      let r = frame f less in
      let from = r.from in
      let to = r.to in
      let end = ram_low in
      let all = fits.ram in
      record {
        aligned = r.aligned refl;
        in_ram = record { from = omega arith; to = omega arith };
        saved = λ q h. (from_chosen (λ k. holds (written p f) k && is_needed p f k) machine_registers q (subst (λ xs. is_member xs q ≡ true) (saved_is f less) h)).below;
      }

  frames_apart : (f g : ℕ) → f ≢ g → f < length p.functions → g < length p.functions → AreApart (frame_of (memory_of pl p) f).at (frame_size (frame_of (memory_of pl p) f)) (frame_of (memory_of pl p) g).at (frame_size (frame_of (memory_of pl p) g))
  frames_apart f g d a b = ⊎_elim first second (cases_lt f g)
    where
      first : f < g → AreApart (frame_of (memory_of pl p) f).at (frame_size (frame_of (memory_of pl p) f)) (frame_of (memory_of pl p) g).at (frame_size (frame_of (memory_of pl p) g))
      first less = let h = frames_ascend p ram 0 p.functions f g less b in inl (omega (arith, h))

      second : g ≤ f → AreApart (frame_of (memory_of pl p) f).at (frame_size (frame_of (memory_of pl p) f)) (frame_of (memory_of pl p) g).at (frame_size (frame_of (memory_of pl p) g))
      second le = let h = frames_ascend p ram 0 p.functions g f (omega (arith, le, d)) a in inr (omega (arith, h))

  saves : (f : ℕ) → f < length p.functions → Saves p (memory_of pl p) (needed_of p) f
  saves f less = record {
    writes = λ q w n.
        let c = from_chosen (is_needed p f) machine_registers q n in
        let marks = subst (λ t. holds t q ≡ true) (sym (ap (λ (o : Outline). o.written) (outline_is p f))) (table_holds (function_writes p (function_in p f)) q c.below (member_of (function_writes p (function_in p f)) q w)) in
        subst (λ xs. is_member xs q ≡ true) (sym (saved_is f less)) (in_chosen (λ k. holds (written p f) k && is_needed p f k) machine_registers q c.below (both_true (holds (written p f) q) (is_needed p f q) marks c.passes));
    needed = λ q h.
        let c = from_chosen (λ k. holds (written p f) k && is_needed p f k) machine_registers q (subst (λ xs. is_member xs q ≡ true) (saved_is f less) h) in
        in_chosen (is_needed p f) machine_registers q c.below (right_true (holds (written p f) q) (is_needed p f q) c.passes);
  }

  written_is : (f : ℕ) → written p f ≡ table_of (function_writes p (function_in p f))
  written_is f = ap (λ (o : Outline). o.written) (outline_is p f)

  passed_is : (g : ℕ) → (outline_at (outlines_of p) g).passed ≡ table_of (registers_among (parameters_of p g))
  passed_is g = ap (λ (o : Outline). o.passed) (outline_is p g)

  housed_is : (f : ℕ) → housed p f ≡ table_of (registers_among (parameters_of p f) ++ sites_homes p (sites_of p f))
  housed_is f = ap (λ (o : Outline). o.housed) (outline_is p f)

  below : (f : ℕ) → AreBelow f (outline_at (outlines_of p) f).sites
  below f = subst (λ (o : Outline). AreBelow f o.sites) (sym (outline_is p f)) (sites_below p formed f)

  asked : (f : ℕ) (s : Site) (q : ℕ) → f < length p.functions → HasSite (sites_of p f) s → q < machine_registers
      → (is_member s.kept q && not (holds (outline_at (outlines_of p) s.callee).passed q)) || (is_needed p f q && not (holds (written p f) q)) ≡ true → is_member (needed_of p s.callee) q ≡ true
  asked f s q less h small a =
      in_chosen (is_needed p s.callee) machine_registers q small
      (needing_asks (outlines_of p) q below f s (subst (λ n. f < n) (sym (length-map p.functions (outline_of p))) less) (subst (λ (o : Outline). HasSite o.sites s) (sym (outline_is p f)) h) a)

  not_written : (f q : ℕ) → f < length p.functions → q < machine_registers → is_needed p f q ≡ true → is_member (frame_of (memory_of pl p) f).saved q ≡ false → holds (written p f) q ≡ false
  not_written f q less small n h = by (holds (written p f) q) refl
    where
      by : (b : Bool) → holds (written p f) q ≡ b → holds (written p f) q ≡ false
      by false e = e
      by true e = absurd (false≢true (sym h ∙ subst (λ xs. is_member xs q ≡ true) (sym (saved_is f less)) (in_chosen (λ k. holds (written p f) k && is_needed p f k) machine_registers q small (both_true (holds (written p f) q) (is_needed p f q) e n))))

  saves_at : (f g : ℕ) (b : PlacedBlock) (d : Option Place) (args : List (Operand Place)) (note : List ℕ) → f < length p.functions → Contains (function_in p f).blocks b → Contains b.code (Call d g args note) → SavesAt p (memory_of pl p) (needed_of p) f g note
  saves_at f g b d args note less in_function in_block =
      let h = has_site p f g b d args note in_function in_block in
      let s : Site = record { callee = g; kept = note } in
      let lower : g < f = site_below f (sites_of p f) s (sites_below p formed f) h in
      let there : g < length p.functions = omega (arith, lower, less) in
      record {
        lasting = λ q m. keeps f g b d args note less in_function in_block q m;
        kept = λ q m n.
            asked f s q less h (keeps f g b d args note less in_function in_block q m)
            (asks_kept (is_member note q) (holds (outline_at (outlines_of p) g).passed q) (is_needed p f q) (holds (written p f) q) m (ap (λ t. holds t q) (passed_is g) ∙ table_misses (registers_among (parameters_of p g)) q n));
        homes = λ q m.
            let small = parameters_small p g q sound there (kept_registers (parameters_of p g) note q m) in
            let all = registers_among (parameters_of p f) ++ sites_homes p (sites_of p f) in
            let inside = member_right (registers_among (parameters_of p f)) (sites_homes p (sites_of p f)) q (homes_hold p (sites_of p f) s q h m) in
            subst (λ xs. is_member xs q ≡ true) (sym (homes_is f less)) (in_chosen (holds (housed p f)) machine_registers q small (subst (λ t. holds t q ≡ true) (sym (housed_is f)) (table_holds all q small inside)));
        passed = λ q n u.
            let c = from_chosen (is_needed p f) machine_registers q n in
            asked f s q less h c.below (asks_needed (is_member note q) (holds (outline_at (outlines_of p) g).passed q) (is_needed p f q) (holds (written p f) q) c.passes (not_written f q less c.below c.passes u));
        arguments = λ q m.
            let small = parameters_small p g q sound there m in
            let all = registers_among (parameters_of p g) ++ sites_homes p (sites_of p g) in
            let inside = member_left (registers_among (parameters_of p g)) (sites_homes p (sites_of p g)) q m in
            subst (λ xs. is_member xs q ≡ true) (sym (homes_is g there)) (in_chosen (holds (housed p g)) machine_registers q small (subst (λ t. holds t q ≡ true) (sym (housed_is g)) (table_holds all q small inside)));
      }

  low : region_start Ram ≤ frames_end p
  low = ends p ram 0 p.functions

  even : frames_end p % 4 ≡ 0
  even = frames_end_even p ram 0 p.functions refl

  pub is_plan : IsPlan p (memory_of pl p) (needed_of p) (regions_of pl p)
  is_plan = record {
    frames = frame_placed;
    slots = λ f less. let e = (frame f less).slots in omega (arith, e);
    frames_apart = frames_apart;
    lasting = λ f q less n. (from_chosen (is_needed p f) machine_registers q n).below;
    saves = saves;
    calls = saves_at;
    objects = λ o x e. objects_lie pl p fits low even o x e;
    aligned = λ o x e. objects_aligned pl p fits low even o;
    objects_apart = λ o n x y d e k. objects_apart pl p fits low even o n x y d e k;
    beside_frames = λ o f x e less.
        let r = frame f less in
        let from = r.from in
        let to = r.to in
        beside_frames pl p fits low even o x (frame_of (memory_of pl p) f).at (frame_size (frame_of (memory_of pl p) f)) e from (omega (arith, to));
    second = second_small (nat_lt 0 (row_room 1 (spots_of pl p))) (nat_lt 0 (row_room 0 (spots_of pl p)));
    stored = λ o x e r. only_constants pl p o x e r;
  }
