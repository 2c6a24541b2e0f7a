-- Each load and store of a laid program is among its accesses, so that it lies in a line of regions, in which the image has bytes.
use Rattle.std.proofs.Common.{◌≡◌, ℕ, ◌+◌, true, false, List, length, refl, ap, ◌∙◌, subst, arith, Contains, All}
use Rattle.std.specs.Prelude.{◌&&◌, nat_lt, take}
use Rattle.std.proofs.lemmas.Bool.{false≢true, le-leb, lt-ltb}
use Rattle.rv_core.specs.declared.regions.Region.{Region}
use Rattle.rv_core.specs.declared.regions.Region.TheVariants.{Flash, Spm, Ram}
use Rattle.rv_core.specs.Images.{Image}
use Rattle.code_flow_system.specs.declared.claims.Within.{Within}
use Rattle.code_flow_system.specs.declared.moves.Move.{Move}
use Rattle.code_flow_system.specs.MoveCosts.{lies_within, names}
use Rattle.code_flow_system.specs.Moves.{Code, code_of}
use Rattle.code_flow_system.specs.Reach.{IsReached}
use Rattle.code_flow_system.specs.Systems.{IsSystemOf, System}
use Rattle.asm_items.specs.Items.{total}
use Rattle.asm_items.specs.Placings.{block_of, start_of}
use Rattle.asm_forms.proofs.LikeLemmas.{formed_like}
use Rattle.asm_graphs.specs.Graphs.{Graph}
use Rattle.asm_graphs.proofs.ReachedLemmas.{reached}
use Rattle.asm_graphs.specs.Promised.{block_in}
use Rattle.asm_placed.proofs.Alike.{block_alike}
use Rattle.asm_program.specs.Functions.{graph_of, program_items}
use Rattle.claims_definition.specs.AccessLaws.{AreLines, AreTouched, HasLine}
use Rattle.claims_definition.specs.Lines.{Access, access_at, frame_letters, letters_of}
use Rattle.claims_definition.specs.Touches.{Nothing, OfArrays, OfFrame, Touch, program_touches, touches_memory}
use Rattle.claims_definition.proofs.Matching.{program_touched}
use Rattle.claims_definition.specs.Listed.{Laid, accesses_of, claims_of, functions_of, placing, regions_of, touches_at}
use Rattle.claims_image.specs.Images.{HasClaims}
use Rattle.layout_relation.specs.Kept.{IsListed}
use Rattle.layout_relation.specs.Segments.{AreFilled}
use Rattle.promise_report.specs.Compiled.{HasSegmentIn, IsLined}
use Rattle.compile_names.proofs.Lists.{all_got, contained, got}
use Rattle.compile_promise.proofs.Loading.{Loads, LoadsAt, among_own, found, loads_by, touched_at, touched_like}

-- what touches memory at an address is an access there
record IsAccess (xs : List Access) (a : ℕ) : Type 0 where
  access : Access
  there : Contains xs access
  at : access.at ≡ a

access_there : (regions : ℕ → Region) (b a : ℕ) (t : Touch) → b ≡ a → touches_memory t ≡ true → IsAccess (access_at regions b t) a
access_there regions b a Nothing is h = absurd (false≢true h)
access_there regions b a OfFrame is h = record { access = record { at = b; letters = frame_letters }; there = (0, omega arith, refl); at = is }
access_there regions b a (OfArrays os) is h = record { access = record { at = b; letters = letters_of regions os }; there = (0, omega arith, refl); at = is }

filled_in : (image : Image) (w : Within) → AreFilled image.segments w → (r : Region) → names w r ≡ true → HasSegmentIn image r
filled_in image w h Flash e = let f = h.flash e in record { segment = f.segment; there = f.there; filled = f.some; lies = f.lies }
filled_in image w h Spm e = let f = h.spm e in record { segment = f.segment; there = f.there; filled = f.some; lies = f.lies }
filled_in image w h Ram e = let f = h.ram e in record { segment = f.segment; there = f.there; filled = f.some; lies = f.lies }

within_line : (ws : List Within) (x : Access) (h : HasLine ws x) → lies_within h.line x.at ≡ true
within_line ws x h = ap (λ b. b && nat_lt x.at h.line.end) (le-leb h.line.first x.at h.first) ∙ lt-ltb x.at h.line.end h.end

module _ (l : Laid) (image : Image) (has : HasClaims l image) where
  abbrev g : Graph
  g = graph_of l.memory l.program

  abbrev c : Code
  c = code_of image (claims_of l)

  -- what the items of a block touch, in whichever forms
  touched : (f b : ℕ) → AreTouched (touches_at l f b) (block_of (placing l) f b)
  touched f b =
      let items = program_items l.memory l.program in
      touched_like (touches_at l f b) (block_in items f b) (block_of (placing l) f b) (touched_at (program_touches l.memory l.program) items f b (program_touched l.memory l.program))
      (block_alike items (functions_of l) f b (formed_like l.rows items))

  -- a load or store at an address that is reached
  access_of : IsListed l → (a : ℕ) → IsReached c image.entry a → LoadsAt c a → IsAccess (accesses_of l) a
  access_of listed a reach q =
      let r = subst (λ e. IsReached c e a) has.laid.entry reach in
      let w = reached g (placing l) c has.laid.shaped has.laid.laid (length l.program.functions) has.laid.there r.0 a r.1 in
      let there = w.known.function in
      let inside = w.known.block in
      let count = has.laid.laid.blocks w.f in
      let k = found c (start_of (placing l)) w.f (touches_at l w.f w.b) (block_of (placing l) w.f w.b) (start_of (placing l) w.f w.b) a w.low (touched w.f w.b) (has.laid.laid.stands w.f w.b there inside) w.known.word q in
      let x = access_there l.regions (start_of (placing l) w.f w.b + total (take k.number (block_of (placing l) w.f w.b))) a k.touch k.is k.touches in
      record { access = x.access; there = listed w.f w.b k.number k.touch x.access (omega (arith, there)) (omega (arith, inside, count)) k.low k.there x.there; at = x.at }

  module _ (s : System) (is : IsSystemOf image (claims_of l) s) where
    move_loads : (m : Move) → Contains s.moves m → Loads m.instr → LoadsAt c m.at
    move_loads m there h =
        loads_by c m.at (c.fetch m.at) m (subst (λ ms. Contains ms m) (is.own m.at (is.reached m there)) (among_own s.moves m there)) h

    line_of : AreLines (accesses_of l) (regions_of l) → All (AreFilled image.segments) (regions_of l) → (x : Access) → Contains (accesses_of l) x → (m : Move) → x.at ≡ m.at → IsLined image (regions_of l) m
    line_of lines filled x there m at =
        let n = got (accesses_of l) x there in
        let h = lines.each n.0 x n.1 in
        record {
          line = h.line;
          there = contained (regions_of l) h.number h.line h.there;
          within = subst (λ a. lies_within h.line a ≡ true) at (within_line (regions_of l) x h);
          filled = λ r e. filled_in image h.line (all_got (AreFilled image.segments) (regions_of l) h.number h.line filled h.there) r e;
        }

    pub move_lined : IsListed l → AreLines (accesses_of l) (regions_of l) → All (AreFilled image.segments) (regions_of l) → (m : Move) → Contains s.moves m → Loads m.instr → IsLined image (regions_of l) m
    move_lined listed lines filled m there h =
        let x = access_of listed m.at (is.reached m there) (move_loads m there h) in
        line_of lines filled x.access x.there m x.at
