-- The addresses of a mark, where a program lies in memory.
use Rattle.std.proofs.Common.{◌≡◌, ⊎_elim, ℕ, zero, suc, ◌+◌, ◌<◌, ◌≤◌, List, [], ◌∷◌, Option, Some, None, refl, sym, ap, ◌∙◌, subst, arith, All, length}
use Rattle.std.specs.Prelude.{slice_get, slice_index_or}
use Rattle.std.specs.Option.{option_to_list}
use Rattle.std.proofs.lemmas.Bool.{cases_lt}
use Rattle.std.proofs.lemmas.List.{get_or_past}
use Rattle.std.proofs.lemmas.List.Elements.{All-head}
use Rattle.std.proofs.lemmas.List.FromFn.{get_or-map-range_with_len, length-map-range_with_len}
use Rattle.std.proofs.lemmas.Option.{get_or_from_slice_get, slice_get_within}
use Rattle.low_ir.specs.declared.places.LowReg.{LowReg}
use Rattle.low_ir.specs.declared.places.Place.{Place}
use Rattle.low_ir.specs.Code.{Block, Function, Low, Note}
use Rattle.low_ir.specs.Formed.{HasMarkBelow, IsLow, mark_of}
use Rattle.low_ir.specs.Places.{Assignment, place_blocks, place_functions, placed}
use Rattle.low_ir.specs.Placings.{assignment_of, placed_of}
use Rattle.low_ir.specs.Programs.{low_of}
use Rattle.low_ir.specs.Runs.{block_in}
use Rattle.low_ir.specs.Turns.{mark_in}
use Rattle.claims_definition.specs.ClaimLaws.{IsPlaceOf}
use Rattle.claims_definition.specs.Listed.{Laid, places_of, places_below}
use Rattle.claims_image.specs.Images.{laid_of}
use Rattle.layout_program.specs.declared.laid.Laid as lays
use Rattle.image_frames.specs.Memories.{Placement}
use Rattle.compile_stages.specs.Made.{IsInMemory}

-- over places a block has the mark that it has over virtual registers
in_blocks : (at : ℕ → Place) (kept : ℕ → List ℕ) (q : ℕ) (bs : List (Block ℕ Note)) (b : ℕ) → mark_in (slice_get (place_blocks at kept q bs) b) ≡ mark_in (slice_get bs b)
in_blocks at kept q [] b = refl
in_blocks at kept q (x ∷ bs) zero = refl
in_blocks at kept q (x ∷ bs) (suc b) = in_blocks at kept (q + suc (length x.code)) bs b

in_functions : (a : Assignment) (k : ℕ) (fns : List (Function ℕ Note)) (f b : ℕ) → mark_in (block_in (slice_get (place_functions a k fns) f) b) ≡ mark_in (block_in (slice_get fns f) b)
in_functions a k [] f b = refl
in_functions a k (fn ∷ fns) zero b = in_blocks (a.place k) (a.kept k) 0 fn.blocks b
in_functions a k (fn ∷ fns) (suc f) b = in_functions a (suc k) fns f b

each : {A : Type 0} (P : A → Type 0) (xs : List A) (k : ℕ) (x : A) → All P xs → slice_get xs k ≡ Some x → P x
each P xs k x all e = subst P (get_or_from_slice_get xs k x x e) (all k x (slice_get_within xs k x e))

-- a program has as many marks as it says
module _ (low : Low) (is : IsLow low) (mark : ℕ) where
  in_block : (f : ℕ) (fn : Function ℕ Note) → slice_get low.functions f ≡ Some fn → (b : ℕ) (o : Option (Block ℕ Note)) → slice_get fn.blocks b ≡ o → mark_in o ≡ Some mark → mark < low.marks
  in_block f fn there b None at e = cc
  in_block f fn there b (Some x) at e =
      All-head (λ m. m < low.marks) mark [] (subst (λ o. All (λ m. m < low.marks) (option_to_list o)) e (each (HasMarkBelow low.marks) fn.blocks b x (is.functions f fn there).marks at))

  in_function : (f b : ℕ) (o : Option (Function ℕ Note)) → slice_get low.functions f ≡ o → mark_in (block_in o b) ≡ Some mark → mark < low.marks
  in_function f b None there e = cc
  in_function f b (Some fn) there e = in_block f fn there b (slice_get fn.blocks b) refl e

  marked_below : (a : Assignment) (f b : ℕ) → mark_of (placed a low) f b ≡ Some mark → mark < low.marks
  marked_below a f b e = in_function f b (slice_get low.functions f) refl (sym (in_functions a 0 low.functions f b) ∙ e)

module _ (pl : Placement) (code : LowReg) (y : lays.Laid) (is_low : IsLow (low_of code.low)) (h : IsInMemory pl code y) where
  abbrev pub laid : Laid
  laid = laid_of pl (placed_of code)

  -- past the marks of the program there are no addresses
  none_past : (mark : ℕ) (xs : List ℕ) → code.low.marks ≤ mark → All (IsPlaceOf laid mark) xs → xs ≡ []
  none_past mark [] past all = refl
  none_past mark (x ∷ xs) past all =
      let first = All-head (IsPlaceOf laid mark) x xs all in
      let below : mark < code.low.marks = marked_below (low_of code.low) is_low mark (assignment_of code) first.function first.block first.marked in
      absurd (omega (arith, past, below))

  by_place : (mark : ℕ) → slice_index_or (places_below laid code.low.marks) mark [] ≡ places_of laid mark
  by_place mark = ⊎_elim
      (λ (low : mark < code.low.marks). get_or-map-range_with_len (places_of laid) 0 code.low.marks mark mark [] low (plain mark))
      (λ (past : code.low.marks ≤ mark).
      get_or_past (places_below laid code.low.marks) mark [] (subst (λ n. n ≤ mark) (sym (length-map-range_with_len (places_of laid) 0 code.low.marks)) past)
      ∙ sym (none_past mark (places_of laid mark) past (h.keeps_low.marks mark).each))
      (cases_lt mark code.low.marks)
    where
      plain : (n : ℕ) → 0 + n ≡ n
      plain n = omega arith

  -- the list of a mark has all its addresses
  pub places_same : (mark : ℕ) → slice_index_or y.lists.places.items mark [] ≡ places_of laid mark
  places_same mark = ap (λ lists. slice_index_or lists mark []) h.laid.lists.places ∙ by_place mark
