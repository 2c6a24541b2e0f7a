-- The arrays of a program stand in the memory of its image as a run has them at first.
use Rattle.std.proofs.Common.{◌≡◌, ◌≢◌, ℕ, zero, suc, ◌+◌, ◌*◌, ◌%◌, ◌^◌, ◌<◌, List, [], ◌∷◌, ◌++◌, length, map, take, replicate, Option, Some, None, refl, sym, ap, ◌∙◌, subst, arith}
use Rattle.std.specs.Prelude.{slice_get, slice_index, slice_index_or}
use Rattle.std.proofs.lemmas.List.{length-append, length-replicate, length-take-le}
use Rattle.rv_core.specs.declared.row.Width.{Width}
use Rattle.rv_core.specs.Arithmetic.{extended}
use Rattle.rv_core.specs.Memory.{loaded, read_from}
use Rattle.low_ir.specs.declared.object.Kind.{Kind}
use Rattle.low_ir.specs.declared.object.Kind.TheVariants.{Unsigned8, Signed8, Unsigned16, Signed16, Word}
use Rattle.low_ir.specs.declared.object.Storage.{Storage}
use Rattle.low_ir.specs.declared.object.Storage.TheVariants.{Constant as Fixed', Global, Local}
use Rattle.low_ir.specs.Kinds.{width_of, kind_bytes, converted}
use Rattle.low_ir.specs.Code.{Object}
use Rattle.low_ir.specs.Effects.{Contents, contents, first_elements}
use Rattle.low_ir.specs.Places.{Placed}
use Rattle.asm_program.specs.Frames.{object_at}
use Rattle.simulation_relation.specs.Views.{View, HasElements, IsArray, HasArrays}
use Rattle.simulation_steps.proofs.Places.{within}
use Rattle.simulation_steps.proofs.Elements.{converted-low, converted-again}
use Rattle.image_segments.proofs.ValueLemmas.{element_read}
use Rattle.image_frames.specs.Memories.{Placement, memory_of}
use Rattle.image_definition.specs.Images.{data_in, flash_bytes, scratchpad_bytes, image_in, FitsImage}
use Rattle.image_definition.proofs.LaidLemmas.{fit_segments}

in_contents : (xs : List Object) (o : ℕ) (c : Contents) → slice_get (map contents xs) o ≡ Some c → (x : Object) × (slice_get xs o ≡ Some x) × (c ≡ contents x)
in_contents [] o c e = cc
in_contents (x ∷ xs) zero c e = let same : contents x ≡ c = cc in (x, refl, sym same)
in_contents (x ∷ xs) (suc o) c e = in_contents xs o c e

converted-zero : (kind : Kind) → converted kind 0 ≡ 0
unfolding converted extended
converted-zero Unsigned8 = refl
converted-zero Signed8 = refl
converted-zero Unsigned16 = refl
converted-zero Signed16 = refl
converted-zero Word = refl

none_there : (n i w : ℕ) → slice_index_or (replicate n None) i None ≡ Some w → ⊥
none_there zero i w e = cc
none_there (suc n) zero w e = cc
none_there (suc n) (suc i) w e = none_there n i w e

nothing : (n i : ℕ) → slice_index (take n []) i ≡ 0
nothing zero i = refl
nothing (suc n) i = refl

zeros : (n m i w : ℕ) → slice_index_or (take n (replicate m (Some 0))) i None ≡ Some w → w ≡ 0
zeros zero m i w e = cc
zeros (suc n) zero i w e = cc
zeros (suc n) (suc m) zero w e = cc
zeros (suc n) (suc m) (suc i) w e = zeros n m i w e

-- an element that has a value, by the values that are given
given : (kind : Kind) (n m : ℕ) (vs : List ℕ) (i w : ℕ) → slice_index_or (take n (map (λ v. Some (converted kind v)) vs ++ replicate m (Some 0))) i None ≡ Some w → w ≡ converted kind (slice_index (take n vs) i)
given kind zero m vs i w e = cc
given kind (suc n) m [] i w e = zeros (suc n) m i w e ∙ sym (converted-zero kind) ∙ ap (converted kind) (sym (nothing (suc n) i))
given kind (suc n) m (v ∷ vs) zero w e = cc
given kind (suc n) m (v ∷ vs) (suc i) w e = given kind n m vs i w e

full : (kind : Kind) (n : ℕ) (vs : List ℕ) → length (take n (map (λ v. Some (converted kind v)) vs ++ replicate n (Some 0))) ≡ n
full kind n vs =
    let zeros_there = length-replicate {A = Option ℕ} n (Some 0) in
    let all = length-append (map (λ v. Some (converted kind v)) vs) (replicate n (Some 0)) in
    length-take-le n (map (λ v. Some (converted kind v)) vs ++ replicate n (Some 0)) (omega (arith, zeros_there, all))

first_size : (s : Storage) (x : Object) → length (first_elements s x) ≡ x.size
first_size Fixed' x = full x.kind x.size x.values
first_size Global x = full x.kind x.size x.values
first_size Local x = length-replicate {A = Option ℕ} x.size None

module _ (pl : Placement) (p : Placed) (fits : FitsImage pl p) (v : View) (reads : (w : Width) (a : ℕ) → v.read w a ≡ read_from (λ b. b.read) w (loaded (image_in pl p).segments) a) where
  abbrev at : ℕ → ℕ
  at o = object_at (memory_of pl p) o

  abbrev Stands : ℕ → Object → ℕ → ℕ → Type 0
  Stands o x i w = (v.read (width_of x.kind) (at o + kind_bytes x.kind * i) ≡ Some (w % 2 ^ (8 * kind_bytes x.kind))) × (converted x.kind w ≡ w)

  stands : (o : ℕ) (x : Object) (i w : ℕ) → slice_get p.objects o ≡ Some x → x.storage ≢ Local → i < x.size → w ≡ converted x.kind (slice_index (take x.size x.values) i) → Stands o x i w
  stands o x i w there has less is =
      let value = slice_index (take x.size x.values) i in (
        reads (width_of x.kind) (at o + kind_bytes x.kind * i)
            ∙ element_read (data_in pl p) (flash_bytes pl p) (scratchpad_bytes pl p) (fit_segments pl p fits) o x i there has less
            ∙ ap Some (sym (ap (λ n. n % 2 ^ (8 * kind_bytes x.kind)) is ∙ converted-low x.kind value)),
        ap (converted x.kind) is ∙ converted-again x.kind value ∙ sym is,
      )

  by_storage : (o : ℕ) (x : Object) (i w : ℕ) (s : Storage) → x.storage ≡ s → slice_get p.objects o ≡ Some x → i < x.size → slice_index_or (first_elements s x) i None ≡ Some w → Stands o x i w
  by_storage o x i w Fixed' is there less e = stands o x i w there (λ other. let both : Fixed' ≡ Local = sym is ∙ other in cc) less (given x.kind x.size x.size x.values i w e)
  by_storage o x i w Global is there less e = stands o x i w there (λ other. let both : Global ≡ Local = sym is ∙ other in cc) less (given x.kind x.size x.size x.values i w e)
  by_storage o x i w Local is there less e = absurd (none_there x.size i w e)

  elements : (o : ℕ) (x : Object) → slice_get p.objects o ≡ Some x → HasElements (at o) (contents x) v
  elements o x there i w e =
      let low = within (first_elements x.storage x) i w e in
      let size = first_size x.storage x in
      by_storage o x i w x.storage refl there (omega (arith, low, size)) e

  pub first_arrays : HasArrays (memory_of pl p) p.objects (map contents p.objects) v
  first_arrays o c e =
      let found = in_contents p.objects o c e in
      let x = found.0 in (
        x,
        found.1,
        subst (λ d. IsArray (memory_of pl p) o x d v) (sym found.2) (record { kind = refl; storage = refl; size = first_size x.storage x; elements = elements o x found.1 }),
      )
