-- There are at most as many items as functions and words of arrays that aren't local.
use Rattle.std.proofs.Common.{◌≡◌, ℕ, zero, suc, ◌+◌, ◌*◌, ◌<◌, ◌≤◌, Some, List, [], ◌∷◌, ◌++◌, length, map, refl, ap, ◌∙◌, arith, mul-pos}
use Rattle.std.specs.Prelude.{slice_get}
use Rattle.std.specs.List.{range_with_len}
use Rattle.std.proofs.lemmas.List.{length-append, length-map}
use Rattle.rv_core.specs.Table.{Table}
use Rattle.code_flow_system.specs.declared.cert.Part.{Part}
use Rattle.low_ir.specs.declared.object.Kind.{Kind}
use Rattle.low_ir.specs.declared.object.Kind.TheVariants.{Unsigned8, Signed8, Unsigned16, Signed16, Word}
use Rattle.low_ir.specs.declared.object.Storage.{Storage}
use Rattle.low_ir.specs.declared.object.Storage.TheVariants.{Constant, Global, Local}
use Rattle.low_ir.specs.Code.{Object}
use Rattle.low_ir.specs.Arrays.{array_size}
use Rattle.low_ir.specs.Kinds.{kind_bytes}
use Rattle.claims_definition.specs.Listed.{Laid}
use Rattle.claims_definition.specs.Movables.{array_item, arrays_from, function_item, is_local, movables_of, unless}
use Rattle.layout_relation.specs.Items.{HasElements}
use Rattle.image_definition.specs.Sizes.{globals_size, unless_local}
use Rattle.spm_placement.specs.Gains.{gained}
use Rattle.compile_placement.specs.Laws.{items_of}

some_bytes : (k : Kind) → 0 < kind_bytes k
some_bytes Unsigned8 = omega arith
some_bytes Signed8 = omega arith
some_bytes Unsigned16 = omega arith
some_bytes Signed16 = omega arith
some_bytes Word = omega arith

-- an array that isn't empty takes a word at least
one_word : (x : Object) → 0 < x.size → 4 ≤ array_size x
one_word x some = let bytes : 0 < kind_bytes x.kind * x.size = mul-pos (some_bytes x.kind) some in omega (arith, bytes)

module _ (l : Laid) where
  functions_count : (k n : ℕ) → length (map (function_item l) (range_with_len k n)) ≡ n
  functions_count k zero = refl
  functions_count k (suc n) = ap suc (functions_count (k + 1) n)

  arrays_few : (k : ℕ) (xs : List Object) → ((o : ℕ) (x : Object) → slice_get xs o ≡ Some x → 0 < x.size) → 4 * length (arrays_from l k xs) ≤ globals_size xs
  arrays_few k [] elements = omega arith
  arrays_few k (x ∷ xs) elements = by_storage x.storage (one_word x (elements 0 x refl)) (arrays_few (suc k) xs (λ o y e. elements (suc o) y e))
    where
      by_storage : (s : Storage) → 4 ≤ array_size x → 4 * length (arrays_from l (suc k) xs) ≤ globals_size xs → 4 * length (unless (is_local s) (array_item l k x) ++ arrays_from l (suc k) xs) ≤ unless_local s (array_size x) + globals_size xs
      by_storage Constant some rest = omega (arith, some, rest)
      by_storage Global some rest = omega (arith, some, rest)
      by_storage Local some rest = omega (arith, rest)

pub few : (t : Table) (ps : List Part) (l : Laid) → HasElements l.program → 4 * length (items_of t ps l) ≤ 4 * length l.program.functions + globals_size l.program.objects
few t ps l elements =
    let fs = map (function_item l) (range_with_len 0 (length l.program.functions)) in
    let arrays = arrays_from l 0 l.program.objects in
    let all : length (items_of t ps l) ≡ length fs + length arrays = length-map (movables_of l) (gained t ps) ∙ length-append fs arrays in
    let first = functions_count l 0 (length l.program.functions) in
    let second = arrays_few l 0 l.program.objects elements in
    omega (arith, all, first, second)
