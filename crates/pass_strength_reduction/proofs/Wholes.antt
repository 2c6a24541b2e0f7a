-- Programs with pointers that step.
use Rattle.std.proofs.Common.{◌≡◌, ◌<◌, ◌≤◌, ℕ, suc, List, ◌++◌, length, map, refl, subst, sym}
use Rattle.std.specs.Prelude.{All, Vec, sum_by}
use Rattle.std.specs.Global.{Global}
use Rattle.std.specs.List.{AllZip}
use Rattle.std.proofs.lemmas.List.{length-map}
use Rattle.wcc_base.specs.Budgets.{spare_room}
use Rattle.low_ir.specs.declared.low.Function.{Function as Function'}
use Rattle.low_ir.specs.declared.low.Low.{Low as Low'}
use Rattle.low_ir.specs.Programs.{low_of}
use Rattle.low_ir.specs.Room.{function_room, weights}
use Rattle.low_ir.specs.View.{claim_of, function_of, object_of, program}
use Rattle.pass_strength_reduction_law.specs.Steps.{IsStepped, claims_of, spare_weight}
use Rattle.pass_strength_reduction.specs.Changing.{IsChanged}
use Rattle.pass_strength_reduction.specs.Scenes.{anything}
use Rattle.pass_strength_reduction.proofs.Blocks.{functions_changed}

-- a program of functions that were changed, with claims that list one array each behind the others
pub stepped : (low : Low') (alone : List ℕ) (functions : List Function') (claims : List (Vec ℕ Global))
    → All (λ o. o < length low.objects.items) alone
    → AllZip (IsChanged low.claims.items alone (length low.objects.items)) (map function_of low.functions.items) (map function_of functions)
    → sum_by function_room (map function_of functions) ≤ spare_room
    → weights (map function_of functions) (suc low.main) low.main ≤ spare_weight
    → map claim_of claims ≡ map claim_of low.claims.items ++ claims_of alone
    → IsStepped (low_of low) (program functions claims low.objects.items low.main low.marks)
stepped low alone functions claims there changed room weight listed =
    let p = low_of low in
    let q = program functions claims low.objects.items low.main low.marks in
    let count = length-map low.objects.items object_of in
    record {
      entry = anything;
      functions = functions_changed low.claims.items alone (length low.objects.items) p q 0 p.functions q.functions (record { before = refl; after = listed; there = count }) changed;
      first = refl;
      alone = alone;
      there = subst (λ n. All (λ o. o < n) alone) (sym count) there;
      claims = listed;
      objects = refl;
      main = refl;
      marks = refl;
      room = room;
      weight = weight;
    }
