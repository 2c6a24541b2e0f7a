use Rattle.std.proofs.Common.{◌≡◌, ◌<◌, ◌≤◌, ◌++◌, ℕ, List, Option, ap, arith, length, map, subst, suc, ◌∙◌}
use Rattle.std.specs.Prelude.{All, IfSome, Vec, sum_by}
use Rattle.std.specs.Global.{Global}
use Rattle.std.specs.List.{AllZip}
use Rattle.wcc_base.specs.Budgets.{spare_room}
use Rattle.low_ir.specs.declared.low.Function.{Function}
use Rattle.low_ir.specs.Room.{function_room, weights}
use Rattle.low_ir.specs.View.{claim_of, function_of}
use Rattle.pass_strength_reduction_law.specs.Steps.{claims_of, spare_weight}
use Rattle.pass_strength_reduction.specs.Changing.{IsChanged}
use Rattle.pass_strength_reduction.proofs.Wholes.{stepped}
use Rattle.pass_strength_reduction.proofs.program.checked.Goals as goal

pub returns : goal.returns
returns c =
    let low = c.args.low.now in
    let alone = c.args.alone.now in
    let one = c.len.ensures in
    let two = c.len-2.ensures in
    let whole = low.objects.ok.0 in
    let first : c.len.result ≡ length low.objects.items = omega (arith, one, whole) in
    let second : c.len-2.result ≡ length low.objects.items = omega (arith, two, whole) in
    let there = subst (λ n. All (λ o. o < n) alone) first (c.are_there.ensures c.if-not-are_there.false) in
    let made = subst (λ (o : Option (Vec Function Global)). IfSome o (λ (v : Vec Function Global). AllZip (IsChanged c.deref.result.now alone c.len-2.result) (map function_of c.deref-2.result.now) (map function_of v.items))) c.in-Some.is c.in_ok-functions.ensures in
    let new = map function_of c.in-Some.functions.items in
    let changed = subst (λ n. AllZip (IsChanged low.claims.items alone n) (map function_of low.functions.items) new) second
    (subst (λ (cs : List (Vec ℕ Global)). AllZip (IsChanged cs alone c.len-2.result) (map function_of low.functions.items) new) c.deref.ensures.value
    (subst (λ (fs : List Function). AllZip (IsChanged c.deref.result.now alone c.len-2.result) (map function_of fs) new) c.deref-2.ensures.value made)) in
    let room = subst (λ (fs : List Function). sum_by function_room (map function_of fs) ≤ spare_room) c.deref-3.ensures.value (c.has_room.ensures c.if-not-has_room.false) in
    let weight = subst (λ (fs : List Function). weights (map function_of fs) (suc low.main) low.main ≤ spare_weight) c.deref-4.ensures.value (c.in_ok-is_light.ensures c.if-not-branch.false) in
    let listed = c.in_ok-claims.ensures ∙ ap (λ (cs : List (Vec ℕ Global)). map claim_of cs ++ claims_of alone) c.deref-5.ensures.value in
    stepped low alone c.in-Some.functions.items c.in_ok-claims.claims.items there changed room weight listed
