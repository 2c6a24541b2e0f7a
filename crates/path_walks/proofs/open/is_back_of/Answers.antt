use Rattle.std.specs.Prelude.{◌==◌, ◌&&◌}
use Rattle.std.proofs.Common.{arith, ap, sym, ◌∙◌, Bool, None, length, get_or, ◌<◌, ◌≤◌}
use Rattle.code_flow_system.specs.declared.shapes.LoopShape.{LoopShape}
use Rattle.path_walks.proofs.PointLemmas.{any_missing, any_found, is_eq, not_eq, and_same}
use Rattle.path_walks.proofs.open.is_back_of.Goals as goal

abbrev no_shape : LoopShape
no_shape = record { header = 0; back = 0; parent = None; first = 0; last = 0 }

pub returns-then-place-shapes : goal.returns-then-place-shapes
returns-then-place-shapes c =
    let all : length c.args.shapes.now ≤ c.loops_before-place.result = let e = c.if-place-shapes.true in omega (arith, e) in
    sym (any_missing (λ (x : LoopShape). x.header) (λ (x : LoopShape). x.back == c.args.at) c.args.shapes.now c.loops_before-place.result c.args.header all c.loops_before-place.ensures.point)

pub returns-then-shapes-place : goal.returns-then-shapes-place
returns-then-shapes-place c =
    let some : c.loops_before-place.result < length c.args.shapes.now = omega (arith, c.loops_before-place.ensures.bound, c.if-place-shapes.false) in
    let x = get_or c.args.shapes.now c.loops_before-place.result no_shape in
    ap (λ (t : Bool). t && (x.back == c.args.at)) (sym (is_eq x.header c.args.header c.if-shapes-place.true))
    ∙ sym (any_found (λ (y : LoopShape). y.header) (λ (y : LoopShape). y.back == c.args.at) c.args.shapes.now c.loops_before-place.result c.args.header no_shape c.requires some c.loops_before-place.ensures.point)

pub returns-else-shapes-place : goal.returns-else-shapes-place
returns-else-shapes-place c =
    let some : c.loops_before-place.result < length c.args.shapes.now = omega (arith, c.loops_before-place.ensures.bound, c.if-place-shapes.false) in
    let x = get_or c.args.shapes.now c.loops_before-place.result no_shape in
    and_same (x.header == c.args.header) (x.back == c.args.at) (not_eq x.header c.args.header c.if-shapes-place.false)
    ∙ sym (any_found (λ (y : LoopShape). y.header) (λ (y : LoopShape). y.back == c.args.at) c.args.shapes.now c.loops_before-place.result c.args.header no_shape c.requires some c.loops_before-place.ensures.point)
