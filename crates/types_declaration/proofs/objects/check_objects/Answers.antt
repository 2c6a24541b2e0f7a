use Rattle.std.proofs.Common.{ap, sym, ◌∷◌, [], map, arith}
use Rattle.std.proofs.lemmas.List.{map-append}
use Rattle.types_tree.specs.View.{object_of}
use Rattle.types_rules.specs.Typing.{and_object}
use Rattle.types_declaration.specs.Objects.{base_said}
use Rattle.types_declaration.proofs.ObjectFaults.{objects_walk}
use Rattle.types_declaration.proofs.Rows.{all_after, all_faults, all_made, made_more, one_more}
use Rattle.types_declaration.proofs.objects.check_objects.Goals as goal

pub loop-source-preserved : goal.loop-source-preserved
loop-source-preserved c =
    let base = base_said c.args.base in
    let walk = objects_walk base in
    let i = c.loop-source.source-index in
    let x = c.source-item.result in
    let a = c.args.table.now in
    let found = c.in_ok-inner.ensures in
    let objects = map object_of c.loop-source.objects.items in
    rw (c.in_ok-push.ensures, c.first_of-fault.ensures, map-append object_of c.loop-source.objects.items (c.in_ok-inner.inner.object ∷ [])) (
      one_more walk c.args.given.now a i x c.loop-source.table c.check_object.new.table c.loop-source.fault c.in_ok-inner.inner.fault
          (omega (arith, c.loop-source-test.true)) c.source-item.is c.loop-source.invariant.0 found.after found.fault,
      made_more walk (and_object base) c.args.given.now a i x c.loop-source.table c.check_object.new.table objects (object_of c.in_ok-inner.inner.object ∷ [])
          (omega (arith, c.loop-source-test.true)) c.source-item.is c.loop-source.invariant.1 found.after (λ rest. ap (λ t. t ∷ rest) (sym found.object)),
    )

pub returns : goal.returns
returns c =
    let base = base_said c.args.base in
    let walk = objects_walk base in
    let i = c.loop-source.source-index in
    let a = c.args.table.now in
    record {
      objects = all_made walk (and_object base) c.args.given.now a i c.loop-source.table (map object_of c.loop-source.objects.items) (omega (arith, c.loop-source-test.false)) c.loop-source.invariant.1;
      fault = all_faults walk c.args.given.now a i c.loop-source.table c.loop-source.fault (omega (arith, c.loop-source-test.false)) c.loop-source.invariant.0;
      after = all_after walk c.args.given.now a i c.loop-source.table c.loop-source.fault (omega (arith, c.loop-source-test.false)) c.loop-source.invariant.0;
    }
