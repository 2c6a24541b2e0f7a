use Rattle.std.proofs.Common.{map}
use Rattle.types_tree.specs.View.{object_of}
use Rattle.types_rules.specs.Typing.{and_object}
use Rattle.types_declaration.specs.Objects.{base_said}
use Rattle.types_declaration.proofs.ObjectFaults.{objects_walk}
use Rattle.types_declaration.proofs.Rows.{Made, SoFar}
use Rattle.types_declaration.proofs.objects.check_objects.Given as goal

abbrev pub invariant-loop-source : goal.invariant-loop-source
invariant-loop-source l =
    let walk = objects_walk (base_said l.base) in
    SoFar walk l.given l.fn.table l.source-index l.table l.fault × Made walk (and_object (base_said l.base)) l.given l.fn.table l.source-index l.table (map object_of l.objects.items)
