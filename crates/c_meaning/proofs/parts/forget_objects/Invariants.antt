use Rattle.std.proofs.Common.{◌≡◌, drop, map}
use Rattle.types_tree.specs.View.{object_of}
use Rattle.meaning_semantics.specs.Statements.{unwritten_all}
use Rattle.c_meaning.proofs.parts.forget_objects.Given as goal

abbrev pub invariant-loop-object : goal.invariant-loop-object
invariant-loop-object l = unwritten_all (map object_of (drop l.object-index l.objects)) l.state ≡ unwritten_all (map object_of l.objects) l.fn.state
