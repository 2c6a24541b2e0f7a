use Rattle.std.proofs.Common.{◌≡◌, drop}
use Rattle.types_tree.specs.View.{items_of}
use Rattle.meaning_semantics.specs.Statements.{entered}
use Rattle.c_meaning.proofs.parts.enter.Given as goal

abbrev pub invariant-loop-item : goal.invariant-loop-item
invariant-loop-item l = entered (items_of (drop l.item-index l.items)) l.state ≡ entered (items_of l.items) l.fn.state
