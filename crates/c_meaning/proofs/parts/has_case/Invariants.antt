use Rattle.std.proofs.Common.{◌≡◌, drop}
use Rattle.types_tree.specs.View.{items_of}
use Rattle.meaning_semantics.specs.Statements.{has_case}
use Rattle.c_meaning.proofs.parts.has_case.Given as goal

abbrev pub invariant-loop-item : goal.invariant-loop-item
invariant-loop-item l = has_case l.word (items_of (drop l.item-index l.items)) ≡ has_case l.word (items_of l.items)
