use Rattle.std.proofs.Common.{◌≡◌, drop}
use Rattle.low_make.specs.Marks.{Marks}
use Rattle.lower_definition.specs.Calls.{noted}
use Rattle.low_make.proofs.noting.note_all.Given as goal

abbrev pub invariant-loop-object : goal.invariant-loop-object
invariant-loop-object l = record {
  noted : noted l.claim.items (drop l.object-index l.more) ≡ noted l.initial.claim.items l.more;
  seen : Marks l.seen.items l.claim.items;
}
