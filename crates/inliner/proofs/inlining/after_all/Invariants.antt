use Rattle.std.proofs.Common.{◌≡◌, drop}
use Rattle.inliner.specs.Inlining.{after_all}
use Rattle.inliner.specs.View.{IsSizedMaking, making_of}
use Rattle.inliner.proofs.inlining.after_all.Given as goal

abbrev pub invariant-loop-f : goal.invariant-loop-f
invariant-loop-f l = record {
  made : after_all l.limit (making_of l.making) (drop l.f-index l.order) ≡ after_all l.limit (making_of l.initial.making) l.order;
  sized : IsSizedMaking l.making;
}
