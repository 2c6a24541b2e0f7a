use Rattle.std.proofs.Common.{◌≡◌, ◌++◌, drop}
use Rattle.lower_expression.specs.View.{code_of, shares_of}
use Rattle.lower_definition.specs.Values.{share_code}
use Rattle.lower_expression.proofs.sharing.share_code.Given as goal

abbrev pub invariant-loop-share : goal.invariant-loop-share
invariant-loop-share l = record {
  code : code_of l.coder ++ share_code (shares_of (drop l.share-index l.shares)) ≡ code_of l.initial.coder ++ share_code (shares_of l.shares);
  free : l.coder.free ≡ l.initial.coder.free;
}
