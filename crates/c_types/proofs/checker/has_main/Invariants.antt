use Rattle.std.proofs.Common.{◌≡◌, drop}
use Rattle.c_types.proofs.Functions.{main_among}
use Rattle.c_types.proofs.checker.has_main.Given as goal

abbrev pub invariant-loop-external : goal.invariant-loop-external
invariant-loop-external l = main_among l.main l.externals ≡ main_among l.main (drop l.external-index l.externals)
