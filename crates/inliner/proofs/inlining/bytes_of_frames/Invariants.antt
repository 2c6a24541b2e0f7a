use Rattle.std.proofs.Common.{◌≡◌, sum_by, take}
use Rattle.high_ir.specs.Size.{frame_bytes}
use Rattle.inliner.specs.View.{functions_of}
use Rattle.inliner.proofs.inlining.bytes_of_frames.Given as goal

abbrev pub invariant-loop-function : goal.invariant-loop-function
invariant-loop-function l = l.bytes ≡ sum_by frame_bytes (functions_of (take l.function-index l.functions))
