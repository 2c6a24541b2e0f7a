use Rattle.std.proofs.Common.{◌≡◌, drop}
use Rattle.rv_core.specs.declared.row.Width.TheVariants.{Word}
use Rattle.rv_core.specs.Images.{AreSegments}
use Rattle.rv_core.specs.Memory.{loaded, read_from}
use Rattle.rv_core.proofs.code.code_word.Given as goal

-- the word isn't in the segments so far
abbrev pub invariant-loop-segment : goal.invariant-loop-segment
invariant-loop-segment l = record {
  rest : read_from (λ b. b.exec) Word (loaded l.segments) l.at ≡ read_from (λ b. b.exec) Word (loaded (drop l.segment-index l.segments)) l.at;
  left : AreSegments (drop l.segment-index l.segments);
}
