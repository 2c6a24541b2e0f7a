use Rattle.std.proofs.Common.{All}
use Rattle.spm_placement.specs.Sets.{HasSmallGain, HasWholeWords}
use Rattle.spm_cases.proofs.choices.items_of.Given as goal

abbrev pub invariant-loop-word : goal.invariant-loop-word
invariant-loop-word l = record {
  small : All HasSmallGain l.items.items;
  whole : All HasWholeWords l.items.items;
}
