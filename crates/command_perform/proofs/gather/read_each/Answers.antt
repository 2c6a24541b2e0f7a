use Rattle.std.proofs.Common.{◌∙◌}
use Rattle.command_perform.specs.Gathering.{wanted}
use Rattle.command_perform.proofs.Counts.{gathered_on}
use Rattle.command_perform.proofs.Steps.{cut, gather_more, one_left, count_more}
use Rattle.command_perform.proofs.gather.read_each.Goals as goal

pub files-preserved : goal.files-preserved
files-preserved g c = record {
  gathered = gather_more _ _ _ _ _ _ _ _ _ c.files.invariant.same (cut wanted c.args.files.now c.files.file-index _ c.files-test.true) c.in-Ok-push.ensures.items c.files.invariant.gathered c.in-Ok.ensures.files;
  some = λ more. c.files.invariant.some (one_left wanted c.args.files.now c.files.file-index c.files-test.true);
  count = count_more _ _ _ _ c.in-Ok-push.ensures.items c.files.invariant.count;
  same = c.in-Ok.ensures.reads.same ∙ c.files.invariant.same;
  counts = gathered_on _ _ _ _ c.files.invariant.counts c.in-Ok.ensures.reads;
}
