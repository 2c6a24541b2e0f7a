use Rattle.low_ir.specs.Programs.{low_of}
use Rattle.wcc_compile.proofs.low_passes.quickened.Goals as goal

pub returns : goal.returns
returns c = record {
  quick = low_of c.in_ok-quick.quick;
  bare = low_of c.in_ok-bare.bare;
  steps = c.in_ok-quick.ensures;
  copies = c.in_ok-bare.ensures;
  threads = c.in_ok-last.ensures;
}
