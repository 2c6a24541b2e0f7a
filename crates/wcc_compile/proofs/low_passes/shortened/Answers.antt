use Rattle.low_ir.specs.Programs.{low_of}
use Rattle.wcc_compile.proofs.low_passes.shortened.Goals as goal

pub returns : goal.returns
returns c = record {
  short = low_of c.in_ok-short.short;
  loaded = low_of c.in_ok-loaded.loaded;
  brief = low_of c.in_ok-brief.brief;
  again = low_of c.in_ok-again.again;
  threads = c.in_ok-short.ensures;
  reloads = c.in_ok-loaded.ensures;
  copies = c.in_ok-brief.ensures;
  reloads_again = c.in_ok-again.ensures;
  copies_again = c.in_ok-fewer.ensures;
}
