use Rattle.types_tree.specs.View.{program_of}
use Rattle.plan_law.proofs.Sources.{checked}
use Rattle.try_sources.proofs.sources.made_of.Goals as goal

pub make-made-requires : goal.make-made-requires
make-made-requires c =
    let source = c.in-Ok.source in
    (checked c.args.text.now source.typed.program.names.items (program_of source.typed.program) source.facts c.in-Ok.ensures.source).facts_are

pub returns-in-Ok-made-clause-made : goal.returns-in-Ok-made-clause-made
returns-in-Ok-made-clause-made c =
    let source = c.in-Ok.source in
    record {
      names = source.typed.program.names.items;
      program = program_of source.typed.program;
      facts = source.facts;
      is_source = c.in-Ok.ensures.source;
      planned = c.in-Ok-made.ensures.planned;
      listed = c.in-Ok-made.ensures.listed;
    }
