use Rattle.types_tree.specs.View.{program_of}
use Rattle.try_sources.proofs.sources.meaning_of.Goals as goal

pub returns-in-Ok-run-clause-meant : goal.returns-in-Ok-run-clause-meant
returns-in-Ok-run-clause-meant c =
    let source = c.in-Ok.source in
    record {
      names = source.typed.program.names.items;
      program = program_of source.typed.program;
      facts = source.facts;
      is_source = c.in-Ok.ensures.source;
      meant = c.in-Ok-run.ensures;
    }
