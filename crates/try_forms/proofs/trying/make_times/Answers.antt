use Rattle.types_tree.specs.View.{program_of}
use Rattle.plan_law.proofs.Sources.{checked}
use Rattle.try_forms.proofs.trying.make_times.Goals as goal

pub make_again-made-requires : goal.make_again-made-requires
make_again-made-requires c =
    let source = c.in_ok-source.source in
    (checked c.deref.result.now source.typed.program.names.items (program_of source.typed.program) source.facts c.in_ok-source.ensures.source).facts_are
