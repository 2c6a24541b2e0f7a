use Rattle.wcc_compile.proofs.stages.high.Goals as goal

pub passed-requires-clause-begun : goal.passed-requires-clause-begun
passed-requires-clause-begun c = c.begun-stages.ensures.begun c.args.options.now
