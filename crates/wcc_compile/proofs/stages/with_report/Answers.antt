use Rattle.wcc_compile.proofs.stages.with_report.Goals as goal

pub reported-requires : goal.reported-requires
reported-requires c = c.requires
