use Rattle.wcc_compile.proofs.Steps.{first_laid}
use Rattle.wcc_compile.proofs.stages.first.Goals as goal

pub with_report-requires : goal.with_report-requires
with_report-requires c = record { text = c.requires.0; is_source = c.requires.1; is_made = c.in_ok-made.ensures.made }

pub returns-clause-laid : goal.returns-clause-laid
returns-clause-laid c =
    let s = c.args.source.now in
    let from = c.in_ok-made.ensures in
    first_laid c.args.options.now s c.in_ok-made.made c.requires from.stages from.all from.code from.made from.none c.with_report.result c.with_report.ensures.made c.with_report.ensures.reported
