use Rattle.rv_core.specs.Table.{table_of}
use Rattle.command_perform.proofs.CompileRuns.{compiles, refuses_compile}
use Rattle.command_perform.proofs.compile.compiled.Goals as goal

pub returns-in-Ok-texts-clause-made : goal.returns-in-Ok-texts-clause-made
returns-in-Ok-texts-clause-made g c =
    let built = c.in-Ok.ensures in
    let texts = c.in-Ok-texts.ensures in
    compiles c.args.options.derive c.args.options.spm (table_of c.args.options.costs) c.args.source.now c.in-Ok.built.image c.in-Ok.built.report c.in-Ok-texts.texts texts.image texts.report texts.line built.ok built.cycles built.short

pub returns-in-Err-clause-made : goal.returns-in-Err-clause-made
returns-in-Err-clause-made g c = refuses_compile c.args.options.derive c.args.source.now c.in-Err.refusal c.status_of.result c.status_of.ensures c.in-Err.ensures.err
