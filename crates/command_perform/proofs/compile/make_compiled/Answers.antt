use Rattle.rv_core.specs.Table.{table_of}
use Rattle.command_words.specs.Held.{compile_request}
use Rattle.command_perform.proofs.Building.{compile_builds}
use Rattle.command_perform.proofs.Charges.{compile_charged, compile_uncharged}
use Rattle.command_perform.proofs.compile.make_compiled.Goals as goal

pub returns-in-Ok-clause-made : goal.returns-in-Ok-clause-made
returns-in-Ok-clause-made g c = compile_charged (compile_request c.args.asked) c.args.contents.items c.in-Ok.source (table_of c.in-Ok.costs) c.compile_with.result c.in-Ok.ensures c.compile_with.ensures.made

pub returns-in-Err-clause-made : goal.returns-in-Err-clause-made
returns-in-Err-clause-made g c = compile_uncharged (compile_request c.args.asked) c.args.contents.items c.in-Err.status c.in-Err.ensures

pub returns-in-Ok-clause-built : goal.returns-in-Ok-clause-built
returns-in-Ok-clause-built g c = compile_builds g.C.Compiler.builds (compile_request c.args.asked) c.args.contents.items c.in-Ok.source (table_of c.in-Ok.costs) c.compile_with.result c.in-Ok.ensures c.compile_with.ensures.built
