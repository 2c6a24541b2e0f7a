use Rattle.try_sources.proofs.sources.read.Goals as goal

pub returns-in-Err-clause-err : goal.returns-in-Err-clause-err
returns-in-Err-clause-err c = c.fault_of-fault.ensures c.args.text.now c.in-Err.ensures.err
