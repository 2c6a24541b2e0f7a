use Rattle.facts_front.proofs.reading.read_source.Goals as goal

pub returns-in-Err-clause-err : goal.returns-in-Err-clause-err
returns-in-Err-clause-err c = c.in-Err.ensures.err c.args.derive

pub returns-in-Err-read_types-clause-err : goal.returns-in-Err-read_types-clause-err
returns-in-Err-read_types-clause-err c = c.in-Err-read_types.ensures.err c.args.derive c.args.source.now c.in-Ok.ensures.ok
