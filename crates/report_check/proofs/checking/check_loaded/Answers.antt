use Rattle.report_check.proofs.checking.check_loaded.Goals as goal

pub returns-in-Err-clause-err : goal.returns-in-Err-clause-err
returns-in-Err-clause-err c = λ bytes l e. c.in-Err.ensures.err _ bytes l
