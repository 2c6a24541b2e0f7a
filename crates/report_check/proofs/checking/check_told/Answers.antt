use Rattle.report_check.proofs.checking.check_told.Goals as goal

pub returns-in-Err-clause-err : goal.returns-in-Err-clause-err
returns-in-Err-clause-err c = λ bytes text e read. c.in-Err.ensures.err _ bytes text e read
