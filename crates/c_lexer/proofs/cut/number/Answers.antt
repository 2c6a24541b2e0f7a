use Rattle.std.proofs.Common.{refl}
use Rattle.c_lexer.proofs.Longest.{number_longest}
use Rattle.c_lexer.proofs.cut.number.Goals as goal

pub returns : goal.returns
returns c =
    let run = c.number_end-end.ensures in
    record { longest = number_longest _ _ _ _ run.after run.within c.requires.first run.goes_on run.whole; kind = c.number_kind.ensures; line = refl }
