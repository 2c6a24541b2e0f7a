use Rattle.std.proofs.Common.{refl}
use Rattle.c_tree.specs.Bytes.{IsBlankByte}
use Rattle.c_lexer.proofs.Longest.{longest_blank, run_some}
use Rattle.c_lexer.proofs.cut.blank.Goals as goal

pub returns : goal.returns
returns c =
    let run = c.blanks_end-end.ensures in
    let some = run_some IsBlankByte _ _ _ c.requires.within c.requires.first run.after run.whole in
    record { longest = longest_blank _ _ _ _ some run.within run.blanks run.whole; kind = refl; line = c.fresh_behind_blanks.ensures }
