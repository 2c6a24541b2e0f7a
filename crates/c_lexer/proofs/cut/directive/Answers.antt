use Rattle.std.proofs.Common.{refl, arith}
use Rattle.c_lexer.proofs.Longest.{line_from, longest_directive}
use Rattle.c_lexer.proofs.cut.directive.Goals as goal

pub returns : goal.returns
returns c =
    let run = c.line_end-end.ensures in
    record {
      longest = longest_directive _ _ _ _ (omega (arith, run.after)) run.within
          (record { begins_line = refl; hash = c.requires.first; line = line_from _ _ _ c.requires.first run.line; whole = run.whole });
      kind = rw c.behind_blanks.ensures.behind at c.line_kind.ensures;
      line = refl;
    }
