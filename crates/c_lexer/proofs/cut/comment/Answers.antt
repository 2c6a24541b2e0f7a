use Rattle.std.proofs.Common.{refl}
use Rattle.c_lexer.proofs.Longest.{longest_comment}
use Rattle.c_lexer.proofs.cut.comment.Goals as goal

pub returns : goal.returns
returns c = record { longest = longest_comment _ _ _ _ c.requires; kind = refl; line = refl }
