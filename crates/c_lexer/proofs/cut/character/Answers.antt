use Rattle.std.proofs.Common.{refl, arith}
use Rattle.c_lexer.proofs.Longest.{longest_character}
use Rattle.c_lexer.proofs.cut.character.Goals as goal

pub returns-clause-found : goal.returns-clause-found
returns-clause-found c =
    let quoted = c.in-Some.ensures.found in
    record { longest = longest_character _ _ _ _ quoted.0 quoted.1 (omega arith); kind = c.character_kind.ensures; line = refl }
