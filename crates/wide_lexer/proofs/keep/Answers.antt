use Rattle.wide_lexer.proofs.keep.Goals as goal

pub push-requires-clause-formed : goal.push-requires-clause-formed
push-requires-clause-formed c = c.requires.formed c.in-Token.kind c.in-Token.is
