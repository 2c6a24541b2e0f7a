use Rattle.std.proofs.Common.{refl}
use Rattle.parse_begun.specs.View.{state_of}
use Rattle.parse_depth.proofs.Knowns.{nameless, known_next}
use Rattle.parse_words.specs.Lexemes.{word_said}
use Rattle.c_parser.proofs.Giving.{deeper}
use Rattle.c_parser.proofs.read.advance.Goals as goal

pub is_shallow-requires : goal.is_shallow-requires
is_shallow-requires c = record { known = known_next nameless c.args.state c.in-Ok.next (word_said nameless c.args.word) c.requires (c.in-Ok.ensures nameless) }

pub returns-else-is_shallow-clause-err : goal.returns-else-is_shallow-clause-err
returns-else-is_shallow-clause-err c f = (refl, state_of f c.in-Ok.next, c.in-Ok.ensures f, deeper _ (c.if-is_shallow.ensures.deep f).1)
