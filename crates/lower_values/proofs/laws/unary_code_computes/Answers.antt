use Rattle.std.proofs.Common.{arith}
use Rattle.lower_values.proofs.Operators.{unary_puts}
use Rattle.lower_values.proofs.Writing.{has_word}
use Rattle.lower_values.proofs.laws.unary_code_computes.Goals as goal

pub returns : goal.returns
returns c = λ claims u s operator d t x a low room small has. unary_puts claims u s t d (omega (arith, low, room)) operator x a low room (has_word s x a small has)
