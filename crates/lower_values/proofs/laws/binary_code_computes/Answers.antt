use Rattle.std.proofs.Common.{arith}
use Rattle.lower_values.proofs.Operators.{binary_puts}
use Rattle.lower_values.proofs.laws.binary_code_computes.Goals as goal

pub returns : goal.returns
returns c = λ claims u s shifts operator d t x y a b low room ha hb below hx hy. binary_puts claims u s t d (omega (arith, low, room)) shifts operator x y a b low room ha hb below hx hy
