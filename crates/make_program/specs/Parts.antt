-- Parts of a program, as the code has them.
use Rattle.std.specs.Prelude.{[], false, Option, Some, None}
use Rattle.plan_definition.specs.Layouts as layouts
use Rattle.make_program.specs.declared.givens.Given.{Given}
use Rattle.make_program.specs.declared.homes.Next.{Next}

abbrev pub next_of : Next → layouts.Next
next_of next = record { variable = next.variable; parameter = next.parameter; object = next.object }

abbrev pub given_of : Given → layouts.Given
given_of given = record { constant = given.constant; values = given.values.items }

-- an object without any isn't constant and has no values
abbrev pub given_or_none : Option Given → layouts.Given
given_or_none None = record { constant = false; values = [] }
given_or_none (Some given) = given_of given
