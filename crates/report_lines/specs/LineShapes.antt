-- What the words behind the first one have to be, for each kind of line that has a fixed number of them.
use Rattle.std.specs.Prelude.{ℕ, ◌==◌, List, [], ◌∷◌, ◌++◌, Bool, true, false}
use Rattle.report_words.specs.Words.{Word}
use Rattle.report_words.specs.declared.shapes.Shape.{Shape}
use Rattle.report_words.specs.declared.shapes.Shape.TheVariants.{Number, Amount, Signed, Address, Label, Letters}

-- a number below 2^32
abbrev pub small : Shape
small = Number 0 4294967295

abbrev pub cycles_shapes : List Shape
cycles_shapes = Number 0 9223372036854775807 ∷ []

abbrev pub exit_shapes : List Shape
exit_shapes = Address ∷ []

abbrev pub never_shapes : List Shape
never_shapes = small ∷ small ∷ Address ∷ Signed ∷ []

abbrev pub region_shapes : List Shape
region_shapes = Address ∷ Address ∷ Letters ∷ []

-- of a loop: the loop of the source, the factor and the bounds; the header, the back jump and the multipliers

abbrev pub bound_shapes : List Shape
bound_shapes = small ∷ small ∷ small ∷ small ∷ []

abbrev pub turn_shapes : List Shape
turn_shapes = Address ∷ Address ∷ Signed ∷ Signed ∷ []

abbrev pub loop_shapes : List Shape
loop_shapes = bound_shapes ++ turn_shapes

abbrev pub scale_shapes : List Shape
scale_shapes = Number 1 281474976710656 ∷ []

abbrev pub potential_shapes : List Shape
potential_shapes = Address ∷ Signed ∷ []

-- the unit is 0 but where the kind is greatest
abbrev pub unit_shapes : Bool → List Shape
unit_shapes true = Number 1 281474976710656 ∷ []
unit_shapes false = Number 0 0 ∷ []

abbrev pub flow_shapes : List Shape
flow_shapes = Address ∷ Number 0 255 ∷ Amount 1 ∷ []

abbrev pub share_shapes : List Shape
share_shapes = Label ∷ Address ∷ Address ∷ Amount 0 ∷ []

-- the word begins with the byte
abbrev pub starts : ℕ → Word → Bool
starts b [] = false
starts b (x ∷ xs) = x == b
