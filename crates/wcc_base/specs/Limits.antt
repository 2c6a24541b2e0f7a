-- The largest inputs that the compiler takes.
use Rattle.std.specs.Prelude.{ℕ, ◌-◌, ◌^◌}
use Rattle.wcc_base.specs.declared.limits.Bound.{Bound}
use Rattle.wcc_base.specs.declared.limits.Bound.TheVariants.{Source, Table, Image, Report, Input, Tasks, Depth, Nodes, Functions, Parameters, Markers, Restrictions, Globals, Locals, Most}

-- the greatest number that passes
abbrev pub greatest_of : Bound → ℕ
greatest_of Source = 1_048_576
greatest_of Table = 65_536
greatest_of Image = 16_777_216
greatest_of Report = 536_870_912
greatest_of Input = 16_777_216
greatest_of Tasks = 65_536
greatest_of Depth = 256
greatest_of Nodes = 16_384
greatest_of Functions = 256
greatest_of Parameters = 8
greatest_of Markers = 4_096
greatest_of Restrictions = 32
greatest_of Globals = 262_144
greatest_of Locals = 262_144
greatest_of Most = 2 ^ 40 - 1
