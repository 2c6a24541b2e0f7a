-- Code behind other code.
use Rattle.std.specs.Prelude.{◌++◌}
use Rattle.lower_definition.specs.Operators.{Code}
use Rattle.lower_definition.specs.Values.{Coded, Valued, Index, Offset, Tested, Passing}

abbrev pub after : Code → Coded → Coded
after before c = record { code = before ++ c.code; free = c.free }

abbrev pub after_valued : Code → Valued → Valued
after_valued before v = record { code = before ++ v.code; value = v.value; free = v.free }

abbrev pub after_index : Code → Index → Index
after_index before i = record { part = after_valued before i.part; constant = i.constant }

abbrev pub after_offset : Code → Offset → Offset
after_offset before o = record { code = before ++ o.code; register = o.register; displacement = o.displacement; free = o.free }

abbrev pub after_tested : Code → Tested → Tested
after_tested before b = record { code = before ++ b.code; condition = b.condition; left = b.left; right = b.right; free = b.free }

-- what is passed behind what is passed before it
abbrev pub after_passing : Passing → Passing → Passing
after_passing p q = record { code = p.code ++ q.code; arguments = p.arguments ++ q.arguments; free = q.free }
