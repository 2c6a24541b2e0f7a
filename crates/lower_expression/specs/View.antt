-- The pieces of the code, without where they lie in memory.
use Rattle.std.specs.Prelude.{ℕ, suc, List, map, None}
use Rattle.low_ir.specs.declared.instruction.Operand.{Operand as Operand'}
use Rattle.low_ir.specs.Code.{Fixed, Register, Point, Do}
use Rattle.low_ir.specs.View.{instr_of, operand_of}
use Rattle.lower_definition.specs.Operators.{Code, only}
use Rattle.lower_definition.specs.Values as values
use Rattle.lower_coder.specs.declared.coder.Coder.{Coder}
use Rattle.lower_expression.specs.declared.addressing.Index.{Index}
use Rattle.lower_expression.specs.declared.addressing.Offset.{Offset}
use Rattle.lower_expression.specs.declared.addressing.Side.{Side}
use Rattle.lower_expression.specs.declared.addressing.Side.TheVariants.{Left, Right, Whole}
use Rattle.lower_expression.specs.declared.scope.Scope.{Scope}
use Rattle.lower_expression.specs.declared.sharing.Share.{Share}
use Rattle.lower_expression.specs.declared.testing.Comparison.{Comparison}

abbrev pub scope_of : Scope → values.Scope
scope_of s = record { variables = s.variables; claims = s.claims.now; objects = s.objects; order = s.order.now; shifts = s.shifts }

abbrev pub share_of : Share → values.Share
share_of s = record { variable = s.variable; scale = s.scale; register = s.register }

abbrev pub shares_of : List Share → List values.Share
shares_of shares = map share_of shares

abbrev pub code_of : Coder → Code
code_of c = map instr_of c.code.items

-- instructions, and what they leave
abbrev pub valued_of : Coder → Operand' → values.Valued
valued_of c x = record { code = code_of c; value = operand_of x; free = c.free }

abbrev pub index_in : Coder → Index → values.Index
index_in c i = record { part = valued_of c i.part; constant = i.constant }

abbrev pub offset_in : Coder → Offset → values.Offset
offset_in c o = record { code = code_of c; register = o.register; displacement = o.displacement; free = c.free }

abbrev pub tested_in : Coder → Comparison → values.Tested
tested_in c b = record { code = code_of c; condition = b.condition; left = operand_of b.left; right = operand_of b.right; free = c.free }

abbrev pub passing_in : Coder → List Operand' → values.Passing
passing_in c arguments = record { code = code_of c; arguments = map operand_of arguments; free = c.free }

-- which side of a sum or a difference is a constant
abbrev pub split_by : Side → (of_left of_right : values.Valued) → values.Index → values.Index
split_by (Right w) of_left of_right whole = record { part = of_left; constant = w }
split_by (Left w) of_left of_right whole = record { part = of_right; constant = w }
split_by Whole of_left of_right whole = whole

-- a pointer to an array in the next register
abbrev pub pointed : (object free : ℕ) → values.Valued
pointed o t = record { code = only (Do (Point t (record { base = Fixed o; offset = None; displacement = 0 }))); value = Register t; free = suc t }
