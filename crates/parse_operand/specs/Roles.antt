-- Roles, as the machine has them.
use Rattle.c_tree.specs.Said.{Plain}
use Rattle.parse_operand.specs.declared.role.Role.{Role}
use Rattle.parse_operand.specs.declared.role.Role.TheVariants as roles
use Rattle.parse_grammar.specs.Machine as machine

-- a role, as the machine has it
abbrev pub role_view : Role → machine.Role
role_view (roles.Joins operator) = machine.Joins operator
role_view (roles.Assigns operator) = machine.Assigns operator
role_view (roles.Steps operator) = machine.Steps operator
role_view roles.Asks = machine.Asks
role_view roles.Separates = machine.Separates
role_view roles.OpensParen = machine.OpensParen
role_view roles.ClosesParen = machine.ClosesParen
role_view roles.OpensBracket = machine.OpensBracket
role_view roles.ClosesBracket = machine.ClosesBracket
role_view (roles.Other kind) = machine.Other (Plain kind)
