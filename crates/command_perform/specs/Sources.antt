-- Why a source has no program with facts, as a status: what `compile` and `eval` refuse it with.
use Rattle.std.specs.Prelude.{◌≡◌, ℕ, Bool, List}
use Rattle.wcc_base.specs.declared.limits.Bound.TheVariants as bound
use Rattle.wcc_base.specs.declared.status.Status.{Status}
use Rattle.wcc_base.specs.declared.status.Status.TheVariants as status
use Rattle.c_lexer.specs.declared.LexFault.{LexFault}
use Rattle.c_lexer.specs.declared.LexFault.TheVariants as lexing
use Rattle.c_parser.specs.declared.fault.ParseFault.{ParseFault}
use Rattle.c_parser.specs.declared.fault.ParseFault.TheVariants as parsing
use Rattle.types_rules.specs.declared.fault.Rule.{Rule}
use Rattle.types_rules.specs.declared.fault.Rule.TheVariants as rules
use Rattle.types_rules.specs.declared.fault.TypeFault.{TypeFault}
use Rattle.types_rules.specs.declared.fault.TypeFault.TheVariants as typing
use Rattle.facts_definitions.specs.declared.facts.FlowFault.{FlowFault}
use Rattle.facts_definitions.specs.declared.facts.FlowFault.TheVariants as flows
use Rattle.types_calls.specs.declared.ranks.CallFault.{CallFault}
use Rattle.types_calls.specs.declared.ranks.CallFault.TheVariants as calling
use Rattle.facts_front.specs.declared.refusal.Refusal.{Refusal}
use Rattle.facts_front.specs.declared.refusal.Refusal.TheVariants.{TooLong, Lex, Parse, Types, Calls, Flow, Memory}
use Rattle.facts_front.specs.Fronts.{RefusesSource}

abbrev pub lex_status : LexFault → Status
lex_status (lexing.Bad at) = status.Refused 1 0 at
lex_status (lexing.Outside at) = status.Refused 2 0 at
lex_status lexing.Memory = status.Memory

-- a tree that is too deep passes the limit of 256 levels
abbrev pub parse_status : ParseFault → (at : ℕ) → Status
parse_status (parsing.Syntax token) at = status.Refused 3 0 at
parse_status (parsing.Deep token) at = status.Limit bound.Depth 257
parse_status parsing.Memory at = status.Memory

abbrev pub rule_number : Rule → ℕ
rule_number rules.Specifiers = 1
rule_number rules.Undeclared = 2
rule_number rules.Redeclared = 3
rule_number rules.Constant = 4
rule_number rules.Size = 5
rule_number rules.Array = 6
rule_number rules.Call = 7
rule_number rules.Void = 8
rule_number rules.Assigned = 9
rule_number rules.Label = 10
rule_number rules.Jump = 11
rule_number rules.Return = 12
rule_number rules.Main = 13
rule_number rules.Undefined = 14
rule_number rules.Initial = 15
rule_number rules.Parameter = 16

abbrev pub type_status : TypeFault → Status
type_status (typing.Limit which found) = status.Limit which found
type_status (typing.Rule rule at) = status.Refused 4 (rule_number rule) at
type_status typing.Memory = status.Memory

abbrev pub call_status : CallFault → (at : ℕ) → Status
call_status (calling.Recursion function) at = status.Refused 5 0 at
call_status calling.Memory at = status.Memory

abbrev pub flow_status : FlowFault → Status
flow_status (flows.BadPragma at) = status.Refused 6 0 at
flow_status (flows.UnknownName at) = status.Refused 7 0 at
flow_status (flows.NoBound at) = status.Refused 8 0 at
flow_status (flows.TooOften most) = status.Limit bound.Most most
flow_status flows.Memory = status.Memory

abbrev pub refusal_status : Refusal → Status
refusal_status TooLong = status.Limit bound.Source 1048577
refusal_status (Lex fault) = lex_status fault
refusal_status (Parse fault at) = parse_status fault at
refusal_status (Types fault) = type_status fault
refusal_status (Calls fault at) = call_status fault at
refusal_status (Flow fault) = flow_status fault
refusal_status Memory = status.Memory

-- the source has no program with facts, where bounds are derived or aren't, for this first cause
pub record RefusesProgram (derive : Bool) (source : List ℕ) (s : Status) : Type 0 where
  pub refusal : Refusal
  pub refused : RefusesSource derive source refusal
  pub status_is : s ≡ refusal_status refusal
