-- Why a source has no typed program with facts, in the order of these equations.
use Rattle.std.specs.Prelude.{◌≡◌, ◌≢◌, ℕ, ◌<◌, Bool, List, length, Option, None, Some, slice_get}
use Rattle.c_tree.specs.declared.token.Token.{Token}
use Rattle.c_tree.specs.Said.{TokenList}
use Rattle.c_tree.specs.Spelling.{spoken}
use Rattle.c_tree.specs.Tree.{TranslationUnit}
use Rattle.c_lexer.specs.Cut.{HasTokens, StopsAt}
use Rattle.c_lexer.specs.declared.LexFault.TheVariants as lexing
use Rattle.c_parser.specs.Refused.{IsRefused, Stops}
use Rattle.c_parser.specs.declared.fault.ParseFault.{ParseFault}
use Rattle.c_parser.specs.declared.fault.ParseFault.TheVariants as parsing
use Rattle.types_tree.specs.Tree.{Program, Function, Defined}
use Rattle.types_rules.specs.Typed.{Refuses}
use Rattle.types_rules.specs.declared.fault.TypeFault.{TypeFault}
use Rattle.types_rules.specs.declared.fault.TypeFault.TheVariants as typing
use Rattle.types_calls.specs.Calls.{graph_of}
use Rattle.types_calls.specs.Chains.{AreRanks, IsCallFault}
use Rattle.facts_definitions.specs.FlowFacts.{flow_facts, IsFlowFault}
use Rattle.facts_definitions.specs.declared.facts.FlowFault.{FlowFault}
use Rattle.facts_definitions.specs.declared.facts.FlowFault.TheVariants as flowing
use Rattle.types_calls.specs.declared.ranks.CallFault.{CallFault}
use Rattle.types_calls.specs.declared.ranks.CallFault.TheVariants as calling
use Rattle.types_calls.specs.declared.ranks.Ranks.{Ranks}
use Rattle.facts_sources.specs.Sources.{HasProgram, HasUnit, derived_for}
use Rattle.facts_front.specs.declared.refusal.Refusal.{Refusal}
use Rattle.facts_front.specs.declared.refusal.Refusal.TheVariants.{TooLong, Lex, Parse, Types, Calls, Flow, Memory}

-- the place of a token, or the end where there is no such token
abbrev pub place_or : Option Token → (end : ℕ) → ℕ
place_or None end = end
place_or (Some token) end = token.at

abbrev pub fault_place : ParseFault → List Token → (end : ℕ) → ℕ
fault_place (parsing.Syntax token) tokens end = place_or (slice_get tokens token) end
fault_place (parsing.Deep token) tokens end = place_or (slice_get tokens token) end
fault_place parsing.Memory tokens end = end

-- the place of a function's name in its definition
abbrev pub name_place : Option Function → ℕ
name_place None = 0
name_place (Some (Defined specifiers name name_at params first body body_at at)) = name_at

abbrev pub cycle_place : CallFault → Program → ℕ
cycle_place (calling.Recursion function) program = name_place (slice_get program.functions function.0)
cycle_place calling.Memory program = 0

-- why the tokens are no spelling of such a tree, and the place of the first token at which they stop being one
pub record RefusesTokens (source : List ℕ) (fault : ParseFault) (at : ℕ) : Type 0 where
  pub tokens : TokenList
  pub of_source : tokens.source ≡ source
  pub has : HasTokens source tokens.list
  pub refused : IsRefused fault (spoken tokens)
  pub stops : Stops fault (spoken tokens)
  pub at_is : at ≡ fault_place fault tokens.list (length source)

pub record RefusesUnit (source : List ℕ) (fault : TypeFault) : Type 0 where
  pub names : List (List ℕ)
  pub unit : TranslationUnit ℕ
  pub has : HasUnit source names unit
  pub refused : Refuses fault names unit

pub record RefusesCalls (source : List ℕ) (fault : CallFault) (at : ℕ) : Type 0 where
  pub names : List (List ℕ)
  pub program : Program
  pub has : HasProgram source names program
  pub refused : IsCallFault fault (graph_of program)
  pub at_is : at ≡ cycle_place fault program

pub record RefusesFlow (derive : Bool) (source : List ℕ) (fault : FlowFault) : Type 0 where
  pub names : List (List ℕ)
  pub program : Program
  pub has : HasProgram source names program
  pub ranks : Ranks
  pub are_ranks : AreRanks (graph_of program) ranks.of_functions
  pub refused : IsFlowFault fault (flow_facts program names ranks (derived_for derive program))

-- why a source has no program with facts. Want of memory is no cause: it says nothing of a source
abbrev pub RefusesSource : (derive : Bool) → List ℕ → Refusal → Type 0
RefusesSource derive source TooLong = 1048576 < length source
RefusesSource derive source (Lex fault) = (fault ≢ lexing.Memory) × StopsAt fault source
RefusesSource derive source (Parse fault at) = (fault ≢ parsing.Memory) × RefusesTokens source fault at
RefusesSource derive source (Types fault) = (fault ≢ typing.Memory) × RefusesUnit source fault
RefusesSource derive source (Calls fault at) = (fault ≢ calling.Memory) × RefusesCalls source fault at
RefusesSource derive source (Flow fault) = (fault ≢ flowing.Memory) × RefusesFlow derive source fault
RefusesSource derive source Memory = ⊥

-- why a source was not read: it is refused, or memory ran out
abbrev pub Fails : (derive : Bool) → List ℕ → Refusal → Type 0
Fails derive source Memory = Unit {0}
Fails derive source refusal = RefusesSource derive source refusal
