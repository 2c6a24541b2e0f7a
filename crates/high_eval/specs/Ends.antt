-- What the evaluator's answers say of a run.
use Rattle.std.specs.Prelude.{ℕ, suc, List, [], map, Option, Some, None, Vec, slice_index_or}
use Rattle.std.specs.Global.{Global}
use Rattle.high_ir.specs.declared.high.Function.{Function}
use Rattle.high_ir.specs.declared.object.Storage.{Storage}
use Rattle.high_ir.specs.declared.object.Storage.TheVariants.{Constant, Global as Shared, Local}
use Rattle.high_ir.specs.Meaning.{State, Outcome, Goes, Leaves, Returns, Bad, Calls, Given, World, run, run_all}
use Rattle.high_ir.specs.Runs.{calls, rank_or}
use Rattle.high_ir.specs.Tree.{Object, Program, Statement, Statements}
use Rattle.high_ir.specs.Words.{converted}
use Rattle.high_ir.specs.View.{function_of}
use Rattle.high_eval.specs.declared.state.End.{End}
use Rattle.high_eval.specs.declared.state.End.TheVariants.{Goes as GoesOn, Leaves as LeavesBlocks, Returns as ReturnsWord, Bad as IsBad}

-- an element of an array at first: one of the given values, or 0 behind them; in a local array nothing
abbrev pub first_word : Object → ℕ → ℕ
first_word o i = slice_index_or (map (converted o.kind) o.values) i 0

abbrev pub first_element : Storage → Object → ℕ → Option ℕ
first_element Constant o i = Some (first_word o i)
first_element Shared o i = Some (first_word o i)
first_element Local o i = None

-- how a statement ended, in this state
abbrev pub outcome_of : End → State → Outcome
outcome_of GoesOn st = Goes st
outcome_of (LeavesBlocks depth) st = Leaves depth st
outcome_of (ReturnsWord word) st = Returns word st.world st.trace
outcome_of IsBad st = Bad

-- what calls of the functions do that nest so deep
abbrev pub calls_of : List Function → ℕ → Calls
calls_of fs n = calls Some (map function_of fs) n

-- what a statement does where calls may nest so deep and these arrays were passed
abbrev pub run_with : List Function → ℕ → List ℕ → Statement → State → Outcome
run_with fs n passed s st = run Some (calls_of fs n) passed s st

abbrev pub run_all_with : List Function → ℕ → List ℕ → Statements → State → Outcome
run_all_with fs n passed ss st = run_all Some (calls_of fs n) passed ss st

-- what the call of the main function does
abbrev pub main_call : Program → World → List ℕ → Option Given
main_call p w t = calls Some p.functions (suc (rank_or p.functions p.main 0)) p.main [] [] w t

-- what a call gave, in this state
abbrev pub given_of : Option ℕ → State → Option Given
given_of None st = None
given_of (Some word) st = Some (record { value = word; world = st.world; trace = st.trace })

-- a list that may be missing, as its elements
abbrev pub items_of : {A : Type 0} → Option (Vec A Global) → Option (List A)
items_of None = None
items_of (Some v) = Some v.items
