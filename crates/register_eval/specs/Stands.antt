-- How far a run over places is, as its parts say.
use Rattle.std.specs.Prelude.{ℕ, Bool, if◌then◌else◌, List, Option, Some, None, map, reverse, slice_get}
use Rattle.low_eval.specs.declared.running.Progress.{Progress}
use Rattle.low_eval.specs.declared.running.Progress.TheVariants.{Going as GoesOn, Done as EndsWith, Bad as IsBad}
use Rattle.low_eval.specs.Direct.{direct}
use Rattle.low_ir.specs.declared.places.Place.{Place}
use Rattle.low_ir.specs.Code.{Plain, Instr, Do, Call}
use Rattle.low_ir.specs.Effects.{dest}
use Rattle.low_ir.specs.Places.{File, Placed, Placing, place_end, place_in, places}
use Rattle.low_ir.specs.Runs.{Frame, Waiting, Running, Run, Going, Done, Bad, call, finish, leaving, values}
use Rattle.low_ir.specs.View.{end_of, instr_of}
use Rattle.register_eval.specs.declared.running.Running.{Running as Running'}
use Rattle.register_eval.specs.declared.stack.Frame.{Frame as Frame'}
use Rattle.register_eval.specs.declared.stack.Rest.{Rest}
use Rattle.register_eval.specs.declared.stack.Waiting.{Waiting as Waiting'}
use Rattle.register_eval.specs.declared.stack.Stack.{Stack as Stack'}
use Rattle.register_eval.specs.Laid.{laid_code}
use Rattle.register_eval.specs.Tables.{table_of}

abbrev pub Stands : Type 0
Stands = Running Place (List ℕ) File

-- what is left of a block, over the places of a table
abbrev pub rest_of : Placing → Rest → List (Instr Place (List ℕ))
rest_of table rest = laid_code (place_in table) rest.masks.now (map instr_of rest.code.now)

abbrev pub frame_of : Frame' → Frame Place (List ℕ) File
frame_of f = record { func = f.function; code = rest_of (table_of f.table) f.rest; end = place_end (place_in (table_of f.table)) (end_of f.end); store = f.file }

abbrev pub waiting_of : Waiting' → Waiting Place (List ℕ) File
waiting_of w = record { frame = frame_of w.frame; into = w.into }

-- the activation that was called last stands at the end
abbrev pub stack_of : Stack' → List (Waiting Place (List ℕ) File)
stack_of s = reverse (map waiting_of s.waiting.items)

abbrev pub running_of : Running' → Stands
running_of r = record { top = frame_of r.top; below = stack_of r.below; world = r.world }

-- a run with these parts
abbrev pub run_of : Progress → Stands → Run Place (List ℕ) File
run_of GoesOn r = Going r
run_of (EndsWith v) r = Done v r.world
run_of IsBad r = Bad

-- a run that goes on with these parts, or is no good run
abbrev pub going_if : Bool → Stands → Run Place (List ℕ) File
going_if goes r = if goes then Going r else Bad

abbrev pub going : Option Stands → Run Place (List ℕ) File
going None = Bad
going (Some r) = Going r

-- a step by an instruction, from its operands
abbrev pub plain_run : Placed → Stands → Plain Place → List (Instr Place (List ℕ)) → Run Place (List ℕ) File
plain_run p r i is = finish places (leaving places i r) is (dest i) (direct places p.claims r.top.store r.world i)

abbrev pub instr_run : Placed → Stands → Instr Place (List ℕ) → List (Instr Place (List ℕ)) → Run Place (List ℕ) File
instr_run p r (Do i) is = plain_run p r i is
instr_run p r (Call d f args note) is = call places r is d f note (slice_get p.functions f) (values places r.top.store args)
