-- How far a run over virtual registers is, as its parts say.
use Rattle.std.specs.Prelude.{ℕ, Bool, if◌then◌else◌, List, Option, Some, None, Vec, slice_get}
use Rattle.std.specs.Global.{Global}
use Rattle.low_ir.specs.declared.run.Value.{Value}
use Rattle.low_ir.specs.Code.{Plain, Instr, Do, Call, Low, Note}
use Rattle.low_ir.specs.Effects.{World, Did, dest}
use Rattle.low_ir.specs.Runs.{Running, Run, Going, Done, Bad, Bank, virtual, values, finish, call}
use Rattle.low_eval.specs.declared.running.Progress.{Progress}
use Rattle.low_eval.specs.declared.running.Progress.TheVariants.{Going as GoesOn, Done as EndsWith, Bad as IsBad}
use Rattle.low_eval.specs.Direct.{direct}

-- a run with these parts
abbrev pub run_of : Progress → Running ℕ Note Bank → Run ℕ Note Bank
run_of GoesOn r = Going r
run_of (EndsWith v) r = Done v r.world
run_of IsBad r = Bad

-- a run that goes on with these parts, or is no good run
abbrev pub going_if : Bool → Running ℕ Note Bank → Run ℕ Note Bank
going_if goes r = if goes then Going r else Bad

abbrev pub going : Option (Running ℕ Note Bank) → Run ℕ Note Bank
going None = Bad
going (Some r) = Going r

-- a list that may be missing, as its elements
abbrev pub items_of : {A : Type 0} → Option (Vec A Global) → Option (List A)
items_of None = None
items_of (Some v) = Some v.items

-- a value that an instruction gives in this world
abbrev pub did : World → Option Value → Option Did
did u None = None
did u (Some x) = Some (record { world = u; value = x })

-- a step by an instruction, from its operands
abbrev pub plain_run : Low → Running ℕ Note Bank → Plain ℕ → List (Instr ℕ Note) → Run ℕ Note Bank
plain_run p r i is = finish virtual r is (dest i) (direct virtual p.claims r.top.store r.world i)

abbrev pub instr_run : Low → Running ℕ Note Bank → Instr ℕ Note → List (Instr ℕ Note) → Run ℕ Note Bank
instr_run p r (Do i) is = plain_run p r i is
instr_run p r (Call d f args note) is = call virtual r is d f note (slice_get p.functions f) (values virtual r.top.store args)
