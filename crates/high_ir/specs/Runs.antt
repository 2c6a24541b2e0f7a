-- The runs of a program in the high form.
use Rattle.std.specs.Prelude.{ℕ, zero, suc, ◌==◌, ◌&&◌, Bool, true, false, List, [], ◌++◌, length, map, take, replicate, Option, Some, None, slice_get, slice_index_or, count_by}
use Rattle.high_ir.specs.declared.object.Storage.{Storage}
use Rattle.high_ir.specs.declared.object.Storage.TheVariants.{Constant, Global, Local}
use Rattle.high_ir.specs.Tree.{Object, Function, Program}
use Rattle.high_ir.specs.Words.{converted}
use Rattle.high_ir.specs.Meaning.{Contents, World, Variables, Outcome, Goes, Leaves, Returns, Bad, Given, Calls, Labels, pass, then_do, run}

-- how a function's body ended: a good run ends by a return
abbrev pub given : Outcome → Option Given
given (Goes st) = None
given (Leaves d st) = None
given (Returns v w t) = Some (record { value = v; world = w; trace = t })
given Bad = None

-- the variables at a call: the values, and locals that are unwritten
abbrev pub frame : Function → List ℕ → Variables
frame f values = map Some values ++ replicate f.locals None

-- no good run calls a function with another number of values or arrays
abbrev pub takes : Function → List ℕ → List ℕ → Bool
takes f values arrays = (length values == f.values) && (length arrays == f.arrays)

abbrev pub only_good : Bool → Outcome → Outcome
only_good false o = Bad
only_good true o = o

-- a call of a function passes its opening mark, and then its body
abbrev pub enter : Labels → Option Function → Calls → Calls
enter label None call f values arrays w trace = None
enter label (Some h) call f values arrays w trace = given (only_good (takes h values arrays) (then_do (pass (label f) (record { variables = frame h values; world = w; trace = trace })) (run label call arrays h.body)))

-- calls that are nested at most so deep
abbrev pub calls : Labels → List Function → ℕ → Calls
calls label fs zero f values arrays w trace = None
calls label fs (suc n) f values arrays w trace = enter label (slice_get fs f) (calls label fs n) f values arrays w trace

-- an array at first: the given values with zeros behind them, and of a local array nothing
abbrev pub first_elements : Storage → Object → List (Option ℕ)
first_elements Constant o = take o.size (map (λ v. Some (converted o.kind v)) o.values ++ replicate o.size (Some 0))
first_elements Global o = take o.size (map (λ v. Some (converted o.kind v)) o.values ++ replicate o.size (Some 0))
first_elements Local o = replicate o.size None

abbrev pub contents : Object → Contents
contents o = record { kind = o.kind; storage = o.storage; elements = first_elements o.storage o }

-- the world at the start
abbrev pub start : List Object → List ℕ → World
start objects input = record { objects = map contents objects; input = input; output = [] }

-- the rank of a function, or the given number where there is no such function
abbrev pub rank_or : List Function → ℕ → ℕ → ℕ
rank_or fs f n = slice_index_or (map (λ h. h.rank) fs) f n

-- a good run: its value, its output and the marks that it passed
pub record Run : Type 0 where
  pub value : ℕ
  pub output : List ℕ
  pub trace : List ℕ

abbrev pub run_of : Option Given → Option Run
run_of None = None
run_of (Some g) = Some (record { value = g.value; output = g.world.output; trace = g.trace })

-- calls nest as deep as the rank of main allows
abbrev pub labelled_run : Labels → Program → List ℕ → Option Run
labelled_run label p input = run_of (calls label p.functions (suc (rank_or p.functions p.main 0)) p.main [] [] (start p.objects input) [])

-- the good run of a program on an input, or none where its run there is not good
abbrev pub hrun : Program → List ℕ → Option Run
hrun p input = labelled_run Some p input

-- how often a mark was passed
abbrev pub count_of : ℕ → List ℕ → ℕ
count_of m trace = count_by (λ x. x == m) trace
