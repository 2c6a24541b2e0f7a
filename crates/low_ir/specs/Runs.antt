-- Runs of programs in the low form, one instruction at a time, over any store of registers.
use Rattle.std.specs.Prelude.{ℕ, zero, suc, ◌%◌, ◌^◌, Bool, true, false, nat_lt, if◌then◌else◌, List, [], ◌∷◌, length, Option, Some, None, slice_get, slice_index_or, slice_set, replicate}
use Rattle.rv_core.specs.declared.row.Condition.{Condition}
use Rattle.rv_core.specs.Arithmetic.{holds}
use Rattle.low_ir.specs.Code.{Operand, Register, Constant, Plain, Instr, Do, Call, End, Jump, Branch, Return, Block, Function, Program, Note, Low}
use Rattle.low_ir.specs.declared.run.Value.{Value}
use Rattle.low_ir.specs.declared.run.Value.TheVariants.{Word, Pointer}
use Rattle.low_ir.specs.Effects.{World, Did, start, reads, dest, effect_of, began}

-- how registers of kind R are read and written in a store of kind S, what an instruction leaves of it before its own value comes
-- into it, what a call with a note of kind K leaves of it, and a new store of so many; there is no writing to a register that isn't there
pub record Registers (R K S : Type 0) : Type 0 where
  pub read : S → R → Option Value
  pub write : S → R → Value → Option S
  pub leave : Plain R → S → S
  pub keep : K → S → S
  pub empty : ℕ → S

-- one activation: its function, what is left of its block, and its store
pub record Frame (R K S : Type 0) : Type 0 where
  pub func : ℕ
  pub code : List (Instr R K)
  pub end : End R
  pub store : S

-- an activation that waits for a call, and the register that gets the value, if it is wanted
pub record Waiting (R K S : Type 0) : Type 0 where
  pub frame : Frame R K S
  pub into : Option R

-- a run that goes on: the activation on top, those that wait below it, the next one first, and the world
pub record Running (R K S : Type 0) : Type 0 where
  pub top : Frame R K S
  pub below : List (Waiting R K S)
  pub world : World

-- a run goes on, has ended with a value, or is no good run
pub data Run (R K S : Type 0) : Type 0 where
  Going : (r : Running R K S) → Run R K S
  Done : (value : ℕ) (world : World) → Run R K S
  Bad : Run R K S

-- the value of an operand
abbrev pub operand_value : {R K S : Type 0} → Registers R K S → S → Operand R → Option Value
operand_value a s (Register r) = a.read s r
operand_value a s (Constant w) = Some (Word (w % 2 ^ 32))

abbrev pub values_cons : Option Value → Option (List Value) → Option (List Value)
values_cons None os = None
values_cons (Some x) None = None
values_cons (Some x) (Some xs) = Some (x ∷ xs)

abbrev pub values : {R K S : Type 0} → Registers R K S → S → List (Operand R) → Option (List Value)
values a s [] = Some []
values a s (x ∷ xs) = values_cons (operand_value a s x) (values a s xs)

-- writes a value, where it is wanted
abbrev pub write_to : {R K S : Type 0} → Registers R K S → S → Option R → Value → Option S
write_to a s None x = Some s
write_to a s (Some d) x = a.write s d x

-- goes on with these instructions, this world and this store
abbrev pub goes_on : {R K S : Type 0} → Running R K S → List (Instr R K) → World → Option S → Run R K S
goes_on r is u None = Bad
goes_on r is u (Some s) = Going (record r { top = record r.top { code = is; store = s }; world = u })

abbrev pub finish : {R K S : Type 0} → Registers R K S → Running R K S → List (Instr R K) → Option R → Option Did → Run R K S
finish a r is d None = Bad
finish a r is d (Some e) = goes_on r is e.world (write_to a r.top.store d e.value)

-- a block begins
abbrev pub enter : {R K S : Type 0} → Running R K S → ℕ → Option (Block R K) → Run R K S
enter r b None = Bad
enter r b (Some block) = Going (record r { top = record r.top { code = block.code; end = block.end }; world = began r.world r.top.func b })

abbrev pub block_in : {R K : Type 0} → Option (Function R K) → ℕ → Option (Block R K)
block_in None b = None
block_in (Some fn) b = slice_get fn.blocks b

abbrev pub went_to : {R K S : Type 0} → Program R K → Running R K S → ℕ → Run R K S
went_to p r b = enter r b (block_in (slice_get p.functions r.top.func) b)

-- writes the arguments to the parameters, in order
abbrev pub write_all : {R K S : Type 0} → Registers R K S → Option S → List R → List Value → Option S
write_all a None rs xs = None
write_all a (Some s) [] [] = Some s
write_all a (Some s) [] (x ∷ xs) = None
write_all a (Some s) (r ∷ rs) [] = None
write_all a (Some s) (r ∷ rs) (x ∷ xs) = write_all a (a.write s r x) rs xs

-- the first block of a function begins with this store, above these activations
abbrev pub begin : {R K S : Type 0} → List (Waiting R K S) → World → ℕ → Function R K → Option S → Run R K S
begin below u f fn None = Bad
begin below u f fn (Some s) = enter (record { top = record { func = f; code = []; end = Jump 0; store = s }; below = below; world = u }) 0 (slice_get fn.blocks 0)

abbrev pub only_where : {R K S : Type 0} → Bool → Run R K S → Run R K S
only_where true r = r
only_where false r = Bad

abbrev pub waiting : {R K S : Type 0} → Registers R K S → Frame R K S → List (Instr R K) → Option R → K → Waiting R K S
waiting a frame is d note = record { frame = record frame { code = is; store = a.keep note frame.store }; into = d }

-- a call of a function with a lower number; the activation waits with what the call keeps
abbrev pub call : {R K S : Type 0} → Registers R K S → Running R K S → List (Instr R K) → Option R → ℕ → K → Option (Function R K) → Option (List Value) → Run R K S
call a r is d f note None xs = Bad
call a r is d f note (Some fn) None = Bad
call a r is d f note (Some fn) (Some xs) =
    only_where (nat_lt f r.top.func) (begin (waiting a r.top is d note ∷ r.below) r.world f fn (write_all a (Some (a.empty fn.size)) fn.parameters xs))

-- the activation on top with what an instruction leaves of its store
abbrev pub leaving : {R K S : Type 0} → Registers R K S → Plain R → Running R K S → Running R K S
leaving a i r = record r { top = record r.top { store = a.leave i r.top.store } }

abbrev pub at_instr : {R K S : Type 0} → Registers R K S → Program R K → Running R K S → Instr R K → List (Instr R K) → Run R K S
at_instr a p r (Do i) is = finish a (leaving a i r) is (dest i) (effect_of p.claims i (values a r.top.store (reads i)) r.world)
at_instr a p r (Call d f args note) is = call a r is d f note (slice_get p.functions f) (values a r.top.store args)

-- a value comes back to the activation that waits for it, or is that of the run
abbrev pub come_back : {R K S : Type 0} → Registers R K S → World → List (Waiting R K S) → ℕ → Run R K S
come_back a u [] v = Done v u
come_back a u (w ∷ ws) v = goes_on (record { top = w.frame; below = ws; world = u }) w.frame.code u (write_to a w.frame.store w.into (Word v))

abbrev pub give_back : {R K S : Type 0} → Registers R K S → Running R K S → Option Value → Run R K S
give_back a r None = Bad
give_back a r (Some (Pointer o n)) = Bad
give_back a r (Some (Word v)) = come_back a r.world r.below v

-- the block to which a branch goes
abbrev pub chosen : Condition → ℕ → ℕ → Option Value → Option Value → Option ℕ
chosen c taken other (Some (Word x)) (Some (Word y)) = Some (if holds c x y then taken else other)
chosen c taken other o1 o2 = None

abbrev pub branches : {R K S : Type 0} → Program R K → Running R K S → Option ℕ → Run R K S
branches p r None = Bad
branches p r (Some b) = went_to p r b

abbrev pub at_end : {R K S : Type 0} → Registers R K S → Program R K → Running R K S → End R → Run R K S
at_end a p r (Jump b) = went_to p r b
at_end a p r (Branch c x y taken other) = branches p r (chosen c taken other (operand_value a r.top.store x) (operand_value a r.top.store y))
at_end a p r (Return x) = give_back a r (operand_value a r.top.store x)

abbrev pub at_code : {R K S : Type 0} → Registers R K S → Program R K → Running R K S → List (Instr R K) → Run R K S
at_code a p r [] = at_end a p r r.top.end
at_code a p r (i ∷ is) = at_instr a p r i is

-- one step; a run that has ended stays as it is
abbrev pub step : {R K S : Type 0} → Registers R K S → Program R K → Run R K S → Run R K S
step a p (Going r) = at_code a p r r.top.code
step a p (Done v u) = Done v u
step a p Bad = Bad

abbrev pub run : {R K S : Type 0} → Registers R K S → Program R K → ℕ → Run R K S → Run R K S
run a p zero r = r
run a p (suc n) r = run a p n (step a p r)

abbrev pub first_in : {R K S : Type 0} → Registers R K S → World → ℕ → Option (Function R K) → Run R K S
first_in a u main None = Bad
first_in a u main (Some fn) = begin [] u main fn (write_all a (Some (a.empty fn.size)) fn.parameters [])

-- a run from the first block of main, on an input
abbrev pub first : {R K S : Type 0} → Registers R K S → Program R K → List ℕ → Run R K S
first a p input = first_in a (start p.objects input) p.main (slice_get p.functions p.main)

-- virtual registers: each activation has its own, none written at first; instructions and calls leave them all
abbrev pub Bank : Type 0
Bank = List (Option Value)

abbrev pub set_in : Bank → ℕ → Value → Bool → Option Bank
set_in s v x true = Some (slice_set s v (Some x))
set_in s v x false = None

abbrev pub virtual : Registers ℕ Note Bank
virtual = record {
  read = λ s v. slice_index_or s v None;
  write = λ s v x. set_in s v x (nat_lt v (length s));
  leave = λ i s. s;
  keep = λ note s. s;
  empty = λ n. replicate n None;
}

-- n steps of a program on an input
abbrev pub lrun : Low → List ℕ → ℕ → Run ℕ Note Bank
lrun p input n = run virtual p n (first virtual p input)
