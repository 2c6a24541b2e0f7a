-- What a statement of the high form does.
use Rattle.std.specs.Prelude.{ℕ, zero, suc, ◌-◌, ◌%◌, ◌^◌, Bool, true, false, ◌&&◌, nat_lt, List, [], ◌∷◌, ◌++◌, length, Option, Some, None, slice_get, slice_index_or, slice_set}
use Rattle.high_ir.specs.declared.object.Kind.{Kind}
use Rattle.high_ir.specs.declared.object.Storage.{Storage}
use Rattle.high_ir.specs.declared.object.Storage.TheVariants.{Constant as Fixed, Global, Local}
use Rattle.high_ir.specs.declared.object.Base.{Base}
use Rattle.high_ir.specs.declared.object.Base.TheVariants.{Object, Parameter}
use Rattle.high_ir.specs.declared.object.Array.{Array}
use Rattle.high_ir.specs.Tree.{Expr, Constant, Variable, Element, Unary, Binary, Statement, Set, Put, Get, Keep, Mark, Seq, If, Loop, Block, Leave, Call, Return, Statements, End, Then}
use Rattle.high_ir.specs.Words.{converted, unary_word, binary_word, same_kind}

-- an array as a run goes on; an element that was not written yet has no value
pub record Contents : Type 0 where
  pub kind : Kind
  pub storage : Storage
  pub elements : List (Option ℕ)

-- what the functions share: the arrays, the input that is left, the output
pub record World : Type 0 where
  pub objects : List Contents
  pub input : List ℕ
  pub output : List ℕ

-- the variables of a frame; one that was not written yet has no value
abbrev pub Variables : Type 0
Variables = List (Option ℕ)

-- a frame's variables, the world, and the marks that were passed
pub record State : Type 0 where
  pub variables : Variables
  pub world : World
  pub trace : List ℕ

-- how a statement ends: it goes on, leaves so many blocks and one more, returns, or is no good run
pub data Outcome : Type 0 where
  Goes : (st : State) → Outcome
  Leaves : (depth : ℕ) (st : State) → Outcome
  Returns : (value : ℕ) (world : World) (trace : List ℕ) → Outcome
  Bad : Outcome

-- what a call gives
pub record Given : Type 0 where
  pub value : ℕ
  pub world : World
  pub trace : List ℕ

-- what a call of a function does with these values and arrays, or none where that is no good run
abbrev pub Calls : Type 0
Calls = ℕ → List ℕ → List ℕ → World → List ℕ → Option Given

-- what the trace notes at a mark; no good run passes a mark without a label
abbrev pub Labels : Type 0
Labels = ℕ → Option ℕ

abbrev pub at_value : {A B : Type 0} → Option A → (A → Option B) → Option B
at_value None f = None
at_value (Some x) f = f x

abbrev pub only_if : {A : Type 0} → Bool → Option A → Option A
only_if false o = None
only_if true o = o

-- the number of the object that is meant, where the caller passed these
abbrev pub object_number : List ℕ → Base → Option ℕ
object_number passed (Object n) = Some n
object_number passed (Parameter n) = slice_get passed n

-- the array that an access means, where it has the kind that the access says
abbrev pub array_of : List ℕ → World → Array → Option Contents
array_of passed w array = at_value (object_number passed array.base) (λ n. at_value (slice_get w.objects n) (λ c. only_if (same_kind c.kind array.kind) (Some c)))

-- no good run reads outside an array, or what was not written
abbrev pub element : Contents → ℕ → Option ℕ
element c i = slice_index_or c.elements i None

module _ (passed : List ℕ) (vars : Variables) (w : World) where
  abbrev pub value_of : Expr → Option ℕ
  value_of (Constant word) = Some word
  value_of (Variable x) = slice_index_or vars x None
  value_of (Element array index) = at_value (value_of index) (λ i. at_value (array_of passed w array) (λ c. element c i))
  value_of (Unary operator operand) = at_value (value_of operand) (λ v. Some (unary_word operator v))
  value_of (Binary operator left right) = at_value (value_of left) (λ u. at_value (value_of right) (λ v. Some (binary_word operator u v)))

  abbrev pub values_of : List Expr → Option (List ℕ)
  values_of [] = Some []
  values_of (e ∷ es) = at_value (value_of e) (λ v. at_value (values_of es) (λ vs. Some (v ∷ vs)))

abbrev pub objects_of : List ℕ → List Base → Option (List ℕ)
objects_of passed [] = Some []
objects_of passed (b ∷ bs) = at_value (object_number passed b) (λ n. at_value (objects_of passed bs) (λ ns. Some (n ∷ ns)))

-- goes on with a value, where there is one
abbrev pub with_value : {A : Type 0} → Option A → (A → Outcome) → Outcome
with_value None go = Bad
with_value (Some v) go = go v

-- the first where the word is not 0, and else the second
abbrev pub choose : ℕ → Outcome → Outcome → Outcome
choose zero first other = other
choose (suc n) first other = first

-- a write to a variable, or none where the frame has no such variable
abbrev pub written : Variables → ℕ → ℕ → Option Variables
written vars x v = only_if (nat_lt x (length vars)) (Some (slice_set vars x (Some v)))

abbrev pub put : World → ℕ → World
put w v = record { objects = w.objects; input = w.input; output = w.output ++ v % 256 ∷ [] }

-- the next byte of the input, or -1
abbrev pub next_byte : List ℕ → ℕ
next_byte [] = 2 ^ 32 - 1
next_byte (c ∷ rest) = c

abbrev pub after_byte : List ℕ → List ℕ
after_byte [] = []
after_byte (c ∷ rest) = rest

abbrev pub got : World → World
got w = record { objects = w.objects; input = after_byte w.input; output = w.output }

-- only constants are not stored to
abbrev pub can_store : Storage → Bool
can_store Fixed = false
can_store Global = true
can_store Local = true

-- the world with an array changed
abbrev pub with_array : World → ℕ → Contents → World
with_array w n c = record { objects = slice_set w.objects n c; input = w.input; output = w.output }

-- an array with an element stored, or none where the index is outside it or it is a constant
abbrev pub stored : Contents → ℕ → ℕ → Option Contents
stored c i v = only_if (can_store c.storage && nat_lt i (length c.elements)) (Some (record { kind = c.kind; storage = c.storage; elements = slice_set c.elements i (Some (converted c.kind v)) }))

-- a store into an array
abbrev pub keep : List ℕ → World → Array → ℕ → ℕ → Option World
keep passed w array i v = at_value (object_number passed array.base) (λ n. at_value (array_of passed w array) (λ c. at_value (stored c i v) (λ d. Some (with_array w n d))))

-- the state with other variables, or with another world
abbrev pub set_variables : State → Variables → Outcome
set_variables st vars = Goes (record { variables = vars; world = st.world; trace = st.trace })

abbrev pub set_world : State → World → Outcome
set_world st w = Goes (record { variables = st.variables; world = w; trace = st.trace })

-- at a mark its label joins the trace
abbrev pub pass : Option ℕ → State → Outcome
pass None st = Bad
pass (Some label) st = Goes (record { variables = st.variables; world = st.world; trace = st.trace ++ label ∷ [] })

-- goes on from where a statement ended
abbrev pub then_do : Outcome → (State → Outcome) → Outcome
then_do (Goes st) next = next st
then_do (Leaves d st) next = Leaves d st
then_do (Returns v w t) next = Returns v w t
then_do Bad next = Bad

-- the end of a block
abbrev pub out_of_block : Outcome → Outcome
out_of_block (Goes st) = Goes st
out_of_block (Leaves zero st) = Goes st
out_of_block (Leaves (suc d) st) = Leaves d st
out_of_block (Returns v w t) = Returns v w t
out_of_block Bad = Bad

-- an exit of a loop, where no start of its body is owed any more
abbrev pub if_met : ℕ → Outcome → Outcome
if_met zero o = o
if_met (suc n) o = Bad

-- what follows one start of a loop's body, where so many starts are still owed after it
abbrev pub again : ℕ → (State → Outcome) → Outcome → Outcome
again owed next (Goes st) = next st
again owed next (Leaves d st) = if_met owed (Leaves d st)
again owed next (Returns v w t) = if_met owed (Returns v w t)
again owed next Bad = Bad

-- a loop that may start its body so many times more, and owes so many starts
abbrev pub turns : ℕ → ℕ → (State → Outcome) → State → Outcome
turns zero owed body st = Bad
turns (suc left) owed body st = again (owed - 1) (turns left (owed - 1) body) (body st)

-- what a call gave is written, where the call asks for it
abbrev pub taken : Variables → Option ℕ → ℕ → Option Variables
taken vars None v = Some vars
taken vars (Some x) v = written vars x v

abbrev pub after_call : Variables → Option ℕ → Option Given → Outcome
after_call vars into None = Bad
after_call vars into (Some g) = with_value (taken vars into g.value) (λ vs. Goes (record { variables = vs; world = g.world; trace = g.trace }))

-- what a statement does in a frame whose caller passed these arrays
module _ (label : Labels) (call : Calls) (passed : List ℕ) where
  abbrev mutual
    pub run : Statement → State → Outcome
    run (Set x e) st = with_value (value_of passed st.variables st.world e) (λ v. with_value (written st.variables x v) (set_variables st))
    run (Put e) st = with_value (value_of passed st.variables st.world e) (λ v. set_world st (put st.world v))
    run (Get x) st = with_value (written st.variables x (next_byte st.world.input)) (λ vs. Goes (record { variables = vs; world = got st.world; trace = st.trace }))
    run (Keep array i e) st = with_value (value_of passed st.variables st.world i) (λ n. with_value (value_of passed st.variables st.world e) (λ v. with_value (keep passed st.world array n v) (set_world st)))
    run (Mark m) st = pass (label m) st
    run (Seq parts) st = run_all parts st
    run (If test first other) st = with_value (value_of passed st.variables st.world test) (λ v. choose v (run first st) (run other st))
    run (Loop id least most body) st = turns most least (run body) st
    run (Block body) st = out_of_block (run body st)
    run (Leave d) st = Leaves d st
    run (Call f values arrays into) st = with_value (values_of passed st.variables st.world values) (λ vs. with_value (objects_of passed arrays) (λ ns. after_call st.variables into (call f vs ns st.world st.trace)))
    run (Return e) st = with_value (value_of passed st.variables st.world e) (λ v. Returns v st.world st.trace)

    pub run_all : Statements → State → Outcome
    run_all End st = Goes st
    run_all (Then first rest) st = then_do (run first st) (run_all rest)
