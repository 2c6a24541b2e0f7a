-- What single instructions do.
use Rattle.std.specs.Prelude.{ℕ, ◌+◌, ◌-◌, ◌/◌, ◌%◌, ◌^◌, ◌==◌, ◌&&◌, Bool, true, false, nat_lt, if◌then◌else◌, List, [], ◌∷◌, ◌++◌, length, map, take, replicate, Option, Some, None, slice_get, slice_index_or, slice_set}
use Rattle.rv_core.specs.Arithmetic.{alu_value}
use Rattle.low_ir.specs.declared.object.Kind.{Kind}
use Rattle.low_ir.specs.declared.object.Storage.{Storage}
use Rattle.low_ir.specs.declared.object.Storage.TheVariants.{Constant as Fixed', Global, Local}
use Rattle.low_ir.specs.declared.run.Began.{Began}
use Rattle.low_ir.specs.declared.run.Value.{Value}
use Rattle.low_ir.specs.declared.run.Value.TheVariants.{Word, Pointer}
use Rattle.low_ir.specs.Kinds.{converted, kind_bytes, same_kind}
use Rattle.low_ir.specs.Code.{Operand, Register, Base, Fixed, Through, Address, Plain, Set, Operate, Point, Load, Store, Put, Get, Object}

-- an array as a run goes on; an element that was not written yet has no value
pub record Contents : Type 0 where
  pub kind : Kind
  pub storage : Storage
  pub elements : List (Option ℕ)

-- what the functions share: the arrays, the input that is left, the output, and the blocks that began, the first one first
pub record World : Type 0 where
  pub objects : List Contents
  pub input : List ℕ
  pub output : List ℕ
  pub trace : List Began

-- an array at first: the given values with zeros behind them, and of a local array nothing
abbrev pub first_elements : Storage → Object → List (Option ℕ)
first_elements Fixed' o = take o.size (map (λ v. Some (converted o.kind v)) o.values ++ replicate o.size (Some 0))
first_elements Global o = take o.size (map (λ v. Some (converted o.kind v)) o.values ++ replicate o.size (Some 0))
first_elements Local o = replicate o.size None

abbrev pub contents : Object → Contents
contents o = record { kind = o.kind; storage = o.storage; elements = first_elements o.storage o }

-- the world at the start
abbrev pub start : List Object → List ℕ → World
start objects input = record { objects = map contents objects; input = input; output = []; trace = [] }

-- the operands that an instruction reads, in order
abbrev pub base_reads : {R : Type 0} → Base R → List (Operand R)
base_reads (Fixed o) = []
base_reads (Through r claim) = Register r ∷ []

abbrev pub offset_reads : {R : Type 0} → Option R → List (Operand R)
offset_reads None = []
offset_reads (Some r) = Register r ∷ []

abbrev pub address_reads : {R : Type 0} → Address R → List (Operand R)
address_reads a = base_reads a.base ++ offset_reads a.offset

abbrev pub reads : {R : Type 0} → Plain R → List (Operand R)
reads (Set d x) = x ∷ []
reads (Operate operator d x y) = x ∷ y ∷ []
reads (Point d a) = address_reads a
reads (Load kind d a) = address_reads a
reads (Store kind a x) = x ∷ address_reads a
reads (Put x) = x ∷ []
reads (Get d) = []

-- the register that it writes, if any
abbrev pub dest : {R : Type 0} → Plain R → Option R
dest (Set d x) = Some d
dest (Operate operator d x y) = Some d
dest (Point d a) = Some d
dest (Load kind d a) = Some d
dest (Store kind a x) = None
dest (Put x) = None
dest (Get d) = Some d

-- whether the environment performs it
abbrev pub is_served : {R : Type 0} → Plain R → Bool
is_served (Set d x) = false
is_served (Operate operator d x y) = false
is_served (Point d a) = false
is_served (Load kind d a) = false
is_served (Store kind a x) = false
is_served (Put x) = true
is_served (Get d) = true

-- what an instruction did: the world behind it, and the value that goes to its register, if it has one
pub record Did : Type 0 where
  pub world : World
  pub value : Value

abbrev pub gives : World → Value → Option Did
gives u x = Some (record { world = u; value = x })

-- changes the world alone
abbrev pub changes : World → Option Did
changes u = gives u (Word 0)

-- goes on with the values that were read, where there are so many
abbrev pub nothing_more : List Value → Option Did → Option Did
nothing_more [] did = did
nothing_more (x ∷ xs) did = None

abbrev pub with_next : List Value → (Value → List Value → Option Did) → Option Did
with_next [] go = None
with_next (x ∷ xs) go = go x xs

abbrev pub with_one : List Value → (Value → Option Did) → Option Did
with_one xs go = with_next xs (λ x rest. nothing_more rest (go x))

-- goes on with a word, with a pointer, with what is there
abbrev pub word : Value → (ℕ → Option Did) → Option Did
word (Word w) go = go w
word (Pointer o n) go = None

abbrev pub pointer : Value → (ℕ → ℕ → Option Did) → Option Did
pointer (Word w) go = None
pointer (Pointer o n) go = go o n

abbrev pub there : {A B : Type 0} → Option A → (A → Option B) → Option B
there None go = None
there (Some x) go = go x

abbrev pub only_if : {A : Type 0} → Bool → Option A → Option A
only_if false o = None
only_if true o = o

abbrev pub is_member : List ℕ → ℕ → Bool
is_member [] o = false
is_member (x ∷ xs) o = if x == o then true else is_member xs o

-- the base of an address; no good run goes through a pointer into an object that isn't one of the claim
abbrev pub from_base : {R : Type 0} → List (List ℕ) → Base R → List Value → (ℕ → ℕ → List Value → Option Did) → Option Did
from_base claims (Fixed o) xs go = go o 0 xs
from_base claims (Through r claim) xs go = with_next xs (λ x rest. pointer x (λ o n. only_if (is_member (slice_index_or claims claim []) o) (go o n rest)))

abbrev pub by_offset : {R : Type 0} → Option R → List Value → (ℕ → Option Did) → Option Did
by_offset None xs go = nothing_more xs (go 0)
by_offset (Some r) xs go = with_one xs (λ x. word x go)

-- the object of an address, and how many bytes behind its first
abbrev pub resolved : {R : Type 0} → List (List ℕ) → Address R → List Value → (ℕ → ℕ → Option Did) → Option Did
resolved claims a xs go = from_base claims a.base xs (λ o n rest. by_offset a.offset rest (λ w. go o ((n + w + a.displacement) % 2 ^ 32)))

-- an array that is accessed as the kind that it has, at an element
abbrev pub is_element : Kind → ℕ → Contents → Bool
is_element kind n c = same_kind c.kind kind && n % kind_bytes kind == 0

-- no good run reads outside an array, or what was not written
abbrev pub element : Kind → ℕ → Contents → Option ℕ
element kind n c = only_if (is_element kind n c) (slice_index_or c.elements (n / kind_bytes kind) None)

abbrev pub loaded : List Contents → Kind → ℕ → ℕ → Option ℕ
loaded objects kind o n = there (slice_get objects o) (element kind n)

-- only constants are not stored to
abbrev pub can_store : Storage → Bool
can_store Fixed' = false
can_store Global = true
can_store Local = true

abbrev pub takes : Kind → ℕ → Contents → Bool
takes kind n c = is_element kind n c && can_store c.storage && nat_lt (n / kind_bytes kind) (length c.elements)

abbrev pub with_element : Kind → ℕ → ℕ → Contents → Option Contents
with_element kind n w c = only_if (takes kind n c) (Some (record { kind = c.kind; storage = c.storage; elements = slice_set c.elements (n / kind_bytes kind) (Some (converted kind w)) }))

abbrev pub stored : List Contents → Kind → ℕ → ℕ → ℕ → Option (List Contents)
stored objects kind o n w = there (slice_get objects o) (λ c. there (with_element kind n w c) (λ d. Some (slice_set objects o d)))

abbrev pub with_objects : World → List Contents → World
with_objects u objects = record { objects = objects; input = u.input; output = u.output; trace = u.trace }

abbrev pub put : World → ℕ → World
put u w = record { objects = u.objects; input = u.input; output = u.output ++ w % 256 ∷ []; trace = u.trace }

-- the next byte of the input, or -1
abbrev pub next_byte : List ℕ → ℕ
next_byte [] = 2 ^ 32 - 1
next_byte (c ∷ rest) = c

abbrev pub after_byte : List ℕ → List ℕ
after_byte [] = []
after_byte (c ∷ rest) = rest

abbrev pub got : World → World
got u = record { objects = u.objects; input = after_byte u.input; output = u.output; trace = u.trace }

abbrev pub began : World → ℕ → ℕ → World
began u f b = record { objects = u.objects; input = u.input; output = u.output; trace = u.trace ++ record { function = f; block = b } ∷ [] }

-- what an instruction does, given the values of what it reads
abbrev pub effect : {R : Type 0} → List (List ℕ) → Plain R → List Value → World → Option Did
effect claims (Set d x) xs u = with_one xs (gives u)
effect claims (Operate operator d x y) xs u = with_next xs (λ p rest. with_one rest (λ q. word p (λ m. word q (λ n. gives u (Word (alu_value operator m n))))))
effect claims (Point d a) xs u = resolved claims a xs (λ o n. gives u (Pointer o n))
effect claims (Load kind d a) xs u = resolved claims a xs (λ o n. there (loaded u.objects kind o n) (λ w. gives u (Word w)))
effect claims (Store kind a x) xs u = with_next xs (λ p rest. word p (λ w. resolved claims a rest (λ o n. there (stored u.objects kind o n w) (λ objects. changes (with_objects u objects)))))
effect claims (Put x) xs u = with_one xs (λ p. word p (λ w. changes (put u w)))
effect claims (Get d) xs u = gives (got u) (Word (next_byte u.input))

abbrev pub effect_of : {R : Type 0} → List (List ℕ) → Plain R → Option (List Value) → World → Option Did
effect_of claims i os u = there os (λ xs. effect claims i xs u)
