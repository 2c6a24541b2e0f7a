-- Instructions that name only what is there.
use Rattle.std.proofs.Common.{◌≡◌, ℕ, zero, suc, ◌+◌, ◌<◌, ◌≤◌, List, [], ◌∷◌, ◌++◌, length, map, Option, Some, None, refl, sym, subst, arith}
use Rattle.std.specs.Prelude.{All, option_to_list}
use Rattle.std.specs.List.{range_with_len}
use Rattle.std.proofs.lemmas.List.Elements.{All-cons, All-nil}
use Rattle.low_ir.specs.Code.{Operand, Register, Constant, Base, Fixed, Through, Address, Set, Operate, Point, Load, Store, Put, Get, Instr, Do, Call, End, Jump, Branch, Return, Block, Low, Note}
use Rattle.low_ir.specs.Effects.{address_reads, base_reads, offset_reads}
use Rattle.low_ir.specs.Formed.{BlockCallsBelow, BlockNamesThere, CallsBelow, HasMarkBelow, IsThere, NamesThere, RegistersWithin, UsesRegisters, base_claims, base_objects, end_reads, registers_in}
use Rattle.lower_definition.specs.Operators.{Code}
use Rattle.lower_definition.specs.Programs.{turned, turned_end}
use Rattle.lower_nesting.specs.Blocks.{AllMarked, Marked}
use Rattle.lower_budget.specs.Names.{AddressOk, BaseOk, BlocksOk, CodeOk, EndOk, InstrOk, OperandOk, OperandsOk, RegisterOk}

pub all_one : {X : Type 0} (P : X → Type 0) (x : X) → P x → All P (x ∷ [])
all_one P x h = All-cons P x [] h (All-nil P)

module _ (q : Low) (size objects claims f : ℕ) (has_objects : objects ≤ length q.objects) (has_claims : claims ≤ length q.claims) where
  abbrev Reads : List (Operand ℕ) → Type 0
  Reads xs = All (λ r. r < size) (registers_in xs)

  none : Reads []
  none = All-nil (λ r. r < size)

  reads_cons : (x : Operand ℕ) (xs : List (Operand ℕ)) → OperandOk size objects claims f x → Reads xs → Reads (x ∷ xs)
  reads_cons (Register r) xs h k = All-cons (λ r. r < size) r (registers_in xs) h k
  reads_cons (Constant w) xs h k = k

  reads_append : (xs ys : List (Operand ℕ)) → Reads xs → Reads ys → Reads (xs ++ ys)
  reads_append [] ys h k = k
  reads_append (Register r ∷ xs) ys h k = All-cons (λ r. r < size) r (registers_in (xs ++ ys)) (h 0 0 (omega arith)) (reads_append xs ys (λ i d low. h (suc i) d (omega (arith, low))) k)
  reads_append (Constant w ∷ xs) ys h k = reads_append xs ys h k

  operands_read : (xs : List (Operand ℕ)) → OperandsOk size objects claims f xs → Reads xs
  operands_read [] h = none
  operands_read (x ∷ xs) h = reads_cons x xs h.0 (operands_read xs h.1)

  base_read : (b : Base ℕ) → BaseOk size objects claims f b → Reads (base_reads b)
  base_read (Fixed o) h = none
  base_read (Through r c) h = reads_cons (Register r) [] h.0 none

  offset_read : (o : Option ℕ) → RegisterOk size objects claims f o → Reads (offset_reads o)
  offset_read None h = none
  offset_read (Some r) h = reads_cons (Register r) [] h none

  address_read : (a : Address ℕ) → AddressOk size objects claims f a → Reads (address_reads a)
  address_read a h = reads_append (base_reads a.base) (offset_reads a.offset) (base_read a.base h.0) (offset_read a.offset h.1)

  register_written : (o : Option ℕ) → RegisterOk size objects claims f o → All (λ r. r < size) (option_to_list o)
  register_written None h = All-nil (λ r. r < size)
  register_written (Some r) h = all_one (λ r. r < size) r h

  registers : (i : Instr ℕ Note) → InstrOk size objects claims f i → RegistersWithin size i
  registers (Do (Set d x)) h = (reads_cons x [] h.1 none, register_written (Some d) h.0)
  registers (Do (Operate operator d x y)) h = (reads_cons x (y ∷ []) h.1.0 (reads_cons y [] h.1.1 none), register_written (Some d) h.0)
  registers (Do (Point d a)) h = (address_read a h.1, register_written (Some d) h.0)
  registers (Do (Load kind d a)) h = (address_read a h.1, register_written (Some d) h.0)
  registers (Do (Store kind a x)) h = (reads_cons x (address_reads a) h.1 (address_read a h.0), register_written None tt)
  registers (Do (Put x)) h = (reads_cons x [] h none, register_written None tt)
  registers (Do (Get d)) h = (none, register_written (Some d) h)
  registers (Call into g args note) h = (operands_read args h.1.0, register_written into h.0)

  base_there : (a : Address ℕ) (b : Base ℕ) → a.base ≡ b → BaseOk size objects claims f b → IsThere q a
  base_there a (Fixed o) e h =
      subst (λ (x : Base ℕ). All (λ o. o < length q.objects) (base_objects x) × All (λ c. c < length q.claims) (base_claims x)) (sym e)
      (all_one (λ o. o < length q.objects) o (omega (arith, h, has_objects)), All-nil (λ c. c < length q.claims))
  base_there a (Through r c) e h =
      let k = h.1 in
      subst (λ (x : Base ℕ). All (λ o. o < length q.objects) (base_objects x) × All (λ c. c < length q.claims) (base_claims x)) (sym e)
      (All-nil (λ o. o < length q.objects), all_one (λ c. c < length q.claims) c (omega (arith, k, has_claims)))

  address_there : (a : Address ℕ) → AddressOk size objects claims f a → All (IsThere q) (a ∷ [])
  address_there a h = all_one (IsThere q) a (base_there a a.base refl h.0)

  names : (i : Instr ℕ Note) → InstrOk size objects claims f i → NamesThere q i
  names (Do (Set d x)) h = All-nil (IsThere q)
  names (Do (Operate operator d x y)) h = All-nil (IsThere q)
  names (Do (Point d a)) h = address_there a h.1
  names (Do (Load kind d a)) h = address_there a h.1
  names (Do (Store kind a x)) h = address_there a h.0
  names (Do (Put x)) h = All-nil (IsThere q)
  names (Do (Get d)) h = All-nil (IsThere q)
  names (Call into g args note) h = All-nil (IsThere q)

  calls : (i : Instr ℕ Note) → InstrOk size objects claims f i → CallsBelow f i
  calls (Do i) h = All-nil (λ g. g < f)
  calls (Call into g args note) h = all_one (λ g. g < f) g h.1.1

  all_code : (P : Instr ℕ Note → Type 0) (is : Code) → ((i : Instr ℕ Note) → InstrOk size objects claims f i → P i) → CodeOk size objects claims f is → All P is
  all_code P [] go h = All-nil P
  all_code P (i ∷ is) go h = All-cons P i is (go i h.0) (all_code P is go h.1)

  end_read : (last : ℕ) (e : End ℕ) → EndOk size objects claims f e → All (λ r. r < size) (end_reads (turned_end last e))
  end_read last (Jump b) h = none
  end_read last (Branch c x y taken other) h = reads_cons x (y ∷ []) h.0 (reads_cons y [] h.1 none)
  end_read last (Return x) h = reads_cons x [] h none

  pub uses_registers : (last : ℕ) (bs : List (Block ℕ Note)) → BlocksOk size objects claims f bs → All (UsesRegisters size) (map (turned last) bs)
  uses_registers last [] h = All-nil (UsesRegisters size)
  uses_registers last (b ∷ bs) h = All-cons (UsesRegisters size) (turned last b) (map (turned last) bs) (all_code (RegistersWithin size) b.code registers h.0.0, end_read last b.end h.0.1) (uses_registers last bs h.1)

  pub names_there : (last : ℕ) (bs : List (Block ℕ Note)) → BlocksOk size objects claims f bs → All (BlockNamesThere q) (map (turned last) bs)
  names_there last [] h = All-nil (BlockNamesThere q)
  names_there last (b ∷ bs) h = All-cons (BlockNamesThere q) (turned last b) (map (turned last) bs) (all_code (NamesThere q) b.code names h.0.0) (names_there last bs h.1)

  pub calls_below : (last : ℕ) (bs : List (Block ℕ Note)) → BlocksOk size objects claims f bs → All (BlockCallsBelow f) (map (turned last) bs)
  calls_below last [] h = All-nil (BlockCallsBelow f)
  calls_below last (b ∷ bs) h = All-cons (BlockCallsBelow f) (turned last b) (map (turned last) bs) (all_code (CallsBelow f) b.code calls h.0.0) (calls_below last bs h.1)

-- marks
mark_below : (n last : ℕ) (b : Block ℕ Note) (o : Option ℕ) → b.mark ≡ o → Marked (λ m. m < n) o → HasMarkBelow n (turned last b)
mark_below n last b None e h = subst (λ (x : Option ℕ). All (λ m. m < n) (option_to_list x)) (sym e) (All-nil (λ m. m < n))
mark_below n last b (Some m) e h = subst (λ (x : Option ℕ). All (λ m. m < n) (option_to_list x)) (sym e) (all_one (λ m. m < n) m h)

pub marks_below : (n last : ℕ) (bs : List (Block ℕ Note)) → AllMarked (λ m. m < n) bs → All (HasMarkBelow n) (map (turned last) bs)
marks_below n last [] h = All-nil (HasMarkBelow n)
marks_below n last (b ∷ bs) h = All-cons (HasMarkBelow n) (turned last b) (map (turned last) bs) (mark_below n last b b.mark refl h.0) (marks_below n last bs h.1)

-- parameters
pub range_below : (a n size : ℕ) → a + n ≤ size → All (λ r. r < size) (range_with_len a n)
range_below a zero size h = All-nil (λ r. r < size)
range_below a (suc n) size h = All-cons (λ r. r < size) a (range_with_len (a + 1) n) (omega (arith, h)) (range_below (a + 1) n size (omega (arith, h)))
