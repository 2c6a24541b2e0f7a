-- A program with scalars in registers keeps to the low form.
use Rattle.std.proofs.Common.{◌≡◌, ◌<◌, ℕ, zero, suc, ◌+◌, Bool, true, false, List, [], ◌∷◌, length, Option, Some, None, refl, sym, ap, ◌∙◌, subst, arith}
use Rattle.std.specs.Prelude.{All, map, if◌then◌else◌, ◌==◌, slice_get, option_to_list}
use Rattle.std.proofs.lemmas.List.{length-map}
use Rattle.std.proofs.lemmas.List.Elements.{All-append, All-cons, All-head, All-nil, All-tail, All-weaker}
use Rattle.std.proofs.lemmas.Option.{slice_get_within}
use Rattle.rv_core.specs.declared.row.Alu.{Alu}
use Rattle.rv_core.specs.declared.row.Alu.TheVariants.{BitAnd, ShiftLeft, ShiftRight, ShiftRightSigned}
use Rattle.low_ir.specs.declared.object.Kind.{Kind}
use Rattle.low_ir.specs.declared.object.Kind.TheVariants.{Unsigned8, Signed8, Unsigned16, Signed16, Word}
use Rattle.low_ir.specs.Kinds.{converted}
use Rattle.low_ir.specs.Code.{Operand, Register, Constant, Base, Fixed, Through, Address, Plain, Set, Operate, Point, Load, Store, Put, Get, Instr, Do, Call, End, Jump, Branch, Return, Block, Loop, Function, Low, Note, Object}
use Rattle.low_ir.specs.Effects.{address_reads}
use Rattle.low_ir.specs.Formed.{CallsBelow, HasMarkBelow, IsFunction, IsLoop, IsLow, IsThere, LeadsTo, LeadsTo_as, NamesThere, RegistersWithin, UsesRegisters, end_reads, mark_of, only_jump, opening, read_by, registers_in, written_by}
use Rattle.low_ir.specs.Runs.{block_in}
use Rattle.low_ir.specs.Turns.{mark_in}
use Rattle.pass_constant_hoisting.specs.Holding.{opened}
use Rattle.pass_register_promotion_law.specs.Promoting.{Resident, closing, kept_by, load_by, loads, promoted_block, promoted_code, promoted_function, promoted_functions, promoted_instr, promoted_program, register_of, resident_at, residents_at, scalar_address, shifted, store_by, stores}
use Rattle.pass_register_promotion_law.specs.Suiting.{AllMayReside, AreScalars, Table}
use Rattle.pass_register_promotion_law.proofs.Tables.{block_none, block_promoted, function_none, function_promoted, of_function, promoted_at}

-- the marks are the same
pub block_mark : (hs : List Resident) (fn : Function ℕ Note) (b : ℕ) → mark_in (slice_get (promoted_function hs fn).blocks b) ≡ mark_in (slice_get fn.blocks b)
block_mark hs fn b = by_block (slice_get fn.blocks b) refl
  where
    by_block : (o : Option (Block ℕ Note)) → slice_get fn.blocks b ≡ o → mark_in (slice_get (promoted_function hs fn).blocks b) ≡ mark_in (slice_get fn.blocks b)
    by_block None n = ap mark_in (block_none hs fn b n) ∙ sym (ap mark_in n)
    by_block (Some bl) n = ap mark_in (block_promoted hs fn b bl n) ∙ sym (ap mark_in n)

pub mark_same : (hss : List (List Resident)) (q : Low) (f b : ℕ) → mark_of (promoted_program hss q) f b ≡ mark_of q f b
mark_same hss q f b = by_function (slice_get q.functions f) refl
  where
    by_function : (o : Option (Function ℕ Note)) → slice_get q.functions f ≡ o → mark_of (promoted_program hss q) f b ≡ mark_of q f b
    by_function None n = ap (λ o. mark_in (block_in o b)) (function_none hss q f n) ∙ sym (ap (λ o. mark_in (block_in o b)) n)
    by_function (Some fn) n = ap (λ o. mark_in (block_in o b)) (function_promoted hss q f fn n) ∙ block_mark (residents_at hss f) fn b ∙ sym (ap (λ o. mark_in (block_in o b)) n)

-- a fact on each block, or on each instruction
pub code_all : (n : ℕ) (hs : List Resident) (P Q : Instr ℕ Note → Type 0) → ((i : Instr ℕ Note) → P i → All Q (promoted_instr n hs i)) → (is : List (Instr ℕ Note)) → All P is → All Q (promoted_code n hs is)
code_all n hs P Q go [] h = All-nil Q
code_all n hs P Q go (i ∷ is) h = All-append Q (promoted_instr n hs i) (promoted_code n hs is) (go i (All-head P i is h)) (code_all n hs P Q go is (All-tail P i is h))

module _ (objects : List Object) (Q : Instr ℕ Note → Type 0) where
  pub loads_all : (r : ℕ) (hs : List Resident) → AreScalars objects hs → ((kind : Kind) (s o : ℕ) → s < r + length hs → o < length objects → Q (Do (Load kind s (scalar_address o)))) → All Q (loads r hs)
  loads_all r [] scalars go = All-nil Q
  loads_all r (h ∷ hs) scalars go =
      All-cons Q (Do (Load h.kind r (scalar_address h.object))) (loads (suc r) hs)
      (go h.kind r h.object (omega arith) (slice_get_within objects h.object scalars.0.object scalars.0.there))
      (loads_all (suc r) hs scalars.1 (λ kind s o low there. go kind s o (omega (arith, low)) there))

  stores_all : (r : ℕ) (hs : List Resident) → AreScalars objects hs → ((kind : Kind) (s o : ℕ) → s < r + length hs → o < length objects → Q (Do (Store kind (scalar_address o) (Register s)))) → All Q (stores r hs)
  stores_all r [] scalars go = All-nil Q
  stores_all r (h ∷ hs) scalars go = by_flag h.written (stores_all (suc r) hs scalars.1 (λ kind s o low there. go kind s o (omega (arith, low)) there))
    where
      by_flag : (b : Bool) → All Q (stores (suc r) hs) → All Q (if b then Do (Store h.kind (scalar_address h.object) (Register r)) ∷ stores (suc r) hs else stores (suc r) hs)
      by_flag true rest =
          All-cons Q (Do (Store h.kind (scalar_address h.object) (Register r))) (stores (suc r) hs)
          (go h.kind r h.object (omega arith) (slice_get_within objects h.object scalars.0.object scalars.0.there)) rest
      by_flag false rest = rest

  pub closing_all : (r : ℕ) (hs : List Resident) (end : End ℕ) → AreScalars objects hs → ((kind : Kind) (s o : ℕ) → s < r + length hs → o < length objects → Q (Do (Store kind (scalar_address o) (Register s)))) → All Q (closing r hs end)
  closing_all r hs (Jump b) scalars go = All-nil Q
  closing_all r hs (Branch c x y b1 b2) scalars go = All-nil Q
  closing_all r hs (Return x) scalars go = stores_all r hs scalars go

module _ (n : ℕ) (hs : List Resident) (P Q : Block ℕ Note → Type 0) (go : (bl : Block ℕ Note) → P bl → Q (promoted_block n hs bl)) where
  rest_all : (bs : List (Block ℕ Note)) → All P bs → All Q (map (promoted_block n hs) bs)
  rest_all [] h = All-nil Q
  rest_all (b ∷ bs) h = All-cons Q (promoted_block n hs b) (map (promoted_block n hs) bs) (go b (All-head P b bs h)) (rest_all bs (All-tail P b bs h))

  pub blocks_all : ((bl : Block ℕ Note) → P bl → Q (promoted_at n hs 0 bl)) → (bs : List (Block ℕ Note)) → All P bs → All Q (opened (loads n hs) (map (promoted_block n hs) bs))
  blocks_all first [] h = All-nil Q
  blocks_all first (b ∷ bs) h = All-cons Q (promoted_at n hs 0 b) (map (promoted_block n hs) bs) (first b (All-head P b bs h)) (rest_all bs (All-tail P b bs h))

-- what holds of the code of each block
module _ (objects : List Object) (n : ℕ) (hs : List Resident) (scalars : AreScalars objects hs) (P Q : Instr ℕ Note → Type 0) (go : (i : Instr ℕ Note) → P i → All Q (promoted_instr n hs i))
    (load : (kind : Kind) (s o : ℕ) → s < n + length hs → o < length objects → Q (Do (Load kind s (scalar_address o)))) (store : (kind : Kind) (s o : ℕ) → s < n + length hs → o < length objects → Q (Do (Store kind (scalar_address o) (Register s)))) where
  pub block_code : (bl : Block ℕ Note) → All P bl.code → All Q (promoted_block n hs bl).code
  block_code bl h = All-append Q (promoted_code n hs bl.code) (closing n hs bl.end) (code_all n hs P Q go bl.code h) (closing_all objects Q n hs bl.end scalars store)

  pub first_code : (bl : Block ℕ Note) → All P bl.code → All Q (promoted_at n hs 0 bl).code
  first_code bl h = All-append Q (loads n hs) (promoted_block n hs bl).code (loads_all objects Q n hs scalars load) (block_code bl h)

  pub codes_all : (bs : List (Block ℕ Note)) → All (λ (b : Block ℕ Note). All P b.code) bs → All (λ (b : Block ℕ Note). All Q b.code) (opened (loads n hs) (map (promoted_block n hs) bs))
  codes_all bs h = blocks_all n hs (λ b. All P b.code) (λ b. All Q b.code) block_code first_code bs h

-- registers
register_low : (r : ℕ) (hs : List Resident) (o s : ℕ) → register_of r hs o ≡ Some s → s < r + length hs
register_low r [] o s e = cc
register_low r (h ∷ hs) o s e = by_test (h.object == o) (register_low (suc r) hs o s) e
  where
    by_test : (b : Bool) → (register_of (suc r) hs o ≡ Some s → s < suc r + length hs) → (if b then Some r else register_of (suc r) hs o) ≡ Some s → s < r + length (h ∷ hs)
    by_test true go e = let same : r ≡ s = cc in omega (arith, same)
    by_test false go e = let low = go e in omega (arith, low)

base_low : (r : ℕ) (hs : List Resident) (base : Base ℕ) (s : ℕ) → resident_at r hs base ≡ Some s → s < r + length hs
base_low r hs (Fixed o) s e = register_low r hs o s e
base_low r hs (Through x claim) s e = cc

module _ (n : ℕ) (hs : List Resident) where
  abbrev m : ℕ
  m = n + length hs

  abbrev Low' : List ℕ → Type 0
  Low' rs = All (λ r. r < n) rs

  abbrev Within : List ℕ → Type 0
  Within rs = All (λ r. r < m) rs

  pub wider : (rs : List ℕ) → Low' rs → Within rs
  wider rs h = All-weaker (λ r. r < n) (λ r. r < m) (λ r low. omega (arith, low)) rs h

  abbrev Uses : Instr ℕ Note → Type 0
  Uses i = RegistersWithin m i

  -- one instruction
  alone : (i : Instr ℕ Note) → Uses i → All Uses (i ∷ [])
  alone i h = All-cons Uses i [] h (All-nil Uses)

  one_within : (r : ℕ) → r < m → Within (r ∷ [])
  one_within r low = All-cons (λ s. s < m) r [] low (All-nil (λ s. s < m))

  none_within : Within []
  none_within = All-nil (λ s. s < m)

  load_within : (kind : Kind) (d : ℕ) (a : Address ℕ) (o : Option ℕ) → resident_at n hs a.base ≡ o → RegistersWithin {K = Note} n (Do (Load kind d a)) → All Uses (load_by o kind d a)
  load_within kind d a None e h = alone (Do (Load kind d a)) (wider (registers_in (address_reads a)) h.0, wider (d ∷ []) h.1)
  load_within kind d a (Some s) e h = alone (Do (Set d (Register s))) (one_within s (base_low n hs a.base s e), wider (d ∷ []) h.1)

  shifted_within : (back : Alu) (s r k : ℕ) → s < m → r < m → All Uses (shifted back s r k)
  shifted_within back s r k low few =
      All-cons Uses (Do (Operate ShiftLeft s (Register r) (Constant k))) (Do (Operate back s (Register s) (Constant k)) ∷ []) (one_within r few, one_within s low)
      (alone (Do (Operate back s (Register s) (Constant k))) (one_within s low, one_within s low))

  kept_within : (kind : Kind) (s r : ℕ) → s < m → r < m → All Uses (kept_by kind s r)
  kept_within Unsigned8 s r low few = alone (Do (Operate BitAnd s (Register r) (Constant 255))) (one_within r few, one_within s low)
  kept_within Signed8 s r low few = shifted_within ShiftRightSigned s r 24 low few
  kept_within Unsigned16 s r low few = shifted_within ShiftRight s r 16 low few
  kept_within Signed16 s r low few = shifted_within ShiftRightSigned s r 16 low few
  kept_within Word s r low few = alone (Do (Set s (Register r))) (one_within r few, one_within s low)

  store_within : (kind : Kind) (a : Address ℕ) (x : Operand ℕ) (o : Option ℕ) → resident_at n hs a.base ≡ o → RegistersWithin {K = Note} n (Do (Store kind a x)) → All Uses (store_by o kind a x)
  store_within kind a x None e h = alone (Do (Store kind a x)) (wider (registers_in (x ∷ address_reads a)) h.0, none_within)
  store_within kind a (Constant w) (Some s) e h = alone (Do (Set s (Constant (converted kind w)))) (none_within, one_within s (base_low n hs a.base s e))
  store_within kind a (Register r) (Some s) e h = let low = All-head (λ s. s < n) r (registers_in (address_reads a)) h.0 in kept_within kind s r (base_low n hs a.base s e) (omega (arith, low))

  -- an instruction that stays
  stays_within : (i : Instr ℕ Note) → RegistersWithin n i → All Uses (i ∷ [])
  stays_within i h = alone i (wider (read_by i) h.0, wider (option_to_list (written_by i)) h.1)

  instr_within : (i : Instr ℕ Note) → RegistersWithin n i → All Uses (promoted_instr n hs i)
  instr_within (Do (Set d x)) h = stays_within (Do (Set d x)) h
  instr_within (Do (Operate operator d x y)) h = stays_within (Do (Operate operator d x y)) h
  instr_within (Do (Point d a)) h = stays_within (Do (Point d a)) h
  instr_within (Do (Load kind d a)) h = load_within kind d a (resident_at n hs a.base) refl h
  instr_within (Do (Store kind a x)) h = store_within kind a x (resident_at n hs a.base) refl h
  instr_within (Do (Put x)) h = stays_within (Do (Put x)) h
  instr_within (Do (Get d)) h = stays_within (Do (Get d)) h
  instr_within (Call d f args note) h = stays_within (Call d f args note) h

  filled_within : (kind : Kind) (s o : ℕ) → s < m → Uses (Do (Load kind s (scalar_address o)))
  filled_within kind s o low = (none_within, one_within s low)

  stored_within : (kind : Kind) (s o : ℕ) → s < m → Uses (Do (Store kind (scalar_address o) (Register s)))
  stored_within kind s o low = (one_within s low, none_within)

  pub uses_within : (objects : List Object) → AreScalars objects hs → (bs : List (Block ℕ Note)) → All (UsesRegisters n) bs → All (UsesRegisters m) (opened (loads n hs) (map (promoted_block n hs) bs))
  uses_within objects scalars bs h =
      blocks_all n hs (UsesRegisters n) (UsesRegisters m)
      (λ bl k. (block_code objects n hs scalars (RegistersWithin n) (RegistersWithin m) instr_within (λ kind s o low there. filled_within kind s o low) (λ kind s o low there. stored_within kind s o low) bl k.0, wider (end_reads bl.end) k.1))
      (λ bl k. (first_code objects n hs scalars (RegistersWithin n) (RegistersWithin m) instr_within (λ kind s o low there. filled_within kind s o low) (λ kind s o low there. stored_within kind s o low) bl k.0, wider (end_reads bl.end) k.1))
      bs h

  -- where blocks lead
  pub jump_promoted : (b header : ℕ) → 0 < b → promoted_at n hs b (only_jump header) ≡ only_jump header
  jump_promoted zero header low = absurd (omega (arith, low))
  jump_promoted (suc b) header low = refl

leads_back : (hs : List Resident) (fn : Function ℕ Note) (b n : ℕ) → LeadsTo (promoted_function hs fn) b n → LeadsTo fn b n
leads_back hs fn b n h = by_block (slice_get fn.blocks b) refl
  where
    by_block : (o : Option (Block ℕ Note)) → slice_get fn.blocks b ≡ o → LeadsTo fn b n
    by_block None e = absurd (subst (λ o. LeadsTo_as o n) (block_none hs fn b e) h)
    by_block (Some bl) e = subst (λ o. LeadsTo_as o n) (sym e) (subst (λ o. LeadsTo_as o n) (block_promoted hs fn b bl e) h)

loop_promoted : (hs : List Resident) (fn : Function ℕ Note) (l : Loop) → IsLoop fn l → IsLoop (promoted_function hs fn) l
loop_promoted hs fn l h =
    let a = h.header in
    let b = h.latch in
    record {
      header = h.header;
      latch = h.latch;
      back = block_promoted hs fn l.latch (only_jump l.header) h.back ∙ ap (λ x. Some x) (jump_promoted fn.size hs l.latch l.header (omega (arith, a, b)));
      entered = λ c n leads inside from. h.entered c n (leads_back hs fn c n leads) inside from;
    }

length_opened : (code : List (Instr ℕ Note)) (bs : List (Block ℕ Note)) → length (opened code bs) ≡ length bs
length_opened code [] = refl
length_opened code (b ∷ bs) = refl

-- functions
module _ (hss : List (List Resident)) (q : Low) where
  abbrev q2 : Low
  q2 = promoted_program hss q

  abbrev Named : Instr ℕ Note → Type 0
  Named i = NamesThere q2 i

  -- one instruction with an address, or with none
  one_named : (i : Instr ℕ Note) → NamesThere q i → All Named (i ∷ [])
  one_named i h = All-cons Named i [] h (All-nil Named)

  load_named : (kind : Kind) (d : ℕ) (a : Address ℕ) (o : Option ℕ) → NamesThere {K = Note} q (Do (Load kind d a)) → All Named (load_by o kind d a)
  load_named kind d a None h = one_named (Do (Load kind d a)) h
  load_named kind d a (Some s) h = one_named (Do (Set d (Register s))) (All-nil (IsThere q))

  shifted_named : (back : Alu) (s r k : ℕ) → All Named (shifted back s r k)
  shifted_named back s r k =
      All-cons Named (Do (Operate ShiftLeft s (Register r) (Constant k))) (Do (Operate back s (Register s) (Constant k)) ∷ []) (All-nil (IsThere q))
      (one_named (Do (Operate back s (Register s) (Constant k))) (All-nil (IsThere q)))

  kept_named : (kind : Kind) (s r : ℕ) → All Named (kept_by kind s r)
  kept_named Unsigned8 s r = one_named (Do (Operate BitAnd s (Register r) (Constant 255))) (All-nil (IsThere q))
  kept_named Signed8 s r = shifted_named ShiftRightSigned s r 24
  kept_named Unsigned16 s r = shifted_named ShiftRight s r 16
  kept_named Signed16 s r = shifted_named ShiftRightSigned s r 16
  kept_named Word s r = one_named (Do (Set s (Register r))) (All-nil (IsThere q))

  store_named : (kind : Kind) (a : Address ℕ) (x : Operand ℕ) (o : Option ℕ) → NamesThere {K = Note} q (Do (Store kind a x)) → All Named (store_by o kind a x)
  store_named kind a x None h = one_named (Do (Store kind a x)) h
  store_named kind a (Register r) (Some s) h = kept_named kind s r
  store_named kind a (Constant w) (Some s) h = one_named (Do (Set s (Constant (converted kind w)))) (All-nil (IsThere q))

  names_promoted : (n : ℕ) (hs : List Resident) (i : Instr ℕ Note) → NamesThere q i → All Named (promoted_instr n hs i)
  names_promoted n hs (Do (Set d x)) h = one_named (Do (Set d x)) h
  names_promoted n hs (Do (Operate operator d x y)) h = one_named (Do (Operate operator d x y)) h
  names_promoted n hs (Do (Point d a)) h = one_named (Do (Point d a)) h
  names_promoted n hs (Do (Load kind d a)) h = load_named kind d a (resident_at n hs a.base) h
  names_promoted n hs (Do (Store kind a x)) h = store_named kind a x (resident_at n hs a.base) h
  names_promoted n hs (Do (Put x)) h = one_named (Do (Put x)) h
  names_promoted n hs (Do (Get d)) h = one_named (Do (Get d)) h
  names_promoted n hs (Call d f args note) h = one_named (Call d f args note) h

  scalar_there : (o : ℕ) → o < length q.objects → IsThere {R = ℕ} q2 (scalar_address o)
  scalar_there o low = (All-cons (λ x. x < length q.objects) o [] low (All-nil (λ x. x < length q.objects)), All-nil (λ c. c < length q.claims))

  module _ (f : ℕ) where
    abbrev Below : Instr ℕ Note → Type 0
    Below i = CallsBelow f i

    one_below : (i : Instr ℕ Note) → CallsBelow f i → All Below (i ∷ [])
    one_below i h = All-cons Below i [] h (All-nil Below)

    -- instructions that call nothing
    plain_below : (i : Plain ℕ) → All Below (Do i ∷ [])
    plain_below i = one_below (Do i) (All-nil (λ g. g < f))

    shifted_below : (back : Alu) (s r k : ℕ) → All Below (shifted back s r k)
    shifted_below back s r k = All-cons Below (Do (Operate ShiftLeft s (Register r) (Constant k))) (Do (Operate back s (Register s) (Constant k)) ∷ []) (All-nil (λ g. g < f)) (plain_below (Operate back s (Register s) (Constant k)))

    kept_below : (kind : Kind) (s r : ℕ) → All Below (kept_by kind s r)
    kept_below Unsigned8 s r = plain_below (Operate BitAnd s (Register r) (Constant 255))
    kept_below Signed8 s r = shifted_below ShiftRightSigned s r 24
    kept_below Unsigned16 s r = shifted_below ShiftRight s r 16
    kept_below Signed16 s r = shifted_below ShiftRightSigned s r 16
    kept_below Word s r = plain_below (Set s (Register r))

    load_below : (kind : Kind) (d : ℕ) (a : Address ℕ) (o : Option ℕ) → All Below (load_by o kind d a)
    load_below kind d a None = plain_below (Load kind d a)
    load_below kind d a (Some s) = plain_below (Set d (Register s))

    store_below : (kind : Kind) (a : Address ℕ) (x : Operand ℕ) (o : Option ℕ) → All Below (store_by o kind a x)
    store_below kind a x None = plain_below (Store kind a x)
    store_below kind a (Register r) (Some s) = kept_below kind s r
    store_below kind a (Constant w) (Some s) = plain_below (Set s (Constant (converted kind w)))

    calls_promoted : (n : ℕ) (hs : List Resident) (i : Instr ℕ Note) → CallsBelow f i → All Below (promoted_instr n hs i)
    calls_promoted n hs (Do (Set d x)) h = plain_below (Set d x)
    calls_promoted n hs (Do (Operate operator d x y)) h = plain_below (Operate operator d x y)
    calls_promoted n hs (Do (Point d a)) h = plain_below (Point d a)
    calls_promoted n hs (Do (Load kind d a)) h = load_below kind d a (resident_at n hs a.base)
    calls_promoted n hs (Do (Store kind a x)) h = store_below kind a x (resident_at n hs a.base)
    calls_promoted n hs (Do (Put x)) h = plain_below (Put x)
    calls_promoted n hs (Do (Get d)) h = plain_below (Get d)
    calls_promoted n hs (Call d g args note) h = one_below (Call d g args note) h

  function_formed : (f : ℕ) (hs : List Resident) (fn : Function ℕ Note) → AreScalars q.objects hs → IsFunction q f fn → IsFunction q2 f (promoted_function hs fn)
  function_formed f hs fn scalars h =
      let n = fn.size in
      let same : opening (promoted_function hs fn) ≡ opening fn = block_mark hs fn 0 in
      record {
        opens = λ e. h.opens (sym same ∙ e);
        alone = λ m g b e1 e2. h.alone m g b (sym same ∙ e1) (sym (mark_same hss q g b) ∙ e2);
        marks = blocks_all n hs (HasMarkBelow q.marks) (HasMarkBelow q.marks) (λ bl k. k) (λ bl k. k) fn.blocks h.marks;
        parameters = wider n hs fn.parameters h.parameters;
        registers = uses_within n hs q.objects scalars fn.blocks h.registers;
        names = codes_all q.objects n hs scalars (NamesThere q) (NamesThere q2) (names_promoted n hs)
            (λ kind s o low there. All-cons (IsThere q2) (scalar_address o) [] (scalar_there o there) (All-nil (IsThere q2)))
            (λ kind s o low there. All-cons (IsThere q2) (scalar_address o) [] (scalar_there o there) (All-nil (IsThere q2)))
            fn.blocks h.names;
        calls = codes_all q.objects n hs scalars (CallsBelow f) (CallsBelow f) (calls_promoted f n hs) (λ kind s o low there. All-nil (λ g. g < f)) (λ kind s o low there. All-nil (λ g. g < f)) fn.blocks h.calls;
        stays = λ b m leads.
            let low = h.stays b m (leads_back hs fn b m leads) in
            let a = length_opened (loads n hs) (map (promoted_block n hs) fn.blocks) in
            let c = length-map fn.blocks (promoted_block n hs) in
            omega (arith, low, a, c);
        forward = λ b m leads low. h.forward b m (leads_back hs fn b m leads) low;
        loops = All-weaker (IsLoop fn) (IsLoop (promoted_function hs fn)) (λ l k. loop_promoted hs fn l k) fn.loops h.loops;
        nested = h.nested;
      }

pub length_promoted : (hss : List (List Resident)) (k : ℕ) (fns : List (Function ℕ Note)) → length (promoted_functions hss k fns) ≡ length fns
length_promoted hss k [] = refl
length_promoted hss k (fn ∷ fns) = ap suc (length_promoted hss (suc k) fns)

pub formed : (hss : List (List Resident)) (table : Table) (q : Low) → AllMayReside q table hss → IsLow q → IsLow (promoted_program hss q)
formed hss table q may h =
    let main = h.main in
    let e = length_promoted hss 0 q.functions in
    record {
      main = omega (arith, main, e);
      functions = λ f g there.
          let o = of_function hss q f g there in
          subst (IsFunction (promoted_program hss q) f) o.is (function_formed hss q f (residents_at hss f) o.fn (may f o.fn o.there).scalars (h.functions f o.fn o.there));
      claims = h.claims;
    }
