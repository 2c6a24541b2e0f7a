-- A program with words in registers keeps to the low form.
use Rattle.std.proofs.Common.{◌≡◌, ◌<◌, ◌≤◌, ℕ, zero, suc, ◌+◌, Bool, true, false, List, [], ◌∷◌, length, Option, Some, None, refl, sym, ap, ◌∙◌, subst, arith}
use Rattle.std.specs.Prelude.{All, map, if◌then◌else◌, ◌==◌, slice_get, option_to_list}
use Rattle.std.proofs.lemmas.List.{length-map}
use Rattle.std.proofs.lemmas.List.Elements.{All-append, All-cons, All-head, All-nil, All-tail, All-weaker}
use Rattle.rv_core.specs.declared.row.Alu.{Alu}
use Rattle.low_ir.specs.Code.{Operand, Register, Constant, Set, Operate, Point, Load, Store, Put, Get, Instr, Do, Call, End, Jump, Branch, Return, Block, Loop, Function, Low, Note}
use Rattle.low_ir.specs.Effects.{address_reads}
use Rattle.low_ir.specs.Formed.{BlockCallsBelow, BlockNamesThere, CallsBelow, HasMarkBelow, IsFunction, IsLoop, IsThere, LeadsOn, LeadsTo, LeadsTo_as, NamesThere, RegistersWithin, UsesRegisters, end_reads, mark_of, only_jump, opening, read_by, registers_in}
use Rattle.low_ir.specs.Runs.{block_in}
use Rattle.low_ir.specs.Turns.{mark_in}
use Rattle.pass_constant_hoisting.specs.Carried.{HeldIsLow}
use Rattle.pass_constant_hoisting.specs.Holding.{by_register, fills, has_in_itself, held, held_block, held_end, held_functions, held_instr, held_program, held_right, holding, opened, register_of, words_at, words_in}
use Rattle.pass_constant_hoisting.proofs.Instructions.{addresses_held, callee_held, written_held}
use Rattle.pass_constant_hoisting.proofs.Tables.{block_held, block_none, function_held, function_none, held_at, of_function}

-- the marks are the same
pub block_mark : (ws : List ℕ) (fn : Function ℕ Note) (b : ℕ) → mark_in (slice_get (holding ws fn).blocks b) ≡ mark_in (slice_get fn.blocks b)
block_mark ws fn b = by_block (slice_get fn.blocks b) refl
  where
    by_block : (o : Option (Block ℕ Note)) → slice_get fn.blocks b ≡ o → mark_in (slice_get (holding ws fn).blocks b) ≡ mark_in (slice_get fn.blocks b)
    by_block None n = ap mark_in (block_none ws fn b n) ∙ sym (ap mark_in n)
    by_block (Some bl) n = ap mark_in (block_held ws fn b bl n) ∙ sym (ap mark_in n)

pub mark_same : (wss : List (List ℕ)) (q : Low) (f b : ℕ) → mark_of (held_program wss q) f b ≡ mark_of q f b
mark_same wss q f b = by_function (slice_get q.functions f) refl
  where
    by_function : (o : Option (Function ℕ Note)) → slice_get q.functions f ≡ o → mark_of (held_program wss q) f b ≡ mark_of q f b
    by_function None n = ap (λ o. mark_in (block_in o b)) (function_none wss q f n) ∙ sym (ap (λ o. mark_in (block_in o b)) n)
    by_function (Some fn) n = ap (λ o. mark_in (block_in o b)) (function_held wss q f fn n) ∙ block_mark (words_in (words_at wss f) fn) fn b ∙ sym (ap (λ o. mark_in (block_in o b)) n)

-- a fact on each block, or on each instruction
pub code_all : (n : ℕ) (ws : List ℕ) (P Q : Instr ℕ Note → Type 0) → ((i : Instr ℕ Note) → P i → Q (held_instr n ws i)) → (is : List (Instr ℕ Note)) → All P is → All Q (map (held_instr n ws) is)
code_all n ws P Q go [] h = All-nil Q
code_all n ws P Q go (i ∷ is) h = All-cons Q (held_instr n ws i) (map (held_instr n ws) is) (go i (All-head P i is h)) (code_all n ws P Q go is (All-tail P i is h))

pub fills_all : (Q : Instr ℕ Note → Type 0) (r : ℕ) (ws : List ℕ) → ((s w : ℕ) → s < r + length ws → Q (Do (Set s (Constant w)))) → All Q (fills r ws)
fills_all Q r [] go = All-nil Q
fills_all Q r (w ∷ ws) go = All-cons Q (Do (Set r (Constant w))) (fills (suc r) ws) (go r w (omega arith)) (fills_all Q (suc r) ws (λ s v low. go s v (omega (arith, low))))

module _ (n : ℕ) (ws : List ℕ) (P Q : Block ℕ Note → Type 0) (go : (bl : Block ℕ Note) → P bl → Q (held_block n ws bl)) where
  rest_all : (bs : List (Block ℕ Note)) → All P bs → All Q (map (held_block n ws) bs)
  rest_all [] h = All-nil Q
  rest_all (b ∷ bs) h = All-cons Q (held_block n ws b) (map (held_block n ws) bs) (go b (All-head P b bs h)) (rest_all bs (All-tail P b bs h))

  pub blocks_all : ((bl : Block ℕ Note) → P bl → Q (held_at n ws 0 bl)) → (bs : List (Block ℕ Note)) → All P bs → All Q (opened (fills n ws) (map (held_block n ws) bs))
  blocks_all first [] h = All-nil Q
  blocks_all first (b ∷ bs) h = All-cons Q (held_at n ws 0 b) (map (held_block n ws) bs) (first b (All-head P b bs h)) (rest_all bs (All-tail P b bs h))

-- registers
module _ (n : ℕ) (ws : List ℕ) where
  abbrev m : ℕ
  m = n + length ws

  abbrev Low' : List ℕ → Type 0
  Low' rs = All (λ r. r < n) rs

  abbrev Within : List ℕ → Type 0
  Within rs = All (λ r. r < m) rs

  pub wider : (rs : List ℕ) → Low' rs → Within rs
  wider rs h = All-weaker (λ r. r < n) (λ r. r < m) (λ r low. omega (arith, low)) rs h

  register_within : (r : ℕ) (vs : List ℕ) (w : ℕ) (rest : List (Operand ℕ)) → r + length vs ≤ m → Within (registers_in rest) → Within (registers_in (by_register (register_of r vs w) w ∷ rest))
  register_within r [] w rest low h = h
  register_within r (v ∷ vs) w rest low h = by_test (v == w) (register_within (suc r) vs w rest (omega (arith, low)) h)
    where
      by_test : (b : Bool) → Within (registers_in (by_register (register_of (suc r) vs w) w ∷ rest)) → Within (registers_in (by_register (if b then Some r else register_of (suc r) vs w) w ∷ rest))
      by_test true other = All-cons (λ s. s < m) r (registers_in rest) (omega (arith, low)) h
      by_test false other = other

  first_low : (x : Operand ℕ) (xs : List (Operand ℕ)) → Low' (registers_in (x ∷ xs)) → Low' (registers_in xs)
  first_low (Register r) xs h = All-tail (λ s. s < n) r (registers_in xs) h
  first_low (Constant w) xs h = h

  held_within : (x : Operand ℕ) (xs ys : List (Operand ℕ)) → Low' (registers_in (x ∷ xs)) → Within (registers_in ys) → Within (registers_in (held n ws x ∷ ys))
  held_within (Register r) xs ys h k = let low = All-head (λ s. s < n) r (registers_in xs) h in All-cons (λ s. s < m) r (registers_in ys) (omega (arith, low)) k
  held_within (Constant w) xs ys h k = register_within n ws w ys (omega arith) k

  right_within : (operator : Alu) (x : Operand ℕ) (xs ys : List (Operand ℕ)) → Low' (registers_in (x ∷ xs)) → Within (registers_in ys) → Within (registers_in (held_right n ws operator x ∷ ys))
  right_within operator (Register r) xs ys h k = held_within (Register r) xs ys h k
  right_within operator (Constant w) xs ys h k = by_test (has_in_itself operator w)
    where
      by_test : (b : Bool) → Within (registers_in ((if b then Constant w else held n ws (Constant w)) ∷ ys))
      by_test true = k
      by_test false = held_within (Constant w) xs ys h k

  reads_within : (i : Instr ℕ Note) → Low' (read_by i) → Within (read_by (held_instr n ws i))
  reads_within (Do (Set d x)) h = wider (registers_in (x ∷ [])) h
  reads_within (Do (Operate operator d x y)) h = held_within x (y ∷ []) (held_right n ws operator y ∷ []) h (right_within operator y [] [] (first_low x (y ∷ []) h) (All-nil (λ s. s < m)))
  reads_within (Do (Point d a)) h = wider (registers_in (address_reads a)) h
  reads_within (Do (Load kind d a)) h = wider (registers_in (address_reads a)) h
  reads_within (Do (Store kind a x)) h = held_within x (address_reads a) (address_reads a) h (wider (registers_in (address_reads a)) (first_low x (address_reads a) h))
  reads_within (Do (Put x)) h = wider (registers_in (x ∷ [])) h
  reads_within (Do (Get d)) h = All-nil (λ s. s < m)
  reads_within (Call d f args note) h = wider (registers_in args) h

  instr_within : (i : Instr ℕ Note) → RegistersWithin n i → RegistersWithin m (held_instr n ws i)
  instr_within i h = (reads_within i h.0, subst (λ o. Within (option_to_list o)) (sym (written_held n ws i)) (wider _ h.1))

  end_within : (e : End ℕ) → Low' (end_reads e) → Within (end_reads (held_end n ws e))
  end_within (Jump b) h = All-nil (λ s. s < m)
  end_within (Branch c x y b1 b2) h = held_within x (y ∷ []) (held n ws y ∷ []) h (held_within y [] [] (first_low x (y ∷ []) h) (All-nil (λ s. s < m)))
  end_within (Return x) h = wider (registers_in (x ∷ [])) h

  fill_within : (s w : ℕ) → s < m → RegistersWithin {K = Note} m (Do (Set s (Constant w)))
  fill_within s w low = (All-nil (λ r. r < m), All-cons (λ r. r < m) s [] low (All-nil (λ r. r < m)))

  pub uses_within : (bs : List (Block ℕ Note)) → All (UsesRegisters n) bs → All (UsesRegisters m) (opened (fills n ws) (map (held_block n ws) bs))
  uses_within bs h =
      blocks_all n ws (UsesRegisters n) (UsesRegisters m)
      (λ bl k. (code_all n ws (RegistersWithin n) (RegistersWithin m) instr_within bl.code k.0, end_within bl.end k.1))
      (λ bl k. (All-append (RegistersWithin m) (fills n ws) (map (held_instr n ws) bl.code) (fills_all (RegistersWithin m) n ws fill_within) (code_all n ws (RegistersWithin n) (RegistersWithin m) instr_within bl.code k.0), end_within bl.end k.1))
      bs h

  -- where blocks lead
  pub end_leads : (e : End ℕ) (b : ℕ) → LeadsOn (held_end n ws e) b → LeadsOn e b
  end_leads (Jump k) b h = h
  end_leads (Branch c x y b1 b2) b h = h
  end_leads (Return x) b h = h

  pub jump_held : (b header : ℕ) → 0 < b → held_at n ws b (only_jump header) ≡ only_jump header
  jump_held zero header low = absurd (omega (arith, low))
  jump_held (suc b) header low = refl

leads_back : (ws : List ℕ) (fn : Function ℕ Note) (b n : ℕ) → LeadsTo (holding ws fn) b n → LeadsTo fn b n
leads_back ws fn b n h = by_block (slice_get fn.blocks b) refl
  where
    by_block : (o : Option (Block ℕ Note)) → slice_get fn.blocks b ≡ o → LeadsTo fn b n
    by_block None e = absurd (subst (λ o. LeadsTo_as o n) (block_none ws fn b e) h)
    by_block (Some bl) e = subst (λ o. LeadsTo_as o n) (sym e) (end_leads fn.size ws bl.end n (subst (λ o. LeadsTo_as o n) (block_held ws fn b bl e) h))

loop_held : (ws : List ℕ) (fn : Function ℕ Note) (l : Loop) → IsLoop fn l → IsLoop (holding ws fn) l
loop_held ws fn l h =
    let a = h.header in
    let b = h.latch in
    record {
      header = h.header;
      latch = h.latch;
      back = block_held ws fn l.latch (only_jump l.header) h.back ∙ ap (λ x. Some x) (jump_held fn.size ws l.latch l.header (omega (arith, a, b)));
      entered = λ c n leads inside from. h.entered c n (leads_back ws fn c n leads) inside from;
    }

length_opened : (code : List (Instr ℕ Note)) (bs : List (Block ℕ Note)) → length (opened code bs) ≡ length bs
length_opened code [] = refl
length_opened code (b ∷ bs) = refl

-- functions
module _ (wss : List (List ℕ)) (q : Low) where
  abbrev q2 : Low
  q2 = held_program wss q

  names_held : (n : ℕ) (ws : List ℕ) (i : Instr ℕ Note) → NamesThere q i → NamesThere q2 (held_instr n ws i)
  names_held n ws i h = subst (λ ls. All (IsThere q2) ls) (sym (addresses_held n ws i)) h

  calls_held : (f n : ℕ) (ws : List ℕ) (i : Instr ℕ Note) → CallsBelow f i → CallsBelow f (held_instr n ws i)
  calls_held f n ws i h = subst (λ o. All (λ g. g < f) (option_to_list o)) (sym (callee_held n ws i)) h

  function_formed : (f : ℕ) (ws : List ℕ) (fn : Function ℕ Note) → IsFunction q f fn → IsFunction q2 f (holding ws fn)
  function_formed f ws fn h =
      let n = fn.size in
      let same : opening (holding ws fn) ≡ opening fn = block_mark ws fn 0 in
      record {
        opens = λ e. h.opens (sym same ∙ e);
        alone = λ m g b e1 e2. h.alone m g b (sym same ∙ e1) (sym (mark_same wss q g b) ∙ e2);
        marks = blocks_all n ws (HasMarkBelow q.marks) (HasMarkBelow q.marks) (λ bl k. k) (λ bl k. k) fn.blocks h.marks;
        parameters = wider n ws fn.parameters h.parameters;
        registers = uses_within n ws fn.blocks h.registers;
        names = blocks_all n ws (BlockNamesThere q) (BlockNamesThere q2)
            (λ bl k. code_all n ws (NamesThere q) (NamesThere q2) (names_held n ws) bl.code k)
            (λ bl k. All-append (NamesThere q2) (fills n ws) (map (held_instr n ws) bl.code) (fills_all (NamesThere q2) n ws (λ s w low. All-nil (IsThere q2))) (code_all n ws (NamesThere q) (NamesThere q2) (names_held n ws) bl.code k))
            fn.blocks h.names;
        calls = blocks_all n ws (BlockCallsBelow f) (BlockCallsBelow f)
            (λ bl k. code_all n ws (CallsBelow f) (CallsBelow f) (calls_held f n ws) bl.code k)
            (λ bl k. All-append (CallsBelow f) (fills n ws) (map (held_instr n ws) bl.code) (fills_all (CallsBelow f) n ws (λ s w low. All-nil (λ g. g < f))) (code_all n ws (CallsBelow f) (CallsBelow f) (calls_held f n ws) bl.code k))
            fn.blocks h.calls;
        stays = λ b m leads.
            let low = h.stays b m (leads_back ws fn b m leads) in
            let a = length_opened (fills n ws) (map (held_block n ws) fn.blocks) in
            let c = length-map fn.blocks (held_block n ws) in
            omega (arith, low, a, c);
        forward = λ b m leads low. h.forward b m (leads_back ws fn b m leads) low;
        loops = All-weaker (IsLoop fn) (IsLoop (holding ws fn)) (λ l k. loop_held ws fn l k) fn.loops h.loops;
        nested = h.nested;
      }

pub length_held : (wss : List (List ℕ)) (k : ℕ) (fns : List (Function ℕ Note)) → length (held_functions wss k fns) ≡ length fns
length_held wss k [] = refl
length_held wss k (fn ∷ fns) = ap suc (length_held wss (suc k) fns)

pub formed : HeldIsLow
formed wss q h =
    let main = h.main in
    let e = length_held wss 0 q.functions in
    record {
      main = omega (arith, main, e);
      functions = λ f g there.
          let o = of_function wss q f g there in
          subst (IsFunction (held_program wss q) f) o.is (function_formed wss q f (words_in (words_at wss f) o.fn) o.fn (h.functions f o.fn o.there));
      claims = h.claims;
    }
