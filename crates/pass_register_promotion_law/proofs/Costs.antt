-- What scalars in registers cost.
use Rattle.std.proofs.Common.{◌≡◌, ◌≤◌, ℕ, zero, suc, ◌+◌, ◌*◌, Bool, true, false, List, [], ◌∷◌, ◌++◌, Option, Some, None, refl, ap, ◌∙◌, arith}
use Rattle.std.specs.Prelude.{map, slice_get, if◌then◌else◌}
use Rattle.std.proofs.Math.Nat.{mul-le-mul_left}
use Rattle.std.proofs.lemmas.List.{append_assoc}
use Rattle.low_ir.specs.declared.object.Kind.{Kind}
use Rattle.low_ir.specs.declared.object.Kind.TheVariants.{Unsigned8, Signed8, Unsigned16, Signed16, Word}
use Rattle.low_ir.specs.Code.{Operand, Register, Constant, Address, Set, Operate, Point, Load, Store, Put, Get, Instr, Do, Call, End, Jump, Branch, Return, Block, Loop, Function, Low, Note}
use Rattle.low_ir.specs.Room.{block_room, called, marks_once, reach, reaches, repeated, repeated_in, times, weight, weights}
use Rattle.pass_constant_hoisting.specs.Holding.{opened}
use Rattle.pass_register_promotion_law.specs.Paying.{ArePaid}
use Rattle.pass_register_promotion_law.specs.Promoting.{Resident, closing, kept_by, load_by, loads, promoted_block, promoted_code, promoted_function, promoted_instr, promoted_program, resident_at, residents_at, scalar_address, store_by, stores}
use Rattle.pass_register_promotion_law.proofs.Tables.{function_none, function_promoted, promoted_at}

-- calls are the same
module _ (worth : ℕ → ℕ) (n : ℕ) (hs : List Resident) where
  stores_call : (r : ℕ) (hs : List Resident) → called worth (stores r hs) ≡ 0
  stores_call r [] = refl
  stores_call r (h ∷ hs) = by_flag h.written (stores_call (suc r) hs)
    where
      by_flag : (b : Bool) → called worth (stores (suc r) hs) ≡ 0 → called worth (if b then Do (Store h.kind (scalar_address h.object) (Register r)) ∷ stores (suc r) hs else stores (suc r) hs) ≡ 0
      by_flag true e = e
      by_flag false e = e

  closing_calls : (end : End ℕ) → called worth (closing n hs end) ≡ 0
  closing_calls (Jump b) = refl
  closing_calls (Branch c x y b1 b2) = refl
  closing_calls (Return x) = stores_call n hs

  kept_calls : (kind : Kind) (s r : ℕ) (is : List (Instr ℕ Note)) → called worth (kept_by kind s r ++ is) ≡ called worth is
  kept_calls Unsigned8 s r is = refl
  kept_calls Signed8 s r is = refl
  kept_calls Unsigned16 s r is = refl
  kept_calls Signed16 s r is = refl
  kept_calls Word s r is = refl

  load_calls : (kind : Kind) (d : ℕ) (a : Address ℕ) (o : Option ℕ) (is : List (Instr ℕ Note)) → called worth (load_by o kind d a ++ is) ≡ called worth is
  load_calls kind d a None is = refl
  load_calls kind d a (Some s) is = refl

  store_calls : (kind : Kind) (a : Address ℕ) (x : Operand ℕ) (o : Option ℕ) (is : List (Instr ℕ Note)) → called worth (store_by o kind a x ++ is) ≡ called worth is
  store_calls kind a x None is = refl
  store_calls kind a (Register r) (Some s) is = kept_calls kind s r is
  store_calls kind a (Constant w) (Some s) is = refl

  -- what is called before the rest is
  instr_calls : (i : Instr ℕ Note) (is js : List (Instr ℕ Note)) → called worth js ≡ called worth is → called worth (promoted_instr n hs i ++ js) ≡ called worth (i ∷ is)
  instr_calls (Do (Set d x)) is js e = e
  instr_calls (Do (Operate operator d x y)) is js e = e
  instr_calls (Do (Point d a)) is js e = e
  instr_calls (Do (Load kind d a)) is js e = load_calls kind d a (resident_at n hs a.base) js ∙ e
  instr_calls (Do (Store kind a x)) is js e = store_calls kind a x (resident_at n hs a.base) js ∙ e
  instr_calls (Do (Put x)) is js e = e
  instr_calls (Do (Get d)) is js e = e
  instr_calls (Call d f args note) is js e = ap (λ m. worth f + m) e

  code_calls : (is : List (Instr ℕ Note)) (end : End ℕ) → called worth (promoted_code n hs is ++ closing n hs end) ≡ called worth is
  code_calls [] end = closing_calls end
  code_calls (i ∷ is) end =
      ap (called worth) (append_assoc (promoted_instr n hs i) (promoted_code n hs is) (closing n hs end))
      ∙ instr_calls i is (promoted_code n hs is ++ closing n hs end) (code_calls is end)

  loads_call : (r : ℕ) (hs : List Resident) (is : List (Instr ℕ Note)) → called worth (loads r hs ++ is) ≡ called worth is
  loads_call r [] is = refl
  loads_call r (h ∷ hs) is = loads_call (suc r) hs is

called_less : (w2 w1 : ℕ → ℕ) → ((g : ℕ) → w2 g ≤ w1 g) → (is : List (Instr ℕ Note)) → called w2 is ≤ called w1 is
called_less w2 w1 h [] = omega arith
called_less w2 w1 h (Do i ∷ is) = called_less w2 w1 h is
called_less w2 w1 h (Call d f args note ∷ is) = let a = called_less w2 w1 h is in let b = h f in omega (arith, a, b)

-- blocks as often as they start, where each is worth no more
module _ (n : ℕ) (hs : List Resident) (V2 V1 : Block ℕ Note → ℕ) (less : (bl : Block ℕ Note) → V2 (promoted_block n hs bl) ≤ V1 bl) where
  repeated_rest : (ls : List Loop) (b : ℕ) (bs : List (Block ℕ Note)) → repeated V2 ls b (map (promoted_block n hs) bs) ≤ repeated V1 ls b bs
  repeated_rest ls b [] = omega arith
  repeated_rest ls b (bl ∷ bs) =
      let h = repeated_rest ls (suc b) bs in
      let a : times ls b * V2 (promoted_block n hs bl) ≤ times ls b * V1 bl = mul-le-mul_left (times ls b) (less bl) in
      omega (arith, h, a)

  repeated_less : ((bl : Block ℕ Note) → V2 (promoted_at n hs 0 bl) ≤ V1 bl) → (ls : List Loop) (bs : List (Block ℕ Note)) → repeated V2 ls 0 (opened (loads n hs) (map (promoted_block n hs) bs)) ≤ repeated V1 ls 0 bs
  repeated_less first ls [] = omega arith
  repeated_less first ls (bl ∷ bs) =
      let h = repeated_rest ls 1 bs in
      let a : times ls 0 * V2 (promoted_at n hs 0 bl) ≤ times ls 0 * V1 bl = mul-le-mul_left (times ls 0) (first bl) in
      omega (arith, h, a)

mul-add : (t a b : ℕ) → t * (a + b) ≡ t * a + t * b
mul-add t a b = omega arith

-- a sum of two numbers of each block
repeated_sum : (f g : Block ℕ Note → ℕ) (ls : List Loop) (b : ℕ) (bs : List (Block ℕ Note)) → repeated (λ x. f x + g x) ls b bs ≡ repeated f ls b bs + repeated g ls b bs
repeated_sum f g ls b [] = refl
repeated_sum f g ls b (bl ∷ bs) =
    let h = repeated_sum f g ls (suc b) bs in
    let e : times ls b * (f bl + g bl) ≡ times ls b * f bl + times ls b * g bl = mul-add (times ls b) (f bl) (g bl) in
    omega (arith, h, e)

module _ (hss : List (List Resident)) (q : Low) where
  abbrev q2 : Low
  q2 = promoted_program hss q

  -- marks are passed as often
  abbrev passes : ℕ → (ℕ → ℕ) → Block ℕ Note → ℕ
  passes mark w b = marks_once b.mark mark + called w b.code

  function_passes : (mark f : ℕ) (w2 w1 : ℕ → ℕ) → ((g : ℕ) → w2 g ≤ w1 g) → (o : Option (Function ℕ Note)) → slice_get q.functions f ≡ o → repeated_in (passes mark w2) (slice_get q2.functions f) ≤ repeated_in (passes mark w1) o
  function_passes mark f w2 w1 h None e = let a = ap (repeated_in (passes mark w2)) (function_none hss q f e) in omega (arith, a)
  function_passes mark f w2 w1 h (Some fn) e =
      let hs = residents_at hss f in
      let n = fn.size in
      let a = repeated_less n hs (passes mark w2) (passes mark w1) (λ bl. let x = code_calls w2 n hs bl.code bl.end in let y = called_less w2 w1 h bl.code in omega (arith, x, y))
      (λ bl. let x = loads_call w2 n hs n hs (promoted_code n hs bl.code ++ closing n hs bl.end) in let z = code_calls w2 n hs bl.code bl.end in let y = called_less w2 w1 h bl.code in omega (arith, x, y, z))
      fn.loops fn.blocks in
      let b = ap (repeated_in (passes mark w2)) (function_promoted hss q f fn e) in
      omega (arith, a, b)

  reaches_less : (mark k f : ℕ) → reaches q2.functions mark k f ≤ reaches q.functions mark k f
  reaches_less mark zero f = omega arith
  reaches_less mark (suc k) f = function_passes mark f (reaches q2.functions mark k) (reaches q.functions mark k) (λ g. reaches_less mark k g) (slice_get q.functions f) refl

  pub reach_less : (mark : ℕ) → reach q2 mark ≤ reach q mark
  reach_less mark = reaches_less mark (suc q.main) q.main

  -- and no more is executed
  module _ (paid : ArePaid q hss) where
    function_weight : (f : ℕ) (w2 w1 : ℕ → ℕ) → ((g : ℕ) → w2 g ≤ w1 g) → (o : Option (Function ℕ Note)) → slice_get q.functions f ≡ o → repeated_in (λ b. block_room b + called w2 b.code) (slice_get q2.functions f) ≤ repeated_in (λ b. block_room b + called w1 b.code) o
    function_weight f w2 w1 h None e = let a = ap (repeated_in (λ b. block_room b + called w2 b.code)) (function_none hss q f e) in omega (arith, a)
    function_weight f w2 w1 h (Some fn) e =
        let hs = residents_at hss f in
        let n = fn.size in
        let gn = promoted_function hs fn in
        let a = repeated_less n hs (λ b. called w2 b.code) (λ b. called w1 b.code) (λ bl. let x = code_calls w2 n hs bl.code bl.end in let y = called_less w2 w1 h bl.code in omega (arith, x, y))
        (λ bl. let x = loads_call w2 n hs n hs (promoted_code n hs bl.code ++ closing n hs bl.end) in let z = code_calls w2 n hs bl.code bl.end in let y = called_less w2 w1 h bl.code in omega (arith, x, y, z))
        fn.loops fn.blocks in
        let b = ap (repeated_in (λ b. block_room b + called w2 b.code)) (function_promoted hss q f fn e) in
        let c = repeated_sum block_room (λ b. called w2 b.code) fn.loops 0 gn.blocks in
        let d = repeated_sum block_room (λ b. called w1 b.code) fn.loops 0 fn.blocks in
        let p = paid f fn e in
        omega (arith, a, b, c, d, p)

    weights_less : (k f : ℕ) → weights q2.functions k f ≤ weights q.functions k f
    weights_less zero f = omega arith
    weights_less (suc k) f =
        let a = function_weight f (weights q2.functions k) (weights q.functions k) (λ g. weights_less k g) (slice_get q.functions f) refl in
        omega (arith, a)

    pub weight_less : weight q2 ≤ weight q
    weight_less = weights_less (suc q.main) q.main
