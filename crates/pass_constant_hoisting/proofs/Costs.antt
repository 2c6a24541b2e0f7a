-- What words in registers cost.
use Rattle.std.proofs.Common.{◌≡◌, ◌≤◌, ℕ, zero, suc, ◌+◌, ◌*◌, Bool, true, false, List, [], ◌∷◌, ◌++◌, length, Option, Some, None, refl, ap, arith}
use Rattle.std.specs.Prelude.{All, map, take, slice_get, sum_by, if◌then◌else◌, nat_le, ◌&&◌}
use Rattle.std.proofs.Math.Nat.{mul-le-mul_left}
use Rattle.std.proofs.lemmas.Bool.{leb-true}
use Rattle.std.proofs.lemmas.List.Elements.{All-head, All-tail}
use Rattle.std.proofs.lemmas.List.Sums.{sum_by-append, sum_by-cons}
use Rattle.low_ir.specs.Code.{Constant, Set, Operate, Point, Load, Store, Put, Get, Instr, Do, Call, End, Jump, Branch, Return, Block, Loop, Function, Low, Note}
use Rattle.low_ir.specs.Formed.{IsLoop, IsLow}
use Rattle.low_ir.specs.Room.{block_room, called, end_room, function_room, instr_room, marks_once, most_starts, reach, reaches, repeated, repeated_in, times}
use Rattle.pass_constant_hoisting.specs.Carried.{HeldIsCheap}
use Rattle.pass_constant_hoisting.specs.Holding.{fills, held_block, held_end, held_function, held_functions, held_instr, held_program, opened, words_at, words_in}
use Rattle.pass_constant_hoisting.proofs.Tables.{function_held, function_none, held_at}

-- two for each loop at most
pub words_few : (ws : List ℕ) (fn : Function ℕ Note) → length (words_in ws fn) ≤ 2 * length fn.loops
words_few ws fn = go (2 * length fn.loops) ws
  where
    go : (n : ℕ) (ws : List ℕ) → length (take n ws) ≤ n
    go zero ws = omega arith
    go (suc n) [] = omega arith
    go (suc n) (w ∷ ws) = let h = go n ws in omega (arith, h)

module _ (n : ℕ) (ws : List ℕ) where
  instr_same : (i : Instr ℕ Note) → instr_room (held_instr n ws i) ≡ instr_room i
  instr_same (Do (Set d x)) = refl
  instr_same (Do (Operate operator d x y)) = refl
  instr_same (Do (Point d a)) = refl
  instr_same (Do (Load kind d a)) = refl
  instr_same (Do (Store kind a x)) = refl
  instr_same (Do (Put x)) = refl
  instr_same (Do (Get d)) = refl
  instr_same (Call d f args note) = refl

  end_same : (e : End ℕ) → end_room (held_end n ws e) ≡ end_room e
  end_same (Jump b) = refl
  end_same (Branch c x y b1 b2) = refl
  end_same (Return x) = refl

  code_same : (is : List (Instr ℕ Note)) → sum_by instr_room (map (held_instr n ws) is) ≡ sum_by instr_room is
  code_same [] = refl
  code_same (i ∷ is) =
      let h = code_same is in
      let a = sum_by-cons instr_room (held_instr n ws i) (map (held_instr n ws) is) in
      let b = sum_by-cons instr_room i is in
      let e = instr_same i in
      omega (arith, h, a, b, e)

  called_same : (worth : ℕ → ℕ) (is : List (Instr ℕ Note)) → called worth (map (held_instr n ws) is) ≡ called worth is
  called_same worth [] = refl
  called_same worth (Do i ∷ is) = called_same worth is
  called_same worth (Call d f args note ∷ is) = let h = called_same worth is in omega (arith, h)

  pub room_same : (bl : Block ℕ Note) → block_room (held_block n ws bl) ≡ block_room bl
  room_same bl = let a = code_same bl.code in let b = end_same bl.end in omega (arith, a, b)

fills_room : (r : ℕ) (ws : List ℕ) → sum_by instr_room (fills r ws) ≡ 4 * length ws
fills_room r [] = refl
fills_room r (w ∷ ws) = let h = fills_room (suc r) ws in let e = sum_by-cons instr_room (Do (Set r (Constant w))) (fills (suc r) ws) in omega (arith, h, e)

called_fills : (worth : ℕ → ℕ) (r : ℕ) (ws : List ℕ) (is : List (Instr ℕ Note)) → called worth (fills r ws ++ is) ≡ called worth is
called_fills worth r [] is = refl
called_fills worth r (w ∷ ws) is = called_fills worth (suc r) ws is

first_room : (n : ℕ) (ws : List ℕ) (bl : Block ℕ Note) → block_room (held_at n ws 0 bl) ≡ 4 * length ws + block_room bl
first_room n ws bl =
    let a = sum_by-append instr_room (fills n ws) (map (held_instr n ws) bl.code) in
    let b = fills_room n ws in
    let c = code_same n ws bl.code in
    let d = end_same n ws bl.end in
    omega (arith, a, b, c, d)

-- room
blocks_room : (n : ℕ) (ws : List ℕ) (bs : List (Block ℕ Note)) → sum_by block_room (map (held_block n ws) bs) ≡ sum_by block_room bs
blocks_room n ws [] = refl
blocks_room n ws (b ∷ bs) =
    let h = blocks_room n ws bs in
    let a = sum_by-cons block_room (held_block n ws b) (map (held_block n ws) bs) in
    let c = sum_by-cons block_room b bs in
    let e = room_same n ws b in
    omega (arith, h, a, c, e)

opened_room : (n : ℕ) (ws : List ℕ) (bs : List (Block ℕ Note)) → sum_by block_room (opened (fills n ws) (map (held_block n ws) bs)) ≤ 4 * length ws + sum_by block_room bs
opened_room n ws [] = omega arith
opened_room n ws (b ∷ bs) =
    let h = blocks_room n ws bs in
    let a = sum_by-cons block_room (held_at n ws 0 b) (map (held_block n ws) bs) in
    let c = sum_by-cons block_room b bs in
    let e = first_room n ws b in
    omega (arith, h, a, c, e)

pub rooms_held : (wss : List (List ℕ)) (k : ℕ) (fns : List (Function ℕ Note)) → sum_by function_room (held_functions wss k fns) ≤ sum_by function_room fns + 8 * sum_by (λ (fn : Function ℕ Note). length fn.loops) fns
rooms_held wss k [] = omega arith
rooms_held wss k (fn ∷ fns) =
    let ws = words_in (words_at wss k) fn in
    let h = rooms_held wss (suc k) fns in
    let a = sum_by-cons function_room (held_function (words_at wss k) fn) (held_functions wss (suc k) fns) in
    let b = sum_by-cons function_room fn fns in
    let c = sum_by-cons (λ (x : Function ℕ Note). length x.loops) fn fns in
    let d = opened_room fn.size ws fn.blocks in
    let e = words_few (words_at wss k) fn in
    omega (arith, h, a, b, c, d, e)

pub loops_held : (wss : List (List ℕ)) (k : ℕ) (fns : List (Function ℕ Note)) → sum_by (λ (fn : Function ℕ Note). length fn.loops) (held_functions wss k fns) ≡ sum_by (λ (fn : Function ℕ Note). length fn.loops) fns
loops_held wss k [] = refl
loops_held wss k (fn ∷ fns) =
    let h = loops_held wss (suc k) fns in
    let a = sum_by-cons (λ (x : Function ℕ Note). length x.loops) (held_function (words_at wss k) fn) (held_functions wss (suc k) fns) in
    let b = sum_by-cons (λ (x : Function ℕ Note). length x.loops) fn fns in
    omega (arith, h, a, b)

-- blocks as often as they start; the first one stands in no loop
times_first : (fn : Function ℕ Note) (ls : List Loop) → All (IsLoop fn) ls → times ls 0 ≡ 1
times_first fn [] h = refl
times_first fn (l ∷ ls) h = by_test (nat_le l.header 0) refl (times_first fn ls (All-tail (IsLoop fn) l ls h))
  where
    by_test : (b : Bool) → nat_le l.header 0 ≡ b → times ls 0 ≡ 1 → (if b && nat_le 0 l.latch then most_starts l else 1) * times ls 0 ≡ 1
    by_test true e rest = let a = leb-true l.header 0 e in let c = (All-head (IsLoop fn) l ls h).header in absurd (omega (arith, a, c))
    by_test false e rest = omega (arith, rest)

module _ (n : ℕ) (ws : List ℕ) (V2 V1 : Block ℕ Note → ℕ) (less : (bl : Block ℕ Note) → V2 (held_block n ws bl) ≤ V1 bl) where
  repeated_rest : (ls : List Loop) (b : ℕ) (bs : List (Block ℕ Note)) → repeated V2 ls b (map (held_block n ws) bs) ≤ repeated V1 ls b bs
  repeated_rest ls b [] = omega arith
  repeated_rest ls b (bl ∷ bs) =
      let h = repeated_rest ls (suc b) bs in
      let a : times ls b * V2 (held_block n ws bl) ≤ times ls b * V1 bl = mul-le-mul_left (times ls b) (less bl) in
      omega (arith, h, a)

  repeated_held : (extra : ℕ) → ((bl : Block ℕ Note) → V2 (held_at n ws 0 bl) ≤ extra + V1 bl) → (ls : List Loop) → times ls 0 ≡ 1 → (bs : List (Block ℕ Note)) → repeated V2 ls 0 (opened (fills n ws) (map (held_block n ws) bs)) ≤ extra + repeated V1 ls 0 bs
  repeated_held extra first ls one [] = omega arith
  repeated_held extra first ls one (bl ∷ bs) =
      let h = repeated_rest ls 1 bs in
      let a : times ls 0 * V2 (held_at n ws 0 bl) ≡ 1 * V2 (held_at n ws 0 bl) = ap (λ x. x * V2 (held_at n ws 0 bl)) one in
      let c : times ls 0 * V1 bl ≡ 1 * V1 bl = ap (λ x. x * V1 bl) one in
      let e = first bl in
      omega (arith, h, a, c, e)

module _ (wss : List (List ℕ)) (q : Low) (low : IsLow q) where
  abbrev q2 : Low
  q2 = held_program wss q

  -- a call executes at most 8 more for each loop of its function
  pub spared_held : (f : ℕ) (fn : Function ℕ Note) (worth : ℕ → ℕ) → slice_get q.functions f ≡ Some fn → repeated_in (λ b. block_room b + called worth b.code) (slice_get q2.functions f) ≤ 8 * length fn.loops + repeated_in (λ b. block_room b + called worth b.code) (Some fn)
  spared_held f fn worth e =
      let ws = words_in (words_at wss f) fn in
      let n = fn.size in
      let V : Block ℕ Note → ℕ = λ b. block_room b + called worth b.code in
      let a = repeated_held n ws V V (λ bl. let x = room_same n ws bl in let y = called_same n ws worth bl.code in omega (arith, x, y))
      (4 * length ws) (λ bl. let x = first_room n ws bl in let y = called_fills worth n ws (map (held_instr n ws) bl.code) in let z = called_same n ws worth bl.code in omega (arith, x, y, z))
      fn.loops (times_first fn fn.loops (low.functions f fn e).loops) fn.blocks in
      let b = ap (repeated_in V) (function_held wss q f fn e) in
      let c = words_few (words_at wss f) fn in
      omega (arith, a, b, c)

  -- marks are passed as often
  called_less : (w2 w1 : ℕ → ℕ) → ((g : ℕ) → w2 g ≤ w1 g) → (is : List (Instr ℕ Note)) → called w2 is ≤ called w1 is
  called_less w2 w1 h [] = omega arith
  called_less w2 w1 h (Do i ∷ is) = called_less w2 w1 h is
  called_less w2 w1 h (Call d f args note ∷ is) = let a = called_less w2 w1 h is in let b = h f in omega (arith, a, b)

  -- marks that a block may pass, where calls may pass so many
  abbrev passes : ℕ → (ℕ → ℕ) → Block ℕ Note → ℕ
  passes mark w b = marks_once b.mark mark + called w b.code

  function_passes : (mark f : ℕ) (w2 w1 : ℕ → ℕ) → ((g : ℕ) → w2 g ≤ w1 g) → (o : Option (Function ℕ Note)) → slice_get q.functions f ≡ o → repeated_in (passes mark w2) (slice_get q2.functions f) ≤ repeated_in (passes mark w1) o
  function_passes mark f w2 w1 h None e = let a = ap (repeated_in (passes mark w2)) (function_none wss q f e) in omega (arith, a)
  function_passes mark f w2 w1 h (Some fn) e =
      let ws = words_in (words_at wss f) fn in
      let n = fn.size in
      let a = repeated_held n ws (passes mark w2) (passes mark w1) (λ bl. let x = called_same n ws w2 bl.code in let y = called_less w2 w1 h bl.code in omega (arith, x, y))
      0 (λ bl. let x = called_fills w2 n ws (map (held_instr n ws) bl.code) in let z = called_same n ws w2 bl.code in let y = called_less w2 w1 h bl.code in omega (arith, x, y, z))
      fn.loops (times_first fn fn.loops (low.functions f fn e).loops) fn.blocks in
      let b = ap (repeated_in (passes mark w2)) (function_held wss q f fn e) in
      omega (arith, a, b)

  reaches_less : (mark k f : ℕ) → reaches q2.functions mark k f ≤ reaches q.functions mark k f
  reaches_less mark zero f = omega arith
  reaches_less mark (suc k) f = function_passes mark f (reaches q2.functions mark k) (reaches q.functions mark k) (λ g. reaches_less mark k g) (slice_get q.functions f) refl

  pub reach_held : (mark : ℕ) → reach q2 mark ≤ reach q mark
  reach_held mark = reaches_less mark (suc q.main) q.main

pub cheap : HeldIsCheap
cheap wss q low = record { room = rooms_held wss 0 q.functions; weights = spared_held wss q low; reach = reach_held wss q low }
