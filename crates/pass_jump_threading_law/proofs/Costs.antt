-- A program with shorter ways takes and executes no more instructions, and passes marks no more often.
use Rattle.std.proofs.Common.{◌≡◌, ◌<◌, ◌≤◌, ◌&&◌, ℕ, Bool, true, false, zero, suc, ◌+◌, ◌*◌, List, [], ◌∷◌, length, Option, Some, None, refl, sym, ap, ◌∙◌, subst, ⊎_elim, arith}
use Rattle.std.specs.Prelude.{All, if◌then◌else◌, max, nat_le, slice_get, sum_by}
use Rattle.std.specs.List.{AllZip}
use Rattle.std.proofs.Math.Nat.{mul-le-mul_left}
use Rattle.std.proofs.lemmas.Bool.{leb-true, leb-false}
use Rattle.std.proofs.lemmas.List.Elements.{All-head, All-tail}
use Rattle.std.proofs.lemmas.List.Sums.{sum_by-cons}
use Rattle.low_ir.specs.Code.{End, Jump, Branch, Return, Block, Do, Call, Loop, Low, Note}
use Rattle.low_ir.specs.Room.{block_room, called, end_room, function_room, instr_room, marks_once, most_starts, reaches, repeated, repeated_in, times, weight, weights, reach}
use Rattle.pass_jump_threading_law.specs.Known.{Code, Known, goal}
use Rattle.pass_jump_threading_law.specs.Threads.{BlockThreaded, Blocks, EndThreaded, FunctionThreaded, IsThreaded, LoopThreaded, Plan, Settles, Stays}
use Rattle.pass_jump_threading_law.specs.Laws.{CostsNoMore}
use Rattle.low_parts.proofs.Lists.{before}
use Rattle.pass_jump_threading_law.proofs.Numbers.{IsLeft, LeftOut, not_more, not_more_back}
use Rattle.pass_jump_threading_law.proofs.Traces.{IsWithinBlocks}
use Rattle.low_parts.proofs.Runs.{LowFunction}

module _ (fn : LowFunction) (plan : Plan) where
  settled_room : (known : Known) (old : End ℕ) (b : ℕ) → goal known old ≡ Some b → 2 ≤ end_room old
  settled_room known (Jump c) b e = omega arith
  settled_room known (Branch c x y taken other) b e = omega arith
  settled_room known (Return x) b e = cc

  ends_room : (known : Known) (old new : End ℕ) → EndThreaded fn plan known old new → end_room new ≤ end_room old
  ends_room known old new h =
      ⊎_elim
      (λ (s : Settles fn plan known old new).
      let e : end_room new ≡ 2 = ap end_room s.is in
      let l = settled_room known old s.next s.goes in
      omega (arith, e, l))
      (λ (s : Stays fn plan known old new). stays old s)
      h
    where
      stays : (old : End ℕ) → Stays fn plan known old new → end_room new ≤ end_room old
      stays (Jump b) s = absurd s
      stays (Branch c x y taken other) s = let e : end_room new ≡ 9 = ap end_room s.is in omega (arith, e)
      stays (Return x) s = let e : end_room new ≡ 4 = ap end_room s in omega (arith, e)

  block_less : (n : ℕ) (b c : Block ℕ Note) → BlockThreaded fn plan n b c → block_room c ≤ block_room b
  block_less n b c h =
      let e : sum_by instr_room c.code ≡ sum_by instr_room b.code = ap (sum_by instr_room) h.code in
      let l = ends_room h.out b.end c.end h.end in
      omega (arith, e, l)

  blocks_room : (bs : List (Block ℕ Note)) (n m : ℕ) (cs : List (Block ℕ Note)) → Blocks fn plan n m bs cs → sum_by block_room cs ≤ sum_by block_room bs
  blocks_room [] n m cs h =
      let e : sum_by block_room cs ≡ 0 = ap (sum_by block_room) h in
      omega (arith, e)
  blocks_room (b ∷ bs) n m [] h =
      let k = blocks_room bs (suc n) m [] h.1 in
      let e = sum_by-cons block_room b bs in
      omega (arith, k, e)
  blocks_room (b ∷ bs) n m (c ∷ cs) h =
      let e = sum_by-cons block_room b bs in
      let f = sum_by-cons block_room c cs in
      ⊎_elim
      (λ (out : LeftOut fn plan n m bs (c ∷ cs)). let k = blocks_room bs (suc n) m (c ∷ cs) out.1 in omega (arith, k, e))
      (λ (kept : IsLeft fn plan n m b c bs cs).
      let k = blocks_room bs (suc n) (suc m) cs kept.2 in
      let l = block_less n b c kept.1 in
      omega (arith, k, l, e, f))
      h

functions_room : (fs gs : List LowFunction) → AllZip FunctionThreaded fs gs → sum_by function_room gs ≤ sum_by function_room fs
functions_room [] [] h = omega arith
functions_room [] (g ∷ gs) h = absurd h
functions_room (f ∷ fs) [] h = absurd h
functions_room (f ∷ fs) (g ∷ gs) h =
    let k = functions_room fs gs h.1 in
    let l = blocks_room f h.0.plan f.blocks 0 0 g.blocks h.0.blocks in
    let e = sum_by-cons function_room f fs in
    let i = sum_by-cons function_room g gs in
    omega (arith, k, l, e, i)

same_le : (a b c d : ℕ) → (a ≤ b → c ≤ d) → (c ≤ d → a ≤ b) → nat_le c d ≡ nat_le a b
same_le a b c d f g = by_tests (nat_le a b) (nat_le c d) refl refl
  where
    by_tests : (x y : Bool) → nat_le a b ≡ x → nat_le c d ≡ y → nat_le c d ≡ nat_le a b
    by_tests true true ex ey = ey ∙ sym ex
    by_tests false false ex ey = ey ∙ sym ex
    by_tests true false ex ey =
        let le = f (leb-true a b ex) in
        let gt = leb-false c d ey in
        absurd (omega (arith, le, gt))
    by_tests false true ex ey =
        let le = g (leb-true c d ey) in
        let gt = leb-false a b ex in
        absurd (omega (arith, le, gt))

module _ (fn gn : LowFunction) (h : FunctionThreaded fn gn) where
  -- a block may start as often as it might
  times_same : (n k : ℕ) → n < length fn.blocks → h.plan.name n ≡ Some k → (ls ks : List Loop) → AllZip (LoopThreaded h.plan.name) ls ks → All (IsWithinBlocks fn) ls → times ks k ≡ times ls n
  times_same n k inside named [] [] loops within = refl
  times_same n k inside named [] (y ∷ ks) loops within = absurd loops
  times_same n k inside named (l ∷ ls) [] loops within = absurd loops
  times_same n k inside named (l ∷ ls) (y ∷ ks) loops within =
      let loop = loops.0 in
      let one = All-head (IsWithinBlocks fn) l ls within in
      let first : nat_le y.header k ≡ nat_le l.header n =
      same_le l.header n y.header k (not_more fn gn h.plan h.blocks l.header n y.header k inside loop.header named) (not_more_back fn gn h.plan h.blocks l.header n y.header k one.0 loop.header named) in
      let last : nat_le k y.latch ≡ nat_le n l.latch =
      same_le n l.latch k y.latch (not_more fn gn h.plan h.blocks n l.latch k y.latch one.1 named loop.latch) (not_more_back fn gn h.plan h.blocks n l.latch k y.latch inside named loop.latch) in
      ap (λ b. (if b && nat_le k y.latch then most_starts y else 1) * times ks k) first
      ∙ ap (λ b. (if nat_le l.header n && b then most_starts y else 1) * times ks k) last
      ∙ ap (λ m. (if nat_le l.header n && nat_le n l.latch then max 1 m else 1) * times ks k) loop.most
      ∙ ap (λ m. (if nat_le l.header n && nat_le n l.latch then most_starts l else 1) * m) (times_same n k inside named ls ks loops.1 (All-tail (IsWithinBlocks fn) l ls within))

  module _ (within : All (IsWithinBlocks fn) fn.loops) (f g : Block ℕ Note → ℕ) (le : (n : ℕ) (b c : Block ℕ Note) → BlockThreaded fn h.plan n b c → f c ≤ g b) where
    repeated_le : (bs : List (Block ℕ Note)) (n m : ℕ) (cs : List (Block ℕ Note)) → n + length bs ≡ length fn.blocks → Blocks fn h.plan n m bs cs → repeated f gn.loops m cs ≤ repeated g fn.loops n bs
    repeated_le [] n m cs long k =
        let e : repeated f gn.loops m cs ≡ 0 = ap (repeated f gn.loops m) k in
        omega (arith, e)
    repeated_le (b ∷ bs) n m [] long k =
        let more = repeated_le bs (suc n) m [] (omega (arith, long)) k.1 in
        omega arith
    repeated_le (b ∷ bs) n m (c ∷ cs) long k =
        ⊎_elim
        (λ (out : LeftOut fn h.plan n m bs (c ∷ cs)). let more = repeated_le bs (suc n) m (c ∷ cs) (omega (arith, long)) out.1 in at_least (times fn.loops n * g b) (repeated f gn.loops m (c ∷ cs)) (repeated g fn.loops (suc n) bs) more)
        (λ (kept : IsLeft fn h.plan n m b c bs cs).
        let more = repeated_le bs (suc n) (suc m) cs (omega (arith, long)) kept.2 in
        let inside : n < length fn.blocks = omega (arith, long) in
        let often = times_same n m inside kept.0 fn.loops gn.loops h.loops within in
        let one = mul-le-mul_left (times fn.loops n) (le n b c kept.1) in
        sums (times gn.loops m) (times fn.loops n) (f c) (times fn.loops n * g b) (repeated f gn.loops (suc m) cs) (repeated g fn.loops (suc n) bs) often one more)
        k
      where
        at_least : (a x y : ℕ) → x ≤ y → x ≤ a + y
        at_least a x y le = omega (arith, le)

        sums : (s t x y u v : ℕ) → s ≡ t → t * x ≤ y → u ≤ v → s * x + u ≤ y + v
        sums s t x y u v e one more = subst (λ n. n * x + u ≤ y + v) (sym e) (omega (arith, one, more))

module _ (p q : Low) (h : IsThreaded p q) (within : (f : ℕ) (fn : LowFunction) → slice_get p.functions f ≡ Some fn → All (IsWithinBlocks fn) fn.loops) where
  function_le : (f g : Block ℕ Note → ℕ) → ((fn : LowFunction) (plan : Plan) (n : ℕ) (b c : Block ℕ Note) → BlockThreaded fn plan n b c → f c ≤ g b) → (n : ℕ) → repeated_in f (slice_get q.functions n) ≤ repeated_in g (slice_get p.functions n)
  function_le f g le n = by_function (slice_get q.functions n) refl
    where
      by_function : (o : Option LowFunction) → slice_get q.functions n ≡ o → repeated_in f o ≤ repeated_in g (slice_get p.functions n)
      by_function None e = omega arith
      by_function (Some gn) e =
          let k = before FunctionThreaded p.functions q.functions n gn h.functions e in
          subst (λ o. repeated_in f (Some gn) ≤ repeated_in g o) (sym k.there)
          (repeated_le k.it gn k.related (within n k.it k.there) f g (λ j b c r. le k.it k.related.plan j b c r) k.it.blocks 0 0 gn.blocks (omega arith) k.related.blocks)

  called_le : (f g : ℕ → ℕ) → ((n : ℕ) → f n ≤ g n) → (is : Code) → called f is ≤ called g is
  called_le f g le [] = omega arith
  called_le f g le (Do i ∷ is) = called_le f g le is
  called_le f g le (Call d n args note ∷ is) =
      let one = le n in
      let more = called_le f g le is in
      omega (arith, one, more)

  weights_le : (n f : ℕ) → weights q.functions n f ≤ weights p.functions n f
  weights_le zero f = omega arith
  weights_le (suc n) f =
      let w = weights q.functions n in
      let v = weights p.functions n in
      let k =
      function_le (λ b. block_room b + called w b.code) (λ b. block_room b + called v b.code)
      (λ fn plan j b c r.
      let one = block_less fn plan j b c r in
      let same : called w c.code ≡ called w b.code = ap (called w) r.code in
      let more = called_le w v (weights_le n) b.code in
      omega (arith, one, same, more))
      f in
      omega (arith, k)

  reaches_le : (mark n f : ℕ) → reaches q.functions mark n f ≤ reaches p.functions mark n f
  reaches_le mark zero f = omega arith
  reaches_le mark (suc n) f =
      let w = reaches q.functions mark n in
      let v = reaches p.functions mark n in
      function_le (λ b. marks_once b.mark mark + called w b.code) (λ b. marks_once b.mark mark + called v b.code)
      (λ fn plan j b c r.
      let one : marks_once c.mark mark ≡ marks_once b.mark mark = ap (λ m. marks_once m mark) r.mark in
      let same : called w c.code ≡ called w b.code = ap (called w) r.code in
      let more = called_le w v (reaches_le mark n) b.code in
      omega (arith, one, same, more))
      f

  pub costs : CostsNoMore p q
  costs =
      record {
        room = functions_room p.functions q.functions h.functions;
        weight = subst (λ m. weights q.functions (suc m) m ≤ weight p) (sym h.main) (weights_le (suc p.main) p.main);
        reach = λ mark. subst (λ m. reaches q.functions mark (suc m) m ≤ reach p mark) (sym h.main) (reaches_le mark (suc p.main) p.main);
      }
