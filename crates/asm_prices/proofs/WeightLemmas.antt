-- Blocks as often as they may start: sums of prices against those of a low program.
use Rattle.std.proofs.Common.{◌≡◌, ℕ, zero, suc, ◌+◌, ◌*◌, ◌<◌, ◌≤◌, Bool, true, false, List, [], ◌∷◌, length, map, Contains, Option, Some, None, refl, ap, ◌∙◌, arith}
use Rattle.std.specs.Prelude.{◌&&◌, nat_le, slice_get, if◌then◌else◌}
use Rattle.std.proofs.Math.Nat.{mul-le-mul_left}
use Rattle.std.proofs.lemmas.Bool.Decides.{nat_tests}
use Rattle.low_ir.specs.declared.places.Place.{Place}
use Rattle.low_ir.specs.Code.{Instr, Do, Call, Loop}
use Rattle.low_ir.specs.Room.{block_room, most_starts, times, called, repeated, repeated_in, weights, marks_once, reaches}
use Rattle.asm_program.specs.Functions.{PlacedBlock, PlacedFunction, callees_in}
use Rattle.asm_prices.specs.Worths as worths
use Rattle.asm_prices.specs.Bounds.{bound_of}

pub mul_le : (k a b : ℕ) → a ≤ b → k * a ≤ k * b
mul_le k a b h = mul-le-mul_left k h

-- how often blocks may start

pub times_same : (ls : List Loop) (b : ℕ) → worths.times (map bound_of ls) b ≡ times ls b
times_same [] b = refl
times_same (l ∷ ls) b = ap (λ n. (if nat_le l.header b && nat_le b l.latch then most_starts l else 1) * n) (times_same ls b)

one_outside : (x y : Bool) (m : ℕ) → (x ≡ false) → (if x && y then m else 1) ≡ 1
one_outside true y m e = cc
one_outside false y m e = refl

one_behind : (x y : Bool) (m : ℕ) → (y ≡ false) → (if x && y then m else 1) ≡ 1
one_behind true true m e = cc
one_behind true false m e = refl
one_behind false y m e = refl

rest_of : {A : Type 0} (P : A → Type 0) (x : A) (xs : List A) → ((y : A) → Contains (x ∷ xs) y → P y) → (y : A) → Contains xs y → P y
rest_of P x xs h y has = h y (suc has.0, (let i = has.1 in omega arith), has.2)

-- the first block is in no loop
pub times_first : (ls : List Loop) → ((l : Loop) → Contains ls l → 0 < l.header) → times ls 0 ≡ 1
times_first [] h = refl
times_first (l ∷ ls) h =
    let some : 0 < l.header = h l (zero, omega arith, refl) in
    let e : nat_le l.header 0 ≡ false = grind (arith, nat_tests) in
    let f = one_outside (nat_le l.header 0) (nat_le 0 l.latch) (most_starts l) e in
    let r = times_first ls (rest_of (λ (k : Loop). 0 < k.header) l ls h) in
    ap (λ n. n * times ls 0) f ∙ ap (λ n. 1 * n) r

-- nor is a block behind all
pub times_behind : (ls : List Loop) (n : ℕ) → ((l : Loop) → Contains ls l → l.latch < n) → times ls n ≡ 1
times_behind [] n h = refl
times_behind (l ∷ ls) n h =
    let less : l.latch < n = h l (zero, omega arith, refl) in
    let e : nat_le n l.latch ≡ false = grind (arith, nat_tests) in
    let f = one_behind (nat_le l.header n) (nat_le n l.latch) (most_starts l) e in
    let r = times_behind ls n (rest_of (λ (k : Loop). k.latch < n) l ls h) in
    ap (λ m. m * times ls n) f ∙ ap (λ m. 1 * m) r

pub split_repeated : (price : ℕ → ℕ) (ks : List worths.LoopBound) (b n e : ℕ) → worths.repeated price ks b (n + e) ≡ worths.repeated price ks b n + worths.repeated price ks (b + n) e
split_repeated price ks b zero e = let z : 0 + e ≡ e = omega arith in let y : b + 0 ≡ b = omega arith in let s = ap (worths.repeated price ks b) z in let t = ap (λ k. worths.repeated price ks k e) y in omega arith
split_repeated price ks b (suc n) e =
    let z : suc n + e ≡ suc (n + e) = omega arith in
    let y : suc b + n ≡ b + suc n = omega arith in
    let r = split_repeated price ks (suc b) n e in
    let s = ap (worths.repeated price ks b) z in
    let t = ap (λ k. worths.repeated price ks k e) y in omega arith

-- block by block
pub repeated_le : (price : ℕ → ℕ) (w : PlacedBlock → ℕ) (ls : List Loop) (b : ℕ) (bs : List PlacedBlock) → ((n : ℕ) (block : PlacedBlock) → slice_get bs n ≡ Some block → price (b + n) ≤ w block) → worths.repeated price (map bound_of ls) b (length bs) ≤ repeated w ls b bs
repeated_le price w ls b [] h = omega arith
repeated_le price w ls b (block ∷ bs) h =
    let zero_is : b + 0 ≡ b = omega arith in
    let here = h zero block refl in
    let q = ap price zero_is in
    let t = ap (λ n. n * price b) (times_same ls b) in
    let m = mul_le (times ls b) (price b) (w block) (omega arith) in
    let r = repeated_le price w ls (suc b) bs (λ n x e. let s : b + suc n ≡ suc b + n = omega arith in let k = h (suc n) x e in let u = ap price s in omega arith) in omega arith

-- the calls of a block

pub called_le : (v w : ℕ → ℕ) (is : List (Instr Place (List ℕ))) → ((g : ℕ) → Contains (callees_in is) g → v g ≤ w g) → called v is ≤ called w is
called_le v w [] h = omega arith
called_le v w (Do i ∷ is) h = called_le v w is h
called_le v w (Call d g args note ∷ is) h =
    let here = h g (zero, omega arith, refl) in
    let r = called_le v w is (rest_of (λ k. v k ≤ w k) g (callees_in is) h) in omega arith

low_le : (v w : PlacedBlock → ℕ) (ls : List Loop) (b : ℕ) (bs : List PlacedBlock) → ((n : ℕ) (block : PlacedBlock) → slice_get bs n ≡ Some block → v block ≤ w block) → repeated v ls b bs ≤ repeated w ls b bs
low_le v w ls b [] h = omega arith
low_le v w ls b (block ∷ bs) h =
    let here = h zero block refl in
    let m = mul_le (times ls b) (v block) (w block) here in
    let r = low_le v w ls (suc b) bs (λ n x e. h (suc n) x e) in omega arith

pub in_le : (v w : PlacedBlock → ℕ) (fn : PlacedFunction) → ((n : ℕ) (block : PlacedBlock) → slice_get fn.blocks n ≡ Some block → v block ≤ w block) → repeated v fn.loops 0 fn.blocks ≤ repeated w fn.loops 0 fn.blocks
in_le v w fn h = low_le v w fn.loops 0 fn.blocks h

-- deeper calls count no less

weights_up : (fs : List PlacedFunction) (n f : ℕ) → weights fs n f ≤ weights fs (suc n) f
weights_up fs zero f = omega arith
weights_up fs (suc n) f = by_option (λ g. weights_up fs n g) (slice_get fs f)
  where
    by_option : ((g : ℕ) → weights fs n g ≤ weights fs (suc n) g) → (o : Option PlacedFunction) → 64 + repeated_in (λ b. block_room b + called (weights fs n) b.code) o ≤ 64 + repeated_in (λ b. block_room b + called (weights fs (suc n)) b.code) o
    by_option up None = omega arith
    by_option up (Some fn) =
        let r = in_le (λ b. block_room b + called (weights fs n) b.code) (λ b. block_room b + called (weights fs (suc n)) b.code) fn
        (λ k block e. let q = called_le (weights fs n) (weights fs (suc n)) block.code (λ g has. up g) in omega arith) in omega arith

pub weights_more : (fs : List PlacedFunction) (n k f : ℕ) → weights fs n f ≤ weights fs (n + k) f
weights_more fs n zero f = let e : n + 0 ≡ n = omega arith in let q = ap (λ j. weights fs j f) e in omega arith
weights_more fs n (suc k) f = let e : n + suc k ≡ suc (n + k) = omega arith in let q = ap (λ j. weights fs j f) e in let r = weights_more fs n k f in let s = weights_up fs (n + k) f in omega arith

reaches_up : (fs : List PlacedFunction) (mark n f : ℕ) → reaches fs mark n f ≤ reaches fs mark (suc n) f
reaches_up fs mark zero f = omega arith
reaches_up fs mark (suc n) f = by_option (λ g. reaches_up fs mark n g) (slice_get fs f)
  where
    by_option : ((g : ℕ) → reaches fs mark n g ≤ reaches fs mark (suc n) g) → (o : Option PlacedFunction) → repeated_in (λ b. marks_once b.mark mark + called (reaches fs mark n) b.code) o ≤ repeated_in (λ b. marks_once b.mark mark + called (reaches fs mark (suc n)) b.code) o
    by_option up None = omega arith
    by_option up (Some fn) =
        in_le (λ b. marks_once b.mark mark + called (reaches fs mark n) b.code) (λ b. marks_once b.mark mark + called (reaches fs mark (suc n)) b.code) fn
        (λ k block e. let q = called_le (reaches fs mark n) (reaches fs mark (suc n)) block.code (λ g has. up g) in omega arith)

pub reaches_more : (fs : List PlacedFunction) (mark n k f : ℕ) → reaches fs mark n f ≤ reaches fs mark (n + k) f
reaches_more fs mark n zero f = let e : n + 0 ≡ n = omega arith in let q = ap (λ j. reaches fs mark j f) e in omega arith
reaches_more fs mark n (suc k) f = let e : n + suc k ≡ suc (n + k) = omega arith in let q = ap (λ j. reaches fs mark j f) e in let r = reaches_more fs mark n k f in let s = reaches_up fs mark (n + k) f in omega arith
