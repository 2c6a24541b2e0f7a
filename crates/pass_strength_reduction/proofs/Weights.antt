-- What functions execute at most, by a table.
use Rattle.std.proofs.Common.{◌≡◌, ◌≤◌, ℕ, zero, suc, ◌+◌, ◌*◌, List, [], ◌∷◌, length, Option, Some, None, refl, arith}
use Rattle.std.specs.Prelude.{slice_get}
use Rattle.std.proofs.lemmas.List.{get_or_past}
use Rattle.low_ir.specs.Code.{Block, Do, Call, Function, Instr, Loop, Note}
use Rattle.low_ir.specs.Room.{block_room, called, frame_room, repeated, repeated_in, times, weights}
use Rattle.pass_strength_reduction.specs.Weighing.{Bounds, block_worth, worth_in}

called_less : (w v : ℕ → ℕ) → ((g : ℕ) → w g ≤ v g) → (is : List (Instr ℕ Note)) → called w is ≤ called v is
called_less w v h [] = omega arith
called_less w v h (Do i ∷ is) = called_less w v h is
called_less w v h (Call d f args note ∷ is) = let a = called_less w v h is in let b = h f in omega (arith, a, b)

-- as many times less is less
less_times : (k a b : ℕ) → a ≤ b → k * a ≤ k * b
less_times zero a b h = let none : 0 * a ≡ 0 = omega arith in omega (arith, none)
less_times (suc k) a b h =
    let more = less_times k a b h in
    let left : suc k * a ≡ a + k * a = omega arith in
    let right : suc k * b ≡ b + k * b = omega arith in
    omega (arith, h, more, left, right)

repeated_less : (V W : Block ℕ Note → ℕ) → ((b : Block ℕ Note) → V b ≤ W b) → (ls : List Loop) (n : ℕ) (bs : List (Block ℕ Note)) → repeated V ls n bs ≤ repeated W ls n bs
repeated_less V W h ls n [] = omega arith
repeated_less V W h ls n (b ∷ bs) =
    let first = less_times (times ls n) (V b) (W b) (h b) in
    let rest = repeated_less V W h ls (suc n) bs in
    omega (arith, first, rest)

past_end : (fs : List (Function ℕ Note)) (f : ℕ) → slice_get fs f ≡ None → length fs ≤ f
past_end [] f e = omega arith
past_end (x ∷ fs) zero e = cc
past_end (x ∷ fs) (suc f) e = let h = past_end fs f e in omega (arith, h)

block_less : (w v : ℕ → ℕ) → ((g : ℕ) → w g ≤ v g) → (b : Block ℕ Note) → block_room b + called w b.code ≤ block_room b + called v b.code
block_less w v h b = let less = called_less w v h b.code in omega (arith, less)

-- no call executes more than the table says
pub weights_bounded : (worths : List ℕ) (fs : List (Function ℕ Note)) → Bounds worths fs → (n f : ℕ) → weights fs n f ≤ worth_in worths f
weights_bounded worths fs bounds zero f = omega arith
weights_bounded worths fs bounds (suc n) f = by_function (λ g. weights_bounded worths fs bounds n g) (slice_get fs f) refl
  where
    by_function : ((g : ℕ) → weights fs n g ≤ worth_in worths g) → (o : Option (Function ℕ Note)) → slice_get fs f ≡ o → frame_room + repeated_in (λ b. block_room b + called (weights fs n) b.code) o ≤ worth_in worths f
    by_function below None e =
        let few = bounds.few in
        let past : length fs ≤ f = past_end fs f e in
        let is : worth_in worths f ≡ frame_room = get_or_past worths f frame_room (omega (arith, few, past)) in
        omega (arith, is)
    by_function below (Some fn) e =
        let h = repeated_less (λ b. block_room b + called (weights fs n) b.code) (block_worth worths) (block_less (weights fs n) (worth_in worths) below) fn.loops 0 fn.blocks in
        let b = bounds.bounded f fn e in
        omega (arith, h, b)
