-- Sums over blocks in both numberings.
use Rattle.std.proofs.Common.{◌≡◌, ℕ, suc, ◌+◌, ◌-◌, ◌*◌, ◌≤◌, Bool, true, false, List, [], ◌∷◌, length, map, refl, sym, ap, ◌∙◌, arith}
use Rattle.std.specs.Prelude.{◌&&◌, if◌then◌else◌, nat_le}
use Rattle.std.proofs.lemmas.Bool.Decides.{nat_tests}
use Rattle.low_ir.specs.Code.{Block, Loop, Note}
use Rattle.low_ir.specs.Room.{repeated, times}
use Rattle.lower_definition.specs.Programs.{turned, turned_loop}
use Rattle.lower_nesting.specs.Segments.{AllInside}
use Rattle.lower_budget.proofs.Sums.{repeats, weighted}
use Rattle.std.specs.Prelude.{max}

-- a loop's body counts at least once
abbrev pub most : ℕ → ℕ
most m = max 1 m

le_true : (a b : ℕ) → nat_le a b ≡ true → a ≤ b
le_true a b t = grind (arith, nat_tests, t)

true_le : (a b : ℕ) → a ≤ b → nat_le a b ≡ true
true_le a b h = grind (arith, nat_tests, h)

same_test : (x y : Bool) → (x ≡ true → y ≡ true) → (y ≡ true → x ≡ true) → x ≡ y
same_test true y f g = sym (f refl)
same_test false true f g = g refl
same_test false false f g = refl

and_turned : (a b c d : Bool) → a ≡ d → b ≡ c → (a && b) ≡ (c && d)
and_turned a b c d e f = ap (λ x. x && b) e ∙ ap (λ x. d && x) f ∙ swapped d c
  where
    swapped : (x y : Bool) → (x && y) ≡ (y && x)
    swapped true true = refl
    swapped true false = refl
    swapped false true = refl
    swapped false false = refl

pub times-turned : (last i b : ℕ) (ls : List Loop) → AllInside 0 last ls → i + b ≡ last → times (map (turned_loop last) ls) b ≡ repeats most ls i
times-turned last i b [] inside e = refl
times-turned last i b (l ∷ ls) inside e =
    let high = inside.0.header in
    let order = inside.0.order in
    let h = times-turned last i b ls inside.1 e in
    let head : nat_le (last - l.header) b ≡ nat_le i l.header = same_test (nat_le (last - l.header) b) (nat_le i l.header)
    (λ t. let k = le_true (last - l.header) b t in true_le i l.header (omega (arith, k, e, high))) (λ t. let k = le_true i l.header t in true_le (last - l.header) b (omega (arith, k, e, high))) in
    let back : nat_le b (last - l.latch) ≡ nat_le l.latch i = same_test (nat_le b (last - l.latch)) (nat_le l.latch i)
    (λ t. let k = le_true b (last - l.latch) t in true_le l.latch i (omega (arith, k, e, high, order))) (λ t. let k = le_true l.latch i t in true_le b (last - l.latch) (omega (arith, k, e, high, order))) in
    let test = and_turned (nat_le (last - l.header) b) (nat_le b (last - l.latch)) (nat_le l.latch i) (nat_le i l.header) head back in
    ap (λ x. (if x then most l.most else 1) * times (map (turned_loop last) ls) b) test ∙ ap (λ x. (if nat_le l.latch i && nat_le i l.header then most l.most else 1) * x) h

module _ (W V : Block ℕ Note → ℕ) (last : ℕ) (ls : List Loop) (inside : AllInside 0 last ls) (same : (b : Block ℕ Note) → V (turned last b) ≡ W b) where
  pub repeated-turned : (bs : List (Block ℕ Note)) (b : ℕ) → b + length bs ≡ suc last → repeated V (map (turned_loop last) ls) b (map (turned last) bs) ≡ weighted most W ls 0 bs
  repeated-turned [] b e = refl
  repeated-turned (x ∷ bs) b e =
      let h = repeated-turned bs (suc b) (omega (arith, e)) in
      let t = times-turned last (0 + length bs) b ls inside (omega (arith, e)) in
      let r : times (map (turned_loop last) ls) b * V (turned last x) ≡ repeats most ls (0 + length bs) * W x = ap (λ z. z * V (turned last x)) t ∙ ap (λ z. repeats most ls (0 + length bs) * z) (same x) in
      omega (arith, h, r)
