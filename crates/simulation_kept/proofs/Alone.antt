-- No two lines of regions hold one address.
use Rattle.std.proofs.Common.{◌≡◌, ℕ, zero, suc, ◌<◌, ◌≤◌, Bool, true, false, List, [], ◌∷◌, length, Option, Some, refl, subst, arith}
use Rattle.std.specs.Prelude.{All, not, ◌&&◌, nat_le, nat_lt, ◌||◌, slice_index_or}
use Rattle.std.proofs.lemmas.Bool.{and_parts}
use Rattle.std.proofs.lemmas.Bool.Decides.{nat_tests}
use Rattle.std.proofs.lemmas.List.Elements.{All-cons, All-contains, All-head, All-nil, All-tail, All-weaker}
use Rattle.code_flow_system.specs.declared.claims.Within.{Within}
use Rattle.code_flow_system.specs.Claims.{is_aligned, is_filled, is_past, region_flaws}
use Rattle.code_flow_system.specs.MoveCosts.{lies_within}

abbrev pub AreSound : Option ℕ → List Within → Type 0
AreSound before ws = All (λ flaw. flaw ≡ false) (region_flaws before ws)

not_false : (b : Bool) → not b ≡ false → b ≡ true
not_false true e = refl
not_false false e = cc

less_of : (a b : ℕ) → nat_lt a b ≡ true → a < b
less_of a b e = grind (arith, nat_tests)

most_of : (a b : ℕ) → nat_le a b ≡ true → a ≤ b
most_of a b e = grind (arith, nat_tests)

-- the bounds of a line that holds an address
pub record Holds (w : Within) (a : ℕ) : Type 0 where
  pub from : w.first ≤ a
  pub to : a < w.end

pub holds : (w : Within) (a : ℕ) → lies_within w a ≡ true → Holds w a
holds w a e =
    let parts = and_parts (nat_le w.first a) (nat_lt a w.end) e in
    record { from = most_of w.first a parts.0; to = less_of a w.end parts.1 }

-- a line isn't empty, and stands behind the one before
head_sound : (before : Option ℕ) (w : Within) (ws : List Within) → AreSound before (w ∷ ws) → (is_filled w && is_past before w.first) ≡ true
head_sound before w ws h = not_false (is_filled w && is_past before w.first) (All-head (λ flaw. flaw ≡ false) (not (is_filled w && is_past before w.first)) (region_flaws (Some w.end) ws) h)

rest_sound : (before : Option ℕ) (w : Within) (ws : List Within) → AreSound before (w ∷ ws) → AreSound (Some w.end) ws
rest_sound before w ws h = All-tail (λ flaw. flaw ≡ false) (not (is_filled w && is_past before w.first)) (region_flaws (Some w.end) ws) h

filled : (w : Within) → is_filled w ≡ true → w.first < w.end
filled w e =
    let some = nat_lt w.first w.end && (w.flash || (w.spm || w.ram)) in
    let aligned = and_parts (is_aligned w.first) (is_aligned w.end && some) e in
    let parts = and_parts (is_aligned w.end) some aligned.1 in
    less_of w.first w.end (and_parts (nat_lt w.first w.end) (w.flash || (w.spm || w.ram)) parts.1).0

abbrev Behind : ℕ → Within → Type 0
Behind b w = b ≤ w.first

-- all lines behind one begin behind it
all_past : (b : ℕ) (ws : List Within) → AreSound (Some b) ws → All (Behind b) ws
all_past b [] h = All-nil (Behind b)
all_past b (w ∷ ws) h =
    let parts = and_parts (is_filled w) (is_past (Some b) w.first) (head_sound (Some b) w ws h) in
    let past = most_of b w.first parts.1 in
    let some = filled w parts.0 in
    All-cons (Behind b) w ws past (All-weaker (Behind w.end) (Behind b) (λ x more. omega (arith, past, some, more)) ws (all_past w.end ws (rest_sound (Some b) w ws h)))

-- what holds an address is the line that does
abbrev Is : Within → ℕ → Within → Type 0
Is y a w = lies_within w a ≡ true → w ≡ y

others : (y w : Within) (a : ℕ) → w.end ≤ y.first → y.first ≤ a → Is y a w
others y w a apart from inside = let to = (holds w a inside).to in absurd (omega (arith, apart, from, to))

later : (y : Within) (a : ℕ) (ws : List Within) → a < y.end → AreSound (Some y.end) ws → All (Is y a) ws
later y a ws to h = All-weaker (Behind y.end) (Is y a) (λ w behind inside. let from = (holds w a inside).from in absurd (omega (arith, behind, from, to))) ws (all_past y.end ws h)

pub alone : (before : Option ℕ) (ws : List Within) → AreSound before ws → (n : ℕ) (y : Within) → n < length ws → slice_index_or ws n y ≡ y → (a : ℕ) → y.first ≤ a → a < y.end → All (Is y a) ws
alone before [] h n y less e a from to = All-nil (Is y a)
alone before (w ∷ ws) h zero y less e a from to =
    All-cons (Is y a) w ws (λ inside. e) (later y a ws to (subst (λ (x : Within). AreSound (Some x.end) ws) e (rest_sound before w ws h)))
alone before (w ∷ ws) h (suc n) y less e a from to =
    let rest = rest_sound before w ws h in
    let apart : w.end ≤ y.first = All-contains (Behind w.end) ws y (all_past w.end ws rest) (n, omega (arith, less), e) in
    All-cons (Is y a) w ws (others y w a apart from) (alone (Some w.end) ws rest n y (omega (arith, less)) e a from to)
