-- How many there are of what ascends, and the words of code.
use Rattle.std.proofs.Common.{◌≡◌, ℕ, suc, ◌+◌, ◌-◌, ◌*◌, ◌/◌, ◌%◌, ◌<◌, ◌≤◌, ◌⊎◌, inl, inr, ⊎_elim, Bool, true, false, List, [], ◌∷◌, length, Option, Some, None, refl, ap, arith, All}
use Rattle.std.specs.Prelude.{◌==◌, ◌&&◌, nat_le, IsTrue, if◌then◌else◌}
use Rattle.std.proofs.lemmas.Bool.{and_parts}
use Rattle.std.proofs.lemmas.Bool.Decides.{nat_tests}
use Rattle.std.proofs.lemmas.List.Elements.{All-head, All-tail, All-weaker}
use Rattle.rv_core.specs.declared.image.Segment.{Segment}
use Rattle.rv_core.specs.declared.regions.Region.TheVariants.{Flash, Spm, Ram}
use Rattle.rv_core.specs.declared.row.Width.TheVariants.{Word}
use Rattle.rv_core.specs.Code.{decoded, instruction_in, word_in}
use Rattle.rv_core.specs.Images.{AreLoadable, AreSegments, Image, LiesIn}
use Rattle.rv_core.specs.Instructions.{Instruction}
use Rattle.rv_core.specs.Machine.{fetched}
use Rattle.rv_core.specs.Memory.{block_of, holds_span, loaded, number_at, read_from}
use Rattle.rv_core.proofs.Framing.{block_of-length}
use Rattle.code_flow.specs.Sizes.{EndsWithin, Words, count}

-- each has a greater rank than those before it
abbrev pub Rises : {X : Type 0} → (X → ℕ) → List X → Type 0
Rises rank [] = Unit {0}
Rises rank (x ∷ xs) = All (λ y. rank x < rank y) xs × Rises rank xs

few_from : {X : Type 0} (rank : X → ℕ) (n k : ℕ) (xs : List X) → k ≤ n → All (λ x. k ≤ rank x) xs → All (λ x. rank x < n) xs → Rises rank xs → k + length xs ≤ n
few_from rank n k [] le low high rises = omega (arith, le)
few_from rank n k (x ∷ xs) le low high rises =
    let here = All-head (λ y. k ≤ rank y) x xs low in
    let below = All-head (λ y. rank y < n) x xs high in
    let above = All-weaker (λ y. rank x < rank y) (λ y. suc k ≤ rank y) (λ y less. omega (arith, here, less)) xs rises.0 in
    let rest = few_from rank n (suc k) xs (omega (arith, here, below)) above (All-tail (λ y. rank y < n) x xs high) rises.1 in
    omega (arith, rest)

pub few : {X : Type 0} (rank : X → ℕ) (n : ℕ) (xs : List X) → All (λ x. rank x < n) xs → Rises rank xs → length xs ≤ n
few rank n xs high rises =
    let all = few_from rank n 0 xs (omega arith) (λ k d lt. omega arith) high rises in
    omega (arith, all)

-- a whole word of code among the first of flash, or in the scratchpad
pub record IsCode (w : Words) (a : ℕ) : Type 0 where
  pub aligned : a % 4 ≡ 0
  pub there : ((a + 4 ≤ 4 * w.flash) × (a < 8388608)) ⊎ ((268435456 ≤ a) × (w.from ≤ a) × (a + 4 ≤ w.from + 4 * w.scratchpad))

-- words of the scratchpad come behind those of flash
abbrev pub word_rank : Words → ℕ → ℕ
word_rank w a = if nat_le 268435456 a then w.flash + (a - w.from) / 4 else a / 4

module _ (w : Words) (a : ℕ) where
  in_flash : a < 8388608 → word_rank w a ≡ a / 4
  in_flash lt = ap (λ b. if b then w.flash + (a - w.from) / 4 else a / 4) below
    where
      below : nat_le 268435456 a ≡ false
      below = grind (arith, nat_tests)

  in_scratchpad : 268435456 ≤ a → word_rank w a ≡ w.flash + (a - w.from) / 4
  in_scratchpad le = ap (λ b. if b then w.flash + (a - w.from) / 4 else a / 4) above
    where
      above : nat_le 268435456 a ≡ true
      above = grind (arith, nat_tests)

pub rank_below : (w : Words) (a : ℕ) → IsCode w a → word_rank w a < count w
rank_below w a h = ⊎_elim
    (λ flash. let is = in_flash w a flash.1 in let low = flash.0 in let whole = h.aligned in omega (arith, is, low, whole))
    (λ high. let is = in_scratchpad w a high.0 in let from = high.1 in let low = high.2 in let whole = h.aligned in omega (arith, is, from, low, whole))
    h.there

pub rank_rises : (w : Words) (a b : ℕ) → IsCode w a → IsCode w b → a < b → word_rank w a < word_rank w b
rank_rises w a b h k less = ⊎_elim (λ x. ⊎_elim (flash x) (mixed x) k.there) (λ x. ⊎_elim (crossed x) (high x) k.there) h.there
  where
    flash : (a + 4 ≤ 4 * w.flash) × (a < 8388608) → (b + 4 ≤ 4 * w.flash) × (b < 8388608) → word_rank w a < word_rank w b
    flash x y =
        let first = in_flash w a x.1 in
        let second = in_flash w b y.1 in
        let one = h.aligned in
        let other = k.aligned in
        omega (arith, first, second, one, other, less)

    mixed : (a + 4 ≤ 4 * w.flash) × (a < 8388608) → (268435456 ≤ b) × (w.from ≤ b) × (b + 4 ≤ w.from + 4 * w.scratchpad) → word_rank w a < word_rank w b
    mixed x y =
        let first = in_flash w a x.1 in
        let second = in_scratchpad w b y.0 in
        let low = x.0 in
        omega (arith, first, second, low)

    crossed : (268435456 ≤ a) × (w.from ≤ a) × (a + 4 ≤ w.from + 4 * w.scratchpad) → (b + 4 ≤ 4 * w.flash) × (b < 8388608) → word_rank w a < word_rank w b
    crossed x y = let from = x.0 in let to = y.1 in absurd (omega (arith, from, to, less))

    high : (268435456 ≤ a) × (w.from ≤ a) × (a + 4 ≤ w.from + 4 * w.scratchpad) → (268435456 ≤ b) × (w.from ≤ b) × (b + 4 ≤ w.from + 4 * w.scratchpad) → word_rank w a < word_rank w b
    high x y =
        let first = in_scratchpad w a x.0 in
        let second = in_scratchpad w b y.0 in
        let one = h.aligned in
        let other = k.aligned in
        let from = x.1 in
        omega (arith, first, second, one, other, from, less)

-- a move of a word, by the word and its number
pub move_rises : (w : Words) (a b i j : ℕ) → IsCode w a → IsCode w b → i < 2 → (a < b) ⊎ ((a ≡ b) × (i < j)) → 2 * word_rank w a + i < 2 * word_rank w b + j
move_rises w a b i j h k two (inl less) = let rises = rank_rises w a b h k less in omega (arith, rises, two)
move_rises w a b i j h k two (inr same) = let e = ap (word_rank w) same.0 in let less = same.1 in omega (arith, e, less)

-- an instruction of an image stands at such a word

abbrev IsThere : Words → ℕ → Type 0
IsThere w a = ((a + 4 ≤ 4 * w.flash) × (a < 8388608)) ⊎ ((268435456 ≤ a) × (w.from ≤ a) × (a + 4 ≤ w.from + 4 * w.scratchpad))

held : (w : Words) (a v : ℕ) (ss : List Segment) → AreSegments ss → All (EndsWithin w) ss → read_from (λ b. b.exec) Word (loaded ss) a ≡ Some v → IsThere w a
held w a v [] valid ends h = cc
held w a v (s ∷ ss) valid ends h = by_test ((block_of s).exec && holds_span (block_of s) a 4) refl h (held w a v ss valid.1 (All-tail (EndsWithin w) s ss ends))
  where
    is_true : s.exec ≡ true → IsTrue s.exec
    is_true e = e

    le_from : (i j : ℕ) → nat_le i j ≡ true → i ≤ j
    le_from i j k = grind (arith, nat_tests)

    here : ((block_of s).exec && holds_span (block_of s) a 4) ≡ true → IsThere w a
    here k =
        let both = and_parts s.exec (holds_span (block_of s) a 4) k in
        let span = and_parts (nat_le s.at a) (nat_le (a + 4) (s.at + length (block_of s).bytes)) both.1 in
        let long = block_of-length s valid.0.filled in
        let from = le_from s.at a span.0 in
        let to = le_from (a + 4) (s.at + length (block_of s).bytes) span.1 in
        let some : 0 < s.size = omega (arith, from, to, long) in
        let placed = valid.0.placed some in
        ⊎_elim
        (λ (flash : LiesIn Flash s).
        let end = (All-head (EndsWithin w) s ss ends).flash both.0 some flash in
        let last = flash.to in
        inl (omega (arith, to, long, end), omega (arith, to, long, last)))
        (⊎_elim
        (λ (high : LiesIn Spm s).
        let first = high.from in
        let end = (All-head (EndsWithin w) s ss ends).scratchpad both.0 some high in
        let start = end.0 in
        let last = end.1 in
        inr (omega (arith, from, first), omega (arith, from, start), omega (arith, to, long, last)))
        (λ (ram : LiesIn Ram s). absurd (placed.exec (is_true both.0) ram)))
        placed.region

    by_test : (b : Bool) → ((block_of s).exec && holds_span (block_of s) a 4) ≡ b → (if b then Some (number_at Word (block_of s).bytes (a - (block_of s).at)) else read_from (λ b. b.exec) Word (loaded ss) a) ≡ Some v
        → (read_from (λ b. b.exec) Word (loaded ss) a ≡ Some v → IsThere w a) → IsThere w a
    by_test true e is later = here e
    by_test false e is later = later is

fetched_code : (w : Words) (a v : ℕ) (ss : List Segment) → AreSegments ss → All (EndsWithin w) ss → fetched (loaded ss) a ≡ Some v → IsCode w a
unfolding fetched
fetched_code w a v ss valid ends h = by_test (a % 4 == 0) refl h
  where
    whole : (a % 4 == 0) ≡ true → a % 4 ≡ 0
    whole e = grind (arith, nat_tests)

    by_test : (b : Bool) → (a % 4 == 0) ≡ b → (if b then read_from (λ b. b.exec) Word (loaded ss) a else None) ≡ Some v → IsCode w a
    by_test true e is = record { aligned = whole e; there = held w a v ss valid ends is }
    by_test false e is = cc

pub instruction_code : (w : Words) (image : Image) (a : ℕ) (i : Instruction) → AreLoadable image.segments → All (EndsWithin w) image.segments → instruction_in image a ≡ Some i → IsCode w a
instruction_code w image a i loadable ends h = by_word (word_in image a) refl h
  where
    by_word : (o : Option ℕ) → word_in image a ≡ o → decoded o ≡ Some i → IsCode w a
    by_word None e is = cc
    by_word (Some v) e is = fetched_code w a v image.segments loadable.each ends e
