-- What a kind keeps as it is.
use Rattle.std.proofs.Common.{◌≡◌, ◌⊎◌, inl, inr, ℕ, zero, suc, ◌-◌, ◌%◌, ◌^◌, ◌<◌, ◌≤◌, Bool, true, false, nat_lt, pos, negsuc, refl, sym, ap, ◌∙◌, arith}
use Rattle.std.specs.Prelude.{nat_le, if◌then◌else◌}
use Rattle.std.proofs.lemmas.Bool.{and_parts, eqb-true, false≢true}
use Rattle.std.proofs.lemmas.Bool.Decides.{nat_tests}
use Rattle.wcc_base.specs.Words.{sign_filled, truth_word, wrapped}
use Rattle.high_ir.specs.declared.object.Kind.{Kind}
use Rattle.high_ir.specs.declared.object.Kind.TheVariants.{Unsigned8, Signed8, Unsigned16, Signed16, Word}
use Rattle.high_ir.specs.Words.{converted, kind_number, same_kind}
use Rattle.high_folded.specs.Ranges.{below, is_narrow, is_within, most}

-- a number up to one, or a word that is one of the last
abbrev pub IsIn : (top under v : ℕ) → Type 0
IsIn top under v = (v ≤ top) ⊎ ((4294967296 - under ≤ v) × (v < 4294967296))

-- a number whose low bits, filled up, are the number again
filled8_low : (v : ℕ) → v ≤ 127 → sign_filled 8 v ≡ v
filled8_low v le =
    let small : v % 256 < 128 = omega (arith, le) in
    let t : nat_lt (v % 256) 128 ≡ true = grind (arith, nat_tests, small) in
    let same : v % 256 % 4294967296 ≡ v = omega (arith, le) in
    ap (λ b. wrapped (if b then pos (v % 256) else negsuc (255 - v % 256))) t ∙ same

filled8_high : (v : ℕ) → 4294967168 ≤ v → v < 4294967296 → sign_filled 8 v ≡ v
filled8_high v le lt =
    let more : 128 ≤ v % 256 = omega (arith, le, lt) in
    let t : nat_lt (v % 256) 128 ≡ false = grind (arith, nat_tests, more) in
    let same : 4294967295 - (255 - v % 256) % 4294967296 ≡ v = omega (arith, le, lt) in
    ap (λ b. wrapped (if b then pos (v % 256) else negsuc (255 - v % 256))) t ∙ same

filled16_low : (v : ℕ) → v ≤ 32767 → sign_filled 16 v ≡ v
filled16_low v le =
    let small : v % 65536 < 32768 = omega (arith, le) in
    let t : nat_lt (v % 65536) 32768 ≡ true = grind (arith, nat_tests, small) in
    let same : v % 65536 % 4294967296 ≡ v = omega (arith, le) in
    ap (λ b. wrapped (if b then pos (v % 65536) else negsuc (65535 - v % 65536))) t ∙ same

filled16_high : (v : ℕ) → 4294934528 ≤ v → v < 4294967296 → sign_filled 16 v ≡ v
filled16_high v le lt =
    let more : 32768 ≤ v % 65536 = omega (arith, le, lt) in
    let t : nat_lt (v % 65536) 32768 ≡ false = grind (arith, nat_tests, more) in
    let same : 4294967295 - (65535 - v % 65536) % 4294967296 ≡ v = omega (arith, le, lt) in
    ap (λ b. wrapped (if b then pos (v % 65536) else negsuc (65535 - v % 65536))) t ∙ same

low8 : (v : ℕ) → v ≤ 255 → v % 256 ≡ v
low8 v le = omega (arith, le)

low16 : (v : ℕ) → v ≤ 65535 → v % 65536 ≡ v
low16 v le = omega (arith, le)

none_under : {A : Type 0} (v : ℕ) → 4294967296 - 0 ≤ v → v < 4294967296 → A
none_under v le lt = absurd (omega (arith, le, lt))

-- a kind keeps what is in its range
pub keeps_in : (kind : Kind) (v : ℕ) → IsIn (most kind) (below kind) v → converted kind v ≡ v
unfolding converted
keeps_in Unsigned8 v (inl le) = low8 v le
keeps_in Unsigned8 v (inr h) = none_under v h.0 h.1
keeps_in Signed8 v (inl le) = filled8_low v le
keeps_in Signed8 v (inr h) = filled8_high v h.0 h.1
keeps_in Unsigned16 v (inl le) = low16 v le
keeps_in Unsigned16 v (inr h) = none_under v h.0 h.1
keeps_in Signed16 v (inl le) = filled16_low v le
keeps_in Signed16 v (inr h) = filled16_high v h.0 h.1
keeps_in Word v h = refl

-- and what a narrow kind keeps is in its range
filled8_in : (b : Bool) (r : ℕ) → r < 256 → nat_lt r 128 ≡ b → IsIn 127 128 (wrapped (if b then pos r else negsuc (255 - r)))
filled8_in true r lt t = let le : r < 128 = grind (arith, nat_tests, t) in inl (omega (arith, le))
filled8_in false r lt t = let le : 128 ≤ r = grind (arith, nat_tests, t) in inr (omega (arith, le, lt), omega (arith, le, lt))

filled16_in : (b : Bool) (r : ℕ) → r < 65536 → nat_lt r 32768 ≡ b → IsIn 32767 32768 (wrapped (if b then pos r else negsuc (65535 - r)))
filled16_in true r lt t = let le : r < 32768 = grind (arith, nat_tests, t) in inl (omega (arith, le))
filled16_in false r lt t = let le : 32768 ≤ r = grind (arith, nat_tests, t) in inr (omega (arith, le, lt), omega (arith, le, lt))

pub in_kind : (kind : Kind) (v : ℕ) → is_narrow kind ≡ true → IsIn (most kind) (below kind) (converted kind v)
unfolding converted
in_kind Unsigned8 v narrow = inl (omega arith)
in_kind Signed8 v narrow = filled8_in (nat_lt (v % 256) 128) (v % 256) (omega arith) refl
in_kind Unsigned16 v narrow = inl (omega arith)
in_kind Signed16 v narrow = filled16_in (nat_lt (v % 65536) 32768) (v % 65536) (omega arith) refl
in_kind Word v narrow = absurd (false≢true narrow)

pub le_of : (a b : ℕ) → nat_le a b ≡ true → a ≤ b
le_of a b t = grind (arith, nat_tests, t)

-- a wider range
in_wider : (top under top' under' v : ℕ) → top ≤ top' → under ≤ under' → IsIn top under v → IsIn top' under' v
in_wider top under top' under' v h k (inl le) = inl (omega (arith, h, le))
in_wider top under top' under' v h k (inr r) = inr (omega (arith, k, r.0), r.1)

within_narrow : (narrow wide : Kind) (v : ℕ) → is_narrow narrow ≡ true → is_within narrow wide ≡ true → converted wide (converted narrow v) ≡ converted narrow v
within_narrow narrow wide v small h =
    let parts = and_parts (nat_le (most narrow) (most wide)) (nat_le (below narrow) (below wide)) h in
    keeps_in wide (converted narrow v)
    (in_wider (most narrow) (below narrow) (most wide) (below wide) (converted narrow v) (le_of (most narrow) (most wide) parts.0) (le_of (below narrow) (below wide) parts.1) (in_kind narrow v small))

-- what one kind keeps, a wider one keeps as it is
pub within_keeps : (narrow wide : Kind) (v : ℕ) → is_within narrow wide ≡ true → converted wide (converted narrow v) ≡ converted narrow v
unfolding converted
within_keeps Unsigned8 wide v h = within_narrow Unsigned8 wide v refl h
within_keeps Signed8 wide v h = within_narrow Signed8 wide v refl h
within_keeps Unsigned16 wide v h = within_narrow Unsigned16 wide v refl h
within_keeps Signed16 wide v h = within_narrow Signed16 wide v refl h
within_keeps Word Word v h = refl
within_keeps Word Unsigned8 v h = absurd (false≢true h)
within_keeps Word Signed8 v h = absurd (false≢true h)
within_keeps Word Unsigned16 v h = absurd (false≢true h)
within_keeps Word Signed16 v h = absurd (false≢true h)

pub kept_wider : (narrow wide : Kind) (v : ℕ) → is_within narrow wide ≡ true → converted narrow v ≡ v → converted wide v ≡ v
kept_wider narrow wide v h same = ap (converted wide) (sym same) ∙ within_keeps narrow wide v h ∙ same

-- a number that a narrow kind keeps is a word
in_word : (top under v : ℕ) → top ≤ 65535 → IsIn top under v → v < 2 ^ 32
in_word top under v small (inl le) = omega (arith, small, le)
in_word top under v small (inr r) = r.1

pub narrow_word : (kind : Kind) (v : ℕ) → is_narrow kind ≡ true → converted kind v < 2 ^ 32
narrow_word kind v narrow = in_word (most kind) (below kind) (converted kind v) (le_of (most kind) 65535 narrow) (in_kind kind v narrow)

-- the results of tests
truth_least : (b : Bool) (top : ℕ) → 1 ≤ top → truth_word b ≤ top
truth_least true top le = le
truth_least false top le = omega arith

one_within : (kind : Kind) → 1 ≤ most kind
one_within Unsigned8 = omega arith
one_within Signed8 = omega arith
one_within Unsigned16 = omega arith
one_within Signed16 = omega arith
one_within Word = omega arith

pub truth_kept : (kind : Kind) (b : Bool) → converted kind (truth_word b) ≡ truth_word b
truth_kept kind b = keeps_in kind (truth_word b) (inl (truth_least b (most kind) (one_within kind)))

pub small_kept : (kind : Kind) (v : ℕ) → v ≤ most kind → converted kind v ≡ v
small_kept kind v le = keeps_in kind v (inl le)

-- kinds of one number are one kind
abbrev kind_by : ℕ → Kind
kind_by zero = Unsigned8
kind_by (suc zero) = Signed8
kind_by (suc (suc zero)) = Unsigned16
kind_by (suc (suc (suc zero))) = Signed16
kind_by (suc (suc (suc (suc n)))) = Word

by_number : (a : Kind) → kind_by (kind_number a) ≡ a
by_number Unsigned8 = refl
by_number Signed8 = refl
by_number Unsigned16 = refl
by_number Signed16 = refl
by_number Word = refl

pub one_kind : (a b : Kind) → same_kind a b ≡ true → a ≡ b
one_kind a b t =
    let same : kind_number a ≡ kind_number b = eqb-true (kind_number a) (kind_number b) t in
    sym (by_number a) ∙ ap kind_by same ∙ by_number b
