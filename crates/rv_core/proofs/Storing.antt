-- What a store does to the blocks of a memory, and what is read behind it.
use Rattle.std.proofs.Common.{◌≡◌, ◌⊎◌, ℕ, ◌+◌, ◌-◌, ◌*◌, ◌%◌, ◌^◌, ◌<◌, ◌≤◌, arith, Option, Some, None, refl, sym, ap, ◌∙◌, subst, List, [], ◌∷◌, ◌++◌, length, Bool, true, false, inl, inr}
use Rattle.std.specs.Prelude.{◌&&◌, nat_le, if◌then◌else◌}
use Rattle.std.specs.Option.{option_map}
use Rattle.std.proofs.lemmas.Bool.{and_parts}
use Rattle.std.proofs.lemmas.Bool.Decides.{nat_tests}
use Rattle.rv_core.specs.declared.row.Width.{Width}
use Rattle.rv_core.specs.declared.row.Width.TheVariants.{Byte, Half, Word}
use Rattle.rv_core.specs.Arithmetic.{byte_count}
use Rattle.rv_core.specs.Memory.{Block, holds_span, number_at, with_number, read_from, written_to}
use Rattle.rv_core.specs.Stores.{IsStored, Frame, frame_of, frames_of, LiesIn, Beside, BesideEach, AreBeside}
use Rattle.rv_core.proofs.Numbers.{length-with_number, number_at-with_number, number_at-beside}

-- the block with a number put at an address
abbrev put : Width → ℕ → ℕ → Block → Block
put w at v b = record b { bytes = with_number w b.bytes (at - b.at) v }

stored-here : (w : Width) (b : Block) (bs : List Block) (at v : ℕ) (after : List Block) → (b.write && holds_span b at (byte_count w)) ≡ true → put w at v b ∷ bs ≡ after → IsStored w at v (b ∷ bs) after
stored-here w b bs at v after found e =
    let parts = and_parts b.write (holds_span b at (byte_count w)) found in
    record { earlier = []; block = b; later = bs; stands = refl; may_write = parts.0; holds = parts.1; stored = sym e }

stored-later : (w : Width) (b : Block) (bs : List Block) (at v : ℕ) (o : Option (List Block)) (after : List Block) → ((rest : List Block) → o ≡ Some rest → IsStored w at v bs rest) → option_map (λ rest. b ∷ rest) o ≡ Some after → IsStored w at v (b ∷ bs) after
stored-later w b bs at v None after later h = absurd cc
stored-later w b bs at v (Some rest) after later h =
    let e : b ∷ rest ≡ after = cc in
    let s = later rest refl in
    record { earlier = b ∷ s.earlier; block = s.block; later = s.later; stands = ap (λ x. b ∷ x) s.stands; may_write = s.may_write; holds = s.holds; stored = sym e ∙ ap (λ x. b ∷ x) s.stored }

stored-by : (found : Bool) (w : Width) (b : Block) (bs : List Block) (at v : ℕ) (after : List Block) → (b.write && holds_span b at (byte_count w)) ≡ found → ((rest : List Block) → written_to w bs at v ≡ Some rest → IsStored w at v bs rest)
    → (if found then Some (put w at v b ∷ bs) else option_map (λ rest. b ∷ rest) (written_to w bs at v)) ≡ Some after → IsStored w at v (b ∷ bs) after
stored-by true w b bs at v after is later h = let e : put w at v b ∷ bs ≡ after = cc in stored-here w b bs at v after is e
stored-by false w b bs at v after is later h = stored-later w b bs at v (written_to w bs at v) after later h

-- a store is found in one block
pub is-stored : (w : Width) (bs : List Block) (at v : ℕ) (after : List Block) → written_to w bs at v ≡ Some after → IsStored w at v bs after
is-stored w [] at v after h = absurd cc
is-stored w (b ∷ bs) at v after h = stored-by (b.write && holds_span b at (byte_count w)) w b bs at v after refl (λ rest found. is-stored w bs at v rest found) h

put-frame : (w : Width) (at v : ℕ) (b : Block) → frame_of (put w at v b) ≡ frame_of b
put-frame w at v b = ap (λ n. record (frame_of b) { size = n }) (length-with_number w b.bytes (at - b.at) v)

frames-put : (w : Width) (at v : ℕ) (earlier : List Block) (b : Block) (later : List Block) → frames_of (earlier ++ put w at v b ∷ later) ≡ frames_of (earlier ++ b ∷ later)
frames-put w at v [] b later = ap (λ f. f ∷ frames_of later) (put-frame w at v b)
frames-put w at v (e ∷ es) b later = ap (λ fs. frame_of e ∷ fs) (frames-put w at v es b later)

-- a store leaves the blocks where they are
pub frames-stored : (w : Width) (before : List Block) (at v : ℕ) (after : List Block) → written_to w before at v ≡ Some after → frames_of after ≡ frames_of before
frames-stored w before at v after h =
    let s = is-stored w before at v after h in
    ap frames_of s.stored ∙ frames-put w at v s.earlier s.block s.later ∙ sym (ap frames_of s.stands)

byte_count-some : (w : Width) → 0 < byte_count w
byte_count-some Byte = omega arith
byte_count-some Half = omega arith
byte_count-some Word = omega arith

held : (b : Block) (at n : ℕ) → holds_span b at n ≡ true → 0 < n → LiesIn (frame_of b) at
held b at n h some =
    let low : b.at ≤ at = grind (arith, nat_tests) in
    let high : at + n ≤ b.at + length b.bytes = grind (arith, nat_tests) in
    record { from = low; below = omega arith }

-- where something is read, a block holds the address
read-by : (found : Bool) (w : Width) (f : Frame) (b : Block) (bs : List Block) (at n : ℕ) → (b.read && holds_span b at (byte_count w)) ≡ found → Beside f (frame_of b) → LiesIn f at → (read_from (λ c. c.read) w bs at ≡ Some n → ⊥)
    → (if found then Some (number_at w b.bytes (at - b.at)) else read_from (λ c. c.read) w bs at) ≡ Some n → ⊥
read-by true w f b bs at n is beside lies later h = beside at lies (held b at (byte_count w) (and_parts b.read (holds_span b at (byte_count w)) is).1 (byte_count-some w))
read-by false w f b bs at n is beside lies later h = later h

-- and so it lies beside no other
read-beside : (w : Width) (f : Frame) (bs : List Block) (at n : ℕ) → BesideEach f (frames_of bs) → LiesIn f at → read_from (λ b. b.read) w bs at ≡ Some n → ⊥
read-beside w f [] at n each lies h = absurd cc
read-beside w f (b ∷ bs) at n each lies h = read-by (b.read && holds_span b at (byte_count w)) w f b bs at n refl each.0 lies (λ k. read-beside w f bs at n each.1 lies k) h

stored-beside : (w : Width) (f : Frame) (at v : ℕ) (earlier : List Block) (b : Block) (later : List Block) → BesideEach f (frames_of (earlier ++ b ∷ later)) → LiesIn f at → holds_span b at (byte_count w) ≡ true → ⊥
stored-beside w f at v [] b later each lies h = each.0 at lies (held b at (byte_count w) h (byte_count-some w))
stored-beside w f at v (e ∷ es) b later each lies h = stored-beside w f at v es b later each.1 lies h

-- a block holds as much behind a store as before
put-holds : (w : Width) (at v : ℕ) (b : Block) (a n : ℕ) → holds_span (put w at v b) a n ≡ holds_span b a n
put-holds w at v b a n = ap (λ m. nat_le b.at a && nat_le (a + n) (b.at + m)) (length-with_number w b.bytes (at - b.at) v)

put-number : (w : Width) (at v : ℕ) (b : Block) → holds_span b at (byte_count w) ≡ true → number_at w (put w at v b).bytes (at - b.at) ≡ v % 2 ^ (8 * byte_count w)
put-number w at v b h =
    let low : b.at ≤ at = grind (arith, nat_tests) in
    let high : at + byte_count w ≤ b.at + length b.bytes = grind (arith, nat_tests) in
    number_at-with_number w b.bytes (at - b.at) v (omega arith)

-- the first block is the one that takes the store
same-first : (r : Bool) (w : Width) (at v n : ℕ) (b : Block) (later : List Block) → b.read ≡ r → BesideEach (frame_of b) (frames_of later) → holds_span b at (byte_count w) ≡ true
    → (if r && holds_span b at (byte_count w) then Some (number_at w b.bytes (at - b.at)) else read_from (λ c. c.read) w later at) ≡ Some n
    → (if r && holds_span b at (byte_count w) then Some (number_at w (put w at v b).bytes (at - b.at)) else read_from (λ c. c.read) w later at) ≡ Some (v % 2 ^ (8 * byte_count w))
same-first true w at v n b later is each holds found = ap (λ h. if h then Some (number_at w (put w at v b).bytes (at - b.at)) else read_from (λ c. c.read) w later at) holds ∙ ap Some (put-number w at v b holds)
same-first false w at v n b later is each holds found = absurd (read-beside w (frame_of b) later at n each (held b at (byte_count w) holds (byte_count-some w)) found)

-- the first block isn't
same-behind : (t : Bool) (w : Width) (at v n : ℕ) (e : Block) (before after : List Block) → (e.read && holds_span e at (byte_count w)) ≡ t → (holds_span e at (byte_count w) ≡ true → ⊥)
    → (read_from (λ c. c.read) w before at ≡ Some n → read_from (λ c. c.read) w after at ≡ Some (v % 2 ^ (8 * byte_count w)))
    → (if t then Some (number_at w e.bytes (at - e.at)) else read_from (λ c. c.read) w before at) ≡ Some n
    → (if t then Some (number_at w e.bytes (at - e.at)) else read_from (λ c. c.read) w after at) ≡ Some (v % 2 ^ (8 * byte_count w))
same-behind true w at v n e before after is other later found = absurd (other (and_parts e.read (holds_span e at (byte_count w)) is).1)
same-behind false w at v n e before after is other later found = later found

same-put : (w : Width) (at v n : ℕ) (earlier : List Block) (b : Block) (later : List Block) → AreBeside (frames_of (earlier ++ b ∷ later)) → holds_span b at (byte_count w) ≡ true
    → read_from (λ c. c.read) w (earlier ++ b ∷ later) at ≡ Some n → read_from (λ c. c.read) w (earlier ++ put w at v b ∷ later) at ≡ Some (v % 2 ^ (8 * byte_count w))
same-put w at v n [] b later beside holds found =
    ap (λ h. if b.read && h then Some (number_at w (put w at v b).bytes (at - b.at)) else read_from (λ c. c.read) w later at) (put-holds w at v b at (byte_count w))
    ∙ same-first b.read w at v n b later refl beside.0 holds found
same-put w at v n (e ∷ es) b later beside holds found =
    same-behind (e.read && holds_span e at (byte_count w)) w at v n e (es ++ b ∷ later) (es ++ put w at v b ∷ later) refl
    (λ h. stored-beside w (frame_of e) at v es b later beside.0 (held e at (byte_count w) h (byte_count-some w)) holds)
    (λ k. same-put w at v n es b later beside.1 holds k) found

-- what was stored is read
pub read-stored : (w : Width) (before : List Block) (at v n : ℕ) (after : List Block) → AreBeside (frames_of before) → written_to w before at v ≡ Some after → read_from (λ b. b.read) w before at ≡ Some n → read_from (λ b. b.read) w after at ≡ Some (v % 2 ^ (8 * byte_count w))
read-stored w before at v n after beside h found =
    let s = is-stored w before at v after h in
    ap (λ m. read_from (λ b. b.read) w m at) s.stored
    ∙ same-put w at v n s.earlier s.block s.later (subst (λ m. AreBeside (frames_of m)) s.stands beside) s.holds (sym (ap (λ m. read_from (λ b. b.read) w m at) s.stands) ∙ found)

-- a number beside the store, as far as the block holds it
apart-in : (at n k m x : ℕ) → x ≤ at → x ≤ k → (at + n ≤ k) ⊎ (k + m ≤ at) → ((at - x) + n ≤ k - x) ⊎ ((k - x) + m ≤ at - x)
apart-in at n k m x a b (inl h) = inl (omega arith)
apart-in at n k m x a b (inr h) = inr (omega arith)

beside-first : (t : Bool) (w r : Width) (at v a : ℕ) (b : Block) (later : List Block) → (b.read && holds_span b a (byte_count r)) ≡ t → holds_span b at (byte_count w) ≡ true → (a + byte_count r ≤ at) ⊎ (at + byte_count w ≤ a)
    → (if t then Some (number_at r (put w at v b).bytes (a - b.at)) else read_from (λ c. c.read) r later a) ≡ (if t then Some (number_at r b.bytes (a - b.at)) else read_from (λ c. c.read) r later a)
beside-first true w r at v a b later is holds h =
    let mine = (and_parts b.read (holds_span b a (byte_count r)) is).1 in
    let low : b.at ≤ at = grind (arith, nat_tests) in
    let here : b.at ≤ a = grind (arith, nat_tests) in
    ap Some (number_at-beside w r b.bytes (at - b.at) v (a - b.at) (apart-in a (byte_count r) at (byte_count w) b.at here low h))
beside-first false w r at v a b later is holds h = refl

beside-put : (w r : Width) (at v a : ℕ) (earlier : List Block) (b : Block) (later : List Block) → holds_span b at (byte_count w) ≡ true → (a + byte_count r ≤ at) ⊎ (at + byte_count w ≤ a)
    → read_from (λ c. c.read) r (earlier ++ put w at v b ∷ later) a ≡ read_from (λ c. c.read) r (earlier ++ b ∷ later) a
beside-put w r at v a [] b later holds h =
    ap (λ x. if b.read && x then Some (number_at r (put w at v b).bytes (a - b.at)) else read_from (λ c. c.read) r later a) (put-holds w at v b a (byte_count r))
    ∙ beside-first (b.read && holds_span b a (byte_count r)) w r at v a b later refl holds h
beside-put w r at v a (e ∷ es) b later holds h = ap (λ o. if e.read && holds_span e a (byte_count r) then Some (number_at r e.bytes (a - e.at)) else o) (beside-put w r at v a es b later holds h)

-- what lies beside a store is read as before
pub read-beside_store : (w r : Width) (before : List Block) (at v a : ℕ) (after : List Block) → (a + byte_count r ≤ at) ⊎ (at + byte_count w ≤ a) → written_to w before at v ≡ Some after → read_from (λ b. b.read) r after a ≡ read_from (λ b. b.read) r before a
read-beside_store w r before at v a after h is =
    let s = is-stored w before at v after is in
    ap (λ m. read_from (λ b. b.read) r m a) s.stored ∙ beside-put w r at v a s.earlier s.block s.later s.holds h ∙ sym (ap (λ m. read_from (λ b. b.read) r m a) s.stands)
