-- What is found in the blocks of a memory.
use Rattle.std.proofs.Common.{◌≡◌, ℕ, suc, ◌+◌, ◌-◌, ◌%◌, ◌<◌, ◌≤◌, arith, Option, Some, None, refl, sym, ap, ◌∙◌, subst, List, [], ◌∷◌, ◌++◌, length, take, drop, get_or, true, false}
use Rattle.std.specs.Prelude.{◌==◌, slice_set}
use Rattle.std.specs.Option.{option_map}
use Rattle.std.proofs.Math.Seq.{drop-cons}
use Rattle.std.proofs.lemmas.List.{set_split, length-drop, get_or-drop}
use Rattle.std.proofs.lemmas.Bool.Decides.{nat_tests}
use Rattle.rv_core.specs.declared.regions.Region.{Region}
use Rattle.rv_core.specs.declared.row.Width.{Width}
use Rattle.rv_core.specs.declared.row.Width.TheVariants.{Byte, Half, Word}
use Rattle.rv_core.specs.Arithmetic.{byte_count}
use Rattle.rv_core.specs.Regions.{region_of}
use Rattle.rv_core.specs.Memory.{Block, holds_span, with_number, read_from, written_to}
use Rattle.rv_core.specs.Machine.{fetched}
use Rattle.rv_sim.specs.declared.blocks.Fetched.{Fetched}
use Rattle.rv_sim.specs.declared.blocks.Place.{Place}
use Rattle.rv_sim.specs.Blocks.{LieIn}
use Rattle.rv_sim.specs.Lookups.{Fetches, takes, IsPlace}
use Rattle.rv_sim.proofs.Placing.{region_of-within}

fetched-aligned : (memory : List Block) (pc : ℕ) → pc % 4 ≡ 0 → fetched memory pc ≡ read_from (λ b. b.exec) Word memory pc
unfolding fetched
fetched-aligned memory pc e = rw e refl

pub fetches-aligned : (code memory : List Block) (pc : ℕ) (f : Option Fetched) → pc % 4 ≡ 0 → code ≡ memory → Fetches (read_from (λ b. b.exec) Word code pc) pc f → Fetches (fetched memory pc) pc f
fetches-aligned code memory pc f e same h =
    subst (λ o. Fetches o pc f) (ap (λ m. read_from (λ b. b.exec) Word m pc) same ∙ sym (fetched-aligned memory pc e)) h

unaligned-test : (n : ℕ) → (n ≡ 0 → ⊥) → (n == 0) ≡ false
unaligned-test n h = grind (arith, nat_tests)

pub fetches-unaligned : (memory : List Block) (pc : ℕ) → (pc % 4 ≡ 0 → ⊥) → Fetches (fetched memory pc) pc None
unfolding fetched
fetches-unaligned memory pc h = rw (unaligned-test (pc % 4) h) tt

byte_count-some : (w : Width) → 0 < byte_count w
byte_count-some Byte = omega arith
byte_count-some Half = omega arith
byte_count-some Word = omega arith

-- the region of an address at which a block holds something
pub span-region : (b : Block) (at n : ℕ) (r : Region) → holds_span b at n ≡ true → 0 < n → (0 < length b.bytes → LieIn r b) → region_of at ≡ Some r
span-region b at n r h some lies =
    let low : b.at ≤ at = grind (arith, nat_tests) in
    let high : at + n ≤ b.at + length b.bytes = grind (arith, nat_tests) in
    let l = lies (omega arith) in
    let f = l.from in
    let t = l.to in
    region_of-within r at (omega arith) (omega arith)

stored-here : (w : Width) (bs : List Block) (i at v : ℕ) (b d : Block) → i < length bs → get_or bs i d ≡ b → takes w at b ≡ true → written_to w (drop i bs) at v ≡ Some ((record b { bytes = with_number w b.bytes (at - b.at) v }) ∷ drop (suc i) bs)
stored-here w bs i at v b d within is t =
    ap (λ xs. written_to w xs at v) (drop-cons bs i d within ∙ ap (λ x. x ∷ drop (suc i) bs) is) ∙ rw t refl

-- a store into the first block that takes it
stored : (w : Width) (bs : List Block) (p : Place) (at v : ℕ) (b x d : Block) → IsPlace w at bs p → get_or bs p.index d ≡ b → x ≡ record b { bytes = with_number w b.bytes (at - b.at) v } → written_to w bs at v ≡ Some (slice_set bs p.index x)
stored w bs p at v b x d found is same =
    let t : takes w at b ≡ true = ap (takes w at) (sym is) ∙ found.takes d in
    found.first v
    ∙ ap (option_map (λ rest. take p.index bs ++ rest)) (stored-here w bs p.index at v b d found.within is t ∙ ap (λ y. Some (y ∷ drop (suc p.index) bs)) (sym same))
    ∙ ap Some (sym (set_split bs p.index x found.within))

-- the same, for the blocks of a memory
pub stored-in : (w : Width) (code bs : List Block) (p : Place) (at v : ℕ) (b x d : Block) → bs ≡ code → IsPlace w at code p → get_or bs p.index d ≡ b → x ≡ record b { bytes = with_number w b.bytes (at - b.at) v } → written_to w code at v ≡ Some (slice_set bs p.index x)
stored-in w code bs p at v b x d e found is same =
    ap (λ m. written_to w m at v) (sym e) ∙ stored w bs p at v b x d (subst (λ m. IsPlace w at m p) (sym e) found) is same

plus-zero : (n : ℕ) → n + 0 ≡ n
plus-zero n = omega arith

placed-at : (w : Width) (bs : List Block) (p : Place) (at v : ℕ) (rest : List Block) → IsPlace w at bs p → drop p.index bs ≡ rest → (after : List Block) × (written_to w bs at v ≡ Some after)
placed-at w bs p at v [] found is =
    let none : length bs - p.index ≡ 0 = sym (length-drop p.index bs) ∙ ap length is in
    let within = found.within in
    absurd (omega arith)
placed-at w bs p at v (b ∷ rest) found is =
    let e : get_or bs p.index b ≡ b = sym (ap (λ n. get_or bs n b) (plus-zero p.index)) ∙ sym (get_or-drop p.index bs 0 b) ∙ ap (λ xs. get_or xs 0 b) is in
    (_, stored w bs p at v b (record b { bytes = with_number w b.bytes (at - b.at) v }) b found e refl)

-- a place takes any store
pub placed-written : (w : Width) (bs : List Block) (p : Place) (at v : ℕ) → IsPlace w at bs p → (after : List Block) × (written_to w bs at v ≡ Some after)
placed-written w bs p at v found = placed-at w bs p at v (drop p.index bs) found refl
