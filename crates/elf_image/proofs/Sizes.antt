-- How long the bytes of the segments are.
use Rattle.std.proofs.Common.{◌≡◌, ℕ, zero, suc, refl, ◌+◌, ◌*◌, ◌≤◌, ◌<◌, arith, List, [], ◌∷◌, ◌++◌, length, length-append, ⊎_elim, drop, get_or, ap, sym, ◌∙◌, append_assoc}
use Rattle.std.proofs.lemmas.Grind.{common_steps}
use Rattle.rv_core.specs.declared.image.Segment.{Segment}
use Rattle.rv_core.specs.Images.{AreSegments, IsSegment, IsPlaced}
use Rattle.elf_image.specs.Text.{contents, program_header, program_headers}

placed_size : (s : Segment) → IsPlaced s → s.size ≤ 0x80_0000
placed_size s p = ⊎_elim (λ f. omega (arith, f.from, f.to)) (⊎_elim (λ f. omega (arith, f.from, f.to)) (λ f. omega (arith, f.from, f.to))) p.region

pub size_most : (s : Segment) → IsSegment s → s.size ≤ 0x80_0000
size_most s v = by_size s.size refl
  where
    by_size : (n : ℕ) → s.size ≡ n → s.size ≤ 0x80_0000
    by_size zero e = omega arith
    by_size (suc n) e = placed_size s (v.placed (omega arith))

-- the bytes of a valid image fit a file by far
pub contents_most : (ss : List Segment) → AreSegments ss → length (contents ss) ≤ 0x80_0000 * length ss
contents_most [] v = omega arith
contents_most (s ∷ ss) v = omega (arith, size_most s v.0, v.0.filled, contents_most ss v.1, length-append s.bytes (contents ss))

pub at_drop : (ss : List Segment) (i : ℕ) (e : Segment) → i < length ss → e ≡ get_or ss i e → drop i ss ≡ e ∷ drop (i + 1) ss
at_drop ss i e lt is = grind (arith, common_steps)

pub headers-drop : (ss : List Segment) (i at : ℕ) (e : Segment) → i < length ss → e ≡ get_or ss i e → program_headers at (drop i ss) ≡ program_header at e ++ program_headers (at + length e.bytes) (drop (i + 1) ss)
headers-drop ss i at e lt is = ap (program_headers at) (at_drop ss i e lt is)

pub contents-drop : (ss : List Segment) (i : ℕ) (e : Segment) → i < length ss → e ≡ get_or ss i e → length (contents (drop i ss)) ≡ length e.bytes + length (contents (drop (i + 1) ss))
contents-drop ss i e lt is = ap (λ l. length (contents l)) (at_drop ss i e lt is) ∙ length-append e.bytes (contents (drop (i + 1) ss))

-- one more program header
pub headers_more : (text text' all : List ℕ) (ss : List Segment) (i at m : ℕ) (e : Segment) → i < length ss → e ≡ get_or ss i e → m ≡ length e.bytes → text' ≡ text ++ program_header at e → text ++ program_headers at (drop i ss) ≡ all → text' ++ program_headers (at + m) (drop (i + 1) ss) ≡ all
headers_more text text' all ss i at m e lt is size more so_far =
    ap (λ n. text' ++ program_headers (at + n) (drop (i + 1) ss)) size
    ∙ ap (λ t. t ++ program_headers (at + length e.bytes) (drop (i + 1) ss)) more
    ∙ append_assoc text (program_header at e) (program_headers (at + length e.bytes) (drop (i + 1) ss))
    ∙ ap (λ t. text ++ t) (sym (headers-drop ss i at e lt is))
    ∙ so_far
