-- Pieces that are fine cut the text that they write.
use Rattle.std.proofs.Common.{◌≡◌, ◌≢◌, ℕ, ◌+◌, ◌≤◌, Bool, true, List, [], ◌∷◌, ◌++◌, length, map, drop, append_assoc, length-append, refl, sym, ap, ◌∙◌, arith}
use Rattle.std.specs.Prelude.{slice_index}
use Rattle.std.proofs.lemmas.Bool.{and_from, and_parts}
use Rattle.c_tree.specs.Spelling.{Spoken}
use Rattle.c_tree.specs.Said.{said}
use Rattle.c_tree.specs.declared.token.Token.{Token}
use Rattle.c_lexer.specs.declared.pieces.Kind.TheVariants as kinds
use Rattle.c_lexer.specs.Cut.{IsCut, tokens_of, with_token}
use Rattle.c_lexer.proofs.FirstBytes.{class, digit_class}
use Rattle.command_numbered.proofs.Standing.{ends_inside, rest_is}
use Rattle.command_numbered.proofs.Bits.{Bit, Gap, Key, Sign, Word, Numeral, Nought, Own, Index, Bound, AreLow, IsLow, all_fine, bytes_of, class_behind, fine, fresh_of, kind_of, pieces_of, spoken_of, with_spoken, written}
use Rattle.command_numbered.proofs.Decimals.{decimal_is}
use Rattle.command_numbered.proofs.Stands.{IsSaid, bit_stands}

-- pieces before others

pub written_append : (xs ys : List Bit) → written (xs ++ ys) ≡ written xs ++ written ys
written_append [] ys = refl
written_append (x ∷ xs) ys = ap (λ bytes. bytes_of x ++ bytes) (written_append xs ys) ∙ sym (append_assoc (bytes_of x) (written xs) (written ys))

behind_append : (xs ys : List Bit) (rest : List ℕ) → written (xs ++ ys) ++ rest ≡ written xs ++ (written ys ++ rest)
behind_append xs ys rest = ap (λ bytes. bytes ++ rest) (written_append xs ys) ∙ append_assoc (written xs) (written ys) rest

pub class_append : (xs ys : List Bit) (c : ℕ) (rest : List ℕ) → class_behind (xs ++ ys) c rest ≡ class_behind xs (class_behind ys c rest) (written ys ++ rest)
class_append [] ys c rest = refl
class_append (Index i ∷ xs) ys c rest = refl
class_append (x ∷ xs) ys c rest = ap (λ bytes. class (slice_index (bytes_of x ++ bytes) 0)) (behind_append xs ys rest)

pub fine_append : (xs ys : List Bit) (c : ℕ) (rest : List ℕ) → all_fine xs (class_behind ys c rest) (written ys ++ rest) ≡ true → all_fine ys c rest ≡ true → all_fine (xs ++ ys) c rest ≡ true
fine_append [] ys c rest h k = k
fine_append (x ∷ xs) ys c rest h k =
    let p = and_parts (fine x (class_behind xs (class_behind ys c rest) (written ys ++ rest)) (written xs ++ (written ys ++ rest))) _ h in
    and_from (fine x (class_behind (xs ++ ys) c rest) (written (xs ++ ys) ++ rest)) (all_fine (xs ++ ys) c rest)
    ((λ i. fine x (class_append xs ys c rest i) (behind_append xs ys rest i)) ∙ p.0) (fine_append xs ys c rest p.1 k)

pub low_append : (xs ys : List Bit) → AreLow xs → AreLow ys → AreLow (xs ++ ys)
low_append [] ys h k = k
low_append (Own i ∷ xs) ys h k = (h.0, low_append xs ys h.1 k)
low_append (Index i ∷ xs) ys h k = (h.0, low_append xs ys h.1 k)
low_append (x ∷ xs) ys h k = low_append xs ys h k

low_parts : (b : Bit) (bits : List Bit) → AreLow (b ∷ bits) → IsLow b × AreLow bits
low_parts (Own i) bits h = h
low_parts (Index i) bits h = h
low_parts (Gap bytes) bits h = (tt, h)
low_parts (Key kind) bits h = (tt, h)
low_parts (Sign kind) bits h = (tt, h)
low_parts (Word bytes) bits h = (tt, h)
low_parts (Numeral bytes value) bits h = (tt, h)
low_parts Nought bits h = (tt, h)
low_parts Bound bits h = (tt, h)

with_append : (b : Bit) (at : ℕ) (xs ys : List Spoken) → with_spoken b at xs ++ ys ≡ with_spoken b at (xs ++ ys)
with_append (Gap bytes) at xs ys = refl
with_append b at xs ys = refl

pub spoken_append : (xs ys : List Bit) (at : ℕ) → spoken_of (xs ++ ys) at ≡ spoken_of xs at ++ spoken_of ys (at + length (written xs))
spoken_append [] ys at = let here : at ≡ at + 0 = omega arith in ap (spoken_of ys) here
spoken_append (x ∷ xs) ys at =
    let behind : at + length (bytes_of x) + length (written xs) ≡ at + length (written (x ∷ xs)) = let long = length-append (bytes_of x) (written xs) in omega (arith, long) in
    ap (with_spoken x at) (spoken_append xs ys (at + length (bytes_of x)) ∙ ap (λ n. spoken_of xs (at + length (bytes_of x)) ++ spoken_of ys n) behind)
    ∙ sym (with_append x at (spoken_of xs (at + length (bytes_of x))) (spoken_of ys (at + length (written (x ∷ xs)))))

-- the cut

class_is : (bits : List Bit) (c : ℕ) (rest : List ℕ) → AreLow bits → class (slice_index rest 0) ≡ c → class (slice_index (written bits ++ rest) 0) ≡ class_behind bits c rest
class_is [] c rest low is = is
class_is (Index i ∷ bits) c rest low is =
    let d = decimal_is i low.0.0 low.0.1 in
    ap (λ bytes. class (slice_index ((bytes ++ written bits) ++ rest) 0)) d.is ∙ digit_class d.first d.digits.0
class_is (b ∷ bits) c rest low is = ap (λ bytes. class (slice_index bytes 0)) (append_assoc (bytes_of b) (written bits) rest)

not_outside : (b : Bit) → kind_of b ≢ kinds.Outside
not_outside (Gap bytes) e = cc
not_outside b e = cc

abbrev pub say : List ℕ → Token → Spoken
say source token = record { said = said source token; at = token.at }

with_said : (source : List ℕ) (b : Bit) (at : ℕ) → IsSaid b source at → (ts : List Token) (ss : List Spoken) → map (say source) ts ≡ ss
    → map (say source) (with_token (kind_of b) at (at + length (bytes_of b)) ts) ≡ with_spoken b at ss
with_said source (Gap bytes) at is ts ss e = e
with_said source b at is ts ss e = λ i. record { said = is i; at = at } ∷ e i

-- the pieces from a place on, and what their tokens say
pub record Cut (bits : List Bit) (fresh : Bool) (source : List ℕ) (at to : ℕ) : Type 0 where
  pub cut : IsCut (pieces_of bits fresh at) fresh source at to
  pub said : map (say source) (tokens_of (pieces_of bits fresh at) at) ≡ spoken_of bits at

pub cut_from : (source : List ℕ) (bits : List Bit) (c : ℕ) (rest : List ℕ) (fresh : Bool) (at to : ℕ) → at ≤ length source → drop at source ≡ written bits ++ rest → class (slice_index rest 0) ≡ c → all_fine bits c rest ≡ true → AreLow bits → at + length (written bits) ≡ to
    → Cut bits fresh source at to
cut_from source [] c rest fresh at to inside there next test low e = let none : at ≡ at + 0 = omega arith in record { cut = none ∙ e; said = refl }
cut_from source (b ∷ bits) c rest fresh at to inside there next test low e =
    let behind = written bits ++ rest in
    let here : drop at source ≡ bytes_of b ++ behind = there ∙ append_assoc (bytes_of b) (written bits) rest in
    let p = and_parts (fine b (class_behind bits c rest) behind) (all_fine bits c rest) test in
    let l = low_parts b bits low in
    let s = bit_stands fresh source at inside behind b here (class_behind bits c rest) (class_is bits c rest l.1 next) p.0 l.0 in
    let long = length-append (bytes_of b) (written bits) in
    let more = cut_from source bits c rest (fresh_of b fresh) (at + length (bytes_of b)) to (ends_inside source at inside (bytes_of b) behind here) (rest_is source at (bytes_of b) behind here) next p.1 l.1 (omega (arith, long, e)) in
    record {
      cut = (s.cuts, not_outside b, more.cut);
      said = with_said source b at s.said (tokens_of (pieces_of bits (fresh_of b fresh) (at + length (bytes_of b))) (at + length (bytes_of b))) (spoken_of bits (at + length (bytes_of b))) more.said;
    }
