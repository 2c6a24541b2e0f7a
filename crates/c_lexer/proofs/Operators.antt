-- Pragma operators end at one place, which is behind their word.
use Rattle.std.proofs.Common.{◌≡◌, ℕ, ◌+◌, ◌<◌, ◌≤◌, Bool, true, false, List, [], ◌∷◌, length, drop, max, length-drop, sym, ap, subst, ◌∙◌, arith}
use Rattle.std.specs.Prelude.{if◌then◌else◌, nat_eq, slice_index}
use Rattle.std.proofs.lemmas.Bool.Decides.{nat_tests}
use Rattle.std.proofs.lemmas.List.{get_or-drop}
use Rattle.c_tree.specs.Bytes.{IsNameByte, is_blank}
use Rattle.c_tree.specs.Pragmas.{Within, Blanks, Slash, Line, Block, Star, behind_blanks, from_open, from_string, from_string_end, from_close, from_quote, IsOperator}

-- what may be left of so many bytes
abbrev room : Within → ℕ → ℕ
room Slash n = n + 1
room (Block comment) n = max (length comment) n
room (Star comment) n = max (length comment) n
room w n = n

either : (test : Bool) (xs ys : List ℕ) (n : ℕ) → length xs ≤ n → length ys ≤ n → length (if test then xs else ys) ≤ n
either true xs ys n h k = h
either false xs ys n h k = k

pub behind_size : (w : Within) (bytes : List ℕ) → length (behind_blanks w bytes) ≤ room w (length bytes)
behind_size Blanks [] = omega arith
behind_size Slash [] = omega arith
behind_size Line [] = omega arith
behind_size (Block comment) [] = omega arith
behind_size (Star comment) [] = omega arith
behind_size Blanks (b ∷ bytes) =
    let blank = behind_size Blanks bytes in
    let slash = behind_size Slash bytes in
    either (is_blank b) (behind_blanks Blanks bytes) (if nat_eq b 47 then behind_blanks Slash bytes else b ∷ bytes) (length (b ∷ bytes)) (omega (arith, blank)) (either (nat_eq b 47) (behind_blanks Slash bytes) (b ∷ bytes) (length (b ∷ bytes)) (omega (arith, slash)) (omega arith))
behind_size Slash (b ∷ bytes) =
    let line = behind_size Line bytes in
    let block = behind_size (Block (47 ∷ b ∷ bytes)) bytes in
    either (nat_eq b 47) (behind_blanks Line bytes) (if nat_eq b 42 then behind_blanks (Block (47 ∷ b ∷ bytes)) bytes else 47 ∷ b ∷ bytes) (length (b ∷ bytes) + 1) (omega (arith, line)) (either (nat_eq b 42) (behind_blanks (Block (47 ∷ b ∷ bytes)) bytes) (47 ∷ b ∷ bytes) (length (b ∷ bytes) + 1) (omega (arith, block)) (omega arith))
behind_size Line (b ∷ bytes) =
    let blanks = behind_size Blanks bytes in
    let line = behind_size Line bytes in
    either (nat_eq b 10) (behind_blanks Blanks bytes) (behind_blanks Line bytes) (length (b ∷ bytes)) (omega (arith, blanks)) (omega (arith, line))
behind_size (Block comment) (b ∷ bytes) =
    let star = behind_size (Star comment) bytes in
    let block = behind_size (Block comment) bytes in
    either (nat_eq b 42) (behind_blanks (Star comment) bytes) (behind_blanks (Block comment) bytes) (max (length comment) (length (b ∷ bytes))) (omega (arith, star)) (omega (arith, block))
behind_size (Star comment) (b ∷ bytes) =
    let blanks = behind_size Blanks bytes in
    let star = behind_size (Star comment) bytes in
    let block = behind_size (Block comment) bytes in
    either (nat_eq b 47) (behind_blanks Blanks bytes) (if nat_eq b 42 then behind_blanks (Star comment) bytes else behind_blanks (Block comment) bytes) (max (length comment) (length (b ∷ bytes))) (omega (arith, blanks)) (either (nat_eq b 42) (behind_blanks (Star comment) bytes) (behind_blanks (Block comment) bytes) (max (length comment) (length (b ∷ bytes))) (omega (arith, star)) (omega (arith, block)))

quote_size : (escaped : Bool) (bytes : List ℕ) → length (from_quote escaped bytes) ≤ length bytes
quote_size escaped [] = omega arith
quote_size true (b ∷ bytes) = let rest = quote_size false bytes in omega (arith, rest)
quote_size false (b ∷ bytes) =
    let rest = quote_size (nat_eq b 92) bytes in
    either (nat_eq b 34) (b ∷ bytes) (from_quote (nat_eq b 92) bytes) (length (b ∷ bytes)) (omega arith) (omega (arith, rest))

-- where a byte stands, there are bytes
some : (bytes : List ℕ) (b : ℕ) → 0 < b → slice_index bytes 0 ≡ b → 0 < length bytes
some [] b h e = absurd (omega (arith, h, e))
some (x ∷ bytes) b h e = omega arith

pub operator_after : (source : List ℕ) (at end : ℕ) → IsOperator source at end → at + 7 < end
operator_after source at end o =
    let close = behind_size Blanks (drop 1 (from_string_end source at)) in
    let quote = quote_size false (drop 1 (from_string source at)) in
    let string = behind_size Blanks (drop 1 (from_open source at)) in
    let opened = behind_size Blanks (drop (at + 7) source) in
    let first = some (from_close source at) 41 (omega arith) o.closes.0 in
    omega (arith, close, quote, string, opened, first, o.ends, length-drop 1 (from_string_end source at), length-drop 1 (from_string source at), length-drop 1 (from_open source at), length-drop (at + 7) source)

pub operator_same : (source : List ℕ) (at end further : ℕ) → IsOperator source at end → IsOperator source at further → end ≡ further
operator_same source at end further a b = omega (arith, a.ends, b.ends)

-- what stands behind the word of an operator ends the word
pub operator_word : (source : List ℕ) (at end : ℕ) → IsOperator source at end → IsNameByte (slice_index source (at + 7)) → ⊥
operator_word source at end o name = begins (drop (at + 7) source) o.opens.0 (subst IsNameByte first name)
  where
    first : slice_index source (at + 7) ≡ slice_index (drop (at + 7) source) 0
    first = ap (slice_index source) (omega arith) ∙ sym (get_or-drop (at + 7) source 0 0)

    begins : (bytes : List ℕ) → slice_index (behind_blanks Blanks bytes) 0 ≡ 40 → IsNameByte (slice_index bytes 0) → ⊥
    begins [] e h = absurd (omega (arith, e))
    begins (b ∷ bytes) e h = grind (arith, nat_tests, e, h)
