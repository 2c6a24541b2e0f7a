-- The names in a pragma are no longer than its token.
use Rattle.std.proofs.Common.{◌≡◌, ℕ, suc, ◌+◌, ◌-◌, ◌<◌, ◌≤◌, ◌⊎◌, inl, inr, Bool, true, false, List, [], ◌∷◌, ◌++◌, length, drop, take, length-append, length-drop, length-take, refl, arith}
use Rattle.std.specs.Prelude.{if◌then◌else◌, nat_eq, slice_index, slice_range}
use Rattle.std.proofs.lemmas.Bool.Decides.{nat_tests}
use Rattle.c_tree.specs.Bytes.{is_letter, is_name_byte}
use Rattle.c_tree.specs.Pragmas.{Blanks, IsDirective, IsOperator, IsPragma, before_quote, behind_first_word, behind_hash, from_open, from_quote, from_string, from_string_end, is_gap, names_from, names_in, pragma_text, string_text, with_run, without_return}
use Rattle.c_lexer.proofs.Operators.{behind_size, operator_after}
use Rattle.facts_limits.specs.Names.{names_length}

-- names in a text

with_run_size : (run : List ℕ) (names : List (List ℕ)) → names_length (with_run run names) ≤ length run + names_length names
with_run_size [] names = omega arith
with_run_size (b ∷ bytes) names = by_test (is_letter b)
  where
    by_test : (t : Bool) → names_length (if t then (b ∷ bytes) ∷ names else names) ≤ length (b ∷ bytes) + names_length names
    by_test true = omega arith
    by_test false = omega arith

names_from_size : (begun bytes : List ℕ) → names_length (names_from begun bytes) ≤ length begun + length bytes
names_from_size begun [] = let run = with_run_size begun [] in omega (arith, run)
names_from_size begun (b ∷ bytes) = by_test (is_name_byte b) (names_from_size (begun ++ b ∷ []) bytes) (with_run_size begun (names_from [] bytes)) (names_from_size [] bytes)
  where
    by_test : (t : Bool) → names_length (names_from (begun ++ b ∷ []) bytes) ≤ length (begun ++ b ∷ []) + length bytes
        → names_length (with_run begun (names_from [] bytes)) ≤ length begun + names_length (names_from [] bytes) → names_length (names_from [] bytes) ≤ 0 + length bytes
        → names_length (if t then names_from (begun ++ b ∷ []) bytes else with_run begun (names_from [] bytes)) ≤ length begun + suc (length bytes)
    by_test true on run anew = let more = length-append begun (b ∷ []) in omega (arith, on, more)
    by_test false on run anew = omega (arith, run, anew)

behind_word_size : (begun : Bool) (bytes : List ℕ) → length (behind_first_word begun bytes) ≤ length bytes
behind_word_size begun [] = omega arith
behind_word_size false (b ∷ bytes) = let rest = behind_word_size (if is_gap b then false else true) bytes in omega (arith, rest)
behind_word_size true (b ∷ bytes) = by_test (is_gap b) (behind_word_size true bytes)
  where
    by_test : (t : Bool) → length (behind_first_word true bytes) ≤ length bytes → length (if t then b ∷ bytes else behind_first_word true bytes) ≤ suc (length bytes)
    by_test true rest = omega arith
    by_test false rest = omega (arith, rest)

pub names_in_size : (text : List ℕ) → names_length (names_in text) ≤ length text
names_in_size text =
    let names = names_from_size [] (behind_first_word false text) in
    let rest = behind_word_size false text in
    omega (arith, names, rest)

-- the text of a pragma

before_size : (escaped : Bool) (bytes : List ℕ) → length (before_quote escaped bytes) + length (from_quote escaped bytes) ≡ length bytes
before_size escaped [] = refl
before_size true (b ∷ bytes) = let rest = before_size false bytes in omega (arith, rest)
before_size false (b ∷ bytes) = by_test (nat_eq b 34) (before_size (nat_eq b 92) bytes)
  where
    by_test : (t : Bool) → length (before_quote (nat_eq b 92) bytes) + length (from_quote (nat_eq b 92) bytes) ≡ length bytes
        → length (if t then [] else b ∷ before_quote (nat_eq b 92) bytes) + length (if t then b ∷ bytes else from_quote (nat_eq b 92) bytes) ≡ suc (length bytes)
    by_test true rest = omega arith
    by_test false rest = omega (arith, rest)

return_size : (bytes : List ℕ) → length (without_return bytes) ≤ length bytes
return_size bytes = by_test (nat_eq (slice_index bytes (length bytes - 1)) 13)
  where
    by_test : (t : Bool) → length (if t then take (length bytes - 1) bytes else bytes) ≤ length bytes
    by_test true = let less = length-take (length bytes - 1) bytes in omega (arith, less)
    by_test false = omega arith

pub range_size : (source : List ℕ) (at end : ℕ) → end ≤ length source → length (slice_range source at end) ≡ end - at
range_size source at end within = simp (length-take, length-drop) (omega (arith, within))

pub pragma_size : (word source : List ℕ) (at end : ℕ) → at < end → end ≤ length source → IsPragma word source at end → length (pragma_text source at end) + at ≤ end
pragma_size word source at end some within is = by_test (nat_eq (slice_index source at) 35) refl is.0
  where
    not_hash : (n : ℕ) → n ≡ 35 → nat_eq n 35 ≡ false → ⊥
    not_hash n e f = grind (arith, nat_tests)

    directive : length (without_return (drop 6 (behind_hash source at end))) + at ≤ end
    directive =
        let returned = return_size (drop 6 (behind_hash source at end)) in
        let behind = length-drop 6 (behind_hash source at end) in
        let blanks = behind_size Blanks (slice_range source (at + 1) end) in
        let line = range_size source (at + 1) end within in
        omega (arith, returned, behind, blanks, line, some)

    operator : IsOperator source at end → length (string_text source at) + at ≤ end
    operator o =
        let quoted = before_size false (drop 1 (from_string source at)) in
        let close = behind_size Blanks (drop 1 (from_string_end source at)) in
        let string = behind_size Blanks (drop 1 (from_open source at)) in
        let opened = behind_size Blanks (drop (at + 7) source) in
        let after = operator_after source at end o in
        omega (arith, quoted, close, string, opened, after, within, o.ends, length-drop 1 (from_string_end source at), length-drop 1 (from_string source at), length-drop 1 (from_open source at), length-drop (at + 7) source)

    by_test : (t : Bool) → nat_eq (slice_index source at) 35 ≡ t → IsDirective source at end ⊎ IsOperator source at end → length (if t then without_return (drop 6 (behind_hash source at end)) else string_text source at) + at ≤ end
    by_test true e form = directive
    by_test false e (inl line) = absurd (not_hash (slice_index source at) line.hash e)
    by_test false e (inr o) = operator o
