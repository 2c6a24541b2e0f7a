-- A name of a source is one for reports.
use Rattle.std.proofs.Common.{◌≡◌, ℕ, zero, suc, ◌<◌, Bool, true, false, List, [], ◌∷◌, length, refl, arith}
use Rattle.std.specs.Prelude.{◌&&◌, slice_index}
use Rattle.std.proofs.lemmas.Bool.Decides.{nat_tests}
use Rattle.c_tree.specs.Bytes.{IsLetter, IsNameByte}
use Rattle.c_tree.specs.Names.{HasNameForm}
use Rattle.report_words.specs.Words.{are_name_bytes, is_letter, is_name, is_name_byte}

both : (a b : Bool) → a ≡ true → b ≡ true → (a && b) ≡ true
both true b e f = f
both false b e f = e

letter : (b : ℕ) → IsLetter b → is_letter b ≡ true
letter b h = grind (arith, nat_tests)

name_byte : (b : ℕ) → IsNameByte b → is_name_byte b ≡ true
name_byte b h = grind (arith, nat_tests)

name_bytes : (bytes : List ℕ) → ((i : ℕ) → i < length bytes → IsNameByte (slice_index bytes i)) → are_name_bytes bytes ≡ true
name_bytes [] h = refl
name_bytes (b ∷ bytes) h = both (is_name_byte b) (are_name_bytes bytes) (name_byte b (h zero (omega arith))) (name_bytes bytes (λ i lt. h (suc i) (omega (arith, lt))))

pub formed_name : (name : List ℕ) → HasNameForm name → is_name name ≡ true
formed_name [] h = absurd (let some = h.some in omega (arith, some))
formed_name (b ∷ bytes) h = both (is_letter b) (are_name_bytes bytes) (letter b h.first) (name_bytes bytes (λ i lt. h.bytes (suc i) (omega arith) (omega (arith, lt))))
