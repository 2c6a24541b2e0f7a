-- What lines say is what they were written of, and so is in range.
use Rattle.std.proofs.Common.{◌≡◌, ℕ, ◌+◌, ◌^◌, ◌<◌, ◌≤◌, ◌&&◌, ◌||◌, ◌++◌, ℤ, pos, negsuc, ◌<ℤ◌, ◌≤ℤ◌, unsigned_abs, FitsSigned, MatchOption, Bool, true, false, List, ◌∷◌, refl, sym, ap, subst, ◌∙◌, codes, arith, nat_lt, nat_le}
use Rattle.std.proofs.lemmas.Bool.{false≢true}
use Rattle.std.specs.Int.{w128}
use Rattle.std.proofs.lemmas.Int.{ints}
use Rattle.std.specs.Fmt.{decimal, signed_decimal}
use borrow.Author.Tests.{leb-true, ltb-true}
use Rattle.code_flow_system.specs.declared.claims.Never.{Never}
use Rattle.code_flow_system.specs.declared.claims.Within.{Within}
use Rattle.code_flow_system.specs.declared.claims.LoopClaim.{LoopClaim}
use Rattle.code_flow_system.specs.declared.cert.Part.{Part}
use Rattle.code_flow_system.specs.Certificates.{IsSmall, IsPart}
use Rattle.report_words.specs.Words.{Word, address_word, is_name}
use Rattle.report_words.specs.declared.shapes.Shape.TheVariants.{Signed}
use Rattle.report_words.specs.Shapes.{are_letters, fit, are_in_range}
use Rattle.report_words.specs.Numbers.{is_number, number_of, signed_of, address_of}
use Rattle.report_words.proofs.WordLemmas.{address_of-address_word, signed_of-signed_decimal, signed_of_number}
use Rattle.report_words.proofs.NumberLemmas.{number_of-decimal}
use Rattle.report_lines.specs.LineShapes.{cycles_shapes, never_shapes, region_shapes, loop_shapes, scale_shapes, potential_shapes, unit_shapes, flow_shapes, share_shapes}
use Rattle.report_text.specs.Lines.{cycles_line, exit_line, never_line, letter, region_line, loop_line, scale_line, potential_line, unit_line, flow_line, share_line}
use Rattle.report_text.specs.Forms.{NamesOne, IsShare}
use Rattle.report_text.specs.declared.entries.Share.{Share}
use Rattle.report_rules.specs.CertRules.{IsUnit, share_stands}
use Rattle.report_rules.specs.WordTests.{word_at, place_at}
use Rattle.report_rules.proofs.WordTestLemmas.{fit_at, range_at}

and_first : (a b : Bool) → (a && b) ≡ true → a ≡ true
and_first true b e = refl
and_first false b e = e

and_second : (a b : Bool) → (a && b) ≡ true → b ≡ true
and_second true b e = e
and_second false b e = absurd (false≢true e)

pub first_of_two : (a b : Bool) → (a && b) ≡ true → a ≡ true
first_of_two a b e = and_first a b e

pub place_is : (a : ℕ) (w : Word) → a < 2 ^ 32 → address_word a ≡ w → a ≡ address_of w
place_is a w small e = sym (address_of-address_word a small) ∙ ap address_of e

pub number_is : (n : ℕ) (w : Word) → n < 2 ^ 64 → decimal n ≡ w → n ≡ number_of w
number_is n w small e = sym (number_of-decimal n (omega arith)) ∙ ap number_of e

fits_small : (z : ℤ) → FitsSigned w128 z → unsigned_abs z < 10 ^ 64
fits_small (pos n) f = omega (arith, ints, f)
fits_small (negsuc n) f = omega (arith, ints, f)

pub signed_is : (z : ℤ) (w : Word) → FitsSigned w128 z → signed_decimal z ≡ w → z ≡ signed_of w
signed_is z w fits e = sym (signed_of-signed_decimal z (fits_small z fits)) ∙ ap signed_of e

-- a signed number in range is small
small_is : (z : ℤ) (w : Word) → FitsSigned w128 z → signed_decimal z ≡ w → nat_lt (unsigned_abs (signed_of w)) (2 ^ 120) ≡ true → IsSmall z
small_is z w bound e t = let same = ap unsigned_abs (signed_is z w bound e) in omega (arith, same, ltb-true (unsigned_abs (signed_of w)) (2 ^ 120) t)

-- the words of a written line

pub exit_at : (a : ℕ) (ws : List Word) → a < 2 ^ 32 → exit_line a ≡ codes "exit" ∷ ws → a ≡ place_at 0 ws
exit_at a ws small e = place_is a (word_at 0 ws) small (ap (λ l. word_at 1 l) e)

pub never_at : (c : Never) (m : ℤ) (ws : List Word) → c.at < 2 ^ 32 → never_line c m ≡ codes "never" ∷ ws → c.at ≡ place_at 2 ws
never_at c m ws small e = place_is c.at (word_at 2 ws) small (ap (λ l. word_at 3 l) e)

pub never_small : (c : Never) (m : ℤ) (ws : List Word) → FitsSigned w128 m → never_line c m ≡ codes "never" ∷ ws → fit never_shapes ws ≡ true → are_in_range never_shapes ws ≡ true → IsSmall m
never_small c m ws bound e f r = small_is m (word_at 3 ws) bound (ap (λ l. word_at 4 l) e) (range_at never_shapes ws 3 Signed (omega arith) f r)

pub loop_at : (c : LoopClaim) (m : ℤ × ℤ) (ws : List Word) → c.header < 2 ^ 32 → loop_line c m ≡ codes "loop" ∷ ws → c.header ≡ place_at 4 ws
loop_at c m ws small e = place_is c.header (word_at 4 ws) small (ap (λ l. word_at 5 l) e)

pub loop_small : (c : LoopClaim) (m : ℤ × ℤ) (ws : List Word) → FitsSigned w128 m.0 → FitsSigned w128 m.1 → loop_line c m ≡ codes "loop" ∷ ws → fit loop_shapes ws ≡ true → are_in_range loop_shapes ws ≡ true → IsSmall m.0 × IsSmall m.1
loop_small c m ws first second e f r = (
  small_is m.0 (word_at 6 ws) first (ap (λ l. word_at 7 l) e) (range_at loop_shapes ws 6 Signed (omega arith) f r),
  small_is m.1 (word_at 7 ws) second (ap (λ l. word_at 8 l) e) (range_at loop_shapes ws 7 Signed (omega arith) f r),
)

pub region_at : (w : Within) (ws : List Word) → w.first < 2 ^ 32 → w.end < 2 ^ 32 → region_line w ≡ codes "region" ∷ ws → (w.first ≡ place_at 0 ws) × (w.end ≡ place_at 1 ws)
region_at w ws first end e = (place_is w.first (word_at 0 ws) first (ap (λ l. word_at 1 l) e), place_is w.end (word_at 1 ws) end (ap (λ l. word_at 2 l) e))

between : (least n most : ℕ) → (nat_le least n && nat_le n most) ≡ true → (least ≤ n) × (n ≤ most)
between least n most e = (leb-true least n (and_first (nat_le least n) (nat_le n most) e), leb-true n most (and_second (nat_le least n) (nat_le n most) e))

below : (least n most : ℕ) → (nat_le least n && nat_lt n most) ≡ true → (least ≤ n) × (n < most)
below least n most e = (leb-true least n (and_first (nat_le least n) (nat_lt n most) e), ltb-true n most (and_second (nat_le least n) (nat_lt n most) e))

pub cycles_range : (n : ℕ) (ws : List Word) → n < 2 ^ 64 → cycles_line n ≡ codes "cycles" ∷ ws → fit cycles_shapes ws ≡ true → are_in_range cycles_shapes ws ≡ true → n < 2 ^ 63
cycles_range n ws small e f r =
    let same = number_is n (word_at 0 ws) small (ap (λ l. word_at 1 l) e) in
    let t = between 0 (number_of (word_at 0 ws)) 9223372036854775807 (range_at cycles_shapes ws 0 Signed (omega arith) f r) in omega (arith, same, t)

pub scale_range : (n : ℕ) (ws : List Word) → n < 2 ^ 64 → scale_line n ≡ codes "scale" ∷ ws → fit scale_shapes ws ≡ true → are_in_range scale_shapes ws ≡ true → (0 < n) × (n ≤ 2 ^ 48)
scale_range n ws small e f r =
    let same = number_is n (word_at 0 ws) small (ap (λ l. word_at 1 l) e) in
    let t = between 1 (number_of (word_at 0 ws)) 281474976710656 (range_at scale_shapes ws 0 Signed (omega arith) f r) in (omega (arith, same, t), omega (arith, same, t))

pub unit_range : (greatest : Bool) (n : ℕ) (ws : List Word) → n < 2 ^ 64 → unit_line n ≡ codes "unit" ∷ ws → fit (unit_shapes greatest) ws ≡ true → are_in_range (unit_shapes greatest) ws ≡ true → IsUnit greatest n
unit_range true n ws small e f r =
    let same = number_is n (word_at 0 ws) small (ap (λ l. word_at 1 l) e) in
    let t = between 1 (number_of (word_at 0 ws)) 281474976710656 (range_at (unit_shapes true) ws 0 Signed (omega arith) f r) in (omega (arith, same, t), omega (arith, same, t))
unit_range false n ws small e f r =
    let same = number_is n (word_at 0 ws) small (ap (λ l. word_at 1 l) e) in
    let t = between 0 (number_of (word_at 0 ws)) 0 (range_at (unit_shapes false) ws 0 Signed (omega arith) f r) in omega (arith, same, t)

pub region_named : (w : Within) (ws : List Word) → region_line w ≡ codes "region" ∷ ws → fit region_shapes ws ≡ true → NamesOne w
region_named w ws e f = by w.flash w.spm w.ram (ap are_letters (ap (λ l. word_at 3 l) e) ∙ fit_at region_shapes ws 2 Signed (omega arith) f)
  where
    by : (f s r : Bool) → are_letters (letter f 102 ++ (letter s 115 ++ letter r 114)) ≡ true → (f || (s || r)) ≡ true
    by true s r e = refl
    by false true r e = refl
    by false false true e = refl
    by false false false e = e

pub potential_at : (p : ℕ × ℤ) (ws : List Word) → p.0 < 2 ^ 32 → potential_line p ≡ codes "potential" ∷ ws → p.0 ≡ place_at 0 ws
potential_at p ws small e = place_is p.0 (word_at 0 ws) small (ap (λ l. word_at 1 l) e)

pub potential_small : (p : ℕ × ℤ) (ws : List Word) → FitsSigned w128 p.1 → potential_line p ≡ codes "potential" ∷ ws → fit potential_shapes ws ≡ true → are_in_range potential_shapes ws ≡ true → IsSmall p.1
potential_small p ws bound e f r = small_is p.1 (word_at 1 ws) bound (ap (λ l. word_at 2 l) e) (range_at potential_shapes ws 1 Signed (omega arith) f r)

-- a number without a sign
amount_is : (z : ℤ) (w : Word) → FitsSigned w128 z → signed_decimal z ≡ w → is_number w ≡ true → z ≡ pos (number_of w)
amount_is z w bound e f = signed_is z w bound e ∙ signed_of_number w f

pub flow_at : (p : Part) (ws : List Word) → p.at < 2 ^ 32 → p.number < 2 ^ 8 → flow_line p ≡ codes "flow" ∷ ws → (p.at ≡ place_at 0 ws) × (p.number ≡ number_of (word_at 1 ws))
flow_at p ws at small e = (place_is p.at (word_at 0 ws) at (ap (λ l. word_at 1 l) e), number_is p.number (word_at 1 ws) (omega arith) (ap (λ l. word_at 2 l) e))

part_by : (z : ℤ) (n : ℕ) → z ≡ pos n → (nat_le 1 n && nat_lt n (2 ^ 120)) ≡ true → (pos 0 <ℤ z) × IsSmall z
part_by z n e t = let b = below 1 n (2 ^ 120) t in subst (λ y. (pos 0 <ℤ y) × IsSmall y) (sym e) (omega (arith, ints, b), omega (arith, b))

pub flow_part : (p : Part) (ws : List Word) → FitsSigned w128 p.part → flow_line p ≡ codes "flow" ∷ ws → fit flow_shapes ws ≡ true → are_in_range flow_shapes ws ≡ true → IsPart p
flow_part p ws bound e f r =
    let both = part_by p.part (number_of (word_at 2 ws)) (amount_is p.part (word_at 2 ws) bound (ap (λ l. word_at 3 l) e) (fit_at flow_shapes ws 2 Signed (omega arith) f)) (range_at flow_shapes ws 2 Signed (omega arith) f r) in
    record { positive = both.0; small = both.1 }

pub share_at : (s : Share) (ws : List Word) → s.first < 2 ^ 32 → s.end < 2 ^ 32 → share_line s ≡ codes "share" ∷ ws → (s.first ≡ place_at 1 ws) × (s.end ≡ place_at 2 ws)
share_at s ws first end e = (place_is s.first (word_at 1 ws) first (ap (λ l. word_at 2 l) e), place_is s.end (word_at 2 ws) end (ap (λ l. word_at 3 l) e))

share_by : (z : ℤ) (n : ℕ) → z ≡ pos n → (nat_le 0 n && nat_lt n (2 ^ 120)) ≡ true → (pos 0 ≤ℤ z) × IsSmall z
share_by z n e t = let b = below 0 n (2 ^ 120) t in subst (λ y. (pos 0 ≤ℤ y) × IsSmall y) (sym e) (omega (arith, ints), omega (arith, b))

pub share_form : (s : Share) (least : ℕ) (ws : List Word) → s.first < 2 ^ 32 → s.end < 2 ^ 32 → FitsSigned w128 s.part → MatchOption s.name (Unit {0}) (λ name. is_name name ≡ true)
    → share_line s ≡ codes "share" ∷ ws → fit share_shapes ws ≡ true → share_stands least ws ≡ true → are_in_range share_shapes ws ≡ true → IsShare s
share_form s least ws first end bound named e f st r =
    let at = share_at s ws first end e in
    let order = ltb-true (place_at 1 ws) (place_at 2 ws) (and_first (nat_lt (place_at 1 ws) (place_at 2 ws)) (nat_le least (place_at 1 ws)) (and_second (fit share_shapes ws) (nat_lt (place_at 1 ws) (place_at 2 ws) && nat_le least (place_at 1 ws)) st)) in
    let both = share_by s.part (number_of (word_at 3 ws)) (amount_is s.part (word_at 3 ws) bound (ap (λ l. word_at 4 l) e) (fit_at share_shapes ws 3 Signed (omega arith) f)) (range_at share_shapes ws 3 Signed (omega arith) f r) in
    record { name = named; filled = omega (arith, at.0, at.1, order); least = both.0; small = both.1 }
