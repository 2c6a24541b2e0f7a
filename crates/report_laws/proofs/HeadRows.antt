-- The lines `version`, `cycles`, `kind`, `copy`, `column` and `end` are read by their rules.
use Rattle.std.proofs.Common.{◌≡◌, ℕ, suc, ◌^◌, ◌<◌, ◌≤◌, ◌&&◌, ℤ, true, false, List, [], ◌∷◌, length, map, refl, ap, ◌∙◌, arith, codes, All}
use Rattle.std.proofs.lemmas.List.Elements.{All-head, All-tail, All-weaker}
use Rattle.std.specs.Fmt.{decimal, signed_decimal}
use borrow.Author.Tests.{le-leb, eq-eqb}
use Rattle.code_flow_system.specs.Certificates.{IsSmall}
use Rattle.code_flow_answer.specs.declared.bounded.Kind.{Kind}
use Rattle.code_flow_answer.specs.declared.bounded.Kind.TheVariants.{Greatest, Empty, Wide, Spent}
use Rattle.code_flow_answer.specs.declared.bounded.Column.{Column}
use Rattle.report_words.specs.Words.{address_word}
use Rattle.report_words.specs.Numbers.{address_of}
use Rattle.report_words.proofs.WordLemmas.{is_address-address_word, address_of-address_word}
use Rattle.report_text.specs.declared.entries.CopyLine.{CopyLine}
use Rattle.report_text.specs.Forms.{Ascend, IsCopyLine, IsColumn}
use Rattle.report_text.specs.Lines.{cycles_line, kind_line, copy_line, column_line, end_line}
use Rattle.report_lines.specs.LineLists.{are_addresses, are_integers, are_small}
use Rattle.report_rules.specs.WordTests.{places_ascend}
use Rattle.report_rules.specs.Heads.{version_rule, cycles_rule, is_greatest_kind, kind_rule, copy_rule, column_rule, end_rule}
use Rattle.report_rules.proofs.WordTestLemmas.{same_word_same}
use Rattle.report_rules.proofs.KindLemmas.{two_word}
use Rattle.report_reading.specs.Plain.{ArePlain}
use Rattle.report_reading.proofs.PlainLemmas.{decimal_plain, signed_plain, address_plain, name_plain}
use Rattle.report_laws.specs.Typed.{IsWord, IsTypedKind}
use Rattle.report_laws.proofs.Fine.{IsFine}
use Rattle.report_laws.proofs.WordsBack.{number_form, number_range, signed_form, signed_range}

pub version_fine : IsFine version_rule 1 (codes "version" ∷ decimal 2 ∷ []) 2
version_fine = record {
  plain = (record { unspaced = refl; unended = refl }, (decimal_plain 2 (omega arith), tt));
  tagged = refl;
  stands = record { stands = (λ i. same_word_same (decimal 2) (codes "2") two_word i && true); in_range = refl };
  next_is = refl;
}

pub cycles_fine : (n : ℕ) → n < 2 ^ 63 → IsFine cycles_rule tt (cycles_line n) tt
cycles_fine n small = record {
  plain = (record { unspaced = refl; unended = refl }, (decimal_plain n (omega (arith, small)), tt));
  tagged = refl;
  stands = record { stands = (λ i. number_form n (omega (arith, small)) i && true); in_range = (λ i. number_range 0 9223372036854775807 n (omega (arith, small)) (omega arith) (omega (arith, small)) i && true) };
  next_is = refl;
}

pub kind_fine : (k : Kind) → IsTypedKind k → IsFine kind_rule false (kind_line k) (is_greatest_kind k)
kind_fine Greatest t = record {
  plain = (record { unspaced = refl; unended = refl }, (record { unspaced = refl; unended = refl }, tt));
  tagged = refl;
  stands = record { stands = refl; in_range = refl };
  next_is = refl;
}
kind_fine Empty t = record {
  plain = (record { unspaced = refl; unended = refl }, (record { unspaced = refl; unended = refl }, tt));
  tagged = refl;
  stands = record { stands = refl; in_range = refl };
  next_is = refl;
}
kind_fine (Wide p) t = record {
  plain = (record { unspaced = refl; unended = refl }, (record { unspaced = refl; unended = refl }, (decimal_plain p (omega (arith, t)), tt)));
  tagged = refl;
  stands = record { stands = (λ i. number_form p (omega (arith, t)) i && true); in_range = (λ i. number_range 0 4294967295 p (omega (arith, t)) (omega arith) (omega (arith, t)) i && true) };
  next_is = refl;
}
kind_fine (Spent n p) t = record {
  plain = (record { unspaced = refl; unended = refl }, (record { unspaced = refl; unended = refl }, (decimal_plain n (omega (arith, t.0)), (decimal_plain p (omega (arith, t.1)), tt))));
  tagged = refl;
  stands = record {
    stands = (λ i. number_form n (omega (arith, t.0)) i && (number_form p (omega (arith, t.1)) i && true));
    in_range = (λ i. number_range 0 4294967295 n (omega (arith, t.0)) (omega arith) (omega (arith, t.0)) i && (number_range 0 4294967295 p (omega (arith, t.1)) (omega arith) (omega (arith, t.1)) i && true));
  };
  next_is = refl;
}

addresses_form : (xs : List ℕ) → are_addresses (map address_word xs) ≡ true
addresses_form [] = refl
addresses_form (x ∷ xs) = (λ i. is_address-address_word x i && addresses_form xs i)

addresses_plain : (xs : List ℕ) → ArePlain (map address_word xs)
addresses_plain [] = tt
addresses_plain (x ∷ xs) = (address_plain x, addresses_plain xs)

ascend_back : (least : ℕ) (xs : List ℕ) → All IsWord xs → Ascend xs → All (λ a. least ≤ a) xs → places_ascend least (map address_word xs) ≡ true
ascend_back least [] t o b = refl
ascend_back least (x ∷ xs) t o b =
    let same = address_of-address_word x (All-head IsWord x xs t) in
    let le = All-head (λ a. least ≤ a) x xs b in
    let rest = ap (λ a. places_ascend (suc a) (map address_word xs)) same ∙ ascend_back (suc x) xs (All-tail IsWord x xs t) o.1 (All-weaker (λ a. x < a) (λ a. suc x ≤ a) (λ a lt. omega (arith, lt)) xs o.0) in
    (λ i. le-leb least (address_of (address_word x)) (omega (arith, same, le)) i && rest i)

all_above : (xs : List ℕ) → All (λ a. 0 ≤ a) xs
all_above xs = λ k d lt. omega arith

pub copy_fine : (c : CopyLine) → IsCopyLine c → All IsWord c.places → IsFine copy_rule tt (copy_line c) tt
copy_fine c is t = record {
  plain = (record { unspaced = refl; unended = refl }, (name_plain c.name is.name, addresses_plain c.places));
  tagged = refl;
  stands = record { stands = (λ i. is.name i && (addresses_form c.places i && ascend_back 0 c.places t is.ascending (all_above c.places) i)); in_range = refl };
  next_is = refl;
}

integers_form : (zs : List ℤ) → All IsSmall zs → are_integers (map signed_decimal zs) ≡ true
integers_form [] s = refl
integers_form (z ∷ zs) s = (λ i. signed_form z (All-head IsSmall z zs s) i && integers_form zs (All-tail IsSmall z zs s) i)

integers_small : (zs : List ℤ) → All IsSmall zs → are_small (map signed_decimal zs) ≡ true
integers_small [] s = refl
integers_small (z ∷ zs) s = (λ i. signed_range z (All-head IsSmall z zs s) i && integers_small zs (All-tail IsSmall z zs s) i)

integers_plain : (zs : List ℤ) → All IsSmall zs → ArePlain (map signed_decimal zs)
integers_plain [] s = tt
integers_plain (z ∷ zs) s = (signed_plain z (let small = All-head IsSmall z zs s in omega (arith, small)), integers_plain zs (All-tail IsSmall z zs s))

written_length : (zs : List ℤ) → length (map signed_decimal zs) ≡ length zs
written_length [] = refl
written_length (z ∷ zs) = ap suc (written_length zs)

pub column_fine : (facts : ℕ) (c : Column) → IsColumn facts c → IsFine column_rule facts (column_line c) facts
column_fine facts c is = record {
  plain = (record { unspaced = refl; unended = refl }, (signed_plain c.value (omega (arith, is.value)), integers_plain c.totals is.small));
  tagged = refl;
  stands = record {
    stands = (λ i. eq-eqb (length (map signed_decimal c.totals)) facts (written_length c.totals ∙ is.count) i && (signed_form c.value is.value i && integers_form c.totals is.small i));
    in_range = (λ i. signed_range c.value is.value i && integers_small c.totals is.small i);
  };
  next_is = refl;
}

pub end_fine : IsFine end_rule tt end_line tt
end_fine = record {
  plain = (record { unspaced = refl; unended = refl }, tt);
  tagged = refl;
  stands = record { stands = refl; in_range = refl };
  next_is = refl;
}
