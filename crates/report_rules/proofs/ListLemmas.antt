-- What the lines `copy` and `column` keep to.
use Rattle.std.proofs.Common.{◌≡◌, ℕ, suc, ◌^◌, ◌<◌, ◌≤◌, ◌==◌, ◌&&◌, unsigned_abs, Bool, true, false, List, [], ◌∷◌, length, map, refl, sym, ap, subst, ◌∙◌, arith, nat_lt, nat_le, All}
use Rattle.std.proofs.lemmas.Bool.{false≢true}
use Rattle.std.proofs.lemmas.List.Elements.{All-nil, All-cons, All-weaker}
use borrow.Author.Tests.{eqb-true, leb-true, ltb-true}
use Rattle.code_flow_system.specs.Certificates.{IsSmall}
use Rattle.report_words.specs.Words.{Word, is_name}
use Rattle.report_words.specs.Numbers.{address_of, signed_of}
use Rattle.report_lines.specs.LineLists.{are_addresses, are_integers, are_small}
use Rattle.code_flow_answer.specs.declared.bounded.Column.{Column}
use Rattle.report_text.specs.declared.entries.CopyLine.{CopyLine}
use Rattle.report_text.specs.Forms.{Ascend, IsCopyLine, IsColumn}
use Rattle.report_rules.specs.WordTests.{places_ascend}
use Rattle.report_rules.specs.Heads.{is_copy, is_column}

and_first : (a b : Bool) → (a && b) ≡ true → a ≡ true
and_first true b e = refl
and_first false b e = e

and_second : (a b : Bool) → (a && b) ≡ true → b ≡ true
and_second true b e = e
and_second false b e = absurd (false≢true e)

ascends : (least : ℕ) (ws : List Word) → places_ascend least ws ≡ true → All (λ b. least ≤ b) (map address_of ws) × Ascend (map address_of ws)
ascends least [] e = (All-nil (λ b. least ≤ b), tt)
ascends least (w ∷ ws) e =
    let first = leb-true least (address_of w) (and_first (nat_le least (address_of w)) (places_ascend (suc (address_of w)) ws) e) in
    let rest = ascends (suc (address_of w)) ws (and_second (nat_le least (address_of w)) (places_ascend (suc (address_of w)) ws) e) in (
      All-cons (λ b. least ≤ b) (address_of w) (map address_of ws) (omega (arith, first))
          (All-weaker (λ b. suc (address_of w) ≤ b) (λ b. least ≤ b) (λ b le. omega (arith, le, first)) (map address_of ws) rest.0),
      (All-weaker (λ b. suc (address_of w) ≤ b) (λ b. address_of w < b) (λ b le. omega (arith, le)) (map address_of ws) rest.0, rest.1),
    )

pub copy_form : (c : CopyLine) (name : Word) (ws : List Word) → (c.name ≡ name) × (c.places ≡ map address_of ws) → is_copy (name ∷ ws) ≡ true → IsCopyLine c
copy_form c name ws e st = record {
  name = ap is_name e.0 ∙ and_first (is_name name) (are_addresses ws && places_ascend 0 ws) st;
  ascending = subst Ascend (sym e.1) (ascends 0 ws (and_second (are_addresses ws) (places_ascend 0 ws) (and_second (is_name name) (are_addresses ws && places_ascend 0 ws) st))).1;
}

mapped_length : (ws : List Word) → length (map signed_of ws) ≡ length ws
mapped_length [] = refl
mapped_length (w ∷ ws) = ap suc (mapped_length ws)

are_small_all : (ws : List Word) → are_small ws ≡ true → All IsSmall (map signed_of ws)
are_small_all [] e = All-nil IsSmall
are_small_all (w ∷ ws) e =
    let first = ltb-true (unsigned_abs (signed_of w)) (2 ^ 120) (and_first (nat_lt (unsigned_abs (signed_of w)) (2 ^ 120)) (are_small ws) e) in
    All-cons IsSmall (signed_of w) (map signed_of ws) first (are_small_all ws (and_second (nat_lt (unsigned_abs (signed_of w)) (2 ^ 120)) (are_small ws) e))

pub column_form : (facts : ℕ) (c : Column) (value : Word) (ws : List Word) → (c.value ≡ signed_of value) × (c.totals ≡ map signed_of ws) → is_column facts (value ∷ ws) ≡ true → are_small (value ∷ ws) ≡ true → IsColumn facts c
column_form facts c value ws e st small = record {
  count = ap length e.1 ∙ mapped_length ws ∙ eqb-true (length ws) facts (and_first (length ws == facts) (are_integers (value ∷ ws)) st);
  value = subst IsSmall (sym e.0) (ltb-true (unsigned_abs (signed_of value)) (2 ^ 120) (and_first (nat_lt (unsigned_abs (signed_of value)) (2 ^ 120)) (are_small ws) small));
  small = subst (All IsSmall) (sym e.1) (are_small_all ws (and_second (nat_lt (unsigned_abs (signed_of value)) (2 ^ 120)) (are_small ws) small));
}
