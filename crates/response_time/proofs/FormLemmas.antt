-- Five words of the form say the task that is read of them.
use Rattle.std.proofs.Common.{◌≡◌, ◌≤◌, ◌^◌, min, arith, sym, ap, ◌∙◌, List, [], ◌∷◌, true, false}
use Rattle.std.specs.Prelude.{◌&&◌, not, nat_le, codes, bytes_eq}
use Rattle.std.specs.Str.{all_ascii_digits}
use Rattle.std.specs.Fmt.{decimal}
use Rattle.std.proofs.lemmas.Bool.{and_parts, not-true, leb-true}
use Rattle.std.proofs.lemmas.Slice.Eq.{bytes_eq-Decides}
use Rattle.report_words.specs.Words.{Word, is_name}
use Rattle.report_words.specs.Numbers.{is_number, number_of}
use Rattle.report_words.proofs.NumberLemmas.{digits_of_number, decimal-number_of}
use Rattle.response_time.specs.declared.entry.Entry.{Entry}
use Rattle.response_time.specs.Entries.{is_file, is_among}
use Rattle.response_time.specs.Forms.{has_form, is_period, Says}

pub digits : (w : Word) → is_number w ≡ true → all_ascii_digits w ≡ true
digits w form = digits_of_number w form

-- the parts of the form
pub record Form (names : List Word) (tag name period image report : Word) : Type 0 where
  pub tagged : tag ≡ codes "task"
  pub named : is_name name ≡ true
  pub other : is_among names name ≡ false
  pub counted : is_number period ≡ true
  pub image_named : is_file image ≡ true
  pub report_named : is_file report ≡ true

pub form_of : (names : List Word) (tag name period image report : Word) → has_form names (tag ∷ name ∷ period ∷ image ∷ report ∷ []) ≡ true → Form names tag name period image report
form_of names tag name period image report e =
    let a = and_parts (bytes_eq tag (codes "task")) (is_name name && (not (is_among names name) && (is_number period && (is_file image && is_file report)))) e in
    let b = and_parts (is_name name) (not (is_among names name) && (is_number period && (is_file image && is_file report))) a.1 in
    let c = and_parts (not (is_among names name)) (is_number period && (is_file image && is_file report)) b.1 in
    let d = and_parts (is_number period) (is_file image && is_file report) c.1 in
    let f = and_parts (is_file image) (is_file report) d.1 in
    record {
      tagged = (bytes_eq-Decides tag (codes "task")).0 a.0;
      named = b.0;
      other = not-true (is_among names name) c.0;
      counted = d.0;
      image_named = f.0;
      report_named = f.1;
    }

pub number_fits : (w : Word) → is_period w ≡ true → number_of w ≤ 10 ^ 12
number_fits w e = let a = and_parts (nat_le 1 (number_of w)) (nat_le (number_of w) (10 ^ 12)) e in leb-true (number_of w) (10 ^ 12) a.1

pub number_some : (w : Word) → is_period w ≡ true → 1 ≤ number_of w
number_some w e = let a = and_parts (nat_le 1 (number_of w)) (nat_le (number_of w) (10 ^ 12)) e in leb-true 1 (number_of w) a.0

pub says : (names : List Word) (tag name period image report : Word) (e : Entry) → has_form names (tag ∷ name ∷ period ∷ image ∷ report ∷ []) ≡ true → is_period period ≡ true →
    e.name ≡ name → e.period ≡ min (number_of period) (2 ^ 120) → e.image ≡ image → e.report ≡ report → Says names (tag ∷ name ∷ period ∷ image ∷ report ∷ []) e
says names tag name period image report e form range is_named is_period is_image is_report =
    let f = form_of names tag name period image report form in
    let most = number_fits period range in
    let least = number_some period range in
    let value : e.period ≡ number_of period = omega (arith, is_period, most) in
    let written = ap decimal value ∙ decimal-number_of period f.counted (omega (arith, most)) in
    record {
      line_is = line (codes "task") tag e.name name (decimal e.period) period e.image image e.report report (sym f.tagged) is_named written is_image is_report;
      entry = record {
        named = ap is_name is_named ∙ f.named;
        positive = omega (arith, value, least);
        short = omega (arith, value, most);
        image_named = ap is_file is_image ∙ f.image_named;
        report_named = ap is_file is_report ∙ f.report_named;
      };
      other = ap (is_among names) is_named ∙ f.other;
    }
  where
    line : (a a' b b' c c' d d' g g' : Word) → a ≡ a' → b ≡ b' → c ≡ c' → d ≡ d' → g ≡ g' → a ∷ b ∷ c ∷ d ∷ g ∷ [] ≡ a' ∷ b' ∷ c' ∷ d' ∷ g' ∷ []
    line a a' b b' c c' d d' g g' p q r s t = cc
