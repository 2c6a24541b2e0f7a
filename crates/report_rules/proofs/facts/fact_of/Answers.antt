use Rattle.std.proofs.Common.{◌^◌, ◌∷◌, map, nat_lt, unsigned_abs, FitsSigned, rules, sym, subst, ◌∙◌}
use Rattle.std.specs.Int.{w128}
use Rattle.std.proofs.lemmas.Int.{to_z-of_z}
use Rattle.report_text.specs.Lines.{fact_line}
use Rattle.report_rules.specs.Rules.{IsLine}
use Rattle.report_words.specs.Numbers.{is_signed, signed_of}
use Rattle.report_rules.specs.FactRules.{is_sum, is_sum_in_range, fact_rule}
use Rattle.report_rules.proofs.FactLemmas.{first_of_three, second_of_three, third_of_three, fact_written}
use Rattle.report_rules.proofs.facts.fact_of.Goals as goal

pub is_range-requires-clause-by : goal.is_range-requires-clause-by
is_range-requires-clause-by c =
    first_of_three (is_signed c.args.by.now) (is_sum (map (λ w. w.now) c.in-Some.sides.left.now)) (is_sum (map (λ w. w.now) c.in-Some.sides.right.now)) (sym c.is_form.ensures ∙ c.if-not-is_form.false)

pub is_range-requires-clause-left : goal.is_range-requires-clause-left
is_range-requires-clause-left c =
    second_of_three (is_signed c.args.by.now) (is_sum (map (λ w. w.now) c.in-Some.sides.left.now)) (is_sum (map (λ w. w.now) c.in-Some.sides.right.now)) (sym c.is_form.ensures ∙ c.if-not-is_form.false)

pub is_range-requires-clause-right : goal.is_range-requires-clause-right
is_range-requires-clause-right c =
    third_of_three (is_signed c.args.by.now) (is_sum (map (λ w. w.now) c.in-Some.sides.left.now)) (is_sum (map (λ w. w.now) c.in-Some.sides.right.now)) (sym c.is_form.ensures ∙ c.if-not-is_form.false)

pub sides_of-requires-clause-left : goal.sides_of-requires-clause-left
sides_of-requires-clause-left c =
    second_of_three (is_signed c.args.by.now) (is_sum (map (λ w. w.now) c.in-Some.sides.left.now)) (is_sum (map (λ w. w.now) c.in-Some.sides.right.now)) (sym c.is_form.ensures ∙ c.if-not-is_form.false)

pub sides_of-requires-clause-right : goal.sides_of-requires-clause-right
sides_of-requires-clause-right c =
    third_of_three (is_signed c.args.by.now) (is_sum (map (λ w. w.now) c.in-Some.sides.left.now)) (is_sum (map (λ w. w.now) c.in-Some.sides.right.now)) (sym c.is_form.ensures ∙ c.if-not-is_form.false)

pub sides_of-requires-clause-left_in_range : goal.sides_of-requires-clause-left_in_range
sides_of-requires-clause-left_in_range c =
    second_of_three (nat_lt (unsigned_abs (signed_of c.args.by.now)) (2 ^ 120)) (is_sum_in_range (map (λ w. w.now) c.in-Some.sides.left.now)) (is_sum_in_range (map (λ w. w.now) c.in-Some.sides.right.now)) (sym c.is_range.ensures ∙ c.if-not-is_range.false)

pub sides_of-requires-clause-right_in_range : goal.sides_of-requires-clause-right_in_range
sides_of-requires-clause-right_in_range c =
    third_of_three (nat_lt (unsigned_abs (signed_of c.args.by.now)) (2 ^ 120)) (is_sum_in_range (map (λ w. w.now) c.in-Some.sides.left.now)) (is_sum_in_range (map (λ w. w.now) c.in-Some.sides.right.now)) (sym c.is_range.ensures ∙ c.if-not-is_range.false)

pub returns-clause-ok : goal.returns-clause-ok
returns-clause-ok c =
    let words = map (λ w. w.now) c.args.words.now in
    let fits : FitsSigned w128 c.integer.result = search rules in
    record {
      each = λ facts.
          subst (λ m. IsLine fact_rule facts (c.args.by.now ∷ map (λ w. w.now) c.args.words.now) (fact_line c.in_ok-claim.claim m)) (sym (to_z-of_z w128 c.integer.result fits))
          (fact_written c.in_ok-claim.claim c.integer.result c.args.by.now words (map (λ w. w.now) c.in-Some.sides.left.now) c.in-Some.sides.op (map (λ w. w.now) c.in-Some.sides.right.now) facts c.in-Some.ensures
          (sym c.is_form.ensures ∙ c.if-not-is_form.false) (sym c.is_range.ensures ∙ c.if-not-is_range.false) c.in_ok-claim.ensures.written c.integer.ensures.written);
    }
