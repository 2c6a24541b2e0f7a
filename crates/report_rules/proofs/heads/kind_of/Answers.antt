use Rattle.std.proofs.Common.{◌≡◌, ◌∷◌, map, true, sym, subst, ◌∙◌}
use Rattle.std.proofs.lemmas.Result.{IfOk-weaker}
use Rattle.code_flow_answer.specs.declared.bounded.Kind.TheVariants.{Greatest, Empty}
use Rattle.report_rules.specs.WordTests.{are_none}
use Rattle.report_rules.specs.KindForms.{IsWide, IsSpent, IsKindLine}
use Rattle.report_rules.proofs.KindLemmas.{greatest_line, empty_line, wide_line, spent_line}
use Rattle.report_rules.proofs.heads.kind_of.Goals as goal

pub returns-then-is_word-clause-ok : goal.returns-then-is_word-clause-ok
returns-then-is_word-clause-ok c =
    let word = c.args.word.now in
    let rest = map (λ w. w.now) c.args.rest.now in
    IfOk-weaker c.plain.result (λ k. (k ≡ Greatest) × (are_none rest ≡ true)) (IsKindLine (word ∷ rest))
    (λ k is. subst (IsKindLine (word ∷ rest)) (sym is.0) (greatest_line word rest (sym c.is_word.ensures ∙ c.if-is_word.true) is.1)) c.plain.ensures.ok

pub returns-then-is_word-2-clause-ok : goal.returns-then-is_word-2-clause-ok
returns-then-is_word-2-clause-ok c =
    let word = c.args.word.now in
    let rest = map (λ w. w.now) c.args.rest.now in
    IfOk-weaker c.plain-then-is_word-2.result (λ k. (k ≡ Empty) × (are_none rest ≡ true)) (IsKindLine (word ∷ rest))
    (λ k is. subst (IsKindLine (word ∷ rest)) (sym is.0) (empty_line word rest (sym c.is_word.ensures ∙ c.if-is_word.false) (sym c.is_word-2.ensures ∙ c.if-is_word-2.true) is.1)) c.plain-then-is_word-2.ensures.ok

pub returns-then-is_word-3-clause-ok : goal.returns-then-is_word-3-clause-ok
returns-then-is_word-3-clause-ok c =
    let word = c.args.word.now in
    let rest = map (λ w. w.now) c.args.rest.now in
    IfOk-weaker c.wide.result (IsWide rest) (IsKindLine (word ∷ rest))
    (λ k is. wide_line word rest k (sym c.is_word.ensures ∙ c.if-is_word.false) (sym c.is_word-2.ensures ∙ c.if-is_word-2.false) (sym c.is_word-3.ensures ∙ c.if-is_word-3.true) is) c.wide.ensures.ok

pub returns-then-is_word-4-clause-ok : goal.returns-then-is_word-4-clause-ok
returns-then-is_word-4-clause-ok c =
    let word = c.args.word.now in
    let rest = map (λ w. w.now) c.args.rest.now in
    IfOk-weaker c.spent.result (IsSpent rest) (IsKindLine (word ∷ rest))
    (λ k is. spent_line word rest k (sym c.is_word.ensures ∙ c.if-is_word.false) (sym c.is_word-2.ensures ∙ c.if-is_word-2.false) (sym c.is_word-3.ensures ∙ c.if-is_word-3.false) (sym c.is_word-4.ensures ∙ c.if-is_word-4.true) is) c.spent.ensures.ok
