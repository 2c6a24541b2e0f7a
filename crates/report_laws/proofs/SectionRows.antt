-- The lines of names, facts and columns are read.
use Rattle.std.proofs.Common.{◌≡◌, ℕ, suc, ◌+◌, ℤ, List, [], ◌∷◌, length, map, sym, subst, arith, All}
use Rattle.std.proofs.lemmas.List.Elements.{All-head, All-tail}
use Rattle.code_flow_system.specs.Claims.{AreSums}
use Rattle.code_flow_system.specs.declared.claims.FactClaim.{FactClaim}
use Rattle.code_flow_system.specs.Certificates.{IsSmall}
use Rattle.code_flow_answer.specs.declared.bounded.Column.{Column}
use Rattle.report_text.specs.declared.entries.CopyLine.{CopyLine}
use Rattle.report_text.specs.Forms.{IsCopyLine, IsFact, IsColumn}
use Rattle.report_text.specs.Lines.{copy_line, fact_line, column_line, paired}
use Rattle.report_rules.specs.Heads.{copy_rule, column_rule}
use Rattle.report_rules.specs.FactRules.{fact_rule}
use Rattle.report_laws.specs.Typed.{IsWord, IsTypedFact}
use Rattle.report_laws.proofs.Fine.{AreFine, no_lines, one_more, AreRead}
use Rattle.report_laws.proofs.HeadRows.{copy_fine, column_fine}
use Rattle.report_laws.proofs.FactRows.{fact_fine}

pub names_read : (cs : List CopyLine) → All IsCopyLine cs → All (λ c. All IsWord c.places) cs → AreRead copy_rule tt (map copy_line cs)
names_read [] is t = record { last = tt; fine = no_lines tt }
names_read (c ∷ cs) is t =
    let rest = names_read cs (All-tail IsCopyLine c cs is) (All-tail (λ c. All IsWord c.places) c cs t) in
    record { last = rest.last; fine = one_more tt tt rest.last (copy_line c) (map copy_line cs) (copy_fine c (All-head IsCopyLine c cs is) (All-head (λ c. All IsWord c.places) c cs t)) rest.fine }

pub columns_read : (facts : ℕ) (cs : List Column) → All (IsColumn facts) cs → AreRead column_rule facts (map column_line cs)
columns_read facts [] is = record { last = facts; fine = no_lines facts }
columns_read facts (c ∷ cs) is =
    let rest = columns_read facts cs (All-tail (IsColumn facts) c cs is) in
    record { last = rest.last; fine = one_more facts facts rest.last (column_line c) (map column_line cs) (column_fine facts c (All-head (IsColumn facts) c cs is)) rest.fine }

pub facts_fine : (n m : ℕ) (cs : List FactClaim) (ms : List ℤ) → length ms ≡ length cs → m ≡ n + length cs → All IsFact cs → All AreSums cs → All IsTypedFact cs → All IsSmall ms → AreFine fact_rule n (paired fact_line cs ms) m
facts_fine n m [] ms e is f s t small = subst (λ k. AreFine fact_rule n [] k) (sym (omega (arith, is))) (no_lines n)
facts_fine n m (c ∷ cs) [] e is f s t small = absurd (omega (arith, e))
facts_fine n m (c ∷ cs) (x ∷ xs) e is f s t small =
    one_more n (suc n) m (fact_line c x) (paired fact_line cs xs)
    (fact_fine n c x (All-head IsFact c cs f) (All-head AreSums c cs s) (All-head IsTypedFact c cs t) (All-head IsSmall x xs small))
    (facts_fine (suc n) m cs xs (omega (arith, e)) (omega (arith, is)) (All-tail IsFact c cs f) (All-tail AreSums c cs s) (All-tail IsTypedFact c cs t) (All-tail IsSmall x xs small))
