-- The calls of statements, one statement after another.
use Rattle.std.proofs.Common.{◌≡◌, ℕ, suc, ◌+◌, ◌<◌, List, ◌++◌, length, get_or, drop, sym, ap, ◌∙◌, add-one, append_assoc, drop-cons}
use Rattle.std.specs.Prelude.{Vec}
use Rattle.std.specs.Global.{Global}
use Rattle.high_ir.specs.declared.statement.Statement as statements
use Rattle.high_ir.specs.Standing.{callees_of, callees_of_all}
use Rattle.high_ir.specs.Tree.{Then}
use Rattle.high_ir.specs.View.{statement_of, statements_of}
use Rattle.high_ir.proofs.Rows.{statement_of-Seq}
use Rattle.lower_definition.specs.Calls.{Passed, at_sites, sites_of, sites_of_all}
use Rattle.low_make.proofs.Sites.{at_sites_append}

statements_at : (xs : List statements.Statement) (i : ℕ) (x : statements.Statement) → i < length xs → x ≡ get_or xs i x → statements_of (drop i xs) ≡ Then (statement_of x) (statements_of (drop (i + 1) xs))
statements_at xs i x lt is =
    ap statements_of (drop-cons xs i x lt)
    ∙ ap (λ y. Then (statement_of y) (statements_of (drop (suc i) xs))) (sym is)
    ∙ ap (λ k. Then (statement_of x) (statements_of (drop k xs))) (sym (add-one i))

pub callees_more : (found now : List ℕ) (xs : List statements.Statement) (i : ℕ) (x : statements.Statement) → i < length xs → x ≡ get_or xs i x → now ≡ found ++ callees_of (statement_of x) →
    now ++ callees_of_all (statements_of (drop (i + 1) xs)) ≡ found ++ callees_of_all (statements_of (drop i xs))
callees_more found now xs i x lt is made =
    let rest = callees_of_all (statements_of (drop (i + 1) xs)) in
    ap (λ l. l ++ rest) made
    ∙ append_assoc found (callees_of (statement_of x)) rest
    ∙ ap (λ ss. found ++ callees_of_all ss) (sym (statements_at xs i x lt is))

pub sites_more : (objects : ℕ) (own : List (List ℕ)) (passed now : Passed) (xs : List statements.Statement) (i : ℕ) (x : statements.Statement) → i < length xs → x ≡ get_or xs i x → now ≡ at_sites objects own passed (sites_of (statement_of x)) →
    at_sites objects own now (sites_of_all (statements_of (drop (i + 1) xs))) ≡ at_sites objects own passed (sites_of_all (statements_of (drop i xs)))
sites_more objects own passed now xs i x lt is made =
    let rest = sites_of_all (statements_of (drop (i + 1) xs)) in
    ap (λ p. at_sites objects own p rest) made
    ∙ sym (at_sites_append objects own passed (sites_of (statement_of x)) rest)
    ∙ ap (λ ss. at_sites objects own passed (sites_of_all ss)) (sym (statements_at xs i x lt is))

-- the calls of a sequence are those of its parts
pub callees_of_seq : (s : statements.Statement) (v : Vec statements.Statement Global) (xs : List statements.Statement) → s ≡ statements.Seq v → xs ≡ v.items → callees_of_all (statements_of xs) ≡ callees_of (statement_of s)
callees_of_seq s v xs is read = ap (λ ys. callees_of_all (statements_of ys)) read ∙ sym (ap callees_of (statement_of-Seq v)) ∙ sym (ap (λ x. callees_of (statement_of x)) is)

pub sites_of_seq : (s : statements.Statement) (v : Vec statements.Statement Global) (xs : List statements.Statement) → s ≡ statements.Seq v → xs ≡ v.items → sites_of_all (statements_of xs) ≡ sites_of (statement_of s)
sites_of_seq s v xs is read = ap (λ ys. sites_of_all (statements_of ys)) read ∙ sym (ap sites_of (statement_of-Seq v)) ∙ sym (ap (λ x. sites_of (statement_of x)) is)
