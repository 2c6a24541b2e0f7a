-- Statements one after another, as the code walks them.
use Rattle.std.proofs.Common.{◌≡◌, ℕ, suc, ◌+◌, ◌<◌, ◌≤◌, List, [], ◌∷◌, ◌++◌, length, get_or, drop, sym, ap, ◌∙◌, add-one, append-nil, append_assoc, drop-cons, length-append}
use Rattle.std.proofs.Math.ListN.{drop_of_length-le}
use Rattle.std.proofs.lemmas.List.{map-append}
use Rattle.high_code.specs.Code.{alone, joined}
use Rattle.high_ir.specs.Standing.{loops_of, loops_of_all, marks_of, marks_of_all}
use Rattle.high_ir.specs.Tree.{Statements, End, Then}
use Rattle.high_ir.specs.View.{statement_of, statements_of}
use Rattle.high_ir.specs.declared.statement.Statement as statements
use Rattle.high_parts.proofs.Making.{joined_end, joined_then, statements_push}
use Rattle.high_renumber.specs.Numbered.{ids, numbered, numbered_all}

pub statements_at : (xs : List statements.Statement) (i : ℕ) (x : statements.Statement) → i < length xs → x ≡ get_or xs i x → statements_of (drop i xs) ≡ Then (statement_of x) (statements_of (drop (i + 1) xs))
statements_at xs i x lt is =
    ap statements_of (drop-cons xs i x lt)
    ∙ ap (λ y. Then (statement_of y) (statements_of (drop (suc i) xs))) (sym is)
    ∙ ap (λ k. Then (statement_of x) (statements_of (drop k xs))) (sym (add-one i))

-- one statement more
pub statements_pushed : (made now : List statements.Statement) (x : statements.Statement) → now ≡ made ++ x ∷ [] → statements_of now ≡ joined (statements_of made) (alone (statement_of x))
statements_pushed made now x is = ap statements_of is ∙ statements_push made x

-- the same with numbers
pub numbered_more : (a b : Statements) (xs : List statements.Statement) (i : ℕ) (x : statements.Statement) (m n m' n' : ℕ) → i < length xs → x ≡ get_or xs i x → b ≡ joined a (Then (numbered m n (statement_of x)) End) → m' ≡ m + length (marks_of (statement_of x)) → n' ≡ n + length (loops_of (statement_of x)) →
    joined b (numbered_all m' n' (statements_of (drop (i + 1) xs))) ≡ joined a (numbered_all m n (statements_of (drop i xs)))
numbered_more a b xs i x m n m' n' lt is made marks loops =
    let rest = statements_of (drop (i + 1) xs) in
    ap (λ c. joined c (numbered_all m' n' rest)) made
    ∙ joined_then a (numbered m n (statement_of x)) (numbered_all m' n' rest)
    ∙ ap (λ k. joined a (Then (numbered m n (statement_of x)) (numbered_all k n' rest))) marks
    ∙ ap (λ k. joined a (Then (numbered m n (statement_of x)) (numbered_all (m + length (marks_of (statement_of x))) k rest))) loops
    ∙ ap (λ ys. joined a (numbered_all m n ys)) (sym (statements_at xs i x lt is))

pub numbered_done : (a whole : Statements) (m n : ℕ) (xs : List statements.Statement) (i : ℕ) → length xs ≤ i → joined a (numbered_all m n (statements_of (drop i xs))) ≡ whole → a ≡ whole
numbered_done a whole m n xs i past same = sym (joined_end a) ∙ sym (ap (λ ys. joined a (numbered_all m n (statements_of ys))) (drop_of_length-le xs past)) ∙ same

pub marks_more : (found now : List ℕ) (xs : List statements.Statement) (i : ℕ) (x : statements.Statement) → i < length xs → x ≡ get_or xs i x → now ≡ found ++ marks_of (statement_of x) →
    now ++ marks_of_all (statements_of (drop (i + 1) xs)) ≡ found ++ marks_of_all (statements_of (drop i xs))
marks_more found now xs i x lt is made =
    let rest = marks_of_all (statements_of (drop (i + 1) xs)) in
    ap (λ l. l ++ rest) made ∙ append_assoc found (marks_of (statement_of x)) rest ∙ ap (λ ss. found ++ marks_of_all ss) (sym (statements_at xs i x lt is))

pub marks_done : (found whole : List ℕ) (xs : List statements.Statement) (i : ℕ) → length xs ≤ i → found ++ marks_of_all (statements_of (drop i xs)) ≡ whole → found ≡ whole
marks_done found whole xs i past same = sym (append-nil found) ∙ sym (ap (λ ys. found ++ marks_of_all (statements_of ys)) (drop_of_length-le xs past)) ∙ same

pub loops_more : (found now : List ℕ) (xs : List statements.Statement) (i : ℕ) (x : statements.Statement) → i < length xs → x ≡ get_or xs i x → now ≡ found ++ ids (loops_of (statement_of x)) →
    now ++ ids (loops_of_all (statements_of (drop (i + 1) xs))) ≡ found ++ ids (loops_of_all (statements_of (drop i xs)))
loops_more found now xs i x lt is made =
    let rest = statements_of (drop (i + 1) xs) in
    ap (λ l. l ++ ids (loops_of_all rest)) made
    ∙ append_assoc found (ids (loops_of (statement_of x))) (ids (loops_of_all rest))
    ∙ ap (λ l. found ++ l) (sym (map-append (λ l. l.id) (loops_of (statement_of x)) (loops_of_all rest)))
    ∙ ap (λ ss. found ++ ids (loops_of_all ss)) (sym (statements_at xs i x lt is))

pub loops_done : (found whole : List ℕ) (xs : List statements.Statement) (i : ℕ) → length xs ≤ i → found ++ ids (loops_of_all (statements_of (drop i xs))) ≡ whole → found ≡ whole
loops_done found whole xs i past same = sym (append-nil found) ∙ sym (ap (λ ys. found ++ ids (loops_of_all (statements_of ys))) (drop_of_length-le xs past)) ∙ same

-- how many there are behind others
pub length_behind : (found now more : List ℕ) → now ≡ found ++ more → length now ≡ length found + length more
length_behind found now more made = ap length made ∙ length-append found more
