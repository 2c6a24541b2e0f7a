-- The loops in pieces of code that are put together.
use Rattle.std.proofs.Common.{◌≡◌, ℕ, suc, Bool, true, false, [], ◌∷◌, ◌++◌, refl, sym, ap, ◌∙◌}
use Rattle.std.proofs.lemmas.List.{append-nil, append_assoc}
use Rattle.types_tree.specs.Tree as c
use Rattle.high_ir.specs.declared.expression.BinaryOperator.TheVariants as binary
use Rattle.high_ir.specs.Standing.{loops_of, loops_of_all}
use Rattle.high_ir.specs.Tree.{Expr, Constant, Binary, Set, Seq, If, Block, Leave, Statements, End, Then}
use Rattle.high_code.specs.Code.{joined, alone, nothing}
use Rattle.plan_definition.specs.declared.home.Home.{Home}
use Rattle.plan_definition.specs.declared.home.Home.TheVariants.{Frame, Memory}
use Rattle.plan_definition.specs.Statements.{filled, guarded, label_tests, last_in_block, leaving_unless, rounded, stored_at}
use Rattle.plan_definition.specs.Values.{Valued, chosen, chosen_by_jumps, held, in_block}

pub loops-joined : (a b : Statements) → loops_of_all (joined a b) ≡ loops_of_all a ++ loops_of_all b
loops-joined End b = refl
loops-joined (Then first rest) b = ap (λ l. loops_of first ++ l) (loops-joined rest b) ∙ sym (append_assoc (loops_of first) (loops_of_all rest) (loops_of_all b))

-- code without loops before other code, or behind it
pub loops_behind : (a b : Statements) → loops_of_all a ≡ [] → loops_of_all (joined a b) ≡ loops_of_all b
loops_behind a b none = loops-joined a b ∙ ap (λ l. l ++ loops_of_all b) none

pub loops_before_none : (a b : Statements) → loops_of_all b ≡ [] → loops_of_all (joined a b) ≡ loops_of_all a
loops_before_none a b none = loops-joined a b ∙ ap (λ l. loops_of_all a ++ l) none ∙ append-nil (loops_of_all a)

pub loops-in_block : (code : Statements) → loops_of_all (in_block code) ≡ loops_of_all code
loops-in_block code = append-nil (loops_of_all code)

-- stores and fillings
pub loops-stored_at : (home : Home) (index value : Expr) (rest : Statements) → loops_of_all (Then (stored_at home index value) rest) ≡ loops_of_all rest
loops-stored_at (Frame x) index value rest = refl
loops-stored_at (Memory array) index value rest = refl

pub loops-filled : (home : Home) (id from count k : ℕ) → loops_of_all (filled home id from count k) ≡ (record { id = id; bounds = record { least = count; most = count } }) ∷ []
loops-filled (Frame x) id from count k = refl
loops-filled (Memory array) id from count k = refl

-- branches
pub loops-chosen : (test : Valued) (first other : Statements) → loops_of_all test.code ≡ [] → loops_of_all (chosen test first other) ≡ loops_of_all first ++ loops_of_all other
loops-chosen test first other none = loops_behind test.code (alone (If test.value (Seq first) (Seq other))) none ∙ append-nil (loops_of_all first ++ loops_of_all other)

pub loops-chosen_by_jumps : (jumps first other : Statements) → loops_of_all jumps ≡ [] → loops_of_all (chosen_by_jumps jumps first other) ≡ loops_of_all first ++ loops_of_all other
loops-chosen_by_jumps jumps first other none =
    loops-in_block (Then (Block (Seq (joined jumps (joined first (alone (Leave 1)))))) other)
    ∙ ap (λ l. l ++ loops_of_all other) (loops_behind jumps (joined first (alone (Leave 1))) none ∙ loops_before_none first (alone (Leave 1)) refl)

-- bodies of loops
loops-last_in_block : (code : Statements) → loops_of_all (last_in_block code) ≡ loops_of_all code
loops-last_in_block End = refl
loops-last_in_block (Then first End) = refl
loops-last_in_block (Then first (Then second rest)) = ap (λ l. loops_of first ++ l) (loops-last_in_block (Then second rest))

pub loops-rounded : (again ends : Bool) (code : Statements) → loops_of_all (rounded again ends code) ≡ loops_of_all code
loops-rounded false ends code = refl
loops-rounded true false code = loops-in_block code
loops-rounded true true code = loops-last_in_block code

pub loops-leaving_unless : (always : Bool) (jumps : Statements) → loops_of_all jumps ≡ [] → loops_of_all (leaving_unless always jumps) ≡ []
loops-leaving_unless true jumps none = refl
loops-leaving_unless false jumps none = none

-- a switch
pub loops-label_tests : (word : Expr) (noted : ℕ) (items : c.Items) (number : ℕ) → loops_of_all (label_tests word noted items number) ≡ []
loops-label_tests word noted c.NoItem number = refl
loops-label_tests word noted (c.WithDeclaration declaration rest) number = loops-label_tests word noted rest number
loops-label_tests word noted (c.WithStatement statement rest) number = loops-label_tests word noted rest number
loops-label_tests word noted (c.WithRestriction pragma rest) number = loops-label_tests word noted rest number
loops-label_tests word noted (c.WithLabel (c.Case value own at) rest) number =
    loops_before_none (label_tests word noted rest (suc number)) (alone (If (Binary binary.Equal word (Constant own)) (Set noted (Constant number)) nothing)) refl ∙ loops-label_tests word noted rest (suc number)
loops-label_tests word noted (c.WithLabel (c.Default at) rest) number = loops-label_tests word noted rest (suc number)

pub loops-guarded : (noted number : ℕ) (before behind : Statements) → loops_of_all (guarded noted number before behind) ≡ loops_of_all before ++ loops_of_all behind
loops-guarded noted number End behind = refl
loops-guarded noted number (Then first rest) behind = ap (λ l. l ++ loops_of_all behind) (append-nil (loops_of_all (Then first rest)))

pub loops-held : (needed : Bool) (k : ℕ) (p : Valued) → loops_of_all p.code ≡ [] → loops_of_all (held needed k p End).code ≡ []
loops-held false k p none = loops_behind p.code End none
loops-held true k p none = loops_behind p.code (alone (Set k p.value)) none
