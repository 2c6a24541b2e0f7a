-- Statements one after another, as the code walks them.
use Rattle.std.proofs.Common.{◌≡◌, ℕ, suc, ◌+◌, ◌<◌, ◌≤◌, min, false, List, [], ◌∷◌, length, get_or, drop, map, refl, sym, ap, ◌∙◌, arith, drop-cons, add-one}
use Rattle.std.specs.Prelude.{Vec, ◌||◌}
use Rattle.std.specs.Global.{Global}
use Rattle.std.proofs.Math.ListN.{drop_of_length-le}
use Rattle.std.proofs.lemmas.List.Sums.{sum_by-cons}
use Rattle.high_code.specs.Code.{alone, joined}
use Rattle.high_ir.proofs.Rows.{statement_of-Seq}
use Rattle.high_ir.specs.Size.{expr_nodes, expr_operations, greatest}
use Rattle.high_ir.specs.Tree.{Expr, Statement, Seq, Set, If, Statements, End, Then, Function}
use Rattle.high_ir.specs.View.{expr_of, statement_of, statements_of}
use Rattle.high_ir.specs.declared.expression.Expr as exprs
use Rattle.high_ir.specs.declared.statement.Statement as statements
use Rattle.high_parts.proofs.Making.{joined_end, joined_then}
use Rattle.high_renumber.proofs.Walks.{statements_at}
use Rattle.inliner.specs.declared.measuring.Measure.{Measure}
use Rattle.inliner.specs.declared.measuring.Returns.{Returns}
use Rattle.inliner.specs.declared.used.Used.{Used}
use Rattle.inliner.specs.Measures.{beside, measure, measured, measured_all, no_part, passed_measure, values_measure, within}
use Rattle.inliner.specs.Moving.{Place, moved, moved_all}
use Rattle.inliner.specs.Opening.{assigned}
use Rattle.inliner.specs.Sites.{any_fits, any_fits_all}
use Rattle.inliner.specs.Walking.{Walked, WalkedAll, behind, behind_all, chosen, opened, opened_all, seq, walked, walked_all}

-- a sequence of a body
pub moved_seq : (p : Place) (depth : ℕ) (s : statements.Statement) (v : Vec statements.Statement Global) (xs : List statements.Statement) → s ≡ statements.Seq v → xs ≡ v.items → Seq (moved_all p depth (statements_of xs)) ≡ moved p depth (statement_of s)
moved_seq p depth s v xs is read =
    ap (λ ys. Seq (moved_all p depth (statements_of ys))) read ∙ ap (moved p depth) (sym (statement_of-Seq v)) ∙ ap (λ x. moved p depth (statement_of x)) (sym is)

pub moved_more : (p : Place) (depth : ℕ) (a b : Statements) (xs : List statements.Statement) (i : ℕ) (x : statements.Statement) → i < length xs → x ≡ get_or xs i x → b ≡ joined a (alone (moved p depth (statement_of x))) →
    joined b (moved_all p depth (statements_of (drop (i + 1) xs))) ≡ joined a (moved_all p depth (statements_of (drop i xs)))
moved_more p depth a b xs i x lt is made =
    let rest = moved_all p depth (statements_of (drop (i + 1) xs)) in
    ap (λ c. joined c rest) made ∙ joined_then a (moved p depth (statement_of x)) rest ∙ ap (λ ys. joined a (moved_all p depth ys)) (sym (statements_at xs i x lt is))

pub moved_done : (p : Place) (depth : ℕ) (a whole : Statements) (xs : List statements.Statement) (i : ℕ) → length xs ≤ i → joined a (moved_all p depth (statements_of (drop i xs))) ≡ whole → a ≡ whole
moved_done p depth a whole xs i past same = sym (joined_end a) ∙ sym (ap (λ ys. joined a (moved_all p depth (statements_of ys))) (drop_of_length-le xs past)) ∙ same

-- values that are written, one more
pub assigned_more : (base i : ℕ) (a b : Statements) (xs : List exprs.Expr) (x : exprs.Expr) → i < length xs → x ≡ get_or xs i x → b ≡ joined a (alone (Set (base + i) (expr_of x))) →
    joined b (assigned (base + (i + 1)) (map expr_of (drop (i + 1) xs)) End) ≡ joined a (assigned (base + i) (map expr_of (drop i xs)) End)
assigned_more base i a b xs x lt is made =
    let z : base + (i + 1) ≡ base + i + 1 = omega arith in
    ap (λ c. joined c (assigned (base + (i + 1)) (map expr_of (drop (i + 1) xs)) End)) made
    ∙ joined_then a (Set (base + i) (expr_of x)) (assigned (base + (i + 1)) (map expr_of (drop (i + 1) xs)) End)
    ∙ ap (λ k. joined a (Then (Set (base + i) (expr_of x)) (assigned k (map expr_of (drop (i + 1) xs)) End))) z
    ∙ ap (λ k. joined a (Then (Set (base + i) (expr_of x)) (assigned (base + i + 1) (map expr_of (drop k xs)) End))) (add-one i)
    ∙ ap (λ y. joined a (Then (Set (base + i) (expr_of y)) (assigned (base + i + 1) (map expr_of (drop (suc i) xs)) End))) is
    ∙ ap (λ ys. joined a (assigned (base + i) (map expr_of ys) End)) (sym (drop-cons xs i x lt))

pub assigned_end : (x : ℕ) (es : List Expr) (after : Statements) → joined (assigned x es End) after ≡ assigned x es after
assigned_end x [] after = refl
assigned_end x (e ∷ es) after = ap (Then (Set x e)) (assigned_end (x + 1) es after)

-- measures, one part more
pub same_measure : (a b : Measure) → a.nodes ≡ b.nodes → a.operations ≡ b.operations → a.depth ≡ b.depth → a ≡ b
same_measure a b n o d = ap (λ k. measure k a.operations a.depth) n ∙ ap (λ k. measure b.nodes k a.depth) o ∙ ap (λ k. measure b.nodes b.operations k) d

pub beside-beside : (a b c : Measure) → beside (beside a b) c ≡ beside a (beside b c)
beside-beside a b c = same_measure (beside (beside a b) c) (beside a (beside b c)) (omega arith) (omega arith) (omega arith)

pub beside-none : (a : Measure) → beside a no_part ≡ a
beside-none a = same_measure (beside a no_part) a (omega arith) (omega arith) (omega arith)

pub none-beside : (a : Measure) → beside no_part a ≡ a
none-beside a = same_measure (beside no_part a) a (omega arith) (omega arith) (omega arith)

pub greatest_ones : {B : Type 0} (bs : List B) → greatest (λ b. 1) bs ≡ min (length bs) 1
greatest_ones [] = refl
greatest_ones (b ∷ bs) = omega (arith, greatest_ones bs)

pub values_measure-cons : (e : Expr) (es : List Expr) → values_measure (e ∷ es) ≡ beside (passed_measure e) (values_measure es)
values_measure-cons e es =
    same_measure (values_measure (e ∷ es)) (beside (passed_measure e) (values_measure es)) (omega (arith, sum_by-cons expr_nodes e es)) (omega (arith, sum_by-cons expr_operations e es)) refl

pub values_more : (all now : Measure) (xs : List exprs.Expr) (i : ℕ) (x : exprs.Expr) → i < length xs → x ≡ get_or xs i x → now ≡ beside all (passed_measure (expr_of x)) → beside now (values_measure (map expr_of (drop (i + 1) xs))) ≡ beside all (values_measure (map expr_of (drop i xs)))
values_more all now xs i x lt is made =
    let rest = values_measure (map expr_of (drop (i + 1) xs)) in
    ap (λ m. beside m rest) made
    ∙ beside-beside all (passed_measure (expr_of x)) rest
    ∙ ap (beside all) (sym (values_measure-cons (expr_of x) (map expr_of (drop (i + 1) xs))))
    ∙ ap (λ k. beside all (values_measure (map expr_of (x ∷ drop k xs)))) (add-one i)
    ∙ ap (λ y. beside all (values_measure (map expr_of (y ∷ drop (suc i) xs)))) is
    ∙ ap (λ ys. beside all (values_measure (map expr_of ys))) (sym (drop-cons xs i x lt))

pub values_done : (all whole : Measure) (xs : List exprs.Expr) (i : ℕ) → length xs ≤ i → beside all (values_measure (map expr_of (drop i xs))) ≡ whole → all ≡ whole
values_done all whole xs i past same = sym (beside-none all) ∙ sym (ap (λ ys. beside all (values_measure (map expr_of ys))) (drop_of_length-le xs past)) ∙ same

pub measured_seq : (r : Returns) (s : statements.Statement) (v : Vec statements.Statement Global) (xs : List statements.Statement) → s ≡ statements.Seq v → xs ≡ v.items → within (measured_all r (statements_of xs)) ≡ measured r (statement_of s)
measured_seq r s v xs is read =
    ap (λ ys. within (measured_all r (statements_of ys))) read ∙ ap (measured r) (sym (statement_of-Seq v)) ∙ ap (λ x. measured r (statement_of x)) (sym is)

pub measured_more : (r : Returns) (all now : Measure) (xs : List statements.Statement) (i : ℕ) (x : statements.Statement) → i < length xs → x ≡ get_or xs i x → now ≡ beside all (measured r (statement_of x)) →
    beside now (measured_all r (statements_of (drop (i + 1) xs))) ≡ beside all (measured_all r (statements_of (drop i xs)))
measured_more r all now xs i x lt is made =
    let rest = measured_all r (statements_of (drop (i + 1) xs)) in
    ap (λ m. beside m rest) made ∙ beside-beside all (measured r (statement_of x)) rest ∙ ap (λ ys. beside all (measured_all r ys)) (sym (statements_at xs i x lt is))

pub measured_done : (r : Returns) (all whole : Measure) (xs : List statements.Statement) (i : ℕ) → length xs ≤ i → beside all (measured_all r (statements_of (drop i xs))) ≡ whole → all ≡ whole
measured_done r all whole xs i past same = sym (beside-none all) ∙ sym (ap (λ ys. beside all (measured_all r (statements_of ys))) (drop_of_length-le xs past)) ∙ same

-- the walk over a body
module _ (limit : ℕ) (fs : List Function) (around : ℕ) where
  pub opened_seq : (used : Used) (s : statements.Statement) (v : Vec statements.Statement Global) (xs : List statements.Statement) → s ≡ statements.Seq v → xs ≡ v.items → seq (opened_all limit fs (around + 1) (statements_of xs) used) ≡ opened limit fs around (statement_of s) used
  opened_seq used s v xs is read =
      ap (λ ys. seq (opened_all limit fs (around + 1) (statements_of ys) used)) read ∙ ap (λ x. opened limit fs around x used) (sym (statement_of-Seq v)) ∙ ap (λ x. opened limit fs around (statement_of x) used) (sym is)

  pub opened_more : (a b : Statements) (used now : Used) (xs : List statements.Statement) (i : ℕ) (x : statements.Statement) → i < length xs → x ≡ get_or xs i x → walked_all b now ≡ behind a (opened limit fs around (statement_of x) used) →
      behind_all b (opened_all limit fs around (statements_of (drop (i + 1) xs)) now) ≡ behind_all a (opened_all limit fs around (statements_of (drop i xs)) used)
  opened_more a b used now xs i x lt is made =
      let rest = statements_of (drop (i + 1) xs) in
      let first = opened limit fs around (statement_of x) used in
      ap (λ w. behind_all w.parts (opened_all limit fs around rest w.used)) made
      ∙ ap (λ c. walked_all c (opened_all limit fs around rest first.used).used) (joined_then a first.statement (opened_all limit fs around rest first.used).parts)
      ∙ ap (λ ys. behind_all a (opened_all limit fs around ys used)) (sym (statements_at xs i x lt is))

  pub opened_done : (a : Statements) (whole : WalkedAll) (used : Used) (xs : List statements.Statement) (i : ℕ) → length xs ≤ i → behind_all a (opened_all limit fs around (statements_of (drop i xs)) used) ≡ whole → walked_all a used ≡ whole
  opened_done a whole used xs i past same =
      ap (λ c. walked_all c used) (sym (joined_end a)) ∙ sym (ap (λ ys. behind_all a (opened_all limit fs around (statements_of ys) used)) (drop_of_length-le xs past)) ∙ same

-- a choice, from its two ways
pub chosen_made : (test : Expr) (x y : Statement) (used now behind : Used) (first : Walked) (other : Used → Walked) → walked x now ≡ first → walked y behind ≡ other now → walked (If test x y) behind ≡ chosen test first other
chosen_made test x y used now behind first other one two = ap (λ w. walked (If test x w.statement) w.used) two ∙ ap (λ w. chosen test w other) one

-- whether calls fit, one statement after another
module _ (limit : ℕ) (fs : List Function) (used : Used) (around : ℕ) where
  pub fits_seq : (s : statements.Statement) (v : Vec statements.Statement Global) (xs : List statements.Statement) → s ≡ statements.Seq v → xs ≡ v.items → any_fits_all limit fs used (around + 1) (statements_of xs) ≡ any_fits limit fs used around (statement_of s)
  fits_seq s v xs is read =
      ap (λ ys. any_fits_all limit fs used (around + 1) (statements_of ys)) read ∙ ap (any_fits limit fs used around) (sym (statement_of-Seq v)) ∙ ap (λ x. any_fits limit fs used around (statement_of x)) (sym is)

  pub fits_more : (xs : List statements.Statement) (i : ℕ) (x : statements.Statement) → i < length xs → x ≡ get_or xs i x → any_fits limit fs used around (statement_of x) ≡ false →
      any_fits_all limit fs used around (statements_of (drop (i + 1) xs)) ≡ any_fits_all limit fs used around (statements_of (drop i xs))
  fits_more xs i x lt is none =
      ap (λ b. b || any_fits_all limit fs used around (statements_of (drop (i + 1) xs))) (sym none) ∙ ap (any_fits_all limit fs used around) (sym (statements_at xs i x lt is))

  pub fits_none : (xs : List statements.Statement) (i : ℕ) → length xs ≤ i → false ≡ any_fits_all limit fs used around (statements_of (drop i xs))
  fits_none xs i past = sym (ap (λ ys. any_fits_all limit fs used around (statements_of ys)) (drop_of_length-le xs past))
