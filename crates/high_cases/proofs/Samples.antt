-- The programs with loops keep to their form.
use Rattle.std.proofs.Common.{◌≡◌, ℕ, ◌<◌, ◌≤◌, [], ◌∷◌, refl, sym, ap, ◌∙◌, subst, arith}
use Rattle.std.specs.Prelude.{Vec}
use Rattle.std.specs.Global.{Global}
use Rattle.std.proofs.lemmas.List.Elements.{All-cons, All-nil}
use Rattle.high_ir.proofs.Rows.{statement_of-Seq}
use Rattle.high_ir.specs.Formed.{IsHigh, LeavesWithin, RanksFall}
use Rattle.high_ir.specs.Runs.{rank_or}
use Rattle.high_ir.specs.Tree.{Function, Seq, Statement}
use Rattle.high_ir.specs.View.{statement_of, statements_of}
use Rattle.high_ir.specs.declared.statement.Statement as statements
use Rattle.high_cases.specs.Loops.{around, by_tens, count_up, main_of}

pub seq_view : (v : Vec statements.Statement Global) → statement_of (statements.Seq v) ≡ Seq (statements_of v.items)
seq_view v = statement_of-Seq v

counting_is_high : (first limit least most returned : ℕ) → IsHigh (around (main_of first (count_up limit least most) returned) 1)
counting_is_high first limit least most returned =
    let f : Function = main_of first (count_up limit least most) returned in
    record {
      main = omega arith;
      openings = omega arith;
      others = All-nil (λ m. 1 ≤ m);
      marks = All-nil (λ m. m < 1);
      loops = refl;
      leaves = All-cons LeavesWithin f [] refl (All-nil LeavesWithin);
      ranks = All-cons (RanksFall (f ∷ [])) f [] (All-nil (λ g. rank_or (f ∷ []) g f.rank < f.rank)) (All-nil (RanksFall (f ∷ [])));
      depth = omega arith;
      nodes = omega arith;
    }

tens_are_high : IsHigh (around (main_of 0 by_tens 0) 2)
tens_are_high =
    let f : Function = main_of 0 by_tens 0 in
    record {
      main = omega arith;
      openings = omega arith;
      others = All-nil (λ m. 1 ≤ m);
      marks = All-nil (λ m. m < 1);
      loops = refl;
      leaves = All-cons LeavesWithin f [] refl (All-nil LeavesWithin);
      ranks = All-cons (RanksFall (f ∷ [])) f [] (All-nil (λ g. rank_or (f ∷ []) g f.rank < f.rank)) (All-nil (RanksFall (f ∷ [])));
      depth = omega arith;
      nodes = omega arith;
    }

-- as the code makes them
pub counting_made : (first limit least most returned : ℕ) (s : Statement) (f : Function) → s ≡ count_up limit least most → f ≡ main_of first s returned → IsHigh (around f 1)
counting_made first limit least most returned s f body made =
    subst (λ g. IsHigh (around g 1)) (sym (made ∙ ap (λ t. main_of first t returned) body)) (counting_is_high first limit least most returned)

pub tens_made : (s : Statement) (f : Function) → s ≡ by_tens → f ≡ main_of 0 s 0 → IsHigh (around f 2)
tens_made s f body made = subst (λ g. IsHigh (around g 2)) (sym (made ∙ ap (λ t. main_of 0 t 0) body)) tens_are_high
