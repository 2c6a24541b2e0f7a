-- The loop of a function runs ten times.
use Rattle.std.proofs.Common.{◌≡◌, ◌≢◌, ℕ, zero, suc, ◌+◌, ◌*◌, ◌-◌, ◌%◌, ◌<◌, ◌≤◌, true, false, Some, refl, sym, ap, ◌∙◌, arith}
use Rattle.std.specs.Prelude.{nat_lt, slice_get}
use Rattle.std.proofs.lemmas.Bool.{lt-ltb, le-ltb}
use Rattle.wcc_base.specs.Words.{truth_word}
use Rattle.types_tree.specs.Tree.{Scalar, Expr, Number, Read, Operate, Assign, Step, Statement, Evaluate}
use Rattle.types_tree.specs.declared.expression.Fix.TheVariants.{Postfix}
use Rattle.c_tree.specs.declared.expression.PostfixOperator.TheVariants.{Increment}
use Rattle.types_value.specs.declared.kind.Kind.TheVariants.{Int}
use Rattle.types_value.specs.declared.operator.Operator.TheVariants.{Less}
use Rattle.meaning_semantics.specs.State.{State, Outcome, Fine, Stopped, choose, then_do}
use Rattle.meaning_semantics.specs.Statements.{Loop, Source, again, behind, left_with, run, stepped, tested, turns}
use Rattle.meaning_semantics.specs.Values.{Calls}
use Rattle.meaning_semantics.specs.declared.outcome.Flow.{Flow}
use Rattle.meaning_semantics.specs.declared.outcome.Flow.TheVariants.{Onward}
use Rattle.meaning_semantics.specs.declared.outcome.Stop.TheVariants.{Broken}
use Rattle.command_numbered.proofs.Trees.{int}
use Rattle.command_numbered.proofs.Programs as typed
use Rattle.command_numbered.proofs.Cells.{Cell, IsOne, cell_kept, put, put_other, put_there}
use Rattle.command_numbered.proofs.Values.{assign_value, next_value, operate_value, read_value, step_up}
use Rattle.command_numbered.proofs.RunWords.{less_is}

-- what the turns leave
pub record Turned (k s : ℕ) (st : State) (o : Outcome Flow) : Type 0 where
  pub after : State
  pub word : ℕ
  pub is : o ≡ Fine Onward after
  pub holds : Cell s (Some word) after
  pub low : word < 1000
  pub k_one : IsOne k after
  pub others : (object : ℕ) → object ≢ k → object ≢ s → slice_get after.objects object ≡ slice_get st.objects object
  pub silent : after.output ≡ st.output

module _ (source : Source) (call : Calls) (x k s l i : ℕ) (q : ℕ → ℕ) where
  abbrev test : Expr
  test = Operate Less Int (Read (Scalar k (q 22))) (Number (int 10) (q 24)) (q 22)

  abbrev step : Expr
  step = typed.step x k s l i q

  abbrev body : Statement
  body = Evaluate (Assign (Scalar s (q 29)) (typed.step x k s l i q) (q 29)) (q 29)

  abbrev count : Expr
  count = Step Postfix Increment Int (Scalar k (q 26)) (q 26)

  abbrev pub loop : Loop
  loop = record {
    at = q 16;
    test = tested source call (Some test);
    round = λ st. then_do (run source call body st) (behind (stepped source call (Some count)));
  }

  abbrev pub next : ℕ → ℕ
  next w = (w * 5 + i) % 1000

  abbrev pub after_round : (c w : ℕ) → State → State
  after_round c w st = put k (Some (c + 1)) (put s (Some (next w)) st)

  abbrev go_onward : ℕ → State → Outcome Flow
  go_onward word st = Fine Onward st

  abbrev decide : (left owed : ℕ) → ℕ → State → Outcome Flow
  decide zero owed word st = choose word (Stopped (Broken (q 16))) (left_with owed (q 16) Onward st)
  decide (suc left) owed word st = choose word (then_do (loop.round st) (again (owed - 1) (q 16) (turns loop left (owed - 1)))) (left_with owed (q 16) Onward st)

  module _ (few : i ≤ 100) (apart : k ≢ s) where
    test_is : (c : ℕ) (st : State) → Cell k (Some c) st → c ≤ 10 → loop.test st ≡ Fine (truth_word (nat_lt c 10)) st
    test_is c st h low = operate_value source.program.variables call Less (Read (Scalar k (q 22))) (Number (int 10) (q 24)) (q 22) c 10 (truth_word (nat_lt c 10)) true st (read_value source.program.variables call k (q 22) c true st h) refl (less_is c 10 (omega (arith, low)) (omega arith))

    round_is : (c w : ℕ) (st : State) → Cell k (Some c) st → Cell s (Some w) st → c < 10 → w < 1000 → loop.round st ≡ Fine Onward (after_round c w st)
    round_is c w st counts holds c_low w_low =
        let assigned = assign_value source.program.variables call s (q 29) (q 29) (next w) step false st st (next_value source.program.variables call x k s l i w q true st holds w_low few) (Some w, holds) in
        let counted = step_up source.program.variables call k (q 26) (q 26) c false (put s (Some (next w)) st) (cell_kept s k (Some (next w)) (Some c) st apart counts) (omega (arith, c_low)) in
        ap (λ o. then_do (then_do o go_onward) (behind (stepped source call (Some count)))) assigned ∙ ap (λ o. then_do o go_onward) counted

    pub turned : (left owed c w : ℕ) (st : State) → owed ≡ left → c + left ≡ 10 → Cell k (Some c) st → Cell s (Some w) st → w < 1000 → Turned k s st (turns loop left owed st)
    turned zero owed c w st owes sum counts holds low =
        let ends : nat_lt c 10 ≡ false = le-ltb c 10 (omega (arith, sum)) in
        record {
          after = st;
          word = w;
          is = ap (λ o. then_do o (decide zero owed)) (test_is c st counts (omega (arith, sum))) ∙ ap (λ t. decide zero owed (truth_word t) st) ends ∙ ap (λ n. left_with n (q 16) Onward st) owes;
          holds = holds;
          low = low;
          k_one = (Some c, counts);
          others = λ object _ _. refl;
          silent = refl;
        }
    turned (suc left) owed c w st owes sum counts holds low =
        let goes : nat_lt c 10 ≡ true = lt-ltb c 10 (omega (arith, sum)) in
        let st2 = after_round c w st in
        let middle = put s (Some (next w)) st in
        let counts_before = cell_kept s k (Some (next w)) (Some c) st apart counts in
        let counts2 = put_there k middle (Some c, counts_before) (Some (c + 1)) in
        let holds2 = cell_kept k s (Some (c + 1)) (Some (next w)) middle (λ e. apart (sym e)) (put_there s st (Some w, holds) (Some (next w))) in
        let rest = turned left (owed - 1) (c + 1) (next w) st2 (omega (arith, owes)) (omega (arith, sum)) counts2 holds2 (omega arith) in
        record {
          after = rest.after;
          word = rest.word;
          is =
              ap (λ o. then_do o (decide (suc left) owed)) (test_is c st counts (omega (arith, sum)))
              ∙ ap (λ t. decide (suc left) owed (truth_word t) st) goes
              ∙ ap (λ o. then_do o (again (owed - 1) (q 16) (turns loop left (owed - 1)))) (round_is c w st counts holds (omega (arith, sum)) low)
              ∙ rest.is;
          holds = rest.holds;
          low = rest.low;
          k_one = rest.k_one;
          others = λ object not_k not_s. rest.others object not_k not_s ∙ put_other k object (Some (c + 1)) middle not_k ∙ put_other s object (Some (next w)) st not_s;
          silent = rest.silent;
        }
