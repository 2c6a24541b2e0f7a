-- The calls of `main` leave a word below 1000, and `main` puts one byte and gives a word back.
use Rattle.std.proofs.Common.{◌≡◌, ◌≢◌, ◌⊎◌, inl, inr, ℕ, zero, suc, ◌+◌, ◌*◌, ◌%◌, ◌<◌, ◌≤◌, true, false, List, [], ◌∷◌, ◌++◌, length, Option, Some, None, refl, sym, ap, subst, ◌∙◌, arith}
use Rattle.types_tree.specs.Tree.{Scalar, Number, Read, Call, Operate, NoExpr, WithExpr, Items, NoItem, WithStatement, Statement}
use Rattle.types_tree.specs.declared.expression.Callee.TheVariants.{Putchar, Function as Own}
use Rattle.types_value.specs.declared.kind.Kind.TheVariants.{Int}
use Rattle.types_value.specs.declared.operator.Operator.TheVariants.{Remainder, Add}
use Rattle.meaning_semantics.specs.Runs.{calls, enter, given_back}
use Rattle.meaning_semantics.specs.State.{State, Outcome, Fine, counted, needed, then_do, unwritten, with_output}
use Rattle.meaning_semantics.specs.Statements.{Source, all_declared, entered, if_onward, run, run_items}
use Rattle.meaning_semantics.specs.Values.{Calls, called, value, values}
use Rattle.meaning_semantics.specs.declared.outcome.Flow.{Flow}
use Rattle.meaning_semantics.specs.declared.outcome.Flow.TheVariants.{Onward, Return}
use Rattle.command_numbered.proofs.Trees.{Places, int}
use Rattle.command_numbered.proofs.Numbers.{number}
use Rattle.command_numbered.proofs.Programs as typed
use Rattle.command_numbered.proofs.Typed.{program}
use Rattle.command_numbered.proofs.Sites.{tens}
use Rattle.command_numbered.proofs.Whole.{function_there, main_there, ten_there}
use Rattle.command_numbered.proofs.Cells.{Cell, IsOne, forgets, one_kept, put, put_one, put_there, same_or_not, writes}
use Rattle.command_numbered.proofs.RunFunctions.{Called, called_is}
use Rattle.command_numbered.proofs.Values.{assign_value, operate_value, read_value}
use Rattle.command_numbered.proofs.RunWords.{remainder_is, sum_is}

module _ (n : ℕ) (few : n ≤ 100) (p : Places) where
  abbrev pub source : Source
  source = record { program = program n p; bounds = tens n }

  abbrev own : Calls
  own = calls source 1

  abbrev s : ℕ
  s = 3 * n

  -- each object is one element, and nothing was put yet
  pub record Ready (st : State) : Type 0 where
    pub ones : (object : ℕ) → object ≤ 3 * n → IsOne object st
    pub silent : st.output ≡ []

  put_ready : (object : ℕ) (x : Option ℕ) (st : State) → object ≤ 3 * n → Ready st → Ready (put object x st)
  put_ready object x st low r = record { ones = λ other le. one_kept object other x st (r.ones object low) (r.ones other le); silent = r.silent }

  -- what a call of a function does
  function_called : (j v at : ℕ) (st : State) → j < n → v < 1000 → Ready st → (after : State) × (word : ℕ) × (own j (v ∷ []) at st ≡ Fine (Some word) after) × (word < 1000) × Ready after
  function_called j v at st lt low r =
      let c = called_is source (calls source 0) (3 * j) (3 * j + 1) (3 * j + 2) (j + 1) (suc j) (p.function (suc j)) (ten_there n j lt) (omega (arith, lt, few)) (λ e. omega (arith, e)) (λ e. omega (arith, e)) (λ e. omega (arith, e))
      (number (suc j)) j v at st low (r.ones (3 * j) (omega (arith, lt))) (r.ones (3 * j + 1) (omega (arith, lt))) (r.ones (3 * j + 2) (omega (arith, lt))) in (
        c.after,
        c.word,
        ap (λ f. enter source (calls source 0) f j (v ∷ []) at st) (function_there n p j lt) ∙ c.is,
        c.low,
        record { ones = λ object le. one object le _ c (same_or_not object (3 * j)) (same_or_not object (3 * j + 1)) (same_or_not object (3 * j + 2)); silent = c.silent ∙ r.silent },
      )
    where
      one : (object : ℕ) → object ≤ 3 * n → (o : Outcome (Option ℕ)) → (c : Called (3 * j) (3 * j + 1) (3 * j + 2) st o) → (object ≡ 3 * j) ⊎ (object ≢ 3 * j) → (object ≡ 3 * j + 1) ⊎ (object ≢ 3 * j + 1) → (object ≡ 3 * j + 2) ⊎ (object ≢ 3 * j + 2) → IsOne object c.after
      one object le _ c (inl e) b d = subst (λ o. IsOne o c.after) (sym e) c.x_one
      one object le _ c (inr a) (inl e) d = subst (λ o. IsOne o c.after) (sym e) c.k_one
      one object le _ c (inr a) (inr b) (inl e) = subst (λ o. IsOne o c.after) (sym e) c.s_one
      one object le _ c (inr a) (inr b) (inr d) = let before = r.ones object le in (before.0, c.others object a b d ∙ before.1)

  -- what the calls do, before other items
  pub record Went (st : State) (o : Outcome Flow) (rest : Items) : Type 0 where
    pub after : State
    pub word : ℕ
    pub is : o ≡ run_items source own rest after
    pub low : word < 1000
    pub ready : Ready after
    pub holds : Cell s (Some word) after

  abbrev go_onward : ℕ → State → Outcome Flow
  go_onward word st = Fine Onward st

  abbrev assigned : Statement → State → Outcome Flow
  assigned statement st = run source own statement st

  call_value : (j w : ℕ) (q : ℕ → ℕ) (st after : State) (word : ℕ) → Cell s (Some w) st → own j (w ∷ []) (q 2) st ≡ Fine (Some word) after
      → value source.program.variables own (Call (Own (record { 0 = j })) (WithExpr (Read (Scalar s (q 4))) NoExpr) (q 2)) true st ≡ Fine word after
  call_value j w q st after word holds is =
      ap (λ o. then_do (then_do (then_do o with_none) (called own (Own (record { 0 = j })) (q 2))) (needed true (q 2))) (read_value source.program.variables own s (q 4) w true st holds)
      ∙ ap (λ o. then_do o (needed true (q 2))) is
    where
      with_none : ℕ → State → Outcome (List ℕ)
      with_none word st1 = then_do (values source.program.variables own NoExpr st1) (λ words st2. Fine (word ∷ words) st2)

  pub went : (m : ℕ) → m ≤ n → (rest : Items) (w : ℕ) (st : State) → w < 1000 → Ready st → Cell s (Some w) st → Went st (run_items source own (typed.calls s p.call m rest) st) rest
  went zero le rest w st low r holds = record { after = st; word = w; is = refl; low = low; ready = r; holds = holds }
  went (suc m) le rest w st low r holds =
      let q = p.call (suc m) in
      let before = went m (omega (arith, le)) (WithStatement (typed.call s m q) rest) w st low r holds in
      let c = function_called m before.word (q 2) before.after (omega (arith, le)) before.low before.ready in
      let one = c.4.ones s (omega arith) in
      let value_is = assign_value source.program.variables own s (q 0) (q 0) c.1 (Call (Own (record { 0 = m })) (WithExpr (Read (Scalar s (q 4))) NoExpr) (q 2)) false before.after c.0 (call_value m before.word q before.after c.0 c.1 before.holds c.2) one in
      record {
        after = put s (Some c.1) c.0;
        word = c.1;
        is = before.is ∙ ap (λ o. then_do (then_do o go_onward) (if_onward (run_items source own rest))) value_is;
        low = c.3;
        ready = put_ready s (Some c.1) c.0 (omega arith) c.4;
        holds = put_there s c.0 one (Some c.1);
      }

  entered_calls : (m : ℕ) (rest : Items) (st : State) → entered (typed.calls s p.call m rest) st ≡ entered rest st
  entered_calls zero rest st = refl
  entered_calls (suc m) rest st = entered_calls m (WithStatement (typed.call s m (p.call (suc m))) rest) st

  -- behind the calls

  abbrev last : Items
  last = WithStatement (typed.give s p.tail) NoItem

  abbrev tail : Items
  tail = WithStatement (typed.put s p.tail) last

  abbrev letter : ℕ → ℕ
  letter w = 65 + w % 26

  letter_value : (w : ℕ) (st : State) → Cell s (Some w) st → w < 1000
      → value source.program.variables own (Operate Add Int (Number (int 65) (p.tail 2)) (Operate Remainder Int (Read (Scalar s (p.tail 4))) (Number (int 26) (p.tail 6)) (p.tail 4)) (p.tail 2)) true st ≡ Fine (letter w) st
  letter_value w st holds low =
      operate_value source.program.variables own Add (Number (int 65) (p.tail 2)) (Operate Remainder Int (Read (Scalar s (p.tail 4))) (Number (int 26) (p.tail 6)) (p.tail 4)) (p.tail 2) 65 (w % 26) (letter w) true st refl
      (operate_value source.program.variables own Remainder (Read (Scalar s (p.tail 4))) (Number (int 26) (p.tail 6)) (p.tail 4) w 26 (w % 26) true st (read_value source.program.variables own s (p.tail 4) w true st holds) refl (remainder_is w 25 (omega (arith, low)) (omega arith)))
      (sum_is 65 (w % 26) (omega arith) (omega arith) (omega arith))

  abbrev after_put : ℕ → State → State
  after_put w st = with_output st (st.output ++ letter w % 256 ∷ [])

  tail_is : (w : ℕ) (st : State) → Cell s (Some w) st → w < 1000 → run_items source own tail st ≡ Fine (Return (Some (w % 256))) (after_put w st)
  tail_is w st holds low =
      ap (λ o. then_do (then_do (then_do (then_do (then_do o with_none) (called own Putchar (p.tail 0))) (needed false (p.tail 0))) go_onward) (if_onward (run_items source own last))) (letter_value w st holds low)
      ∙ ap (λ o. then_do (then_do o give) (if_onward (run_items source own NoItem)))
      (operate_value source.program.variables own Remainder (Read (Scalar s (p.tail 10))) (Number (int 256) (p.tail 12)) (p.tail 10) w 256 (w % 256) true (after_put w st) (read_value source.program.variables own s (p.tail 10) w true (after_put w st) holds) refl (remainder_is w 255 (omega (arith, low)) (omega arith)))
    where
      with_none : ℕ → State → Outcome (List ℕ)
      with_none word st1 = then_do (values source.program.variables own NoExpr st1) (λ words st2. Fine (word ∷ words) st2)

      give : ℕ → State → Outcome Flow
      give word st = Fine (Return (Some word)) st

  -- what `main` does
  pub record Finished (o : Outcome (Option ℕ)) : Type 0 where
    pub after : State
    pub word : ℕ
    pub is : o ≡ Fine (Some word) after
    pub short : length after.output ≤ 1

  pub main_is : (st : State) → Ready st → Finished (calls source 2 n [] 0 st)
  main_is st r =
      let st0 = counted n st in
      let own_one = r.ones s (omega arith) in
      let st1 = put s None st0 in
      let r1 : Ready st1 = put_ready s None st0 (omega arith) (record { ones = r.ones; silent = r.silent }) in
      let one1 = put_one s st0 own_one None in
      let st2 = put s (Some 1) st1 in
      let r2 : Ready st2 = put_ready s (Some 1) st1 (omega arith) r1 in
      let w = went n (omega arith) tail 1 st2 (omega arith) r2 (put_there s st1 one1 (Some 1)) in
      let inside : entered (typed.main_body s p n) st0 ≡ st1 = entered_calls n tail (unwritten s st0) ∙ forgets s st0 own_one in
      record {
        after = after_put w.word w.after;
        word = w.word % 256;
        is =
            ap (λ f. enter source own f n [] 0 st) (main_there n p)
            ∙ ap (λ st. then_do (run_items source own (typed.main_body s p n) st) finish) inside
            ∙ ap (λ o. then_do (then_do (then_do (then_do o go_onward) (λ flow st1. all_declared source own [] st1)) (if_onward (run_items source own (typed.calls s p.call n tail)))) finish) (writes s st1 one1 (p.head 7) 1)
            ∙ ap (λ o. then_do o finish) (w.is ∙ tail_is w.word w.after w.holds w.low);
        short = ap_length w.after.output (letter w.word % 256) w.ready.silent;
      }
    where
      finish : Flow → State → Outcome (Option ℕ)
      finish flow st2 = Fine (given_back flow) st2

      ap_length : (output : List ℕ) (byte : ℕ) → output ≡ [] → length (output ++ byte ∷ []) ≤ 1
      ap_length output byte e = subst (λ xs. length (xs ++ byte ∷ []) ≤ 1) (sym e) (omega arith)
