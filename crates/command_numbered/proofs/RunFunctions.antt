-- A function of a numbered source gives a word below 1000 for one below 1000, and writes its own objects alone.
use Rattle.std.proofs.Common.{◌≡◌, ◌≢◌, ℕ, ◌+◌, ◌<◌, ◌≤◌, true, false, [], ◌∷◌, Option, Some, None, refl, sym, ap, ◌∙◌}
use Rattle.std.specs.Prelude.{slice_get}
use Rattle.types_tree.specs.Tree.{Scalar, Number, Read, Items, NoItem, WithStatement, Return as GiveBack}
use Rattle.facts_definitions.specs.Most.{bounds_at}
use Rattle.facts_definitions.specs.declared.facts.Bounds.{Bounds}
use Rattle.meaning_semantics.specs.Runs.{enter, given_back}
use Rattle.meaning_semantics.specs.State.{State, Outcome, Fine, bound, counted, then_do, unwritten, write}
use Rattle.meaning_semantics.specs.Statements.{Source, all_declared, entered, if_onward, looped, run_items, turns}
use Rattle.meaning_semantics.specs.Values.{Calls}
use Rattle.meaning_semantics.specs.declared.outcome.Flow.{Flow}
use Rattle.meaning_semantics.specs.declared.outcome.Flow.TheVariants.{Onward, Return}
use Rattle.command_numbered.proofs.Trees.{int}
use Rattle.command_numbered.proofs.Programs as typed
use Rattle.command_numbered.proofs.Cells.{Cell, IsOne, cell_kept, forgets, one_kept, put, put_one, put_other, put_there, writes}
use Rattle.command_numbered.proofs.Loops.{loop, turned}
use Rattle.command_numbered.proofs.Values.{assign_value, read_value}

abbrev pub ten : Bounds
ten = record { min = 10; max = 10 }

-- what a call leaves
pub record Called (x k s : ℕ) (st : State) (o : Outcome (Option ℕ)) : Type 0 where
  pub after : State
  pub word : ℕ
  pub is : o ≡ Fine (Some word) after
  pub low : word < 1000
  pub x_one : IsOne x after
  pub k_one : IsOne k after
  pub s_one : IsOne s after
  pub others : (object : ℕ) → object ≢ x → object ≢ k → object ≢ s → slice_get after.objects object ≡ slice_get st.objects object
  pub silent : after.output ≡ st.output

module _ (source : Source) (call : Calls) (x k s l i : ℕ) (q : ℕ → ℕ) (bounds : bounds_at source.bounds l ≡ ten) where
  abbrev last : Items
  last = WithStatement (GiveBack (Some (Read (Scalar s (q 42)))) (q 41)) NoItem

  abbrev from_loop : Items
  from_loop = WithStatement (typed.loop x k s l i q) last

  abbrev go_onward : ℕ → State → Outcome Flow
  go_onward word st = Fine Onward st

  abbrev give : ℕ → State → Outcome Flow
  give word st = Fine (Return (Some word)) st

  -- from the loop on
  from_loop_is : (w : ℕ) (st : State) → IsOne k st → Cell s (Some w) st → w < 1000 → (after : State) (r : ℕ) → turns (loop source call x k s l i q) 10 10 (put k (Some 0) st) ≡ Fine Onward after → Cell s (Some r) after
      → run_items source call from_loop st ≡ Fine (Return (Some r)) after
  from_loop_is w st one holds low after r is given =
      ap (λ o. then_do (then_do (then_do o go_onward) (λ flow st1. looped (bounds_at source.bounds l) (loop source call x k s l i q) st1)) (if_onward (run_items source call last)))
      (assign_value source.program.variables call k (q 18) (q 18) 0 (Number (int 0) (q 20)) false st st refl one)
      ∙ ap (λ (b : Bounds). then_do (turns (loop source call x k s l i q) b.max b.min (put k (Some 0) st)) (if_onward (run_items source call last))) bounds
      ∙ ap (λ o. then_do o (if_onward (run_items source call last))) is
      ∙ ap (λ o. then_do (then_do o give) (if_onward (run_items source call NoItem))) (read_value source.program.variables call s (q 42) r true after given)

  abbrev write_s : ℕ → State → Outcome Flow
  write_s word st = then_do (write (record { object = s; index = 0; at = q 11 }) word st) go_onward

  -- the whole body, where the parameter holds a word
  body_is : (v : ℕ) (st : State) → Cell x (Some v) st → IsOne s st → (o : Outcome Flow) → run_items source call from_loop (put s (Some v) st) ≡ o → run_items source call (typed.body x k s l i q) st ≡ o
  body_is v st holds one o is =
      ap (λ o. then_do (then_do (then_do o write_s) (λ flow st1. all_declared source call [] st1)) (if_onward (run_items source call from_loop))) (read_value source.program.variables call x (q 13) v true st holds)
      ∙ ap (λ o. then_do (then_do (then_do o go_onward) (λ flow st1. all_declared source call [] st1)) (if_onward (run_items source call from_loop))) (writes s st one (q 11) v)
      ∙ is

  module _ (few : i ≤ 100) (x_k : x ≢ k) (x_s : x ≢ s) (k_s : k ≢ s) where
    pub called_is : (f number v at : ℕ) (st : State) → v < 1000 → IsOne x st → IsOne k st → IsOne s st → Called x k s st (enter source call (Some (typed.function x k s l f i q)) number (v ∷ []) at st)
    called_is f number v at st low x_one k_one s_one =
        let st0 = counted number st in
        let st1 = put x (Some v) st0 in
        let k1 : IsOne k st1 = one_kept x k (Some v) st0 x_one k_one in
        let s1 : IsOne s st1 = one_kept x s (Some v) st0 x_one s_one in
        let st2 = put k None st1 in
        let s2 : IsOne s st2 = one_kept k s None st1 k1 s1 in
        let st3 = put s None st2 in
        let x1 : Cell x (Some v) st1 = put_there x st0 x_one (Some v) in
        let x2 : Cell x (Some v) st2 = cell_kept k x None (Some v) st1 x_k x1 in
        let x3 : Cell x (Some v) st3 = cell_kept s x None (Some v) st2 x_s x2 in
        let k3 : IsOne k st3 = one_kept s k None st2 s2 (put_one k st1 k1 None) in
        let s3 : IsOne s st3 = put_one s st2 s2 None in
        let st4 = put s (Some v) st3 in
        let k4 : IsOne k st4 = one_kept s k (Some v) st3 s3 k3 in
        let s4 : Cell s (Some v) st4 = put_there s st3 s3 (Some v) in
        let st5 = put k (Some 0) st4 in
        let t = turned source call x k s l i q few k_s 10 10 0 v st5 refl refl (put_there k st4 k4 (Some 0)) (cell_kept k s (Some 0) (Some v) st4 (λ e. k_s (sym e)) s4) low in
        let body = body_is v st3 x3 s3 (Fine (Return (Some t.word)) t.after) (from_loop_is v st4 k4 s4 low t.after t.word t.is t.holds) in
        let inside : entered (typed.body x k s l i q) st1 ≡ st3 = ap (unwritten s) (forgets k st1 k1) ∙ forgets s st2 s2 in
        record {
          after = t.after;
          word = t.word;
          is =
              ap (λ o. then_do (then_do o (λ written st1. bound (x + 1) at [] st1)) within) (writes x st0 x_one at v)
              ∙ ap (λ st. then_do (run_items source call (typed.body x k s l i q) st) (λ flow st2. Fine (given_back flow) st2)) inside
              ∙ ap (λ o. then_do o (λ flow st2. Fine (given_back flow) st2)) body;
          low = t.low;
          x_one = (Some v, t.others x x_k x_s ∙ kept x x_k x_s ∙ x1);
          k_one = t.k_one;
          s_one = (Some t.word, t.holds);
          others = λ object not_x not_k not_s. t.others object not_k not_s ∙ kept object not_k not_s ∙ put_other x object (Some v) st0 not_x;
          silent = t.silent;
        }
      where
        within : Flow → State → Outcome (Option ℕ)
        within flow st1 = then_do (run_items source call (typed.body x k s l i q) (entered (typed.body x k s l i q) st1)) (λ flow st2. Fine (given_back flow) st2)

        kept : (object : ℕ) → object ≢ k → object ≢ s → slice_get (put k (Some 0) (put s (Some v) (put s None (put k None (put x (Some v) (counted number st)))))).objects object ≡ slice_get (put x (Some v) (counted number st)).objects object
        kept object not_k not_s =
            put_other k object (Some 0) (put s (Some v) (put s None (put k None (put x (Some v) (counted number st))))) not_k
            ∙ put_other s object (Some v) (put s None (put k None (put x (Some v) (counted number st)))) not_s
            ∙ put_other s object None (put k None (put x (Some v) (counted number st))) not_s
            ∙ put_other k object None (put x (Some v) (counted number st)) not_k
