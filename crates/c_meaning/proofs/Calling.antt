-- A call, and one start of the body of a loop.
use Rattle.std.proofs.Common.{◌≡◌, ℕ, zero, suc, ◌-◌, ◌<◌, List, length, get_or, map, Option, Some, refl, sym, ap, ◌∙◌, arith}
use Rattle.std.specs.Prelude.{◌≢◌, option_map, slice_get}
use Rattle.std.proofs.lemmas.Option.{slice_get-get_or, slice_get-map}
use Rattle.types_tree.specs.View.{function_of, items_of}
use Rattle.types_tree.specs.declared.external.Function.{Function}
use Rattle.types_tree.specs.declared.statement.Item as items
use Rattle.meaning_semantics.specs.Runs.{calls, enter, given_back}
use Rattle.types_tree.specs.Tree.{Expr, ForStart, Statement, While, Do, For}
use Rattle.c_tree.specs.declared.pragma.Pragma.{Pragma}
use Rattle.facts_definitions.specs.Most.{bounds_at}
use Rattle.meaning_semantics.specs.State.{Fine, State, bound, choose, counted, then_do}
use Rattle.meaning_semantics.specs.Statements.{Loop, Source, again, entered, left_with, loop_of, looped, run, run_items, started, turns}
use Rattle.meaning_semantics.specs.Values.{Calls}
use Rattle.meaning_semantics.specs.declared.outcome.Flow.{Flow}
use Rattle.meaning_semantics.specs.declared.outcome.Flow.TheVariants.{Onward}

pub function_there : (fs : List Function) (i : ℕ) (f : Function) → i < length fs → f ≡ get_or fs i f → slice_get (map function_of fs) i ≡ Some (function_of f)
function_there fs i f lt read = slice_get-map function_of fs i ∙ ap (option_map function_of) (slice_get-get_or fs i f lt ∙ ap Some (sym read))

pub call_is : (source : Source) (depth number : ℕ) (f : Function) (xs : List items.Item) (words : List ℕ) (at : ℕ) (st : State) → depth ≢ 0 → slice_get source.program.functions number ≡ Some (function_of f) → xs ≡ f.body.items →
    calls source depth number words at st ≡ then_do (bound f.first.0 at words (counted number st)) (λ flow st1. then_do (run_items source (calls source (depth - 1)) (items_of xs) (entered (items_of xs) st1)) (λ flow st2. Fine (given_back flow) st2))
call_is source zero number f xs words at st some there read = absurd (some refl)
call_is source (suc n) number f xs words at st some there read =
    let less : suc n - 1 ≡ n = omega arith in
    ap (λ o. enter source (calls source n) o number words at st) there
    ∙ ap (λ k. then_do (bound f.first.0 at words (counted number st)) (λ flow st1. then_do (run_items source (calls source k) (items_of f.body.items) (entered (items_of f.body.items) st1)) (λ flow st2. Fine (given_back flow) st2))) (sym less)
    ∙ ap (λ ys. then_do (bound f.first.0 at words (counted number st)) (λ flow st1. then_do (run_items source (calls source (suc n - 1)) (items_of ys) (entered (items_of ys) st1)) (λ flow st2. Fine (given_back flow) st2))) (sym read)

choose_some : {A : Type 0} (word : ℕ) (first second : A) → word ≢ 0 → choose word first second ≡ first
choose_some zero first second some = absurd (some refl)
choose_some (suc n) first second some = refl

-- one start of the body of a loop
pub turns_go : (loop : Loop) (left n owed owed' word : ℕ) (st st1 : State) → left ≡ suc n → owed' ≡ owed - 1 → loop.test st ≡ Fine word st1 → word ≢ 0 → turns loop left owed st ≡ then_do (loop.round st1) (again owed' loop.at (turns loop n owed'))
turns_go loop left n owed owed' word st st1 one less test some =
    ap (λ k. turns loop k owed st) one
    ∙ ap (λ o. then_do o (λ v st2. choose v (then_do (loop.round st2) (again (owed - 1) loop.at (turns loop n (owed - 1)))) (left_with owed loop.at Onward st2))) test
    ∙ choose_some word (then_do (loop.round st1) (again (owed - 1) loop.at (turns loop n (owed - 1)))) (left_with owed loop.at Onward st1) some
    ∙ ap (λ o. then_do (loop.round st1) (again o loop.at (turns loop n o))) (sym less)

module _ (source : Source) (call : Calls) where
  pub while_run : (s : Statement) (number : ℕ) (bound : Option Pragma) (test : Expr) (body : Statement) (at : ℕ) (st : State) → s ≡ While number bound test body at → run source call s st ≡ looped (bounds_at source.bounds number) (loop_of source call s at) st
  while_run s number bound test body at st same = ap (λ s. run source call s st) same ∙ ap (λ s. looped (bounds_at source.bounds number) (loop_of source call s at) st) (sym same)

  pub do_run : (s : Statement) (number : ℕ) (bound : Option Pragma) (body : Statement) (test : Expr) (at : ℕ) (st : State) → s ≡ Do number bound body test at → run source call s st ≡ looped (bounds_at source.bounds number) (loop_of source call s at) st
  do_run s number bound body test at st same = ap (λ s. run source call s st) same ∙ ap (λ s. looped (bounds_at source.bounds number) (loop_of source call s at) st) (sym same)

  pub for_run : (s : Statement) (number : ℕ) (bound : Option Pragma) (start : ForStart) (test step : Option Expr) (body : Statement) (at : ℕ) (st st1 : State) (flow : Flow) → s ≡ For number bound start test step body at → started source call start st ≡ Fine flow st1 → run source call s st ≡ looped (bounds_at source.bounds number) (loop_of source call s at) st1
  for_run s number bound start test step body at st st1 flow same begins =
      ap (λ s. run source call s st) same
      ∙ ap (λ o. then_do o (λ flow st2. looped (bounds_at source.bounds number) (loop_of source call (For number bound start test step body at) at) st2)) begins
      ∙ ap (λ s. looped (bounds_at source.bounds number) (loop_of source call s at) st1) (sym same)
