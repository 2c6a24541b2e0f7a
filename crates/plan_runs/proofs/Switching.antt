-- A switch goes on at the label that its word chooses: the label is noted, and the parts before it are skipped.
use Rattle.std.proofs.Common.{◌≡◌, ◌⊎◌, ⊎_elim, ℕ, suc, ◌+◌, ◌<◌, ◌≤◌, Bool, true, false, length, Some, None, refl, sym, ap, ◌∙◌, subst, arith}
use Rattle.std.specs.Prelude.{◌==◌, ◌||◌, not, if◌then◌else◌}
use Rattle.std.proofs.lemmas.Bool.{cases_eq, eq-eqb, ne_eqb, lt-ltb, le-ltb}
use Rattle.std.proofs.lemmas.List.{get_or-set_same, get_or-set_other}
use Rattle.wcc_base.specs.Words.{equal_word, truth_word}
use Rattle.meaning_semantics.specs.Runs.{or_zero}
use Rattle.meaning_semantics.specs.State as source
use Rattle.meaning_semantics.specs.Statements as statements
use Rattle.meaning_semantics.specs.Values.{value}
use Rattle.meaning_semantics.specs.Statements.{entered, has_case, is_case, is_chosen, out_of_switch, run, run_from, run_items}
use Rattle.meaning_semantics.specs.declared.outcome.Stop.{Stop}
use Rattle.meaning_semantics.specs.declared.outcome.Flow.{Flow}
use Rattle.meaning_semantics.specs.declared.outcome.Flow.TheVariants.{Onward, Break, Continue, Return}
use Rattle.types_tree.specs.Tree as tree
use Rattle.high_ir.specs.declared.expression.BinaryOperator.TheVariants as binary
use Rattle.high_ir.specs.declared.object.Kind.{Kind}
use Rattle.high_ir.specs.Tree.{Expr, Constant, Variable, Binary, Statement, Set, Seq, If, Block, Statements, End, Then}
use Rattle.high_ir.specs.Meaning.{State, Goes, Leaves, Returns, at_value, value_of, with_value, choose, then_do, run as run_high, run_all}
use Rattle.high_ir.specs.Words.{binary_word}
use Rattle.high_code.specs.Code.{joined, alone, nothing, AllWithin}
use Rattle.high_code.proofs.Joined.{run_all-joined, run_all-alone, AllWithin-joined}
use Rattle.plan_definition.specs.Statements.{Exits, Parts, declared, default_number, guarded, in_loop, in_switch, label_tests, last_in_block, parts_planned, planned}
use Rattle.plan_definition.specs.declared.purpose.Purpose.TheVariants.{Value}
use Rattle.plan_definition.specs.Values.{Valued, firm, in_block, is_changed, is_leaf, is_variable, made}
use Rattle.plan_definition.specs.declared.home.Home.TheVariants.{Frame}
use Rattle.plan_runs.specs.Meets.{home}
use Rattle.plan_runs.specs.ExpressionFits.{range_of}
use Rattle.plan_runs.specs.Claims.{Setting, IsSetting, MeetsIn, Reached, Went, HasValue, Gives, Simulates}
use Rattle.plan_runs.proofs.Finishing.{went}
use Rattle.plan_runs.proofs.Holding.{run_Set, untouched_same, reached_same, went_below, went_with, went_nothing, went_at, went_then, within_held, held_went, stable_empty, firm_elsewhere}
use Rattle.plan_runs.proofs.Jumps.{run_block}
use Rattle.plan_runs.proofs.Stores.{alike, put_variable, temporary_meets}
use Rattle.plan_runs.specs.Flows.{Rest, source_in, plan_in, in_scope, Does, Follows}
use Rattle.plan_runs.specs.StatementFits.{FitItems, block_declares, with_live}
use Rattle.plan_runs.proofs.Entering.{block_entered, does_out}
use Rattle.plan_runs.proofs.Items.{Each}
use Rattle.plan_runs.proofs.Loops.{Rounds}
use Rattle.plan_runs.proofs.Sequences.{does_behind, does_below, joined_does, nothing_does, went_does}
use Rattle.plan_runs.proofs.Turns.{Turns, around_rounds, last_in_block-joined, turns_by, went_rounds}

-- the number of the label at which a switch goes on, or one more than that of all labels
abbrev pub position : (found : Bool) (word : ℕ) → tree.Items → (number : ℕ) → ℕ
position found word tree.NoItem number = number
position found word (tree.WithDeclaration declaration rest) number = position found word rest number
position found word (tree.WithStatement statement rest) number = position found word rest number
position found word (tree.WithRestriction pragma rest) number = position found word rest number
position found word (tree.WithLabel label rest) number = if is_chosen found word label then number else position found word rest (suc number)

-- what the tests of the labels note
abbrev pub noted_number : (word : ℕ) → tree.Items → (number otherwise : ℕ) → ℕ
noted_number word tree.NoItem number otherwise = otherwise
noted_number word (tree.WithDeclaration declaration rest) number otherwise = noted_number word rest number otherwise
noted_number word (tree.WithStatement statement rest) number otherwise = noted_number word rest number otherwise
noted_number word (tree.WithRestriction pragma rest) number otherwise = noted_number word rest number otherwise
noted_number word (tree.WithLabel label rest) number otherwise = if is_case word label then number else noted_number word rest (suc number) otherwise

position_from : (found : Bool) (word : ℕ) (items : tree.Items) (number : ℕ) → number ≤ position found word items number
position_from found word tree.NoItem number = omega arith
position_from found word (tree.WithDeclaration declaration rest) number = position_from found word rest number
position_from found word (tree.WithStatement statement rest) number = position_from found word rest number
position_from found word (tree.WithRestriction pragma rest) number = position_from found word rest number
position_from found word (tree.WithLabel label rest) number = of (is_chosen found word label) (position_from found word rest (suc number))
  where
    of : (b : Bool) → suc number ≤ position found word rest (suc number) → number ≤ (if b then number else position found word rest (suc number))
    of true le = omega arith
    of false le = omega (arith, le)

-- without an equal case the default is chosen
default_is : (word : ℕ) (items : tree.Items) (number : ℕ) → default_number items number ≡ position false word items number
default_is word tree.NoItem number = refl
default_is word (tree.WithDeclaration declaration rest) number = default_is word rest number
default_is word (tree.WithStatement statement rest) number = default_is word rest number
default_is word (tree.WithRestriction pragma rest) number = default_is word rest number
default_is word (tree.WithLabel (tree.Case value own at) rest) number = default_is word rest (suc number)
default_is word (tree.WithLabel (tree.Default at) rest) number = refl

noted_is : (word : ℕ) (items : tree.Items) (number otherwise : ℕ) → noted_number word items number otherwise ≡ (if has_case word items then position true word items number else otherwise)
noted_is word tree.NoItem number otherwise = refl
noted_is word (tree.WithDeclaration declaration rest) number otherwise = noted_is word rest number otherwise
noted_is word (tree.WithStatement statement rest) number otherwise = noted_is word rest number otherwise
noted_is word (tree.WithRestriction pragma rest) number otherwise = noted_is word rest number otherwise
noted_is word (tree.WithLabel label rest) number otherwise = of (is_case word label) (noted_is word rest (suc number) otherwise)
  where
    of : (b : Bool) → noted_number word rest (suc number) otherwise ≡ (if has_case word rest then position true word rest (suc number) else otherwise) →
        (if b then number else noted_number word rest (suc number) otherwise) ≡ (if (if b then true else has_case word rest) then (if b then number else position true word rest (suc number)) else otherwise)
    of true e = refl
    of false e = e

-- what is noted is what is chosen
pub noted_is_chosen : (word : ℕ) (items : tree.Items) → noted_number word items 1 (default_number items 1) ≡ position (has_case word items) word items 1
noted_is_chosen word items = noted_is word items 1 (default_number items 1) ∙ of (has_case word items)
  where
    of : (found : Bool) → (if found then position true word items 1 else default_number items 1) ≡ position found word items 1
    of true = refl
    of false = default_is word items 1

pub within_guarded : (room noted number : ℕ) (before behind : Statements) → AllWithin room (guarded noted number before behind) → AllWithin room before × AllWithin room behind
within_guarded room noted number End behind h = (tt, h)
within_guarded room noted number (Then first rest) behind h = (h.0.0, h.1)

module _ (s : Setting) (ok : IsSetting s) (noted c : ℕ) where
  -- the test of a guard
  guard_is : (number : ℕ) (h : State) → HasValue s (Variable noted) c h → value_of s.passed h.variables h.world (Binary binary.AtLeastUnsigned (Constant number) (Variable noted)) ≡ Some (binary_word binary.AtLeastUnsigned number c)
  guard_is number h has = ap (λ o. at_value o (λ v. Some (binary_word binary.AtLeastUnsigned number v))) has

  word_true : (number : ℕ) → c ≤ number → binary_word binary.AtLeastUnsigned number c ≡ 1
  unfolding binary_word
  word_true number le = ap (λ b. equal_word (truth_word b) 0) (le-ltb number c le)

  word_false : (number : ℕ) → number < c → binary_word binary.AtLeastUnsigned number c ≡ 0
  unfolding binary_word
  word_false number lt = ap (λ b. equal_word (truth_word b) 0) (lt-ltb number c lt)

  guard_runs : (number : ℕ) (first : Statement) (rest behind : Statements) (h : State) → HasValue s (Variable noted) c h →
      run_all Some s.high_call s.passed (guarded noted number (Then first rest) behind) h ≡ then_do (choose (binary_word binary.AtLeastUnsigned number c) (run_all Some s.high_call s.passed (Then first rest) h) (Goes h)) (run_all Some s.high_call s.passed behind)
  guard_runs number first rest behind h has = ap (λ o. then_do (with_value o (λ v. choose v (run_all Some s.high_call s.passed (Then first rest) h) (Goes h))) (run_all Some s.high_call s.passed behind)) (guard_is number h has)

  -- a part that is run
  guard_passes : (number : ℕ) (before behind : Statements) (h : State) → c ≤ number → HasValue s (Variable noted) c h → run_all Some s.high_call s.passed (guarded noted number before behind) h ≡ run_all Some s.high_call s.passed (joined before behind) h
  guard_passes number End behind h le has = refl
  guard_passes number (Then first rest) behind h le has =
      guard_runs number first rest behind h has
      ∙ ap (λ w. then_do (choose w (run_all Some s.high_call s.passed (Then first rest) h) (Goes h)) (run_all Some s.high_call s.passed behind)) (word_true number le)
      ∙ sym (run_all-joined Some s.high_call s.passed (Then first rest) behind h)

  -- a part that is skipped
  guard_skips : (number : ℕ) (before behind : Statements) (h : State) → number < c → HasValue s (Variable noted) c h → run_all Some s.high_call s.passed (guarded noted number before behind) h ≡ run_all Some s.high_call s.passed behind h
  guard_skips number End behind h lt has = refl
  guard_skips number (Then first rest) behind h lt has =
      guard_runs number first rest behind h has
      ∙ ap (λ w. then_do (choose w (run_all Some s.high_call s.passed (Then first rest) h) (Goes h)) (run_all Some s.high_call s.passed behind)) (word_false number lt)

joined-joined : (a b d : Statements) → joined (joined a b) d ≡ joined a (joined b d)
joined-joined End b d = refl
joined-joined (Then first rest) b d = ap (Then first) (joined-joined rest b d)

-- the parts, where the number c was noted
module _ (s : Setting) (ok : IsSetting s) (result : Kind) (rest : Rest) (noted c k : ℕ) (exits : Exits) (le : s.function.variables ≤ k) (temporary : s.function.variables ≤ noted) (below : noted < k) where
  abbrev parts_of : tree.Items → (number : ℕ) → Parts
  parts_of items number = parts_planned (plan_in s rest) items noted number k exits

  kept_noted : (st : source.State) (hs : State) (st1 : source.State) (h : State) → Reached s k st hs st1 h → HasValue s (Variable noted) c hs → HasValue s (Variable noted) c h
  kept_noted st hs st1 h r has = r.keeps noted temporary below ∙ has

  -- behind the chosen label each part is run
  runs_on : (items : tree.Items) → Each s ok result rest items → (number : ℕ) → c < number → (st : source.State) (hs : State) → MeetsIn s st hs → HasValue s (Variable noted) c hs → AllWithin s.room (parts_of items number).before → AllWithin s.room (parts_of items number).behind →
      Does s result exits (joined (parts_of items number).before (parts_of items number).behind) k st hs (run_items (source_in s rest) s.call items st)
  runs_on tree.NoItem each number lt st hs m has before behind = nothing_does s ok result exits k st hs m
  runs_on (tree.WithDeclaration declaration items) each number lt st hs m has before behind =
      let code = declared (plan_in s rest) declaration 0 k in
      let inner = parts_of items number in
      let parts = AllWithin-joined s.room code inner.before before in
      subst (λ whole. Does s result exits whole k st hs (run_items (source_in s rest) s.call (tree.WithDeclaration declaration items) st)) (sym (joined-joined code inner.before inner.behind))
      (joined_does s ok result exits k code (joined inner.before inner.behind) st hs (statements.declared (source_in s rest) s.call declaration st) (run_items (source_in s rest) s.call items) (each.0.by k exits le st hs m parts.0)
      (λ st1 h r. runs_on items each.1 number lt st1 h r.meets (kept_noted st hs st1 h r has) parts.1 behind))
  runs_on (tree.WithStatement statement items) each number lt st hs m has before behind =
      let code = planned (plan_in s rest) statement k exits in
      let inner = parts_of items number in
      let parts = AllWithin-joined s.room code inner.before before in
      subst (λ whole. Does s result exits whole k st hs (run_items (source_in s rest) s.call (tree.WithStatement statement items) st)) (sym (joined-joined code inner.before inner.behind))
      (joined_does s ok result exits k code (joined inner.before inner.behind) st hs (run (source_in s rest) s.call statement st) (run_items (source_in s rest) s.call items) (each.0.by k exits le st hs m parts.0)
      (λ st1 h r. runs_on items each.1 number lt st1 h r.meets (kept_noted st hs st1 h r has) parts.1 behind))
  runs_on (tree.WithRestriction pragma items) each number lt st hs m has before behind = runs_on items each number lt st hs m has before behind
  runs_on (tree.WithLabel label items) each number lt st hs m has before behind =
      let inner = parts_of items (suc number) in
      let parts = within_guarded s.room noted number inner.before inner.behind behind in
      does_behind s ok result exits k (guarded noted number inner.before inner.behind) (joined inner.before inner.behind) st hs st hs (reached_same s ok k st hs m) (guard_passes s ok noted c number inner.before inner.behind hs (omega (arith, lt)) has) (run_items (source_in s rest) s.call items st)
      (runs_on items each (suc number) (omega (arith, lt)) st hs m has parts.0 parts.1)

  -- and before it none
  skips : (found : Bool) (word : ℕ) (items : tree.Items) → Each s ok result rest items → (number : ℕ) → c ≡ position found word items number → (st : source.State) (hs : State) → MeetsIn s st hs → HasValue s (Variable noted) c hs → AllWithin s.room (parts_of items number).before → AllWithin s.room (parts_of items number).behind →
      Does s result exits (parts_of items number).behind k st hs (run_from (source_in s rest) s.call found word items st)
  skips found word tree.NoItem each number at st hs m has before behind = nothing_does s ok result exits k st hs m
  skips found word (tree.WithDeclaration declaration items) each number at st hs m has before behind =
      let parts = AllWithin-joined s.room (declared (plan_in s rest) declaration 0 k) (parts_of items number).before before in
      skips found word items each.1 number at st hs m has parts.1 behind
  skips found word (tree.WithStatement statement items) each number at st hs m has before behind =
      let parts = AllWithin-joined s.room (planned (plan_in s rest) statement k exits) (parts_of items number).before before in
      skips found word items each.1 number at st hs m has parts.1 behind
  skips found word (tree.WithRestriction pragma items) each number at st hs m has before behind = skips found word items each number at st hs m has before behind
  skips found word (tree.WithLabel label items) each number at st hs m has before behind =
      let inner = parts_of items (suc number) in
      let parts = within_guarded s.room noted number inner.before inner.behind behind in
      of (is_chosen found word label) at
      (λ lt. runs_on items each (suc number) lt st hs m has parts.0 parts.1)
      (λ there. skips found word items each (suc number) there st hs m has parts.0 parts.1)
    where
      of : (b : Bool) → c ≡ (if b then number else position found word items (suc number)) →
          (c < suc number → Does s result exits (joined (parts_of items (suc number)).before (parts_of items (suc number)).behind) k st hs (run_items (source_in s rest) s.call items st)) →
          (c ≡ position found word items (suc number) → Does s result exits (parts_of items (suc number)).behind k st hs (run_from (source_in s rest) s.call found word items st)) →
          Does s result exits (guarded noted number (parts_of items (suc number)).before (parts_of items (suc number)).behind) k st hs (if b then run_items (source_in s rest) s.call items st else run_from (source_in s rest) s.call found word items st)
      of true here runs goes =
          let inner = parts_of items (suc number) in
          does_behind s ok result exits k (guarded noted number inner.before inner.behind) (joined inner.before inner.behind) st hs st hs (reached_same s ok k st hs m) (guard_passes s ok noted c number inner.before inner.behind hs (omega (arith, here)) has) (run_items (source_in s rest) s.call items st)
          (runs (omega (arith, here)))
      of false there runs goes =
          let inner = parts_of items (suc number) in
          let from = position_from found word items (suc number) in
          does_behind s ok result exits k (guarded noted number inner.before inner.behind) inner.behind st hs st hs (reached_same s ok k st hs m) (guard_skips s ok noted c number inner.before inner.behind hs (omega (arith, from, there)) has) (run_from (source_in s rest) s.call found word items st)
          (goes there)

-- the block of the parts: a `break` leaves it
module _ (s : Setting) (ok : IsSetting s) (result : Kind) (exits : Exits) (k : ℕ) where
  switch_block : (code : Statements) (st : source.State) (hs : State) (o : source.Outcome Flow) → Does s result (in_switch exits) code k st hs o → Does s result exits (in_block code) k st hs (source.then_do o out_of_switch)
  switch_block code st hs (source.Stopped stop) d = tt
  switch_block code st hs (source.Fine Onward st1) d = record { behind = d.behind; runs = run_block s ok k code hs (Goes d.behind) d.runs; reached = d.reached }
  switch_block code st hs (source.Fine Break st1) d = record { behind = d.behind; runs = run_block s ok k code hs (Leaves 0 d.behind) d.runs; reached = d.reached }
  switch_block code st hs (source.Fine Continue st1) d = record { behind = d.behind; runs = run_block s ok k code hs (Leaves (suc exits.next) d.behind) d.runs; reached = d.reached }
  switch_block code st hs (source.Fine (Return value) st1) d = record { world = d.world; trace = d.trace; runs = run_block s ok k code hs (Returns (or_zero value) d.world d.trace) d.runs; meets = d.meets; untouched = d.untouched; range_is = d.range_is }

same_word : (a b : ℕ) → (a == b) ≡ (b == a)
same_word a b = of (cases_eq a b)
  where
    of : ((a ≡ b) ⊎ (a ≡ b → ⊥)) → (a == b) ≡ (b == a)
    of = ⊎_elim (λ (e : a ≡ b). eq-eqb a b e ∙ sym (eq-eqb b a (sym e))) (λ (n : a ≡ b → ⊥). ne_eqb a b n ∙ sym (ne_eqb b a (λ e. n (sym e))))

-- the tests of the labels, of a value that is no less so where a label is noted
module _ (s : Setting) (ok : IsSetting s) (noted : ℕ) (temporary : s.function.variables ≤ noted) (room : noted < s.room) (w : Expr) (word : ℕ) (firm : (h : State) (u : ℕ) → HasValue s w word h → HasValue s w word (put_variable h noted u)) (st : source.State) where
  abbrev Noted : ℕ → State → Type 0
  Noted c h = HasValue s w word h × HasValue s (Variable noted) c h

  equal_is : (own : ℕ) (h : State) → HasValue s w word h → value_of s.passed h.variables h.world (Binary binary.Equal w (Constant own)) ≡ Some (truth_word (own == word))
  unfolding binary_word
  equal_is own h has = ap (λ o. at_value o (λ v. Some (binary_word binary.Equal v own))) has ∙ ap (λ b. Some (truth_word b)) (same_word word own)

  free : (o : ℕ) → home s.layout o ≡ Frame noted → s.function.live o ≡ true → ⊥
  free o lives own = over temporary (ok.below o noted lives own)
    where
      over : s.function.variables ≤ noted → noted < s.function.variables → ⊥
      over a b = omega (arith, a, b)

  -- one test
  test_goes : (own number c : ℕ) (h : State) → MeetsIn s st h → Noted c h → Went s (alone (If (Binary binary.Equal w (Constant own)) (Set noted (Constant number)) nothing)) noted st h st (Noted (if own == word then number else c))
  test_goes own number c h m has = of (own == word) refl
    where
      lt : noted < length h.variables
      lt = subst (λ n. noted < n) (sym m.room_is) room

      runs : (b : Bool) → (own == word) ≡ b → run_all Some s.high_call s.passed (alone (If (Binary binary.Equal w (Constant own)) (Set noted (Constant number)) nothing)) h ≡ choose (truth_word b) (run_high Some s.high_call s.passed (Set noted (Constant number)) h) (Goes h)
      runs b e =
          run_all-alone Some s.high_call s.passed (If (Binary binary.Equal w (Constant own)) (Set noted (Constant number)) nothing) h
          ∙ ap (λ o. with_value o (λ v. choose v (run_high Some s.high_call s.passed (Set noted (Constant number)) h) (Goes h))) (equal_is own h has.0 ∙ ap (λ t. Some (truth_word t)) e)

      of : (b : Bool) → (own == word) ≡ b → Went s (alone (If (Binary binary.Equal w (Constant own)) (Set noted (Constant number)) nothing)) noted st h st (Noted (if b then number else c))
      of true e = record {
        behind = put_variable h noted number;
        runs = runs true e ∙ run_Set s.high_call s.passed noted number (Constant number) h refl lt;
        reached = record {
          meets = temporary_meets s.layout ok.placed s.function.live (alike s ok) s.passed s.room st h m noted number free;
          keeps = λ j from below. get_or-set_other h.variables noted j (Some number) None (λ same. absurd (omega (arith, same, below)));
          untouched = untouched_same s.layout (s.layout.rank s.function.number) st.objects;
        };
        has = (firm h number has.0, get_or-set_same h.variables noted (Some number) None lt);
      }
      of false e = record { behind = h; runs = runs false e; reached = reached_same s ok noted st h m; has = has }

  tests_go : (items : tree.Items) (number otherwise : ℕ) (h : State) → MeetsIn s st h → Noted otherwise h → Went s (label_tests w noted items number) noted st h st (Noted (noted_number word items number otherwise))
  tests_go tree.NoItem number otherwise h m has = went_nothing s ok noted st h (Noted otherwise) m has
  tests_go (tree.WithDeclaration declaration rest) number otherwise h m has = tests_go rest number otherwise h m has
  tests_go (tree.WithStatement statement rest) number otherwise h m has = tests_go rest number otherwise h m has
  tests_go (tree.WithRestriction pragma rest) number otherwise h m has = tests_go rest number otherwise h m has
  tests_go (tree.WithLabel (tree.Case value own at) rest) number otherwise h m has =
      went_then s ok (label_tests w noted rest (suc number)) (alone (If (Binary binary.Equal w (Constant own)) (Set noted (Constant number)) nothing)) noted st h st st
      (Noted (noted_number word rest (suc number) otherwise)) (Noted (if own == word then number else noted_number word rest (suc number) otherwise))
      (tests_go rest (suc number) otherwise h m has) (λ h1 m1 both. test_goes own number (noted_number word rest (suc number) otherwise) h1 m1 both)
  tests_go (tree.WithLabel (tree.Default at) rest) number otherwise h m has = tests_go rest (suc number) otherwise h m has

-- a switch whose items do what they are
module _ (s : Setting) (ok : IsSetting s) (result : Kind) (rest : Rest) (test : tree.Expr) (items : tree.Items) (at : ℕ) (sim : Simulates s test) (inner : IsSetting (in_scope s (block_declares items))) (each : Each (in_scope s (block_declares items)) inner result rest items) (fit : FitItems s.layout s.signatures result rest.bounds (with_live s.function (block_declares items)) items) where
  abbrev within : Setting
  within = in_scope s (block_declares items)

  abbrev word_at : ℕ → Valued
  word_at k = firm k (made s.layout.homes Value test k) End

  abbrev default : ℕ
  default = default_number items 1

  abbrev tests_at : ℕ → Statements
  tests_at k = label_tests (word_at k).value (k + 1) items 1

  abbrev parts_at : ℕ → Exits → Parts
  parts_at k exits = parts_planned (plan_in s rest) items (k + 1) 1 (k + 2) (in_switch exits)

  abbrev block_at : ℕ → Exits → Statements
  block_at k exits = in_block (guarded (k + 1) 0 (parts_at k exits).before (parts_at k exits).behind)

  abbrev goes_from : ℕ → source.State → source.Outcome Flow
  goes_from word st = source.then_do (run_from (source_in s rest) s.call (has_case word items) word items (entered items st)) out_of_switch

  -- the block of the parts, where the chosen label was noted
  block_does : (k : ℕ) (exits : Exits) → s.function.variables ≤ k → (word : ℕ) (st : source.State) (h : State) → MeetsIn s st h → HasValue s (Variable (k + 1)) (position (has_case word items) word items 1) h → AllWithin s.room (block_at k exits) → Does s result exits (block_at k exits) k st h (goes_from word st)
  block_does k exits le word st h m has inside =
      let c = position (has_case word items) word items 1 in
      let parts = parts_at k exits in
      let both = within_guarded s.room (k + 1) 0 parts.before parts.behind inside.0 in
      let r = block_entered s ok result rest.bounds (k + 2) h items st fit m in
      let from = position_from (has_case word items) word items 1 in
      let o = run_from (source_in s rest) s.call (has_case word items) word items (entered items st) in
      does_out s (block_declares items) result exits k (block_at k exits) st h (goes_from word st)
      (does_below within inner result exits k (k + 2) (omega arith) (block_at k exits) st h (goes_from word st)
      (switch_block within inner result exits (k + 2) (guarded (k + 1) 0 parts.before parts.behind) st h o
      (does_behind within inner result (in_switch exits) (k + 2) (guarded (k + 1) 0 parts.before parts.behind) parts.behind st h (entered items st) h r (guard_skips within inner (k + 1) c 0 parts.before parts.behind h (omega (arith, from)) has) o
      (skips within inner result rest (k + 1) c (k + 2) (in_switch exits) (omega (arith, le)) (omega (arith, le)) (omega arith) (has_case word items) word items each 1 refl (entered items st) h r.meets has both.0 both.1))))

  -- the note of the default, and the tests of the labels
  noted_went : (k : ℕ) → s.function.variables ≤ k → k + 1 < s.room → (word : ℕ) (st : source.State) (h : State) → MeetsIn s st h → HasValue s (word_at k).value word h →
      Went s (Then (Set (k + 1) (Constant default)) (tests_at k)) k st h st (HasValue s (Variable (k + 1)) (position (has_case word items) word items 1))
  noted_went k le room word st h m has =
      let temporary : s.function.variables ≤ k + 1 = omega (arith, le) in
      let lt : k + 1 < length h.variables = subst (λ n. k + 1 < n) (sym m.room_is) room in
      let firm_word : (h : State) (u : ℕ) → HasValue s (word_at k).value word h → HasValue s (word_at k).value word (put_variable h (k + 1) u) = λ h u is. firm_elsewhere s ok k (made s.layout.homes Value test k) End word u h is in
      let first : Went s (alone (Set (k + 1) (Constant default))) (k + 1) st h st (λ h1. h1 ≡ put_variable h (k + 1) default) = record {
        behind = put_variable h (k + 1) default;
        runs = run_all-alone Some s.high_call s.passed (Set (k + 1) (Constant default)) h ∙ run_Set s.high_call s.passed (k + 1) default (Constant default) h refl lt;
        reached = record {
          meets = temporary_meets s.layout ok.placed s.function.live (alike s ok) s.passed s.room st h m (k + 1) default (free s ok (k + 1) temporary room (word_at k).value word firm_word st);
          keeps = λ j from below. get_or-set_other h.variables (k + 1) j (Some default) None (λ same. absurd (omega (arith, same, below)));
          untouched = untouched_same s.layout (s.layout.rank s.function.number) st.objects;
        };
        has = refl;
      } in
      let c = noted_number word items 1 default in
      went_below s ok k (k + 1) (Then (Set (k + 1) (Constant default)) (tests_at k)) st h st (HasValue s (Variable (k + 1)) (position (has_case word items) word items 1)) (omega arith)
      (went_at s ok (alone (Set (k + 1) (Constant default))) (tests_at k) (k + 1) st h st st (λ h1. h1 ≡ put_variable h (k + 1) default) (HasValue s (Variable (k + 1)) (position (has_case word items) word items 1)) first
      (went_with s ok (tests_at k) (k + 1) st (put_variable h (k + 1) default) st (λ h1. HasValue s (word_at k).value word h1 × HasValue s (Variable (k + 1)) c h1) (HasValue s (Variable (k + 1)) (position (has_case word items) word items 1))
      (tests_go s ok (k + 1) temporary room (word_at k).value word firm_word st items 1 default (put_variable h (k + 1) default) first.reached.meets (firm_word h default has, get_or-set_same h.variables (k + 1) (Some default) None lt))
      (λ h1 both. subst (λ n. HasValue s (Variable (k + 1)) n h1) (noted_is_chosen word items) both.1)))

  -- the code of the word and of the tests, before what goes on where the label was noted
  module _ (k : ℕ) (le : s.function.variables ≤ k) (room : k + 1 < s.room) (Ends : Statements → source.State → State → source.Outcome Flow → Type 0) (stops : (code : Statements) (st : source.State) (hs : State) (stop : Stop) → Ends code st hs (source.Stopped stop))
      (went_ends : (a b : Statements) (st : source.State) (hs : State) (st1 : source.State) (P : State → Type 0) (o : source.Outcome Flow) → Went s a k st hs st1 P → ((h : State) → MeetsIn s st1 h → P h → Ends b st1 h o) → Ends (joined a b) st hs o) where
    word_ends : (block : Statements) → ((word : ℕ) (st : source.State) (h : State) → MeetsIn s st h → HasValue s (Variable (k + 1)) (position (has_case word items) word items 1) h → Ends block st h (goes_from word st)) →
        (st : source.State) (hs : State) (o : source.Outcome ℕ) → Gives s Value (made s.layout.homes Value test k) k st hs (range_of s.layout s.signatures test) o →
        ((not (is_leaf (made s.layout.homes Value test k).value) || (is_changed (made s.layout.homes Value test k).value End || is_variable (k + 1) (made s.layout.homes Value test k).value)) ≡ true → k < s.room) →
        Ends (joined (word_at k).code (Then (Set (k + 1) (Constant default)) (joined (tests_at k) block))) st hs (source.then_do o (λ word st1. goes_from word st1))
    word_ends block goes st hs (source.Stopped stop) g needs = stops (joined (word_at k).code (Then (Set (k + 1) (Constant default)) (joined (tests_at k) block))) st hs stop
    word_ends block goes st hs (source.Fine word st1) g needs =
        let p = made s.layout.homes Value test k in
        let needed = not (is_leaf p.value) || (is_changed p.value End || is_variable (k + 1) p.value) in
        went_ends (word_at k).code (Then (Set (k + 1) (Constant default)) (joined (tests_at k) block)) st hs st1 (λ h. HasValue s (word_at k).value word h × Unit {0}) (goes_from word st1)
        (held_went s ok needed k p End st hs st1 st1 word (λ h. Unit {0}) le needs (went s k st hs (range_of s.layout s.signatures test) p word st1 g) (λ h m1. went_nothing s ok (k + 1) st1 h (λ h. Unit {0}) m1 tt) (λ e. stable_empty s ok p.value word End refl))
        (λ h m1 has.
        went_ends (Then (Set (k + 1) (Constant default)) (tests_at k)) block st1 h st1 (HasValue s (Variable (k + 1)) (position (has_case word items) word items 1)) (goes_from word st1)
        (noted_went k le room word st1 h m1 has.0) (λ h2 m2 is. goes word st1 h2 m2 is))

  -- what code of a switch assigns
  within_switch : (k : ℕ) (exits : Exits) → AllWithin s.room (planned (plan_in s rest) (tree.Switch test items at) k exits) →
      AllWithin s.room (made s.layout.homes Value test k).code × ((not (is_leaf (made s.layout.homes Value test k).value) || (is_changed (made s.layout.homes Value test k).value End || is_variable (k + 1) (made s.layout.homes Value test k).value)) ≡ true → k < s.room) × (k + 1 < s.room) × AllWithin s.room (block_at k exits)
  within_switch k exits inside =
      let p = made s.layout.homes Value test k in
      let all = AllWithin-joined s.room (word_at k).code (Then (Set (k + 1) (Constant default)) (joined (tests_at k) (block_at k exits))) inside in
      let parts = within_held s ok (not (is_leaf p.value) || (is_changed p.value End || is_variable (k + 1) p.value)) k p End all.0 in
      let both = AllWithin-joined s.room (tests_at k) (block_at k exits) all.1.1 in
      (parts.0, parts.2, all.1.0, both.1)

  pub of_Switch : Follows s result rest (tree.Switch test items at)
  of_Switch = record {
    by = λ k exits le st hs m inside.
        let w = within_switch k exits inside in
        word_ends k le w.2 (λ code st1 h o. Does s result exits code k st1 h o) (λ code st1 h stop. tt) (λ a b st1 h st2 P o went_a next. went_does s ok result exits k a b st1 h st2 P o went_a next)
        (block_at k exits) (λ word st1 h m1 is. block_does k exits le word st1 h m1 is w.3) st hs (value s.layout.variables s.call test true st) (sim.by true Value k le st hs m w.0) w.1;
  }

  -- as the body of a loop, whose continues leave a block around that of the parts
  abbrev parts_block : ℕ → Statement
  parts_block k = Block (Seq (guarded (k + 1) 0 (parts_at k (in_loop true)).before (parts_at k (in_loop true)).behind))

  last_is : (k : ℕ) → last_in_block (planned (plan_in s rest) (tree.Switch test items at) k (in_loop true)) ≡ joined (word_at k).code (Then (Set (k + 1) (Constant default)) (joined (tests_at k) (alone (Block (parts_block k)))))
  last_is k =
      let before = Then (Set (k + 1) (Constant default)) (tests_at k) in
      ap last_in_block (sym (joined-joined (word_at k).code before (alone (parts_block k))))
      ∙ last_in_block-joined (joined (word_at k).code before) (parts_block k)
      ∙ joined-joined (word_at k).code before (alone (Block (parts_block k)))

  pub turns_Switch : Turns s ok result rest (tree.Switch test items at)
  turns_Switch = turns_by s ok result rest (tree.Switch test items at) of_Switch
      (λ e k le st hs m inside.
      let w = within_switch k (in_loop true) inside in
      subst (λ code. Rounds s ok result k true code st hs (run (source_in s rest) s.call (tree.Switch test items at) st)) (sym (last_is k))
      (word_ends k le w.2 (λ code st1 h o. Rounds s ok result k true code st1 h o) (λ code st1 h stop. tt) (λ a b st1 h st2 P o went_a next. went_rounds s ok result k a b st1 h st2 P o went_a next)
      (alone (Block (parts_block k))) (λ word st1 h m1 is. around_rounds s ok result k (parts_block k) st1 h (goes_from word st1) (block_does k (in_loop true) le word st1 h m1 is w.3)) st hs (value s.layout.variables s.call test true st) (sim.by true Value k le st hs m w.0) w.1))
