-- The code of each expression comes to its value.
use Rattle.std.proofs.Common.{◌≡◌, ℕ, suc, ◌+◌, ◌≤◌, Bool, true, false, not, List, [], ◌∷◌, Option, Some, None, refl, sym, ap, subst, arith}
use Rattle.std.specs.Prelude.{◌&&◌}
use Rattle.std.proofs.lemmas.Option.{none-some}
use Rattle.meaning_semantics.specs.State as source
use Rattle.meaning_semantics.specs.Values as values
use Rattle.meaning_semantics.specs.declared.outcome.Found.{Found}
use Rattle.c_tree.specs.declared.expression.PostfixOperator.{PostfixOperator}
use Rattle.c_tree.specs.declared.expression.PostfixOperator.TheVariants.{Increment, Decrement}
use Rattle.c_tree.specs.declared.expression.Specifier.{Specifier}
use Rattle.c_tree.specs.declared.token.Constant.{Constant}
use Rattle.types_tree.specs.declared.expression.Callee.{Callee}
use Rattle.types_tree.specs.declared.expression.Fix.{Fix}
use Rattle.types_tree.specs.Tree.{Place, Scalar, Element, Within, Expr, Number, Character, Read, Array, Paren, Call, Step, Signed, Cast, Convert, Operate, And, Or, Comma, Conditional, Assign, Update, Exprs, NoExpr, WithExpr}
use Rattle.types_value.specs.Kinds.{is_void, promoted}
use Rattle.types_value.specs.declared.kind.Kind.{Kind as CType}
use Rattle.types_value.specs.declared.operator.Operator.{Operator}
use Rattle.types_value.specs.declared.operator.Sign.{Sign}
use Rattle.types_value.specs.declared.operator.Sign.TheVariants as signs
use Rattle.high_ir.specs.declared.object.Kind.{Kind}
use Rattle.high_ir.specs.declared.object.Kind.TheVariants.{Word}
use Rattle.high_ir.specs.Tree as high
use Rattle.high_ir.specs.Meaning.{State, object_number}
use Rattle.high_code.specs.Code.{joined, alone, is_empty, AllWithin}
use Rattle.high_code.proofs.Joined.{AllWithin-joined}
use Rattle.plan_definition.specs.declared.home.Home.{Home}
use Rattle.plan_definition.specs.declared.home.Home.TheVariants.{Frame, Memory}
use Rattle.plan_definition.specs.declared.purpose.Purpose.{Purpose}
use Rattle.plan_definition.specs.declared.purpose.Purpose.TheVariants.{Value, Effect, Unless, When}
use Rattle.plan_definition.specs.Homes.{scalar_at, loaded}
use Rattle.plan_definition.specs.Operators.{convert, kind_of, signed}
use Rattle.plan_definition.specs.Values.{Valued, Aimed, changed_by, finished, is_changed, operated_on, step_operator, assigned, updated, stepped, array_named, argument, for_operand, signed_for, plain, choice, placed, is_joint, aimed, made, passing}
use Rattle.plan_runs.specs.Meets.{home, kind_at}
use Rattle.plan_runs.specs.ExpressionFits.{Formal, OfWord, OfArray, Suits, IsScalar, IsArgument, FitPlace, Fit, FitArguments, parameters_of, place_constant, place_kind, range_of}
use Rattle.plan_runs.specs.Claims.{Setting, IsSetting, MeetsIn, HasValue, Gives, Simulates, Points, Finds, Aims, Passes, HandsOver}
use Rattle.plan_runs.proofs.Steps.{placed_cases}
use Rattle.plan_runs.proofs.Holding.{went_nothing, within_held}
use Rattle.plan_runs.proofs.Finishing.{within_finished}
use Rattle.plan_runs.proofs.Places.{named_cases}
use Rattle.plan_runs.proofs.Plain.{known_gives, read_gives, convert_gives, signed_gives, operate_gives, comma_gives}
use Rattle.plan_runs.proofs.Jumps.{both_hold, one_holds, of_bit, and_unless, and_when, and_effect, or_when, or_unless, or_effect, noted_and, noted_or, choice_comes, within_choice, placed_comes, effect_comes, chosen_value, chosen_effect}
use Rattle.plan_runs.proofs.Changes.{assign_gives, update_gives, step_gives}
use Rattle.plan_runs.proofs.Calling.{named_kind, called_gives, argument_word, argument_array, no_arguments}

module _ (s : Setting) (ok : IsSetting s) where
  abbrev homes : List Home
  homes = s.layout.homes

  abbrev val : Expr → Bool → source.State → source.Outcome ℕ
  val e used st = values.value s.layout.variables s.call e used st

  abbrev range : Expr → Kind
  range e = range_of s.layout s.signatures e

  pub scalar_points : (object at : ℕ) (h : State) → IsScalar s.layout s.function object (home s.layout object) → Points s (scalar_at (home s.layout object)) (kind_at s.layout object) (s.layout.constant object) (record { object = object; index = 0; at = at }) h
  scalar_points object at h fit = of (home s.layout object) refl fit
    where
      of : (home' : Home) → home s.layout object ≡ home' → IsScalar s.layout s.function object home' → Points s (scalar_at home') (kind_at s.layout object) (s.layout.constant object) (record { object = object; index = 0; at = at }) h
      of (Frame x) is fits = (is, fits, ok.below object x is fits, refl, refl)
      of (Memory a) is fits =
          (record { array = a; object = fits.0; lives = is; base_is = fits.1; kind_is = refl; number_is = ap (object_number s.passed) fits.1; stores = λ writable. writable }, refl, ok.placed.kinds object a is)

  aims_Scalar : (object at : ℕ) → IsScalar s.layout s.function object (home s.layout object) → Aims s (Scalar object at)
  aims_Scalar object at fit = record {
    by = λ k le st hs m within. went_nothing s ok k st hs (Points s (scalar_at (home s.layout object)) (kind_at s.layout object) (s.layout.constant object) (record { object = object; index = 0; at = at })) m (scalar_points object at hs fit);
  }

  aims_Element : (array : ℕ) (index : Expr) (at : ℕ) → FitPlace s.layout s.signatures s.function (Element array index at) → Simulates s index → Aims s (Element array index at)
  aims_Element array index at fit sim = record { by = λ k le st hs m within. of k st hs (val index true st) (sim.by true Value k le st hs m within) }
    where
      of : (k : ℕ) (st : source.State) (hs : State) (o : source.Outcome ℕ) → Gives s Value (made homes Value index k) k st hs (range index) o →
          Finds s (aimed homes (Element array index at) k) k st hs (kind_at s.layout array) (s.layout.constant array) (source.then_do o (λ i st1. source.then_do (source.array_number s.layout.variables array at st1) (λ object st2. source.placed (record { object = object; index = i; at = at }) st2)))
      of k st hs (source.Stopped stop) g = tt
      of k st hs (source.Fine i st1) g =
          named_cases s ok (λ o. Finds s (aimed homes (Element array index at) k) k st hs (kind_at s.layout array) (s.layout.constant array) (source.then_do o (λ object st2. source.placed (record { object = object; index = i; at = at }) st2))) array at st1 g.behind g.reached.meets fit.0 (λ stop. tt)
          (λ q a. placed_cases (Finds s (aimed homes (Element array index at) k) k st hs (kind_at s.layout array) (s.layout.constant array)) (record { object = q; index = i; at = at }) st1 (λ stop. tt)
          (λ lt. record { behind = g.behind; runs = g.runs; reached = g.reached; has = (a, g.value, named_kind s ok array fit.0) }))

  aims_Within : (inner : Place) (at : ℕ) → Aims s inner → Aims s (Within inner at)
  aims_Within inner at a = record { by = a.by }

  -- a place in which something is stored
  finds_stored : (target : Place) → place_constant s.layout target ≡ false → Aims s target → (k : ℕ) → s.function.variables ≤ k → (st : source.State) (hs : State) → MeetsIn s st hs → AllWithin s.room (aimed homes target k).code →
      Finds s (aimed homes target k) k st hs (place_kind s.layout target) false (values.find s.layout.variables s.call target st)
  finds_stored target writable a k le st hs m within = subst (λ b. Finds s (aimed homes target k) k st hs (place_kind s.layout target) b (values.find s.layout.variables s.call target st)) writable (a.by k le st hs m within)

  of_Number : (word : Constant) (at : ℕ) → Simulates s (Number word at)
  of_Number word at = record { by = λ used purpose k le st hs m within. known_gives s ok k st hs purpose word.value m }

  of_Character : (word at : ℕ) → Simulates s (Character word at)
  of_Character word at = record { by = λ used purpose k le st hs m within. known_gives s ok k st hs purpose word m }

  of_Read : (place : Place) → Aims s place → Simulates s (Read place)
  of_Read place a = record {
    by = λ used purpose k le st hs m within.
        let p = aimed homes place k in
        read_gives s ok k st hs purpose p (place_kind s.layout place) (place_constant s.layout place) (values.find s.layout.variables s.call place st)
        (a.by k le st hs m (within_finished s.room purpose (record { code = p.code; value = loaded p.target }) within));
  }

  of_Paren : (inner : Expr) (at : ℕ) → Simulates s inner → Simulates s (Paren inner at)
  of_Paren inner at sim = record { by = λ used purpose k le st hs m within. sim.by used purpose k le st hs m within }

  of_Call : (callee : Callee) (arguments : Exprs) (at : ℕ) → Fit s.layout s.signatures s.function (Call callee arguments at) → HandsOver s arguments (parameters_of s.signatures callee) → Simulates s (Call callee arguments at)
  of_Call callee arguments at fit hands = record {
    by = λ used purpose k le st hs m within.
        called_gives s ok k le st hs purpose callee (passing homes arguments k) at used (values.values s.layout.variables s.call arguments st) fit.1 within (λ inner. hands.by k le st hs m inner);
  }

  of_Step : (fix : Fix) (operator : PostfixOperator) (kind : CType) (target : Place) (at : ℕ) → kind_of kind ≡ place_kind s.layout target → place_constant s.layout target ≡ false → Aims s target → Simulates s (Step fix operator kind target at)
  of_Step fix operator kind target at kind_is writable a = record {
    by = λ used purpose k le st hs m within.
        let p = aimed homes target k in
        of_operator operator purpose k le st hs p (values.find s.layout.variables s.call target st) within (λ inner. finds_stored target writable a k le st hs m inner);
  }
    where
      of_operator : (operator : PostfixOperator) (purpose : Purpose) (k : ℕ) → s.function.variables ≤ k → (st : source.State) (hs : State) (p : Aimed) (o : source.Outcome Found) → AllWithin s.room (finished purpose (stepped purpose fix (step_operator operator) kind k p.target p.code)).code →
          (AllWithin s.room p.code → Finds s p k st hs (place_kind s.layout target) false o) → Gives s purpose (finished purpose (stepped purpose fix (step_operator operator) kind k p.target p.code)) k st hs (place_kind s.layout target)
          (source.then_do o (λ found st1. source.then_do (source.changed (source.at_place at found) (source.step_operator operator) (promoted kind) kind 1 st1) (λ change st2. source.Fine (source.step_value fix change) st2)))
      of_operator Increment purpose k le st hs p o within finds = step_gives s ok k le st hs purpose fix (step_operator Increment) kind at p (place_kind s.layout target) o kind_is (within_finished s.room purpose (stepped purpose fix (step_operator Increment) kind k p.target p.code) within) finds
      of_operator Decrement purpose k le st hs p o within finds = step_gives s ok k le st hs purpose fix (step_operator Decrement) kind at p (place_kind s.layout target) o kind_is (within_finished s.room purpose (stepped purpose fix (step_operator Decrement) kind k p.target p.code) within) finds

  within_signed : (operator : Sign) (purpose : Purpose) (p : Valued) → AllWithin s.room (signed_for operator purpose p).code → AllWithin s.room p.code
  within_signed signs.Not Value p h = h
  within_signed signs.Not Effect p h = h
  within_signed signs.Not (Unless depth) p h = h
  within_signed signs.Not (When depth) p h = h
  within_signed signs.Negate purpose p h = within_finished s.room purpose (changed_by (signed signs.Negate) p) h
  within_signed signs.Plus purpose p h = within_finished s.room purpose (changed_by (signed signs.Plus) p) h
  within_signed signs.Complement purpose p h = within_finished s.room purpose (changed_by (signed signs.Complement) p) h

  of_Signed : (operator : Sign) (kind : CType) (operand : Expr) (at : ℕ) → Simulates s operand → Simulates s (Signed operator kind operand at)
  of_Signed operator kind operand at sim = record {
    by = λ used purpose k le st hs m within.
        let p = made homes (for_operand operator purpose) operand k in
        signed_gives s ok k st hs purpose operator kind at p (range operand) (val operand true st) (sim.by true (for_operand operator purpose) k le st hs m (within_signed operator purpose p within));
  }

  of_Cast : (specifiers : List Specifier) (to : CType) (operand : Expr) (at : ℕ) → Simulates s operand → Simulates s (Cast specifiers to operand at)
  of_Cast specifiers to operand at sim = record {
    by = λ used purpose k le st hs m within.
        let p = made homes (plain purpose) operand k in
        convert_gives s ok k st hs purpose to p (range operand) (val operand (not (is_void to)) st) (sim.by (not (is_void to)) (plain purpose) k le st hs m (within_finished s.room purpose (changed_by (convert to) p) within));
  }

  of_Convert : (to : CType) (operand : Expr) → Simulates s operand → Simulates s (Convert to operand)
  of_Convert to operand sim = record {
    by = λ used purpose k le st hs m within.
        let p = made homes (plain purpose) operand k in
        convert_gives s ok k st hs purpose to p (range operand) (val operand used st) (sim.by used (plain purpose) k le st hs m (within_finished s.room purpose (changed_by (convert to) p) within));
  }

  of_Operate : (operator : Operator) (kind : CType) (left right : Expr) (at : ℕ) → Simulates s left → Simulates s right → Simulates s (Operate operator kind left right at)
  of_Operate operator kind left right at l r = record {
    by = λ used purpose k le st hs m within.
        let a = made homes Value left k in
        let b = made homes Value right (k + 1) in
        let whole = within_finished s.room purpose (operated_on operator kind k a b) within in
        let parts = within_held s ok (not (is_empty b.code) && is_changed a.value b.code) k a b.code whole in
        operate_gives s ok k st hs purpose operator kind at a b (range left) (range right) (val left true st) (λ st1. val right true st1) le whole (l.by true Value k le st hs m parts.0)
        (λ st1 h m1. r.by true Value (k + 1) (omega (arith, le)) st1 h m1 parts.1);
  }

  of_And : (left right : Expr) (at : ℕ) → Simulates s left → Simulates s right → Simulates s (And left right at)
  of_And left right at l r = record { by = λ used purpose k le st hs m within. of purpose k le st hs m within }
    where
      of : (purpose : Purpose) (k : ℕ) → s.function.variables ≤ k → (st : source.State) (hs : State) → MeetsIn s st hs → AllWithin s.room (made homes purpose (And left right at) k).code → Gives s purpose (made homes purpose (And left right at) k) k st hs Word (both_hold (val left true st) (λ st1. val right true st1))
      of Value k le st hs m within =
          let a = made homes (Unless 0) left (k + 1) in
          let b = made homes (Unless 0) right (k + 1) in
          let jumps = AllWithin-joined s.room (joined a.code b.code) (alone (high.Set k (high.Constant 1))) within.1.0 in
          let parts = AllWithin-joined s.room a.code b.code jumps.0 in
          noted_and s ok k le within.0 st hs m (joined a.code b.code) (both_hold (val left true st) (λ st1. val right true st1))
          (λ h m1. and_unless s ok (k + 1) st h a b (range left) (range right) 0 (val left true st) (λ st1. val right true st1) (l.by true (Unless 0) (k + 1) (omega (arith, le)) st h m1 parts.0) (λ st1 h1 m2. r.by true (Unless 0) (k + 1) (omega (arith, le)) st1 h1 m2 parts.1))
      of Effect k le st hs m within =
          let a = made homes (Unless 0) left k in
          let b = made homes Effect right k in
          let parts = AllWithin-joined s.room a.code b.code within.0 in
          and_effect s ok k st hs a b (range left) (range right) (val left true st) (λ st1. val right true st1) (l.by true (Unless 0) k le st hs m parts.0) (λ st1 h1 m2. r.by true Effect k le st1 h1 m2 parts.1)
      of (Unless depth) k le st hs m within =
          let a = made homes (Unless depth) left k in
          let b = made homes (Unless depth) right k in
          let parts = AllWithin-joined s.room a.code b.code within in
          of_bit s ok k (Unless depth) (made homes (Unless depth) (And left right at) k) st hs (both_hold (val left true st) (λ st1. val right true st1))
          (and_unless s ok k st hs a b (range left) (range right) depth (val left true st) (λ st1. val right true st1) (l.by true (Unless depth) k le st hs m parts.0) (λ st1 h1 m2. r.by true (Unless depth) k le st1 h1 m2 parts.1))
      of (When depth) k le st hs m within =
          let a = made homes (Unless 0) left k in
          let b = made homes (When (suc depth)) right k in
          let parts = AllWithin-joined s.room a.code b.code within.0 in
          and_when s ok k st hs a b (range left) (range right) depth (val left true st) (λ st1. val right true st1) (l.by true (Unless 0) k le st hs m parts.0) (λ st1 h1 m2. r.by true (When (suc depth)) k le st1 h1 m2 parts.1)

  of_Or : (left right : Expr) (at : ℕ) → Simulates s left → Simulates s right → Simulates s (Or left right at)
  of_Or left right at l r = record { by = λ used purpose k le st hs m within. of purpose k le st hs m within }
    where
      of : (purpose : Purpose) (k : ℕ) → s.function.variables ≤ k → (st : source.State) (hs : State) → MeetsIn s st hs → AllWithin s.room (made homes purpose (Or left right at) k).code → Gives s purpose (made homes purpose (Or left right at) k) k st hs Word (one_holds (val left true st) (λ st1. val right true st1))
      of Value k le st hs m within =
          let a = made homes (When 0) left (k + 1) in
          let b = made homes (When 0) right (k + 1) in
          let jumps = AllWithin-joined s.room (joined a.code b.code) (alone (high.Set k (high.Constant 0))) within.1.0 in
          let parts = AllWithin-joined s.room a.code b.code jumps.0 in
          noted_or s ok k le within.0 st hs m (joined a.code b.code) (one_holds (val left true st) (λ st1. val right true st1))
          (λ h m1. or_when s ok (k + 1) st h a b (range left) (range right) 0 (val left true st) (λ st1. val right true st1) (l.by true (When 0) (k + 1) (omega (arith, le)) st h m1 parts.0) (λ st1 h1 m2. r.by true (When 0) (k + 1) (omega (arith, le)) st1 h1 m2 parts.1))
      of Effect k le st hs m within =
          let a = made homes (When 0) left k in
          let b = made homes Effect right k in
          let parts = AllWithin-joined s.room a.code b.code within.0 in
          or_effect s ok k st hs a b (range left) (range right) (val left true st) (λ st1. val right true st1) (l.by true (When 0) k le st hs m parts.0) (λ st1 h1 m2. r.by true Effect k le st1 h1 m2 parts.1)
      of (Unless depth) k le st hs m within =
          let a = made homes (When 0) left k in
          let b = made homes (Unless (suc depth)) right k in
          let parts = AllWithin-joined s.room a.code b.code within.0 in
          or_unless s ok k st hs a b (range left) (range right) depth (val left true st) (λ st1. val right true st1) (l.by true (When 0) k le st hs m parts.0) (λ st1 h1 m2. r.by true (Unless (suc depth)) k le st1 h1 m2 parts.1)
      of (When depth) k le st hs m within =
          let a = made homes (When depth) left k in
          let b = made homes (When depth) right k in
          let parts = AllWithin-joined s.room a.code b.code within in
          of_bit s ok k (When depth) (made homes (When depth) (Or left right at) k) st hs (one_holds (val left true st) (λ st1. val right true st1))
          (or_when s ok k st hs a b (range left) (range right) depth (val left true st) (λ st1. val right true st1) (l.by true (When depth) k le st hs m parts.0) (λ st1 h1 m2. r.by true (When depth) k le st1 h1 m2 parts.1))

  of_Comma : (left right : Expr) (at : ℕ) → Simulates s left → Simulates s right → Simulates s (Comma left right at)
  of_Comma left right at l r = record {
    by = λ used purpose k le st hs m within.
        let a = made homes Effect left k in
        let b = made homes purpose right k in
        let parts = AllWithin-joined s.room a.code b.code within in
        comma_gives s ok k st hs purpose a b (range left) (range right) (val left false st) (λ st1. val right used st1) (l.by false Effect k le st hs m parts.0) (λ st1 h1 m1. r.by used purpose k le st1 h1 m1 parts.1);
  }

  of_Conditional : (test first second : Expr) (at : ℕ) → Simulates s test → Simulates s first → Simulates s second → Simulates s (Conditional test first second at)
  of_Conditional test first second at t a b = record { by = λ used purpose k le st hs m within. of used purpose k le st hs m within }
    where
      by_value : (used : Bool) (purpose : Purpose) (k : ℕ) → s.function.variables ≤ k → (st : source.State) (hs : State) → MeetsIn s st hs →
          AllWithin s.room (choice (is_joint test) (made homes Value test k) (made homes (Unless 0) test k).code (placed k (made homes Value first k)) (placed k (made homes Value second k))) →
          Gives s purpose (finished purpose (record { code = choice (is_joint test) (made homes Value test k) (made homes (Unless 0) test k).code (placed k (made homes Value first k)) (placed k (made homes Value second k)); value = high.Variable k })) k st hs Word
          (source.then_do (val test true st) (λ x st1. source.choose x (val first used st1) (val second used st1)))
      by_value used purpose k le st hs m within =
          let one = placed k (made homes Value first k) in
          let two = placed k (made homes Value second k) in
          let parts = within_choice s.room (is_joint test) (made homes Value test k) (made homes (Unless 0) test k).code one two within in
          let in_one = (AllWithin-joined s.room (made homes Value first k).code (alone (high.Set k (made homes Value first k).value)) parts.2).0 in
          let in_two = (AllWithin-joined s.room (made homes Value second k).code (alone (high.Set k (made homes Value second k).value)) parts.3).0 in
          chosen_value s ok k le purpose (choice (is_joint test) (made homes Value test k) (made homes (Unless 0) test k).code one two) st hs (source.then_do (val test true st) (λ x st1. source.choose x (val first used st1) (val second used st1)))
          (choice_comes s ok k (λ v h. HasValue s (high.Variable k) v h) st hs one two (λ st1. val first used st1) (λ st1. val second used st1)
          (λ st1 h m1. placed_comes s ok k le (made homes Value first k) (range first) st1 h (val first used st1) parts.2 (a.by used Value k le st1 h m1 in_one))
          (λ st1 h m1. placed_comes s ok k le (made homes Value second k) (range second) st1 h (val second used st1) parts.3 (b.by used Value k le st1 h m1 in_two))
          (is_joint test) (made homes Value test k) (made homes (Unless 0) test k) (range test) (val test true st) (λ e. t.by true Value k le st hs m (parts.0 e)) (λ e. t.by true (Unless 0) k le st hs m (parts.1 e)))

      of : (used : Bool) (purpose : Purpose) (k : ℕ) → s.function.variables ≤ k → (st : source.State) (hs : State) → MeetsIn s st hs → AllWithin s.room (made homes purpose (Conditional test first second at) k).code →
          Gives s purpose (made homes purpose (Conditional test first second at) k) k st hs Word (source.then_do (val test true st) (λ x st1. source.choose x (val first used st1) (val second used st1)))
      of used Value k le st hs m within = by_value used Value k le st hs m within
      of used (Unless depth) k le st hs m within =
          by_value used (Unless depth) k le st hs m
          (within_finished s.room (Unless depth) (record { code = choice (is_joint test) (made homes Value test k) (made homes (Unless 0) test k).code (placed k (made homes Value first k)) (placed k (made homes Value second k)); value = high.Variable k }) within)
      of used (When depth) k le st hs m within =
          by_value used (When depth) k le st hs m
          (within_finished s.room (When depth) (record { code = choice (is_joint test) (made homes Value test k) (made homes (Unless 0) test k).code (placed k (made homes Value first k)) (placed k (made homes Value second k)); value = high.Variable k }) within)
      of used Effect k le st hs m within =
          let one = (made homes Effect first k).code in
          let two = (made homes Effect second k).code in
          let parts = within_choice s.room (is_joint test) (made homes Value test k) (made homes (Unless 0) test k).code one two within in
          chosen_effect s ok k le (choice (is_joint test) (made homes Value test k) (made homes (Unless 0) test k).code one two) st hs (source.then_do (val test true st) (λ x st1. source.choose x (val first used st1) (val second used st1)))
          (choice_comes s ok k (λ v h. Unit {0}) st hs one two (λ st1. val first used st1) (λ st1. val second used st1)
          (λ st1 h m1. effect_comes s ok k le (made homes Effect first k) (range first) st1 h (val first used st1) (a.by used Effect k le st1 h m1 parts.2))
          (λ st1 h m1. effect_comes s ok k le (made homes Effect second k) (range second) st1 h (val second used st1) (b.by used Effect k le st1 h m1 parts.3))
          (is_joint test) (made homes Value test k) (made homes (Unless 0) test k) (range test) (val test true st) (λ e. t.by true Value k le st hs m (parts.0 e)) (λ e. t.by true (Unless 0) k le st hs m (parts.1 e)))

  of_Assign : (target : Place) (right : Expr) (at : ℕ) → Suits (range right) (place_kind s.layout target) → place_constant s.layout target ≡ false → Aims s target → Simulates s right → Simulates s (Assign target right at)
  of_Assign target right at suits writable a r = record {
    by = λ used purpose k le st hs m within.
        let p = aimed homes target k in
        let b = made homes Value right (k + 1) in
        assign_gives s ok k le st hs purpose p b (place_kind s.layout target) (range right) (values.find s.layout.variables s.call target st) (λ st1. val right true st1)
        (within_finished s.room purpose (assigned purpose k p.target p.code b) within) (λ inner. finds_stored target writable a k le st hs m inner) (λ inner st1 h m1. r.by true Value (k + 1) (omega (arith, le)) st1 h m1 inner) suits;
  }

  of_Update : (operator : Operator) (kind to : CType) (target : Place) (right : Expr) (at : ℕ) → kind_of to ≡ place_kind s.layout target → place_constant s.layout target ≡ false → Aims s target → Simulates s right → Simulates s (Update operator kind to target right at)
  of_Update operator kind to target right at kind_is writable a r = record {
    by = λ used purpose k le st hs m within.
        let p = aimed homes target k in
        let b = made homes Value right (k + 1) in
        update_gives s ok k le st hs purpose operator kind to at p b (place_kind s.layout target) (range right) (values.find s.layout.variables s.call target st) (λ st1. val right true st1) kind_is
        (within_finished s.room purpose (updated purpose operator kind to k p.target p.code b) within) (λ inner. finds_stored target writable a k le st hs m inner) (λ inner st1 h m1. r.by true Value (k + 1) (omega (arith, le)) st1 h m1 inner);
  }

  of_word : (kind : Kind) (formals : List Formal) (e : Expr) (rest : Exprs) → array_named e ≡ None → Suits (range e) kind → Simulates s e → HandsOver s rest formals → HandsOver s (WithExpr e rest) (OfWord kind ∷ formals)
  of_word kind formals e rest named suits sim hands = record { by = λ k le st hs m within. of k le st hs m (array_named e) named within }
    where
      of : (k : ℕ) → s.function.variables ≤ k → (st : source.State) (hs : State) → MeetsIn s st hs → (o : Option ℕ) → o ≡ None → AllWithin s.room (argument homes o k (made homes Value e k) (passing homes rest (k + 1))).code →
          Passes s (OfWord kind ∷ formals) (argument homes o k (made homes Value e k) (passing homes rest (k + 1))) k st hs (source.then_do (val e true st) (λ word st1. source.then_do (values.values s.layout.variables s.call rest st1) (λ words st2. source.Fine (word ∷ words) st2)))
      of k le st hs m (Some object) is within = absurd (none-some object (sym is))
      of k le st hs m None is within =
          argument_word s ok k le st hs kind formals (made homes Value e k) (passing homes rest (k + 1)) (range e) (val e true st) (λ st1. values.values s.layout.variables s.call rest st1) within suits
          (λ inner. sim.by true Value k le st hs m inner) (λ inner st1 h m1. hands.by (k + 1) (omega (arith, le)) st1 h m1 inner)

  of_array : (kind : Kind) (constant : Bool) (formals : List Formal) (object at : ℕ) (rest : Exprs) → IsArgument s.layout s.function (Some object) kind constant → HandsOver s rest formals → HandsOver s (WithExpr (Array object at) rest) (OfArray kind constant ∷ formals)
  of_array kind constant formals object at rest fit hands = record {
    by = λ k le st hs m within.
        argument_array s ok k le st hs object at kind constant formals (made homes Value (Array object at) k) (passing homes rest (k + 1)) (λ st1. values.values s.layout.variables s.call rest st1) m fit (hands.by (k + 1) (omega (arith, le)) st hs m within);
  }

  by_name : (kind : Kind) (constant : Bool) (formals : List Formal) (e : Expr) (rest : Exprs) → IsArgument s.layout s.function (array_named e) kind constant → HandsOver s rest formals → HandsOver s (WithExpr e rest) (OfArray kind constant ∷ formals)
  by_name kind constant formals (Array object at) rest fit hands = of_array kind constant formals object at rest fit hands
  by_name kind constant formals other rest fit hands = absurd fit

  of_nothing : HandsOver s NoExpr []
  of_nothing = record { by = λ k le st hs m within. no_arguments s ok k le st hs m }

  mutual
    -- the code of a place finds what the place is
    pub aims : (place : Place) → FitPlace s.layout s.signatures s.function place → Aims s place
    aims (Scalar object at) fit = aims_Scalar object at fit
    aims (Element array index at) fit = aims_Element array index at fit (simulates index fit.1)
    aims (Within inner at) fit = aims_Within inner at (aims inner fit)

    -- the code of an expression comes to its value, for each purpose
    pub simulates : (e : Expr) → Fit s.layout s.signatures s.function e → Simulates s e
    simulates (Number word at) fit = of_Number word at
    simulates (Character word at) fit = of_Character word at
    simulates (Read place) fit = of_Read place (aims place fit)
    simulates (Array object at) fit = absurd fit
    simulates (Paren inner at) fit = of_Paren inner at (simulates inner fit)
    simulates (Call callee arguments at) fit = of_Call callee arguments at fit (hands_over arguments (parameters_of s.signatures callee) fit.0)
    simulates (Step fix operator kind target at) fit = of_Step fix operator kind target at fit.1 fit.2 (aims target fit.0)
    simulates (Signed operator kind operand at) fit = of_Signed operator kind operand at (simulates operand fit)
    simulates (Cast specifiers to operand at) fit = of_Cast specifiers to operand at (simulates operand fit)
    simulates (Convert to operand) fit = of_Convert to operand (simulates operand fit)
    simulates (Operate operator kind left right at) fit = of_Operate operator kind left right at (simulates left fit.0) (simulates right fit.1)
    simulates (And left right at) fit = of_And left right at (simulates left fit.0) (simulates right fit.1)
    simulates (Or left right at) fit = of_Or left right at (simulates left fit.0) (simulates right fit.1)
    simulates (Comma left right at) fit = of_Comma left right at (simulates left fit.0) (simulates right fit.1)
    simulates (Conditional test first second at) fit = of_Conditional test first second at (simulates test fit.0) (simulates first fit.1) (simulates second fit.2)
    simulates (Assign target right at) fit = of_Assign target right at fit.2 fit.3 (aims target fit.0) (simulates right fit.1)
    simulates (Update operator kind to target right at) fit = of_Update operator kind to target right at fit.2 fit.3 (aims target fit.0) (simulates right fit.1)

    -- the code of arguments leaves what a call takes
    pub hands_over : (es : Exprs) (formals : List Formal) → FitArguments s.layout s.signatures s.function es formals → HandsOver s es formals
    hands_over NoExpr [] fit = of_nothing
    hands_over NoExpr (formal ∷ formals) fit = absurd fit
    hands_over (WithExpr e rest) [] fit = absurd fit
    hands_over (WithExpr e rest) (OfWord kind ∷ formals) fit = of_word kind formals e rest fit.1 fit.2 (simulates e fit.0) (hands_over rest formals fit.3)
    hands_over (WithExpr e rest) (OfArray kind constant ∷ formals) fit = by_name kind constant formals e rest fit.0 (hands_over rest formals fit.1)
