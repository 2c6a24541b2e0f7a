-- Declarations: initial values are stored, and what a list leaves over is 0.
use Rattle.std.specs.Prelude.{slice_set}
use Rattle.std.proofs.Common.{◌≡◌, ℕ, zero, suc, ◌+◌, ◌-◌, ◌<◌, ◌≤◌, true, false, List, [], ◌∷◌, Option, Some, None, refl, sym, ap, ◌∙◌, subst, arith}
use Rattle.facts_definitions.specs.Most.{bounds_at}
use Rattle.facts_definitions.specs.Sites.{count_exprs}
use Rattle.meaning_semantics.specs.State as source
use Rattle.meaning_semantics.specs.Statements as statements
use Rattle.meaning_semantics.specs.Values.{value}
use Rattle.meaning_semantics.specs.declared.outcome.Flow.TheVariants.{Onward}
use Rattle.types_tree.specs.Tree as tree
use Rattle.high_ir.specs.declared.object.Kind.{Kind}
use Rattle.high_ir.specs.declared.object.Kind.TheVariants.{Unsigned8, Signed8, Unsigned16, Signed16, Word}
use Rattle.high_ir.specs.Tree.{Expr, Constant, Variable, Statements, End, Then}
use Rattle.high_ir.specs.Meaning.{World, State, Goes, object_number, then_do, run_all}
use Rattle.high_ir.specs.Words.{converted}
use Rattle.high_code.specs.Code.{joined, alone, AllWithin}
use Rattle.high_code.proofs.Joined.{run_all-joined, run_all-alone, AllWithin-joined}
use Rattle.plan_definition.specs.declared.home.Home.{Home}
use Rattle.plan_definition.specs.declared.home.Home.TheVariants.{Frame, Memory}
use Rattle.plan_definition.specs.declared.purpose.Purpose.TheVariants.{Value, Effect}
use Rattle.plan_definition.specs.Homes.{scalar_at}
use Rattle.plan_definition.specs.Statements.{Exits, all_declared, declared, filled, filling, initialised, listed, started, stored_at}
use Rattle.plan_definition.specs.Values.{made}
use Rattle.plan_runs.specs.Cells.{size, put_cell}
use Rattle.plan_runs.specs.ExpressionFits.{IsScalar, range_of}
use Rattle.plan_runs.specs.Meets.{home, kind_at}
use Rattle.plan_runs.specs.Claims.{Setting, IsSetting, MeetsIn, Reached, Went, HasValue, Points, Ends, Gives}
use Rattle.plan_runs.proofs.Steps.{write_cases}
use Rattle.plan_runs.proofs.Holding.{reached_then, went_at, went_nothing, went_with}
use Rattle.plan_runs.proofs.Places.{set_went, keep_went}
use Rattle.plan_runs.proofs.Changes.{suits_range}
use Rattle.plan_runs.proofs.Expressions.{scalar_points, simulates}
use Rattle.plan_runs.specs.StatementFits.{IsArrayObject, FillingFits, FitValues, FitInitial, FitObjects, FitDeclaration, FitStart, declares as declares_of, start_declares, with_live}
use Rattle.plan_runs.specs.Flows.{Rest, source_in, plan_in, in_scope, Does}
use Rattle.plan_runs.proofs.Items.{Declares}
use Rattle.plan_runs.proofs.Leaving.{initialised_onwards}
use Rattle.plan_runs.proofs.Entering.{declaration_begun, nothing_more}
use Rattle.plan_runs.proofs.Filling.{filled_went, zeros_cases}
use Rattle.plan_runs.proofs.Repeating.{goes_on}
use Rattle.plan_runs.proofs.Sequences.{does_behind, effect_does, nothing_does}

-- 0 is of each kind
pub zero_range : (kind : Kind) → converted kind 0 ≡ 0
unfolding converted
zero_range Unsigned8 = refl
zero_range Signed8 = refl
zero_range Unsigned16 = refl
zero_range Signed16 = refl
zero_range Word = refl

none_of : (n : ℕ) → n ≡ 0 → 1 ≤ n → ⊥
none_of n e le = omega (arith, e, le)

module _ (s : Setting) (ok : IsSetting s) (result : Kind) (rest : Rest) where
  -- a word in a scalar
  scalar_stored : (object at k : ℕ) (e : Expr) (w : ℕ) (st : source.State) (h : State) → s.function.variables ≤ k → MeetsIn s st h → IsScalar s.layout s.function object (home s.layout object) → s.layout.constant object ≡ false → AllWithin s.room (alone (stored_at (home s.layout object) (Constant 0) e)) → HasValue s e w h → converted (kind_at s.layout object) w ≡ w → 0 < size st.objects object →
      Went s (alone (stored_at (home s.layout object) (Constant 0) e)) k st h (source.with_objects st (put_cell st.objects object 0 w)) (λ h1. Unit {0})
  scalar_stored object at k e w st h le m fit writable inside has range lt =
      of (home s.layout object) inside (subst (λ b. Points s (scalar_at (home s.layout object)) (kind_at s.layout object) b (record { object = object; index = 0; at = at }) h) writable (scalar_points s ok object at h fit))
    where
      of : (home' : Home) → AllWithin s.room (alone (stored_at home' (Constant 0) e)) → Points s (scalar_at home') (kind_at s.layout object) false (record { object = object; index = 0; at = at }) h →
          Went s (alone (stored_at home' (Constant 0) e)) k st h (source.with_objects st (put_cell st.objects object 0 w)) (λ h1. Unit {0})
      of (Frame x) within p =
          went_with s ok (alone (stored_at (Frame x) (Constant 0) e)) k st h (source.with_objects st (put_cell st.objects object 0 w)) (λ h1. h1 ≡ record { variables = slice_set h.variables x (Some w); world = h.world; trace = h.trace }) (λ h1. Unit {0})
          (set_went s ok x k (kind_at s.layout object) (record { object = object; index = 0; at = at }) e w st h le within.0 m p has range lt) (λ h1 is. tt)
      of (Memory a) within p =
          went_with s ok (alone (stored_at (Memory a) (Constant 0) e)) k st h (source.with_objects st (put_cell st.objects object 0 w)) (λ h1. (world : World) × (h1 ≡ record { variables = h.variables; world = world; trace = h.trace })) (λ h1. Unit {0})
          (keep_went s ok a (Constant 0) e k (kind_at s.layout object) (record { object = object; index = 0; at = at }) w w st h m p.0 p.1 p.2 has range range lt) (λ h1 is. tt)

  -- a word in an element of an array
  element_stored : (object index at k : ℕ) (index_value e : Expr) (w : ℕ) (st : source.State) (h : State) → MeetsIn s st h → IsArrayObject s.layout object → HasValue s index_value index h → HasValue s e w h → converted (kind_at s.layout object) w ≡ w → index < size st.objects object →
      Went s (alone (stored_at (home s.layout object) index_value e)) k st h (source.with_objects st (put_cell st.objects object index w)) (λ h1. (world : World) × (h1 ≡ record { variables = h.variables; world = world; trace = h.trace }))
  element_stored object index at k index_value e w st h m a has_index has range lt =
      subst (λ home'. Went s (alone (stored_at home' index_value e)) k st h (source.with_objects st (put_cell st.objects object index w)) (λ h1. (world : World) × (h1 ≡ record { variables = h.variables; world = world; trace = h.trace }))) (sym a.lives)
      (keep_went s ok a.array index_value e k (kind_at s.layout object) (record { object = object; index = index; at = at }) w w st h m
      (record { array = a.array; object = a.number; lives = a.lives; base_is = a.base_is; kind_is = refl; number_is = ap (object_number s.passed) a.base_is; stores = λ e. a.writable }) has_index (ok.placed.kinds object a.array a.lives) has range range lt)

  -- the values of a list, from an element on
  abbrev Lists : Statements → (k : ℕ) → source.State → State → (end : ℕ) → source.Outcome ℕ → Type 0
  Lists code k st hs end (source.Stopped stop) = Unit {0}
  Lists code k st hs end (source.Fine count st1) = Went s code k st hs st1 (λ h. count ≡ end)

  -- what a list leaves over is 0
  filling_goes : (object shift from k : ℕ) (number : Option ℕ) → IsArrayObject s.layout object → FillingFits rest.bounds (s.layout.sizes object) from number → s.function.variables ≤ k → (st : source.State) (h : State) → MeetsIn s st h → AllWithin s.room (filling (plan_in s rest) (home s.layout object) shift number from k) →
      Went s (filling (plan_in s rest) (home s.layout object) shift number from k) k st h (source.zeros object from st) (λ h1. Unit {0})
  filling_goes object shift from k None a fits le st h m inside =
      let whole : from + 0 ≡ size st.objects object = nothing_more from (s.layout.sizes object) fits ∙ sym (m.world.sizes_are object a.number a.array a.lives a.base_is) in
      zeros_cases (λ st1. Went s End k st h st1 (λ h1. Unit {0})) object from 0 st whole (went_nothing s ok k st h (λ h1. Unit {0}) m tt)
    where
      nothing_more : (a b : ℕ) → a ≡ b → a + 0 ≡ b
      nothing_more a b e = omega (arith, e)
  filling_goes object shift from k (Some number) a fits le st h m inside = of (bounds_at rest.bounds number).max refl fits.0 fits.1 inside.0
    where
      size_is : size st.objects object ≡ s.layout.sizes object
      size_is = m.world.sizes_are object a.number a.array a.lives a.base_is

      at_once : (count : ℕ) → from + suc count ≡ s.layout.sizes object → k < s.room → Went s (filled (home s.layout object) (number - 1 - shift) from (suc count) k) k st h (source.zeros object from st) (λ h1. Unit {0})
      at_once count whole room =
          zeros_cases (λ st1. Went s (filled (home s.layout object) (number - 1 - shift) from (suc count) k) k st h st1 (λ h1. Unit {0})) object from (suc count) st (whole ∙ sym size_is)
          (filled_went s ok object k (from + suc count) le room (subst (λ n. n < 4294967296) (sym whole) fits.2)
          (λ i st1 h1 m1 has lt. element_stored object i 0 k (Variable k) (Constant 0) 0 st1 h1 m1 a has refl (zero_range (kind_at s.layout object)) lt)
          (number - 1 - shift) from count st h m refl (size_is ∙ sym whole))

      of : (count : ℕ) → (bounds_at rest.bounds number).max ≡ count → from + (bounds_at rest.bounds number).max ≡ s.layout.sizes object → 1 ≤ (bounds_at rest.bounds number).max → k < s.room → Went s (filled (home s.layout object) (number - 1 - shift) from (bounds_at rest.bounds number).max k) k st h (source.zeros object from st) (λ h1. Unit {0})
      of zero e whole some room = absurd (none_of (bounds_at rest.bounds number).max e some)
      of (suc count) e whole some room =
          subst (λ n. Went s (filled (home s.layout object) (number - 1 - shift) from n k) k st h (source.zeros object from st) (λ h1. Unit {0})) (sym e)
          (at_once count (ap (λ n. from + n) (sym e) ∙ whole) room)

  -- the values of a list
  listed_goes : (object at k : ℕ) → IsArrayObject s.layout object → s.function.variables ≤ k → (es : tree.Exprs) → FitValues s.layout s.signatures result rest.bounds s.function es (kind_at s.layout object) → (index : ℕ) (st : source.State) (h : State) → MeetsIn s st h → AllWithin s.room (listed (plan_in s rest) (home s.layout object) es index k) →
      Lists (listed (plan_in s rest) (home s.layout object) es index k) k st h (index + count_exprs es) (statements.listed (source_in s rest) s.call es object at index st)
  listed_goes object at k a le tree.NoExpr fit index st h m inside = went_nothing s ok k st h (λ h1. index ≡ index + 0) m (no_more index)
    where
      no_more : (n : ℕ) → n ≡ n + 0
      no_more n = omega arith
  listed_goes object at k a le (tree.WithExpr e es) fit index st h m inside =
      let p = made s.layout.homes Value e k in
      let element = stored_at (home s.layout object) (Constant index) p.value in
      let others = listed (plan_in s rest) (home s.layout object) es (index + 1) k in
      let parts = AllWithin-joined s.room p.code (Then element others) inside in
      of (value s.layout.variables s.call e true st) ((simulates s ok e fit.0.0).by true Value k le st h m parts.0) (λ st1 h1 m1. listed_goes object at k a le es fit.1 (index + 1) st1 h1 m1 parts.1.1)
    where
      regroup : (a b : ℕ) → a + 1 + b ≡ a + (b + 1)
      regroup a b = omega arith

      of_rest : (w : ℕ) (st1 : source.State) (g : Ends s Value (made s.layout.homes Value e k) k st h (range_of s.layout s.signatures e) w st1) (st2 : source.State) (h2 : State) → Reached s k st h st2 h2 →
          ((h3 : State) → run_all Some s.high_call s.passed (listed (plan_in s rest) (home s.layout object) es (index + 1) k) h2 ≡ Goes h3 → run_all Some s.high_call s.passed (listed (plan_in s rest) (home s.layout object) (tree.WithExpr e es) index k) h ≡ Goes h3) →
          (o : source.Outcome ℕ) → Lists (listed (plan_in s rest) (home s.layout object) es (index + 1) k) k st2 h2 (index + 1 + count_exprs es) o → Lists (listed (plan_in s rest) (home s.layout object) (tree.WithExpr e es) index k) k st h (index + (count_exprs es + 1)) o
      of_rest w st1 g st2 h2 r runs (source.Stopped stop) l = tt
      of_rest w st1 g st2 h2 r runs (source.Fine count st3) l = record {
        behind = l.behind;
        runs = runs l.behind l.runs;
        reached = reached_then s ok k st h st2 h2 st3 l.behind r l.reached;
        has = l.has ∙ regroup index (count_exprs es);
      }

      of : (o : source.Outcome ℕ) → Gives s Value (made s.layout.homes Value e k) k st h (range_of s.layout s.signatures e) o →
          ((st1 : source.State) (h1 : State) → MeetsIn s st1 h1 → Lists (listed (plan_in s rest) (home s.layout object) es (index + 1) k) k st1 h1 (index + 1 + count_exprs es) (statements.listed (source_in s rest) s.call es object at (index + 1) st1)) →
          Lists (listed (plan_in s rest) (home s.layout object) (tree.WithExpr e es) index k) k st h (index + (count_exprs es + 1))
          (source.then_do o (λ word st1. source.then_do (source.write (record { object = object; index = index; at = at }) word st1) (λ written st2. statements.listed (source_in s rest) s.call es object at (index + 1) st2)))
      of (source.Stopped stop) g goes = tt
      of (source.Fine w st1) g goes =
          write_cases (λ o. Lists (listed (plan_in s rest) (home s.layout object) (tree.WithExpr e es) index k) k st h (index + (count_exprs es + 1)) (source.then_do o (λ written st2. statements.listed (source_in s rest) s.call es object at (index + 1) st2))) (record { object = object; index = index; at = at }) st1 (λ stop. tt) w
          (λ lt.
          let p = made s.layout.homes Value e k in
          let element = stored_at (home s.layout object) (Constant index) p.value in
          let others = listed (plan_in s rest) (home s.layout object) es (index + 1) k in
          let st2 = source.with_objects st1 (put_cell st1.objects object index w) in
          let stored = element_stored object index at k (Constant index) p.value w st1 g.behind g.reached.meets a refl g.value (suits_range (range_of s.layout s.signatures e) (kind_at s.layout object) w fit.0.1 g.range_is) lt in
          of_rest w st1 g st2 stored.behind (reached_then s ok k st h st1 g.behind st2 stored.behind g.reached stored.reached)
          (λ h3 runs.
          run_all-joined Some s.high_call s.passed p.code (Then element others) h
          ∙ ap (λ o. then_do o (run_all Some s.high_call s.passed (Then element others))) g.runs
          ∙ ap (λ o. then_do o (run_all Some s.high_call s.passed others)) (sym (run_all-alone Some s.high_call s.passed element g.behind) ∙ stored.runs)
          ∙ runs)
          (statements.listed (source_in s rest) s.call es object at (index + 1) st2) (goes st2 stored.behind stored.reached.meets))

  -- an initial value
  initial_does : (initial : tree.Initial) (object at shift : ℕ) → FitInitial s.layout s.signatures result rest.bounds s.function object initial → (k : ℕ) (exits : Exits) → s.function.variables ≤ k → (st : source.State) (h : State) → MeetsIn s st h → AllWithin s.room (initialised (plan_in s rest) (home s.layout object) initial shift k) →
      Does s result exits (initialised (plan_in s rest) (home s.layout object) initial shift k) k st h (statements.initialised (source_in s rest) s.call initial object at st)
  initial_does tree.Absent object at shift fit k exits le st h m inside = nothing_does s ok result exits k st h m
  initial_does (tree.Value e) object at shift fit k exits le st h m inside =
      let p = made s.layout.homes Value e k in
      let parts = AllWithin-joined s.room p.code (alone (stored_at (home s.layout object) (Constant 0) p.value)) inside in
      of (value s.layout.variables s.call e true st) ((simulates s ok e fit.1.0).by true Value k le st h m parts.0) parts.1
    where
      of : (o : source.Outcome ℕ) → Gives s Value (made s.layout.homes Value e k) k st h (range_of s.layout s.signatures e) o → AllWithin s.room (alone (stored_at (home s.layout object) (Constant 0) (made s.layout.homes Value e k).value)) →
          Does s result exits (joined (made s.layout.homes Value e k).code (alone (stored_at (home s.layout object) (Constant 0) (made s.layout.homes Value e k).value))) k st h
          (source.then_do o (λ word st1. source.then_do (source.write (record { object = object; index = 0; at = at }) word st1) (λ written st2. source.Fine Onward st2)))
      of (source.Stopped stop) g within = tt
      of (source.Fine w st1) g within =
          write_cases (λ o. Does s result exits (joined (made s.layout.homes Value e k).code (alone (stored_at (home s.layout object) (Constant 0) (made s.layout.homes Value e k).value))) k st h (source.then_do o (λ written st2. source.Fine Onward st2))) (record { object = object; index = 0; at = at }) st1 (λ stop. tt) w
          (λ lt.
          let p = made s.layout.homes Value e k in
          let st2 = source.with_objects st1 (put_cell st1.objects object 0 w) in
          effect_does s ok result exits k (joined p.code (alone (stored_at (home s.layout object) (Constant 0) p.value))) st h st2 (λ h1. Unit {0})
          (went_at s ok p.code (alone (stored_at (home s.layout object) (Constant 0) p.value)) k st h st1 st2 (HasValue s p.value w) (λ h1. Unit {0}) (record { behind = g.behind; runs = g.runs; reached = g.reached; has = g.value })
          (scalar_stored object at k p.value w st1 g.behind le g.reached.meets fit.0 fit.2 within g.value (suits_range (range_of s.layout s.signatures e) (kind_at s.layout object) w fit.1.1 g.range_is) lt)))
  initial_does (tree.Listed es comma number) object at shift fit k exits le st h m inside =
      let values = listed (plan_in s rest) (home s.layout object) es 0 k in
      let parts = AllWithin-joined s.room values (filling (plan_in s rest) (home s.layout object) shift number (count_exprs es) k) inside in
      of (statements.listed (source_in s rest) s.call es object at 0 st) (listed_goes object at k fit.0 le es fit.1 0 st h m parts.0) parts.1
    where
      from_zero : (n c : ℕ) → c ≡ 0 + n → c ≡ n
      from_zero n c e = omega (arith, e)

      of : (o : source.Outcome ℕ) → Lists (listed (plan_in s rest) (home s.layout object) es 0 k) k st h (0 + count_exprs es) o → AllWithin s.room (filling (plan_in s rest) (home s.layout object) shift number (count_exprs es) k) →
          Does s result exits (joined (listed (plan_in s rest) (home s.layout object) es 0 k) (filling (plan_in s rest) (home s.layout object) shift number (count_exprs es) k)) k st h (source.then_do o (statements.filled object))
      of (source.Stopped stop) l within = tt
      of (source.Fine count st1) l within =
          let values = listed (plan_in s rest) (home s.layout object) es 0 k in
          let zeroed = filling (plan_in s rest) (home s.layout object) shift number (count_exprs es) k in
          let done = filling_goes object shift (count_exprs es) k number fit.0 fit.2 le st1 l.behind l.reached.meets within in
          effect_does s ok result exits k (joined values zeroed) st h (source.zeros object count st1) (λ h1. Unit {0})
          (went_at s ok values zeroed k st h st1 (source.zeros object count st1) (λ h1. count ≡ 0 + count_exprs es) (λ h1. Unit {0}) l
          (subst (λ n. Went s zeroed k st1 l.behind (source.zeros object n st1) (λ h1. Unit {0})) (sym (from_zero (count_exprs es) count l.has)) done))

  -- the objects of a declaration
  objects_do : (objects : List tree.Object) (shift : ℕ) → FitObjects s.layout s.signatures result rest.bounds s.function objects → (k : ℕ) (exits : Exits) → s.function.variables ≤ k → (st : source.State) (h : State) → MeetsIn s st h → AllWithin s.room (all_declared (plan_in s rest) objects shift k) →
      Does s result exits (all_declared (plan_in s rest) objects shift k) k st h (statements.all_declared (source_in s rest) s.call objects st)
  objects_do [] shift fit k exits le st h m inside = nothing_does s ok result exits k st h m
  objects_do (tree.Declared object shape initial at ∷ objects) shift fit k exits le st h m inside =
      let one = initialised (plan_in s rest) (home s.layout object) initial shift k in
      let others = all_declared (plan_in s rest) objects shift k in
      let parts = AllWithin-joined s.room one others inside in
      goes_on s ok result rest exits k one others st h (statements.initialised (source_in s rest) s.call initial object at st) (statements.all_declared (source_in s rest) s.call objects) (initialised_onwards (source_in s rest) s.call initial object at st)
      (initial_does initial object at shift fit.1 k exits le st h m parts.0) (λ st1 h1 m1. objects_do objects shift fit.2 k exits le st1 h1 m1 parts.1)

  pub declares : (declaration : tree.Declaration) (shift : ℕ) → FitDeclaration s.layout s.signatures result rest.bounds s.function declaration → Declares s ok result rest shift declaration
  declares (tree.Objects specifiers objects at) shift fit = record { by = λ k exits le st h m inside. objects_do objects shift fit k exits le st h m inside }
  declares (tree.Prototype specifiers name params at) shift fit = record { by = λ k exits le st h m inside. nothing_does s ok result exits k st h m }

-- what stands first in the head of a `for`, whose objects live within it
module _ (s : Setting) (ok : IsSetting s) (result : Kind) (rest : Rest) (k : ℕ) (exits : Exits) (le : s.function.variables ≤ k) (st : source.State) (h : State) (m : MeetsIn s st h) where
  pub starts_of : (start : tree.ForStart) (inner : IsSetting (in_scope s (start_declares start))) → FitStart s.layout s.signatures result rest.bounds (with_live s.function (start_declares start)) start → AllWithin s.room (started (plan_in s rest) start k) →
      Does (in_scope s (start_declares start)) result exits (started (plan_in s rest) start k) k st h (statements.started (source_in s rest) s.call start st)
  starts_of tree.NoStart inner fit inside = nothing_does (in_scope s (λ o. false)) inner result exits k st h (nothing_more s ok result rest.bounds k h st m)
  starts_of (tree.StartValue e) inner fit inside =
      of (value s.layout.variables s.call e false st) ((simulates (in_scope s (λ o. false)) inner e fit).by false Effect k le st h (nothing_more s ok result rest.bounds k h st m) inside)
    where
      of : (o : source.Outcome ℕ) → Gives (in_scope s (λ o. false)) Effect (made s.layout.homes Effect e k) k st h (range_of s.layout s.signatures e) o → Does (in_scope s (λ o. false)) result exits (made s.layout.homes Effect e k).code k st h (source.then_do o (λ word st1. source.Fine Onward st1))
      of (source.Stopped stop) g = tt
      of (source.Fine v st1) g = record { behind = g.behind; runs = g.runs; reached = g.reached }
  starts_of (tree.StartDeclaration declaration) inner fit inside =
      let within = in_scope s (declares_of declaration) in
      let r = declaration_begun s ok result rest.bounds k h declaration st fit m in
      let code = declared (plan_in s rest) declaration 1 k in
      let begun_state = statements.begun declaration st in
      let o = statements.declared (source_in s rest) s.call declaration begun_state in
      does_behind within inner result exits k code code st h begun_state h r refl o ((declares within inner result rest declaration 1 fit).by k exits le begun_state h r.meets inside)
