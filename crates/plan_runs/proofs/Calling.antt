-- Calls and their arguments.
use Rattle.std.proofs.Common.{◌≡◌, ℕ, ◌+◌, ◌%◌, ◌<◌, ◌≤◌, Bool, true, false, not, List, [], ◌∷◌, ◌++◌, length, Option, Some, None, refl, sym, ap, ◌∙◌, subst, arith}
use Rattle.std.specs.Prelude.{◌&&◌, slice_get, slice_index_or, slice_set, unwrap_or}
use Rattle.std.proofs.lemmas.Bool.{lt-ltb, true≢false}
use Rattle.std.proofs.lemmas.List.{get_or-set_same, get_or-set_other}
use Rattle.std.proofs.lemmas.Option.{none-some, unwrap_or-slice_get}
use Rattle.meaning_semantics.specs.State as source
use Rattle.meaning_semantics.specs.Runs.{or_zero}
use Rattle.meaning_semantics.specs.Values as values
use Rattle.types_tree.specs.declared.expression.Callee.{Callee}
use Rattle.types_tree.specs.declared.expression.Callee.TheVariants.{Getchar, Putchar, Function as Own}
use Rattle.types_tree.specs.declared.expression.FunctionId.{FunctionId}
use Rattle.types_value.specs.declared.kind.Kind.TheVariants.{Char}
use Rattle.high_ir.specs.declared.object.Base.{Base}
use Rattle.high_ir.specs.declared.object.Kind.{Kind}
use Rattle.high_ir.specs.declared.object.Kind.TheVariants.{Word}
use Rattle.high_ir.specs.Tree.{Expr, Variable, Put, Get, Call, Statements, End}
use Rattle.high_ir.specs.Meaning.{World, Variables, State, Goes, at_value, only_if, value_of, values_of, object_number, objects_of, with_value, set_world, put, got, next_byte, after_byte, after_call, taken, run}
use Rattle.high_ir.specs.Words.{converted}
use Rattle.high_code.specs.Code.{joined, alone, is_empty, AllWithin}
use Rattle.high_code.proofs.Joined.{run_all-alone, AllWithin-joined}
use Rattle.plan_definition.specs.declared.home.Home.{Home}
use Rattle.plan_definition.specs.declared.home.Home.TheVariants.{Frame, Memory}
use Rattle.plan_definition.specs.declared.purpose.Purpose.{Purpose}
use Rattle.plan_definition.specs.declared.purpose.Purpose.TheVariants.{Value, Effect, Unless, When}
use Rattle.plan_definition.specs.Homes.{array_at}
use Rattle.plan_definition.specs.Operators.{convert}
use Rattle.plan_definition.specs.Values.{Valued, Passing, finished, is_changed, is_leaf, kept, leaf, only_code, first_value, put as put_code, called, argument}
use Rattle.plan_runs.specs.Cells.{Cells, cell}
use Rattle.plan_runs.specs.Meets.{home, kind_at, is_own, is_passed_base, IsArray, MeetsFrame, Untouched}
use Rattle.plan_runs.specs.ExpressionFits.{Formal, OfWord, OfArray, Suits, IsArrayHome, IsArgument, IsCallable, call_kind, parameters_of}
use Rattle.plan_runs.specs.Claims.{Setting, IsSetting, Handed, Answers, GivesBack, MeetsIn, Went, HasValue, Ends, Gives, PassedOn, Passes}
use Rattle.plan_runs.proofs.Stores.{alike, put_variable, temporary_meets}
use Rattle.plan_runs.proofs.Operators.{converted-Word, value_of-convert}
use Rattle.plan_runs.proofs.Holding.{untouched_same, went_below, went_with, went_nothing, went_at, went_then, within_held, held_went, stable_empty, kept_stable, leaf_anywhere}
use Rattle.plan_runs.proofs.Finishing.{within_finished, ended, ended_Effect, went, finished_gives, value_gives}
use Rattle.plan_runs.proofs.Places.{named_cases}
use Rattle.plan_runs.proofs.Changes.{suits_range}

-- objects that are as they were have the same words
pub cell-same : (a b : Cells) (o i : ℕ) → slice_get b o ≡ slice_get a o → cell b o i ≡ cell a o i
cell-same a b o i same = ap (λ row. slice_index_or row i None) (sym (unwrap_or-slice_get b o []) ∙ ap (λ r. unwrap_or r []) same ∙ unwrap_or-slice_get a o [])

abbrev is_none : Option (List ℕ) → Bool
is_none None = true
is_none (Some []) = true
is_none (Some (x ∷ xs)) = false

abbrev head_or : ℕ → Option (List ℕ) → ℕ
head_or d None = d
head_or d (Some []) = d
head_or d (Some (x ∷ xs)) = x

-- a value that stands first
first_is : (passed : List ℕ) (vars : Variables) (w : World) (es : List Expr) (v : ℕ) (vs : List ℕ) → values_of passed vars w es ≡ Some (v ∷ vs) → value_of passed vars w (first_value es) ≡ Some v
first_is passed vars w [] v vs is = absurd (true≢false (ap is_none is))
first_is passed vars w (e ∷ es) v vs is = of (value_of passed vars w e) (values_of passed vars w es) is
  where
    of : (o : Option ℕ) (os : Option (List ℕ)) → at_value o (λ x. at_value os (λ xs. Some (x ∷ xs))) ≡ Some (v ∷ vs) → o ≡ Some v
    of None os e = absurd (none-some (v ∷ vs) e)
    of (Some x) None e = absurd (none-some (v ∷ vs) e)
    of (Some x) (Some xs) e = ap (λ r. Some (head_or 0 r)) e

next_same : (input : List ℕ) → next_byte input ≡ source.next_byte input
next_same [] = refl
next_same (byte ∷ rest) = refl

after_same : (input : List ℕ) → after_byte input ≡ source.after_byte input
after_same [] = refl
after_same (byte ∷ rest) = refl

module _ (s : Setting) (ok : IsSetting s) where
  pub named_kind : (object : ℕ) → IsArrayHome s.layout s.function object (home s.layout object) → (array_at (home s.layout object)).kind ≡ kind_at s.layout object
  named_kind object fit = of (home s.layout object) refl fit
    where
      of : (h : Home) → home s.layout object ≡ h → IsArrayHome s.layout s.function object h → (array_at h).kind ≡ kind_at s.layout object
      of (Frame x) is fits = absurd fits
      of (Memory a) is fits = ok.placed.kinds object a is

  no_object : (k n : ℕ) → s.function.variables ≤ k → k < s.function.variables → ⊥
  no_object k n from lt = omega (arith, from, lt)

  free : (k : ℕ) → s.function.variables ≤ k → (o : ℕ) → home s.layout o ≡ Frame k → s.function.live o ≡ true → ⊥
  free k le o here own = no_object k 0 le (ok.below o k here own)

  -- a byte of the input
  get_went : (k : ℕ) (st : source.State) (h : State) → s.function.variables ≤ k → k < s.room → MeetsIn s st h → Went s (alone (Get k)) k st h (source.with_input st (source.after_byte st.input)) (HasValue s (Variable k) (source.next_byte st.input))
  get_went k st h le room m =
      let v = next_byte h.world.input in
      let lt : k < length h.variables = subst (λ n. k < n) (sym m.room_is) room in
      let t = temporary_meets s.layout ok.placed s.function.live (alike s ok) s.passed s.room st h m k v (free k le) in
      record {
        behind = record { variables = slice_set h.variables k (Some v); world = got h.world; trace = h.trace };
        runs = run_all-alone Some s.high_call s.passed (Get k) h ∙ ap (λ b. with_value (only_if b (Some (slice_set h.variables k (Some v)))) (λ vs. Goes (record { variables = vs; world = got h.world; trace = h.trace }))) (lt-ltb k (length h.variables) lt);
        reached = record {
          meets = record {
            world = record { input = after_same h.world.input ∙ ap source.after_byte m.world.input; output = m.world.output; counts = m.world.counts; marks_are = m.world.marks_are; memory = m.world.memory; sizes_are = m.world.sizes_are; ranged = m.world.ranged };
            frame = t.frame;
            room_is = t.room_is;
          };
          keeps = λ j from below. get_or-set_other h.variables k j (Some v) None (λ same. absurd (omega (arith, same, below)));
          untouched = untouched_same s.layout (s.layout.rank s.function.number) st.objects;
        };
        has = get_or-set_same h.variables k (Some v) None lt ∙ ap Some (next_same h.world.input ∙ ap source.next_byte m.world.input);
      }

  -- a byte of the output
  put_went : (e : Expr) (w k : ℕ) (st : source.State) (h : State) → MeetsIn s st h → HasValue s e w h → Went s (alone (Put e)) k st h (source.with_output st (st.output ++ w % 256 ∷ [])) (λ h1. (world : World) × (h1 ≡ record { variables = h.variables; world = world; trace = h.trace }))
  put_went e w k st h m is = record {
    behind = record { variables = h.variables; world = put h.world w; trace = h.trace };
    runs = run_all-alone Some s.high_call s.passed (Put e) h ∙ ap (λ o. with_value o (λ v. set_world h (put h.world v))) is;
    reached = record {
      meets = record {
        world = record { input = m.world.input; output = ap (λ o. o ++ w % 256 ∷ []) m.world.output; counts = m.world.counts; marks_are = m.world.marks_are; memory = m.world.memory; sizes_are = m.world.sizes_are; ranged = m.world.ranged };
        frame = m.frame;
        room_is = m.room_is;
      };
      keeps = λ j from below. refl;
      untouched = untouched_same s.layout (s.layout.rank s.function.number) st.objects;
    };
    has = (put h.world w, refl);
  }

  -- a frame where a function of a lower rank was called
  frame_behind : (g : ℕ) (st st1 : source.State) (vars : Variables) → s.layout.rank g < s.layout.rank s.function.number → Untouched s.layout (s.layout.rank g) st.objects st1.objects → MeetsFrame s.layout s.function.live s.passed st.objects vars → MeetsFrame s.layout s.function.live s.passed st1.objects vars
  frame_behind g st st1 vars lower u m = record {
    words = λ o x w here own holds. m.words o x w here own (sym (cell-same st.objects st1.objects o 0 (u.by o (ap is_own here) (subst (λ f. s.layout.rank g < s.layout.rank f) (sym (ok.owned o own)) lower))) ∙ holds);
    passes = λ o j q a here base own holds. m.passes o j q a here base own (sym (cell-same st.objects st1.objects o 0 (u.by o (ap is_own here ∙ ap is_passed_base base) (subst (λ f. s.layout.rank g < s.layout.rank f) (sym (ok.owned o own)) lower))) ∙ holds);
  }

  untouched_above : (g : ℕ) (st st1 : source.State) → s.layout.rank g < s.layout.rank s.function.number → Untouched s.layout (s.layout.rank g) st.objects st1.objects → Untouched s.layout (s.layout.rank s.function.number) st.objects st1.objects
  untouched_above g st st1 lower u = record { by = λ o own above. u.by o own (omega (arith, lower, above)) }

  -- a call, into a temporary or none
  module _ (g k : ℕ) (es : List Expr) (bs : List Base) (vs ns : List ℕ) (st : source.State) (h : State) (result : Option ℕ) (st1 : source.State) (m : MeetsIn s st h) (lower : s.layout.rank g < s.layout.rank s.function.number)
      (values_are : values_of s.passed h.variables h.world es ≡ Some vs) (arrays_are : objects_of s.passed bs ≡ Some ns) (a : Answers s.layout (s.layout.rank g) (s.signatures.results g) st result st1 (s.high_call g vs ns h.world h.trace)) where
    call_runs : (into : Option ℕ) → run Some s.high_call s.passed (Call g es bs into) h ≡ with_value (taken h.variables into a.given.value) (λ xs. Goes (record { variables = xs; world = a.given.world; trace = a.given.trace }))
    call_runs into =
        ap (λ o. with_value o (λ xs. with_value (objects_of s.passed bs) (λ ys. after_call h.variables into (s.high_call g xs ys h.world h.trace)))) values_are
        ∙ ap (λ o. with_value o (λ ys. after_call h.variables into (s.high_call g vs ys h.world h.trace))) arrays_are
        ∙ ap (after_call h.variables into) a.runs

    call_effect : Went s (alone (Call g es bs None)) k st h st1 (λ h1. Unit {0})
    call_effect = record {
      behind = record { variables = h.variables; world = a.given.world; trace = a.given.trace };
      runs = run_all-alone Some s.high_call s.passed (Call g es bs None) h ∙ call_runs None;
      reached = record {
        meets = record { world = a.meets; frame = frame_behind g st st1 h.variables lower a.untouched m.frame; room_is = m.room_is };
        keeps = λ j from below. refl;
        untouched = untouched_above g st st1 lower a.untouched;
      };
      has = tt;
    }

    call_value : s.function.variables ≤ k → k < s.room → Went s (alone (Call g es bs (Some k))) k st h st1 (HasValue s (Variable k) (or_zero result))
    call_value le room =
        let v = a.given.value in
        let lt : k < length h.variables = subst (λ n. k < n) (sym m.room_is) room in
        let inner : MeetsIn s st1 (record { variables = h.variables; world = a.given.world; trace = a.given.trace }) = record { world = a.meets; frame = frame_behind g st st1 h.variables lower a.untouched m.frame; room_is = m.room_is } in
        record {
          behind = put_variable (record { variables = h.variables; world = a.given.world; trace = a.given.trace }) k v;
          runs = run_all-alone Some s.high_call s.passed (Call g es bs (Some k)) h ∙ call_runs (Some k)
              ∙ ap (λ b. with_value (only_if b (Some (slice_set h.variables k (Some v)))) (λ xs. Goes (record { variables = xs; world = a.given.world; trace = a.given.trace }))) (lt-ltb k (length h.variables) lt);
          reached = record {
            meets = temporary_meets s.layout ok.placed s.function.live (alike s ok) s.passed s.room st1 (record { variables = h.variables; world = a.given.world; trace = a.given.trace }) inner k v (free k le);
            keeps = λ j from below. get_or-set_other h.variables k j (Some v) None (λ same. absurd (omega (arith, same, below)));
            untouched = untouched_above g st st1 lower a.untouched;
          };
          has = get_or-set_same h.variables k (Some v) None lt ∙ ap Some a.value;
        }

  module _ (k : ℕ) (le : s.function.variables ≤ k) (st : source.State) (hs : State) where
    get_gives : (purpose : Purpose) (p : Passing) (used : Bool) (at : ℕ) (o : source.Outcome (List ℕ)) → AllWithin s.room (joined p.code (alone (Get k))) → (AllWithin s.room p.code → Passes s [] p k st hs o) →
        Gives s purpose (finished purpose (record { code = joined p.code (alone (Get k)); value = Variable k })) k st hs Word (source.then_do (source.then_do o (values.called s.call Getchar at)) (source.needed used at))
    get_gives purpose p used at (source.Stopped stop) within passes = tt
    get_gives purpose p used at (source.Fine words st1) within passes =
        let parts = AllWithin-joined s.room p.code (alone (Get k)) within in
        let st2 = source.with_input st1 (source.after_byte st1.input) in
        value_gives s k st hs Word purpose (record { code = joined p.code (alone (Get k)); value = Variable k }) (source.next_byte st1.input) st2
        (went_then s ok p.code (alone (Get k)) k st hs st1 st2 (PassedOn s [] p words) (HasValue s (Variable k) (source.next_byte st1.input)) (passes parts.0) (λ h m has. get_went k st1 h le parts.1.0 m))
        (converted-Word (source.next_byte st1.input))

    -- the one word that is put
    put_word : (p : Passing) (words : List ℕ) (h : State) → PassedOn s (OfWord Word ∷ []) p words h → HasValue s (first_value p.values) (slice_index_or words 0 0) h
    put_word p words h passed = of words passed.vs passed.values_are passed.handed
      where
        of : (words vs : List ℕ) → values_of s.passed h.variables h.world p.values ≡ Some vs → Handed s.layout (OfWord Word ∷ []) words vs passed.ns → HasValue s (first_value p.values) (slice_index_or words 0 0) h
        of [] vs is handed = absurd handed
        of (w ∷ words) vs is handed = first_is s.passed h.variables h.world p.values w handed.0 (is ∙ ap Some handed.1)

    put_effect : (p : Passing) (at : ℕ) (used : Bool) (o : source.Outcome (List ℕ)) → AllWithin s.room (joined p.code (alone (Put (first_value p.values)))) → (AllWithin s.room p.code → Passes s (OfWord Word ∷ []) p k st hs o) →
        Gives s Effect (only_code (joined p.code (alone (Put (first_value p.values))))) k st hs Word (source.then_do (source.then_do o (values.called s.call Putchar at)) (source.needed used at))
    put_effect p at used (source.Stopped stop) within passes = tt
    put_effect p at used (source.Fine words st1) within passes =
        let parts = AllWithin-joined s.room p.code (alone (Put (first_value p.values))) within in
        let w = slice_index_or words 0 0 in
        let st2 = source.with_output st1 (st1.output ++ w % 256 ∷ []) in
        ended_Effect s k st hs Word (only_code (joined p.code (alone (Put (first_value p.values))))) (w % 256) st2 (λ h. Unit {0})
        (went_then s ok p.code (alone (Put (first_value p.values))) k st hs st1 st2 (PassedOn s (OfWord Word ∷ []) p words) (λ h. Unit {0}) (passes parts.0)
        (λ h m has. went_with s ok (alone (Put (first_value p.values))) k st1 h st2 (λ h1. (world : World) × (h1 ≡ record { variables = h.variables; world = world; trace = h.trace })) (λ h. Unit {0}) (put_went (first_value p.values) w k st1 h m (put_word p words h has)) (λ h1 e. tt)))
        (converted-Word (w % 256))

    put_value : (p : Passing) (at : ℕ) (used : Bool) (o : source.Outcome (List ℕ)) →
        AllWithin s.room (put_code Value k (record { code = p.code; value = first_value p.values })).code → (AllWithin s.room p.code → Passes s (OfWord Word ∷ []) p k st hs o) →
        Gives s Value (put_code Value k (record { code = p.code; value = first_value p.values })) k st hs Word (source.then_do (source.then_do o (values.called s.call Putchar at)) (source.needed used at))
    put_value p at used (source.Stopped stop) within passes = tt
    put_value p at used (source.Fine words st1) within passes =
        let q : Valued = record { code = p.code; value = first_value p.values } in
        let l = leaf k q in
        let all = AllWithin-joined s.room l.code (alone (Put l.value)) within in
        let parts = within_held s ok (not (is_leaf q.value)) k q End all.0 in
        let w = slice_index_or words 0 0 in
        let st2 = source.with_output st1 (st1.output ++ w % 256 ∷ []) in
        ended s k st hs Word (put_code Value k q) (w % 256) st2
        (went_then s ok l.code (alone (Put l.value)) k st hs st1 st2 (λ h. HasValue s l.value w h × Unit {0}) (HasValue s (convert Char l.value) (w % 256))
        (held_went s ok (not (is_leaf q.value)) k q End st hs st1 st1 w (λ h. Unit {0}) le parts.2
        (went_with s ok p.code k st hs st1 (PassedOn s (OfWord Word ∷ []) p words) (HasValue s q.value w) (passes parts.0) (λ h has. put_word p words h has))
        (λ h m. went_nothing s ok (k + 1) st1 h (λ h. Unit {0}) m tt) (λ e. stable_empty s ok q.value w End refl))
        (λ h m has.
        went_with s ok (alone (Put l.value)) k st1 h st2 (λ h1. (world : World) × (h1 ≡ record { variables = h.variables; world = world; trace = h.trace })) (HasValue s (convert Char l.value) (w % 256))
        (put_went l.value w k st1 h m has.0)
        (λ h1 e. subst (HasValue s (convert Char l.value) (w % 256)) (sym e.1) (value_of-convert s.passed h.variables e.0 Char l.value w (leaf_anywhere s ok k q w h e.0 h.trace has.0)))))
        (converted-Word (w % 256))

    -- code that comes to a value of a kind
    abbrev Called : Kind → Statements → (ℕ → State → Type 0) → source.Outcome ℕ → Type 0
    Called range code P (source.Stopped stop) = Unit {0}
    Called range code P (source.Fine v st1) = Went s code k st hs st1 (P v) × (converted range v ≡ v)

    -- a call of a function
    call_comes : (g : FunctionId) (p : Passing) (at : ℕ) (used : Bool) (into : Option ℕ) (P : ℕ → State → Type 0) → s.function.callable g.0 ≡ true →
        ((vs ns : List ℕ) (st1 : source.State) (h : State) (result : Option ℕ) (st2 : source.State) → MeetsIn s st1 h → values_of s.passed h.variables h.world p.values ≡ Some vs → objects_of s.passed p.arrays ≡ Some ns →
        Answers s.layout (s.layout.rank g.0) (s.signatures.results g.0) st1 result st2 (s.high_call g.0 vs ns h.world h.trace) → Went s (alone (Call g.0 p.values p.arrays into)) k st1 h st2 (P (or_zero result))) →
        (o : source.Outcome (List ℕ)) → Passes s (s.signatures.parameters g.0) p k st hs o →
        Called (s.signatures.results g.0) (joined p.code (alone (Call g.0 p.values p.arrays into))) P (source.then_do (source.then_do o (values.called s.call (Own g) at)) (source.needed used at))
    call_comes g p at used into P callable step (source.Stopped stop) passes = tt
    call_comes g p at used into P callable step (source.Fine words st1) passes =
        let h = passes.behind in
        let b = passes.has in
        of (s.call g.0 words at st1) (ok.calls.by g.0 at words b.vs b.ns st1 h.world h.trace (ok.falls g.0 callable) b.handed passes.reached.meets.world)
      where
        came : (result : Option ℕ) (st2 : source.State) → Answers s.layout (s.layout.rank g.0) (s.signatures.results g.0) st1 result st2 (s.high_call g.0 passes.has.vs passes.has.ns passes.behind.world passes.behind.trace) →
            Went s (joined p.code (alone (Call g.0 p.values p.arrays into))) k st hs st2 (P (or_zero result)) × (converted (s.signatures.results g.0) (or_zero result) ≡ or_zero result)
        came result st2 a = (
          went_at s ok p.code (alone (Call g.0 p.values p.arrays into)) k st hs st1 st2 (PassedOn s (s.signatures.parameters g.0) p words) (P (or_zero result)) passes
              (step passes.has.vs passes.has.ns st1 passes.behind result st2 passes.reached.meets passes.has.values_are passes.has.arrays_are a),
          ap (converted (s.signatures.results g.0)) (sym a.value) ∙ a.range_is ∙ a.value,
        )

        of_none : (used : Bool) (st2 : source.State) → Answers s.layout (s.layout.rank g.0) (s.signatures.results g.0) st1 None st2 (s.high_call g.0 passes.has.vs passes.has.ns passes.behind.world passes.behind.trace) →
            Called (s.signatures.results g.0) (joined p.code (alone (Call g.0 p.values p.arrays into))) P (source.needed used at None st2)
        of_none true st2 a = tt
        of_none false st2 a = came None st2 a

        of : (o : source.Outcome (Option ℕ)) → GivesBack s.layout (s.layout.rank g.0) (s.signatures.results g.0) st1 o (s.high_call g.0 passes.has.vs passes.has.ns passes.behind.world passes.behind.trace) →
            Called (s.signatures.results g.0) (joined p.code (alone (Call g.0 p.values p.arrays into))) P (source.then_do o (source.needed used at))
        of (source.Stopped stop) a = tt
        of (source.Fine (Some w) st2) a = came (Some w) st2 a
        of (source.Fine None st2) a = of_none used st2 a

    called_value : (purpose : Purpose) (range : Kind) (code : Statements) (o : source.Outcome ℕ) → Called range code (λ v h. HasValue s (Variable k) v h) o → Gives s purpose (finished purpose (record { code = code; value = Variable k })) k st hs range o
    called_value purpose range code (source.Stopped stop) w = tt
    called_value purpose range code (source.Fine v st1) w = value_gives s k st hs range purpose (record { code = code; value = Variable k }) v st1 w.0 w.1

    called_effect : (range : Kind) (code : Statements) (o : source.Outcome ℕ) → Called range code (λ v h. Unit {0}) o → Gives s Effect (only_code code) k st hs range o
    called_effect range code (source.Stopped stop) w = tt
    called_effect range code (source.Fine v st1) w = ended_Effect s k st hs range (only_code code) v st1 (λ h. Unit {0}) w.0 w.1

    -- a call whose value is asked for
    own_value : (purpose : Purpose) (g : FunctionId) (p : Passing) (at : ℕ) (used : Bool) (o : source.Outcome (List ℕ)) → s.function.callable g.0 ≡ true → AllWithin s.room (joined p.code (alone (Call g.0 p.values p.arrays (Some k)))) → (AllWithin s.room p.code → Passes s (s.signatures.parameters g.0) p k st hs o) →
        Gives s purpose (finished purpose (record { code = joined p.code (alone (Call g.0 p.values p.arrays (Some k))); value = Variable k })) k st hs (s.signatures.results g.0) (source.then_do (source.then_do o (values.called s.call (Own g) at)) (source.needed used at))
    own_value purpose g p at used o callable within passes =
        let parts = AllWithin-joined s.room p.code (alone (Call g.0 p.values p.arrays (Some k))) within in
        called_value purpose (s.signatures.results g.0) (joined p.code (alone (Call g.0 p.values p.arrays (Some k)))) (source.then_do (source.then_do o (values.called s.call (Own g) at)) (source.needed used at))
        (call_comes g p at used (Some k) (λ v h. HasValue s (Variable k) v h) callable
        (λ vs ns st1 h result st2 m values_are arrays_are a. call_value g.0 k p.values p.arrays vs ns st1 h result st2 m (ok.falls g.0 callable) values_are arrays_are a le parts.1.0) o (passes parts.0))

    own_effect : (g : FunctionId) (p : Passing) (at : ℕ) (used : Bool) (o : source.Outcome (List ℕ)) → s.function.callable g.0 ≡ true → AllWithin s.room (joined p.code (alone (Call g.0 p.values p.arrays None))) → (AllWithin s.room p.code → Passes s (s.signatures.parameters g.0) p k st hs o) →
        Gives s Effect (only_code (joined p.code (alone (Call g.0 p.values p.arrays None)))) k st hs (s.signatures.results g.0) (source.then_do (source.then_do o (values.called s.call (Own g) at)) (source.needed used at))
    own_effect g p at used o callable within passes =
        let parts = AllWithin-joined s.room p.code (alone (Call g.0 p.values p.arrays None)) within in
        called_effect (s.signatures.results g.0) (joined p.code (alone (Call g.0 p.values p.arrays None))) (source.then_do (source.then_do o (values.called s.call (Own g) at)) (source.needed used at))
        (call_comes g p at used None (λ v h. Unit {0}) callable
        (λ vs ns st1 h result st2 m values_are arrays_are a. call_effect g.0 k p.values p.arrays vs ns st1 h result st2 m (ok.falls g.0 callable) values_are arrays_are a) o (passes parts.0))

    pub called_gives : (purpose : Purpose) (callee : Callee) (p : Passing) (at : ℕ) (used : Bool) (o : source.Outcome (List ℕ)) → IsCallable s.function callee → AllWithin s.room (finished purpose (called purpose callee k p)).code → (AllWithin s.room p.code → Passes s (parameters_of s.signatures callee) p k st hs o) →
        Gives s purpose (finished purpose (called purpose callee k p)) k st hs (call_kind s.signatures callee) (source.then_do (source.then_do o (values.called s.call callee at)) (source.needed used at))
    called_gives purpose Getchar p at used o callable within passes = get_gives purpose p used at o (within_finished s.room purpose (called purpose Getchar k p) within) passes
    called_gives Effect Putchar p at used o callable within passes = put_effect p at used o within passes
    called_gives Value Putchar p at used o callable within passes = put_value p at used o within passes
    called_gives (Unless depth) Putchar p at used o callable within passes =
        finished_gives s k st hs Word (Unless depth) (put_code Value k (record { code = p.code; value = first_value p.values })) (source.then_do (source.then_do o (values.called s.call Putchar at)) (source.needed used at))
        (put_value p at used o (within_finished s.room (Unless depth) (put_code Value k (record { code = p.code; value = first_value p.values })) within) passes)
    called_gives (When depth) Putchar p at used o callable within passes =
        finished_gives s k st hs Word (When depth) (put_code Value k (record { code = p.code; value = first_value p.values })) (source.then_do (source.then_do o (values.called s.call Putchar at)) (source.needed used at))
        (put_value p at used o (within_finished s.room (When depth) (put_code Value k (record { code = p.code; value = first_value p.values })) within) passes)
    called_gives Effect (Own g) p at used o callable within passes = own_effect g p at used o callable within passes
    called_gives Value (Own g) p at used o callable within passes = own_value Value g p at used o callable within passes
    called_gives (Unless depth) (Own g) p at used o callable within passes =
        own_value (Unless depth) g p at used o callable (within_finished s.room (Unless depth) (record { code = joined p.code (alone (Call g.0 p.values p.arrays (Some k))); value = Variable k }) within) passes
    called_gives (When depth) (Own g) p at used o callable within passes =
        own_value (When depth) g p at used o callable (within_finished s.room (When depth) (record { code = joined p.code (alone (Call g.0 p.values p.arrays (Some k))); value = Variable k }) within) passes

    -- an argument that is a word, before others
    pub argument_word : (kind : Kind) (formals : List Formal) (p : Valued) (r : Passing) (range : Kind) (o : source.Outcome ℕ) (go : source.State → source.Outcome (List ℕ)) → AllWithin s.room (argument s.layout.homes None k p r).code → Suits range kind → (AllWithin s.room p.code → Gives s Value p k st hs range o) →
        (AllWithin s.room r.code → (st1 : source.State) (h : State) → MeetsIn s st1 h → Passes s formals r (k + 1) st1 h (go st1)) →
        Passes s (OfWord kind ∷ formals) (argument s.layout.homes None k p r) k st hs (source.then_do o (λ word st1. source.then_do (go st1) (λ words st2. source.Fine (word ∷ words) st2)))
    argument_word kind formals p r range o go within suits first rest =
        let needed = not (is_empty r.code) && is_changed p.value r.code in
        let parts = within_held s ok needed k p r.code within in
        of_first o (first parts.0) parts.2 (rest parts.1)
      where
        of_rest : (w : ℕ) (st1 : source.State) (o : source.Outcome (List ℕ)) → Ends s Value p k st hs range w st1 → ((not (is_empty r.code) && is_changed p.value r.code) ≡ true → k < s.room) → ((h : State) → MeetsIn s st1 h → Passes s formals r (k + 1) st1 h o) →
            Passes s (OfWord kind ∷ formals) (argument s.layout.homes None k p r) k st hs (source.then_do o (λ words st2. source.Fine (w ∷ words) st2))
        of_rest w st1 (source.Stopped stop) e room second = tt
        of_rest w st1 (source.Fine words st2) e room second =
            let q = kept k p r.code in
            went_with s ok q.code k st hs st2 (λ h. HasValue s q.value w h × PassedOn s formals r words h) (PassedOn s (OfWord kind ∷ formals) (argument s.layout.homes None k p r) (w ∷ words))
            (held_went s ok (not (is_empty r.code) && is_changed p.value r.code) k p r.code st hs st1 st2 w (PassedOn s formals r words) le room (went s k st hs range p w st1 e) second (kept_stable s ok k p w r.code))
            (λ h has. record {
              vs = w ∷ has.1.vs;
              ns = has.1.ns;
              values_are =
                  ap (λ o. at_value o (λ v. at_value (values_of s.passed h.variables h.world r.values) (λ vs. Some (v ∷ vs)))) has.0
                  ∙ ap (λ o. at_value o (λ vs. Some (w ∷ vs))) has.1.values_are;
              arrays_are = has.1.arrays_are;
              handed = (has.1.vs, refl, suits_range range kind w suits e.range_is, has.1.handed);
            })

        of_first : (o : source.Outcome ℕ) → Gives s Value p k st hs range o → ((not (is_empty r.code) && is_changed p.value r.code) ≡ true → k < s.room) → ((st1 : source.State) (h : State) → MeetsIn s st1 h → Passes s formals r (k + 1) st1 h (go st1)) →
            Passes s (OfWord kind ∷ formals) (argument s.layout.homes None k p r) k st hs (source.then_do o (λ word st1. source.then_do (go st1) (λ words st2. source.Fine (word ∷ words) st2)))
        of_first (source.Stopped stop) g room second = tt
        of_first (source.Fine w st1) g room second = of_rest w st1 (go st1) g room (second st1)

    -- an argument that is an array
    pub argument_array : (object at : ℕ) (kind : Kind) (constant : Bool) (formals : List Formal) (p : Valued) (r : Passing) (go : source.State → source.Outcome (List ℕ)) → MeetsIn s st hs → IsArgument s.layout s.function (Some object) kind constant → Passes s formals r (k + 1) st hs (go st) →
        Passes s (OfArray kind constant ∷ formals) (argument s.layout.homes (Some object) k p r) k st hs (source.then_do (source.array_number s.layout.variables object at st) (λ word st1. source.then_do (go st1) (λ words st2. source.Fine (word ∷ words) st2)))
    argument_array object at kind constant formals p r go m fit rest =
        named_cases s ok (λ o. Passes s (OfArray kind constant ∷ formals) (argument s.layout.homes (Some object) k p r) k st hs (source.then_do o (λ word st1. source.then_do (go st1) (λ words st2. source.Fine (word ∷ words) st2)))) object at st hs m fit.0 (λ stop. tt)
        (λ q a. of q a (go st) rest)
      where
        of : (q : ℕ) → IsArray s.layout q (array_at (home s.layout object)).kind (s.layout.constant object) (object_number s.passed (array_at (home s.layout object)).base) → (o : source.Outcome (List ℕ)) → Passes s formals r (k + 1) st hs o →
            Passes s (OfArray kind constant ∷ formals) (argument s.layout.homes (Some object) k p r) k st hs (source.then_do o (λ words st2. source.Fine (q ∷ words) st2))
        of q a (source.Stopped stop) w = tt
        of q a (source.Fine words st2) w =
            went_below s ok k (k + 1) r.code st hs st2 (PassedOn s (OfArray kind constant ∷ formals) (argument s.layout.homes (Some object) k p r) (q ∷ words)) (omega arith)
            (went_with s ok r.code (k + 1) st hs st2 (PassedOn s formals r words) (PassedOn s (OfArray kind constant ∷ formals) (argument s.layout.homes (Some object) k p r) (q ∷ words)) w
            (λ h has. record {
              vs = has.vs;
              ns = a.object ∷ has.ns;
              values_are = has.values_are;
              arrays_are =
                  ap (λ o. at_value o (λ n. at_value (objects_of s.passed r.arrays) (λ ns. Some (n ∷ ns)))) a.number_is
                  ∙ ap (λ o. at_value o (λ ns. Some (a.object ∷ ns))) has.arrays_are;
              handed = (a.object, has.ns, refl, record { array = a.array; object = a.object; lives = a.lives; base_is = a.base_is; kind_is = a.kind_is ∙ named_kind object fit.0 ∙ fit.1; number_is = refl; stores = λ writable. a.stores (fit.2 writable) }, has.handed);
            }))

    pub no_arguments : MeetsIn s st hs → Passes s [] (record { code = End; values = []; arrays = [] }) k st hs (source.Fine [] st)
    no_arguments m = went_nothing s ok k st hs (PassedOn s [] (record { code = End; values = []; arrays = [] }) []) m (record { vs = []; ns = []; values_are = refl; arrays_are = refl; handed = (refl, refl) })
