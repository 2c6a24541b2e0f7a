-- Behind the initial values of file level a source and its high program are alike.
use Rattle.std.proofs.Common.{◌≡◌, ⊎_elim, refl, ap, ◌∙◌, sym, subst, ℕ, ◌+◌, ◌<◌, ◌≤◌, zero, suc, Bool, false, List, [], ◌∷◌, drop, length, map, replicate, take, Option, Some, None, arith, add-zero, zero-add, length-append}
use Rattle.std.specs.Prelude.{◌&&◌, ◌||◌, not, slice_get}
use Rattle.std.specs.List.{list_any}
use Rattle.std.proofs.Math.Seq.{take-append_seam}
use Rattle.std.proofs.lemmas.Bool.{cases_eq, cases_lt, or_parts}
use Rattle.std.proofs.lemmas.List.{length-map}
use Rattle.std.proofs.lemmas.Option.{none-some, same_Some, slice_get_past, slice_get_within}
use Rattle.facts_definitions.specs.declared.facts.Facts.{Facts}
use Rattle.meaning_semantics.specs.Runs as runs
use Rattle.meaning_semantics.specs.State.{State, Outcome, Fine, Stopped, then_do}
use Rattle.meaning_semantics.specs.Statements.{Source, all_declared, declared, initialised, object_declared}
use Rattle.meaning_semantics.specs.Values.{Calls}
use Rattle.meaning_semantics.specs.declared.outcome.Flow.{Flow}
use Rattle.meaning_semantics.specs.declared.outcome.Flow.TheVariants.{Onward}
use Rattle.c_tree.specs.Tree.{Row, Nothing, Then, Object, Declared, Shape, Initial, Objects, Prototype, External, Restriction, Declaring, Function}
use Rattle.c_tree.specs.declared.expression.Specifier.{Specifier}
use Rattle.types_tree.specs.Tree as typed
use Rattle.types_tree.specs.declared.variable.Duration.{Duration}
use Rattle.types_tree.specs.declared.variable.Duration.TheVariants.{Static, Automatic}
use Rattle.types_tree.specs.declared.variable.Variable.{Variable}
use Rattle.types_rules.specs.DeclarationRules.{Base, after_object, base_of, extent_of, has_no_constant_size, has_no_constant_value, is_filled}
use Rattle.types_rules.specs.Scope.{Around, Outline, after_row, duration_in, in_block, started}
use Rattle.types_rules.specs.Sights.{SeenDeclaration, after_external, external_nodes, externals_nodes, object_nodes, objects_nodes}
use Rattle.types_rules.specs.Typing.{and_external, and_object, filling_of, typed_external, typed_initial, typed_object, typed_row}
use Rattle.plan_definition.specs.Layouts.{Given, givens, givens_of, initial_words}
use Rattle.plan_definition.specs.Layouts as plans
use Rattle.plan_definition.specs.Operators.{kind_of}
use Rattle.types_seen.specs.Growing.{Grows, statics}
use Rattle.types_seen.proofs.Growing.{external_grows, grows_declared, grows_same, grows_then, slice_get-last}
use Rattle.types_seen.proofs.ObjectRules.{keeps_at}
use Rattle.types_seen.proofs.Rules.{NoFault, faultless_first, faultless_second, parts_keep}
use Rattle.types_seen.specs.Fronts.{Definition, behind, ended_by, external_by}
use Rattle.plan_served.specs.Layouts.{layout_of, signatures_of}
use Rattle.types_seen.specs.Units.{IsUnit}
use Rattle.types_seen.proofs.Fronts.{file_level, inside_ended}
use Rattle.types_seen.proofs.Lists.{extended, slice_get-some}
use Rattle.types_seen.proofs.Objects.{own_automatic}
use Rattle.plan_served.proofs.Statics.{HaveGivens, given_first, given_of, givens_later, one_static}
use Rattle.types_seen.proofs.Objects.{added, added_duration, object_variables, row_block}
use Rattle.plan_served.specs.Rows.{row_of}
use Rattle.plan_served.proofs.FirstObjects.{InitialisesIf, initialises}
use Rattle.plan_served.proofs.Ranges.{WordsRanged, initial_constant, initial_ranged}

-- the first values of an object of file level
abbrev pub values_in : Option Given → List ℕ
values_in None = []
values_in (Some given) = given.values

abbrev pub values_at : typed.Program → ℕ → List ℕ
values_at program object = values_in (slice_get (givens program.items) (statics (take object program.variables)))

-- what an object holds behind its declaration
abbrev pub IsHeld : typed.Program → (object : ℕ) → Variable → Duration → State → Type 0
IsHeld program object v Static st = (slice_get st.objects object ≡ Some (row_of (values_at program object) (runs.size_of v.extent))) × WordsRanged (kind_of v.kind) (values_at program object)
IsHeld program object v Automatic st = slice_get st.objects object ≡ Some (runs.elements_of v)

-- a run behind the first parts of a unit
pub record IsBegun (program : typed.Program) (markers : ℕ) (input : List ℕ) (a : Around) (st : State) : Type 0 where
  pub input_is : st.input ≡ input
  pub output_is : st.output ≡ []
  pub counts_are : st.counts ≡ replicate (length program.functions + markers) 0
  pub held : (o : ℕ) (v : Variable) → slice_get program.variables o ≡ Some v → o < length a.variables → IsHeld program o v v.duration st
  pub ahead : (o : ℕ) (v : Variable) → slice_get program.variables o ≡ Some v → length a.variables ≤ o → slice_get st.objects o ≡ Some (runs.elements_of v)
  pub beyond : (o : ℕ) → length program.variables ≤ o → slice_get st.objects o ≡ None

abbrev pub BegunIf : typed.Program → (markers : ℕ) → (input : List ℕ) → Around → Outcome Flow → Type 0
BegunIf program markers input a (Stopped stop) = Unit {0}
BegunIf program markers input a (Fine flow st) = IsBegun program markers input a st

held_same : (program : typed.Program) (o : ℕ) (v : Variable) (d : Duration) (st st1 : State) → slice_get st1.objects o ≡ slice_get st.objects o → IsHeld program o v d st → IsHeld program o v d st1
held_same program o v Static st st1 e h = (e ∙ h.0, h.1)
held_same program o v Automatic st st1 e h = e ∙ h

module _ (program : typed.Program) (facts : Facts) (markers : ℕ) (input : List ℕ) (all : Around) (variables_are : program.variables ≡ all.variables) (source : Source) (call : Calls) where
  abbrev Begun : Around → Outcome Flow → Type 0
  Begun a o = BegunIf program markers input a o

  there : (base : Base) (o : Object ℕ) (a : Around) → Grows (after_object base o a) all → slice_get program.variables (length a.variables) ≡ Some (added base o a)
  there base o a g =
      ap (λ l. slice_get l (length a.variables)) variables_are
      ∙ g.variables_are (length a.variables) (added base o a) (ap (λ l. slice_get l (length a.variables)) (object_variables base o a) ∙ slice_get-last a.variables (added base o a))

  values_are : (a : Around) (given : Given) (gs : List Given) → Grows a all → HaveGivens program (statics a.variables) (given ∷ gs) → values_at program (length a.variables) ≡ given.values
  values_are a given gs g h =
      let before : statics (take (length a.variables) program.variables) ≡ statics a.variables =
      ap (λ l. statics (take (length a.variables) l)) (variables_are ∙ extended a.variables all.variables g.variables_are) ∙ ap statics (take-append_seam a.variables (drop (length a.variables) all.variables)) in
      ap (λ n. values_in (slice_get (givens program.items) n)) (before ∙ sym (add-zero (statics a.variables))) ∙ ap values_in (h.by 0 given refl)

  -- behind an object of file level
  object_begun : (base : Base) (name : ℕ) (shape : Shape ℕ) (initial : Initial ℕ) (at : ℕ) (a : Around) (st : State) (gs : List Given) (constant : Bool) → in_block a ≡ false → Grows (after_object base (Declared name shape initial at) a) all →
      NoFault (object_nodes base (Declared name shape initial at) a) → HaveGivens program (statics a.variables) (given_of constant (typed_object base (Declared name shape initial at) a) ∷ gs) → IsBegun program markers input a st →
      Begun (after_object base (Declared name shape initial at) a) (object_declared source call (typed_object base (Declared name shape initial at) a) st)
  object_begun base name shape initial at a st gs constant file g faultless have b =
      let o = Declared name shape initial at in
      let n = length a.variables in
      let after = after_object base o a in
      let v = added base o a in
      let filling = filling_of (is_filled shape initial a) a.loops in
      let made = typed_initial base.kind filling initial after in
      let k = keeps_at base name shape initial at a faultless in
      let valued : has_no_constant_value initial ≡ false =
      (or_parts (has_no_constant_size shape) (not false && has_no_constant_value initial) (ap (λ f. has_no_constant_size shape || (not f && has_no_constant_value initial)) (sym file) ∙ k.constant)).1 in
      let static : v.duration ≡ Static = added_duration base o a ∙ ap duration_in file in
      let found = there base o a g in
      let size = runs.size_of v.extent in
      let zeros : slice_get st.objects n ≡ Some (replicate size (Some 0)) = b.ahead n v found (omega arith) ∙ ap (λ d. Some (replicate size (runs.first_of d))) static in
      let values = values_are a (given_of constant (typed_object base o a)) gs (grows_then a after all (grows_declared base o a) g) have in
      of (initialised source call made n at st) found static values (initial_ranged (layout_of program facts) (signatures_of program) base.kind filling initial after valued)
      (initialises source call made n at size st (initial_constant base.kind filling initial after valued) zeros)
    where
      of : (out : Outcome Flow) → slice_get program.variables (length a.variables) ≡ Some (added base (Declared name shape initial at) a) → duration_in (in_block a) ≡ Static →
          values_at program (length a.variables) ≡ initial_words (typed_initial base.kind (filling_of (is_filled shape initial a) a.loops) initial (after_object base (Declared name shape initial at) a)) →
          WordsRanged (kind_of base.kind) (initial_words (typed_initial base.kind (filling_of (is_filled shape initial a) a.loops) initial (after_object base (Declared name shape initial at) a))) →
          InitialisesIf source call (length a.variables) (runs.size_of (extent_of shape initial)) st (initial_words (typed_initial base.kind (filling_of (is_filled shape initial a) a.loops) initial (after_object base (Declared name shape initial at) a))) out →
          Begun (after_object base (Declared name shape initial at) a) out
      of (Stopped stop) found static values ranged r = tt
      of (Fine flow st1) found static values ranged r =
          let n = length a.variables in
          let v = added base (Declared name shape initial at) a in
          let long : length (after_object base (Declared name shape initial at) a).variables ≡ n + 1 =
          ap length (object_variables base (Declared name shape initial at) a) ∙ length-append a.variables (v ∷ []) in
          record {
            input_is = r.changes.input ∙ b.input_is;
            output_is = r.changes.output ∙ b.output_is;
            counts_are = r.changes.counts ∙ b.counts_are;
            held = λ p w e lt. ⊎_elim
                (λ (same : p ≡ n).
                let is : v ≡ w = same_Some v w (sym found ∙ ap (slice_get program.variables) (sym same) ∙ e) in
                let here : IsHeld program n v v.duration st1 = subst (λ d. IsHeld program n v d st1) (sym static)
                (r.there ∙ ap (λ l. Some (row_of l (runs.size_of (extent_of shape initial)))) (sym values), subst (WordsRanged (kind_of base.kind)) (sym values) ranged) in
                subst (λ x. IsHeld program p x x.duration st1) is (subst (λ q. IsHeld program q v v.duration st1) (sym same) here))
                (λ (other : p ≡ n → ⊥). held_same program p w w.duration st st1 (r.changes.others p other) (b.held p w e (below p n (length (after_object base (Declared name shape initial at) a).variables) other lt long)))
                (cases_eq p n);
            ahead = λ p w e le. r.changes.others p (past p n (length (after_object base (Declared name shape initial at) a).variables) le long) ∙ b.ahead p w e (omega (arith, le, long));
            beyond = λ p le. r.changes.others p (outside p n (length program.variables) le (slice_get_within program.variables n v found)) ∙ b.beyond p le;
          }
        where
          below : (p n l : ℕ) → (p ≡ n → ⊥) → p < l → l ≡ n + 1 → p < n
          below p n l other lt long = omega (arith, other, lt, long)

          past : (p n l : ℕ) → l ≤ p → l ≡ n + 1 → p ≡ n → ⊥
          past p n l le long same = omega (arith, le, long, same)

          outside : (p n l : ℕ) → l ≤ p → n < l → p ≡ n → ⊥
          outside p n l le lt same = omega (arith, le, lt, same)

  then_do-assoc : {A B C : Type 0} (o : Outcome A) (f : A → State → Outcome B) (g : B → State → Outcome C) → then_do (then_do o f) g ≡ then_do o (λ a st. then_do (f a st) g)
  then_do-assoc (Fine a st) f g = refl
  then_do-assoc (Stopped stop) f g = refl

  row_givens : (specifiers : List Specifier) (objects : Row (Object ℕ)) (a : Around) (rest : List typed.Object) (gs : List Given) → in_block a ≡ false →
      HaveGivens program (statics a.variables) (givens_of (list_any plans.is_const specifiers) (typed_row (after_object (base_of specifiers)) (and_object (base_of specifiers)) objects a rest) gs) →
      HaveGivens program (statics (after_row (after_object (base_of specifiers)) objects a).variables) (givens_of (list_any plans.is_const specifiers) rest gs)
  row_givens specifiers Nothing a rest gs file h = h
  row_givens specifiers (Then front last) a rest gs file h =
      let base = base_of specifiers in
      let now = after_row (after_object base) front a in
      let made = typed_object base last now in
      let constant = list_any plans.is_const specifiers in
      let ih = row_givens specifiers front a (made ∷ rest) gs file h in
      let hg = subst (HaveGivens program (statics now.variables)) (given_first constant made rest gs) ih in
      givens_later program (statics now.variables) (statics (after_object base last now).variables) (given_of constant made) (givens_of constant rest gs) (one_static base last now (row_block base front a file)) hg

  any_object : (base : Base) (o : Object ℕ) (a : Around) (st : State) (gs : List Given) (constant : Bool) → in_block a ≡ false → Grows (after_object base o a) all → NoFault (object_nodes base o a) → HaveGivens program (statics a.variables) (given_of constant (typed_object base o a) ∷ gs) →
      IsBegun program markers input a st → Begun (after_object base o a) (object_declared source call (typed_object base o a) st)
  any_object base (Declared name shape initial at) a st gs constant file g faultless have b = object_begun base name shape initial at a st gs constant file g faultless have b

  -- behind the objects of a declaration
  row_begun : (specifiers : List Specifier) (objects : Row (Object ℕ)) (a : Around) (rest : List typed.Object) (gs : List Given) (st : State) → in_block a ≡ false → Grows (after_row (after_object (base_of specifiers)) objects a) all → NoFault (objects_nodes (base_of specifiers) objects a) →
      HaveGivens program (statics a.variables) (givens_of (list_any plans.is_const specifiers) (typed_row (after_object (base_of specifiers)) (and_object (base_of specifiers)) objects a rest) gs) → IsBegun program markers input a st →
      (out : Outcome Flow) × (all_declared source call (typed_row (after_object (base_of specifiers)) (and_object (base_of specifiers)) objects a rest) st ≡ then_do out (λ flow st1. all_declared source call rest st1)) × Begun (after_row (after_object (base_of specifiers)) objects a) out
  row_begun specifiers Nothing a rest gs st file g faultless h b = (Fine Onward st, refl, b)
  row_begun specifiers (Then front last) a rest gs st file g faultless h b =
      let base = base_of specifiers in
      let now = after_row (after_object base) front a in
      let made = typed_object base last now in
      let constant = list_any plans.is_const specifiers in
      let before = grows_then now (after_object base last now) all (grows_declared base last now) g in
      let ih = row_begun specifiers front a (made ∷ rest) gs st file before (faultless_first (objects_nodes base front a) (object_nodes base last now) faultless) h b in
      let have = subst (HaveGivens program (statics now.variables)) (given_first constant made rest gs) (row_givens specifiers front a (made ∷ rest) gs file h) in
      let here = row_block base front a file in
      let own = faultless_second (objects_nodes base front a) (object_nodes base last now) faultless in (
        then_do ih.0 (λ flow st1. object_declared source call made st1),
        ih.1 ∙ sym (then_do-assoc ih.0 (λ flow st1. object_declared source call made st1) (λ flow st1. all_declared source call rest st1)),
        onwards ih.0 (after_object base last now) (λ st1. object_declared source call made st1) ih.2 (λ st1 c. any_object base last now st1 (givens_of constant rest gs) constant here g own have c),
      )
    where
      onwards : {x : Around} (out : Outcome Flow) (y : Around) (go : State → Outcome Flow) → Begun x out → ((st1 : State) → IsBegun program markers input x st1 → Begun y (go st1)) → Begun y (then_do out (λ flow st1. go st1))
      onwards (Stopped stop) y go h k = tt
      onwards (Fine flow st1) y go h k = k st1 h

  -- behind a part of a unit
  part_begun : (outline : Outline) (front : Row (External ℕ)) (x : External ℕ) (rest : List typed.External) (st : State) → Grows (behind outline (Then front x)) all → NoFault (external_nodes x (behind outline front)) →
      HaveGivens program (statics (behind outline front).variables) (givens (typed_external x (behind outline front) ∷ rest)) → IsBegun program markers input (behind outline front) st →
      Begun (behind outline (Then front x)) (runs.initialised_all source call (typed_external x (behind outline front) ∷ []) st)
  part_begun outline front (Restriction pragma) rest st g faultless h b = b
  part_begun outline front (Declaring (Prototype specifiers name params at)) rest st g faultless h b = record { input_is = b.input_is; output_is = b.output_is; counts_are = b.counts_are; held = b.held; ahead = b.ahead; beyond = b.beyond }
  part_begun outline front (Declaring (Objects specifiers objects at)) rest st g faultless h b =
      let now = behind outline front in
      let base = base_of specifiers in
      let made = typed_row (after_object base) (and_object base) objects now [] in
      let r = row_begun specifiers objects now [] (givens rest) st (file_level outline front) g (parts_keep (SeenDeclaration (Objects specifiers objects at) now) (objects_nodes base objects now) faultless) h b in
      ended (after_row (after_object base) objects now) (all_declared source call made st) (subst (Begun (after_row (after_object base) objects now)) (sym r.1) (ended (after_row (after_object base) objects now) r.0 r.2))
    where
      ended : (y : Around) (out : Outcome Flow) → Begun y out → Begun y (then_do out (λ flow st1. Fine Onward st1))
      ended y (Stopped stop) h = tt
      ended y (Fine flow st1) h = h
  part_begun outline front (Function specifiers name name_at params body body_at at) rest st g faultless h b =
      let d : Definition = record { specifiers = specifiers; name = name; name_at = name_at; params = params; body = body; body_at = body_at; at = at } in
      let now = behind outline front in
      let ended = ended_by d now in
      let is = extended now.variables ended.variables (external_grows (external_by d) now).variables_are in
      let own = drop (length now.variables) ended.variables in
      record {
        input_is = b.input_is;
        output_is = b.output_is;
        counts_are = b.counts_are;
        held = λ o v e lt. ⊎_elim
            (λ (before : o < length now.variables). b.held o v e before)
            (λ (from : length now.variables ≤ o).
            let w = slice_get-some ended.variables o lt in
            let same : w.0 ≡ v = same_Some w.0 v (sym (ap (λ l. slice_get l o) variables_are ∙ g.variables_are o w.0 w.1) ∙ e) in
            let auto : v.duration ≡ Automatic = ap (λ x. x.duration) (sym same) ∙ own_automatic outline front d own o w.0 is from w.1 in
            subst (λ t. IsHeld program o v t st) (sym auto) (b.ahead o v e from))
            (cases_lt o (length now.variables));
        ahead = λ o v e le. b.ahead o v e (let m = (external_grows (external_by d) now).more in omega (arith, m, le));
        beyond = b.beyond;
      }

  initialised_one : (y : typed.External) (rest : List typed.External) (st : State) → runs.initialised_all source call (y ∷ rest) st ≡ then_do (runs.initialised_all source call (y ∷ []) st) (λ flow st1. runs.initialised_all source call rest st1)
  initialised_one (typed.Restriction pragma) rest st = refl
  initialised_one (typed.Declaring declaration) rest st = sym (then_do-assoc (declared source call declaration st) (λ flow st1. Fine Onward st1) (λ flow st1. runs.initialised_all source call rest st1))
  initialised_one (typed.Defining function) rest st = refl

  external_givens : (outline : Outline) (front : Row (External ℕ)) (x : External ℕ) (rest : List typed.External) → HaveGivens program (statics (behind outline front).variables) (givens (typed_external x (behind outline front) ∷ rest)) → HaveGivens program (statics (behind outline (Then front x)).variables) (givens rest)
  external_givens outline front (Restriction pragma) rest h = h
  external_givens outline front (Declaring (Objects specifiers objects at)) rest h = row_givens specifiers objects (behind outline front) [] (givens rest) (file_level outline front) h
  external_givens outline front (Declaring (Prototype specifiers name params at)) rest h = h
  external_givens outline front (Function specifiers name name_at params body body_at at) rest h =
      let d : Definition = record { specifiers = specifiers; name = name; name_at = name_at; params = params; body = body; body_at = body_at; at = at } in
      subst (λ n. HaveGivens program n (givens rest)) (sym (inside_ended d (behind outline front)).statics_are) h

  front_begun : (outline : Outline) (front : Row (External ℕ)) (rest : List typed.External) (st : State) → Grows (behind outline front) all → NoFault (externals_nodes front (started outline)) →
      HaveGivens program 0 (givens (typed_row after_external and_external front (started outline) rest)) → IsBegun program markers input (started outline) st →
      (out : Outcome Flow) × (runs.initialised_all source call (typed_row after_external and_external front (started outline) rest) st ≡ then_do out (λ flow st1. runs.initialised_all source call rest st1)) × Begun (behind outline front) out × HaveGivens program (statics (behind outline front).variables) (givens rest)
  front_begun outline Nothing rest st g faultless h b = (Fine Onward st, refl, b, h)
  front_begun outline (Then front last) rest st g faultless h b =
      let now = behind outline front in
      let made = typed_external last now in
      let before = grows_then now (after_external last now) all (external_grows last now) g in
      let ih = front_begun outline front (made ∷ rest) st before (faultless_first (externals_nodes front (started outline)) (external_nodes last now) faultless) h b in
      let own = faultless_second (externals_nodes front (started outline)) (external_nodes last now) faultless in (
        then_do ih.0 (λ flow st1. runs.initialised_all source call (made ∷ []) st1),
        ih.1 ∙ next ih.0 made ∙ sym (then_do-assoc ih.0 (λ flow st1. runs.initialised_all source call (made ∷ []) st1) (λ flow st1. runs.initialised_all source call rest st1)),
        onwards ih.0 (behind outline (Then front last)) (λ st1. runs.initialised_all source call (made ∷ []) st1) ih.2 (λ st1 c. part_begun outline front last rest st1 g own ih.3 c),
        external_givens outline front last rest ih.3,
      )
    where
      next : (out : Outcome Flow) (made : typed.External) → then_do out (λ flow st1. runs.initialised_all source call (made ∷ rest) st1) ≡ then_do out (λ flow st1. then_do (runs.initialised_all source call (made ∷ []) st1) (λ flow2 st2. runs.initialised_all source call rest st2))
      next (Stopped stop) made = refl
      next (Fine flow st1) made = initialised_one made rest st1

      onwards : {x : Around} (out : Outcome Flow) (y : Around) (go : State → Outcome Flow) → Begun x out → ((st1 : State) → IsBegun program markers input x st1 → Begun y (go st1)) → Begun y (then_do out (λ flow st1. go st1))
      onwards (Stopped stop) y go h k = tt
      onwards (Fine flow st1) y go h k = k st1 h

  -- before anything was initialised
  start_begun : (outline : Outline) → IsBegun program markers input (started outline) (runs.start program markers input)
  start_begun outline = record {
    input_is = refl;
    output_is = refl;
    counts_are = refl;
    held = λ o v e lt. absurd (nothing_before o lt);
    ahead = λ o v e le. mapped program.variables o v e;
    beyond = λ o le. let m = length-map program.variables runs.elements_of in slice_get_past (map runs.elements_of program.variables) o (omega (arith, m, le));
  }
    where
      nothing_before : (o : ℕ) → o < 0 → ⊥
      nothing_before o lt = omega (arith, lt)

      mapped : (vs : List Variable) (o : ℕ) (v : Variable) → slice_get vs o ≡ Some v → slice_get (map runs.elements_of vs) o ≡ Some (runs.elements_of v)
      mapped [] o v e = absurd (none-some v e)
      mapped (w ∷ vs) zero v e = ap (λ x. Some (runs.elements_of x)) (same_Some w v e)
      mapped (w ∷ vs) (suc o) v e = mapped vs o v e

  pub all_begun : (outline : Outline) (items : Row (External ℕ)) → IsUnit outline items program → all ≡ behind outline items → Begun (behind outline items) (runs.initialised_all source call program.items (runs.start program markers input))
  all_begun outline items unit same =
      let s = runs.start program markers input in
      let behind_all : Grows (behind outline items) all = subst (λ x. Grows (behind outline items) x) (sym same) (grows_same (behind outline items) (behind outline items) refl refl refl) in
      let have : HaveGivens program 0 (givens (typed_row after_external and_external items (started outline) [])) = record { by = λ i g e. ap (slice_get (givens program.items)) (zero-add i) ∙ ap (λ l. slice_get (givens l) i) unit.items_are ∙ e } in
      let r = front_begun outline items [] s behind_all unit.faultless have (start_begun outline) in
      subst (λ l. Begun (behind outline items) (runs.initialised_all source call l s)) (sym unit.items_are) (subst (Begun (behind outline items)) (sym r.1) (ended r.0 r.2))
    where
      ended : (out : Outcome Flow) → Begun (behind outline items) out → Begun (behind outline items) (then_do out (λ flow st1. Fine Onward st1))
      ended (Stopped stop) h = tt
      ended (Fine flow st1) h = h
