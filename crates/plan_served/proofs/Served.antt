-- The plan of a program serves each of its functions.
use Rattle.std.proofs.Common.{◌≡◌, ◌⊎◌, inl, inr, ⊎_elim, refl, ap, ◌∙◌, sym, subst, ℕ, ◌+◌, ◌-◌, ◌<◌, ◌≤◌, zero, suc, max, Bool, true, false, cond, List, [], ◌∷◌, ◌++◌, drop, filter, length, map, take, Some, None, arith, add-zero, append_assoc, le-leb, leb-true, lt-ltb, ltb-true, length-append, get_or, zero-add}
use Rattle.std.specs.Prelude.{if◌then◌else◌, nat_le, nat_lt, slice_get, slice_index_or}
use Rattle.std.specs.List.{All}
use Rattle.std.proofs.Math.Seq.{drop-append_seam, take-append-add, take-append_seam}
use Rattle.std.proofs.lemmas.Bool.{and_from, and_parts, false≢true, or_left, or_right}
use Rattle.std.proofs.lemmas.List.{append_cancel_left}
use Rattle.std.proofs.lemmas.List.Elements.{All-head, All-tail}
use Rattle.std.proofs.lemmas.List.Sums.{sum_by-append}
use Rattle.std.proofs.lemmas.Option.{none-some, same_Some, slice_get_within}
use Rattle.c_tree.specs.declared.expression.Specifier.{Specifier}
use Rattle.c_tree.specs.Tree.{Row, Nothing, Then, Param, Parameter, Shape, Scalar as Single, Unsized, Sized, External}
use Rattle.types_calls.specs.Calls.{calls_below, function_calls, graph_of, items_calls, params_calls, CallsDefined}
use Rattle.types_calls.specs.Chains.{Among, callees}
use Rattle.facts_definitions.specs.FlowFacts.{AreFacts}
use Rattle.facts_definitions.specs.declared.facts.Facts.{Facts}
use Rattle.types_tree.specs.Tree as typed
use Rattle.types_tree.specs.declared.variable.Duration.TheVariants.{Automatic}
use Rattle.types_tree.specs.declared.variable.Extent.TheVariants.{Parameter as Passed}
use Rattle.types_tree.specs.declared.variable.Variable.{Variable}
use Rattle.types_rules.specs.DeclarationRules.{after_param, after_params, is_no_list, param_extent, routine, within_function}
use Rattle.types_rules.specs.Scope.{Around, Outline, after_row, duration_in, in_block, is_array, started, unseen, with_definition, with_object, with_routine}
use Rattle.types_rules.specs.Specifiers.{is_const, kind_spelled}
use Rattle.types_rules.specs.Sights.{after_external}
use Rattle.types_rules.specs.StatementRules.{in_function}
use Rattle.types_rules.specs.Typing.{and_external, and_param, typed_items, typed_param, typed_params, typed_row, typed_shape}
use Rattle.high_ir.specs.Tree as high
use Rattle.high_ir.specs.declared.object.Kind.{Kind}
use Rattle.high_code.specs.Code.{frame_needed, frame_needed_all}
use Rattle.high_code.proofs.Frames.{all_within-needed}
use Rattle.plan_definition.specs.declared.home.Home.TheVariants.{Frame}
use Rattle.plan_definition.specs.Layouts.{Next, first_of, firsts_of, frame_scalars, givens, homes_of, is_frame, next_by, passed_arrays}
use Rattle.plan_definition.specs.Operators.{kind_of}
use Rattle.plan_definition.specs.Programs.{between, end_of, function_planned, functions_planned, named_params, plan_of, program_planned}
use Rattle.plan_definition.specs.Statements.{Plan, all_planned, body_planned}
use Rattle.plan_runs.specs.ExpressionFits.{Formal, OfWord, OfArray, Function, Signatures}
use Rattle.plan_runs.specs.Meets.{Layout, home, type_in}
use Rattle.plan_runs.specs.StatementFits.{FitItems, block_declares, with_live}
use Rattle.plan_runs.specs.Serves.{AllServe, AreParameters, FunctionServed, IsServed, Serves, are_from, arrays_in, at_entry, out_of_body, words_in}
use Rattle.types_seen.specs.Growing.{Grows, statics}
use Rattle.plan_served.specs.Places.{IsHome, IsPlan, IsStored}
use Rattle.plan_served.specs.Seen.{IsObjectSeen, Sees}
use Rattle.types_seen.proofs.Growing.{grows_object, grows_same, grows_then, in_entered, in_same, inside_param, row_inside, slice_get-last}
use Rattle.plan_served.proofs.Names.{among-second}
use Rattle.plan_served.proofs.Objects.{At, laid_kind, lives_as}
use Rattle.plan_served.proofs.Seeing.{knows_before, sees_entered, sees_object, sees_routine, sees_same, sees_wider}
use Rattle.plan_served.proofs.Statements.{fit_items}
use Rattle.types_seen.specs.Fronts.{Definition, IsDefined, IsFront, begun_by, behind, ended_by, external_by, function_by, functions_of}
use Rattle.plan_served.specs.Layouts.{constant_by, constant_in, constant_of, first_in, formal_of, formals_of, is_constant_formal, layout_of, owner_of, parameters_in, rest_of, result_in, signatures_of}
use Rattle.types_seen.specs.Units.{IsUnit}
use Rattle.plan_served.proofs.Fronts.{IsAmong, among}
use Rattle.types_seen.proofs.Fronts.{begun_block, defined, front_grows, front_less, items_behind, inside_begun, part_faultless}
use Rattle.plan_served.proofs.Homes.{AreOwn, frame_within, plain_homes}
use Rattle.plan_served.proofs.Known.{knows}
use Rattle.types_seen.proofs.Known.{body_faultless}
use Rattle.types_seen.proofs.Lists.{extended, slice_get-before, slice_get-behind}
use Rattle.plan_served.proofs.Params.{AddList, Match, add_list, arrays_counted, match_length, named_count, parameters_stand, words_counted}
use Rattle.plan_served.proofs.Placed.{length-homes, own_at, owned_by, there_by}
use Rattle.plan_served.proofs.Sites.{bounds_are, bounds_body}
use Rattle.plan_served.proofs.Statics.{HaveGivens, home_at, laid, sees_front}
use Rattle.types_seen.proofs.Objects.{added}

-- what a call of a function hands over, from a parameter on
record HaveFormals (all : List Formal) (number : ℕ) (some : List Formal) : Type 0 where
  by : (i : ℕ) (f : Formal) → slice_get some i ≡ Some f → slice_get all (number + i) ≡ Some f

formals_later : (all : List Formal) (n : ℕ) (f : Formal) (fs : List Formal) → HaveFormals all n (f ∷ fs) → HaveFormals all (n + 1) fs
formals_later all n f fs h = record { by = λ i x e. ap (slice_get all) (next n i) ∙ h.by (suc i) x e }
  where
    next : (n i : ℕ) → n + 1 + i ≡ n + suc i
    next n i = omega arith

length-plain : (vs : List Variable) (next : Next) → length (plain_homes vs next) ≡ length vs
length-plain [] next = refl
length-plain (v ∷ vs) next = ap suc (length-plain vs (next_by v.duration v.extent next))

-- the plans of functions by their numbers
pub planned_at : (plan : Plan) (vs : List Variable) (ranks : List ℕ) (number : ℕ) (before : List typed.Function) (f : typed.Function) (later : List typed.Function) →
    slice_get (functions_planned plan vs ranks number (before ++ f ∷ later)) (length before) ≡ Some (function_planned plan vs (end_of later (length vs)) (slice_index_or ranks (number + length before) 0) f)
planned_at plan vs ranks number [] f later = ap (λ n. Some (function_planned plan vs (end_of later (length vs)) (slice_index_or ranks n 0) f)) (sym (add-zero number))
planned_at plan vs ranks number (g ∷ before) f later =
    planned_at plan vs ranks (number + 1) before f later ∙ ap (λ n. Some (function_planned plan vs (end_of later (length vs)) (slice_index_or ranks n 0) f)) (along number (length before))
  where
    along : (n l : ℕ) → n + 1 + l ≡ n + suc l
    along n l = omega arith

-- calls of functions that are there
among_filtered : (g n : ℕ) (calls : List ℕ) → g < n → Among g calls → Among g (filter (λ x. nat_lt x n) calls)
among_filtered g n [] lt m = m
among_filtered g n (c ∷ calls) lt m = of (nat_lt c n) refl (λ h. among_filtered g n calls lt h) m
  where
    of : (b : Bool) → nat_lt c n ≡ b → (Among g calls → Among g (filter (λ x. nat_lt x n) calls)) → (g ≡ c) ⊎ Among g calls → Among g (cond b (c ∷ filter (λ x. nat_lt x n) calls) (filter (λ x. nat_lt x n) calls))
    of true e more h = ⊎_elim (λ (same : g ≡ c). inl same) (λ (later : Among g calls). inr (more later)) h
    of false e more h = ⊎_elim
        (λ (same : g ≡ c). absurd (false≢true (sym e ∙ ap (λ x. nat_lt x n) (sym same) ∙ lt-ltb g n lt)))
        (λ (later : Among g calls). more later) h

all_among : (P : ℕ → Type 0) (calls : List ℕ) (g : ℕ) → All P calls → Among g calls → P g
all_among P [] g h m = absurd m
all_among P (c ∷ calls) g h m = ⊎_elim
    (λ (same : g ≡ c). subst P (sym same) (All-head P c calls h))
    (λ (later : Among g calls). all_among P calls g (All-tail P c calls h) later) m

all_at : {A : Type 0} (P : A → Type 0) (xs : List A) (i : ℕ) (x : A) → All P xs → slice_get xs i ≡ Some x → P x
all_at P [] i x h e = absurd (none-some x e)
all_at P (y ∷ xs) zero x h e = subst P (same_Some y x e) (All-head P y xs h)
all_at P (y ∷ xs) (suc i) x h e = all_at P xs i x (All-tail P y xs h) e

map_at : (h : typed.Function → List ℕ) (fs : List typed.Function) (i : ℕ) (f : typed.Function) → slice_get fs i ≡ Some f → get_or (map h fs) i [] ≡ h f
map_at h [] i f e = absurd (none-some f e)
map_at h (g ∷ fs) zero f e = ap h (same_Some g f e)
map_at h (g ∷ fs) (suc i) f e = map_at h fs i f e

end_beyond : (m all : ℕ) (later : List typed.Function) → m ≤ all → All (λ x. m ≤ x) (firsts_of later) → m ≤ end_of later all
end_beyond m all [] le least = le
end_beyond m all (f ∷ later) le least = All-head (λ x. m ≤ x) (first_of f) (firsts_of later) least

scalars-append : (xs ys : List Variable) → frame_scalars (xs ++ ys) ≡ frame_scalars xs + frame_scalars ys
scalars-append xs ys = sum_by-append (λ v. cond (is_frame v.duration v.extent) 1 0) xs ys

module _ (names : List (List ℕ)) (outline : Outline) (items : Row (External ℕ)) (program : typed.Program) (facts : Facts) (unit : IsUnit outline items program) (are : AreFacts program names facts) (calls : CallsDefined program) where
  abbrev layout : Layout
  layout = layout_of program facts

  abbrev signatures : Signatures
  signatures = signatures_of program

  abbrev all : Around
  all = behind outline items

  -- of one definition
  module _ (front : Row (External ℕ)) (d : Definition) (part : IsFront (Then front (external_by d)) items) where
    abbrev now : Around
    now = behind outline front

    abbrev number : ℕ
    number = length (functions_of front (started outline))

    abbrev first : ℕ
    first = length now.variables

    abbrev ended : Around
    ended = ended_by d now

    abbrev within : Around
    within = within_function d.specifiers d.name d.params now

    abbrev body : typed.Items
    body = typed_items (kind_spelled d.specifiers) d.body (begun_by d now) typed.NoItem

    abbrev given : List Formal
    given = formals_of (typed_params d.params within)

    abbrev a : IsAmong outline items front d
    a = among outline items front d part

    function_is : slice_get program.functions number ≡ Some (function_by d now)
    function_is =
        ap (λ l. slice_get l number) (unit.functions_are ∙ a.functions_are)
        ∙ ap (slice_get (functions_of front (started outline) ++ function_by d now ∷ a.later)) (sym (add-zero number))
        ∙ slice_get-behind (functions_of front (started outline)) (function_by d now ∷ a.later) 0

    within_block : in_block within ≡ true
    within_block = in_entered (with_definition d.name (with_routine d.name (routine d.specifiers d.params) now))

    listed : AddList d.params within
    listed = add_list d.params within within_block

    -- its own objects begin with those of its parameters
    own_is : a.own ≡ listed.added ++ drop (length (begun_by d now).variables) ended.variables
    own_is =
        let locals = drop (length (begun_by d now).variables) ended.variables in
        append_cancel_left now.variables a.own (listed.added ++ locals)
        (sym a.ended_is ∙ extended (begun_by d now).variables ended.variables a.begun.variables_are ∙ ap (λ l. l ++ locals) listed.variables_are ∙ append_assoc now.variables listed.added locals)

    variable_at : (i : ℕ) (v : Variable) → slice_get a.own i ≡ Some v → slice_get program.variables (first + i) ≡ Some v
    variable_at i v e =
        ap (λ l. slice_get l (first + i)) (unit.variables_are ∙ a.variables_are) ∙ slice_get-behind now.variables (a.own ++ a.after) i ∙ slice_get-before a.own a.after i v e

    parameter_at : (i : ℕ) (v : Variable) → slice_get listed.added i ≡ Some v → slice_get program.variables (first + i) ≡ Some v
    parameter_at i v e =
        variable_at i v (ap (λ l. slice_get l i) own_is ∙ slice_get-before listed.added (drop (length (begun_by d now).variables) ended.variables) i v e)

    many : length given ≡ length listed.added
    many = match_length given listed.added listed.match

    ended_long : first + length a.own ≡ length ended.variables
    ended_long = let e = ap length a.ended_is in let f = length-append now.variables a.own in omega (arith, e, f)

    own_long : length listed.added ≤ length a.own
    own_long = let e = ap length own_is in let f = length-append listed.added (drop (length (begun_by d now).variables) ended.variables) in omega (arith, e, f)

    owned : (o : ℕ) → first ≤ o → o < length ended.variables → owner_of program o ≡ number
    owned o from below = owned_by outline items program facts unit front d part o from below

    -- an array parameter is a constant as its declaration says
    constant_formal : (k : ℕ) (x : Formal) (v : Variable) → slice_get given k ≡ Some x → slice_get program.variables (first + k) ≡ Some v → v.duration ≡ Automatic → v.extent ≡ Passed → constant_of program (first + k) ≡ is_constant_formal (Some x)
    constant_formal k x v e there auto passed =
        let o = first + k in
        let lt = slice_get_within given k x e in
        let long = many in
        let own = own_long in
        let end = ended_long in
        let owner_is : owner_of program o ≡ number = owned o (omega arith) (omega (arith, lt, long, own, end)) in
        let g = slice_get (givens program.items) (statics (take o program.variables)) in
        let found : slice_get program.functions (owner_of program o) ≡ Some (function_by d now) = ap (slice_get program.functions) owner_is ∙ function_is in
        ap (λ w. constant_in w g (slice_get (parameters_in (slice_get program.functions (owner_of program o))) (o - first_in (slice_get program.functions (owner_of program o))))) there
        ∙ ap (λ h. constant_by v.duration v.extent g (slice_get (parameters_in h) (o - first_in h))) found
        ∙ ap (λ n. constant_by v.duration v.extent g (slice_get given n)) (back first k)
        ∙ ap (constant_by v.duration v.extent g) e
        ∙ ap (λ t. constant_by t v.extent g (Some x)) auto
        ∙ ap (λ t. constant_by Automatic t g (Some x)) passed
      where
        back : (n k : ℕ) → n + k - n ≡ k
        back n k = omega arith

    -- within a function its parameters are seen
    module _ (variables : ℕ) where
      abbrev entry : Function
      entry = at_entry layout signatures number first variables

      live_at : (k : ℕ) → k < length given → entry.live (first + k) ≡ true
      live_at k lt =
          let long : length (signatures.parameters number) ≡ length given = ap (λ o. length (parameters_in o)) function_is in
          and_from (nat_le first (first + k)) (nat_lt (first + k) (first + length (signatures.parameters number))) (le-leb first (first + k) (omega arith)) (lt-ltb (first + k) (first + length (signatures.parameters number)) (omega (arith, long, lt)))

      stored_param : (shape : Shape ℕ) (n : ℕ) (specifiers : List Specifier) → IsStored (layout.constant n) Automatic (param_extent shape) → (param_extent shape ≡ Passed → layout.constant n ≡ is_constant_formal (Some (formal_of specifiers (typed_shape shape within)))) → is_const specifiers ≡ false → layout.constant n ≡ false
      stored_param Single n specifiers stored passed c = stored
      stored_param Unsized n specifiers stored passed c = passed refl ∙ c
      stored_param (Sized size) n specifiers stored passed c = passed refl ∙ c

      same_formal : (specifiers : List Specifier) (shape : Shape ℕ) (b c : Around) → is_constant_formal (Some (formal_of specifiers (typed_shape shape b))) ≡ is_constant_formal (Some (formal_of specifiers (typed_shape shape c)))
      same_formal specifiers Single b c = refl
      same_formal specifiers Unsized b c = refl
      same_formal specifiers (Sized size) b c = refl

      params_seen : (ps : Row (Param ℕ)) (w b : Around) (rest : List typed.Param) (k : ℕ) → length b.variables ≡ first + k → in_block b ≡ true → Sees layout entry b → HaveFormals given k (formals_of (typed_row unseen and_param ps w rest)) → Grows (after_row after_param ps b) ended →
          (m : ℕ) × (length (after_row after_param ps b).variables ≡ first + m) × Sees layout entry (after_row after_param ps b) × HaveFormals given m (formals_of rest)
      params_seen Nothing w b rest k at block sees h g = (k, at, sees, h)
      params_seen (Then front_ps (Parameter specifiers None shape at_)) w b rest k at block sees h g =
          params_seen front_ps w b (typed_param (after_row unseen front_ps w) (Parameter specifiers None shape at_) ∷ rest) k at block sees h g
      params_seen (Then front_ps (Parameter specifiers (Some name) shape at_)) w b rest k at block sees h g =
          let made = typed_param (after_row unseen front_ps w) (Parameter specifiers (Some name) shape at_) in
          let before = after_row after_param front_ps b in
          let extent = param_extent shape in
          let kind = kind_spelled specifiers in
          let const = is_const specifiers in
          let with = with_object name kind const extent before in
          let r = params_seen front_ps w b (made ∷ rest) k at block sees h (grows_then before with ended (grows_object name kind const extent before) g) in
          let m = r.0 in
          let at_m : length before.variables ≡ first + m = r.1 in
          let here : in_block before ≡ true = in_same b before (row_inside after_param inside_param front_ps b block).outer_is block in
          one_param specifiers name shape (after_row unseen front_ps w) before m at_m here r.2 (r.3.by 0 (formal_of specifiers (typed_shape shape (after_row unseen front_ps w))) refl) g (formals_later given m (formal_of specifiers (typed_shape shape (after_row unseen front_ps w))) (formals_of rest) r.3)
        where
          one_param : (specifiers : List Specifier) (name : ℕ) (shape : Shape ℕ) (seen before : Around) (m : ℕ) → length before.variables ≡ first + m → in_block before ≡ true → Sees layout entry before → slice_get given (m + 0) ≡ Some (formal_of specifiers (typed_shape shape seen)) →
              Grows (with_object name (kind_spelled specifiers) (is_const specifiers) (param_extent shape) before) ended → HaveFormals given (m + 1) (formals_of rest) →
              (j : ℕ) × (length (with_object name (kind_spelled specifiers) (is_const specifiers) (param_extent shape) before).variables ≡ first + j) × Sees layout entry (with_object name (kind_spelled specifiers) (is_const specifiers) (param_extent shape) before) × HaveFormals given j (formals_of rest)
          one_param specifiers name shape seen before m at_m here sees found g later =
              let extent = param_extent shape in
              let kind = kind_spelled specifiers in
              let const = is_const specifiers in
              let n = length before.variables in
              let v : Variable = record { name = record { 0 = name }; kind = kind; extent = extent; duration = duration_in (in_block before) } in
              let x = formal_of specifiers (typed_shape shape seen) in
              let auto : v.duration ≡ Automatic = ap duration_in here in
              let there : slice_get program.variables n ≡ Some v = ap (λ l. slice_get l n) unit.variables_are ∙ a.grows.variables_are n v (g.variables_are n v (slice_get-last before.variables v)) in
              let l = laid program facts n v there in
              let is : slice_get given m ≡ Some x = ap (slice_get given) (sym (add-zero m)) ∙ found in
              let live : entry.live n ≡ true = ap entry.live at_m ∙ live_at m (slice_get_within given m x is) in
              let home_is : IsHome Automatic extent (home layout n) = subst (λ b. IsHome (duration_in b) extent (home layout n)) here l.lives in
              let stored : IsStored (layout.constant n) Automatic extent = subst (λ b. IsStored (layout.constant n) (duration_in b) extent) here l.stored in
              let passed : extent ≡ Passed → layout.constant n ≡ is_constant_formal (Some (formal_of specifiers (typed_shape shape within))) =
              λ e. ap layout.constant at_m ∙ constant_formal m x v is (ap (slice_get program.variables) (sym at_m) ∙ there) auto e ∙ same_formal specifiers shape seen within in
              let o : IsObjectSeen layout entry n kind const (is_array extent) =
              record { kind_is = laid_kind layout n v l; stores = λ e. stored_param shape n specifiers stored passed e; lives = lives_as layout entry n extent home_is live } in
              let long = length-append before.variables (v ∷ []) in
              (m + 1, omega (arith, long, at_m), sees_object layout entry name kind const extent before sees o, later)

      sees_within : Sees layout entry within
      sees_within =
          let x = with_routine d.name (routine d.specifiers d.params) now in
          let y = with_definition d.name x in
          let parts = front_less front (external_by d) items part in
          let rest = items_behind outline items [] front parts in
          let have : HaveGivens program 0 (givens (typed_row after_external and_external front (started outline) rest.0)) =
          record { by = λ i g e. ap (slice_get (givens program.items)) (zero-add i) ∙ ap (λ l. slice_get (givens l) i) (unit.items_are ∙ rest.1) ∙ e } in
          let file = (sees_front program facts all unit.variables_are entry outline front rest.0 (front_grows outline items front parts) have).0 in
          sees_entered layout entry y (sees_same layout entry x y (grows_same x y refl refl refl) refl refl (sees_routine layout entry d.name (routine d.specifiers d.params) now file))

      begun_seen : Sees layout entry (begun_by d now)
      begun_seen = of (is_no_list d.params) a.begun
        where
          of : (b : Bool) → Grows (if b then within else after_params d.params within) ended → Sees layout entry (if b then within else after_params d.params within)
          of true g = sees_within
          of false g = (params_seen d.params within within [] 0 (sym (add-zero first)) within_block sees_within (record { by = λ i f e. ap (slice_get given) (zero-add i) ∙ e }) g).2

    -- its objects among those of the program
    behind_it : drop first program.variables ≡ a.own ++ a.after
    behind_it = ap (drop first) (unit.variables_are ∙ a.variables_are) ∙ drop-append_seam now.variables (a.own ++ a.after)

    abbrev end : ℕ
    end = end_of a.later (length program.variables)

    end_is : length ended.variables ≤ end
    end_is = end_beyond (length ended.variables) (length program.variables) a.later (subst (λ l. length ended.variables ≤ length l) (sym unit.variables_are) a.grows.more) a.at_least

    abbrev own_two : List Variable
    own_two = between program.variables first end

    own_two_is : own_two ≡ a.own ++ take (end - length ended.variables) a.after
    own_two_is =
        let long = ended_long in
        let le = end_is in
        let split : end - first ≡ length a.own + (end - length ended.variables) = omega (arith, long, le) in
        ap (take (end - first)) behind_it ∙ ap (λ n. take n (a.own ++ a.after)) split ∙ take-append-add a.own a.after (end - length ended.variables)

    abbrev handed : List Variable
    handed = between program.variables first (first + named_params (typed_params d.params within))

    handed_is : handed ≡ listed.added
    handed_is =
        let locals = drop (length (begun_by d now).variables) ended.variables in
        let named = named_count (typed_params d.params within) in
        let long = many in
        let few : first + named_params (typed_params d.params within) - first ≡ length listed.added = omega (arith, named, long) in
        ap (take (first + named_params (typed_params d.params within) - first)) (behind_it ∙ ap (λ l. l ++ a.after) own_is ∙ append_assoc listed.added locals a.after)
        ∙ ap (λ n. take n (listed.added ++ (locals ++ a.after))) few
        ∙ take-append_seam listed.added (locals ++ a.after)

    abbrev variables : ℕ
    variables = frame_scalars own_two

    scalars_long : frame_scalars a.own ≤ variables
    scalars_long =
        let e = ap frame_scalars own_two_is in
        let f = scalars-append a.own (take (end - length ended.variables) a.after) in
        omega (arith, e, f)

    scalars_handed : frame_scalars handed ≤ variables
    scalars_handed =
        let h = ap frame_scalars handed_is in
        let e = ap frame_scalars own_is in
        let f = scalars-append listed.added (drop (length (begun_by d now).variables) ended.variables) in
        let long = scalars_long in
        omega (arith, h, e, f, long)

    own : AreOwn (homes_of program) first a.own
    own = own_at outline items program facts unit front d part

    in_program : length ended.variables ≤ length program.variables
    in_program = subst (λ l. length ended.variables ≤ length l) (sym unit.variables_are) a.grows.more

    framed : (o x : ℕ) → first ≤ o → o < length ended.variables → home layout o ≡ Frame x → x < variables
    framed o x from below lives =
        let more = in_program in
        let long = ended_long in
        let homes = length-homes (firsts_of program.functions) program.variables 0 (record { variable = 0; parameter = 0; object = 0 }) in
        let there = there_by (homes_of program) o (Frame x) lives (omega (arith, homes, below, more)) in
        let i = o - first in
        let split : first + i ≡ o = omega (arith, from) in
        let found = sym (own.same i (omega (arith, from, below, long))) ∙ ap (slice_get (homes_of program)) split ∙ there in
        let within = (frame_within a.own own.next i x found).1 in
        let none = own.variable_is in
        let enough = scalars_long in
        omega (arith, within, none, enough)

    plan_is : IsPlan layout signatures number first variables ended
    plan_is = record {
      knows = knows_before signatures ended all a.grows (knows outline items unit.faultless unit.listed program unit.functions_are);
      laid = λ o v e. laid program facts o v (ap (λ l. slice_get l o) unit.variables_are ∙ a.grows.variables_are o v e);
      owned = owned;
      framed = framed;
    }

    parameters_are : signatures.parameters number ≡ given
    parameters_are = ap parameters_in function_is

    stands : AreParameters layout first 0 0 given
    stands =
        let locals = drop (length (begun_by d now).variables) ended.variables in
        let long = own_long in
        subst (λ n. AreParameters layout first n 0 given) own.variable_is
        (subst (λ n. AreParameters layout first own.next.variable n given) own.parameter_is
        (parameters_stand layout given listed.added locals own.next first listed.match
        (λ i h e.
        let f : slice_get (plain_homes a.own own.next) i ≡ Some h = ap (λ l. slice_get (plain_homes l own.next) i) own_is ∙ e in
        let lt = slice_get_within (plain_homes a.own own.next) i h f in
        let size = length-plain a.own own.next in
        home_at program facts (first + i) h (own.same i (omega (arith, lt, size)) ∙ f))
        (λ i v e. ap (λ o. kind_of (type_in o)) (parameter_at i v e))
        (λ i kind constant e. passed_constant i kind constant e)))
      where
        passed_at : (fs : List Formal) (vs : List Variable) (i : ℕ) (kind : Kind) (constant : Bool) → Match fs vs → slice_get fs i ≡ Some (OfArray kind constant) → (v : Variable) × (slice_get vs i ≡ Some v) × (v.duration ≡ Automatic) × (v.extent ≡ Passed)
        passed_at [] vs i kind constant m e = absurd (none-some (OfArray kind constant) e)
        passed_at (OfWord k ∷ fs) [] i kind constant m e = absurd m
        passed_at (OfArray k c ∷ fs) [] i kind constant m e = absurd m
        passed_at (OfWord k ∷ fs) (v ∷ vs) zero kind constant m e = absurd (false≢true (ap is_array_formal (same_Some (OfWord k) (OfArray kind constant) e)))
          where
            is_array_formal : Formal → Bool
            is_array_formal (OfWord kind) = false
            is_array_formal (OfArray kind constant) = true
        passed_at (OfArray k c ∷ fs) (v ∷ vs) zero kind constant m e = (v, refl, m.0, m.1)
        passed_at (OfWord k ∷ fs) (v ∷ vs) (suc i) kind constant m e = passed_at fs vs i kind constant m.3 e
        passed_at (OfArray k c ∷ fs) (v ∷ vs) (suc i) kind constant m e = passed_at fs vs i kind constant m.3 e

        passed_constant : (i : ℕ) (kind : Kind) (constant : Bool) → slice_get given i ≡ Some (OfArray kind constant) → layout.constant (first + i) ≡ constant
        passed_constant i kind constant e =
            let v = passed_at given listed.added i kind constant listed.match e in
            constant_formal i (OfArray kind constant) v.0 e (parameter_at i v.0 v.1) v.2 v.3

    -- the functions that it calls are of lower ranks
    calls_fall : (g : ℕ) → Among g (items_calls body) → nat_lt (layout.rank g) (layout.rank number) ≡ true
    calls_fall g m =
        let f = function_by d now in
        let all_calls = function_calls f in
        let among_all : Among g all_calls = among-second g (params_calls (typed_params d.params within)) (items_calls body) m in
        let below : g < length program.functions = all_among (λ x. x < length program.functions) all_calls g (all_at (λ h. All (λ x. x < length program.functions) (function_calls h)) program.functions number f calls function_is) among_all in
        let filtered : Among g (calls_below (length program.functions) all_calls) = among_filtered g (length program.functions) all_calls below among_all in
        let called : Among g (callees (graph_of program) number) = subst (Among g) (sym (map_at (λ h. calls_below (length program.functions) (function_calls h)) program.functions number f function_is)) filtered in
        lt-ltb (layout.rank g) (layout.rank number) (are.ranks.falls number g called)

    abbrev place : Function
    place = with_live (at_entry layout signatures number first variables) (block_declares body)

    stand : At layout place first (begun_by d now)
    stand = record {
      sees = sees_wider layout (at_entry layout signatures number first variables) place (begun_by d now) (λ o live. or_left ((at_entry layout signatures number first variables).live o) (block_declares body o) live) (begun_seen variables);
      block = begun_block d now;
      from = (inside_begun d now).grows.more;
    }

    fits : FitItems layout signatures (kind_of (kind_spelled d.specifiers)) facts.bounds place body
    fits =
        fit_items layout signatures (kind_spelled d.specifiers) facts.bounds are.derived first ended place d.body (in_function (kind_spelled d.specifiers)) (begun_by d now) typed.NoItem plan_is stand (grows_same ended ended refl refl refl)
        (body_faultless d now (part_faultless outline items front (external_by d) part unit.faultless)) calls_fall
        (bounds_body outline items program unit are.derived facts.bounds front d part (bounds_are program names facts are))
        (λ o m. or_right ((at_entry layout signatures number first variables).live o) (block_declares body o) m) tt

    abbrev made : high.Function
    made = function_planned (plan_of program facts) program.variables end (slice_index_or facts.ranks.of_functions (0 + number) 0) (function_by d now)

    owned_parameters : (o : ℕ) → are_from first (length (signatures.parameters number)) o ≡ true → owner_of program o ≡ number
    owned_parameters o from =
        let parts = and_parts (nat_le first o) (nat_lt o (first + length (signatures.parameters number))) from in
        let low = leb-true first o parts.0 in
        let high = ltb-true o (first + length (signatures.parameters number)) parts.1 in
        let same : length (signatures.parameters number) ≡ length given = ap length parameters_are in
        let long = many in
        let longer = own_long in
        let last = ended_long in
        owned o low (omega (arith, high, same, long, longer, last))

    words_are : frame_scalars handed ≡ words_in (signatures.parameters number)
    words_are = ap frame_scalars handed_is ∙ sym (words_counted given listed.added listed.match) ∙ ap words_in (sym parameters_are)

    passed_are : passed_arrays handed ≡ arrays_in (signatures.parameters number)
    passed_are = ap passed_arrays handed_is ∙ sym (arrays_counted given listed.added listed.match) ∙ ap arrays_in (sym parameters_are)

    -- how the function serves, with as many variables as its own scalars
    pub serves_own : (s : Serves layout signatures (rest_of program facts) number first body made) × (s.variables ≡ variables)
    serves_own = (
      record {
        variables = variables;
        parameters = subst (AreParameters layout first 0 0) (sym parameters_are) stands;
        owned = owned_parameters;
        enough = subst (λ n. n ≤ variables) words_are scalars_handed;
        fits = subst (λ k. FitItems layout signatures k facts.bounds place body) (sym (ap result_in function_is)) fits;
        values_are = words_are;
        arrays_are = passed_are;
        body_is = refl;
        within = all_within-needed (made.values + made.locals) (all_planned (plan_of program facts) body variables out_of_body)
            (room (frame_scalars handed) variables (frame_needed (body_planned (plan_of program facts) body variables)) (frame_needed_all (all_planned (plan_of program facts) body variables out_of_body)) scalars_handed (needed (frame_needed_all (all_planned (plan_of program facts) body variables out_of_body))));
      },
      refl,
    )
      where
        room : (v s n p : ℕ) → v ≤ s → p ≤ n → p ≤ v + (max s n - v)
        room v s n p le enough = omega (arith, le, enough)

        needed : (p : ℕ) → p ≤ max p (max 0 0)
        needed p = omega arith

    pub served : IsServed layout signatures (rest_of program facts) (functions_planned (plan_of program facts) program.variables facts.ranks.of_functions 0 program.functions) number first body
    served = record {
      function = made;
      there =
          ap (λ fs. slice_get (functions_planned (plan_of program facts) program.variables facts.ranks.of_functions 0 fs) number) (unit.functions_are ∙ a.functions_are)
          ∙ planned_at (plan_of program facts) program.variables facts.ranks.of_functions 0 (functions_of front (started outline)) (function_by d now) a.later;
      serves = serves_own.0;
    }

  pub all_serve : (main : ℕ) → AllServe layout signatures (rest_of program facts) (program_planned program facts main).functions
  all_serve main = record { by = λ number f e. of number f (defined outline items number f (ap (λ l. slice_get l number) (sym unit.functions_are) ∙ e)) }
    where
      of : (number : ℕ) (f : typed.Function) → IsDefined outline items number f → FunctionServed layout signatures (rest_of program facts) (functions_planned (plan_of program facts) program.variables facts.ranks.of_functions 0 program.functions) number f
      of number f x =
          let d = x.definition in
          let now = behind outline x.front in
          subst (FunctionServed layout signatures (rest_of program facts) (functions_planned (plan_of program facts) program.variables facts.ranks.of_functions 0 program.functions) number) (sym x.function_is)
          (subst (λ n. IsServed layout signatures (rest_of program facts) (functions_planned (plan_of program facts) program.variables facts.ranks.of_functions 0 program.functions) n (length now.variables) (typed_items (kind_spelled d.specifiers) d.body (begun_by d now) typed.NoItem)) (sym x.number_is) (served x.front d x.part))
