-- The bounds of the loops of a function are those that its sites give.
use Rattle.std.proofs.Common.{◌≡◌, ⊎_elim, refl, ap, ◌∙◌, sym, subst, ℕ, ◌+◌, Bool, true, false, List, [], ◌∷◌, Option, Some, None, Result, Ok, Err, arith, zero-add}
use Rattle.std.specs.Prelude.{if◌then◌else◌, nat_lt, ◌^◌, slice_get}
use Rattle.std.proofs.lemmas.Bool.{false≢true}
use Rattle.c_tree.specs.Tree.{Row, Nothing, Then, Param, Parameter, External, Restriction, Declaring, Function}
use Rattle.facts_definitions.specs.FlowFacts.{AreFacts, bounds_in, facts_of, first_fault, known_of, most_main, unless_faulty, unless_too_often}
use Rattle.facts_definitions.specs.Most.{cut}
use Rattle.facts_definitions.specs.declared.facts.FlowFault.TheVariants.{TooOften}
use Rattle.facts_definitions.specs.Sites.{external_sites, externals_sites, function_sites, items_sites, sites_of}
use Rattle.facts_definitions.specs.declared.facts.Bounds.{Bounds}
use Rattle.facts_definitions.specs.declared.facts.Derived.{Derived}
use Rattle.facts_definitions.specs.declared.facts.Facts.{Facts}
use Rattle.facts_definitions.specs.declared.facts.FlowFault.{FlowFault}
use Rattle.types_tree.specs.Tree as typed
use Rattle.types_rules.specs.DeclarationRules.{after_param, after_params, is_no_list, within_function}
use Rattle.types_rules.specs.Scope.{Around, Outline, after_row, started}
use Rattle.types_rules.specs.Sights.{after_external}
use Rattle.types_rules.specs.Specifiers.{kind_spelled}
use Rattle.types_rules.specs.Typing.{and_external, typed_external, typed_items, typed_row}
use Rattle.plan_served.specs.Places.{AreBounds}
use Rattle.plan_served.proofs.Loops.{bounds_first, bounds_second, loops_declaration, loops_items, loops_of}
use Rattle.types_seen.specs.Fronts.{Definition, IsFront, begun_by, behind, ended_by, external_by}
use Rattle.types_seen.specs.Units.{IsUnit}
use Rattle.plan_served.proofs.Fronts.{function_at}
use Rattle.types_seen.proofs.Fronts.{front_itself, front_less, is_nothing}

-- facts of a program have the bounds that its sites give
abbrev is_fine : Result Facts FlowFault → Bool
is_fine (Ok f) = true
is_fine (Err fault) = false

abbrev facts_or : Facts → Result Facts FlowFault → Facts
facts_or other (Ok f) = f
facts_or other (Err fault) = other

same_facts : (o : Option FlowFault) (most : ℕ) (made facts : Facts) → unless_faulty o (unless_too_often most made) ≡ Ok facts → made ≡ facts
same_facts (Some fault) most made facts e = absurd (false≢true (ap is_fine e))
same_facts None most made facts e = of (nat_lt most (2 ^ 40)) e
  where
    of : (b : Bool) → (if b then Ok made else Err (TooOften (cut most))) ≡ Ok facts → made ≡ facts
    of true e = ap (facts_or made) e
    of false e = absurd (false≢true (ap is_fine e))

pub bounds_are : (program : typed.Program) (names : List (List ℕ)) (facts : Facts) → (are : AreFacts program names facts) → AreBounds are.derived facts.bounds 0 (sites_of program)
bounds_are program names facts are =
    let made = facts_of program names facts.ranks are.derived in
    let same : made ≡ facts = same_facts (first_fault (known_of program names are.derived) (sites_of program)) (most_main program names (bounds_in program are.derived) facts.ranks) made facts are.whole in
    record { by = λ i b e. ap (λ f. slice_get f.bounds (0 + i)) (sym same) ∙ ap (slice_get made.bounds) (zero-add i) ∙ e }

-- parameters have no loops
param_loops : (p : Param ℕ) (a : Around) → (after_param p a).loops ≡ a.loops
param_loops (Parameter specifiers None shape at) a = refl
param_loops (Parameter specifiers (Some name) shape at) a = refl

row_loops : (ps : Row (Param ℕ)) (a : Around) → (after_row after_param ps a).loops ≡ a.loops
row_loops Nothing a = refl
row_loops (Then front last) a = param_loops last (after_row after_param front a) ∙ row_loops front a

pub begun_loops : (d : Definition) (a : Around) → (begun_by d a).loops ≡ a.loops
begun_loops d a = of (is_no_list d.params)
  where
    of : (b : Bool) → (if b then within_function d.specifiers d.name d.params a else after_params d.params (within_function d.specifiers d.name d.params a)).loops ≡ a.loops
    of true = refl
    of false = row_loops d.params (within_function d.specifiers d.name d.params a)

module _ (outline : Outline) (items : Row (External ℕ)) (program : typed.Program) (unit : IsUnit outline items program) (derived : List Derived) (bounds : List Bounds) where
  abbrev AreAt : Around → List typed.External → Type 0
  AreAt a rest = AreBounds derived bounds a.loops (externals_sites program rest)

  one_loop : (front : Row (External ℕ)) (x : External ℕ) → IsFront (Then front x) items → (behind outline front).loops + loops_of derived (external_sites program (typed_external x (behind outline front))) ≡ (after_external x (behind outline front)).loops
  one_loop front (Restriction pragma) part = omega arith
  one_loop front (Declaring d) part = loops_declaration derived program.variables d (behind outline front)
  one_loop front (Function specifiers name name_at params body body_at at) part =
      let d : Definition = record { specifiers = specifiers; name = name; name_at = name_at; params = params; body = body; body_at = body_at; at = at } in
      let now = behind outline front in
      let inner = loops_items derived program.variables (kind_spelled specifiers) body (begun_by d now) typed.NoItem in
      let begun = begun_loops d now in
      ap (λ o. now.loops + loops_of derived (function_sites program.variables o)) (function_at outline items program unit front d part) ∙ ended now.loops (begun_by d now).loops (ended_by d now).loops (loops_of derived (items_sites program.variables (typed_items (kind_spelled specifiers) body (begun_by d now) typed.NoItem))) begun inner
    where
      ended : (n b e l : ℕ) → b ≡ n → b + l ≡ e + 0 → n + l ≡ e
      ended n b e l h k = omega (arith, h, k)

  -- behind the first parts
  bounds_front : (front : Row (External ℕ)) (rest : List typed.External) → IsFront front items → AreBounds derived bounds 0 (externals_sites program (typed_row after_external and_external front (started outline) rest)) → AreAt (behind outline front) rest
  bounds_front Nothing rest part h = h
  bounds_front (Then front last) rest part h =
      let now = behind outline front in
      let made = typed_external last now in
      bounds_second derived bounds now.loops (after_external last now).loops (external_sites program made) (externals_sites program rest) (one_loop front last part)
      (bounds_front front (made ∷ rest) (front_less front last items part) h)

  -- at a part, with what stands behind it
  bounds_part : (row : Row (External ℕ)) (rest : List typed.External) → IsFront row items → (front : Row (External ℕ)) (x : External ℕ) → IsFront (Then front x) row → AreBounds derived bounds 0 (externals_sites program (typed_row after_external and_external row (started outline) rest)) →
      (later : List typed.External) × AreAt (behind outline front) (typed_external x (behind outline front) ∷ later)
  bounds_part Nothing rest is front x part h = absurd (false≢true (ap is_nothing part))
  bounds_part (Then before last) rest is front x part h = ⊎_elim
      (λ (e : Then front x ≡ Then before last).
      subst (λ r. AtPart r) (sym e) (rest, bounds_front before (typed_external last (behind outline before) ∷ rest) (front_less before last items is) h))
      (λ (m : IsFront (Then front x) before). bounds_part before (typed_external last (behind outline before) ∷ rest) (front_less before last items is) front x m h)
      part
    where
      AtPart : Row (External ℕ) → Type 0
      AtPart Nothing = Unit {0}
      AtPart (Then front x) = (later : List typed.External) × AreAt (behind outline front) (typed_external x (behind outline front) ∷ later)

  pub bounds_body : (front : Row (External ℕ)) (d : Definition) → IsFront (Then front (external_by d)) items → AreBounds derived bounds 0 (sites_of program) →
      AreBounds derived bounds (begun_by d (behind outline front)).loops (items_sites program.variables (typed_items (kind_spelled d.specifiers) d.body (begun_by d (behind outline front)) typed.NoItem))
  bounds_body front d part h =
      let now = behind outline front in
      let whole = subst (λ l. AreBounds derived bounds 0 (externals_sites program l)) unit.items_are h in
      let p = bounds_part items [] (front_itself items) front (external_by d) part whole in
      let own = bounds_first derived bounds now.loops (external_sites program (typed_external (external_by d) now)) (externals_sites program p.0) p.1 in
      let named_sites = subst (λ o. AreBounds derived bounds now.loops (function_sites program.variables o)) (function_at outline items program unit front d part) own in
      subst (λ n. AreBounds derived bounds n (items_sites program.variables (typed_items (kind_spelled d.specifiers) d.body (begun_by d now) typed.NoItem))) (sym (begun_loops d now)) (record { by = named_sites.by })
