-- Assignments and steps: their code stores what they store.
use Rattle.std.proofs.Common.{◌≡◌, ⊎_elim, ℕ, ◌+◌, ◌<◌, ◌≤◌, Bool, false, not, List, Some, None, refl, sym, ap, ◌∙◌, subst, arith}
use Rattle.std.specs.Prelude.{◌&&◌, ◌||◌}
use Rattle.std.proofs.lemmas.List.{get_or-set_same}
use Rattle.meaning_semantics.specs.State as source
use Rattle.meaning_semantics.specs.declared.outcome.Change.{Change}
use Rattle.meaning_semantics.specs.declared.outcome.Found.{Found}
use Rattle.meaning_semantics.specs.declared.outcome.Stop.{Stop}
use Rattle.meaning_semantics.specs.declared.outcome.Target.{Target as Aim}
use Rattle.meaning_semantics.specs.declared.outcome.Stop.TheVariants.{Undefined}
use Rattle.types_tree.specs.declared.expression.Fix.{Fix}
use Rattle.types_tree.specs.declared.expression.Fix.TheVariants.{Prefix, Postfix}
use Rattle.types_value.specs.Kinds as c
use Rattle.types_value.specs.Operators.{computed, word_of}
use Rattle.types_value.specs.declared.kind.Kind.{Kind as CType}
use Rattle.types_value.specs.declared.operator.Operator.{Operator}
use Rattle.high_ir.specs.declared.object.Array.{Array}
use Rattle.high_ir.specs.declared.object.Kind.{Kind}
use Rattle.high_ir.specs.declared.object.Kind.TheVariants.{Word}
use Rattle.high_ir.specs.Tree.{Expr, Constant, Variable, Element, Set, Keep, Statements, End, Then}
use Rattle.high_ir.specs.Meaning.{World, State, object_number}
use Rattle.high_ir.specs.Words.{converted}
use Rattle.high_code.specs.Code.{joined, alone, is_empty, AllWithin}
use Rattle.high_code.proofs.Joined.{AllWithin-joined}
use Rattle.plan_definition.specs.declared.purpose.Purpose.{Purpose}
use Rattle.plan_definition.specs.declared.purpose.Purpose.TheVariants.{Value, Effect, Unless, When}
use Rattle.plan_definition.specs.Homes.{Target, InFrame, InMemory}
use Rattle.plan_definition.specs.Operators.{convert, kind_of, operated}
use Rattle.plan_definition.specs.Values.{Valued, Aimed, known, finished, is_changed, is_leaf, is_variable, kept, firm, leaf, plain, set_to, kept_in, leaf_for, assigned, changed_in, updated, stepped_behind, stepped}
use Rattle.plan_runs.specs.Cells.{cell, size, put_cell}
use Rattle.plan_runs.specs.ExpressionFits.{Suits}
use Rattle.plan_runs.specs.Meets.{IsArray}
use Rattle.plan_runs.specs.Claims.{Setting, IsSetting, MeetsIn, Went, HasValue, ValueFor, Ends, Gives, Points, Finds}
use Rattle.plan_runs.proofs.Steps.{read_cases, write_cases}
use Rattle.plan_runs.proofs.Stores.{put_variable}
use Rattle.plan_runs.proofs.Operators.{converted-promoted, converted-Word, computed_cases, value_of-convert, value_of-operated, converted-kind_of}
use Rattle.plan_runs.proofs.Holding.{went_below, went_with, went_nothing, went_then, went_Set, within_held, held_went, stable_empty, kept_stable, firm_stable, firm_elsewhere, leaf_anywhere}
use Rattle.plan_runs.proofs.Finishing.{ended, ended_Effect, went, finished_ends, finished_gives, value_gives}
use Rattle.plan_runs.proofs.Places.{loaded_value, points_range, set_went, keep_went}
use Rattle.plan_runs.proofs.Plain.{converted_range}

pub suits_range : (from to : Kind) (w : ℕ) → Suits from to → converted from w ≡ w → converted to w ≡ w
suits_range from to w suits range = ⊎_elim
    (λ (e : to ≡ Word). ap (λ q. converted q w) e ∙ converted-Word w)
    (λ (e : to ≡ from). ap (λ q. converted q w) e ∙ range)
    suits

-- the word behind a change, before it is converted and then
abbrev pub result_of : Operator → (kind : CType) → (before word : ℕ) → ℕ
result_of operator kind before word = word_of operator (c.is_signed kind) (c.converted kind before) word

abbrev pub behind_of : Operator → (kind to : CType) → (before word : ℕ) → ℕ
behind_of operator kind to before word = c.converted to (result_of operator kind before word)

-- a change that has a value
pub changed_cases : (C : source.Outcome Change → Type 0) (found : Found) (operator : Operator) (kind to : CType) (word : ℕ) (st : source.State) → ((stop : Stop) → C (source.Stopped stop)) →
    ((before : ℕ) → cell st.objects found.object found.index ≡ Some before → found.index < size st.objects found.object →
    C (source.Fine (record { before = before; behind = behind_of operator kind to before word }) (source.with_objects st (put_cell st.objects found.object found.index (behind_of operator kind to before word))))) →
    C (source.changed found operator kind to word st)
changed_cases C found operator kind to word st stops fine =
    read_cases (λ o. C (source.then_do o (λ before st1. source.then_do (source.settled (computed operator kind (c.converted kind before) word) found.at st1) (λ result st2. source.then_do (source.write found (c.converted to result) st2) (λ behind st3. source.Fine (record { before = before; behind = behind }) st3))))) found st stops
    (λ before holds.
    computed_cases (λ r. C (source.then_do (source.settled r found.at st) (λ result st2. source.then_do (source.write found (c.converted to result) st2) (λ behind st3. source.Fine (record { before = before; behind = behind }) st3)))) operator kind (c.converted kind before) word (λ cause. stops (Undefined (source.rule_of cause) found.at))
    (write_cases (λ o. C (source.then_do o (λ behind st3. source.Fine (record { before = before; behind = behind }) st3))) found st stops (behind_of operator kind to before word) (λ lt. fine before holds lt)))

module _ (s : Setting) (ok : IsSetting s) (k : ℕ) (le : s.function.variables ≤ k) (st : source.State) (hs : State) where
  next : s.function.variables ≤ k + 1
  next = omega (arith, le)

  -- a value as a leaf, or as it is where it is dropped
  leaf_went : (purpose : Purpose) (right : Valued) (range : Kind) (st1 st2 : source.State) (w : ℕ) (h : State) → AllWithin s.room (leaf_for purpose (k + 1) right).code → (AllWithin s.room right.code → Ends s Value right (k + 1) st1 h range w st2) → Went s (leaf_for purpose (k + 1) right).code (k + 1) st1 h st2 (HasValue s (leaf_for purpose (k + 1) right).value w)
  leaf_went purpose right range st1 st2 w h within e = of purpose within
    where
      as_leaf : AllWithin s.room (leaf (k + 1) right).code → Went s (leaf (k + 1) right).code (k + 1) st1 h st2 (HasValue s (leaf (k + 1) right).value w)
      as_leaf within =
          let needed = not (is_leaf right.value) in
          let parts = within_held s ok needed (k + 1) right End within in
          went_with s ok (leaf (k + 1) right).code (k + 1) st1 h st2 (λ h. HasValue s (leaf (k + 1) right).value w h × Unit {0}) (HasValue s (leaf (k + 1) right).value w)
          (held_went s ok needed (k + 1) right End st1 h st2 st2 w (λ h. Unit {0}) next parts.2 (went s (k + 1) st1 h range right w st2 (e parts.0)) (λ h m. went_nothing s ok (k + 1 + 1) st2 h (λ h. Unit {0}) m tt) (λ e. stable_empty s ok right.value w End refl))
          (λ h has. has.0)

      of : (purpose : Purpose) → AllWithin s.room (leaf_for purpose (k + 1) right).code → Went s (leaf_for purpose (k + 1) right).code (k + 1) st1 h st2 (HasValue s (leaf_for purpose (k + 1) right).value w)
      of Value within = as_leaf within
      of Effect within = went s (k + 1) st1 h range right w st2 (e within)
      of (Unless depth) within = as_leaf within
      of (When depth) within = as_leaf within

  stays_stored : (purpose : Purpose) (right : Valued) (w : ℕ) (h : State) (world : World) (t : List ℕ) → HasValue s (leaf_for purpose (k + 1) right).value w h → ValueFor s (plain purpose) (leaf_for purpose (k + 1) right).value w (record { variables = h.variables; world = world; trace = t })
  stays_stored Value right w h world t has = leaf_anywhere s ok (k + 1) right w h world t has
  stays_stored Effect right w h world t has = tt
  stays_stored (Unless depth) right w h world t has = leaf_anywhere s ok (k + 1) right w h world t has
  stays_stored (When depth) right w h world t has = leaf_anywhere s ok (k + 1) right w h world t has

  ended_plain : (purpose : Purpose) (p : Valued) (range : Kind) (v : ℕ) (st1 : source.State) → Went s p.code k st hs st1 (ValueFor s (plain purpose) p.value v) → converted range v ≡ v → Ends s (plain purpose) p k st hs range v st1
  ended_plain Value p range v st1 w is = record { behind = w.behind; runs = w.runs; reached = w.reached; value = w.has; range_is = is }
  ended_plain Effect p range v st1 w is = record { behind = w.behind; runs = w.runs; reached = w.reached; value = tt; range_is = is }
  ended_plain (Unless depth) p range v st1 w is = record { behind = w.behind; runs = w.runs; reached = w.reached; value = w.has; range_is = is }
  ended_plain (When depth) p range v st1 w is = record { behind = w.behind; runs = w.runs; reached = w.reached; value = w.has; range_is = is }

  -- what is found, and the right side behind it
  module _ (code : Statements) (right : Valued) (kind range_right : Kind) (found : Found) (st1 st2 : source.State) (u : ℕ)
      (right_ends : AllWithin s.room right.code → (h : State) → MeetsIn s st1 h → Ends s Value right (k + 1) st1 h range_right u st2) where
    -- a word that is computed from the right side, in a variable
    frame_went : (x : ℕ) (e : Expr) (w : ℕ) → AllWithin s.room (set_to x code (record { code = right.code; value = e })).code → (AllWithin s.room code → Went s code k st hs st1 (Points s (InFrame x) kind false found)) →
        ((h : State) → MeetsIn s st2 h → Points s (InFrame x) kind false found h → HasValue s right.value u h → HasValue s e w h) → converted kind w ≡ w → found.index < size st2.objects found.object →
        Went s (set_to x code (record { code = right.code; value = e })).code k st hs (source.with_objects st2 (put_cell st2.objects found.object found.index w)) (HasValue s (Variable x) w)
    frame_went x e w within finds computes range lt =
        let parts = AllWithin-joined s.room code (joined right.code (alone (Set x e))) within in
        let behind = AllWithin-joined s.room right.code (alone (Set x e)) parts.1 in
        let st3 = source.with_objects st2 (put_cell st2.objects found.object found.index w) in
        went_then s ok code (joined right.code (alone (Set x e))) k st hs st1 st3 (Points s (InFrame x) kind false found) (HasValue s (Variable x) w) (finds parts.0)
        (λ h m p.
        went_then s ok right.code (alone (Set x e)) k st1 h st2 st3 (HasValue s right.value u) (HasValue s (Variable x) w)
        (went_below s ok k (k + 1) right.code st1 h st2 (HasValue s right.value u) (omega arith) (went s (k + 1) st1 h range_right right u st2 (right_ends behind.0 h m)))
        (λ h2 m2 has.
        went_with s ok (alone (Set x e)) k st2 h2 st3 (λ h3. h3 ≡ put_variable h2 x w) (HasValue s (Variable x) w)
        (set_went s ok x k kind found e w st2 h2 le behind.1.0 m2 p (computes h2 m2 p has) range lt)
        (λ h3 is. subst (HasValue s (Variable x) w) (sym is) (get_or-set_same h2.variables x (Some w) None (subst (λ n. x < n) (sym m2.room_is) behind.1.0)))))

    module _ (array : Array) (index : Expr) (finds : AllWithin s.room code → Went s code k st hs st1 (Points s (InMemory array index) kind false found)) where
      abbrev place : Valued
      place = record { code = code; value = index }

      -- the right side in an element
      element_went : (purpose : Purpose) → AllWithin s.room (kept_in array k place (leaf_for purpose (k + 1) right)).code → converted kind u ≡ u → found.index < size st2.objects found.object →
          Went s (kept_in array k place (leaf_for purpose (k + 1) right)).code k st hs (source.with_objects st2 (put_cell st2.objects found.object found.index u)) (ValueFor s (plain purpose) (leaf_for purpose (k + 1) right).value u)
      element_went purpose within range lt =
          let value = leaf_for purpose (k + 1) right in
          let needed = not (is_empty value.code) && is_changed index value.code in
          let i = kept k place value.code in
          let all = AllWithin-joined s.room i.code (alone (Keep array i.value value.value)) within in
          let parts = within_held s ok needed k place value.code all.0 in
          let found_at = finds parts.0 in
          let st3 = source.with_objects st2 (put_cell st2.objects found.object found.index u) in
          went_then s ok i.code (alone (Keep array i.value value.value)) k st hs st2 st3 (λ h. HasValue s i.value found.index h × HasValue s value.value u h) (ValueFor s (plain purpose) value.value u)
          (held_went s ok needed k place value.code st hs st1 st2 found.index (HasValue s value.value u) le parts.2
          (went_with s ok code k st hs st1 (Points s (InMemory array index) kind false found) (HasValue s index found.index) found_at (λ h p. p.1))
          (λ h m. leaf_went purpose right range_right st1 st2 u h parts.1 (λ inner. right_ends inner h m))
          (kept_stable s ok k place found.index value.code))
          (λ h m has.
          went_with s ok (alone (Keep array i.value value.value)) k st2 h st3 (λ h1. (world : World) × (h1 ≡ record { variables = h.variables; world = world; trace = h.trace })) (ValueFor s (plain purpose) value.value u)
          (keep_went s ok array i.value value.value k kind found u u st2 h m found_at.has.0 has.0 found_at.has.2 has.1 range range lt)
          (λ h1 is. subst (ValueFor s (plain purpose) value.value u) (sym is.1) (stays_stored purpose right u h is.0 h.trace has.1)))

      -- the index as a leaf, and then the right side
      firm_went : AllWithin s.room (firm k place right.code).code → Went s (firm k place right.code).code k st hs st2 (λ h. HasValue s (firm k place right.code).value found.index h × HasValue s right.value u h)
      firm_went within =
          let needed = not (is_leaf index) || (is_changed index right.code || is_variable (k + 1) index) in
          let parts = within_held s ok needed k place right.code within in
          held_went s ok needed k place right.code st hs st1 st2 found.index (HasValue s right.value u) le parts.2
          (went_with s ok code k st hs st1 (Points s (InMemory array index) kind false found) (HasValue s index found.index) (finds parts.0) (λ h p. p.1))
          (λ h m. went s (k + 1) st1 h range_right right u st2 (right_ends parts.1 h m))
          (firm_stable s ok k place found.index right.code)

      is_array : AllWithin s.room (firm k place right.code).code → IsArray s.layout found.object array.kind false (object_number s.passed array.base) × (array.kind ≡ kind)
      is_array within =
          let parts = within_held s ok (not (is_leaf index) || (is_changed index right.code || is_variable (k + 1) index)) k place right.code within in
          let found_at = finds parts.0 in
          (found_at.has.0, found_at.has.2)

      -- a word that is computed from an element, in the same element
      module _ (new : Expr → Expr) (result : ℕ) (to : CType) (before : ℕ) (kind_is : kind_of to ≡ kind) (holds : cell st2.objects found.object found.index ≡ Some before) (lt : found.index < size st2.objects found.object)
          (computes : (h : State) (old : Expr) → HasValue s old before h → HasValue s right.value u h → HasValue s (new old) result h) where
        abbrev i : Valued
        i = firm k place right.code

        abbrev st3 : source.State
        st3 = source.with_objects st2 (put_cell st2.objects found.object found.index (c.converted to result))

        becomes : converted kind result ≡ c.converted to result
        becomes = ap (λ q. converted q result) (sym kind_is) ∙ converted-kind_of to result

        in_range : converted kind (c.converted to result) ≡ c.converted to result
        in_range = ap (λ q. converted q (c.converted to result)) (sym kind_is) ∙ converted_range to result

        old_value : (h : State) → MeetsIn s st2 h → HasValue s i.value found.index h → AllWithin s.room i.code → HasValue s (Element array i.value) before h
        old_value h m at within = let a = is_array within in loaded_value s ok (InMemory array i.value) kind false found h st2 before m (a.0, at, a.1) holds

        changed_effect : AllWithin s.room (joined i.code (alone (Keep array i.value (new (Element array i.value))))) → Went s (joined i.code (alone (Keep array i.value (new (Element array i.value))))) k st hs st3 (λ h. Unit {0})
        changed_effect within =
            let all = AllWithin-joined s.room i.code (alone (Keep array i.value (new (Element array i.value)))) within in
            let a = is_array all.0 in
            went_then s ok i.code (alone (Keep array i.value (new (Element array i.value)))) k st hs st2 st3 (λ h. HasValue s i.value found.index h × HasValue s right.value u h) (λ h. Unit {0}) (firm_went all.0)
            (λ h m has.
            went_with s ok (alone (Keep array i.value (new (Element array i.value)))) k st2 h st3 (λ h1. (world : World) × (h1 ≡ record { variables = h.variables; world = world; trace = h.trace })) (λ h. Unit {0})
            (keep_went s ok array i.value (new (Element array i.value)) k kind found result (c.converted to result) st2 h m a.0 has.0 a.1 (computes h (Element array i.value) (old_value h m has.0 all.0) has.1) becomes in_range lt)
            (λ h1 is. tt))

        abbrev tail : Statements
        tail = Then (Set (k + 1) (convert to (new (Element array i.value)))) (alone (Keep array i.value (Variable (k + 1))))

        changed_value : AllWithin s.room (joined i.code tail) → Went s (joined i.code tail) k st hs st3 (HasValue s (Variable (k + 1)) (c.converted to result))
        changed_value within =
            let all = AllWithin-joined s.room i.code tail within in
            let a = is_array all.0 in
            let w = c.converted to result in
            went_then s ok i.code tail k st hs st2 st3 (λ h. HasValue s i.value found.index h × HasValue s right.value u h) (HasValue s (Variable (k + 1)) w) (firm_went all.0)
            (λ h m has.
            went_below s ok k (k + 1) tail st2 h st3 (HasValue s (Variable (k + 1)) w) (omega arith)
            (went_with s ok tail (k + 1) st2 h st3 (λ h1. HasValue s (Variable (k + 1)) w h1 × Unit {0}) (HasValue s (Variable (k + 1)) w)
            (went_Set s ok (k + 1) (convert to (new (Element array i.value))) w (alone (Keep array i.value (Variable (k + 1)))) st2 h st3 (λ h1. Unit {0}) next all.1.0 m
            (value_of-convert s.passed h.variables h.world to (new (Element array i.value)) result (computes h (Element array i.value) (old_value h m has.0 all.0) has.1))
            (λ m1 is.
            let h1 = put_variable h (k + 1) w in
            went_with s ok (alone (Keep array i.value (Variable (k + 1)))) (k + 1 + 1) st2 h1 st3 (λ h2. (world : World) × (h2 ≡ record { variables = h1.variables; world = world; trace = h1.trace })) (λ h. Unit {0})
            (keep_went s ok array i.value (Variable (k + 1)) (k + 1 + 1) kind found w w st2 h1 m1 a.0 (firm_elsewhere s ok k place right.code found.index w h has.0) a.1 is in_range in_range lt)
            (λ h2 e. tt)))
            (λ h1 both. both.0)))

  -- an assignment
  assign_found : (purpose : Purpose) (target : Target) (code : Statements) (right : Valued) (kind range_right : Kind) (found : Found) (st1 st2 : source.State) (u : ℕ) → AllWithin s.room (assigned purpose k target code right).code → (AllWithin s.room code → Went s code k st hs st1 (Points s target kind false found)) →
      (AllWithin s.room right.code → (h : State) → MeetsIn s st1 h → Ends s Value right (k + 1) st1 h range_right u st2) → converted kind u ≡ u → Gives s purpose (finished purpose (assigned purpose k target code right)) k st hs kind (source.write found u st2)
  assign_found purpose (InFrame x) code right kind range_right found st1 st2 u within finds right_ends range =
      write_cases (Gives s purpose (finished purpose (set_to x code right)) k st hs kind) found st2 (λ stop. tt) u
      (λ lt. value_gives s k st hs kind purpose (set_to x code right) u (source.with_objects st2 (put_cell st2.objects found.object found.index u))
      (frame_went code right kind range_right found st1 st2 u right_ends x right.value u within finds (λ h m p has. has) range lt) range)
  assign_found purpose (InMemory array index) code right kind range_right found st1 st2 u within finds right_ends range =
      write_cases (Gives s purpose (finished purpose (assigned purpose k (InMemory array index) code right)) k st hs kind) found st2 (λ stop. tt) u
      (λ lt. finished_ends s k st hs kind purpose (assigned purpose k (InMemory array index) code right) u (source.with_objects st2 (put_cell st2.objects found.object found.index u))
      (ended_plain purpose (assigned purpose k (InMemory array index) code right) kind u (source.with_objects st2 (put_cell st2.objects found.object found.index u))
      (element_went code right kind range_right found st1 st2 u right_ends array index finds purpose within range lt) range))

  within_leaf_for : (purpose : Purpose) (right : Valued) → AllWithin s.room (leaf_for purpose (k + 1) right).code → AllWithin s.room right.code
  within_leaf_for Value right h = (within_held s ok (not (is_leaf right.value)) (k + 1) right End h).0
  within_leaf_for Effect right h = h
  within_leaf_for (Unless depth) right h = (within_held s ok (not (is_leaf right.value)) (k + 1) right End h).0
  within_leaf_for (When depth) right h = (within_held s ok (not (is_leaf right.value)) (k + 1) right End h).0

  within_assigned : (purpose : Purpose) (target : Target) (code : Statements) (right : Valued) → AllWithin s.room (assigned purpose k target code right).code → AllWithin s.room code × AllWithin s.room right.code
  within_assigned purpose (InFrame x) code right h =
      let parts = AllWithin-joined s.room code (joined right.code (alone (Set x right.value))) h in
      (parts.0, (AllWithin-joined s.room right.code (alone (Set x right.value)) parts.1).0)
  within_assigned purpose (InMemory array index) code right h =
      let place : Valued = record { code = code; value = index } in
      let value = leaf_for purpose (k + 1) right in
      let i = kept k place value.code in
      let all = AllWithin-joined s.room i.code (alone (Keep array i.value value.value)) h in
      let parts = within_held s ok (not (is_empty value.code) && is_changed index value.code) k place value.code all.0 in
      (parts.0, within_leaf_for purpose right parts.1)

  pub assign_gives : (purpose : Purpose) (p : Aimed) (right : Valued) (kind range_right : Kind) (o : source.Outcome Found) (go : source.State → source.Outcome ℕ) → AllWithin s.room (assigned purpose k p.target p.code right).code → (AllWithin s.room p.code → Finds s p k st hs kind false o) →
      (AllWithin s.room right.code → (st1 : source.State) (h : State) → MeetsIn s st1 h → Gives s Value right (k + 1) st1 h range_right (go st1)) → Suits range_right kind →
      Gives s purpose (finished purpose (assigned purpose k p.target p.code right)) k st hs kind (source.then_do {A = Aim} (source.then_do o (λ found st1. source.then_do (go st1) (λ word st2. source.Fine (record { found = found; word = word }) st2))) (λ target st1. source.write target.found target.word st1))
  assign_gives purpose p right kind range_right (source.Stopped stop) go within finds rights suits = tt
  assign_gives purpose p right kind range_right (source.Fine found st1) go within finds rights suits = of (go st1) (λ inner h m. rights inner st1 h m)
    where
      of : (o : source.Outcome ℕ) → (AllWithin s.room right.code → (h : State) → MeetsIn s st1 h → Gives s Value right (k + 1) st1 h range_right o) → Gives s purpose (finished purpose (assigned purpose k p.target p.code right)) k st hs kind (source.then_do {A = Aim} (source.then_do o (λ word st2. source.Fine (record { found = found; word = word }) st2)) (λ target st1. source.write target.found target.word st1))
      of (source.Stopped stop) second = tt
      of (source.Fine u st2) second =
          let parts = within_assigned purpose p.target p.code right within in
          let found_at = finds parts.0 in
          let e = second parts.1 found_at.behind found_at.reached.meets in
          assign_found purpose p.target p.code right kind range_right found st1 st2 u within finds second (suits_range range_right kind u suits e.range_is)

  within_changed_in : (purpose : Purpose) (array : Array) (i : Valued) (new converts : Expr → Expr) → AllWithin s.room (changed_in purpose array k i new converts).code → AllWithin s.room i.code
  within_changed_in Effect array i new converts h = (AllWithin-joined s.room i.code (alone (Keep array i.value (new (Element array i.value)))) h).0
  within_changed_in Value array i new converts h = (AllWithin-joined s.room i.code (Then (Set (k + 1) (converts (new (Element array i.value)))) (alone (Keep array i.value (Variable (k + 1))))) h).0
  within_changed_in (Unless depth) array i new converts h = (AllWithin-joined s.room i.code (Then (Set (k + 1) (converts (new (Element array i.value)))) (alone (Keep array i.value (Variable (k + 1))))) h).0
  within_changed_in (When depth) array i new converts h = (AllWithin-joined s.room i.code (Then (Set (k + 1) (converts (new (Element array i.value)))) (alone (Keep array i.value (Variable (k + 1))))) h).0

  within_updated : (purpose : Purpose) (operator : Operator) (kind to : CType) (target : Target) (code : Statements) (right : Valued) → AllWithin s.room (updated purpose operator kind to k target code right).code → AllWithin s.room code × AllWithin s.room right.code
  within_updated purpose operator kind to (InFrame x) code right h =
      let e = convert to (operated operator (c.is_signed kind) (convert kind (Variable x)) right.value) in
      let parts = AllWithin-joined s.room code (joined right.code (alone (Set x e))) h in
      (parts.0, (AllWithin-joined s.room right.code (alone (Set x e)) parts.1).0)
  within_updated purpose operator kind to (InMemory array index) code right h =
      let place : Valued = record { code = code; value = index } in
      let inner = within_changed_in purpose array (firm k place right.code) (λ old. operated operator (c.is_signed kind) (convert kind old) right.value) (convert to) h in
      let parts = within_held s ok (not (is_leaf index) || (is_changed index right.code || is_variable (k + 1) index)) k place right.code inner in
      (parts.0, parts.1)

  -- a place that is updated, and the right side behind it
  module _ (operator : Operator) (kind to : CType) (at : ℕ) (code : Statements) (right : Valued) (place_kind range_right : Kind) (found : Found) (st1 st2 : source.State) (u : ℕ) (kind_is : kind_of to ≡ place_kind)
      (right_ends : AllWithin s.room right.code → (h : State) → MeetsIn s st1 h → Ends s Value right (k + 1) st1 h range_right u st2) where
    -- the value of an operator on what a place holds and the right side
    computes : (before : ℕ) (h : State) (old : Expr) → HasValue s old before h → HasValue s right.value u h → HasValue s (operated operator (c.is_signed kind) (convert kind old) right.value) (result_of operator kind before u) h
    computes before h old is_old is_right =
        value_of-operated s.passed h.variables h.world operator (c.is_signed kind) (convert kind old) right.value (c.converted kind before) u (value_of-convert s.passed h.variables h.world kind old before is_old) is_right

    range_behind : (before : ℕ) → converted place_kind (behind_of operator kind to before u) ≡ behind_of operator kind to before u
    range_behind before = ap (λ q. converted q (behind_of operator kind to before u)) (sym kind_is) ∙ converted_range to (result_of operator kind before u)

    frame_updated : (x before : ℕ) → AllWithin s.room (updated Value operator kind to k (InFrame x) code right).code → (AllWithin s.room code → Went s code k st hs st1 (Points s (InFrame x) place_kind false found)) → cell st2.objects found.object found.index ≡ Some before → found.index < size st2.objects found.object →
        Went s (updated Value operator kind to k (InFrame x) code right).code k st hs (source.with_objects st2 (put_cell st2.objects found.object found.index (behind_of operator kind to before u))) (HasValue s (Variable x) (behind_of operator kind to before u))
    frame_updated x before within finds holds lt =
        frame_went code right place_kind range_right found st1 st2 u right_ends x (convert to (operated operator (c.is_signed kind) (convert kind (Variable x)) right.value)) (behind_of operator kind to before u) within finds
        (λ h m p has. value_of-convert s.passed h.variables h.world to (operated operator (c.is_signed kind) (convert kind (Variable x)) right.value) (result_of operator kind before u) (computes before h (Variable x) (loaded_value s ok (InFrame x) place_kind false found h st2 before m p holds) has))
        (range_behind before) lt

    -- whichever value is asked for, where it is dropped
    pub update_effect : (target : Target) (value : Change → ℕ) (range : (before : ℕ) → cell st2.objects found.object found.index ≡ Some before → converted place_kind (value (record { before = before; behind = behind_of operator kind to before u })) ≡ value (record { before = before; behind = behind_of operator kind to before u })) →
        AllWithin s.room (updated Effect operator kind to k target code right).code → (AllWithin s.room code → Went s code k st hs st1 (Points s target place_kind false found)) →
        Gives s Effect (updated Effect operator kind to k target code right) k st hs place_kind (source.then_do (source.changed (source.at_place at found) operator kind to u st2) (λ change st3. source.Fine (value change) st3))
    update_effect (InFrame x) value range within finds =
        changed_cases (λ o. Gives s Effect (updated Effect operator kind to k (InFrame x) code right) k st hs place_kind (source.then_do o (λ change st3. source.Fine (value change) st3))) (source.at_place at found) operator kind to u st2 (λ stop. tt)
        (λ before holds lt.
        ended_Effect s k st hs place_kind (updated Effect operator kind to k (InFrame x) code right) (value (record { before = before; behind = behind_of operator kind to before u })) (source.with_objects st2 (put_cell st2.objects found.object found.index (behind_of operator kind to before u))) (HasValue s (Variable x) (behind_of operator kind to before u))
        (frame_updated x before within finds holds lt) (range before holds))
    update_effect (InMemory array index) value range within finds =
        changed_cases (λ o. Gives s Effect (updated Effect operator kind to k (InMemory array index) code right) k st hs place_kind (source.then_do o (λ change st3. source.Fine (value change) st3))) (source.at_place at found) operator kind to u st2 (λ stop. tt)
        (λ before holds lt.
        ended_Effect s k st hs place_kind (updated Effect operator kind to k (InMemory array index) code right) (value (record { before = before; behind = behind_of operator kind to before u })) (source.with_objects st2 (put_cell st2.objects found.object found.index (behind_of operator kind to before u))) (λ h. Unit {0})
        (changed_effect code right place_kind range_right found st1 st2 u right_ends array index finds (λ old. operated operator (c.is_signed kind) (convert kind old) right.value) (result_of operator kind before u) to before kind_is holds lt (computes before) within) (range before holds))

    pub update_value : (target : Target) → AllWithin s.room (updated Value operator kind to k target code right).code → (AllWithin s.room code → Went s code k st hs st1 (Points s target place_kind false found)) →
        Gives s Value (updated Value operator kind to k target code right) k st hs place_kind (source.then_do (source.changed (source.at_place at found) operator kind to u st2) (λ change st3. source.Fine change.behind st3))
    update_value (InFrame x) within finds =
        changed_cases (λ o. Gives s Value (updated Value operator kind to k (InFrame x) code right) k st hs place_kind (source.then_do o (λ change st3. source.Fine change.behind st3))) (source.at_place at found) operator kind to u st2 (λ stop. tt)
        (λ before holds lt.
        ended s k st hs place_kind (updated Value operator kind to k (InFrame x) code right) (behind_of operator kind to before u) (source.with_objects st2 (put_cell st2.objects found.object found.index (behind_of operator kind to before u)))
        (frame_updated x before within finds holds lt) (range_behind before))
    update_value (InMemory array index) within finds =
        changed_cases (λ o. Gives s Value (updated Value operator kind to k (InMemory array index) code right) k st hs place_kind (source.then_do o (λ change st3. source.Fine change.behind st3))) (source.at_place at found) operator kind to u st2 (λ stop. tt)
        (λ before holds lt.
        ended s k st hs place_kind (updated Value operator kind to k (InMemory array index) code right) (behind_of operator kind to before u) (source.with_objects st2 (put_cell st2.objects found.object found.index (behind_of operator kind to before u)))
        (changed_value code right place_kind range_right found st1 st2 u right_ends array index finds (λ old. operated operator (c.is_signed kind) (convert kind old) right.value) (result_of operator kind before u) to before kind_is holds lt (computes before) within) (range_behind before))

  -- an update for each purpose
  update_found : (purpose : Purpose) (operator : Operator) (kind to : CType) (at : ℕ) (target : Target) (code : Statements) (right : Valued) (place_kind range_right : Kind) (found : Found) (st1 st2 : source.State) (u : ℕ) → kind_of to ≡ place_kind → AllWithin s.room (updated purpose operator kind to k target code right).code →
      (AllWithin s.room code → Went s code k st hs st1 (Points s target place_kind false found)) → (AllWithin s.room right.code → (h : State) → MeetsIn s st1 h → Ends s Value right (k + 1) st1 h range_right u st2) →
      Gives s (plain purpose) (updated purpose operator kind to k target code right) k st hs place_kind (source.then_do (source.changed (source.at_place at found) operator kind to u st2) (λ change st3. source.Fine change.behind st3))
  update_found Effect operator kind to at target code right place_kind range_right found st1 st2 u kind_is within finds right_ends =
      update_effect operator kind to at code right place_kind range_right found st1 st2 u kind_is right_ends target (λ change. change.behind) (λ before holds. ap (λ q. converted q (behind_of operator kind to before u)) (sym kind_is) ∙ converted_range to (result_of operator kind before u)) within finds
  update_found Value operator kind to at target code right place_kind range_right found st1 st2 u kind_is within finds right_ends = update_value operator kind to at code right place_kind range_right found st1 st2 u kind_is right_ends target within finds
  update_found (Unless depth) operator kind to at (InFrame x) code right place_kind range_right found st1 st2 u kind_is within finds right_ends = update_value operator kind to at code right place_kind range_right found st1 st2 u kind_is right_ends (InFrame x) within finds
  update_found (Unless depth) operator kind to at (InMemory array index) code right place_kind range_right found st1 st2 u kind_is within finds right_ends = update_value operator kind to at code right place_kind range_right found st1 st2 u kind_is right_ends (InMemory array index) within finds
  update_found (When depth) operator kind to at (InFrame x) code right place_kind range_right found st1 st2 u kind_is within finds right_ends = update_value operator kind to at code right place_kind range_right found st1 st2 u kind_is right_ends (InFrame x) within finds
  update_found (When depth) operator kind to at (InMemory array index) code right place_kind range_right found st1 st2 u kind_is within finds right_ends = update_value operator kind to at code right place_kind range_right found st1 st2 u kind_is right_ends (InMemory array index) within finds

  pub update_gives : (purpose : Purpose) (operator : Operator) (kind to : CType) (at : ℕ) (p : Aimed) (right : Valued) (place_kind range_right : Kind) (o : source.Outcome Found) (go : source.State → source.Outcome ℕ) → kind_of to ≡ place_kind → AllWithin s.room (updated purpose operator kind to k p.target p.code right).code → (AllWithin s.room p.code → Finds s p k st hs place_kind false o) →
      (AllWithin s.room right.code → (st1 : source.State) (h : State) → MeetsIn s st1 h → Gives s Value right (k + 1) st1 h range_right (go st1)) →
      Gives s purpose (finished purpose (updated purpose operator kind to k p.target p.code right)) k st hs place_kind
      (source.then_do {A = Aim} (source.then_do o (λ found st1. source.then_do (go st1) (λ word st2. source.Fine (record { found = found; word = word }) st2))) (λ target st1. source.then_do (source.changed (source.at_place at target.found) operator kind to target.word st1) (λ change st2. source.Fine change.behind st2)))
  update_gives purpose operator kind to at p right place_kind range_right (source.Stopped stop) go kind_is within finds rights = tt
  update_gives purpose operator kind to at p right place_kind range_right (source.Fine found st1) go kind_is within finds rights = of (go st1) (λ inner h m. rights inner st1 h m)
    where
      of : (o : source.Outcome ℕ) → (AllWithin s.room right.code → (h : State) → MeetsIn s st1 h → Gives s Value right (k + 1) st1 h range_right o) →
          Gives s purpose (finished purpose (updated purpose operator kind to k p.target p.code right)) k st hs place_kind
          (source.then_do {A = Aim} (source.then_do o (λ word st2. source.Fine (record { found = found; word = word }) st2)) (λ target st1. source.then_do (source.changed (source.at_place at target.found) operator kind to target.word st1) (λ change st2. source.Fine change.behind st2)))
      of (source.Stopped stop) second = tt
      of (source.Fine u st2) second =
          finished_gives s k st hs place_kind purpose (updated purpose operator kind to k p.target p.code right) (source.then_do (source.changed (source.at_place at found) operator kind to u st2) (λ change st3. source.Fine change.behind st3))
          (update_found purpose operator kind to at p.target p.code right place_kind range_right found st1 st2 u kind_is within finds second)

  -- the right side of a step
  one_ends : (st1 : source.State) (h : State) → MeetsIn s st1 h → Ends s Value (known 1) (k + 1) st1 h Word 1 st1
  one_ends st1 h m = ended s (k + 1) st1 h Word (known 1) 1 st1 (went_nothing s ok (k + 1) st1 h (HasValue s (Constant 1) 1) m refl) (converted-Word 1)

  -- a step whose value is the old one
  module _ (operator : Operator) (kind : CType) (code : Statements) (place_kind : Kind) (found : Found) (st1 : source.State) (kind_is : kind_of kind ≡ place_kind) (before : ℕ) (holds : cell st1.objects found.object found.index ≡ Some before) (lt : found.index < size st1.objects found.object) where
    abbrev sign : Bool
    sign = c.is_signed (c.promoted kind)

    abbrev result : ℕ
    result = result_of operator (c.promoted kind) before 1

    abbrev word : ℕ
    word = behind_of operator (c.promoted kind) kind before 1

    abbrev st2 : source.State
    st2 = source.with_objects st1 (put_cell st1.objects found.object found.index word)

    step_computes : (h : State) (old : Expr) → HasValue s old before h → HasValue s (operated operator sign old (Constant 1)) result h
    step_computes h old is =
        value_of-operated s.passed h.variables h.world operator sign old (Constant 1) before 1 is refl
        ∙ ap (λ b. Some (word_of operator sign b 1)) (sym (converted-promoted kind before))

    step_becomes : converted place_kind result ≡ word
    step_becomes = ap (λ q. converted q result) (sym kind_is) ∙ converted-kind_of kind result

    step_range : converted place_kind word ≡ word
    step_range = ap (λ q. converted q word) (sym kind_is) ∙ converted_range kind result

    behind_frame : (x : ℕ) → AllWithin s.room (stepped_behind operator kind k (InFrame x) code).code → (AllWithin s.room code → Went s code k st hs st1 (Points s (InFrame x) place_kind false found)) →
        Went s (stepped_behind operator kind k (InFrame x) code).code k st hs st2 (HasValue s (Variable k) before)
    behind_frame x within finds =
        let new = convert kind (operated operator sign (Variable k) (Constant 1)) in
        let tail = Then (Set k (Variable x)) (alone (Set x new)) in
        let parts = AllWithin-joined s.room code tail within in
        went_then s ok code tail k st hs st1 st2 (Points s (InFrame x) place_kind false found) (HasValue s (Variable k) before) (finds parts.0)
        (λ h m p.
        went_with s ok tail k st1 h st2 (λ h1. HasValue s (Variable k) before h1 × Unit {0}) (HasValue s (Variable k) before)
        (went_Set s ok k (Variable x) before (alone (Set x new)) st1 h st2 (λ h1. Unit {0}) le parts.1.0 m (loaded_value s ok (InFrame x) place_kind false found h st1 before m p holds)
        (λ m1 is.
        let h1 = put_variable h k before in
        went_with s ok (alone (Set x new)) (k + 1) st1 h1 st2 (λ h2. h2 ≡ put_variable h1 x word) (λ h2. Unit {0})
        (set_went s ok x (k + 1) place_kind found new word st1 h1 next parts.1.1.0 m1 p (value_of-convert s.passed h1.variables h1.world kind (operated operator sign (Variable k) (Constant 1)) result (step_computes h1 (Variable k) is)) step_range lt)
        (λ h2 e. tt)))
        (λ h1 both. both.0))

    behind_memory : (array : Array) (index : Expr) → AllWithin s.room (stepped_behind operator kind k (InMemory array index) code).code → (AllWithin s.room code → Went s code k st hs st1 (Points s (InMemory array index) place_kind false found)) →
        Went s (stepped_behind operator kind k (InMemory array index) code).code k st hs st2 (HasValue s (Variable (k + 1)) before)
    behind_memory array index within finds =
        let i = firm k (record { code = code; value = index }) End in
        let new = operated operator sign (Variable (k + 1)) (Constant 1) in
        let tail = Then (Set (k + 1) (Element array i.value)) (alone (Keep array i.value new)) in
        let all = AllWithin-joined s.room i.code tail within in
        let a = is_array code (known 1) place_kind Word found st1 st1 1 (λ inner h m. one_ends st1 h m) array index finds all.0 in
        went_then s ok i.code tail k st hs st1 st2 (λ h. HasValue s i.value found.index h × HasValue s (Constant 1) 1 h) (HasValue s (Variable (k + 1)) before)
        (firm_went code (known 1) place_kind Word found st1 st1 1 (λ inner h m. one_ends st1 h m) array index finds all.0)
        (λ h m has.
        went_below s ok k (k + 1) tail st1 h st2 (HasValue s (Variable (k + 1)) before) (omega arith)
        (went_with s ok tail (k + 1) st1 h st2 (λ h1. HasValue s (Variable (k + 1)) before h1 × Unit {0}) (HasValue s (Variable (k + 1)) before)
        (went_Set s ok (k + 1) (Element array i.value) before (alone (Keep array i.value new)) st1 h st2 (λ h1. Unit {0}) next all.1.0 m
        (loaded_value s ok (InMemory array i.value) place_kind false found h st1 before m (a.0, has.0, a.1) holds)
        (λ m1 is.
        let h1 = put_variable h (k + 1) before in
        went_with s ok (alone (Keep array i.value new)) (k + 1 + 1) st1 h1 st2 (λ h2. (world : World) × (h2 ≡ record { variables = h1.variables; world = world; trace = h1.trace })) (λ h2. Unit {0})
        (keep_went s ok array i.value new (k + 1 + 1) place_kind found result word st1 h1 m1 a.0 (firm_elsewhere s ok k (record { code = code; value = index }) End found.index before h has.0) a.1 (step_computes h1 (Variable (k + 1)) is) step_becomes step_range lt)
        (λ h2 e. tt)))
        (λ h1 both. both.0)))

  within_behind : (operator : Operator) (kind : CType) (target : Target) (code : Statements) → AllWithin s.room (stepped_behind operator kind k target code).code → AllWithin s.room code
  within_behind operator kind (InFrame x) code h = (AllWithin-joined s.room code (Then (Set k (Variable x)) (alone (Set x (convert kind (operated operator (c.is_signed (c.promoted kind)) (Variable k) (Constant 1)))))) h).0
  within_behind operator kind (InMemory array index) code h =
      let place : Valued = record { code = code; value = index } in
      let i = firm k place End in
      let inner = AllWithin-joined s.room i.code (Then (Set (k + 1) (Element array i.value)) (alone (Keep array i.value (operated operator (c.is_signed (c.promoted kind)) (Variable (k + 1)) (Constant 1))))) h in
      (within_held s ok (not (is_leaf index) || (is_changed index End || is_variable (k + 1) index)) k place End inner.0).0

  behind_found : (operator : Operator) (kind : CType) (at : ℕ) (target : Target) (code : Statements) (place_kind : Kind) (found : Found) (st1 : source.State) → kind_of kind ≡ place_kind → AllWithin s.room (stepped_behind operator kind k target code).code → (AllWithin s.room code → Went s code k st hs st1 (Points s target place_kind false found)) →
      Gives s Value (stepped_behind operator kind k target code) k st hs place_kind (source.then_do (source.changed (source.at_place at found) operator (c.promoted kind) kind 1 st1) (λ change st2. source.Fine change.before st2))
  behind_found operator kind at (InFrame x) code place_kind found st1 kind_is within finds =
      changed_cases (λ o. Gives s Value (stepped_behind operator kind k (InFrame x) code) k st hs place_kind (source.then_do o (λ change st2. source.Fine change.before st2))) (source.at_place at found) operator (c.promoted kind) kind 1 st1 (λ stop. tt)
      (λ before holds lt.
      let f = finds (within_behind operator kind (InFrame x) code within) in
      ended s k st hs place_kind (stepped_behind operator kind k (InFrame x) code) before (source.with_objects st1 (put_cell st1.objects found.object found.index (behind_of operator (c.promoted kind) kind before 1)))
      (behind_frame operator kind code place_kind found st1 kind_is before holds lt x within finds)
      (points_range s ok (InFrame x) place_kind false found f.behind st1 before f.reached.meets f.has holds))
  behind_found operator kind at (InMemory array index) code place_kind found st1 kind_is within finds =
      changed_cases (λ o. Gives s Value (stepped_behind operator kind k (InMemory array index) code) k st hs place_kind (source.then_do o (λ change st2. source.Fine change.before st2))) (source.at_place at found) operator (c.promoted kind) kind 1 st1 (λ stop. tt)
      (λ before holds lt.
      let f = finds (within_behind operator kind (InMemory array index) code within) in
      ended s k st hs place_kind (stepped_behind operator kind k (InMemory array index) code) before (source.with_objects st1 (put_cell st1.objects found.object found.index (behind_of operator (c.promoted kind) kind before 1)))
      (behind_memory operator kind code place_kind found st1 kind_is before holds lt array index within finds)
      (points_range s ok (InMemory array index) place_kind false found f.behind st1 before f.reached.meets f.has holds))

  -- the value of a step
  abbrev step_outcome : Fix → Operator → CType → (at : ℕ) → Found → source.State → source.Outcome ℕ
  step_outcome fix operator kind at found st1 = source.then_do (source.changed (source.at_place at found) operator (c.promoted kind) kind 1 st1) (λ change st2. source.Fine (source.step_value fix change) st2)

  step_found : (purpose : Purpose) (fix : Fix) (operator : Operator) (kind : CType) (at : ℕ) (target : Target) (code : Statements) (place_kind : Kind) (found : Found) (st1 : source.State) → kind_of kind ≡ place_kind → AllWithin s.room (stepped purpose fix operator kind k target code).code →
      (AllWithin s.room code → Went s code k st hs st1 (Points s target place_kind false found)) → Gives s (plain purpose) (stepped purpose fix operator kind k target code) k st hs place_kind (step_outcome fix operator kind at found st1)
  step_found Value Prefix operator kind at target code place_kind found st1 kind_is within finds = update_found Value operator (c.promoted kind) kind at target code (known 1) place_kind Word found st1 st1 1 kind_is within finds (λ inner h m. one_ends st1 h m)
  step_found Effect Prefix operator kind at target code place_kind found st1 kind_is within finds = update_found Effect operator (c.promoted kind) kind at target code (known 1) place_kind Word found st1 st1 1 kind_is within finds (λ inner h m. one_ends st1 h m)
  step_found (Unless depth) Prefix operator kind at target code place_kind found st1 kind_is within finds = update_found (Unless depth) operator (c.promoted kind) kind at target code (known 1) place_kind Word found st1 st1 1 kind_is within finds (λ inner h m. one_ends st1 h m)
  step_found (When depth) Prefix operator kind at target code place_kind found st1 kind_is within finds = update_found (When depth) operator (c.promoted kind) kind at target code (known 1) place_kind Word found st1 st1 1 kind_is within finds (λ inner h m. one_ends st1 h m)
  step_found Effect Postfix operator kind at target code place_kind found st1 kind_is within finds =
      update_effect operator (c.promoted kind) kind at code (known 1) place_kind Word found st1 st1 1 kind_is (λ inner h m. one_ends st1 h m) target (λ change. change.before)
      (λ before holds.
      let f = finds (within_updated Effect operator (c.promoted kind) kind target code (known 1) within).0 in
      points_range s ok target place_kind false found f.behind st1 before f.reached.meets f.has holds)
      within finds
  step_found Value Postfix operator kind at target code place_kind found st1 kind_is within finds = behind_found operator kind at target code place_kind found st1 kind_is within finds
  step_found (Unless depth) Postfix operator kind at target code place_kind found st1 kind_is within finds = behind_found operator kind at target code place_kind found st1 kind_is within finds
  step_found (When depth) Postfix operator kind at target code place_kind found st1 kind_is within finds = behind_found operator kind at target code place_kind found st1 kind_is within finds

  pub step_gives : (purpose : Purpose) (fix : Fix) (operator : Operator) (kind : CType) (at : ℕ) (p : Aimed) (place_kind : Kind) (o : source.Outcome Found) → kind_of kind ≡ place_kind → AllWithin s.room (stepped purpose fix operator kind k p.target p.code).code → (AllWithin s.room p.code → Finds s p k st hs place_kind false o) →
      Gives s purpose (finished purpose (stepped purpose fix operator kind k p.target p.code)) k st hs place_kind (source.then_do o (λ found st1. source.then_do (source.changed (source.at_place at found) operator (c.promoted kind) kind 1 st1) (λ change st2. source.Fine (source.step_value fix change) st2)))
  step_gives purpose fix operator kind at p place_kind (source.Stopped stop) kind_is within finds = tt
  step_gives purpose fix operator kind at p place_kind (source.Fine found st1) kind_is within finds =
      finished_gives s k st hs place_kind purpose (stepped purpose fix operator kind k p.target p.code) (step_outcome fix operator kind at found st1)
      (step_found purpose fix operator kind at p.target p.code place_kind found st1 kind_is within finds)
