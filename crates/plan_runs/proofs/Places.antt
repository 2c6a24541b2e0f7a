-- Targets: what is read where they point, and what is stored there.
use Rattle.std.proofs.Common.{◌≡◌, ℕ, ◌<◌, ◌≤◌, Bool, true, false, List, length, Some, None, refl, sym, ap, ◌∙◌, subst, arith}
use Rattle.std.specs.Prelude.{◌&&◌, nat_lt, slice_get, slice_set}
use Rattle.std.proofs.lemmas.Bool.{eq-eqb, lt-ltb, false≢true}
use Rattle.std.proofs.lemmas.List.{get_or-set_other}
use Rattle.meaning_semantics.specs.State as source
use Rattle.meaning_semantics.specs.declared.outcome.Found.{Found}
use Rattle.meaning_semantics.specs.declared.outcome.Stop.{Stop}
use Rattle.high_ir.specs.declared.object.Array.{Array}
use Rattle.high_ir.specs.declared.object.Base.{Base}
use Rattle.high_ir.specs.declared.object.Base.TheVariants.{Object, Parameter}
use Rattle.high_ir.specs.declared.object.Kind.{Kind}
use Rattle.high_ir.specs.Tree.{Expr, Element, Set, Keep}
use Rattle.high_ir.specs.Meaning.{Contents, World, State, Goes, at_value, only_if, object_number, array_of, element, value_of, with_value, can_store, stored, keep, with_array, set_world, run, Calls}
use Rattle.high_ir.specs.Words.{converted, same_kind, kind_number}
use Rattle.plan_definition.specs.declared.home.Home.{Home}
use Rattle.plan_definition.specs.declared.home.Home.TheVariants.{Frame, Memory}
use Rattle.plan_definition.specs.Homes.{Target, InFrame, InMemory, array_at, loaded}
use Rattle.plan_runs.specs.Cells.{cell, size, put_cell}
use Rattle.plan_runs.specs.Meets.{home, kind_at, is_passed, is_passed_base, is_own, IsArray}
use Rattle.plan_runs.specs.ExpressionFits.{IsNamed, IsArrayHome}
use Rattle.high_code.specs.Code.{alone}
use Rattle.high_code.proofs.Joined.{run_all-alone}
use Rattle.plan_runs.specs.Claims.{Setting, IsSetting, MeetsIn, Reached, Went, HasValue, Points}
use Rattle.plan_runs.proofs.Stores.{alike, put_variable, put_contents, put_element, set_meets, keep_meets, untouched_put}
use Rattle.plan_runs.proofs.Steps.{read_cases}
use Rattle.plan_runs.proofs.Holding.{run_Set}

-- a kind is the same as one that is equal
pub same_kind-same : (a b : Kind) → a ≡ b → same_kind a b ≡ true
same_kind-same a b e = eq-eqb (kind_number a) (kind_number b) (ap kind_number e)

module _ (passed : List ℕ) (hs : State) (array : Array) (n : ℕ) (c : Contents) (number : object_number passed array.base ≡ Some n) (there : slice_get hs.world.objects n ≡ Some c) (kind_is : c.kind ≡ array.kind) where
  array_found : array_of passed hs.world array ≡ Some c
  array_found =
      ap (λ o. at_value o (λ m. at_value (slice_get hs.world.objects m) (λ d. only_if (same_kind d.kind array.kind) (Some d)))) number
      ∙ ap (λ o. at_value o (λ d. only_if (same_kind d.kind array.kind) (Some d))) there
      ∙ ap (λ b. only_if b (Some c)) (same_kind-same c.kind array.kind kind_is)

  pub value_of-Element : (index : Expr) (i v : ℕ) → value_of passed hs.variables hs.world index ≡ Some i → element c i ≡ Some v → value_of passed hs.variables hs.world (Element array index) ≡ Some v
  value_of-Element index i v at holds =
      ap (λ o. at_value o (λ j. at_value (array_of passed hs.world array) (λ d. element d j))) at
      ∙ ap (λ o. at_value o (λ d. element d i)) array_found
      ∙ holds

  -- an element is stored
  pub run_Keep : (call : Calls) (index value : Expr) (i u v : ℕ) → value_of passed hs.variables hs.world index ≡ Some i → value_of passed hs.variables hs.world value ≡ Some u → can_store c.storage ≡ true → i < length c.elements → converted c.kind u ≡ v →
      run Some call passed (Keep array index value) hs ≡ Goes (put_element hs n c i v)
  run_Keep call index value i u v at is writable lt range =
      ap (λ o. with_value o (λ j. with_value (value_of passed hs.variables hs.world value) (λ x. with_value (keep passed hs.world array j x) (set_world hs)))) at
      ∙ ap (λ o. with_value o (λ x. with_value (keep passed hs.world array i x) (set_world hs))) is
      ∙ ap (λ o. with_value o (set_world hs)) kept_is
    where
      stored_is : stored c i u ≡ Some (put_contents c i v)
      stored_is =
          ap (λ b. only_if (b && nat_lt i (length c.elements)) (Some (record { kind = c.kind; storage = c.storage; elements = slice_set c.elements i (Some (converted c.kind u)) }))) writable
          ∙ ap (λ b. only_if b (Some (record { kind = c.kind; storage = c.storage; elements = slice_set c.elements i (Some (converted c.kind u)) }))) (lt-ltb i (length c.elements) lt)
          ∙ ap (λ x. Some (put_contents c i x)) range

      kept_is : keep passed hs.world array i u ≡ Some (with_array hs.world n (put_contents c i v))
      kept_is =
          ap (λ o. at_value o (λ m. at_value (array_of passed hs.world array) (λ d. at_value (stored d i u) (λ e. Some (with_array hs.world m e))))) number
          ∙ ap (λ o. at_value o (λ d. at_value (stored d i u) (λ e. Some (with_array hs.world n e)))) array_found
          ∙ ap (λ o. at_value o (λ e. Some (with_array hs.world n e))) stored_is

module _ (s : Setting) (ok : IsSetting s) where
  -- what a word of a target's kind is
  pub points_kind : (target : Target) (kind : Kind) (constant : Bool) (found : Found) (h : State) → Points s target kind constant found h → kind_at s.layout found.object ≡ kind
  points_kind (InFrame x) kind constant found h p = p.4
  points_kind (InMemory array index) kind constant found h p = sym (ok.placed.kinds found.object p.0.array p.0.lives) ∙ p.0.kind_is ∙ p.2

  points_plain : (target : Target) (kind : Kind) (constant : Bool) (found : Found) (h : State) → Points s target kind constant found h → is_passed (home s.layout found.object) ≡ false
  points_plain (InFrame x) kind constant found h p = ap is_passed p.0
  points_plain (InMemory array index) kind constant found h p = ap is_passed p.0.lives ∙ ap is_passed_base p.0.base_is

  -- the words that a target holds are of its kind
  pub points_range : (target : Target) (kind : Kind) (constant : Bool) (found : Found) (h : State) (st : source.State) (w : ℕ) → MeetsIn s st h → Points s target kind constant found h → cell st.objects found.object found.index ≡ Some w → converted kind w ≡ w
  points_range target kind constant found h st w m p holds =
      ap (λ q. converted q w) (sym (points_kind target kind constant found h p)) ∙ m.world.ranged found.object found.index w (points_plain target kind constant found h p) holds

  pub loaded_value : (target : Target) (kind : Kind) (constant : Bool) (found : Found) (h : State) (st : source.State) (w : ℕ) → MeetsIn s st h → Points s target kind constant found h → cell st.objects found.object found.index ≡ Some w → HasValue s (loaded target) w h
  loaded_value (InFrame x) kind constant found h st w m p holds = m.frame.words found.object x w p.0 p.1 (ap (cell st.objects found.object) (sym p.3) ∙ holds)
  loaded_value (InMemory array index) kind constant found h st w m p holds =
      let held = m.world.memory found.object p.0.object p.0.array p.0.lives p.0.base_is in
      value_of-Element s.passed h array p.0.object held.contents p.0.number_is held.there (held.kind_is ∙ p.0.kind_is) index found.index w p.1 (held.words found.index w holds)

  -- the number that an array's name means, in a state
  pub named_cases : (C : source.Outcome ℕ → Type 0) (object at : ℕ) (st : source.State) (h : State) → MeetsIn s st h → IsArrayHome s.layout s.function object (home s.layout object) → ((stop : Stop) → C (source.Stopped stop)) →
      ((q : ℕ) → IsArray s.layout q (array_at (home s.layout object)).kind (s.layout.constant object) (object_number s.passed (array_at (home s.layout object)).base) → C (source.Fine q st)) → C (source.array_number s.layout.variables object at st)
  named_cases C object at st h m fit stops fine = of_home (home s.layout object) refl fit fine
    where
      of_base : (a : Array) (b : Base) → home s.layout object ≡ Memory a → a.base ≡ b → IsNamed s.layout s.function object b → ((q : ℕ) → IsArray s.layout q a.kind (s.layout.constant object) (object_number s.passed b) → C (source.Fine q st)) → C (source.array_number s.layout.variables object at st)
      of_base a (Object n) lives base named go =
          subst C (sym (ok.placed.named object n at a st lives base)) (go object (record { array = a; object = n; lives = lives; base_is = base; kind_is = refl; number_is = refl; stores = λ writable. writable }))
      of_base a (Parameter j) lives base own go =
          subst C (sym (ok.placed.handed object j at a st lives base))
          (read_cases C (record { object = object; index = 0; at = at }) st stops (λ q holds. go q (m.frame.passes object j q a lives base own holds)))

      of_home : (home' : Home) → home s.layout object ≡ home' → IsArrayHome s.layout s.function object home' → ((q : ℕ) → IsArray s.layout q (array_at home').kind (s.layout.constant object) (object_number s.passed (array_at home').base) → C (source.Fine q st)) → C (source.array_number s.layout.variables object at st)
      of_home (Frame x) is fits go = absurd fits
      of_home (Memory a) is fits go = of_base a a.base is refl fits go

  free_frame : (found : Found) → s.layout.owner found.object ≡ s.function.number → is_own (home s.layout found.object) ≡ true → s.layout.rank s.function.number < s.layout.rank (s.layout.owner found.object) → ⊥
  free_frame found own is above = absurd (below_itself (s.layout.rank s.function.number) (subst (λ g. s.layout.rank s.function.number < s.layout.rank g) own above))
    where
      below_itself : (n : ℕ) → n < n → ⊥
      below_itself n lt = omega (arith, lt)

  free_memory : (found : Found) (a : Array) (n : ℕ) → home s.layout found.object ≡ Memory a → a.base ≡ Object n → is_own (home s.layout found.object) ≡ true → s.layout.rank s.function.number < s.layout.rank (s.layout.owner found.object) → ⊥
  free_memory found a n lives base is above = false≢true (sym (ap is_own lives ∙ ap is_passed_base base) ∙ is)

  -- in a variable
  set_stored : (x k : ℕ) (kind : Kind) (found : Found) (e : Expr) (w : ℕ) (st : source.State) (h : State) → s.function.variables ≤ k → x < s.room → MeetsIn s st h → Points s (InFrame x) kind false found h → HasValue s e w h → converted kind w ≡ w → found.index < size st.objects found.object →
      Reached s k st h (source.with_objects st (put_cell st.objects found.object found.index w)) (put_variable h x w)
  set_stored x k kind found e w st h le room m p has range lt =
      subst (λ i. Reached s k st h (source.with_objects st (put_cell st.objects found.object i w)) (put_variable h x w)) (sym p.3)
      (record {
        meets = set_meets s.layout ok.placed s.function.live (alike s ok) s.passed s.room st h m found.object x w p.0 p.1 (subst (λ n. x < n) (sym m.room_is) room) (subst (λ i. i < size st.objects found.object) p.3 lt) (ap (λ q. converted q w) p.4 ∙ range);
        keeps = λ j from below. get_or-set_other h.variables x j (Some w) None (λ same. absurd (between x j p.2 from same));
        untouched = untouched_put s.layout (s.layout.rank s.function.number) st.objects found.object 0 w (free_frame found (ok.owned found.object p.1));
      })
    where
      between : (x j : ℕ) → x < s.function.variables → s.function.variables ≤ j → j ≡ x → ⊥
      between x j below from same = omega (arith, below, from, same)

  pub set_went : (x k : ℕ) (kind : Kind) (found : Found) (e : Expr) (w : ℕ) (st : source.State) (h : State) → s.function.variables ≤ k → x < s.room → MeetsIn s st h → Points s (InFrame x) kind false found h → HasValue s e w h → converted kind w ≡ w → found.index < size st.objects found.object →
      Went s (alone (Set x e)) k st h (source.with_objects st (put_cell st.objects found.object found.index w)) (λ h1. h1 ≡ put_variable h x w)
  set_went x k kind found e w st h le room m p has range lt = record {
    behind = put_variable h x w;
    runs = run_all-alone Some s.high_call s.passed (Set x e) h ∙ run_Set s.high_call s.passed x w e h has (subst (λ n. x < n) (sym m.room_is) room);
    reached = set_stored x k kind found e w st h le room m p has range lt;
    has = refl;
  }

  -- in an element, where the variables stay
  pub keep_went : (array : Array) (index e : Expr) (k : ℕ) (kind : Kind) (found : Found) (u w : ℕ) (st : source.State) (h : State) → MeetsIn s st h → IsArray s.layout found.object array.kind false (object_number s.passed array.base) → HasValue s index found.index h → array.kind ≡ kind → HasValue s e u h → converted kind u ≡ w → converted kind w ≡ w → found.index < size st.objects found.object →
      Went s (alone (Keep array index e)) k st h (source.with_objects st (put_cell st.objects found.object found.index w)) (λ h1. (world : World) × (h1 ≡ record { variables = h.variables; world = world; trace = h.trace }))
  keep_went array index e k kind found u w st h m a at same has becomes range lt =
      let held = m.world.memory found.object a.object a.array a.lives a.base_is in
      let range_array : converted a.array.kind w ≡ w = ap (λ q. converted q w) (a.kind_is ∙ same) ∙ range in
      record {
        behind = put_element h a.object held.contents found.index w;
        runs = run_all-alone Some s.high_call s.passed (Keep array index e) h
            ∙ run_Keep s.passed h array a.object held.contents a.number_is held.there (held.kind_is ∙ a.kind_is) s.high_call index e found.index u w at has (held.writable (a.stores refl)) (subst (λ n. found.index < n) (sym held.size_is) lt) (ap (λ q. converted q u) (held.kind_is ∙ a.kind_is ∙ same) ∙ becomes);
        reached = record {
          meets = keep_meets s.layout ok.placed s.function.live (alike s ok) s.passed s.room st h m found.object a.object found.index w a.array a.lives a.base_is lt range_array held;
          keeps = λ j from below. refl;
          untouched = untouched_put s.layout (s.layout.rank s.function.number) st.objects found.object found.index w (free_memory found a.array a.object a.lives a.base_is);
        };
        has = (with_array h.world a.object (put_contents held.contents found.index w), refl);
      }
