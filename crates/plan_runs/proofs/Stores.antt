-- States meet again behind a store, on both sides.
use Rattle.std.proofs.Common.{◌≡◌, ⊎_elim, ℕ, ◌<◌, Bool, true, false, List, length, Some, None, sym, ap, ◌∙◌, subst}
use Rattle.std.specs.Prelude.{slice_get, slice_index_or, slice_set}
use Rattle.std.proofs.lemmas.Bool.{cases_eq, true≢false}
use Rattle.std.proofs.lemmas.List.{get_or-set_same, get_or-set_other, length-set}
use Rattle.std.proofs.lemmas.Option.{same_Some, slice_get_within}
use Rattle.meaning_semantics.specs.State as source
use Rattle.high_ir.specs.declared.object.Array.{Array}
use Rattle.high_ir.specs.declared.object.Base.{Base}
use Rattle.high_ir.specs.declared.object.Base.TheVariants.{Object, Parameter}
use Rattle.high_ir.specs.Meaning.{Contents, State, with_array, element}
use Rattle.high_ir.specs.Words.{converted}
use Rattle.plan_definition.specs.declared.home.Home.{Home}
use Rattle.plan_definition.specs.declared.home.Home.TheVariants.{Frame, Memory}
use Rattle.plan_definition.specs.Homes.{array_at}
use Rattle.plan_runs.specs.Cells.{Cells, cell, size, put_cell}
use Rattle.plan_runs.specs.Meets.{Layout, IsLayout, home, kind_at, is_passed, is_passed_base, is_own, Holds, Meets, Untouched}
use Rattle.plan_runs.specs.Claims.{Setting, IsSetting}
use Rattle.plan_runs.proofs.Cells.{cell-put_same, cell-put_beside, cell-put_other, cell_put, size-put, slice_get-set_same, slice_get-set_other, slice_get-put_other}

-- a variable with a word
abbrev pub put_variable : State → (x v : ℕ) → State
put_variable hs x v = record { variables = slice_set hs.variables x (Some v); world = hs.world; trace = hs.trace }

-- an element of an array with a word
abbrev pub put_contents : Contents → (i v : ℕ) → Contents
put_contents c i v = record { kind = c.kind; storage = c.storage; elements = slice_set c.elements i (Some v) }

abbrev pub put_element : State → (n : ℕ) → Contents → (i v : ℕ) → State
put_element hs n c i v = record { variables = hs.variables; world = with_array hs.world n (put_contents c i v); trace = hs.trace }

abbrev is_frame : Home → Bool
is_frame (Frame x) = true
is_frame (Memory array) = false

abbrev variable_of : Home → ℕ
variable_of (Frame x) = x
variable_of (Memory array) = 0

abbrev number_of : Base → ℕ
number_of (Object n) = n
number_of (Parameter j) = j

pub no_array : (x : ℕ) (a : Array) → Frame x ≡ Memory a → ⊥
no_array x a e = true≢false (ap is_frame e)

pub not_passed : (n j : ℕ) → Object n ≡ Parameter j → ⊥
not_passed n j e = true≢false (sym (ap is_passed_base e))

-- an object of a frame is none of memory
pub apart_frame : (layout : Layout) (o p x : ℕ) (a : Array) → home layout o ≡ Frame x → home layout p ≡ Memory a → p ≡ o → ⊥
apart_frame layout o p x a here there same = no_array x a (sym here ∙ ap (home layout) (sym same) ∙ there)

-- an object that is an array is no array parameter
pub apart_passed : (layout : Layout) (o p n j : ℕ) (a b : Array) → home layout o ≡ Memory a → a.base ≡ Object n → home layout p ≡ Memory b → b.base ≡ Parameter j → p ≡ o → ⊥
apart_passed layout o p n j a b here object there parameter same =
    not_passed n j (sym object ∙ ap (λ h. (array_at h).base) (sym here ∙ ap (home layout) (sym same) ∙ there) ∙ parameter)

module _ (layout : Layout) (is : IsLayout layout) (live : ℕ → Bool) (together : (o p : ℕ) → live o ≡ true → live p ≡ true → layout.owner o ≡ layout.owner p) (passed : List ℕ) (room : ℕ) (st : source.State) (hs : State) (m : Meets layout live passed room st hs) where
  -- a word in a variable that is no object's
  pub temporary_meets : (x v : ℕ) → ((o : ℕ) → home layout o ≡ Frame x → live o ≡ true → ⊥) → Meets layout live passed room st (put_variable hs x v)
  temporary_meets x v free = record {
    world = m.world;
    frame = record {
      words = λ o y w here own there. get_or-set_other hs.variables x y (Some v) None (λ e. free o (here ∙ ap Frame e) own) ∙ m.frame.words o y w here own there;
      passes = m.frame.passes;
    };
    room_is = length-set hs.variables x (Some v) ∙ m.room_is;
  }

  -- a word in the variable of an object
  module _ (o x w : ℕ) (here : home layout o ≡ Frame x) (own : live o ≡ true) (there : x < length hs.variables) (lt : 0 < size st.objects o) (range : converted (kind_at layout o) w ≡ w) where
    abbrev behind_set : Cells
    behind_set = put_cell st.objects o 0 w

    set_words : (p y v : ℕ) → home layout p ≡ Frame y → live p ≡ true → cell behind_set p 0 ≡ Some v → slice_index_or (slice_set hs.variables x (Some w)) y None ≡ Some v
    set_words p y v at own_p holds = ⊎_elim
        (λ (e : y ≡ x).
        let same : p ≡ o = is.frames p o x (at ∙ ap Frame e) here (together p o own_p own) in
        let word : v ≡ w = same_Some v w (sym holds ∙ ap (λ q. cell behind_set q 0) same ∙ cell-put_same st.objects o 0 w lt) in
        ap (λ z. slice_index_or (slice_set hs.variables x (Some w)) z None) e ∙ get_or-set_same hs.variables x (Some w) None there ∙ ap Some (sym word))
        (λ (other : y ≡ x → ⊥).
        let apart : p ≡ o → ⊥ = λ same. other (ap variable_of (sym at ∙ ap (home layout) same ∙ here)) in
        get_or-set_other hs.variables x y (Some w) None other ∙ m.frame.words p y v at own_p (sym (cell-put_other st.objects o 0 w p 0 apart) ∙ holds))
        (cases_eq y x)

    set_memory : (p n : ℕ) (a : Array) → home layout p ≡ Memory a → a.base ≡ Object n → Holds behind_set p a.kind (layout.constant p) (slice_get hs.world.objects n)
    set_memory p n a at base =
        let h = m.world.memory p n a at base in
        record {
          contents = h.contents;
          there = h.there;
          kind_is = h.kind_is;
          writable = h.writable;
          size_is = h.size_is ∙ sym (size-put st.objects o 0 w p lt);
          words = λ i v holds. h.words i v (sym (cell-put_other st.objects o 0 w p i (apart_frame layout o p x a here at)) ∙ holds);
        }

    set_ranged : (p i v : ℕ) → is_passed (home layout p) ≡ false → cell behind_set p i ≡ Some v → converted (kind_at layout p) v ≡ v
    set_ranged p i v plain holds = ⊎_elim
        (λ (e : (p ≡ o) × (v ≡ w)). ap (λ q. converted (kind_at layout q) v) e.0 ∙ ap (converted (kind_at layout o)) e.1 ∙ range ∙ sym e.1)
        (λ (before : cell st.objects p i ≡ Some v). m.world.ranged p i v plain before)
        (cell_put st.objects o 0 w p i v lt holds)

    pub set_meets : Meets layout live passed room (source.with_objects st (put_cell st.objects o 0 w)) (put_variable hs x w)
    set_meets = record {
      world = record { input = m.world.input; output = m.world.output; counts = m.world.counts; marks_are = m.world.marks_are; memory = set_memory; sizes_are = λ p n a at base. size-put st.objects o 0 w p lt ∙ m.world.sizes_are p n a at base; ranged = set_ranged };
      frame = record {
        words = set_words;
        passes = λ p j q a at base own_p holds. m.frame.passes p j q a at base own_p (sym (cell-put_other st.objects o 0 w p 0 (apart_frame layout o p x a here at)) ∙ holds);
      };
      room_is = length-set hs.variables x (Some w) ∙ m.room_is;
    }

  -- a word in an element of an object
  module _ (o n i w : ℕ) (a : Array) (here : home layout o ≡ Memory a) (object : a.base ≡ Object n) (lt : i < size st.objects o) (range : converted a.kind w ≡ w) (h : Holds st.objects o a.kind (layout.constant o) (slice_get hs.world.objects n)) where
    abbrev behind_keep : Cells
    behind_keep = put_cell st.objects o i w

    abbrev arrays_behind : List Contents
    arrays_behind = slice_set hs.world.objects n (put_contents h.contents i w)

    keep_words : (j v : ℕ) → cell behind_keep o j ≡ Some v → element (put_contents h.contents i w) j ≡ Some v
    keep_words j v holds = ⊎_elim
        (λ (e : j ≡ i).
        let word : v ≡ w = same_Some v w (sym holds ∙ ap (cell behind_keep o) e ∙ cell-put_same st.objects o i w lt) in
        ap (λ k. slice_index_or (slice_set h.contents.elements i (Some w)) k None) e ∙ get_or-set_same h.contents.elements i (Some w) None (subst (λ k. i < k) (sym h.size_is) lt) ∙ ap Some (sym word))
        (λ (beside : j ≡ i → ⊥). get_or-set_other h.contents.elements i j (Some w) None beside ∙ h.words j v (sym (cell-put_beside st.objects o i w j lt beside) ∙ holds))
        (cases_eq j i)

    keep_here : Holds behind_keep o a.kind (layout.constant o) (slice_get arrays_behind n)
    keep_here = record {
      contents = put_contents h.contents i w;
      there = slice_get-set_same hs.world.objects n (put_contents h.contents i w) (slice_get_within hs.world.objects n h.contents h.there);
      kind_is = h.kind_is;
      writable = h.writable;
      size_is = length-set h.contents.elements i (Some w) ∙ h.size_is ∙ sym (size-put st.objects o i w o lt);
      words = keep_words;
    }

    keep_other : (p k : ℕ) (b : Array) → home layout p ≡ Memory b → b.base ≡ Object k → (p ≡ o → ⊥) → Holds behind_keep p b.kind (layout.constant p) (slice_get arrays_behind k)
    keep_other p k b at base other =
        let g = m.world.memory p k b at base in
        let apart : k ≡ n → ⊥ = λ e. other (is.arrays p o n b a at here (base ∙ ap Object e) object) in
        record {
          contents = g.contents;
          there = slice_get-set_other hs.world.objects n k (put_contents h.contents i w) apart ∙ g.there;
          kind_is = g.kind_is;
          writable = g.writable;
          size_is = g.size_is ∙ sym (size-put st.objects o i w p lt);
          words = λ j v holds. g.words j v (sym (cell-put_other st.objects o i w p j other) ∙ holds);
        }

    keep_memory : (p k : ℕ) (b : Array) → home layout p ≡ Memory b → b.base ≡ Object k → Holds behind_keep p b.kind (layout.constant p) (slice_get arrays_behind k)
    keep_memory p k b at base = ⊎_elim
        (λ (same : p ≡ o).
        let array : b ≡ a = ap array_at (sym at ∙ ap (home layout) same ∙ here) in
        let number : k ≡ n = ap number_of (sym base ∙ ap (λ c. c.base) array ∙ object) in
        subst (λ q. Holds behind_keep q b.kind (layout.constant q) (slice_get arrays_behind k)) (sym same)
        (subst (λ c. Holds behind_keep o c.kind (layout.constant o) (slice_get arrays_behind k)) (sym array)
        (subst (λ z. Holds behind_keep o a.kind (layout.constant o) (slice_get arrays_behind z)) (sym number) keep_here)))
        (λ (other : p ≡ o → ⊥). keep_other p k b at base other)
        (cases_eq p o)

    keep_ranged : (p j v : ℕ) → is_passed (home layout p) ≡ false → cell behind_keep p j ≡ Some v → converted (kind_at layout p) v ≡ v
    keep_ranged p j v plain holds = ⊎_elim
        (λ (e : (p ≡ o) × (v ≡ w)). ap (λ q. converted (kind_at layout q) v) e.0 ∙ ap (λ kind. converted kind v) (sym (is.kinds o a here)) ∙ ap (converted a.kind) e.1 ∙ range ∙ sym e.1)
        (λ (before : cell st.objects p j ≡ Some v). m.world.ranged p j v plain before)
        (cell_put st.objects o i w p j v lt holds)

    pub keep_meets : Meets layout live passed room (source.with_objects st (put_cell st.objects o i w)) (put_element hs n h.contents i w)
    keep_meets = record {
      world = record { input = m.world.input; output = m.world.output; counts = m.world.counts; marks_are = m.world.marks_are; memory = keep_memory; sizes_are = λ p k b at base. size-put st.objects o i w p lt ∙ m.world.sizes_are p k b at base; ranged = keep_ranged };
      frame = record {
        words = λ p x v at own holds. m.frame.words p x v at own (sym (cell-put_other st.objects o i w p 0 (λ same. no_array x a (sym at ∙ ap (home layout) same ∙ here))) ∙ holds);
        passes = λ p j q b at base own holds. m.frame.passes p j q b at base own (sym (cell-put_other st.objects o i w p 0 (apart_passed layout o p n j a b here object at base)) ∙ holds);
      };
      room_is = m.room_is;
    }

-- objects that live in a function are its own
pub alike : (s : Setting) (ok : IsSetting s) (o p : ℕ) → s.function.live o ≡ true → s.function.live p ≡ true → s.layout.owner o ≡ s.layout.owner p
alike s ok o p a b = ok.owned o a ∙ sym (ok.owned p b)

-- what is one function's own is not written by another
pub untouched_put : (layout : Layout) (rank : ℕ) (objects : Cells) (o i w : ℕ) → (is_own (home layout o) ≡ true → rank < layout.rank (layout.owner o) → ⊥) → Untouched layout rank objects (put_cell objects o i w)
untouched_put layout rank objects o i w free =
    record { by = λ p own above. slice_get-put_other objects o i w p (λ same. free (ap (λ q. is_own (home layout q)) (sym same) ∙ own) (subst (λ q. rank < layout.rank (layout.owner q)) same above)) }
