-- What instructions leave as it is of arrays.
use Rattle.std.proofs.Common.{◌≡◌, ◌<◌, ⊎_elim, ℕ, zero, suc, Bool, true, false, List, [], ◌∷◌, length, Option, Some, None, refl, sym, ap, ◌∙◌, subst, arith, get_or-set_same, length-set}
use Rattle.std.specs.Prelude.{◌/◌, ◌%◌, ◌==◌, ◌&&◌, nat_lt, slice_get, slice_index_or, slice_set}
use Rattle.std.proofs.lemmas.Bool.{eqb-true, ltb-true}
use Rattle.std.proofs.lemmas.Option.{slice_get-get_or, slice_get_within}
use Rattle.std.proofs.lemmas.Bool.Decides.{nat_tests}
use Rattle.rv_core.specs.declared.row.Alu.{Alu}
use Rattle.rv_core.specs.Arithmetic.{alu_value}
use Rattle.low_ir.specs.declared.object.Kind.{Kind}
use Rattle.low_ir.specs.Kinds.{converted, kind_bytes, kind_number, same_kind}
use Rattle.low_ir.specs.Code.{Address, Operand, Plain, Set, Operate, Point, Load, Store, Put, Get}
use Rattle.low_ir.specs.declared.run.Value.{Value}
use Rattle.low_ir.specs.declared.run.Value.TheVariants.{Word, Pointer}
use Rattle.low_ir.specs.Effects.{Contents, Did, World, can_store, changes, effect, effect_of, element, gives, got, is_element, loaded, next_byte, only_if, put, resolved, stored, takes, there, with_element, with_objects, with_one}
use Rattle.pass_common_subexpressions_law.specs.Facts.{AreApart, Loads, SparesElement, Touches}
use Rattle.pass_common_subexpressions_law.proofs.Places.{Nowhere, Somewhere, Way, way}

pub some_same : {A : Type 0} (x y : A) → Some x ≡ Some y → x ≡ y
some_same x y e = cc

-- what was gone on with is there
pub record IsThere {A B : Type 0} (o : Option A) (go : A → Option B) (y : B) : Type 0 where
  pub value : A
  pub is : o ≡ Some value
  pub goes : go value ≡ Some y

pub there_is : {A B : Type 0} (o : Option A) (go : A → Option B) (y : B) → there o go ≡ Some y → IsThere o go y
there_is None go y e = cc
there_is (Some x) go y e = record { value = x; is = refl; goes = e }

-- a test was met
pub record IsMet {A : Type 0} (b : Bool) (o : Option A) (y : A) : Type 0 where
  pub is : b ≡ true
  pub goes : o ≡ Some y

pub is_met : {A : Type 0} (b : Bool) (o : Option A) (y : A) → only_if b o ≡ Some y → IsMet b o y
is_met false o y e = cc
is_met true o y e = record { is = refl; goes = e }

first_true : (a b : Bool) → (a && b) ≡ true → a ≡ true
first_true true b e = refl
first_true false b e = cc

second_true : (a b : Bool) → (a && b) ≡ true → b ≡ true
second_true true b e = e
second_true false b e = cc

-- an element has the kind of its array
has_kind : (kind : Kind) (n : ℕ) (c : Contents) → is_element kind n c ≡ true → kind_number c.kind ≡ kind_number kind
has_kind kind n c e = eqb-true (kind_number c.kind) (kind_number kind) (first_true (same_kind c.kind kind) (n % kind_bytes kind == 0) e)

-- what was loaded is an element of an array
record IsLoaded (objects : List Contents) (kind : Kind) (o n w : ℕ) : Type 0 where
  contents : Contents
  there : slice_get objects o ≡ Some contents
  alike : kind_number contents.kind ≡ kind_number kind

is_loaded : (objects : List Contents) (kind : Kind) (o n w : ℕ) → loaded objects kind o n ≡ Some w → IsLoaded objects kind o n w
is_loaded objects kind o n w e =
    let t = there_is (slice_get objects o) (element kind n) w e in
    let m = is_met (is_element kind n t.value) (slice_index_or t.value.elements (n / kind_bytes kind) None) w t.goes in
    record { contents = t.value; there = t.is; alike = has_kind kind n t.value m.is }

-- what was stored is an element of an array, and the other arrays are as they were
pub record IsStored (objects now : List Contents) (kind : Kind) (o n w : ℕ) : Type 0 where
  pub contents : Contents
  pub there : slice_get objects o ≡ Some contents
  pub element : is_element kind n contents ≡ true
  pub few : n / kind_bytes kind < length contents.elements
  pub new : Contents
  pub new_is : new ≡ record { kind = contents.kind; storage = contents.storage; elements = slice_set contents.elements (n / kind_bytes kind) (Some (converted kind w)) }
  pub is : now ≡ slice_set objects o new

pub is_stored : (objects now : List Contents) (kind : Kind) (o n w : ℕ) → stored objects kind o n w ≡ Some now → IsStored objects now kind o n w
is_stored objects now kind o n w e =
    let t = there_is (slice_get objects o) (λ c. there (with_element kind n w c) (λ d. Some (slice_set objects o d))) now e in
    let d = there_is (with_element kind n w t.value) (λ d. Some (slice_set objects o d)) now t.goes in
    let new : Contents = record { kind = t.value.kind; storage = t.value.storage; elements = slice_set t.value.elements (n / kind_bytes kind) (Some (converted kind w)) } in
    let m = is_met (takes kind n t.value) (Some new) d.value d.is in
    let both = is_element kind n t.value && can_store t.value.storage in
    record {
      contents = t.value;
      there = t.is;
      element = first_true (is_element kind n t.value) (can_store t.value.storage) (first_true both (nat_lt (n / kind_bytes kind) (length t.value.elements)) m.is);
      few = ltb-true (n / kind_bytes kind) (length t.value.elements) (second_true both (nat_lt (n / kind_bytes kind) (length t.value.elements)) m.is);
      new = d.value;
      new_is = sym (some_same new d.value m.goes);
      is = sym (some_same (slice_set objects o d.value) now d.goes);
    }

pub get-set_same : {A : Type 0} (xs : List A) (i : ℕ) (x : A) → i < length xs → slice_get (slice_set xs i x) i ≡ Some x
get-set_same xs i x lt = slice_get-get_or (slice_set xs i x) i x (subst (λ n. i < n) (sym (length-set xs i x)) lt) ∙ ap Some (get_or-set_same xs i x x lt)

pub get-set_other : {A : Type 0} (xs : List A) (i j : ℕ) (x : A) → (j ≡ i → ⊥) → slice_get (slice_set xs i x) j ≡ slice_get xs j
get-set_other [] i j x other = refl
get-set_other (y ∷ ys) zero zero x other = absurd (other refl)
get-set_other (y ∷ ys) zero (suc j) x other = refl
get-set_other (y ∷ ys) (suc i) zero x other = refl
get-set_other (y ∷ ys) (suc i) (suc j) x other = get-set_other ys i j x (λ e. other (ap suc e))

-- arrays whose accesses are apart are two
two_arrays : (claims : List (List ℕ)) (objects now : List Contents) (held : Kind) (at : Address ℕ) (kind : Kind) (a : Address ℕ) (o n w x m v : ℕ) → AreApart claims held at.base kind a.base → loaded objects held o n ≡ Some w → IsStored objects now kind x m v → Touches claims at.base o → Touches claims a.base x → o ≡ x → ⊥
two_arrays claims objects now held at kind a o n w x m v apart e s here there same =
    ⊎_elim
    (λ (kinds : same_kind held kind ≡ false).
    let l = is_loaded objects held o n w e in
    let one : l.contents ≡ s.contents = some_same l.contents s.contents (sym l.there ∙ ap (slice_get objects) same ∙ s.there) in
    let both : kind_number held ≡ kind_number kind = sym l.alike ∙ ap (λ (c : Contents). kind_number c.kind) one ∙ has_kind kind m s.contents s.element in
    unlike (kind_number held) (kind_number kind) both kinds)
    (λ (none : (o : ℕ) → Touches claims at.base o → Touches claims a.base o → ⊥). none x (subst (Touches claims at.base) same here) there)
    apart
  where
    unlike : (i j : ℕ) → i ≡ j → (i == j) ≡ false → ⊥
    unlike i j e k = grind (arith, nat_tests)

-- what a store leaves as it is
stored_keeps : (claims : List (List ℕ)) (objects now : List Contents) (held : Kind) (at : Address ℕ) (kind : Kind) (a : Address ℕ) (o n w x m v : ℕ) → AreApart claims held at.base kind a.base → stored objects kind x m v ≡ Some now → Touches claims at.base o → Touches claims a.base x → loaded objects held o n ≡ Some w → loaded now held o n ≡ Some w
stored_keeps claims objects now held at kind a o n w x m v apart e here touches is =
    let s = is_stored objects now kind x m v e in
    let other = get-set_other objects x o s.new (two_arrays claims objects now held at kind a o n w x m v apart is s here touches) in
    ap (λ c. there c (element held n)) (ap (λ objects. slice_get objects o) s.is ∙ other) ∙ is

-- what was stored is loaded
pub stored_loads : (objects now : List Contents) (kind : Kind) (o n w : ℕ) → stored objects kind o n w ≡ Some now → loaded now kind o n ≡ Some (converted kind w)
stored_loads objects now kind o n w e =
    let s = is_stored objects now kind o n w e in
    let k = n / kind_bytes kind in
    let there_now : slice_get now o ≡ Some s.new = ap (λ objects. slice_get objects o) s.is ∙ get-set_same objects o s.new (slice_get_within objects o s.contents s.there) in
    ap (λ c. there c (element kind n)) (there_now ∙ ap Some s.new_is)
    ∙ ap (λ b. only_if b (slice_index_or (slice_set s.contents.elements k (Some (converted kind w))) k None)) s.element
    ∙ get_or-set_same s.contents.elements k (Some (converted kind w)) None s.few

pub none_some : {A : Type 0} (x : A) → None ≡ Some x → ⊥
none_some x e = cc

-- what a load and a store do at an element
abbrev pub load_from : World → Kind → ℕ → ℕ → Option Did
load_from u kind o n = there (loaded u.objects kind o n) (λ w. gives u (Word w))

abbrev pub store_to : World → Kind → ℕ → ℕ → ℕ → Option Did
store_to u kind v o n = there (stored u.objects kind o n v) (λ objects. changes (with_objects u objects))

one_given : (xs : List Value) (u : World) (did : Did) → with_one xs (gives u) ≡ Some did → u ≡ did.world
one_given [] u did e = cc
one_given (x ∷ []) u did e = ap (λ (d : Did). d.world) (some_same (record { world = u; value = x }) did e)
one_given (x ∷ y ∷ xs) u did e = cc

-- what an instruction leaves as it is
module _ (claims : List (List ℕ)) (u : World) (did : Did) (held : Kind) (at : Address ℕ) (r o n w : ℕ) (touches : Touches claims at.base o) (is : loaded u.objects held o n ≡ Some w) where
  abbrev Stays : Type 0
  Stays = loaded did.world.objects held o n ≡ Some w

  same_stays : u.objects ≡ did.world.objects → Stays
  same_stays e = subst (λ objects. loaded objects held o n ≡ Some w) e is

  given : (now : World) (x : Value) → gives now x ≡ Some did → now ≡ did.world
  given now x e = ap (λ (d : Did). d.world) (some_same (record { world = now; value = x }) did e)

  operate_stays : (operator : Alu) (d : ℕ) (x y : Operand ℕ) (xs : List Value) → effect claims (Operate operator d x y) xs u ≡ Some did → Stays
  operate_stays operator d x y [] e = cc
  operate_stays operator d x y (a ∷ []) e = cc
  operate_stays operator d x y (Word m ∷ Word k ∷ []) e = same_stays (ap (λ (v : World). v.objects) (given u (Word (alu_value operator m k)) e))
  operate_stays operator d x y (Word m ∷ Pointer k l ∷ []) e = cc
  operate_stays operator d x y (Pointer m l ∷ b ∷ []) e = cc
  operate_stays operator d x y (a ∷ b ∷ c ∷ xs) e = cc

  point_stays : (a : Address ℕ) (os : Option (List Value)) → Way claims a os → there os (λ xs. resolved claims a xs (λ o n. gives u (Pointer o n))) ≡ Some did → Stays
  point_stays a os (Nowhere none) e = absurd (none_some did (sym (none (λ o n. gives u (Pointer o n))) ∙ e))
  point_stays a os (Somewhere x m l) e = same_stays (ap (λ (v : World). v.objects) (given u (Pointer x m) (sym (l.goes (λ o n. gives u (Pointer o n))) ∙ e)))

  load_stays : (kind : Kind) (a : Address ℕ) (os : Option (List Value)) → Way claims a os → there os (λ xs. resolved claims a xs (load_from u kind)) ≡ Some did → Stays
  load_stays kind a os (Nowhere none) e = absurd (none_some did (sym (none (load_from u kind)) ∙ e))
  load_stays kind a os (Somewhere x m l) e =
      let t = there_is (loaded u.objects kind x m) (λ v. gives u (Word v)) did (sym (l.goes (load_from u kind)) ∙ e) in
      same_stays (ap (λ (v : World). v.objects) (given u (Word t.value) t.goes))

  store_stays : (kind : Kind) (a : Address ℕ) (v : ℕ) (os : Option (List Value)) → AreApart claims held at.base kind a.base → Way claims a os → there os (λ xs. resolved claims a xs (store_to u kind v)) ≡ Some did → Stays
  store_stays kind a v os apart (Nowhere none) e = absurd (none_some did (sym (none (store_to u kind v)) ∙ e))
  store_stays kind a v os apart (Somewhere x m l) e =
      let t = there_is (stored u.objects kind x m v) (λ objects. changes (with_objects u objects)) did (sym (l.goes (store_to u kind v)) ∙ e) in
      subst (λ objects. loaded objects held o n ≡ Some w) (ap (λ (z : World). z.objects) (given (with_objects u t.value) (Word 0) t.goes))
      (stored_keeps claims u.objects t.value held at kind a o n w x m v apart t.is touches l.touches is)

  stores_stay : (kind : Kind) (a : Address ℕ) (x : Operand ℕ) (xs : List Value) → AreApart claims held at.base kind a.base → effect claims (Store kind a x) xs u ≡ Some did → Stays
  stores_stay kind a x [] apart e = cc
  stores_stay kind a x (Word v ∷ xs) apart e = store_stays kind a v (Some xs) apart (way claims a (Some xs)) e
  stores_stay kind a x (Pointer m l ∷ xs) apart e = cc

  put_stays : (x : Operand ℕ) (xs : List Value) → effect claims (Put x) xs u ≡ Some did → Stays
  put_stays x [] e = cc
  put_stays x (Word v ∷ []) e = same_stays (ap (λ (z : World). z.objects) (given (put u v) (Word 0) e))
  put_stays x (Pointer m l ∷ []) e = cc
  put_stays x (a ∷ b ∷ xs) e = cc

  pub effect_stays : (i : Plain ℕ) (os : Option (List Value)) → SparesElement claims i (record { source = Loads held at; register = r }) → effect_of claims i os u ≡ Some did → Stays
  effect_stays i None h e = cc
  effect_stays (Set d x) (Some xs) h e = same_stays (ap (λ (v : World). v.objects) (one_given xs u did e))
  effect_stays (Operate operator d x y) (Some xs) h e = operate_stays operator d x y xs e
  effect_stays (Point d a) (Some xs) h e = point_stays a (Some xs) (way claims a (Some xs)) e
  effect_stays (Load kind d a) (Some xs) h e = load_stays kind a (Some xs) (way claims a (Some xs)) e
  effect_stays (Store kind a x) (Some xs) h e = stores_stay kind a x xs h e
  effect_stays (Put x) (Some xs) h e = put_stays x xs e
  effect_stays (Get d) (Some xs) h e = same_stays (ap (λ (v : World). v.objects) (given (got u) (Word (next_byte u.input)) e))
