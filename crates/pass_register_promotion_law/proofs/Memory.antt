-- What an instruction does beside two memories that differ at some objects which it doesn't touch.
use Rattle.std.proofs.Common.{◌≡◌, ◌≢◌, ℕ, ◌<◌, Bool, true, false, List, [], ◌∷◌, length, Option, Some, refl, sym, ap, ◌∙◌, subst, ⊎_elim, arith}
use Rattle.std.specs.Prelude.{◌/◌, ◌%◌, ◌==◌, ◌&&◌, nat_lt, slice_get, slice_set}
use Rattle.std.proofs.lemmas.Bool.{cases_eq, eqb-true, ltb-true}
use Rattle.std.proofs.lemmas.Option.{slice_get_within}
use Rattle.rv_core.specs.declared.row.Alu.{Alu}
use Rattle.rv_core.specs.Arithmetic.{alu_value}
use Rattle.low_ir.specs.declared.object.Kind.{Kind}
use Rattle.low_ir.specs.declared.object.Storage.TheVariants.{Global}
use Rattle.low_ir.specs.Kinds.{converted, kind_bytes, kind_number, same_kind}
use Rattle.low_ir.specs.Code.{Address, Base, Operand, Plain, Set, Operate, Point, Load, Store, Put, Get}
use Rattle.low_ir.specs.declared.run.Value.{Value}
use Rattle.low_ir.specs.declared.run.Value.TheVariants.{Word, Pointer}
use Rattle.low_ir.specs.Effects.{Contents, Did, World, changes, effect, element, gives, got, is_element, loaded, next_byte, put, resolved, stored, takes, there, with_element, with_objects}
use Rattle.pass_common_subexpressions_law.specs.Facts.{Touches}
use Rattle.pass_common_subexpressions_law.proofs.Places.{Nowhere, Somewhere, Way, way}
use Rattle.pass_common_subexpressions_law.proofs.Effects.{get-set_other, get-set_same, is_met, load_from, none_some, some_same, store_to, there_is}
use Rattle.pass_register_promotion_law.proofs.Narrow.{converted_again, same_kinds}
use Rattle.pass_register_promotion_law.proofs.Scalars.{HasWord, scalar, unlike}

-- memories that are the same but for what is hidden
abbrev pub AreAlike : (ℕ → Bool) → List Contents → List Contents → Type 0
AreAlike hides objects others = (o : ℕ) → hides o ≡ false → slice_get objects o ≡ slice_get others o

-- what is touched isn't hidden
abbrev pub BaseSees : List (List ℕ) → (ℕ → Bool) → Base ℕ → Type 0
BaseSees claims hides base = (o : ℕ) → Touches claims base o → hides o ≡ false

abbrev pub PlainSees : List (List ℕ) → (ℕ → Bool) → Plain ℕ → Type 0
PlainSees claims hides (Load kind d a) = BaseSees claims hides a.base
PlainSees claims hides (Store kind a x) = BaseSees claims hides a.base
PlainSees claims hides i = Unit {0}

-- the same was done beside the other memory
pub record Alongside (hides : ℕ → Bool) (u : World) (others : List Contents) (did : Did) (o : Option Did) : Type 0 where
  pub now : List Contents
  pub is : o ≡ Some (record { world = with_objects did.world now; value = did.value })
  pub alike : AreAlike hides did.world.objects now
  pub still : (o : ℕ) → hides o ≡ true → slice_get did.world.objects o ≡ slice_get u.objects o
  pub still_there : (o : ℕ) → hides o ≡ true → slice_get now o ≡ slice_get others o
  pub words : (o : ℕ) (k : Kind) → HasWord u.objects o k → HasWord did.world.objects o k

-- a scalar that was stored to
pub record IsNew (kind k : Kind) (v : ℕ) (new : Contents) : Type 0 where
  pub alike : k ≡ kind
  pub is : new ≡ scalar k (Some (converted kind v))

new_word : (kind k : Kind) (m v w : ℕ) (new : Contents) → with_element kind m v (scalar k (Some w)) ≡ Some new → IsNew kind k v new
new_word kind k m v w new e =
    let d = is_met (takes kind m (scalar k (Some w))) (Some (record { kind = k; storage = Global; elements = slice_set (Some w ∷ []) (m / kind_bytes kind) (Some (converted kind v)) })) new e in
    let here : is_element kind m (scalar k (Some w)) ≡ true = first (is_element kind m (scalar k (Some w))) (nat_lt (m / kind_bytes kind) 1) d.is in
    let few : m / kind_bytes kind < 1 = ltb-true (m / kind_bytes kind) 1 (last (is_element kind m (scalar k (Some w))) (nat_lt (m / kind_bytes kind) 1) d.is) in
    let at : m / kind_bytes kind ≡ 0 = omega (arith, few) in
    record {
      alike = same_kinds k kind (eqb-true (kind_number k) (kind_number kind) (both (same_kind k kind) (m % kind_bytes kind == 0) here));
      is = sym (some_same _ new d.goes) ∙ ap (λ n. record { kind = k; storage = Global; elements = slice_set (Some w ∷ []) n (Some (converted kind v)) }) at;
    }
  where
    first : (a b : Bool) → (a && true && b) ≡ true → a ≡ true
    first true b e = refl
    first false b e = cc

    last : (a b : Bool) → (a && true && b) ≡ true → b ≡ true
    last true b e = e
    last false b e = cc

    both : (a b : Bool) → (a && b) ≡ true → a ≡ true
    both true b e = refl
    both false b e = cc

module _ (claims : List (List ℕ)) (hides : ℕ → Bool) (u : World) (others : List Contents) (alike : AreAlike hides u.objects others) (did : Did) where
  abbrev v : World
  v = with_objects u others

  -- memory stays as it is
  given : (w : World) (x : Value) → w.objects ≡ u.objects → gives w x ≡ Some did → (o : Option Did) → o ≡ gives (with_objects w others) x → Alongside hides u others did o
  given w x same e o k =
      let is : record { world = w; value = x } ≡ did = some_same (record { world = w; value = x }) did e in
      let objects : did.world.objects ≡ u.objects = ap (λ (d : Did). d.world.objects) (sym is) ∙ same in
      record {
        now = others;
        is = k ∙ ap (λ (d : Did). Some (record { world = with_objects d.world others; value = d.value })) is;
        alike = subst (λ os. AreAlike hides os others) (sym objects) alike;
        still = λ o h. ap (λ os. slice_get os o) objects;
        still_there = λ o h. refl;
        words = λ o k h. subst (λ os. HasWord os o k) (sym objects) h;
      }

  set_alongside : (d : ℕ) (x : Operand ℕ) (xs : List Value) → effect claims (Set d x) xs u ≡ Some did → Alongside hides u others did (effect claims (Set d x) xs v)
  set_alongside d x [] e = cc
  set_alongside d x (a ∷ []) e = given u a refl e _ refl
  set_alongside d x (a ∷ b ∷ xs) e = cc

  operate_alongside : (operator : Alu) (d : ℕ) (x y : Operand ℕ) (xs : List Value) → effect claims (Operate operator d x y) xs u ≡ Some did → Alongside hides u others did (effect claims (Operate operator d x y) xs v)
  operate_alongside operator d x y [] e = cc
  operate_alongside operator d x y (a ∷ []) e = cc
  operate_alongside operator d x y (Word m ∷ Word k ∷ []) e = given u (Word (alu_value operator m k)) refl e _ refl
  operate_alongside operator d x y (Word m ∷ Pointer k l ∷ []) e = cc
  operate_alongside operator d x y (Pointer m l ∷ b ∷ []) e = cc
  operate_alongside operator d x y (a ∷ b ∷ c ∷ xs) e = cc

  point_alongside : (a : Address ℕ) (os : Option (List Value)) → Way claims a os → there os (λ xs. resolved claims a xs (λ o n. gives u (Pointer o n))) ≡ Some did → Alongside hides u others did (there os (λ xs. resolved claims a xs (λ o n. gives v (Pointer o n))))
  point_alongside a os (Nowhere none) e = absurd (none_some did (sym (none (λ o n. gives u (Pointer o n))) ∙ e))
  point_alongside a os (Somewhere x m l) e = given u (Pointer x m) refl (sym (l.goes (λ o n. gives u (Pointer o n))) ∙ e) _ (l.goes (λ o n. gives v (Pointer o n)))

  load_alongside : (kind : Kind) (a : Address ℕ) (os : Option (List Value)) → BaseSees claims hides a.base → Way claims a os → there os (λ xs. resolved claims a xs (load_from u kind)) ≡ Some did → Alongside hides u others did (there os (λ xs. resolved claims a xs (load_from v kind)))
  load_alongside kind a os sees (Nowhere none) e = absurd (none_some did (sym (none (load_from u kind)) ∙ e))
  load_alongside kind a os sees (Somewhere x m l) e =
      let t = there_is (loaded u.objects kind x m) (λ w. gives u (Word w)) did (sym (l.goes (load_from u kind)) ∙ e) in
      let other : loaded others kind x m ≡ Some t.value = ap (λ c. there c (element kind m)) (sym (alike x (sees x l.touches))) ∙ t.is in
      given u (Word t.value) refl t.goes _ (l.goes (load_from v kind) ∙ ap (λ o. there o (λ w. gives v (Word w))) other)

  -- a store
  changed : (kind : Kind) (x m w : ℕ) (objects : List Contents) → hides x ≡ false → stored u.objects kind x m w ≡ Some objects → changes (with_objects u objects) ≡ Some did → (o : Option Did) → o ≡ store_to v kind w x m → Alongside hides u others did o
  changed kind x m w objects seen e f o k =
      let a = there_is (slice_get u.objects x) (λ c. there (with_element kind m w c) (λ d. Some (slice_set u.objects x d))) objects e in
      let b = there_is (with_element kind m w a.value) (λ d. Some (slice_set u.objects x d)) objects a.goes in
      let new = b.value in
      let is : record { world = with_objects u objects; value = Word 0 } ≡ did = some_same (record { world = with_objects u objects; value = Word 0 }) did f in
      let set : did.world.objects ≡ slice_set u.objects x new = ap (λ (d : Did). d.world.objects) (sym is) ∙ sym (some_same (slice_set u.objects x new) objects b.goes) in
      let same : slice_get others x ≡ Some a.value = sym (alike x seen) ∙ a.is in
      let here : x < length u.objects = slice_get_within u.objects x a.value a.is in
      let there_too : x < length others = slice_get_within others x a.value same in
      let now = slice_set others x new in
      let apart : (y : ℕ) → hides y ≡ true → y ≡ x → ⊥ = λ y h z. unlike (hides y) h (ap hides z ∙ seen) in
      let other : stored others kind x m w ≡ Some now = ap (λ c. there c (λ c. there (with_element kind m w c) (λ d. Some (slice_set others x d)))) same ∙ ap (λ c. there c (λ d. Some (slice_set others x d))) b.is in
      record {
        now = now;
        is = k ∙ ap (λ c. there c (λ objects. changes (with_objects v objects))) other ∙ ap (λ (d : Did). Some (record { world = with_objects d.world now; value = d.value })) is;
        alike = λ y h.
            ⊎_elim
            (λ (z : y ≡ x). ap (λ os. slice_get os y) set ∙ ap (slice_get (slice_set u.objects x new)) z ∙ get-set_same u.objects x new here ∙ sym (ap (slice_get now) z ∙ get-set_same others x new there_too))
            (λ (z : y ≢ x). ap (λ os. slice_get os y) set ∙ get-set_other u.objects x y new z ∙ alike y h ∙ sym (get-set_other others x y new z))
            (cases_eq y x);
        still = λ y h. ap (λ os. slice_get os y) set ∙ get-set_other u.objects x y new (apart y h);
        still_there = λ y h. get-set_other others x y new (apart y h);
        words = λ y k h.
            ⊎_elim
            (λ (z : y ≡ x).
            let c : a.value ≡ scalar k (Some h.word) = some_same a.value (scalar k (Some h.word)) (sym a.is ∙ ap (slice_get u.objects) (sym z) ∙ h.is) in
            let n = new_word kind k m w h.word new (ap (with_element kind m w) (sym c) ∙ b.is) in
            record {
              word = converted kind w;
              kept = ap (λ x. converted x (converted kind w)) n.alike ∙ converted_again kind w;
              is = ap (λ os. slice_get os y) set ∙ ap (slice_get (slice_set u.objects x new)) z ∙ get-set_same u.objects x new here ∙ ap Some n.is;
            })
            (λ (z : y ≢ x). record { word = h.word; kept = h.kept; is = ap (λ os. slice_get os y) set ∙ get-set_other u.objects x y new z ∙ h.is })
            (cases_eq y x);
      }

  store_alongside : (kind : Kind) (a : Address ℕ) (w : ℕ) (os : Option (List Value)) → BaseSees claims hides a.base → Way claims a os → there os (λ xs. resolved claims a xs (store_to u kind w)) ≡ Some did → Alongside hides u others did (there os (λ xs. resolved claims a xs (store_to v kind w)))
  store_alongside kind a w os sees (Nowhere none) e = absurd (none_some did (sym (none (store_to u kind w)) ∙ e))
  store_alongside kind a w os sees (Somewhere x m l) e =
      let t = there_is (stored u.objects kind x m w) (λ objects. changes (with_objects u objects)) did (sym (l.goes (store_to u kind w)) ∙ e) in
      changed kind x m w t.value (sees x l.touches) t.is t.goes _ (l.goes (store_to v kind w))

  stores_alongside : (kind : Kind) (a : Address ℕ) (x : Operand ℕ) (xs : List Value) → BaseSees claims hides a.base → effect claims (Store kind a x) xs u ≡ Some did → Alongside hides u others did (effect claims (Store kind a x) xs v)
  stores_alongside kind a x [] sees e = cc
  stores_alongside kind a x (Word w ∷ xs) sees e = store_alongside kind a w (Some xs) sees (way claims a (Some xs)) e
  stores_alongside kind a x (Pointer m l ∷ xs) sees e = cc

  put_alongside : (x : Operand ℕ) (xs : List Value) → effect claims (Put x) xs u ≡ Some did → Alongside hides u others did (effect claims (Put x) xs v)
  put_alongside x [] e = cc
  put_alongside x (Word w ∷ []) e = given (put u w) (Word 0) refl e _ refl
  put_alongside x (Pointer m l ∷ []) e = cc
  put_alongside x (a ∷ b ∷ xs) e = cc

  pub effect_alongside : (i : Plain ℕ) (xs : List Value) → PlainSees claims hides i → effect claims i xs u ≡ Some did → Alongside hides u others did (effect claims i xs v)
  effect_alongside (Set d x) xs sees e = set_alongside d x xs e
  effect_alongside (Operate operator d x y) xs sees e = operate_alongside operator d x y xs e
  effect_alongside (Point d a) xs sees e = point_alongside a (Some xs) (way claims a (Some xs)) e
  effect_alongside (Load kind d a) xs sees e = load_alongside kind a (Some xs) sees (way claims a (Some xs)) e
  effect_alongside (Store kind a x) xs sees e = stores_alongside kind a x xs sees e
  effect_alongside (Put x) xs sees e = put_alongside x xs e
  effect_alongside (Get d) xs sees e = given (got u) (Word (next_byte u.input)) refl e _ refl
