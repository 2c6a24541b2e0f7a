-- Lists of arrays grow.
use Rattle.std.proofs.Common.{◌≡◌, ◌≢◌, ℕ, zero, suc, ◌<◌, ◌≤◌, Bool, true, false, List, [], ◌∷◌, ◌++◌, length, Some, refl, sym, ap, ◌∙◌, subst, ⊎_elim, arith, get_or-set_same, get_or-set_other, length-set}
use Rattle.std.specs.Prelude.{◌==◌, if◌then◌else◌, slice_get, slice_index_or, slice_set}
use Rattle.std.proofs.lemmas.Bool.{cases_eq, cases_lt}
use Rattle.std.proofs.lemmas.List.{get_or_past}
use Rattle.std.proofs.lemmas.Option.{same_Some}
use Rattle.high_ir.specs.declared.object.Base.{Base}
use Rattle.low_ir.specs.Effects.{is_member}
use Rattle.lower_definition.specs.Calls.{Passed, Site, at_site, at_sites, meant, noted, passed_to}
use Rattle.lower_origins.proofs.Members.{member_back, member_front, same_test, test_same}
use Rattle.lower_origins.specs.Closed.{AreCovered, IsCovered, listed, listed_at}

-- a list with an array more
with_one_more : (claim : List ℕ) (x : ℕ) (b : Bool) (o : ℕ) → is_member claim o ≡ true → is_member (if b then claim else claim ++ x ∷ []) o ≡ true
with_one_more claim x true o e = e
with_one_more claim x false o e = member_front claim (x ∷ []) o e

has_one : (claim : List ℕ) (x : ℕ) (b : Bool) → is_member claim x ≡ b → is_member (if b then claim else claim ++ x ∷ []) x ≡ true
has_one claim x true e = e
has_one claim x false e = member_back claim (x ∷ []) x (ap (λ b. if b then true else false) (test_same x))

noted_keeps : (os claim : List ℕ) (o : ℕ) → is_member claim o ≡ true → is_member (noted claim os) o ≡ true
noted_keeps [] claim o e = e
noted_keeps (x ∷ os) claim o e = noted_keeps os (if is_member claim x then claim else claim ++ x ∷ []) o (with_one_more claim x (is_member claim x) o e)

noted_has : (os claim : List ℕ) (o : ℕ) → is_member os o ≡ true → is_member (noted claim os) o ≡ true
noted_has [] claim o e = cc
noted_has (x ∷ os) claim o e = by_test (x == o) refl e (λ f. noted_has os (if is_member claim x then claim else claim ++ x ∷ []) o f)
  where
    more : List ℕ
    more = if is_member claim x then claim else claim ++ x ∷ []

    by_test : (b : Bool) → (x == o) ≡ b → (if b then true else is_member os o) ≡ true → (is_member os o ≡ true → is_member (noted more os) o ≡ true) → is_member (noted more os) o ≡ true
    by_test true t e go = noted_keeps os more o (subst (λ y. is_member more y ≡ true) (same_test x o t) (has_one claim x (is_member claim x) refl))
    by_test false t e go = go e

module _ (objects : ℕ) (own : List (List ℕ)) where
  passed_size : (bs : List Base) (cs : List (List ℕ)) → length (passed_to objects own bs cs) ≡ length cs
  passed_size [] cs = refl
  passed_size (b ∷ bs) [] = refl
  passed_size (b ∷ bs) (c ∷ cs) = ap suc (passed_size bs cs)

  passed_keeps : (bs : List Base) (cs : List (List ℕ)) (j o : ℕ) → is_member (slice_index_or cs j []) o ≡ true → is_member (slice_index_or (passed_to objects own bs cs) j []) o ≡ true
  passed_keeps [] cs j o e = e
  passed_keeps (b ∷ bs) [] j o e = e
  passed_keeps (b ∷ bs) (c ∷ cs) zero o e = noted_keeps (meant objects own b) c o e
  passed_keeps (b ∷ bs) (c ∷ cs) (suc j) o e = passed_keeps bs cs j o e

  passed_has : (bs : List Base) (cs : List (List ℕ)) (j o : ℕ) (b : Base) → slice_get bs j ≡ Some b → j < length cs → is_member (meant objects own b) o ≡ true → is_member (slice_index_or (passed_to objects own bs cs) j []) o ≡ true
  passed_has [] cs j o b e low m = cc
  passed_has (x ∷ bs) [] j o b e low m = absurd (omega (arith, low))
  passed_has (x ∷ bs) (c ∷ cs) zero o b e low m = noted_has (meant objects own x) c o (subst (λ y. is_member (meant objects own y) o ≡ true) (sym (same_Some x b e)) m)
  passed_has (x ∷ bs) (c ∷ cs) (suc j) o b e low m = passed_has bs cs j o b e (omega (arith, low)) m

-- a table with more in its lists
pub record Grows (old new : Passed) : Type 0 where
  pub sizes : (f : ℕ) → length (listed new f) ≡ length (listed old f)
  pub keeps : (f j o : ℕ) → is_member (listed_at old f j) o ≡ true → is_member (listed_at new f j) o ≡ true

pub grows_not : (t : Passed) → Grows t t
grows_not t = record { sizes = λ f. refl; keeps = λ f j o e. e }

pub grows_twice : (a b c : Passed) → Grows a b → Grows b c → Grows a c
grows_twice a b c h k = record { sizes = λ f. k.sizes f ∙ h.sizes f; keeps = λ f j o e. k.keeps f j o (h.keeps f j o e) }

-- the list of a function with a table's list set
record IsSet (t : Passed) (g : ℕ) (y : List (List ℕ)) (f : ℕ) : Type 0 where
  one : f ≡ g → g < length t → listed (slice_set t g y) f ≡ y
  none : f ≡ g → length t ≤ g → (listed (slice_set t g y) f ≡ []) × (listed t f ≡ [])
  other : f ≢ g → listed (slice_set t g y) f ≡ listed t f

is_set : (t : Passed) (g : ℕ) (y : List (List ℕ)) (f : ℕ) → IsSet t g y f
is_set t g y f = record {
  one = λ e low. ap (listed (slice_set t g y)) e ∙ get_or-set_same t g y [] low;
  none = λ e past.
      let size = length-set t g y in
      (get_or_past (slice_set t g y) f [] (omega (arith, e, past, size)), get_or_past t f [] (omega (arith, e, past)));
  other = λ d. get_or-set_other t g f y [] d;
}

module _ (objects : ℕ) (own : List (List ℕ)) where
  pub untouched : (t : Passed) (s : Site) (f : ℕ) → f ≢ s.function → listed (at_site objects own t s) f ≡ listed t f
  untouched t s f d = let h = is_set t s.function (passed_to objects own s.arrays (listed t s.function)) f in h.other d

  site_grows : (t : Passed) (s : Site) → Grows t (at_site objects own t s)
  site_grows t s =
      let g = s.function in
      let y = passed_to objects own s.arrays (listed t g) in
      record {
        sizes = λ f. let h = is_set t g y f in ⊎_elim
            (λ (same : f ≡ g). ⊎_elim
            (λ (low : g < length t). ap length (h.one same low) ∙ passed_size objects own s.arrays (listed t g) ∙ ap (λ i. length (listed t i)) (sym same))
            (λ (past : length t ≤ g). let n = h.none same past in ap length (n.0 ∙ sym n.1))
            (cases_lt g (length t)))
            (λ (d : f ≢ g). ap length (h.other d))
            (cases_eq f g);
        keeps = λ f j o e. let h = is_set t g y f in ⊎_elim
            (λ (same : f ≡ g). ⊎_elim
            (λ (low : g < length t). subst (λ l. is_member (slice_index_or l j []) o ≡ true) (sym (h.one same low)) (passed_keeps objects own s.arrays (listed t g) j o (subst (λ i. is_member (listed_at t i j) o ≡ true) same e)))
            (λ (past : length t ≤ g). let n = h.none same past in subst (λ l. is_member (slice_index_or l j []) o ≡ true) (n.1 ∙ sym n.0) e)
            (cases_lt g (length t)))
            (λ (d : f ≢ g). subst (λ l. is_member (slice_index_or l j []) o ≡ true) (sym (h.other d)) e)
            (cases_eq f g);
      }

  site_covered : (t : Passed) (s : Site) → IsCovered objects own (at_site objects own t s) s
  site_covered t s j b o e low m =
      let g = s.function in
      let y = passed_to objects own s.arrays (listed t g) in
      let h = is_set t g y g in
      ⊎_elim
      (λ (inside : g < length t).
      let size : length (listed (slice_set t g y) g) ≡ length (listed t g) = ap length (h.one refl inside) ∙ passed_size objects own s.arrays (listed t g) in
      subst (λ l. is_member (slice_index_or l j []) o ≡ true) (sym (h.one refl inside)) (passed_has objects own s.arrays (listed t g) j o b e (omega (arith, low, size)) m))
      (λ (past : length t ≤ g).
      let n = h.none refl past in
      let size : length (listed (slice_set t g y) g) ≡ length {A = List ℕ} [] = ap length n.0 in
      absurd (omega (arith, low, size)))
      (cases_lt g (length t))

  pub covered_more : (old new : Passed) (s : Site) → Grows old new → IsCovered objects own old s → IsCovered objects own new s
  covered_more old new s g h j b o e low m =
      let size = g.sizes s.function in
      g.keeps s.function j o (h j b o e (omega (arith, low, size)) m)

  pub all_covered_more : (old new : Passed) (ss : List Site) → Grows old new → AreCovered objects own old ss → AreCovered objects own new ss
  all_covered_more old new [] g h = tt
  all_covered_more old new (s ∷ ss) g h = (covered_more old new s g h.0, all_covered_more old new ss g h.1)

  -- what becomes of a table at the calls of a function
  pub record Through (t : Passed) (ss : List Site) : Type 0 where
    pub grows : Grows t (at_sites objects own t ss)
    pub covered : AreCovered objects own (at_sites objects own t ss) ss

  pub through : (t : Passed) (ss : List Site) → Through t ss
  through t [] = record { grows = grows_not t; covered = tt }
  through t (s ∷ ss) =
      let t1 = at_site objects own t s in
      let rest = through t1 ss in
      record {
        grows = grows_twice t t1 (at_sites objects own t1 ss) (site_grows t s) rest.grows;
        covered = (covered_more t1 (at_sites objects own t1 ss) s rest.grows (site_covered t s), rest.covered);
      }
