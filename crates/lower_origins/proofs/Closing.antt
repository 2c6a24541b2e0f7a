-- Behind a walk from callers to callees each call of a function is covered.
use Rattle.std.proofs.Common.{◌≡◌, ◌≢◌, ℕ, ◌<◌, ◌≤◌, true, List, [], ◌∷◌, ◌++◌, length, map, Option, Some, None, refl, sym, ap, ◌∙◌, subst, arith}
use Rattle.std.specs.Prelude.{reverse, slice_get}
use Rattle.std.proofs.lemmas.List.{reverse-append}
use Rattle.std.proofs.lemmas.Option.{same_Some}
use Rattle.high_ir.specs.Standing.{callees_of}
use Rattle.high_ir.specs.Tree.{Function, Program}
use Rattle.low_ir.specs.Effects.{is_member}
use Rattle.lower_definition.specs.Calls.{Passed, Site, all_passed, at_site, at_sites, by_function, by_functions, none_passed, order, place_in, sites_of}
use Rattle.lower_origins.proofs.Members.{member_first, member_front, member_more, place_front, splits}
use Rattle.lower_origins.specs.Orders.{IsOrdered}
use Rattle.lower_origins.specs.Closed.{AreCovered, listed}
use Rattle.lower_origins.proofs.Sites.{sites-callees}
use Rattle.lower_origins.proofs.Growing.{Grows, all_covered_more, grows_not, grows_twice, through, untouched}

-- calls that go to other functions
abbrev SitesAvoid : ℕ → List Site → Type 0
SitesAvoid f [] = Unit {0}
SitesAvoid f (s ∷ ss) = (f ≢ s.function) × SitesAvoid f ss

sites_avoid : (f : ℕ) (ss : List Site) → ((c : ℕ) → is_member (map (λ (x : Site). x.function) ss) c ≡ true → f ≢ c) → SitesAvoid f ss
sites_avoid f [] h = tt
sites_avoid f (s ∷ ss) h =
    let names = map (λ (x : Site). x.function) ss in
    (h s.function (member_first s.function names), sites_avoid f ss (λ c e. h c (member_more s.function names c e)))

steady_sites : (objects : ℕ) (own : List (List ℕ)) (f : ℕ) (t : Passed) (ss : List Site) → SitesAvoid f ss → listed (at_sites objects own t ss) f ≡ listed t f
steady_sites objects own f t [] h = refl
steady_sites objects own f t (s ∷ ss) h = steady_sites objects own f (at_site objects own t s) ss h.1 ∙ untouched objects own t s f h.0

module _ (objects : ℕ) (fs : List Function) where
  function_grows : (g : ℕ) (o : Option Function) (t : Passed) → Grows t (by_function objects g o t)
  function_grows g None t = grows_not t
  function_grows g (Some h) t = let a = through objects (listed t g) t (sites_of h.body) in a.grows

  pub functions_grow : (gs : List ℕ) (t : Passed) → Grows t (by_functions objects fs gs t)
  functions_grow [] t = grows_not t
  functions_grow (g ∷ gs) t =
      let t1 = by_function objects g (slice_get fs g) t in
      grows_twice t t1 (by_functions objects fs gs t1) (function_grows g (slice_get fs g) t) (functions_grow gs t1)

  by_append : (xs ys : List ℕ) (t : Passed) → by_functions objects fs (xs ++ ys) t ≡ by_functions objects fs ys (by_functions objects fs xs t)
  by_append [] ys t = refl
  by_append (x ∷ xs) ys t = by_append xs ys (by_function objects x (slice_get fs x) t)

  -- functions whose calls go elsewhere
  abbrev Avoids : ℕ → ℕ → Type 0
  Avoids f g = (h : Function) → slice_get fs g ≡ Some h → SitesAvoid f (sites_of h.body)

  abbrev AllAvoid : ℕ → List ℕ → Type 0
  AllAvoid f [] = Unit {0}
  AllAvoid f (g ∷ gs) = Avoids f g × AllAvoid f gs

  all_avoid : (f : ℕ) (gs : List ℕ) → ((g : ℕ) → is_member gs g ≡ true → Avoids f g) → AllAvoid f gs
  all_avoid f [] h = tt
  all_avoid f (g ∷ gs) h = (h g (member_first g gs), all_avoid f gs (λ c e. h c (member_more g gs c e)))

  avoid_append : (f : ℕ) (xs ys : List ℕ) → AllAvoid f xs → AllAvoid f ys → AllAvoid f (xs ++ ys)
  avoid_append f [] ys h k = k
  avoid_append f (x ∷ xs) ys h k = (h.0, avoid_append f xs ys h.1 k)

  avoid_reverse : (f : ℕ) (xs : List ℕ) → AllAvoid f xs → AllAvoid f (reverse xs)
  avoid_reverse f [] h = tt
  avoid_reverse f (x ∷ xs) h = subst (AllAvoid f) (sym (reverse-append (x ∷ []) xs)) (avoid_append f (reverse xs) (x ∷ []) (avoid_reverse f xs h.1) (h.0, tt))

  steady_function : (f g : ℕ) (o : Option Function) (t : Passed) → slice_get fs g ≡ o → Avoids f g → listed (by_function objects g o t) f ≡ listed t f
  steady_function f g None t e h = refl
  steady_function f g (Some k) t e h = steady_sites objects (listed t g) f t (sites_of k.body) (h k e)

  steady : (f : ℕ) (gs : List ℕ) (t : Passed) → AllAvoid f gs → listed (by_functions objects fs gs t) f ≡ listed t f
  steady f [] t h = refl
  steady f (g ∷ gs) t h = steady f gs (by_function objects g (slice_get fs g) t) h.1 ∙ steady_function f g (slice_get fs g) t refl h.0

module _ (p : Program) (ordered : IsOrdered p) where
  -- what a function calls has a lower place
  calls_lower : (g : ℕ) (h : Function) → is_member (order p) g ≡ true → slice_get p.functions g ≡ Some h → (c : ℕ) → is_member (map (λ (x : Site). x.function) (sites_of h.body)) c ≡ true → place_in (order p) c < place_in (order p) g
  calls_lower g h m e c called =
      let place = ordered.places g m in
      let same : place.function ≡ h = same_Some place.function h (sym place.there ∙ e) in
      let callee : is_member (callees_of place.function.body) c ≡ true = ap (λ (x : Function). is_member (callees_of x.body) c) same ∙ ap (λ xs. is_member xs c) (sym (sites-callees h.body)) ∙ called in
      (place.called c callee).1

  avoided : (f g : ℕ) → is_member (order p) g ≡ true → place_in (order p) g ≤ place_in (order p) f → Avoids (length p.objects) p.functions f g
  avoided f g m low h e =
      sites_avoid f (sites_of h.body) (λ c called same.
      let lower = calls_lower g h m e c called in
      let place : place_in (order p) c ≡ place_in (order p) f = ap (place_in (order p)) (sym same) in
      omega (arith, lower, low, place))

  pub closed : (f : ℕ) (h : Function) → is_member (order p) f ≡ true → slice_get p.functions f ≡ Some h → AreCovered (length p.objects) (listed (all_passed p) f) (all_passed p) (sites_of h.body)
  closed f h m e =
      let n = length p.objects in
      let fs = p.functions in
      let s = splits (order p) f m in
      let pre = s.before in
      let suf = s.behind in
      let t0 = none_passed fs in
      let t1 = by_functions n fs (reverse suf) t0 in
      let t2 = by_function n f (slice_get fs f) t1 in
      let t3 = by_functions n fs (reverse pre) t2 in
      let turned : reverse (order p) ≡ (reverse suf ++ f ∷ []) ++ reverse pre =
      ap reverse s.is ∙ reverse-append pre (f ∷ suf) ∙ ap (λ xs. xs ++ reverse pre) (reverse-append (f ∷ []) suf) in
      let final : all_passed p ≡ t3 =
      ap (λ xs. by_functions n fs xs t0) turned ∙ by_append n fs (reverse suf ++ f ∷ []) (reverse pre) t0 ∙ ap (by_functions n fs (reverse pre)) (by_append n fs (reverse suf) (f ∷ []) t0) in
      let place = s.place in
      let before : AllAvoid n fs f (reverse pre) =
      avoid_reverse n fs f pre (all_avoid n fs f pre (λ g mg.
      let low = place_front pre (f ∷ suf) g mg in
      let same : place_in (order p) g ≡ place_in (pre ++ f ∷ suf) g = ap (λ xs. place_in xs g) s.is in
      avoided f g (ap (λ xs. is_member xs g) s.is ∙ member_front pre (f ∷ suf) g mg) (omega (arith, low, same, place)))) in
      let own_steady : listed t2 f ≡ listed t1 f = steady_function n fs f f (slice_get fs f) t1 refl (avoided f f m (omega arith)) in
      let still : listed t3 f ≡ listed t1 f = steady n fs f (reverse pre) t2 before ∙ own_steady in
      let there : t2 ≡ at_sites n (listed t1 f) t1 (sites_of h.body) = ap (λ o. by_function n f o t1) e in
      let a = through n (listed t1 f) t1 (sites_of h.body) in
      let covered2 : AreCovered n (listed t1 f) t2 (sites_of h.body) = subst (λ t. AreCovered n (listed t1 f) t (sites_of h.body)) (sym there) a.covered in
      let covered3 : AreCovered n (listed t1 f) t3 (sites_of h.body) = all_covered_more n (listed t1 f) t2 t3 (sites_of h.body) (functions_grow n fs (reverse pre) t2) covered2 in
      let covered : AreCovered n (listed t3 f) t3 (sites_of h.body) = subst (λ l. AreCovered n l t3 (sites_of h.body)) (sym still) covered3 in
      subst (λ t. AreCovered n (listed t f) t (sites_of h.body)) (sym final) covered
