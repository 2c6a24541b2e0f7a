-- The low program of a program in the high form.
use Rattle.std.proofs.Common.{◌≡◌, ℕ, zero, suc, ◌+◌, ◌<◌, ◌≤◌, true, List, [], ◌∷◌, ◌++◌, length, get_or, Option, Some, None, refl, sym, ap, ◌∙◌, subst, ⊎_elim, arith, length-append}
use Rattle.std.specs.Prelude.{All, slice_get, slice_index_or}
use Rattle.std.specs.List.{flat_map}
use Rattle.std.proofs.lemmas.Bool.{cases_lt}
use Rattle.std.proofs.lemmas.List.{get_or_past, length-map}
use Rattle.std.proofs.lemmas.List.Concat.{flat_map-cons}
use Rattle.std.proofs.lemmas.List.Elements.{All-cons, All-get_or, All-head, All-nil, All-tail}
use Rattle.std.proofs.lemmas.Option.{same_Some, slice_get_within, slice_get-get_or, get_or_from_slice_get}
use Rattle.high_ir.specs.Formed.{IsHigh, LeavesWithin}
use Rattle.high_ir.specs.Standing.{callees_of, marks_in, marks_of}
use Rattle.high_ir.specs.Tree.{Function, Program}
use Rattle.low_ir.specs.Code as code
use Rattle.low_ir.specs.Code.{Low, Note}
use Rattle.low_ir.specs.Effects.{is_member}
use Rattle.low_ir.specs.Formed.{IsClaim, IsFunction, IsLow, mark_of}
use Rattle.low_ir.specs.Runs.{block_in}
use Rattle.low_ir.specs.Turns.{mark_in}
use Rattle.lower_definition.specs.Calls.{Passed, all_passed, claims_among, numbered, order, place_in}
use Rattle.lower_definition.specs.Objects.{object_of}
use Rattle.lower_definition.specs.Programs.{lowered, lowered_function, lowered_functions, lowered_in, scope_of}
use Rattle.lower_origins.specs.Orders.{IsOrdered}
use Rattle.lower_origins.proofs.Members.{member_first, member_more, splits}
use Rattle.lower_origins.proofs.Visits.{ordered}
use Rattle.lower_origins.specs.Closed.{listed}
use Rattle.lower_origins.proofs.Numbering.{AllThere, Stood, all_there, length-numbered, listed_count, number_of, stood}
use Rattle.lower_nesting.specs.Blocks.{AllOf}
use Rattle.lower_budget.proofs.Distinct.{distinct_place, member_at, order_distinct}
use Rattle.lower_budget.proofs.FormedFunctions.{free_enough, function_is, opening_at}
use Rattle.lower_budget.proofs.Tables.{AllFilled, among_filled, filled_append, named_there, passed_table, table_at}

-- facts on members, as rows
of_members : (P : ℕ → Type 0) (xs : List ℕ) → ((x : ℕ) → is_member xs x ≡ true → P x) → AllOf P xs
of_members P [] h = tt
of_members P (x ∷ xs) h = (h x (member_first x xs), of_members P xs (λ y e. h y (member_more x xs y e)))

front : (P : ℕ → Type 0) (xs ys : List ℕ) → All P (xs ++ ys) → AllOf P xs
front P [] ys h = tt
front P (x ∷ xs) ys h = (All-head P x (xs ++ ys) h, front P xs ys (All-tail P x (xs ++ ys) h))

back : (P : ℕ → Type 0) (xs ys : List ℕ) → All P (xs ++ ys) → All P ys
back P [] ys h = h
back P (x ∷ xs) ys h = back P xs ys (All-tail P x (xs ++ ys) h)

-- the marks of a function
marks_at : (P : ℕ → Type 0) (fs : List Function) (f : ℕ) (h : Function) → All P (marks_in fs) → slice_get fs f ≡ Some h → AllOf P (marks_of h.body)
marks_at P [] f h all e = cc
marks_at P (x ∷ fs) zero h all e =
    subst (λ (y : Function). AllOf P (marks_of y.body)) (same_Some x h e) (front P (marks_of x.body) (marks_in fs) (subst (All P) (flat_map-cons (λ (y : Function). marks_of y.body) x fs) all))
marks_at P (x ∷ fs) (suc f) h all e = marks_at P fs f h (back P (marks_of x.body) (marks_in fs) (subst (All P) (flat_map-cons (λ (y : Function). marks_of y.body) x fs) all)) e

filled_claims : (objects : ℕ) (q : Low) (cs : List (List ℕ)) → objects ≡ length q.objects → AllFilled objects cs → All (IsClaim q) cs
filled_claims objects q [] e h = All-nil (IsClaim q)
filled_claims objects q (c ∷ cs) e h = All-cons (IsClaim q) c cs (h.0.0, subst (λ n. All (λ o. o < n) c) e (row c h.0.1)) (filled_claims objects q cs e h.1)
  where
    row : (os : List ℕ) → AllOf (λ o. o < objects) os → All (λ o. o < objects) os
    row [] g = All-nil (λ o. o < objects)
    row (o ∷ os) g = All-cons (λ o. o < objects) o os g.0 (row os g.1)

module _ (p : Program) (high : IsHigh p) where
  abbrev q : Low
  q = lowered p

  abbrev table : Passed
  table = all_passed p

  order_is : IsOrdered p
  order_is = ordered p high

  there : (f : ℕ) → is_member (order p) f ≡ true → (h : Function) × (slice_get p.functions f ≡ Some h)
  there f m = let a = order_is.places f m in (a.function, a.there)

  length-lowered : (gs : List ℕ) (n : ℕ) → AllThere p table gs → length (lowered_functions p table n gs) ≡ length gs
  length-lowered [] n all = refl
  length-lowered (g ∷ gs) n all =
      let m = n + length (claims_among (listed table g)) in
      ap (λ o. length (lowered_in p table n g o ++ lowered_functions p table m gs)) all.0.1 ∙ ap suc (length-lowered gs m all.1)

  -- the function that stands at a number
  pub record At (i : ℕ) (fn : code.Function ℕ Note) : Type 0 where
    pub number : ℕ
    pub function : Function
    pub at : slice_get (order p) i ≡ Some number
    pub there_is : slice_get p.functions number ≡ Some function
    pub stands : Stood p table q.claims q.functions i number function
    pub same : fn ≡ lowered_function (scope_of p table function (numbered stands.number (listed table number))) number function

  pub function_at : (i : ℕ) (fn : code.Function ℕ Note) → slice_get q.functions i ≡ Some fn → At i fn
  function_at i fn e =
      let all = all_there p table (order p) there in
      let size = length-lowered (order p) 0 all in
      let low = slice_get_within q.functions i fn e in
      let f = get_or (order p) i 0 in
      let at : slice_get (order p) i ≡ Some f = slice_get-get_or (order p) i 0 (omega (arith, size, low)) in
      let k = there f (member_at (order p) i f at) in
      let s = stood p table (order p) [] 0 i f k.0 all refl at k.1 in
      record {
        number = f;
        function = k.0;
        at = at;
        there_is = k.1;
        stands = s;
        same = same_Some fn (lowered_function (scope_of p table k.0 (numbered s.number (listed table f))) f k.0) (sym e ∙ s.function);
      }

  -- the place of a function
  place_at : (i f : ℕ) → slice_get (order p) i ≡ Some f → place_in (order p) f ≡ i
  place_at i f e = distinct_place (order p) i f (order_distinct p high) e

  -- marks of functions of the program
  others : (f : ℕ) (h : Function) → slice_get p.functions f ≡ Some h → AllOf (λ m. length p.functions ≤ m) (marks_of h.body)
  others f h e = marks_at (λ m. length p.functions ≤ m) p.functions f h high.others e

  alone : (i f : ℕ) (h : Function) → slice_get (order p) i ≡ Some f → slice_get p.functions f ≡ Some h → (m g b : ℕ) → m ≡ f → mark_of q g b ≡ Some m → (g ≡ i) × (b ≡ 0)
  alone i f h at there_is m g b same e = by_function (slice_get q.functions g) refl e
    where
      by_function : (o : Option (code.Function ℕ Note)) → slice_get q.functions g ≡ o → mark_in (block_in o b) ≡ Some m → (g ≡ i) × (b ≡ 0)
      by_function None is k = cc
      by_function (Some gn) is k =
          let a = function_at g gn is in
          let scope = scope_of p table a.function (numbered a.stands.number (listed table a.number)) in
          let low = slice_get_within p.functions f h there_is in
          let r = opening_at scope a.number a.function m b (length p.functions) (omega (arith, low, same)) (others a.number a.function a.there_is) (ap (λ (x : code.Function ℕ Note). mark_in (slice_get x.blocks b)) (sym a.same) ∙ k) in
          let number : a.number ≡ f = r.0 ∙ same in
          (sym (place_at g a.number a.at) ∙ ap (place_in (order p)) number ∙ place_at i f at, r.1)

  -- claims that are named are there
  claimed : (i f : ℕ) (h : Function) (s : Stood p table q.claims q.functions i f h) (j c : ℕ) → slice_get (numbered s.number (listed table f)) j ≡ Some (Some c) → c < length q.claims
  claimed i f h s j c e =
      let n = number_of s.number (listed table f) j c e in
      ⊎_elim (λ (k : c < length q.claims). k)
      (λ (past : length q.claims ≤ c).
      let nothing : slice_index_or q.claims c [] ≡ [] = get_or_past q.claims c [] past in
      let is : slice_index_or (claims_among (listed table f)) n.place [] ≡ [] = sym (s.claims n.place n.inside) ∙ ap (λ x. slice_index_or q.claims x []) (sym n.is) ∙ nothing in
      absurd (named_there (listed table f) n.place n.inside is)) (cases_lt c (length q.claims))

  is_function : (i : ℕ) (fn : code.Function ℕ Note) → slice_get q.functions i ≡ Some fn → IsFunction q i fn
  is_function i fn e =
      let a = function_at i fn e in
      let f = a.number in
      let h = a.function in
      let s = a.stands in
      let claims = numbered s.number (listed table f) in
      let scope = scope_of p table h claims in
      let inside = slice_get_within p.functions f h a.there_is in
      let member = member_at (order p) i f a.at in
      let place = place_at i f a.at in
      let o = order_is.places f member in
      let same : o.function ≡ h = same_Some o.function h (sym o.there ∙ a.there_is) in
      let openings = high.openings in
      let is : slice_index_or p.functions f h ≡ h = get_or_from_slice_get p.functions f h h a.there_is in
      let leaves : LeavesWithin h = subst LeavesWithin is (All-get_or LeavesWithin p.functions f h inside high.leaves) in
      let count = length-map p.objects object_of in
      let below : (g : ℕ) → is_member (callees_of h.body) g ≡ true → place_in (order p) g < i =
      λ g m.
      let c = o.called g (ap (λ (x : Function). is_member (callees_of x.body) g) same ∙ m) in
      let low = c.1 in
      omega (arith, low, place) in
      subst (IsFunction q i) (sym a.same)
      (function_is scope f h leaves q i (omega (arith, count)) (record { registers = free_enough scope f h; claimed = λ j c k. claimed i f h s j c k })
      (of_members (λ g. place_in (order p) g < i) (callees_of h.body) below) (omega (arith, inside, openings), marks_at (λ m. m < p.marks) p.functions f h high.marks a.there_is) (omega arith) (arrays s.number f h a.there_is)
      (λ m g b same at. alone i f h a.at a.there_is m g b same at))
    where
      arrays : (n f : ℕ) (h : Function) → slice_get p.functions f ≡ Some h → h.arrays ≡ length (numbered n (listed table f))
      arrays n f h e = sym (length-numbered n (listed table f) ∙ listed_count p f h e)

  claims_filled : (gs : List ℕ) → AllFilled (length p.objects) (flat_map (λ f. claims_among (listed table f)) gs)
  claims_filled [] = tt
  claims_filled (g ∷ gs) =
      subst (AllFilled (length p.objects)) (sym (flat_map-cons (λ f. claims_among (listed table f)) g gs))
      (filled_append (length p.objects) (claims_among (listed table g)) (flat_map (λ f. claims_among (listed table f)) gs) (among_filled (length p.objects) (listed table g) (table_at (length p.objects) table g (passed_table p))) (claims_filled gs))

  pub is_low : IsLow q
  is_low =
      let m = order_is.main in
      let s = splits (order p) p.main m in
      let size = length-lowered (order p) 0 (all_there p table (order p) there) in
      let total : length (order p) ≡ length s.before + suc (length s.behind) = ap length s.is ∙ length-append s.before (p.main ∷ s.behind) in
      let place = s.place in
      record {
        main = omega (arith, size, total, place);
        functions = is_function;
        claims = filled_claims (length p.objects) q q.claims (sym (length-map p.objects object_of)) (claims_filled (order p));
      }
