-- Each call in a function of the low program is served.
use Rattle.std.proofs.Common.{◌≡◌, ℕ, zero, suc, ◌<◌, true, List, [], ◌∷◌, ◌++◌, length, map, Some, refl, sym, ap, ◌∙◌, subst, arith}
use Rattle.std.specs.Prelude.{All, if◌then◌else◌, nat_lt, slice_get, slice_index_or}
use Rattle.std.proofs.lemmas.Bool.Decides.{nat_tests}
use Rattle.std.proofs.lemmas.List.Elements.{All-get_or}
use Rattle.std.proofs.lemmas.Option.{same_Some, slice_get_within, get_or_from_slice_get}
use Rattle.high_ir.specs.declared.object.Base.{Base}
use Rattle.high_ir.specs.declared.object.Base.TheVariants.{Object, Parameter}
use Rattle.high_ir.specs.Meaning as high
use Rattle.high_ir.specs.Runs.{calls, enter}
use Rattle.high_ir.specs.Standing.{callees_of}
use Rattle.high_ir.specs.Tree.{Function, Program, Statement, Set, Put, Get, Keep, Mark, Seq, If, Loop, Block, Leave, Call, Return, Statements, End, Then}
use Rattle.high_ir.specs.Whole.{AllHaveWords, HasWords}
use Rattle.low_ir.specs.Code.{Low}
use Rattle.low_ir.specs.Effects.{is_member}
use Rattle.lower_definition.specs.Values.{Scope}
use Rattle.lower_definition.specs.Calls.{Passed, Site, all_passed, meant, numbered, order, place_in, sites_of, sites_of_all}
use Rattle.lower_definition.specs.Programs.{lowered, scope_of}
use Rattle.lower_values.specs.Meeting.{IsClaimed}
use Rattle.lower_values.proofs.Elements.{from_value}
use Rattle.lower_program.specs.Claims.{AreSound, IsSound, built}
use Rattle.lower_program.specs.Following.{CallDoes, Place, Serves}
use Rattle.lower_program.proofs.Functions.{function_does, is_here}
use Rattle.lower_origins.proofs.Members.{member_first, member_more}
use Rattle.lower_origins.specs.Orders.{IsOrdered}
use Rattle.lower_origins.specs.Closed.{AreCovered, IsCovered, listed, listed_at}
use Rattle.lower_origins.proofs.Numbering.{Stood, all_there, has_number, length-numbered, listed_count, number_of, stood}
use Rattle.lower_origins.proofs.Closing.{closed}
use Rattle.lower_origins.proofs.Sites.{sites-callees}

-- a list of one array has it
one_member : (o : ℕ) → is_member (o ∷ []) o ≡ true
one_member o = member_first o []

-- an array that is there and is meant is one that may be meant
meant_there : (objects : ℕ) (own : List (List ℕ)) (passed : List ℕ) (b : Base) (o : ℕ) → o < objects → high.object_number passed b ≡ Some o → ((i : ℕ) → slice_get passed i ≡ Some o → is_member (slice_index_or own i []) o ≡ true) → is_member (meant objects own b) o ≡ true
meant_there objects own passed (Object n) o inside e h =
    let same : n ≡ o = same_Some n o e in
    let test : nat_lt n objects ≡ true = grind (arith, nat_tests, same, inside) in
    ap (λ b. is_member (if b then n ∷ [] else []) o) test ∙ ap (λ m. is_member (m ∷ []) o) same ∙ one_member o
meant_there objects own passed (Parameter i) o inside e h = h i e

-- what a call passes for a parameter
record Passes (passed : List ℕ) (bs : List Base) (j o : ℕ) : Type 0 where
  base : Base
  there : slice_get bs j ≡ Some base
  number : high.object_number passed base ≡ Some o

later : (passed : List ℕ) (b : Base) (bs : List Base) (j o : ℕ) → Passes passed bs j o → Passes passed (b ∷ bs) (suc j) o
later passed b bs j o h = record { base = h.base; there = h.there; number = h.number }

passes : (passed : List ℕ) (bs : List Base) (ns : List ℕ) (j o : ℕ) → high.objects_of passed bs ≡ Some ns → slice_get ns j ≡ Some o → Passes passed bs j o
passes passed [] ns j o e f = no_first ns j o (same_Some [] ns e) f
  where
    no_first : (ns : List ℕ) (j o : ℕ) → [] ≡ ns → slice_get ns j ≡ Some o → Passes passed [] j o
    no_first [] j o e f = cc
    no_first (n ∷ ns) j o e f = cc
passes passed (b ∷ bs) ns zero o e f =
    let a = from_value (high.object_number passed b) (λ n. high.at_value (high.objects_of passed bs) (λ rest. Some (n ∷ rest))) ns e in
    let c = from_value (high.objects_of passed bs) (λ rest. Some (a.value ∷ rest)) ns a.then_is in
    let first : Some a.value ≡ Some o = ap (λ xs. slice_get xs 0) (same_Some (a.value ∷ c.value) ns c.then_is) ∙ f in
    record { base = b; there = refl; number = a.is ∙ first }
passes passed (b ∷ bs) ns (suc j) o e f =
    let a = from_value (high.object_number passed b) (λ n. high.at_value (high.objects_of passed bs) (λ rest. Some (n ∷ rest))) ns e in
    let c = from_value (high.objects_of passed bs) (λ rest. Some (a.value ∷ rest)) ns a.then_is in
    let rest : slice_get c.value j ≡ Some o = ap (λ xs. slice_get xs (suc j)) (same_Some (a.value ∷ c.value) ns c.then_is) ∙ f in
    later passed b bs j o (passes passed bs c.value j o c.is rest)

module _ (p : Program) (ordered : IsOrdered p) where
  abbrev q : Low
  q = lowered p

  abbrev table : Passed
  table = all_passed p

  abbrev scope_at : ℕ → ℕ → Function → Scope
  scope_at n f h = scope_of p table h (numbered n (listed table f))

  there : (f : ℕ) → is_member (order p) f ≡ true → (h : Function) × (slice_get p.functions f ≡ Some h)
  there f m = let a = ordered.places f m in (a.function, a.there)

  pub stands_at : (f : ℕ) (h : Function) → is_member (order p) f ≡ true → slice_get p.functions f ≡ Some h → Stood p table q.claims q.functions (place_in (order p) f) f h
  stands_at f h m e =
      let a = ordered.places f m in
      stood p table (order p) [] 0 (place_in (order p) f) f h (all_there p table (order p) there) refl a.number e

  -- how many lists a function has
  count_claims : (n f : ℕ) (h : Function) → slice_get p.functions f ≡ Some h → length (scope_at n f h).claims ≡ h.arrays
  count_claims n f h e = length-numbered n (listed table f) ∙ listed_count p f h e

  -- a function of the low program as a place
  abbrev pub place_of : (f : ℕ) (h : Function) → is_member (order p) f ≡ true → slice_get p.functions f ≡ Some h → Place
  place_of f h m e = let s = stands_at f h m e in built (place_in (order p) f) (scope_at s.number f h) f h

  -- what is claimed of an array parameter and what is listed of it are one thing
  claim_is : (f : ℕ) (h : Function) (m : is_member (order p) f ≡ true) (e : slice_get p.functions f ≡ Some h) (j c : ℕ) → slice_get (place_of f h m e).scope.claims j ≡ Some (Some c) → slice_index_or q.claims c [] ≡ listed_at table f j
  claim_is f h m e j c named =
      let s = stands_at f h m e in
      let n = number_of s.number (listed table f) j c named in
      ap (λ i. slice_index_or q.claims i []) n.is ∙ s.claims n.place n.inside ∙ n.same

  claimed : (g : ℕ) (k : Function) (m : is_member (order p) g ≡ true) (e : slice_get p.functions g ≡ Some k) (j o : ℕ) → is_member (listed_at table g j) o ≡ true → IsClaimed (place_of g k m e).scope q.claims j o
  claimed g k m e j o member =
      let s = stands_at g k m e in
      let n = has_number s.number (listed table g) j o member in
      record { claim = n.claim; named = n.is; member = ap (λ l. is_member l o) (claim_is g k m e j n.claim n.is) ∙ member }

  -- a call that is covered is served
  serves : (n f : ℕ) (h : Function) (m : is_member (order p) f ≡ true) (e : slice_get p.functions f ≡ Some h) → ((g : ℕ) (k : Function) (m2 : is_member (order p) g ≡ true) (e2 : slice_get p.functions g ≡ Some k) → CallDoes q (calls Some p.functions n) g (place_of g k m2 e2)) → (s : Site) → is_member (callees_of h.body) s.function ≡ true → IsCovered (length p.objects) (listed table f) table s → Serves q (place_of f h m e) (calls Some p.functions n) s.function s.arrays
  serves n f h m e does s called covered =
      let a = ordered.places f m in
      let same : a.function ≡ h = same_Some a.function h (sym a.there ∙ e) in
      let lower = a.called s.function (ap (λ (x : Function). is_member (callees_of x.body) s.function) same ∙ called) in
      let m2 = lower.0 in
      let g = there s.function m2 in
      let k = g.0 in
      let e2 = g.1 in
      let s2 = stands_at s.function k m2 e2 in
      let low = lower.1 in
      record {
        callee = place_of s.function k m2 e2;
        is_place = is_here q (calls Some p.functions n) (place_in (order p) s.function) (scope_at s2.number s.function k) s.function k s2.function;
        number = refl;
        lower = let t : nat_lt (place_in (order p) s.function) (place_in (order p) f) ≡ true = grind (arith, nat_tests, low) in t;
        objects = refl;
        does = does s.function k m2 e2;
        claimed = λ passed ns size enters is_ns j o at inside there_is.
            let b = passes passed s.arrays ns j o is_ns at in
            let own : (i : ℕ) → slice_get passed i ≡ Some o → is_member (slice_index_or (listed table f) i []) o ≡ true =
            λ i is_i.
            let within = slice_get_within passed i o is_i in
            let c = enters i o is_i (omega (arith, within, size)) there_is in
            ap (λ l. is_member l o) (sym (claim_is f h m e i c.claim c.named)) ∙ c.member in
            let count = length-numbered s2.number (listed table s.function) in
            claimed s.function k m2 e2 j o (covered j b.base o b.there (omega (arith, inside, count)) (meant_there (length p.objects) (listed table f) passed b.base o there_is b.number own));
      }

-- all calls of a statement are served
abbrev pub AllServed : Low → Place → high.Calls → List Site → Type 0
AllServed q at call [] = Unit {0}
AllServed q at call (s ∷ ss) = Serves q at call s.function s.arrays × AllServed q at call ss

module _ (q : Low) (at : Place) (call : high.Calls) where
  served_front : (xs ys : List Site) → AllServed q at call (xs ++ ys) → AllServed q at call xs
  served_front [] ys h = tt
  served_front (x ∷ xs) ys h = (h.0, served_front xs ys h.1)

  served_back : (xs ys : List Site) → AllServed q at call (xs ++ ys) → AllServed q at call ys
  served_back [] ys h = h
  served_back (x ∷ xs) ys h = served_back xs ys h.1

  mutual
    -- a statement whose constants are words and whose calls are served
    pub sound : (s : Statement) → HasWords s → AllServed q at call (sites_of s) → IsSound q at call s
    sound (Set x e) w h = w
    sound (Put e) w h = w
    sound (Get x) w h = tt
    sound (Keep array i e) w h = w
    sound (Mark m) w h = tt
    sound (Seq parts) w h = all_sound parts w h
    sound (If test first other) w h = (w.0, (sound first w.1.0 (served_front (sites_of first) (sites_of other) h), sound other w.1.1 (served_back (sites_of first) (sites_of other) h)))
    sound (Loop id least most body) w h = sound body w h
    sound (Block body) w h = sound body w h
    sound (Leave d) w h = tt
    sound (Call f values arrays into) w h = (w, h.0)
    sound (Return e) w h = w

    pub all_sound : (ss : Statements) → AllHaveWords ss → AllServed q at call (sites_of_all ss) → AreSound q at call ss
    all_sound End w h = tt
    all_sound (Then first rest) w h = (sound first w.0 (served_front (sites_of first) (sites_of_all rest) h), all_sound rest w.1 (served_back (sites_of first) (sites_of_all rest) h))

module _ (p : Program) (ordered : IsOrdered p) (words : All (λ (h : Function). HasWords h.body) p.functions) where
  -- the functions of the low program do what calls that nest so deep give
  abbrev pub AllDo : ℕ → Type 0
  AllDo n = (f : ℕ) (h : Function) (m : is_member (order p) f ≡ true) (e : slice_get p.functions f ≡ Some h) → CallDoes (lowered p) (calls Some p.functions n) f (place_of p ordered f h m e)

  sites_served : (n f : ℕ) (h : Function) (m : is_member (order p) f ≡ true) (e : slice_get p.functions f ≡ Some h) → AllDo n → (ss : List Site) → AreCovered (length p.objects) (listed (all_passed p) f) (all_passed p) ss → ((c : ℕ) → is_member (map (λ (x : Site). x.function) ss) c ≡ true → is_member (callees_of h.body) c ≡ true) → AllServed (lowered p) (place_of p ordered f h m e) (calls Some p.functions n) ss
  sites_served n f h m e does [] covered called = tt
  sites_served n f h m e does (s ∷ ss) covered called =
      let names = map (λ (x : Site). x.function) ss in
      (serves p ordered n f h m e does s (called s.function (member_first s.function names)) covered.0, sites_served n f h m e does ss covered.1 (λ c k. called c (member_more s.function names c k)))

  has_words : (f : ℕ) (h : Function) → slice_get p.functions f ≡ Some h → HasWords h.body
  has_words f h e =
      let inside = slice_get_within p.functions f h e in
      subst (λ (x : Function). HasWords x.body) (get_or_from_slice_get p.functions f h h e) (All-get_or (λ (x : Function). HasWords x.body) p.functions f h inside words)

  one_deeper : (n : ℕ) → AllDo n → AllDo (suc n)
  one_deeper n does f h m e vs ns w trace given is small enters below u world marks =
      let s = stands_at p ordered f h m e in
      let at = place_of p ordered f h m e in
      let sem = calls Some p.functions n in
      let called : (c : ℕ) → is_member (map (λ (x : Site). x.function) (sites_of h.body)) c ≡ true → is_member (callees_of h.body) c ≡ true = λ c k. ap (λ xs. is_member xs c) (sym (sites-callees h.body)) ∙ k in
      let served = sites_served n f h m e does (sites_of h.body) (closed p ordered f h m e) called in
      let body = sound (lowered p) at sem h.body (has_words f h e) served in
      let gives = ap (λ o. enter Some o sem f vs ns w trace) (sym e) ∙ is in
      function_does (lowered p) sem (place_in (order p) f) (scope_of p (all_passed p) h (numbered s.number (listed (all_passed p) f))) f h s.function refl (count_claims p ordered s.number f h e) body vs ns w trace given gives small enters below u world marks

  pub all_do : (n : ℕ) → AllDo n
  all_do zero f h m e vs ns w trace given is small enters below u world marks = cc
  all_do (suc n) f h m e vs ns w trace given is small enters below u world marks = one_deeper n (all_do n) f h m e vs ns w trace given is small enters below u world marks
