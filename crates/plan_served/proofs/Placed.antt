-- No two objects of a program live at one place.
use Rattle.std.proofs.Common.{◌≡◌, ◌⊎◌, inl, inr, ⊎_elim, refl, ap, ◌∙◌, sym, subst, ℕ, ◌+◌, ◌-◌, ◌<◌, ◌≤◌, zero, suc, Bool, true, false, cond, List, [], ◌∷◌, ◌++◌, length, Some, arith, le-leb, lt-ltb, ltb-true, ltb-false, length-append}
use Rattle.std.specs.Prelude.{◌==◌, if◌then◌else◌, nat_le, nat_lt, count_by, slice_get, slice_index_or}
use Rattle.std.proofs.lemmas.Bool.{false≢true, false_from_ne_true, leb-true, true≢false}
use Rattle.std.proofs.lemmas.List.Elements.{All-head, All-tail}
use Rattle.std.proofs.lemmas.List.Sums.{sum_by-append, sum_by-cons}
use Rattle.std.proofs.lemmas.Option.{get_or_from_slice_get}
use Rattle.facts_definitions.specs.declared.facts.Facts.{Facts}
use Rattle.meaning_semantics.specs.State as source
use Rattle.c_tree.specs.Tree.{Row, Nothing, Then, External, Function}
use Rattle.types_tree.specs.Tree as typed
use Rattle.types_tree.specs.declared.variable.Duration.{Duration}
use Rattle.types_tree.specs.declared.variable.Duration.TheVariants.{Static, Automatic}
use Rattle.types_tree.specs.declared.variable.Extent.{Extent}
use Rattle.types_tree.specs.declared.variable.Extent.TheVariants.{Scalar, Array as Elements, Parameter as Passed}
use Rattle.types_tree.specs.declared.variable.Variable.{Variable}
use Rattle.types_rules.specs.Scope.{Outline, started}
use Rattle.high_ir.specs.declared.object.Array.{Array}
use Rattle.high_ir.specs.declared.object.Base.TheVariants.{Object as Own, Parameter}
use Rattle.high_ir.specs.declared.object.Kind.{Kind}
use Rattle.high_ir.specs.declared.object.Kind.TheVariants.{Word}
use Rattle.plan_definition.specs.declared.home.Home.{Home}
use Rattle.plan_definition.specs.declared.home.Home.TheVariants.{Frame, Memory}
use Rattle.plan_definition.specs.Layouts.{Next, ahead, begun, firsts_of, home_by, homes_from, homes_of, next_by}
use Rattle.plan_definition.specs.Operators.{kind_of}
use Rattle.plan_runs.specs.Meets.{IsLayout, Layout, home, type_in}
use Rattle.plan_served.specs.Places.{IsHome}
use Rattle.types_seen.specs.Fronts.{Definition, IsFront, behind, ended_by, external_by, function_by, functions_of}
use Rattle.plan_served.specs.Layouts.{layout_of, owner_of}
use Rattle.types_seen.specs.Units.{IsUnit}
use Rattle.plan_served.proofs.Fronts.{among, continued, firsts_of-append}
use Rattle.types_seen.proofs.Fronts.{functions_then}
use Rattle.plan_served.proofs.Homes.{AreOwn, AtLeast, AtMost, arrays_apart, base_in, frames_apart, homes_by, is_frame_home, is_object, own_homes}
use Rattle.types_seen.proofs.Lists.{slice_get-some}
use Rattle.plan_served.proofs.Statics.{home_at, laid}
use Rattle.types_seen.proofs.Objects.{IsHeld, held}
use Rattle.types_seen.proofs.Objects.{is_passed_extent, static_extent}

-- how many functions begin up to an object
abbrev begins : ℕ → ℕ → Bool
begins object first = nat_le first object

count_all : (o n : ℕ) (xs : List ℕ) → n ≤ o → AtMost n xs → count_by (begins o) xs ≡ length xs
count_all o n [] le most = refl
count_all o n (x ∷ xs) le most =
    let h : x ≤ n = All-head (λ y. y ≤ n) x xs most in
    let c = count_all o n xs le (All-tail (λ y. y ≤ n) x xs most) in
    sum_by-cons (λ y. cond (begins o y) 1 0) x xs ∙ ap (λ b. cond b 1 0 + count_by (begins o) xs) (le-leb x o (omega (arith, h, le))) ∙ one_more (count_by (begins o) xs) (length xs) c
  where
    one_more : (a b : ℕ) → a ≡ b → 1 + a ≡ suc b
    one_more a b e = omega (arith, e)

count_none : (o m : ℕ) (xs : List ℕ) → o < m → AtLeast m xs → count_by (begins o) xs ≡ 0
count_none o m [] lt least = refl
count_none o m (x ∷ xs) lt least =
    let h : m ≤ x = All-head (λ y. m ≤ y) x xs least in
    let c = count_none o m xs lt (All-tail (λ y. m ≤ y) x xs least) in
    sum_by-cons (λ y. cond (begins o y) 1 0) x xs ∙ ap (λ b. cond b 1 0 + count_by (begins o) xs) (false_from_ne_true (nat_le x o) (λ e. below (leb-true x o e) h)) ∙ none_more (count_by (begins o) xs) c
  where
    none_more : (a : ℕ) → a ≡ 0 → 0 + a ≡ 0
    none_more a e = omega (arith, e)

    below : x ≤ o → m ≤ x → ⊥
    below le ge = omega (arith, lt, le, ge)

length-firsts : (fs : List typed.Function) → length (firsts_of fs) ≡ length fs
length-firsts [] = refl
length-firsts (f ∷ fs) = ap suc (length-firsts fs)

-- fronts of a row are fronts of each other
pub fronts_compare : {B : Type 0} (items p q : Row B) → IsFront p items → IsFront q items → IsFront p q ⊎ IsFront q p
fronts_compare Nothing p q a b = inl (subst (λ r. IsFront p r) (sym b) a)
fronts_compare (Then front last) p q a b = ⊎_elim
    (λ (e : p ≡ Then front last). inr (subst (λ r. IsFront q r) (sym e) b))
    (λ (m : IsFront p front). ⊎_elim
    (λ (e : q ≡ Then front last). inl (subst (λ r. IsFront p r) (sym e) a))
    (λ (n : IsFront q front). fronts_compare front p q m n) b)
    a

-- a home that was found
pub there_by : (hs : List Home) (o : ℕ) (h : Home) → slice_index_or hs o (Frame 0) ≡ h → o < length hs → slice_get hs o ≡ Some h
there_by hs o h e lt = let s = slice_get-some hs o lt in s.1 ∙ ap Some (sym (get_or_from_slice_get hs o s.0 (Frame 0) s.1) ∙ e)

pub length-homes : (firsts : List ℕ) (vs : List Variable) (number : ℕ) (next : Next) → length (homes_from firsts vs number next) ≡ length vs
length-homes firsts [] number next = refl
length-homes firsts (v ∷ vs) number next =
    let after = ahead firsts number in
    ap suc (length-homes after vs (number + 1) (next_by v.duration v.extent (begun (length after == length firsts) next)))

frame_auto : (d : Duration) (e : Extent) (h : Home) (x : ℕ) → IsHome d e h → h ≡ Frame x → d ≡ Automatic
frame_auto Static e (Frame y) x is same = absurd is
frame_auto Static e (Memory array) x is same = absurd (false≢true (ap is_frame_home same))
frame_auto Automatic e h x is same = refl

abbrev kind_in : Home → Kind
kind_in (Frame x) = Word
kind_in (Memory array) = array.kind

memory_kind : (d : Duration) (e : Extent) (v : Variable) (here : Next) (a : Array) → home_by d e v here ≡ Memory a → a.kind ≡ kind_of v.kind
memory_kind Static e v here a is = sym (ap kind_in is)
memory_kind Automatic Scalar v here a is = absurd (true≢false (ap is_frame_home is))
memory_kind Automatic (Elements n) v here a is = sym (ap kind_in is)
memory_kind Automatic Passed v here a is = sym (ap kind_in is)

named_by : (d : Duration) (e : Extent) (v : Variable) (here : Next) (a : Array) (n o at : ℕ) (st : source.State) → home_by d e v here ≡ Memory a → a.base ≡ Own n → (d ≡ Static → is_passed_extent e ≡ false) → source.number_held e o at st ≡ source.Fine o st
named_by Static Scalar v here a n o at st is base free = refl
named_by Static (Elements m) v here a n o at st is base free = refl
named_by Static Passed v here a n o at st is base free = absurd (true≢false (free refl))
named_by Automatic Scalar v here a n o at st is base free = refl
named_by Automatic (Elements m) v here a n o at st is base free = refl
named_by Automatic Passed v here a n o at st is base free = absurd (true≢false (ap is_object (sym base ∙ sym (ap base_in is))))

handed_by : (d : Duration) (e : Extent) (v : Variable) (here : Next) (a : Array) (j o at : ℕ) (st : source.State) → home_by d e v here ≡ Memory a → a.base ≡ Parameter j → source.number_held e o at st ≡ source.read (record { object = o; index = 0; at = at }) st
handed_by Static e v here a j o at st is base = absurd (false≢true (ap is_object (sym base ∙ sym (ap base_in is))))
handed_by Automatic Scalar v here a j o at st is base = absurd (true≢false (ap is_frame_home is))
handed_by Automatic (Elements m) v here a j o at st is base = absurd (false≢true (ap is_object (sym base ∙ sym (ap base_in is))))
handed_by Automatic Passed v here a j o at st is base = refl

module _ (outline : Outline) (items : Row (External ℕ)) (program : typed.Program) (facts : Facts) (unit : IsUnit outline items program) where
  abbrev layout : Layout
  layout = layout_of program facts

  abbrev number_of : Row (External ℕ) → ℕ
  number_of front = length (functions_of front (started outline))

  -- an object of a function is owned by it
  pub owned_by : (front : Row (External ℕ)) (d : Definition) → IsFront (Then front (external_by d)) items → (o : ℕ) → length (behind outline front).variables ≤ o → o < length (ended_by d (behind outline front)).variables → owner_of program o ≡ number_of front
  owned_by front d part o from below =
      let a = among outline items front d part in
      let now = behind outline front in
      let more = a.grows.more in
      let f1 = firsts_of (functions_of front (started outline)) in
      let f2 = firsts_of a.later in
      let n = length now.variables in
      let firsts_are : firsts_of program.functions ≡ f1 ++ n ∷ f2 = ap firsts_of (unit.functions_are ∙ a.functions_are) ∙ firsts_of-append (functions_of front (started outline)) (function_by d now ∷ a.later) in
      let c1 = count_all o n f1 from a.at_most in
      let c2 = count_none o (length (ended_by d now).variables) f2 below a.at_least in
      let c3 : begins o n ≡ true = le-leb n o from in
      let total : count_by (begins o) (f1 ++ n ∷ f2) ≡ length f1 + 1 =
      sum_by-append (λ x. cond (begins o x) 1 0) f1 (n ∷ f2) ∙ ap (λ m. count_by (begins o) f1 + m) (sum_by-cons (λ x. cond (begins o x) 1 0) n f2) ∙ sums (count_by (begins o) f1) (length f1) (cond (begins o n) 1 0) (count_by (begins o) f2) c1 (ap (λ b. cond b 1 0) c3) c2 in
      let counted : count_by (begins o) (firsts_of program.functions) - 1 ≡ number_of front = ap (λ l. count_by (begins o) l - 1) firsts_are ∙ ap (λ x. x - 1) total ∙ less (length f1) ∙ length-firsts (functions_of front (started outline)) in
      let within : nat_lt o (length program.variables) ≡ true = lt-ltb o (length program.variables) (subst (λ l. o < length l) (sym unit.variables_are) (omega (arith, below, more))) in
      ap (λ b. if b then count_by (begins o) (firsts_of program.functions) - 1 else length program.functions + o) within ∙ counted
    where
      sums : (a b c e : ℕ) → a ≡ b → c ≡ 1 → e ≡ 0 → a + (c + e) ≡ b + 1
      sums a b c e h k l = omega (arith, h, k, l)

      less : (a : ℕ) → a + 1 - 1 ≡ a
      less a = omega arith

  -- the homes of a function's objects, one behind the other
  pub own_at : (front : Row (External ℕ)) (d : Definition) → (part : IsFront (Then front (external_by d)) items) → AreOwn (homes_of program) (length (behind outline front).variables) (among outline items front d part).own
  own_at front d part =
      let a = among outline items front d part in
      let now = behind outline front in
      let n = length now.variables in
      let f1 = firsts_of (functions_of front (started outline)) in
      let f2 = firsts_of a.later in
      let start : Next = record { variable = 0; parameter = 0; object = 0 } in
      let long : n + length a.own ≤ length (ended_by d now).variables = let h = ap length a.ended_is in let k = length-append now.variables a.own in omega (arith, h, k) in
      let firsts_are : firsts_of program.functions ≡ f1 ++ n ∷ f2 = ap firsts_of (unit.functions_are ∙ a.functions_are) ∙ firsts_of-append (functions_of front (started outline)) (function_by d now ∷ a.later) in
      let same : homes_of program ≡ homes_from (f1 ++ n ∷ f2) (now.variables ++ (a.own ++ a.after)) 0 start =
      ap (λ fs. homes_from fs program.variables 0 start) firsts_are ∙ ap (λ vs. homes_from (f1 ++ n ∷ f2) vs 0 start) (unit.variables_are ∙ a.variables_are) in
      subst (λ hs. AreOwn hs n a.own) (sym same) (own_homes n (length (ended_by d now).variables) f1 f2 now.variables a.own a.after start refl a.at_most a.at_least long)

  -- an object that the program has, with its home
  record IsThere (o : ℕ) : Type 0 where
    variable : Variable
    variable_is : slice_get program.variables o ≡ Some variable
    here : Next
    home_is : slice_get (homes_of program) o ≡ Some (home_by variable.duration variable.extent variable here)

  there : (o : ℕ) → o < length program.variables → IsThere o
  there o lt =
      let v = slice_get-some program.variables o lt in
      let h = homes_by (firsts_of program.functions) program.variables 0 (record { variable = 0; parameter = 0; object = 0 }) o v.0 v.1 in
      record { variable = v.0; variable_is = v.1; here = h.0; home_is = h.1 }

  same_home : (o : ℕ) (t : IsThere o) → home layout o ≡ home_by t.variable.duration t.variable.extent t.variable t.here
  same_home o t = home_at program facts o (home_by t.variable.duration t.variable.extent t.variable t.here) t.home_is

  held_in : (o x : ℕ) → o < length program.variables → home layout o ≡ Frame x → IsHeld outline items o
  held_in o x lt lives =
      let t = there o lt in
      let v = t.variable in
      held outline items o v (ap (λ l. slice_get l o) (sym unit.variables_are) ∙ t.variable_is)
      (frame_auto v.duration v.extent (home layout o) x (laid program facts o v t.variable_is).lives lives)

  -- two definitions of one number are one
  same_definition : (o p : ℕ) (h : IsHeld outline items o) (k : IsHeld outline items p) → number_of h.front ≡ number_of k.front → (length (behind outline k.front).variables ≡ length (behind outline h.front).variables) × (length (ended_by k.definition (behind outline k.front)).variables ≡ length (ended_by h.definition (behind outline h.front)).variables)
  same_definition o p h k numbers =
      let one = Then h.front (external_by h.definition) in
      let two = Then k.front (external_by k.definition) in
      ⊎_elim (λ (a : IsFront one two). ordered h.front k.front h.definition k.definition numbers a)
      (λ (b : IsFront two one). let s = ordered k.front h.front k.definition h.definition (sym numbers) b in (sym s.0, sym s.1))
      (fronts_compare items one two h.part k.part)
    where
      front_of : Row (External ℕ) → Row (External ℕ)
      front_of Nothing = Nothing
      front_of (Then front last) = front

      ordered : (p q : Row (External ℕ)) (d e : Definition) → number_of p ≡ number_of q → IsFront (Then p (external_by d)) (Then q (external_by e)) →
          (length (behind outline q).variables ≡ length (behind outline p).variables) × (length (ended_by e (behind outline q)).variables ≡ length (ended_by d (behind outline p)).variables)
      ordered p q d e numbers is = ⊎_elim
          (λ (same : Then p (external_by d) ≡ Then q (external_by e)).
          (ap (λ r. length (behind outline (front_of r)).variables) (sym same), ap (λ r. length (behind outline r).variables) (sym same)))
          (λ (m : IsFront (Then p (external_by d)) q).
          let c = continued outline q (Then p (external_by d)) m in
          let many = ap length c.functions_are in
          let sum = length-append (functions_of (Then p (external_by d)) (started outline)) c.later in
          let more = ap length (functions_then p (external_by d) (started outline)) in
          let last = length-append (functions_of p (started outline)) (function_by d (behind outline p) ∷ []) in
          absurd (omega (arith, numbers, many, sum, more, last)))
          is

  frames_in : (o p x : ℕ) → o < length program.variables → p < length program.variables → home layout o ≡ Frame x → home layout p ≡ Frame x → owner_of program o ≡ owner_of program p → o ≡ p
  frames_in o p x lt_o lt_p lives_o lives_p owners =
      let h = held_in o x lt_o lives_o in
      let k = held_in p x lt_p lives_p in
      let numbers = sym (owned_by h.front h.definition h.part o h.from h.below) ∙ owners ∙ owned_by k.front k.definition k.part p k.from k.below in
      let s = same_definition o p h k numbers in
      let a = among outline items h.front h.definition h.part in
      let own = own_at h.front h.definition h.part in
      let n = length (behind outline h.front).variables in
      let long : n + length a.own ≡ length (ended_by h.definition (behind outline h.front)).variables = let e = ap length a.ended_is in let f = length-append (behind outline h.front).variables a.own in omega (arith, e, f) in
      let from_o = h.from in
      let below_o = h.below in
      let from_p : n ≤ p = subst (λ m. m ≤ p) s.0 k.from in
      let below_p : p < length (ended_by h.definition (behind outline h.front)).variables = subst (λ m. p < m) s.1 k.below in
      let there_o = there_by (homes_of program) o (Frame x) lives_o (subst (λ m. o < m) (sym (homes_long program)) lt_o) in
      let there_p = there_by (homes_of program) p (Frame x) lives_p (subst (λ m. p < m) (sym (homes_long program)) lt_p) in
      let i = o - n in
      let j = p - n in
      let split_o : n + i ≡ o = omega (arith, from_o) in
      let split_p : n + j ≡ p = omega (arith, from_p) in
      let first = sym (own.same i (omega (arith, from_o, below_o, long))) ∙ ap (slice_get (homes_of program)) split_o ∙ there_o in
      let second = sym (own.same j (omega (arith, from_p, below_p, long))) ∙ ap (slice_get (homes_of program)) split_p ∙ there_p in
      sym split_o ∙ ap (λ m. n + m) (frames_apart a.own own.next i j x first second) ∙ split_p
    where
      homes_long : (program : typed.Program) → length (homes_of program) ≡ length program.variables
      homes_long program = length-homes (firsts_of program.functions) program.variables 0 (record { variable = 0; parameter = 0; object = 0 })

  abbrev owner_by : Bool → ℕ → ℕ
  owner_by within o = if within then count_by (begins o) (firsts_of program.functions) - 1 else length program.functions + o

  outside_owner : (o : ℕ) → nat_lt o (length program.variables) ≡ false → owner_of program o ≡ length program.functions + o
  outside_owner o e = ap (λ b. owner_by b o) e

  -- an object that the program has is of a function that it has
  inside_owner : (o x : ℕ) → o < length program.variables → home layout o ≡ Frame x → owner_of program o < length program.functions
  inside_owner o x lt lives =
      let h = held_in o x lt lives in
      let a = among outline items h.front h.definition h.part in
      let is = owned_by h.front h.definition h.part o h.from h.below in
      let many = ap length (unit.functions_are ∙ a.functions_are) in
      let sum = length-append (functions_of h.front (started outline)) (function_by h.definition (behind outline h.front) ∷ a.later) in
      subst (λ n. n < length program.functions) (sym is) (omega (arith, many, sum))

  frames_by : (o p x : ℕ) (a b : Bool) → nat_lt o (length program.variables) ≡ a → nat_lt p (length program.variables) ≡ b → home layout o ≡ Frame x → home layout p ≡ Frame x → owner_of program o ≡ owner_of program p → o ≡ p
  frames_by o p x true true e f lo lp owners = frames_in o p x (ltb-true o (length program.variables) e) (ltb-true p (length program.variables) f) lo lp owners
  frames_by o p x true false e f lo lp owners =
      let lt = inside_owner o x (ltb-true o (length program.variables) e) lo in
      let out = outside_owner p f in
      absurd (apart (owner_of program o) (owner_of program p) (length program.functions) p lt out owners)
    where
      apart : (a b n p : ℕ) → a < n → b ≡ n + p → a ≡ b → ⊥
      apart a b n p lt out same = omega (arith, lt, out, same)
  frames_by o p x false true e f lo lp owners =
      let lt = inside_owner p x (ltb-true p (length program.variables) f) lp in
      let out = outside_owner o e in
      absurd (apart (owner_of program p) (owner_of program o) (length program.functions) o lt out (sym owners))
    where
      apart : (a b n p : ℕ) → a < n → b ≡ n + p → a ≡ b → ⊥
      apart a b n p lt out same = omega (arith, lt, out, same)
  frames_by o p x false false e f lo lp owners = same (length program.functions) (sym (outside_owner o e) ∙ owners ∙ outside_owner p f)
    where
      same : (n : ℕ) → n + o ≡ n + p → o ≡ p
      same n e = omega (arith, e)

  -- what lives in an array is an object that the program has
  pub memory_within : (o : ℕ) (a : Array) → home layout o ≡ Memory a → o < length program.variables
  memory_within o a lives = of (nat_lt o (length program.variables)) refl
    where
      of : (b : Bool) → nat_lt o (length program.variables) ≡ b → o < length program.variables
      of true e = ltb-true o (length program.variables) e
      of false e =
          let ge = ltb-false o (length program.variables) e in
          let long = length-homes (firsts_of program.functions) program.variables 0 (record { variable = 0; parameter = 0; object = 0 }) in
          absurd (true≢false (ap is_frame_home (sym (past (homes_of program) o (omega (arith, ge, long))) ∙ lives)))
        where
          past : (hs : List Home) (o : ℕ) → length hs ≤ o → slice_index_or hs o (Frame 0) ≡ Frame 0
          past [] o le = refl
          past (h ∷ hs) zero le = absurd (omega (arith, le))
          past (h ∷ hs) (suc o) le = past hs o (omega (arith, le))

  pub memory_there : (o : ℕ) (a : Array) → home layout o ≡ Memory a → slice_get (homes_of program) o ≡ Some (Memory a)
  memory_there o a lives =
      there_by (homes_of program) o (Memory a) lives (subst (λ n. o < n) (sym (length-homes (firsts_of program.functions) program.variables 0 (record { variable = 0; parameter = 0; object = 0 }))) (memory_within o a lives))

  pub placed : IsLayout layout
  placed = record {
    frames = λ o p x lo lp owners. frames_by o p x (nat_lt o (length program.variables)) (nat_lt p (length program.variables)) refl refl lo lp owners;
    arrays = λ o p n a b lo lp base base2. arrays_apart (firsts_of program.functions) program.variables 0 (record { variable = 0; parameter = 0; object = 0 }) o p a b n (memory_there o a lo) base (memory_there p b lp) base2;
    kinds = λ o a lives.
        let t = there o (memory_within o a lives) in
        let v = t.variable in
        memory_kind v.duration v.extent v t.here a (sym (same_home o t) ∙ lives) ∙ sym (ap (λ x. kind_of (type_in x)) t.variable_is);
    named = λ o n at a st lives base.
        let t = there o (memory_within o a lives) in
        let v = t.variable in
        ap (λ x. source.number_by x o at st) t.variable_is
        ∙ named_by v.duration v.extent v t.here a n o at st (sym (same_home o t) ∙ lives) base (static_extent outline items o v (ap (λ l. slice_get l o) (sym unit.variables_are) ∙ t.variable_is));
    handed = λ o j at a st lives base.
        let t = there o (memory_within o a lives) in
        let v = t.variable in
        ap (λ x. source.number_by x o at st) t.variable_is ∙ handed_by v.duration v.extent v t.here a j o at st (sym (same_home o t) ∙ lives) base;
  }
