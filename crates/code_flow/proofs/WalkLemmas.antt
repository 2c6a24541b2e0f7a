-- What a walk has seen, step by step.
use Rattle.std.proofs.Common.{◌≡◌, ℕ, zero, suc, ◌<◌, ◌≤◌, ◌⊎◌, Bool, true, false, not, cond, List, [], ◌∷◌, ◌++◌, length, get_or, set, Option, Some, None, Contains, refl, sym, ap, ◌∙◌, subst, arith, inl, inr, get_or-set_other, count_by, length-append}
use Rattle.std.proofs.lemmas.Bool.Decides.{eqb_tells}
use Rattle.std.proofs.lemmas.Grind.{get_or-set_at}
use Rattle.std.proofs.Math.ListN.{length-set}
use Rattle.std.proofs.lemmas.List.Elements.{Contains-append_left, Contains-append_right, Contains-append_cases, Contains-push, Contains-push_cases}
use Rattle.std.proofs.lemmas.List.Sums.{sum_by-set}
use Rattle.std.proofs.lemmas.List.Sorted.{Contains-permutation, IsPermutation-sym}
use Rattle.std.specs.List.Sorted.{IsPermutation}
use Rattle.code_flow_system.specs.Moves.{Code, moves_at, moves_by, moves_on, destinations_of}
use Rattle.code_flow_system.specs.declared.moves.Way.{Way}
use Rattle.code_flow_system.specs.declared.moves.Way.TheVariants.{Next, Branches, Jumps, Calls, Ends, Strays}
use Rattle.code_flow_system.specs.Reach.{GoesTo, ReachedIn, IsReached}
use Rattle.rv_core.specs.Instructions.{Instruction}
use Rattle.code_flow.specs.declared.walk.Walk.{Walk}
use Rattle.code_flow.specs.Places.{place_of, all_places}
use Rattle.code_flow.specs.Walks.{way_by_fetch, way_at, targets, IsMarked, IsSeenAt, IsSeen, left, Sees, IsFresh, IsReach}
use Rattle.code_flow.proofs.PlaceLemmas.{address-place}

place_same : (a b p : ℕ) → place_of a ≡ Some p → place_of b ≡ Some p → a ≡ b
place_same a b p h k = sym (address-place a p h) ∙ address-place b p k

only : (a b : ℕ) → Contains (a ∷ []) b → a ≡ b
only a b (zero, lt, e) = e
only a b (suc k, lt, e) = absurd (omega arith)

the_one : (a : ℕ) → Contains (a ∷ []) a
the_one a = (0, omega arith, refl)

-- nothing new
pub sees_none : (w : Walk) → Sees [] w w
sees_none w = record {
  long = refl;
  grows = λ a h. h;
  sees = λ a h. absurd (omega (arith, h.1));
  keeps = λ a h. h;
  from = λ a h. inl h;
  work_from = λ a h. inl h;
  others_from = λ a h. inl h;
  falls = omega arith;
}

-- one after the other
pub sees_both : (xs ys : List ℕ) (w v u : Walk) → Sees xs w v → Sees ys v u → Sees (xs ++ ys) w u
sees_both xs ys w v u f g = record {
  long = g.long ∙ f.long;
  grows = λ a h. g.grows a (f.grows a h);
  sees = λ a h. elim (Contains-append_cases xs ys a h) [ inl k ↦ g.grows a (f.sees a k) | inr k ↦ g.sees a k ];
  keeps = λ a h. g.keeps a (f.keeps a h);
  from = λ a h. elim (g.from a h) [
    | inl k ↦ elim (f.from a k) [ inl j ↦ inl j | inr j ↦ inr (Contains-append_left xs ys a j.0, elim j.1 [ inl e ↦ inl e | inr e ↦ inr (g.keeps a e) ]) ]
    | inr k ↦ inr (Contains-append_right xs ys a k.0, k.1)
  ];
  work_from = λ a h. elim (g.work_from a h) [
    | inl k ↦ elim (f.work_from a k) [ inl j ↦ inl j | inr j ↦ inr (g.grows a j) ]
    | inr k ↦ inr k
  ];
  others_from = λ a h. elim (g.others_from a h) [ inl k ↦ f.others_from a k | inr k ↦ inr k ];
  falls = let a = f.falls in let b = g.falls in omega arith;
}

-- an address whose place is marked
pub sees_old : (w : Walk) (at p : ℕ) → place_of at ≡ Some p → IsMarked w.marks.items p → Sees (at ∷ []) w w
sees_old w at p is marked = record {
  long = refl;
  grows = λ a h. h;
  sees = λ a h. subst (IsSeen w) (only at a h) (subst (IsSeenAt w at) (sym is) marked);
  keeps = λ a h. h;
  from = λ a h. inl h;
  work_from = λ a h. inl h;
  others_from = λ a h. inl h;
  falls = omega arith;
}

-- a new one
module _ (w v : Walk) (at p : ℕ) (is : place_of at ≡ Some p) (lt : p < length w.marks.items) (new : get_or w.marks.items p false ≡ false)
    (marks : v.marks.items ≡ set w.marks.items p true) (others : v.others.items ≡ w.others.items) (work : v.work.items ≡ w.work.items ++ at ∷ []) where
  marked_here : IsMarked v.marks.items p
  marked_here = subst (λ ms. IsMarked ms p) (sym marks) (get_or-set_at w.marks.items p p true false refl lt)

  seen_here : IsSeen v at
  seen_here = subst (IsSeenAt v at) (sym is) marked_here

  still_seen : (a : ℕ) (o : Option ℕ) → IsSeenAt w a o → IsSeenAt v a o
  still_seen a None h = subst (λ xs. Contains xs a) (sym others) h
  still_seen a (Some q) h = elim (eqb_tells q p) [
    | inl e ↦ subst (IsMarked v.marks.items) (sym e.1) marked_here
    | inr e ↦ subst (λ ms. IsMarked ms q) (sym marks) (get_or-set_other w.marks.items p q true false e.1 ∙ h)
  ]

  in_work : Contains v.work.items at
  in_work = subst (λ xs. Contains xs at) (sym work) (Contains-push w.work.items at)

  seen_from : (a : ℕ) (o : Option ℕ) → place_of a ≡ o → IsSeenAt v a o → IsSeenAt w a o ⊎ (at ≡ a)
  seen_from a None e h = inl (subst (λ xs. Contains xs a) others h)
  seen_from a (Some q) e h = elim (eqb_tells q p) [
    | inl s ↦ inr (place_same at a p is (e ∙ ap Some s.1))
    | inr s ↦ inl (sym (get_or-set_other w.marks.items p q true false s.1) ∙ subst (λ ms. IsMarked ms q) marks h)
  ]

  falls_new : left v ≤ left w
  falls_new =
      let h = sum_by-set (λ (b : Bool). cond (not b) 1 0) w.marks.items p true false lt in
      let k : ◌≡◌ {A = ℕ} (cond (not (get_or w.marks.items p false)) 1 0) 1 = ap (λ (b : Bool). cond {A = ℕ} (not b) 1 0) new in
      let m : count_by not v.marks.items ≡ count_by not (set w.marks.items p true) = ap (count_by not) marks in
      let n : length v.work.items ≡ length (w.work.items ++ at ∷ []) = ap length work in
      let l = length-append w.work.items (at ∷ []) in omega arith

  pub sees_new : Sees (at ∷ []) w v
  sees_new = record {
    long = ap length marks ∙ length-set w.marks.items p true;
    grows = λ a h. still_seen a (place_of a) h;
    sees = λ a h. subst (IsSeen v) (only at a h) seen_here;
    keeps = λ a h. subst (λ xs. Contains xs a) (sym work) (Contains-append_left w.work.items (at ∷ []) a h);
    from = λ a h. elim (seen_from a (place_of a) refl h) [
      | inl k ↦ inl k
      | inr e ↦ inr (subst (Contains (at ∷ [])) e (the_one at), inr (subst (Contains v.work.items) e in_work))
    ];
    work_from = λ a h. elim (Contains-push_cases w.work.items at a (subst (λ xs. Contains xs a) work h)) [
      | inl k ↦ inl k
      | inr e ↦ inr (subst (IsSeen v) e seen_here)
    ];
    others_from = λ a h. inl (subst (λ xs. Contains xs a) others h);
    falls = falls_new;
  }

-- an address where no code can stand
module _ (w v : Walk) (at : ℕ) (is : place_of at ≡ None) (marks : v.marks.items ≡ w.marks.items) (others : v.others.items ≡ w.others.items ++ at ∷ []) (work : v.work.items ≡ w.work.items) where
  listed_here : IsSeen v at
  listed_here = subst (IsSeenAt v at) (sym is) (subst (λ xs. Contains xs at) (sym others) (Contains-push w.others.items at))

  still_listed : (a : ℕ) (o : Option ℕ) → IsSeenAt w a o → IsSeenAt v a o
  still_listed a None h = subst (λ xs. Contains xs a) (sym others) (Contains-append_left w.others.items (at ∷ []) a h)
  still_listed a (Some q) h = subst (λ ms. IsMarked ms q) (sym marks) h

  listed_from : (a : ℕ) (o : Option ℕ) → IsSeenAt v a o → IsSeenAt w a o ⊎ (at ≡ a)
  listed_from a None h = Contains-push_cases w.others.items at a (subst (λ xs. Contains xs a) others h)
  listed_from a (Some q) h = inl (subst (λ ms. IsMarked ms q) marks h)

  pub sees_other : Sees (at ∷ []) w v
  sees_other = record {
    long = ap length marks;
    grows = λ a h. still_listed a (place_of a) h;
    sees = λ a h. subst (IsSeen v) (only at a h) listed_here;
    keeps = λ a h. subst (λ xs. Contains xs a) (sym work) h;
    from = λ a h. elim (listed_from a (place_of a) h) [
      | inl k ↦ inl k
      | inr e ↦ inr (subst (Contains (at ∷ [])) e (the_one at), inl (subst (λ x. place_of x ≡ None) e is))
    ];
    work_from = λ a h. inl (subst (λ xs. Contains xs a) work h);
    others_from = λ a h. elim (Contains-push_cases w.others.items at a (subst (λ xs. Contains xs a) others h)) [ inl k ↦ inl k | inr e ↦ inr (subst (λ x. place_of x ≡ None) e is) ];
    falls = let m = ap (count_by not) marks in let n = ap length work in omega arith;
  }

-- where the moves of an address arrive

targets_on : (way : Way) (a : ℕ) (i : Instruction) → destinations_of (moves_on way a i) ≡ targets way a
targets_on Next a i = refl
targets_on (Branches to) a i = refl
targets_on (Jumps to) a i = refl
targets_on (Calls to) a i = refl
targets_on Ends a i = refl
targets_on Strays a i = refl

pub targets_at : (c : Code) (a : ℕ) → destinations_of (moves_at c a) ≡ targets (way_at c a) a
targets_at c a = by_fetch (c.fetch a)
  where
    by_fetch : (o : Option Instruction) → destinations_of (moves_by c a o) ≡ targets (way_by_fetch c a o) a
    by_fetch None = refl
    by_fetch (Some i) = targets_on (way_by_fetch c a (Some i)) a i

-- the walk

pub record Walks (c : Code) (entry : ℕ) (w : Walk) : Type 0 where
  pub long : length w.marks.items ≡ all_places
  pub others : (a : ℕ) → Contains w.others.items a → place_of a ≡ None
  pub sound : (a : ℕ) → IsSeen w a → IsReached c entry a
  pub work_seen : (a : ℕ) → Contains w.work.items a → IsSeen w a
  pub closed : (a : ℕ) → IsSeen w a → Contains w.work.items a ⊎ ((b : ℕ) → GoesTo c a b → IsSeen w b)
  pub start : IsSeen w entry

-- what has no place has no moves
abbrev pub StandsAtPlaces : Code → Type 0
StandsAtPlaces c = (a : ℕ) → place_of a ≡ None → c.fetch a ≡ None

goes_nowhere : (c : Code) (a b : ℕ) → c.fetch a ≡ None → ¬ GoesTo c a b
goes_nowhere c a b none h =
    let k = subst (λ ms. Contains (destinations_of ms) b) (ap (moves_by c a) none) h in omega (arith, k.1)

-- one turn: an address is taken off the list, and where it goes is seen
pub turn : (c : Code) (entry at' : ℕ) (w v u : Walk) → StandsAtPlaces c → Walks c entry w → v.marks.items ≡ w.marks.items → v.others.items ≡ w.others.items → w.work.items ≡ v.work.items ++ at' ∷ [] → Sees (targets (way_at c at') at') v u → Walks c entry u
turn c entry at' w v u placed walks marks others popped sees = record {
  long = sees.long ∙ (ap length marks ∙ walks.long);
  others = λ a h. elim (sees.others_from a h) [ inl k ↦ walks.others a (subst (λ xs. Contains xs a) others k) | inr e ↦ e ];
  sound = λ a h. elim (sees.from a h) [ inl k ↦ walks.sound a (before a k) | inr k ↦ onward a k.0 ];
  work_seen = λ a h. elim (sees.work_from a h) [
    | inl k ↦ sees.grows a (after a (walks.work_seen a (subst (λ xs. Contains xs a) (sym popped) (Contains-append_left v.work.items (at' ∷ []) a k))))
    | inr k ↦ k
  ];
  closed = λ a h. elim (sees.from a h) [
    | inl k ↦ elim (walks.closed a (before a k)) [
      | inl i ↦ elim (Contains-push_cases v.work.items at' a (subst (λ xs. Contains xs a) popped i)) [
        | inl x ↦ inl (sees.keeps a x)
        | inr x ↦ inr (subst (λ p. (b : ℕ) → GoesTo c p b → IsSeen u b) x done)
      ]
      | inr f ↦ inr (λ b g. sees.grows b (after b (f b g)))
    ]
    | inr k ↦ elim k.1 [
      | inl none ↦ inr (λ b g. absurd (goes_nowhere c a b (placed a none) g))
      | inr x ↦ inl x
    ]
  ];
  start = sees.grows entry (after entry walks.start);
}
  where
    before_at : (a : ℕ) (o : Option ℕ) → IsSeenAt v a o → IsSeenAt w a o
    before_at a None h = subst (λ xs. Contains xs a) others h
    before_at a (Some q) h = subst (λ ms. IsMarked ms q) marks h

    before : (a : ℕ) → IsSeen v a → IsSeen w a
    before a h = before_at a (place_of a) h

    after_at : (a : ℕ) (o : Option ℕ) → IsSeenAt w a o → IsSeenAt v a o
    after_at a None h = subst (λ xs. Contains xs a) (sym others) h
    after_at a (Some q) h = subst (λ ms. IsMarked ms q) (sym marks) h

    after : (a : ℕ) → IsSeen w a → IsSeen v a
    after a h = after_at a (place_of a) h

    here : IsSeen w at'
    here = walks.work_seen at' (subst (λ xs. Contains xs at') (sym popped) (Contains-push v.work.items at'))

    onward : (a : ℕ) → Contains (targets (way_at c at') at') a → IsReached c entry a
    onward a k = let r = walks.sound at' here in (suc r.0, (at', r.1, subst (λ ds. Contains ds a) (sym (targets_at c at')) k))

    done : (b : ℕ) → GoesTo c at' b → IsSeen u b
    done b g = sees.sees b (subst (λ ds. Contains ds b) (targets_at c at') g)

-- at the start the entry alone is seen
pub started : (c : Code) (entry : ℕ) (w v : Walk) → StandsAtPlaces c → IsFresh w → Sees (entry ∷ []) w v → Walks c entry v
started c entry w v placed fresh sees = record {
  long = sees.long ∙ fresh.marks.long;
  others = λ a h. elim (sees.others_from a h) [ inl k ↦ absurd (let e = subst (λ xs. Contains xs a) fresh.others k in omega (arith, e.1)) | inr e ↦ e ];
  sound = λ a h. elim (sees.from a h) [ inl k ↦ absurd (none a k) | inr k ↦ (0, sym (only entry a k.0)) ];
  work_seen = λ a h. elim (sees.work_from a h) [
    | inl k ↦ absurd (let e = subst (λ xs. Contains xs a) fresh.work k in omega (arith, e.1))
    | inr k ↦ k
  ];
  closed = λ a h. elim (sees.from a h) [
    | inl k ↦ absurd (none a k)
    | inr k ↦ elim k.1 [ inl e ↦ inr (λ b g. absurd (goes_nowhere c a b (placed a e) g)) | inr x ↦ inl x ]
  ];
  start = sees.sees entry (the_one entry);
}
  where
    none_at : (a : ℕ) (o : Option ℕ) → ¬ IsSeenAt w a o
    none_at a None h = let e = subst (λ xs. Contains xs a) fresh.others h in omega (arith, e.1)
    none_at a (Some p) h = let e = sym (fresh.marks.none p) ∙ h in cc

    none : (a : ℕ) → ¬ IsSeen w a
    none a h = none_at a (place_of a) h

-- where nothing is left to be visited, exactly what is reached was seen
pub explored : (c : Code) (entry : ℕ) (w : Walk) → Walks c entry w → length w.work.items ≡ 0 → IsReach c entry w
explored c entry w walks none = record {
  long = walks.long;
  others = walks.others;
  sound = walks.sound;
  complete = λ a r. go r.0 a r.1;
}
  where
    step : (b a : ℕ) → IsSeen w b → GoesTo c b a → IsSeen w a
    step b a seen goes = elim (walks.closed b seen) [ inl h ↦ absurd (omega (arith, h.1)) | inr f ↦ f a goes ]

    go : (n a : ℕ) → ReachedIn c entry n a → IsSeen w a
    go zero a e = subst (IsSeen w) (sym e) walks.start
    go (suc n) a r = step r.0 a (go n r.0 r.1) r.2

-- the list of what is to be visited is no part of what was seen
pub explored_by : (c : Code) (entry : ℕ) (w v : Walk) → v.marks.items ≡ w.marks.items → v.others.items ≡ w.others.items → Walks c entry w → length w.work.items ≡ 0 → IsReach c entry v
explored_by c entry w v marks others walks none =
    let r = explored c entry w walks none in
    record { long = ap length marks ∙ r.long; others = λ a h. r.others a (subst (λ xs. Contains xs a) others h); sound = λ a h. r.sound a (before (place_of a) a h); complete = λ a h. after (place_of a) a (r.complete a h) }
  where
    before : (o : Option ℕ) (a : ℕ) → IsSeenAt v a o → IsSeenAt w a o
    before None a h = subst (λ xs. Contains xs a) others h
    before (Some q) a h = subst (λ ms. IsMarked ms q) marks h

    after : (o : Option ℕ) (a : ℕ) → IsSeenAt w a o → IsSeenAt v a o
    after None a h = subst (λ xs. Contains xs a) (sym others) h
    after (Some q) a h = subst (λ ms. IsMarked ms q) (sym marks) h

-- nor is the order of the other addresses
pub reach-sorted : (c : Code) (entry : ℕ) (w v : Walk) → v.marks.items ≡ w.marks.items → IsPermutation w.others.items v.others.items → IsReach c entry w → IsReach c entry v
reach-sorted c entry w v marks perm r = record {
  long = ap length marks ∙ r.long;
  others = λ a h. r.others a (Contains-permutation v.others.items w.others.items a (IsPermutation-sym w.others.items v.others.items perm) h);
  sound = λ a h. r.sound a (before (place_of a) a h);
  complete = λ a h. after (place_of a) a (r.complete a h);
}
  where
    before : (o : Option ℕ) (a : ℕ) → IsSeenAt v a o → IsSeenAt w a o
    before None a h = Contains-permutation v.others.items w.others.items a (IsPermutation-sym w.others.items v.others.items perm) h
    before (Some q) a h = subst (λ ms. IsMarked ms q) marks h

    after : (o : Option ℕ) (a : ℕ) → IsSeenAt w a o → IsSeenAt v a o
    after None a h = Contains-permutation w.others.items v.others.items a perm h
    after (Some q) a h = subst (λ ms. IsMarked ms q) (sym marks) h
