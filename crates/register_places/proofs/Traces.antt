-- Traces as a loop sees them, and what an instruction leaves of a trace.
use Rattle.std.proofs.Common.{◌≡◌, ◌≢◌, ℕ, suc, ◌+◌, ◌*◌, ◌≤◌, Bool, true, false, List, [], ◌∷◌, ◌++◌, length, Option, Some, None, refl, arith}
use Rattle.std.specs.Prelude.{All, slice_index_or}
use Rattle.low_ir.specs.declared.run.Began.{Began}
use Rattle.low_ir.specs.declared.run.Value.{Value}
use Rattle.low_ir.specs.declared.run.Value.TheVariants.{Word, Pointer}
use Rattle.low_ir.specs.Code.{Base, Fixed, Through, Address, Plain, Set, Operate, Point, Load, Store, Put, Get, Loop}
use Rattle.low_ir.specs.Effects.{World, Did, gives, changes, there, only_if, is_member, from_base, by_offset, resolved, loaded, stored, with_objects, effect}
use Rattle.register_places.specs.Totals.{began_count, once}
use Rattle.low_ir.specs.Turns.{Turns, IsWithin, is_at, turn, turns}

-- the starts of all entries
abbrev pub total : List ℕ → ℕ
total [] = 0
total (n ∷ ns) = n + total ns

pub turns-more : (f : ℕ) (l : Loop) (t : Turns) (es : List Began) (e : Began) → turns f l t (es ++ e ∷ []) ≡ turn f l (turns f l t es) e
turns-more f l t [] e = refl
turns-more f l t (x ∷ es) e = turns-more f l (turn f l t x) es e

pub began_count-more : (f b : ℕ) (es : List Began) (e : Began) → began_count f b (es ++ e ∷ []) ≡ began_count f b es + once (is_at e f b)
began_count-more f b [] e = omega arith
began_count-more f b (x ∷ es) e = let h = began_count-more f b es e in omega arith

-- what a loop's totals are between events: each jump back but the last was followed by a start
pub record Balanced (t : Turns) (heads backs : ℕ) : Type 0 where
  pub paired : heads + once t.again ≡ backs + length t.starts
  pub starts : heads ≡ total t.starts
  pub entered : t.again ≡ true → t.starts ≢ []

pub least_total : (l : Loop) (ns : List ℕ) → All (IsWithin l) ns → (l.least * length ns ≤ total ns) × (total ns ≤ l.most * length ns)
least_total l [] h = (omega arith, omega arith)
least_total l (n ∷ ns) h =
    let here : IsWithin l n = h 0 0 (omega arith) in
    let rest = least_total l ns (λ k d lt. h (suc k) d (omega arith)) in
    let low = here.0 in
    let high = here.1 in
    let lows = rest.0 in
    let highs = rest.1 in
    let a : l.least * suc (length ns) ≡ l.least + l.least * length ns = omega arith in
    let b : l.most * suc (length ns) ≡ l.most + l.most * length ns = omega arith in
    (omega arith, omega arith)

-- what an instruction did leaves the trace as it was
abbrev pub Leaves : World → Option Did → Type 0
Leaves u None = Unit {0}
Leaves u (Some e) = e.world.trace ≡ u.trace

leaves_offset : {R : Type 0} (u : World) (offset : Option R) (xs : List Value) (go : ℕ → Option Did) → ((w : ℕ) → Leaves u (go w)) → Leaves u (by_offset offset xs go)
leaves_offset u None [] go h = h 0
leaves_offset u None (x ∷ xs) go h = tt
leaves_offset u (Some r) [] go h = tt
leaves_offset u (Some r) (Word w ∷ []) go h = h w
leaves_offset u (Some r) (Pointer o n ∷ []) go h = tt
leaves_offset u (Some r) (x ∷ y ∷ xs) go h = tt

leaves_if : (u : World) (b : Bool) (o : Option Did) → Leaves u o → Leaves u (only_if b o)
leaves_if u true o h = h
leaves_if u false o h = tt

leaves_base : {R : Type 0} (u : World) (claims : List (List ℕ)) (base : Base R) (xs : List Value) (go : ℕ → ℕ → List Value → Option Did) → ((o n : ℕ) (rest : List Value) → Leaves u (go o n rest)) → Leaves u (from_base claims base xs go)
leaves_base u claims (Fixed o) xs go h = h o 0 xs
leaves_base u claims (Through r claim) [] go h = tt
leaves_base u claims (Through r claim) (Word w ∷ xs) go h = tt
leaves_base u claims (Through r claim) (Pointer o n ∷ xs) go h = leaves_if u (is_member (slice_index_or claims claim []) o) (go o n xs) (h o n xs)

leaves_resolved : {R : Type 0} (u : World) (claims : List (List ℕ)) (a : Address R) (xs : List Value) (go : ℕ → ℕ → Option Did) → ((o n : ℕ) → Leaves u (go o n)) → Leaves u (resolved claims a xs go)
leaves_resolved u claims a xs go h = leaves_base u claims a.base xs _ (λ o n rest. leaves_offset u a.offset rest _ (λ w. h o _))

leaves_loaded : (u : World) (o : Option ℕ) → Leaves u (there o (λ w. gives u (Word w)))
leaves_loaded u None = tt
leaves_loaded u (Some w) = refl

leaves_there : {A : Type 0} (u : World) (o : Option A) (go : A → Option Did) → ((x : A) → Leaves u (go x)) → Leaves u (there o go)
leaves_there u None go h = tt
leaves_there u (Some x) go h = h x

pub effect_leaves : {R : Type 0} (claims : List (List ℕ)) (i : Plain R) (xs : List Value) (u : World) → Leaves u (effect claims i xs u)
effect_leaves claims (Set d x) [] u = tt
effect_leaves claims (Set d x) (p ∷ []) u = refl
effect_leaves claims (Set d x) (p ∷ q ∷ xs) u = tt
effect_leaves claims (Operate operator d x y) [] u = tt
effect_leaves claims (Operate operator d x y) (p ∷ []) u = tt
effect_leaves claims (Operate operator d x y) (Word m ∷ Word n ∷ []) u = refl
effect_leaves claims (Operate operator d x y) (Word m ∷ Pointer o k ∷ []) u = tt
effect_leaves claims (Operate operator d x y) (Pointer o k ∷ q ∷ []) u = tt
effect_leaves claims (Operate operator d x y) (p ∷ q ∷ z ∷ xs) u = tt
effect_leaves claims (Point d a) xs u = leaves_resolved u claims a xs (λ o n. gives u (Pointer o n)) (λ o n. refl)
effect_leaves claims (Load kind d a) xs u = leaves_resolved u claims a xs (λ o n. there (loaded u.objects kind o n) (λ w. gives u (Word w))) (λ o n. leaves_loaded u (loaded u.objects kind o n))
effect_leaves claims (Store kind a x) [] u = tt
effect_leaves claims (Store kind a x) (Word w ∷ xs) u =
    leaves_resolved u claims a xs (λ o n. there (stored u.objects kind o n w) (λ objects. changes (with_objects u objects)))
    (λ o n. leaves_there u (stored u.objects kind o n w) (λ objects. changes (with_objects u objects)) (λ objects. refl))
effect_leaves claims (Store kind a x) (Pointer o n ∷ xs) u = tt
effect_leaves claims (Put x) [] u = tt
effect_leaves claims (Put x) (Word w ∷ []) u = refl
effect_leaves claims (Put x) (Pointer o n ∷ []) u = tt
effect_leaves claims (Put x) (p ∷ q ∷ xs) u = tt
effect_leaves claims (Get d) xs u = refl
