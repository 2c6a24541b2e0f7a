-- A program serves with the calls of one function opened, and so with those of all.
use Rattle.std.proofs.Common.{◌≡◌, ℕ, zero, suc, ◌+◌, ◌-◌, ◌≤◌, Bool, true, false, ◌==◌, ◌⊎◌, inl, inr, List, [], ◌∷◌, ◌++◌, length, map, Option, Some, None, refl, sym, ap, subst, arith, length-append}
use Rattle.std.specs.Prelude.{replicate, slice_get, slice_set}
use Rattle.std.proofs.lemmas.Bool.{cases_eq, eqb-true}
use Rattle.std.proofs.lemmas.List.{length-map, length-replicate}
use Rattle.std.proofs.lemmas.Option.{none-some}
use Rattle.high_ir.specs.Meaning.{World, Outcome, Goes, Leaves, Returns, Bad, Calls, Labels, pass, run, then_do}
use Rattle.high_ir.specs.Runs.{frame, given, only_good, takes}
use Rattle.high_ir.specs.Tree.{Function, Program}
use Rattle.high_renumber.specs.Keeping.{CallsServe, FunctionsServe, ServesCall}
use Rattle.high_renumber.proofs.Serving.{FunctionServes, Opens, each_serves, functions_refl, functions_trans, stays}
use Rattle.inliner.specs.declared.used.Used.{Used}
use Rattle.inliner.specs.Budgets.{variables}
use Rattle.inliner.specs.Inlining.{Making, after, after_all, after_function, by_rank, swept, used_in, with_body}
use Rattle.inliner.specs.Walking.{Walked, opened}
use Rattle.inliner.proofs.Embedding.{Kept, Serves', held}
use Rattle.inliner.proofs.Extending.{next_grows, run_opened}
use Rattle.inliner.proofs.OpenedCall.{both_true, empty_frame}

-- more variables that are unwritten
longer : (values : List ℕ) (n m i v : ℕ) → held (map Some values ++ replicate n None) i ≡ Some v → held (map Some values ++ replicate m None) i ≡ Some v
longer [] n m i v e = absurd (empty_frame n i v e)
longer (a ∷ values) n m zero v e = e
longer (a ∷ values) n m (suc i) v e = longer values n m i v e

given_serves : (own size : ℕ) (x y : Outcome) → Serves' [] own size Kept x y → ServesCall (given x) (given y)
given_serves own size (Goes st) y h = tt
given_serves own size (Leaves d st) y h = tt
given_serves own size (Returns v w t) y h = ap given h
given_serves own size Bad y h = tt

good_serves : (b : Bool) (x y : Outcome) → ServesCall (given x) (given y) → ServesCall (given (only_good b x)) (given (only_good b y))
good_serves false x y h = tt
good_serves true x y h = h

module _ (limit : ℕ) (fs : List Function) (f : ℕ) (h : Function) (used : Used) where
  abbrev walk : Walked
  walk = opened limit fs 0 h.body (used_in used h)

  least : variables h ≤ walk.used.next
  least = next_grows limit fs 0 h.body (used_in used h)

  body_serves : (l : Labels) (c d : Calls) → CallsServe c d → Opens l fs c d → (values arrays : List ℕ) (w : World) (trace : List ℕ) → takes h values arrays ≡ true →
      ServesCall (given (run l c arrays h.body (record { variables = frame h values; world = w; trace = trace }))) (given (run l d arrays walk.statement (record { variables = frame (with_body h walk) values; world = w; trace = trace })))
  body_serves l c d serve opens values arrays w trace takes_them =
      let own : ℕ = length (frame h values) in
      let size : ℕ = length (frame (with_body h walk) values) in
      let count : length values ≡ h.values = count_of_values takes_them in
      let first : own ≡ variables h = simp (length-append, length-map, length-replicate) (omega (arith, count)) in
      let whole : size ≡ walk.used.next = simp (length-append, length-map, length-replicate) (omega (arith, count, least)) in
      given_serves own size _ _
      (run_opened own size limit fs arrays l c d serve opens 0 h.body (used_in used h) (omega (arith, first)) (omega (arith, whole)) (frame h values) (frame (with_body h walk) values) w trace (record {
        below = record { by = λ i v e. absurd (nothing_held i v e) };
        own = record { by = λ i v e. let z : i ≡ 0 + i = omega arith in subst (λ k. held (frame (with_body h walk) values) k ≡ Some v) z (longer values h.locals (walk.used.next - h.values) i v e) };
        fits = omega arith;
        room = omega (arith, first, whole, least);
        same = refl;
      }))
    where
      count_of_values : takes h values arrays ≡ true → length values ≡ h.values
      count_of_values e = eqb-true (length values) h.values (both_true (length values == h.values) (length arrays == h.arrays) e)

      nothing_held : (i v : ℕ) → held [] i ≡ Some v → ⊥
      nothing_held i v e = empty_frame 0 i v e

  -- the function itself
  pub function_serves : (l : Labels) → FunctionServes l fs f (Some h) (Some (with_body h walk))
  function_serves l = record { by = λ c d serve opens values arrays w t. by_takes c d serve opens values arrays w t (takes h values arrays) refl }
    where
      by_label : (c d : Calls) → CallsServe c d → Opens l fs c d → (values arrays : List ℕ) (w : World) (t : List ℕ) → takes h values arrays ≡ true → (o : Option ℕ) →
          ServesCall (given (then_do (pass o (record { variables = frame h values; world = w; trace = t })) (run l c arrays h.body))) (given (then_do (pass o (record { variables = frame (with_body h walk) values; world = w; trace = t })) (run l d arrays walk.statement)))
      by_label c d serve opens values arrays w t is None = tt
      by_label c d serve opens values arrays w t is (Some m) = body_serves l c d serve opens values arrays w (t ++ m ∷ []) is

      by_takes : (c d : Calls) → CallsServe c d → Opens l fs c d → (values arrays : List ℕ) (w : World) (t : List ℕ) (b : Bool) → takes h values arrays ≡ b →
          ServesCall (given (only_good b (then_do (pass (l f) (record { variables = frame h values; world = w; trace = t })) (run l c arrays h.body)))) (given (only_good b (then_do (pass (l f) (record { variables = frame (with_body h walk) values; world = w; trace = t })) (run l d arrays walk.statement))))
      by_takes c d serve opens values arrays w t false is = tt
      by_takes c d serve opens values arrays w t true is = by_label c d serve opens values arrays w t is (l f)

pub set_same : {A : Type 0} (xs : List A) (i : ℕ) (x y : A) → slice_get xs i ≡ Some x → slice_get (slice_set xs i y) i ≡ Some y
set_same [] i x y e = absurd (none-some x e)
set_same (z ∷ xs) zero x y e = refl
set_same (z ∷ xs) (suc i) x y e = set_same xs i x y e

pub set_other : {A : Type 0} (xs : List A) (i j : ℕ) (y : A) → (j ≡ i → ⊥) → slice_get (slice_set xs i y) j ≡ slice_get xs j
set_other [] i j y apart = refl
set_other (z ∷ xs) zero zero y apart = absurd (apart refl)
set_other (z ∷ xs) zero (suc j) y apart = refl
set_other (z ∷ xs) (suc i) zero y apart = refl
set_other (z ∷ xs) (suc i) (suc j) y apart = set_other xs i j y (λ e. apart (ap suc e))

-- a program with one function more
after_serves : (limit : ℕ) (m : Making) (f : ℕ) → FunctionsServe m.functions (after limit m f).functions
after_serves limit m f = by_function (slice_get m.functions f) refl
  where
    by_function : (o : Option Function) → slice_get m.functions f ≡ o → FunctionsServe m.functions (after_function limit m f o).functions
    by_function None is = functions_refl m.functions
    by_function (Some h) is = each_serves m.functions (slice_set m.functions f new) (λ l g. by_number l g (cases_eq g f))
      where
        new : Function
        new = with_body h (opened limit m.functions 0 h.body (used_in m.used h))

        by_number : (l : Labels) (g : ℕ) → ((g ≡ f) ⊎ (g ≡ f → ⊥)) → FunctionServes l m.functions g (slice_get m.functions g) (slice_get (slice_set m.functions f new) g)
        by_number l g (inl same) =
            subst (λ k. FunctionServes l m.functions k (slice_get m.functions k) (slice_get (slice_set m.functions f new) k)) (sym same)
            (subst (λ o. FunctionServes l m.functions f o (slice_get (slice_set m.functions f new) f)) (sym is)
            (subst (λ o. FunctionServes l m.functions f (Some h) o) (sym (set_same m.functions f h new is)) (function_serves limit m.functions f h m.used l)))
        by_number l g (inr other) = subst (λ o. FunctionServes l m.functions g (slice_get m.functions g) o) (sym (set_other m.functions f g new other)) (stays l m.functions g (slice_get m.functions g))

pub all_serve : (limit : ℕ) (m : Making) (order : List ℕ) → FunctionsServe m.functions (after_all limit m order).functions
all_serve limit m [] = functions_refl m.functions
all_serve limit m (f ∷ order) = functions_trans m.functions (after limit m f).functions (after_all limit (after limit m f) order).functions (after_serves limit m f) (all_serve limit (after limit m f) order)

-- the program with its calls opened does what the program does
pub swept_serves : (limit : ℕ) (p : Program) (n : ℕ) → FunctionsServe p.functions (swept limit p n).functions
swept_serves limit p zero = functions_refl p.functions
swept_serves limit p (suc n) =
    let before = swept limit p n in
    functions_trans p.functions before.functions (after_all limit before (by_rank p.functions)).functions (swept_serves limit p n) (all_serve limit before (by_rank p.functions))
