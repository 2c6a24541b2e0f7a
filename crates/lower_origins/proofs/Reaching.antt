-- The order of functions has those that are reached.
use Rattle.std.proofs.Common.{◌≡◌, ℕ, zero, suc, Bool, true, false, List, [], ◌∷◌, ◌++◌, Option, Some, None, refl, sym, ap, ◌∙◌, subst}
use Rattle.std.specs.Prelude.{◌==◌, if◌then◌else◌, reverse, slice_get}
use Rattle.std.proofs.lemmas.List.{reverse-append}
use Rattle.std.proofs.lemmas.Option.{same_Some}
use Rattle.high_ir.specs.Formed.{IsHigh}
use Rattle.high_ir.specs.Runs.{rank_or}
use Rattle.high_ir.specs.Standing.{callees_of}
use Rattle.high_ir.specs.Tree.{Function, Program}
use Rattle.low_ir.specs.Effects.{is_member}
use Rattle.lower_definition.specs.Calls.{behind_callees, order, visited, visited_all}
use Rattle.lower_origins.proofs.Members.{member_first, member_more, same_test}
use Rattle.lower_origins.proofs.Visits.{ordered}
use Rattle.lower_origins.specs.Orders.{IsOrdered}
use Rattle.lower_origins.specs.Reached.{Called, IsReached, ListsReached, Main}

module _ (p : Program) where
  abbrev fs : List Function
  fs = p.functions

  abbrev pub AllReached : List ℕ → Type 0
  AllReached [] = Unit {0}
  AllReached (g ∷ gs) = IsReached p g × AllReached gs

  all_append : (xs ys : List ℕ) → AllReached xs → AllReached ys → AllReached (xs ++ ys)
  all_append [] ys h k = k
  all_append (x ∷ xs) ys h k = (h.0, all_append xs ys h.1 k)

  pub all_reverse : (xs : List ℕ) → AllReached xs → AllReached (reverse xs)
  all_reverse [] h = tt
  all_reverse (x ∷ xs) h = subst AllReached (sym (reverse-append (x ∷ []) xs)) (all_append (reverse xs) (x ∷ []) (all_reverse xs h.1) (h.0, tt))

  all_at : (xs : List ℕ) (f : ℕ) → AllReached xs → is_member xs f ≡ true → IsReached p f
  all_at [] f h e = cc
  all_at (x ∷ xs) f h e = by_test (x == f) refl e (λ k. all_at xs f h.1 k)
    where
      by_test : (b : Bool) → (x == f) ≡ b → (if b then true else is_member xs f) ≡ true → (is_member xs f ≡ true → IsReached p f) → IsReached p f
      by_test true t k go = subst (IsReached p) (same_test x f t) h.0
      by_test false t k go = go k

  -- a walk keeps to what is reached
  all_visited : (visit : ℕ → List ℕ → List ℕ) → ((g : ℕ) (done : List ℕ) → IsReached p g → AllReached done → AllReached (visit g done)) → (gs : List ℕ) → ((g : ℕ) → is_member gs g ≡ true → IsReached p g) → (done : List ℕ) → AllReached done → AllReached (visited_all visit gs done)
  all_visited visit keeps [] each done h = h
  all_visited visit keeps (g ∷ gs) each done h =
      all_visited visit keeps gs (λ c e. each c (member_more g gs c e)) (visit g done) (keeps g done (each g (member_first g gs)) h)

  visits : (n f : ℕ) (done : List ℕ) → IsReached p f → AllReached done → AllReached (visited fs n f done)
  visits zero f done r h = h
  visits (suc n) f done r h = by_test (is_member done f) (λ g d k l. visits n g d k l)
    where
      by_function : (o : Option Function) → slice_get fs f ≡ o → ((g : ℕ) (d : List ℕ) → IsReached p g → AllReached d → AllReached (visited fs n g d)) → AllReached (behind_callees (visited fs n) f o done)
      by_function None e keeps = h
      by_function (Some k) e keeps =
          all_append (visited_all (visited fs n) (callees_of k.body) done) (f ∷ []) (all_visited (visited fs n) keeps (callees_of k.body) (λ g m. Called f g k e m r) done h) (r, tt)

      by_test : (b : Bool) → ((g : ℕ) (d : List ℕ) → IsReached p g → AllReached d → AllReached (visited fs n g d)) → AllReached (if b then done else behind_callees (visited fs n) f (slice_get fs f) done)
      by_test true keeps = h
      by_test false keeps = by_function (slice_get fs f) refl keeps

  pub order_reached : AllReached (order p)
  order_reached = visits (suc (rank_or fs p.main 0)) p.main [] (Main p.main refl) tt

  pub in_order : (f : ℕ) → is_member (order p) f ≡ true → IsReached p f
  in_order f e = all_at (order p) f order_reached e

  module _ (is : IsOrdered p) where
    pub reached_listed : (f : ℕ) → IsReached p f → is_member (order p) f ≡ true
    reached_listed f (Main g e) = subst (λ n. is_member (order p) n ≡ true) (sym e) is.main
    reached_listed f (Called c g h there calls caller) =
        let place = is.places c (reached_listed c caller) in
        let same : place.function ≡ h = same_Some place.function h (sym place.there ∙ there) in
        let next = place.called g (ap (λ (x : Function). is_member (callees_of x.body) g) same ∙ calls) in
        next.0

pub lists_reached : (p : Program) → IsHigh p → ListsReached p
lists_reached p high = record { reached = in_order p; listed = reached_listed p (ordered p high) }
