-- The multipliers of the functions' loops, each at its claim.
use Rattle.std.proofs.Common.{◌≡◌, ℕ, ℤ, pos, refl, subst, List, [], ◌∷◌, inl, inr, ◌⊎◌, Bool, true, false, cond}
use Rattle.std.specs.Prelude.{◌&&◌}
use Rattle.code_flow_system.specs.declared.claims.LoopClaim.{LoopClaim}
use Rattle.code_flow_system.specs.declared.shapes.LoopShape.{LoopShape}
use Rattle.code_flow_system.specs.declared.shapes.Span.{Span}
use Rattle.code_flow_system.specs.Systems.{System, has_moves}
use Rattle.code_flow_system.specs.Shapes.{AreShapesOf, IsInSpan, IsInOne}
use Rattle.loop_walks.specs.declared.step.Step.{Step}
use Rattle.loop_walks.specs.declared.step.Loop.{Loop}
use Rattle.loop_walks.specs.declared.step.Pair.{Pair}
use Rattle.loop_walks.specs.Levels.{Level}
use Rattle.path_places.specs.Reached.{in_span}
use Rattle.path_places.specs.Places.{loop_of, loops_of}
use Rattle.path_places.specs.PlaceLaws.{function_steps}
use Rattle.path_places.proofs.RankLemmas.{span_of, is_in_span}
use Rattle.path_places.proofs.FunctionLemmas.{differ}
use Rattle.path_places.specs.Driver.{Prices, function_loops, function_level, function_pairs}
use Rattle.path_places.specs.Duals.{dealt, no_pairs, pairs_from}

-- something holds of each claim with its loop and its multipliers
abbrev pub AreDealt : (LoopClaim → LoopShape → Pair → Type 0) → List LoopClaim → List LoopShape → List Pair → Type 0
AreDealt P [] [] qs = Unit {0}
AreDealt P [] (l ∷ ls) qs = ⊥
AreDealt P (c ∷ cs) [] qs = ⊥
AreDealt P (c ∷ cs) (l ∷ ls) [] = ⊥
AreDealt P (c ∷ cs) (l ∷ ls) (q ∷ qs) = P c l q × AreDealt P cs ls qs

pub dealt_map : (P Q : LoopClaim → LoopShape → Pair → Type 0) → ((c : LoopClaim) (l : LoopShape) (k : Pair) → P c l k → Q c l k) → (cs : List LoopClaim) (ls : List LoopShape) (ks : List Pair) → AreDealt P cs ls ks → AreDealt Q cs ls ks
dealt_map P Q f [] [] ks h = tt
dealt_map P Q f [] (l ∷ ls) ks h = absurd h
dealt_map P Q f (c ∷ cs) [] ks h = absurd h
dealt_map P Q f (c ∷ cs) (l ∷ ls) [] h = absurd h
dealt_map P Q f (c ∷ cs) (l ∷ ls) (k ∷ ks) h = (f c l k h.0, dealt_map P Q f cs ls ks h.1)

-- a claim stands in the lists with its loop and its multipliers
abbrev pub Stands : List LoopClaim → List LoopShape → List Pair → LoopClaim → LoopShape → Pair → Type 0
Stands [] ls ks c l k = ⊥
Stands (d ∷ cs) [] ks c l k = ⊥
Stands (d ∷ cs) (m ∷ ls) [] c l k = ⊥
Stands (d ∷ cs) (m ∷ ls) (j ∷ ks) c l k = ((d ≡ c) × (m ≡ l) × (j ≡ k)) ⊎ Stands cs ls ks c l k

pub dealt_stands : (P : LoopClaim → LoopShape → Pair → Type 0) (cs : List LoopClaim) (ls : List LoopShape) (ks : List Pair) (c : LoopClaim) (l : LoopShape) (k : Pair) → AreDealt P cs ls ks → Stands cs ls ks c l k → P c l k
dealt_stands P [] ls ks c l k h i = absurd i
dealt_stands P (d ∷ cs) [] ks c l k h i = absurd i
dealt_stands P (d ∷ cs) (m ∷ ls) [] c l k h i = absurd i
dealt_stands P (d ∷ cs) (m ∷ ls) (j ∷ ks) c l k h i = elim i [
  | inl e ↦ subst (λ (x : LoopClaim). P x l k) e.0 (subst (λ (x : LoopShape). P d x k) e.1 (subst (λ (x : Pair). P d m x) e.2 h.0))
  | inr e ↦ dealt_stands P cs ls ks c l k h.1 e
]

-- something holds of each loop of a function with its multipliers
abbrev pub AreAll : (Loop → Pair → Type 0) → List Loop → List Pair → Type 0
AreAll R [] ps = Unit {0}
AreAll R (l ∷ ls) [] = ⊥
AreAll R (l ∷ ls) (p ∷ ps) = R l p × AreAll R ls ps

module _ (s : System) (ls : List LoopShape) (q : Prices) (Z : Pair → Type 0) (R : Span → List Step → Loop → Pair → Type 0) (each : (p : Span) (ms : List Step) (l : Loop) (k : Pair) → R p ms l k → Z k) where
  -- it holds of a claim's loop, in its function
  abbrev pub Found : LoopClaim → LoopShape → Pair → Type 0
  Found c l k = (p : Span) × (ws : List ℤ) × IsInSpan p l.header × R p (function_steps s ls q.of ws p) (loop_of q.of q.low s.moves s.claims p (function_steps s ls q.of ws p) c l) k

  -- where the function is done
  abbrev pub IsDone : (ℕ → Type 0) → LoopClaim → LoopShape → Pair → Type 0
  IsDone done c l k = Z k × (has_moves s.moves l.header ≡ true → done l.header → Found c l k)

  deal : (done : ℕ → Type 0) (p : Span) (ws : List ℤ) (cs : List LoopClaim) (ks : List LoopShape) (known new : List Pair) → AreDealt (IsDone done) cs ks known →
      AreAll (R p (function_steps s ls q.of ws p)) (loops_of q.of q.low s.moves s.claims p (function_steps s ls q.of ws p) cs ks) new →
      AreDealt (IsDone (λ a. done a ⊎ IsInSpan p a)) cs ks (dealt s.moves p ks known new)
  deal done p ws [] [] known new h all = tt
  deal done p ws [] (l ∷ ks) known new h all = absurd h
  deal done p ws (c ∷ cs) [] known new h all = absurd h
  deal done p ws (c ∷ cs) (l ∷ ks) [] new h all = absurd h
  deal done p ws (c ∷ cs) (l ∷ ks) (k ∷ known) [] h all = by_test (λ ns st. deal done p ws cs ks known ns h.1 st) (in_span p l.header) refl (has_moves s.moves l.header) refl all
    where
      as_before : (in_span p l.header ≡ false) ⊎ (has_moves s.moves l.header ≡ false) → IsDone (λ a. done a ⊎ IsInSpan p a) c l k
      as_before out = (
        h.0.0,
        λ there d. elim d [
          | inl e ↦ h.0.1 there e
          | inr e ↦ elim out [ inl f ↦ absurd (differ (in_span p l.header) (is_in_span p l.header e) f) | inr f ↦ absurd (differ (has_moves s.moves l.header) there f) ]
        ],
      )

      by_test : ((ns : List Pair) → AreAll (R p (function_steps s ls q.of ws p)) (loops_of q.of q.low s.moves s.claims p (function_steps s ls q.of ws p) cs ks) ns → AreDealt (IsDone (λ a. done a ⊎ IsInSpan p a)) cs ks (dealt s.moves p ks known ns)) → (t : Bool) → in_span p l.header ≡ t → (u : Bool) → has_moves s.moves l.header ≡ u →
          AreAll (R p (function_steps s ls q.of ws p)) (cond (t && u) (loop_of q.of q.low s.moves s.claims p (function_steps s ls q.of ws p) c l ∷ loops_of q.of q.low s.moves s.claims p (function_steps s ls q.of ws p) cs ks) (loops_of q.of q.low s.moves s.claims p (function_steps s ls q.of ws p) cs ks)) [] →
          AreDealt (IsDone (λ a. done a ⊎ IsInSpan p a)) (c ∷ cs) (l ∷ ks) (k ∷ dealt s.moves p ks known [])
      by_test next true e true f all = absurd all
      by_test next true e false f all = (as_before (inr f), next [] all)
      by_test next false e u f all = (as_before (inl e), next [] all)
  deal done p ws (c ∷ cs) (l ∷ ks) (k ∷ known) (n ∷ new) h all = by_test (λ ns st. deal done p ws cs ks known ns h.1 st) (in_span p l.header) refl (has_moves s.moves l.header) refl all
    where
      as_before : (in_span p l.header ≡ false) ⊎ (has_moves s.moves l.header ≡ false) → IsDone (λ a. done a ⊎ IsInSpan p a) c l k
      as_before out = (
        h.0.0,
        λ there d. elim d [
          | inl e ↦ h.0.1 there e
          | inr e ↦ elim out [ inl f ↦ absurd (differ (in_span p l.header) (is_in_span p l.header e) f) | inr f ↦ absurd (differ (has_moves s.moves l.header) there f) ]
        ],
      )

      by_test : ((ns : List Pair) → AreAll (R p (function_steps s ls q.of ws p)) (loops_of q.of q.low s.moves s.claims p (function_steps s ls q.of ws p) cs ks) ns → AreDealt (IsDone (λ a. done a ⊎ IsInSpan p a)) cs ks (dealt s.moves p ks known ns)) → (t : Bool) → in_span p l.header ≡ t → (u : Bool) → has_moves s.moves l.header ≡ u →
          AreAll (R p (function_steps s ls q.of ws p)) (cond (t && u) (loop_of q.of q.low s.moves s.claims p (function_steps s ls q.of ws p) c l ∷ loops_of q.of q.low s.moves s.claims p (function_steps s ls q.of ws p) cs ks) (loops_of q.of q.low s.moves s.claims p (function_steps s ls q.of ws p) cs ks)) (n ∷ new) →
          AreDealt (IsDone (λ a. done a ⊎ IsInSpan p a)) (c ∷ cs) (l ∷ ks) (cond (t && u) (n ∷ dealt s.moves p ks known new) (k ∷ dealt s.moves p ks known (n ∷ new)))
      by_test next true e true f all = ((each p (function_steps s ls q.of ws p) (loop_of q.of q.low s.moves s.claims p (function_steps s ls q.of ws p) c l) n all.0, λ there d. (p, ws, span_of p l.header e, all.0)), next new all.1)
      by_test next true e false f all = (as_before (inr f), next (n ∷ new) all)
      by_test next false e u f all = (as_before (inl e), next (n ∷ new) all)

  -- it holds of the loops of functions from a level on
  abbrev pub AllFunctions : Level → List Span → Type 0
  AllFunctions v [] = Unit {0}
  AllFunctions v (r ∷ rs) = AreAll (R r (function_steps s ls q.of v.worths r)) (function_loops s ls q v.worths r) (function_pairs s ls q v r) × AllFunctions (function_level s ls q v r) rs

  deal_all : (done : ℕ → Type 0) (v : Level) (rs : List Span) (known : List Pair) → AllFunctions v rs → AreDealt (IsDone done) s.claims.loops ls known →
      AreDealt (IsDone (λ a. done a ⊎ IsInOne rs a)) s.claims.loops ls (pairs_from s ls q v rs known)
  deal_all done v [] known all h = dealt_map (IsDone done) (IsDone (λ a. done a ⊎ IsInOne [] a)) (λ c l k d. (d.0, λ there o. elim o [ inl e ↦ d.1 there e | inr e ↦ absurd e ])) s.claims.loops ls known h
  deal_all done v (r ∷ rs) known all h =
      dealt_map (IsDone (λ a. (done a ⊎ IsInSpan r a) ⊎ IsInOne rs a)) (IsDone (λ a. done a ⊎ IsInOne (r ∷ rs) a)) (λ c l k d. (d.0, λ there o. d.1 there (elim o [ inl e ↦ inl (inl e) | inr e ↦ elim e [ inl f ↦ inl (inr f) | inr f ↦ inr f ] ]))) s.claims.loops ls
      (pairs_from s ls q (function_level s ls q v r) rs (dealt s.moves r ls known (function_pairs s ls q v r)))
      (deal_all (λ a. done a ⊎ IsInSpan r a) (function_level s ls q v r) rs (dealt s.moves r ls known (function_pairs s ls q v r)) all.1
      (deal done r v.worths s.claims.loops ls known (function_pairs s ls q v r) h all.0))

  none_done : Z (record { least = pos 0; most = pos 0 }) → (cs : List LoopClaim) (ks : List LoopShape) → AreShapesOf cs ks → AreDealt (IsDone (λ a. ⊥)) cs ks (no_pairs ks)
  none_done z [] [] are = tt
  none_done z [] (l ∷ ks) are = absurd are
  none_done z (c ∷ cs) [] are = absurd are
  none_done z (c ∷ cs) (l ∷ ks) are = ((z, λ there d. absurd d), none_done z cs ks are.2)

  pub all_dealt : Z (record { least = pos 0; most = pos 0 }) → (v : Level) (rs : List Span) → AreShapesOf s.claims.loops ls → AllFunctions v rs → AreDealt (IsDone (IsInOne rs)) s.claims.loops ls (pairs_from s ls q v rs (no_pairs ls))
  all_dealt z v rs are all =
      dealt_map (IsDone (λ a. ⊥ ⊎ IsInOne rs a)) (IsDone (IsInOne rs)) (λ c l k d. (d.0, λ there o. d.1 there (inr o))) s.claims.loops ls (pairs_from s ls q v rs (no_pairs ls))
      (deal_all (λ a. ⊥) v rs (no_pairs ls) all (none_done z s.claims.loops ls are))
