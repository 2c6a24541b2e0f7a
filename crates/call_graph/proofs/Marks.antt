-- Marks that are set.
use Rattle.std.proofs.Common.{◌≡◌, ◌≢◌, refl, ap, ◌∙◌, sym, ℕ, zero, suc, ◌≤◌, ◌<◌, List, [], ◌∷◌, ◌++◌, length, arith, set, ◌⊎◌, inl, inr, subst}
use Rattle.std.proofs.lemmas.List.{get_or-set_same, get_or-set_other, length-set}
use Rattle.call_graph.specs.declared.graph.Mark.{Mark}
use Rattle.call_graph.specs.declared.graph.Mark.TheVariants.{New, Open, Done}
use Rattle.types_calls.specs.Chains.{Among, callees, IsChain, end_of, IsRank, Reaches}
use Rattle.call_graph.specs.Search.{mark_of, fresh, IsSound, IsPath, IsPathTo, Keeps}

pub fresh-open : (ms : List Mark) (f : ℕ) → f < length ms → mark_of ms f ≡ New → suc (fresh (set ms f Open)) ≡ fresh ms
fresh-open [] f h e = absurd (omega (arith, h))
fresh-open (New ∷ ms) zero h e = refl
fresh-open (New ∷ ms) (suc f) h e = ap suc (fresh-open ms f (omega (arith, h)) e)
fresh-open (Open ∷ ms) (suc f) h e = fresh-open ms f (omega (arith, h)) e
fresh-open (Done r ∷ ms) (suc f) h e = fresh-open ms f (omega (arith, h)) e
fresh-open (Open ∷ ms) zero h e = cc
fresh-open (Done r ∷ ms) zero h e = cc

pub fresh-done : (ms : List Mark) (f r : ℕ) → fresh (set ms f (Done r)) ≤ fresh ms
fresh-done [] f r = omega arith
fresh-done (New ∷ ms) zero r = omega arith
fresh-done (Open ∷ ms) zero r = omega arith
fresh-done (Done s ∷ ms) zero r = omega arith
fresh-done (New ∷ ms) (suc f) r = let h = fresh-done ms f r in omega (arith, h)
fresh-done (Open ∷ ms) (suc f) r = fresh-done ms f r
fresh-done (Done s ∷ ms) (suc f) r = fresh-done ms f r

pub same_or_not : (g f : ℕ) → (g ≡ f) ⊎ (g ≢ f)
same_or_not zero zero = inl refl
same_or_not zero (suc f) = inr (λ e. omega (arith, e))
same_or_not (suc g) zero = inr (λ e. omega (arith, e))
same_or_not (suc g) (suc f) = lift (same_or_not g f)
  where
    lift : (g ≡ f) ⊎ (g ≢ f) → (suc g ≡ suc f) ⊎ (suc g ≢ suc f)
    lift (inl e) = inl (ap suc e)
    lift (inr h) = inr (λ e. h (omega (arith, e)))

sound_at : (graph : List (List ℕ)) (marks : List Mark) (f g r : ℕ) → f < length marks → IsSound graph marks → mark_of (set marks f Open) g ≡ Done r → (g ≡ f) ⊎ (g ≢ f) → IsRank graph g r
sound_at graph marks f g r h s e (inl same) = let k : Open ≡ Done r = sym (get_or-set_same marks f Open New h) ∙ ap (mark_of (set marks f Open)) (sym same) ∙ e in cc
sound_at graph marks f g r h s e (inr other) = s.ranks g r (sym (get_or-set_other marks f g Open New other) ∙ e)

pub sound_open : (graph : List (List ℕ)) (marks : List Mark) (f : ℕ) → f < length marks → IsSound graph marks → IsSound graph (set marks f Open)
sound_open graph marks f h s = record { ranks = λ g r e. sound_at graph marks f g r h s e (same_or_not g f) }

path_at : (graph : List (List ℕ)) (marks : List Mark) (f g : ℕ) → IsPath graph marks f → mark_of (set marks f Open) g ≡ Open → (g ≡ f) ⊎ (g ≢ f) → (g ≡ f) ⊎ Reaches graph g f
path_at graph marks f g p e (inl same) = inl same
path_at graph marks f g p e (inr other) = inr (p.reach g (sym (get_or-set_other marks f g Open New other) ∙ e))

pub path_open : (graph : List (List ℕ)) (marks : List Mark) (f : ℕ) → IsPath graph marks f → IsPathTo graph (set marks f Open) f
path_open graph marks f p = record { reach = λ g e. path_at graph marks f g p e (same_or_not g f) }

chain_more : (graph : List (List ℕ)) (f g h : ℕ) (gs : List ℕ) → IsChain graph f gs → end_of f gs ≡ g → Among h (callees graph g) → IsChain graph f (gs ++ h ∷ [])
chain_more graph f g h [] c e a = (subst (λ x. Among h (callees graph x)) (sym e) a, tt)
chain_more graph f g h (x ∷ gs) c e a = (c.0, chain_more graph x g h gs c.1 e a)

end_more : (f h : ℕ) (gs : List ℕ) → end_of f (gs ++ h ∷ []) ≡ h
end_more f h [] = refl
end_more f h (x ∷ gs) = end_more x h gs

pub step_on : (graph : List (List ℕ)) (f g h : ℕ) → Among h (callees graph f) → (g ≡ f) ⊎ Reaches graph g f → Reaches graph g h
step_on graph f g h a (inl e) = record { next = h; chain = []; calls = subst (λ x. Among h (callees graph x)) (sym e) a; is_chain = tt; ends = refl }
step_on graph f g h a (inr r) = record { next = r.next; chain = r.chain ++ h ∷ []; calls = r.calls; is_chain = chain_more graph r.next f h r.chain r.is_chain r.ends a; ends = end_more r.next h r.chain }

pub path_on : (graph : List (List ℕ)) (before marks : List Mark) (f h : ℕ) → IsPathTo graph before f → Keeps graph before marks → Among h (callees graph f) → IsPath graph marks h
path_on graph before marks f h p k a = record { reach = λ g e. step_on graph f g h a (p.reach g (k.opens g e)) }

pub keeps_none : (graph : List (List ℕ)) (marks : List Mark) → IsSound graph marks → Keeps graph marks marks
keeps_none graph marks s = record { size = refl; sound = s; opens = λ g e. e; fewer = omega arith }

pub keeps_more : (graph : List (List ℕ)) (a b c : List Mark) → Keeps graph a b → Keeps graph b c → Keeps graph a c
keeps_more graph a b c k l = record { size = l.size ∙ k.size; sound = l.sound; opens = λ g e. k.opens g (l.opens g e); fewer = omega (arith, k.fewer, l.fewer) }

done_at : (graph : List (List ℕ)) (marks : List Mark) (f r g s : ℕ) → f < length marks → IsSound graph marks → IsRank graph f r → mark_of (set marks f (Done r)) g ≡ Done s → (g ≡ f) ⊎ (g ≢ f) → IsRank graph g s
done_at graph marks f r g s h k rank e (inl same) =
    let d : Done r ≡ Done s = sym (get_or-set_same marks f (Done r) New h) ∙ ap (mark_of (set marks f (Done r))) (sym same) ∙ e in
    let n : r ≡ s = cc in
    subst (λ y. IsRank graph y s) (sym same) (subst (λ y. IsRank graph f y) n rank)
done_at graph marks f r g s h k rank e (inr other) = k.ranks g s (sym (get_or-set_other marks f g (Done r) New other) ∙ e)

open_at : (old mid : List Mark) (f r g : ℕ) → f < length mid → ((g : ℕ) → mark_of mid g ≡ Open → mark_of (set old f Open) g ≡ Open) → mark_of (set mid f (Done r)) g ≡ Open → (g ≡ f) ⊎ (g ≢ f) → mark_of old g ≡ Open
open_at old mid f r g h k e (inl same) = let d : Done r ≡ Open = sym (get_or-set_same mid f (Done r) New h) ∙ ap (mark_of (set mid f (Done r))) (sym same) ∙ e in cc
open_at old mid f r g h k e (inr other) = sym (get_or-set_other old f g Open New other) ∙ k g (sym (get_or-set_other mid f g (Done r) New other) ∙ e)

pub keeps_done : (graph : List (List ℕ)) (old mid : List Mark) (f r : ℕ) → f < length old → mark_of old f ≡ New → IsRank graph f r → Keeps graph (set old f Open) mid → Keeps graph old (set mid f (Done r))
keeps_done graph old mid f r h e rank k =
    let size = k.size ∙ length-set old f Open in
    let within : f < length mid = omega (arith, h, size) in
    let a = fresh-open old f h e in
    let b = fresh-done mid f r in
    record {
      size = length-set mid f (Done r) ∙ size;
      sound = record { ranks = λ g s d. done_at graph mid f r g s within k.sound rank d (same_or_not g f) };
      opens = λ g d. open_at old mid f r g within k.opens d (same_or_not g f);
      fewer = omega (arith, a, b, k.fewer);
    }
