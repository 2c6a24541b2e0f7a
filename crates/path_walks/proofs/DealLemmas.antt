-- The multipliers of a function's loops are put between two places.
use Rattle.std.proofs.Common.{◌≡◌, ℕ, zero, suc, ◌+◌, ◌<◌, ◌≤◌, arith, refl, sym, ap, ◌∙◌, List, [], ◌∷◌, ◌++◌, length, take, drop, get_or, set, Bool, true, false, cond, append_assoc, take-append-drop, length-drop}
use Rattle.std.specs.Prelude.{◌&&◌, nat_lt, if◌then◌else◌}
use Rattle.std.proofs.Math.Seq.{drop-cons}
use Rattle.std.proofs.Math.ListN.{length-set}
use Rattle.std.proofs.lemmas.Bool.Decides.{nat_tests}
use Rattle.std.proofs.lemmas.List.{drop_all, get_or-drop, drop-set-lt, take_more, take_more_set}
use Rattle.code_flow_system.specs.declared.moves.Move.{Move}
use Rattle.code_flow_system.specs.declared.shapes.LoopShape.{LoopShape}
use Rattle.code_flow_system.specs.declared.shapes.Span.{Span}
use Rattle.code_flow_system.specs.Systems.{has_moves}
use Rattle.loop_walks.specs.declared.step.Pair.{Pair}
use Rattle.path_places.specs.Reached.{in_span}
use Rattle.path_places.specs.Duals.{dealt}
use Rattle.path_walks.specs.Deals.{takes}

next : (i : ℕ) → suc i ≡ i + 1
next i = omega arith

module _ (all : List Move) (p : Span) where
  pub dealt-long : (ls : List LoopShape) (known new : List Pair) → length known ≡ length ls → length (dealt all p ls known new) ≡ length ls
  dealt-long [] [] new e = refl
  dealt-long [] (k ∷ known) new e = refl
  dealt-long (l ∷ ls) [] new e = absurd (omega (arith, e))
  dealt-long (l ∷ ls) (k ∷ known) [] e = ap suc (dealt-long ls known [] (omega (arith, e)))
  dealt-long (l ∷ ls) (k ∷ known) (n ∷ new) e = by_test (in_span p l.header && has_moves all l.header) (dealt-long ls known new (omega (arith, e))) (dealt-long ls known (n ∷ new) (omega (arith, e)))
    where
      by_test : (t : Bool) → length (dealt all p ls known new) ≡ length ls → length (dealt all p ls known (n ∷ new)) ≡ length ls → length (cond t (n ∷ dealt all p ls known new) (k ∷ dealt all p ls known (n ∷ new))) ≡ suc (length ls)
      by_test true a b = ap suc a
      by_test false a b = ap suc b

  -- a loop that takes none
  kept : (l : LoopShape) (ls : List LoopShape) (k : Pair) (known new : List Pair) → (in_span p l.header && has_moves all l.header) ≡ false → dealt all p (l ∷ ls) (k ∷ known) new ≡ k ∷ dealt all p ls known new
  kept l ls k known [] e = refl
  kept l ls k known (n ∷ new) e = ap (λ (t : Bool). cond t (n ∷ dealt all p ls known new) (k ∷ dealt all p ls known (n ∷ new))) e

  pub deal_skip : (ls : List LoopShape) (known new : List Pair) (n : ℕ) → length known ≡ length ls → ((k : ℕ) (d : LoopShape) → k < n → k < length ls → in_span p (get_or ls k d).header ≡ false) → take n known ++ dealt all p (drop n ls) (drop n known) new ≡ dealt all p ls known new
  deal_skip ls known new zero e h = refl
  deal_skip [] [] new (suc n) e h = refl
  deal_skip [] (k ∷ known) new (suc n) e h = absurd (omega (arith, e))
  deal_skip (l ∷ ls) [] new (suc n) e h = absurd (omega (arith, e))
  deal_skip (l ∷ ls) (k ∷ known) new (suc n) e h =
      ap (λ (xs : List Pair). k ∷ xs) (deal_skip ls known new n (omega (arith, e)) (λ j d lt l'. h (suc j) d (omega arith) (omega arith)))
      ∙ sym (kept l ls k known new (ap (λ (t : Bool). t && has_moves all l.header) (h 0 l (omega arith) (omega arith))))

  deal_none : (ls : List LoopShape) (known new : List Pair) → length known ≡ length ls → ((k : ℕ) (d : LoopShape) → k < length ls → in_span p (get_or ls k d).header ≡ false) → dealt all p ls known new ≡ known
  deal_none [] [] new e h = refl
  deal_none [] (k ∷ known) new e h = absurd (omega (arith, e))
  deal_none (l ∷ ls) [] new e h = absurd (omega (arith, e))
  deal_none (l ∷ ls) (k ∷ known) new e h =
      kept l ls k known new (ap (λ (t : Bool). t && has_moves all l.header) (h 0 l (omega arith)))
      ∙ ap (λ (xs : List Pair). k ∷ xs) (deal_none ls known new (omega (arith, e)) (λ j d lt. h (suc j) d (omega arith)))

  -- the loops below i have been dealt with, and so many multipliers are used
  pub record Deals (ls : List LoopShape) (known found pairs : List Pair) (i used : ℕ) : Type 0 where
    pub joined : take i pairs ++ dealt all p (drop i ls) (drop i known) (drop used found) ≡ dealt all p ls known found
    pub rest : drop i pairs ≡ drop i known
    pub long : length pairs ≡ length ls

  pub deals_start : (ls : List LoopShape) (known found : List Pair) (n : ℕ) → length known ≡ length ls → ((k : ℕ) (d : LoopShape) → k < n → k < length ls → in_span p (get_or ls k d).header ≡ false) → Deals ls known found known n 0
  deals_start ls known found n e h = record { joined = deal_skip ls known found n e h; rest = refl; long = e }

  -- the lists from a place on
  cut : {X : Type 0} (xs : List X) (i : ℕ) (d : X) → i < length xs → drop i xs ≡ get_or xs i d ∷ drop (i + 1) xs
  cut xs i d lt = drop-cons xs i d lt ∙ ap (λ j. get_or xs i d ∷ drop j xs) (next i)

  deal_taken : (ls : List LoopShape) (known found : List Pair) (i used : ℕ) (b : LoopShape) (d : Pair) → i < length ls → i < length known → used < length found → (in_span p (get_or ls i b).header && has_moves all (get_or ls i b).header) ≡ true →
      dealt all p (drop i ls) (drop i known) (drop used found) ≡ get_or found used d ∷ dealt all p (drop (i + 1) ls) (drop (i + 1) known) (drop (used + 1) found)
  deal_taken ls known found i used b d lt lt' few h =
      ap (λ (xs : List LoopShape). dealt all p xs (drop i known) (drop used found)) (cut ls i b lt)
      ∙ (ap (λ (xs : List Pair). dealt all p (get_or ls i b ∷ drop (i + 1) ls) xs (drop used found)) (cut known i d lt')
      ∙ (ap (λ (xs : List Pair). dealt all p (get_or ls i b ∷ drop (i + 1) ls) (get_or known i d ∷ drop (i + 1) known) xs) (cut found used d few)
      ∙ ap (λ (t : Bool). cond t (get_or found used d ∷ dealt all p (drop (i + 1) ls) (drop (i + 1) known) (drop (used + 1) found)) (get_or known i d ∷ dealt all p (drop (i + 1) ls) (drop (i + 1) known) (get_or found used d ∷ drop (used + 1) found))) h))

  deal_kept : (ls : List LoopShape) (known found : List Pair) (i used : ℕ) (b : LoopShape) (d : Pair) → i < length ls → i < length known → (in_span p (get_or ls i b).header && has_moves all (get_or ls i b).header) ≡ false →
      dealt all p (drop i ls) (drop i known) (drop used found) ≡ get_or known i d ∷ dealt all p (drop (i + 1) ls) (drop (i + 1) known) (drop used found)
  deal_kept ls known found i used b d lt lt' h =
      ap (λ (xs : List LoopShape). dealt all p xs (drop i known) (drop used found)) (cut ls i b lt)
      ∙ (ap (λ (xs : List Pair). dealt all p (get_or ls i b ∷ drop (i + 1) ls) xs (drop used found)) (cut known i d lt')
      ∙ kept (get_or ls i b) (drop (i + 1) ls) (get_or known i d) (drop (i + 1) known) (drop used found) h)

  deal_used : (ls : List LoopShape) (known found : List Pair) (i used : ℕ) (b : LoopShape) (d : Pair) → i < length ls → i < length known → length found ≤ used →
      dealt all p (drop i ls) (drop i known) (drop used found) ≡ get_or known i d ∷ dealt all p (drop (i + 1) ls) (drop (i + 1) known) (drop used found)
  deal_used ls known found i used b d lt lt' all_used =
      let e = drop_all used found all_used in
      ap (λ (xs : List LoopShape). dealt all p xs (drop i known) (drop used found)) (cut ls i b lt)
      ∙ (ap (λ (xs : List Pair). dealt all p (get_or ls i b ∷ drop (i + 1) ls) xs (drop used found)) (cut known i d lt')
      ∙ (ap (λ (xs : List Pair). dealt all p (get_or ls i b ∷ drop (i + 1) ls) (get_or known i d ∷ drop (i + 1) known) xs) e
      ∙ ap (λ (xs : List Pair). get_or known i d ∷ dealt all p (drop (i + 1) ls) (drop (i + 1) known) xs) (sym e)))

  module _ (ls : List LoopShape) (known found pairs : List Pair) (i used : ℕ) (b : LoopShape) (d : Pair) (long : length known ≡ length ls) (lt : i < length ls) (inside : in_span p (get_or ls i b).header ≡ true) (a : Deals ls known found pairs i used) where
    few : i < length known
    few = omega (arith, lt, long)

    of_pairs : i < length pairs
    of_pairs = let l = a.long in omega (arith, lt, l)

    both : (get_or pairs i d ∷ drop (i + 1) pairs) ≡ (get_or known i d ∷ drop (i + 1) known)
    both = sym (cut pairs i d of_pairs) ∙ (a.rest ∙ cut known i d few)

    taken : (pairs' : List Pair) (used' : ℕ) → used < length found → has_moves all (get_or ls i b).header ≡ true → pairs' ≡ set pairs i (get_or found used d) → used' ≡ used + 1 → Deals ls known found pairs' (i + 1) used'
    taken pairs' used' room has ep eu = record {
      joined =
          ap (λ (xs : List Pair). take (i + 1) xs ++ dealt all p (drop (i + 1) ls) (drop (i + 1) known) (drop used' found)) ep
          ∙ (ap (λ u. take (i + 1) (set pairs i (get_or found used d)) ++ dealt all p (drop (i + 1) ls) (drop (i + 1) known) (drop u found)) eu
          ∙ (ap (λ (xs : List Pair). xs ++ dealt all p (drop (i + 1) ls) (drop (i + 1) known) (drop (used + 1) found)) (take_more_set pairs i (get_or found used d) of_pairs)
          ∙ (append_assoc (take i pairs) (get_or found used d ∷ []) (dealt all p (drop (i + 1) ls) (drop (i + 1) known) (drop (used + 1) found))
          ∙ (ap (λ (xs : List Pair). take i pairs ++ xs) (sym (deal_taken ls known found i used b d lt few room (ap (λ (t : Bool). t && has_moves all (get_or ls i b).header) inside ∙ has))) ∙ a.joined))));
      rest = ap (drop (i + 1)) ep ∙ (drop-set-lt (i + 1) pairs i (get_or found used d) (omega arith) ∙ ap (drop 1) both);
      long = ap length ep ∙ (length-set pairs i (get_or found used d) ∙ a.long);
    }

    left : (pairs' : List Pair) (used' : ℕ) → dealt all p (drop i ls) (drop i known) (drop used found) ≡ get_or known i d ∷ dealt all p (drop (i + 1) ls) (drop (i + 1) known) (drop used found) → pairs' ≡ pairs → used' ≡ used → Deals ls known found pairs' (i + 1) used'
    left pairs' used' same ep eu = record {
      joined =
          ap (λ (xs : List Pair). take (i + 1) xs ++ dealt all p (drop (i + 1) ls) (drop (i + 1) known) (drop used' found)) ep
          ∙ (ap (λ u. take (i + 1) pairs ++ dealt all p (drop (i + 1) ls) (drop (i + 1) known) (drop u found)) eu
          ∙ (ap (λ (xs : List Pair). xs ++ dealt all p (drop (i + 1) ls) (drop (i + 1) known) (drop used found)) (take_more pairs i d of_pairs)
          ∙ (append_assoc (take i pairs) (get_or pairs i d ∷ []) (dealt all p (drop (i + 1) ls) (drop (i + 1) known) (drop used found))
          ∙ (ap (λ (x : Pair). take i pairs ++ x ∷ dealt all p (drop (i + 1) ls) (drop (i + 1) known) (drop used found)) (ap (λ (xs : List Pair). get_or xs 0 d) both)
          ∙ (ap (λ (xs : List Pair). take i pairs ++ xs) (sym same) ∙ a.joined)))));
      rest = ap (drop (i + 1)) ep ∙ ap (drop 1) both;
      long = ap length ep ∙ a.long;
    }

    pub deals_next : (pairs' : List Pair) (used' : ℕ) → pairs' ≡ (if takes all used found (get_or ls i b) then set pairs i (get_or found used d) else pairs) → used' ≡ (if takes all used found (get_or ls i b) then used + 1 else used) → Deals ls known found pairs' (i + 1) used'
    deals_next pairs' used' ep eu = by_test (nat_lt used (length found)) refl (has_moves all (get_or ls i b).header) refl ep eu
      where
        by_test : (s : Bool) → nat_lt used (length found) ≡ s → (u : Bool) → has_moves all (get_or ls i b).header ≡ u → pairs' ≡ (if s && u then set pairs i (get_or found used d) else pairs) → used' ≡ (if s && u then used + 1 else used) → Deals ls known found pairs' (i + 1) used'
        by_test true e true f ep eu = taken pairs' used' (room e) f ep eu
          where
            room : nat_lt used (length found) ≡ true → used < length found
            room e = grind (arith, nat_tests)
        by_test true e false f ep eu = left pairs' used' (deal_kept ls known found i used b d lt few (ap (λ (t : Bool). t && has_moves all (get_or ls i b).header) inside ∙ f)) ep eu
        by_test false e u f ep eu = left pairs' used' (deal_used ls known found i used b d lt few (none e)) ep eu
          where
            none : nat_lt used (length found) ≡ false → length found ≤ used
            none e = grind (arith, nat_tests)

  pub deals_end : (ls : List LoopShape) (known found pairs : List Pair) (i used : ℕ) → length known ≡ length ls → ((k : ℕ) (d : LoopShape) → i ≤ k → k < length ls → in_span p (get_or ls k d).header ≡ false) → Deals ls known found pairs i used → pairs ≡ dealt all p ls known found
  deals_end ls known found pairs i used e h a =
      let l = length-drop i ls in
      let m = length-drop i known in
      sym (take-append-drop i pairs)
      ∙ (ap (λ (xs : List Pair). take i pairs ++ xs) (a.rest ∙ sym (deal_none (drop i ls) (drop i known) (drop used found) (omega (arith, l, m, e)) (λ k d lt. ap (λ (x : LoopShape). in_span p x.header) (get_or-drop i ls k d) ∙ h (i + k) d (omega arith) (omega (arith, lt, l)))))
      ∙ a.joined)
