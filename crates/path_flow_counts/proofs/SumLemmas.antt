-- What a function adds to the flow of a system: counts that are the same add the same, and only the moves of its places take any.
use Rattle.std.proofs.Common.{◌≡◌, ℕ, zero, suc, ◌+◌, ◌≤◌, ◌<◌, arith, refl, sym, ap, ◌∙◌, subst, List, [], ◌∷◌, ◌++◌, length, take, drop, get_or, inl, inr, Option, Some, None, Bool, true, false, cond}
use Rattle.std.specs.Prelude.{◌&&◌, nat_lt, slice_set}
use Rattle.std.proofs.Math.Seq.{drop-cons}
use Rattle.std.proofs.Math.ListN.{length-set}
use Rattle.std.proofs.lemmas.Bool.Decides.{eqb_tells, nat_tests}
use Rattle.std.proofs.lemmas.List.{drop_all, take-append-drop}
use Rattle.code_flow_system.specs.declared.moves.Move.{Move}
use Rattle.code_flow_system.specs.declared.shapes.LoopShape.{LoopShape}
use Rattle.code_flow_system.specs.declared.shapes.Span.{Span}
use Rattle.code_flow_system.specs.Claims.{Claims}
use Rattle.loop_flows.specs.Passes.{amount_at}
use Rattle.loop_flows.specs.Flows.{Turning}
use Rattle.loop_flows.proofs.SpreadLemmas.{set_at, set_other}
use Rattle.loop_flow_counts.specs.declared.back.Back.{Back}
use Rattle.loop_flow_counts.specs.Wraps.{wrapped, all_wrapped, SameCounts}
use Rattle.loop_flow_counts.specs.Made.{backs_by}
use Rattle.loop_flow_counts.proofs.WrapLemmas.{sum_same, at_same, set_same, cons_same, append_same, twice}
use Rattle.path_places.specs.Reached.{in_span}
use Rattle.path_places.specs.Places.{place_of, is_walked}
use Rattle.path_walks.specs.Opens.{is_open}
use Rattle.path_flows.specs.Flows.{counted, turned_back, call_starts, called}
use Rattle.path_flow_counts.specs.Sums.{backed, HasCounted}

next : (i : ℕ) → suc i ≡ i + 1
next i = omega arith

-- ---- jumps back

pub backed_turned : (ts : List Turning) (bs us us' : List ℕ) → SameCounts us us' → SameCounts (backed (backs_by ts bs) us) (turned_back us' ts bs)
backed_turned [] bs us us' e = e
backed_turned (t ∷ ts) [] us us' e = e
backed_turned (t ∷ ts) (b ∷ bs) us us' e = backed_turned ts bs (slice_set us t.back (wrapped (amount_at us t.back + wrapped b))) (slice_set us' t.back (amount_at us' t.back + b))
    (set_same us us' t.back (wrapped (amount_at us t.back + wrapped b)) (amount_at us' t.back + b) e (twice (amount_at us t.back + wrapped b) ∙ sum_same (amount_at us t.back) (amount_at us' t.back) (wrapped b) b (at_same us us' t.back e) (twice b)))

-- ---- moves and calls

pub call_starts_same : (all : List Move) (to behind : Option ℕ) (c c' : ℕ) (us us' : List ℕ) → wrapped c ≡ wrapped c' → SameCounts us us' → SameCounts (call_starts all to behind c us) (call_starts all to behind c' us')
call_starts_same all None behind c c' us us' e f = f
call_starts_same all (Some to) None c c' us us' e f = f
call_starts_same all (Some to) (Some behind) c c' us us' e f = set_same us us' (place_of all to) (amount_at us (place_of all to) + c) (amount_at us' (place_of all to) + c') f (sum_same (amount_at us (place_of all to)) (amount_at us' (place_of all to)) c c' (at_same us us' (place_of all to) f) e)

-- what a call adds is written modulo 2^128
pub call_added : (us us' : List ℕ) (a c : ℕ) → us' ≡ slice_set us a (wrapped (amount_at us a + c)) → SameCounts us' (slice_set us a (amount_at us a + c))
call_added us us' a c e = ap all_wrapped e ∙ set_same us us a (wrapped (amount_at us a + c)) (amount_at us a + c) refl (twice (amount_at us a + c))

pub call_by : (all : List Move) (to behind : Option ℕ) (t b c : ℕ) (us us' : List ℕ) → to ≡ Some t → behind ≡ Some b → us' ≡ slice_set us (place_of all t) (wrapped (amount_at us (place_of all t) + c)) → SameCounts us' (call_starts all to behind c us)
call_by all to behind t b c us us' e f h = call_added us us' (place_of all t) c h ∙ sym (ap (λ o. all_wrapped (call_starts all o behind c us)) e ∙ ap (λ o. all_wrapped (call_starts all (Some t) o c us)) f)

module _ (walked : ℕ → Bool) where
  counted_wrapped : (ms : List Move) (us cs : List ℕ) → SameCounts (counted walked ms us cs) (counted walked ms (all_wrapped us) (all_wrapped cs))
  counted_wrapped [] us cs = refl
  counted_wrapped (m ∷ ms) [] cs = refl
  counted_wrapped (m ∷ ms) (u ∷ us) [] = cons_same u (wrapped u) (counted walked ms us []) (counted walked ms (all_wrapped us) []) (sym (twice u)) (counted_wrapped ms us [])
  counted_wrapped (m ∷ ms) (u ∷ us) (c ∷ cs) = by_test (walked m.at) (counted_wrapped ms us cs) (counted_wrapped ms us (c ∷ cs))
    where
      by_test : (t : Bool) → SameCounts (counted walked ms us cs) (counted walked ms (all_wrapped us) (all_wrapped cs)) → SameCounts (counted walked ms us (c ∷ cs)) (counted walked ms (all_wrapped us) (wrapped c ∷ all_wrapped cs)) →
          SameCounts (cond t ((u + c) ∷ counted walked ms us cs) (u ∷ counted walked ms us (c ∷ cs))) (cond t ((wrapped u + wrapped c) ∷ counted walked ms (all_wrapped us) (all_wrapped cs)) (wrapped u ∷ counted walked ms (all_wrapped us) (wrapped c ∷ all_wrapped cs)))
      by_test true r k = cons_same (u + c) (wrapped u + wrapped c) (counted walked ms us cs) (counted walked ms (all_wrapped us) (all_wrapped cs)) (sum_same u (wrapped u) c (wrapped c) (sym (twice u)) (sym (twice c))) r
      by_test false r k = cons_same u (wrapped u) (counted walked ms us (c ∷ cs)) (counted walked ms (all_wrapped us) (wrapped c ∷ all_wrapped cs)) (sym (twice u)) k

  pub counted_same : (ms : List Move) (us us' cs cs' : List ℕ) → SameCounts us us' → SameCounts cs cs' → SameCounts (counted walked ms us cs) (counted walked ms us' cs')
  counted_same ms us us' cs cs' e f = counted_wrapped ms us cs ∙ (ap (λ x. all_wrapped (counted walked ms x (all_wrapped cs))) e ∙ (ap (λ x. all_wrapped (counted walked ms (all_wrapped us') x)) f ∙ sym (counted_wrapped ms us' cs')))

  counted_not : (m : Move) (ms : List Move) (u : ℕ) (us cs : List ℕ) → walked m.at ≡ false → counted walked (m ∷ ms) (u ∷ us) cs ≡ u ∷ counted walked ms us cs
  counted_not m ms u us [] h = refl
  counted_not m ms u us (c ∷ cs) h = ap (λ (t : Bool). cond t ((u + c) ∷ counted walked ms us cs) (u ∷ counted walked ms us (c ∷ cs))) h

  -- moves that are not walked

  counted_skip : (ms : List Move) (us cs : List ℕ) (n : ℕ) → length us ≡ length ms → ((k : ℕ) (d : Move) → k < n → k < length ms → walked (get_or ms k d).at ≡ false) → take n us ++ counted walked (drop n ms) (drop n us) cs ≡ counted walked ms us cs
  counted_skip ms us cs zero long h = refl
  counted_skip [] [] cs (suc n) long h = refl
  counted_skip [] (u ∷ us) cs (suc n) long h = absurd (omega (arith, long))
  counted_skip (m ∷ ms) [] cs (suc n) long h = absurd (omega (arith, long))
  counted_skip (m ∷ ms) (u ∷ us) cs (suc n) long h =
      ap (λ xs. u ∷ xs) (counted_skip ms us cs n (omega (arith, long)) (λ k d lt l. h (suc k) d (omega arith) (omega arith))) ∙ sym (counted_not m ms u us cs (h 0 m (omega arith) (omega arith)))

  counted_rest : (ms : List Move) (us cs : List ℕ) (n : ℕ) → length us ≡ length ms → ((k : ℕ) (d : Move) → n ≤ k → k < length ms → walked (get_or ms k d).at ≡ false) → counted walked (drop n ms) (drop n us) cs ≡ drop n us
  counted_rest [] [] cs zero long h = refl
  counted_rest [] [] cs (suc n) long h = refl
  counted_rest [] (u ∷ us) cs n long h = absurd (omega (arith, long))
  counted_rest (m ∷ ms) [] cs n long h = absurd (omega (arith, long))
  counted_rest (m ∷ ms) (u ∷ us) cs zero long h =
      counted_not m ms u us cs (h 0 m (omega arith) (omega arith)) ∙ ap (λ xs. u ∷ xs) (counted_rest ms us cs zero (omega (arith, long)) (λ k d le l. h (suc k) d (omega arith) (omega arith)))
  counted_rest (m ∷ ms) (u ∷ us) cs (suc n) long h = counted_rest ms us cs n (omega (arith, long)) (λ k d le l. h (suc k) d (omega arith) (omega arith))

  module _ (all : List Move) where
    called_wrapped : (ms : List Move) (cs us us' : List ℕ) → SameCounts us us' → SameCounts (called all walked ms cs us) (called all walked ms (all_wrapped cs) us')
    called_wrapped [] cs us us' e = e
    called_wrapped (m ∷ ms) [] us us' e = e
    called_wrapped (m ∷ ms) (c ∷ cs) us us' e = by_test (walked m.at)
        (called_wrapped ms cs (call_starts all m.to m.behind c us) (call_starts all m.to m.behind (wrapped c) us') (call_starts_same all m.to m.behind c (wrapped c) us us' (sym (twice c)) e))
        (called_wrapped ms (c ∷ cs) us us' e)
      where
        by_test : (t : Bool) → SameCounts (called all walked ms cs (call_starts all m.to m.behind c us)) (called all walked ms (all_wrapped cs) (call_starts all m.to m.behind (wrapped c) us')) → SameCounts (called all walked ms (c ∷ cs) us) (called all walked ms (wrapped c ∷ all_wrapped cs) us') →
            SameCounts (cond t (called all walked ms cs (call_starts all m.to m.behind c us)) (called all walked ms (c ∷ cs) us)) (cond t (called all walked ms (all_wrapped cs) (call_starts all m.to m.behind (wrapped c) us')) (called all walked ms (wrapped c ∷ all_wrapped cs) us'))
        by_test true r k = r
        by_test false r k = k

    pub called_same : (ms : List Move) (cs cs' us us' : List ℕ) → SameCounts cs cs' → SameCounts us us' → SameCounts (called all walked ms cs us) (called all walked ms cs' us')
    called_same ms cs cs' us us' e f = called_wrapped ms cs us us refl ∙ (ap (λ x. all_wrapped (called all walked ms x us)) e ∙ sym (called_wrapped ms cs' us' us (sym f)))

    called_nil : (ms : List Move) (us : List ℕ) → called all walked ms [] us ≡ us
    called_nil [] us = refl
    called_nil (m ∷ ms) us = refl

    called_not : (m : Move) (ms : List Move) (cs us : List ℕ) → walked m.at ≡ false → called all walked (m ∷ ms) cs us ≡ called all walked ms cs us
    called_not m ms [] us h = sym (called_nil ms us)
    called_not m ms (c ∷ cs) us h = ap (λ (t : Bool). cond t (called all walked ms cs (call_starts all m.to m.behind c us)) (called all walked ms (c ∷ cs) us)) h

    called_skip : (ms : List Move) (cs us : List ℕ) (n : ℕ) → ((k : ℕ) (d : Move) → k < n → k < length ms → walked (get_or ms k d).at ≡ false) → called all walked (drop n ms) cs us ≡ called all walked ms cs us
    called_skip ms cs us zero h = refl
    called_skip [] cs us (suc n) h = refl
    called_skip (m ∷ ms) cs us (suc n) h = called_skip ms cs us n (λ k d lt l. h (suc k) d (omega arith) (omega arith)) ∙ sym (called_not m ms cs us (h 0 m (omega arith) (omega arith)))

    called_rest : (ms : List Move) (cs us : List ℕ) (n : ℕ) → ((k : ℕ) (d : Move) → n ≤ k → k < length ms → walked (get_or ms k d).at ≡ false) → called all walked (drop n ms) cs us ≡ us
    called_rest [] cs us zero h = refl
    called_rest [] cs us (suc n) h = refl
    called_rest (m ∷ ms) cs us zero h = called_not m ms cs us (h 0 m (omega arith) (omega arith)) ∙ called_rest ms cs us zero (λ k d le l. h (suc k) d (omega arith) (omega arith))
    called_rest (m ∷ ms) cs us (suc n) h = called_rest ms cs us n (λ k d le l. h (suc k) d (omega arith) (omega arith))

-- ---- counts that are added one after the other

keep_one : (us : List ℕ) (i : ℕ) (f : List ℕ → List ℕ) → i < length us → take (suc i) us ++ f (drop (suc i) us) ≡ take i us ++ get_or us i 0 ∷ f (drop (suc i) us)
keep_one [] i f lt = absurd (omega arith)
keep_one (u ∷ us) zero f lt = refl
keep_one (u ∷ us) (suc i) f lt = ap (λ xs. u ∷ xs) (keep_one us i f (omega (arith, lt)))

put_one : (us : List ℕ) (i x : ℕ) (f : List ℕ → List ℕ) → i < length us → take (suc i) (slice_set us i x) ++ f (drop (suc i) (slice_set us i x)) ≡ take i us ++ x ∷ f (drop (suc i) us)
put_one [] i x f lt = absurd (omega arith)
put_one (u ∷ us) zero x f lt = refl
put_one (u ∷ us) (suc i) x f lt = ap (λ xs. u ∷ xs) (put_one us i x f (omega (arith, lt)))

cut : {X : Type 0} (xs : List X) (i : ℕ) (d : X) → i < length xs → drop i xs ≡ get_or xs i d ∷ drop (suc i) xs
cut xs i d lt = drop-cons xs i d lt

-- the counts behind are still to be added, from the i-th move on
pub record Adds (all : List Move) (walked : ℕ → Bool) (counts was_amounts was_starts amounts starts : List ℕ) (used i : ℕ) : Type 0 where
  pub amounts_are : SameCounts (take i amounts ++ counted walked (drop i all) (drop i amounts) (drop used counts)) (counted walked all was_amounts counts)
  pub starts_are : SameCounts (called all walked (drop i all) (drop used counts) starts) (called all walked all counts was_starts)
  pub long : length amounts ≡ length all

module _ (all : List Move) (walked : ℕ → Bool) (counts was_amounts was_starts : List ℕ) where
  pub adds_start : (n : ℕ) → length was_amounts ≡ length all → ((k : ℕ) (d : Move) → k < n → k < length all → walked (get_or all k d).at ≡ false) → Adds all walked counts was_amounts was_starts was_amounts was_starts 0 n
  adds_start n long h = record {
    amounts_are = ap all_wrapped (counted_skip walked all was_amounts counts n long h);
    starts_are = ap all_wrapped (called_skip walked all all counts was_starts n h);
    long = long;
  }

  pub adds_end : (amounts starts : List ℕ) (used i : ℕ) → ((k : ℕ) (d : Move) → i ≤ k → k < length all → walked (get_or all k d).at ≡ false) → Adds all walked counts was_amounts was_starts amounts starts used i →
      SameCounts amounts (counted walked all was_amounts counts) × SameCounts starts (called all walked all counts was_starts)
  adds_end amounts starts used i h a = (
    sym (ap all_wrapped (ap (λ xs. take i amounts ++ xs) (counted_rest walked all amounts (drop used counts) i a.long h) ∙ take-append-drop i amounts)) ∙ a.amounts_are,
    sym (ap all_wrapped (called_rest walked all all (drop used counts) starts i h)) ∙ a.starts_are,
  )

  module _ (amounts starts : List ℕ) (used i : ℕ) (m : Move) (lt : i < length all) (is : m ≡ get_or all i m) (a : Adds all walked counts was_amounts was_starts amounts starts used i) where
    later : List Move
    later = drop (suc i) all

    cut_all : drop i all ≡ m ∷ drop (suc i) all
    cut_all = cut all i m lt ∙ ap (λ (x : Move). x ∷ drop (suc i) all) (sym is)

    at_end : i < length amounts
    at_end = let l = a.long in omega (arith, lt, l)

    cut_amounts : drop i amounts ≡ amount_at amounts i ∷ drop (suc i) amounts
    cut_amounts = cut amounts i 0 at_end

    -- the move takes no count
    kept : ((u : ℕ) (us : List ℕ) → counted walked (m ∷ drop (suc i) all) (u ∷ us) (drop used counts) ≡ u ∷ counted walked (drop (suc i) all) us (drop used counts)) → ((us : List ℕ) → called all walked (m ∷ drop (suc i) all) (drop used counts) us ≡ called all walked (drop (suc i) all) (drop used counts) us) →
        (starts' : List ℕ) → SameCounts starts' starts → Adds all walked counts was_amounts was_starts amounts starts' used (suc i)
    kept keeps calls starts' e = record {
      amounts_are =
          ap all_wrapped (keep_one amounts i (λ us. counted walked (drop (suc i) all) us (drop used counts)) at_end
          ∙ (sym (ap (λ xs. take i amounts ++ xs) (keeps (amount_at amounts i) (drop (suc i) amounts)))
          ∙ (sym (ap (λ us. take i amounts ++ counted walked (m ∷ drop (suc i) all) us (drop used counts)) cut_amounts)
          ∙ sym (ap (λ ms. take i amounts ++ counted walked ms (drop i amounts) (drop used counts)) cut_all)))) ∙ a.amounts_are;
      starts_are =
          called_same walked all (drop (suc i) all) (drop used counts) (drop used counts) starts' starts refl e
          ∙ (sym (ap all_wrapped (calls starts)) ∙ (sym (ap (λ ms. all_wrapped (called all walked ms (drop used counts) starts)) cut_all) ∙ a.starts_are));
      long = a.long;
    }

    -- it takes the next one
    took : used < length counts → walked m.at ≡ true → (amounts' starts' : List ℕ) → amounts' ≡ slice_set amounts i (wrapped (amount_at amounts i + get_or counts used 0)) → SameCounts starts' (call_starts all m.to m.behind (get_or counts used 0) starts) →
        Adds all walked counts was_amounts was_starts amounts' starts' (suc used) (suc i)
    took some walks amounts' starts' e f =
        let c = get_or counts used 0 in
        let u = amount_at amounts i in
        let rest = drop (suc used) counts in
        let us = drop (suc i) amounts in
        let cut_counts : drop used counts ≡ c ∷ rest = cut counts used 0 some in
        let counts_one : counted walked (m ∷ drop (suc i) all) (u ∷ us) (c ∷ rest) ≡ (u + c) ∷ counted walked (drop (suc i) all) us rest = ap (λ (t : Bool). cond t ((u + c) ∷ counted walked (drop (suc i) all) us rest) (u ∷ counted walked (drop (suc i) all) us (c ∷ rest))) walks in
        let calls_one : called all walked (m ∷ drop (suc i) all) (c ∷ rest) starts ≡ called all walked (drop (suc i) all) rest (call_starts all m.to m.behind c starts) = ap (λ (t : Bool). cond t (called all walked (drop (suc i) all) rest (call_starts all m.to m.behind c starts)) (called all walked (drop (suc i) all) (c ∷ rest) starts)) walks in
        record {
          amounts_are =
              ap (λ xs. all_wrapped (take (suc i) xs ++ counted walked (drop (suc i) all) (drop (suc i) xs) rest)) e
              ∙ (ap all_wrapped (put_one amounts i (wrapped (u + c)) (λ xs. counted walked (drop (suc i) all) xs rest) at_end)
              ∙ (append_same (take i amounts) (take i amounts) (wrapped (u + c) ∷ counted walked (drop (suc i) all) us rest) ((u + c) ∷ counted walked (drop (suc i) all) us rest) refl (cons_same (wrapped (u + c)) (u + c) (counted walked (drop (suc i) all) us rest) (counted walked (drop (suc i) all) us rest) (twice (u + c)) refl)
              ∙ (sym (ap (λ xs. all_wrapped (take i amounts ++ xs)) counts_one)
              ∙ (sym (ap (λ cs. all_wrapped (take i amounts ++ counted walked (m ∷ drop (suc i) all) (u ∷ us) cs)) cut_counts)
              ∙ (sym (ap (λ xs. all_wrapped (take i amounts ++ counted walked (m ∷ drop (suc i) all) xs (drop used counts))) cut_amounts)
              ∙ (sym (ap (λ ms. all_wrapped (take i amounts ++ counted walked ms (drop i amounts) (drop used counts))) cut_all) ∙ a.amounts_are))))));
          starts_are =
              called_same walked all (drop (suc i) all) rest rest starts' (call_starts all m.to m.behind c starts) refl f
              ∙ (sym (ap all_wrapped calls_one)
              ∙ (sym (ap (λ cs. all_wrapped (called all walked (m ∷ drop (suc i) all) cs starts)) cut_counts)
              ∙ (sym (ap (λ ms. all_wrapped (called all walked ms (drop used counts) starts)) cut_all) ∙ a.starts_are)));
          long = ap length e ∙ (length-set amounts i (wrapped (u + c)) ∙ a.long);
        }

    pub adds_next : (opens : Bool) → walked m.at ≡ opens → (used' : ℕ) (amounts' starts' : List ℕ) → HasCounted all (nat_lt used (length counts) && opens) m i (get_or counts used 0) used amounts starts used' amounts' starts' → Adds all walked counts was_amounts was_starts amounts' starts' used' (i + 1)
    adds_next opens walks used' amounts' starts' h = subst (Adds all walked counts was_amounts was_starts amounts' starts' used') (next i) (by_test (nat_lt used (length counts)) refl opens walks h)
      where
        is_lt : (x y : ℕ) → nat_lt x y ≡ true → x < y
        is_lt x y e = grind (arith, nat_tests)

        not_lt : (x y : ℕ) → nat_lt x y ≡ false → y ≤ x
        not_lt x y e = grind (arith, nat_tests)

        by_test : (t : Bool) → nat_lt used (length counts) ≡ t → (o : Bool) → walked m.at ≡ o → HasCounted all (t && o) m i (get_or counts used 0) used amounts starts used' amounts' starts' → Adds all walked counts was_amounts was_starts amounts' starts' used' (suc i)
        by_test true t true w k =
            let e : suc used ≡ used' = next used ∙ sym k.used_is in
            subst (λ x. Adds all walked counts was_amounts was_starts amounts' starts' x (suc i)) e (took (is_lt used (length counts) t) w amounts' starts' k.amounts_are k.starts_are)
        by_test true t false w k =
            subst (λ x. Adds all walked counts was_amounts was_starts amounts' starts' x (suc i)) (sym k.used_is)
            (subst (λ xs. Adds all walked counts was_amounts was_starts xs starts' used (suc i)) (sym k.amounts_are)
            (kept (λ u us. counted_not walked m (drop (suc i) all) u us (drop used counts) w) (λ us. called_not walked all m (drop (suc i) all) (drop used counts) us w) starts' k.starts_are))
        by_test false t o w k =
            let none : drop used counts ≡ [] = drop_all used counts (not_lt used (length counts) t) in
            subst (λ x. Adds all walked counts was_amounts was_starts amounts' starts' x (suc i)) (sym k.used_is)
            (subst (λ xs. Adds all walked counts was_amounts was_starts xs starts' used (suc i)) (sym k.amounts_are)
            (kept
            (λ u us. ap (λ cs. counted walked (m ∷ drop (suc i) all) (u ∷ us) cs) none ∙ sym (ap (λ cs. u ∷ counted walked (drop (suc i) all) us cs) none))
            (λ us. ap (λ cs. called all walked (m ∷ drop (suc i) all) cs us) none ∙ (sym (called_nil walked all (drop (suc i) all) us) ∙ sym (ap (λ cs. called all walked (drop (suc i) all) cs us) none)))
            starts' k.starts_are))

-- jumps back that are added one after the other
pub backs_next : (bs : List Back) (k : ℕ) (d : Back) (us us' whole : List ℕ) → k < length bs → backed (drop k bs) us ≡ whole → us' ≡ slice_set us (get_or bs k d).place (wrapped (amount_at us (get_or bs k d).place + (get_or bs k d).count)) → backed (drop (k + 1) bs) us' ≡ whole
backs_next bs k d us us' whole lt h e =
    ap (λ xs. backed (drop (k + 1) bs) xs) e ∙ (sym (ap (λ xs. backed xs us) (drop-cons bs k d lt ∙ ap (λ j. get_or bs k d ∷ drop j bs) (next k))) ∙ h)

pub backs_end : (bs : List Back) (k : ℕ) (us whole : List ℕ) → length bs ≤ k → backed (drop k bs) us ≡ whole → us ≡ whole
backs_end bs k us whole le h = sym (ap (λ xs. backed xs us) (drop_all k bs le)) ∙ h

-- counts of places that are copied
pub copy_next : (vs us us' : List ℕ) (from place : ℕ) → place < length us → ((a : ℕ) → from ≤ a → a < place → amount_at us a ≡ amount_at vs a) → us' ≡ slice_set us place (amount_at vs place) → (a : ℕ) → from ≤ a → a < place + 1 → amount_at us' a ≡ amount_at vs a
copy_next vs us us' from place lt h e a ge below = elim (eqb_tells a place) [
  | inl i ↦ ap (λ xs. amount_at xs a) e ∙ (ap (λ b. amount_at (slice_set us place (amount_at vs place)) b) i.1 ∙ (set_at us place (amount_at vs place) lt ∙ ap (λ b. amount_at vs b) (sym i.1)))
  | inr d ↦ let n = d.1 in ap (λ xs. amount_at xs a) e ∙ (set_other us place a (amount_at vs place) n ∙ h a ge (omega (arith, below, n)))
]

-- an address of the function is walked through if it is open
pub walked_inside : (p : Span) (c : Claims) (ls : List LoopShape) (a : ℕ) → in_span p a ≡ true → is_walked c ls p a ≡ is_open c ls a
walked_inside p c ls a h = ap (λ (t : Bool). t && is_open c ls a) h
