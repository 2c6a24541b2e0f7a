-- Passes over amounts that agree where steps begin.
use Rattle.std.proofs.Common.{◌≡◌, ℕ, zero, suc, ◌+◌, ◌≤◌, ◌<◌, arith, refl, sym, ap, ◌∙◌, List, [], ◌∷◌, ◌++◌, length, take, drop, inl, inr, Bool, true, false, cond}
use Rattle.std.specs.Prelude.{◌==◌}
use Rattle.std.proofs.Math.ListN.{replicate}
use Rattle.std.specs.Prelude.{slice_set}
use Rattle.std.proofs.lemmas.Bool.Decides.{eqb_tells}
use Rattle.loop_walks.specs.declared.step.Step.{Step}
use Rattle.loop_walks.specs.Rows.{Each}
use Rattle.loop_flows.specs.Passes.{amount_at, made, handed, spread, departed}
use Rattle.loop_flows.specs.Flows.{Turning, together, turns_of, turn_counts, only_at, counts_of, backs_of}
use Rattle.loop_flows.proofs.SpreadLemmas.{handed-long, handed_from, handed_to, handed_other}
use Rattle.loop_flow_counts.specs.declared.back.Back.{Back}
use Rattle.loop_flow_counts.specs.Wraps.{wrapped, all_wrapped, SameCounts, AgreeIn}
use Rattle.loop_flow_counts.specs.Made.{backs_by}
use Rattle.loop_flow_counts.proofs.WrapLemmas.{sum_same, product_same, at_same, set_same, cons_same, together_same, wrapped_same}

-- a chosen step begins between two places, and goes on to a later one
abbrev pub BeginsIn : (Step → Bool) → ℕ → ℕ → ℕ → Step → Type 0
BeginsIn chosen from to long m = chosen m ≡ true → (from ≤ m.at) × (m.at < to) × (m.at < m.on) × (m.on < long)

hand_agrees : (t : Bool) (from to : ℕ) (us vs : List ℕ) (m : Step) → length us ≡ length vs → (t ≡ true → (from ≤ m.at) × (m.at < to) × (m.at < m.on) × (m.on < length us)) → AgreeIn from to us vs → AgreeIn from to (handed t us m) (handed t vs m)
hand_agrees false from to us vs m long b h a ge lt = h a ge lt
hand_agrees true from to us vs m long b h a ge lt = elim (eqb_tells a m.on) [
  | inl e ↦ at_on e.1
  | inr d ↦ elim (eqb_tells a m.at) [
    | inl e ↦ ap wrapped (at_from us (omega (arith, at_on_lt, on_long)) a e.1 ∙ sym (at_from vs (omega (arith, at_on_lt, on_long, long)) a e.1))
    | inr f ↦ ap wrapped (handed_other us m a f.1 d.1) ∙ (h a ge lt ∙ sym (ap wrapped (handed_other vs m a f.1 d.1)))
  ]
]
  where
    at_on_lt : m.at < m.on
    at_on_lt = (b refl).2

    on_long : m.on < length us
    on_long = (b refl).3

    at_from : (ws : List ℕ) → m.at < length ws → (a : ℕ) → a ≡ m.at → amount_at (handed true ws m) a ≡ 0
    at_from ws l a e = ap (λ x. amount_at (handed true ws m) x) e ∙ handed_from ws m at_on_lt l

    at_on : a ≡ m.on → wrapped (amount_at (handed true us m) a) ≡ wrapped (amount_at (handed true vs m) a)
    at_on e =
        let f = b refl in let f0 = f.0 in let f1 = f.2 in
        let x = ap (λ y. amount_at (handed true us m) y) e ∙ handed_to us m on_long in
        let z = ap (λ y. amount_at (handed true vs m) y) e ∙ handed_to vs m (omega (arith, on_long, long)) in
        ap wrapped x ∙ (sum_same (amount_at us m.on) (amount_at vs m.on) (amount_at us m.at) (amount_at vs m.at) (h m.on (omega (arith, f0, f1)) (omega (arith, e, lt))) (h m.at f0 f.1) ∙ sym (ap wrapped z))

made_agrees : (t : Bool) (from to : ℕ) (us vs : List ℕ) (m : Step) → (t ≡ true → (from ≤ m.at) × (m.at < to)) → AgreeIn from to us vs → wrapped (made t us m) ≡ wrapped (made t vs m)
made_agrees false from to us vs m b h = refl
made_agrees true from to us vs m b h = let f = b refl in h m.at f.0 f.1

pub spread_agrees : (chosen : Step → Bool) (from to : ℕ) (us vs : List ℕ) (ms : List Step) → length us ≡ length vs → Each (BeginsIn chosen from to (length us)) ms → AgreeIn from to us vs → SameCounts (spread chosen us ms) (spread chosen vs ms)
spread_agrees chosen from to us vs [] long b h = refl
spread_agrees chosen from to us vs (m ∷ ms) long b h =
    let l = handed-long (chosen m) us m in
    let k = handed-long (chosen m) vs m in
    cons_same (made (chosen m) us m) (made (chosen m) vs m) (spread chosen (handed (chosen m) us m) ms) (spread chosen (handed (chosen m) vs m) ms)
    (made_agrees (chosen m) from to us vs m (λ c. let x = b.0 c in (x.0, x.1)) h)
    (spread_agrees chosen from to (handed (chosen m) us m) (handed (chosen m) vs m) ms (omega (arith, l, k, long)) (begins ms b.1) (hand_agrees (chosen m) from to us vs m long b.0 h))
  where
    begins : (ks : List Step) → Each (BeginsIn chosen from to (length us)) ks → Each (BeginsIn chosen from to (length (handed (chosen m) us m))) ks
    begins [] h = tt
    begins (k ∷ ks) h = ((λ c. let x = h.0 c in let y = x.3 in let l = handed-long (chosen m) us m in (x.0, x.1, x.2, omega (arith, y, l))), begins ks h.1)

-- amounts that are the same are handed on the same

pub handed_same : (t : Bool) (us vs : List ℕ) (m : Step) → SameCounts us vs → SameCounts (handed t us m) (handed t vs m)
handed_same false us vs m e = e
handed_same true us vs m e = set_same (slice_set us m.at 0) (slice_set vs m.at 0) m.on (amount_at us m.on + amount_at us m.at) (amount_at vs m.on + amount_at vs m.at) (set_same us vs m.at 0 0 e refl)
    (sum_same (amount_at us m.on) (amount_at vs m.on) (amount_at us m.at) (amount_at vs m.at) (at_same us vs m.on e) (at_same us vs m.at e))

made_same : (t : Bool) (us vs : List ℕ) (m : Step) → SameCounts us vs → wrapped (made t us m) ≡ wrapped (made t vs m)
made_same false us vs m e = refl
made_same true us vs m e = at_same us vs m.at e

pub spread_same : (chosen : Step → Bool) (us vs : List ℕ) (ms : List Step) → SameCounts us vs → SameCounts (spread chosen us ms) (spread chosen vs ms)
spread_same chosen us vs [] e = refl
spread_same chosen us vs (m ∷ ms) e = cons_same (made (chosen m) us m) (made (chosen m) vs m) (spread chosen (handed (chosen m) us m) ms) (spread chosen (handed (chosen m) vs m) ms) (made_same (chosen m) us vs m e) (spread_same chosen (handed (chosen m) us m) (handed (chosen m) vs m) ms (handed_same (chosen m) us vs m e))

-- so are the turns of loops

departed_wrapped : (ms : List Step) (us : List ℕ) (a : ℕ) → wrapped (departed ms us a) ≡ wrapped (departed ms (all_wrapped us) a)
departed_wrapped [] us a = refl
departed_wrapped (m ∷ ms) [] a = refl
departed_wrapped (m ∷ ms) (u ∷ us) a = sum_same (cond (m.at == a) u 0) (cond (m.at == a) (wrapped u) 0) (departed ms us a) (departed ms (all_wrapped us) a) (by_test (m.at == a)) (departed_wrapped ms us a)
  where
    by_test : (t : Bool) → wrapped (cond t u 0) ≡ wrapped (cond t (wrapped u) 0)
    by_test true = ap (λ ws. amount_at ws 0) (sym (wrapped_same (u ∷ [])))
    by_test false = refl

pub departed_same : (ms : List Step) (us vs : List ℕ) (a : ℕ) → SameCounts us vs → wrapped (departed ms us a) ≡ wrapped (departed ms vs a)
departed_same ms us vs a e = departed_wrapped ms us a ∙ (ap (λ ws. wrapped (departed ms ws a)) e ∙ sym (departed_wrapped ms vs a))

pub turns_same : (ms : List Step) (us vs : List ℕ) (t : Turning) → SameCounts us vs → wrapped (turns_of ms us t) ≡ wrapped (turns_of ms vs t)
turns_same ms us vs t e = product_same t.further (departed ms us t.header) (departed ms vs t.header) (departed_same ms us vs t.header e)

turned_same : (n : ℕ) (ms : List Step) (us vs : List ℕ) (t : Turning) → SameCounts us vs → SameCounts (together us (turn_counts n ms us t)) (together vs (turn_counts n ms vs t))
turned_same n ms us vs t e = together_same us vs (turn_counts n ms us t) (turn_counts n ms vs t) e
    (spread_same t.chosen (only_at n t.header (turns_of ms us t)) (only_at n t.header (turns_of ms vs t)) ms (set_same (replicate (n + 1) 0) (replicate (n + 1) 0) t.header (turns_of ms us t) (turns_of ms vs t) refl (turns_same ms us vs t e)))

pub counts_same : (n : ℕ) (ms : List Step) (us vs : List ℕ) (ts : List Turning) → SameCounts us vs → SameCounts (counts_of n ms us ts) (counts_of n ms vs ts)
counts_same n ms us vs [] e = e
counts_same n ms us vs (t ∷ ts) e = counts_same n ms (together us (turn_counts n ms us t)) (together vs (turn_counts n ms vs t)) ts (turned_same n ms us vs t e)

pub backs_same : (n : ℕ) (ms : List Step) (us vs : List ℕ) (ts : List Turning) → SameCounts us vs → backs_by ts (backs_of n ms us ts) ≡ backs_by ts (backs_of n ms vs ts)
backs_same n ms us vs [] e = refl
backs_same n ms us vs (t ∷ ts) e =
    ap (λ (x : ℕ). back_of x ∷ backs_by ts (backs_of n ms (together us (turn_counts n ms us t)) ts)) (turns_same ms us vs t e)
    ∙ ap (λ bs. back_of (wrapped (turns_of ms vs t)) ∷ bs) (backs_same n ms (together us (turn_counts n ms us t)) (together vs (turn_counts n ms vs t)) ts (turned_same n ms us vs t e))
  where
    back_of : ℕ → Back
    back_of x = record { place = t.back; count = x }

-- turnings one after the other

pub counts_append : (n : ℕ) (ms : List Step) (us : List ℕ) (xs ys : List Turning) → counts_of n ms us (xs ++ ys) ≡ counts_of n ms (counts_of n ms us xs) ys
counts_append n ms us [] ys = refl
counts_append n ms us (x ∷ xs) ys = counts_append n ms (together us (turn_counts n ms us x)) xs ys

pub backs_append : (n : ℕ) (ms : List Step) (us : List ℕ) (xs ys : List Turning) → backs_by (xs ++ ys) (backs_of n ms us (xs ++ ys)) ≡ backs_by xs (backs_of n ms us xs) ++ backs_by ys (backs_of n ms (counts_of n ms us xs) ys)
backs_append n ms us [] ys = refl
backs_append n ms us (x ∷ xs) ys = ap (λ (bs : List Back). record { place = x.back; count = wrapped (turns_of ms us x) } ∷ bs) (backs_append n ms (together us (turn_counts n ms us x)) xs ys)

-- ---- steps that aren't chosen

abbrev pub NotChosen : (Step → Bool) → Step → Type 0
NotChosen chosen m = chosen m ≡ false

-- a pass over steps of which the first k aren't chosen
pub skipped : (chosen : Step → Bool) (us counts : List ℕ) (ms : List Step) (k : ℕ) → length counts ≡ length ms → Each (NotChosen chosen) (take k ms) → take k counts ++ together (drop k counts) (spread chosen us (drop k ms)) ≡ together counts (spread chosen us ms)
skipped chosen us counts ms zero long h = refl
skipped chosen us [] [] (suc k) long h = refl
skipped chosen us [] (m ∷ ms) (suc k) long h = absurd (omega (arith, long))
skipped chosen us (c ∷ counts) [] (suc k) long h = absurd (omega (arith, long))
skipped chosen us (c ∷ counts) (m ∷ ms) (suc k) long h =
    let z : c ≡ c + 0 = omega arith in
    ap (λ xs. c ∷ xs) (skipped chosen us counts ms k (omega (arith, long)) h.1) ∙ (ap (λ x. x ∷ together counts (spread chosen us ms)) z ∙ sym (ap (λ (t : Bool). (c + made t us m) ∷ together counts (spread chosen (handed t us m) ms)) h.0))

-- and over steps of which none is chosen
pub none_made : (chosen : Step → Bool) (us counts : List ℕ) (ms : List Step) → length counts ≡ length ms → Each (NotChosen chosen) ms → together counts (spread chosen us ms) ≡ counts
none_made chosen us [] [] long h = refl
none_made chosen us [] (m ∷ ms) long h = absurd (omega (arith, long))
none_made chosen us (c ∷ counts) [] long h = absurd (omega (arith, long))
none_made chosen us (c ∷ counts) (m ∷ ms) long h =
    let z : c + 0 ≡ c = omega arith in
    ap (λ (t : Bool). (c + made t us m) ∷ together counts (spread chosen (handed t us m) ms)) h.0 ∙ (ap (λ x. x ∷ together counts (spread chosen us ms)) z ∙ ap (λ xs. c ∷ xs) (none_made chosen us counts ms (omega (arith, long)) h.1))

-- one more count is added
pub put_same : (counts : List ℕ) (k x y : ℕ) (rest rest' : List ℕ) → k < length counts → wrapped x ≡ wrapped (amount_at counts k + y) → SameCounts rest' rest →
    SameCounts (take (suc k) (slice_set counts k x) ++ together (drop (suc k) (slice_set counts k x)) rest') (take k counts ++ together (drop k counts) (y ∷ rest))
put_same [] k x y rest rest' h e f = absurd (omega arith)
put_same (c ∷ counts) zero x y rest rest' h e f = cons_same x (c + y) (together counts rest') (together counts rest) e (together_same counts counts rest' rest refl f)
put_same (c ∷ counts) (suc k) x y rest rest' h e f = ap (λ ws. wrapped c ∷ ws) (put_same counts k x y rest rest' (omega (arith, h)) e f)
