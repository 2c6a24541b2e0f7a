-- What a walk makes of the accesses of a register.
use Rattle.std.proofs.Common.{◌≡◌, ◌≢◌, ◌⊎◌, inl, inr, ℕ, zero, suc, ◌+◌, ◌-◌, ◌*◌, ◌<◌, ◌≤◌, Bool, true, false, not, cond, List, [], ◌∷◌, ◌++◌, length, get_or, Option, Some, Contains, refl, sym, ap, ◌∙◌, subst, arith, get_or-set_other, count_by, length-append, append_assoc}
use Rattle.std.specs.Prelude.{◌==◌, if◌then◌else◌, nat_lt, slice_get, slice_index_or, slice_set}
use Rattle.std.proofs.lemmas.Bool.{cases_eq, cases_lt, ltb-true, ltb-false}
use Rattle.std.proofs.lemmas.Bool.Decides.{eqb_tells}
use Rattle.std.proofs.lemmas.List.{append-nil, get_or-set_same, length-set}
use Rattle.std.proofs.lemmas.List.Elements.{Contains-append_left, Contains-push, Contains-push_cases}
use Rattle.std.proofs.lemmas.List.Sums.{sum_by-set}
use Rattle.std.proofs.lemmas.Option.{slice_get_within}
use Rattle.low_ir.specs.Code.{Block, Note}
use Rattle.low_ir.specs.Live.{place_of}
use Rattle.register_live_ranges.specs.declared.accesses.Access.{Access}
use Rattle.register_live_ranges.specs.declared.interval.Interval.{Interval}
use Rattle.register_live_ranges.specs.declared.walk.Latest.{Latest}
use Rattle.register_live_ranges.specs.Intervals.{LivesAt, widened}
use Rattle.register_live_ranges.specs.Walks.{Walk, all_taken, is_live, is_touched, latest_at, latest_in, lived, met, no_latest, no_register, noted, read, seen, taken, touched}
use Rattle.register_live_ranges.proofs.Hulls.{Covered, IsSound, covered_between, covered_here, covered_still, sound_more}
use Rattle.register_live_ranges.proofs.Passing.{There, differ, here_from, here_to, low_in, opens, other_from, other_to, same, touches}
use Rattle.register_live_ranges.proofs.Blocks.{Each, OutOf, Stands, all, lives}

pub yes_no : (x : Bool) → x ≡ true → x ≡ false → ⊥
yes_no x e f = let t : true ≡ false = sym e ∙ f in cc

either_way : (x : Bool) → (x ≡ true) ⊎ (x ≡ false)
either_way true = inl refl
either_way false = inr refl

-- nothing is written past the end of a list
set_past : (xs : List ℕ) (i x : ℕ) → length xs ≤ i → slice_set xs i x ≡ xs
set_past [] i x h = refl
set_past (y ∷ xs) zero x h = absurd (omega (arith, h))
set_past (y ∷ xs) (suc i) x h = ap (λ r. y ∷ r) (set_past xs i x (omega (arith, h)))

-- one access more behind others
module _ (b : ℕ) (a : Access) where
  low_push : (pre : List Access) (s : ℕ) → low_in b (pre ++ a ∷ []) s ≡ (if a.block == b then a.at else low_in b pre s)
  low_push [] s = refl
  low_push (x ∷ pre) s = low_push pre (if x.block == b then x.at else s)

  touches_push : (pre : List Access) → touches b (pre ++ a ∷ []) ≡ (if touches b pre then true else (if a.block == b then true else false))
  touches_push [] = refl
  touches_push (x ∷ pre) = by (x.block == b) (touches_push pre)
    where
      by : (t : Bool) → touches b (pre ++ a ∷ []) ≡ (if touches b pre then true else (if a.block == b then true else false))
          → (if t then true else touches b (pre ++ a ∷ [])) ≡ (if (if t then true else touches b pre) then true else (if a.block == b then true else false))
      by true h = refl
      by false h = h

  opens_push : (pre : List Access) → opens b (pre ++ a ∷ []) ≡ (if touches b pre then opens b pre else (if a.block == b then not a.writes else false))
  opens_push [] = refl
  opens_push (x ∷ pre) = by (x.block == b) (opens_push pre)
    where
      by : (t : Bool) → opens b (pre ++ a ∷ []) ≡ (if touches b pre then opens b pre else (if a.block == b then not a.writes else false))
          → (if t then not x.writes else opens b (pre ++ a ∷ [])) ≡ (if (if t then true else touches b pre) then (if t then not x.writes else opens b pre) else (if a.block == b then not a.writes else false))
      by true h = refl
      by false h = h

opens_untouched : (b : ℕ) (pre : List Access) → touches b pre ≡ false → opens b pre ≡ false
opens_untouched b [] t = refl
opens_untouched b (x ∷ pre) t = by (x.block == b) t (λ k. opens_untouched b pre k)
  where
    by : (c : Bool) → (if c then true else touches b pre) ≡ false → (touches b pre ≡ false → opens b pre ≡ false) → (if c then not x.writes else opens b pre) ≡ false
    by true k go = let e : true ≡ false = k in cc
    by false k go = go k

-- a write, a further access of its block, or one of another block opens nothing
opens_kept : (b : ℕ) (a : Access) (pre : List Access) → (a.writes ≡ true) ⊎ ((touches b pre ≡ true) ⊎ (a.block ≢ b)) → opens b (pre ++ a ∷ []) ≡ opens b pre
opens_kept b a pre why = opens_push b a pre ∙ by (either_way (touches b pre)) why
  where
    test : Bool
    test = a.block == b

    none : (t : Bool) (w : Bool) → (w ≡ true) ⊎ (t ≡ false) → (if t then not w else false) ≡ false
    none true true k = refl
    none true false (inl k) = let e : false ≡ true = k in cc
    none true false (inr k) = let e : true ≡ false = k in cc
    none false w k = refl

    reason : (a.writes ≡ true) ⊎ ((touches b pre ≡ true) ⊎ (a.block ≢ b)) → touches b pre ≡ false → (a.writes ≡ true) ⊎ (test ≡ false)
    reason (inl w) t = inl w
    reason (inr (inl k)) t = absurd (yes_no (touches b pre) k t)
    reason (inr (inr d)) t = inr (differ a.block b d)

    by : (touches b pre ≡ true) ⊎ (touches b pre ≡ false) → (a.writes ≡ true) ⊎ ((touches b pre ≡ true) ⊎ (a.block ≢ b)) → (if touches b pre then opens b pre else (if a.block == b then not a.writes else false)) ≡ opens b pre
    by (inl t) w = ap (λ c. if c then opens b pre else (if a.block == b then not a.writes else false)) t
    by (inr t) w = ap (λ c. if c then opens b pre else (if a.block == b then not a.writes else false)) t ∙ (none test a.writes (reason w t) ∙ sym (opens_untouched b pre t))

opens_new : (a : Access) (pre : List Access) → a.writes ≡ false → touches a.block pre ≡ false → opens a.block (pre ++ a ∷ []) ≡ true
opens_new a pre w t =
    opens_push a.block a pre
    ∙ (ap (λ c. if c then opens a.block pre else (if a.block == a.block then not a.writes else false)) t
    ∙ (ap (λ c. if c then not a.writes else false) (same a.block) ∙ ap not w))

-- what is behind some accesses is among all
pub there_rest : (b : ℕ) (pre ls : List Access) (s e : ℕ) (out : Type 0) (q : ℕ) → There b ls (low_in b pre s) e out q → There b (pre ++ ls) s e out q
there_rest b [] ls s e out q h = h
there_rest b (x ∷ pre) ls s e out q h = by (eqb_tells x.block b) h (λ t k. there_rest b pre ls t e out q k)
  where
    by : (((x.block == b) ≡ true) × (x.block ≡ b)) ⊎ (((x.block == b) ≡ false) × (x.block ≢ b)) → There b ls (low_in b pre (if x.block == b then x.at else s)) e out q
        → ((t : ℕ) → There b ls (low_in b pre t) e out q → There b (pre ++ ls) t e out q) → There b (x ∷ (pre ++ ls)) s e out q
    by (inl t) k go = here_to b e out q x (pre ++ ls) s t.1 (inr (inr (go x.at (subst (λ c. There b ls (low_in b pre (if c then x.at else s)) e out q) t.0 k))))
    by (inr t) k go = other_to b e out q x (pre ++ ls) s t.1 (go s (subst (λ c. There b ls (low_in b pre (if c then x.at else s)) e out q) t.0 k))

module _ (v : ℕ) where
  -- a block is seen
  module _ (b : ℕ) (w : Walk) where
    pub seen_latest : (seen v b w).latest ≡ w.latest
    seen_latest = by (is_live v w b)
      where
        by : (t : Bool) → (if t then w else record { live = slice_set w.live b v; latest = w.latest; work = w.work ++ b ∷ []; found = w.found }).latest ≡ w.latest
        by true = refl
        by false = refl

    pub seen_found : (seen v b w).found ≡ w.found
    seen_found = by (is_live v w b)
      where
        by : (t : Bool) → (if t then w else record { live = slice_set w.live b v; latest = w.latest; work = w.work ++ b ∷ []; found = w.found }).found ≡ w.found
        by true = refl
        by false = refl

    pub seen_length : length (seen v b w).live ≡ length w.live
    seen_length = by (is_live v w b)
      where
        by : (t : Bool) → length (if t then w else record { live = slice_set w.live b v; latest = w.latest; work = w.work ++ b ∷ []; found = w.found }).live ≡ length w.live
        by true = refl
        by false = length-set w.live b v

    pub seen_other : (u c : ℕ) → c ≢ b → is_live u (seen v b w) c ≡ is_live u w c
    seen_other u c d = by (is_live v w b)
      where
        by : (t : Bool) → is_live u (if t then w else record { live = slice_set w.live b v; latest = w.latest; work = w.work ++ b ∷ []; found = w.found }) c ≡ is_live u w c
        by true = refl
        by false = ap (λ m. m == u) (get_or-set_other w.live b c v no_register d)

    pub seen_here : b < length w.live → is_live v (seen v b w) b ≡ true
    seen_here small = by (is_live v w b) refl
      where
        by : (t : Bool) → is_live v w b ≡ t → is_live v (if t then w else record { live = slice_set w.live b v; latest = w.latest; work = w.work ++ b ∷ []; found = w.found }) b ≡ true
        by true e = e
        by false e = ap (λ m. m == v) (get_or-set_same w.live b v no_register small) ∙ same v

    pub seen_register : (u c : ℕ) → u ≢ v → is_live u (seen v b w) c ≡ true → is_live u w c ≡ true
    seen_register u c d = by (is_live v w b) (cases_eq c b)
      where
        here : (m : ℕ) → get_or (slice_set w.live b v) b no_register ≡ m → (m == u) ≡ true → (get_or w.live b no_register == u) ≡ true
        here m e k = elim (cases_lt b (length w.live)) [
          | inl small ↦
              let is : m ≡ v = sym e ∙ get_or-set_same w.live b v no_register small in
              absurd (yes_no (v == u) (ap (λ r. r == u) (sym is) ∙ k) (differ v u (λ x. d (sym x))))
          | inr past ↦ ap (λ l. get_or l b no_register == u) (sym (set_past w.live b v past)) ∙ (ap (λ r. r == u) e ∙ k)
        ]

        by : (t : Bool) → (c ≡ b) ⊎ (c ≢ b) → is_live u (if t then w else record { live = slice_set w.live b v; latest = w.latest; work = w.work ++ b ∷ []; found = w.found }) c ≡ true → is_live u w c ≡ true
        by true k h = h
        by false (inl k) h = subst (λ m. is_live u w m ≡ true) (sym k) (here (get_or (slice_set w.live b v) b no_register) refl (subst (λ m. (get_or (slice_set w.live b v) m no_register == u) ≡ true) k h))
        by false (inr k) h = sym (ap (λ m. m == u) (get_or-set_other w.live b c v no_register k)) ∙ h

    pub seen_work_keeps : (c : ℕ) → Contains w.work c → Contains (seen v b w).work c
    seen_work_keeps c = by (is_live v w b)
      where
        by : (t : Bool) → Contains w.work c → Contains (if t then w else record { live = slice_set w.live b v; latest = w.latest; work = w.work ++ b ∷ []; found = w.found }).work c
        by true h = h
        by false h = Contains-append_left w.work (b ∷ []) c h

    pub seen_work_from : (c : ℕ) → Contains (seen v b w).work c → Contains w.work c ⊎ (b ≡ c)
    seen_work_from c = by (is_live v w b)
      where
        by : (t : Bool) → Contains (if t then w else record { live = slice_set w.live b v; latest = w.latest; work = w.work ++ b ∷ []; found = w.found }).work c → Contains w.work c ⊎ (b ≡ c)
        by true h = inl h
        by false h = Contains-push_cases w.work b c h

    pub seen_work_has : is_live v w b ≡ false → Contains (seen v b w).work b
    seen_work_has e = subst (λ t. Contains (if t then w else record { live = slice_set w.live b v; latest = w.latest; work = w.work ++ b ∷ []; found = w.found }).work b) (sym e) (Contains-push w.work b)

  -- how many blocks are not live, twice, and how many are still to be left
  abbrev pub room : Walk → ℕ
  room w = 2 * count_by (λ (m : ℕ). not (m == v)) w.live + length w.work

  pub seen_room : (b : ℕ) (w : Walk) → b < length w.live → room (seen v b w) ≤ room w
  seen_room b w small = by (is_live v w b) refl
    where
      by : (t : Bool) → is_live v w b ≡ t → room (if t then w else record { live = slice_set w.live b v; latest = w.latest; work = w.work ++ b ∷ []; found = w.found }) ≤ room w
      by true e = omega arith
      by false e =
          let h = sum_by-set (λ (m : ℕ). cond (not (m == v)) 1 0) w.live b v no_register small in
          let k : ◌≡◌ {A = ℕ} (cond (not (get_or w.live b no_register == v)) 1 0) 1 = ap (λ (t : Bool). cond {A = ℕ} (not t) 1 0) e in
          let m : ◌≡◌ {A = ℕ} (cond (not (v == v)) 1 0) 0 = ap (λ (t : Bool). cond {A = ℕ} (not t) 1 0) (same v) in
          let l = length-append w.work (b ∷ []) in
          omega (arith, h, k, m, l)

  -- the table of last accesses
  module _ (b p : ℕ) (w : Walk) (small : b < length w.latest) where
    touched_here : (latest_at (touched v b p w) b) ≡ record { register = v; at = p }
    touched_here = get_or-set_same w.latest b (record { register = v; at = p }) no_latest small

    touched_other : (c : ℕ) → c ≢ b → latest_at (touched v b p w) c ≡ latest_at w c
    touched_other c d = get_or-set_other w.latest b c (record { register = v; at = p }) no_latest d

-- a walk over the accesses of register v in these blocks
module _ (v : ℕ) (bs : List (Block ℕ Note)) where
  abbrev IsPlaceOf : ℕ → Type 0
  IsPlaceOf p = LivesAt bs p v

  abbrev pub end_of : ℕ → Block ℕ Note → ℕ
  end_of b x = place_of bs b + length x.code

  -- the accesses `pre` are taken, and `rest` are left
  pub record Taken (w0 : Walk) (pre rest : List Access) (w : Walk) : Type 0 where
    pub live_size : length w.live ≡ length bs
    pub latest_size : length w.latest ≡ length bs
    pub low : (b s : ℕ) → latest_in v w b s ≡ low_in b pre s
    pub touch : (b : ℕ) → is_touched v w b ≡ touches b pre
    pub live_is : (b : ℕ) → is_live v w b ≡ opens b pre
    pub work : (b : ℕ) → is_live v w b ≡ true → Contains w.work b
    pub worked : (b : ℕ) → Contains w.work b → is_live v w b ≡ true
    pub sound : IsSound IsPlaceOf w.found
    pub covered : (b : ℕ) (x : Block ℕ Note) (q : ℕ) → slice_get bs b ≡ Some x → There b (all v bs) (place_of bs b) (end_of b x) (OutOf v bs x) q
        → Covered w.found q ⊎ There b rest (low_in b pre (place_of bs b)) (end_of b x) (OutOf v bs x) q
    pub other_live : (u b : ℕ) → u ≢ v → is_live u w b ≡ true → is_live u w0 b ≡ true
    pub other_touch : (u b : ℕ) → u ≢ v → is_touched u w b ≡ true → is_touched u w0 b ≡ true

  module _ (w0 : Walk) (pre rest : List Access) (a : Access) (w : Walk) (h : Taken w0 pre (a ∷ rest) w) (whole : all v bs ≡ pre ++ a ∷ rest) (stands : Stands bs a) where
    abbrev more : List Access
    more = pre ++ a ∷ []

    inside : a.block < length bs
    inside = slice_get_within bs a.block stands.block stands.is

    -- what stands at the access is a place
    at_access : (q : ℕ) → There a.block (a ∷ rest) (low_in a.block pre a.first) (end_of a.block stands.block) (OutOf v bs stands.block) q → LivesAt bs q v
    at_access q t =
        let first = stands.first_is in
        lives v bs a.block stands.block q stands.is
        (subst (λ l. There a.block l (place_of bs a.block) (end_of a.block stands.block) (OutOf v bs stands.block) q) (sym whole)
        (there_rest a.block pre (a ∷ rest) (place_of bs a.block) (end_of a.block stands.block) (OutOf v bs stands.block) q
        (subst (λ s. There a.block (a ∷ rest) (low_in a.block pre s) (end_of a.block stands.block) (OutOf v bs stands.block) q) first t)))

    written_place : a.writes ≡ true → LivesAt bs a.at v
    written_place k = at_access a.at (here_to a.block (end_of a.block stands.block) (OutOf v bs stands.block) a.at a rest (low_in a.block pre a.first) refl (inr (inl (k, refl))))

    read_place : (q : ℕ) → a.writes ≡ false → low_in a.block pre a.first ≤ q → q < a.at → LivesAt bs q v
    read_place q k l u = at_access q (here_to a.block (end_of a.block stands.block) (OutOf v bs stands.block) q a rest (low_in a.block pre a.first) refl (inl (k, l, u)))

    -- what is found at it
    record Finds (o : Option Interval) : Type 0 where
      sound : IsSound IsPlaceOf o
      keeps : (q : ℕ) → Covered w.found q → Covered o q
      written : a.writes ≡ true → Covered o a.at
      before : (q : ℕ) → a.writes ≡ false → low_in a.block pre a.first ≤ q → q < a.at → Covered o q

    finds_written : a.writes ≡ true → Finds (Some (widened w.found a.at))
    finds_written k = record {
      sound = sound_more IsPlaceOf w.found a.at h.sound (written_place k);
      keeps = λ q c. covered_still w.found a.at q c;
      written = λ e. covered_here w.found a.at;
      before = λ q e l u. absurd (yes_no a.writes k e);
    }

    finds_read : a.writes ≡ false → Finds (lived (latest_in v w a.block a.first) a.at w).found
    finds_read k = subst (λ l. Finds (lived l a.at w).found) (sym (h.low a.block a.first)) (by (nat_lt (low_in a.block pre a.first) a.at) refl)
      where
        by : (t : Bool) → nat_lt (low_in a.block pre a.first) a.at ≡ t → Finds (if t then noted (a.at - 1) (noted (low_in a.block pre a.first) w) else w).found
        by true e =
            let lt = ltb-true (low_in a.block pre a.first) a.at e in
            let one = Some (widened w.found (low_in a.block pre a.first)) in
            record {
              sound = sound_more IsPlaceOf one (a.at - 1) (sound_more IsPlaceOf w.found (low_in a.block pre a.first) h.sound (read_place (low_in a.block pre a.first) k (omega arith) lt)) (read_place (a.at - 1) k (omega (arith, lt)) (omega (arith, lt)));
              keeps = λ q c. covered_still one (a.at - 1) q (covered_still w.found (low_in a.block pre a.first) q c);
              written = λ f. absurd (yes_no a.writes f k);
              before = λ q f l u. covered_between (Some (widened one (a.at - 1))) (low_in a.block pre a.first) (a.at - 1) q
                  (covered_still one (a.at - 1) (low_in a.block pre a.first) (covered_here w.found (low_in a.block pre a.first))) (covered_here one (a.at - 1)) l (omega (arith, u));
            }
        by false e =
            let le = ltb-false (low_in a.block pre a.first) a.at e in
            record {
              sound = h.sound;
              keeps = λ q c. c;
              written = λ f. absurd (yes_no a.writes f k);
              before = λ q f l u. absurd (omega (arith, le, l, u));
            }

    -- what stays when something is found, and when a block opens
    record Met (m : Walk) : Type 0 where
      latest : m.latest ≡ w.latest
      finds : Finds m.found
      live_size : length m.live ≡ length w.live
      live_is : (b : ℕ) → is_live v m b ≡ opens b more
      work : (b : ℕ) → is_live v m b ≡ true → Contains m.work b
      worked : (b : ℕ) → Contains m.work b → is_live v m b ≡ true
      others : (u b : ℕ) → u ≢ v → is_live u m b ≡ true → is_live u w b ≡ true

    -- where the same blocks are live as before
    unopened : (m : Walk) → m.latest ≡ w.latest → Finds m.found → m.live ≡ w.live → m.work ≡ w.work → ((b : ℕ) → opens b more ≡ opens b pre) → Met m
    unopened m latest finds live work kept = record {
      latest = latest;
      finds = finds;
      live_size = ap length live;
      live_is = λ b. ap (λ l. slice_index_or l b no_register == v) live ∙ (h.live_is b ∙ sym (kept b));
      work = λ b e. subst (λ l. Contains l b) (sym work) (h.work b (sym (ap (λ l. slice_index_or l b no_register == v) live) ∙ e));
      worked = λ b e. ap (λ l. slice_index_or l b no_register == v) live ∙ h.worked b (subst (λ l. Contains l b) work e);
      others = λ u b d e. sym (ap (λ l. slice_index_or l b no_register == u) live) ∙ e;
    }

    small_live : a.block < length w.live
    small_live = let s = h.live_size in let i = inside in omega (arith, s, i)

    -- where its block opens
    opened_met : (m : Walk) → m.latest ≡ w.latest → Finds m.found → m.live ≡ w.live → m.work ≡ w.work → a.writes ≡ false → touches a.block pre ≡ false → Met (seen v a.block m)
    opened_met m latest finds live work k t = record {
      latest = seen_latest v a.block m ∙ latest;
      finds = subst Finds (sym (seen_found v a.block m)) finds;
      live_size = seen_length v a.block m ∙ ap length live;
      live_is = live_now;
      work = λ b e. work_now b e (cases_eq b a.block);
      worked = λ b e. elim (seen_work_from v a.block m b e) [
        | inl x ↦ stays b (was b (subst (λ l. Contains l b) work x))
        | inr x ↦ subst (λ c. is_live v (seen v a.block m) c ≡ true) x here
      ];
      others = λ u b d e. sym (ap (λ l. slice_index_or l b no_register == u) live) ∙ seen_register v a.block m u b d e;
    }
      where
        small : a.block < length m.live
        small = let e = ap length live in let s = small_live in omega (arith, e, s)

        here : is_live v (seen v a.block m) a.block ≡ true
        here = seen_here v a.block m small

        old : (b : ℕ) → is_live v m b ≡ opens b pre
        old b = ap (λ l. slice_index_or l b no_register == v) live ∙ h.live_is b

        was : (b : ℕ) → Contains w.work b → is_live v m b ≡ true
        was b e = ap (λ l. slice_index_or l b no_register == v) live ∙ h.worked b e

        stays : (b : ℕ) → is_live v m b ≡ true → is_live v (seen v a.block m) b ≡ true
        stays b e = elim (cases_eq b a.block) [
          | inl x ↦ subst (λ c. is_live v (seen v a.block m) c ≡ true) (sym x) here
          | inr x ↦ seen_other v a.block m v b x ∙ e
        ]

        live_now : (b : ℕ) → is_live v (seen v a.block m) b ≡ opens b more
        live_now b = elim (cases_eq b a.block) [
          | inl x ↦ subst (λ c. is_live v (seen v a.block m) c ≡ opens c more) (sym x) (here ∙ sym (opens_new a pre k t))
          | inr x ↦ seen_other v a.block m v b x ∙ (old b ∙ sym (opens_kept b a pre (inr (inr (λ y. x (sym y))))))
        ]

        closed : is_live v m a.block ≡ false
        closed = old a.block ∙ opens_untouched a.block pre t

        work_now : (b : ℕ) → is_live v (seen v a.block m) b ≡ true → (b ≡ a.block) ⊎ (b ≢ a.block) → Contains (seen v a.block m).work b
        work_now b e (inl x) = subst (Contains (seen v a.block m).work) (sym x) (seen_work_has v a.block m closed)
        work_now b e (inr x) =
            let before : is_live v m b ≡ true = sym (seen_other v a.block m v b x) ∙ e in
            seen_work_keeps v a.block m b (subst (λ l. Contains l b) (sym work) (h.work b (sym (ap (λ l. slice_index_or l b no_register == v) live) ∙ before)))

    lived_same : (low high : ℕ) → ((lived low high w).live ≡ w.live) × (((lived low high w).work ≡ w.work) × ((lived low high w).latest ≡ w.latest))
    lived_same low high = by (nat_lt low high)
      where
        by : (t : Bool) → ((if t then noted (high - 1) (noted low w) else w).live ≡ w.live) × (((if t then noted (high - 1) (noted low w) else w).work ≡ w.work) × ((if t then noted (high - 1) (noted low w) else w).latest ≡ w.latest))
        by true = (refl, (refl, refl))
        by false = (refl, (refl, refl))

    -- with the places that end with a read
    abbrev m : Walk
    m = lived (latest_in v w a.block a.first) a.at w

    is_met : Met (met v a w)
    is_met = by a.writes refl
      where
        touch_same : is_touched v m a.block ≡ touches a.block pre
        touch_same = ap (λ (l : List Latest). (slice_index_or l a.block no_latest).register == v) (lived_same (latest_in v w a.block a.first) a.at).1.1 ∙ h.touch a.block

        reads : a.writes ≡ false → (t : Bool) → is_touched v m a.block ≡ t → Met (if t then m else seen v a.block m)
        reads k true t =
            let e = lived_same (latest_in v w a.block a.first) a.at in
            unopened m e.1.1 (finds_read k) e.0 e.1.0 (λ b. opens_kept b a pre (elim (cases_eq a.block b) [
              | inl x ↦ inr (inl (subst (λ c. touches c pre ≡ true) x (sym touch_same ∙ t)))
              | inr x ↦ inr (inr x)
            ]))
        reads k false t =
            let e = lived_same (latest_in v w a.block a.first) a.at in
            opened_met m e.1.1 (finds_read k) e.0 e.1.0 k (sym touch_same ∙ t)

        by : (t : Bool) → a.writes ≡ t → Met (if t then noted a.at w else read v a w)
        by true k = unopened (noted a.at w) refl (finds_written k) refl refl (λ b. opens_kept b a pre (inl k))
        by false k = reads k (is_touched v m a.block) refl

    -- and the access is the last one of its block
    pub take_one : v < no_register → Taken w0 more rest (taken v a w)
    take_one register = record {
      live_size = k.live_size ∙ h.live_size;
      latest_size = length-set (met v a w).latest a.block (record { register = v; at = a.at }) ∙ (ap length k.latest ∙ h.latest_size);
      low = λ b s. low_now b s (cases_eq b a.block);
      touch = λ b. touch_now b (cases_eq b a.block);
      live_is = k.live_is;
      work = k.work;
      worked = k.worked;
      sound = k.finds.sound;
      covered = covers;
      other_live = λ u b d e. h.other_live u b d (k.others u b d e);
      other_touch = λ u b d e. other_now u b d e (cases_eq b a.block);
    }
      where
        k : Met (met v a w)
        k = is_met

        small : a.block < length (met v a w).latest
        small = let e = ap length k.latest in let s = h.latest_size in let i = inside in omega (arith, e, s, i)

        old : (b : ℕ) → b ≢ a.block → latest_at (taken v a w) b ≡ latest_at w b
        old b d = touched_other v a.block a.at (met v a w) small b d ∙ ap (λ (l : List Latest). slice_index_or l b no_latest) k.latest

        here : latest_at (taken v a w) a.block ≡ record { register = v; at = a.at }
        here = touched_here v a.block a.at (met v a w) small

        low_now : (b s : ℕ) → (b ≡ a.block) ⊎ (b ≢ a.block) → latest_in v (taken v a w) b s ≡ low_in b more s
        low_now b s (inl x) =
            subst (λ c. latest_in v (taken v a w) c s ≡ low_in c more s) (sym x)
            (ap (λ (l : Latest). if l.register == v then l.at else s) here
            ∙ (ap (λ t. if t then a.at else s) (same v)
            ∙ sym (low_push a.block a pre s ∙ ap (λ t. if t then a.at else low_in a.block pre s) (same a.block))))
        low_now b s (inr x) =
            ap (λ (l : Latest). if l.register == v then l.at else s) (old b x)
            ∙ (h.low b s ∙ sym (low_push b a pre s ∙ ap (λ t. if t then a.at else low_in b pre s) (differ a.block b (λ y. x (sym y)))))

        either_true : (t : Bool) → (if t then true else true) ≡ true
        either_true true = refl
        either_true false = refl

        either_false : (t : Bool) → (if t then true else false) ≡ t
        either_false true = refl
        either_false false = refl

        touch_now : (b : ℕ) → (b ≡ a.block) ⊎ (b ≢ a.block) → is_touched v (taken v a w) b ≡ touches b more
        touch_now b (inl x) =
            subst (λ c. is_touched v (taken v a w) c ≡ touches c more) (sym x)
            (ap (λ (l : Latest). l.register == v) here
            ∙ (same v ∙ sym (touches_push a.block a pre ∙ (ap (λ t. if touches a.block pre then true else (if t then true else false)) (same a.block) ∙ either_true (touches a.block pre)))))
        touch_now b (inr x) =
            ap (λ (l : Latest). l.register == v) (old b x)
            ∙ (h.touch b ∙ sym (touches_push b a pre ∙ (ap (λ t. if touches b pre then true else (if t then true else false)) (differ a.block b (λ y. x (sym y))) ∙ either_false (touches b pre))))

        other_now : (u b : ℕ) → u ≢ v → is_touched u (taken v a w) b ≡ true → (b ≡ a.block) ⊎ (b ≢ a.block) → is_touched u w0 b ≡ true
        other_now u b d e (inl x) =
            absurd (yes_no (v == u) (sym (ap (λ (l : Latest). l.register == u) here) ∙ subst (λ c. is_touched u (taken v a w) c ≡ true) x e) (differ v u (λ y. d (sym y))))
        other_now u b d e (inr x) = h.other_touch u b d (sym (ap (λ (l : Latest). l.register == u) (old b x)) ∙ e)

        covers : (b : ℕ) (x : Block ℕ Note) (q : ℕ) → slice_get bs b ≡ Some x → There b (all v bs) (place_of bs b) (end_of b x) (OutOf v bs x) q
            → Covered (met v a w).found q ⊎ There b rest (low_in b more (place_of bs b)) (end_of b x) (OutOf v bs x) q
        covers b x q is there = elim (h.covered b x q is there) [
          | inl c ↦ inl (k.finds.keeps q c)
          | inr t ↦ split (cases_eq a.block b) t
        ]
          where
            split : (a.block ≡ b) ⊎ (a.block ≢ b) → There b (a ∷ rest) (low_in b pre (place_of bs b)) (end_of b x) (OutOf v bs x) q
                → Covered (met v a w).found q ⊎ There b rest (low_in b more (place_of bs b)) (end_of b x) (OutOf v bs x) q
            split (inl e) t = elim (here_from b (end_of b x) (OutOf v bs x) q a rest (low_in b pre (place_of bs b)) e t) [
              | inl y ↦
                  let first : low_in b pre (place_of bs b) ≡ low_in a.block pre a.first = ap (λ c. low_in c pre (place_of bs c)) (sym e) ∙ ap (low_in a.block pre) (sym stands.first_is) in
                  let l = y.1 in
                  inl (k.finds.before q y.0 (omega (arith, first, l)) y.2)
              | inr y ↦ elim y [
                | inl z ↦ inl (subst (Covered (met v a w).found) (sym z.1) (k.finds.written z.0))
                | inr z ↦ inr (subst (λ n. There b rest n (end_of b x) (OutOf v bs x) q) (sym (low_push b a pre (place_of bs b) ∙ ap (λ c. if c then a.at else low_in b pre (place_of bs b)) (ap (λ n. n == b) e ∙ same b))) z)
              ]
            ]
            split (inr d) t =
                inr (subst (λ n. There b rest n (end_of b x) (OutOf v bs x) q) (sym (low_push b a pre (place_of bs b) ∙ ap (λ c. if c then a.at else low_in b pre (place_of bs b)) (differ a.block b d))) (other_from b (end_of b x) (OutOf v bs x) q a rest (low_in b pre (place_of bs b)) d t))

  -- all accesses
  pub take_all : (w0 : Walk) (pre rest : List Access) (w : Walk) → v < no_register → all v bs ≡ pre ++ rest → Each (Stands bs) rest → Taken w0 pre rest w → Taken w0 (all v bs) [] (all_taken v rest w)
  take_all w0 pre [] w r whole each h = subst (λ l. Taken w0 l [] w) (sym (whole ∙ append-nil pre)) h
  take_all w0 pre (a ∷ rest) w r whole each h =
      take_all w0 (pre ++ a ∷ []) rest (taken v a w) r (whole ∙ sym (append_assoc pre (a ∷ []) rest)) each.1 (take_one w0 pre rest a w h whole each.0 r)
