-- A walk from block to block finds where a register is live.
use Rattle.std.proofs.Common.{◌≡◌, ◌≢◌, ◌⊎◌, inl, inr, ℕ, zero, suc, ◌+◌, ◌<◌, ◌≤◌, Bool, true, false, List, [], ◌∷◌, ◌++◌, length, Option, Some, None, Contains, refl, sym, ap, ◌∙◌, subst, arith, not, ◌*◌, count_by, length-append}
use Rattle.std.specs.Prelude.{◌==◌, if◌then◌else◌, slice_get, slice_index_or}
use Rattle.std.proofs.lemmas.Bool.{cases_eq, cases_lt}
use Rattle.std.proofs.lemmas.List.{append-nil, get_or_past}
use Rattle.std.proofs.lemmas.List.Elements.{Contains-append_left, Contains-push, Contains-push_cases}
use Rattle.std.proofs.lemmas.Option.{slice_get_within}
use Rattle.low_ir.specs.Code.{End, Jump, Branch, Return, Instr, Block, Note}
use Rattle.low_ir.specs.Formed.{LeadsOn}
use Rattle.low_ir.specs.Live.{Ahead, BehindEnd, Enters, IsRest, Reaches, ReachesIn, Spot, place_of}
use Rattle.register_places.proofs.Ways.{closed_covers}
use Rattle.register_live_ranges.specs.declared.accesses.Access.{Access}
use Rattle.register_live_ranges.specs.declared.sources.Source.{Source}
use Rattle.register_live_ranges.specs.declared.walk.Latest.{Latest}
use Rattle.register_live_ranges.specs.Found.{sources_of}
use Rattle.register_live_ranges.specs.Intervals.{IsHull, LivesAt, widened}
use Rattle.register_live_ranges.specs.Sources.{source_at}
use Rattle.register_live_ranges.specs.Walks.{Walk, all_left, is_live, is_touched, latest_in, left, no_latest, no_register, noted, seen}
use Rattle.register_live_ranges.proofs.Hulls.{Covered, IsSound, covered_between, covered_here, covered_still, hull, sound_more}
use Rattle.register_live_ranges.proofs.Leading.{Led, sources_from, sources_have}
use Rattle.register_live_ranges.proofs.Noting.{row}
use Rattle.register_live_ranges.proofs.Passing.{There, differ, low_in, opens, touches}
use Rattle.register_live_ranges.proofs.Blocks.{OutOf, all, in_block, live_opens, lives, low_within, open_live, passed_live}
use Rattle.register_live_ranges.proofs.Taking.{Taken, end_of, room, seen_found, seen_here, seen_latest, seen_length, seen_other, seen_register, seen_room, seen_work_from, seen_work_has, seen_work_keeps, there_rest, yes_no}

only : {X : Type 0} (a b : X) → Contains (a ∷ []) b → a ≡ b
only a b (zero, lt, e) = e
only a b (suc k, lt, e) = absurd (omega arith)

none_there : {X : Type 0} (x : X) → Contains [] x → ⊥
none_there x h = omega (arith, h.1)

-- an end that leads to a block of which something holds, and the other way round
ahead_from : (at : ℕ → Type 0) (end : End ℕ) (n : ℕ) → LeadsOn end n → at n → Ahead at end
ahead_from at (Jump b) n l h = subst at (sym l) h
ahead_from at (Branch c x y taken other) n (inl l) h = inl (subst at (sym l) h)
ahead_from at (Branch c x y taken other) n (inr l) h = inr (subst at (sym l) h)
ahead_from at (Return x) n l h = absurd l

ahead_to : (at : ℕ → Type 0) (end : End ℕ) → Ahead at end → (n : ℕ) × LeadsOn end n × at n
ahead_to at (Jump b) h = (b, refl, h)
ahead_to at (Branch c x y taken other) (inl h) = (taken, inl refl, h)
ahead_to at (Branch c x y taken other) (inr h) = (other, inr refl, h)
ahead_to at (Return x) h = absurd h

block_at : (bs : List (Block ℕ Note)) (b : ℕ) → b < length bs → (x : Block ℕ Note) × (slice_get bs b ≡ Some x)
block_at [] b lt = absurd (omega (arith, lt))
block_at (x ∷ bs) zero lt = (x, refl)
block_at (x ∷ bs) (suc b) lt = block_at bs b (omega (arith, lt))

rest_all : (code : List (Instr ℕ Note)) → IsRest code (length code) []
rest_all [] = refl
rest_all (i ∷ code) = rest_all code

enters_in : (bs : List (Block ℕ Note)) (k v b : ℕ) (x : Block ℕ Note) → slice_get bs b ≡ Some x → Reaches (Enters bs k v) x.code x.end v → Enters bs (suc k) v b
enters_in bs k v b x e h = subst (λ o. ReachesIn (Enters bs k v) o v) (sym e) h

enters_within : (bs : List (Block ℕ Note)) (k v b : ℕ) → Enters bs k v b → b < length bs
enters_within bs zero v b h = absurd h
enters_within bs (suc k) v b h = by (slice_get bs b) refl h
  where
    by : (o : Option (Block ℕ Note)) → slice_get bs b ≡ o → ReachesIn (Enters bs k v) o v → b < length bs
    by None e r = absurd r
    by (Some x) e r = slice_get_within bs b x e

module _ (v : ℕ) (bs : List (Block ℕ Note)) where
  abbrev accesses : List Access
  accesses = all v bs

  abbrev sources : ℕ → List Source
  sources b = row (sources_of bs) b

  abbrev IsPlaceAt : ℕ → Type 0
  IsPlaceAt p = LivesAt bs p v

  -- a source is left: the register is live behind it, and at its beginning where it isn't accessed there
  abbrev IsLeft : Walk → Source → Type 0
  IsLeft w x = Covered w.found x.last × (Covered w.found (low_in x.block accesses x.first) × (touches x.block accesses ≡ false → is_live v w x.block ≡ true))

  abbrev IsAlive : Walk → ℕ → Type 0
  IsAlive w b = is_live v w b ≡ true

  pub record Walks (w0 w : Walk) : Type 0 where
    pub live_size : length w.live ≡ length bs
    pub latest_size : length w.latest ≡ length bs
    pub low : (b s : ℕ) → latest_in v w b s ≡ low_in b accesses s
    pub touch : (b : ℕ) → is_touched v w b ≡ touches b accesses
    pub alive : (b : ℕ) → is_live v w b ≡ true → (n : ℕ) × Enters bs n v b
    pub opened : (b : ℕ) → opens b accesses ≡ true → is_live v w b ≡ true
    pub worked : (b : ℕ) → Contains w.work b → is_live v w b ≡ true
    pub sound : IsSound IsPlaceAt w.found
    pub covered : (b : ℕ) (x : Block ℕ Note) (q : ℕ) → slice_get bs b ≡ Some x → There b accesses (place_of bs b) (end_of v bs b x) (OutOf v bs x) q
        → Covered w.found q ⊎ (OutOf v bs x × (low_in b accesses (place_of bs b) ≤ q) × (q ≤ end_of v bs b x))
    pub done : (b : ℕ) → is_live v w b ≡ true → Contains w.work b ⊎ ((x : Source) → Contains (sources b) x → IsLeft w x)
    pub other_live : (u b : ℕ) → u ≢ v → is_live u w b ≡ true → is_live u w0 b ≡ true
    pub other_touch : (u b : ℕ) → u ≢ v → is_touched u w b ≡ true → is_touched u w0 b ≡ true

  live_within : (w : Walk) (b : ℕ) → v < no_register → length w.live ≡ length bs → is_live v w b ≡ true → b < length bs
  live_within w b small size e = elim (cases_lt b (length bs)) [
    | inl lt ↦ lt
    | inr past ↦
        let is : slice_index_or w.live b no_register ≡ no_register = get_or_past w.live b no_register (omega (arith, size, past)) in
        absurd (yes_no (no_register == v) (sym (ap (λ m. m == v) is) ∙ e) (differ no_register v (λ k. omega (arith, small, k))))
  ]

  -- behind the accesses
  pub begins : (w0 w : Walk) → v < no_register → Taken v bs w0 accesses [] w → Walks w0 w
  begins w0 w small h = record {
    live_size = h.live_size;
    latest_size = h.latest_size;
    low = h.low;
    touch = h.touch;
    alive = λ b e.
        let x = block_at bs b (live_within w b small h.live_size e) in
        (1, enters_in bs 0 v b x.0 x.1 (open_live v bs b x.0 x.1 (Enters bs 0 v) (sym (h.live_is b) ∙ e)));
    opened = λ b e. h.live_is b ∙ e;
    worked = h.worked;
    sound = h.sound;
    covered = h.covered;
    done = λ b e. inl (h.work b e);
    other_live = h.other_live;
    other_touch = h.other_touch;
  }

  -- what leaving these sources does
  record Grew (xs : List Source) (w u : Walk) : Type 0 where
    size : length u.live ≡ length w.live
    latest : u.latest ≡ w.latest
    keeps : (b : ℕ) → is_live v w b ≡ true → is_live v u b ≡ true
    from : (b : ℕ) → is_live v u b ≡ true → (is_live v w b ≡ true) ⊎ (Contains u.work b × ((n : ℕ) × Enters bs n v b))
    work_keeps : (b : ℕ) → Contains w.work b → Contains u.work b
    work_from : (b : ℕ) → Contains u.work b → Contains w.work b ⊎ (is_live v u b ≡ true)
    covers : (q : ℕ) → Covered w.found q → Covered u.found q
    sound : IsSound IsPlaceAt w.found → IsSound IsPlaceAt u.found
    are_left : (x : Source) → Contains xs x → IsLeft u x
    others : (r b : ℕ) → r ≢ v → is_live r u b ≡ true → is_live r w b ≡ true
    falls : room v u ≤ room v w

  grew_none : (w : Walk) → Grew [] w w
  grew_none w = record {
    size = refl;
    latest = refl;
    keeps = λ b e. e;
    from = λ b e. inl e;
    work_keeps = λ b e. e;
    work_from = λ b e. inl e;
    covers = λ q c. c;
    sound = λ s. s;
    are_left = λ x k. absurd (none_there x k);
    others = λ r b d e. e;
    falls = omega arith;
  }

  left_still : (xs : List Source) (w u : Walk) → Grew xs w u → (x : Source) → IsLeft w x → IsLeft u x
  left_still xs w u g x h = (g.covers x.last h.0, (g.covers (low_in x.block accesses x.first) h.1.0, λ t. g.keeps x.block (h.1.1 t)))

  grew_more : (x : Source) (xs : List Source) (w t u : Walk) → Grew (x ∷ []) w t → Grew xs t u → Grew (x ∷ xs) w u
  grew_more x xs w t u f g = record {
    size = g.size ∙ f.size;
    latest = g.latest ∙ f.latest;
    keeps = λ b e. g.keeps b (f.keeps b e);
    from = λ b e. elim (g.from b e) [
      | inl k ↦ elim (f.from b k) [ inl j ↦ inl j | inr j ↦ inr (g.work_keeps b j.0, j.1) ]
      | inr k ↦ inr k
    ];
    work_keeps = λ b e. g.work_keeps b (f.work_keeps b e);
    work_from = λ b e. elim (g.work_from b e) [
      | inl k ↦ elim (f.work_from b k) [ inl j ↦ inl j | inr j ↦ inr (g.keeps b j) ]
      | inr k ↦ inr k
    ];
    covers = λ q c. g.covers q (f.covers q c);
    sound = λ s. g.sound (f.sound s);
    are_left = λ y k. elim (head_or_tail x xs y k) [
      | inl e ↦ left_still xs t u g y (f.are_left y (subst (Contains (x ∷ [])) e (0, omega arith, refl)))
      | inr r ↦ g.are_left y r
    ];
    others = λ r b d e. f.others r b d (g.others r b d e);
    falls = let a = f.falls in let b = g.falls in omega (arith, a, b);
  }
    where
      head_or_tail : (y : Source) (ys : List Source) (z : Source) → Contains (y ∷ ys) z → (y ≡ z) ⊎ Contains ys z
      head_or_tail y ys z (zero, lt, e) = inl e
      head_or_tail y ys z (suc k, lt, e) = inr (k, omega (arith, lt), e)

  -- one source, at whose end the register is live
  module _ (x : Source) (w : Walk) (low : (b s : ℕ) → latest_in v w b s ≡ low_in b accesses s) (touch : (b : ℕ) → is_touched v w b ≡ touches b accesses) (inside : x.block < length w.live)
      (last : LivesAt bs x.last v) (first : LivesAt bs (low_in x.block accesses x.first) v) (enters : touches x.block accesses ≡ false → (n : ℕ) × Enters bs n v x.block) where
    abbrev m : Walk
    m = noted x.last (noted (latest_in v w x.block x.first) w)

    low_is : latest_in v w x.block x.first ≡ low_in x.block accesses x.first
    low_is = low x.block x.first

    m_covers : (q : ℕ) → Covered w.found q → Covered m.found q
    m_covers q c = covered_still (Some (widened w.found (latest_in v w x.block x.first))) x.last q (covered_still w.found (latest_in v w x.block x.first) q c)

    m_last : Covered m.found x.last
    m_last = covered_here (Some (widened w.found (latest_in v w x.block x.first))) x.last

    m_low : Covered m.found (low_in x.block accesses x.first)
    m_low = subst (Covered m.found) low_is (covered_still (Some (widened w.found (latest_in v w x.block x.first))) x.last (latest_in v w x.block x.first) (covered_here w.found (latest_in v w x.block x.first)))

    m_sound : IsSound IsPlaceAt w.found → IsSound IsPlaceAt m.found
    m_sound s =
        sound_more IsPlaceAt (Some (widened w.found (latest_in v w x.block x.first))) x.last
        (sound_more IsPlaceAt w.found (latest_in v w x.block x.first) s (subst IsPlaceAt (sym low_is) first)) last

    by_touch : (t : Bool) → touches x.block accesses ≡ t → Grew (x ∷ []) w (if t then m else seen v x.block m)
    by_touch true t = record {
      size = refl;
      latest = refl;
      keeps = λ b e. e;
      from = λ b e. inl e;
      work_keeps = λ b e. e;
      work_from = λ b e. inl e;
      covers = m_covers;
      sound = m_sound;
      are_left = λ y k. subst (IsLeft m) (only x y k) (m_last, (m_low, λ f. absurd (yes_no (touches x.block accesses) t f)));
      others = λ r b d e. e;
      falls = omega arith;
    }
    by_touch false t = record {
      size = seen_length v x.block m;
      latest = seen_latest v x.block m;
      keeps = λ b e. stays b e (cases_eq b x.block);
      from = λ b e. comes b e (cases_eq b x.block) (either (is_live v m x.block));
      work_keeps = λ b k. seen_work_keeps v x.block m b k;
      work_from = λ b k. elim (seen_work_from v x.block m b k) [ inl j ↦ inl j | inr j ↦ inr (subst (λ c. is_live v (seen v x.block m) c ≡ true) j here) ];
      covers = λ q c. subst (λ o. Covered o q) (sym (seen_found v x.block m)) (m_covers q c);
      sound = λ s. subst (IsSound IsPlaceAt) (sym (seen_found v x.block m)) (m_sound s);
      are_left = λ y k. subst (IsLeft (seen v x.block m)) (only x y k)
          (subst (λ o. Covered o x.last) (sym (seen_found v x.block m)) m_last, (subst (λ o. Covered o (low_in x.block accesses x.first)) (sym (seen_found v x.block m)) m_low, λ f. here));
      others = λ r b d e. seen_register v x.block m r b d e;
      falls = seen_room v x.block m inside;
    }
      where
        here : is_live v (seen v x.block m) x.block ≡ true
        here = seen_here v x.block m inside

        either : (c : Bool) → (c ≡ true) ⊎ (c ≡ false)
        either true = inl refl
        either false = inr refl

        stays : (b : ℕ) → is_live v m b ≡ true → (b ≡ x.block) ⊎ (b ≢ x.block) → is_live v (seen v x.block m) b ≡ true
        stays b e (inl k) = subst (λ c. is_live v (seen v x.block m) c ≡ true) (sym k) here
        stays b e (inr k) = seen_other v x.block m v b k ∙ e

        comes : (b : ℕ) → is_live v (seen v x.block m) b ≡ true → (b ≡ x.block) ⊎ (b ≢ x.block) → (is_live v m x.block ≡ true) ⊎ (is_live v m x.block ≡ false)
            → (is_live v m b ≡ true) ⊎ (Contains (seen v x.block m).work b × ((n : ℕ) × Enters bs n v b))
        comes b e (inl k) (inl y) = inl (ap (is_live v m) k ∙ y)
        comes b e (inl k) (inr y) = inr (subst (Contains (seen v x.block m).work) (sym k) (seen_work_has v x.block m y), subst (λ c. (n : ℕ) × Enters bs n v c) (sym k) (enters t))
        comes b e (inr k) z = inl (sym (seen_other v x.block m v b k) ∙ e)

    grew_one : Grew (x ∷ []) w (left v x w)
    grew_one = subst (λ t. Grew (x ∷ []) w (if t then m else seen v x.block m)) (sym (touch x.block)) (by_touch (touches x.block accesses) refl)

  -- all sources of a block at whose beginning the register is live
  module _ (b : ℕ) (alive : (n : ℕ) × Enters bs n v b) where
    ahead : (x : Source) (l : Led 0 0 bs b x) → OutOf v bs l.block
    ahead x l = (alive.0, ahead_from (Enters bs alive.0 v) l.block.end b l.leads alive.1)

    grew_all : (xs : List Source) (w : Walk) → ((x : Source) → Contains xs x → Led 0 0 bs b x) → length w.live ≡ length bs → ((c s : ℕ) → latest_in v w c s ≡ low_in c accesses s) → ((c : ℕ) → is_touched v w c ≡ touches c accesses) → Grew xs w (all_left v xs w)
    grew_all [] w led size low touch = grew_none w
    grew_all (x ∷ xs) w led size low touch =
        let one = first in
        grew_more x xs w (left v x w) (all_left v xs (left v x w)) one
        (grew_all xs (left v x w) (λ y k. led y (in_tail y k)) (one.size ∙ size)
        (λ c s. ap (λ (t : List Latest). if (slice_index_or t c no_latest).register == v then (slice_index_or t c no_latest).at else s) one.latest ∙ low c s)
        (λ c. ap (λ (t : List Latest). (slice_index_or t c no_latest).register == v) one.latest ∙ touch c))
      where
        in_tail : (y : Source) → Contains xs y → Contains (x ∷ xs) y
        in_tail y k = let lt = k.1 in (suc k.0, omega (arith, lt), k.2)

        l : Led 0 0 bs b x
        l = led x (0, omega arith, refl)

        block_is : x.block ≡ l.number
        block_is = let e = ap (λ (z : Source). z.block) l.is in omega (arith, e)

        first_is : x.first ≡ place_of bs l.number
        first_is = let e = ap (λ (z : Source). z.first) l.is in omega (arith, e)

        last_is : x.last ≡ place_of bs l.number + length l.block.code
        last_is = let e = ap (λ (z : Source). z.last) l.is in omega (arith, e)

        end_spot : Spot bs (place_of bs l.number + length l.block.code) [] l.block.end
        end_spot = record { block = l.block; number = l.number; behind = length l.block.code; there = l.there; code = rest_all l.block.code; ends = refl; at = refl }

        last_lives : LivesAt bs x.last v
        last_lives = let o = ahead x l in subst (λ p. LivesAt bs p v) (sym last_is) (BehindEnd o.0 l.block.end end_spot o.1)

        low_lives : LivesAt bs (low_in l.number accesses (place_of bs l.number)) v
        low_lives =
            lives v bs l.number l.block (low_in l.number accesses (place_of bs l.number)) l.there
            (subst (λ ls. There l.number ls (place_of bs l.number) (end_of v bs l.number l.block) (OutOf v bs l.block) (low_in l.number accesses (place_of bs l.number))) (append-nil accesses)
            (there_rest l.number accesses [] (place_of bs l.number) (end_of v bs l.number l.block) (OutOf v bs l.block) (low_in l.number accesses (place_of bs l.number))
            (ahead x l, omega arith, low_within v bs l.number l.block l.there)))

        low_same : low_in x.block accesses x.first ≡ low_in l.number accesses (place_of bs l.number)
        low_same = ap (λ c. low_in c accesses x.first) block_is ∙ ap (low_in l.number accesses) first_is

        enters : touches x.block accesses ≡ false → (n : ℕ) × Enters bs n v x.block
        enters t =
            let o = ahead x l in
            subst (λ c. (n : ℕ) × Enters bs n v c) (sym block_is)
            (suc o.0, enters_in bs o.0 v l.number l.block l.there (passed_live v bs l.number l.block l.there (Enters bs o.0 v) (sym (ap (λ c. touches c accesses) block_is) ∙ t) o.1))

        inside : x.block < length w.live
        inside = let e = block_is in let i = slice_get_within bs l.number l.block l.there in omega (arith, e, i, size)

        first : Grew (x ∷ []) w (left v x w)
        first = grew_one x w low touch inside last_lives (subst (λ p. LivesAt bs p v) (sym low_same) low_lives) enters

  -- one turn: a block is taken off the list, and those that lead to it are left
  pub turn : (w0 w t u : Walk) (b : ℕ) → Walks w0 w → t.live ≡ w.live → t.latest ≡ w.latest → t.found ≡ w.found → w.work ≡ t.work ++ b ∷ [] → u ≡ all_left v (sources b) t → Walks w0 u × (room v u < room v w)
  turn w0 w t u b h live latest found popped is = (walks, less)
    where
      alive : (n : ℕ) × Enters bs n v b
      alive = h.alive b (h.worked b (subst (λ l. Contains l b) (sym popped) (Contains-push t.work b)))

      same_live : (r c : ℕ) → is_live r t c ≡ is_live r w c
      same_live r c = ap (λ l. slice_index_or l c no_register == r) live

      low : (c s : ℕ) → latest_in v t c s ≡ low_in c accesses s
      low c s = ap (λ (l : List Latest). if (slice_index_or l c no_latest).register == v then (slice_index_or l c no_latest).at else s) latest ∙ h.low c s

      touch : (c : ℕ) → is_touched v t c ≡ touches c accesses
      touch c = ap (λ (l : List Latest). (slice_index_or l c no_latest).register == v) latest ∙ h.touch c

      g : Grew (sources b) t u
      g = subst (Grew (sources b) t) (sym is) (grew_all b alive (sources b) t (λ x k. sources_from bs b x k) (ap length live ∙ h.live_size) low touch)

      keeps_left : (x : Source) → IsLeft w x → IsLeft u x
      keeps_left x k =
          left_still (sources b) t u g x
          (subst (λ o. Covered o x.last) (sym found) k.0, (subst (λ o. Covered o (low_in x.block accesses x.first)) (sym found) k.1.0, λ f. same_live v x.block ∙ k.1.1 f))

      walks : Walks w0 u
      walks = record {
        live_size = g.size ∙ (ap length live ∙ h.live_size);
        latest_size = ap length g.latest ∙ (ap length latest ∙ h.latest_size);
        low = λ c s. ap (λ (l : List Latest). if (slice_index_or l c no_latest).register == v then (slice_index_or l c no_latest).at else s) g.latest ∙ low c s;
        touch = λ c. ap (λ (l : List Latest). (slice_index_or l c no_latest).register == v) g.latest ∙ touch c;
        alive = λ c e. elim (g.from c e) [ inl k ↦ h.alive c (sym (same_live v c) ∙ k) | inr k ↦ k.1 ];
        opened = λ c e. g.keeps c (same_live v c ∙ h.opened c e);
        worked = λ c k. elim (g.work_from c k) [
          | inl j ↦ g.keeps c (same_live v c ∙ h.worked c (subst (λ l. Contains l c) (sym popped) (Contains-append_left t.work (b ∷ []) c j)))
          | inr j ↦ j
        ];
        sound = g.sound (subst (IsSound IsPlaceAt) (sym found) h.sound);
        covered = λ c x q e k. elim (h.covered c x q e k) [
          | inl j ↦ inl (g.covers q (subst (λ o. Covered o q) (sym found) j))
          | inr j ↦ inr j
        ];
        done = λ c e. elim (g.from c e) [
          | inl k ↦ elim (h.done c (sym (same_live v c) ∙ k)) [
            | inl j ↦ elim (Contains-push_cases t.work b c (subst (λ l. Contains l c) popped j)) [
              | inl i ↦ inl (g.work_keeps c i)
              | inr i ↦ inr (λ x a. g.are_left x (subst (λ z. Contains (sources z) x) (sym i) a))
            ]
            | inr j ↦ inr (λ x a. keeps_left x (j x a))
          ]
          | inr k ↦ inl k.0
        ];
        other_live = λ r c d e. h.other_live r c d (sym (same_live r c) ∙ g.others r c d e);
        other_touch = λ r c d e. h.other_touch r c d (sym (ap (λ (l : List Latest). (slice_index_or l c no_latest).register == r) (g.latest ∙ latest)) ∙ e);
      }

      less : room v u < room v w
      less =
          let a = g.falls in
          let e = ap (λ l. 2 * count_by (λ (m : ℕ). not (m == v)) l) live in
          let c = ap length popped in
          let d = length-append t.work (b ∷ []) in
          omega (arith, a, e, c, d)

  -- where no block is left to be visited, the interval is found
  pub walked : (w0 w : Walk) → v < no_register → Walks w0 w → length w.work ≡ 0 → IsHull (λ p. LivesAt bs p v) w.found
  walked w0 w small h none = hull IsPlaceAt w.found h.sound covers
    where
      empty : (b : ℕ) → Contains w.work b → ⊥
      empty b k = let lt = k.1 in omega (arith, lt, none)

      are_left : (b : ℕ) → is_live v w b ≡ true → (x : Source) → Contains (sources b) x → IsLeft w x
      are_left b e = elim (h.done b e) [ inl k ↦ absurd (empty b k) | inr k ↦ k ]

      -- a block that leads to one at whose beginning the register is live
      leads : (b : ℕ) (x : Block ℕ Note) (n : ℕ) → slice_get bs b ≡ Some x → LeadsOn x.end n → is_live v w n ≡ true → IsLeft w (source_at b (place_of bs b) x)
      leads b x n e l k = are_left n k (source_at b (place_of bs b) x) (sources_have bs n b x (live_within w n small h.live_size k) e l)

      closed : (b : ℕ) → ReachesIn (IsAlive w) (slice_get bs b) v → IsAlive w b
      closed b r = by (slice_get bs b) refl r
        where
          by : (o : Option (Block ℕ Note)) → slice_get bs b ≡ o → ReachesIn (IsAlive w) o v → IsAlive w b
          by None e k = absurd k
          by (Some x) e k = elim (live_opens v bs b x e (IsAlive w) k) [
            | inl o ↦ h.opened b o
            | inr o ↦ let n = ahead_to (IsAlive w) x.end o.1 in (leads b x n.0 e n.1 n.2).1.1 o.0
          ]

      all_live : (k b : ℕ) → Enters bs k v b → IsAlive w b
      all_live k b e = closed_covers bs v (IsAlive w) closed k b e

      covers : (q : ℕ) → LivesAt bs q v → Covered w.found q
      covers q l =
          let i = in_block v bs q l in
          elim (h.covered i.number i.block q i.is i.there) [
            | inl c ↦ c
            | inr o ↦
                let n = ahead_to (Enters bs o.0.0 v) i.block.end o.0.1 in
                let k = leads i.number i.block n.0 i.is n.1 (all_live o.0.0 n.0 n.2) in
                covered_between w.found (low_in i.number accesses (place_of bs i.number)) (end_of v bs i.number i.block) q k.1.0 k.0 o.1 o.2
          ]
