-- A call that is opened serves for the call.
use Rattle.std.proofs.Common.{◌≡◌, ℕ, zero, suc, ◌+◌, ◌<◌, ◌≤◌, Bool, true, false, ◌&&◌, ◌==◌, List, [], ◌∷◌, ◌++◌, length, take, map, Option, Some, None, refl, sym, ap, ◌∙◌, subst, arith, length-append}
use Rattle.std.specs.Prelude.{nat_lt, replicate, slice_get, slice_set}
use Rattle.std.proofs.lemmas.List.{get_or-set_same, get_or-set_other, length-set, get_or-take, length-take-le, length-map, length-replicate}
use Rattle.std.proofs.lemmas.Bool.{eqb-true, ltb-true, lt-ltb}
use Rattle.std.proofs.lemmas.Option.{none-some}
use Rattle.high_ir.specs.Meaning.{World, Variables, State, Outcome, Goes, Leaves, Returns, Bad, Given, Calls, Labels, after_call, at_value, objects_of, only_if, out_of_block, pass, run, run_all, then_do, value_of, values_of, with_value, written}
use Rattle.high_ir.specs.Runs.{enter, frame, given, only_good, takes}
use Rattle.high_ir.specs.Tree.{Expr, Block, Statements, End, Then, Function}
use Rattle.high_renumber.specs.Keeping.{ServesCall}
use Rattle.high_renumber.proofs.Serving.{Opens, calls_refl}
use Rattle.inliner.specs.Moving.{moved}
use Rattle.inliner.specs.Opening.{Site, assigned, call_of, opening}
use Rattle.inliner.proofs.Embedding.{Embeds, IsThere, Kept, Sees, Serves', Turned, held, held_within, left, sees_aside, sees_write}
use Rattle.inliner.proofs.Embedded.{run_moved}
use Rattle.inliner.proofs.Shifting.{meets_passed, value_same}

-- a list of values stands in the variables from a place on
abbrev Stand : ℕ → List ℕ → Variables → Type 0
Stand y [] vs = Unit {0}
Stand y (a ∷ xs) vs = (held vs y ≡ Some a) × Stand (y + 1) xs vs

-- what the frame of a call holds are the values
pub empty_frame : (n i v : ℕ) → held (replicate n None) i ≡ Some v → ⊥
empty_frame zero i v e = cc
empty_frame (suc n) zero v e = cc
empty_frame (suc n) (suc i) v e = empty_frame n i v e

stand_frame : (n y : ℕ) (xs : List ℕ) (vs : Variables) → Stand y xs vs → Sees y (map Some xs ++ replicate n None) vs
stand_frame n y [] vs h = record { by = λ i v e. absurd (empty_frame n i v e) }
stand_frame n y (a ∷ xs) vs h = record { by = λ i v e. go i v e (λ j. (stand_frame n (y + 1) xs vs h.1).by j v) }
  where
    go : (i v : ℕ) → held (map Some (a ∷ xs) ++ replicate n None) i ≡ Some v → ((j : ℕ) → held (map Some xs ++ replicate n None) j ≡ Some v → held vs (y + 1 + j) ≡ Some v) → held vs (y + i) ≡ Some v
    go zero v e k = let z : y + zero ≡ y = omega arith in ap (held vs) z ∙ h.0 ∙ e
    go (suc i) v e k = let z : y + suc i ≡ y + 1 + i = omega arith in ap (held vs) z ∙ k i e

no_list : (xs : List ℕ) (o : Option (List ℕ)) → o ≡ None → o ≡ Some xs → ⊥
no_list xs o p q = cc

values_of-length : (passed : List ℕ) (es : List Expr) (vars : Variables) (w : World) (xs : List ℕ) → values_of passed vars w es ≡ Some xs → length xs ≡ length es
values_of-length passed [] vars w xs e = let q : [] ≡ xs = cc in sym (ap length q)
values_of-length passed (e ∷ es) vars w xs eq = go (value_of passed vars w e) (values_of passed vars w es) eq (λ ys q. values_of-length passed es vars w ys q)
  where
    go : (o : Option ℕ) (p : Option (List ℕ)) → at_value o (λ v. at_value p (λ vs. Some (v ∷ vs))) ≡ Some xs → ((ys : List ℕ) → p ≡ Some ys → length ys ≡ length es) → length xs ≡ length (e ∷ es)
    go None p q ih = absurd (none-some xs q)
    go (Some a) None q ih = absurd (none-some xs q)
    go (Some a) (Some ys) q ih = let all : a ∷ ys ≡ xs = cc in sym (ap length all) ∙ ap suc (ih ys refl)

sees_take : (n : ℕ) (vars vs : Variables) → Sees 0 vars vs → length vars ≤ n → Sees 0 vars (take n vs)
sees_take n vars vs h le = record { by = λ i v e. let lt = held_within vars i v e in get_or-take n vs (0 + i) None (omega arith) ∙ h.by i v e }

take_sees : (n : ℕ) (vs : Variables) → n ≤ length vs → Sees 0 (take n vs) vs
take_sees n vs le = record {
  by = λ i v e.
      let lt = held_within (take n vs) i v e in
      let z : 0 + i ≡ i = omega arith in
      ap (held vs) z ∙ sym (get_or-take n vs i None (omega (arith, length-take-le n vs le))) ∙ e;
}

sees_trans : (vars us vs : Variables) → Sees 0 vars us → Sees 0 us vs → Sees 0 vars vs
sees_trans vars us vs h k = record { by = λ i v e. let z : 0 + (0 + i) ≡ 0 + i = omega arith in ap (held vs) (sym z) ∙ k.by (0 + i) v (h.by i v e) }

-- a larger frame of a caller: its first variables are the caller's own, and from the n-th on it has room
module _ (own n size : ℕ) (least : own ≤ n) (passed : List ℕ) (l : Labels) (d : Calls) (vars : Variables) (w : World) (trace : List ℕ) where
  abbrev at : Variables → State
  at vs = record { variables = vs; world = w; trace = trace }

  -- what the writes of the values leave
  abbrev Written : ℕ → List ℕ → Variables → Statements → Outcome → Type 0
  Written y xs vs after o = (ts : Variables) × (o ≡ run_all l d passed after (at ts)) × Embeds [] own size vars ts × Stand y xs ts × ((i : ℕ) → i < y → held ts i ≡ held vs i)

  embeds_aside : (vs : Variables) (y a : ℕ) → Embeds [] own size vars vs → n ≤ y → Embeds [] own size vars (slice_set vs y (Some a))
  embeds_aside vs y a h le = record {
    below = sees_aside 0 [] vs y a h.below (omega arith);
    own = sees_aside 0 vars vs y a h.own (omega (arith, le, least, h.fits));
    fits = h.fits;
    room = h.room;
    same = rw length-set h.same;
  }

  set_run : (vs : Variables) (y a : ℕ) (e : Expr) (rest : Statements) → value_of passed vs w e ≡ Some a → y < length vs → then_do (with_value (value_of passed vs w e) (λ v. with_value (written vs y v) (λ us. Goes (at us)))) (run_all l d passed rest) ≡ run_all l d passed rest (at (slice_set vs y (Some a)))
  set_run vs y a e rest value lt =
      ap (λ o. then_do (with_value o (λ v. with_value (written vs y v) (λ us. Goes (at us)))) (run_all l d passed rest)) value
      ∙ ap (λ b. then_do (with_value (only_if b (Some (slice_set vs y (Some a)))) (λ us. Goes (at us))) (run_all l d passed rest)) (lt-ltb y (length vs) lt)

  sets_run : (es : List Expr) (y : ℕ) (xs : List ℕ) (vs : Variables) (after : Statements) → n ≤ y → y + length es ≤ size → values_of passed vars w es ≡ Some xs → Embeds [] own size vars vs → Written y xs vs after (run_all l d passed (assigned y es after) (at vs))
  sets_run [] y xs vs after le fit e h = let q : [] ≡ xs = cc in (vs, refl, h, subst (λ zs. Stand y zs vs) q tt, λ i lt. refl)
  sets_run (e ∷ es) y xs vs after le fit eq h =
      go (value_of passed vars w e) (values_of passed vars w es) refl refl eq (λ a bs q. sets_run es (y + 1) bs (slice_set vs y (Some a)) after (omega (arith, le)) (omega (arith, fit)) q (embeds_aside vs y a h le))
    where
      go : (o : Option ℕ) (p : Option (List ℕ)) → value_of passed vars w e ≡ o → values_of passed vars w es ≡ p → at_value o (λ v. at_value p (λ vs. Some (v ∷ vs))) ≡ Some xs →
          ((a : ℕ) (bs : List ℕ) → values_of passed vars w es ≡ Some bs → Written (y + 1) bs (slice_set vs y (Some a)) after (run_all l d passed (assigned (y + 1) es after) (at (slice_set vs y (Some a))))) →
          Written y xs vs after (run_all l d passed (assigned y (e ∷ es) after) (at vs))
      go None p q r eq ih = absurd (none-some xs eq)
      go (Some a) None q r eq ih = absurd (none-some xs eq)
      go (Some a) (Some bs) q r eq ih =
          let all : a ∷ bs ≡ xs = cc in
          let rest = ih a bs r in
          let there : y < length vs = omega (arith, fit, h.same) in
          let first = set_run vs y a e (assigned (y + 1) es after) (value_same passed vars vs h.own w e a q) there in (
            rest.0,
            first ∙ rest.1,
            rest.2,
            subst (λ zs. Stand y zs rest.0) all (rest.4 y (omega arith) ∙ get_or-set_same vs y (Some a) None there, rest.3),
            λ i lt. rest.4 i (omega (arith, lt)) ∙ get_or-set_other vs y i (Some a) None (λ z. omega (arith, z, lt)),
          )

no_given : (g : Given) (o : Option Given) → o ≡ None → o ≡ Some g → ⊥
no_given g o p q = cc

-- what a good call of a function did: the numbers of values and arrays are right, its opening mark has a label, and its body returned
pub record Entered (l : Labels) (d : Calls) (f : ℕ) (h : Function) (xs ns : List ℕ) (w : World) (trace : List ℕ) (g : Given) : Type 0 where
  pub values : length xs ≡ h.values
  pub label : ℕ
  pub labelled : l f ≡ Some label
  pub returned : run l d ns h.body (record { variables = frame h xs; world = w; trace = trace ++ label ∷ [] }) ≡ Returns g.value g.world g.trace

pub both_true : (a b : Bool) → (a && b) ≡ true → a ≡ true
both_true true b e = refl
both_true false b e = cc

entered : (l : Labels) (d : Calls) (f : ℕ) (h : Function) (xs ns : List ℕ) (w : World) (trace : List ℕ) (g : Given) → enter l (Some h) d f xs ns w trace ≡ Some g → Entered l d f h xs ns w trace g
entered l d f h xs ns w trace g is = by_takes (takes h xs ns) refl (l f) refl is
  where
    st : State
    st = record { variables = frame h xs; world = w; trace = trace }

    by_end : (m : ℕ) → length xs ≡ h.values → l f ≡ Some m → (o : Outcome) → run l d ns h.body (record { variables = frame h xs; world = w; trace = trace ++ m ∷ [] }) ≡ o → given o ≡ Some g → Entered l d f h xs ns w trace g
    by_end m count label (Goes su) same e = absurd (none-some g e)
    by_end m count label (Leaves j su) same e = absurd (none-some g e)
    by_end m count label Bad same e = absurd (none-some g e)
    by_end m count label (Returns v u t) same e =
        let whole : record { value = v; world = u; trace = t } ≡ g = cc in
        record { values = count; label = m; labelled = label; returned = same ∙ ap (λ z. Returns z.value z.world z.trace) whole }

    by_label : length xs ≡ h.values → (o : Option ℕ) → l f ≡ o → given (then_do (pass o st) (run l d ns h.body)) ≡ Some g → Entered l d f h xs ns w trace g
    by_label count None same e = absurd (none-some g e)
    by_label count (Some m) same e = by_end m count same (run l d ns h.body (record { variables = frame h xs; world = w; trace = trace ++ m ∷ [] })) refl e

    by_takes : (b : Bool) → takes h xs ns ≡ b → (o : Option ℕ) → l f ≡ o → given (only_good b (then_do (pass o st) (run l d ns h.body))) ≡ Some g → Entered l d f h xs ns w trace g
    by_takes false same o label e = absurd (none-some g e)
    by_takes true same o label e = by_label (eqb-true (length xs) h.values (both_true (length xs == h.values) (length ns == h.arrays) same)) o label e

module _ (own n size : ℕ) (least : own ≤ n) (passed : List ℕ) (l : Labels) (d : Calls) (vars : Variables) (w : World) (trace : List ℕ) (s : Site) (h : Function) (room : n + (h.values + h.locals) ≤ size) where
  -- what a body that returned leaves in the place of the call
  landed : (xs ns : List ℕ) (m : ℕ) (v : ℕ) (u : World) (t : List ℕ) (ts : Variables) → objects_of passed s.arrays ≡ Some ns → length xs ≡ h.values → Embeds [] own size vars ts → Stand n xs ts → IsThere s.into vars →
      run l d ns h.body (record { variables = frame h xs; world = w; trace = trace ++ m ∷ [] }) ≡ Returns v u t →
      (vs : Variables) × (run l d passed (Block (moved (record { base = n; arrays = s.arrays; into = s.into }) 0 h.body)) (record { variables = ts; world = w; trace = trace ++ m ∷ [] }) ≡ Goes (record { variables = vs; world = u; trace = t })) × Sees 0 (left (take n ts) s.into v) vs × (length vs ≡ size)
  landed xs ns m v u t ts arrays count emb stands there returned =
      let low : Variables = take n ts in
      let len : length low ≡ n = length-take-le n ts (omega (arith, emb.same, room)) in
      let most = h.values + h.locals in
      let inside : Embeds low most size (frame h xs) ts = record {
        below = take_sees n ts (omega (arith, emb.same, room));
        own = subst (λ k. Sees k (frame h xs) ts) (sym len) (stand_frame h.locals n xs ts stands);
        fits = simp (length-append, length-map, length-replicate) (omega (arith, count));
        room = subst (λ k. k + most ≤ size) (sym len) room;
        same = emb.same;
      } in
      let ran = run_moved low most size s.arrays s.into (low_there s.into there low len) passed ns (meets_passed s.arrays passed ns arrays) l d d (calls_refl d) 0 h.body (frame h xs) ts w (trace ++ m ∷ []) inside in
      let got = subst (λ o. Serves' low most size (Turned 0 s.into) o (run l d passed (moved (record { base = length low; arrays = s.arrays; into = s.into }) 0 h.body) (record { variables = ts; world = w; trace = trace ++ m ∷ [] }))) returned ran in (
        got.0,
        ap (λ k. out_of_block (run l d passed (moved (record { base = k; arrays = s.arrays; into = s.into }) 0 h.body) (record { variables = ts; world = w; trace = trace ++ m ∷ [] }))) (sym len) ∙ ap out_of_block got.1,
        got.2,
        got.3,
      )
    where
      low_there : (into : Option ℕ) → IsThere into vars → (low : Variables) → length low ≡ n → IsThere into low
      low_there None h low len = tt
      low_there (Some x) h low len = omega (arith, h, len, least, emb.fits)

  -- the call wrote what the body left
  taken_over : (into : Option ℕ) (v : ℕ) (u : World) (t : List ℕ) (ts vs : Variables) (y : Outcome) → IsThere into vars → Embeds [] own size vars ts → y ≡ Goes (record { variables = vs; world = u; trace = t }) → Sees 0 (left (take n ts) into v) vs → length vs ≡ size →
      Serves' [] own size Kept (after_call vars into (Some (record { value = v; world = u; trace = t }))) y
  taken_over None v u t ts vs y there emb is sees same =
      (vs, is, record { below = record { by = λ i x e. absurd (empty_frame 0 i x e) }; own = sees_trans vars (take n ts) vs (sees_take n vars ts emb.own (omega (arith, least, emb.fits))) sees; fits = emb.fits; room = emb.room; same = same })
  taken_over (Some x) v u t ts vs y there emb is sees same =
      let low = take n ts in
      let len : length low ≡ n = length-take-le n ts (omega (arith, emb.same, room)) in
      subst (λ b. Serves' [] own size Kept (with_value (only_if b (Some (slice_set vars x (Some v)))) (λ us. Goes (record { variables = us; world = u; trace = t }))) y) (sym (lt-ltb x (length vars) there)) (
        vs,
        is,
        record {
          below = record { by = λ i z e. absurd (empty_frame 0 i z e) };
          own = sees_trans (slice_set vars x (Some v)) (slice_set low x (Some v)) vs (low_write x v low len there (sees_take n vars ts emb.own (omega (arith, least, emb.fits)))) sees;
          fits = rw length-set emb.fits;
          room = emb.room;
          same = same;
        },
      )
    where
      low_write : (x v : ℕ) (low : Variables) → length low ≡ n → x < length vars → Sees 0 vars low → Sees 0 (slice_set vars x (Some v)) (slice_set low x (Some v))
      low_write x v low len lt sees =
          let z : 0 + x ≡ x = omega arith in
          subst (λ k. Sees 0 (slice_set vars x (Some v)) (slice_set low k (Some v))) z (sees_write 0 vars low x v sees lt (omega (arith, lt, len, least, emb.fits)))

  -- a good call, opened
  good_call : (xs ns : List ℕ) (g : Given) (vs : Variables) → values_of passed vars w s.values ≡ Some xs → objects_of passed s.arrays ≡ Some ns → IsThere s.into vars → Embeds [] own size vars vs → Entered l d s.function h xs ns w trace g →
      Serves' [] own size Kept (after_call vars s.into (Some g)) (run l d passed (opening s n h.body) (record { variables = vs; world = w; trace = trace }))
  good_call xs ns g vs values arrays there emb e =
      let passed_by : Variables → State = λ us. record { variables = us; world = w; trace = trace ++ e.label ∷ [] } in
      let body : Statements = Then (Block (moved (record { base = n; arrays = s.arrays; into = s.into }) 0 h.body)) End in
      let count : length s.values ≡ h.values = sym (values_of-length passed s.values vars w xs values) ∙ e.values in
      let r = sets_run own n size least passed l d vars w (trace ++ e.label ∷ []) s.values n xs vs body (omega arith) (omega (arith, count, room)) values emb in
      let landing = landed xs ns e.label g.value g.world g.trace r.0 arrays e.values r.2 r.3 there e.returned in
      taken_over s.into g.value g.world g.trace r.0 landing.0 (run l d passed (opening s n h.body) (record { variables = vs; world = w; trace = trace })) there r.2
      (ap (λ o. then_do (pass o (record { variables = vs; world = w; trace = trace })) (run_all l d passed (assigned n s.values body))) e.labelled
      ∙ r.1
      ∙ ap (λ o. then_do o Goes) landing.1)
      landing.2 landing.3

  -- a call whose value has no place has no good run
  no_place : (into : Option ℕ) (x : ℕ) (o : Option Given) (y : Outcome) → into ≡ Some x → nat_lt x (length vars) ≡ false → Serves' [] own size Kept (after_call vars into o) y
  no_place None x o y is past = absurd (none-some x is)
  no_place (Some z) x None y is past = tt
  no_place (Some z) x (Some g) y is past =
      let same : z ≡ x = cc in
      subst (λ b. Serves' [] own size Kept (with_value (only_if b (Some (slice_set vars z (Some g.value)))) (λ vs. Goes (record { variables = vs; world = g.world; trace = g.trace }))) y) (sym (ap (λ k. nat_lt k (length vars)) same ∙ past)) tt

  by_given : (xs ns : List ℕ) (vs : Variables) → values_of passed vars w s.values ≡ Some xs → objects_of passed s.arrays ≡ Some ns → IsThere s.into vars → Embeds [] own size vars vs → (o : Option Given) → ServesCall o (enter l (Some h) d s.function xs ns w trace) →
      Serves' [] own size Kept (after_call vars s.into o) (run l d passed (opening s n h.body) (record { variables = vs; world = w; trace = trace }))
  by_given xs ns vs values arrays there emb None call = tt
  by_given xs ns vs values arrays there emb (Some g) call = good_call xs ns g vs values arrays there emb (entered l d s.function h xs ns w trace g call)

  by_place : (xs ns : List ℕ) (vs : Variables) → values_of passed vars w s.values ≡ Some xs → objects_of passed s.arrays ≡ Some ns → Embeds [] own size vars vs → (o : Option Given) → ServesCall o (enter l (Some h) d s.function xs ns w trace) → (into : Option ℕ) → s.into ≡ into →
      Serves' [] own size Kept (after_call vars s.into o) (run l d passed (opening s n h.body) (record { variables = vs; world = w; trace = trace }))
  by_place xs ns vs values arrays emb o call None is = by_given xs ns vs values arrays (subst (λ i. IsThere i vars) (sym is) tt) emb o call
  by_place xs ns vs values arrays emb o call (Some x) is = at_test (nat_lt x (length vars)) refl
    where
      at_test : (b : Bool) → nat_lt x (length vars) ≡ b → Serves' [] own size Kept (after_call vars s.into o) (run l d passed (opening s n h.body) (record { variables = vs; world = w; trace = trace }))
      at_test false past = no_place s.into x o _ is past
      at_test true within = by_given xs ns vs values arrays (subst (λ i. IsThere i vars) (sym is) (ltb-true x (length vars) within)) emb o call

  -- a call, and what it becomes when it is opened
  pub open_serves : (fs : List Function) (c : Calls) → Opens l fs c d → slice_get fs s.function ≡ Some h → (vs : Variables) → Embeds [] own size vars vs →
      Serves' [] own size Kept (run l c passed (call_of s) (record { variables = vars; world = w; trace = trace })) (run l d passed (opening s n h.body) (record { variables = vs; world = w; trace = trace }))
  open_serves fs c opens found vs emb = by_values (values_of passed vars w s.values) refl
    where
      y : Outcome
      y = run l d passed (opening s n h.body) (record { variables = vs; world = w; trace = trace })

      by_arrays : (xs : List ℕ) → values_of passed vars w s.values ≡ Some xs → (p : Option (List ℕ)) → objects_of passed s.arrays ≡ p → Serves' [] own size Kept (with_value p (λ ns. after_call vars s.into (c s.function xs ns w trace))) y
      by_arrays xs values None is = tt
      by_arrays xs values (Some ns) is =
          by_place xs ns vs values is emb (c s.function xs ns w trace)
          (subst (λ o. ServesCall (c s.function xs ns w trace) (enter l o d s.function xs ns w trace)) found (opens.by s.function xs ns w trace)) s.into refl

      by_values : (o : Option (List ℕ)) → values_of passed vars w s.values ≡ o → Serves' [] own size Kept (with_value o (λ xs. with_value (objects_of passed s.arrays) (λ ns. after_call vars s.into (c s.function xs ns w trace)))) y
      by_values None is = tt
      by_values (Some xs) is = by_arrays xs is (objects_of passed s.arrays) refl
