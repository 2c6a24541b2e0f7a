-- A larger frame keeps what a frame holds.
use Rattle.std.proofs.Common.{◌≡◌, ℕ, zero, suc, ◌+◌, ◌-◌, ◌<◌, ◌≤◌, Bool, true, false, List, length, Option, Some, None, refl, sym, ap, ◌∙◌, subst, ⊎_elim, arith}
use Rattle.std.specs.Prelude.{nat_lt, slice_index_or, slice_set}
use Rattle.std.proofs.lemmas.List.{get_or-set_same, get_or-set_other, get_or_past, length-set}
use Rattle.std.proofs.lemmas.Bool.{cases_lt, cases_eq, ltb-true, lt-ltb}
use Rattle.high_ir.specs.Meaning.{World, Variables, State, Outcome, Goes, Leaves, Returns, Bad, again, choose, only_if, out_of_block, then_do, turns, with_value, written}

-- what becomes of a return: it stays, or it leaves so many blocks and one more, behind a write to a variable if there is one
pub data Ending : Type 0 where
  Kept : Ending
  Turned : (depth : ℕ) (into : Option ℕ) → Ending

-- the ending in a block
abbrev pub inner : Ending → Ending
inner Kept = Kept
inner (Turned d into) = Turned (d + 1) into

abbrev pub IsWithin : Ending → ℕ → Type 0
IsWithin Kept j = Unit {0}
IsWithin (Turned d into) j = j < d

abbrev pub IsThere : Option ℕ → Variables → Type 0
IsThere None outer = Unit {0}
IsThere (Some x) outer = x < length outer

-- what variables hold behind a return
abbrev pub left : Variables → Option ℕ → ℕ → Variables
left outer None v = outer
left outer (Some x) v = slice_set outer x (Some v)

-- what a variable holds, none where it isn't there
abbrev pub held : Variables → ℕ → Option ℕ
held vars i = slice_index_or vars i None

-- the second list has what the first has, from place `base` on
pub record Sees (base : ℕ) (vars vs : Variables) : Type 0 where
  pub by : (i v : ℕ) → held vars i ≡ Some v → held vs (base + i) ≡ Some v

-- a frame `vs` of `size` variables has the outer variables and, behind them, the variables of a frame of `most`
pub record Embeds (outer : Variables) (most size : ℕ) (vars vs : Variables) : Type 0 where
  pub below : Sees 0 outer vs
  pub own : Sees (length outer) vars vs
  pub fits : length vars ≤ most
  pub room : length outer + most ≤ size
  pub same : length vs ≡ size

module _ (outer : Variables) (most size : ℕ) where
  abbrev pub Serves' : Ending → Outcome → Outcome → Type 0
  Serves' e (Goes st) y = (vs : Variables) × (y ≡ Goes (record { variables = vs; world = st.world; trace = st.trace })) × Embeds outer most size st.variables vs
  Serves' e (Leaves j st) y = IsWithin e j → (vs : Variables) × (y ≡ Leaves j (record { variables = vs; world = st.world; trace = st.trace })) × Embeds outer most size st.variables vs
  Serves' Kept (Returns v w t) y = y ≡ Returns v w t
  Serves' (Turned d into) (Returns v w t) y = (vs : Variables) × (y ≡ Leaves d (record { variables = vs; world = w; trace = t })) × Sees 0 (left outer into v) vs × (length vs ≡ size)
  Serves' e Bad y = Unit {0}

no_value : (o : Option ℕ) (u : ℕ) → o ≡ None → o ≡ Some u → ⊥
no_value o u p q = cc

-- what is held is there
pub held_within : (vars : Variables) (i v : ℕ) → held vars i ≡ Some v → i < length vars
held_within vars i v h = ⊎_elim (λ lt. lt) (λ (le : length vars ≤ i). let past = get_or_past vars i None le in absurd (no_value (held vars i) v past h)) (cases_lt i (length vars))

-- a write to a place of both
pub sees_write : (base : ℕ) (vars vs : Variables) (x v : ℕ) → Sees base vars vs → x < length vars → base + x < length vs → Sees base (slice_set vars x (Some v)) (slice_set vs (base + x) (Some v))
sees_write base vars vs x v h lt lt' = record {
  by = λ i u e. ⊎_elim
      (λ (same : i ≡ x). let a = get_or-set_same vars x (Some v) None lt in let b = get_or-set_same vs (base + x) (Some v) None lt' in
      let f : held (slice_set vs (base + x) (Some v)) (base + x) ≡ Some u = b ∙ sym a ∙ ap (λ k. held (slice_set vars x (Some v)) k) (sym same) ∙ e in
      ap (λ k. held (slice_set vs (base + x) (Some v)) (base + k)) same ∙ f)
      (λ (other : i ≡ x → ⊥). let apart : base + i ≡ base + x → ⊥ = λ q. other (omega arith) in
      get_or-set_other vs (base + x) (base + i) (Some v) None apart ∙ h.by i u (sym (get_or-set_other vars x i (Some v) None other) ∙ e))
      (cases_eq i x);
}

-- a write behind the places of the first
pub sees_aside : (base : ℕ) (vars vs : Variables) (y v : ℕ) → Sees base vars vs → base + length vars ≤ y → Sees base vars (slice_set vs y (Some v))
sees_aside base vars vs y v h le = record {
  by = λ i u e.
      let lt = held_within vars i u e in
      let apart : base + i ≡ y → ⊥ = λ q. omega arith in
      get_or-set_other vs y (base + i) (Some v) None apart ∙ h.by i u e;
}

module _ (outer : Variables) (most size : ℕ) where
  pub embeds_write : (vars vs : Variables) (x v : ℕ) → Embeds outer most size vars vs → x < length vars → Embeds outer most size (slice_set vars x (Some v)) (slice_set vs (length outer + x) (Some v))
  embeds_write vars vs x v h lt = record {
    below = sees_aside 0 outer vs (length outer + x) v h.below (omega arith);
    own = sees_write (length outer) vars vs x v h.own lt (omega (arith, h.fits, h.room, h.same));
    fits = rw length-set h.fits;
    room = h.room;
    same = rw length-set h.same;
  }

  -- what follows a write
  pub serves_write : (e : Ending) (vars vs : Variables) (x v : ℕ) (f g : Variables → Outcome) → Embeds outer most size vars vs → ((us ts : Variables) → Embeds outer most size us ts → Serves' outer most size e (f us) (g ts)) → Serves' outer most size e (with_value (written vars x v) f) (with_value (written vs (length outer + x) v) g)
  serves_write e vars vs x v f g h k = at (nat_lt x (length vars)) refl
    where
      at : (b : Bool) → nat_lt x (length vars) ≡ b → Serves' outer most size e (with_value (only_if b (Some (slice_set vars x (Some v)))) f) (with_value (written vs (length outer + x) v) g)
      at false is = tt
      at true is =
          let lt = ltb-true x (length vars) is in
          let lt' : length outer + x < length vs = omega (arith, h.fits, h.room, h.same) in
          subst (λ b. Serves' outer most size e (f (slice_set vars x (Some v))) (with_value (only_if b (Some (slice_set vs (length outer + x) (Some v)))) g)) (sym (lt-ltb (length outer + x) (length vs) lt'))
          (k _ _ (embeds_write vars vs x v h lt))

  pub serves_value : {A : Type 0} (e : Ending) (o p : Option A) (f g : A → Outcome) → ((v : A) → o ≡ Some v → p ≡ Some v) → ((v : A) → Serves' outer most size e (f v) (g v)) → Serves' outer most size e (with_value o f) (with_value p g)
  serves_value e None p f g h k = tt
  serves_value e (Some v) p f g h k = subst (λ q. Serves' outer most size e (f v) (with_value q g)) (sym (h v refl)) (k v)

  abbrev GoesOn : Ending → (f g : State → Outcome) → Type 0
  GoesOn e f g = (vars vs : Variables) (w : World) (t : List ℕ) → Embeds outer most size vars vs → Serves' outer most size e (f (record { variables = vars; world = w; trace = t })) (g (record { variables = vs; world = w; trace = t }))

  pub serves_then : (e : Ending) (x y : Outcome) (f g : State → Outcome) → Serves' outer most size e x y → GoesOn e f g → Serves' outer most size e (then_do x f) (then_do y g)
  serves_then e (Goes st) y f g h k = subst (λ o. Serves' outer most size e (f st) (then_do o g)) (sym h.1) (k st.variables h.0 st.world st.trace h.2)
  serves_then e (Leaves j st) y f g h k = λ within. let r = h within in (r.0, ap (λ o. then_do o g) r.1, r.2)
  serves_then Kept (Returns v w t) y f g h k = ap (λ o. then_do o g) h
  serves_then (Turned d into) (Returns v w t) y f g h k = (h.0, ap (λ o. then_do o g) h.1, h.2, h.3)
  serves_then e Bad y f g h k = tt

  within_inner : (e : Ending) (j : ℕ) → IsWithin e j → IsWithin (inner e) (suc j)
  within_inner Kept j h = tt
  within_inner (Turned d into) j h = omega (arith, h)

  within_zero : (e : Ending) → IsWithin (inner e) 0
  within_zero Kept = tt
  within_zero (Turned d into) = omega arith

  leaves_one : (d : ℕ) (st : State) → out_of_block (Leaves (d + 1) st) ≡ Leaves d st
  leaves_one d st = let e : d + 1 ≡ suc d = omega arith in ap (λ k. out_of_block (Leaves k st)) e

  pub serves_block : (e : Ending) (x y : Outcome) → Serves' outer most size (inner e) x y → Serves' outer most size e (out_of_block x) (out_of_block y)
  serves_block e (Goes st) y h = (h.0, ap out_of_block h.1, h.2)
  serves_block e (Leaves zero st) y h = let r = h (within_zero e) in (r.0, ap out_of_block r.1, r.2)
  serves_block e (Leaves (suc j) st) y h = λ within. let r = h (within_inner e j within) in (r.0, ap out_of_block r.1, r.2)
  serves_block Kept (Returns v w t) y h = ap out_of_block h
  serves_block (Turned d into) (Returns v w t) y h = (h.0, ap out_of_block h.1 ∙ leaves_one d (record { variables = h.0; world = w; trace = t }), h.2, h.3)
  serves_block e Bad y h = tt

  pub serves_choose : (e : Ending) (v : ℕ) (a b c d : Outcome) → Serves' outer most size e a c → Serves' outer most size e b d → Serves' outer most size e (choose v a b) (choose v c d)
  serves_choose e zero a b c d h k = k
  serves_choose e (suc v) a b c d h k = h

  serves_again : (e : Ending) (o : ℕ) (x y : Outcome) (f g : State → Outcome) → Serves' outer most size e x y → GoesOn e f g → Serves' outer most size e (again o f x) (again o g y)
  serves_again e o (Goes st) y f g h k = subst (λ q. Serves' outer most size e (f st) (again o g q)) (sym h.1) (k st.variables h.0 st.world st.trace h.2)
  serves_again e zero (Leaves j st) y f g h k = λ within. let r = h within in (r.0, ap (λ q. again zero g q) r.1, r.2)
  serves_again e (suc o) (Leaves j st) y f g h k = tt
  serves_again Kept zero (Returns v w t) y f g h k = ap (λ q. again zero g q) h
  serves_again (Turned d into) zero (Returns v w t) y f g h k = (h.0, ap (λ q. again zero g q) h.1, h.2, h.3)
  serves_again e (suc o) (Returns v w t) y f g h k = tt
  serves_again e o Bad y f g h k = tt

  pub serves_turns : (e : Ending) (n owed : ℕ) (f g : State → Outcome) → GoesOn e f g → GoesOn e (turns n owed f) (turns n owed g)
  serves_turns e zero owed f g k vars vs w t h = tt
  serves_turns e (suc n) owed f g k vars vs w t h = serves_again e (owed - 1) _ _ _ _ (k vars vs w t h) (serves_turns e n (owed - 1) f g k)
