-- The blocks that are left, by their numbers.
use Rattle.std.proofs.Common.{◌≡◌, ◌<◌, ◌≤◌, ◌+◌, ℕ, zero, suc, List, [], ◌∷◌, length, Option, Some, None, refl, sym, ap, ◌∙◌, subst, ⊎_elim, arith}
use Rattle.std.specs.Prelude.{nat_lt, slice_get, true, false, Bool, ◌⊎◌}
use Rattle.std.proofs.Common.{inl, inr}
use Rattle.std.proofs.lemmas.Bool.{ltb-true, ltb-false}
use Rattle.low_ir.specs.Code.{Block, Function, Note}
use Rattle.pass_jump_threading_law.specs.Threads.{BlockThreaded, Blocks, Plan}

pub some_same : {A : Type 0} (x y : A) → Some x ≡ Some y → x ≡ y
some_same x y e = cc

pub none_some : {A P : Type 0} (o : Option A) (x : A) → o ≡ None → o ≡ Some x → P
none_some o x none some = cc

pub order : (a b : ℕ) → (a < b) ⊎ ((a ≡ b) ⊎ (b < a))
order a b = by_tests (nat_lt a b) (nat_lt b a) refl refl
  where
    by_tests : (x y : Bool) → nat_lt a b ≡ x → nat_lt b a ≡ y → (a < b) ⊎ ((a ≡ b) ⊎ (b < a))
    by_tests true y e f = inl (ltb-true a b e)
    by_tests false true e f = inr (inr (ltb-true b a f))
    by_tests false false e f =
        let g = ltb-false a b e in
        let h = ltb-false b a f in
        inr (inl (omega (arith, g, h)))

pub inside_at : {A : Type 0} (xs : List A) (n : ℕ) (x : A) → slice_get xs n ≡ Some x → n < length xs
inside_at [] n x e = cc
inside_at (y ∷ xs) zero x e = omega arith
inside_at (y ∷ xs) (suc n) x e = let h = inside_at xs n x e in omega (arith, h)

abbrev LowBlocks : Type 0
LowBlocks = List (Block ℕ Note)

-- a block that is left out, and one that is left
abbrev pub LeftOut : Function ℕ Note → Plan → ℕ → ℕ → LowBlocks → LowBlocks → Type 0
LeftOut fn plan n m bs cs = (plan.name n ≡ None) × Blocks fn plan (suc n) m bs cs

abbrev pub IsLeft : Function ℕ Note → Plan → ℕ → ℕ → Block ℕ Note → Block ℕ Note → LowBlocks → LowBlocks → Type 0
IsLeft fn plan n m b c bs cs = (plan.name n ≡ Some m) × BlockThreaded fn plan n b c × Blocks fn plan (suc n) (suc m) bs cs

-- what became of a block that is left
pub record Left (fn : Function ℕ Note) (plan : Plan) (m k : ℕ) (cs : LowBlocks) (number : ℕ) (b : Block ℕ Note) : Type 0 where
  pub place : ℕ
  pub it : Block ℕ Note
  pub is : k ≡ m + place
  pub there : slice_get cs place ≡ Some it
  pub same : BlockThreaded fn plan number b it

-- what a block comes from
pub record From (fn : Function ℕ Note) (plan : Plan) (n k : ℕ) (bs : LowBlocks) (c : Block ℕ Note) : Type 0 where
  pub place : ℕ
  pub number : ℕ
  pub it : Block ℕ Note
  pub at : number ≡ n + place
  pub there : slice_get bs place ≡ Some it
  pub named : plan.name number ≡ Some k
  pub same : BlockThreaded fn plan number it c

module _ (fn : Function ℕ Note) (plan : Plan) where
  pub left_at : (bs : LowBlocks) (n m : ℕ) (cs : LowBlocks) → Blocks fn plan n m bs cs → (i number k : ℕ) (b : Block ℕ Note) → number ≡ n + i → slice_get bs i ≡ Some b → plan.name number ≡ Some k → Left fn plan m k cs number b
  left_at [] n m cs h i number k b at e named = cc
  left_at (x ∷ bs) n m [] h zero number k b at e named =
      let same : number ≡ n = omega (arith, at) in
      none_some (plan.name number) k (ap plan.name same ∙ h.0) named
  left_at (x ∷ bs) n m (c ∷ cs) h zero number k b at e named =
      let same : number ≡ n = omega (arith, at) in
      let is : x ≡ b = cc in
      ⊎_elim
      (λ (out : LeftOut fn plan n m bs (c ∷ cs)). none_some (plan.name number) k (ap plan.name same ∙ out.0) named)
      (λ (kept : IsLeft fn plan n m x c bs cs).
      let first : m ≡ k = some_same m k (sym kept.0 ∙ ap plan.name (sym same) ∙ named) in
      record {
        place = 0;
        it = c;
        is = omega (arith, first);
        there = refl;
        same = subst (λ j. BlockThreaded fn plan j b c) (sym same) (subst (λ y. BlockThreaded fn plan n y c) is kept.1);
      })
      h
  left_at (x ∷ bs) n m [] h (suc i) number k b at e named =
      let next : number ≡ suc n + i = omega (arith, at) in
      left_at bs (suc n) m [] h.1 i number k b next e named
  left_at (x ∷ bs) n m (c ∷ cs) h (suc i) number k b at e named =
      let next : number ≡ suc n + i = omega (arith, at) in
      ⊎_elim
      (λ (out : LeftOut fn plan n m bs (c ∷ cs)). left_at bs (suc n) m (c ∷ cs) out.1 i number k b next e named)
      (λ (kept : IsLeft fn plan n m x c bs cs).
      let l = left_at bs (suc n) (suc m) cs kept.2 i number k b next e named in
      let more : k ≡ suc m + l.place = l.is in
      record { place = suc l.place; it = l.it; is = omega (arith, more); there = l.there; same = l.same })
      h

  pub from_at : (bs : LowBlocks) (n m : ℕ) (cs : LowBlocks) → Blocks fn plan n m bs cs → (j k : ℕ) (c : Block ℕ Note) → k ≡ m + j → slice_get cs j ≡ Some c → From fn plan n k bs c
  from_at [] n m cs h j k c at e =
      let none : slice_get cs j ≡ None = ap (λ l. slice_get l j) h in
      none_some (slice_get cs j) c none e
  from_at (x ∷ bs) n m [] h j k c at e = cc
  from_at (x ∷ bs) n m (y ∷ cs) h zero k c at e =
      let same : k ≡ m = omega (arith, at) in
      let is : y ≡ c = cc in
      ⊎_elim
      (λ (out : LeftOut fn plan n m bs (y ∷ cs)).
      let l = from_at bs (suc n) m (y ∷ cs) out.1 zero k c at e in
      let more : l.number ≡ suc n + l.place = l.at in
      record { place = suc l.place; number = l.number; it = l.it; at = omega (arith, more); there = l.there; named = l.named; same = l.same })
      (λ (kept : IsLeft fn plan n m x y bs cs).
      record {
        place = 0;
        number = n;
        it = x;
        at = omega arith;
        there = refl;
        named = kept.0 ∙ ap Some (sym same);
        same = subst (BlockThreaded fn plan n x) is kept.1;
      })
      h
  from_at (x ∷ bs) n m (y ∷ cs) h (suc j) k c at e =
      ⊎_elim
      (λ (out : LeftOut fn plan n m bs (y ∷ cs)).
      let l = from_at bs (suc n) m (y ∷ cs) out.1 (suc j) k c at e in
      let more : l.number ≡ suc n + l.place = l.at in
      record { place = suc l.place; number = l.number; it = l.it; at = omega (arith, more); there = l.there; named = l.named; same = l.same })
      (λ (kept : IsLeft fn plan n m x y bs cs).
      let next : k ≡ suc m + j = omega (arith, at) in
      let l = from_at bs (suc n) (suc m) cs kept.2 j k c next e in
      let more : l.number ≡ suc n + l.place = l.at in
      record { place = suc l.place; number = l.number; it = l.it; at = omega (arith, more); there = l.there; named = l.named; same = l.same })
      h

  -- numbers don't fall below the first
  least : (bs : LowBlocks) (n m : ℕ) (cs : LowBlocks) → Blocks fn plan n m bs cs → (i number k : ℕ) → number ≡ n + i → i < length bs → plan.name number ≡ Some k → m ≤ k
  least [] n m cs h i number k at inside named = absurd (omega (arith, inside))
  least (x ∷ bs) n m [] h zero number k at inside named =
      let same : number ≡ n = omega (arith, at) in
      none_some (plan.name number) k (ap plan.name same ∙ h.0) named
  least (x ∷ bs) n m (c ∷ cs) h zero number k at inside named =
      let same : number ≡ n = omega (arith, at) in
      ⊎_elim
      (λ (out : LeftOut fn plan n m bs (c ∷ cs)). none_some (plan.name number) k (ap plan.name same ∙ out.0) named)
      (λ (kept : IsLeft fn plan n m x c bs cs).
      let first : m ≡ k = some_same m k (sym kept.0 ∙ ap plan.name (sym same) ∙ named) in
      omega (arith, first))
      h
  least (x ∷ bs) n m [] h (suc i) number k at inside named =
      let next : number ≡ suc n + i = omega (arith, at) in
      let short : i < length bs = omega (arith, inside) in
      least bs (suc n) m [] h.1 i number k next short named
  least (x ∷ bs) n m (c ∷ cs) h (suc i) number k at inside named =
      let next : number ≡ suc n + i = omega (arith, at) in
      let short : i < length bs = omega (arith, inside) in
      ⊎_elim
      (λ (out : LeftOut fn plan n m bs (c ∷ cs)). least bs (suc n) m (c ∷ cs) out.1 i number k next short named)
      (λ (kept : IsLeft fn plan n m x c bs cs). let low = least bs (suc n) (suc m) cs kept.2 i number k next short named in omega (arith, low))
      h

  -- later blocks have greater numbers
  rise : (bs : LowBlocks) (n m : ℕ) (cs : LowBlocks) → Blocks fn plan n m bs cs → (i j a b k l : ℕ) → a ≡ n + i → b ≡ n + j → i < j → j < length bs → plan.name a ≡ Some k → plan.name b ≡ Some l → k < l
  rise [] n m cs h i j a b k l at bt lt inside an bn = absurd (omega (arith, inside))
  rise (x ∷ bs) n m cs h i zero a b k l at bt lt inside an bn = absurd (omega (arith, lt))
  rise (x ∷ bs) n m [] h zero (suc j) a b k l at bt lt inside an bn =
      let same : a ≡ n = omega (arith, at) in
      none_some (plan.name a) k (ap plan.name same ∙ h.0) an
  rise (x ∷ bs) n m (c ∷ cs) h zero (suc j) a b k l at bt lt inside an bn =
      let same : a ≡ n = omega (arith, at) in
      let next : b ≡ suc n + j = omega (arith, bt) in
      let short : j < length bs = omega (arith, inside) in
      ⊎_elim
      (λ (out : LeftOut fn plan n m bs (c ∷ cs)). none_some (plan.name a) k (ap plan.name same ∙ out.0) an)
      (λ (kept : IsLeft fn plan n m x c bs cs).
      let first : m ≡ k = some_same m k (sym kept.0 ∙ ap plan.name (sym same) ∙ an) in
      let low = least bs (suc n) (suc m) cs kept.2 j b l next short bn in
      omega (arith, first, low))
      h
  rise (x ∷ bs) n m [] h (suc i) (suc j) a b k l at bt lt inside an bn =
      let nexta : a ≡ suc n + i = omega (arith, at) in
      let nextb : b ≡ suc n + j = omega (arith, bt) in
      let short : j < length bs = omega (arith, inside) in
      let less : i < j = omega (arith, lt) in
      rise bs (suc n) m [] h.1 i j a b k l nexta nextb less short an bn
  rise (x ∷ bs) n m (c ∷ cs) h (suc i) (suc j) a b k l at bt lt inside an bn =
      let nexta : a ≡ suc n + i = omega (arith, at) in
      let nextb : b ≡ suc n + j = omega (arith, bt) in
      let short : j < length bs = omega (arith, inside) in
      let less : i < j = omega (arith, lt) in
      ⊎_elim
      (λ (out : LeftOut fn plan n m bs (c ∷ cs)). rise bs (suc n) m (c ∷ cs) out.1 i j a b k l nexta nextb less short an bn)
      (λ (kept : IsLeft fn plan n m x c bs cs). rise bs (suc n) (suc m) cs kept.2 i j a b k l nexta nextb less short an bn)
      h

-- blocks of a function that are left, in order
module _ (fn gn : Function ℕ Note) (plan : Plan) (blocks : Blocks fn plan 0 0 fn.blocks gn.blocks) where
  pub less : (a b k l : ℕ) → b < length fn.blocks → plan.name a ≡ Some k → plan.name b ≡ Some l → a < b → k < l
  less a b k l inside an bn lt = rise fn plan fn.blocks 0 0 gn.blocks blocks a b a b k l (omega arith) (omega arith) lt inside an bn

  pub same_number : (a b k l : ℕ) → plan.name a ≡ Some k → plan.name b ≡ Some l → a ≡ b → k ≡ l
  same_number a b k l an bn e = some_same k l (sym an ∙ ap plan.name e ∙ bn)

  pub less_back : (a b k l : ℕ) → a < length fn.blocks → plan.name a ≡ Some k → plan.name b ≡ Some l → k < l → a < b
  less_back a b k l inside an bn lt =
      ⊎_elim
      (λ (h : a < b). h)
      (λ (h : (a ≡ b) ⊎ (b < a)).
      ⊎_elim
      (λ (e : a ≡ b). let is = same_number a b k l an bn e in absurd (omega (arith, is, lt)))
      (λ (g : b < a). let more = less b a l k inside bn an g in absurd (omega (arith, more, lt)))
      h)
      (order a b)

  pub same_block : (a b k l : ℕ) → a < length fn.blocks → b < length fn.blocks → plan.name a ≡ Some k → plan.name b ≡ Some l → k ≡ l → a ≡ b
  same_block a b k l ai bi an bn e =
      ⊎_elim
      (λ (h : a < b). let more = less a b k l bi an bn h in absurd (omega (arith, more, e)))
      (λ (h : (a ≡ b) ⊎ (b < a)). ⊎_elim (λ (same : a ≡ b). same) (λ (g : b < a). let more = less b a l k ai bn an g in absurd (omega (arith, more, e))) h)
      (order a b)

  pub not_more : (a b k l : ℕ) → b < length fn.blocks → plan.name a ≡ Some k → plan.name b ≡ Some l → a ≤ b → k ≤ l
  not_more a b k l inside an bn le =
      ⊎_elim
      (λ (h : a < b). let more = less a b k l inside an bn h in omega (arith, more))
      (λ (h : (a ≡ b) ⊎ (b < a)). ⊎_elim (λ (e : a ≡ b). let is = same_number a b k l an bn e in omega (arith, is)) (λ (g : b < a). absurd (omega (arith, g, le))) h)
      (order a b)

  pub not_more_back : (a b k l : ℕ) → a < length fn.blocks → plan.name a ≡ Some k → plan.name b ≡ Some l → k ≤ l → a ≤ b
  not_more_back a b k l inside an bn le =
      ⊎_elim
      (λ (h : a < b). omega (arith, h))
      (λ (h : (a ≡ b) ⊎ (b < a)). ⊎_elim (λ (e : a ≡ b). omega (arith, e)) (λ (g : b < a). let more = less b a l k inside bn an g in absurd (omega (arith, more, le))) h)
      (order a b)
