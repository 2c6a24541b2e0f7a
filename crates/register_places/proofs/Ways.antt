-- Spots, ways and placed code.
use Rattle.std.proofs.Common.{◌≡◌, ◌≢◌, ℕ, zero, suc, ◌+◌, List, [], ◌∷◌, ◌++◌, length, Option, Some, None, refl, sym, ap, ◌∙◌, subst, ⊎_elim, inl, inr, arith}
use Rattle.std.specs.Prelude.{◌%◌, ◌^◌, map, option_map, slice_get}
use Rattle.low_ir.specs.declared.places.Place.{Place}
use Rattle.low_ir.specs.Code.{Operand, Register, Constant, Base, Fixed, Through, Address, Plain, Set, Operate, Point, Load, Store, Put, Get, Instr, Do, Call, End, Jump, Branch, Return, Block, Function, Low, Note}
use Rattle.low_ir.specs.declared.run.Value.{Value}
use Rattle.low_ir.specs.declared.run.Value.TheVariants.{Word, Pointer}
use Rattle.low_ir.specs.Effects.{World, Did, reads, dest, is_served, effect, base_reads, offset_reads, from_base, resolved, nothing_more, with_one, word, gives, changes, there, loaded, stored, with_objects}
use Rattle.low_ir.specs.Formed.{LeadsOn, registers_in, read_by, written_by, end_reads}
use Rattle.low_ir.specs.Live.{Has, Reaches, ReachesIn, Enters, Live, Ahead, place_of, IsRest, Spot, IsPlace, Written, Behind, Parameter, InInterval}
use Rattle.low_ir.specs.Places.{Assignment, place_operand, place_base, place_address, place_plain, place_block, place_blocks, place_function, place_functions, placed}
use Rattle.low_ir.specs.Spacing.{Covers, Fits, IsSpaced, Safe, IsSafe, IsAssignment}

-- a place is in the interval
at_place : (fn : Function ℕ Note) (p v : ℕ) → IsPlace fn p v → InInterval fn p v
at_place fn p v h = record { least = p; greatest = p; from = h; to = h; above = omega arith; below = omega arith }

-- intervals that share no place keep a run safe
pub safe_of : (a : Assignment) (f : ℕ) (fn : Function ℕ Note) → Fits a f fn → Safe a f fn
safe_of a f fn h =
    record {
      apart = λ p d v i is end a b spot w live n. h.apart v d a b n (p, at_place fn p v (Behind i is end spot live), at_place fn p d (Written i is end spot w));
      kept = λ p v q g d args note is end a spot live n e. h.kept p v q d a (g, args, note, is, end, spot) n (at_place fn p v (Behind (Call d g args note) is end spot live)) e;
      served = λ p v i is end a spot s live n. h.served p v (dest i) a (i, is, end, s, refl, spot) n (at_place fn p v (Behind (Do i) is end spot live));
      parameters = λ v w a b x y n. h.apart v w a b n (0, at_place fn 0 v (Parameter refl x), at_place fn 0 w (Parameter refl y));
      inside = h.inside;
    }

pub all_safe : (a : Assignment) (p : Low) → IsAssignment a p → IsSafe a p
all_safe a p h f fn e = safe_of a f fn (h f fn e)

-- an assignment may be made from any intervals that cover those of the registers
pub spaced_assigned : (a : Assignment) (p : Low) (lo hi : ℕ → ℕ → ℕ) → Covers lo hi p → IsSpaced lo hi a p → IsAssignment a p
spaced_assigned a p lo hi c s f fn e =
    let k = s f fn e in
    record {
      apart = λ v w v1 w1 n t. k.apart v w v1 w1 n
          (let a1 = (c f fn t.1.least v e t.1.from).0 in
          let a2 = t.1.above in
          let b1 = (c f fn t.2.greatest w e t.2.to).1 in
          let b2 = t.2.below in
          omega arith)
          (let a1 = (c f fn t.2.least w e t.2.from).0 in
          let a2 = t.2.above in
          let b1 = (c f fn t.1.greatest v e t.1.to).1 in
          let b2 = t.1.below in
          omega arith);
      kept = λ at v q d v1 call n i. k.kept at v q d v1 call n
          (let a1 = (c f fn i.least v e i.from).0 in let a2 = i.above in omega arith)
          (let b1 = (c f fn i.greatest v e i.to).1 in let b2 = i.below in omega arith);
      served = λ at v d v1 call n i. k.served at v d v1 call n
          (let a1 = (c f fn i.least v e i.from).0 in let a2 = i.above in omega arith)
          (let b1 = (c f fn i.greatest v e i.to).1 in let b2 = i.below in omega arith);
      passed = k.passed;
      inside = k.inside;
    }

rest_next : (all : List (Instr ℕ Note)) (n : ℕ) (i : Instr ℕ Note) (is : List (Instr ℕ Note)) → IsRest all n (i ∷ is) → IsRest all (suc n) is
rest_next [] zero i is h = cc
rest_next (j ∷ all) zero i is h = cc
rest_next [] (suc n) i is h = absurd h
rest_next (j ∷ all) (suc n) i is h = rest_next all n i is h

pub spot_next : (bs : List (Block ℕ Note)) (p : ℕ) (i : Instr ℕ Note) (is : List (Instr ℕ Note)) (end : End ℕ) → Spot bs p (i ∷ is) end → Spot bs (suc p) is end
spot_next bs p i is end s =
    let at = s.at in
    record { block = s.block; number = s.number; behind = suc s.behind; there = s.there; code = rest_next s.block.code s.behind i is s.code; ends = s.ends; at = omega arith }

pub spot_block : (bs : List (Block ℕ Note)) (b : ℕ) (bl : Block ℕ Note) → slice_get bs b ≡ Some bl → Spot bs (0 + place_of bs b) bl.code bl.end
spot_block bs b bl e = record { block = bl; number = b; behind = 0; there = e; code = refl; ends = refl; at = omega arith }

pub placed_block : (pl : ℕ → Place) (kept : ℕ → List ℕ) (p : ℕ) (bs : List (Block ℕ Note)) (b : ℕ) (bl : Block ℕ Note) → slice_get bs b ≡ Some bl → slice_get (place_blocks pl kept p bs) b ≡ Some (place_block pl kept (p + place_of bs b) bl)
placed_block pl kept p [] b bl e = cc
placed_block pl kept p (x ∷ bs) zero bl e =
    let same : x ≡ bl = cc in
    let q : p ≡ p + 0 = omega arith in
    ap (λ y. Some (place_block pl kept p y)) same ∙ ap (λ n. Some (place_block pl kept n bl)) q
placed_block pl kept p (x ∷ bs) (suc b) bl e =
    let q : p + suc (length x.code) + place_of bs b ≡ p + (suc (length x.code) + place_of bs b) = omega arith in
    placed_block pl kept (p + suc (length x.code)) bs b bl e ∙ ap (λ n. Some (place_block pl kept n bl)) q

placed_from : (a : Assignment) (k : ℕ) (fns : List (Function ℕ Note)) (f : ℕ) (fn : Function ℕ Note) → slice_get fns f ≡ Some fn → slice_get (place_functions a k fns) f ≡ Some (place_function a (k + f) fn)
placed_from a k [] f fn e = cc
placed_from a k (x ∷ fns) zero fn e =
    let same : x ≡ fn = cc in
    let q : k ≡ k + 0 = omega arith in
    ap (λ y. Some (place_function a k y)) same ∙ ap (λ n. Some (place_function a n fn)) q
placed_from a k (x ∷ fns) (suc f) fn e =
    let q : suc k + f ≡ k + suc f = omega arith in
    placed_from a (suc k) fns f fn e ∙ ap (λ n. Some (place_function a n fn)) q

pub placed_function : (a : Assignment) (p : Low) (f : ℕ) (fn : Function ℕ Note) → slice_get p.functions f ≡ Some fn → slice_get (placed a p).functions f ≡ Some (place_function a f fn)
placed_function a p f fn e =
    let q : 0 + f ≡ f = omega arith in
    placed_from a 0 p.functions f fn e ∙ ap (λ n. Some (place_function a n fn)) q

-- a function over places is one over registers with the same loops
pub record OfFunction (fns : List (Function ℕ Note)) (f : ℕ) (placed : Function Place (List ℕ)) : Type 0 where
  pub fn : Function ℕ Note
  pub there : slice_get fns f ≡ Some fn
  pub loops : fn.loops ≡ placed.loops

pub of_function : (a : Assignment) (k : ℕ) (fns : List (Function ℕ Note)) (f : ℕ) (g : Function Place (List ℕ)) → slice_get (place_functions a k fns) f ≡ Some g → OfFunction fns f g
of_function a k [] f g e = cc
of_function a k (x ∷ fns) zero g e =
    let same : place_function a k x ≡ g = cc in
    record { fn = x; there = refl; loops = ap (λ y. y.loops) same }
of_function a k (x ∷ fns) (suc f) g e =
    let h = of_function a (suc k) fns f g e in
    record { fn = h.fn; there = h.there; loops = h.loops }

-- what is live behind an instruction that doesn't write it is live before it
pub live_next : (bs : List (Block ℕ Note)) (i : Instr ℕ Note) (is : List (Instr ℕ Note)) (end : End ℕ) (v : ℕ) → written_by i ≢ Some v → Live bs is end v → Live bs (i ∷ is) end v
live_next bs i is end v n h = (h.0, inr (n, h.1))

pub live_read : (bs : List (Block ℕ Note)) (i : Instr ℕ Note) (is : List (Instr ℕ Note)) (end : End ℕ) (v : ℕ) → Has v (read_by i) → Live bs (i ∷ is) end v
live_read bs i is end v h = (0, inl h)

pub live_end : (bs : List (Block ℕ Note)) (end : End ℕ) (v : ℕ) → Has v (end_reads end) → Live bs [] end v
live_end bs end v h = (0, inl h)

enters : (bs : List (Block ℕ Note)) (b n v : ℕ) (bl : Block ℕ Note) → slice_get bs b ≡ Some bl → Reaches (Enters bs n v) bl.code bl.end v → Enters bs (suc n) v b
enters bs b n v bl e h = subst (λ o. ReachesIn (Enters bs n v) o v) (sym e) h

-- what is live at the beginning of a block is live at an end that leads there
pub live_into : (bs : List (Block ℕ Note)) (end : End ℕ) (b v : ℕ) (bl : Block ℕ Note) → LeadsOn end b → slice_get bs b ≡ Some bl → Live bs bl.code bl.end v → Live bs [] end v
live_into bs (Jump b1) b v bl to e h = (suc h.0, inr (subst (λ n. Enters bs (suc h.0) v n) (sym to) (enters bs b h.0 v bl e h.1)))
live_into bs (Branch c x y b1 b2) b v bl to e h = (
  suc h.0,
  inr (⊎_elim
      (λ (q : b1 ≡ b). inl (subst (λ n. Enters bs (suc h.0) v n) (sym q) (enters bs b h.0 v bl e h.1)))
      (λ (q : b2 ≡ b). inr (subst (λ n. Enters bs (suc h.0) v n) (sym q) (enters bs b h.0 v bl e h.1)))
      to),
)
live_into bs (Return x) b v bl to e h = absurd to

-- the registers of operands
pub has_first : (x : Operand ℕ) (xs : List (Operand ℕ)) (r : ℕ) → x ≡ Register r → Has r (registers_in (x ∷ xs))
has_first (Register q) xs r e = inl cc
has_first (Constant w) xs r e = cc

pub has_next : (x : Operand ℕ) (xs : List (Operand ℕ)) (v : ℕ) → Has v (registers_in xs) → Has v (registers_in (x ∷ xs))
has_next (Register q) xs v h = inr h
has_next (Constant w) xs v h = h

reads_in_address : (pl : ℕ → Place) (base : Base ℕ) (offset : Option ℕ) → base_reads (place_base pl base) ++ offset_reads (option_map pl offset) ≡ map (place_operand pl) (base_reads base ++ offset_reads offset)
reads_in_address pl (Fixed o) None = refl
reads_in_address pl (Fixed o) (Some r) = refl
reads_in_address pl (Through r claim) None = refl
reads_in_address pl (Through r claim) (Some q) = refl

pub reads_placed : (pl : ℕ → Place) (i : Plain ℕ) → reads (place_plain pl i) ≡ map (place_operand pl) (reads i)
reads_placed pl (Set d x) = refl
reads_placed pl (Operate operator d x y) = refl
reads_placed pl (Point d a) = reads_in_address pl a.base a.offset
reads_placed pl (Load kind d a) = reads_in_address pl a.base a.offset
reads_placed pl (Store kind a x) = ap (λ xs. place_operand pl x ∷ xs) (reads_in_address pl a.base a.offset)
reads_placed pl (Put x) = refl
reads_placed pl (Get d) = refl

pub dest_placed : (pl : ℕ → Place) (i : Plain ℕ) → dest (place_plain pl i) ≡ option_map pl (dest i)
dest_placed pl (Set d x) = refl
dest_placed pl (Operate operator d x y) = refl
dest_placed pl (Point d a) = refl
dest_placed pl (Load kind d a) = refl
dest_placed pl (Store kind a x) = refl
dest_placed pl (Put x) = refl
dest_placed pl (Get d) = refl

pub served_placed : (pl : ℕ → Place) (i : Plain ℕ) → is_served (place_plain pl i) ≡ is_served i
served_placed pl (Set d x) = refl
served_placed pl (Operate operator d x y) = refl
served_placed pl (Point d a) = refl
served_placed pl (Load kind d a) = refl
served_placed pl (Store kind a x) = refl
served_placed pl (Put x) = refl
served_placed pl (Get d) = refl

base_placed : (pl : ℕ → Place) (claims : List (List ℕ)) (base : Base ℕ) (xs : List Value) (go : ℕ → ℕ → List Value → Option Did) → from_base claims (place_base pl base) xs go ≡ from_base claims base xs go
base_placed pl claims (Fixed o) xs go = refl
base_placed pl claims (Through r claim) xs go = refl

address_placed : (pl : ℕ → Place) (claims : List (List ℕ)) (base : Base ℕ) (offset : Option ℕ) (n : ℕ) (xs : List Value) (go : ℕ → ℕ → Option Did) → resolved claims (place_address pl (record { base = base; offset = offset; displacement = n })) xs go ≡ resolved claims (record { base = base; offset = offset; displacement = n }) xs go
address_placed pl claims base None n xs go = base_placed pl claims base xs (λ o m rest. nothing_more rest (go o ((m + 0 + n) % 2 ^ 32)))
address_placed pl claims base (Some r) n xs go = base_placed pl claims base xs (λ o m rest. with_one rest (λ x. word x (λ w. go o ((m + w + n) % 2 ^ 32))))

resolved_placed : (pl : ℕ → Place) (claims : List (List ℕ)) (a : Address ℕ) (xs : List Value) (go : ℕ → ℕ → Option Did) → resolved claims (place_address pl a) xs go ≡ resolved claims a xs go
resolved_placed pl claims a xs go = address_placed pl claims a.base a.offset a.displacement xs go

pub effect_placed : (pl : ℕ → Place) (claims : List (List ℕ)) (i : Plain ℕ) (xs : List Value) (u : World) → effect claims (place_plain pl i) xs u ≡ effect claims i xs u
effect_placed pl claims (Set d x) xs u = refl
effect_placed pl claims (Operate operator d x y) xs u = refl
effect_placed pl claims (Point d a) xs u = resolved_placed pl claims a xs (λ o n. gives u (Pointer o n))
effect_placed pl claims (Load kind d a) xs u = resolved_placed pl claims a xs (λ o n. there (loaded u.objects kind o n) (λ w. gives u (Word w)))
effect_placed pl claims (Store kind a x) [] u = refl
effect_placed pl claims (Store kind a x) (Word w ∷ xs) u = resolved_placed pl claims a xs (λ o n. there (stored u.objects kind o n w) (λ objects. changes (with_objects u objects)))
effect_placed pl claims (Store kind a x) (Pointer o n ∷ xs) u = refl
effect_placed pl claims (Put x) xs u = refl
effect_placed pl claims (Get d) xs u = refl

ahead_map : (P Q : ℕ → Type 0) (end : End ℕ) → ((b : ℕ) → P b → Q b) → Ahead P end → Ahead Q end
ahead_map P Q (Jump b) f h = f b h
ahead_map P Q (Branch c x y b1 b2) f h = ⊎_elim (λ (p : P b1). inl (f b1 p)) (λ (p : P b2). inr (f b2 p)) h
ahead_map P Q (Return x) f h = absurd h

reaches_map : (P Q : ℕ → Type 0) (is : List (Instr ℕ Note)) (end : End ℕ) (v : ℕ) → ((b : ℕ) → P b → Q b) → Reaches P is end v → Reaches Q is end v
reaches_map P Q [] end v f h = ⊎_elim (λ (p : Has v (end_reads end)). inl p) (λ (p : Ahead P end). inr (ahead_map P Q end f p)) h
reaches_map P Q (i ∷ is) end v f h =
    ⊎_elim (λ (p : Has v (read_by i)). inl p) (λ (p : (written_by i ≢ Some v) × Reaches P is end v). inr (p.0, reaches_map P Q is end v f p.1)) h

-- a closed table has what is live at the beginning of each block
pub closed_covers : (bs : List (Block ℕ Note)) (v : ℕ) (P : ℕ → Type 0) → ((b : ℕ) → ReachesIn P (slice_get bs b) v → P b) → (n b : ℕ) → Enters bs n v b → P b
closed_covers bs v P closed zero b h = absurd h
closed_covers bs v P closed (suc n) b h = closed b (in_block (slice_get bs b) (λ is end k. reaches_map (Enters bs n v) P is end v (closed_covers bs v P closed n) k) h)
  where
    in_block : (o : Option (Block ℕ Note)) → ((is : List (Instr ℕ Note)) (end : End ℕ) → Reaches (Enters bs n v) is end v → Reaches P is end v) → ReachesIn (Enters bs n v) o v → ReachesIn P o v
    in_block None f h = absurd h
    in_block (Some bl) f h = f bl.code bl.end h
