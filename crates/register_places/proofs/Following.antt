-- The totals of a loop as a run goes on.
use Rattle.std.proofs.Common.{◌≡◌, ◌≢◌, ℕ, zero, suc, ◌+◌, ◌<◌, ◌≤◌, Bool, true, false, List, [], ◌∷◌, ◌++◌, length, Option, Some, None, refl, sym, ap, ◌∙◌, subst, ⊎_elim, inl, inr, arith}
use Rattle.std.specs.Prelude.{◌⊎◌, ◌==◌, ◌&&◌, ◌-◌, ◌*◌, All, nat_lt, slice_get, slice_index_or, if◌then◌else◌}
use Rattle.std.proofs.lemmas.Bool.{and_parts, cases_lt, eqb-true, eq-eqb}
use Rattle.rv_core.specs.declared.row.Condition.{Condition}
use Rattle.rv_core.specs.Arithmetic.{holds}
use Rattle.low_ir.specs.declared.run.Began.{Began}
use Rattle.low_ir.specs.declared.run.Value.{Value}
use Rattle.low_ir.specs.declared.run.Value.TheVariants.{Word, Pointer}
use Rattle.low_ir.specs.Code.{Operand, Plain, Instr, Do, Call, End, Jump, Branch, Return, Block, Loop, Function, Low, Note}
use Rattle.low_ir.specs.Effects.{World, Did, effect, effect_of, reads, dest, start}
use Rattle.low_ir.specs.Formed.{LeadsOn, LeadsTo, LeadsTo_as, IsIn, IsLoop, IsLow, only_jump}
use Rattle.low_ir.specs.Runs.{Frame, Waiting, Running, Run, Going, Done, Bad, Bank, operand_value, values, write_to, goes_on, finish, enter, block_in, went_to, write_all, begin, only_where, waiting, call, come_back, give_back, chosen, branches, at_end, at_code, step, run, first, first_in, virtual, lrun}
use Rattle.low_ir.specs.Turns.{Turns, is_at, once_more, started, turns, no_turns}
use Rattle.register_places.specs.Totals.{KeepsTotals, TotalsKept, began_count, once}
use Rattle.register_places.proofs.Traces.{Balanced, Leaves, began_count-more, effect_leaves, least_total, total, turns-more}

-- a block that began, as a test and as equations
at_true : (g b f h : ℕ) → is_at (record { function = g; block = b }) f h ≡ true → (g ≡ f) × (b ≡ h)
at_true g b f h e = let k = and_parts (g == f) (b == h) e in (eqb-true g f k.0, eqb-true b h k.1)

true_at : (g b f h : ℕ) → g ≡ f → b ≡ h → is_at (record { function = g; block = b }) f h ≡ true
true_at g b f h p q = ap (λ x. x && (b == h)) (eq-eqb g f p) ∙ eq-eqb b h q

not_true : (b : Bool) → b ≡ false → b ≡ true → ⊥
not_true b e h = let k : false ≡ true = sym e ∙ h in cc

more_starts : (b : Bool) (ns : List ℕ) → started b ns ≢ []
more_starts true [] e = cc
more_starts true (n ∷ ns) e = cc
more_starts false ns e = cc

module _ (p : Low) (f : ℕ) (fn : Function ℕ Note) (there : slice_get p.functions f ≡ Some fn) (l : Loop) (loop : IsLoop fn l) where
  abbrev T : List Began → Turns
  T es = turns f l no_turns es

  abbrev Fair : List Began → Type 0
  Fair es = Balanced (T es) (began_count f l.header es) (began_count f l.latch es)

  -- an activation stands in a block, and where that is one of the loop, the loop has been entered
  record Stands (frame : Frame ℕ Note Bank) (es : List Began) : Type 0 where
    number : ℕ
    block : Block ℕ Note
    at : block_in (slice_get p.functions frame.func) number ≡ Some block
    ends : frame.end ≡ block.end
    entered : frame.func ≡ f → IsIn l number → (T es).starts ≢ []

  abbrev AllStand : List (Waiting ℕ Note Bank) → List Began → Type 0
  AllStand [] es = Unit {0}
  AllStand (w ∷ ws) es = Stands w.frame es × AllStand ws es

  record RelAt (frame : Frame ℕ Note Bank) (ws : List (Waiting ℕ Note Bank)) (es : List Began) : Type 0 where
    top : Stands frame es
    below : AllStand ws es
    fair : Fair es
    again : (T es).again ≡ true → (frame.func ≡ f) × (frame.code ≡ []) × (frame.end ≡ Jump l.header)

  abbrev Rel : Running ℕ Note Bank → Type 0
  Rel r = RelAt r.top r.below r.world.trace

  abbrev Follows : Run ℕ Note Bank → Type 0
  Follows (Going r) = Rel r
  Follows (Done v u) = Fair u.trace × ((T u.trace).again ≡ false)
  Follows Bad = Unit {0}

  -- a trace with one more block
  abbrev more : List Began → ℕ → ℕ → List Began
  more es g b = es ++ record { function = g; block = b } ∷ []

  -- what one more block makes of the turns, by the tests of header and latch
  abbrev turned : Turns → Bool → Bool → Turns
  turned t head back = if head then record { again = false; starts = started t.again t.starts } else if back then record { again = true; starts = t.starts } else t

  -- what is known of a block that begins
  record Next (es : List Began) (g b : ℕ) : Type 0 where
    fair : Fair es
    again : (T es).again ≡ true → (g ≡ f) × (b ≡ l.header)
    into : g ≡ f → IsIn l b → (b ≡ l.header) ⊎ ((T es).starts ≢ [])

  -- a fair trace stays fair
  record Fared (t : Turns) (heads backs : ℕ) (head back : Bool) : Type 0 where
    fair : Balanced (turned t head back) (heads + once head) (backs + once back)
    kept : t.starts ≢ [] → (turned t head back).starts ≢ []

  fared_head : (t : Turns) (heads backs : ℕ) → Balanced t heads backs → Fared t heads backs true false
  fared_head t heads backs h = by_again t.again refl t.starts refl
    where
      by_again : (a : Bool) → t.again ≡ a → (ns : List ℕ) → t.starts ≡ ns → Fared t heads backs true false
      by_again true e [] q = absurd (h.entered e q)
      by_again true e (n ∷ ns) q =
          let paired = h.paired in
          let starts = h.starts in
          let one : once t.again ≡ 1 = ap once e in
          let long : length t.starts ≡ suc (length ns) = ap length q in
          let sum : total t.starts ≡ n + total ns = ap total q in
          let new : started t.again t.starts ≡ suc n ∷ ns = ap (λ b. started b t.starts) e ∙ ap once_more q in
          let new_long : length (started t.again t.starts) ≡ suc (length ns) = ap length new in
          let new_sum : total (started t.again t.starts) ≡ suc n + total ns = ap total new in
          record {
            fair = record { paired = omega arith; starts = omega arith; entered = λ x. cc };
            kept = λ x. more_starts t.again t.starts;
          }
      by_again false e ns q =
          let paired = h.paired in
          let starts = h.starts in
          let none : once t.again ≡ 0 = ap once e in
          let new : started t.again t.starts ≡ 1 ∷ t.starts = ap (λ b. started b t.starts) e in
          let new_long : length (started t.again t.starts) ≡ suc (length t.starts) = ap length new in
          let new_sum : total (started t.again t.starts) ≡ 1 + total t.starts = ap total new in
          record {
            fair = record { paired = omega arith; starts = omega arith; entered = λ x. cc };
            kept = λ x. more_starts t.again t.starts;
          }

  fared_back : (t : Turns) (heads backs : ℕ) → Balanced t heads backs → t.again ≡ false → t.starts ≢ [] → Fared t heads backs false true
  fared_back t heads backs h e some =
      let paired = h.paired in
      let starts = h.starts in
      let none : once t.again ≡ 0 = ap once e in
      record {
        fair = record { paired = omega arith; starts = omega arith; entered = λ x. some };
        kept = λ x. x;
      }

  fared_other : (t : Turns) (heads backs : ℕ) → Balanced t heads backs → Fared t heads backs false false
  fared_other t heads backs h =
      let paired = h.paired in
      let starts = h.starts in
      record {
        fair = record { paired = omega arith; starts = omega arith; entered = h.entered };
        kept = λ x. x;
      }

  -- the turns with one more block
  T-more : (es : List Began) (g b : ℕ) (head back : Bool) → is_at (record { function = g; block = b }) f l.header ≡ head → is_at (record { function = g; block = b }) f l.latch ≡ back → T (more es g b) ≡ turned (T es) head back
  T-more es g b head back e1 e2 =
      turns-more f l no_turns es (record { function = g; block = b })
      ∙ ap (λ x. turned (T es) x (is_at (record { function = g; block = b }) f l.latch)) e1
      ∙ ap (λ x. turned (T es) head x) e2

  fair_more : (es : List Began) (g b : ℕ) (head back : Bool) → is_at (record { function = g; block = b }) f l.header ≡ head → is_at (record { function = g; block = b }) f l.latch ≡ back → Balanced (turned (T es) head back) (began_count f l.header es + once head) (began_count f l.latch es + once back) → Fair (more es g b)
  fair_more es g b head back e1 e2 h =
      let e : Began = record { function = g; block = b } in
      let heads : began_count f l.header (more es g b) ≡ began_count f l.header es + once head = began_count-more f l.header es e ∙ ap (λ x. began_count f l.header es + once x) e1 in
      let backs : began_count f l.latch (more es g b) ≡ began_count f l.latch es + once back = began_count-more f l.latch es e ∙ ap (λ x. began_count f l.latch es + once x) e2 in
      let a = subst (λ n. Balanced (turned (T es) head back) (began_count f l.header es + once head) n) (sym backs) h in
      let c = subst (λ n. Balanced (turned (T es) head back) n (began_count f l.latch (more es g b))) (sym heads) a in
      subst (λ t. Balanced t (began_count f l.header (more es g b)) (began_count f l.latch (more es g b))) (sym (T-more es g b head back e1 e2)) c

  -- a block that has begun
  record After (es : List Began) (g b : ℕ) : Type 0 where
    fair : Fair (more es g b)
    kept : (T es).starts ≢ [] → (T (more es g b)).starts ≢ []
    here : g ≡ f → IsIn l b → (T (more es g b)).starts ≢ []
    again : (T (more es g b)).again ≡ true → (g ≡ f) × (b ≡ l.latch)

  never : (b : Bool) → (b ≡ true → ⊥) → b ≡ false
  never true n = absurd (n refl)
  never false n = refl

  after : (es : List Began) (g b : ℕ) → Next es g b → After es g b
  after es g b h = by_tests (is_at (record { function = g; block = b }) f l.header) refl (is_at (record { function = g; block = b }) f l.latch) refl
    where
      by_tests : (head : Bool) → is_at (record { function = g; block = b }) f l.header ≡ head → (back : Bool) → is_at (record { function = g; block = b }) f l.latch ≡ back → After es g b
      by_tests true e1 true e2 =
          let x = (at_true g b f l.header e1).1 in
          let y = (at_true g b f l.latch e2).1 in
          let lt = loop.latch in
          absurd (apart b x y lt)
        where
          apart : (b : ℕ) → b ≡ l.header → b ≡ l.latch → l.header < l.latch → ⊥
          apart b x y lt = omega arith
      by_tests true e1 false e2 =
          let k = fared_head (T es) (began_count f l.header es) (began_count f l.latch es) h.fair in
          let same = T-more es g b true false e1 e2 in
          record {
            fair = fair_more es g b true false e1 e2 k.fair;
            kept = λ x. subst (λ t. t.starts ≢ []) (sym same) (k.kept x);
            here = λ q i. subst (λ t. t.starts ≢ []) (sym same) (more_starts (T es).again (T es).starts);
            again = λ x. let y : false ≡ true = sym (ap (λ t. t.again) same) ∙ x in cc;
          }
      by_tests false e1 true e2 =
          let q = at_true g b f l.latch e2 in
          let lt = loop.latch in
          let at = q.1 in
          let inside : IsIn l b = (omega arith, omega arith) in
          let none = never (T es).again (λ x. other b (h.again x).1 at lt) in
          let some = ⊎_elim (λ (x : b ≡ l.header). absurd (other b x at lt)) (λ (x : (T es).starts ≢ []). x) (h.into q.0 inside) in
          let k = fared_back (T es) (began_count f l.header es) (began_count f l.latch es) h.fair none some in
          let same = T-more es g b false true e1 e2 in
          record {
            fair = fair_more es g b false true e1 e2 k.fair;
            kept = λ x. subst (λ t. t.starts ≢ []) (sym same) (k.kept x);
            here = λ x i. subst (λ t. t.starts ≢ []) (sym same) some;
            again = λ x. q;
          }
        where
          other : (b : ℕ) → b ≡ l.header → b ≡ l.latch → l.header < l.latch → ⊥
          other b x y lt = omega arith
      by_tests false e1 false e2 =
          let k = fared_other (T es) (began_count f l.header es) (began_count f l.latch es) h.fair in
          let same = T-more es g b false false e1 e2 in
          let no_header = λ (x : g ≡ f) (y : b ≡ l.header). not_true (is_at (record { function = g; block = b }) f l.header) e1 (true_at g b f l.header x y) in
          record {
            fair = fair_more es g b false false e1 e2 k.fair;
            kept = λ x. subst (λ t. t.starts ≢ []) (sym same) (k.kept x);
            here = λ x i. subst (λ t. t.starts ≢ []) (sym same) (⊎_elim (λ (y : b ≡ l.header). absurd (no_header x y)) (λ (y : (T es).starts ≢ []). y) (h.into x i));
            again = λ x. let y = h.again (sym (ap (λ t. t.again) same) ∙ x) in absurd (no_header y.0 y.1);
          }

  stands_more : (frame : Frame ℕ Note Bank) (es : List Began) (g b : ℕ) → After es g b → Stands frame es → Stands frame (more es g b)
  stands_more frame es g b a h = record { number = h.number; block = h.block; at = h.at; ends = h.ends; entered = λ q i. a.kept (h.entered q i) }

  all_more : (ws : List (Waiting ℕ Note Bank)) (es : List Began) (g b : ℕ) → After es g b → AllStand ws es → AllStand ws (more es g b)
  all_more [] es g b a h = tt
  all_more (w ∷ ws) es g b a h = (stands_more w.frame es g b a h.0, all_more ws es g b a h.1)

  -- the block of a number in the function
  block_here : (g b : ℕ) (bl : Block ℕ Note) → g ≡ f → block_in (slice_get p.functions g) b ≡ Some bl → slice_get fn.blocks b ≡ Some bl
  block_here g b bl q e = sym (ap (λ o. block_in o b) there) ∙ ap (λ x. block_in (slice_get p.functions x) b) (sym q) ∙ e

  at_latch : (g b : ℕ) (bl : Block ℕ Note) → g ≡ f → b ≡ l.latch → block_in (slice_get p.functions g) b ≡ Some bl → bl ≡ only_jump l.header
  at_latch g b bl q at e =
      let here : slice_get fn.blocks b ≡ Some bl = block_here g b bl q e in
      let jump : slice_get fn.blocks b ≡ Some (only_jump l.header) = ap (slice_get fn.blocks) at ∙ loop.back in
      some_same bl (only_jump l.header) (sym here ∙ jump)
    where
      some_same : (x y : Block ℕ Note) → Some x ≡ Some y → x ≡ y
      some_same x y e = cc

  -- a block begins
  enter_follows : (r : Running ℕ Note Bank) (b : ℕ) → AllStand r.below r.world.trace → Next r.world.trace r.top.func b → (o : Option (Block ℕ Note)) → block_in (slice_get p.functions r.top.func) b ≡ o → Follows (enter r b o)
  enter_follows r b below next None e = tt
  enter_follows r b below next (Some bl) e =
      let a = after r.world.trace r.top.func b next in
      record {
        top = record { number = b; block = bl; at = e; ends = refl; entered = a.here };
        below = all_more r.below r.world.trace r.top.func b a below;
        fair = a.fair;
        again = λ x.
            let q = a.again x in
            let same = at_latch r.top.func b bl q.0 q.1 e in
            (q.0, ap (λ y. y.code) same, ap (λ y. y.end) same);
      }

  -- a block to which an end leads
  next_block : (r : Running ℕ Note Bank) (b : ℕ) → Rel r → LeadsOn r.top.end b → Next r.world.trace r.top.func b
  next_block r b h leads =
      record {
        fair = h.fair;
        again = λ x. let q = h.again x in let to : l.header ≡ b = subst (λ e. LeadsOn e b) q.2 leads in (q.0, sym to);
        into = λ q i.
            let t = h.top in
            let here : slice_get fn.blocks t.number ≡ Some t.block = block_here r.top.func t.number t.block q t.at in
            let to : LeadsTo fn t.number b = subst (λ o. LeadsTo_as o b) (sym here) (subst (λ e. LeadsOn e b) t.ends leads) in
            ⊎_elim
            (λ (lt : t.number < l.header). inl (loop.entered t.number b to i (inl lt)))
            (λ (low : l.header ≤ t.number).
            ⊎_elim
            (λ (gt : l.latch < t.number). inl (loop.entered t.number b to i (inr gt)))
            (λ (high : t.number ≤ l.latch). inr (t.entered q (low, high)))
            (cases_lt l.latch t.number))
            (cases_lt t.number l.header);
      }

  jump_follows : (r : Running ℕ Note Bank) (b : ℕ) → Rel r → LeadsOn r.top.end b → Follows (went_to p r b)
  jump_follows r b h leads = enter_follows r b h.below (next_block r b h leads) (block_in (slice_get p.functions r.top.func) b) refl

  -- a function begins
  begin_follows : (ws : List (Waiting ℕ Note Bank)) (u : World) (g : ℕ) (gn : Function ℕ Note) (s : Option Bank) → AllStand ws u.trace → Fair u.trace → (T u.trace).again ≡ false → slice_get p.functions g ≡ Some gn → Follows (begin ws u g gn s)
  begin_follows ws u g gn None below fair none e = tt
  begin_follows ws u g gn (Some s) below fair none e =
      enter_follows (record { top = record { func = g; code = []; end = Jump 0; store = s }; below = ws; world = u }) 0 below
      (record {
        fair = fair;
        again = λ x. absurd (not_true (T u.trace).again none x);
        into = λ q i. let low = i.0 in let some = loop.header in absurd (first low some);
      })
      (slice_get gn.blocks 0) (ap (λ o. block_in o 0) e)
    where
      first : l.header ≤ 0 → 0 < l.header → ⊥
      first low some = omega arith

  -- before an instruction, and before a return, no jump back is under way
  not_again : (r : Running ℕ Note Bank) (i : Instr ℕ Note) (is : List (Instr ℕ Note)) → r.top.code ≡ i ∷ is → Rel r → (T r.world.trace).again ≡ false
  not_again r i is e h = never (T r.world.trace).again (λ x. some i is (sym (h.again x).1 ∙ e))
    where
      some : (i : Instr ℕ Note) (is : List (Instr ℕ Note)) → [] ≡ i ∷ is → ⊥
      some i is e = cc

  not_returning : (r : Running ℕ Note Bank) (x : Operand ℕ) → r.top.end ≡ Return x → Rel r → (T r.world.trace).again ≡ false
  not_returning r x e h = never (T r.world.trace).again (λ y. jumps x (sym (h.again y).2 ∙ e))
    where
      jumps : (x : Operand ℕ) → Jump l.header ≡ Return x → ⊥
      jumps x e = cc

  -- an instruction that goes on behind itself
  do_follows : (r : Running ℕ Note Bank) (i : Plain ℕ) (is : List (Instr ℕ Note)) → r.top.code ≡ Do i ∷ is → Rel r → (os : Option (List Value)) → Follows (finish virtual r is (dest i) (effect_of p.claims i os r.world))
  do_follows r i is e h None = tt
  do_follows r i is e h (Some xs) = by_did (effect p.claims i xs r.world) (effect_leaves p.claims i xs r.world)
    where
      by_did : (o : Option Did) → Leaves r.world o → Follows (finish virtual r is (dest i) o)
      by_did None k = tt
      by_did (Some did) k = by_write (write_to virtual r.top.store (dest i) did.value)
        where
          by_write : (o : Option Bank) → Follows (goes_on r is did.world o)
          by_write None = tt
          by_write (Some s) =
              let t = h.top in
              let none = not_again r (Do i) is e h in
              subst (RelAt (record r.top { code = is; store = s }) r.below) (sym k)
              (record {
                top = record { number = t.number; block = t.block; at = t.at; ends = t.ends; entered = t.entered };
                below = h.below;
                fair = h.fair;
                again = λ x. absurd (not_true (T r.world.trace).again none x);
              })

  call_follows : (r : Running ℕ Note Bank) (d : Option ℕ) (g : ℕ) (args : List (Operand ℕ)) (note : Note) (is : List (Instr ℕ Note)) → r.top.code ≡ Call d g args note ∷ is → Rel r → (o : Option (Function ℕ Note)) → slice_get p.functions g ≡ o → (os : Option (List Value)) → Follows (call virtual r is d g note o os)
  call_follows r d g args note is e h None q os = tt
  call_follows r d g args note is e h (Some gn) q None = tt
  call_follows r d g args note is e h (Some gn) q (Some xs) = by_test (nat_lt g r.top.func)
    where
      by_test : (b : Bool) → Follows (only_where b (begin (waiting virtual r.top is d note ∷ r.below) r.world g gn (write_all virtual (Some (virtual.empty gn.size)) gn.parameters xs)))
      by_test false = tt
      by_test true =
          let t = h.top in
          begin_follows (waiting virtual r.top is d note ∷ r.below) r.world g gn (write_all virtual (Some (virtual.empty gn.size)) gn.parameters xs)
          (record { number = t.number; block = t.block; at = t.at; ends = t.ends; entered = t.entered }, h.below)
          h.fair (not_again r (Call d g args note) is e h) q

  -- a value comes back
  back_follows : (u : World) (v : ℕ) (ws : List (Waiting ℕ Note Bank)) → AllStand ws u.trace → Fair u.trace → (T u.trace).again ≡ false → Follows (come_back virtual u ws v)
  back_follows u v [] below fair none = (fair, none)
  back_follows u v (w ∷ ws) below fair none = by_write (write_to virtual w.frame.store w.into (Word v))
    where
      by_write : (o : Option Bank) → Follows (goes_on (record { top = w.frame; below = ws; world = u }) w.frame.code u o)
      by_write None = tt
      by_write (Some s) =
          let t = below.0 in
          record {
            top = record { number = t.number; block = t.block; at = t.at; ends = t.ends; entered = t.entered };
            below = below.1;
            fair = fair;
            again = λ x. absurd (not_true (T u.trace).again none x);
          }

  taken : (c : Condition) (x y : Operand ℕ) (b1 b2 : ℕ) (t : Bool) → LeadsOn (Branch c x y b1 b2) (if t then b1 else b2)
  taken c x y b1 b2 true = inl refl
  taken c x y b1 b2 false = inr refl

  branch_follows : (r : Running ℕ Note Bank) (c : Condition) (x y : Operand ℕ) (b1 b2 : ℕ) → r.top.end ≡ Branch c x y b1 b2 → Rel r → (o1 o2 : Option Value) → Follows (branches p r (chosen c b1 b2 o1 o2))
  branch_follows r c x y b1 b2 e h None o2 = tt
  branch_follows r c x y b1 b2 e h (Some (Pointer o n)) o2 = tt
  branch_follows r c x y b1 b2 e h (Some (Word m)) None = tt
  branch_follows r c x y b1 b2 e h (Some (Word m)) (Some (Pointer o n)) = tt
  branch_follows r c x y b1 b2 e h (Some (Word m)) (Some (Word n)) =
      jump_follows r (if holds c m n then b1 else b2) h (subst (λ z. LeadsOn z (if holds c m n then b1 else b2)) (sym e) (taken c x y b1 b2 (holds c m n)))

  return_follows : (r : Running ℕ Note Bank) (x : Operand ℕ) → r.top.end ≡ Return x → Rel r → (o : Option Value) → Follows (give_back virtual r o)
  return_follows r x e h None = tt
  return_follows r x e h (Some (Pointer o n)) = tt
  return_follows r x e h (Some (Word v)) = back_follows r.world v r.below h.below h.fair (not_returning r x e h)

  end_follows : (r : Running ℕ Note Bank) (end : End ℕ) → r.top.end ≡ end → Rel r → Follows (at_end virtual p r end)
  end_follows r (Jump b) e h = jump_follows r b h (subst (λ z. LeadsOn z b) (sym e) refl)
  end_follows r (Branch c x y b1 b2) e h = branch_follows r c x y b1 b2 e h (operand_value virtual r.top.store x) (operand_value virtual r.top.store y)
  end_follows r (Return x) e h = return_follows r x e h (operand_value virtual r.top.store x)

  code_follows : (r : Running ℕ Note Bank) (code : List (Instr ℕ Note)) → r.top.code ≡ code → Rel r → Follows (at_code virtual p r code)
  code_follows r [] e h = end_follows r r.top.end refl h
  code_follows r (Do i ∷ is) e h = do_follows r i is e h (values virtual r.top.store (reads i))
  code_follows r (Call d g args note ∷ is) e h = call_follows r d g args note is e h (slice_get p.functions g) refl (values virtual r.top.store args)

  step_follows : (r : Run ℕ Note Bank) → Follows r → Follows (step virtual p r)
  step_follows (Going r) h = code_follows r r.top.code refl h
  step_follows (Done v u) h = h
  step_follows Bad h = tt

  run_follows : (n : ℕ) (r : Run ℕ Note Bank) → Follows r → Follows (run virtual p n r)
  run_follows zero r h = h
  run_follows (suc n) r h = run_follows n (step virtual p r) (step_follows r h)

  first_follows : (input : List ℕ) → Follows (first virtual p input)
  first_follows input = by_main (slice_get p.functions p.main) refl
    where
      by_main : (o : Option (Function ℕ Note)) → slice_get p.functions p.main ≡ o → Follows (first_in virtual (start p.objects input) p.main o)
      by_main None e = tt
      by_main (Some gn) e =
          begin_follows [] (start p.objects input) p.main gn (write_all virtual (Some (virtual.empty gn.size)) gn.parameters []) tt
          (record { paired = refl; starts = refl; entered = λ x. cc }) refl e

  -- the totals of a good run
  pub totals : (input : List ℕ) (n v : ℕ) (u : World) → lrun p input n ≡ Done v u → All (λ k. (l.least ≤ k) × (k ≤ l.most)) (T u.trace).starts → KeepsTotals f u.trace l
  totals input n v u done kept =
      let h : Fair u.trace × ((T u.trace).again ≡ false) = subst Follows done (run_follows n (first virtual p input) (first_follows input)) in
      let paired = h.0.paired in
      let starts = h.0.starts in
      let none : once (T u.trace).again ≡ 0 = ap once h.1 in
      let heads = began_count f l.header u.trace in
      let backs = began_count f l.latch u.trace in
      let entries : length (T u.trace).starts ≡ heads - backs = omega arith in
      let bounds = least_total l (T u.trace).starts kept in
      record {
        backs = omega arith;
        least = subst (λ k. l.least * k ≤ heads) entries (subst (λ k. l.least * length (T u.trace).starts ≤ k) (sym starts) bounds.0);
        most = subst (λ k. heads ≤ l.most * k) entries (subst (λ k. k ≤ l.most * length (T u.trace).starts) (sym starts) bounds.1);
      }

pub all_totals : (p : Low) → IsLow p → TotalsKept p
all_totals p low input n v u good f fn there k d lt =
    let formed = low.functions f fn there in
    totals p f fn there (slice_index_or fn.loops k d) (formed.loops k d lt) input n v u good.done (good.loops f fn there k d lt)
