-- Code that is made.
use Rattle.std.proofs.Common.{◌≡◌, ◌<◌, ◌≤◌, ℕ, ◌+◌, Bool, true, false, List, [], ◌∷◌, ◌++◌, drop, length, map, Some, refl, sym, ap, ◌∙◌, subst, inl, inr, ⊎_elim}
use Rattle.std.specs.Prelude.{All, Vec, slice_get, slice_index_or}
use Rattle.std.specs.Global.{Global}
use Rattle.std.proofs.lemmas.List.{append_assoc, drop_all, drop_more, map_push}
use Rattle.std.proofs.lemmas.List.Elements.{All-cons, All-nil, All-weaker}
use Rattle.std.proofs.lemmas.Option.{slice_get_within}
use Rattle.low_ir.specs.declared.instruction.Instr.{Instr as Instr'}
use Rattle.low_ir.specs.Code.{Address, Base, Fixed, Through, Plain, Instr, Do, Call, End, Note}
use Rattle.low_ir.specs.Effects.{dest}
use Rattle.low_ir.specs.Formed.{IsThere, RegistersWithin, addresses, base_claims, base_objects, written_by}
use Rattle.low_ir.specs.Runs.{Bank}
use Rattle.low_ir.specs.View.{claim_of, instr_of}
use Rattle.pass_strength_reduction_law.specs.Knowing.{AlwaysGives, DoesTheSame, InstrTeaches, Knowing, Teaches, with_value}
use Rattle.pass_strength_reduction_law.specs.Steps.{Carries, Code, Follows, Inserts, IsPlaced, MayBegin, Passes, Replaces, claims_of}
use Rattle.pass_dataflow_facts.specs.declared.facts.Fact.{Fact}
use Rattle.pass_dataflow_facts.specs.Facts.{all_true}
use Rattle.pass_strength_reduction.specs.Making.{CanBegin, IsPlacedWell, IsSure, Stands, WritesSpare}
use Rattle.pass_strength_reduction.specs.Scenes.{Adds, Fits, Goes, IsStep, Scene, SoFar, Takes, anything, beginnings, is_spare, left_of}

-- whatever is passed will do
any_passes : (size : ℕ) (j : Instr ℕ Note) (at : Knowing) → Passes size anything j at
any_passes size (Do i) at = tt
any_passes size (Call d f args note) at = λ s xs keeps e. refl

-- what teaches facts, whatever the claims are
abbrev pub Taught : ℕ → Instr ℕ Note → List Fact → List Fact → Type 0
Taught registers i old new = (claims : List (List ℕ)) → InstrTeaches registers claims i (all_true old) (all_true new)

-- an instruction stays
pub keeps : (sc : Scene) (registers : ℕ) (i j : Instr ℕ Note) (old new : List Fact) → sc.fn.size ≡ registers → j ≡ i → Taught registers i old new → Takes sc j i (all_true old) (all_true new)
keeps sc registers i j old new size same teaches end js behind goes =
    inl (record {
      now = all_true new;
      behind = behind;
      is = ap (λ x. x ∷ behind) (sym same);
      teaches = subst (λ x. InstrTeaches sc.fn.size sc.old.claims x (all_true old) (all_true new)) (sym same) (subst (λ n. InstrTeaches n sc.old.claims i (all_true old) (all_true new)) (sym size) (teaches sc.old.claims));
      passes = any_passes sc.fn.size j (all_true old);
      goes_on = goes;
    })

-- a new instruction is well placed
module _ (claims : List (Vec ℕ Global)) (alone : List ℕ) (objects registers : ℕ) (spare : List Bool) (sc : Scene) (fits : Fits claims alone objects registers spare sc) where
  abbrev news : List (List ℕ)
  news = map claim_of claims ++ claims_of alone

  base_there : (b : Base ℕ) → CanBegin objects news b → All (λ o. o < length sc.new.objects) (base_objects b) × All (λ c. c < length sc.new.claims) (base_claims b)
  base_there (Fixed o) can = (All-cons (λ o. o < length sc.new.objects) o [] (subst (λ n. o < n) (sym fits.there) can) (All-nil (λ o. o < length sc.new.objects)), All-nil (λ c. c < length sc.new.claims))
  base_there (Through r c) can =
      (All-nil (λ o. o < length sc.new.objects), All-cons (λ c. c < length sc.new.claims) c [] (subst (λ cs. c < length cs) (sym fits.after) (slice_get_within news c (can.object ∷ []) can.is)) (All-nil (λ c. c < length sc.new.claims)))

  base_begins : (b : Base ℕ) → CanBegin objects news b → MayBegin sc.new.claims sc.fn b
  base_begins (Fixed o) can = tt
  base_begins (Through r c) can = inr (record { object = can.object; is = ap (λ cs. slice_get cs c) fits.after ∙ can.is })

  placed : (i : Plain ℕ) (j : Instr ℕ Note) → j ≡ Do i → IsPlacedWell registers objects news j → IsPlaced sc.old sc.new sc.fn i
  placed i j becomes well =
      let within : RegistersWithin {K = Note} registers (Do i) = subst (RegistersWithin {K = Note} registers) becomes well.within in
      let begins : All (λ (a : Address ℕ). CanBegin objects news a.base) (addresses {R = ℕ} {K = Note} (Do i)) = subst (λ (x : Instr ℕ Note). All (λ (a : Address ℕ). CanBegin objects news a.base) (addresses x)) becomes well.begins in
      record {
        registers = subst (λ n. RegistersWithin {K = Note} n (Do i)) (sym fits.size) within;
        names = All-weaker (λ (a : Address ℕ). CanBegin objects news a.base) (IsThere sc.new) (λ a can. base_there a.base can) (addresses {R = ℕ} {K = Note} (Do i)) begins;
        begins = All-weaker (λ (a : Address ℕ). CanBegin objects news a.base) (λ (a : Address ℕ). MayBegin sc.new.claims sc.fn a.base) (λ a can. base_begins a.base can) (addresses {R = ℕ} {K = Note} (Do i)) begins;
      }

  -- another instruction, which does the same
  pub stands : (i j : Instr ℕ Note) (old new : List Fact) → Stands news old i j → IsPlacedWell registers objects news j → Taught registers i old new → Takes sc j i (all_true old) (all_true new)
  stands i j old new st well teaches end js behind goes =
      inr (inl (record {
        old = st.old;
        new = st.new;
        now = all_true new;
        behind = behind;
        is = ap (λ x. x ∷ behind) st.is;
        becomes = st.becomes;
        into = st.into;
        placed = placed st.new j st.becomes well;
        same = subst (λ cs. DoesTheSame sc.fn.size (all_true old) sc.old.claims st.old cs st.new) (sym fits.after) (st.same sc.fn.size sc.old.claims);
        teaches = subst (λ n. Teaches n sc.old.claims st.old (all_true old) (all_true new)) (sym fits.size) (subst (λ x. InstrTeaches registers sc.old.claims x (all_true old) (all_true new)) st.is (teaches sc.old.claims));
        goes_on = goes;
      }))

  -- one more
  pub inserts : (i j : Instr ℕ Note) (old new : List Fact) → j ≡ i → IsSure news old i → WritesSpare spare i → IsPlacedWell registers objects news i → Taught registers i old new → Adds sc j (all_true old) (all_true new)
  inserts i j old new same sure writes well teaches end js code goes =
      let plain = sure.plain in
      let into : dest plain ≡ Some writes.register = subst (λ (x : Instr ℕ Note). written_by x ≡ Some writes.register) sure.is writes.is in
      let taught : Teaches registers news plain (all_true old) (all_true new) = subst (λ x. InstrTeaches registers news x (all_true old) (all_true new)) sure.is (teaches news) in
      inr (inr (record {
        new = plain;
        register = writes.register;
        now = all_true new;
        becomes = same ∙ sure.is;
        into = into;
        spared = ap (λ fs. is_spare fs writes.register) fits.is ∙ writes.spared;
        placed = placed plain i sure.is well;
        gives = subst (λ cs. AlwaysGives sc.fn.size cs plain writes.register (all_true old) (all_true new)) (sym fits.after)
            (λ s u keep.
            let g = sure.gives u s keep.1 in
            record {
              value = g.value;
              is = g.is;
              known = subst (λ d. all_true new (with_value s d g.value) ≡ true) into (taught s u (record { world = u; value = g.value }) (keep.0 ∙ fits.size, keep.1) g.is);
            });
        goes_on = goes;
      }))

-- code so far
pub takes_more : (sc : Scene) (begun known now : Knowing) (whole rest made : Code) (i j : Instr ℕ Note) → SoFar sc begun whole known (i ∷ rest) made → Takes sc j i known now → SoFar sc begun whole now rest (made ++ j ∷ [])
takes_more sc begun known now whole rest made i j so takes end js goes =
    subst (λ ys. Goes sc end ys begun whole) (sym (append_assoc made (j ∷ []) js)) (so end (j ∷ js) (takes end js rest goes))

adds_more : (sc : Scene) (begun known now : Knowing) (whole rest made : Code) (j : Instr ℕ Note) → SoFar sc begun whole known rest made → Adds sc j known now → SoFar sc begun whole now rest (made ++ j ∷ [])
adds_more sc begun known now whole rest made j so adds end js goes =
    subst (λ ys. Goes sc end ys begun whole) (sym (append_assoc made (j ∷ []) js)) (so end (j ∷ js) (adds end js rest goes))

step_more : (sc : Scene) (begun known now : Knowing) (whole rest made : Code) (takes : Bool) (j : Instr ℕ Note) → SoFar sc begun whole known rest made → IsStep sc takes j rest known now → SoFar sc begun whole now (left_of takes rest) (made ++ j ∷ [])
step_more sc begun known now whole rest made false j so step = adds_more sc begun known now whole rest made j so step
step_more sc begun known now whole [] made true j so step = absurd step
step_more sc begun known now whole (i ∷ rest) made true j so step = takes_more sc begun known now whole rest made i j so step

left_map : (takes : Bool) (xs : List Instr') → left_of takes (map instr_of xs) ≡ map instr_of (left_of takes xs)
left_map false xs = refl
left_map true [] = refl
left_map true (x ∷ xs) = refl

pub step_made : (sc : Scene) (begun known now : Knowing) (whole : Code) (xs left ys more : List Instr') (takes : Bool) (new : Instr') → SoFar sc begun whole known (map instr_of xs) (map instr_of ys) → IsStep sc takes (instr_of new) (map instr_of xs) known now → left ≡ left_of takes xs → more ≡ ys ++ new ∷ [] → SoFar sc begun whole now (map instr_of left) (map instr_of more)
step_made sc begun known now whole xs left ys more takes new so step is pushed =
    let next = step_more sc begun known now whole (map instr_of xs) (map instr_of ys) takes (instr_of new) so step in
    subst (λ rest. SoFar sc begun whole now rest (map instr_of more)) (left_map takes xs ∙ ap (map instr_of) (sym is))
    (subst (λ made. SoFar sc begun whole now (left_of takes (map instr_of xs)) made) (sym (map_push instr_of ys new) ∙ ap (map instr_of) (sym pushed)) next)

-- the rest of a list begins with its next element
next : (xs : List Instr') (i : ℕ) (x : Instr') → i < length xs → x ≡ slice_index_or xs i x → map instr_of (drop i xs) ≡ instr_of x ∷ map instr_of (drop (i + 1) xs)
next xs i x lt is = ap (map instr_of) (drop_more xs i x lt) ∙ ap (λ y. instr_of y ∷ map instr_of (drop (i + 1) xs)) (sym is)

pub kept_made : (sc : Scene) (begun known now : Knowing) (whole : Code) (xs : List Instr') (i : ℕ) (x new : Instr') (ys more : List Instr') → i < length xs → x ≡ slice_index_or xs i x → SoFar sc begun whole known (map instr_of (drop i xs)) (map instr_of ys) → Takes sc (instr_of new) (instr_of x) known now → more ≡ ys ++ new ∷ [] → SoFar sc begun whole now (map instr_of (drop (i + 1) xs)) (map instr_of more)
kept_made sc begun known now whole xs i x new ys more lt is so takes pushed =
    let here = subst (λ rest. SoFar sc begun whole known rest (map instr_of ys)) (next xs i x lt is) so in
    subst (λ made. SoFar sc begun whole now (map instr_of (drop (i + 1) xs)) made) (sym (map_push instr_of ys new) ∙ ap (map instr_of) (sym pushed))
    (takes_more sc begun known now whole (map instr_of (drop (i + 1) xs)) (map instr_of ys) (instr_of x) (instr_of new) here takes)

pub kept_all : (sc : Scene) (begun known : Knowing) (whole : Code) (xs : List Instr') (i : ℕ) (ys : List Instr') → length xs ≤ i → SoFar sc begun whole known (map instr_of (drop i xs)) (map instr_of ys) → SoFar sc begun whole known [] (map instr_of ys)
kept_all sc begun known whole xs i ys all so = subst (λ rest. SoFar sc begun whole known rest (map instr_of ys)) (ap (map instr_of) (drop_all i xs all)) so

pub none_made : (sc : Scene) (begun : Knowing) (whole : Code) (ys : List Instr') → ys ≡ [] → SoFar sc begun whole begun whole (map instr_of ys)
none_made sc begun whole ys none end js goes = subst (λ xs. Goes sc end (map instr_of xs ++ js) begun whole) (sym none) goes

-- where more is known, the code goes on as well
pub known_more : (sc : Scene) (end : End ℕ) (js code : Code) (at more : Knowing) → ((s : Bank) → more s ≡ true → at s ≡ true) → Goes sc end js at code → Goes sc end js more code
known_more sc end [] code at more less goes = record { done = goes.done; is = goes.is; known = λ n s to keep. goes.known n s to (keep.0, less s keep.1) }
known_more sc end (j ∷ js) code at more less goes =
    let so = Follows sc.old sc.new anything (is_spare sc.spare) (beginnings sc.changes) sc.fn end end js in
    ⊎_elim
    (λ (c : Carries sc.old sc.new anything (is_spare sc.spare) (beginnings sc.changes) sc.fn so j at code).
    inl (record { now = c.now; behind = c.behind; is = c.is; teaches = instr_more j c.now c.teaches; passes = any_passes sc.fn.size j more; goes_on = c.goes_on }))
    (⊎_elim
    (λ (c : Replaces sc.old sc.new anything (is_spare sc.spare) (beginnings sc.changes) sc.fn so j at code).
    inr (inl (record {
      old = c.old;
      new = c.new;
      now = c.now;
      behind = c.behind;
      is = c.is;
      becomes = c.becomes;
      into = c.into;
      placed = c.placed;
      same = λ s u did keep e. c.same s u did (keep.0, less s keep.1) e;
      teaches = λ s u did keep e. c.teaches s u did (keep.0, less s keep.1) e;
      goes_on = c.goes_on;
    })))
    (λ (c : Inserts sc.old sc.new anything (is_spare sc.spare) (beginnings sc.changes) sc.fn so j at code).
    inr (inr (record {
      new = c.new;
      register = c.register;
      now = c.now;
      becomes = c.becomes;
      into = c.into;
      spared = c.spared;
      placed = c.placed;
      gives = λ s u keep. c.gives s u (keep.0, less s keep.1);
      goes_on = c.goes_on;
    }))))
    goes
  where
    instr_more : (i : Instr ℕ Note) (now : Knowing) → InstrTeaches sc.fn.size sc.old.claims i at now → InstrTeaches sc.fn.size sc.old.claims i more now
    instr_more (Do i) now teaches = λ s u did keep e. teaches s u did (keep.0, less s keep.1) e
    instr_more (Call d f args note) now teaches = λ s v keep. teaches s v (keep.0, less s keep.1)
