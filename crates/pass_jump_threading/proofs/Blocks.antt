-- Blocks, functions and programs that were made.
use Rattle.std.proofs.Common.{◌≡◌, ◌<◌, ◌≤◌, ℕ, zero, suc, ◌+◌, Bool, true, false, List, [], ◌∷◌, ◌++◌, drop, length, Option, Some, None, refl, sym, ◌∙◌, subst, ⊎_elim, inl, inr, arith}
use Rattle.std.specs.Prelude.{All, IfSome, slice_index_or}
use Rattle.std.proofs.lemmas.List.{append_assoc, append-nil, drop_all, length-append}
use Rattle.low_ir.specs.Code.{Operand, End, Jump, Branch, Block, Note}
use Rattle.rv_core.specs.declared.row.Condition.{Condition}
use Rattle.pass_jump_threading_law.specs.Known.{Code, Equals, Fewer, Known, Knows, Tells, goal, tells}
use Rattle.pass_jump_threading_law.specs.Threads.{BlockThreaded, Blocks, EndThreaded, Plan}
use Rattle.pass_jump_threading.specs.declared.facts.Fact.{Fact}
use Rattle.pass_jump_threading.specs.declared.planning.Planned.{Planned}
use Rattle.pass_jump_threading.specs.declared.planning.Stay.{Stay}
use Rattle.pass_jump_threading.specs.Facts.{Begins, Covers, IsTold, Says, known_in}
use Rattle.pass_jump_threading.specs.Planning.{IsSeen, Landing, Leads, SoFar, facts_by, plan_of}
use Rattle.pass_jump_threading.proofs.Knowing.{said_begins}
use Rattle.low_parts.proofs.Runs.{LowFunction}

pub lands_there : (fn : LowFunction) (p : Planned) (known : Known) (told : Option Fact) (b old c : ℕ) → Leads fn known b old → Begins known told ((plan_of p).at old) → (plan_of p).name old ≡ Some c → Landing fn p known told b c
lands_there fn p known told b old c leads begins named = record { lands = record { past = leads.past; old = old; comes = leads.comes; named = named }; begins = begins }

-- where a block that is left begins, other than the first
pub begins_later : (p : Planned) (known : Known) (told : Option Fact) (b : ℕ) (s : Stay) → 0 < b → slice_index_or p.stays.items b None ≡ Some s → Covers p.held.items known → All (Says known told) s.facts.items → Begins known told ((plan_of p).at b)
begins_later p known told zero s later there covers all r w e = absurd (omega (arith, later))
begins_later p known told (suc b) s later there covers all r w e =
    said_begins p.held.items known told s.facts.items covers all r w (subst (λ o. known_in p.held.items (facts_by o) r ≡ Some w) there e)

nothing_told : (known now : Known) → Begins known None now → Fewer known now
nothing_told known now h r w e = ⊎_elim (λ (k : known r ≡ Some w). k) (λ (no : IsTold None r w). absurd no) (h r w e)

pub landed : (fn : LowFunction) (p : Planned) (known : Known) (told : Option Fact) (b old : ℕ) (o : Option ℕ) → o ≡ (plan_of p).name old → (All (IsSeen p.seen.items) fn.loops → Leads fn known b old) → (Covers p.held.items known → Begins known told ((plan_of p).at old)) → IfSome o (λ c. All (IsSeen p.seen.items) fn.loops → Covers p.held.items known → Landing fn p known told b c)
landed fn p known told b old None is leads begins = tt
landed fn p known told b old (Some c) is leads begins = λ all covers. lands_there fn p known told b old c (leads all) (begins covers) (sym is)

-- an end that goes to one block
pub end_settled : (fn : LowFunction) (p : Planned) (known : Known) (end : End ℕ) (b c : ℕ) → goal known end ≡ Some b → Landing fn p known None b c → EndThreaded fn (plan_of p) known end (Jump c)
end_settled fn p known end b c goes l =
    inl (record { next = b; block = c; goes = goes; is = refl; lands = l.lands; begins = nothing_told known ((plan_of p).at l.lands.old) l.begins })

told_tells : (known now : Known) (c : Condition) (x y : Operand ℕ) (taken : Bool) (told : Option Fact) → ((r w : ℕ) → IsTold told r w → (tells c taken ≡ true) × Equals known x y r w) → Begins known told now → Tells known c x y taken now
told_tells known now c x y taken told says h r w e = ⊎_elim (λ (k : known r ≡ Some w). inl k) (λ (k : IsTold told r w). inr (says r w k)) (h r w e)

-- a branch that goes on
pub end_parted : (fn : LowFunction) (p : Planned) (known : Known) (c : Condition) (x y : Operand ℕ) (taken other first second : ℕ) (so not : Option Fact) → ((r w : ℕ) → IsTold so r w → (tells c true ≡ true) × Equals known x y r w) → ((r w : ℕ) → IsTold not r w → (tells c false ≡ true) × Equals known x y r w) → Landing fn p known so taken first → Landing fn p known not other second → EndThreaded fn (plan_of p) known (Branch c x y taken other) (Branch c x y first second)
end_parted fn p known c x y taken other first second so not says says_not l m =
    inr (record {
      first = first;
      second = second;
      is = refl;
      lands = l.lands;
      begins = told_tells known ((plan_of p).at l.lands.old) c x y true so says l.begins;
      lands_other = m.lands;
      begins_other = told_tells known ((plan_of p).at m.lands.old) c x y false not says_not m.begins;
    })

-- the same, of the same lists
pub knows_same : (h k : List (Option ℕ)) (old fs out : List Fact) (code same : Code) → h ≡ k → old ≡ fs → code ≡ same → Knows (known_in h old) code (known_in h out) → Knows (known_in k fs) same (known_in k out)
knows_same h k old fs out code same e f g knows =
    subst (λ x. Knows (known_in k fs) x (known_in k out)) g
    (subst (λ x. Knows (known_in k x) code (known_in k out)) f (subst (λ x. Knows (known_in x old) code (known_in x out)) e knows))

pub end_same : (fn : LowFunction) (p : Planned) (h k : List (Option ℕ)) (fs gs : List Fact) (end new : End ℕ) → h ≡ k → fs ≡ gs → (Covers p.held.items (known_in h fs) → EndThreaded fn (plan_of p) (known_in h fs) end new) → Covers p.held.items (known_in k gs) → EndThreaded fn (plan_of p) (known_in k gs) end new
end_same fn p h k fs gs end new e f go =
    subst (λ x. Covers p.held.items (known_in k x) → EndThreaded fn (plan_of p) (known_in k x) end new) f
    (subst (λ x. Covers p.held.items (known_in x fs) → EndThreaded fn (plan_of p) (known_in x fs) end new) e go)

-- the first block, where nothing is known
pub first_threaded : (fn : LowFunction) (p : Planned) (b c : Block ℕ Note) (out : List Fact) → c.mark ≡ b.mark → c.code ≡ b.code → Knows (known_in [] []) b.code (known_in [] out) → EndThreaded fn (plan_of p) (known_in [] out) b.end c.end → BlockThreaded fn (plan_of p) 0 b c
first_threaded fn p b c out mark code knows end = record { mark = mark; code = code; out = known_in [] out; knows = knows; end = end }

-- another block that is left
pub later_threaded : (fn : LowFunction) (p : Planned) (n : ℕ) (s : Stay) (b c : Block ℕ Note) (out : List Fact) → 0 < n → slice_index_or p.stays.items n None ≡ Some s → c.mark ≡ b.mark → c.code ≡ b.code → Knows (known_in p.held.items s.facts.items) b.code (known_in p.held.items out) → EndThreaded fn (plan_of p) (known_in p.held.items out) b.end c.end → BlockThreaded fn (plan_of p) n b c
later_threaded fn p zero s b c out later there mark code knows end = absurd (omega (arith, later))
later_threaded fn p (suc n) s b c out later there mark code knows end =
    record {
      mark = mark;
      code = code;
      out = known_in p.held.items out;
      knows = subst (λ o. Knows (known_in p.held.items (facts_by o)) b.code (known_in p.held.items out)) (sym there) knows;
      end = end;
    }

-- blocks so far
pub none_yet : (fn : LowFunction) (plan : Plan) → SoFar fn plan 0 []
none_yet fn plan cs h = h

pub one_left_out : (fn : LowFunction) (plan : Plan) (n : ℕ) (made : List (Block ℕ Note)) (b : Block ℕ Note) → drop n fn.blocks ≡ b ∷ drop (n + 1) fn.blocks → plan.name n ≡ None → SoFar fn plan n made → SoFar fn plan (n + 1) made
one_left_out fn plan n made b here none so cs h =
    let next : n + 1 ≡ suc n = omega arith in
    so cs (subst (λ bs. Blocks fn plan n (length made) bs cs) (sym here) (by_rest cs (subst (λ k. Blocks fn plan k (length made) (drop (n + 1) fn.blocks) cs) next h)))
  where
    by_rest : (cs : List (Block ℕ Note)) → Blocks fn plan (suc n) (length made) (drop (n + 1) fn.blocks) cs → Blocks fn plan n (length made) (b ∷ drop (n + 1) fn.blocks) cs
    by_rest [] h = (none, h)
    by_rest (c ∷ cs) h = inl (none, h)

pub one_left : (fn : LowFunction) (plan : Plan) (n : ℕ) (made : List (Block ℕ Note)) (b c : Block ℕ Note) → drop n fn.blocks ≡ b ∷ drop (n + 1) fn.blocks → plan.name n ≡ Some (length made) → BlockThreaded fn plan n b c → SoFar fn plan n made → SoFar fn plan (n + 1) (made ++ c ∷ [])
one_left fn plan n made b c here named threaded so cs h =
    let next : n + 1 ≡ suc n = omega arith in
    let long : length (made ++ c ∷ []) ≡ suc (length made) = length-append made (c ∷ []) ∙ (omega arith) in
    let rest : Blocks fn plan (suc n) (suc (length made)) (drop (n + 1) fn.blocks) cs =
    subst (λ k. Blocks fn plan k (suc (length made)) (drop (n + 1) fn.blocks) cs) next (subst (λ m. Blocks fn plan (n + 1) m (drop (n + 1) fn.blocks) cs) long h) in
    subst (Blocks fn plan 0 0 fn.blocks) (sym (append_assoc made (c ∷ []) cs))
    (so (c ∷ cs) (subst (λ bs. Blocks fn plan n (length made) bs (c ∷ cs)) (sym here) (inr (named, threaded, rest))))

pub all_made : (fn : LowFunction) (plan : Plan) (n : ℕ) (made : List (Block ℕ Note)) → length fn.blocks ≤ n → SoFar fn plan n made → Blocks fn plan 0 0 fn.blocks made
all_made fn plan n made past so =
    subst (Blocks fn plan 0 0 fn.blocks) (append-nil made) (so [] (subst (λ bs. Blocks fn plan n (length made) bs []) (sym (drop_all n fn.blocks past)) refl))
