-- How the steps of a command make an ending, and what each ending answers.
use Rattle.std.proofs.Common.{◌≡◌, ◌⊎◌, ℕ, List, Option, Some, None, Result, Ok, Err, refl, sym, ap, subst, ◌∙◌, inl, inr, ⊎_elim}
use Rattle.std.specs.Prelude.{MatchResult}
use Rattle.wcc_base.specs.Outside.{StoreState, SinkState, told_append, Rose}
use Rattle.wcc_base.specs.declared.status.Status.{Status}
use Rattle.wcc_base.specs.declared.status.Status.TheVariants as status
use Rattle.command_perform.specs.declared.make.Made.{Made}
use Rattle.command_perform.specs.Words.{Asked}
use Rattle.command_perform.specs.Outputs.{Outputs, outputs_of}
use Rattle.command_perform.specs.StatusLines.{line_of}
use Rattle.command_perform.specs.Gathering.{NotRead, OnlyRead}
use Rattle.command_perform.specs.Finishing.{all_put, Partly, NoneFailed, IsCut, status_after_fault, Reported, Finished}
use Rattle.command_perform.specs.Ends.{ReadsFiles, OverlongIn, RefusesIn, MakesIn, IsRefusal, IsEnd, Ending, read_fault, too_long, refused, whole, in_part, memory_in_part, memory, IsIdle, EndsWith, Fails}
use Rattle.command_perform.specs.Promises.{HasMade, IsDone, HasFailed, IsUntold, Answers}
use Rattle.command_perform.proofs.Counts.{unchanged, none_more, write_failed, all_read, fault_read, none_read, refusal_counts}

made_ends : (c : Asked) (old mid new : StoreState) (out out' : SinkState) (made : Outputs) (result : Status) → mid.files ≡ old.files → NoneFailed old mid → IsEnd made.status → MakesIn c old.files made → Finished made mid new out out' result → EndsWith (Some c) old new out out' result
made_ends c old mid new out out' made result e n i m f =
    ⊎_elim
    (λ a. (made.status, made.lines, whole made i m (a.0 ∙ ap (all_put made.files) e) (none_more old mid new n a.1), a.2))
    (λ b. ⊎_elim
    (λ a. (status.WriteFault, line_of status.WriteFault, in_part made m (subst (λ fs. Partly made.files fs new.files) e a.0) (write_failed old mid new n a.1), a.2))
    (λ a. (status.Memory, line_of status.Memory, memory_in_part made m (subst (λ fs. Partly made.files fs new.files) e a.0) (none_more old mid new n a.1), a.2))
    b)
    f

not_read : {T : Type 0} (c : Asked) (old new : StoreState) (s : Status) → OnlyRead {T = T} old new (Err s) → NotRead (ReadsFiles c) (OverlongIn c old.files) s → Ending c old new s (line_of s)
not_read c old new status.ReadFault o n = read_fault n (fault_read old new o)
not_read c old new status.Memory o n = memory (none_read old new status.Memory refl o)
not_read c old new (status.Limit which found) o n =
    subst (λ (k : ℕ). Ending c old new (status.Limit which k) (line_of (status.Limit which k))) (sym n.0) (too_long which n.2 (none_read old new (status.Limit which found) refl o) n.1)
not_read c old new s o n = absurd n

memory_ending : {T : Type 0} (c : Asked) (old new : StoreState) (s : Status) → s ≡ status.Memory → OnlyRead {T = T} old new (Err s) → Ending c old new s (line_of s)
memory_ending {T = T} c old new s m o =
    subst (λ (t : Status). OnlyRead {T = T} old new (Err t) → Ending c old new t (line_of t)) (sym m) (λ k. memory (none_read old new status.Memory refl k)) o

fails_ending : {T : Type 0} (c : Asked) (old new : StoreState) (s : Status) → OnlyRead {T = T} old new (Err s) → Fails c old.files s → Ending c old new s (line_of s)
fails_ending {T = T} c old new s o f =
    ⊎_elim (λ n. not_read c old new s o n) (λ b. ⊎_elim (λ m. memory_ending c old new s m o) (λ r. refused s (none_read old new s (refusal_counts T s old.read_faults r.0) o) r.0 r.1) b) f

fails_end : {T : Type 0} (c : Asked) (old mid new : StoreState) (out out' : SinkState) (s result : Status) → OnlyRead {T = T} old mid (Err s) → Fails c old.files s → (new ≡ mid) × Reported s (line_of s) out out' result → EndsWith (Some c) old new out out' result
fails_end c old mid new out out' s result o f u =
    (s, line_of s, subst (λ (k : StoreState). Ending c old k s (line_of s)) (sym u.0) (fails_ending c old mid s o f), u.1)

-- what was made or not was finished
pub performs : (c : Asked) (r : Result Made Status) (old mid new : StoreState) (out out' : SinkState) (result : Status) → OnlyRead old mid r
    → MatchResult r (λ m. IsEnd m.status × MakesIn c old.files (outputs_of m)) (λ s. Fails c old.files s)
    → MatchResult r (λ m. Finished (outputs_of m) mid new out out' result) (λ s. (new ≡ mid) × Reported s (line_of s) out out' result) → EndsWith (Some c) old new out out' result
performs c (Ok m) old mid new out out' result o x y = made_ends c old mid new out out' (outputs_of m) result o.same (all_read old mid m o) x.0 x.1 y
performs c (Err s) old mid new out out' result o x y = fails_end c old mid new out out' s result o x y

-- the words ask for what was done
pub asked_ends : (asked : Option Asked) (c : Asked) (old new : StoreState) (out out' : SinkState) (result : Status) → Some c ≡ asked → EndsWith (Some c) old new out out' result → EndsWith asked old new out out' result
asked_ends asked c old new out out' result is ends = subst (λ (k : Option Asked). EndsWith k old new out out' result) is ends

refusal_answers : (c : Asked) (old new : StoreState) (out out' : SinkState) (s : Status) → IsRefusal s → RefusesIn c old.files s → new ≡ old → Answers (Some c) old new out out' s × Answers (Some c) old new out out' (status_after_fault s)
refusal_answers c old new out out' (status.Refused code detail at) i r e = ((r, e), (r, e))
refusal_answers c old new out out' (status.No code detail at) i r e = ((r, e), (r, e))
refusal_answers c old new out out' (status.Limit which found) i r e = ((inr r, e), (inr r, e))
refusal_answers c old new out out' s i r e = absurd i

whole_answers : (c : Asked) (old new : StoreState) (out out' : SinkState) (made : Outputs) (s : Status) → made.status ≡ s → IsEnd s → MakesIn c old.files made → new.files ≡ all_put made.files old.files → NoneFailed old new → ((out'.written ≡ told_append made.lines out.written) × (out'.faults ≡ out.faults) → Answers (Some c) old new out out' s) × (Rose out.faults out'.faults → Answers (Some c) old new out out' (status_after_fault s))
whole_answers c old new out out' made status.Done q i m e n =
    let h : HasMade c old new status.Done made = record { status_is = q; makes = m; files = e; counts = n } in
    (λ p. (made, h, p.0, p.1), λ f. inr (made, h, f))
whole_answers c old new out out' made (status.Stopped kind code at cycles) q i m e n =
    let h : HasMade c old new (status.Stopped kind code at cycles) made = record { status_is = q; makes = m; files = e; counts = n } in
    (λ p. (made, h), λ f. (made, h))
whole_answers c old new out out' made s q i m e n = absurd i

-- what an ending answers, where its lines are printed, and where the sink failed
ending_answers : (c : Asked) (old new : StoreState) (out out' : SinkState) (s : Status) (lines : List ℕ) → Ending c old new s lines → ((out'.written ≡ told_append lines out.written) × (out'.faults ≡ out.faults) → Answers (Some c) old new out out' s) × (Rose out.faults out'.faults → Answers (Some c) old new out out' (status_after_fault s))
ending_answers c old new out out' s lines (read_fault a r) = (λ p. r, λ f. r)
ending_answers c old new out out' s lines (too_long which a e o) = (λ p. (inl (refl, o), e), λ f. (inl (refl, o), e))
ending_answers c old new out out' s lines (refused t e i r) = let a = refusal_answers c old new out out' t i r e in (λ p. a.0, λ f. a.1)
ending_answers c old new out out' s lines (whole made i m e n) = whole_answers c old new out out' made made.status refl i m e n
ending_answers c old new out out' s lines (in_part made m p w) =
    let h : HasFailed c old new = record { made = made; makes = m; files = p; failed = w } in
    (λ q. inl h, λ f. inl h)
ending_answers c old new out out' s lines (memory_in_part made m p n) = (λ q. inl n, λ f. inl n)
ending_answers c old new out out' s lines (memory e) = let n = unchanged old new e in (λ q. inl n, λ f. inl n)

-- what is known where memory ran out in printing the lines of an ending
cut_answers : (c : Asked) (old new : StoreState) (out out' : SinkState) (s : Status) (lines : List ℕ) → Ending c old new s lines → IsCut lines out out' → out'.faults ≡ out.faults → NoneFailed old new ⊎ IsUntold old new out out'
cut_answers c old new out out' s lines (read_fault a r) k e = inr (record { fault = status.ReadFault; failed = r; cut = k; counts = e })
cut_answers c old new out out' s lines (too_long which a u o) k e = inl (unchanged old new u)
cut_answers c old new out out' s lines (refused t u i r) k e = inl (unchanged old new u)
cut_answers c old new out out' s lines (whole made i m f n) k e = inl n
cut_answers c old new out out' s lines (in_part made m p w) k e = inr (record { fault = status.WriteFault; failed = w; cut = k; counts = e })
cut_answers c old new out out' s lines (memory_in_part made m p n) k e = inl n
cut_answers c old new out out' s lines (memory u) k e = inl (unchanged old new u)

-- no command was done
idle_answers : (old new : StoreState) (out out' : SinkState) (s result : Status) → IsIdle s → new ≡ old → Reported s (line_of s) out out' result → Answers None old new out out' result
idle_answers old new out out' status.Usage result i e r =
    let Told : Status → Type 0 = λ t. Answers None old new out out' t in
    ⊎_elim (λ a. subst Told (sym a.0) (refl, e)) (⊎_elim (λ a. subst Told (sym a.0) (inl (unchanged old new e))) (λ a. subst Told (sym a.0) (refl, e))) r
idle_answers old new out out' status.Memory result i e r =
    let Told : Status → Type 0 = λ t. Answers None old new out out' t in
    let n : NoneFailed old new = unchanged old new e in
    ⊎_elim (λ a. subst Told (sym a.0) (inl n)) (⊎_elim (λ a. subst Told (sym a.0) (inl n)) (λ a. subst Told (sym a.0) (inl n))) r
idle_answers old new out out' s result i e r = absurd i

idle_ends : (out out' : SinkState) (s result : Status) → IsIdle s → Reported s (line_of s) out out' result → (result ≡ status.Usage) ⊎ (result ≡ status.Memory)
idle_ends out out' status.Usage result i r = ⊎_elim (λ a. inl a.0) (⊎_elim (λ a. inr a.0) (λ a. inl a.0)) r
idle_ends out out' status.Memory result i r = ⊎_elim (λ a. inr a.0) (⊎_elim (λ a. inr a.0) (λ a. inr a.0)) r
idle_ends out out' s result i r = absurd i

-- the words ask for no command
pub no_command : (asked : Option Asked) (old : StoreState) (out out' : SinkState) (result : Status) → asked ≡ None → Reported status.Usage (line_of status.Usage) out out' result → EndsWith asked old old out out' result
no_command asked old out out' result none r = subst (λ (k : Option Asked). EndsWith k old old out out' result) (sym none) (status.Usage, tt, refl, r)

-- memory ran out in reading the words
pub unread_words : (asked : Option Asked) (old : StoreState) (out out' : SinkState) (result : Status) → Reported status.Memory (line_of status.Memory) out out' result → EndsWith asked old old out out' result
unread_words None old out out' result r = (status.Memory, tt, refl, r)
unread_words (Some c) old out out' result r = (status.Memory, line_of status.Memory, memory refl, r)

-- each ending is a row of the table of answers
pub answers_of : (asked : Option Asked) (old new : StoreState) (out out' : SinkState) (result : Status) → EndsWith asked old new out out' result → Answers asked old new out out' result
answers_of None old new out out' result x = idle_answers old new out out' x.0 result x.1 x.2 x.3
answers_of (Some c) old new out out' result x =
    let Told : Status → Type 0 = λ t. Answers (Some c) old new out out' t in
    let k = ending_answers c old new out out' x.0 x.1 x.2 in
    ⊎_elim (λ a. subst Told (sym a.0) (k.0 (a.1, a.2))) (⊎_elim (λ a. subst Told (sym a.0) (cut_answers c old new out out' x.0 x.1 x.2 a.1 a.2)) (λ a. subst Told (sym a.0) (k.1 a.2))) x.3

pub done_of : (asked : Option Asked) (old new : StoreState) (out out' : SinkState) (result : Status) → EndsWith asked old new out out' result → result ≡ status.Done → IsDone asked old new out out'
done_of asked old new out out' result x e = subst (λ t. Answers asked old new out out' t) e (answers_of asked old new out out' result x)

pub no_command_of : (asked : Option Asked) (old new : StoreState) (out out' : SinkState) (result : Status) → EndsWith asked old new out out' result → asked ≡ None → (result ≡ status.Usage) ⊎ (result ≡ status.Memory)
no_command_of None old new out out' result x e = idle_ends out out' x.0 result x.1 x.3
no_command_of (Some c) old new out out' result x e = absurd cc
