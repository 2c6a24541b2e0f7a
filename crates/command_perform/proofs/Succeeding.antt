-- What can end in one way alone ends so, memory and counted faults apart.
use Rattle.std.proofs.Common.{◌≡◌, ◌⊎◌, ℕ, ◌<◌, List, [], ◌∷◌, length, Option, Some, None, refl, sym, subst, ◌∙◌, inl, inr, ⊎_elim, arith}
use Rattle.std.specs.Prelude.{IfSome, IsSomeAnd}
use Rattle.wcc_base.specs.Outside.{Files, StoreState, SinkState, bytes_of, Rose}
use Rattle.wcc_base.specs.Limits.{greatest_of}
use Rattle.wcc_base.specs.declared.limits.Bound.{Bound}
use Rattle.wcc_base.specs.declared.status.Status.{Status}
use Rattle.wcc_base.specs.declared.status.Status.TheVariants as status
use Rattle.command_perform.specs.Words.{Asked, Named, Respond}
use Rattle.command_perform.specs.Gathering.{Wants, contents_of, Fit, Overlong, Gathered}
use Rattle.command_perform.specs.Commands.{wanted_of}
use Rattle.command_perform.specs.Outputs.{Outputs}
use Rattle.command_perform.specs.StatusLines.{line_of}
use Rattle.command_perform.specs.Finishing.{Reported}
use Rattle.command_perform.specs.Ends.{OverlongIn, RefusesIn, MakesIn, Ending, read_fault, too_long, refused, whole, in_part, memory_in_part, memory, IsIdle, EndsWith}
use Rattle.command_perform.specs.Responding.{CanOnlyRespond}
use Rattle.command_perform.specs.Promises.{CanOnly, CanEnd, NoFault}

-- what told files had when they were read
read_of : (P : List (List ℕ) → Type 0) (ws : Wants) (files : Option Files) (contents : List (List ℕ)) → IsSomeAnd files (λ fs. Fit ws fs × P (contents_of ws fs)) → Gathered ws files contents → P contents
read_of P ws None contents p g = absurd p
read_of P ws (Some fs) contents p g = subst P (sym g.0) p.1

-- two facts of told files
both : {P Q : Files → Type 0} (files : Option Files) → IsSomeAnd files P → IfSome files Q → (fs : Files) × P fs × Q fs
both None p q = absurd p
both (Some fs) p q = (fs, p, q)

pub fits : (ws : Wants) (fs : Files) (which : Bound) → Fit ws fs → Overlong ws fs which → ⊥
fits [] fs which f o = o
fits (w ∷ ws) fs which f o = ⊎_elim (λ a. absurd (omega (arith, f.0, subst (λ (b : Bound). greatest_of b < length (bytes_of fs w.0)) (sym a.0) a.1))) (λ a. fits ws fs which f.1 a.1) o

abbrev Succeeds : Status → Status → Type 0
Succeeds wanted result = (result ≡ wanted) ⊎ (result ≡ status.Memory)

end_reported : (wanted s : Status) (lines : List ℕ) (out out' : SinkState) (result : Status) → s ≡ wanted → (Rose out.faults out'.faults → ⊥) → Reported s lines out out' result → Succeeds wanted result
end_reported wanted s lines out out' result e f r = ⊎_elim (λ a. inl (a.0 ∙ e)) (⊎_elim (λ a. inr a.0) (λ a. absurd (f a.2))) r

memory_reported : (wanted : Status) (lines : List ℕ) (out out' : SinkState) (result : Status) → Reported status.Memory lines out out' result → Succeeds wanted result
memory_reported wanted lines out out' result r = ⊎_elim (λ a. inr a.0) (⊎_elim (λ a. inr a.0) (λ a. inr a.0)) r

-- what is asked ends in one way, so that no file passes its limit, and each refusal and whatever is made have that status

never_long : (c : Asked) (old : StoreState) (wanted : Status) (which : Bound) → CanEnd (Some c) old wanted → OverlongIn c old.files which → ⊥
never_long (Named c) old wanted which p o = let k = both old.files p o in fits (wanted_of c) k.0 which k.1.0 k.2
never_long (Respond asked) old wanted which p o = let k = both old.files p o in k.1.fits which k.2

only_refused : (c : Asked) (files : Option Files) (old : StoreState) (wanted s : Status) → old.files ≡ files → CanEnd (Some c) old wanted → RefusesIn c files s → s ≡ wanted
only_refused (Named c) files old wanted s e p r =
    let k : CanOnly c r.0 wanted = read_of (λ contents. CanOnly c contents wanted) (wanted_of c) files r.0 (rw e at p) r.1 in
    k.refuses s r.2
only_refused (Respond asked) None old wanted s e p r = absurd (rw e at p)
only_refused (Respond asked) (Some fs) old wanted s e p r = let k : CanOnlyRespond asked fs wanted = rw e at p in k.refuses s r

only_made : (c : Asked) (files : Option Files) (old : StoreState) (wanted : Status) (made : Outputs) → old.files ≡ files → CanEnd (Some c) old wanted → MakesIn c files made → made.status ≡ wanted
only_made (Named c) files old wanted made e p m =
    let k : CanOnly c m.0 wanted = read_of (λ contents. CanOnly c contents wanted) (wanted_of c) files m.0 (rw e at p) m.1 in
    k.makes made m.2
only_made (Respond asked) None old wanted made e p m = absurd (rw e at p)
only_made (Respond asked) (Some fs) old wanted made e p m = let k : CanOnlyRespond asked fs wanted = rw e at p in k.makes made m

by_ending : (c : Asked) (old new : StoreState) (out out' : SinkState) (result s wanted : Status) (lines : List ℕ) → Ending c old new s lines → Reported s lines out out' result → CanEnd (Some c) old wanted → NoFault old new out out' → Succeeds wanted result
by_ending c old new out out' result s wanted lines (read_fault a r) q p f = absurd (f.reads r.reads)
by_ending c old new out out' result s wanted lines (too_long which a e o) q p f = absurd (never_long c old wanted which p o)
by_ending c old new out out' result s wanted lines (refused t e i r) q p f =
    end_reported wanted t lines out out' result (only_refused c old.files old wanted t refl p r) f.puts q
by_ending c old new out out' result s wanted lines (whole made i m e n) q p f =
    end_reported wanted made.status lines out out' result (only_made c old.files old wanted made refl p m) f.puts q
by_ending c old new out out' result s wanted lines (in_part made m p' w) q p f = absurd (f.writes w.writes)
by_ending c old new out out' result s wanted lines (memory_in_part made m p' n) q p f = memory_reported wanted lines out out' result q
by_ending c old new out out' result s wanted lines (memory e) q p f = memory_reported wanted lines out out' result q

idle_succeeds : (out out' : SinkState) (s result wanted : Status) → IsIdle s → wanted ≡ status.Usage → (Rose out.faults out'.faults → ⊥) → Reported s (line_of s) out out' result → Succeeds wanted result
idle_succeeds out out' status.Usage result wanted i p f r = end_reported wanted status.Usage _ out out' result (sym p) f r
idle_succeeds out out' status.Memory result wanted i p f r = memory_reported wanted _ out out' result r
idle_succeeds out out' s result wanted i p f r = absurd i

pub succeeds_of : (asked : Option Asked) (old new : StoreState) (out out' : SinkState) (result wanted : Status) → EndsWith asked old new out out' result → CanEnd asked old wanted → NoFault old new out out' → Succeeds wanted result
succeeds_of None old new out out' result wanted x p f = idle_succeeds out out' x.0 result wanted x.1 p f.puts x.3
succeeds_of (Some c) old new out out' result wanted x p f = by_ending c old new out out' result x.0 wanted x.1 x.2 x.3 p f
