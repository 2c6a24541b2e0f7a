-- `make` is done, or writing fails, or memory runs out.
use Rattle.std.proofs.Common.{◌≡◌, ◌⊎◌, ◌≤◌, ℕ, List, [], ◌∷◌, Option, Some, None, sym, subst, inl, inr, ⊎_elim}
use Rattle.wcc_base.specs.Outside.{StoreState, SinkState}
use Rattle.wcc_base.specs.declared.status.Status.{Status}
use Rattle.wcc_base.specs.declared.status.Status.TheVariants as status
use Rattle.command_numbered.specs.Text.{numbered_text}
use Rattle.command_words.specs.Requests.{MakeRequest}
use Rattle.command_perform.specs.Words.{Asked, Named, Respond, Compile, Check, Run, Eval, Report, Make, IsInRange}
use Rattle.command_perform.specs.Commands.{Refuses, Makes}
use Rattle.command_perform.specs.Outputs.{Outputs}
use Rattle.command_perform.specs.Numbered.{IsKept}
use Rattle.command_perform.specs.Finishing.{status_after_fault, Reported}
use Rattle.command_perform.specs.Ends.{Ending, read_fault, too_long, refused, whole, in_part, memory_in_part, memory, EndsWith}
use Rattle.command_perform.specs.Making.{IsMadeOr, MakeEnds}
use Rattle.command_perform.proofs.KeptNumbers.{numbers_are_kept}
use Rattle.command_perform.proofs.NumberedRuns.{numbered_only}

-- what can't be printed changes nothing of that

unprinted_made : (s : Status) → IsMadeOr s → IsMadeOr (status_after_fault s)
unprinted_made status.Done i = tt
unprinted_made status.WriteFault i = tt
unprinted_made status.Memory i = tt
unprinted_made s i = absurd i

reported_made : (s : Status) (lines : List ℕ) (out out' : SinkState) (result : Status) → IsMadeOr s → Reported s lines out out' result → IsMadeOr result
reported_made s lines out out' result i r =
    ⊎_elim (λ a. subst IsMadeOr (sym a.0) i) (⊎_elim (λ a. subst IsMadeOr (sym a.0) tt) (λ a. subst IsMadeOr (sym a.0) (unprinted_made s i))) r

module _ (asked : MakeRequest) (few : asked.number ≤ 100) (kept : IsKept (numbered_text asked.number) []) where
  never_refused : (contents : List (List ℕ)) (s : Status) → Refuses (Make asked) contents s → s ≡ status.Done
  never_refused [] s r = (numbered_only asked few kept).refuses s r
  never_refused (b ∷ bs) s r = absurd r

  only_done : (contents : List (List ℕ)) (made : Outputs) → Makes (Make asked) contents made → made.status ≡ status.Done
  only_done [] made m = (numbered_only asked few kept).makes made m
  only_done (b ∷ bs) made m = absurd m

  ending_made : (old new : StoreState) (s : Status) (lines : List ℕ) → Ending (Named (Make asked)) old new s lines → IsMadeOr s
  ending_made old new s lines (read_fault a r) = absurd a
  ending_made old new s lines (too_long which a e o) = absurd a
  ending_made old new s lines (refused t e i r) = subst IsMadeOr (sym (never_refused r.0 t r.2)) tt
  ending_made old new s lines (whole made i m e n) = subst IsMadeOr (sym (only_done m.0 made m.2)) tt
  ending_made old new s lines (in_part made m p w) = tt
  ending_made old new s lines (memory_in_part made m p n) = tt
  ending_made old new s lines (memory e) = tt

make_ends : (asked : MakeRequest) (old new : StoreState) (out out' : SinkState) (result : Status) → EndsWith (Some (Named (Make asked))) old new out out' result → (result ≡ status.Memory) ⊎ IsInRange (Some (Named (Make asked))) → IsMadeOr result
make_ends asked old new out out' result x (inl m) = subst IsMadeOr (sym m) tt
make_ends asked old new out out' result x (inr r) =
    reported_made x.0 x.1 out out' result (ending_made asked r.1 (numbers_are_kept asked.number r.0 r.1) old new x.0 x.1 x.2) x.3

-- what words ask, once they are read
pub make_ends_of : (asked : Option Asked) (old new : StoreState) (out out' : SinkState) (result : Status) → EndsWith asked old new out out' result → (result ≡ status.Memory) ⊎ IsInRange asked → MakeEnds asked result
make_ends_of None old new out out' result x r = tt
make_ends_of (Some (Respond q)) old new out out' result x r = tt
make_ends_of (Some (Named (Compile q))) old new out out' result x r = tt
make_ends_of (Some (Named (Check q))) old new out out' result x r = tt
make_ends_of (Some (Named (Run q))) old new out out' result x r = tt
make_ends_of (Some (Named (Eval q))) old new out out' result x r = tt
make_ends_of (Some (Named (Report q))) old new out out' result x r = tt
make_ends_of (Some (Named (Make q))) old new out out' result x r = make_ends q old new out out' result x r
