-- Files read and written piece by piece.
use Rattle.std.proofs.Common.{◌≡◌, ℕ, ◌+◌, ◌-◌, List, ◌++◌, length, take, drop, Option, Some, None, sym, ap, subst, ◌∙◌, arith, take-add}
use Rattle.std.specs.Prelude.{IfSome, IsSome}
use Rattle.std.proofs.lemmas.Grind.{common_steps}
use Rattle.std.proofs.lemmas.List.{length-append, length-take-le, length-drop}
use Rattle.wcc_base.specs.Outside.{Files, bytes_of, file_of, told_put, told_add, Reads}
use Rattle.wcc_base.proofs.FilesLaws.{told_file_is_there, told_add-told_put}
use Rattle.command_perform.specs.Files.{GoesOn}

piece_goes_on : (contents old buf : List ℕ) (n : ℕ) → Reads contents (length old) n buf → GoesOn contents old (old ++ take n buf) n
piece_goes_on contents old buf n r =
    let L = length old in
    let k : length (take n buf) ≡ n = ap length r.same ∙ length-take-le n (drop L contents) (omega (arith, r.within, length-drop L contents)) in
    let m : L + n ≡ length (old ++ take n buf) = omega (arith, k, length-append old (take n buf)) in
    record {
      so_far = λ e. ap (λ a. a ++ take n buf) e ∙ ap (λ b. take L contents ++ b) r.same ∙ sym (take-add L n contents) ∙ ap (λ i. take i contents) m;
      ended = r.none;
    }

pub goes_on : (files : Option Files) (name old new buf : List ℕ) (at n : ℕ) → IfSome files (λ fs. Reads (bytes_of fs name) at n buf) → at ≡ length old → new ≡ old ++ take n buf → IfSome files (λ fs. GoesOn (bytes_of fs name) old new n)
goes_on None name old new buf at n r is more = tt
goes_on (Some fs) name old new buf at n r is more =
    subst (λ b. GoesOn (bytes_of fs name) old b n) (sym more) (piece_goes_on (bytes_of fs name) old buf n (subst (λ a. Reads (bytes_of fs name) a n buf) is r))

pub still_there : (old now : Option Files) (name b : List ℕ) → now ≡ told_put name b old → IfSome now (λ fs. IsSome (file_of fs name))
still_there old now name b e = subst (λ o. IfSome o (λ fs. IsSome (file_of fs name))) (sym e) (told_file_is_there name b old)

pub written_more : (old now new : Option Files) (name bytes : List ℕ) (done n : ℕ) → now ≡ told_put name (take done bytes) old → new ≡ told_add name (take n (take (length bytes - done) (drop done bytes))) now → new ≡ told_put name (take (done + n) bytes) old
written_more old now new name bytes done n e f =
    let whole : take (length bytes - done) (drop done bytes) ≡ drop done bytes = grind (arith, common_steps) in
    f ∙ ap (λ p. told_add name (take n p) now) whole ∙ ap (told_add name (take n (drop done bytes))) e ∙ told_add-told_put name (take done bytes) (take n (drop done bytes)) old
    ∙ ap (λ b. told_put name b old) (sym (take-add done n bytes))
