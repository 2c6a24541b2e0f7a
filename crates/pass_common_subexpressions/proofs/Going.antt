-- Code, blocks and functions that were made.
use Rattle.std.proofs.Common.{◌≡◌, ◌<◌, ◌≤◌, ℕ, ◌+◌, List, [], ◌∷◌, ◌++◌, drop, length, map, refl, sym, ap, ◌∙◌, subst}
use Rattle.std.specs.Prelude.{slice_index_or}
use Rattle.std.proofs.lemmas.List.{append-nil, append_assoc, drop_all, drop_more, map_push}
use Rattle.low_ir.specs.declared.instruction.Instr.{Instr as Instr'}
use Rattle.low_ir.specs.View.{instr_of}
use Rattle.pass_common_subexpressions_law.specs.Facts.{Known, Learns}
use Rattle.pass_common_subexpressions_law.specs.Reloads.{Becomes, Code, Follows}
use Rattle.pass_common_subexpressions.specs.Making.{IsCode, IsMade}

-- the rest of a list begins with its next element
next : {X Y : Type 0} (f : X → Y) (xs : List X) (i : ℕ) (x : X) → i < length xs → x ≡ slice_index_or xs i x → map f (drop i xs) ≡ f x ∷ map f (drop (i + 1) xs)
next f xs i x lt is = ap (map f) (drop_more xs i x lt) ∙ ap (λ y. f y ∷ map f (drop (i + 1) xs)) (sym is)

-- an instruction more
pub code_step : (claims : List (List ℕ)) (begun known now : Known) (whole : Code) (xs : List Instr') (i : ℕ) (x new : Instr') (made more : List Instr') → i < length xs → x ≡ slice_index_or xs i x → IsMade claims begun whole (map instr_of (drop i xs)) known (map instr_of made) → Becomes known (instr_of x) (instr_of new) → Learns claims known (instr_of x) now → more ≡ made ++ new ∷ []
    → IsMade claims begun whole (map instr_of (drop (i + 1) xs)) now (map instr_of more)
code_step claims begun known now whole xs i x new made more lt is h becomes learns pushed out end js follows =
    let rest : Follows claims out end (instr_of x ∷ map instr_of (drop (i + 1) xs)) known (instr_of new ∷ js) =
    record { new = instr_of new; now = now; behind = js; is = refl; becomes = becomes; learns = learns; goes_on = follows } in
    let all : Follows claims out end whole begun (map instr_of made ++ instr_of new ∷ js) =
    h out end (instr_of new ∷ js) (subst (λ is. Follows claims out end is known (instr_of new ∷ js)) (sym (next instr_of xs i x lt is)) rest) in
    let there : map instr_of made ++ instr_of new ∷ js ≡ map instr_of more ++ js =
    sym (append_assoc (map instr_of made) (instr_of new ∷ []) js) ∙ ap (λ ys. ys ++ js) (sym (map_push instr_of made new) ∙ ap (map instr_of) (sym pushed)) in
    subst (Follows claims out end whole begun) there all

pub code_begun : (claims : List (List ℕ)) (begun : Known) (whole : Code) (made : List Instr') → made ≡ [] → IsMade claims begun whole whole begun (map instr_of made)
code_begun claims begun whole made none out end js follows = subst (λ xs. Follows claims out end whole begun (map instr_of xs ++ js)) (sym none) follows

pub code_done : (claims : List (List ℕ)) (begun known : Known) (whole : Code) (xs : List Instr') (i : ℕ) (made : List Instr') → length xs ≤ i → IsMade claims begun whole (map instr_of (drop i xs)) known (map instr_of made) → IsCode claims whole begun known (map instr_of made)
code_done claims begun known whole xs i made all h =
    record {
      by = λ out end hands.
          subst (Follows claims out end whole begun) (append-nil (map instr_of made))
          (h out end [] (subst (λ is. Follows claims out end (map instr_of is) known []) (sym (drop_all i xs all)) (refl, hands)));
    }
