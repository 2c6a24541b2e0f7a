-- The laws of the grammar, from the machine's reading back, its soundness and its depth.
use Rattle.std.proofs.Common.{◌≡◌, ℕ, ◌≤◌, List, [], ◌∷◌, ◌++◌, refl, sym, ◌∙◌, ap, subst, arith}
use Rattle.c_tree.specs.Size.{size_unit}
use Rattle.c_tree.specs.Spelling.{Spoken}
use Rattle.c_tree.specs.Tree.{Row, Nothing, External, TranslationUnit, Whole}
use Rattle.parse_grammar.specs.Begun.{Bytes, State, File}
use Rattle.parse_grammar.specs.Machine.{Moved, Goes, Stuck, step, after_all}
use Rattle.parse_grammar.specs.Depth.{deep}
use Rattle.parse_grammar.specs.Law.{run, BeginsWith}
use Rattle.parse_grammar.proofs.ReadUnit.{read_unit}
use Rattle.parse_grammar.proofs.Grows.{Grows, run_grows}

pub after_all-append : (o : Moved) (xs ys : List Spoken) → after_all o (xs ++ ys) ≡ after_all (after_all o xs) ys
after_all-append Stuck [] ys = refl
after_all-append Stuck (x ∷ xs) ys = sym (stuck ys)
  where
    stuck : (ys : List Spoken) → after_all Stuck ys ≡ Stuck
    stuck [] = refl
    stuck (y ∷ ys) = refl
after_all-append (Goes state) [] ys = refl
after_all-append (Goes state) (x ∷ xs) ys = after_all-append (step state x) xs ys

-- where a unit's spelling leads, behind the tokens that it begins with
behind : (unit : TranslationUnit Bytes) (front : List Spoken) (b : BeginsWith unit front) → (items : Row (External Bytes)) × (at : ℕ) × (unit ≡ Whole items at) × (after_all (run front) b.0 ≡ Goes (File items))
behind (Whole items at) front b = (items, at, refl, sym (after_all-append (Goes (File Nothing)) front b.0) ∙ read_unit items (front ++ b.0) b.1.1 b.2)

pub stops_true : (front : List Spoken) (unit : TranslationUnit Bytes) → run front ≡ Stuck → BeginsWith unit front → ⊥
stops_true front unit e b = let k = behind unit front b in no_way b.0 k.0 (ap (λ o. after_all o b.0) (sym e) ∙ k.3)
  where
    no_way : (rest : List Spoken) (items : Row (External Bytes)) → after_all Stuck rest ≡ Goes (File items) → ⊥
    no_way [] items e = cc
    no_way (x ∷ rest) items e = cc

pub deepens_true : (front : List Spoken) (state : State) (unit : TranslationUnit Bytes) → run front ≡ Goes state → BeginsWith unit front → deep state ≤ (size_unit unit).depth
deepens_true front state unit e b =
    let k = behind unit front b in
    let leads : after_all (Goes state) b.0 ≡ Goes (File k.0) = ap (λ o. after_all o b.0) (sym e) ∙ k.3 in
    let grown : Grows (deep state) (after_all (Goes state) b.0) = run_grows b.0 (deep state) (Goes state) (omega arith) in
    let reached : deep state ≤ deep (File k.0) = subst (λ o. Grows (deep state) o) leads grown in
    subst (λ u. deep state ≤ (size_unit u).depth) (sym k.2) reached
