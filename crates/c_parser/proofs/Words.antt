-- The run over words, one word more.
use Rattle.std.proofs.Common.{◌≡◌, ℕ, ◌+◌, ◌≤◌, List, [], ◌∷◌, ◌++◌, length, map, refl, sym, ◌∙◌, ap, subst, arith, Result, Ok, Err, IfErr, IsErrAnd}
use Rattle.std.proofs.lemmas.List.{length-map}
use Rattle.parse_begun.specs.declared.begun.State as states
use Rattle.parse_begun.specs.View.{Names, state_of}
use Rattle.parse_grammar.specs.Begun.{State}
use Rattle.parse_grammar.specs.Depth.{deep}
use Rattle.parse_grammar.specs.Law.{run}
use Rattle.parse_grammar.specs.Machine.{Goes, step}
use Rattle.parse_words.specs.declared.lexeme.Word.{Word}
use Rattle.parse_words.specs.Lexemes.{word_said}
use Rattle.c_parser.proofs.Reading.{run_push, stopped}
use Rattle.c_parser.specs.declared.fault.ParseFault.{ParseFault}
use Rattle.c_parser.specs.Refused.{Halts, Stops}

map_split : (f : Names) (ys : List Word) (y : Word) (zs : List Word) → map (word_said f) (ys ++ y ∷ zs) ≡ map (word_said f) ys ++ word_said f y ∷ map (word_said f) zs
map_split f [] y zs = refl
map_split f (x ∷ ys) y zs = ap (λ ts. word_said f x ∷ ts) (map_split f ys y zs)

pub length_push : (ys : List Word) (y : Word) → length (ys ++ y ∷ []) ≡ length ys + 1
length_push [] y = refl
length_push (x ∷ ys) y = let h = length_push ys y in omega (arith, h)

pub append_push : (ys : List Word) (y : Word) (zs : List Word) → (ys ++ y ∷ []) ++ zs ≡ ys ++ y ∷ zs
append_push [] y zs = refl
append_push (x ∷ ys) y zs = ap (λ ws. x ∷ ws) (append_push ys y zs)

pub led_push : (f : Names) (ys : List Word) (y : Word) (s t : states.State) → run (map (word_said f) ys) ≡ Goes (state_of f s) → step (state_of f s) (word_said f y) ≡ Goes (state_of f t) → run (map (word_said f) (ys ++ y ∷ [])) ≡ Goes (state_of f t)
led_push f ys y s t h k = ap run (map_split f ys y []) ∙ run_push (map (word_said f) ys) (word_said f y) (state_of f s) h ∙ k

pub halted : (f : Names) (words ys : List Word) (y : Word) (zs : List Word) (s : State) (fault : ParseFault) (token : ℕ) → words ≡ ys ++ y ∷ zs → token ≡ length ys → run (map (word_said f) ys) ≡ Goes s → deep s ≤ 256 → Halts fault token (step s (word_said f y)) → Stops fault (map (word_said f) words)
halted f words ys y zs s fault token e t h d k =
    let place = t ∙ sym (length-map ys (word_said f)) in
    let stop = stopped fault (map (word_said f) ys) (word_said f y) (map (word_said f) zs) s h d (subst (λ n. Halts fault n (step s (word_said f y))) place k) in
    subst (λ ws. Stops fault (map (word_said f) ws)) (sym e) (subst (λ ts. Stops fault ts) (sym (map_split f ys y zs)) stop)

-- a fault that is passed on
pub passed_on : {A : Type 0} (r : Result A ParseFault) (e : ParseFault) (Q : ParseFault → Type 0) → IsErrAnd r (λ x. x ≡ e) → Q e → IfErr r Q
passed_on (Ok a) e Q h q = tt
passed_on (Err x) e Q h q = subst Q (sym h) q
