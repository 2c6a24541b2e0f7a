-- The places of a numbered source's tokens, and that they are its tree's spelling.
use Rattle.std.proofs.Common.{◌≡◌, ℕ, zero, suc, ◌+◌, List, [], ◌∷◌, ◌++◌, length, codes, Some, append_assoc, refl, sym, ap, subst, ◌∙◌}
use Rattle.std.proofs.lemmas.List.{append-nil}
use Rattle.c_tree.specs.Said as lexemes
use Rattle.c_tree.specs.declared.token.TokenKind.TheVariants as kinds
use Rattle.c_tree.specs.declared.expression.BinaryOperator.TheVariants as binary
use Rattle.c_tree.specs.Spelling.{Agree, Fits, Free, Kept, Mark, Spoken, free, kept, mark_said, spell_external, spell_externals, spell_items, spell_statement, spell_unit}
use Rattle.c_tree.specs.Tree.{Items, Statement, Evaluate, Call, AndExpr, NoExpr, Binary, Number, Name, Return}
use Rattle.command_numbered.proofs.Names.{name}
use Rattle.command_numbered.proofs.Trees.{Places, call, calls, function, functions, int, main_of, start, unit}
use Rattle.command_numbered.proofs.Named.{words}
use Rattle.command_numbered.proofs.Bits.{Bit, spoken_of, written}
use Rattle.command_numbered.proofs.Cuts.{spoken_append}
use Rattle.command_numbered.proofs.Texts.{call_bits, each_bits, function_bits, head_bits, main_bits, numbered_bits, tail_bits}

-- marks that tokens fit one by one

abbrev fitted_one : Mark → Spoken → Spoken
fitted_one (Kept said at) t = record { said = said; at = at }
fitted_one (Free said) t = record { said = said; at = t.at }

abbrev bare : Mark → Spoken
bare m = record { said = mark_said m; at = 0 }

-- the tokens as the marks have them
abbrev fitted : List Mark → List Spoken → List Spoken
fitted [] ts = []
fitted (m ∷ ms) [] = bare m ∷ []
fitted (m ∷ ms) (t ∷ ts) = fitted_one m t ∷ fitted ms ts

fits : (m : Mark) (t : Spoken) → fitted_one m t ≡ t → Fits m t
fits (Kept said at) t e = sym e
fits (Free said) t e = ap (λ (s : Spoken). s.said) (sym e)

abbrev first_or : Spoken → List Spoken → Spoken
first_or t [] = t
first_or t (s ∷ ss) = s

abbrev rest_of : List Spoken → List Spoken
rest_of [] = []
rest_of (s ∷ ss) = ss

agree_from : (ms : List Mark) (ts : List Spoken) → fitted ms ts ≡ ts → Agree ms ts
agree_from [] [] e = tt
agree_from [] (t ∷ ts) e = absurd (cc)
agree_from (m ∷ ms) [] e = absurd (cc)
agree_from (m ∷ ms) (t ∷ ts) e = (fits m t (ap (first_or t) e), agree_from ms ts (ap rest_of e))

pub agree_append : (ms ns : List Mark) (ts us : List Spoken) → Agree ms ts → Agree ns us → Agree (ms ++ ns) (ts ++ us)
agree_append [] ns [] us h k = k
agree_append [] ns (t ∷ ts) us h k = absurd h
agree_append (m ∷ ms) ns [] us h k = absurd h
agree_append (m ∷ ms) ns (t ∷ ts) us h k = (h.0, agree_append ms ns ts us h.1 k)

-- the place of a token by its number
abbrev place : List Spoken → ℕ → ℕ
place [] j = 0
place (t ∷ ts) zero = t.at
place (t ∷ ts) (suc j) = place ts j

abbrev places_from : List Bit → ℕ → ℕ → ℕ
places_from bits at = place (spoken_of bits at)

-- where the text of a number stands among those from 1 on
abbrev start_at : (ℕ → List Bit) → (from : ℕ) → ℕ → ℕ
start_at bits from zero = from
start_at bits from (suc m) = from + length (written (each_bits bits m))

module _ (n : ℕ) where
  abbrev main_at : ℕ
  main_at = 0 + length (written (each_bits function_bits n))

  abbrev calls_at : ℕ
  calls_at = main_at + length (written head_bits)

  abbrev tail_at : ℕ
  tail_at = calls_at + length (written (each_bits call_bits n))

  abbrev pub places : Places
  places = record {
    function = λ i. places_from (function_bits i) (start_at function_bits 0 i);
    head = places_from head_bits main_at;
    call = λ i. places_from (call_bits i) (start_at call_bits calls_at i);
    tail = places_from tail_bits tail_at;
  }

function_agrees : (i at : ℕ) → Agree (spell_external (function words (name i) i (places_from (function_bits i) at))) (spoken_of (function_bits i) at)
function_agrees i at = agree_from (spell_external (function words (name i) i (places_from (function_bits i) at))) (spoken_of (function_bits i) at) refl

call_agrees : (i at : ℕ) → Agree (spell_statement (call words (name i) (places_from (call_bits i) at))) (spoken_of (call_bits i) at)
call_agrees i at = agree_from (spell_statement (call words (name i) (places_from (call_bits i) at))) (spoken_of (call_bits i) at) refl

functions_agree : (q : ℕ → ℕ → ℕ) → ((i : ℕ) → q i ≡ places_from (function_bits i) (start_at function_bits 0 i)) → (m : ℕ) → Agree (spell_externals (functions words name q m)) (spoken_of (each_bits function_bits m) 0)
functions_agree q is zero = tt
functions_agree q is (suc m) =
    let at = 0 + length (written (each_bits function_bits m)) in
    let one = subst (λ (p : ℕ → ℕ). Agree (spell_external (function words (name (suc m)) (suc m) p)) (spoken_of (function_bits (suc m)) at)) (sym (is (suc m))) (function_agrees (suc m) at) in
    subst (Agree (spell_externals (functions words name q (suc m)))) (sym (spoken_append (each_bits function_bits m) (function_bits (suc m)) 0))
    (agree_append (spell_externals (functions words name q m)) (spell_external (function words (name (suc m)) (suc m) (q (suc m)))) (spoken_of (each_bits function_bits m) 0) (spoken_of (function_bits (suc m)) at) (functions_agree q is m) one)

-- the calls, behind what stands before them
abbrev call_marks : (q : ℕ → ℕ → ℕ) → (m : ℕ) → List Mark
call_marks q zero = []
call_marks q (suc m) = call_marks q m ++ spell_statement (call words (name (suc m)) (q (suc m)))

calls_spelled : (q : ℕ → ℕ → ℕ) (front : Items (List ℕ)) (m : ℕ) → spell_items (calls words name q front m) ≡ spell_items front ++ call_marks q m
calls_spelled q front zero = sym (append-nil (spell_items front))
calls_spelled q front (suc m) =
    ap (λ ms. ms ++ spell_statement (call words (name (suc m)) (q (suc m)))) (calls_spelled q front m)
    ∙ append_assoc (spell_items front) (call_marks q m) (spell_statement (call words (name (suc m)) (q (suc m))))

calls_agree : (from : ℕ) (q : ℕ → ℕ → ℕ) → ((i : ℕ) → q i ≡ places_from (call_bits i) (start_at call_bits from i)) → (m : ℕ) → Agree (call_marks q m) (spoken_of (each_bits call_bits m) from)
calls_agree from q is zero = tt
calls_agree from q is (suc m) =
    let at = from + length (written (each_bits call_bits m)) in
    let one = subst (λ (p : ℕ → ℕ). Agree (spell_statement (call words (name (suc m)) p)) (spoken_of (call_bits (suc m)) at)) (sym (is (suc m))) (call_agrees (suc m) at) in
    subst (Agree (call_marks q (suc m))) (sym (spoken_append (each_bits call_bits m) (call_bits (suc m)) from))
    (agree_append (call_marks q m) (spell_statement (call words (name (suc m)) (q (suc m)))) (spoken_of (each_bits call_bits m) from) (spoken_of (call_bits (suc m)) at) (calls_agree from q is m) one)

-- the function `main`

abbrev opened : (q : ℕ → ℕ) → List Mark → List Mark
opened q ms = kept kinds.Int (q 0) ∷ Kept (lexemes.Name (codes "main")) (q 1) ∷ free kinds.LeftParen ∷ kept kinds.Void (q 3) ∷ free kinds.RightParen ∷ kept kinds.LeftBrace (q 5) ∷ ms

abbrev head_marks : (q : ℕ → ℕ) → List Mark
head_marks q = opened q (spell_items (start words q))

abbrev put : (q : ℕ → ℕ) → Statement (List ℕ)
put q = Evaluate (Call (codes "putchar") (AndExpr NoExpr (Binary binary.Add (Number (int 65) (q 2)) (Binary binary.Remainder (Name (codes "s") (q 4)) (Number (int 26) (q 6)) (q 4)) (q 2))) (q 0)) (q 0)

abbrev give : (q : ℕ → ℕ) → Statement (List ℕ)
give q = Return (Some (Binary binary.Remainder (Name (codes "s") (q 10)) (Number (int 256) (q 12)) (q 10))) (q 9)

abbrev closed : List Mark
closed = free kinds.RightBrace ∷ []

abbrev tail_marks : (q : ℕ → ℕ) → List Mark
tail_marks q = spell_statement (put q) ++ (spell_statement (give q) ++ closed)

regroup : (f c p r e : List Mark) → (((f ++ c) ++ p) ++ r) ++ e ≡ f ++ (c ++ (p ++ (r ++ e)))
regroup f c p r e = append_assoc ((f ++ c) ++ p) r e ∙ append_assoc (f ++ c) p (r ++ e) ∙ append_assoc f c (p ++ (r ++ e))

main_spelled : (p : Places) (n : ℕ) → spell_external (main_of words name p n) ≡ head_marks p.head ++ (call_marks p.call n ++ tail_marks p.tail)
main_spelled p n =
    ap (λ ms. opened p.head (((ms ++ spell_statement (put p.tail)) ++ spell_statement (give p.tail)) ++ closed)) (calls_spelled p.call (start words p.head) n)
    ∙ ap (opened p.head) (regroup (spell_items (start words p.head)) (call_marks p.call n) (spell_statement (put p.tail)) (spell_statement (give p.tail)) closed)

head_agrees : (at : ℕ) → Agree (head_marks (places_from head_bits at)) (spoken_of head_bits at)
head_agrees at = agree_from (head_marks (places_from head_bits at)) (spoken_of head_bits at) refl

tail_agrees : (at : ℕ) → Agree (tail_marks (places_from tail_bits at)) (spoken_of tail_bits at)
tail_agrees at = agree_from (tail_marks (places_from tail_bits at)) (spoken_of tail_bits at) refl

module _ (n : ℕ) where
  main_agrees : Agree (spell_external (main_of words name (places n) n)) (spoken_of (main_bits n) (main_at n))
  main_agrees =
      let p = places n in
      let calls = spoken_of (each_bits call_bits n) (calls_at n) in
      let tail = spoken_of tail_bits (tail_at n) in
      let behind = agree_append (call_marks p.call n) (tail_marks p.tail) calls tail (calls_agree (calls_at n) p.call (λ i. refl) n) (tail_agrees (tail_at n)) in
      let spoken : spoken_of (main_bits n) (main_at n) ≡ spoken_of head_bits (main_at n) ++ (calls ++ tail) =
      spoken_append head_bits (each_bits call_bits n ++ tail_bits) (main_at n) ∙ ap (λ ts. spoken_of head_bits (main_at n) ++ ts) (spoken_append (each_bits call_bits n) tail_bits (calls_at n)) in
      subst (λ ms. Agree ms (spoken_of (main_bits n) (main_at n))) (sym (main_spelled p n))
      (subst (Agree (head_marks p.head ++ (call_marks p.call n ++ tail_marks p.tail))) (sym spoken)
      (agree_append (head_marks p.head) (call_marks p.call n ++ tail_marks p.tail) (spoken_of head_bits (main_at n)) (calls ++ tail) (head_agrees (main_at n)) behind))

  pub numbered_agrees : Agree (spell_unit (unit words name (places n) n)) (spoken_of (numbered_bits n) 0)
  numbered_agrees =
      let p = places n in
      subst (Agree (spell_unit (unit words name p n))) (sym (spoken_append (each_bits function_bits n) (main_bits n) 0))
      (agree_append (spell_externals (functions words name p.function n)) (spell_external (main_of words name p n)) (spoken_of (each_bits function_bits n) 0) (spoken_of (main_bits n) (main_at n)) (functions_agree p.function (λ i. refl) n) main_agrees)
