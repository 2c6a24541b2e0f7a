-- Letters that were taken one after another are the whole word.
use Rattle.std.proofs.Common.{◌≡◌, ◌&&◌, ◌||◌, [], ◌∷◌, ◌++◌, Bool, true, false, refl, sym, ap, subst, ◌∙◌}
use Rattle.std.proofs.lemmas.Bool.{false≢true}
use Rattle.std.proofs.lemmas.List.{append-nil}
use Rattle.report_words.specs.Words.{Word}
use Rattle.report_words.specs.Numbers.{is_empty}
use Rattle.report_words.specs.Shapes.{is_ram, is_spm_on, are_letters}
use Rattle.report_text.specs.Lines.{letter}
use Rattle.report_lines.specs.LineShapes.{starts}

or_false : (a : Bool) → (a || false) ≡ true → a ≡ true
or_false true e = refl
or_false false e = e

empty : (w : Word) → is_empty w ≡ true → w ≡ []
empty [] e = refl
empty (x ∷ xs) e = absurd (false≢true e)

ram_there : (w : Word) → is_ram (114 ∷ w) ≡ true → w ≡ []
ram_there w e = empty w e

ram_absent : (w : Word) → starts 114 w ≡ false → (is_empty w || is_ram w) ≡ true → w ≡ []
ram_absent [] s e = refl
ram_absent (x ∷ xs) s e = absurd (false≢true (subst (λ b. (b && is_empty xs) ≡ true) s e))

ram_rest : (r : Bool) (w2 w3 : Word) → w2 ≡ letter r 114 ++ w3 → (r ≡ false → starts 114 w2 ≡ false) → (is_empty w2 || is_ram w2) ≡ true → w3 ≡ []
ram_rest true w2 w3 is absent e = ram_there w3 (subst (λ w. (is_empty w || is_ram w) ≡ true) is e)
ram_rest false w2 w3 is absent e = sym is ∙ ram_absent w2 (absent refl) e

spm_absent : (w : Word) → starts 115 w ≡ false → (is_empty w || is_spm_on w) ≡ true → (is_empty w || is_ram w) ≡ true
spm_absent [] s e = refl
spm_absent (x ∷ xs) s e = subst (λ b. ((b && (is_empty xs || is_ram xs)) || is_ram (x ∷ xs)) ≡ true) s e

spm_rest : (s r : Bool) (w1 w2 w3 : Word) → w1 ≡ letter s 115 ++ w2 → w2 ≡ letter r 114 ++ w3 → (s ≡ false → starts 115 w1 ≡ false) → (r ≡ false → starts 114 w2 ≡ false) → (is_empty w1 || is_spm_on w1) ≡ true → w3 ≡ []
spm_rest true r w1 w2 w3 is1 is2 absent1 absent2 e = ram_rest r w2 w3 is2 absent2 (or_false (is_empty w2 || is_ram w2) (subst (λ w. (is_empty w || is_spm_on w) ≡ true) is1 e))
spm_rest false r w1 w2 w3 is1 is2 absent1 absent2 e = ram_rest r w2 w3 is2 absent2 (subst (λ w. (is_empty w || is_ram w) ≡ true) is1 (spm_absent w1 (absent1 refl) e))

flash_absent : (w : Word) → starts 102 w ≡ false → are_letters w ≡ true → (is_empty w || is_spm_on w) ≡ true
flash_absent [] s e = refl
flash_absent (x ∷ xs) s e = subst (λ b. ((b && (is_empty xs || is_spm_on xs)) || is_spm_on (x ∷ xs)) ≡ true) s e

flash_rest : (f s r : Bool) (w w1 w2 w3 : Word) → w ≡ letter f 102 ++ w1 → w1 ≡ letter s 115 ++ w2 → w2 ≡ letter r 114 ++ w3
    → (f ≡ false → starts 102 w ≡ false) → (s ≡ false → starts 115 w1 ≡ false) → (r ≡ false → starts 114 w2 ≡ false) → are_letters w ≡ true → w3 ≡ []
flash_rest true s r w w1 w2 w3 is is1 is2 absent absent1 absent2 e = spm_rest s r w1 w2 w3 is1 is2 absent1 absent2 (or_false (is_empty w1 || is_spm_on w1) (subst (λ w. are_letters w ≡ true) is e))
flash_rest false s r w w1 w2 w3 is is1 is2 absent absent1 absent2 e = spm_rest s r w1 w2 w3 is1 is2 absent1 absent2 (subst (λ w. (is_empty w || is_spm_on w) ≡ true) is (flash_absent w (absent refl) e))

pub letters_whole : (f s r : Bool) (w w1 w2 w3 : Word) → w ≡ letter f 102 ++ w1 → w1 ≡ letter s 115 ++ w2 → w2 ≡ letter r 114 ++ w3
    → (f ≡ false → starts 102 w ≡ false) → (s ≡ false → starts 115 w1 ≡ false) → (r ≡ false → starts 114 w2 ≡ false) → are_letters w ≡ true
    → letter f 102 ++ (letter s 115 ++ letter r 114) ≡ w
letters_whole f s r w w1 w2 w3 is is1 is2 absent absent1 absent2 e =
    let none = flash_rest f s r w w1 w2 w3 is is1 is2 absent absent1 absent2 e in
    let last : w2 ≡ letter r 114 = is2 ∙ ap (λ t. letter r 114 ++ t) none ∙ append-nil (letter r 114) in
    sym (is ∙ ap (λ t. letter f 102 ++ t) (is1 ∙ ap (λ t. letter s 115 ++ t) last))
