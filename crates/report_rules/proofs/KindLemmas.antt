-- Each form of the line `kind`.
use Rattle.std.proofs.Common.{◌≡◌, ◌&&◌, ℕ, List, [], ◌∷◌, Bool, true, false, refl, sym, ap, ◌∙◌, codes, arith}
use Rattle.std.proofs.lemmas.Bool.{false≢true}
use Rattle.std.specs.Fmt.{decimal}
use Rattle.code_flow_answer.specs.declared.bounded.Kind.{Kind}
use Rattle.code_flow_answer.specs.declared.bounded.Kind.TheVariants.{Greatest, Empty}
use Rattle.report_words.specs.Words.{Word}
use Rattle.report_words.specs.Numbers.{number_of}
use Rattle.report_words.proofs.NumberLemmas.{decimal-number_of}
use Rattle.report_words.specs.Shapes.{fit, are_in_range}
use Rattle.report_lines.specs.LineShapes.{small}
use Rattle.report_rules.specs.declared.flaw.Flaw.{Flaw}
use Rattle.report_rules.specs.declared.flaw.Flaw.TheVariants.{Form, Range, Memory}
use Rattle.report_rules.specs.Rules.{IsLine, IsFlaw}
use Rattle.report_rules.specs.WordTests.{same_word, are_none}
use Rattle.report_rules.specs.Heads.{version_rule, are_two, kind_rule, is_kind}
use Rattle.report_rules.specs.KindForms.{IsWide, IsSpent, IsNumbersFlaw, IsKindLine}
use Rattle.report_rules.proofs.WordTestLemmas.{same_is}

and_first : (a b : Bool) → (a && b) ≡ true → a ≡ true
and_first true b e = refl
and_first false b e = e

and_second : (a b : Bool) → (a && b) ≡ true → b ≡ true
and_second true b e = e
and_second false b e = absurd (false≢true e)

-- the numbers of a word are in range as those of a longer list
one_as_two : (ws : List Word) → fit (small ∷ []) ws ≡ true → are_in_range (small ∷ small ∷ []) ws ≡ are_in_range (small ∷ []) ws
one_as_two [] e = refl
one_as_two (w ∷ []) e = refl
one_as_two (w ∷ v ∷ ws) e = absurd (false≢true (and_last _ e))
  where
    and_last : (a : Bool) → (a && false) ≡ true → false ≡ true
    and_last true e = e
    and_last false e = e

pub greatest_line : (w : Word) (ws : List Word) → same_word w (codes "greatest") ≡ true → are_none ws ≡ true → IsKindLine (w ∷ ws) Greatest
greatest_line w [] e n = record { line = record { stands = record { stands = rw e refl; in_range = refl }; same = ap (λ v. codes "kind" ∷ v ∷ []) (sym (same_is w (codes "greatest") e)) }; greatest = sym e }
greatest_line w (v ∷ vs) e n = absurd (false≢true n)

pub empty_line : (w : Word) (ws : List Word) → same_word w (codes "greatest") ≡ false → same_word w (codes "empty") ≡ true → are_none ws ≡ true → IsKindLine (w ∷ ws) Empty
empty_line w [] g e n = record { line = record { stands = record { stands = rw (g, e) refl; in_range = refl }; same = ap (λ v. codes "kind" ∷ v ∷ []) (sym (same_is w (codes "empty") e)) }; greatest = sym g }
empty_line w (v ∷ vs) g e n = absurd (false≢true n)

pub wide_line : (w : Word) (ws : List Word) (k : Kind) → same_word w (codes "greatest") ≡ false → same_word w (codes "empty") ≡ false → same_word w (codes "wide") ≡ true → IsWide ws k → IsKindLine (w ∷ ws) k
wide_line w ws k g e s is = record {
  line = record {
    stands = record { stands = rw (g, e, s) is.fits; in_range = one_as_two ws is.fits ∙ is.in_range };
    same = is.same ∙ ap (λ v. codes "kind" ∷ v ∷ ws) (sym (same_is w (codes "wide") s));
  };
  greatest = is.plain ∙ sym g;
}

pub spent_line : (w : Word) (ws : List Word) (k : Kind) → same_word w (codes "greatest") ≡ false → same_word w (codes "empty") ≡ false → same_word w (codes "wide") ≡ false → same_word w (codes "spent") ≡ true → IsSpent ws k → IsKindLine (w ∷ ws) k
spent_line w ws k g e d s is = record {
  line = record {
    stands = record { stands = rw (g, e, d, s) is.fits; in_range = is.in_range };
    same = is.same ∙ ap (λ v. codes "kind" ∷ v ∷ ws) (sym (same_is w (codes "spent") s));
  };
  greatest = is.plain ∙ sym g;
}

pub greatest_flaw : (w : Word) (ws : List Word) → same_word w (codes "greatest") ≡ true → are_none ws ≡ false → is_kind (w ∷ ws) ≡ false
greatest_flaw w ws e n = rw e n

pub empty_flaw : (w : Word) (ws : List Word) → same_word w (codes "greatest") ≡ false → same_word w (codes "empty") ≡ true → are_none ws ≡ false → is_kind (w ∷ ws) ≡ false
empty_flaw w ws g e n = rw (g, e) n

pub wide_flaw : (w : Word) (ws : List Word) (flaw : Flaw) → same_word w (codes "greatest") ≡ false → same_word w (codes "empty") ≡ false → same_word w (codes "wide") ≡ true → IsNumbersFlaw (small ∷ []) ws flaw → IsFlaw kind_rule false (w ∷ ws) flaw
wide_flaw w ws Form g e s is = rw (g, e, s) is
wide_flaw w ws Range g e s is = (rw (g, e, s) (is.0), one_as_two ws is.0 ∙ is.1)
wide_flaw w ws Memory g e s is = absurd is

pub spent_flaw : (w : Word) (ws : List Word) (flaw : Flaw) → same_word w (codes "greatest") ≡ false → same_word w (codes "empty") ≡ false → same_word w (codes "wide") ≡ false → same_word w (codes "spent") ≡ true → IsNumbersFlaw (small ∷ small ∷ []) ws flaw → IsFlaw kind_rule false (w ∷ ws) flaw
spent_flaw w ws Form g e d s is = rw (g, e, d, s) is
spent_flaw w ws Range g e d s is = (rw (g, e, d, s) (is.0), is.1)
spent_flaw w ws Memory g e d s is = absurd is

pub no_kind : (w : Word) (ws : List Word) → same_word w (codes "greatest") ≡ false → same_word w (codes "empty") ≡ false → same_word w (codes "wide") ≡ false → same_word w (codes "spent") ≡ false → is_kind (w ∷ ws) ≡ false
no_kind w ws g e d s = rw (g, e, d, s) refl

-- the line `version`

pub two_word : decimal 2 ≡ codes "2"
unfolding number_of
two_word = decimal-number_of (codes "2") refl (omega arith)

pub two_line : (before : ℕ) (ws : List Word) → are_two ws ≡ true → IsLine version_rule before ws (codes "version" ∷ decimal 2 ∷ [])
two_line before [] e = absurd (false≢true e)
two_line before (w ∷ []) e = record { stands = record { stands = e; in_range = refl }; same = ap (λ v. codes "version" ∷ v ∷ []) (two_word ∙ sym (same_is w (codes "2") (and_first (same_word w (codes "2")) true e))) }
two_line before (w ∷ v ∷ vs) e = absurd (false≢true (and_second (same_word w (codes "2")) false e))
