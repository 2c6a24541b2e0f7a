use Rattle.std.proofs.Common.{refl, sym}
use Rattle.std.proofs.lemmas.Bool.{true≢false}
use Rattle.c_lexer.proofs.FirstBytes.{other_class}
use Rattle.c_lexer.proofs.Longest.{longest_punctuator, no_mark}
use Rattle.c_lexer.proofs.cut.punctuator.Goals as goal

pub returns-then-stands-clause-none : goal.returns-then-stands-clause-none
returns-then-stands-clause-none c =
    no_mark _ _ _ (other_class _ c.requires.no_blank c.requires.no_letter c.requires.no_digit c.requires.no_quote.0 c.requires.no_quote.1) c.requires.no_directive c.requires.no_comment c.requires.no_number
    (λ end within p. p.no_comment (c.if-stands.ensures.0 refl))

pub returns-in_default-clause-none : goal.returns-in_default-clause-none
returns-in_default-clause-none c =
    no_mark _ _ _ (other_class _ c.requires.no_blank c.requires.no_letter c.requires.no_digit c.requires.no_quote.0 c.requires.no_quote.1) c.requires.no_directive c.requires.no_comment c.requires.no_number
    (λ end within p. c.in_default.ensures.none end within p.text)

pub returns-clause-found : goal.returns-clause-found
returns-clause-found c =
    let found = c.in-Some.ensures.found in
    record {
      longest = longest_punctuator _ _ _ _ found.0 found.1
          (record { text = found.2; no_comment = λ h. true≢false (sym (c.if-stands.ensures.1 h)); no_directive = c.requires.no_directive })
          c.requires.no_comment c.requires.no_number c.in-Some.ensures.longest;
      kind = c.sign_kind.ensures;
      line = refl;
    }
