use Rattle.std.proofs.Common.{◌+◌, ◌≤◌, length, refl, sym, inl, arith}
use Rattle.std.proofs.lemmas.Bool.{true≢false}
use Rattle.c_tree.specs.Bytes.{IsNameByte}
use Rattle.c_lexer.proofs.Longest.{longest_word, longest_prefixed, run_some}
use Rattle.c_lexer.proofs.cut.word.Goals as goal

pub returns-then-is_prefixed-clause-found : goal.returns-then-is_prefixed-clause-found
returns-then-is_prefixed-clause-found c =
    let here = c.if-is_prefixed.ensures.here.0 refl in
    let within : c.word_end-end.result + 1 ≤ length c.args.source.now = omega (arith, c.if-is_prefixed.ensures.within refl) in
    record {
      longest = longest_prefixed c.args.fresh c.args.source.now c.args.at (c.word_end-end.result + 1) within (record { quote_at = c.word_end-end.result; prefix = here.0; quote = here.1; ends = refl });
      kind = refl;
      line = refl;
    }

pub returns-clause-found : goal.returns-clause-found
returns-clause-found c =
    let run = c.word_end-end.ensures in
    let some = run_some IsNameByte _ _ _ c.requires.within (inl c.requires.first) run.after run.whole in
    record {
      longest = longest_word _ _ _ _ some run.within
          (record { first = c.requires.first; word = run.word; whole = run.whole; other = λ h. true≢false (sym (c.if-is_span.ensures.1 h)) })
          (λ prefix quote. true≢false (sym (c.if-is_prefixed.ensures.here.1 (prefix, quote))));
      kind = c.word_kind.ensures;
      line = refl;
    }
