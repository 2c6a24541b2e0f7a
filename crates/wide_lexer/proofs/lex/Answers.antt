use Rattle.std.proofs.Common.{◌≡◌, ◌++◌, refl, sym, ap, subst, ◌∙◌, arith, length-append, length, [], inl}
use Rattle.std.proofs.lemmas.Bool.{true≢false}
use Rattle.c_lexer.specs.declared.LexFault.TheVariants as faults
use Rattle.wide_lexer.specs.Cut.{with_token}
use Rattle.wide_lexer.specs.Said.{HasForm}
use Rattle.wide_lexer.proofs.Cuts.{CutTo, cut_more, with_token_short, whole, bad_stop, outside_stop}
use Rattle.wide_lexer.proofs.Forms.{stands_formed}
use Rattle.wide_lexer.proofs.Unique.{tokens_or_fault, one_fault}
use Rattle.wide_lexer.proofs.lex.Goals as goal

pub keep-requires-clause-formed : goal.keep-requires-clause-formed
keep-requires-clause-formed c = λ kind e.
    subst (λ s. HasForm kind s c.loop-at.at c.in-Some.piece.end) (sym c.loop-at.invariant.source)
    (stands_formed c.in-Some.piece c.loop-at.fresh c.args.source.now c.loop-at.at kind c.in-Some.ensures.found (sym c.role_of-counts.ensures ∙ e))

pub loop-at-preserved : goal.loop-at-preserved
loop-at-preserved c =
    let piece = c.in-Some.piece in
    let found = c.in-Some.ensures.found in
    let kept = c.in_ok-keep.ensures.ok in
    let more = cut_more c.args.source.now c.loop-at.tokens.list c.loop-at.at c.loop-at.fresh piece c.loop-at.invariant.cut found (λ h. true≢false (sym (c.if-is_refused.ensures.1 (c.role_of-counts.ensures ∙ h)))) in
    record {
      within = found.longest.piece.within;
      source = c.keep.ensures.source ∙ c.loop-at.invariant.source;
      room = omega (arith, ap length kept, length-append c.loop-at.tokens.list (with_token c.role_of-counts.result c.loop-at.at piece.end []), with_token_short c.role_of-counts.result c.loop-at.at piece.end, c.loop-at.invariant.room, found.longest.piece.some);
      cut = subst (λ tokens. CutTo c.args.source.now tokens piece.end piece.fresh) (sym (kept ∙ ap (λ r. c.loop-at.tokens.list ++ with_token r c.loop-at.at piece.end []) c.role_of-counts.ensures)) more;
    }

pub returns-in_default-clause-accepts : goal.returns-in_default-clause-accepts
returns-in_default-clause-accepts c = λ tokens h. tokens_or_fault c.args.source.now tokens (faults.Bad c.loop-at.at) h (bad_stop c.args.source.now c.loop-at.tokens.list c.loop-at.at c.loop-at.fresh c.loop-at.invariant.cut c.loop-at-test.true c.in_default.ensures.none)

pub returns-in_default-clause-refuses : goal.returns-in_default-clause-refuses
returns-in_default-clause-refuses c = λ fault h other. inl (one_fault c.args.source.now (faults.Bad c.loop-at.at) fault (bad_stop c.args.source.now c.loop-at.tokens.list c.loop-at.at c.loop-at.fresh c.loop-at.invariant.cut c.loop-at-test.true c.in_default.ensures.none) h (λ e. cc) other)

pub returns-then-is_refused-clause-err : goal.returns-then-is_refused-clause-err
returns-then-is_refused-clause-err c = outside_stop c.args.source.now c.loop-at.tokens.list c.loop-at.at c.loop-at.fresh c.in-Some.piece c.loop-at.invariant.cut c.in-Some.ensures.found (sym c.role_of-counts.ensures ∙ c.if-is_refused.ensures.0 refl)

pub returns-then-is_refused-clause-accepts : goal.returns-then-is_refused-clause-accepts
returns-then-is_refused-clause-accepts c = λ tokens h. tokens_or_fault c.args.source.now tokens (faults.Outside c.loop-at.at) h (outside_stop c.args.source.now c.loop-at.tokens.list c.loop-at.at c.loop-at.fresh c.in-Some.piece c.loop-at.invariant.cut c.in-Some.ensures.found (sym c.role_of-counts.ensures ∙ c.if-is_refused.ensures.0 refl))

pub returns-then-is_refused-clause-refuses : goal.returns-then-is_refused-clause-refuses
returns-then-is_refused-clause-refuses c = λ fault h other. inl (one_fault c.args.source.now (faults.Outside c.loop-at.at) fault (outside_stop c.args.source.now c.loop-at.tokens.list c.loop-at.at c.loop-at.fresh c.in-Some.piece c.loop-at.invariant.cut c.in-Some.ensures.found (sym c.role_of-counts.ensures ∙ c.if-is_refused.ensures.0 refl)) h (λ e. cc) other)

pub returns-clause-refuses : goal.returns-clause-refuses
returns-clause-refuses c = λ fault h other.
    let end : c.loop-at.at ≡ length c.args.source.now = omega (arith, c.loop-at.invariant.within, c.loop-at-test.false) in
    other (tokens_or_fault c.args.source.now c.loop-at.tokens.list fault (whole c.args.source.now c.loop-at.tokens.list c.loop-at.at c.loop-at.fresh c.loop-at.invariant.cut end) h)
