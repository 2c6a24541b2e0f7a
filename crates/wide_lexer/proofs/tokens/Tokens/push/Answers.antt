use Rattle.wide_lexer.proofs.Forms.{tokens_push}
use Rattle.wide_lexer.proofs.tokens.Tokens.push.Goals as goal

pub invariant_of-self-2 : goal.invariant_of-self-2
invariant_of-self-2 c =
    let held = c.self.invariant in
    rw c.in_ok-push.ensures.items (tokens_push (record { source = c.self.inside.source.now; list = c.self.inside.list.items }) _ c.args.token c.self.view_is held.1 c.requires.formed c.requires.room)
