use Rattle.c_tree.specs.Said.{said}
use Rattle.parse_words.proofs.Tellings.{tell_more}
use Rattle.parse_words.proofs.word.say.Goals as goal

pub returns : goal.returns
returns c = λ front told.
    let lexeme = c.in_ok-lexeme.ensures in
    rw c.in_ok-push.ensures.items (tell_more c.args.list.now.items c.args.names.now c.lexeme.new.names front c.in_ok-lexeme.lexeme c.args.token.at (said c.args.source.now c.args.token) lexeme.said lexeme.names lexeme.numbered told)
