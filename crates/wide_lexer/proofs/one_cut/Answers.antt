use Rattle.wide_lexer.proofs.Unique.{one_list, tokens_or_fault, one_fault}
use Rattle.wide_lexer.proofs.one_cut.Goals as goal

pub returns : goal.returns
returns c = record { tokens = one_list; apart = tokens_or_fault; faults = one_fault }
