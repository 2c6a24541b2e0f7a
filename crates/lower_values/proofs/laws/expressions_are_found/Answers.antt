use Rattle.lower_values.proofs.Values.{works, operand_found}
use Rattle.lower_values.proofs.Tests.{tests}
use Rattle.lower_values.proofs.laws.expressions_are_found.Goals as goal

pub returns : goal.returns
returns c = λ scope shares claims u passed vars w s t e v ground wordy is.
    let words = ground.stands.frame.words in
    let k = works scope shares claims u passed vars w ground.world e wordy v words is in
    record {
      as_operand = λ room. let f = operand_found scope shares claims u passed vars w ground.world e v s t is k ground.stands room in f.finds;
      in_register = λ d low room. k.into s d t ground.stands low room;
      as_test = λ room. tests scope shares claims u passed vars w ground.world words e v s t wordy is ground.stands room;
    }
