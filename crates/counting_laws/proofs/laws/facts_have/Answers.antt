use Rattle.counting_laws.proofs.Having as having
use Rattle.counting_laws.proofs.laws.facts_have.Goals as goal

pub returns : goal.returns
returns c = λ names program ranks facts tree ranked h. having.facts_have names program ranks facts tree ranked h
