use Rattle.report_words.proofs.HexLemmas.{begins, hex_fits, hex_end}
use Rattle.report_words.proofs.numbers.address.Goals as goal

pub loop-byte-init : goal.loop-byte-init
loop-byte-init c = begins _ c.requires

pub extended_address-address-requires-clause-small :
    goal.extended_address-address-requires-clause-small
extended_address-address-requires-clause-small c = hex_fits _ _ _ c.loop-byte-test.true c.loop-byte.invariant

pub returns : goal.returns
returns c = hex_end _ _ _ c.loop-byte-test.false c.loop-byte.invariant
