use Rattle.report_lines.proofs.TermLemmas.{address_form}
use Rattle.report_lines.proofs.sums.term_address.Goals as goal

pub address-requires : goal.address-requires
address-requires c = rw c.split_at.ensures.back (address_form c.args.word.now c.requires)
