use Rattle.rv_core.proofs.Encoding.{decode_of-word_of}
use Rattle.rv_core.proofs.laws.decode_of_encode.Goals as goal

pub returns : goal.returns
returns c = decode_of-word_of c.args.instr.now c.fits_row.ensures
