use Rattle.simulation_loaded.proofs.LaidLemmas.{is_laid}
use Rattle.simulation_loaded.proofs.laws.layouts_are_laid.Goals as goal

pub returns : goal.returns
returns c = λ pl p formed sound keeps fits. is_laid pl p formed sound keeps fits
