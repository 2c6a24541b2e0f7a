use Rattle.register_allocation.proofs.scan.Scan.choose.Goals as goal

pub returns-in-None : goal.returns-in-None
returns-in-None c code brief = c.instead.ensures code
