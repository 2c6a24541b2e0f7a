-- What a search without facts answers beside its certificate.
use Rattle.std.specs.Prelude.{◌≡◌}
use Rattle.code_flow_system.specs.declared.cert.Mark.{Mark}
use Rattle.code_flow_system.specs.declared.cert.Mark.TheVariants.{Greatest as MarkedGreatest, Empty as MarkedEmpty, Neither as NotMarked}
use Rattle.code_flow_answer.specs.declared.bounded.Kind.{Kind}
use Rattle.code_flow_answer.specs.declared.bounded.Kind.TheVariants.{Greatest, Empty, Wide, Spent}

-- the kind is Greatest or Empty, and the certificate says the same
abbrev pub IsMarked : Kind → Mark → Type 0
IsMarked Greatest mark = mark ≡ MarkedGreatest
IsMarked Empty mark = mark ≡ MarkedEmpty
IsMarked (Wide pivot) mark = ⊥
IsMarked (Spent columns pivots) mark = ⊥

-- the mark is one of these two
abbrev pub SaysOne : Mark → Type 0
SaysOne MarkedGreatest = Unit {0}
SaysOne MarkedEmpty = Unit {0}
SaysOne NotMarked = ⊥
