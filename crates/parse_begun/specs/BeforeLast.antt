-- The items before the last.
use Rattle.c_tree.specs.Tree.{Items, NoItem, AndDeclaration, AndStatement, AndRestriction, AndLabel}

abbrev pub before_last : {N : Type 0} → Items N → Items N
before_last NoItem = NoItem
before_last (AndDeclaration front declaration) = front
before_last (AndStatement front statement) = front
before_last (AndRestriction front pragma) = front
before_last (AndLabel front label) = front
