-- A key as the program holds it.
use Rattle.cost_table.specs.declared.keys.Key.{Key as HeldKey}
use Rattle.cost_table.specs.Keys.{Key}

abbrev pub key_of : HeldKey → Key
key_of k = record { name = k.name.now; least = k.least; optional = k.optional }
