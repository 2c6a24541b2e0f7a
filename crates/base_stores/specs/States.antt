-- What each store and each sink is seen as.
use Rattle.std.specs.Prelude.{Some, string_bytes}
use Rattle.wcc_base.specs.Outside.{Files, StoreState, SinkState}
use Rattle.base_stores.specs.FileList.{told}
use Rattle.base_stores.specs.declared.calm.CalmStore.{CalmStore}
use Rattle.base_stores.specs.declared.calm.CalmSink.{CalmSink}
use Rattle.base_stores.specs.declared.failing.MemStore.{MemStore}
use Rattle.base_stores.specs.declared.failing.MemSink.{MemSink}

-- files in memory tell what they hold
abbrev pub calm_files : CalmStore → Files
calm_files s = told string_bytes (λ v. v.items) s.files.items

abbrev pub calm_store : CalmStore → StoreState
calm_store s = record { files = Some (calm_files s); read_faults = 0; write_faults = 0 }

abbrev pub mem_files : MemStore → Files
mem_files s = told string_bytes (λ v. v.items) s.files.items

abbrev pub mem_store : MemStore → StoreState
mem_store s = record { files = Some (mem_files s); read_faults = s.read_failures; write_faults = s.write_failures }

-- and so do sinks in memory
abbrev pub calm_sink : CalmSink → SinkState
calm_sink s = record { written = Some s.bytes.items; faults = 0 }

abbrev pub mem_sink : MemSink → SinkState
mem_sink s = record { written = Some s.bytes.items; faults = s.failures }
