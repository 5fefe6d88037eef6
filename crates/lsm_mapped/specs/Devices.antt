-- What contracts see of a device over a mapping.
use Rattle.std.specs.Prelude.{List}
use Rattle.lsm_device.specs.Disk.{Disk}
use Rattle.lsm_device.specs.History.{IsHistory}
use Rattle.lsm_device.specs.Medium.{KeepsFuses, Medium}
use Rattle.lsm_mapped.specs.Disks.{after_records, lasting_of}
use Rattle.lsm_mapped.specs.Journals.{records_in}
use Rattle.lsm_mapped.specs.Records.{Record}
use Rattle.lsm_mapped.specs.Sound.{no_fuse, records_sound}
use Rattle.lsm_mapped.specs.declared.mapped.MappedDevice.{MappedDevice}

-- the records of its journal
abbrev pub records_on : MappedDevice → List Record
records_on d = records_in d.journal d.bytes.now

-- the disks that it had before
abbrev pub past_on : MappedDevice → List Disk
past_on d = d.past.disks

-- Its disks are those that it had before, and those that it has had once the records are made on it.
abbrev pub medium_on : MappedDevice → Medium
medium_on d = record { size = d.sectors; lasting = lasting_of d.bytes.ghost_name (past_on d); calls = d.calls; history = after_records (records_on d) (past_on d) }

pub history_on_sound : (d : MappedDevice) → IsHistory d.sectors (medium_on d).history
history_on_sound d = records_sound d.sectors (records_on d) (past_on d) d.within d.fills.laid.whole d.had.disks

pub fuses_on_kept : (d : MappedDevice) → KeepsFuses (medium_on d)
fuses_on_kept d = no_fuse d.sectors d.bytes.ghost_name d.calls (past_on d) (medium_on d).history
