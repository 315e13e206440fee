-- The faults of a sheet. Assumes nothing.
use Rattle.reading.specs.declared.token.ReadError.{ReadError}
use Rattle.reading.specs.declared.token.ReadError.TheVariants as read
use Rattle.tally.specs.declared.fault.SheetFault.{SheetFault}
use Rattle.tally.specs.declared.fault.SheetFault.TheVariants.{TooLong, Reading, NoMemory}

abbrev pub as_sheet_fault : ReadError → SheetFault
as_sheet_fault (read.Fault fault) = Reading fault
as_sheet_fault read.TooLong = TooLong
as_sheet_fault read.NoMemory = NoMemory
